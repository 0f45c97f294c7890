-- The words that the steps of a document name.
use Rattle.std.proofs.Common.{◌≡◌, ℕ, ◌+◌, List, [], ◌∷◌, ◌++◌, map, Bool, true, false, Option, Some, None, refl, sym}
use Rattle.std.proofs.Common.{subst, ◌∙◌, All}
use Rattle.std.specs.Prelude.{◌||◌}
use Rattle.std.proofs.lemmas.List.Folds.{list_any-append}
use Rattle.std.specs.List.{flat_map}
use Rattle.std.specs.Str.{bytes_eq}
use Rattle.std.proofs.lemmas.List.Elements.{All-nil, All-cons, All-append, All-map, All-weaker}
use Rattle.case_tables.specs.declared.word_table.Word.{Word}
use Rattle.unity_syntax.specs.declared.name.Name.{Name}
use Rattle.unity_syntax.specs.declared.name.Range.{Range}
use Rattle.unity_syntax.specs.declared.term.Inst.{Inst}
use Rattle.unity_syntax.specs.declared.term.Ref.{Ref as TextRef}
use Rattle.unity_syntax.specs.declared.term.Term.{Term}
use Rattle.unity_syntax.specs.declared.term.Term.TheOpen.{Term-F}
use Rattle.unity_syntax.specs.declared.proof.Param.{Param}
use Rattle.unity_syntax.specs.declared.proof.Rule.{Rule}
use Rattle.unity_syntax.specs.declared.proof.Step.{Step}
use Rattle.unity_syntax.specs.TwoFolds.{TermLayers}
use Rattle.unity_syntax.proofs.TermFolds.{two_terms}
use Rattle.core_terms.specs.declared.documents.Ref.{Ref}
use Rattle.core_terms.specs.declared.documents.CRule.{CRule}
use Rattle.core_terms.specs.declared.documents.PTerm.{PTerm}
use Rattle.core_terms.specs.declared.documents.PTerm.TheVariants.{Imply, From, Trans, Either, Exists, Induct, Psp}
use Rattle.core_terms.specs.declared.documents.PTerm.TheVariants.{Weaken}
use Rattle.core_terms.specs.Conditions.{IsWord, RefWords, RuleWords, StepWords, refs_step, term_refs, rule_refs}
use Rattle.names_rules.specs.Declarations.{some_of}
use Rattle.expand_declarations.specs.Texts.{Texts, ref_texts, step_text, helper_texts, term_layer as text_layer}
use Rattle.expand_declarations.specs.Texts.{term_texts}
use Rattle.expand_declarations.specs.Texts.{rule_texts, step_texts, document_texts}
use Rattle.expand_declarations.specs.WordNumbers.{document_words, with_texts, word_number}
use Rattle.expand_declarations.specs.References.{text_rule, pair_rule, ref_program, ref_step, names_layer, term_names}
use Rattle.expand_declarations.specs.References.{rule_names}
use Rattle.expand_declarations.proofs.PairRules.{of_pair_rule}
use Rattle.expand_rules.specs.Forming.{Scope}
use Rattle.expand_correct.specs.from_expand_steps.ProofTerms.{Place, Terming, term_layer, termed, pair_term, ref_in}
use Rattle.expand_correct.specs.from_expand_steps.ProofTerms.{with_bound_name}
use Rattle.expand_correct.specs.from_expand_steps.Steps.{step_place, core_rule, core_step, core_proof}
use Rattle.meaning_documents.specs.Steps.{proofs_among}
use Rattle.expand_correct.specs.Declared.WordLaws.{is_among}
use Rattle.expand_correct.proofs.Declared.Found.{or_right}
use Rattle.expand_correct.specs.from_expand_documents.Cores.{document_scope}
use Rattle.expand_fits_parts.specs.Conditions.StepConditions.{StepsHaveWords}
use Rattle.expand_fits_parts.proofs.Conditions.Programs.{is_word, itself, each_has, last_has}
use Rattle.expand_fits_parts.proofs.Conditions.Proofs.{all_proofs, HasProof, HasStep, proof_steps, document_proofs}
use Rattle.expand_fits_parts.proofs.Conditions.Terms.{at-Imply, at-From, at-Trans, at-Either, at-Exists, at-Induct}
use Rattle.expand_fits_parts.proofs.Conditions.Terms.{at-Psp}
use Rattle.expand_fits_parts.proofs.Conditions.Terms.{at-Weaken}

-- texts among others

abbrev Within : Texts → Texts → Type 0
Within ts us = (t : List ℕ) → is_among ts t ≡ true → is_among us t ≡ true

within_left : (xs ys us : Texts) → Within (xs ++ ys) us → Within xs us
within_left xs ys us h t k = h t (each_has t xs ys k)

within_right : (xs ys us : Texts) → Within (xs ++ ys) us → Within ys us
within_right xs ys us h t k = h t (last_has t xs ys k)

within_rest : (x : List ℕ) (xs us : Texts) → Within (x ∷ xs) us → Within xs us
within_rest x xs us h t k = h t (or_right (bytes_eq t x) (is_among xs t) k)

within_first : (x : List ℕ) (xs us : Texts) → Within (x ∷ xs) us → is_among us x ≡ true
within_first x xs us h = h x (itself x xs)

each_within : (ts us : Texts) → Within ts us → All (λ t. is_among us t ≡ true) ts
each_within [] us h = All-nil (λ t. is_among us t ≡ true)
each_within (x ∷ xs) us h = All-cons (λ t. is_among us t ≡ true) x xs (within_first x xs us h)
    (each_within xs us (within_rest x xs us h))

-- the names that a term binds are among its texts

keeps_first : (b c d : Bool) → (c ≡ true → d ≡ true) → (b || c) ≡ true → (b || d) ≡ true
keeps_first true c d h k = refl
keeps_first false c d h k = h k

bound_layer : TermLayers Within names_layer text_layer
bound_layer (Term-F.Imply at p q) t k = k
bound_layer (Term-F.From at of) t k = cc k
bound_layer (Term-F.Pair at which first second) t k =
    either (is_among first.0 t) (is_among second.0 t)
    (λ l. each_has t first.1 second.1 (first.2 t l)) (λ l. last_has t first.1 second.1 (second.2 t l))
    (sym (list_any-append (bytes_eq t) first.0 second.0) ∙ k)
  where
    either : (b c : Bool) → (b ≡ true → is_among (first.1 ++ second.1) t ≡ true) →
        (c ≡ true → is_among (first.1 ++ second.1) t ≡ true) → (b || c) ≡ true →
        is_among (first.1 ++ second.1) t ≡ true
    either true c f g l = f refl
    either false c f g l = g l
bound_layer (Term-F.Exists at name range of) t k =
    keeps_first (bytes_eq t name.text) (is_among of.0 t) (is_among of.1 t) (of.2 t) k
bound_layer (Term-F.Induct at name range measure p q of) t k =
    keeps_first (bytes_eq t name.text) (is_among of.0 t) (is_among of.1 t) (of.2 t) k
bound_layer (Term-F.Psp at of by) t k = each_has t of.1 (ref_texts by) (of.2 t k)
bound_layer (Term-F.Weaken at p q of) t k = of.2 t k

bound_within : (t : Term) → Within (term_names t) (term_texts t)
bound_within t = two_terms Within names_layer text_layer bound_layer t

rule_within : (rule : Rule) → Within (rule_names rule) (rule_texts rule)
rule_within (Rule.Text at with) t k = cc k
rule_within (Rule.Weaken at of) t k = cc k
rule_within (Rule.Pair at which first second) t k = cc k
rule_within (Rule.Superpose at of) t k = cc k
rule_within (Rule.Complete at first second third fourth) t k = cc k
rule_within (Rule.Term at of) t k = bound_within of t k

-- references

module _ (texts : Texts) where
  abbrev words : Texts
  words = with_texts [] texts

  -- a place whose words are these, in the proof of a program among them
  record Stands (c : Place) : Type 0 where
    pub words_are : c.words ≡ words
    pub owner_is : is_among texts c.owner ≡ true

  word_here : (c : Place) → Stands c → (t : List ℕ) → is_among texts t ≡ true → IsWord words (word_number c.words t)
  word_here c h t k = subst (λ (ws : Texts). IsWord words (word_number ws t)) (sym h.words_are) (is_word texts t k)

  program_among : (owner : List ℕ) → is_among texts owner ≡ true → (name : Name) (o : Option Name) →
      Within (name.text ∷ step_text o) texts → is_among texts (ref_program owner name o) ≡ true
  program_among owner k name None h = k
  program_among owner k name (Some step) h = within_first name.text (step.text ∷ []) texts h

  step_among : (name : Name) (o : Option Name) → Within (name.text ∷ step_text o) texts →
      is_among texts (ref_step name o) ≡ true
  step_among name None h = within_first name.text [] texts h
  step_among name (Some step) h = within_first step.text [] texts (within_rest name.text (step.text ∷ []) texts h)

  ref_words : (c : Place) → Stands c → (r : TextRef) → Within (ref_texts r) texts → RefWords words (ref_in c r)
  ref_words c k r h = record {
    program = word_here c k (ref_program c.owner r.name r.step) (program_among c.owner k.owner_is r.name r.step h);
    step = word_here c k (ref_step r.name r.step) (step_among r.name r.step h);
  }

  abbrev Words : List Ref → Type 0
  Words rs = All (RefWords words) rs

  one_word : (c : Place) → Stands c → (r : TextRef) → Within (ref_texts r) texts → Words (ref_in c r ∷ [])
  one_word c k r h = All-cons (RefWords words) (ref_in c r) [] (ref_words c k r h) (All-nil (RefWords words))

  words_as : (t : PTerm) (rs : List Ref) → term_refs t ≡ rs → Words rs → Words (term_refs t)
  words_as t rs e h = subst (λ (xs : List Ref). Words xs) (sym e) h

  both_words : (which : Word) (t u : PTerm) → Words (term_refs t) → Words (term_refs u) →
      Words (term_refs (pair_term which t u))
  both_words which t u h k =
      let all = All-append (RefWords words) (term_refs t) (term_refs u) h k in
      by which (words_as (Either t u) _ (at-Either (List Ref) refs_step t u) all)
      (words_as (Trans t u) _ (at-Trans (List Ref) refs_step t u) all)
    where
      by : (w : Word) → Words (term_refs (Either t u)) → Words (term_refs (Trans t u)) →
          Words (term_refs (pair_term w t u))
      by Word.Either e f = e
      by _ e f = f

  -- the references of a term with these texts name words
  abbrev Named : Terming → Texts → Type 0
  Named m ts = Within ts texts → (c : Place) → Stands c → (n : ℕ) → Words (term_refs (m c n).core)

  inside : (c : Place) (name : List ℕ) (n : ℕ) (range : Range) → Stands c → Stands (with_bound_name c name n range)
  inside c name n range h = record { words_are = h.words_are; owner_is = h.owner_is }

  layer : TermLayers Named term_layer text_layer
  layer (Term-F.Imply at p q) h c k n =
      words_as (Imply _ _) [] (at-Imply (List Ref) refs_step _ _) (All-nil (RefWords words))
  layer (Term-F.From at of) h c k n =
      words_as (From (ref_in c of)) _ (at-From (List Ref) refs_step (ref_in c of)) (one_word c k of h)
  layer (Term-F.Pair at which first second) h c k n =
      let t = first.0 c n in let u = second.0 c t.next in
      both_words which t.core u.core (first.2 (within_left first.1 second.1 texts h) c k n)
      (second.2 (within_right first.1 second.1 texts h) c k t.next)
  layer (Term-F.Exists at name range of) h c k n =
      let inner = of.0 (with_bound_name c name.text n range) (n + 1) in
      words_as (Exists n _ inner.core) _ (at-Exists (List Ref) refs_step n _ inner.core)
      (of.2 (within_rest name.text of.1 texts h) (with_bound_name c name.text n range) (inside c name.text n range k)
      (n + 1))
  layer (Term-F.Induct at name range measure p q of) h c k n =
      let inner = of.0 (with_bound_name c name.text n range) (n + 1) in
      words_as (Induct n _ _ _ _ inner.core) _ (at-Induct (List Ref) refs_step n _ _ _ _ inner.core)
      (of.2 (within_rest name.text of.1 texts h) (with_bound_name c name.text n range) (inside c name.text n range k)
      (n + 1))
  layer (Term-F.Psp at of by) h c k n =
      let inner = of.0 c n in
      words_as (Psp inner.core (ref_in c by)) _ (at-Psp (List Ref) refs_step inner.core (ref_in c by))
      (All-append (RefWords words) (term_refs inner.core) (ref_in c by ∷ [])
      (of.2 (within_left of.1 (ref_texts by) texts h) c k n)
      (one_word c k by (within_right of.1 (ref_texts by) texts h)))
  layer (Term-F.Weaken at p q of) h c k n =
      let inner = of.0 c n in
      words_as (Weaken _ _ inner.core) _ (at-Weaken (List Ref) refs_step _ _ inner.core) (of.2 h c k n)

  named : (t : Term) → Named (termed t) (term_texts t)
  named t = two_terms Named term_layer text_layer layer t

  -- rules

  record Says (rule : CRule) : Type 0 where
    pub label : RuleWords words rule
    pub refs : Words (rule_refs rule)

  pair_says : (which : Word) (r s : Ref) → Words (r ∷ s ∷ []) → Says (pair_rule which r s)
  pair_says which r s h = of_pair_rule Says which r s
      (λ name. record { label = tt; refs = h })
      (record { label = tt; refs = h })

  text_says : (c : Place) → Stands c → (with : Option Inst) → Within (helper_texts with) texts →
      Says (text_rule c.words c.bounds c.params with)
  text_says c k None h = record { label = tt; refs = All-nil (RefWords words) }
  text_says c k (Some helper) h = record {
    label = word_here c k helper.label.text (within_first helper.label.text [] texts h);
    refs = All-nil (RefWords words);
  }

  -- two references, before others
  two_words : (c : Place) → Stands c → (r s : TextRef) (more : List Ref) → Within (ref_texts r ++ ref_texts s) texts →
      Words more → Words (ref_in c r ∷ ref_in c s ∷ more)
  two_words c k r s more h rest = All-cons (RefWords words) (ref_in c r) (ref_in c s ∷ more)
      (ref_words c k r (within_left (ref_texts r) (ref_texts s) texts h))
      (All-cons (RefWords words) (ref_in c s) more
      (ref_words c k s (within_right (ref_texts r) (ref_texts s) texts h)) rest)

  rule_says : (c : Place) → Stands c → (rule : Rule) → Within (rule_texts rule) texts → Says (core_rule c rule)
  rule_says c k (Rule.Text at with) h = text_says c k with h
  rule_says c k (Rule.Weaken at of) h = record { label = tt; refs = one_word c k of h }
  rule_says c k (Rule.Pair at which first second) h =
      pair_says which (ref_in c first) (ref_in c second)
      (two_words c k first second [] h (All-nil (RefWords words)))
  rule_says c k (Rule.Superpose at of) h = record { label = tt; refs = one_word c k of h }
  rule_says c k (Rule.Complete at first second third fourth) h =
      let begin = ref_texts first ++ ref_texts second in
      let end = ref_texts third ++ ref_texts fourth in record {
        label = tt;
        refs = two_words c k first second (ref_in c third ∷ ref_in c fourth ∷ []) (within_left begin end texts h)
            (two_words c k third fourth [] (within_right begin end texts h) (All-nil (RefWords words)));
      }
  rule_says c k (Rule.Term at of) h = record { label = tt; refs = named of h c k _ }

  -- steps

  all_refs : (c : Place) → Stands c → (rs : List TextRef) → Within (flat_map ref_texts rs) texts →
      Words (map (ref_in c) rs)
  all_refs c k [] h = All-nil (RefWords words)
  all_refs c k (r ∷ rs) h = All-cons (RefWords words) (ref_in c r) (map (ref_in c) rs)
      (ref_words c k r (within_left (ref_texts r) (flat_map ref_texts rs) texts h))
      (all_refs c k rs (within_right (ref_texts r) (flat_map ref_texts rs) texts h))

  step_words : (owner : List ℕ) → is_among texts owner ≡ true → (s : Scope) (step : Step) → HasStep texts step →
      StepWords words (core_step words owner s step)
  step_words owner k s step has =
      let c = step_place words owner s step in
      let here : Stands c = record { words_are = refl; owner_is = k } in
      let own = map (λ (p : Param). p.name.text) (some_of step.params) in
      let refs = flat_map ref_texts (some_of step.using) in
      let after = within_rest step.name.text (own ++ (rule_texts step.rule ++ refs)) texts has in
      let rest = within_right own (rule_texts step.rule ++ refs) texts after in
      let of_rule = within_left (rule_texts step.rule) refs texts rest in
      let says = rule_says c here step.rule of_rule in
      record {
        name = is_word texts step.name.text (within_first step.name.text _ texts has);
        params = All-map (IsWord words) (word_number words) (own ++ rule_names step.rule)
            (All-weaker (λ t. is_among texts t ≡ true) (λ t. IsWord words (word_number words t))
            (λ t h. is_word texts t h) (own ++ rule_names step.rule)
            (All-append (λ t. is_among texts t ≡ true) own (rule_names step.rule)
            (each_within own texts (within_left own (rule_texts step.rule ++ refs) texts after))
            (each_within (rule_names step.rule) texts (λ t h. of_rule t (rule_within step.rule t h)))));
        rule = says.label;
        refs = says.refs;
        using = all_refs c here (some_of step.using) (within_right (rule_texts step.rule) refs texts rest);
      }

pub steps_have_words : StepsHaveWords
steps_have_words d =
    let texts = document_texts d in let words = document_words d in let s = document_scope d.parts in
    all_proofs (λ p. All (StepWords words) p.steps) words s d.parts
    (All-weaker (HasProof texts) (λ p. All (StepWords words) (core_proof words s p).steps)
    (λ p k. All-map (StepWords words) (core_step words p.program.text s) p.steps
    (All-weaker (HasStep texts) (λ t. StepWords words (core_step words p.program.text s t))
    (λ t l. step_words texts p.program.text (k p.program.text (itself p.program.text (flat_map step_texts p.steps)))
    s t l) p.steps (proof_steps texts p k)))
    (proofs_among d.parts) (document_proofs d))
