-- The names that proof terms bind, by their numbers.
use Rattle.std.proofs.Common.{◌≡◌, ℕ, suc, ◌+◌, List, [], ◌∷◌, ◌++◌, map, length, length-append, Bool, true, false}
use Rattle.std.proofs.Common.{cond}
use Rattle.std.proofs.Common.{nat_eq, Option, Some, None, refl, sym, ap, ◌∙◌, arith, All}
use Rattle.std.specs.Option.{option_and_then}
use Rattle.std.proofs.lemmas.List.Elements.{All-map, All-weaker}
use borrow.Author.Tests.{eqb-false}
use Rattle.case_tables.specs.declared.word_table.Word.{Word}
use Rattle.unity_syntax.specs.declared.term.Inst.{Inst}
use Rattle.unity_syntax.specs.declared.term.Term.{Term}
use Rattle.unity_syntax.specs.declared.term.Term.TheOpen.{Term-F}
use Rattle.unity_syntax.specs.declared.proof.Param.{Param}
use Rattle.unity_syntax.specs.declared.proof.Rule.{Rule}
use Rattle.unity_syntax.specs.declared.proof.Step.{Step}
use Rattle.unity_syntax.specs.TwoFolds.{TermLayers}
use Rattle.unity_syntax.proofs.TermFolds.{two_terms}
use Rattle.core_terms.specs.declared.trees.Range.{Range}
use Rattle.core_terms.specs.declared.trees.CForm.{CForm}
use Rattle.core_terms.specs.declared.trees.CTerm.{CTerm}
use Rattle.core_terms.specs.declared.documents.Ref.{Ref}
use Rattle.core_terms.specs.declared.documents.PTerm.{PTerm, fold-PTerm, fold-roll-PTerm}
use Rattle.core_terms.specs.declared.documents.PTerm.TheOpen.{PTerm-F}
use Rattle.core_terms.specs.declared.documents.PTerm.TheVariants.{Imply, From, Trans, Either, Exists, Induct, Psp}
use Rattle.core_terms.specs.declared.documents.PTerm.TheVariants.{Weaken, rolls-Imply, rolls-From, rolls-Trans}
use Rattle.core_terms.specs.declared.documents.PTerm.TheVariants.{rolls-Either, rolls-Exists, rolls-Induct, rolls-Psp}
use Rattle.core_terms.specs.declared.documents.PTerm.TheVariants.{rolls-Weaken}
use Rattle.core_terms.specs.Conditions.{numbered_step, ranges_step, bound_ranges, rule_ranges}
use Rattle.names_rules.specs.Declarations.{some_of}
use Rattle.expand_declarations.specs.Texts.{Texts}
use Rattle.expand_declarations.specs.WordNumbers.{document_words, word_number}
use Rattle.expand_declarations.specs.References.{param_range, names_layer, term_names, rule_names}
use Rattle.expand_declarations.specs.References.{text_rule}
use Rattle.expand_declarations.proofs.PairRules.{of_pair_rule}
use Rattle.expand_rules.specs.Forming.{Scope}
use Rattle.expand_correct.specs.from_expand_steps.ProofTerms.{Place, Terming, pair_term, term_layer, termed, ref_in}
use Rattle.expand_correct.specs.from_expand_steps.ProofTerms.{with_bound_name}
use Rattle.expand_correct.specs.from_expand_steps.Steps.{step_place, core_rule, core_step, core_proof}
use Rattle.meaning_documents.specs.Steps.{proofs_among}
use Rattle.expand_correct.specs.from_expand_documents.Cores.{document_scope}
use Rattle.expand_fits_parts.specs.Conditions.TermConditions.{ParametersNamed}
use Rattle.expand_fits_parts.proofs.Conditions.Proofs.{all_proofs}

-- a fold of each kind of term

module _ (A : Type 0) (f : PTerm-F A → A) where
  abbrev of : PTerm → A
  of = fold-PTerm A f

  pub at-Imply : (p q : CForm) → of (Imply p q) ≡ f (PTerm-F.Imply p q)
  at-Imply p q = ap of (sym (rolls-Imply p q)) ∙ fold-roll-PTerm A f (PTerm-F.Imply p q)

  pub at-From : (r : Ref) → of (From r) ≡ f (PTerm-F.From r)
  at-From r = ap of (sym (rolls-From r)) ∙ fold-roll-PTerm A f (PTerm-F.From r)

  pub at-Trans : (t u : PTerm) → of (Trans t u) ≡ f (PTerm-F.Trans (of t) (of u))
  at-Trans t u = ap of (sym (rolls-Trans t u)) ∙ fold-roll-PTerm A f (PTerm-F.Trans t u)

  pub at-Either : (t u : PTerm) → of (Either t u) ≡ f (PTerm-F.Either (of t) (of u))
  at-Either t u = ap of (sym (rolls-Either t u)) ∙ fold-roll-PTerm A f (PTerm-F.Either t u)

  pub at-Exists : (n : ℕ) (r : Range) (t : PTerm) → of (Exists n r t) ≡ f (PTerm-F.Exists n r (of t))
  at-Exists n r t = ap of (sym (rolls-Exists n r t)) ∙ fold-roll-PTerm A f (PTerm-F.Exists n r t)

  pub at-Induct : (n : ℕ) (r : Range) (m : CTerm) (p q : CForm) (t : PTerm) →
      of (Induct n r m p q t) ≡ f (PTerm-F.Induct n r m p q (of t))
  at-Induct n r m p q t = ap of (sym (rolls-Induct n r m p q t)) ∙ fold-roll-PTerm A f (PTerm-F.Induct n r m p q t)

  pub at-Psp : (t : PTerm) (r : Ref) → of (Psp t r) ≡ f (PTerm-F.Psp (of t) r)
  at-Psp t r = ap of (sym (rolls-Psp t r)) ∙ fold-roll-PTerm A f (PTerm-F.Psp t r)

  pub at-Weaken : (p q : CForm) (t : PTerm) → of (Weaken p q t) ≡ f (PTerm-F.Weaken p q (of t))
  at-Weaken p q t = ap of (sym (rolls-Weaken p q t)) ∙ fold-roll-PTerm A f (PTerm-F.Weaken p q t)

-- numbers

abbrev Numbering : Type 0
Numbering = ℕ → Option ℕ

abbrev numbered : PTerm → Numbering
numbered = fold-PTerm Numbering numbered_step

-- a term that binds as many names as these, which have the numbers from this one on
pub record IsCounted (t : PTerm) (next : ℕ) (ts : Texts) (n : ℕ) : Type 0 where
  pub names : length (bound_ranges t) ≡ length ts
  pub numbers : numbered t n ≡ Some next

pub number_same : (n : ℕ) → nat_eq n n ≡ true
number_same n = by (nat_eq n n) refl
  where
    by : (b : Bool) → nat_eq n n ≡ b → b ≡ true
    by true h = refl
    by false h = absurd (eqb-false n n h refl)

bound : (n : ℕ) (m : Numbering) (r : ℕ) → m (n + 1) ≡ Some r → cond (nat_eq n n) (m (n + 1)) None ≡ Some r
bound n m r h = ap (λ b. cond b (m (n + 1)) None) (number_same n) ∙ h

both_counted : (which : Word) (t u : PTerm) (ts us : Texts) (n m r : ℕ) → IsCounted t m ts n → IsCounted u r us m →
    IsCounted (pair_term which t u) r (ts ++ us) n
both_counted which t u ts us n m r h k =
    let lengths = length-append (bound_ranges t) (bound_ranges u) in
    let texts = length-append ts us in
    let one = h.names in let two = k.names in
    let all : length (bound_ranges t ++ bound_ranges u) ≡ length (ts ++ us) = omega arith in
    let steps : option_and_then (numbered u) (numbered t n) ≡ Some r =
    ap (option_and_then (numbered u)) h.numbers ∙ k.numbers in
    by which
    (record {
      names = ap length (at-Either (List Range) ranges_step t u) ∙ all;
      numbers = ap (λ (g : Numbering). g n) (at-Either Numbering numbered_step t u) ∙ steps;
    })
    (record {
      names = ap length (at-Trans (List Range) ranges_step t u) ∙ all;
      numbers = ap (λ (g : Numbering). g n) (at-Trans Numbering numbered_step t u) ∙ steps;
    })
  where
    by : (w : Word) → IsCounted (Either t u) r (ts ++ us) n → IsCounted (Trans t u) r (ts ++ us) n →
        IsCounted (pair_term w t u) r (ts ++ us) n
    by Word.Either e f = e
    by _ e f = f

abbrev Counts : Terming → Texts → Type 0
Counts m ts = (c : Place) (n : ℕ) → IsCounted (m c n).core (m c n).next ts n

layer : TermLayers Counts term_layer names_layer
layer (Term-F.Imply at p q) c n = record {
  names = ap length (at-Imply (List Range) ranges_step _ _);
  numbers = ap (λ (g : Numbering). g n) (at-Imply Numbering numbered_step _ _);
}
layer (Term-F.From at of) c n = record {
  names = ap length (at-From (List Range) ranges_step _);
  numbers = ap (λ (g : Numbering). g n) (at-From Numbering numbered_step _);
}
layer (Term-F.Pair at which first second) c n =
    let t = first.0 c n in let u = second.0 c t.next in
    both_counted which t.core u.core first.1 second.1 n t.next u.next (first.2 c n) (second.2 c t.next)
layer (Term-F.Exists at name range of) c n =
    let inner = of.0 (with_bound_name c name.text n range) (n + 1) in
    let k = of.2 (with_bound_name c name.text n range) (n + 1) in record {
      names = ap length (at-Exists (List Range) ranges_step n _ inner.core) ∙ ap suc k.names;
      numbers = ap (λ (g : Numbering). g n) (at-Exists Numbering numbered_step n _ inner.core)
          ∙ bound n (numbered inner.core) inner.next k.numbers;
    }
layer (Term-F.Induct at name range measure p q of) c n =
    let inner = of.0 (with_bound_name c name.text n range) (n + 1) in
    let k = of.2 (with_bound_name c name.text n range) (n + 1) in record {
      names = ap length (at-Induct (List Range) ranges_step n _ _ _ _ inner.core) ∙ ap suc k.names;
      numbers = ap (λ (g : Numbering). g n) (at-Induct Numbering numbered_step n _ _ _ _ inner.core)
          ∙ bound n (numbered inner.core) inner.next k.numbers;
    }
layer (Term-F.Psp at of by) c n =
    let inner = of.0 c n in let k = of.2 c n in record {
      names = ap length (at-Psp (List Range) ranges_step inner.core _) ∙ k.names;
      numbers = ap (λ (g : Numbering). g n) (at-Psp Numbering numbered_step inner.core _) ∙ k.numbers;
    }
layer (Term-F.Weaken at p q of) c n =
    let inner = of.0 c n in let k = of.2 c n in record {
      names = ap length (at-Weaken (List Range) ranges_step _ _ inner.core) ∙ k.names;
      numbers = ap (λ (g : Numbering). g n) (at-Weaken Numbering numbered_step _ _ inner.core) ∙ k.numbers;
    }

-- a term binds as many names as it has, with the numbers from one on
pub counted : (t : Term) → Counts (termed t) (term_names t)
counted t = two_terms Counts term_layer names_layer layer t

-- rules

text_ranges : (c : Place) (with : Option Inst) → length (rule_ranges (text_rule c.words c.bounds c.params with)) ≡ 0
text_ranges c None = refl
text_ranges c (Some helper) = refl

rule_named : (c : Place) (rule : Rule) → length (rule_ranges (core_rule c rule)) ≡ length (rule_names rule)
rule_named c (Rule.Text at with) = text_ranges c with
rule_named c (Rule.Weaken at of) = refl
rule_named c (Rule.Pair at which first second) =
    of_pair_rule (λ rule. length (rule_ranges rule) ≡ 0) which (ref_in c first) (ref_in c second) (λ name. refl) refl
rule_named c (Rule.Superpose at of) = refl
rule_named c (Rule.Complete at first second third fourth) = refl
rule_named c (Rule.Term at of) = (counted of c (length c.params)).names

length_mapped : {X Y : Type 0} (f : X → Y) (xs : List X) → length (map f xs) ≡ length xs
length_mapped f [] = refl
length_mapped f (x ∷ xs) = ap suc (length_mapped f xs)

step_named : (words : Texts) (owner : List ℕ) (s : Scope) (step : Step) →
    let c = core_step words owner s step in length c.param_names ≡ length c.params + length (rule_ranges c.rule)
step_named words owner s step =
    let ps = some_of step.params in
    let own = map (λ (p : Param). p.name.text) ps in
    let all = length_mapped (word_number words) (own ++ rule_names step.rule) in
    let both = length-append own (rule_names step.rule) in
    let names = length_mapped (λ (p : Param). p.name.text) ps in
    let ranges = length_mapped param_range ps in
    let rule = rule_named (step_place words owner s step) step.rule in omega arith

all_of : {X : Type 0} (P : X → Type 0) (f : (x : X) → P x) (xs : List X) → All P xs
all_of P f xs = All-weaker (λ x. Unit {0}) P (λ x h. f x) xs (λ k v below. tt)

pub parameters_named : ParametersNamed
parameters_named d =
    let words = document_words d in let s = document_scope d.parts in
    all_proofs (λ p. All (λ c. length c.param_names ≡ length c.params + length (rule_ranges c.rule)) p.steps) words s
    d.parts (all_of (λ p. All (λ c. length c.param_names ≡ length c.params + length (rule_ranges c.rule))
    (core_proof words s p).steps)
    (λ p. All-map (λ c. length c.param_names ≡ length c.params + length (rule_ranges c.rule))
    (core_step words p.program.text s) p.steps
    (all_of (λ t. let c = core_step words p.program.text s t in
    length c.param_names ≡ length c.params + length (rule_ranges c.rule))
    (step_named words p.program.text s) p.steps)) (proofs_among d.parts))
