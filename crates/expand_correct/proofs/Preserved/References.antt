-- References in core form have the arguments that they have in the document.
use Rattle.std.proofs.Common.{◌≡◌, ℕ, ◌+◌, ℤ, pos, ◌+ℤ◌, ◌-ℤ◌, List, [], ◌∷◌, ◌++◌, map, length, Bool, true, false}
use Rattle.std.proofs.Common.{cond, Option, Some, None, option_map, refl, sym, ap, ◌∙◌, arith}
use Rattle.std.specs.Prelude.{fold, if◌then◌else◌}
use Rattle.std.specs.Map.{lookup}
use Rattle.std.specs.Option.{option_or, option_and_then}
use Rattle.std.specs.Str.{bytes_eq}
use Rattle.std.proofs.lemmas.List.{length-map}
use Rattle.std.proofs.lemmas.Int.{ints}
use Rattle.indexmap.specs.IndexMap.{insert_entry}
use Rattle.case_tables.specs.declared.symbol_table.Symbol.{Symbol}
use Rattle.case_tables.specs.declared.word_table.Word.{Word}
use Rattle.unity_syntax.specs.declared.name.End.{End}
use Rattle.unity_syntax.specs.declared.term.Inst.{Inst}
use Rattle.unity_syntax.specs.declared.term.Ref.{Ref as TextRef}
use Rattle.unity_syntax.specs.declared.term.Term.{Term}
use Rattle.unity_syntax.specs.declared.term.Term.TheOpen.{Term-F}
use Rattle.unity_syntax.specs.declared.proof.Param.{Param}
use Rattle.unity_syntax.specs.declared.proof.Rule.{Rule}
use Rattle.unity_syntax.specs.TwoFolds.{TermLayers}
use Rattle.unity_syntax.proofs.TermFolds.{two_terms}
use Rattle.meaning_documents.specs.Names.{Bindings, number_of}
use Rattle.meaning_documents.specs.Value.{plus, with_offset}
use Rattle.names_rules.specs.Scope.{Bounds, Params}
use Rattle.names_rules.specs.declared.named.Meaning.{Meaning}
use Rattle.names_rules.specs.Declarations.{some_of}
use Rattle.names_rules.specs.WellNamed.{param_number}
use Rattle.core_terms.specs.declared.documents.Ref.{Ref}
use Rattle.core_terms.specs.declared.documents.PTerm.{PTerm, roll-PTerm, fold-roll-PTerm}
use Rattle.core_terms.specs.declared.documents.PTerm.TheOpen.{PTerm-F}
use Rattle.core_terms.specs.declared.documents.PTerm.TheFolds.{map-PTerm}
use Rattle.core_terms.specs.declared.documents.PTerm.TheVariants.{Imply, From, Trans, Either, Exists, Induct, Psp}
use Rattle.core_terms.specs.declared.documents.PTerm.TheVariants.{Weaken, rolls-Imply, rolls-From, rolls-Trans}
use Rattle.core_terms.specs.declared.documents.PTerm.TheVariants.{rolls-Either, rolls-Exists, rolls-Induct, rolls-Psp}
use Rattle.core_terms.specs.declared.documents.PTerm.TheVariants.{rolls-Weaken}
use Rattle.core_terms.specs.Values.{number_at}
use Rattle.expand_declarations.specs.Texts.{Texts}
use Rattle.expand_declarations.specs.WordNumbers.{document_words}
use Rattle.expand_rules.specs.declared.cores.Bound.{Bound}
use Rattle.expand_rules.specs.Forming.{Scope}
use Rattle.expand_correct.specs.Values.Worth.{bound_value, values_of}
use Rattle.expand_rules.specs.Documents.{within}
use Rattle.expand_declarations.specs.References.{with_param, step_params, param_named, word_arg, core_arg}
use Rattle.expand_declarations.specs.References.{core_ref, core_helper, pair_rule, text_rule}
use Rattle.expand_declarations.proofs.PairRules.{of_pair_rule}
use Rattle.expand_documents.specs.from_expand_steps.ProofTerms.{Place, Terming, term_layer, termed, pair_term}
use Rattle.expand_documents.specs.from_expand_steps.ProofTerms.{param_bound}
use Rattle.expand_documents.specs.from_expand_steps.Steps.{with_param_bound, param_bounds, step_place, core_rule}
use Rattle.expand_documents.specs.Cores.{document_scope}
use Rattle.expand_correct.specs.Preserved.References.{Referred, Referring, arg_number, core_referred}
use Rattle.expand_correct.specs.Preserved.References.{core_referred_layer, core_references, rule_references, end_number}
use Rattle.expand_correct.specs.Preserved.References.{source_referred, referred_layer, term_references}
use Rattle.expand_correct.specs.Preserved.References.{source_references}
use Rattle.expand_correct.specs.Preserved.References.{UsingRefers, RulesRefer, HelpersRefer}

-- offsets

minus_after : (z k : ℤ) → z +ℤ (pos 0 -ℤ k) ≡ z -ℤ k
minus_after z k = omega (arith, ints)

plus_after : (z k : ℤ) → z +ℤ (pos 0 +ℤ k) ≡ z +ℤ k
plus_after z k = omega (arith, ints)

none_after : (z : ℤ) → z +ℤ pos 0 ≡ z
none_after z = omega (arith, ints)

sign_after : (z : ℤ) (s : Symbol) (k : ℤ) → z +ℤ plus (pos 0) s k ≡ plus z s k
sign_after z Symbol.Minus k = minus_after z k
sign_after z _ k = plus_after z k

offset_after : (z : ℤ) (o : Option (Symbol × ℕ)) → z +ℤ with_offset (pos 0) o ≡ with_offset z o
offset_after z None = none_after z
offset_after z (Some o) = sign_after z o.0 (pos o.1)

-- tables whose entries have numbers

module _ (zs : List ℤ) where
  abbrev numbered : Params → Bindings
  numbered params = map (λ p. (p.0, number_at zs p.1)) params

  values_entered : (bs : List (List ℕ × Bound)) (name : List ℕ) (b : Bound) →
      values_of zs (insert_entry bytes_eq bs name b) ≡ insert_entry bytes_eq (values_of zs bs) name (bound_value zs b)
  values_entered [] name b = refl
  values_entered (e ∷ es) name b = by (bytes_eq name e.0) (values_entered es name b)
    where
      by : (t : Bool) → values_of zs (insert_entry bytes_eq es name b)
          ≡ insert_entry bytes_eq (values_of zs es) name (bound_value zs b) →
          values_of zs (if t then (e.0, b) ∷ es else e ∷ insert_entry bytes_eq es name b)
          ≡ (if t then (e.0, bound_value zs b) ∷ values_of zs es
          else (e.0, bound_value zs e.1) ∷ insert_entry bytes_eq (values_of zs es) name (bound_value zs b))
      by true rest = refl
      by false rest = ap (λ xs. (e.0, bound_value zs e.1) ∷ xs) rest

  numbers_entered : (ps : Params) (name : List ℕ) (n : ℕ) →
      numbered (insert_entry bytes_eq ps name n) ≡ insert_entry bytes_eq (numbered ps) name (number_at zs n)
  numbers_entered [] name n = refl
  numbers_entered (e ∷ es) name n = by (bytes_eq name e.0) (numbers_entered es name n)
    where
      by : (t : Bool) → numbered (insert_entry bytes_eq es name n)
          ≡ insert_entry bytes_eq (numbered es) name (number_at zs n) →
          numbered (if t then (e.0, n) ∷ es else e ∷ insert_entry bytes_eq es name n)
          ≡ (if t then (e.0, number_at zs n) ∷ numbered es
          else (e.0, number_at zs e.1) ∷ insert_entry bytes_eq (numbered es) name (number_at zs n))
      by true rest = refl
      by false rest = ap (λ xs. (e.0, number_at zs e.1) ∷ xs) rest

  same_length : (bs : List (List ℕ × Bound)) (params : Params) → values_of zs bs ≡ numbered params →
      length bs ≡ length params
  same_length bs params same = sym (length-map bs (λ b. (b.0, bound_value zs b.1))) ∙ ap length same
      ∙ length-map params (λ p. (p.0, number_at zs p.1))

  params_same : (ps : List Param) (bs : List (List ℕ × Bound)) (params : Params) →
      values_of zs bs ≡ numbered params →
      values_of zs (fold with_param_bound bs ps) ≡ numbered (fold with_param params ps)
  params_same [] bs params same = same
  params_same (p ∷ ps) bs params same = params_same ps (with_param_bound bs p) (with_param params p)
      (values_entered bs p.name.text (param_bound (length bs) p.range)
      ∙ ap (λ xs. insert_entry bytes_eq xs p.name.text (number_at zs (length bs))) same
      ∙ ap (λ n. insert_entry bytes_eq (numbered params) p.name.text (number_at zs n)) (same_length bs params same)
      ∙ sym (numbers_entered params p.name.text (length params)))

  number_found : (ps : Params) (word : List ℕ) →
      number_of word (numbered ps) ≡ option_map (number_at zs) (lookup (bytes_eq word) ps)
  number_found [] word = refl
  number_found (e ∷ es) word = by (bytes_eq word e.0) (number_found es word)
    where
      by : (t : Bool) → number_of word (numbered es) ≡ option_map (number_at zs) (lookup (bytes_eq word) es) →
          cond t (Some (number_at zs e.1)) (number_of word (numbered es))
          ≡ option_map (number_at zs) (cond t (Some e.1) (lookup (bytes_eq word) es))
      by true rest = refl
      by false rest = rest

  -- what a word means is numbered alike
  abbrev Alike : Bounds → Params → Bindings → Type 0
  Alike bounds params bindings = (word : List ℕ) →
      number_of word bindings ≡ option_map (number_at zs) (param_named bounds params word)

  alike_outside : (ps : List Param) → Alike [] (step_params ps) (values_of zs (param_bounds ps))
  alike_outside ps word = ap (number_of word) (params_same ps [] [] refl) ∙ number_found (step_params ps) word

  alike_inside : (bounds : Bounds) (params : Params) (bindings : Bindings) (name : List ℕ) (n : ℕ) →
      Alike bounds params bindings →
      Alike ((name, Meaning.Param n) ∷ bounds) params ((name, number_at zs n) ∷ bindings)
  alike_inside bounds params bindings name n alike word = by (bytes_eq word name) (alike word)
    where
      by : (t : Bool) → number_of word bindings ≡ option_map (number_at zs) (param_named bounds params word) →
          cond t (Some (number_at zs n)) (number_of word bindings)
          ≡ option_map (number_at zs) (option_or (option_and_then param_number
          (cond t (Some (Meaning.Param n)) (lookup (bytes_eq word) bounds))) (lookup (bytes_eq word) params))
      by true rest = refl
      by false rest = rest

  -- arguments

  word_same : (offset : Option (Symbol × ℕ)) (o : Option ℕ) →
      arg_number zs (word_arg offset o)
      ≡ option_map (λ z. with_offset z offset) (option_map (number_at zs) o)
  word_same offset None = refl
  word_same offset (Some n) = ap Some (offset_after (number_at zs n) offset)

  arg_same : (bounds : Bounds) (params : Params) (bindings : Bindings) → Alike bounds params bindings →
      (end : End) → arg_number zs (core_arg bounds params end) ≡ end_number bindings end
  arg_same bounds params bindings alike (End.Number at minus number) = refl
  arg_same bounds params bindings alike (End.Word at name offset) =
      word_same offset (param_named bounds params name.text)
      ∙ ap (option_map (λ z. with_offset z offset)) (sym (alike name.text))

  args_same : (bounds : Bounds) (params : Params) (bindings : Bindings) → Alike bounds params bindings →
      (ends : List End) →
      map (arg_number zs) (map (core_arg bounds params) ends) ≡ map (end_number bindings) ends
  args_same bounds params bindings alike [] = refl
  args_same bounds params bindings alike (end ∷ ends) =
      ap (λ x. x ∷ map (arg_number zs) (map (core_arg bounds params) ends)) (arg_same bounds params bindings alike end)
      ∙ ap (λ xs. end_number bindings end ∷ xs) (args_same bounds params bindings alike ends)

  ref_same : (words : Texts) (owner : List ℕ) (bounds : Bounds) (params : Params) (bindings : Bindings) →
      Alike bounds params bindings → (r : TextRef) →
      core_referred zs (core_ref words owner bounds params r) ≡ source_referred words owner bindings r
  ref_same words owner bounds params bindings alike r =
      ap (λ (ns : List (Option ℤ)). record (source_referred words owner bindings r) { numbers = ns })
      (args_same bounds params bindings alike (some_of r.args))

  refs_same : (words : Texts) (owner : List ℕ) (bounds : Bounds) (params : Params) (bindings : Bindings) →
      Alike bounds params bindings → (rs : List TextRef) →
      map (core_referred zs) (map (core_ref words owner bounds params) rs)
      ≡ map (source_referred words owner bindings) rs
  refs_same words owner bounds params bindings alike [] = refl
  refs_same words owner bounds params bindings alike (r ∷ rs) =
      ap (λ x. x ∷ map (core_referred zs) (map (core_ref words owner bounds params) rs))
      (ref_same words owner bounds params bindings alike r)
      ∙ ap (λ xs. source_referred words owner bindings r ∷ xs)
      (refs_same words owner bounds params bindings alike rs)

  -- each kind of term

  abbrev rolled : (x : PTerm-F PTerm) (t : PTerm) → roll-PTerm x ≡ t →
      core_references zs t
      ≡ core_referred_layer zs (map-PTerm PTerm (List Referred) (core_references zs) x)
  rolled x t same =
      ap (core_references zs) (sym same) ∙ fold-roll-PTerm (List Referred) (core_referred_layer zs) x

  trans_refers : (t u : PTerm) → core_references zs (Trans t u) ≡ core_references zs t ++ core_references zs u
  trans_refers t u = rolled (PTerm-F.Trans t u) (Trans t u) (rolls-Trans t u)

  either_refers : (t u : PTerm) → core_references zs (Either t u) ≡ core_references zs t ++ core_references zs u
  either_refers t u = rolled (PTerm-F.Either t u) (Either t u) (rolls-Either t u)

  pair_refers : (which : Word) (t u : PTerm) →
      core_references zs (pair_term which t u) ≡ core_references zs t ++ core_references zs u
  pair_refers Word.Either t u = either_refers t u
  pair_refers _ t u = trans_refers t u

  two_rules : (which : Word) (r s : Ref) →
      rule_references zs (pair_rule which r s) ≡ core_referred zs r ∷ core_referred zs s ∷ []
  two_rules which r s = of_pair_rule (λ rule. rule_references zs rule ≡ core_referred zs r ∷ core_referred zs s ∷ [])
      which r s (λ name. refl) refl

  no_rules : (words : Texts) (bounds : Bounds) (params : Params) (with : Option Inst) →
      rule_references zs (text_rule words bounds params with) ≡ []
  no_rules words bounds params None = refl
  no_rules words bounds params (Some helper) = refl

  two_lists : (x x' y y' : List Referred) → x ≡ x' → y ≡ y' → (x ++ y) ≡ (x' ++ y')
  two_lists x x' y y' h k = ap (λ v. v ++ y) h ∙ ap (λ v. x' ++ v) k

  before_list : (x x' : Referred) (y y' : List Referred) → x ≡ x' → y ≡ y' → (x ∷ y) ≡ (x' ∷ y')
  before_list x x' y y' h k = ap (λ v. v ∷ y) h ∙ ap (λ v. x' ∷ v) k

  -- terms

  module _ (words : Texts) (owner : List ℕ) (params : Params) where
    abbrev Refers : Terming → Referring → Type 0
    Refers f g = (s : Scope) (bounds : Bounds) (bindings : Bindings) (number : ℕ) → Alike bounds params bindings →
        let c : Place =
        record { words = words; owner = owner; scope = s; bounds = bounds; params = params } in
        (core_references zs (f c number).core ≡ (g bindings number).all)
        × ((f c number).next ≡ (g bindings number).next)

    layer_refers : TermLayers Refers term_layer (referred_layer words owner zs)
    layer_refers (Term-F.Imply at p q) s bounds bindings number alike =
        (rolled (PTerm-F.Imply _ _) (Imply _ _) (rolls-Imply _ _), refl)
    layer_refers (Term-F.From at of) s bounds bindings number alike = (
      rolled (PTerm-F.From _) (From _) (rolls-From _)
          ∙ before_list _ _ [] [] (ref_same words owner bounds params bindings alike of) refl,
      refl,
    )
    layer_refers (Term-F.Pair at which first second) s bounds bindings number alike =
        let c : Place =
        record { words = words; owner = owner; scope = s; bounds = bounds; params = params } in
        let t = first.0 c number in
        let u = second.0 c t.next in
        let one = first.2 s bounds bindings number alike in
        let two = second.2 s bounds bindings t.next alike in
        let moved = ap (λ n. second.1 bindings n) one.1 in (
          pair_refers which t.core u.core ∙ two_lists _ _ _ _ one.0 (two.0 ∙ ap (λ w. w.all) moved),
          two.1 ∙ ap (λ w. w.next) moved,
        )
    layer_refers (Term-F.Exists at name range of) s bounds bindings number alike =
        let inner = of.2 (record s { bound = (name.text, param_bound number range) ∷ s.bound })
        ((name.text, Meaning.Param number) ∷ bounds) ((name.text, number_at zs number) ∷ bindings) (number + 1)
        (alike_inside bounds params bindings name.text number alike) in
        (rolled (PTerm-F.Exists _ _ _) (Exists _ _ _) (rolls-Exists _ _ _) ∙ inner.0, inner.1)
    layer_refers (Term-F.Induct at name range measure p q of) s bounds bindings number alike =
        let inner = of.2 (record s { bound = (name.text, param_bound number range) ∷ s.bound })
        ((name.text, Meaning.Param number) ∷ bounds) ((name.text, number_at zs number) ∷ bindings) (number + 1)
        (alike_inside bounds params bindings name.text number alike) in (
          rolled (PTerm-F.Induct _ _ _ _ _ _) (Induct _ _ _ _ _ _) (rolls-Induct _ _ _ _ _ _) ∙ inner.0,
          inner.1,
        )
    layer_refers (Term-F.Psp at of by) s bounds bindings number alike =
        let inner = of.2 s bounds bindings number alike in (
          rolled (PTerm-F.Psp _ _) (Psp _ _) (rolls-Psp _ _) ∙ two_lists _ _ _ _ inner.0
              (before_list _ _ [] [] (ref_same words owner bounds params bindings alike by) refl),
          inner.1,
        )
    layer_refers (Term-F.Weaken at p q of) s bounds bindings number alike =
        let inner = of.2 s bounds bindings number alike in
        (rolled (PTerm-F.Weaken _ _ _) (Weaken _ _ _) (rolls-Weaken _ _ _) ∙ inner.0, inner.1)

    term_refers : (t : Term) → Refers (termed t) (term_references words owner zs t)
    term_refers t = two_terms Refers term_layer (referred_layer words owner zs) layer_refers t

    rule_refers : (rule : Rule) (s : Scope) (bindings : Bindings) → Alike [] params bindings →
        rule_references zs
        (core_rule (record { words = words; owner = owner; scope = s; bounds = []; params = params }) rule)
        ≡ source_references words owner zs bindings (length params) rule
    rule_refers (Rule.Text at with) s bindings alike = no_rules words [] params with
    rule_refers (Rule.Weaken at of) s bindings alike =
        before_list _ _ [] [] (ref_same words owner [] params bindings alike of) refl
    rule_refers (Rule.Pair at which first second) s bindings alike = two_rules which _ _
        ∙ before_list _ _ _ _ (ref_same words owner [] params bindings alike first)
        (before_list _ _ [] [] (ref_same words owner [] params bindings alike second) refl)
    rule_refers (Rule.Superpose at of) s bindings alike =
        before_list _ _ [] [] (ref_same words owner [] params bindings alike of) refl
    rule_refers (Rule.Complete at first second third fourth) s bindings alike =
        before_list _ _ _ _ (ref_same words owner [] params bindings alike first)
        (before_list _ _ _ _ (ref_same words owner [] params bindings alike second)
        (before_list _ _ _ _ (ref_same words owner [] params bindings alike third)
        (before_list _ _ [] [] (ref_same words owner [] params bindings alike fourth) refl)))
    rule_refers (Rule.Term at of) s bindings alike = (term_refers of s [] bindings (length params) alike).0

pub using_refers : UsingRefers
using_refers d place at proof e number step f zs =
    let ps = some_of step.params in
    refs_same zs (document_words d) proof.program.text [] (step_params ps) (values_of zs (param_bounds ps))
    (alike_outside zs ps) (some_of step.using)

pub rules_refer : RulesRefer
rules_refer d place at proof e number step f zs =
    let ps = some_of step.params in
    rule_refers zs (document_words d) proof.program.text (step_params ps) step.rule
    (within (document_scope d.parts) (param_bounds ps)) (values_of zs (param_bounds ps)) (alike_outside zs ps)

pub helpers_refer : HelpersRefer
helpers_refer d place at proof e number step f at_rule helper same =
    let ps = some_of step.params in
    let words = document_words d in (
      core_helper words [] (step_params ps) helper,
      ap (core_rule (step_place words proof.program.text (document_scope d.parts) step)) same,
      λ zs. record {
        label = refl;
        indices = args_same zs [] (step_params ps) (values_of zs (param_bounds ps)) (alike_outside zs ps)
            (some_of helper.indices);
      },
    )
