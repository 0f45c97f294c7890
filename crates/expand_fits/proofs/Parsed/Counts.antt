-- A document has no more words than its tree: the texts that its core form names are among those.
use Rattle.std.proofs.Common.{ℕ, ◌≤◌, List, [], ◌∷◌, ◌++◌, length, map, Option, Some, None, arith}
use Rattle.std.proofs.Common.{length-append}
use Rattle.std.specs.Prelude.{sum, sum_by}
use Rattle.std.proofs.lemmas.List.Sums.{sum-map, sum_by-cons}
use Rattle.std.specs.List.{flat_map}
use Rattle.grammar_theory.specs.Ebnf.{Tree}
use Rattle.grammar_theory.specs.Words.{Word, words}
use Rattle.unity_syntax.specs.declared.name.Name.{Name}
use Rattle.unity_syntax.specs.declared.declaration.Plain.{Plain}
use Rattle.unity_syntax.specs.declared.declaration.VarType.{VarType}
use Rattle.unity_syntax.specs.declared.declaration.Var.{Var}
use Rattle.unity_syntax.specs.declared.statement.Item.TheOpen.{Item-F}
use Rattle.unity_syntax.specs.declared.statement.Items.{Items}
use Rattle.unity_syntax.specs.declared.program.Program.{Program}
use Rattle.unity_syntax.specs.declared.term.Inst.{Inst}
use Rattle.unity_syntax.specs.declared.term.Ref.{Ref}
use Rattle.unity_syntax.specs.declared.term.Term.{Term}
use Rattle.unity_syntax.specs.declared.term.Term.TheOpen.{Term-F}
use Rattle.unity_syntax.specs.declared.proof.Param.{Param}
use Rattle.unity_syntax.specs.declared.proof.Rule.{Rule}
use Rattle.unity_syntax.specs.declared.proof.Step.{Step}
use Rattle.unity_syntax.specs.declared.proof.Proof.{Proof}
use Rattle.unity_syntax.specs.declared.document.Part.{Part}
use Rattle.unity_syntax.specs.declared.document.Schedule.{Schedule}
use Rattle.unity_syntax.specs.declared.document.Document.{Document}
use Rattle.unity_syntax.specs.TwoFolds.{Related, TermLayers, ItemLayers, ItemsLayers}
use Rattle.unity_syntax.specs.View.{view_option, view_list, view_some, view_name, view_range, view_expr, view_plain}
use Rattle.unity_syntax.specs.View.{view_var_type, view_var, view_def, view_init, view_assign, view_item_step}
use Rattle.unity_syntax.specs.View.{view_items_step, view_items, view_initially, view_program, view_inst, view_ref}
use Rattle.unity_syntax.specs.View.{view_term_step, view_term, view_param, view_claim, view_rule, view_step}
use Rattle.unity_syntax.specs.View.{view_proof, view_certificates, view_schedule, view_part, view, view_end}
use Rattle.unity_syntax.proofs.TermFolds.{two_terms}
use Rattle.unity_syntax.proofs.ItemFolds.{two_items}
use Rattle.grammar_theory.specs.Lists.{list}
use Rattle.meaning_documents.specs.Setting.{element_type}
use Rattle.names_rules.specs.Declarations.{items_of, some_of}
use Rattle.expand_declarations.specs.Texts.{Texts, plain_texts, var_texts, item_layer, items_layer, items_texts}
use Rattle.expand_declarations.specs.Texts.{program_texts, step_text, ref_texts, helper_texts, term_layer, term_texts}
use Rattle.expand_declarations.specs.Texts.{rule_texts, step_texts, proof_texts, part_texts, schedule_texts}
use Rattle.expand_declarations.specs.Texts.{document_texts}
use Rattle.meaning_documents.specs.Steps.{proofs_among}

-- there are as many words at least
abbrev Told : Texts → List Word → Type 0
Told texts ws = length texts ≤ length ws

-- those of two parts are told by both
told_both : (a b : Texts) (us vs : List Word) → Told a us → Told b vs → Told (a ++ b) (us ++ vs)
told_both a b us vs h k = omega (arith, length-append a b, length-append us vs)

-- those of four parts, in two pairs
told_pairs : (a b c d : Texts) (us vs ws xs : List Word) → Told a us → Told b vs → Told c ws → Told d xs →
    Told ((a ++ b) ++ (c ++ d)) (us ++ (vs ++ (ws ++ xs)))
told_pairs a b c d us vs ws xs h i j k = omega (
  arith,
  length-append (a ++ b) (c ++ d),
  length-append a b,
  length-append c d,
  length-append us (vs ++ (ws ++ xs)),
  length-append vs (ws ++ xs),
  length-append ws xs,
)

told_first : (a : Texts) (us vs : List Word) → Told a us → Told a (us ++ vs)
told_first a us vs h = omega (arith, length-append us vs)

told_second : (a : Texts) (us vs : List Word) → Told a vs → Told a (us ++ vs)
told_second a us vs h = omega (arith, length-append us vs)

told_more : (text : List ℕ) (a : Texts) (w : Word) (us : List Word) → Told a us → Told (text ∷ a) (w ∷ us)
told_more text a w us h = omega arith

told_none : (us : List Word) → Told [] us
told_none us = omega arith

-- lists

told_list : {A : Type 0} (view_part : A → Tree) (texts : A → Texts) → ((x : A) → Told (texts x) (words (view_part x))) →
    (xs : List A) → Told (flat_map texts xs) (words (view_list view_part xs))
told_list view_part texts f [] = told_none []
told_list view_part texts f (x ∷ xs) = told_both (texts x) (flat_map texts xs) (words (view_part x))
    (words (view_list view_part xs)) (f x) (told_list view_part texts f xs)

told_some : {A : Type 0} (view_part : A → Tree) (texts : A → Texts) → ((x : A) → Told (texts x) (words (view_part x))) →
    (o : Option (A × List A)) → Told (flat_map texts (some_of o)) (words (view_option (view_some view_part) o))
told_some view_part texts f None = told_none []
told_some view_part texts f (Some x) = told_both (texts x.0) (flat_map texts x.1) (words (view_part x.0))
    (words (view_list view_part x.1)) (f x.0) (told_list view_part texts f x.1)

told_each : {A : Type 0} (view_part : A → Tree) (text : A → List ℕ) →
    ((x : A) → 1 ≤ length (words (view_part x))) →
    (xs : List A) → Told (map text xs) (words (view_list view_part xs))
told_each view_part text f [] = told_none []
told_each view_part text f (x ∷ xs) =
    let one = f x in
    let more = told_each view_part text f xs in
    omega (arith, length-append (words (view_part x)) (words (view_list view_part xs)))

told_each_some : {A : Type 0} (view_part : A → Tree) (text : A → List ℕ) →
    ((x : A) → 1 ≤ length (words (view_part x))) →
    (o : Option (A × List A)) → Told (map text (some_of o)) (words (view_option (view_some view_part) o))
told_each_some view_part text f None = told_none []
told_each_some view_part text f (Some x) =
    let one = f x.0 in
    let more = told_each view_part text f x.1 in
    omega (arith, length-append (words (view_part x.0)) (words (view_list view_part x.1)))

-- programs

told_plain : (p : Plain) → Told (plain_texts p) (words (view_plain p))
told_plain (Plain.Boolean at) = told_none []
told_plain (Plain.Range at range) = told_none (words (view_range range))
told_plain (Plain.Words at first rest) = told_more first.text (map (λ w. w.text) rest) (first.at, first.text)
    (words (view_list view_name rest)) (told_each view_name (λ w. w.text) (λ w. omega arith) rest)

told_type : (kind : VarType) → Told (plain_texts (element_type kind)) (words (view_var_type kind))
told_type (VarType.Plain at plain) = told_plain plain
told_type (VarType.Array at range plain) =
    told_second (plain_texts plain) (words (view_range range)) (words (view_plain plain)) (told_plain plain)

told_var : (v : Var) → Told (var_texts v) (words (view_var v))
told_var v = told_more v.name.text (plain_texts (element_type v.kind)) (v.name.at, v.name.text)
    (words (view_var_type v.kind)) (told_type v.kind)

told_declared : (o : Option (List Var)) →
    Told (flat_map var_texts (items_of o)) (words (view_option (view_list view_var) o))
told_declared None = told_none []
told_declared (Some vs) = told_list view_var var_texts told_var vs

abbrev Both : Tree → Texts → Type 0
Both x texts = Told texts (words x)

told_items_list : (xs : List (Related Both)) →
    Told (flat_map (λ texts. texts) (map (λ r. r.1) xs)) (words (list (map (λ r. r.0) xs)))
told_items_list [] = told_none []
told_items_list (x ∷ xs) = told_both x.1 (flat_map (λ texts. texts) (map (λ r. r.1) xs)) (words x.0)
    (words (list (map (λ r. r.0) xs))) x.2 (told_items_list xs)

told_item_layer : ItemLayers Both Both view_item_step item_layer
told_item_layer (Item-F.Statement at label assign) =
    told_more label.text [] (label.at, label.text) (words (view_assign assign)) (told_none (words (view_assign assign)))
told_item_layer (Item-F.Quantified at name range of) =
    told_second of.1 ((name.at, name.text) ∷ []) (words (view_range range) ++ words of.0)
    (told_second of.1 (words (view_range range)) (words of.0) of.2)

told_items_layer : ItemsLayers Both Both view_items_step items_layer
told_items_layer y = told_both y.first.1 (flat_map (λ texts. texts) (map (λ r. r.1) y.rest)) (words y.first.0)
    (words (list (map (λ r. r.0) y.rest))) y.first.2 (told_items_list y.rest)

told_items : (items : Items) → Told (items_texts items) (words (view_items items))
told_items items = (two_items Both Both view_item_step view_items_step item_layer items_layer told_item_layer
    told_items_layer).1 items

told_program : (p : Program) → Told (program_texts p) (words (view_program p))
told_program (Program.Union at name left right) =
    told_more name.text [] (name.at, name.text) (words (view_name left) ++ words (view_name right))
    (told_none (words (view_name left) ++ words (view_name right)))
told_program (Program.Plain at name declare always initially start items) =
    let d = words (view_option (view_list view_var) declare) in
    let a = words (view_option (view_list view_def) always) in
    let i = words (view_option view_initially initially) in
    let s = words (view_option (view_some view_init) start) in
    let t = words (view_items items) in
    told_more name.text (flat_map var_texts (items_of declare) ++ items_texts items) (name.at, name.text)
    (d ++ (a ++ (i ++ (s ++ t))))
    (told_both (flat_map var_texts (items_of declare)) (items_texts items) d (a ++ (i ++ (s ++ t)))
    (told_declared declare) (told_second (items_texts items) a (i ++ (s ++ t))
    (told_second (items_texts items) i (s ++ t) (told_second (items_texts items) s t (told_items items)))))

-- proofs

told_ref : (r : Ref) → Told (ref_texts r) (words (view_ref r))
told_ref r =
    let args = words (view_option (view_some view_end) r.args) in
    told_more r.name.text (step_text r.step) (r.name.at, r.name.text)
    (words (view_option view_name r.step) ++ args)
    (told_first (step_text r.step) (words (view_option view_name r.step)) args (step r.step))
  where
    step : (o : Option Name) → Told (step_text o) (words (view_option view_name o))
    step None = told_none []
    step (Some name) = told_more name.text [] (name.at, name.text) [] (told_none [])

told_layer : TermLayers Both view_term_step term_layer
told_layer (Term-F.Imply at p q) = told_none (words (view_expr p) ++ words (view_expr q))
told_layer (Term-F.From at of) = told_ref of
told_layer (Term-F.Pair at which first second) =
    told_both first.1 second.1 (words first.0) (words second.0) first.2 second.2
told_layer (Term-F.Exists at name range of) = told_more name.text of.1 (name.at, name.text)
    (words (view_range range) ++ words of.0) (told_second of.1 (words (view_range range)) (words of.0) of.2)
told_layer (Term-F.Induct at name range measure p q of) =
    let r = words (view_range range) in
    let m = words (view_expr measure) in
    let a = words (view_expr p) in
    let b = words (view_expr q) in
    let t = words of.0 in
    told_more name.text of.1 (name.at, name.text) (r ++ (m ++ (a ++ (b ++ t))))
    (told_second of.1 r (m ++ (a ++ (b ++ t))) (told_second of.1 m (a ++ (b ++ t))
    (told_second of.1 a (b ++ t) (told_second of.1 b t of.2))))
told_layer (Term-F.Psp at of by) =
    told_both of.1 (ref_texts by) (words of.0) (words (view_ref by)) of.2 (told_ref by)
told_layer (Term-F.Weaken at p q of) =
    told_second of.1 (words (view_expr p)) (words (view_expr q) ++ words of.0)
    (told_second of.1 (words (view_expr q)) (words of.0) of.2)

told_term : (t : Term) → Told (term_texts t) (words (view_term t))
told_term t = two_terms Both view_term_step term_layer told_layer t

told_helper : (o : Option Inst) → Told (helper_texts o) (words (view_option view_inst o))
told_helper None = told_none []
told_helper (Some helper) =
    let indices = words (view_option (view_some view_end) helper.indices) in
    told_more helper.label.text [] (helper.label.at, helper.label.text) indices (told_none indices)

told_rule : (r : Rule) → Told (rule_texts r) (words (view_rule r))
told_rule (Rule.Text at with) = told_helper with
told_rule (Rule.Weaken at of) = told_ref of
told_rule (Rule.Pair at which first second) = told_both (ref_texts first) (ref_texts second) (words (view_ref first))
    (words (view_ref second)) (told_ref first) (told_ref second)
told_rule (Rule.Superpose at of) = told_ref of
told_rule (Rule.Complete at r s t u) =
    told_pairs (ref_texts r) (ref_texts s) (ref_texts t) (ref_texts u) (words (view_ref r)) (words (view_ref s))
    (words (view_ref t)) (words (view_ref u)) (told_ref r) (told_ref s) (told_ref t) (told_ref u)
told_rule (Rule.Term at of) = told_term of

told_step : (s : Step) → Told (step_texts s) (words (view_step s))
told_step s =
    let names = map (λ (p : Param). p.name.text) (some_of s.params) in
    let rule = rule_texts s.rule in
    let using = flat_map ref_texts (some_of s.using) in
    let p = words (view_option (view_some view_param) s.params) in
    let c = words (view_claim s.claim) in
    let r = words (view_rule s.rule) in
    let u = words (view_option (view_some view_ref) s.using) in
    told_more s.name.text (names ++ (rule ++ using)) (s.name.at, s.name.text) (p ++ (c ++ (r ++ u)))
    (told_both names (rule ++ using) p (c ++ (r ++ u))
    (told_each_some view_param (λ q. q.name.text) (λ q. omega arith) s.params)
    (told_second (rule ++ using) c (r ++ u)
    (told_both rule using r u (told_rule s.rule) (told_some view_ref ref_texts told_ref s.using))))

told_proof : (p : Proof) → Told (proof_texts p) (words (view_proof p))
told_proof p = told_more p.program.text (flat_map step_texts p.steps) (p.program.at, p.program.text)
    (words (view_list view_step p.steps)) (told_list view_step step_texts told_step p.steps)

-- a proof has no more steps than words

step_told : (s : Step) → 1 ≤ length (words (view_step s))
step_told s = omega arith

steps_told : (steps : List Step) → length steps ≤ length (words (view_list view_step steps))
steps_told [] = omega arith
steps_told (s ∷ steps) =
    let one = step_told s in
    let more = steps_told steps in
    omega (arith, length-append (words (view_step s)) (words (view_list view_step steps)))

abbrev so_many : Proof → ℕ
so_many p = length p.steps

parts_told : (parts : List Part) → sum_by so_many (proofs_among parts) ≤ length (words (view_list view_part parts))
parts_told [] = omega arith
parts_told (Part.Program at program ∷ rest) =
    let more = parts_told rest in
    omega (arith, length-append (words (view_program program)) (words (view_list view_part rest)))
parts_told (Part.Proof at proof ∷ rest) =
    let some = steps_told proof.steps in
    let more = parts_told rest in
    let whole = sum_by-cons so_many proof (proofs_among rest) in
    let words_are = length-append (words (view_proof proof)) (words (view_list view_part rest)) in
    let longer : length (words (view_list view_step proof.steps)) ≤ length (words (view_proof proof)) = omega arith in
    omega (arith, whole, words_are, longer, some, more)

pub all_steps_told : (d : Document) →
    sum (map (λ (p : Proof). length p.steps) (proofs_among d.parts)) ≤ length (words (view d))
all_steps_told d =
    let some = parts_told d.parts in
    let summed = sum-map so_many (proofs_among d.parts) in
    omega (
      arith,
      summed,
      length-append (words (view_list view_part d.parts)) (words (view_option view_schedule d.schedule)
          ++ words (view_option view_certificates d.certificates)),
    )

-- documents

told_part : (p : Part) → Told (part_texts p) (words (view_part p))
told_part (Part.Program at program) = told_program program
told_part (Part.Proof at proof) = told_proof proof

told_schedule : (o : Option Schedule) → Told (schedule_texts o) (words (view_option view_schedule o))
told_schedule None = told_none []
told_schedule (Some schedule) =
    told_more schedule.program.text (map (λ (c : Inst). c.label.text) (some_of schedule.choices))
    (schedule.program.at, schedule.program.text) (words (view_option (view_some view_inst) schedule.choices))
    (told_each_some view_inst (λ c. c.label.text) (λ c. omega arith) schedule.choices)

pub texts_told : (d : Document) → length (document_texts d) ≤ length (words (view d))
texts_told d =
    let p = words (view_list view_part d.parts) in
    let s = words (view_option view_schedule d.schedule) in
    let c = words (view_option view_certificates d.certificates) in
    told_both (flat_map part_texts d.parts) (schedule_texts d.schedule) p (s ++ c)
    (told_list view_part part_texts told_part d.parts)
    (told_first (schedule_texts d.schedule) s c (told_schedule d.schedule))
