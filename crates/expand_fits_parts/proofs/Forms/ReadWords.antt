-- The words of expressions and assignments without a fault are found, by their kinds.
use Rattle.std.proofs.Common.{◌≡◌, ℕ, List, [], ◌∷◌, map, Bool, true, false, cond, ◌&&◌, ◌||◌, Option, Some, None}
use Rattle.std.proofs.Common.{length}
use Rattle.std.proofs.Common.{option_map, refl, ap, arith}
use Rattle.std.specs.Prelude.{nat_eq}
use Rattle.std.specs.List.{list_all}
use Rattle.std.specs.Map.{lookup}
use Rattle.std.specs.Option.{is_some, option_or}
use Rattle.std.specs.Str.{bytes_eq}
use Rattle.std.proofs.lemmas.Bool.{eqb-true}
use Rattle.case_tables.specs.declared.code_table.Code.{Code}
use Rattle.case_tables.specs.declared.symbol_table.Symbol.{Symbol}
use Rattle.unity_syntax.specs.declared.name.Name.{Name}
use Rattle.unity_syntax.specs.declared.expression.Expr.{Expr}
use Rattle.unity_syntax.specs.declared.expression.Expr.TheOpen.{Expr-F}
use Rattle.unity_syntax.specs.declared.expression.Operator.{Operator}
use Rattle.unity_syntax.specs.declared.statement.Target.{Target}
use Rattle.unity_syntax.specs.declared.statement.Values.{Values}
use Rattle.unity_syntax.specs.declared.statement.Component.TheOpen.{Component-F}
use Rattle.unity_syntax.specs.TwoFolds.{Related, ExpressionLayers, ComponentLayers, AssignLayers}
use Rattle.unity_syntax.proofs.ExpressionFolds.{two_expressions}
use Rattle.unity_syntax.proofs.AssignmentFolds.{two_assignments}
use Rattle.meaning_documents.specs.Writes.{alternatives, conditional}
use Rattle.names_rules.specs.declared.named.Meaning.{Meaning}
use Rattle.names_rules.specs.declared.named.Named.{Named}
use Rattle.names_rules.specs.declared.named.Sort.{Sort}
use Rattle.names_rules.specs.Scope.{Scope as NameScope, found, bound_named, visible, is_variable, with_bound}
use Rattle.names_rules.specs.Reading.{Reading, ReadingAt, earlier, unless, same_sort, same_bool, needs, gathers}
use Rattle.names_rules.specs.Reading.{in_order, factors, right_sides}
use Rattle.names_rules.specs.Reading.{is_linear, left_side, word_found, binding, range_reading, all_beside, read_layer}
use Rattle.names_rules.specs.Reading.{read}
use Rattle.names_rules.specs.Statements.{target_word, target_head, index_reading, target_reading, values_reading}
use Rattle.names_rules.specs.Statements.{condition_reading, alternative_reading, further_reading, alternatives_reading}
use Rattle.names_rules.specs.Statements.{component_layer, assign_layer}
use Rattle.names_laws.proofs.AttributeTheorems.{and_both}
use Rattle.names_rules.proofs.Faults.{earlier_first, earlier_second, unless_none}
use Rattle.expand_fits_parts.specs.Forms.Naming.{WordTest, or_word, Wording, words_layer, words_pass}
use Rattle.expand_fits_parts.specs.Forms.Naming.{words_pass_or_none}
use Rattle.expand_fits_parts.specs.Forms.Naming.{target_words, alternative_words, component_words, assign_words}
use Rattle.expand_fits_parts.specs.Forms.Visible.{FoundPass, ExpressionsRead, AssignmentsRead}

or_true : (b : Bool) → (b || true) ≡ true
or_true true = refl
or_true false = refl

pub or_first : (b c : Bool) → b ≡ true → (b || c) ≡ true
or_first true c h = refl
or_first false c h = cc h

pub or_second : (b c : Bool) → c ≡ true → (b || c) ≡ true
or_second true c h = refl
or_second false c h = h

-- a name that is bound inside passes
pub inside_found : (n : NameScope) (alone whole : WordTest) (name : List ℕ) (at : ℕ) → FoundPass n alone whole →
    FoundPass (with_bound n name (Meaning.Bound at)) (or_word alone name) whole
inside_found n alone whole name at g = record {
  words = λ word m. elim (bytes_eq word name) as (λ b. option_or
      (option_map bound_named (cond b (Some (Meaning.Bound at)) (lookup (bytes_eq word) n.bounds)))
      (option_or (option_map (λ number. bound_named (Meaning.Param number)) (lookup (bytes_eq word) n.params))
      (visible n.program (lookup (bytes_eq word) n.names))) ≡ Some m → (alone word || b) ≡ true) [
        | true ↦ λ e. or_true (alone word)
        | false ↦ λ e. or_first (alone word) false (g.words word m e)
      ];
  variables = λ word m. elim (bytes_eq word name) as (λ b. option_or
      (option_map bound_named (cond b (Some (Meaning.Bound at)) (lookup (bytes_eq word) n.bounds)))
      (option_or (option_map (λ number. bound_named (Meaning.Param number)) (lookup (bytes_eq word) n.params))
      (visible n.program (lookup (bytes_eq word) n.names))) ≡ Some m →
      (is_variable m.meaning || is_some m.indices) ≡ true → whole word ≡ true) [
        | true ↦ λ e h. absurd (no_variable (bound_named (Meaning.Bound at)) m e h refl)
        | false ↦ λ e h. g.variables word m e h
      ];
}
  where
    no_variable : (x m : Named) → Some x ≡ Some m → (is_variable m.meaning || is_some m.indices) ≡ true →
        (is_variable x.meaning || is_some x.indices) ≡ false → ⊥
    no_variable x m e h k = let same : x ≡ m = cc e in
        cc (ap (λ (y : Named). is_variable y.meaning || is_some y.indices) same, h, k)

abbrev Reads : ReadingAt → Wording → Type 0
Reads m p = (n : NameScope) (alone whole : WordTest) → FoundPass n alone whole → (m n).fault ≡ None →
    p alone whole ≡ true

abbrev Part : Type 0
Part = Related Reads

needs_none : (sort : Sort) (r : Reading) → (needs sort r).fault ≡ None → r.fault ≡ None
needs_none sort r h = earlier_first r.fault (unless (same_sort r.sort sort) Code.WrongType r.at) h

module _ (n : NameScope) (a w : WordTest) (g : FoundPass n a w) where
  part_reads : (sort : Sort) (k : Part) → (needs sort (k.0 n)).fault ≡ None → k.1 a w ≡ true
  part_reads sort k h = k.2 n a w g (needs_none sort (k.0 n) h)

  all_read : (sort : Sort) (ks : List Part) →
      (in_order (map (λ m. needs sort (m n)) (map (λ k. k.0) ks))).fault ≡ None →
      list_all (λ m. m a w) (map (λ k. k.1) ks) ≡ true
  all_read sort [] h = refl
  all_read sort (k ∷ ks) h =
      let f = (needs sort (k.0 n)).fault in
      let rest = (in_order (map (λ m. needs sort (m n)) (map (λ j. j.0) ks))).fault in
      and_both (k.1 a w) (list_all (λ m. m a w) (map (λ j. j.1) ks)) (part_reads sort k (earlier_first f rest h))
      (all_read sort ks (earlier_second f rest h))

  many_read : (sort : Sort) (k : Part) (ks : List Part) →
      (in_order (map (λ m. needs sort (m n)) (k.0 ∷ map (λ j. j.0) ks))).fault ≡ None →
      (k.1 a w && list_all (λ m. m a w) (map (λ j. j.1) ks)) ≡ true
  many_read sort k ks h = all_read sort (k ∷ ks) h

  sums_read : (ks : List (Symbol × Part)) →
      (in_order (map (λ m. needs Sort.Number (m n)) (map (λ part. part.1) (map (λ (k : Symbol × Part).
      let p : Symbol × ReadingAt = (k.0, k.1.0) in p) ks)))).fault ≡ None →
      list_all (λ (part : Symbol × Wording). part.1 a w) (map (λ (k : Symbol × Part).
      let p : Symbol × Wording = (k.0, k.1.1) in p) ks) ≡ true
  sums_read [] h = refl
  sums_read (k ∷ ks) h =
      let f = (needs Sort.Number (k.1.0 n)).fault in
      let rest = (in_order (map (λ m. needs Sort.Number (m n)) (map (λ part. part.1) (map (λ (j : Symbol × Part).
      let p : Symbol × ReadingAt = (j.0, j.1.0) in p) ks)))).fault in
      and_both (k.1.1 a w) (list_all (λ (part : Symbol × Wording). part.1 a w) (map (λ (j : Symbol × Part).
      let p : Symbol × Wording = (j.0, j.1.1) in p) ks)) (part_reads Sort.Number k.1 (earlier_first f rest h))
      (sums_read ks (earlier_second f rest h))

  abbrev operands_of : List (Operator × Part) → List Reading
  operands_of ks = right_sides (factors n (map (λ (k : Operator × Part).
      let p : Operator × ReadingAt = (k.0, k.1.0) in p) ks))

  factors_read : (ks : List (Operator × Part)) → (in_order (operands_of ks)).fault ≡ None →
      list_all (λ (part : Operator × Wording). part.1 a w) (map (λ (k : Operator × Part).
      let p : Operator × Wording = (k.0, k.1.1) in p) ks) ≡ true
  factors_read [] h = refl
  factors_read (k ∷ ks) h =
      let f = (needs Sort.Number (k.1.0 n)).fault in
      let rest = (in_order (operands_of ks)).fault in
      and_both (k.1.1 a w) (list_all (λ (part : Operator × Wording). part.1 a w) (map (λ (j : Operator × Part).
      let p : Operator × Wording = (j.0, j.1.1) in p) ks)) (part_reads Sort.Number k.1 (earlier_first f rest h))
      (factors_read ks (earlier_second f rest h))

  word_reads : (name : Name) (o : Option Named) → ((m : Named) → o ≡ Some m → found n name.text ≡ Some m) →
      (word_found n name false o).fault ≡ None → a name.text ≡ true
  word_reads name None same h = cc h
  word_reads name (Some m) same h = g.words name.text m (same m refl)

  array_reads : (name : Name) (o : Option Named) → ((m : Named) → o ≡ Some m → found n name.text ≡ Some m) →
      (word_found n name true o).fault ≡ None → w name.text ≡ true
  array_reads name None same h = cc h
  array_reads name (Some m) same h = g.variables name.text m (same m refl)
      (or_second (is_variable m.meaning) (is_some m.indices) (same_true (is_some m.indices)
      (unless_none (same_bool (is_some m.indices) true) Code.WrongType name.at h)))
    where
      same_true : (b : Bool) → same_bool b true ≡ true → b ≡ true
      same_true true h = refl
      same_true false h = cc h

  target_reads : (name : Name) (indexed : Bool) (o : Option Named) → ((m : Named) → o ≡ Some m →
      found n name.text ≡ Some m) → (target_word name indexed o).fault ≡ None → w name.text ≡ true
  target_reads name indexed None same h = cc h
  target_reads name indexed (Some m) same h = g.variables name.text m (same m refl)
      (or_first (is_variable m.meaning) (is_some m.indices) (unless_none (is_variable m.meaning) Code.Unknown name.at
      (earlier_first (unless (is_variable m.meaning) Code.Unknown name.at)
      (unless (same_bool (is_some m.indices) indexed) Code.WrongType name.at) h)))

left_none : (relation : Symbol) (r : Reading) → (left_side relation r).fault ≡ None → r.fault ≡ None
left_none Symbol.Equal r h = h
left_none Symbol.NotEqual r h = h
left_none _ r h = needs_none Sort.Number r h

layer : ExpressionLayers Reads read_layer words_layer
layer (Expr-F.Implies at l r) n a w g h =
    let f = (needs Sort.Boolean (l.0 n)).fault in
    let k = earlier (needs Sort.Boolean (r.0 n)).fault None in
    and_both (l.1 a w) (r.1 a w) (part_reads n a w g Sort.Boolean l (earlier_first f k h))
    (part_reads n a w g Sort.Boolean r (earlier_first (needs Sort.Boolean (r.0 n)).fault None (earlier_second f k h)))
layer (Expr-F.And at x xs) n a w g h = many_read n a w g Sort.Boolean x xs h
layer (Expr-F.Or at x xs) n a w g h = many_read n a w g Sort.Boolean x xs h
layer (Expr-F.Not at x) n a w g h = part_reads n a w g Sort.Boolean x h
layer (Expr-F.Compare at l relation r) n a w g h =
    let left = left_side relation (l.0 n) in
    let right = (needs left.sort (r.0 n)).fault in
    and_both (l.1 a w) (r.1 a w) (l.2 n a w g (left_none relation (l.0 n) (earlier_first left.fault right h)))
    (part_reads n a w g left.sort r (earlier_second left.fault right h))
layer (Expr-F.Sum at minus x xs) n a w g h =
    let f = (needs Sort.Number (x.0 n)).fault in
    let rest = (in_order (map (λ m. needs Sort.Number (m n)) (map (λ part. part.1) (map (λ (k : Symbol × Part).
    let p : Symbol × ReadingAt = (k.0, k.1.0) in p) xs)))).fault in
    and_both (x.1 a w) (list_all (λ (part : Symbol × Wording). part.1 a w) (map (λ (k : Symbol × Part).
    let p : Symbol × Wording = (k.0, k.1.1) in p) xs)) (part_reads n a w g Sort.Number x (earlier_first f rest h))
    (sums_read n a w g xs (earlier_second f rest h))
layer (Expr-F.Product at x xs) n a w g h =
    let first = needs Sort.Number (x.0 n) in
    let parts = map (λ (k : Operator × Part). let p : Operator × ReadingAt = (k.0, k.1.0) in p) xs in
    let rest = (in_order (operands_of n a w g xs)).fault in
    let both : earlier first.fault rest ≡ None = earlier_first (earlier first.fault rest)
    (unless (is_linear first.constant (factors n parts)) Code.NotLinear at) h in
    and_both (x.1 a w) (list_all (λ (part : Operator × Wording). part.1 a w) (map (λ (k : Operator × Part).
    let p : Operator × Wording = (k.0, k.1.1) in p) xs)) (part_reads n a w g Sort.Number x (earlier_first first.fault
    rest both)) (factors_read n a w g xs (earlier_second first.fault rest both))
layer (Expr-F.Number at number) n a w g h = refl
layer (Expr-F.True at) n a w g h = refl
layer (Expr-F.False at) n a w g h = refl
layer (Expr-F.Word at name None) n a w g h = word_reads n a w g name (found n name.text) (λ m e. e) h
layer (Expr-F.Word at name (Some x)) n a w g h =
    let f = (word_found n name true (found n name.text)).fault in
    let i = (needs Sort.Number (x.0 n)).fault in
    and_both (w name.text) (x.1 a w) (array_reads n a w g name (found n name.text) (λ m e. e) (earlier_first f i h))
    (part_reads n a w g Sort.Number x (earlier_second f i h))
layer (Expr-F.Brackets at x) n a w g h = x.2 n a w g h
layer (Expr-F.Quantified at which name range x) n a w g h =
    let inner = with_bound n name.text (Meaning.Bound name.at) in
    let b = (binding n name (Meaning.Bound name.at)).fault in
    let r = (range_reading n.bounds range).fault in
    let f = (needs (gathers which) (x.0 inner)).fault in
    part_reads inner (or_word a name.text) w (inside_found n a w name.text name.at g) (gathers which) x
    (earlier_second (earlier b r) f h)

pub expressions_read : ExpressionsRead
expressions_read e = two_expressions Reads read_layer words_layer layer e

-- assignments

all_hold : {X : Type 0} (f : X → Reading) (p : X → Bool) → ((x : X) → (f x).fault ≡ None → p x ≡ true) →
    (xs : List X) → (all_beside (map f xs)).fault ≡ None → list_all p xs ≡ true
all_hold f p one [] h = refl
all_hold f p one (x ∷ xs) h =
    let g = (all_beside (map f xs)).fault in
    and_both (p x) (list_all p xs) (one x (earlier_first (f x).fault g h))
    (all_hold f p one xs (earlier_second (f x).fault g h))

module _ (n : NameScope) (a w : WordTest) (g : FoundPass n a w) where
  needed : (sort : Sort) (e : Expr) → (needs sort (read e n)).fault ≡ None → words_pass e a w ≡ true
  needed sort e h = expressions_read e n a w g (needs_none sort (read e n) h)

  index_reads : (o : Option Expr) → (index_reading n o).fault ≡ None → words_pass_or_none o a w ≡ true
  index_reads None h = refl
  index_reads (Some e) h = needed Sort.Number e h

  whole_target : (t : Target) → (target_reading n t).fault ≡ None → target_words a w t ≡ true
  whole_target t h =
      let f = (target_head n t).fault in
      let i = (index_reading n t.index).fault in
      and_both (w t.name.text) (words_pass_or_none t.index a w)
      (target_reads n a w g t.name (is_some t.index) (found n t.name.text) (λ m e. e) (earlier_first f i h))
      (index_reads t.index (earlier_second f i h))

  condition_reads : (o : Option Expr) → (condition_reading n o).fault ≡ None → words_pass_or_none o a w ≡ true
  condition_reads None h = refl
  condition_reads (Some e) h = needed Sort.Boolean e h

  values_read : (ts : List Target) (es : List Expr) → length es ≡ length ts → (values_reading n ts es).fault ≡ None →
      list_all (λ e. words_pass e a w) es ≡ true
  values_read ts [] l h = refl
  values_read [] (e ∷ es) l h = absurd (omega (arith, l))
  values_read (t ∷ ts) (e ∷ es) l h =
      let f = (needs (target_head n t).sort (read e n)).fault in
      let rest = (values_reading n ts es).fault in
      and_both (words_pass e a w) (list_all (λ x. words_pass x a w) es)
      (needed (target_head n t).sort e (earlier_first f rest h))
      (values_read ts es (omega (arith, l)) (earlier_second f rest h))

  alternative_reads : (first : Target) (rest : List Target) (values : Values) (condition : Option Expr) →
      (alternative_reading n first rest values condition).fault ≡ None →
      alternative_words a w (values, condition) ≡ true
  alternative_reads first rest values condition h =
      let b = unless (nat_eq (length values.rest) (length rest)) Code.Arity values.at in
      let f = (values_reading n (first ∷ rest) (values.first ∷ values.rest)).fault in
      let c = (condition_reading n condition).fault in
      let l : length values.rest ≡ length rest = eqb-true (length values.rest) (length rest)
      (unless_none (nat_eq (length values.rest) (length rest)) Code.Arity values.at
      (earlier_first b (earlier f c) h)) in
      let i = earlier_second b (earlier f c) h in
      and_both (list_all (λ e. words_pass e a w) (values.first ∷ values.rest)) (words_pass_or_none condition a w)
      (values_read (first ∷ rest) (values.first ∷ values.rest) (omega (arith, l)) (earlier_first f c i))
      (condition_reads condition (earlier_second f c i))

  further_read : (first : Target) (rest : List Target) (xs : List (Values × Expr)) →
      (all_beside (map (further_reading n first rest) xs)).fault ≡ None →
      list_all (alternative_words a w) (map conditional xs) ≡ true
  further_read first rest [] h = refl
  further_read first rest (x ∷ xs) h =
      let f = (further_reading n first rest x).fault in
      let k = (all_beside (map (further_reading n first rest) xs)).fault in
      and_both (alternative_words a w (conditional x)) (list_all (alternative_words a w) (map conditional xs))
      (alternative_reads first rest x.0 (Some x.1) (earlier_first f k h)) (further_read first rest xs
      (earlier_second f k h))

  alternatives_read : (first : Target) (rest : List Target) (values : Values)
      (more : Option (Expr × List (Values × Expr))) → (alternatives_reading n first rest values more).fault ≡ None →
      list_all (alternative_words a w) (alternatives values more) ≡ true
  alternatives_read first rest values None h =
      and_both (alternative_words a w (values, None)) true (alternative_reads first rest values None h) refl
  alternatives_read first rest values (Some more) h =
      let f = (alternative_reading n first rest values (Some more.0)).fault in
      let k = (all_beside (map (further_reading n first rest) more.1)).fault in
      and_both (alternative_words a w (values, Some more.0))
      (list_all (alternative_words a w) (map conditional more.1))
      (alternative_reads first rest values (Some more.0) (earlier_first f k h))
      (further_read first rest more.1 (earlier_second f k h))

components_read : (n : NameScope) (a w : WordTest) → FoundPass n a w → (ks : List Part) →
    (all_beside (map (λ m. m n) (map (λ k. k.0) ks))).fault ≡ None →
    list_all (λ m. m a w) (map (λ k. k.1) ks) ≡ true
components_read n a w g [] h = refl
components_read n a w g (k ∷ ks) h =
    let rest = (all_beside (map (λ m. m n) (map (λ j. j.0) ks))).fault in
    and_both (k.1 a w) (list_all (λ m. m a w) (map (λ j. j.1) ks))
    (k.2 n a w g (earlier_first (k.0 n).fault rest h))
    (components_read n a w g ks (earlier_second (k.0 n).fault rest h))

component_reads : ComponentLayers Reads Reads component_layer component_words
component_reads (Component-F.Set at first rest alts) n a w g h =
    let f = (all_beside (map (target_reading n) (first ∷ rest))).fault in
    let k = (alternatives_reading n first rest alts.values alts.condition).fault in
    and_both (list_all (target_words a w) (first ∷ rest))
    (list_all (alternative_words a w) (alternatives alts.values alts.condition))
    (all_hold (target_reading n) (target_words a w) (whole_target n a w g) (first ∷ rest) (earlier_first f k h))
    (alternatives_read n a w g first rest alts.values alts.condition (earlier_second f k h))
component_reads (Component-F.Quantified at name range x) n a w g h =
    let inner = with_bound n name.text (Meaning.Bound name.at) in
    let b = (binding n name (Meaning.Bound name.at)).fault in
    let r = (range_reading n.bounds range).fault in
    x.2 inner (or_word a name.text) w (inside_found n a w name.text name.at g)
    (earlier_second (earlier b r) (x.0 inner).fault h)

assign_reads : AssignLayers Reads Reads assign_layer assign_words
assign_reads y n a w g h =
    let f = (y.first.0 n).fault in
    let rest = (all_beside (map (λ m. m n) (map (λ k. k.0) y.rest))).fault in
    and_both (y.first.1 a w) (list_all (λ m. m a w) (map (λ k. k.1) y.rest))
    (y.first.2 n a w g (earlier_first f rest h)) (components_read n a w g y.rest (earlier_second f rest h))

pub assignments_read : AssignmentsRead
assignments_read a = (two_assignments Reads Reads component_layer assign_layer component_words assign_words
    component_reads assign_reads).1 a
