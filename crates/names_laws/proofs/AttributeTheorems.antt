-- A reading without a fault and the attributes of its expression, by the kinds of expressions.
use Rattle.std.proofs.Common.{◌≡◌, ℕ, List, [], ◌∷◌, map, Bool, true, false, cond, not, ◌&&◌, Option, Some, None}
use Rattle.std.proofs.Common.{option_map, refl, sym, ap, ◌∙◌, subst}
use Rattle.std.specs.Map.{lookup}
use Rattle.std.specs.Option.{is_some, option_or}
use Rattle.std.specs.Str.{bytes_eq}
use Rattle.case_tables.specs.declared.code_table.Code.{Code}
use Rattle.case_tables.specs.declared.symbol_table.Symbol.{Symbol}
use Rattle.unity_syntax.specs.declared.name.End.{End}
use Rattle.unity_syntax.specs.declared.name.Name.{Name}
use Rattle.unity_syntax.specs.declared.name.Range.{Range}
use Rattle.unity_syntax.specs.declared.expression.Operator.{Operator}
use Rattle.unity_syntax.specs.declared.expression.Expr.{Expr}
use Rattle.unity_syntax.specs.declared.expression.Expr.TheOpen.{Expr-F}
use Rattle.unity_syntax.specs.TwoFolds.{Related, ExpressionLayers}
use Rattle.unity_syntax.proofs.ExpressionFolds.{two_expressions}
use Rattle.names_rules.specs.declared.named.Meaning.{Meaning}
use Rattle.names_rules.specs.declared.named.Sort.{Sort}
use Rattle.names_rules.specs.declared.named.Named.{Named}
use Rattle.names_rules.specs.Scope.{Scope, Table, Bounds, found, is_param, bound_named, is_visible, visible, with_bound}
use Rattle.names_rules.specs.Reading.{Fault, Reading, ReadingAt, earlier, unless, same_sort, needs, gathers, in_order}
use Rattle.names_rules.specs.Reading.{is_linear, left_side, same_bool, word_found, binding, range_reading, end_reading}
use Rattle.names_rules.specs.Reading.{end_word, read_layer, read, may_join, right_sides, product}
use Rattle.names_rules.specs.Reading.{factors as right_operands}
use Rattle.names_rules.proofs.Faults.{earlier_first, earlier_second, unless_none}
use Rattle.names_laws.specs.Attributes.{Attributes, Attributed, attributes, both, all, operated, factors, means_number}
use Rattle.names_laws.specs.Attributes.{is_fixed_end, has_fixed_ends, attribute_layer, word_attributes}
use Rattle.names_laws.specs.AttributeLaws.{VariesAsArray, ArraysVary, ExactWhereFaultless, ConstantAsRead}
use Rattle.names_laws.specs.AttributeLaws.{DocumentsVary}
use Rattle.names_laws.specs.AttributeLaws.{VariablesVary, DefinitionsVary}
use Rattle.names_laws.proofs.Tables.{each_variables, each_definitions, each_document}
use Rattle.unity_syntax.specs.declared.declaration.Var.{Var}
use Rattle.names_rules.specs.Declarations.{value_named, variable_named, always_named}
use Rattle.names_rules.specs.WellNamed.{nothing_declared}

-- where there is no fault, the reading and the attributes tell the same
abbrev pub Tells : Option Fault → Bool → Attributes → Type 0
Tells fault constant a = fault ≡ None → (a.constant ≡ constant) × (a.exact ≡ true)

abbrev pub Telling : ReadingAt → Attributed → Type 0
Telling m a = (s : Scope) → ArraysVary s.names → Tells (m s).fault (m s).constant (a s)

abbrev Part : Type 0
Part = Related Telling

abbrev readings : Sort → Scope → List Part → List Reading
readings sort s ks = map (λ m. needs sort (m s)) (map (λ k. k.0) ks)

abbrev tellings : Scope → List Part → List Attributes
tellings s ks = map (λ m. m s) (map (λ k. k.1) ks)

-- the further operands of a product with their operators, as they are read,
abbrev sided : Scope → List (Operator × Part) → List (Operator × Reading)
sided s ks = right_operands s (map (λ (k : Operator × Part). let m : Operator × ReadingAt = (k.0, k.1.0) in m) ks)

-- and with their attributes
abbrev sides_told : Scope → List (Operator × Part) → List (Operator × Attributes)
sides_told s ks =
    map (λ m. (m.0, m.1 s)) (map (λ (k : Operator × Part). let m : Operator × Attributed = (k.0, k.1.1) in m) ks)

pub and_both : (a b : Bool) → a ≡ true → b ≡ true → (a && b) ≡ true
and_both true b h k = k
and_both false b h k = cc

pub and_first : (a b : Bool) → (a && b) ≡ true → a ≡ true
and_first true b h = refl
and_first false b h = h

pub and_second : (a b : Bool) → (a && b) ≡ true → b ≡ true
and_second true b h = h
and_second false b h = cc h

and_assoc : (a b c : Bool) → ((a && b) && c) ≡ (a && (b && c))
and_assoc true b c = refl
and_assoc false b c = refl

and_true : (a : Bool) → (a && true) ≡ a
and_true true = refl
and_true false = refl

-- parts

tells_first : (f g : Option Fault) (c : Bool) (a : Attributes) → Tells f c a → Tells (earlier f g) c a
tells_first f g c a t h = t (earlier_first f g h)

tells_both : (f g : Option Fault) (c d : Bool) (a b : Attributes) → Tells f c a → Tells g d b →
    Tells (earlier f g) (c && d) (both a b)
tells_both f g c d a b t u h = let x = t (earlier_first f g h) in let y = u (earlier_second f g h) in
    (cc (x.0, y.0), and_both a.exact b.exact x.1 y.1)

module _ (s : Scope) (vary : ArraysVary s.names) where
  tells_part : (sort : Sort) (k : Part) → Tells (needs sort (k.0 s)).fault (k.0 s).constant (k.1 s)
  tells_part sort k = tells_first (k.0 s).fault _ (k.0 s).constant (k.1 s) (k.2 s vary)

  all_tell : (sort : Sort) (ks : List Part) (c : Bool) (a : Attributes) → (a.constant ≡ c) × (a.exact ≡ true) →
      Tells (in_order (readings sort s ks)).fault (c && (in_order (readings sort s ks)).constant)
      (all a (tellings s ks))
  all_tell sort [] c a t h = (t.0 ∙ sym (and_true c), t.1)
  all_tell sort (k ∷ ks) c a t h =
      let rest = in_order (readings sort s ks) in
      let f = (needs sort (k.0 s)).fault in
      let x = tells_part sort k (earlier_first f rest.fault h) in
      let y = all_tell sort ks (c && (k.0 s).constant) (both a (k.1 s))
      (cc (t.0, x.0), and_both a.exact (k.1 s).exact t.1 x.1) (earlier_second f rest.fault h) in
      (y.0 ∙ and_assoc c (k.0 s).constant rest.constant, y.1)

  factors_tell : (ks : List (Operator × Part)) (c : Bool) (a : Attributes) → (a.constant ≡ c) × (a.exact ≡ true) →
      is_linear c (sided s ks) ≡ true →
      Tells (in_order (right_sides (sided s ks))).fault (c && (in_order (right_sides (sided s ks))).constant)
      (factors a (sides_told s ks))
  factors_tell [] c a t l h = (t.0 ∙ sym (and_true c), t.1)
  factors_tell (k ∷ ks) c a t l h =
      let rest = in_order (right_sides (sided s ks)) in
      let f = (needs Sort.Number (k.1.0 s)).fault in
      let d = (k.1.0 s).constant in
      let b : Attributes = k.1.1 s in
      let more = is_linear (c && d) (sided s ks) in
      let x = tells_part Sort.Number k.1 (earlier_first f rest.fault h) in
      let joins : may_join k.0 a.constant b.constant ≡ true =
      ap (λ z. may_join k.0 z b.constant) t.0 ∙ ap (λ z. may_join k.0 c z) x.0 ∙ and_first (may_join k.0 c d) more l in
      let y = factors_tell ks (c && d) (operated k.0 a b) (
        cc (t.0, x.0),
        and_both (may_join k.0 a.constant b.constant) _ joins (and_both a.exact b.exact t.1 x.1),
      )
      (and_second (may_join k.0 c d) more l) (earlier_second f rest.fault h) in
      (y.0 ∙ and_assoc c d rest.constant, y.1)

  -- operands, from the first on
  operands_tell : (sort : Sort) (k : Part) (ks : List Part) →
      Tells (in_order (readings sort s (k ∷ ks))).fault (in_order (readings sort s (k ∷ ks))).constant
      (all (k.1 s) (tellings s ks))
  operands_tell sort k ks h =
      let f = (needs sort (k.0 s)).fault in
      let g = (in_order (readings sort s ks)).fault in
      all_tell sort ks (k.0 s).constant (k.1 s) (tells_part sort k (earlier_first f g h)) (earlier_second f g h)

  product_tells : (at : ℕ) (k : Part) (ks : List (Operator × Part)) →
      Tells (product at (needs Sort.Number (k.0 s)) (sided s ks)).fault
      (product at (needs Sort.Number (k.0 s)) (sided s ks)).constant (factors (k.1 s) (sides_told s ks))
  product_tells at k ks h =
      let f = (needs Sort.Number (k.0 s)).fault in
      let g = (in_order (right_sides (sided s ks))).fault in
      let linear = is_linear (k.0 s).constant (sided s ks) in
      let u = unless linear Code.NotLinear at in
      let i = earlier_first (earlier f g) u h in
      factors_tell ks (k.0 s).constant (k.1 s) (tells_part Sort.Number k (earlier_first f g i))
      (unless_none linear Code.NotLinear at (earlier_second (earlier f g) u h))
      (earlier_second f g i)

-- the parts of a sum, without their signs
abbrev bare : List (Symbol × Part) → List Part
bare ks = map (λ k. k.1) ks

abbrev reads : List (Symbol × Part) → List ReadingAt
reads ks = map (λ part. part.1) (map (λ (k : Symbol × Part). let p : Symbol × ReadingAt = (k.0, k.1.0) in p) ks)

abbrev told : Scope → List (Symbol × Part) → List Attributes
told s ks = map (λ part. part.1 s) (map (λ (k : Symbol × Part). let p : Symbol × Attributed = (k.0, k.1.1) in p) ks)

summands_read : (ks : List (Symbol × Part)) → map (λ k. k.0) (bare ks) ≡ reads ks
summands_read [] = refl
summands_read (k ∷ ks) = ap (λ more. k.1.0 ∷ more) (summands_read ks)

summands_told : (s : Scope) (ks : List (Symbol × Part)) → tellings s (bare ks) ≡ told s ks
summands_told s [] = refl
summands_told s (k ∷ ks) = ap (λ more. k.1.1 s ∷ more) (summands_told s ks)

abbrev SumTells : Scope → Part → List ReadingAt → List Attributes → Type 0
SumTells s x ms parts = let r = in_order (map (λ m. needs Sort.Number (m s)) (x.0 ∷ ms)) in
    Tells r.fault r.constant (all (x.1 s) parts)

sum_tells : (s : Scope) → ArraysVary s.names → (x : Part) (xs : List (Symbol × Part)) →
    SumTells s x (reads xs) (told s xs)
sum_tells s vary x xs = subst (λ parts. SumTells s x (reads xs) parts) (summands_told s xs)
    (subst (λ ms. SumTells s x ms (tellings s (bare xs))) (summands_read xs)
    (operands_tell s vary Sort.Number x (bare xs)))

-- words

left_tells : (relation : Symbol) (r : Reading) (a : Attributes) → Tells r.fault r.constant a →
    Tells (left_side relation r).fault (left_side relation r).constant a
left_tells Symbol.Equal r a t = t
left_tells Symbol.NotEqual r a t = t
left_tells _ r a t = tells_first r.fault (unless (same_sort r.sort Sort.Number) Code.WrongType r.at) r.constant a t

bound_varies : (m : Meaning) (n : Named) → Some (bound_named m) ≡ Some n → VariesAsArray n
bound_varies m n e i = let same : bound_named m ≡ n = cc in
    cc (ap (λ (x : Named). is_some x.indices) same)

visible_varies : (program : Option ℕ) (t : Option Named) → ((n : Named) → t ≡ Some n → VariesAsArray n) →
    (n : Named) → visible program t ≡ Some n → VariesAsArray n
visible_varies program None vary n e = cc e
visible_varies program (Some m) vary n e = by (is_visible program m) e
  where
    by : (b : Bool) → cond b (Some m) None ≡ Some n → VariesAsArray n
    by true e = vary n e
    by false e = cc e

found_varies : (b : Option Meaning) (p : Option ℕ) (program : Option ℕ) (t : Option Named) →
    ((n : Named) → t ≡ Some n → VariesAsArray n) → (n : Named) →
    option_or (option_map bound_named b)
    (option_or (option_map (λ number. bound_named (Meaning.Param number)) p) (visible program t)) ≡ Some n →
    VariesAsArray n
found_varies (Some m) p program t vary n e = bound_varies m n e
found_varies None (Some number) program t vary n e = bound_varies (Meaning.Param number) n e
found_varies None None program t vary n e = visible_varies program t vary n e

word_tells : (s : Scope) (name : Name) (n : Option Named) →
    Tells (word_found s name false n).fault (word_found s name false n).constant (word_attributes n None)
word_tells s name None h = cc h
word_tells s name (Some n) h = (refl, refl)

same_true : (b : Bool) → same_bool b true ≡ true → b ≡ true
same_true true h = refl
same_true false h = cc h

element_tells : (s : Scope) (name : Name) (n : Option Named) (r : Reading) (a : Attributes) →
    ((m : Named) → n ≡ Some m → VariesAsArray m) → Tells r.fault r.constant a →
    Tells (earlier (word_found s name true n).fault (needs Sort.Number r).fault)
    ((word_found s name true n).constant && r.constant) (word_attributes n (Some a))
element_tells s name None r a vary t h = cc h
element_tells s name (Some m) r a vary t h =
    let u = unless (same_bool (is_some m.indices) true) Code.WrongType name.at in
    let f = (needs Sort.Number r).fault in
    let array = same_true (is_some m.indices)
    (unless_none (same_bool (is_some m.indices) true) Code.WrongType name.at (earlier_first u f h)) in (
      sym (ap (λ c. c && r.constant) (vary m refl array)),
      (t (earlier_first r.fault (unless (same_sort r.sort Sort.Number) Code.WrongType r.at) (earlier_second u f h))).1,
    )

-- range ends

number_read : (name : Name) (m : Option Meaning) → (end_word name m).fault ≡ None → means_number m ≡ true
number_read name None h = cc h
number_read name (Some m) h = unless_none (not (is_param m)) Code.NotConstant name.at h

end_fixed : (bounds : Bounds) (e : End) → (end_reading bounds e).fault ≡ None → is_fixed_end bounds e ≡ true
end_fixed bounds (End.Number at minus number) h = refl
end_fixed bounds (End.Word at name offset) h = number_read name (lookup (bytes_eq name.text) bounds) h

pub range_fixed : (bounds : Bounds) (r : Range) → (range_reading bounds r).fault ≡ None → has_fixed_ends bounds r ≡ true
range_fixed bounds r h =
    let f = (end_reading bounds r.low).fault in
    let g = (end_reading bounds r.high).fault in
    and_both (is_fixed_end bounds r.low) (is_fixed_end bounds r.high)
    (end_fixed bounds r.low (earlier_first f g h)) (end_fixed bounds r.high (earlier_second f g h))

layer : ExpressionLayers Telling read_layer attribute_layer
layer (Expr-F.Implies at l r) s vary = operands_tell s vary Sort.Boolean l (r ∷ [])
layer (Expr-F.And at x xs) s vary = operands_tell s vary Sort.Boolean x xs
layer (Expr-F.Or at x xs) s vary = operands_tell s vary Sort.Boolean x xs
layer (Expr-F.Not at x) s vary = tells_part s vary Sort.Boolean x
layer (Expr-F.Compare at l relation r) s vary =
    let left = left_side relation (l.0 s) in
    tells_both left.fault (needs left.sort (r.0 s)).fault left.constant (r.0 s).constant (l.1 s) (r.1 s)
    (left_tells relation (l.0 s) (l.1 s) (l.2 s vary)) (tells_part s vary left.sort r)
layer (Expr-F.Sum at minus x xs) s vary = sum_tells s vary x xs
layer (Expr-F.Product at x xs) s vary = product_tells s vary at x xs
layer (Expr-F.Number at number) s vary = λ h. (refl, refl)
layer (Expr-F.True at) s vary = λ h. (refl, refl)
layer (Expr-F.False at) s vary = λ h. (refl, refl)
layer (Expr-F.Word at name None) s vary = word_tells s name (found s name.text)
layer (Expr-F.Word at name (Some x)) s vary =
    element_tells s name (found s name.text) (x.0 s) (x.1 s)
    (found_varies (lookup (bytes_eq name.text) s.bounds) (lookup (bytes_eq name.text) s.params) s.program
    (lookup (bytes_eq name.text) s.names) (vary name.text)) (x.2 s vary)
layer (Expr-F.Brackets at x) s vary = x.2 s vary
layer (Expr-F.Quantified at which name range x) s vary = λ h.
    let inner = with_bound s name.text (Meaning.Bound name.at) in
    let b = (binding s name (Meaning.Bound name.at)).fault in
    let r = (range_reading s.bounds range).fault in
    let f = (needs (gathers which) (x.0 inner)).fault in
    let t = tells_part inner vary (gathers which) x (earlier_second (earlier b r) f h) in (
      t.0,
      and_both (has_fixed_ends s.bounds range) (x.1 inner).exact
          (range_fixed s.bounds range (earlier_second b r (earlier_first (earlier b r) f h))) t.1,
    )

tells : (e : Expr) → Telling (read e) (attributes e)
tells e = two_expressions Telling read_layer attribute_layer layer e

pub exact_where_faultless : ExactWhereFaultless
exact_where_faultless e s vary h = (tells e s vary h).1

pub constant_as_read : ConstantAsRead
constant_as_read e s vary h = (tells e s vary h).0

-- the tables of a document

variable_varies : (program : ℕ) (names : Table) (v : Var) → VariesAsArray (variable_named program names v)
variable_varies program names v h = refl

again_varies : (n : Named) (program : ℕ) → VariesAsArray n → VariesAsArray (record n { program = program })
again_varies n program varies = varies

value_varies : (sort : Sort) (number : ℕ) → VariesAsArray (value_named sort number)
value_varies sort number h = cc h

definition_varies : (program at : ℕ) (r : Reading) → VariesAsArray (always_named program at r)
definition_varies program at r h = cc h

pub documents_vary : DocumentsVary
documents_vary parts =
    each_document VariesAsArray variable_varies again_varies value_varies definition_varies nothing_declared parts
    (λ word n e. cc e)

pub variables_vary : VariablesVary
variables_vary = each_variables VariesAsArray variable_varies again_varies value_varies definition_varies

pub definitions_vary : DefinitionsVary
definitions_vary = each_definitions VariesAsArray variable_varies again_varies value_varies definition_varies
