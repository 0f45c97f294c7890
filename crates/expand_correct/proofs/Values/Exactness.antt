-- What is exact by its names becomes exact.
use Rattle.std.proofs.Common.{◌≡◌, ℕ, ℤ, pos, List, [], ◌∷◌, map, Bool, true, false, cond, not, ◌&&◌, ◌||◌, Option}
use Rattle.std.proofs.Common.{Some, None, option_map, refl, ap, ◌∙◌}
use Rattle.std.specs.Prelude.{fold}
use Rattle.std.specs.List.{list_all}
use Rattle.std.specs.Map.{lookup}
use Rattle.std.specs.Option.{option_or}
use Rattle.std.specs.Str.{bytes_eq}
use Rattle.case_tables.specs.declared.symbol_table.Symbol.{Symbol}
use Rattle.case_tables.specs.declared.word_table.Word.{Word}
use Rattle.unity_syntax.specs.declared.name.End.{End}
use Rattle.unity_syntax.specs.declared.name.Range.{Range}
use Rattle.unity_syntax.specs.declared.expression.Expr.{Expr}
use Rattle.unity_syntax.specs.declared.expression.Expr.TheOpen.{Expr-F}
use Rattle.unity_syntax.specs.declared.expression.Operator.{Operator}
use Rattle.unity_syntax.specs.declared.statement.Target.{Target}
use Rattle.unity_syntax.specs.declared.statement.Values.{Values}
use Rattle.unity_syntax.specs.declared.statement.Component.TheOpen.{Component-F}
use Rattle.unity_syntax.specs.TwoFolds.{Related, ExpressionLayers, ComponentLayers, AssignLayers}
use Rattle.unity_syntax.proofs.ExpressionFolds.{two_expressions}
use Rattle.unity_syntax.proofs.AssignmentFolds.{two_assignments}
use Rattle.meaning_documents.specs.Names.{Variable}
use Rattle.meaning_documents.specs.Writes.{alternatives, conditional}
use Rattle.names_rules.specs.declared.named.Meaning.{Meaning}
use Rattle.names_rules.specs.declared.named.Named.{Named}
use Rattle.names_rules.specs.Scope.{Scope as NameScope, found, is_param, with_bound, bound_named, visible}
use Rattle.meaning_documents.specs.Names.{variable_named}
use Rattle.names_laws.specs.Attributes as names
use Rattle.names_laws.specs.Attributes.{Attributes, Attributed, attributes, attribute_layer, exact_in}
use Rattle.names_laws.specs.AssignmentLaws.{Exactness, is_exact_or_none, has_exact_index, is_exact_alternative}
use Rattle.names_laws.specs.AssignmentLaws.{is_exact_further, are_exact_alternatives, exact_component, exact_assign}
use Rattle.expand_rules.specs.declared.cores.Core.{Core}
use Rattle.expand_rules.specs.declared.cores.Bound.{Bound}
use Rattle.core_terms.specs.Folding.{quotient_term, remainder_term}
use Rattle.expand_rules.specs.declared.cores.Formed.{Formed}
use Rattle.core_terms.specs.declared.trees.CTerm.{CTerm}
use Rattle.core_terms.specs.declared.trees.CForm.{CForm}
use Rattle.expand_rules.specs.declared.effects.Count.{Count}
use Rattle.expand_rules.specs.declared.effects.Effect.{Effect}
use Rattle.expand_rules.specs.Forming.{Scope, with_number, as_truth, as_number, sum, difference, product, divided}
use Rattle.expand_rules.specs.Forming.{quotient_weight, remainder_weight, factor_at, forming, unwritten_count}
use Rattle.expand_rules.specs.Forming.{factored, implication, conjunction, disjunction, denial, equation_by, comparison}
use Rattle.expand_rules.specs.Forming.{signed, plus, array_formed, element_by, element_of, formed_or_zero}
use Rattle.expand_rules.specs.Forming.{bound_formed, variable_formed, word_formed, gathered_by, gathered}
use Rattle.expand_rules.specs.Forming.{number_constant, stands_for_number, is_number_end, is_fixed_range, numbers}
use Rattle.expand_rules.specs.Forming.{fit_values}
use Rattle.expand_rules.specs.Forming.{Forming, form_layer, formed}
use Rattle.expand_rules.specs.Assigning.{nothing, beside, write_to, element_effect, indexed_effect, target_effect}
use Rattle.expand_rules.specs.Assigning.{is_outside}
use Rattle.expand_rules.specs.Assigning.{index_formed, paired_effect, condition, alternative_effect, all_beside}
use Rattle.expand_rules.specs.Assigning.{Effecting, component_layer, assign_layer}
use Rattle.expand_correct.specs.Values.ExactLaws.{Agrees, ExpressionsExact, ExpressionsConstant, AssignmentsExact}
use Rattle.core_terms.proofs.BoolLaws.{and_left, and_right}

-- what is told of an expression by its names holds of what it becomes
pub record Keeps (a : Attributes) (x : Formed) : Type 0 where
  pub constant : a.constant ≡ true → x.constant ≡ true
  pub exact : a.exact ≡ true → x.exact ≡ true

both_true : (a b : Bool) → a ≡ true → b ≡ true → (a && b) ≡ true
both_true true b h i = i
both_true false b h i = h

or_left : (a b : Bool) → a ≡ true → (a || b) ≡ true
or_left true b h = refl
or_left false b h = cc h

or_right : (a b : Bool) → b ≡ true → (a || b) ≡ true
or_right true b h = refl
or_right false b h = h

either : (a b c d : Bool) → (a ≡ true → c ≡ true) → (b ≡ true → d ≡ true) → (a || b) ≡ true → (c || d) ≡ true
either true b c d f g h = or_left c d (f refl)
either false b c d f g h = or_right c d (g h)

-- an operation that is constant and exact where both its parts are
pub record IsPlain (op : Formed → Formed → Formed) : Type 0 where
  pub constant : (x y : Formed) → x.constant ≡ true → y.constant ≡ true → (op x y).constant ≡ true
  pub exact : (x y : Formed) → x.exact ≡ true → y.exact ≡ true → (op x y).exact ≡ true

plainly : (op : Formed → Formed → Formed) → ((x y : Formed) → (op x y).constant ≡ (x.constant && y.constant)) →
    ((x y : Formed) → (op x y).exact ≡ (x.exact && y.exact)) → IsPlain op
plainly op c e = record {
  constant = λ x y h i. c x y ∙ both_true x.constant y.constant h i;
  exact = λ x y h i. e x y ∙ both_true x.exact y.exact h i;
}

sum_plain : IsPlain sum
sum_plain = plainly sum (λ x y. refl) (λ x y. refl)

difference_plain : IsPlain difference
difference_plain = plainly difference (λ x y. refl) (λ x y. refl)

conjunction_plain : IsPlain conjunction
conjunction_plain = plainly conjunction (λ x y. refl) (λ x y. refl)

disjunction_plain : IsPlain disjunction
disjunction_plain = plainly disjunction (λ x y. refl) (λ x y. refl)

implication_plain : IsPlain implication
implication_plain = plainly implication (λ x y. refl) (λ x y. refl)

equation_plain : (c d : Core) → IsPlain (equation_by c d)
equation_plain (Core.Truth f k) (Core.Truth g l) = record {
  constant = λ x y h i. both_true _ _ (both_true x.constant y.constant h i) (both_true y.constant x.constant i h);
  exact = λ x y h i. both_true _ _ (both_true x.exact y.exact h i) (both_true y.exact x.exact i h);
}
equation_plain (Core.Truth f k) (Core.Number t l) = plainly _ (λ x y. refl) (λ x y. refl)
equation_plain (Core.Number t k) (Core.Truth g l) = plainly _ (λ x y. refl) (λ x y. refl)
equation_plain (Core.Number t k) (Core.Number u l) = plainly _ (λ x y. refl) (λ x y. refl)

three : (a b : Bool) → a ≡ true → b ≡ true → ((a && b) && true) ≡ true
three a b h i = both_true (a && b) true (both_true a b h i) refl

comparison_plain : (r : Symbol) → IsPlain (comparison r)
comparison_plain Symbol.Equal = record {
  constant = λ x y h i. (equation_plain x.core y.core).constant x y h i;
  exact = λ x y h i. (equation_plain x.core y.core).exact x y h i;
}
comparison_plain Symbol.NotEqual = record {
  constant = λ x y h i. (equation_plain x.core y.core).constant x y h i;
  exact = λ x y h i. (equation_plain x.core y.core).exact x y h i;
}
comparison_plain Symbol.Below = record {
  constant = λ x y h i. three y.constant x.constant i h;
  exact = λ x y h i. three y.exact x.exact i h;
}
comparison_plain Symbol.AtMost = record {
  constant = λ x y h i. both_true y.constant x.constant i h;
  exact = λ x y h i. both_true y.exact x.exact i h;
}
comparison_plain Symbol.Above = record {
  constant = λ x y h i. three x.constant y.constant h i;
  exact = λ x y h i. three x.exact y.exact h i;
}
comparison_plain Symbol.AtLeast = plainly _ (λ x y. refl) (λ x y. refl)
comparison_plain _ = plainly _ (λ x y. refl) (λ x y. refl)

plus_plain : (o : Symbol) → IsPlain (λ x y. plus x (o, y))
plus_plain Symbol.Minus = plainly _ (λ x y. refl) (λ x y. refl)
plus_plain _ = plainly _ (λ x y. refl) (λ x y. refl)

keeps_both : (op : Formed → Formed → Formed) → IsPlain op → (a b : Attributes) (x y : Formed) → Keeps a x → Keeps b y
    →
    Keeps (names.both a b) (op x y)
keeps_both op p a b x y h i = record {
  constant = λ e. p.constant x y (h.constant (and_left a.constant b.constant e))
      (i.constant (and_right a.constant b.constant e));
  exact = λ e. p.exact x y (h.exact (and_left a.exact b.exact e)) (i.exact (and_right a.exact b.exact e));
}

keeps_product : (a b : Attributes) (x y : Formed) → Keeps a x → Keeps b y →
    Keeps (names.operated Operator.Times a b) (product x y)
keeps_product a b x y h i = record {
  constant = λ e. both_true x.constant y.constant (h.constant (and_left a.constant b.constant e))
      (i.constant (and_right a.constant b.constant e));
  exact = λ e.
      let parts = and_right (a.constant || b.constant) (a.exact && b.exact) e in
      both_true (x.constant || y.constant) (x.exact && y.exact)
      (either a.constant b.constant x.constant y.constant h.constant i.constant (and_left (a.constant || b.constant)
      (a.exact && b.exact) e))
      (both_true x.exact y.exact (h.exact (and_left a.exact b.exact parts)) (i.exact (and_right a.exact b.exact
      parts)));
}

keeps_divided : (op : ℤ → CTerm → CTerm) (weight : ℕ → ℕ → ℕ) (at : ℕ) (a b : Attributes) (x y : Formed) →
    Keeps a x → Keeps b y → Keeps (names.operated Operator.Div a b) (divided op weight at x y)
keeps_divided op weight at a b x y h i = record {
  constant = λ e. both_true x.constant y.constant (h.constant (and_left a.constant b.constant e))
      (i.constant (and_right a.constant b.constant e));
  exact = λ e.
      let parts = and_right b.constant (a.exact && b.exact) e in
      both_true y.constant (x.exact && y.exact) (i.constant (and_left b.constant (a.exact && b.exact) e))
      (both_true x.exact y.exact (h.exact (and_left a.exact b.exact parts)) (i.exact (and_right a.exact b.exact
      parts)));
}

keeps_factored : (o : Operator) (at : ℕ) (a b : Attributes) (x y : Formed) → Keeps a x → Keeps b y →
    Keeps (names.operated o a b) (factored x ((o, at), y))
keeps_factored Operator.Times at a b x y h i = keeps_product a b x y h i
keeps_factored Operator.Div at a b x y h i = keeps_divided quotient_term quotient_weight at a b x y h i
keeps_factored Operator.Mod at a b x y h i =
    let kept = keeps_divided remainder_term remainder_weight at a b x y h i in
    record { constant = kept.constant; exact = kept.exact }

signed_keeps : (minus : Bool) (a : Attributes) (x : Formed) → Keeps a x → Keeps a (signed minus x)
signed_keeps true a x h = record { constant = h.constant; exact = h.exact }
signed_keeps false a x h = record { constant = h.constant; exact = h.exact }

abbrev pub Kept : Attributed → Forming → Type 0
Kept f g = (n : NameScope) (s : Scope) → Agrees n s → Keeps (f n) (g.made s)

abbrev Part : Type 0
Part = Related Kept

keeps_all : (op : Formed → Formed → Formed) → IsPlain op → (n : NameScope) (s : Scope) → Agrees n s →
    (a : Attributes) (x : Formed) → Keeps a x → (ks : List Part) →
    Keeps (names.all a (map (λ m. m n) (map (λ k. k.0) ks))) (fold op x (map (λ m. m.made s) (map (λ k. k.1) ks)))
keeps_all op p n s g a x h [] = h
keeps_all op p n s g a x h (k ∷ ks) =
    keeps_all op p n s g (names.both a (k.0 n)) (op x (k.1.made s))
    (keeps_both op p a (k.0 n) x (k.1.made s) h (k.2 n s g)) ks

keeps_factors : (n : NameScope) (s : Scope) → Agrees n s → (a : Attributes) (x : Formed) → Keeps a x →
    (ks : List (Operator × Part)) →
    Keeps (names.factors a (map (λ (m : Operator × Attributed). (m.0, m.1 n)) (map (λ (k : Operator × Part).
    (k.0, k.1.0)) ks)))
    (fold factored x (map (factor_at s) (map (λ (k : Operator × Part).
    (k.0, k.1.1)) ks)))
keeps_factors n s g a x h [] = h
keeps_factors n s g a x h (k ∷ ks) =
    keeps_factors n s g (names.operated k.0 a (k.1.0 n)) (factored x (factor_at s (k.0, k.1.1)))
    (keeps_factored k.0 k.1.1.at a (k.1.0 n) x (k.1.1.made s) h (k.1.2 n s g)) ks

abbrev parts_of : List (Symbol × Part) → List (Symbol × Forming)
parts_of ks = map (λ (k : Symbol × Part). (k.0, k.1.1)) ks

abbrev told_of : List (Symbol × Part) → List (Symbol × Attributed)
told_of ks = map (λ (k : Symbol × Part). (k.0, k.1.0)) ks

keeps_sum : (n : NameScope) (s : Scope) → Agrees n s → (a : Attributes) (x : Formed) → Keeps a x →
    (ks : List (Symbol × Part)) →
    Keeps (names.all a (map (λ (part : Symbol × Attributed). part.1 n) (told_of ks)))
    (fold plus x (map (λ (part : Symbol × Forming). (part.0, part.1.made s)) (parts_of ks)))
keeps_sum n s g a x h [] = h
keeps_sum n s g a x h (k ∷ ks) =
    keeps_sum n s g (names.both a (k.1.0 n)) (plus x (k.0, k.1.1.made s)) (keeps_both (λ v w. plus v (k.0, w))
    (plus_plain k.0) a (k.1.0 n) x (k.1.1.made s) h (k.1.2 n s g)) ks

-- instances

keeps_joined : (op : Formed → Formed → Formed) → IsPlain op → (a : Attributes) (x : Formed) → Keeps a x →
    (f : ℤ → Formed) → ((z : ℤ) → Keeps a (f z)) →
    (zs : List ℤ) → Keeps a (fold op x (map f zs))
keeps_joined op p a x h f k [] = h
keeps_joined op p a x h f k (z ∷ zs) = keeps_joined op p a (op x (f z)) (record {
  constant = λ e. p.constant x (f z) (h.constant e) ((k z).constant e);
  exact = λ e. p.exact x (f z) (h.exact e) ((k z).exact e);
}) f k zs

keeps_gathered_by : (op : Formed → Formed → Formed) → IsPlain op → (none : Formed) → none.constant ≡ true →
    none.exact ≡ true →
    (one : Formed → Formed) → ((x : Formed) → (one x).constant ≡ x.constant) →
    ((x : Formed) → (one x).exact ≡ x.exact)
    →
    (a : Attributes) (f : ℤ → Formed) → ((z : ℤ) → Keeps a (f z)) → (zs : List ℤ) → Keeps a (gathered_by none one op
    (map f zs))
keeps_gathered_by op p none c e one oc oe a f k [] = record { constant = λ h. c; exact = λ h. e }
keeps_gathered_by op p none c e one oc oe a f k (z ∷ zs) = keeps_joined op p a (one (f z))
    (record { constant = λ h. oc (f z) ∙ (k z).constant h; exact = λ h. oe (f z) ∙ (k z).exact h }) f k zs

keeps_gathered : (which : Word) (a : Attributes) (f : ℤ → Formed) → ((z : ℤ) → Keeps a (f z)) → (zs : List ℤ) →
    Keeps a (gathered which (map f zs))
keeps_gathered Word.All a f k zs = keeps_gathered_by conjunction conjunction_plain _ refl refl as_truth (λ x. refl)
    (λ x. refl) a f k zs
keeps_gathered Word.Any a f k zs = keeps_gathered_by disjunction disjunction_plain _ refl refl as_truth (λ x. refl)
    (λ x. refl) a f k zs
keeps_gathered _ a f k zs = keeps_gathered_by sum sum_plain _ refl refl as_number (λ x. refl) (λ x. refl) a f k zs

-- ranges

some_number : (n : NameScope) (s : Scope) → Agrees n s → (word : List ℕ) (m : Option Meaning) → lookup (bytes_eq word)
    n.bounds ≡ m →
    names.means_number m ≡ true → stands_for_number (lookup (bytes_eq word) s.bound) ≡ true
some_number n s g word None e h = cc h
some_number n s g word (Some m) e h =
    let found = g.bounds word m e (not_true (is_param m) h) in ap stands_for_number found.1
  where
    not_true : (b : Bool) → not b ≡ true → b ≡ false
    not_true true i = cc i
    not_true false i = refl

fixed_end : (n : NameScope) (s : Scope) → Agrees n s → (e : End) → names.is_fixed_end n.bounds e ≡ true →
    is_number_end s.bound e ≡ true
fixed_end n s g (End.Number at minus number) h = refl
fixed_end n s g (End.Word at name offset) h = some_number n s g name.text (lookup (bytes_eq name.text) n.bounds) refl
    h

pub fixed_range : (n : NameScope) (s : Scope) → Agrees n s → (r : Range) → names.has_fixed_ends n.bounds r ≡ true →
    is_fixed_range s.bound r ≡ true
fixed_range n s g r h = both_true (is_number_end s.bound r.low) (is_number_end s.bound r.high)
    (fixed_end n s g r.low (and_left (names.is_fixed_end n.bounds r.low) (names.is_fixed_end n.bounds r.high) h))
    (fixed_end n s g r.high (and_right (names.is_fixed_end n.bounds r.low) (names.is_fixed_end n.bounds r.high) h))

-- what a word means where no name is bound
abbrev rest_of : NameScope → List ℕ → Option Named
rest_of n word = option_or (option_map (λ number. bound_named (Meaning.Param number))
    (lookup (bytes_eq word) n.params))
    (visible n.program (lookup (bytes_eq word) n.names))

-- what a word becomes where it is bound to this, or to nothing
abbrev word_by : Scope → List ℕ → Option Bound → Formed
word_by s word b = formed_or_zero (option_or (option_map bound_formed b) (option_or (lookup (bytes_eq word) s.always)
    (option_or (variable_formed (variable_named word s.variables)) (option_map number_constant (lookup (bytes_eq word)
    s.words)))))

-- inside a quantifier
pub agrees_inside : (n : NameScope) (s : Scope) → Agrees n s → (name : List ℕ) (at : ℕ) (z : ℤ) →
    Agrees (with_bound n name (Meaning.Bound at)) (with_number s name z)
agrees_inside n s g name at z = record {
  bounds = λ word m.
      elim (bytes_eq word name) as (λ b. cond b (Some (Meaning.Bound at)) (lookup (bytes_eq word) n.bounds) ≡ Some m →
      is_param m ≡ false →
      (y : ℤ) × (cond b (Some (Bound.Number z)) (lookup (bytes_eq word) s.bound) ≡ Some (Bound.Number y))) [
        | true ↦ λ e h. (z, refl)
        | false ↦ λ e h. g.bounds word m e h
      ];
  constant = λ word named.
      elim (bytes_eq word name) as (λ b. option_or (option_map bound_named (cond b (Some (Meaning.Bound at))
      (lookup (bytes_eq word) n.bounds))) (rest_of n word) ≡ Some named →
      named.constant ≡ true → (word_by s word (cond b (Some (Bound.Number z)) (lookup (bytes_eq word)
      s.bound))).constant ≡ true) [
        | true ↦ λ e h. refl
        | false ↦ λ e h. g.constant word named e h
      ];
  exact = λ word.
      elim (bytes_eq word name) as (λ b. (word_by s word (cond b (Some (Bound.Number z)) (lookup (bytes_eq word)
      s.bound))).exact ≡ true) [
        | true ↦ refl
        | false ↦ g.exact word
      ];
}

-- words

word_constant : (n : NameScope) (s : Scope) → Agrees n s → (word : List ℕ) (m : Option Named) → found n word ≡ m →
    names.is_constant_word m ≡ true → (word_formed s word).constant ≡ true
word_constant n s g word None e h = cc h
word_constant n s g word (Some named) e h = g.constant word named e h

typed_exact : (b : Bool) (a : Formed) → (cond b (as_truth a) a).exact ≡ a.exact
typed_exact true a = refl
typed_exact false a = refl

element_by_exact : (v : Variable) (i : Formed) (m : Option (ℤ × ℤ)) → (element_by v i m).exact ≡ i.exact
element_by_exact v i None = refl
element_by_exact v i (Some ends) = typed_exact v.is_truth (array_formed v i ends)

element_exact : (m : Option Variable) (i : Formed) → (element_of m i).exact ≡ i.exact
element_exact None i = refl
element_exact (Some v) i = element_by_exact v i v.indices

-- each kind of expression

constantly_keeps : (x : Formed) → x.constant ≡ true → x.exact ≡ true → Keeps names.constantly x
constantly_keeps x c e = record { constant = λ h. c; exact = λ h. e }

through_keeps : (a : Attributes) (x y : Formed) → y.constant ≡ x.constant → y.exact ≡ x.exact → Keeps a x → Keeps a y
through_keeps a x y c e h = record { constant = λ i. c ∙ h.constant i; exact = λ i. e ∙ h.exact i }

layer : ExpressionLayers Kept attribute_layer form_layer
layer (Expr-F.Implies at l r) n s g = keeps_both implication implication_plain (l.0 n) (r.0 n) (l.1.made s) (r.1.made s)
    (l.2 n s g) (r.2 n s g)
layer (Expr-F.And at x xs) n s g =
    keeps_all conjunction conjunction_plain n s g (x.0 n) (as_truth (x.1.made s)) (through_keeps (x.0 n) (x.1.made s)
    (as_truth (x.1.made s)) refl refl (x.2 n s g)) xs
layer (Expr-F.Or at x xs) n s g =
    keeps_all disjunction disjunction_plain n s g (x.0 n) (as_truth (x.1.made s)) (through_keeps (x.0 n) (x.1.made s)
    (as_truth (x.1.made s)) refl refl (x.2 n s g)) xs
layer (Expr-F.Not at x) n s g = through_keeps (x.0 n) (x.1.made s) (denial (x.1.made s)) refl refl (x.2 n s g)
layer (Expr-F.Compare at l r x) n s g = keeps_both (comparison r) (comparison_plain r) (l.0 n) (x.0 n)
    (l.1.made s) (x.1.made s) (l.2 n s g) (x.2 n s g)
layer (Expr-F.Sum at minus x xs) n s g = keeps_sum n s g (x.0 n) (signed minus (x.1.made s)) (signed_keeps minus (x.0 n)
    (x.1.made s) (x.2 n s g)) xs
layer (Expr-F.Product at x xs) n s g = keeps_factors n s g (x.0 n) (x.1.made s) (x.2 n s g) xs
layer (Expr-F.Number at number) n s g = constantly_keeps (number_constant (pos number)) refl refl
layer (Expr-F.True at) n s g = record { constant = λ h. refl; exact = λ h. refl }
layer (Expr-F.False at) n s g = record { constant = λ h. refl; exact = λ h. refl }
layer (Expr-F.Word at name None) n s g = record {
  constant = λ h. word_constant n s g name.text (found n name.text) refl h;
  exact = λ h. g.exact name.text;
}
layer (Expr-F.Word at name (Some x)) n s g = record {
  constant = λ h. cc h;
  exact = λ h. element_exact (variable_named name.text s.variables) (as_number (x.1.made s)) ∙ (x.2 n s g).exact h;
}
layer (Expr-F.Brackets at x) n s g = x.2 n s g
layer (Expr-F.Quantified at which name range of) n s g =
    let inner = λ (z : ℤ). of.1.made (with_number s name.text z) in
    let all = keeps_gathered which (of.0 (with_bound n name.text (Meaning.Bound name.at))) inner
    (λ z. of.2 (with_bound n name.text (Meaning.Bound name.at)) (with_number s name.text z)
    (agrees_inside n s g name.text name.at z))
    (fit_values (numbers s.bound) range) in
    record {
      constant = all.constant;
      exact = λ h.
          let told = of.0 (with_bound n name.text (Meaning.Bound name.at)) in
          both_true (is_fixed_range s.bound range) _ (fixed_range n s g range
          (and_left (names.has_fixed_ends n.bounds range)
          told.exact h))
          (all.exact (and_right (names.has_fixed_ends n.bounds range) told.exact h));
    }

pub kept_law : (e : Expr) → Kept (attributes e) (forming e)
kept_law e = two_expressions Kept attribute_layer form_layer layer e

pub expressions_exact : ExpressionsExact
expressions_exact e n s g h = (kept_law e n s g).exact h

pub expressions_constant : ExpressionsConstant
expressions_constant e n s g h = (kept_law e n s g).constant h

-- assignments

write_exact : (slot : Option ℕ) (c : CForm) (v : CTerm) (k : Count) → (write_to slot c v k).exact ≡ true
write_exact None c v k = refl
write_exact (Some m) c v k = refl

array_exact : (b : Bool) (e f : Effect) → e.exact ≡ true → f.exact ≡ true → (cond b e f).exact ≡ true
array_exact true e f h i = h
array_exact false e f h i = i

element_effect_exact : (i : Formed) (first : ℕ) (m : Option (ℤ × ℤ)) (c v : Formed) →
    (element_effect i first m c v).exact ≡ true
element_effect_exact i first None c v = refl
element_effect_exact i first (Some ends) c v = array_exact i.constant _ _ (write_exact _ _ _ _) refl

indexed_exact : (i : Formed) (x : Option Variable) (c v : Formed) → (indexed_effect i x c v).exact ≡ true
indexed_exact i None c v = refl
indexed_exact i (Some x) c v = element_effect_exact i x.first x.indices c v

module _ (n : NameScope) (s : Scope) (g : Agrees n s) where
  value_exact : (e : Expr) → exact_in e n ≡ true → (as_number (formed e s)).exact ≡ true
  value_exact e h = expressions_exact e n s g h

  target_exact : (d : Target) (e : Expr) (c : Formed) → has_exact_index n d ≡ true → exact_in e n ≡ true →
      (target_effect (variable_named d.name.text s.variables) (index_formed s d.index) c
      (as_number (formed e s)) (unwritten_count e s)).exact ≡ true
  target_exact d e c h i = by d.index h
    where
      by : (o : Option Expr) → is_exact_or_none n o ≡ true →
          (target_effect (variable_named d.name.text s.variables) (index_formed s o) c (as_number (formed e s))
          (unwritten_count e s)).exact ≡ true
      by None k = both_true _ _ (value_exact e i) (write_exact _ _ _ _)
      by (Some x) k = array_exact (is_outside (as_number (formed x s)) (variable_named d.name.text s.variables)) _ _
          (value_exact x k) (both_true _ _ (both_true _ _ (value_exact e i) (value_exact x k)) (indexed_exact
          (as_number (formed x s)) (variable_named d.name.text s.variables) c (as_number (formed e s))))

  paired_exact : (ts : List Target) (es : List Expr) (c : Formed) → list_all (has_exact_index n) ts ≡ true →
      list_all (λ e. exact_in e n) es ≡ true →
      (paired_effect s ts es c).exact ≡ true
  paired_exact [] es c h i = refl
  paired_exact (d ∷ ts) [] c h i = refl
  paired_exact (d ∷ ts) (e ∷ es) c h i = both_true _ _
      (target_exact d e c (and_left (has_exact_index n d) (list_all (has_exact_index n) ts) h)
      (and_left (exact_in e n)
      (list_all (λ x. exact_in x n) es) i))
      (paired_exact ts es c (and_right (has_exact_index n d) (list_all (has_exact_index n) ts) h)
      (and_right (exact_in e n) (list_all (λ x. exact_in x n) es) i))

  condition_exact : (o : Option Expr) → is_exact_or_none n o ≡ true → (condition s o).exact ≡ true
  condition_exact None h = refl
  condition_exact (Some e) h = value_exact e h

  alternative_exact : (ts : List Target) (values : Values) (o : Option Expr) → list_all (has_exact_index n) ts ≡ true
      →
      is_exact_alternative n values o ≡ true → (alternative_effect s ts (values, o)).exact ≡ true
  alternative_exact ts values o h i =
      let es = values.first ∷ values.rest in
      both_true _ _ (condition_exact o (and_right (list_all (λ e. exact_in e n) es) (is_exact_or_none n o) i))
      (paired_exact ts es (condition s o) h (and_left (list_all (λ e. exact_in e n) es) (is_exact_or_none n o) i))

  further_exact : (ts : List Target) (e : Effect) (more : List (Values × Expr)) → list_all (has_exact_index n) ts ≡
      true →
      e.exact ≡ true → list_all (is_exact_further n) more ≡ true →
      (all_beside e (map (alternative_effect s ts) (map conditional more))).exact ≡ true
  further_exact ts e [] h x i = x
  further_exact ts e (m ∷ more) h x i =
      further_exact ts (beside e (alternative_effect s ts (conditional m))) more h
      (both_true _ _ x (alternative_exact ts m.0 (Some m.1) h (and_left (is_exact_further n m)
      (list_all (is_exact_further n) more) i)))
      (and_right (is_exact_further n m) (list_all (is_exact_further n) more) i)

  alternatives_exact : (ts : List Target) (values : Values) (o : Option (Expr × List (Values × Expr))) →
      list_all (has_exact_index n) ts ≡ true →
      are_exact_alternatives n values o ≡ true →
      (all_beside nothing (map (alternative_effect s ts) (alternatives values o))).exact ≡ true
  alternatives_exact ts values None h i = both_true true _ refl (alternative_exact ts values None h i)
  alternatives_exact ts values (Some more) h i =
      further_exact ts (beside nothing (alternative_effect s ts (values, Some more.0))) more.1 h
      (both_true true _ refl (alternative_exact ts values (Some more.0) h (and_left (is_exact_alternative n values
      (Some more.0)) (list_all (is_exact_further n) more.1) i)))
      (and_right (is_exact_alternative n values (Some more.0)) (list_all (is_exact_further n) more.1) i)

abbrev pub Exactly : Exactness → Effecting → Type 0
Exactly f e = (n : NameScope) (s : Scope) → Agrees n s → f n ≡ true → (e s).exact ≡ true

abbrev Component : Type 0
Component = Related Exactly

instances_exact : (f : ℤ → Effect) → ((z : ℤ) → (f z).exact ≡ true) → (e : Effect) → e.exact ≡ true → (zs : List ℤ) →
    (all_beside e (map f zs)).exact ≡ true
instances_exact f k e h [] = h
instances_exact f k e h (z ∷ zs) = instances_exact f k (beside e (f z)) (both_true e.exact (f z).exact h (k z)) zs

component_exact : ComponentLayers Exactly Exactly exact_component component_layer
component_exact (Component-F.Set at first rest alts) n s g h =
    alternatives_exact n s g (first ∷ rest) alts.values alts.condition
    (and_left (list_all (has_exact_index n) (first ∷ rest)) (are_exact_alternatives n alts.values alts.condition) h)
    (and_right (list_all (has_exact_index n) (first ∷ rest)) (are_exact_alternatives n alts.values alts.condition) h)
component_exact (Component-F.Quantified at name range of) n s g h =
    let inner = of.0 (with_bound n name.text (Meaning.Bound name.at)) in
    both_true (is_fixed_range s.bound range) _ (fixed_range n s g range
    (and_left (names.has_fixed_ends n.bounds range) inner
    h))
    (instances_exact (λ z. of.1 (with_number s name.text z))
    (λ z. of.2 (with_bound n name.text (Meaning.Bound name.at)) (with_number s name.text z)
    (agrees_inside n s g name.text name.at z) (and_right (names.has_fixed_ends n.bounds range) inner h))
    nothing refl (fit_values (numbers s.bound) range))

rest_exact : (n : NameScope) (s : Scope) → Agrees n s → (e : Effect) → e.exact ≡ true → (ks : List Component) →
    list_all (λ m. m n) (map (λ k. k.0) ks) ≡ true → (all_beside e (map (λ m. m s) (map (λ k. k.1) ks))).exact ≡ true
rest_exact n s g e h [] i = h
rest_exact n s g e h (k ∷ ks) i = rest_exact n s g (beside e (k.1 s))
    (both_true e.exact (k.1 s).exact h (k.2 n s g (and_left (k.0 n) (list_all (λ m. m n) (map (λ j. j.0) ks)) i))) ks
    (and_right (k.0 n) (list_all (λ m. m n) (map (λ j. j.0) ks)) i)

assign_exact : AssignLayers Exactly Exactly exact_assign assign_layer
assign_exact y n s g h = rest_exact n s g (y.first.1 s)
    (y.first.2 n s g (and_left (y.first.0 n) (list_all (λ m. m n) (map (λ k. k.0) y.rest)) h)) y.rest
    (and_right (y.first.0 n) (list_all (λ m. m n) (map (λ k. k.0) y.rest)) h)

pub assignments_exact : AssignmentsExact
assignments_exact a n s g h =
    (two_assignments Exactly Exactly exact_component exact_assign component_layer assign_layer component_exact
    assign_exact).1 a n s g h
