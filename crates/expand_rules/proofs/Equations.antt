-- What each kind of expression becomes, one equation for each.
use Rattle.std.proofs.Common.{◌≡◌, ℕ, pos, List, [], ◌∷◌, map, Bool, Option, Some, None, refl, sym, ap, ◌∙◌}
use Rattle.std.specs.Prelude.{fold}
use Rattle.core_terms.specs.from_case_tables.declared.symbol_table.Symbol.{Symbol}
use Rattle.core_terms.specs.from_case_tables.declared.word_table.Word.{Word}
use Rattle.names_rules.specs.from_unity_syntax.declared.name.Name.{Name}
use Rattle.names_rules.specs.from_unity_syntax.declared.name.Range.{Range}
use Rattle.names_rules.specs.from_unity_syntax.declared.expression.Expr
use Rattle.names_rules.specs.from_unity_syntax.declared.expression.Expr.{Expr, roll-Expr, fold-roll-Expr}
use Rattle.names_rules.specs.from_unity_syntax.declared.expression.Expr.TheFolds.{map-Expr}
use Rattle.names_rules.specs.from_unity_syntax.declared.expression.Expr.TheOpen.{Expr-F}
use Rattle.names_rules.specs.from_unity_syntax.declared.expression.Operator.{Operator}
use Rattle.names_rules.specs.from_unity_syntax.declared.expression.Expr.TheVariants.{rolls-Implies, rolls-And, rolls-Or}
use Rattle.names_rules.specs.from_unity_syntax.declared.expression.Expr.TheVariants.{rolls-Not}
use Rattle.names_rules.specs.from_unity_syntax.declared.expression.Expr.TheVariants.{rolls-Compare, rolls-Sum}
use Rattle.names_rules.specs.from_unity_syntax.declared.expression.Expr.TheVariants.{rolls-Product}
use Rattle.names_rules.specs.from_unity_syntax.declared.expression.Expr.TheVariants.{rolls-Number, rolls-True}
use Rattle.names_rules.specs.from_unity_syntax.declared.expression.Expr.TheVariants.{rolls-False, rolls-Word}
use Rattle.names_rules.specs.from_unity_syntax.declared.expression.Expr.TheVariants.{rolls-Brackets, rolls-Quantified}
use Rattle.meaning_documents.specs.Names.{variable_named}
use Rattle.core_terms.specs.declared.trees.CForm.TheVariants.{Top, Bottom}
use Rattle.expand_rules.specs.Counts.{no_count, both_counts, one_node_more}
use Rattle.expand_rules.specs.Forming.{Scope, with_number, as_number, as_truth, number_constant, truth_constant}
use Rattle.expand_rules.specs.Forming.{factored, denial, conjunction, disjunction, implication, comparison, signed}
use Rattle.expand_rules.specs.Forming.{plus, word_formed, element_of, gathered, numbers, fit_values, quantified}
use Rattle.expand_rules.specs.Forming.{Forming, place_layer, factor_at, made_layer, operand_at, unwritten_layer}
use Rattle.expand_rules.specs.Forming.{form_layer, forming, first_byte, formed, unwritten_count, factor_in, operand_in}
use Rattle.expand_rules.specs.Forming.{quantified_count}

pub map_twice : {A B C : Type 0} (f : A → B) (g : B → C) (xs : List A) → map g (map f xs) ≡ map (λ x. g (f x)) xs
map_twice f g [] = refl
map_twice f g (x ∷ xs) = ap (λ ys. g (f x) ∷ ys) (map_twice f g xs)

unrolls : (d : Expr-F Expr) (e : Expr) → roll-Expr d ≡ e → forming e ≡ form_layer (map-Expr Expr Forming forming d)
unrolls d e same = ap forming (sym same) ∙ fold-roll-Expr Forming form_layer d

unfolds : (d : Expr-F Expr) (e : Expr) → roll-Expr d ≡ e → (s : Scope) → formed e s ≡ made_layer
    (map-Expr Expr Forming forming d) s
unfolds d e same s = ap (λ (m : Forming). m.made s) (unrolls d e same)

leaves : (d : Expr-F Expr) (e : Expr) → roll-Expr d ≡ e → (s : Scope) → unwritten_count e s ≡ unwritten_layer
    (map-Expr Expr Forming forming d) s
leaves d e same s = ap (λ (m : Forming). m.unwritten s) (unrolls d e same)

stands : (d : Expr-F Expr) (e : Expr) → roll-Expr d ≡ e → first_byte e ≡ place_layer (map-Expr Expr Forming forming d)
stands d e same = ap (λ (m : Forming). m.at) (unrolls d e same)

pub formed-Implies : (at : ℕ) (l r : Expr) (s : Scope) → formed (Expr.Implies at l r) s ≡ implication (formed l s)
    (formed r s)
formed-Implies at l r s = unfolds _ _ (rolls-Implies at l r) s

pub formed-And : (at : ℕ) (x : Expr) (xs : List Expr) (s : Scope) →
    formed (Expr.And at x xs) s ≡ fold conjunction (as_truth (formed x s)) (map (λ e. formed e s) xs)
formed-And at x xs s = unfolds _ _ (rolls-And at x xs) s ∙ ap (fold conjunction (as_truth (formed x s)))
    (map_twice forming (λ m. m.made s) xs)

pub formed-Or : (at : ℕ) (x : Expr) (xs : List Expr) (s : Scope) →
    formed (Expr.Or at x xs) s ≡ fold disjunction (as_truth (formed x s)) (map (λ e. formed e s) xs)
formed-Or at x xs s = unfolds _ _ (rolls-Or at x xs) s ∙ ap (fold disjunction (as_truth (formed x s)))
    (map_twice forming (λ m. m.made s) xs)

pub formed-Not : (at : ℕ) (x : Expr) (s : Scope) → formed (Expr.Not at x) s ≡ denial (formed x s)
formed-Not at x s = unfolds _ _ (rolls-Not at x) s

pub formed-Compare : (at : ℕ) (l : Expr) (r : Symbol) (x : Expr) (s : Scope) →
    formed (Expr.Compare at l r x) s ≡ comparison r (formed l s) (formed x s)
formed-Compare at l r x s = unfolds _ _ (rolls-Compare at l r x) s

pub formed-Sum : (at : ℕ) (minus : Bool) (x : Expr) (xs : List (Symbol × Expr)) (s : Scope) →
    formed (Expr.Sum at minus x xs) s ≡ fold plus (signed minus (formed x s)) (map (λ (p : Symbol × Expr).
    (p.0, formed p.1 s)) xs)
formed-Sum at minus x xs s = unfolds _ _ (rolls-Sum at minus x xs) s
    ∙ ap (fold plus (signed minus (formed x s))) (map_twice (λ (p : Symbol × Expr). (p.0, forming p.1))
    (λ (p : Symbol × Forming). (p.0, p.1.made s)) xs)

pub formed-Product : (at : ℕ) (x : Expr) (xs : List (Operator × Expr)) (s : Scope) →
    formed (Expr.Product at x xs) s ≡ fold factored (formed x s) (map (factor_in s) xs)
formed-Product at x xs s = unfolds _ _ (rolls-Product at x xs) s
    ∙ ap (fold factored (formed x s)) (map_twice (λ (p : Operator × Expr). (p.0, forming p.1)) (factor_at s) xs)

pub formed-Number : (at n : ℕ) (s : Scope) → formed (Expr.Number at n) s ≡ number_constant (pos n)
formed-Number at n s = unfolds _ _ (rolls-Number at n) s

pub formed-True : (at : ℕ) (s : Scope) → formed (Expr.True at) s ≡ truth_constant Top
formed-True at s = unfolds _ _ (rolls-True at) s

pub formed-False : (at : ℕ) (s : Scope) → formed (Expr.False at) s ≡ truth_constant Bottom
formed-False at s = unfolds _ _ (rolls-False at) s

pub formed-Word : (at : ℕ) (name : Name) (s : Scope) → formed (Expr.Word at name None) s ≡ word_formed s name.text
formed-Word at name s = unfolds _ _ (rolls-Word at name None) s

pub formed-Element : (at : ℕ) (name : Name) (x : Expr) (s : Scope) →
    formed (Expr.Word at name (Some x)) s ≡ element_of (variable_named name.text s.variables) (as_number (formed x s))
formed-Element at name x s = unfolds _ _ (rolls-Word at name (Some x)) s

pub formed-Brackets : (at : ℕ) (x : Expr) (s : Scope) → formed (Expr.Brackets at x) s ≡ formed x s
formed-Brackets at x s = unfolds _ _ (rolls-Brackets at x) s

pub formed-Quantified : (at : ℕ) (which : Word) (name : Name) (range : Range) (of : Expr) (s : Scope) →
    formed (Expr.Quantified at which name range of) s ≡
    quantified s.bound range (gathered which (map (λ z. formed of (with_number s name.text z))
    (fit_values (numbers s.bound) range)))
formed-Quantified at which name range of s = unfolds _ _ (rolls-Quantified at which name range of) s

-- what counts of each kind where it is written nowhere

pub unwritten-Implies : (at : ℕ) (l r : Expr) (s : Scope) →
    unwritten_count (Expr.Implies at l r) s ≡ both_counts (unwritten_count l s) (unwritten_count r s)
unwritten-Implies at l r s = leaves _ _ (rolls-Implies at l r) s

pub unwritten-And : (at : ℕ) (x : Expr) (xs : List Expr) (s : Scope) → unwritten_count (Expr.And at x xs) s ≡
    fold both_counts (unwritten_count x s) (map (λ (e : Expr). unwritten_count e s) xs)
unwritten-And at x xs s = leaves _ _ (rolls-And at x xs) s ∙ ap (fold both_counts (unwritten_count x s))
    (map_twice forming (λ m. m.unwritten s) xs)

pub unwritten-Or : (at : ℕ) (x : Expr) (xs : List Expr) (s : Scope) → unwritten_count (Expr.Or at x xs) s ≡
    fold both_counts (unwritten_count x s) (map (λ (e : Expr). unwritten_count e s) xs)
unwritten-Or at x xs s = leaves _ _ (rolls-Or at x xs) s ∙ ap (fold both_counts (unwritten_count x s))
    (map_twice forming (λ m. m.unwritten s) xs)

pub unwritten-Not : (at : ℕ) (x : Expr) (s : Scope) → unwritten_count (Expr.Not at x) s ≡ unwritten_count x s
unwritten-Not at x s = leaves _ _ (rolls-Not at x) s

pub unwritten-Compare : (at : ℕ) (l : Expr) (r : Symbol) (x : Expr) (s : Scope) →
    unwritten_count (Expr.Compare at l r x) s ≡ both_counts (unwritten_count l s) (unwritten_count x s)
unwritten-Compare at l r x s = leaves _ _ (rolls-Compare at l r x) s

pub unwritten-Sum : (at : ℕ) (minus : Bool) (x : Expr) (xs : List (Symbol × Expr)) (s : Scope) →
    unwritten_count (Expr.Sum at minus x xs) s ≡
    fold both_counts (unwritten_count x s) (map (λ (p : Symbol × Expr). unwritten_count p.1 s) xs)
unwritten-Sum at minus x xs s = leaves _ _ (rolls-Sum at minus x xs) s
    ∙ ap (fold both_counts (unwritten_count x s)) (map_twice (λ (p : Symbol × Expr). (p.0, forming p.1))
    (λ (p : Symbol × Forming). p.1.unwritten s) xs)

pub unwritten-Product : (at : ℕ) (x : Expr) (xs : List (Operator × Expr)) (s : Scope) →
    unwritten_count (Expr.Product at x xs) s ≡ fold both_counts (unwritten_count x s) (map (operand_in s) xs)
unwritten-Product at x xs s = leaves _ _ (rolls-Product at x xs) s
    ∙ ap (fold both_counts (unwritten_count x s)) (map_twice (λ (p : Operator × Expr). (p.0, forming p.1))
    (operand_at s) xs)

pub unwritten-Number : (at n : ℕ) (s : Scope) → unwritten_count (Expr.Number at n) s ≡ no_count
unwritten-Number at n s = leaves _ _ (rolls-Number at n) s

pub unwritten-True : (at : ℕ) (s : Scope) → unwritten_count (Expr.True at) s ≡ no_count
unwritten-True at s = leaves _ _ (rolls-True at) s

pub unwritten-False : (at : ℕ) (s : Scope) → unwritten_count (Expr.False at) s ≡ no_count
unwritten-False at s = leaves _ _ (rolls-False at) s

pub unwritten-Word : (at : ℕ) (name : Name) (s : Scope) → unwritten_count (Expr.Word at name None) s ≡ no_count
unwritten-Word at name s = leaves _ _ (rolls-Word at name None) s

pub unwritten-Element : (at : ℕ) (name : Name) (x : Expr) (s : Scope) →
    unwritten_count (Expr.Word at name (Some x)) s ≡ unwritten_count x s
unwritten-Element at name x s = leaves _ _ (rolls-Word at name (Some x)) s

pub unwritten-Brackets : (at : ℕ) (x : Expr) (s : Scope) →
    unwritten_count (Expr.Brackets at x) s ≡ unwritten_count x s
unwritten-Brackets at x s = leaves _ _ (rolls-Brackets at x) s

pub unwritten-Quantified : (at : ℕ) (which : Word) (name : Name) (range : Range) (of : Expr) (s : Scope) →
    unwritten_count (Expr.Quantified at which name range of) s ≡ quantified_count s.bound range
    (fold both_counts no_count (map (λ z. one_node_more (unwritten_count of (with_number s name.text z)))
    (fit_values (numbers s.bound) range)))
unwritten-Quantified at which name range of s = leaves _ _ (rolls-Quantified at which name range of) s

-- the first byte of each kind

pub byte-Implies : (at : ℕ) (l r : Expr) → first_byte (Expr.Implies at l r) ≡ at
byte-Implies at l r = stands _ _ (rolls-Implies at l r)

pub byte-And : (at : ℕ) (x : Expr) (xs : List Expr) → first_byte (Expr.And at x xs) ≡ at
byte-And at x xs = stands _ _ (rolls-And at x xs)

pub byte-Or : (at : ℕ) (x : Expr) (xs : List Expr) → first_byte (Expr.Or at x xs) ≡ at
byte-Or at x xs = stands _ _ (rolls-Or at x xs)

pub byte-Not : (at : ℕ) (x : Expr) → first_byte (Expr.Not at x) ≡ at
byte-Not at x = stands _ _ (rolls-Not at x)

pub byte-Compare : (at : ℕ) (l : Expr) (r : Symbol) (x : Expr) → first_byte (Expr.Compare at l r x) ≡ at
byte-Compare at l r x = stands _ _ (rolls-Compare at l r x)

pub byte-Sum : (at : ℕ) (minus : Bool) (x : Expr) (xs : List (Symbol × Expr)) →
    first_byte (Expr.Sum at minus x xs) ≡ at
byte-Sum at minus x xs = stands _ _ (rolls-Sum at minus x xs)

pub byte-Product : (at : ℕ) (x : Expr) (xs : List (Operator × Expr)) → first_byte (Expr.Product at x xs) ≡ at
byte-Product at x xs = stands _ _ (rolls-Product at x xs)

pub byte-Number : (at n : ℕ) → first_byte (Expr.Number at n) ≡ at
byte-Number at n = stands _ _ (rolls-Number at n)

pub byte-True : (at : ℕ) → first_byte (Expr.True at) ≡ at
byte-True at = stands _ _ (rolls-True at)

pub byte-False : (at : ℕ) → first_byte (Expr.False at) ≡ at
byte-False at = stands _ _ (rolls-False at)

pub byte-Word : (at : ℕ) (name : Name) (i : Option Expr) →
    first_byte (Expr.Word at name i) ≡ at
byte-Word at name None = stands _ _ (rolls-Word at name None)
byte-Word at name (Some x) = stands _ _ (rolls-Word at name (Some x))

pub byte-Brackets : (at : ℕ) (x : Expr) → first_byte (Expr.Brackets at x) ≡ at
byte-Brackets at x = stands _ _ (rolls-Brackets at x)

pub byte-Quantified : (at : ℕ) (which : Word) (name : Name) (range : Range) (of : Expr) →
    first_byte (Expr.Quantified at which name range of) ≡ at
byte-Quantified at which name range of = stands _ _ (rolls-Quantified at which name range of)
