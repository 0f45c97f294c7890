-- Linear forms over the variables of an obligation, and the facts that are made of them.
use Rattle.std.specs.Prelude.{ℕ, zero, suc, nat_eq, ℤ, pos, negsuc, ◌+ℤ◌, ◌*ℤ◌, Bool, true, false, cond, not, ◌&&◌}
use Rattle.std.specs.Prelude.{List, [], ◌∷◌, map, ⊤}
use Rattle.std.specs.Int.RustNames.{int_le}
use Rattle.core_terms.specs.declared.trees.CTerm.{CTerm, fold-CTerm}
use Rattle.core_terms.specs.declared.trees.CForm.TheOpen.{CTerm-F, CForm-F}
use Rattle.obligations.specs.declared.branches.Variable.{Variable}
use Rattle.obligations.specs.declared.branches.Line.{Line}
use Rattle.obligations.specs.declared.branches.Fact.{Fact}
use Rattle.core_terms.specs.from_meaning_states.State.{int_eq}
use Rattle.core_terms.specs.Values.{number_at}

-- whether a variable is the slot (false) or the parameter (true) of this number
abbrev pub is_named : Variable → Bool → ℕ → Bool
is_named v param n = cond v.param param (not param) && nat_eq v.number n

-- the place of a slot or parameter among the variables, and their number where it isn't there
abbrev pub place_of : List Variable → Bool → ℕ → ℕ
place_of [] param n = zero
place_of (v ∷ vs) param n = cond (is_named v param n) zero (suc (place_of vs param n))

-- a list with a number added at a place, and the list itself where there is no such place
abbrev pub add_at : List ℤ → ℕ → ℤ → List ℤ
add_at [] n z = []
add_at (x ∷ xs) zero z = (x +ℤ z) ∷ xs
add_at (x ∷ xs) (suc n) z = x ∷ add_at xs n z

-- a 0 for each item
abbrev pub zeros : {A : Type 0} → List A → List ℤ
zeros vs = map (λ v. pos 0) vs

-- a linear form without a variable
abbrev pub line_of_const : List Variable → ℤ → Line
line_of_const vs c = record { factors = zeros vs; constant = c }

-- the variable at a place as a linear form
abbrev pub line_of_place : List Variable → ℕ → Line
line_of_place vs n = record { factors = add_at (zeros vs) n (pos 1); constant = pos 0 }

-- k times the second list's numbers added to the first list's
abbrev pub plus : ℤ → List ℤ → List ℤ → List ℤ
plus k [] ys = []
plus k (x ∷ xs) [] = x ∷ xs
plus k (x ∷ xs) (y ∷ ys) = (x +ℤ k *ℤ y) ∷ plus k xs ys

-- k times the second linear form added to the first
abbrev pub line_plus : ℤ → Line → Line → Line
line_plus k a b = record { factors = plus k a.factors b.factors; constant = a.constant +ℤ k *ℤ b.constant }

-- a linear form with all signs turned
abbrev pub negated : List Variable → Line → Line
negated vs l = line_plus (negsuc 0) (line_of_const vs (pos 0)) l

-- a term's linear form, from those of its parts; an `Ite` and a quotient have none and count as 0
abbrev pub linear_step : List Variable → CTerm-F ⊤ Line → Line
linear_step vs (CTerm-F.Const c) = line_of_const vs c
linear_step vs (CTerm-F.Slot n) = line_of_place vs (place_of vs false n)
linear_step vs (CTerm-F.Param n) = line_of_place vs (place_of vs true n)
linear_step vs (CTerm-F.Add a b) = line_plus (pos 1) a b
linear_step vs (CTerm-F.Sub a b) = line_plus (negsuc 0) a b
linear_step vs (CTerm-F.Scale k a) = line_plus k (line_of_const vs (pos 0)) a
linear_step vs (CTerm-F.Ite c a b) = line_of_const vs (pos 0)
linear_step vs (CTerm-F.Div a k) = line_of_const vs (pos 0)
linear_step vs (CTerm-F.Mod a k) = line_of_const vs (pos 0)

abbrev pub no_line : CForm-F ⊤ Line → ⊤
no_line x = tt

-- a term's linear form
abbrev pub linear : List Variable → CTerm → Line
linear vs = fold-CTerm ⊤ Line no_line (linear_step vs)

-- factors times values
abbrev pub dot : List ℤ → List ℤ → ℤ
dot [] ys = pos 0
dot (x ∷ xs) [] = pos 0
dot (x ∷ xs) (y ∷ ys) = x *ℤ y +ℤ dot xs ys

abbrev pub line_value : List ℤ → Line → ℤ
line_value values l = dot l.factors values +ℤ l.constant

-- the factors that are not 0, each with its place
abbrev pub sparse : ℕ → List ℤ → List (ℕ × ℤ)
sparse n [] = []
sparse n (z ∷ zs) = cond (int_eq z (pos 0)) (sparse (suc n) zs) ((n, z) ∷ sparse (suc n) zs)

-- that a linear form is at least 0
abbrev pub fact_of : Line → Fact
fact_of l = record { factors = sparse 0 l.factors; constant = l.constant }

abbrev pub sum_of : List ℤ → List (ℕ × ℤ) → ℤ
sum_of values [] = pos 0
sum_of values (f ∷ fs) = f.1 *ℤ number_at values f.0 +ℤ sum_of values fs

-- what a fact says is at least 0
abbrev pub fact_value : List ℤ → Fact → ℤ
fact_value values f = sum_of values f.factors +ℤ f.constant

abbrev pub fact_holds : List ℤ → Fact → Bool
fact_holds values f = int_le (pos 0) (fact_value values f)
