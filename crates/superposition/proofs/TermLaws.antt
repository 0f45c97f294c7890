-- Tests of equal trees and of equal numbers.
use Rattle.std.proofs.Common.{◌≡◌, ℤ, Bool, true, false, ◌&&◌, IsTrue, List, [], ◌∷◌, refl, sym, ap, ◌∙◌, subst, arith}
use Rattle.std.specs.Prelude.{◌↔◌}
use Rattle.std.specs.Cmp.{signed_Decides}
use Rattle.std.specs.Cmp.Lexicographic.{pointwise}
use Rattle.std.specs.Ordering.{int_eq as eq_of}
use Rattle.std.proofs.lemmas.Int.{ints}
use Rattle.std.specs.Int.RustNames.{int_le}
use borrow.Author.Differences.{le-true}
use Rattle.core_terms.proofs.BoolLaws.{and_left, and_right, both_true, le_passes}
use Rattle.core_terms.specs.Trees.{same_term}
use Rattle.core_terms.specs.declared.trees.CTerm.{CTerm}
use Rattle.meaning_executions.specs.Counting.{ints_eq}
use Rattle.meaning_states.specs.State.{int_eq}
use Rattle.safety_rules.proofs.lemmas_from_rules_table.SameTerms.{same_term_is, same_term_self}

-- a test that passes exactly at equal trees is the test of equal trees
pub same_term_told : (b : Bool) (t u : CTerm) → IsTrue b ↔ (t ≡ u) → b ≡ same_term t u
same_term_told true t u iff = sym (subst (λ v. IsTrue (same_term t v)) (iff.0 refl) (same_term_self t))
same_term_told false t u iff = go (same_term t u) refl
  where
    go : (c : Bool) → same_term t u ≡ c → false ≡ c
    go true e = let yes = iff.1 (same_term_is t u e) in cc
    go false e = refl

ints_same : (a b : ℤ) → IsTrue (int_eq a b) → a ≡ b
ints_same a b t =
    let low = le-true a b (and_left (int_le a b) (int_le b a) t) in
    let high = le-true b a (and_right (int_le a b) (int_le b a) t) in omega (arith, ints)

int_self : (a : ℤ) → IsTrue (int_eq a a)
int_self a =
    let self = le_passes a a (omega (arith, ints)) in both_true (int_le a a) (int_le a a) self self

-- std's test of equal numbers
one_told : (y z : ℤ) → eq_of y z ≡ int_eq y z
one_told y z = go (eq_of y z) refl (int_eq y z) refl
  where
    go : (b : Bool) → eq_of y z ≡ b → (c : Bool) → int_eq y z ≡ c → b ≡ c
    go true d true e = refl
    go false d false e = refl
    go true d false e =
        let never : true ≡ false = sym (int_self y) ∙ ap (int_eq y) ((signed_Decides y z).0 d) ∙ e in cc
    go false d true e =
        let never : true ≡ false = sym ((signed_Decides y z).1 (ints_same y z e)) ∙ d in cc

pub numbers_told : (ys zs : List ℤ) → pointwise eq_of ys zs ≡ ints_eq ys zs
numbers_told [] [] = refl
numbers_told [] (z ∷ zs) = refl
numbers_told (y ∷ ys) [] = refl
numbers_told (y ∷ ys) (z ∷ zs) =
    ap (λ b. b && pointwise eq_of ys zs) (one_told y z) ∙ ap (λ b. int_eq y z && b) (numbers_told ys zs)
