-- What formulas made of lists are worth.
use Rattle.std.proofs.Common.{◌≡◌, ℤ, List, [], ◌∷◌, ◌++◌, Bool, true, false, not, ◌&&◌, ◌||◌, IsTrue, refl, sym, ap}
use Rattle.std.proofs.Common.{◌∙◌}
use Rattle.std.specs.List.{list_all, list_any}
use Rattle.meaning_states.proofs.StepTheorems.{and_left, and_right, both_true}
use Rattle.core_terms.specs.declared.trees.CForm.{CForm}
use Rattle.core_terms.specs.Values.{form_value}
use Rattle.core_terms.specs.Folding.{and_form, or_form, not_form}
use Rattle.core_terms.proofs.FoldingLaws.{value-and_form, value-or_form, value-not_form}
use Rattle.core_terms.proofs.PartLaws.{value-Top, value-Bottom}
use Rattle.fixed_points.specs.from_wp_substitution.Preconditions.{and_all, all_of}
use Rattle.rules_table.specs.Forms.{or_any, any_of, imply}

and_true : (a : Bool) → a ≡ (a && true)
and_true true = refl
and_true false = refl

or_false : (a : Bool) → a ≡ (a || false)
or_false true = refl
or_false false = refl

and_of : (a b c : Bool) → ((a && b) && c) ≡ (a && (b && c))
and_of true b c = refl
and_of false b c = refl

or_of : (a b c : Bool) → ((a || b) || c) ≡ (a || (b || c))
or_of true b c = refl
or_of false b c = refl

all_from : (s e : List ℤ) (f : CForm) (fs : List CForm) →
    form_value s e (and_all f fs) ≡ (form_value s e f && list_all (λ g. form_value s e g) fs)
all_from s e f [] = and_true (form_value s e f)
all_from s e f (g ∷ fs) =
    all_from s e (and_form f g) fs ∙ ap (λ b. b && list_all (λ h. form_value s e h) fs) (value-and_form s e f g)
    ∙ and_of (form_value s e f) (form_value s e g) (list_all (λ h. form_value s e h) fs)

any_from : (s e : List ℤ) (f : CForm) (fs : List CForm) →
    form_value s e (or_any f fs) ≡ (form_value s e f || list_any (λ g. form_value s e g) fs)
any_from s e f [] = or_false (form_value s e f)
any_from s e f (g ∷ fs) =
    any_from s e (or_form f g) fs ∙ ap (λ b. b || list_any (λ h. form_value s e h) fs) (value-or_form s e f g)
    ∙ or_of (form_value s e f) (form_value s e g) (list_any (λ h. form_value s e h) fs)

pub value_all : (s e : List ℤ) (fs : List CForm) → form_value s e (all_of fs) ≡ list_all (λ g. form_value s e g) fs
value_all s e [] = value-Top s e
value_all s e (f ∷ fs) = all_from s e f fs

pub value_any : (s e : List ℤ) (fs : List CForm) → form_value s e (any_of fs) ≡ list_any (λ g. form_value s e g) fs
value_any s e [] = value-Bottom s e
value_any s e (f ∷ fs) = any_from s e f fs

detached : (a b : Bool) → IsTrue (not a || b) → IsTrue a → IsTrue b
detached true b h t = h
detached false b h t = cc

-- where the premises of an implication that holds do, its conclusion does
pub imply_gives : (s e : List ℤ) (fs : List CForm) (q : CForm) → IsTrue (form_value s e (imply fs q)) →
    IsTrue (list_all (λ g. form_value s e g) fs) → IsTrue (form_value s e q)
imply_gives s e [] q h t = h
imply_gives s e (f ∷ fs) q h t =
    let whole : form_value s e (imply (f ∷ fs) q) ≡
    (not (form_value s e (all_of (f ∷ fs))) || form_value s e q) =
    value-or_form s e (not_form (all_of (f ∷ fs))) q
    ∙ ap (λ b. b || form_value s e q) (value-not_form s e (all_of (f ∷ fs))) in
    detached (form_value s e (all_of (f ∷ fs))) (form_value s e q) (sym whole ∙ h) (value_all s e (f ∷ fs) ∙ t)

pub all_append : {X : Type 0} (test : X → Bool) (xs ys : List X) → IsTrue (list_all test (xs ++ ys)) →
    IsTrue (list_all test xs) × IsTrue (list_all test ys)
all_append test [] ys t = (refl, t)
all_append test (x ∷ xs) ys t =
    let rest = all_append test xs ys (and_right (test x) (list_all test (xs ++ ys)) t) in
    (both_true (test x) (list_all test xs) (and_left (test x) (list_all test (xs ++ ys)) t) rest.0, rest.1)

pub all_join : {X : Type 0} (test : X → Bool) (xs ys : List X) → IsTrue (list_all test xs) →
    IsTrue (list_all test ys) → IsTrue (list_all test (xs ++ ys))
all_join test [] ys t u = u
all_join test (x ∷ xs) ys t u =
    both_true (test x) (list_all test (xs ++ ys)) (and_left (test x) (list_all test xs) t)
    (all_join test xs ys (and_right (test x) (list_all test xs) t) u)
