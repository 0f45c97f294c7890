-- Lists of formulas, joined one after the other.
use Rattle.std.proofs.Common.{◌≡◌, ℕ, suc, ◌+◌, ◌-◌, ◌<◌, ◌≤◌, List, [], ◌∷◌, ◌++◌, map, take, drop, length, get_or}
use Rattle.std.proofs.Common.{true, Option, Some, None, refl, sym, ap, ◌∙◌, add-one, drop-cons, length-drop, arith}
use Rattle.std.proofs.lemmas.List.{take_all, drop-map}
use Rattle.core_terms.specs.declared.trees.CForm.{CForm, fold-roll-CForm}
use Rattle.core_terms.specs.declared.trees.CForm.TheOpen.{CForm-F}
use Rattle.core_terms.specs.declared.trees.CForm.TheVariants.{Top, rolls-Top}
use Rattle.core_terms.specs.declared.programs.CWrite.{CWrite}
use Rattle.core_terms.specs.Folding.{truth_of, truth_step, number_step, not_form, and_form}
use Rattle.core_terms.specs.declared.programs.CSlot.{CSlot}
use Rattle.core_terms.specs.declared.programs.CStmt.{CStmt}
use Rattle.wp_substitution.specs.declared.known.Known.{Known}
use Rattle.wp_substitution.specs.Preconditions.{and_all, all_of, write_form, pair_form, writes_to, pair_forms, needs}
use Rattle.wp_substitution.specs.Preconditions.{defined_form}
use Rattle.wp_substitution.specs.Joined.{joined_with, joined_all, or_top, known_write}

pub truth-Top : truth_of Top ≡ Some true
truth-Top = ap truth_of (sym rolls-Top) ∙ fold-roll-CForm _ _ truth_step number_step CForm-F.Top

pub joined-append : (whole : Option CForm) (fs gs : List CForm) →
    joined_all whole (fs ++ gs) ≡ joined_all (joined_all whole fs) gs
joined-append whole [] gs = refl
joined-append whole (f ∷ fs) gs = joined-append (Some (joined_with whole f)) fs gs

after_first : (f : CForm) (fs : List CForm) → joined_all (Some f) fs ≡ Some (and_all f fs)
after_first f [] = refl
after_first f (g ∷ gs) = after_first (and_form f g) gs

-- all formulas, joined after none
pub joined_is : (fs : List CForm) → or_top (joined_all None fs) ≡ all_of fs
joined_is [] = refl
joined_is (f ∷ fs) = ap or_top (after_first f fs)

pub rest_of : {X : Type 0} (xs : List X) (i : ℕ) (x : X) → i < length xs → x ≡ get_or xs i x →
    drop i xs ≡ x ∷ drop (i + 1) xs
rest_of xs i x h e =
    drop-cons xs i x h ∙ ap (λ y. y ∷ drop (suc i) xs) (sym e) ∙ ap (λ n. x ∷ drop n xs) (sym (add-one i))

whole_rest : {X : Type 0} (xs : List X) (i : ℕ) → take (length xs - i) (drop i xs) ≡ drop i xs
whole_rest xs i =
    let all : length (drop i xs) ≤ length xs - i = omega (arith, length-drop i xs) in
    take_all (length xs - i) (drop i xs) all

-- what is known of the writes from a place on
pub known_rest : (ws : List CWrite) (ks : List Known) (i : ℕ) → ks ≡ map known_write ws →
    take (length ks - i) (drop i ks) ≡ map known_write (take (length ws - i) (drop i ws))
known_rest ws ks i e =
    whole_rest ks i ∙ ap (drop i) e ∙ drop-map known_write i ws ∙ ap (map known_write) (sym (whole_rest ws i))

-- the pairs of one write more
pub pairs_next : (whole : Option CForm) (xs : List CWrite) (i : ℕ) (x : CWrite) → i < length xs → x ≡ get_or xs i x →
    joined_all (joined_all whole (map (pair_form x) (writes_to x.slot
    (take (length xs - (i + 1)) (drop (i + 1) xs)))))
    (pair_forms (drop (i + 1) xs)) ≡
    joined_all whole (pair_forms (drop i xs))
pairs_next whole xs i x h e =
    let rest = drop (i + 1) xs in
    let all : length rest ≤ length xs - (i + 1) = omega (arith, length-drop (i + 1) xs) in
    ap (λ ys. joined_all (joined_all whole (map (pair_form x) (writes_to x.slot ys))) (pair_forms rest))
    (take_all (length xs - (i + 1)) rest all)
    ∙ sym (joined-append whole (map (pair_form x) (writes_to x.slot rest)) (pair_forms rest))
    ∙ sym (ap (λ ys. joined_all whole (pair_forms ys)) (rest_of xs i x h e))

-- all needs of a statement, joined one kind after the other
pub needs_joined : (slots : List CSlot) (s : CStmt) (first outside inside whole : Option CForm) (fs : List CForm)
    (vs ws : List CWrite) → first ≡ None → fs ≡ s.outside → vs ≡ s.writes → ws ≡ s.writes →
    outside ≡ joined_all first (map not_form fs) → inside ≡ joined_all outside (map (write_form slots) vs) →
    whole ≡ joined_all inside (pair_forms ws) →
    or_top whole ≡ defined_form slots s
needs_joined slots s first outside inside whole fs vs ws en ef ev ew eo ei e =
    let one : outside ≡ joined_all None (map not_form s.outside) =
    eo ∙ ap (λ n. joined_all n (map not_form fs)) en ∙ ap (λ xs. joined_all None (map not_form xs)) ef in
    let two : inside ≡ joined_all None (map not_form s.outside ++ map (write_form slots) s.writes) =
    ei ∙ ap (λ o. joined_all o (map (write_form slots) vs)) one
    ∙ ap (λ xs. joined_all (joined_all None (map not_form s.outside)) (map (write_form slots) xs)) ev
    ∙ sym (joined-append None (map not_form s.outside) (map (write_form slots) s.writes)) in
    let parts = map not_form s.outside ++ map (write_form slots) s.writes in
    let three : whole ≡ joined_all None (needs slots s) =
    e ∙ ap (λ o. joined_all o (pair_forms ws)) two
    ∙ ap (λ xs. joined_all (joined_all None parts) (pair_forms xs)) ew
    ∙ sym (joined-append None parts (pair_forms s.writes)) in
    ap or_top three ∙ joined_is (needs slots s)
