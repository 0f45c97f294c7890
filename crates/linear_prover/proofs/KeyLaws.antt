-- Facts that clash have the same key.
use Rattle.std.proofs.Common.{◌≡◌, ◌<◌, ℕ, ◌^◌, nat_eq, nat_le, ℤ, pos, ◌+ℤ◌, Bool, true, false, not, ◌&&◌}
use Rattle.std.proofs.Common.{List, [], ◌∷◌, map, length, get_or, refl, sym, ap, ◌∙◌, arith}
use Rattle.std.specs.Int.{int_div_euclid}
use Rattle.std.specs.Int.RustNames.{int_le}
use Rattle.std.proofs.lemmas.Bool.{and_parts}
use Rattle.std.proofs.lemmas.List.{get_or-map, length-map}
use Rattle.obligations.specs.declared.branches.Fact.{Fact}
use Rattle.meaning_states.specs.State.{int_eq}
use Rattle.obligations.specs.Reach.{are_opposite, divisor_of, is_moderate_fact, is_some_factor, clash}
use Rattle.linear_prover.specs.declared.keys.Key.{Key}
use Rattle.linear_prover.specs.Clashes.{key_of, fact_key, is_same_key}

impossible : {P : Type 0} → false ≡ true → P
impossible e = cc

both : {a b : Bool} → a ≡ true → b ≡ true → (a && b) ≡ true
both {a} {b} e h = ap (λ x. x && b) e ∙ h

-- the variables of two factors that add up to 0
turned-variable : (f g : ℕ × ℤ) (rest : Bool) → ((nat_eq f.0 g.0 && int_eq (f.1 +ℤ g.1) (pos 0)) && rest) ≡ true →
    nat_eq f.0 g.0 ≡ true
turned-variable f g rest e =
    (and_parts (nat_eq f.0 g.0) (int_eq (f.1 +ℤ g.1) (pos 0))
    (and_parts (nat_eq f.0 g.0 && int_eq (f.1 +ℤ g.1) (pos 0)) rest e).0).0

turned-rest : (f g : ℕ × ℤ) (rest : Bool) → ((nat_eq f.0 g.0 && int_eq (f.1 +ℤ g.1) (pos 0)) && rest) ≡ true →
    rest ≡ true
turned-rest f g rest e = (and_parts (nat_eq f.0 g.0 && int_eq (f.1 +ℤ g.1) (pos 0)) rest e).1

opposite-key : (fs gs : List (ℕ × ℤ)) → are_opposite fs gs ≡ true → is_same_key (key_of fs) (key_of gs) ≡ true
opposite-key [] [] e = refl
opposite-key [] (g ∷ gs) e = impossible e
opposite-key (f ∷ fs) [] e = impossible e
opposite-key (f ∷ []) (g ∷ []) e = both (turned-variable f g true e) (turned-variable f g true e)
opposite-key (f ∷ []) (g ∷ h ∷ gs) e = impossible (turned-rest f g false e)
opposite-key (f ∷ k ∷ fs) (g ∷ []) e = impossible (turned-rest f g false e)
opposite-key (f ∷ k ∷ fs) (g ∷ h ∷ gs) e =
    both (turned-variable f g (are_opposite (k ∷ fs) (h ∷ gs)) e)
    (turned-variable k h (are_opposite fs gs) (turned-rest f g (are_opposite (k ∷ fs) (h ∷ gs)) e))

-- facts of two keys don't clash
pub clash_key : (f g : Fact) → is_same_key (fact_key f) (fact_key g) ≡ false → clash f g ≡ false
clash_key f g e = differs (are_opposite f.factors g.factors) (is_some_factor f.factors)
    ((is_moderate_fact f && is_moderate_fact g) && nat_le (divisor_of f.factors) (2 ^ 62))
    (not (int_le (pos 0) (int_div_euclid f.constant (pos (divisor_of f.factors)) +ℤ int_div_euclid g.constant
    (pos (divisor_of f.factors))))) (opposite-key f.factors g.factors)
  where
    differs : (a s m z : Bool) → (a ≡ true → is_same_key (fact_key f) (fact_key g) ≡ true) →
        (((a && s) && m) && z) ≡ false
    differs false s m z h = refl
    differs true s m z h = impossible (sym e ∙ h refl)

-- the key at a place is that of the fact there
pub keys-long : (facts : List Fact) (keys : List Key) → keys ≡ map fact_key facts → length keys ≡ length facts
keys-long facts keys e = ap length e ∙ length-map facts fact_key

pub key-at : (facts : List Fact) (keys : List Key) (i : ℕ) (g : Fact) (k : Key) → keys ≡ map fact_key facts →
    i < length facts →
    get_or keys i k ≡ fact_key (get_or facts i g)
key-at facts keys i g k e h = ap (λ ks. get_or ks i k) e ∙ get_or-map fact_key facts i g k h

pub ruleset key_laws = (keys-long, key-at)
