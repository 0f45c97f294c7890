-- What a loop over statements or writes has found.
use Rattle.std.proofs.Common.{◌≡◌, ℕ, zero, suc, ◌+◌, ◌<◌, ◌≤◌, List, [], ◌∷◌, length, take, drop, get_or, Bool}
use Rattle.std.proofs.Common.{true, false, not, ◌&&◌, Some, IsTrue, All, refl, sym, ap, ◌∙◌, slice_get}
use Rattle.std.proofs.Common.{arith, ◌-◌, length-drop}
use Rattle.std.specs.List.{list_all, list_any}
use Rattle.std.proofs.lemmas.List.Folds.{list_all_more, list_all_at}
use Rattle.std.proofs.lemmas.List.{take_all}
use Rattle.std.proofs.lemmas.List.Elements.{All-cons, All-nil}
use Rattle.meaning_states.specs.State.{State, is_state}
use Rattle.core_terms.specs.declared.programs.CSlot.{CSlot}
use Rattle.core_terms.specs.declared.programs.CWrite.{CWrite}
use Rattle.core_terms.specs.declared.programs.CStmt.{CStmt}
use Rattle.core_terms.specs.declared.programs.CProgram.{CProgram}
use Rattle.core_terms.specs.Values.{form_value}
use Rattle.core_terms.specs.Steps.{slot_ranges, core_step}
use Rattle.executor.specs.Fitting.{StatementRuns, WritesRun}
use Rattle.executor.proofs.StateLaws.{state_length}
use Rattle.executor.specs.CoreSystem.{core_system}
use Rattle.fixed_points.specs.FixedPoints.{leads_to, is_fixed}
use Rattle.fixed_points.specs.Leaving.{leaves}
use Rattle.fixed_points.proofs.FormLaws.{leaves_back}
use Rattle.fixed_points.proofs.PointLaws.{fixed_map}

-- an item passes, as all before it
pub one_more : {X : Type 0} (t : X → Bool) (xs : List X) (i : ℕ) (x : X) (b : Bool) → i < length xs →
    x ≡ get_or xs i x → b ≡ t x → list_all t (take i xs) ≡ true → list_all t (take (i + 1) xs) ≡ b
one_more t xs i x b less is found before =
    list_all_more t xs i x less ∙ ap (λ a. a && t (get_or xs i x)) before ∙ ap t (sym is) ∙ sym found

-- an item fails
pub one_fails : {X : Type 0} (t : X → Bool) (xs : List X) (i : ℕ) (x : X) → i < length xs →
    x ≡ get_or xs i x → false ≡ t x → false ≡ list_all t xs
one_fails t xs i x less is found = sym (list_all_at t xs i x less (ap t (sym is) ∙ sym found))

targets_within : (slots : List CSlot) (state : State) → IsTrue (is_state (slot_ranges slots) state) →
    (ws : List CWrite) → WritesRun slots ws → All (λ w. w.slot < length state) ws
targets_within slots state is [] runs = All-nil (λ (w : CWrite). w.slot < length state)
targets_within slots state is (w ∷ ws) runs =
    All-cons (λ (w : CWrite). w.slot < length state) w ws
    (let own = (runs zero w refl).0 in let same = state_length slots state is in omega (arith, own, same))
    (targets_within slots state is ws (λ n v e. runs (suc n) v e))

-- a step leads back as was found of its writes
pub back_found : (slots : List CSlot) (s : CStmt) (state : State) (a b : Bool) →
    IsTrue (is_state (slot_ranges slots) state) → StatementRuns slots s →
    a ≡ list_any (form_value state []) s.outside → b ≡ list_all (leaves state) s.writes →
    (not a && b) ≡ leads_to (core_step slots s state) state
back_found slots s state a b is runs one two =
    ap (λ x. not x && b) one ∙ ap (λ x. not (list_any (form_value state []) s.outside) && x) two
    ∙ leaves_back slots s state (targets_within slots state is s.writes runs.1) is

-- both parts of a list, the later one first
pub parts_found : {X : Type 0} (t : X → Bool) (xs : List X) (i : ℕ) →
    list_all t xs ≡ (list_all t (drop i xs) && list_all t (take i xs))
parts_found {X = X} t xs i =
    go xs i
  where
    last : (a b c : Bool) → (a && (b && c)) ≡ (b && (a && c))
    last true true c = refl
    last true false c = refl
    last false true c = refl
    last false false c = refl

    alone : (a : Bool) → a ≡ (a && true)
    alone true = refl
    alone false = refl

    go : (ys : List X) (n : ℕ) → list_all t ys ≡ (list_all t (drop n ys) && list_all t (take n ys))
    go [] zero = refl
    go [] (suc n) = refl
    go (y ∷ ys) zero = alone (list_all t (y ∷ ys))
    go (y ∷ ys) (suc n) = ap (λ b. t y && b) (go ys n) ∙ last (t y) (list_all t (drop n ys)) (list_all t (take n ys))

whole_rest : {X : Type 0} (xs : List X) (i : ℕ) → take (length xs - i) (drop i xs) ≡ drop i xs
whole_rest xs i =
    let all : length (drop i xs) ≤ length xs - i = omega (arith, length-drop i xs) in
    take_all (length xs - i) (drop i xs) all

pub some_found : {X : Type 0} (t : X → Bool) (xs : List X) (i : ℕ) →
    false ≡ list_all t (take (length xs - i) (drop i xs)) → false ≡ list_all t xs
some_found t xs i e =
    ap (λ b. b && list_all t (take i xs)) (e ∙ ap (list_all t) (whole_rest xs i)) ∙ sym (parts_found t xs i)

pub none_found : {X : Type 0} (t : X → Bool) (xs : List X) (i : ℕ) (b : Bool) →
    true ≡ list_all t (take (length xs - i) (drop i xs)) → b ≡ list_all t (take i xs) → b ≡ list_all t xs
none_found t xs i b e f =
    f ∙ ap (λ a. a && list_all t (take i xs)) (e ∙ ap (list_all t) (whole_rest xs i)) ∙ sym (parts_found t xs i)

-- what holds of all items holds of those of a part
pub of_rest : {X : Type 0} (P : X → Type 0) (xs : List X) →
    ((n : ℕ) (x : X) → slice_get xs n ≡ Some x → P x) → (i n : ℕ) (x : X) → slice_get (drop i xs) n ≡ Some x → P x
of_rest P [] all zero n x e = cc
of_rest P [] all (suc i) n x e = cc
of_rest P (y ∷ ys) all zero n x e = all n x e
of_rest P (y ∷ ys) all (suc i) n x e = of_rest P ys (λ m z f. all (suc m) z f) i n x e

pub of_first : {X : Type 0} (P : X → Type 0) (xs : List X) →
    ((n : ℕ) (x : X) → slice_get xs n ≡ Some x → P x) → (i n : ℕ) (x : X) → slice_get (take i xs) n ≡ Some x → P x
of_first P [] all zero n x e = cc
of_first P [] all (suc i) n x e = cc
of_first P (y ∷ ys) all zero n x e = cc
of_first P (y ∷ ys) all (suc i) zero x e = all zero x e
of_first P (y ∷ ys) all (suc i) (suc n) x e = of_first P ys (λ m z f. all (suc m) z f) i n x e

-- the steps of all statements, as was found of a program's
pub fixed_found : (slots : List CSlot) (p : CProgram) (state : State) (ss : List CStmt) (b : Bool) →
    ss ≡ p.statements → b ≡ list_all (λ s. leads_to (core_step slots s state) state) ss →
    b ≡ is_fixed (core_system slots p) state
fixed_found slots p state ss b same found =
    found ∙ ap (list_all (λ s. leads_to (core_step slots s state) state)) same ∙ fixed_map slots p state
