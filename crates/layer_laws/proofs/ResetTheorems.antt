-- Writes, with a layer's own slots put back.
use Rattle.std.proofs.Common.{◌≡◌, ℕ, zero, suc, ◌+◌, ℤ, pos, List, [], ◌∷◌, Bool, true, false, cond, Some}
use Rattle.std.proofs.Common.{None, IsTrue, refl, sym, ap, ◌∙◌, subst, arith}
use Rattle.std.specs.List.{list_all}
use Rattle.meaning_states.specs.State.{State, in_range, is_state}
use Rattle.meaning_states.specs.Step.{Write, is_inside, agrees, all_agree, put, written}
use Rattle.layer_laws.specs.Resets.{reset, old_writes, ResetItself, WrittenReset, WrittenBeside}
use Rattle.layer_laws.specs.Resets.{OldAreDefined, ResetIsState}
use Rattle.meaning_states.proofs.StepTheorems.{and_left, and_right, both_true}

same_either : (b : Bool) (y : ℤ) → cond b y y ≡ y
same_either true y = refl
same_either false y = refl

pub reset_itself : ResetItself
reset_itself new k [] = refl
reset_itself new k (y ∷ ys) =
    ap (λ z. z ∷ reset new (suc k) ys ys) (same_either (new k) y) ∙ ap (λ zs. y ∷ zs) (reset_itself new (suc k) ys)

-- a number put into another slot
put_old : (new : ℕ → Bool) (k n m : ℕ) (origin s : State) (z : ℤ) → m ≡ k + n → new m ≡ false →
    reset new k origin (put s n z) ≡ put (reset new k origin s) n z
put_old new k n m origin [] z e h = refl
put_old new k zero m [] (y ∷ ys) z e h =
    let same : m ≡ k = omega (arith, e) in
    let old : new k ≡ false = subst (λ i. new i ≡ false) same h in
    ap (λ b. cond b (pos 0) z ∷ reset new (suc k) [] ys) old
put_old new k zero m (o ∷ os) (y ∷ ys) z e h =
    let same : m ≡ k = omega (arith, e) in
    let old : new k ≡ false = subst (λ i. new i ≡ false) same h in
    ap (λ b. cond b o z ∷ reset new (suc k) os ys) old
put_old new k (suc n) m [] (y ∷ ys) z e h =
    let further : m ≡ suc k + n = omega (arith, e) in
    ap (λ zs. cond (new k) (pos 0) y ∷ zs) (put_old new (suc k) n m [] ys z further h)
put_old new k (suc n) m (o ∷ os) (y ∷ ys) z e h =
    let further : m ≡ suc k + n = omega (arith, e) in
    ap (λ zs. cond (new k) o y ∷ zs) (put_old new (suc k) n m os ys z further h)

-- a number put into one of the slots that are put back
put_new : (new : ℕ → Bool) (k n m : ℕ) (origin s : State) (z : ℤ) → m ≡ k + n → new m ≡ true →
    reset new k origin (put s n z) ≡ reset new k origin s
put_new new k n m origin [] z e h = refl
put_new new k zero m [] (y ∷ ys) z e h =
    let same : m ≡ k = omega (arith, e) in
    let own : new k ≡ true = subst (λ i. new i ≡ true) same h in
    ap (λ b. cond b (pos 0) z ∷ reset new (suc k) [] ys) own ∙
    sym (ap (λ b. cond b (pos 0) y ∷ reset new (suc k) [] ys) own)
put_new new k zero m (o ∷ os) (y ∷ ys) z e h =
    let same : m ≡ k = omega (arith, e) in
    let own : new k ≡ true = subst (λ i. new i ≡ true) same h in
    ap (λ b. cond b o z ∷ reset new (suc k) os ys) own ∙ sym (ap (λ b. cond b o y ∷ reset new (suc k) os ys) own)
put_new new k (suc n) m [] (y ∷ ys) z e h =
    let further : m ≡ suc k + n = omega (arith, e) in
    ap (λ zs. cond (new k) (pos 0) y ∷ zs) (put_new new (suc k) n m [] ys z further h)
put_new new k (suc n) m (o ∷ os) (y ∷ ys) z e h =
    let further : m ≡ suc k + n = omega (arith, e) in
    ap (λ zs. cond (new k) o y ∷ zs) (put_new new (suc k) n m os ys z further h)

one_write : (new : ℕ → Bool) (origin s : State) (n : ℕ) (z : ℤ) (ws : List Write) →
    written (reset new 0 origin s) (old_writes new ws) ≡ reset new 0 origin (written s ws) → (b : Bool) → new n ≡ b →
    written (reset new 0 origin s) (cond b (old_writes new ws) ((Some n, z) ∷ old_writes new ws)) ≡
    reset new 0 origin (put (written s ws) n z)
one_write new origin s n z ws rest true e =
    let at : n ≡ 0 + n = omega arith in rest ∙ sym (put_new new 0 n n origin (written s ws) z at e)
one_write new origin s n z ws rest false e =
    let at : n ≡ 0 + n = omega arith in
    ap (λ t. put t n z) rest ∙ sym (put_old new 0 n n origin (written s ws) z at e)

pub written_reset : WrittenReset
written_reset new origin s [] = refl
written_reset new origin s ((None, z) ∷ ws) = written_reset new origin s ws
written_reset new origin s ((Some n, z) ∷ ws) =
    one_write new origin s n z ws (written_reset new origin s ws) (new n) refl

pub written_beside : WrittenBeside
written_beside new origin s [] all = refl
written_beside new origin s ((None, z) ∷ ws) all =
    written_beside new origin s ws (λ place n w e f. all (suc place) n w e f)
written_beside new origin s ((Some n, z) ∷ ws) all =
    let at : n ≡ 0 + n = omega arith in
    put_new new 0 n n origin (written s ws) z at (all 0 n (Some n, z) refl refl) ∙
    written_beside new origin s ws (λ place m w e f. all (suc place) m w e f)

-- what holds of all writes holds of those to other slots
one_kept : (new : ℕ → Bool) (test : Write → Bool) (n : ℕ) (z : ℤ) (ws : List Write) → IsTrue (test (Some n, z)) →
    IsTrue (list_all test (old_writes new ws)) → (b : Bool) →
    IsTrue (list_all test (cond b (old_writes new ws) ((Some n, z) ∷ old_writes new ws)))
one_kept new test n z ws here rest true = rest
one_kept new test n z ws here rest false = both_true (test (Some n, z)) (list_all test (old_writes new ws)) here rest

all_kept : (new : ℕ → Bool) (test : Write → Bool) (ws : List Write) → IsTrue (list_all test ws) →
    IsTrue (list_all test (old_writes new ws))
all_kept new test [] t = t
all_kept new test ((None, z) ∷ ws) t =
    both_true (test (None, z)) (list_all test (old_writes new ws)) (and_left (test (None, z)) (list_all test ws) t)
    (all_kept new test ws (and_right (test (None, z)) (list_all test ws) t))
all_kept new test ((Some n, z) ∷ ws) t =
    one_kept new test n z ws (and_left (test (Some n, z)) (list_all test ws) t)
    (all_kept new test ws (and_right (test (Some n, z)) (list_all test ws) t)) (new n)

one_agrees : (new : ℕ → Bool) (n : ℕ) (z : ℤ) (ws : List Write) → IsTrue (list_all (agrees (Some n, z)) ws) →
    IsTrue (all_agree (old_writes new ws)) → (b : Bool) →
    IsTrue (all_agree (cond b (old_writes new ws) ((Some n, z) ∷ old_writes new ws)))
one_agrees new n z ws here rest true = rest
one_agrees new n z ws here rest false =
    both_true (list_all (agrees (Some n, z)) (old_writes new ws)) (all_agree (old_writes new ws))
    (all_kept new (agrees (Some n, z)) ws here) rest

agree_kept : (new : ℕ → Bool) (ws : List Write) → IsTrue (all_agree ws) → IsTrue (all_agree (old_writes new ws))
agree_kept new [] t = t
agree_kept new ((None, z) ∷ ws) t =
    both_true (list_all (agrees (None, z)) (old_writes new ws)) (all_agree (old_writes new ws))
    (all_kept new (agrees (None, z)) ws (and_left (list_all (agrees (None, z)) ws) (all_agree ws) t))
    (agree_kept new ws (and_right (list_all (agrees (None, z)) ws) (all_agree ws) t))
agree_kept new ((Some n, z) ∷ ws) t =
    one_agrees new n z ws (and_left (list_all (agrees (Some n, z)) ws) (all_agree ws) t)
    (agree_kept new ws (and_right (list_all (agrees (Some n, z)) ws) (all_agree ws) t)) (new n)

pub old_are_defined : OldAreDefined
old_are_defined new ranges ws t =
    both_true (list_all (is_inside ranges) (old_writes new ws)) (all_agree (old_writes new ws))
    (all_kept new (is_inside ranges) ws (and_left (list_all (is_inside ranges) ws) (all_agree ws) t))
    (agree_kept new ws (and_right (list_all (is_inside ranges) ws) (all_agree ws) t))

either_in : (b : Bool) (r : ℤ × ℤ) (z y : ℤ) → IsTrue (in_range (Some r) z) → IsTrue (in_range (Some r) y) →
    IsTrue (in_range (Some r) (cond b z y))
either_in true r z y one other = one
either_in false r z y one other = other

pub reset_is_state : ResetIsState
reset_is_state new k [] [] [] t u = refl
reset_is_state new k [] [] (y ∷ ys) t u = cc
reset_is_state new k [] (o ∷ os) s t u = cc
reset_is_state new k (r ∷ rs) [] s t u = cc
reset_is_state new k (r ∷ rs) (o ∷ os) [] t u = cc
reset_is_state new k (r ∷ rs) (o ∷ os) (y ∷ ys) t u =
    both_true (in_range (Some r) (cond (new k) o y)) (is_state rs (reset new (suc k) os ys))
    (either_in (new k) r o y (and_left (in_range (Some r) o) (is_state rs os) t)
    (and_left (in_range (Some r) y) (is_state rs ys) u))
    (reset_is_state new (suc k) rs os ys (and_right (in_range (Some r) o) (is_state rs os) t)
    (and_right (in_range (Some r) y) (is_state rs ys) u))
