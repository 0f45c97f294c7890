-- A step is that of its writes inside, in order, unless there is one outside.
use Rattle.std.proofs.Common.{◌≡◌, ℕ, ℤ, List, [], ◌∷◌, ◌++◌, Bool, true, false, cond, not, ◌&&◌, ◌||◌, Option, Some}
use Rattle.std.proofs.Common.{None, refl, sym, ap, ◌∙◌, slice_get}
use Rattle.std.specs.List.{list_all}
use Rattle.meaning_states.specs.State.{State, Ranges, in_range}
use Rattle.meaning_states.specs.Step.{Write, is_inside, agrees, all_agree, put, written, step}

-- the writes that have a slot, in order
abbrev pub inside : List Write → List Write
inside [] = []
inside ((None, z) ∷ ws) = inside ws
inside ((Some n, z) ∷ ws) = (Some n, z) ∷ inside ws

-- whether there is a write outside
abbrev pub leaves : List Write → Bool
leaves [] = false
leaves ((None, z) ∷ ws) = true
leaves ((Some n, z) ∷ ws) = leaves ws

all_inside : (ranges : Ranges) (ws : List Write) → list_all (is_inside ranges) ws ≡
    (not (leaves ws) && list_all (is_inside ranges) (inside ws))
all_inside ranges [] = refl
all_inside ranges ((None, z) ∷ ws) = refl
all_inside ranges ((Some n, z) ∷ ws) = ap (λ v. in_range (slice_get ranges n) z && v) (all_inside ranges ws)
    ∙ swap (in_range (slice_get ranges n) z) (not (leaves ws)) (list_all (is_inside ranges) (inside ws))
  where
    swap : (a b c : Bool) → (a && (b && c)) ≡ (b && (a && c))
    swap true b c = refl
    swap false true c = refl
    swap false false c = refl

agree_inside : (n : ℕ) (z : ℤ) (ws : List Write) → list_all (agrees (Some n, z)) ws ≡ list_all (agrees (Some n, z))
    (inside ws)
agree_inside n z [] = refl
agree_inside n z ((None, y) ∷ ws) = agree_inside n z ws
agree_inside n z ((Some m, y) ∷ ws) = ap (λ v. agrees (Some n, z) (Some m, y) && v) (agree_inside n z ws)

outside_agrees : (z : ℤ) (ws : List Write) → list_all (agrees (None, z)) ws ≡ true
outside_agrees z [] = refl
outside_agrees z (w ∷ ws) = outside_agrees z ws

all_agree_inside : (ws : List Write) → all_agree ws ≡ all_agree (inside ws)
all_agree_inside [] = refl
all_agree_inside ((None, z) ∷ ws) = ap (λ v. v && all_agree ws) (outside_agrees z ws) ∙ all_agree_inside ws
all_agree_inside ((Some n, z) ∷ ws) = ap (λ v. v && all_agree ws) (agree_inside n z ws)
    ∙ ap (λ v. list_all (agrees (Some n, z)) (inside ws) && v) (all_agree_inside ws)

written_inside : (state : State) (ws : List Write) → written state ws ≡ written state (inside ws)
written_inside state [] = refl
written_inside state ((None, z) ∷ ws) = written_inside state ws
written_inside state ((Some n, z) ∷ ws) = ap (λ t. put t n z) (written_inside state ws)

abbrev step_by : Bool → Ranges → List Write → State → Option State
step_by left ranges ws state = cond ((not left && list_all (is_inside ranges) ws) && all_agree ws)
    (Some (written state ws)) None

step_inside : (ranges : Ranges) (ws : List Write) (state : State) → step ranges ws state ≡ step_by (leaves ws) ranges
    (inside ws) state
step_inside ranges ws state =
    ap (λ v. cond (v && all_agree ws) (Some (written state ws)) None) (all_inside ranges ws)
    ∙ ap (λ v. cond ((not (leaves ws) && list_all (is_inside ranges) (inside ws)) && v) (Some (written state ws))
    None)
    (all_agree_inside ws)
    ∙ ap (λ v. cond ((not (leaves ws) && list_all (is_inside ranges) (inside ws)) && all_agree (inside ws)) (Some v)
    None) (written_inside state ws)

-- the same writes inside, and outside in both or in neither: the same step
pub step_same : (ranges : Ranges) (us ws : List Write) (state : State) → inside us ≡ inside ws → leaves us ≡
    leaves ws → step ranges us state ≡ step ranges ws state
step_same ranges us ws state e f =
    step_inside ranges us state ∙ ap (λ v. step_by v ranges (inside us) state) f
    ∙ ap (λ v. step_by (leaves ws) ranges v state) e ∙ sym (step_inside ranges ws state)

pub inside_joined : (us ws : List Write) → inside (us ++ ws) ≡ inside us ++ inside ws
inside_joined [] ws = refl
inside_joined ((None, z) ∷ us) ws = inside_joined us ws
inside_joined ((Some n, z) ∷ us) ws = ap (λ v. (Some n, z) ∷ v) (inside_joined us ws)

pub leaves_joined : (us ws : List Write) → leaves (us ++ ws) ≡ (leaves us || leaves ws)
leaves_joined [] ws = refl
leaves_joined ((None, z) ∷ us) ws = refl
leaves_joined ((Some n, z) ∷ us) ws = leaves_joined us ws
