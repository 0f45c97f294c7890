-- What stands of a system stands of a layer over it.
use Rattle.std.proofs.Common.{◌≡◌, ℕ, zero, suc, ◌<◌, ◌≤◌, List, [], ◌∷◌, Bool, true, false, not, ◌||◌, cond}
use Rattle.std.proofs.Common.{Some, IsTrue, refl, sym, ap, ◌∙◌, subst, slice_get, length, drop, nat_lt, arith}
use Rattle.std.proofs.lemmas.Bool.{ltb-true, ltb-false}
use Rattle.meaning_states.specs.State.{State}
use Rattle.meaning_laws.specs.from_meaning_executions.Execution.{System, Steps, IsExecution, chosen_step}
use Rattle.meaning_laws.specs.from_meaning_executions.Rounds.{rounds}
use Rattle.meaning_laws.specs.from_meaning_executions.Properties.{Test}
use Rattle.meaning_laws.specs.from_meaning_executions.Systems.{kept}
use Rattle.meaning_laws.specs.Stands.{UnlessStands, EnsuresStands}
use Rattle.layer_laws.specs.Layers.{Back, IsOver, choices_below, states_below, IsBlind, Guards, ProjectionRuns}
use Rattle.layer_laws.specs.Layers.{UnlessCarried, EnsuresCarried, InvariantCarried, LeadsCarried, ThroughoutCarried}
use Rattle.meaning_states.proofs.StepTheorems.{and_left}
use Rattle.meaning_laws.proofs.TruthLaws.{or_left}
use Rattle.meaning_laws.proofs.KeptTheorems.{kept_runs, kept_length}
use Rattle.meaning_laws.proofs.lemmas_from_meaning_executions.PropertyTheorems.{leads_is_follows}
use Rattle.layer_laws.proofs.RoundsBelow.{rounds_of_below}

-- a state of the projection is one of the layer, from a place on, put back
pub record Found (back : Back) (origin s : State) (ts : List State) (from : ℕ) (w : State) : Type 0 where
  pub place : ℕ
  pub state : State
  pub after : from ≤ place
  pub there : slice_get (s ∷ ts) place ≡ Some state
  pub is : w ≡ back origin state

-- where a place of the layer's execution comes to stand among the states bs and the choices ds of the projection
pub record Image (back : Back) (origin s : State) (ts : List State) (place : ℕ) (state : State) (rest ds : List ℕ)
    (bs : List State) : Type 0 where
  pub at : ℕ
  pub there : slice_get bs at ≡ Some (back origin state)
  pub left : drop at ds ≡ rest
  pub later : (n : ℕ) (w : State) → at ≤ n → slice_get bs n ≡ Some w → Found back origin s ts place w

-- one state further on
further_on : (back : Back) (origin s t : State) (ts : List State) (place : ℕ) (w : State) →
    Found back origin t ts place w → Found back origin s (t ∷ ts) (suc place) w
further_on back origin s t ts place w f =
    record { place = suc f.place; state = f.state; after = omega (arith, f.after); there = f.there; is = f.is }

one_on : (back : Back) (origin s t : State) (ts : List State) (w : State) → Found back origin t ts 0 w →
    Found back origin s (t ∷ ts) 0 w
one_on back origin s t ts w f =
    record { place = suc f.place; state = f.state; after = omega arith; there = f.there; is = f.is }

past_one : (back : Back) (origin s t : State) (ts : List State) (place : ℕ) (z : State) (bs : List State) (at : ℕ) →
    ((n : ℕ) (w : State) → at ≤ n → slice_get bs n ≡ Some w → Found back origin t ts place w) →
    (n : ℕ) (w : State) → suc at ≤ n → slice_get (z ∷ bs) n ≡ Some w → Found back origin s (t ∷ ts) (suc place) w
past_one back origin s t ts place z bs at later zero w h d = absurd (omega (arith, h))
past_one back origin s t ts place z bs at later (suc n) w h d =
    further_on back origin s t ts place w (later n w (omega (arith, h)) d)

module _ (y x : System) (back : Back) (over : IsOver y x back) where
  -- the steps of the layer, with its own slots put back

  one_step : (origin s t : State) (c : ℕ) (cs : List ℕ) (ts : List State) → chosen_step y c s ≡ Some t →
      Steps x (back origin t) (choices_below (length x.steps) cs)
      (states_below back origin (length x.steps) cs ts) → (b : Bool) → nat_lt c (length x.steps) ≡ b →
      Steps x (back origin s)
      (cond b (c ∷ choices_below (length x.steps) cs) (choices_below (length x.steps) cs))
      (cond b (back origin t ∷ states_below back origin (length x.steps) cs ts)
      (states_below back origin (length x.steps) cs ts))
  one_step origin s t c cs ts f rest true e =
      (over.below origin s t c (ltb-true c (length x.steps) e) f, rest)
  one_step origin s t c cs ts f rest false e =
      subst (λ w. Steps x w (choices_below (length x.steps) cs) (states_below back origin (length x.steps) cs ts))
      (over.beside origin s t c (ltb-false c (length x.steps) e) f) rest

  projected : (origin s : State) (cs : List ℕ) (ts : List State) → Steps y s cs ts →
      Steps x (back origin s) (choices_below (length x.steps) cs)
      (states_below back origin (length x.steps) cs ts)
  projected origin s [] [] f = tt
  projected origin s [] (t ∷ ts) f = absurd f
  projected origin s (c ∷ cs) [] f = absurd f
  projected origin s (c ∷ cs) (t ∷ ts) f =
      one_step origin s t c cs ts f.0 (projected origin t cs ts f.1) (nat_lt c (length x.steps)) refl

  runs_below : (first : State) (cs : List ℕ) (ts : List State) → IsExecution y first cs ts →
      IsTrue (x.initial first) →
      IsExecution x first (choices_below (length x.steps) cs) (states_below back first (length x.steps) cs ts)
  runs_below first cs ts run starts = record {
    starts = starts;
    steps = subst (λ w. Steps x w (choices_below (length x.steps) cs)
        (states_below back first (length x.steps) cs ts)) (over.itself first) (projected first first cs ts run.steps);
  }

  one_found : (origin s t : State) (c : ℕ) (cs : List ℕ) (ts : List State) (n : ℕ) (w : State) →
      ((i : ℕ) → slice_get (back origin t ∷ states_below back origin (length x.steps) cs ts) i ≡ Some w →
      Found back origin t ts 0 w) → (b : Bool) →
      slice_get (cond b (back origin t ∷ states_below back origin (length x.steps) cs ts)
      (states_below back origin (length x.steps) cs ts)) n ≡ Some w → Found back origin s (t ∷ ts) 0 w
  one_found origin s t c cs ts n w rest true e = one_on back origin s t ts w (rest n e)
  one_found origin s t c cs ts n w rest false e = one_on back origin s t ts w (rest (suc n) e)

  found_above : (origin s : State) (cs : List ℕ) (ts : List State) (n : ℕ) (w : State) →
      slice_get (back origin s ∷ states_below back origin (length x.steps) cs ts) n ≡ Some w →
      Found back origin s ts 0 w
  found_above origin s cs ts zero w e =
      let same : back origin s ≡ w = cc in
      record { place = zero; state = s; after = omega arith; there = refl; is = sym same }
  found_above origin s [] ts (suc n) w e = cc
  found_above origin s (c ∷ cs) [] (suc n) w e = cc
  found_above origin s (c ∷ cs) (t ∷ ts) (suc n) w e =
      one_found origin s t c cs ts n w (λ i d. found_above origin t cs ts i w d) (nat_lt c (length x.steps)) e

  one_image : (origin s t : State) (c : ℕ) (cs : List ℕ) (ts : List State) (place : ℕ) (state : State)
      (rest : List ℕ) → chosen_step y c s ≡ Some t →
      Image back origin t ts place state rest (choices_below (length x.steps) cs)
      (back origin t ∷ states_below back origin (length x.steps) cs ts) → (b : Bool) →
      nat_lt c (length x.steps) ≡ b →
      Image back origin s (t ∷ ts) (suc place) state rest
      (cond b (c ∷ choices_below (length x.steps) cs) (choices_below (length x.steps) cs))
      (back origin s ∷ cond b (back origin t ∷ states_below back origin (length x.steps) cs ts)
      (states_below back origin (length x.steps) cs ts))
  one_image origin s t c cs ts place state rest f image true e = record {
    at = suc image.at;
    there = image.there;
    left = image.left;
    later = past_one back origin s t ts place (back origin s)
        (back origin t ∷ states_below back origin (length x.steps) cs ts) image.at image.later;
  }
  one_image origin s t c cs ts place state rest f image false e =
      let same : back origin t ≡ back origin s = over.beside origin s t c (ltb-false c (length x.steps) e) f in
      let bs : List State = states_below back origin (length x.steps) cs ts in
      record {
        at = image.at;
        there = subst (λ z. slice_get (z ∷ bs) image.at ≡ Some (back origin state)) same image.there;
        left = image.left;
        later = λ n w h d. further_on back origin s t ts place w
            (image.later n w h (subst (λ z. slice_get (z ∷ bs) n ≡ Some w) (sym same) d));
      }

  image_of : (origin s : State) (cs : List ℕ) (ts : List State) → Steps y s cs ts → (place : ℕ) (state : State) →
      slice_get (s ∷ ts) place ≡ Some state →
      Image back origin s ts place state (choices_below (length x.steps) (drop place cs))
      (choices_below (length x.steps) cs) (back origin s ∷ states_below back origin (length x.steps) cs ts)
  image_of origin s cs ts f zero state e =
      let same : s ≡ state = cc in
      record {
        at = zero;
        there = ap (λ z. Some (back origin z)) same;
        left = refl;
        later = λ n w h d. found_above origin s cs ts n w d;
      }
  image_of origin s [] [] f (suc place) state e = cc
  image_of origin s [] (t ∷ ts) f (suc place) state e = absurd f
  image_of origin s (c ∷ cs) [] f (suc place) state e = absurd f
  image_of origin s (c ∷ cs) (t ∷ ts) f (suc place) state e =
      one_image origin s t c cs ts place state (choices_below (length x.steps) (drop place cs)) f.0
      (image_of origin t cs ts f.1 place state e) (nat_lt c (length x.steps)) refl

  -- single steps

  -- a step of the layer is one of the system under it, or leaves all but the layer's own slots
  step_below : (now next : State) (c : ℕ) → chosen_step y c now ≡ Some next → c < length x.steps →
      chosen_step x c now ≡ Some (back now next)
  step_below now next c e low =
      subst (λ w. chosen_step x c w ≡ Some (back now next)) (over.itself now) (over.below now now next c low e)

  step_beside : (now next : State) (c : ℕ) → chosen_step y c now ≡ Some next → length x.steps ≤ c →
      back now next ≡ now
  step_beside now next c e high = over.beside now now next c high e ∙ over.itself now

  module _ (u v : Test) (guards : Guards y x back u v) where
    inside_now : (now : State) → IsTrue (v now) → IsTrue (u now)
    inside_now now h = subst (λ w. IsTrue (u w)) (over.itself now) (guards.keeps now now h h)

    unless_above : (p q : Test) → IsBlind back p → IsBlind back q → UnlessStands x u p q → UnlessStands y v p q
    unless_above p q blind_p blind_q stands c now next before after e h = go (nat_lt c (length x.steps)) refl
      where
        go : (b : Bool) → nat_lt c (length x.steps) ≡ b → IsTrue (p next || q next)
        go true low =
            let given = stands c now (back now next) (inside_now now before) (guards.keeps now next before after)
            (step_below now next c e (ltb-true c (length x.steps) low)) h in
            subst (λ b. IsTrue (b || q next)) (blind_p now next)
            (subst (λ b. IsTrue (p (back now next) || b)) (blind_q now next) given)
        go false high =
            let same = step_beside now next c e (ltb-false c (length x.steps) high) in
            or_left (p next) (q next) (subst (λ b. IsTrue b) (blind_p now next)
            (subst (λ w. IsTrue (p w)) (sym same) (and_left (p now) (not (q now)) h)))

    ensures_above : (p q : Test) (choice : ℕ) → IsBlind back p → IsBlind back q → EnsuresStands x u p q choice →
        EnsuresStands y v p q choice
    ensures_above p q choice blind_p blind_q stands = record {
      unless = unless_above p q blind_p blind_q stands.unless;
      within = let more = over.few in omega (arith, stands.within, more);
      helps = λ now next before after e h.
          subst (λ b. IsTrue b) (blind_q now next)
          (stands.helps now (back now next) (inside_now now before) (guards.keeps now next before after)
          (step_below now next choice e stands.within) h);
    }

pub projection_runs : ProjectionRuns
projection_runs y x back over first cs ts run starts = runs_below y x back over first cs ts run starts

pub unless_carried : UnlessCarried
unless_carried y x back u v p q over guards blind_p blind_q stands =
    unless_above y x back over u v guards p q blind_p blind_q stands

pub ensures_carried : EnsuresCarried
ensures_carried y x back u v p q choice over guards blind_p blind_q stands =
    ensures_above y x back over u v guards p q choice blind_p blind_q stands

pub invariant_carried : InvariantCarried
invariant_carried y x back u v p over guards blind stands = record {
  starts = λ s t h. stands.starts s (guards.starts s t h) (inside_now y x back over u v guards s h);
  keeps = λ c now next before after e h. go c now next before after e h (nat_lt c (length x.steps)) refl;
}
  where
    go : (c : ℕ) (now next : State) → IsTrue (v now) → IsTrue (v next) → chosen_step y c now ≡ Some next →
        IsTrue (p now) → (b : Bool) → nat_lt c (length x.steps) ≡ b → IsTrue (p next)
    go c now next before after e h true low =
        subst (λ b. IsTrue b) (blind now next) (stands.keeps c now (back now next)
        (inside_now y x back over u v guards now before) (guards.keeps now next before after)
        (step_below y x back over now next c e (ltb-true c (length x.steps) low)) h)
    go c now next before after e h false high =
        let same = step_beside y x back over now next c e (ltb-false c (length x.steps) high) in
        subst (λ b. IsTrue b) (blind now next) (subst (λ w. IsTrue (p w)) (sym same) h)

pub throughout_carried : ThroughoutCarried
throughout_carried y x back w over blind starts always first choices later run place state e =
    let below = runs_below y x back over first choices later run (starts first run.starts) in
    let bs : List State = states_below back first (length x.steps) choices later in
    let image = image_of y x back over first first choices later run.steps place state e in
    let there : slice_get (first ∷ bs) image.at ≡ Some (back first state) =
    subst (λ z. slice_get (z ∷ bs) image.at ≡ Some (back first state)) (over.itself first) image.there in
    subst (λ b. IsTrue b) (blind first state)
    (always first (choices_below (length x.steps) choices) bs below image.at (back first state) there)

pub leads_carried : LeadsCarried
leads_carried y x back u v p q bound over guards blind_p blind_q stands =
    (leads_is_follows (kept v y) p q bound).1 (λ first choices later run place state e h enough.
    let parts = (kept_runs v y first choices later).0 run in
    let k : ℕ = length x.steps in
    let begins = parts.1 zero first refl in
    let starts = guards.starts first parts.0.starts begins in
    let below = runs_below y x back over first choices later parts.0 starts in
    let cs : List ℕ = choices_below k choices in
    let bs : List State = states_below back first k choices later in
    let same = over.itself first in
    let inside : (n : ℕ) (w : State) → slice_get (first ∷ bs) n ≡ Some w → IsTrue (u w) = λ n w d.
    let from = found_above y x back over first first choices later n w
    (subst (λ z. slice_get (z ∷ bs) n ≡ Some w) (sym same) d) in
    subst (λ z. IsTrue (u z)) (sym from.is)
    (guards.keeps first from.state begins (parts.1 from.place from.state from.there)) in
    let inner = (kept_runs u x first cs bs).1 (below, inside) in
    let image = image_of y x back over first first choices later parts.0.steps place state e in
    let there : slice_get (first ∷ bs) image.at ≡ Some (back first state) =
    subst (λ z. slice_get (z ∷ bs) image.at ≡ Some (back first state)) same image.there in
    let many : bound ≤ rounds (drop place choices) (length y.steps) =
    subst (λ n. bound ≤ rounds (drop place choices) n) (kept_length v y) enough in
    let more = rounds_of_below k (length y.steps) (drop place choices) over.some over.few in
    let fewer : bound ≤ rounds (choices_below k (drop place choices)) k = omega (arith, many, more) in
    let left : bound ≤ rounds (drop image.at cs) k = subst (λ ds. bound ≤ rounds ds k) (sym image.left) fewer in
    let found = (leads_is_follows (kept u x) p q bound).0 stands first cs bs inner image.at (back first state) there
    (subst (λ b. IsTrue b) (sym (blind_p first state)) h)
    (subst (λ n. bound ≤ rounds (drop image.at cs) n) (sym (kept_length u x)) left) in
    let out = image.later found.place found.state found.after
    (subst (λ z. slice_get (z ∷ bs) found.place ≡ Some found.state) (sym same) found.stands) in
    record {
      place = out.place;
      state = out.state;
      after = out.after;
      stands = out.there;
      holds = subst (λ b. IsTrue b) (blind_q first out.state)
          (subst (λ z. IsTrue (q z)) {x = found.state} {y = back first out.state} out.is found.holds);
    })
