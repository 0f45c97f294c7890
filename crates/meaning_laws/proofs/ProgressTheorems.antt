-- The laws by which one leads-to follows from others.
use Rattle.std.proofs.Common.{◌≡◌, ℕ, zero, suc, ◌+◌, ◌-◌, ◌*◌, ◌<◌, ◌≤◌, ℤ, pos, negsuc, ◌+ℤ◌, ◌-ℤ◌, ◌≤ℤ◌, ◌<ℤ◌, List}
use Rattle.std.proofs.Common.{[], ◌∷◌, Bool, true, false, ◌&&◌, ◌||◌, Some, IsTrue, refl, sym, subst, ap, ◌∙◌}
use Rattle.std.proofs.Common.{slice_get, drop, length, arith, max}
use Rattle.std.proofs.lemmas.Int.{ints}
use borrow.Author.Differences.{le-true, lt-true, lt-false}
use Rattle.std.specs.Int.RustNames.{int_le, int_lt}
use Rattle.std.specs.List.{list_any}
use Rattle.meaning_states.specs.State.{State, int_eq, in_range}
use Rattle.meaning_executions.specs.Counting.{natural, range_size}
use Rattle.meaning_executions.specs.Execution.{System, IsExecution}
use Rattle.meaning_executions.specs.Rounds.{rounds}
use Rattle.meaning_executions.specs.Properties.{Test, but_not, Everywhere, Unless, LeadsTo}
use Rattle.meaning_executions.specs.RoundLaws.{HoldsLater}
use Rattle.meaning_laws.specs.Tests.{both_hold, one_holds}
use Rattle.meaning_laws.specs.ProgressLaws.{at_measure, below_measure, Transitivity, EitherLeads, AnyLeads}
use Rattle.meaning_laws.specs.ProgressLaws.{ProgressWithSafety, LeadsWeaker, LeadsByInduction}
use Rattle.meaning_laws.proofs.TruthLaws.{or_left, or_right, not_true, cases}
use Rattle.meaning_laws.proofs.NumberTests.{le_passes, lt_passes}
use Rattle.meaning_states.proofs.StepTheorems.{and_left, and_right, both_true}
use Rattle.meaning_executions.proofs.RoundTheorems.{shortest_exists}
use Rattle.meaning_laws.proofs.RoundSumTheorems.{rounds_are_left, later_have_fewer}
use Rattle.meaning_executions.proofs.PropertyTheorems.{leads_is_follows, bound_grows, within_none, earlier}

-- what is dropped together is dropped in turn
drop-drop : (n j m : ℕ) (xs : List ℕ) → m ≡ n + j → drop j (drop n xs) ≡ drop m xs
drop-drop zero j m xs e = let same : j ≡ m = omega arith in ap (λ k. drop k xs) same
drop-drop (suc n) zero zero [] e = refl
drop-drop (suc n) (suc j) zero [] e = refl
drop-drop (suc n) zero (suc m) [] e = refl
drop-drop (suc n) (suc j) (suc m) [] e = refl
drop-drop (suc n) j zero (x ∷ xs) e = absurd (omega arith)
drop-drop (suc n) j (suc m) (x ∷ xs) e = let inner : m ≡ n + j = omega arith in drop-drop n j m xs inner

pub leads_on : Transitivity
leads_on x p q r bound more one two =
    (leads_is_follows x p r (bound + more)).1 (λ first choices later run place state e h enough.
    let k : ℕ = length x.steps in
    let rest : List ℕ = drop place choices in
    let short = shortest_exists rest k bound (omega (arith, enough)) in
    let found = one first choices later run place short.0 state e h short.1 in
    let are_left = rounds_are_left rest k bound short.0 short.1 in
    let past : ℕ = place + short.0 in
    let over : (j : ℕ) × (past ≡ found.place + j) = (past - found.place, omega (arith, found.before)) in
    let fewer = later_have_fewer (drop found.place choices) k over.0 in
    let there : drop over.0 (drop found.place choices) ≡ drop past choices =
    drop-drop found.place over.0 past choices over.1 in
    let here : drop short.0 rest ≡ drop past choices = drop-drop place short.0 past choices refl in
    let same : rounds (drop over.0 (drop found.place choices)) k ≡ rounds (drop short.0 rest) k =
    ap (λ cs. rounds cs k) (there ∙ sym here) in
    let end = (leads_is_follows x q r more).0 two first choices later run found.place found.state found.stands
    found.holds (omega (arith, enough, are_left, fewer, same)) in
    record {
      place = end.place;
      state = end.state;
      after = omega (arith, found.after, end.after);
      stands = end.stands;
      holds = end.holds;
    })

pub either_leads : EitherLeads
either_leads x p q r bound other one two first choices later run place n state e h short =
    cases (p state) (q state) _ h
    (λ t. bound_grows x p r bound (max bound other) (omega arith) one first choices later run place n state e t short)
    (λ t. bound_grows x q r other (max bound other) (omega arith) two first choices later run place n state e t short)

-- the number at which one of a list of tests passes
any_place : (p : ℤ → Bool) (numbers : List ℤ) → IsTrue (list_any p numbers) → (place : ℕ) × (m : ℤ) ×
    (slice_get numbers place ≡ Some m) × IsTrue (p m)
any_place p [] t = cc
any_place p (m ∷ rest) t = cases (p m) (list_any p rest)
    ((place : ℕ) × (n : ℤ) × (slice_get (m ∷ rest) place ≡ Some n) × IsTrue (p n)) t
    (λ h. (zero, m, refl, h))
    (λ h. let found = any_place p rest h in (suc found.0, found.1, found.2, found.3))

pub any_leads : AnyLeads
any_leads x p q bound numbers each first choices later run place n state e h short =
    let found = any_place (λ m. p m state) numbers h in
    each found.0 found.1 found.2 first choices later run place n state e found.3 short

pub leads_weaker : LeadsWeaker
leads_weaker x p q strong weak bound implies implied leads first choices later run place n state e h short =
    let found = leads first choices later run place n state e (implies first choices later run place state e h) short in
    record {
      place = found.place;
      state = found.state;
      after = found.after;
      before = found.before;
      stands = found.stands;
      holds = implied first choices later run found.place found.state found.stands found.holds;
    }

module _ (x : System) (q r b : Test) (safe : Unless x r b) (first : State) (choices : List ℕ) (later : List State)
    (run : IsExecution x first choices later) where
  -- r is kept up to the place where q holds, j places on, or b comes before
  pub kept_up : (j i at : ℕ) (s t : State) → at ≡ i + j → slice_get (first ∷ later) i ≡ Some s → IsTrue (r s) →
      slice_get (first ∷ later) at ≡ Some t → IsTrue (q t) → (v : Bool) → b s ≡ v →
      HoldsLater (one_holds (both_hold q r) b) (first ∷ later) i
  kept_up j i at s t sum here h there g true e =
      record { place = i; state = s; after = omega arith; stands = here; holds = or_right (q s && r s) (b s) e }
  kept_up zero i at s t sum here h there g false e =
      let place : at ≡ i = omega arith in
      let also : slice_get (first ∷ later) i ≡ Some t = subst (λ k. slice_get (first ∷ later) k ≡ Some t) place there in
      let same : t ≡ s = cc in
      let now : IsTrue (q s) = subst (λ u. IsTrue (q u)) same g in
      record {
        place = i;
        state = s;
        after = omega arith;
        stands = here;
        holds = or_left (q s && r s) (b s) (both_true (q s) (r s) now h);
      }
  kept_up (suc j) i at s t sum here h there g false e =
      let next = earlier (suc i) at (first ∷ later) t (omega arith) there in
      let either = safe first choices later run i s next.0 here next.1 (not_true (r s) (b s) h e) in
      cases (r next.0) (b next.0) (HoldsLater (one_holds (both_hold q r) b) (first ∷ later) i) either
      (λ k. let rest = kept_up j (suc i) at next.0 t (omega arith) next.1 k there g (b next.0) refl in
      record {
        place = rest.place;
        state = rest.state;
        after = omega (arith, rest.after);
        stands = rest.stands;
        holds = rest.holds;
      })
      (λ k. record {
        place = suc i;
        state = next.0;
        after = omega arith;
        stands = next.1;
        holds = or_right (q next.0 && r next.0) (b next.0) k;
      })

pub progress_with_safety : ProgressWithSafety
progress_with_safety x p q r b bound leads safe =
    (leads_is_follows x (both_hold p r) (one_holds (both_hold q r) b) bound).1
    (λ first choices later run place state e h enough.
    let found = (leads_is_follows x p q bound).0 leads first choices later run place state e
    (and_left (p state) (r state) h) enough in
    let far : (j : ℕ) × (found.place ≡ place + j) = (found.place - place, omega (arith, found.after)) in
    kept_up x q r b safe first choices later run far.0 place found.place state found.state far.1 e
    (and_right (p state) (r state) h)
    found.stands found.holds (b state) refl)

in_range_passes : (range : ℤ × ℤ) (z : ℤ) → range.0 ≤ℤ z → z ≤ℤ range.1 → IsTrue (in_range (Some range) z)
in_range_passes range z low high =
    both_true (int_le range.0 z) (int_le z range.1) (le_passes range.0 z low) (le_passes z range.1 high)

-- a place in a range, counted from its low end
inside : (z w : ℤ) (k : ℕ) → k < natural (w +ℤ pos 1 -ℤ z) → (z +ℤ pos k) ≤ℤ w
inside z w k h = go (w +ℤ pos 1 -ℤ z) refl h
  where
    go : (d : ℤ) → w +ℤ pos 1 -ℤ z ≡ d → k < natural d → (z +ℤ pos k) ≤ℤ w
    go (pos n) e less = omega (arith, ints)
    go (negsuc n) e less = absurd (omega arith)

-- a number of a range lies below its end
ended : (z w y : ℤ) → z ≤ℤ y → y ≤ℤ w → y <ℤ (z +ℤ pos (natural (w +ℤ pos 1 -ℤ z)))
ended z w y low high = go (w +ℤ pos 1 -ℤ z) refl
  where
    go : (d : ℤ) → w +ℤ pos 1 -ℤ z ≡ d → y <ℤ (z +ℤ pos (natural d))
    go (pos n) e = omega (arith, ints)
    go (negsuc n) e = absurd (omega (arith, ints))

-- a number below the next is that number or below it
next_below : (y m : ℤ) → IsTrue (int_lt y (m +ℤ pos 1)) → IsTrue (int_eq y m || int_lt y m)
next_below y m t =
    let less = lt-true y (m +ℤ pos 1) t in
    go (int_lt y m) refl
  where
    go : (b : Bool) → int_lt y m ≡ b → IsTrue (int_eq y m || int_lt y m)
    go true e = or_right (int_eq y m) (int_lt y m) e
    go false e =
        let over = lt-false y m e in
        let less = lt-true y (m +ℤ pos 1) t in
        or_left (int_eq y m) (int_lt y m) (both_true (int_le y m) (int_le m y) (le_passes y m (omega (arith, ints)))
        (le_passes m y (omega (arith, ints))))

module _ (x : System) (measure : State → ℤ) (range : ℤ × ℤ) (p q : Test) (bound : ℕ)
    (lies : Everywhere x (λ state. IsTrue (but_not p q state) → IsTrue (in_range (Some range) (measure state))))
    (falls : (m : ℤ) → IsTrue (in_range (Some range) m) →
    LeadsTo x (at_measure measure p m) (one_holds (below_measure measure p m) q) bound) where
  -- p holds, and the measure is below so many of the range's numbers
  abbrev below_at : ℕ → Test
  below_at k = below_measure measure p (range.0 +ℤ pos k)

  one_lower : (k : ℕ) (s : State) → IsTrue (below_at (suc k) s) →
      IsTrue (one_holds (at_measure measure p (range.0 +ℤ pos k)) (below_at k) s)
  one_lower k s h =
      let m : ℤ = range.0 +ℤ pos k in
      let here = and_left (p s) (int_lt (measure s) (range.0 +ℤ pos (suc k))) h in
      let less = lt-true (measure s) (range.0 +ℤ pos (suc k))
      (and_right (p s) (int_lt (measure s) (range.0 +ℤ pos (suc k))) h) in
      cases (int_eq (measure s) m) (int_lt (measure s) m) (IsTrue (one_holds (at_measure measure p m) (below_at k) s))
      (next_below (measure s) m (lt_passes (measure s) (m +ℤ pos 1) (omega (arith, ints))))
      (λ t. or_left (at_measure measure p m s) (below_at k s) (both_true (p s) (int_eq (measure s) m) here t))
      (λ t. or_right (at_measure measure p m s) (below_at k s) (both_true (p s) (int_lt (measure s) m) here t))

  -- q already holds
  or_already : (r : Test) (n : ℕ) → LeadsTo x r q n → LeadsTo x (one_holds r q) q n
  or_already r n leads =
      let self = (within_none x q q).1 (λ first choices later run place state e h. h) in
      bound_grows x (one_holds r q) q (max n 0) n (omega arith) (either_leads x r q q n 0 leads self)

  lowest : LeadsTo x (below_at 0) q 0
  lowest = (within_none x (below_at 0) q).1 (λ first choices later run place state e h.
      let go : (b : Bool) → q state ≡ b → IsTrue (q state) = elim [
        | true ↦ λ f. f
        | false ↦ λ f.
            let there = lies first choices later run place state e
            (not_true (p state) (q state) (and_left (p state) (int_lt (measure state) (range.0 +ℤ pos 0)) h) f) in
            let low = le-true range.0 (measure state)
            (and_left (int_le range.0 (measure state)) (int_le (measure state) range.1) there) in
            let less = lt-true (measure state) (range.0 +ℤ pos 0)
            (and_right (p state) (int_lt (measure state) (range.0 +ℤ pos 0)) h) in
            absurd (omega (arith, ints))
      ] in go (q state) refl)

  descends : (k : ℕ) → k ≤ range_size range → LeadsTo x (below_at k) q (k * bound)
  descends zero h = bound_grows x (below_at 0) q 0 (0 * bound) (omega arith) lowest
  descends (suc k) h =
      let m : ℤ = range.0 +ℤ pos k in
      let high : m ≤ℤ range.1 = inside range.0 range.1 k h in
      let here = falls m (in_range_passes range m (omega (arith, ints)) high) in
      let rest = descends k (omega arith) in
      let from_m = leads_on x (at_measure measure p m) (one_holds (below_at k) q) q bound (k * bound) here
      (or_already (below_at k) (k * bound) rest) in
      let either = either_leads x (at_measure measure p m) (below_at k) q (bound + k * bound) (k * bound) from_m rest in
      let all = leads_weaker x (one_holds (at_measure measure p m) (below_at k)) q (below_at (suc k)) q
      (max (bound + k * bound) (k * bound))
      (λ first choices later run place state e h. one_lower k state h)
      (λ first choices later run place state e h. h) either in
      bound_grows x (below_at (suc k)) q (max (bound + k * bound) (k * bound)) (suc k * bound) (omega arith) all

  covered : (s : State) → IsTrue (p s) → (IsTrue (but_not p q s) → IsTrue (in_range (Some range) (measure s))) →
      (b : Bool) → q s ≡ b →
      IsTrue (one_holds (below_at (range_size range)) q s)
  covered s h there true e = or_right (below_at (range_size range) s) (q s) e
  covered s h there false e =
      let within = there (not_true (p s) (q s) h e) in
      let low = le-true range.0 (measure s)
      (and_left (int_le range.0 (measure s)) (int_le (measure s) range.1) within) in
      let high = le-true (measure s) range.1
      (and_right (int_le range.0 (measure s)) (int_le (measure s) range.1) within) in
      let less = ended range.0 range.1 (measure s) (omega (arith, ints)) (omega (arith, ints)) in
      or_left (below_at (range_size range) s) (q s)
      (both_true (p s) (int_lt (measure s) (range.0 +ℤ pos (range_size range))) h
      (lt_passes (measure s) (range.0 +ℤ pos (range_size range)) less))

  all_leads : LeadsTo x p q (range_size range * bound)
  all_leads =
      let down = or_already (below_at (range_size range)) (range_size range * bound)
      (descends (range_size range) (omega arith)) in
      leads_weaker x (one_holds (below_at (range_size range)) q) q p q (range_size range * bound)
      (λ first choices later run place state e h.
      covered state h (lies first choices later run place state e) (q state) refl)
      (λ first choices later run place state e h. h) down

pub leads_by_induction : LeadsByInduction
leads_by_induction x measure range p q bound lies falls = all_leads x measure range p q bound lies falls
