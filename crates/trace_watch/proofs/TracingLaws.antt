-- A trace that is watched place by place.
use Rattle.std.proofs.Common.{◌≡◌, ℕ, zero, suc, ◌+◌, ◌<◌, ◌≤◌, List, [], ◌∷◌, ◌++◌, length, slice_get, take, Bool}
use Rattle.std.proofs.Common.{true}
use Rattle.std.proofs.Common.{false, cond, ◌||◌, Option, Some, None, refl, sym, ap, ◌∙◌, subst, arith, ◌⊎◌, inl, inr}
use Rattle.std.specs.Prelude.{◌≢◌, All}
use Rattle.std.proofs.Common.{get_or}
use Rattle.std.proofs.lemmas.List.{length-map}
use Rattle.core_terms.specs.declared.programs.CSlot.{CSlot}
use Rattle.core_terms.specs.declared.programs.CProgram.{CProgram}
use Rattle.core_terms.specs.Steps.{core_step}
use Rattle.executor.specs.CoreSystem.{core_system}
use Rattle.executor.specs.Running as runner
use Rattle.trace_watch.proofs.TryLaws.{core_chosen}
use Rattle.std.specs.Option.{is_none, option_map, option_or}
use Rattle.std.specs.List.{list_any, last_or, position_from}
use Rattle.meaning_states.specs.State.{State}
use Rattle.meaning_executions.specs.Execution.{Act, System, Steps, act_step, chosen_step}
use Rattle.meaning_executions.proofs.ExecutionTheorems.{extended}
use Rattle.trace_watch.specs.declared.violations.Violation.{Violation}
use Rattle.trace_watch.specs.declared.tracing.Ending.{Ending}
use Rattle.trace_watch.specs.declared.watch.Watch.{Watch}
use Rattle.trace_watch.specs.Readings.{Reading, passes, is_stuck, is_violated, fails_over}
use Rattle.trace_watch.specs.Cases.{WatchedStep}
use Rattle.trace_watch.specs.Violations.{violation_of, first_case, first_failing, violation, violation_at}
use Rattle.trace_watch.specs.Violations.{IsFirstViolation, IsUnviolated}
use Rattle.trace_watch.specs.Watching.{WatchStandsFor, program_of, slots_of, steps_of, system_of}
use Rattle.trace_watch.specs.Tracing.{WatchesDefined, Leads, EndsAs}
use Rattle.trace_watch.proofs.LookLaws.{length_pushed}

-- nothing is violated: so no case is

no_first : {X : Type 0} (o p : Option X) → option_or o p ≡ None → (o ≡ None) × (p ≡ None)
no_first None p e = (refl, e)
no_first (Some x) p e = cc

no_step : (f : Reading → Bool) (ws : List WatchedStep) → first_failing f ws ≡ None → (n : ℕ) (w : WatchedStep) →
    slice_get ws n ≡ Some w → first_case f w ≡ None
no_step f [] none n w e = cc
no_step f (v ∷ ws) none zero w e =
    let same : v ≡ w = cc in
    subst (λ u. first_case f u ≡ None) same (no_first (first_case f v) (first_failing f ws) none).0
no_step f (v ∷ ws) none (suc n) w e =
    no_step f ws (no_first (first_case f v) (first_failing f ws) none).1 n w e

no_place : (f : Reading → Bool) (rs : List Reading) (i : ℕ) → position_from f i rs ≡ None → (n : ℕ) (r : Reading) →
    slice_get rs n ≡ Some r → f r ≡ false
no_place f [] i none n r e = cc
no_place f (q ∷ rs) i none n r e = go (f q) refl none n e (λ rest m there. no_place f rs (i + 1) rest m r there)
  where
    go : (b : Bool) → f q ≡ b → cond b (Some i) (position_from f (i + 1) rs) ≡ None → (m : ℕ) →
        slice_get (q ∷ rs) m ≡ Some r →
        (position_from f (i + 1) rs ≡ None → (j : ℕ) → slice_get rs j ≡ Some r → f r ≡ false) → f r ≡ false
    go true is none m e rest = cc
    go false is none zero e rest = let same : q ≡ r = cc in subst (λ p. f p ≡ false) same is
    go false is none (suc m) e rest = rest none m e

mapped_none : {X Y : Type 0} (f : X → Y) (o : Option X) → option_map f o ≡ None → o ≡ None
mapped_none f None e = refl
mapped_none f (Some x) e = cc

pub not_violated : (x : System) (steps : List WatchedStep) (states : List State) (choices : List ℕ) →
    violation x steps states choices ≡ None → (w : WatchesDefined steps) →
    is_violated x w.reading states choices ≡ false
not_violated x steps states choices none w =
    no_place (λ r. is_violated x r states choices) w.watched.cases 0
    (mapped_none (violation_of w.watched.place)
    (position_from (λ r. is_violated x r states choices) 0 w.watched.cases)
    (no_step (λ r. is_violated x r states choices) steps none w.step w.watched w.there))
    w.case w.reading w.its

last_at : (s : State) (ss : List State) (n : ℕ) (t : State) → length ss ≡ n → slice_get (s ∷ ss) n ≡ Some t →
    last_or (Some s) ss ≡ Some t
last_at s [] zero t size e = e
last_at s [] (suc n) t size e = absurd (omega arith)
last_at s (u ∷ us) zero t size e = absurd (omega arith)
last_at s (u ∷ us) (suc n) t size e = last_at u us n t (omega arith) e

any_none : (s : State) (acts : List Act) (n : ℕ) → list_any (λ act. is_none (act s)) acts ≡ false → n < length acts →
    act_step s (slice_get acts n) ≢ None
any_none s [] n none h = absurd (omega arith)
any_none s (a ∷ acts) zero none h = go (a s) none
  where
    go : (o : Option State) → (is_none o || list_any (λ act. is_none (act s)) acts) ≡ false → o ≢ None
    go None e = cc
    go (Some t) e = λ same. cc
any_none s (a ∷ acts) (suc n) none h = any_none s acts n (go (a s) none) (omega arith)
  where
    go : (o : Option State) → (is_none o || list_any (λ act. is_none (act s)) acts) ≡ false →
        list_any (λ act. is_none (act s)) acts ≡ false
    go None e = cc
    go (Some t) e = e

-- so each step from the last state is defined
pub goes_on : (x : System) (steps : List WatchedStep) (start : State) (later : List State) (choices : List ℕ)
    (now : State)
    (choice : ℕ) → violation x steps (start ∷ later) choices ≡ None → WatchesDefined steps →
    length later ≡ length choices →
    slice_get (start ∷ later) (length choices) ≡ Some now → choice < length x.steps → chosen_step x choice now ≢ None
goes_on x steps start later choices now choice none w size here less =
    let quiet = not_violated x steps (start ∷ later) choices none w in
    let last = last_at start later (length choices) now size here in
    let stuck : is_stuck x now ≡ false =
    sym (ap (passes (is_stuck x)) last)
    ∙ ap (λ k. fails_over k x w.reading (start ∷ later) choices) (sym w.kind) ∙ quiet in
    any_none now x.steps choice stuck less

-- one place more

steps_length : (x : System) (s : State) (cs : List ℕ) (ts : List State) → Steps x s cs ts → length ts ≡ length cs
steps_length x s [] [] f = refl
steps_length x s [] (t ∷ ts) f = absurd f
steps_length x s (c ∷ cs) [] f = absurd f
steps_length x s (c ∷ cs) (t ∷ ts) f = ap (λ n. suc n) (steps_length x t cs ts f.1)

take_front : {X : Type 0} (n : ℕ) (xs ys : List X) → n ≤ length xs → take n (xs ++ ys) ≡ take n xs
take_front zero xs ys h = refl
take_front (suc n) [] ys h = absurd (omega arith)
take_front (suc n) (x ∷ xs) ys h = ap (λ zs. x ∷ zs) (take_front n xs ys (omega arith))

take_whole : {X : Type 0} (n : ℕ) (xs : List X) → length xs ≤ n → take n xs ≡ xs
take_whole zero [] h = refl
take_whole (suc n) [] h = refl
take_whole zero (x ∷ xs) h = absurd (omega arith)
take_whole (suc n) (x ∷ xs) h = ap (λ zs. x ∷ zs) (take_whole n xs (omega arith))

pub at_front : (x : System) (steps : List WatchedStep) (states : List State) (choices : List ℕ) (s : State)
    (c place : ℕ) →
    length states ≡ suc (length choices) → place < length states →
    violation_at x steps (states ++ s ∷ []) (choices ++ c ∷ []) place ≡ violation_at x steps states choices place
at_front x steps states choices s c place size less =
    ap (λ ss. violation x steps ss (take place (choices ++ c ∷ [])))
    (take_front (suc place) states (s ∷ []) (omega arith))
    ∙ ap (violation x steps (take (suc place) states)) (take_front place choices (c ∷ []) (omega arith))

pub at_end : (x : System) (steps : List WatchedStep) (states : List State) (choices : List ℕ) (place : ℕ) →
    length states ≡ suc (length choices) → place ≡ length choices →
    violation_at x steps states choices place ≡ violation x steps states choices
at_end x steps states choices place size at =
    ap (λ ss. violation x steps ss (take place choices)) (take_whole (suc place) states (omega arith))
    ∙ ap (violation x steps states) (take_whole place choices (omega arith))

-- what the watch has seen, and that nothing is violated
pub record Seen (w : Watch) (x : System) (steps : List WatchedStep) (start : State) (choices : List ℕ) (now : State) :
    Type 0 where
  pub led : Leads x start choices now
  pub stands : WatchStandsFor w (start ∷ led.later) choices
  pub none : IsUnviolated x steps (start ∷ led.later) choices

last_place : (n m : ℕ) → n < suc m → (n < m) ⊎ (n ≡ m)
last_place zero zero h = inr refl
last_place zero (suc m) h = inl (omega arith)
last_place (suc n) zero h = absurd (omega arith)
last_place (suc n) (suc m) h = elim (last_place n m (omega arith)) [
  | inl less ↦ inl (omega arith)
  | inr same ↦ inr (ap suc same)
]

pub seen_first : (w : Watch) (start : State) → WatchStandsFor w (start ∷ []) [] →
    violation_at (system_of w) (steps_of w) (start ∷ []) [] 0 ≡ None →
    Seen w (system_of w) (steps_of w) start [] start
seen_first w start stands none = record {
  led = record { later = []; steps = tt; last = refl };
  stands = stands;
  none = λ place less.
      let zero_place : 0 ≡ place = omega arith in
      subst (λ n. violation_at (system_of w) (steps_of w) (start ∷ []) [] n ≡ None) zero_place none;
}

module _ (x : System) (steps : List WatchedStep) (start : State) (choices : List ℕ) (now next : State) (choice : ℕ)
    (chosen : chosen_step x choice now ≡ Some next) where
  abbrev longer : (w : Watch) → (seen : Seen w x steps start choices now) → Leads x start (choices ++ choice ∷ []) next
  longer w seen =
      let more = extended x start choices seen.led.later seen.led.steps choice now next seen.led.last chosen in
      record { later = seen.led.later ++ next ∷ []; steps = more.0; last = more.1 }

  earlier_none : (w : Watch) (seen : Seen w x steps start choices now) (place : ℕ) →
      place < length (start ∷ seen.led.later) →
      violation_at x steps (start ∷ (seen.led.later ++ next ∷ [])) (choices ++ choice ∷ []) place ≡ None
  earlier_none w seen place less =
      at_front x steps (start ∷ seen.led.later) choices next choice place
      (ap suc (steps_length x start choices seen.led.later seen.led.steps)) less
      ∙ seen.none place less

  pub seen_more : (w after : Watch) → Seen w x steps start choices now →
      ((states : List State) (cs : List ℕ) → WatchStandsFor w states cs →
      WatchStandsFor after (states ++ next ∷ []) (cs ++ choice ∷ [])) →
      ((states : List State) (cs : List ℕ) → WatchStandsFor w states cs →
      None ≡ violation x steps (states ++ next ∷ []) (cs ++ choice ∷ [])) →
      Seen after x steps start (choices ++ choice ∷ []) next
  seen_more w after seen stands none =
      let size = steps_length x start choices seen.led.later seen.led.steps in
      let more = length_pushed choices choice in
      let long = length_pushed seen.led.later next in
      record {
        led = longer w seen;
        stands = stands (start ∷ seen.led.later) choices seen.stands;
        none = λ place less. elim (last_place place (length (start ∷ seen.led.later)) (omega (arith, long, less))) [
          | inl before ↦ earlier_none w seen place before
          | inr same ↦ at_end x steps (start ∷ (seen.led.later ++ next ∷ [])) (choices ++ choice ∷ []) place
              (omega (arith, long, more, size)) (omega (arith, same, more, size))
              ∙ sym (none (start ∷ seen.led.later) choices seen.stands)
        ];
      }

  pub found_here : (w : Watch) (v : Violation) (place : ℕ) → place ≡ length choices + 1 →
      Seen w x steps start choices now →
      ((states : List State) (cs : List ℕ) → WatchStandsFor w states cs →
      Some v ≡ violation x steps (states ++ next ∷ []) (cs ++ choice ∷ [])) →
      (led : Leads x start (choices ++ choice ∷ []) next)
      × IsFirstViolation x steps (start ∷ led.later) (choices ++ choice ∷ []) place v
  found_here w v place at seen found =
      let size = steps_length x start choices seen.led.later seen.led.steps in
      let more = length_pushed choices choice in
      let long = length_pushed seen.led.later next in (
        longer w seen,
        record {
          within = omega (arith, long, size, at);
          violated = at_end x steps (start ∷ (seen.led.later ++ next ∷ [])) (choices ++ choice ∷ []) place
              (omega (arith, long, more, size)) (omega (arith, at, more))
              ∙ sym (found (start ∷ seen.led.later) choices seen.stands);
          first = λ earlier less. earlier_none w seen earlier (omega (arith, size, at, less));
        },
      )

pub found_first : (w : Watch) (start : State) (choices : List ℕ) (v : Violation) → WatchStandsFor w (start ∷ []) [] →
    Some v ≡ violation_at (system_of w) (steps_of w) (start ∷ []) [] 0 →
    EndsAs (system_of w) (steps_of w) start choices start (Ending.Violated 0 v)
found_first w start choices v stands found = (
  record { later = []; steps = tt; last = refl },
  record {
    within = omega arith;
    violated = sym found;
    first = λ earlier less. absurd (omega arith);
  },
)

-- a choice more of a list
pub take_more : (cs : List ℕ) (n c : ℕ) → slice_get cs n ≡ Some c → take n cs ++ c ∷ [] ≡ take (n + 1) cs
take_more cs n c e = let one : suc n ≡ n + 1 = omega arith in go cs n e ∙ ap (λ m. take m cs) one
  where
    go : (ds : List ℕ) (m : ℕ) → slice_get ds m ≡ Some c → take m ds ++ c ∷ [] ≡ take (suc m) ds
    go [] m e = cc
    go (d ∷ ds) zero e = let same : d ≡ c = cc in ap (λ z. z ∷ []) (sym same)
    go (d ∷ ds) (suc m) e = ap (λ zs. d ∷ zs) (go ds m e)

pub take_length : {X : Type 0} (n : ℕ) (xs : List X) → n ≤ length xs → length (take n xs) ≡ n
take_length zero xs h = refl
take_length (suc n) [] h = absurd (omega arith)
take_length (suc n) (x ∷ xs) h = ap (λ m. suc m) (take_length n xs (omega arith))

pub take_end : {X : Type 0} (n : ℕ) (xs : List X) → length xs ≤ n → take n xs ≡ xs
take_end n xs h = take_whole n xs h

-- a runner and a watch of one program

pub chosen_in : (w : Watch) (slots : List CSlot) (p : CProgram) (choice : ℕ) (now : State) (o : Option State) →
    p ≡ program_of w → slots ≡ slots_of w → runner.chosen_step slots p choice now ≡ o →
    chosen_step (system_of w) choice now ≡ o
chosen_in w slots p choice now o same_p same_slots e =
    sym (core_chosen (slots_of w) (program_of w) choice now)
    ∙ ap (λ ss. runner.chosen_step ss (program_of w) choice now) (sym same_slots)
    ∙ ap (λ q. runner.chosen_step slots q choice now) (sym same_p) ∙ e

pub stays_defined : (w after : Watch) (slots : List CSlot) (p : CProgram) (start : State) (cs : List ℕ) (n : ℕ)
    (now : State) → p ≡ program_of w → slots ≡ slots_of w → WatchesDefined (steps_of w) →
    All (λ c. c < length p.statements) cs → n < length cs →
    Seen after (system_of w) (steps_of w) start (take n cs) now →
    runner.chosen_step slots p (get_or cs n 0) now ≡ None → ⊥
stays_defined w after slots p start cs n now same_p same_slots defined all less seen none =
    let size = steps_length (system_of w) start (take n cs) seen.led.later seen.led.steps in
    let quiet = sym (at_end (system_of w) (steps_of w) (start ∷ seen.led.later) (take n cs) (length (take n cs))
    (ap suc size) refl) ∙ seen.none (length (take n cs)) (omega (arith, size)) in
    let instances = length-map (program_of w).statements (core_step (slots_of w)) in
    let few = all n 0 less in
    let same = ap (λ (q : CProgram). length q.statements) same_p in
    goes_on (system_of w) (steps_of w) start seen.led.later (take n cs) now (get_or cs n 0) quiet defined size
    seen.led.last (omega (arith, few, same, instances))
    (chosen_in w slots p (get_or cs n 0) now None same_p same_slots none)

pub seen_exact : (w after : Watch) (given next : State) (choice : ℕ) (o : Option Violation) →
    program_of after ≡ program_of w → slots_of after ≡ slots_of w → steps_of after ≡ steps_of w → given ≡ next →
    ((states : List State) (cs : List ℕ) → WatchStandsFor after states cs →
    o ≡ violation (system_of after) (steps_of after) (states ++ given ∷ []) (cs ++ choice ∷ [])) →
    (states : List State) (cs : List ℕ) → WatchStandsFor after states cs →
    o ≡ violation (system_of w) (steps_of w) (states ++ next ∷ []) (cs ++ choice ∷ [])
seen_exact w after given next choice o same_p same_slots same_steps same exact states cs stands =
    exact states cs stands
    ∙ ap (λ t. violation (system_of after) (steps_of after) (states ++ t ∷ []) (cs ++ choice ∷ [])) same
    ∙ ap (λ q. violation (core_system (slots_of after) q) (steps_of after) (states ++ next ∷ []) (cs ++ choice ∷ []))
    same_p
    ∙ ap (λ ss. violation (core_system ss (program_of w)) (steps_of after) (states ++ next ∷ []) (cs ++ choice ∷ []))
    same_slots
    ∙ ap (λ ws. violation (system_of w) ws (states ++ next ∷ []) (cs ++ choice ∷ [])) same_steps
