-- A watched trace ends in one way, and in some way.
use Rattle.std.proofs.Common.{◌≡◌, ◌<◌, ◌≤◌, ◌+◌, ◌⊎◌, inl, inr, ℕ, zero, suc, List, [], ◌∷◌, ◌++◌, length, take}
use Rattle.std.proofs.Common.{Option, Some, None, refl, sym, ap, ◌∙◌, subst, slice_get, arith}
use Rattle.meaning_states.specs.State.{State}
use Rattle.meaning_executions.specs.Execution.{System, Steps, chosen_step}
use Rattle.meaning_executions.proofs.ExecutionTheorems.{extended}
use Rattle.trace_watch.specs.declared.tracing.Ending.{Ending}
use Rattle.trace_watch.specs.declared.violations.Violation.{Violation}
use Rattle.trace_watch.specs.Cases.{WatchedStep}
use Rattle.trace_watch.specs.Violations.{IsFirstViolation, IsUnviolated, violation, violation_at}
use Rattle.trace_watch.specs.Tracing.{EndsAs, Leads, WatchesDefined}
use Rattle.trace_watch.proofs.TracingLaws.{at_end, at_front, goes_on, take_end, take_length}

-- ---- states and choices

steps_length : (x : System) (s : State) (cs : List ℕ) (ts : List State) → Steps x s cs ts → length ts ≡ length cs
steps_length x s [] [] f = refl
steps_length x s [] (t ∷ ts) f = absurd f
steps_length x s (c ∷ cs) [] f = absurd f
steps_length x s (c ∷ cs) (t ∷ ts) f = ap suc (steps_length x t cs ts f.1)

-- choices lead through one list of states
one_way : (x : System) (s : State) (cs : List ℕ) (ts us : List State) → Steps x s cs ts → Steps x s cs us → ts ≡ us
one_way x s [] [] [] f g = refl
one_way x s [] [] (u ∷ us) f g = absurd g
one_way x s [] (t ∷ ts) us f g = absurd f
one_way x s (c ∷ cs) [] us f g = absurd f
one_way x s (c ∷ cs) (t ∷ ts) [] f g = absurd g
one_way x s (c ∷ cs) (t ∷ ts) (u ∷ us) f g =
    let somes : ◌≡◌ {A = Option State} (Some t) (Some u) = sym f.0 ∙ g.0 in
    let same : t ≡ u = cc in
    ap (λ z. z ∷ ts) same ∙ ap (λ zs. u ∷ zs) (one_way x u cs ts us (subst (λ z. Steps x z cs ts) same f.1) g.1)

cut_steps : (x : System) (s : State) (cs : List ℕ) (ts : List State) → Steps x s cs ts → (n : ℕ) →
    Steps x s (take n cs) (take n ts)
cut_steps x s cs ts f zero = tt
cut_steps x s [] [] f (suc n) = tt
cut_steps x s [] (t ∷ ts) f (suc n) = absurd f
cut_steps x s (c ∷ cs) [] f (suc n) = absurd f
cut_steps x s (c ∷ cs) (t ∷ ts) f (suc n) = (f.0, cut_steps x t cs ts f.1 n)

cut_twice : {X : Type 0} (n m : ℕ) (xs : List X) → n ≤ m → take n (take m xs) ≡ take n xs
cut_twice zero m xs h = refl
cut_twice (suc n) zero xs h = absurd (omega (arith, h))
cut_twice (suc n) (suc m) [] h = refl
cut_twice (suc n) (suc m) (x ∷ xs) h = ap (λ ys. x ∷ ys) (cut_twice n m xs (omega (arith, h)))

cut_length : {X : Type 0} (n : ℕ) (xs : List X) → length (take n xs) ≤ n
cut_length zero xs = omega arith
cut_length (suc n) [] = omega arith
cut_length (suc n) (x ∷ xs) = let less = cut_length n xs in omega (arith, less)

-- ---- one ending

-- what is violated at a place, by the states up to it
at_cut : (x : System) (steps : List WatchedStep) (s : State) (cs : List ℕ) (n p : ℕ) → p ≤ n → (ts us : List State) →
    Steps x s (take n cs) ts → Steps x s (take p cs) us →
    violation_at x steps (s ∷ ts) (take n cs) p ≡ violation x steps (s ∷ us) (take p cs)
at_cut x steps s cs n p less ts us f g =
    let same = cut_twice p n cs less in
    let states = one_way x s (take p cs) (take p ts) us
    (subst (λ ds. Steps x s ds (take p ts)) same (cut_steps x s (take n cs) ts f p)) g in
    ap (λ ds. violation x steps (s ∷ take p ts) ds) same ∙ ap (λ vs. violation x steps (s ∷ vs) (take p cs)) states

-- a violation comes at a place that the choices reach
within_cut : (x : System) (s : State) (cs : List ℕ) (ts : List State) (p : ℕ) → Steps x s (take p cs) ts →
    p < length (s ∷ ts) → p ≤ length cs
within_cut x s cs ts p f less =
    let size = steps_length x s (take p cs) ts f in
    short p cs (omega (arith, size, less))
  where
    short : (n : ℕ) (ds : List ℕ) → n ≤ length (take n ds) → n ≤ length ds
    short zero ds h = omega arith
    short (suc n) [] h = absurd (omega (arith, h))
    short (suc n) (d ∷ ds) h = let more = short n ds (omega (arith, h)) in omega (arith, more)

module _ (x : System) (steps : List WatchedStep) (s : State) (cs : List ℕ) where
  abbrev pub FirstAt : State → ℕ → Violation → Type 0
  FirstAt end p v = (led : Leads x s (take p cs) end) × IsFirstViolation x steps (s ∷ led.later) (take p cs) p v

  -- no violation comes before a first one
  not_before : (end last : State) (p q : ℕ) (v w : Violation) → FirstAt end p v → FirstAt last q w → p < q → ⊥
  not_before end last p q v w a b less =
      let early = at_cut x steps s cs p p (omega arith) a.0.later a.0.later a.0.steps a.0.steps in
      let late = at_cut x steps s cs q p (omega (arith, less)) b.0.later a.0.later b.0.steps a.0.steps in
      let never : ◌≡◌ {A = Option Violation} (Some v) None =
      sym a.1.violated ∙ early ∙ sym late ∙ b.1.first p less in
      cc

  not_kept : (end last : State) (p : ℕ) (v : Violation) → FirstAt end p v →
      (led : Leads x s cs last) × IsUnviolated x steps (s ∷ led.later) cs → ⊥
  not_kept end last p v a b =
      let reached = within_cut x s cs a.0.later p a.0.steps a.1.within in
      let whole = take_end (length cs) cs (omega arith) in
      let early = at_cut x steps s cs p p (omega arith) a.0.later a.0.later a.0.steps a.0.steps in
      let late = at_cut x steps s cs (length cs) p reached b.0.later a.0.later
      (subst (λ ds. Steps x s ds b.0.later) (sym whole) b.0.steps) a.0.steps in
      let size = steps_length x s cs b.0.later b.0.steps in
      let never : ◌≡◌ {A = Option Violation} (Some v) None =
      sym a.1.violated ∙ early ∙ sym late
      ∙ ap (λ ds. violation_at x steps (s ∷ b.0.later) ds p) whole ∙ b.1 p (omega (arith, reached, size)) in
      cc

  one_end : (ds : List ℕ) (end last : State) → Leads x s ds end → Leads x s ds last → end ≡ last
  one_end ds end last a b =
      let states = one_way x s ds a.later b.later a.steps b.steps in
      let ends : ◌≡◌ {A = Option State} (Some end) (Some last) =
      sym a.last ∙ ap (λ ts. slice_get (s ∷ ts) (length ds)) states ∙ b.last in
      cc

  same_first : (end last : State) (p : ℕ) (v w : Violation) → FirstAt end p v → FirstAt last p w → v ≡ w
  same_first end last p v w a b =
      let early = at_cut x steps s cs p p (omega arith) a.0.later a.0.later a.0.steps a.0.steps in
      let late = at_cut x steps s cs p p (omega arith) b.0.later a.0.later b.0.steps a.0.steps in
      let same : ◌≡◌ {A = Option Violation} (Some v) (Some w) =
      sym a.1.violated ∙ early ∙ sym late ∙ b.1.violated in
      cc

  less_or : (p q : ℕ) → (p < q) ⊎ (p ≡ q) ⊎ (q < p)
  less_or zero zero = inr (inl refl)
  less_or zero (suc q) = inl (omega arith)
  less_or (suc p) zero = inr (inr (omega arith))
  less_or (suc p) (suc q) = elim (less_or p q) [
    | inl less ↦ inl (omega (arith, less))
    | inr rest ↦ elim rest [
      | inl same ↦ inr (inl (ap suc same))
      | inr more ↦ inr (inr (omega (arith, more)))
    ]
  ]

  both_first : (end last : State) (p q : ℕ) (v w : Violation) → FirstAt end p v → FirstAt last q w →
      (Ending.Violated p v ≡ Ending.Violated q w) × (end ≡ last)
  both_first end last p q v w a b = elim (less_or p q) [
    | inl less ↦ absurd (not_before end last p q v w a b less)
    | inr rest ↦ elim rest [
      | inl same ↦ at_one q same b
      | inr more ↦ absurd (not_before last end q p w v b a more)
    ]
  ]
    where
      at_one : (n : ℕ) → p ≡ n → FirstAt last n w → (Ending.Violated p v ≡ Ending.Violated n w) × (end ≡ last)
      at_one n same c =
          let moved = subst (λ m. FirstAt last m w) (sym same) c in (
            ap (λ m. Ending.Violated m v) same
                ∙ ap (λ u. Ending.Violated n u) (same_first end last p v w a moved),
            one_end (take p cs) end last a.0 moved.0,
          )

  pub one_ending : (end last : State) (a b : Ending) → EndsAs x steps s cs end a → EndsAs x steps s cs last b →
      (a ≡ b) × (end ≡ last)
  one_ending end last (Ending.Violated p v) (Ending.Violated q w) f g = both_first end last p q v w f g
  one_ending end last (Ending.Violated p v) Ending.Unviolated f g = absurd (not_kept end last p v f g)
  one_ending end last Ending.Unviolated (Ending.Violated q w) f g = absurd (not_kept last end q w g f)
  one_ending end last Ending.Unviolated Ending.Unviolated f g = (refl, one_end cs end last f.0 g.0)

-- ---- some ending

-- a part of the choices is made, and nothing is violated
pub record Quiet (x : System) (steps : List WatchedStep) (s : State) (cs : List ℕ) (now : State) : Type 0 where
  pub led : Leads x s cs now
  pub none : IsUnviolated x steps (s ∷ led.later) cs

last_place : (n m : ℕ) → n < suc m → (n < m) ⊎ (n ≡ m)
last_place zero zero h = inr refl
last_place zero (suc m) h = inl (omega arith)
last_place (suc n) zero h = absurd (omega (arith, h))
last_place (suc n) (suc m) h = elim (last_place n m (omega (arith, h))) [
  | inl less ↦ inl (omega (arith, less))
  | inr same ↦ inr (ap suc same)
]

pushed : {X : Type 0} (xs : List X) (x : X) → length (xs ++ x ∷ []) ≡ suc (length xs)
pushed [] x = refl
pushed (y ∷ ys) x = ap suc (pushed ys x)

take_more : (cs : List ℕ) (n c : ℕ) → slice_get cs n ≡ Some c → take n cs ++ c ∷ [] ≡ take (suc n) cs
take_more [] n c e = cc
take_more (d ∷ ds) zero c e = let same : d ≡ c = cc in ap (λ m. m ∷ []) (sym same)
take_more (d ∷ ds) (suc n) c e = ap (λ es. d ∷ es) (take_more ds n c e)

get_there : (cs : List ℕ) (n : ℕ) → n < length cs → (c : ℕ) × (slice_get cs n ≡ Some c)
get_there [] n h = absurd (omega (arith, h))
get_there (c ∷ cs) zero h = (c, refl)
get_there (c ∷ cs) (suc n) h = get_there cs n (omega (arith, h))

-- no choice is made
abbrev begun : (x : System) (s : State) → Leads x s [] s
begun x s = record { later = []; steps = tt; last = refl }

abbrev pub HasEnd : System → List WatchedStep → State → List ℕ → Type 0
HasEnd x steps s cs = (end : State) × (ending : Ending) × EndsAs x steps s cs end ending

module _ (x : System) (steps : List WatchedStep) (defined : WatchesDefined steps) (s : State) (cs : List ℕ)
    (inside : (n c : ℕ) → slice_get cs n ≡ Some c → c < length x.steps) where
  -- where nothing is violated so far, the next step is defined
  next_of : (n c : ℕ) (now : State) → Quiet x steps s (take n cs) now → slice_get cs n ≡ Some c →
      (next : State) × (chosen_step x c now ≡ Some next)
  next_of n c now q at = go (chosen_step x c now) refl
    where
      size : length q.led.later ≡ length (take n cs)
      size = steps_length x s (take n cs) q.led.later q.led.steps

      here : violation x steps (s ∷ q.led.later) (take n cs) ≡ None
      here = sym (at_end x steps (s ∷ q.led.later) (take n cs) (length (take n cs)) (ap suc size) refl)
          ∙ q.none (length (take n cs)) (omega (arith, size))

      go : (o : Option State) → chosen_step x c now ≡ o → (next : State) × (chosen_step x c now ≡ Some next)
      go None e =
          absurd (goes_on x steps s q.led.later (take n cs) now c here defined size q.led.last (inside n c at) e)
      go (Some next) e = (next, e)

  -- one place more
  module _ (n c : ℕ) (at : slice_get cs n ≡ Some c) (now next : State) (q : Quiet x steps s (take n cs) now)
      (chosen : chosen_step x c now ≡ Some next) where
    abbrev ds : List ℕ
    ds = take n cs

    abbrev states : List State
    states = q.led.later ++ next ∷ []

    abbrev more : Leads x s (ds ++ c ∷ []) next
    more =
        let e = extended x s ds q.led.later q.led.steps c now next q.led.last chosen in
        record { later = q.led.later ++ next ∷ []; steps = e.0; last = e.1 }

    size : length q.led.later ≡ length ds
    size = steps_length x s ds q.led.later q.led.steps

    earlier : (place : ℕ) → place < length (s ∷ q.led.later) →
        violation_at x steps (s ∷ states) (ds ++ c ∷ []) place ≡ None
    earlier place less =
        at_front x steps (s ∷ q.led.later) ds next c place (ap suc size) less ∙ q.none place less

    last_is : (place : ℕ) → place ≡ length (ds ++ c ∷ []) →
        violation_at x steps (s ∷ states) (ds ++ c ∷ []) place
        ≡ violation x steps (s ∷ states) (ds ++ c ∷ [])
    last_is place same =
        let long = pushed q.led.later next in
        let choices = pushed ds c in
        at_end x steps (s ∷ states) (ds ++ c ∷ []) place (omega (arith, long, choices, size)) same

    stays_quiet : violation x steps (s ∷ states) (ds ++ c ∷ []) ≡ None →
        (led : Leads x s (ds ++ c ∷ []) next) × IsUnviolated x steps (s ∷ led.later) (ds ++ c ∷ [])
    stays_quiet none = (more, each)
      where
        each : IsUnviolated x steps (s ∷ states) (ds ++ c ∷ [])
        each place less =
            let long = pushed q.led.later next in
            let choices = pushed ds c in
            elim (last_place place (length (s ∷ q.led.later)) (omega (arith, long, less))) [
              | inl before ↦ earlier place before
              | inr same ↦ last_is place (omega (arith, same, choices, size)) ∙ none
            ]

    is_first : (v : Violation) → n ≡ length ds → violation x steps (s ∷ states) (ds ++ c ∷ []) ≡ Some v →
        (led : Leads x s (ds ++ c ∷ []) next) × IsFirstViolation x steps (s ∷ led.later) (ds ++ c ∷ []) (suc n) v
    is_first v at_n found =
        let long = pushed q.led.later next in
        let choices = pushed ds c in (
          more,
          record {
            within = omega (arith, long, size, at_n);
            violated = last_is (suc n) (omega (arith, at_n, choices)) ∙ found;
            first = λ place less. earlier place (omega (arith, size, at_n, less));
          },
        )

  -- the rest of the choices, so many
  rest_ends : (left n : ℕ) (now : State) → n + left ≡ length cs → Quiet x steps s (take n cs) now → HasEnd x steps s cs
  rest_ends zero n now sum q =
      let whole = take_end n cs (omega (arith, sum)) in
      let all = subst (λ ds. (led : Leads x s ds now) × IsUnviolated x steps (s ∷ led.later) ds) whole
      (q.led, q.none) in
      (now, Ending.Unviolated, all)
  rest_ends (suc left) n now sum q =
      let c = get_there cs n (omega (arith, sum)) in
      let next = next_of n c.0 now q c.1 in
      go c.0 c.1 next.0 next.1
      (violation x steps (s ∷ (q.led.later ++ next.0 ∷ [])) (take n cs ++ c.0 ∷ [])) refl
      (λ after quiet. rest_ends left (suc n) after (omega (arith, sum)) quiet)
    where
      go : (c : ℕ) → slice_get cs n ≡ Some c → (next : State) → chosen_step x c now ≡ Some next →
          (o : Option Violation) →
          violation x steps (s ∷ (q.led.later ++ next ∷ [])) (take n cs ++ c ∷ []) ≡ o →
          ((after : State) → Quiet x steps s (take (suc n) cs) after → HasEnd x steps s cs) → HasEnd x steps s cs
      go c at next chosen None none more =
          let quiet = subst (λ ds. (led : Leads x s ds next) × IsUnviolated x steps (s ∷ led.later) ds)
          (take_more cs n c at) (stays_quiet n c at now next q chosen none) in
          more next (record { led = quiet.0; none = quiet.1 })
      go c at next chosen (Some v) found more =
          let at_n : n ≡ length (take n cs) = sym (take_length n cs (omega (arith, sum))) in (
            next,
            Ending.Violated (suc n) v,
            subst (λ ds. (led : Leads x s ds next) × IsFirstViolation x steps (s ∷ led.later) ds (suc n) v)
                (take_more cs n c at) (is_first n c at now next q chosen v at_n found),
          )

  pub some_ending : HasEnd x steps s cs
  some_ending = go (violation x steps (s ∷ []) []) refl
    where
      go : (o : Option Violation) → violation x steps (s ∷ []) [] ≡ o → HasEnd x steps s cs
      go None none = rest_ends (length cs) zero s (omega arith) (record {
        led = begun x s;
        none = λ place less.
            let at : 0 ≡ place = omega (arith, less) in
            subst (λ n. violation_at x steps (s ∷ []) [] n ≡ None) at none;
      })
      go (Some v) found = (
        s,
        Ending.Violated 0 v,
        (
          begun x s,
          record {
            within = omega arith;
            violated = found;
            first = λ earlier less. absurd (omega (arith, less));
          },
        ),
      )
