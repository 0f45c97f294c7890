-- Cases and steps that are looked at one after the other.
use Rattle.std.proofs.Common.{◌≡◌, ℕ, zero, suc, ◌+◌, ◌<◌, ◌≤◌, ◌≢◌, List, [], ◌∷◌, ◌++◌, map, length, drop}
use Rattle.std.proofs.Common.{slice_get}
use Rattle.std.proofs.Common.{slice_set, get_or, take, Bool, true, false, cond, Option, Some, None, refl, sym, ap}
use Rattle.std.proofs.Common.{◌∙◌, subst}
use Rattle.std.proofs.Common.{arith, ◌⊎◌, inl, inr, append_assoc, append-nil}
use Rattle.std.specs.Prelude.{All}
use Rattle.std.specs.Option.{option_or}
use Rattle.std.specs.List.{fold, position_from}
use Rattle.std.proofs.lemmas.Bool.Decides.{eqb_tells}
use Rattle.meaning_states.specs.State.{State}
use Rattle.meaning_executions.specs.Execution.{System}
use Rattle.core_terms.specs.declared.programs.CSlot.{CSlot}
use Rattle.core_terms.specs.declared.programs.CProgram.{CProgram}
use Rattle.fair_rounds.specs.declared.records.Record.{Record}
use Rattle.executor.proofs.StateLaws.{all_at}
use Rattle.trace_watch.specs.declared.violations.Violation.{Violation}
use Rattle.trace_watch.specs.declared.case.Case.{Case}
use Rattle.trace_watch.specs.declared.step.Step.{Step}
use Rattle.trace_watch.specs.Readings.{Reading, is_violated}
use Rattle.trace_watch.specs.Cases.{WatchedStep, watched_one, watched_from, own_cases, total_cases}
use Rattle.trace_watch.specs.Violations.{first_case, first_failing}
use Rattle.trace_watch.specs.Waiting.{CaseStands, CasesStand, CaseSaw}
use Rattle.trace_watch.specs.Stepping.{StepFits, StepStands, watched_as}
use Rattle.trace_watch.proofs.TryLaws.{next_position}

-- items of lists

pub set_other : {X : Type 0} (xs : List X) (m n : ℕ) (x : X) → n ≢ m → slice_get (slice_set xs m x) n ≡ slice_get xs n
set_other [] m n x d = refl
set_other (y ∷ ys) zero zero x d = absurd (d refl)
set_other (y ∷ ys) zero (suc n) x d = refl
set_other (y ∷ ys) (suc m) zero x d = refl
set_other (y ∷ ys) (suc m) (suc n) x d = set_other ys m n x (λ e. d (ap suc e))

pub set_same : {X : Type 0} (xs : List X) (n : ℕ) (y x : X) → slice_get xs n ≡ Some y →
    slice_get (slice_set xs n x) n ≡ Some x
set_same [] n y x e = cc
set_same (z ∷ xs) zero y x e = refl
set_same (z ∷ xs) (suc n) y x e = set_same xs n y x e

some_is : {X : Type 0} (x y : X) → Some x ≡ Some y → x ≡ y
some_is x y e = cc

pub there : {X : Type 0} (xs : List X) (n : ℕ) (d : X) → n < length xs → slice_get xs n ≡ Some (get_or xs n d)
there [] n d h = absurd (omega arith)
there (x ∷ xs) zero d h = refl
there (x ∷ xs) (suc n) d h = there xs n d (omega arith)

pub all_by : {X : Type 0} (P : X → Type 0) (xs : List X) → ((n : ℕ) (x : X) → slice_get xs n ≡ Some x → P x) →
    All P xs
all_by P xs each = λ n d h. each n (get_or xs n d) (there xs n d h)

pub before_end : {X : Type 0} (xs : List X) (n : ℕ) (x : X) → slice_get xs n ≡ Some x → n < length xs
before_end [] n x e = cc
before_end (y ∷ xs) zero x e = omega arith
before_end (y ∷ xs) (suc n) x e = let rest = before_end xs n x e in omega (arith, rest)

drop_all : {X : Type 0} (xs : List X) (n : ℕ) → length xs ≤ n → drop n xs ≡ []
drop_all [] zero h = refl
drop_all [] (suc n) h = refl
drop_all (x ∷ xs) zero h = absurd (omega arith)
drop_all (x ∷ xs) (suc n) h = drop_all xs n (omega arith)

below_next : (n m : ℕ) → n < m + 1 → (n < m) ⊎ (n ≡ m)
below_next n m h = elim (eqb_tells n m) [
  | inl w ↦ inr w.1
  | inr w ↦ inl (let d = w.1 in less n m h d)
]
  where
    less : (a b : ℕ) → a < b + 1 → a ≢ b → a < b
    less zero zero h d = absurd (d refl)
    less zero (suc b) h d = omega arith
    less (suc a) zero h d = absurd (omega arith)
    less (suc a) (suc b) h d = let rest = less a b (omega arith) (λ e. d (ap suc e)) in omega (arith, rest)

-- the items before a place, of which something holds with their numbers
abbrev pub HoldsBelow : {X : Type 0} → (ℕ → X → Type 0) → List X → ℕ → Type 0
HoldsBelow {X = X} P xs place = (n : ℕ) (x : X) → n < place → slice_get xs n ≡ Some x → P n x

pub none_below : {X : Type 0} (P : ℕ → X → Type 0) (xs : List X) → HoldsBelow P xs 0
none_below P xs n x less e = absurd (omega arith)

pub one_below : {X : Type 0} (P : ℕ → X → Type 0) (xs : List X) (place : ℕ) (x y : X) →
    slice_get xs place ≡ Some x → P place y → HoldsBelow P xs place →
    HoldsBelow P (slice_set xs place y) (place + 1)
one_below P xs place x y at here below n z less e = elim (below_next n place less) [
  | inl w ↦ below n z w (sym (set_other xs place n y (λ same. absurd (omega arith))) ∙ e)
  | inr w ↦ subst (λ m. P m z) (sym w) (subst (P place) (some_is y z (sym (set_same xs place x y at)
      ∙ subst (λ m. slice_get (slice_set xs place y) m ≡ Some z) w e)) here)
]

-- what the case of a number saw last is so of its reading at a state
abbrev pub SawReading : State → List Reading → ℕ → Case → Type 0
SawReading s readings n c = (r : Reading) → slice_get readings n ≡ Some r → CaseSaw s c r

pub saw_one : (s : State) (readings : List Reading) (n : ℕ) (c : Case) (r : Reading) →
    slice_get readings n ≡ Some r → CaseSaw s c r → SawReading s readings n c
saw_one s readings n c r at saw q there =
    subst (CaseSaw s c) (some_is r q (sym at ∙ there)) saw

-- the first of what is found

or_none : {X : Type 0} (o : Option X) → option_or o None ≡ o
or_none None = refl
or_none (Some x) = refl

or_next : {X : Type 0} (o p q : Option X) → option_or (option_or o p) q ≡ option_or o (option_or p q)
or_next None p q = refl
or_next (Some x) p q = refl

or_found : {X : Type 0} (b : Bool) (x : X) (o : Option X) → option_or (cond b (Some x) None) o ≡ cond b (Some x) o
or_found true x o = refl
or_found false x o = refl

-- cases

module _ (k : ℕ) (x : System) (s : State) (more : List ℕ) (readings : List Reading) where
  -- whether a reading is violated at one place more
  abbrev pub Failing : List State → List ℕ → Reading → Bool
  Failing states choices r = is_violated x r (states ++ s ∷ []) (choices ++ more)

  abbrev pub Fitting : List Case → List State → List ℕ → Type 0
  Fitting cases states choices =
      (length (choices ++ more) ≡ length states) × CasesStand k cases readings states choices

  -- the cases before a number have seen one place more
  pub record Looked (old now : List Case) (first : Option ℕ) (number : ℕ) : Type 0 where
    pub rest : (n : ℕ) → number ≤ n → slice_get now n ≡ slice_get old n
    pub stands : (states : List State) (choices : List ℕ) → Fitting old states choices → (n : ℕ) (c : Case)
        (r : Reading) → n < number → slice_get now n ≡ Some c → slice_get readings n ≡ Some r →
        CaseStands k c r (states ++ s ∷ []) (choices ++ more)
    pub found : (states : List State) (choices : List ℕ) → Fitting old states choices →
        option_or first (position_from (Failing states choices) number (drop number readings))
        ≡ position_from (Failing states choices) 0 readings

  pub looked_none : (cases : List Case) → Looked cases cases None 0
  looked_none cases = record {
    rest = λ n h. refl;
    stands = λ states choices h n c r less at there. absurd (omega arith);
    found = λ states choices h. refl;
  }

  pub looked_one : (old now : List Case) (first : Option ℕ) (number : ℕ) (c after : Case) (r : Reading) (b : Bool) →
      slice_get now number ≡ Some c → slice_get readings number ≡ Some r →
      ((states : List State) (choices : List ℕ) → length (choices ++ more) ≡ length states →
      CaseStands k c r states choices → CaseStands k after r (states ++ s ∷ []) (choices ++ more)) →
      ((states : List State) (choices : List ℕ) → length (choices ++ more) ≡ length states →
      CaseStands k c r states choices → b ≡ is_violated x r (states ++ s ∷ []) (choices ++ more)) →
      Looked old now first number →
      Looked old (slice_set now number after) (option_or first (cond b (Some number) None)) (number + 1)
  looked_one old now first number c after r b at at_reading stands violated looked =
      let was : slice_get old number ≡ Some c = sym (looked.rest number (omega arith)) ∙ at in
      record {
        rest = λ n h. set_other now number n after (λ e. absurd (omega arith)) ∙ looked.rest n (omega arith);
        stands = λ states choices h n d q less there here. elim (below_next n number less) [
          | inl w ↦ looked.stands states choices h n d q w
              (sym (set_other now number n after (λ e. absurd (omega arith))) ∙ there) here
          | inr w ↦
              let is : after ≡ d = some_is after d (sym (set_same now number c after at)
              ∙ subst (λ m. slice_get (slice_set now number after) m ≡ Some d) w there) in
              let its : r ≡ q = some_is r q (sym at_reading ∙ subst (λ m. slice_get readings m ≡ Some q) w here) in
              subst (λ y. CaseStands k y q (states ++ s ∷ []) (choices ++ more)) is
              (subst (λ y. CaseStands k after y (states ++ s ∷ []) (choices ++ more)) its
              (stands states choices h.0 (h.1 number c r was at_reading)))
        ];
        found = λ states choices h.
            or_next first (cond b (Some number) None)
            (position_from (Failing states choices) (number + 1) (drop (number + 1) readings))
            ∙ ap (option_or first)
            (or_found b number (position_from (Failing states choices) (number + 1) (drop (number + 1) readings))
            ∙ ap (λ a. cond a (Some number) (position_from (Failing states choices) (number + 1)
            (drop (number + 1) readings))) (violated states choices h.0 (h.1 number c r was at_reading))
            ∙ sym (next_position (Failing states choices) readings number number r at_reading))
            ∙ looked.found states choices h;
      }

  -- where all have, they have seen it together
  pub looked_all : (old now : List Case) (first : Option ℕ) (number : ℕ) → Looked old now first number →
      length readings ≤ number → (states : List State) (choices : List ℕ) → Fitting old states choices →
      CasesStand k now readings (states ++ s ∷ []) (choices ++ more)
      × (first ≡ position_from (Failing states choices) 0 readings)
  looked_all old now first number looked enough states choices h = (
    λ n c r at here. looked.stands states choices h n c r (let less = before_end readings n r here in omega arith) at
        here,
    sym (or_none first)
        ∙ ap (λ rs. option_or first (position_from (Failing states choices) number rs))
        (sym (drop_all readings number enough))
        ∙ looked.found states choices h,
  )

-- steps

map_set : {X Y : Type 0} (f : X → Y) (xs : List X) (n : ℕ) (x y : X) → slice_get xs n ≡ Some x → f y ≡ f x →
    map f (slice_set xs n y) ≡ map f xs
map_set f [] n x y e same = refl
map_set f (z ∷ xs) zero x y e same =
    let is : z ≡ x = cc in ap (λ v. v ∷ map f xs) (same ∙ ap f (sym is))
map_set f (z ∷ xs) (suc n) x y e same = ap (λ vs. f z ∷ vs) (map_set f xs n x y e same)

pub get_map : {X Y : Type 0} (f : X → Y) (xs : List X) (n : ℕ) (x : X) → slice_get xs n ≡ Some x →
    slice_get (map f xs) n ≡ Some (f x)
get_map f [] n x e = cc
get_map f (y ∷ xs) zero x e = let same : y ≡ x = cc in ap (λ z. Some (f z)) same
get_map f (y ∷ xs) (suc n) x e = get_map f xs n x e

next_failing : (t : Reading → Bool) (ws : List WatchedStep) (n : ℕ) (w : WatchedStep) → slice_get ws n ≡ Some w →
    first_failing t (drop n ws) ≡ option_or (first_case t w) (first_failing t (drop (n + 1) ws))
next_failing t ws n w e =
    let one : suc n ≡ n + 1 = omega arith in
    go ws n e ∙ ap (λ m. option_or (first_case t w) (first_failing t (drop m ws))) one
  where
    go : (vs : List WatchedStep) (m : ℕ) → slice_get vs m ≡ Some w →
        first_failing t (drop m vs) ≡ option_or (first_case t w) (first_failing t (drop (suc m) vs))
    go [] m e = cc
    go (v ∷ vs) zero e =
        let same : v ≡ w = cc in ap (λ u. option_or (first_case t u) (first_failing t vs)) same
    go (v ∷ vs) (suc m) e = go vs m e

pub map_length : {X Y : Type 0} (f : X → Y) (xs : List X) → length (map f xs) ≡ length xs
map_length f [] = refl
map_length f (x ∷ xs) = ap (λ n. suc n) (map_length f xs)

module _ (slots : List CSlot) (c : CProgram) (x : System) (s : State) (more : List ℕ) where
  abbrev pub StepsFitting : List Step → List State → List ℕ → Type 0
  StepsFitting steps states choices =
      (length (choices ++ more) ≡ length states) × All (StepStands c states choices) steps

  abbrev pub StepFailing : List State → List ℕ → Reading → Bool
  StepFailing states choices r = is_violated x r (states ++ s ∷ []) (choices ++ more)

  -- the steps before a place have seen one place more of the trace
  pub record LookedSteps (old now : List Step) (first : Option Violation) (place : ℕ) : Type 0 where
    pub rest : (n : ℕ) → place ≤ n → slice_get now n ≡ slice_get old n
    pub fits : (n : ℕ) (t : Step) → slice_get now n ≡ Some t → StepFits slots t
    pub same : map (watched_as c) now ≡ map (watched_as c) old
    pub stands : (states : List State) (choices : List ℕ) → StepsFitting old states choices → (n : ℕ) (t : Step) →
        n < place → slice_get now n ≡ Some t → StepStands c (states ++ s ∷ []) (choices ++ more) t
    pub found : (states : List State) (choices : List ℕ) → StepsFitting old states choices →
        option_or first (first_failing (StepFailing states choices) (drop place (map (watched_as c) old)))
        ≡ first_failing (StepFailing states choices) (map (watched_as c) old)

  pub steps_none : (steps : List Step) → All (StepFits slots) steps → LookedSteps steps steps None 0
  steps_none steps fit = record {
    rest = λ n h. refl;
    fits = λ n t e. all_at (StepFits slots) steps fit n t e;
    same = refl;
    stands = λ states choices h n t less e. absurd (omega arith);
    found = λ states choices h. refl;
  }

  pub steps_one : (old now : List Step) (first found : Option Violation) (place : ℕ) (t after : Step) →
      slice_get now place ≡ Some t → StepFits slots after → watched_as c after ≡ watched_as c t →
      ((states : List State) (choices : List ℕ) → length (choices ++ more) ≡ length states →
      StepStands c states choices t → StepStands c (states ++ s ∷ []) (choices ++ more) after) →
      ((states : List State) (choices : List ℕ) → length (choices ++ more) ≡ length states →
      StepStands c states choices t → found ≡ first_case (StepFailing states choices) (watched_as c t)) →
      LookedSteps old now first place →
      LookedSteps old (slice_set now place after) (option_or first found) (place + 1)
  steps_one old now first found place t after at fit same stands violated looked =
      let was : slice_get old place ≡ Some t = sym (looked.rest place (omega arith)) ∙ at in
      record {
        rest = λ n h. set_other now place n after (λ e. absurd (omega arith)) ∙ looked.rest n (omega arith);
        fits = λ n u e. elim (eqb_tells n place) [
          | inl w ↦ subst (StepFits slots) (some_is after u (sym (set_same now place t after at)
              ∙ subst (λ m. slice_get (slice_set now place after) m ≡ Some u) w.1 e)) fit
          | inr w ↦ looked.fits n u (sym (set_other now place n after w.1) ∙ e)
        ];
        same = map_set (watched_as c) now place t after at same ∙ looked.same;
        stands = λ states choices h n u less there. elim (below_next n place less) [
          | inl w ↦ looked.stands states choices h n u w
              (sym (set_other now place n after (λ e. absurd (omega arith))) ∙ there)
          | inr w ↦ subst (StepStands c (states ++ s ∷ []) (choices ++ more))
              (some_is after u (sym (set_same now place t after at)
              ∙ subst (λ m. slice_get (slice_set now place after) m ≡ Some u) w there))
              (stands states choices h.0 (all_at (StepStands c states choices) old h.1 place t was))
        ];
        found = λ states choices h.
            or_next first found (first_failing (StepFailing states choices)
            (drop (place + 1) (map (watched_as c) old)))
            ∙ ap (option_or first)
            (ap (λ o. option_or o (first_failing (StepFailing states choices)
            (drop (place + 1) (map (watched_as c) old))))
            (violated states choices h.0 (all_at (StepStands c states choices) old h.1 place t was))
            ∙ sym (next_failing (StepFailing states choices) (map (watched_as c) old) place (watched_as c t)
            (get_map (watched_as c) old place t was)))
            ∙ looked.found states choices h;
      }

  pub steps_all : (old now : List Step) (first : Option Violation) (place : ℕ) → LookedSteps old now first place →
      length now ≡ length old → length now ≤ place → (states : List State) (choices : List ℕ) →
      StepsFitting old states choices →
      All (StepStands c (states ++ s ∷ []) (choices ++ more)) now
      × (first ≡ first_failing (StepFailing states choices) (map (watched_as c) old))
  steps_all old now first place looked size enough states choices h = (
    all_by (StepStands c (states ++ s ∷ []) (choices ++ more)) now
        (λ n t e. looked.stands states choices h n t (let less = before_end now n t e in omega arith) e),
    sym (or_none first)
        ∙ ap (λ ws. option_or first (first_failing (StepFailing states choices) ws))
        (sym (drop_all (map (watched_as c) old) place
        (let long = map_length (watched_as c) old in omega arith)))
        ∙ looked.found states choices h,
  )

-- a case more, and a step more

get_pushed : {X : Type 0} (xs : List X) (x y : X) (n : ℕ) → slice_get (xs ++ x ∷ []) n ≡ Some y →
    (slice_get xs n ≡ Some y) ⊎ ((n ≡ length xs) × (x ≡ y))
get_pushed [] x y zero e = inr (refl, some_is x y e)
get_pushed [] x y (suc n) e = cc
get_pushed (z ∷ xs) x y zero e = inl e
get_pushed (z ∷ xs) x y (suc n) e = elim (get_pushed xs x y n e) [
  | inl w ↦ inl w
  | inr w ↦ inr (ap suc w.0, w.1)
]

pub pushed_case : (k : ℕ) (readings : List Reading) (cases : List Case) (n : ℕ) (c : Case) (r : Reading) →
    n ≡ length cases → slice_get readings n ≡ Some r → CaseStands k c r [] [] → CasesStand k cases readings [] [] →
    CasesStand k (cases ++ c ∷ []) readings [] []
pushed_case k readings cases n c r size at stands all m d q there here = elim (get_pushed cases c d m there) [
  | inl w ↦ all m d q w here
  | inr w ↦
      let its : r ≡ q = some_is r q (sym at ∙ subst (λ i. slice_get readings i ≡ Some q) (w.0 ∙ sym size) here) in
      subst (λ y. CaseStands k y q [] []) w.1 (subst (λ y. CaseStands k c y [] []) its stands)
]

pub pushed_all : {X : Type 0} (P : X → Type 0) (xs : List X) (x : X) → All P xs → P x → All P (xs ++ x ∷ [])
pushed_all P xs x all one = all_by P (xs ++ x ∷ []) (λ n y e. elim (get_pushed xs x y n e) [
  | inl w ↦ all_at P xs all n y w
  | inr w ↦ subst P w.1 one
])

pub map_pushed : {X Y : Type 0} (f : X → Y) (xs : List X) (x : X) (y : Y) → f x ≡ y →
    map f (xs ++ x ∷ []) ≡ map f xs ++ y ∷ []
map_pushed f [] x y e = ap (λ z. z ∷ []) e
map_pushed f (z ∷ xs) x y e = ap (λ zs. f z ∷ zs) (map_pushed f xs x y e)

drop_next : {X : Type 0} (xs : List X) (n : ℕ) (x : X) → slice_get xs n ≡ Some x → drop n xs ≡ x ∷ drop (n + 1) xs
drop_next {X = X} xs n x e =
    let one : suc n ≡ n + 1 = omega arith in go xs n e ∙ ap (λ m. x ∷ drop m xs) one
  where
    go : (ys : List X) (m : ℕ) → slice_get ys m ≡ Some x → drop m ys ≡ x ∷ drop (suc m) ys
    go [] m e = cc
    go (y ∷ ys) zero e = let same : y ≡ x = cc in ap (λ z. z ∷ ys) same
    go (y ∷ ys) (suc m) e = go ys m e

pub watched_more : (c : CProgram) (records : List Record) (place : ℕ) (r : Record)
    (before after whole : List WatchedStep) →
    slice_get records place ≡ Some r → after ≡ before ++ watched_one c place r →
    before ++ watched_from c place (drop place records) ≡ whole →
    after ++ watched_from c (place + 1) (drop (place + 1) records) ≡ whole
watched_more c records place r before after whole at grew was =
    ap (λ ws. ws ++ watched_from c (place + 1) (drop (place + 1) records)) grew
    ∙ append_assoc before (watched_one c place r) (watched_from c (place + 1) (drop (place + 1) records))
    ∙ ap (λ rs. before ++ watched_from c place rs) (sym (drop_next records place r at)) ∙ was

pub watched_end : (c : CProgram) (records : List Record) (place : ℕ) (before whole : List WatchedStep) →
    length records ≤ place → before ++ watched_from c place (drop place records) ≡ whole → before ≡ whole
watched_end c records place before whole enough was =
    sym (append-nil before) ∙ ap (λ rs. before ++ watched_from c place rs) (sym (drop_all records place enough)) ∙ was

fold_from : (a : ℕ) (xs : List ℕ) → fold ◌+◌ a xs ≡ a + fold ◌+◌ 0 xs
fold_from a [] = omega arith
fold_from a (x ∷ xs) =
    let one = fold_from (a + x) xs in
    let two = fold_from (0 + x) xs in omega (arith, one, two)

sum_next : (c : CProgram) (q : Record) (records : List Record) →
    total_cases c (q ∷ records) ≡ own_cases c q + total_cases c records
sum_next c q records =
    let whole = fold_from (0 + own_cases c q) (map (own_cases c) records) in omega (arith, whole)

pub own_few : (c : CProgram) (records : List Record) (place : ℕ) (r : Record) → slice_get records place ≡ Some r →
    own_cases c r ≤ total_cases c records
own_few c [] place r e = cc
own_few c (q ∷ records) zero r e =
    let same : q ≡ r = cc in
    let sums : total_cases c (q ∷ records) ≡ own_cases c q + total_cases c records = sum_next c q records in
    subst (λ p. own_cases c p ≤ total_cases c (q ∷ records)) same (omega (arith, sums))
own_few c (q ∷ records) (suc place) r e =
    let sums : total_cases c (q ∷ records) ≡ own_cases c q + total_cases c records = sum_next c q records in
    let rest = own_few c records place r e in omega (arith, rest, sums)

pub length_pushed : {X : Type 0} (xs : List X) (x : X) → length (xs ++ x ∷ []) ≡ length xs + 1
length_pushed [] x = refl
length_pushed (y ∷ xs) x = let rest = length_pushed xs x in omega (arith, rest)

pub first_again : {X : Type 0} (xs : List X) (x : X) (n : ℕ) → length xs ≡ suc n → take 1 (xs ++ x ∷ []) ≡ take 1 xs
first_again [] x n h = absurd (omega arith)
first_again (y ∷ xs) x n h = refl
