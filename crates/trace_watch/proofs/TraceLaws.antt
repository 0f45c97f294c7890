-- A trace with one state more: what each reading says of it, by what is kept of the trace before.
use Rattle.std.proofs.Common.{◌≡◌, ℕ, ◌≤◌, nat_le, List, [], ◌∷◌, ◌++◌, length, drop, Bool, true, false}
use Rattle.std.proofs.Common.{cond, not, ◌&&◌, ◌||◌, IsTrue, Option, Some, None, refl, sym, ap, ◌∙◌, arith}
use Rattle.std.specs.Option.{option_map, option_or}
use Rattle.std.specs.List.{list_any, last_or}
use Rattle.std.specs.Bool.{beq}
use Rattle.std.proofs.lemmas.Bool.{leb-true, le-leb}
use Rattle.case_tables.specs.declared.kind_table.Kind.{Kind}
use Rattle.meaning_states.specs.State.{State}
use Rattle.meaning_states.proofs.StepTheorems.{and_right}
use Rattle.meaning_executions.specs.Execution.{System}
use Rattle.meaning_executions.specs.Properties.{Test, but_not, implied}
use Rattle.meaning_executions.specs.Rounds.{rounds}
use Rattle.meaning_laws.proofs.RoundSumTheorems.{later_have_fewer}
use Rattle.trace_watch.specs.Readings.{Reading, passes, at_last, last_two, last_step, pair_related, unless_fails}
use Rattle.fixed_points.specs.FixedPoints.{is_fixed}
use Rattle.trace_watch.specs.Readings.{constant_fails, leads_fails, is_stuck, is_helped, fails_over}
use Rattle.trace_watch.specs.Waiting.{waiting, is_overdue, waiting_more, seen_at, leads_from, leads_on_to, loses}
use Rattle.trace_watch.specs.Waiting.{changes, findings, verdict, turned}
use Rattle.trace_watch.specs.declared.case.Seen.{Seen}
use Rattle.std.specs.Prelude.{option_to_list}

-- the last state, and the last step

pub last_more : (o : Option State) (states : List State) (s : State) → last_or o (states ++ s ∷ []) ≡ Some s
last_more o [] s = refl
last_more o (t ∷ ts) s = last_more (Some t) ts s

some_last : (f : State → State × State) (t : State) (ts : List State) (o : Option (State × State)) →
    option_or (option_map f (last_or (Some t) ts)) o ≡ option_map f (last_or (Some t) ts)
some_last f t [] o = refl
some_last f t (u ∷ us) o = some_last f u us o

two_more : (t : State) (ts : List State) (s : State) →
    last_two t (ts ++ s ∷ []) ≡ option_map (λ b. (b, s)) (last_or (Some t) ts)
two_more t [] s = refl
two_more t (u ∷ us) s =
    ap (λ o. option_or o (Some (t, u))) (two_more u us s) ∙ some_last (λ b. (b, s)) u us (Some (t, u))

step_more : (states : List State) (s : State) →
    last_step (states ++ s ∷ []) ≡ option_map (λ b. (b, s)) (last_or None states)
step_more [] s = refl
step_more (t ∷ ts) s = two_more t ts s

-- the choices since the earliest place with p from which on no state has q

or_false : (b : Bool) → (b || false) ≡ b
or_false true = refl
or_false false = refl

or_again : (a b c : Bool) → (a || (b || c)) ≡ ((a || b) || c)
or_again true b c = refl
or_again false b c = refl

any_more : (q : Test) (states : List State) (s : State) → list_any q (states ++ s ∷ []) ≡ (list_any q states || q s)
any_more q [] s = or_false (q s)
any_more q (t ∷ ts) s = ap (λ b. q t || b) (any_more q ts s) ∙ or_again (q t) (list_any q ts) (q s)

one_more : (holds here later p q : Bool) (since more : List ℕ) (inner outer : Option (List ℕ)) →
    outer ≡ waiting_more p q more inner →
    cond (holds && not (here || (later || q))) (Some (since ++ more)) outer
    ≡ waiting_more p q more (cond (holds && not (here || later)) (Some since) inner)
one_more false here later p q since more inner outer h = h
one_more true true later p q since more inner outer h = h
one_more true false true p q since more inner outer h = h
one_more true false false p true since more inner outer h = h
one_more true false false p false since more inner outer h = refl

nothing : (xs : List ℕ) → length xs ≡ 0 → xs ≡ []
nothing [] h = refl
nothing (x ∷ xs) h = absurd (omega arith)

alone : (p q : Bool) (more : List ℕ) →
    cond (p && not (q || false)) (Some []) None ≡ waiting_more p q more None
alone p true more = go p
  where
    go : (p : Bool) → cond (p && false) (Some []) None ≡ waiting_more p true more None
    go true = refl
    go false = refl
alone true false more = refl
alone false false more = refl

pub waiting_grows : (p q : Test) (states : List State) (choices more : List ℕ) (s : State) → length more ≤ 1 →
    length (choices ++ more) ≡ length states →
    waiting p q (states ++ s ∷ []) (choices ++ more) ≡ waiting_more (p s) (q s) more (waiting p q states choices)
waiting_grows p q [] choices more s few size =
    ap (λ xs. cond (p s && not (q s || false)) (Some xs) None) (nothing (choices ++ more) size)
    ∙ alone (p s) (q s) more
waiting_grows p q (t ∷ ts) (c ∷ cs) more s few size =
    ap (λ b. cond (p t && not (q t || b)) (Some (c ∷ (cs ++ more))) (waiting p q (ts ++ s ∷ []) (cs ++ more)))
    (any_more q ts s)
    ∙ one_more (p t) (q t) (list_any q ts) (p s) (q s) (c ∷ cs) more (waiting p q ts cs)
    (waiting p q (ts ++ s ∷ []) (cs ++ more)) (waiting_grows p q ts cs more s few (omega arith))
waiting_grows p q (t ∷ []) [] more s few size =
    ap (λ b. cond (p t && not (q t || b)) (Some more) (waiting p q (s ∷ []) (drop 1 more))) (any_more q [] s)
    ∙ one_more (p t) (q t) false (p s) (q s) [] more None (waiting p q (s ∷ []) (drop 1 more))
    (ap (λ xs. cond (p s && not (q s || false)) (Some xs) None) (rest more size) ∙ alone (p s) (q s) more)
  where
    rest : (xs : List ℕ) → length xs ≡ 1 → drop 1 xs ≡ []
    rest [] h = refl
    rest (x ∷ xs) h = nothing xs (omega arith)
waiting_grows p q (t ∷ u ∷ us) [] more s few size = absurd (omega arith)

-- one count, from that place on, is enough

later_overdue : (k : ℕ) (p q : Test) (bound : ℕ) (states : List State) (choices : List ℕ) →
    IsTrue (leads_fails k p q bound states choices) → bound ≤ rounds choices k
later_overdue k p q bound [] choices h = cc
later_overdue k p q bound (t ∷ ts) choices h =
    go (p t && (not (list_any q (t ∷ ts)) && nat_le bound (rounds choices k))) refl h
    (λ later. later_overdue k p q bound ts (drop 1 choices) later)
  where
    go : (b : Bool) → (p t && (not (list_any q (t ∷ ts)) && nat_le bound (rounds choices k))) ≡ b →
        IsTrue (b || leads_fails k p q bound ts (drop 1 choices)) →
        (IsTrue (leads_fails k p q bound ts (drop 1 choices)) → bound ≤ rounds (drop 1 choices) k) →
        bound ≤ rounds choices k
    go true e h rest =
        leb-true bound (rounds choices k) (and_right (not (list_any q (t ∷ ts))) (nat_le bound (rounds choices k))
        (and_right (p t) (not (list_any q (t ∷ ts)) && nat_le bound (rounds choices k)) e))
    go false e h rest = omega (arith, rest h, later_have_fewer choices k 1)

absorbed : (a b : Bool) → (IsTrue b → IsTrue a) → (a || b) ≡ a
absorbed true b h = refl
absorbed false true h = sym (h refl)
absorbed false false h = refl

pub earliest_suffices : (k : ℕ) (p q : Test) (bound : ℕ) (states : List State) (choices : List ℕ) →
    leads_fails k p q bound states choices ≡ is_overdue k bound (waiting p q states choices)
earliest_suffices k p q bound [] choices = refl
earliest_suffices k p q bound (t ∷ ts) choices =
    go (p t) (not (list_any q (t ∷ ts))) (earliest_suffices k p q bound ts (drop 1 choices))
    (λ later. le-leb bound (rounds choices k) (within later))
  where
    within : IsTrue (leads_fails k p q bound ts (drop 1 choices)) → bound ≤ rounds choices k
    within later =
        let fewer = later_have_fewer choices k 1 in
        let less = later_overdue k p q bound ts (drop 1 choices) later in omega arith

    go : (a b : Bool) →
        leads_fails k p q bound ts (drop 1 choices) ≡ is_overdue k bound (waiting p q ts (drop 1 choices)) →
        (IsTrue (leads_fails k p q bound ts (drop 1 choices)) → IsTrue (nat_le bound (rounds choices k))) →
        ((a && (b && nat_le bound (rounds choices k))) || leads_fails k p q bound ts (drop 1 choices))
        ≡ is_overdue k bound (cond (a && b) (Some choices) (waiting p q ts (drop 1 choices)))
    go true true rest more =
        absorbed (nat_le bound (rounds choices k)) (leads_fails k p q bound ts (drop 1 choices)) more
    go true false rest more = rest
    go false b rest more = rest

-- what each reading says

lost_same : (r : Reading) (s : State) (o : Option State) →
    pair_related (λ before now. but_not r.p r.q before && not (r.p now || r.q now)) (option_map (λ b. (b, s)) o)
    ≡ loses (option_map (seen_at r) o) (seen_at r s)
lost_same r s None = refl
lost_same r s (Some b) = refl

lost_more : (r : Reading) (states : List State) (s : State) →
    unless_fails r.p r.q (states ++ s ∷ []) ≡ loses (option_map (seen_at r) (last_or None states)) (seen_at r s)
lost_more r states s =
    ap (pair_related (λ before now. but_not r.p r.q before && not (r.p now || r.q now))) (step_more states s)
    ∙ lost_same r s (last_or None states)

changed_more : (r : Reading) (states : List State) (s : State) →
    constant_fails r.p (states ++ s ∷ []) ≡ changes (option_map (seen_at r) (last_or None states)) (seen_at r s)
changed_more r states s =
    ap (pair_related (λ before now. not (beq (r.p before) (r.p now)))) (step_more states s) ∙ go (last_or None states)
  where
    go : (o : Option State) → pair_related (λ before now. not (beq (r.p before) (r.p now))) (option_map (λ b. (b, s)) o)
        ≡ changes (option_map (seen_at r) o) (seen_at r s)
    go None = refl
    go (Some b) = refl

last_holds : (t : Test) (states : List State) (s : State) → at_last t (states ++ s ∷ []) ≡ t s
last_holds t states s = ap (passes t) (last_more None states s)

overdue_more : (k : ℕ) (p q : Test) (bound : ℕ) (states : List State) (choices more : List ℕ) (s : State) →
    length more ≤ 1 → length (choices ++ more) ≡ length states →
    leads_fails k p q bound (states ++ s ∷ []) (choices ++ more)
    ≡ is_overdue k bound (waiting_more (p s) (q s) more (waiting p q states choices))
overdue_more k p q bound states choices more s few size =
    earliest_suffices k p q bound (states ++ s ∷ []) (choices ++ more)
    ∙ ap (is_overdue k bound) (waiting_grows p q states choices more s few size)

not_implied : (a b : Bool) → not (not a || b) ≡ (a && not b)
not_implied true b = refl
not_implied false b = refl

-- a reading of these parts
abbrev pub made_of : Kind → Test → Test → ℕ → Option ℕ → Reading
made_of kind p q bound helper = record { kind = kind; p = p; q = q; bound = bound; helper = helper }

module _ (x : System) (k : ℕ) (steps : length x.steps ≡ k) (states : List State) (choices more : List ℕ)
    (few : length more ≤ 1) (size : length (choices ++ more) ≡ length states) (s : State) where
  kind_fails : (kind : Kind) (p q : Test) (bound : ℕ) (helper : Option ℕ) →
      fails_over kind x (made_of kind p q bound helper) (states ++ s ∷ []) (choices ++ more)
      ≡ verdict kind x q helper s (findings k (made_of kind p q bound helper) s states choices more)
  kind_fails Kind.Defined p q bound helper = last_holds (is_stuck x) states s
  kind_fails Kind.Invariant p q bound helper = last_holds (λ state. not (p state)) states s
  kind_fails Kind.Unless p q bound helper = lost_more (made_of Kind.Unless p q bound helper) states s
  kind_fails Kind.Ensures p q bound helper =
      ap (λ b. b || at_last (λ state. but_not p q state && not (is_helped x q helper state)) (states ++ s ∷ []))
      (lost_more (made_of Kind.Ensures p q bound helper) states s)
      ∙ ap (λ b. loses (option_map (seen_at (made_of Kind.Ensures p q bound helper)) (last_or None states))
      (seen_at (made_of Kind.Ensures p q bound helper) s) || b)
      (last_holds (λ state. but_not p q state && not (is_helped x q helper state)) states s)
  kind_fails Kind.Leadsto p q bound helper =
      ap (λ n. leads_fails n p q bound (states ++ s ∷ []) (choices ++ more)) steps
      ∙ overdue_more k p q bound states choices more s few size
  kind_fails Kind.Until p q bound helper =
      ap (λ b. b || leads_fails (length x.steps) p q bound (states ++ s ∷ []) (choices ++ more))
      (lost_more (made_of Kind.Until p q bound helper) states s)
      ∙ ap (λ b. loses (option_map (seen_at (made_of Kind.Until p q bound helper)) (last_or None states))
      (seen_at (made_of Kind.Until p q bound helper) s) || b)
      (ap (λ n. leads_fails n p q bound (states ++ s ∷ []) (choices ++ more)) steps
      ∙ overdue_more k p q bound states choices more s few size)
  kind_fails Kind.Detects p q bound helper =
      ap (λ b. b || leads_fails (length x.steps) q p bound (states ++ s ∷ []) (choices ++ more))
      (last_holds (λ state. not (implied p q state)) states s ∙ not_implied (p s) (q s))
      ∙ ap (λ b. (p s && not (q s)) || b)
      (ap (λ n. leads_fails n q p bound (states ++ s ∷ []) (choices ++ more)) steps
      ∙ overdue_more k q p bound states choices more s few size)
  kind_fails Kind.Constant p q bound helper = changed_more (made_of Kind.Constant p q bound helper) states s
  kind_fails Kind.Fixed p q bound helper = last_holds (λ state. p state && not (is_fixed x state)) states s

  pub reading_fails : (r : Reading) →
      fails_over r.kind x r (states ++ s ∷ []) (choices ++ more)
      ≡ verdict r.kind x r.q r.helper s (findings k r s states choices more)
  reading_fails r = kind_fails r.kind r.p r.q r.bound r.helper

-- a case sees one place more

abbrev pub made_seen : Bool → Bool → Seen
made_seen p q = record { p = p; q = q }

pub one_choice : (o : Option ℕ) → length (option_to_list o) ≤ 1
one_choice None = omega arith
one_choice (Some n) = omega arith

pub grown : (r : Reading) (kind : Kind) (now : Seen) (s : State) (states : List State) (choices more : List ℕ) →
    length more ≤ 1 → length (choices ++ more) ≡ length states → r.kind ≡ kind → seen_at r s ≡ now →
    waiting_more (turned kind now).p (turned kind now).q more (waiting (leads_from r) (leads_on_to r) states choices)
    ≡ waiting (leads_from r) (leads_on_to r) (states ++ s ∷ []) (choices ++ more)
grown r kind now s states choices more few size same seen =
    let led : turned r.kind (seen_at r s) ≡ turned kind now =
    ap (λ k. turned k (seen_at r s)) same ∙ ap (turned kind) seen in
    ap (λ (t : Seen). waiting_more t.p t.q more (waiting (leads_from r) (leads_on_to r) states choices)) (sym led)
    ∙ sym (waiting_grows (leads_from r) (leads_on_to r) states choices more s few size)

pub seen_is : (r : Reading) (s : State) (p q : Bool) → p ≡ r.p s → q ≡ r.q s → seen_at r s ≡ made_seen p q
seen_is r s p q one two = ap (λ b. made_seen b (r.q s)) (sym one) ∙ ap (made_seen p) (sym two)
