-- What is kept of a trace for each case, so that no place of it is looked at again.
use Rattle.std.specs.Prelude.{◌≡◌, ℕ, nat_le, List, [], ◌∷◌, ◌++◌, Bool, true, false, cond, not, ◌&&◌, ◌||◌}
use Rattle.std.specs.Prelude.{Option, Some, None, drop, slice_get}
use Rattle.std.specs.Option.{option_map, option_or, ForSome}
use Rattle.std.specs.List.{list_any, last_or}
use Rattle.std.specs.Bool.{beq}
use Rattle.case_tables.specs.declared.kind_table.Kind.{Kind}
use Rattle.meaning_states.specs.State.{State}
use Rattle.meaning_executions.specs.Execution.{System}
use Rattle.meaning_executions.specs.Properties.{Test}
use Rattle.meaning_executions.specs.Rounds.{rounds}
use Rattle.fair_rounds.specs.Counts.{CountStandsFor}
use Rattle.trace_watch.specs.declared.case.Seen.{Seen}
use Rattle.trace_watch.specs.declared.case.Findings.{Findings}
use Rattle.trace_watch.specs.declared.case.Case.{Case}
use Rattle.fixed_points.specs.FixedPoints.{is_fixed}
use Rattle.trace_watch.specs.Readings.{Reading, is_stuck, is_helped}

-- the choices since the earliest place with p from which on no state has q; none where there is no such place
abbrev pub waiting : Test → Test → List State → List ℕ → Option (List ℕ)
waiting p q [] choices = None
waiting p q (state ∷ later) choices =
    cond (p state && not (list_any q (state ∷ later))) (Some choices) (waiting p q later (drop 1 choices))

-- they are no fewer rounds than the bound
abbrev pub is_overdue : ℕ → ℕ → Option (List ℕ) → Bool
is_overdue k bound None = false
is_overdue k bound (Some choices) = nat_le bound (rounds choices k)

-- what becomes of them at one place more, at which p and q are so
abbrev pub waiting_more : Bool → Bool → List ℕ → Option (List ℕ) → Option (List ℕ)
waiting_more p q more since =
    cond q None (option_or (option_map (λ choices. choices ++ more) since) (cond p (Some []) None))

-- whether p and q hold at a state
abbrev pub seen_at : Reading → State → Seen
seen_at r state = record { p = r.p state; q = r.q state }

-- a leads-to is read from p to q, and that of `detects` from q to p
abbrev pub turned : Kind → Seen → Seen
turned Kind.Detects s = record { p = s.q; q = s.p }
turned _ s = s

abbrev pub leads_from : Reading → Test
leads_from r state = (turned r.kind (seen_at r state)).p

abbrev pub leads_on_to : Reading → Test
leads_on_to r state = (turned r.kind (seen_at r state)).q

-- p held before and not q, and now neither does
abbrev pub loses : Option Seen → Seen → Bool
loses None now = false
loses (Some before) now = (before.p && not before.q) && not (now.p || now.q)

-- p held before and does not now, or the other way round
abbrev pub changes : Option Seen → Seen → Bool
changes None now = false
changes (Some before) now = not (beq before.p now.p)

-- what is found of a reading at one place more, with this state, reached by these choices
abbrev pub findings : ℕ → Reading → State → List State → List ℕ → List ℕ → Findings
findings k r state states choices more = record {
  now = seen_at r state;
  is_lost = loses (option_map (seen_at r) (last_or None states)) (seen_at r state);
  is_changed = changes (option_map (seen_at r) (last_or None states)) (seen_at r state);
  is_overdue = is_overdue k r.bound (waiting_more (leads_from r state) (leads_on_to r state) more
      (waiting (leads_from r) (leads_on_to r) states choices));
}

-- whether a reading of a kind is violated there
abbrev pub verdict : Kind → System → Test → Option ℕ → State → Findings → Bool
verdict Kind.Defined x q helper state f = is_stuck x state
verdict Kind.Invariant x q helper state f = not f.now.p
verdict Kind.Unless x q helper state f = f.is_lost
verdict Kind.Ensures x q helper state f =
    f.is_lost || ((f.now.p && not f.now.q) && not (is_helped x q helper state))
verdict Kind.Leadsto x q helper state f = f.is_overdue
verdict Kind.Until x q helper state f = f.is_lost || f.is_overdue
verdict Kind.Detects x q helper state f = (f.now.p && not f.now.q) || f.is_overdue
verdict Kind.Constant x q helper state f = f.is_changed
verdict Kind.Fixed x q helper state f = f.now.p && not (is_fixed x state)

-- a case counts the rounds of the choices since it waits
abbrev pub CaseWaits : Case → Option (List ℕ) → Type 0
CaseWaits c None = c.waits ≡ false
CaseWaits c (Some choices) = (c.waits ≡ true) × CountStandsFor c.count choices

-- what a case has of its reading on a trace
pub record CaseStands (k : ℕ) (c : Case) (r : Reading) (states : List State) (choices : List ℕ) : Type 0 where
  pub instances : c.instances ≡ k
  pub helper : c.helper ≡ r.helper
  pub before : c.before ≡ option_map (seen_at r) (last_or None states)
  pub waits : CaseWaits c (waiting (leads_from r) (leads_on_to r) states choices)

-- each of these cases has that of the reading at its place
abbrev pub CasesStand : ℕ → List Case → List Reading → List State → List ℕ → Type 0
CasesStand k cases readings states choices = (number : ℕ) (c : Case) (r : Reading) → slice_get cases number ≡ Some c →
    slice_get readings number ≡ Some r → CaseStands k c r states choices

-- what a case saw last, if it saw a place, is so at this state
abbrev pub CaseSaw : State → Case → Reading → Type 0
CaseSaw state c r = ForSome c.before (λ seen. seen ≡ seen_at r state)

-- so it is of each of these cases, with the reading at its place
abbrev pub CasesSaw : State → List Case → List Reading → Type 0
CasesSaw state cases readings = (number : ℕ) (c : Case) (r : Reading) → slice_get cases number ≡ Some c →
    slice_get readings number ≡ Some r → CaseSaw state c r
