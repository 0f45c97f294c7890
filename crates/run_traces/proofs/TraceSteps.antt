-- A step of a trace, and the trace's end, as the loop that writes them sees them.
use Rattle.std.proofs.Common.{◌≡◌, ℕ, ◌+◌, ◌++◌, ◌≤◌, List, [], length, drop, Option, Some, None, sym, ap}
use Rattle.std.proofs.Common.{◌∙◌, subst, slice_get, append-nil}
use Rattle.std.specs.Prelude.{IfSome}
use Rattle.std.specs.Io.KnownBytes.{Appends}
use Rattle.unity_base.specs.Streams.{AppendsPart}
use Rattle.meaning_states.specs.State.{State}
use Rattle.meaning_executions.specs.Execution.{chosen_step}
use Rattle.meaning_executions.specs.Rounds.{rounds}
use Rattle.schedule_replay.specs.Lines.{rounds_line}
use Rattle.core_terms.specs.declared.programs.CProgram.{CProgram}
use Rattle.core_terms.specs.declared.documents.CDocument.{CDocument}
use Rattle.executor.specs.CoreSystem.{core_system}
use Rattle.executor.specs.declared.runner.Stepped.{Stepped}
use Rattle.executor.specs.Running as runner
use Rattle.run_traces.specs.declared.choices.Choices.{Choices}
use Rattle.run_traces.specs.Choices.{choices_of}
use Rattle.run_traces.specs.Traces.{step_line, following, steps_text, stepped}
use Rattle.run_traces.proofs.Writing.{IsWriting, more, cut, finished, rest_is}
use Rattle.run_traces.proofs.TraceLaws.{core_chosen, no_next, some_next, drop_past}

-- the choice at a place, of as many instances as were counted
pub there : (choices : Choices) (j k n : ℕ) (o : Option ℕ) → o ≡ slice_get (choices_of j choices) n → j ≡ k →
    slice_get (choices_of k choices) n ≡ o
there choices j k n o e f = sym (e ∙ ap (λ i. slice_get (choices_of i choices) n) f)

module _ (d : CDocument) (p : CProgram) (n choice : ℕ) (state : State) where
  abbrev next_of : Option State
  next_of = chosen_step (core_system d.slots p) choice state

  abbrev piece : List ℕ
  piece = step_line d p (n + 1) choice next_of

  abbrev run_of : Option State
  run_of = runner.chosen_step d.slots p choice state

  -- no state follows a step that is undefined, and one follows a step that is done
  pub none_follows : (s : Stepped) → s ≡ stepped run_of → s ≡ Stepped.Undefined → next_of ≡ None
  none_follows s e f = no_next next_of s (e ∙ ap stepped (core_chosen d.slots p choice state)) f

  pub one_follows : (s : Stepped) (next : State) → s ≡ stepped run_of → s ≡ Stepped.Done →
      IfSome run_of (λ t. next ≡ t) → next_of ≡ Some next
  one_follows s next e f h =
      some_next next_of s next (e ∙ ap stepped (core_chosen d.slots p choice state)) f
      (subst (λ r. IfSome r (λ t. next ≡ t)) (core_chosen d.slots p choice state) h)

  module _ (later : State → List ℕ) (old mid new : Option (List ℕ)) (text rest : List ℕ)
      (w : IsWriting old mid text rest) (e : rest ≡ piece ++ following later next_of) where
    -- the step's line was written
    pub step_written : Appends mid new (step_line d p (n + 1) choice run_of) →
        IsWriting old new text (following later next_of)
    step_written h =
        more old mid new text piece (following later next_of) (rest_is old mid text rest _ e w)
        (subst (λ r. Appends mid new (step_line d p (n + 1) choice r)) (core_chosen d.slots p choice state) h)

    -- the step is undefined: nothing is to come after its line
    pub step_ended : Appends mid new (step_line d p (n + 1) choice run_of) → (s : Stepped) → s ≡ stepped run_of →
        s ≡ Stepped.Undefined → Appends old new text
    step_ended h s f g =
        finished old new text (rest_is old new text _ [] (ap (following later) (none_follows s f g)) (step_written h))

    -- the step's line was cut short
    pub step_cut : AppendsPart mid new (step_line d p (n + 1) choice run_of) → AppendsPart old new text
    step_cut h =
        cut old mid new text piece (following later next_of) (rest_is old mid text rest _ e w)
        (subst (λ r. AppendsPart mid new (step_line d p (n + 1) choice r)) (core_chosen d.slots p choice state) h)

-- at the end nothing is left but the rounds
pub ends_next : (d : CDocument) (p : CProgram) (cs : List ℕ) (n number : ℕ) (state : State) → length cs ≤ n →
    number ≡ rounds cs (length p.statements) →
    steps_text d p (core_system d.slots p) (rounds_line (rounds cs (length p.statements))) n state (drop n cs)
    ≡ rounds_line number
ends_next d p cs n number state past e =
    ap (steps_text d p (core_system d.slots p) (rounds_line (rounds cs (length p.statements))) n state)
    (drop_past cs n past)
    ∙ ap rounds_line (sym e)

module _ (old mid new : Option (List ℕ)) (text rest line : List ℕ) (w : IsWriting old mid text rest)
    (e : rest ≡ line) where
  last_writing : IsWriting old mid text (line ++ [])
  last_writing = rest_is old mid text rest (line ++ []) (e ∙ sym (append-nil line)) w

  -- the last line was written
  pub end_written : Appends mid new line → Appends old new text
  end_written h = finished old new text (more old mid new text line [] last_writing h)

  -- the last line was cut short
  pub end_cut : AppendsPart mid new line → AppendsPart old new text
  end_cut h = cut old mid new text line [] last_writing h
