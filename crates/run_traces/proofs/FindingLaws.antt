-- Programs that are found by a test.
use Rattle.std.proofs.Common.{◌≡◌, ℕ, suc, nat_eq, List, [], ◌∷◌, Bool, true, false, cond, ◌||◌, Option, Some}
use Rattle.std.proofs.Common.{None, Contains, find, option_and_then, refl, sym, ap, ◌∙◌, arith}
use Rattle.std.specs.Option.{option_map_or}
use Rattle.std.specs.List.{list_any}
use Rattle.core_terms.specs.declared.programs.CProgram.{CProgram}
use Rattle.core_terms.specs.declared.documents.CSchedule.{CSchedule}
use Rattle.core_terms.specs.declared.documents.CDocument.{CDocument}
use Rattle.core_terms.specs.Conditions.{IsCoreDocument, ScheduleFits}
use Rattle.schedule_replay.specs.Schedules.{statements_of}
use Rattle.run_traces.specs.Programs.{is_called, program_called, program_of, scheduled_program}

contains_more : {X : Type 0} (x : X) (xs : List X) (y : X) → Contains xs y → Contains (x ∷ xs) y
contains_more x xs y (k, below, same) = (suc k, omega arith, same)

-- what is found is an item
pub found_in : {X : Type 0} (test : X → Bool) (xs : List X) (x : X) → find test xs ≡ Some x → Contains xs x
found_in test [] x e = cc
found_in {X} test (y ∷ ys) x e = go (test y) e (λ f. contains_more y ys x (found_in test ys x f))
  where
    go : (b : Bool) → cond b (Some y) (find test ys) ≡ Some x → (find test ys ≡ Some x → Contains (y ∷ ys) x) →
        Contains (y ∷ ys) x
    go true f rest = let same : y ≡ x = cc in (0, omega arith, same)
    go false f rest = rest f

-- where the test passes at an item, one is found
pub any_found : {X : Type 0} (test : X → Bool) (xs : List X) → list_any test xs ≡ true → find test xs ≡ None → ⊥
any_found test [] h e = cc
any_found {X} test (x ∷ xs) h e = go (test x) h e (any_found test xs)
  where
    go : (b : Bool) → (b || list_any test xs) ≡ true → cond b (Some x) (find test xs) ≡ None →
        (list_any test xs ≡ true → find test xs ≡ None → ⊥) → ⊥
    go true h e rest = cc
    go false h e rest = rest h e

-- the schedule of a document names a program
pub no_schedule : (d : CDocument) → IsCoreDocument d → scheduled_program d ≡ None → d.schedule ≡ None
no_schedule d h e = go d.schedule h.schedule e
  where
    go : (o : Option CSchedule) → ScheduleFits d.words d.programs o → option_and_then (program_of d) o ≡ None →
        o ≡ None
    go None fits f = refl
    go (Some s) fits f = absurd (any_found (λ (p : CProgram). nat_eq p.name s.program) d.programs fits.0 f)

-- the schedule's program is that of the document's schedule
pub named_program : (d : CDocument) (s : CSchedule) (p : CProgram) → d.schedule ≡ Some s →
    scheduled_program d ≡ Some p → program_of d s ≡ Some p
named_program d s p there h = sym (ap (option_and_then (program_of d)) there) ∙ h

pub named_statements : (d : CDocument) (s : CSchedule) (p : CProgram) → d.schedule ≡ Some s →
    scheduled_program d ≡ Some p → statements_of d s.program ≡ p.statements
named_statements d s p there h =
    ap (λ (o : Option CProgram). option_map_or (λ (q : CProgram). q.statements) o []) (named_program d s p there h)

-- what is found by its name, or by a schedule, is a program of the document
pub called_in : (d : CDocument) (name : List ℕ) (p : CProgram) → program_called d name ≡ Some p →
    Contains d.programs p
called_in d name p h = found_in (is_called d name) d.programs p h

pub scheduled_in : (d : CDocument) (p : CProgram) → scheduled_program d ≡ Some p → Contains d.programs p
scheduled_in d p h = go d.schedule h
  where
    go : (o : Option CSchedule) → option_and_then (program_of d) o ≡ Some p → Contains d.programs p
    go None f = cc
    go (Some s) f = found_in (λ (q : CProgram). nat_eq q.name s.program) d.programs p f
