-- The invariants that a step uses.
use Rattle.std.specs.Prelude.{◌≡◌, nat_eq, ◌&&◌, List, [], ◌∷◌, ◌++◌, Result, Ok, Err, ℕ}
use Rattle.case_tables.specs.declared.code_table.Code.{Code}
use Rattle.core_terms.specs.declared.trees.CForm.{CForm}
use Rattle.core_terms.specs.declared.programs.CSlot.{CSlot}
use Rattle.core_terms.specs.declared.documents.Ref.{Ref}
use Rattle.core_terms.specs.Conditions.{KindFits}
use Rattle.fair_rounds.specs.declared.records.Record.{Record}
use Rattle.safety_rules.specs.from_rules_table.Table.{needs, go_on, is_invariant}
use Rattle.safety_rules.specs.from_rules_table.Terms.{found}
use Rattle.safety_rules.specs.from_rules_table.Walk.{is_empty}
use Rattle.safety_rules.specs.Instances.{RecordFits}
use Rattle.safety_rules.specs.declared.places.RuleError.{RuleError}

-- the record of this program that one name of `using` means
abbrev pub use_of : ℕ → List Record → Ref → Result Record Code
use_of program book r =
    go_on (found book r) (λ a.
    needs (nat_eq a.program program) Code.OtherProgram
    (needs (is_invariant a.kind && is_empty r.args) Code.NotInvariant (Ok a)))

-- its predicate was added, or the code is that of the condition that fails; want of memory says nothing
abbrev pub UsesOne : {T : Type 0} → Result T RuleError → List CForm → List CForm → Result Record Code → Type 0
UsesOne (Ok done) old new row = (a : Record) × (row ≡ Ok a) × (new ≡ old ++ a.p ∷ [])
UsesOne (Err (RuleError.Fault code)) old new row = row ≡ Err code
UsesOne (Err RuleError.Memory) old new row = Unit {0}

-- all predicates, or the first failure
abbrev pub Uses : Result (List CForm) RuleError → Result (List CForm) Code → Type 0
Uses (Ok forms) row = row ≡ Ok forms
Uses (Err (RuleError.Fault code)) row = row ≡ Err code
Uses (Err RuleError.Memory) row = Unit {0}

-- a record's parts fit
pub record IsEntry (slots : List CSlot) (a : Record) : Type 0 where
  pub parts : RecordFits slots a
  pub kind : KindFits a.kind a.params a.p a.q

-- all of a list are such
abbrev pub BookFits : List CSlot → List Record → Type 0
BookFits slots [] = Unit {0}
BookFits slots (a ∷ book) = IsEntry slots a × BookFits slots book
