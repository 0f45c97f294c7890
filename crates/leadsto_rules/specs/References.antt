-- The records that a term refers to.
use Rattle.std.specs.Prelude.{nat_eq, Bool, ◌&&◌, List, [], All}
use Rattle.case_tables.specs.declared.kind_table.Kind.{Kind}
use Rattle.core_terms.specs.Conditions.{FormFits}
use Rattle.core_terms.specs.declared.documents.Ref.{Ref}
use Rattle.core_terms.specs.declared.programs.CSlot.{CSlot}
use Rattle.core_terms.specs.declared.trees.Range.{Range}
use Rattle.fair_rounds.specs.declared.records.Record.{Record}
use Rattle.rules_table.specs.Table.{is_unless}
use Rattle.rules_table.specs.Terms.{leads}
use Rattle.leadsto_rules.specs.declared.references.Purpose.{Purpose}

-- the reference names the step of this record
abbrev pub names_step : Ref → Record → Bool
names_step r a = nat_eq a.program r.program && nat_eq a.name r.step

-- the kind serves
abbrev pub serves : Purpose → Kind → Bool
serves Purpose.Lead = leads
serves Purpose.Safe = is_unless

-- an instance fits the ranges of the names that it may name
pub record FitsIn (slots : List CSlot) (ranges : List Range) (a : Record) : Type 0 where
  pub p : FormFits slots ranges a.p
  pub q : FormFits slots ranges a.q
  pub under : All (FormFits slots []) a.under
