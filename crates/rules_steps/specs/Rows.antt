-- Rows of steps that follow from earlier ones.
use Rattle.std.specs.Prelude.{List, Result, Err, Bool, Option, Some, None}
use Rattle.core_terms.specs.declared.documents.PTerm.{PTerm, out-PTerm}
use Rattle.core_terms.specs.declared.documents.PTerm.TheOpen.{PTerm-F}
use Rattle.case_tables.specs.declared.kind_table.Kind.{Kind}
use Rattle.case_tables.specs.declared.rule_table.RuleName.{RuleName}
use Rattle.case_tables.specs.declared.code_table.Code.{Code}
use Rattle.core_terms.specs.declared.programs.CProgram.{CProgram}
use Rattle.core_terms.specs.declared.documents.Ref.{Ref}
use Rattle.core_terms.specs.declared.documents.CStep.{CStep}
use Rattle.fair_rounds.specs.declared.records.Record.{Record}
use Rattle.safety_rules.specs.from_rules_table.Conclusion.{Conclusion}
use Rattle.safety_rules.specs.from_rules_table.Table.{Site, go_on, pair_kinds, weaken_of}
use Rattle.safety_rules.specs.from_rules_table.Further.{complete_of, pair_by}
use Rattle.safety_rules.specs.from_rules_table.Terms.{referred}
use Rattle.safety_rules.specs.from_rules_table.Walk.{first_part, second_part, is_kind, part_record, same_again}
use Rattle.safety_rules.specs.from_rules_table.Walk.{serves_union}
use Rattle.safety_rules.specs.from_rules_table.Walk.{serves_after, united}

-- `weaken R`
abbrev pub weaken_row : Site → CStep → List Record → Ref → Result Conclusion Code
weaken_row site step book r =
    go_on (referred site site.params book (is_kind step.kind) r) (λ a. weaken_of site a step.q)

-- a pair rule with a first and a second step
abbrev pub pair_row : Site → Kind → List Record → RuleName → Ref → Ref → Result Conclusion Code
pair_row site kind book which r s =
    go_on (referred site site.params book (is_kind (pair_kinds which kind).0) r) (λ a.
    go_on (referred site site.params book (is_kind (pair_kinds which kind).1) s) (λ b.
    pair_by site kind which a b))

-- `complete` with four steps
abbrev pub complete_row : Site → List Record → Ref → Ref → Ref → Ref → Result Conclusion Code
complete_row site book r s t u =
    go_on (referred site site.params book (is_kind Kind.Leadsto) r) (λ a.
    go_on (referred site site.params book (is_kind Kind.Unless) s) (λ b.
    go_on (referred site site.params book (is_kind Kind.Leadsto) t) (λ c.
    go_on (referred site site.params book (is_kind Kind.Unless) u) (λ d. complete_of site a b c d))))

-- `from R` for an unless or an ensures
abbrev pub again_row : Site → Kind → List Record → Ref → Result Conclusion Code
again_row site kind book r = go_on (referred site site.params book (is_kind kind) r) (same_again site)

abbrev pub from_node : Site → Kind → List Record → PTerm-F PTerm → Result Conclusion Code
from_node site kind book (PTerm-F.From r) = again_row site kind book r
from_node site kind book _ = Err Code.WrongKind

-- the same of any term
abbrev pub from_row : Site → Kind → List Record → PTerm → Result Conclusion Code
from_row site kind book t = from_node site kind book (out-PTerm t)

-- which kinds serve as the first of a union's two for a claim of this kind, or as the second after a first
abbrev pub serves_claim : Kind → Option Kind → Kind → Bool
serves_claim claimed None kind = serves_union claimed kind
serves_claim claimed (Some first) kind = serves_after claimed first kind

-- `union R S`
abbrev pub union_row : (CProgram → Bool) → Site → Kind → List Record → Ref → Ref → Result Conclusion Code
union_row starts site kind book r s =
    go_on (part_record site book (first_part site.program.parts) (serves_union kind) r) (λ a.
    go_on (part_record site book (second_part site.program.parts) (serves_after kind a.kind) s) (λ b.
    united starts site kind a b))
