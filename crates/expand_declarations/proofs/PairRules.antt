-- Rules of two premises, by their two cases.
use Rattle.case_tables.specs.declared.rule_table.RuleName.{RuleName}
use Rattle.case_tables.specs.declared.word_table.Word.{Word}
use Rattle.core_terms.specs.declared.documents.CRule.{CRule}
use Rattle.core_terms.specs.declared.documents.Ref.{Ref}
use Rattle.expand_declarations.specs.References.{Joined, rule_of, ruled, pair_rule}

of_ruled : (P : CRule → Type 0) (r s : Ref) → ((name : RuleName) → P (CRule.Pair name r s)) → P (CRule.Union r s) →
    (rule : Joined) → P (ruled rule r s)
of_ruled P r s pair union (Joined.Pair name) = pair name
of_ruled P r s pair union Joined.Union = union

-- what holds of each rule of the table and of a union holds by every word
pub of_pair_rule : (P : CRule → Type 0) (which : Word) (r s : Ref) → ((name : RuleName) → P (CRule.Pair name r s)) →
    P (CRule.Union r s) → P (pair_rule which r s)
of_pair_rule P which r s pair union = of_ruled P r s pair union (rule_of which)
