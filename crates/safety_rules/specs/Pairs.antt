-- Rules of two records that differ by what they join.
use Rattle.case_tables.specs.declared.rule_table.RuleName.{RuleName}
use Rattle.core_terms.specs.declared.known.Joining.{Joining}

-- simple conjunction, or simple disjunction
abbrev pub simple_rule : Joining → RuleName
simple_rule Joining.Both = RuleName.Simpleconj
simple_rule Joining.Either = RuleName.Simpledisj
