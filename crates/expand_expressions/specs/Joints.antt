-- What joins parts.
use Rattle.std.specs.Prelude.{pos}
use Rattle.case_tables.specs.declared.word_table.Word.{Word}
use Rattle.core_terms.specs.declared.trees.CForm.TheVariants.{Top, Bottom}
use Rattle.expand_rules.specs.declared.cores.Formed.{Formed}
use Rattle.expand_rules.specs.Forming.{as_number, as_truth, sum, conjunction, disjunction, number_constant}
use Rattle.expand_rules.specs.Forming.{truth_constant}
use Rattle.expand_expressions.specs.declared.joining.Joint.{Joint}

abbrev pub joint_of : Joint → Formed → Formed → Formed
joint_of Joint.And = conjunction
joint_of Joint.Or = disjunction
joint_of Joint.Sum = sum

abbrev pub begin_of : Joint → Formed → Formed
begin_of Joint.And = as_truth
begin_of Joint.Or = as_truth
begin_of Joint.Sum = as_number

abbrev pub word_joint : Word → Joint
word_joint Word.All = Joint.And
word_joint Word.Any = Joint.Or
word_joint _ = Joint.Sum

abbrev pub none_of : Word → Formed
none_of Word.All = truth_constant Top
none_of Word.Any = truth_constant Bottom
none_of _ = number_constant (pos 0)
