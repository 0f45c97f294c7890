-- The texts are read as their trees, by computation.
use Rattle.std.proofs.Common.{refl}
use Rattle.examples_definitions.specs.TextForms.{ExampleIsRead, IsRefusedText}
use Rattle.examples_definitions.specs.CountText.{smallest_example, count_example}
use Rattle.examples_definitions.specs.ProgramText.{program_example}
use Rattle.examples_definitions.specs.ExpressionText.{expressions_example}
use Rattle.examples_definitions.specs.ProofText.{proof_example}
use Rattle.examples_definitions.specs.TermText.{term_example}
use Rattle.examples_definitions.specs.VersionText.{second_version}
use Rattle.examples_definitions.specs.RefusedTexts.{other_version, later_word, second_relation, second_arrow, not_not}
use Rattle.examples_definitions.specs.RefusedTexts.{and_or}
use Rattle.examples_definitions.specs.RefusedTexts.{other_number, node_too_many, node_missing, early_end}
use Rattle.examples_definitions.specs.RefusedTexts.{bracket_too_many}
use Rattle.unity_syntax.proofs.Productions.{all_productions}
use Rattle.unity_syntax.proofs.ViewEquations.{view-Implies, view-And, view-Or, view-Not, view-Compare, view-Sum}
use Rattle.unity_syntax.proofs.ViewEquations.{view-Product, view-Number, view-True, view-False, view-Word}
use Rattle.unity_syntax.proofs.ViewEquations.{view-Brackets, view-Quantified, view-Set, view-quantified_component}
use Rattle.unity_syntax.proofs.ViewEquations.{view-Assign, view-Statement, view-quantified_item, view-Items, view-Imply}
use Rattle.unity_syntax.proofs.ViewEquations.{view-From, view-Pair, view-Exists, view-Induct, view-Psp, view-Weaken}

ruleset formula_views =
    (view-Implies, view-And, view-Or, view-Not, view-Compare, view-True, view-False, view-Quantified)

ruleset number_views = (view-Sum, view-Product, view-Number, view-Word, view-Brackets)

ruleset statement_views =
    (view-Set, view-quantified_component, view-Assign, view-Statement, view-quantified_item, view-Items)

ruleset term_views = (view-Imply, view-From, view-Pair, view-Exists, view-Induct, view-Psp, view-Weaken)

ruleset views = (formula_views, number_views, statement_views, term_views)

-- the texts that are read
pub record TextsRead : Type 0 where
  pub smallest : ExampleIsRead smallest_example
  pub count : ExampleIsRead count_example
  pub program : ExampleIsRead program_example
  pub expressions : ExampleIsRead expressions_example
  pub proof : ExampleIsRead proof_example
  pub term : ExampleIsRead term_example
  pub second : ExampleIsRead second_version

pub read : TextsRead
unfolding all_productions
read = record {
  smallest = refl;
  count = simp views refl;
  program = simp views refl;
  expressions = simp views refl;
  proof = simp views refl;
  term = simp views refl;
  second = simp views refl;
}

-- and those that are refused
pub record TextsRefused : Type 0 where
  pub later : IsRefusedText later_word
  pub version : IsRefusedText other_version
  pub relation : IsRefusedText second_relation
  pub arrow : IsRefusedText second_arrow
  pub negation : IsRefusedText not_not
  pub disjunction : IsRefusedText and_or
  pub number : IsRefusedText other_number
  pub too_many : IsRefusedText node_too_many
  pub missing : IsRefusedText node_missing
  pub early : IsRefusedText early_end
  pub bracket : IsRefusedText bracket_too_many

pub refused : TextsRefused
unfolding all_productions
refused = record {
  later = refl;
  version = refl;
  relation = refl;
  arrow = refl;
  negation = refl;
  disjunction = refl;
  number = refl;
  too_many = refl;
  missing = refl;
  early = refl;
  bracket = refl;
}
