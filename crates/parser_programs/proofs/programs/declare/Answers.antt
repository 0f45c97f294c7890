use Rattle.std.proofs.Common.{rules}
use Rattle.grammar_theory.specs.Ebnf.{many}
use Rattle.unity_syntax.specs.Grammar.{var_}
use Rattle.unity_syntax.specs.View.{view_list, view_var}
use Rattle.parser_programs.proofs.programs.declare.Goals as goal

pub returns : goal.returns
returns c = c.section.ensures (view_list view_var) (many var_) c.args.depth (λ text r p. search rules)
