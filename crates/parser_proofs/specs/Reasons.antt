-- What a step gives for its claim.
use Rattle.case_tables.specs.declared.word_table.Word.{Word}
use Rattle.case_tables.specs.declared.symbol_table.Symbol.{Symbol}
use Rattle.grammar_theory.specs.Ebnf.{Tree, pair, Ebnf, both}
use Rattle.unity_syntax.specs.Classes.{reserved, symbol}
use Rattle.unity_syntax.specs.Grammar.{past, up_to, rule_, using_}
use Rattle.unity_syntax.specs.View.{view_claim, view_option, view_ref, view_rule, view_some}
use Rattle.parser_proofs.specs.declared.steps.Reason.{Reason}
use Rattle.parser_proofs.specs.declared.steps.Claimed.{Claimed}

-- "by" rule [ "using" ref { "," ref } ] ";"
abbrev pub reason_ : Ebnf
reason_ = past (reserved Word.By) (both rule_ (up_to using_ (symbol Symbol.Semicolon)))

-- its tree
abbrev pub view_reason : Reason → Tree
view_reason x = pair (view_rule x.rule) (view_option (view_some view_ref) x.using)

-- the tree of a claim with its reason
abbrev pub view_claimed : Claimed → Tree
view_claimed x = pair (view_claim x.claim) (view_reason x.reason)
