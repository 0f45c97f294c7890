use Rattle.std.proofs.Common.{sym, ◌∙◌, arith}
use Rattle.unity_lexer.proofs.ReadyTokens.{sum_begins, round_begins, split_begins, case_begins}
use Rattle.unity_lexer.proofs.ready.long_node_word.Goals as goal

pub returns-then-begins_sum : goal.returns-then-begins_sum
returns-then-begins_sum c =
    record {
      begins = sum_begins c.args.text.now c.requires (sym c.begins_sum.ensures ∙ c.if-begins_sum.true);
      short = omega arith;
    }

pub returns-then-begins_round : goal.returns-then-begins_round
returns-then-begins_round c =
    record {
      begins = round_begins c.args.text.now c.requires (sym c.begins_round.ensures ∙ c.if-begins_round.true);
      short = omega arith;
    }

pub returns-then-begins_split : goal.returns-then-begins_split
returns-then-begins_split c =
    record {
      begins = split_begins c.args.text.now c.requires (sym c.begins_split.ensures ∙ c.if-begins_split.true);
      short = omega arith;
    }

pub returns-then-begins_case : goal.returns-then-begins_case
returns-then-begins_case c =
    record {
      begins = case_begins c.args.text.now c.requires (sym c.begins_case.ensures ∙ c.if-begins_case.true);
      short = omega arith;
    }
