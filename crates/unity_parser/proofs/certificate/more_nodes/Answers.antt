use Rattle.std.proofs.Common.{◌≡◌, ◌<◌, ◌≤◌, arith, length}
use Rattle.std.proofs.lemmas.Result.{err_from_is_err_and}
use Rattle.grammar_theory.specs.Reader.{count}
use Rattle.unity_syntax.specs.Grammar.{subtrees}
use Rattle.unity_syntax.specs.View.{view_node}
use Rattle.parser_programs.specs.from_parser_expressions.Gives.{remaining}
use Rattle.unity_parser.proofs.CertificateLoops.{nodes_go_on, nodes_end, nodes_fail, node_shorter, subtrees_few}
use Rattle.unity_parser.proofs.CertificateLoops.{count_left}
use Rattle.unity_parser.proofs.certificate.more_nodes.Goals as goal

pub items-smaller : goal.items-smaller
items-smaller c = node_shorter c.args.depth (remaining c.items.rest) (view_node c.in_ok-item.item)
    (remaining c.in_ok-item.later) c.in_ok-item.ensures

pub items-preserved : goal.items-preserved
items-preserved c =
    let less : count (remaining c.in_ok-item.later) < count (remaining c.items.rest) = node_shorter c.args.depth
    (remaining c.items.rest) (view_node c.in_ok-item.item) (remaining c.in_ok-item.later) c.in_ok-item.ensures
    in
    let few : subtrees (view_node c.in_ok-item.item) ≤ 2 = subtrees_few c.in_ok-item.item in (
      nodes_go_on c.args.depth c.args.trees (remaining c.args.text) c.items.found c.items.missing
          (remaining c.items.rest) c.items.invariant.0 (omega arith) c.in_ok-item.item (remaining c.in_ok-item.later)
          c.in_ok-item.ensures _ (omega arith) _ c.in_ok-push.ensures.ok,
      omega arith,
    )

pub returns : goal.returns
returns c = nodes_end c.args.depth c.args.trees (remaining c.args.text) c.items.found c.items.missing
    (remaining c.items.rest) c.items.invariant.0 (omega arith)

pub returns-in_err-item : goal.returns-in_err-item
returns-in_err-item c = let p = err_from_is_err_and c.from_residual.result c.from_residual.ensures.1 in rw (p.1, p.2)
    (nodes_fail c.args.depth c.args.trees (remaining c.args.text) c.items.found c.items.missing (remaining c.items.rest)
    c.items.invariant.0 (omega arith) _ c.in_err-item.ensures)

pub overflow_add-missing : goal.overflow_add-missing
overflow_add-missing c =
    let few : subtrees (view_node c.in_ok-item.item) ≤ 2 = subtrees_few c.in_ok-item.item in
    let size : count (remaining c.args.text) ≡ length c.args.text.tokens.now = count_left c.args.text in
    omega arith
