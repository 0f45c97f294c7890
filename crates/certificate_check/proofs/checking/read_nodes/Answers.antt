use Rattle.std.proofs.Common.{refl, sym, ◌∙◌, subst}
use Rattle.event_checker.specs.Events.{node_events, nodes_from}
use Rattle.event_checker.specs.Readings.{ReadingStands}
use Rattle.certificate_check.proofs.LoopLaws.{node-next, nodes-end}
use Rattle.certificate_check.proofs.checking.read_nodes.Goals as goal

pub loop-node-init : goal.loop-node-init
loop-node-init c = record { ready = c.requires.ready; told = λ root ns s. (ns, s, refl) }

pub loop-node-preserved : goal.loop-node-preserved
loop-node-preserved c =
    let n = c.node-item.result in
    let r = c.loop-node.invariant.ready in record {
      ready = (r.0, nodes_from r.1 (node_events n), c.in_ok-read_node.ensures r.0 r.1 r.2);
      told = λ root ns s.
          let w = c.loop-node.invariant.told root ns s in (
            nodes_from w.0 (node_events n),
            c.in_ok-read_node.ensures root w.0 w.1,
            node-next w.0 c.args.nodes.now c.loop-node.node-index n c.loop-node-test.true c.node-item.is ∙ w.2,
          );
    }

pub returns : goal.returns
returns c = λ root ns s.
    let w = c.loop-node.invariant.told root ns s in
    subst (ReadingStands c.args.vs.now root c.loop-node.reading)
    (sym (nodes-end w.0 c.args.nodes.now c.loop-node.node-index c.loop-node-test.false) ∙ w.2) w.1
