use Rattle.std.proofs.Common.{◌+◌, ◌++◌, take}
use Rattle.certificate_check.specs.from_event_checker.Events.{events_of, node_events}
use Rattle.proof_script.proofs.TellingLaws.{flat-all, flat-next, told-none, told-so, told-then}
use Rattle.proof_script.proofs.telling.tell_nodes.Goals as goal

pub loop-node-init : goal.loop-node-init
loop-node-init c = record { ready = c.requires.ready; tells = told-none c.args.doc.now c.args.judge.now }

pub loop-node-preserved : goal.loop-node-preserved
loop-node-preserved c =
    let first = c.args.judge.now in
    let new = c.tell_node.new.judge in
    let xs = c.args.nodes.now in
    let i = c.loop-node.node-index in
    let x = c.node-item.result in record {
      ready = c.in_ok-tell_node.ensures.ready;
      tells = told-so c.args.doc.now first new (events_of (take i xs) ++ node_events x) (events_of (take (i + 1) xs))
          (flat-next node_events xs i x c.loop-node-test.true c.node-item.is)
          (told-then c.args.doc.now first c.loop-node.judge new (events_of (take i xs)) (node_events x)
          c.loop-node.invariant.tells c.in_ok-tell_node.ensures.tells);
    }

pub returns-clause-tells : goal.returns-clause-tells
returns-clause-tells c =
    let xs = c.args.nodes.now in
    let i = c.loop-node.node-index in
    told-so c.args.doc.now c.args.judge.now c.loop-node.judge (events_of (take i xs)) (events_of xs)
    (flat-all node_events xs i c.loop-node-test.false) c.loop-node.invariant.tells
