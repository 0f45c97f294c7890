use Rattle.std.proofs.Common.{◌∷◌, [], sym, ◌∙◌, subst}
use Rattle.obligations.specs.Obligations.{AreOwn}
use Rattle.obligations.specs.Opening.{first_branch}
use Rattle.certificate_rules.specs.Refutation.{allowing}
use Rattle.event_checker.specs.Readings.{ReadingStands}
use Rattle.event_checker.proofs.NodeLaws.{events-tell-nodes}
use Rattle.certificate_check.proofs.checking.read.Goals as goal

pub read_nodes-requires-clause-own : goal.read_nodes-requires-clause-own
read_nodes-requires-clause-own c = subst AreOwn (sym c.as_slice.ensures) c.in_ok-reading.ensures.own

pub read_nodes-requires-clause-ready : goal.read_nodes-requires-clause-ready
read_nodes-requires-clause-ready c =
    let root = allowing c.args.levels (first_branch c.args.o.now) ∷ [] in (
      root,
      [],
      subst (λ vs. ReadingStands vs root c.in_ok-reading.reading []) (sym c.as_slice.ensures)
          c.in_ok-reading.ensures.stands,
    )

pub returns : goal.returns
returns c =
    let root = allowing c.args.levels (first_branch c.args.o.now) ∷ [] in
    let new = c.read_nodes.new.reading in
    let told = events-tell-nodes c.as_slice-2.result.now ∙ c.as_slice-2.ensures in
    subst (λ vs. ReadingStands vs root new c.args.c.now.nodes) c.as_slice.ensures
    (subst (ReadingStands c.as_slice.result.now root new) told
    (c.in_ok-read_nodes.ensures root []
    (subst (λ vs. ReadingStands vs root c.in_ok-reading.reading []) (sym c.as_slice.ensures)
    c.in_ok-reading.ensures.stands)))
