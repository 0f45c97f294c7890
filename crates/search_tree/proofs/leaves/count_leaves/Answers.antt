use Rattle.std.proofs.Common.{◌∙◌, ap, sym, subst, arith}
use Rattle.obligations.specs.Obligations.{AreOwn}
use Rattle.obligations.specs.Plain.{ranges_of}
use Rattle.obligations.specs.Scopes.{scope_of}
use Rattle.search_tree.proofs.RootLaws.{search-ready}
use Rattle.search_tree.proofs.LeavesLaws.{root-leaves}
use Rattle.search_tree.proofs.leaves.count_leaves.Goals as goal

pub some_leaves-requires-clause-ready : goal.some_leaves-requires-clause-ready
some_leaves-requires-clause-ready c =
    search-ready c.args.o.now c.as_slice-vs.result.now c.as_slice.result.now c.in_ok-branch.branch c.requires
    c.as_slice-vs.ensures
    (c.as_slice.ensures ∙ c.in_ok-ranges.ensures ∙ ap ranges_of c.as_slice-vs.ensures) c.in_ok-branch.ensures.branch

pub some_leaves-requires-clause-view : goal.some_leaves-requires-clause-view
some_leaves-requires-clause-view c = record {
  own = subst AreOwn (sym c.as_slice-vs.ensures) c.if-not-has_room.ensures;
  scope = sym (ap (scope_of c.as_slice-vs.result.now) c.in_ok-branch.ensures.branch);
  few = omega arith;
}

pub returns : goal.returns
returns c =
    root-leaves c.args.o.now c.as_slice-vs.result.now c.as_slice.result.now c.in_ok-branch.branch c.args.wanted
    c.in_ok-leaves.leaves c.as_slice-vs.ensures
    (c.as_slice.ensures ∙ c.in_ok-ranges.ensures ∙ ap ranges_of c.as_slice-vs.ensures) c.in_ok-branch.ensures.branch
    c.in_ok-leaves.ensures.leaves
