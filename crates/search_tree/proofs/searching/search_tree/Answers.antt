use Rattle.std.proofs.Common.{◌∙◌, ap, sym, subst, refl, arith}
use Rattle.obligations.specs.Obligations.{AreOwn}
use Rattle.obligations.specs.Plain.{ranges_of}
use Rattle.obligations.specs.Scopes.{scope_of}
use Rattle.search_tree.proofs.RootLaws.{search-ready, search-answers}
use Rattle.search_tree.proofs.searching.search_tree.Goals as goal

pub refute-requires-clause-ready : goal.refute-requires-clause-ready
refute-requires-clause-ready c =
    search-ready c.args.o.now c.as_slice-vs.result.now c.as_slice.result.now c.in_ok-branch.branch c.requires
    c.as_slice-vs.ensures
    (c.as_slice.ensures ∙ c.in_ok-ranges.ensures ∙ ap ranges_of c.as_slice-vs.ensures) c.in_ok-branch.ensures.branch

pub refute-requires-clause-view : goal.refute-requires-clause-view
refute-requires-clause-view c = record {
  own = subst AreOwn (sym c.as_slice-vs.ensures) c.if-not-has_room.ensures;
  scope = sym (ap (scope_of c.as_slice-vs.result.now) c.in_ok-branch.ensures.branch);
  few = omega arith;
}

pub returns : goal.returns
returns c =
    search-answers c.args.o.now c.requires c.as_slice-vs.result.now c.as_slice.result.now c.in_ok-branch.branch _
    c.refute.new.trail c.in_ok-ended.ended c.args.budget c.found_by.result c.as_slice-vs.ensures
    (c.as_slice.ensures ∙ c.in_ok-ranges.ensures ∙ ap ranges_of c.as_slice-vs.ensures) c.in_ok-branch.ensures.branch
    c.new.ensures refl c.in_ok-ended.ensures.ends c.found_by.ensures
