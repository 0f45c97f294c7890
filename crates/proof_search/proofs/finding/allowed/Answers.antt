use Rattle.std.proofs.Common.{sym, subst}
use Rattle.search_tree.specs.Searching.{SearchAnswers}
use Rattle.proof_search.proofs.FindingLaws.{enough-found, chosen-answers}
use Rattle.proof_search.proofs.finding.allowed.Goals as goal

pub returns-then-branch : goal.returns-then-branch
returns-then-branch c =
    enough-found c.args.o.now c.args.budget c.args.total c.args.nodes c.requires.obligation c.requires.found
    c.requires.total c.requires.within (c.in_ok-is_within_enough.ensures.enough c.if-branch.true)

pub returns : goal.returns
returns c =
    subst (SearchAnswers c.args.o.now c.args.budget) (sym c.chosen.ensures)
    (chosen-answers c.args.o.now c.args.budget c.args.total c.args.nodes c.in_ok-found.found c.requires.obligation
    c.requires.found c.requires.total c.requires.within (c.in_ok-is_within_enough.ensures.some c.if-branch.false)
    c.in_ok-found.ensures)
