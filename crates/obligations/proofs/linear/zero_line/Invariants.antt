use Rattle.std.proofs.Common.{◌≡◌, take}
use Rattle.obligations.specs.LinearForms.{zeros}
use Rattle.obligations.proofs.linear.zero_line.Given as goal

abbrev pub invariant-places : goal.invariant-places
invariant-places l = l.factors ≡ zeros (take l.index l.vs)
