-- What a list of nodes leaves to be refuted.
use Rattle.std.specs.Prelude.{ℕ, ◌-◌, Option, Some, None, List, [], ◌∷◌, ◌++◌}
use Rattle.obligations.specs.declared.branches.Variable.{Variable}
use Rattle.obligations.specs.declared.certificates.Node.{Node}
use Rattle.certificate_rules.specs.Refutation.{NodeEffect, fails, opens, OpenBranch, made, pending}

-- the branches that a node leaves to be refuted, where it is taken
abbrev pub left_by : ℕ → List OpenBranch → NodeEffect → Option (List OpenBranch)
left_by levels ps (fails c) = None
left_by levels ps (opens bs) = Some (pending (levels - 1) bs ++ ps)

abbrev pub left_after : List Variable → Option (List OpenBranch) → Node → Option (List OpenBranch)
left_after vs None n = None
left_after vs (Some []) n = None
left_after vs (Some (p ∷ ps)) n = left_by p.levels ps (made vs p n)

-- the branches that these nodes leave; none where they leave nothing, and `None` where one of them fails
abbrev pub left : List Variable → Option (List OpenBranch) → List Node → Option (List OpenBranch)
left vs r [] = r
left vs r (n ∷ ns) = left vs (left_after vs r n) ns
