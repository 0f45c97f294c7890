-- Certificates as trees, and when a tree refutes a branch.
use Rattle.std.specs.Prelude.{◌≡◌, ◌↔◌, nat_eq, ℕ, zero, suc, ◌+◌, ◌-◌, Bool, false, true, Ok, List, [], ◌∷◌, ◌++◌}
use Rattle.obligations.specs.declared.branches.Branch.{Branch}
use Rattle.obligations.specs.declared.branches.Variable.{Variable}
use Rattle.obligations.specs.declared.branches.Obligation.{Obligation}
use Rattle.obligations.specs.declared.certificates.Node.{Node}
use Rattle.obligations.specs.Certificates.{arity}
use Rattle.obligations.specs.Opening.{first_branch}
use Rattle.certificate_rules.specs.Refutation.{opens, made, allowing, walk_from_root}

-- a node with as many subtrees as it has
pub data CertTree : Type 0 where
  leaf : (n : Node) → arity n ≡ 0 → CertTree
  one_below : (n : Node) → arity n ≡ 1 → CertTree → CertTree
  two_below : (n : Node) → arity n ≡ 2 → CertTree → CertTree → CertTree

-- a tree's nodes, each before its subtrees
abbrev pub nodes_of : CertTree → List Node
nodes_of (leaf n e) = n ∷ []
nodes_of (one_below n e t) = n ∷ nodes_of t
nodes_of (two_below n e t u) = n ∷ (nodes_of t ++ nodes_of u)

-- a tree refutes a branch: its node opens branches, and each is refuted by a subtree
abbrev pub Refutes : List Variable → ℕ → Branch → CertTree → Type 0
Refutes vs levels b (leaf n e) = made vs (allowing levels b) n ≡ opens []
Refutes vs levels b (one_below n e t) =
    (c : Branch) × (made vs (allowing levels b) n ≡ opens (c ∷ [])) × Refutes vs (levels - 1) c t
Refutes vs levels b (two_below n e t u) =
    (c d : Branch) × (made vs (allowing levels b) n ≡ opens (c ∷ d ∷ []))
    × Refutes vs (levels - 1) c t × Refutes vs (levels - 1) d u

-- some tree of these nodes, of at most so many levels, refutes the obligation's first branch
abbrev pub Refuted : ℕ → Obligation → List Node → Type 0
Refuted levels o nodes = (t : CertTree) × (nodes_of t ≡ nodes) × Refutes o.variables levels (first_branch o) t

-- the nodes are as many whole trees
abbrev pub is_whole : List Node → ℕ → Bool
is_whole [] n = nat_eq n 0
is_whole (x ∷ xs) zero = false
is_whole (x ∷ xs) (suc n) = is_whole xs (arity x + n)

-- the nodes of one tree refute an obligation exactly where a walk along them leaves no branch
abbrev pub WalkIsTree : Type 0
WalkIsTree = (levels : ℕ) (o : Obligation) (nodes : List Node) → is_whole nodes 1 ≡ true →
    (walk_from_root levels o nodes ≡ Ok []) ↔ Refuted levels o nodes
