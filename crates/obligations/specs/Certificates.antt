-- The parts of a certificate's nodes, and how large it is.
use Rattle.std.specs.Prelude.{ℕ, ◌+◌, ℤ, Option, Some, None, List, [], ◌∷◌, length}
use Rattle.obligations.specs.declared.certificates.Node.{Node}

-- how many subtrees a node has
abbrev pub arity : Node → ℕ
arity (Node.Case k) = 2
arity (Node.Split v k) = 2
arity (Node.Sum ps) = 0
arity (Node.Round d ps) = 1
arity (Node.Quot k) = 1
arity (Node.Share c ps) = 2

-- the number of the waiting formula or of the variable that it names
abbrev pub node_index : Node → Option ℕ
node_index (Node.Case k) = Some k
node_index (Node.Split v k) = Some v
node_index (Node.Sum ps) = None
node_index (Node.Round d ps) = None
node_index (Node.Quot k) = Some k
node_index (Node.Share c ps) = None

-- the number at which it splits, by which it divides, or which it adds to multiples of variables
abbrev pub node_number : Node → Option ℤ
node_number (Node.Case k) = None
node_number (Node.Split v k) = Some k
node_number (Node.Sum ps) = None
node_number (Node.Round d ps) = Some d
node_number (Node.Quot k) = None
node_number (Node.Share c ps) = Some c

-- the facts that it adds up, or the variables of a `share`, each a multiplier and the number of what it multiplies
abbrev pub node_pairs : Node → List (ℤ × ℕ)
node_pairs (Node.Case k) = []
node_pairs (Node.Split v k) = []
node_pairs (Node.Sum ps) = ps
node_pairs (Node.Round d ps) = ps
node_pairs (Node.Quot k) = []
node_pairs (Node.Share c ps) = ps

-- what is made of an index or a number, or another value where the node has none
abbrev pub map_or : {A B : Type 0} → Option A → B → (A → B) → B
map_or None b f = b
map_or (Some x) b f = f x

-- one for the node, and one for each of its pairs
abbrev pub node_units : Node → ℕ
node_units n = 1 + length (node_pairs n)

-- those of all nodes
abbrev pub units : List Node → ℕ
units [] = 0
units (n ∷ ns) = node_units n + units ns
