-- The nodes that events tell.
use Rattle.std.specs.Prelude.{ℕ, ℤ, Bool, true, false, List, [], ◌∷◌, ◌++◌, map}
use Rattle.std.specs.List.{flat_map}
use Rattle.unity_base.specs.declared.events.CertEvent.{CertEvent}
use Rattle.obligations.specs.declared.certificates.Node.{Node}
use Rattle.obligations.specs.Certificates.{node_pairs}

-- what a pair tells
abbrev pub pair_event : ℤ × ℕ → CertEvent
pair_event p = CertEvent.Pair p.0 p.1

-- the event that begins a node
abbrev pub beginning : Node → CertEvent
beginning (Node.Case k) = CertEvent.Case k
beginning (Node.Split v k) = CertEvent.Split v k
beginning (Node.Sum ps) = CertEvent.Sum
beginning (Node.Round d ps) = CertEvent.Round d
beginning (Node.Quot k) = CertEvent.Quot k
beginning (Node.Share c ps) = CertEvent.Share c

-- what a node tells: that it begins, and its pairs
abbrev pub node_events : Node → List CertEvent
node_events n = beginning n ∷ map pair_event (node_pairs n)

-- what nodes tell, one after the other
abbrev pub events_of : List Node → List CertEvent
events_of ns = flat_map node_events ns

-- a node with one more pair, where it has pairs
abbrev pub with_pair : Node → ℤ × ℕ → Node
with_pair (Node.Sum ps) p = Node.Sum (ps ++ p ∷ [])
with_pair (Node.Round d ps) p = Node.Round d (ps ++ p ∷ [])
with_pair (Node.Share c ps) p = Node.Share c (ps ++ p ∷ [])
with_pair (Node.Case k) p = Node.Case k
with_pair (Node.Split v k) p = Node.Split v k
with_pair (Node.Quot k) p = Node.Quot k

-- the last node takes the pair
abbrev pub paired : List Node → ℤ × ℕ → List Node
paired [] p = []
paired (n ∷ []) p = with_pair n p ∷ []
paired (n ∷ m ∷ ns) p = n ∷ paired (m ∷ ns) p

-- an event that begins a node
abbrev pub is_node_event : CertEvent → Bool
is_node_event (CertEvent.Case k) = true
is_node_event (CertEvent.Split v k) = true
is_node_event (CertEvent.Quot k) = true
is_node_event CertEvent.Sum = true
is_node_event (CertEvent.Round d) = true
is_node_event (CertEvent.Share c) = true
is_node_event e = false

-- nodes, with what one more event tells
abbrev pub with_event : List Node → CertEvent → List Node
with_event ns (CertEvent.Case k) = ns ++ Node.Case k ∷ []
with_event ns (CertEvent.Split v k) = ns ++ Node.Split v k ∷ []
with_event ns (CertEvent.Quot k) = ns ++ Node.Quot k ∷ []
with_event ns CertEvent.Sum = ns ++ Node.Sum [] ∷ []
with_event ns (CertEvent.Round d) = ns ++ Node.Round d [] ∷ []
with_event ns (CertEvent.Share c) = ns ++ Node.Share c [] ∷ []
with_event ns (CertEvent.Pair m f) = paired ns (m, f)
with_event ns CertEvent.Begin = ns
with_event ns CertEvent.End = ns
with_event ns CertEvent.Last = ns

-- nodes, with what events tell
abbrev pub nodes_from : List Node → List CertEvent → List Node
nodes_from ns [] = ns
nodes_from ns (e ∷ es) = nodes_from (with_event ns e) es

-- whether an event tells a pair
abbrev pub is_pair : CertEvent → Bool
is_pair (CertEvent.Pair m f) = true
is_pair e = false
