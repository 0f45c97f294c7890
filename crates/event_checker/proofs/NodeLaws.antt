-- What events make of nodes.
use Rattle.std.proofs.Common.{◌≡◌, ℕ, ℤ, true, List, [], ◌∷◌, ◌++◌, map, refl, sym, ap, ◌∙◌, subst}
use Rattle.std.proofs.Common.{append_assoc, append-nil}
use Rattle.unity_base.specs.declared.events.CertEvent.{CertEvent}
use Rattle.obligations.specs.declared.certificates.Node.{Node}
use Rattle.event_checker.specs.Events.{pair_event, node_events, events_of, with_pair, paired, is_node_event, with_event}
use Rattle.event_checker.specs.Events.{nodes_from}
use Rattle.event_checker.specs.Laws.{EventsTellNodes}

-- the last node takes a pair
pub paired-behind : (ys : List Node) (z : Node) (zs : List Node) (p : ℤ × ℕ) →
    paired (ys ++ z ∷ zs) p ≡ ys ++ paired (z ∷ zs) p
paired-behind [] z zs p = refl
paired-behind (y ∷ []) z zs p = refl
paired-behind (y ∷ x ∷ ys) z zs p = ap (λ ns. y ∷ ns) (paired-behind (x ∷ ys) z zs p)

-- a node with further pairs
abbrev pub with_pairs : Node → List (ℤ × ℕ) → Node
with_pairs n [] = n
with_pairs n (p ∷ ps) = with_pairs (with_pair n p) ps

-- the node behind these keeps its place, and takes pairs at most
pub record Grown (ys : List Node) (z : Node) (from : List Node) : Type 0 where
  pub pairs : List (ℤ × ℕ)
  pub more : List Node
  pub is : from ≡ ys ++ with_pairs z pairs ∷ more

module _ (ys : List Node) where
  grown_node : (z : Node) (zs : List Node) (n : Node) (es : List CertEvent) →
      Grown ys z (nodes_from (ys ++ z ∷ (zs ++ n ∷ [])) es) → Grown ys z (nodes_from ((ys ++ z ∷ zs) ++ n ∷ []) es)
  grown_node z zs n es g =
      subst (λ ns. Grown ys z (nodes_from ns es)) (sym (append_assoc ys (z ∷ zs) (n ∷ []))) g

pub grown : (es : List CertEvent) (ys : List Node) (z : Node) (zs : List Node) →
    Grown ys z (nodes_from (ys ++ z ∷ zs) es)
grown [] ys z zs = record { pairs = []; more = zs; is = refl }
grown (CertEvent.Case k ∷ es) ys z zs = grown_node ys z zs (Node.Case k) es (grown es ys z (zs ++ Node.Case k ∷ []))
grown (CertEvent.Split v k ∷ es) ys z zs =
    grown_node ys z zs (Node.Split v k) es (grown es ys z (zs ++ Node.Split v k ∷ []))
grown (CertEvent.Quot k ∷ es) ys z zs = grown_node ys z zs (Node.Quot k) es (grown es ys z (zs ++ Node.Quot k ∷ []))
grown (CertEvent.Sum ∷ es) ys z zs = grown_node ys z zs (Node.Sum []) es (grown es ys z (zs ++ Node.Sum [] ∷ []))
grown (CertEvent.Round d ∷ es) ys z zs =
    grown_node ys z zs (Node.Round d []) es (grown es ys z (zs ++ Node.Round d [] ∷ []))
grown (CertEvent.Share c ∷ es) ys z zs =
    grown_node ys z zs (Node.Share c []) es (grown es ys z (zs ++ Node.Share c [] ∷ []))
grown (CertEvent.Pair m f ∷ es) ys z [] =
    let g = grown es ys (with_pair z (m, f)) [] in
    subst (λ ns. Grown ys z (nodes_from ns es)) (sym (paired-behind ys z [] (m, f)))
    (record { pairs = (m, f) ∷ g.pairs; more = g.more; is = g.is })
grown (CertEvent.Pair m f ∷ es) ys z (x ∷ xs) =
    subst (λ ns. Grown ys z (nodes_from ns es)) (sym (paired-behind ys z (x ∷ xs) (m, f)))
    (grown es ys z (paired (x ∷ xs) (m, f)))
grown (CertEvent.Begin ∷ es) ys z zs = grown es ys z zs
grown (CertEvent.End ∷ es) ys z zs = grown es ys z zs
grown (CertEvent.Last ∷ es) ys z zs = grown es ys z zs

-- nodes with pairs
pub sum-pairs : (ps qs : List (ℤ × ℕ)) → with_pairs (Node.Sum ps) qs ≡ Node.Sum (ps ++ qs)
sum-pairs ps [] = ap (λ xs. Node.Sum xs) (sym (append-nil ps))
sum-pairs ps (q ∷ qs) = sum-pairs (ps ++ q ∷ []) qs ∙ ap (λ xs. Node.Sum xs) (append_assoc ps (q ∷ []) qs)

pub round-pairs : (d : ℤ) (ps qs : List (ℤ × ℕ)) → with_pairs (Node.Round d ps) qs ≡ Node.Round d (ps ++ qs)
round-pairs d ps [] = ap (λ xs. Node.Round d xs) (sym (append-nil ps))
round-pairs d ps (q ∷ qs) =
    round-pairs d (ps ++ q ∷ []) qs ∙ ap (λ xs. Node.Round d xs) (append_assoc ps (q ∷ []) qs)

pub share-pairs : (c : ℤ) (ps qs : List (ℤ × ℕ)) → with_pairs (Node.Share c ps) qs ≡ Node.Share c (ps ++ qs)
share-pairs c ps [] = ap (λ xs. Node.Share c xs) (sym (append-nil ps))
share-pairs c ps (q ∷ qs) =
    share-pairs c (ps ++ q ∷ []) qs ∙ ap (λ xs. Node.Share c xs) (append_assoc ps (q ∷ []) qs)

-- the node that an event begins
abbrev pub begun : CertEvent → Node
begun (CertEvent.Case k) = Node.Case k
begun (CertEvent.Split v k) = Node.Split v k
begun (CertEvent.Quot k) = Node.Quot k
begun CertEvent.Sum = Node.Sum []
begun (CertEvent.Round d) = Node.Round d []
begun (CertEvent.Share c) = Node.Share c []
begun e = Node.Sum []

pub begins : (e : CertEvent) (ns : List Node) → is_node_event e ≡ true → with_event ns e ≡ ns ++ begun e ∷ []
begins (CertEvent.Case k) ns h = refl
begins (CertEvent.Split v k) ns h = refl
begins (CertEvent.Quot k) ns h = refl
begins CertEvent.Sum ns h = refl
begins (CertEvent.Round d) ns h = refl
begins (CertEvent.Share c) ns h = refl
begins e ns h = cc

-- more events
pub from-append : (ns : List Node) (es fs : List CertEvent) →
    nodes_from ns (es ++ fs) ≡ nodes_from (nodes_from ns es) fs
from-append ns [] fs = refl
from-append ns (e ∷ es) fs = from-append (with_event ns e) es fs

-- The events of nodes.

pairs-told : (ys : List Node) (z : Node) (qs : List (ℤ × ℕ)) →
    nodes_from (ys ++ z ∷ []) (map pair_event qs) ≡ ys ++ with_pairs z qs ∷ []
pairs-told ys z [] = refl
pairs-told ys z (q ∷ qs) = ap (λ ns. nodes_from ns (map pair_event qs)) (paired-behind ys z [] q)
    ∙ pairs-told ys (with_pair z q) qs

node-told : (ys : List Node) (n : Node) → nodes_from ys (node_events n) ≡ ys ++ n ∷ []
node-told ys (Node.Case k) = refl
node-told ys (Node.Split v k) = refl
node-told ys (Node.Sum ps) = pairs-told ys (Node.Sum []) ps ∙ ap (λ n. ys ++ n ∷ []) (sum-pairs [] ps)
node-told ys (Node.Round d ps) = pairs-told ys (Node.Round d []) ps ∙ ap (λ n. ys ++ n ∷ []) (round-pairs d [] ps)
node-told ys (Node.Quot k) = refl
node-told ys (Node.Share c ps) = pairs-told ys (Node.Share c []) ps ∙ ap (λ n. ys ++ n ∷ []) (share-pairs c [] ps)

nodes-told : (ys ns : List Node) → nodes_from ys (events_of ns) ≡ ys ++ ns
nodes-told ys [] = sym (append-nil ys)
nodes-told ys (n ∷ ns) = from-append ys (node_events n) (events_of ns)
    ∙ ap (λ xs. nodes_from xs (events_of ns)) (node-told ys n) ∙ nodes-told (ys ++ n ∷ []) ns
    ∙ append_assoc ys (n ∷ []) ns

pub events-tell-nodes : EventsTellNodes
events-tell-nodes ns = nodes-told [] ns
