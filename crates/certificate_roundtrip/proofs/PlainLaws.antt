-- A certificate that a search can write and that refutes has small numbers, and only nodes that a text of version 2
-- has, or where it is plain, of each version.
use Rattle.std.proofs.Common.{◌≡◌, ℕ, ◌^◌, ℤ, Bool, true, ◌&&◌, List, [], ◌∷◌, refl, ap, ◌∙◌}
use Rattle.std.specs.Int.RustNames.{unsigned_abs}
use Rattle.std.specs.List.{list_all}
use Rattle.std.proofs.lemmas.Bool.{and_parts}
use Rattle.std.proofs.lemmas.List.Elements.{All-weaker}
use Rattle.obligations.specs.declared.certificates.Cert.{Cert}
use Rattle.obligations.specs.declared.certificates.Node.{Node}
use Rattle.obligations.specs.Certificates.{node_index, node_number, node_pairs, map_or}
use Rattle.linear_prover.specs.Chains.{is_plain_node, is_plain_number, is_plain_pair}
use Rattle.search_tree.specs.Searching.{is_found_node}
use Rattle.certificate_rules.specs.Indexes.{is_fact_within, is_index_within}
use Rattle.certificate_rules.proofs.IndexLaws.{indexes_are_small}
use Rattle.proof_script.specs.Proving.{AreFound, ArePlain}
use Rattle.certificate_roundtrip.specs.Pieces.{is_node_of}
use Rattle.certificate_roundtrip.specs.SectionLaws.{RefutingIsSmall}
use Rattle.certificate_roundtrip.specs.DocumentLaws.{AreNodesOf}
use Rattle.certificate_roundtrip.specs.Small.{is_text_number, is_small_node, is_small_pair}

both : (a b : Bool) → a ≡ true → b ≡ true → (a && b) ≡ true
both a b p q = ap (λ x. x && b) p ∙ q

small_pairs : (ps : List (ℤ × ℕ)) → list_all is_plain_pair ps ≡ true →
    list_all (is_fact_within (2 ^ 62)) ps ≡ true → list_all is_small_pair ps ≡ true
small_pairs [] h k = refl
small_pairs (p ∷ ps) h k =
    let plain = and_parts (is_plain_pair p) (list_all is_plain_pair ps) h in
    let there = and_parts (is_fact_within (2 ^ 62) p) (list_all (is_fact_within (2 ^ 62)) ps) k in
    both (is_small_pair p) (list_all is_small_pair ps)
    (both (is_text_number (unsigned_abs p.0)) (is_text_number p.1) plain.0 there.0) (small_pairs ps plain.1 there.1)

-- the number and the multipliers of a node that a search can write are plain
found_parts : (n : Node) → is_found_node n ≡ true →
    (map_or (node_number n) true is_plain_number ≡ true) × (list_all is_plain_pair (node_pairs n) ≡ true)
found_parts (Node.Case j) h = (refl, refl)
found_parts (Node.Split v z) h = (h, refl)
found_parts (Node.Sum ps) h = (refl, h)
found_parts (Node.Quot k) h = (refl, refl)
found_parts (Node.Share c ps) h = absurd cc
found_parts (Node.Round d ps) h = and_parts (is_plain_number d) (list_all is_plain_pair ps) h

small_node : (n : Node) → is_found_node n ≡ true → is_index_within (2 ^ 62) n ≡ true → is_small_node n ≡ true
small_node n h k =
    let index : Bool = map_or (node_index n) true is_text_number in
    let number : Bool = map_or (node_number n) true is_plain_number in
    let plain = found_parts n h in
    let there = and_parts index (list_all (is_fact_within (2 ^ 62)) (node_pairs n)) k in
    both index (number && list_all is_small_pair (node_pairs n)) there.0
    (both number (list_all is_small_pair (node_pairs n)) plain.0 (small_pairs (node_pairs n) plain.1 there.1))

small_nodes : (ns : List Node) → list_all is_found_node ns ≡ true → list_all (is_index_within (2 ^ 62)) ns ≡ true →
    list_all is_small_node ns ≡ true
small_nodes [] h k = refl
small_nodes (n ∷ ns) h k =
    let plain = and_parts (is_found_node n) (list_all is_found_node ns) h in
    let there = and_parts (is_index_within (2 ^ 62) n) (list_all (is_index_within (2 ^ 62)) ns) k in
    both (is_small_node n) (list_all is_small_node ns) (small_node n plain.0 there.0)
    (small_nodes ns plain.1 there.1)

-- a text of version 2 has its nodes
found_node_of : (n : Node) → is_found_node n ≡ true → is_node_of true n ≡ true
found_node_of (Node.Case j) h = refl
found_node_of (Node.Split v z) h = refl
found_node_of (Node.Sum ps) h = refl
found_node_of (Node.Round d ps) h = refl
found_node_of (Node.Quot k) h = refl
found_node_of (Node.Share c ps) h = absurd cc

found_nodes_of : (ns : List Node) → list_all is_found_node ns ≡ true → list_all (is_node_of true) ns ≡ true
found_nodes_of [] h = refl
found_nodes_of (n ∷ ns) h =
    let found = and_parts (is_found_node n) (list_all is_found_node ns) h in
    both (is_node_of true n) (list_all (is_node_of true) ns) (found_node_of n found.0) (found_nodes_of ns found.1)

pub found_are_nodes_of : (certs : List Cert) → AreFound certs → AreNodesOf true certs
found_are_nodes_of certs found =
    All-weaker (λ (c : Cert). list_all is_found_node c.nodes ≡ true)
    (λ (c : Cert). list_all (is_node_of true) c.nodes ≡ true) (λ c h. found_nodes_of c.nodes h) certs found

-- a text of each version has its nodes, where it is plain
plain_node_of : (later : Bool) (n : Node) → is_plain_node n ≡ true → is_node_of later n ≡ true
plain_node_of later (Node.Case j) h = refl
plain_node_of later (Node.Split v z) h = refl
plain_node_of later (Node.Sum ps) h = refl
plain_node_of later (Node.Round d ps) h = refl
plain_node_of later (Node.Quot k) h = absurd cc
plain_node_of later (Node.Share c ps) h = absurd cc

plain_nodes_of : (later : Bool) (ns : List Node) → list_all is_plain_node ns ≡ true →
    list_all (is_node_of later) ns ≡ true
plain_nodes_of later [] h = refl
plain_nodes_of later (n ∷ ns) h =
    let plain = and_parts (is_plain_node n) (list_all is_plain_node ns) h in
    both (is_node_of later n) (list_all (is_node_of later) ns) (plain_node_of later n plain.0)
    (plain_nodes_of later ns plain.1)

pub plain_are_nodes_of : (later : Bool) (certs : List Cert) → ArePlain certs → AreNodesOf later certs
plain_are_nodes_of later certs plain =
    All-weaker (λ (c : Cert). list_all is_plain_node c.nodes ≡ true)
    (λ (c : Cert). list_all (is_node_of later) c.nodes ≡ true) (λ c h. plain_nodes_of later c.nodes h) certs plain

pub refuting_is_small : RefutingIsSmall
refuting_is_small levels o c few is whole refutes found =
    small_nodes c.nodes found (indexes_are_small levels o c.nodes few is whole refutes)
