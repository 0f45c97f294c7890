-- What of nodes is left to be told.
use Rattle.std.proofs.Common.{◌≡◌, ℕ, ℤ, ◌+◌, ◌<◌, ◌≤◌, List, ◌∷◌, length, drop, map, slice_index_or}
use Rattle.std.proofs.Common.{sym, ap, ◌∙◌, suc, arith}
use Rattle.std.proofs.Math.Seq.{drop-cons}
use Rattle.std.proofs.lemmas.List.{drop_all}
use Rattle.obligations.specs.declared.certificates.Node.{Node}
use Rattle.event_checker.specs.Events.{pair_event, node_events, events_of, nodes_from, paired}
use Rattle.event_checker.proofs.NodeLaws.{from-append}

drop_at : {X : Type 0} (xs : List X) (i : ℕ) (d : X) → i < length xs →
    drop i xs ≡ slice_index_or xs i d ∷ drop (i + 1) xs
drop_at xs i d h =
    let next : suc i ≡ i + 1 = omega arith in
    drop-cons xs i d h ∙ ap (λ k. slice_index_or xs i d ∷ drop k xs) next

-- one pair more is told
pub pair-next : (ms : List Node) (ps : List (ℤ × ℕ)) (i : ℕ) (d : ℤ × ℕ) → i < length ps →
    nodes_from (paired ms (slice_index_or ps i d)) (map pair_event (drop (i + 1) ps))
    ≡ nodes_from ms (map pair_event (drop i ps))
pair-next ms ps i d h = ap (λ qs. nodes_from ms (map pair_event qs)) (sym (drop_at ps i d h))

-- all are told
pub pairs-end : (ms : List Node) (ps : List (ℤ × ℕ)) (i : ℕ) → length ps ≤ i →
    nodes_from ms (map pair_event (drop i ps)) ≡ ms
pairs-end ms ps i h = ap (λ qs. nodes_from ms (map pair_event qs)) (drop_all i ps h)

-- one node more is told
pub node-next : (ms ns : List Node) (i : ℕ) (n : Node) → i < length ns → n ≡ slice_index_or ns i n →
    nodes_from (nodes_from ms (node_events n)) (events_of (drop (i + 1) ns)) ≡ nodes_from ms (events_of (drop i ns))
node-next ms ns i n h e =
    sym (from-append ms (node_events n) (events_of (drop (i + 1) ns)))
    ∙ ap (λ xs. nodes_from ms (events_of xs))
    (ap (λ x. x ∷ drop (i + 1) ns) e ∙ sym (drop_at ns i n h))

-- all are told
pub nodes-end : (ms : List Node) (ns : List Node) (i : ℕ) → length ns ≤ i →
    nodes_from ms (events_of (drop i ns)) ≡ ms
nodes-end ms ns i h = ap (λ xs. nodes_from ms (events_of xs)) (drop_all i ns h)
