-- How great the indexes in a certificate are.
use Rattle.std.specs.Prelude.{◌≡◌, ◌≤◌, ℕ, ◌^◌, nat_le, ℤ, Bool, true, ◌&&◌, List, [], Ok}
use Rattle.std.specs.List.{list_all}
use Rattle.obligations.specs.declared.branches.Obligation.{Obligation}
use Rattle.obligations.specs.declared.certificates.Node.{Node}
use Rattle.obligations.specs.Certificates.{node_index, node_pairs, map_or}
use Rattle.obligations.specs.Obligations.{IsObligation}
use Rattle.certificate_rules.specs.Refutation.{walk_from_root}
use Rattle.certificate_rules.specs.Trees.{is_whole}

-- the number of a pair's fact or variable
abbrev pub is_fact_within : ℕ → ℤ × ℕ → Bool
is_fact_within limit p = nat_le p.1 limit

-- the number of a node's formula or variable, and those of its pairs
abbrev pub is_index_within : ℕ → Node → Bool
is_index_within limit n =
    map_or (node_index n) true (λ k. nat_le k limit) && list_all (is_fact_within limit) (node_pairs n)

-- in a whole certificate that refutes the negation of an obligation
abbrev pub IndexesAreSmall : Type 0
IndexesAreSmall = (levels : ℕ) (o : Obligation) (nodes : List Node) → levels ≤ 4096 → IsObligation o →
    is_whole nodes 1 ≡ true → walk_from_root levels o nodes ≡ Ok [] → list_all (is_index_within (2 ^ 62)) nodes ≡ true
