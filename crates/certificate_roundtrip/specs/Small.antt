-- Certificates whose numbers can be read.
use Rattle.std.specs.Prelude.{◌≡◌, ℕ, ◌^◌, nat_le, ℤ, Bool, true, ◌&&◌}
use Rattle.std.specs.Int.RustNames.{unsigned_abs}
use Rattle.std.specs.List.{list_all}
use Rattle.obligations.specs.declared.certificates.Cert.{Cert}
use Rattle.obligations.specs.declared.certificates.Node.{Node}
use Rattle.obligations.specs.Certificates.{node_index, node_number, node_pairs, map_or}

-- the greatest number of a text is 2^62
abbrev pub is_text_number : ℕ → Bool
is_text_number n = nat_le n (2 ^ 62)

abbrev pub is_small_pair : ℤ × ℕ → Bool
is_small_pair p = is_text_number (unsigned_abs p.0) && is_text_number p.1

-- no number of the node is outside plus or minus that
abbrev pub is_small_node : Node → Bool
is_small_node n =
    map_or (node_index n) true is_text_number
    && (map_or (node_number n) true (λ z. is_text_number (unsigned_abs z)) && list_all is_small_pair (node_pairs n))

-- nor one of the certificate
abbrev pub IsSmallCertificate : Cert → Type 0
IsSmallCertificate c = list_all is_small_node c.nodes ≡ true
