-- The pieces of which the certificates section is written, and its tokens.
use Rattle.std.specs.Prelude.{ℕ, suc, ◌+◌, ◌^◌, nat_le, ℤ, pos, negsuc, Bool, true, not, ◌&&◌, List, [], ◌∷◌, ◌++◌}
use Rattle.std.specs.Prelude.{length, codes, decimal}
use Rattle.std.specs.Prelude.{Option, Some, None}
use Rattle.std.specs.List.{flat_map}
use Rattle.case_tables.specs.declared.symbol_table.Symbol.{Symbol}
use Rattle.case_tables.specs.declared.word_table.Word.{Word}
use Rattle.unity_syntax.specs.declared.token.Token.{Token}
use Rattle.unity_syntax.specs.declared.token.TokenKind.{TokenKind}
use Rattle.unity_syntax.specs.Classes.{is_later}
use Rattle.obligations.specs.declared.certificates.Cert.{Cert}
use Rattle.obligations.specs.declared.certificates.Node.{Node}
use Rattle.obligations.specs.Certificates.{node_index, node_number, node_pairs, map_or}

-- bytes with the token that they spell; a blank spells none
pub record Piece : Type 0 where
  pub bytes : List ℕ
  pub token : Option TokenKind

abbrev pub gap : ℕ → Piece
gap b = record { bytes = b ∷ []; token = None }

abbrev pub word : List ℕ → Word → Piece
word w r = record { bytes = w; token = Some (TokenKind.Reserved r) }

abbrev pub sign : ℕ → Symbol → Piece
sign b s = record { bytes = b ∷ []; token = Some (TokenKind.Symbol s) }

abbrev pub number : ℕ → Piece
number n = record { bytes = decimal n; token = Some (TokenKind.Number n) }

abbrev pub signed : ℤ → List Piece
signed (pos n) = number n ∷ []
signed (negsuc n) = sign 45 Symbol.Minus ∷ number (suc n) ∷ []

abbrev pub pair_pieces : ℤ × ℕ → List Piece
pair_pieces p = gap 32 ∷ (signed p.0 ++ (sign 42 Symbol.Times ∷ number p.1 ∷ []))

abbrev pub index_pieces : ℕ → List Piece
index_pieces k = gap 32 ∷ number k ∷ []

abbrev pub number_pieces : ℤ → List Piece
number_pieces z = gap 32 ∷ signed z

-- a node's index, its number and its pairs, as far as it has them
abbrev pub part_pieces : Node → List Piece
part_pieces n =
    map_or (node_index n) [] index_pieces
    ++ (map_or (node_number n) [] number_pieces ++ flat_map pair_pieces (node_pairs n))

-- the word before them
abbrev pub node_word : Node → List ℕ × Word
node_word (Node.Case k) = (codes "case", Word.Case)
node_word (Node.Split v k) = (codes "split", Word.Split)
node_word (Node.Sum ps) = (codes "sum", Word.Sum)
node_word (Node.Round d ps) = (codes "round", Word.Round)
node_word (Node.Quot k) = (codes "quot", Word.Quot)
node_word (Node.Share c ps) = (codes "share", Word.Share)

-- a node that a text has, where `later` says whether it is of version 2: only then it has `quot` and `share`
abbrev pub is_node_of : Bool → Node → Bool
is_node_of later n = not (is_later (node_word n).1 && not later)

abbrev pub node_pieces : Node → List Piece
node_pieces n = gap 32 ∷ word (node_word n).0 (node_word n).1 ∷ part_pieces n

abbrev pub line_pieces : ℕ → Cert → List Piece
line_pieces n c =
    number n ∷ sign 58 Symbol.Colon ∷ (flat_map node_pieces c.nodes ++ (sign 59 Symbol.Semicolon ∷ gap 10 ∷ []))

abbrev pub lines_pieces : ℕ → List Cert → List Piece
lines_pieces n [] = []
lines_pieces n (c ∷ cs) = line_pieces n c ++ lines_pieces (suc n) cs

abbrev pub section_pieces : List Cert → List Piece
section_pieces certs =
    word (codes "certificates") Word.Certificates ∷ gap 10 ∷ (lines_pieces 1 certs
    ++ (word (codes "end") Word.End ∷ gap 10 ∷ []))

abbrev pub text_of : List Piece → List ℕ
text_of ps = flat_map (λ (p : Piece). p.bytes) ps

abbrev pub with_token : ℕ → List ℕ → Option TokenKind → List Token → List Token
with_token at bytes None rest = rest
with_token at bytes (Some k) rest = record { kind = k; start = at; end = at + length bytes } ∷ rest

-- the tokens of pieces, the first of which begins at this place
abbrev pub tokens_from : ℕ → List Piece → List Token
tokens_from at [] = []
tokens_from at (p ∷ ps) = with_token at p.bytes p.token (tokens_from (at + length p.bytes) ps)

-- a number that can be read
abbrev pub is_readable_token : Option TokenKind → Bool
is_readable_token (Some (TokenKind.Number n)) = nat_le n (2 ^ 62)
is_readable_token _ = true

abbrev pub is_readable : Piece → Bool
is_readable p = is_readable_token p.token
