-- The names of a front are those of the whole text.
use Rattle.std.proofs.Common.{◌≡◌, ℕ, ◌+◌, ◌-◌, ◌≤◌, Bool, List, [], ◌∷◌, take, drop, refl, ap}
use Rattle.std.proofs.Common.{◌∙◌, arith}
use Rattle.std.specs.Prelude.{slice_range}
use Rattle.std.proofs.lemmas.List.{take-take, drop-take}
use Rattle.unity_syntax.specs.declared.token.Token.{Token}
use Rattle.unity_syntax.specs.declared.token.TokenKind.{TokenKind}
use Rattle.unity_syntax.specs.Classes.{text_of, terminal, terminals}
use Rattle.unity_lexer.specs.Tokens.{AreInOrder}
use Rattle.unity_parser.specs.Fronts.{NamesStay}

-- a part that ends at the cut or before it
part_stays : (bytes : List ℕ) (cut start end : ℕ) → start ≤ end → end ≤ cut
    → slice_range (take cut bytes) start end ≡ slice_range bytes start end
part_stays bytes cut start end ordered inside =
    let cut_is : cut ≡ start + (cut - start) = omega arith in
    let short : end - start ≤ cut - start = omega arith in
    ap (λ n. take (end - start) (drop start (take n bytes))) cut_is
    ∙ ap (take (end - start)) (drop-take start (cut - start) bytes)
    ∙ take-take (end - start) (cut - start) (drop start bytes) short

text_stays : (bytes : List ℕ) (cut start end : ℕ) (k : TokenKind) → start ≤ end → end ≤ cut
    → text_of (take cut bytes) start end k ≡ text_of bytes start end k
text_stays bytes cut start end TokenKind.Word ordered inside = part_stays bytes cut start end ordered inside
text_stays bytes cut start end (TokenKind.Number n) ordered inside = refl
text_stays bytes cut start end (TokenKind.Reserved w) ordered inside = refl
text_stays bytes cut start end (TokenKind.Symbol s) ordered inside = refl

ends_inside : (from to : ℕ) (ts : List Token) → AreInOrder from to ts → from ≤ to
ends_inside from to [] h = h
ends_inside from to (t ∷ ts) h = let rest = ends_inside t.end to ts h.2 in omega (arith, h.0, h.1, rest)

stays_from : (later : Bool) (bytes : List ℕ) (from cut : ℕ) (ts : List Token) → AreInOrder from cut ts
    → terminals later (take cut bytes) ts ≡ terminals later bytes ts
stays_from later bytes from cut [] h = refl
stays_from later bytes from cut (t ∷ ts) h =
    let text = text_stays bytes cut t.start t.end t.kind (omega (arith, h.1)) (ends_inside t.end cut ts h.2) in
    let one : terminal later (take cut bytes) t ≡ terminal later bytes t =
    ap (λ text. record {
      class = (terminal later bytes t).class;
      place = t.start;
      value = (terminal later bytes t).value;
      text = text;
    }) text in
    let rest = stays_from later bytes t.end cut ts h.2 in
    (λ i. one i ∷ rest i)

pub names_stay : NamesStay
names_stay later bytes cut ts h = stays_from later bytes 0 cut ts h
