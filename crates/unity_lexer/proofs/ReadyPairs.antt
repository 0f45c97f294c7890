-- A pair that is ready behind a space.
use Rattle.std.proofs.Common.{◌≡◌, ℕ, zero, suc, ◌+◌, ◌-◌, ◌<◌, ◌≤◌, true, List, [], ◌∷◌, ◌++◌, length, take, drop}
use Rattle.std.proofs.Common.{Option, Some, refl, sym, ap, ◌∙◌, subst, arith, slice_index}
use Rattle.std.specs.List.{list_all}
use Rattle.std.proofs.lemmas.List.{length-take-le, length-drop, length-append, drop-append-le, drop-drop}
use Rattle.unity_base.specs.declared.window.Window.{Window}
use Rattle.unity_base.specs.Window.{held, coming, window_bytes, HasDropped, HasPassed}
use Rattle.unity_syntax.specs.declared.token.Token.{Token}
use Rattle.unity_syntax.specs.declared.token.TokenKind.{TokenKind}
use Rattle.unity_syntax.specs.declared.token.TokenKind.TheVariants as kind
use Rattle.case_tables.specs.declared.symbol_table.Symbol.{Symbol}
use Rattle.unity_lexer.specs.declared.piece.Piece.TheVariants as pieces
use Rattle.unity_lexer.specs.declared.pairs.PairTokens.{PairTokens}
use Rattle.unity_lexer.specs.Pieces.{BeginsWith, is_other}
use Rattle.unity_lexer.specs.Pairs.{BeginsPair, ReadsPair}
use Rattle.unity_lexer.specs.Symbols.{symbol_after}
use Rattle.unity_lexer.specs.Tokens.{is_blank, Tokenizes, nothing}
use Rattle.unity_lexer.proofs.Blanks.{reads_blanks}
use Rattle.unity_lexer.proofs.Decided.{decided}
use Rattle.unity_lexer.proofs.Reading.{token_at, reads_token}
use Rattle.unity_lexer.proofs.ReadyTokens.{lone_begins, rest_is}
use Rattle.unity_lexer.proofs.ScanSteps.{dropped_passed}
use Rattle.unity_lexer.proofs.Taking.{shown, shown_fits, shown_inside, dropped_told}

at_drop : (xs : List ℕ) (n : ℕ) → n < length xs → slice_index (drop n xs) 0 ≡ slice_index xs n
at_drop [] n h = absurd (omega arith)
at_drop (x ∷ xs) zero h = refl
at_drop (x ∷ xs) (suc n) h = at_drop xs n (omega (arith, h))

first_blank : (bs more : List ℕ) → 0 < length bs → slice_index bs 0 ≡ 32 →
    list_all is_blank (take 1 (bs ++ more)) ≡ true
first_blank [] more some e = absurd (omega arith)
first_blank (b ∷ bs) more some e = ap (λ b. list_all is_blank (b ∷ [])) e

-- what more bytes begin with, from a place on
begins_at : (bs more : List ℕ) (n m : ℕ) (k : TokenKind) → BeginsWith (drop n bs) (pieces.Token k m)
    → n + m + 2 ≤ length bs → BeginsWith (drop n (bs ++ more)) (pieces.Token k m)
begins_at bs more n m k b room =
    subst (λ t. BeginsWith t (pieces.Token k m)) (sym (drop-append-le n bs more (omega (arith, room))))
    (decided (drop n bs) more (pieces.Token k m) b (omega (arith, room, length-drop n bs)))

-- one token more
read_at : (at : ℕ) (bytes : List ℕ) (ts : List Token) (n m : ℕ) (k : TokenKind)
    → Tokenizes at bytes ts (at + n) (drop n bytes) → BeginsWith (drop n bytes) (pieces.Token k m)
    → Tokenizes at bytes (ts ++ token_at (at + n) m k ∷ []) (at + (n + m)) (drop (n + m) bytes)
read_at at bytes ts n m k reads b =
    let rest = drop n bytes in
    let size : length (take m rest) ≡ m = length-take-le m rest b.0.1 in
    let read = reads_token (take m rest) (drop m rest) k b.1 b.2 reads in
    let place : at + n + m ≡ at + (n + m) = omega arith in
    subst (λ r. Tokenizes at bytes (ts ++ token_at (at + n) m k ∷ []) (at + (n + m)) r) (drop-drop m n bytes)
    (subst (λ p. Tokenizes at bytes (ts ++ token_at (at + n) m k ∷ []) p (drop m rest)) place
    (subst (λ s. Tokenizes at bytes (ts ++ token_at (at + n) s k ∷ []) (at + n + s) (drop m rest)) size read))

-- a star
star_begins : (text : List ℕ) → 0 < length text → slice_index text 0 ≡ 42
    → BeginsWith text (pieces.Token (kind.Symbol Symbol.Times) 1)
star_begins text some is =
    lone_begins text Symbol.Times some (ap is_other is)
    (λ rest. ap (λ b. symbol_after b rest) is ∙ refl)

module _ (w : Window) (p : PairTokens) (m : ℕ) (some : 0 < length (window_bytes w))
    (space : slice_index (window_bytes w) 0 ≡ 32) (pair : BeginsPair (drop 1 (window_bytes w)) p m) where
  abbrev bs : List ℕ
  bs = window_bytes w

  abbrev f : ℕ
  f = pair.first

  abbrev s : ℕ
  s = pair.second

  room : 1 + f + 1 + s + 2 ≤ length bs
  room = omega (arith, pair.room, pair.size_is, length-drop 1 bs)

  pub pair_fits : 1 + m ≤ length (window_bytes w)
  pair_fits = omega (arith, room, pair.size_is)

  pub pair_held : 1 + m ≤ length (held w)
  pair_held = omega (arith, pair_fits, shown_fits w)

  pub pair_inside : w.at + (1 + m) ≤ w.limit
  pair_inside = omega (arith, pair_fits, shown_inside w)

  pub pair_some : 3 ≤ 1 + m
  pair_some = omega (arith, pair.size_is, pair.by.0.0, pair.number.0.0)

  star_at : BeginsWith (drop (1 + f) bs) (pieces.Token (kind.Symbol Symbol.Times) 1)
  star_at =
      subst (λ t. BeginsWith t (pieces.Token (kind.Symbol Symbol.Times) 1)) (drop-drop f 1 bs)
      (star_begins (drop f (drop 1 bs)) (omega (arith, room, length-drop f (drop 1 bs), length-drop 1 bs))
      (at_drop (drop 1 bs) f (omega (arith, room, length-drop 1 bs)) ∙ pair.times))

  second_at : BeginsWith (drop (1 + f + 1) bs) (pieces.Token (kind.Number p.number) s)
  second_at =
      let same : 1 + (f + 1) ≡ 1 + f + 1 = omega arith in
      subst (λ n. BeginsWith (drop n bs) (pieces.Token (kind.Number p.number) s)) same
      (subst (λ t. BeginsWith t (pieces.Token (kind.Number p.number) s)) (drop-drop (f + 1) 1 bs) pair.number)

  module _ (x : Window) (left : Option (List ℕ)) (d : HasDropped w x (1 + m)) where
    pub pair_passed : HasPassed w x left left
    pair_passed = dropped_passed w x left (1 + m) pair_fits d

    module _ (bytes : List ℕ) (e : coming w left ≡ Some bytes) where
      abbrev more : List ℕ
      more = (shown w left bytes e).0

      all : bytes ≡ bs ++ more
      all = (shown w left bytes e).1

      here : (n m : ℕ) (k : TokenKind) → BeginsWith (drop n bs) (pieces.Token k m) → n + m + 2 ≤ length bs
          → BeginsWith (drop n bytes) (pieces.Token k m)
      here n m k b fits =
          subst (λ t. BeginsWith (drop n t) (pieces.Token k m)) (sym all) (begins_at bs more n m k b fits)

      blank_read : Tokenizes w.at bytes [] (w.at + 1) (drop 1 bytes)
      blank_read =
          let long : 1 ≤ length bytes = omega (arith, some, ap length all, length-append bs more) in
          reads_blanks 1 w.at w.at bytes bytes [] long
          (subst (λ t. list_all is_blank (take 1 t) ≡ true) (sym all) (first_blank bs more some space)) nothing

      one : Tokenizes w.at bytes (token_at (w.at + 1) f (kind.Number p.by) ∷ []) (w.at + (1 + f)) (drop (1 + f) bytes)
      one =
          read_at w.at bytes [] 1 f (kind.Number p.by) blank_read
          (here 1 f (kind.Number p.by) pair.by (omega (arith, room)))

      two : Tokenizes w.at bytes (token_at (w.at + 1) f (kind.Number p.by)
          ∷ token_at (w.at + (1 + f)) 1 (kind.Symbol Symbol.Times) ∷ []) (w.at + (1 + f + 1)) (drop (1 + f + 1) bytes)
      two =
          read_at w.at bytes (token_at (w.at + 1) f (kind.Number p.by) ∷ []) (1 + f) 1 (kind.Symbol Symbol.Times) one
          (here (1 + f) 1 (kind.Symbol Symbol.Times) star_at (omega (arith, room)))

      three : Tokenizes w.at bytes (token_at (w.at + 1) f (kind.Number p.by)
          ∷ token_at (w.at + (1 + f)) 1 (kind.Symbol Symbol.Times)
          ∷ token_at (w.at + (1 + f + 1)) s (kind.Number p.number) ∷ [])
          (w.at + (1 + f + 1 + s)) (drop (1 + f + 1 + s) bytes)
      three =
          read_at w.at bytes (token_at (w.at + 1) f (kind.Number p.by)
          ∷ token_at (w.at + (1 + f)) 1 (kind.Symbol Symbol.Times) ∷ []) (1 + f + 1) s (kind.Number p.number) two
          (here (1 + f + 1) s (kind.Number p.number) second_at (omega (arith, room)))

      pub pair_reads : ReadsPair w.at bytes p x.at (coming x left)
      pair_reads =
          let size : 1 + f + 1 + s ≡ 1 + m = omega (arith, pair.size_is) in
          let moved = d.at in
          let place : w.at + (1 + f + 1 + s) ≡ x.at = omega (arith, size) in record {
            by = token_at (w.at + 1) f (kind.Number p.by);
            times = token_at (w.at + (1 + f)) 1 (kind.Symbol Symbol.Times);
            number = token_at (w.at + (1 + f + 1)) s (kind.Number p.number);
            reads = record {
              rest = drop (1 + f + 1 + s) bytes;
              reads = subst (λ n. Tokenizes w.at bytes (token_at (w.at + 1) f (kind.Number p.by)
                  ∷ token_at (w.at + (1 + f)) 1 (kind.Symbol Symbol.Times)
                  ∷ token_at (w.at + (1 + f + 1)) s (kind.Number p.number) ∷ []) n (drop (1 + f + 1 + s) bytes))
                  place three;
              told =
                  dropped_told w x left (1 + m) bytes d pair_held e
                  ∙ ap (λ n. Some (drop n bytes)) (sym size);
            };
            by_is = refl;
            times_is = refl;
            number_is = refl;
          }

-- as the code has the bytes
module _ (w : Window) (bs : List ℕ) (p : PairTokens) (m : ℕ) (is : bs ≡ window_bytes w) (some : 0 < length bs)
    (space : slice_index bs 0 ≡ 32) (pair : BeginsPair (take (length bs - 1) (drop 1 bs)) p m) where
  some_held : 0 < length (window_bytes w)
  some_held = subst (λ bs. 0 < length bs) is some

  space_held : slice_index (window_bytes w) 0 ≡ 32
  space_held = subst (λ bs. slice_index bs 0 ≡ 32) is space

  pair_of : BeginsPair (drop 1 (window_bytes w)) p m
  pair_of = subst (λ bs. BeginsPair (drop 1 bs) p m) is (subst (λ t. BeginsPair t p m) (rest_is bs 1) pair)

  module _ (x : Window) (left : Option (List ℕ)) (d : HasDropped w x (1 + m)) where
    pub next_passed : HasPassed w x left left
    next_passed = pair_passed w p m some_held space_held pair_of x left d

    pub next_reads : (bytes : List ℕ) → coming w left ≡ Some bytes → ReadsPair w.at bytes p x.at (coming x left)
    next_reads bytes e = pair_reads w p m some_held space_held pair_of x left d bytes e
