-- What the bytes to come begin with, by those that are held.
use Rattle.std.proofs.Common.{◌≡◌, ℕ, ◌+◌, ◌<◌, ◌≤◌, Bool, true, false, List, [], ◌∷◌, ◌++◌, length, take, drop}
use Rattle.std.proofs.Common.{Option, Some, refl, sym, ap, ◌∙◌, subst, arith, append_assoc}
use Rattle.std.specs.Io.KnownBytes.{IsAtEnd}
use Rattle.std.proofs.lemmas.List.{length-append, append-nil, take-append-drop, length-take-le}
use Rattle.unity_base.specs.declared.window.Window.{Window}
use Rattle.unity_base.specs.Window.{held, coming, window_at, window_limit, window_bytes}
use Rattle.unity_syntax.specs.declared.token.TokenKind.{TokenKind}
use Rattle.unity_lexer.specs.declared.piece.Piece.{Piece}
use Rattle.unity_lexer.specs.declared.piece.Piece.TheVariants as pieces
use Rattle.unity_lexer.specs.declared.ahead.Next.{Next}
use Rattle.unity_lexer.specs.declared.ahead.Next.TheVariants as next
use Rattle.unity_lexer.specs.Pieces.{BeginsWith}
use Rattle.unity_lexer.specs.Windows.{piece_size, IsDecided, Comes, IsAhead, IsHeld}
use Rattle.unity_lexer.proofs.Decided.{decided}
use Rattle.unity_lexer.proofs.LongPieces.{long_word, long_gap, value_small}
use Rattle.unity_lexer.proofs.Taking.{known, shown, all_shown}

-- ---- a piece that fills the window

pub comment_ahead : (text more : List ℕ) (n : ℕ) → BeginsWith text (pieces.Gap n) → length text < n + 2
    → length text ≡ 65536 → (rest : List ℕ) × (text ++ more ≡ 35 ∷ rest)
comment_ahead text more n begins open_piece full =
    let size : length (take n text) ≡ n = length-take-le n text begins.0.1 in
    let found = long_gap (drop n text) begins.1 (omega arith) in
    let whole : text ≡ take n text ++ drop n text = sym (take-append-drop n text) in
    (found.0 ++ drop n text ++ more, ap (λ t. t ++ more) (whole ∙ ap (λ t. t ++ drop n text) found.1))

pub word_ahead : (limit at : ℕ) (text more : List ℕ) (k : TokenKind) (n : ℕ) → BeginsWith text (pieces.Token k n)
    → length text < n + 2 → length text ≡ 65536 → Comes limit at (text ++ more) next.Word
word_ahead limit at text more k n begins open_piece full =
    let size : length (take n text) ≡ n = length-take-le n text begins.0.1 in (
      take n text,
      drop n text ++ more,
      ap (λ t. t ++ more) (sym (take-append-drop n text)) ∙ append_assoc (take n text) (drop n text) more,
      long_word (take n text) k begins.2 (omega arith),
      omega arith,
    )

-- ---- what the window holds

pub piece_held : (w : Window) (left : Option (List ℕ)) (p : Piece) → BeginsWith (window_bytes w) p
    → IsHeld w left (next.Piece p)
piece_held w left (pieces.Gap n) begins = begins.0
piece_held w left (pieces.Token k n) begins =
    ((value_small (take n (window_bytes w)) k begins.2, begins.0.0), begins.0.1)
piece_held w left (pieces.Fault c) begins = tt

pub long_ahead : (w : Window) (left : Option (List ℕ)) → w.limit < w.at + length (held w) → IsAhead w left next.TooLong
long_ahead w left past = λ bytes e.
    let told = known (held w) left bytes e in
    omega (arith, ap length told.2, length-append (held w) told.0)

-- a piece that two more bytes stand after
pub decided_ahead : (w : Window) (left : Option (List ℕ)) (p : Piece) → BeginsWith (window_bytes w) p
    → IsDecided (window_bytes w) p → IsAhead w left (next.Piece p)
decided_ahead w left p begins room = λ bytes e.
    let told = shown w left bytes e in
    subst (λ t. BeginsWith t p) (sym told.1) (decided (window_bytes w) told.0 p begins room)

-- at the end what is held is all that comes
pub last_bytes : (w : Window) (left : Option (List ℕ)) (bytes : List ℕ) → coming w left ≡ Some bytes → IsAtEnd left
    → bytes ≡ held w
last_bytes w left bytes e end =
    let told = known (held w) left bytes e in
    let none : told.0 ≡ [] = subst IsAtEnd told.1 end in
    told.2 ∙ ap (λ t. held w ++ t) none ∙ append-nil (held w)

pub last_ahead : (w : Window) (left : Option (List ℕ)) (p : Piece) → BeginsWith (window_bytes w) p
    → w.at + length (held w) ≤ w.limit → IsAtEnd left → IsAhead w left (next.Piece p)
last_ahead w left p begins inside end = λ bytes e.
    subst (λ t. BeginsWith t p) (all_shown w inside ∙ sym (last_bytes w left bytes e end)) begins

pub more_ahead : (w : Window) (left : Option (List ℕ)) (n : Next)
    → ((limit at : ℕ) (more : List ℕ) → Comes limit at (window_bytes w ++ more) n) → IsAhead w left n
more_ahead w left n comes = λ bytes e.
    let told = shown w left bytes e in
    subst (λ t. Comes (window_limit w) (window_at w) t n) (sym told.1) (comes (window_limit w) (window_at w) told.0)

-- ---- where nothing may be looked at

pub none_held : (w : Window) → window_bytes w ≡ [] → w.at + length (held w) ≤ w.limit → held w ≡ []
none_held w none inside = sym (all_shown w inside) ∙ none

pub not_full : (w : Window) (full : Bool) → (full ≡ true → length (held w) ≡ 65536) → held w ≡ [] → full ≡ false
not_full w false h none = refl
not_full w true h none = absurd (omega (arith, h refl, ap length none))

pub end_ahead : (w : Window) (left : Option (List ℕ)) → held w ≡ [] → IsAtEnd left → IsAhead w left next.End
end_ahead w left none end = λ bytes e. last_bytes w left bytes e end ∙ none

-- ---- as the code has the bytes

pub decided_at : (w : Window) (left : Option (List ℕ)) (p : Piece) (bytes : List ℕ) → bytes ≡ window_bytes w
    → BeginsWith bytes p → piece_size p + 2 ≤ length bytes → IsAhead w left (next.Piece p)
decided_at w left p bytes e begins room = decided_ahead w left p (subst (λ t. BeginsWith t p) e begins)
    (subst (λ t. IsDecided t p) e room)

pub more_at : (w : Window) (left : Option (List ℕ)) (n : Next) (bytes : List ℕ) → bytes ≡ window_bytes w
    → ((limit at : ℕ) (more : List ℕ) → Comes limit at (bytes ++ more) n) → IsAhead w left n
more_at w left n bytes e comes = more_ahead w left n
    (subst (λ t. (limit at : ℕ) (more : List ℕ) → Comes limit at (t ++ more) n) e comes)
