-- What is kept of a front, piece by piece, and what it is found to be.
use Rattle.std.proofs.Common.{◌≡◌, ℕ, ◌+◌, ◌^◌, ◌<◌, ◌≤◌, List, [], ◌∷◌, ◌++◌, length, take, drop, Option, Some, sym}
use Rattle.std.proofs.Common.{ap, ◌∙◌, subst, arith, ◌↔◌, Bool, true, false, ◌⊎◌, inl, inr, Result, Ok, Err}
use Rattle.std.specs.Prelude.{All}
use Rattle.std.proofs.lemmas.List.{take_at, drop_at}
use Rattle.std.proofs.lemmas.List.Elements.{All-push}
use Rattle.std.proofs.Math.Seq.{take-length}
use Rattle.unity_base.specs.declared.window.Window.{Window}
use Rattle.unity_base.specs.Window.{held, coming, window_bytes, HasRead, HasDropped}
use Rattle.unity_base.specs.Window.{PassesLimit}
use Rattle.unity_base.specs.Streams.{IsTold}
use Rattle.unity_syntax.specs.declared.token.Token.{Token}
use Rattle.unity_syntax.specs.declared.token.TokenKind.{TokenKind}
use Rattle.unity_syntax.specs.declared.token.TokenKind.TheVariants as kind
use Rattle.case_tables.specs.declared.code_table.Code.{Code}
use Rattle.unity_lexer.specs.declared.piece.Piece.TheVariants as pieces
use Rattle.unity_lexer.specs.declared.ahead.Next.TheVariants as next
use Rattle.unity_lexer.specs.declared.front.Front.{Front}
use Rattle.unity_lexer.specs.declared.front.FrontError.{FrontError}
use Rattle.unity_lexer.specs.declared.front.FrontError.TheVariants as error
use Rattle.unity_syntax.specs.Classes.{value_of}
use Rattle.unity_lexer.specs.Tokens.{Tokenizes, FirstBad, AreInOrder}
use Rattle.unity_lexer.specs.Windows.{IsAhead, HasTaken, HasGiven, IsStop}
use Rattle.unity_lexer.specs.Scans.{section_kind, IsNoSection, IsCut, IsWhole, IsFrontError, IsSmall}
use Rattle.unity_lexer.proofs.ScanSteps.{Reading, start_reading, token_reading, too_long}
use Rattle.unity_lexer.proofs.SomeAnswer.{reads_place}
use Rattle.unity_lexer.proofs.Taking.{consumed_told, taken_none, taken_read, taken_then, taken_front, shown_fits}

-- ---- what is kept

-- read, and then kept
pub turn_taken : (u v w x : Window) (a b c : Option (List ℕ)) (n : ℕ) (kept now : List ℕ) → HasTaken u v a b kept
    → HasRead v w b c → n ≤ length (window_bytes w) → HasDropped w x n → now ≡ kept ++ take n (held w)
    → HasTaken u x a c now
turn_taken u v w x a b c n kept now t q fits d e =
    subst (λ xs. HasTaken u x a c xs) (sym e)
    (taken_then u w x a c c kept (take n (held w)) (taken_read u v w a b c kept t q)
    (taken_front w x c n d (omega (arith, fits, shown_fits w))))

pub given_taken : (u v w x : Window) (a b c d : Option (List ℕ)) (kept now : List ℕ) → HasTaken u v a b kept
    → HasRead v w b c → HasGiven w x c d kept now → HasTaken u x a d now
given_taken u v w x a b c d kept now t q h =
    subst (λ xs. HasTaken u x a d xs) (sym h.appended)
    (taken_then u w x a c d kept h.dropped (taken_read u v w a b c kept t q) h.taken)

-- ---- what is found

module _ (u w x : Window) (a c : Option (List ℕ)) (ts : List Token) (kept : List ℕ) (first : u.at ≡ 0)
    (r : Reading u a ts w c) (t : HasTaken u w a c kept) where
  -- the bytes that are kept are all those before the place
  module _ (bytes : List ℕ) (e : coming u a ≡ Some bytes) where
    size : w.at ≡ length kept
    size = let moved = t.at in omega arith

    kept_front : kept ≡ take w.at bytes
    kept_front =
        let told = consumed_told _ _ kept bytes t.consumes e in
        sym (ap (take w.at) told.2 ∙ take_at kept told.0 w.at (sym size))

    from_first : {ts : List Token} {end : ℕ} {rest : List ℕ} → Tokenizes u.at bytes ts end rest
        → Tokenizes 0 bytes ts end rest
    from_first {ts} {end} {rest} reads = subst (λ n. Tokenizes n bytes ts end rest) first reads

    -- behind the word
    pub cut_front : (f : Front) (k : TokenKind) (n : ℕ) → f.tokens ≡ ts → f.bytes.items ≡ kept → k ≡ section_kind
        → n ≤ length (window_bytes w) → HasDropped w x n → HasTaken u x a c (kept ++ take n (held w))
        → IsAhead w c (next.Piece (pieces.Token k n)) → IsCut bytes f (coming x c) w.at x.at
    cut_front f k n tokens_are bytes_are is fits dropped all ahead =
        let now = token_reading u w x a c c ts r k n fits dropped ahead bytes e in
        let told = consumed_told _ _ (kept ++ take n (held w)) bytes all.consumes e in
        let moved = all.at in
        let place : length (kept ++ take n (held w)) ≡ x.at = omega arith in
        let behind : drop x.at bytes ≡ told.0 =
        ap (drop x.at) told.2 ∙ drop_at (kept ++ take n (held w)) told.0 x.at place in
        let same : ◌≡◌ {A = Option (List ℕ)} (Some now.rest) (Some told.0) = sym now.told ∙ told.1 in
        let rest_is : now.rest ≡ drop x.at bytes = let p : now.rest ≡ told.0 = cc in p ∙ sym behind in (
          subst (λ rest. Tokenizes 0 bytes (f.tokens ++ record { kind = section_kind; start = w.at; end = x.at } ∷ [])
              x.at rest) rest_is
              (subst (λ ts. Tokenizes 0 bytes (ts ++ record { kind = section_kind; start = w.at; end = x.at } ∷ [])
              x.at now.rest) (sym tokens_are)
              (subst (λ k. Tokenizes 0 bytes (ts ++ record { kind = k; start = w.at; end = x.at } ∷ []) x.at now.rest)
              is
              (subst (λ m. Tokenizes 0 bytes (ts ++ record { kind = k; start = w.at; end = m } ∷ []) x.at now.rest)
              (sym dropped.at) (from_first now.reads)))),
          bytes_are ∙ kept_front,
          told.1 ∙ ap (λ t. Some t) (sym behind),
        )

    pub section_front : (f : Front) (k : TokenKind) (n cut : ℕ) → cut ≡ w.at → f.tokens ≡ ts → f.bytes.items ≡ kept
        → k ≡ section_kind → n ≤ length (window_bytes w) → HasDropped w x n
        → HasTaken u x a c (kept ++ take n (held w)) → IsAhead w c (next.Piece (pieces.Token k n))
        → IsCut bytes f (coming x c) cut x.at
    section_front f k n cut is_cut tokens_are bytes_are is fits dropped all ahead =
        subst (λ m. IsCut bytes f (coming x c) m x.at) (sym is_cut)
        (cut_front f k n tokens_are bytes_are is fits dropped all ahead)

    -- at the end
    pub whole_front : (f : Front) → f.tokens ≡ ts → f.bytes.items ≡ kept → u.limit ≡ w.limit → IsAhead w c next.End
        → IsWhole u.limit bytes f (coming w c)
    whole_front f tokens_are bytes_are limit ahead =
        let now = r bytes e in
        let none : now.rest ≡ [] = ahead now.rest now.told in
        let told = consumed_told _ _ kept bytes t.consumes e in
        let place : w.at ≡ length bytes = omega (arith, reads_place now.reads, ap length none, first) in
        let all : kept ≡ bytes = kept_front ∙ ap (λ n. take n bytes) place ∙ take-length bytes in
        let inside = w.in_limit in (
          subst (λ ts. Tokenizes 0 bytes ts (length bytes) []) (sym tokens_are)
              (subst (λ n. Tokenizes 0 bytes ts n []) place
              (subst (λ rest. Tokenizes 0 bytes ts w.at rest) none (from_first now.reads))),
          bytes_are ∙ all,
          now.told ∙ ap (λ t. Some t) none,
          omega arith,
        )

    pub fault_front : (code : Code) → IsAhead w c (next.Piece (pieces.Fault code)) → FirstBad bytes code w.at
    fault_front code ahead =
        let now = r bytes e in
        record { tokens = ts; rest = now.rest; reads = from_first now.reads; faulty = ahead now.rest now.told }

    pub long_front : u.limit ≡ w.limit → IsAhead w c next.TooLong → u.limit < length bytes
    long_front limit ahead =
        let past = too_long u w w a c c ts r ahead (sym limit) bytes e in
        omega arith

    -- what stopped a comment or a word
    pub stop_front : u.limit ≡ w.limit → (stop : FrontError) → IsStop w (coming w c) stop
        → IsFrontError u.limit bytes stop
    stop_front limit (error.Fault code place) h = absurd h
    stop_front limit error.TooLong h =
        let now = r bytes e in
        let past : w.limit < w.at + length now.rest = subst (PassesLimit w) now.told h in
        omega (arith, past, reads_place now.reads)
    stop_front limit error.Failed h = tt
    stop_front limit error.Memory h = tt

-- ---- where nothing was read

pub start_taken : (u : Window) (a : Option (List ℕ)) (kept : List ℕ) → kept ≡ [] → HasTaken u u a a kept
start_taken u a kept none = subst (λ xs. HasTaken u u a a xs) (sym none) (taken_none u a)

pub start_tokens : (u : Window) (a : Option (List ℕ)) (ts : List Token) → ts ≡ [] → Reading u a ts u a
start_tokens u a ts none = subst (λ xs. Reading u a xs u a) (sym none) (start_reading u a)

pub start_none : (ts : List Token) → ts ≡ [] → All IsNoSection ts
start_none ts none = λ k d l. absurd (omega (arith, l, ap length none))

-- ---- as the code has it

pub pushed : (u x : Window) (a c : Option (List ℕ)) (ts us : List Token) (t v : Token) → Reading u a (ts ++ v ∷ []) x c
    → t ≡ v → us ≡ ts ++ t ∷ [] → Reading u a us x c
pushed u x a c ts us t v r e f =
    subst (λ xs. Reading u a xs x c) (sym (f ∙ ap (λ t. ts ++ t ∷ []) e)) r

pub none_pushed : (ts us : List Token) (t : Token) → All IsNoSection ts → IsNoSection t → us ≡ ts ++ t ∷ []
    → All IsNoSection us
none_pushed ts us t h no_section e = subst (λ xs. All IsNoSection xs) (sym e) (All-push IsNoSection ts t h no_section)

-- a token of another kind, and a name
pub no_section : (t v : Token) (is_section : Bool) → t ≡ v → (is_section ≡ true) ↔ (v.kind ≡ section_kind)
    → is_section ≡ false → IsNoSection t
no_section t v is_section e told fails = λ same.
    let found : is_section ≡ true = told.1 (sym (ap (λ (t : Token). t.kind) e) ∙ same) in
    let no : ⊥ = cc in
    no

pub name_no_section : (t v : Token) → t ≡ v → v.kind ≡ kind.Word → IsNoSection t
name_no_section t v e is = λ same.
    let no : ◌≡◌ {A = TokenKind} kind.Word section_kind = sym is ∙ (sym (ap (λ (t : Token). t.kind) e) ∙ same) in
    let none : ⊥ = cc in
    none

-- where a call answers, the count is as it was
pub still : {A : Type 0} (before now : ℕ) (x : A)
    → IsTold before now (◌≡◌ {A = Result A FrontError} (Ok x) (Err error.Failed)) → now ≡ before
still {A} before now x told =
    let later = told.later in
    let one : (now ≡ before) ⊎ (before < now) = grind arith in
    elim one [
      | inl same ↦ same
      | inr rose ↦ absurd (no_fault (told.told rose))
    ]
  where
    no_fault : ◌≡◌ {A = Result A FrontError} (Ok x) (Err error.Failed) → ⊥
    no_fault e = cc

-- ---- tokens in order, with numbers that are not too large

pub start_order : (at : ℕ) (ts : List Token) → ts ≡ [] → AreInOrder at at ts
start_order at ts none = subst (λ xs. AreInOrder at at xs) (sym none) (omega arith)

pub start_small : (ts : List Token) → ts ≡ [] → All IsSmall ts
start_small ts none = λ k d l. absurd (omega (arith, l, ap length none))

pub order_later : (ts : List Token) (from to now : ℕ) → AreInOrder from to ts → to ≤ now → AreInOrder from now ts
order_later [] from to now h l = omega arith
order_later (t ∷ ts) from to now h l = (h.0, h.1, order_later ts t.end to now h.2 l)

order_pushed : (ts : List Token) (t : Token) (from to now : ℕ) → AreInOrder from to ts → to ≤ t.start
    → t.start < t.end → t.end ≤ now → AreInOrder from now (ts ++ t ∷ [])
order_pushed [] t from to now h a b d = let first : from ≤ to = h in (omega (arith, first, a), b, d)
order_pushed (x ∷ xs) t from to now h a b d = (h.0, h.1, order_pushed xs t x.end to now h.2 a b d)

-- one more token, of so many bytes
pub order_token : (ts now : List Token) (t : Token) (k : TokenKind) (from to at size end : ℕ) → AreInOrder from to ts
    → to ≤ at → 0 < size → at + size ≤ end → t ≡ record { kind = k; start = at; end = at + size }
    → now ≡ ts ++ t ∷ [] → AreInOrder from end now
order_token ts now t k from to at size end h a b d is e =
    let start : t.start ≡ at = ap (λ (t : Token). t.start) is in
    let stop : t.end ≡ at + size = ap (λ (t : Token). t.end) is in
    subst (λ xs. AreInOrder from end xs) (sym e)
    (order_pushed ts t from to end h (omega (arith, start, a)) (omega (arith, start, stop, b))
    (omega (arith, stop, d)))

pub order_word : (ts now : List Token) (t : Token) (from to at end : ℕ) → AreInOrder from to ts → to ≤ at → at < end
    → t ≡ record { kind = kind.Word; start = at; end = end } → now ≡ ts ++ t ∷ [] → AreInOrder from end now
order_word ts now t from to at end h a b is e =
    let start : t.start ≡ at = ap (λ (t : Token). t.start) is in
    let stop : t.end ≡ end = ap (λ (t : Token). t.end) is in
    subst (λ xs. AreInOrder from end xs) (sym e)
    (order_pushed ts t from to end h (omega (arith, start, a)) (omega (arith, start, stop, b))
    (omega (arith, stop)))

pub small_pushed : (ts now : List Token) (t : Token) (k : TokenKind) → All IsSmall ts → t.kind ≡ k → value_of k ≤ 2 ^ 62
    → now ≡ ts ++ t ∷ [] → All IsSmall now
small_pushed ts now t k all is small e =
    subst (λ xs. All IsSmall xs) (sym e)
    (All-push IsSmall ts t all (subst (λ k. value_of k ≤ 2 ^ 62) (sym is) small))
