-- The rest of a text, token by token, where a fault is known.
use Rattle.std.proofs.Common.{◌≡◌, ℕ, ◌+◌, ◌<◌, ◌≤◌, List, [], ◌∷◌, ◌++◌, length, Option, Some, sym}
use Rattle.std.proofs.Common.{subst, arith, append-nil, Result, Ok, Err, IfOk}
use Rattle.case_tables.specs.declared.code_table.Code.{Code}
use Rattle.unity_base.specs.declared.window.Window.{Window}
use Rattle.unity_base.specs.Window.{coming}
use Rattle.unity_syntax.specs.declared.token.Token.{Token}
use Rattle.unity_lexer.specs.declared.scan.Scan.{Scan}
use Rattle.unity_lexer.specs.declared.scan.Scan.TheVariants as scan
use Rattle.unity_lexer.specs.Tokens.{Tokenizes, nothing}
use Rattle.unity_lexer.specs.Scans.{ReadsTo, IsScan, TokenRises}
use Rattle.unity_lexer.proofs.ScanSteps.{reads_then}
use Rattle.unity_lexer.proofs.SomeAnswer.{reads_place}
use Rattle.streamed_documents.specs.declared.found.Flaw.{Flaw}
use Rattle.streamed_documents.specs.Rests as rests
use Rattle.streamed_documents.specs.Rests.{IsKeptFlaw, IsSkimmed}

-- where they are told, the bytes that came are read into some tokens, up to those that come
abbrev pub Reading : Window → Option (List ℕ) → Window → Option (List ℕ) → Type 0
Reading u a w c =
    (bytes : List ℕ) → coming u a ≡ Some bytes → (ts : List Token) × ReadsTo u.at bytes ts w.at (coming w c)

pub start_reads : (at : ℕ) (bytes : List ℕ) (left : Option (List ℕ)) → left ≡ Some bytes → ReadsTo at bytes [] at left
start_reads at bytes left e = record { rest = bytes; reads = nothing; told = e }

pub start_reading : (w : Window) (a : Option (List ℕ)) → Reading w a w a
start_reading w a = λ bytes e. ([], start_reads w.at bytes (coming w a) e)

pub reads_join : (at : ℕ) (bytes : List ℕ) (ts us : List Token) (mid now : ℕ) (before after : Option (List ℕ))
    → (r : ReadsTo at bytes ts mid before) → ReadsTo mid r.rest us now after → ReadsTo at bytes (ts ++ us) now after
reads_join at bytes ts us mid now before after r s = record {
  rest = s.rest;
  reads = reads_then r.reads s.reads;
  told = s.told;
}

-- where they are told, the bytes that come are found to begin so
abbrev pub Scanning : Window → Option (List ℕ) → Window → Option (List ℕ) → Scan → Type 0
Scanning w c x d found = (bytes : List ℕ) → coming w c ≡ Some bytes → IsScan w.limit w.at bytes x.at (coming x d) found

pub token_reading : (u w x : Window) (a c d : Option (List ℕ)) (t : Token) → Reading u a w c
    → Scanning w c x d (scan.Token t) → Reading u a x d
token_reading u w x a c d t r s = λ bytes e.
    let now = r bytes e in (
      now.0 ++ t ∷ [],
      reads_join u.at bytes now.0 (t ∷ []) w.at x.at (coming w c) (coming x d) now.1 (s now.1.rest now.1.told).0,
    )

-- the limit is passed
pub long_after : (u w : Window) (a c : Option (List ℕ)) (x : Window) (d : Option (List ℕ)) → Reading u a w c
    → w.limit ≡ u.limit → Scanning w c x d scan.TooLong → (bytes : List ℕ) → coming u a ≡ Some bytes
    → u.limit < u.at + length bytes
long_after u w a c x d r same s bytes e =
    let now = r bytes e in
    omega (arith, same, reads_place now.1.reads, s now.1.rest now.1.told)

-- ---- what is found of told bytes that are read into tokens up to a place

module _ (limit at : ℕ) (bytes : List ℕ) (ts : List Token) (mid : ℕ) (left : Option (List ℕ))
    (r : ReadsTo at bytes ts mid left) where
  -- the end
  pub whole : (now : ℕ) (after : Option (List ℕ)) → IsScan limit mid r.rest now after scan.End
      → (now ≡ at + length bytes) × Tokenizes at bytes ts (at + length bytes) []
  whole now after s =
      let all : Tokenizes at bytes (ts ++ []) now [] = reads_then r.reads s.0 in
      let place : now ≡ at + length bytes = omega (arith, reads_place all) in (
        place,
        subst (λ n. Tokenizes at bytes ts n []) place (subst (λ us. Tokenizes at bytes us now []) (append-nil ts) all),
      )

  -- no token
  pub faulty : (now : ℕ) (after : Option (List ℕ)) (code : Code) (p : ℕ)
      → (s : IsScan limit mid r.rest now after (scan.Fault code p))
      → Tokenizes at bytes ts p s.0.rest × (p + length s.0.rest ≡ at + length bytes)
  faulty now after code p s =
      let all : Tokenizes at bytes (ts ++ []) now s.0.rest = reads_then r.reads s.0.reads in
      let there = subst (λ n. Tokenizes at bytes ts n s.0.rest) (sym s.2)
      (subst (λ us. Tokenizes at bytes us now s.0.rest) (append-nil ts) all) in
      (there, omega (arith, reads_place there))

  module _ (code : Code) (place : ℕ) where
    pub skim_end : (now : ℕ) (after : Option (List ℕ)) → IsScan limit mid r.rest now after scan.End → now ≤ limit
        → IsSkimmed limit at bytes code place (Flaw.Fault code place)
    skim_end now after s inside =
        let all = whole now after s in
        rests.IsSkimmed.stands ts (omega (arith, all.0, inside)) all.1

    pub skim_fault : (now : ℕ) (after : Option (List ℕ)) (first : Code) (p : ℕ)
        → (s : IsScan limit mid r.rest now after (scan.Fault first p)) → (flaw : Flaw)
        → IsKeptFlaw limit now s.0.rest first p flaw → IsSkimmed limit at bytes code place flaw
    skim_fault now after first p s Flaw.TooLong kept =
        rests.IsSkimmed.too_long (omega (arith, kept, s.2, (faulty now after first p s).1))
    skim_fault now after first p s (Flaw.Fault c q) kept =
        let all = faulty now after first p s in
        let inside : at + length bytes ≤ limit = omega (arith, kept.0, s.2, all.1) in
        subst (λ f. IsSkimmed limit at bytes code place f) (flaw_is c first q p kept.1 kept.2)
        (rests.IsSkimmed.no_token ts s.0.rest first p inside all.0 s.1)
      where
        flaw_is : (c first : Code) (q p : ℕ) → c ≡ first → q ≡ p → Flaw.Fault first p ≡ Flaw.Fault c q
        flaw_is c first q p e f = λ i. Flaw.Fault (sym e i) (sym f i)

-- what a call drained
pub drained_after : {E : Type 0} (u w x : Window) (a c d : Option (List ℕ)) (code first : Code) (place p : ℕ)
    (result : Result Flaw E) → Reading u a w c → w.limit ≡ u.limit → x.limit ≡ u.limit
    → Scanning w c x d (scan.Fault first p)
    → IfOk result (λ flaw. (bytes : List ℕ) → coming x d ≡ Some bytes → IsKeptFlaw x.limit x.at bytes first p flaw)
    → IfOk result (λ flaw. (bytes : List ℕ) → coming u a ≡ Some bytes → IsSkimmed u.limit u.at bytes code place flaw)
drained_after u w x a c d code first place p (Err e) r same later s kept = tt
drained_after u w x a c d code first place p (Ok flaw) r same later s kept = λ bytes e.
    let now = r bytes e in
    let found : IsScan u.limit w.at now.1.rest x.at (coming x d) (scan.Fault first p) =
    subst (λ limit. IsScan limit w.at now.1.rest x.at (coming x d) (scan.Fault first p)) same
    (s now.1.rest now.1.told) in
    skim_fault u.limit u.at bytes now.0 w.at (coming w c) now.1 code place x.at (coming x d) first p found flaw
    (subst (λ limit. IsKeptFlaw limit x.at found.0.rest first p flaw) later (kept found.0.rest found.0.told))

-- ---- as the code has it

pub scan_is : (w x : Window) (c d : Option (List ℕ)) (found other : Scan) → found ≡ other → Scanning w c x d found
    → Scanning w c x d other
scan_is w x c d found other e s = subst (λ k. Scanning w c x d k) e s

-- a token rises
pub token_rises : (at now : ℕ) (found : Scan) (t : Token) → found ≡ scan.Token t → TokenRises at now found → at < now
token_rises at now found t is rises = subst (TokenRises at now) is rises

-- the end, and the limit
module _ (u w x : Window) (a c d : Option (List ℕ)) (r : Reading u a w c) (same : w.limit ≡ u.limit)
    (later : x.limit ≡ u.limit) (code : Code) (place : ℕ) where
  pub end_after : Scanning w c x d scan.End → (bytes : List ℕ) → coming u a ≡ Some bytes
      → IsSkimmed u.limit u.at bytes code place (Flaw.Fault code place)
  end_after s bytes e =
      let now = r bytes e in
      let top = x.in_limit in
      skim_end u.limit u.at bytes now.0 w.at (coming w c) now.1 code place x.at (coming x d)
      (s now.1.rest now.1.told) (omega (arith, later, top))

  pub too_long_after : Scanning w c x d scan.TooLong → (bytes : List ℕ) → coming u a ≡ Some bytes
      → IsSkimmed u.limit u.at bytes code place Flaw.TooLong
  too_long_after s bytes e = rests.IsSkimmed.too_long (long_after u w a c x d r same s bytes e)
