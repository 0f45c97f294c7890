-- The section is read after what was read before it.
use Rattle.std.proofs.Common.{◌≡◌, ℕ, ◌+◌, true, List, [], ◌∷◌, ◌++◌, length, take, refl, sym, ap, ◌∙◌, subst}
use Rattle.std.proofs.Common.{arith, length-append}
use Rattle.std.specs.List.{list_all}
use Rattle.std.proofs.lemmas.List.{append-nil}
use Rattle.obligations.specs.declared.certificates.Cert.{Cert}
use Rattle.unity_syntax.specs.declared.token.Token.{Token}
use Rattle.unity_lexer.specs.Tokens.{IsTokens, Tokenizes, gap, blank}
use Rattle.unity_lexer.proofs.Begins.{take_front}
use Rattle.certificate_printing.specs.Certificates.{certificates_text}
use Rattle.certificate_roundtrip.specs.SectionLaws.{FrontIsRead, WholeIsRead}
use Rattle.certificate_roundtrip.specs.Pieces.{section_pieces, tokens_from, is_readable}
use Rattle.certificate_roundtrip.proofs.PieceLaws.{reads_all}
use Rattle.certificate_roundtrip.proofs.ReadsOn.{reads_on, reads_then, reads_before}
use Rattle.certificate_roundtrip.proofs.SectionLaws.{sep_section, section_is}

section_end : (n : ℕ) (front text : List ℕ) → n ≡ length front → (n + 1) + length text ≡ length (front ++ 10 ∷ text)
section_end n front text e = omega (arith, e, length-append front (10 ∷ text))

-- the section at any place
section_at : (at : ℕ) (certs : List Cert) → list_all is_readable (section_pieces certs) ≡ true →
    Tokenizes at (certificates_text certs) (tokens_from at (section_pieces certs))
    (at + length (certificates_text certs)) []
section_at at certs h =
    subst (λ t. Tokenizes at t (tokens_from at (section_pieces certs)) (at + length t) []) (section_is certs)
    (reads_all at (section_pieces certs) (sep_section certs h))

-- and after a front that is read, and a line feed
after_front : (front : List ℕ) (n : ℕ) (tokens : List Token) (certs : List Cert) → n ≡ length front →
    Tokenizes 0 (front ++ 10 ∷ certificates_text certs) tokens n (10 ∷ certificates_text certs) →
    list_all is_readable (section_pieces certs) ≡ true →
    IsTokens (front ++ 10 ∷ certificates_text certs) (tokens ++ tokens_from (n + 1) (section_pieces certs))
after_front front n tokens certs e reads h =
    subst (λ m. Tokenizes 0 (front ++ 10 ∷ certificates_text certs)
    (tokens ++ tokens_from (n + 1) (section_pieces certs)) m [])
    (section_end n front (certificates_text certs) e)
    (reads_then reads
    (gap (10 ∷ []) (certificates_text certs) refl (blank 10 refl) (section_at (n + 1) certs h)))

pub front_is_read : FrontIsRead
front_is_read bytes before t after certs is_read word h =
    let sooner = reads_before before t after is_read refl in
    let part = reads_on sooner.reads in
    let start : t.start ≡ length part.front = none part.front t.start part.end_is in
    let front : part.front ≡ take t.start bytes =
    sym (ap (λ n. take n bytes) start ∙ ap (λ b. take (length part.front) b) part.split
    ∙ take_front part.front sooner.rest) in
    subst (λ f. IsTokens (f ++ 10 ∷ certificates_text certs)
    (before ++ tokens_from (t.start + 1) (section_pieces certs))) front
    (after_front part.front t.start before certs start (part.on (certificates_text certs)) h)
  where
    none : (front : List ℕ) (n : ℕ) → n ≡ 0 + length front → n ≡ length front
    none front n e = omega (arith, e)

pub whole_is_read : WholeIsRead
whole_is_read bytes tokens certs is_read h =
    let part = reads_on is_read in
    let whole : part.front ≡ bytes = sym (part.split ∙ append-nil part.front) in
    after_front bytes (length bytes) tokens certs refl
    (subst (λ f. Tokenizes 0 (f ++ 10 ∷ certificates_text certs) tokens (length bytes) (10 ∷ certificates_text certs))
    whole
    (part.on (certificates_text certs))) h
