-- The core form of a document that a front is meets all conditions on core documents.
use Rattle.std.proofs.Common.{◌≡◌, ℕ, ◌+◌, ◌^◌, ◌≤◌, Bool, List, [], ◌∷◌, ◌++◌, Option, Some}
use Rattle.std.proofs.Common.{None, refl, sym, ap, ◌∙◌, subst, arith, append-nil}
use Rattle.std.specs.Prelude.{All}
use Rattle.std.proofs.lemmas.List.Elements.{recursion_from_All}
use Rattle.std.specs.List.{AllByRecursion}
use Rattle.case_tables.specs.declared.word_table.Word.{Word}
use Rattle.core_terms.specs.Conditions.{IsCoreDocument}
use Rattle.grammar_theory.specs.Ebnf.{Terminal, unit, nil, pair, node, place_of, Derives, is_both, is_named}
use Rattle.grammar_theory.specs.Ebnf.{is_no_number}
use Rattle.unity_syntax.specs.declared.token.Token.{Token}
use Rattle.unity_syntax.specs.declared.token.TokenKind.{TokenKind}
use Rattle.unity_syntax.specs.declared.certificate.Certificates.{Certificates}
use Rattle.unity_syntax.specs.declared.document.Document.{Document}
use Rattle.unity_syntax.specs.Classes.{reserved, terminal, terminals, says_later}
use Rattle.unity_syntax.specs.Kinds.{Kind, kind}
use Rattle.unity_syntax.specs.Grammar.{grammar, document_, certificates_, first, second}
use Rattle.unity_syntax.specs.View.{view, view_certificates}
use Rattle.unity_syntax.proofs.Productions.{all_productions}
use Rattle.unity_lexer.specs.declared.front.Front.{Front}
use Rattle.unity_lexer.specs.Tokens.{AreInOrder}
use Rattle.unity_lexer.specs.Scans.{section_kind, IsSmall}
use Rattle.unity_parser.specs.Fronts.{word_at, empty_section, front_tokens}
use Rattle.unity_parser.proofs.Parsed.{words_within}
use Rattle.certificate_events.proofs.Back.{one_token}
use Rattle.names_rules.specs.WellNamed.{IsWellNamed}
use Rattle.quantified_assign.specs.from_expand_documents.Cores.{core_document}
use Rattle.quantified_assign.specs.from_expand_documents.Faults.{expansion_fault}
use Rattle.expand_fits.proofs.Parsed.Numerals.{SmallTokens}
use Rattle.expand_fits.proofs.Parsed.Reading.{sound_by}
use Rattle.expand_fits.proofs.Sound.{documents_sound}
use Rattle.front_documents.specs.Laws.{IsFrontDocument}
use Rattle.front_documents.proofs.FirstWord.{word_class, bodies_avoid, section_at}
use Rattle.front_documents.proofs.Fronts.{terminals_join, word_free}
use Rattle.streamed_documents.specs.Fronts.{IsOrderly, FrontCores}

-- ---- tokens in order

order_on : (from to : ℕ) (ts us : List Token) (end : ℕ) → AreInOrder from to ts → AreInOrder to end us
    → AreInOrder from end (ts ++ us)
order_on from to [] us end h k = earlier us from to end h k
  where
    earlier : (us : List Token) (from to end : ℕ) → from ≤ to → AreInOrder to end us → AreInOrder from end us
    earlier [] from to end h k = omega (arith, h, k)
    earlier (u ∷ us) from to end h k = (omega (arith, h, k.0), k.1, k.2)
order_on from to (t ∷ ts) us end h k = (h.0, h.1, order_on t.end to ts us end h.2 k)

-- an empty section behind a place
abbrev last_tokens : ℕ → List Token
last_tokens n = record { kind = section_kind; start = n; end = n + 1 }
    ∷ record { kind = TokenKind.Reserved Word.End; start = n + 1; end = n + 2 } ∷ []

last_in_order : (n : ℕ) → AreInOrder n (n + 2) (last_tokens n)
last_in_order n = (omega arith, omega arith, (omega arith, omega arith, omega arith))

-- ---- numbers

smalls : (later : Bool) (bytes : List ℕ) (ts : List Token) → AllByRecursion IsSmall ts
    → SmallTokens (2 ^ 62) (terminals later bytes ts)
smalls later bytes [] h = tt
smalls later bytes (t ∷ ts) h = (h.0, smalls later bytes ts h.1)

smalls_on : (us vs : List Terminal) → SmallTokens (2 ^ 62) us → SmallTokens (2 ^ 62) vs
    → SmallTokens (2 ^ 62) (us ++ vs)
smalls_on [] vs h k = k
smalls_on (u ∷ us) vs h k = (h.0, smalls_on us vs h.1 k)

small_front : (later : Bool) (bytes : List ℕ) (ts : List Token) → All IsSmall ts
    → SmallTokens (2 ^ 62) (terminals later bytes ts)
small_front later bytes ts h = smalls later bytes ts (recursion_from_All IsSmall ts h)

-- ---- a document with an empty section behind all its tokens

empty : (w e : Terminal) → w.class ≡ word_class → e.class ≡ reserved Word.End
    → Derives grammar certificates_ (view_certificates (record { at = w.place; items = [] })) (w ∷ e ∷ [])
unfolding all_productions
empty w e h k =
    is_named {action = node (kind Kind.certificates)} (is_named {action = second}
    {x = pair unit (first (place_of (e ∷ [])) (pair nil unit))}
    (is_both (one_token word_class w h) (is_named {action = first} {x = pair nil unit}
    (is_both is_no_number (one_token (reserved Word.End) e k) refl) refl) refl) refl) refl

abbrev with_empty : ℕ → Document → Document
with_empty n d = record d { certificates = Some (record { at = n; items = [] }) }

-- tokens of a document without the word, and then an empty section
module _ (later : Bool) (bytes : List ℕ) (ts : List Token) (n : ℕ) (order : AreInOrder 0 n ts) (few : n ≤ 2 ^ 29)
    (small : All IsSmall ts) (d : Document) (named : IsWellNamed d) (expands : expansion_fault d ≡ None) where
  -- as they are
  pub core_of_whole : Derives grammar document_ (view d) (terminals later bytes ts) → IsCoreDocument (core_document d)
  core_of_whole derives = documents_sound d (sound_by d (terminals later bytes ts) (n + 2) (omega (arith, few)) derives
      (words_within later bytes ts (view d) (n + 2) derives (order_up ts 0 n (n + 2) order (omega arith)))
      (small_front later bytes ts small) named expands)
    where
      order_up : (ts : List Token) (from to end : ℕ) → AreInOrder from to ts → to ≤ end → AreInOrder from end ts
      order_up [] from to end h k = omega (arith, h, k)
      order_up (t ∷ ts) from to end h k = (h.0, h.1, order_up ts t.end to end h.2 k)

  abbrev Tokens : List Token
  Tokens = ts ++ last_tokens n

  pub core_of_cut : Derives grammar document_ (view (with_empty n d)) (terminals later bytes Tokens)
      → IsCoreDocument (core_document d)
  core_of_cut derives =
      let e = with_empty n d in
      documents_sound e (sound_by e (terminals later bytes Tokens) (n + 2) (omega (arith, few)) derives
      (words_within later bytes Tokens (view e) (n + 2) derives (order_on 0 n ts (last_tokens n) (n + 2) order
      (last_in_order n)))
      (subst (λ us. SmallTokens (2 ^ 62) us) (sym (terminals_join later bytes ts (last_tokens n)))
      (smalls_on (terminals later bytes ts) (terminals later bytes (last_tokens n)) (small_front later bytes ts small)
      (omega arith, (omega arith, tt)))) named expands)

-- ---- fronts

module _ (f : Front) (n : ℕ) (o : IsOrderly n f) (few : n ≤ 2 ^ 29) (d : Document) (named : IsWellNamed d)
    (expands : expansion_fault d ≡ None) where
  abbrev Later : Bool
  Later = says_later (front_tokens f)

  abbrev Bytes : List ℕ
  Bytes = f.bytes.items

  cut_core : (cut : ℕ) → Derives grammar document_ (view d)
      (terminals Later Bytes (f.tokens ++ empty_section (Some cut))) → IsCoreDocument (core_document d)
  cut_core cut derives =
      let w = terminal Later Bytes (word_at cut Word.Certificates) in
      let e = terminal Later Bytes (word_at cut Word.End) in
      let front = terminals Later Bytes f.tokens in
      let at = section_at grammar bodies_avoid front (e ∷ []) w (word_free Later Bytes f.tokens o.none) refl
      (subst (λ us. Derives grammar document_ (view d) us)
      (terminals_join Later Bytes f.tokens (empty_section (Some cut))) derives) in
      let x = terminal Later Bytes (record { kind = section_kind; start = n; end = n + 1 }) in
      let y = terminal Later Bytes (record { kind = TokenKind.Reserved Word.End; start = n + 1; end = n + 2 }) in
      let put = at.put (view_certificates (record { at = n; items = [] })) (x ∷ y ∷ []) (empty x y refl refl) in
      core_of_cut Later Bytes f.tokens n o.order few o.small d named expands
      (subst (λ us. Derives grammar document_ (view (with_empty n d)) us)
      (sym (terminals_join Later Bytes f.tokens (last_tokens n))) put)

  front_core : (cut : Option ℕ) → f.cut ≡ cut → IsFrontDocument f d → IsCoreDocument (core_document d)
  front_core None is parsed =
      core_of_whole Later Bytes f.tokens n o.order few o.small d named expands
      (subst (λ us. Derives grammar document_ (view d) (terminals Later Bytes us))
      (ap (λ c. f.tokens ++ empty_section c) is ∙ append-nil f.tokens) parsed.0)
  front_core (Some cut) is parsed =
      cut_core cut
      (subst
      (λ c. Derives grammar document_ (view d) (terminals Later Bytes (f.tokens ++ empty_section c))) is parsed.0)

  pub core_by : IsFrontDocument f d → IsCoreDocument (core_document d)
  core_by parsed = front_core f.cut refl parsed

pub front_cores : FrontCores
front_cores n f d few o parsed named expands = core_by f n o few d named expands parsed
