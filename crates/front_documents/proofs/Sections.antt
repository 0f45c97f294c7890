-- Sections of certificates behind the word, by the places to which tokens lead.
use Rattle.std.proofs.Common.{◌≡◌, ℕ, Bool, true, false, not, ◌&&◌, List, [], ◌∷◌, ◌++◌, map, refl, sym, ap, ◌∙◌, subst}
use Rattle.std.proofs.lemmas.Bool.{and_parts}
use Rattle.std.proofs.lemmas.List.{map-append}
use Rattle.grammar_theory.specs.Ebnf.{Terminal, Tree, unit, pair, node, Ebnf, token, valued, version, both, either}
use Rattle.grammar_theory.specs.Ebnf.{maybe}
use Rattle.grammar_theory.specs.Ebnf.{many, numbered, prefix_trees, named, inside, Grammar, of_any_version, has}
use Rattle.grammar_theory.specs.Ebnf.{place_of}
use Rattle.grammar_theory.specs.Ebnf.{Derives, is_token, is_valued, is_version, is_both, is_left, is_right, is_none}
use Rattle.grammar_theory.specs.Ebnf.{is_some, is_nil, is_more, is_no_number, is_next_number, is_no_tree, is_next_node}
use Rattle.grammar_theory.specs.Ebnf.{is_named, is_inside}
use Rattle.grammar_theory.proofs.Classes.{not_true}
use Rattle.grammar_theory.proofs.Parts.{SomeTree}
use Rattle.unity_syntax.specs.Classes.{name_class, terminal, terminals}
use Rattle.unity_syntax.specs.Kinds.{Kind, kind}
use Rattle.unity_syntax.specs.Grammar.{grammar, first, second, certificates_}
use Rattle.unity_syntax.specs.View.{view_certificates}
use Rattle.unity_syntax.specs.declared.token.Token.{Token}
use Rattle.unity_syntax.specs.declared.token.TokenKind.{TokenKind}
use Rattle.unity_syntax.specs.declared.certificate.Certificates.{Certificates}
use Rattle.unity_syntax.proofs.Avoids.{avoids, AreNot, are_not}
use Rattle.unity_syntax.proofs.Productions.{all_productions}
use Rattle.certificate_events.specs.declared.places.Place.{Place}
use Rattle.certificate_events.specs.Steps.{reach, start}
use Rattle.certificate_events.specs.Sections.{IsSection, IsSections}
use Rattle.certificate_events.proofs.SignLaws.{sign_on}
use Rattle.certificate_events.proofs.Forms.{tail}
use Rattle.certificate_events.proofs.Back.{is_bad, bad_stays, back_all, one_token}
use Rattle.certificate_events.proofs.Along.{section_leads}
use Rattle.certificate_events.proofs.Finish.{ending, ends}
use Rattle.certificate_events.proofs.SectionLaws.{reach_more}
use Rattle.unity_parser.proofs.Parts.{of_named, of_both}
use Rattle.front_documents.proofs.FirstWord.{word_class}

-- ---- any version

-- no number of a version and no bracket stands in the form
abbrev plain_form : Ebnf → Bool
plain_form (token cs keep) = true
plain_form (valued c v) = true
plain_form (version c vs) = false
plain_form (both a b) = plain_form a && plain_form b
plain_form (either a b) = plain_form a && plain_form b
plain_form (maybe a) = plain_form a
plain_form (many a) = plain_form a
plain_form (numbered k c a) = plain_form a
plain_form (prefix_trees n arity a) = plain_form a
plain_form (named action a) = plain_form a
plain_form (inside o k c) = false

derives_back : {G : Grammar} {e : Ebnf} {x : Tree} {ts : List Terminal} → Derives (of_any_version G) e x ts
    → plain_form e ≡ true → Derives G e x ts
derives_back (is_token h) k = is_token h
derives_back (is_valued h q) k = is_valued h q
derives_back (is_version h q) k = let no : false ≡ true = k in absurd cc
derives_back (is_both {a = a} {b = b} d1 d2 s) k =
    let p = and_parts (plain_form a) (plain_form b) k in
    is_both (derives_back d1 p.0) (derives_back d2 p.1) s
derives_back (is_left {a = a} {b = b} d) k = is_left (derives_back d (and_parts (plain_form a) (plain_form b) k).0)
derives_back (is_right {a = a} {b = b} d) k = is_right (derives_back d (and_parts (plain_form a) (plain_form b) k).1)
derives_back is_none k = is_none
derives_back (is_some d) k = is_some (derives_back d k)
derives_back is_nil k = is_nil
derives_back (is_more d1 d2 s) k = is_more (derives_back d1 k) (derives_back d2 k) s
derives_back is_no_number k = is_no_number
derives_back (is_next_number d1 d2 s) k = is_next_number (derives_back d1 k) (derives_back d2 k) s
derives_back is_no_tree k = is_no_tree
derives_back (is_next_node d1 d2 s) k = is_next_node (derives_back d1 k) (derives_back d2 k) s
derives_back (is_named d p) k = is_named (derives_back d k) p
derives_back (is_inside s t hs d ht e) k = let no : false ≡ true = k in absurd cc

plain_section : plain_form certificates_ ≡ true
unfolding all_productions
plain_section = refl

pub section_back : {y : Tree} {ts : List Terminal} → Derives (of_any_version grammar) certificates_ y ts
    → Derives grammar certificates_ y ts
section_back d = derives_back d plain_section

-- ---- where tokens lead

-- the tokens with which a section begins lead to no bad place
pub begins_well : (w : Terminal) {y : Tree} (xs us : List Terminal) → Derives grammar certificates_ y (w ∷ (xs ++ us))
    → is_bad (reach start (map sign_on xs)).stage ≡ false
begins_well w xs us d =
    let l = section_leads w d in
    let there = sym (ap (reach start) (map-append sign_on xs us) ∙ reach_more start (map sign_on xs) (map sign_on us))
    ∙ l.leads.there in
    good (is_bad (reach start (map sign_on xs)).stage) refl (ap (λ (p : Place). is_bad p.stage) there)
  where
    good : (b : Bool) → is_bad (reach start (map sign_on xs)).stage ≡ b
        → is_bad (reach (reach start (map sign_on xs)) (map sign_on us)).stage ≡ false
        → is_bad (reach start (map sign_on xs)).stage ≡ false
    good false e h = e
    good true e h =
        let stays = bad_stays (map sign_on us) (reach start (map sign_on xs)) e in
        let no : true ≡ false = sym stays ∙ h in
        absurd cc

-- behind the word, what a section's rest derives
pub put_word : (w : Terminal) (us : List Terminal) → w.class ≡ word_class → SomeTree grammar (tail 0) us
    → SomeTree grammar certificates_ (w ∷ us)
unfolding all_productions
put_word w us e s =
    let tree = first (place_of us) s.tree in
    record {
      tree = _;
      derives = is_named {action = node (kind Kind.certificates)} (is_named {action = second} {x = pair unit tree}
          (is_both (one_token word_class w e) (is_named {action = first} {x = s.tree} s.derives refl) refl) refl) refl;
    }

-- tokens that lead to no bad place are ended
pub goes_on : (later : Bool) (bytes : List ℕ) (w : Terminal) (ts : List Token) → w.class ≡ word_class
    → is_bad (reach start (map sign_on (terminals later bytes ts))).stage ≡ false
    → (rest : List Token)
    × SomeTree grammar certificates_ (w ∷ (terminals later bytes ts ++ terminals later bytes rest))
goes_on later bytes w ts e good =
    let front = terminals later bytes ts in
    let p = reach start (map sign_on front) in
    let more = ends later bytes p good in (
      ending p,
      put_word w (front ++ terminals later bytes (ending p)) e
          (back_all front (terminals later bytes (ending p)) start good more),
    )

-- the section that tokens are
pub to_section : (later : Bool) (bytes : List ℕ) (w : Terminal) (ts : List Token) {y : Tree} → w.class ≡ word_class
    → Derives grammar certificates_ y (w ∷ terminals later bytes ts) → IsSections later ts
to_section later bytes w ts {y} e d =
    let l = section_leads w d in (
      l.section,
      record {
        bytes = bytes;
        word = w;
        is_word = e;
        derives = subst (λ x. Derives grammar certificates_ x (w ∷ terminals later bytes ts)) (sym l.is) d;
      },
    )

-- ---- the texts of tokens

section_no_names : avoids false (name_class ∷ []) certificates_ ≡ true
unfolding all_productions
section_no_names = refl

-- no token of a section has a text
texts_same : (later : Bool) (bytes other : List ℕ) (ts : List Token)
    → AreNot (name_class ∷ []) (terminals later bytes ts) → terminals later bytes ts ≡ terminals later other ts
texts_same later bytes other [] h = refl
texts_same later bytes other (t ∷ ts) h =
    let p = and_parts (not (has (name_class ∷ []) (terminal later bytes t).class)) _ h in
    let one : terminal later bytes t ≡ terminal later other t = same t p.0 in
    let rest = texts_same later bytes other ts p.1 in
    (λ i. one i ∷ rest i)
  where
    same : (t : Token) → not (has (name_class ∷ []) (terminal later bytes t).class) ≡ true
        → terminal later bytes t ≡ terminal later other t
    same t h = by_kind t.kind refl
      where
        by_kind : (k : TokenKind) → t.kind ≡ k → terminal later bytes t ≡ terminal later other t
        by_kind TokenKind.Word e =
            let there : has (name_class ∷ []) (terminal later bytes t).class ≡ true = rw e refl in
            let gone = not_true _ h in
            let no : true ≡ false = sym there ∙ gone in
            absurd cc
        by_kind (TokenKind.Number n) e = rw e refl
        by_kind (TokenKind.Reserved r) e = rw e refl
        by_kind (TokenKind.Symbol s) e = rw e refl

abbrev with_place : ℕ → Tree → Tree
with_place p (node k q x) = node k p x
with_place p x = x

-- the section behind another word
other_word : (w v : Terminal) (us : List Terminal) (c : Certificates) → v.class ≡ word_class
    → Derives grammar certificates_ (view_certificates c) (w ∷ us)
    → Derives grammar certificates_ (view_certificates (record { at = v.place; items = c.items })) (v ∷ us)
unfolding all_productions
other_word w v us c e d =
    let whole = of_named d in
    let content = of_named whole.derives in
    let parts = of_both content.derives in
    let first_one = first_token parts.earlier in
    let rest_is : us ≡ parts.more = tail_same (parts.split ∙ ap (λ xs. xs ++ parts.more) first_one.1) in
    let inner : parts.other ≡ whole.tree = ap (λ x. second content.place x) parts.is ∙ content.is in
    let tree_is : node (kind Kind.certificates) v.place parts.other
    ≡ view_certificates (record { at = v.place; items = c.items }) =
    ap (λ x. node (kind Kind.certificates) v.place x) inner ∙ ap (with_place v.place) whole.is in
    subst (λ x. Derives grammar certificates_ x (v ∷ us)) tree_is
    (subst (λ xs. Derives grammar certificates_ (node (kind Kind.certificates) v.place parts.other) (v ∷ xs))
    (sym rest_is)
    (is_named {action = node (kind Kind.certificates)} (is_named {action = second} {x = pair unit parts.other}
    (is_both (one_token word_class v e) parts.later refl) refl) refl))
  where
    first_token : {cs : List ℕ} {keep : Terminal → Tree} {z : Tree} {ts : List Terminal}
        → Derives grammar (token cs keep) z ts → (t : Terminal) × (ts ≡ t ∷ [])
    first_token (is_token {t = t} h) = (t, refl)

    tail_same : {x y : Terminal} {xs ys : List Terminal} → x ∷ xs ≡ y ∷ ys → xs ≡ ys
    tail_same e = cc

-- a section of these tokens, behind this word
pub section_here : (later : Bool) (bytes : List ℕ) (w : Terminal) (ts : List Token) (c : Certificates)
    → w.class ≡ word_class → IsSection later ts c
    → Derives grammar certificates_ (view_certificates (record { at = w.place; items = c.items }))
    (w ∷ terminals later bytes ts)
section_here later bytes w ts c e s =
    let none : AreNot (name_class ∷ []) (s.word ∷ terminals later s.bytes ts) =
    are_not false (name_class ∷ []) (λ k within. absurd cc) s.derives section_no_names in
    let rest = (and_parts (not (has (name_class ∷ []) s.word.class)) _ none).1 in
    other_word s.word w (terminals later bytes ts) c e
    (subst (λ xs. Derives grammar certificates_ (view_certificates c) (s.word ∷ xs))
    (texts_same later s.bytes bytes ts rest) s.derives)
