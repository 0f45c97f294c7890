-- From the tokens of a document to those of its parts, and back with another section.
use Rattle.std.proofs.Common.{◌≡◌, ℕ, Bool, List, [], ◌∷◌, ◌++◌, ◌⊎◌, inl, inr, Option, Some, None, refl, sym, ap, ◌∙◌}
use Rattle.std.proofs.Common.{subst, append_assoc}
use Rattle.std.specs.Prelude.{IsTrue}
use Rattle.case_tables.specs.declared.word_table.Word.{Word}
use Rattle.grammar_theory.specs.Ebnf.{Terminal, Tree, pair, none, some, node, Ebnf, token, version, both, maybe, named}
use Rattle.grammar_theory.specs.Ebnf.{Grammar}
use Rattle.grammar_theory.specs.Ebnf.{has}
use Rattle.grammar_theory.specs.Ebnf.{place_of, Derives, is_token, is_version, is_both, is_none, is_some, is_named}
use Rattle.grammar_theory.proofs.Classes.{has_one}
use Rattle.unity_syntax.specs.declared.token.Token.{Token}
use Rattle.unity_syntax.specs.declared.certificate.Certificates.{Certificates}
use Rattle.unity_syntax.specs.declared.document.Document.{Document}
use Rattle.unity_syntax.specs.Classes.{reserved, terminals, says_later}
use Rattle.unity_syntax.specs.Kinds.{Kind, kind}
use Rattle.unity_syntax.specs.Grammar.{grammar, document_, certificates_, second}
use Rattle.unity_syntax.specs.View.{view, view_option, view_certificates}
use Rattle.unity_syntax.proofs.BackParts.{place_in}
use Rattle.unity_syntax.proofs.Productions.{all_productions}

-- from a tree and tokens of a form to those of its parts

pub record Named (G : Grammar) (action : ℕ → Tree → Tree) (a : Ebnf) (y : Tree) (ts : List Terminal) : Type 0 where
  pub place : ℕ
  pub tree : Tree
  pub derives : Derives G a tree ts
  pub at : place ≡ place_of ts
  pub is : action place tree ≡ y

pub of_named : {G : Grammar} {action : ℕ → Tree → Tree} {a : Ebnf} {y : Tree} {ts : List Terminal} →
    Derives G (named action a) y ts → Named G action a y ts
of_named (is_named {place = p} {x = x} d q) = record { place = p; tree = x; derives = d; at = q; is = refl }

pub record Joined (G : Grammar) (a b : Ebnf) (z : Tree) (ts : List Terminal) : Type 0 where
  pub one : Tree
  pub other : Tree
  pub front : List Terminal
  pub more : List Terminal
  pub earlier : Derives G a one front
  pub later : Derives G b other more
  pub split : ts ≡ front ++ more
  pub is : pair one other ≡ z

pub of_both : {G : Grammar} {a b : Ebnf} {z : Tree} {ts : List Terminal} → Derives G (both a b) z ts → Joined G a b z ts
of_both (is_both {x = x} {y = y} {us = us} {vs = vs} d1 d2 q) = record {
  one = x;
  other = y;
  front = us;
  more = vs;
  earlier = d1;
  later = d2;
  split = q;
  is = refl;
}

of_maybe : {G : Grammar} {a : Ebnf} {z : Tree} {ts : List Terminal} → Derives G (maybe a) z ts →
    ((none ≡ z) × (ts ≡ [])) ⊎ ((y : Tree) × Derives G a y ts × (some y ≡ z))
of_maybe is_none = inl (refl, refl)
of_maybe (is_some {x = x} d) = inr (x, d, refl)

of_version : {G : Grammar} {c : ℕ} {vs : List ℕ} {z : Tree} {ts : List Terminal} → Derives G (version c vs) z ts →
    (t : Terminal) × (ts ≡ t ∷ [])
of_version (is_version {t = t} h q) = (t, refl)

of_token : {G : Grammar} {cs : List ℕ} {keep : Terminal → Tree} {z : Tree} {ts : List Terminal} →
    Derives G (token cs keep) z ts → (t : Terminal) × IsTrue (has cs t.class) × (ts ≡ t ∷ [])
of_token (is_token {t = t} h) = (t, h, refl)

-- what follows the parts that stay: the section with this place, or nothing
abbrev pub After : Option Certificates → List Terminal → Type 0
After None after = after ≡ []
After (Some c) after =
    (t : Terminal) × (rest : List Terminal) × (after ≡ t ∷ rest) × (t.class ≡ reserved Word.Certificates)
    × (t.place ≡ c.at)

section_begins : (c : Certificates) (y : Tree) (ts : List Terminal) → Derives grammar certificates_ y ts →
    y ≡ view_certificates c → After (Some c) ts
unfolding all_productions
section_begins c y ts h same =
    let whole = of_named h in
    let content = of_named whole.derives in
    let parts = of_both content.derives in
    let first = of_token parts.earlier in
    let split : ts ≡ first.0 ∷ parts.more = parts.split ∙ ap (λ us. us ++ parts.more) first.2 in
    let place : whole.place ≡ c.at = ap place_in (whole.is ∙ same) in
    let begins : whole.place ≡ first.0.place = whole.at ∙ ap place_of split in
    (first.0, parts.more, split, has_one (reserved Word.Certificates) first.0.class first.1, sym begins ∙ place)

after_is : (o : Option Certificates) (last : Tree) (ts : List Terminal) →
    Derives grammar (maybe certificates_) last ts → last ≡ view_option view_certificates o → After o ts
after_is o last ts h same = by_cases o (of_maybe h) same
  where
    tree_in : Tree → Tree
    tree_in (some x) = x
    tree_in x = x

    by_cases : (o : Option Certificates) →
        ((none ≡ last) × (ts ≡ [])) ⊎ ((y : Tree) × Derives grammar certificates_ y ts × (some y ≡ last)) →
        last ≡ view_option view_certificates o → After o ts
    by_cases None (inl p) same = p.1
    by_cases None (inr p) same = let e = p.2 in absurd (cc (e, same))
    by_cases (Some c) (inl p) same = let e = p.0 in absurd (cc (e, same))
    by_cases (Some c) (inr p) same = section_begins c p.0 ts p.1 (ap tree_in (p.2 ∙ same))

four : (a b c d e : List Terminal) → (a ++ (b ++ (c ++ d))) ++ e ≡ a ++ (b ++ (c ++ (d ++ e)))
four a b c d e =
    append_assoc a (b ++ (c ++ d)) e
    ∙ ap (λ x. a ++ x) (append_assoc b (c ++ d) e ∙ ap (λ x. b ++ x) (append_assoc c d e))

same_place : (t : Terminal) (us rest more : List Terminal) → us ≡ t ∷ [] → place_of (us ++ rest) ≡ place_of (us ++ more)
same_place t us rest more e =
    ap (λ x. place_of (x ++ rest)) e ∙ sym (ap (λ x. place_of (x ++ more)) e)

-- a document's tree with another section
abbrev with_section : Tree → Tree → Tree
with_section c (node k p (pair x (pair y (pair z w)))) = node k p (pair x (pair y (pair z c)))
with_section c x = x

-- the tree of the section
abbrev section_in : Tree → Tree
section_in (node k p (pair x (pair y (pair z w)))) = w
section_in x = x

-- two tokens at least: the word `unity` and the number of the version
abbrev pub BeginsWithTwo : List Terminal → Type 0
BeginsWithTwo ts = (t : Terminal) × (u : Terminal) × (rest : List Terminal) × (ts ≡ t ∷ u ∷ rest)

-- they alone say the version, whatever follows
pub says_first : (later : Bool) (bytes : List ℕ) (front more : List Token) (ts : List Terminal) →
    terminals later bytes front ≡ ts → BeginsWithTwo ts → says_later (front ++ more) ≡ says_later front
says_first later bytes [] more ts e two = let q = two.3 in absurd (cc (e, q))
says_first later bytes (f ∷ []) more ts e two = let q = two.3 in absurd (cc (e, q))
says_first later bytes (f ∷ g ∷ fs) more ts e two = refl

-- the tokens that stay, and how another section's tokens go on
pub record Parts (d : Document) (ts : List Terminal) : Type 0 where
  pub front : List Terminal
  pub after : List Terminal
  pub split : ts ≡ front ++ after
  pub begins : BeginsWithTwo front
  pub after_is : After d.certificates after
  pub put : (s : Certificates) (us : List Terminal) → Derives grammar certificates_ (view_certificates s) us →
      Derives grammar document_ (view (record d { certificates = Some s })) (front ++ us)

pub parts_of : (d : Document) (ts : List Terminal) → Derives grammar document_ (view d) ts → Parts d ts
unfolding all_productions
parts_of d ts h =
    let whole = of_named h in
    let content = of_named whole.derives in
    let past = of_both content.derives in
    let version = of_both past.later in
    let parts = of_both version.later in
    let last = of_both parts.later in
    let first = of_token past.earlier in
    let number = of_version (of_named version.earlier).derives in
    let rest : past.other ≡ pair version.one (pair parts.one (pair last.one last.other)) =
    sym (ap (λ x. pair version.one (pair parts.one x)) last.is ∙ ap (λ x. pair version.one x) parts.is ∙ version.is) in
    let inner : past.other ≡ whole.tree = ap (λ x. second content.place x) past.is ∙ content.is in
    let there : node (kind Kind.document) whole.place (pair version.one (pair parts.one (pair last.one last.other)))
    ≡ view d = ap (λ x. node (kind Kind.document) whole.place x) (sym rest ∙ inner) ∙ whole.is in
    let tokens : ts ≡ past.front ++ (version.front ++ (parts.front ++ (last.front ++ last.more))) =
    past.split ∙ ap (λ x. past.front ++ x) (version.split
    ∙ ap (λ x. version.front ++ x) (parts.split ∙ ap (λ x. parts.front ++ x) last.split)) in
    record {
      front = past.front ++ (version.front ++ (parts.front ++ last.front));
      after = last.more;
      split = tokens ∙ sym (four past.front version.front parts.front last.front last.more);
      begins = (
        first.0,
        number.0,
        parts.front ++ last.front,
        ap (λ x. x ++ (version.front ++ (parts.front ++ last.front))) first.2
            ∙ ap (λ x. first.0 ∷ (x ++ (parts.front ++ last.front))) number.1,
      );
      after_is = after_is d.certificates last.other last.more last.later (ap section_in there);
      put = λ s us new.
          let kept : List Terminal = version.front ++ (parts.front ++ (last.front ++ us)) in
          let begins : whole.place ≡ place_of (past.front ++ kept) =
          whole.at ∙ ap place_of tokens ∙ same_place first.0 past.front _ kept first.2 in
          let tree : Tree = node (kind Kind.document) whole.place
          (pair version.one (pair parts.one (pair last.one (some (view_certificates s))))) in
          let all : List Terminal = (past.front ++ (version.front ++ (parts.front ++ last.front))) ++ us in
          let tree_is : tree ≡ view (record d { certificates = Some s }) =
          ap (with_section (some (view_certificates s))) there in
          subst (λ x. Derives grammar document_ x all) tree_is
          (subst (λ ts. Derives grammar document_ tree ts)
          (sym (four past.front version.front parts.front last.front us))
          (is_named (is_named (is_both past.earlier
          (is_both version.earlier (is_both parts.earlier (is_both last.earlier (is_some new) refl) refl) refl) refl)
          refl) begins));
    }
