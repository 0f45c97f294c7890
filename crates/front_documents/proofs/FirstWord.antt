-- The first word `certificates` of a document: no form before the section has it.
use Rattle.std.proofs.Common.{◌≡◌, ℕ, Bool, true, false, not, ◌&&◌, List, [], ◌∷◌, ◌++◌, refl, sym, ap, ◌∙◌, subst}
use Rattle.std.proofs.Common.{append_assoc, append-nil, inl, inr, ◌⊎◌}
use Rattle.std.specs.List.{list_all}
use Rattle.std.proofs.lemmas.Bool.{and_parts}
use Rattle.std.proofs.lemmas.List.Folds.{list_all-append}
use Rattle.case_tables.specs.declared.word_table.Word.{Word}
use Rattle.std.specs.Prelude.{IsTrue}
use Rattle.grammar_theory.specs.Ebnf.{none, Terminal, Tree, pair, node, some, Ebnf, Grammar, has, token, version, maybe}
use Rattle.grammar_theory.specs.Ebnf.{place_of, Derives, is_token, is_version, is_both, is_named, is_none, is_some}
use Rattle.grammar_theory.specs.Words.{words as text_words}
use Rattle.grammar_theory.proofs.Classes.{has_itself, has_one, not_true}
use Rattle.unity_syntax.specs.Classes.{reserved}
use Rattle.unity_syntax.specs.Kinds.{Kind, kind}
use Rattle.unity_syntax.specs.Grammar.{grammar, bodies, pred_, document_, certificates_, second}
use Rattle.unity_syntax.proofs.Avoids.{avoids, AreNot, are_not}
use Rattle.unity_syntax.proofs.LookAhead.{Each, each_number}
use Rattle.unity_syntax.proofs.Productions.{all_productions}
use Rattle.unity_parser.proofs.Parts.{of_named, of_both, BeginsWithTwo}

-- the word's class
abbrev pub word_class : ℕ
word_class = reserved Word.Certificates

abbrev pub words : List ℕ
words = word_class ∷ []

-- ---- lists without the word

never : (t : Terminal) → t.class ≡ word_class → not (has words t.class) ≡ true → ⊥
never t e h =
    let there : has words t.class ≡ true = has_itself word_class t.class e in
    let gone : has words t.class ≡ false = not_true (has words t.class) h in
    cc

pub not_inside : (xs us : List Terminal) (w : Terminal) → w.class ≡ word_class → AreNot words (xs ++ w ∷ us) → ⊥
not_inside [] us w e h = never w e (and_parts _ _ h).0
not_inside (x ∷ xs) us w e h = not_inside xs us w e (and_parts _ _ h).1

-- a list has one first word
pub split_once : (xs ys us vs : List Terminal) (x y : Terminal) → AreNot words xs → AreNot words ys
    → x.class ≡ word_class → y.class ≡ word_class → xs ++ x ∷ us ≡ ys ++ y ∷ vs → (xs ≡ ys) × (x ∷ us ≡ y ∷ vs)
split_once [] [] us vs x y h k e f same = (refl, same)
split_once [] (b ∷ ys) us vs x y h k e f same =
    let first : x ≡ b = cc in
    absurd (never b (ap (λ (t : Terminal). t.class) (sym first) ∙ e) (and_parts _ _ k).0)
split_once (a ∷ xs) [] us vs x y h k e f same =
    let first : a ≡ y = cc in
    absurd (never a (ap (λ (t : Terminal). t.class) first ∙ f) (and_parts _ _ h).0)
split_once (a ∷ xs) (b ∷ ys) us vs x y h k e f same =
    let first : a ≡ b = cc in
    let rest : xs ++ x ∷ us ≡ ys ++ y ∷ vs = cc in
    let later = split_once xs ys us vs x y (and_parts _ _ h).1 (and_parts _ _ k).1 e f rest in
    ((λ i. first i ∷ later.0 i), later.1)

join : (us vs : List Terminal) → AreNot words us → AreNot words vs → AreNot words (us ++ vs)
join us vs h k =
    list_all-append (λ (t : Terminal). not (has words t.class)) us vs
    ∙ ap (λ b. b && list_all (λ (t : Terminal). not (has words t.class)) vs) h ∙ k

-- ---- forms without the word

abbrev pub avoids_word : Ebnf → Bool
avoids_word e = avoids true words e

all_avoid : Each avoids_word bodies
unfolding all_productions
all_avoid = (
  refl,
  (
    refl,
    (
      refl,
      (refl, (refl, (refl, (refl, (refl, (refl, (refl, (refl, (refl, (refl, (refl, tt))))))))))),
    ),
  ),
)

pred_avoids : avoids_word pred_ ≡ true
unfolding all_productions
pred_avoids = refl

pub bodies_avoid : (k : ℕ) → true ≡ true → avoids_word (grammar.body k) ≡ true
bodies_avoid k h = each_number avoids_word bodies all_avoid pred_avoids k

-- ---- forms and their parts

of_maybe : {G : Grammar} {a : Ebnf} {z : Tree} {ts : List Terminal} → Derives G (maybe a) z ts
    → (ts ≡ []) ⊎ ((y : Tree) × Derives G a y ts × (some y ≡ z))
of_maybe is_none = inl refl
of_maybe (is_some {x = x} d) = inr (x, d, refl)

one_version : {G : Grammar} {c : ℕ} {vs : List ℕ} {z : Tree} {ts : List Terminal} → Derives G (version c vs) z ts
    → (t : Terminal) × (ts ≡ t ∷ [])
one_version (is_version {t = t} h q) = (t, refl)

one_token : {G : Grammar} {cs : List ℕ} {keep : Terminal → Tree} {z : Tree} {ts : List Terminal}
    → Derives G (token cs keep) z ts → (t : Terminal) × IsTrue (has cs t.class) × (ts ≡ t ∷ [])
one_token (is_token {t = t} h) = (t, h, refl)

same_place : (t : Terminal) (us rest more : List Terminal) → us ≡ t ∷ [] → place_of (us ++ rest) ≡ place_of (us ++ more)
same_place t us rest more e = ap (λ x. place_of (x ++ rest)) e ∙ sym (ap (λ x. place_of (x ++ more)) e)

four : (a b c d e : List Terminal) → (a ++ (b ++ (c ++ d))) ++ e ≡ a ++ (b ++ (c ++ (d ++ e)))
four a b c d e =
    append_assoc a (b ++ (c ++ d)) e
    ∙ ap (λ x. a ++ x) (append_assoc b (c ++ d) e ∙ ap (λ x. b ++ x) (append_assoc c d e))

-- a document's tree with another section
abbrev pub with_section : Tree → Tree → Tree
with_section c (node k p (pair x (pair y (pair z w)))) = node k p (pair x (pair y (pair z c)))
with_section c x = x

-- ---- the parts of a document

pub record Split (G : Grammar) (x : Tree) (ts : List Terminal) : Type 0 where
  pub front : List Terminal
  pub after : List Terminal
  pub split : ts ≡ front ++ after
  pub begins : BeginsWithTwo front
  pub without : AreNot words front
  pub tree : Tree
  pub last : Derives G (maybe certificates_) tree after
  pub put : (y : Tree) (us : List Terminal) → Derives G certificates_ y us
      → Derives G document_ (with_section (some y) x) (front ++ us)
  pub bare : Derives G document_ (with_section none x) front
  pub words_are : text_words tree ≡ [] → text_words (with_section none x) ≡ text_words x

module _ (G : Grammar) (bodies_are : (k : ℕ) → true ≡ true → avoids_word (G.body k) ≡ true) where
  pub split_document : {x : Tree} {ts : List Terminal} → Derives G document_ x ts → Split G x ts
  unfolding all_productions
  split_document {x} {ts} h =
      let whole = of_named h in
      let content = of_named whole.derives in
      let past = of_both content.derives in
      let version = of_both past.later in
      let parts = of_both version.later in
      let last = of_both parts.later in
      let first = one_token past.earlier in
      let number = one_version (of_named version.earlier).derives in
      let front = past.front ++ (version.front ++ (parts.front ++ last.front)) in
      let rest : past.other ≡ pair version.one (pair parts.one (pair last.one last.other)) =
      sym (ap (λ x. pair version.one (pair parts.one x)) last.is ∙ ap (λ x. pair version.one x) parts.is ∙ version.is)
      in
      let inner : past.other ≡ whole.tree = ap (λ x. second content.place x) past.is ∙ content.is in
      let there : node (kind Kind.document) whole.place (pair version.one (pair parts.one (pair last.one last.other)))
      ≡ x = ap (λ x. node (kind Kind.document) whole.place x) (sym rest ∙ inner) ∙ whole.is in
      let tokens : ts ≡ past.front ++ (version.front ++ (parts.front ++ (last.front ++ last.more))) =
      past.split ∙ ap (λ x. past.front ++ x) (version.split
      ∙ ap (λ x. version.front ++ x) (parts.split ∙ ap (λ x. parts.front ++ x) last.split)) in
      record {
        front = front;
        after = last.more;
        split = tokens ∙ sym (four past.front version.front parts.front last.front last.more);
        begins = (
          first.0,
          number.0,
          parts.front ++ last.front,
          ap (λ x. x ++ (version.front ++ (parts.front ++ last.front))) first.2
              ∙ ap (λ x. first.0 ∷ (x ++ (parts.front ++ last.front))) number.1,
        );
        without = join past.front (version.front ++ (parts.front ++ last.front))
            (are_not true words bodies_are past.earlier refl)
            (join version.front (parts.front ++ last.front) (are_not true words bodies_are version.earlier refl)
            (join parts.front last.front (are_not true words bodies_are parts.earlier refl)
            (are_not true words bodies_are last.earlier refl)));
        tree = last.other;
        last = last.later;
        put = λ y us new.
            let kept : List Terminal = version.front ++ (parts.front ++ (last.front ++ us)) in
            let begins : whole.place ≡ place_of (past.front ++ kept) =
            whole.at ∙ ap place_of tokens ∙ same_place first.0 past.front _ kept first.2 in
            let tree : Tree = node (kind Kind.document) whole.place
            (pair version.one (pair parts.one (pair last.one (some y)))) in
            let tree_is : tree ≡ with_section (some y) x = ap (with_section (some y)) there in
            subst (λ z. Derives G document_ z (front ++ us)) tree_is
            (subst (λ xs. Derives G document_ tree xs)
            (sym (four past.front version.front parts.front last.front us))
            (is_named (is_named (is_both past.earlier
            (is_both version.earlier (is_both parts.earlier (is_both last.earlier (is_some new) refl) refl) refl) refl)
            refl) begins));
        bare =
            let none_there = version.front ++ (parts.front ++ (last.front ++ [])) in
            let begins : whole.place ≡ place_of (past.front ++ none_there) =
            whole.at ∙ ap place_of tokens ∙ same_place first.0 past.front _ none_there first.2 in
            let tree : Tree = node (kind Kind.document) whole.place
            (pair version.one (pair parts.one (pair last.one none))) in
            let tree_is : tree ≡ with_section none x = ap (with_section none) there in
            subst (λ xs. Derives G document_ (with_section none x) xs) (append-nil front)
            (subst (λ z. Derives G document_ z (front ++ [])) tree_is
            (subst (λ xs. Derives G document_ tree xs)
            (sym (four past.front version.front parts.front last.front []))
            (is_named (is_named (is_both past.earlier
            (is_both version.earlier (is_both parts.earlier (is_both last.earlier is_none refl) refl) refl) refl)
            refl) begins)));
        words_are = λ h. subst (λ z. text_words (with_section none z) ≡ text_words z) there
            (ap (λ ws. text_words version.one ++ (text_words parts.one ++ (text_words last.one ++ ws))) (sym h));
      }

  -- the section of a document whose tokens have the word for the first time behind these
  pub record SectionAt (x : Tree) (before us : List Terminal) (w : Terminal) : Type 0 where
    pub begins : BeginsWithTwo before
    pub tree : Tree
    pub section : Derives G certificates_ tree (w ∷ us)
    pub put : (y : Tree) (vs : List Terminal) → Derives G certificates_ y vs
        → Derives G document_ (with_section (some y) x) (before ++ vs)
    pub bare : Derives G document_ (with_section none x) before
    pub words_are : text_words tree ≡ [] → text_words (with_section none x) ≡ text_words x

  section_first : {y : Tree} {ts : List Terminal} → Derives G certificates_ y ts
      → (t : Terminal) × (rest : List Terminal) × (ts ≡ t ∷ rest) × (t.class ≡ word_class)
  unfolding all_productions
  section_first h =
      let whole = of_named h in
      let content = of_named whole.derives in
      let parts = of_both content.derives in
      let first = one_token parts.earlier in
      (first.0, parts.more, parts.split ∙ ap (λ us. us ++ parts.more) first.2, has_one word_class first.0.class first.1)

  pub section_at : {x : Tree} (before us : List Terminal) (w : Terminal) → AreNot words before → w.class ≡ word_class
      → Derives G document_ x (before ++ w ∷ us) → SectionAt x before us w
  section_at {x} before us w without is_word d = go (split_document d)
    where
      go : Split G x (before ++ w ∷ us) → SectionAt x before us w
      go s = elim (of_maybe s.last) [
        | inl none_left ↦
            let all : before ++ w ∷ us ≡ s.front =
            s.split ∙ ap (λ xs. s.front ++ xs) none_left ∙ append-nil s.front in
            absurd (not_inside before us w is_word (subst (AreNot words) (sym all) s.without))
        | inr found ↦
            let first = section_first found.1 in
            let cut = split_once before s.front us first.1 w first.0 without s.without is_word first.3
            (s.split ∙ ap (λ xs. s.front ++ xs) first.2) in
            record {
              begins = subst BeginsWithTwo (sym cut.0) s.begins;
              tree = found.0;
              section = subst (λ xs. Derives G certificates_ found.0 xs) (first.2 ∙ sym cut.1) found.1;
              put = λ y vs new. subst (λ xs. Derives G document_ (with_section (some y) x) (xs ++ vs)) (sym cut.0)
                  (s.put y vs new);
              bare = subst (λ xs. Derives G document_ (with_section none x) xs) (sym cut.0) s.bare;
              words_are = λ h. s.words_are (ap text_words (sym found.2) ∙ h);
            }
      ]
