-- The first fault of a front is that of the text.
use Rattle.std.proofs.Common.{◌≡◌, ℕ, zero, suc, Bool, true, false, if◌then◌else◌, List, [], ◌∷◌, ◌++◌, length, Some}
use Rattle.std.proofs.Common.{refl, sym, ap, ◌∙◌, subst, append_assoc, append-nil}
use Rattle.case_tables.specs.declared.word_table.Word.{Word}
use Rattle.grammar_theory.specs.Ebnf.{Terminal, nil, some, Grammar, has, Derives, is_no_tree}
use Rattle.grammar_theory.specs.Reader.{Fault, Unexpected, OtherVersion, TooDeep}
use Rattle.grammar_theory.specs.Answers.{Opens, FirstBadAt, overfull, deeper, IsReadFault}
use Rattle.grammar_theory.proofs.Parts.{SomeTree}
use Rattle.unity_syntax.specs.declared.token.Token.{Token}
use Rattle.unity_syntax.specs.Classes.{terminal, terminals, says_later}
use Rattle.unity_syntax.specs.Grammar.{grammar, document_}
use Rattle.unity_lexer.specs.declared.front.Front.{Front}
use Rattle.unity_lexer.proofs.ScanSteps.{reads_then}
use Rattle.unity_parser.specs.ParseAnswers.{most_brackets, code_of, rest_of, beginning}
use Rattle.unity_parser.specs.Document.{no_token, no_document}
use Rattle.unity_parser.specs.Fronts.{word_at, front_tokens, with_rest, empty_section}
use Rattle.unity_parser.proofs.FrontFaults.{fault_stays}
use Rattle.certificate_events.proofs.Back.{back_end}
use Rattle.front_documents.specs.Laws.{section_word, IsCutFront, FrontFaultsStay, TokenFaultsStay}
use Rattle.front_documents.proofs.FirstWord.{bodies_avoid, with_section, section_at}
use Rattle.front_documents.proofs.Sections.{put_word}
use Rattle.front_documents.proofs.Fronts.{terminals_join, word_free, whole_tokens, front_order, seen}

-- where no token can be read behind the word, none can in the text
pub token_faults_stay : TokenFaultsStay
token_faults_stay bytes f cut end ts rest code at c reads faulty = no_token (record {
  tokens = (f.tokens ++ section_word cut end ∷ []) ++ ts;
  rest = rest;
  reads = reads_then c.reads reads;
  faulty = faulty;
})

-- ---- where a fault stands

data Where (all : List Terminal) (w e : Terminal) (front rest : List Terminal) : Type 0 where
  inside : (more : List Terminal) → all ≡ front ++ more → rest ≡ more ++ w ∷ e ∷ [] → Where all w e front rest
  at_end : front ≡ all ++ w ∷ [] → rest ≡ e ∷ [] → Where all w e front rest
  behind : front ≡ all ++ w ∷ e ∷ [] → rest ≡ [] → Where all w e front rest

place_rest : (all front rest : List Terminal) (w e : Terminal) → all ++ w ∷ e ∷ [] ≡ front ++ rest
    → Where all w e front rest
place_rest [] [] rest w e h = inside [] refl (sym h)
place_rest [] (a ∷ []) rest w e h =
    let first : a ≡ w = cc in
    let left : rest ≡ e ∷ [] = cc in
    at_end (ap (λ t. t ∷ []) first) left
place_rest [] (a ∷ b ∷ []) rest w e h =
    let first : a ≡ w = cc in
    let second : b ≡ e = cc in
    let left : rest ≡ [] = cc in
    behind (λ i. first i ∷ second i ∷ []) left
place_rest [] (a ∷ b ∷ c ∷ front) rest w e h = let no : ⊥ = cc in absurd no
place_rest (x ∷ all) [] rest w e h = inside (x ∷ all) refl (sym h)
place_rest (x ∷ all) (a ∷ front) rest w e h =
    let first : x ≡ a = cc in
    let later : all ++ w ∷ e ∷ [] ≡ front ++ rest = cc in
    elim (place_rest all front rest w e later) [
      | inside more p q ↦ inside more (λ i. first i ∷ p i) q
      | at_end p q ↦ at_end (ap (λ t. t ∷ front) (sym first) ∙ ap (λ xs. x ∷ xs) p) q
      | behind p q ↦ behind (ap (λ t. t ∷ front) (sym first) ∙ ap (λ xs. x ∷ xs) p) q
    ]

-- what is one bracket too many opens one
too_many_opens : (g : Grammar) (ts : List Terminal) (levels : ℕ) (x : Terminal) (xs : List Terminal)
    → overfull g levels ts ≡ Some (x ∷ xs) → has g.opening x.class ≡ true
too_many_opens g [] levels x xs h = let no : ⊥ = cc in absurd no
too_many_opens g (t ∷ ts) levels x xs h = go (has g.opening t.class) refl (has g.closing t.class) levels h
    (λ n. too_many_opens g ts n x xs)
  where
    go : (o : Bool) → has g.opening t.class ≡ o → (c : Bool) (levels : ℕ) →
        (if o then deeper levels (λ n. overfull g n ts) (t ∷ ts)
        else (if c then overfull g (suc levels) ts else overfull g levels ts)) ≡ Some (x ∷ xs) →
        ((n : ℕ) → overfull g n ts ≡ Some (x ∷ xs) → has g.opening x.class ≡ true) → has g.opening x.class ≡ true
    go true e c zero h ih = let first : t ≡ x = cc in ap (λ (t : Terminal). has g.opening t.class) (sym first) ∙ e
    go true e c (suc n) h ih = ih n h
    go false e true n h ih = ih (suc n) h
    go false e false n h ih = ih n h

-- ---- what a front may be followed by

module _ (bytes : List ℕ) (f : Front) (cut end : ℕ) (c : IsCutFront bytes f cut end) (l : Bool) where
  abbrev before : List Terminal
  before = terminals l bytes f.tokens

  abbrev word : Terminal
  word = terminal l bytes (section_word cut end)

  abbrev last : Terminal
  last = terminal l bytes (word_at cut Word.End)

  -- what the word may stand behind is a document with an empty section
  ended : (us : List Terminal) → Opens grammar document_ (before ++ word ∷ us)
      → SomeTree grammar document_ (before ++ word ∷ last ∷ [])
  ended us o =
      let derived = subst (λ xs. Derives grammar document_ o.tree xs) (append_assoc before (word ∷ us) o.rest) o.derives
      in
      let at = section_at grammar bodies_avoid before (us ++ o.rest) word (word_free l bytes f.tokens c.none) refl
      derived
      in
      let empty = put_word word (last ∷ []) refl
      (back_end 0 last [] refl (record { tree = nil; derives = is_no_tree })) in
      record {
        tree = with_section (some empty.tree) o.tree;
        derives = at.put empty.tree (word ∷ last ∷ []) empty.derives;
      }

  open_again : (front us : List Terminal) → front ≡ before ++ word ∷ us → Opens grammar document_ front
      → SomeTree grammar document_ (before ++ word ∷ last ∷ [])
  open_again front us e o = ended us (subst (λ xs. Opens grammar document_ xs) e o)

  -- no fault stands at the end of the empty section or behind it
  not_at_end : (rest : List Terminal) → FirstBadAt grammar document_ (before ++ word ∷ last ∷ []) rest
      → (front : List Terminal) → front ≡ before ++ word ∷ [] → rest ≡ last ∷ []
      → before ++ word ∷ last ∷ [] ≡ front ++ rest → Opens grammar document_ front → ⊥
  not_at_end rest b front front_is rest_is split opens =
      let s = open_again front [] front_is opens in
      b.next (record {
        front = front;
        at = last;
        later = [];
        rest_is = rest_is;
        split = split;
        opens = record {
          tree = s.tree;
          rest = [];
          derives = subst (λ xs. Derives grammar document_ s.tree xs)
              (split ∙ ap (λ xs. front ++ xs) rest_is ∙ sym (append-nil (front ++ last ∷ []))) s.derives;
        };
      })

  not_behind : (rest : List Terminal) → FirstBadAt grammar document_ (before ++ word ∷ last ∷ []) rest
      → (front : List Terminal) → front ≡ before ++ word ∷ last ∷ [] → rest ≡ []
      → Opens grammar document_ front → ⊥
  not_behind rest b front front_is rest_is opens =
      let s = open_again front (last ∷ []) front_is opens in
      b.no_end rest_is s.tree s.derives

  -- a fault that stands in the front or at the word
  record Stays (fault : Fault) : Type 0 where
    front : List Terminal
    more : List Terminal
    all : before ≡ front ++ more
    rest : rest_of fault ≡ more ++ word ∷ last ∷ []

  stands : (fault : Fault) → IsReadFault grammar most_brackets document_ (before ++ word ∷ last ∷ []) fault
      → Stays fault
  stands (Unexpected rest) exact =
      let b = exact.0 in
      elim (place_rest before b.front rest word last b.split) [
        | inside more p q ↦ record { front = b.front; more = more; all = p; rest = q }
        | at_end p q ↦ absurd (not_at_end rest b b.front p q b.split b.opens)
        | behind p q ↦ absurd (not_behind rest b b.front p q b.opens)
      ]
  stands (OtherVersion rest) exact =
      let b = exact.0 in
      elim (place_rest before b.front rest word last b.split) [
        | inside more p q ↦ record { front = b.front; more = more; all = p; rest = q }
        | at_end p q ↦ absurd (not_at_end rest b b.front p q b.split b.opens)
        | behind p q ↦ absurd (not_behind rest b b.front p q b.opens)
      ]
  stands (TooDeep rest) exact =
      let a = exact.0 in
      elim (place_rest before a.front rest word last a.split) [
        | inside more p q ↦ record { front = a.front; more = more; all = p; rest = q }
        | at_end p q ↦
            let opens : has grammar.opening last.class ≡ true =
            too_many_opens grammar (before ++ word ∷ last ∷ []) most_brackets last []
            (exact.1 ∙ ap (λ xs. Some xs) q) in
            let no : false ≡ true = opens in
            absurd cc
        | behind p q ↦ absurd (none_at (sym q ∙ a.rest_is))
      ]
    where
      none_at : {x : Terminal} {xs : List Terminal} → ◌≡◌ {A = List Terminal} [] (x ∷ xs) → ⊥
      none_at e = cc

  same_rest : (fault : Fault) (rest : List Terminal) → rest_of fault ≡ rest → fault ≡ with_rest fault rest
  same_rest (Unexpected old) rest e = ap (λ xs. Unexpected xs) e
  same_rest (OtherVersion old) rest e = ap (λ xs. OtherVersion xs) e
  same_rest (TooDeep old) rest e = ap (λ xs. TooDeep xs) e

  -- whatever follows the word
  follows : (fault : Fault) (us : List Terminal)
      → IsReadFault grammar most_brackets document_ (before ++ word ∷ last ∷ []) fault
      → (more : List Terminal) × (rest_of fault ≡ more ++ word ∷ last ∷ [])
      × IsReadFault grammar most_brackets document_ (before ++ word ∷ us) (with_rest fault (more ++ word ∷ us))
  follows fault us exact =
      let s = stands fault exact in
      let was : before ++ word ∷ last ∷ [] ≡ s.front ++ (s.more ++ word ∷ last ∷ []) =
      ap (λ xs. xs ++ word ∷ last ∷ []) s.all ∙ append_assoc s.front s.more (word ∷ last ∷ []) in
      let now : before ++ word ∷ us ≡ s.front ++ (s.more ++ word ∷ us) =
      ap (λ xs. xs ++ word ∷ us) s.all ∙ append_assoc s.front s.more (word ∷ us) in (
        s.more,
        s.rest,
        subst (λ xs. IsReadFault grammar most_brackets document_ xs (with_rest fault (s.more ++ word ∷ us))) (sym now)
            (fault_stays grammar most_brackets document_ fault s.front s.more (last ∷ []) us word refl
            (subst (λ xs. IsReadFault grammar most_brackets document_ xs (with_rest fault (s.more ++ word ∷ last ∷ [])))
            was (subst (λ x. IsReadFault grammar most_brackets document_ (before ++ word ∷ last ∷ []) x)
            (same_rest fault (s.more ++ word ∷ last ∷ []) s.rest) exact))),
      )

-- ---- the law

code_same : (fault : Fault) (rest : List Terminal) → code_of fault ≡ code_of (with_rest fault rest)
code_same (Unexpected old) rest = refl
code_same (OtherVersion old) rest = refl
code_same (TooDeep old) rest = refl

left_is : (fault : Fault) (rest : List Terminal) → rest ≡ rest_of (with_rest fault rest)
left_is (Unexpected old) rest = refl
left_is (OtherVersion old) rest = refl
left_is (TooDeep old) rest = refl

place_same : (m n : ℕ) (more us vs : List Terminal) (w : Terminal)
    → beginning m (more ++ w ∷ us) ≡ beginning n (more ++ w ∷ vs)
place_same m n [] us vs w = refl
place_same m n (x ∷ more) us vs w = refl

-- the version that the front alone tells, or a front of no token
front_same : (bytes : List ℕ) (front us : List Token) (cut end : ℕ)
    → terminals (says_later (front ++ section_word cut end ∷ us)) bytes front
    ≡ terminals (says_later (front ++ empty_section (Some cut))) bytes front
front_same bytes [] us cut end = refl
front_same bytes (x ∷ []) us cut end = refl
front_same bytes (x ∷ y ∷ front) us cut end = refl

pub front_faults_stay : FrontFaultsStay
front_faults_stay bytes f cut end ts code at c behind_all r =
    let order = front_order bytes f cut end c ts behind_all in
    let all = f.tokens ++ section_word cut end ∷ ts in
    let l = says_later (front_tokens f) in
    let exact = subst (λ xs. IsReadFault grammar most_brackets document_ xs r.fault) (seen bytes f cut end c order l)
    r.exact in
    let us = terminals (says_later all) bytes ts in
    let word = terminal l bytes (section_word cut end) in
    let found = follows bytes f cut end c l r.fault us exact in
    let said : terminals (says_later all) bytes f.tokens ≡ terminals l bytes f.tokens =
    front_same bytes f.tokens ts cut end ∙ ap (λ o. terminals (says_later (f.tokens ++ empty_section o)) bytes f.tokens)
    (sym c.at) in
    let tokens : terminals (says_later all) bytes all ≡ terminals l bytes f.tokens ++ word ∷ us =
    terminals_join (says_later all) bytes f.tokens (section_word cut end ∷ ts) ∙ ap (λ xs. xs ++ word ∷ us) said in
    let rest = found.0 ++ word ∷ us in
    no_document all (whole_tokens bytes f cut end c ts behind_all) (record {
      fault = with_rest r.fault rest;
      exact = subst (λ xs. IsReadFault grammar most_brackets document_ xs (with_rest r.fault rest)) (sym tokens)
          found.2;
      code_is = r.code_is ∙ code_same r.fault rest;
      place_is = r.place_is ∙ ap (beginning (length f.bytes.items)) found.1
          ∙ place_same (length f.bytes.items) (length bytes) found.0 _ us word
          ∙ ap (beginning (length bytes)) (left_is r.fault rest);
    })
