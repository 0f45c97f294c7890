-- The first bad token of a text whose front is a document, and the document that front and section are.
use Rattle.std.proofs.Common.{◌≡◌, ℕ, Bool, true, not, List, [], ◌∷◌, ◌++◌, length, Option, Some, None}
use Rattle.std.proofs.Common.{refl, sym, ap, ◌∙◌, subst, append_assoc, append-nil}
use Rattle.std.specs.List.{list_all}
use Rattle.std.proofs.lemmas.Bool.{and_parts}
use Rattle.std.proofs.lemmas.List.{append_cancel_right}
use Rattle.std.proofs.lemmas.List.Folds.{list_all-append}
use Rattle.case_tables.specs.declared.code_table.Code.{Code}
use Rattle.case_tables.specs.declared.word_table.Word.{Word}
use Rattle.grammar_theory.specs.Ebnf.{Terminal, Tree, some, Grammar, of_any_version, has, Derives}
use Rattle.grammar_theory.specs.Reader.{Unexpected}
use Rattle.grammar_theory.specs.Answers.{Opens, Allowed, overfull, IsReadFault}
use Rattle.grammar_theory.proofs.Parts.{SomeTree}
use Rattle.unity_syntax.specs.declared.token.Token.{Token}
use Rattle.unity_syntax.specs.declared.certificate.Certificates.{Certificates}
use Rattle.unity_syntax.specs.declared.document.Document.{Document}
use Rattle.unity_syntax.specs.Classes.{terminal, terminals, says_later}
use Rattle.unity_syntax.specs.Grammar.{grammar, document_, certificates_}
use Rattle.unity_syntax.specs.View.{view, view_certificates}
use Rattle.unity_syntax.proofs.Avoids.{AreNot}
use Rattle.unity_lexer.specs.declared.front.Front.{Front}
use Rattle.unity_lexer.specs.Tokens.{AreInOrder}
use Rattle.unity_parser.specs.ParseAnswers.{most_brackets}
use Rattle.unity_parser.specs.Document.{IsDocument, IsFault, no_document}
use Rattle.unity_parser.specs.Fronts.{word_at}
use Rattle.unity_parser.proofs.FrontFaults.{none_before}
use Rattle.unity_parser.proofs.NoBrackets.{none_over_front, section_opens_none}
use Rattle.certificate_events.specs.declared.reader.Taken.{Taken}
use Rattle.certificate_events.specs.Sections.{IsSection, IsSections, TokenTakes}
use Rattle.front_documents.specs.Laws.{section_word, IsCutFront, AreBehind, BeginsSections, SectionsComplete}
use Rattle.front_documents.specs.Laws.{SectionFaults, SectionsEndEarly}
use Rattle.front_documents.proofs.FirstWord.{avoids_word, bodies_avoid, with_section, section_at}
use Rattle.front_documents.proofs.Sections.{section_back, begins_well, goes_on, to_section, section_here}
use Rattle.front_documents.proofs.Fronts.{terminals_join, word_free, whole_tokens, front_order, Known, known}

-- a front part of tokens of which none is of a class has none
front_not : (os : List ℕ) (us vs : List Terminal) → AreNot os (us ++ vs) → AreNot os us
front_not os us vs h = (and_parts (list_all (λ (t : Terminal). not (has os t.class)) us) _
    (sym (list_all-append (λ (t : Terminal). not (has os t.class)) us vs) ∙ h)).0

module _ (bytes : List ℕ) (f : Front) (cut end : ℕ) (c : IsCutFront bytes f cut end) (order : AreInOrder 0 cut f.tokens)
    (d : Document) (k : Known bytes f cut end c order d) where
  abbrev later : Bool
  later = says_later f.tokens

  abbrev before : List Terminal
  before = terminals later bytes f.tokens

  abbrev word : Terminal
  word = terminal later bytes (section_word cut end)

  abbrev behind : List Token → List Terminal
  behind ts = terminals later bytes ts

  -- the tokens of the text, as the grammar sees them
  all_seen : (ts : List Token) → (let all = f.tokens ++ section_word cut end ∷ ts in
      terminals (says_later all) bytes all) ≡ before ++ word ∷ behind ts
  all_seen ts =
      let all = f.tokens ++ section_word cut end ∷ ts in
      ap (λ l. terminals l bytes all) (k.said (section_word cut end ∷ ts))
      ∙ terminals_join later bytes f.tokens (section_word cut end ∷ ts)

  -- ---- tokens that a section goes on with

  module _ (ts : List Token) (open_section : BeginsSections later ts) where
    more : (rest : List Token) × SomeTree grammar certificates_ (word ∷ (behind ts ++ behind rest))
    more =
        let s = section_here later bytes word (ts ++ open_section.0) open_section.1.0 refl open_section.1.1 in
        let tree : Certificates = record { at = word.place; items = open_section.1.0.items } in
        let joined = terminals_join later bytes ts open_section.0 in
        goes_on later bytes word ts refl (begins_well word (behind ts) (behind open_section.0)
        (subst (λ xs. Derives grammar certificates_ (view_certificates tree) (word ∷ xs)) joined s))

    opened : Opens grammar document_ (before ++ word ∷ behind ts)
    opened =
        let m = more in
        record {
          tree = with_section (some m.1.tree) (view d);
          rest = behind m.0;
          derives = subst (λ xs. Derives grammar document_ (with_section (some m.1.tree) (view d)) xs)
              (sym (append_assoc before (word ∷ behind ts) (behind m.0)))
              (k.at.put m.1.tree (word ∷ (behind ts ++ behind m.0)) m.1.derives);
        }

    few_open : overfull grammar most_brackets (before ++ word ∷ behind ts) ≡ None
    few_open =
        let m = more in
        none_over_front grammar before (word ∷ terminal later bytes (word_at cut Word.End) ∷ []) (word ∷ behind ts)
        (front_not grammar.opening (word ∷ behind ts) (behind m.0) (section_opens_none m.1.derives)) most_brackets k.few

  -- ---- the token with which none does

  -- tokens that go on from the front to a bad token
  goes_bad : (G : Grammar) (bodies_are : (n : ℕ) → true ≡ true → avoids_word (G.body n) ≡ true)
      → ((y : Tree) (us : List Terminal) → Derives G certificates_ y us → Derives grammar certificates_ y us)
      → (ts : List Token) (t : Token) → TokenTakes later ts t Taken.Unexpected → (rest : List Terminal) (x : Tree)
      → Derives G document_ x (before ++ word ∷ (behind ts ++ terminal later bytes t ∷ rest)) → ⊥
  goes_bad G bodies_are back ts t bad rest x derived =
      let at = section_at G bodies_are before (behind ts ++ terminal later bytes t ∷ rest) word
      (word_free later bytes f.tokens c.none) refl derived in
      let one = terminal later bytes t in
      let all = ts ++ t ∷ [] in
      let joined : behind ts ++ one ∷ rest ≡ behind all ++ rest =
      sym (append_assoc (behind ts) (one ∷ []) rest)
      ∙ ap (λ xs. xs ++ rest) (sym (terminals_join later bytes ts (t ∷ []))) in
      let section = subst (λ xs. Derives grammar certificates_ at.tree (word ∷ xs)) joined
      (back at.tree (word ∷ (behind ts ++ one ∷ rest)) at.section) in
      let m = goes_on later bytes word all refl (begins_well word (behind all) rest section) in
      let whole : behind all ++ behind m.0 ≡ behind (ts ++ t ∷ m.0) =
      sym (terminals_join later bytes all m.0) ∙ ap behind (append_assoc ts (t ∷ []) m.0) in
      let found = to_section later bytes word (ts ++ t ∷ m.0) refl
      (subst (λ xs. Derives grammar certificates_ m.1.tree (word ∷ xs)) whole m.1.derives) in
      bad m.0 found.0 found.1

  not_allowed : (G : Grammar) (bodies_are : (n : ℕ) → true ≡ true → avoids_word (G.body n) ≡ true)
      → ((y : Tree) (us : List Terminal) → Derives G certificates_ y us → Derives grammar certificates_ y us)
      → (ts : List Token) (t : Token) (rest : List Token) → TokenTakes later ts t Taken.Unexpected
      → ¬ Allowed G document_ ((before ++ word ∷ behind ts) ++ behind (t ∷ rest)) (behind (t ∷ rest))
  not_allowed G bodies_are back ts t rest bad a =
      let front = before ++ word ∷ behind ts in
      let front_is : front ≡ a.front = append_cancel_right front a.front (behind (t ∷ rest)) a.split in
      let one : terminal later bytes t ≡ a.at = first_same a.rest_is in
      let tokens : (a.front ++ a.at ∷ []) ++ a.opens.rest
      ≡ before ++ word ∷ (behind ts ++ terminal later bytes t ∷ a.opens.rest) =
      ap (λ xs. (xs ++ a.at ∷ []) ++ a.opens.rest) (sym front_is)
      ∙ ap (λ u. (front ++ u ∷ []) ++ a.opens.rest) (sym one)
      ∙ append_assoc front (terminal later bytes t ∷ []) a.opens.rest
      ∙ append_assoc before (word ∷ behind ts) (terminal later bytes t ∷ a.opens.rest) in
      goes_bad G bodies_are back ts t bad a.opens.rest a.opens.tree
      (subst (λ xs. Derives G document_ a.opens.tree xs) tokens a.opens.derives)
    where
      first_same : {x y : Terminal} {xs ys : List Terminal} → x ∷ xs ≡ y ∷ ys → x ≡ y
      first_same e = cc

  bad_token : (ts : List Token) (t : Token) (rest : List Token) → BeginsSections later ts →
      TokenTakes later ts t Taken.Unexpected
      → IsReadFault grammar most_brackets document_ ((before ++ word ∷ behind ts) ++ behind (t ∷ rest))
      (Unexpected (behind (t ∷ rest)))
  bad_token ts t rest open_section bad = (
    record {
      front = before ++ word ∷ behind ts;
      split = refl;
      opens = opened ts open_section;
      next = not_allowed grammar bodies_avoid (λ y us d. d) ts t rest bad;
      no_end = λ none. absurd (some_left none);
    },
    not_allowed (of_any_version grammar) bodies_avoid (λ y us d. section_back d) ts t rest bad,
    none_before grammar most_brackets (before ++ word ∷ behind ts) (behind (t ∷ rest)) (few_open ts open_section),
  )
    where
      some_left : behind (t ∷ rest) ≡ [] → ⊥
      some_left e = cc

  -- ---- the end with which none does

  early : (ts : List Token) → BeginsSections later ts → ¬ IsSections later ts
      → IsReadFault grammar most_brackets document_ (before ++ word ∷ behind ts) (Unexpected [])
  early ts open_section none = (
    record {
      front = before ++ word ∷ behind ts;
      split = sym (append-nil (before ++ word ∷ behind ts));
      opens = opened ts open_section;
      next = λ a. no_next a.rest_is;
      no_end = λ e x derived.
          let at = section_at grammar bodies_avoid before (behind ts) word (word_free later bytes f.tokens c.none) refl
          derived in
          none (to_section later bytes word ts refl at.section);
    },
    λ a. no_next a.rest_is,
    λ at e. absurd (no_more (sym (few_open ts open_section) ∙ e)),
  )
    where
      no_next : {x : Terminal} {xs : List Terminal} → ◌≡◌ {A = List Terminal} [] (x ∷ xs) → ⊥
      no_next e = cc

      no_more : {xs : List Terminal} → ◌≡◌ {A = Option (List Terminal)} None (Some xs) → ⊥
      no_more e = cc

  -- ---- the laws, where the front is known

  pub section_fault : (ts : List Token) (t : Token) (rest : List Token) → AreBehind bytes end (ts ++ t ∷ rest)
      → BeginsSections later ts → TokenTakes later ts t Taken.Unexpected → IsFault bytes Code.Unexpected t.start
  section_fault ts t rest behind_all open_section bad =
      let all = f.tokens ++ section_word cut end ∷ (ts ++ t ∷ rest) in
      let tokens : before ++ word ∷ behind (ts ++ t ∷ rest) ≡ (before ++ word ∷ behind ts) ++ behind (t ∷ rest) =
      ap (λ xs. before ++ word ∷ xs) (terminals_join later bytes ts (t ∷ rest))
      ∙ sym (append_assoc before (word ∷ behind ts) (behind (t ∷ rest))) in
      no_document all (whole_tokens bytes f cut end c (ts ++ t ∷ rest) behind_all) (record {
        fault = Unexpected (behind (t ∷ rest));
        exact = subst (λ xs. IsReadFault grammar most_brackets document_ xs (Unexpected (behind (t ∷ rest))))
            (sym (all_seen (ts ++ t ∷ rest) ∙ tokens)) (bad_token ts t rest open_section bad);
        code_is = refl;
        place_is = refl;
      })

  pub early_end : (ts : List Token) → AreBehind bytes end ts → BeginsSections later ts → ¬ IsSections later ts
      → IsFault bytes Code.Unexpected (length bytes)
  early_end ts behind_all open_section none =
      let all = f.tokens ++ section_word cut end ∷ ts in
      no_document all (whole_tokens bytes f cut end c ts behind_all) (record {
        fault = Unexpected [];
        exact = subst (λ xs. IsReadFault grammar most_brackets document_ xs (Unexpected [])) (sym (all_seen ts))
            (early ts open_section none);
        code_is = refl;
        place_is = refl;
      })

  pub complete : (ts : List Token) (s : Certificates) → AreBehind bytes end ts → IsSection later ts s
      → IsDocument bytes (record d { certificates = Some (record { at = cut; items = s.items }) })
  complete ts s behind_all is =
      let all = f.tokens ++ section_word cut end ∷ ts in
      let here = section_here later bytes word ts s refl is in
      let seen = sym (all_seen ts) in
      let whole : Derives grammar document_
      (view (record d { certificates = Some (record { at = cut; items = s.items }) }))
      (before ++ word ∷ behind ts) =
      k.at.put (view_certificates (record { at = cut; items = s.items })) (word ∷ behind ts) here in
      let few : overfull grammar most_brackets (before ++ word ∷ behind ts) ≡ None =
      none_over_front grammar before (word ∷ terminal later bytes (word_at cut Word.End) ∷ []) (word ∷ behind ts)
      (section_opens_none here) most_brackets k.few in
      record {
        tokens = all;
        lexed = whole_tokens bytes f cut end c ts behind_all;
        parsed = (
          subst (λ xs. Derives grammar document_
              (view (record d { certificates = Some (record { at = cut; items = s.items }) })) xs) seen whole,
          subst (λ xs. overfull grammar most_brackets xs ≡ None) seen few,
        );
      }

-- ---- the laws

pub sections_complete : SectionsComplete
sections_complete bytes f cut end ts d s c behind_all parsed is =
    let order = front_order bytes f cut end c ts behind_all in
    complete bytes f cut end c order d (known bytes f cut end c order d parsed) ts s behind_all is

pub section_faults : SectionFaults
section_faults bytes f cut end ts t rest d c behind_all parsed open_section bad =
    let order = front_order bytes f cut end c (ts ++ t ∷ rest) behind_all in
    section_fault bytes f cut end c order d (known bytes f cut end c order d parsed) ts t rest behind_all open_section
    bad

pub sections_end_early : SectionsEndEarly
sections_end_early bytes f cut end ts d c behind_all parsed open_section none =
    let order = front_order bytes f cut end c ts behind_all in
    early_end bytes f cut end c order d (known bytes f cut end c order d parsed) ts behind_all open_section none
