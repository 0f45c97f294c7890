-- The words of a document stand before its certificates.
use Rattle.std.proofs.Common.{◌≡◌, ℕ, ◌≤◌, Bool, true, false, List, [], ◌∷◌, ◌++◌, length, take, None, refl, sym}
use Rattle.std.proofs.Common.{ap}
use Rattle.std.proofs.Common.{◌∙◌, subst, arith, append-nil}
use Rattle.std.proofs.lemmas.List.{length-take-le}
use Rattle.case_tables.specs.declared.word_table.Word.{Word}
use Rattle.grammar_theory.specs.Ebnf.{Terminal, Tree, none, Derives}
use Rattle.grammar_theory.specs.Answers.{overfull}
use Rattle.grammar_theory.specs.Words.{words}
use Rattle.unity_syntax.specs.declared.token.Token.{Token}
use Rattle.unity_syntax.specs.declared.certificate.Pair.{Pair}
use Rattle.unity_syntax.specs.declared.certificate.Node.{Node}
use Rattle.unity_syntax.specs.declared.certificate.CertText.{CertText}
use Rattle.unity_syntax.specs.declared.certificate.Certificates.{Certificates}
use Rattle.unity_syntax.specs.declared.document.Document.{Document}
use Rattle.unity_syntax.specs.Classes.{terminal, terminals, says_later}
use Rattle.unity_syntax.specs.Grammar.{grammar, document_, certificates_}
use Rattle.unity_syntax.specs.View.{view, view_flag, view_list, view_pair, view_node, view_certificate}
use Rattle.unity_syntax.specs.View.{view_certificates}
use Rattle.unity_lexer.specs.Tokens.{AreInOrder}
use Rattle.unity_lexer.proofs.SomeAnswer.{IsTokens-in_order}
use Rattle.unity_parser.specs.ParseAnswers.{most_brackets, IsDocumentOf, WordsRise}
use Rattle.unity_parser.specs.Fronts.{word_at}
use Rattle.unity_parser.proofs.FrontNames.{names_stay}
use Rattle.unity_parser.proofs.NoBrackets.{none_over_front}
use Rattle.unity_parser.proofs.Parsed.{words_stand}
use Rattle.certificate_events.proofs.Along.{section_leads}
use Rattle.front_documents.specs.Laws.{section_word, WordsInFront}
use Rattle.front_documents.proofs.FirstWord.{with_section}
use Rattle.front_documents.proofs.Fronts.{whole_tokens, front_order, known}

-- ---- certificates have no words

flag_words : (b : Bool) → words (view_flag b) ≡ []
flag_words true = refl
flag_words false = refl

list_words : {A : Type 0} (view_part : A → Tree) → ((a : A) → words (view_part a) ≡ []) → (xs : List A)
    → words (view_list view_part xs) ≡ []
list_words view_part each [] = refl
list_words view_part each (x ∷ xs) =
    let one = each x in
    let rest = list_words view_part each xs in
    (λ i. one i ++ rest i)

pair_words : (p : Pair) → words (view_pair p) ≡ []
pair_words p = ap (λ ws. ws ++ []) (flag_words p.minus)

node_words : (n : Node) → words (view_node n) ≡ []
node_words (Node.Case at k) = refl
node_words (Node.Split at v minus b) = ap (λ ws. ws ++ []) (flag_words minus)
node_words (Node.Sum at ps) = list_words view_pair pair_words ps
node_words (Node.Round at minus d ps) =
    let flag = flag_words minus in
    let rest = list_words view_pair pair_words ps in
    (λ i. flag i ++ rest i)
node_words (Node.Quot at k) = refl
node_words (Node.Share at minus c ps) =
    let flag = flag_words minus in
    let rest = list_words view_pair pair_words ps in
    (λ i. flag i ++ rest i)

certificate_words : (c : CertText) → words (view_certificate c) ≡ []
certificate_words c =
    let one = node_words c.first in
    let rest = list_words view_node node_words c.rest in
    (λ i. one i ++ rest i)

section_words : (c : Certificates) → words (view_certificates c) ≡ []
section_words c = list_words view_certificate certificate_words c.items

tree_words : (w : Terminal) {y : Tree} (us : List Terminal) → Derives grammar certificates_ y (w ∷ us) → words y ≡ []
tree_words w us d =
    let l = section_leads w d in
    ap words (sym l.is) ∙ section_words l.section

-- ---- the word stands in the text

order_ends : (from to : ℕ) (ts : List Token) → AreInOrder from to ts → from ≤ to
order_ends from to [] h = h
order_ends from to (t ∷ ts) h = let rest = order_ends t.end to ts h.2 in omega (arith, h.0, h.1, rest)

order_word : (from to : ℕ) (ts us : List Token) (w : Token) → AreInOrder from to (ts ++ w ∷ us) → w.start ≤ to
order_word from to [] us w h = let rest = order_ends w.end to us h.2 in omega (arith, h.1, rest)
order_word from to (t ∷ ts) us w h = order_word t.end to ts us w h.2

-- ---- the law

pub words_in_front : WordsInFront
words_in_front bytes f cut end ts d c behind_all parsed =
    let order = front_order bytes f cut end c ts behind_all in
    let k = known bytes f cut end c order d parsed in
    let l = says_later f.tokens in
    let front = take cut bytes in
    let alone : Document = record d { certificates = None } in
    let names = names_stay l bytes cut f.tokens order in
    let after : List Terminal =
    terminal l bytes (section_word cut end) ∷ terminal l bytes (word_at cut Word.End) ∷ [] in
    let few : overfull grammar most_brackets (terminals l bytes f.tokens) ≡ None =
    ap (overfull grammar most_brackets) (sym (append-nil (terminals l bytes f.tokens)))
    ∙ none_over_front grammar (terminals l bytes f.tokens) after [] refl most_brackets k.few in
    let is : IsDocumentOf front f.tokens alone = (
      subst (λ xs. Derives grammar document_ (with_section none (view d)) xs) (sym names) k.at.bare,
      ap (overfull grammar most_brackets) names ∙ few,
    ) in
    let inside : cut ≤ length bytes = order_word 0 (length bytes) f.tokens ts (section_word cut end)
    (IsTokens-in_order bytes _ (whole_tokens bytes f cut end c ts behind_all)) in
    let size : length front ≡ cut = length-take-le cut bytes inside in
    let stand : WordsRise 0 (length front) (words (view alone)) =
    words_stand front f.tokens alone is (subst (λ n. AreInOrder 0 n f.tokens) (sym size) order) in
    subst (λ n. WordsRise 0 n (words (view d))) size
    (subst (λ ws. WordsRise 0 (length front) ws)
    (k.at.words_are (tree_words (terminal l bytes (section_word cut end)) _ k.at.section)) stand)
