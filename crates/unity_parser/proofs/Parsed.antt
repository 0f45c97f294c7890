-- From what the reader does to what the answer means.
use Rattle.std.proofs.Common.{◌≡◌, ℕ, suc, ◌≤◌, Bool, List, [], ◌∷◌, length, Result, Ok, Err, subst, sym, ap, ◌∙◌}
use Rattle.std.proofs.Common.{refl, arith}
use Rattle.grammar_theory.specs.Ebnf.{Tree, Derives}
use Rattle.grammar_theory.specs.Reader.{Fault, Unexpected, OtherVersion, TooDeep, read_whole}
use Rattle.grammar_theory.specs.Words.{Word, words, spelled, IsSublist, is_done, is_left_out, is_kept}
use Rattle.grammar_theory.proofs.Theorems.{exact}
use Rattle.grammar_theory.proofs.WordOrder.{words_kept}
use Rattle.unity_syntax.specs.declared.token.Token.{Token}
use Rattle.unity_syntax.specs.declared.document.Document.{Document}
use Rattle.unity_syntax.specs.declared.fault.SyntaxFault.{SyntaxFault}
use Rattle.unity_syntax.specs.Classes.{terminals, says_later}
use Rattle.unity_syntax.specs.Grammar.{grammar, document_}
use Rattle.unity_syntax.specs.View.{view}
use Rattle.unity_syntax.proofs.LookAhead.{grammar_is, document_is}
use Rattle.unity_syntax.proofs.WordsKept.{bodies_keep, document_keeps}
use Rattle.parser_programs.specs.from_parser_expressions.declared.stop.Stop.{Stop}
use Rattle.parser_programs.specs.from_parser_expressions.Gives.{Fails, remaining}
use Rattle.unity_lexer.specs.Tokens.{AreInOrder}
use Rattle.unity_parser.specs.ParseAnswers.{most_brackets, IsExactAnswer, IsDocumentOf, IsRefusal, IsRefusedFor, Names}
use Rattle.unity_parser.specs.ParseAnswers.{WordsRise, code_of, rest_of, beginning}

-- the reader's answer is exact
exactly : (later : Bool) (bytes : List ℕ) (tokens : List Token) → later ≡ says_later tokens →
    (answer : Result Tree Fault) → read_whole grammar most_brackets document_ (terminals later bytes tokens) ≡ answer →
    IsExactAnswer bytes tokens answer
exactly later bytes tokens said answer e = subst (λ r. IsExactAnswer bytes tokens r)
    (ap (λ l. read_whole grammar most_brackets document_ (terminals l bytes tokens)) (sym said) ∙ e)
    (exact grammar grammar_is document_ document_is most_brackets (terminals (says_later tokens) bytes tokens))

pub is_document : (later : Bool) (bytes : List ℕ) (tokens : List Token) → later ≡ says_later tokens → (d : Document) →
    read_whole grammar most_brackets document_ (terminals later bytes tokens) ≡ Ok (view d) → IsDocumentOf bytes tokens
    d
is_document later bytes tokens said d e = exactly later bytes tokens said (Ok (view d)) e

refused : (later : Bool) (bytes : List ℕ) (tokens : List Token) → later ≡ says_later tokens → (f : Fault) → read_whole
    grammar most_brackets document_ (terminals later bytes tokens) ≡ Err f → IsRefusal bytes tokens (code_of f)
    (beginning (length bytes) (rest_of f))
refused later bytes tokens said f e = record {
  fault = f;
  exact = exactly later bytes tokens said (Err f) e;
  code_is = refl;
  place_is = refl;
}

pub is_refused : (later : Bool) (bytes : List ℕ) (tokens : List Token) → later ≡ says_later tokens → (stop : Stop)
    (fault : SyntaxFault) → Fails stop (read_whole grammar most_brackets document_ (terminals later bytes tokens)) →
    Names bytes stop fault → IsRefusedFor bytes tokens fault
is_refused later bytes tokens said Stop.Memory fault h q = subst (λ f. IsRefusedFor bytes tokens f) (sym q) tt
is_refused later bytes tokens said (Stop.Unexpected rest) fault h q = subst (λ f. IsRefusedFor bytes tokens f) (sym q)
    (refused later bytes tokens said (Unexpected (remaining rest)) h)
is_refused later bytes tokens said (Stop.OtherVersion rest) fault h q = subst (λ f. IsRefusedFor bytes tokens f) (sym q)
    (refused later bytes tokens said (OtherVersion (remaining rest)) h)
is_refused later bytes tokens said (Stop.TooDeep rest) fault h q = subst (λ f. IsRefusedFor bytes tokens f) (sym q)
    (refused later bytes tokens said (TooDeep (remaining rest)) h)

-- Words of rising tokens rise.
rise_from : (a b to : ℕ) (ws : List Word) → a ≤ b → WordsRise b to ws → WordsRise a to ws
rise_from a b to [] h r = omega arith
rise_from a b to (w ∷ ws) h r = (omega (arith, r.0), r.1, r.2)

end_reached : (from to : ℕ) (ts : List Token) → AreInOrder from to ts → from ≤ to
end_reached from to [] r = r
end_reached from to (t ∷ ts) r = let h = end_reached t.end to ts r.2 in omega (arith, h, r.0, r.1)

rise_in : (later : Bool) (bytes : List ℕ) (ws vs : List Word) → IsSublist ws vs → (from to : ℕ) (ts : List Token) →
    vs ≡ spelled (terminals later bytes ts) → AreInOrder from to ts → WordsRise from to ws
rise_in later bytes [] [] is_done from to ts e r = end_reached from to ts r
rise_in later bytes (w ∷ ws) [] h from to ts e r = elim h [ ]
rise_in later bytes ws (v ∷ vs) (is_left_out h) from to [] e r = cc
rise_in later bytes ws (v ∷ vs) (is_left_out h) from to (t ∷ ts) e r =
    let q : vs ≡ spelled (terminals later bytes ts) = cc in
    let k = rise_in later bytes ws vs h t.end to ts q r.2 in
    rise_from from t.end to ws (omega (arith, r.0, r.1)) k
rise_in later bytes (w ∷ ws) (v ∷ vs) (is_kept h) from to [] e r = cc
rise_in later bytes (w ∷ ws) (v ∷ vs) (is_kept h) from to (t ∷ ts) e r =
    let q : vs ≡ spelled (terminals later bytes ts) = cc in
    let p : w.0 ≡ t.start = ap (λ l. place_of_first l) e in
    let k = rise_in later bytes ws vs h t.end to ts q r.2 in
    let b = end_reached t.end to ts r.2 in
    (omega (arith, p, r.0), omega (arith, p, b, r.1), rise_from (suc w.0) t.end to ws (omega (arith, p, r.1)) k)
  where
    place_of_first : List Word → ℕ
    place_of_first [] = 0
    place_of_first (w ∷ ws) = w.0

pub words_within : (later : Bool) (bytes : List ℕ) (tokens : List Token) (x : Tree) (to : ℕ) →
    Derives grammar document_ x (terminals later bytes tokens) → AreInOrder 0 to tokens → WordsRise 0 to (words x)
words_within later bytes tokens x to derives r =
    rise_in later bytes (words x) (spelled (terminals later bytes tokens))
    (words_kept grammar bodies_keep derives document_keeps) 0 to tokens refl r

pub words_stand : (bytes : List ℕ) (tokens : List Token) (d : Document) → IsDocumentOf bytes tokens d → AreInOrder 0
    (length bytes) tokens → WordsRise 0 (length bytes) (words (view d))
words_stand bytes tokens d is r = words_within (says_later tokens) bytes tokens (view d) (length bytes) is.0 r
