-- What is begun well can be ended well: tokens with which a section goes on to its end.
use Rattle.std.proofs.Common.{◌≡◌, ℕ, zero, suc, Bool, false, List, [], ◌∷◌, refl}
use Rattle.case_tables.specs.declared.word_table.Word.{Word}
use Rattle.case_tables.specs.declared.symbol_table.Symbol.{Symbol}
use Rattle.grammar_theory.specs.Ebnf.{nil, is_no_tree}
use Rattle.grammar_theory.proofs.Parts.{SomeTree}
use Rattle.unity_syntax.specs.Classes.{terminal, terminals}
use Rattle.unity_syntax.specs.Grammar.{grammar}
use Rattle.unity_syntax.specs.declared.token.TokenKind.{TokenKind}
use Rattle.unity_syntax.specs.declared.token.Token.{Token}
use Rattle.certificate_events.specs.declared.places.Plain.{Plain}
use Rattle.certificate_events.specs.declared.places.Signed.{Signed}
use Rattle.certificate_events.specs.declared.places.Stage.{Stage}
use Rattle.certificate_events.specs.declared.places.Place.{Place}
use Rattle.certificate_events.proofs.Forms.{tail, trees, pairs, second, after, behind, form_at, rest_form}
use Rattle.certificate_events.proofs.Back.{is_bad, put, put_number, put_no_minus, put_no_pair}
use Rattle.certificate_events.proofs.Back.{back_sum, back_closing, back_colon, back_end}

abbrev of_kind : TokenKind → Token
of_kind k = record { kind = k; start = 0; end = 0 }

abbrev end_token : Token
end_token = of_kind (TokenKind.Reserved Word.End)

abbrev sum_token : Token
sum_token = of_kind (TokenKind.Reserved Word.Sum)

abbrev number_token : Token
number_token = of_kind (TokenKind.Number 0)

abbrev of_symbol : Symbol → Token
of_symbol s = of_kind (TokenKind.Symbol s)

-- the missing trees are sums, and no certificate follows
abbrev sums : ℕ → List Token
sums zero = of_symbol Symbol.Semicolon ∷ end_token ∷ []
sums (suc m) = sum_token ∷ sums m

abbrev second_tokens : ℕ → List Token
second_tokens m = of_symbol Symbol.Times ∷ number_token ∷ sums m

abbrev after_tokens : Signed → ℕ → List Token
after_tokens Signed.Multiplier m = second_tokens m
after_tokens a m = sums m

abbrev behind_tokens : Plain → ℕ → List Token
behind_tokens Plain.Variable m = number_token ∷ sums m
behind_tokens a m = sums m

abbrev tokens_at : Stage → ℕ → List Token
tokens_at Stage.Between m = end_token ∷ []
tokens_at Stage.Numbered m = of_symbol Symbol.Colon ∷ sums 1
tokens_at Stage.Nodes m = sums m
tokens_at Stage.Pairs m = sums m
tokens_at (Stage.Plain a) m = number_token ∷ behind_tokens a m
tokens_at (Stage.Signed a) m = number_token ∷ after_tokens a m
tokens_at (Stage.Negative a) m = number_token ∷ after_tokens a m
tokens_at (Stage.Times z) m = second_tokens m
tokens_at Stage.Done m = []
tokens_at Stage.Bad m = []

-- the tokens with which it goes on
abbrev pub ending : Place → List Token
ending p = tokens_at p.stage p.missing

module _ (later : Bool) (bytes : List ℕ) where
  no_more : (k : ℕ) → SomeTree grammar (tail k) (terminals later bytes (end_token ∷ []))
  no_more k = back_end k (terminal later bytes end_token) [] refl (record { tree = nil; derives = is_no_tree })

  no_trees : (m k : ℕ) → SomeTree grammar (trees m k) (terminals later bytes (sums m))
  no_trees zero k = back_closing 0 k (terminal later bytes (of_symbol Symbol.Semicolon)) _ refl (no_more k)
  no_trees (suc m) k = back_sum m k (terminal later bytes sum_token) _ refl (put_no_pair (no_trees m k))

  no_pairs : (m k : ℕ) → SomeTree grammar (pairs m k) (terminals later bytes (sums m))
  no_pairs m k = put_no_pair (no_trees m k)

  no_second : (m k : ℕ) → SomeTree grammar (second m k) (terminals later bytes (second_tokens m))
  no_second m k = put _ (terminal later bytes (of_symbol Symbol.Times)) refl
      (put_number (terminal later bytes number_token) refl (no_pairs m k))

  ends_after : (a : Signed) (m k : ℕ) → SomeTree grammar (after a m k) (terminals later bytes (after_tokens a m))
  ends_after (Signed.Bound v) m k = no_trees m k
  ends_after Signed.Divisor m k = no_pairs m k
  ends_after Signed.Constant m k = no_pairs m k
  ends_after Signed.Multiplier m k = no_second m k

  ends_behind : (a : Plain) (m k : ℕ) → SomeTree grammar (behind a m k) (terminals later bytes (behind_tokens a m))
  ends_behind Plain.Case m k = no_trees m k
  ends_behind Plain.Variable m k =
      put_no_minus (put_number (terminal later bytes number_token) refl (no_trees m k))
  ends_behind Plain.Quot m k = no_trees m k
  ends_behind (Plain.Fact z) m k = no_pairs m k

  ends_at : (st : Stage) (m k : ℕ) → is_bad st ≡ false →
      SomeTree grammar (form_at st m k) (terminals later bytes (tokens_at st m))
  ends_at Stage.Between m k b = no_more k
  ends_at Stage.Numbered m k b =
      back_colon k (terminal later bytes (of_symbol Symbol.Colon)) _ refl (no_trees 1 k)
  ends_at Stage.Nodes m k b = no_trees m k
  ends_at Stage.Pairs m k b = no_pairs m k
  ends_at (Stage.Plain a) m k b = put_number (terminal later bytes number_token) refl (ends_behind a m k)
  ends_at (Stage.Signed a) m k b =
      put_no_minus (put_number (terminal later bytes number_token) refl (ends_after a m k))
  ends_at (Stage.Negative a) m k b = put_number (terminal later bytes number_token) refl (ends_after a m k)
  ends_at (Stage.Times z) m k b = no_second m k
  ends_at Stage.Done m k b = record { tree = nil; derives = is_no_tree }
  ends_at Stage.Bad m k b = cc

  -- a place that is not bad has an end
  pub ends : (p : Place) → is_bad p.stage ≡ false → SomeTree grammar (rest_form p) (terminals later bytes (ending p))
  ends p b = ends_at p.stage p.missing p.number b
