-- What may follow at each place of a section of certificates, as a form of the grammar.
use Rattle.std.proofs.Common.{ℕ, zero, suc}
use Rattle.case_tables.specs.declared.word_table.Word.{Word}
use Rattle.case_tables.specs.declared.symbol_table.Symbol.{Symbol}
use Rattle.grammar_theory.specs.Ebnf.{Ebnf, both, many, numbered, prefix_trees, fixed}
use Rattle.unity_syntax.specs.Classes.{number_class, reserved, symbol}
use Rattle.unity_syntax.specs.Grammar.{minus_, number_, multiple_, node_, certificate_, subtrees}
use Rattle.certificate_events.specs.declared.places.Plain.{Plain}
use Rattle.certificate_events.specs.declared.places.Signed.{Signed}
use Rattle.certificate_events.specs.declared.places.Stage.{Stage}
use Rattle.certificate_events.specs.declared.places.Place.{Place}

-- behind so many certificates
abbrev pub tail : ℕ → Ebnf
tail k = both (numbered (suc k) number_class certificate_) (fixed (reserved Word.End))

-- where so many trees are missing
abbrev pub trees : ℕ → ℕ → Ebnf
trees m k = both (prefix_trees m subtrees node_) (both (fixed (symbol Symbol.Semicolon)) (tail k))

-- where pairs may stand before them
abbrev pub pairs : ℕ → ℕ → Ebnf
pairs m k = both (many multiple_) (trees m k)

-- behind the first number of a pair
abbrev pub second : ℕ → ℕ → Ebnf
second m k = both (fixed (symbol Symbol.Times)) (both number_ (pairs m k))

-- behind a number with a sign
abbrev pub after : Signed → ℕ → ℕ → Ebnf
after (Signed.Bound v) m k = trees m k
after Signed.Divisor m k = pairs m k
after Signed.Constant m k = pairs m k
after Signed.Multiplier m k = second m k

-- behind a number without one
abbrev pub behind : Plain → ℕ → ℕ → Ebnf
behind Plain.Case m k = trees m k
behind Plain.Variable m k = both minus_ (both number_ (trees m k))
behind Plain.Quot m k = trees m k
behind (Plain.Fact z) m k = pairs m k

abbrev pub form_at : Stage → ℕ → ℕ → Ebnf
form_at Stage.Between m k = tail k
form_at Stage.Numbered m k = both certificate_ (tail k)
form_at Stage.Nodes m k = trees m k
form_at Stage.Pairs m k = pairs m k
form_at (Stage.Plain a) m k = both number_ (behind a m k)
form_at (Stage.Signed a) m k = both minus_ (both number_ (after a m k))
form_at (Stage.Negative a) m k = both number_ (after a m k)
form_at (Stage.Times z) m k = second m k
form_at Stage.Done m k = prefix_trees zero subtrees node_
form_at Stage.Bad m k = prefix_trees zero subtrees node_

-- what may follow
abbrev pub rest_form : Place → Ebnf
rest_form p = form_at p.stage p.missing p.number
