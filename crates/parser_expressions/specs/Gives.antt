-- What a function of the parser answers: what the reader of the grammar does, unless memory is refused.
use Rattle.std.specs.Prelude.{◌≡◌, ℕ, List, Result, Ok, Err}
use Rattle.grammar_theory.specs.Ebnf.{Terminal, Tree, unit, Ebnf}
use Rattle.grammar_theory.specs.Reader.{Fault, Unexpected, OtherVersion, TooDeep, skip, after, read}
use Rattle.unity_syntax.specs.Classes.{terminals}
use Rattle.unity_syntax.specs.Grammar.{grammar}
use Rattle.parser_expressions.specs.declared.cursor.Cursor.{Cursor}
use Rattle.parser_expressions.specs.declared.stop.Stop.{Stop}

-- the tokens that are still to be read
abbrev pub remaining : Cursor → List Terminal
remaining text = terminals text.later text.bytes.now text.tokens.now

-- the reader has this fault; want of memory says nothing
abbrev pub Fails : {A : Type 0} → Stop → Result A Fault → Type 0
Fails Stop.Memory r = Unit {0}
Fails (Stop.Unexpected rest) r = r ≡ Err (Unexpected (remaining rest))
Fails (Stop.OtherVersion rest) r = r ≡ Err (OtherVersion (remaining rest))
Fails (Stop.TooDeep rest) r = r ≡ Err (TooDeep (remaining rest))

-- the reader has this answer, seen as the reader sees it
abbrev pub Gives : {X A : Type 0} → (X → A) → Result X Stop → Result A Fault → Type 0
Gives view (Ok x) r = r ≡ Ok (view x)
Gives view (Err stop) r = Fails stop r

-- what remains after a token of the class, which has to come
abbrev pub Skips : ℕ → Result Cursor Stop → Cursor → Type 0
Skips class result text = Gives (λ rest. (unit, remaining rest)) result (skip class (remaining text))

-- the reader, at the tokens that are still to be read, has this answer by the production, with what is then still to
-- be read
abbrev pub Reads : {X : Type 0} → (X → Tree) → Result (X × Cursor) Stop → Ebnf → ℕ → Cursor → Type 0
Reads view result production depth text =
    Gives (λ p. (view p.0, remaining p.1)) result (read grammar depth production (remaining text))

-- the same of an answer whose tree is finished in this way
abbrev pub ReadsAs : {X : Type 0} → (Tree → Tree) → (X → Tree) → Result (X × Cursor) Stop → Ebnf → ℕ → Cursor → Type 0
ReadsAs finish view result production depth text =
    Gives (λ p. (view p.0, remaining p.1)) result (after finish (read grammar depth production (remaining text)))
