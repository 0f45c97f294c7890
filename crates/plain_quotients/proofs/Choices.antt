-- The choices in a document's tree are classes of its tokens: it has none that no token has.
use Rattle.std.proofs.Common.{◌≡◌, ℕ, true, not, List}
use Rattle.grammar_theory.specs.Ebnf.{Terminal, Tree, Derives, has}
use Rattle.grammar_theory.proofs.Leaves.{LeavesAre, TokensAre}
use Rattle.unity_syntax.specs.Grammar.{grammar, document_}
use Rattle.unity_syntax.proofs.LeavesKept.{document_leaves}

-- the class is none of these
abbrev pub IsNot : List ℕ → ℕ → Type 0
IsNot os c = not (has os c) ≡ true

-- no choice in the tree is one of these classes
abbrev pub NoChoice : List ℕ → Tree → Type 0
NoChoice os = LeavesAre (λ n. Unit {0}) (IsNot os)

-- nor is the class of a token
abbrev pub NoClass : List ℕ → List Terminal → Type 0
NoClass os = TokensAre (λ t. IsNot os t.class)

pub choices_none : (os : List ℕ) {x : Tree} {ts : List Terminal} → Derives grammar document_ x ts →
    NoClass os ts → NoChoice os x
choices_none os d s =
    document_leaves (λ t. IsNot os t.class) (λ n. Unit {0}) (IsNot os) (λ t h. tt) (λ t h. h) d s
