-- The numbers of a document's tree are numbers of its tokens: none is larger than the largest of these.
use Rattle.std.proofs.Common.{ℕ, ◌≤◌, List}
use Rattle.grammar_theory.specs.Ebnf.{Terminal, Tree, Derives}
use Rattle.grammar_theory.proofs.Leaves.{LeavesAre, TokensAre}
use Rattle.unity_syntax.specs.Grammar.{grammar, document_}
use Rattle.unity_syntax.proofs.LeavesKept.{document_leaves}

-- no number in the tree is larger
abbrev pub NoneLarger : ℕ → Tree → Type 0
NoneLarger most = LeavesAre (λ n. n ≤ most) (λ c. Unit {0})

-- nor in these tokens
abbrev pub SmallTokens : ℕ → List Terminal → Type 0
SmallTokens most = TokensAre (λ t. t.value ≤ most)

pub numbers_small : (most : ℕ) {x : Tree} {ts : List Terminal} → Derives grammar document_ x ts →
    SmallTokens most ts → NoneLarger most x
numbers_small most d s =
    document_leaves (λ t. t.value ≤ most) (λ n. n ≤ most) (λ c. Unit {0}) (λ t h. h) (λ t h. tt) d s
