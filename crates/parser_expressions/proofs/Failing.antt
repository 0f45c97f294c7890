-- A fault in a part is a fault of the whole.
use Rattle.std.proofs.Common.{◌≡◌, ◌<◌, ◌-◌, ℕ, List, Ok, Err, refl, sym, ap, ◌∙◌, subst}
use Rattle.grammar_theory.specs.Ebnf.{Terminal, Tree, Ebnf, unit, pair, both, inside}
use Rattle.grammar_theory.specs.Reader.{Read, Fault, Unexpected, OtherVersion, TooDeep, ◌>>=◌, skip, after, and_then}
use Rattle.grammar_theory.specs.Reader.{closed}
use Rattle.grammar_theory.specs.Reader.{read}
use Rattle.grammar_theory.proofs.Steps.{inside_some}
use Rattle.unity_syntax.specs.Grammar.{grammar}
use Rattle.parser_expressions.specs.declared.stop.Stop.{Stop}
use Rattle.parser_expressions.specs.Gives.{remaining, Fails}

-- through a step that makes a fault of a fault
pub through : (f : Read Tree → Read Tree) → ((d : Fault) → f (Err d) ≡ Err d) → (stop : Stop) (r : Read Tree) → Fails
    stop r → Fails stop (f r)
through f same Stop.Memory r h = tt
through f same (Stop.Unexpected at) r h = ap f h ∙ same (Unexpected (remaining at))
through f same (Stop.OtherVersion at) r h = ap f h ∙ same (OtherVersion (remaining at))
through f same (Stop.TooDeep at) r h = ap f h ∙ same (TooDeep (remaining at))

pub same_fails : (stop : Stop) {r s : Read Tree} → s ≡ r → Fails stop r → Fails stop s
same_fails stop e h = let P : Read Tree → Type 0 = λ w. Fails stop w in subst P (sym e) h

-- two parts that are read
pub both_read : (n : ℕ) (a b : Ebnf) (ts mid : List Terminal) (x : Tree) → read grammar n a ts ≡ Ok (x, mid) →
    (y : Tree) (later : List Terminal) → read grammar n b mid ≡ Ok (y, later) → read grammar n (both a b) ts ≡ Ok
    (pair x y, later)
both_read n a b ts mid x e y later q = ap (and_then (read grammar n b) pair) e ∙ ap (after (pair x)) q

-- in the second of two parts
pub second_fails : (n : ℕ) (a b : Ebnf) (ts mid : List Terminal) (x : Tree) → read grammar n a ts ≡ Ok (x, mid) →
    (stop : Stop) → Fails stop (read grammar n b mid) → Fails stop (read grammar n (both a b) ts)
second_fails n a b ts mid x e stop h = same_fails stop (ap (and_then (read grammar n b) pair) e)
    (through (after (pair x)) (λ d. refl) stop (read grammar n b mid) h)

abbrev closing : ℕ → Tree → Read Tree → Read Tree
closing c y r = r >>= λ z. Ok (y, z.1)

-- at the closing bracket
pub unclosed : (n o k c : ℕ) (ts mid later : List Terminal) (y : Tree) → 0 < n → skip o ts ≡ Ok (unit, mid) → read
    grammar (n - 1) (grammar.body k) mid ≡ Ok (y, later) → (stop : Stop) → Fails stop (skip c later) → Fails stop
    (read grammar n (inside o k c) ts)
unclosed n o k c ts mid later y some e q stop h =
    same_fails stop (inside_some grammar n o k c ts some ∙ ap
    (λ r. r >>= λ x. closed (read grammar (n - 1) (grammar.body k)) c x.1) e ∙ ap
    (λ r. r >>= λ x. closing c x.0 (skip c x.1)) q)
    (through (closing c y) (λ d. refl) stop (skip c later) h)
