-- What is given of one reading is given of an equal one.
use Rattle.std.proofs.Common.{◌≡◌, List, Result, Ok, Err, sym, subst, refl}
use Rattle.grammar_theory.specs.Ebnf.{Terminal, Tree}
use Rattle.grammar_theory.specs.Reader.{Read, after}
use Rattle.parser_expressions.specs.declared.stop.Stop.{Stop}
use Rattle.parser_expressions.specs.Gives.{Gives}

pub gives_same : {X : Type 0} (view : X → Tree × List Terminal) (r : Result X Stop) {s t : Read Tree} → t ≡ s → Gives
    view r s → Gives view r t
gives_same view r e h = let P : Read Tree → Type 0 = λ w. Gives view r w in subst P (sym e) h

-- one action after another
pub after_twice : (g f : Tree → Tree) (r : Read Tree) → after g (after f r) ≡ after (λ x. g (f x)) r
after_twice g f (Ok p) = refl
after_twice g f (Err d) = refl
