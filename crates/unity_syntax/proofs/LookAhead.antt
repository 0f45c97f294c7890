-- One token of look-ahead tells what to do, by computation.
use Rattle.std.proofs.Common.{ℕ, zero, suc, Bool, List, [], ◌∷◌, refl, IsTrue}
use Rattle.grammar_theory.specs.Ebnf.{Ebnf}
use Rattle.grammar_theory.specs.LookAhead.{good, plain, paired, IsGrammar, IsForm}
use Rattle.unity_syntax.specs.Grammar.{grammar, bodies, pred_, document_, at_number}
use Rattle.unity_syntax.proofs.Productions.{all_productions}

-- the test holds of each form of a list
abbrev pub Each : (Ebnf → Bool) → List Ebnf → Type 0
Each test [] = Unit {0}
Each test (e ∷ es) = IsTrue (test e) × Each test es

-- what holds of each form of a list, and of an expression, holds of the form at each number
pub each_number : (test : Ebnf → Bool) (es : List Ebnf) → Each test es → IsTrue (test pred_) → (k : ℕ) →
    IsTrue (test (at_number es k))
each_number test [] each other k = other
each_number test (e ∷ es) each other zero = each.0
each_number test (e ∷ es) each other (suc k) = each_number test es each.1 other k

all_good : Each (good grammar) bodies
unfolding all_productions
all_good = (
  refl,
  (
    refl,
    (
      refl,
      (refl, (refl, (refl, (refl, (refl, (refl, (refl, (refl, (refl, (refl, (refl, tt))))))))))),
    ),
  ),
)

good_pred : IsTrue (good grammar pred_)
unfolding all_productions
good_pred = refl

all_plain : Each plain bodies
unfolding all_productions
all_plain = (
  refl,
  (
    refl,
    (
      refl,
      (refl, (refl, (refl, (refl, (refl, (refl, (refl, (refl, (refl, (refl, (refl, tt))))))))))),
    ),
  ),
)

plain_pred : IsTrue (plain pred_)
unfolding all_productions
plain_pred = refl

all_paired : Each (paired grammar) bodies
unfolding all_productions
all_paired = (
  refl,
  (
    refl,
    (
      refl,
      (refl, (refl, (refl, (refl, (refl, (refl, (refl, (refl, (refl, (refl, (refl, tt))))))))))),
    ),
  ),
)

paired_pred : IsTrue (paired grammar pred_)
unfolding all_productions
paired_pred = refl

pub grammar_is : IsGrammar grammar
grammar_is = record {
  bodies_good = each_number (good grammar) bodies all_good good_pred;
  bodies_plain = each_number plain bodies all_plain plain_pred;
  bodies_paired = each_number (paired grammar) bodies all_paired paired_pred;
}

pub document_is : IsForm grammar document_
unfolding all_productions
document_is = record { is_good = refl; is_paired = refl }
