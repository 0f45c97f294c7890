-- Formulas that are joined one after the other.
use Rattle.std.specs.Prelude.{◌≡◌, ◌≤◌, ◌^◌, pos, ◌-ℤ◌, Bool, not, ◌&&◌, ◌||◌, List, [], ◌∷◌, Option, Some, None}
use Rattle.std.specs.Prelude.{MatchOption}
use Rattle.std.specs.Option.{option_map}
use Rattle.std.specs.Int.RustNames.{unsigned_abs}
use Rattle.meaning_states.specs.State.{int_eq}
use Rattle.core_terms.specs.declared.trees.CForm.{CForm}
use Rattle.core_terms.specs.declared.trees.CForm.TheVariants.{Top}
use Rattle.core_terms.specs.declared.programs.CWrite.{CWrite}
use Rattle.core_terms.specs.Weights.{plain_weights, plain_weight}
use Rattle.core_terms.specs.Folding.{number_of, truth_of, joined, folded_form, and_form}
use Rattle.wp_substitution.specs.declared.conjunction.Conjunction.{Conjunction}
use Rattle.wp_substitution.specs.declared.known.Known.{Known}

-- a formula after the others; alone, where there are none
abbrev pub joined_with : Option CForm → CForm → CForm
joined_with None f = f
joined_with (Some g) f = and_form g f

-- further formulas after the others
abbrev pub joined_all : Option CForm → List CForm → Option CForm
joined_all whole [] = whole
joined_all whole (f ∷ fs) = joined_all (Some (joined_with whole f)) fs

-- the formula, and `Top` where there is none
abbrev pub or_top : Option CForm → CForm
or_top None = Top
or_top (Some f) = f

-- a formula as folding leaves it
abbrev pub IsFolded : CForm → Type 0
IsFolded f = folded_form f ≡ f

-- the truth that stands beside a conjunction is its truth; it is folded, and weighs little
pub record ConjunctionKnown (c : Conjunction) : Type 0 where
  pub truth : c.truth ≡ truth_of (or_top c.whole)
  pub folded : IsFolded (or_top c.whole)
  pub weight : plain_weight (or_top c.whole) ≤ 2 ^ 65

-- a term that weighs at most 2^62 where slots and parameters weigh 1, itself and with its parts
pub record IsLightWrite (w : CWrite) : Type 0 where
  pub condition : plain_weight w.when ≤ 2 ^ 62
  pub own : (plain_weights w.value).own ≤ 2 ^ 62
  pub most : (plain_weights w.value).most ≤ 2 ^ 62

-- a formula that weighs so little
abbrev pub IsLight : CForm → Type 0
IsLight f = plain_weight f ≤ 2 ^ 62

-- what is known of a write: the truth of its condition, and the number of its value
abbrev pub known_write : CWrite → Known
known_write w = record { truth = truth_of w.when; number = number_of w.value }

-- a number that is known is within plus or minus 2^62
abbrev pub IsSmallKnown : Known → Type 0
IsSmallKnown k = MatchOption k.number (Unit {0}) (λ z. unsigned_abs z ≤ 2 ^ 62)

-- the truth of what two writes need, from what is known of them
abbrev pub known_pair : Known → Known → Option Bool
known_pair a b =
    joined (λ x y. x || y) (option_map not (joined (λ x y. x && y) a.truth b.truth))
    (option_map (λ z. int_eq z (pos 0)) (joined (λ x y. x -ℤ y) a.number b.number))
