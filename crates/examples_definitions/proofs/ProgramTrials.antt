-- The unions and rounds of `specs/ProgramExamples.antt`, found by rewriting.
use Rattle.std.proofs.Common.{ℕ, zero, suc, ◌<◌, [], ◌∷◌, refl, arith, take}
use Rattle.meaning_executions.specs.Rounds.{rounds}
use Rattle.examples_definitions.specs.ProgramExamples.{UnionExamples, RoundExamples, UnionInOrder, UnionOfUnion}
use Rattle.examples_definitions.specs.ProgramExamples.{UnionOfSections, LaterIsNoPart, SlotsOfDocument, ShortestOfOne}
use Rattle.examples_definitions.specs.ProgramExamples.{ShortestOfTwo}
use Rattle.meaning_documents.proofs.InstanceLaws.{instance_laws}

in_order_found : UnionInOrder
in_order_found = simp instance_laws refl

of_union_found : UnionOfUnion
of_union_found = simp instance_laws refl

sections_found : UnionOfSections
sections_found = refl

later_found : LaterIsNoPart
later_found = refl

slots_found : SlotsOfDocument
slots_found = refl

pub union_examples : UnionExamples
union_examples =
    record {
      in_order = in_order_found;
      of_union = of_union_found;
      sections = sections_found;
      later = later_found;
      slots = slots_found;
    }

fewer_than_one : (fewer : ℕ) → fewer < 3 → rounds (take fewer (0 ∷ 0 ∷ 1 ∷ 1 ∷ 0 ∷ [])) 2 < 1
fewer_than_one zero h = omega arith
fewer_than_one (suc zero) h = omega arith
fewer_than_one (suc (suc zero)) h = omega arith
fewer_than_one (suc (suc (suc n))) h = absurd (omega arith)

fewer_than_two : (fewer : ℕ) → fewer < 5 → rounds (take fewer (0 ∷ 0 ∷ 1 ∷ 1 ∷ 0 ∷ [])) 2 < 2
fewer_than_two zero h = omega arith
fewer_than_two (suc zero) h = omega arith
fewer_than_two (suc (suc zero)) h = omega arith
fewer_than_two (suc (suc (suc zero))) h = omega arith
fewer_than_two (suc (suc (suc (suc zero)))) h = omega arith
fewer_than_two (suc (suc (suc (suc (suc n))))) h = absurd (omega arith)

shortest_of_one_found : ShortestOfOne
shortest_of_one_found = record { within = omega arith; enough = omega arith; least = fewer_than_one }

shortest_of_two_found : ShortestOfTwo
shortest_of_two_found = record { within = omega arith; enough = omega arith; least = fewer_than_two }

pub round_examples : RoundExamples
round_examples =
    record {
      two = refl;
      uneven = refl;
      without = refl;
      of_three = refl;
      two_of_three = refl;
      one_of_three = refl;
      of_nothing = refl;
      of_many = refl;
      of_one = refl;
      of_none = refl;
      shortest_of_one = shortest_of_one_found;
      shortest_of_two = shortest_of_two_found;
    }
