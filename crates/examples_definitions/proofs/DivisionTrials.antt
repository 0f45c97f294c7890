-- The divisions of `specs/DivisionExamples.antt`, computed.
use Rattle.std.proofs.Common.{refl}
use Rattle.examples_definitions.specs.DivisionExamples.{DivisionExamples}

pub division_examples : DivisionExamples
division_examples = record {
  floored_by_one = refl;
  floored_by_two = refl;
  floored_by_three = refl;
  rest_by_one = refl;
  rest_by_two = refl;
  rest_by_three = refl;
  below_one = refl;
}
