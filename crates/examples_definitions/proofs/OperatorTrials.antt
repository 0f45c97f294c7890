-- The values of `specs/OperatorExamples.antt`, found by rewriting.
use Rattle.std.proofs.Common.{refl}
use Rattle.examples_definitions.specs.OperatorExamples.{ComparisonExamples, ConnectiveExamples, ArithmeticExamples}
use Rattle.examples_definitions.specs.OperatorExamples.{RangeExamples}
use Rattle.meaning_documents.proofs.ValueLaws.{value_laws}

pub comparison_examples : ComparisonExamples
comparison_examples = record {
  equals = simp value_laws refl;
  differs = simp value_laws refl;
  is_below = simp value_laws refl;
  is_at_most = simp value_laws refl;
  is_above = simp value_laws refl;
  is_at_least = simp value_laws refl;
  truths = simp value_laws refl;
}

pub connective_examples : ConnectiveExamples
connective_examples = record {
  negations = simp value_laws refl;
  implications = simp value_laws refl;
  conjunctions = simp value_laws refl;
  disjunctions = simp value_laws refl;
}

pub arithmetic_examples : ArithmeticExamples
arithmetic_examples = record {
  sum_from_left = simp value_laws refl;
  products = simp value_laws refl;
  from_left = simp value_laws refl;
  sign = simp value_laws refl;
}

pub range_examples : RangeExamples
range_examples = record {
  indices = simp value_laws refl;
  below_nought = simp value_laws refl;
  offsets = simp value_laws refl;
}
