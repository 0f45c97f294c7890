-- The values of `specs/ValueExamples.antt`, found by rewriting.
use Rattle.std.proofs.Common.{refl}
use Rattle.examples_definitions.specs.ValueExamples.{SlotExamples, NameExamples, BoundNameExamples, ElementExamples}
use Rattle.examples_definitions.specs.ValueExamples.{QuantifierExamples}
use Rattle.meaning_documents.proofs.ValueLaws.{value_laws}

pub slot_examples : SlotExamples
slot_examples = record {
  slots = refl;
  slot_ranges = refl;
  truths_of_lamp = refl;
  truths_by_type = refl;
}

pub name_examples : NameExamples
name_examples = record {
  variable = simp value_laws refl;
  word = simp value_laws refl;
  words = simp value_laws refl;
  always = simp value_laws refl;
}

pub bound_name_examples : BoundNameExamples
bound_name_examples = record {
  hides_nothing = simp value_laws refl;
  changes_no_always = simp value_laws refl;
  binding_is_itself = simp value_laws refl;
}

pub element_examples : ElementExamples
element_examples = record {
  element = simp value_laws refl;
  above = simp value_laws refl;
  below = simp value_laws refl;
}

pub quantifier_examples : QuantifierExamples
quantifier_examples = record {
  all_of_none = simp value_laws refl;
  any_of_none = simp value_laws refl;
  sum_of_none = simp value_laws refl;
  elements = simp value_laws refl;
  all_fails = simp value_laws refl;
  any_holds = simp value_laws refl;
  inner_range = simp value_laws refl;
}
