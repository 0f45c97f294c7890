-- The steps and instances of `specs/StepExamples.antt`, found by rewriting.
use Rattle.std.proofs.Common.{refl}
use Rattle.examples_definitions.specs.StepExamples.{AtOnceExamples, AlternativeExamples, OutsideExamples}
use Rattle.examples_definitions.specs.StepExamples.{InstanceExamples}
use Rattle.meaning_documents.proofs.ValueLaws.{value_laws}
use Rattle.meaning_documents.proofs.WriteLaws.{write_laws}
use Rattle.meaning_documents.proofs.InstanceLaws.{instance_laws}

pub at_once_examples : AtOnceExamples
at_once_examples = record {
  swap = simp (write_laws, value_laws) refl;
  components_swap = simp (write_laws, value_laws) refl;
  components_differ = simp (write_laws, value_laws) refl;
  components_agree = simp (write_laws, value_laws) refl;
  element_set = simp (write_laws, value_laws) refl;
  all_at_once = simp (write_laws, value_laws) refl;
  nothing_at_once = simp write_laws refl;
  writes_in_order = simp (write_laws, value_laws) refl;
}

pub alternative_examples : AlternativeExamples
alternative_examples = record {
  none_taken = simp (write_laws, value_laws) refl;
  one_taken = simp (write_laws, value_laws) refl;
  unequal_taken = simp (write_laws, value_laws) refl;
  equal_taken = simp (write_laws, value_laws) refl;
}

pub outside_examples : OutsideExamples
outside_examples = record {
  target_outside = simp (write_laws, value_laws) refl;
  outside_not_taken = simp (write_laws, value_laws) refl;
  read_outside = simp (write_laws, value_laws) refl;
  value_outside = simp (write_laws, value_laws) refl;
}

pub instance_examples : InstanceExamples
instance_examples = record {
  outer_slowest = simp instance_laws refl;
  inner_from_outer = simp instance_laws refl;
  sort_steps = simp (instance_laws, write_laws, value_laws) refl;
}
