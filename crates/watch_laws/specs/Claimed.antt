-- How the steps of a document are read on a trace, by the document's own meaning. The rounds of a leads-to and the
-- instance that is to help are those of the step's record, since the text of a step has no others.
use Rattle.std.specs.Prelude.{ℕ, ◌+◌, ℤ, List, [], ◌∷◌, ◌++◌, map, true, cond, Option}
use Rattle.std.specs.List.{flat_map}
use Rattle.unity_syntax.specs.declared.proof.Param.{Param}
use Rattle.unity_syntax.specs.declared.proof.Claim.{Claim}
use Rattle.unity_syntax.specs.declared.document.Document.{Document}
use Rattle.meaning_documents.specs.Names.{Bindings}
use Rattle.meaning_documents.specs.Value.{range_values}
use Rattle.meaning_documents.specs.Setting.{Setting, is_true_at}
use Rattle.meaning_documents.specs.Programs.{document_setting}
use Rattle.meaning_executions.specs.Properties.{Test, never}
use Rattle.meaning_documents.specs.Claims.{parameters, argument_bindings}
use Rattle.meaning_documents.specs.Steps.{claim_kind, ProofStep, document_steps}
use Rattle.core_terms.specs.declared.programs.CProgram.{CProgram}
use Rattle.fair_rounds.specs.declared.records.Record.{Record}
use Rattle.trace_watch.specs.Readings.{Reading}
use Rattle.trace_watch.specs.Cases.{WatchedStep, helper_place, is_of}

-- the test that every state passes
abbrev pub always : Test
always state = true

-- what a claim says first and second; what it does not say is always true of `defined`, and else never
abbrev pub first_test : Setting → Bindings → Claim → Test
first_test g bindings (Claim.Defined at) = always
first_test g bindings (Claim.Invariant at p) = is_true_at g bindings p
first_test g bindings (Claim.Stable at p) = is_true_at g bindings p
first_test g bindings (Claim.Constant at p) = is_true_at g bindings p
first_test g bindings (Claim.Fixed at p) = is_true_at g bindings p
first_test g bindings (Claim.Between at p which q) = is_true_at g bindings p

abbrev pub second_test : Setting → Bindings → Claim → Test
second_test g bindings (Claim.Defined at) = always
second_test g bindings (Claim.Invariant at p) = never
second_test g bindings (Claim.Stable at p) = never
second_test g bindings (Claim.Constant at p) = never
second_test g bindings (Claim.Fixed at p) = never
second_test g bindings (Claim.Between at p which q) = is_true_at g bindings q

-- a claim, for these numbers of its parameters
abbrev pub claim_reading : Setting → Bindings → ℕ → Option ℕ → Claim → Reading
claim_reading g bindings bound helper claim = record {
  kind = claim_kind claim;
  p = first_test g bindings claim;
  q = second_test g bindings claim;
  bound = bound;
  helper = helper;
}

-- all choices of a number for each parameter, in order: the first parameter's number changes last
abbrev pub arguments : List Param → List (List ℤ)
arguments [] = [] ∷ []
arguments (p ∷ ps) = flat_map (λ z. map (λ zs. z ∷ zs) (arguments ps)) (range_values [] p.range)

-- a step of a document with its record, whose place among the records is this
abbrev pub claimed_step : Document → CProgram → ℕ → ProofStep → Record → WatchedStep
claimed_step d c place s r = record {
  place = place;
  cases = map (λ zs. claim_reading (document_setting d) (argument_bindings (parameters s.step.params) zs) r.bound
      (helper_place c r.helper zs) s.step.claim) (arguments (parameters s.step.params));
}

-- it alone, if it is one of the program's
abbrev pub claimed_one : Document → CProgram → ℕ → ProofStep → Record → List WatchedStep
claimed_one d c place s r = cond (is_of c r) (claimed_step d c place s r ∷ []) []

abbrev pub claimed_from : Document → CProgram → ℕ → List ProofStep → List Record → List WatchedStep
claimed_from d c place [] records = []
claimed_from d c place (s ∷ rest) [] = []
claimed_from d c place (s ∷ rest) (r ∷ records) =
    claimed_one d c place s r ++ claimed_from d c (place + 1) rest records

-- the steps of a program, by the records of a plan
abbrev pub claimed : Document → CProgram → List Record → List WatchedStep
claimed d c records = claimed_from d c 0 (document_steps d) records
