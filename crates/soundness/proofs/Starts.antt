-- The programs of accepted proofs have executions.
use Rattle.std.proofs.Common.{◌≡◌, nat_eq, List, [], Some, ap, ◌∙◌}
use Rattle.std.proofs.Common.{subst, slice_get}
use Rattle.meaning_states.specs.State.{State, is_state}
use Rattle.meaning_states.proofs.StepTheorems.{both_true}
use Rattle.meaning_documents.specs.Setting.{slot_ranges}
use Rattle.meaning_documents.specs.Programs.{Composed, document_setting}
use Rattle.meaning_executions.specs.Execution.{System}
use Rattle.meaning_documents.specs.AsSystem.{system_of}
use Rattle.meaning_executions.specs.Properties.{IsAlwaysDefined}
use Rattle.meaning_executions.proofs.ExecutionTheorems.{defined_runs}
use Rattle.meaning_laws.proofs.AlikeTheorems.{alike_back, defined_alike}
use Rattle.core_terms.specs.declared.programs.CSlot.{CSlot}
use Rattle.core_terms.specs.declared.programs.CProgram.{CProgram}
use Rattle.core_terms.specs.Conditions.{IsProgram}
use Rattle.core_terms.specs.Steps.{slot_ranges as core_ranges}
use Rattle.core_terms.specs.Values.{form_value}
use Rattle.executor.specs.CoreSystem.{core_system}
use Rattle.fair_rounds.specs.Records.{KindHolds, are_in_ranges}
use Rattle.executor.specs.StartState.{start_state}
use Rattle.executor.proofs.StartStateLaws.{start_is_state}
use Rattle.rules_table.specs.Walk.{program_of}
use Rattle.rules_table.proofs.EachLaws.{from_all, each_at, found_in}
use Rattle.rules_table.proofs.WalkTheorems.{walk_sound}
use Rattle.expand_fits_parts.specs.from_expand_declarations.WordNumbers.{document_words, word_number}
use Rattle.expand_fits_parts.specs.from_expand_steps.Steps.{core_proof}
use Rattle.expand_fits_parts.specs.from_expand_documents.Cores.{document_scope, core_document}
use Rattle.expand_fits_parts.proofs.lemmas_from_expand_correct.Preserved.Meaning.{programs_alike}
use Rattle.expand_fits_parts.proofs.lemmas_from_expand_correct.Preserved.Proofs.{proofs_match, proofs_found}
use Rattle.meaning_documents.specs.Steps.{proofs_among}
use Rattle.soundness.specs.Executions.{start_meets, ExecutionsExist}
use Rattle.soundness.proofs.PlanRecords.{defined_record}
use Rattle.soundness.proofs.Sources.{mapped_at, proof_among}

-- where the program of a proof has the record of a `defined` step, no step of it is undefined
pub executions_exist : ExecutionsExist
executions_exist d plan accepted place at proof e =
    let slots : List CSlot = (core_document d).slots in
    let found = proofs_found d accepted.named accepted.faultless place at proof e in
    let c : Composed = found.0 in
    let p : CProgram = found.1 in
    let x : System = system_of (document_setting d) c in
    let alike = programs_alike d proof.program.text c p found.2 in
    let among = proof_among d.parts place at proof e in
    let core = core_proof (document_words d) (document_scope d.parts) in
    let in_core : slice_get (core_document d).proofs among.0 ≡ Some (core proof) =
    ap (λ ps. slice_get ps among.0) (proofs_match d)
    ∙ mapped_at core (proofs_among d.parts) among.0 proof among.1 in
    let has = defined_record (core_document d) accepted.core (start_meets slots) plan accepted.walked among.0
    (core proof) in_core p found.2.found in
    let its : program_of (core_document d).programs has.found.program ≡ Some p =
    ap (program_of (core_document d).programs) (has.program ∙ found.2.numbered) ∙ found.2.found in
    let holds = walk_sound (core_document d) accepted.core (start_meets slots) plan accepted.walked accepted.valid
    has.place has.found p has.there its [] (ap (λ rs. are_in_ranges rs []) has.params) in
    let always : IsAlwaysDefined (core_system slots p) =
    subst (λ k. KindHolds k slots p has.found []) has.kind holds in
    let at_program = found_in (λ (b : CProgram). nat_eq b.name (word_number (document_words d) proof.program.text))
    (core_document d).programs p found.2.found in
    let fits : IsProgram slots p = each_at (IsProgram slots) (core_document d).programs
    (from_all (IsProgram slots) (core_document d).programs accepted.core.programs) at_program.place p
    at_program.there in
    let start : State = start_state slots p in
    record {
      program = c;
      core = p;
      is_core = found.2;
      initial = alike.starts start
          ∙ both_true (is_state (core_ranges slots) start) (form_value start [] p.initially)
          (start_is_state slots p accepted.core.slots fits) has.may_start;
      runs = defined_runs x (defined_alike (slot_ranges (document_setting d).variables) (core_system slots p) x
          (alike_back (slot_ranges (document_setting d).variables) x (core_system slots p) alike) always);
    }
