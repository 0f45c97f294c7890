-- The projection of a layer's execution is one of the program under it, by the document's own meaning.
use Rattle.std.proofs.Common.{◌≡◌, ℕ, List, nat_eq, Some, IsTrue, sym, ap, ◌∙◌, subst, slice_get, length, arith}
use Rattle.unity_syntax.specs.declared.proof.Step.{Step}
use Rattle.unity_syntax.specs.declared.proof.Proof.{Proof}
use Rattle.unity_syntax.specs.declared.document.Document.{Document}
use Rattle.meaning_states.specs.State.{Ranges}
use Rattle.meaning_documents.specs.Setting.{slot_ranges}
use Rattle.meaning_documents.specs.Programs.{Composed, document_setting}
use Rattle.meaning_executions.specs.Execution.{System, IsExecution}
use Rattle.meaning_documents.specs.AsSystem.{system_of}
use Rattle.meaning_laws.proofs.AlikeTheorems.{alike_back, runs_alike}
use Rattle.layer_laws.specs.Layers.{Back, choices_below, states_below}
use Rattle.layer_laws.specs.Resets.{reset}
use Rattle.layer_laws.proofs.LayerTheorems.{projection_runs}
use Rattle.layer_laws.proofs.RoundsBelow.{rounds_of_below}
use Rattle.core_terms.specs.Conditions.{IsProgram, IsCoreDocument}
use Rattle.core_terms.specs.declared.programs.CSlot.{CSlot}
use Rattle.core_terms.specs.declared.programs.CProgram.{CProgram}
use Rattle.executor.specs.CoreSystem.{core_system}
use Rattle.core_terms.specs.declared.documents.CRule.{CRule}
use Rattle.core_terms.specs.declared.documents.CStep.{CStep}
use Rattle.core_terms.specs.declared.documents.CProof.{CProof}
use Rattle.meaning_documents.specs.Steps.{proofs_among}
use Rattle.rules_table.specs.Layers.{is_layer, is_new}
use Rattle.rules_table.proofs.WalkTheorems.{layers_stand}
use Rattle.rules_table.proofs.EachLaws.{from_all, each_at, found_in}
use Rattle.rules_table.proofs.LayerOver.{layer_is_over}
use Rattle.expand_fits_parts.specs.from_expand_declarations.WordNumbers.{document_words, word_number}
use Rattle.expand_fits_parts.specs.from_expand_declarations.References.{ref_program}
use Rattle.expand_fits_parts.specs.from_expand_steps.ProofTerms.{ref_in}
use Rattle.expand_fits_parts.specs.from_expand_steps.Steps.{step_place, core_rule, core_step, core_proof}
use Rattle.expand_fits_parts.specs.from_expand_documents.Cores.{document_scope, core_document}
use Rattle.expand_fits_parts.specs.from_expand_correct.Preserved.Meaning.{IsCoreProgramOf}
use Rattle.expand_fits_parts.proofs.lemmas_from_expand_correct.Preserved.Meaning.{programs_alike}
use Rattle.expand_fits_parts.proofs.lemmas_from_expand_correct.Preserved.Proofs.{proofs_match}
use Rattle.soundness.specs.Layers.{LayersProject, SuperposedProject}
use Rattle.soundness.proofs.Sources.{mapped_at, proof_among}

-- a program in core form of a document
core_fits : (d : Document) → IsCoreDocument (core_document d) → (name : List ℕ) (c : Composed) (p : CProgram) →
    IsCoreProgramOf d name c p → IsProgram (core_document d).slots p
core_fits d core name c p found =
    let at = found_in (λ (b : CProgram). nat_eq b.name (word_number (document_words d) name))
    (core_document d).programs p found.found in
    each_at (IsProgram (core_document d).slots) (core_document d).programs
    (from_all (IsProgram (core_document d).slots) (core_document d).programs core.programs) at.place p at.there

pub layers_project : LayersProject
layers_project d core upper lower h f over under one other is first choices later run starts =
    let slots : List CSlot = (core_document d).slots in
    let ranges : Ranges = slot_ranges (document_setting d).variables in
    let y : System = system_of (document_setting d) h in
    let x : System = system_of (document_setting d) f in
    let cy : System = core_system slots over in
    let cx : System = core_system slots under in
    let back : Back = reset (is_new over under) 0 in
    let above = programs_alike d upper h over one in
    let below = programs_alike d lower f under other in
    let layer = layer_is_over slots over under (core_fits d core upper h over one)
    (core_fits d core lower f under other) is in
    let run_core = runs_alike ranges y cy above first choices later run in
    let projected = projection_runs cy cx back layer first choices later run_core (sym (below.starts first) ∙ starts) in
    let k : ℕ = length cx.steps in
    let source = runs_alike ranges cx x (alike_back ranges x cx below) first (choices_below k choices)
    (states_below back first k choices later) projected in
    let some = layer.some in
    let few = layer.few in
    let lower_count = below.count in
    let upper_count = above.count in
    record {
      runs = subst (λ n. IsExecution x first (choices_below n choices) (states_below back first n choices later))
          (sym lower_count) source;
      turns = rounds_of_below (length x.steps) (length y.steps) choices (omega (arith, some, lower_count))
          (omega (arith, few, lower_count, upper_count));
    }

pub superposed_project : SuperposedProject
superposed_project d starts plan accepted place at proof e number step there mark of rule h f over under one other =
    let words = document_words d in
    let slots : List CSlot = (core_document d).slots in
    let among = proof_among d.parts place at proof e in
    let core : Proof → CProof = core_proof words (document_scope d.parts) in
    let in_core : slice_get (core_document d).proofs among.0 ≡ Some (core proof) =
    ap (λ ps. slice_get ps among.0) (proofs_match d) ∙ mapped_at core (proofs_among d.parts) among.0 proof among.1 in
    let made : Step → CStep = core_step words proof.program.text (document_scope d.parts) in
    let step_there : slice_get (core proof).steps number ≡ Some (made step) =
    mapped_at made proof.steps number step there in
    let c = step_place words proof.program.text (document_scope d.parts) step in
    let r = ref_in c of in
    let ruled : (made step).rule ≡ CRule.Superpose r = ap (core_rule c) rule in
    let stands = layers_stand (core_document d) accepted.core starts plan accepted.walked accepted.valid among.0 number
    (core proof) over (made step) r in_core one.found step_there ruled in
    let found : Some stands.below ≡ Some under = sym stands.named ∙ other.found in
    let same : stands.below ≡ under = cc in
    let layer : IsTrue (is_layer over under) = subst (λ b. IsTrue (is_layer over b)) same stands.layer in
    let above = programs_alike d proof.program.text h over one in
    let below = programs_alike d (ref_program proof.program.text of.name of.step) f under other in (
      layer,
      λ first choices later run.
          let start : IsTrue ((core_system slots over).initial first) = sym (above.starts first) ∙ run.starts in
          let begins : IsTrue ((core_system slots under).initial first) =
          subst (λ b. IsTrue ((core_system slots b).initial first)) same (stands.begins first start) in
          layers_project d accepted.core proof.program.text (ref_program proof.program.text of.name of.step) h f over
          under one other layer first choices later run (below.starts first ∙ begins),
    )
