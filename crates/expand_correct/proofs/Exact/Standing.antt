-- What is declared before each part of a well-named document.
use Rattle.std.proofs.Common.{◌≡◌, ℕ, zero, suc, List, [], ◌∷◌, Some, None, slice_get, subst}
use Rattle.unity_syntax.specs.declared.program.Program.{Program}
use Rattle.unity_syntax.specs.declared.proof.Proof.{Proof}
use Rattle.unity_syntax.specs.declared.document.Part.{Part as DocumentPart}
use Rattle.unity_syntax.specs.declared.document.Document.{Document}
use Rattle.meaning_documents.specs.Setting.{programs_among}
use Rattle.names_rules.specs.Scope.{Table}
use Rattle.names_rules.specs.Part.{Part, run}
use Rattle.names_rules.specs.Declarations.{items_of}
use Rattle.names_rules.specs.Declarations.{variable_part}
use Rattle.names_rules.specs.WellNamed.{Declared, nothing_declared, part_of, program_part, schedule_reading}
use Rattle.names_rules.specs.WellNamed.{IsWellNamed}
use Rattle.names_laws.specs.StayingLaws.{StaysIn}
use Rattle.names_laws.specs.AttributeLaws.{ArraysVary}
use Rattle.names_laws.proofs.AttributeTheorems.{variables_vary, definitions_vary}
use Rattle.names_rules.proofs.Faults.{earlier_first, earlier_second}
use Rattle.names_laws.proofs.Staying.{stays_in_documents}
use Rattle.expand_correct.specs.Exact.Parts.{PartsFaultless, ProgramStands, ProofStands, ProgramsStand, ProofsStand}
use Rattle.expand_correct.specs.Exact.Parts.{StepsFaultless, final_names}

pub same_some : {X : Type 0} {x y : X} → Some x ≡ Some y → x ≡ y
same_some e = cc e

pub parts_faultless : {S X : Type 0} (f : S → X → Part S) → PartsFaultless f
parts_faultless f s [] fault place x e = cc e
parts_faultless f s (y ∷ ys) fault zero x e =
    subst (λ z. (f s z).fault ≡ None) (same_some e) (earlier_first (f s y).fault (run f (f s y).after ys).fault fault)
parts_faultless f s (y ∷ ys) fault (suc place) x e =
    parts_faultless f (f s y).after ys (earlier_second (f s y).fault (run f (f s y).after ys).fault fault) place x e

pub steps_faultless : StepsFaultless
steps_faultless programs names = parts_faultless _

-- no array of a table is constant after a program either
pub varies_program : (d : Declared) (program : Program) → ArraysVary d.names →
    ArraysVary (program_part d program).after.names
varies_program d (Program.Union place name left right) vary = vary
varies_program d (Program.Plain place name declare always initially start items) vary =
    definitions_vary name.at (run (variable_part name.at) d.names (items_of declare)).after (items_of always)
    (variables_vary name.at d.names (items_of declare) vary)

module _ (final : Table) where
  stays_after : (d : Declared) (parts : List DocumentPart) → (run part_of d parts).fault ≡ None →
      StaysIn (run part_of d parts).after.names final → StaysIn d.names final
  stays_after d parts fault stays word n e =
      let k = stays_in_documents d parts fault word n e in
      stays word (record n { program = k.0 }) k.1

  program_stands : (d : Declared) (parts : List DocumentPart) → ArraysVary d.names →
      (run part_of d parts).fault ≡ None → StaysIn (run part_of d parts).after.names final → (place : ℕ)
      (program : Program) → slice_get (programs_among parts) place ≡ Some program → ProgramStands final program
  program_stands d [] vary fault stays place program e = cc e
  program_stands d (DocumentPart.Program at of ∷ parts) vary fault stays zero program e =
      let p = program_part d of in
      let q = run part_of p.after parts in
      subst (λ x. ProgramStands final x) (same_some e) (record {
        before = d;
        faultless = earlier_first p.fault q.fault fault;
        stays = stays_after p.after parts (earlier_second p.fault q.fault fault) stays;
        vary = vary;
      })
  program_stands d (DocumentPart.Program at of ∷ parts) vary fault stays (suc place) program e =
      let p = program_part d of in
      let q = run part_of p.after parts in
      program_stands p.after parts (varies_program d of vary) (earlier_second p.fault q.fault fault) stays place
      program e
  program_stands d (DocumentPart.Proof at of ∷ parts) vary fault stays place program e =
      let p = part_of d (DocumentPart.Proof at of) in
      let q = run part_of p.after parts in
      program_stands p.after parts vary (earlier_second p.fault q.fault fault) stays place program e

  proof_stands : (d : Declared) (parts : List DocumentPart) → ArraysVary d.names →
      (run part_of d parts).fault ≡ None → StaysIn (run part_of d parts).after.names final → (place at : ℕ)
      (proof : Proof) → slice_get parts place ≡ Some (DocumentPart.Proof at proof) → ProofStands final proof
  proof_stands d [] vary fault stays place at proof e = cc e
  proof_stands d (DocumentPart.Program at2 of ∷ parts) vary fault stays zero at proof e = cc e
  proof_stands d (DocumentPart.Program at2 of ∷ parts) vary fault stays (suc place) at proof e =
      let p = program_part d of in
      let q = run part_of p.after parts in
      proof_stands p.after parts (varies_program d of vary) (earlier_second p.fault q.fault fault) stays place at
      proof e
  proof_stands d (DocumentPart.Proof at2 of ∷ parts) vary fault stays zero at proof e =
      let p = part_of d (DocumentPart.Proof at2 of) in
      let q = run part_of p.after parts in
      subst (λ x. ProofStands final x) (same_proof e) (record {
        before = d;
        faultless = earlier_first p.fault q.fault fault;
        stays = stays_after p.after parts (earlier_second p.fault q.fault fault) stays;
        vary = vary;
      })
    where
      same_proof : {x y : Proof} {m n : ℕ} → Some (DocumentPart.Proof m x) ≡ Some (DocumentPart.Proof n y) → x ≡ y
      same_proof k = cc k
  proof_stands d (DocumentPart.Proof at2 of ∷ parts) vary fault stays (suc place) at proof e =
      let p = part_of d (DocumentPart.Proof at2 of) in
      let q = run part_of p.after parts in
      proof_stands p.after parts vary (earlier_second p.fault q.fault fault) stays place at proof e

-- the parts of a well-named document have no fault
pub document_fault : (d : Document) → IsWellNamed d → (run part_of nothing_declared d.parts).fault ≡ None
document_fault d named =
    let p = run part_of nothing_declared d.parts in
    earlier_first p.fault (schedule_reading p.after d.schedule).fault named

pub programs_stand : ProgramsStand
programs_stand d named =
    program_stands (final_names d) nothing_declared d.parts (λ word n e. cc e) (document_fault d named)
    (λ word n e. (n.program, e))

pub proofs_stand : ProofsStand
proofs_stand d named =
    proof_stands (final_names d) nothing_declared d.parts (λ word n e. cc e) (document_fault d named)
    (λ word n e. (n.program, e))
