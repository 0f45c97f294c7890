-- The proofs of a document, and the programs that they are about.
use Rattle.std.proofs.Common.{◌≡◌, ℕ, zero, suc, List, [], ◌∷◌, ◌++◌, map, Bool, true, false, ◌||◌, Some, None, refl}
use Rattle.std.proofs.Common.{sym, ap, ◌∙◌, subst, slice_get}
use Rattle.std.specs.Str.{bytes_eq}
use Rattle.unity_syntax.specs.declared.program.Program.{Program}
use Rattle.unity_syntax.specs.declared.proof.Proof.{Proof}
use Rattle.unity_syntax.specs.declared.document.Part.{Part}
use Rattle.meaning_documents.specs.Programs.{programs_of}
use Rattle.names_rules.specs.declared.named.Composed.{Composed as NamedParts}
use Rattle.names_rules.specs.Part.{run}
use Rattle.names_rules.specs.Proofs.{program_reading}
use Rattle.names_rules.specs.WellNamed.{Declared, nothing_declared, parts_of, program_part, proved_program}
use Rattle.names_rules.specs.WellNamed.{steps_reading, proof_part, part_of}
use Rattle.names_rules.proofs.Faults.{earlier_first, earlier_second}
use Rattle.expand_declarations.specs.Texts.{Texts}
use Rattle.expand_declarations.specs.WordNumbers.{document_words}
use Rattle.meaning_documents.specs.Steps.{proofs_among}
use Rattle.expand_declarations.proofs.NearIndices.{parts_fault}
use Rattle.expand_rules.specs.Forming.{Scope}
use Rattle.expand_documents.specs.from_expand_steps.Steps.{core_proof}
use Rattle.expand_documents.specs.Cores.{document_scope, core_proofs}
use Rattle.expand_correct.specs.Preserved.Proofs.{ProofsMatch, ProofsFound}
use Rattle.expand_correct.proofs.Preserved.Pairs.{named_some, entered_with}
use Rattle.expand_correct.proofs.Preserved.Matching.{has, known_name, stood, programs_match}

each_proof : (words : Texts) (s : Scope) (parts : List Part) →
    core_proofs words s parts ≡ map (core_proof words s) (proofs_among parts)
each_proof words s [] = refl
each_proof words s (Part.Program at program ∷ rest) = each_proof words s rest
each_proof words s (Part.Proof at proof ∷ rest) = ap (λ ps. core_proof words s proof ∷ ps) (each_proof words s rest)

pub proofs_match : ProofsMatch
proofs_match d = each_proof (document_words d) (document_scope d.parts) d.parts

-- programs that are named stay named

or_second : (a b : Bool) → b ≡ true → (a || b) ≡ true
or_second true b h = refl
or_second false b h = h

named_after_program : (d : Declared) (p : Program) (name : List ℕ) → has d.programs name ≡ true →
    has (program_part d p).after.programs name ≡ true
named_after_program d (Program.Union at own left right) name h =
    let v : NamedParts = record { at = own.at; parts = parts_of d.programs left ++ parts_of d.programs right } in
    entered_with d.programs own.text v name ∙ or_second (bytes_eq name own.text) (has d.programs name) h
named_after_program d (Program.Plain at own declare always initially start items) name h =
    let v : NamedParts = record { at = own.at; parts = own.at ∷ [] } in
    entered_with d.programs own.text v name ∙ or_second (bytes_eq name own.text) (has d.programs name) h

named_after : (d : Declared) (parts : List Part) (name : List ℕ) → has d.programs name ≡ true →
    has (run part_of d parts).after.programs name ≡ true
named_after d [] name h = h
named_after d (Part.Program at p ∷ rest) name h =
    named_after (program_part d p).after rest name (named_after_program d p name h)
named_after d (Part.Proof at p ∷ rest) name h = named_after (proof_part d p).after rest name h

-- the program that a proof is about is named where it stands, and so at the end
named_by_proof : (d : Declared) (p : Proof) → (proof_part d p).fault ≡ None →
    has d.programs p.program.text ≡ true
named_by_proof d p h =
    let proved = (proved_program d p.program).fault in
    let steps = (steps_reading d.programs d.names p.steps).fault in
    known_name d.programs p.program (earlier_first (program_reading d.programs p.program).fault _
    (earlier_first proved steps h))

named_in_proofs : (d : Declared) (parts : List Part) → (run part_of d parts).fault ≡ None →
    (place at : ℕ) (proof : Proof) → slice_get parts place ≡ Some (Part.Proof at proof) →
    has (run part_of d parts).after.programs proof.program.text ≡ true
named_in_proofs d [] f place at proof e = cc e
named_in_proofs d (p ∷ rest) f zero at proof e =
    let same : Part.Proof at proof ≡ p = cc in
    subst (λ (q : Part). (part_of d q).fault ≡ None →
    has (run part_of (part_of d q).after rest).after.programs proof.program.text ≡ true) same
    (λ h. named_after (proof_part d proof).after rest proof.program.text (named_by_proof d proof h))
    (earlier_first (part_of d p).fault (run part_of (part_of d p).after rest).fault f)
named_in_proofs d (p ∷ rest) f (suc place) at proof e =
    named_in_proofs (part_of d p).after rest
    (earlier_second (part_of d p).fault (run part_of (part_of d p).after rest).fault f) place at proof e

pub proofs_found : ProofsFound
proofs_found d named fault place at proof e =
    let h = stood d named fault in
    let there = named_in_proofs nothing_declared d.parts (parts_fault d named) place at proof e in
    let c = named_some (programs_of d) proof.program.text (sym (h.agree proof.program.text) ∙ there) in
    let p = programs_match d named fault proof.program.text c.0 c.1 in (c.0, p.0, p.1)
