-- Programs and proofs of parts.
use Rattle.std.proofs.Common.{◌≡◌, ℕ, ◌≤◌, ◌^◌, List, [], ◌∷◌, ◌++◌, Bool, true, false, cond, max, Option, Some}
use Rattle.std.proofs.Common.{None, refl, sym, ap, ◌∙◌, subst, arith, All, append_assoc, Result, Ok, Err}
use Rattle.std.specs.Prelude.{nat_eq}
use Rattle.std.proofs.lemmas.List.{append-nil}
use Rattle.std.proofs.lemmas.List.Elements.{All-push, All-head, All-tail}
use Rattle.core_terms.specs.declared.programs.CSlot.{CSlot}
use Rattle.core_terms.specs.declared.programs.CProgram.{CProgram}
use Rattle.core_terms.specs.declared.documents.CProof.{CProof}
use Rattle.core_terms.specs.Weights.{one_weight, plain_weight}
use Rattle.core_terms.specs.Unions.{joined_programs}
use Rattle.core_terms.proofs.LighterLaws.{and_lighter}
use Rattle.unity_syntax.specs.declared.program.Program.{Program}
use Rattle.unity_syntax.specs.declared.proof.Proof.{Proof}
use Rattle.unity_syntax.specs.declared.document.Part.{Part}
use Rattle.names_rules.specs.declared.named.NameFault.{NameFault}
use Rattle.names_rules.specs.Reading.{Fault, earlier}
use Rattle.names_rules.specs.Answers.{Stops}
use Rattle.names_rules.proofs.Steps.{stops_first}
use Rattle.names_rules.proofs.Faults.{earlier_first}
use Rattle.expand_declarations.specs.Texts.{Texts}
use Rattle.expand_rules.specs.Forming.{Scope}
use Rattle.expand_steps.specs.Steps.{Lists, core_proof, proof_fault}
use Rattle.expand_documents.specs.Cores.{core_named, core_program, with_core, with_cores, core_proofs}
use Rattle.expand_documents.specs.Faults.{body_fault, bodies_fault, program_fault, with_part}
use Rattle.quantified_assign.specs.Bodies.{HasLightForm, StartsAreLight, HasLight, MadeProgram, MadeUnion}
use Rattle.quantified_assign.specs.Bodies.{AddedProgram, AddsProgram, Bodied, AddsBodies}

-- weights

-- a program that is found is among light ones
pub found_light : (name : ℕ) (ps : List CProgram) → StartsAreLight ps → HasLight (core_named name ps)
found_light name ps light = among ps light.each
  where
    by : (p : CProgram) (rest : Option CProgram) (b : Bool) → HasLightForm p.initially → HasLight rest →
        HasLight (cond b (Some p) rest)
    by p rest true h k = h
    by p rest false h k = k

    among : (ps : List CProgram) → All (λ c. HasLightForm c.initially) ps → HasLight (core_named name ps)
    among [] h = tt
    among (p ∷ ps) h = by p (core_named name ps) (nat_eq p.name name)
        (All-head (λ (c : CProgram). HasLightForm c.initially) p ps h)
        (among ps (All-tail (λ (c : CProgram). HasLightForm c.initially) p ps h))

pub both_light : (f g : CProgram) → HasLightForm f.initially → HasLightForm g.initially →
    max (plain_weight f.initially) (plain_weight g.initially) ≤ 2 ^ 62
both_light f g h k = omega (arith, h.weight, k.weight)

-- the union of light programs is light
pub union_light : (name : ℕ) (f g : CProgram) → HasLightForm f.initially → HasLightForm g.initially →
    HasLightForm (joined_programs name f g).initially
union_light name f g h k = record {
  weight = omega (
    arith,
    both_light f g h k,
    and_lighter one_weight one_weight f.initially g.initially
        (plain_weight f.initially) (plain_weight g.initially) (omega arith) (omega arith),
  );
}

-- programs that are added

pub added_none : (old : List CProgram) (core : Option CProgram) (fault : Option Fault) → StartsAreLight old →
    MadeUnion None core fault → AddedProgram old old core fault
added_none old core fault light u =
    record { programs = ap (with_core old) u.union.same; light = light; fine = u.fine }

pub added_some : (old new : List CProgram) (c : CProgram) (core : Option CProgram) (fault : Option Fault) →
    StartsAreLight old → MadeUnion (Some c) core fault → new ≡ old ++ c ∷ [] → AddedProgram old new core fault
added_some old new c core fault light u e = record {
  programs = e ∙ ap (with_core old) u.union.same;
  light = record {
    each = subst (All (λ (c : CProgram). HasLightForm c.initially)) (sym e)
        (All-push (λ (c : CProgram). HasLightForm c.initially) old c light.each u.union.light);
  };
  fine = u.fine;
}

pub added_made : (old new : List CProgram) (c core : CProgram) (fault : Option Fault) → StartsAreLight old →
    MadeProgram c core fault → new ≡ old ++ c ∷ [] → AddedProgram old new (Some core) fault
added_made old new c core fault light m e = added_some old new c (Some core) fault light
    (record { union = record { same = ap (λ (c : CProgram). Some c) m.same; light = m.light }; fine = m.fine }) e

-- parts

module _ (words : Texts) (s : Scope) (slots : List CSlot) where
  -- a program alone
  pub program_part : (result : Result (Unit {0}) NameFault) (before after : List CProgram) (old : List CProof) (at : ℕ)
      (p : Program) →
      AddsProgram result before after (core_program words s slots before p) (program_fault words s before p) →
      AddsBodies result words s slots before after old old (Part.Program at p ∷ [])
  program_part (Ok t) before after old at p a = record {
    programs = a.programs;
    proofs = sym (append-nil old);
    light = a.light;
    fine = ap (λ (f : Option Fault). earlier f None) a.fine;
  }
  program_part (Err e) before after old at p a = stops_first e (program_fault words s before p) None a

  -- a proof alone
  pub proof_part : (result : Result (Unit {0}) NameFault) (before : List CProgram) (old new : List CProof) (at : ℕ)
      (p : Proof) → StartsAreLight before →
      Lists result old new (core_proof words s p ∷ []) (proof_fault words s p) →
      AddsBodies result words s slots before before old new (Part.Proof at p ∷ [])
  proof_part (Ok t) before old new at p light a = record {
    programs = refl;
    proofs = a.0;
    light = light;
    fine = ap (λ (f : Option Fault). earlier f None) a.1;
  }
  proof_part (Err e) before old new at p light a = stops_first e (proof_fault words s p) None a

  -- with what was made so far, these lead to what all lead to from the old ones
  pub record BodiesAhead (now : List CProgram) (made : List CProof) (rest : List Part) (before : List CProgram)
      (old : List CProof) (all : List Part) : Type 0 where
    pub programs : with_cores words s slots now rest ≡ with_cores words s slots before all
    pub proofs : made ++ core_proofs words s rest ≡ old ++ core_proofs words s all
    pub faults : bodies_fault words s slots now rest ≡ bodies_fault words s slots before all
    pub light : StartsAreLight now

  cores_first : (now : List CProgram) (p : Part) (rest : List Part) →
      with_cores words s slots now (p ∷ rest) ≡ with_cores words s slots (with_cores words s slots now (p ∷ [])) rest
  cores_first now (Part.Program at p) rest = refl
  cores_first now (Part.Proof at p) rest = refl

  with_part_is : (now : List CProgram) (p : Part) →
      with_part words s slots now p ≡ with_cores words s slots now (p ∷ [])
  with_part_is now (Part.Program at p) = refl
  with_part_is now (Part.Proof at p) = refl

  proofs_first : (p : Part) (rest : List Part) →
      core_proofs words s (p ∷ rest) ≡ core_proofs words s (p ∷ []) ++ core_proofs words s rest
  proofs_first (Part.Program at p) rest = refl
  proofs_first (Part.Proof at p) rest = refl

  pub bodies_more : (now next : List CProgram) (made more : List CProof) (p : Part) (rest : List Part)
      (before : List CProgram) (old : List CProof) (all : List Part) →
      BodiesAhead now made (p ∷ rest) before old all → Bodied words s slots now next made more (p ∷ []) →
      BodiesAhead next more rest before old all
  bodies_more now next made more p rest before old all ahead b =
      let same : next ≡ with_part words s slots now p = b.programs ∙ sym (with_part_is now p) in
      record {
        programs = ap (λ (ps : List CProgram). with_cores words s slots ps rest) b.programs
            ∙ sym (cores_first now p rest) ∙ ahead.programs;
        proofs = ap (λ (qs : List CProof). qs ++ core_proofs words s rest) b.proofs
            ∙ append_assoc made (core_proofs words s (p ∷ [])) (core_proofs words s rest)
            ∙ ap (λ (qs : List CProof). made ++ qs) (sym (proofs_first p rest)) ∙ ahead.proofs;
        faults = ap (λ (ps : List CProgram). bodies_fault words s slots ps rest) same
            ∙ sym (ap (λ (f : Option Fault).
            earlier f (bodies_fault words s slots (with_part words s slots now p) rest))
            (earlier_first (body_fault words s now p) None b.fine)) ∙ ahead.faults;
        light = b.light;
      }

  pub bodies_last : (now : List CProgram) (made : List CProof) (before : List CProgram) (old : List CProof)
      (all : List Part) → BodiesAhead now made [] before old all → Bodied words s slots before now old made all
  bodies_last now made before old all ahead = record {
    programs = ahead.programs;
    proofs = sym (append-nil made) ∙ ahead.proofs;
    light = ahead.light;
    fine = sym ahead.faults;
  }

  -- a fault of a part is the first of those that are left
  pub bodies_stop : (e : NameFault) (now : List CProgram) (made : List CProof) (p : Part) (rest : List Part)
      (before : List CProgram) (old : List CProof) (all : List Part) →
      BodiesAhead now made (p ∷ rest) before old all → Stops e (bodies_fault words s slots now (p ∷ [])) →
      Stops e (bodies_fault words s slots before all)
  bodies_stop e now made p rest before old all ahead stops =
      subst (λ (f : Option Fault). Stops e f) ahead.faults
      (stops_first e (body_fault words s now p) (bodies_fault words s slots (with_part words s slots now p) rest)
      (alone e (body_fault words s now p) stops))
    where
      alone : (e : NameFault) (f : Option Fault) → Stops e (earlier f None) → Stops e f
      alone e None s = s
      alone e (Some f) s = s
