-- Programs of a document without a fault are exact where they have their meaning.
use Rattle.std.proofs.Common.{◌≡◌, ℕ, zero, suc, List, [], ◌∷◌, Bool, true, false, cond, Option, Some, None, refl, sym}
use Rattle.std.proofs.Common.{ap, ◌∙◌, subst}
use Rattle.std.specs.Prelude.{⊤}
use Rattle.case_tables.specs.declared.code_table.Code.{Code}
use Rattle.unity_syntax.specs.declared.program.Initially.{Initially}
use Rattle.unity_syntax.specs.declared.program.Program.{Program}
use Rattle.unity_syntax.specs.declared.statement.Items.{Items}
use Rattle.unity_syntax.specs.declared.document.Part.{Part}
use Rattle.meaning_documents.specs.Names.{Bindings}
use Rattle.meaning_documents.specs.Instances.{Instance, instances}
use Rattle.meaning_documents.specs.Setting.{programs_among}
use Rattle.names_rules.specs.Reading.{Fault}
use Rattle.names_rules.proofs.Faults.{earlier_first, earlier_second}
use Rattle.core_terms.specs.declared.programs.CSlot.{CSlot}
use Rattle.core_terms.specs.declared.programs.CProgram.{CProgram}
use Rattle.expand_declarations.specs.Texts.{Texts}
use Rattle.expand_declarations.specs.WordNumbers.{document_words}
use Rattle.expand_declarations.specs.Slots.{document_slots}
use Rattle.expand_rules.specs.declared.cores.Formed.{Formed}
use Rattle.expand_rules.specs.declared.effects.Effect.{Effect}
use Rattle.expand_rules.specs.declared.cores.Flaws.{Flaws}
use Rattle.expand_rules.specs.Measures.{no_flaws}
use Rattle.expand_rules.specs.Forming.{Scope, formed, as_truth}
use Rattle.expand_rules.specs.Assigning.{among, stated}
use Rattle.expand_rules.specs.Lists.{flaws_fault, items_fault}
use Rattle.expand_rules.specs.Documents.{scope_of, within}
use Rattle.expand_rules.specs.Programs.{InitiallyExact, StatementsExact}
use Rattle.expand_correct.specs.Values.SightLaws.{SeeSame}
use Rattle.expand_correct.proofs.Values.SameSight.{formed_by_sight, assigned_by_sight}
use Rattle.expand_correct.specs.Exact.Parts.{EachItem}
use Rattle.expand_correct.specs.Exact.ByNames.{ExactStatements, ExactSection, ExactInitially}
use Rattle.expand_correct.proofs.Exact.Statements.{statements_seen, initially_seen}
use Rattle.expand_documents.proofs.lemmas_from_expand_statements.FaultlessLaws.{faultless_instances}
use Rattle.expand_rules.proofs.FlawLaws.{flaws_first, flawless}
use Rattle.expand_documents.specs.from_expand_steps.Elements.{flaws_in, some_too_large, element_fault}
use Rattle.expand_documents.specs.Cores.{document_scope}
use Rattle.expand_documents.specs.Faults.{initially_fault, program_fault, body_fault, with_part, bodies_fault}
use Rattle.expand_correct.specs.Preserved.Exact.{ProgramExact, ProgramsExact}
use Rattle.expand_correct.proofs.Preserved.Sights.{sees_alike, sees_inside}
use Rattle.expand_correct.proofs.Preserved.Faultless.{bodies_faultless}

-- faults

-- nothing fails in what has no fault
past_large : (b : Bool) (f : Fault) (flaws : Flaws) → cond b (Some f) (flaws_fault flaws) ≡ None → flaws ≡ no_flaws
past_large true f flaws h = cc h
past_large false f flaws h = flawless flaws h

pub none_fails : (front : ℕ) (fs : List Formed) → element_fault front fs ≡ None → flaws_in fs ≡ no_flaws
none_fails front fs h =
    past_large (some_too_large fs) (record { code = Code.TooLarge; at = front }) (flaws_in fs) h

-- what has no fault in a program
abbrev IsFine : Scope → Program → Type 0
IsFine s (Program.Union at name left right) = ⊤
IsFine s (Program.Plain at name declare always initially start items) =
    (initially_fault s initially ≡ None) × (items_fault s items ([] ∷ []) ≡ None)

fine_program : (words : Texts) (s : Scope) (before : List CProgram) (p : Program) →
    program_fault words s before p ≡ None → IsFine s p
fine_program words s before (Program.Union at name left right) h = tt
fine_program words s before (Program.Plain at name declare always initially start items) h = (
  earlier_first (initially_fault s initially) (items_fault s items ([] ∷ [])) h,
  earlier_second (initially_fault s initially) (items_fault s items ([] ∷ [])) h,
)

fine_programs : (words : Texts) (s : Scope) (slots : List CSlot) (before : List CProgram) (parts : List Part) →
    bodies_fault words s slots before parts ≡ None → EachItem (IsFine s) (programs_among parts)
fine_programs words s slots before [] h place q e = cc e
fine_programs words s slots before (Part.Program at p ∷ rest) h zero q e =
    let more = with_part words s slots before (Part.Program at p) in
    let same : p ≡ q = cc in
    subst (IsFine s) same (fine_program words s before p
    (earlier_first (program_fault words s before p) (bodies_fault words s slots more rest) h))
fine_programs words s slots before (Part.Program at p ∷ rest) h (suc place) q e =
    let more = with_part words s slots before (Part.Program at p) in
    fine_programs words s slots more rest
    (earlier_second (program_fault words s before p) (bodies_fault words s slots more rest) h) place q e
fine_programs words s slots before (Part.Proof at p ∷ rest) h place q e =
    fine_programs words s slots before rest
    (earlier_second (body_fault words s before (Part.Proof at p)) (bodies_fault words s slots before rest) h) place q e

-- exactness, from one scope to another that sees the same

exact_section : (s t : Scope) (initially : Option Initially) → SeeSame s t → ExactSection s initially →
    initially_fault s initially ≡ None → InitiallyExact t initially
exact_section s t None h x f = tt
exact_section s t (Some section) h x f =
    let same = formed_by_sight section.of s t h in (
      sym (ap (λ e. (as_truth e).exact) same) ∙ x,
      sym (ap (λ e. (as_truth e).measure.flaws) same)
          ∙ flaws_first (as_truth (formed section.of s)).measure.flaws no_flaws
          (none_fails section.at (as_truth (formed section.of s) ∷ []) f),
    )

pub among_same : (s t : Scope) (b : Bindings) → SeeSame s t → SeeSame (among s b) (among t b)
among_same s t b h = record { variables = h.variables; words = h.words; always = h.always; bound = refl }

pub effect_same : (s t : Scope) (i : Instance) → SeeSame s t → (stated s i).effect ≡ (stated t i).effect
effect_same s t i h =
    assigned_by_sight i.assign (among s i.bindings) (among t i.bindings) (among_same s t i.bindings h)

exact_items : (s t : Scope) (items : Items) → SeeSame s t →
    EachItem (λ i. (stated s i).effect.exact ≡ true) (instances items) →
    items_fault s items ([] ∷ []) ≡ None → StatementsExact t items
exact_items s t items h x f place i e = let same = effect_same s t i h in
    let fine = faultless_instances s items f place i e in (
      sym (ap (λ (k : Effect). k.exact) same) ∙ x place i e,
      sym (ap (λ (k : Effect). k.count.flaws) same) ∙ fine.1,
    )

exact_program : (s t : Scope) (p : Program) → SeeSame s t → ExactInitially s p → ExactStatements s p →
    IsFine s p → ProgramExact t p
exact_program s t (Program.Union at name left right) h x y f = tt
exact_program s t (Program.Plain at name declare always initially start items) h x y f =
    (exact_section s t initially h x f.0, exact_items s t items h y f.1)

pub programs_exact : ProgramsExact
programs_exact d named fault place p e =
    let s = document_scope d.parts in
    let t = within (scope_of (programs_among d.parts)) [] in
    let fine = fine_programs (document_words d) s (document_slots (document_words d) d.parts) [] d.parts
    (bodies_faultless d fault) in
    exact_program s t p (sees_inside d.parts) (initially_seen d named s (sees_alike d.parts) place p e)
    (statements_seen d named s (sees_alike d.parts) place p e) (fine place p e)
