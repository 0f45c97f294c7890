-- The core form of a sound document meets all conditions.
use Rattle.std.proofs.Common.{◌≡◌, ◌<◌, ◌^◌, List, [], ◌∷◌, ◌++◌, map, length, refl, sym, ap, ◌∙◌, subst, get_or}
use Rattle.std.specs.Prelude.{sum}
use Rattle.unity_syntax.specs.declared.document.Part.{Part}
use Rattle.core_terms.specs.declared.trees.Range.{Range}
use Rattle.core_terms.specs.declared.programs.CSlot.{CSlot}
use Rattle.core_terms.specs.declared.documents.CRule.{CRule}
use Rattle.core_terms.specs.declared.documents.CProof.{CProof}
use Rattle.core_terms.specs.Conditions.{is_below, RuleWellScoped, rule_ranges}
use Rattle.expand_declarations.specs.Texts.{Texts}
use Rattle.expand_declarations.specs.WordNumbers.{document_words}
use Rattle.expand_rules.specs.Forming.{Scope}
use Rattle.expand_fits_parts.specs.from_expand_steps.Steps.{core_step}
use Rattle.expand_fits_parts.proofs.lemmas_from_expand_statements.FaultlessLaws.{faultless_instances}
use Rattle.meaning_documents.specs.Steps.{proofs_among}
use Rattle.expand_fits_parts.proofs.lemmas_from_expand_correct.Declared.Slots.{slots_are_sound, slots_have_words}
use Rattle.expand_fits_parts.specs.from_expand_documents.Cores.{core_document, document_scope, core_proofs}
use Rattle.expand_fits_parts.specs.Forms.StepLaws as step
use Rattle.expand_fits_parts.proofs.Forms.Bodies.{programs_fit}
use Rattle.expand_fits_parts.proofs.Forms.ShownPrograms.{programs_show}
use Rattle.expand_fits_parts.proofs.Forms.Claims.{claims_fit}
use Rattle.expand_fits_parts.proofs.Forms.StepTerms.{terms_fit}
use Rattle.expand_fits_parts.specs.Conditions.StepConditions.{RuleNamed}
use Rattle.expand_fits_parts.specs.Conditions.TermConditions.{RuleIsNumbered, RuleHasRanges}
use Rattle.expand_fits_parts.specs.Conditions.ArgumentConditions.{RuleArgumentsFit, RuleIndexed}
use Rattle.expand_fits_parts.proofs.Conditions.Programs.{programs_have_words, program_names_differ, unions_fit}
use Rattle.expand_fits_parts.proofs.Conditions.Sizes.{statements_are_few}
use Rattle.expand_fits_parts.proofs.Conditions.Proofs.{proof_programs_differ, step_names_differ, parameters_have_ranges}
use Rattle.expand_fits_parts.proofs.Conditions.Proofs.{kinds_fit}
use Rattle.expand_fits_parts.proofs.Conditions.Walk.{statements_apart, proofs_named}
use Rattle.expand_fits_parts.proofs.Conditions.Shown.{shown_slots_exist, shown_slots_rise, schedules_fit}
use Rattle.expand_fits_parts.proofs.Conditions.Terms.{parameters_named}
use Rattle.expand_fits_parts.proofs.Conditions.Numbering.{terms_numbered}
use Rattle.expand_fits_parts.proofs.Conditions.Ranges.{bound_names_have_ranges}
use Rattle.expand_fits_parts.proofs.Conditions.StepNames.{steps_have_words}
use Rattle.expand_fits_parts.proofs.Conditions.Arguments.{using_named, rules_named, length_mapped}
use Rattle.expand_fits_parts.proofs.Conditions.RefArguments.{refs_named}
use Rattle.expand_fits.proofs.Initial.Starts.{starts_once}
use Rattle.expand_fits.proofs.Initial.StartValues.{starts_fit}
use Rattle.expand_fits_parts.proofs.Conditions.StepNumbers.{steps_fit}
use Rattle.expand_fits_parts.proofs.Conditions.HelperIndices.{helpers_indexed}
use Rattle.expand_fits.specs.DocumentLaws.{DocumentsSound}
use Rattle.expand_fits.proofs.Initial.ShownStarts.{starts_shown}

-- a rule sees what is visible to it
rule_sees : (slots : List CSlot) (params : List Range) (rule : CRule) → RuleNamed (is_below (length params)) rule →
    RuleArgumentsFit rule → RuleIndexed rule → RuleIsNumbered (length params) rule → RuleHasRanges rule →
    step.RuleFits slots params rule →
    RuleWellScoped slots (params ++ rule_ranges rule) (is_below (length params)) (length params) rule
rule_sees slots params CRule.Text named fits indexed numbered ranges forms = tt
rule_sees slots params (CRule.TextWith h) named fits indexed numbered ranges forms =
    record { args = record { numbers = fits; names = named }; indices = indexed }
rule_sees slots params (CRule.WeakenStep r) named fits indexed numbered ranges forms = tt
rule_sees slots params (CRule.Pair which r s) named fits indexed numbered ranges forms = tt
rule_sees slots params (CRule.Union r s) named fits indexed numbered ranges forms = tt
rule_sees slots params (CRule.Superpose r) named fits indexed numbered ranges forms = tt
rule_sees slots params (CRule.Complete r s t u) named fits indexed numbered ranges forms = tt
rule_sees slots params (CRule.Proof t) named fits indexed numbered ranges forms =
    let visible = is_below (length params) in (
      record {
        forms = forms.forms;
        form_names = forms.form_names;
        terms = forms.terms;
        term_names = forms.term_names;
        args = λ k e lt. record { numbers = fits visible k e lt; names = named k e lt };
        ranges_are = ranges visible;
      },
      numbered,
    )

-- a step in core form for each step of the text
step_counts : (words : Texts) (s : Scope) (parts : List Part) →
    map (λ (p : CProof). length p.steps) (core_proofs words s parts) ≡ map (λ p. length p.steps) (proofs_among parts)
step_counts words s [] = refl
step_counts words s (Part.Program at p ∷ rest) = step_counts words s rest
step_counts words s (Part.Proof at p ∷ rest) =
    ap (λ n. n ∷ map (λ (c : CProof). length c.steps) (core_proofs words s rest))
    (length_mapped (core_step words p.program.text s) p.steps)
    ∙ ap (λ ns. length p.steps ∷ ns) (step_counts words s rest)

pub documents_sound : DocumentsSound
documents_sound d h =
    let c = core_document d in
    let words = document_words d in
    let fits = programs_fit faultless_instances d h.expands in
    let shows = programs_show d h.named h.programs in
    let counts = statements_are_few d h.expands in
    let claims = claims_fit d h.named h.expands in
    let forms = terms_fit d h.named h.expands in
    let numbers = steps_fit d h.literals in
    record {
      version = h.version;
      slots = slots_are_sound d words h.named h.words;
      slot_words = slots_have_words d;
      programs = λ k p lt.
          let x = get_or c.programs k p in record {
            some = (counts k p lt).0;
            few = (counts k p lt).1;
            apart = statements_apart d h.named k p lt;
            statements = (fits k p lt).statements;
            initially = (fits k p lt).initially;
            one_start = starts_once d h.named k p lt;
            start = starts_fit d h.named h.enumerations k p lt;
            shown = shown_slots_exist d k p lt;
            rising = shown_slots_rise d k p lt;
            shown_initially = (shows k p lt).initially;
            shown_start = starts_shown d h.named h.programs k p lt;
            shown_statements = (shows k p lt).statements;
          };
      program_words = programs_have_words d;
      program_names = program_names_differ d h.named;
      unions = unions_fit d;
      proofs = λ k p lt. record {
        program = proofs_named d h.named k p lt;
        steps = λ j s lt2.
            let x = get_or (get_or c.proofs k p).steps j s in
            let near = numbers k p lt j s lt2 in record {
              params = parameters_have_ranges d h.named k p lt j s lt2;
              names = parameters_named d k p lt j s lt2;
              p = (claims k p lt j s lt2).p;
              q = (claims k p lt j s lt2).q;
              kind = kinds_fit d h.named k p lt j s lt2;
              rule = rule_sees c.slots x.params x.rule (rules_named d h.named k p lt j s lt2) near.rule
                  (helpers_indexed d h.named k p lt j s lt2) (terms_numbered d h.named k p lt j s lt2)
                  (bound_names_have_ranges d h.named k p lt j s lt2) (forms k p lt j s lt2);
              refs = λ i r lt3. record {
                numbers = near.refs i r lt3;
                names = refs_named d h.named k p lt j s lt2 i r lt3;
              };
              using = λ i r lt3. record {
                numbers = near.using i r lt3;
                names = using_named d h.named k p lt j s lt2 i r lt3;
              };
            };
        names = step_names_differ d h.named k p lt;
      };
      proof_words = steps_have_words d;
      proof_programs = proof_programs_differ d h.named;
      few_steps = subst (λ n. n < 2 ^ 31) (sym (ap sum (step_counts words (document_scope d.parts) d.parts)))
          h.steps.few;
      schedule = schedules_fit d h.named;
    }
