-- The lines of a plan are those of the document's steps.
use Rattle.std.proofs.Common.{◌≡◌, ℕ, zero, suc, List, [], ◌∷◌, ◌++◌, map, length, codes, true, Option, Some}
use Rattle.std.proofs.Common.{refl, sym, ap, ◌∙◌, subst, slice_get, unwrap_or}
use Rattle.std.specs.List.{flat_map}
use Rattle.unity_syntax.specs.declared.document.Part.{Part}
use Rattle.unity_syntax.specs.declared.document.Document.{Document}
use Rattle.meaning_documents.specs.Claims.{Claims}
use Rattle.fair_rounds.specs.declared.records.Record.{Record}
use Rattle.rules_table.proofs.EachLaws.{Each}
use Rattle.expand_fits_parts.specs.from_expand_declarations.Texts.{Texts, part_texts, step_texts, schedule_texts}
use Rattle.expand_fits_parts.specs.from_expand_declarations.Texts.{document_texts}
use Rattle.expand_fits_parts.specs.from_expand_declarations.WordNumbers.{document_words, word_number}
use Rattle.expand_fits_parts.specs.from_expand_correct.Declared.WordLaws.{is_among}
use Rattle.expand_fits_parts.proofs.lemmas_from_expand_correct.Declared.Found.{words_found}
use Rattle.expand_fits_parts.proofs.Conditions.Programs.{each_has, last_has, itself}
use Rattle.meaning_executions.specs.Pairwise.{Pairwise}
use Rattle.meaning_documents.specs.Steps.{ProofStep, document_steps}
use Rattle.expand_fits_parts.specs.from_expand_documents.Cores.{core_document}
use Rattle.schedule_replay.specs.Lines.{word_text}
use Rattle.cli_texts.specs.Verdicts.{kind_text, step_line}
use Rattle.soundness.specs.Properties.{StepIsProved}
use Rattle.soundness.proofs.Claims.{claims_are_true}
use Rattle.soundness.proofs.Sources.{StandsIn, each_stands}
use Rattle.soundness.specs.Told.{told_line, told_lines, told_first, AcceptedTells}

-- ---- words

flat_has : {X : Type 0} (f : X → Texts) (xs : List X) (n : ℕ) (x : X) (t : List ℕ) → slice_get xs n ≡ Some x →
    is_among (f x) t ≡ true → is_among (flat_map f xs) t ≡ true
flat_has f [] n x t e h = cc e
flat_has f (y ∷ ys) zero x t e h =
    let same : y ≡ x = cc in
    each_has t (f y) (flat_map f ys) (subst (λ z. is_among (f z) t ≡ true) (sym same) h)
flat_has f (y ∷ ys) (suc n) x t e h = last_has t (f y) (flat_map f ys) (flat_has f ys n x t e h)

module _ (d : Document) where
  part_has : (n : ℕ) (part : Part) (t : List ℕ) → slice_get d.parts n ≡ Some part →
      is_among (part_texts part) t ≡ true → is_among (document_texts d) t ≡ true
  part_has n part t e h =
      each_has t (flat_map part_texts d.parts) (schedule_texts d.schedule) (flat_has part_texts d.parts n part t e h)

  program_written : (s : ProofStep) → StandsIn d s → is_among (document_texts d) s.proof.program.text ≡ true
  program_written s stands =
      part_has stands.place (Part.Proof stands.at s.proof) s.proof.program.text stands.proof
      (itself s.proof.program.text (flat_map step_texts s.proof.steps))

  step_written : (s : ProofStep) → StandsIn d s → is_among (document_texts d) s.step.name.text ≡ true
  step_written s stands =
      part_has stands.place (Part.Proof stands.at s.proof) s.step.name.text stands.proof
      (last_has s.step.name.text (s.proof.program.text ∷ []) (flat_map step_texts s.proof.steps)
      (flat_has step_texts s.proof.steps stands.number s.step s.step.name.text stands.step
      (itself s.step.name.text _)))

  word_here : (t : List ℕ) → is_among (document_texts d) t ≡ true →
      word_text (core_document d).words (word_number (document_words d) t) ≡ t
  word_here t h = ap (λ (o : Option (List ℕ)). unwrap_or o []) (words_found (document_texts d) t h)

  -- ---- lines

  line_is : (s : ProofStep) (r : Record) → StandsIn d s → StepIsProved d s r →
      step_line (core_document d).words r ≡ told_line s r.bound
  line_is s r stands proved =
      let program : word_text (core_document d).words r.program ≡ s.proof.program.text =
      ap (word_text (core_document d).words) proved.recorded.program
      ∙ word_here s.proof.program.text (program_written s stands) in
      let name : word_text (core_document d).words r.name ≡ s.step.name.text =
      ap (word_text (core_document d).words) proved.recorded.name
      ∙ word_here s.step.name.text (step_written s stands) in
      ap (λ t. t ++ (codes "." ++ (word_text (core_document d).words r.name ++ kind_text r.kind r.bound))) program
      ∙ ap (λ t. s.proof.program.text ++ (codes "." ++ (t ++ kind_text r.kind r.bound))) name
      ∙ ap (λ k. s.proof.program.text ++ (codes "." ++ (s.step.name.text ++ kind_text k r.bound)))
      proved.recorded.kind

  lines_are : (ss : List ProofStep) (rs : List Record) → Each (StandsIn d) ss → Pairwise (StepIsProved d) ss rs →
      flat_map (step_line (core_document d).words) rs ≡ told_lines ss (map (λ (r : Record). r.bound) rs)
  lines_are [] [] stands proved = refl
  lines_are [] (r ∷ rs) stands proved = absurd proved
  lines_are (s ∷ ss) [] stands proved = absurd proved
  lines_are (s ∷ ss) (r ∷ rs) stands proved =
      ap (λ t. t ++ flat_map (step_line (core_document d).words) rs) (line_is s r stands.0 proved.0)
      ∙ ap (λ t. told_line s r.bound ++ t) (lines_are ss rs stands.1 proved.1)

  claims_are : (ss : List ProofStep) (rs : List Record) → Pairwise (StepIsProved d) ss rs →
      Pairwise (λ s bound. Claims d s.proof s.step bound) ss (map (λ (r : Record). r.bound) rs)
  claims_are [] [] proved = tt
  claims_are [] (r ∷ rs) proved = absurd proved
  claims_are (s ∷ ss) [] proved = absurd proved
  claims_are (s ∷ ss) (r ∷ rs) proved = (proved.0.claims, claims_are ss rs proved.1)

same_length : {X Y : Type 0} (R : X → Y → Type 0) (xs : List X) (ys : List Y) → Pairwise R xs ys →
    length ys ≡ length xs
same_length R [] [] h = refl
same_length R [] (y ∷ ys) h = absurd h
same_length R (x ∷ xs) [] h = absurd h
same_length R (x ∷ xs) (y ∷ ys) h = ap suc (same_length R xs ys h.1)

pub accepted_tells : AcceptedTells
accepted_tells d starts steps plan accepted words same =
    let proved = claims_are_true d starts steps accepted words in
    record {
      bounds = map (λ (r : Record). r.bound) steps.records;
      obligations = length plan.obligations;
      lines =
          ap (λ (rs : List Record). told_first (length rs) (length plan.obligations)
          ++ flat_map (step_line (core_document d).words) rs) same
          ∙ ap (λ n. told_first n (length plan.obligations)
          ++ flat_map (step_line (core_document d).words) steps.records)
          (same_length (StepIsProved d) (document_steps d) steps.records proved)
          ∙ ap (λ t. told_first (length (document_steps d)) (length plan.obligations) ++ t)
          (lines_are d (document_steps d) steps.records (each_stands d) proved);
      claims = claims_are d (document_steps d) steps.records proved;
    }
