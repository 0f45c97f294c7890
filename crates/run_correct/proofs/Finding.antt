-- The programs that the commands find are those of the document.
use Rattle.std.proofs.Common.{◌≡◌, ℕ, zero, suc, nat_eq, List, [], ◌∷◌, map, Bool, true}
use Rattle.std.proofs.Common.{false, cond, Option, Some}
use Rattle.std.proofs.Common.{None, option_and_then, option_map, refl, sym, ap, ◌∙◌, subst, slice_get}
use Rattle.std.specs.Prelude.{find}
use Rattle.std.specs.List.{flat_map}
use Rattle.std.specs.Str.{bytes_eq}
use Rattle.unity_syntax.specs.declared.term.Inst.{Inst}
use Rattle.unity_syntax.specs.declared.document.Schedule.{Schedule}
use Rattle.unity_syntax.specs.declared.document.Document.{Document}
use Rattle.meaning_documents.specs.Programs.{Composed, program_named, programs_of}
use Rattle.names_rules.specs.Declarations.{some_of}
use Rattle.names_rules.specs.WellNamed.{IsWellNamed}
use Rattle.core_terms.specs.declared.programs.CProgram.{CProgram}
use Rattle.expand_declarations.specs.Texts.{document_texts, part_texts, schedule_texts}
use Rattle.expand_declarations.specs.WordNumbers.{document_words, word_number}
use Rattle.expand_correct.specs.Declared.WordLaws.{is_among}
use Rattle.expand_correct.proofs.Declared.Found.{or_left, or_right}
use Rattle.expand_correct.proofs.Declared.Lists.{part_right}
use Rattle.expand_declarations.specs.References.{core_schedule}
use Rattle.schedule_replay.specs.Lines.{word_text}
use Rattle.run_traces.specs.Programs.{is_called, program_called, program_of, scheduled_program}
use Rattle.expand_correct.specs.Exact.Parts.{EachItem}
use Rattle.expand_correct.specs.from_expand_documents.Cores.{core_document}
use Rattle.expand_correct.specs.from_expand_documents.Faults.{expansion_fault}
use Rattle.expand_correct.specs.Preserved.Meaning.{IsCoreProgramOf}
use Rattle.expand_correct.proofs.Preserved.Matching.{programs_match, cores_match}
use Rattle.meaning_documents.specs.Setting.{programs_among}
use Rattle.run_correct.specs.Shown.{document_places, with_shown}
use Rattle.run_correct.proofs.Lists.{weaker, same_text, text_same, each_among, numbers_as_texts}
use Rattle.run_correct.proofs.Pairs.{found_pair}
use Rattle.run_correct.proofs.Standing.{document_pairs}
use Rattle.run_correct.proofs.Names.{all_names_match}

-- an item at which a test passes, and its place
pub record FoundAt {X : Type 0} (test : X → Bool) (xs : List X) (x : X) : Type 0 where
  pub place : ℕ
  pub there : slice_get xs place ≡ Some x
  pub passes : test x ≡ true

pub found_at : {X : Type 0} (test : X → Bool) (xs : List X) (x : X) → find test xs ≡ Some x → FoundAt test xs x
found_at test [] x e = cc e
found_at {X} test (y ∷ ys) x e = by (test y) refl e (found_at test ys x)
  where
    by : (b : Bool) → test y ≡ b → cond b (Some y) (find test ys) ≡ Some x →
        (find test ys ≡ Some x → FoundAt test ys x) → FoundAt test (y ∷ ys) x
    by true t f rest = let same : y ≡ x = cc in
        record { place = zero; there = ap (λ z. Some z) same; passes = ap test (sym same) ∙ t }
    by false t f rest = let r = rest f in record { place = suc r.place; there = r.there; passes = r.passes }

-- where none is found, the test passes at no item
none_found : {X : Type 0} (test : X → Bool) (xs : List X) (place : ℕ) (x : X) → find test xs ≡ None →
    slice_get xs place ≡ Some x → test x ≡ true → ⊥
none_found test [] place x e f t = cc f
none_found {X} test (y ∷ ys) zero x e f t = let same : y ≡ x = cc in
    let here : test y ≡ true = ap test same ∙ t in
    let never : Some y ≡ None = sym (ap (λ b. cond b (Some y) (find test ys)) here) ∙ e in cc
none_found {X} test (y ∷ ys) (suc place) x e f t =
    by (test y) e (λ g. none_found test ys place x g f t)
  where
    by : (b : Bool) → cond b (Some y) (find test ys) ≡ None → (find test ys ≡ None → ⊥) → ⊥
    by true g rest = cc
    by false g rest = rest g

-- the program that `run` finds has the name in the document
pub called_source : (d : Document) → IsWellNamed d → expansion_fault d ≡ None → (name : List ℕ) (p : CProgram) →
    program_called (core_document d) name ≡ Some p → (c : Composed) × IsCoreProgramOf d name c p
called_source d named fault name p e =
    let f = found_at (is_called (core_document d) name) (core_document d).programs p e in
    let s = cores_match d named fault f.place p f.there in
    let m = all_names_match d s.0 s.1 p named s.2 in
    let same : s.0 ≡ name = sym m.name_is ∙ same_text (word_text (document_words d) p.name) name f.passes in
    (s.1, subst (λ (n : List ℕ). IsCoreProgramOf d n s.1 p) same s.2)

-- where it finds none, no program has it
pub no_program_source : (d : Document) → IsWellNamed d → expansion_fault d ≡ None → (name : List ℕ) →
    program_called (core_document d) name ≡ None → program_named name (programs_of d) ≡ None
no_program_source d named fault name e = by (program_named name (programs_of d)) refl
  where
    by : (o : Option Composed) → program_named name (programs_of d) ≡ o → o ≡ None
    by None f = refl
    by (Some c) f =
        let m = programs_match d named fault name c f in
        let core = m.1 in
        let at = found_at (λ q. nat_eq q.name (word_number (document_words d) name)) (core_document d).programs m.0
        core.found in
        let names = all_names_match d name c m.0 named core in
        absurd (none_found (is_called (core_document d) name) (core_document d).programs at.place m.0 e at.there
        (text_same (word_text (document_words d) m.0.name) name names.name_is))

-- the words of a schedule are words of its document
schedule_among : (d : Document) (s : Schedule) → d.schedule ≡ Some s → (text : List ℕ) →
    is_among (schedule_texts (Some s)) text ≡ true → is_among (document_texts d) text ≡ true
schedule_among d s there text h =
    (part_right (flat_map part_texts d.parts) (schedule_texts d.schedule)).among text
    (ap (λ (o : Option Schedule). is_among (schedule_texts o) text) there ∙ h)

pub labels_among : (d : Document) (s : Schedule) → d.schedule ≡ Some s →
    EachItem (λ (i : Inst). is_among (document_texts d) i.label.text ≡ true) (some_of s.choices)
labels_among d s there =
    let labels = map (λ (j : Inst). j.label.text) (some_of s.choices) in
    weaker (λ (i : Inst). is_among labels i.label.text ≡ true)
    (λ (i : Inst). is_among (document_texts d) i.label.text ≡ true)
    (λ i h. schedule_among d s there i.label.text
    (or_right (bytes_eq i.label.text s.program.text) (is_among labels i.label.text) h)) (some_of s.choices)
    (each_among (λ (j : Inst). j.label.text) (some_of s.choices))

-- the program of a schedule is that of the document's schedule
pub record HasSchedule (d : Document) (p : CProgram) : Type 0 where
  pub schedule : Schedule
  pub there : d.schedule ≡ Some schedule
  pub program : Composed
  pub core : IsCoreProgramOf d schedule.program.text program p

scheduled_by : (d : Document) → IsWellNamed d → expansion_fault d ≡ None → (p : CProgram) (s : Schedule) →
    d.schedule ≡ Some s → program_of (core_document d) (core_schedule (document_words d) s) ≡ Some p →
    HasSchedule d p
scheduled_by d named fault p s there e =
    let number = word_number (document_words d) in
    let f = found_at (λ q. nat_eq q.name (number s.program.text)) (core_document d).programs p e in
    let m = cores_match d named fault f.place p f.there in
    let pair = (found_pair (document_texts d) (programs_of d)
    (with_shown (document_places d) [] (programs_among d.parts)) (core_document d).programs m.0 m.1
    (document_pairs d named) m.2.source).pair in
    let written = schedule_among d s there s.program.text
    (or_left (bytes_eq s.program.text s.program.text)
    (is_among (map (λ (j : Inst). j.label.text) (some_of s.choices)) s.program.text)
    (text_same s.program.text s.program.text refl)) in
    let same : m.0 ≡ s.program.text = same_text m.0 s.program.text
    (sym (numbers_as_texts (document_texts d) m.0 s.program.text pair.written written)
    ∙ ap (λ n. nat_eq n (number s.program.text)) (sym m.2.numbered) ∙ f.passes) in
    record {
      schedule = s;
      there = there;
      program = m.1;
      core = subst (λ (n : List ℕ). IsCoreProgramOf d n m.1 p) same m.2;
    }

pub scheduled_source : (d : Document) → IsWellNamed d → expansion_fault d ≡ None → (p : CProgram) →
    scheduled_program (core_document d) ≡ Some p → HasSchedule d p
scheduled_source d named fault p e = by d.schedule refl e
  where
    by : (o : Option Schedule) → d.schedule ≡ o →
        option_and_then (program_of (core_document d)) (option_map (core_schedule (document_words d)) o) ≡ Some p →
        HasSchedule d p
    by None there f = cc
    by (Some s) there f = scheduled_by d named fault p s there f

pub no_schedule_source : (d : Document) → (core_document d).schedule ≡ None → d.schedule ≡ None
no_schedule_source d e = by d.schedule e
  where
    by : (o : Option Schedule) → option_map (core_schedule (document_words d)) o ≡ None → o ≡ None
    by None f = refl
    by (Some s) f = cc
