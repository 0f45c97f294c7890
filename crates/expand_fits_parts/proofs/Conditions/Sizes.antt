-- What is few in a document without a fault of size.
use Rattle.std.proofs.Common.{◌≡◌, ℕ, zero, suc, ◌+◌, ◌<◌, ◌≤◌, List, [], ◌∷◌, ◌++◌, map, Bool, true, false, cond}
use Rattle.std.proofs.Common.{nat_eq, nat_lt}
use Rattle.std.proofs.Common.{Option, Some, None, is_some, refl, sym, ap, ◌∙◌, subst, arith, All, length, length-append}
use Rattle.std.specs.Prelude.{take, drop}
use Rattle.std.proofs.lemmas.List.Elements.{All-nil, All-cons, All-head, All-tail, All-append}
use borrow.Author.Tests.{ltb-false}
use Rattle.case_tables.specs.declared.code_table.Code.{Code}
use Rattle.unity_syntax.specs.declared.name.Name.{Name}
use Rattle.unity_syntax.specs.declared.declaration.Var.{Var}
use Rattle.unity_syntax.specs.declared.program.Program.{Program}
use Rattle.unity_syntax.specs.declared.document.Part.{Part}
use Rattle.unity_syntax.specs.declared.document.Document.{Document}
use Rattle.meaning_documents.specs.Names.{Variable}
use Rattle.meaning_documents.specs.Setting.{slot_count, with_declaration, with_declarations, definitions}
use Rattle.meaning_documents.specs.Instances.{instances}
use Rattle.core_terms.specs.declared.programs.CSlot.{CSlot}
use Rattle.core_terms.specs.declared.programs.CProgram.{CProgram}
use Rattle.names_rules.specs.Reading.{Fault}
use Rattle.names_rules.proofs.Faults.{earlier_first, earlier_second}
use Rattle.expand_declarations.specs.Texts.{Texts}
use Rattle.expand_declarations.specs.WordNumbers.{document_words, word_number}
use Rattle.expand_declarations.specs.Slots.{part_declarations, declared_by, document_slots, most_slots, past_from}
use Rattle.expand_declarations.specs.Slots.{past_part}
use Rattle.expand_rules.specs.Forming.{Scope}
use Rattle.expand_rules.specs.Assigning.{stated, statements}
use Rattle.expand_rules.specs.Programs.{core_statement}
use Rattle.expand_rules.specs.Lists.{items_fault, statement_count}
use Rattle.expand_correct.specs.from_expand_statements.Counts.{too_many}
use Rattle.expand_correct.specs.from_expand_documents.AlwaysNames.{definitions_fault, with_definitions}
use Rattle.expand_correct.proofs.Declared.Agreed.{variables_agree, counts_agree}
use Rattle.expand_correct.specs.from_expand_documents.Cores.{document_scope, declared_scope, with_parts}
use Rattle.expand_correct.specs.from_expand_documents.Cores.{part_definitions}
use Rattle.expand_correct.specs.from_expand_documents.Cores.{core_named, core_union, core_program, with_core}
use Rattle.expand_correct.specs.from_expand_documents.Cores.{with_cores}
use Rattle.expand_correct.specs.from_expand_documents.Faults.{count_fault, heading_fault, headings_fault, headed}
use Rattle.expand_correct.specs.from_expand_documents.Faults.{initially_fault, size_of}
use Rattle.expand_correct.specs.from_expand_documents.Faults.{program_fault, body_fault, bodies_fault, laid_fault}
use Rattle.expand_correct.specs.from_expand_documents.Faults.{slots_fault}
use Rattle.expand_correct.specs.from_expand_documents.Faults.{parts_fault, expansion_fault}
use Rattle.expand_fits_parts.specs.Conditions.SizeConditions.{CoreSlotsAreFew, StatementsAreFew}
use Rattle.expand_fits_parts.proofs.Conditions.Counted.{instances_counted}
use Rattle.expand_fits_parts.proofs.Conditions.Programs.{IfThere, find_there}

-- slots

past_within : (place : ℕ) (vs : List Variable) (parts : List Part) (k : ℕ) → past_from place vs parts ≡ Some k →
    (place ≤ k) × (k < place + length parts)
past_within place vs [] k e = cc e
past_within place vs (p ∷ rest) k e =
    by (nat_lt most_slots (slot_count (with_declarations vs (part_declarations p)))) e
    (past_within (place + 1) (with_declarations vs (part_declarations p)) rest k)
  where
    by : (b : Bool) →
        cond b (Some place) (past_from (place + 1) (with_declarations vs (part_declarations p)) rest) ≡ Some k →
        (past_from (place + 1) (with_declarations vs (part_declarations p)) rest ≡ Some k →
        (place + 1 ≤ k) × (k < place + 1 + length rest)) →
        (place ≤ k) × (k < place + suc (length rest))
    by true f more = let same : place ≡ k = cc f in (omega arith, omega arith)
    by false f more = let m = more f in let a = m.0 in let b = m.1 in (omega arith, omega arith)

left_over : (k : ℕ) (parts : List Part) → k < length parts → slots_fault (drop k parts) ≡ None → ⊥
left_over k [] h f = omega arith
left_over zero (p ∷ rest) h f = cc f
left_over (suc k) (p ∷ rest) h f = left_over k rest (omega arith) f

-- a document without a fault is laid out whole
pub record IsLaidOut (d : Document) : Type 0 where
  pub whole : past_part d.parts ≡ None
  pub fine : laid_fault (document_words d) d.parts ≡ None

pub laid_out : (d : Document) → expansion_fault d ≡ None → IsLaidOut d
laid_out d h = by (past_part d.parts) refl h
  where
    by : (o : Option ℕ) → past_part d.parts ≡ o → parts_fault (document_words d) d.parts o ≡ None → IsLaidOut d
    by None e f = record { whole = e; fine = f }
    by (Some k) e f = absurd (left_over k d.parts (let w = past_within 0 [] d.parts k e in let l = w.1 in omega arith)
        (earlier_second (laid_fault (document_words d) (take k d.parts)) (slots_fault (drop k d.parts)) f))

declared_on : (vs : List Variable) (ds es : List Var) →
    with_declarations vs (ds ++ es) ≡ with_declarations (with_declarations vs ds) es
declared_on vs [] es = refl
declared_on vs (d ∷ ds) es = declared_on (with_declaration vs d) ds es

few_from : (place : ℕ) (vs : List Variable) (parts : List Part) → slot_count vs ≤ most_slots →
    past_from place vs parts ≡ None → slot_count (with_declarations vs (declared_by parts)) ≤ most_slots
few_from place vs [] few e = few
few_from place vs (p ∷ rest) few e =
    let more = with_declarations vs (part_declarations p) in
    subst (λ ws. slot_count ws ≤ most_slots) (sym (declared_on vs (part_declarations p) (declared_by rest)))
    (by (nat_lt most_slots (slot_count more)) refl e (few_from (place + 1) more rest))
  where
    by : (b : Bool) → nat_lt most_slots (slot_count (with_declarations vs (part_declarations p))) ≡ b →
        cond b (Some place) (past_from (place + 1) (with_declarations vs (part_declarations p)) rest) ≡ None →
        (slot_count (with_declarations vs (part_declarations p)) ≤ most_slots →
        past_from (place + 1) (with_declarations vs (part_declarations p)) rest ≡ None →
        slot_count (with_declarations (with_declarations vs (part_declarations p)) (declared_by rest)) ≤ most_slots) →
        slot_count (with_declarations (with_declarations vs (part_declarations p)) (declared_by rest)) ≤ most_slots
    by true t f more = cc f
    by false t f more =
        more (let l = ltb-false most_slots (slot_count (with_declarations vs (part_declarations p))) t in
        omega arith) f

pub slots_are_few : CoreSlotsAreFew
slots_are_few d h =
    let l = laid_out d h in
    let few = few_from 0 [] d.parts (omega arith) l.whole in
    let same = counts_agree (document_words d) d.parts in
    let vs = ap slot_count (variables_agree d.parts) in omega arith

-- headings

no_heading : (s : Scope) (parts : List Part) → headings_fault s parts ≡ None → headed s parts ≡ parts
no_heading s [] h = refl
no_heading s (p ∷ rest) h =
    let more = with_definitions s (part_definitions p) in
    let first = earlier_first (heading_fault s p) (headings_fault more rest) h in
    ap (λ o. cond (is_some o) [] (p ∷ headed more rest)) first
    ∙ ap (λ ps. p ∷ ps) (no_heading more rest (earlier_second (heading_fault s p) (headings_fault more rest) h))

abbrev pub CountFits : Part → Type 0
CountFits (Part.Program at p) = count_fault p ≡ None
CountFits (Part.Proof at proof) = Unit {0}

counts_fit : (s : Scope) (parts : List Part) → headings_fault s parts ≡ None → All CountFits parts
counts_fit s [] h = All-nil CountFits
counts_fit s (p ∷ rest) h =
    let more = with_definitions s (part_definitions p) in
    All-cons CountFits p rest (one p (earlier_first (heading_fault s p) (headings_fault more rest) h))
    (counts_fit more rest (earlier_second (heading_fault s p) (headings_fault more rest) h))
  where
    one : (q : Part) → heading_fault s q ≡ None → CountFits q
    one (Part.Program at program) k = earlier_first (count_fault program) (definitions_fault s (definitions program)) k
    one (Part.Proof at proof) k = tt

-- the bodies of a document without a fault have none, and no program has too many statements
pub record HasBodies (d : Document) : Type 0 where
  pub bodies : bodies_fault (document_words d) (document_scope d.parts) (document_slots (document_words d) d.parts) []
      d.parts ≡ None
  pub counts : All CountFits d.parts

pub has_bodies : (d : Document) → expansion_fault d ≡ None → HasBodies d
has_bodies d h =
    let words = document_words d in
    let s = declared_scope d.parts in
    let slots = document_slots words d.parts in
    let l = laid_out d h in
    let bodies = bodies_fault words (with_parts s (headed s d.parts)) slots [] (headed s d.parts) in
    let headings = earlier_second bodies (headings_fault s d.parts) l.fine in
    record {
      bodies = subst (λ (ps : List Part). bodies_fault words (with_parts s ps) slots [] ps ≡ None)
          (no_heading s d.parts headings) (earlier_first bodies (headings_fault s d.parts) l.fine);
      counts = counts_fit s d.parts headings;
    }

-- statements

abbrev pub IsFew : CProgram → Type 0
IsFew c = (1 ≤ length c.statements) × (length c.statements ≤ 4096)

not_many : (n : ℕ) (name : Name) → too_many n name ≡ None → n ≤ 4096
not_many n name h = by (nat_lt 4096 n) refl h
  where
    by : (b : Bool) → nat_lt 4096 n ≡ b →
        cond {A = Option Fault} b (Some (record { code = Code.TooLarge; at = name.at })) None ≡ None → n ≤ 4096
    by true e f = cc f
    by false e f = let l = ltb-false 4096 n e in omega arith

length_mapped : {X Y : Type 0} (f : X → Y) (xs : List X) → length (map f xs) ≡ length xs
length_mapped f [] = refl
length_mapped f (x ∷ xs) = ap suc (length_mapped f xs)

module _ (words : Texts) (s : Scope) (slots : List CSlot) where
  few_program : (before : List CProgram) (p : Program) → All IsFew before → count_fault p ≡ None →
      program_fault words s before p ≡ None → IfThere IsFew (core_program words s slots before p)
  few_program before (Program.Union at name left right) each c f =
      by (core_named (word_number words left.text) before) (core_named (word_number words right.text) before)
      (found (word_number words left.text)) f
    where
      found : (n : ℕ) → IfThere IsFew (core_named n before)
      found n = find_there IsFew (λ (c : CProgram). nat_eq c.name n) before each

      by : (f g : Option CProgram) → IfThere IsFew f → too_many (size_of f + size_of g) name ≡ None →
          IfThere IsFew (core_union (word_number words name.text) f g)
      by None g h k = tt
      by (Some f) None h k = tt
      by (Some f) (Some g) h k = let all = length-append f.statements g.statements in
          let few = not_many (length f.statements + length g.statements) name k in
          let some = h.0 in (omega arith, omega arith)
  few_program before (Program.Plain at name declare always initially start items) each c f =
      let i = instances_counted s items (earlier_second (initially_fault s initially) (items_fault s items ([] ∷ []))
      f) in
      let one = length_mapped (core_statement (word_number words)) (statements s items) in
      let two = length_mapped (stated s) (instances items) in
      let some = i.0 in let same = i.1 in
      let few = not_many (statement_count items) name c in (omega arith, omega arith)

  few_with : (before : List CProgram) (o : Option CProgram) → All IsFew before → IfThere IsFew o →
      All IsFew (with_core before o)
  few_with before None h k = h
  few_with before (Some c) h k = All-append IsFew before (c ∷ []) h (All-cons IsFew c [] k (All-nil IsFew))

  all_few : (parts : List Part) → All CountFits parts → (before : List CProgram) → All IsFew before →
      bodies_fault words s slots before parts ≡ None → All IsFew (with_cores words s slots before parts)
  all_few [] counts before each f = each
  all_few (Part.Program at p ∷ rest) counts before each f =
      let c = core_program words s slots before p in
      let first = program_fault words s before p in
      let more = bodies_fault words s slots (with_core before c) rest in
      all_few rest (All-tail CountFits (Part.Program at p) rest counts) (with_core before c)
      (few_with before c each (few_program before p each
      (All-head CountFits (Part.Program at p) rest counts) (earlier_first first more f)))
      (earlier_second first more f)
  all_few (Part.Proof at proof ∷ rest) counts before each f =
      all_few rest (All-tail CountFits (Part.Proof at proof) rest counts) before each
      (earlier_second (body_fault words s before (Part.Proof at proof)) (bodies_fault words s slots before rest) f)

pub statements_are_few : StatementsAreFew
statements_are_few d h =
    let b = has_bodies d h in
    all_few (document_words d) (document_scope d.parts) (document_slots (document_words d) d.parts) d.parts b.counts []
    (All-nil IsFew) b.bodies
