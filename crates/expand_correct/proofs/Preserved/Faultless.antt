-- A document without a fault, part by part.
use Rattle.std.proofs.Common.{◌≡◌, ℕ, suc, ◌+◌, List, [], ◌∷◌, Bool, true, false, cond, Option, Some, None, refl, sym}
use Rattle.std.proofs.Common.{ap, ◌∙◌, arith, drop, take, is_some}
use Rattle.std.specs.Prelude.{nat_lt}
use Rattle.unity_syntax.specs.declared.document.Part.{Part}
use Rattle.meaning_documents.specs.Names.{Variable}
use Rattle.meaning_documents.specs.Setting.{slot_count, with_declarations}
use Rattle.names_rules.proofs.Faults.{earlier_first, earlier_second}
use Rattle.expand_declarations.specs.Texts.{Texts}
use Rattle.expand_declarations.specs.WordNumbers.{document_words}
use Rattle.expand_declarations.specs.Slots.{document_slots, part_declarations, most_slots, past_from, past_part}
use Rattle.expand_rules.specs.Forming.{Scope}
use Rattle.expand_documents.specs.AlwaysNames.{with_definitions}
use Rattle.expand_documents.specs.Cores.{declared_scope, part_definitions, with_parts, document_scope}
use Rattle.expand_documents.specs.Faults.{heading_fault, headings_fault, headed, bodies_fault, laid_fault, slots_fault}
use Rattle.expand_documents.specs.Faults.{parts_fault}
use Rattle.expand_correct.specs.Preserved.Faultless.{SlotsAreFew, HeadingsFaultless, BodiesFaultless}

-- where no heading has a fault, all parts are headed
headed_all : (s : Scope) (parts : List Part) → headings_fault s parts ≡ None → headed s parts ≡ parts
headed_all s [] h = refl
headed_all s (p ∷ rest) h =
    let t = with_definitions s (part_definitions p) in
    ap (λ o. cond (is_some o) [] (p ∷ headed t rest)) (earlier_first (heading_fault s p) (headings_fault t rest) h)
    ∙ ap (λ ps. p ∷ ps) (headed_all t rest (earlier_second (heading_fault s p) (headings_fault t rest) h))

laid_headings : (words : Texts) (parts : List Part) → laid_fault words parts ≡ None →
    headings_fault (declared_scope parts) parts ≡ None
laid_headings words parts h = let s = declared_scope parts in
    earlier_second (bodies_fault words (with_parts s (headed s parts)) (document_slots words parts) [] (headed s parts))
    (headings_fault s parts) h

laid_bodies : (words : Texts) (parts : List Part) → laid_fault words parts ≡ None →
    bodies_fault words (document_scope parts) (document_slots words parts) [] parts ≡ None
laid_bodies words parts h = let s = declared_scope parts in
    ap (λ ps. bodies_fault words (with_parts s ps) (document_slots words parts) [] ps)
    (sym (headed_all s parts (laid_headings words parts h)))
    ∙ earlier_first
    (bodies_fault words (with_parts s (headed s parts)) (document_slots words parts) [] (headed s parts))
    (headings_fault s parts) h

-- there is a part at the place by which there are too many slots
past_inside : (start : ℕ) (vs : List Variable) (parts : List Part) (place : ℕ) →
    past_from start vs parts ≡ Some place →
    (j : ℕ) × (place ≡ start + j) × (slots_fault (drop j parts) ≡ None → ⊥)
past_inside start vs [] place e = cc e
past_inside start vs (p ∷ rest) place e = let more = with_declarations vs (part_declarations p) in
    by (nat_lt most_slots (slot_count more)) e (past_inside (start + 1) more rest place)
  where
    by : (b : Bool) →
        cond b (Some start) (past_from (start + 1) (with_declarations vs (part_declarations p)) rest) ≡ Some place →
        (past_from (start + 1) (with_declarations vs (part_declarations p)) rest ≡ Some place →
        (j : ℕ) × (place ≡ start + 1 + j) × (slots_fault (drop j rest) ≡ None → ⊥)) →
        (j : ℕ) × (place ≡ start + j) × (slots_fault (drop j (p ∷ rest)) ≡ None → ⊥)
    by true f more = let same : start ≡ place = cc in (0, omega arith, λ h. cc h)
    by false f more = let r = more f in let there = r.1 in (suc r.0, omega arith, r.2)

few_slots : (words : Texts) (parts : List Part) (past : Option ℕ) → past_part parts ≡ past →
    parts_fault words parts past ≡ None → past ≡ None
few_slots words parts None e h = refl
few_slots words parts (Some place) e h =
    let r = past_inside 0 [] parts place e in
    let there = r.1 in
    let same : place ≡ r.0 = omega arith in
    absurd (r.2 (ap (λ n. slots_fault (drop n parts)) (sym same)
    ∙ earlier_second (laid_fault words (take place parts)) (slots_fault (drop place parts)) h))

pub slots_are_few : SlotsAreFew
slots_are_few d h = few_slots (document_words d) d.parts (past_part d.parts) refl h

is_laid : (words : Texts) (parts : List Part) (past : Option ℕ) → past ≡ None →
    parts_fault words parts past ≡ None → laid_fault words parts ≡ None
is_laid words parts None e h = h
is_laid words parts (Some place) e h = cc e

pub headings_faultless : HeadingsFaultless
headings_faultless d h = laid_headings (document_words d) d.parts
    (is_laid (document_words d) d.parts (past_part d.parts) (slots_are_few d h) h)

pub bodies_faultless : BodiesFaultless
bodies_faultless d h = laid_bodies (document_words d) d.parts
    (is_laid (document_words d) d.parts (past_part d.parts) (slots_are_few d h) h)
