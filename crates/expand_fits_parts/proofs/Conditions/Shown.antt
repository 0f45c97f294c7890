-- The slots that programs show, also unions, and the schedule of a well-named document.
use Rattle.std.proofs.Common.{◌≡◌, ℕ, ◌<◌, List, [], ◌∷◌, map, length, Bool, true, false, cond, nat_eq, nat_lt, Option}
use Rattle.std.proofs.Common.{Some, None, refl, sym, ◌∙◌, arith, All}
use Rattle.std.specs.Prelude.{filter, option_map, ◌||◌}
use Rattle.std.specs.List.{flat_map}
use Rattle.std.specs.Map.{lookup}
use Rattle.std.specs.Str.{bytes_eq}
use Rattle.std.proofs.lemmas.List.Elements.{All-nil, All-cons, All-head, All-tail, All-append, All-map, All-weaker}
use Rattle.std.proofs.lemmas.List.Elements.{All-filter, filter_passes}
use borrow.Author.Tests.{ltb-true}
use Rattle.unity_syntax.specs.declared.program.Program.{Program}
use Rattle.unity_syntax.specs.declared.term.Inst.{Inst}
use Rattle.unity_syntax.specs.declared.document.Schedule.{Schedule}
use Rattle.unity_syntax.specs.declared.document.Document.{Document}
use Rattle.meaning_documents.specs.Setting.{programs_among, items_of}
use Rattle.core_terms.specs.declared.programs.CSlot.{CSlot}
use Rattle.core_terms.specs.declared.programs.CProgram.{CProgram}
use Rattle.core_terms.specs.Conditions.{EachPair, IsWord, ScheduleFits}
use Rattle.core_terms.specs.Unions.{with_slot, merged}
use Rattle.names_rules.specs.Reading.{all_beside}
use Rattle.names_rules.specs.Part.{run}
use Rattle.names_rules.specs.Declarations.{some_of}
use Rattle.names_rules.specs.Proofs.{program_reading}
use Rattle.names_rules.specs.WellNamed.{Declared, IsWellNamed, nothing_declared, part_of, choice_reading}
use Rattle.names_rules.specs.WellNamed.{schedule_reading}
use Rattle.names_rules.proofs.Faults.{earlier_first, earlier_second}
use Rattle.expand_declarations.specs.Texts.{Texts, part_texts, schedule_texts, document_texts}
use Rattle.expand_declarations.specs.WordNumbers.{document_words, word_number}
use Rattle.expand_declarations.specs.Slots.{document_slots}
use Rattle.expand_declarations.specs.Shown.{shown_slots}
use Rattle.expand_declarations.specs.References.{core_choice, core_schedule}
use Rattle.expand_rules.specs.Forming.{Scope}
use Rattle.expand_correct.specs.Declared.WordLaws.{is_among}
use Rattle.expand_correct.proofs.Declared.Slots.{shown_exist, shown_rise}
use Rattle.expand_correct.specs.from_expand_documents.Cores.{core_document, document_scope}
use Rattle.expand_fits_parts.specs.Conditions.ShownConditions.{ShownSlotsExist, ShownSlotsRise, SchedulesFit}
use Rattle.expand_fits_parts.proofs.Conditions.Lists.{Pairs, each_pair, pairs_of, pairs_on}
use Rattle.expand_fits_parts.proofs.Conditions.Programs.{Makes, all_cores, union_makes, is_word, itself, last_has}
use Rattle.expand_fits_parts.proofs.Conditions.Walk.{known_word, find_any, document_walk}

-- lists in order

abbrev Rises : List ℕ → Type 0
Rises xs = Pairs (λ m n. m < n) xs

filtered_rises : (test : ℕ → Bool) (xs : List ℕ) → Rises xs → Rises (filter test xs)
filtered_rises test [] h = tt
filtered_rises test (x ∷ xs) h =
    by (test x) (All-filter test (λ n. x < n) xs h.0) (filtered_rises test xs h.1)
  where
    by : (b : Bool) → All (λ n. x < n) (filter test xs) → Rises (filter test xs) →
        Rises (cond b (x ∷ filter test xs) (filter test xs))
    by true k r = (k, r)
    by false k r = r

below_slot : (n : ℕ) (xs : List ℕ) → All (λ x. x < n) (filter (λ x. nat_lt x n) xs)
below_slot n xs = All-weaker (λ x. nat_lt x n ≡ true) (λ x. x < n) (λ x h. ltb-true x n h)
    (filter (λ x. nat_lt x n) xs) (filter_passes (λ x. nat_lt x n) xs)

above_slot : (n : ℕ) (xs : List ℕ) → All (λ x. n < x) (filter (λ x. nat_lt n x) xs)
above_slot n xs = All-weaker (λ x. nat_lt n x ≡ true) (λ x. n < x) (λ x h. ltb-true n x h)
    (filter (λ x. nat_lt n x) xs) (filter_passes (λ x. nat_lt n x) xs)

with_slot_rises : (xs : List ℕ) (n : ℕ) → Rises xs → Rises (with_slot xs n)
with_slot_rises xs n h =
    let below = filter (λ x. nat_lt x n) xs in let above = filter (λ x. nat_lt n x) xs in
    pairs_on (λ k m. k < m) below (n ∷ above) (filtered_rises (λ x. nat_lt x n) xs h)
    (above_slot n xs, filtered_rises (λ x. nat_lt n x) xs h)
    (All-weaker (λ x. x < n) (λ x. All (λ m. x < m) (n ∷ above))
    (λ x k. All-cons (λ m. x < m) n above k
    (All-weaker (λ m. n < m) (λ m. x < m) (λ m l. omega arith) above (above_slot n xs))) below (below_slot n xs))

with_slot_all : (P : ℕ → Type 0) (xs : List ℕ) (n : ℕ) → All P xs → P n → All P (with_slot xs n)
with_slot_all P xs n h k = All-append P (filter (λ x. nat_lt x n) xs) (n ∷ filter (λ x. nat_lt n x) xs)
    (All-filter (λ x. nat_lt x n) P xs h)
    (All-cons P n (filter (λ x. nat_lt n x) xs) k (All-filter (λ x. nat_lt n x) P xs h))

merged_rises : (xs ys : List ℕ) → Rises xs → Rises (merged xs ys)
merged_rises xs [] h = h
merged_rises xs (y ∷ ys) h = merged_rises (with_slot xs y) ys (with_slot_rises xs y h)

merged_all : (P : ℕ → Type 0) (xs ys : List ℕ) → All P xs → All P ys → All P (merged xs ys)
merged_all P xs [] h k = h
merged_all P xs (y ∷ ys) h k = merged_all P (with_slot xs y) ys (with_slot_all P xs y h (All-head P y ys k))
    (All-tail P y ys k)

-- slots that are shown

abbrev Shows : List CSlot → CProgram → Type 0
Shows slots c = All (λ n. n < length slots) c.shown × Rises c.shown

makes_shown : (words : Texts) (s : Scope) (slots : List CSlot) (p : Program) → Makes (Shows slots) words s slots p
makes_shown words s slots (Program.Union at name left right) before h =
    union_makes (Shows slots) words s slots (word_number words name.text)
    (λ f g k l. (merged_all (λ n. n < length slots) f.shown g.shown k.0 l.0, merged_rises f.shown g.shown k.1))
    (word_number words left.text) (word_number words right.text) before h
makes_shown words s slots (Program.Plain at name declare always initially start items) before h = (
  shown_exist words (items_of declare) slots,
  pairs_of (λ m n. m < n) (shown_slots words (items_of declare) slots) (shown_rise words (items_of declare) slots),
)

all_make : (P : CProgram → Type 0) (words : Texts) (s : Scope) (slots : List CSlot) →
    ((p : Program) → Makes P words s slots p) → (ps : List Program) → All (Makes P words s slots) ps
all_make P words s slots f [] = All-nil (Makes P words s slots)
all_make P words s slots f (p ∷ ps) = All-cons (Makes P words s slots) p ps (f p) (all_make P words s slots f ps)

all_show : (d : Document) → All (Shows (core_document d).slots) (core_document d).programs
all_show d =
    let words = document_words d in let s = document_scope d.parts in let slots = document_slots words d.parts in
    all_cores (Shows slots) words s slots d.parts
    (all_make (Shows slots) words s slots (makes_shown words s slots) (programs_among d.parts)) []
    (All-nil (Shows slots))

pub shown_slots_exist : ShownSlotsExist
shown_slots_exist d = All-weaker (Shows (core_document d).slots)
    (λ c. All (λ n. n < length (core_document d).slots) c.shown) (λ c h. h.0) (core_document d).programs (all_show d)

pub shown_slots_rise : ShownSlotsRise
shown_slots_rise d = All-weaker (Shows (core_document d).slots) (λ c. EachPair (λ m n. m < n) c.shown)
    (λ c h. each_pair (λ m n. m < n) c.shown h.1) (core_document d).programs (all_show d)

-- schedules

second_true : (a b : Bool) → b ≡ true → (a || b) ≡ true
second_true true b h = refl
second_true false b h = h

each_label : (cs : List Inst) → All (λ c. is_among (map (λ (e : Inst). e.label.text) cs) c.label.text ≡ true) cs
each_label [] = All-nil (λ c. is_among [] c.label.text ≡ true)
each_label (c ∷ cs) =
    let ts = map (λ (e : Inst). e.label.text) cs in
    All-cons (λ e. is_among (c.label.text ∷ ts) e.label.text ≡ true) c cs (itself c.label.text ts)
    (All-weaker (λ e. is_among ts e.label.text ≡ true) (λ e. is_among (c.label.text ∷ ts) e.label.text ≡ true)
    (λ e h. second_true (bytes_eq e.label.text c.label.text) (is_among ts e.label.text) h) cs (each_label cs))

schedule_fault : (d : Document) → IsWellNamed d →
    (schedule_reading (run part_of nothing_declared d.parts).after d.schedule).fault ≡ None
schedule_fault d h = let r = run part_of nothing_declared d.parts in
    earlier_second r.fault (schedule_reading r.after d.schedule).fault h

pub schedules_fit : SchedulesFit
schedules_fit d h = by d.schedule (schedule_fault d h)
    (λ t k. last_has t (flat_map part_texts d.parts) (schedule_texts d.schedule) k)
  where
    final : Declared
    final = (run part_of nothing_declared d.parts).after

    by : (o : Option Schedule) → (schedule_reading final o).fault ≡ None →
        ((t : List ℕ) → is_among (schedule_texts o) t ≡ true → is_among (document_texts d) t ≡ true) →
        ScheduleFits (document_words d) (core_document d).programs (option_map (core_schedule (document_words d)) o)
    by None f has = tt
    by (Some schedule) f has =
        let texts = document_texts d in
        let s = document_scope d.parts in
        let slots = document_slots (document_words d) d.parts in
        let w = (document_walk d h).walked in
        let text = schedule.program.text in
        let k = known_word texts s slots schedule.program (lookup (bytes_eq text) final.programs)
        (earlier_first (program_reading final.programs schedule.program).fault
        (all_beside (map (choice_reading final) (some_of schedule.choices))).fault f) in
        let labels = map (λ (c : Inst). c.label.text) (some_of schedule.choices) in (
          sym (find_any (λ c. nat_eq c.name (word_number (document_words d) text)) (core_document d).programs)
              ∙ w.same text (w.there text k) ∙ k,
          All-map (λ c. IsWord (document_words d) c.label) (core_choice (document_words d)) (some_of schedule.choices)
              (All-weaker (λ c. is_among labels c.label.text ≡ true)
              (λ c. IsWord (document_words d) (word_number (document_words d) c.label.text))
              (λ c among. is_word texts c.label.text (has c.label.text
              (second_true (bytes_eq c.label.text text) (is_among labels c.label.text) among)))
              (some_of schedule.choices) (each_label (some_of schedule.choices))),
        )
