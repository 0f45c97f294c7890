-- The start values of the programs of a well-named document lie in the ranges of their slots.
use Rattle.std.proofs.Common.{◌≡◌, ℕ, ◌+◌, ◌≤◌, ℤ, pos, List, [], ◌∷◌, ◌++◌, length, map, true, cond, not, ◌&&◌}
use Rattle.std.proofs.Common.{Option, Some, None, option_map, refl, sym, ap, ◌∙◌, subst, arith, nat_eq, All, slice_get}
use Rattle.std.proofs.Common.{Bool, false}
use Rattle.std.specs.Prelude.{filter, unwrap_or}
use Rattle.std.proofs.lemmas.Int.{ints}
use Rattle.std.proofs.lemmas.Bool.{eqb-true, eq-eqb}
use Rattle.std.proofs.lemmas.Option.{slice_get-map}
use Rattle.std.proofs.lemmas.List.Elements.{All-nil, All-cons, All-head, All-tail, All-append, All-map, All-weaker}
use Rattle.std.proofs.lemmas.List.Elements.{All-filter}
use lib.Signed.{◌≤ℤ◌}
use Rattle.std.specs.Int.RustNames.{int_le}
use Rattle.std.specs.List.{flat_map}
use Rattle.std.specs.Map.{lookup}
use Rattle.std.specs.Str.{bytes_eq}
use Rattle.case_tables.specs.declared.code_table.Code.{Code}
use Rattle.unity_syntax.specs.declared.name.Name.{Name}
use Rattle.unity_syntax.specs.declared.declaration.Plain.{Plain}
use Rattle.unity_syntax.specs.declared.declaration.Var.{Var}
use Rattle.unity_syntax.specs.declared.declaration.Init.{Init}
use Rattle.unity_syntax.specs.declared.declaration.InitValue.{InitValue}
use Rattle.unity_syntax.specs.declared.program.Program.{Program}
use Rattle.meaning_documents.specs.Names.{Bindings, Variable, slot_named, number_of, or_zero}
use Rattle.meaning_documents.specs.Setting.{programs_among, slot_ranges, element_type}
use Rattle.names_rules.specs.declared.named.Sort.{Sort}
use Rattle.names_rules.specs.declared.named.Span.{Span}
use Rattle.names_rules.specs.declared.named.Named.{Named}
use Rattle.names_rules.specs.Scope.{Table, is_value, found}
use Rattle.names_rules.specs.Reading.{unless, same_sort, signed}
use Rattle.names_rules.specs.Part.{run}
use Rattle.names_rules.specs.Declarations.{some_of, program_scope, in_span, start_word, start_value}
use Rattle.names_rules.specs.WellNamed.{nothing_declared, part_of}
use Rattle.meaning_documents.specs.Setting.{variables_of}
use Rattle.meaning_documents.specs.Names.{variable_named}
use Rattle.names_laws.specs.VariableLaws.{Mirrors}
use Rattle.names_laws.specs.StayingLaws.{StaysIn}
use Rattle.names_laws.proofs.AttributeTheorems.{and_first, and_second}
use Rattle.names_rules.proofs.Faults.{earlier_first, earlier_second, unless_none}
use Rattle.names_laws.proofs.Slots.{slots_as_declared}
use Rattle.names_laws.proofs.Mirrored.{mirrored_by_documents}
use Rattle.core_terms.specs.declared.programs.CSlot.{CSlot}
use Rattle.core_terms.specs.Conditions.{StartFits}
use Rattle.core_terms.specs.Unions.{gives}
use Rattle.expand_declarations.specs.Texts.{Texts}
use Rattle.expand_declarations.specs.WordNumbers.{document_words, word_number}
use Rattle.expand_rules.specs.Forming.{Scope}
use Rattle.expand_declarations.specs.Slots.{declared_by, document_slots}
use Rattle.expand_declarations.specs.Start.{index_of, start_number, start_entry, start_values}
use Rattle.expand_declarations.specs.Start.{enumeration_words, first_words}
use Rattle.expand_declarations.proofs.StartLaws.{number-found}
use Rattle.expand_fits_parts.specs.from_expand_correct.Declared.Agreement.{slot_ends}
use Rattle.expand_fits_parts.proofs.lemmas_from_expand_correct.Declared.Agreed.{variables_agree, ranges_agree}
use Rattle.expand_declarations.proofs.NearIndices.{parts_fault}
use Rattle.expand_fits_parts.specs.from_expand_documents.Cores.{declared_scope, part_definitions, document_scope}
use Rattle.expand_fits.specs.StartConditions.{plain_enumeration, enumerations, StartsFit}
use Rattle.expand_fits_parts.proofs.Conditions.Lists.{Pairs, pairs_of}
use Rattle.expand_fits_parts.proofs.Conditions.Programs.{Makes, all_cores, union_makes}
use Rattle.expand_fits.proofs.Initial.StartTables.{RangeOf, EnumerationOf, KnownVar, Tells, told_documents}
use Rattle.expand_fits.proofs.Initial.StartSlots.{Follow, follow_all, at_most}
use Rattle.expand_fits_parts.proofs.lemmas_from_expand_correct.Preserved.Sights.{first_found}
use Rattle.expand_fits.proofs.Initial.Starts.{InitFine, HasSection, visible_there, some_same, located, slot_found}
use Rattle.expand_fits.proofs.Initial.Starts.{start_at, same_variables, same_words, sections_are}

abbrev Within : ℤ × ℤ → ℤ → Type 0
Within r z = (r.0 ≤ℤ z) × (z ≤ℤ r.1)

module _ (last_of : ℕ → Option ℕ) where
  in_numbers : (sort : Sort) (span : Span) (r : ℤ × ℤ) (z : ℤ) → same_sort sort Sort.Number ≡ true →
      in_span span z ≡ true → RangeOf last_of sort span r → Within r z
  in_numbers Sort.Number span r z h k e =
      let low = at_most span.low z (and_first (int_le span.low z) (int_le z span.high) k) in
      let high = at_most z span.high (and_second (int_le span.low z) (int_le z span.high) k) in
      subst (λ x. Within x z) e (low, high)
  in_numbers Sort.Boolean span r z h k e = cc h
  in_numbers (Sort.Words at last) span r z h k e = cc h

  in_truths : (sort : Sort) (span : Span) (r : ℤ × ℤ) (z : ℤ) → same_sort sort Sort.Boolean ≡ true →
      pos 0 ≤ℤ z → z ≤ℤ pos 1 → RangeOf last_of sort span r → Within r z
  in_truths Sort.Number span r z h low high e = cc h
  in_truths Sort.Boolean span r z h low high e = subst (λ x. Within x z) (sym e) (low, high)
  in_truths (Sort.Words at last) span r z h low high e = cc h

  in_words : (sort : Sort) (span : Span) (r : ℤ × ℤ) (place last number : ℕ) →
      same_sort (Sort.Words place last) sort ≡ true → number ≤ last → last_of place ≡ Some last →
      RangeOf last_of sort span r → Within r (pos number)
  in_words Sort.Number span r place last number h small known e = cc h
  in_words Sort.Boolean span r place last number h small known e = cc h
  in_words (Sort.Words at other) span r place last number h small known e =
      let same : last ≡ other = some_same last other (sym known ∙ ap last_of (eqb-true place at h) ∙ e.1) in
      let low : pos 0 ≤ℤ pos number = omega (arith, ints) in
      let high : pos number ≤ℤ pos other = omega (arith, ints, same, small) in
      subst (λ x. Within x (pos number)) (sym e.0) (low, high)

  module _ (final : Table) (vs : List Variable) (ws values : Bindings) (tells : Tells last_of final vs ws)
      (same : (word : List ℕ) → lookup (bytes_eq word) values ≡ lookup (bytes_eq word) ws)
      (p : ℕ) (names : Table) (stays : StaysIn names final) where
    word_within : (n : Named) (r : ℤ × ℤ) → RangeOf last_of n.sort n.range r → (name : Name) (o : Option Named) →
        found (program_scope p names) name.text ≡ o → (start_word n.sort name o).fault ≡ None →
        Within r (or_zero (number_of name.text values))
    word_within n r range name None e h = cc h
    word_within n r range name (Some m) e h =
        let a = unless (is_value m.meaning) Code.Unknown name.at in
        let b = unless (same_sort m.sort n.sort) Code.WrongType name.at in
        let k = stays name.text m (visible_there p (lookup (bytes_eq name.text) names) m e) in
        let v = tells.valued name.text (record m { program = k.0 }) k.1
        (unless_none (is_value m.meaning) Code.Unknown name.at (earlier_first a b h)) in
        let sort = unless_none (same_sort m.sort n.sort) Code.WrongType name.at (earlier_second a b h) in
        let number : or_zero (number_of name.text values) ≡ pos v.number = sym (number-found values name.text)
        ∙ ap (λ o. unwrap_or o (pos 0)) (same name.text ∙ v.found) in
        subst (λ z. Within r z) (sym number)
        (in_words n.sort n.range r v.place v.last v.number (subst (λ s. same_sort s n.sort ≡ true) v.sort sort) v.small
        v.known range)

    value_within : (n : Named) (r : ℤ × ℤ) → RangeOf last_of n.sort n.range r → (value : InitValue) →
        (start_value (program_scope p names) n value).fault ≡ None → Within r (start_number values value)
    value_within n r range (InitValue.Number at minus number) h =
        let z = signed minus number in
        let k = unless_none (same_sort n.sort Sort.Number && in_span n.range z) Code.WrongType at h in
        in_numbers n.sort n.range r z (and_first (same_sort n.sort Sort.Number) (in_span n.range z) k)
        (and_second (same_sort n.sort Sort.Number) (in_span n.range z) k) range
    value_within n r range (InitValue.Word at name) h =
        word_within n r range name (found (program_scope p names) name.text) refl h
    value_within n r range (InitValue.True at) h = in_truths n.sort n.range r (pos 1)
        (unless_none (same_sort n.sort Sort.Boolean) Code.WrongType at h)
        (let e : pos 0 ≤ℤ pos 1 = omega (arith, ints) in e)
        (let e : pos 1 ≤ℤ pos 1 = omega (arith, ints) in e) range
    value_within n r range (InitValue.False at) h = in_truths n.sort n.range r (pos 0)
        (unless_none (same_sort n.sort Sort.Boolean) Code.WrongType at h)
        (let e : pos 0 ≤ℤ pos 0 = omega (arith, ints) in e)
        (let e : pos 0 ≤ℤ pos 1 = omega (arith, ints) in e) range

    mapped : (o : Option CSlot) (r : ℤ × ℤ) → option_map slot_ends o ≡ Some r →
        (s : CSlot) × (o ≡ Some s) × (slot_ends s ≡ r)
    mapped None r e = cc e
    mapped (Some s) r e = (s, refl, some_same (slot_ends s) r e)

    module _ (slots : List CSlot) (mirrors : Mirrors final vs) (follow : Follow 0 vs)
        (agree : map slot_ends slots ≡ slot_ranges vs)
        (ranged : (name : List ℕ) (index : Option ℤ) (v : Variable) (slot : ℕ) → variable_named name vs ≡ Some v →
        slot_named name index vs ≡ Some slot → slice_get (slot_ranges vs) slot ≡ Some v.range) where
      start_fits : (init : Init) → InitFine (program_scope p names) init →
          StartFits slots (start_entry vs values init)
      start_fits init f =
          let n = f.named in
          let l = located final vs mirrors follow p names stays init f in
          let v = l.variable in
          let slot = v.first + l.placed.distance in
          let range = tells.ranged init.name.text (record n { program = l.program }) v l.there l.named in
          let within = value_within n v.range range init.value f.value in
          let ends = mapped (slice_get slots slot) v.range (sym (slice_get-map slot_ends slots slot)
          ∙ ap (λ rs. slice_get rs slot) agree ∙ ranged init.name.text (index_of init.index) v slot l.named
          (slot_found final vs mirrors follow p names stays init n l)) in (
            ends.0,
            ap (slice_get slots) (start_at final vs mirrors follow p names stays init n l) ∙ ends.1,
            subst (λ x. x.0 ≤ℤ start_number values init.value) (sym ends.2) within.0,
            subst (λ x. start_number values init.value ≤ℤ x.1) (sym ends.2) within.1,
          )

      values_fit : (inits : List Init) → All (InitFine (program_scope p names)) inits →
          All (StartFits slots) (start_values vs values inits)
      values_fit inits fine = All-map (StartFits slots) (start_entry vs values) inits
          (All-weaker (InitFine (program_scope p names)) (λ i. StartFits slots (start_entry vs values i))
          (λ i f. start_fits i f) inits fine)

-- enumerations that stand apart

abbrev Apart : ℕ × ℕ → ℕ × ℕ → Type 0
Apart e f = e.0 ≡ f.0 → ⊥

put : (b : Bool) (n : ℕ) (o : Option ℕ) → b ≡ true → cond b (Some n) o ≡ Some n
put true n o h = refl
put false n o h = cc h

skip : (b : Bool) (n m : ℕ) (o : Option ℕ) → (b ≡ true → ⊥) → o ≡ Some m → cond b (Some n) o ≡ Some m
skip true n m o h e = absurd (h refl)
skip false n m o h e = e

all_found : (es : List (ℕ × ℕ)) → Pairs Apart es → All (λ e. lookup (nat_eq e.0) es ≡ Some e.1) es
all_found [] h = All-nil (λ (e : ℕ × ℕ). lookup (nat_eq e.0) [] ≡ Some e.1)
all_found (e ∷ es) h = All-cons (λ f. lookup (nat_eq f.0) (e ∷ es) ≡ Some f.1) e es
    (put (nat_eq e.0 e.0) e.1 (lookup (nat_eq e.0) es) (eq-eqb e.0 e.0 refl)) (rest es h.0 (all_found es h.1))
  where
    rest : (fs : List (ℕ × ℕ)) → All (Apart e) fs → All (λ f. lookup (nat_eq f.0) es ≡ Some f.1) fs →
        All (λ f. lookup (nat_eq f.0) (e ∷ es) ≡ Some f.1) fs
    rest [] a k = All-nil (λ f. lookup (nat_eq f.0) (e ∷ es) ≡ Some f.1)
    rest (f ∷ fs) a k = All-cons (λ f. lookup (nat_eq f.0) (e ∷ es) ≡ Some f.1) f fs
        (skip (nat_eq f.0 e.0) e.1 f.1 (lookup (nat_eq f.0) es)
        (λ t. All-head (Apart e) f fs a (sym (eqb-true f.0 e.0 t)))
        (All-head (λ f. lookup (nat_eq f.0) es ≡ Some f.1) f fs k))
        (rest fs (All-tail (Apart e) f fs a) (All-tail (λ f. lookup (nat_eq f.0) es ≡ Some f.1) f fs k))

split : (P : ℕ × ℕ → Type 0) (xs ys : List (ℕ × ℕ)) → All P (xs ++ ys) → All P xs × All P ys
split P [] ys h = (All-nil P, h)
split P (x ∷ xs) ys h =
    let more = split P xs ys (All-tail P x (xs ++ ys) h) in
    (All-cons P x xs (All-head P x (xs ++ ys) h) more.0, more.1)

module _ (last_of : ℕ → Option ℕ) where
  abbrev IsLast : ℕ × ℕ → Type 0
  IsLast e = last_of e.0 ≡ Some e.1

  known_plain : (of : Plain) → All IsLast (plain_enumeration of) → EnumerationOf last_of of
  known_plain (Plain.Boolean at) h = tt
  known_plain (Plain.Range at range) h = tt
  known_plain (Plain.Words at first rest) h = All-head IsLast (first.at, length rest) [] h

  known_all : (ds : List Var) → All IsLast (enumerations ds) → All (KnownVar last_of) ds
  known_all [] h = All-nil (KnownVar last_of)
  known_all (d ∷ ds) h =
      let s = split IsLast (plain_enumeration (element_type d.kind)) (enumerations ds) h in
      All-cons (KnownVar last_of) d ds (known_plain (element_type d.kind) s.0) (known_all ds s.1)

-- documents

makes_fit : (last_of : ℕ → Option ℕ) (words : Texts) (s : Scope) (slots : List CSlot) (final : Table)
    (vs : List Variable) (ws values : Bindings) → s.variables ≡ vs → s.words ≡ values → Mirrors final vs →
    Follow 0 vs → Tells last_of final vs ws →
    ((word : List ℕ) → lookup (bytes_eq word) values ≡ lookup (bytes_eq word) ws) →
    map slot_ends slots ≡ slot_ranges vs →
    ((name : List ℕ) (index : Option ℤ) (v : Variable) (slot : ℕ) → variable_named name vs ≡ Some v →
    slot_named name index vs ≡ Some slot → slice_get (slot_ranges vs) slot ≡ Some v.range) → (program : Program) →
    HasSection final program → Makes (λ c. All (StartFits slots) c.start) words s slots program
makes_fit last_of words s slots final vs ws values e1 e2 mirrors follow tells same agree ranged
    (Program.Union at name left right) h before k =
    union_makes (λ c. All (StartFits slots) c.start) words s slots (word_number words name.text)
    (λ f g a b. All-append (StartFits slots) f.start (filter (λ e. not (gives f.start e.0)) g.start) a
    (All-filter (λ e. not (gives f.start e.0)) (StartFits slots) g.start b))
    (word_number words left.text) (word_number words right.text) before k
makes_fit last_of words s slots final vs ws values e1 e2 mirrors follow tells same agree ranged
    (Program.Plain at name declare always initially start items) h before k =
    subst (λ (x : List Variable). All (StartFits slots) (start_values x s.words (some_of start))) (sym e1)
    (subst (λ (x : Bindings). All (StartFits slots) (start_values vs x (some_of start))) (sym e2)
    (values_fit last_of final vs ws values tells same h.program h.names h.stays slots mirrors follow agree ranged
    (some_of start) h.fine))

pub starts_fit : StartsFit
starts_fit d named apart =
    let words = document_words d in let s = document_scope d.parts in let slots = document_slots words d.parts in
    let programs = programs_among d.parts in
    let es = enumerations (declared_by d.parts) in
    let last_of : ℕ → Option ℕ = λ at. lookup (nat_eq at) es in
    let known = known_all last_of (declared_by d.parts)
    (all_found es (pairs_of Apart es apart.apart)) in
    let final = (run part_of nothing_declared d.parts).after.names in
    let ws = enumeration_words d.parts in
    let told = told_documents last_of d.parts known (parts_fault d named) in
    let tells = subst (λ (x : List Variable). Tells last_of final x ws) (variables_agree d.parts) told.tells in
    let fits = makes_fit last_of words s slots final (variables_of programs) ws (first_words ws)
    (same_variables (declared_scope d.parts) (flat_map part_definitions d.parts))
    (same_words (declared_scope d.parts) (flat_map part_definitions d.parts))
    (mirrored_by_documents d.parts (parts_fault d named))
    (subst (λ (x : List Variable). Follow 0 x) (variables_agree d.parts) (follow_all [] (declared_by d.parts) tt))
    tells (first_found ws) (ranges_agree words d.parts) (slots_as_declared programs) in
    all_cores (λ c. All (StartFits slots) c.start) words s slots d.parts
    (All-weaker (HasSection final) (Makes (λ c. All (StartFits slots) c.start) words s slots) fits programs
    (sections_are d named)) [] (All-nil (λ c. All (StartFits slots) c.start))
