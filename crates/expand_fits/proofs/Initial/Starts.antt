-- The start values of the programs of a well-named document.
use Rattle.std.proofs.Common.{◌≡◌, ℕ, ◌+◌, ℤ, pos, ◌+ℤ◌, List, [], ◌∷◌, ◌++◌, Bool, true, false, cond, not}
use Rattle.std.proofs.Common.{◌&&◌, ◌||◌, Option, Some, None, refl, sym, ap, ◌∙◌, subst, arith, nat_eq, All}
use Rattle.std.specs.Prelude.{filter, unwrap_or}
use Rattle.std.proofs.lemmas.Bool.{eq-eqb}
use Rattle.std.proofs.lemmas.Bool.Decides.{Decides-int_eq}
use Rattle.std.proofs.lemmas.List.Folds.{list_any-append}
use Rattle.std.proofs.lemmas.List.Elements.{All-nil, All-cons, All-head, All-tail, All-weaker}
use Rattle.std.proofs.lemmas.List.Elements.{All-filter, filter_passes}
use Rattle.std.specs.Ordering.{int_eq}
use Rattle.std.specs.List.{flat_map, list_any}
use Rattle.std.specs.Map.{lookup}
use Rattle.std.specs.Str.{bytes_eq}
use Rattle.case_tables.specs.declared.code_table.Code.{Code}
use Rattle.unity_syntax.specs.declared.declaration.Def.{Def}
use Rattle.unity_syntax.specs.declared.declaration.Init.{Init}
use Rattle.unity_syntax.specs.declared.program.Program.{Program}
use Rattle.unity_syntax.specs.declared.document.Part.{Part as DocumentPart}
use Rattle.unity_syntax.specs.declared.document.Document.{Document}
use Rattle.meaning_documents.specs.Names.{Bindings, Variable, slot_named}
use Rattle.meaning_documents.specs.Setting.{programs_among, declarations}
use Rattle.names_rules.specs.declared.named.Named.{Named}
use Rattle.names_rules.specs.Scope.{Scope as NameScope, Table, is_variable, found, is_visible, visible}
use Rattle.names_rules.specs.Reading.{earlier, unless}
use Rattle.names_rules.specs.Part.{run}
use Rattle.names_rules.specs.Declarations.{items_of, some_of, program_scope, variable_part, always_part}
use Rattle.names_rules.specs.Declarations.{initially_reading, StartSlot, StartSlots, same_slot, is_index}
use Rattle.names_rules.specs.Declarations.{index_number, variable_place, slot_of, start_value, init_found}
use Rattle.names_rules.specs.Declarations.{init_part}
use Rattle.names_rules.specs.Statements.{items_part}
use Rattle.names_rules.specs.WellNamed.{Declared, IsWellNamed, nothing_declared, new_program, start_reading}
use Rattle.names_rules.specs.WellNamed.{program_body, part_of}
use Rattle.meaning_documents.specs.Setting.{variables_of}
use Rattle.meaning_documents.specs.Names.{variable_named}
use Rattle.names_laws.specs.VariableLaws.{Mirrors}
use Rattle.names_laws.specs.StayingLaws.{StaysIn}
use Rattle.names_rules.proofs.Faults.{earlier_first, earlier_second, unless_none}
use Rattle.names_laws.proofs.Slots.{slot_of_named}
use Rattle.names_laws.proofs.Mirrored.{mirrored_by_documents}
use Rattle.names_laws.proofs.Staying.{stays_in_documents}
use Rattle.core_terms.specs.declared.programs.CSlot.{CSlot}
use Rattle.core_terms.specs.Conditions.{EachPair}
use Rattle.core_terms.specs.Unions.{gives, joined_start}
use Rattle.expand_declarations.specs.Texts.{Texts}
use Rattle.expand_declarations.specs.WordNumbers.{document_words, word_number}
use Rattle.expand_rules.specs.Forming.{Scope}
use Rattle.expand_declarations.specs.Slots.{document_slots}
use Rattle.expand_declarations.specs.Start.{index_of, start_slot, start_entry, start_values}
use Rattle.expand_fits_parts.specs.from_expand_documents.AlwaysNames.{with_definition, with_definitions}
use Rattle.expand_declarations.proofs.NearIndices.{parts_fault}
use Rattle.expand_fits_parts.specs.from_expand_documents.Cores.{core_document, declared_scope, part_definitions}
use Rattle.expand_fits_parts.specs.from_expand_documents.Cores.{document_scope}
use Rattle.expand_fits.specs.StartConditions.{StartsOnce}
use Rattle.expand_fits_parts.proofs.Conditions.Lists.{Pairs, each_pair, pairs_on, pairs_with, pairs_map}
use Rattle.expand_fits_parts.proofs.Conditions.Programs.{Makes, all_cores, union_makes}
use Rattle.expand_fits.proofs.Initial.StartSlots.{Follow, follow_all, one_named, PlacedAt, low_of, placed_at}

-- what a start section without a fault says

abbrev pub slot_from : Init → Option Named → StartSlot
slot_from init None = (0, pos 0)
slot_from init (Some n) = slot_of init n

abbrev pub place_of : NameScope → Init → StartSlot
place_of s init = slot_from init (found s init.name.text)

-- a start value of a variable, with an index where it is an array, and of its type
pub record InitFine (s : NameScope) (init : Init) : Type 0 where
  pub named : Named
  pub there : found s init.name.text ≡ Some named
  pub var : is_variable named.meaning ≡ true
  pub index : is_index named.indices init.index ≡ true
  pub value : (start_value s named init.value).fault ≡ None

-- and no slot before it
record OneFine (s : NameScope) (slots : StartSlots) (init : Init) (o : Option Named) : Type 0 where
  fine : InitFine s init
  fresh : list_any (same_slot (slot_from init o)) slots ≡ false
  after : (init_found s slots init o).after ≡ slots ++ slot_from init o ∷ []

not_false : (b : Bool) → not b ≡ true → b ≡ false
not_false true h = cc h
not_false false h = refl

one_fine : (s : NameScope) (slots : StartSlots) (init : Init) (o : Option Named) → found s init.name.text ≡ o →
    (init_found s slots init o).fault ≡ None → OneFine s slots init o
one_fine s slots init None e h = cc h
one_fine s slots init (Some n) e h =
    let v = unless (is_variable n.meaning) Code.Unknown init.name.at in
    let i = unless (is_index n.indices init.index) Code.WrongType init.name.at in
    let again = list_any (same_slot (slot_of init n)) slots in
    let a = unless (not again) Code.DeclaredTwice init.name.at in
    let front = earlier_first (earlier v (earlier i a)) (start_value s n init.value).fault h in
    let rest = earlier_second v (earlier i a) front in
    record {
      fine = record {
        named = n;
        there = e;
        var = unless_none (is_variable n.meaning) Code.Unknown init.name.at (earlier_first v (earlier i a) front);
        index = unless_none (is_index n.indices init.index) Code.WrongType init.name.at (earlier_first i a rest);
        value = earlier_second (earlier v (earlier i a)) (start_value s n init.value).fault h;
      };
      fresh = not_false again (unless_none (not again) Code.DeclaredTwice init.name.at (earlier_second i a rest));
      after = refl;
    }

or_first : (a b : Bool) → (a || b) ≡ false → a ≡ false
or_first true b h = cc h
or_first false b h = refl

or_second : (a b : Bool) → (a || b) ≡ false → b ≡ false
or_second true b h = cc h
or_second false b h = h

abbrev pub Fresh : NameScope → StartSlots → Init → Type 0
Fresh s slots i = list_any (same_slot (place_of s i)) slots ≡ false

abbrev pub Other : NameScope → Init → Init → Type 0
Other s i j = same_slot (place_of s j) (place_of s i) ≡ false

fresh_first : (s : NameScope) (slots : StartSlots) (p : StartSlot) (j : Init) → Fresh s (slots ++ p ∷ []) j →
    Fresh s slots j
fresh_first s slots p j h = or_first (list_any (same_slot (place_of s j)) slots) (same_slot (place_of s j) p || false)
    (sym (list_any-append (same_slot (place_of s j)) slots (p ∷ [])) ∙ h)

fresh_last : (s : NameScope) (slots : StartSlots) (p : StartSlot) (j : Init) → Fresh s (slots ++ p ∷ []) j →
    same_slot (place_of s j) p ≡ false
fresh_last s slots p j h = or_first (same_slot (place_of s j) p) false
    (or_second (list_any (same_slot (place_of s j)) slots) (same_slot (place_of s j) p || false)
    (sym (list_any-append (same_slot (place_of s j)) slots (p ∷ [])) ∙ h))

pub record AllFine (s : NameScope) (slots : StartSlots) (inits : List Init) : Type 0 where
  pub fine : All (InitFine s) inits
  pub fresh : All (Fresh s slots) inits
  pub apart : Pairs (Other s) inits

pub all_fine : (s : NameScope) (slots : StartSlots) (inits : List Init) → (run (init_part s) slots inits).fault ≡ None →
    AllFine s slots inits
all_fine s slots [] h = record { fine = All-nil (InitFine s); fresh = All-nil (Fresh s slots); apart = tt }
all_fine s slots (i ∷ is) h =
    let p = init_part s slots i in
    let q = run (init_part s) p.after is in
    let one = one_fine s slots i (found s i.name.text) refl (earlier_first p.fault q.fault h) in
    let rest = all_fine s (slots ++ place_of s i ∷ []) is
    (subst (λ (x : StartSlots). (run (init_part s) x is).fault ≡ None) one.after (earlier_second p.fault q.fault h)) in
    record {
      fine = All-cons (InitFine s) i is one.fine rest.fine;
      fresh = All-cons (Fresh s slots) i is one.fresh
          (All-weaker (Fresh s (slots ++ place_of s i ∷ [])) (Fresh s slots)
          (λ j f. fresh_first s slots (place_of s i) j f) is rest.fresh);
      apart = (
        All-weaker (Fresh s (slots ++ place_of s i ∷ [])) (Other s i)
            (λ j f. fresh_last s slots (place_of s i) j f) is rest.fresh,
        rest.apart,
      );
    }

-- a section in the table of its program
pub record Section (final : Table) (inits : List Init) : Type 0 where
  pub names : Table
  pub program : ℕ
  pub stays : StaysIn names final
  pub fine : All (InitFine (program_scope program names)) inits
  pub apart : Pairs (Other (program_scope program names)) inits

-- sections of programs

abbrev pub HasSection : Table → Program → Type 0
HasSection final (Program.Union at name left right) = Unit {0}
HasSection final (Program.Plain at name declare always initially start items) = Section final (some_of start)

pub sections : (final : Table) (d : Declared) (parts : List DocumentPart) → (run part_of d parts).fault ≡ None →
    StaysIn (run part_of d parts).after.names final → All (HasSection final) (programs_among parts)
sections final d [] h stays = All-nil (HasSection final)
sections final d (DocumentPart.Program at (Program.Union at2 name left right) ∷ rest) h stays =
    let p = part_of d (DocumentPart.Program at (Program.Union at2 name left right)) in
    All-cons (HasSection final) (Program.Union at2 name left right) (programs_among rest) tt
    (sections final p.after rest (earlier_second p.fault (run part_of p.after rest).fault h) stays)
sections final d (DocumentPart.Program at (Program.Plain at2 name declare always initially start items) ∷ rest) h
    stays =
    let r = part_of d (DocumentPart.Program at (Program.Plain at2 name declare always initially start items)) in
    let later = earlier_second r.fault (run part_of r.after rest).fault h in
    let here = earlier_first r.fault (run part_of r.after rest).fault h in
    let a = (new_program d.programs name).fault in
    let p = run (variable_part name.at) d.names (items_of declare) in
    let q = always_part name.at p.after (items_of always) in
    let b = earlier p.fault q.fault in
    let place = program_scope name.at q.after in
    let body = program_body place initially (some_of start) items d.labels in
    let c = earlier body.fault None in
    let i = earlier_first body.fault None (earlier_second b c (earlier_second a (earlier b c) here)) in
    let first = (initially_reading place initially).fault in
    let second = (start_reading place (some_of start)).fault in
    let f = all_fine place [] (some_of start) (earlier_second first second
    (earlier_first (earlier first second) (items_part items place d.labels).fault i)) in
    All-cons (HasSection final) (Program.Plain at2 name declare always initially start items) (programs_among rest)
    (record {
      names = q.after;
      program = name.at;
      stays = λ word n e.
          let k = stays_in_documents r.after rest later word n e in stays word (record n { program = k.0 }) k.1;
      fine = f.fine;
      apart = f.apart;
    })
    (sections final r.after rest later stays)
sections final d (DocumentPart.Proof at of ∷ rest) h stays =
    let p = part_of d (DocumentPart.Proof at of) in
    sections final p.after rest (earlier_second p.fault (run part_of p.after rest).fault h) stays

-- slots

-- start values of different slots
abbrev pub Differ : ℕ × ℤ → ℕ × ℤ → Type 0
Differ e f = e.0 ≡ f.0 → ⊥

pub visible_there : (p : ℕ) (o : Option Named) (n : Named) → visible (Some p) o ≡ Some n → o ≡ Some n
visible_there p None n e = cc e
visible_there p (Some m) n e = by (is_visible (Some p) m) e
  where
    by : (b : Bool) → cond b (Some m) None ≡ Some n → Some m ≡ Some n
    by true f = f
    by false f = cc f

pub some_same : {X : Type 0} (x y : X) → Some x ≡ Some y → x ≡ y
some_same x y e = cc e

module _ (final : Table) (vs : List Variable) (mirrors : Mirrors final vs) (follow : Follow 0 vs) (p : ℕ)
    (names : Table) (stays : StaysIn names final) where
  abbrev pub here : NameScope
  here = program_scope p names

  -- the variable of a start value, and its slot
  pub record Located (init : Init) (n : Named) : Type 0 where
    pub program : ℕ
    pub there : lookup (bytes_eq init.name.text) final ≡ Some (record n { program = program })
    pub variable : Variable
    pub named : variable_named init.name.text vs ≡ Some variable
    pub placed : PlacedAt variable.first variable.indices init.index

  pub located : (init : Init) (f : InitFine here init) → Located init f.named
  located init f =
      let n = f.named in
      let word = init.name.text in
      let k = stays word n (visible_there p (lookup (bytes_eq word) names) n f.there) in
      let m = mirrors.there word (record n { program = k.0 }) k.1 f.var in
      record {
        program = k.0;
        there = k.1;
        variable = m.0;
        named = m.1;
        placed = subst (λ x. PlacedAt m.0.first x init.index) m.2.1
            (placed_at m.0.first n.indices init.index f.index);
      }

  pub slot_found : (init : Init) (n : Named) (l : Located init n) →
      slot_named init.name.text (index_of init.index) vs ≡ Some (l.variable.first + l.placed.distance)
  slot_found init n l =
      slot_of_named init.name.text (index_of init.index) vs l.variable l.named ∙ l.placed.found

  pub start_at : (init : Init) (n : Named) (l : Located init n) →
      start_slot vs init ≡ l.variable.first + l.placed.distance
  start_at init n l = ap (λ o. unwrap_or o 0) (slot_found init n l)

  -- values of one slot have one variable and one index
  same_index : (i j : Option (Bool × ℕ)) (v u : Variable) (a : PlacedAt v.first v.indices i)
      (b : PlacedAt u.first u.indices j) → v ≡ u → v.first + a.distance ≡ u.first + b.distance →
      index_number i ≡ index_number j
  same_index i j v u a b same e =
      let first : v.first ≡ u.first = ap (λ x. x.first) same in
      let low : low_of v.indices ≡ low_of u.indices = ap (λ x. low_of x.indices) same in
      let far : a.distance ≡ b.distance = omega (arith, e, first) in
      a.number ∙ ap (λ z. z +ℤ pos a.distance) low ∙ ap (λ n. low_of u.indices +ℤ pos n) far ∙ sym b.number

  both_true : (a b : Bool) → a ≡ true → b ≡ true → (a && b) ≡ true
  both_true a b h k = ap (λ x. x && b) h ∙ k

  false_true : (b : Bool) → b ≡ true → b ≡ false → ⊥
  false_true true h k = cc k
  false_true false h k = cc h

  slots_differ : (i j : Init) → InitFine here i → InitFine here j → Other here i j →
      start_slot vs i ≡ start_slot vs j → ⊥
  slots_differ i j f g other same =
      let l = located i f in
      let m = located j g in
      let e = sym (start_at i f.named l) ∙ same ∙ start_at j g.named m in
      let names' : i.name.text ≡ j.name.text = one_named 0 vs i.name.text j.name.text l.variable m.variable
      l.placed.distance m.placed.distance follow l.named m.named l.placed.within m.placed.within e in
      let variables : l.variable ≡ m.variable = some_same l.variable m.variable
      (sym l.named ∙ ap (λ w. variable_named w vs) names' ∙ m.named) in
      let entries : g.named ≡ f.named = some_same g.named f.named
      (sym g.there ∙ ap (λ w. found here w) (sym names') ∙ f.there) in
      let index = same_index i.index j.index l.variable m.variable l.placed m.placed variables e in
      let one : place_of here i ≡ slot_of i f.named = ap (slot_from i) f.there in
      let two : place_of here j ≡ slot_of j g.named = ap (slot_from j) g.there in
      false_true (same_slot (place_of here j) (place_of here i))
      (both_true (nat_eq (place_of here j).0 (place_of here i).0) (int_eq (place_of here j).1 (place_of here i).1)
      (eq-eqb (place_of here j).0 (place_of here i).0
      (ap (λ x. x.0) two ∙ ap (λ (n : Named). variable_place n.meaning) entries ∙ sym (ap (λ x. x.0) one)))
      ((Decides-int_eq (place_of here j).1 (place_of here i).1).1
      (ap (λ x. x.1) two ∙ sym index ∙ sym (ap (λ x. x.1) one)))) other

  pub values_once : (values : Bindings) (inits : List Init) → All (InitFine here) inits → Pairs (Other here) inits →
      Pairs Differ (start_values vs values inits)
  values_once values inits fine apart =
      pairs_map Differ (start_entry vs values) inits
      (pairs_with (InitFine here) (Other here) (λ i j. start_slot vs i ≡ start_slot vs j → ⊥)
      (λ i j f g o. slots_differ i j f g o) inits fine apart)

-- unions

none_given : (f : List (ℕ × ℤ)) (k : ℕ) → gives f k ≡ false → All (λ (d : ℕ × ℤ). d.0 ≡ k → ⊥) f
none_given [] k h = All-nil (λ (d : ℕ × ℤ). d.0 ≡ k → ⊥)
none_given (d ∷ f) k h = All-cons (λ (e : ℕ × ℤ). e.0 ≡ k → ⊥) d f
    (λ e. differ (nat_eq d.0 k) (or_first (nat_eq d.0 k) (gives f k) h) (eq-eqb d.0 k e))
    (none_given f k (or_second (nat_eq d.0 k) (gives f k) h))
  where
    differ : (b : Bool) → b ≡ false → b ≡ true → ⊥
    differ true h k = cc h
    differ false h k = cc k

swapped : {X Y : Type 0} (R : X → Y → Type 0) (xs : List X) (ys : List Y) → All (λ y. All (λ x. R x y) xs) ys →
    All (λ x. All (R x) ys) xs
swapped R [] ys h = All-nil (λ x. All (R x) ys)
swapped R (x ∷ xs) ys h = All-cons (λ z. All (R z) ys) x xs
    (All-weaker (λ y. All (λ z. R z y) (x ∷ xs)) (R x) (λ y k. All-head (λ z. R z y) x xs k) ys h)
    (swapped R xs ys (All-weaker (λ y. All (λ z. R z y) (x ∷ xs)) (λ y. All (λ z. R z y) xs)
    (λ y k. All-tail (λ z. R z y) x xs k) ys h))

abbrev Once : List (ℕ × ℤ) → Type 0
Once xs = Pairs Differ xs

filtered_once : (test : ℕ × ℤ → Bool) (xs : List (ℕ × ℤ)) → Once xs → Once (filter test xs)
filtered_once test [] h = tt
filtered_once test (x ∷ xs) h =
    by (test x) (All-filter test (Differ x) xs h.0) (filtered_once test xs h.1)
  where
    by : (b : Bool) → All (Differ x) (filter test xs) → Once (filter test xs) →
        Once (cond b (x ∷ filter test xs) (filter test xs))
    by true k r = (k, r)
    by false k r = r

joined_once : (f g : List (ℕ × ℤ)) → Once f → Once g → Once (joined_start f g)
joined_once f g h k =
    let test : ℕ × ℤ → Bool = λ e. not (gives f e.0) in
    pairs_on Differ f (filter test g) h (filtered_once test g k)
    (swapped Differ f (filter test g)
    (All-weaker (λ (e : ℕ × ℤ). test e ≡ true) (λ (e : ℕ × ℤ). All (λ (d : ℕ × ℤ). Differ d e) f)
    (λ e t. none_given f e.0 (not_false (gives f e.0) t)) (filter test g) (filter_passes test g)))

-- the scope of a document

pub same_variables : (s : Scope) (ds : List Def) → (with_definitions s ds).variables ≡ s.variables
same_variables s [] = refl
same_variables s (d ∷ ds) = same_variables (with_definition s d) ds

pub same_words : (s : Scope) (ds : List Def) → (with_definitions s ds).words ≡ s.words
same_words s [] = refl
same_words s (d ∷ ds) = same_words (with_definition s d) ds

-- documents

makes_once : (words : Texts) (s : Scope) (slots : List CSlot) (final : Table) → Mirrors final s.variables →
    Follow 0 s.variables → (program : Program) → HasSection final program →
    Makes (λ c. Once c.start) words s slots program
makes_once words s slots final mirrors follow (Program.Union at name left right) h before k =
    union_makes (λ c. Once c.start) words s slots (word_number words name.text)
    (λ f g a b. joined_once f.start g.start a b)
    (word_number words left.text) (word_number words right.text) before k
makes_once words s slots final mirrors follow (Program.Plain at name declare always initially start items) h before k =
    values_once final s.variables mirrors follow h.program h.names h.stays s.words (some_of start) h.fine h.apart

module _ (d : Document) (named : IsWellNamed d) where
  abbrev pub last_table : Table
  last_table = (run part_of nothing_declared d.parts).after.names

  abbrev declared_here : List Variable
  declared_here = variables_of (programs_among d.parts)

  variables_are : (document_scope d.parts).variables ≡ declared_here
  variables_are = same_variables (declared_scope d.parts) (flat_map part_definitions d.parts)

  mirrors_are : Mirrors last_table (document_scope d.parts).variables
  mirrors_are = subst (λ (x : List Variable). Mirrors last_table x) (sym variables_are)
      (mirrored_by_documents d.parts (parts_fault d named))

  follow_are : Follow 0 (document_scope d.parts).variables
  follow_are = subst (λ (x : List Variable). Follow 0 x) (sym variables_are)
      (follow_all [] (flat_map declarations (programs_among d.parts)) tt)

  pub sections_are : All (HasSection last_table) (programs_among d.parts)
  sections_are = sections last_table nothing_declared d.parts (parts_fault d named) (λ word n e. (n.program, e))

  all_once : All (λ c. Once c.start) (core_document d).programs
  all_once =
      let words = document_words d in let s = document_scope d.parts in let slots = document_slots words d.parts in
      all_cores (λ c. Once c.start) words s slots d.parts
      (All-weaker (HasSection last_table) (Makes (λ c. Once c.start) words s slots)
      (λ p h. makes_once words s slots last_table mirrors_are follow_are p h) (programs_among d.parts) sections_are)
      [] (All-nil (λ c. Once c.start))

pub starts_once : StartsOnce
starts_once d h = All-weaker (λ c. Once c.start) (λ c. EachPair (λ e f. e.0 ≡ f.0 → ⊥) c.start)
    (λ c k. each_pair Differ c.start k) (core_document d).programs (all_once d h)
