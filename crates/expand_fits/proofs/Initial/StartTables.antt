-- What a table of words says of start values: the range of each variable, and the number of each word of an
-- enumeration.
use Rattle.std.proofs.Common.{◌≡◌, ℕ, suc, ◌+◌, ◌≤◌, ℤ, pos, List, [], ◌∷◌, ◌++◌, length, Bool, true, false, cond, not}
use Rattle.std.proofs.Common.{◌&&◌, Option, Some, None, is_some, ◌⊎◌, inl, inr, refl, sym, ap, ◌∙◌}
use Rattle.std.proofs.Common.{subst, append_assoc, arith, nat_eq, All}
use Rattle.std.specs.List.{flat_map}
use Rattle.std.specs.Map.{lookup}
use Rattle.std.specs.Str.{bytes_eq}
use Rattle.std.proofs.lemmas.Bool.{eqb-true}
use Rattle.std.proofs.lemmas.List.{append-nil}
use Rattle.std.proofs.lemmas.List.Elements.{All-nil, All-cons, All-head, All-tail}
use Rattle.case_tables.specs.declared.code_table.Code.{Code}
use Rattle.unity_syntax.specs.declared.name.Name.{Name}
use Rattle.unity_syntax.specs.declared.name.End.{End}
use Rattle.unity_syntax.specs.declared.name.Range.{Range}
use Rattle.unity_syntax.specs.declared.declaration.Plain.{Plain}
use Rattle.unity_syntax.specs.declared.declaration.VarType.{VarType}
use Rattle.unity_syntax.specs.declared.declaration.Var.{Var}
use Rattle.unity_syntax.specs.declared.declaration.Def.{Def}
use Rattle.unity_syntax.specs.declared.program.Program.{Program}
use Rattle.unity_syntax.specs.declared.document.Part.{Part as DocumentPart}
use Rattle.meaning_documents.specs.Names.{Bindings, Variable}
use Rattle.meaning_documents.specs.Value.{end_value, range_ends}
use Rattle.meaning_documents.specs.Setting as setting
use Rattle.meaning_documents.specs.Setting.{declarations, plain_range, with_places, plain_words, slot_count}
use Rattle.meaning_documents.specs.Setting.{variable_from}
use Rattle.meaning_documents.specs.Setting.{with_declaration, with_declarations}
use Rattle.unity_syntax.proofs.BackParts.{both_same}
use Rattle.names_rules.specs.declared.named.Meaning.{Meaning}
use Rattle.names_rules.specs.declared.named.Sort.{Sort}
use Rattle.names_rules.specs.declared.named.Span.{Span}
use Rattle.names_rules.specs.declared.named.Named.{Named}
use Rattle.names_rules.specs.Scope.{Table, no_span, is_variable, is_value}
use Rattle.names_rules.specs.Reading.{earlier, unless, same_sort, read, end_reading, upside_down, filled}
use Rattle.names_rules.specs.Part.{run, quiet}
use Rattle.names_rules.specs.Declarations.{items_of, some_of, program_scope, with_named, is_declared, value_named}
use Rattle.names_rules.specs.Declarations.{is_value_of, is_word_of, are_words, is_last, sort_or, known_sort}
use Rattle.names_rules.specs.Declarations.{is_repeated}
use Rattle.names_rules.specs.Declarations.{words_sort, enumerated, repeated, words_part, end_number, span_of}
use Rattle.names_rules.specs.Declarations.{plain_sort}
use Rattle.names_rules.specs.Declarations.{plain_span, plain_part, type_part, element_type}
use Rattle.names_rules.specs.Declarations.{variable_named as named_here, may_declare, means_alike, variable_as}
use Rattle.names_rules.specs.Declarations.{variable_part, always_named, definition, definition_scope, always_part}
use Rattle.names_rules.specs.WellNamed.{Declared, nothing_declared, new_program, program_body, program_part, part_of}
use Rattle.meaning_documents.specs.Names.{variable_named}
use Rattle.names_laws.specs.VariableLaws.{span_ends, Mirrors}
use Rattle.names_laws.proofs.AttributeTheorems.{and_first, and_second}
use Rattle.names_rules.proofs.Faults.{earlier_first, earlier_second, unless_none}
use Rattle.names_laws.proofs.Inserts.{same_bytes, bytes_same, chosen, taken, added, found_added, still_found}
use Rattle.names_laws.proofs.Mirrored.{any_none, any_some, not_some, mirrored_by_variables, mirrored_by_definitions}
use Rattle.expand_declarations.specs.Slots.{declared_by}
use Rattle.expand_declarations.specs.Start.{enumeration_words, var_words}
use Rattle.expand_declarations.proofs.LayoutLaws.{with_declarations-append}

-- what is there

pub none_or_some : {X : Type 0} (o : Option X) → o ≡ None → is_some o ≡ true → ⊥
none_or_some None e h = cc h
none_or_some (Some x) e h = cc e

pub something : {X : Type 0} (o : Option X) → is_some o ≡ true → (x : X) × (o ≡ Some x)
something None h = cc h
something (Some x) h = (x, refl)

nothing_there : {X : Type 0} (o : Option X) → ((x : X) → o ≡ Some x → ⊥) → o ≡ None
nothing_there None f = refl
nothing_there (Some x) f = absurd (f x refl)

true_or_false : (b : Bool) → b ≡ true → b ≡ false → ⊥
true_or_false true h k = cc k
true_or_false false h k = cc h

still_some : (names : Table) (word other : List ℕ) (n : Named) → is_some (lookup (bytes_eq other) names) ≡ true →
    is_some (lookup (bytes_eq other) (with_named names word n)) ≡ true
still_some names word other n h =
    let k = something (lookup (bytes_eq other) names) h in
    elim (still_found names word other n k.0 k.1)
    as (λ x. is_some (lookup (bytes_eq other) (with_named names word n)) ≡ true) [
      | inl same ↦ ap is_some same
      | inr new ↦ ap is_some new
    ]

-- words with their numbers

in_words : (ws more : Bindings) (word : List ℕ) (z : ℤ) → lookup (bytes_eq word) (ws ++ more) ≡ Some z →
    (lookup (bytes_eq word) ws ≡ Some z) ⊎ (lookup (bytes_eq word) more ≡ Some z)
in_words [] more word z e = inr e
in_words (w ∷ ws) more word z e = by (bytes_eq word w.0) e (in_words ws more word z)
  where
    by : (b : Bool) → cond b (Some w.1) (lookup (bytes_eq word) (ws ++ more)) ≡ Some z →
        (lookup (bytes_eq word) (ws ++ more) ≡ Some z →
        (lookup (bytes_eq word) ws ≡ Some z) ⊎ (lookup (bytes_eq word) more ≡ Some z)) →
        (cond b (Some w.1) (lookup (bytes_eq word) ws) ≡ Some z) ⊎ (lookup (bytes_eq word) more ≡ Some z)
    by true f rest = inl f
    by false f rest = rest f

words_stay : (ws more : Bindings) (word : List ℕ) (z : ℤ) → lookup (bytes_eq word) ws ≡ Some z →
    lookup (bytes_eq word) (ws ++ more) ≡ Some z
words_stay [] more word z e = cc e
words_stay (w ∷ ws) more word z e = by (bytes_eq word w.0) e (words_stay ws more word z)
  where
    by : (b : Bool) → cond b (Some w.1) (lookup (bytes_eq word) ws) ≡ Some z →
        (lookup (bytes_eq word) ws ≡ Some z → lookup (bytes_eq word) (ws ++ more) ≡ Some z) →
        cond b (Some w.1) (lookup (bytes_eq word) (ws ++ more)) ≡ Some z
    by true f rest = f
    by false f rest = rest f

words_last : (ws more : Bindings) (word : List ℕ) → lookup (bytes_eq word) ws ≡ None →
    lookup (bytes_eq word) (ws ++ more) ≡ lookup (bytes_eq word) more
words_last [] more word e = refl
words_last (w ∷ ws) more word e = by (bytes_eq word w.0) e (words_last ws more word)
  where
    by : (b : Bool) → cond b (Some w.1) (lookup (bytes_eq word) ws) ≡ None →
        (lookup (bytes_eq word) ws ≡ None → lookup (bytes_eq word) (ws ++ more) ≡ lookup (bytes_eq word) more) →
        cond b (Some w.1) (lookup (bytes_eq word) (ws ++ more)) ≡ lookup (bytes_eq word) more
    by true f rest = cc f
    by false f rest = rest f

only_one : (c : Bool) (x z : ℤ) → cond c (Some x) None ≡ Some z → c ≡ true
only_one true x z e = refl
only_one false x z e = cc e

-- variables by their names

named_more : (name : List ℕ) (vs : List Variable) (w v : Variable) → variable_named name (vs ++ w ∷ []) ≡ Some v →
    (variable_named name vs ≡ Some v) ⊎ ((name ≡ w.name) × (v ≡ w))
named_more name [] w v e = elim (chosen (bytes_eq name w.name) w v None e)
    as (λ x. (variable_named name [] ≡ Some v) ⊎ ((name ≡ w.name) × (v ≡ w))) [
      | inl new ↦ inr (same_bytes name w.name new.0, new.1)
      | inr old ↦ inl old.1
    ]
named_more name (u ∷ vs) w v e = by (bytes_eq name u.name) (named_more name vs w v) e
  where
    by : (b : Bool) → (variable_named name (vs ++ w ∷ []) ≡ Some v →
        (variable_named name vs ≡ Some v) ⊎ ((name ≡ w.name) × (v ≡ w))) →
        cond b (Some u) (variable_named name (vs ++ w ∷ [])) ≡ Some v →
        (cond b (Some u) (variable_named name vs) ≡ Some v) ⊎ ((name ≡ w.name) × (v ≡ w))
    by true rest f = inl f
    by false rest f = rest f

-- ranges

end_same : (e : End) → (end_reading [] e).fault ≡ None → end_number e ≡ end_value [] e
end_same (End.Number at minus number) h = refl
end_same (End.Word at name offset) h = cc h

range_same : (r : Range) → (filled [] r).fault ≡ None → span_ends (span_of r) ≡ range_ends [] r
range_same r h =
    let u = unless (not (upside_down r.low r.high)) Code.BadRange r.at in
    let f = (end_reading [] r.low).fault in
    let g = (end_reading [] r.high).fault in
    let i = earlier_first (earlier f g) u h in
    both_same (λ x y. (x, y)) (end_same r.low (earlier_first f g i)) (end_same r.high (earlier_second f g i))

value_is : (m : Meaning) (k : ℕ) → is_value_of k m ≡ true → is_value m ≡ true
value_is (Meaning.Variable at) k h = cc h
value_is (Meaning.Value number) k h = refl
value_is (Meaning.Always at) k h = cc h
value_is (Meaning.Bound at) k h = cc h
value_is (Meaning.Param number) k h = cc h
value_is (Meaning.Program at) k h = cc h

word_some : (sort : Sort) (number : ℕ) (o : Option Named) → is_word_of sort number o ≡ true → is_some o ≡ true
word_some sort number None h = cc h
word_some sort number (Some n) h = refl

-- the words of an enumeration that stands again are there
words_there : (names : Table) (sort : Sort) (first place : ℕ) (xs : List Name) (word : List ℕ) (z : ℤ) →
    are_words names sort first xs ≡ true → lookup (bytes_eq word) (with_places place xs) ≡ Some z →
    is_some (lookup (bytes_eq word) names) ≡ true
words_there names sort first place [] word z h e = cc e
words_there names sort first place (x ∷ xs) word z h e =
    let one = is_word_of sort first (lookup (bytes_eq x.text) names) in
    let more = are_words names sort (first + 1) xs in
    by (bytes_eq word x.text) (same_bytes word x.text)
    (word_some sort first (lookup (bytes_eq x.text) names) (and_first one more h)) e
    (words_there names sort (first + 1) (suc place) xs word z (and_second one more h))
  where
    by : (b : Bool) → (b ≡ true → word ≡ x.text) → is_some (lookup (bytes_eq x.text) names) ≡ true →
        cond b (Some (pos place)) (lookup (bytes_eq word) (with_places (suc place) xs)) ≡ Some z →
        (lookup (bytes_eq word) (with_places (suc place) xs) ≡ Some z →
        is_some (lookup (bytes_eq word) names) ≡ true) → is_some (lookup (bytes_eq word) names) ≡ true
    by true same k f rest = subst (λ w. is_some (lookup (bytes_eq w) names) ≡ true) (sym (same refl)) k
    by false same k f rest = rest f

-- the last number of the enumeration that begins at a byte
module _ (last_of : ℕ → Option ℕ) where
  -- the range of a variable is that of its type
  abbrev pub RangeOf : Sort → Span → ℤ × ℤ → Type 0
  RangeOf Sort.Number span r = span_ends span ≡ r
  RangeOf Sort.Boolean span r = r ≡ (pos 0, pos 1)
  RangeOf (Sort.Words at last) span r = (r ≡ (pos 0, pos last)) × (last_of at ≡ Some last)

  -- a word of an enumeration has a number there
  pub record ValueOf (ws : Bindings) (word : List ℕ) (n : Named) : Type 0 where
    pub number : ℕ
    pub place : ℕ
    pub last : ℕ
    pub sort : n.sort ≡ Sort.Words place last
    pub found : lookup (bytes_eq word) ws ≡ Some (pos number)
    pub small : number ≤ last
    pub known : last_of place ≡ Some last

  pub record Tells (names : Table) (vs : List Variable) (ws : Bindings) : Type 0 where
    pub variables : (word : List ℕ) (v : Variable) → variable_named word vs ≡ Some v →
        is_some (lookup (bytes_eq word) names) ≡ true
    pub words : (word : List ℕ) (z : ℤ) → lookup (bytes_eq word) ws ≡ Some z →
        is_some (lookup (bytes_eq word) names) ≡ true
    pub ranged : (word : List ℕ) (n : Named) (v : Variable) → lookup (bytes_eq word) names ≡ Some n →
        variable_named word vs ≡ Some v → RangeOf n.sort n.range v.range
    pub valued : (word : List ℕ) (n : Named) → lookup (bytes_eq word) names ≡ Some n →
        is_value n.meaning ≡ true → ValueOf ws word n

  -- what the type of a variable is

  abbrev pub EnumerationOf : Plain → Type 0
  EnumerationOf (Plain.Boolean at) = Unit {0}
  EnumerationOf (Plain.Range at range) = Unit {0}
  EnumerationOf (Plain.Words at first rest) = last_of first.at ≡ Some (length rest)

  more_valued : (ws more : Bindings) (word : List ℕ) (n : Named) → ValueOf ws word n → ValueOf (ws ++ more) word n
  more_valued ws more word n k = record {
    number = k.number;
    place = k.place;
    last = k.last;
    sort = k.sort;
    found = words_stay ws more word (pos k.number) k.found;
    small = k.small;
    known = k.known;
  }

  -- one more word

  tell_other : (names : Table) (vs : List Variable) (ws : Bindings) (word : List ℕ) (n : Named) → Tells names vs ws →
      is_value n.meaning ≡ false → lookup (bytes_eq word) names ≡ None → Tells (with_named names word n) vs ws
  tell_other names vs ws word n t other none = record {
    variables = λ w v e. still_some names word w n (t.variables w v e);
    words = λ w z e. still_some names word w n (t.words w z e);
    ranged = λ w m v e f. elim (added names word w n m e) as (λ x. RangeOf m.sort m.range v.range) [
      | inl new ↦ absurd (none_or_some (lookup (bytes_eq word) names) none
          (subst (λ x. is_some (lookup (bytes_eq x) names) ≡ true) new.1 (t.variables w v f)))
      | inr old ↦ t.ranged w m v old f
    ];
    valued = λ w m e h. elim (added names word w n m e) as (λ x. ValueOf ws w m) [
      | inl new ↦ absurd (true_or_false (is_value n.meaning)
          (subst (λ (x : Named). is_value x.meaning ≡ true) new.0 h) other)
      | inr old ↦ t.valued w m old h
    ];
  }

  no_number : (names : Table) (vs : List Variable) (ws : Bindings) (word : List ℕ) → Tells names vs ws →
      lookup (bytes_eq word) names ≡ None → lookup (bytes_eq word) ws ≡ None
  no_number names vs ws word t none = nothing_there (lookup (bytes_eq word) ws)
      (λ z e. none_or_some (lookup (bytes_eq word) names) none (t.words word z e))

  tell_value : (names : Table) (vs : List Variable) (ws : Bindings) (word : List ℕ) (place last number : ℕ) →
      Tells names vs ws → lookup (bytes_eq word) names ≡ None → number ≤ last → last_of place ≡ Some last →
      Tells (with_named names word (value_named (Sort.Words place last) number)) vs (ws ++ (word, pos number) ∷ [])
  tell_value names vs ws word place last number t none small known =
      let n = value_named (Sort.Words place last) number in
      let more : Bindings = (word, pos number) ∷ [] in
      let here : ValueOf (ws ++ more) word n = record {
        number = number;
        place = place;
        last = last;
        sort = refl;
        found = words_last ws more word (no_number names vs ws word t none)
            ∙ taken (bytes_eq word word) (pos number) None (bytes_same word word refl);
        small = small;
        known = known;
      } in
      record {
        variables = λ w v e. still_some names word w n (t.variables w v e);
        words = λ w z e. elim (in_words ws more w z e)
            as (λ x. is_some (lookup (bytes_eq w) (with_named names word n)) ≡ true) [
              | inl old ↦ still_some names word w n (t.words w z old)
              | inr new ↦ subst (λ x. is_some (lookup (bytes_eq x) (with_named names word n)) ≡ true)
                  (sym (same_bytes w word (only_one (bytes_eq w word) (pos number) z new)))
                  (ap is_some (found_added names word n))
            ];
        ranged = λ w m v e f. elim (added names word w n m e) as (λ x. RangeOf m.sort m.range v.range) [
          | inl new ↦ absurd (none_or_some (lookup (bytes_eq word) names) none
              (subst (λ x. is_some (lookup (bytes_eq x) names) ≡ true) new.1 (t.variables w v f)))
          | inr old ↦ t.ranged w m v old f
        ];
        valued = λ w m e h. elim (added names word w n m e) as (λ x. ValueOf (ws ++ more) w m) [
          | inl new ↦ subst (λ x. ValueOf (ws ++ more) x m) (sym new.1)
              (subst (λ (x : Named). ValueOf (ws ++ more) word x) (sym new.0) here)
          | inr old ↦ more_valued ws more w m (t.valued w m old h)
        ];
      }

  tell_again : (names : Table) (vs : List Variable) (ws : Bindings) (word : List ℕ) (old : Named) (program : ℕ) →
      Tells names vs ws → lookup (bytes_eq word) names ≡ Some old →
      Tells (with_named names word (record old { program = program })) vs ws
  tell_again names vs ws word old program t there =
      let n = record old { program = program } in
      record {
        variables = λ w v e. still_some names word w n (t.variables w v e);
        words = λ w z e. still_some names word w n (t.words w z e);
        ranged = λ w m v e f. elim (added names word w n m e) as (λ x. RangeOf m.sort m.range v.range) [
          | inl new ↦ subst (λ (x : Named). RangeOf x.sort x.range v.range) (sym new.0)
              (t.ranged word old v there (subst (λ x. variable_named x vs ≡ Some v) new.1 f))
          | inr before' ↦ t.ranged w m v before' f
        ];
        valued = λ w m e h. elim (added names word w n m e) as (λ x. ValueOf ws w m) [
          | inl new ↦
              let k = t.valued word old there (subst (λ (x : Named). is_value x.meaning ≡ true) new.0 h) in
              let again : ValueOf ws word n = record {
                number = k.number;
                place = k.place;
                last = k.last;
                sort = k.sort;
                found = k.found;
                small = k.small;
                known = k.known;
              } in
              subst (λ x. ValueOf ws x m) (sym new.1) (subst (λ (x : Named). ValueOf ws word x) (sym new.0) again)
          | inr before' ↦ t.valued w m before' h
        ];
      }

  tell_new : (names : Table) (vs : List Variable) (ws : Bindings) (word : List ℕ) (n : Named) (v : Variable) →
      Tells names vs ws → lookup (bytes_eq word) names ≡ None → is_value n.meaning ≡ false → v.name ≡ word →
      RangeOf n.sort n.range v.range → Tells (with_named names word n) (vs ++ v ∷ []) ws
  tell_new names vs ws word n v t none other same range = record {
    variables = λ w u e. elim (named_more w vs v u e)
        as (λ x. is_some (lookup (bytes_eq w) (with_named names word n)) ≡ true) [
          | inl old ↦ still_some names word w n (t.variables w u old)
          | inr here ↦ subst (λ x. is_some (lookup (bytes_eq x) (with_named names word n)) ≡ true)
              (sym (here.0 ∙ same)) (ap is_some (found_added names word n))
        ];
    words = λ w z e. still_some names word w n (t.words w z e);
    ranged = λ w m u e f. elim (added names word w n m e) as (λ x. RangeOf m.sort m.range u.range) [
      | inl new ↦ elim (named_more w vs v u f) as (λ x. RangeOf m.sort m.range u.range) [
        | inl old ↦ absurd (none_or_some (lookup (bytes_eq word) names) none
            (subst (λ x. is_some (lookup (bytes_eq x) names) ≡ true) new.1 (t.variables w u old)))
        | inr here ↦ subst (λ (x : Named). RangeOf x.sort x.range u.range) (sym new.0)
            (subst (λ (x : Variable). RangeOf n.sort n.range x.range) (sym here.1) range)
      ]
      | inr before' ↦ elim (named_more w vs v u f) as (λ x. RangeOf m.sort m.range u.range) [
        | inl old ↦ t.ranged w m u before' old
        | inr here ↦ absurd (none_or_some (lookup (bytes_eq word) names) none
            (subst (λ x. is_some (lookup (bytes_eq x) names) ≡ true) (here.0 ∙ same) (ap is_some before')))
      ]
    ];
    valued = λ w m e h. elim (added names word w n m e) as (λ x. ValueOf ws w m) [
      | inl new ↦ absurd (true_or_false (is_value n.meaning)
          (subst (λ (x : Named). is_value x.meaning ≡ true) new.0 h) other)
      | inr before' ↦ t.valued w m before' h
    ];
  }

  -- enumerations

  none_here : (names : Table) (name : Name) →
      unless (not (is_declared names name.text)) Code.DeclaredTwice name.at ≡ None →
      lookup (bytes_eq name.text) names ≡ None
  none_here names name h = not_some (lookup (bytes_eq name.text) names)
      (unless_none (not (is_declared names name.text)) Code.DeclaredTwice name.at h)

  tell_enumerated : (place last number : ℕ) (names : Table) (vs : List Variable) (ws : Bindings) (xs : List Name) →
      last_of place ≡ Some last → number + length xs ≤ last + 1 → Tells names vs ws →
      (enumerated (Sort.Words place last) number names xs).fault ≡ None →
      Tells (enumerated (Sort.Words place last) number names xs).after vs (ws ++ with_places number xs)
  tell_enumerated place last number names vs ws [] known small t h =
      subst (λ (x : Bindings). Tells names vs x) (sym (append-nil ws)) t
  tell_enumerated place last number names vs ws (w ∷ xs) known small t h =
      let sort = Sort.Words place last in
      let more = with_named names w.text (value_named sort number) in
      let f = unless (not (is_declared names w.text)) Code.DeclaredTwice w.at in
      let p = enumerated sort (number + 1) more xs in
      let one = tell_value names vs ws w.text place last number t
      (none_here names w (earlier_first f p.fault h)) (omega (arith, small)) known in
      let next : number + 1 ≡ suc number = omega arith in
      subst (λ (x : Bindings). Tells p.after vs x)
      (append_assoc ws ((w.text, pos number) ∷ []) (with_places (number + 1) xs)
      ∙ ap (λ k. ws ++ (w.text, pos number) ∷ with_places k xs) next)
      (tell_enumerated place last (number + 1) more vs (ws ++ (w.text, pos number) ∷ []) xs known
      (omega (arith, small)) one (earlier_second f p.fault h))

  tell_repeated : (names : Table) (vs : List Variable) (ws : Bindings) (sort : Sort) (xs : List Name) →
      are_words names sort 0 xs ≡ true → Tells names vs ws → Tells names vs (ws ++ with_places 0 xs)
  tell_repeated names vs ws sort xs h t = record {
    variables = t.variables;
    words = λ w z e. elim (in_words ws (with_places 0 xs) w z e)
        as (λ x. is_some (lookup (bytes_eq w) names) ≡ true) [
          | inl old ↦ t.words w z old
          | inr new ↦ words_there names sort 0 0 xs w z h new
        ];
    ranged = t.ranged;
    valued = λ w m e k. more_valued ws (with_places 0 xs) w m (t.valued w m e k);
  }

  tell_words : (names : Table) (vs : List Variable) (ws : Bindings) (first : Name) (rest : List Name) →
      last_of first.at ≡ Some (length rest) → Tells names vs ws → (words_part names first rest).fault ≡ None →
      Tells (words_part names first rest).after vs (ws ++ with_places 0 (first ∷ rest))
  tell_words names vs ws first rest known t h = by (is_repeated names first rest)
      (λ k. and_second (is_last (known_sort names first) (length rest))
      (are_words names (known_sort names first) 0 (first ∷ rest)) k) h
    where
      by : (b : Bool) → (b ≡ true → are_words names (known_sort names first) 0 (first ∷ rest) ≡ true) →
          (cond b (quiet names (repeated 0 (first ∷ rest)))
          (enumerated (Sort.Words first.at (length rest)) 0 names (first ∷ rest))).fault ≡ None →
          Tells (cond b (quiet names (repeated 0 (first ∷ rest)))
          (enumerated (Sort.Words first.at (length rest)) 0 names (first ∷ rest))).after vs
          (ws ++ with_places 0 (first ∷ rest))
      by true k f = tell_repeated names vs ws (known_sort names first) (first ∷ rest) (k refl) t
      by false k f = tell_enumerated first.at (length rest) 0 names vs ws (first ∷ rest) known (omega arith) t f

  tell_plain : (names : Table) (vs : List Variable) (ws : Bindings) (of : Plain) → EnumerationOf of →
      Tells names vs ws → (plain_part names of).fault ≡ None →
      Tells (plain_part names of).after vs (ws ++ plain_words of)
  tell_plain names vs ws (Plain.Boolean at) known t h =
      subst (λ (x : Bindings). Tells names vs x) (sym (append-nil ws)) t
  tell_plain names vs ws (Plain.Range at range) known t h =
      subst (λ (x : Bindings). Tells names vs x) (sym (append-nil ws)) t
  tell_plain names vs ws (Plain.Words at first rest) known t h = tell_words names vs ws first rest known t h

  abbrev pub KnownVar : Var → Type 0
  KnownVar v = EnumerationOf (setting.element_type v.kind)

  tell_type : (names : Table) (vs : List Variable) (ws : Bindings) (kind : VarType) →
      EnumerationOf (setting.element_type kind) → Tells names vs ws → (type_part names kind).fault ≡ None →
      Tells (type_part names kind).after vs (ws ++ plain_words (setting.element_type kind))
  tell_type names vs ws (VarType.Plain at of) known t h = tell_plain names vs ws of known t h
  tell_type names vs ws (VarType.Array at range of) known t h =
      tell_plain names vs ws of known t (earlier_second (filled [] range).fault (plain_part names of).fault h)

  -- the range of a type

  words_range : (names : Table) (vs : List Variable) (ws : Bindings) (first : Name) (rest : List Name) →
      last_of first.at ≡ Some (length rest) → Tells names vs ws →
      RangeOf (words_sort names first rest) no_span (pos 0, pos (length rest))
  words_range names vs ws first rest known t = by (is_repeated names first rest)
      (λ h. let one = is_last (known_sort names first) (length rest) in
      let word = is_word_of (known_sort names first) 0 (lookup (bytes_eq first.text) names) in
      let others = are_words names (known_sort names first) (0 + 1) rest in
      before' (lookup (bytes_eq first.text) names) refl (and_first one (word && others) h)
      (and_first word others (and_second one (word && others) h)))
    where
      before' : (o : Option Named) → lookup (bytes_eq first.text) names ≡ o →
          is_last (sort_or o Sort.Number) (length rest) ≡ true → is_word_of (sort_or o Sort.Number) 0 o ≡ true →
          RangeOf (sort_or o Sort.Number) no_span (pos 0, pos (length rest))
      before' None e l w = cc l
      before' (Some n) e l w =
          let k = t.valued first.text n e
          (value_is n.meaning 0 (and_first (is_value_of 0 n.meaning) (same_sort n.sort n.sort) w)) in
          subst (λ s. RangeOf s no_span (pos 0, pos (length rest))) (sym k.sort) (
            ap (λ x. (pos 0, pos x)) (sym (eqb-true k.last (length rest)
                (subst (λ s. is_last s (length rest) ≡ true) k.sort l))),
            k.known,
          )

      by : (b : Bool) → (b ≡ true → RangeOf (known_sort names first) no_span (pos 0, pos (length rest))) →
          RangeOf (cond b (known_sort names first) (Sort.Words first.at (length rest))) no_span
          (pos 0, pos (length rest))
      by true f = f refl
      by false f = (refl, known)

  plain_ranged : (names more : Table) (vs : List Variable) (ws : Bindings) (of : Plain) → EnumerationOf of →
      Tells names vs ws → (plain_part more of).fault ≡ None →
      RangeOf (plain_sort names of) (plain_span of) (plain_range of)
  plain_ranged names more vs ws (Plain.Boolean at) known t h = refl
  plain_ranged names more vs ws (Plain.Range at range) known t h = range_same range h
  plain_ranged names more vs ws (Plain.Words at first rest) known t h = words_range names vs ws first rest known t

  type_ranged : (names more : Table) (vs : List Variable) (ws : Bindings) (kind : VarType) →
      EnumerationOf (setting.element_type kind) → Tells names vs ws → (type_part more kind).fault ≡ None →
      RangeOf (plain_sort names (element_type kind)) (plain_span (element_type kind))
      (plain_range (setting.element_type kind))
  type_ranged names more vs ws (VarType.Plain at of) known t h = plain_ranged names more vs ws of known t h
  type_ranged names more vs ws (VarType.Array at range of) known t h =
      plain_ranged names more vs ws of known t (earlier_second (filled [] range).fault (plain_part more of).fault h)

  -- variables

  tell_variable : (names : Table) (vs : List Variable) (ws : Bindings) (program : ℕ) (v : Var) → KnownVar v →
      Mirrors names vs → Tells names vs ws → (variable_part program names v).fault ≡ None →
      Tells (variable_part program names v).after (with_declaration vs v) (ws ++ var_words v)
  tell_variable names vs ws program v known m t h = by (lookup (bytes_eq v.name.text) names) refl h
    where
      by : (o : Option Named) → lookup (bytes_eq v.name.text) names ≡ o →
          (variable_as names v o (named_here program names v)).fault ≡ None →
          Tells (variable_as names v o (named_here program names v)).after (with_declaration vs v)
          (ws ++ var_words v)
      by None e f =
          let new = named_here program names v in
          let w = variable_from (slot_count vs) v in
          let more = with_named names v.name.text new in
          let g = (type_part more v.kind).fault in
          let u = unless (means_alike new None) Code.DeclaredTwice v.name.at in
          let a = unless (may_declare program None) Code.DeclaredTwice v.name.at in
          let i = earlier_first g u (earlier_second a (earlier g u) f) in
          let none = nothing_there (variable_named v.name.text vs)
          (λ x k. none_or_some (lookup (bytes_eq v.name.text) names) e (t.variables v.name.text x k)) in
          subst (λ b. Tells (type_part more v.kind).after (cond b vs (vs ++ w ∷ [])) (ws ++ var_words v))
          (sym (any_none vs v.name.text none))
          (tell_type more (vs ++ w ∷ []) ws v.kind known
          (tell_new names vs ws v.name.text new w t e refl refl (type_ranged names more vs ws v.kind known t i)) i)
      by (Some old) e f =
          let new = named_here program names v in
          let w = variable_from (slot_count vs) v in
          let more = with_named names v.name.text (record old { program = program }) in
          let a = unless (may_declare program (Some old)) Code.DeclaredTwice v.name.at in
          let g = (type_part more v.kind).fault in
          let u = unless (means_alike new (Some old)) Code.DeclaredTwice v.name.at in
          let i = earlier_first g u (earlier_second a (earlier g u) f) in
          let var = and_first (is_variable old.meaning) (not (nat_eq old.program program))
          (unless_none (may_declare program (Some old)) Code.DeclaredTwice v.name.at
          (earlier_first a (earlier g u) f)) in
          let there = m.there v.name.text old e var in
          subst (λ b. Tells (type_part more v.kind).after (cond b vs (vs ++ w ∷ [])) (ws ++ var_words v))
          (sym (any_some vs v.name.text there.0 there.1))
          (tell_type more vs ws v.kind known (tell_again names vs ws v.name.text old program t e) i)

  tell_variables : (names : Table) (vs : List Variable) (ws : Bindings) (program : ℕ) (ds : List Var) →
      All KnownVar ds → Mirrors names vs → Tells names vs ws → (run (variable_part program) names ds).fault ≡ None →
      Tells (run (variable_part program) names ds).after (with_declarations vs ds) (ws ++ flat_map var_words ds)
  tell_variables names vs ws program [] known m t h =
      subst (λ (x : Bindings). Tells names vs x) (sym (append-nil ws)) t
  tell_variables names vs ws program (v ∷ ds) known m t h =
      let p = variable_part program names v in
      let q = run (variable_part program) p.after ds in
      let first = earlier_first p.fault q.fault h in
      subst (λ (x : Bindings). Tells q.after (with_declarations (with_declaration vs v) ds) x)
      (append_assoc ws (var_words v) (flat_map var_words ds))
      (tell_variables p.after (with_declaration vs v) (ws ++ var_words v) program ds (All-tail KnownVar v ds known)
      (mirrored_by_variables names vs program (v ∷ []) m (ap (λ f. earlier f None) first))
      (tell_variable names vs ws program v (All-head KnownVar v ds known) m t first)
      (earlier_second p.fault q.fault h))

  tell_definitions : (names : Table) (vs : List Variable) (ws : Bindings) (program : ℕ) (ds : List Def) →
      Tells names vs ws → (always_part program names ds).fault ≡ None →
      Tells (always_part program names ds).after vs ws
  tell_definitions names vs ws program [] t h = t
  tell_definitions names vs ws program (d ∷ ds) t h =
      let r = read d.of (definition_scope program names (d ∷ ds)) in
      let a = unless (not (is_declared names d.name.text)) Code.DeclaredTwice d.name.at in
      let p = definition program names d.name r in
      let q = always_part program p.after ds in
      tell_definitions p.after vs ws program ds
      (tell_other names vs ws d.name.text (always_named program d.name.at r) t refl
      (none_here names d.name (earlier_first a r.fault (earlier_first p.fault q.fault h))))
      (earlier_second p.fault q.fault h)

  -- documents

  -- a table with its variables and its words
  pub record Told (names : Table) (vs : List Variable) (ws : Bindings) : Type 0 where
    pub mirrors : Mirrors names vs
    pub tells : Tells names vs ws

  tell_program : (d : Declared) (vs : List Variable) (ws : Bindings) (program : Program) →
      All KnownVar (declarations program) → Told d.names vs ws → (program_part d program).fault ≡ None →
      Told (program_part d program).after.names (with_declarations vs (declarations program))
      (ws ++ flat_map var_words (declarations program))
  tell_program d vs ws (Program.Union at name left right) known t h =
      subst (λ (x : Bindings). Told d.names vs x) (sym (append-nil ws)) t
  tell_program d vs ws (Program.Plain at name declare always initially start items) known t h =
      let a = (new_program d.programs name).fault in
      let p = run (variable_part name.at) d.names (items_of declare) in
      let q = always_part name.at p.after (items_of always) in
      let b = earlier p.fault q.fault in
      let body = program_body (program_scope name.at q.after) initially (some_of start) items d.labels in
      let c = earlier body.fault None in
      let i = earlier_first b c (earlier_second a (earlier b c) h) in
      let vf = earlier_first p.fault q.fault i in
      let af = earlier_second p.fault q.fault i in
      let now = with_declarations vs (items_of declare) in
      record {
        mirrors = mirrored_by_definitions p.after now name.at (items_of always)
            (mirrored_by_variables d.names vs name.at (items_of declare) t.mirrors vf) af;
        tells = tell_definitions p.after now (ws ++ flat_map var_words (items_of declare)) name.at (items_of always)
            (tell_variables d.names vs ws name.at (items_of declare) known t.mirrors t.tells vf) af;
      }

  tell_parts : (d : Declared) (vs : List Variable) (ws : Bindings) (parts : List DocumentPart) →
      All KnownVar (declared_by parts) → Told d.names vs ws → (run part_of d parts).fault ≡ None →
      Told (run part_of d parts).after.names (with_declarations vs (declared_by parts))
      (ws ++ enumeration_words parts)
  tell_parts d vs ws [] known t h = subst (λ (x : Bindings). Told d.names vs x) (sym (append-nil ws)) t
  tell_parts d vs ws (DocumentPart.Program at of ∷ parts) known t h =
      let p = program_part d of in
      let q = run part_of p.after parts in
      let split = All-split (declarations of) (declared_by parts) known in
      subst (λ (x : Bindings). Told q.after.names
      (with_declarations vs (declared_by (DocumentPart.Program at of ∷ parts))) x)
      (append_assoc ws (flat_map var_words (declarations of)) (enumeration_words parts))
      (subst (λ (us : List Variable). Told q.after.names us
      ((ws ++ flat_map var_words (declarations of)) ++ enumeration_words parts))
      (sym (with_declarations-append vs (declarations of) (declared_by parts)))
      (tell_parts p.after (with_declarations vs (declarations of)) (ws ++ flat_map var_words (declarations of)) parts
      split.1 (tell_program d vs ws of split.0 t (earlier_first p.fault q.fault h))
      (earlier_second p.fault q.fault h)))
    where
      All-split : (xs ys : List Var) → All KnownVar (xs ++ ys) → All KnownVar xs × All KnownVar ys
      All-split [] ys k = (All-nil KnownVar, k)
      All-split (x ∷ xs) ys k =
          let more = All-split xs ys (All-tail KnownVar x (xs ++ ys) k) in
          (All-cons KnownVar x xs (All-head KnownVar x (xs ++ ys) k) more.0, more.1)
  tell_parts d vs ws (DocumentPart.Proof at of ∷ parts) known t h =
      let p = part_of d (DocumentPart.Proof at of) in
      let q = run part_of p.after parts in
      tell_parts p.after vs ws parts known t (earlier_second p.fault q.fault h)

  pub told_documents : (parts : List DocumentPart) → All KnownVar (declared_by parts) →
      (run part_of nothing_declared parts).fault ≡ None →
      Told (run part_of nothing_declared parts).after.names (with_declarations [] (declared_by parts))
      (enumeration_words parts)
  told_documents parts known h = tell_parts nothing_declared [] [] parts known (record {
    mirrors = record { there = λ word n e var. cc e; back = λ word v e. cc e };
    tells = record {
      variables = λ word v e. cc e;
      words = λ word z e. cc e;
      ranged = λ word n v e f. cc e;
      valued = λ word n e k. cc e;
    };
  }) h
