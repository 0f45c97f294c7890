-- Each always name of a well-named document becomes exact, and constant where names say so: so its places agree.
use Rattle.std.proofs.Common.{◌≡◌, ℕ, ◌+◌, ℤ, List, [], ◌∷◌, ◌++◌, Bool, true, false, cond, not, Option, Some, None}
use Rattle.std.proofs.Common.{option_map, ◌⊎◌, inl, inr, refl, sym, ap, ◌∙◌, subst, length}
use Rattle.std.specs.List.{flat_map}
use Rattle.std.specs.Map.{lookup}
use Rattle.std.specs.Option.{option_or}
use Rattle.std.specs.Str.{bytes_eq}
use Rattle.case_tables.specs.declared.code_table.Code.{Code}
use Rattle.unity_syntax.specs.declared.name.Name.{Name}
use Rattle.unity_syntax.specs.declared.declaration.Plain.{Plain}
use Rattle.unity_syntax.specs.declared.declaration.VarType.{VarType}
use Rattle.unity_syntax.specs.declared.declaration.Var.{Var}
use Rattle.unity_syntax.specs.declared.declaration.Def.{Def}
use Rattle.unity_syntax.specs.declared.program.Program.{Program}
use Rattle.unity_syntax.specs.declared.document.Part.{Part as DocumentPart}
use Rattle.core_terms.specs.declared.trees.CTerm.TheVariants.{Slot}
use Rattle.expand_rules.specs.Measures.{ends_weight}
use Rattle.meaning_documents.specs.Names.{Bindings, Variable, slot_at}
use Rattle.meaning_documents.specs.Setting.{programs_among, definitions, setting_of}
use Rattle.names_rules.specs.declared.named.Sort.{Sort}
use Rattle.names_rules.specs.declared.named.Meaning.{Meaning}
use Rattle.names_rules.specs.declared.named.Named.{Named}
use Rattle.names_rules.specs.Scope.{Scope as NameScope, Table, is_param, is_variable, is_value, is_visible}
use Rattle.names_rules.specs.Scope.{visible, bound_named}
use Rattle.names_rules.specs.Reading.{earlier, unless, read}
use Rattle.names_rules.specs.Part.{run, quiet}
use Rattle.names_rules.specs.Declarations.{items_of, some_of, program_scope, with_named, is_declared, value_named}
use Rattle.names_rules.specs.Declarations.{is_repeated, repeated, enumerated, words_part, plain_part, type_part}
use Rattle.names_rules.specs.Declarations.{variable_named as named_here, declared, variable_part, always_named}
use Rattle.names_rules.specs.Declarations.{definition, definition_scope, always_part}
use Rattle.names_rules.specs.WellNamed.{Declared, nothing_declared, new_program, program_body, program_part, part_of}
use Rattle.meaning_documents.specs.Names.{variable_named}
use Rattle.names_laws.specs.VariableLaws.{Mirrors}
use Rattle.names_laws.specs.StayingLaws.{StaysIn}
use Rattle.names_laws.specs.AlwaysLaws.{is_always, IsAlwaysIn}
use Rattle.names_laws.specs.AttributeLaws.{VariesAsArray, ArraysVary}
use Rattle.names_laws.proofs.AttributeTheorems.{exact_where_faultless}
use Rattle.names_rules.proofs.Faults.{earlier_first, earlier_second, unless_none}
use Rattle.names_laws.proofs.AttributeTheorems.{constant_as_read, variables_vary, definitions_vary}
use Rattle.names_laws.proofs.Inserts.{same_bytes, bytes_same, added, found_added, kept_beside, chosen, taken, skipped}
use Rattle.names_laws.proofs.Mirrored.{not_some, mirrored_by_documents}
use Rattle.names_laws.proofs.Staying.{stays_in_documents, stays_in_definitions}
use Rattle.names_laws.proofs.Tables.{Each, each_document}
use Rattle.expand_rules.specs.declared.cores.Bound.{Bound}
use Rattle.expand_rules.specs.declared.cores.Formed.{Formed}
use Rattle.expand_rules.specs.Forming.{Scope, as_truth, typed, varying, number_constant, bound_formed}
use Rattle.expand_rules.specs.Forming.{variable_formed, formed_or_zero, word_formed, formed}
use Rattle.expand_rules.specs.Documents.{with_formed, scope_of, within}
use Rattle.expand_correct.specs.Values.ExactLaws.{Agrees}
use Rattle.expand_correct.specs.Values.DocumentExact.{BindsAlike, DocumentAgrees}
use Rattle.expand_correct.proofs.Values.Exactness.{expressions_exact, expressions_constant}

-- a word of a table varies, or is an always name or a word of an enumeration
abbrev Kind : Named → Type 0
Kind n = (n.constant ≡ false) ⊎ ((is_always n.meaning ≡ true) ⊎ (is_value n.meaning ≡ true))

kinds : (parts : List DocumentPart) → Each Kind (run part_of nothing_declared parts).after.names
kinds parts = each_document Kind (λ program names v. inl refl) (λ n program k. k) (λ sort number. inr (inr refl))
    (λ program at r. inr (inl refl)) nothing_declared parts (λ word n e. cc e)

-- words stand for always names by this list
abbrev Always : Type 0
Always = List (List ℕ × Formed)

-- an always name has become something, which is constant where names say so
abbrev Has : Always → List ℕ → Named → Type 0
Has A word n = is_always n.meaning ≡ true → (f : Formed) × (lookup (bytes_eq word) A ≡ Some f) ×
    (n.constant ≡ true → f.constant ≡ true)

abbrev HasAll : Table → Always → Type 0
HasAll names A = (word : List ℕ) (n : Named) → lookup (bytes_eq word) names ≡ Some n → Has A word n

-- what a word becomes is exact, and the word is an always name in the end
abbrev Sound : Table → Always → Type 0
Sound final A = (word : List ℕ) (f : Formed) → lookup (bytes_eq word) A ≡ Some f → (f.exact ≡ true) × IsAlwaysIn final
    word

-- declarations of variables

module _ (A : Always) where
  has_with : (names : Table) (word : List ℕ) (n : Named) → HasAll names A → Has A word n → HasAll
      (with_named names word n) A
  has_with names word n all h other m e = elim (added names word other n m e) as (λ x. Has A other m) [
    | inl new ↦ subst (λ w. Has A w m) (sym new.1) (subst (λ x. Has A word x) (sym new.0) h)
    | inr old ↦ all other m old
  ]

  has_enumerated : (sort : Sort) (number : ℕ) (names : Table) (ws : List Name) → HasAll names A → HasAll
      (enumerated sort number names ws).after A
  has_enumerated sort number names [] all = all
  has_enumerated sort number names (w ∷ ws) all = has_enumerated sort (number + 1)
      (with_named names w.text (value_named sort number)) ws
      (has_with names w.text (value_named sort number) all (λ h. cc h))

  has_words : (names : Table) (first : Name) (rest : List Name) → HasAll names A → HasAll
      (words_part names first rest).after A
  has_words names first rest all = by (is_repeated names first rest)
    where
      by : (b : Bool) → HasAll (cond b (quiet names (repeated 0 (first ∷ rest)))
          (enumerated (Sort.Words first.at (length rest)) 0 names (first ∷ rest))).after A
      by true = all
      by false = has_enumerated (Sort.Words first.at (length rest)) 0 names (first ∷ rest) all

  has_plain : (names : Table) (of : Plain) → HasAll names A → HasAll (plain_part names of).after A
  has_plain names (Plain.Boolean at) all = all
  has_plain names (Plain.Range at range) all = all
  has_plain names (Plain.Words at first rest) all = has_words names first rest all

  has_type : (names : Table) (kind : VarType) → HasAll names A → HasAll (type_part names kind).after A
  has_type names (VarType.Plain at of) all = has_plain names of all
  has_type names (VarType.Array at range of) all = has_plain names of all

  has_declared : (word : List ℕ) (old : Option Named) (new : Named) → ((n : Named) → old ≡ Some n → Has A word n) →
      Has
      A word new → Has A word (declared new old)
  has_declared word None new known h = h
  has_declared word (Some n) new known h = known n refl

  has_variables : (program : ℕ) (names : Table) (vs : List Var) → HasAll names A → HasAll
      (run (variable_part program) names vs).after A
  has_variables program names [] all = all
  has_variables program names (v ∷ vs) all =
      let new = named_here program names v in
      let old = lookup (bytes_eq v.name.text) names in
      has_variables program (variable_part program names v).after vs
      (has_type (with_named names v.name.text (declared new old)) v.kind
      (has_with names v.name.text (declared new old) all
      (has_declared v.name.text old new (λ n e. all v.name.text n e) (λ h. cc h))))

-- a word, where always names stand for these

module _ (final : Table) (variables : List Variable) (words : Bindings) (kinds_are : Each Kind final)
    (mirrors : Mirrors final variables) where
  abbrev scope_by : Always → List (List ℕ × Bound) → Scope
  scope_by A bs = record { variables = variables; words = words; always = A; bound = bs }

  typed_exact : (b : Bool) (a : Formed) → a.exact ≡ true → (cond b (as_truth a) a).exact ≡ true
  typed_exact true a h = h
  typed_exact false a h = h

  abbrev ExactOr : Option Formed → Type 0
  ExactOr None = Unit {0}
  ExactOr (Some a) = a.exact ≡ true

  or_exact : (a b : Option Formed) → ExactOr a → ExactOr b → ExactOr (option_or a b)
  or_exact None b h i = i
  or_exact (Some a) b h i = h

  zero_exact : (a : Option Formed) → ExactOr a → (formed_or_zero a).exact ≡ true
  zero_exact None h = refl
  zero_exact (Some a) h = h

  bound_exact : (m : Option Bound) → ExactOr (option_map bound_formed m)
  bound_exact None = tt
  bound_exact (Some (Bound.Number z)) = refl
  bound_exact (Some (Bound.Param n weight)) = refl

  variable_exact : (m : Option Variable) → ExactOr (variable_formed m)
  variable_exact None = tt
  variable_exact (Some v) = by v.indices
    where
      by : (o : Option (ℤ × ℤ)) → ExactOr (option_map (λ slot. typed v (varying (Slot slot) (ends_weight v.range)))
          (slot_at v.first o None))
      by None = typed_exact v.is_truth (varying (Slot v.first) (ends_weight v.range)) refl
      by (Some r) = tt

  value_exact : (m : Option ℤ) → ExactOr (option_map number_constant m)
  value_exact None = tt
  value_exact (Some z) = refl

  always_exact : (A : Always) → Sound final A → (word : List ℕ) (m : Option Formed) → lookup (bytes_eq word) A ≡ m →
      ExactOr m
  always_exact A s word None e = tt
  always_exact A s word (Some f) e = (s word f e).0

  word_exact : (A : Always) (bs : List (List ℕ × Bound)) → Sound final A → (word : List ℕ) →
      (word_formed (scope_by A bs) word).exact ≡ true
  word_exact A bs s word = zero_exact _ (or_exact _ _ (bound_exact (lookup (bytes_eq word) bs))
      (or_exact _ _ (always_exact A s word (lookup (bytes_eq word) A) refl)
      (or_exact _ _ (variable_exact (variable_named word variables)) (value_exact (lookup (bytes_eq word) words)))))

  value_constant : (m : Option ℤ) → (formed_or_zero (option_map number_constant m)).constant ≡ true
  value_constant None = refl
  value_constant (Some z) = refl

  -- a word of an enumeration is neither an always name nor a variable
  no_always : (A : Always) → Sound final A → (word : List ℕ) (n : Named) → lookup (bytes_eq word) final ≡ Some n →
      is_value n.meaning ≡ true →
      (m : Option Formed) → lookup (bytes_eq word) A ≡ m → m ≡ None
  no_always A s word n e h None f = refl
  no_always A s word n e h (Some a) f =
      let k = (s word a f).1 in let same : k.0 ≡ n = some_same (sym k.1 ∙ e) in
      absurd (not_both n.meaning (subst (λ x. is_always x.meaning ≡ true) same k.2) h)
    where
      some_same : {x y : Named} → Some x ≡ Some y → x ≡ y
      some_same q = cc q

      not_both : (x : Meaning) → is_always x ≡ true → is_value x ≡ true → ⊥
      not_both (Meaning.Always at) i j = cc j
      not_both (Meaning.Value number) i j = cc i
      not_both (Meaning.Variable at) i j = cc i
      not_both (Meaning.Bound at) i j = cc i
      not_both (Meaning.Param number) i j = cc i
      not_both (Meaning.Program at) i j = cc i

  no_variable : (word : List ℕ) (n : Named) → lookup (bytes_eq word) final ≡ Some n → is_value n.meaning ≡ true →
      (m : Option Variable) → variable_named word variables ≡ m → m ≡ None
  no_variable word n e h None f = refl
  no_variable word n e h (Some v) f =
      let k = mirrors.back word v f in let same : k.0 ≡ n = some_same (sym k.1 ∙ e) in
      absurd (not_both n.meaning (subst (λ x. is_variable x.meaning ≡ true) same k.2) h)
    where
      some_same : {x y : Named} → Some x ≡ Some y → x ≡ y
      some_same q = cc q

      not_both : (x : Meaning) → is_variable x ≡ true → is_value x ≡ true → ⊥
      not_both (Meaning.Variable at) i j = cc j
      not_both (Meaning.Value number) i j = cc i
      not_both (Meaning.Always at) i j = cc i
      not_both (Meaning.Bound at) i j = cc i
      not_both (Meaning.Param number) i j = cc i
      not_both (Meaning.Program at) i j = cc i

  -- a declared word, that is not bound here
  declared_constant : (A : Always) (bs : List (List ℕ × Bound)) (names : Table) → StaysIn names final → HasAll names A
      → Sound final A →
      (word : List ℕ) (n : Named) → lookup (bytes_eq word) bs ≡ None → lookup (bytes_eq word) names ≡ Some n →
      n.constant ≡ true →
      (word_formed (scope_by A bs) word).constant ≡ true
  declared_constant A bs names stays has sound word n free e c =
      let k = stays word n e in
      let kind = kinds_are word (record n { program = k.0 }) k.1 in
      subst (λ (b : Option Bound). (formed_or_zero (option_or (option_map bound_formed b)
      (option_or (lookup (bytes_eq word) A)
      (option_or (variable_formed (variable_named word variables))
      (option_map number_constant (lookup (bytes_eq word) words)))))).constant ≡ true) (sym free)
      (elim kind as (λ x. (formed_or_zero (option_or (lookup (bytes_eq word) A)
      (option_or (variable_formed (variable_named word variables))
      (option_map number_constant (lookup (bytes_eq word) words))))).constant ≡ true) [
        | inl varies ↦ absurd (cc (c, varies))
        | inr rest ↦ elim rest as (λ x. (formed_or_zero (option_or (lookup (bytes_eq word) A)
            (option_or (variable_formed (variable_named word variables))
            (option_map number_constant (lookup (bytes_eq word) words))))).constant ≡ true) [
              | inl always ↦ let f = has word n e always in
                  subst (λ (a : Option Formed). (formed_or_zero (option_or a
                  (option_or (variable_formed (variable_named word variables))
                  (option_map number_constant (lookup (bytes_eq word) words))))).constant ≡ true)
                  (sym f.1) (f.2 c)
              | inr value ↦
                  let a = no_always A sound word (record n { program = k.0 }) k.1 value (lookup (bytes_eq word) A)
                  refl in
                  let v = no_variable word (record n { program = k.0 }) k.1 value (variable_named word variables) refl
                  in
                  subst (λ (x : Option Formed). (formed_or_zero (option_or x
                  (option_or (variable_formed (variable_named word variables))
                  (option_map number_constant (lookup (bytes_eq word) words))))).constant ≡ true) (sym a)
                  (subst (λ (y : Option Variable). (formed_or_zero
                  (option_or (variable_formed y) (option_map number_constant
                  (lookup (bytes_eq word) words)))).constant
                  ≡ true) (sym v)
                  (value_constant (lookup (bytes_eq word) words)))
            ]
      ])

  -- names and expansion agree, where always names stand for these
  agrees_by : (A : Always) (n : NameScope) (bs : List (List ℕ × Bound)) → StaysIn n.names final → HasAll n.names A →
      Sound final A → BindsAlike n bs →
      Agrees n (scope_by A bs)
  agrees_by A n bs stays has sound binds = record {
    bounds = binds.numbers;
    constant = λ word named e c. by_bounds word named c (lookup (bytes_eq word) n.bounds) refl
        (lookup (bytes_eq word) n.params) refl e;
    exact = word_exact A bs sound;
  }
    where
      seen : (word : List ℕ) (named : Named) (m : Option Named) → visible n.program m ≡ Some named → m ≡ Some named
      seen word named None e = cc e
      seen word named (Some x) e = elim (is_visible n.program x) as
          (λ b. cond b (Some x) None ≡ Some named → Some x ≡ Some named) [
            | true ↦ λ q. q
            | false ↦ λ q. cc q
          ] e

      not_false : (b : Bool) → not b ≡ true → b ≡ false
      not_false true i = cc i
      not_false false i = refl

      by_bounds : (word : List ℕ) (named : Named) → named.constant ≡ true → (o : Option Meaning) → lookup
          (bytes_eq word) n.bounds ≡ o →
          (p : Option ℕ) → lookup (bytes_eq word) n.params ≡ p →
          option_or (option_map bound_named (lookup (bytes_eq word) n.bounds))
          (option_or (option_map (λ number. bound_named (Meaning.Param number)) (lookup (bytes_eq word) n.params))
          (visible n.program (lookup (bytes_eq word) n.names))) ≡ Some named →
          (word_formed (scope_by A bs) word).constant ≡ true
      by_bounds word named c (Some m) b p q e =
          let same : bound_named m ≡ named = named_same (sym (ap
          (λ x. option_or (option_map bound_named x) (option_or
          (option_map (λ number. bound_named (Meaning.Param number)) (lookup (bytes_eq word) n.params))
          (visible n.program (lookup (bytes_eq word) n.names)))) b) ∙ e) in
          let found = binds.numbers word m b (not_false (is_param m) (subst (λ x. x.constant ≡ true) (sym same) c)) in
          subst (λ (x : Option Bound). (formed_or_zero (option_or (option_map bound_formed x)
          (option_or (lookup (bytes_eq word) A)
          (option_or (variable_formed (variable_named word variables))
          (option_map number_constant (lookup (bytes_eq word) words)))))).constant ≡ true) (sym found.1) refl
        where
          named_same : {x y : Named} → Some x ≡ Some y → x ≡ y
          named_same z = cc z
      by_bounds word named c None b (Some k) q e =
          let same : Some (bound_named (Meaning.Param k)) ≡ Some named = sym
          (ap (λ x. option_or (option_map bound_named x) (option_or
          (option_map (λ number. bound_named (Meaning.Param number)) (lookup (bytes_eq word) n.params))
          (visible n.program (lookup (bytes_eq word) n.names)))) b
          ∙ ap (λ x. option_or (option_map (λ number. bound_named (Meaning.Param number)) x)
          (visible n.program (lookup (bytes_eq word) n.names))) q) ∙ e in
          absurd (cc (same, c))
      by_bounds word named c None b None q e =
          let there : visible n.program (lookup (bytes_eq word) n.names) ≡ Some named = sym
          (ap (λ x. option_or (option_map bound_named x) (option_or
          (option_map (λ number. bound_named (Meaning.Param number)) (lookup (bytes_eq word) n.params))
          (visible n.program (lookup (bytes_eq word) n.names)))) b
          ∙ ap (λ x. option_or (option_map (λ number. bound_named (Meaning.Param number)) x)
          (visible n.program (lookup (bytes_eq word) n.names))) q) ∙ e in
          declared_constant A bs n.names stays has sound word named (binds.free word b q)
          (seen word named (lookup (bytes_eq word) n.names) there) c

-- definitions in turn

stays_same : (names : Table) → StaysIn names names
stays_same names word n e = (n.program, e)

stays_on : (a b c : Table) → StaysIn a b → StaysIn b c → StaysIn a c
stays_on a b c s t word n e = let k = s word n e in t word (record n { program = k.0 }) k.1

stays_fresh : (names : Table) (word : List ℕ) (n : Named) → lookup (bytes_eq word) names ≡ None →
    StaysIn names (with_named names word n)
stays_fresh names word n none other m e = (m.program, kept_beside names word other n m none e)

stays_always : (names later : Table) (word : List ℕ) → StaysIn names later → IsAlwaysIn names word → IsAlwaysIn later
    word
stays_always names later word stays k = let s = stays word k.0 k.1 in (record k.0 { program = s.0 }, s.1, k.2)

-- what holds of the always names so far
record Made (final names : Table) (A : Always) : Type 0 where
  has : HasAll names A
  sound : Sound final A

module _ (final : Table) (variables : List Variable) (words : Bindings) (kinds_are : Each Kind final)
    (mirrors : Mirrors final variables) where
  abbrev at : Always → Scope
  at A = record { variables = variables; words = words; always = A; bound = [] }

  -- one definition
  made_more : (program : ℕ) (names : Table) (d : Def) (ds : List Def) (A : Always) → ArraysVary names →
      (definition program names d.name (read d.of (definition_scope program names (d ∷ ds)))).fault ≡ None →
      StaysIn (definition program names d.name (read d.of (definition_scope program names (d ∷ ds)))).after final →
      Made final names A →
      Made final (definition program names d.name (read d.of (definition_scope program names (d ∷ ds)))).after
      ((d.name.text, formed d.of (at A)) ∷ A)
  made_more program names d ds A vary fault stays m =
      let n = definition_scope program names (d ∷ ds) in
      let r = read d.of n in
      let word = d.name.text in
      let named = always_named program d.name.at r in
      let u = unless (not (is_declared names word)) Code.DeclaredTwice d.name.at in
      let none : lookup (bytes_eq word) names ≡ None = not_some (lookup (bytes_eq word) names)
      (unless_none (not (is_declared names word)) Code.DeclaredTwice d.name.at (earlier_first u r.fault fault)) in
      let fine = earlier_second u r.fault fault in
      let before = stays_on names (with_named names word named) final (stays_fresh names word named none) stays in
      let agree : Agrees n (at A) = agrees_by final variables words kinds_are mirrors A n [] before m.has m.sound
      (record { numbers = λ w x e. cc e; free = λ w e f. refl }) in
      let f = formed d.of (at A) in
      let exact : f.exact ≡ true = expressions_exact d.of n (at A) agree (exact_where_faultless d.of n vary fine) in
      let constant : r.constant ≡ true → f.constant ≡ true = λ c. expressions_constant d.of n (at A) agree
      (constant_as_read d.of n vary fine ∙ c) in
      record {
        has = λ other x e. elim (added names word other named x e) as (λ q. Has ((word, f) ∷ A) other x) [
          | inl new ↦ λ h. (
            f,
            taken (bytes_eq other word) f (lookup (bytes_eq other) A) (bytes_same other word new.1),
            λ c. constant (subst (λ y. y.constant ≡ true) new.0 c),
          )
          | inr old ↦ λ h.
              let k = m.has other x old h in
              (k.0, beside_new other x old (bytes_eq other word) refl none f k.0 k.1, k.2)
        ];
        sound = λ other g e. elim (chosen (bytes_eq other word) f g (lookup (bytes_eq other) A) e) as
            (λ q. (g.exact ≡ true) × IsAlwaysIn final other) [
              | inl new ↦ (
                ap (λ (y : Formed). y.exact) new.1 ∙ exact,
                stays_always (with_named names word named) final other stays
                    (subst (λ w. IsAlwaysIn (with_named names word named) w) (sym (same_bytes other word new.0))
                    (named, found_added names word named, refl)),
              )
              | inr old ↦ m.sound other g old.1
            ];
      }
    where
      beside_new : (other : List ℕ) (x : Named) → lookup (bytes_eq other) names ≡ Some x → (b : Bool) → bytes_eq other
          d.name.text ≡ b →
          lookup (bytes_eq d.name.text) names ≡ None → (f g : Formed) → lookup (bytes_eq other) A ≡ Some g →
          lookup (bytes_eq other) ((d.name.text, f) ∷ A) ≡ Some g
      beside_new other x e true b none f g h =
          let w : other ≡ d.name.text = same_bytes other d.name.text b in
          absurd (cc (sym none ∙ ap (λ y. lookup (bytes_eq y) names) (sym w) ∙ e))
      beside_new other x e false b none f g h = skipped (bytes_eq other d.name.text) f (lookup (bytes_eq other) A) b ∙
          h

  made_definitions : (program : ℕ) (names : Table) (ds : List Def) (A : Always) → ArraysVary names →
      (always_part program names ds).fault ≡ None →
      StaysIn (always_part program names ds).after final → Made final names A →
      Made final (always_part program names ds).after (with_formed (at A) ds).always
  made_definitions program names [] A vary fault stays m = m
  made_definitions program names (d ∷ ds) A vary fault stays m =
      let p = definition program names d.name (read d.of (definition_scope program names (d ∷ ds))) in
      let q = always_part program p.after ds in
      let rest = earlier_second p.fault q.fault fault in
      let on = stays_on p.after q.after final (stays_in_definitions p.after program ds rest) stays in
      made_definitions program p.after ds ((d.name.text, formed d.of (at A)) ∷ A)
      (definition_varies program names d ds vary) rest stays
      (made_more program names d ds A vary (earlier_first p.fault q.fault fault) on m)
    where
      definition_varies : (program : ℕ) (names : Table) (d : Def) (ds : List Def) → ArraysVary names →
          ArraysVary (definition program names d.name (read d.of (definition_scope program names (d ∷ ds)))).after
      definition_varies program names d ds vary other x e =
          let named = always_named program d.name.at (read d.of (definition_scope program names (d ∷ ds))) in
          let fresh : VariesAsArray named = λ h. cc h in
          elim (added names d.name.text other named x e) as (λ q. VariesAsArray x) [
            | inl new ↦ subst (λ y. VariesAsArray y) (sym new.0) fresh
            | inr old ↦ vary other x old
          ]

  -- a program, after which no array is constant either
  varies_program : (d : Declared) (program : Program) → ArraysVary d.names → ArraysVary
      (program_part d program).after.names
  varies_program d (Program.Union place name left right) vary = vary
  varies_program d (Program.Plain place name declare always initially start items) vary =
      definitions_vary name.at (run (variable_part name.at) d.names (items_of declare)).after (items_of always)
      (variables_vary name.at d.names (items_of declare) vary)

  made_program : (d : Declared) (program : Program) (A : Always) → ArraysVary d.names → (program_part d program).fault
      ≡ None →
      StaysIn (program_part d program).after.names final → Made final d.names A →
      Made final (program_part d program).after.names (with_formed (at A) (definitions program)).always
  made_program d (Program.Union place name left right) A vary h stays m = m
  made_program d (Program.Plain place name declare always initially start items) A vary h stays m =
      let a = (new_program d.programs name).fault in
      let p = run (variable_part name.at) d.names (items_of declare) in
      let q = always_part name.at p.after (items_of always) in
      let b = earlier p.fault q.fault in
      let body = program_body (program_scope name.at q.after) initially (some_of start) items d.labels in
      let c = earlier body.fault None in
      let i = earlier_first b c (earlier_second a (earlier b c) h) in
      made_definitions name.at p.after (items_of always) A (variables_vary name.at d.names (items_of declare) vary)
      (earlier_second p.fault q.fault i) stays
      (record { has = has_variables A name.at d.names (items_of declare) m.has; sound = m.sound })

  -- nothing but the always names grows
  only_always : (ds : List Def) (A : Always) → with_formed (at A) ds ≡ at (with_formed (at A) ds).always
  only_always [] A = refl
  only_always (d ∷ ds) A = only_always ds ((d.name.text, formed d.of (at A)) ∷ A)

  formed_on : (s : Scope) (ds more : List Def) → with_formed s (ds ++ more) ≡ with_formed (with_formed s ds) more
  formed_on s [] more = refl
  formed_on s (d ∷ ds) more = formed_on (record s { always = (d.name.text, formed d.of s) ∷ s.always }) ds more

  -- the parts of a document
  made_parts : (d : Declared) (parts : List DocumentPart) (A : Always) → ArraysVary d.names →
      (run part_of d parts).fault ≡ None →
      StaysIn (run part_of d parts).after.names final → Made final d.names A →
      Made final (run part_of d parts).after.names (with_formed (at A)
      (flat_map definitions (programs_among parts))).always
  made_parts d [] A vary h stays m = m
  made_parts d (DocumentPart.Program place of ∷ parts) A vary h stays m =
      let p = program_part d of in
      let q = run part_of p.after parts in
      let rest = earlier_second p.fault q.fault h in
      let on = stays_on p.after.names q.after.names final (stays_in_documents p.after parts rest) stays in
      let more = flat_map definitions (programs_among parts) in
      let B = (with_formed (at A) (definitions of)).always in
      subst (λ (s : Scope). Made final q.after.names s.always)
      (ap (λ (s : Scope). with_formed s more) (sym (only_always (definitions of) A)) ∙ sym
      (formed_on (at A) (definitions of) more))
      (made_parts p.after parts B (varies_program d of vary) rest stays
      (made_program d of A vary (earlier_first p.fault q.fault h) on m))
  made_parts d (DocumentPart.Proof place of ∷ parts) A vary h stays m =
      let p = part_of d (DocumentPart.Proof place of) in
      let q = run part_of p.after parts in
      made_parts p.after parts A vary (earlier_second p.fault q.fault h) stays m

has_before : (names final : Table) (A : Always) → StaysIn names final → HasAll final A → HasAll names A
has_before names final A stays has word n e h =
    let k = stays word n e in has word (record n { program = k.0 }) k.1 h

pub document_agrees : DocumentAgrees
document_agrees parts fault n bs stays binds =
    let final = (run part_of nothing_declared parts).after.names in
    let g = setting_of (programs_among parts) in
    let same = mirrored_by_documents parts fault in
    let A = (scope_of (programs_among parts)).always in
    let m = made_parts final g.variables g.words (kinds parts) same nothing_declared parts [] (λ word x e. cc e) fault
    (stays_same final) (record { has = λ word x e. cc e; sound = λ word f e. cc e }) in
    subst (λ (s : Scope). Agrees n (within s bs)) (sym (only_always final g.variables g.words (kinds parts) same
    g.always []))
    (agrees_by final g.variables g.words (kinds parts) same A n bs stays (has_before n.names final A stays m.has)
    m.sound binds)
