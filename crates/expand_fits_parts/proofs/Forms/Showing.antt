-- The expressions of a program see only the slots that the program shows.
use Rattle.std.proofs.Common.{◌≡◌, ℕ, List, [], ◌∷◌, Bool, true, false, cond, not, ◌||◌, Option, Some, None}
use Rattle.std.proofs.Common.{option_map, inl, inr, refl, sym, ap, ◌∙◌, subst, nat_eq}
use Rattle.std.specs.Map.{lookup}
use Rattle.std.specs.Option.{is_some, option_or}
use Rattle.std.specs.Str.{bytes_eq}
use Rattle.std.proofs.lemmas.Bool.{eqb-true}
use Rattle.indexmap.specs.IndexMap.{insert_entry}
use Rattle.case_tables.specs.declared.code_table.Code.{Code}
use Rattle.unity_syntax.specs.declared.declaration.Var.{Var}
use Rattle.unity_syntax.specs.declared.declaration.Def.{Def}
use Rattle.meaning_documents.specs.Names.{Bindings, Variable}
use Rattle.names_rules.specs.declared.named.Meaning.{Meaning}
use Rattle.names_rules.specs.declared.named.Named.{Named}
use Rattle.names_rules.specs.Scope.{Table, is_variable, is_value, is_visible, visible}
use Rattle.names_rules.specs.Reading.{unless, read}
use Rattle.names_rules.specs.Declarations.{with_named, is_declared, always_named, definition}
use Rattle.names_rules.specs.Declarations.{definition_scope, always_part}
use Rattle.meaning_documents.specs.Names.{variable_named}
use Rattle.names_laws.specs.VariableLaws.{Mirrors}
use Rattle.names_laws.specs.StayingLaws.{StaysIn}
use Rattle.names_laws.specs.AlwaysLaws.{is_always, IsAlwaysIn}
use Rattle.names_rules.proofs.Faults.{earlier_first, earlier_second, unless_none}
use Rattle.names_laws.proofs.Inserts.{added, found_added, kept_beside}
use Rattle.names_laws.proofs.Mirrored.{not_some}
use Rattle.names_laws.proofs.Staying.{stays_in_definitions}
use Rattle.core_terms.specs.Conditions.{any_place}
use Rattle.expand_rules.specs.declared.cores.Formed.{Formed}
use Rattle.expand_rules.specs.Forming.{Scope, variable_formed, number_constant, formed}
use Rattle.expand_fits_parts.specs.Forms.Naming.{WordTest, SlotsPass, SeesOnly}
use Rattle.expand_fits_parts.specs.Forms.Visible.{FoundPass}
use Rattle.expand_fits_parts.specs.Forms.Placing.{declares}
use Rattle.expand_fits_parts.proofs.Forms.NamedForms.{Fine, expressions_name}
use Rattle.expand_fits_parts.proofs.Forms.ReadWords.{expressions_read}
use Rattle.expand_fits_parts.proofs.Forms.Scopes.{or_fine, zero_fine, variable_fine, value_fine, always_fine}
use Rattle.expand_fits_parts.proofs.Forms.Scopes.{found_after}
use Rattle.expand_fits_parts.proofs.Forms.Scopes.{inserted_found}
use Rattle.expand_fits_parts.proofs.Forms.Declaring.{hold_with}

abbrev pub Always : Type 0
Always = List (List ℕ × Formed)

-- words that are visible in a program
abbrev pub seen : ℕ → Table → WordTest
seen p names word = is_some (visible (Some p) (lookup (bytes_eq word) names))

seen_found : (m : Option Named) (n : Named) → m ≡ Some n → is_some m ≡ true
seen_found None n e = cc e
seen_found (Some x) n e = refl

pub found_seen : (p : ℕ) (names : Table) (pending : List (List ℕ)) →
    FoundPass (record { names = names; params = []; bounds = []; pending = pending; program = Some p }) (seen p names)
    (seen p names)
found_seen p names pending = record {
  words = λ word m e. seen_found (visible (Some p) (lookup (bytes_eq word) names)) m e;
  variables = λ word m e h. seen_found (visible (Some p) (lookup (bytes_eq word) names)) m e;
}

-- a visible word is an entry of the table that is visible
visible_entry : (p : ℕ) (m : Option Named) → is_some (visible (Some p) m) ≡ true →
    (n : Named) × (m ≡ Some n) × (is_visible (Some p) n ≡ true)
visible_entry p None h = cc h
visible_entry p (Some n) h = (n, refl, by (is_visible (Some p) n) h)
  where
    by : (b : Bool) → is_some (cond b (Some n) None) ≡ true → b ≡ true
    by true k = refl
    by false k = cc k

-- what is visible and no word of an enumeration is declared by the program
own_program : (p : ℕ) (n : Named) → is_value n.meaning ≡ false → is_visible (Some p) n ≡ true → n.program ≡ p
own_program p n v h = eqb-true n.program p (by (is_value n.meaning) v h)
  where
    by : (b : Bool) → b ≡ false → (b || nat_eq n.program p) ≡ true → nat_eq n.program p ≡ true
    by true e k = cc e
    by false e k = k

pub variable_no_value : (m : Meaning) → is_variable m ≡ true → is_value m ≡ false
variable_no_value (Meaning.Variable at) h = refl
variable_no_value (Meaning.Value number) h = cc h
variable_no_value (Meaning.Always at) h = refl
variable_no_value (Meaning.Bound at) h = refl
variable_no_value (Meaning.Param number) h = refl
variable_no_value (Meaning.Program at) h = refl

pub always_no_value : (m : Meaning) → is_always m ≡ true → is_value m ≡ false
always_no_value (Meaning.Always at) h = refl
always_no_value (Meaning.Value number) h = cc h
always_no_value (Meaning.Variable at) h = refl
always_no_value (Meaning.Bound at) h = refl
always_no_value (Meaning.Param number) h = refl
always_no_value (Meaning.Program at) h = refl

-- a variable of this program is among these
abbrev pub Owned : ℕ → List Var → List ℕ → Named → Type 0
Owned p own word n = is_variable n.meaning ≡ true → n.program ≡ p → declares own word ≡ true

some_same : {x y : Named} → Some x ≡ Some y → x ≡ y
some_same e = cc e

abbrev pub scope_by : List Variable → Bindings → Always → Scope
scope_by vs values A = record { variables = vs; words = values; always = A; bound = [] }

-- what always names stand for after definitions
abbrev pub defined : List Variable → Bindings → Always → List Def → Always
defined vs values A [] = A
defined vs values A (d ∷ ds) =
    defined vs values (insert_entry bytes_eq A d.name.text (formed d.of (scope_by vs values A))) ds

-- each of these is an always name in the end
abbrev pub Sound : Table → Always → Type 0
Sound final A = (word : List ℕ) (a : Formed) → lookup (bytes_eq word) A ≡ Some a → IsAlwaysIn final word

-- an always name of the end
sound_more : (final names : Table) (A : Always) (name : List ℕ) (n : Named) (a : Formed) →
    is_always n.meaning ≡ true → StaysIn (with_named names name n) final → Sound final A →
    Sound final (insert_entry bytes_eq A name a)
sound_more final names A name n a kind stays sound word b e = elim (found_after A name word a b e)
    as (λ x. IsAlwaysIn final word) [
      | inl new ↦ let k = stays name n (found_added names name n) in
          subst (λ w. IsAlwaysIn final w) (sym new.1) (record n { program = k.0 }, k.1, kind)
      | inr old ↦ sound word b old
    ]

pub stays_before : (final : Table) (p : ℕ) (names : Table) (ds : List Def) → (always_part p names ds).fault ≡ None →
    StaysIn (always_part p names ds).after final → StaysIn names final
stays_before final p names ds f s word m e =
    let k = stays_in_definitions names p ds f word m e in
    s word (record m { program = k.0 }) k.1

-- after the definitions of any program
pub sound_definitions : (final : Table) (vs : List Variable) (values : Bindings) (p : ℕ) (names : Table) (A : Always)
    (ds : List Def) → (always_part p names ds).fault ≡ None → StaysIn (always_part p names ds).after final →
    Sound final A → Sound final (defined vs values A ds)
sound_definitions final vs values p names A [] fault stays sound = sound
sound_definitions final vs values p names A (d ∷ ds) fault stays sound =
    let r = read d.of (definition_scope p names (d ∷ ds)) in
    let new = always_named p d.name.at r in
    let first = (definition p names d.name r).fault in
    let after = with_named names d.name.text new in
    let rest = (always_part p after ds).fault in
    let later = earlier_second first rest fault in
    sound_definitions final vs values p after
    (insert_entry bytes_eq A d.name.text (formed d.of (scope_by vs values A))) ds later stays
    (sound_more final names A d.name.text new (formed d.of (scope_by vs values A)) refl
    (stays_before final p after ds later stays) sound)

module _ (final : Table) (vs : List Variable) (values : Bindings) (mirrors : Mirrors final vs) (p : ℕ)
    (own : List Var) (slots : ℕ → Bool)
    (shown : (name : List ℕ) (v : Variable) → variable_named name vs ≡ Some v → declares own name ≡ true →
    SlotsPass slots v v.indices) where
  -- the always names of this program name only its slots
  abbrev pub Kept : Table → Always → Type 0
  Kept names A = (word : List ℕ) (n : Named) (a : Formed) → lookup (bytes_eq word) names ≡ Some n → n.program ≡ p →
      lookup (bytes_eq word) A ≡ Some a → Fine slots any_place a

  -- what a word is in the end it is here
  pub same_kind : (names : Table) → StaysIn names final → (word : List ℕ) (n m : Named) →
      lookup (bytes_eq word) names ≡ Some n → lookup (bytes_eq word) final ≡ Some m → m.meaning ≡ n.meaning
  same_kind names stays word n m e f =
      let k = stays word n e in
      ap (λ (x : Named). x.meaning) (some_same (sym f ∙ k.1))

  module _ (names : Table) (A : Always) (stays : StaysIn names final) (sound : Sound final A)
      (owned : (word : List ℕ) (n : Named) → lookup (bytes_eq word) names ≡ Some n → Owned p own word n)
      (kept : Kept names A) where
    variable_shown : (word : List ℕ) (v : Variable) → seen p names word ≡ true → variable_named word vs ≡ Some v →
        SlotsPass slots v v.indices
    variable_shown word v h e =
        let k = visible_entry p (lookup (bytes_eq word) names) h in
        let b = mirrors.back word v e in
        let kind : is_variable k.0.meaning ≡ true = ap is_variable (sym (same_kind names stays word k.0 b.0 k.1 b.1)) ∙
        b.2 in
        shown word v e (owned word k.0 k.1 kind (own_program p k.0 (variable_no_value k.0.meaning kind) k.2))

    always_shown : (word : List ℕ) (a : Formed) → seen p names word ≡ true → lookup (bytes_eq word) A ≡ Some a →
        Fine slots any_place a
    always_shown word a h e =
        let k = visible_entry p (lookup (bytes_eq word) names) h in
        let b = sound word a e in
        let kind : is_always k.0.meaning ≡ true = ap is_always (sym (same_kind names stays word k.0 b.0 k.1 b.1)) ∙
        b.2 in
        kept word k.0 a k.1 (own_program p k.0 (always_no_value k.0.meaning kind) k.2) e

    pub program_sees : SeesOnly slots any_place (seen p names) (seen p names) (scope_by vs values A)
    program_sees = record {
      words = λ word h.
          let value = option_map number_constant (lookup (bytes_eq word) values) in
          let variable = variable_formed (variable_named word vs) in
          zero_fine slots any_place (option_or (lookup (bytes_eq word) A) (option_or variable value))
          (or_fine slots any_place (lookup (bytes_eq word) A) (option_or variable value)
          (always_fine slots any_place (lookup (bytes_eq word) A) (λ a e. always_shown word a h e))
          (or_fine slots any_place variable value (variable_fine slots any_place (variable_named word vs)
          (λ v e. variable_shown word v h e)) (value_fine slots any_place (lookup (bytes_eq word) values))));
      variables = λ word v h e. variable_shown word v h e;
    }

  kept_more : (names : Table) (A : Always) (name : List ℕ) (n : Named) (a : Formed) → Fine slots any_place a →
      Kept names A → Kept (with_named names name n) (insert_entry bytes_eq A name a)
  kept_more names A name n a fine kept word m b e q f = elim (added names name word n m e)
      as (λ x. Fine slots any_place b) [
        | inl new ↦
            let here : lookup (bytes_eq word) (insert_entry bytes_eq A name a) ≡ Some a =
            subst (λ w. lookup (bytes_eq w) (insert_entry bytes_eq A name a) ≡ Some a) (sym new.1)
            (inserted_found A name a) in
            same_fine a b fine (sym here ∙ f)
        | inr old ↦ elim (found_after A name word a b f) as (λ x. Fine slots any_place b) [
          | inl made ↦ subst (λ x. Fine slots any_place x) (sym made.0) fine
          | inr there ↦ kept word m b old q there
        ]
      ]
    where
      same_fine : (x y : Formed) → Fine slots any_place x → Some x ≡ Some y → Fine slots any_place y
      same_fine x y h k = let same : x ≡ y = cc k in subst (λ z. Fine slots any_place z) same h

  -- after the definitions of this program
  pub definitions_keep : (names : Table) (A : Always) (ds : List Def) → (always_part p names ds).fault ≡ None →
      StaysIn (always_part p names ds).after final → Sound final A →
      ((word : List ℕ) (n : Named) → lookup (bytes_eq word) names ≡ Some n → Owned p own word n) → Kept names A →
      Kept (always_part p names ds).after (defined vs values A ds)
  definitions_keep names A [] fault stays sound owned kept = kept
  definitions_keep names A (d ∷ ds) fault stays sound owned kept =
      let n = definition_scope p names (d ∷ ds) in
      let r = read d.of n in
      let new = always_named p d.name.at r in
      let first = (definition p names d.name r).fault in
      let after = with_named names d.name.text new in
      let rest = (always_part p after ds).fault in
      let a = formed d.of (scope_by vs values A) in
      let here = stays_before final p names (d ∷ ds) fault stays in
      let later = stays_before final p after ds (earlier_second first rest fault) stays in
      let words = expressions_read d.of n (seen p names) (seen p names) (found_seen p names n.pending)
      (earlier_second (unless (not (is_declared names d.name.text)) Code.DeclaredTwice d.name.at) r.fault
      (earlier_first first rest fault)) in
      let fine = expressions_name slots any_place (seen p names) (seen p names) d.of (scope_by vs values A) words
      (program_sees names A here sound owned kept) in
      definitions_keep after (insert_entry bytes_eq A d.name.text a) ds (earlier_second first rest fault) stays
      (sound_more final names A d.name.text new a refl later sound)
      (hold_with (Owned p own) (λ w sort number h. cc h) p names d.name.text new owned (λ h. cc h))
      (kept_more names A d.name.text new a fine kept)

  -- definitions of a later program change none of them
  pub later_keep : (names : Table) (q : ℕ) (now : Table) (A : Always) (ds : List Def) →
      (always_part q now ds).fault ≡ None → StaysIn names now → Kept names A → Kept names (defined vs values A ds)
  later_keep names q now A [] fault stays kept = kept
  later_keep names q now A (d ∷ ds) fault stays kept =
      let r = read d.of (definition_scope q now (d ∷ ds)) in
      let new = always_named q d.name.at r in
      let first = (definition q now d.name r).fault in
      let after = with_named now d.name.text new in
      let rest = (always_part q after ds).fault in
      let a = formed d.of (scope_by vs values A) in
      let none = not_some (lookup (bytes_eq d.name.text) now) (unless_none (not (is_declared now d.name.text))
      Code.DeclaredTwice d.name.at (earlier_first (unless (not (is_declared now d.name.text)) Code.DeclaredTwice
      d.name.at) r.fault (earlier_first first rest fault))) in
      later_keep names q after (insert_entry bytes_eq A d.name.text a) ds (earlier_second first rest fault)
      (λ word m e. let k = stays word m e in (
        k.0,
        kept_beside now d.name.text word new (record m { program = k.0 })
            none k.1,
      ))
      (λ word m b e o f. elim (found_after A d.name.text word a b f) as (λ x. Fine slots any_place b) [
        | inl made ↦
            let k = stays word m e in
            absurd (some_none (sym k.1 ∙ ap (λ w. lookup (bytes_eq w) now) made.1 ∙ none))
        | inr old ↦ kept word m b e o old
      ])
    where
      some_none : {x : Named} → Some x ≡ None → ⊥
      some_none e = cc e
