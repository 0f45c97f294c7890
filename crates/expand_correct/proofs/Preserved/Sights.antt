-- Two folds over the definitions of a document see the same.
use Rattle.std.proofs.Common.{◌≡◌, ℕ, List, [], ◌∷◌, ◌++◌, Bool, true, false, cond, Option, Some, None, is_some, refl}
use Rattle.std.proofs.Common.{sym, ap, ◌∙◌, subst}
use Rattle.std.specs.Prelude.{ℤ, fold, if◌then◌else◌}
use Rattle.std.specs.List.{flat_map}
use Rattle.std.specs.Map.{lookup}
use Rattle.std.specs.Option.{option_or}
use Rattle.std.specs.Str.{bytes_eq}
use Rattle.std.proofs.lemmas.Slice.Eq.{bytes_eq-Decides}
use Rattle.indexmap.specs.IndexMap.{insert_entry}
use Rattle.unity_syntax.specs.declared.declaration.Def.{Def}
use Rattle.unity_syntax.specs.declared.document.Part.{Part}
use Rattle.meaning_documents.specs.Names.{Bindings}
use Rattle.meaning_documents.specs.Setting.{definitions, programs_among, setting_of}
use Rattle.expand_declarations.specs.Start.{enumeration_words, first_words, with_word}
use Rattle.expand_correct.proofs.Declared.Agreed.{words_agree}
use Rattle.expand_rules.specs.Forming.{Scope, formed}
use Rattle.expand_rules.specs.Documents.{with_formed, plain_scope, scope_of, within}
use Rattle.expand_correct.specs.Values.SightLaws.{SeeSame}
use Rattle.expand_correct.proofs.Values.SameSight.{formed_by_sight}
use Rattle.expand_documents.specs.AlwaysNames.{with_definition, with_definitions}
use Rattle.expand_documents.specs.Cores.{declared_scope, part_definitions, document_scope}
use Rattle.expand_correct.specs.Preserved.Sight.{SeesAlike, SeesAlikeAmong}

-- entries

pub same_text : (a b : List ℕ) → bytes_eq a b ≡ true → a ≡ b
same_text a b h = (bytes_eq-Decides a b).0 h

pub other_text : (a b : List ℕ) → bytes_eq a b ≡ false → a ≡ b → ⊥
other_text a b h e = let both : true ≡ false = sym ((bytes_eq-Decides a b).1 e) ∙ h in cc

twice : {V : Type 0} (b : Bool) (x y z : Option V) → cond b x z ≡ cond b x (cond b y z)
twice true x y z = refl
twice false x y z = refl

swapped : {V : Type 0} (a b : Bool) (x y z : Option V) → (a ≡ true → b ≡ true → ⊥) →
    cond a x (cond b y z) ≡ cond b y (cond a x z)
swapped true true x y z h = absurd (h refl refl)
swapped true false x y z h = refl
swapped false true x y z h = refl
swapped false false x y z h = refl

-- what is found after an entry: that entry, or what was found before
pub found_entered : {V : Type 0} (es : List (List ℕ × V)) (word other : List ℕ) (v : V) →
    lookup (bytes_eq other) (insert_entry bytes_eq es word v)
    ≡ cond (bytes_eq other word) (Some v) (lookup (bytes_eq other) es)
found_entered [] word other v = refl
found_entered (e ∷ es) word other v = by (bytes_eq word e.0) refl (found_entered es word other v)
  where
    by : (b : Bool) → bytes_eq word e.0 ≡ b →
        lookup (bytes_eq other) (insert_entry bytes_eq es word v)
        ≡ cond (bytes_eq other word) (Some v) (lookup (bytes_eq other) es) →
        lookup (bytes_eq other) (if b then (e.0, v) ∷ es else e ∷ insert_entry bytes_eq es word v)
        ≡ cond (bytes_eq other word) (Some v) (cond (bytes_eq other e.0) (Some e.1) (lookup (bytes_eq other) es))
    by true h rest = twice (bytes_eq other e.0) (Some v) (Some e.1) (lookup (bytes_eq other) es)
        ∙ ap (λ w. cond (bytes_eq other w) (Some v) (cond (bytes_eq other e.0) (Some e.1) (lookup (bytes_eq other) es)))
        (sym (same_text word e.0 h))
    by false h rest = ap (λ o. cond (bytes_eq other e.0) (Some e.1) o) rest
        ∙ swapped (bytes_eq other e.0) (bytes_eq other word) (Some e.1) (Some v) (lookup (bytes_eq other) es)
        (λ first second. other_text word e.0 h
        (sym (same_text other word second) ∙ same_text other e.0 first))

-- words

found_first : (b : Bool) (k l : Option ℤ) (x z : ℤ) → (b ≡ true → k ≡ Some x) →
    option_or k l ≡ option_or k (cond b (Some z) l)
found_first true k l x z h = ap (λ m. option_or m l) (h refl) ∙ sym (ap (λ m. option_or m (Some z)) (h refl))
found_first false k l x z h = refl

found_new : (b : Bool) (k l : Option ℤ) (z : ℤ) → (b ≡ true → k ≡ None) →
    option_or (cond b (Some z) k) l ≡ option_or k (cond b (Some z) l)
found_new true k l z h = sym (ap (λ m. option_or m (Some z)) (h refl))
found_new false k l z h = refl

found_with : (known : Bindings) (w : List ℕ × ℤ) (word : List ℕ) (l : Option ℤ) →
    option_or (lookup (bytes_eq word) (with_word known w)) l
    ≡ option_or (lookup (bytes_eq word) known) (cond (bytes_eq word w.0) (Some w.1) l)
found_with known w word l = by (lookup (bytes_eq w.0) known) refl
  where
    by : (o : Option ℤ) → lookup (bytes_eq w.0) known ≡ o →
        option_or (lookup (bytes_eq word) (cond (is_some o) known (insert_entry bytes_eq known w.0 w.1))) l
        ≡ option_or (lookup (bytes_eq word) known) (cond (bytes_eq word w.0) (Some w.1) l)
    by (Some x) e = found_first (bytes_eq word w.0) (lookup (bytes_eq word) known) l x w.1
        (λ t. ap (λ n. lookup (bytes_eq n) known) (same_text word w.0 t) ∙ e)
    by None e = ap (λ m. option_or m l) (found_entered known w.0 word w.1)
        ∙ found_new (bytes_eq word w.0) (lookup (bytes_eq word) known) l w.1
        (λ t. ap (λ n. lookup (bytes_eq n) known) (same_text word w.0 t) ∙ e)

or_nothing : {V : Type 0} (o : Option V) → o ≡ option_or o None
or_nothing None = refl
or_nothing (Some x) = refl

found_among : (known ws : Bindings) (word : List ℕ) →
    lookup (bytes_eq word) (fold with_word known ws)
    ≡ option_or (lookup (bytes_eq word) known) (lookup (bytes_eq word) ws)
found_among known [] word = or_nothing (lookup (bytes_eq word) known)
found_among known (w ∷ ws) word = found_among (with_word known w) ws word
    ∙ found_with known w word (lookup (bytes_eq word) ws)

-- of a word the first number is found
pub first_found : (ws : Bindings) (word : List ℕ) →
    lookup (bytes_eq word) (first_words ws) ≡ lookup (bytes_eq word) ws
first_found ws word = found_among [] ws word

-- always names

same_declared : (parts : List Part) → SeeSame (declared_scope parts) (plain_scope (setting_of (programs_among parts)))
same_declared parts = record {
  variables = λ word. refl;
  words = λ word. first_found (enumeration_words parts) word ∙ ap (lookup (bytes_eq word)) (words_agree parts);
  always = λ word. refl;
  bound = refl;
}

same_definition : (s t : Scope) (d : Def) → SeeSame s t →
    SeeSame (with_definition s d) (record t { always = (d.name.text, formed d.of t) ∷ t.always })
same_definition s t d h = record {
  variables = h.variables;
  words = h.words;
  always = λ word. found_entered s.always d.name.text word (formed d.of s)
      ∙ ap (λ f. cond (bytes_eq word d.name.text) (Some f) (lookup (bytes_eq word) s.always))
      (formed_by_sight d.of s t h)
      ∙ ap (λ o. cond (bytes_eq word d.name.text) (Some (formed d.of t)) o) (h.always word);
  bound = h.bound;
}

same_definitions : (s t : Scope) (ds : List Def) → SeeSame s t → SeeSame (with_definitions s ds) (with_formed t ds)
same_definitions s t [] h = h
same_definitions s t (d ∷ ds) h = same_definitions (with_definition s d)
    (record t { always = (d.name.text, formed d.of t) ∷ t.always }) ds (same_definition s t d h)

-- parts define what the programs among them define
pub definitions_among : (parts : List Part) →
    flat_map part_definitions parts ≡ flat_map definitions (programs_among parts)
definitions_among [] = refl
definitions_among (Part.Program at program ∷ rest) = ap (λ ds. definitions program ++ ds) (definitions_among rest)
definitions_among (Part.Proof at proof ∷ rest) = definitions_among rest

pub sees_alike : SeesAlike
sees_alike parts =
    subst (λ (ds : List Def). SeeSame (with_definitions (declared_scope parts) ds) (scope_of (programs_among parts)))
    (sym (definitions_among parts))
    (same_definitions (declared_scope parts) (plain_scope (setting_of (programs_among parts)))
    (flat_map definitions (programs_among parts)) (same_declared parts))

pub sees_alike_among : SeesAlikeAmong
sees_alike_among parts bs = let h = sees_alike parts in
    record { variables = h.variables; words = h.words; always = h.always; bound = refl }

-- outside all bound names

nothing_bound : (s : Scope) (ds : List Def) → (with_definitions s ds).bound ≡ s.bound
nothing_bound s [] = refl
nothing_bound s (d ∷ ds) = nothing_bound (with_definition s d) ds

pub sees_inside : (parts : List Part) → SeeSame (document_scope parts) (within (scope_of (programs_among parts)) [])
sees_inside parts = let h = sees_alike parts in record {
  variables = h.variables;
  words = h.words;
  always = h.always;
  bound = nothing_bound (declared_scope parts) (flat_map part_definitions parts);
}
