-- The programs of a well-named document, from front to back: those that names know, and who has which labels.
use Rattle.std.proofs.Common.{◌≡◌, ℕ, List, [], ◌∷◌, ◌++◌, map, Bool, true, false, cond, not, ◌||◌, nat_eq, Option}
use Rattle.std.proofs.Common.{Some, None}
use Rattle.std.proofs.Common.{is_some, refl, sym, ap, ◌∙◌, subst, All, ◌⊎◌, inl, inr}
use Rattle.std.specs.Prelude.{if◌then◌else◌}
use Rattle.std.specs.List.{find, list_any, flat_map}
use Rattle.std.specs.Map.{lookup}
use Rattle.std.specs.Str.{bytes_eq}
use Rattle.std.proofs.lemmas.List.{map-append, append-nil}
use Rattle.std.proofs.lemmas.List.Elements.{All-nil, All-cons, All-head, All-tail, All-append, All-map, All-weaker}
use Rattle.std.proofs.lemmas.List.Folds.{list_any-append}
use Rattle.std.proofs.lemmas.Slice.Eq.{bytes_eq-Decides}
use borrow.Author.Tests.{eqb-true, eqb-false}
use Rattle.indexmap.specs.IndexMap.{insert_entry}
use Rattle.case_tables.specs.declared.code_table.Code.{Code}
use Rattle.unity_syntax.specs.declared.name.Name.{Name}
use Rattle.unity_syntax.specs.declared.program.Program.{Program}
use Rattle.unity_syntax.specs.declared.document.Part.{Part}
use Rattle.unity_syntax.specs.declared.document.Document.{Document}
use Rattle.meaning_documents.specs.Setting.{programs_among, items_of as declared_items}
use Rattle.meaning_documents.specs.Instances.{Instance, instances}
use Rattle.core_terms.specs.declared.programs.CStmt.{CStmt}
use Rattle.core_terms.specs.declared.programs.CSlot.{CSlot}
use Rattle.core_terms.specs.declared.programs.CProgram.{CProgram}
use Rattle.core_terms.specs.Conditions.{EachPair, AreApart, IsNamed}
use Rattle.names_rules.specs.declared.named.Composed.{Composed}
use Rattle.names_rules.specs.Reading.{earlier, unless}
use Rattle.names_rules.specs.Part.{run}
use Rattle.names_rules.specs.Declarations.{items_of, some_of, program_scope, initially_reading}
use Rattle.names_rules.specs.Statements.{items_part}
use Rattle.names_rules.specs.Proofs.{Programs, program_word, program_reading}
use Rattle.names_rules.specs.WellNamed.{Declared, IsWellNamed, nothing_declared, new_program, declarations_part}
use Rattle.names_rules.specs.WellNamed.{program_body, start_reading, parts_or, parts_of, share}
use Rattle.names_rules.specs.WellNamed.{program_part, proof_part, part_of, steps_reading}
use Rattle.names_rules.proofs.Faults.{earlier_first, earlier_second, unless_none}
use Rattle.expand_declarations.specs.Texts.{Texts, var_texts, items_texts, document_texts}
use Rattle.expand_declarations.specs.WordNumbers.{document_words, with_texts, word_number}
use Rattle.expand_declarations.specs.Slots.{document_slots}
use Rattle.expand_rules.specs.Forming.{Scope}
use Rattle.expand_rules.specs.Assigning.{stated, statements}
use Rattle.expand_rules.specs.Programs.{core_statement, plain_core}
use Rattle.expand_declarations.specs.Shown.{shown_slots}
use Rattle.expand_declarations.specs.Start.{start_values}
use Rattle.core_terms.specs.Unions.{joined_programs}
use Rattle.meaning_documents.specs.Steps.{proofs_among}
use Rattle.expand_correct.specs.Declared.WordLaws.{is_among}
use Rattle.expand_correct.proofs.Declared.Found.{numbers_tell}
use Rattle.expand_declarations.proofs.NearIndices.{parts_fault}
use Rattle.expand_correct.specs.from_expand_documents.Cores.{core_document, document_scope, core_named, core_union}
use Rattle.expand_correct.specs.from_expand_documents.Cores.{core_program, with_core}
use Rattle.expand_correct.specs.from_expand_documents.Cores.{with_cores}
use Rattle.expand_fits_parts.specs.Conditions.StatementConditions as instance
use Rattle.expand_fits_parts.specs.Conditions.NamedConditions.{StatementsApart, ProofsNamed}
use Rattle.expand_fits_parts.proofs.Conditions.Lists.{Pairs, each_pair, pairs_of, pairs_on, pairs_map, pairs_with}
use Rattle.expand_fits_parts.proofs.Conditions.Lists.{all_both}
use Rattle.expand_fits_parts.proofs.Conditions.Labels.{has, Fresh, Differs, fresh_on, fresh_apart, or_none, differs}
use Rattle.expand_fits_parts.proofs.Conditions.Labels.{labelled}
use Rattle.expand_fits_parts.proofs.Conditions.Instances.{instances_apart}
use Rattle.expand_fits_parts.proofs.Conditions.Programs.{label_of, Has, document_has, name_there, last_has, IfThere}
use Rattle.expand_fits_parts.proofs.Conditions.Programs.{find_there}
use Rattle.expand_fits_parts.proofs.Conditions.Proofs.{all_proofs}

-- tables

same_text : (a b : List ℕ) → bytes_eq a b ≡ true → a ≡ b
same_text a b h = (bytes_eq-Decides a b).0 h

text_same : (a b : List ℕ) → a ≡ b → bytes_eq a b ≡ true
text_same a b h = (bytes_eq-Decides a b).1 h

put : {V : Type 0} (c : Bool) (v : V) (o : Option V) → c ≡ true → cond c (Some v) o ≡ Some v
put true v o h = refl
put false v o h = cc h

pass : {V : Type 0} (c : Bool) (v : V) (o : Option V) → c ≡ false → cond c (Some v) o ≡ o
pass true v o h = cc h
pass false v o h = refl

lookup_same : {V : Type 0} (es : List (List ℕ × V)) (word : List ℕ) (v : V) →
    lookup (bytes_eq word) (insert_entry bytes_eq es word v) ≡ Some v
lookup_same [] word v = put (bytes_eq word word) v None (text_same word word refl)
lookup_same (e ∷ es) word v = by (bytes_eq word e.0) refl (lookup_same es word v)
  where
    by : (b : Bool) → bytes_eq word e.0 ≡ b → lookup (bytes_eq word) (insert_entry bytes_eq es word v) ≡ Some v →
        lookup (bytes_eq word) (if b then (e.0, v) ∷ es else e ∷ insert_entry bytes_eq es word v) ≡ Some v
    by true h rest = put (bytes_eq word e.0) v (lookup (bytes_eq word) es) h
    by false h rest = pass (bytes_eq word e.0) e.1 (lookup (bytes_eq word) (insert_entry bytes_eq es word v)) h ∙ rest

lookup_other : {V : Type 0} (es : List (List ℕ × V)) (word other : List ℕ) (v : V) → bytes_eq other word ≡ false →
    lookup (bytes_eq other) (insert_entry bytes_eq es word v) ≡ lookup (bytes_eq other) es
lookup_other [] word other v h = pass (bytes_eq other word) v None h
lookup_other (e ∷ es) word other v h = by (bytes_eq word e.0) (same_text word e.0) (lookup_other es word other v h)
  where
    by : (b : Bool) → (b ≡ true → word ≡ e.0) →
        lookup (bytes_eq other) (insert_entry bytes_eq es word v) ≡ lookup (bytes_eq other) es →
        lookup (bytes_eq other) (if b then (e.0, v) ∷ es else e ∷ insert_entry bytes_eq es word v)
        ≡ lookup (bytes_eq other) (e ∷ es)
    by true same rest = let off = ap (bytes_eq other) (sym (same refl)) ∙ h in
        pass (bytes_eq other e.0) v (lookup (bytes_eq other) es) off
        ∙ sym (pass (bytes_eq other e.0) e.1 (lookup (bytes_eq other) es) off)
    by false same rest = ap (λ o. cond (bytes_eq other e.0) (Some e.1) o) rest

-- programs by their numbers

find_on : (test : CProgram → Bool) (xs : List CProgram) (c : CProgram) → find test xs ≡ None →
    find test (xs ++ c ∷ []) ≡ find test (c ∷ [])
find_on test [] c h = refl
find_on test (x ∷ xs) c h = by (test x) h (find_on test xs c)
  where
    by : (b : Bool) → cond b (Some x) (find test xs) ≡ None →
        (find test xs ≡ None → find test (xs ++ c ∷ []) ≡ find test (c ∷ [])) →
        cond b (Some x) (find test (xs ++ c ∷ [])) ≡ find test (c ∷ [])
    by true f rest = cc f
    by false f rest = rest f

find_off : (test : CProgram → Bool) (xs : List CProgram) (c : CProgram) → test c ≡ false →
    find test (xs ++ c ∷ []) ≡ find test xs
find_off test [] c h = pass (test c) c None h
find_off test (x ∷ xs) c h = ap (λ o. cond (test x) (Some x) o) (find_off test xs c h)

pub find_any : (test : CProgram → Bool) (xs : List CProgram) → is_some (find test xs) ≡ list_any test xs
find_any test [] = refl
find_any test (x ∷ xs) = by (test x) (find_any test xs)
  where
    by : (b : Bool) → is_some (find test xs) ≡ list_any test xs →
        is_some (cond b (Some x) (find test xs)) ≡ (b || list_any test xs)
    by true h = refl
    by false h = h

nothing_there : {V : Type 0} (o : Option V) → is_some o ≡ false → o ≡ None
nothing_there None h = refl
nothing_there (Some v) h = cc h

something : {V : Type 0} (o : Option V) → is_some o ≡ true → (v : V) × (o ≡ Some v)
something None h = cc h
something (Some v) h = (v, refl)

number_same : (n : ℕ) → nat_eq n n ≡ true
number_same n = by (nat_eq n n) refl
  where
    by : (b : Bool) → nat_eq n n ≡ b → b ≡ true
    by true h = refl
    by false h = absurd (eqb-false n n h refl)

number_other : (m n : ℕ) → (m ≡ n → ⊥) → nat_eq m n ≡ false
number_other m n f = by (nat_eq m n) (eqb-true m n)
  where
    by : (b : Bool) → (b ≡ true → m ≡ n) → b ≡ false
    by true h = absurd (f (h refl))
    by false h = refl

-- labels with the programs that have them

abbrev Owners : Type 0
Owners = List (ℕ × List ℕ)

abbrev Among : Owners → ℕ → List ℕ → Type 0
Among [] at t = ⊥
Among (e ∷ es) at t = ((e.0 ≡ at) × (e.1 ≡ t)) ⊎ Among es at t

among_left : (es fs : Owners) (at : ℕ) (t : List ℕ) → Among es at t → Among (es ++ fs) at t
among_left [] fs at t h = absurd h
among_left (e ∷ es) fs at t (inl here) = inl here
among_left (e ∷ es) fs at t (inr rest) = inr (among_left es fs at t rest)

among_right : (es fs : Owners) (at : ℕ) (t : List ℕ) → Among fs at t → Among (es ++ fs) at t
among_right [] fs at t h = h
among_right (e ∷ es) fs at t h = inr (among_right es fs at t h)

among_all : (P : ℕ × List ℕ → Type 0) (es : Owners) → All P es → (at : ℕ) (t : List ℕ) → Among es at t →
    (e : ℕ × List ℕ) × P e × (e.0 ≡ at) × (e.1 ≡ t)
among_all P [] h at t k = absurd k
among_all P (e ∷ es) h at t (inl here) = (e, All-head P e es h, here.0, here.1)
among_all P (e ∷ es) h at t (inr rest) = among_all P es (All-tail P e es h) at t rest

abbrev OtherLabel : ℕ × List ℕ → ℕ × List ℕ → Type 0
OtherLabel e f = e.1 ≡ f.1 → ⊥

-- a label has one owner
one_owner : (es : Owners) → Pairs OtherLabel es → (a b : ℕ) (t : List ℕ) → Among es a t → Among es b t → a ≡ b
one_owner [] p a b t h k = absurd h
one_owner (e ∷ es) p a b t (inl h) (inl k) = sym h.0 ∙ k.0
one_owner (e ∷ es) p a b t (inl h) (inr k) =
    let x = among_all (OtherLabel e) es p.0 b t k in absurd (x.1 (h.1 ∙ sym x.3))
one_owner (e ∷ es) p a b t (inr h) (inl k) =
    let x = among_all (OtherLabel e) es p.0 a t h in absurd (x.1 (k.1 ∙ sym x.3))
one_owner (e ∷ es) p a b t (inr h) (inr k) = one_owner es p.1 a b t h k

abbrev owns : ℕ → Texts → Owners
owns at ts = map (λ (t : List ℕ). let e : ℕ × List ℕ = (at, t) in e) ts

owns_texts : (at : ℕ) (ts : Texts) → map (λ (e : ℕ × List ℕ). e.1) (owns at ts) ≡ ts
owns_texts at [] = refl
owns_texts at (t ∷ ts) = ap (λ us. t ∷ us) (owns_texts at ts)

owns_each : (at : ℕ) (ts : Texts) (t : List ℕ) → is_among ts t ≡ true → Among (owns at ts) at t
owns_each at [] t h = cc h
owns_each at (u ∷ us) t h = by (bytes_eq t u) (same_text t u) h (owns_each at us t)
  where
    by : (b : Bool) → (b ≡ true → t ≡ u) → (b || is_among us t) ≡ true →
        (is_among us t ≡ true → Among (owns at us) at t) → Among (owns at (u ∷ us)) at t
    by true same k rest = inl (refl, sym (same refl))
    by false same k rest = inr (rest k)

fresh_pairs : (before ts : Texts) → Fresh before ts → Pairs Differs ts
fresh_pairs before [] h = tt
fresh_pairs before (t ∷ ts) h = (
  All-weaker (λ u. has (t ∷ []) u ≡ false) (Differs t)
      (λ u k. differs u t (or_none (bytes_eq u t) false k).0) ts (fresh_apart before (t ∷ []) ts h.1),
  fresh_pairs (before ++ t ∷ []) ts h.1,
)

all_unmapped : {X Y : Type 0} (P : Y → Type 0) (f : X → Y) (xs : List X) → All P (map f xs) → All (λ x. P (f x)) xs
all_unmapped P f [] h = All-nil (λ x. P (f x))
all_unmapped P f (x ∷ xs) h = All-cons (λ y. P (f y)) x xs (All-head P (f x) (map f xs) h)
    (all_unmapped P f xs (All-tail P (f x) (map f xs) h))

pairs_unmapped : {X Y : Type 0} (R : Y → Y → Type 0) (f : X → Y) (xs : List X) → Pairs R (map f xs) →
    Pairs (λ x y. R (f x) (f y)) xs
pairs_unmapped R f [] h = tt
pairs_unmapped R f (x ∷ xs) h = (all_unmapped (R (f x)) f xs h.0, pairs_unmapped R f xs h.1)

-- the walk

shared : (xs ys : List ℕ) (n : ℕ) → list_any (nat_eq n) xs ≡ true → list_any (nat_eq n) ys ≡ true → share xs ys ≡ true
shared xs [] n h k = cc k
shared xs (y ∷ ys) n h k = by (nat_eq n y) (eqb-true n y) k (shared xs ys n h)
  where
    by : (b : Bool) → (b ≡ true → n ≡ y) → (b || list_any (nat_eq n) ys) ≡ true →
        (list_any (nat_eq n) ys ≡ true → share xs ys ≡ true) →
        (list_any (nat_eq y) xs || share xs ys) ≡ true
    by true same f rest =
        first (list_any (nat_eq y) xs) (share xs ys) (ap (λ m. list_any (nat_eq m) xs) (sym (same refl)) ∙ h)
      where
        first : (a b : Bool) → a ≡ true → (a || b) ≡ true
        first true b e = refl
        first false b e = cc e
    by false same f rest = second (list_any (nat_eq y) xs) (share xs ys) (rest f)
      where
        second : (a b : Bool) → b ≡ true → (a || b) ≡ true
        second true b e = refl
        second false b e = e

module _ (texts : Texts) (s : Scope) (slots : List CSlot) where
  abbrev words : Texts
  words = with_texts [] texts

  abbrev number : List ℕ → ℕ
  number name = word_number words name

  abbrev named : List ℕ → List CProgram → Option CProgram
  named name before = core_named (number name) before

  abbrev known : Declared → List ℕ → Bool
  known d name = is_some (lookup (bytes_eq name) d.programs)

  -- the statement has a label of one of these programs
  pub record Owned (owners : Owners) (parts : List ℕ) (c : CStmt) : Type 0 where
    pub place : ℕ
    pub text : List ℕ
    pub part : list_any (nat_eq place) parts ≡ true
    pub among : Among owners place text
    pub there : is_among texts text ≡ true
    pub label : c.label ≡ number text

  pub record Walked (d : Declared) (before : List CProgram) (owners : Owners) : Type 0 where
    pub there : (name : List ℕ) → known d name ≡ true → is_among texts name ≡ true
    pub same : (name : List ℕ) → is_among texts name ≡ true → is_some (named name before) ≡ known d name
    pub owned : (name : List ℕ) (f : CProgram) → is_among texts name ≡ true → named name before ≡ Some f →
        All (Owned owners (parts_or (lookup (bytes_eq name) d.programs))) f.statements
    pub apart : All (λ c. Pairs AreApart c.statements) before
    pub labels : map (λ (e : ℕ × List ℕ). e.1) owners ≡ d.labels
    pub fresh : Fresh [] d.labels

  more_owned : (owners more : Owners) (parts : List ℕ) (cs : List CStmt) → All (Owned owners parts) cs →
      All (Owned (owners ++ more) parts) cs
  more_owned owners more parts cs h = All-weaker (Owned owners parts) (Owned (owners ++ more) parts)
      (λ c o. record {
        place = o.place;
        text = o.text;
        part = o.part;
        among = among_left owners more o.place o.text o.among;
        there = o.there;
        label = o.label;
      }) cs h

  -- a program with a new name that is known after it
  pub record Enters (d e : Declared) (c : CProgram) (name : List ℕ) (parts : List ℕ) (owners more : Owners) : Type 0
    where
      pub composed : Composed
      pub programs : e.programs ≡ insert_entry bytes_eq d.programs name composed
      pub parts_are : composed.parts ≡ parts
      pub fresh : known d name ≡ false
      pub among : is_among texts name ≡ true
      pub named_so : c.name ≡ number name
      pub owned : All (Owned (owners ++ more) parts) c.statements
      pub apart : Pairs AreApart c.statements
      pub labels : map (λ (x : ℕ × List ℕ). x.1) (owners ++ more) ≡ e.labels
      pub fresh_labels : Fresh [] e.labels

  entered : (d e : Declared) (before : List CProgram) (c : CProgram) (name : List ℕ) (parts : List ℕ)
      (owners more : Owners) → Walked d before owners → Enters d e c name parts owners more →
      Walked e (before ++ c ∷ []) (owners ++ more)
  entered d e before c name parts owners more w n = record {
    there = λ other k. by_there other (bytes_eq other name) refl k;
    same = λ other k. by_same other k (bytes_eq other name) refl;
    owned = λ other f k g. by_owned other f k g (bytes_eq other name) refl;
    apart = All-append (λ c. Pairs AreApart c.statements) before (c ∷ []) w.apart
        (All-cons (λ c. Pairs AreApart c.statements) c [] n.apart (All-nil (λ c. Pairs AreApart c.statements)));
    labels = n.labels;
    fresh = n.fresh_labels;
  }
    where
      new_there : (other : List ℕ) → bytes_eq other name ≡ true → lookup (bytes_eq other) e.programs ≡ Some n.composed
      new_there other h = ap (λ (es : Programs). lookup (bytes_eq other) es) n.programs
          ∙ ap (λ w. lookup (bytes_eq w) (insert_entry bytes_eq d.programs name n.composed)) (same_text other name h)
          ∙ lookup_same d.programs name n.composed

      old_there : (other : List ℕ) → bytes_eq other name ≡ false →
          lookup (bytes_eq other) e.programs ≡ lookup (bytes_eq other) d.programs
      old_there other h = ap (λ (es : Programs). lookup (bytes_eq other) es) n.programs
          ∙ lookup_other d.programs name other n.composed h

      -- none before has the new name
      none_before : named name before ≡ None
      none_before = nothing_there (named name before) (w.same name n.among ∙ n.fresh)

      found_new : (other : List ℕ) → bytes_eq other name ≡ true → named other (before ++ c ∷ []) ≡ Some c
      found_new other h = ap (λ (t : List ℕ). named t (before ++ c ∷ [])) (same_text other name h)
          ∙ find_on (λ b. nat_eq b.name (number name)) before c none_before
          ∙ put (nat_eq c.name (number name)) c None
          (ap (λ m. nat_eq m (number name)) n.named_so ∙ number_same (number name))

      found_old : (other : List ℕ) → is_among texts other ≡ true → bytes_eq other name ≡ false →
          named other (before ++ c ∷ []) ≡ named other before
      found_old other k h = find_off (λ b. nat_eq b.name (number other)) before c
          (number_other c.name (number other) (λ same.
          differs name other h
          (numbers_tell texts other name k n.among (sym same ∙ n.named_so))))
        where
          differs : (t u : List ℕ) → bytes_eq u t ≡ false → u ≡ t → ⊥
          differs t u f g = let x = text_same u t g in cc (f, x)

      by_there : (other : List ℕ) (b : Bool) → bytes_eq other name ≡ b → known e other ≡ true →
          is_among texts other ≡ true
      by_there other true h k = subst (λ t. is_among texts t ≡ true) (sym (same_text other name h)) n.among
      by_there other false h k = w.there other (sym (ap is_some (old_there other h)) ∙ k)

      by_same : (other : List ℕ) → is_among texts other ≡ true → (b : Bool) → bytes_eq other name ≡ b →
          is_some (named other (before ++ c ∷ [])) ≡ known e other
      by_same other k true h = ap is_some (found_new other h) ∙ sym (ap is_some (new_there other h))
      by_same other k false h =
          ap is_some (found_old other k h) ∙ w.same other k ∙ sym (ap is_some (old_there other h))

      by_owned : (other : List ℕ) (f : CProgram) → is_among texts other ≡ true →
          named other (before ++ c ∷ []) ≡ Some f → (b : Bool) → bytes_eq other name ≡ b →
          All (Owned (owners ++ more) (parts_or (lookup (bytes_eq other) e.programs))) f.statements
      by_owned other f k g true h =
          let same : c ≡ f = cc (sym (found_new other h) ∙ g) in
          subst (λ x. All (Owned (owners ++ more) (parts_or (lookup (bytes_eq other) e.programs))) x.statements) same
          (subst (λ (ps : List ℕ). All (Owned (owners ++ more) ps) c.statements)
          (sym (ap parts_or (new_there other h) ∙ n.parts_are)) n.owned)
      by_owned other f k g false h =
          subst (λ (o : Option Composed). All (Owned (owners ++ more) (parts_or o)) f.statements)
          (sym (old_there other h))
          (more_owned owners more (parts_or (lookup (bytes_eq other) d.programs)) f.statements
          (w.owned other f k (sym (found_old other k h) ∙ g)))

  -- a program without a fault has a core, and is known after it
  pub record Step (d e : Declared) (p : Program) (before : List CProgram) (owners : Owners) : Type 0 where
    pub core : CProgram
    pub made : core_program words s slots before p ≡ Some core
    pub more : Owners
    pub walked : Walked e (before ++ core ∷ []) (owners ++ more)

  not_false : (b : Bool) → not b ≡ true → b ≡ false
  not_false true h = cc h
  not_false false h = refl

  new_name : (d : Declared) (name : Name) → (new_program d.programs name).fault ≡ None → known d name.text ≡ false
  new_name d name h = not_false (known d name.text)
      (unless_none (not (known d name.text)) Code.DeclaredTwice name.at h)

  pub known_word : (name : Name) (o : Option Composed) → (program_word name o).fault ≡ None → is_some o ≡ true
  known_word name None h = cc h
  known_word name (Some p) h = refl

  -- a program that is known
  record Found (d : Declared) (before : List CProgram) (owners : Owners) (name : List ℕ) : Type 0 where
    core : CProgram
    found : named name before ≡ Some core
    owned : All (Owned owners (parts_or (lookup (bytes_eq name) d.programs))) core.statements
    apart : Pairs AreApart core.statements

  found_known : (d : Declared) (before : List CProgram) (owners : Owners) → Walked d before owners → (name : List ℕ) →
      known d name ≡ true → Found d before owners name
  found_known d before owners w name k =
      let here = w.there name k in
      let f = something (named name before) (w.same name here ∙ k) in
      record {
        core = f.0;
        found = f.1;
        owned = w.owned name f.0 here f.1;
        apart = subst (λ (o : Option CProgram). IfThere (λ c. Pairs AreApart c.statements) o) f.1
            (find_there (λ c. Pairs AreApart c.statements) (λ c. nat_eq c.name (number name)) before w.apart);
      }

  left_part : (n : ℕ) (xs ys : List ℕ) → list_any (nat_eq n) xs ≡ true → list_any (nat_eq n) (xs ++ ys) ≡ true
  left_part n xs ys h = list_any-append (nat_eq n) xs ys ∙ ap (λ b. b || list_any (nat_eq n) ys) h

  right_part : (n : ℕ) (xs ys : List ℕ) → list_any (nat_eq n) ys ≡ true → list_any (nat_eq n) (xs ++ ys) ≡ true
  right_part n xs ys h = list_any-append (nat_eq n) xs ys ∙ second (list_any (nat_eq n) xs) h
    where
      second : (a : Bool) {b : Bool} → b ≡ true → (a || b) ≡ true
      second true e = refl
      second false e = e

  wider : (owners : Owners) (parts others : List ℕ) →
      ((n : ℕ) → list_any (nat_eq n) parts ≡ true → list_any (nat_eq n) others ≡ true) → (cs : List CStmt) →
      All (Owned owners parts) cs → All (Owned (owners ++ []) others) cs
  wider owners parts others f cs h = All-weaker (Owned owners parts) (Owned (owners ++ []) others)
      (λ c o. record {
        place = o.place;
        text = o.text;
        part = f o.place o.part;
        among = among_left owners [] o.place o.text o.among;
        there = o.there;
        label = o.label;
      }) cs h

  -- statements of programs that have no part in common
  unrelated : (owners : Owners) → Pairs OtherLabel owners → (xs ys : List ℕ) → share xs ys ≡ false → (c e : CStmt) →
      Owned owners xs c → Owned owners ys e → c.label ≡ e.label → ⊥
  unrelated owners p xs ys none c e o q same =
      let text : o.text ≡ q.text =
      numbers_tell texts o.text q.text o.there q.there (sym o.label ∙ same ∙ q.label) in
      let place : o.place ≡ q.place = one_owner owners p o.place q.place q.text
      (subst (λ t. Among owners o.place t) text o.among) q.among in
      let both : share xs ys ≡ true = shared xs ys q.place
      (subst (λ n. list_any (nat_eq n) xs ≡ true) place o.part) q.part in
      let f : true ≡ false = sym both ∙ none in cc f

  owners_apart : (d : Declared) (before : List CProgram) (owners : Owners) → Walked d before owners →
      Pairs OtherLabel owners
  owners_apart d before owners w = pairs_unmapped Differs (λ (e : ℕ × List ℕ). e.1) owners
      (subst (λ (ts : Texts). Pairs Differs ts) (sym w.labels) (fresh_pairs [] d.labels w.fresh))

  step_union : (d : Declared) (before : List CProgram) (owners : Owners) → Walked d before owners →
      (at : ℕ) (name left right : Name) → is_among texts name.text ≡ true →
      (program_part d (Program.Union at name left right)).fault ≡ None →
      Step d (program_part d (Program.Union at name left right)).after (Program.Union at name left right) before owners
  step_union d before owners w at name left right among h =
      let n = (new_program d.programs name).fault in
      let l = (program_reading d.programs left).fault in
      let r = (program_reading d.programs right).fault in
      let xs = parts_of d.programs left in
      let ys = parts_of d.programs right in
      let u = unless (not (share xs ys)) Code.DeclaredTwice right.at in
      let i = earlier_second n (earlier l (earlier r u)) h in
      let j = earlier_second l (earlier r u) i in
      let f = found_known d before owners w left.text (known_word left (lookup (bytes_eq left.text) d.programs)
      (earlier_first l (earlier r u) i)) in
      let g = found_known d before owners w right.text (known_word right (lookup (bytes_eq right.text) d.programs)
      (earlier_first r u j)) in
      let none = not_false (share xs ys)
      (unless_none (not (share xs ys)) Code.DeclaredTwice right.at (earlier_second r u j)) in
      let c = joined_programs (number name.text) f.core g.core in
      let e = (program_part d (Program.Union at name left right)).after in
      let enters : Enters d e c name.text (xs ++ ys) owners [] = record {
        composed = record { at = name.at; parts = xs ++ ys };
        programs = refl;
        parts_are = refl;
        fresh = new_name d name (earlier_first n (earlier l (earlier r u)) h);
        among = among;
        named_so = refl;
        owned = All-append (Owned (owners ++ []) (xs ++ ys)) f.core.statements g.core.statements
            (wider owners xs (xs ++ ys) (λ m k. left_part m xs ys k) f.core.statements f.owned)
            (wider owners ys (xs ++ ys) (λ m k. right_part m xs ys k) g.core.statements g.owned);
        apart = pairs_on AreApart f.core.statements g.core.statements f.apart g.apart
            (all_both (Owned owners xs) (Owned owners ys) AreApart
            (λ a b o q. record {
              differ = λ same more. unrelated owners (owners_apart d before owners w) xs ys none a b o q same;
              alike = λ same. absurd (unrelated owners (owners_apart d before owners w) xs ys none a b o q same);
            }) f.core.statements g.core.statements f.owned g.owned);
        labels = ap (map (λ (x : ℕ × List ℕ). x.1)) (append-nil owners) ∙ w.labels;
        fresh_labels = w.fresh;
      } in
      record {
        core = c;
        made = ap (λ o. core_union (number name.text) o (named right.text before)) f.found
            ∙ ap (λ o. core_union (number name.text) (Some f.core) o) g.found;
        more = [];
        walked = entered d e before c name.text (xs ++ ys) owners [] w enters;
      }

  step_any : (d : Declared) (before : List CProgram) (owners : Owners) → Walked d before owners → (p : Program) →
      Has texts p → (program_part d p).fault ≡ None → Step d (program_part d p).after p before owners
  step_any d before owners w (Program.Union at name left right) has h =
      step_union d before owners w at name left right
      (has name.text (name_there (Program.Union at name left right))) h
  step_any d before owners w (Program.Plain at name declare always initially start items) has h =
      let ds = declarations_part name.at d.names (items_of declare) (items_of always) in
      let place = program_scope name.at ds.after in
      let body = program_body place initially (some_of start) items d.labels in
      let first = (new_program d.programs name).fault in
      let i = earlier_second first (earlier ds.fault (earlier body.fault None)) h in
      let j = earlier_first body.fault None (earlier_second ds.fault (earlier body.fault None) i) in
      let front = earlier (initially_reading place initially).fault (start_reading place (some_of start)).fault in
      let list = items_part items place d.labels in
      let fault = earlier_second front list.fault j in
      let l = labelled items place d.labels fault in
      let ts = items_texts items in
      let more = owns name.at ts in
      let c = plain_core (word_number words) s (number name.text) (shown_slots words (declared_items declare) slots)
      (start_values s.variables s.words (some_of start)) initially items in
      let e = (program_part d (Program.Plain at name declare always initially start items)).after in
      let labels = label_of items [] in
      let there : All (λ i. is_among texts i.label ≡ true) (instances items) =
      All-weaker (λ i. is_among ts i.label ≡ true) (λ i. is_among texts i.label ≡ true)
      (λ i k. has i.label (right_text i.label name.text (flat_map var_texts (items_of declare) ++ ts)
      (last_has i.label (flat_map var_texts (items_of declare)) ts k))) (instances items) labels in
      let own : All (λ i. Owned (owners ++ more) (name.at ∷ []) (core_of i)) (instances items) =
      both_all (λ i. is_among ts i.label ≡ true) (λ i. is_among texts i.label ≡ true)
      (λ i. Owned (owners ++ more) (name.at ∷ []) (core_of i))
      (λ i k m. record {
        place = name.at;
        text = i.label;
        part = ap (λ b. b || false) (number_same name.at);
        among = among_right owners more name.at i.label (owns_each name.at ts i.label k);
        there = m;
        label = refl;
      }) (instances items) labels there in
      let enters : Enters d e c name.text (name.at ∷ []) owners more = record {
        composed = record { at = name.at; parts = name.at ∷ [] };
        programs = refl;
        parts_are = refl;
        fresh = new_name d name (earlier_first first (earlier ds.fault (earlier body.fault None)) h);
        among = has name.text (name_there (Program.Plain at name declare always initially start items));
        named_so = refl;
        owned = All-map (Owned (owners ++ more) (name.at ∷ [])) (core_statement (word_number words))
            (statements s items)
            (All-map (λ st. Owned (owners ++ more) (name.at ∷ []) (core_statement (word_number words) st)) (stated s)
            (instances items) own);
        apart = pairs_map AreApart (core_statement (word_number words)) (statements s items)
            (pairs_map (λ x y. AreApart (core_statement (word_number words) x) (core_statement (word_number words) y))
            (stated s) (instances items)
            (pairs_with (λ i. is_among texts i.label ≡ true) instance.ApartInstances
            (λ i j. AreApart (core_of i) (core_of j))
            (λ i j k m a. record {
              differ = λ same more. a.differ (numbers_tell texts i.label j.label k m same) more;
              alike = λ same. a.alike (numbers_tell texts i.label j.label k m same);
            }) (instances items) there
            (pairs_of instance.ApartInstances (instances items) (instances_apart place d.labels items fault))));
        labels = map-append (λ (x : ℕ × List ℕ). x.1) owners more
            ∙ ap (λ us. us ++ map (λ (x : ℕ × List ℕ). x.1) more) w.labels
            ∙ ap (λ us. d.labels ++ us) (owns_texts name.at ts) ∙ sym l.same;
        fresh_labels = subst (λ (us : Texts). Fresh [] us) (sym l.same) (fresh_on [] d.labels ts w.fresh l.fresh);
      } in
      record {
        core = c;
        made = refl;
        more = more;
        walked = entered d e before c name.text (name.at ∷ []) owners more w enters;
      }
    where
      core_of : Instance → CStmt
      core_of i = core_statement (word_number words) (stated s i)

      right_text : (t n : List ℕ) (us : Texts) → is_among us t ≡ true → is_among (n ∷ us) t ≡ true
      right_text t n us k = second (bytes_eq t n) k
        where
          second : (a : Bool) {b : Bool} → b ≡ true → (a || b) ≡ true
          second true e = refl
          second false e = e

      both_all : {X : Type 0} (P Q R : X → Type 0) → ((x : X) → P x → Q x → R x) → (xs : List X) → All P xs →
          All Q xs → All R xs
      both_all P Q R f [] p q = All-nil R
      both_all P Q R f (x ∷ xs) p q = All-cons R x xs (f x (All-head P x xs p) (All-head Q x xs q))
          (both_all P Q R f xs (All-tail P x xs p) (All-tail Q x xs q))

  -- parts

  named_on : (n : ℕ) (before : List CProgram) (parts : List Part) → IsNamed before n →
      IsNamed (with_cores words s slots before parts) n
  named_on n before [] h = h
  named_on n before (Part.Program at p ∷ rest) h =
      named_on n (with_core before (core_program words s slots before p)) rest
      (by (core_program words s slots before p))
    where
      by : (o : Option CProgram) → IsNamed (with_core before o) n
      by None = h
      by (Some c) = list_any-append (λ b. nat_eq b.name n) before (c ∷ [])
          ∙ ap (λ b. b || list_any (λ b. nat_eq b.name n) (c ∷ [])) h
  named_on n before (Part.Proof at proof ∷ rest) h = named_on n before rest h

  pub record Through (e : Declared) (cores : List CProgram) (parts : List Part) : Type 0 where
    pub owners : Owners
    pub walked : Walked e cores owners
    pub proofs : All (λ p. IsNamed cores (number p.program.text)) (proofs_among parts)

  pub through : (d : Declared) (before : List CProgram) (owners : Owners) (parts : List Part) →
      Walked d before owners → All (Has texts) (programs_among parts) → (run part_of d parts).fault ≡ None →
      Through (run part_of d parts).after (with_cores words s slots before parts) parts
  through d before owners [] w has h = record {
    owners = owners;
    walked = w;
    proofs = All-nil (λ p. IsNamed before (number p.program.text));
  }
  through d before owners (Part.Program at p ∷ rest) w has h =
      let r = program_part d p in
      let more = run part_of r.after rest in
      let t = step_any d before owners w p (All-head (Has texts) p (programs_among rest) has)
      (earlier_first r.fault more.fault h) in
      let next = subst (λ (o : Option CProgram). Walked r.after (with_core before o) (owners ++ t.more)) (sym t.made)
      t.walked in
      let k = through r.after (with_core before (core_program words s slots before p)) (owners ++ t.more) rest next
      (All-tail (Has texts) p (programs_among rest) has) (earlier_second r.fault more.fault h) in
      record { owners = k.owners; walked = k.walked; proofs = k.proofs }
  through d before owners (Part.Proof at p ∷ rest) w has h =
      let r = proof_part d p in
      let more = run part_of r.after rest in
      let first = earlier_first r.fault more.fault h in
      let named_here = (program_reading d.programs p.program).fault in
      let once = unless (not (list_any (bytes_eq p.program.text) d.proved)) Code.DeclaredTwice p.program.at in
      let k = known_word p.program (lookup (bytes_eq p.program.text) d.programs)
      (earlier_first named_here once
      (earlier_first (earlier named_here once) (steps_reading d.programs d.names p.steps).fault first)) in
      let n : IsNamed before (number p.program.text) =
      sym (find_any (λ c. nat_eq c.name (number p.program.text)) before)
      ∙ w.same p.program.text (w.there p.program.text k) ∙ k in
      let next : Walked r.after before owners = record {
        there = w.there;
        same = w.same;
        owned = w.owned;
        apart = w.apart;
        labels = w.labels;
        fresh = w.fresh;
      } in
      let t = through r.after before owners rest next has (earlier_second r.fault more.fault h) in
      let cores = with_cores words s slots before rest in
      record {
        owners = t.owners;
        walked = t.walked;
        proofs = All-cons (λ q. IsNamed cores (number q.program.text)) p (proofs_among rest)
            (named_on (number p.program.text) before rest n) t.proofs;
      }

  pub from_start : Walked nothing_declared [] []
  from_start = record {
    there = λ name h. cc h;
    same = λ name h. refl;
    owned = λ name f h e. cc e;
    apart = All-nil (λ c. Pairs AreApart c.statements);
    labels = refl;
    fresh = tt;
  }

-- a whole document
pub document_walk : (d : Document) → IsWellNamed d →
    Through (document_texts d) (document_scope d.parts) (document_slots (document_words d) d.parts)
    (run part_of nothing_declared d.parts).after (core_document d).programs d.parts
document_walk d h =
    let texts = document_texts d in
    let s = document_scope d.parts in
    let slots = document_slots (document_words d) d.parts in
    through texts s slots nothing_declared [] [] d.parts (from_start texts s slots) (document_has d) (parts_fault d h)

pub statements_apart : StatementsApart
statements_apart d h = All-weaker (λ c. Pairs AreApart c.statements) (λ c. EachPair AreApart c.statements)
    (λ c p. each_pair AreApart c.statements p) (core_document d).programs (document_walk d h).walked.apart

pub proofs_named : ProofsNamed
proofs_named d h = all_proofs (λ p. IsNamed (core_document d).programs p.program) (document_words d)
    (document_scope d.parts) d.parts (document_walk d h).proofs
