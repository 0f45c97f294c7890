-- Programs by name and core programs by number, side by side.
use Rattle.std.proofs.Common.{◌≡◌, ℕ, zero, suc, nat_eq, List, [], ◌∷◌, ◌++◌, Bool, true, false, cond, ◌||◌}
use Rattle.std.proofs.Common.{Option, Some, None, is_some, refl, sym, ap, ◌∙◌, subst, slice_get, inl, inr}
use Rattle.std.specs.Prelude.{⊤}
use Rattle.std.specs.Map.{lookup}
use Rattle.std.specs.Str.{bytes_eq}
use Rattle.std.proofs.lemmas.Bool.Decides.{eqb_tells}
use Rattle.std.proofs.lemmas.Slice.Eq.{bytes_eq-Decides}
use Rattle.indexmap.specs.IndexMap.{insert_entry}
use Rattle.unity_syntax.specs.declared.program.Program.{Program}
use Rattle.meaning_documents.specs.Programs.{Composed, Known, program_named}
use Rattle.core_terms.specs.declared.programs.CProgram.{CProgram}
use Rattle.core_terms.proofs.BoolLaws.{self_equal}
use Rattle.expand_declarations.specs.Texts.{Texts}
use Rattle.expand_declarations.specs.WordNumbers.{with_texts, word_number}
use Rattle.expand_correct.specs.Declared.WordLaws.{is_among}
use Rattle.expand_correct.proofs.Declared.Found.{numbers_tell}
use Rattle.expand_rules.specs.Programs.{ExpandsTo}
use Rattle.expand_documents.specs.Cores.{core_named}
use Rattle.expand_correct.proofs.Preserved.Sights.{same_text, other_text, found_entered}

-- whether a program has this name
abbrev pub is_named : Known → List ℕ → Bool
is_named known name = is_some (program_named name known)

pub named_some : (known : Known) (name : List ℕ) → is_named known name ≡ true →
    (c : Composed) × (program_named name known ≡ Some c)
named_some known name h = by (program_named name known) refl h
  where
    by : (o : Option Composed) → program_named name known ≡ o → is_some o ≡ true →
        (c : Composed) × (program_named name known ≡ Some c)
    by None e k = cc k
    by (Some c) e k = (c, e)

-- one more program

some_of_cond : {V : Type 0} (b : Bool) (x : V) (o : Option V) → is_some (cond b (Some x) o) ≡ (b || is_some o)
some_of_cond true x o = refl
some_of_cond false x o = refl

exchanged : (a b c : Bool) → (a || (b || c)) ≡ (b || (a || c))
exchanged true true c = refl
exchanged true false c = refl
exchanged false true c = refl
exchanged false false c = refl

pub named_with : (known : Known) (name : List ℕ) (c : Composed) (other : List ℕ) →
    is_named (known ++ (name, c) ∷ []) other ≡ (bytes_eq other name || is_named known other)
named_with [] name c other = some_of_cond (bytes_eq other name) c None
named_with (k ∷ known) name c other =
    some_of_cond (bytes_eq other k.0) k.1 (program_named other (known ++ (name, c) ∷ []))
    ∙ ap (λ b. bytes_eq other k.0 || b) (named_with known name c other)
    ∙ exchanged (bytes_eq other k.0) (bytes_eq other name) (is_named known other)
    ∙ ap (λ b. bytes_eq other name || b) (sym (some_of_cond (bytes_eq other k.0) k.1 (program_named other known)))

pub entered_with : {V : Type 0} (es : List (List ℕ × V)) (name : List ℕ) (v : V) (other : List ℕ) →
    is_some (lookup (bytes_eq other) (insert_entry bytes_eq es name v))
    ≡ (bytes_eq other name || is_some (lookup (bytes_eq other) es))
entered_with es name v other = ap (λ o. is_some o) (found_entered es name other v)
    ∙ some_of_cond (bytes_eq other name) v (lookup (bytes_eq other) es)

-- no two programs have one name
abbrev pub AreDistinct : Known → Type 0
AreDistinct [] = ⊤
AreDistinct (k ∷ known) = (is_named known k.0 ≡ false) × AreDistinct known

neither : (a b : Bool) → (a || b) ≡ false → (a ≡ false) × (b ≡ false)
neither true b h = cc h
neither false b h = (refl, h)

differ_back : (a b : List ℕ) → bytes_eq a b ≡ false → bytes_eq b a ≡ false
differ_back a b h = by (bytes_eq b a) refl
  where
    by : (c : Bool) → bytes_eq b a ≡ c → c ≡ false
    by true t = absurd (other_text a b h (sym (same_text b a t)))
    by false t = refl

pub distinct_with : (known : Known) (name : List ℕ) (c : Composed) → is_named known name ≡ false →
    AreDistinct known → AreDistinct (known ++ (name, c) ∷ [])
distinct_with [] name c fresh h = (refl, tt)
distinct_with (k ∷ known) name c fresh h =
    let n = neither (bytes_eq name k.0) (is_named known name)
    (sym (some_of_cond (bytes_eq name k.0) k.1 (program_named name known)) ∙ fresh) in (
      named_with known name c k.0 ∙ ap (λ b. b || is_named known k.0) (differ_back name k.0 n.0) ∙ h.0,
      distinct_with known name c n.1 h.1,
    )

-- a program behind another has another name
differs_behind : (known : Known) (first name : List ℕ) (c : Composed) → is_named known first ≡ false →
    program_named name known ≡ Some c → bytes_eq name first ≡ false
differs_behind known first name c fresh e = by (bytes_eq name first) refl
  where
    by : (b : Bool) → bytes_eq name first ≡ b → b ≡ false
    by true t =
        let both : true ≡ false = sym (ap (λ o. is_some o) e)
        ∙ ap (λ n. is_named known n) (same_text name first t) ∙ fresh in cc
    by false t = refl

taken : {V : Type 0} (b : Bool) (x : V) (o : Option V) → b ≡ true → cond b (Some x) o ≡ Some x
taken true x o h = refl
taken false x o h = cc h

skipped : {V : Type 0} (b : Bool) (x : V) (o : Option V) → b ≡ false → cond b (Some x) o ≡ o
skipped true x o h = cc h
skipped false x o h = refl

-- pairs

nat_same : (m n : ℕ) → nat_eq m n ≡ true → m ≡ n
nat_same m n t = elim (eqb_tells m n) [
  | inl w ↦ w.1
  | inr w ↦ let no = w.0 in cc
]

same_nat : (m n : ℕ) → m ≡ n → nat_eq m n ≡ true
same_nat m n e = subst (λ (k : ℕ). nat_eq m k ≡ true) e (self_equal m)

module _ (texts : Texts) (ps : List Program) where
  -- a program and its core program
  pub record IsPair (k : List ℕ × Composed) (p : CProgram) : Type 0 where
    pub written : is_among texts k.0 ≡ true
    pub name : p.name ≡ word_number (with_texts [] texts) k.0
    pub matches : ExpandsTo ps k.1 p

  abbrev pub ArePairs : Known → List CProgram → Type 0
  ArePairs [] [] = ⊤
  ArePairs [] (p ∷ cores) = ⊥
  ArePairs (k ∷ known) [] = ⊥
  ArePairs (k ∷ known) (p ∷ cores) = IsPair k p × ArePairs known cores

  pub pairs_with : (known : Known) (cores : List CProgram) (k : List ℕ × Composed) (p : CProgram) →
      ArePairs known cores → IsPair k p → ArePairs (known ++ k ∷ []) (cores ++ p ∷ [])
  pairs_with [] [] k p h i = (i, tt)
  pairs_with [] (q ∷ cores) k p h i = absurd h
  pairs_with (l ∷ known) [] k p h i = absurd h
  pairs_with (l ∷ known) (q ∷ cores) k p h i = (h.0, pairs_with known cores k p h.1 i)

  -- the core program of a name
  pub record FoundPair (cores : List CProgram) (name : List ℕ) (c : Composed) : Type 0 where
    pub core : CProgram
    pub found : core_named (word_number (with_texts [] texts) name) cores ≡ Some core
    pub pair : IsPair (name, c) core

  found_here : (k : List ℕ × Composed) (p : CProgram) (cores : List CProgram) (name : List ℕ) → IsPair k p →
      name ≡ k.0 → core_named (word_number (with_texts [] texts) name) (p ∷ cores) ≡ Some p
  found_here k p cores name h e = let number = word_number (with_texts [] texts) name in
      taken (nat_eq p.name number) p (core_named number cores)
      (same_nat p.name number (h.name ∙ ap (word_number (with_texts [] texts)) (sym e)))

  here : (k : List ℕ × Composed) (p : CProgram) (cores : List CProgram) (name : List ℕ) (c : Composed) →
      IsPair k p → name ≡ k.0 → k.1 ≡ c → FoundPair (p ∷ cores) name c
  here k p cores name c h e f = record {
    core = p;
    found = found_here k p cores name h e;
    pair = record {
      written = ap (is_among texts) e ∙ h.written;
      name = h.name ∙ ap (word_number (with_texts [] texts)) (sym e);
      matches = subst (λ (x : Composed). ExpandsTo ps x p) f h.matches;
    };
  }

  other_number : (k : List ℕ × Composed) (p : CProgram) (name : List ℕ) → IsPair k p →
      is_among texts name ≡ true → bytes_eq name k.0 ≡ false → (b : Bool) →
      nat_eq p.name (word_number (with_texts [] texts) name) ≡ b → b ≡ false
  other_number k p name h w e true t =
      absurd (other_text name k.0 e (sym (numbers_tell texts k.0 name h.written w
      (sym h.name ∙ nat_same p.name (word_number (with_texts [] texts) name) t))))
  other_number k p name h w e false t = refl

  there : (k : List ℕ × Composed) (p : CProgram) (cores : List CProgram) (name : List ℕ) (c : Composed) →
      IsPair k p → bytes_eq name k.0 ≡ false → FoundPair cores name c → FoundPair (p ∷ cores) name c
  there k p cores name c h e f = let number = word_number (with_texts [] texts) name in record {
    core = f.core;
    found = ap (λ b. cond b (Some p) (core_named number cores))
        (other_number k p name h f.pair.written e (nat_eq p.name number) refl) ∙ f.found;
    pair = f.pair;
  }

  pub found_pair : (known : Known) (cores : List CProgram) (name : List ℕ) (c : Composed) → ArePairs known cores →
      program_named name known ≡ Some c → FoundPair cores name c
  found_pair [] cores name c h e = cc e
  found_pair (k ∷ known) [] name c h e = absurd h
  found_pair (k ∷ known) (p ∷ cores) name c h e =
      by (bytes_eq name k.0) refl e (found_pair known cores name c h.1)
    where
      by : (b : Bool) → bytes_eq name k.0 ≡ b → cond b (Some k.1) (program_named name known) ≡ Some c →
          (program_named name known ≡ Some c → FoundPair cores name c) → FoundPair (p ∷ cores) name c
      by true t f rest = here k p cores name c h.0 (same_text name k.0 t) cc
      by false t f rest = there k p cores name c h.0 t (rest f)

  -- the program of which this is the core program
  pub record SourcePair (known : Known) (cores : List CProgram) (p : CProgram) : Type 0 where
    pub entry : List ℕ × Composed
    pub source : program_named entry.0 known ≡ Some entry.1
    pub found : core_named (word_number (with_texts [] texts) entry.0) cores ≡ Some p
    pub pair : IsPair entry p

  pub source_pair : (known : Known) (cores : List CProgram) (place : ℕ) (p : CProgram) → ArePairs known cores →
      AreDistinct known → slice_get cores place ≡ Some p → SourcePair known cores p
  source_pair [] [] place p h d e = cc e
  source_pair [] (q ∷ cores) place p h d e = absurd h
  source_pair (k ∷ known) [] place p h d e = cc e
  source_pair (k ∷ known) (q ∷ cores) zero p h d e =
      let same : q ≡ p = cc in
      subst (λ (r : CProgram). SourcePair (k ∷ known) (q ∷ cores) r) same (record {
        entry = k;
        source = taken (bytes_eq k.0 k.0) k.1 (program_named k.0 known) ((bytes_eq-Decides k.0 k.0).1 refl);
        found = found_here k q cores k.0 h.0 refl;
        pair = h.0;
      })
  source_pair (k ∷ known) (q ∷ cores) (suc place) p h d e =
      let r = source_pair known cores place p h.1 d.1 e in
      let number = word_number (with_texts [] texts) r.entry.0 in
      let other = differs_behind known k.0 r.entry.0 r.entry.1 d.0 r.source in record {
        entry = r.entry;
        source = skipped (bytes_eq r.entry.0 k.0) k.1 (program_named r.entry.0 known) other ∙ r.source;
        found = skipped (nat_eq q.name number) q (core_named number cores)
            (other_number k q r.entry.0 h.0 r.pair.written other (nat_eq q.name number) refl) ∙ r.found;
        pair = r.pair;
      }
