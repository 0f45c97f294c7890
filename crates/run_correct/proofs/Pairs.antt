-- Programs and core programs side by side: the names of their instances.
use Rattle.std.proofs.Common.{◌≡◌, ℕ, nat_eq, List, [], ◌∷◌, ◌++◌, map, Bool, true, false, cond}
use Rattle.std.proofs.Common.{Option, Some, refl, sym, ap, ◌∙◌, subst}
use Rattle.std.specs.Prelude.{⊤}
use Rattle.std.specs.Str.{bytes_eq}
use Rattle.meaning_documents.specs.Programs.{Composed, Known, program_named}
use Rattle.core_terms.specs.declared.programs.CProgram.{CProgram}
use Rattle.expand_declarations.specs.Texts.{Texts}
use Rattle.expand_declarations.specs.WordNumbers.{with_texts, word_number}
use Rattle.expand_correct.specs.Declared.WordLaws.{is_among}
use Rattle.expand_correct.specs.Exact.Parts.{EachItem}
use Rattle.expand_correct.specs.from_expand_documents.Cores.{core_named}
use Rattle.run_correct.specs.Shown.{Showing, shown_named}
use Rattle.run_correct.specs.Laws.{core_name, numbered_name}
use Rattle.run_correct.proofs.Lists.{same_nat, same_text, text_same, some_same, numbers_as_texts}
use Rattle.run_correct.proofs.Labels.{HasLabel}

-- what the first test that passes gives
pub taken : {V : Type 0} (b : Bool) (x : V) (o : Option V) → b ≡ true → cond b (Some x) o ≡ Some x
taken true x o h = refl
taken false x o h = cc h

pub skipped : {V : Type 0} (b : Bool) (x : V) (o : Option V) → b ≡ false → cond b (Some x) o ≡ o
skipped true x o h = cc h
skipped false x o h = refl

other_way : (a b : List ℕ) → bytes_eq b a ≡ false → bytes_eq a b ≡ false
other_way a b h = by (bytes_eq a b) refl
  where
    by : (t : Bool) → bytes_eq a b ≡ t → t ≡ false
    by true e = let never : true ≡ false = sym (text_same b a (sym (same_text a b e))) ∙ h in cc
    by false e = refl

module _ (texts : Texts) where
  abbrev number : List ℕ → ℕ
  number = word_number (with_texts [] texts)

  -- a program with its name and the slots that it shows, and a core program: their names, and those of their instances
  pub record IsNamedPair (name : List ℕ) (c : Composed) (shown : List ℕ) (p : CProgram) : Type 0 where
    pub written : is_among texts name ≡ true
    pub numbered : p.name ≡ number name
    pub names : map core_name p.statements ≡ map (numbered_name (with_texts [] texts)) c.instances
    pub labels : EachItem (HasLabel texts) c.instances
    pub shows : p.shown ≡ shown

  abbrev pub ArePairs : Known → Showing → List CProgram → Type 0
  ArePairs [] [] [] = ⊤
  ArePairs [] [] (p ∷ cores) = ⊥
  ArePairs [] (s ∷ showing) cores = ⊥
  ArePairs (k ∷ known) [] cores = ⊥
  ArePairs (k ∷ known) (s ∷ showing) [] = ⊥
  ArePairs (k ∷ known) (s ∷ showing) (p ∷ cores) =
      (s.0 ≡ k.0) × IsNamedPair k.0 k.1 s.1 p × ArePairs known showing cores

  pub pairs_with : (known : Known) (showing : Showing) (cores : List CProgram) (name : List ℕ) (c : Composed)
      (shown : List ℕ) (p : CProgram) → ArePairs known showing cores → IsNamedPair name c shown p →
      ArePairs (known ++ (name, c) ∷ []) (showing ++ (name, shown) ∷ []) (cores ++ p ∷ [])
  pairs_with [] [] [] name c shown p h i = (refl, i, tt)
  pairs_with [] [] (q ∷ cores) name c shown p h i = absurd h
  pairs_with [] (s ∷ showing) cores name c shown p h i = absurd h
  pairs_with (k ∷ known) [] cores name c shown p h i = absurd h
  pairs_with (k ∷ known) (s ∷ showing) [] name c shown p h i = absurd h
  pairs_with (k ∷ known) (s ∷ showing) (q ∷ cores) name c shown p h i =
      (h.0, h.1, pairs_with known showing cores name c shown p h.2 i)

  -- the core program of a name
  pub record FoundPair (showing : Showing) (cores : List CProgram) (name : List ℕ) (c : Composed) : Type 0 where
    pub core : CProgram
    pub found : core_named (number name) cores ≡ Some core
    pub pair : IsNamedPair name c (shown_named name showing) core

  here : (first name : List ℕ) (c e : Composed) (shown : List ℕ) (p : CProgram)
      (showing : Showing) (cores : List CProgram) → IsNamedPair first c shown p → name ≡ first → c ≡ e →
      bytes_eq name first ≡ true → FoundPair ((first, shown) ∷ showing) (p ∷ cores) name e
  here first name c e shown p showing cores h same alike t = record {
    core = p;
    found = taken (nat_eq p.name (number name)) p (core_named (number name) cores)
        (same_nat p.name (number name) (h.numbered ∙ ap number (sym same)));
    pair = subst (λ (x : Composed). IsNamedPair name x (shown_named name ((first, shown) ∷ showing)) p) alike
        (subst (λ (n : List ℕ). IsNamedPair n c (shown_named name ((first, shown) ∷ showing)) p) (sym same)
        (subst (λ (ns : List ℕ). IsNamedPair first c ns p) (sym (ap (λ b. cond b shown (shown_named name showing)) t))
        h));
  }

  there : (first name : List ℕ) (c e : Composed) (shown : List ℕ) (p : CProgram) (showing : Showing)
      (cores : List CProgram) → IsNamedPair first c shown p → bytes_eq name first ≡ false →
      FoundPair showing cores name e → FoundPair ((first, shown) ∷ showing) (p ∷ cores) name e
  there first name c e shown p showing cores h other f = record {
    core = f.core;
    found = skipped (nat_eq p.name (number name)) p (core_named (number name) cores)
        (ap (λ n. nat_eq n (number name)) h.numbered
        ∙ numbers_as_texts texts first name h.written f.pair.written ∙ other_way first name other) ∙ f.found;
    pair = subst (λ (ns : List ℕ). IsNamedPair name e ns f.core)
        (sym (ap (λ b. cond b shown (shown_named name showing)) other)) f.pair;
  }

  pub found_pair : (known : Known) (showing : Showing) (cores : List CProgram) (name : List ℕ) (c : Composed) →
      ArePairs known showing cores → program_named name known ≡ Some c → FoundPair showing cores name c
  found_pair [] showing cores name c h e = cc e
  found_pair (k ∷ known) [] cores name c h e = absurd h
  found_pair (k ∷ known) (s ∷ showing) [] name c h e = absurd h
  found_pair (k ∷ known) (s ∷ showing) (p ∷ cores) name c h e =
      subst (λ (first : List ℕ). FoundPair ((first, s.1) ∷ showing) (p ∷ cores) name c) (sym h.0)
      (by (bytes_eq name k.0) refl e (found_pair known showing cores name c h.2))
    where
      by : (b : Bool) → bytes_eq name k.0 ≡ b → cond b (Some k.1) (program_named name known) ≡ Some c →
          (program_named name known ≡ Some c → FoundPair showing cores name c) →
          FoundPair ((k.0, s.1) ∷ showing) (p ∷ cores) name c
      by true t f rest = here k.0 name k.1 c s.1 p showing cores h.1 (same_text name k.0 t) (some_same k.1 c f) t
      by false t f rest = there k.0 name k.1 c s.1 p showing cores h.1 t (rest f)
