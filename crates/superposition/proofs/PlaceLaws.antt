-- Lists gone over together, place by place.
use Rattle.std.proofs.Common.{◌≡◌, ℕ, suc, ◌+◌, ◌<◌, nat_eq, Bool, false, cond, List, ◌∷◌, length, drop}
use Rattle.std.proofs.Common.{slice_index_or, add-one, sym, ap, ◌∙◌, inl, inr}
use Rattle.std.specs.Prelude.{filter}
use Rattle.std.proofs.Math.Seq.{drop-cons}
use Rattle.std.proofs.lemmas.Bool.Decides.{eqb_tells}
use Rattle.core_terms.specs.declared.programs.CStmt.{CStmt}
use Rattle.safety_rules.specs.from_rules_table.Layers.{all_two, label_over}

-- what is left of a list is tested against those items of another that are kept
abbrev pub Matched : {A : Type 0} → (A → A → Bool) → (A → Bool) → List A → List A → ℕ → ℕ → Type 0
Matched test keep xs all place i =
    all_two test (drop place xs) (filter keep (drop i all)) ≡ all_two test xs (filter keep all)

-- the label over another, past a place that has a third
pub over_passed : (label : ℕ) (fs hs : List CStmt) (i : ℕ) (s : CStmt) → i < length fs → i < length hs →
    s ≡ slice_index_or fs i s → (s.label ≡ label → ⊥) →
    label_over (drop i fs) (drop i hs) label ≡ label_over fs hs label →
    label_over (drop (i + 1) fs) (drop (i + 1) hs) label ≡ label_over fs hs label
over_passed label fs hs i s less fewer is apart whole =
    sym (ap (λ l. label_over l (drop i hs) label) (drop-cons fs i s less
    ∙ ap (λ t. t ∷ drop (suc i) fs) (sym is) ∙ ap (λ n. s ∷ drop n fs) (sym (add-one i)))
    ∙ ap (λ l. label_over (s ∷ drop (i + 1) fs) l label) (drop-cons hs i s fewer)
    ∙ ap (λ n. label_over (s ∷ drop (i + 1) fs) (slice_index_or hs i s ∷ drop n hs) label) (sym (add-one i))
    ∙ ap (λ b. cond b (slice_index_or hs i s).label (label_over (drop (i + 1) fs) (drop (i + 1) hs) label)) other)
    ∙ whole
  where
    other : nat_eq s.label label ≡ false
    other = elim (eqb_tells s.label label) [ inl w ↦ absurd (apart w.1) | inr w ↦ w.0 ]
