-- Names in a table: whether there is a row, and that there is one at most.
use Rattle.std.proofs.Common.{◌≡◌, ℕ, Bool, true, false, not, ◌&&◌, ◌==◌, eqb-true, eq-eqb, List, [], ◌∷◌, refl, sym}
use Rattle.std.proofs.Common.{ap, ◌∙◌, subst, arith, ◌⊎◌, inl, inr}
use Rattle.std.specs.Prelude.{Contains}
use Rattle.std.specs.List.{list_all}
use Rattle.std.proofs.lemmas.List.Elements.{Contains-append_left, Contains-append_right, Contains-append_cases}
use Rattle.std.proofs.lemmas.List.Elements.{Contains-push, Contains-push_cases}
use Rattle.case_tables.specs.Rows.{HasName}
use Rattle.unity_lexer.proofs.Longest.{and_left, and_right, both, row_passes, not_both}

-- whether two names are one
abbrev pub same_name : List ℕ → List ℕ → Bool
same_name [] [] = true
same_name [] (b ∷ bs) = false
same_name (a ∷ as') [] = false
same_name (a ∷ as') (b ∷ bs) = a == b && same_name as' bs

same_from : (v w : List ℕ) → same_name v w ≡ true → v ≡ w
same_from [] [] h = refl
same_from [] (b ∷ bs) h = cc
same_from (a ∷ v) [] h = cc
same_from (a ∷ v) (b ∷ w) h =
    let e : a ≡ b = eqb-true a b (and_left (a == b) (same_name v w) h) in
    let q : v ≡ w = same_from v w (and_right (a == b) (same_name v w) h) in
    (λ i. e i ∷ q i)

same_itself : (w : List ℕ) → same_name w w ≡ true
same_itself [] = refl
same_itself (b ∷ w) = both (b == b) (same_name w w) (eq-eqb b b refl) (same_itself w)

module _ {X : Type 0} where
  -- a row is the first one or one of the others
  pub row_of : (r : List ℕ × X) (rows : List (List ℕ × X)) (x : List ℕ × X) → Contains (r ∷ rows) x → (r ≡ x) ⊎ Contains
      rows x
  row_of r rows x here = elim (Contains-append_cases (r ∷ []) rows x here) [
    | inl first ↦ elim (Contains-push_cases [] r x first) [
      | inl none ↦ absurd (omega (arith, none.1))
      | inr same ↦ inl
          same
    ]
    | inr later ↦ inr later
  ]

  -- whether no two rows have one name
  abbrev pub are_apart : List (List ℕ × X) → Bool
  are_apart [] = true
  are_apart (row ∷ rows) = list_all (λ (other : List ℕ × X). not (same_name row.0 other.0)) rows && are_apart rows

  -- no row has a name that differs from each row's
  clash : (w : List ℕ) (rows : List (List ℕ × X)) (x y : X) → list_all
      (λ (other : List ℕ × X). not (same_name w other.0)) rows ≡ true → Contains rows (w, y) → ⊥
  clash w rows x y h here =
      let differs : not (same_name w w) ≡ true = row_passes (λ (other : List ℕ × X). not (same_name w other.0)) rows
      (w, y) h here in
      let same : same_name w w ≡ true = same_itself w in
      not_both false (sym (ap not same) ∙ differs) refl

  -- where names differ, a name has one value
  pub one_value : (rows : List (List ℕ × X)) (w : List ℕ) (x y : X) → are_apart rows ≡ true → Contains rows (w, x) →
      Contains rows (w, y) → x ≡ y
  one_value [] w x y h here there = absurd (omega (arith, here.1))
  one_value (r ∷ rows) w x y h here there = elim (row_of r rows (w, x) here) [
    | inl e ↦ elim (row_of r rows (w, y) there) [
      | inl q ↦ ap (λ (p : List ℕ × X). p.1) (sym e ∙ q)
      | inr later ↦ absurd (clash w rows x y (subst (λ (p : List ℕ × X). list_all
          (λ (other : List ℕ × X). not (same_name p.0 other.0)) rows ≡ true) e (and_left _ _ h)) later)
    ]
    | inr earlier ↦ elim (row_of r rows (w, y) there) [
      | inl q ↦ absurd (clash w rows y x (subst (λ (p : List ℕ × X). list_all
          (λ (other : List ℕ × X). not (same_name p.0 other.0)) rows ≡ true) q (and_left _ _ h)) earlier)
      | inr later ↦ one_value rows w x y (and_right _ _ h) earlier later
    ]
  ]

  -- a table has a name or not
  pub has_name : (rows : List (List ℕ × X)) (w : List ℕ) → HasName rows w ⊎ (HasName rows w → ⊥)
  has_name [] w = inr (λ named. omega (arith, named.1.1))
  has_name (r ∷ rows) w = at (has_name rows w) (same_name r.0 w) refl
    where
      at : HasName rows w ⊎ (HasName rows w → ⊥) → (t : Bool) → same_name r.0 w ≡ t → HasName (r ∷ rows) w ⊎
          (HasName (r ∷ rows) w → ⊥)
      at rest true h = inl (
        r.1,
        subst (λ (v : List ℕ). Contains (r ∷ rows) (v, r.1)) (same_from r.0 w h)
            (Contains-append_left (r ∷ []) rows r (Contains-push [] r)),
      )
      at (inl named) false h = inl (named.0, Contains-append_right (r ∷ []) rows (w, named.0) named.1)
      at (inr none) false h = inr (λ named. elim (row_of r rows (w, named.0) named.1) [
        | inl e ↦ not_both (same_name r.0 w) (subst (λ (p : List ℕ × X). same_name r.0 p.0 ≡ true) e (same_itself r.0))
            h
        | inr later ↦ none (named.0, later)
      ])
