-- The symbol that a match on the first bytes finds is the longest of the table.
use Rattle.std.proofs.Common.{◌≡◌, ℕ, ◌≤◌, Bool, true, false, not, ◌&&◌, ◌==◌, cond, eqb-true, eq-eqb, List, [], ◌∷◌}
use Rattle.std.proofs.Common.{◌++◌, length, drop, Option, None, Some, refl, sym, ap, ◌∙◌, subst, arith, ◌⊎◌, inl, inr}
use Rattle.std.specs.Prelude.{Contains}
use Rattle.std.proofs.Math.Bool.{and-true}
use Rattle.std.proofs.lemmas.List.Elements.{Contains-append_left, Contains-append_right, Contains-push}
use Rattle.case_tables.specs.declared.symbol_table.Symbol.{Symbol}
use Rattle.case_tables.specs.TableRows.{symbol_rows}
use Rattle.unity_lexer.specs.Symbols.{next_is, next_are, first_symbol}
use Rattle.unity_lexer.proofs.Names.{row_of}
use Rattle.unity_lexer.proofs.Longest.{and_left, and_right, both, not_both}

abbrev Row : Type 0
Row = List ℕ × Symbol

-- whether the text begins with these bytes
abbrev pub begins : List ℕ → List ℕ → Bool
begins [] text = true
begins (w ∷ ws) [] = false
begins (w ∷ ws) (b ∷ bs) = b == w && begins ws bs

-- the first row with which the text begins
abbrev pub first_row : List Row → List ℕ → Option (Symbol × ℕ)
first_row [] text = None
first_row (row ∷ rows) text = cond (begins row.0 text) (Some (row.1, length row.0)) (first_row rows text)

-- no row of the list begins with these bytes
abbrev none_begin : List ℕ → List Row → Bool
none_begin w [] = true
none_begin w (row ∷ rows) = not (begins w row.0) && none_begin w rows

-- no row begins a later one
abbrev ordered : List Row → Bool
ordered [] = true
ordered (row ∷ rows) = none_begin row.0 rows && ordered rows

-- a test that fails does not pass
not_true : (b : Bool) → not b ≡ true → b ≡ true → ⊥
not_true true h k = cc
not_true false h k = cc

-- of two fronts of one text, the shorter begins the longer
both_fronts : (v w text : List ℕ) → begins v text ≡ true → begins w text ≡ true → length w ≤ length v → begins w v ≡
    true
both_fronts v [] text h k l = refl
both_fronts [] (w ∷ ws) text h k l = absurd (omega arith)
both_fronts (v ∷ vs) (w ∷ ws) [] h k l = cc
both_fronts (v ∷ vs) (w ∷ ws) (b ∷ bs) h k l =
    let e : b ≡ v = eqb-true b v (and_left (b == v) (begins vs bs) h) in
    let q : b ≡ w = eqb-true b w (and_left (b == w) (begins ws bs) k) in
    both (v == w) (begins ws vs) (eq-eqb v w (sym e ∙ q)) (both_fronts vs ws bs (and_right (b == v) (begins vs bs) h)
    (and_right (b == w) (begins ws bs) k) (omega arith))

-- where no row begins with these bytes, none of them does
none_begins : (w : List ℕ) (rows : List Row) (row : Row) → none_begin w rows ≡ true → Contains rows row → begins w row.0
    ≡ true → ⊥
none_begins w [] row h here k = omega (arith, here.1)
none_begins w (r ∷ rows) row h here k = elim (row_of r rows row here) [
  | inl same ↦ not_true (begins w row.0) (subst (λ (x : Row). not (begins w x.0) ≡ true) same (and_left _ _ h)) k
  | inr later ↦ none_begins w rows row (and_right _ _ h) later k
]

-- a row that begins the text, and the longest one
pub record IsLongestRow (rows : List Row) (text : List ℕ) (s : Symbol) (size : ℕ) : Type 0 where
  pub name : List ℕ
  pub contains : Contains rows (name, s)
  pub size_is : size ≡ length name
  pub begins_text : begins name text ≡ true
  pub longest : (other : Row) → Contains rows other → begins other.0 text ≡ true → length other.0 ≤ size

order : (m n : ℕ) → (m ≤ n) ⊎ (n ≤ m)
order m n = grind arith

-- one value is found
some_same : (x y : Symbol × ℕ) → ◌≡◌ {A = Option (Symbol × ℕ)} (Some x) (Some y) → x ≡ y
some_same x y h = cc

-- the first row of an ordered table is the longest
pub first_row_longest : (rows : List Row) (text : List ℕ) (s : Symbol) (size : ℕ) → ordered rows ≡ true → first_row rows
    text ≡ Some (s, size) → IsLongestRow rows text s size
first_row_longest [] text s size o h = cc
first_row_longest (r ∷ rows) text s size o h = at (λ e. first_row_longest rows text s size (and_right _ _ o) e)
    (begins r.0 text) refl h
  where
    at : (first_row rows text ≡ Some (s, size) → IsLongestRow rows text s size) → (t : Bool) → begins r.0 text ≡ t →
        cond t (Some (r.1, length r.0)) (first_row rows text) ≡ Some (s, size) → IsLongestRow (r ∷ rows) text s size
    at later true k e =
        let same : ◌≡◌ {A = Symbol × ℕ} (r.1, length r.0) (s, size) = some_same _ _ e in
        let size_is : size ≡ length r.0 = sym (ap (λ (p : Symbol × ℕ). p.1) same) in
        record {
          name = r.0;
          contains = subst (λ (x : Symbol). Contains (r ∷ rows) (r.0, x)) (ap (λ (p : Symbol × ℕ). p.0) same)
              (Contains-append_left (r ∷ []) rows r (Contains-push [] r));
          size_is = size_is;
          begins_text = k;
          longest = λ other here front. elim (row_of r rows other here) [
            | inl is ↦ subst (λ (x : Row). length x.0 ≤ size) is (omega arith)
            | inr after ↦ elim (order (length other.0) size) [
              | inl l ↦ l
              | inr l ↦ absurd (none_begins r.0 rows other (and_left _ _ o) after
                  (both_fronts other.0 r.0 text front k (omega arith)))
            ]
          ];
        }
    at later false k e =
        let found = later e in
        record {
          name = found.name;
          contains = Contains-append_right (r ∷ []) rows (found.name, s) found.contains;
          size_is = found.size_is;
          begins_text = found.begins_text;
          longest = λ other here front. elim (row_of r rows other here) [
            | inl is ↦ absurd (not_both (begins r.0 text) (subst (λ (x : Row). begins x.0 text ≡ true) (sym is) front)
                k)
            | inr after ↦ found.longest other after front
          ];
        }

-- where there is no first row, none begins the text
pub first_row_none : (rows : List Row) (text : List ℕ) → first_row rows text ≡ None → (row : Row) → Contains rows row →
    begins row.0 text ≡ true → ⊥
first_row_none [] text h row here front = omega (arith, here.1)
first_row_none (r ∷ rows) text h row here front = at (λ e after. first_row_none rows text e row after front)
    (begins r.0 text) refl h
  where
    at : (first_row rows text ≡ None → Contains rows row → ⊥) → (t : Bool) → begins r.0 text ≡ t → cond t
        (Some (r.1, length r.0)) (first_row rows text) ≡ None → ⊥
    at later true k e = cc
    at later false k e = elim (row_of r rows row here) [
      | inl is ↦ not_both (begins r.0 text) (subst (λ (x : Row). begins x.0 text ≡ true) (sym is) front) k
      | inr after ↦ later e after
    ]

-- one byte of a row, as the code tests it
one_more : (w : ℕ) (text : List ℕ) → begins (w ∷ []) text ≡ next_is w text
one_more w [] = refl
one_more w (b ∷ bs) = and-true (b == w)

-- two bytes of a row, as the code tests them
two_more : (w v : ℕ) (text : List ℕ) → begins (w ∷ v ∷ []) text ≡ next_are w v text
two_more w v [] = refl
two_more w v (b ∷ bs) = ap (λ t. b == w && t) (one_more v bs)

-- a text begins with its front
pub begins_append : (w text after : List ℕ) → text ≡ w ++ after → begins w text ≡ true
begins_append w text after e = subst (λ t. begins w t ≡ true) (sym e) (at w after)
  where
    at : (w after : List ℕ) → begins w (w ++ after) ≡ true
    at [] after = refl
    at (b ∷ bs) after = both (b == b) (begins bs (bs ++ after)) (eq-eqb b b refl) (at bs after)

-- and is it and the rest
pub append_begins : (w text : List ℕ) → begins w text ≡ true → text ≡ w ++ drop (length w) text
append_begins [] text h = refl
append_begins (w ∷ ws) [] h = cc
append_begins (w ∷ ws) (b ∷ bs) h =
    let e : b ≡ w = eqb-true b w (and_left (b == w) (begins ws bs) h) in
    let q : bs ≡ ws ++ drop (length ws) bs = append_begins ws bs (and_right (b == w) (begins ws bs) h) in
    ap (λ c. c ∷ bs) e ∙ ap (λ cs. w ∷ cs) q

-- rows with one first byte, in the table and in a match on that byte
module _ {X : Type 0} where
  -- a choice of symbols
  pick : (u u' : Bool) (a c : X) → u ≡ u' → cond u (Some a) (Some c) ≡ Some (cond u' a c)
  pick true u' a c e = ap (λ v. Some (cond v a c)) e
  pick false u' a c e = ap (λ v. Some (cond v a c)) e

  -- one symbol alone
  one : (t : Bool) (a : X) (r r' : Option X) → r ≡ r' → cond (t && true) (Some a) r ≡ cond t (Some a) r'
  one true a r r' e = refl
  one false a r r' e = e

  -- a longer symbol and a shorter one
  two : (t u u' : Bool) (a c : X) (r r' : Option X) → u ≡ u' → r ≡ r' → cond (t && u) (Some a)
      (cond (t && true) (Some c) r) ≡ cond t (Some (cond u' a c)) r'
  two false u u' a c r r' q e = e
  two true u u' a c r r' q e = pick u u' a c q

  -- two longer symbols and a shorter one
  three : (t u u' v v' : Bool) (a c d : X) (r r' : Option X) → u ≡ u' → v ≡ v' → r ≡ r' → cond (t && u) (Some a)
      (cond (t && v) (Some c) (cond (t && true) (Some d) r)) ≡ cond t (Some (cond u' a (cond v' c d))) r'
  three false u u' v v' a c d r r' p q e = e
  three true u u' v v' a c d r r' p q e = ap (cond u (Some a)) (pick v v' c d q) ∙ pick u u' a (cond v' c d) p

  -- a longer symbol alone
  longer : (t u u' : Bool) (a : X) (r r' : Option X) → u ≡ u' → (t ≡ true → r ≡ None) → r ≡ r' → cond (t && u) (Some a)
      r ≡ cond t (cond u' (Some a) None) r'
  longer false u u' a r r' q n e = e
  longer true u u' a r r' q n e = (λ i. cond (q i) (Some a) (n refl i))

  -- two longer symbols alone
  two_longer : (t u u' v v' : Bool) (a c : X) (r r' : Option X) → u ≡ u' → v ≡ v' → (t ≡ true → r ≡ None) → r ≡ r' →
      cond (t && u) (Some a) (cond (t && v) (Some c) r) ≡ cond t (cond u' (Some a) (cond v' (Some c) None)) r'
  two_longer false u u' v v' a c r r' p q n e = e
  two_longer true u u' v v' a c r r' p q n e = (λ i. cond (p i) (Some a) (cond (q i) (Some c) (n refl i)))

  -- rows of other first bytes stand between
  apart : (t u u' v v' : Bool) (a c d : X) (r r' : Option X) → u ≡ u' → v ≡ v' → (t ≡ true → r ≡ Some d) →
      (t ≡ false → r ≡ r') → cond (t && u) (Some a) (cond (t && v) (Some c) r) ≡ cond t (Some (cond u' a (cond v' c d)))
      r'
  apart false u u' v v' a c d r r' p q n e = e refl
  apart true u u' v v' a c d r r' p q n e = ap (λ x. cond u (Some a) (cond v (Some c) x)) (n refl) ∙ ap
      (cond u (Some a)) (pick v v' c d q) ∙ pick u u' a (cond v' c d) p

  -- rows that stand apart, with another first byte
  passed : (t u : Bool) (a c : X) (r r' : Option X) → t ≡ false → r ≡ r' → cond (t && u) (Some a)
      (cond (t && true) (Some c) r) ≡ r'
  passed true u a c r r' n e = cc
  passed false u a c r r' n e = e

-- the first row of the table is what a match on the first bytes finds
pub first_row_is : (text : List ℕ) → first_row symbol_rows text ≡ first_symbol text
first_row_is [] = refl
first_row_is (b ∷ bs) =
    three (b == 58) _ _ _ _ _ _ _ _ _ (one_more 61 bs) (one_more 58 bs)
    (two (b == 46) _ _ _ _ _ _ (one_more 46 bs)
    (one (b == 44) _ _ _ (one (b == 59) _ _ _ (one (b == 40) _ _ _ (one (b == 41) _ _ _
    (two (b == 91) _ _ _ _ _ _ (one_more 93 bs)
    (one (b == 93) _ _ _ (one (b == 123) _ _ _ (one (b == 125) _ _ _
    (apart (b == 60) _ _ _ _ _ _ _ _ _ (two_more 124 124 bs) (two_more 91 93 bs)
    (λ h. let e : b ≡ 60 = eqb-true b 60 h in rw e (pick _ _ _ _ (one_more 61 bs)))
    (λ no_less.
    two_longer (b == 124) _ _ _ _ _ _ _ _ (one_more 62 bs) (one_more 124 bs)
    (λ h. let e : b ≡ 124 = eqb-true b 124 h in rw e)
    (one (b == 126) _ _ _
    (passed (b == 60) _ _ _ _ _ no_less
    (two (b == 62) _ _ _ _ _ _ (one_more 61 bs)
    (two (b == 61) _ _ _ _ _ _ (one_more 62 bs)
    (longer (b == 47) _ _ _ _ _ (one_more 61 bs) (λ h. let e : b ≡ 47 = eqb-true b 47 h in rw e)
    (one (b == 43) _ _ _ (one (b == 45) _ _ _ (one (b == 42) _ _ _ refl)))))))))))))))))))
