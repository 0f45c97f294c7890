-- What is said of programs, said of their union.
use Rattle.std.proofs.Common.{◌≡◌, ℕ, ◌^◌, ◌≤◌, max, List, [], ◌∷◌, ◌++◌, length, Bool, true, false, cond, ◌||◌}
use Rattle.std.proofs.Common.{refl, ap, ◌∙◌, subst, arith, get_or, nat_eq, nat_lt}
use Rattle.std.proofs.lemmas.List.Elements.{All-append, All-weaker}
use Rattle.std.proofs.lemmas.Bool.{eqb-true, eq-eqb, ltb-false}
use Rattle.std.specs.Prelude.{filter}
use Rattle.std.specs.List.{list_any}
use Rattle.core_terms.specs.declared.trees.CForm.{CForm}
use Rattle.core_terms.specs.declared.programs.CStmt.{CStmt}
use Rattle.core_terms.specs.Places.{form_names_only}
use Rattle.core_terms.specs.Folding.{and_form}
use Rattle.core_terms.specs.Weights.{form_weight, slot_weight, place_weight}
use Rattle.core_terms.specs.Unions.{with_slot, merged}
use Rattle.core_terms.specs.Conditions.{is_below, is_shown, any_place, StatementFits, NamesShown}
use Rattle.expand_correct.proofs.Values.Lightness.{and_light}
use Rattle.expand_fits_parts.specs.Forms.Programs.{KeepsFit, UnionsKeep, UnionsShow}
use Rattle.expand_fits_parts.proofs.Forms.Below.{forms_below}
use Rattle.expand_fits_parts.proofs.Forms.NamedForms.{and_names}
use Rattle.expand_fits_parts.proofs.Forms.ReadWords.{or_first, or_second}
use Rattle.expand_fits_parts.proofs.Forms.Wider.{form_wider, term_wider}

pub keeps_fit : KeepsFit
keeps_fit slots c k =
    let b = forms_below (length slots) 0 c.initially k.names in
    record {
      statements = k.statements;
      initially = record { slots_exist = b.0; params_exist = b.1; weight = k.weighs };
    }

no_more : (a b c n : ℕ) → c ≤ max a b → a ≤ n → b ≤ n → c ≤ n
no_more a b c n h i j = omega (arith, h, i, j)

pub unions_keep : UnionsKeep
unions_keep slots name f g h k = record {
  statements = All-append (StatementFits slots) f.statements g.statements h.statements k.statements;
  names = and_names (is_below (length slots)) (is_below 0) f.initially g.initially h.names k.names;
  weighs = no_more (form_weight (slot_weight slots) (place_weight []) f.initially)
      (form_weight (slot_weight slots) (place_weight []) g.initially)
      (form_weight (slot_weight slots) (place_weight []) (and_form f.initially g.initially)) (2 ^ 62)
      (and_light (slot_weight slots) (place_weight []) f.initially g.initially) h.weighs k.weighs;
}

-- slots of two lists are shown

any_left : (test : ℕ → Bool) (xs ys : List ℕ) → list_any test xs ≡ true → list_any test (xs ++ ys) ≡ true
any_left test [] ys h = cc h
any_left test (x ∷ xs) ys h = by (test x) h (any_left test xs ys)
  where
    by : (b : Bool) → (b || list_any test xs) ≡ true → (list_any test xs ≡ true → list_any test (xs ++ ys) ≡ true) →
        (b || list_any test (xs ++ ys)) ≡ true
    by true p rest = refl
    by false p rest = rest p

any_right : (test : ℕ → Bool) (xs ys : List ℕ) → list_any test ys ≡ true → list_any test (xs ++ ys) ≡ true
any_right test [] ys h = h
any_right test (x ∷ xs) ys h = or_second (test x) (list_any test (xs ++ ys)) (any_right test xs ys h)

or_more : (a b c : Bool) → (b ≡ true → c ≡ true) → (a || b) ≡ true → (a || c) ≡ true
or_more true b c h p = refl
or_more false b c h p = h p

or_other : (a b : Bool) → (a ≡ true → ⊥) → (a || b) ≡ true → b ≡ true
or_other true b never p = absurd (never refl)
or_other false b never p = p

false_true : false ≡ true → ⊥
false_true e = cc e

-- a number that passes is among those that pass
shown_filtered : (p : ℕ → Bool) (xs : List ℕ) (m : ℕ) → p m ≡ true → is_shown xs m ≡ true →
    is_shown (filter p xs) m ≡ true
shown_filtered p [] m h k = k
shown_filtered p (x ∷ xs) m h k = by (p x) (λ e. ap p (eqb-true x m e) ∙ h) (shown_filtered p xs m h)
  where
    by : (b : Bool) → (nat_eq x m ≡ true → b ≡ true) → (is_shown xs m ≡ true → is_shown (filter p xs) m ≡ true) →
        is_shown (cond b (x ∷ filter p xs) (filter p xs)) m ≡ true
    by true same rest = or_more (nat_eq x m) (is_shown xs m) (is_shown (filter p xs) m) rest k
    by false same rest = rest (or_other (nat_eq x m) (is_shown xs m) (λ e. false_true (same e)) k)

with_new : (slots : List ℕ) (n : ℕ) → is_shown (with_slot slots n) n ≡ true
with_new slots n = any_right (λ k. nat_eq k n) (filter (λ x. nat_lt x n) slots) (n ∷ filter (λ x. nat_lt n x) slots)
    (or_first (nat_eq n n) (is_shown (filter (λ x. nat_lt n x) slots) n) (eq-eqb n n refl))

with_old : (slots : List ℕ) (n m : ℕ) → is_shown slots m ≡ true → is_shown (with_slot slots n) m ≡ true
with_old slots n m h = by (nat_lt m n) (nat_lt n m) refl refl
  where
    low : List ℕ
    low = filter (λ x. nat_lt x n) slots

    high : List ℕ
    high = filter (λ x. nat_lt n x) slots

    by : (b c : Bool) → nat_lt m n ≡ b → nat_lt n m ≡ c → is_shown (with_slot slots n) m ≡ true
    by true c e f = any_left (λ k. nat_eq k m) low (n ∷ high) (shown_filtered (λ x. nat_lt x n) slots m e h)
    by false true e f = any_right (λ k. nat_eq k m) low (n ∷ high) (or_second (nat_eq n m) (is_shown high m)
        (shown_filtered (λ x. nat_lt n x) slots m f h))
    by false false e f =
        let a = ltb-false m n e in
        let b = ltb-false n m f in
        let same : n ≡ m = omega (arith, a, b) in
        subst (λ k. is_shown (with_slot slots n) k ≡ true) same (with_new slots n)

pub shown_first : (slots more : List ℕ) (m : ℕ) → is_shown slots m ≡ true → is_shown (merged slots more) m ≡ true
shown_first slots [] m h = h
shown_first slots (n ∷ more) m h = shown_first (with_slot slots n) more m (with_old slots n m h)

pub shown_second : (slots more : List ℕ) (m : ℕ) → is_shown more m ≡ true → is_shown (merged slots more) m ≡ true
shown_second slots [] m h = cc h
shown_second slots (n ∷ more) m h = by (nat_eq n m) (eqb-true n m) h (shown_second (with_slot slots n) more m)
  where
    by : (b : Bool) → (b ≡ true → n ≡ m) → (b || is_shown more m) ≡ true →
        (is_shown more m ≡ true → is_shown (merged (with_slot slots n) more) m ≡ true) →
        is_shown (merged (with_slot slots n) more) m ≡ true
    by true same p rest = shown_first (with_slot slots n) more m
        (subst (λ k. is_shown (with_slot slots n) k ≡ true) (same refl) (with_new slots n))
    by false same p rest = rest p

module _ (some more : List ℕ) (wider : (n : ℕ) → is_shown some n ≡ true → is_shown more n ≡ true) where
  form_shown : (f : CForm) → form_names_only (is_shown some) any_place f ≡ true →
      form_names_only (is_shown more) any_place f ≡ true
  form_shown f h = form_wider (is_shown some) any_place (is_shown more) any_place wider (λ n p. p) f h

  statement_shown : (s : CStmt) → NamesShown some s → NamesShown more s
  statement_shown s h = record {
    outside = λ k d lt. form_shown (get_or s.outside k d) (h.outside k d lt);
    targets = λ k d lt. wider (get_or s.writes k d).slot (h.targets k d lt);
    conditions = λ k d lt. form_shown (get_or s.writes k d).when (h.conditions k d lt);
    values = λ k d lt. term_wider (is_shown some) any_place (is_shown more) any_place wider (λ n p. p)
        (get_or s.writes k d).value (h.values k d lt);
  }

pub unions_show : UnionsShow
unions_show name f g h k =
    let shown = merged f.shown g.shown in
    let left = shown_first f.shown g.shown in
    let right = shown_second f.shown g.shown in
    record {
      statements = All-append (NamesShown shown) f.statements g.statements
          (All-weaker (NamesShown f.shown) (NamesShown shown) (statement_shown f.shown shown left) f.statements
          h.statements)
          (All-weaker (NamesShown g.shown) (NamesShown shown) (statement_shown g.shown shown right) g.statements
          k.statements);
      initially = and_names (is_shown shown) any_place f.initially g.initially
          (form_shown f.shown shown left f.initially h.initially)
          (form_shown g.shown shown right g.initially k.initially);
    }
