-- Disjunctions of many formulas: one after the other, of formulas whose truth is known, and too large ones.
use Rattle.std.proofs.Common.{◌≡◌, ℕ, zero, suc, ◌+◌, ◌-◌, ◌<◌, ◌≤◌, ℤ, pos, ◌+ℤ◌, Bool, true, false, cond, ◌||◌, List}
use Rattle.std.proofs.Common.{[], ◌∷◌, ◌++◌, map, length, Option, Some, None, refl, sym, ap, ◌∙◌, arith, zero-add}
use Rattle.std.specs.Prelude.{MatchOption, Result, Ok, Err, IfOk}
use Rattle.std.proofs.lemmas.Int.{ints}
use Rattle.core_terms.specs.declared.trees.CForm.{CForm, fold-roll-CForm}
use Rattle.core_terms.specs.declared.trees.CForm.TheOpen.{CForm-F}
use Rattle.core_terms.specs.declared.trees.CForm.TheVariants.{Top, Bottom, Or, rolls-Or}
use Rattle.core_terms.specs.Folding.{joined, truth_of, truth_or, or_form}
use Rattle.core_terms.specs.Sizes.{form_size, term_size, form_nodes}
use Rattle.core_terms.proofs.KnownLaws.{known_folded_form}
use Rattle.leadsto_rules.proofs.PartLaws.{truth-Top, truth-Bottom, truth-Or}
use Rattle.rules_table.specs.Forms.{or_any, any_of}
use Rattle.meaning_executions.specs.Counting.{count_up}

or_append : (f : CForm) (fs gs : List CForm) → or_any f (fs ++ gs) ≡ or_any (or_any f fs) gs
or_append f [] gs = refl
or_append f (g ∷ fs) gs = or_append (or_form f g) fs gs

any_append : (fs gs : List CForm) → 1 ≤ length fs → any_of (fs ++ gs) ≡ or_any (any_of fs) gs
any_append [] gs h = absurd (omega (arith, h))
any_append (f ∷ fs) gs h = or_append f fs gs

module _ (f : ℤ → CForm) where
  counted_on : (z : ℤ) (n k : ℕ) → map f (count_up z (n + k)) ≡
      map f (count_up z n) ++ map f (count_up (z +ℤ pos n) k)
  counted_on z zero k =
      let same : z ≡ z +ℤ pos 0 = omega (arith, ints) in
      ap (λ n. map f (count_up z n)) (zero-add k) ∙ ap (λ y. map f (count_up y k)) same
  counted_on z (suc n) k =
      let more : suc n + k ≡ suc (n + k) = omega arith in
      let same : (z +ℤ pos 1) +ℤ pos n ≡ z +ℤ pos (suc n) = omega (arith, ints) in
      ap (λ n. map f (count_up z n)) more ∙ ap (λ fs. f z ∷ fs) (counted_on (z +ℤ pos 1) n k
      ∙ ap (λ y. map f (count_up (z +ℤ pos 1) n) ++ map f (count_up y k)) same)

  long : (z : ℤ) (n : ℕ) → length (map f (count_up z n)) ≡ n
  long z zero = refl
  long z (suc n) = ap (λ n. suc n) (long (z +ℤ pos 1) n)

  -- further numbers after the first ones
  pub any_more : (z y : ℤ) (n k : ℕ) → 1 ≤ n → y ≡ z +ℤ pos n →
      any_of (map f (count_up z (n + k))) ≡ or_any (any_of (map f (count_up z n))) (map f (count_up y k))
  any_more z y n k some same =
      ap any_of (counted_on z n k)
      ∙ any_append (map f (count_up z n)) (map f (count_up (z +ℤ pos n) k)) (omega (arith, long z n, some))
      ∙ ap (λ y. or_any (any_of (map f (count_up z n))) (map f (count_up y k))) (sym same)

-- the form of a truth
abbrev pub settled : Bool → CForm
settled b = cond b Top Bottom

pub truth_settled : (b : Bool) → truth_of (settled b) ≡ Some b
truth_settled true = truth-Top
truth_settled false = truth-Bottom

or_settled : (f g : CForm) (b h : Bool) → truth_of f ≡ Some b → truth_of g ≡ Some h → or_form f g ≡ settled (b || h)
or_settled f g b h one two =
    ap (λ m. truth_or m (Or f g)) (truth-Or f g ∙ ap (λ m. joined (λ x y. x || y) m (truth_of g)) one
    ∙ ap (λ m. joined (λ x y. x || y) (Some b) m) two)

again : (b h : Bool) → ((b || h) || h) ≡ (b || h)
again true h = refl
again false true = refl
again false false = refl

module _ (f : ℤ → CForm) (h : Bool) where
  rest_settled : (b : Bool) (y : ℤ) (n : ℕ) → ((k : ℕ) → k < n → truth_of (f (y +ℤ pos k)) ≡ Some h) →
      or_any (settled (b || h)) (map f (count_up y n)) ≡ settled (b || h)
  rest_settled b y zero known = refl
  rest_settled b y (suc n) known =
      let here : y +ℤ pos 0 ≡ y = omega (arith, ints) in
      let first : truth_of (f y) ≡ Some h = ap (λ x. truth_of (f x)) (sym here) ∙ known 0 (omega arith) in
      ap (λ g. or_any g (map f (count_up (y +ℤ pos 1) n)))
      (or_settled (settled (b || h)) (f y) (b || h) h (truth_settled (b || h)) first ∙ ap settled (again b h))
      ∙ rest_settled b (y +ℤ pos 1) n (λ k less.
      let next : (y +ℤ pos 1) +ℤ pos k ≡ y +ℤ pos (suc k) = omega (arith, ints) in
      ap (λ x. truth_of (f x)) next ∙ known (suc k) (omega (arith, less)))

  -- numbers at which the truth is the same, after a formula whose truth is known
  pub any_settled : (w : CForm) (b : Bool) (y : ℤ) (n m : ℕ) → m ≡ suc n → truth_of w ≡ Some b →
      ((k : ℕ) → k ≤ n → truth_of (f (y +ℤ pos k)) ≡ Some h) →
      or_any w (map f (count_up y m)) ≡ settled (b || h)
  any_settled w b y n m e truth known =
      let here : y +ℤ pos 0 ≡ y = omega (arith, ints) in
      let first : truth_of (f y) ≡ Some h = ap (λ x. truth_of (f x)) (sym here) ∙ known 0 (omega arith) in
      ap (λ m. or_any w (map f (count_up y m))) e
      ∙ ap (λ g. or_any g (map f (count_up (y +ℤ pos 1) n))) (or_settled w (f y) b h truth first)
      ∙ rest_settled b (y +ℤ pos 1) n (λ k less.
      let next : (y +ℤ pos 1) +ℤ pos k ≡ y +ℤ pos (suc k) = omega (arith, ints) in
      ap (λ x. truth_of (f x)) next ∙ known (suc k) (omega (arith, less)))

nodes-Or : (f g : CForm) → form_nodes (Or f g) ≡ 1 + form_nodes f + form_nodes g
nodes-Or f g = ap form_nodes (sym (rolls-Or f g)) ∙ fold-roll-CForm ℕ ℕ form_size term_size (CForm-F.Or f g)

not_folded : (m : Option Bool) (f : CForm) → m ≡ None → truth_or m f ≡ f
not_folded None f e = refl
not_folded (Some b) f e = cc

none_first : (m n : Option Bool) → m ≡ None → joined (λ x y. x || y) m n ≡ None
none_first None n e = refl
none_first (Some b) n e = cc

-- an open disjunction only grows
pub open_grows : (f : CForm) (gs : List CForm) → truth_of f ≡ None → form_nodes f ≤ form_nodes (or_any f gs)
open_grows f [] e = omega arith
open_grows f (g ∷ gs) e =
    let none : truth_of (Or f g) ≡ None = truth-Or f g ∙ none_first (truth_of f) (truth_of g) e in
    let is : or_form f g ≡ Or f g = not_folded (truth_of (Or f g)) (Or f g) none in
    let nodes : form_nodes (or_form f g) ≡ 1 + form_nodes f + form_nodes g = ap form_nodes is ∙ nodes-Or f g in
    let rest = open_grows (or_form f g) gs (ap truth_of is ∙ none) in
    omega (arith, nodes, rest)

-- what is counted of two formulas is no more than the nodes of their disjunction
pub counted : (f g : CForm) (m : Option Bool) (n a b : ℕ) → m ≡ truth_of (or_form f g) → a ≤ form_nodes f →
    b ≤ form_nodes g → MatchOption m (n ≤ 1 + a + b) (λ h. n ≡ 0) → n ≤ form_nodes (or_form f g)
counted f g None n a b e less fewer h =
    let none : truth_of (Or f g) ≡ None = sym (known_folded_form (Or f g)) ∙ sym e in
    let is : or_form f g ≡ Or f g = not_folded (truth_of (Or f g)) (Or f g) none in
    let nodes : form_nodes (or_form f g) ≡ 1 + form_nodes f + form_nodes g = ap form_nodes is ∙ nodes-Or f g in
    omega (arith, nodes, less, fewer, h)
counted f g (Some x) n a b e less fewer h = omega (arith, h)

pub or_true : (b h : Bool) → b ≡ true → (b || h) ≡ b
or_true true h e = refl
or_true false h e = cc

pub or_false : (b h : Bool) → b ≡ false → (b || h) ≡ h
or_false false h e = refl
or_false true h e = cc

module _ (f : ℤ → CForm) (z y : ℤ) (n m : ℕ) (w x : CForm) (some : 1 ≤ n) (next : y ≡ z +ℤ pos n)
    (before : w ≡ any_of (map f (count_up z n))) where
  -- one number more
  pub one_joined : (g : CForm) → m ≡ n + 1 → g ≡ f y → x ≡ or_form w g → x ≡ any_of (map f (count_up z m))
  one_joined g count is whole =
      whole ∙ ap (or_form w) is ∙ ap (λ v. or_form v (f y)) before ∙ sym (any_more f z y n 1 some next)
      ∙ ap (λ k. any_of (map f (count_up z k))) (sym count)

  -- numbers at which the truth is the same
  pub some_joined : (k : ℕ) (b : Bool) → m ≡ n + k → or_any w (map f (count_up y k)) ≡ settled b → x ≡ settled b →
      x ≡ any_of (map f (count_up z m))
  some_joined k b count rest whole =
      whole ∙ sym rest ∙ ap (λ v. or_any v (map f (count_up y k))) before ∙ sym (any_more f z y n k some next)
      ∙ ap (λ k. any_of (map f (count_up z k))) (sym count)

-- what is too large stays so
pub too_large : (f : ℤ → CForm) (z : ℤ) (n total : ℕ) (w : CForm) → 1 ≤ n → n ≤ total →
    w ≡ any_of (map f (count_up z n)) → truth_of w ≡ None → 65536 < form_nodes w →
    65536 < form_nodes (any_of (map f (count_up z total)))
too_large f z n total w some within before unknown large =
    let sum : n + (total - n) ≡ total = omega (arith, within) in
    let rest : List CForm = map f (count_up (z +ℤ pos n) (total - n)) in
    let is : any_of (map f (count_up z total)) ≡ or_any w rest =
    ap (λ k. any_of (map f (count_up z k))) (sym sum) ∙ any_more f z (z +ℤ pos n) n (total - n) some refl
    ∙ ap (λ v. or_any v rest) (sym before) in
    let more = open_grows w rest unknown in
    let same : form_nodes (any_of (map f (count_up z total))) ≡ form_nodes (or_any w rest) = ap form_nodes is in
    omega (arith, large, more, same)

-- three facts of an answer make a fourth
pub all_three : {T E : Type 0} (A B C D : T → Type 0) (r : Result T E) → IfOk r A → IfOk r B → IfOk r C →
    ((x : T) → A x → B x → C x → D x) → IfOk r D
all_three A B C D (Ok x) a b c f = f x a b c
all_three A B C D (Err e) a b c f = tt
