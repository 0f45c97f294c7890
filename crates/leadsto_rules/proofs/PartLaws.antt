-- What a tree is worth from a number on, from what its parts are worth.
use Rattle.std.proofs.Common.{◌≡◌, ℕ, ◌≤◌, ℤ, pos, ◌+ℤ◌, ◌-ℤ◌, ◌*ℤ◌, List, Bool, true, false, cond, not}
use Rattle.std.proofs.Common.{◌&&◌, ◌||◌, Option, Some, sym, ap, ◌∙◌, arith, refl, slice_get}
use Rattle.std.specs.Bool.{OnTrue}
use Rattle.std.specs.Option.{option_map}
use Rattle.std.specs.Int.RustNames.{int_le}
use Rattle.std.proofs.lemmas.Int.{ints}
use Rattle.meaning_states.specs.State.{int_eq}
use Rattle.meaning_states.specs.Division.{divisor, floored, rest_of}
use Rattle.meaning_states.proofs.DivisionTheorems.{parts_make_the_number}
use Rattle.core_terms.specs.declared.documents.Arg.{Arg}
use Rattle.core_terms.specs.declared.trees.CTerm.{CTerm, fold-roll-CTerm}
use Rattle.core_terms.specs.declared.trees.CTerm.TheVariants.{Const, Slot, Param, Add, Sub, Scale, Div, Mod, Ite}
use Rattle.core_terms.specs.declared.trees.CTerm.TheVariants.{rolls-Const, rolls-Param, rolls-Add, rolls-Sub}
use Rattle.core_terms.specs.declared.trees.CTerm.TheVariants.{rolls-Scale, rolls-Div, rolls-Mod, rolls-Ite}
use Rattle.core_terms.specs.declared.trees.CForm.{CForm, fold-roll-CForm}
use Rattle.core_terms.specs.declared.trees.CForm.TheVariants.{Top, Bottom, AtLeast, Zero, Not, And, Or, rolls-Top}
use Rattle.core_terms.specs.declared.trees.CForm.TheVariants.{rolls-Bottom, rolls-AtLeast, rolls-Zero, rolls-Not}
use Rattle.core_terms.specs.declared.trees.CForm.TheVariants.{rolls-And, rolls-Or}
use Rattle.core_terms.specs.declared.trees.CForm.TheOpen.{CTerm-F, CForm-F}
use Rattle.core_terms.specs.Folding.{joined, number_step, truth_step, number_of, truth_of, branch_or}
use Rattle.core_terms.specs.Replacing.{arg_term, arg_at, replace_term, replace_form, term_at, form_at}
use Rattle.core_terms.proofs.KnownLaws.{known_folded_term, known_folded_form}
use Rattle.leadsto_rules.specs.Lines.{line_at, sum_line, difference_line, multiple_line, pair_line, holds_at}
use Rattle.leadsto_rules.specs.Lines.{joined_truth}
use Rattle.core_terms.specs.declared.known.Pairing.{Pairing}
use Rattle.core_terms.specs.declared.known.Sense.{Sense}
use Rattle.core_terms.specs.declared.known.Joining.{Joining}
use Rattle.core_terms.specs.Senses.{pair_node, sense_node, joined_node}
use Rattle.leadsto_rules.specs.Stretches.{PutsNumber, IsLineOn, IsTruthOn}
use Rattle.leadsto_rules.specs.declared.lines.Line.{Line}
use Rattle.obligations.proofs.RingLaws.{add-times, times-add, times-times}

-- the worth of a node
number-Const : (c : ℤ) → number_of (Const c) ≡ Some c
number-Const c =
    ap number_of (sym (rolls-Const c)) ∙ fold-roll-CTerm (Option Bool) (Option ℤ) truth_step number_step
    (CTerm-F.Const c)

number-Add : (a b : CTerm) → number_of (Add a b) ≡ joined (λ x y. x +ℤ y) (number_of a) (number_of b)
number-Add a b =
    ap number_of (sym (rolls-Add a b)) ∙ fold-roll-CTerm (Option Bool) (Option ℤ) truth_step number_step
    (CTerm-F.Add a b)

number-Sub : (a b : CTerm) → number_of (Sub a b) ≡ joined (λ x y. x -ℤ y) (number_of a) (number_of b)
number-Sub a b =
    ap number_of (sym (rolls-Sub a b)) ∙ fold-roll-CTerm (Option Bool) (Option ℤ) truth_step number_step
    (CTerm-F.Sub a b)

number-Scale : (k : ℤ) (a : CTerm) → number_of (Scale k a) ≡ option_map (λ x. k *ℤ x) (number_of a)
number-Scale k a =
    ap number_of (sym (rolls-Scale k a)) ∙ fold-roll-CTerm (Option Bool) (Option ℤ) truth_step number_step
    (CTerm-F.Scale k a)

number-Div : (a : CTerm) (k : ℤ) → number_of (Div a k) ≡ option_map (λ x. floored x k) (number_of a)
number-Div a k =
    ap number_of (sym (rolls-Div a k)) ∙ fold-roll-CTerm (Option Bool) (Option ℤ) truth_step number_step
    (CTerm-F.Div a k)

number-Mod : (a : CTerm) (k : ℤ) → number_of (Mod a k) ≡ option_map (λ x. rest_of x k) (number_of a)
number-Mod a k =
    ap number_of (sym (rolls-Mod a k)) ∙ fold-roll-CTerm (Option Bool) (Option ℤ) truth_step number_step
    (CTerm-F.Mod a k)

pub truth-Top : truth_of Top ≡ Some true
truth-Top = ap truth_of (sym rolls-Top) ∙ fold-roll-CForm (Option Bool) (Option ℤ) truth_step number_step CForm-F.Top

pub truth-Bottom : truth_of Bottom ≡ Some false
truth-Bottom = ap truth_of (sym rolls-Bottom) ∙ fold-roll-CForm (Option Bool) (Option ℤ) truth_step number_step
    CForm-F.Bottom

truth-AtLeast : (t : CTerm) → truth_of (AtLeast t) ≡ option_map (λ x. int_le (pos 0) x) (number_of t)
truth-AtLeast t =
    ap truth_of (sym (rolls-AtLeast t)) ∙ fold-roll-CForm (Option Bool) (Option ℤ) truth_step number_step
    (CForm-F.AtLeast t)

truth-Zero : (t : CTerm) → truth_of (Zero t) ≡ option_map (λ x. int_eq x (pos 0)) (number_of t)
truth-Zero t =
    ap truth_of (sym (rolls-Zero t)) ∙ fold-roll-CForm (Option Bool) (Option ℤ) truth_step number_step (CForm-F.Zero t)

truth-Not : (f : CForm) → truth_of (Not f) ≡ option_map not (truth_of f)
truth-Not f =
    ap truth_of (sym (rolls-Not f)) ∙ fold-roll-CForm (Option Bool) (Option ℤ) truth_step number_step (CForm-F.Not f)

truth-And : (f g : CForm) → truth_of (And f g) ≡ joined (λ x y. x && y) (truth_of f) (truth_of g)
truth-And f g =
    ap truth_of (sym (rolls-And f g)) ∙ fold-roll-CForm (Option Bool) (Option ℤ) truth_step number_step
    (CForm-F.And f g)

pub truth-Or : (f g : CForm) → truth_of (Or f g) ≡ joined (λ x y. x || y) (truth_of f) (truth_of g)
truth-Or f g =
    ap truth_of (sym (rolls-Or f g)) ∙ fold-roll-CForm (Option Bool) (Option ℤ) truth_step number_step (CForm-F.Or f g)

-- of a node whose parameters are replaced
module _ (args : List Arg) where
  abbrev N : CTerm → Option ℤ
  N t = number_of (term_at args t)

  abbrev B : CForm → Option Bool
  B f = truth_of (form_at args f)

  abbrev T : CTerm-F CForm CTerm → CTerm
  T = replace_term (λ n. Slot n) (arg_at args)

  at-Const : (c : ℤ) → N (Const c) ≡ Some c
  at-Const c =
      ap N (sym (rolls-Const c)) ∙ ap number_of (fold-roll-CTerm CForm CTerm replace_form T (CTerm-F.Const c))
      ∙ number-Const c

  at-Param : (n : ℕ) (y : ℤ) → slice_get args n ≡ Some (Arg.Number y) → N (Param n) ≡ Some y
  at-Param n y e =
      ap N (sym (rolls-Param n)) ∙ ap number_of (fold-roll-CTerm CForm CTerm replace_form T (CTerm-F.Param n))
      ∙ ap (λ o. number_of (arg_term o)) e ∙ number-Const y

  at-Add : (a b : CTerm) → N (Add a b) ≡ joined (λ x y. x +ℤ y) (N a) (N b)
  at-Add a b =
      let u : CTerm = term_at args a in
      let v : CTerm = term_at args b in
      ap N (sym (rolls-Add a b)) ∙ ap number_of (fold-roll-CTerm CForm CTerm replace_form T (CTerm-F.Add a b))
      ∙ known_folded_term (Add u v) ∙ number-Add u v

  at-Sub : (a b : CTerm) → N (Sub a b) ≡ joined (λ x y. x -ℤ y) (N a) (N b)
  at-Sub a b =
      let u : CTerm = term_at args a in
      let v : CTerm = term_at args b in
      ap N (sym (rolls-Sub a b)) ∙ ap number_of (fold-roll-CTerm CForm CTerm replace_form T (CTerm-F.Sub a b))
      ∙ known_folded_term (Sub u v) ∙ number-Sub u v

  at-Scale : (k : ℤ) (a : CTerm) → N (Scale k a) ≡ option_map (λ x. k *ℤ x) (N a)
  at-Scale k a =
      let u : CTerm = term_at args a in
      ap N (sym (rolls-Scale k a)) ∙ ap number_of (fold-roll-CTerm CForm CTerm replace_form T (CTerm-F.Scale k a))
      ∙ known_folded_term (Scale k u) ∙ number-Scale k u

  at-Div : (a : CTerm) (k : ℤ) → N (Div a k) ≡ option_map (λ x. floored x k) (N a)
  at-Div a k =
      let u : CTerm = term_at args a in
      ap N (sym (rolls-Div a k)) ∙ ap number_of (fold-roll-CTerm CForm CTerm replace_form T (CTerm-F.Div a k))
      ∙ known_folded_term (Div u k) ∙ number-Div u k

  at-Mod : (a : CTerm) (k : ℤ) → N (Mod a k) ≡ option_map (λ x. rest_of x k) (N a)
  at-Mod a k =
      let u : CTerm = term_at args a in
      ap N (sym (rolls-Mod a k)) ∙ ap number_of (fold-roll-CTerm CForm CTerm replace_form T (CTerm-F.Mod a k))
      ∙ known_folded_term (Mod u k) ∙ number-Mod u k

  at-Ite : (c : CForm) (a b : CTerm) (h : Bool) → B c ≡ Some h → N (Ite c a b) ≡ cond h (N a) (N b)
  at-Ite c a b h e =
      let f : CForm = form_at args c in
      let u : CTerm = term_at args a in
      let v : CTerm = term_at args b in
      ap N (sym (rolls-Ite c a b)) ∙ ap number_of (fold-roll-CTerm CForm CTerm replace_form T (CTerm-F.Ite c a b))
      ∙ ap (λ o. number_of (branch_or o u v (Ite f u v))) e ∙ branch h u v
    where
      branch : (h : Bool) (u v : CTerm) → number_of (cond h u v) ≡ cond h (number_of u) (number_of v)
      branch true u v = refl
      branch false u v = refl

  at-Top : B Top ≡ Some true
  at-Top = ap B (sym rolls-Top) ∙ ap truth_of (fold-roll-CForm CForm CTerm replace_form T CForm-F.Top) ∙ truth-Top

  at-Bottom : B Bottom ≡ Some false
  at-Bottom =
      ap B (sym rolls-Bottom) ∙ ap truth_of (fold-roll-CForm CForm CTerm replace_form T CForm-F.Bottom) ∙ truth-Bottom

  at-AtLeast : (t : CTerm) → B (AtLeast t) ≡ option_map (λ x. int_le (pos 0) x) (N t)
  at-AtLeast t =
      let u : CTerm = term_at args t in
      ap B (sym (rolls-AtLeast t)) ∙ ap truth_of (fold-roll-CForm CForm CTerm replace_form T (CForm-F.AtLeast t))
      ∙ known_folded_form (AtLeast u) ∙ truth-AtLeast u

  at-Zero : (t : CTerm) → B (Zero t) ≡ option_map (λ x. int_eq x (pos 0)) (N t)
  at-Zero t =
      let u : CTerm = term_at args t in
      ap B (sym (rolls-Zero t)) ∙ ap truth_of (fold-roll-CForm CForm CTerm replace_form T (CForm-F.Zero t))
      ∙ known_folded_form (Zero u) ∙ truth-Zero u

  at-Not : (f : CForm) → B (Not f) ≡ option_map not (B f)
  at-Not f =
      let g : CForm = form_at args f in
      ap B (sym (rolls-Not f)) ∙ ap truth_of (fold-roll-CForm CForm CTerm replace_form T (CForm-F.Not f))
      ∙ known_folded_form (Not g) ∙ truth-Not g

  at-And : (f g : CForm) → B (And f g) ≡ joined (λ x y. x && y) (B f) (B g)
  at-And f g =
      let u : CForm = form_at args f in
      let v : CForm = form_at args g in
      ap B (sym (rolls-And f g)) ∙ ap truth_of (fold-roll-CForm CForm CTerm replace_form T (CForm-F.And f g))
      ∙ known_folded_form (And u v) ∙ truth-And u v

  at-Or : (f g : CForm) → B (Or f g) ≡ joined (λ x y. x || y) (B f) (B g)
  at-Or f g =
      let u : CForm = form_at args f in
      let v : CForm = form_at args g in
      ap B (sym (rolls-Or f g)) ∙ ap truth_of (fold-roll-CForm CForm CTerm replace_form T (CForm-F.Or f g))
      ∙ known_folded_form (Or u v) ∙ truth-Or u v

-- a remainder, from the quotient
rest_is : (z k q : ℤ) → floored z k ≡ q → rest_of z k ≡ z -ℤ divisor k *ℤ q
rest_is z k q is =
    let parts = parts_make_the_number z k in
    let same : divisor k *ℤ floored z k ≡ divisor k *ℤ q = ap (λ x. divisor k *ℤ x) is in
    omega (arith, ints, parts, same)

both_some : {A : Type 0} (op : A → A → A) (m n : Option A) (x y : A) → m ≡ Some x → n ≡ Some y →
    joined op m n ≡ Some (op x y)
both_some op m n x y e f = ap (λ o. joined op o n) e ∙ ap (λ o. joined op (Some x) o) f

-- from a number on, for so many numbers
module _ (args : ℤ → List Arg) (z : ℤ) where
  pub fewer_numbers : (f : CForm) (b : Bool) (m n : ℕ) → n ≤ m → IsTruthOn args z m f b → IsTruthOn args z n f b
  fewer_numbers f b m n less known k h = known k (omega (arith, h, less))

  pub shorter_line : (t : CTerm) (l : Line) (m n : ℕ) → n ≤ m → IsLineOn args z m t l → IsLineOn args z n t l
  shorter_line t l m n less known k h = known k (omega (arith, h, less))

  pub on-Const : (n : ℕ) (c : ℤ) (l : Line) → l.value ≡ c → l.slope ≡ pos 0 → IsLineOn args z n (Const c) l
  on-Const n c l v s k h =
      at-Const (args (z +ℤ pos k)) c
      ∙ ap (λ (x : ℤ). Some x) (sym (ap (λ x. l.value +ℤ x *ℤ pos k) s ∙ ap (λ x. x +ℤ pos 0 *ℤ pos k) v ∙ none c k))
    where
      none : (c : ℤ) (k : ℕ) → c +ℤ pos 0 *ℤ pos k ≡ c
      none c k = omega (arith, ints)

  pub on-Param : (n m : ℕ) (l : Line) → PutsNumber m args → l.value ≡ z → l.slope ≡ pos 1 →
      IsLineOn args z n (Param m) l
  on-Param n m l puts v s k h =
      at-Param (args (z +ℤ pos k)) m (z +ℤ pos k) (puts (z +ℤ pos k))
      ∙ ap (λ (x : ℤ). Some x) (sym (ap (λ x. l.value +ℤ x *ℤ pos k) s ∙ ap (λ x. x +ℤ pos 1 *ℤ pos k) v ∙ one z k))
    where
      one : (c : ℤ) (k : ℕ) → c +ℤ pos 1 *ℤ pos k ≡ c +ℤ pos k
      one c k = omega (arith, ints)

  on-Add : (n : ℕ) (a b : CTerm) (l m w : Line) → IsLineOn args z n a l → IsLineOn args z n b m →
      w ≡ sum_line l m → IsLineOn args z n (Add a b) w
  on-Add n a b l m w first second is k h =
      let y : List Arg = args (z +ℤ pos k) in
      at-Add y a b
      ∙ both_some (λ x y. x +ℤ y) (N y a) (N y b) (line_at l k) (line_at m k) (first k h) (second k h)
      ∙ ap (λ (x : ℤ). Some x) (more l.value m.value l.slope m.slope (pos k) ∙ ap (λ x. line_at x k) (sym is))
    where
      more : (v w a b k : ℤ) → (v +ℤ a *ℤ k) +ℤ (w +ℤ b *ℤ k) ≡ (v +ℤ w) +ℤ (a +ℤ b) *ℤ k
      more v w a b k = let t = add-times a b k in omega (arith, ints, t)

  on-Sub : (n : ℕ) (a b : CTerm) (l m w : Line) → IsLineOn args z n a l → IsLineOn args z n b m →
      w ≡ difference_line l m → IsLineOn args z n (Sub a b) w
  on-Sub n a b l m w first second is k h =
      let y : List Arg = args (z +ℤ pos k) in
      at-Sub y a b
      ∙ both_some (λ x y. x -ℤ y) (N y a) (N y b) (line_at l k) (line_at m k) (first k h) (second k h)
      ∙ ap (λ (x : ℤ). Some x) (less l.value m.value l.slope m.slope (pos k) ∙ ap (λ x. line_at x k) (sym is))
    where
      less : (v w a b k : ℤ) → (v +ℤ a *ℤ k) -ℤ (w +ℤ b *ℤ k) ≡ (v -ℤ w) +ℤ (a -ℤ b) *ℤ k
      less v w a b k =
          let whole : (a -ℤ b) +ℤ b ≡ a = omega (arith, ints) in
          let t = add-times (a -ℤ b) b k in
          let same : ((a -ℤ b) +ℤ b) *ℤ k ≡ a *ℤ k = ap (λ x. x *ℤ k) whole in
          omega (arith, ints, t, same)

  pub on-pair : (which : Pairing) (n : ℕ) (a b : CTerm) (l m w : Line) → IsLineOn args z n a l → IsLineOn args z n b m →
      w ≡ pair_line which l m → IsLineOn args z n (pair_node which a b) w
  on-pair Pairing.Sum = on-Add
  on-pair Pairing.Difference = on-Sub

  pub on-Scale : (n : ℕ) (c : ℤ) (a : CTerm) (l w : Line) → IsLineOn args z n a l → w ≡ multiple_line c l →
      IsLineOn args z n (Scale c a) w
  on-Scale n c a l w part is k h =
      let y : List Arg = args (z +ℤ pos k) in
      at-Scale y c a ∙ ap (option_map (λ x. c *ℤ x)) (part k h)
      ∙ ap (λ (x : ℤ). Some x) (times-add c l.value (l.slope *ℤ pos k)
      ∙ ap (λ x. c *ℤ l.value +ℤ x) (sym (times-times c l.slope (pos k))) ∙ ap (λ x. line_at x k) (sym is))

  pub on-Div : (m n : ℕ) (a : CTerm) (c : ℤ) (l w : Line) → IsLineOn args z m a l → n ≤ m →
      ((k : ℕ) → k ≤ n → floored (line_at l k) c ≡ line_at w k) → IsLineOn args z n (Div a c) w
  on-Div m n a c l w part within same k h =
      at-Div (args (z +ℤ pos k)) a c ∙ ap (option_map (λ x. floored x c)) (part k (omega (arith, h, within)))
      ∙ ap (λ (x : ℤ). Some x) (same k h)

  pub on-Mod : (m n : ℕ) (a : CTerm) (c : ℤ) (l q w : Line) → IsLineOn args z m a l → n ≤ m →
      ((k : ℕ) → k ≤ n → floored (line_at l k) c ≡ line_at q k) →
      w ≡ difference_line l (multiple_line (divisor c) q) → IsLineOn args z n (Mod a c) w
  on-Mod m n a c l q w part within same is k h =
      at-Mod (args (z +ℤ pos k)) a c ∙ ap (option_map (λ x. rest_of x c)) (part k (omega (arith, h, within)))
      ∙ ap (λ (x : ℤ). Some x) (rest_is (line_at l k) c (line_at q k) (same k h)
      ∙ less l.value q.value l.slope q.slope (pos k) (divisor c) ∙ ap (λ x. line_at x k) (sym is))
    where
      less : (v w a b k d : ℤ) → (v +ℤ a *ℤ k) -ℤ d *ℤ (w +ℤ b *ℤ k) ≡ (v -ℤ d *ℤ w) +ℤ (a -ℤ d *ℤ b) *ℤ k
      less v w a b k d =
          let apart = times-add d w (b *ℤ k) in
          let turned = times-times d b k in
          let whole : (a -ℤ d *ℤ b) +ℤ d *ℤ b ≡ a = omega (arith, ints) in
          let t = add-times (a -ℤ d *ℤ b) (d *ℤ b) k in
          let same : ((a -ℤ d *ℤ b) +ℤ d *ℤ b) *ℤ k ≡ a *ℤ k = ap (λ x. x *ℤ k) whole in
          omega (arith, ints, apart, turned, t, same)

  pub on-Ite : (n : ℕ) (c : CForm) (a b : CTerm) (s : Bool) (l : Line) → IsTruthOn args z n c s →
      IsLineOn args z n (cond s a b) l → IsLineOn args z n (Ite c a b) l
  on-Ite n c a b s l known part k h =
      let y : List Arg = args (z +ℤ pos k) in
      at-Ite y c a b s (known k h) ∙ branch y s ∙ part k h
    where
      branch : (y : List Arg) (h : Bool) → cond h (N y a) (N y b) ≡ N y (cond h a b)
      branch y true = refl
      branch y false = refl

  pub on-Top : (n : ℕ) → IsTruthOn args z n Top true
  on-Top n k h = at-Top (args (z +ℤ pos k))

  pub on-Bottom : (n : ℕ) → IsTruthOn args z n Bottom false
  on-Bottom n k h = at-Bottom (args (z +ℤ pos k))

  on-AtLeast : (m n : ℕ) (t : CTerm) (l : Line) (b : Bool) → IsLineOn args z m t l → n ≤ m →
      ((k : ℕ) → k ≤ n → int_le (pos 0) (line_at l k) ≡ b) → IsTruthOn args z n (AtLeast t) b
  on-AtLeast m n t l b part within same k h =
      at-AtLeast (args (z +ℤ pos k)) t ∙ ap (option_map (λ x. int_le (pos 0) x)) (part k (omega (arith, h, within)))
      ∙ ap (λ (x : Bool). Some x) (same k h)

  on-Zero : (m n : ℕ) (t : CTerm) (l : Line) (b : Bool) → IsLineOn args z m t l → n ≤ m →
      ((k : ℕ) → k ≤ n → int_eq (line_at l k) (pos 0) ≡ b) → IsTruthOn args z n (Zero t) b
  on-Zero m n t l b part within same k h =
      at-Zero (args (z +ℤ pos k)) t ∙ ap (option_map (λ x. int_eq x (pos 0))) (part k (omega (arith, h, within)))
      ∙ ap (λ (x : Bool). Some x) (same k h)

  pub on-sense : (sense : Sense) (m n : ℕ) (t : CTerm) (l : Line) (b : Bool) → IsLineOn args z m t l → n ≤ m →
      ((k : ℕ) → k ≤ n → holds_at sense (line_at l k) ≡ b) → IsTruthOn args z n (sense_node sense t) b
  on-sense Sense.AtLeast = on-AtLeast
  on-sense Sense.Zero = on-Zero

  pub on-Not : (n : ℕ) (f : CForm) (b : Bool) → IsTruthOn args z n f b → IsTruthOn args z n (Not f) (not b)
  on-Not n f b part k h = at-Not (args (z +ℤ pos k)) f ∙ ap (option_map not) (part k h)

  on-And : (n : ℕ) (f g : CForm) (a b w : Bool) → IsTruthOn args z n f a → IsTruthOn args z n g b →
      w ≡ (a && b) → IsTruthOn args z n (And f g) w
  on-And n f g a b w first second is k h =
      let y : List Arg = args (z +ℤ pos k) in
      at-And y f g ∙ both_some (λ x y. x && y) (B y f) (B y g) a b (first k h) (second k h)
      ∙ ap (λ (x : Bool). Some x) (sym is)

  on-Or : (n : ℕ) (f g : CForm) (a b w : Bool) → IsTruthOn args z n f a → IsTruthOn args z n g b →
      w ≡ (a || b) → IsTruthOn args z n (Or f g) w
  on-Or n f g a b w first second is k h =
      let y : List Arg = args (z +ℤ pos k) in
      at-Or y f g ∙ both_some (λ x y. x || y) (B y f) (B y g) a b (first k h) (second k h)
      ∙ ap (λ (x : Bool). Some x) (sym is)

  pub on-joined : (joining : Joining) (n : ℕ) (f g : CForm) (a b w : Bool) → IsTruthOn args z n f a →
      IsTruthOn args z n g b → w ≡ joined_truth joining a b → IsTruthOn args z n (joined_node joining f g) w
  on-joined Joining.Both = on-And
  on-joined Joining.Either = on-Or

-- what is known where a test passes
pub on_true_weaker : (P Q : Type 0) (b : Bool) → (P → Q) → OnTrue b P → OnTrue b Q
on_true_weaker P Q true f h = f h
on_true_weaker P Q false f h = tt

pub on_true_given : (P : Type 0) (b : Bool) → P → OnTrue b P
on_true_given P true h = h
on_true_given P false h = tt
