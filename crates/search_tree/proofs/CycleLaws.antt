-- The steps of the search, as the code meets them.
use Rattle.std.proofs.Common.{◌≡◌, ℕ, suc, ◌+◌, ◌-◌, ◌≤◌, ◌<◌, min, ℤ, pos, ◌+ℤ◌, Bool, true, false, Option, Some, None}
use Rattle.std.proofs.Common.{List, [], ◌∷◌, ◌++◌, length, remove, slice_get, MatchBool, MatchOption, arith}
use Rattle.std.proofs.Common.{refl, sym, ap, subst, ◌∙◌}
use Rattle.obligations.specs.declared.branches.Branch.{Branch}
use Rattle.obligations.specs.declared.branches.Fact.{Fact}
use Rattle.obligations.specs.declared.branches.Variable.{Variable}
use Rattle.core_terms.specs.declared.trees.CForm.{CForm}
use Rattle.core_terms.specs.declared.trees.Range.{Range}
use Rattle.obligations.specs.declared.certificates.Node.{Node}
use Rattle.obligations.specs.Settling.{settled}
use Rattle.obligations.specs.Settling.{sides, added}
use Rattle.obligations.specs.Opening.{at_most, at_least}
use Rattle.search_tree.specs.declared.trail.Trail.{Trail}
use Rattle.search_tree.specs.declared.trail.Ended.{Ended}
use Rattle.obligations.specs.Reach.{some_out_of_reach}
use Rattle.obligations.specs.Certificates.{node_units}
use Rattle.obligations.specs.Plain.{first_cut, with_high, with_low, waiting_only, plain_leaves, open_leaves}
use Rattle.obligations.specs.Plain.{cut_leaves, side_leaves, quot_leaves}
use Rattle.obligations.specs.Quotients.{is_either, without_quotient, with_quotient, low_fact, high_fact, one_more}
use Rattle.obligations.specs.Closed as names
use Rattle.obligations.specs.Closed.{Waits}
use Rattle.obligations.specs.Scopes.{next_param, scope_of, with_next}
use Rattle.obligations.specs.Shapes.{shapes, quotients_of}
use Rattle.obligations.specs.declared.branches.Replaced.{Replaced}
use Rattle.search_tree.specs.Searching.{Met, Ends, BudgetEnded, TriedShortly, EndsClosed, quotients_at, levels_of}
use Rattle.certificate_rules.specs.Refutation.{opens, made, allowing}
use Rattle.linear_prover.specs.Chains.{is_plain_number}
use Rattle.search_tree.proofs.TreeLaws.{node-stopped, first-stopped, second-ends, quot-ends}
use Rattle.search_tree.proofs.MetLaws.{first-met, second-met, added-met, quot-met}
use Rattle.search_tree.proofs.ShapeLaws.{More, settled-more, side-shapes, quotients-append}
use Rattle.search_tree.proofs.QuotientShapes.{without-less}
use Rattle.search_tree.proofs.ReadyLaws.{leaves-some, unreached-leaves, case-opens, split-opens, quot-opens}
use Rattle.search_tree.proofs.ReadyLaws.{either-leaves, quotient-leaves}

pub taken : {P : Type 0} (Q : Type 0) (b : Bool) → MatchBool b P Q → b ≡ true → P
taken Q true m e = m
taken Q false m e = cc

pub not-taken : {Q : Type 0} (P : Type 0) (b : Bool) → MatchBool b P Q → b ≡ false → Q
not-taken P true m e = cc
not-taken P false m e = m

pub tried-some : (count : ℕ) (facts gs : List Fact) (x y : Trail) (P : Type 0) (o : Option Ended) (e : Ended)
    → gs ≡ facts → MatchOption o P (TriedShortly count gs x y) → o ≡ Some e → TriedShortly count facts x y e
tried-some count facts gs x y P None e g m q = cc
tried-some count facts gs x y P (Some d) e g m q = let s : d ≡ e = cc in subst (λ z. TriedShortly count z x y e) g
    (subst (TriedShortly count gs x y) s m)

pub empty-list : {A : Type 0} (xs : List A) → length xs ≤ 0 → xs ≡ []
empty-list [] h = refl
empty-list (x ∷ xs) h = absurd (omega arith)

pub kept : (e : Ended) (a b : Branch) → e ≡ Ended.Closed → (EndsClosed e → a ≡ b) → a ≡ b
kept Ended.Closed a b q f = f tt
kept Ended.Stopped a b q f = cc
kept (Ended.Refuted v) a b q f = cc

pub record Put (x y : Trail) (n : Node) : Type 0 where
  pub nodes : y.nodes ≡ x.nodes ++ n ∷ []
  pub spare : y.spare + node_units n ≡ x.spare

pub put-is : (x y : Trail) (n m : Node) → n ≡ m → (y.nodes ≡ x.nodes ++ n ∷ []) × (y.spare + node_units n ≡ x.spare) →
    Put x y m
put-is x y n m e p = record {
  nodes = p.0 ∙ ap (λ z. x.nodes ++ z ∷ []) e;
  spare = sym
      (ap (λ z. y.spare + node_units z) e) ∙ p.1;
}

pub stop-is : (x z : Trail) (n m : Node) → n ≡ m → (x.spare < node_units n) × (z ≡ x) → (x.spare < node_units m) ×
    (z ≡ x)
stop-is x z n m e p = (subst (λ w. x.spare < node_units w) e p.0, p.1)

-- the sides of a waiting formula, over the variables of its branch
module _ (vs us : List Variable) (k : ℕ) (rs : List Range) (f : CForm) (b : Branch) (scoped : us ≡ scope_of vs b)
    (deep : suc k ≤ 960) (either : is_either f ≡ true) where
  abbrev whole : Branch
  whole = waiting_only b (f ∷ b.waiting)

  abbrev One : Branch → Branch
  One z = settled us (sides f).0 z

  abbrev Two : Branch → Branch
  Two z = settled us (sides f).1 z

  abbrev leaves : ℕ
  leaves = side_leaves us (plain_leaves vs k) rs b f

  one-fewer : quotients_at (One b) ≤ quotients_at whole
  one-fewer =
      let m = (settled-more us (sides f).0 b).quotients in let q = (side-shapes f either).quotients in
      omega (arith, m, q)

  two-fewer : quotients_at (Two b) ≤ quotients_at whole
  two-fewer =
      let m = (settled-more us (sides f).1 b).quotients in let q = (side-shapes f either).quotients in
      omega (arith, m, q)

  sides-open : made vs (allowing (levels_of (suc k)) whole) (Node.Case 1) ≡ opens (One b ∷ Two b ∷ [])
  sides-open = subst (λ (x : List Variable). made vs (allowing (levels_of (suc k)) whole) (Node.Case 1) ≡
      opens (settled x (sides f).0 b ∷ settled x (sides f).1 b ∷ [])) (sym scoped) (case-opens vs k f b either)

  one-met : (values : List ℤ) → Met vs (One b) values → Met vs whole values
  one-met values m = first-met vs f b values
      (subst (λ (x : List Variable). Met vs (settled x (sides f).0 b) values) scoped m)

  two-met : (values : List ℤ) → Met vs (Two b) values → Met vs whole values
  two-met values m = second-met vs f b values
      (subst (λ (x : List Variable). Met vs (settled x (sides f).1 b) values) scoped m)

  pub sides-stopped : (x z : Trail) → (x.spare < 1) × (z ≡ x) → BudgetEnded vs (suc k) leaves whole x z
  sides-stopped x z p =
      let l = leaves-some vs k rs (One b) in
      node-stopped vs (suc k) leaves whole x z (Node.Case 1) (omega (arith, l)) refl p.0 p.1

  pub sides-first : (x y z : Trail) (e : Ended) → Put x y (Node.Case 1) → e ≡ Ended.Stopped → Ends vs k
      (plain_leaves vs k rs (One b)) (One b) y z e → BudgetEnded vs (suc k) leaves whole x z
  sides-first x y z e p q r =
      first-stopped vs k (plain_leaves vs k rs (One b)) (plain_leaves vs k rs (Two b)) whole (One b) (Two b)
      (Node.Case 1) refl refl deep one-fewer refl two-fewer refl sides-open
      x y z p.nodes p.spare (leaves-some vs k rs (Two b)) (subst
      (Ends vs k (plain_leaves vs k rs (One b)) (One b) y z) q r)

  pub sides-met : (y z : Trail) (e : Ended) (values : List ℤ) → e ≡ Ended.Refuted values → Ends vs k
      (plain_leaves vs k rs (One b)) (One b) y z e → Met vs whole values
  sides-met y z e values q r = one-met values (subst (Ends vs k (plain_leaves vs k rs (One b)) (One b) y z) q r)

  pub sides-second : (x y z w : Trail) (e d : Ended) (c : Branch) → Put x y (Node.Case 1) → e ≡ Ended.Closed → Ends vs
      k (plain_leaves vs k rs (One b)) (One b) y z e → (EndsClosed e → c ≡ b) →
      Ends vs k (plain_leaves vs k rs (Two c)) (Two c) z w d → Ends vs (suc k) leaves whole x w d
  sides-second x y z w e d c p q r s u =
      second-ends vs k (plain_leaves vs k rs (One b)) (plain_leaves vs k rs (Two b)) whole
      (One b) (Two b) (Node.Case 1) refl refl deep one-fewer refl two-fewer refl sides-open
      x y z w d p.nodes p.spare two-met (subst (Ends vs k (plain_leaves vs k rs (One b)) (One b) y z) q r)
      (subst (λ o. Ends vs k (plain_leaves vs k rs (Two o)) (Two o) z w d) (kept e c b q s) u)

-- what a waiting formula is without its quotient, as the code meets it
pub replaced-is : (vs us : List Variable) (f : CForm) (b : Branch) (r : Replaced) (n : ℕ) (o : Option Replaced) →
    us ≡ scope_of vs b → n ≡ next_param us → o ≡ without_quotient n f → o ≡ Some r →
    without_quotient (next_param (scope_of vs b)) f ≡ Some r
replaced-is vs us f b r n o scoped e q is =
    sym (ap (λ m. without_quotient m f) (e ∙ ap next_param scoped)) ∙ sym q ∙ is

-- a quotient of a waiting formula, of which this is left
module _ (vs us : List Variable) (k : ℕ) (rs : List Range) (f : CForm) (b : Branch) (r : Replaced)
    (scoped : us ≡ scope_of vs b) (deep : suc k ≤ 960)
    (is : without_quotient (next_param (scope_of vs b)) f ≡ Some r) where
  abbrev from : Branch
  from = waiting_only b (f ∷ b.waiting)

  abbrev next : Branch
  next = with_quotient (scope_of vs b) r b

  next-added : next.added ≡ suc b.added
  next-added = refl

  shape : More next (added (added (one_more b) (low_fact (scope_of vs b) r.taken)) (high_fact (scope_of vs b) r.taken))
      (shapes r.form).yes
  shape = settled-more (with_next (scope_of vs b)) r.form
      (added (added (one_more b) (low_fact (scope_of vs b) r.taken)) (high_fact (scope_of vs b) r.taken))

  quotients-same : quotients_of ((b.waiting ++ []) ++ []) ≡ quotients_of b.waiting
  quotients-same =
      let p = quotients-append (b.waiting ++ []) [] in let q = quotients-append b.waiting [] in omega (arith, p, q)

  pub less : suc (quotients_of next.waiting) ≤ quotients_of from.waiting
  less =
      let m = shape.quotients in let s = quotients-same in
      let l = (without-less (next_param (scope_of vs b)) f r is).quotients in
      omega (arith, m, s, l)

  abbrev below : ℕ
  below = quot_leaves us (plain_leaves vs k) rs b (without_quotient (next_param us) f)

  same-leaves : below ≡ plain_leaves vs k rs next
  same-leaves = ap (λ (x : List Variable). quot_leaves x (plain_leaves vs k) rs b (without_quotient (next_param x) f))
      scoped ∙ ap (quot_leaves (scope_of vs b) (plain_leaves vs k) rs b) is

  pub quot-stopped : (x z : Trail) → (x.spare < 1) × (z ≡ x) → BudgetEnded vs (suc k) below from x z
  quot-stopped x z p =
      let some = leaves-some vs k rs next in let l = same-leaves in
      node-stopped vs (suc k) below from x z (Node.Quot 1) (omega (arith, some, l)) refl p.0 p.1

  pub quot-went : (x y z : Trail) (e : Ended) → Put x y (Node.Quot 1) → Waits (scope_of vs b) f →
      names.IsClosed (scope_of vs b) b → Ends vs k (plain_leaves vs k rs next) next y z e →
      Ends vs (suc k) below from x z e
  quot-went x y z e p waits closed u =
      let l = less in
      subst (λ n. Ends vs (suc k) n from x z e) (sym same-leaves)
      (quot-ends vs k (plain_leaves vs k rs next) from next (leaves-some vs k rs next) (omega (arith, l)) deep
      (omega (arith, l)) next-added (quot-opens vs k f r b is) x y z e p.nodes p.spare
      (λ values. quot-met vs f r b values is waits closed) u)

  -- the same leaves, of which no more are counted than are wanted
  pub quot-counted : (wanted n : ℕ) → n ≡ min wanted (plain_leaves vs k rs next) → n ≡ min wanted below
  quot-counted wanted n h = h ∙ ap (min wanted) (sym same-leaves)

module _ (vs : List Variable) (k : ℕ) (rs : List Range) (place : ℕ) (at : ℤ) (b : Branch)
    (simple : is_plain_number at ≡ true) (deep : suc k ≤ 960) where
  abbrev Low : Branch → Branch
  Low z = added z (at_most place at)

  abbrev High : Branch → Branch
  High z = added z (at_least place (at +ℤ pos 1))

  abbrev low : Branch → ℕ
  low z = plain_leaves vs k (with_high rs place at) (Low z)

  abbrev high : Branch → ℕ
  high z = plain_leaves vs k (with_low rs place (at +ℤ pos 1)) (High z)

  added-fewer : (g : Fact) → quotients_at (added b g) ≤ quotients_at b
  added-fewer g = let q = quotients-append b.waiting [] in omega (arith, q)

  pub halves-stopped : (x z : Trail) → (x.spare < 1) × (z ≡ x) → BudgetEnded vs (suc k) (low b + high b) b x z
  halves-stopped x z p =
      let l = leaves-some vs k (with_high rs place at) (Low b) in
      node-stopped vs (suc k) (low b + high b) b x z (Node.Split (place + 1) at) (omega (arith, l)) refl p.0 p.1

  pub halves-first : (x y z : Trail) (e : Ended) → place < length vs → Put x y (Node.Split (place + 1) at) → e ≡
      Ended.Stopped → Ends vs k (low b) (Low b) y z e → BudgetEnded vs (suc k) (low b + high b) b x z
  halves-first x y z e i p q r =
      first-stopped vs k (low b) (high b) b (Low b) (High b) (Node.Split (place + 1) at) refl simple deep
      (added-fewer (at_most place at)) refl (added-fewer (at_least place (at +ℤ pos 1))) refl
      (split-opens vs k b place at i)
      x y z p.nodes p.spare (leaves-some vs k (with_low rs place (at +ℤ pos 1)) (High b))
      (subst (Ends vs k (low b) (Low b) y z) q r)

  pub halves-met : (y z : Trail) (e : Ended) (values : List ℤ) → e ≡ Ended.Refuted values → Ends vs k (low b) (Low b)
      y z e → Met vs b values
  halves-met y z e values q r = added-met vs b (at_most place at) values (subst (Ends vs k (low b) (Low b) y z) q r)

  pub halves-second : (x y z w : Trail) (e d : Ended) (c : Branch) → place < length vs → Put x y
      (Node.Split (place + 1) at) → e ≡ Ended.Closed → Ends vs k (low b) (Low b) y z e → (EndsClosed e → c ≡ b) →
      Ends vs k (high c) (High c) z w d → Ends vs (suc k) (low b + high b) b x w d
  halves-second x y z w e d c i p q r s u =
      second-ends vs k (low b) (high b) b (Low b) (High b) (Node.Split (place + 1) at) refl simple deep
      (added-fewer (at_most place at)) refl (added-fewer (at_least place (at +ℤ pos 1))) refl
      (split-opens vs k b place at i)
      x y z w d p.nodes p.spare (added-met vs b (at_least place (at +ℤ pos 1)))
      (subst (Ends vs k (low b) (Low b) y z) q r)
      (subst (λ o. Ends vs k (high o) (High o) z w d) (kept e c b q s) u)

pub one-less : (k : ℕ) → 1 ≤ k → suc (k - 1) ≡ k
one-less k h = omega arith

-- A list whose first item was taken out.
first-out : {A : Type 0} (xs ys : List A) (x : A) → slice_get xs 0 ≡ Some x → ys ≡ remove xs 0 → xs ≡ x ∷ ys
first-out [] ys x e r = cc
first-out (z ∷ xs) ys x e r = let s : z ≡ x = cc in ap (λ w. w ∷ xs) s ∙ ap (λ w. x ∷ w) (sym r)

-- as the code meets it: its first waiting formula was taken out, and the search of the rest ended
pub put-back : (vs : List Variable) (k : ℕ) (rs : List Range) (b : Branch) (ws : List CForm) (f : CForm) (x z : Trail)
    (e : Ended) → 1 ≤ k → waiting_only b (f ∷ ws) ≡ b →
    Ends vs (suc (k - 1)) (plain_leaves vs (suc (k - 1)) rs (waiting_only b (f ∷ ws))) (waiting_only b (f ∷ ws)) x z e →
    Ends vs k (plain_leaves vs k rs b) b x z e
put-back vs k rs b ws f x z e one same r =
    subst (λ n. Ends vs n (plain_leaves vs n rs b) b x z e) (one-less k one)
    (subst (λ y. Ends vs (suc (k - 1)) (plain_leaves vs (suc (k - 1)) rs y) y x z e) same r)

pub whole-again : (b : Branch) (ws : List CForm) (f : CForm) → slice_get b.waiting 0 ≡ Some f → ws ≡ remove b.waiting
    0 → waiting_only b (f ∷ ws) ≡ b
whole-again b ws f e r = ap (waiting_only b) (sym (first-out b.waiting ws f e r))

pub opened-ends : (vs us : List Variable) (k : ℕ) (rs : List Range) (b : Branch) (f : CForm) (x z : Trail) (e : Ended) →
    us ≡ scope_of vs b → some_out_of_reach b.facts ≡ false → is_either f ≡ true →
    Ends vs (suc k) (side_leaves us (plain_leaves vs k) rs b f) (waiting_only b (f ∷ b.waiting)) x z e →
    Ends vs (suc k) (plain_leaves vs (suc k) rs (waiting_only b (f ∷ b.waiting))) (waiting_only b (f ∷ b.waiting)) x z e
opened-ends vs us k rs b f x z e scoped u either r =
    let whole : Branch = waiting_only b (f ∷ b.waiting) in
    subst (λ n. Ends vs (suc k) n whole x z e)
    (sym (unreached-leaves vs k rs whole u ∙ either-leaves vs k rs whole f b.waiting either
    ∙ ap (λ (y : List Variable). side_leaves y (plain_leaves vs k) rs b f) (sym scoped))) r

pub quotient-ends : (vs us : List Variable) (k : ℕ) (rs : List Range) (b : Branch) (f : CForm) (x z : Trail)
    (e : Ended) → us ≡ scope_of vs b → some_out_of_reach b.facts ≡ false → is_either f ≡ false →
    Ends vs (suc k) (quot_leaves us (plain_leaves vs k) rs b (without_quotient (next_param us) f))
    (waiting_only b (f ∷ b.waiting)) x z e →
    Ends vs (suc k) (plain_leaves vs (suc k) rs (waiting_only b (f ∷ b.waiting))) (waiting_only b (f ∷ b.waiting)) x z e
quotient-ends vs us k rs b f x z e scoped u either r =
    let whole : Branch = waiting_only b (f ∷ b.waiting) in
    subst (λ n. Ends vs (suc k) n whole x z e)
    (sym (unreached-leaves vs k rs whole u ∙ quotient-leaves vs k rs whole f b.waiting either
    ∙ ap (λ (y : List Variable). quot_leaves y (plain_leaves vs k) rs b (without_quotient (next_param y) f))
    (sym scoped))) r

pub halved-ends : (vs : List Variable) (k : ℕ) (rs : List Range) (b : Branch) (place : ℕ) (at : ℤ) (x z : Trail)
    (e : Ended) → 1 ≤ k → some_out_of_reach b.facts ≡ false → b.waiting ≡ [] →
    first_cut 0 rs ≡ Some (record { place = place; at = at }) →
    Ends vs (suc (k - 1)) (cut_leaves (plain_leaves vs (k - 1)) rs b (Some (record { place = place; at = at }))) b x z
    e → Ends vs k (plain_leaves vs k rs b) b x z e
halved-ends vs k rs b place at x z e h u w c r =
    subst (λ n. Ends vs n (plain_leaves vs n rs b) b x z e) (one-less k h)
    (subst (λ n. Ends vs (suc (k - 1)) n b x z e)
    (sym (unreached-leaves vs (k - 1) rs b u ∙ ap (open_leaves vs (plain_leaves vs (k - 1)) rs b) w ∙ ap
    (cut_leaves (plain_leaves vs (k - 1)) rs b) c)) r)
