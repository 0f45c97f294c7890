-- What a count of leaves keeps.
use Rattle.std.proofs.Common.{◌≡◌, ℕ, zero, suc, ◌+◌, ◌-◌, ◌≤◌, min, ℤ, true, false, cond, Some, None, List, [], ◌∷◌}
use Rattle.std.proofs.Common.{arith, refl, sym, ap, subst, ◌∙◌}
use Rattle.core_terms.specs.declared.trees.Range.{Range}
use Rattle.core_terms.specs.declared.trees.CForm.{CForm}
use Rattle.obligations.specs.declared.branches.Branch.{Branch}
use Rattle.obligations.specs.declared.branches.Variable.{Variable}
use Rattle.obligations.specs.declared.branches.Obligation.{Obligation}
use Rattle.obligations.specs.Opening.{first_branch}
use Rattle.obligations.specs.Plain.{ranges_of, first_cut, waiting_only, cut_leaves, open_leaves, side_leaves}
use Rattle.obligations.specs.Plain.{quot_leaves, plain_leaves}
use Rattle.obligations.specs.Quotients.{is_either, without_quotient}
use Rattle.obligations.specs.Scopes.{next_param, scope_of}
use Rattle.obligations.specs.Reach.{some_out_of_reach}
use Rattle.search_tree.proofs.ReadyLaws.{leaves-some, leaf-count, unreached-leaves, either-leaves, quotient-leaves}
use Rattle.search_tree.proofs.CycleLaws.{one-less}

-- the leaves of two parts, of which no more are counted than are wanted
pub parts-counted : (wanted one other first second : ℕ) → first ≡ min wanted one → second ≡ min (wanted - first) other
    → first + second ≡ min wanted (one + other)
parts-counted wanted one other first second p q = omega (arith, p, q)

pub part-counted : (wanted one other first : ℕ) → first ≡ min wanted one → wanted ≤ first → first ≡ min wanted
    (one + other)
part-counted wanted one other first p h = omega (arith, p, h)

-- the second part is no more than what is still wanted
pub parts-within : (wanted one other first second : ℕ) → first ≡ min wanted one → second ≡ min (wanted - first) other →
    first + second ≤ wanted
parts-within wanted one other first second p q = omega (arith, p, q)

-- at most one leaf is wanted
pub few-counted : (vs : List Variable) (k : ℕ) (rs : List Range) (b : Branch) (wanted : ℕ) → wanted ≤ 1 → wanted ≡ min
    wanted (plain_leaves vs k rs b)
few-counted vs k rs b wanted h = let some = leaves-some vs k rs b in omega (arith, some, h)

one-counted : (wanted leaves : ℕ) → 1 ≤ wanted → leaves ≡ 1 → 1 ≡ min wanted leaves
one-counted wanted leaves h e = omega (arith, h, e)

-- a branch with a fact out of reach is a leaf
pub reached-leaf : (vs : List Variable) (k : ℕ) (rs : List Range) (b : Branch) (wanted : ℕ) → 1 ≤ wanted →
    some_out_of_reach b.facts ≡ true → 1 ≡ min wanted (plain_leaves vs k rs b)
reached-leaf vs k rs b wanted h e = one-counted wanted (plain_leaves vs k rs b) h (leaf k)
  where
    leaf : (k : ℕ) → plain_leaves vs k rs b ≡ 1
    leaf zero = refl
    leaf (suc k) = ap (λ t. cond t 1 (open_leaves vs (plain_leaves vs k) rs b b.waiting)) e

-- so is one where nothing waits and no range is to be split
pub whole-leaf : (vs : List Variable) (k : ℕ) (rs : List Range) (b : Branch) (wanted : ℕ) → 1 ≤ wanted →
    some_out_of_reach b.facts ≡ false → b.waiting ≡ [] → first_cut 0 rs ≡ None → 1 ≡ min wanted (plain_leaves vs k rs b)
whole-leaf vs k rs b wanted h u w e = one-counted wanted (plain_leaves vs k rs b) h (leaf-count vs k rs b u w e)

-- a branch's leaves are those of the sides of its first waiting formula
pub opened-leaves : (vs us : List Variable) (k : ℕ) (rs : List Range) (b : Branch) (f : CForm) (wanted n : ℕ) →
    us ≡ scope_of vs b → some_out_of_reach b.facts ≡ false → is_either f ≡ true →
    n ≡ min wanted (side_leaves us (plain_leaves vs k) rs b f) →
    n ≡ min wanted (plain_leaves vs (suc k) rs (waiting_only b (f ∷ b.waiting)))
opened-leaves vs us k rs b f wanted n scoped u either r =
    let whole : Branch = waiting_only b (f ∷ b.waiting) in
    r ∙ ap (min wanted) (ap (λ (y : List Variable). side_leaves y (plain_leaves vs k) rs b f) scoped
    ∙ sym (unreached-leaves vs k rs whole u ∙ either-leaves vs k rs whole f b.waiting either))

-- or those of the branch in which its quotient is taken
pub quotient-counted : (vs us : List Variable) (k : ℕ) (rs : List Range) (b : Branch) (f : CForm) (wanted n : ℕ) →
    us ≡ scope_of vs b → some_out_of_reach b.facts ≡ false → is_either f ≡ false →
    n ≡ min wanted (quot_leaves us (plain_leaves vs k) rs b (without_quotient (next_param us) f)) →
    n ≡ min wanted (plain_leaves vs (suc k) rs (waiting_only b (f ∷ b.waiting)))
quotient-counted vs us k rs b f wanted n scoped u either r =
    let whole : Branch = waiting_only b (f ∷ b.waiting) in
    r ∙ ap (min wanted) (ap (λ (y : List Variable). quot_leaves y (plain_leaves vs k) rs b
    (without_quotient (next_param y) f)) scoped
    ∙ sym (unreached-leaves vs k rs whole u ∙ quotient-leaves vs k rs whole f b.waiting either))

-- as the code meets it: its first waiting formula was taken out
pub counted-back : (vs : List Variable) (k : ℕ) (rs : List Range) (b : Branch) (ws : List CForm) (f : CForm)
    (wanted n : ℕ) → 1 ≤ k → waiting_only b (f ∷ ws) ≡ b →
    n ≡ min wanted (plain_leaves vs (suc (k - 1)) rs (waiting_only b (f ∷ ws))) →
    n ≡ min wanted (plain_leaves vs k rs b)
counted-back vs k rs b ws f wanted n one same r =
    subst (λ m. n ≡ min wanted (plain_leaves vs m rs b)) (one-less k one)
    (subst (λ y. n ≡ min wanted (plain_leaves vs (suc (k - 1)) rs y)) same r)

-- where nothing waits, they are those of the halves of the first range that can be split
pub halved-leaves : (vs : List Variable) (k : ℕ) (rs : List Range) (b : Branch) (place : ℕ) (at : ℤ) (wanted n : ℕ) → 1
    ≤ k → some_out_of_reach b.facts ≡ false → b.waiting ≡ [] →
    first_cut 0 rs ≡ Some (record { place = place; at = at }) →
    n ≡ min wanted (cut_leaves (plain_leaves vs (k - 1)) rs b (Some (record { place = place; at = at }))) → n ≡ min
    wanted (plain_leaves vs k rs b)
halved-leaves vs k rs b place at wanted n h u w e r =
    r ∙ ap (min wanted) (sym (unreached-leaves vs (k - 1) rs b u ∙ ap (open_leaves vs (plain_leaves vs (k - 1)) rs b) w
    ∙ ap (cut_leaves (plain_leaves vs (k - 1)) rs b) e) ∙ ap (λ j. plain_leaves vs j rs b) (one-less k h))

-- those of an obligation's first branch are the plain tree's
pub root-leaves : (o : Obligation) (vs : List Variable) (rs : List Range) (b : Branch) (wanted n : ℕ) → vs ≡
    o.variables → rs ≡ ranges_of o.variables → b ≡ first_branch o → n ≡ min wanted (plain_leaves vs 960 rs b) →
    n ≡ min wanted (plain_leaves o.variables 960 (ranges_of o.variables) (first_branch o))
root-leaves o vs rs b wanted n p q r h =
    subst (λ z. n ≡ min wanted (plain_leaves o.variables 960 (ranges_of o.variables) z)) r
    (subst (λ z. n ≡ min wanted (plain_leaves o.variables 960 z b)) q (subst
    (λ z. n ≡ min wanted (plain_leaves z 960 rs b)) p h))
