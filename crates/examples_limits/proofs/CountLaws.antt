-- The numbers of the obligation that a small step is defined.
use Rattle.std.proofs.Common.{◌≡◌, ℕ, suc, length, ◌+◌, ◌*◌, pos, negsuc, true, false, cond, None, [], ◌∷◌, ◌++◌, List}
use Rattle.std.proofs.Common.{refl, sym, ap, ◌∙◌}
use Rattle.core_terms.specs.declared.trees.CTerm.{CTerm}
use Rattle.core_terms.specs.declared.trees.CTerm.TheVariants.{Const, Slot, Sub}
use Rattle.core_terms.specs.declared.trees.CForm.{CForm, out-CForm, out-roll-CForm}
use Rattle.core_terms.specs.declared.trees.CForm.TheVariants.{AtLeast, Not, And, Or, rolls-Or}
use Rattle.core_terms.specs.declared.trees.CForm.TheOpen.{CForm-F}
use Rattle.core_terms.specs.declared.trees.Range.{Range}
use Rattle.obligations.specs.declared.branches.Branch.{Branch}
use Rattle.obligations.specs.declared.branches.Fact.{Fact}
use Rattle.obligations.specs.declared.branches.Variable.{Variable}
use Rattle.obligations.specs.declared.branches.Line.{Line}
use Rattle.obligations.specs.LinearForms.{linear}
use Rattle.obligations.specs.Opening.{first_branch, ranges_only}
use Rattle.obligations.specs.Settling.{settled, refused, joined, one_fact, one_waiting, first_ite, has_quotient}
use Rattle.obligations.specs.Settling.{least_adds, below_zero, sides, sides_in}
use Rattle.obligations.specs.Reach.{some_out_of_reach, gcd, gcd_in}
use Rattle.obligations.specs.Shapes.{shapes}
use Rattle.obligations.specs.Plain.{plain_leaves, open_leaves, side_leaves, quot_leaves, waiting_only, ranges_of}
use Rattle.obligations.specs.Plain.{least_power, leaf_units, leaf_units_of}
use Rattle.obligations.specs.Quotients.{is_either, is_either_in, without_quotient}
use Rattle.obligations.proofs.TableLaws.{settled-AtLeast, refused-AtLeast, settled-Not, refused-Not, refused-Or}
use Rattle.obligations.proofs.TableLaws.{refused-And}
use Rattle.obligations.proofs.TreeLaws.{linear-Const, linear-Slot, linear-Add, linear-Sub, ite-Const, ite-Slot, ite-Add}
use Rattle.obligations.proofs.TreeLaws.{ite-Sub}
use Rattle.obligations.proofs.SettlingLaws.{quotient-Const, quotient-Slot, quotient-Add, quotient-Sub}
use Rattle.obligations.proofs.ShapeLaws.{shape-Const, shape-Slot, shape-Add, shape-Sub, shape-AtLeast, shape-Not}
use Rattle.obligations.proofs.ShapeLaws.{shape-And, shape-Or}
use Rattle.examples_limits.specs.Count.{number, next, is_below_three, is_low, is_high, stays_in_range}
use Rattle.examples_limits.specs.Count.{step_defined, HasNumbers}

ruleset shape_rules = (
  shape-Const,
  shape-Slot,
  shape-Add,
  shape-Sub,
  shape-AtLeast,
  shape-Not,
  shape-And,
  shape-Or,
)

ruleset line_rules = (
  ite-Const,
  ite-Slot,
  ite-Add,
  ite-Sub,
  linear-Const,
  linear-Slot,
  linear-Add,
  linear-Sub,
  quotient-Const,
  quotient-Slot,
  quotient-Add,
  quotient-Sub,
)

shape-is : (shapes stays_in_range).no ≡ record { cases = 1; leaves = 2; quotients = 0 }
shape-is = simp shape_rules refl

abbrev vs : List Variable
vs = number ∷ []

abbrev rs : List Range
rs = ranges_of vs

-- x >= 0, x <= 3, and x < 3
abbrev start : List Fact
start = record { factors = (0, pos 1) ∷ []; constant = pos 0 }
    ∷ record { factors = (0, negsuc 0) ∷ []; constant = pos 3 }
    ∷ record { factors = (0, negsuc 0) ∷ []; constant = pos 2 }
    ∷ []

abbrev choice : CForm
choice = Or (Not is_low) (Not is_high)

abbrev opened : Branch
opened = record { facts = start; waiting = choice ∷ []; added = 0 }

-- what a term that is at least 0 adds, where it has no choice and no quotient
least-adds : (t : CTerm) (l : Line) → first_ite t ≡ None → has_quotient t ≡ false → linear vs t ≡ l →
    least_adds vs t (first_ite t) ≡ one_fact l
least-adds t l e n q = ap (least_adds vs t) e
    ∙ ap (λ h. cond h (one_waiting (AtLeast t)) (one_fact (linear vs t))) n ∙ ap one_fact q

settled-below : (b : Branch) → settled vs is_below_three b
    ≡ joined b (one_fact (record { factors = negsuc 0 ∷ []; constant = pos 2 }))
settled-below b = settled-AtLeast vs (Sub (Sub (Const (pos 3)) (Slot 0)) (Const (pos 1))) b
    ∙ ap (joined b) (least-adds (Sub (Sub (Const (pos 3)) (Slot 0)) (Const (pos 1)))
    (record { factors = negsuc 0 ∷ []; constant = pos 2 }) (simp line_rules refl) (simp line_rules refl)
    (simp line_rules refl))

first-is : first_branch step_defined ≡ opened
first-is =
    let bounds = ranges_only vs in
    refused-Or vs (Not is_below_three) (And is_low is_high) bounds
    ∙ ap (refused vs (And is_low is_high)) (refused-Not vs is_below_three bounds ∙ settled-below bounds)
    ∙ refused-And vs is_low is_high (joined bounds (one_fact (record { factors = negsuc 0 ∷ []; constant = pos 2 })))

-- x + 1 < 0, and x + 1 > 3
abbrev below : List Fact
below = start ++ record { factors = (0, negsuc 0) ∷ []; constant = negsuc 1 } ∷ []

abbrev above : List Fact
above = start ++ record { factors = (0, pos 1) ∷ []; constant = negsuc 2 } ∷ []

-- what the negation of a term that is at least 0 adds, where it has no choice and no quotient
refused-least : (t : CTerm) (l : Line) (b : Branch) → first_ite (below_zero t) ≡ None →
    has_quotient (below_zero t) ≡ false → linear vs (below_zero t) ≡ l →
    settled vs (Not (AtLeast t)) b ≡ joined b (one_fact l)
refused-least t l b e n q = settled-Not vs (AtLeast t) b ∙ refused-AtLeast vs t b
    ∙ ap (joined b) (least-adds (below_zero t) l e n q)

below-is : settled vs (Not is_low) (waiting_only opened []) ≡ record { facts = below; waiting = []; added = 0 }
below-is = refused-least (Sub next (Const (pos 0))) (record { factors = negsuc 0 ∷ []; constant = negsuc 1 })
    (waiting_only opened []) (simp line_rules refl) (simp line_rules refl) (simp line_rules refl)

above-is : settled vs (Not is_high) (waiting_only opened []) ≡ record { facts = above; waiting = []; added = 0 }
above-is = refused-least (Sub (Const (pos 3)) next) (record { factors = pos 1 ∷ []; constant = negsuc 2 })
    (waiting_only opened []) (simp line_rules refl) (simp line_rules refl) (simp line_rules refl)

out-is : out-CForm choice ≡ CForm-F.Or (Not is_low) (Not is_high)
out-is = ap out-CForm (sym (rolls-Or (Not is_low) (Not is_high)))
    ∙ out-roll-CForm (CForm-F.Or (Not is_low) (Not is_high))

sides-are : sides choice ≡ (Not is_low, Not is_high)
sides-are = ap (sides_in choice) out-is

either-is : is_either choice ≡ true
either-is = ap is_either_in out-is

start-open : some_out_of_reach start ≡ false
unfolding gcd gcd_in
start-open = refl

below-closed : some_out_of_reach below ≡ true
unfolding gcd gcd_in
below-closed = refl

above-closed : some_out_of_reach above ≡ true
unfolding gcd gcd_in
above-closed = refl

leaf : (k : ℕ) (facts : List Fact) (b : Branch) → b ≡ record { facts = facts; waiting = []; added = 0 } →
    some_out_of_reach facts ≡ true → plain_leaves vs (suc k) rs b ≡ 1
leaf k facts b e h = ap (plain_leaves vs (suc k) rs) e
    ∙ ap
    (λ t. cond t 1 (open_leaves vs (plain_leaves vs k) rs (record { facts = facts; waiting = []; added = 0 }) [])) h

two-leaves : (k : ℕ) → plain_leaves vs (suc (suc k)) rs opened ≡ 2
two-leaves k =
    let taken = ap (λ t. cond t 1 (open_leaves vs (plain_leaves vs (suc k)) rs opened (choice ∷ []))) start-open in
    let either = ap (λ t. cond t (side_leaves vs (plain_leaves vs (suc k)) rs (waiting_only opened []) choice)
    (quot_leaves vs (plain_leaves vs (suc k)) rs (waiting_only opened []) (without_quotient 0 choice))) either-is in
    let halves = ap (λ (s : CForm × CForm). plain_leaves vs (suc k) rs (settled vs s.0 (waiting_only opened []))
    + plain_leaves vs (suc k) rs (settled vs s.1 (waiting_only opened []))) sides-are in
    let one = leaf k below (settled vs (Not is_low) (waiting_only opened [])) below-is below-closed in
    let two = leaf k above (settled vs (Not is_high) (waiting_only opened [])) above-is above-closed in
    taken ∙ either ∙ halves
    ∙ ap (λ n. n + plain_leaves vs (suc k) rs (settled vs (Not is_high) (waiting_only opened []))) one
    ∙ ap (λ n. 1 + n) two

pub has-numbers : HasNumbers
unfolding least_power
has-numbers = record {
  height = ap (λ s. s.cases + 2) shape-is;
  need = ap (λ s. (s.leaves * 4) * leaf_units 1 s.quotients) shape-is;
  enough = ap (λ b. plain_leaves vs 960 rs b * leaf_units_of step_defined) first-is
      ∙ ap (λ n. n * leaf_units_of step_defined) (two-leaves 958) ∙ ap (λ s. 2 * leaf_units 1 s.quotients) shape-is;
  opened = ap (λ (b : Branch). length b.facts) first-is;
  settled = ap (λ b. length (settled vs (Not is_low) b).facts) first-is
      ∙ ap (λ (b : Branch). length b.facts) (refused-least (Sub next (Const (pos 0)))
      (record { factors = negsuc 0 ∷ []; constant = negsuc 1 }) opened (simp line_rules refl) (simp line_rules refl)
      (simp line_rules refl));
  units = refl;
}
