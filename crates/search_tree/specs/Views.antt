-- What a walk of the plain tree needs of what it sees at a branch.
use Rattle.std.specs.Prelude.{◌≡◌, ℕ, suc, ◌≤◌, Some, List}
use Rattle.core_terms.specs.declared.trees.CForm.{CForm}
use Rattle.core_terms.specs.declared.trees.Range.{Range}
use Rattle.obligations.specs.declared.branches.Branch.{Branch}
use Rattle.obligations.specs.declared.branches.Variable.{Variable}
use Rattle.obligations.specs.Obligations.{AreOwn}
use Rattle.obligations.specs.Plain.{plain_leaves, quot_leaves, cut_leaves}
use Rattle.obligations.specs.Quotients.{without_quotient}
use Rattle.obligations.specs.Scopes.{next_param, scope_of}
use Rattle.search_tree.specs.declared.halves.Halves.{Halves}
use Rattle.search_tree.specs.declared.views.View.{View}
use Rattle.search_tree.specs.declared.trail.Trail.{Trail}
use Rattle.search_tree.specs.declared.trail.Ended.{Ended}
use Rattle.search_tree.specs.Searching.{Ready, Ends}

-- what a view sees
pub record ViewSees (view : View) (vs us : List Variable) (k : ℕ) (rs : List Range) : Type 0 where
  pub variables : view.vs.now ≡ vs
  pub scope : view.scope.now ≡ us
  pub rest : view.rest ≡ k
  pub ranges : view.ranges.now ≡ rs

-- an obligation's own variables, and those of this branch
pub record IsView (view : View) (b : Branch) : Type 0 where
  pub own : AreOwn view.vs.now
  pub scope : view.scope.now ≡ scope_of view.vs.now b
  pub few : view.rest ≤ 960

-- the branch is ready with the levels that are left
abbrev pub ViewIsReady : View → Branch → Type 0
ViewIsReady view b = Ready view.vs.now view.rest view.ranges.now b

-- with one more
abbrev pub IsReadyAbove : View → Branch → Type 0
IsReadyAbove view b = Ready view.vs.now (suc view.rest) view.ranges.now b

-- the leaves of a branch of the plain tree
abbrev pub leaves_at : View → Branch → ℕ
leaves_at view b = plain_leaves view.vs.now view.rest view.ranges.now b

abbrev pub leaves_above : View → Branch → ℕ
leaves_above view b = plain_leaves view.vs.now (suc view.rest) view.ranges.now b

-- those of one quotient of a formula, and of both halves of a range
abbrev pub leaves_by_quotient : View → Branch → CForm → ℕ
leaves_by_quotient view b f =
    quot_leaves view.scope.now (plain_leaves view.vs.now view.rest) view.ranges.now b
    (without_quotient (next_param view.scope.now) f)

abbrev pub leaves_by_halves : View → Branch → Halves → ℕ
leaves_by_halves view b h =
    cut_leaves (plain_leaves view.vs.now view.rest) view.ranges.now b (Some (record { place = h.place; at = h.at }))

-- how the search of a branch ends
abbrev pub ViewEndsAt : View → Branch → Trail → Trail → Ended → Type 0
ViewEndsAt view b = Ends view.vs.now view.rest (leaves_at view b) b

-- with one more level, within the units of so many leaves
abbrev pub EndsAbove : View → ℕ → Branch → Trail → Trail → Ended → Type 0
EndsAbove view = Ends view.vs.now (suc view.rest)
