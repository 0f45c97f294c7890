-- What a search starts from and how it ends.
use Rattle.std.specs.Prelude.{◌≡◌, ℕ, zero, suc, ◌+◌, ◌-◌, ◌*◌, ◌^◌, ◌≤◌, ◌<◌, ◌⊎◌, nat_le, ℤ, pos, neg_ℤ, ◌-ℤ◌, ◌≤ℤ◌}
use Rattle.std.specs.Prelude.{Bool, true, false, ◌&&◌, Option, Some, None, Ok, Err, List, [], ◌∷◌, ◌++◌, length, take}
use Rattle.std.specs.Prelude.{slice_get}
use Rattle.std.specs.List.{list_all}
use Rattle.std.specs.Int.RustNames.{unsigned_abs}
use Rattle.core_terms.specs.declared.trees.Range.{Range}
use Rattle.obligations.specs.declared.branches.Variable.{Variable}
use Rattle.obligations.specs.declared.branches.Branch.{Branch}
use Rattle.obligations.specs.declared.branches.Fact.{Fact}
use Rattle.obligations.specs.declared.branches.Line.{Line}
use Rattle.obligations.specs.declared.branches.Obligation.{Obligation}
use Rattle.obligations.specs.declared.certificates.Node.{Node}
use Rattle.certificate_rules.specs.Refutation.{OpenBranch, HoldsAt}
use Rattle.obligations.specs.Closed as names
use Rattle.obligations.specs.LinearForms.{negated}
use Rattle.obligations.specs.Quotients.{fact_with, raised}
use Rattle.obligations.specs.Scopes.{scope, scope_of}
use Rattle.obligations.specs.Settling.{form_at}
use Rattle.obligations.specs.Load.{is_light_branch}
use Rattle.obligations.specs.Obligations.{is_sound_range}
use Rattle.obligations.specs.Opening.{in_ranges, first_branch}
use Rattle.certificate_rules.specs.Refutation.{allowing, walk_from_root, WalkResult}
use Rattle.obligations.specs.Opening.{at_most, at_least}
use Rattle.search_tree.specs.declared.trail.Trail.{Trail}
use Rattle.search_tree.specs.declared.trail.Ended.{Ended}
use Rattle.search_tree.specs.declared.searching.Found.{Found}
use Rattle.obligations.specs.Reach.{are_exact, is_within}
use Rattle.linear_prover.specs.Chains.{Closes, is_plain_node, is_plain_number, is_plain_factor, is_plain_pair}
use Rattle.obligations.specs.Certificates.{units}
use Rattle.certificate_rules.specs.Trees.{is_whole}
use Rattle.search_tree.specs.Left.{left}
use Rattle.obligations.specs.Shapes.{cases_of, quotients_of}
use Rattle.search_tree.specs.Choices.{can_wait}
use Rattle.obligations.specs.Load.{is_narrow}
use Rattle.obligations.specs.Plain.{cuts_of, enough, need_of, leaf_units, leaf_units_of, quotients_in}
use Rattle.search_tree.specs.Weighing.{line_weight, weight_in, AreWeights}

-- The facts that the ranges stand for are among the facts.
abbrev pub Has : List Fact → Fact → Type 0
Has [] f = ⊥
Has (g ∷ fs) f = (g ≡ f) ⊎ Has fs f

abbrev pub AreBounded : ℕ → List Range → List Fact → Type 0
AreBounded n [] facts = Unit {0}
AreBounded n (r ∷ rs) facts = Has facts (at_least n r.lo) × Has facts (at_most n r.hi) × AreBounded (suc n) rs facts

abbrev pub widths : List (ℕ × ℤ) → ℕ
widths [] = 0
widths (f ∷ fs) = unsigned_abs f.1 + widths fs

-- no factor past 2^62, factors of at most 2^63 together, and no constant past 2^64
abbrev pub is_slender : Fact → Bool
is_slender f =
    list_all is_plain_factor f.factors
    && (nat_le (widths f.factors) (2 ^ 63) && nat_le (unsigned_abs f.constant) (2 ^ 64))

-- the units of a chain that closes a branch of so many variables are less than these
abbrev pub chain_units : ℕ → ℕ
chain_units count = count + 256

-- how many quotients were taken in a branch and can still be, on one path
abbrev pub quotients_at : Branch → ℕ
quotients_at b = quotients_of b.waiting + b.added

-- the units of each leaf below a branch: each quotient that was taken has used one
abbrev pub room_of : List Variable → Branch → ℕ
room_of vs b = leaf_units (length vs) (quotients_at b) - b.added

-- The variable after these stands for a linear form over them, divided by a number and rounded down: so say the first
-- fact that names it and the next one. It weighs enough for that.
pub record IsTaken (ws : List ℕ) (vs : List Variable) (facts : List Fact) : Type 0 where
  pub place : ℕ
  pub line : Line
  pub divisor : ℤ
  pub long : length line.factors ≡ length vs
  pub positive : pos 1 ≤ℤ divisor
  pub unnamed : list_all (λ (f : Fact). is_within (length vs) f.factors) (take place facts) ≡ true
  pub low : slice_get facts place ≡ Some (fact_with line (neg_ℤ divisor))
  pub high : slice_get facts (suc place) ≡ Some (fact_with (raised (negated vs line) (divisor -ℤ pos 1)) divisor)
  pub weight : line_weight ws line ≤ unsigned_abs divisor * weight_in ws (length vs)

-- so does each of the first added variables
abbrev pub AreTaken : List ℕ → List Variable → ℕ → List Fact → Type 0
AreTaken ws vs zero facts = Unit {0}
AreTaken ws vs (suc n) facts = AreTaken ws vs n facts × IsTaken ws (scope vs n) facts

-- what each added variable of a branch stands for, and weights with which all values are small
pub record Fixes (vs : List Variable) (rs : List Range) (b : Branch) : Type 0 where
  pub weights : List ℕ
  pub weighed : AreWeights vs rs b weights
  pub taken : AreTaken weights vs b.added b.facts

-- what a branch of the plain tree meets, with this many levels left: for each quotient that was taken two are kept
pub record Ready (vs : List Variable) (k : ℕ) (rs : List Range) (b : Branch) : Type 0 where
  pub deep : cases_of b.waiting + cuts_of rs + 2 * b.added ≤ k
  pub light : is_light_branch (2 ^ 63) b ≡ true
  pub waits : list_all can_wait b.waiting ≡ true
  pub narrow : list_all is_narrow b.waiting ≡ true
  pub exact : are_exact (length (scope_of vs b)) b.facts ≡ true
  pub slender : list_all is_slender b.facts ≡ true
  pub long : length rs ≡ length vs
  pub sound : list_all is_sound_range rs ≡ true
  pub bounded : AreBounded 0 rs b.facts
  pub closed : names.IsClosed (scope_of vs b) b
  pub fixes : Fixes vs rs b

-- some branch is left
abbrev pub HasOpenBranch : Option (List OpenBranch) → Type 0
HasOpenBranch None = ⊥
HasOpenBranch (Some []) = ⊥
HasOpenBranch (Some (p ∷ ps)) = Unit {0}

-- how many levels are left where so many are for the plain tree: a closing chain may have 64
abbrev pub levels_of : ℕ → ℕ
levels_of k = 64 + k

-- a node that a search can write, none of whose numbers is outside plus or minus 2^62
abbrev pub is_found_node : Node → Bool
is_found_node (Node.Case k) = true
is_found_node (Node.Split v k) = is_plain_number k
is_found_node (Node.Sum ps) = list_all is_plain_pair ps
is_found_node (Node.Round d ps) = is_plain_number d && list_all is_plain_pair ps
is_found_node (Node.Quot k) = nat_le k (2 ^ 62)
is_found_node (Node.Share c ps) = false

-- The nodes after `old` close a branch with k levels left, within its leaves' units.
pub record Closed (vs : List Variable) (k leaves : ℕ) (b : Branch) (old new : Trail) : Type 0 where
  pub closes : (first ps : List OpenBranch) → left vs (Some first) old.nodes ≡ Some (allowing (levels_of k) b ∷ ps) →
      left
      vs (Some first) new.nodes ≡ Some ps
  pub found : list_all is_found_node old.nodes ≡ true → list_all is_found_node new.nodes ≡ true
  pub plain : quotients_at b ≡ 0 → list_all is_plain_node old.nodes ≡ true → list_all is_plain_node new.nodes ≡ true
  pub cost : units new.nodes + 1 ≤ units old.nodes + leaves * room_of vs b
  pub spent : units new.nodes + new.spare ≡ units old.nodes + old.spare

-- The budget ended inside a branch: something is left, a leaf's units are not there any more, and the leaves' units
-- were not there before.
pub record BudgetEnded (vs : List Variable) (k leaves : ℕ) (b : Branch) (old new : Trail) : Type 0 where
  pub opened : (first ps : List OpenBranch) → left vs (Some first) old.nodes ≡ Some (allowing (levels_of k) b ∷ ps) →
      HasOpenBranch (left vs (Some first) new.nodes)
  pub short : old.spare + 1 < leaves * room_of vs b
  pub last : new.spare + 1 < room_of vs b
  pub spent : units new.nodes + new.spare ≡ units old.nodes + old.spare

-- With some values of the added variables, the values make all of a branch hold.
pub record Met (vs : List Variable) (b : Branch) (values : List ℤ) : Type 0 where
  pub long : length values ≡ length vs
  pub holds : HoldsAt vs values b

abbrev pub Ends : List Variable → ℕ → ℕ → Branch → Trail → Trail → Ended → Type 0
Ends vs k leaves b old new Ended.Closed = Closed vs k leaves b old new
Ends vs k leaves b old new Ended.Stopped = BudgetEnded vs k leaves b old new
Ends vs k leaves b old new (Ended.Refuted values) = Met vs b values

-- a chain was added whole, or there were too few units for it
abbrev pub Finishes : List Node → Trail → Trail → Ended → Type 0
Finishes ns old new Ended.Closed = (new.nodes ≡ old.nodes ++ ns) × (new.spare + units ns ≡ old.spare)
Finishes ns old new Ended.Stopped = (old.spare < units ns) × (new ≡ old)
Finishes ns old new (Ended.Refuted values) = ⊥

-- a chain closes the facts over so many variables, of at most so many nodes and less than so many units, and was added
-- whole, or there were too few units for it
pub record Tried (count most room : ℕ) (facts : List Fact) (old new : Trail) (ended : Ended) : Type 0 where
  pub nodes : List Node
  pub closes : Closes count facts nodes
  pub short : length nodes ≤ most
  pub cheap : units nodes < room
  pub plain : list_all is_plain_node nodes ≡ true
  pub finished : Finishes nodes old new ended

-- by a chain as may stand at any branch of so many variables
abbrev pub TriedShortly : ℕ → List Fact → Trail → Trail → Ended → Type 0
TriedShortly count = Tried count 64 (chain_units count)

-- a leaf with added variables is closed by a chain, or values make its branch hold
abbrev pub EndsLeaf : List Variable → Branch → Trail → Trail → Ended → Type 0
EndsLeaf vs b old new (Ended.Refuted values) = Met vs b values
EndsLeaf vs b old new ended =
    Tried (length (scope_of vs b)) (64 + 2 * b.added) (room_of vs b) b.facts old new ended

abbrev pub found_of : Ended → List Node → Found
found_of Ended.Closed nodes = Found.Proved (record { nodes = nodes })
found_of Ended.Stopped nodes = Found.Budget (record { nodes = nodes })
found_of (Ended.Refuted values) nodes = Found.Refuted values

abbrev pub EndsClosed : Ended → Type 0
EndsClosed Ended.Closed = Unit {0}
EndsClosed Ended.Stopped = ⊥
EndsClosed (Ended.Refuted values) = ⊥

-- a walk leaves some branch
abbrev pub IsUnfinished : WalkResult → Type 0
IsUnfinished (Ok []) = ⊥
IsUnfinished (Ok (p ∷ ps)) = Unit {0}
IsUnfinished (Err e) = ⊥

-- the branch that is to be refuted at first
abbrev pub root : Obligation → List OpenBranch
root o = allowing 1024 (first_branch o) ∷ []

pub record Proof (o : Obligation) (budget : ℕ) (nodes : List Node) : Type 0 where
  pub whole : is_whole nodes 1 ≡ true
  pub walked : walk_from_root 1024 o nodes ≡ Ok []
  pub found : list_all is_found_node nodes ≡ true
  pub plain : quotients_in o ≡ 0 → list_all is_plain_node nodes ≡ true
  pub within : units nodes ≤ budget
  pub cheap : units nodes ≤ enough o
  pub needed : units nodes ≤ need_of o

pub record Counterexample (o : Obligation) (values : List ℤ) : Type 0 where
  pub inside : in_ranges o.variables values ≡ true
  pub fails : form_at o.variables values o.form ≡ false

-- the budget is less than enough, and the nodes begin a certificate, whose closed branches are all refuted
pub record Partial (o : Obligation) (budget : ℕ) (nodes : List Node) : Type 0 where
  pub small : budget < enough o
  pub needs : budget < need_of o
  pub opened : IsUnfinished (walk_from_root 1024 o nodes)
  pub within : units nodes ≤ budget
  pub full : budget + 1 < units nodes + leaf_units_of o

abbrev pub SearchAnswers : Obligation → ℕ → Found → Type 0
SearchAnswers o budget (Found.Proved c) = Proof o budget c.nodes
SearchAnswers o budget (Found.Refuted values) = Counterexample o values
SearchAnswers o budget (Found.Budget c) = Partial o budget c.nodes
