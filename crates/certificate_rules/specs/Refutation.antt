-- When a certificate refutes a branch, and which node fails first where none does.
use Rattle.std.specs.Prelude.{◌≡◌, ◌≤◌, nat_lt, ℕ, zero, suc, ◌+◌, ◌-◌, ℤ, pos, ◌+ℤ◌, true, cond, Option}
use Rattle.std.specs.Prelude.{Some, None, Result, Ok, Err, List, [], ◌∷◌, ◌++◌, map, length, slice_get}
use Rattle.std.specs.Option.{option_and_then}
use Rattle.obligations.specs.from_core_terms.declared.trees.CForm.{CForm}
use Rattle.obligations.specs.from_case_tables.declared.code_table.Code.{Code}
use Rattle.obligations.specs.declared.branches.Branch.{Branch}
use Rattle.obligations.specs.declared.branches.Line.{Line}
use Rattle.obligations.specs.declared.branches.Variable.{Variable}
use Rattle.obligations.specs.declared.branches.Replaced.{Replaced}
use Rattle.obligations.specs.declared.branches.Obligation.{Obligation}
use Rattle.obligations.specs.declared.certificates.Node.{Node}
use Rattle.obligations.specs.LinearForms.{fact_of}
use Rattle.obligations.specs.Obligations.{IsObligation}
use Rattle.obligations.specs.Quotients.{is_either, without_quotient, with_quotient}
use Rattle.obligations.specs.Scopes.{next_param, scope_of}
use Rattle.obligations.specs.Closed.{IsClosed}
use Rattle.obligations.specs.Opening.{Valid, first_branch, at_most, at_least}
use Rattle.obligations.specs.Settling.{settled, sides, without, added, branch_holds}
use Rattle.certificate_rules.specs.Sums.{all_pairs, is_false, is_divisible, divided, stated, below_0}

-- What a node makes of a branch: a failure, or the branches that its subtrees have to refute.
pub data NodeEffect : Type 0 where
  fails : Code → NodeEffect
  opens : List Branch → NodeEffect

abbrev pub made_case : List Variable → Branch → ℕ → Option CForm → NodeEffect
made_case vs b k None = fails Code.NothingToCase
made_case vs b k (Some f) =
    cond (is_either f) (opens (settled vs (sides f).0 (without b k) ∷ settled vs (sides f).1 (without b k) ∷ []))
    (fails Code.NothingToCase)

-- what `case` makes of a branch over its variables: its waiting formula of this number, an `Or`, is taken out, and
-- either side settled
abbrev pub case_at : List Variable → Branch → ℕ → NodeEffect
case_at vs b zero = fails Code.NothingToCase
case_at vs b (suc k) = made_case vs b k (slice_get b.waiting k)

abbrev pub made_quot : List Variable → Branch → ℕ → Option Replaced → NodeEffect
made_quot vs b k None = fails Code.NothingToQuot
made_quot vs b k (Some r) = opens (with_quotient vs r (without b k) ∷ [])

-- what `quot` makes: its waiting formula of this number is taken out, a variable is added for the formula's first
-- quotient, and the formula settled with the variable in its place
abbrev pub quot_at : List Variable → Branch → ℕ → NodeEffect
quot_at vs b zero = fails Code.NothingToQuot
quot_at vs b (suc k) =
    made_quot vs b k (option_and_then (without_quotient (next_param vs)) (slice_get b.waiting k))

-- what `split` makes: the variable is at most k, or above it
abbrev pub split_at : List Variable → Branch → ℕ → ℤ → NodeEffect
split_at vs b zero k = fails Code.NoSuchVariable
split_at vs b (suc v) k =
    cond (nat_lt v (length vs)) (opens (added b (at_most v k) ∷ added b (at_least v (k +ℤ pos 1)) ∷ []))
    (fails Code.NoSuchVariable)

-- a sum closes the branch where it is false
abbrev pub made_sum : Result Line Code → NodeEffect
made_sum (Err c) = fails c
made_sum (Ok l) = cond (is_false l) (opens []) (fails Code.BadSum)

-- a sum whose factors the number divides is added as a fact, divided and rounded down
abbrev pub made_round : Branch → ℤ → Result Line Code → NodeEffect
made_round b d (Err c) = fails c
made_round b d (Ok l) = cond (is_divisible d l) (opens (added b (fact_of (divided d l)) ∷ [])) (fails Code.NotDivisible)

-- what `share` makes: the stated fact is to be refuted, and then used
abbrev pub made_share : Branch → Result Line Code → NodeEffect
made_share b (Err c) = fails c
made_share b (Ok l) = opens (added b (fact_of (below_0 l)) ∷ added b (fact_of l) ∷ [])

abbrev pub made_by : List Variable → Branch → Node → NodeEffect
made_by vs b (Node.Case k) = case_at vs b k
made_by vs b (Node.Split v k) = split_at vs b v k
made_by vs b (Node.Sum ps) = made_sum (all_pairs vs b.facts ps)
made_by vs b (Node.Round d ps) = made_round b d (all_pairs vs b.facts ps)
made_by vs b (Node.Quot k) = quot_at vs b k
made_by vs b (Node.Share c ps) = made_share b (stated vs c ps)

-- a branch, and how many levels of nodes may refute it
pub record OpenBranch : Type 0 where
  pub levels : ℕ
  pub branch : Branch

-- a node for which no level is left fails; another reads the branch over its variables, those of the obligation and
-- the added ones
abbrev pub made : List Variable → OpenBranch → Node → NodeEffect
made vs p n = cond (nat_lt 0 p.levels) (made_by (scope_of vs p.branch) p.branch n) (fails Code.CertTooDeep)

abbrev pub pending : ℕ → List Branch → List OpenBranch
pending levels bs = map (λ b. record { levels = levels; branch = b }) bs

-- the branches that are still to be refuted, in order, or the first node that fails and its code
abbrev pub WalkResult : Type 0
WalkResult = Result (List OpenBranch) (Code × ℕ)

abbrev pub after : (List OpenBranch → WalkResult) → ℕ → List OpenBranch → ℕ → NodeEffect → WalkResult
after rest levels ps at (fails c) = Err (c, at)
after rest levels ps at (opens bs) = rest (pending (levels - 1) bs ++ ps)

-- The nodes from the place `at` on, against the branches that are still to be refuted, in order. Where there
-- are none, no node is looked at.
abbrev pub walk : List Variable → List Node → List OpenBranch → ℕ → WalkResult
walk vs [] ps at = Ok ps
walk vs (n ∷ ns) [] at = Ok []
walk vs (n ∷ ns) (p ∷ ps) at = after (λ qs. walk vs ns qs (suc at)) p.levels ps at (made vs p n)

abbrev pub allowing : ℕ → Branch → OpenBranch
allowing levels b = record { levels = levels; branch = b }

-- what a walk along the nodes makes of an obligation's first branch, where so many levels are allowed
abbrev pub walk_from_root : ℕ → Obligation → List Node → WalkResult
walk_from_root levels o nodes = walk o.variables nodes (allowing levels (first_branch o) ∷ []) 0

-- further nodes go on where a walk ended
abbrev pub go_on : WalkResult → (List OpenBranch → WalkResult) → WalkResult
go_on (Ok ps) rest = rest ps
go_on (Err e) rest = Err e

abbrev pub WalkAppends : Type 0
WalkAppends = (vs : List Variable) (ns ms : List Node) (ps : List OpenBranch) (at : ℕ) →
    walk vs (ns ++ ms) ps at ≡ go_on (walk vs ns ps at) (λ qs. walk vs ms qs (at + length ns))

-- a branch holds at these values of the obligation's variables and some values of the added ones
abbrev pub HoldsAt : List Variable → List ℤ → Branch → Type 0
HoldsAt vs values b =
    (more : List ℤ) × (length more ≡ b.added) × (branch_holds (scope_of vs b) (values ++ more) b ≡ true)

-- none of the branches holds at these values
abbrev pub NoneHolds : List Variable → List ℤ → List OpenBranch → Type 0
NoneHolds vs values [] = Unit {0}
NoneHolds vs values (p ∷ ps) = (HoldsAt vs values p.branch → ⊥) × NoneHolds vs values ps

-- the branches name their own variables only
abbrev pub AreClosed : List Variable → List OpenBranch → Type 0
AreClosed vs [] = Unit {0}
AreClosed vs (p ∷ ps) = IsClosed (scope_of vs p.branch) p.branch × AreClosed vs ps

-- where none of the branches holds that a walk leaves, none of those held with which it began
abbrev pub WalkKeeps : Type 0
WalkKeeps = (vs : List Variable) (values : List ℤ) → length values ≡ length vs → (ns : List Node)
    (ps qs : List OpenBranch) (at : ℕ) → walk vs ns ps at ≡ Ok qs → AreClosed vs ps → NoneHolds vs values qs →
    NoneHolds vs values ps

-- an obligation of which a walk leaves no branch is valid
abbrev pub Sound : Type 0
Sound = (levels : ℕ) (o : Obligation) (nodes : List Node) → IsObligation o → walk_from_root levels o nodes ≡ Ok [] →
    Valid o

-- what refutes within some levels does so within more
abbrev pub MoreLevels : Type 0
MoreLevels = (few many : ℕ) (o : Obligation) (nodes : List Node) → few ≤ many →
    walk_from_root few o nodes ≡ Ok [] → walk_from_root many o nodes ≡ Ok []
