-- The branches that a checker in the middle of a certificate has still to refute.
use Rattle.std.specs.Prelude.{◌≡◌, ℕ, ◌+◌, ◌-◌, ◌<◌, ◌≤◌, ◌^◌, Bool, true, false, cond, Result, Ok, Err, List, [], ◌∷◌}
use Rattle.std.specs.Prelude.{◌++◌, length, take, insert, reverse, pos, ◌+ℤ◌}
use Rattle.std.specs.List.{list_all}
use Rattle.case_tables.specs.declared.code_table.Code.{Code}
use Rattle.obligations.specs.declared.branches.Branch.{Branch}
use Rattle.obligations.specs.declared.branches.Variable.{Variable}
use Rattle.obligations.specs.Load.{is_light, is_light_branch}
use Rattle.obligations.specs.Opening.{at_least}
use Rattle.obligations.specs.Scopes.{scope_of}
use Rattle.obligations.specs.Settling.{settled, sides, added}
use Rattle.certificate_machine.specs.declared.frames.Todo.{Todo}
use Rattle.certificate_machine.specs.declared.frames.Frame.{Frame}
use Rattle.certificate_machine.specs.declared.frames.Machine.{Machine}
use Rattle.certificate_machine.specs.declared.errors.Stop.{Stop}
use Rattle.certificate_rules.specs.Refutation.{NodeEffect, fails, opens, OpenBranch, allowing, pending}

-- a branch cut back to a frame's lengths
abbrev pub base_of : Frame → Branch → Branch
base_of f b = record { facts = take f.facts b.facts; waiting = take f.waits b.waiting; added = f.added }

abbrev pub full_by : Todo → Branch → Branch
full_by (Todo.Form place form) b = record { facts = b.facts; waiting = insert b.waiting place form; added = b.added }
full_by (Todo.Bound variable most) b = b
full_by (Todo.Fact fact) b = b
full_by Todo.Nothing b = b

-- the branch that a frame was made at
abbrev pub full_of : Frame → Branch → Branch
full_of f b = full_by f.todo (base_of f b)

abbrev pub second_by : List Variable → Todo → Branch → Branch
second_by vs (Todo.Form place form) b = settled (scope_of vs b) (sides form).1 b
second_by vs (Todo.Bound variable most) b = added b (at_least variable (most +ℤ pos 1))
second_by vs (Todo.Fact fact) b = added b fact
second_by vs Todo.Nothing b = b

-- the branch of a frame's second subtree
abbrev pub second_of : List Variable → Frame → Branch → Branch
second_of vs f b = second_by vs f.todo (base_of f b)

abbrev pub waiting_first : Bool → OpenBranch → List OpenBranch → List OpenBranch
waiting_first b p ps = cond b (p ∷ ps) ps

-- the branches that frames have still to refute, from the innermost frame on
abbrev pub behind : List Variable → List Frame → Branch → List OpenBranch
behind vs [] b = []
behind vs (f ∷ fs) b = waiting_first f.first (allowing (f.levels - 1) (second_of vs f b)) (behind vs fs (full_of f b))

abbrev pub place_fits : Todo → ℕ → Type 0
place_fits (Todo.Form place form) n = place ≤ n
place_fits (Todo.Bound variable most) n = Unit {0}
place_fits (Todo.Fact fact) n = Unit {0}
place_fits Todo.Nothing n = Unit {0}

-- the lengths in a frame fit a branch
pub record FrameFits (f : Frame) (b : Branch) : Type 0 where
  pub levels : 0 < f.levels
  pub facts : f.facts ≤ length b.facts
  pub waits : f.waits ≤ length b.waiting
  pub place : place_fits f.todo f.waits
  pub added : f.added ≤ b.added
  pub room : f.added + f.levels ≤ 4096

abbrev pub FramesFit : List Frame → Branch → Type 0
FramesFit [] b = Unit {0}
FramesFit (f ∷ fs) b = FrameFits f b × FramesFit fs (full_of f b)

-- the branches that are still to be refuted, in order
abbrev pub pendings : List Variable → Machine → List OpenBranch
pendings vs m = cond m.done [] (allowing m.levels m.branch ∷ behind vs (reverse m.frames) m.branch)

abbrev pub IsFit : Machine → Type 0
IsFit m = FramesFit (reverse m.frames) m.branch

-- the branches behind the one that the next node belongs to
abbrev pub rest_of : List Variable → Machine → List OpenBranch
rest_of vs m = behind vs (reverse m.frames) m.branch

-- one node against the first of the branches
abbrev pub step_by : ℕ → List OpenBranch → NodeEffect → Result (List OpenBranch) Code
step_by levels ps (fails c) = Err c
step_by levels ps (opens bs) = Ok (pending (levels - 1) bs ++ ps)

-- what a frame keeps of what it had to do, once its second subtree has begun: a fact is then the branch's
abbrev pub spent : Todo → Todo
spent (Todo.Form place form) = Todo.Form place form
spent (Todo.Bound variable most) = Todo.Nothing
spent (Todo.Fact fact) = Todo.Nothing
spent Todo.Nothing = Todo.Nothing

-- a frame in its second subtree
abbrev pub turned : Frame → Frame
turned f = record f { todo = spent f.todo; first = false }

-- settling a formula that was taken out meets no load past 2^63
abbrev pub is_light_todo : Todo → Bool
is_light_todo (Todo.Form place form) = is_light (2 ^ 63) form
is_light_todo (Todo.Bound variable most) = true
is_light_todo (Todo.Fact fact) = true
is_light_todo Todo.Nothing = true

abbrev pub are_light : List Frame → Bool
are_light fs = list_all (λ f. is_light_todo f.todo) fs

-- nor settling one that waits, or is taken out in a frame
pub record IsLightMachine (m : Machine) : Type 0 where
  pub waiting : is_light_branch (2 ^ 63) m.branch ≡ true
  pub taken : are_light m.frames ≡ true

-- a machine holds the variables of its branch, and not more than can be added by the levels that are left
pub record IsScoped (vs : List Variable) (m : Machine) : Type 0 where
  pub variables : m.variables ≡ scope_of vs m.branch
  pub room : m.branch.added + m.levels ≤ 4096

-- what a function that reads a node promises, for what the node makes of the branch
abbrev pub GoesErr : List Variable → Machine → NodeEffect → Stop → Type 0
GoesErr vs old m (Stop.Fault c) = step_by old.levels (rest_of vs old) m ≡ Err c
GoesErr vs old m Stop.Memory = Unit {0}

abbrev pub Goes : List Variable → Machine → NodeEffect → Machine → Type 0
Goes vs old m new = (step_by old.levels (rest_of vs old) m ≡ Ok (pendings vs new)) × IsFit new
