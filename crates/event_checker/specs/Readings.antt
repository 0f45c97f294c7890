-- How far a certificate is read.
use Rattle.std.specs.Prelude.{◌≡◌, ◌<◌, ◌+◌, ℕ, ℤ, Bool, true, false, if◌then◌else◌, List, [], ◌∷◌, ◌++◌, length}
use Rattle.std.specs.Prelude.{Result, Ok, Err}
use Rattle.std.specs.List.{list_all}
use Rattle.case_tables.specs.declared.code_table.Code.{Code}
use Rattle.unity_base.specs.declared.events.CertEvent.{CertEvent}
use Rattle.obligations.specs.declared.branches.Fact.{Fact}
use Rattle.obligations.specs.declared.branches.Line.{Line}
use Rattle.obligations.specs.declared.branches.Variable.{Variable}
use Rattle.obligations.specs.declared.certificates.Node.{Node}
use Rattle.obligations.specs.Load.{in_limit}
use Rattle.certificate_rules.specs.Sums.{fact_step, variable_step, all_pairs, stated}
use Rattle.certificate_rules.specs.Refutation.{OpenBranch, walk, made_sum, made_round, made_share}
use Rattle.certificate_machine.specs.declared.errors.Stop.{Stop}
use Rattle.certificate_machine.specs.declared.frames.Machine.{Machine}
use Rattle.certificate_machine.specs.Sums.{sum_line}
use Rattle.certificate_machine.specs.Machines.{Goes, GoesErr, IsFit, IsLightMachine, IsScoped, pendings}
use Rattle.event_checker.specs.declared.reading.Open.{Open}
use Rattle.event_checker.specs.declared.reading.Reading.{Reading}
use Rattle.event_checker.specs.Events.{with_event, nodes_from, paired}

-- what a pair makes of the sum of the node that is open
abbrev pub pair_makes : Open → List Fact → ℤ × ℕ → Line → Result Line Code
pair_makes Open.Sum facts p l = fact_step facts p l
pair_makes (Open.Round d) facts p l = fact_step facts p l
pair_makes Open.Share facts p l = variable_step p l
pair_makes state facts p l = Ok l

abbrev pub has_pairs : Open → Bool
has_pairs Open.Sum = true
has_pairs (Open.Round d) = true
has_pairs Open.Share = true
has_pairs state = false

abbrev pub next_node : Open → ℕ → ℕ
next_node state n = if has_pairs state then n + 1 else n

-- what is open behind a node, where a branch is left or none
abbrev pub after : Bool → Open
after true = Open.Closed
after false = Open.Nothing

abbrev pub is_over : Open → Bool
is_over (Open.Failed code node) = true
is_over Open.Closed = true
is_over state = false

-- a sum of these variables
pub record IsSum (m : Machine) (l : Line) : Type 0 where
  pub levels : 0 < m.levels
  pub size : length l.factors ≡ length m.variables

-- a statement of these variables
pub record IsStatement (m : Machine) (l : Line) : Type 0 where
  pub levels : 0 < m.levels
  pub size : length l.factors ≡ length m.variables
  pub factors : list_all in_limit l.factors ≡ true
  pub constant : in_limit l.constant ≡ true

abbrev pub CanFinish : Open → Machine → Line → Type 0
CanFinish Open.Sum m l = IsSum m l
CanFinish (Open.Round d) m l = IsSum m l
CanFinish Open.Share m l = IsStatement m l
CanFinish state m l = Unit {0}

-- what the node that is open makes of the branch
abbrev pub NodeFinishes : List Variable → Open → Line → Machine → Machine → Type 0
NodeFinishes vs Open.Sum l old new = Goes vs old (made_sum (Ok l)) new
NodeFinishes vs (Open.Round d) l old new = Goes vs old (made_round old.branch d (Ok l)) new
NodeFinishes vs Open.Share l old new = Goes vs old (made_share old.branch (Ok l)) new
NodeFinishes vs state l old new = new ≡ old

abbrev pub FinishFails : List Variable → Open → Line → Machine → Stop → Type 0
FinishFails vs Open.Sum l old = GoesErr vs old (made_sum (Ok l))
FinishFails vs (Open.Round d) l old = GoesErr vs old (made_round old.branch d (Ok l))
FinishFails vs Open.Share l old = GoesErr vs old (made_share old.branch (Ok l))
FinishFails vs state l old = λ s. ⊥

-- a node failed; nothing is said where memory was refused
abbrev pub ReadingStops : Stop → Reading → Reading → Type 0
ReadingStops (Stop.Fault code) old new = new.state ≡ Open.Failed code old.node
ReadingStops Stop.Memory old new = ⊥

-- a node was read, or failed
abbrev pub IsOpened : Result (Unit {0}) Stop → Reading → Reading → Type 0
IsOpened (Ok u) old new = (new.machine ≡ old.machine) × (new.state ≡ old.state) × (new.node ≡ old.node + 1)
IsOpened (Err stop) old new = ReadingStops stop old new

-- these nodes are done, and a machine holds the branches that are left
pub record At (vs : List Variable) (root : List OpenBranch) (m : Machine) (node : ℕ) (done : List Node) : Type 0 where
  pub walked : walk vs done root 0 ≡ Ok (pendings vs m)
  pub count : node ≡ length done
  pub scoped : IsScoped vs m
  pub fit : IsFit m
  pub going : m.done ≡ false
  pub light : IsLightMachine m

abbrev pub IsAtNode : List Variable → Machine → ℕ → Type 0
IsAtNode vs m node = (root : List OpenBranch) × (done : List Node) × At vs root m node done

-- the node that is state, behind these
abbrev pub NodeIsOpen : Open → Machine → Line → List Node → List Node → Type 0
NodeIsOpen Open.Nothing m l done last = (last ≡ []) × ((p : ℤ × ℕ) → paired done p ≡ done)
NodeIsOpen Open.Sum m l done last =
    (ps : List (ℤ × ℕ)) × (last ≡ Node.Sum ps ∷ []) × (all_pairs m.variables m.branch.facts ps ≡ Ok l) × IsSum m l
NodeIsOpen (Open.Round d) m l done last =
    (ps : List (ℤ × ℕ)) × (last ≡ Node.Round d ps ∷ []) × (all_pairs m.variables m.branch.facts ps ≡ Ok l) × IsSum m l
NodeIsOpen Open.Share m l done last =
    (k : ℤ) × (ps : List (ℤ × ℕ)) × (last ≡ Node.Share k ps ∷ []) × (stated m.variables k ps ≡ Ok l) × IsStatement m l
NodeIsOpen (Open.Failed code node) m l done last = ⊥
NodeIsOpen Open.Closed m l done last = ⊥

-- nodes are being read
pub record Going (vs : List Variable) (root : List OpenBranch) (r : Reading) (ns : List Node) : Type 0 where
  pub done : List Node
  pub last : List Node
  pub split : ns ≡ done ++ last
  pub at : At vs root r.machine r.node done
  pub state : NodeIsOpen r.state r.machine (sum_line r.sum) done last

-- whatever follows, a walk along the nodes ends so
abbrev pub ReadingFails : List Variable → List OpenBranch → Code → ℕ → List Node → Type 0
ReadingFails vs root code node ns = (es : List CertEvent) → walk vs (nodes_from ns es) root 0 ≡ Err (code, node)

abbrev pub ReadingCloses : List Variable → List OpenBranch → List Node → Type 0
ReadingCloses vs root ns = (es : List CertEvent) → walk vs (nodes_from ns es) root 0 ≡ Ok []

abbrev pub ReadingStandsAt : Open → List Variable → List OpenBranch → Reading → List Node → Type 0
ReadingStandsAt (Open.Failed code node) vs root r ns = ReadingFails vs root code node ns
ReadingStandsAt Open.Closed vs root r ns = ReadingCloses vs root ns
ReadingStandsAt state vs root r ns = Going vs root r ns

-- The nodes that were read against the branches with which it began: the first that failed, that no branch is left, or
-- the branches that are left.
abbrev pub ReadingStands : List Variable → List OpenBranch → Reading → List Node → Type 0
ReadingStands vs root r ns = ReadingStandsAt r.state vs root r ns

abbrev pub ReadingIsReady : List Variable → Reading → Type 0
ReadingIsReady vs r = (root : List OpenBranch) × (ns : List Node) × ReadingStands vs root r ns

abbrev pub PassedAt : Open → List Variable → List OpenBranch → Reading → List Node → CertEvent → Type 0
PassedAt (Open.Failed code node) vs root r ns e = ReadingFails vs root code node (with_event ns e)
PassedAt Open.Closed vs root r ns e = ReadingCloses vs root (with_event ns e)
PassedAt Open.Nothing vs root r ns e = At vs root r.machine r.node ns
PassedAt state vs root r ns e = ⊥

-- the node that was open is done, before the event
abbrev pub Passed : List Variable → List OpenBranch → Reading → List Node → CertEvent → Type 0
Passed vs root r ns e = PassedAt r.state vs root r ns e
