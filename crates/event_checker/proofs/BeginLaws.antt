-- How the code begins nodes.
use Rattle.std.proofs.Common.{◌≡◌, ℕ, ◌+◌, ◌<◌, ℤ, pos, Bool, true, false, Result, Ok, Err, OnOk, IfErr, List, []}
use Rattle.std.proofs.Common.{◌∷◌, ◌++◌, length, refl, sym, ap, ◌∙◌, subst}
use Rattle.std.specs.List.{list_all}
use Rattle.case_tables.specs.declared.code_table.Code.{Code}
use Rattle.unity_base.specs.declared.events.CertEvent.{CertEvent}
use Rattle.obligations.specs.declared.branches.Variable.{Variable}
use Rattle.obligations.specs.declared.certificates.Node.{Node}
use Rattle.obligations.specs.Certificates.{arity}
use Rattle.obligations.specs.Load.{in_limit}
use Rattle.obligations.specs.LinearForms.{line_of_const}
use Rattle.certificate_rules.specs.Refutation.{OpenBranch, made_by}
use Rattle.certificate_machine.specs.declared.errors.Stop.{Stop}
use Rattle.certificate_machine.specs.declared.frames.Machine.{Machine}
use Rattle.certificate_machine.specs.Machines.{Goes, GoesErr, IsLightMachine, IsScoped}
use Rattle.certificate_machine.specs.Sums.{sum_line}
use Rattle.event_checker.specs.declared.reading.Open.{Open}
use Rattle.event_checker.specs.declared.reading.Reading.{Reading}
use Rattle.event_checker.specs.Events.{with_pair, is_node_event, with_event}
use Rattle.event_checker.specs.Readings.{next_node, after, is_over, NodeFinishes, FinishFails, ReadingStops, IsOpened}
use Rattle.event_checker.specs.Readings.{At}
use Rattle.event_checker.specs.Readings.{ReadingFails, ReadingStands}
use Rattle.event_checker.specs.Readings.{Passed, PassedAt}
use Rattle.event_checker.proofs.PairLaws.{reading_of}
use Rattle.event_checker.proofs.StepLaws.{alone-goes, alone-fails, begun-stands, stands-failed, over-closed, over-goes}
use Rattle.event_checker.proofs.StepLaws.{over-stopped}

-- what follows from what is so where memory is not refused
pub on-ok : {A E P Q : Type 0} (r : Result A E) → (P → Q) → OnOk r P → OnOk r Q
on-ok (Ok x) f h = f h
on-ok (Err e) f h = tt

-- a node without pairs was read, or failed
pub read-alone : (vs : List Variable) (m : Machine) (node : ℕ) (n : Node) (read : Result (Unit {0}) Stop)
    (mid new : Reading) → ((p : ℤ × ℕ) → with_pair n p ≡ n) → 0 < arity n → 0 < m.levels →
    mid.state ≡ Open.Nothing → mid.node ≡ node → OnOk read (Goes vs m (made_by m.variables m.branch n) mid.machine) →
    OnOk read (IsLightMachine mid.machine) → OnOk read (IsScoped vs mid.machine) →
    IfErr read (GoesErr vs m (made_by m.variables m.branch n)) → IsOpened read mid new → (root : List OpenBranch)
    (ns : List Node) → At vs root m node ns → ReadingStands vs root new (ns ++ n ∷ [])
read-alone vs m node n (Ok u) mid new alone below some state count goes light scoped err q root ns at =
    alone-goes vs root m node ns at n alone some new
    (subst (λ x. Goes vs m (made_by m.variables m.branch n) x) (sym q.0) goes) below
    (subst IsLightMachine (sym q.0) light) (subst (IsScoped vs) (sym q.0) scoped) (q.2 ∙ ap (λ k. k + 1) count)
    (q.1 ∙ state)
read-alone vs m node n (Err (Stop.Fault code)) mid new alone below some state count goes light scoped err q root ns at =
    stands-failed vs root new (ns ++ n ∷ []) code node (q ∙ ap (λ k. Open.Failed code k) count)
    (alone-fails vs root m node ns at n alone some code err)
read-alone vs m node n (Err Stop.Memory) mid new alone below some state count goes light scoped err q root ns at =
    absurd q

-- what the beginning of a node with pairs leaves
pub record Started (m : Machine) (node : ℕ) (new : Reading) (st : Open) (k : ℤ) : Type 0 where
  pub line : sum_line new.sum ≡ line_of_const m.variables k
  pub size : length (sum_line new.sum).factors ≡ length m.variables
  pub factors : list_all in_limit (sum_line new.sum).factors ≡ true
  pub constant : in_limit (sum_line new.sum).constant ≡ true
  pub state : new.state ≡ st
  pub machine : new.machine ≡ m
  pub count : new.node ≡ node

module _ (vs : List Variable) (m : Machine) (node : ℕ) (new : Reading) (some : 0 < m.levels) (root : List OpenBranch)
    (ns : List Node) (at : At vs root m node ns) where
  pub sum-started : Started m node new Open.Sum (pos 0) → ReadingStands vs root new (ns ++ Node.Sum [] ∷ [])
  sum-started s =
      begun-stands vs root m node ns at (Node.Sum []) new Open.Sum s.machine s.count s.state
      ([], refl, ap Ok (sym s.line), record { levels = some; size = s.size }) refl

  pub round-started : (d : ℤ) → Started m node new (Open.Round d) (pos 0) →
      ReadingStands vs root new (ns ++ Node.Round d [] ∷ [])
  round-started d s =
      begun-stands vs root m node ns at (Node.Round d []) new (Open.Round d) s.machine s.count s.state
      ([], refl, ap Ok (sym s.line), record { levels = some; size = s.size }) refl

  pub share-started : (k : ℤ) → Started m node new Open.Share k → ReadingStands vs root new (ns ++ Node.Share k [] ∷ [])
  share-started k s =
      begun-stands vs root m node ns at (Node.Share k []) new Open.Share s.machine s.count s.state (
        k,
        [],
        refl,
        ap Ok (sym s.line),
        record {
          levels = some;
          size = s.size;
          factors = s.factors;
          constant = s.constant;
        },
      ) refl

-- the clauses of the code's call together
pub started : {E : Type 0} (r : Result (Unit {0}) E) (m : Machine) (node : ℕ) (new : Reading) (st : Open) (k : ℤ) →
    OnOk r (sum_line new.sum ≡ line_of_const m.variables k) →
    OnOk r (length (sum_line new.sum).factors ≡ length m.variables) →
    OnOk r (list_all in_limit (sum_line new.sum).factors ≡ true) →
    OnOk r (in_limit (sum_line new.sum).constant ≡ true) →
    OnOk r (new.state ≡ st) → OnOk r (new.machine ≡ m) → OnOk r (new.node ≡ node) → OnOk r (Started m node new st k)
started (Ok u) m node new st k l s f c t a n =
    record { line = l; size = s; factors = f; constant = c; state = t; machine = a; count = n }
started (Err e) m node new st k l s f c t a n = tt

-- where no node is open
pub passed-at : (vs : List Variable) (root : List OpenBranch) (r : Reading) (ns : List Node) (e : CertEvent) →
    r.state ≡ Open.Nothing → Passed vs root r ns e → At vs root r.machine r.node ns
passed-at vs root r ns e is p = subst (λ st. PassedAt st vs root r ns e) is p

-- What the node that was open leaves.

-- the clauses of the code's call together
pub record Counted (old new : Reading) : Type 0 where
  pub machine : new.machine ≡ old.machine
  pub count : new.node ≡ next_node old.state old.node
  pub state : new.state ≡ after old.machine.done

pub counted : {E : Type 0} (r : Result (Unit {0}) E) (old new : Reading) → OnOk r (new.machine ≡ old.machine) →
    OnOk r (new.node ≡ next_node old.state old.node) → OnOk r (new.state ≡ after old.machine.done) →
    OnOk r (Counted old new)
counted (Ok u) old new m n s = record { machine = m; count = n; state = s }
counted (Err e) old new m n s = tt

pub over-passes : (vs : List Variable) (root : List OpenBranch) (r : Reading) (ns : List Node) (e : CertEvent)
    (m : Machine) (new : Reading) → is_node_event e ≡ true → NodeFinishes vs r.state (sum_line r.sum) r.machine m →
    IsLightMachine m → IsScoped vs m → Counted (reading_of m r.state r.sum r.node) new → ReadingStands vs root r ns →
    is_over r.state ≡ false → Passed vs root new ns e
over-passes vs root r ns e m new begin f light scoped k s o = by_done m.done refl
  where
    by_done : (b : Bool) → m.done ≡ b → Passed vs root new ns e
    by_done true q =
        subst (λ st. PassedAt st vs root new ns e) (sym (k.state ∙ ap after q))
        (over-closed vs root r ns e m begin f q s o)
    by_done false q =
        subst (λ st. PassedAt st vs root new ns e) (sym (k.state ∙ ap after q))
        (subst (λ n. At vs root new.machine n ns) (sym k.count)
        (subst (λ x. At vs root x (next_node r.state r.node) ns) (sym k.machine)
        (over-goes vs root r ns e m begin f light scoped q s o)))

pub passed-failed : (vs : List Variable) (root : List OpenBranch) (r : Reading) (ns : List Node) (e : CertEvent)
    (code : Code) (node : ℕ) → r.state ≡ Open.Failed code node → ReadingFails vs root code node (with_event ns e) →
    Passed vs root r ns e
passed-failed vs root r ns e code node is f = subst (λ st. PassedAt st vs root r ns e) (sym is) f

-- or it failed
pub stop-passes : (vs : List Variable) (root : List OpenBranch) (r : Reading) (ns : List Node) (e : CertEvent)
    (mid new : Reading) (stop : Stop) → is_node_event e ≡ true →
    FinishFails vs r.state (sum_line r.sum) r.machine stop →
    mid.node ≡ r.node → ReadingStops stop mid new → ReadingStands vs root r ns → is_over r.state ≡ false →
    Passed vs root new ns e
stop-passes vs root r ns e mid new (Stop.Fault code) begin f count q s o =
    passed-failed vs root new ns e code r.node (q ∙ ap (λ k. Open.Failed code k) count)
    (over-stopped vs root r ns e code begin f s o)
stop-passes vs root r ns e mid new Stop.Memory begin f count q s o = absurd q
