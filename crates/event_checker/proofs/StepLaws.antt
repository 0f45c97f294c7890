-- What the beginning of a node makes of a reading.
use Rattle.std.proofs.Common.{◌≡◌, ℕ, ◌+◌, ◌<◌, ℤ, true, false, cond, Ok, nat_lt}
use Rattle.std.proofs.Common.{List, [], ◌∷◌, ◌++◌, refl, sym, ap, ◌∙◌, subst, append_assoc, append-nil, arith, ◌≢◌}
use Rattle.std.proofs.Common.{reverse}
use Rattle.std.proofs.Common.{length-append}
use Rattle.case_tables.specs.declared.code_table.Code.{Code}
use Rattle.unity_base.specs.declared.events.CertEvent.{CertEvent}
use Rattle.obligations.specs.declared.branches.Line.{Line}
use Rattle.obligations.specs.declared.branches.Variable.{Variable}
use Rattle.obligations.specs.declared.certificates.Node.{Node}
use Rattle.obligations.specs.Certificates.{arity}
use Rattle.obligations.specs.Scopes.{scope_of}
use Rattle.certificate_rules.specs.Sums.{all_pairs, stated}
use Rattle.certificate_rules.specs.Refutation.{OpenBranch, fails, allowing, made, made_by, made_sum, made_round}
use Rattle.certificate_rules.specs.Refutation.{made_share, walk}
use Rattle.certificate_machine.specs.declared.errors.Stop.{Stop}
use Rattle.certificate_machine.specs.declared.frames.Machine.{Machine}
use Rattle.certificate_machine.specs.Machines.{Goes, GoesErr, IsLightMachine, IsScoped, pendings, behind}
use Rattle.certificate_machine.specs.declared.running.Running.{Running}
use Rattle.certificate_machine.specs.Sums.{sum_line}
use Rattle.event_checker.specs.declared.reading.Open.{Open}
use Rattle.event_checker.specs.declared.reading.Reading.{Reading}
use Rattle.event_checker.specs.Events.{with_pair, is_node_event, with_event}
use Rattle.event_checker.specs.Readings.{next_node, has_pairs, is_over, CanFinish, NodeFinishes, FinishFails, At}
use Rattle.event_checker.specs.Readings.{NodeIsOpen, Going, ReadingFails, ReadingCloses, ReadingStands, ReadingStandsAt}
use Rattle.event_checker.specs.Readings.{Passed}
use Rattle.event_checker.proofs.NodeLaws.{paired-behind, with_pairs, grown}
use Rattle.event_checker.proofs.NodeLaws.{begun, begins}
use Rattle.event_checker.proofs.WalkLaws.{made-is, fails-at, goes-at, fails-by, goes-on, closed-stays}
use Rattle.event_checker.proofs.PairLaws.{reading_of}

module _ (vs : List Variable) (root : List OpenBranch) (m : Machine) (node : ℕ) (done : List Node)
    (at : At vs root m node done) where
  -- a node that fails, whatever pairs it has and whatever follows
  pub fails-here : (z : Node) (zs : List Node) (code : Code) →
      ((qs : List (ℤ × ℕ)) → made vs (allowing m.levels m.branch) (with_pairs z qs) ≡ fails code) →
      ReadingFails vs root code node (done ++ z ∷ zs)
  fails-here z zs code stops es =
      let g = grown es done z zs in
      ap (λ xs. walk vs xs root 0) g.is
      ∙ fails-at vs root m node done at (with_pairs z g.pairs) g.more code (stops g.pairs)

  -- a node that is followed by another fails, whatever follows
  pub fails-before : (n z : Node) (code : Code) → made vs (allowing m.levels m.branch) n ≡ fails code →
      ReadingFails vs root code node ((done ++ n ∷ []) ++ z ∷ [])
  fails-before n z code e es =
      let g = grown es (done ++ n ∷ []) z [] in
      ap (λ xs. walk vs xs root 0) (g.is ∙ append_assoc done (n ∷ []) (with_pairs z g.pairs ∷ g.more))
      ∙ fails-at vs root m node done at n (with_pairs z g.pairs ∷ g.more) code e

  -- a node that is done
  pub done-at : (n : Node) (new : Machine) (next : ℕ) → Goes vs m (made vs (allowing m.levels m.branch) n) new →
      next ≡ node + 1 → IsLightMachine new → IsScoped vs new → new.done ≡ false →
      At vs root new next (done ++ n ∷ [])
  done-at n new next g count light scoped going =
      let long = length-append done (n ∷ []) in
      let here = at.count in record {
        walked = goes-at vs root m node done at n new g;
        count = omega (arith, long, here, count);
        scoped = scoped;
        fit = g.1;
        going = going;
        light = light;
      }

  -- the last branch is closed
  pub closed-at : (n z : Node) (new : Machine) → Goes vs m (made vs (allowing m.levels m.branch) n) new →
      new.done ≡ true → ReadingCloses vs root ((done ++ n ∷ []) ++ z ∷ [])
  closed-at n z new g closed es =
      let w = grown es (done ++ n ∷ []) z [] in
      let none : pendings vs new ≡ [] = ap (λ b. cond b []
      (allowing new.levels new.branch ∷ behind vs (reverse new.frames) new.branch)) closed in
      ap (λ xs. walk vs xs root 0) w.is
      ∙ closed-stays vs (done ++ n ∷ []) (with_pairs z w.pairs ∷ w.more) root
      (goes-at vs root m node done at n new g ∙ ap Ok none)

-- The node that is open is done.

-- a node with pairs that is done, before an event that begins another
module _ (vs : List Variable) (root : List OpenBranch) (m : Machine) (node : ℕ) (ns done : List Node) (n : Node)
    (split : ns ≡ done ++ n ∷ []) (at : At vs root m node done) (some : 0 < m.levels) (e : CertEvent)
    (begin : is_node_event e ≡ true) where
  next-is : with_event ns e ≡ (done ++ n ∷ []) ++ begun e ∷ []
  next-is = begins e ns begin ∙ ap (λ xs. xs ++ begun e ∷ []) split

  makes : made_by m.variables m.branch n ≡ made vs (allowing m.levels m.branch) n
  makes = made-is vs m n some at.scoped.variables

  over-fails : (code : Code) → GoesErr vs m (made_by m.variables m.branch n) (Stop.Fault code) →
      ReadingFails vs root code node (with_event ns e)
  over-fails code h =
      subst (ReadingFails vs root code node) (sym next-is) (fails-before vs root m node done at n (begun e) code
      (sym makes ∙ fails-by vs m (made_by m.variables m.branch n) code h))

  over-closes : (new : Machine) → Goes vs m (made_by m.variables m.branch n) new → new.done ≡ true →
      ReadingCloses vs root (with_event ns e)
  over-closes new g closed =
      subst (ReadingCloses vs root) (sym next-is) (closed-at vs root m node done at n (begun e) new
      (subst (λ x. Goes vs m x new) makes g) closed)

  over-done : (new : Machine) → Goes vs m (made_by m.variables m.branch n) new → IsLightMachine new →
      IsScoped vs new → new.done ≡ false → At vs root new (node + 1) ns
  over-done new g light scoped going =
      subst (At vs root new (node + 1)) (sym split) (done-at vs root m node done at n new (node + 1)
      (subst (λ x. Goes vs m x new) makes g) refl light scoped going)

-- what the code's sum makes is what the node makes
sum-is : (m : Machine) (ps : List (ℤ × ℕ)) (l : Line) → all_pairs m.variables m.branch.facts ps ≡ Ok l →
    made_sum (Ok l) ≡ made_by m.variables m.branch (Node.Sum ps)
sum-is m ps l e = ap made_sum (sym e)

round-is : (m : Machine) (d : ℤ) (ps : List (ℤ × ℕ)) (l : Line) → all_pairs m.variables m.branch.facts ps ≡ Ok l →
    made_round m.branch d (Ok l) ≡ made_by m.variables m.branch (Node.Round d ps)
round-is m d ps l e = ap (made_round m.branch d) (sym e)

share-is : (m : Machine) (k : ℤ) (ps : List (ℤ × ℕ)) (l : Line) → stated m.variables k ps ≡ Ok l →
    made_share m.branch (Ok l) ≡ made_by m.variables m.branch (Node.Share k ps)
share-is m k ps l e = ap (made_share m.branch) (sym e)

module _ (vs : List Variable) (root : List OpenBranch) (m : Machine) (u : Running) (node : ℕ) (ns : List Node)
    (e : CertEvent) (begin : is_node_event e ≡ true) where
  abbrev l : Line
  l = sum_line u

  whole : (done last : List Node) (n : Node) → ns ≡ done ++ last → last ≡ n ∷ [] → ns ≡ done ++ n ∷ []
  whole done last n split is = split ∙ ap (λ xs. done ++ xs) is

  -- it failed
  stopped-at : (st : Open) (code : Code) → FinishFails vs st l m (Stop.Fault code) →
      ReadingStands vs root (reading_of m st u node) ns → is_over st ≡ false →
      ReadingFails vs root code node (with_event ns e)
  stopped-at Open.Nothing code h g o = absurd h
  stopped-at Open.Sum code h g o =
      let s = g.state in
      over-fails vs root m node ns g.done (Node.Sum s.0)
      (whole g.done g.last _ g.split s.1) g.at s.3.levels e begin code
      (subst (λ x. GoesErr vs m x (Stop.Fault code)) (sum-is m s.0 l s.2) h)
  stopped-at (Open.Round d) code h g o =
      let s = g.state in
      over-fails vs root m node ns g.done (Node.Round d s.0)
      (whole g.done g.last _ g.split s.1) g.at s.3.levels e begin code
      (subst (λ x. GoesErr vs m x (Stop.Fault code)) (round-is m d s.0 l s.2) h)
  stopped-at Open.Share code h g o =
      let s = g.state in
      over-fails vs root m node ns g.done (Node.Share s.0 s.1)
      (whole g.done g.last _ g.split s.2) g.at s.4.levels e begin code
      (subst (λ x. GoesErr vs m x (Stop.Fault code)) (share-is m s.0 s.1 l s.3) h)
  stopped-at (Open.Failed c at) code h g o = absurd h
  stopped-at Open.Closed code h g o = absurd h

  -- no branch is left
  closes-at : (st : Open) (new : Machine) → NodeFinishes vs st l m new → new.done ≡ true →
      ReadingStands vs root (reading_of m st u node) ns → is_over st ≡ false → ReadingCloses vs root (with_event ns e)
  closes-at Open.Nothing new f closed g o =
      let same = ap (λ (m : Machine). m.done) f in let going = g.at.going in absurd (cc)
  closes-at Open.Sum new f closed g o =
      let s = g.state in
      over-closes vs root m node ns g.done (Node.Sum s.0)
      (whole g.done g.last _ g.split s.1) g.at s.3.levels e begin new
      (subst (λ x. Goes vs m x new) (sum-is m s.0 l s.2) f) closed
  closes-at (Open.Round d) new f closed g o =
      let s = g.state in
      over-closes vs root m node ns g.done (Node.Round d s.0)
      (whole g.done g.last _ g.split s.1) g.at s.3.levels e begin new
      (subst (λ x. Goes vs m x new) (round-is m d s.0 l s.2) f) closed
  closes-at Open.Share new f closed g o =
      let s = g.state in
      over-closes vs root m node ns g.done (Node.Share s.0 s.1)
      (whole g.done g.last _ g.split s.2) g.at s.4.levels e begin new
      (subst (λ x. Goes vs m x new) (share-is m s.0 s.1 l s.3) f) closed
  closes-at (Open.Failed c at) new f closed g o = cc
  closes-at Open.Closed new f closed g o = cc

  -- branches are left
  goes-over : (st : Open) (new : Machine) → NodeFinishes vs st l m new → IsLightMachine new → IsScoped vs new →
      new.done ≡ false → ReadingStands vs root (reading_of m st u node) ns → is_over st ≡ false →
      At vs root new (next_node st node) ns
  goes-over Open.Nothing new f light scoped going g o =
      subst (At vs root new node) (sym (g.split ∙ ap (λ xs. g.done ++ xs) g.state.0 ∙ append-nil g.done))
      (subst (λ m. At vs root m node g.done) (sym f) g.at)
  goes-over Open.Sum new f light scoped going g o =
      let s = g.state in
      over-done vs root m node ns g.done (Node.Sum s.0)
      (whole g.done g.last _ g.split s.1) g.at s.3.levels e begin new
      (subst (λ x. Goes vs m x new) (sum-is m s.0 l s.2) f) light scoped going
  goes-over (Open.Round d) new f light scoped going g o =
      let s = g.state in
      over-done vs root m node ns g.done (Node.Round d s.0)
      (whole g.done g.last _ g.split s.1) g.at s.3.levels e begin new
      (subst (λ x. Goes vs m x new) (round-is m d s.0 l s.2) f) light scoped going
  goes-over Open.Share new f light scoped going g o =
      let s = g.state in
      over-done vs root m node ns g.done (Node.Share s.0 s.1)
      (whole g.done g.last _ g.split s.2) g.at s.4.levels e begin new
      (subst (λ x. Goes vs m x new) (share-is m s.0 s.1 l s.3) f) light scoped going
  goes-over (Open.Failed c at) new f light scoped going g o = cc
  goes-over Open.Closed new f light scoped going g o = cc

pub over-stopped : (vs : List Variable) (root : List OpenBranch) (r : Reading) (ns : List Node) (e : CertEvent)
    (code : Code) → is_node_event e ≡ true → FinishFails vs r.state (sum_line r.sum) r.machine (Stop.Fault code) →
    ReadingStands vs root r ns → is_over r.state ≡ false → ReadingFails vs root code r.node (with_event ns e)
over-stopped vs root r ns e code begin f s o =
    stopped-at vs root r.machine r.sum r.node ns e begin r.state code f s o

pub over-closed : (vs : List Variable) (root : List OpenBranch) (r : Reading) (ns : List Node) (e : CertEvent)
    (new : Machine) → is_node_event e ≡ true → NodeFinishes vs r.state (sum_line r.sum) r.machine new →
    new.done ≡ true →
    ReadingStands vs root r ns → is_over r.state ≡ false → ReadingCloses vs root (with_event ns e)
over-closed vs root r ns e new begin f closed s o =
    closes-at vs root r.machine r.sum r.node ns e begin r.state new f closed s o

pub over-goes : (vs : List Variable) (root : List OpenBranch) (r : Reading) (ns : List Node) (e : CertEvent)
    (new : Machine) → is_node_event e ≡ true → NodeFinishes vs r.state (sum_line r.sum) r.machine new →
    IsLightMachine new →
    IsScoped vs new → new.done ≡ false → ReadingStands vs root r ns → is_over r.state ≡ false →
    At vs root new (next_node r.state r.node) ns
over-goes vs root r ns e new begin f light scoped going s o =
    goes-over vs root r.machine r.sum r.node ns e begin r.state new f light scoped going s o

-- What a reading that goes on holds.

at-state : (vs : List Variable) (root : List OpenBranch) (m : Machine) (u : Running) (node : ℕ) (ns : List Node)
    (st : Open) → is_over st ≡ false → ReadingStands vs root (reading_of m st u node) ns →
    Going vs root (reading_of m st u node) ns
at-state vs root m u node ns Open.Nothing o s = s
at-state vs root m u node ns Open.Sum o s = s
at-state vs root m u node ns (Open.Round d) o s = s
at-state vs root m u node ns Open.Share o s = s
at-state vs root m u node ns (Open.Failed c at) o s = cc
at-state vs root m u node ns Open.Closed o s = cc

pub going-on : (vs : List Variable) (root : List OpenBranch) (r : Reading) (ns : List Node) → is_over r.state ≡ false →
    ReadingStands vs root r ns → Going vs root r ns
going-on vs root r ns o s = at-state vs root r.machine r.sum r.node ns r.state o s

can-finish : (m : Machine) (l : Line) (done last : List Node) (st : Open) → NodeIsOpen st m l done last →
    CanFinish st m l
can-finish m l done last Open.Nothing s = tt
can-finish m l done last Open.Sum s = s.3
can-finish m l done last (Open.Round d) s = s.3
can-finish m l done last Open.Share s = s.4
can-finish m l done last (Open.Failed c at) s = tt
can-finish m l done last Open.Closed s = tt

pub finishes : (vs : List Variable) (root : List OpenBranch) (r : Reading) (ns : List Node) → Going vs root r ns →
    CanFinish r.state r.machine (sum_line r.sum)
finishes vs root r ns g = can-finish r.machine (sum_line r.sum) g.done g.last r.state g.state

-- where no node with pairs is open, it stays so
idle-at : (vs : List Variable) (root : List OpenBranch) (m : Machine) (u : Running) (node : ℕ) (ns : List Node)
    (e : CertEvent) (st : Open) → has_pairs st ≡ false → ReadingStands vs root (reading_of m st u node) ns →
    Passed vs root (reading_of m st u node) ns e
idle-at vs root m u node ns e Open.Nothing o s =
    subst (At vs root m node) (sym (s.split ∙ ap (λ l. s.done ++ l) s.state.0 ∙ append-nil s.done)) s.at
idle-at vs root m u node ns e Open.Sum o s = cc
idle-at vs root m u node ns e (Open.Round d) o s = cc
idle-at vs root m u node ns e Open.Share o s = cc
idle-at vs root m u node ns e (Open.Failed c at) o s = λ es. s (e ∷ es)
idle-at vs root m u node ns e Open.Closed o s = λ es. s (e ∷ es)

pub idle-passes : (vs : List Variable) (root : List OpenBranch) (r : Reading) (ns : List Node) (e : CertEvent) →
    has_pairs r.state ≡ false → ReadingStands vs root r ns → Passed vs root r ns e
idle-passes vs root r ns e o s = idle-at vs root r.machine r.sum r.node ns e r.state o s

-- a node with pairs is open: the reading is not over
pub pairs-go : (st : Open) → has_pairs st ≡ true → is_over st ≡ false
pairs-go Open.Nothing h = refl
pairs-go Open.Sum h = refl
pairs-go (Open.Round d) h = refl
pairs-go Open.Share h = refl
pairs-go (Open.Failed c at) h = cc
pairs-go Open.Closed h = cc

-- Another node begins.

-- a reading in a state in which it stands so
pub stands-failed : (vs : List Variable) (root : List OpenBranch) (r : Reading) (ns : List Node) (code : Code)
    (node : ℕ) → r.state ≡ Open.Failed code node → ReadingFails vs root code node ns → ReadingStands vs root r ns
stands-failed vs root r ns code node e f = subst (λ st. ReadingStandsAt st vs root r ns) (sym e) f

module _ (vs : List Variable) (root : List OpenBranch) (m : Machine) (node : ℕ) (ns : List Node)
    (at : At vs root m node ns) where
  -- for which no level is left
  pub too-deep : (e : CertEvent) → is_node_event e ≡ true → m.levels ≡ 0 →
      ReadingFails vs root Code.CertTooDeep node (with_event ns e)
  too-deep e begin none =
      subst (ReadingFails vs root Code.CertTooDeep node) (sym (begins e ns begin))
      (fails-here vs root m node ns at (begun e) [] Code.CertTooDeep (λ qs. ap (λ b. cond b
      (made_by (scope_of vs m.branch) m.branch (with_pairs (begun e) qs)) (fails Code.CertTooDeep))
      (low m.levels none)))
    where
      low : (n : ℕ) → n ≡ 0 → nat_lt 0 n ≡ false
      low n h = grind arith

  -- a node without pairs
  module _ (n : Node) (alone : (p : ℤ × ℕ) → with_pair n p ≡ n) (some : 0 < m.levels) where
    makes-alone : made_by m.variables m.branch n ≡ made vs (allowing m.levels m.branch) n
    makes-alone = made-is vs m n some at.scoped.variables

    all-alone : (qs : List (ℤ × ℕ)) → with_pairs n qs ≡ n
    all-alone [] = refl
    all-alone (q ∷ qs) = ap (λ n. with_pairs n qs) (alone q) ∙ all-alone qs

    pub alone-fails : (code : Code) → GoesErr vs m (made_by m.variables m.branch n) (Stop.Fault code) →
        ReadingFails vs root code node (ns ++ n ∷ [])
    alone-fails code h =
        fails-here vs root m node ns at n [] code (λ qs. ap (made vs (allowing m.levels m.branch)) (all-alone qs)
        ∙ sym makes-alone ∙ fails-by vs m (made_by m.variables m.branch n) code h)

    pub alone-goes : (new : Reading) → Goes vs m (made_by m.variables m.branch n) new.machine → 0 < arity n →
        IsLightMachine new.machine → IsScoped vs new.machine → new.node ≡ node + 1 → new.state ≡ Open.Nothing →
        ReadingStands vs root new (ns ++ n ∷ [])
    alone-goes new g below light scoped count st =
        let goes = subst (λ x. Goes vs m x new.machine) makes-alone g in
        subst (λ st. ReadingStandsAt st vs root new (ns ++ n ∷ [])) (sym st) (record {
          done = ns ++ n ∷ [];
          last = [];
          split = sym (append-nil (ns ++ n ∷ []));
          at = done-at vs root m node ns at n new.machine new.node goes count light scoped
              (goes-on vs m n new.machine goes below);
          state = subst (λ st. NodeIsOpen st new.machine (sum_line new.sum) (ns ++ n ∷ []) []) (sym st)
              (refl, λ p. paired-behind ns n [] p ∙ ap (λ x. ns ++ x ∷ []) (alone p));
        })

  -- a node with pairs
  pub begun-stands : (n : Node) (new : Reading) (st : Open) → new.machine ≡ m → new.node ≡ node → new.state ≡ st →
      NodeIsOpen st m (sum_line new.sum) ns (n ∷ []) → is_over st ≡ false → ReadingStands vs root new (ns ++ n ∷ [])
  begun-stands n new st machine count is state over =
      subst (λ st. ReadingStandsAt st vs root new (ns ++ n ∷ [])) (sym is) (by_state st over (record {
        done = ns;
        last = n ∷ [];
        split = refl;
        at = subst (λ k. At vs root new.machine k ns) (sym count) (subst (λ m. At vs root m node ns) (sym machine) at);
        state = subst (λ st. NodeIsOpen st new.machine (sum_line new.sum) ns (n ∷ [])) (sym is)
            (subst (λ m. NodeIsOpen st m (sum_line new.sum) ns (n ∷ [])) (sym machine) state);
      }))
    where
      by_state : (st : Open) → is_over st ≡ false → Going vs root new (ns ++ n ∷ []) →
          ReadingStandsAt st vs root new (ns ++ n ∷ [])
      by_state Open.Nothing o g = g
      by_state Open.Sum o g = g
      by_state (Open.Round d) o g = g
      by_state Open.Share o g = g
      by_state (Open.Failed c at) o g = cc
      by_state Open.Closed o g = cc

-- a reading that does not go on stands as it did
pub passed-over : (vs : List Variable) (root : List OpenBranch) (r : Reading) (ns : List Node) (e : CertEvent) →
    r.state ≢ Open.Nothing → Passed vs root r ns e → ReadingStands vs root r (with_event ns e)
passed-over vs root r ns e some p = by_state r.machine r.sum r.node r.state some p
  where
    by_state : (m : Machine) (u : Running) (node : ℕ) (st : Open) → st ≢ Open.Nothing →
        Passed vs root (reading_of m st u node) ns e → ReadingStands vs root (reading_of m st u node) (with_event ns e)
    by_state m u node Open.Nothing h p = absurd (h refl)
    by_state m u node Open.Sum h p = absurd p
    by_state m u node (Open.Round d) h p = absurd p
    by_state m u node Open.Share h p = absurd p
    by_state m u node (Open.Failed c at) h p = p
    by_state m u node Open.Closed h p = p
