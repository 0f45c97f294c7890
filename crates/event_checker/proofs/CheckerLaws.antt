-- What a checker answers.
use Rattle.std.proofs.Common.{◌≡◌, ◌≢◌, ℕ, ℤ, suc, ◌+◌, ◌<◌, ◌≤◌, Bool, true, false, cond, Result, Ok, Err, IfErr, OnOk}
use Rattle.std.proofs.Common.{MatchResult, List, [], ◌∷◌, ◌++◌, length, refl, sym, ap, ◌∙◌, subst, arith, reverse}
use Rattle.case_tables.specs.declared.code_table.Code.{Code}
use Rattle.unity_base.specs.declared.events.CertEvent.{CertEvent}
use Rattle.obligations.specs.declared.branches.Branch.{Branch}
use Rattle.obligations.specs.declared.branches.Line.{Line}
use Rattle.obligations.specs.declared.branches.Obligation.{Obligation}
use Rattle.obligations.specs.declared.branches.Variable.{Variable}
use Rattle.obligations.specs.declared.certificates.Node.{Node}
use Rattle.obligations.specs.Obligations.{IsObligation}
use Rattle.obligations.specs.Opening.{Valid, first_branch}
use Rattle.obligations.specs.Scopes.{scope}
use Rattle.obligations.proofs.NumberLaws.{obligation-load}
use Rattle.certificate_rules.specs.Sums.{is_false}
use Rattle.certificate_rules.specs.Refutation.{OpenBranch, fails, opens, allowing, made, made_sum, walk}
use Rattle.certificate_rules.specs.Refutation.{walk_from_root, after}
use Rattle.certificate_rules.specs.Trees.{is_whole, Refuted}
use Rattle.certificate_rules.proofs.SoundLaws.{sound}
use Rattle.certificate_rules.proofs.WholeLaws.{whole-walks, walked-refutes, refutes-walked}
use Rattle.certificate_machine.specs.declared.frames.Machine.{Machine}
use Rattle.certificate_machine.specs.declared.frames.Frame.{Frame}
use Rattle.certificate_machine.specs.Machines.{rest_of, behind, FramesFit, are_light}
use Rattle.certificate_machine.proofs.MachineLaws.{first-light}
use Rattle.certificate_machine.specs.declared.running.Running.{Running}
use Rattle.certificate_machine.specs.Sums.{sum_line}
use Rattle.event_checker.specs.declared.errors.CertError.{CertError}
use Rattle.event_checker.specs.declared.reading.Open.{Open}
use Rattle.event_checker.specs.declared.reading.Reading.{Reading}
use Rattle.event_checker.specs.Events.{events_of, is_node_event, is_pair, paired, with_event, nodes_from}
use Rattle.event_checker.specs.Readings.{At, ReadingStands}
use Rattle.event_checker.specs.Checkers.{FailsReading, Judges, sum_verdict, verdict_at}
use Rattle.event_checker.proofs.NodeLaws.{from-append, events-tell-nodes}
use Rattle.event_checker.proofs.WalkLaws.{made-is, pendings-at, walk-at, fails-at, rest-whole}
use Rattle.event_checker.proofs.PairLaws.{reading_of}

-- one more event
pub one-more : (vs : List Variable) (root : List OpenBranch) (r : Reading) (es : List CertEvent) (e : CertEvent) →
    ReadingStands vs root r (with_event (nodes_from [] es) e) → ReadingStands vs root r (nodes_from [] (es ++ e ∷ []))
one-more vs root r es e s = subst (ReadingStands vs root r) (sym (from-append [] es (e ∷ []))) s

-- an event that tells nothing of nodes
pub tells-nothing : (ns : List Node) (e : CertEvent) → is_node_event e ≡ false → is_pair e ≡ false →
    with_event ns e ≡ ns
tells-nothing ns CertEvent.Begin n p = refl
tells-nothing ns CertEvent.End n p = refl
tells-nothing ns CertEvent.Last n p = refl
tells-nothing ns (CertEvent.Pair m f) n p = cc
tells-nothing ns e n p = cc

-- an event that is no pair
pub no-pair : (e : CertEvent) → ((m : ℤ) (f : ℕ) → e ≡ CertEvent.Pair m f → ⊥) → is_pair e ≡ false
no-pair (CertEvent.Pair m f) h = absurd (h m f refl)
no-pair e h = refl

-- a pair, as it is told
pub pair-told : (vs : List Variable) (root : List OpenBranch) (r : Reading) (es : List CertEvent) (e : CertEvent)
    (m : ℤ) (f : ℕ) → e ≡ CertEvent.Pair m f → ReadingStands vs root r (paired (nodes_from [] es) (m, f)) →
    ReadingStands vs root r (nodes_from [] (es ++ e ∷ []))
pair-told vs root r es e m f is s =
    one-more vs root r es e (subst (λ e. ReadingStands vs root r (with_event (nodes_from [] es) e)) (sym is) s)

-- an event that tells nothing of nodes, as it is told
pub nothing-told : (vs : List Variable) (root : List OpenBranch) (r : Reading) (es : List CertEvent) (e : CertEvent) →
    is_node_event e ≡ false → is_pair e ≡ false → ReadingStands vs root r (nodes_from [] es) →
    ReadingStands vs root r (nodes_from [] (es ++ e ∷ []))
nothing-told vs root r es e n p s =
    one-more vs root r es e (subst (ReadingStands vs root r) (sym (tells-nothing (nodes_from [] es) e n p)) s)

-- the beginning of a node, as it is told
pub node-told : (vs us : List Variable) (root : List OpenBranch) (old new : Reading) (es : List CertEvent)
    (e : CertEvent) → us ≡ vs → ((root : List OpenBranch) (ns : List Node) → ReadingStands us root old ns →
    ReadingStands us root new (with_event ns e)) → ReadingStands vs root old (nodes_from [] es) →
    ReadingStands vs root new (nodes_from [] (es ++ e ∷ []))
node-told vs us root old new es e same f s =
    one-more vs root new es e (subst (λ vs. ReadingStands vs root new (with_event (nodes_from [] es) e)) same
    (f root (nodes_from [] es) (subst (λ vs. ReadingStands vs root old (nodes_from [] es)) (sym same) s)))

abbrev Walked : ℕ → Obligation → List Node → Result (Unit {0}) CertError → Type 0
Walked levels o nodes r =
    MatchResult r (λ u. walk_from_root levels o nodes ≡ Ok []) (FailsReading (walk_from_root levels o nodes))

module _ (levels : ℕ) (o : Obligation) (nodes : List Node) (whole : is_whole nodes 1 ≡ true) where
  abbrev vs : List Variable
  vs = o.variables

  abbrev root : List OpenBranch
  root = allowing levels (first_branch o) ∷ []

  -- some branch is left, and its trees are not there
  none-left : (m : Machine) (node : ℕ) (done : List Node) (at : At vs root m node done) (ms : List Node) →
      nodes ≡ done ++ ms → is_whole ms (suc (length (rest_of vs m))) ≡ true
  none-left m node done at ms split =
      rest-whole vs done ms root (allowing m.levels m.branch ∷ rest_of vs m) 0
      (ap (λ xs. is_whole xs 1) (sym split) ∙ whole)
      (at.walked ∙ ap Ok (pendings-at vs root m node done at))

  no-tree : (n : ℕ) → 0 < n → is_whole [] n ≡ true → ⊥
  no-tree n h e = grind arith

  sum-walked : (m : Machine) (l : Line) (node : ℕ) (done : List Node) (n : Node) → At vs root m node done →
      nodes ≡ done ++ n ∷ [] → made vs (allowing m.levels m.branch) n ≡ made_sum (Ok l) → (b : Bool) →
      is_false l ≡ b → Walked levels o nodes (sum_verdict b node)
  sum-walked m l node done n at split makes true f =
      let closes : made vs (allowing m.levels m.branch) n ≡ opens [] =
      makes ∙ ap (λ b. cond b (opens []) (fails Code.BadSum)) f in
      let walked : walk vs nodes root 0 ≡ Ok (rest_of vs m) =
      ap (λ xs. walk vs xs root 0) split ∙ walk-at vs root m node done at n []
      ∙ ap (after (λ qs. walk vs [] qs (suc (length done))) m.levels (rest_of vs m) (length done)) closes in
      walked ∙ ap Ok (whole-walks vs nodes root (rest_of vs m) 0 whole walked)
  sum-walked m l node done n at split makes false f =
      ap (λ xs. walk vs xs root 0) split
      ∙ fails-at vs root m node done at n [] Code.BadSum
      (makes ∙ ap (λ b. cond b (opens []) (fails Code.BadSum)) f)

  walked-at : (m : Machine) (u : Running) (node : ℕ) (st : Open) →
      ReadingStands vs root (reading_of m st u node) nodes →
      Walked levels o nodes (verdict_at st (reading_of m st u node))
  walked-at m u node Open.Nothing g =
      let left = none-left m node g.done g.at [] (g.split ∙ ap (λ xs. g.done ++ xs) g.state.0) in
      absurd (no-tree (suc (length (rest_of vs m))) (omega arith) left)
  walked-at m u node Open.Sum g =
      let s = g.state in
      sum-walked m (sum_line u) node g.done (Node.Sum s.0) g.at (g.split ∙ ap (λ xs. g.done ++ xs) s.1)
      (sym (made-is vs m (Node.Sum s.0) s.3.levels g.at.scoped.variables) ∙ ap made_sum s.2)
      (is_false (sum_line u)) refl
  walked-at m u node (Open.Round d) g =
      let s = g.state in
      let left = none-left m node g.done g.at (Node.Round d s.0 ∷ []) (g.split ∙ ap (λ xs. g.done ++ xs) s.1) in
      absurd (no-tree (1 + length (rest_of vs m)) (omega arith) left)
  walked-at m u node Open.Share g =
      let s = g.state in
      let left = none-left m node g.done g.at (Node.Share s.0 s.1 ∷ []) (g.split ∙ ap (λ xs. g.done ++ xs) s.2) in
      absurd (no-tree (2 + length (rest_of vs m)) (omega arith) left)
  walked-at m u node (Open.Failed code at) f = f []
  walked-at m u node Open.Closed f = f []

  never-at : (r : Reading) (st : Open) → IfErr (verdict_at st r) (λ e. e ≢ CertError.Memory)
  never-at r Open.Nothing = tt
  never-at r Open.Sum = by_sum (is_false (sum_line r.sum))
    where
      by_sum : (b : Bool) → IfErr (sum_verdict b r.node) (λ e. e ≢ CertError.Memory)
      by_sum true = tt
      by_sum false = λ q. cc
  never-at r (Open.Round d) = tt
  never-at r Open.Share = tt
  never-at r (Open.Failed code at) = λ q. cc
  never-at r Open.Closed = tt

  fails-once : (code : Code) (node : ℕ) → walk_from_root levels o nodes ≡ Err (code, node) →
      walk_from_root levels o nodes ≡ Ok [] → ⊥
  fails-once code node p q = cc

  refuted : (r : Result (Unit {0}) CertError) → Walked levels o nodes r → OnOk r (Refuted levels o nodes)
  refuted (Ok u) w = walked-refutes levels o nodes whole w
  refuted (Err e) w = tt

  not-refuted : (r : Result (Unit {0}) CertError) → IfErr r (λ e. e ≢ CertError.Memory) → Walked levels o nodes r →
      IfErr r (λ e. Refuted levels o nodes → ⊥)
  not-refuted (Ok u) never w = tt
  not-refuted (Err (CertError.Fault code node)) never w =
      λ t. fails-once code node w (refutes-walked levels o nodes t)
  not-refuted (Err CertError.Memory) never w = absurd (never refl)

  valid : IsObligation o → (r : Result (Unit {0}) CertError) → Walked levels o nodes r → OnOk r (Valid o)
  valid is (Ok u) w = sound levels o nodes is w
  valid is (Err e) w = tt

  pub judged : IsObligation o → (r : Reading) (v : Result (Unit {0}) CertError) → v ≡ verdict_at r.state r →
      ReadingStands vs root r nodes → Judges levels o nodes v
  judged is r v e s =
      let walked : Walked levels o nodes v =
      subst (Walked levels o nodes) (sym e) (walked-at r.machine r.sum r.node r.state s) in
      let never : IfErr v (λ e. e ≢ CertError.Memory) =
      subst (λ v. IfErr v (λ e. e ≢ CertError.Memory)) (sym e) (never-at r r.state) in record {
        walked = walked;
        refuted = refuted v walked;
        not_refuted = not-refuted v never walked;
        valid = valid is v walked;
        never = never;
      }

-- the events of nodes stand for these nodes
pub told-nodes : (vs : List Variable) (root : List OpenBranch) (r : Reading) (nodes : List Node) →
    ReadingStands vs root r (nodes_from [] (events_of nodes)) → ReadingStands vs root r nodes
told-nodes vs root r nodes s = subst (ReadingStands vs root r) (events-tell-nodes nodes) s

-- A checker that was told nothing yet.

module _ (levels : ℕ) (o : Obligation) (b : Branch) (us : List Variable) (frames : List Frame) where
  abbrev begun : Machine
  begun = record { levels = levels; branch = b; variables = us; frames = frames; done = false }

  pub new-stands : (u : Running) → IsObligation o → levels ≤ 4096 → b ≡ first_branch o → b.added ≡ 0 →
      us ≡ scope o.variables 0 → frames ≡ [] →
      ReadingStands o.variables (allowing levels (first_branch o) ∷ []) (reading_of begun Open.Nothing u 0) []
  new-stands u is few first none scoped empty = record {
    done = [];
    last = [];
    split = refl;
    at = record {
      walked = ap (λ x. Ok (allowing levels x ∷ [])) (sym first)
          ∙ ap (λ fs. Ok (allowing levels b ∷ behind o.variables (reverse fs) b)) (sym empty);
      count = refl;
      scoped = record {
        variables = scoped ∙ ap (scope o.variables) (sym none);
        room = omega (arith, few, none);
      };
      fit = subst (λ fs. FramesFit (reverse fs) b) (sym empty) tt;
      going = refl;
      light = record {
        waiting = first-light o b (obligation-load o is) first;
        taken = ap are_light empty;
      };
    };
    state = (refl, λ p. refl);
  }
