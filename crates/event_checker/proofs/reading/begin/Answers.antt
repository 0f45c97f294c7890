use Rattle.std.proofs.Common.{◌≡◌, pos, OnOk, IfErr, to_z, of_z, w64, refl, sym, subst, arith}
use Rattle.std.proofs.lemmas.Int.{to_z-of_z}
use Rattle.case_tables.specs.declared.code_table.Code.{Code}
use Rattle.obligations.specs.declared.certificates.Node.{Node}
use Rattle.obligations.specs.LinearForms.{line_of_const}
use Rattle.certificate_rules.specs.Refutation.{split_at}
use Rattle.certificate_machine.specs.Machines.{Goes, GoesErr}
use Rattle.certificate_machine.specs.Sums.{sum_line}
use Rattle.event_checker.specs.declared.reading.Open.{Open}
use Rattle.event_checker.specs.Events.{with_event}
use Rattle.event_checker.specs.Readings.{ReadingStands}
use Rattle.event_checker.proofs.StepLaws.{stands-failed, too-deep}
use Rattle.event_checker.proofs.BeginLaws.{on-ok, read-alone, started, sum-started, round-started, share-started}
use Rattle.event_checker.proofs.reading.begin.Goals as goal

pub returns-then-reading-eq0 : goal.returns-then-reading-eq0
returns-then-reading-eq0 c =
    on-ok c.opened.result (λ q root ns at.
    stands-failed c.args.vs.now root c.opened.new.reading (with_event ns c.args.event) Code.CertTooDeep
    c.args.reading.now.node q
    (too-deep c.args.vs.now root c.args.reading.now.machine c.args.reading.now.node ns at c.args.event c.requires.node
    c.if-reading-eq0.true)) c.opened.ensures

pub returns-in-Case : goal.returns-in-Case
returns-in-Case c =
    on-ok c.opened-in-Case.result (λ q root ns at.
    subst (λ e. ReadingStands c.args.vs.now root c.opened-in-Case.new.reading (with_event ns e)) (sym c.in-Case.is)
    (read-alone c.args.vs.now c.args.reading.now.machine c.args.reading.now.node (Node.Case c.in-Case.k)
    c.open_case-read.result _ c.opened-in-Case.new.reading (λ p. refl) (omega arith) (grind arith) c.requires.none refl
    c.open_case-read.ensures.ok c.open_case-read.ensures.light c.open_case-read.ensures.scoped
    c.open_case-read.ensures.err q root ns at)) c.opened-in-Case.ensures

pub returns-in-Split : goal.returns-in-Split
returns-in-Split c =
    let m = c.args.reading.now.machine in
    let v = c.in-Split.variable in
    let r = c.open_split-read.result in
    let same : to_z w64 (of_z w64 c.in-Split.k) ≡ c.in-Split.k = grind (arith, to_z-of_z) in
    let new = c.open_split-read.new.machine in
    let ok = subst (λ z. OnOk r (Goes c.args.vs.now m (split_at m.variables m.branch v z) new))
    same c.open_split-read.ensures.ok in
    let err = subst (λ z. IfErr r (GoesErr c.args.vs.now m (split_at m.variables m.branch v z))) same
    c.open_split-read.ensures.err in
    on-ok c.opened-in-Split.result (λ q root ns at.
    subst (λ e. ReadingStands c.args.vs.now root c.opened-in-Split.new.reading (with_event ns e)) (sym c.in-Split.is)
    (read-alone c.args.vs.now m c.args.reading.now.node (Node.Split v c.in-Split.k)
    r _ c.opened-in-Split.new.reading (λ p. refl) (omega arith) (grind arith) c.requires.none refl
    ok c.open_split-read.ensures.light c.open_split-read.ensures.scoped err q root ns at)) c.opened-in-Split.ensures

pub returns-in-Quot : goal.returns-in-Quot
returns-in-Quot c =
    on-ok c.opened-in-Quot.result (λ q root ns at.
    subst (λ e. ReadingStands c.args.vs.now root c.opened-in-Quot.new.reading (with_event ns e)) (sym c.in-Quot.is)
    (read-alone c.args.vs.now c.args.reading.now.machine c.args.reading.now.node (Node.Quot c.in-Quot.k)
    c.open_quot-read.result _ c.opened-in-Quot.new.reading (λ p. refl) (omega arith) (grind arith) c.requires.none refl
    c.open_quot-read.ensures.ok c.open_quot-read.ensures.light c.open_quot-read.ensures.scoped
    c.open_quot-read.ensures.err q root ns at)) c.opened-in-Quot.ensures

pub returns-in-Sum : goal.returns-in-Sum
returns-in-Sum c =
    let e = c.start.ensures in
    on-ok c.start.result (λ s root ns at.
    subst (λ e. ReadingStands c.args.vs.now root c.start.new.reading (with_event ns e)) (sym c.in-Sum.is)
    (sum-started c.args.vs.now c.args.reading.now.machine c.args.reading.now.node c.start.new.reading (grind arith)
    root ns at s))
    (started c.start.result c.args.reading.now.machine c.args.reading.now.node c.start.new.reading Open.Sum (pos 0)
    e.line e.size e.factors e.constant e.state e.machine e.node)

pub returns-in-Round : goal.returns-in-Round
returns-in-Round c =
    let e = c.start-in-Round.ensures in
    let r = c.start-in-Round.result in
    let d = c.in-Round.d in
    let new = c.start-in-Round.new.reading in
    let same : to_z w64 (of_z w64 d) ≡ d = grind (arith, to_z-of_z) in
    on-ok r (λ s root ns at.
    subst (λ e. ReadingStands c.args.vs.now root new (with_event ns e)) (sym c.in-Round.is)
    (round-started c.args.vs.now c.args.reading.now.machine c.args.reading.now.node new (grind arith) root ns at d s))
    (started r c.args.reading.now.machine c.args.reading.now.node new (Open.Round d) (pos 0)
    e.line e.size e.factors e.constant (subst (λ z. OnOk r (new.state ≡ Open.Round z)) same e.state) e.machine e.node)

pub returns-in-Share : goal.returns-in-Share
returns-in-Share c =
    let e = c.start-in-Share.ensures in
    let r = c.start-in-Share.result in
    let k = c.in-Share.constant in
    let m = c.args.reading.now.machine in
    let new = c.start-in-Share.new.reading in
    let same : to_z w64 (of_z w64 k) ≡ k = grind (arith, to_z-of_z) in
    on-ok r (λ s root ns at.
    subst (λ e. ReadingStands c.args.vs.now root new (with_event ns e)) (sym c.in-Share.is)
    (share-started c.args.vs.now m c.args.reading.now.node new (grind arith) root ns at k s))
    (started r m c.args.reading.now.node new Open.Share k
    (subst (λ z. OnOk r (sum_line new.sum ≡ line_of_const m.variables z)) same e.line)
    e.size e.factors e.constant e.state
    e.machine e.node)
