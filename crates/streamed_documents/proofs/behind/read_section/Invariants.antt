use Rattle.std.proofs.Common.{◌≡◌, ◌-◌, ◌≤◌, ◌==◌}
use Rattle.unity_base.specs.Window.{HasPassed}
use Rattle.certificate_events.specs.Sections.{reader_count}
use Rattle.streamed_documents.specs.Hearing.{StaysReady}
use Rattle.streamed_documents.proofs.SectionSteps.{GoesOn}
use Rattle.streamed_documents.proofs.behind.read_section.Given as goal

abbrev pub invariant-tokens : goal.invariant-tokens
invariant-tokens g l = record {
  passed : HasPassed l.fn.w l.w (g.S.Source.left l.fn.src) (g.S.Source.left l.src);
  same : g.S.Source.faults l.src ≡ g.S.Source.faults l.fn.src;
  count : reader_count l.reader ≤ l.w.at;
  ready : StaysReady l.fn.pending l.pending;
  goes : GoesOn (l.fn.version == 2) l.fn.w (g.S.Source.left l.fn.src) l.w (g.S.Source.left l.src) l.reader l.fn.pending
      l.pending;
}

abbrev pub decreases-tokens : goal.decreases-tokens
decreases-tokens g l = l.w.limit - l.w.at
