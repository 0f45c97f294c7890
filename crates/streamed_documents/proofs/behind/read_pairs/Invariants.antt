use Rattle.std.proofs.Common.{◌≡◌, ◌-◌, ◌≤◌, ℕ, Bool, List, Option, true}
use Rattle.unity_base.specs.Window.{HasPassed}
use Rattle.certificate_events.specs.Sections.{reader_count}
use Rattle.certificate_events.specs.Pairs.{awaits_pair}
use Rattle.streamed_documents.specs.Hearing.{StaysReady}
use Rattle.streamed_documents.specs.Pairs.{HearsMore}
use Rattle.streamed_documents.proofs.behind.read_pairs.Given as goal

abbrev pub invariant-pairs : goal.invariant-pairs
invariant-pairs l = record {
  passed : (left : Option (List ℕ)) → HasPassed l.fn.w l.w left left;
  awaits : awaits_pair l.reader ≡ true;
  count : reader_count l.reader ≡ reader_count l.fn.reader;
  ready : StaysReady l.fn.pending l.pending;
  rises : l.fn.w.at ≤ l.w.at;
  heard : (later : Bool) (left : Option (List ℕ)) →
      HearsMore later l.fn.w l.w left l.fn.reader l.reader l.fn.pending l.pending;
}

abbrev pub decreases-pairs : goal.decreases-pairs
decreases-pairs l = l.w.limit - l.w.at
