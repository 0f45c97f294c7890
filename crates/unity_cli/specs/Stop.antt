-- The status of a call that has no answer.
use Rattle.streamed_documents.specs.declared.found.SourceStop.{SourceStop}
use Rattle.unity_cli.specs.declared.status.Status.{Status}
use Rattle.unity_cli.specs.declared.stop.Stop.{Stop}

abbrev pub stop_status : Stop → Status
stop_status Stop.ReadFault = Status.ReadFault
stop_status Stop.WriteFault = Status.WriteFault
stop_status Stop.Memory = Status.WantOfMemory

abbrev pub source_stop : SourceStop → Stop
source_stop SourceStop.Failed = Stop.ReadFault
source_stop SourceStop.Memory = Stop.Memory
