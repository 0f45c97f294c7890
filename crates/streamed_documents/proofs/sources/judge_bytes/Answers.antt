use Rattle.std.proofs.Common.{Some, Err, ap}
use Rattle.streamed_documents.proofs.AtHand.{never_rose}
use Rattle.streamed_documents.proofs.sources.judge_bytes.Goals as goal

pub returns-in-Ok : goal.returns-in-Ok
returns-in-Ok c = c.in-Ok.ensures.found c.args.bytes.now (ap Some c.new.ensures)

pub unreachable-requires : goal.unreachable-requires
unreachable-requires c = never_rose (c.in-Err-Failed.ensures.cause.rose (ap Err c.in-Err-Failed.field-0-is))
