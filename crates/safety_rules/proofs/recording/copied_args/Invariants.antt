use Rattle.std.proofs.Common.{◌≡◌, take}
use Rattle.safety_rules.proofs.recording.copied_args.Given as goal

abbrev pub invariant-loop-arg : goal.invariant-loop-arg
invariant-loop-arg l = l.copy ≡ take l.arg-index l.args
