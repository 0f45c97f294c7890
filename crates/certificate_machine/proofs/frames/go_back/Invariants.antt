use Rattle.std.proofs.Common.{◌≡◌, reverse, length, false}
use Rattle.certificate_machine.specs.Machines.{FramesFit, rest_of, IsLightMachine, IsScoped}
use Rattle.certificate_machine.proofs.frames.go_back.Given as goal

abbrev pub invariant-frames : goal.invariant-frames
invariant-frames l =
    FramesFit (reverse l.machine.frames) l.machine.branch × (rest_of l.vs l.machine ≡ rest_of l.fn.vs l.fn.machine)
    × (l.machine.done ≡ false) × IsLightMachine l.machine
    × IsScoped l.vs l.machine

abbrev pub decreases-frames : goal.decreases-frames
decreases-frames l = length l.machine.frames
