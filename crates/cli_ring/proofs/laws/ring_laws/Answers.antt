use Rattle.cli_ring.proofs.Lengths.{rings_have_lengths}
use Rattle.cli_ring.proofs.laws.ring_laws.Goals as goal

pub returns : goal.returns
returns c = rings_have_lengths
