use Rattle.unity_parser.proofs.FrontFaults.{fault_stays}
use Rattle.unity_parser.proofs.FrontNames.{names_stay}
use Rattle.unity_parser.proofs.fronts.front_laws.Goals as goal

pub returns : goal.returns
returns c = record { faults = fault_stays; names = names_stay }
