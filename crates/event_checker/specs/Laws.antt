-- What the events of nodes tell.
use Rattle.std.specs.Prelude.{◌≡◌, List, []}
use Rattle.obligations.specs.declared.certificates.Node.{Node}
use Rattle.event_checker.specs.Events.{events_of, nodes_from}

-- the events of nodes tell these nodes
abbrev pub EventsTellNodes : Type 0
EventsTellNodes = (ns : List Node) → nodes_from [] (events_of ns) ≡ ns
