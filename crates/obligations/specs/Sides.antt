-- The two sides of a formula that waits, one by one.
use Rattle.core_terms.specs.declared.trees.CForm.{CForm}
use Rattle.obligations.specs.Settling.{sides}
use Rattle.obligations.specs.declared.sides.Side.{Side}

abbrev pub side_of : Side → CForm → CForm
side_of Side.First form = (sides form).0
side_of Side.Second form = (sides form).1
