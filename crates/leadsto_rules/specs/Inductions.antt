-- What fits of an induction.
use Rattle.std.specs.Prelude.{◌≤◌, ◌^◌, List}
use Rattle.core_terms.specs.Conditions.{FormFits, TermFits, IsRange}
use Rattle.core_terms.specs.Weights.{plain_weight, plain_weights}
use Rattle.core_terms.specs.declared.programs.CSlot.{CSlot}
use Rattle.core_terms.specs.declared.trees.Range.{Range}
use Rattle.leadsto_rules.specs.declared.inductions.Induction.{Induction}

-- its parts weigh at most 2^62, where slots and parameters weigh 1
pub record IsLightInduction (i : Induction) : Type 0 where
  pub own : (plain_weights i.measure.now).own ≤ 2 ^ 62
  pub most : (plain_weights i.measure.now).most ≤ 2 ^ 62
  pub p : plain_weight i.p.now ≤ 2 ^ 62
  pub q : plain_weight i.q.now ≤ 2 ^ 62

-- its parts fit where these are the ranges of the names
pub record InductionFits (slots : List CSlot) (ranges : List Range) (i : Induction) : Type 0 where
  pub range : IsRange i.range
  pub measure : TermFits slots ranges i.measure.now
  pub p : FormFits slots ranges i.p.now
  pub q : FormFits slots ranges i.q.now
