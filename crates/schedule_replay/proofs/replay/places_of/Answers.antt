use Rattle.std.proofs.Common.{take, refl, sym, ap, ◌∙◌}
use Rattle.std.specs.Option.{option_map}
use Rattle.std.proofs.lemmas.Option.{slice_get_read}
use Rattle.core_terms.specs.declared.documents.Choice.{Choice}
use Rattle.schedule_replay.proofs.ScheduleLaws.{unknown_at, places_below}
use Rattle.schedule_replay.proofs.replay.places_of.Goals as goal

pub returns-in-None-clause-refused : goal.returns-in-None-clause-refused
returns-in-None-clause-refused c =
    let there = slice_get_read _ _ _ _ refl c.loop-choice-test.true c.choice-item.is in (
      refl,
      ap (option_map (λ (d : Choice). d.at))
          (unknown_at c.args.statements.now c.args.choices.now c.loop-choice.places c.loop-choice.choice-index
          c.choice-item.result c.loop-choice.invariant there (sym c.place_of.ensures ∙ c.in-None.is)),
    )

pub returns-clause-below : goal.returns-clause-below
returns-clause-below c =
    places_below c.args.statements.now (take c.loop-choice.choice-index c.args.choices.now) c.loop-choice.places
    c.loop-choice.invariant
