use Rattle.std.proofs.Common.{length, refl, sym, ap, ◌∙◌}
use Rattle.std.proofs.lemmas.Option.{slice_get_read}
use Rattle.schedule_replay.specs.Schedules.{names_instance}
use Rattle.schedule_replay.proofs.ScheduleLaws.{named_at}
use Rattle.schedule_replay.proofs.replay.guess.Goals as goal

pub returns-then-is_named : goal.returns-then-is_named
returns-then-is_named c =
    named_at c.args.statements.now c.args.choice.now c.in_ok-place.field-0.now c.index-statements-index.result
    c.requires.apart
    (slice_get_read c.args.statements.now (length c.args.statements.now) c.in_ok-place.field-0.now
    c.index-statements-index.result refl c.if-index-statements.true c.index-statements-index.is)
    (ap (names_instance c.args.choice.now) (sym c.get-then-index-statements.ensures) ∙ sym c.is_named.ensures
    ∙ c.if-is_named.true)
