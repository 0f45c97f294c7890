use Rattle.std.proofs.Common.{◌∙◌}
use Rattle.superposition.proofs.superposing.is_named_below.Goals as goal

pub returns : goal.returns
returns c f below =
    c.names_old.ensures c.args.pl.now.program.now f (c.in_ok-above.ensures ∙ c.as_slice.ensures) below
