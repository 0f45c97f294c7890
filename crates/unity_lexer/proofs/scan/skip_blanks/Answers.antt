use Rattle.std.proofs.Common.{arith}
use Rattle.unity_lexer.proofs.Blanks.{blanks_fit}
use Rattle.unity_lexer.proofs.Taking.{shown_fits, shown_inside}
use Rattle.unity_lexer.proofs.scan.skip_blanks.Goals as goal

pub skip-requires-clause-holds : goal.skip-requires-clause-holds
skip-requires-clause-holds c =
    let fits = blanks_fit c.args.w.now c.blank_len-size.result c.bytes.result.now c.bytes.ensures
    c.blank_len-size.ensures in
    omega (arith, fits, shown_fits c.args.w.now)

pub skip-requires-clause-in_limit : goal.skip-requires-clause-in_limit
skip-requires-clause-in_limit c =
    let fits = blanks_fit c.args.w.now c.blank_len-size.result c.bytes.result.now c.bytes.ensures
    c.blank_len-size.ensures in
    omega (arith, fits, shown_inside c.args.w.now)
