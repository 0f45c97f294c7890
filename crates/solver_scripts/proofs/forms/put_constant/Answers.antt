use Rattle.std.proofs.Common.{◌≡◌, ◌++◌, pos, codes, decimal, sym, ap, ◌∙◌, rules, to_z, of_z}
use Rattle.std.specs.Int.{w64}
use Rattle.std.specs.Int.RustNames.{int_lt, unsigned_abs}
use Rattle.schedule_replay.proofs.BufferLaws.{put_then, put_same}
use Rattle.solver_scripts.proofs.TreeTexts.{negative_constant, positive_constant}
use Rattle.solver_scripts.proofs.forms.put_constant.Goals as goal

pub returns-then-number-lt0 : goal.returns-then-number-lt0
returns-then-number-lt0 g c =
    let number : c.args.number ≡ to_z w64 (of_z w64 c.args.number) = search rules in
    put_same (ap (λ n. codes "(- " ++ decimal n ++ codes ")") (c.unsigned_abs.ensures.value ∙ ap unsigned_abs (sym number))
    ∙ negative_constant c.args.number (ap (λ z. int_lt z (pos 0)) number ∙ c.if-number-lt0.true))
    (put_then (put_then c.put.ensures c.put_number.ensures) c.put-then-number-lt0.ensures)

pub returns-else-number-lt0 : goal.returns-else-number-lt0
returns-else-number-lt0 g c =
    let number : c.args.number ≡ to_z w64 (of_z w64 c.args.number) = search rules in
    put_same (ap decimal (c.unsigned_abs-else-number-lt0.ensures.value ∙ ap unsigned_abs (sym number))
    ∙ positive_constant c.args.number (ap (λ z. int_lt z (pos 0)) number ∙ c.if-number-lt0.false))
    c.put_number-else-number-lt0.ensures
