use Rattle.std.proofs.Common.{Err, ap, refl, subst}
use Rattle.unity_cli.specs.Input.{IsInput}
use Rattle.unity_cli.proofs.Told.{longer}
use Rattle.unity_cli.proofs.Searched.{are_kept}
use Rattle.unity_cli.proofs.input.read_input.Goals as goal

pub returns-in_ok-input-in-Ok-clause-input : goal.returns-in_ok-input-in-Ok-clause-input
returns-in_ok-input-in-Ok-clause-input g c = record {
  bytes = c.in-Ok.bytes.items;
  were = c.in-Ok.ensures.bytes;
  text_is = record {
    input_is = subst (λ b. IsInput c.args.most b c.in_ok-input-in-Ok.input) c.deref.ensures.value
        c.in_ok-input-in-Ok.ensures;
    kept = are_kept c.in_ok-input-in-Ok.input c.in-Ok.bytes.items;
  };
}

pub returns-in-Err-TooLong-clause-input : goal.returns-in-Err-TooLong-clause-input
returns-in-Err-TooLong-clause-input g c =
    longer c.args.most _ (c.in-Err-TooLong.ensures.too_long (ap Err c.in-Err-TooLong.field-0-is)) _ refl
