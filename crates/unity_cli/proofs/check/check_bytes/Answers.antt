use Rattle.unity_cli.proofs.Streamed.{bytes_checked}
use Rattle.unity_cli.proofs.check.check_bytes.Goals as goal

pub returns : goal.returns
returns c = bytes_checked c.args.bytes.now c.in_ok-found.found c.found_answer.result c.found_answer.ensures.checked
    c.in_ok-found.ensures
