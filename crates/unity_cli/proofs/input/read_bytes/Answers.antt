use Rattle.unity_cli.proofs.input.read_bytes.Goals as goal

pub returns : goal.returns
returns c = c.input_of.ensures c.args.most c.args.bytes.now c.in_ok-reading.ensures
