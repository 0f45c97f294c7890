use Rattle.std.proofs.lemmas.List.{set_split}
use Rattle.unity_cli.proofs.upgrade.with_two.Goals as goal

pub returns : goal.returns
returns c = set_split c.args.bytes.items c.args.place 50 c.requires
