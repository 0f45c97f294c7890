use Rattle.unity_cli.proofs.Searched.{searched_core}
use Rattle.unity_cli.proofs.prove.find_for.Goals as goal

pub prove-requires : goal.prove-requires
prove-requires c = record { document = searched_core c.args.bytes.now c.args.reading.now c.requires.reading }
