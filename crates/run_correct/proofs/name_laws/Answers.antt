use Rattle.run_correct.proofs.Names.{all_names_match}
use Rattle.run_correct.proofs.name_laws.Goals as goal

pub returns : goal.returns
returns c = all_names_match
