use Rattle.certificate_rules.proofs.IndexLaws.{indexes_are_small}
use Rattle.certificate_rules.proofs.indexes.index_laws.Goals as goal

pub returns : goal.returns
returns c = indexes_are_small
