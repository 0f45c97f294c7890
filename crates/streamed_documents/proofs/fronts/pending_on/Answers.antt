use Rattle.std.proofs.Common.{◌∙◌, subst, sym}
use Rattle.core_terms.specs.Conditions.{IsCoreDocument}
use Rattle.streamed_documents.proofs.FrontCores.{front_cores}
use Rattle.streamed_documents.proofs.fronts.pending_on.Goals as goal

pub new-requires : goal.new-requires
new-requires c = record {
  document = subst IsCoreDocument (sym (c.get.ensures ∙ c.in-Ok.ensures.core))
      (front_cores c.requires.orderly.0 c.args.front.now c.args.document c.requires.orderly.1 c.requires.orderly.2
      c.requires.read c.in-Ok.ensures.named c.in-Ok.ensures.expands);
}
