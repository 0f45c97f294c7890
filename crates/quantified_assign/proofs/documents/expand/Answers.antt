use Rattle.std.proofs.Common.{subst, sym}
use Rattle.expand_declarations.specs.Slots.{DeclaredNear}
use Rattle.expand_declarations.proofs.NearIndices.{indices_are_near}
use Rattle.quantified_assign.proofs.documents.expand.Goals as goal

pub contents_of-requires : goal.contents_of-requires
contents_of-requires c =
    subst DeclaredNear (sym c.as_slice.ensures) (indices_are_near c.args.doc.now c.requires)
