use Rattle.std.proofs.Common.{subst}
use Rattle.expand_declarations.specs.declared.layout.Laying.{Laying}
use Rattle.expand_declarations.specs.Slots.{IsLaying}
use Rattle.expand_declarations.proofs.LayoutLaws.{parts_before_are_few}
use Rattle.quantified_assign.proofs.contents.contents_of.Goals as goal

pub past_fault-requires-clause-within : goal.past_fault-requires-clause-within
past_fault-requires-clause-within c = (parts_before_are_few c.in-Past.place c.args.parts.now
    (subst (λ (laying : Laying). IsLaying c.args.words.now laying c.args.parts.now) c.in-Past.is
    c.in_ok-layout.ensures)).within
