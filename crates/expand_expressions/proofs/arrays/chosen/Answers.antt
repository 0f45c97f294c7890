use Rattle.std.proofs.Common.{ap, sym, ◌∙◌, Some, option_map}
use Rattle.std.proofs.lemmas.Result.{IfOk-weaker}
use Rattle.expand_rules.specs.from_meaning_documents.Names.{slot_at}
use Rattle.expand_expressions.specs.Places.{ends_of}
use Rattle.expand_expressions.proofs.Elements.{chain_by}
use Rattle.expand_expressions.proofs.arrays.chosen.Goals as goal

pub returns-in-Some-clause-tree : goal.returns-in-Some-clause-tree
returns-in-Some-clause-tree c =
    IfOk-weaker c.slot_read.result _ _
    (λ t e. e ∙ chain_by c.args.index.now.term c.args.index.now.known (ends_of c.args.ends) c.args.first
    c.in-Some.slot
    c.requires.sound.fits.0
    (ap (option_map (λ k. slot_at c.args.first (Some (ends_of c.args.ends)) (Some k))) (sym c.narrow.ensures) ∙ sym
    c.in-Some.ensures))
    c.slot_read.ensures.tree
