use Rattle.std.proofs.Common.{◌∙◌}
use Rattle.expand_declarations.proofs.WordLaws.{seen, inserted_text}
use Rattle.expand_declarations.proofs.words.add_text.Goals as goal

pub returns : goal.returns
returns c = (λ i. seen (c.in_ok-insert.ensures.keys i)) ∙ inserted_text c.args.words.now.keys c.args.text
