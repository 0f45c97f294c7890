use Rattle.std.proofs.Common.{sym, ap, ◌∙◌}
use Rattle.core_terms.specs.Pools.{term_or}
use Rattle.wp_substitution.specs.Memos.{known_at}
use Rattle.wp_substitution.proofs.MemoLaws.{number_small, bounded}
use Rattle.wp_substitution.proofs.memos.Memo.term.Goals as goal

pub returns-in-Some-clause-known : goal.returns-in-Some-clause-known
returns-in-Some-clause-known c =
    c.requires.known.terms c.args.id.place c.in-Some.known
    (sym (ap (λ n. known_at c.args.self.now.terms n) c.index.ensures) ∙ sym c.term_at.ensures ∙ c.in-Some.is)

pub returns-in-Some-clause-weight : goal.returns-in-Some-clause-weight
returns-in-Some-clause-weight c =
    number_small c.args.chains.now c.requires.chains (term_or c.args.pool.now.terms c.args.id.place)
    c.in-Some.known.number
    (returns-in-Some-clause-known c).number

pub returns-in-Some-clause-bounded : goal.returns-in-Some-clause-bounded
returns-in-Some-clause-bounded c =
    bounded (term_or c.args.pool.now.terms c.args.id.place) c.in-Some.known.number (returns-in-Some-clause-weight c)
    c.requires.part.weight
