use Rattle.std.proofs.Common.{◌≡◌, List, true, length, refl, sym, ap, ◌∙◌, rules}
use Rattle.std.proofs.lemmas.List.{length-map}
use Rattle.core_terms.specs.contracts.nodes.TermNodePartialEq.TheImpl.{eq-value}
use Rattle.core_terms.specs.contracts.nodes.TermNodeEq.TheImpl.Laws.{laws-law}
use Rattle.core_terms.specs.declared.entries.TermEntry.{TermEntry}
use Rattle.core_terms.specs.declared.nodes.TermNode.{TermNode}
use Rattle.core_terms.specs.Pools.{pooled, term_trees}
use Rattle.core_terms.proofs.PlaceLaws.{inserted, put_last, there_before}
use Rattle.core_terms.proofs.PoolLaws.{term_count, term_there, term_within, grown_by_term, same_pool, taken_out}
use Rattle.core_terms.proofs.placing.place_term.Goals as goal

reflects : (k : TermNode) → eq-value.it k k ≡ true
reflects k = laws-law.refl k

entry_count : (entries : List TermEntry) → length entries ≡ length (term_trees entries)
entry_count entries = sym (length-map entries (λ (e : TermEntry). e.tree))

pub returns-in-Ok-clause-whole : goal.returns-in-Ok-clause-whole
returns-in-Ok-clause-whole c =
    let new = (inserted eq-value.it reflects c.args.tables.now.term_nodes.keys c.insert_full.new.self.keys c.args.node
    c.in_ok-place.is_new c.if-not-is_new.false c.in_ok-place.ensures.added c.in_ok-place.ensures.keys) in
    (grown_by_term (pooled c.args.tables.now) _ c.args.node c.requires.whole
    (term_within c.args.tables.now.forms c.args.tables.now.terms c.args.node c.requires.parts) new.0
    refl refl new.1 c.in-Ok.ensures.ok).0

pub returns-in-Ok-clause-kept : goal.returns-in-Ok-clause-kept
returns-in-Ok-clause-kept c =
    let new = (inserted eq-value.it reflects c.args.tables.now.term_nodes.keys c.insert_full.new.self.keys c.args.node
    c.in_ok-place.is_new c.if-not-is_new.false c.in_ok-place.ensures.added c.in_ok-place.ensures.keys) in
    (grown_by_term (pooled c.args.tables.now) _ c.args.node c.requires.whole
    (term_within c.args.tables.now.forms c.args.tables.now.terms c.args.node c.requires.parts) new.0
    refl refl new.1 c.in-Ok.ensures.ok).1

pub returns-in-Err-clause-whole : goal.returns-in-Err-clause-whole
returns-in-Err-clause-whole c =
    let new = (inserted eq-value.it reflects c.args.tables.now.term_nodes.keys c.insert_full.new.self.keys c.args.node
    c.in_ok-place.is_new c.if-not-is_new.false c.in_ok-place.ensures.added c.in_ok-place.ensures.keys) in
    let count = c.len-count.ensures ∙ entry_count c.args.tables.now.terms
    ∙ sym (term_count (pooled c.args.tables.now) c.requires.whole) in
    let back = taken_out c.args.tables.now.term_nodes.keys c.insert_full.new.self.keys c.truncate.new.self.keys
    c.args.node c.len-count.result count new.1 c.truncate.ensures.keys in
    same_pool (pooled c.args.tables.now) _ c.requires.whole refl refl back (ap term_trees c.in-Err.ensures.err)

exact : (j k : TermNode) → eq-value.it j k ≡ true → j ≡ k
exact j k e = search rules

pub returns-then-not-is_new-clause-tree : goal.returns-then-not-is_new-clause-tree
returns-then-not-is_new-clause-tree c =
    let stored = c.in_ok-place.ensures.stored in
    term_there (pooled c.args.tables.now) c.in_ok-place.place c.args.node c.requires.whole
    (there_before eq-value.it reflects exact c.args.tables.now.term_nodes.keys c.insert_full.new.self.keys c.args.node
    c.in_ok-place.is_new c.in_ok-place.place c.if-not-is_new.true c.in_ok-place.ensures.added
    c.in_ok-place.ensures.keys stored.0 stored.1 stored.2)

pub returns-in-Ok-clause-tree : goal.returns-in-Ok-clause-tree
returns-in-Ok-clause-tree c =
    put_last (term_trees c.args.tables.now.terms) (term_trees c.push_term.new.terms) _ c.len-count.result
    (c.len-count.ensures ∙ entry_count c.args.tables.now.terms) c.in-Ok.ensures.ok
