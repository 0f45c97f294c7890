use Rattle.std.proofs.Common.{◌≡◌, List, true, length, refl, sym, ap, ◌∙◌}
use Rattle.std.proofs.lemmas.List.{length-map}
use Rattle.core_terms.specs.contracts.nodes.FormNodePartialEq.TheImpl.{eq-value}
use Rattle.core_terms.specs.contracts.nodes.FormNodeEq.TheImpl.Laws.{laws-law}
use Rattle.core_terms.specs.declared.entries.FormEntry.{FormEntry}
use Rattle.core_terms.specs.declared.nodes.FormNode.{FormNode}
use Rattle.core_terms.specs.Pools.{pooled, form_trees}
use Rattle.core_terms.proofs.PlaceLaws.{inserted}
use Rattle.core_terms.proofs.PoolLaws.{form_count, form_within, grown_by_form, same_pool, taken_out}
use Rattle.core_terms.proofs.placing.place_form.Goals as goal

reflects : (k : FormNode) → eq-value.it k k ≡ true
reflects k = laws-law.refl k

entry_count : (entries : List FormEntry) → length entries ≡ length (form_trees entries)
entry_count entries = sym (length-map entries (λ (e : FormEntry). e.tree))

pub returns-in-Ok-clause-whole : goal.returns-in-Ok-clause-whole
returns-in-Ok-clause-whole c =
    let new = (inserted eq-value.it reflects c.args.tables.now.form_nodes.keys c.insert_full.new.self.keys c.args.node
    c.in_ok-place.is_new c.if-not-is_new.false c.in_ok-place.ensures.added c.in_ok-place.ensures.keys) in
    (grown_by_form (pooled c.args.tables.now) _ c.args.node c.requires.whole
    (form_within c.args.tables.now.forms c.args.tables.now.terms c.args.node c.requires.parts) new.0
    new.1 c.in-Ok.ensures.ok refl refl).0

pub returns-in-Ok-clause-kept : goal.returns-in-Ok-clause-kept
returns-in-Ok-clause-kept c =
    let new = (inserted eq-value.it reflects c.args.tables.now.form_nodes.keys c.insert_full.new.self.keys c.args.node
    c.in_ok-place.is_new c.if-not-is_new.false c.in_ok-place.ensures.added c.in_ok-place.ensures.keys) in
    (grown_by_form (pooled c.args.tables.now) _ c.args.node c.requires.whole
    (form_within c.args.tables.now.forms c.args.tables.now.terms c.args.node c.requires.parts) new.0
    new.1 c.in-Ok.ensures.ok refl refl).1

pub returns-in-Err-clause-whole : goal.returns-in-Err-clause-whole
returns-in-Err-clause-whole c =
    let new = (inserted eq-value.it reflects c.args.tables.now.form_nodes.keys c.insert_full.new.self.keys c.args.node
    c.in_ok-place.is_new c.if-not-is_new.false c.in_ok-place.ensures.added c.in_ok-place.ensures.keys) in
    let count = c.len-count.ensures ∙ entry_count c.args.tables.now.forms
    ∙ sym (form_count (pooled c.args.tables.now) c.requires.whole) in
    let back = taken_out c.args.tables.now.form_nodes.keys c.insert_full.new.self.keys c.truncate.new.self.keys
    c.args.node c.len-count.result count new.1 c.truncate.ensures.keys in
    same_pool (pooled c.args.tables.now) _ c.requires.whole back (ap form_trees c.in-Err.ensures.err) refl refl
