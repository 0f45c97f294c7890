use Rattle.std.proofs.Common.{◌∙◌, ap, sym, ℕ, List}
use Rattle.std.specs.Str.{bytes_eq}
use Rattle.indexmap.specs.IndexMap.{insert_entry}
use Rattle.expand_rules.specs.declared.cores.Bound.{Bound}
use Rattle.names_rules.specs.Scope.{entries, seen_entries}
use Rattle.names_rules.proofs.Lookups.{inserted}
use Rattle.expand_declarations.proofs.TableLaws.{length-seen_entries}
use Rattle.expand_steps.specs.ProofTerms.{param_bound}
use Rattle.expand_steps.proofs.steps.add_bound.Goals as goal

pub returns : goal.returns
returns c = ap (λ es. seen_entries es) c.in_ok-insert.ensures.entries
    ∙ inserted c.args.bounds.now.entries c.as_slice.result c.in_ok-bound.bound
    ∙ ap (λ (w : List ℕ). insert_entry bytes_eq (entries c.args.bounds.now) w c.in_ok-bound.bound) c.as_slice.ensures
    ∙ ap (λ (b : Bound). insert_entry bytes_eq (entries c.args.bounds.now) c.args.p.now.name.text b)
    (c.in_ok-bound.ensures ∙ ap (λ (n : ℕ). param_bound n c.args.p.now.range)
    (c.in_ok-number.ensures ∙ c.len.ensures.len ∙ sym (length-seen_entries c.args.bounds.now.entries)))
