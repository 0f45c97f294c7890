use Rattle.std.proofs.Common.{◌∙◌, ap, sym, ℕ, List}
use Rattle.std.specs.Str.{bytes_eq}
use Rattle.indexmap.specs.IndexMap.{insert_entry}
use Rattle.names_rules.specs.Scope.{entries, seen_entries}
use Rattle.names_rules.proofs.Lookups.{inserted}
use Rattle.expand_declarations.proofs.TableLaws.{length-seen_entries}
use Rattle.expand_declarations.proofs.params.add_param.Goals as goal

pub returns : goal.returns
returns c = ap (λ es. seen_entries es) c.in_ok-insert.ensures.entries
    ∙ inserted c.args.params.now.entries c.as_slice.result _
    ∙ ap (λ (w : List ℕ). insert_entry bytes_eq (entries c.args.params.now) w c.len-number.result) c.as_slice.ensures
    ∙ ap (λ (n : ℕ). insert_entry bytes_eq (entries c.args.params.now) c.args.p.now.name.text n)
    (c.len-number.ensures.len ∙ sym (length-seen_entries c.args.params.now.entries))
