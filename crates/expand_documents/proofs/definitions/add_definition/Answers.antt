use Rattle.std.proofs.Common.{ap, ◌∙◌, ℕ, List}
use Rattle.std.specs.Str.{bytes_eq}
use Rattle.indexmap.specs.IndexMap.{insert_entry}
use Rattle.names_rules.specs.Scope.{entries, seen_entries}
use Rattle.names_rules.proofs.Lookups.{inserted}
use Rattle.expand_documents.specs.AlwaysNames.{definition_scope}
use Rattle.expand_documents.proofs.DefinitionLaws.{defined_one}
use Rattle.expand_documents.proofs.definitions.add_definition.Goals as goal

pub returns-in-Ok : goal.returns-in-Ok
returns-in-Ok c = defined_one
    (definition_scope (entries c.args.variables.now) (entries c.args.values.now) (entries c.args.always.now))
    c.args.d.now c.in_ok-formed.formed (entries c.insert.new.self) c.in_ok-formed.ensures c.requires.always
    (ap (λ es. seen_entries es) c.in-Ok.ensures.entries
    ∙ inserted c.args.always.now.entries c.as_slice.result c.in_ok-formed.formed
    ∙ ap (λ (w : List ℕ). insert_entry bytes_eq (entries c.args.always.now) w c.in_ok-formed.formed) c.as_slice.ensures)
