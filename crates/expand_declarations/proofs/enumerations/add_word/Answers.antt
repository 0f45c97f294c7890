use Rattle.std.proofs.Common.{◌≡◌, ◌∙◌, ap, sym, ℕ, List, pos, ℤ, rules, to_z, of_z, w64}
use Rattle.std.specs.Str.{bytes_eq}
use Rattle.indexmap.specs.IndexMap.{insert_entry}
use Rattle.names_rules.specs.Scope.{entries, seen_entries}
use Rattle.names_rules.proofs.Lookups.{inserted}
use Rattle.expand_declarations.proofs.StartLaws.{word_known, word_new}
use Rattle.expand_declarations.proofs.enumerations.add_word.Goals as goal

pub returns-in_ok-insert : goal.returns-in_ok-insert
returns-in_ok-insert c = let old = entries c.args.values.now in let word = c.args.name.now.text in
    let z = c.in_ok-literal.field-0 in let number : to_z w64 (of_z w64 z) ≡ z = search rules in
    ap (λ es. seen_entries es) c.in_ok-insert.ensures.entries
    ∙ inserted c.args.values.now.entries c.as_slice.result (to_z w64 (of_z w64 z))
    ∙ ap (λ (w : List ℕ). insert_entry bytes_eq old w (to_z w64 (of_z w64 z))) c.as_slice.ensures
    ∙ ap (λ (y : ℤ). insert_entry bytes_eq old word y) (number ∙ c.in_ok-literal.ensures.0)
    ∙ word_new old word (pos c.args.number) (sym c.is_numbered.ensures ∙ c.if-not-is_numbered.true)

pub returns-else-not-is_numbered : goal.returns-else-not-is_numbered
returns-else-not-is_numbered c = word_known (entries c.args.values.now) c.args.name.now.text (pos c.args.number)
    (sym c.is_numbered.ensures ∙ c.if-not-is_numbered.false)
