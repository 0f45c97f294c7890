use Rattle.std.proofs.Common.{◌∙◌, ap, sym, ℕ, Option}
use Rattle.std.specs.Prelude.{unwrap_or, option_map}
use Rattle.std.specs.Option.{option_and_then}
use Rattle.expand_expressions.specs.from_meaning_documents.Names.{slot_at}
use Rattle.names_rules.specs.Scope.{entries}
use Rattle.expand_expressions.specs.declared.places.VariableSlots.{VariableSlots}
use Rattle.expand_expressions.specs.Places.{ends_of}
use Rattle.expand_declarations.proofs.StartLaws.{slot_named-found}
use Rattle.expand_declarations.proofs.start.slot_of.Goals as goal

pub returns-in-None : goal.returns-in-None
returns-in-None c = ap (λ (o : Option VariableSlots).
    unwrap_or (option_and_then (λ p. slot_at p.first (option_map ends_of p.indices) c.args.index) o) 0)
    c.in-None.ensures
    ∙ ap (λ (o : Option ℕ). unwrap_or o 0)
    (sym (slot_named-found (entries c.args.variables.now) c.args.name.now.text c.args.index))

pub returns-in-Some : goal.returns-in-Some
returns-in-Some c = c.unwrap_or.ensures ∙ ap (λ (o : Option ℕ). unwrap_or o 0) (c.placed_slot.ensures
    ∙ ap (λ (o : Option VariableSlots).
    option_and_then (λ p. slot_at p.first (option_map ends_of p.indices) c.args.index) o)
    c.in-Some.ensures
    ∙ sym (slot_named-found (entries c.args.variables.now) c.args.name.now.text c.args.index))

pub placed_slot-requires : goal.placed_slot-requires
placed_slot-requires c = c.requires.each c.args.name.now.text c.in-Some.placed (sym c.in-Some.ensures)
