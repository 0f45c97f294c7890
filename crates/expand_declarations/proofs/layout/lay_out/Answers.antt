use Rattle.std.proofs.Common.{subst, ap, ℕ, Option}
use Rattle.names_rules.specs.Scope.{seen_entries}
use Rattle.expand_expressions.specs.Places.{variables_of}
use Rattle.expand_declarations.specs.declared.layout.Layout.{Layout}
use Rattle.expand_declarations.specs.Slots.{LaysParts}
use Rattle.expand_declarations.proofs.LayoutLaws.{whole}
use Rattle.expand_declarations.proofs.layout.lay_out.Goals as goal

pub returns-in-None : goal.returns-in-None
returns-in-None c = let words = c.args.words.now in let parts = c.args.parts.now in
    let old : Layout = record { variables = c.new.result; slots = c.new-2.result } in
    let laid = subst (λ (past : Option ℕ). LaysParts words past old c.lay_parts.new.layout parts) c.in-None.is
    c.in_ok-lay_parts.ensures in
    whole words old c.lay_parts.new.layout parts c.requires
    (ap (λ es. variables_of (seen_entries es)) c.new.ensures.empty) c.new-2.ensures laid.0 laid.1
