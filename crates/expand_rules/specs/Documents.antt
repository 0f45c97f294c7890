-- Where the expressions of a document stand: its variables and words, and its always names, each made once, with those
-- before it.
use Rattle.std.specs.Prelude.{ℕ, List, [], ◌∷◌}
use Rattle.names_rules.specs.from_unity_syntax.declared.declaration.Def.{Def}
use Rattle.names_rules.specs.from_unity_syntax.declared.program.Program.{Program}
use Rattle.meaning_documents.specs.Setting.{Setting, setting_of}
use Rattle.expand_rules.specs.declared.cores.Bound.{Bound}
use Rattle.expand_rules.specs.Forming.{Scope, formed}

-- a scope, with always names put in place one after another
abbrev pub with_formed : Scope → List Def → Scope
with_formed s [] = s
with_formed s (d ∷ rest) = with_formed (record s { always = (d.name.text, formed d.of s) ∷ s.always }) rest

-- no always names, and nothing bound
abbrev pub plain_scope : Setting → Scope
plain_scope g = record { variables = g.variables; words = g.words; always = []; bound = [] }

-- where the expressions of programs stand
abbrev pub scope_of : List Program → Scope
scope_of programs = with_formed (plain_scope (setting_of programs)) (setting_of programs).always

-- the same place, among bound names and parameters
abbrev pub within : Scope → List (List ℕ × Bound) → Scope
within s bs = record s { bound = bs }
