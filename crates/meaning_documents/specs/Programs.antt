-- The programs of a document and their unions, by their names.
use Rattle.std.specs.Prelude.{ℕ, List, [], ◌∷◌, ◌++◌, cond, Option, Some, None}
use Rattle.std.specs.Str.{bytes_eq}
use Rattle.unity_syntax.specs.declared.expression.Expr.{Expr}
use Rattle.unity_syntax.specs.declared.program.Initially.{Initially}
use Rattle.unity_syntax.specs.declared.program.Program.{Program}
use Rattle.unity_syntax.specs.declared.document.Document.{Document}
use Rattle.meaning_documents.specs.Instances.{Instance, instances}
use Rattle.meaning_documents.specs.Setting.{Setting, programs_among, setting_of}

-- a program or a union: the formulas of its initially sections, and its instances in order
pub record Composed : Type 0 where
  pub initially : List Expr
  pub instances : List Instance

-- `F [] G` has F's instances followed by G's, and is initial where both are
abbrev pub union : Composed → Composed → Composed
union f g = record { initially = f.initially ++ g.initially; instances = f.instances ++ g.instances }

-- the formula of an initially section, if there is one
abbrev pub initial_formula : Option Initially → List Expr
initial_formula None = []
initial_formula (Some section) = section.of ∷ []

-- programs and unions by name, in the order of the document
abbrev pub Known : Type 0
Known = List (List ℕ × Composed)

-- the program or union with a name
abbrev pub program_named : List ℕ → Known → Option Composed
program_named name [] = None
program_named name (p ∷ rest) = cond (bytes_eq name p.0) (Some p.1) (program_named name rest)

-- the union of two programs, where there are both
abbrev pub union_of : Option Composed → Option Composed → Option Composed
union_of None g = None
union_of (Some f) None = None
union_of (Some f) (Some g) = Some (union f g)

-- a program's name
abbrev pub name_of : Program → List ℕ
name_of (Program.Union at name left right) = name.text
name_of (Program.Plain at name declare always initially start items) = name.text

-- what a program is, where these stand before it
abbrev pub composed : Known → Program → Option Composed
composed known (Program.Union at name left right) =
    union_of (program_named left.text known) (program_named right.text known)
composed known (Program.Plain at name declare always initially start items) =
    Some (record { initially = initial_formula initially; instances = instances items })

-- programs and one more
abbrev pub with_composed : Known → List ℕ → Option Composed → Known
with_composed known name None = known
with_composed known name (Some c) = known ++ ((name, c) ∷ [])

-- programs and those that follow them; each may be composed of those before it
abbrev pub with_programs : Known → List Program → Known
with_programs known [] = known
with_programs known (p ∷ rest) = with_programs (with_composed known (name_of p) (composed known p)) rest

-- a document's programs and unions
abbrev pub programs_of : Document → Known
programs_of d = with_programs [] (programs_among d.parts)

-- what a document fixes for all its programs
abbrev pub document_setting : Document → Setting
document_setting d = setting_of (programs_among d.parts)
