-- What a tree is worth at each number of a stretch, where the number is put for a parameter.
use Rattle.std.specs.Prelude.{◌≡◌, ℕ, ◌≤◌, ℤ, pos, ◌+ℤ◌, Bool, List, Some, slice_get}
use Rattle.core_terms.specs.Folding.{number_of, truth_of}
use Rattle.core_terms.specs.Replacing.{term_at, form_at}
use Rattle.core_terms.specs.declared.documents.Arg.{Arg}
use Rattle.core_terms.specs.declared.trees.CForm.{CForm}
use Rattle.core_terms.specs.declared.trees.CTerm.{CTerm}
use Rattle.leadsto_rules.specs.declared.lines.Line.{Line}
use Rattle.leadsto_rules.specs.Lines.{line_at}

-- the arguments for a number have it in the parameter's place
abbrev pub PutsNumber : ℕ → (ℤ → List Arg) → Type 0
PutsNumber name args = (y : ℤ) → slice_get (args y) name ≡ Some (Arg.Number y)

-- at this number and so many that follow the term is worth what the line says
abbrev pub IsLineOn : (ℤ → List Arg) → ℤ → ℕ → CTerm → Line → Type 0
IsLineOn args z reach t l = (k : ℕ) → k ≤ reach → number_of (term_at (args (z +ℤ pos k)) t) ≡ Some (line_at l k)

-- at this number and so many that follow the formula holds, or it does not
abbrev pub IsTruthOn : (ℤ → List Arg) → ℤ → ℕ → CForm → Bool → Type 0
IsTruthOn args z reach f holds = (k : ℕ) → k ≤ reach → truth_of (form_at (args (z +ℤ pos k)) f) ≡ Some holds
