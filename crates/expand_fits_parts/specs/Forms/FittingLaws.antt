-- What stands in a scope that fits has a core that fits, where nothing in it is too large.
use Rattle.std.specs.Prelude.{◌≡◌, ◌^◌, ◌≤◌, ℕ, List, [], false}
use Rattle.std.specs.Str.{bytes_eq}
use Rattle.indexmap.specs.IndexMap.{insert_entry}
use Rattle.unity_syntax.specs.declared.expression.Expr.{Expr}
use Rattle.meaning_documents.specs.Instances.{Instance}
use Rattle.core_terms.specs.declared.programs.CSlot.{CSlot}
use Rattle.core_terms.specs.declared.trees.Range.{Range}
use Rattle.core_terms.specs.Conditions.{FormFits, TermFits, StatementFits}
use Rattle.expand_rules.specs.Forming.{Scope, formed, as_truth, as_number, form_of, term_of}
use Rattle.expand_rules.specs.Assigning.{stated, is_large_effect}
use Rattle.expand_rules.specs.Programs.{core_statement}
use Rattle.expand_fits_parts.specs.Forms.Fitting.{ScopeFits}

-- an expression as a formula,
abbrev pub FormulasFit : Type 0
FormulasFit = (slots : List CSlot) (params : List Range) (s : Scope) (e : Expr) → ScopeFits slots params s →
    (as_truth (formed e s)).measure.most ≤ 2 ^ 62 → FormFits slots params (form_of (as_truth (formed e s)).core)

-- an expression as a number,
abbrev pub NumbersFit : Type 0
NumbersFit = (slots : List CSlot) (params : List Range) (s : Scope) (e : Expr) → ScopeFits slots params s →
    (as_number (formed e s)).measure.most ≤ 2 ^ 62 → TermFits slots params (term_of (as_number (formed e s)).core)

-- and an instance of a statement
abbrev pub InstancesFit : Type 0
InstancesFit = (slots : List CSlot) (number : List ℕ → ℕ) (s : Scope) (i : Instance) → ScopeFits slots [] s →
    is_large_effect (stated s i).effect ≡ false → StatementFits slots (core_statement number (stated s i))

-- a scope that fits does so with one more always name
abbrev pub DefinitionsFit : Type 0
DefinitionsFit = (slots : List CSlot) (params : List Range) (s : Scope) (name : List ℕ) (e : Expr) →
    ScopeFits slots params s →
    ScopeFits slots params (record s { always = insert_entry bytes_eq s.always name (formed e s) })
