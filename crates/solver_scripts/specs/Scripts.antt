-- The script of an obligation.
use Rattle.std.specs.Prelude.{ℕ, List, [], ◌∷◌, ◌++◌, codes}
use Rattle.std.specs.List.{flat_map}
use Rattle.core_terms.specs.declared.programs.CSlot.{CSlot}
use Rattle.obligations.specs.declared.branches.Variable.{Variable}
use Rattle.obligations.specs.declared.branches.Obligation.{Obligation}
use Rattle.solver_scripts.specs.Naming.{Naming, naming}
use Rattle.solver_scripts.specs.Terms.{IntTerm, BoolTerm, symbol_text, bool_text}
use Rattle.solver_scripts.specs.Forms.{constant, bool_term}

-- the symbol of a variable
abbrev pub variable_symbol : Naming → Variable → List ℕ
variable_symbol name v = name v.param v.number

-- `(declare-const |x| Int)`
abbrev pub declaration_line : Naming → Variable → List ℕ
declaration_line name v = codes "(declare-const " ++ symbol_text (variable_symbol name v) ++ codes " Int)\n"

-- a variable is at least the low end of its range, and at most the high end
abbrev pub range_terms : Naming → Variable → List BoolTerm
range_terms name v =
    BoolTerm.at_most (constant v.range.lo) (IntTerm.symbol (variable_symbol name v))
    ∷ BoolTerm.at_most (IntTerm.symbol (variable_symbol name v)) (constant v.range.hi) ∷ []

-- what the first assert asks: that all of these hold
abbrev pub ranges_asked : Naming → Obligation → List BoolTerm
ranges_asked name o = flat_map (range_terms name) o.variables

-- what the second one asks
abbrev pub falsehood_asked : Naming → Obligation → BoolTerm
falsehood_asked name o = BoolTerm.negation (bool_term name o.form)

-- terms, each after a blank
abbrev pub parts_text : List BoolTerm → List ℕ
parts_text ts = flat_map (λ t. codes " " ++ bool_text t) ts

-- that all terms hold: `(and s t ..)`, or `true` where there are none
abbrev pub conjunction_text : List BoolTerm → List ℕ
conjunction_text [] = codes "true"
conjunction_text (t ∷ ts) = codes "(and" ++ parts_text (t ∷ ts) ++ codes ")"

-- the script of an obligation whose slots and parameters have these names
abbrev pub named_script : Naming → Obligation → List ℕ
named_script name o =
    codes "(push 1)\n" ++ flat_map (declaration_line name) o.variables
    ++ codes "(assert " ++ conjunction_text (ranges_asked name o)
    ++ codes ")\n(assert " ++ bool_text (falsehood_asked name o)
    ++ codes ")\n(check-sat)\n(pop 1)\n"

abbrev pub script_text : List (List ℕ) → List CSlot → List ℕ → Obligation → List ℕ
script_text words slots params = named_script (naming words slots params)
