-- The core of an expression, and of an assignment, names only slots and parameters that pass tests, where those of its
-- words do.
use Rattle.std.specs.Prelude.{◌≡◌, ℕ, ◌≤◌, Bool, true}
use Rattle.unity_syntax.specs.declared.expression.Expr.{Expr}
use Rattle.unity_syntax.specs.declared.statement.Assign.{Assign}
use Rattle.core_terms.specs.declared.trees.CTerm.{CTerm}
use Rattle.core_terms.specs.declared.trees.CForm.{CForm}
use Rattle.core_terms.specs.Conditions.{is_below}
use Rattle.core_terms.specs.Places.{term_slots, form_slots, term_params, form_params, term_names_only, form_names_only}
use Rattle.expand_rules.specs.Forming.{Scope, formed}
use Rattle.expand_rules.specs.Assigning.{effect_of}
use Rattle.expand_fits_parts.specs.Forms.Naming.{WordTest, any_word, words_pass, assignment_passes, core_names_only}
use Rattle.expand_fits_parts.specs.Forms.Naming.{SeesOnly}
use Rattle.expand_fits_parts.specs.Forms.Naming.{EffectNames}

abbrev pub ExpressionsName : Type 0
ExpressionsName = (slots params : ℕ → Bool) (alone whole : WordTest) (e : Expr) (s : Scope) →
    words_pass e alone whole ≡ true → SeesOnly slots params alone whole s →
    core_names_only slots params (formed e s).core ≡ true

abbrev pub AssignmentsName : Type 0
AssignmentsName = (slots params : ℕ → Bool) (alone whole : WordTest) (a : Assign) (s : Scope) →
    assignment_passes a alone whole ≡ true → SeesOnly slots params alone whole s →
    EffectNames slots params (effect_of a s)

-- a test that each word passes is passed by all words
abbrev pub ExpressionsPass : Type 0
ExpressionsPass = (e : Expr) → words_pass e any_word any_word ≡ true

abbrev pub AssignmentsPass : Type 0
AssignmentsPass = (a : Assign) → assignment_passes a any_word any_word ≡ true

-- where only numbers below a count are named, no more of them are counted
abbrev pub FormsBelow : Type 0
FormsBelow = (m n : ℕ) (f : CForm) → form_names_only (is_below m) (is_below n) f ≡ true →
    (form_slots f ≤ m) × (form_params f ≤ n)

abbrev pub TermsBelow : Type 0
TermsBelow = (m n : ℕ) (t : CTerm) → term_names_only (is_below m) (is_below n) t ≡ true →
    (term_slots t ≤ m) × (term_params t ≤ n)
