-- What a term's node claims, and what fits where a term stands.
use Rattle.std.specs.Prelude.{◌≡◌, ℕ, Bool, ◌&&◌, List, [], ◌++◌, All, Result, Ok, Err}
use Rattle.case_tables.specs.declared.code_table.Code.{Code}
use Rattle.core_terms.specs.Conditions.{FormFits, TermFits, IsRange, Parts, parts_of}
use Rattle.core_terms.specs.declared.documents.PTerm.{PTerm}
use Rattle.core_terms.specs.declared.programs.CSlot.{CSlot}
use Rattle.core_terms.specs.declared.trees.CForm.{CForm}
use Rattle.core_terms.specs.declared.trees.Range.{Range}
use Rattle.fair_rounds.specs.declared.records.Record.{Record}
use Rattle.rules_table.specs.Limits.{fits}
use Rattle.rules_table.specs.Table.{Site}
use Rattle.rules_table.specs.declared.led.Led.{Led}
use Rattle.safety_rules.specs.Usable.{NamesExist}
use Rattle.safety_rules.specs.declared.places.RuleError.{RuleError}
use Rattle.leadsto_rules.specs.declared.nodes.Claim.{Claim}

-- what is claimed, as what is given
abbrev pub led_of : Claim → Led
led_of c = record { p = c.p; q = c.q; bound = c.rounds; under = c.under; forms = c.forms }

-- the call gives what the table gives, or the code of the first condition that fails; want of memory says nothing
abbrev pub TermGives : {A : Type 0} → Result A RuleError → Result A Code → Type 0
TermGives (Ok x) (Ok y) = x ≡ y
TermGives (Ok x) (Err code) = ⊥
TermGives (Err (RuleError.Fault code)) (Ok y) = ⊥
TermGives (Err (RuleError.Fault code)) (Err first) = code ≡ first
TermGives (Err RuleError.Memory) y = Unit {0}

-- p and q are small enough for a conclusion
abbrev pub may_conclude : Site → List Range → Led → Bool
may_conclude site ranges l = fits site.slots ranges l.p && fits site.slots ranges l.q

-- from p to q in the rounds of a leads-to, beside a record
abbrev pub beside : Led → Record → CForm → CForm → Led
beside t a p q = record { p = p; q = q; bound = t.bound; under = t.under ++ a.under; forms = t.forms }

-- what a claim's p, q and obligations name exists, and what the premises stand under names no parameter
pub record ClaimFits (slots : List CSlot) (ranges : List Range) (f g : CForm) (us fs : List CForm) : Type 0 where
  pub p : NamesExist slots ranges f
  pub q : NamesExist slots ranges g
  pub under : All (FormFits slots []) us
  pub forms : All (NamesExist slots ranges) fs

-- the parts of what a term gives fit where these are the ranges of the names
pub record LedFits (slots : List CSlot) (ranges : List Range) (l : Led) : Type 0 where
  pub p : FormFits slots ranges l.p
  pub q : FormFits slots ranges l.q
  pub under : All (FormFits slots []) l.under
  pub forms : All (NamesExist slots ranges) l.forms

-- formulas, terms and ranges fit
pub record PartsFit (slots : List CSlot) (ranges : List Range) (parts : Parts) : Type 0 where
  pub forms : All (λ e. FormFits slots ranges e.1) parts.forms
  pub terms : All (λ e. TermFits slots ranges e.1) parts.terms
  pub ranges_are : All IsRange parts.ranges

-- a term's parts fit, whatever is visible where it stands
abbrev pub IsTermIn : List CSlot → List Range → PTerm → Type 0
IsTermIn slots ranges t = (visible : ℕ → Bool) × PartsFit slots ranges (parts_of t visible)
