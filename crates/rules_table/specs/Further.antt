-- The further rules: what follows from a leads-to and an unless, or from two of each. The bounds are this profile's.
use Rattle.std.specs.Prelude.{ℕ, ◌+◌, max, nat_le, ◌^◌, Bool, true, false, ◌&&◌, List, [], ◌++◌, None, Result}
use Rattle.case_tables.specs.declared.kind_table.Kind.{Kind}
use Rattle.case_tables.specs.declared.rule_table.RuleName.{RuleName}
use Rattle.case_tables.specs.declared.code_table.Code.{Code}
use Rattle.core_terms.specs.Folding.{and_form, or_form, not_form}
use Rattle.core_terms.specs.Trees.{same_form}
use Rattle.core_terms.specs.declared.trees.CTerm.{CTerm}
use Rattle.core_terms.specs.declared.trees.CForm.{CForm, out-CForm}
use Rattle.core_terms.specs.declared.trees.CForm.TheOpen.{CForm-F}
use Rattle.core_terms.specs.declared.trees.CForm.TheVariants.{Bottom}
use Rattle.fair_rounds.specs.declared.records.Record.{Record}
use Rattle.rules_table.specs.Conclusion.{Conclusion}
use Rattle.rules_table.specs.Table.{Site, needs, record_of, concluded, is_unless, is_invariant, pair_of}

abbrev pub is_leadsto : Kind → Bool
is_leadsto Kind.Leadsto = true
is_leadsto _ = false

-- a record within a bound
abbrev pub record_within : Site → Kind → CForm → CForm → List CForm → ℕ → Record
record_within site kind p q more bound = record (record_of site kind p q more None) { bound = bound }

-- it, where the bound and p and q are small enough; nothing is left to be shown
abbrev pub concluded_within : Site → Kind → CForm → CForm → List CForm → ℕ → Result Conclusion Code
concluded_within site kind p q more bound =
    needs (nat_le bound (2 ^ 63)) Code.BoundTooLarge
    (concluded site.slots site.params (record_within site kind p q more bound) [])

-- what a further rule gives, where its records have the right kinds and are alike as it asks
abbrev pub derived : Site → Bool → Bool → Kind → CForm → CForm → List CForm → ℕ → Result Conclusion Code
derived site kinds alike kind p q more bound =
    needs kinds Code.WrongKind (needs alike Code.MiddleDiffers (concluded_within site kind p q more bound))

-- `complete`: p leads to q or r, p' to q' or r, and each of q and q' is kept until r; so both come to hold, or r does
unfoldable pub complete_of : Site → Record → Record → Record → Record → Result Conclusion Code
complete_of site a b c d =
    derived site ((is_leadsto a.kind && is_unless b.kind) && (is_leadsto c.kind && is_unless d.kind))
    (same_form b.q d.q && (same_form a.q (or_form b.p b.q) && same_form c.q (or_form d.p d.q))) Kind.Leadsto
    (and_form a.p c.p) (or_form (and_form b.p d.p) b.q) ((a.under ++ b.under) ++ (c.under ++ d.under))
    (max a.bound c.bound)

-- the second of an alternative's two sides is this formula
abbrev pub ends_on : CForm-F CForm CTerm → CForm → Bool
ends_on (CForm-F.Or q b) m = same_form b m
ends_on _ m = false

-- the first of an alternative's two sides
abbrev pub first_side : CForm-F CForm CTerm → CForm
first_side (CForm-F.Or q b) = q
first_side _ = Bottom

-- `cancel` for a leads-to: p leads to q or b, and b on to r
unfoldable pub lead_cancel_of : Site → Record → Record → Result Conclusion Code
lead_cancel_of site a b =
    derived site (is_leadsto a.kind && is_leadsto b.kind) (ends_on (out-CForm a.q) b.p) Kind.Leadsto a.p
    (or_form (first_side (out-CForm a.q)) b.q) (a.under ++ b.under) (a.bound + b.bound)

-- `until`: p unless q, and p leads to q
unfoldable pub until_of : Site → Record → Record → Result Conclusion Code
until_of site a b =
    derived site (is_unless a.kind && is_leadsto b.kind) (same_form a.p b.p && same_form a.q b.q) Kind.Until a.p a.q
    (a.under ++ b.under) b.bound

-- `detects`: q holds where p does, and q leads to p
unfoldable pub detects_of : Site → Record → Record → Result Conclusion Code
detects_of site a b =
    derived site (is_invariant a.kind && is_leadsto b.kind) (same_form a.p (or_form (not_form b.q) b.p)) Kind.Detects
    b.q b.p (a.under ++ b.under) b.bound

-- `constant`: both p and its contrary are stable
unfoldable pub constant_of : Site → Record → Record → Result Conclusion Code
constant_of site a b =
    derived site (is_unless a.kind && is_unless b.kind)
    (same_form b.p (not_form a.p) && (same_form a.q Bottom && same_form b.q Bottom)) Kind.Constant a.p Bottom
    (a.under ++ b.under) 0

-- what two records give for a claim of this kind
abbrev pub pair_by : Site → Kind → RuleName → Record → Record → Result Conclusion Code
pair_by site Kind.Leadsto which a b = lead_cancel_of site a b
pair_by site Kind.Until which a b = until_of site a b
pair_by site Kind.Detects which a b = detects_of site a b
pair_by site Kind.Constant which a b = constant_of site a b
pair_by site _ which a b = pair_of site which a b
