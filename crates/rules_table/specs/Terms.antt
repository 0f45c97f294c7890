-- The rules for proof terms.
use Rattle.std.specs.Prelude.{ℕ, ◌+◌, ◌*◌, max, nat_eq, nat_le, ◌^◌, pos, Bool, true, false, not, ◌&&◌, List, [], ◌∷◌}
use Rattle.std.specs.Prelude.{◌++◌, map, Option, Some, None, Result, Ok, Err, slice_get}
use Rattle.std.specs.List.{find}
use Rattle.case_tables.specs.declared.kind_table.Kind.{Kind}
use Rattle.case_tables.specs.declared.code_table.Code.{Code}
use Rattle.core_terms.specs.Conditions.{bound_ranges}
use Rattle.core_terms.specs.Folding.{zero_form, at_least_form, difference_term, and_form, or_form, not_form}
use Rattle.core_terms.specs.Places.{names_param, term_names_param}
use Rattle.core_terms.specs.Trees.{same_form}
use Rattle.core_terms.specs.declared.documents.PTerm.{PTerm, fold-PTerm}
use Rattle.core_terms.specs.declared.documents.PTerm.TheOpen.{PTerm-F}
use Rattle.core_terms.specs.declared.documents.Ref.{Ref}
use Rattle.core_terms.specs.declared.trees.CForm.{CForm}
use Rattle.core_terms.specs.declared.trees.CTerm.{CTerm}
use Rattle.core_terms.specs.declared.trees.CTerm.TheVariants.{Const, Param}
use Rattle.core_terms.specs.declared.trees.Range.{Range}
use Rattle.fair_rounds.specs.declared.records.Record.{Record}
use Rattle.rules_table.specs.Conclusion.{Conclusion}
use Rattle.rules_table.specs.Forms.{any_of, imply}
use Rattle.rules_table.specs.Limits.{fits}
use Rattle.rules_table.specs.Numbers.{numbers_of, form_for}
use Rattle.rules_table.specs.Table.{Site, needs, go_on, record_of, concluded, instance_of, is_unless}
use Rattle.rules_table.specs.declared.led.Led.{Led}
use Rattle.meaning_states.specs.State.{int_eq}
use Rattle.meaning_executions.specs.Counting.{range_size}

abbrev pub Ask : Type 0
Ask = Result Led Code

abbrev pub known : Option Record → Result Record Code
known None = Err Code.NoSuchStep
known (Some a) = Ok a

-- the record of the step that a reference names
abbrev pub found : List Record → Ref → Result Record Code
found book r = known (find (λ a. nat_eq a.program r.program && nat_eq a.name r.step) book)

-- the instance of a record of this program, of a kind that serves
abbrev pub referred : Site → List Range → List Record → (Kind → Bool) → Ref → Result Record Code
referred site ranges book serves r =
    go_on (found book r) (λ a.
    needs (nat_eq a.program site.program.name) Code.OtherProgram (
    needs (serves a.kind) Code.WrongKind (instance_of site ranges a r.args)))

abbrev pub leads : Kind → Bool
leads Kind.Ensures = true
leads Kind.Leadsto = true
leads _ = false

-- within one round for an ensures
abbrev pub within_rounds : Kind → ℕ → ℕ
within_rounds Kind.Ensures n = 1
within_rounds _ n = n

-- a node's own conditions: its bound and its conclusion
abbrev pub node : Site → List Range → Led → Ask
node site ranges l =
    needs (nat_le l.bound (2 ^ 63)) Code.BoundTooLarge
    (needs (fits site.slots ranges l.p && fits site.slots ranges l.q) Code.FormulaTooLarge (Ok l))

abbrev pub leads_from : Record → Led
leads_from a = record { p = a.p; q = a.q; bound = within_rounds a.kind a.bound; under = a.under; forms = [] }

abbrev pub leads_by : List CForm → CForm → CForm → Led
leads_by using p q = record { p = p; q = q; bound = 0; under = []; forms = imply (using ++ (p ∷ [])) q ∷ [] }

abbrev pub leads_on : Led → Led → Led
leads_on t u = record {
  p = t.p;
  q = u.q;
  bound = t.bound + u.bound;
  under = t.under ++ u.under;
  forms =
      t.forms ++ u.forms;
}

abbrev pub leads_either : Led → Led → Led
leads_either t u = record {
  p = or_form t.p u.p;
  q = t.q;
  bound = max t.bound u.bound;
  under =
      t.under ++ u.under;
  forms = t.forms ++ u.forms;
}

abbrev pub leads_any : List Range → ℕ → Range → Led → Led
leads_any ranges m range t = record t { p = any_of (map (λ z. form_for ranges m z t.p) (numbers_of range)) }

-- what the part of an induction has to lead from and to
abbrev pub at_measure : CTerm → ℕ → CForm → CForm
at_measure measure m p = and_form p (zero_form (difference_term measure (Param m)))

abbrev pub below_measure : CTerm → ℕ → CForm → CForm → CForm
below_measure measure m p q = or_form (and_form p (at_least_form (difference_term (difference_term (Param m) measure)
    (Const (pos 1))))) q

abbrev pub measure_lies : CTerm → Range → CForm
measure_lies measure range = and_form (at_least_form (difference_term measure (Const range.lo)))
    (at_least_form (difference_term (Const range.hi) measure))

abbrev pub leads_down : List CForm → Range → CTerm → CForm → CForm → Led → Led
leads_down using range measure p q t = record {
  p = p;
  q = q;
  bound = range_size (range.lo, range.hi) * t.bound;
  under = t.under;
  forms = t.forms ++ (imply (using ++ (p ∷ not_form q ∷ [])) (measure_lies measure range) ∷ []);
}

abbrev pub leads_safely : Led → Record → Led
leads_safely t a = record {
  p = and_form t.p a.p;
  q = or_form (and_form t.q a.p) a.q;
  bound = t.bound;
  under =
      t.under ++ a.under;
  forms = t.forms;
}

abbrev pub leads_weaker : List CForm → CForm → CForm → Led → Led
leads_weaker using p q t = record {
  p = p;
  q = q;
  bound = t.bound;
  under = t.under;
  forms = t.forms ++ (imply (using ++ (p ∷ [])) t.p ∷ imply (using ++ (t.q ∷ [])) q ∷ []);
}

-- a node's answer, from its parts' answers
abbrev pub term_step : Site → List Range → List Record → PTerm-F Ask → Ask
term_step site ranges book (PTerm-F.Imply p q) = node site ranges (leads_by site.using p q)
term_step site ranges book (PTerm-F.From r) = go_on (referred site ranges book leads r)
    (λ a. node site ranges (leads_from a))
term_step site ranges book (PTerm-F.Trans t u) =
    go_on t (λ t. go_on u (λ u. needs (same_form t.q u.p) Code.MiddleDiffers (node site ranges (leads_on t u))))
term_step site ranges book (PTerm-F.Either t u) =
    go_on t (λ t. go_on u (λ u. needs (same_form t.q u.q) Code.MiddleDiffers (node site ranges (leads_either t u))))
term_step site ranges book (PTerm-F.Exists m range t) =
    go_on t (λ t. needs (not (names_param m t.q)) Code.ParamEscapes (node site ranges (leads_any ranges m range t)))
term_step site ranges book (PTerm-F.Induct m range measure p q t) =
    go_on t (λ t.
    needs (same_form t.p (at_measure measure m p) && same_form t.q (below_measure measure m p q)) Code.MiddleDiffers
    (node site ranges (leads_down site.using range measure p q t)))
term_step site ranges book (PTerm-F.Psp t r) =
    go_on t (λ t. go_on (referred site ranges book is_unless r) (λ a. node site ranges (leads_safely t a)))
term_step site ranges book (PTerm-F.Weaken p q t) = go_on t (λ t. node site ranges (leads_weaker site.using p q t))

abbrev pub term_of : Site → List Range → List Record → PTerm → Ask
term_of site ranges book = fold-PTerm Ask (term_step site ranges book)

abbrev pub leads_record : Site → Led → Record
leads_record site l = record (record_of site Kind.Leadsto l.p l.q l.under None) { bound = l.bound }

-- the ranges of the step's parameters, and then of the names that the term binds
abbrev pub all_ranges : Site → PTerm → List Range
all_ranges site t = site.params ++ bound_ranges t

unfoldable pub derive_of : Site → PTerm → List Record → Result Conclusion Code
derive_of site t book =
    go_on (term_of site (all_ranges site t) book t) (λ l. concluded site.slots (all_ranges site t)
    (leads_record site l) l.forms)

abbrev pub same_range : Option Range → Range → Bool
same_range None range = false
same_range (Some r) range = int_eq r.lo range.lo && int_eq r.hi range.hi

-- each bound name has its range in the list, and an induction's measure and formulas do not name it
abbrev pub well_step : List Range → PTerm-F Bool → Bool
well_step ranges (PTerm-F.Imply p q) = true
well_step ranges (PTerm-F.From r) = true
well_step ranges (PTerm-F.Trans t u) = t && u
well_step ranges (PTerm-F.Either t u) = t && u
well_step ranges (PTerm-F.Exists m range t) = same_range (slice_get ranges m) range && t
well_step ranges (PTerm-F.Induct m range measure p q t) =
    (same_range (slice_get ranges m) range && (not (term_names_param m measure) && (not (names_param m p) && not
    (names_param m q)))) && t
well_step ranges (PTerm-F.Psp t r) = t
well_step ranges (PTerm-F.Weaken p q t) = t

abbrev pub is_well_bound : List Range → PTerm → Bool
is_well_bound ranges = fold-PTerm Bool (well_step ranges)
