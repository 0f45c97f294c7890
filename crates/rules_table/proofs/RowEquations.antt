-- Each row of the table as one equation, for calls that give what it gives.
use Rattle.std.proofs.Common.{◌≡◌, ℕ, ◌+◌, max, nat_eq, Bool, not, ◌&&◌, ◌||◌, List, [], ◌∷◌, ◌++◌}
use Rattle.std.proofs.Common.{Some, None, Ok, refl}
use Rattle.std.proofs.Common.{sym, ap, ◌∙◌}
use Rattle.std.specs.List.{list_all, list_any}
use Rattle.case_tables.specs.declared.kind_table.Kind.{Kind}
use Rattle.case_tables.specs.declared.rule_table.RuleName.{RuleName}
use Rattle.case_tables.specs.declared.code_table.Code.{Code}
use Rattle.core_terms.specs.declared.trees.Range.{Range}
use Rattle.core_terms.specs.declared.trees.CForm.{CForm, out-CForm}
use Rattle.core_terms.specs.declared.trees.CForm.TheVariants.{Top, Bottom}
use Rattle.core_terms.specs.declared.trees.CTerm.{CTerm}
use Rattle.core_terms.specs.declared.programs.CProgram.{CProgram}
use Rattle.core_terms.specs.declared.programs.CSlot.{CSlot}
use Rattle.core_terms.specs.declared.documents.Arg.{Arg}
use Rattle.core_terms.specs.declared.documents.Helper.{Helper}
use Rattle.core_terms.specs.declared.documents.Ref.{Ref}
use Rattle.core_terms.specs.declared.documents.PTerm.{PTerm, fold-roll-PTerm}
use Rattle.core_terms.specs.declared.documents.PTerm.TheOpen.{PTerm-F}
use Rattle.core_terms.specs.declared.documents.PTerm.TheVariants.{Imply, From, Trans, Either, Exists, Induct, Psp}
use Rattle.core_terms.specs.declared.documents.PTerm.TheVariants.{Weaken, rolls-Imply, rolls-From, rolls-Trans}
use Rattle.core_terms.specs.declared.documents.PTerm.TheVariants.{rolls-Either, rolls-Exists, rolls-Induct, rolls-Psp}
use Rattle.core_terms.specs.declared.documents.PTerm.TheVariants.{rolls-Weaken}
use Rattle.core_terms.specs.Replacing.{form_at}
use Rattle.core_terms.specs.Folding.{and_form, or_form, not_form}
use Rattle.core_terms.specs.Trees.{same_form}
use Rattle.core_terms.specs.Places.{names_param}
use Rattle.fair_rounds.specs.declared.records.Record.{Record}
use Rattle.rules_table.specs.Forms.{imply}
use Rattle.rules_table.specs.Limits.{fits, is_provable}
use Rattle.rules_table.specs.Table.{Site, needs, go_on, goals_of, record_of, concluded, defined_forms, defined_of}
use Rattle.rules_table.specs.Table.{invariant_forms, invariant_of, unless_forms, unless_of, fixed_forms, fixed_of}
use Rattle.rules_table.specs.Table.{is_helper, helper_forms, ensures_of, is_unless, is_ensures, weaken_of, paired}
use Rattle.rules_table.specs.Table.{ends_of_both}
use Rattle.rules_table.specs.Table.{ends_of_either, pair_of, is_slot, are_arguments, record_with, instance_of}
use Rattle.rules_table.specs.Table.{is_invariant}
use Rattle.rules_table.specs.Further.{is_leadsto, derived, complete_of, ends_on, first_side, lead_cancel_of, until_of}
use Rattle.rules_table.specs.Further.{detects_of, constant_of}
use Rattle.rules_table.specs.Layers.{is_carried, is_layer, names_old, record_over, starts_below, superpose_of}
use Rattle.rules_table.specs.Terms.{Ask, referred, leads, node, leads_from, leads_by, leads_on, leads_either}
use Rattle.rules_table.specs.Terms.{leads_any, at_measure, below_measure, leads_down, leads_safely, leads_weaker}
use Rattle.rules_table.specs.Terms.{term_step, term_of, all_ranges, leads_record, derive_of}

pub concluded-is : (slots : List CSlot) (ranges : List Range) (made : Record) (forms : List CForm) →
    concluded slots ranges made forms ≡
    needs ((fits slots ranges made.p && fits slots ranges made.q) && list_all (is_provable slots ranges) forms)
    Code.FormulaTooLarge (Ok (record { made = made; goals = goals_of ranges forms }))
unfolding concluded
concluded-is slots ranges made forms = refl

pub defined-is : (site : Site) (starts : Bool) → defined_of site starts ≡
    needs starts Code.NoStart
    (concluded site.slots site.params (record_of site Kind.Defined Top Top [] None) (defined_forms site))
unfolding defined_of
defined-is site starts = refl

pub invariant-is : (site : Site) (p : CForm) → invariant_of site p ≡
    concluded site.slots site.params (record_of site Kind.Invariant p Bottom [] None) (invariant_forms site p)
unfolding invariant_of
invariant-is site p = refl

pub unless-is : (site : Site) (p q : CForm) → unless_of site p q ≡
    concluded site.slots site.params (record_of site Kind.Unless p q [] None) (unless_forms site p q)
unfolding unless_of
unless-is site p q = refl

pub fixed-is : (site : Site) (p : CForm) → fixed_of site p ≡
    concluded site.slots site.params (record_of site Kind.Fixed p Bottom [] None) (fixed_forms site p)
unfolding fixed_of
fixed-is site p = refl

pub ensures-is : (site : Site) (p q : CForm) (h : Helper) → ensures_of site p q h ≡
    needs (is_helper site h) Code.NoSuchStatement
    (concluded site.slots site.params (record_of site Kind.Ensures p q [] (Some h))
    (unless_forms site p q ++ helper_forms site p q h))
unfolding ensures_of
ensures-is site p q h = refl

pub weaken-is : (site : Site) (a : Record) (q : CForm) → weaken_of site a q ≡
    needs (is_unless a.kind || is_ensures a.kind) Code.WrongKind
    (concluded site.slots site.params (record_of site a.kind a.p q a.under a.helper)
    (imply (site.using ++ (a.q ∷ [])) q ∷ []))
unfolding weaken_of
weaken-is site a q = refl

pub conj-is : (site : Site) (a b : Record) → pair_of site RuleName.Conj a b ≡
    needs (is_unless a.kind && (is_unless b.kind || is_ensures b.kind)) Code.WrongKind
    (paired site b.kind b.helper (and_form a.p b.p) (ends_of_both a.p a.q b.p b.q) a b)
unfolding pair_of
conj-is site a b = refl

pub simpleconj-is : (site : Site) (a b : Record) → pair_of site RuleName.Simpleconj a b ≡
    needs (is_unless a.kind && is_unless b.kind) Code.WrongKind
    (paired site Kind.Unless None (and_form a.p b.p) (or_form a.q b.q) a b)
unfolding pair_of
simpleconj-is site a b = refl

pub disj-is : (site : Site) (a b : Record) → pair_of site RuleName.Disj a b ≡
    needs (is_unless a.kind && is_unless b.kind) Code.WrongKind
    (paired site Kind.Unless None (or_form a.p b.p) (ends_of_either a.p a.q b.p b.q) a b)
unfolding pair_of
disj-is site a b = refl

pub simpledisj-is : (site : Site) (a b : Record) → pair_of site RuleName.Simpledisj a b ≡
    needs (is_unless a.kind && is_unless b.kind) Code.WrongKind
    (paired site Kind.Unless None (or_form a.p b.p) (or_form a.q b.q) a b)
unfolding pair_of
simpledisj-is site a b = refl

pub cancel-is : (site : Site) (a b : Record) → pair_of site RuleName.Cancel a b ≡
    needs (is_unless a.kind && is_unless b.kind) Code.WrongKind
    (needs (same_form a.q b.p) Code.MiddleDiffers (paired site Kind.Unless None (or_form a.p a.q) b.q a b))
unfolding pair_of
cancel-is site a b = refl

pub complete-is : (site : Site) (a b c d : Record) → complete_of site a b c d ≡
    derived site ((is_leadsto a.kind && is_unless b.kind) && (is_leadsto c.kind && is_unless d.kind))
    (same_form b.q d.q && (same_form a.q (or_form b.p b.q) && same_form c.q (or_form d.p d.q))) Kind.Leadsto
    (and_form a.p c.p) (or_form (and_form b.p d.p) b.q) ((a.under ++ b.under) ++ (c.under ++ d.under))
    (max a.bound c.bound)
unfolding complete_of
complete-is site a b c d = refl

pub lead_cancel-is : (site : Site) (a b : Record) → lead_cancel_of site a b ≡
    derived site (is_leadsto a.kind && is_leadsto b.kind) (ends_on (out-CForm a.q) b.p) Kind.Leadsto a.p
    (or_form (first_side (out-CForm a.q)) b.q) (a.under ++ b.under) (a.bound + b.bound)
unfolding lead_cancel_of
lead_cancel-is site a b = refl

pub until-is : (site : Site) (a b : Record) → until_of site a b ≡
    derived site (is_unless a.kind && is_leadsto b.kind) (same_form a.p b.p && same_form a.q b.q) Kind.Until a.p a.q
    (a.under ++ b.under) b.bound
unfolding until_of
until-is site a b = refl

pub detects-is : (site : Site) (a b : Record) → detects_of site a b ≡
    derived site (is_invariant a.kind && is_leadsto b.kind) (same_form a.p (or_form (not_form b.q) b.p)) Kind.Detects
    b.q b.p (a.under ++ b.under) b.bound
unfolding detects_of
detects-is site a b = refl

pub constant-is : (site : Site) (a b : Record) → constant_of site a b ≡
    derived site (is_unless a.kind && is_unless b.kind)
    (same_form b.p (not_form a.p) && (same_form a.q Bottom && same_form b.q Bottom)) Kind.Constant a.p Bottom
    (a.under ++ b.under) 0
unfolding constant_of
constant-is site a b = refl

pub superpose-is : (site : Site) (f : CProgram) (a : Record) → superpose_of site f a ≡
    needs (not (nat_eq a.program site.program.name)) Code.OtherProgram
    (needs (is_carried a.kind) Code.WrongKind
    (needs (is_layer site.program f) Code.NotALayer
    (needs (names_old site.program f a) Code.NamesNewVariable
    (concluded site.slots site.params (record_over site f a) (starts_below site f ∷ [])))))
unfolding superpose_of
superpose-is site f a = refl

pub instance-is : (site : Site) (ranges : List Range) (a : Record) (args : List Arg) → instance_of site ranges a args
    ≡
    needs (not (list_any is_slot args)) Code.ParamEscapes
    (needs (are_arguments ranges a.params args) Code.BadArgument
    (needs (fits site.slots ranges (form_at args a.p) && fits site.slots ranges (form_at args a.q))
    Code.FormulaTooLarge
    (Ok (record_with site a args))))
unfolding instance_of
instance-is site ranges a args = refl

pub derive-is : (site : Site) (t : PTerm) (book : List Record) → derive_of site t book ≡
    go_on (term_of site (all_ranges site t) book t) (λ l.
    concluded site.slots (all_ranges site t) (leads_record site l) l.forms)
unfolding derive_of
derive-is site t book = refl

-- proof terms, a node each

module _ (site : Site) (ranges : List Range) (book : List Record) where
  abbrev asked : PTerm → Ask
  asked = term_of site ranges book

  pub term-Imply : (p q : CForm) → term_of site ranges book (Imply p q) ≡ node site ranges (leads_by site.using p q)
  term-Imply p q =
      ap asked (sym (rolls-Imply p q))
      ∙ fold-roll-PTerm Ask (term_step site ranges book) (PTerm-F.Imply p q)

  pub term-From : (r : Ref) → term_of site ranges book (From r) ≡
      go_on (referred site ranges book leads r) (λ a. node site ranges (leads_from a))
  term-From r =
      ap asked (sym (rolls-From r))
      ∙ fold-roll-PTerm Ask (term_step site ranges book) (PTerm-F.From r)

  pub term-Trans : (t u : PTerm) → term_of site ranges book (Trans t u) ≡
      go_on (asked t) (λ a. go_on (asked u) (λ b.
      needs (same_form a.q b.p) Code.MiddleDiffers (node site ranges (leads_on a b))))
  term-Trans t u =
      ap asked (sym (rolls-Trans t u))
      ∙ fold-roll-PTerm Ask (term_step site ranges book) (PTerm-F.Trans t u)

  pub term-Either : (t u : PTerm) → term_of site ranges book (Either t u) ≡
      go_on (asked t) (λ a. go_on (asked u) (λ b.
      needs (same_form a.q b.q) Code.MiddleDiffers (node site ranges (leads_either a b))))
  term-Either t u =
      ap asked (sym (rolls-Either t u))
      ∙ fold-roll-PTerm Ask (term_step site ranges book) (PTerm-F.Either t u)

  pub term-Exists : (m : ℕ) (range : Range) (t : PTerm) → term_of site ranges book (Exists m range t) ≡
      go_on (asked t) (λ a.
      needs (not (names_param m a.q)) Code.ParamEscapes (node site ranges (leads_any ranges m range a)))
  term-Exists m range t =
      ap asked (sym (rolls-Exists m range t))
      ∙ fold-roll-PTerm Ask (term_step site ranges book) (PTerm-F.Exists m range t)

  pub term-Induct : (m : ℕ) (range : Range) (measure : CTerm) (p q : CForm) (t : PTerm) →
      term_of site ranges book (Induct m range measure p q t) ≡
      go_on (asked t) (λ a.
      needs (same_form a.p (at_measure measure m p) && same_form a.q (below_measure measure m p q)) Code.MiddleDiffers
      (node site ranges (leads_down site.using range measure p q a)))
  term-Induct m range measure p q t =
      ap asked (sym (rolls-Induct m range measure p q t))
      ∙ fold-roll-PTerm Ask (term_step site ranges book) (PTerm-F.Induct m range measure p q t)

  pub term-Psp : (t : PTerm) (r : Ref) → term_of site ranges book (Psp t r) ≡
      go_on (asked t) (λ a. go_on (referred site ranges book is_unless r) (λ b. node site ranges (leads_safely a b)))
  term-Psp t r =
      ap asked (sym (rolls-Psp t r))
      ∙ fold-roll-PTerm Ask (term_step site ranges book) (PTerm-F.Psp t r)

  pub term-Weaken : (p q : CForm) (t : PTerm) → term_of site ranges book (Weaken p q t) ≡
      go_on (asked t) (λ a. node site ranges (leads_weaker site.using p q a))
  term-Weaken p q t =
      ap asked (sym (rolls-Weaken p q t))
      ∙ fold-roll-PTerm Ask (term_step site ranges book) (PTerm-F.Weaken p q t)
