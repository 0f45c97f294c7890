-- The records that references name, with arguments for their parameters, fit where the references stand.
use Rattle.std.proofs.Common.{◌≡◌, ℕ, nat_eq, nat_le, ◌≤◌, ◌^◌, Bool, true, not, ◌&&◌, List, Ok}
use Rattle.std.proofs.Common.{[], IsTrue, refl, sym, ◌∙◌, subst, arith}
use Rattle.std.specs.Prelude.{All}
use Rattle.std.specs.List.{find, list_any}
use Rattle.case_tables.specs.declared.kind_table.Kind.{Kind}
use Rattle.case_tables.specs.declared.code_table.Code.{Code}
use Rattle.core_terms.specs.declared.trees.Range.{Range}
use Rattle.core_terms.specs.declared.trees.CForm.{CForm}
use Rattle.core_terms.specs.declared.programs.CSlot.{CSlot}
use Rattle.core_terms.specs.declared.documents.Arg.{Arg}
use Rattle.core_terms.specs.declared.documents.Ref.{Ref}
use Rattle.core_terms.specs.Conditions.{FormFits, IsRange}
use Rattle.core_terms.specs.Replacing.{form_at}
use Rattle.core_terms.specs.Sizes.{form_nodes}
use Rattle.core_terms.specs.Weights.{form_weight, slot_weight, place_weight}
use Rattle.meaning_states.proofs.StepTheorems.{and_left, and_right}
use Rattle.fair_rounds.specs.declared.records.Record.{Record}
use Rattle.safety_rules.specs.from_rules_table.Limits.{fits}
use Rattle.safety_rules.specs.from_rules_table.Table.{Site, needs, is_slot, are_arguments, record_with, instance_of}
use Rattle.safety_rules.specs.from_rules_table.Terms.{found, referred}
use Rattle.safety_rules.specs.from_rules_table.Walk.{other_record}
use Rattle.safety_rules.proofs.lemmas_from_rules_table.CalcSound.{instance_is as instance_made}
use Rattle.safety_rules.proofs.lemmas_from_rules_table.EachLaws.{Each, from_all}
use Rattle.safety_rules.proofs.lemmas_from_rules_table.LayerLaws.{other_given}
use Rattle.safety_rules.proofs.lemmas_from_rules_table.RowEquations.{instance-is}
use Rattle.safety_rules.proofs.lemmas_from_rules_table.SiteLaws.{met, went_on}
use Rattle.safety_rules.specs.Instances.{CanPut, HelperFits}
use Rattle.safety_rules.proofs.InstanceLaws.{can_put}
use Rattle.rules_steps.specs.Using.{IsEntry, BookFits}
use Rattle.rules_steps.proofs.HelperLaws.{helper_fits}
use Rattle.rules_steps.proofs.UsingLaws.{found_entry, known_so}

-- a record that a reference names
pub record IsReferred (site : Site) (ranges : List Range) (serves : Kind → Bool) (a : Record) : Type 0 where
  pub params : a.params ≡ site.params
  pub p : FormFits site.slots ranges a.p
  pub q : FormFits site.slots ranges a.q
  pub under : Each (FormFits site.slots []) a.under
  pub helper : HelperFits ranges a.helper
  pub kind : serves a.kind ≡ true

put_fits : (slots : List CSlot) (ranges : List Range) (args : List Arg) (f : CForm) → CanPut slots ranges args f →
    IsTrue (fits slots ranges (form_at args f)) → FormFits slots ranges (form_at args f)
put_fits slots ranges args f can small = record {
  slots_exist = can.names.slots_exist;
  params_exist = can.names.params_exist;
  weight = le_is (form_weight (slot_weight slots) (place_weight ranges) (form_at args f)) (2 ^ 62)
      (and_right (nat_le (form_nodes (form_at args f)) 65536) _ small);
}
  where
    le_is : (a b : ℕ) → nat_le a b ≡ true → a ≤ b
    le_is a b h = grind arith

instance_is : (site : Site) (ranges : List Range) (serves : Kind → Bool) (b a : Record) (args : List Arg) →
    IsEntry site.slots b → All IsRange ranges → serves b.kind ≡ true → instance_of site ranges b args ≡ Ok a →
    IsReferred site ranges serves a
instance_is site ranges serves b a args entry all served e =
    let names = met (not (list_any is_slot args)) Code.ParamEscapes _ a
    (sym (instance-is site ranges b args) ∙ e) in
    let args_fit = met (are_arguments ranges b.params args) Code.BadArgument _ a names.1 in
    let small = met
    (fits site.slots ranges (form_at args b.p) && fits site.slots ranges (form_at args b.q))
    Code.FormulaTooLarge (Ok (record_with site b args)) a args_fit.1 in
    let same : record_with site b args ≡ a = cc (small.1) in
    let made : Record = record_with site b args in
    subst (λ (r : Record). IsReferred site ranges serves r) same (record {
      params = refl;
      p = put_fits site.slots ranges args b.p
          (can_put site.slots ranges b.params args b.p all entry.parts.params entry.parts.p args_fit.0)
          (and_left (fits site.slots ranges (form_at args b.p))
          (fits site.slots ranges (form_at args b.q)) small.0);
      q = put_fits site.slots ranges args b.q
          (can_put site.slots ranges b.params args b.q all entry.parts.params entry.parts.q args_fit.0)
          (and_right (fits site.slots ranges (form_at args b.p))
          (fits site.slots ranges (form_at args b.q)) small.0);
      under = from_all (FormFits site.slots []) b.under entry.parts.under;
      helper = helper_fits ranges b.params args b.helper all args_fit.0 entry.parts.helper;
      kind = served;
    })

pub instance_row_is : (site : Site) (ranges : List Range) (mine : Bool) (serves : Kind → Bool) (b a : Record)
    (args : List Arg) → IsEntry site.slots b → All IsRange ranges → needs mine Code.OtherProgram
    (needs (serves b.kind) Code.WrongKind (instance_of site ranges b args)) ≡ Ok a → IsReferred site ranges serves a
instance_row_is site ranges mine serves b a args entry all e =
    let one = met mine Code.OtherProgram
    (needs (serves b.kind) Code.WrongKind (instance_of site ranges b args)) a e in
    let served = met (serves b.kind) Code.WrongKind (instance_of site ranges b args) a one.1 in
    instance_is site ranges serves b a args entry all served.0 served.1

pub referred_is : (site : Site) (ranges : List Range) (serves : Kind → Bool) (book : List Record) (r : Ref) (a :
    Record) →
    BookFits site.slots book → All IsRange ranges → referred site ranges book serves r ≡ Ok a →
    IsReferred site ranges serves a
referred_is site ranges serves book r a fit all e =
    let there = went_on (found book r) (λ (b : Record).
    needs (nat_eq b.program site.program.name) Code.OtherProgram (
    needs (serves b.kind) Code.WrongKind (instance_of site ranges b r.args))) a e in
    instance_row_is site ranges (nat_eq there.0.program site.program.name) serves there.0 a r.args
    (found_entry site.slots book r.program r.step there.0 fit
    (known_so (find (λ (d : Record). nat_eq d.program r.program && nat_eq d.name r.step) book) there.0 there.1))
    all there.2

-- the record of another program that a reference names
pub other_is : (site : Site) (serves : Kind → Bool) (book : List Record) (r : Ref) (a : Record) →
    BookFits site.slots book → All IsRange site.params → other_record site book serves r ≡ Ok a →
    IsReferred site site.params serves a
other_is site serves book r a fit all e =
    let other = other_given site book serves r a e in
    let b : Record = other.a in
    let is = instance_made site site.params b r.args a other.gives in
    instance_is site site.params serves b a r.args
    (found_entry site.slots book r.program r.step b fit
    (known_so (find (λ (d : Record). nat_eq d.program r.program && nat_eq d.name r.step) book) b other.there))
    all (subst (λ (m : Record). serves m.kind ≡ true) (sym is.1) other.serving) other.gives
