-- Records that references name fit where the references stand.
use Rattle.std.proofs.Common.{◌≡◌, nat_eq, nat_le, ◌^◌, Bool, true, false, not}
use Rattle.std.proofs.Common.{◌&&◌, List, [], ◌∷◌, Option, Some, None, cond}
use Rattle.std.proofs.Common.{IsTrue, Result, Ok, refl, sym, subst, ◌∙◌}
use Rattle.std.specs.Prelude.{All}
use Rattle.std.specs.List.{find, list_any}
use Rattle.std.proofs.lemmas.Bool.{leb-true}
use Rattle.std.proofs.lemmas.List.Elements.{All-head, All-tail}
use Rattle.meaning_states.proofs.StepTheorems.{and_left, and_right}
use Rattle.case_tables.specs.declared.code_table.Code.{Code}
use Rattle.core_terms.specs.Conditions.{FormFits, IsRange}
use Rattle.core_terms.specs.Replacing.{form_at}
use Rattle.core_terms.specs.Sizes.{form_nodes}
use Rattle.core_terms.specs.Weights.{form_weight, slot_weight, place_weight}
use Rattle.core_terms.specs.declared.documents.Arg.{Arg}
use Rattle.core_terms.specs.declared.documents.Ref.{Ref}
use Rattle.core_terms.specs.declared.programs.CSlot.{CSlot}
use Rattle.core_terms.specs.declared.trees.CForm.{CForm}
use Rattle.core_terms.specs.declared.trees.Range.{Range}
use Rattle.fair_rounds.specs.declared.records.Record.{Record}
use Rattle.rules_table.specs.Limits.{fits}
use Rattle.rules_table.specs.Table.{Site, needs, instance_of, is_slot, are_arguments, record_with}
use Rattle.rules_table.specs.Terms.{known, found}
use Rattle.rules_table.proofs.CalcSound.{instance_is}
use Rattle.rules_table.proofs.RowEquations.{instance-is}
use Rattle.rules_table.proofs.SiteLaws.{met}
use Rattle.safety_rules.specs.Instances.{RecordFits}
use Rattle.safety_rules.specs.Usable.{NamesExist}
use Rattle.safety_rules.proofs.InstanceLaws.{can_put}
use Rattle.leadsto_rules.specs.References.{names_step, serves, FitsIn}
use Rattle.leadsto_rules.specs.declared.references.Purpose.{Purpose}

pub form_fits : (slots : List CSlot) (ranges : List Range) (f : CForm) → IsTrue (fits slots ranges f) →
    NamesExist slots ranges f → FormFits slots ranges f
form_fits slots ranges f small names = record {
  slots_exist = names.slots_exist;
  params_exist = names.params_exist;
  weight = leb-true (form_weight (slot_weight slots) (place_weight ranges) f) (2 ^ 62)
      (and_right (nat_le (form_nodes f) 65536)
      (nat_le (form_weight (slot_weight slots) (place_weight ranges) f) (2 ^ 62)) small);
}

-- a record that is found is one of the list
find_step : {X : Type 0} (P : X → Type 0) (test : X → Bool) (y : X) (xs : List X) (x : X) (b : Bool) → P y →
    (find test xs ≡ Some x → P x) → cond b (Some y) (find test xs) ≡ Some x → P x
find_step P test y xs x true h rest e = subst P (some_same y x e) h
  where
    some_same : {X : Type 0} (y x : X) → Some y ≡ Some x → y ≡ x
    some_same y x e = cc
find_step P test y xs x false h rest e = rest e

find_has : {X : Type 0} (P : X → Type 0) (test : X → Bool) (xs : List X) (x : X) → All P xs →
    find test xs ≡ Some x → P x
find_has P test [] x all e = cc
find_has P test (y ∷ xs) x all e =
    find_step P test y xs x (test y) (All-head P y xs all)
    (λ h. find_has P test xs x (All-tail P y xs all) h) e

pub found_has : (P : Record → Type 0) (book : List Record) (r : Ref) (a : Record) → All P book →
    known (Some a) ≡ found book r → P a
found_has P book r a all e = go (find (names_step r) book) refl e
  where
    go : (o : Option Record) → find (names_step r) book ≡ o → known (Some a) ≡ known o → P a
    go None is same = cc
    go (Some b) is same = subst P (sym (known_same a b same)) (find_has P (names_step r) book b all is)
      where
        known_same : (x y : Record) → known (Some x) ≡ known (Some y) → x ≡ y
        known_same x y e = cc

instance_small : (site : Site) (ranges : List Range) (a : Record) (args : List Arg) (r : Record) →
    instance_of site ranges a args ≡ Ok r →
    IsTrue (fits site.slots ranges (form_at args a.p) && fits site.slots ranges (form_at args a.q))
instance_small site ranges a args r e =
    let small : Bool = fits site.slots ranges (form_at args a.p) && fits site.slots ranges (form_at args a.q) in
    let end : Result Record Code = Ok (record_with site a args) in
    let one = met (not (list_any is_slot args)) Code.ParamEscapes
    (needs (are_arguments ranges a.params args) Code.BadArgument (needs small Code.FormulaTooLarge end)) r
    (sym (instance-is site ranges a args) ∙ e) in
    let two = met (are_arguments ranges a.params args) Code.BadArgument (needs small Code.FormulaTooLarge end) r one.1
    in
    (met small Code.FormulaTooLarge end r two.1).0

instance_fits : (site : Site) (ranges : List Range) (a : Record) (args : List Arg) → All IsRange ranges →
    RecordFits site.slots a → (r : Record) → instance_of site ranges a args ≡ Ok r → FitsIn site.slots ranges r
instance_fits site ranges a args all fit r e =
    let is = instance_is site ranges a args r e in
    let small = instance_small site ranges a args r e in
    let p : CForm = form_at args a.p in
    let q : CForm = form_at args a.q in
    let made : FitsIn site.slots ranges (record_with site a args) = record {
      p = form_fits site.slots ranges p (and_left (fits site.slots ranges p) (fits site.slots ranges q) small)
          (can_put site.slots ranges a.params args a.p all fit.params fit.p is.0).names;
      q = form_fits site.slots ranges q (and_right (fits site.slots ranges p) (fits site.slots ranges q) small)
          (can_put site.slots ranges a.params args a.q all fit.params fit.q is.0).names;
      under = fit.under;
    } in
    subst (λ (x : Record). FitsIn site.slots ranges x) is.1 made

-- what a reference gives, once its record is found
abbrev pub instance_row : Site → List Range → Purpose → List Arg → Record → Result Record Code
instance_row site ranges purpose args a =
    needs (nat_eq a.program site.program.name) Code.OtherProgram
    (needs (serves purpose a.kind) Code.WrongKind (instance_of site ranges a args))

pub row_fits : (site : Site) (ranges : List Range) (purpose : Purpose) (args : List Arg) (a : Record) →
    All IsRange ranges → RecordFits site.slots a → (r : Record) →
    instance_row site ranges purpose args a ≡ Ok r → FitsIn site.slots ranges r
row_fits site ranges purpose args a all fit r e =
    let rest : Result Record Code = instance_of site ranges a args in
    let one = met (nat_eq a.program site.program.name) Code.OtherProgram
    (needs (serves purpose a.kind) Code.WrongKind rest) r e in
    let two = met (serves purpose a.kind) Code.WrongKind rest r one.1 in
    instance_fits site ranges a args all fit r two.1
