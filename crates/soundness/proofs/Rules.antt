-- The record that a step gets has the step's names, its claim and its parameters.
use Rattle.std.proofs.Common.{◌≡◌, List, [], ◌∷◌, ◌++◌, Bool, ◌&&◌, ◌||◌, Option, Some, None, Result}
use Rattle.std.proofs.Common.{Ok, IsTrue, refl, sym, ap, ◌∙◌, subst, nat_eq}
use Rattle.case_tables.specs.declared.kind_table.Kind.{Kind}
use Rattle.case_tables.specs.declared.rule_table.RuleName.{RuleName}
use Rattle.case_tables.specs.declared.code_table.Code.{Code}
use Rattle.meaning_states.proofs.StepTheorems.{and_left, and_right}
use Rattle.core_terms.specs.declared.trees.Range.{Range}
use Rattle.core_terms.specs.declared.trees.CForm.{CForm}
use Rattle.core_terms.specs.declared.trees.CForm.TheVariants.{Top, Bottom}
use Rattle.core_terms.specs.declared.programs.CSlot.{CSlot}
use Rattle.core_terms.specs.declared.programs.CProgram.{CProgram}
use Rattle.core_terms.specs.declared.documents.Helper.{Helper}
use Rattle.core_terms.specs.declared.documents.Ref.{Ref}
use Rattle.core_terms.specs.declared.documents.PTerm.{PTerm, out-PTerm}
use Rattle.core_terms.specs.declared.documents.PTerm.TheOpen.{PTerm-F}
use Rattle.core_terms.specs.declared.documents.CRule.{CRule}
use Rattle.core_terms.specs.declared.documents.CStep.{CStep}
use Rattle.core_terms.specs.Trees.{same_form}
use Rattle.core_terms.proofs.SameLaws.{same_form_is}
use Rattle.fair_rounds.specs.declared.records.Record.{Record}
use Rattle.rules_table.specs.declared.led.Led.{Led}
use Rattle.rules_table.specs.Conclusion.{Conclusion}
use Rattle.rules_table.specs.Forms.{imply}
use Rattle.rules_table.specs.Table.{Site, needs, go_on, record_of, concluded, claims_defined, is_invariant, is_unless}
use Rattle.rules_table.specs.Table.{is_ensures, defined_forms, defined_of, invariant_forms, invariant_of, unless_forms}
use Rattle.rules_table.specs.Table.{unless_of, is_helper, helper_forms, ensures_of, weaken_of}
use Rattle.rules_table.specs.Further.{complete_of, pair_by}
use Rattle.rules_table.specs.Table.{pair_kinds, shown_forms, first_helper, ending, is_part_pair}
use Rattle.rules_table.specs.Table.{union_defined_of, union_invariant_of, union_unless_of, union_ensures_of}
use Rattle.rules_table.specs.Table.{instance_of, fixed_forms, fixed_of}
use Rattle.rules_table.specs.Layers.{starts_below, record_over, superpose_of}
use Rattle.rules_table.specs.Terms.{found, referred, term_of, all_ranges, leads_record, derive_of}
use Rattle.rules_table.specs.Walk.{Around, is_kind, is_first, has_defined, used, suits_term, suits}
use Rattle.rules_table.specs.Walk.{text_of}
use Rattle.rules_table.specs.Walk.{same_again, again_of, proof_of, part_record, first_part, second_part, serves_union}
use Rattle.rules_table.specs.Walk.{serves_after, united, applied, claims, step_site, rule_of}
use Rattle.rules_table.proofs.SiteLaws.{met, went_on, concluded_is}
use Rattle.rules_table.proofs.KindLaws.{ensures_is, leadsto_is, same_kind}
use Rattle.rules_table.proofs.PairLaws.{given_kind, given_helper, of_two, of_pair_by, given_kind_is, four_given}
use Rattle.rules_table.proofs.PairLaws.{no_defined}
use Rattle.rules_table.proofs.CalcSound.{instance_is}
use Rattle.rules_table.proofs.LayerLaws.{row_met, other_given, layer_given}
use Rattle.soundness.specs.PlanSteps.{of_program, IsRecordOf}

-- a step of a program, at any place of a proof
module _ (seen : Around) (c : CProgram) (step : CStep) (book : List Record) (using : List CForm) where
  abbrev slots : List CSlot
  slots = seen.slots

  abbrev site : Site
  site = step_site slots c step using

  -- a record has the names and the parameters of the step, and this kind
  record Fits (kind : Kind) (r : Record) : Type 0 where
    name : r.name ≡ step.name
    program : r.program ≡ c.name
    kind_is : r.kind ≡ kind
    params : r.params ≡ step.params

  -- so has that of an answer, if there is one
  abbrev Gives : Kind → Result Conclusion Code → Type 0
  Gives kind answer = (y : Conclusion) → answer ≡ Ok y → Fits kind y.made

  end_gives : (kind : Kind) (ranges : List Range) (made : Record) (forms : List CForm) → Fits kind made →
      Gives kind (concluded slots ranges made forms)
  end_gives kind ranges made forms fits y e =
      subst (λ (z : Conclusion). Fits kind z.made) (sym (concluded_is slots ranges made forms y e)) fits

  need_gives : (kind : Kind) (b : Bool) (code : Code) (rest : Result Conclusion Code) → Gives kind rest →
      Gives kind (needs b code rest)
  need_gives kind b code rest gives y e = gives y (met b code rest y e).1

  made_fits : (kind : Kind) (p q : CForm) (more : List CForm) (helper : Option Helper) →
      Fits kind (record_of site kind p q more helper)
  made_fits kind p q more helper = record { name = refl; program = refl; kind_is = refl; params = refl }

  -- a record in the table's form
  made_gives : (kind : Kind) (p q : CForm) (more : List CForm) (helper : Option Helper) (forms : List CForm) →
      Gives kind (concluded slots step.params (record_of site kind p q more helper) forms)
  made_gives kind p q more helper forms =
      end_gives kind step.params (record_of site kind p q more helper) forms (made_fits kind p q more helper)

  text_gives : (k : Kind) → Gives k (text_of seen.starts site step k)
  unfolding defined_of invariant_of unless_of fixed_of
  text_gives Kind.Defined =
      need_gives Kind.Defined (seen.starts c) Code.NoStart _ (made_gives Kind.Defined Top Top [] None
      (defined_forms site))
  text_gives Kind.Invariant = made_gives Kind.Invariant step.p Bottom [] None (invariant_forms site step.p)
  text_gives Kind.Unless = made_gives Kind.Unless step.p step.q [] None (unless_forms site step.p step.q)
  text_gives Kind.Fixed = made_gives Kind.Fixed step.p Bottom [] None (fixed_forms site step.p)
  text_gives _ = λ y e. cc

  ensures_gives : (h : Helper) → Gives Kind.Ensures (ensures_of site step.p step.q h)
  unfolding ensures_of
  ensures_gives h =
      need_gives Kind.Ensures (is_helper site h) Code.NoSuchStatement _
      (made_gives Kind.Ensures step.p step.q [] (Some h)
      (unless_forms site step.p step.q ++ helper_forms site step.p step.q h))

  weaken_gives : (a : Record) → Gives a.kind (weaken_of site a step.q)
  unfolding weaken_of
  weaken_gives a =
      need_gives a.kind (is_unless a.kind || is_ensures a.kind) Code.WrongKind _
      (made_gives a.kind a.p step.q a.under a.helper (imply (using ++ (a.q ∷ [])) step.q ∷ []))

  pair_gives : (claimed : Kind) (which : RuleName) (a b : Record) →
      Gives (given_kind claimed which b.kind) (pair_by site claimed which a b)
  pair_gives claimed which a b =
      let kind : Kind = given_kind claimed which b.kind in
      let helper : Option Helper = given_helper claimed which b.helper in
      of_pair_by (Gives kind) site a b claimed which (λ code y e. cc) (need_gives kind)
      (λ p q bound. end_gives kind step.params (of_two site kind helper p q bound a b) []
      (record { name = refl; program = refl; kind_is = refl; params = refl }))

  complete_gives : (a b d f : Record) → Gives Kind.Leadsto (complete_of site a b d f)
  unfolding complete_of
  complete_gives a b d f =
      need_gives Kind.Leadsto _ Code.WrongKind _ (need_gives Kind.Leadsto _ Code.MiddleDiffers _
      (need_gives Kind.Leadsto _ Code.BoundTooLarge _ (end_gives Kind.Leadsto step.params _ []
      (record { name = refl; program = refl; kind_is = refl; params = refl }))))

  -- a reference gives a record of a kind that serves
  referred_serves : (serves : Kind → Bool) (r : Ref) (b : Record) →
      referred site step.params book serves r ≡ Ok b → IsTrue (serves b.kind)
  referred_serves serves r b e =
      let one = went_on (found book r) (λ a. needs (nat_eq a.program c.name) Code.OtherProgram
      (needs (serves a.kind) Code.WrongKind (instance_of site step.params a r.args))) b e in
      let a : Record = one.0 in
      let two = met (nat_eq a.program c.name) Code.OtherProgram
      (needs (serves a.kind) Code.WrongKind (instance_of site step.params a r.args)) b one.2 in
      let three = met (serves a.kind) Code.WrongKind (instance_of site step.params a r.args) b two.1 in
      let is = instance_is site step.params a r.args b three.1 in
      subst (λ (m : Record). IsTrue (serves m.kind)) is.1 three.0

  superpose_gives : (f : CProgram) (a : Record) → Gives a.kind (superpose_of site f a)
  superpose_gives f a y e =
      end_gives a.kind step.params (record_over site f a) (starts_below site f ∷ [])
      (record { name = refl; program = refl; kind_is = refl; params = refl }) y (row_met site f a y e).gives

  -- a record of the claimed kind, by which the kind of an answer is told
  referred_gives : (r : Ref) (f : Record → Result Conclusion Code) → ((a : Record) → Gives a.kind (f a)) →
      Gives step.kind (go_on (referred site step.params book (is_kind step.kind) r) f)
  referred_gives r f gives y e =
      let one = went_on (referred site step.params book (is_kind step.kind) r) f y e in
      let a : Record = one.0 in
      subst (λ k. Fits k y.made)
      (same_kind step.kind a.kind (referred_serves (is_kind step.kind) r a one.1)) (gives a y one.2)

  again_gives : (t : PTerm-F PTerm) → Gives step.kind (again_of site step book t)
  again_gives (PTerm-F.From r) =
      referred_gives r (same_again site) (λ a. made_gives a.kind a.p a.q a.under a.helper [])
  again_gives _ = λ y e. cc

  derive_gives : (t : PTerm) → Gives Kind.Leadsto (derive_of site t book)
  unfolding derive_of
  derive_gives t y e =
      let part = went_on (term_of site (all_ranges site t) book t)
      (λ l. concluded slots (all_ranges site t) (leads_record site l) l.forms) y e in
      let l : Led = part.0 in
      end_gives Kind.Leadsto (all_ranges site t) (leads_record site l) l.forms
      (record { name = refl; program = refl; kind_is = refl; params = refl }) y part.2

  proof_gives : (t : PTerm) (k : Kind) → step.kind ≡ k → Gives step.kind (proof_of site step book k t)
  proof_gives t Kind.Leadsto same = λ y e. subst (λ k. Fits k y.made) (sym same) (derive_gives t y e)
  proof_gives t _ same = again_gives (out-PTerm t)

  united_gives : (a b : Record) (k : Kind) → Gives k (united seen.starts site k a b)
  unfolding union_defined_of union_invariant_of union_unless_of union_ensures_of
  united_gives a b Kind.Defined =
      need_gives Kind.Defined (is_part_pair site a b) Code.OtherProgram _
      (need_gives Kind.Defined (claims_defined a.kind && claims_defined b.kind) Code.WrongKind _
      (need_gives Kind.Defined (seen.starts c) Code.NoStart _
      (made_gives Kind.Defined Top Top (a.under ++ b.under) None (shown_forms site a b))))
  united_gives a b Kind.Invariant =
      need_gives Kind.Invariant (is_part_pair site a b) Code.OtherProgram _
      (need_gives Kind.Invariant
      ((is_invariant a.kind && is_unless b.kind) || (is_unless a.kind && is_invariant b.kind)) Code.WrongKind _
      (need_gives Kind.Invariant (same_form a.p b.p && same_form (ending a b) Bottom) Code.MiddleDiffers _
      (made_gives Kind.Invariant a.p Bottom (a.under ++ b.under) None (shown_forms site a b))))
  united_gives a b Kind.Unless =
      need_gives Kind.Unless (is_part_pair site a b) Code.OtherProgram _
      (need_gives Kind.Unless (is_unless a.kind && is_unless b.kind) Code.WrongKind _
      (need_gives Kind.Unless (same_form a.p b.p && same_form a.q b.q) Code.MiddleDiffers _
      (made_gives Kind.Unless a.p a.q (a.under ++ b.under) None (shown_forms site a b))))
  united_gives a b Kind.Ensures =
      need_gives Kind.Ensures (is_part_pair site a b) Code.OtherProgram _
      (need_gives Kind.Ensures
      ((is_ensures a.kind && is_unless b.kind) || (is_unless a.kind && is_ensures b.kind)) Code.WrongKind _
      (need_gives Kind.Ensures (same_form a.p b.p && same_form a.q b.q) Code.MiddleDiffers _
      (made_gives Kind.Ensures a.p a.q (a.under ++ b.under) (first_helper a b) (shown_forms site a b))))
  united_gives a b _ = λ y e. cc

  -- the records of both parts of a union, and what they give
  parts_give : (r s : Ref) (y : Conclusion) → applied seen site step book (CRule.Union r s) ≡ Ok y →
      (a b : Record) × (united seen.starts site step.kind a b ≡ Ok y)
  parts_give r s y e =
      let one = went_on (part_record site book (first_part c.parts) (serves_union step.kind) r) (λ a.
      go_on (part_record site book (second_part c.parts) (serves_after step.kind a.kind) s) (λ b.
      united seen.starts site step.kind a b)) y e in
      let two = went_on (part_record site book (second_part c.parts) (serves_after step.kind one.0.kind) s) (λ b.
      united seen.starts site step.kind one.0 b) y one.2 in
      (one.0, two.0, two.2)

  applied_gives : (rule : CRule) → IsTrue (suits seen.version rule step.kind) →
      Gives step.kind (applied seen site step book rule)
  applied_gives CRule.Text suited = text_gives step.kind
  applied_gives (CRule.TextWith h) suited = λ y e.
      subst (λ k. Fits k y.made) (sym (ensures_is step.kind suited)) (ensures_gives h y e)
  applied_gives (CRule.WeakenStep r) suited = referred_gives r (λ a. weaken_of site a step.q) weaken_gives
  applied_gives (CRule.Pair which r s) suited = λ y e.
      let kinds : Kind × Kind = pair_kinds which step.kind in
      let one = went_on (referred site step.params book (is_kind kinds.0) r) (λ a.
      go_on (referred site step.params book (is_kind kinds.1) s) (λ b. pair_by site step.kind which a b)) y e in
      let two = went_on (referred site step.params book (is_kind kinds.1) s)
      (λ b. pair_by site step.kind which one.0 b) y one.2 in
      subst (λ k. Fits k y.made)
      (given_kind_is seen.version which two.0.kind step.kind (referred_serves (is_kind kinds.1) s two.0 two.1) suited)
      (pair_gives step.kind which one.0 two.0 y two.2)
  applied_gives (CRule.Union r s) suited = λ y e.
      let parts = parts_give r s y e in united_gives parts.0 parts.1 step.kind y parts.2
  applied_gives (CRule.Superpose r) suited = λ y e.
      let row = layer_given seen site step book r y e in
      let other = other_given site book (is_kind step.kind) r row.a row.referred in
      subst (λ k. Fits k y.made) (same_kind step.kind row.a.kind other.serving)
      (superpose_gives row.f row.a y row.gives)
  applied_gives (CRule.Complete r s t u) suited = λ y e.
      let row = four_given site book r s t u y e in
      subst (λ k. Fits k y.made) (sym (leadsto_is step.kind suited))
      (complete_gives row.a row.b row.c row.d y row.gives)
  applied_gives (CRule.Proof t) suited = proof_gives t step.kind refl

  -- a `defined` step asks that the program passes the test of start states

  text_starts : (k : Kind) → k ≡ Kind.Defined → (y : Conclusion) → text_of seen.starts site step k ≡ Ok y →
      IsTrue (seen.starts c)
  unfolding defined_of
  text_starts Kind.Defined same y e = (met (seen.starts c) Code.NoStart _ y e).0
  text_starts _ same y e = cc

  united_starts : (a b : Record) (k : Kind) → k ≡ Kind.Defined → (y : Conclusion) →
      united seen.starts site k a b ≡ Ok y → IsTrue (seen.starts c)
  unfolding union_defined_of
  united_starts a b Kind.Defined same y e =
      let one = met (is_part_pair site a b) Code.OtherProgram _ y e in
      let two = met (claims_defined a.kind && claims_defined b.kind) Code.WrongKind _ y one.1 in
      (met (seen.starts c) Code.NoStart _ y two.1).0
  united_starts a b _ same y e = cc

  no_term : (t : PTerm-F PTerm) → IsTrue (suits_term t Kind.Defined) → ⊥
  no_term (PTerm-F.From r) h = cc
  no_term _ h = cc

  applied_starts : (rule : CRule) → step.kind ≡ Kind.Defined → IsTrue (suits seen.version rule Kind.Defined) →
      (y : Conclusion) →
      applied seen site step book rule ≡ Ok y → IsTrue (seen.starts c)
  applied_starts CRule.Text is suited y e = text_starts step.kind is y e
  applied_starts (CRule.TextWith h) is suited y e = cc
  applied_starts (CRule.WeakenStep r) is suited y e = cc
  applied_starts (CRule.Pair which r s) is suited y e = absurd (no_defined seen.version which suited)
  applied_starts (CRule.Union r s) is suited y e =
      let parts = parts_give r s y e in united_starts parts.0 parts.1 step.kind is y parts.2
  applied_starts (CRule.Superpose r) is suited y e = cc
  applied_starts (CRule.Complete r s t u) is suited y e = cc
  applied_starts (CRule.Proof t) is suited y e = absurd (no_term (out-PTerm t) suited)

-- what a step's row of the table says of its record
pub record RowGives (starts : CProgram → Bool) (c : CProgram) (step : CStep) (r : Record) : Type 0 where
  pub recorded : IsRecordOf (of_program c.name step) r
  pub may_start : step.kind ≡ Kind.Defined → IsTrue (starts c)

pub rule_gives : (seen : Around) (c : CProgram) (step : CStep) (book : List Record)
    (x : Conclusion) → rule_of seen c step book ≡ Ok x → RowGives seen.starts c step x.made
unfolding rule_of
rule_gives seen c step book x e =
    let first = met (is_first step.kind || has_defined c.name book) Code.DefinedMissing
    (go_on (used c book step.using) (λ using.
    needs (suits seen.version step.rule step.kind) Code.WrongKind
    (go_on (applied seen (step_site seen.slots c step using) step book step.rule) (λ y.
    needs (claims step y) Code.ConclusionDiffers (Ok y))))) x e in
    let u = went_on (used c book step.using) (λ using.
    needs (suits seen.version step.rule step.kind) Code.WrongKind
    (go_on (applied seen (step_site seen.slots c step using) step book step.rule) (λ y.
    needs (claims step y) Code.ConclusionDiffers (Ok y)))) x first.1 in
    let using : List CForm = u.0 in
    let suited = met (suits seen.version step.rule step.kind) Code.WrongKind
    (go_on (applied seen (step_site seen.slots c step using) step book step.rule) (λ y.
    needs (claims step y) Code.ConclusionDiffers (Ok y))) x u.2 in
    let a = went_on (applied seen (step_site seen.slots c step using) step book step.rule) (λ y.
    needs (claims step y) Code.ConclusionDiffers (Ok y)) x suited.1 in
    let claimed = met (claims step a.0) Code.ConclusionDiffers (Ok a.0) x a.2 in
    let same : a.0 ≡ x = let given = claimed.1 in cc in
    let e' : applied seen (step_site seen.slots c step using) step book step.rule ≡ Ok x =
    a.1 ∙ ap (λ y. Ok y) same in
    let claims_x : IsTrue (claims step x) = subst (λ y. IsTrue (claims step y)) same claimed.0 in
    let fits = applied_gives seen c step book using step.rule suited.0 x e' in
    record {
      recorded = record {
        name = fits.name;
        program = fits.program;
        kind = fits.kind_is;
        p = same_form_is x.made.p step.p
            (and_left (same_form x.made.p step.p) (same_form x.made.q step.q) claims_x);
        q = same_form_is x.made.q step.q
            (and_right (same_form x.made.p step.p) (same_form x.made.q step.q) claims_x);
        params = fits.params;
      };
      may_start = λ is. applied_starts seen c step book using step.rule is
          (subst (λ k. IsTrue (suits seen.version step.rule k)) is suited.0) x e';
    }
