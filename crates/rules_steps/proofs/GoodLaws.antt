-- What rules give is small, and their records fit.
use Rattle.std.proofs.Common.{◌≡◌, ℕ, max, nat_eq, Bool, true, false, cond, ◌&&◌}
use Rattle.std.proofs.Common.{◌||◌, List, [], ◌∷◌, ◌++◌, length, Option, Some, None, Result, Ok, refl, sym}
use Rattle.std.proofs.Common.{ap, ◌∙◌, subst}
use Rattle.std.specs.Prelude.{All}
use Rattle.std.specs.List.{find, list_any}
use Rattle.std.proofs.lemmas.List.Elements.{All-append}
use Rattle.case_tables.specs.declared.kind_table.Kind.{Kind}
use Rattle.case_tables.specs.declared.rule_table.RuleName.{RuleName}
use Rattle.case_tables.specs.declared.code_table.Code.{Code}
use Rattle.core_terms.specs.declared.trees.Range.{Range}
use Rattle.core_terms.specs.declared.trees.CForm.{CForm}
use Rattle.core_terms.specs.declared.trees.CForm.TheVariants.{Top, Bottom}
use Rattle.core_terms.specs.declared.programs.CSlot.{CSlot}
use Rattle.core_terms.specs.declared.programs.CProgram.{CProgram}
use Rattle.core_terms.specs.declared.documents.Helper.{Helper}
use Rattle.core_terms.specs.declared.documents.Ref.{Ref}
use Rattle.core_terms.specs.declared.documents.PTerm.{PTerm, out-PTerm}
use Rattle.core_terms.specs.declared.documents.PTerm.TheOpen.{PTerm-F}
use Rattle.core_terms.specs.declared.documents.CRule.{CRule}
use Rattle.core_terms.specs.declared.documents.CStep.{CStep}
use Rattle.core_terms.specs.Conditions.{FormFits, IsRange, IsStep, KindFits}
use Rattle.core_terms.specs.Folding.{and_form, or_form}
use Rattle.core_terms.specs.Trees.{same_form}
use Rattle.fair_rounds.specs.declared.records.Record.{Record}
use Rattle.safety_rules.specs.from_rules_table.Conclusion.{Conclusion}
use Rattle.safety_rules.specs.from_rules_table.Forms.{imply}
use Rattle.safety_rules.specs.from_rules_table.Table.{Site, needs, go_on, with_each, record_of, concluded}
use Rattle.safety_rules.specs.from_rules_table.Table.{defined_forms, invariant_forms}
use Rattle.safety_rules.specs.from_rules_table.Table.{unless_forms, is_unless, is_ensures, weaken_of, pair_kinds}
use Rattle.safety_rules.specs.from_rules_table.Further.{complete_of, pair_by}
use Rattle.safety_rules.specs.from_rules_table.Layers.{helper_over, starts_below, superpose_of}
use Rattle.safety_rules.specs.from_rules_table.Table.{instance_of, fixed_forms}
use Rattle.safety_rules.specs.from_rules_table.Terms.{all_ranges, derive_of, found, leads_record, referred, term_of}
use Rattle.safety_rules.specs.from_rules_table.declared.led.Led.{Led}
use Rattle.safety_rules.specs.from_rules_table.Walk.{Around, again_of, is_kind, proof_of, same_again, suits, text_of}
use Rattle.safety_rules.specs.from_rules_table.Walk.{applied}
use Rattle.safety_rules.proofs.lemmas_from_rules_table.EachLaws.{Each, each_join, from_all}
use Rattle.safety_rules.proofs.lemmas_from_rules_table.RowEquations.{defined-is, invariant-is, unless-is, fixed-is}
use Rattle.safety_rules.proofs.lemmas_from_rules_table.RowEquations.{weaken-is}
use Rattle.safety_rules.proofs.lemmas_from_rules_table.SiteLaws.{went_on, concluded_is}
use Rattle.safety_rules.proofs.lemmas_from_rules_table.KindLaws.{ensures_is, leadsto_is, same_kind}
use Rattle.safety_rules.proofs.lemmas_from_rules_table.LayerLaws.{row_met, layer_given}
use Rattle.safety_rules.proofs.lemmas_from_rules_table.PairLaws.{pair_helper, given_kind, given_helper, of_pair_by}
use Rattle.safety_rules.proofs.lemmas_from_rules_table.PairLaws.{given_kind_is, four_given}
use Rattle.safety_rules.specs.declared.places.Place.{Place}
use Rattle.safety_rules.specs.Answers.{site_of, IsPremiseAt}
use Rattle.safety_rules.specs.Instances.{HelperFits}
use Rattle.rules_steps.specs.Using.{IsEntry, BookFits}
use Rattle.rules_steps.proofs.SmallLaws.{IsSmall, small_concluded}
use Rattle.rules_steps.proofs.ItemLaws.{to_all}
use Rattle.rules_steps.proofs.LedLaws.{bound_are_ranges, term_fits}
use Rattle.rules_steps.proofs.ReferredLaws.{IsReferred, instance_row_is, referred_is, other_is}
use Rattle.leadsto_rules.specs.Leading.{IsTermIn}
use Rattle.rules_steps.proofs.UsingLaws.{found_entry, known_so}
use Rattle.core_terms.specs.Conditions.{TermWellScoped, RuleWellScoped, bound_ranges, is_below, rule_ranges}
use Rattle.safety_rules.specs.from_rules_table.Table.{ensures_of, is_helper, helper_forms}
use Rattle.safety_rules.proofs.lemmas_from_rules_table.RowEquations.{derive-is, ensures-is}
use Rattle.std.proofs.Common.{Err}
use Rattle.rules_steps.proofs.HelperLaws.{helper_seen}
use Rattle.safety_rules.specs.from_rules_table.Table.{union_defined_of, union_invariant_of, union_unless_of}
use Rattle.safety_rules.specs.from_rules_table.Table.{union_ensures_of}
use Rattle.safety_rules.specs.from_rules_table.Table.{shown_forms, first_helper}
use Rattle.safety_rules.specs.from_rules_table.Walk.{part_record, first_part, second_part, serves_union, serves_after}
use Rattle.safety_rules.specs.from_rules_table.Walk.{united}

-- lists

each_once : (P : CForm → Type 0) (seen fs : List CForm) → Each P seen → Each P fs → Each P (with_each seen fs)
each_once P seen [] before each = before
each_once P seen (f ∷ fs) before each =
    each_once P (cond (list_any (same_form f) seen) seen (seen ++ (f ∷ []))) fs
    (chosen (list_any (same_form f) seen)) each.1
  where
    chosen : (b : Bool) → Each P (cond b seen (seen ++ (f ∷ [])))
    chosen true = before
    chosen false = each_join P seen (f ∷ []) before (each.0, tt)

-- a conclusion is small, and its record is made of parts that fit
pub record IsGood (site : Site) (kind : Kind) (x : Conclusion) : Type 0 where
  pub small : Each (IsSmall site.slots) x.goals
  pub params : x.made.params ≡ site.params
  pub under : Each (FormFits site.slots []) x.made.under
  pub helper : HelperFits site.params x.made.helper
  pub kind_is : x.made.kind ≡ kind

abbrev pub GivesGood : Site → Kind → Result Conclusion Code → Type 0
GivesGood site kind row = (x : Conclusion) → row ≡ Ok x → IsGood site kind x

good_needs : (site : Site) (kind : Kind) (b : Bool) (code : Code) (rest : Result Conclusion Code) →
    GivesGood site kind rest → GivesGood site kind (needs b code rest)
good_needs site kind true code rest h = h
good_needs site kind false code rest h = λ (x : Conclusion) e. cc

good_within : (site : Site) (kind : Kind) (p q : CForm) (more : List CForm) (helper : Option Helper) (bound : ℕ)
    (forms : List CForm) → HelperFits site.params helper → Each (FormFits site.slots []) site.using →
    Each (FormFits site.slots []) more →
    GivesGood site kind (concluded site.slots site.params
    (record (record_of site kind p q more helper) { bound = bound }) forms)
good_within site kind p q more helper bound forms plain using each x e =
    let made : Record = record (record_of site kind p q more helper) { bound = bound } in
    let is = concluded_is site.slots site.params made forms x e in
    record {
      small = small_concluded site.slots site.params made forms x e;
      params = ap (λ (y : Conclusion). y.made.params) is;
      under = subst (λ (y : Conclusion). Each (FormFits site.slots []) y.made.under) (sym is)
          (each_once (FormFits site.slots []) [] (site.using ++ more) tt
          (each_join (FormFits site.slots []) site.using more using each));
      helper = subst (λ (y : Conclusion). HelperFits site.params y.made.helper) (sym is) plain;
      kind_is = ap (λ (y : Conclusion). y.made.kind) is;
    }

good_concluded : (site : Site) (kind : Kind) (p q : CForm) (more : List CForm) (helper : Option Helper)
    (forms : List CForm) → HelperFits site.params helper → Each (FormFits site.slots []) site.using →
    Each (FormFits site.slots []) more →
    GivesGood site kind (concluded site.slots site.params (record_of site kind p q more helper) forms)
good_concluded site kind p q more helper forms = good_within site kind p q more helper 0 forms

-- rows

good_text : (starts : CProgram → Bool) (site : Site) (s : CStep) (kind : Kind) →
    Each (FormFits site.slots []) site.using → GivesGood site kind (text_of starts site s kind)
good_text starts site s Kind.Defined using =
    subst (λ r. GivesGood site Kind.Defined r) (sym (defined-is site (starts site.program)))
    (good_needs site Kind.Defined (starts site.program) Code.NoStart _
    (good_concluded site Kind.Defined Top Top [] None (defined_forms site) tt using tt))
good_text starts site s Kind.Invariant using =
    subst (λ r. GivesGood site Kind.Invariant r) (sym (invariant-is site s.p))
    (good_concluded site Kind.Invariant s.p Bottom [] None (invariant_forms site s.p) tt using tt)
good_text starts site s Kind.Unless using =
    subst (λ r. GivesGood site Kind.Unless r) (sym (unless-is site s.p s.q))
    (good_concluded site Kind.Unless s.p s.q [] None (unless_forms site s.p s.q) tt using tt)
good_text starts site s Kind.Fixed using =
    subst (λ r. GivesGood site Kind.Fixed r) (sym (fixed-is site s.p))
    (good_concluded site Kind.Fixed s.p Bottom [] None (fixed_forms site s.p) tt using tt)
good_text starts site s _ using = λ (x : Conclusion) e. cc

good_ensures : (site : Site) (p q : CForm) (h : Helper) → Each (FormFits site.slots []) site.using →
    HelperFits site.params (Some h) → GivesGood site Kind.Ensures (ensures_of site p q h)
good_ensures site p q h using helps =
    subst (λ r. GivesGood site Kind.Ensures r) (sym (ensures-is site p q h))
    (good_needs site Kind.Ensures (is_helper site h) Code.NoSuchStatement _
    (good_concluded site Kind.Ensures p q [] (Some h) (unless_forms site p q ++ helper_forms site p q h) helps using
    tt))

good_weaken : (site : Site) (a : Record) (q : CForm) → Each (FormFits site.slots []) site.using →
    Each (FormFits site.slots []) a.under → HelperFits site.params a.helper → GivesGood site a.kind (weaken_of site a q)
good_weaken site a q using under plain =
    subst (λ r. GivesGood site a.kind r) (sym (weaken-is site a q))
    (good_needs site a.kind (is_unless a.kind || is_ensures a.kind) Code.WrongKind _
    (good_concluded site a.kind a.p q a.under a.helper (imply (site.using ++ (a.q ∷ [])) q ∷ []) plain using under))

helper_kept : (params : List Range) (which : RuleName) (helper : Option Helper) → HelperFits params helper →
    HelperFits params (pair_helper which helper)
helper_kept params RuleName.Conj helper h = h
helper_kept params _ helper h = tt

helper_given : (params : List Range) (claimed : Kind) (which : RuleName) (helper : Option Helper) →
    HelperFits params helper → HelperFits params (given_helper claimed which helper)
helper_given params Kind.Leadsto which helper h = tt
helper_given params Kind.Until which helper h = tt
helper_given params Kind.Detects which helper h = tt
helper_given params Kind.Constant which helper h = tt
helper_given params Kind.Defined which helper h = helper_kept params which helper h
helper_given params Kind.Invariant which helper h = helper_kept params which helper h
helper_given params Kind.Unless which helper h = helper_kept params which helper h
helper_given params Kind.Ensures which helper h = helper_kept params which helper h
helper_given params Kind.Fixed which helper h = helper_kept params which helper h

good_pair : (site : Site) (claimed : Kind) (which : RuleName) (a b : Record) →
    Each (FormFits site.slots []) site.using → Each (FormFits site.slots []) a.under →
    Each (FormFits site.slots []) b.under → HelperFits site.params b.helper →
    GivesGood site (given_kind claimed which b.kind) (pair_by site claimed which a b)
good_pair site claimed which a b using first second plain =
    let kind : Kind = given_kind claimed which b.kind in
    of_pair_by (GivesGood site kind) site a b claimed which (λ code. λ (x : Conclusion) e. cc) (good_needs site kind)
    (λ p q bound. good_within site kind p q (a.under ++ b.under) (given_helper claimed which b.helper) bound []
    (helper_given site.params claimed which b.helper plain) using
    (each_join (FormFits site.slots []) a.under b.under first second))

good_complete : (site : Site) (a b c d : Record) → Each (FormFits site.slots []) site.using →
    Each (FormFits site.slots []) a.under → Each (FormFits site.slots []) b.under →
    Each (FormFits site.slots []) c.under → Each (FormFits site.slots []) d.under →
    GivesGood site Kind.Leadsto (complete_of site a b c d)
unfolding complete_of
good_complete site a b c d using first second third fourth =
    let more : List CForm = (a.under ++ b.under) ++ (c.under ++ d.under) in
    good_needs site Kind.Leadsto _ Code.WrongKind _ (good_needs site Kind.Leadsto _ Code.MiddleDiffers _
    (good_needs site Kind.Leadsto _ Code.BoundTooLarge _
    (good_within site Kind.Leadsto (and_form a.p c.p) (or_form (and_form b.p d.p) b.q) more None
    (max a.bound c.bound) [] tt using
    (each_join (FormFits site.slots []) (a.under ++ b.under) (c.under ++ d.under)
    (each_join (FormFits site.slots []) a.under b.under first second)
    (each_join (FormFits site.slots []) c.under d.under third fourth)))))

-- the layer's instance has the indices of the one below
helper_above : (params : List Range) (h f : CProgram) (helper : Option Helper) → HelperFits params helper →
    HelperFits params (helper_over h f helper)
helper_above params h f None fits = fits
helper_above params h f (Some x) fits = fits

good_superpose : (site : Site) (f : CProgram) (a : Record) → Each (FormFits site.slots []) site.using →
    Each (FormFits site.slots []) a.under → HelperFits site.params a.helper →
    GivesGood site a.kind (superpose_of site f a)
good_superpose site f a using under plain x e =
    good_within site a.kind a.p a.q a.under (helper_over site.program f a.helper) a.bound (starts_below site f ∷ [])
    (helper_above site.params site.program f a.helper plain) using under x (row_met site f a x e).gives

first_helps : (params : List Range) (b : Bool) (one two : Option Helper) → HelperFits params one →
    HelperFits params two → HelperFits params (cond b one two)
first_helps params true one two h k = h
first_helps params false one two h k = k

good_united : (starts : CProgram → Bool) (site : Site) (kind : Kind) (a b : Record) →
    Each (FormFits site.slots []) site.using → Each (FormFits site.slots []) a.under →
    Each (FormFits site.slots []) b.under → HelperFits site.params a.helper → HelperFits site.params b.helper →
    GivesGood site kind (united starts site kind a b)
unfolding union_defined_of union_invariant_of union_unless_of union_ensures_of
good_united starts site Kind.Defined a b using first second h k =
    good_needs site Kind.Defined _ Code.OtherProgram _ (good_needs site Kind.Defined _ Code.WrongKind _
    (good_needs site Kind.Defined _ Code.NoStart _
    (good_concluded site Kind.Defined Top Top (a.under ++ b.under) None (shown_forms site a b) tt using
    (each_join (FormFits site.slots []) a.under b.under first second))))
good_united starts site Kind.Invariant a b using first second h k =
    good_needs site Kind.Invariant _ Code.OtherProgram _ (good_needs site Kind.Invariant _ Code.WrongKind _
    (good_needs site Kind.Invariant _ Code.MiddleDiffers _
    (good_concluded site Kind.Invariant a.p Bottom (a.under ++ b.under) None (shown_forms site a b) tt using
    (each_join (FormFits site.slots []) a.under b.under first second))))
good_united starts site Kind.Unless a b using first second h k =
    good_needs site Kind.Unless _ Code.OtherProgram _ (good_needs site Kind.Unless _ Code.WrongKind _
    (good_needs site Kind.Unless _ Code.MiddleDiffers _
    (good_concluded site Kind.Unless a.p a.q (a.under ++ b.under) None (shown_forms site a b) tt using
    (each_join (FormFits site.slots []) a.under b.under first second))))
good_united starts site Kind.Ensures a b using first second h k =
    good_needs site Kind.Ensures _ Code.OtherProgram _ (good_needs site Kind.Ensures _ Code.WrongKind _
    (good_needs site Kind.Ensures _ Code.MiddleDiffers _
    (good_concluded site Kind.Ensures a.p a.q (a.under ++ b.under) (first_helper a b) (shown_forms site a b)
    (first_helps site.params (is_ensures a.kind) a.helper b.helper h k) using
    (each_join (FormFits site.slots []) a.under b.under first second))))
good_united starts site _ a b using first second h k = λ (x : Conclusion) e. cc

-- references

abbrev other : Record → Result Record Code
other b = Err Code.OtherProgram

never_given : (r : Result Record Code) (a : Record) → go_on r other ≡ Ok a → ⊥
never_given (Ok x) a e = cc
never_given (Err code) a e = cc

pub part_is : (site : Site) (serves : Kind → Bool) (book : List Record) (part : Option ℕ) (r : Ref) (a : Record) →
    BookFits site.slots book → All IsRange site.params → part_record site book part serves r ≡ Ok a →
    IsReferred site site.params serves a
part_is site serves book None r a fit ranges e = absurd (never_given (found book r) a e)
part_is site serves book (Some part) r a fit ranges e =
    let there = went_on (found book r) (λ (b : Record). needs (nat_eq b.program part) Code.OtherProgram (
    needs (serves b.kind) Code.WrongKind (instance_of site site.params b r.args))) a e in
    instance_row_is site site.params (nat_eq there.0.program part) serves there.0 a r.args
    (found_entry site.slots book r.program r.step there.0 fit
    (known_so (find (λ (d : Record). nat_eq d.program r.program && nat_eq d.name r.step) book) there.0 there.1))
    ranges there.2

pub premise_is : (pl : Place) (serves : Kind → Bool) (a : Record) → IsReferred (site_of pl) pl.params.now serves a →
    IsPremiseAt pl a
premise_is pl serves a is = record {
  params = is.params;
  p = is.p;
  q = is.q;
  under = to_all (FormFits pl.slots.now []) a.under is.under;
}

-- steps by terms

-- the ranges that a term sees are ranges
pub seen_ranges : (site : Site) (t : PTerm) → All IsRange site.params →
    TermWellScoped site.slots (all_ranges site t) (is_below (length site.params)) t → All IsRange (all_ranges site t)
seen_ranges site t ranges sees =
    All-append IsRange site.params (bound_ranges t) ranges
    (bound_are_ranges t (is_below (length site.params)) sees.ranges_are)

pub seen_term : (site : Site) (t : PTerm) → TermWellScoped site.slots (all_ranges site t)
    (is_below (length site.params)) t →
    IsTermIn site.slots (all_ranges site t) t
seen_term site t sees =
    (is_below (length site.params), record { forms = sees.forms; terms = sees.terms; ranges_are = sees.ranges_are })

good_derive : (site : Site) (book : List Record) → BookFits site.slots book → All IsRange site.params →
    Each (FormFits site.slots []) site.using → (t : PTerm) →
    TermWellScoped site.slots (all_ranges site t) (is_below (length site.params)) t →
    GivesGood site Kind.Leadsto (derive_of site t book)
good_derive site book fit ranges using t sees x e =
    let all : List Range = all_ranges site t in
    let one = went_on (term_of site all book t) (λ (l : Led). concluded site.slots all (leads_record site l) l.forms) x
    (sym (derive-is site t book) ∙ e) in
    let l : Led = one.0 in
    let led = term_fits site all (seen_ranges site t ranges sees) book fit
    (to_all (FormFits site.slots []) site.using using) t (seen_term site t sees) l one.1 in
    let is = concluded_is site.slots all (leads_record site l) l.forms x one.2 in
    record {
      small = small_concluded site.slots all (leads_record site l) l.forms x one.2;
      params = ap (λ (y : Conclusion). y.made.params) is;
      under = subst (λ (y : Conclusion). Each (FormFits site.slots []) y.made.under) (sym is)
          (each_once (FormFits site.slots []) [] (site.using ++ l.under) tt
          (each_join (FormFits site.slots []) site.using l.under using
          (from_all (FormFits site.slots []) l.under led.under)));
      helper = subst (λ (y : Conclusion). HelperFits site.params y.made.helper) (sym is) tt;
      kind_is = ap (λ (y : Conclusion). y.made.kind) is;
    }

good_again : (site : Site) (s : CStep) (book : List Record) → BookFits site.slots book → All IsRange site.params →
    Each (FormFits site.slots []) site.using → (x : PTerm-F PTerm) → GivesGood site s.kind (again_of site s book x)
good_again site s book fit ranges using (PTerm-F.From r) = λ (x : Conclusion) e.
    let one = went_on (referred site site.params book (is_kind s.kind) r) (same_again site) x e in
    let a = referred_is site site.params (is_kind s.kind) book r one.0 fit ranges one.1 in
    subst (λ (k : Kind). IsGood site k x) (same_kind s.kind one.0.kind a.kind)
    (good_concluded site one.0.kind one.0.p one.0.q one.0.under one.0.helper [] a.helper using a.under x one.2)
good_again site s book fit ranges using _ = λ (x : Conclusion) e. cc

good_proof : (site : Site) (s : CStep) (book : List Record) → BookFits site.slots book → All IsRange site.params →
    Each (FormFits site.slots []) site.using → (t : PTerm) →
    TermWellScoped site.slots (all_ranges site t) (is_below (length site.params)) t → (kind : Kind) → kind ≡ s.kind →
    GivesGood site s.kind (proof_of site s book kind t)
good_proof site s book fit ranges using t sees Kind.Leadsto same =
    subst (λ (k : Kind). GivesGood site k (derive_of site t book)) same
    (good_derive site book fit ranges using t sees)
good_proof site s book fit ranges using t sees _ same = good_again site s book fit ranges using (out-PTerm t)

-- a step's row

pub good_applied : (seen : Around) (site : Site) (s : CStep) (book : List Record) →
    BookFits site.slots book → All IsRange site.params → Each (FormFits site.slots []) site.using → (rule : CRule) →
    suits seen.version rule s.kind ≡ true →
    RuleWellScoped site.slots (site.params ++ rule_ranges rule) (is_below (length site.params)) (length site.params)
    rule →
    GivesGood site s.kind (applied seen site s book rule)
good_applied seen site s book fit ranges using CRule.Text suited sees = good_text seen.starts site s s.kind using
good_applied seen site s book fit ranges using (CRule.WeakenStep r) suited sees = λ (x : Conclusion) e.
    let one = went_on (referred site site.params book (is_kind s.kind) r) (λ (a : Record). weaken_of site a s.q) x e in
    let a = referred_is site site.params (is_kind s.kind) book r one.0 fit ranges one.1 in
    subst (λ (k : Kind). IsGood site k x) (same_kind s.kind one.0.kind a.kind)
    (good_weaken site one.0 s.q using a.under a.helper x one.2)
good_applied seen site s book fit ranges using (CRule.Pair which r t) suited sees = λ (x : Conclusion) e.
    let kinds : Kind × Kind = pair_kinds which s.kind in
    let one = went_on (referred site site.params book (is_kind kinds.0) r) (λ (a : Record).
    go_on (referred site site.params book (is_kind kinds.1) t) (λ b. pair_by site s.kind which a b)) x e in
    let two = went_on (referred site site.params book (is_kind kinds.1) t)
    (λ (b : Record). pair_by site s.kind which one.0 b) x one.2 in
    let a = referred_is site site.params (is_kind kinds.0) book r one.0 fit ranges one.1 in
    let b = referred_is site site.params (is_kind kinds.1) book t two.0 fit ranges two.1 in
    subst (λ (k : Kind). IsGood site k x) (given_kind_is seen.version which two.0.kind s.kind b.kind suited)
    (good_pair site s.kind which one.0 two.0 using a.under b.under b.helper x two.2)
good_applied seen site s book fit ranges using (CRule.TextWith h) suited sees =
    subst (λ (k : Kind). GivesGood site k (ensures_of site s.p s.q h)) (sym (ensures_is s.kind suited))
    (good_ensures site s.p s.q h using (helper_seen site.params (is_below (length site.params)) h ranges sees))
good_applied seen site s book fit ranges using (CRule.Union r t) suited sees = λ (x : Conclusion) e.
    let one = went_on (part_record site book (first_part site.program.parts) (serves_union s.kind) r) (λ (a : Record).
    go_on (part_record site book (second_part site.program.parts) (serves_after s.kind a.kind) t) (λ b.
    united seen.starts site s.kind a b)) x e in
    let two = went_on (part_record site book (second_part site.program.parts) (serves_after s.kind one.0.kind) t)
    (λ (b : Record). united seen.starts site s.kind one.0 b) x one.2 in
    let a = part_is site (serves_union s.kind) book (first_part site.program.parts) r one.0 fit ranges one.1 in
    let b = part_is site (serves_after s.kind one.0.kind) book (second_part site.program.parts) t two.0 fit ranges
    two.1 in
    good_united seen.starts site s.kind one.0 two.0 using a.under b.under a.helper b.helper x two.2
good_applied seen site s book fit ranges using (CRule.Superpose r) suited sees = λ (x : Conclusion) e.
    let row = layer_given seen site s book r x e in
    let a = other_is site (is_kind s.kind) book r row.a fit ranges row.referred in
    subst (λ (k : Kind). IsGood site k x) (same_kind s.kind row.a.kind a.kind)
    (good_superpose site row.f row.a using a.under a.helper x row.gives)
good_applied seen site s book fit ranges using (CRule.Complete r t u v) suited sees = λ (x : Conclusion) e.
    let leads : Kind → Bool = is_kind Kind.Leadsto in
    let ends : Kind → Bool = is_kind Kind.Unless in
    let row = four_given site book r t u v x e in
    let a = referred_is site site.params leads book r row.a fit ranges row.first in
    let b = referred_is site site.params ends book t row.b fit ranges row.second in
    let c = referred_is site site.params leads book u row.c fit ranges row.third in
    let d = referred_is site site.params ends book v row.d fit ranges row.fourth in
    subst (λ (k : Kind). IsGood site k x) (sym (leadsto_is s.kind suited))
    (good_complete site row.a row.b row.c row.d using a.under b.under c.under d.under x row.gives)
good_applied seen site s book fit ranges using (CRule.Proof t) suited sees =
    good_proof site s book fit ranges using t sees.0 s.kind refl

-- the record of a step that claims it
pub entry_of : (slots : List CSlot) (s : CStep) (made : Record) → IsStep slots s → made.params ≡ s.params →
    Each (FormFits slots []) made.under → HelperFits s.params made.helper →
    made.kind ≡ s.kind → made.p ≡ s.p → made.q ≡ s.q →
    IsEntry slots made
entry_of slots s made good params under helper kind p q = record {
  parts = record {
    params = subst (λ (ps : List Range). All IsRange ps) (sym params) good.params;
    p = subst (λ (f : CForm). FormFits slots made.params f) (sym p)
        (subst (λ (ps : List Range). FormFits slots ps s.p) (sym params) good.p);
    q = subst (λ (f : CForm). FormFits slots made.params f) (sym q)
        (subst (λ (ps : List Range). FormFits slots ps s.q) (sym params) good.q);
    under = to_all (FormFits slots []) made.under under;
    helper = subst (λ (ps : List Range). HelperFits ps made.helper) (sym params) helper;
  };
  kind = subst (λ (k : Kind). KindFits k made.params made.p made.q) (sym kind)
      (subst (λ (ps : List Range). KindFits s.kind ps made.p made.q) (sym params)
      (subst (λ (f : CForm). KindFits s.kind s.params f made.q) (sym p)
      (subst (λ (f : CForm). KindFits s.kind s.params s.p f) (sym q) good.kind)));
}
