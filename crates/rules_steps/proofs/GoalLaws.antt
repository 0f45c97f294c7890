-- What rules leave to be shown can be searched for, and their records have the step's name.
use Rattle.std.proofs.Common.{◌≡◌, ◌≤ℤ◌, nat_le, ◌^◌, Bool, true, false, cond, ◌&&◌, ◌||◌, List, [], ◌∷◌, ◌++◌, map}
use Rattle.std.proofs.Common.{length, nat_eq}
use Rattle.std.proofs.Common.{Result, Ok, Err, refl, sym, ap, ◌∙◌, subst}
use Rattle.std.specs.Prelude.{All, IfOk}
use Rattle.std.specs.List.{filter}
use Rattle.std.proofs.lemmas.List.Elements.{All-nil, All-cons, All-append, All-weaker}
use Rattle.case_tables.specs.declared.kind_table.Kind.{Kind}
use Rattle.case_tables.specs.declared.rule_table.RuleName.{RuleName}
use Rattle.case_tables.specs.declared.code_table.Code.{Code}
use Rattle.core_terms.specs.declared.trees.Range.{Range}
use Rattle.core_terms.specs.declared.trees.CForm.{CForm}
use Rattle.core_terms.specs.declared.programs.CSlot.{CSlot}
use Rattle.core_terms.specs.declared.programs.CStmt.{CStmt}
use Rattle.core_terms.specs.declared.programs.CProgram.{CProgram}
use Rattle.core_terms.specs.declared.documents.Helper.{Helper}
use Rattle.core_terms.specs.declared.documents.PTerm.{PTerm, out-PTerm}
use Rattle.core_terms.specs.declared.documents.PTerm.TheOpen.{PTerm-F}
use Rattle.core_terms.specs.declared.documents.CRule.{CRule}
use Rattle.core_terms.specs.declared.documents.CStep.{CStep}
use Rattle.core_terms.specs.Conditions.{FormFits, HelperWellScoped, IsProgram, IsRange, IsSlot, IsStep, TermWellScoped}
use Rattle.core_terms.specs.Conditions.{RuleWellScoped}
use Rattle.core_terms.specs.Conditions.{StatementFits, is_below, rule_ranges}
use Rattle.core_terms.specs.Folding.{or_form, not_form}
use Rattle.core_terms.specs.Sizes.{form_nodes}
use Rattle.core_terms.specs.Weights.{form_weight, slot_weight, place_weight}
use Rattle.safety_rules.specs.from_obligations.declared.branches.Obligation.{Obligation}
use Rattle.safety_rules.specs.from_obligations.Obligations.{IsObligation}
use Rattle.safety_rules.specs.from_obligations.Plain.{height_of}
use Rattle.safety_rules.proofs.lemmas_from_obligations.ObligationLaws.{is-obligation, refused-for-size}
use Rattle.safety_rules.proofs.lemmas_from_obligations.ObligationLaws.{refused-for-height}
use Rattle.safety_rules.specs.from_wp_substitution.Preconditions.{all_of, defined_form, wp_form}
use Rattle.safety_rules.specs.from_fixed_points.FixedForms.{fixed_part}
use Rattle.fair_rounds.specs.declared.records.Record.{Record}
use Rattle.safety_rules.specs.from_rules_table.Conclusion.{Conclusion}
use Rattle.safety_rules.specs.from_rules_table.Forms.{any_of, imply}
use Rattle.safety_rules.specs.from_rules_table.Limits.{is_provable}
use Rattle.safety_rules.specs.from_rules_table.Validity.{Goal, goal_obligation}
use Rattle.safety_rules.specs.from_rules_table.Table.{Site, needs, go_on, goals_of, concluded, defined_forms, kept_form}
use Rattle.safety_rules.specs.from_rules_table.Table.{invariant_forms, unless_form, unless_forms, equations}
use Rattle.safety_rules.specs.from_rules_table.Table.{instances_of, names_some}
use Rattle.safety_rules.specs.from_rules_table.Table.{meant_forms, helped_form, helper_forms, is_helper, ensures_of}
use Rattle.safety_rules.specs.from_rules_table.Table.{is_unless}
use Rattle.safety_rules.specs.from_rules_table.Table.{is_ensures, fixed_forms}
use Rattle.safety_rules.specs.from_rules_table.Further.{complete_of, pair_by}
use Rattle.safety_rules.specs.from_rules_table.Table.{weaken_of, pair_kinds, shown_forms, union_defined_of}
use Rattle.safety_rules.specs.from_rules_table.Table.{union_invariant_of}
use Rattle.safety_rules.specs.from_rules_table.Table.{union_unless_of, union_ensures_of}
use Rattle.safety_rules.specs.from_rules_table.Layers.{starts_below, record_over, superpose_of}
use Rattle.safety_rules.specs.from_rules_table.Terms.{all_ranges, derive_of, leads_record, referred, term_of}
use Rattle.safety_rules.specs.from_rules_table.declared.led.Led.{Led}
use Rattle.safety_rules.specs.from_rules_table.Walk.{Around, again_of, applied, claims, is_kind, proof_of, same_again}
use Rattle.safety_rules.specs.from_rules_table.Walk.{step_site}
use Rattle.safety_rules.specs.from_rules_table.Walk.{suits, text_of, used}
use Rattle.safety_rules.specs.from_rules_table.Walk.{rule_of, part_record, first_part, second_part, serves_union}
use Rattle.safety_rules.specs.from_rules_table.Walk.{serves_after, united}
use Rattle.safety_rules.proofs.lemmas_from_rules_table.EachLaws.{Each, from_all, each_join, each_at, found_in}
use Rattle.safety_rules.proofs.lemmas_from_rules_table.LayerLaws.{row_met, layer_given}
use Rattle.safety_rules.proofs.lemmas_from_rules_table.RowEquations.{derive-is, defined-is, invariant-is, unless-is}
use Rattle.safety_rules.proofs.lemmas_from_rules_table.RowEquations.{fixed-is, ensures-is}
use Rattle.safety_rules.proofs.lemmas_from_rules_table.RowEquations.{weaken-is}
use Rattle.safety_rules.proofs.lemmas_from_rules_table.SiteLaws.{met, went_on, concluded_is}
use Rattle.safety_rules.proofs.lemmas_from_rules_table.PairLaws.{of_pair_by, four_given}
use Rattle.safety_rules.specs.declared.places.Derived.{Derived}
use Rattle.safety_rules.specs.declared.places.RuleError.{RuleError}
use Rattle.safety_rules.specs.Answers.{RuleAnswers, obligations_of}
use Rattle.safety_rules.specs.Usable.{NamesExist}
use Rattle.safety_rules.proofs.UsableLaws.{exist_not, exist_or, exist_imply, exist_wp, exist_defined, all_usable}
use Rattle.safety_rules.proofs.UsableLaws.{exist_part, all_exist, fits_exist, usable_closed}
use Rattle.safety_rules.proofs.NameLaws.{meant_exists, helped_exists}
use Rattle.rules_steps.specs.Steps.{IsStepGiven}
use Rattle.rules_steps.specs.Using.{BookFits, IsEntry}
use Rattle.rules_steps.proofs.SmallLaws.{IsSmall}
use Rattle.rules_steps.proofs.ReferredLaws.{referred_is}
use Rattle.rules_steps.proofs.GoodLaws.{part_is, seen_ranges, seen_term}
use Rattle.rules_steps.proofs.ItemLaws.{to_all}
use Rattle.rules_steps.proofs.LedLaws.{term_fits}
use Rattle.rules_steps.proofs.StepLaws.{answered, good_step, used_row, may_stand, applied_row}
use Rattle.rules_steps.proofs.UsingLaws.{used_fit}

-- what is left to be shown at a place: what it names exists
pub record IsLeft (site : Site) (g : Goal) : Type 0 where
  pub params : All IsRange g.params
  pub names : NamesExist site.slots g.params g.form

pub record Tells (site : Site) (x : Conclusion) : Type 0 where
  pub program : x.made.program ≡ site.program.name
  pub name : x.made.name ≡ site.name
  pub goals : Each (IsLeft site) x.goals

abbrev pub GivesTold : Site → Result Conclusion Code → Type 0
GivesTold site row = (x : Conclusion) → row ≡ Ok x → Tells site x

told_needs : (site : Site) (b : Bool) (code : Code) (rest : Result Conclusion Code) → GivesTold site rest →
    GivesTold site (needs b code rest)
told_needs site true code rest h = h
told_needs site false code rest h = λ (x : Conclusion) e. cc

told_goals : (site : Site) (ranges : List Range) → All IsRange ranges → (forms : List CForm) →
    Each (NamesExist site.slots ranges) forms → Each (IsLeft site) (goals_of ranges forms)
told_goals site ranges all [] h = tt
told_goals site ranges all (f ∷ forms) h = (record { params = all; names = h.0 }, told_goals site ranges all forms h.1)

told_in : (site : Site) (ranges : List Range) → All IsRange ranges → (made : Record) (forms : List CForm) →
    made.program ≡ site.program.name → made.name ≡ site.name → Each (NamesExist site.slots ranges) forms →
    GivesTold site (concluded site.slots ranges made forms)
told_in site ranges all made forms program name each x e =
    let is = concluded_is site.slots ranges made forms x e in
    record {
      program = ap (λ (y : Conclusion). y.made.program) is ∙ program;
      name = ap (λ (y : Conclusion). y.made.name) is ∙ name;
      goals = subst (λ (y : Conclusion). Each (IsLeft site) y.goals) (sym is) (told_goals site ranges all forms each);
    }

-- the formulas of the rules
module _ (site : Site) (closed : All (FormFits site.slots []) site.using) (good : IsProgram site.slots site.program)
    (ranges : All IsRange site.params) where
  abbrev slots : List CSlot
  slots = site.slots

  abbrev params : List Range
  params = site.params

  abbrev Exist : CForm → Type 0
  Exist f = NamesExist slots params f

  here : All Exist site.using
  here = all_exist slots params site.using (all_usable slots params site.using closed)

  each_form : (form : CStmt → CForm) → ((s : CStmt) → StatementFits slots s → Exist (form s)) → (ss : List CStmt) →
      Each (StatementFits slots) ss → Each Exist (map form ss)
  each_form form h [] fits = tt
  each_form form h (s ∷ ss) fits = (h s fits.0, each_form form h ss fits.1)

  statements : Each (StatementFits slots) site.program.statements
  statements = from_all (StatementFits slots) site.program.statements good.statements

  kept : (before : List CForm) (q : CForm) → All Exist before → Exist q → (s : CStmt) → StatementFits slots s →
      Exist (kept_form site before q s)
  kept before q all h s fits =
      exist_imply slots params (site.using ++ before) (wp_form slots s (imply site.using q))
      (All-append Exist site.using before here all)
      (exist_wp slots params s (imply site.using q) fits (exist_imply slots params site.using q here h))

  defined_exist : Each Exist (defined_forms site)
  defined_exist = each_form (λ s. imply site.using (defined_form slots s)) (λ s fits.
      exist_imply slots params site.using (defined_form slots s) here (exist_defined slots params s fits))
      site.program.statements statements

  initially_exists : Exist site.program.initially
  initially_exists = (usable_closed slots params site.program.initially good.initially).names

  invariant_exist : (p : CForm) → Exist p → Each Exist (invariant_forms site p)
  invariant_exist p h = (
    exist_imply slots params (site.using ++ (site.program.initially ∷ [])) p
        (All-append Exist site.using (site.program.initially ∷ []) here
        (All-cons Exist site.program.initially [] initially_exists (All-nil Exist))) h,
    each_form (kept_form site (p ∷ []) p) (kept (p ∷ []) p (All-cons Exist p [] h (All-nil Exist)) h)
        site.program.statements statements,
  )

  unless_exist : (p q : CForm) → Exist p → Exist q → Each Exist (unless_forms site p q)
  unless_exist p q h k =
      each_form (unless_form site p q) (kept (p ∷ not_form q ∷ []) (or_form p q)
      (All-cons Exist p (not_form q ∷ []) h
      (All-cons Exist (not_form q) [] (exist_not slots params q k) (All-nil Exist))) (exist_or slots params p q h k))
      site.program.statements statements

  fixed_exist : (p : CForm) → Exist p → Each Exist (fixed_forms site p)
  fixed_exist p h = each_form (λ s. imply (site.using ++ (p ∷ [])) (fixed_part slots s)) (λ s fits.
      exist_imply slots params (site.using ++ (p ∷ [])) (fixed_part slots s)
      (All-append Exist site.using (p ∷ []) here (All-cons Exist p [] h (All-nil Exist)))
      (exist_part slots params s fits))
      site.program.statements statements

  chosen_first : (b : Bool) (s : CStmt) (ss : List CStmt) → StatementFits slots s → Each (StatementFits slots) ss →
      Each (StatementFits slots) (cond b (s ∷ ss) ss)
  chosen_first true s ss one rest = (one, rest)
  chosen_first false s ss one rest = rest

  filtered : (test : CStmt → Bool) (ss : List CStmt) → Each (StatementFits slots) ss →
      Each (StatementFits slots) (filter test ss)
  filtered test [] fits = tt
  filtered test (s ∷ ss) fits = chosen_first (test s) s (filter test ss) fits.0 (filtered test ss fits.1)

  helper_exist : (p q : CForm) (h : Helper) → FormFits slots params p → FormFits slots params q →
      HelperWellScoped (is_below (length params)) h → Each Exist (helper_forms site p q h)
  helper_exist p q h fp fq sees =
      each_join Exist (meant_forms site h) (map (helped_form site p q h) (instances_of site h))
      (meant (names_some h.args))
      (each_form (helped_form site p q h) (λ s fits.
      helped_exists slots params site.using p q h.args s closed fp fq sees.args.names fits) (instances_of site h)
      (filtered _ site.program.statements statements))
    where
      meant : (b : Bool) → Each Exist (cond b (any_of (map (λ s. all_of (equations h.args s.indices))
          (instances_of site h)) ∷ []) [])
      meant true = (meant_exists slots params h.args (instances_of site h) sees.args.names, tt)
      meant false = tt

  shown_exist : (fs : List CForm) → Each (FormFits slots []) fs → Each Exist (map (imply site.using) fs)
  shown_exist [] fits = tt
  shown_exist (f ∷ fs) fits = (
    exist_imply slots params site.using f here (usable_closed slots params f fits.0).names,
    shown_exist fs fits.1,
  )

  both_shown : (a b : Record) → Each (FormFits slots []) a.under → Each (FormFits slots []) b.under →
      Each Exist (shown_forms site a b)
  both_shown a b first second =
      shown_exist (a.under ++ b.under) (each_join (FormFits slots []) a.under b.under first second)

  weaker_exist : (r q : CForm) → Exist r → Exist q → Each Exist (imply (site.using ++ (r ∷ [])) q ∷ [])
  weaker_exist r q h k = (
    exist_imply slots params (site.using ++ (r ∷ [])) q
        (All-append Exist site.using (r ∷ []) here (All-cons Exist r [] h (All-nil Exist))) k,
    tt,
  )

  -- rows

  told_text : (starts : CProgram → Bool) (s : CStep) (kind : Kind) → Exist s.p → Exist s.q →
      GivesTold site (text_of starts site s kind)
  told_text starts s Kind.Defined h k =
      subst (λ r. GivesTold site r) (sym (defined-is site (starts site.program)))
      (told_needs site (starts site.program) Code.NoStart _
      (told_in site site.params ranges _ (defined_forms site) refl refl defined_exist))
  told_text starts s Kind.Invariant h k =
      subst (λ r. GivesTold site r) (sym (invariant-is site s.p))
      (told_in site site.params ranges _ (invariant_forms site s.p) refl refl (invariant_exist s.p h))
  told_text starts s Kind.Unless h k =
      subst (λ r. GivesTold site r) (sym (unless-is site s.p s.q))
      (told_in site site.params ranges _ (unless_forms site s.p s.q) refl refl (unless_exist s.p s.q h k))
  told_text starts s Kind.Fixed h k =
      subst (λ r. GivesTold site r) (sym (fixed-is site s.p))
      (told_in site site.params ranges _ (fixed_forms site s.p) refl refl (fixed_exist s.p h))
  told_text starts s _ h k = λ (x : Conclusion) e. cc

  told_ensures : (p q : CForm) (h : Helper) → FormFits slots params p → FormFits slots params q →
      HelperWellScoped (is_below (length params)) h → GivesTold site (ensures_of site p q h)
  told_ensures p q h fp fq sees =
      subst (λ r. GivesTold site r) (sym (ensures-is site p q h))
      (told_needs site (is_helper site h) Code.NoSuchStatement _
      (told_in site site.params ranges _ (unless_forms site p q ++ helper_forms site p q h) refl refl
      (each_join Exist (unless_forms site p q) (helper_forms site p q h)
      (unless_exist p q (fits_exist slots params p fp) (fits_exist slots params q fq))
      (helper_exist p q h fp fq sees))))

  told_weaken : (a : Record) (q : CForm) → Exist a.q → Exist q → GivesTold site (weaken_of site a q)
  told_weaken a q h k =
      subst (λ r. GivesTold site r) (sym (weaken-is site a q))
      (told_needs site (is_unless a.kind || is_ensures a.kind) Code.WrongKind _
      (told_in site site.params ranges _ (imply (site.using ++ (a.q ∷ [])) q ∷ []) refl refl (weaker_exist a.q q h k)))

  told_pair : (claimed : Kind) (which : RuleName) (a b : Record) → GivesTold site (pair_by site claimed which a b)
  told_pair claimed which a b =
      of_pair_by (GivesTold site) site a b claimed which (λ code. λ (x : Conclusion) e. cc) (told_needs site)
      (λ p q bound. told_in site site.params ranges _ [] refl refl tt)

  told_complete : (a b c d : Record) → GivesTold site (complete_of site a b c d)
  unfolding complete_of
  told_complete a b c d =
      told_needs site _ Code.WrongKind _ (told_needs site _ Code.MiddleDiffers _
      (told_needs site _ Code.BoundTooLarge _ (told_in site site.params ranges _ [] refl refl tt)))

  told_superpose : (f : CProgram) (a : Record) → IsProgram slots f → GivesTold site (superpose_of site f a)
  told_superpose f a below x e =
      told_in site site.params ranges (record_over site f a) (starts_below site f ∷ []) refl refl (
        exist_imply slots params (site.using ++ (site.program.initially ∷ [])) f.initially
            (All-append Exist site.using (site.program.initially ∷ []) here
            (All-cons Exist site.program.initially [] initially_exists (All-nil Exist)))
            (usable_closed slots params f.initially below.initially).names,
        tt,
      ) x (row_met site f a x e).gives

  told_united : (starts : CProgram → Bool) (kind : Kind) (a b : Record) → Each (FormFits slots []) a.under →
      Each (FormFits slots []) b.under → GivesTold site (united starts site kind a b)
  unfolding union_defined_of union_invariant_of union_unless_of union_ensures_of
  told_united starts Kind.Defined a b first second =
      told_needs site _ Code.OtherProgram _ (told_needs site _ Code.WrongKind _ (told_needs site _ Code.NoStart _
      (told_in site site.params ranges _ (shown_forms site a b) refl refl (both_shown a b first second))))
  told_united starts Kind.Invariant a b first second =
      told_needs site _ Code.OtherProgram _ (told_needs site _ Code.WrongKind _
      (told_needs site _ Code.MiddleDiffers _
      (told_in site site.params ranges _ (shown_forms site a b) refl refl (both_shown a b first second))))
  told_united starts Kind.Unless a b first second =
      told_needs site _ Code.OtherProgram _ (told_needs site _ Code.WrongKind _
      (told_needs site _ Code.MiddleDiffers _
      (told_in site site.params ranges _ (shown_forms site a b) refl refl (both_shown a b first second))))
  told_united starts Kind.Ensures a b first second =
      told_needs site _ Code.OtherProgram _ (told_needs site _ Code.WrongKind _
      (told_needs site _ Code.MiddleDiffers _
      (told_in site site.params ranges _ (shown_forms site a b) refl refl (both_shown a b first second))))
  told_united starts _ a b first second = λ (x : Conclusion) e. cc

  told_derive : (book : List Record) → BookFits slots book → (t : PTerm) →
      TermWellScoped slots (all_ranges site t) (is_below (length params)) t → GivesTold site (derive_of site t book)
  told_derive book fit t sees x e =
      let all : List Range = all_ranges site t in
      let one = went_on (term_of site all book t) (λ (l : Led). concluded slots all (leads_record site l) l.forms) x
      (sym (derive-is site t book) ∙ e) in
      let l : Led = one.0 in
      let are : All IsRange all = seen_ranges site t ranges sees in
      let led = term_fits site all are book fit closed t (seen_term site t sees) l one.1 in
      told_in site all are (leads_record site l) l.forms refl refl
      (from_all (NamesExist slots all) l.forms led.forms) x one.2

  told_again : (s : CStep) (book : List Record) (y : PTerm-F PTerm) → GivesTold site (again_of site s book y)
  told_again s book (PTerm-F.From r) = λ (x : Conclusion) e.
      let one = went_on (referred site params book (is_kind s.kind) r) (same_again site) x e in
      told_in site params ranges _ [] refl refl tt x one.2
  told_again s book _ = λ (x : Conclusion) e. cc

  told_proof : (s : CStep) (book : List Record) → BookFits slots book → (t : PTerm) →
      TermWellScoped slots (all_ranges site t) (is_below (length params)) t → (kind : Kind) →
      GivesTold site (proof_of site s book kind t)
  told_proof s book fit t sees Kind.Leadsto = told_derive book fit t sees
  told_proof s book fit t sees _ = told_again s book (out-PTerm t)

  told_applied : (seen : Around) → All (IsProgram slots) seen.programs → (s : CStep) (book : List Record) →
      BookFits slots book →
      FormFits slots params s.p → FormFits slots params s.q → (rule : CRule) →
      RuleWellScoped slots (params ++ rule_ranges rule) (is_below (length params)) (length params) rule →
      GivesTold site (applied seen site s book rule)
  told_applied seen programs s book fit p q CRule.Text sees =
      told_text seen.starts s s.kind (fits_exist slots params s.p p) (fits_exist slots params s.q q)
  told_applied seen programs s book fit p q (CRule.TextWith h) sees = told_ensures s.p s.q h p q sees
  told_applied seen programs s book fit p q (CRule.WeakenStep r) sees = λ (x : Conclusion) e.
      let one = went_on (referred site site.params book (is_kind s.kind) r) (λ (a : Record).
      weaken_of site a s.q) x e in
      let a = referred_is site site.params (is_kind s.kind) book r one.0 fit ranges one.1 in
      told_weaken one.0 s.q (fits_exist slots params one.0.q a.q) (fits_exist slots params s.q q) x one.2
  told_applied seen programs s book fit p q (CRule.Pair which r t) sees = λ (x : Conclusion) e.
      let kinds : Kind × Kind = pair_kinds which s.kind in
      let one = went_on (referred site site.params book (is_kind kinds.0) r) (λ (a : Record).
      go_on (referred site site.params book (is_kind kinds.1) t) (λ b. pair_by site s.kind which a b)) x e in
      let two = went_on (referred site site.params book (is_kind kinds.1) t)
      (λ (b : Record). pair_by site s.kind which one.0 b) x one.2 in
      told_pair s.kind which one.0 two.0 x two.2
  told_applied seen programs s book fit p q (CRule.Union r t) sees = λ (x : Conclusion) e.
      let one = went_on (part_record site book (first_part site.program.parts) (serves_union s.kind) r)
      (λ (a : Record).
      go_on (part_record site book (second_part site.program.parts) (serves_after s.kind a.kind) t) (λ b.
      united seen.starts site s.kind a b)) x e in
      let two = went_on (part_record site book (second_part site.program.parts) (serves_after s.kind one.0.kind) t)
      (λ (b : Record). united seen.starts site s.kind one.0 b) x one.2 in
      let a = part_is site (serves_union s.kind) book (first_part site.program.parts) r one.0 fit ranges one.1 in
      let b = part_is site (serves_after s.kind one.0.kind) book (second_part site.program.parts) t two.0 fit ranges
      two.1 in
      told_united seen.starts s.kind one.0 two.0 a.under b.under x two.2
  told_applied seen programs s book fit p q (CRule.Superpose r) sees = λ (x : Conclusion) e.
      let row = layer_given seen site s book r x e in
      let at = found_in (λ (c : CProgram). nat_eq c.name row.a.program) seen.programs row.f row.program in
      told_superpose row.f row.a
      (each_at (IsProgram slots) seen.programs (from_all (IsProgram slots) seen.programs programs) at.place row.f
      at.there) x row.gives
  told_applied seen programs s book fit p q (CRule.Complete r t u v) sees = λ (x : Conclusion) e.
      let row = four_given site book r t u v x e in told_complete row.a row.b row.c row.d x row.gives
  told_applied seen programs s book fit p q (CRule.Proof t) sees = told_proof s book fit t sees.0 s.kind

-- what is small and names what exists is an obligation
module _ (slots : List CSlot) (params : List Range) (f : CForm) (names : NamesExist slots params f)
    (all : All IsSlot slots) (each : All IsRange params) (small : is_provable slots params f ≡ true) where
  abbrev made : Obligation
  made = goal_obligation slots params f

  by_limits : (b d : Bool) →
      b ≡ (nat_le (form_nodes f) 65536 && nat_le (form_weight (slot_weight slots) (place_weight params) f) (2 ^ 62)) →
      d ≡ nat_le (height_of made) 960 → IsObligation made
  by_limits true true e h =
      is-obligation f slots params names.slots_exist names.params_exist made true true refl e refl h refl
      (All-weaker IsSlot (λ s. s.range.lo ≤ℤ s.range.hi) (λ s h. h.range.some) slots all)
      (All-weaker IsRange (λ r. r.lo ≤ℤ r.hi) (λ r h. h.some) params each)
  by_limits false d e h =
      let no = refused-for-size f slots params names.slots_exist names.params_exist false e refl in
      absurd (cc (no, small))
  by_limits true false e h =
      let no = refused-for-height f slots params names.slots_exist names.params_exist made false refl h refl in
      absurd (cc (no, small))

  pub is_obligation : IsObligation made
  is_obligation = by_limits _ _ refl refl

obligations_are : (site : Site) → All IsSlot site.slots → (goals : List Goal) →
    Each (IsSmall site.slots) goals → Each (IsLeft site) goals → Each IsObligation (obligations_of site.slots goals)
obligations_are site all [] small left = tt
obligations_are site all (g ∷ goals) small left = (
  is_obligation site.slots g.params g.form left.0.names all left.0.params small.0,
  obligations_are site all goals small.1 left.1,
)

-- a step's row: its record has the step's name, and what is left to be shown are obligations
pub record IsStepRow (slots : List CSlot) (c : CProgram) (s : CStep) (x : Conclusion) : Type 0 where
  pub program : x.made.program ≡ c.name
  pub name : x.made.name ≡ s.name
  pub obligations : Each IsObligation (obligations_of slots x.goals)

module _ (seen : Around) (c : CProgram) (s : CStep) (book : List Record) where
  rule_row : rule_of seen c s book ≡
      needs (may_stand seen c s book) Code.DefinedMissing (used_row seen c s book (used c book s.using))
  unfolding rule_of
  rule_row = refl

  pub told_step : All IsSlot seen.slots → All (IsProgram seen.slots) seen.programs → IsProgram seen.slots c →
      IsStep seen.slots s → BookFits seen.slots book →
      (x : Conclusion) →
      rule_of seen c s book ≡ Ok x → IsStepRow seen.slots c s x
  told_step all programs program good fits x is =
      let stands = met (may_stand seen c s book) Code.DefinedMissing
      (used_row seen c s book (used c book s.using)) x (sym rule_row ∙ is) in
      let u = went_on (used c book s.using)
      (λ (using : List CForm). needs (suits seen.version s.rule s.kind) Code.WrongKind
      (applied_row seen c s book using)) x
      stands.1 in
      let suited = met (suits seen.version s.rule s.kind) Code.WrongKind (applied_row seen c s book u.0) x u.2 in
      let site : Site = step_site seen.slots c s u.0 in
      let given = went_on (applied seen site s book s.rule)
      (λ (y : Conclusion). needs (claims s y) Code.ConclusionDiffers (Ok y)) x suited.1 in
      let y : Conclusion = given.0 in
      let claimed = met (claims s y) Code.ConclusionDiffers (Ok y) x given.2 in
      let same : y ≡ x = cc (claimed.1) in
      let told : Tells site y =
      told_applied site (used_fit seen.slots c book fits s.using u.0 u.1) program good.params seen programs s book
      fits good.p good.q s.rule good.rule y given.1 in
      let small = (good_step seen c s book good fits x is).0 in
      subst (λ (z : Conclusion). IsStepRow seen.slots c s z) same (record {
        program = told.program;
        name = told.name;
        obligations = obligations_are site all y.goals
            (subst (λ (z : Conclusion). Each (IsSmall seen.slots) z.goals) (sym same) small) told.goals;
      })

-- what a call gives for a step
pub given_step : (seen : Around) (c : CProgram) (s : CStep) (book : List Record) → All IsSlot seen.slots →
    All (IsProgram seen.slots) seen.programs → IsProgram seen.slots c → IsStep seen.slots s →
    BookFits seen.slots book → (answer : Result Derived RuleError) →
    RuleAnswers answer seen.slots (rule_of seen c s book) → IfOk answer (IsStepGiven seen.slots c s)
given_step seen c s book all programs program good fits (Err e) h = tt
given_step seen c s book all programs program good fits (Ok d) h =
    let x = answered d seen.slots (rule_of seen c s book) h in
    let told = told_step seen c s book all programs program good fits x.0 x.1 in
    record {
      program = ap (λ (y : Derived). y.made.program) x.2 ∙ told.program;
      name = ap (λ (y : Derived). y.made.name) x.2 ∙ told.name;
      entry = subst (λ (y : Derived). IsEntry seen.slots y.made) (sym x.2)
          (good_step seen c s book good fits x.0 x.1).1;
      obligations = subst (λ (y : Derived). All IsObligation y.obligations) (sym x.2)
          (to_all IsObligation (obligations_of seen.slots x.0.goals) told.obligations);
    }
