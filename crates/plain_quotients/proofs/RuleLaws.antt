-- Rules make no quotients: from a program, a step and records without them, all that a step gives and leaves has none.
use Rattle.std.proofs.Common.{◌≡◌, Bool, true, false, cond, ◌&&◌, ◌||◌, List, [], ◌∷◌, ◌++◌, map, Option, Some, None}
use Rattle.std.proofs.Common.{Result, Ok, Err, sym, ◌∙◌, subst, nat_eq, ℤ, ℕ, ◌+◌, max}
use Rattle.std.specs.List.{list_any}
use Rattle.case_tables.specs.declared.kind_table.Kind.{Kind}
use Rattle.case_tables.specs.declared.rule_table.RuleName.{RuleName}
use Rattle.case_tables.specs.declared.code_table.Code.{Code}
use Rattle.core_terms.specs.declared.trees.Range.{Range}
use Rattle.core_terms.specs.declared.trees.CForm.{CForm, out-CForm, roll-out-CForm}
use Rattle.core_terms.specs.declared.trees.CForm.TheVariants.{Bottom}
use Rattle.core_terms.specs.declared.trees.CTerm.TheVariants.{Const}
use Rattle.core_terms.specs.declared.programs.CProgram.{CProgram}
use Rattle.core_terms.specs.declared.programs.CStmt.{CStmt}
use Rattle.core_terms.specs.declared.documents.Arg.{Arg}
use Rattle.core_terms.specs.declared.documents.Helper.{Helper}
use Rattle.core_terms.specs.declared.documents.Ref.{Ref}
use Rattle.core_terms.specs.declared.documents.PTerm.{PTerm, out-PTerm}
use Rattle.core_terms.specs.declared.documents.PTerm.TheOpen.{PTerm-F}
use Rattle.core_terms.specs.declared.documents.CRule.{CRule}
use Rattle.core_terms.specs.declared.documents.CStep.{CStep}
use Rattle.core_terms.specs.Conditions.{any_place, parts_of}
use Rattle.core_terms.specs.Folding.{and_form, or_form, not_form, difference_term}
use Rattle.core_terms.specs.Replacing.{arg_term}
use Rattle.core_terms.specs.Trees.{same_form}
use Rattle.wp_substitution.specs.Preconditions.{all_of, defined_form, wp_form}
use Rattle.fixed_points.specs.FixedForms.{fixed_part}
use Rattle.fair_rounds.specs.declared.records.Record.{Record}
use Rattle.rules_table.specs.declared.led.Led.{Led}
use Rattle.rules_table.specs.Conclusion.{Conclusion}
use Rattle.rules_table.specs.Forms.{any_of, imply}
use Rattle.rules_table.specs.Validity.{Goal}
use Rattle.rules_table.specs.Table.{Site, needs, go_on, with_each, record_of, goals_of, concluded, defined_forms}
use Rattle.rules_table.specs.Table.{kept_form, invariant_forms, unless_form, unless_forms, equations, instances_of}
use Rattle.rules_table.specs.Table.{names_some, meant_forms, helped_form, helper_forms, is_helper}
use Rattle.rules_table.specs.Table.{ensures_of, is_unless, fixed_forms}
use Rattle.rules_table.specs.Table.{is_ensures, weaken_of, pair_kinds, ends_of_both, ends_of_either, pair_of}
use Rattle.rules_table.specs.Further.{concluded_within, record_within, complete_of, first_side, lead_cancel_of}
use Rattle.rules_table.specs.Further.{until_of}
use Rattle.rules_table.specs.Further.{detects_of, constant_of, pair_by}
use Rattle.rules_table.specs.Table.{shown_forms, union_defined_of, union_invariant_of, union_unless_of}
use Rattle.rules_table.specs.Table.{union_ensures_of, instance_of, args_agree}
use Rattle.rules_table.specs.Layers.{helper_over, starts_below, record_over, superpose_of}
use Rattle.rules_table.specs.Terms.{all_ranges, derive_of, found, leads_record, referred, term_of}
use Rattle.rules_table.specs.Walk.{Around, again_of, applied, is_kind, proof_of, same_again, text_of, part_record}
use Rattle.rules_table.specs.Walk.{first_part, second_part, serves_union, serves_after, united}
use Rattle.rules_table.proofs.EachLaws.{Each, each_join, each_at, found_in, from_all}
use Rattle.rules_table.proofs.LayerLaws.{row_met, other_given, layer_given}
use Rattle.rules_table.proofs.RowEquations.{derive-is, defined-is, invariant-is, unless-is, fixed-is, ensures-is}
use Rattle.rules_table.proofs.RowEquations.{weaken-is}
use Rattle.rules_table.proofs.PairLaws.{four_given}
use Rattle.rules_table.proofs.SiteLaws.{met, went_on, concluded_is}
use Rattle.plain_quotients.specs.Plain.{FormIsPlain, StatementIsPlain, ProgramIsPlain}
use Rattle.plain_quotients.specs.Plain.{ProofTermIsPlain, RuleIsPlain}
use Rattle.plain_quotients.proofs.FormLaws.{top_plain, bottom_plain, and_kept, or_kept, not_kept, zero_kept}
use Rattle.plain_quotients.proofs.FormLaws.{difference_kept, const_plain, arg_plain, first_side_plain}
use Rattle.plain_quotients.proofs.StatementLaws.{all_plain, any_plain, defined_plain, each_filtered, each_mapped}
use Rattle.plain_quotients.proofs.StatementLaws.{imply_plain, wp_plain, fixed_plain}
use Rattle.plain_quotients.proofs.TermLaws.{RecordIsPlain, PartsArePlain, LedIsPlain, found_plain, instance_plain}
use Rattle.plain_quotients.proofs.TermLaws.{referred_plain, term_plain}

pub record ConclusionIsPlain (x : Conclusion) : Type 0 where
  pub made : RecordIsPlain x.made
  pub goals : Each (λ (g : Goal). FormIsPlain g.form) x.goals

abbrev pub GivesPlain : Result Conclusion Code → Type 0
GivesPlain row = (x : Conclusion) → row ≡ Ok x → ConclusionIsPlain x

plain_needs : (b : Bool) (code : Code) (rest : Result Conclusion Code) → GivesPlain rest →
    GivesPlain (needs b code rest)
plain_needs true code rest h = h
plain_needs false code rest h = λ (x : Conclusion) e. cc

goals_plain : (ranges : List Range) (forms : List CForm) → Each FormIsPlain forms →
    Each (λ (g : Goal). FormIsPlain g.form) (goals_of ranges forms)
goals_plain ranges [] h = tt
goals_plain ranges (f ∷ forms) h = (h.0, goals_plain ranges forms h.1)

each_once : (seen fs : List CForm) → Each FormIsPlain seen → Each FormIsPlain fs →
    Each FormIsPlain (with_each seen fs)
each_once seen [] h k = h
each_once seen (f ∷ fs) h k =
    elim (list_any (same_form f) seen) as
    (λ b. Each FormIsPlain (with_each (cond b seen (seen ++ (f ∷ []))) fs)) [
      | true ↦ each_once seen fs h k.1
      | false ↦ each_once (seen ++ (f ∷ [])) fs (each_join FormIsPlain seen (f ∷ []) h (k.0, tt)) k.1
    ]

-- the formulas of the rules
module _ (site : Site) (using : Each FormIsPlain site.using) (program : ProgramIsPlain site.program) where
  statements : Each StatementIsPlain site.program.statements
  statements = from_all StatementIsPlain site.program.statements program.statements

  recorded : (kind : Kind) (p q : CForm) (more : List CForm) (helper : Option Helper) → FormIsPlain p → FormIsPlain q →
      Each FormIsPlain more → RecordIsPlain (record_of site kind p q more helper)
  recorded kind p q more helper h k m = record {
    p = h;
    q = k;
    under = each_once [] (site.using ++ more) tt (each_join FormIsPlain site.using more using m);
  }

  plain_in : (ranges : List Range) (made : Record) (forms : List CForm) → RecordIsPlain made →
      Each FormIsPlain forms → GivesPlain (concluded site.slots ranges made forms)
  plain_in ranges made forms h each x e =
      let is = concluded_is site.slots ranges made forms x e in
      subst ConclusionIsPlain (sym is) (record { made = h; goals = goals_plain ranges forms each })

  kept : (before : List CForm) (q : CForm) → Each FormIsPlain before → FormIsPlain q → (s : CStmt) →
      StatementIsPlain s → FormIsPlain (kept_form site before q s)
  kept before q all h s plain =
      imply_plain (site.using ++ before) (wp_form site.slots s (imply site.using q))
      (each_join FormIsPlain site.using before using all)
      (wp_plain site.slots s plain (imply site.using q) (imply_plain site.using q using h))

  defined_are : Each FormIsPlain (defined_forms site)
  defined_are =
      each_mapped StatementIsPlain (λ s. imply site.using (defined_form site.slots s))
      (λ s plain. imply_plain site.using (defined_form site.slots s) using (defined_plain site.slots s plain))
      site.program.statements statements

  invariant_are : (p : CForm) → FormIsPlain p → Each FormIsPlain (invariant_forms site p)
  invariant_are p h = (
    imply_plain (site.using ++ (site.program.initially ∷ [])) p
        (each_join FormIsPlain site.using (site.program.initially ∷ []) using (program.initially, tt)) h,
    each_mapped StatementIsPlain (kept_form site (p ∷ []) p) (kept (p ∷ []) p (h, tt) h) site.program.statements
        statements,
  )

  unless_are : (p q : CForm) → FormIsPlain p → FormIsPlain q → Each FormIsPlain (unless_forms site p q)
  unless_are p q h k =
      each_mapped StatementIsPlain (unless_form site p q)
      (kept (p ∷ not_form q ∷ []) (or_form p q) (h, (not_kept q k, tt)) (or_kept p q h k)) site.program.statements
      statements

  fixed_are : (p : CForm) → FormIsPlain p → Each FormIsPlain (fixed_forms site p)
  fixed_are p h =
      each_mapped StatementIsPlain (λ s. imply (site.using ++ (p ∷ [])) (fixed_part site.slots s))
      (λ s plain. imply_plain (site.using ++ (p ∷ [])) (fixed_part site.slots s)
      (each_join FormIsPlain site.using (p ∷ []) using (h, tt)) (fixed_plain site.slots s plain))
      site.program.statements statements

  equations_are : (args : List Arg) (zs : List ℤ) → Each FormIsPlain (equations args zs)
  equations_are [] zs = tt
  equations_are (a ∷ args) [] = tt
  equations_are (Arg.Param n add ∷ args) (z ∷ zs) = (
    zero_kept (difference_term (arg_term (Some (Arg.Param n add))) (Const z))
        (difference_kept (arg_term (Some (Arg.Param n add))) (Const z) (arg_plain (Some (Arg.Param n add)))
        (const_plain z)),
    equations_are args zs,
  )
  equations_are (Arg.Number k ∷ args) (z ∷ zs) = equations_are args zs
  equations_are (Arg.Slot ∷ args) (z ∷ zs) = equations_are args zs

  helper_are : (p q : CForm) (h : Helper) → FormIsPlain p → FormIsPlain q → Each FormIsPlain (helper_forms site p q h)
  helper_are p q h fp fq =
      each_join FormIsPlain (meant_forms site h) (map (helped_form site p q h) (instances_of site h))
      (meant (names_some h.args))
      (each_mapped StatementIsPlain (helped_form site p q h) helped (instances_of site h) instances)
    where
      instances : Each StatementIsPlain (instances_of site h)
      instances =
          each_filtered StatementIsPlain (λ s. nat_eq s.label h.label && args_agree h.args s.indices)
          site.program.statements statements

      helped : (s : CStmt) → StatementIsPlain s → FormIsPlain (helped_form site p q h s)
      helped s plain =
          kept (p ∷ not_form q ∷ equations h.args s.indices) q (fp, (not_kept q fq, equations_are h.args s.indices)) fq
          s plain

      meant : (b : Bool) → Each FormIsPlain (cond b (any_of (map (λ s. all_of (equations h.args s.indices))
          (instances_of site h)) ∷ []) [])
      meant true = (
        any_plain (map (λ s. all_of (equations h.args s.indices)) (instances_of site h))
            (each_mapped StatementIsPlain (λ s. all_of (equations h.args s.indices))
            (λ s plain. all_plain (equations h.args s.indices) (equations_are h.args s.indices)) (instances_of site h)
            instances),
        tt,
      )
      meant false = tt

  shown_are : (a b : Record) → RecordIsPlain a → RecordIsPlain b → Each FormIsPlain (shown_forms site a b)
  shown_are a b h k =
      each_mapped FormIsPlain (imply site.using) (λ f. imply_plain site.using f using) (a.under ++ b.under)
      (each_join FormIsPlain a.under b.under h.under k.under)

  -- rows

  plain_text : (starts : CProgram → Bool) (s : CStep) (kind : Kind) → FormIsPlain s.p → FormIsPlain s.q →
      GivesPlain (text_of starts site s kind)
  plain_text starts s Kind.Defined h k =
      subst GivesPlain (sym (defined-is site (starts site.program)))
      (plain_needs (starts site.program) Code.NoStart _
      (plain_in site.params _ (defined_forms site) (recorded Kind.Defined _ _ [] None top_plain top_plain tt)
      defined_are))
  plain_text starts s Kind.Invariant h k =
      subst GivesPlain (sym (invariant-is site s.p))
      (plain_in site.params _ (invariant_forms site s.p) (recorded Kind.Invariant s.p _ [] None h bottom_plain tt)
      (invariant_are s.p h))
  plain_text starts s Kind.Unless h k =
      subst GivesPlain (sym (unless-is site s.p s.q))
      (plain_in site.params _ (unless_forms site s.p s.q) (recorded Kind.Unless s.p s.q [] None h k tt)
      (unless_are s.p s.q h k))
  plain_text starts s Kind.Fixed h k =
      subst GivesPlain (sym (fixed-is site s.p))
      (plain_in site.params _ (fixed_forms site s.p) (recorded Kind.Fixed s.p _ [] None h bottom_plain tt)
      (fixed_are s.p h))
  plain_text starts s _ h k = λ (x : Conclusion) e. cc

  plain_ensures : (p q : CForm) (h : Helper) → FormIsPlain p → FormIsPlain q → GivesPlain (ensures_of site p q h)
  plain_ensures p q h fp fq =
      subst GivesPlain (sym (ensures-is site p q h))
      (plain_needs (is_helper site h) Code.NoSuchStatement _
      (plain_in site.params _ (unless_forms site p q ++ helper_forms site p q h)
      (recorded Kind.Ensures p q [] (Some h) fp fq tt)
      (each_join FormIsPlain (unless_forms site p q) (helper_forms site p q h) (unless_are p q fp fq)
      (helper_are p q h fp fq))))

  plain_weaken : (a : Record) (q : CForm) → RecordIsPlain a → FormIsPlain q → GivesPlain (weaken_of site a q)
  plain_weaken a q h k =
      subst GivesPlain (sym (weaken-is site a q))
      (plain_needs (is_unless a.kind || is_ensures a.kind) Code.WrongKind _
      (plain_in site.params _ (imply (site.using ++ (a.q ∷ [])) q ∷ [])
      (recorded a.kind a.p q a.under a.helper h.p k h.under)
      (imply_plain (site.using ++ (a.q ∷ [])) q (each_join FormIsPlain site.using (a.q ∷ []) using (h.q, tt)) k, tt)))

  module _ (a b : Record) (h : RecordIsPlain a) (k : RecordIsPlain b) where
    paired_plain : (kind : Kind) (helper : Option Helper) (p q : CForm) → FormIsPlain p → FormIsPlain q →
        GivesPlain (concluded site.slots site.params (record_of site kind p q (a.under ++ b.under) helper) [])
    paired_plain kind helper p q fp fq =
        plain_in site.params _ []
        (recorded kind p q (a.under ++ b.under) helper fp fq
        (each_join FormIsPlain a.under b.under h.under k.under)) tt

    both_ends : FormIsPlain (ends_of_both a.p a.q b.p b.q)
    both_ends =
        or_kept (or_form (and_form a.p b.q) (and_form b.p a.q)) (and_form a.q b.q)
        (or_kept (and_form a.p b.q) (and_form b.p a.q) (and_kept a.p b.q h.p k.q) (and_kept b.p a.q k.p h.q))
        (and_kept a.q b.q h.q k.q)

    either_ends : FormIsPlain (ends_of_either a.p a.q b.p b.q)
    either_ends =
        or_kept (or_form (and_form (not_form a.p) b.q) (and_form (not_form b.p) a.q)) (and_form a.q b.q)
        (or_kept (and_form (not_form a.p) b.q) (and_form (not_form b.p) a.q)
        (and_kept (not_form a.p) b.q (not_kept a.p h.p) k.q) (and_kept (not_form b.p) a.q (not_kept b.p k.p) h.q))
        (and_kept a.q b.q h.q k.q)

    plain_pair : (which : RuleName) → GivesPlain (pair_of site which a b)
    unfolding pair_of
    plain_pair RuleName.Conj =
        plain_needs _ Code.WrongKind _ (paired_plain b.kind b.helper (and_form a.p b.p) (ends_of_both a.p a.q b.p b.q)
        (and_kept a.p b.p h.p k.p) both_ends)
    plain_pair RuleName.Simpleconj =
        plain_needs _ Code.WrongKind _ (paired_plain Kind.Unless None (and_form a.p b.p) (or_form a.q b.q)
        (and_kept a.p b.p h.p k.p) (or_kept a.q b.q h.q k.q))
    plain_pair RuleName.Disj =
        plain_needs _ Code.WrongKind _ (paired_plain Kind.Unless None (or_form a.p b.p)
        (ends_of_either a.p a.q b.p b.q) (or_kept a.p b.p h.p k.p) either_ends)
    plain_pair RuleName.Simpledisj =
        plain_needs _ Code.WrongKind _ (paired_plain Kind.Unless None (or_form a.p b.p) (or_form a.q b.q)
        (or_kept a.p b.p h.p k.p) (or_kept a.q b.q h.q k.q))
    plain_pair RuleName.Cancel =
        plain_needs _ Code.WrongKind _ (plain_needs _ Code.MiddleDiffers _
        (paired_plain Kind.Unless None (or_form a.p a.q) b.q (or_kept a.p a.q h.p h.q) k.q))
    plain_pair _ = λ (x : Conclusion) e. cc

    within_plain : (kind : Kind) (p q : CForm) (bound : ℕ) → FormIsPlain p → FormIsPlain q →
        GivesPlain (concluded_within site kind p q (a.under ++ b.under) bound)
    within_plain kind p q bound fp fq =
        let base = recorded kind p q (a.under ++ b.under) None fp fq
        (each_join FormIsPlain a.under b.under h.under k.under) in
        plain_needs _ Code.BoundTooLarge _
        (plain_in site.params (record_within site kind p q (a.under ++ b.under) bound) []
        (record { p = base.p; q = base.q; under = base.under }) tt)

    plain_by : (claimed : Kind) (which : RuleName) → GivesPlain (pair_by site claimed which a b)
    unfolding lead_cancel_of until_of detects_of constant_of
    plain_by Kind.Leadsto which =
        let side : CForm = first_side (out-CForm a.q) in
        plain_needs _ Code.WrongKind _ (plain_needs _ Code.MiddleDiffers _
        (within_plain Kind.Leadsto a.p (or_form side b.q) (a.bound + b.bound) h.p
        (or_kept side b.q (first_side_plain (out-CForm a.q) (subst FormIsPlain (sym (roll-out-CForm a.q)) h.q)) k.q)))
    plain_by Kind.Until which =
        plain_needs _ Code.WrongKind _ (plain_needs _ Code.MiddleDiffers _
        (within_plain Kind.Until a.p a.q b.bound h.p h.q))
    plain_by Kind.Detects which =
        plain_needs _ Code.WrongKind _ (plain_needs _ Code.MiddleDiffers _
        (within_plain Kind.Detects b.q b.p b.bound k.q k.p))
    plain_by Kind.Constant which =
        plain_needs _ Code.WrongKind _ (plain_needs _ Code.MiddleDiffers _
        (within_plain Kind.Constant a.p Bottom 0 h.p bottom_plain))
    plain_by Kind.Defined which = plain_pair which
    plain_by Kind.Invariant which = plain_pair which
    plain_by Kind.Unless which = plain_pair which
    plain_by Kind.Ensures which = plain_pair which
    plain_by Kind.Fixed which = plain_pair which

    united_plain : (kind : Kind) (helper : Option Helper) (p q : CForm) → FormIsPlain p → FormIsPlain q → GivesPlain
        (concluded site.slots site.params (record_of site kind p q (a.under ++ b.under) helper) (shown_forms site a b))
    united_plain kind helper p q fp fq =
        plain_in site.params _ (shown_forms site a b)
        (recorded kind p q (a.under ++ b.under) helper fp fq
        (each_join FormIsPlain a.under b.under h.under k.under)) (shown_are a b h k)

    plain_united : (starts : CProgram → Bool) (kind : Kind) → GivesPlain (united starts site kind a b)
    unfolding union_defined_of union_invariant_of union_unless_of union_ensures_of
    plain_united starts Kind.Defined =
        plain_needs _ Code.OtherProgram _ (plain_needs _ Code.WrongKind _ (plain_needs _ Code.NoStart _
        (united_plain Kind.Defined None _ _ top_plain top_plain)))
    plain_united starts Kind.Invariant =
        plain_needs _ Code.OtherProgram _ (plain_needs _ Code.WrongKind _ (plain_needs _ Code.MiddleDiffers _
        (united_plain Kind.Invariant None a.p _ h.p bottom_plain)))
    plain_united starts Kind.Unless =
        plain_needs _ Code.OtherProgram _ (plain_needs _ Code.WrongKind _ (plain_needs _ Code.MiddleDiffers _
        (united_plain Kind.Unless None a.p a.q h.p h.q)))
    plain_united starts Kind.Ensures =
        plain_needs _ Code.OtherProgram _ (plain_needs _ Code.WrongKind _ (plain_needs _ Code.MiddleDiffers _
        (united_plain Kind.Ensures _ a.p a.q h.p h.q)))
    plain_united starts _ = λ (x : Conclusion) e. cc

  plain_complete : (a b c d : Record) → RecordIsPlain a → RecordIsPlain b → RecordIsPlain c → RecordIsPlain d →
      GivesPlain (complete_of site a b c d)
  unfolding complete_of
  plain_complete a b c d ha hb hc hd =
      let p : CForm = and_form a.p c.p in
      let q : CForm = or_form (and_form b.p d.p) b.q in
      let more : List CForm = (a.under ++ b.under) ++ (c.under ++ d.under) in
      let base = recorded Kind.Leadsto p q more None (and_kept a.p c.p ha.p hc.p)
      (or_kept (and_form b.p d.p) b.q (and_kept b.p d.p hb.p hd.p) hb.q)
      (each_join FormIsPlain (a.under ++ b.under) (c.under ++ d.under)
      (each_join FormIsPlain a.under b.under ha.under hb.under)
      (each_join FormIsPlain c.under d.under hc.under hd.under)) in
      plain_needs _ Code.WrongKind _ (plain_needs _ Code.MiddleDiffers _ (plain_needs _ Code.BoundTooLarge _
      (plain_in site.params (record_within site Kind.Leadsto p q more (max a.bound c.bound)) []
      (record { p = base.p; q = base.q; under = base.under }) tt)))

  module _ (book : List Record) (all : Each RecordIsPlain book) where
    plain_derive : (t : PTerm) → ProofTermIsPlain t → GivesPlain (derive_of site t book)
    plain_derive t plain x e =
        let ranges : List Range = all_ranges site t in
        let one = went_on (term_of site ranges book t) (λ (l : Led).
        concluded site.slots ranges (leads_record site l) l.forms) x (sym (derive-is site t book) ∙ e) in
        let l : Led = one.0 in
        let parts : PartsArePlain (parts_of t any_place) = record {
          forms = from_all _ (parts_of t any_place).forms plain.forms;
          terms = from_all _ (parts_of t any_place).terms plain.terms;
        } in
        let led : LedIsPlain l = term_plain site using ranges book all t any_place parts l one.1 in
        let base = recorded Kind.Leadsto l.p l.q l.under None led.p led.q led.under in
        plain_in ranges (leads_record site l) l.forms (record { p = base.p; q = base.q; under = base.under }) led.forms
        x one.2

    plain_again : (s : CStep) (y : PTerm-F PTerm) → GivesPlain (again_of site s book y)
    plain_again s (PTerm-F.From r) = λ (x : Conclusion) e.
        let one = went_on (referred site site.params book (is_kind s.kind) r) (same_again site) x e in
        let a : Record = one.0 in
        let h = referred_plain site site.params book (is_kind s.kind) r a all one.1 in
        plain_in site.params _ [] (recorded a.kind a.p a.q a.under a.helper h.p h.q h.under) tt x one.2
    plain_again s _ = λ (x : Conclusion) e. cc

    plain_proof : (s : CStep) (t : PTerm) → ProofTermIsPlain t → (kind : Kind) →
        GivesPlain (proof_of site s book kind t)
    plain_proof s t plain Kind.Leadsto = plain_derive t plain
    plain_proof s t plain _ = plain_again s (out-PTerm t)

    part_plain : (part : Option ℕ) (serves : Kind → Bool) (r : Ref) (b : Record) →
        part_record site book part serves r ≡ Ok b → RecordIsPlain b
    part_plain None serves r b e =
        let there = went_on (found book r) (λ (a : Record). Err Code.OtherProgram) b e in
        let never : ◌≡◌ {A = Result Record Code} (Err Code.OtherProgram) (Ok b) = there.2 in
        absurd (cc never)
    part_plain (Some part) serves r b e =
        let there = went_on (found book r) (λ (a : Record). needs (nat_eq a.program part) Code.OtherProgram
        (needs (serves a.kind) Code.WrongKind (instance_of site site.params a r.args))) b e in
        let a : Record = there.0 in
        let mine = met (nat_eq a.program part) Code.OtherProgram
        (needs (serves a.kind) Code.WrongKind (instance_of site site.params a r.args)) b there.2 in
        let kind = met (serves a.kind) Code.WrongKind (instance_of site site.params a r.args) b mine.1 in
        instance_plain site site.params a b r.args (found_plain book r a all there.1) kind.1

    plain_superpose : (f : CProgram) (a : Record) → ProgramIsPlain f → RecordIsPlain a →
        GivesPlain (superpose_of site f a)
    plain_superpose f a below h x e =
        let base = recorded a.kind a.p a.q a.under (helper_over site.program f a.helper) h.p h.q h.under in
        plain_in site.params (record_over site f a) (starts_below site f ∷ [])
        (record { p = base.p; q = base.q; under = base.under }) (
          imply_plain (site.using ++ (site.program.initially ∷ [])) f.initially
              (each_join FormIsPlain site.using (site.program.initially ∷ []) using (program.initially, tt))
              below.initially,
          tt,
        ) x (row_met site f a x e).gives

    pub plain_applied : (seen : Around) → Each ProgramIsPlain seen.programs → (s : CStep) → FormIsPlain s.p →
        FormIsPlain s.q → (rule : CRule) → RuleIsPlain rule → GivesPlain (applied seen site s book rule)
    plain_applied seen programs s p q CRule.Text plain = plain_text seen.starts s s.kind p q
    plain_applied seen programs s p q (CRule.TextWith h) plain = plain_ensures s.p s.q h p q
    plain_applied seen programs s p q (CRule.WeakenStep r) plain = λ (x : Conclusion) e.
        let one = went_on (referred site site.params book (is_kind s.kind) r) (λ (a : Record).
        weaken_of site a s.q) x e in
        let h = referred_plain site site.params book (is_kind s.kind) r one.0 all one.1 in
        plain_weaken one.0 s.q h q x one.2
    plain_applied seen programs s p q (CRule.Pair which r t) plain = λ (x : Conclusion) e.
        let kinds : Kind × Kind = pair_kinds which s.kind in
        let one = went_on (referred site site.params book (is_kind kinds.0) r) (λ (a : Record).
        go_on (referred site site.params book (is_kind kinds.1) t) (λ b. pair_by site s.kind which a b)) x e in
        let two = went_on (referred site site.params book (is_kind kinds.1) t)
        (λ (b : Record). pair_by site s.kind which one.0 b) x one.2 in
        let h = referred_plain site site.params book (is_kind kinds.0) r one.0 all one.1 in
        let k = referred_plain site site.params book (is_kind kinds.1) t two.0 all two.1 in
        plain_by one.0 two.0 h k s.kind which x two.2
    plain_applied seen programs s p q (CRule.Union r t) plain = λ (x : Conclusion) e.
        let one = went_on (part_record site book (first_part site.program.parts) (serves_union s.kind) r)
        (λ (a : Record).
        go_on (part_record site book (second_part site.program.parts) (serves_after s.kind a.kind) t) (λ b.
        united seen.starts site s.kind a b)) x e in
        let two = went_on (part_record site book (second_part site.program.parts) (serves_after s.kind one.0.kind) t)
        (λ (b : Record). united seen.starts site s.kind one.0 b) x one.2 in
        let h = part_plain (first_part site.program.parts) (serves_union s.kind) r one.0 one.1 in
        let k = part_plain (second_part site.program.parts) (serves_after s.kind one.0.kind) t two.0 two.1 in
        plain_united one.0 two.0 h k seen.starts s.kind x two.2
    plain_applied seen programs s p q (CRule.Superpose r) plain = λ (x : Conclusion) e.
        let row = layer_given seen site s book r x e in
        let other = other_given site book (is_kind s.kind) r row.a row.referred in
        let at = found_in (λ (c : CProgram). nat_eq c.name row.a.program) seen.programs row.f row.program in
        plain_superpose row.f row.a (each_at ProgramIsPlain seen.programs programs at.place row.f at.there)
        (instance_plain site site.params other.a row.a r.args (found_plain book r other.a all other.there) other.gives)
        x row.gives
    plain_applied seen programs s p q (CRule.Complete r t u v) plain = λ (x : Conclusion) e.
        let leads : Kind → Bool = is_kind Kind.Leadsto in
        let ends : Kind → Bool = is_kind Kind.Unless in
        let row = four_given site book r t u v x e in
        plain_complete row.a row.b row.c row.d
        (referred_plain site site.params book leads r row.a all row.first)
        (referred_plain site site.params book ends t row.b all row.second)
        (referred_plain site site.params book leads u row.c all row.third)
        (referred_plain site site.params book ends v row.d all row.fourth) x row.gives
    plain_applied seen programs s p q (CRule.Proof t) plain = plain_proof s t plain s.kind
