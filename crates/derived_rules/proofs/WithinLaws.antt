-- What a further rule gives, from what its parts give.
use Rattle.std.proofs.Common.{◌≡◌, ℕ, nat_le, ◌^◌, List, [], Bool, true, false, cond, Some, None, Result, Err}
use Rattle.std.proofs.Common.{refl, sym, ◌∙◌, subst}
use Rattle.case_tables.specs.declared.kind_table.Kind.{Kind}
use Rattle.case_tables.specs.declared.code_table.Code.{Code}
use Rattle.core_terms.specs.declared.programs.CSlot.{CSlot}
use Rattle.core_terms.specs.declared.trees.CForm.{CForm}
use Rattle.fair_rounds.specs.declared.records.Record.{Record}
use Rattle.safety_rules.specs.from_obligations.declared.branches.Obligation.{Obligation}
use Rattle.safety_rules.specs.from_rules_table.Conclusion.{Conclusion}
use Rattle.safety_rules.specs.from_rules_table.Further.{record_within, concluded_within, derived}
use Rattle.safety_rules.specs.from_rules_table.Table.{Site, needs, record_of, concluded}
use Rattle.safety_rules.proofs.AnswerLaws.{needs_met, needs_not, refused, given_by, rule_given}
use Rattle.safety_rules.proofs.BoundLaws.{within_is}
use Rattle.safety_rules.specs.Answers.{RuleAnswers}
use Rattle.safety_rules.specs.Goals.{Concludes}
use Rattle.safety_rules.specs.declared.places.Derived.{Derived}
use Rattle.safety_rules.specs.declared.places.RuleError.{RuleError}
use Rattle.safety_rules.specs.Bounds.{bounded_row}

-- the record, with its bound
pub within_given : (site : Site) (kind : Kind) (p q : CForm) (more : List CForm) (rounds bound : ℕ)
    (goals : List Obligation) (answer result : Result Derived RuleError) →
    cond (nat_le rounds (2 ^ 63)) (Some rounds) None ≡ Some bound → goals ≡ [] →
    Concludes answer site.slots site.params (record_of site kind p q more None) goals →
    ((slots : List CSlot) (row : Result Conclusion Code) → RuleAnswers answer slots row →
    RuleAnswers result slots (bounded_row bound row)) →
    RuleAnswers result site.slots (concluded_within site kind p q more rounds)
within_given site kind p q more rounds bound goals answer result fits none given lengthened =
    go (nat_le rounds (2 ^ 63)) fits
  where
    made : Record
    made = record_of site kind p q more None

    here : RuleAnswers answer site.slots (concluded site.slots site.params made [])
    here = rule_given (tt {0}) site kind p q p q more more None None [] [] goals answer refl refl refl refl refl
        (none, refl) given

    go : (b : Bool) → cond b (Some rounds) None ≡ Some bound → RuleAnswers result site.slots
        (needs b Code.BoundTooLarge (concluded site.slots site.params (record_within site kind p q more rounds) []))
    go true e =
        let same : rounds ≡ bound = cc in
        subst (λ n. RuleAnswers result site.slots (concluded site.slots site.params
        (record_within site kind p q more n) [])) (sym same)
        (subst (λ row. RuleAnswers result site.slots row) (sym (within_is site.slots site.params bound made []))
        (lengthened site.slots (concluded site.slots site.params made []) here))
    go false e = cc

-- a row's conditions
module _ (site : Site) (kinds alike : Bool) (kind : Kind) (p q : CForm) (more : List CForm) (bound : ℕ) where
  abbrev row : Result Conclusion Code
  row = derived site kinds alike kind p q more bound

  abbrev asked : Result Conclusion Code
  asked = needs alike Code.MiddleDiffers (concluded_within site kind p q more bound)

  pub other_kinds : (whole : Result Conclusion Code) → whole ≡ row → kinds ≡ false →
      RuleAnswers (Err (RuleError.Fault Code.WrongKind)) site.slots whole
  other_kinds whole is fails = refused site.slots Code.WrongKind whole (is ∙ needs_not kinds Code.WrongKind asked fails)

  pub other_shapes : (whole : Result Conclusion Code) → whole ≡ row → kinds ≡ true → alike ≡ false →
      RuleAnswers (Err (RuleError.Fault Code.MiddleDiffers)) site.slots whole
  other_shapes whole is holds fails =
      refused site.slots Code.MiddleDiffers whole
      (is ∙ needs_met kinds Code.WrongKind asked holds
      ∙ needs_not alike Code.MiddleDiffers (concluded_within site kind p q more bound) fails)

  pub derived_given : (whole : Result Conclusion Code) → whole ≡ row → kinds ≡ true → alike ≡ true →
      (p' q' : CForm) (more' : List CForm) (bound' : ℕ) → p' ≡ p → q' ≡ q → more' ≡ more → bound' ≡ bound →
      (answer : Result Derived RuleError) →
      RuleAnswers answer site.slots (concluded_within site kind p' q' more' bound') → RuleAnswers answer site.slots
      whole
  derived_given whole is holds same p' q' more' bound' same_p same_q same_more same_bound answer given =
      given_by site.slots answer whole (concluded_within site kind p q more bound)
      (is ∙ needs_met kinds Code.WrongKind asked holds
      ∙ needs_met alike Code.MiddleDiffers (concluded_within site kind p q more bound) same)
      (subst (λ f. RuleAnswers answer site.slots (concluded_within site kind f q more bound)) same_p
      (subst (λ f. RuleAnswers answer site.slots (concluded_within site kind p' f more bound)) same_q
      (subst (λ u. RuleAnswers answer site.slots (concluded_within site kind p' q' u bound)) same_more
      (subst (λ n. RuleAnswers answer site.slots (concluded_within site kind p' q' more' n)) same_bound given))))
