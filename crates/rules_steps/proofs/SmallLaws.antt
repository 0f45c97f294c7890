-- What rules leave to be shown is small.
use Rattle.std.proofs.Common.{◌≡◌, List, [], ◌∷◌, Bool, true, false, ◌&&◌, Result, Ok, Err, sym, ◌∙◌, subst}
use Rattle.std.specs.List.{list_all}
use Rattle.std.proofs.lemmas.Bool.{and_parts}
use Rattle.case_tables.specs.declared.code_table.Code.{Code}
use Rattle.core_terms.specs.declared.trees.Range.{Range}
use Rattle.core_terms.specs.declared.trees.CForm.{CForm}
use Rattle.core_terms.specs.declared.programs.CSlot.{CSlot}
use Rattle.fair_rounds.specs.declared.records.Record.{Record}
use Rattle.safety_rules.specs.from_rules_table.Conclusion.{Conclusion}
use Rattle.safety_rules.specs.from_rules_table.Limits.{fits, is_provable}
use Rattle.safety_rules.specs.from_rules_table.Validity.{Goal}
use Rattle.safety_rules.specs.from_rules_table.Table.{needs, go_on, goals_of, concluded}
use Rattle.safety_rules.proofs.lemmas_from_rules_table.EachLaws.{Each}
use Rattle.safety_rules.proofs.lemmas_from_rules_table.RowEquations.{concluded-is}
use Rattle.safety_rules.proofs.lemmas_from_rules_table.SiteLaws.{met, concluded_is}

-- what is left to be shown is within the limits
abbrev pub IsSmall : List CSlot → Goal → Type 0
IsSmall slots g = is_provable slots g.params g.form ≡ true

abbrev pub GivesSmall : List CSlot → Result Conclusion Code → Type 0
GivesSmall slots row = (x : Conclusion) → row ≡ Ok x → Each (IsSmall slots) x.goals

pub small_needs : (slots : List CSlot) (b : Bool) (code : Code) (rest : Result Conclusion Code) →
    GivesSmall slots rest → GivesSmall slots (needs b code rest)
small_needs slots true code rest h = h
small_needs slots false code rest h = λ (x : Conclusion) e. cc

pub small_part : {A : Type 0} (slots : List CSlot) (r : Result A Code) (f : A → Result Conclusion Code) →
    ((a : A) → GivesSmall slots (f a)) → GivesSmall slots (go_on r f)
small_part slots (Ok a) f h = h a
small_part slots (Err code) f h = λ (x : Conclusion) e. cc

small_goals : (slots : List CSlot) (params : List Range) (forms : List CForm) →
    list_all (is_provable slots params) forms ≡ true → Each (IsSmall slots) (goals_of params forms)
small_goals slots params [] e = tt
small_goals slots params (f ∷ forms) e =
    let both = and_parts (is_provable slots params f) (list_all (is_provable slots params) forms) e in
    (both.0, small_goals slots params forms both.1)

pub small_concluded : (slots : List CSlot) (params : List Range) (made : Record) (forms : List CForm) →
    GivesSmall slots (concluded slots params made forms)
small_concluded slots params made forms x e =
    let passed = met
    ((fits slots params made.p && fits slots params made.q) && list_all (is_provable slots params) forms)
    Code.FormulaTooLarge (Ok (record { made = made; goals = goals_of params forms })) x
    (sym (concluded-is slots params made forms) ∙ e) in
    let all = and_parts (fits slots params made.p && fits slots params made.q)
    (list_all (is_provable slots params) forms) passed.0 in
    subst (λ (y : Conclusion). Each (IsSmall slots) y.goals) (sym (concluded_is slots params made forms x e))
    (small_goals slots params forms all.1)
