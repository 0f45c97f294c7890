-- What is concluded with another bound.
use Rattle.std.proofs.Common.{◌≡◌, ℕ, List, Bool, true, false, ◌&&◌, Result, Ok, refl, ◌∙◌, subst}
use Rattle.std.specs.List.{list_all}
use Rattle.case_tables.specs.declared.code_table.Code.{Code}
use Rattle.core_terms.specs.declared.programs.CSlot.{CSlot}
use Rattle.core_terms.specs.declared.trees.CForm.{CForm}
use Rattle.core_terms.specs.declared.trees.Range.{Range}
use Rattle.fair_rounds.specs.declared.records.Record.{Record}
use Rattle.rules_table.proofs.RowEquations.{concluded-is}
use Rattle.rules_table.specs.Limits.{fits, is_provable}
use Rattle.rules_table.specs.Table.{needs, goals_of, concluded}
use Rattle.safety_rules.specs.Bounds.{bounded_row}

-- p and q are the same, and so is what is concluded
pub within_is : (slots : List CSlot) (ranges : List Range) (bound : ℕ) (made : Record) (forms : List CForm) →
    concluded slots ranges (record made { bound = bound }) forms ≡ bounded_row bound (concluded slots ranges made forms)
within_is slots ranges bound made forms =
    concluded-is slots ranges (record made { bound = bound }) forms
    ∙ go ((fits slots ranges made.p && fits slots ranges made.q) && list_all (is_provable slots ranges) forms)
    ∙ subst (λ row. bounded_row bound row ≡ bounded_row bound (concluded slots ranges made forms))
    (concluded-is slots ranges made forms) refl
  where
    go : (b : Bool) → needs b Code.FormulaTooLarge
        (Ok (record { made = record made { bound = bound }; goals = goals_of ranges forms }))
        ≡ bounded_row bound
        (needs b Code.FormulaTooLarge (Ok (record { made = made; goals = goals_of ranges forms })))
    go true = refl
    go false = refl
