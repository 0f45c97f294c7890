-- That what calls give stands, from what the table gives.
use Rattle.std.proofs.Common.{◌≡◌, List, [], ◌∷◌, map, Result, Ok, Err, refl, sym, subst}
use Rattle.std.specs.Prelude.{All}
use Rattle.std.specs.Result.{IsErrAnd}
use Rattle.std.proofs.lemmas.List.Elements.{All-head, All-tail}
use Rattle.case_tables.specs.declared.code_table.Code.{Code}
use Rattle.core_terms.specs.declared.trees.CForm.{CForm}
use Rattle.core_terms.specs.declared.programs.CSlot.{CSlot}
use Rattle.core_terms.specs.Conditions.{FormFits, IsSlot}
use Rattle.obligations.specs.Opening.{Valid}
use Rattle.fair_rounds.specs.declared.records.Record.{Record}
use Rattle.rules_table.specs.Conclusion.{Conclusion}
use Rattle.rules_table.specs.Validity.{Goal, goal_obligation, AllValid}
use Rattle.rules_table.specs.Sound.{NameNoParameter, IsSite, IsPremise}
use Rattle.rules_table.proofs.EachLaws.{from_all}
use Rattle.rules_table.proofs.GoalLaws.{goal_shown}
use Rattle.rules_table.proofs.NamedLaws.{closed_form}
use Rattle.rules_table.proofs.WalkTheorems.{lows_state}
use Rattle.safety_rules.specs.declared.places.Place.{Place}
use Rattle.safety_rules.specs.declared.places.Derived.{Derived}
use Rattle.safety_rules.specs.declared.places.RuleError.{RuleError}
use Rattle.safety_rules.specs.Answers.{site_of, IsPlace, IsPremiseAt, obligations_of, RuleAnswers}
use Rattle.safety_rules.specs.Sound.{StandsAt, StandsWhereShown}

all_closed : (slots : List CSlot) (fs : List CForm) → All (FormFits slots []) fs → NameNoParameter fs
all_closed slots [] fits = tt
all_closed slots (f ∷ fs) fits = (
  closed_form slots f (All-head (FormFits slots []) f fs fits),
  all_closed slots fs (All-tail (FormFits slots []) f fs fits),
)

pub site_good : (pl : Place) → IsPlace pl → IsSite (site_of pl)
site_good pl place = record {
  closed = all_closed pl.slots.now pl.using.now place.using;
  initially = closed_form pl.slots.now pl.program.now.initially place.program.initially;
  state = map (λ (s : CSlot). s.range.lo) pl.slots.now;
  is_one = lows_state pl.slots.now (from_all IsSlot pl.slots.now place.slots);
  statements = place.program.statements;
}

pub premise_good : (pl : Place) (a : Record) → IsPremiseAt pl a → StandsAt pl a → IsPremise (site_of pl) a
premise_good pl a premise stands = record { params = premise.params; stands = stands }

-- valid obligations are valid formulas
goals_valid : (slots : List CSlot) (goals : List Goal) → All Valid (obligations_of slots goals) → AllValid slots goals
goals_valid slots [] valid = tt
goals_valid slots (g ∷ goals) valid = (
  goal_shown slots g.params g.form
      (All-head Valid (goal_obligation slots g.params g.form) (obligations_of slots goals) valid),
  goals_valid slots goals (All-tail Valid (goal_obligation slots g.params g.form) (obligations_of slots goals) valid),
)

given_stands : (pl : Place) (d : Derived) (row : Result Conclusion Code) →
    ((x : Conclusion) → row ≡ Ok x → AllValid pl.slots.now x.goals → StandsAt pl x.made) →
    (r : Result Conclusion Code) →
    row ≡ r → RuleAnswers (Ok d) pl.slots.now r → All Valid d.obligations → StandsAt pl d.made
given_stands pl d row sound (Ok x) e same valid =
    subst (λ (y : Derived). StandsAt pl y.made) (sym same)
    (sound x e (goals_valid pl.slots.now x.goals (subst (λ (y : Derived). All Valid y.obligations) same valid)))
given_stands pl d row sound (Err code) e same valid = absurd same

-- what the table gives stands, and so does what the call gives
pub answer_stands : (pl : Place) (answer : Result Derived RuleError) (row : Result Conclusion Code) →
    ((x : Conclusion) → row ≡ Ok x → AllValid pl.slots.now x.goals → StandsAt pl x.made) →
    RuleAnswers answer pl.slots.now row → StandsWhereShown pl answer
answer_stands pl (Ok d) row sound given = given_stands pl d row sound row refl given
answer_stands pl (Err error) row sound given = tt

-- an error says nothing of what stands
pub error_stands : (pl : Place) (answer : Result Derived RuleError) (e : RuleError) → IsErrAnd answer (λ x. x ≡ e) →
    StandsWhereShown pl answer
error_stands pl (Err x) e h = tt
error_stands pl (Ok d) e h = absurd h
