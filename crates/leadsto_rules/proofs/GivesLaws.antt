-- What calls give, from what the calls of their parts give.
use Rattle.std.proofs.Common.{◌≡◌, Bool, true, false, Result, Ok, Err, refl, sym, subst}
use Rattle.case_tables.specs.declared.code_table.Code.{Code}
use Rattle.fair_rounds.specs.declared.records.Record.{Record}
use Rattle.rules_table.specs.Table.{needs, go_on}
use Rattle.safety_rules.specs.Instances.{AnswersRecord}
use Rattle.safety_rules.specs.declared.places.RuleError.{RuleError}
use Rattle.leadsto_rules.specs.Leading.{TermGives}

-- a row is another
pub gives_same : {A : Type 0} (answer : Result A RuleError) (row rest : Result A Code) → row ≡ rest →
    TermGives answer rest → TermGives answer row
gives_same answer row rest is given = subst (λ x. TermGives answer x) (sym is) given

-- a part gives nothing
pub part_fails : {A B : Type 0} (e : RuleError) (row : Result A Code) (f : A → Result B Code) → TermGives (Err e) row →
    TermGives (Err e) (go_on row f)
part_fails RuleError.Memory row f given = tt
part_fails (RuleError.Fault code) (Ok x) f given = absurd given
part_fails (RuleError.Fault code) (Err first) f given = given

-- it gives something
pub part_given : {A B : Type 0} (x : A) (row : Result A Code) (f : A → Result B Code) (answer : Result B RuleError) →
    TermGives (Ok x) row → TermGives answer (f x) → TermGives answer (go_on row f)
part_given x (Ok y) f answer given rest = subst (λ z. TermGives answer (f z)) given rest
part_given x (Err code) f answer given rest = absurd given

-- a reference names a record
pub record_given : {B : Type 0} (a : Record) (row : Result Record Code) (f : Record → Result B Code)
    (answer : Result B RuleError) → AnswersRecord (Ok a) row → TermGives answer (f a) → TermGives answer (go_on row f)
record_given a (Ok b) f answer given rest = subst (λ z. TermGives answer (f z)) given rest
record_given a (Err code) f answer given rest = absurd given

-- a condition is met
pub need_met : {A : Type 0} (b : Bool) (code : Code) (rest : Result A Code) (answer : Result A RuleError) →
    b ≡ true → TermGives answer rest → TermGives answer (needs b code rest)
need_met true code rest answer e given = given
need_met false code rest answer e given = cc

-- it is not
pub need_fails : {A : Type 0} (b : Bool) (code : Code) (rest : Result A Code) → b ≡ false →
    TermGives (Err (RuleError.Fault code)) (needs b code rest)
need_fails true code rest e = cc
need_fails false code rest e = refl
