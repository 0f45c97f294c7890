-- What a node of two parts gives, from what they give.
use Rattle.std.proofs.Common.{List, Result, Ok}
use Rattle.case_tables.specs.declared.code_table.Code.{Code}
use Rattle.core_terms.specs.Trees.{same_form}
use Rattle.core_terms.specs.declared.documents.PTerm.{PTerm}
use Rattle.core_terms.specs.declared.documents.PTerm.TheVariants.{Trans, Either, Psp}
use Rattle.core_terms.specs.declared.documents.Ref.{Ref}
use Rattle.core_terms.specs.declared.trees.Range.{Range}
use Rattle.fair_rounds.specs.declared.records.Record.{Record}
use Rattle.rules_table.specs.Table.{Site, needs, go_on, is_unless}
use Rattle.rules_table.specs.Terms.{Ask, term_of, node, referred, leads_on, leads_either, leads_safely}
use Rattle.rules_table.specs.declared.led.Led.{Led}
use Rattle.rules_table.proofs.RowEquations.{term-Trans, term-Either, term-Psp}
use Rattle.safety_rules.specs.declared.places.RuleError.{RuleError}
use Rattle.leadsto_rules.specs.Leading.{TermGives}
use Rattle.leadsto_rules.proofs.GivesLaws.{gives_same, part_given}

module _ (site : Site) (ranges : List Range) (book : List Record) where
  abbrev asked : PTerm → Ask
  asked = term_of site ranges book

  abbrev pub then_on : Led → Led → Ask
  then_on a b = needs (same_form a.q b.p) Code.MiddleDiffers (node site ranges (leads_on a b))

  abbrev pub then_either : Led → Led → Ask
  then_either a b = needs (same_form a.q b.q) Code.MiddleDiffers (node site ranges (leads_either a b))

  abbrev pub then_safely : Led → Record → Ask
  then_safely a b = node site ranges (leads_safely a b)

  pub trans_given : (t u : PTerm) (first : Led) (second answer : Result Led RuleError) →
      TermGives (Ok first) (asked t) → TermGives second (asked u) →
      ((row : Ask) → TermGives second row → TermGives answer (go_on row (then_on first))) → TermGives answer
      (asked (Trans t u))
  trans_given t u first second answer one two whole =
      gives_same answer (asked (Trans t u)) (go_on (asked t) (λ a. go_on (asked u) (then_on a)))
      (term-Trans site ranges book t u)
      (part_given first (asked t) (λ a. go_on (asked u) (then_on a)) answer one (whole (asked u) two))

  pub either_given : (t u : PTerm) (first : Led) (second answer : Result Led RuleError) →
      TermGives (Ok first) (asked t) → TermGives second (asked u) →
      ((row : Ask) → TermGives second row → TermGives answer (go_on row (then_either first))) →
      TermGives answer (asked (Either t u))
  either_given t u first second answer one two whole =
      gives_same answer (asked (Either t u)) (go_on (asked t) (λ a. go_on (asked u) (then_either a)))
      (term-Either site ranges book t u)
      (part_given first (asked t) (λ a. go_on (asked u) (then_either a)) answer one (whole (asked u) two))

  pub psp_given : (t : PTerm) (r : Ref) (first : Led) (answer : Result Led RuleError) →
      TermGives (Ok first) (asked t) →
      TermGives answer (go_on (referred site ranges book is_unless r) (then_safely first)) →
      TermGives answer (asked (Psp t r))
  psp_given t r first answer one whole =
      let row : Result Record Code = referred site ranges book is_unless r in
      gives_same answer (asked (Psp t r)) (go_on (asked t) (λ a. go_on row (then_safely a)))
      (term-Psp site ranges book t r)
      (part_given first (asked t) (λ a. go_on row (then_safely a)) answer one whole)
