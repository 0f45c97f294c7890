use Rattle.std.proofs.Common.{◌≡◌, ℕ, List, ◌∷◌, ◌++◌, Ok, refl, sym, ap, ◌∙◌, subst}
use Rattle.proof_script.specs.Proving.{Finds}
use Rattle.certificate_printing.specs.Certificates.{certificates_text}
use Rattle.certificate_printing.specs.Findings.{budget_text, refuted_text}
use Rattle.unity_cli.specs.Answering.{HasPlan, IsSearchedIn}
use Rattle.unity_cli.proofs.Searched.{finds_told, found_told, found_planned}
use Rattle.unity_cli.proofs.prove.answered.Goals as goal

pub returns-in_ok-text-in-Proved-clause-answer : goal.returns-in_ok-text-in-Proved-clause-answer
returns-in_ok-text-in-Proved-clause-answer c =
    subst (λ f. IsSearchedIn c.args.budget c.args.bytes.now c.args.reading.now f.answer) (sym c.new.ensures)
    (found_told c.args.bytes.now c.args.budget c.args.reading.now c.in-Proved.plan c.in-Proved.certs
    c.front_of-front.result.now c.in_ok-text-in-Proved.text.items c.requires.budget
    (subst (λ p. Finds c.args.reading.now.core c.args.budget (Ok p)) c.in-Proved.is c.requires.proof)
    c.front_of-front.ensures
    (subst (λ cs. c.in_ok-text-in-Proved.text.items ≡ c.front_of-front.result.now ++ 10 ∷ certificates_text cs)
    c.as_slice.ensures c.in_ok-text-in-Proved.ensures))

pub returns-in_ok-text-in-Proved-clause-plan : goal.returns-in_ok-text-in-Proved-clause-plan
returns-in_ok-text-in-Proved-clause-plan c =
    subst (λ f. HasPlan c.args.reading.now.core.words f) (sym c.new.ensures) (
      refl,
      found_planned c.args.bytes.now c.args.budget c.args.reading.now c.in-Proved.plan c.in-Proved.certs
          c.front_of-front.result.now c.in_ok-text-in-Proved.text.items c.requires.budget
          (subst (λ p. Finds c.args.reading.now.core c.args.budget (Ok p)) c.in-Proved.is c.requires.proof)
          c.front_of-front.ensures
          (subst (λ cs. c.in_ok-text-in-Proved.text.items ≡ c.front_of-front.result.now ++ 10 ∷ certificates_text cs)
          c.as_slice.ensures c.in_ok-text-in-Proved.ensures) c.requires.reading,
    )

pub returns-in_ok-text-in-Refuted-clause-answer : goal.returns-in_ok-text-in-Refuted-clause-answer
returns-in_ok-text-in-Refuted-clause-answer c =
    subst (λ f. IsSearchedIn c.args.budget c.args.bytes.now c.args.reading.now f.answer) (sym c.new-in-Refuted.ensures)
    (λ is. record {
      program = c.in-Refuted.program;
      step = c.in-Refuted.step;
      number = c.in-Refuted.obligation;
      variables = c.in-Refuted.variables;
      values = c.in-Refuted.values;
      finding = finds_told c.args.bytes.now c.args.budget c.args.reading.now _
          (λ d. refuted_text d c.in-Refuted.program c.in-Refuted.step c.in-Refuted.obligation
          c.in-Refuted.variables c.in-Refuted.values)
          c.in_ok-text-in-Refuted.text.items
          (subst (λ p. Finds c.args.reading.now.core c.args.budget (Ok p)) c.in-Refuted.is c.requires.proof)
          (c.in_ok-text-in-Refuted.ensures
          ∙ ap (λ vs. refuted_text c.args.reading.now.core c.in-Refuted.program c.in-Refuted.step
          c.in-Refuted.obligation vs c.as_slice-in-Refuted-2.result.now) c.as_slice-in-Refuted.ensures
          ∙ ap (λ zs. refuted_text c.args.reading.now.core c.in-Refuted.program c.in-Refuted.step
          c.in-Refuted.obligation c.in-Refuted.variables zs) c.as_slice-in-Refuted-2.ensures) is;
    })

pub returns-in_ok-text-in-Budget-clause-answer : goal.returns-in_ok-text-in-Budget-clause-answer
returns-in_ok-text-in-Budget-clause-answer c =
    subst (λ f. IsSearchedIn c.args.budget c.args.bytes.now c.args.reading.now f.answer) (sym c.new-in-Budget.ensures)
    (λ is. record {
      program = c.in-Budget.program;
      step = c.in-Budget.step;
      number = c.in-Budget.obligation;
      finding = finds_told c.args.bytes.now c.args.budget c.args.reading.now _
          (λ d. budget_text d.words c.in-Budget.program c.in-Budget.step c.in-Budget.obligation c.args.budget)
          c.in_ok-text-in-Budget.text.items
          (subst (λ p. Finds c.args.reading.now.core c.args.budget (Ok p)) c.in-Budget.is c.requires.proof)
          (c.in_ok-text-in-Budget.ensures
          ∙ ap (λ (ws : List (List ℕ)). budget_text ws c.in-Budget.program c.in-Budget.step
          c.in-Budget.obligation c.args.budget) c.as_slice-words.ensures) is;
    })
