use Rattle.std.proofs.Common.{rules, ◌≡◌, ◌++◌, ℕ, List, length, ◌∙◌, ap}
use Rattle.cli_ring.specs.Rings.{ring_bytes}
use Rattle.cli_texts.specs.Verdicts.{accepted_lines}
use Rattle.unity_cli.specs.Answer.Demo.{ring_line}
use Rattle.unity_cli.specs.Input.{words_in}
use Rattle.unity_cli.proofs.Shown.{ring_read, shown_alone, shown_planned}
use Rattle.unity_cli.proofs.demo.show.Goals as goal

pub find-requires-clause-input : goal.find-requires-clause-input
find-requires-clause-input c =
    let read = ring_read c.args.places c.in_ok-ring.ring.items c.deref.result.now c.deref-2.result.now
    c.in_ok-input.input c.in_ok-ring.ensures c.deref.ensures.value c.deref-2.ensures.value c.in_ok-input.ensures in
    (ring_bytes c.args.places, read.0, read.1)

pub returns-in_default : goal.returns-in_default
returns-in_default c =
    let read = ring_read c.args.places c.in_ok-ring.ring.items c.deref.result.now c.deref-2.result.now
    c.in_ok-input.input c.in_ok-ring.ensures c.deref.ensures.value c.deref-2.ensures.value c.in_ok-input.ensures in
    shown_alone c.args.places (words_in c.in_ok-input.input) c.in_ok-answer.field-0.answer c.in_ok-answer.field-0.plan
    (c.in_ok-answer.ensures.answer (ring_bytes c.args.places) read.0 read.1) c.in_ok-answer.ensures.plan
    c.in_default.is

pub returns : goal.returns
returns c =
    let read = ring_read c.args.places c.in_ok-ring.ring.items c.deref.result.now c.deref-2.result.now
    c.in_ok-input.input c.in_ok-ring.ensures c.deref.ensures.value c.deref-2.ensures.value c.in_ok-input.ensures in
    let whole : c.extend_from_slice.new.self.items ≡ ring_line c.args.places ++ c.in_ok-verdict.verdict.items =
    search rules in
    shown_planned c.args.places (words_in c.in_ok-input.input) c.in_ok-answer.field-0.answer
    c.in_ok-answer.field-0.plan c.in-Some.plan c.in_ok-verdict.verdict.items c.extend_from_slice.new.self.items
    (c.in_ok-answer.ensures.answer (ring_bytes c.args.places) read.0 read.1) c.in_ok-answer.ensures.plan
    c.in-Some.is
    (c.in_ok-verdict.ensures
    ∙ ap (λ (n : ℕ). accepted_lines c.words_of.result.now c.as_slice.result.now n) c.len-obligations.ensures
    ∙ ap (λ (ws : List (List ℕ)). accepted_lines ws c.as_slice.result.now (length c.in-Some.plan.obligations))
    c.words_of.ensures
    ∙ ap (λ rs. accepted_lines (words_in c.in_ok-input.input) rs (length c.in-Some.plan.obligations))
    c.as_slice.ensures) whole
