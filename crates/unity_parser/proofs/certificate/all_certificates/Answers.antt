use Rattle.std.proofs.Common.{◌≡◌, ◌+◌, ◌<◌, arith, length, sym, ◌∙◌}
use Rattle.std.proofs.lemmas.Result.{err_from_is_err_and}
use Rattle.grammar_theory.specs.Reader.{count}
use Rattle.unity_syntax.specs.View.{view_certificate}
use Rattle.parser_programs.specs.from_parser_expressions.Gives.{remaining}
use Rattle.unity_parser.proofs.CertificateLoops.{certificates_go_on, certificates_end, certificates_fail}
use Rattle.unity_parser.proofs.CertificateLoops.{certificate_shorter, some_left, count_left}
use Rattle.unity_parser.proofs.certificate.all_certificates.Goals as goal

pub items-smaller : goal.items-smaller
items-smaller c = certificate_shorter c.args.depth (c.items.count + 1) (remaining c.items.rest)
    (view_certificate c.in_ok-item.item) (remaining c.in_ok-item.later) c.in_ok-item.ensures

pub items-preserved : goal.items-preserved
items-preserved c =
    let less : count (remaining c.in_ok-item.later) < count (remaining c.items.rest) = certificate_shorter c.args.depth
    (c.items.count + 1) (remaining c.items.rest) (view_certificate c.in_ok-item.item)
    (remaining c.in_ok-item.later) c.in_ok-item.ensures in (
      certificates_go_on c.args.depth (remaining c.args.text) c.items.found c.items.count (remaining c.items.rest)
          c.items.invariant.0 (sym c.begins_number.ensures ∙ c.items-test.true) c.in_ok-item.item
          (remaining c.in_ok-item.later) c.in_ok-item.ensures _ c.in_ok-push.ensures.ok,
      omega arith,
    )

pub returns : goal.returns
returns c = certificates_end c.args.depth (remaining c.args.text) c.items.found c.items.count (remaining c.items.rest)
    c.items.invariant.0 (sym c.begins_number.ensures ∙ c.items-test.false)

pub returns-in_err-item : goal.returns-in_err-item
returns-in_err-item c = let p = err_from_is_err_and c.from_residual.result c.from_residual.ensures.1 in rw (p.1, p.2)
    (certificates_fail c.args.depth (remaining c.args.text) c.items.found c.items.count (remaining c.items.rest)
    c.items.invariant.0 (sym c.begins_number.ensures ∙ c.items-test.true) _ c.in_err-item.ensures)

pub overflow_add-number : goal.overflow_add-number
overflow_add-number c =
    let some : 0 < count (remaining c.items.rest) = some_left (remaining c.items.rest)
    (sym c.begins_number.ensures ∙ c.items-test.true) in
    let size : count (remaining c.args.text) ≡ length c.args.text.tokens.now = count_left c.args.text in
    omega arith
