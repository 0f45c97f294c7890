use Rattle.std.proofs.Common.{subst}
use Rattle.proof_script.specs.declared.finding.Halt.{Halt}
use Rattle.proof_script.specs.Searches.{Halts}
use Rattle.proof_script.proofs.SearchLaws.{false_within, short_within}
use Rattle.proof_script.proofs.proving.halted.Goals as goal

pub refuted-requires : goal.refuted-requires
refuted-requires c =
    let f = c.args.finding in
    let os = c.args.plan.now.obligations in
    c.requires.owned c.in-Refuted.place (false_within os c.in-Refuted.place f.variables f.values
    (subst (λ (h : Halt). Halts h os c.requires.halts.0 f) c.in-Refuted.is c.requires.halts.1))

pub returns-in-Refuted : goal.returns-in-Refuted
returns-in-Refuted c = λ d budget same h. c.refuted.ensures d budget same
    (subst (λ (x : Halt). Halts x c.args.plan.now.obligations budget c.args.finding) c.in-Refuted.is h)

pub short-requires : goal.short-requires
short-requires c =
    let os = c.args.plan.now.obligations in
    c.requires.owned c.in-Short.place (short_within os c.in-Short.place c.requires.halts.0
    (subst (λ (h : Halt). Halts h os c.requires.halts.0 c.args.finding) c.in-Short.is c.requires.halts.1))

pub returns-in-Short : goal.returns-in-Short
returns-in-Short c = λ d budget same h. c.short.ensures d budget c.args.finding same
    (subst (λ (x : Halt). Halts x c.args.plan.now.obligations budget c.args.finding) c.in-Short.is h)
