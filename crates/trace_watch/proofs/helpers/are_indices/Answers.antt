use Rattle.std.proofs.Common.{◌∙◌, sym}
use Rattle.std.proofs.lemmas.List.{length-map}
use Rattle.core_terms.specs.Replacing.{arg_value, arg_values}
use Rattle.trace_watch.proofs.TryLaws.{ints_differ}
use Rattle.trace_watch.proofs.helpers.are_indices.Goals as goal

pub returns-then-indices-args : goal.returns-then-indices-args
returns-then-indices-args c =
    sym (ints_differ c.args.indices.now (arg_values c.args.values.now c.args.args.now)
    (λ e. c.if-indices-args.true (e ∙ length-map c.args.args.now (arg_value c.args.values.now))))
