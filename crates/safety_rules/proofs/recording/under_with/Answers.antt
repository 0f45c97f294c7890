use Rattle.std.proofs.Common.{[], ap, sym, ◌∙◌}
use Rattle.rules_table.specs.Table.{with_each}
use Rattle.safety_rules.proofs.EachLaws.{each-append}
use Rattle.safety_rules.proofs.recording.under_with.Goals as goal

pub returns : goal.returns
returns c =
    c.in_ok-add_each-3.ensures
    ∙ ap (λ seen. with_each seen c.args.second.now)
    (c.in_ok-add_each-2.ensures ∙ ap (λ seen. with_each seen c.args.first.now)
    (c.in_ok-add_each.ensures ∙ ap (λ seen. with_each seen c.args.pl.now.using.now) c.new-under.ensures))
    ∙ sym (ap (λ seen. seen) (each-append [] c.args.pl.now.using.now (c.args.first.now) (c.args.second.now)))
