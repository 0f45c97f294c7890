use Rattle.std.proofs.Common.{◌≡◌, ◌++◌, drop, map}
use Rattle.told_obligations.specs.Origins as origin
use Rattle.told_obligations.proofs.adding.add_forms.Given as goal

abbrev pub invariant-loop-form : goal.invariant-loop-form
invariant-loop-form l =
    l.origins ++ map (origin.shown l.records) (drop l.form-index l.forms)
    ≡ l.initial.origins ++ map (origin.shown l.records) l.forms
