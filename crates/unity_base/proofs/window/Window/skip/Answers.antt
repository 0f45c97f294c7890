use Rattle.std.proofs.Common.{ℕ, refl, arith}
use Rattle.std.proofs.lemmas.List.{length-take, length-drop}
use Rattle.unity_base.specs.Window.{held}
use Rattle.unity_base.proofs.Windows.{consumed, dropped}
use Rattle.unity_base.proofs.window.Window.skip.Goals as goal

pub returns : goal.returns
returns c =
    let w = c.args.self.now in
    let n = c.args.count in
    let rest = consumed w.buffer.items w.from w.to n (omega (arith, length-take {A = ℕ}, length-drop {A = ℕ})) in
    record {
      dropped = record { rest = rest; at = refl; limit = refl };
      coming = λ left. dropped left (held w) _ n rest;
    }
