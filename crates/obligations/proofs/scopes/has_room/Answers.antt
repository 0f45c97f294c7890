use Rattle.std.proofs.Common.{◌≡◌, ◌∙◌, ◌^◌, Bool, true, false, nat_le, refl, ap, arith}
use Rattle.std.specs.Bool.{OnTrue}
use Rattle.obligations.specs.Scopes.{next_param}
use Rattle.obligations.specs.Obligations.{AreOwn}
use Rattle.obligations.proofs.NumberLaws.{obligation-own}
use Rattle.obligations.proofs.scopes.has_room.Goals as goal

pub returns : goal.returns
returns c = by_test (nat_le c.next_param.result (2 ^ 31)) refl
  where
    by_test : (b : Bool) → nat_le c.next_param.result (2 ^ 31) ≡ b → OnTrue b (AreOwn c.args.o.now.variables)
    by_test false e = tt
    by_test true e =
        let is = c.next_param.ensures ∙ ap next_param c.as_slice.ensures in
        obligation-own c.args.o.now c.requires (grind (arith, is, e))
