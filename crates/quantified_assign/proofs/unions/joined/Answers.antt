use Rattle.std.proofs.Common.{Some, ap, subst, sym, Option, Bor}
use Rattle.std.specs.Option.{option_copied}
use Rattle.core_terms.specs.declared.programs.CProgram.{CProgram}
use Rattle.quantified_assign.specs.Bodies.{HasLight, HasLightForm}
use Rattle.quantified_assign.proofs.BodyLaws.{union_light}
use Rattle.quantified_assign.proofs.unions.joined.Goals as goal

pub returns-in_ok-join_programs-in-Some-second : goal.returns-in_ok-join_programs-in-Some-second
returns-in_ok-join_programs-in-Some-second c =
    let f : CProgram = c.in-Some.first.now in let g : CProgram = c.in-Some-second.second.now in
    let made = c.in_ok-join_programs-in-Some-second.ensures in
    let h = subst (λ (o : Option (Bor CProgram)). HasLight (option_copied o)) c.in-Some.is c.requires.first in
    let k = subst (λ (o : Option (Bor CProgram)). HasLight (option_copied o)) c.in-Some-second.is c.requires.second in
    rw (c.in-Some.is, c.in-Some-second.is) (record {
      same = ap (λ (p : CProgram). Some p) made;
      light = subst (λ (p : CProgram). HasLightForm p.initially) (sym made) (union_light c.args.name f g h k);
    })
