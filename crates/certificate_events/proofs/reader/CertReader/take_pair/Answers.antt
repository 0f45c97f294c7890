use Rattle.std.proofs.Common.{FitsSigned, refl, subst, sym, ◌∙◌, arith}
use Rattle.std.proofs.lemmas.Int.{to_z-of_z}
use mir.Syntax.{w64}
use Rattle.unity_base.specs.declared.events.CertEvent.{CertEvent}
use Rattle.certificate_events.specs.Pairs.{TakesPair}
use Rattle.certificate_events.proofs.PairLaws.{takes_pair}
use Rattle.certificate_events.proofs.reader.CertReader.take_pair.Goals as goal

pub returns-clause-takes : goal.returns-clause-takes
returns-clause-takes c = λ later ts ps pair stands.
    let fits : FitsSigned w64 c.integer_of.result = grind (arith, c.integer_of.type_inv) in
    subst (λ z. TakesPair later c.args.self.now ts ps (CertEvent.Pair z c.args.number))
    (sym (to_z-of_z w64 c.integer_of.result fits ∙ c.integer_of.ensures))
    (takes_pair later c.args.self.now c.args.self.now ts ps c.args.by c.args.number pair stands c.requires refl refl)
