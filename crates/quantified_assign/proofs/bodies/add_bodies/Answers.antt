use Rattle.std.proofs.Common.{◌≡◌, ℕ, suc, List, ◌∷◌, drop, sym, ap, ◌∙◌, subst}
use Rattle.std.proofs.Math.Seq.{drop-cons}
use Rattle.std.proofs.lemmas.Result.{err_from_is_err_and}
use Rattle.core_terms.specs.declared.programs.CSlot.{CSlot}
use Rattle.core_terms.specs.declared.programs.CProgram.{CProgram}
use Rattle.core_terms.specs.declared.documents.CProof.{CProof}
use Rattle.unity_syntax.specs.declared.document.Part.{Part}
use Rattle.expand_declarations.specs.Texts.{Texts}
use Rattle.expand_rules.specs.Forming.{Scope}
use Rattle.expand_steps.specs.Steps.{outer_scope}
use Rattle.quantified_assign.proofs.BodyLaws.{BodiesAhead, bodies_stop}
use Rattle.quantified_assign.proofs.bodies.add_bodies.Goals as goal

pub returns-in_err-add_part : goal.returns-in_err-add_part
returns-in_err-add_part c =
    let words : Texts = c.args.making.now.words.now in
    let s : Scope = outer_scope c.args.making.now.known.now in
    let slots : List CSlot = c.args.making.now.slots.now in
    let now : List CProgram = c.loop-part.programs in
    let made : List CProof = c.loop-part.proofs in
    let before : List CProgram = c.args.programs.now in
    let old : List CProof = c.args.proofs.now in
    let ps : List Part = c.args.parts.now in
    let i : ℕ = c.loop-part.part-index in
    let p : Part = c.part-item.result in
    let first : drop i ps ≡ p ∷ drop (suc i) ps =
    drop-cons ps i p c.loop-part-test.true ∙ ap (λ (x : Part). x ∷ drop (suc i) ps) (sym c.part-item.is) in
    let q = err_from_is_err_and c.from_residual.result c.from_residual.ensures.1 in
    rw (q.1, q.2) (bodies_stop words s slots c.in_err-add_part.field-0.0 now made p (drop (suc i) ps) before old ps
    (subst (λ (l : List Part). BodiesAhead words s slots now made l before old ps) first c.loop-part.invariant)
    c.in_err-add_part.ensures)
