use Rattle.std.proofs.Common.{ℤ, true, false, not, ap, sym, subst, ◌∙◌, rules, w64, FitsSigned}
use Rattle.std.proofs.lemmas.Int.{to_z-of_z}
use Rattle.core_terms.specs.declared.trees.CTerm.TheVariants.{Div, Mod}
use Rattle.std.specs.Bool.{OnTrue}
use Rattle.meaning_states.specs.Division.{divisor, floored}
use Rattle.leadsto_rules.specs.Lines.{line_at, difference_line, multiple_line}
use Rattle.leadsto_rules.specs.Stretches.{IsLineOn, IsTruthOn}
use Rattle.leadsto_rules.proofs.PartLaws.{on-pair, on-Scale, on-Div, on-Mod, on-Ite, on-sense, on-Not, on-joined}
use Rattle.leadsto_rules.proofs.PartLaws.{fewer_numbers, shorter_line, on_true_weaker}
use Rattle.leadsto_rules.proofs.stretches.+stretches.Goals as goal

pub truth_from-returns-in_ok-truth_from-in-Not-clause-truth :
    goal.truth_from-returns-in_ok-truth_from-in-Not-clause-truth
truth_from-returns-in_ok-truth_from-in-Not-clause-truth t c args puts =
    let z : ℤ = c.args.start.now.number in
    let n = c.truth_from.new.reach in
    let b = c.in_ok-truth_from-in-Not.field-0 in
    let known = subst (λ f. IsTruthOn args z n f b) c.get.ensures (c.in_ok-truth_from-in-Not.ensures.truth args puts) in
    subst (λ f. IsTruthOn args z n f (not b)) (sym c.in-Not.is) (on-Not args z n c.in-Not.g b known)

pub sense_from-returns-then-line_from-clause-truth : goal.sense_from-returns-then-line_from-clause-truth
sense_from-returns-then-line_from-clause-truth t c args puts =
    on-sense args c.args.start.now.number c.args.sense c.line_from.new.reach c.stretch_of-stretch.result.reach
    c.args.t.now c.line_from.new.line c.stretch_of-stretch.result.holds (c.if-line_from.ensures.line args puts)
    c.stretch_of-stretch.ensures.within c.stretch_of-stretch.ensures.truth

pub joined_from-returns-clause-truth : goal.joined_from-returns-clause-truth
joined_from-returns-clause-truth t c args puts =
    let z : ℤ = c.args.start.now.number in
    let m = c.truth_from.new.reach in
    let n = c.truth_from-2.new.reach in
    on-joined args z c.args.joining n c.args.g.now c.args.h.now c.in_ok-first.first c.in_ok-second.second _
    (subst (λ f. IsTruthOn args z n f c.in_ok-first.first) c.get-2.ensures (c.in_ok-first.ensures.truth args puts))
    (fewer_numbers args z c.args.h.now c.in_ok-second.second m n c.truth_from-2.ensures.reach
    (subst (λ f. IsTruthOn args z m f c.in_ok-second.second) c.get.ensures (c.in_ok-second.ensures.truth args puts)))
    c.joined_truth.ensures

pub line_from-returns-then-line_from-clause-line : goal.line_from-returns-then-line_from-clause-line
line_from-returns-then-line_from-clause-line t c args puts =
    let z : ℤ = c.args.start.now.number in
    let n = c.line_from.new.reach in
    let l = c.line_from.new.line in
    let fits : FitsSigned w64 c.in-Scale.k = search rules in
    let part = subst (λ a. IsLineOn args z n a l) c.get.ensures (c.if-line_from.ensures.line args puts) in
    on_true_weaker _ _ c.multiply.result
    (λ e. subst (λ u. IsLineOn args z n u c.multiply.new.line) (sym c.in-Scale.is)
    (on-Scale args z n c.in-Scale.k c.in-Scale.a l c.multiply.new.line part
    (e ∙ ap (λ k. multiple_line k l) (to_z-of_z w64 c.in-Scale.k fits)))) c.multiply.ensures

pub line_from-returns-in-Div-clause-line : goal.line_from-returns-in-Div-clause-line
line_from-returns-in-Div-clause-line t c args puts =
    let z : ℤ = c.args.start.now.number in
    let n = c.quotient_from.new.reach in
    let l = c.quotient_from.new.line in
    let fits : FitsSigned w64 c.in-Div.k = search rules in
    subst (λ u. OnTrue c.quotient_from.result (IsLineOn args z n u l)) (sym c.in-Div.is)
    (subst (λ k. OnTrue c.quotient_from.result (IsLineOn args z n (Div c.in-Div.a k) l))
    (to_z-of_z w64 c.in-Div.k fits) (c.quotient_from.ensures.line args puts))

pub line_from-returns-in-Mod-clause-line : goal.line_from-returns-in-Mod-clause-line
line_from-returns-in-Mod-clause-line t c args puts =
    let z : ℤ = c.args.start.now.number in
    let n = c.remainder_from.new.reach in
    let l = c.remainder_from.new.line in
    let fits : FitsSigned w64 c.in-Mod.k = search rules in
    subst (λ u. OnTrue c.remainder_from.result (IsLineOn args z n u l)) (sym c.in-Mod.is)
    (subst (λ k. OnTrue c.remainder_from.result (IsLineOn args z n (Mod c.in-Mod.a k) l))
    (to_z-of_z w64 c.in-Mod.k fits) (c.remainder_from.ensures.line args puts))

pub quotient_from-returns-clause-line : goal.quotient_from-returns-clause-line
quotient_from-returns-clause-line t c args puts =
    let z : ℤ = c.args.start.now.number in
    let m = c.line_from.new.reach in
    let l = c.line_from.new.line in
    let fits : FitsSigned w64 c.args.k = search rules in
    on-Div args z m c.divide.result c.args.a.now c.args.k l c.divide.new.line
    (subst (λ a. IsLineOn args z m a l) c.get.ensures (c.if-not-line_from.ensures.line args puts))
    c.divide.ensures.within
    (λ k h. ap (λ d. floored (line_at l k) d) (sym (to_z-of_z w64 c.args.k fits)) ∙ c.divide.ensures.quotient k h)

pub remainder_from-returns-clause-line : goal.remainder_from-returns-clause-line
remainder_from-returns-clause-line t c args puts =
    let z : ℤ = c.args.start.now.number in
    let m = c.line_from.new.reach in
    let l = c.line_from.new.line in
    let q = c.divide.new.line in
    let fits : FitsSigned w64 c.args.k = search rules in
    let part = subst (λ a. IsLineOn args z m a l) c.get.ensures (c.if-not-line_from.ensures.line args puts) in
    on_true_weaker _ _ c.take_rest.result
    (λ e. on-Mod args z m c.divide.result c.args.a.now c.args.k l q c.take_rest.new.line part c.divide.ensures.within
    (λ k h. ap (λ d. floored (line_at l k) d) (sym (to_z-of_z w64 c.args.k fits)) ∙ c.divide.ensures.quotient k h)
    (e ∙ ap (λ d. difference_line l (multiple_line (divisor d) q)) (to_z-of_z w64 c.args.k fits)))
    c.take_rest.ensures

pub choice_from-returns-in-Some-true-clause-line : goal.choice_from-returns-in-Some-true-clause-line
choice_from-returns-in-Some-true-clause-line t c args puts =
    let z : ℤ = c.args.start.now.number in
    let m = c.truth_from.new.reach in
    let n = c.line_from.new.reach in
    let l = c.line_from.new.line in
    let known = subst (λ f. IsTruthOn args z m f true) c.get.ensures
    (subst (λ b. IsTruthOn args z m c.get.result.now b) c.in-Some-true.field-0-test
    (c.in-Some-true.ensures.truth args puts)) in
    on_true_weaker _ _ c.line_from.result
    (λ h. on-Ite args z n c.args.c.now c.args.a.now c.args.b.now true l
    (fewer_numbers args z c.args.c.now true m n c.line_from.ensures.reach known)
    (subst (λ a. IsLineOn args z n a l) c.get-in-Some-true.ensures h)) (c.line_from.ensures.line args puts)

pub choice_from-returns-in-Some-false-clause-line : goal.choice_from-returns-in-Some-false-clause-line
choice_from-returns-in-Some-false-clause-line t c args puts =
    let z : ℤ = c.args.start.now.number in
    let m = c.truth_from.new.reach in
    let n = c.line_from-in-Some-false.new.reach in
    let l = c.line_from-in-Some-false.new.line in
    let known = subst (λ f. IsTruthOn args z m f false) c.get.ensures
    (subst (λ b. IsTruthOn args z m c.get.result.now b) c.in-Some-false.field-0-test
    (c.in-Some-false.ensures.truth args puts)) in
    on_true_weaker _ _ c.line_from-in-Some-false.result
    (λ h. on-Ite args z n c.args.c.now c.args.a.now c.args.b.now false l
    (fewer_numbers args z c.args.c.now false m n c.line_from-in-Some-false.ensures.reach known)
    (subst (λ a. IsLineOn args z n a l) c.get-in-Some-false.ensures h))
    (c.line_from-in-Some-false.ensures.line args puts)

pub pair_from-returns-clause-line : goal.pair_from-returns-clause-line
pair_from-returns-clause-line t c args puts =
    let z : ℤ = c.args.start.now.number in
    let m = c.line_from.new.reach in
    let n = c.line_from-2.new.reach in
    let l = c.line_from-2.new.line in
    let k = c.line_from.new.line in
    let first = subst (λ x. IsLineOn args z n x l) c.get-2.ensures (c.if-not-line_from-2.ensures.line args puts) in
    let second = shorter_line args z c.args.b.now k m n c.line_from-2.ensures.reach
    (subst (λ x. IsLineOn args z m x k) c.get.ensures (c.if-not-line_from.ensures.line args puts)) in
    on_true_weaker _ _ c.pair.result
    (λ e. on-pair args z c.args.which n c.args.a.now c.args.b.now l k c.pair.new.line first second e) c.pair.ensures
