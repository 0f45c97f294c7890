use Rattle.std.proofs.Common.{◌≡◌, ℕ, suc, ◌+◌, List, [], ◌∷◌, ◌++◌, drop, slice_get, sym, ap, ◌∙◌, append_assoc, arith}
use Rattle.std.proofs.Common.{refl}
use Rattle.core_terms.specs.declared.documents.CDocument.{CDocument}
use Rattle.obligations.specs.declared.branches.Variable.{Variable}
use Rattle.certificate_printing.specs.Findings.{line_of, variable_lines}
use Rattle.certificate_printing.proofs.LineLaws.{lines_at, lines_end}
use Rattle.certificate_printing.proofs.findings.push_variables.Goals as goal

next : (k : ℕ) → k + 1 ≡ suc k
next k = omega arith

no_more : (xs : List ℕ) → xs ≡ xs ++ []
no_more [] = refl
no_more (x ∷ xs) = ap (λ ys. x ∷ ys) (no_more xs)

pub loop-place-preserved : goal.loop-place-preserved
loop-place-preserved c =
    let d : CDocument = c.args.doc.now in
    let names : List ℕ = c.args.names.now in
    let vs : List Variable = c.args.variables.now in
    let zs = c.args.values.now in
    let k : ℕ = c.loop-place.place in
    let line : List ℕ = line_of d names (slice_get vs k) (slice_get zs k) in
    let rest : List ℕ = variable_lines d names (drop (suc k) vs) (drop (suc k) zs) in
    ap (λ (n : ℕ). c.push_at.new.text.items ++ variable_lines d names (drop n vs) (drop n zs)) (next k)
    ∙ ap (λ (t : List ℕ). t ++ rest) c.in_ok-push_at.ensures
    ∙ append_assoc c.loop-place.text.items line rest
    ∙ ap (λ (t : List ℕ). c.loop-place.text.items ++ t) (sym (lines_at d names k vs zs))
    ∙ c.loop-place.invariant

pub returns : goal.returns
returns c =
    no_more c.loop-place.text.items
    ∙ ap (λ (t : List ℕ). c.loop-place.text.items ++ t)
    (sym (lines_end c.args.doc.now c.args.names.now c.loop-place.place c.args.variables.now c.args.values.now
    c.loop-place-test.false))
    ∙ c.loop-place.invariant
