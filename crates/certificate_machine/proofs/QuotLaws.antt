-- A formula that is left where a quotient is taken stays light, and so does a branch that it is settled in.
use Rattle.std.proofs.Common.{◌≡◌, ℕ, ◌≤◌, ◌^◌, max, true, Option, Some, None, List, arith, refl}
use Rattle.std.proofs.Common.{sym, ap, ◌∙◌}
use Rattle.std.specs.Int.RustNames.{unsigned_abs}
use Rattle.core_terms.specs.declared.trees.CTerm.{CTerm}
use Rattle.core_terms.specs.declared.trees.CForm.{CForm, out-CForm, roll-CForm, roll-out-CForm}
use Rattle.core_terms.specs.declared.trees.CForm.TheVariants.{AtLeast, Zero, rolls-AtLeast, rolls-Zero}
use Rattle.core_terms.specs.declared.trees.CForm.TheOpen.{CForm-F}
use Rattle.obligations.specs.declared.branches.Branch.{Branch}
use Rattle.obligations.specs.declared.branches.Replaced.{Replaced}
use Rattle.obligations.specs.declared.branches.Taken.{Taken}
use Rattle.obligations.specs.declared.branches.Variable.{Variable}
use Rattle.obligations.specs.Load.{Need, need, term_load, term_need, is_light_branch}
use Rattle.obligations.specs.Quotients.{replaced, replaced_in, without_quotient, with_quotient, low_fact, high_fact}
use Rattle.obligations.specs.Quotients.{one_more}
use Rattle.obligations.specs.Scopes.{with_next}
use Rattle.obligations.specs.Settling.{first_taken, added}
use Rattle.obligations.proofs.NeedLaws.{need-AtLeast, need-Zero, own-same, settled-light}
use Rattle.obligations.proofs.QuotientLaws.{TakenIs, taken-light}
use Rattle.certificate_machine.proofs.MachineLaws.{added-light}

-- a quotient that is taken loads no more than its formula, nor does what is left
pub record ReplacedLight (bound : ℕ) (r : Replaced) : Type 0 where
  pub of : (term_load r.taken.of).own ≤ bound
  pub rest : (need r.form).yes ≤ bound

abbrev IsLighter : ℕ → CTerm → Option Taken → Type 0
IsLighter v t None = Unit {0}
IsLighter v t (Some q) = TakenIs unsigned_abs v t q

node-light : (v : ℕ) (node : CTerm → CForm) →
    ((t : CTerm) → (need (node t)).yes ≡ max (term_need t).own (term_need t).most) → (t : CTerm) (m : Option Taken)
    (r : Replaced) (bound : ℕ) → IsLighter v t m → replaced node m ≡ Some r → (need (node t)).yes ≤ bound →
    ReplacedLight bound r
node-light v node is t None r bound p e h = absurd (cc)
node-light v node is t (Some q) r bound p e h =
    let s : record { taken = q; form = node q.rest } ≡ r = cc in
    let a = ap (λ (x : Replaced). (term_load x.taken.of).own) s in
    let b = ap (λ (x : Replaced). (need x.form).yes) s in
    let whole = is t in let rest = is q.rest in let same = own-same q.of in
    let q0 = p.of in let q1 = p.rest_own in let q2 = p.rest_most in
    record { of = omega (arith, a, whole, same, q0, h); rest = omega (arith, b, whole, rest, q1, q2, h) }

least-need : (t : CTerm) → (need (AtLeast t)).yes ≡ max (term_need t).own (term_need t).most
least-need t = ap (λ (n : Need). n.yes) (need-AtLeast unsigned_abs t)

zero-need : (t : CTerm) → (need (Zero t)).yes ≡ max (term_need t).own (term_need t).most
zero-need t = ap (λ (n : Need). n.yes) (need-Zero unsigned_abs t)

replaced-in : (v : ℕ) (f : CForm) (x : CForm-F CForm CTerm) (r : Replaced) (bound : ℕ) → out-CForm f ≡ x →
    replaced_in v x ≡ Some r → (need f).yes ≤ bound → ReplacedLight bound r
replaced-in v f CForm-F.Top r bound e h n = absurd (cc)
replaced-in v f CForm-F.Bottom r bound e h n = absurd (cc)
replaced-in v f (CForm-F.AtLeast t) r bound e h n =
    let same = ap (λ g. (need g).yes) (sym (roll-out-CForm f) ∙ ap roll-CForm e ∙ rolls-AtLeast t) in
    node-light v AtLeast least-need t (first_taken v t) r bound (taken-light unsigned_abs v t) h
    (omega (arith, same, n))
replaced-in v f (CForm-F.Zero t) r bound e h n =
    let same = ap (λ g. (need g).yes) (sym (roll-out-CForm f) ∙ ap roll-CForm e ∙ rolls-Zero t) in
    node-light v Zero zero-need t (first_taken v t) r bound (taken-light unsigned_abs v t) h
    (omega (arith, same, n))
replaced-in v f (CForm-F.Not g) r bound e h n = absurd (cc)
replaced-in v f (CForm-F.And g k) r bound e h n = absurd (cc)
replaced-in v f (CForm-F.Or g k) r bound e h n = absurd (cc)

pub replaced-light : (v : ℕ) (f : CForm) (r : Replaced) (bound : ℕ) → without_quotient v f ≡ Some r →
    (need f).yes ≤ bound → ReplacedLight bound r
replaced-light v f r bound h n = replaced-in v f (out-CForm f) r bound refl h n

pub quotient-light : (us : List Variable) (r : Replaced) (old new : Branch) → new ≡ with_quotient us r old →
    (need r.form).yes ≤ 2 ^ 63 → is_light_branch (2 ^ 63) old ≡ true → is_light_branch (2 ^ 63) new ≡ true
quotient-light us r old new e n h =
    let low = added (one_more old) (low_fact us r.taken) in
    let high = added low (high_fact us r.taken) in
    ap (is_light_branch (2 ^ 63)) e
    ∙ settled-light (with_next us) (2 ^ 63) r.form high n
    (added-light (high_fact us r.taken) low high refl (added-light (low_fact us r.taken) (one_more old) low refl h))
