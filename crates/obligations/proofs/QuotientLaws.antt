-- What a quotient that is taken weighs and is worth.
use Rattle.std.proofs.Common.{◌≡◌, ℕ, ◌+◌, ◌*◌, ◌≤◌, max, ℤ, pos, negsuc, ◌+ℤ◌, ◌*ℤ◌, List, Option, Some, None}
use Rattle.std.proofs.Common.{arith}
use Rattle.std.proofs.Common.{ap, ◌∙◌, mul-le-mul, le_refl}
use Rattle.std.proofs.lemmas.Int.{ints}
use Rattle.std.specs.Int.RustNames.{unsigned_abs}
use Rattle.core_terms.specs.declared.trees.CTerm.{CTerm}
use Rattle.core_terms.specs.declared.trees.CTerm.TheVariants.{Param, Add, Sub, Scale, Div, Mod}
use Rattle.core_terms.specs.from_meaning_states.Division.{divisor}
use Rattle.obligations.specs.declared.branches.Variable.{Variable}
use Rattle.obligations.specs.declared.branches.Line.{Line}
use Rattle.obligations.specs.declared.branches.Taken.{Taken}
use Rattle.obligations.specs.LinearForms.{linear, negated}
use Rattle.obligations.specs.Load.{Load, term_load, term_needs}
use Rattle.obligations.specs.Settling.{first_taken, first_of, or_whole}
use Rattle.obligations.proofs.LoadLaws.{norm-load}
use Rattle.obligations.proofs.NeedLaws.{need-Param, need-Add, need-Sub, need-Scale, need-Div, need-Mod}
use Rattle.obligations.proofs.TakenLaws.{whole_quotient, whole_remainder, taken_keeps}

-- the constant of a negative
abs-negative : (z : ℤ) → unsigned_abs (pos 0 +ℤ negsuc 0 *ℤ z) ≡ unsigned_abs z
abs-negative (pos n) = grind (arith, ints)
abs-negative (negsuc n) = grind (arith, ints)

pub negative-constant : (vs : List Variable) (t : CTerm) (l : Line) (bound : ℕ) → l ≡ negated vs (linear vs t) →
    (term_load t).own ≤ bound → unsigned_abs l.constant ≤ bound
negative-constant vs t l bound e h =
    let n = norm-load vs t in
    let same = ap (λ (x : Line). unsigned_abs x.constant) e ∙ abs-negative (linear vs t).constant in
    omega (arith, n, same, h)

pub ruleset constant_laws = negative-constant

-- A quotient that is taken is no heavier than its term.
module _ (size : ℤ → ℕ) (v : ℕ) where
  abbrev N : CTerm → Load
  N = term_needs size

  pub record TakenIs (t : CTerm) (q : Taken) : Type 0 where
    pub of : (N q.of).own ≤ (N t).most
    pub divisor : unsigned_abs q.divisor ≤ (N t).most
    pub rest_own : (N q.rest).own ≤ (N t).own
    pub rest_most : (N q.rest).most ≤ (N t).most

  abbrev pub Lighter : CTerm → Option Taken → Type 0
  Lighter t None = Unit {0}
  Lighter t (Some q) = TakenIs t q

  pair-light : (node : CTerm → CTerm → CTerm) →
      ((a b : CTerm) → N (node a b) ≡ record { own = (N a).own + (N b).own; most = max (N a).most (N b).most }) →
      (a b : CTerm) (m n : Option Taken) → Lighter a m → Lighter b n →
      Lighter (node a b) (first_of (λ x. node x b) (λ y. node a y) m n)
  pair-light node is a b None None p q = tt
  pair-light node is a b None (Some r) p q =
      let t0 = ap (λ (x : Load). x.own) (is a b) in let t1 = ap (λ (x : Load). x.most) (is a b) in
      let y0 = ap (λ (x : Load). x.own) (is a r.rest) in let y1 = ap (λ (x : Load). x.most) (is a r.rest) in
      let q0 = q.of in let q1 = q.divisor in let q2 = q.rest_own in let q3 = q.rest_most in
      record {
        of = omega (arith, q0, t1);
        divisor = omega (arith, q1, t1);
        rest_own = omega (arith, q2, t0, y0);
        rest_most = omega (arith, q3, t1, y1);
      }
  pair-light node is a b (Some r) n p q =
      let t0 = ap (λ (x : Load). x.own) (is a b) in let t1 = ap (λ (x : Load). x.most) (is a b) in
      let y0 = ap (λ (x : Load). x.own) (is r.rest b) in let y1 = ap (λ (x : Load). x.most) (is r.rest b) in
      let q0 = p.of in let q1 = p.divisor in let q2 = p.rest_own in let q3 = p.rest_most in
      record {
        of = omega (arith, q0, t1);
        divisor = omega (arith, q1, t1);
        rest_own = omega (arith, q2, t0, y0);
        rest_most = omega (arith, q3, t1, y1);
      }

  scale-light : (k : ℤ) (a : CTerm) (m : Option Taken) → Lighter a m →
      Lighter (Scale k a) (first_of (λ x. Scale k x) (λ x. Scale k x) m None)
  scale-light k a None p = tt
  scale-light k a (Some r) p =
      let t0 = ap (λ (x : Load). x.own) (need-Scale size k a) in
      let t1 = ap (λ (x : Load). x.most) (need-Scale size k a) in
      let y0 = ap (λ (x : Load). x.own) (need-Scale size k r.rest) in
      let y1 = ap (λ (x : Load). x.most) (need-Scale size k r.rest) in
      let m0 = mul-le-mul (le_refl (unsigned_abs k)) p.rest_own in
      let q0 = p.of in let q1 = p.divisor in let q3 = p.rest_most in
      record {
        of = omega (arith, q0, t1);
        divisor = omega (arith, q1, t1);
        rest_own = omega (arith, m0, t0, y0);
        rest_most = omega (arith, q3, t1, y1);
      }

  div-light : (a : CTerm) (k : ℤ) (m : Option Taken) → Lighter a m →
      Lighter (Div a k) (or_whole (λ x. Div x k) m (whole_quotient v a k))
  div-light a k None p =
      let t0 = ap (λ (x : Load). x.own) (need-Div size a k) in
      let t1 = ap (λ (x : Load). x.most) (need-Div size a k) in
      let y0 = ap (λ (x : Load). x.own) (need-Param size v) in
      let y1 = ap (λ (x : Load). x.most) (need-Param size v) in
      record {
        of = omega (arith, t1);
        divisor = omega (arith, t1);
        rest_own = omega (arith, t0, y0);
        rest_most = omega (arith, t1, y1);
      }
  div-light a k (Some r) p =
      let t0 = ap (λ (x : Load). x.own) (need-Div size a k) in
      let t1 = ap (λ (x : Load). x.most) (need-Div size a k) in
      let y0 = ap (λ (x : Load). x.own) (need-Div size r.rest k) in
      let y1 = ap (λ (x : Load). x.most) (need-Div size r.rest k) in
      let q0 = p.of in let q1 = p.divisor in let q2 = p.rest_own in let q3 = p.rest_most in
      record {
        of = omega (arith, q0, t1);
        divisor = omega (arith, q1, t1);
        rest_own = omega (arith, q2, t0, y0);
        rest_most = omega (arith, q2, q3, t1, y1);
      }

  mod-light : (a : CTerm) (k : ℤ) (m : Option Taken) → Lighter a m →
      Lighter (Mod a k) (or_whole (λ x. Mod x k) m (whole_remainder v a k))
  mod-light a k None p =
      let t0 = ap (λ (x : Load). x.own) (need-Mod size a k) in
      let t1 = ap (λ (x : Load). x.most) (need-Mod size a k) in
      let y0 = ap (λ (x : Load). x.own) (need-Param size v) in
      let y1 = ap (λ (x : Load). x.most) (need-Param size v) in
      let z0 = ap (λ (x : Load). x.own) (need-Scale size (divisor k) (Param v)) in
      let z1 = ap (λ (x : Load). x.most) (need-Scale size (divisor k) (Param v)) in
      let u0 = ap (λ (x : Load). x.own) (need-Sub size a (Scale (divisor k) (Param v))) in
      let u1 = ap (λ (x : Load). x.most) (need-Sub size a (Scale (divisor k) (Param v))) in
      let one = ap (λ n. unsigned_abs (divisor k) * n) y0 in
      record {
        of = omega (arith, t1);
        divisor = omega (arith, t1);
        rest_own = omega (arith, t0, one, z0, u0);
        rest_most = omega (arith, t1, y1, z1, u1);
      }
  mod-light a k (Some r) p =
      let t0 = ap (λ (x : Load). x.own) (need-Mod size a k) in
      let t1 = ap (λ (x : Load). x.most) (need-Mod size a k) in
      let y0 = ap (λ (x : Load). x.own) (need-Mod size r.rest k) in
      let y1 = ap (λ (x : Load). x.most) (need-Mod size r.rest k) in
      let q0 = p.of in let q1 = p.divisor in let q2 = p.rest_own in let q3 = p.rest_most in
      record {
        of = omega (arith, q0, t1);
        divisor = omega (arith, q1, t1);
        rest_own = omega (arith, q2, t0, y0);
        rest_most = omega (arith, q2, q3, t1, y1);
      }

  pub taken-light : (t : CTerm) → Lighter t (first_taken v t)
  taken-light = taken_keeps v Lighter (record {
    of_const = λ c. tt;
    of_slot = λ n. tt;
    of_param = λ n. tt;
    of_add = pair-light Add (need-Add size);
    of_sub = pair-light Sub (need-Sub size);
    of_scale = scale-light;
    of_div = div-light;
    of_mod = mod-light;
    of_ite = λ c a b. tt;
  })
