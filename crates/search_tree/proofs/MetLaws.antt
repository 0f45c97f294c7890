-- Values that make a branch hold which a node opens make the branch hold that the node is taken at.
use Rattle.std.proofs.Common.{◌≡◌, ℕ, suc, ◌+◌, ℤ, Bool, true, false, ◌&&◌, ◌||◌, Some, List, [], ◌∷◌, ◌++◌, length}
use Rattle.std.proofs.Common.{arith}
use Rattle.std.proofs.Common.{refl, sym, ap, ◌∙◌}
use Rattle.std.proofs.lemmas.Bool.{and_parts}
use Rattle.core_terms.specs.declared.trees.CForm.{CForm, out-CForm}
use Rattle.obligations.specs.declared.branches.Branch.{Branch}
use Rattle.obligations.specs.declared.branches.Fact.{Fact}
use Rattle.obligations.specs.declared.branches.Replaced.{Replaced}
use Rattle.obligations.specs.declared.branches.Variable.{Variable}
use Rattle.obligations.specs.Closed.{Waits, IsClosed}
use Rattle.obligations.specs.LinearForms.{fact_holds}
use Rattle.obligations.specs.Plain.{waiting_only}
use Rattle.obligations.specs.Quotients.{without_quotient, with_quotient}
use Rattle.obligations.specs.Scopes.{next_param, scope_of, with_next}
use Rattle.obligations.specs.Settling.{settled, sides, added, form_at, branch_holds}
use Rattle.obligations.proofs.ScopeLaws.{scope-length}
use Rattle.obligations.proofs.SettlingLaws.{settled-holds}
use Rattle.obligations.proofs.TakenHolds.{quotient-back}
use Rattle.certificate_rules.proofs.RefutationLaws.{side_in, holds-without, holds-added}
use Rattle.search_tree.specs.Searching.{Met}

or-left : (a b : Bool) → a ≡ true → (a || b) ≡ true
or-left true b e = refl
or-left false b e = cc

or-right : (a b : Bool) → b ≡ true → (a || b) ≡ true
or-right true b e = refl
or-right false b e = e

long-both : (xs ys : List ℤ) → length (xs ++ ys) ≡ length xs + length ys
long-both [] ys = omega arith
long-both (x ∷ xs) ys = let ih = long-both xs ys in omega (arith, ih)

pub long-scope : (vs : List Variable) (b : Branch) (values more : List ℤ) → length values ≡ length vs →
    length more ≡ b.added → length (values ++ more) ≡ length (scope_of vs b)
long-scope vs b values more e q =
    let l = long-both values more in let s = scope-length vs b.added in omega (arith, l, s, e, q)

-- a formula holds where another one does
abbrev Follows : CForm → CForm → Type 0
Follows f g = (us : List Variable) (ws : List ℤ) → length ws ≡ length us → form_at us ws g ≡ true →
    form_at us ws f ≡ true

side-met : (vs : List Variable) (f g : CForm) (b : Branch) (values : List ℤ) → Follows f g →
    Met vs (settled (scope_of vs b) g b) values → Met vs (waiting_only b (f ∷ b.waiting)) values
side-met vs f g b values up m =
    let h = m.holds in
    let us : List Variable = scope_of vs b in
    let ws : List ℤ = values ++ h.0 in
    let long = long-scope vs b values h.0 m.long h.1 in
    let parts = and_parts (branch_holds us ws b) (form_at us ws g) (sym (settled-holds us ws g b long) ∙ h.2) in
    record {
      long = m.long;
      holds = (
        h.0,
        h.1,
        holds-without us ws long (waiting_only b (f ∷ b.waiting)) 0 f refl ∙ ap
            (λ z. z && form_at us ws f) parts.0 ∙ up us ws long parts.1,
      );
    }

pub first-met : (vs : List Variable) (f : CForm) (b : Branch) (values : List ℤ) →
    Met vs (settled (scope_of vs b) (sides f).0 b) values → Met vs (waiting_only b (f ∷ b.waiting)) values
first-met vs f b values = side-met vs f (sides f).0 b values
    (λ us ws long e. side_in us ws long f (out-CForm f) refl ∙ or-left (form_at us ws (sides f).0)
    (form_at us ws (sides f).1) e)

pub second-met : (vs : List Variable) (f : CForm) (b : Branch) (values : List ℤ) →
    Met vs (settled (scope_of vs b) (sides f).1 b) values → Met vs (waiting_only b (f ∷ b.waiting)) values
second-met vs f b values = side-met vs f (sides f).1 b values
    (λ us ws long e. side_in us ws long f (out-CForm f) refl ∙ or-right (form_at us ws (sides f).0)
    (form_at us ws (sides f).1) e)

pub added-met : (vs : List Variable) (b : Branch) (f : Fact) (values : List ℤ) → Met vs (added b f) values →
    Met vs b values
added-met vs b f values m =
    let h = m.holds in
    let us : List Variable = scope_of vs b in
    let ws : List ℤ = values ++ h.0 in
    let long = long-scope vs b values h.0 m.long h.1 in
    record {
      long = m.long;
      holds = (
        h.0,
        h.1,
        (and_parts (branch_holds us ws b) (fact_holds ws f)
            (sym (holds-added us ws long b f) ∙ h.2)).0,
      );
    }

-- a list of some length without its last item, and that item
record Parted (xs : List ℤ) (n : ℕ) : Type 0 where
  front : List ℤ
  last : ℤ
  is : xs ≡ front ++ last ∷ []
  long : length front ≡ n

part : (xs : List ℤ) (n : ℕ) → length xs ≡ suc n → Parted xs n
part [] n e = absurd (omega (arith, e))
part (x ∷ []) n e = record { front = []; last = x; is = refl; long = omega (arith, e) }
part (x ∷ y ∷ ys) n e =
    let p = part (y ∷ ys) (length ys) refl in
    record {
      front = x ∷ p.front;
      last = p.last;
      is = ap (λ z. x ∷ z) p.is;
      long = let l = p.long in omega (arith, e, l);
    }

append-twice : (xs ys : List ℤ) (z : ℤ) → xs ++ (ys ++ z ∷ []) ≡ (xs ++ ys) ++ z ∷ []
append-twice [] ys z = refl
append-twice (x ∷ xs) ys z = ap (λ w. x ∷ w) (append-twice xs ys z)

pub quot-met : (vs : List Variable) (f : CForm) (r : Replaced) (b : Branch) (values : List ℤ) →
    without_quotient (next_param (scope_of vs b)) f ≡ Some r → Waits (scope_of vs b) f → IsClosed (scope_of vs b) b →
    Met vs (with_quotient (scope_of vs b) r b) values → Met vs (waiting_only b (f ∷ b.waiting)) values
quot-met vs f r b values is waits closed m =
    let h = m.holds in
    let us : List Variable = scope_of vs b in
    let p = part h.0 b.added h.1 in
    let ws : List ℤ = values ++ p.front in
    let long = long-scope vs b values p.front m.long p.long in
    let same = ap (λ x. values ++ x) p.is ∙ append-twice values p.front p.last in
    let all = quotient-back us ws long b f r is waits closed p.last
    (ap (λ x. branch_holds (with_next us) x (with_quotient us r b)) (sym same) ∙ h.2) in
    record {
      long = m.long;
      holds = (p.front, p.long, holds-without us ws long (waiting_only b (f ∷ b.waiting)) 0 f refl ∙ all);
    }
