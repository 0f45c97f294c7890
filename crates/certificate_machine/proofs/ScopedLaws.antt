-- The variables of a branch that is cut back.
use Rattle.std.proofs.Common.{◌≡◌, ℕ, zero, suc, ◌+◌, ◌<◌, ◌≤◌, ◌^◌, List, [], ◌∷◌, length, take, arith, refl}
use Rattle.std.proofs.Common.{sym, ap, ◌∙◌, inl, inr, subst}
use Rattle.std.specs.Prelude.{neg_ℤ}
use Rattle.std.proofs.lemmas.Bool.{cases_lt}
use Rattle.std.proofs.lemmas.List.{take-append-le, length-map}
use Rattle.obligations.specs.declared.branches.Line.{Line}
use Rattle.obligations.specs.declared.branches.Variable.{Variable}
use Rattle.obligations.specs.Obligations.{AreVariables, AreOwn, HasRoom}
use Rattle.obligations.specs.Scopes.{next_variable, scope}
use Rattle.obligations.proofs.ScopeLaws.{scope-length, scope-done, scope-room}
use Rattle.certificate_machine.specs.declared.frames.Machine.{Machine}
use Rattle.certificate_machine.specs.Machines.{IsScoped}
use Rattle.certificate_rules.specs.Sums.{below_0}

take_all : {A : Type 0} (xs : List A) (n : ℕ) → n ≡ length xs → take n xs ≡ xs
take_all [] zero e = refl
take_all [] (suc n) e = refl
take_all (x ∷ xs) zero e = absurd (omega (arith, e))
take_all (x ∷ xs) (suc n) e = ap (λ ys. x ∷ ys) (take_all xs n (omega (arith, e)))

scope-take : (vs : List Variable) (n k : ℕ) → k ≤ n → take (length vs + k) (scope vs n) ≡ scope vs k
scope-take vs zero zero h = take_all vs (length vs + zero) (omega arith)
scope-take vs zero (suc k) h = absurd (omega (arith, h))
scope-take vs (suc n) k h = elim (cases_lt k (suc n)) [
  | inl under ↦ let l = scope-length vs n in
      take-append-le (length vs + k) (scope vs n) (next_variable (scope vs n) ∷ []) (omega (arith, l, under))
      ∙ scope-take vs n k (omega (arith, under))
  | inr over ↦ let e : k ≡ suc n = omega (arith, h, over) in
      let l = scope-length vs (suc n) in
      ap (λ m. take (length vs + m) (scope vs (suc n))) e
      ∙ take_all (scope vs (suc n)) (length vs + suc n) (omega (arith, l)) ∙ sym (ap (scope vs) e)
]

-- the same, as the code meets it
pub cut-back : (vs old new : List Variable) (n k m : ℕ) → old ≡ scope vs n → k ≤ n → m ≡ length vs + k →
    new ≡ take m old → new ≡ scope vs k
cut-back vs old new n k m e h p q =
    q ∙ ap (take m) e ∙ ap (λ i. take i (scope vs n)) p ∙ scope-take vs n k h

-- a machine's variables are in order, and fewer than 2^32
pub machine-variables : (vs us : List Variable) (m : Machine) → AreOwn vs → IsScoped vs m → us ≡ m.variables →
    AreVariables us
machine-variables vs us m own is e =
    let room = is.room in scope-done vs us m.branch.added own (omega (arith, room)) (e ∙ is.variables)

-- so a line over them has fewer factors
pub line-count : (vs us : List Variable) (m : Machine) (l : Line) → AreOwn vs → IsScoped vs m → us ≡ m.variables →
    length l.factors ≡ length us → length l.factors < 2 ^ 32
line-count vs us m l own is e size =
    let few = (machine-variables vs us m own is e).count in omega (arith, size, few)

-- where a level is left, one more can be added
pub machine-room : (vs : List Variable) (m : Machine) → AreOwn vs → IsScoped vs m → 0 < m.levels →
    HasRoom m.variables
machine-room vs m own is low =
    let room = is.room in
    subst HasRoom (sym is.variables) (scope-room vs m.branch.added own (omega (arith, room, low)))
