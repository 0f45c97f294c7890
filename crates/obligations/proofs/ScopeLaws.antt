-- The variables of a branch: how many they are, how they are numbered, and that they are in order.
use Rattle.std.proofs.Common.{◌≡◌, ℕ, zero, suc, ◌+◌, ◌<◌, ◌≤◌, ◌^◌, max, Bool, true, false, cond, ◌&&◌, List, []}
use Rattle.std.proofs.Common.{◌∷◌, ◌++◌, length, drop, slice_index_or, arith, refl, sym, ap, ◌∙◌, subst}
use Rattle.std.specs.List.{list_all}
use Rattle.std.proofs.lemmas.List.Folds.{list_all-append}
use Rattle.std.proofs.lemmas.Bool.{and_parts}
use Rattle.obligations.specs.declared.branches.Variable.{Variable}
use Rattle.obligations.specs.Scopes.{past, next_param, next_variable, with_next, scope}
use Rattle.obligations.specs.Obligations.{is_lower, is_before, are_in_order, AreVariables, AreOwn}
use Rattle.obligations.specs.Obligations.{ScopeVariables, ScopeRoom}
use Rattle.obligations.proofs.FoldLaws.{fold-next}

-- the greatest number of a parameter, variable by variable
pub param-next : (vs : List Variable) (i : ℕ) (d : Variable) → i < length vs →
    next_param (drop i vs) ≡ max (past (slice_index_or vs i d)) (next_param (drop (i + 1) vs))
param-next vs i d h = fold-next next_param max past (λ x xs. refl) vs i d h

pub ruleset param_laws = param-next

next-append : (vs : List Variable) (w : Variable) → next_param (vs ++ w ∷ []) ≡ max (next_param vs) (past w)
next-append [] w = omega arith
next-append (v ∷ vs) w = let ih = next-append vs w in omega (arith, ih)

-- an added variable is numbered after all others
pub next-of-next : (vs : List Variable) → next_param (with_next vs) ≡ suc (next_param vs)
next-of-next vs = let a = next-append vs (next_variable vs) in omega (arith, a)

pub scope-param : (vs : List Variable) (n : ℕ) → next_param (scope vs n) ≡ next_param vs + n
scope-param vs zero = omega arith
scope-param vs (suc n) = let a = next-of-next (scope vs n) in let ih = scope-param vs n in omega (arith, a, ih)

length-more : (vs : List Variable) (w : Variable) → length (vs ++ w ∷ []) ≡ suc (length vs)
length-more [] w = refl
length-more (v ∷ vs) w = ap suc (length-more vs w)

pub length-next : (vs : List Variable) → length (with_next vs) ≡ suc (length vs)
length-next vs = length-more vs (next_variable vs)

pub scope-length : (vs : List Variable) (n : ℕ) → length (scope vs n) ≡ length vs + n
scope-length vs zero = omega arith
scope-length vs (suc n) = let a = length-next (scope vs n) in let ih = scope-length vs n in omega (arith, a, ih)

-- all variables stand before a parameter that is numbered after them
lower-past : (p : Bool) (m n : ℕ) → cond p (suc m) 0 ≤ n → is_lower p m true n ≡ true
lower-past true m n h = grind arith
lower-past false m n h = refl

all-before : (vs : List Variable) (n : ℕ) → next_param vs ≤ n →
    list_all (λ (v : Variable). is_lower v.param v.number true n) vs ≡ true
all-before [] n h = refl
all-before (v ∷ vs) n h =
    ap (λ z. z && list_all (λ (w : Variable). is_lower w.param w.number true n) vs)
    (lower-past v.param v.number n (omega (arith, h)))
    ∙ all-before vs n (omega (arith, h))

order-more : (vs : List Variable) (w : Variable) → list_all (λ (v : Variable). is_before v w) vs ≡ true →
    are_in_order vs ≡ true → are_in_order (vs ++ w ∷ []) ≡ true
order-more [] w h o = refl
order-more (v ∷ vs) w h o =
    let s = and_parts (is_before v w) (list_all (λ (x : Variable). is_before x w) vs) h in
    let q = and_parts (list_all (is_before v) vs) (are_in_order vs) o in
    ap (λ z. z && are_in_order (vs ++ w ∷ []))
    (list_all-append (is_before v) vs (w ∷ []) ∙ ap (λ z. z && (is_before v w && true)) q.0
    ∙ ap (λ z. z && true) s.0)
    ∙ order-more vs w s.1 q.1

pub order-next : (vs : List Variable) → are_in_order vs ≡ true → are_in_order (with_next vs) ≡ true
order-next vs o = order-more vs (next_variable vs) (all-before vs (next_param vs) (omega arith)) o

scope-order : (vs : List Variable) (n : ℕ) → are_in_order vs ≡ true → are_in_order (scope vs n) ≡ true
scope-order vs zero o = o
scope-order vs (suc n) o = order-next (scope vs n) (scope-order vs n o)

pub scope-variables : ScopeVariables
scope-variables vs n own few =
    let l = scope-length vs n in let f = own.few in
    record { count = omega (arith, l, f, few); order = scope-order vs n own.variables.order }

pub scope-room : ScopeRoom
scope-room vs n own few =
    let p = scope-param vs n in let f = own.numbered in
    record {
      variables = scope-variables vs n own (omega (arith, few));
      longer = scope-variables vs (suc n) own (omega (arith, few));
      numbered = omega (arith, p, f, few);
    }

-- the same, as the code meets them
pub room-number : (vs all : List Variable) (n added : ℕ) → AreOwn vs → all ≡ scope vs n → n < added → added ≤ 4096 →
    next_param all < 2 ^ 32
room-number vs all n added own e h few =
    let p = ap next_param e ∙ scope-param vs n in let f = own.numbered in omega (arith, p, f, h, few)

pub scope-more : (vs all new : List Variable) (n m : ℕ) (w : Variable) → all ≡ scope vs n → w ≡ next_variable all →
    new ≡ all ++ w ∷ [] → m ≡ n + 1 → new ≡ scope vs m
scope-more vs all new n m w e h q r =
    let s : m ≡ suc n = omega (arith, r) in
    q ∙ ap (λ x. all ++ x ∷ []) h ∙ ap with_next e ∙ sym (ap (scope vs) s)

pub scope-done : (vs all : List Variable) (n : ℕ) → AreOwn vs → n ≤ 4096 → all ≡ scope vs n → AreVariables all
scope-done vs all n own few e = subst AreVariables (sym e) (scope-variables vs n own few)

pub ruleset scope_laws = (room-number, scope-more, scope-done)
