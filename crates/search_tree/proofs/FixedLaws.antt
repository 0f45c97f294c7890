-- Leaves whose added variables are fixed by rounds.
use Rattle.std.proofs.Common.{◌≡◌, ℕ, zero, suc, ◌+◌, ◌*◌, ◌≤◌, ◌<◌, ℤ, true, ◌&&◌, List, []}
use Rattle.std.proofs.Common.{◌∷◌}
use Rattle.std.proofs.Common.{◌++◌, ◌^◌, take, drop, length, map, arith, refl, sym, ap, subst, ◌∙◌}
use Rattle.std.proofs.Common.{le_refl, false, None}
use Rattle.std.specs.List.{list_all}
use Rattle.core_terms.specs.declared.trees.Range.{Range}
use Rattle.obligations.specs.declared.branches.Branch.{Branch}
use Rattle.obligations.specs.declared.branches.Variable.{Variable}
use Rattle.obligations.specs.LinearForms.{fact_holds}
use Rattle.obligations.specs.Obligations.{AreOwn}
use Rattle.obligations.specs.Plain.{first_cut}
use Rattle.obligations.specs.Reach.{some_out_of_reach}
use Rattle.obligations.specs.Scopes.{scope_of}
use Rattle.obligations.specs.Settling.{form_at}
use Rattle.obligations.proofs.ScopeLaws.{scope-done}
use Rattle.search_tree.specs.declared.trail.Trail.{Trail}
use Rattle.search_tree.specs.declared.trail.Ended.{Ended}
use Rattle.search_tree.specs.Searching.{Tried, Met, Ready, Ends, EndsLeaf, room_of}
use Rattle.search_tree.proofs.ReadyLaws.{leaf-met, ready-few, ready-exact}
use Rattle.search_tree.proofs.SearchLaws.{finished-ends}

-- a chain that was tried at a leaf ends it
pub tried-leaf : (vs us : List Variable) (b : Branch) (old new : Trail) (e : Ended) → us ≡ scope_of vs b →
    Tried (length us) (64 + 2 * b.added) (room_of vs b) b.facts old new e → EndsLeaf vs b old new e
tried-leaf vs us b old new Ended.Closed scoped t =
    subst (λ (x : List Variable). Tried (length x) (64 + 2 * b.added) (room_of vs b) b.facts old new Ended.Closed)
    scoped t
tried-leaf vs us b old new Ended.Stopped scoped t =
    subst (λ (x : List Variable). Tried (length x) (64 + 2 * b.added) (room_of vs b) b.facts old new Ended.Stopped)
    scoped t
tried-leaf vs us b old new (Ended.Refuted values) scoped t = absurd t.finished

pub leaf-ends : (vs : List Variable) (k : ℕ) (rs : List Range) (b : Branch) (old new : Trail) (e : Ended) →
    Ready vs k rs b → EndsLeaf vs b old new e → Ends vs k 1 b old new e
leaf-ends vs k rs b old new Ended.Closed r t =
    let d = r.deep in
    finished-ends vs k 1 (64 + 2 * b.added) (room_of vs b) b old new Ended.Closed (omega (arith, d))
    (le_refl (room_of vs b)) (omega arith) t
leaf-ends vs k rs b old new Ended.Stopped r t =
    let d = r.deep in
    finished-ends vs k 1 (64 + 2 * b.added) (room_of vs b) b old new Ended.Stopped (omega (arith, d))
    (le_refl (room_of vs b)) (omega arith) t
leaf-ends vs k rs b old new (Ended.Refuted values) r t = t

-- the low ends meet a leaf without added variables
pub low-met : (vs : List Variable) (k : ℕ) (rs : List Range) (b : Branch) (values : List ℤ) → Ready vs k rs b →
    b.added ≡ 0 → some_out_of_reach b.facts ≡ false → b.waiting ≡ [] → first_cut 0 rs ≡ None →
    values ≡ map (λ (r : Range). r.lo) rs → Met vs b values
low-met vs k rs b values r flat u w e q = subst (Met vs b) (sym q) (leaf-met vs k rs b r flat u w e)

pub scope-count : (vs us : List Variable) (b : Branch) → AreOwn vs → b.added ≤ 480 → us ≡ scope_of vs b →
    length us < 2 ^ 32
scope-count vs us b own few scoped = (scope-done vs us b.added own (omega (arith, few)) scoped).count

pub ruleset leaf_laws = (leaf-ends, low-met, ready-few, ready-exact)

both-parts : (xs : List ℤ) (n : ℕ) → take n xs ++ drop n xs ≡ xs
both-parts [] zero = refl
both-parts [] (suc n) = refl
both-parts (x ∷ xs) zero = refl
both-parts (x ∷ xs) (suc n) = ap (λ z. x ∷ z) (both-parts xs n)

long-front : (xs : List ℤ) (n m : ℕ) → length xs ≡ n + m → length (take n xs) ≡ n
long-front xs zero m e = refl
long-front [] (suc n) m e = absurd (omega (arith, e))
long-front (x ∷ xs) (suc n) m e = ap suc (long-front xs n m (omega (arith, e)))

long-back : (xs : List ℤ) (n m : ℕ) → length xs ≡ n + m → length (drop n xs) ≡ m
long-back xs zero m e = omega (arith, e)
long-back [] (suc n) m e = absurd (omega (arith, e))
long-back (x ∷ xs) (suc n) m e = long-back xs n m (omega (arith, e))

pub fixed-met : (vs : List Variable) (b : Branch) (values front : List ℤ) → front ≡ take (length vs) values →
    length values ≡ length vs + b.added → b.waiting ≡ [] → list_all (fact_holds values) b.facts ≡ true →
    Met vs b front
fixed-met vs b values front q e w h = subst (Met vs b) (sym q) (record {
  long = long-front values (length vs) b.added e;
  holds = (
    drop (length vs) values,
    long-back values (length vs) b.added e,
    ap (λ (z : List ℤ). list_all (fact_holds z) b.facts && list_all (form_at (scope_of vs b) z) b.waiting)
        (both-parts values (length vs))
        ∙ ap (λ t. t && list_all (form_at (scope_of vs b) values) b.waiting) h
        ∙ ap (list_all (form_at (scope_of vs b) values)) w,
  );
})
