-- Every branch that is ready is closed within its leaves' units, or there are values that make all of it hold.
use Rattle.std.proofs.Common.{◌≡◌, ℕ, zero, suc, ◌+◌, ◌-◌, ◌*◌, ◌≤◌, ◌<◌, nat_le, ℤ, pos, ◌+ℤ◌, Bool, true, false, ◌||◌}
use Rattle.std.proofs.Common.{Option, Some, None, List, [], ◌∷◌, ◌++◌, length, slice_get, take, arith, refl, sym}
use Rattle.std.proofs.Common.{ap}
use Rattle.std.proofs.Common.{subst, ◌∙◌, mul-le-mul, le_refl}
use Rattle.std.proofs.Math.Nat.{mul-le-mul_right}
use Rattle.std.specs.List.{list_all, list_any}
use Rattle.std.proofs.lemmas.Bool.{and_parts}
use Rattle.core_terms.specs.declared.trees.CForm.{CForm, out-CForm}
use Rattle.core_terms.specs.declared.trees.Range.{Range}
use Rattle.obligations.specs.declared.branches.Branch.{Branch}
use Rattle.obligations.specs.declared.branches.Fact.{Fact}
use Rattle.obligations.specs.declared.branches.Obligation.{Obligation}
use Rattle.obligations.specs.declared.branches.Replaced.{Replaced}
use Rattle.obligations.specs.declared.branches.Variable.{Variable}
use Rattle.obligations.specs.declared.certificates.Node.{Node}
use Rattle.obligations.specs.Settling.{settled, sides, added}
use Rattle.obligations.specs.Opening.{at_most, at_least, first_branch}
use Rattle.obligations.specs.Reach.{are_exact, bounds_refute, clash, is_out_of_reach, some_out_of_reach}
use Rattle.obligations.specs.Certificates.{node_units, units}
use Rattle.obligations.specs.Obligations.{IsObligation}
use Rattle.obligations.specs.Plain.{Cut, ranges_of, first_cut, with_high, with_low, waiting_only, open_leaves}
use Rattle.obligations.specs.Plain.{cut_leaves, side_leaves, quot_leaves, plain_leaves, leaf_units, enough}
use Rattle.obligations.specs.Quotients.{is_either, without_quotient}
use Rattle.obligations.specs.Quotients.{with_quotient}
use Rattle.obligations.specs.Scopes.{next_param, scope_of}
use Rattle.obligations.specs.Shapes.{quotients_of}
use Rattle.obligations.proofs.ScopeLaws.{scope-length}
use Rattle.certificate_rules.specs.Refutation.{opens, made, allowing}
use Rattle.linear_prover.specs.Chains.{Closes, ClosesShortly, is_plain_node}
use Rattle.linear_prover.specs.Tables.{IsAt}
use Rattle.linear_prover.proofs.ChainLaws.{refuted-chain, clashed-chain}
use Rattle.search_tree.specs.declared.trail.Trail.{Trail}
use Rattle.search_tree.specs.declared.trail.Ended.{Ended}
use Rattle.search_tree.specs.Searching.{chain_units, quotients_at, room_of, Ready, Closed, Met, Ends, levels_of}
use Rattle.search_tree.specs.Choices.{can_wait}
use Rattle.search_tree.specs.Ends.{Ending, proved, refuted, short, SearchEnds}
use Rattle.search_tree.proofs.SearchLaws.{finished-ends, short-room, room-two, room-less}
use Rattle.search_tree.proofs.TreeLaws.{second-closed, quot-room}
use Rattle.search_tree.proofs.TryLaws.{tried-short}
use Rattle.search_tree.proofs.WaitLaws.{first-quotient}
use Rattle.search_tree.proofs.RootLaws.{room-enough, search-answers}
use Rattle.search_tree.proofs.ShapeLaws.{settled-more, side-shapes, quotients-append}
use Rattle.search_tree.proofs.ReadyLaws.{leaves-some, unreached-leaves, either-leaves, case-opens, split-opens}
use Rattle.search_tree.proofs.ReadyLaws.{ready-first, ready-second, ready-deep, cut-is, ready-cut, ready-low}
use Rattle.search_tree.proofs.ReadyLaws.{ready-high, ready-root, quotient-leaves, quot-opens}
use Rattle.search_tree.proofs.MetLaws.{first-met, second-met, added-met}
use Rattle.search_tree.proofs.CycleLaws.{Put, less, quot-went}
use Rattle.search_tree.proofs.FixedLaws.{fixed-met}
use Rattle.search_tree.proofs.PointLaws.{LeafChain, LeafEnds, closes_leaf, meets_leaf, leaf-outcome}
use Rattle.search_tree.proofs.QuotFacts.{quotient-ready}

le-is : (a b : ℕ) → nat_le a b ≡ true → a ≤ b
le-is a b h = grind arith

gt-is : (a b : ℕ) → nat_le a b ≡ false → b < a
gt-is a b h = grind arith

-- A fact out of reach has a chain.
any-at : {A : Type 0} (t : A → Bool) (xs : List A) → list_any t xs ≡ true → (n : ℕ) × IsAt t xs n
any-at t [] e = cc
any-at t (x ∷ xs) e = by_test (t x) refl e (any-at t xs)
  where
    by_test : (b : Bool) → t x ≡ b → (b || list_any t xs) ≡ true → (list_any t xs ≡ true → (n : ℕ) × IsAt t xs n) →
        (n : ℕ) × IsAt t (x ∷ xs) n
    by_test true q d f = (zero, record { item = x; there = refl; passes = q })
    by_test false q d f =
        let r = f d in
        let a = r.1 in
        (suc r.0, record { item = a.item; there = a.there; passes = a.passes })

abbrev Chain : ℕ → List Fact → Type 0
Chain count facts = (ns : List Node) × ClosesShortly count facts ns

-- a fact that the bounds refute, or that clashes with another
fact-chain : (count : ℕ) (facts : List Fact) (i : ℕ) (f : Fact) → slice_get facts i ≡ Some f → are_exact count facts ≡
    true → (t : Bool) → bounds_refute facts f ≡ t → (t || list_any (clash f) facts) ≡ true → Chain count facts
fact-chain count facts i f there exact true q e = (_, refuted-chain count facts i f there exact q)
fact-chain count facts i f there exact false q e =
    let a = any-at (clash f) facts e in
    let g = a.1 in
    (_, clashed-chain count facts i a.0 f g.item there g.there exact g.passes)

reach-chain : (count : ℕ) (facts : List Fact) → are_exact count facts ≡ true → some_out_of_reach facts ≡ true → Chain
    count facts
reach-chain count facts exact e =
    let a = any-at (is_out_of_reach facts) facts e in
    let f = a.1 in
    fact-chain count facts a.0 f.item f.there exact (bounds_refute facts f.item) refl f.passes

-- How a branch ends where the units suffice.
data Outcome (vs : List Variable) (k leaves : ℕ) (b : Branch) (old : Trail) : Type 0 where
  closed : (new : Trail) → Closed vs k leaves b old new → Outcome vs k leaves b old
  met : (values : List ℤ) → Met vs b values → Outcome vs k leaves b old

abbrev Suffices : List Variable → ℕ → Branch → Trail → Type 0
Suffices vs leaves b x = leaves * room_of vs b ≤ x.spare + 1

-- a branch with these leaves ends, whatever was before
abbrev Goes : List Variable → ℕ → ℕ → Branch → Type 0
Goes vs k leaves b = (x : Trail) → Suffices vs leaves b x → Outcome vs k leaves b x

-- A chain.
chain-goes : (vs : List Variable) (k leaves : ℕ) (b : Branch) → 1 ≤ leaves → Chain (length (scope_of vs b)) b.facts →
    Goes vs k leaves b
chain-goes vs k leaves b one c x s =
    let ns : List Node = c.0 in
    let few = c.1.short in
    let cheap = few.cheap in
    let fits = short-room vs b in
    let more : 1 * room_of vs b ≤ leaves * room_of vs b = mul-le-mul_right (room_of vs b) one in
    let room : units ns ≤ x.spare = omega (arith, cheap, fits, more, s) in
    let y : Trail = record { nodes = x.nodes ++ ns; spare = x.spare - units ns } in
    closed y (finished-ends vs k leaves 64 (chain_units (length (scope_of vs b))) b x y Ended.Closed (omega arith) fits
    one (tried-short (scope_of vs b) b.facts ns x y Ended.Closed c.1 (refl, omega (arith, room))))

-- A node that opens two branches.
module _ (vs : List Variable) (k l m : ℕ) (b c d : Branch) (n : Node) (one : node_units n ≡ 1)
    (simple : is_plain_node n ≡ true) (deep : suc k ≤ 960) (fewer : quotients_at c ≤ quotients_at b)
    (same : c.added ≡ b.added) (less : quotients_at d ≤ quotients_at b) (alike : d.added ≡ b.added)
    (opened : made vs (allowing (levels_of (suc k)) b) n ≡ opens (c ∷ d ∷ []))
    (some : 1 ≤ m)
    (up : (values : List ℤ) → Met vs c values → Met vs b values)
    (down : (values : List ℤ) → Met vs d values → Met vs b values) where
  more : 1 * room_of vs d ≤ m * room_of vs d
  more = mul-le-mul_right (room_of vs d) some

  two : 2 ≤ room_of vs d
  two = room-two vs d

  -- the rooms of both branches are within that of the first
  rooms : l * room_of vs c + m * room_of vs d ≤ (l + m) * room_of vs b
  rooms =
      let p : l * room_of vs c ≤ l * room_of vs b = mul-le-mul (le_refl l) (room-less vs b c fewer same) in
      let q : m * room_of vs d ≤ m * room_of vs b = mul-le-mul (le_refl m) (room-less vs b d less alike) in
      omega (arith, p, q)

  abbrev with_node : Trail → Trail
  with_node x = record { nodes = x.nodes ++ n ∷ []; spare = x.spare - 1 }

  spent-one : (x : Trail) → Suffices vs (l + m) b x → (x.spare - 1) + node_units n ≡ x.spare
  spent-one x s = let w = rooms in let a = more in let t = two in omega (arith, w, a, t, s, one)

  first-room : (x : Trail) → Suffices vs (l + m) b x → Suffices vs l c (with_node x)
  first-room x s = let w = rooms in let a = more in let t = two in omega (arith, w, a, t, s)

  second-room : (x z : Trail) → Suffices vs (l + m) b x → Closed vs k l c (with_node x) z → Suffices vs m d z
  second-room x z s p =
      let w = rooms in let a = more in let t = two in let cost = p.cost in let spent = p.spent in
      omega (arith, w, a, t, s, cost, spent)

  second-goes : (x z : Trail) → Suffices vs (l + m) b x → Closed vs k l c (with_node x) z → Outcome vs k m d z →
      Outcome vs (suc k) (l + m) b x
  second-goes x z s p (closed w q) = closed w (second-closed vs k l m b c d n one simple deep fewer same less alike
      opened x (with_node x) z w refl (spent-one x s) p q)
  second-goes x z s p (met values q) = met values (down values q)

  first-goes : (x : Trail) → Suffices vs (l + m) b x → Goes vs k m d → Outcome vs k l c (with_node x) →
      Outcome vs (suc k) (l + m) b x
  first-goes x s go (closed z p) = second-goes x z s p (go z (second-room x z s p))
  first-goes x s go (met values q) = met values (up values q)

  both-go : Goes vs k l c → Goes vs k m d → Goes vs (suc k) (l + m) b
  both-go first second x s = first-goes x s second (first (with_node x) (first-room x s))

-- Branches with so many levels left.
abbrev AllGo : List Variable → ℕ → Type 0
AllGo vs k = (rs : List Range) (b : Branch) → Ready vs k rs b → Goes vs k
    (plain_leaves vs k rs b) b

sides-go : (vs : List Variable) (k : ℕ) (rs : List Range) (f : CForm) (b : Branch) → suc k ≤ 960 → AllGo vs k →
    Ready vs (suc k) rs (waiting_only b (f ∷ b.waiting)) →
    is_either f ≡ true →
    Goes vs (suc k) (side_leaves (scope_of vs b) (plain_leaves vs k) rs b f) (waiting_only b (f ∷ b.waiting))
sides-go vs k rs f b deep go r either =
    let us : List Variable = scope_of vs b in
    let first : Branch = settled us (sides f).0 b in
    let second : Branch = settled us (sides f).1 b in
    let from : Branch = waiting_only b (f ∷ b.waiting) in
    let s = (side-shapes f either).quotients in
    let one = (settled-more us (sides f).0 b).quotients in let two = (settled-more us (sides f).1 b).quotients in
    let fewer : quotients_at first ≤ quotients_at from = omega (arith, s, one) in
    let less : quotients_at second ≤ quotients_at from = omega (arith, s, two) in
    both-go vs k (plain_leaves vs k rs first) (plain_leaves vs k rs second) from first second (Node.Case 1) refl refl
    deep fewer refl less refl (case-opens vs k f b either) (leaves-some vs k rs second) (first-met vs f b)
    (second-met vs f b)
    (go rs first (ready-first vs k rs f b either r)) (go rs second (ready-second vs k rs f b either r))

halves-go : (vs : List Variable) (k : ℕ) (rs : List Range) (b : Branch) (place : ℕ) (at : ℤ) → suc k ≤ 960 → AllGo vs k
    → Ready vs (suc k) rs b → b.waiting ≡ [] →
    first_cut 0 rs ≡ Some (record { place = place; at = at }) →
    Goes vs (suc k) (cut_leaves (plain_leaves vs k) rs b (Some (record { place = place; at = at }))) b
halves-go vs k rs b place at deep go r w e =
    let cut = cut-is vs (suc k) rs b place at r e in
    let long = r.long in
    let inside = cut.inside in
    let low : Branch = added b (at_most place at) in
    let high : Branch = added b (at_least place (at +ℤ pos 1)) in
    let q = quotients-append b.waiting [] in
    let fewer : quotients_at low ≤ quotients_at b = omega (arith, q) in
    let less : quotients_at high ≤ quotients_at b = omega (arith, q) in
    both-go vs k (plain_leaves vs k (with_high rs place at) low)
    (plain_leaves vs k (with_low rs place (at +ℤ pos 1)) high) b low high (Node.Split (place + 1) at) refl cut.simple
    deep fewer refl less refl (split-opens vs k b place at (omega (arith, long, inside)))
    (leaves-some vs k (with_low rs place (at +ℤ pos 1)) high) (added-met vs b (at_most place at))
    (added-met vs b (at_least place (at +ℤ pos 1)))
    (go (with_high rs place at) low (ready-low vs k rs b place at r w e))
    (go (with_low rs place (at +ℤ pos 1)) high (ready-high vs k rs b place at r w e))

-- A quotient that is taken.
module _ (vs : List Variable) (k : ℕ) (rs : List Range) (f : CForm) (r : Replaced) (b : Branch) (deep : suc k ≤ 960)
    (is : without_quotient (next_param (scope_of vs b)) f ≡ Some r) (go : AllGo vs k)
    (ready : Ready vs (suc k) rs (waiting_only b (f ∷ b.waiting))) where
  abbrev from : Branch
  from = waiting_only b (f ∷ b.waiting)

  abbrev next : Branch
  next = with_quotient (scope_of vs b) r b

  abbrev below : ℕ
  below = quot_leaves (scope_of vs b) (plain_leaves vs k) rs b (without_quotient (next_param (scope_of vs b)) f)

  same-leaves : below ≡ plain_leaves vs k rs next
  same-leaves = ap (quot_leaves (scope_of vs b) (plain_leaves vs k) rs b) is

  abbrev with_quot : Trail → Trail
  with_quot x = record { nodes = x.nodes ++ Node.Quot 1 ∷ []; spare = x.spare - 1 }

  taken-room : plain_leaves vs k rs next * room_of vs next + 1 ≤ plain_leaves vs k rs next * room_of vs from
  taken-room =
      let l = less vs (scope_of vs b) k rs f b r refl deep is in
      quot-room vs k (plain_leaves vs k rs next) from next (leaves-some vs k rs next) (omega (arith, l)) deep
      (omega (arith, l)) refl (quot-opens vs k f r b is)

  some-room : 2 ≤ plain_leaves vs k rs next * room_of vs next
  some-room =
      let more = mul-le-mul_right (room_of vs next) (leaves-some vs k rs next) in
      let two = room-two vs next in omega (arith, more, two)

  outcome-on : (x : Trail) → Suffices vs below from x → Outcome vs k (plain_leaves vs k rs next) next (with_quot x) →
      Outcome vs (suc k) below from x
  outcome-on x s o = by_outcome o
    where
      put : Put x (with_quot x) (Node.Quot 1)
      put =
          let t = taken-room in let l = same-leaves in let n = ap (λ m. m * room_of vs from) l in let y = some-room in
          record { nodes = refl; spare = omega (arith, t, n, y, s) }

      went : (z : Trail) (e : Ended) → Ends vs k (plain_leaves vs k rs next) next (with_quot x) z e →
          Ends vs (suc k) below from x z e
      went z e u =
          quot-went vs (scope_of vs b) k rs f b r refl deep is x (with_quot x) z e put ready.closed.waiting.0
          (record { facts = ready.closed.facts; waiting = ready.closed.waiting.1 }) u

      by_outcome : Outcome vs k (plain_leaves vs k rs next) next (with_quot x) → Outcome vs (suc k) below from x
      by_outcome (closed z c) = closed z (went z Ended.Closed c)
      by_outcome (met values c) = met values (went x (Ended.Refuted values) c)

  quot-goes : Goes vs (suc k) below from
  quot-goes x s =
      let t = taken-room in let l = same-leaves in let n = ap (λ m. m * room_of vs from) l in let y = some-room in
      outcome-on x s (go rs next (quotient-ready vs k rs f r b is ready) (with_quot x) (omega (arith, t, n, y, s)))

-- the first waiting formula stands before the others
whole : (b : Branch) (f : CForm) (fs : List CForm) → b.waiting ≡ f ∷ fs → waiting_only b (f ∷ fs) ≡ b
whole b f fs e = ap (waiting_only b) (sym e)

-- A leaf.
pub leaf-room : (vs : List Variable) (b : Branch) (n : ℕ) → b.waiting ≡ [] →
    n ≤ (2 * b.added) * ((length vs + b.added) + 2) + ((length vs + b.added) + 7) → n < room_of vs b
leaf-room vs b n w h =
    let taken = ap quotients_of w in
    let all : quotients_of b.waiting + b.added ≡ b.added = omega (arith, taken) in
    let room : room_of vs b ≡ leaf_units (length vs) b.added - b.added =
    ap (λ m. leaf_units (length vs) m - b.added) all in
    let spread : leaf_units (length vs) b.added ≡ (2 * b.added) * ((length vs + b.added) + 2) + (2 * b.added) * 254
    + ((length vs + b.added) + 256) = omega arith in
    omega (arith, h, room, spread)

leaf-goes : (vs : List Variable) (k leaves : ℕ) (rs : List Range) (b : Branch) → Ready vs k rs b →
    1 ≤ leaves → b.waiting ≡ [] → first_cut 0 rs ≡ None → Goes vs k leaves b
leaf-goes vs k leaves rs b r one w e y s =
    by_ending (leaf-outcome vs rs b.added r.fixes.weights r.fixes.weighed.limits b.facts r.long r.bounded r.sound e
    r.fixes.weighed.ranges (ap (λ n. are_exact n b.facts) (sym (scope-length vs b.added)) ∙ r.exact) r.slender
    (reach-chain (length vs + b.added)) r.fixes.taken)
  where
    closing : (ns : List Node) → LeafChain (length vs + b.added) b.facts (2 * b.added) ns → Outcome vs k leaves b y
    closing ns c =
        let short = c.short in let cheap = c.cheap in let deep = r.deep in
        let fits = leaf-room vs b (units ns) w cheap in
        let more : 1 * room_of vs b ≤ leaves * room_of vs b = mul-le-mul_right (room_of vs b) one in
        let new : Trail = record { nodes = y.nodes ++ ns; spare = y.spare - units ns } in
        closed new (finished-ends vs k leaves (64 + 2 * b.added) (room_of vs b) b y new Ended.Closed
        (omega (arith, deep)) (le_refl (room_of vs b)) one (record {
          nodes = ns;
          closes = subst (λ n. Closes n b.facts ns) (sym (scope-length vs b.added)) c.closes;
          short = omega (arith, short);
          cheap = fits;
          plain = c.plain;
          finished = (refl, omega (arith, fits, more, s));
        }))

    by_ending : LeafEnds (length vs + b.added) b.facts (2 * b.added) → Outcome vs k leaves b y
    by_ending (closes_leaf ns c) = closing ns c
    by_ending (meets_leaf values long holds) =
        met (take (length vs) values) (fixed-met vs b values (take (length vs) values) refl long w holds)

-- no fact is out of reach, and a level is left
cut-goes : (vs : List Variable) (k : ℕ) (rs : List Range) (b : Branch) → suc k ≤ 960 → AllGo vs k → Ready vs (suc k)
    rs b → b.waiting ≡ [] → (o : Option Cut) →
    first_cut 0 rs ≡ o → Goes vs (suc k) (cut_leaves (plain_leaves vs k) rs b o) b
cut-goes vs k rs b deep go r w None e = leaf-goes vs (suc k) 1 rs b r (le_refl 1) w e
cut-goes vs k rs b deep go r w (Some c) e = halves-go vs k rs b c.place c.at deep go r w e

first-waits : (vs : List Variable) (k : ℕ) (rs : List Range) (b : Branch) (f : CForm) (fs : List CForm) →
    Ready vs k rs b → b.waiting ≡ f ∷ fs → can_wait f ≡ true
first-waits vs k rs b f fs r w =
    (and_parts (can_wait f) (list_all can_wait fs) (sym (ap (list_all can_wait) w) ∙ r.waits)).0

open-goes : (vs : List Variable) (k : ℕ) (rs : List Range) (b : Branch) → suc k ≤ 960 → AllGo vs k → Ready vs (suc k)
    rs b → (ws : List CForm) → b.waiting ≡ ws →
    Goes vs (suc k) (open_leaves vs (plain_leaves vs k) rs b ws) b
open-goes vs k rs b deep go r [] w = cut-goes vs k rs b deep go r w (first_cut 0 rs) refl
open-goes vs k rs b deep go r (f ∷ fs) w = by_either (is_either f) refl
  where
    same : waiting_only b (f ∷ fs) ≡ b
    same = whole b f fs w

    by_either : (t : Bool) → is_either f ≡ t → Goes vs (suc k) (open_leaves vs (plain_leaves vs k) rs b (f ∷ fs)) b
    by_either true either =
        subst (Goes vs (suc k) (open_leaves vs (plain_leaves vs k) rs b (f ∷ fs))) same
        (subst (λ n. Goes vs (suc k) n (waiting_only b (f ∷ fs))) (sym (either-leaves vs k rs b f fs either))
        (sides-go vs k rs f (waiting_only b fs) deep go (subst (Ready vs (suc k) rs) (sym same) r) either))
    by_either false either =
        let q = first-quotient (next_param (scope_of vs b)) (out-CForm f) (first-waits vs (suc k) rs b f fs r w)
        either in
        subst (Goes vs (suc k) (open_leaves vs (plain_leaves vs k) rs b (f ∷ fs))) same
        (subst (λ n. Goes vs (suc k) n (waiting_only b (f ∷ fs))) (sym (quotient-leaves vs k rs b f fs either))
        (quot-goes vs k rs f q.0 (waiting_only b fs) deep q.1 go (subst (Ready vs (suc k) rs) (sym same) r)))

-- no level is left
end-goes : (vs : List Variable) (leaves : ℕ) (rs : List Range) (b : Branch) → Ready vs 0 rs b →
    1 ≤ leaves → (ws : List CForm) → b.waiting ≡ ws → Goes vs 0 leaves b
end-goes vs leaves rs b r one (f ∷ fs) w =
    let one = ready-deep vs 0 rs f fs b (subst (Ready vs 0 rs) (sym (whole b f fs w)) r) in
    absurd (omega (arith, one))
end-goes vs leaves rs b r one [] w = by_cut (first_cut 0 rs) refl
  where
    by_cut : (o : Option Cut) → first_cut 0 rs ≡ o → Goes vs 0 leaves b
    by_cut None e = leaf-goes vs 0 leaves rs b r one w e
    by_cut (Some c) e = let one = ready-cut vs 0 rs b c.place c.at r e in absurd (omega (arith, one))

all-go : (vs : List Variable) (k : ℕ) → k ≤ 960 → AllGo vs k
all-go vs zero h rs b r = by_reach (some_out_of_reach b.facts) refl
  where
    by_reach : (t : Bool) → some_out_of_reach b.facts ≡ t → Goes vs 0 1 b
    by_reach true e = chain-goes vs 0 1 b (omega arith) (reach-chain (length (scope_of vs b)) b.facts r.exact e)
    by_reach false e = end-goes vs 1 rs b r (le_refl 1) b.waiting refl
all-go vs (suc k) h rs b r = by_reach (some_out_of_reach b.facts) refl (all-go vs k (omega (arith, h)))
  where
    by_reach : (t : Bool) → some_out_of_reach b.facts ≡ t → AllGo vs k → Goes vs (suc k) (plain_leaves vs (suc k) rs b)
        b
    by_reach true e go = chain-goes vs (suc k) (plain_leaves vs (suc k) rs b) b (leaves-some vs (suc k) rs b)
        (reach-chain (length (scope_of vs b)) b.facts r.exact e)
    by_reach false e go = subst (λ n. Goes vs (suc k) n b) (sym (unreached-leaves vs k rs b e))
        (open-goes vs k rs b h go r b.waiting refl)

-- The branch that an obligation starts from.
abbrev all_leaves : Obligation → ℕ
all_leaves o = plain_leaves o.variables 960 (ranges_of o.variables) (first_branch o)

abbrev start : ℕ → Trail
start budget = record { nodes = []; spare = budget }

root-ends : (o : Obligation) (budget : ℕ) → IsObligation o →
    Outcome o.variables 960 (all_leaves o) (first_branch o) (start budget) → Ending o budget
root-ends o budget m (closed new c) = proved new.nodes
    (search-answers o m o.variables (ranges_of o.variables) (first_branch o) (start budget) new Ended.Closed budget _
    refl refl refl refl refl c refl)
root-ends o budget m (met values c) = refuted values
    (search-answers o m o.variables (ranges_of o.variables) (first_branch o) (start budget) (start budget)
    (Ended.Refuted values) budget _ refl refl refl refl refl c refl)

pub search-ends : SearchEnds
search-ends o budget m = by_budget (nat_le (enough o) budget) refl
  where
    by_budget : (t : Bool) → nat_le (enough o) budget ≡ t → Ending o budget
    by_budget true e =
        let w = le-is (enough o) budget e in let room = room-enough o in
        root-ends o budget m (all-go o.variables 960 (omega arith) (ranges_of o.variables) (first_branch o)
        (ready-root o m) (start budget) (omega (arith, w, room)))
    by_budget false e = short (gt-is (enough o) budget e)
