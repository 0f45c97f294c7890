-- A node that opens branches, and the searches of these.
use Rattle.std.proofs.Common.{◌≡◌, ℕ, suc, ◌+◌, ◌*◌, ◌&&◌, true, ◌≤◌, ◌<◌, ℤ, Some, List, [], ◌∷◌, ◌++◌, arith, sym}
use Rattle.std.proofs.Common.{◌-◌, ap, subst, ◌∙◌, refl, mul-le-mul, le_refl}
use Rattle.std.proofs.Math.Nat.{mul-le-mul_right}
use Rattle.obligations.specs.declared.branches.Branch.{Branch}
use Rattle.obligations.specs.declared.branches.Variable.{Variable}
use Rattle.obligations.specs.declared.certificates.Node.{Node}
use Rattle.certificate_rules.specs.Refutation.{OpenBranch}
use Rattle.certificate_rules.specs.Refutation.{opens, made, allowing}
use Rattle.search_tree.specs.declared.trail.Trail.{Trail}
use Rattle.search_tree.specs.declared.trail.Ended.{Ended}
use Rattle.obligations.specs.Certificates.{node_units, units}
use Rattle.linear_prover.specs.Chains.{is_plain_node}
use Rattle.search_tree.specs.Left.{left_by, left}
use Rattle.search_tree.specs.Searching.{quotients_at, room_of, HasOpenBranch, levels_of, Closed, BudgetEnded, Met, Ends}
use Rattle.search_tree.specs.Searching.{is_found_node}
use Rattle.search_tree.proofs.SearchLaws.{units-append, left-append, room-two, room-less, room-quot, all-more}
use Rattle.search_tree.proofs.SearchLaws.{plain-one}

-- there were no units for a node
pub node-stopped : (vs : List Variable) (k leaves : ℕ) (b : Branch) (old new : Trail) (n : Node) → 1 ≤ leaves →
    node_units n ≡ 1 → old.spare < node_units n → new ≡ old →
    BudgetEnded vs k leaves b old new
node-stopped vs k leaves b old new n one u h e =
    let same = ap (λ (x : Trail). x.nodes) e in
    let spare = ap (λ (x : Trail). x.spare) e in
    let more : 1 * room_of vs b ≤ leaves * room_of vs b = mul-le-mul_right (room_of vs b) one in
    let room = room-two vs b in
    record {
      opened = λ first ps s. subst HasOpenBranch (sym (ap (left vs (Some first)) same ∙ s)) tt;
      short = omega (arith, u, h, more, room);
      last = omega (arith, u, h, spare, room);
      spent = let w = ap units same in omega (arith, w, spare);
    }

module _ (vs : List Variable) (k l m : ℕ) (b c d : Branch) (n : Node) (one : node_units n ≡ 1)
    (simple : is_plain_node n ≡ true) (deep : suc k ≤ 960) (fewer : quotients_at c ≤ quotients_at b)
    (same : c.added ≡ b.added) (less : quotients_at d ≤ quotients_at b) (alike : d.added ≡ b.added)
    (opened : made vs (allowing (levels_of (suc k)) b) n ≡ opens (c ∷ d ∷ [])) where
  after-node : (x y : Trail) → y.nodes ≡ x.nodes ++ n ∷ [] → (first ps : List OpenBranch) → left vs (Some first) x.nodes
      ≡ Some (allowing (levels_of (suc k)) b ∷ ps) →
      left vs (Some first) y.nodes ≡ Some (allowing (levels_of k) c ∷ allowing (levels_of k) d ∷ ps)
  after-node x y e first ps s =
      let next : levels_of (suc k) - 1 ≡ levels_of k = omega arith in
      ap (left vs (Some first)) e ∙ left-append vs (Some first) x.nodes (n ∷ []) ∙ ap (λ r. left vs r (n ∷ [])) s
      ∙ ap (left_by (levels_of (suc k)) ps) opened ∙ ap (λ lv. Some (allowing lv c ∷ allowing lv d ∷ ps)) next

  node-cost : (x y : Trail) → y.nodes ≡ x.nodes ++ n ∷ [] → units y.nodes ≡ units x.nodes + 1
  node-cost x y e = let u = ap units e ∙ units-append x.nodes (n ∷ []) in omega (arith, u, one)

  -- the rooms of both branches are within that of the first
  rooms : l * room_of vs c + m * room_of vs d ≤ (l + m) * room_of vs b
  rooms =
      let p : l * room_of vs c ≤ l * room_of vs b = mul-le-mul (le_refl l) (room-less vs b c fewer same) in
      let q : m * room_of vs d ≤ m * room_of vs b = mul-le-mul (le_refl m) (room-less vs b d less alike) in
      omega (arith, p, q)

  pub first-stopped : (x y z : Trail) → y.nodes ≡ x.nodes ++ n ∷ [] → y.spare + node_units n ≡ x.spare → 1 ≤ m →
      BudgetEnded vs k l c y z → BudgetEnded vs (suc k) (l + m) b x z
  first-stopped x y z e s h t =
      let u = node-cost x y e in let w = rooms in let t0 = t.short in let t1 = t.last in let t2 = t.spent in
      let more : 1 * room_of vs d ≤ m * room_of vs d = mul-le-mul_right (room_of vs d) h in
      let some = room-two vs d in
      let within = room-less vs b c fewer same in
      record {
        opened = λ first ps g. t.opened first (allowing (levels_of k) d ∷ ps) (after-node x y e first ps g);
        short = omega (arith, s, one, w, t0, more, some);
        last = omega (arith, t1, within);
        spent = omega (arith, s, one, u, t2);
      }

  pub second-closed : (x y z w : Trail) → y.nodes ≡ x.nodes ++ n ∷ [] → y.spare + node_units n ≡ x.spare → Closed vs k
      l c y z → Closed vs k m d z w → Closed vs (suc k) (l + m) b x w
  second-closed x y z w e s p q =
      let u = node-cost x y e in let v = rooms in let p0 = p.cost in let p1 = p.spent in let q0 = q.cost in let
      q1 = q.spent in
      record {
        closes = λ first ps g. q.closes first ps (p.closes first (allowing (levels_of k) d ∷ ps)
            (after-node x y e first ps g));
        found = λ h. q.found (p.found (all-more is_found_node x.nodes (n ∷ []) y.nodes e
            (ap (λ t. t && true) (plain-one n simple)) h));
        plain = λ none h. q.plain (omega (arith, none, less)) (p.plain (omega (arith, none, fewer))
            (all-more is_plain_node x.nodes (n ∷ []) y.nodes e (ap (λ t. t && true) simple) h));
        cost = omega (arith, u, v, p0, q0);
        spent = omega (arith, s, one, u, p1, q1);
      }

  pub second-stopped : (x y z w : Trail) → y.nodes ≡ x.nodes ++ n ∷ [] → y.spare + node_units n ≡ x.spare → Closed vs
      k l c y z → BudgetEnded vs k m d z w → BudgetEnded vs (suc k) (l + m) b x w
  second-stopped x y z w e s p q =
      let u = node-cost x y e in let v = rooms in let p0 = p.cost in let p1 = p.spent in let q0 = q.short in let
      q1 = q.spent in let q2 = q.last in let within = room-less vs b d less alike in
      record {
        opened = λ first ps g. q.opened first ps (p.closes first (allowing (levels_of k) d ∷ ps)
            (after-node x y e first ps g));
        short = omega (arith, s, one, v, p0, p1, q0);
        last = omega (arith, q2, within);
        spent = omega (arith, s, one, u, p1, q1);
      }

  pub second-ends : (x y z w : Trail) (ended : Ended) → y.nodes ≡ x.nodes ++ n ∷ [] → y.spare + node_units n ≡ x.spare
      → ((values : List ℤ) → Met vs d values → Met vs b values) →
      Closed vs k l c y z → Ends vs k m d z w ended → Ends vs (suc k) (l + m) b x w ended
  second-ends x y z w Ended.Closed e s up p q = second-closed x y z w e s p q
  second-ends x y z w Ended.Stopped e s up p q = second-stopped x y z w e s p q
  second-ends x y z w (Ended.Refuted values) e s up p q = up values q

-- a quotient that is taken opens one branch
module _ (vs : List Variable) (k l : ℕ) (b c : Branch) (some : 1 ≤ l) (any : 1 ≤ quotients_at b) (deep : suc k ≤ 960)
    (fewer : quotients_at c ≤ quotients_at b) (more : c.added ≡ suc b.added)
    (opened : made vs (allowing (levels_of (suc k)) b) (Node.Quot 1) ≡ opens (c ∷ [])) where
  after-quot : (x y : Trail) → y.nodes ≡ x.nodes ++ Node.Quot 1 ∷ [] → (first ps : List OpenBranch) →
      left vs (Some first) x.nodes ≡ Some (allowing (levels_of (suc k)) b ∷ ps) →
      left vs (Some first) y.nodes ≡ Some (allowing (levels_of k) c ∷ ps)
  after-quot x y e first ps s =
      let next : levels_of (suc k) - 1 ≡ levels_of k = omega arith in
      ap (left vs (Some first)) e ∙ left-append vs (Some first) x.nodes (Node.Quot 1 ∷ [])
      ∙ ap (λ r. left vs r (Node.Quot 1 ∷ [])) s
      ∙ ap (left_by (levels_of (suc k)) ps) opened ∙ ap (λ lv. Some (allowing lv c ∷ ps)) next

  quot-cost : (x y : Trail) → y.nodes ≡ x.nodes ++ Node.Quot 1 ∷ [] → units y.nodes ≡ units x.nodes + 1
  quot-cost x y e = let u = ap units e ∙ units-append x.nodes (Node.Quot 1 ∷ []) in omega (arith, u)

  -- the node's unit is what the leaves have less
  pub quot-room : l * room_of vs c + 1 ≤ l * room_of vs b
  quot-room =
      let p : l * suc (room_of vs c) ≤ l * room_of vs b = mul-le-mul (le_refl l) (room-quot vs b c fewer more) in
      omega (arith, p, some)

  quot-closed : (x y z : Trail) → y.nodes ≡ x.nodes ++ Node.Quot 1 ∷ [] → y.spare + 1 ≡ x.spare →
      Closed vs k l c y z → Closed vs (suc k) l b x z
  quot-closed x y z e s p =
      let u = quot-cost x y e in let v = quot-room in let p0 = p.cost in let p1 = p.spent in
      record {
        closes = λ first ps g. p.closes first ps (after-quot x y e first ps g);
        found = λ h. p.found (all-more is_found_node x.nodes (Node.Quot 1 ∷ []) y.nodes e refl h);
        plain = λ none h. absurd (omega (arith, none, any));
        cost = omega (arith, u, v, p0);
        spent = omega (arith, s, u, p1);
      }

  quot-stopped : (x y z : Trail) → y.nodes ≡ x.nodes ++ Node.Quot 1 ∷ [] → y.spare + 1 ≡ x.spare →
      BudgetEnded vs k l c y z → BudgetEnded vs (suc k) l b x z
  quot-stopped x y z e s t =
      let u = quot-cost x y e in let v = quot-room in let t0 = t.short in let t1 = t.last in let t2 = t.spent in
      let within = room-quot vs b c fewer more in
      record {
        opened = λ first ps g. t.opened first ps (after-quot x y e first ps g);
        short = omega (arith, s, v, t0);
        last = omega (arith, t1, within);
        spent = omega (arith, s, u, t2);
      }

  pub quot-ends : (x y z : Trail) (ended : Ended) → y.nodes ≡ x.nodes ++ Node.Quot 1 ∷ [] → y.spare + 1 ≡ x.spare →
      ((values : List ℤ) → Met vs c values → Met vs b values) → Ends vs k l c y z ended →
      Ends vs (suc k) l b x z ended
  quot-ends x y z Ended.Closed e s up p = quot-closed x y z e s p
  quot-ends x y z Ended.Stopped e s up p = quot-stopped x y z e s p
  quot-ends x y z (Ended.Refuted values) e s up p = up values p
