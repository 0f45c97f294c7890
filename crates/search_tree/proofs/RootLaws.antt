-- What the search of the first branch says of its obligation.
use Rattle.std.proofs.Common.{◌≡◌, ℕ, suc, ◌+◌, ◌-◌, ◌*◌, ◌≤◌, ℤ, mul-le-mul, le_refl, not, true, Option}
use Rattle.std.proofs.Common.{Some, None, Ok, length, List, [], ◌∷◌, ◌++◌, arith, refl, sym}
use Rattle.std.proofs.Common.{ap, subst, ◌∙◌}
use Rattle.std.proofs.lemmas.Bool.{and_parts, not-true}
use Rattle.obligations.specs.declared.branches.Branch.{Branch}
use Rattle.obligations.specs.declared.branches.Obligation.{Obligation}
use Rattle.obligations.specs.declared.branches.Variable.{Variable}
use Rattle.core_terms.specs.declared.trees.Range.{Range}
use Rattle.obligations.specs.declared.certificates.Node.{Node}
use Rattle.certificate_rules.specs.Refutation.{OpenBranch}
use Rattle.obligations.specs.Settling.{form_at, branch_holds}
use Rattle.obligations.specs.Opening.{in_ranges, first_branch, ranges_only}
use Rattle.certificate_rules.specs.Refutation.{NodeEffect, fails, opens, made, pending, after, walk}
use Rattle.certificate_rules.specs.Trees.{is_whole}
use Rattle.certificate_rules.proofs.WholeLaws.{opened-arity}
use Rattle.linear_prover.specs.Chains.{is_plain_node}
use Rattle.std.specs.List.{list_all}
use Rattle.obligations.proofs.OpeningLaws.{first-holds}
use Rattle.search_tree.specs.declared.trail.Trail.{Trail}
use Rattle.search_tree.specs.declared.trail.Ended.{Ended}
use Rattle.search_tree.specs.declared.searching.Found.{Found}
use Rattle.obligations.specs.Certificates.{arity, units}
use Rattle.search_tree.specs.Left.{left_by, left}
use Rattle.obligations.specs.Plain.{ranges_of, quotients_in, leaf_units_of, plain_leaves, enough, need_of}
use Rattle.search_tree.specs.Searching.{Ready, Ends, Met, HasOpenBranch, IsUnfinished, root, SearchAnswers, found_of}
use Rattle.search_tree.specs.Searching.{quotients_at, room_of, is_found_node}
use Rattle.search_tree.proofs.SearchLaws.{units-less}
use Rattle.search_tree.proofs.ShapeLaws.{refused-more}
use Rattle.obligations.proofs.NumberLaws.{obligation-variables, obligation-load}
use Rattle.obligations.specs.Obligations.{IsObligation}
use Rattle.search_tree.proofs.ReadyLaws.{ready-root}
use Rattle.search_tree.proofs.EnoughLaws.{enough-below}

left-none : (vs : List Variable) (ns : List Node) → left vs None ns ≡ None
left-none vs [] = refl
left-none vs (n ∷ ns) = left-none vs ns

-- what nodes leave is where a walk along them ends
pub left-walk : (vs : List Variable) (ns : List Node) (ps qs : List OpenBranch) (at : ℕ) → left vs (Some ps) ns ≡ Some
    qs
    → walk vs ns ps at ≡ Ok qs
left-walk vs [] ps qs at e = let s : ps ≡ qs = cc in ap Ok s
left-walk vs (n ∷ ns) [] qs at e = let x = left-none vs ns in cc
left-walk vs (n ∷ ns) (p ∷ ps) qs at e = opened (made vs p n) e (λ rs. left-walk vs ns rs qs (suc at))
  where
    opened : (m : NodeEffect) → left vs (left_by p.levels ps m) ns ≡ Some qs →
        ((rs : List OpenBranch) → left vs (Some rs) ns ≡ Some qs → walk vs ns rs (suc at) ≡ Ok qs) →
        after (λ rs. walk vs ns rs (suc at)) p.levels ps at m ≡ Ok qs
    opened (fails c) e f = let x = left-none vs ns in cc
    opened (opens bs) e f = f (pending (p.levels - 1) bs ++ ps) e

-- nodes that leave nothing are whole trees
pub left-whole : (vs : List Variable) (ns : List Node) (ps : List OpenBranch) → left vs (Some ps) ns ≡ Some [] →
    is_whole
    ns (length ps) ≡ true
left-whole vs [] [] e = refl
left-whole vs [] (p ∷ ps) e = cc
left-whole vs (n ∷ ns) [] e = let x = left-none vs ns in cc
left-whole vs (n ∷ ns) (p ∷ ps) e = opened (made vs p n) refl e (left-whole vs ns)
  where
    long : (levels : ℕ) (bs : List Branch) → length (pending levels bs ++ ps) ≡ length bs + length ps
    long levels [] = omega arith
    long levels (b ∷ bs) = let ih = long levels bs in omega (arith, ih)

    opened : (m : NodeEffect) → made vs p n ≡ m → left vs (left_by p.levels ps m) ns ≡ Some [] →
        ((qs : List OpenBranch) → left vs (Some qs) ns ≡ Some [] → is_whole ns (length qs) ≡ true) → is_whole ns
        (arity n + length ps) ≡ true
    opened (fails c) q e f = let x = left-none vs ns in cc
    opened (opens bs) q e f =
        let a = opened-arity vs p n bs q in
        let l : arity n + length ps ≡ length (pending (p.levels - 1) bs ++ ps) =
        (let w = long (p.levels - 1) bs in omega (arith, a, w)) in
        ap (is_whole ns) l ∙ f (pending (p.levels - 1) bs ++ ps) e

unfinished : (vs : List Variable) (ns : List Node) (ps : List OpenBranch) (r : Option (List OpenBranch)) → left vs
    (Some ps)
    ns ≡ r → HasOpenBranch r → IsUnfinished (walk vs ns ps 0)
unfinished vs ns ps None e h = absurd h
unfinished vs ns ps (Some []) e h = absurd h
unfinished vs ns ps (Some (q ∷ qs)) e h = subst IsUnfinished (sym (left-walk vs ns ps (q ∷ qs) 0 e)) tt

abbrev all_leaves : Obligation → ℕ
all_leaves o = plain_leaves o.variables 960 (ranges_of o.variables) (first_branch o)

-- a leaf of the first branch has no more room than each leaf of the obligation
pub root-room : (o : Obligation) → room_of o.variables (first_branch o) ≤ leaf_units_of o
root-room o =
    let q = (refused-more o.variables o.form (ranges_only o.variables)).quotients in
    let h = units-less (length o.variables) (quotients_at (first_branch o)) (quotients_in o) (omega (arith, q)) in
    omega (arith, h)

pub room-enough : (o : Obligation) → all_leaves o * room_of o.variables (first_branch o) ≤ enough o
room-enough o = mul-le-mul (le_refl (all_leaves o)) (root-room o)

pub no-quotients : (o : Obligation) → quotients_in o ≡ 0 → quotients_at (first_branch o) ≡ 0
no-quotients o none =
    let q = (refused-more o.variables o.form (ranges_only o.variables)).quotients in omega (arith, q, none)

-- values that meet the first branch make the form false
pub root-met : (o : Obligation) (values : List ℤ) → Met o.variables (first_branch o) values →
    branch_holds o.variables values (first_branch o) ≡ true
root-met o values m = by_more m.holds.0 m.holds.1 m.holds.2
  where
    append-none : (xs : List ℤ) → xs ++ [] ≡ xs
    append-none [] = refl
    append-none (x ∷ xs) = ap (λ z. x ∷ z) (append-none xs)

    by_more : (more : List ℤ) → length more ≡ 0 → branch_holds o.variables (values ++ more) (first_branch o) ≡ true →
        branch_holds o.variables values (first_branch o) ≡ true
    by_more [] l h = ap (λ z. branch_holds o.variables z (first_branch o)) (sym (append-none values)) ∙ h
    by_more (x ∷ more) l h = absurd (omega (arith, l))

root-answers : (o : Obligation) → enough o ≤ need_of o → (budget : ℕ) (old new : Trail) (e : Ended) → old.nodes ≡ [] →
    old.spare ≡ budget → Ends o.variables 960 (all_leaves o) (first_branch o) old new e → SearchAnswers o budget
    (found_of e new.nodes)
root-answers o below budget old new Ended.Closed n s c =
    let cost = c.cost in let spent = c.spent in let u = ap units n in let room = room-enough o in
    record {
      whole = left-whole o.variables new.nodes (root o) (c.closes (root o) []
          (ap (left o.variables (Some (root o))) n));
      walked = left-walk o.variables new.nodes (root o) [] 0
          (c.closes (root o) [] (ap (left o.variables (Some (root o))) n));
      found = c.found (ap (list_all is_found_node) n);
      plain = λ none. c.plain (no-quotients o none) (ap (list_all is_plain_node) n);
      within = omega (arith, spent, u, s);
      cheap = omega (arith, cost, u, room);
      needed = omega (arith, cost, u, room, below);
    }
root-answers o below budget old new Ended.Stopped n s c =
    let short = c.short in let last = c.last in let spent = c.spent in let u = ap units n in
    let room = room-enough o in let most = root-room o in
    record {
      small = omega (arith, short, s, room);
      needs = omega (arith, short, s, room, below);
      opened = unfinished o.variables new.nodes (root o) _ refl
          (c.opened (root o) [] (ap (left o.variables (Some (root o))) n));
      within = omega (arith, spent, u, s);
      full = omega (arith, spent, u, s, last, most);
    }
root-answers o below budget old new (Ended.Refuted values) n s c =
    let parts = and_parts (in_ranges o.variables values) (not (form_at o.variables values o.form))
    (sym (first-holds o values c.long) ∙ root-met o values c) in
    record { inside = parts.0; fails = not-true (form_at o.variables values o.form) parts.1 }

pub search-answers : (o : Obligation) → IsObligation o → (vs : List Variable) (rs : List Range) (b : Branch)
    (old new : Trail) (e : Ended) (budget : ℕ) (f : Found) → vs ≡ o.variables → rs ≡ ranges_of o.variables → b ≡
    first_branch o →
    old.nodes ≡ [] → old.spare ≡ budget → Ends vs 960 (plain_leaves vs 960 rs b) b old new e → f ≡ found_of e
    new.nodes → SearchAnswers o budget f
search-answers o m vs rs b old new e budget f p q r n s c g =
    subst (SearchAnswers o budget) (sym g) (root-answers o (enough-below o m) budget old new e n s
    (subst (λ z. Ends o.variables 960 (plain_leaves o.variables 960 (ranges_of o.variables) z) z old new e) r
    (subst (λ z. Ends o.variables 960 (plain_leaves o.variables 960 z b) b old new e) q
    (subst (λ z. Ends z 960 (plain_leaves z 960 rs b) b old new e) p c))))

pub search-ready : (o : Obligation) (vs : List Variable) (rs : List Range) (b : Branch) → IsObligation o → vs ≡
    o.variables → rs ≡ ranges_of o.variables → b ≡ first_branch o → Ready vs 960 rs b
search-ready o vs rs b m p q r =
    subst (λ z. Ready z 960 rs b) (sym p) (subst (λ z. Ready o.variables 960 z b) (sym q)
    (subst (Ready o.variables 960 (ranges_of o.variables)) (sym r) (ready-root o m)))

pub ruleset obligation_laws = (obligation-variables, obligation-load)
