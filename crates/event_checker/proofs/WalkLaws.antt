-- Walks along nodes of which the first are done.
use Rattle.std.proofs.Common.{◌≡◌, ℕ, suc, ◌+◌, ◌-◌, ◌<◌, Bool, true, false, cond, Result, Ok, Err, List, [], ◌∷◌}
use Rattle.std.proofs.Common.{◌++◌, length, refl, sym, ap, ◌∙◌, subst, arith, length-append, reverse, ℤ}
use Rattle.case_tables.specs.declared.code_table.Code.{Code}
use Rattle.obligations.specs.declared.branches.Branch.{Branch}
use Rattle.obligations.specs.declared.branches.Line.{Line}
use Rattle.obligations.specs.declared.branches.Variable.{Variable}
use Rattle.obligations.specs.declared.certificates.Node.{Node}
use Rattle.obligations.specs.Certificates.{arity}
use Rattle.obligations.specs.Scopes.{scope_of}
use Rattle.certificate_rules.specs.Sums.{PairStep, each_pair, then_by}
use Rattle.certificate_rules.specs.Refutation.{NodeEffect, fails, opens, OpenBranch, after, allowing, go_on}
use Rattle.certificate_rules.specs.Refutation.{made, made_by, pending, walk}
use Rattle.certificate_rules.specs.Trees.{is_whole}
use Rattle.certificate_rules.proofs.RefutationLaws.{walk-appends}
use Rattle.certificate_rules.proofs.WholeLaws.{opened-arity}
use Rattle.certificate_machine.specs.declared.errors.Stop.{Stop}
use Rattle.certificate_machine.specs.declared.frames.Machine.{Machine}
use Rattle.certificate_machine.specs.Machines.{Goes, GoesErr, pendings, rest_of, step_by, behind}
use Rattle.certificate_machine.proofs.MachineLaws.{made-allowed}
use Rattle.event_checker.specs.Readings.{At}

ok-same : {A E : Type 0} {x y : A} → ◌≡◌ {A = Result A E} (Ok x) (Ok y) → x ≡ y
ok-same h = cc

-- what a node makes, by the variables that a machine holds
pub made-is : (vs : List Variable) (m : Machine) (n : Node) → 0 < m.levels → m.variables ≡ scope_of vs m.branch →
    made_by m.variables m.branch n ≡ made vs (allowing m.levels m.branch) n
made-is vs m n some scoped =
    ap (λ us. made_by us m.branch n) scoped ∙ sym (made-allowed vs m.levels m.branch n some)

walk-none : (vs : List Variable) (ns : List Node) (at : ℕ) → walk vs ns [] at ≡ Ok []
walk-none vs [] at = refl
walk-none vs (n ∷ ns) at = refl

-- further nodes are not looked at where no branch is left
pub closed-stays : (vs : List Variable) (ns ms : List Node) (root : List OpenBranch) → walk vs ns root 0 ≡ Ok [] →
    walk vs (ns ++ ms) root 0 ≡ Ok []
closed-stays vs ns ms root e =
    walk-appends vs ns ms root 0 ∙ ap (λ r. go_on r (λ qs. walk vs ms qs (0 + length ns))) e
    ∙ walk-none vs ms (0 + length ns)

module _ (vs : List Variable) (root : List OpenBranch) (m : Machine) (node : ℕ) (done : List Node)
    (at : At vs root m node done) where
  pub pendings-at : pendings vs m ≡ allowing m.levels m.branch ∷ rest_of vs m
  pendings-at = ap (λ b. cond b [] (allowing m.levels m.branch ∷ rest_of vs m)) at.going

  pub walk-at : (n : Node) (ms : List Node) → walk vs (done ++ n ∷ ms) root 0
      ≡ after (λ qs. walk vs ms qs (suc (length done))) m.levels (rest_of vs m) (length done)
      (made vs (allowing m.levels m.branch) n)
  walk-at n ms =
      let zero : 0 + length done ≡ length done = omega arith in
      walk-appends vs done (n ∷ ms) root 0
      ∙ ap (λ r. go_on r (λ qs. walk vs (n ∷ ms) qs (0 + length done))) at.walked
      ∙ ap (λ ps. walk vs (n ∷ ms) ps (0 + length done)) pendings-at
      ∙ ap (walk vs (n ∷ ms) (allowing m.levels m.branch ∷ rest_of vs m)) zero

  -- a node that fails
  pub fails-at : (n : Node) (ms : List Node) (code : Code) → made vs (allowing m.levels m.branch) n ≡ fails code →
      walk vs (done ++ n ∷ ms) root 0 ≡ Err (code, node)
  fails-at n ms code e =
      walk-at n ms
      ∙ ap (after (λ qs. walk vs ms qs (suc (length done))) m.levels (rest_of vs m) (length done)) e
      ∙ ap (λ k. Err (code, k)) (sym at.count)

  -- a node that does not
  pub goes-at : (n : Node) (new : Machine) → Goes vs m (made vs (allowing m.levels m.branch) n) new →
      walk vs (done ++ n ∷ []) root 0 ≡ Ok (pendings vs new)
  goes-at n new g = walk-at n [] ∙ same-step (made vs (allowing m.levels m.branch) n) g.0
    where
      same-step : (e : NodeEffect) → step_by m.levels (rest_of vs m) e ≡ Ok (pendings vs new) →
          after (λ qs. walk vs [] qs (suc (length done))) m.levels (rest_of vs m) (length done) e ≡ Ok (pendings vs new)
      same-step (fails c) q = cc
      same-step (opens bs) q = ap Ok (ok-same q)

-- an error is the failure of the node
pub fails-by : (vs : List Variable) (m : Machine) (e : NodeEffect) (code : Code) → GoesErr vs m e (Stop.Fault code) →
    e ≡ fails code
fails-by vs m (fails c) code h = let same : c ≡ code = cc in ap (λ c. fails c) same
fails-by vs m (opens bs) code h = cc

-- a node with subtrees leaves a branch
pub goes-on : (vs : List Variable) (m : Machine) (n : Node) (new : Machine) →
    Goes vs m (made vs (allowing m.levels m.branch) n) new → 0 < arity n → new.done ≡ false
goes-on vs m n new g some = by_effect (made vs (allowing m.levels m.branch) n) refl g.0 new.done refl
  where
    left : (bs : List Branch) → 0 < length bs → (b : Bool) →
        ◌≡◌ {A = Result (List OpenBranch) Code} (Ok (pending (m.levels - 1) bs ++ rest_of vs m))
        (Ok (cond b [] (allowing new.levels new.branch ∷ behind vs (reverse new.frames) new.branch))) → b ≡ false
    left [] h b e = absurd (omega arith)
    left (x ∷ bs) h true e = cc
    left (x ∷ bs) h false e = refl

    by_effect : (e : NodeEffect) → made vs (allowing m.levels m.branch) n ≡ e →
        step_by m.levels (rest_of vs m) e ≡ Ok (pendings vs new) → (b : Bool) → new.done ≡ b → new.done ≡ false
    by_effect (fails c) q s b d = cc
    by_effect (opens bs) q s b d =
        let count = opened-arity vs (allowing m.levels m.branch) n bs q in
        left bs (omega (arith, count, some)) new.done s

-- whole trees are left where whole trees were, and some are done
pub rest-whole : (vs : List Variable) (ns ms : List Node) (ps qs : List OpenBranch) (at : ℕ) →
    is_whole (ns ++ ms) (length ps) ≡ true → walk vs ns ps at ≡ Ok qs → is_whole ms (length qs) ≡ true
rest-whole vs [] ms ps qs at w e = let same : ps ≡ qs = cc in subst (λ rs. is_whole ms (length rs) ≡ true) same w
rest-whole vs (n ∷ ns) ms [] qs at w e = cc
rest-whole vs (n ∷ ns) ms (p ∷ ps) qs at w e =
    by_effect (made vs p n) refl e (λ rs. rest-whole vs ns ms rs qs (suc at))
  where
    pending-length : (levels : ℕ) (bs : List Branch) → length (pending levels bs) ≡ length bs
    pending-length levels [] = refl
    pending-length levels (b ∷ bs) = ap suc (pending-length levels bs)

    by_effect : (f : NodeEffect) → made vs p n ≡ f → after (λ rs. walk vs ns rs (suc at)) p.levels ps at f ≡ Ok qs →
        ((rs : List OpenBranch) → is_whole (ns ++ ms) (length rs) ≡ true → walk vs ns rs (suc at) ≡ Ok qs →
        is_whole ms (length qs) ≡ true) → is_whole ms (length qs) ≡ true
    by_effect (fails c) q h ih = cc
    by_effect (opens bs) q h ih =
        ih (pending (p.levels - 1) bs ++ ps) (ap (is_whole (ns ++ ms))
        (let l = length-append (pending (p.levels - 1) bs) ps in let k = pending-length (p.levels - 1) bs in
        let c = opened-arity vs p n bs q in omega (arith, l, k, c)) ∙ w) h

-- Pairs.

-- one pair more
pub each-append : (step : PairStep) (r : Result Line Code) (ps : List (ℤ × ℕ)) (p : ℤ × ℕ) →
    each_pair step r (ps ++ p ∷ []) ≡ then_by step (each_pair step r ps) p
each-append step r [] p = refl
each-append step r (q ∷ ps) p = each-append step (then_by step r q) ps p

-- and what follows
pub each-further : (step : PairStep) (r : Result Line Code) (ps qs : List (ℤ × ℕ)) →
    each_pair step r (ps ++ qs) ≡ each_pair step (each_pair step r ps) qs
each-further step r [] qs = refl
each-further step r (p ∷ ps) qs = each-further step (then_by step r p) ps qs
