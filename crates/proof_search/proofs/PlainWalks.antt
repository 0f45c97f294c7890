-- Where an obligation has no quotient, nodes that refute it take none.
use Rattle.std.proofs.Common.{◌≡◌, ℕ, zero, suc, ◌+◌, ◌-◌, ℤ, pos, ◌+ℤ◌, Bool, true, false, cond, ◌&&◌, Option, Some}
use Rattle.std.proofs.Common.{None}
use Rattle.std.proofs.Common.{Result, Ok, Err, List, [], ◌∷◌, ◌++◌, length, remove, slice_get, nat_lt, arith, refl}
use Rattle.std.proofs.Common.{sym, ap, ◌∙◌}
use Rattle.std.specs.List.{list_all}
use Rattle.std.specs.Option.{option_and_then}
use Rattle.std.proofs.lemmas.Bool.{and_parts}
use Rattle.case_tables.specs.declared.code_table.Code.{Code}
use Rattle.core_terms.specs.declared.trees.CForm.{CForm}
use Rattle.obligations.specs.declared.branches.Branch.{Branch}
use Rattle.obligations.specs.declared.branches.Fact.{Fact}
use Rattle.obligations.specs.declared.branches.Line.{Line}
use Rattle.obligations.specs.declared.branches.Obligation.{Obligation}
use Rattle.obligations.specs.declared.branches.Replaced.{Replaced}
use Rattle.obligations.specs.declared.branches.Variable.{Variable}
use Rattle.obligations.specs.declared.certificates.Node.{Node}
use Rattle.obligations.specs.Certificates.{arity}
use Rattle.obligations.specs.LinearForms.{fact_of}
use Rattle.obligations.specs.Opening.{first_branch, ranges_only, at_most, at_least}
use Rattle.obligations.specs.Plain.{quotients_in}
use Rattle.obligations.specs.Quotients.{is_either, without_quotient}
use Rattle.obligations.specs.Scopes.{next_param, scope_of}
use Rattle.obligations.specs.Settling.{settled, sides, added, without}
use Rattle.obligations.specs.Shapes.{shapes, quotients_of}
use Rattle.certificate_rules.specs.Sums.{all_pairs, is_false, is_divisible, divided, stated, below_0}
use Rattle.certificate_rules.specs.Refutation.{NodeEffect, fails, opens, OpenBranch, made_case, made_quot, made_sum}
use Rattle.certificate_rules.specs.Refutation.{made_round, made_share, made_by, made, pending, after, walk}
use Rattle.certificate_rules.specs.Refutation.{walk_from_root}
use Rattle.certificate_rules.specs.Trees.{is_whole}
use Rattle.certificate_rules.proofs.WholeLaws.{opened-arity}
use Rattle.linear_prover.specs.Chains.{is_plain_node}
use Rattle.search_tree.specs.Searching.{is_found_node}
use Rattle.search_tree.proofs.QuotientShapes.{without-less}
use Rattle.search_tree.proofs.ShapeLaws.{settled-more, refused-more, side-shapes, quotients-append}

-- no formula that waits has a quotient
abbrev IsFree : Branch → Type 0
IsFree b = quotients_of b.waiting ≡ 0

abbrev AreFree : List Branch → Type 0
AreFree [] = Unit {0}
AreFree (b ∷ bs) = IsFree b × AreFree bs

abbrev AllFree : List OpenBranch → Type 0
AllFree [] = Unit {0}
AllFree (p ∷ ps) = IsFree p.branch × AllFree ps

abbrev OpensFree : NodeEffect → Type 0
OpensFree (fails c) = Unit {0}
OpensFree (opens bs) = AreFree bs

abbrev IsFailure : NodeEffect → Type 0
IsFailure (fails c) = Unit {0}
IsFailure (opens bs) = ⊥

-- a node fails where it takes a quotient, and else opens branches without one
abbrev Effect : Node → NodeEffect → Type 0
Effect (Node.Case k) m = OpensFree m
Effect (Node.Split v k) m = OpensFree m
Effect (Node.Sum ps) m = OpensFree m
Effect (Node.Round d ps) m = OpensFree m
Effect (Node.Quot k) m = IsFailure m
Effect (Node.Share c ps) m = OpensFree m

quotients-get : (fs : List CForm) (k : ℕ) (f : CForm) → slice_get fs k ≡ Some f →
    quotients_of fs ≡ (shapes f).yes.quotients + quotients_of (remove fs k)
quotients-get [] k f e = cc
quotients-get (g ∷ fs) zero f e = let s : g ≡ f = cc in ap (λ h. (shapes h).yes.quotients + quotients_of fs) s
quotients-get (g ∷ fs) (suc k) f e = let ih = quotients-get fs k f e in omega (arith, ih)

free-if : (t : Bool) (bs : List Branch) (c : Code) → AreFree bs → OpensFree (cond t (opens bs) (fails c))
free-if true bs c h = h
free-if false bs c h = tt

free-added : (b : Branch) (g : Fact) → IsFree b → IsFree (added b g)
free-added b g h = let q = quotients-append b.waiting [] in omega (arith, q, h)

case-free : (vs : List Variable) (b : Branch) (k : ℕ) (o : Option CForm) → slice_get b.waiting k ≡ o → IsFree b →
    OpensFree (made_case vs b k o)
case-free vs b k None e h = tt
case-free vs b k (Some f) e h = by (is_either f) refl
  where
    by : (t : Bool) → is_either f ≡ t → OpensFree (cond t (opens (settled vs (sides f).0 (without b k) ∷
        settled vs (sides f).1 (without b k) ∷ [])) (fails Code.NothingToCase))
    by true t =
        let q = (side-shapes f t).quotients in let g = quotients-get b.waiting k f e in
        let one = (settled-more vs (sides f).0 (without b k)).quotients in
        let two = (settled-more vs (sides f).1 (without b k)).quotients in
        (omega (arith, q, g, one, h), (omega (arith, q, g, two, h), tt))
    by false t = tt

quot-fails : (vs : List Variable) (b : Branch) (k : ℕ) (o : Option CForm) → slice_get b.waiting k ≡ o → IsFree b →
    IsFailure (made_quot vs b k (option_and_then (without_quotient (next_param vs)) o))
quot-fails vs b k None e h = tt
quot-fails vs b k (Some f) e h = by (without_quotient (next_param vs) f) refl
  where
    by : (r : Option Replaced) → without_quotient (next_param vs) f ≡ r → IsFailure (made_quot vs b k r)
    by None t = tt
    by (Some r) t =
        let l = (without-less (next_param vs) f r t).quotients in let g = quotients-get b.waiting k f e in
        absurd (omega (arith, l, g, h))

sum-free : (r : Result Line Code) → OpensFree (made_sum r)
sum-free (Err c) = tt
sum-free (Ok l) = free-if (is_false l) [] Code.BadSum tt

round-free : (b : Branch) (d : ℤ) (r : Result Line Code) → IsFree b → OpensFree (made_round b d r)
round-free b d (Err c) h = tt
round-free b d (Ok l) h =
    free-if (is_divisible d l) (added b (fact_of (divided d l)) ∷ []) Code.NotDivisible
    (free-added b (fact_of (divided d l)) h, tt)

share-free : (b : Branch) (r : Result Line Code) → IsFree b → OpensFree (made_share b r)
share-free b (Err c) h = tt
share-free b (Ok l) h = (free-added b (fact_of (below_0 l)) h, (free-added b (fact_of l) h, tt))

by-node : (vs : List Variable) (b : Branch) (n : Node) → IsFree b → Effect n (made_by vs b n)
by-node vs b (Node.Case zero) h = tt
by-node vs b (Node.Case (suc k)) h = case-free vs b k (slice_get b.waiting k) refl h
by-node vs b (Node.Split zero k) h = tt
by-node vs b (Node.Split (suc v) k) h =
    free-if (nat_lt v (length vs)) _ Code.NoSuchVariable
    (free-added b (at_most v k) h, (free-added b (at_least v (k +ℤ pos 1)) h, tt))
by-node vs b (Node.Sum ps) h = sum-free (all_pairs vs b.facts ps)
by-node vs b (Node.Round d ps) h = round-free b d (all_pairs vs b.facts ps) h
by-node vs b (Node.Quot zero) h = tt
by-node vs b (Node.Quot (suc k)) h = quot-fails vs b k (slice_get b.waiting k) refl h
by-node vs b (Node.Share c ps) h = share-free b (stated vs c ps) h

failed : (n : Node) (c : Code) → Effect n (fails c)
failed (Node.Case k) c = tt
failed (Node.Split v k) c = tt
failed (Node.Sum ps) c = tt
failed (Node.Round d ps) c = tt
failed (Node.Quot k) c = tt
failed (Node.Share d ps) c = tt

by-level : (n : Node) (t : Bool) (m : NodeEffect) → Effect n m → Effect n (cond t m (fails Code.CertTooDeep))
by-level n true m h = h
by-level n false m h = failed n Code.CertTooDeep

made-free : (vs : List Variable) (p : OpenBranch) (n : Node) → IsFree p.branch → Effect n (made vs p n)
made-free vs p n h =
    by-level n (nat_lt 0 p.levels) (made_by (scope_of vs p.branch) p.branch n)
    (by-node (scope_of vs p.branch) p.branch n h)

-- a node that opened branches took no quotient
plain-node : (n : Node) (bs : List Branch) → Effect n (opens bs) → is_found_node n ≡ true → is_plain_node n ≡ true
plain-node (Node.Case k) bs h e = refl
plain-node (Node.Split v k) bs h e = e
plain-node (Node.Sum ps) bs h e = e
plain-node (Node.Round d ps) bs h e = e
plain-node (Node.Quot k) bs h e = absurd h
plain-node (Node.Share c ps) bs h e = cc

opened-free : (n : Node) (bs : List Branch) → Effect n (opens bs) → AreFree bs
opened-free (Node.Case k) bs h = h
opened-free (Node.Split v k) bs h = h
opened-free (Node.Sum ps) bs h = h
opened-free (Node.Round d ps) bs h = h
opened-free (Node.Quot k) bs h = absurd h
opened-free (Node.Share c ps) bs h = h

pending-free : (levels : ℕ) (bs : List Branch) (ps : List OpenBranch) → AreFree bs → AllFree ps →
    AllFree (pending levels bs ++ ps)
pending-free levels [] ps h k = k
pending-free levels (b ∷ bs) ps h k = (h.0, pending-free levels bs ps h.1 k)

pending-length : (levels : ℕ) (bs : List Branch) (ps : List OpenBranch) →
    length (pending levels bs ++ ps) ≡ length bs + length ps
pending-length levels [] ps = omega arith
pending-length levels (b ∷ bs) ps = let ih = pending-length levels bs ps in omega (arith, ih)

walk-plain : (vs : List Variable) (ns : List Node) (ps : List OpenBranch) (at : ℕ) → walk vs ns ps at ≡ Ok [] →
    is_whole ns (length ps) ≡ true → AllFree ps → list_all is_found_node ns ≡ true → list_all is_plain_node ns ≡ true
walk-plain vs [] ps at e w h f = refl
walk-plain vs (n ∷ ns) [] at e w h f = cc
walk-plain vs (n ∷ ns) (p ∷ ps) at e w h f =
    opened (made vs p n) refl e (made-free vs p n h.0) (walk-plain vs ns)
  where
    opened : (m : NodeEffect) → made vs p n ≡ m →
        after (λ rs. walk vs ns rs (suc at)) p.levels ps at m ≡ Ok [] → Effect n m →
        ((qs : List OpenBranch) (place : ℕ) → walk vs ns qs place ≡ Ok [] → is_whole ns (length qs) ≡ true →
        AllFree qs → list_all is_found_node ns ≡ true → list_all is_plain_node ns ≡ true) →
        (is_plain_node n && list_all is_plain_node ns) ≡ true
    opened (fails c) q g t k = cc
    opened (opens bs) q g t k =
        let parts = and_parts (is_found_node n) (list_all is_found_node ns) f in
        let a = opened-arity vs p n bs q in let l = pending-length (p.levels - 1) bs ps in
        let long : length (pending (p.levels - 1) bs ++ ps) ≡ arity n + length ps = omega (arith, a, l) in
        ap (λ z. z && list_all is_plain_node ns) (plain-node n bs t parts.0)
        ∙ k (pending (p.levels - 1) bs ++ ps) (suc at) g (ap (is_whole ns) long ∙ w)
        (pending-free (p.levels - 1) bs ps (opened-free n bs t) h.1) parts.1

first-free : (o : Obligation) → quotients_in o ≡ 0 → IsFree (first_branch o)
first-free o none =
    let q = (refused-more o.variables o.form (ranges_only o.variables)).quotients in omega (arith, q, none)

pub plain-walked : (o : Obligation) (nodes : List Node) → is_whole nodes 1 ≡ true →
    walk_from_root 1024 o nodes ≡ Ok [] → list_all is_found_node nodes ≡ true → quotients_in o ≡ 0 →
    list_all is_plain_node nodes ≡ true
plain-walked o nodes w e f none = walk-plain o.variables nodes _ 0 e w (first-free o none, tt) f
