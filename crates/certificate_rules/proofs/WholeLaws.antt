-- A walk along whole trees looks at all branches, and is one along a tree.
use Rattle.std.proofs.Common.{◌≡◌, ℕ, zero, suc, ◌+◌, ◌≤◌, ℤ, Bool, true, false, cond, Option, Some, None, Result, Ok}
use Rattle.std.proofs.Common.{Err, List, [], ◌∷◌, ◌++◌, ◌-◌, length, slice_get, nat_lt, length-append}
use Rattle.std.proofs.Common.{append_assoc, arith, refl, sym, ap, ◌∙◌, subst}
use Rattle.std.specs.Option.{option_and_then}
use Rattle.obligations.specs.from_core_terms.declared.trees.CForm.{CForm}
use Rattle.obligations.specs.from_case_tables.declared.code_table.Code.{Code}
use Rattle.obligations.specs.declared.branches.Branch.{Branch}
use Rattle.obligations.specs.declared.branches.Variable.{Variable}
use Rattle.obligations.specs.declared.branches.Line.{Line}
use Rattle.obligations.specs.declared.branches.Obligation.{Obligation}
use Rattle.obligations.specs.declared.branches.Replaced.{Replaced}
use Rattle.obligations.specs.declared.certificates.Node.{Node}
use Rattle.obligations.specs.Certificates.{arity}
use Rattle.obligations.specs.LinearForms.{fact_of}
use Rattle.obligations.specs.Opening.{first_branch}
use Rattle.obligations.specs.Quotients.{is_either, without_quotient}
use Rattle.obligations.specs.Scopes.{next_param, scope_of}
use Rattle.obligations.specs.Settling.{added, settled, sides, without}
use Rattle.certificate_rules.specs.Sums.{is_false, all_pairs, is_divisible, divided, stated}
use Rattle.certificate_rules.specs.Refutation.{NodeEffect, fails, opens, made_case, made_sum, made_round, made_by}
use Rattle.certificate_rules.specs.Refutation.{made_share, made_quot}
use Rattle.certificate_rules.specs.Refutation.{OpenBranch}
use Rattle.certificate_rules.specs.Refutation.{made, pending, after, walk, allowing, walk_from_root, MoreLevels}
use Rattle.certificate_rules.specs.Trees.{CertTree, leaf, one_below, two_below, nodes_of, Refutes, Refuted}
use Rattle.certificate_rules.specs.Trees.{is_whole, WalkIsTree}
use Rattle.certificate_rules.proofs.RefutationLaws.{walk-tree}

-- a failure, or as many branches
abbrev Opened : ℕ → NodeEffect → Type 0
Opened n (fails c) = Unit {0}
Opened n (opens bs) = length bs ≡ n

opened-if : (n : ℕ) (b : Bool) (bs : List Branch) (c : Code) → length bs ≡ n → Opened n (cond b (opens bs) (fails c))
opened-if n true bs c e = e
opened-if n false bs c e = tt

opened-case : (vs : List Variable) (b : Branch) (k : ℕ) (o : Option CForm) → Opened 2 (made_case vs b k o)
opened-case vs b k None = tt
opened-case vs b k (Some f) =
    opened-if 2 (is_either f) (settled vs (sides f).0 (without b k) ∷ settled vs (sides f).1 (without b k) ∷ [])
    Code.NothingToCase refl

opened-quot : (vs : List Variable) (b : Branch) (k : ℕ) (o : Option Replaced) → Opened 1 (made_quot vs b k o)
opened-quot vs b k None = tt
opened-quot vs b k (Some r) = refl

opened-sum : (r : Result Line Code) → Opened 0 (made_sum r)
opened-sum (Err c) = tt
opened-sum (Ok l) = opened-if 0 (is_false l) [] Code.BadSum refl

opened-round : (b : Branch) (d : ℤ) (r : Result Line Code) → Opened 1 (made_round b d r)
opened-round b d (Err c) = tt
opened-round b d (Ok l) = opened-if 1 (is_divisible d l) (added b (fact_of (divided d l)) ∷ []) Code.NotDivisible refl

opened-share : (b : Branch) (r : Result Line Code) → Opened 2 (made_share b r)
opened-share b (Err c) = tt
opened-share b (Ok l) = refl

opened-by : (vs : List Variable) (b : Branch) (n : Node) → Opened (arity n) (made_by vs b n)
opened-by vs b (Node.Case zero) = tt
opened-by vs b (Node.Case (suc k)) = opened-case vs b k (slice_get b.waiting k)
opened-by vs b (Node.Split zero k) = tt
opened-by vs b (Node.Split (suc v) k) = opened-if 2 (nat_lt v (length vs)) _ Code.NoSuchVariable refl
opened-by vs b (Node.Sum ps) = opened-sum (all_pairs vs b.facts ps)
opened-by vs b (Node.Round d ps) = opened-round b d (all_pairs vs b.facts ps)
opened-by vs b (Node.Quot zero) = tt
opened-by vs b (Node.Quot (suc k)) =
    opened-quot vs b k (option_and_then (without_quotient (next_param vs)) (slice_get b.waiting k))
opened-by vs b (Node.Share c ps) = opened-share b (stated vs c ps)

opened-made : (n : ℕ) (b : Bool) (m : NodeEffect) → Opened n m → Opened n (cond b m (fails Code.CertTooDeep))
opened-made n true m h = h
opened-made n false m h = tt

opened : (vs : List Variable) (p : OpenBranch) (n : Node) → Opened (arity n) (made vs p n)
opened vs p n =
    opened-made (arity n) (nat_lt 0 p.levels) (made_by (scope_of vs p.branch) p.branch n)
    (opened-by (scope_of vs p.branch) p.branch n)

-- a node opens as many branches as it has subtrees
pub opened-arity : (vs : List Variable) (p : OpenBranch) (n : Node) (bs : List Branch) → made vs p n ≡ opens bs →
    length bs ≡ arity n
opened-arity vs p n bs e = subst (Opened (arity n)) e (opened vs p n)

pending-length : (levels : ℕ) (bs : List Branch) → length (pending levels bs) ≡ length bs
pending-length levels [] = refl
pending-length levels (b ∷ bs) = ap suc (pending-length levels bs)

goes-on : (vs : List Variable) (n : Node) (ns : List Node) (ps qs : List OpenBranch) (levels at : ℕ) (m : NodeEffect) →
    Opened (arity n) m → is_whole ns (arity n + length ps) ≡ true →
    ((rs : List OpenBranch) → is_whole ns (length rs) ≡ true → walk vs ns rs (suc at) ≡ Ok qs → qs ≡ []) →
    after (λ rs. walk vs ns rs (suc at)) levels ps at m ≡ Ok qs → qs ≡ []
goes-on vs n ns ps qs levels at (fails c) o w ih e = cc
goes-on vs n ns ps qs levels at (opens bs) o w ih e =
    ih (pending (levels - 1) bs ++ ps) (ap (is_whole ns)
    (let l = length-append (pending (levels - 1) bs) ps in let p = pending-length (levels - 1) bs in omega
    (arith, l, p, o)) ∙ w) e

-- nodes of as many whole trees as there are branches leave none
pub whole-walks : (vs : List Variable) (ns : List Node) (ps qs : List OpenBranch) (at : ℕ) →
    is_whole ns (length ps) ≡ true → walk vs ns ps at ≡ Ok qs → qs ≡ []
whole-walks vs [] [] qs at w e = cc
whole-walks vs [] (p ∷ ps) qs at w e = grind arith
whole-walks vs (n ∷ ns) [] qs at w e = cc
whole-walks vs (n ∷ ns) (p ∷ ps) qs at w e =
    goes-on vs n ns ps qs p.levels at (made vs p n) (opened vs p n) w (λ rs. whole-walks vs ns rs qs (suc at)) e

-- A tree whose nodes are read to their end refutes its branch.
one-of : (bs : List Branch) → length bs ≡ 1 → (c : Branch) × (bs ≡ c ∷ [])
one-of [] e = absurd (omega arith)
one-of (c ∷ []) e = (c, refl)
one-of (c ∷ d ∷ bs) e = absurd (omega arith)

two-of : (bs : List Branch) → length bs ≡ 2 → (c : Branch) × (d : Branch) × (bs ≡ c ∷ d ∷ [])
two-of [] e = absurd (omega arith)
two-of (c ∷ []) e = absurd (omega arith)
two-of (c ∷ d ∷ []) e = (c, d, refl)
two-of (c ∷ d ∷ e' ∷ bs) e = absurd (omega arith)

none-of : (bs : List Branch) → length bs ≡ 0 → bs ≡ []
none-of [] e = refl
none-of (b ∷ bs) e = absurd (omega arith)

abbrev Reads : List Variable → CertTree → Type 0
Reads vs t =
    (levels : ℕ) (b : Branch) (ns : List Node) (ps : List OpenBranch) (at : ℕ) →
    walk vs (nodes_of t ++ ns) (allowing levels b ∷ ps) at ≡ Ok [] → Refutes vs levels b t

two-read : (vs : List Variable) (n : Node) (t u : CertTree) (levels : ℕ) (b : Branch) (ns : List Node)
    (ps : List OpenBranch)
    (at : ℕ) (m : NodeEffect) → made vs (allowing levels b) n ≡ m → Opened 2 m →
    after (λ qs. walk vs ((nodes_of t ++ nodes_of u) ++ ns) qs (suc at)) levels ps at m ≡ Ok [] → Reads vs t →
    Reads vs u →
    (c d : Branch) × (made vs (allowing levels b) n ≡ opens (c ∷ d ∷ [])) × Refutes vs (levels - 1) c t × Refutes vs
    (levels - 1) d u
two-read vs n t u levels b ns ps at (fails c) q o e rt ru = absurd (cc)
two-read vs n t u levels b ns ps at (opens bs) q o e rt ru =
    let w = two-of bs o in
    let first : walk vs (nodes_of t ++ (nodes_of u ++ ns)) (allowing (levels - 1) w.0 ∷ allowing (levels - 1) w.1 ∷ ps)
    (suc at) ≡ Ok [] =
    ap (λ x. walk vs x (allowing (levels - 1) w.0 ∷ allowing (levels - 1) w.1 ∷ ps) (suc at))
    (sym (append_assoc (nodes_of t) (nodes_of u) ns))
    ∙ ap (λ x. walk vs ((nodes_of t ++ nodes_of u) ++ ns) (pending (levels - 1) x ++ ps) (suc at)) (sym w.2) ∙ e in
    let left = rt (levels - 1) w.0 (nodes_of u ++ ns) (allowing (levels - 1) w.1 ∷ ps) (suc at) first in
    let second = sym (walk-tree vs t (levels - 1) w.0 (nodes_of u ++ ns) (allowing (levels - 1) w.1 ∷ ps) (suc at) left)
    ∙ first in
    (w.0, w.1, q ∙ ap opens w.2, left, ru (levels - 1) w.1 ns ps (suc at + length (nodes_of t)) second)

one-read : (vs : List Variable) (n : Node) (t : CertTree) (levels : ℕ) (b : Branch) (ns : List Node)
    (ps : List OpenBranch)
    (at : ℕ) (m : NodeEffect) → made vs (allowing levels b) n ≡ m → Opened 1 m →
    after (λ qs. walk vs (nodes_of t ++ ns) qs (suc at)) levels ps at m ≡ Ok [] → Reads vs t →
    (c : Branch) × (made vs (allowing levels b) n ≡ opens (c ∷ [])) × Refutes vs (levels - 1) c t
one-read vs n t levels b ns ps at (fails c) q o e rt = absurd (cc)
one-read vs n t levels b ns ps at (opens bs) q o e rt =
    let w = one-of bs o in (
      w.0,
      q ∙ ap opens w.1,
      rt (levels - 1) w.0 ns ps (suc at)
          (ap (λ x. walk vs (nodes_of t ++ ns) (pending (levels - 1) x ++ ps) (suc at)) (sym w.1) ∙ e),
    )

none-read : (vs : List Variable) (n : Node) (levels : ℕ) (b : Branch) (ns : List Node) (ps : List OpenBranch) (at : ℕ)
    (m : NodeEffect) → made vs (allowing levels b) n ≡ m → Opened 0 m →
    after (λ qs. walk vs ns qs (suc at)) levels ps at m ≡ Ok [] → made vs (allowing levels b) n ≡ opens []
none-read vs n levels b ns ps at (fails c) q o e = absurd (cc)
none-read vs n levels b ns ps at (opens bs) q o e = q ∙ ap opens (none-of bs o)

opened-as : (vs : List Variable) (p : OpenBranch) (n : Node) (count : ℕ) → arity n ≡ count → Opened count (made vs p n)
opened-as vs p n count e = subst (λ k. Opened k (made vs p n)) e (opened vs p n)

pub reads : (vs : List Variable) (t : CertTree) → Reads vs t
reads vs (leaf n i) levels b ns ps at e =
    none-read vs n levels b ns ps at _ refl (opened-as vs (allowing levels b) n 0 i) e
reads vs (one_below n i t) levels b ns ps at e =
    one-read vs n t levels b ns ps at _ refl (opened-as vs (allowing levels b) n 1 i) e (reads vs t)
reads vs (two_below n i t u) levels b ns ps at e =
    two-read vs n t u levels b ns ps at _ refl (opened-as vs (allowing levels b) n 2 i) e (reads vs t) (reads vs u)

-- Whole nodes are those of a tree.
record Parsed (ns : List Node) (n : ℕ) : Type 0 where
  tree : CertTree
  rest : List Node
  parts : ns ≡ nodes_of tree ++ rest
  whole : is_whole rest n ≡ true
  shorter : length rest ≤ length ns

none-whole : (n : ℕ) → is_whole [] (suc n) ≡ true → ⊥
none-whole n w = grind arith

few-below : (n : Node) → arity n ≤ 2
few-below (Node.Case k) = omega arith
few-below (Node.Split v k) = omega arith
few-below (Node.Sum ps) = omega arith
few-below (Node.Round d ps) = omega arith
few-below (Node.Quot k) = omega arith
few-below (Node.Share c ps) = omega arith

-- a node, and the trees that follow it
headed : (m : ℕ) (x : Node) (ns : List Node) (n count : ℕ) → arity x ≡ count → count ≤ 2 → length ns ≤ m →
    is_whole ns (count + n) ≡ true →
    ((ms : List Node) (k : ℕ) → length ms ≤ m → is_whole ms (suc k) ≡ true → Parsed ms k) → Parsed (x ∷ ns) n
headed m x ns n zero e few h w next = record {
  tree = leaf x e;
  rest = ns;
  parts = refl;
  whole = ap (is_whole ns) (omega arith) ∙ w;
  shorter = omega arith;
}
headed m x ns n (suc zero) e few h w next =
    let p = next ns n h (ap (is_whole ns) (omega arith) ∙ w) in
    let s = p.shorter in
    record {
      tree = one_below x e p.tree;
      rest = p.rest;
      parts = ap (λ y. x ∷ y) p.parts;
      whole = p.whole;
      shorter = omega (arith, s);
    }
headed m x ns n (suc (suc zero)) e few h w next =
    let p = next ns (suc n) h (ap (is_whole ns) (omega arith) ∙ w) in
    let s = p.shorter in
    let q = next p.rest n (omega (arith, h, s)) p.whole in
    let u = q.shorter in
    record {
      tree = two_below x e p.tree q.tree;
      rest = q.rest;
      parts =
          ap (λ y. x ∷ y) (p.parts ∙ ap (λ y. nodes_of p.tree ++ y) q.parts
          ∙ sym (append_assoc (nodes_of p.tree) (nodes_of q.tree) q.rest));
      whole = q.whole;
      shorter = omega (arith, s, u);
    }
headed m x ns n (suc (suc (suc k))) e few h w next = absurd (omega (arith, few))

parsed : (m : ℕ) (ns : List Node) (n : ℕ) → length ns ≤ m → is_whole ns (suc n) ≡ true → Parsed ns n
parsed m [] n h w = absurd (none-whole n w)
parsed zero (x ∷ ns) n h w = absurd (omega arith)
parsed (suc m) (x ∷ ns) n h w =
    headed m x ns n (arity x) refl (few-below x) (omega (arith, h)) w (λ ms k i j. parsed m ms k i j)

append_nil : {A : Type 0} (xs : List A) → xs ++ [] ≡ xs
append_nil [] = refl
append_nil (x ∷ xs) = ap (λ ys. x ∷ ys) (append_nil xs)

nothing-remaining : (ns : List Node) → is_whole ns 0 ≡ true → ns ≡ []
nothing-remaining [] w = refl
nothing-remaining (n ∷ ns) w = absurd (cc)

-- nodes that are walked to their end are those of a tree that refutes
pub walked-refutes : (levels : ℕ) (o : Obligation) (nodes : List Node) → is_whole nodes 1 ≡ true →
    walk_from_root levels o nodes ≡ Ok [] → Refuted levels o nodes
walked-refutes levels o nodes w e =
    let p = parsed (length nodes) nodes 0 (omega arith) w in
    let same : nodes ≡ nodes_of p.tree = p.parts ∙ ap (λ x. nodes_of p.tree ++ x) (nothing-remaining p.rest p.whole)
    ∙ append_nil (nodes_of p.tree) in (
      p.tree,
      sym same,
      reads o.variables p.tree levels (first_branch o) [] [] 0
          (ap (λ x. walk o.variables x (allowing levels (first_branch o) ∷ []) 0)
          (append_nil (nodes_of p.tree) ∙ sym same) ∙ e),
    )

-- and the other way round
pub refutes-walked : (levels : ℕ) (o : Obligation) (nodes : List Node) → Refuted levels o nodes →
    walk_from_root levels o nodes ≡ Ok []
refutes-walked levels o nodes r =
    ap (λ x. walk o.variables x (allowing levels (first_branch o) ∷ []) 0) (sym r.1 ∙ sym (append_nil (nodes_of r.0)))
    ∙ walk-tree o.variables r.0 levels (first_branch o) [] [] 0 r.2

pub walk-is-tree : WalkIsTree
walk-is-tree levels o nodes w = (walked-refutes levels o nodes w, refutes-walked levels o nodes)

-- More levels.

made-more : (vs : List Variable) (few many : ℕ) (b : Branch) (n : Node) (bs : List Branch) → few ≤ many →
    made vs (allowing few b) n ≡ opens bs → made vs (allowing many b) n ≡ opens bs
made-more vs few many b n bs h e = allowed (nat_lt 0 few) refl e
  where
    more : nat_lt 0 few ≡ true → nat_lt 0 many ≡ true
    more q = grind arith

    allowed : (t : Bool) → nat_lt 0 few ≡ t → cond t (made_by (scope_of vs b) b n) (fails Code.CertTooDeep) ≡ opens bs →
        made vs (allowing many b) n ≡ opens bs
    allowed false q d = absurd (cc)
    allowed true q d = ap (λ t. cond t (made_by (scope_of vs b) b n) (fails Code.CertTooDeep)) (more q) ∙ d

-- the same branches, with more levels
abbrev Deeper : List OpenBranch → List OpenBranch → Type 0
Deeper [] [] = Unit {0}
Deeper [] (q ∷ qs) = ⊥
Deeper (p ∷ ps) [] = ⊥
Deeper (p ∷ ps) (q ∷ qs) = (q.branch ≡ p.branch) × (p.levels ≤ q.levels) × Deeper ps qs

deeper-pending : (few many : ℕ) → few ≤ many → (bs : List Branch) (ps qs : List OpenBranch) → Deeper ps qs →
    Deeper (pending few bs ++ ps) (pending many bs ++ qs)
deeper-pending few many h [] ps qs d = d
deeper-pending few many h (b ∷ bs) ps qs d = (refl, h, deeper-pending few many h bs ps qs d)

walk-more : (vs : List Variable) (ns : List Node) (ps qs : List OpenBranch) (at : ℕ) → Deeper ps qs →
    walk vs ns ps at ≡ Ok [] → walk vs ns qs at ≡ Ok []
walk-more vs [] [] [] at d e = refl
walk-more vs [] [] (q ∷ qs) at d e = absurd d
walk-more vs [] (p ∷ ps) qs at d e = absurd (cc)
walk-more vs (n ∷ ns) [] [] at d e = refl
walk-more vs (n ∷ ns) [] (q ∷ qs) at d e = absurd d
walk-more vs (n ∷ ns) (p ∷ ps) [] at d e = absurd d
walk-more vs (n ∷ ns) (p ∷ ps) (q ∷ qs) at d e =
    opened (made vs p n) refl e (λ rs ss g h. walk-more vs ns rs ss (suc at) g h)
  where
    level : p.levels ≤ q.levels
    level = d.1

    less : p.levels - 1 ≤ q.levels - 1
    less = let l = level in omega (arith, l)

    same : (bs : List Branch) → made vs p n ≡ opens bs → made vs q n ≡ opens bs
    same bs m =
        ap (λ b. made vs (allowing q.levels b) n) d.0 ∙ made-more vs p.levels q.levels p.branch n bs level m

    opened : (m : NodeEffect) → made vs p n ≡ m → after (λ rs. walk vs ns rs (suc at)) p.levels ps at m ≡ Ok [] →
        ((rs ss : List OpenBranch) → Deeper rs ss → walk vs ns rs (suc at) ≡ Ok [] → walk vs ns ss (suc at) ≡ Ok []) →
        walk vs (n ∷ ns) (q ∷ qs) at ≡ Ok []
    opened (fails c) m r ih = absurd (cc)
    opened (opens bs) m r ih =
        ap (after (λ rs. walk vs ns rs (suc at)) q.levels qs at) (same bs m)
        ∙ ih (pending (p.levels - 1) bs ++ ps) (pending (q.levels - 1) bs ++ qs)
        (deeper-pending (p.levels - 1) (q.levels - 1) less bs ps qs d.2) r

pub more-levels : MoreLevels
more-levels few many o nodes h e =
    walk-more o.variables nodes (allowing few (first_branch o) ∷ []) (allowing many (first_branch o) ∷ []) 0
    (refl, h, tt) e
