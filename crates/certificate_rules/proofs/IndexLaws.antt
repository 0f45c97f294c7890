-- The indexes in a certificate that refutes are within the facts, waiting formulas and variables that there are.
use Rattle.std.proofs.Common.{◌≡◌, ℕ, zero, suc, ◌+◌, ◌-◌, ◌≤◌, ◌^◌, ℤ, pos, ◌*ℤ◌, Bool, true, false, ◌&&◌, cond, List}
use Rattle.std.proofs.Common.{[], ◌∷◌, ◌++◌, length, slice_get, nat_le, nat_lt, Option, Some, None, Result, Ok, Err}
use Rattle.std.proofs.Common.{arith, refl, ap, ◌∙◌, subst}
use Rattle.std.specs.Prelude.{remove}
use Rattle.std.specs.List.{list_all}
use Rattle.std.specs.Option.{option_and_then}
use Rattle.std.proofs.lemmas.List.Folds.{list_all-append}
use Rattle.std.proofs.lemmas.Bool.{and_parts, le-leb}
use Rattle.obligations.specs.from_case_tables.declared.code_table.Code.{Code}
use Rattle.obligations.specs.from_core_terms.declared.trees.CForm.{CForm}
use Rattle.obligations.specs.from_core_terms.Sizes.{form_nodes}
use Rattle.obligations.specs.declared.branches.Branch.{Branch}
use Rattle.obligations.specs.declared.branches.Fact.{Fact}
use Rattle.obligations.specs.declared.branches.Line.{Line}
use Rattle.obligations.specs.declared.branches.Obligation.{Obligation}
use Rattle.obligations.specs.declared.branches.Replaced.{Replaced}
use Rattle.obligations.specs.declared.branches.Variable.{Variable}
use Rattle.obligations.specs.declared.certificates.Node.{Node}
use Rattle.obligations.specs.LinearForms.{fact_of, line_of_const}
use Rattle.obligations.specs.Obligations.{weight_of}
use Rattle.obligations.specs.Opening.{first_branch, range_facts, ranges_only}
use Rattle.obligations.specs.Plain.{height_of}
use Rattle.obligations.specs.Quotients.{is_either, without_quotient, with_quotient, one_more, low_fact, high_fact}
use Rattle.obligations.specs.Scopes.{next_param, with_next, scope_of}
use Rattle.obligations.specs.Settling.{added, outcome, settled, sides, without}
use Rattle.obligations.proofs.NumberLaws.{few-variables}
use Rattle.obligations.proofs.ScopeLaws.{scope-length}
use Rattle.obligations.proofs.LineLaws.{length-zeros, length-add_at}
use Rattle.certificate_rules.proofs.SumLaws.{pairs-pass, added-variable}
use Rattle.certificate_rules.specs.Refutation.{NodeEffect, fails, opens, made_case, made_sum, made_round, made_by, made}
use Rattle.certificate_rules.specs.Refutation.{allowing, made_share, made_quot}
use Rattle.certificate_rules.specs.Sums.{add_pair, all_pairs, divided, is_divisible, is_false, no_sum, numbered}
use Rattle.certificate_rules.specs.Sums.{fact_step, variable_step, stated, below_0}
use Rattle.certificate_rules.specs.Trees.{CertTree, leaf, one_below, two_below, nodes_of, Refutes}
use Rattle.certificate_rules.proofs.WholeLaws.{walked-refutes}
use Rattle.certificate_rules.specs.Indexes.{IndexesAreSmall, is_fact_within, is_index_within}
use Rattle.certificate_rules.proofs.Rooms.{adds-fit, quotient-room, refused-room, room, sides-room, total}
use Rattle.certificate_rules.proofs.Rooms.{total-joined, waits}

-- an item that is there

in_list : {A : Type 0} (xs : List A) (n : ℕ) (x : A) → slice_get xs n ≡ Some x → suc n ≤ length xs
in_list [] n x e = absurd (cc)
in_list (y ∷ xs) zero x e = omega arith
in_list (y ∷ xs) (suc n) x e = let h = in_list xs n x e in omega (arith, h)

waits-long : (fs : List CForm) → length fs ≤ waits fs
waits-long [] = omega arith
waits-long (f ∷ fs) = let h = waits-long fs in omega (arith, h)

-- a waiting formula's room is free where it is taken out
waits-remove : (fs : List CForm) (k : ℕ) (f : CForm) → slice_get fs k ≡ Some f →
    (room f).yes + waits (remove fs k) ≤ waits fs
waits-remove [] k f e = absurd (cc)
waits-remove (g ∷ fs) zero f e =
    let same : g ≡ f = cc in
    let r = ap (λ x. (room x).yes) same in omega (arith, r)
waits-remove (g ∷ fs) (suc k) f e = let h = waits-remove fs k f e in omega (arith, h)

total-added : (b : Branch) (f : Fact) → total (added b f) ≡ total b + 1
total-added b f = let h = total-joined b (record { facts = f ∷ []; waiting = []; added = 0 }) in omega (arith, h)

grown-added : (b : Branch) (f : Fact) → total (added b f) + (added b f).added ≡ total b + b.added + 1
grown-added b f = let h = total-added b f in omega (arith, h)

module _ (vs : List Variable) where
  side-total : (b : Branch) (k : ℕ) (f g : CForm) → slice_get b.waiting k ≡ Some f → (room g).yes ≤ (room f).yes →
      total (settled vs g (without b k)) ≤ total b
  side-total b k f g e h =
      let j = total-joined (without b k) (outcome vs g).yes in
      let a = (adds-fit vs g).0 in let w = waits-remove b.waiting k f e in omega (arith, j, a, w, h)

-- facts of a sum

numbered-in : (facts : List Fact) (n : ℕ) (f : Fact) → numbered facts n ≡ Some f → n ≤ length facts
numbered-in facts zero f e = omega arith
numbered-in facts (suc n) f e = in_list facts n f e

module _ (facts : List Fact) (limit : ℕ) (fits : length facts ≤ limit) where
  abbrev no_size : Line → ℕ
  no_size l = 0

  fact-within : (p : ℤ × ℕ) (l m : Line) → no_size l ≡ 0 → fact_step facts p l ≡ Ok m →
      (is_fact_within limit p ≡ true) × (no_size m ≡ 0)
  fact-within p l m z e = (le-leb p.1 limit (here (numbered facts p.1) refl e), refl)
    where
      here : (o : Option Fact) → numbered facts p.1 ≡ o → add_pair p.0 o l ≡ Ok m → p.1 ≤ limit
      here None n d = absurd (cc)
      here (Some f) n d = let h = numbered-in facts p.1 f n in omega (arith, h, fits)

-- variables of a statement

variable-within : (limit n : ℕ) → n ≤ limit → (p : ℤ × ℕ) (l m : Line) → length l.factors ≡ n →
    variable_step p l ≡ Ok m → (is_fact_within limit p ≡ true) × (length m.factors ≡ n)
variable-within limit n h p l m size e =
    let a = added-variable p.0 p.1 l m e in
    let c = a.counted in let t = a.there in (
      le-leb p.1 limit (omega (arith, c, t, size, h)),
      ap (λ (x : Line). length x.factors) a.sum ∙ length-add_at l.factors a.place (p.0 *ℤ pos 1) ∙ size,
    )

-- trees

level-opens : (g : Bool) (m : NodeEffect) (bs : List Branch) → cond g m (fails Code.CertTooDeep) ≡ opens bs →
    (g ≡ true) × (m ≡ opens bs)
level-opens true m bs e = (refl, e)
level-opens false m bs e = absurd (cc)

-- branches, each with no more room taken and variables added than one more than those of the branch from which they
-- come
abbrev AreGrown : Branch → List Branch → Type 0
AreGrown b [] = Unit {0}
AreGrown b (c ∷ cs) = (total c + c.added ≤ total b + b.added + 1) × AreGrown b cs

module _ (vs : List Variable) (limit : ℕ) where
  -- the indexes of a node that opens branches are there, and the branches are grown by at most one
  abbrev Makes : Branch → Node → Type 0
  Makes b n = (bs : List Branch) → length vs + total b ≤ limit → made_by vs b n ≡ opens bs →
      (is_index_within limit n ≡ true) × AreGrown b bs

  alone : (k : ℕ) → k ≤ limit → (nat_le k limit && true) ≡ true
  alone k h = ap (λ z. z && true) (le-leb k limit h)

  case-either : (b : Branch) (k : ℕ) (f : CForm) (g : Bool) (bs : List Branch) → slice_get b.waiting k ≡ Some f →
      length vs + total b ≤ limit →
      cond g (opens (settled vs (sides f).0 (without b k) ∷ settled vs (sides f).1 (without b k) ∷ []))
      (fails Code.NothingToCase) ≡ opens bs → (is_index_within limit (Node.Case (suc k)) ≡ true) × AreGrown b bs
  case-either b k f false bs e h m = absurd (cc)
  case-either b k f true bs e h m =
      let same : settled vs (sides f).0 (without b k) ∷ settled vs (sides f).1 (without b k) ∷ [] ≡ bs = cc in
      let s = sides-room f in
      let p = side-total vs b k f (sides f).0 e s.0 in let q = side-total vs b k f (sides f).1 e s.1 in
      let i = in_list b.waiting k f e in let w = waits-long b.waiting in (
        alone (suc k) (omega (arith, i, w, h)),
        subst (AreGrown b) same (omega (arith, p), (omega (arith, q), tt)),
      )

  case-two : (b : Branch) (k : ℕ) (o : Option CForm) (bs : List Branch) → slice_get b.waiting k ≡ o →
      length vs + total b ≤ limit → made_case vs b k o ≡ opens bs →
      (is_index_within limit (Node.Case (suc k)) ≡ true) × AreGrown b bs
  case-two b k None bs e h m = absurd (cc)
  case-two b k (Some f) bs e h m = case-either b k f (is_either f) bs e h m

  quot-one : (b : Branch) (k : ℕ) (o : Option CForm) (bs : List Branch) → slice_get b.waiting k ≡ o →
      length vs + total b ≤ limit → made_quot vs b k (option_and_then (without_quotient (next_param vs)) o) ≡ opens bs →
      (is_index_within limit (Node.Quot (suc k)) ≡ true) × AreGrown b bs
  quot-one b k None bs e h m = absurd (cc)
  quot-one b k (Some f) bs e h m = taken (without_quotient (next_param vs) f) refl m
    where
      taken : (o : Option Replaced) → without_quotient (next_param vs) f ≡ o → made_quot vs b k o ≡ opens bs →
          (is_index_within limit (Node.Quot (suc k)) ≡ true) × AreGrown b bs
      taken None q d = absurd (cc)
      taken (Some r) q d =
          let same : with_quotient vs r (without b k) ∷ [] ≡ bs = cc in
          let spare = quotient-room (next_param vs) f r q in
          let c : Branch = one_more (without b k) in
          let low = total-added c (low_fact vs r.taken) in
          let high = total-added (added c (low_fact vs r.taken)) (high_fact vs r.taken) in
          let j = total-joined (added (added c (low_fact vs r.taken)) (high_fact vs r.taken))
          (outcome (with_next vs) r.form).yes in
          let a = (adds-fit (with_next vs) r.form).0 in
          let w = waits-remove b.waiting k f e in
          let i = in_list b.waiting k f e in let l = waits-long b.waiting in (
            alone (suc k) (omega (arith, i, l, h)),
            subst (AreGrown b) same (omega (arith, spare, low, high, j, a, w), tt),
          )

  below : (v n : ℕ) → nat_lt v n ≡ true → suc v ≤ n
  below v n h = grind arith

  split-two : (b p q : Branch) (v : ℕ) (k : ℤ) (g : Bool) (bs : List Branch) → nat_lt v (length vs) ≡ g →
      total p + p.added ≡ total b + b.added + 1 → total q + q.added ≡ total b + b.added + 1 →
      length vs + total b ≤ limit → cond g (opens (p ∷ q ∷ [])) (fails Code.NoSuchVariable) ≡ opens bs →
      (is_index_within limit (Node.Split (suc v) k) ≡ true) × AreGrown b bs
  split-two b p q v k false bs e r t h m = absurd (cc)
  split-two b p q v k true bs e r t h m =
      let same : p ∷ q ∷ [] ≡ bs = cc in
      let i = below v (length vs) e in (
        alone (suc v) (omega (arith, i, h)),
        subst (AreGrown b) same (omega (arith, r), (omega (arith, t), tt)),
      )

  all-facts : (b : Branch) (ps : List (ℤ × ℕ)) (l : Line) → all_pairs vs b.facts ps ≡ Ok l →
      length vs + total b ≤ limit → list_all (is_fact_within limit) ps ≡ true
  all-facts b ps l e h =
      pairs-pass (fact_step b.facts) (is_fact_within limit) (λ l. 0) 0
      (fact-within b.facts limit (omega (arith, h))) ps (no_sum vs) l refl e

  closed : (b : Branch) (g : Bool) (bs : List Branch) → cond g (opens []) (fails Code.BadSum) ≡ opens bs → AreGrown b bs
  closed b false bs m = absurd (cc)
  closed b true bs m = let same : [] ≡ bs = cc in subst (AreGrown b) same tt

  sum-makes : (b : Branch) (ps : List (ℤ × ℕ)) (r : Result Line Code) (bs : List Branch) →
      all_pairs vs b.facts ps ≡ r → length vs + total b ≤ limit → made_sum r ≡ opens bs →
      (list_all (is_fact_within limit) ps ≡ true) × AreGrown b bs
  sum-makes b ps (Err c) bs e h m = absurd (cc)
  sum-makes b ps (Ok l) bs e h m = (all-facts b ps l e h, closed b (is_false l) bs m)

  rounded : (b p : Branch) (g : Bool) (bs : List Branch) → total p + p.added ≡ total b + b.added + 1 →
      cond g (opens (p ∷ [])) (fails Code.NotDivisible) ≡ opens bs → AreGrown b bs
  rounded b p false bs h m = absurd (cc)
  rounded b p true bs h m = let same : p ∷ [] ≡ bs = cc in subst (AreGrown b) same (omega (arith, h), tt)

  round-makes : (b : Branch) (d : ℤ) (ps : List (ℤ × ℕ)) (r : Result Line Code) (bs : List Branch) →
      all_pairs vs b.facts ps ≡ r → length vs + total b ≤ limit → made_round b d r ≡ opens bs →
      (list_all (is_fact_within limit) ps ≡ true) × AreGrown b bs
  round-makes b d ps (Err c) bs e h m = absurd (cc)
  round-makes b d ps (Ok l) bs e h m = (
    all-facts b ps l e h,
    rounded b (added b (fact_of (divided d l))) (is_divisible d l) bs (grown-added b (fact_of (divided d l))) m,
  )

  share-makes : (b : Branch) (c : ℤ) (ps : List (ℤ × ℕ)) (r : Result Line Code) (bs : List Branch) →
      stated vs c ps ≡ r → length vs + total b ≤ limit → made_share b r ≡ opens bs →
      (list_all (is_fact_within limit) ps ≡ true) × AreGrown b bs
  share-makes b c ps (Err e) bs q h m = absurd (cc)
  share-makes b c ps (Ok l) bs q h m =
      let same : added b (fact_of (below_0 l)) ∷ added b (fact_of l) ∷ [] ≡ bs = cc in
      let low = total-added b (fact_of (below_0 l)) in let high = total-added b (fact_of l) in (
        pairs-pass variable_step (is_fact_within limit) (λ l. length l.factors) (length vs)
            (variable-within limit (length vs) (omega (arith, h))) ps (line_of_const vs c) l (length-zeros vs) q,
        subst (AreGrown b) same (omega (arith, low), (omega (arith, high), tt)),
      )

  node-makes : (b : Branch) (n : Node) → Makes b n
  node-makes b (Node.Case zero) bs h m = absurd (cc)
  node-makes b (Node.Case (suc k)) bs h m = case-two b k (slice_get b.waiting k) bs refl h m
  node-makes b (Node.Split zero k) bs h m = absurd (cc)
  node-makes b (Node.Split (suc v) k) bs h m =
      split-two b _ _ v k (nat_lt v (length vs)) bs refl (grown-added b _) (grown-added b _) h m
  node-makes b (Node.Sum ps) bs h m = sum-makes b ps (all_pairs vs b.facts ps) bs refl h m
  node-makes b (Node.Round d ps) bs h m = round-makes b d ps (all_pairs vs b.facts ps) bs refl h m
  node-makes b (Node.Quot zero) bs h m = absurd (cc)
  node-makes b (Node.Quot (suc k)) bs h m = quot-one b k (slice_get b.waiting k) bs refl h m
  node-makes b (Node.Share c ps) bs h m = share-makes b c ps (stated vs c ps) bs refl h m

module _ (vs : List Variable) (limit : ℕ) where
  abbrev Small : List Node → Type 0
  Small ns = list_all (is_index_within limit) ns ≡ true

  small-cons : (n : Node) (ns : List Node) → is_index_within limit n ≡ true → Small ns → Small (n ∷ ns)
  small-cons n ns h k = ap (λ z. z && list_all (is_index_within limit) ns) h ∙ k

  small-join : (ns ms : List Node) → Small ns → Small ms → Small (ns ++ ms)
  small-join ns ms h k =
      list_all-append (is_index_within limit) ns ms
      ∙ ap (λ z. z && list_all (is_index_within limit) ms) h ∙ k

  some-left : (levels : ℕ) → nat_lt 0 levels ≡ true → 1 ≤ levels
  some-left levels h = grind arith

  -- what a node makes of a branch where so many levels are left
  level-makes : (levels : ℕ) (b : Branch) (n : Node) (bs : List Branch) →
      (length vs + (total b + b.added)) + levels ≤ limit → made vs (allowing levels b) n ≡ opens bs →
      (1 ≤ levels) × (is_index_within limit n ≡ true) × AreGrown b bs
  level-makes levels b n bs h m =
      let o = level-opens (nat_lt 0 levels) (made_by (scope_of vs b) b n) bs m in
      let l = scope-length vs b.added in
      let r = node-makes (scope_of vs b) limit b n bs (omega (arith, h, l)) o.1 in
      (some-left levels o.0, r.0, r.1)

  small-tree : (levels : ℕ) (b : Branch) (t : CertTree) → (length vs + (total b + b.added)) + levels ≤ limit →
      Refutes vs levels b t → Small (nodes_of t)
  small-tree levels b (leaf n e) h r = small-cons n [] (level-makes levels b n [] h r).1 refl
  small-tree levels b (one_below n e t) h r =
      let m = level-makes levels b n (r.0 ∷ []) h r.1 in
      let some = m.0 in let p = m.2.0 in
      small-cons n (nodes_of t) m.1 (small-tree (levels - 1) r.0 t (omega (arith, some, p, h)) r.2)
  small-tree levels b (two_below n e t u) h r =
      let m = level-makes levels b n (r.0 ∷ r.1 ∷ []) h r.2 in
      let some = m.0 in let p = m.2.0 in let q = m.2.1.0 in
      small-cons n (nodes_of t ++ nodes_of u) m.1
      (small-join (nodes_of t) (nodes_of u)
      (small-tree (levels - 1) r.0 t (omega (arith, some, p, h)) r.3)
      (small-tree (levels - 1) r.1 u (omega (arith, some, q, h)) r.4))

-- the first branch of an obligation

range-facts-length : (n : ℕ) (vs : List Variable) → length (range_facts n vs) ≡ length vs + length vs
range-facts-length n [] = omega arith
range-facts-length n (v ∷ vs) = let h = range-facts-length (suc n) vs in omega (arith, h)

le-is : (a b : ℕ) → nat_le a b ≡ true → a ≤ b
le-is a b h = grind arith

first-total : (o : Obligation) →
    total (first_branch o) ≤ (length o.variables + length o.variables) + (form_nodes o.form + form_nodes o.form)
first-total o =
    let j = total-joined (ranges_only o.variables) (outcome o.variables o.form).no in
    let a = (adds-fit o.variables o.form).1 in let n = refused-room o.form in
    let r = range-facts-length 0 o.variables in omega (arith, j, a, n, r)

pub indexes_are_small : IndexesAreSmall
indexes_are_small levels o nodes few_levels is whole e =
    let limits = and_parts (nat_le (height_of o) 960)
    (nat_le (form_nodes o.form) 65536 && nat_le (weight_of o) (2 ^ 62)) is.limits in
    let sizes = and_parts (nat_le (form_nodes o.form) 65536) (nat_le (weight_of o) (2 ^ 62)) limits.1 in
    let size : form_nodes o.form ≤ 65536 = le-is (form_nodes o.form) 65536 sizes.0 in
    let few = few-variables o.variables is.order o.form is.occurring in
    let t = first-total o in
    let found = walked-refutes levels o nodes whole e in
    subst (λ ns. list_all (is_index_within (2 ^ 62)) ns ≡ true) found.1
    (small-tree o.variables (2 ^ 62) levels (first_branch o) found.0 (omega (arith, t, few, size, few_levels)) found.2)
