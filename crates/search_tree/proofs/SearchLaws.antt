-- What the search keeps.
use Rattle.std.proofs.Common.{◌≡◌, ℕ, zero, suc, ◌+◌, ◌-◌, ◌*◌, ◌≤◌, ◌<◌, ◌≤ℤ◌, ◌<ℤ◌, ℤ, nat_lt, slice_index_or, ◌&&◌}
use Rattle.std.proofs.Common.{Ok, pos, negsuc, ◌+ℤ◌, ◌-ℤ◌, true, false, cond, Option, Some, Bool}
use Rattle.std.proofs.Common.{List, [], ◌∷◌, ◌++◌, take, drop, length, arith, refl, sym, ap, subst, ◌∙◌}
use Rattle.std.proofs.Common.{mul-le-mul, le_refl}
use Rattle.std.proofs.lemmas.Bool.{and_parts}
use Rattle.std.proofs.Math.Nat.{mul-le-mul_right}
use Rattle.std.proofs.lemmas.Int.{ints}
use Rattle.std.specs.Int.RustNames.{int_le}
use Rattle.std.specs.Prelude.{int_div}
use Rattle.core_terms.specs.declared.trees.Range.{Range}
use Rattle.case_tables.specs.declared.code_table.Code.{Code}
use Rattle.obligations.specs.declared.branches.Branch.{Branch}
use Rattle.obligations.specs.declared.branches.Variable.{Variable}
use Rattle.obligations.specs.declared.certificates.Node.{Node}
use Rattle.certificate_rules.specs.Refutation.{OpenBranch}
use Rattle.obligations.specs.declared.branches.Fact.{Fact}
use Rattle.obligations.specs.LinearForms.{zeros, fact_of}
use Rattle.certificate_rules.specs.Sums.{sum_pairs, all_pairs, divided}
use Rattle.obligations.specs.Settling.{added}
use Rattle.certificate_rules.specs.Refutation.{fails, opens, made_by, made_sum, made_round, made, allowing}
use Rattle.search_tree.specs.declared.trail.Trail.{Trail}
use Rattle.search_tree.specs.declared.trail.Ended.{Ended}
use Rattle.linear_prover.specs.Chains.{nulls, total_pairs, Closes, is_plain_node}
use Rattle.std.specs.List.{list_all}
use Rattle.std.proofs.lemmas.List.Folds.{list_all-append}
use Rattle.obligations.specs.Certificates.{units}
use Rattle.search_tree.specs.Left.{left_by, left_after, left}
use Rattle.obligations.specs.Plain.{first_cut, middle, leaf_units}
use Rattle.obligations.specs.Scopes.{scope_of}
use Rattle.obligations.specs.Shapes.{quotients_of}
use Rattle.obligations.proofs.ScopeLaws.{scope-length}
use Rattle.search_tree.specs.Searching.{chain_units, quotients_at, room_of, HasOpenBranch, levels_of, Ends, Tried}
use Rattle.search_tree.specs.Searching.{TriedShortly}
use Rattle.search_tree.specs.Searching.{is_found_node}

pub take-whole : {A : Type 0} (xs ys : List A) (n : ℕ) → n ≡ length xs → take n (xs ++ ys) ≡ xs
take-whole [] ys n e = ap (λ k. take k ys) e
take-whole (x ∷ xs) ys n e = ap (λ k. take k (x ∷ (xs ++ ys))) e ∙ ap (λ z. x ∷ z) (take-whole xs ys (length xs) refl)

pub units-append : (xs ys : List Node) → units (xs ++ ys) ≡ units xs + units ys
units-append [] ys = omega arith
units-append (x ∷ xs) ys = let ih = units-append xs ys in omega (arith, ih)

pub left-append : (vs : List Variable) (r : Option (List OpenBranch)) (ns ms : List Node) → left vs r (ns ++ ms) ≡ left
    vs (left vs r ns) ms
left-append vs r [] ms = refl
left-append vs r (n ∷ ns) ms = left-append vs (left_after vs r n) ns ms

-- The next variable of a search for a cut.
pub cut-stop : (rs : List Range) (i n : ℕ) (d : Range) → i < length rs → int_le (slice_index_or rs i d).hi
    (slice_index_or rs i d).lo ≡ false →
    first_cut n (drop i rs) ≡ Some (record { place = n; at = middle (slice_index_or rs i d) })
cut-stop [] i n d h e = absurd (omega arith)
cut-stop (r ∷ rs) zero n d h e = ap (λ b. cond b (first_cut (suc n) rs) (Some (record { place = n; at = middle r })))
    e
cut-stop (r ∷ rs) (suc i) n d h e = cut-stop rs i n d (omega arith) e

pub cut-next : (rs : List Range) (i n : ℕ) (d : Range) → i < length rs → int_le (slice_index_or rs i d).hi
    (slice_index_or rs i d).lo ≡ true →
    first_cut (n + 1) (drop (i + 1) rs) ≡ first_cut n (drop i rs)
cut-next [] i n d h e = absurd (omega arith)
cut-next (r ∷ rs) zero n d h e =
    let one : n + 1 ≡ suc n = omega arith in
    ap (λ k. first_cut k rs) one ∙ sym (ap (λ b. cond b (first_cut (suc n) rs)
    (Some (record { place = n; at = middle r }))) e)
cut-next (r ∷ rs) (suc i) n d h e = let one : suc i + 1 ≡ suc (i + 1) = omega arith in ap
    (λ k. first_cut (n + 1) (drop k (r ∷ rs))) one ∙ cut-next rs i n d (omega arith) e

le-not : (a b : ℤ) → a <ℤ b → int_le b a ≡ false
le-not a b h = grind (arith, ints)

le-is : (a b : ℤ) → (a <ℤ b → ⊥) → int_le b a ≡ true
le-is a b h = grind (arith, ints)

-- Levels.
pub made-level : (vs : List Variable) (levels : ℕ) (b : Branch) (n : Node) → 0 < levels →
    made vs (allowing levels b) n ≡ made_by (scope_of vs b) b n
made-level vs levels b n h =
    ap (λ t. cond t (made_by (scope_of vs b) b n) (fails Code.CertTooDeep)) (some levels h)
  where
    some : (a : ℕ) → 0 < a → nat_lt 0 a ≡ true
    some a h = grind arith

-- the sum of nothing, by variables and by their number
nulls-are : (vs : List Variable) → zeros vs ≡ nulls (length vs)
nulls-are [] = refl
nulls-are (v ∷ vs) = ap (λ zs. pos 0 ∷ zs) (nulls-are vs)

pub same-total : (vs : List Variable) (facts : List Fact) (ps : List (ℤ × ℕ)) → all_pairs vs facts ps ≡ total_pairs
    (length vs) facts ps
same-total vs facts ps = ap (λ zs. sum_pairs facts (Ok (record { factors = zs; constant = pos 0 })) ps) (nulls-are vs)

-- a chain closes its branch
pub chain-closes : (vs : List Variable) (ns : List Node) (levels : ℕ) (b : Branch) (ps : List OpenBranch) → Closes
    (length (scope_of vs b)) b.facts ns → length ns ≤ levels →
    left vs (Some (allowing levels b ∷ ps)) ns ≡ Some ps
chain-closes vs [] levels b ps c h = absurd c
chain-closes vs (Node.Case k ∷ ns) levels b ps c h = absurd c
chain-closes vs (Node.Split v k ∷ ns) levels b ps c h = absurd c
chain-closes vs (Node.Quot k ∷ ns) levels b ps c h = absurd c
chain-closes vs (Node.Share z qs ∷ ns) levels b ps c h = absurd c
chain-closes vs (Node.Sum qs ∷ []) levels b ps c h = ap (left_by levels ps)
    (made-level vs levels b (Node.Sum qs) (omega arith) ∙ ap made_sum (same-total (scope_of vs b) b.facts qs) ∙ c)
chain-closes vs (Node.Sum qs ∷ n ∷ ns) levels b ps c h = absurd c
chain-closes vs (Node.Round d qs ∷ ns) levels b ps c h =
    let l = c.0 in
    let m : made vs (allowing levels b) (Node.Round d qs) ≡ opens (added b (fact_of (divided d l)) ∷ []) =
    made-level vs levels b (Node.Round d qs) (omega arith)
    ∙ ap (made_round b d) (same-total (scope_of vs b) b.facts qs ∙ c.1)
    ∙ ap (λ t. cond t (opens (added b (fact_of (divided d l)) ∷ [])) (fails Code.NotDivisible)) c.2 in
    ap (λ x. left vs (left_by levels ps x) ns) m ∙ chain-closes vs ns (levels - 1) (added b (fact_of (divided d l))) ps
    c.3 (omega arith)

-- Rooms.
pub units-less : (n p q : ℕ) → p ≤ q → leaf_units n p ≤ leaf_units n q
units-less n p q h = mul-le-mul (omega (arith, h)) (omega (arith, h))

pub chain-room : (n w r : ℕ) → chain_units (n + r) ≤ leaf_units n (w + r) - r
chain-room n w r =
    let q : ℕ = w + r in
    let more : (2 * q) * 1 ≤ (2 * q) * (n + q + 256) = mul-le-mul (le_refl (2 * q)) (omega arith) in
    let whole : leaf_units n q ≡ (n + q + 256) + (2 * q) * (n + q + 256) = omega arith in
    omega (arith, more, whole)

-- a chain at any branch is within a leaf's room
pub short-room : (vs : List Variable) (b : Branch) → chain_units (length (scope_of vs b)) ≤ room_of vs b
short-room vs b = subst (λ n. chain_units n ≤ room_of vs b) (sym (scope-length vs b.added))
    (chain-room (length vs) (quotients_of b.waiting) b.added)

pub room-two : (vs : List Variable) (b : Branch) → 2 ≤ room_of vs b
room-two vs b = let h = short-room vs b in omega (arith, h)

pub room-less : (vs : List Variable) (b c : Branch) → quotients_at c ≤ quotients_at b → c.added ≡ b.added →
    room_of vs c ≤ room_of vs b
room-less vs b c h e = let u = units-less (length vs) (quotients_at c) (quotients_at b) h in omega (arith, u, e)

-- one unit less for a quotient that is taken
pub room-quot : (vs : List Variable) (b c : Branch) → quotients_at c ≤ quotients_at b → c.added ≡ suc b.added →
    suc (room_of vs c) ≤ room_of vs b
room-quot vs b c h e =
    let u = units-less (length vs) (quotients_at c) (quotients_at b) h in
    let s = room-two vs b in
    omega (arith, u, e, s)

-- the prover's nodes are among those that a search can write
pub plain-one : (n : Node) → is_plain_node n ≡ true → is_found_node n ≡ true
plain-one (Node.Case k) h = refl
plain-one (Node.Split v k) h = h
plain-one (Node.Sum ps) h = h
plain-one (Node.Round d ps) h = h
plain-one (Node.Quot k) h = cc
plain-one (Node.Share c ps) h = cc

pub plain-found : (ns : List Node) → list_all is_plain_node ns ≡ true → list_all is_found_node ns ≡ true
plain-found [] h = refl
plain-found (n ∷ ns) h =
    let a = and_parts (is_plain_node n) (list_all is_plain_node ns) h in
    ap (λ t. t && list_all is_found_node ns) (plain-one n a.0) ∙ plain-found ns a.1

pub all-more : (t : Node → Bool) (xs ys zs : List Node) → zs ≡ xs ++ ys → list_all t ys ≡ true → list_all t xs ≡ true →
    list_all t zs ≡ true
all-more t xs ys zs e h g = ap (list_all t) e ∙ list_all-append t xs ys ∙ ap (λ b. b && list_all t ys) g ∙ h

-- a chain that was added, or not, ends a branch
pub finished-ends : (vs : List Variable) (k leaves most room : ℕ) (b : Branch) (old new : Trail) (e : Ended) →
    most ≤ levels_of k → room ≤ room_of vs b → 1 ≤ leaves →
    Tried (length (scope_of vs b)) most room b.facts old new e → Ends vs k leaves b old new e
finished-ends vs k leaves most room b old new Ended.Closed h fits one t =
    let f = t.finished in let f1 = f.1 in
    let u : units new.nodes ≡ units old.nodes + units t.nodes = ap units f.0 ∙ units-append old.nodes t.nodes in
    let cheap = t.cheap in let short = t.short in
    let more : 1 * room_of vs b ≤ leaves * room_of vs b = mul-le-mul_right (room_of vs b) one in
    record {
      closes = λ first ps s. ap (left vs (Some first)) f.0 ∙ left-append vs (Some first) old.nodes t.nodes ∙ ap
          (λ r. left vs r t.nodes) s
          ∙ chain-closes vs t.nodes (levels_of k) b ps t.closes (omega (arith, short, h));
      found = λ g. all-more is_found_node old.nodes t.nodes new.nodes f.0 (plain-found t.nodes t.plain) g;
      plain = λ none g. all-more is_plain_node old.nodes t.nodes new.nodes f.0 t.plain g;
      cost = omega (arith, u, cheap, more, fits);
      spent = omega (arith, u, f1);
    }
finished-ends vs k leaves most room b old new Ended.Stopped h fits one t =
    let f = t.finished in let f0 = f.0 in
    let cheap = t.cheap in
    let same = ap (λ (x : Trail). x.nodes) f.1 in
    let spare = ap (λ (x : Trail). x.spare) f.1 in
    let more : 1 * room_of vs b ≤ leaves * room_of vs b = mul-le-mul_right (room_of vs b) one in
    record {
      opened = λ first ps s. subst HasOpenBranch (sym (ap (left vs (Some first)) same ∙ s)) tt;
      short = omega (arith, f0, cheap, more, fits);
      last = omega (arith, f0, cheap, spare, fits);
      spent = let u = ap units same in omega (arith, u, spare);
    }
finished-ends vs k leaves most room b old new (Ended.Refuted values) h fits one t = absurd t.finished

-- so it does by a chain as may stand at any branch
pub shortly-ends : (vs us : List Variable) (k leaves : ℕ) (b : Branch) (old new : Trail) (e : Ended) →
    us ≡ scope_of vs b → 1 ≤ leaves → TriedShortly (length us) b.facts old new e → Ends vs k leaves b old new e
shortly-ends vs us k leaves b old new e scoped one t =
    finished-ends vs k leaves 64 (chain_units (length (scope_of vs b))) b old new e (omega arith) (short-room vs b) one
    (subst (λ (x : List Variable). TriedShortly (length x) b.facts old new e) scoped t)

-- The middle of a range lies in it.
half-below : (width : ℤ) → pos 0 ≤ℤ width → (pos 0 ≤ℤ int_div width (pos 2)) × (int_div width (pos 2) ≤ℤ width)
half-below (pos n) h = (omega (arith, ints), omega (arith, ints))
half-below (negsuc n) h = absurd (omega (arith, ints))

pub middle-low : (lo hi : ℤ) → lo ≤ℤ hi → pos 0 ≤ℤ (hi -ℤ lo)
middle-low lo hi h = omega (arith, ints)

pub middle-half : (lo hi : ℤ) → lo ≤ℤ hi → pos 0 ≤ℤ int_div (hi -ℤ lo) (pos 2)
middle-half lo hi h = (half-below (hi -ℤ lo) (middle-low lo hi h)).0

pub middle-high : (lo hi : ℤ) → lo ≤ℤ hi → (lo +ℤ int_div (hi -ℤ lo) (pos 2)) ≤ℤ hi
middle-high lo hi h = let k = (half-below (hi -ℤ lo) (middle-low lo hi h)).1 in omega (arith, ints, k)

pub ruleset middle_laws = (middle-low, middle-half, middle-high)
