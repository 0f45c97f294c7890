-- Lists of statements without a fault have an instance, and as many as are counted.
use Rattle.std.proofs.Common.{◌≡◌, ℕ, zero, suc, ◌+◌, ◌≤◌, List, [], ◌∷◌, ◌++◌, map, length, length-append, Bool}
use Rattle.std.proofs.Common.{true, false}
use Rattle.std.proofs.Common.{cond, not, ◌&&◌, ◌||◌, Option, Some, None, refl, sym, ap, ◌∙◌, subst, arith, All}
use Rattle.std.proofs.Common.{append_assoc}
use Rattle.std.specs.Prelude.{ℤ, pos, negsuc, ◌+ℤ◌, ◌-ℤ◌, ◌≤ℤ◌}
use Rattle.std.specs.Int.RustNames.{int_lt}
use Rattle.std.specs.List.{flat_map, list_any}
use Rattle.std.proofs.lemmas.Int.{ints}
use borrow.Author.Differences.{lt-false}
use Rattle.std.proofs.lemmas.List.Elements.{All-nil, All-cons, All-head, All-tail, All-weaker}
use Rattle.case_tables.specs.declared.code_table.Code.{Code}
use Rattle.unity_syntax.specs.declared.name.Name.{Name}
use Rattle.unity_syntax.specs.declared.name.Range.{Range}
use Rattle.unity_syntax.specs.declared.statement.Assign.{Assign}
use Rattle.unity_syntax.specs.declared.statement.Item
use Rattle.unity_syntax.specs.declared.statement.Item.{Item}
use Rattle.unity_syntax.specs.declared.statement.Items.{Items}
use Rattle.meaning_documents.specs.Names.{Bindings}
use Rattle.meaning_executions.specs.Counting.{natural, count_up}
use Rattle.meaning_documents.specs.Value.{end_value, range_ends, range_values}
use Rattle.meaning_executions.specs.Counting.{range_size}
use Rattle.meaning_documents.specs.Instances.{Instance, Unfolding, item_instances, unfolded, instances}
use Rattle.meaning_documents.proofs.InstanceLaws.{instances-Statement, instances-Quantified, instances-Items}
use Rattle.names_rules.proofs.Faults.{earlier_first, earlier_second}
use Rattle.expand_rules.specs.Measures.{nearer, is_fit, is_fit_range, place_of}
use Rattle.expand_rules.specs.Forming.{Scope, fit_values}
use Rattle.expand_rules.specs.Lists.{total, item_count, items_count, inside, item_fault, items_fault, first_fault}
use Rattle.expand_rules.specs.Lists.{fault_at, place_where, is_empty_range, empty_place, large_place, range_place}
use Rattle.expand_rules.specs.Lists.{range_fault}
use Rattle.expand_correct.proofs.lemmas_from_expand_statements.CountLaws.{count-Statement, count-Quantified}
use Rattle.expand_correct.proofs.lemmas_from_expand_statements.CountLaws.{count-parts}
use Rattle.expand_fits_parts.specs.Conditions.StatementConditions.{InstancesCounted}
use Rattle.expand_fits_parts.proofs.Conditions.ItemLaws.{of_items, fault-Quantified, fault-Items}

-- so many instances in these bindings, and one in each
pub record IsCounted (u : Unfolding) (count : ℕ) (bs : List Bindings) : Type 0 where
  pub same : length (flat_map u bs) ≡ count
  pub some : All (λ b. 1 ≤ length (u b)) bs

-- ranges without a fault

nearer_none : (a b : Option ℕ) → nearer a b ≡ None → (a ≡ None) × (b ≡ None)
nearer_none None b h = (refl, h)
nearer_none (Some a) None h = cc h
nearer_none (Some a) (Some b) h = cc h

no_place : (b : Bool) (at : ℕ) → place_where b at ≡ None → b ≡ false
no_place true at h = cc h
no_place false at h = refl

no_fault : (code : Code) (at : Option ℕ) → fault_at code at ≡ None → at ≡ None
no_fault code None h = refl
no_fault code (Some at) h = cc h

or_none : (a b : Bool) → (a || b) ≡ false → (a ≡ false) × (b ≡ false)
or_none true b h = cc h
or_none false b h = (refl, h)

none_of : {X : Type 0} (test : X → Bool) (xs : List X) → list_any test xs ≡ false → All (λ x. test x ≡ false) xs
none_of test [] h = All-nil (λ x. test x ≡ false)
none_of test (x ∷ xs) h = let p = or_none (test x) (list_any test xs) h in
    All-cons (λ y. test y ≡ false) x xs p.0 (none_of test xs p.1)

-- a range with numbers, whose ends are not too large
abbrev IsGood : Range → Bindings → Type 0
IsGood r b = (is_fit_range b r ≡ true) × (1 ≤ length (range_values b r))

not_false : (b : Bool) → not b ≡ false → b ≡ true
not_false true h = refl
not_false false h = cc h

length_count_up : (low : ℤ) (n : ℕ) → length (count_up low n) ≡ n
length_count_up low zero = refl
length_count_up low (suc n) = ap suc (length_count_up (low +ℤ pos 1) n)

at_least : (z : ℤ) → pos 1 ≤ℤ z → 1 ≤ natural z
at_least (pos n) h = omega (arith, ints)
at_least (negsuc n) h = absurd (omega (arith, ints))

some_numbers : (low high : ℤ) → int_lt high low ≡ false → 1 ≤ natural (high +ℤ pos 1 -ℤ low)
some_numbers low high h = let k = lt-false high low h in at_least (high +ℤ pos 1 -ℤ low) (omega (arith, ints))

is_good : (r : Range) (b : Bindings) → is_fit (end_value b r.low) ≡ true → is_fit (end_value b r.high) ≡ true →
    is_empty_range b r ≡ false → IsGood r b
is_good r b low high h =
    let fit : is_fit_range b r ≡ true = ap (λ x. x && is_fit (end_value b r.high)) low ∙ high in
    let order : int_lt (end_value b r.high) (end_value b r.low) ≡ false =
    sym (ap (λ x. x && int_lt (end_value b r.high) (end_value b r.low)) fit) ∙ h in (
      fit,
      subst (λ n. 1 ≤ n) (sym (length_count_up (end_value b r.low) (range_size (range_ends b r))))
          (some_numbers (end_value b r.low) (end_value b r.high) order),
    )

all_three : {X : Type 0} (P Q R S : X → Type 0) → ((x : X) → P x → Q x → R x → S x) → (xs : List X) → All P xs →
    All Q xs → All R xs → All S xs
all_three P Q R S f [] p q r = All-nil S
all_three P Q R S f (x ∷ xs) p q r = All-cons S x xs (f x (All-head P x xs p) (All-head Q x xs q) (All-head R x xs r))
    (all_three P Q R S f xs (All-tail P x xs p) (All-tail Q x xs q) (All-tail R x xs r))

good_ranges : (r : Range) (bs : List Bindings) → range_fault r bs ≡ None → All (IsGood r) bs
good_ranges r bs h =
    let p = nearer_none (empty_place r bs) (nearer (large_place r.low bs) (large_place r.high bs))
    (no_fault Code.BadRange (range_place r bs) h) in
    let q = nearer_none (large_place r.low bs) (large_place r.high bs) p.1 in
    let empty = none_of (λ b. is_empty_range b r) bs (no_place (list_any (λ b. is_empty_range b r) bs) r.at p.0) in
    let low = none_of (λ b. not (is_fit (end_value b r.low))) bs
    (no_place (list_any (λ b. not (is_fit (end_value b r.low))) bs) (place_of r.low) q.0) in
    let high = none_of (λ b. not (is_fit (end_value b r.high))) bs
    (no_place (list_any (λ b. not (is_fit (end_value b r.high))) bs) (place_of r.high) q.1) in
    all_three (λ b. not (is_fit (end_value b r.low)) ≡ false) (λ b. not (is_fit (end_value b r.high)) ≡ false)
    (λ b. is_empty_range b r ≡ false) (IsGood r)
    (λ b l k e. is_good r b (not_false (is_fit (end_value b r.low)) l) (not_false (is_fit (end_value b r.high)) k) e)
    bs low high empty

-- lists

flat_map-on : {X Y : Type 0} (f : X → List Y) (xs ys : List X) → flat_map f (xs ++ ys) ≡ flat_map f xs ++ flat_map f ys
flat_map-on f [] ys = refl
flat_map-on f (x ∷ xs) ys =
    ap (λ zs. f x ++ zs) (flat_map-on f xs ys) ∙ sym (append_assoc (f x) (flat_map f xs) (flat_map f ys))

flat_map-mapped : {X Y Z : Type 0} (f : Y → List Z) (g : X → Y) (xs : List X) →
    flat_map f (map g xs) ≡ flat_map (λ x. f (g x)) xs
flat_map-mapped f g [] = refl
flat_map-mapped f g (x ∷ xs) = ap (λ zs. f (g x) ++ zs) (flat_map-mapped f g xs)

-- statements

one_each : (label : Name) (at : ℕ) (assign : Assign) (bs : List Bindings) →
    IsCounted (item_instances (Item.Statement at label assign)) (item_count (Item.Statement at label assign) bs) bs
one_each label at assign bs = record {
  same = lengths bs ∙ sym (count-Statement at label assign bs);
  some = each bs;
}
  where
    one : (b : Bindings) → length (item_instances (Item.Statement at label assign) b) ≡ 1
    one b = ap length (instances-Statement at label assign b)

    lengths : (cs : List Bindings) → length (flat_map (item_instances (Item.Statement at label assign)) cs) ≡ length cs
    lengths [] = refl
    lengths (c ∷ cs) = length-append (item_instances (Item.Statement at label assign) c)
        (flat_map (item_instances (Item.Statement at label assign)) cs) ∙ (let a = one c in let b = lengths cs in
        omega arith)

    each : (cs : List Bindings) → All (λ b. 1 ≤ length (item_instances (Item.Statement at label assign) b)) cs
    each [] = All-nil (λ b. 1 ≤ length (item_instances (Item.Statement at label assign) b))
    each (c ∷ cs) = All-cons (λ b. 1 ≤ length (item_instances (Item.Statement at label assign) b)) c cs
        (let a = one c in omega arith) (each cs)

-- quantified lists

module _ (name : List ℕ) (range : Range) (u : Unfolding) where
  abbrev bound : Bindings → ℤ → Bindings
  bound b z = (name, z) ∷ b

  abbrev quantified : Unfolding
  quantified b = flat_map (λ z. u (bound b z)) (range_values b range)

  fit_same : (b : Bindings) → is_fit_range b range ≡ true → fit_values b range ≡ range_values b range
  fit_same b h = ap (λ x. cond x (range_values b range) []) h

  quantified_inside : (bs : List Bindings) → All (IsGood range) bs →
      flat_map quantified bs ≡ flat_map u (inside name range bs)
  quantified_inside [] good = refl
  quantified_inside (b ∷ bs) good =
      ap (λ xs. xs ++ flat_map quantified bs) (sym (flat_map-mapped u (bound b) (range_values b range)))
      ∙ ap (λ zs. flat_map u (map (bound b) zs) ++ flat_map quantified bs)
      (sym (fit_same b (All-head (IsGood range) b bs good).0))
      ∙ ap (λ xs. flat_map u (map (bound b) (fit_values b range)) ++ xs)
      (quantified_inside bs (All-tail (IsGood range) b bs good))
      ∙ sym (flat_map-on u (map (bound b) (fit_values b range)) (inside name range bs))

  abbrev HasOne : Unfolding → Bindings → Type 0
  HasOne v b = 1 ≤ length (v b)

  one_of : (xs : List Bindings) → 1 ≤ length xs → All (HasOne u) xs → 1 ≤ length (flat_map u xs)
  one_of [] some each = absurd (omega arith)
  one_of (x ∷ xs) some each = let one = All-head (HasOne u) x xs each in
      let all = length-append (u x) (flat_map u xs) in omega arith

  front : {X : Type 0} (P : X → Type 0) (xs ys : List X) → All P (xs ++ ys) → All P xs
  front P [] ys h = All-nil P
  front P (x ∷ xs) ys h = All-cons P x xs (All-head P x (xs ++ ys) h) (front P xs ys (All-tail P x (xs ++ ys) h))

  back : {X : Type 0} (P : X → Type 0) (xs ys : List X) → All P (xs ++ ys) → All P ys
  back P [] ys h = h
  back P (x ∷ xs) ys h = back P xs ys (All-tail P x (xs ++ ys) h)

  length_mapped : {X Y : Type 0} (f : X → Y) (xs : List X) → length (map f xs) ≡ length xs
  length_mapped f [] = refl
  length_mapped f (x ∷ xs) = ap suc (length_mapped f xs)

  quantified_some : (bs : List Bindings) → All (IsGood range) bs → All (HasOne u) (inside name range bs) →
      All (HasOne quantified) bs
  quantified_some [] good each = All-nil (HasOne quantified)
  quantified_some (b ∷ bs) good each =
      let here = All-head (IsGood range) b bs good in
      let values = map (bound b) (fit_values b range) in
      let same = ap (λ zs. map (bound b) zs) (fit_same b here.0) in
      let first = subst (λ zs. All (HasOne u) zs) same (front (HasOne u) values (inside name range bs) each) in
      let many = length_mapped (bound b) (range_values b range) in
      let enough : 1 ≤ length (map (bound b) (range_values b range)) = let e = here.1 in omega arith in
      All-cons (HasOne quantified) b bs
      (subst (λ (xs : List Instance). 1 ≤ length xs) (flat_map-mapped u (bound b) (range_values b range))
      (one_of (map (bound b) (range_values b range)) enough first))
      (quantified_some bs (All-tail (IsGood range) b bs good) (back (HasOne u) values (inside name range bs) each))

-- lists of items

both : (u v : Unfolding) (bs : List Bindings) →
    length (flat_map (λ b. u b ++ v b) bs) ≡ length (flat_map u bs) + length (flat_map v bs)
both u v [] = refl
both u v (b ∷ bs) =
    let whole = length-append (u b ++ v b) (flat_map (λ c. u c ++ v c) bs) in
    let here = length-append (u b) (v b) in
    let rest = both u v bs in
    let first = length-append (u b) (flat_map u bs) in
    let second = length-append (v b) (flat_map v bs) in omega arith

empty : (bs : List Bindings) → length (flat_map (λ b. let xs : List Instance = [] in xs) bs) ≡ 0
empty [] = refl
empty (b ∷ bs) = empty bs

flat_same : (u v : Unfolding) → ((b : Bindings) → u b ≡ v b) → (bs : List Bindings) → flat_map u bs ≡ flat_map v bs
flat_same u v same [] = refl
flat_same u v same (b ∷ bs) =
    ap (λ xs. xs ++ flat_map u bs) (same b) ∙ ap (λ xs. v b ++ xs) (flat_same u v same bs)

module _ (s : Scope) where
  abbrev One : Item → Type 0
  One i = (bs : List Bindings) → item_fault s i bs ≡ None → IsCounted (item_instances i) (item_count i bs) bs

  abbrev Several : Items → Type 0
  Several x = (bs : List Bindings) → items_fault s x bs ≡ None → IsCounted (unfolded x) (items_count x bs) bs

  abbrev rest_instances : List Item → Unfolding
  rest_instances xs b = flat_map (λ i. i b) (map item_instances xs)

  counted_rest : (xs : List Item) → All One xs → (bs : List Bindings) →
      first_fault (map (λ i. item_fault s i bs) xs) ≡ None →
      length (flat_map (rest_instances xs) bs) ≡ total (map (λ i. item_count i bs) xs)
  counted_rest [] each bs h = empty bs
  counted_rest (x ∷ xs) each bs h =
      let here = All-head One x xs each bs (earlier_first (item_fault s x bs) _ h) in
      let rest = counted_rest xs (All-tail One x xs each) bs (earlier_second (item_fault s x bs) _ h) in
      let whole = both (item_instances x) (rest_instances xs) bs in
      let same = here.same in omega arith

  counted_list : (x : Items) → One x.first → All One x.rest → Several x
  counted_list x first each bs h =
      let f = item_fault s x.first bs in
      let g = first_fault (map (λ i. item_fault s i bs) x.rest) in
      let none = sym (fault-Items s x bs) ∙ h in
      let here = first bs (earlier_first f g none) in
      let rest = counted_rest x.rest each bs (earlier_second f g none) in
      let whole = both (item_instances x.first) (rest_instances x.rest) bs in
      let same = here.same in
      let opened = ap length (flat_same (unfolded x) (λ b. item_instances x.first b ++ rest_instances x.rest b)
      (instances-Items x) bs) in
      record {
        same = opened ∙ whole ∙ (omega arith) ∙ sym (count-parts x bs);
        some = All-weaker (λ b. 1 ≤ length (item_instances x.first b)) (λ b. 1 ≤ length (unfolded x b))
            (λ b k. subst (λ (xs : List Instance). 1 ≤ length xs) (sym (instances-Items x b))
            (let l = length-append (item_instances x.first b) (rest_instances x.rest b) in omega arith)) bs here.some;
      }

  counted_quantified : (at : ℕ) (name : Name) (range : Range) (of : Items) → Several of →
      One (Item.Quantified at name range of)
  counted_quantified at name range of several bs h =
      let f = range_fault range bs in let g = items_fault s of (inside name.text range bs) in
      let none = sym (fault-Quantified s at name range of bs) ∙ h in
      let good = good_ranges range bs (earlier_first f g none) in
      let inner = several (inside name.text range bs) (earlier_second f g none) in
      let u = quantified name.text range (unfolded of) in
      record {
        same = ap length (flat_same (item_instances (Item.Quantified at name range of)) u
            (instances-Quantified at name range of) bs ∙ quantified_inside name.text range (unfolded of) bs good)
            ∙ inner.same ∙ sym (count-Quantified at name range of bs);
        some = All-weaker (λ b. 1 ≤ length (u b)) (λ b. 1 ≤ length
            (item_instances (Item.Quantified at name range of) b))
            (λ b k. subst (λ (xs : List Instance). 1 ≤ length xs) (sym (instances-Quantified at name range of b)) k) bs
            (quantified_some name.text range (unfolded of) bs good inner.some);
      }

  pub counted : (x : Items) → Several x
  counted x = of_items One Several (λ at label assign bs h. one_each label at assign bs) counted_quantified
      counted_list x

no_more : {X : Type 0} (xs : List X) → length (xs ++ []) ≡ length xs
no_more [] = refl
no_more (x ∷ xs) = ap suc (no_more xs)

pub instances_counted : InstancesCounted
instances_counted s items h = let c = counted s items ([] ∷ []) h in
    (All-head (λ b. 1 ≤ length (unfolded items b)) [] [] c.some, sym (no_more (instances items)) ∙ c.same)
