-- No two instances of items have one name, where the items have different labels.
use Rattle.std.proofs.Common.{◌≡◌, ℕ, zero, suc, List, [], ◌∷◌, ◌++◌, map, length, length-append, Bool, true, false}
use Rattle.std.proofs.Common.{◌||◌, refl, sym, ap, ◌∙◌, subst, append_assoc, arith, All}
use Rattle.std.specs.Prelude.{ℤ, pos, ◌+ℤ◌, ◌<ℤ◌}
use Rattle.std.specs.List.{flat_map}
use Rattle.std.specs.Str.{bytes_eq}
use Rattle.std.proofs.lemmas.Int.{ints}
use Rattle.std.proofs.lemmas.List.Elements.{All-nil, All-cons, All-head, All-tail, All-append, All-weaker}
use Rattle.std.proofs.lemmas.List.Folds.{list_any-append}
use Rattle.std.proofs.lemmas.Slice.Eq.{bytes_eq-Decides}
use Rattle.unity_syntax.specs.declared.name.Name.{Name}
use Rattle.unity_syntax.specs.declared.name.Range.{Range}
use Rattle.unity_syntax.specs.declared.statement.Assign.{Assign}
use Rattle.unity_syntax.specs.declared.statement.Item
use Rattle.unity_syntax.specs.declared.statement.Item.{Item}
use Rattle.unity_syntax.specs.declared.statement.Items.{Items}
use Rattle.meaning_documents.specs.Names.{Bindings}
use Rattle.meaning_documents.specs.Value.{end_value, range_ends, range_values}
use Rattle.meaning_executions.specs.Counting.{count_up}
use Rattle.meaning_executions.specs.Counting.{range_size}
use Rattle.meaning_documents.specs.Instances.{Instance, Unfolding, outermost_first, item_instances, unfolded, instances}
use Rattle.meaning_documents.proofs.InstanceLaws.{instances-Statement, instances-Quantified, instances-Items}
use Rattle.expand_declarations.specs.Texts.{Texts, item_texts, items_texts}
use Rattle.expand_fits_parts.specs.Conditions.StatementConditions.{ApartInstances, InstancesApart, InstancesLabelled}
use Rattle.expand_fits_parts.proofs.Conditions.Lists.{Pairs, each_pair, pairs_on, all_both}
use Rattle.expand_fits_parts.proofs.Conditions.ItemLaws.{of_items}
use Rattle.expand_fits_parts.proofs.Conditions.Labels.{has, Fresh, Apart, Differs, fresh_parts, apart, labelled}
use Rattle.expand_fits_parts.proofs.Conditions.Labels.{texts-Statement, texts-Quantified, texts-Items}

or_left : (a b : Bool) → a ≡ true → (a || b) ≡ true
or_left true b h = refl
or_left false b h = cc h

or_right : (a b : Bool) → b ≡ true → (a || b) ≡ true
or_right true b h = refl
or_right false b h = h

has_left : (ts us : Texts) (t : List ℕ) → has ts t ≡ true → has (ts ++ us) t ≡ true
has_left ts us t h = list_any-append (bytes_eq t) ts us ∙ or_left (has ts t) (has us t) h

has_right : (ts us : Texts) (t : List ℕ) → has us t ≡ true → has (ts ++ us) t ≡ true
has_right ts us t h = list_any-append (bytes_eq t) ts us ∙ or_right (has ts t) (has us t) h

-- what holds of each text holds of one of them
all_has : (P : List ℕ → Type 0) (ts : Texts) → All P ts → (t : List ℕ) → has ts t ≡ true → P t
all_has P [] each t h = cc h
all_has P (u ∷ us) each t h =
    by (bytes_eq t u) (bytes_eq-Decides t u).0 h (all_has P us (All-tail P u us each) t)
  where
    by : (b : Bool) → (b ≡ true → t ≡ u) → (b || has us t) ≡ true → (has us t ≡ true → P t) → P t
    by true same k rest = subst P (sym (same refl)) (All-head P u us each)
    by false same k rest = rest k

-- names of instances

-- numbers that begin with these
pub record Begins (front whole : List ℤ) : Type 0 where
  pub more : List ℤ
  pub same : whole ≡ front ++ more

abbrev numbers : Instance → List ℤ
numbers i = outermost_first i.bindings

abbrev SameLength : Instance → Instance → Type 0
SameLength i j = i.label ≡ j.label → length i.bindings ≡ length j.bindings

abbrev Differ : Instance → Instance → Type 0
Differ i j = i.label ≡ j.label → numbers i ≡ numbers j → ⊥

-- the instances of items with these labels
pub record Named (u : Unfolding) (ts : Texts) : Type 0 where
  pub labels : (b : Bindings) → All (λ i. has ts i.label ≡ true) (u b)
  pub within : (b : Bindings) → All (λ i. Begins (outermost_first b) (numbers i)) (u b)
  pub level : (b c : Bindings) → length b ≡ length c → All (λ i. All (SameLength i) (u c)) (u b)
  pub differ : (b : Bindings) → Pairs Differ (u b)

named_as : (u v : Unfolding) (ts us : Texts) → ((b : Bindings) → v b ≡ u b) → us ≡ ts → Named u ts → Named v us
named_as u v ts us same texts n = record {
  labels = λ b. subst (λ (xs : List Instance). All (λ i. has us i.label ≡ true) xs) (sym (same b))
      (subst (λ (ws : Texts). All (λ i. has ws i.label ≡ true) (u b)) (sym texts) (n.labels b));
  within = λ b. subst (λ (xs : List Instance). All (λ i. Begins (outermost_first b) (numbers i)) xs) (sym (same b))
      (n.within b);
  level = λ b c e. subst (λ (xs : List Instance). All (λ i. All (SameLength i) (v c)) xs) (sym (same b))
      (subst (λ (ys : List Instance). All (λ i. All (SameLength i) ys) (u b)) (sym (same c)) (n.level b c e));
  differ = λ b. subst (λ (xs : List Instance). Pairs Differ xs) (sym (same b)) (n.differ b);
}

-- items and others with other labels

apart_names : (ts us : Texts) → Apart ts us → (i j : Instance) → has ts i.label ≡ true → has us j.label ≡ true →
    i.label ≡ j.label → ⊥
apart_names ts us a i j h k =
    all_has (λ t. Differs t j.label) ts (all_has (λ u. All (λ t. Differs t u) ts) us a j.label k) i.label h

module _ (u v : Unfolding) (ts us : Texts) (n : Named u ts) (m : Named v us) (a : Apart ts us) where
  abbrev Other : Instance → Instance → Type 0
  Other i j = i.label ≡ j.label → ⊥

  others : (b c : Bindings) → All (λ i. All (Other i) (v c)) (u b)
  others b c = all_both (λ i. has ts i.label ≡ true) (λ j. has us j.label ≡ true) Other (apart_names ts us a)
      (u b) (v c) (n.labels b) (m.labels c)

  others_back : (b c : Bindings) → All (λ j. All (λ i. Other i j) (u c)) (v b)
  others_back b c = all_both (λ j. has us j.label ≡ true) (λ i. has ts i.label ≡ true) (λ j i. Other i j)
      (λ j i k h. apart_names ts us a i j h k) (v b) (u c) (m.labels b) (n.labels c)

  each_on : (R : Instance → Instance → Type 0) (xs ys zs : List Instance) → All (λ i. All (R i) ys) xs →
      All (λ i. All (R i) zs) xs → All (λ i. All (R i) (ys ++ zs)) xs
  each_on R [] ys zs h k = All-nil (λ i. All (R i) (ys ++ zs))
  each_on R (x ∷ xs) ys zs h k = All-cons (λ i. All (R i) (ys ++ zs)) x xs
      (All-append (R x) ys zs (All-head (λ i. All (R i) ys) x xs h) (All-head (λ i. All (R i) zs) x xs k))
      (each_on R xs ys zs (All-tail (λ i. All (R i) ys) x xs h) (All-tail (λ i. All (R i) zs) x xs k))

  pub named_both : Named (λ b. u b ++ v b) (ts ++ us)
  named_both = record {
    labels = λ b. All-append (λ i. has (ts ++ us) i.label ≡ true) (u b) (v b)
        (All-weaker (λ i. has ts i.label ≡ true) (λ i. has (ts ++ us) i.label ≡ true)
        (λ i h. has_left ts us i.label h) (u b) (n.labels b))
        (All-weaker (λ i. has us i.label ≡ true) (λ i. has (ts ++ us) i.label ≡ true)
        (λ i h. has_right ts us i.label h) (v b) (m.labels b));
    within = λ b. All-append (λ i. Begins (outermost_first b) (numbers i)) (u b) (v b) (n.within b) (m.within b);
    level = λ b c e. All-append (λ i. All (SameLength i) (u c ++ v c)) (u b) (v b)
        (each_on SameLength (u b) (u c) (v c) (n.level b c e)
        (All-weaker (λ i. All (Other i) (v c)) (λ i. All (SameLength i) (v c))
        (λ i h. All-weaker (Other i) (SameLength i) (λ j k same. absurd (k same)) (v c) h) (u b) (others b c)))
        (each_on SameLength (v b) (u c) (v c)
        (All-weaker (λ j. All (λ i. Other i j) (u c)) (λ i. All (SameLength i) (u c))
        (λ j h. All-weaker (λ i. Other i j) (SameLength j) (λ i k same. absurd (k (sym same))) (u c) h) (v b)
        (others_back b c)) (m.level b c e));
    differ = λ b. pairs_on Differ (u b) (v b) (n.differ b) (m.differ b)
        (All-weaker (λ i. All (Other i) (v b)) (λ i. All (Differ i) (v b))
        (λ i h. All-weaker (Other i) (Differ i) (λ j k same more. k same) (v b) h) (u b) (others b b));
  }

named_nothing : Named (λ b. []) []
named_nothing = record {
  labels = λ b. All-nil (λ i. has [] i.label ≡ true);
  within = λ b. All-nil (λ i. Begins (outermost_first b) (numbers i));
  level = λ b c e. All-nil (λ i. All (SameLength i) []);
  differ = λ b. tt;
}

-- a statement

append_none : {X : Type 0} (xs : List X) → xs ≡ xs ++ []
append_none [] = refl
append_none (x ∷ xs) = ap (λ ys. x ∷ ys) (append_none xs)

named_one : (label : List ℕ) (assign : Assign) →
    Named (λ b. record { label = label; bindings = b; assign = assign } ∷ []) (label ∷ [])
named_one label assign = record {
  labels = λ b. All-cons (λ i. has (label ∷ []) i.label ≡ true) (one b) []
      (or_left (bytes_eq label label) false ((bytes_eq-Decides label label).1 refl))
      (All-nil (λ i. has (label ∷ []) i.label ≡ true));
  within = λ b. All-cons (λ i. Begins (outermost_first b) (numbers i)) (one b) []
      (record { more = []; same = append_none (outermost_first b) })
      (All-nil (λ i. Begins (outermost_first b) (numbers i)));
  level = λ b c e. All-cons (λ i. All (SameLength i) (one c ∷ [])) (one b) []
      (All-cons (SameLength (one b)) (one c) [] (λ same. e) (All-nil (SameLength (one b))))
      (All-nil (λ i. All (SameLength i) (one c ∷ [])));
  differ = λ b. (All-nil (Differ (one b)), tt);
}
  where
    one : Bindings → Instance
    one b = record { label = label; bindings = b; assign = assign }

-- a quantified list

below_all : (z low : ℤ) (n : ℕ) → z <ℤ low → All (λ w. z ≡ w → ⊥) (count_up low n)
below_all z low zero h = All-nil (λ w. z ≡ w → ⊥)
below_all z low (suc n) h = All-cons (λ w. z ≡ w → ⊥) low (count_up (low +ℤ pos 1) n) (λ e. omega (arith, ints))
    (below_all z (low +ℤ pos 1) n (omega (arith, ints)))

count_apart : (low : ℤ) (n : ℕ) → Pairs (λ z w. z ≡ w → ⊥) (count_up low n)
count_apart low zero = tt
count_apart low (suc n) = (below_all low (low +ℤ pos 1) n (omega (arith, ints)), count_apart (low +ℤ pos 1) n)

-- what begins with two lists of one length that differ at the end
cut : (xs ys zs : List ℤ) (z w : ℤ) → (xs ++ z ∷ []) ++ ys ≡ (xs ++ w ∷ []) ++ zs → z ≡ w
cut [] ys zs z w e = cc e
cut (x ∷ xs) ys zs z w e = cut xs ys zs z w (cc e)

module _ (name : List ℕ) (range : Range) (u : Unfolding) (ts : Texts) (n : Named u ts) where
  abbrev bound : Bindings → ℤ → Bindings
  bound b z = (name, z) ∷ b

  abbrev for : Bindings → List ℤ → List Instance
  for b zs = flat_map (λ z. u (bound b z)) zs

  each_of : (P : Instance → Type 0) (b : Bindings) → ((z : ℤ) → All P (u (bound b z))) → (zs : List ℤ) →
      All P (for b zs)
  each_of P b each [] = All-nil P
  each_of P b each (z ∷ zs) = All-append P (u (bound b z)) (for b zs) (each z) (each_of P b each zs)

  inside_begins : (b : Bindings) (z : ℤ) (i : Instance) → Begins (outermost_first b ++ (z ∷ [])) (numbers i) →
      Begins (outermost_first b) (numbers i)
  inside_begins b z i h = record {
    more = z ∷ h.more;
    same = h.same ∙ append_assoc (outermost_first b) (z ∷ []) h.more;
  }

  other_number : (b : Bindings) (z w : ℤ) → (z ≡ w → ⊥) → All (λ i. All (Differ i) (u (bound b w))) (u (bound b z))
  other_number b z w apart = all_both (λ i. Begins (outermost_first (bound b z)) (numbers i))
      (λ j. Begins (outermost_first (bound b w)) (numbers j)) Differ
      (λ i j h k same e. apart (cut (outermost_first b) h.more k.more z w (sym h.same ∙ e ∙ k.same)))
      (u (bound b z)) (u (bound b w)) (n.within (bound b z)) (n.within (bound b w))

  across : (b : Bindings) (z : ℤ) (zs : List ℤ) → All (λ w. z ≡ w → ⊥) zs →
      All (λ i. All (Differ i) (for b zs)) (u (bound b z))
  across b z [] apart = All-weaker (λ i. Begins (outermost_first (bound b z)) (numbers i)) (λ i. All (Differ i) [])
      (λ i h. All-nil (Differ i)) (u (bound b z)) (n.within (bound b z))
  across b z (w ∷ ws) apart = join (u (bound b z)) (u (bound b w)) (for b ws)
      (other_number b z w (All-head (λ v. z ≡ v → ⊥) w ws apart))
      (across b z ws (All-tail (λ v. z ≡ v → ⊥) w ws apart))
    where
      join : (xs ys zs : List Instance) → All (λ i. All (Differ i) ys) xs → All (λ i. All (Differ i) zs) xs →
          All (λ i. All (Differ i) (ys ++ zs)) xs
      join [] ys zs h k = All-nil (λ i. All (Differ i) (ys ++ zs))
      join (x ∷ xs) ys zs h k = All-cons (λ i. All (Differ i) (ys ++ zs)) x xs
          (All-append (Differ x) ys zs (All-head (λ i. All (Differ i) ys) x xs h)
          (All-head (λ i. All (Differ i) zs) x xs k))
          (join xs ys zs (All-tail (λ i. All (Differ i) ys) x xs h) (All-tail (λ i. All (Differ i) zs) x xs k))

  differ_for : (b : Bindings) (zs : List ℤ) → Pairs (λ z w. z ≡ w → ⊥) zs → Pairs Differ (for b zs)
  differ_for b [] h = tt
  differ_for b (z ∷ zs) h = pairs_on Differ (u (bound b z)) (for b zs) (n.differ (bound b z))
      (differ_for b zs h.1) (across b z zs h.0)

  level_for : (b c : Bindings) → length b ≡ length c → (z : ℤ) (ws : List ℤ) →
      All (λ i. All (SameLength i) (for c ws)) (u (bound b z))
  level_for b c e z [] = All-weaker (λ i. Begins (outermost_first (bound b z)) (numbers i))
      (λ i. All (SameLength i) []) (λ i h. All-nil (SameLength i)) (u (bound b z)) (n.within (bound b z))
  level_for b c e z (w ∷ ws) = join (u (bound b z)) (u (bound c w)) (for c ws)
      (n.level (bound b z) (bound c w) (ap suc e)) (level_for b c e z ws)
    where
      join : (xs ys zs : List Instance) → All (λ i. All (SameLength i) ys) xs →
          All (λ i. All (SameLength i) zs) xs → All (λ i. All (SameLength i) (ys ++ zs)) xs
      join [] ys zs h k = All-nil (λ i. All (SameLength i) (ys ++ zs))
      join (x ∷ xs) ys zs h k = All-cons (λ i. All (SameLength i) (ys ++ zs)) x xs
          (All-append (SameLength x) ys zs (All-head (λ i. All (SameLength i) ys) x xs h)
          (All-head (λ i. All (SameLength i) zs) x xs k))
          (join xs ys zs (All-tail (λ i. All (SameLength i) ys) x xs h)
          (All-tail (λ i. All (SameLength i) zs) x xs k))

  pub named_quantified : Named (λ b. flat_map (λ z. u ((name, z) ∷ b)) (range_values b range)) ts
  named_quantified = record {
    labels = λ b. each_of (λ i. has ts i.label ≡ true) b (λ z. n.labels (bound b z)) (range_values b range);
    within = λ b. each_of (λ i. Begins (outermost_first b) (numbers i)) b
        (λ z. All-weaker (λ i. Begins (outermost_first (bound b z)) (numbers i))
        (λ i. Begins (outermost_first b) (numbers i)) (λ i h. inside_begins b z i h) (u (bound b z))
        (n.within (bound b z))) (range_values b range);
    level = λ b c e. each_of (λ i. All (SameLength i) (for c (range_values c range))) b
        (λ z. level_for b c e z (range_values c range)) (range_values b range);
    differ = λ b. differ_for b (range_values b range)
        (count_apart (end_value b range.low) (range_size (range_ends b range)));
  }

-- items

abbrev One : Item → Type 0
One i = (before : Texts) → Fresh before (item_texts i) → Named (item_instances i) (item_texts i)

abbrev Several : Items → Type 0
Several x = (before : Texts) → Fresh before (items_texts x) → Named (unfolded x) (items_texts x)

named_statement : (at : ℕ) (label : Name) (assign : Assign) → One (Item.Statement at label assign)
named_statement at label assign before fresh =
    named_as (λ b. record { label = label.text; bindings = b; assign = assign } ∷ [])
    (item_instances (Item.Statement at label assign)) (label.text ∷ []) (item_texts (Item.Statement at label assign))
    (instances-Statement at label assign) (texts-Statement at label assign) (named_one label.text assign)

named_list : (at : ℕ) (name : Name) (range : Range) (of : Items) → Several of → One (Item.Quantified at name range of)
named_list at name range of several before fresh =
    let same = texts-Quantified at name range of in
    named_as (λ b. flat_map (λ z. unfolded of ((name.text, z) ∷ b)) (range_values b range))
    (item_instances (Item.Quantified at name range of)) (items_texts of)
    (item_texts (Item.Quantified at name range of)) (instances-Quantified at name range of) same
    (named_quantified name.text range (unfolded of) (items_texts of)
    (several before (subst (λ (ts : Texts). Fresh before ts) same fresh)))

named_rest : (xs : List Item) → All One xs → (before : Texts) → Fresh before (flat_map item_texts xs) →
    Named (λ b. flat_map (λ item. item b) (map item_instances xs)) (flat_map item_texts xs)
named_rest [] each before fresh = named_nothing
named_rest (x ∷ xs) each before fresh =
    let parts = fresh_parts before (item_texts x) (flat_map item_texts xs) fresh in
    named_both (item_instances x) (λ b. flat_map (λ item. item b) (map item_instances xs)) (item_texts x)
    (flat_map item_texts xs) (All-head One x xs each before parts.0)
    (named_rest xs (All-tail One x xs each) (before ++ item_texts x) parts.1)
    (apart before (item_texts x) (flat_map item_texts xs) fresh)

named_items : (x : Items) → One x.first → All One x.rest → Several x
named_items x first each before fresh =
    let more = flat_map item_texts x.rest in
    let whole = subst (λ (ts : Texts). Fresh before ts) (texts-Items x) fresh in
    let parts = fresh_parts before (item_texts x.first) more whole in
    named_as (λ b. item_instances x.first b ++ flat_map (λ item. item b) (map item_instances x.rest)) (unfolded x)
    (item_texts x.first ++ more) (items_texts x) (instances-Items x) (texts-Items x)
    (named_both (item_instances x.first) (λ b. flat_map (λ item. item b) (map item_instances x.rest))
    (item_texts x.first) more (first before parts.0) (named_rest x.rest each (before ++ item_texts x.first) parts.1)
    (apart before (item_texts x.first) more whole))

pub named : (x : Items) → Several x
named x = of_items One Several named_statement named_list named_items x

length_numbers : (b : Bindings) → length (outermost_first b) ≡ length b
length_numbers [] = refl
length_numbers (b ∷ bs) = let all = length-append (outermost_first bs) (b.1 ∷ []) in
    let rest = length_numbers bs in omega arith

pub instances_apart : InstancesApart
instances_apart s labels items h =
    let n = named items labels (labelled items s labels h).fresh in
    each_pair ApartInstances (instances items) (both (instances items) (n.level [] [] refl) (n.differ []))
  where
    front : (i : Instance) (js : List Instance) → All (SameLength i) js → All (Differ i) js → All (ApartInstances i) js
    front i [] h k = All-nil (ApartInstances i)
    front i (j ∷ js) h k = All-cons (ApartInstances i) j js (record {
      differ = All-head (Differ i) j js k;
      alike = λ same. length_numbers i.bindings ∙ All-head (SameLength i) j js h same
          ∙ sym (length_numbers j.bindings);
    }) (front i js (All-tail (SameLength i) j js h) (All-tail (Differ i) j js k))

    tails : (x : Instance) (xs ys : List Instance) → All (λ i. All (SameLength i) (x ∷ xs)) ys →
        All (λ i. All (SameLength i) xs) ys
    tails x xs ys h = All-weaker (λ i. All (SameLength i) (x ∷ xs)) (λ i. All (SameLength i) xs)
        (λ i k. All-tail (SameLength i) x xs k) ys h

    both : (xs : List Instance) → All (λ i. All (SameLength i) xs) xs → Pairs Differ xs → Pairs ApartInstances xs
    both [] h k = tt
    both (x ∷ xs) h k = (
      front x xs (All-tail (SameLength x) x xs (All-head (λ i. All (SameLength i) (x ∷ xs)) x xs h)) k.0,
      both xs (tails x xs xs (All-tail (λ i. All (SameLength i) (x ∷ xs)) x xs h)) k.1,
    )

pub instances_labelled : InstancesLabelled
instances_labelled s labels items h =
    (named items labels (labelled items s labels h).fresh).labels []
