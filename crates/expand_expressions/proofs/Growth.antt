-- What stops a part stops the whole.
use Rattle.std.proofs.Math.Seq.{drop-cons}
use Rattle.std.proofs.Common.{◌≡◌, ℕ, zero, suc, ◌+◌, ◌<◌, ℤ, pos, ◌+ℤ◌, List, [], ◌∷◌, map, drop, length}
use Rattle.std.proofs.Common.{get_or, true, Err, refl, sym, ap, ◌∙◌, subst, arith}
use Rattle.std.proofs.lemmas.Int.{ints}
use Rattle.std.specs.Prelude.{fold}
use Rattle.case_tables.specs.declared.symbol_table.Symbol.{Symbol}
use Rattle.case_tables.specs.declared.word_table.Word.{Word}
use Rattle.unity_syntax.specs.declared.expression.Operator.{Operator}
use Rattle.meaning_executions.specs.Counting.{count_up}
use Rattle.expand_rules.specs.declared.cores.Formed.{Formed}
use Rattle.expand_rules.specs.Limits.{is_past, is_too_large}
use Rattle.expand_rules.specs.Forming.{plus, gathered, factored}
use Rattle.expand_rules.proofs.Growing.{fold_keeps, as_number_keeps, as_truth_keeps, sum_first, sum_second}
use Rattle.expand_rules.proofs.Growing.{factored_first, conjunction_first, conjunction_second}
use Rattle.expand_rules.proofs.Growing.{disjunction_first, disjunction_second, plus_first}
use Rattle.expand_rules.proofs.Growing.{large_of_past, sum_large, conjunction_large}
use Rattle.expand_rules.proofs.Growing.{disjunction_large}
use Rattle.expand_expressions.specs.declared.refusal.Refusal.{Refusal}
use Rattle.expand_expressions.specs.declared.joining.Joint.{Joint}
use Rattle.expand_expressions.specs.Sound.{GivesCore, GivesWhole}
use Rattle.expand_expressions.specs.Joints.{joint_of, begin_of, word_joint, none_of}

-- an answer about a part is one about the whole
pub passes : (e : Refusal) (a b : Formed) → (is_past a ≡ true → is_past b ≡ true) → GivesCore (Err e) a → GivesCore
    (Err e) b
passes Refusal.Memory a b f h = tt
passes Refusal.TooLarge a b f h = f h

pub passes_whole : (e : Refusal) (a b : Formed) → (is_past a ≡ true → is_too_large b ≡ true) → GivesCore (Err e) a →
    GivesWhole (Err e) b
passes_whole Refusal.Memory a b f h = tt
passes_whole Refusal.TooLarge a b f h = f h

pub passes_back : (e : Refusal) (a b : Formed) → (is_too_large a ≡ true → is_past b ≡ true) → GivesWhole (Err e) a →
    GivesCore (Err e) b
passes_back Refusal.Memory a b f h = tt
passes_back Refusal.TooLarge a b f h = f h

-- joints

pub joint_first : (j : Joint) (a b : Formed) → is_past a ≡ true → is_past (joint_of j a b) ≡ true
joint_first Joint.And = conjunction_first
joint_first Joint.Or = disjunction_first
joint_first Joint.Sum = sum_first

pub joint_second : (j : Joint) (a b : Formed) → is_past b ≡ true → is_past (joint_of j a b) ≡ true
joint_second Joint.And = conjunction_second
joint_second Joint.Or = disjunction_second
joint_second Joint.Sum = sum_second

pub joint_large : (j : Joint) (a b : Formed) → is_too_large a ≡ true → is_too_large (joint_of j a b) ≡ true
joint_large Joint.And = conjunction_large
joint_large Joint.Or = disjunction_large
joint_large Joint.Sum = sum_large

pub begin_keeps : (j : Joint) (a : Formed) → is_past a ≡ true → is_past (begin_of j a) ≡ true
begin_keeps Joint.And = as_truth_keeps
begin_keeps Joint.Or = as_truth_keeps
begin_keeps Joint.Sum = as_number_keeps

pub fold_past : (j : Joint) (a : Formed) (bs : List Formed) → is_past a ≡ true → is_past (fold (joint_of j) a bs) ≡
    true
fold_past j a bs h = fold_keeps (joint_of j) (joint_first j) a bs h

pub fold_large : (j : Joint) (a : Formed) (bs : List Formed) → is_too_large a ≡ true → is_too_large
    (fold (joint_of j) a bs) ≡ true
fold_large j a [] h = h
fold_large j a (b ∷ bs) h = fold_large j (joint_of j a b) bs (joint_large j a b h)

-- a further part, in what joins the parts from it on
pub next_past : (j : Joint) (a b : Formed) (bs : List Formed) → is_past b ≡ true → is_past
    (fold (joint_of j) a (b ∷ bs)) ≡ true
next_past j a b bs h = fold_past j (joint_of j a b) bs (joint_second j a b h)

-- parts that are marked: by a sign in a sum, by an operator in a product
abbrev pub MarkedFirst : {S : Type 0} → (Formed → S × Formed → Formed) → Type 0
MarkedFirst {S} op = (o : S) (a b : Formed) → is_past a ≡ true → is_past (op a (o, b)) ≡ true

abbrev pub MarkedSecond : {S : Type 0} → (Formed → S × Formed → Formed) → Type 0
MarkedSecond {S} op = (o : S) (a b : Formed) → is_past b ≡ true → is_past (op a (o, b)) ≡ true

pub marked_fold : {S : Type 0} (op : Formed → S × Formed → Formed) → MarkedFirst op → (a : Formed)
    (bs : List (S × Formed)) → is_past a ≡ true → is_past (fold op a bs) ≡ true
marked_fold op k a bs h = fold_keeps op (λ x p i. k p.0 x p.1 i) a bs h

pub plus_fold : (a : Formed) (bs : List (Symbol × Formed)) → is_past a ≡ true → is_past (fold plus a bs) ≡ true
plus_fold a bs h = marked_fold plus plus_first a bs h

pub factored_fold : (a : Formed) (bs : List ((Operator × ℕ) × Formed)) → is_past a ≡ true →
    is_past (fold factored a bs) ≡ true
factored_fold a bs h = marked_fold factored factored_first a bs h

-- instances

pub gathered_begins : (which : Word) (a : Formed) (rest : List Formed) →
    fold (joint_of (word_joint which)) (begin_of (word_joint which) a) rest ≡ gathered which (a ∷ rest)
gathered_begins Word.All a rest = refl
gathered_begins Word.Any a rest = refl
gathered_begins _ a rest = refl

pub gathered_none : (which : Word) → none_of which ≡ gathered which []
gathered_none Word.All = refl
gathered_none Word.Any = refl
gathered_none _ = refl

pub drop_numbers : (k n : ℕ) (low : ℤ) → k < n → drop k (count_up low n) ≡ (low +ℤ pos k) ∷ drop (k + 1)
    (count_up low n)
drop_numbers k zero low h = absurd (omega arith)
drop_numbers zero (suc n) low h = let e : low ≡ low +ℤ pos 0 = omega (arith, ints) in ap
    (λ z. z ∷ count_up (low +ℤ pos 1) n) e
drop_numbers (suc k) (suc n) low h =
    let e : (low +ℤ pos 1) +ℤ pos k ≡ low +ℤ pos (suc k) = omega (arith, ints) in
    let s : suc k + 1 ≡ suc (k + 1) = omega arith in
    drop_numbers k n (low +ℤ pos 1) (omega arith) ∙ ap (λ z. z ∷ drop (k + 1) (count_up (low +ℤ pos 1) n)) e
    ∙ ap (λ m. (low +ℤ pos (suc k)) ∷ drop m (count_up low (suc n))) (sym s)

pub drop_all : (n : ℕ) (low : ℤ) → drop n (count_up low n) ≡ []
drop_all zero low = refl
drop_all (suc n) low = drop_all n (low +ℤ pos 1)

-- the first instance, and those that follow it
pub instances_begin : (which : Word) (f : ℤ → Formed) (low : ℤ) (n : ℕ) → (n ≡ 0 → ⊥) →
    fold (joint_of (word_joint which)) (begin_of (word_joint which) (f (low +ℤ pos 0)))
    (map f (drop 1 (count_up low n))) ≡ gathered which (map f (count_up low n))
instances_begin which f low zero h = absurd (h refl)
instances_begin which f low (suc n) h =
    let same : low +ℤ pos 0 ≡ low = omega (arith, ints) in
    ap (λ z. fold (joint_of (word_joint which)) (begin_of (word_joint which) (f z))
    (map f (count_up (low +ℤ pos 1) n))) same
    ∙ gathered_begins which (f low) (map f (count_up (low +ℤ pos 1) n))

pub instances_more : (j : Joint) (f : ℤ → Formed) (low : ℤ) (k n : ℕ) (whole whole2 goal : Formed) → k < n → whole2 ≡
    joint_of j whole (f (low +ℤ pos k)) →
    fold (joint_of j) whole (map f (drop k (count_up low n))) ≡ goal → fold (joint_of j) whole2
    (map f (drop (k + 1) (count_up low n))) ≡ goal
instances_more j f low k n whole whole2 goal h e i =
    ap (λ a. fold (joint_of j) a (map f (drop (k + 1) (count_up low n)))) e
    ∙ sym (ap (λ zs. fold (joint_of j) whole (map f zs)) (drop_numbers k n low h)) ∙ i

pub instances_end : (j : Joint) (f : ℤ → Formed) (low : ℤ) (k n : ℕ) (whole goal : Formed) → k ≡ n →
    fold (joint_of j) whole (map f (drop k (count_up low n))) ≡ goal → whole ≡ goal
instances_end j f low k n whole goal e i = sym (ap (λ zs. fold (joint_of j) whole (map f zs))
    (ap (λ m. drop m (count_up low n)) e ∙ drop_all n low)) ∙ i

-- an instance that is too large makes them all so
pub instance_large : (j : Joint) (f : ℤ → Formed) (low : ℤ) (k n : ℕ) (whole goal : Formed) → k < n →
    fold (joint_of j) whole (map f (drop k (count_up low n))) ≡ goal → is_past (f (low +ℤ pos k)) ≡ true →
    is_too_large goal ≡ true
instance_large j f low k n whole goal h i p = subst (λ a. is_too_large a ≡ true)
    (sym (ap (λ zs. fold (joint_of j) whole (map f zs)) (drop_numbers k n low h)) ∙ i)
    (large_of_past (fold (joint_of j) whole (f (low +ℤ pos k) ∷ map f (drop (k + 1) (count_up low n))))
    (next_past j whole (f (low +ℤ pos k)) (map f (drop (k + 1) (count_up low n))) p))

pub joined_large : (j : Joint) (f : ℤ → Formed) (low : ℤ) (k n : ℕ) (whole goal : Formed) → k < n →
    fold (joint_of j) whole (map f (drop k (count_up low n))) ≡ goal → is_past (joint_of j whole (f (low +ℤ pos k))) ≡
    true → is_too_large goal ≡ true
joined_large j f low k n whole goal h i p = subst (λ a. is_too_large a ≡ true)
    (sym (ap (λ zs. fold (joint_of j) whole (map f zs)) (drop_numbers k n low h)) ∙ i)
    (large_of_past (fold (joint_of j) whole (f (low +ℤ pos k) ∷ map f (drop (k + 1) (count_up low n))))
    (fold_past j (joint_of j whole (f (low +ℤ pos k))) (map f (drop (k + 1) (count_up low n))) p))

pub whole_large : (j : Joint) (f : ℤ → Formed) (low : ℤ) (k n : ℕ) (whole goal : Formed) →
    fold (joint_of j) whole (map f (drop k (count_up low n))) ≡ goal → is_too_large whole ≡ true → is_too_large goal ≡
    true
whole_large j f low k n whole goal i p = subst (λ a. is_too_large a ≡ true) i
    (fold_large j whole (map f (drop k (count_up low n))) p)

pub begin_large : (which : Word) (f : ℤ → Formed) (low : ℤ) (n : ℕ) → (n ≡ 0 → ⊥) →
    is_past (begin_of (word_joint which) (f (low +ℤ pos 0))) ≡ true → is_too_large
    (gathered which (map f (count_up low n))) ≡ true
begin_large which f low n h p = subst (λ a. is_too_large a ≡ true) (instances_begin which f low n h)
    (large_of_past (fold (joint_of (word_joint which)) (begin_of (word_joint which) (f (low +ℤ pos 0)))
    (map f (drop 1 (count_up low n)))) (fold_past (word_joint which)
    (begin_of (word_joint which) (f (low +ℤ pos 0))) (map f (drop 1 (count_up low n))) p))

pub first_large : (which : Word) (f : ℤ → Formed) (low : ℤ) (n : ℕ) → (n ≡ 0 → ⊥) →
    is_past (f (low +ℤ pos 0)) ≡ true → is_too_large (gathered which (map f (count_up low n))) ≡ true
first_large which f low n h p = begin_large which f low n h (begin_keeps (word_joint which) (f (low +ℤ pos 0)) p)

-- lists of parts

pub passes_at : {X : Type 0} (e : Refusal) (f : X → Formed) (x y : X) (b : Formed) → x ≡ y →
    (is_past (f y) ≡ true → is_past b ≡ true) →
    GivesCore (Err e) (f x) → GivesCore (Err e) b
passes_at e f x y b q k h = passes e (f x) b (λ i. k (subst (λ z. is_past (f z) ≡ true) q i)) h

module _ {X : Type 0} (f : X → Formed) (j : Joint) (whole : Formed) (items rest : List X) (i : ℕ) (begin : Formed)
    (initial : Formed)
    (within : i < length items) (first : initial ≡ begin) (same : items ≡ rest)
    (leads : fold (joint_of j) whole (map f (drop i items)) ≡ fold (joint_of j) initial (map f items)) where
  goal_is : fold (joint_of j) whole (map f (drop i items)) ≡ fold (joint_of j) begin (map f rest)
  goal_is = leads ∙ ap (λ a. fold (joint_of j) a (map f items)) first ∙ ap (λ xs. fold (joint_of j) begin (map f xs))
      same

  pub list_next : (item : X) → item ≡ get_or items i item → is_past (f item) ≡ true → is_past
      (fold (joint_of j) begin (map f rest)) ≡ true
  list_next item is p = subst (λ a. is_past a ≡ true)
      (sym (ap (λ xs. fold (joint_of j) whole (map f xs)) (drop-cons items i item within ∙ ap
      (λ x. x ∷ drop (suc i) items) (sym is))) ∙ goal_is)
      (next_past j whole (f item) (map f (drop (suc i) items)) p)

  pub list_joined : (item : X) (next : Formed) → item ≡ get_or items i item → next ≡ f item → is_past
      (joint_of j whole next) ≡ true →
      is_past (fold (joint_of j) begin (map f rest)) ≡ true
  list_joined item next is e p = subst (λ a. is_past a ≡ true)
      (sym (ap (λ xs. fold (joint_of j) whole (map f xs)) (drop-cons items i item within ∙ ap
      (λ x. x ∷ drop (suc i) items) (sym is))) ∙ goal_is)
      (fold_past j (joint_of j whole (f item)) (map f (drop (suc i) items))
      (subst (λ a. is_past (joint_of j whole a) ≡ true) e p))

module _ {S X : Type 0} (op : Formed → S × Formed → Formed) (first_keeps : MarkedFirst op)
    (second_keeps : MarkedSecond op) (f : X → S × Formed) (whole : Formed) (items rest : List X) (i : ℕ)
    (begin : Formed) (initial : Formed)
    (within : i < length items) (first : initial ≡ begin) (same : items ≡ rest)
    (leads : fold op whole (map f (drop i items)) ≡ fold op initial (map f items)) where
  marked_is : fold op whole (map f (drop i items)) ≡ fold op begin (map f rest)
  marked_is = leads ∙ ap (λ a. fold op a (map f items)) first ∙ ap (λ xs. fold op begin (map f xs)) same

  pub marked_next : (item : X) → item ≡ get_or items i item → is_past (f item).1 ≡ true → is_past
      (fold op begin (map f rest)) ≡ true
  marked_next item is p = subst (λ a. is_past a ≡ true)
      (sym (ap (λ xs. fold op whole (map f xs)) (drop-cons items i item within ∙ ap (λ x. x ∷ drop (suc i) items)
      (sym is))) ∙ marked_is)
      (marked_fold op first_keeps (op whole (f item)) (map f (drop (suc i) items))
      (second_keeps (f item).0 whole (f item).1 p))

  pub marked_joined : (item : X) (next : Formed) → item ≡ get_or items i item → next ≡ (f item).1 → is_past
      (op whole ((f item).0, next)) ≡ true →
      is_past (fold op begin (map f rest)) ≡ true
  marked_joined item next is e p = subst (λ a. is_past a ≡ true)
      (sym (ap (λ xs. fold op whole (map f xs)) (drop-cons items i item within ∙ ap (λ x. x ∷ drop (suc i) items)
      (sym is))) ∙ marked_is)
      (marked_fold op first_keeps (op whole (f item)) (map f (drop (suc i) items))
      (subst (λ a. is_past (op whole ((f item).0, a)) ≡ true) e p))
