-- Two programs' labels have one pattern where tables of what stands with what never disagree.
use Rattle.std.proofs.Common.{◌≡◌, ℕ, zero, suc, ◌+◌, ◌<◌, ◌≤◌, nat_eq, Bool, true, false, cond, ◌&&◌, ◌||◌, not}
use Rattle.std.proofs.Common.{List, [], ◌∷◌, ◌++◌, length, take, drop, slice_index_or, slice_set, Option, Some}
use Rattle.std.proofs.Common.{None}
use Rattle.std.proofs.Common.{IsTrue, refl, sym, ap, ◌∙◌, subst, inl, inr, arith}
use Rattle.std.specs.List.{list_all, list_any}
use Rattle.std.specs.Option.{is_some}
use Rattle.std.proofs.lemmas.Bool.Decides.{eqb_tells}
use Rattle.std.proofs.lemmas.List.{get_or-set_same, get_or-set_other, take_more, take_all, take-append-drop}
use Rattle.core_terms.proofs.BoolLaws.{and_left, and_right}
use Rattle.core_terms.specs.declared.programs.CStmt.{CStmt}
use Rattle.safety_rules.specs.from_rules_table.Layers.{labels, labels_agree, same_pattern}
use Rattle.superposition.specs.Labels.{partner_in, first_by, first_over, first_below, NotesLabels, NotesMore}
use Rattle.superposition.specs.Labels.{TellsTaken}
use Rattle.superposition.specs.Patterns.{label_pairs}

-- tests of numbers

equal : (m : ℕ) → nat_eq m m ≡ true
equal m = elim (eqb_tells m m) [ inl w ↦ w.0 | inr w ↦ absurd (w.1 refl) ]

turned : (m n : ℕ) → nat_eq m n ≡ nat_eq n m
turned m n = elim (eqb_tells m n) [
  | inl w ↦ w.0 ∙ sym (subst (λ k. nat_eq k m ≡ true) w.1 (equal m))
  | inr w ↦ elim (eqb_tells n m) [ inl v ↦ absurd (w.1 (sym v.1)) | inr v ↦ w.0 ∙ sym v.0 ]
]

pub equal_told : (m n : ℕ) → m ≡ n → nat_eq m n ≡ true
equal_told m n e = elim (eqb_tells m n) [ inl w ↦ w.0 | inr w ↦ absurd (w.1 e) ]

pub apart_told : (m n : ℕ) → (m ≡ n → ⊥) → nat_eq m n ≡ false
apart_told m n apart = elim (eqb_tells m n) [ inl w ↦ absurd (apart w.1) | inr w ↦ w.0 ]

pub nats_same : (m n : ℕ) → nat_eq m n ≡ true → m ≡ n
nats_same m n e = elim (eqb_tells m n) [ inl w ↦ w.1 | inr w ↦ let failing = w.0 in cc ]

-- a pair more

all_but_last : (p q r s : Bool) → ((p && q) && (r && s)) ≡ ((p && r) && (q && s))
all_but_last true true r s = refl
all_but_last true false true s = refl
all_but_last true false false s = refl
all_but_last false q r s = refl

and_last : {X : Type 0} (p : X → Bool) (xs : List X) (x : X) → list_all p (xs ++ x ∷ []) ≡ (list_all p xs && p x)
and_last p [] x = go (p x)
  where
    go : (b : Bool) → (b && true) ≡ b
    go true = refl
    go false = refl
and_last p (y ∷ xs) x = ap (λ b. p y && b) (and_last p xs x) ∙ go (p y) (list_all p xs) (p x)
  where
    go : (a b c : Bool) → (a && (b && c)) ≡ ((a && b) && c)
    go true b c = refl
    go false b c = refl

pattern_more : (pairs : List (ℕ × ℕ)) (x : ℕ × ℕ) → same_pattern (pairs ++ x ∷ []) ≡
    (same_pattern pairs && list_all (λ a. labels_agree a x) pairs)
pattern_more [] x = refl
pattern_more (a ∷ pairs) x =
    ap (λ b. b && same_pattern (pairs ++ x ∷ [])) (and_last (labels_agree a) pairs x)
    ∙ ap (λ b. (list_all (labels_agree a) pairs && labels_agree a x) && b) (pattern_more pairs x)
    ∙ all_but_last (list_all (labels_agree a) pairs) (labels_agree a x) (same_pattern pairs)
    (list_all (λ b. labels_agree b x) pairs)

-- a longer list has the pattern only where the shorter one has

and_fails : (a b c d : Bool) → (a && b) ≡ false → (a ≡ false → c ≡ false) → (b ≡ false → d ≡ false) →
    (c && d) ≡ false
and_fails true b c d e one two = second c (two e)
  where
    second : (c : Bool) → d ≡ false → (c && d) ≡ false
    second true e = e
    second false e = refl
and_fails false b c d e one two = ap (λ c. c && d) (one refl)

all_shorter : {X : Type 0} (p : X → Bool) (xs ys : List X) → list_all p xs ≡ false → list_all p (xs ++ ys) ≡ false
all_shorter p [] ys e = cc
all_shorter p (x ∷ xs) ys e =
    and_fails (p x) (list_all p xs) (p x) (list_all p (xs ++ ys)) e (λ h. h) (all_shorter p xs ys)

pub pattern_shorter : (pairs more : List (ℕ × ℕ)) → same_pattern pairs ≡ false → same_pattern (pairs ++ more) ≡ false
pattern_shorter [] more e = cc
pattern_shorter (a ∷ pairs) more e =
    and_fails (list_all (labels_agree a) pairs) (same_pattern pairs) (list_all (labels_agree a) (pairs ++ more))
    (same_pattern (pairs ++ more)) e (all_shorter (labels_agree a) pairs more) (pattern_shorter pairs more)

-- what the two tables say of a pair
abbrev pub fit_together : Option ℕ → Option ℕ → ℕ → ℕ → Bool
fit_together None None label other = true
fit_together None (Some n) label other = false
fit_together (Some m) None label other = false
fit_together (Some m) (Some n) label other = nat_eq m other && nat_eq n label

agree_turned : (a b : ℕ × ℕ) → labels_agree a b ≡ labels_agree b a
agree_turned a b =
    ap (λ t. cond t (nat_eq a.1 b.1) (not (nat_eq a.1 b.1))) (turned a.0 b.0)
    ∙ ap (λ t. cond (nat_eq b.0 a.0) t (not t)) (turned a.1 b.1)

all_turned : (a : ℕ × ℕ) (xs : List (ℕ × ℕ)) → list_all (labels_agree a) xs ≡ list_all (λ b. labels_agree b a) xs
all_turned a [] = refl
all_turned a (x ∷ xs) =
    ap (λ t. t && list_all (labels_agree a) xs) (agree_turned a x) ∙ ap (λ t. labels_agree x a && t) (all_turned a xs)

told_step : (p q : Bool) (m n label other : ℕ) (over below : Option ℕ) (rest : Bool) → nat_eq m label ≡ p →
    nat_eq n other ≡ q → (p ≡ true → q ≡ true → rest ≡ true) →
    (p ≡ false → q ≡ false → rest ≡ fit_together over below label other) →
    (cond p q (not q) && rest) ≡ fit_together (cond p (Some n) over) (cond q (Some m) below) label other
told_step true true m n label other over below rest d e same apart =
    same refl refl ∙ sym (ap (λ b. b && nat_eq m label) e ∙ d)
told_step true false m n label other over below rest d e same apart = go below
  where
    go : (below : Option ℕ) → false ≡ fit_together (Some n) below label other
    go None = refl
    go (Some k) = sym (ap (λ b. b && nat_eq k label) e)
told_step false true m n label other over below rest d e same apart = go over
  where
    second : (b : Bool) → false ≡ (b && nat_eq m label)
    second true = sym d
    second false = refl

    go : (over : Option ℕ) → false ≡ fit_together over (Some m) label other
    go None = refl
    go (Some k) = second (nat_eq k other)
told_step false false m n label other over below rest d e same apart = apart refl refl

agree_as_told : (pairs : List (ℕ × ℕ)) (label other : ℕ) → IsTrue (same_pattern pairs) →
    list_all (λ a. labels_agree a (label, other)) pairs ≡
    fit_together (first_over pairs label) (first_below pairs other) label other
agree_as_told [] label other t = refl
agree_as_told (a ∷ pairs) label other t =
    told_step (nat_eq a.0 label) (nat_eq a.1 other) a.0 a.1 label other (first_over pairs label)
    (first_below pairs other) (list_all (λ b. labels_agree b (label, other)) pairs) refl refl (λ d e.
    subst (λ x. list_all (λ b. labels_agree b (x, other)) pairs ≡ true) (nats_same a.0 label d)
    (subst (λ y. list_all (λ b. labels_agree b (a.0, y)) pairs ≡ true) (nats_same a.1 other e)
    (sym (all_turned a pairs) ∙ and_left (list_all (labels_agree a) pairs) (same_pattern pairs) t)))
    (λ d e. agree_as_told pairs label other (and_right (list_all (labels_agree a) pairs) (same_pattern pairs) t))

-- one pair more has the pattern exactly where the tables say so
pub told_pattern : (pairs : List (ℕ × ℕ)) (label other : ℕ) → IsTrue (same_pattern pairs) →
    fit_together (first_over pairs label) (first_below pairs other) label other ≡
    same_pattern (pairs ++ (label, other) ∷ [])
told_pattern pairs label other t =
    sym (pattern_more pairs (label, other)
    ∙ ap (λ b. b && list_all (λ a. labels_agree a (label, other)) pairs) t ∙ agree_as_told pairs label other t)

-- one pair more, and what is noted
module _ (key value : ℕ × ℕ → ℕ) where
  abbrev first : List (ℕ × ℕ) → ℕ → Option ℕ
  first = first_by key value

  first_last : (pairs : List (ℕ × ℕ)) (x : ℕ × ℕ) (n : ℕ) → first pairs (key x) ≡ None →
      first (pairs ++ x ∷ []) n ≡ cond (nat_eq n (key x)) (Some (value x)) (first pairs n)
  first_last [] x n none = ap (λ b. cond b (Some (value x)) None) (turned (key x) n)
  first_last (a ∷ pairs) x n none = go (nat_eq (key a) (key x)) refl (first_last pairs x n)
    where
      all : List (ℕ × ℕ)
      all = pairs ++ x ∷ []

      here : (b : Bool) → nat_eq (key a) n ≡ b → nat_eq (key a) (key x) ≡ false →
          first all n ≡ cond (nat_eq n (key x)) (Some (value x)) (first pairs n) →
          cond b (Some (value a)) (first all n) ≡
          cond (nat_eq n (key x)) (Some (value x)) (cond b (Some (value a)) (first pairs n))
      here true e apart rest =
          ap (λ c. cond c (Some (value x)) (Some (value a)))
          (sym (subst (λ k. nat_eq k (key x) ≡ false) (nats_same (key a) n e) apart))
      here false e apart rest = rest

      go : (b : Bool) → nat_eq (key a) (key x) ≡ b → (first pairs (key x) ≡ None →
          first all n ≡ cond (nat_eq n (key x)) (Some (value x)) (first pairs n)) →
          cond (nat_eq (key a) n) (Some (value a)) (first all n) ≡
          cond (nat_eq n (key x)) (Some (value x)) (cond (nat_eq (key a) n) (Some (value a)) (first pairs n))
      go true e rest =
          let never : Some (value a) ≡ None = ap (λ b. cond b (Some (value a)) (first pairs (key x))) (sym e) ∙ none in
          cc
      go false e rest =
          here (nat_eq (key a) n) refl e
          (rest (ap (λ b. cond b (Some (value a)) (first pairs (key x))) (sym e) ∙ none))

  -- a pair at the end changes nothing for another label
  first_absent : (pairs : List (ℕ × ℕ)) (x : ℕ × ℕ) (n : ℕ) → nat_eq (key x) n ≡ false →
      first (pairs ++ x ∷ []) n ≡ first pairs n
  first_absent [] x n apart = ap (λ b. cond b (Some (value x)) None) apart
  first_absent (a ∷ pairs) x n apart =
      ap (λ o. cond (nat_eq (key a) n) (Some (value a)) o) (first_absent pairs x n apart)

  -- nor one that is known
  first_known : (pairs : List (ℕ × ℕ)) (x : ℕ × ℕ) (n : ℕ) → first pairs (key x) ≡ Some (value x) →
      first (pairs ++ x ∷ []) n ≡ first pairs n
  first_known [] x n some = cc
  first_known (a ∷ pairs) x n some =
      go (nat_eq (key a) n) refl (nat_eq (key a) (key x)) refl (first_known pairs x n)
    where
      all : List (ℕ × ℕ)
      all = pairs ++ x ∷ []

      go : (b : Bool) → nat_eq (key a) n ≡ b → (c : Bool) → nat_eq (key a) (key x) ≡ c →
          (first pairs (key x) ≡ Some (value x) → first all n ≡ first pairs n) →
          cond b (Some (value a)) (first all n) ≡ cond b (Some (value a)) (first pairs n)
      go true apart c e rest = refl
      go false apart true e rest =
          first_absent pairs x n (subst (λ k. nat_eq k n ≡ false) (nats_same (key a) (key x) e) apart)
      go false apart false e rest =
          rest (ap (λ b. cond b (Some (value a)) (first pairs (key x))) (sym e) ∙ some)

abbrev lower : ℕ × ℕ → ℕ
lower a = a.0

abbrev upper : ℕ × ℕ → ℕ
upper a = a.1

module _ (pairs : List (ℕ × ℕ)) (label other : ℕ) (over below : List (Option ℕ)) (notes : NotesLabels pairs over below)
  where
    -- two new labels are noted
    pub noted_new : (more less : List (Option ℕ)) → None ≡ partner_in over label → None ≡ partner_in below other →
        ((n : ℕ) → partner_in more n ≡ cond (nat_eq n label) (Some other) (partner_in over n)) →
        ((n : ℕ) → partner_in less n ≡ cond (nat_eq n other) (Some label) (partner_in below n)) →
        NotesLabels (pairs ++ (label, other) ∷ []) more less
    noted_new more less failing none one two = record {
      over_is = λ n. one n ∙ ap (λ o. cond (nat_eq n label) (Some other) o) (notes.over_is n)
          ∙ sym (first_last lower upper pairs (label, other) n (sym (notes.over_is label) ∙ sym failing));
      below_is = λ n. two n ∙ ap (λ o. cond (nat_eq n other) (Some label) o) (notes.below_is n)
          ∙ sym (first_last upper lower pairs (label, other) n (sym (notes.below_is other) ∙ sym none));
    }

    -- two that stand together are noted already
    pub noted_known : Some other ≡ partner_in over label → Some label ≡ partner_in below other →
        NotesLabels (pairs ++ (label, other) ∷ []) over below
    noted_known one two = record {
      over_is = λ n. notes.over_is n
          ∙ sym (first_known lower upper pairs (label, other) n (sym (notes.over_is label) ∙ sym one));
      below_is = λ n. notes.below_is n
          ∙ sym (first_known upper lower pairs (label, other) n (sym (notes.below_is other) ∙ sym two));
    }

    -- what the tables say is what the pattern of one pair more is
    pub told_more : (o u : Option ℕ) → IsTrue (same_pattern pairs) → o ≡ partner_in over label →
        u ≡ partner_in below other → fit_together o u label other ≡ same_pattern (pairs ++ (label, other) ∷ [])
    told_more o u t one two =
        ap (λ x. fit_together x u label other) (one ∙ notes.over_is label)
        ∙ ap (λ x. fit_together (first_over pairs label) x label other) (two ∙ notes.below_is other)
        ∙ told_pattern pairs label other t

-- tables

-- an empty place more says nothing
pub none_more : (table : List (Option ℕ)) (n : ℕ) → partner_in (table ++ None ∷ []) n ≡ partner_in table n
none_more [] zero = refl
none_more [] (suc n) = refl
none_more (o ∷ table) zero = refl
none_more (o ∷ table) (suc n) = none_more table n

pub one_noted : (table : List (Option ℕ)) (label n : ℕ) (o : Option ℕ) → label < length table →
    partner_in (slice_set table label o) n ≡ cond (nat_eq n label) o (partner_in table n)
one_noted table label n o less = elim (eqb_tells n label) [
  | inl w ↦ ap (λ k. partner_in (slice_set table label o) k) w.1 ∙ get_or-set_same table label o None less
      ∙ sym (ap (λ b. cond b o (partner_in table n)) w.0)
  | inr w ↦ get_or-set_other table label n o None w.1 ∙ sym (ap (λ b. cond b o (partner_in table n)) w.0)
]

-- as far as a comparison has come: so many pairs have the pattern, and the tables have what they say
pub record PatternSoFar (fs hs : List CStmt) (count : ℕ) (over below : List (Option ℕ)) : Type 0 where
  pub pattern : IsTrue (same_pattern (take count (label_pairs fs hs)))
  pub notes : NotesLabels (take count (label_pairs fs hs)) over below

pub at_first : (fs hs : List CStmt) (over below : List (Option ℕ)) → ((n : ℕ) → partner_in over n ≡ None) →
    ((n : ℕ) → partner_in below n ≡ None) → PatternSoFar fs hs 0 over below
at_first fs hs over below one two = record { pattern = refl; notes = record { over_is = one; below_is = two } }

count_pairs : (fs hs : List CStmt) → length fs ≡ length hs → length (label_pairs fs hs) ≡ length fs
count_pairs [] hs e = refl
count_pairs (s ∷ fs) [] e = absurd (omega (arith, e))
count_pairs (s ∷ fs) (t ∷ hs) e =
    let inner : length fs ≡ length hs = omega (arith, e) in let rest = count_pairs fs hs inner in omega (arith, rest)

pair_at : (fs hs : List CStmt) (i : ℕ) (s t : CStmt) (d : ℕ × ℕ) → i < length fs → i < length hs →
    s ≡ slice_index_or fs i s → t ≡ slice_index_or hs i t → slice_index_or (label_pairs fs hs) i d ≡
    (s.label, t.label)
pair_at [] hs i s t d less fewer s_is t_is = absurd (omega (arith, less))
pair_at (x ∷ fs) [] i s t d less fewer s_is t_is = absurd (omega (arith, fewer))
pair_at (x ∷ fs) (y ∷ hs) zero s t d less fewer s_is t_is =
    ap (λ (z : CStmt). (z.label, y.label)) (sym s_is) ∙ ap (λ (z : CStmt). (s.label, z.label)) (sym t_is)
pair_at (x ∷ fs) (y ∷ hs) (suc i) s t d less fewer s_is t_is =
    let one : i < length fs = omega (arith, less) in let two : i < length hs = omega (arith, fewer) in
    pair_at fs hs i s t d one two s_is t_is

module _ (fs hs : List CStmt) (same : length fs ≡ length hs) (i : ℕ) where
  abbrev all : List (ℕ × ℕ)
  all = label_pairs fs hs

  longer : (s t : CStmt) → i < length fs → s ≡ slice_index_or fs i s → t ≡ slice_index_or hs i t →
      take i all ++ (s.label, t.label) ∷ [] ≡ take (i + 1) all
  longer s t less s_is t_is =
      let fewer : i < length hs = omega (arith, same, less) in
      let count = count_pairs fs hs same in
      let within : i < length all = omega (arith, count, less) in
      sym (take_more all i (s.label, t.label) within
      ∙ ap (λ p. take i all ++ p ∷ []) (pair_at fs hs i s t (s.label, t.label) less fewer s_is t_is))

  pub one_agrees : (s t : CStmt) (told : Bool) (over below : List (Option ℕ)) → i < length fs →
      s ≡ slice_index_or fs i s → t ≡ slice_index_or hs i t → told ≡ true →
      NotesMore (take i all) (s.label, t.label) over below told → PatternSoFar fs hs (i + 1) over below
  one_agrees s t told over below less s_is t_is passing more =
      as_record (subst (λ ps. IsTrue (same_pattern ps) × NotesLabels ps over below) (longer s t less s_is t_is)
      (sym more.tells ∙ passing, more.noted passing))
    where
      as_record : IsTrue (same_pattern (take (i + 1) all)) × NotesLabels (take (i + 1) all) over below →
          PatternSoFar fs hs (i + 1) over below
      as_record h = record { pattern = h.0; notes = h.1 }

  pub one_disagrees : (s t : CStmt) (told : Bool) (over below : List (Option ℕ)) → i < length fs →
      s ≡ slice_index_or fs i s → t ≡ slice_index_or hs i t → told ≡ false →
      NotesMore (take i all) (s.label, t.label) over below told → same_pattern all ≡ false
  one_disagrees s t told over below less s_is t_is failing more =
      ap same_pattern (sym (take-append-drop (i + 1) all))
      ∙ pattern_shorter (take (i + 1) all) (drop (i + 1) all)
      (ap same_pattern (sym (longer s t less s_is t_is)) ∙ sym more.tells ∙ failing)

  pub all_agree : (over below : List (Option ℕ)) → length fs ≤ i → PatternSoFar fs hs i over below →
      (same_pattern all ≡ true) × TellsTaken below (labels hs)
  all_agree over below past so_far =
      let count = count_pairs fs hs same in
      let whole : take i all ≡ all = take_all i all (omega (arith, count, past)) in (
        subst (λ ps. same_pattern ps ≡ true) whole so_far.pattern,
        λ n. ap is_some (so_far.notes.below_is n ∙ ap (λ ps. first_below ps n) whole) ∙ taken fs hs n same,
      )
    where
      taken : (fs hs : List CStmt) (n : ℕ) → length fs ≡ length hs → is_some (first_below (label_pairs fs hs) n) ≡
          list_any (λ k. nat_eq k n) (labels hs)
      taken [] [] n e = refl
      taken [] (t ∷ hs) n e = absurd (omega (arith, e))
      taken (s ∷ fs) [] n e = absurd (omega (arith, e))
      taken (s ∷ fs) (t ∷ hs) n e =
          let inner : length fs ≡ length hs = omega (arith, e) in go (nat_eq t.label n) (taken fs hs n inner)
        where
          go : (b : Bool) → is_some (first_below (label_pairs fs hs) n) ≡ list_any (λ k. nat_eq k n) (labels hs) →
              is_some (cond b (Some s.label) (first_below (label_pairs fs hs) n)) ≡
              (b || list_any (λ k. nat_eq k n) (labels hs))
          go true e = refl
          go false e = e
