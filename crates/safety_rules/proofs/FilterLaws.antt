-- Items that pass a test, as far as a loop has come, and the obligations of these.
use Rattle.std.proofs.Common.{◌≡◌, ℕ, zero, suc, ◌+◌, ◌<◌, List, [], ◌∷◌, ◌++◌, map, filter, cond, Bool, true, false}
use Rattle.std.proofs.Common.{◌&&◌, Ok, Err, refl, sym, ap, ◌∙◌, subst, length, take, slice_index_or, add-one}
use Rattle.std.proofs.Common.{append_assoc, arith}
use Rattle.std.specs.List.{list_all}
use Rattle.std.proofs.lemmas.List.Folds.{list_all-append}
use Rattle.core_terms.specs.declared.trees.Range.{Range}
use Rattle.core_terms.specs.declared.trees.CForm.{CForm}
use Rattle.core_terms.specs.declared.programs.CSlot.{CSlot}
use Rattle.obligations.specs.declared.branches.Obligation.{Obligation}
use Rattle.rules_table.specs.Limits.{is_provable}
use Rattle.rules_table.specs.Validity.{goal_obligation}
use Rattle.safety_rules.specs.declared.places.RuleError.{RuleError}
use Rattle.safety_rules.specs.Goals.{Added}
use Rattle.safety_rules.proofs.AnswerLaws.{AddedFor}

nil_after : {X : Type 0} (xs : List X) → xs ++ [] ≡ xs
nil_after [] = refl
nil_after (x ∷ xs) = ap (λ rest. x ∷ rest) (nil_after xs)

filter_next : {X : Type 0} (test : X → Bool) (xs : List X) (i : ℕ) (d : X) → i < length xs →
    filter test (take (suc i) xs) ≡
    filter test (take i xs) ++ cond (test (slice_index_or xs i d)) (slice_index_or xs i d ∷ []) []
filter_next test [] i d less = absurd (omega arith)
filter_next test (x ∷ xs) zero d less = refl
filter_next {X} test (x ∷ xs) (suc i) d less =
    let inner : i < length xs = omega arith in
    let more = filter_next test xs i d inner in
    let last : List X = cond (test (slice_index_or xs i d)) (slice_index_or xs i d ∷ []) [] in
    elim (test x) as (λ b. cond b (x ∷ filter test (take (suc i) xs)) (filter test (take (suc i) xs)) ≡
    cond b (x ∷ filter test (take i xs)) (filter test (take i xs)) ++ last) [
      | true ↦ ap (λ ys. x ∷ ys) more
      | false ↦ more
    ]

pub filter_takes : {X : Type 0} (test : X → Bool) (xs : List X) (i : ℕ) (x : X) (b : Bool) → i < length xs →
    x ≡ slice_index_or xs i x → b ≡ test x → b ≡ true →
    filter test (take (i + 1) xs) ≡ filter test (take i xs) ++ x ∷ []
filter_takes {X} test xs i x b less item is passes =
    ap (λ n. filter test (take n xs)) (add-one i) ∙ filter_next test xs i x less
    ∙ ap (λ y. filter test (take i xs) ++ cond (test y) (y ∷ []) []) (sym item)
    ∙ ap (λ t. filter test (take i xs) ++ cond t (x ∷ []) []) (sym is ∙ passes)

pub filter_drops : {X : Type 0} (test : X → Bool) (xs : List X) (i : ℕ) (x : X) (b : Bool) → i < length xs →
    x ≡ slice_index_or xs i x → b ≡ test x → b ≡ false →
    filter test (take (i + 1) xs) ≡ filter test (take i xs)
filter_drops {X} test xs i x b less item is fails =
    ap (λ n. filter test (take n xs)) (add-one i) ∙ filter_next test xs i x less
    ∙ ap (λ y. filter test (take i xs) ++ cond (test y) (y ∷ []) []) (sym item)
    ∙ ap (λ t. filter test (take i xs) ++ cond t (x ∷ []) []) (sym is ∙ fails)
    ∙ nil_after (filter test (take i xs))

pub map_last : {X : Type 0} (make : X → CForm) (xs : List X) (x : X) → map make (xs ++ x ∷ []) ≡
    map make xs ++ make x ∷ []
map_last make [] x = refl
map_last make (y ∷ xs) x = ap (λ fs. make y ∷ fs) (map_last make xs x)

first_false : (a b : Bool) → a ≡ false → (a && b) ≡ false
first_false false b e = refl
first_false true b e = cc

second_false : (a b : Bool) → b ≡ false → (a && b) ≡ false
second_false true b e = e
second_false false b e = refl

both : (a b : Bool) → a ≡ true → b ≡ true → (a && b) ≡ true
both true b d e = e
both false b d e = cc

one_false : (b : Bool) → (b && true) ≡ false → b ≡ false
one_false true e = e
one_false false e = refl

module _ (slots : List CSlot) (params : List Range) where
  abbrev shown : List CForm → Bool
  shown forms = list_all (is_provable slots params) forms

  -- the obligation of one item more
  pub one_after : {X T : Type 0} (done : T) (make : X → CForm) (xs all : List X) (x : X) (form : CForm)
      (old mid new : List Obligation) → all ≡ xs ++ x ∷ [] → form ≡ make x →
      AddedFor slots params make xs old mid → Added (Ok done) mid new slots params (form ∷ []) →
      AddedFor slots params make all old new
  one_after done make xs all x form old mid new are is before added =
      let goal : CForm → Obligation = goal_obligation slots params in
      let more : map make all ≡ map make xs ++ form ∷ [] =
      ap (map make) are ∙ map_last make xs x ∙ ap (λ f. map make xs ++ f ∷ []) (sym is) in
      record {
        goals = added.0 ∙ ap (λ os. os ++ goal form ∷ []) before.goals
            ∙ append_assoc old (map goal (map make xs)) (goal form ∷ [])
            ∙ ap (λ os. old ++ os) (joined_maps goal (map make xs) form)
            ∙ ap (λ fs. old ++ map goal fs) (sym more);
        small_so_far = ap (list_all (is_provable slots params)) more
            ∙ list_all-append (is_provable slots params) (map make xs) (form ∷ [])
            ∙ both (shown (map make xs)) (shown (form ∷ [])) before.small_so_far added.1;
      }
    where
      joined_maps : (g : CForm → Obligation) (fs : List CForm) (f : CForm) → map g fs ++ g f ∷ [] ≡ map g
          (fs ++ f ∷ [])
      joined_maps g [] f = refl
      joined_maps g (h ∷ fs) f = ap (λ os. g h ∷ os) (joined_maps g fs f)

  pub still_added : {X : Type 0} (make : X → CForm) (xs all : List X) (old new : List Obligation) → all ≡ xs →
      AddedFor slots params make xs old new → AddedFor slots params make all old new
  still_added make xs all old new are added =
      subst (λ ys. AddedFor slots params make ys old new) (sym are) added

  -- an item's formula is too large
  item_fails : {X : Type 0} (make : X → CForm) (test : X → Bool) (xs : List X) (i : ℕ) (x : X) → i < length xs →
      x ≡ slice_index_or xs i x → test x ≡ true → is_provable slots params (make x) ≡ false →
      shown (map make (filter test xs)) ≡ false
  item_fails make test [] i x less item passes e = absurd (omega arith)
  item_fails make test (y ∷ xs) zero x less item passes e =
      ap (λ b. shown (map make (cond b (y ∷ filter test xs) (filter test xs)))) (ap test (sym item) ∙ passes)
      ∙ first_false (is_provable slots params (make y)) (shown (map make (filter test xs)))
      (ap (λ z. is_provable slots params (make z)) (sym item) ∙ e)
  item_fails make test (y ∷ xs) (suc i) x less item passes e =
      let inner : i < length xs = omega arith in
      let rest = item_fails make test xs i x inner item passes e in
      elim (test y) as (λ b. shown (map make (cond b (y ∷ filter test xs) (filter test xs))) ≡ false) [
        | true ↦ second_false (is_provable slots params (make y)) (shown (map make (filter test xs))) rest
        | false ↦ rest
      ]

  pub filter_fails : {X : Type 0} (T U : Type 0) (error : RuleError) (make : X → CForm) (test : X → Bool)
      (xs : List X) (i : ℕ) (x : X) (form : CForm) (b : Bool) (old mid new : List Obligation) → i < length xs →
      x ≡ slice_index_or xs i x → b ≡ test x → b ≡ true → form ≡ make x →
      Added {T = T} (Err error) mid new slots params (form ∷ []) →
      Added {T = U} (Err error) old new slots params (map make (filter test xs))
  filter_fails T U RuleError.Memory make test xs i x form b old mid new less item tested passes is added = tt
  filter_fails T U (RuleError.Fault code) make test xs i x form b old mid new less item tested passes is added = (
    added.0,
    item_fails make test xs i x less item (sym tested ∙ passes)
        (ap (is_provable slots params) (sym is) ∙ one_false (is_provable slots params form) added.1),
  )

  pub filter_added : {X T : Type 0} (done : T) (make : X → CForm) (test : X → Bool) (xs : List X) (i : ℕ)
      (old new : List Obligation) → take i xs ≡ xs → AddedFor slots params make (filter test (take i xs)) old new →
      Added (Ok done) old new slots params (map make (filter test xs))
  filter_added done make test xs i old new whole added =
      let here = subst (λ ys. AddedFor slots params make (filter test ys) old new) whole added in
      (here.goals, here.small_so_far)

  -- no formula at all
  pub nothing_added : {T : Type 0} (done : T) (old new : List Obligation) → new ≡ old →
      Added (Ok done) old new slots params []
  nothing_added done old new same = (same ∙ sym (nil_after old), refl)
