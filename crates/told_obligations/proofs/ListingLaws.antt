-- Steps and obligations that are told one after the other.
use Rattle.std.proofs.Common.{◌≡◌, ◌+◌, ◌-◌, ◌<◌, ◌≤◌, ◌++◌, ℕ, zero, suc, nat_eq, nat_lt, Bool, true, false, cond, List, [], ◌∷◌}
use Rattle.std.proofs.Common.{Option, Some, None, slice_get, refl, sym, ap, ◌∙◌, subst, length, take, drop, get_or, arith}
use Rattle.std.proofs.Common.{append_assoc, append-nil, eq-eqb}
use Rattle.std.proofs.Math.Seq.{take-suc}
use Rattle.std.proofs.lemmas.Grind.{flat_map-append}
use Rattle.std.proofs.lemmas.Bool.{eqb-true}
use Rattle.std.proofs.lemmas.Option.{slice_get_read, slice_get_past}
use Rattle.std.specs.List.{flat_map}
use Rattle.std.specs.Option.{option_map_or}
use Rattle.core_terms.specs.declared.documents.CStep.{CStep}
use Rattle.fair_rounds.specs.declared.records.Record.{Record}
use Rattle.schedule_replay.specs.declared.buffer.Buffer.{Buffer}
use Rattle.schedule_replay.specs.Buffered.{IsPut}
use Rattle.schedule_replay.proofs.BufferLaws.{put_nothing, put_then, put_same}
use Rattle.told_obligations.specs.declared.listing.At.{At}
use Rattle.told_obligations.specs.Listing.{Told, own, obligation_text, obligations_from, step_line, step_text, steps_text}
use Rattle.told_obligations.specs.Following.{IsTold}

-- an item of a slice, and none past its end
pub known_at : {X : Type 0} (xs : List X) (i : ℕ) (x : X) → true ≡ nat_lt i (length xs) → x ≡ get_or xs i x →
    slice_get xs i ≡ Some x
known_at xs i x less is = slice_get_read xs (length xs) i x refl (grind (arith, less)) is

pub none_at : {X : Type 0} (xs : List X) (i : ℕ) → false ≡ nat_lt i (length xs) → slice_get xs i ≡ None
none_at xs i past = slice_get_past xs i (grind (arith, past))

-- one more of a list's items
pub take_one : {X : Type 0} (xs : List X) (i : ℕ) (x : X) → i < length xs → x ≡ get_or xs i x →
    take i xs ++ x ∷ [] ≡ take (i + 1) xs
take_one xs i x h is =
    let one : suc i ≡ i + 1 = omega arith in
    ap (λ y. take i xs ++ y ∷ []) is ∙ sym (take-suc xs i x h) ∙ ap (λ k. take k xs) one

-- and what comes of it
pub flat_one : {X Y : Type 0} (f : X → List Y) (xs : List X) (i : ℕ) (x : X) → i < length xs → x ≡ get_or xs i x →
    flat_map f (take i xs) ++ f x ≡ flat_map f (take (i + 1) xs)
flat_one f xs i x h is =
    ap (λ t. flat_map f (take i xs) ++ t) (sym (append-nil (f x)))
    ∙ sym (flat_map-append f (take i xs) (x ∷ []))
    ∙ ap (flat_map f) (take_one xs i x h is)

-- one more obligation
obligations_next : (t : Told) (r : Record) (params : List ℕ) (number count : ℕ) →
    obligations_from t r params number count ++ obligation_text t r params (number + count)
    ≡ obligations_from t r params number (suc count)
obligations_next t r params number zero =
    let same : number + zero ≡ number = omega arith in
    ap (obligation_text t r params) same ∙ sym (append-nil (obligation_text t r params number))
obligations_next t r params number (suc count) =
    let same : number + suc count ≡ suc number + count = omega arith in
    ap (λ k. (obligation_text t r params number ++ obligations_from t r params (suc number) count)
    ++ obligation_text t r params k) same
    ∙ append_assoc (obligation_text t r params number) (obligations_from t r params (suc number) count)
    (obligation_text t r params (suc number + count))
    ∙ ap (λ rest. obligation_text t r params number ++ rest) (obligations_next t r params (suc number) count)

pub obligations_more : (t : Told) (r : Record) (params : List ℕ) (first next : ℕ) → first ≤ next →
    obligations_from t r params first (next - first) ++ obligation_text t r params next
    ≡ obligations_from t r params first (next + 1 - first)
obligations_more t r params first next h =
    let here : first + (next - first) ≡ next = omega (arith, h) in
    let more : suc (next - first) ≡ next + 1 - first = omega (arith, h) in
    ap (λ k. obligations_from t r params first (next - first) ++ obligation_text t r params k) (sym here)
    ∙ obligations_next t r params first (next - first)
    ∙ ap (obligations_from t r params first) more

same_number : (x y : ℕ) → x ≡ y → nat_eq x y ≡ true
same_number x y e = ap (λ z. nat_eq z y) e ∙ eq-eqb y y refl

own_suc : (step : ℕ) (owners : List ℕ) (n : ℕ) (d : ℕ) → n < length owners → get_or owners n d ≡ step →
    own step (drop n owners) ≡ suc (own step (drop (suc n) owners))
own_suc step [] n d h is = absurd (omega (arith, h))
own_suc step (x ∷ xs) zero d h is = ap (λ b. cond b (suc (own step xs)) 0) (same_number x step is)
own_suc step (x ∷ xs) (suc n) d h is = own_suc step xs n d (omega (arith, h)) is

-- the next obligation is the step's
pub own_next : (step : ℕ) (owners : List ℕ) (n : ℕ) (d : ℕ) → n < length owners → get_or owners n d ≡ step →
    own step (drop n owners) ≡ suc (own step (drop (n + 1) owners))
own_next step owners n d h is =
    let same : suc n ≡ n + 1 = omega arith in
    own_suc step owners n d h is ∙ ap (λ k. suc (own step (drop k owners))) same

none_own : (step n : ℕ) → own step (drop {A = ℕ} n []) ≡ 0
none_own step zero = refl
none_own step (suc n) = refl

-- it is not, or there is none
pub own_none : (step : ℕ) (owners : List ℕ) (n : ℕ) (d : ℕ) → (get_or owners n d ≡ step → ⊥) →
    own step (drop n owners) ≡ 0
own_none step [] n d differs = none_own step n
own_none step (x ∷ xs) zero d differs = by_test (nat_eq x step) refl
  where
    by_test : (b : Bool) → nat_eq x step ≡ b → own step (x ∷ xs) ≡ 0
    by_test true e = absurd (differs (eqb-true x step e))
    by_test false e = ap (λ b. cond b (suc (own step xs)) 0) e
own_none step (x ∷ xs) (suc n) d differs = own_none step xs n d differs

pub own_end : (step : ℕ) (owners : List ℕ) (n : ℕ) → length owners ≤ n → own step (drop n owners) ≡ 0
own_end step [] n h = none_own step n
own_end step (x ∷ xs) zero h = absurd (omega (arith, h))
own_end step (x ∷ xs) (suc n) h = own_end step xs n (omega (arith, h))

-- without a record nothing is told
none_told : (t : Told) (step number : ℕ) (steps : List CStep) → slice_get t.records step ≡ None →
    steps_text t step number steps ≡ []
none_told t step number [] h = refl
none_told t step number (s ∷ rest) h =
    ap (λ o. option_map_or (step_text t step number s (λ i n. steps_text t i n rest)) o []) h

-- no step
pub told_none : (t : Told) (at : At) (old : Option (List ℕ)) (before : ℕ) (b : Buffer) →
    IsTold t at at [] old old before before b b
told_none t at old before b = record {
  text = [];
  put = put_nothing old before b;
  next = λ rest. refl;
}

-- a step without a record
pub told_unknown : (t : Told) (at : At) (s : CStep) (old : Option (List ℕ)) (before : ℕ) (b : Buffer) →
    slice_get t.records at.step ≡ None → IsTold t at at (s ∷ []) old old before before b b
told_unknown t at s old before b h = record {
  text = [];
  put = put_nothing old before b;
  next = λ rest. none_told t at.step at.obligation (s ∷ rest) h ∙ sym (none_told t at.step at.obligation rest h);
}

-- a step with its record
module _ (t : Told) (at : At) (s : CStep) (r : Record) (params : List ℕ) (next : ℕ) where
  abbrev its : ℕ
  its = own at.step (drop at.obligation t.owner)

  pub told_one : {old new : Option (List ℕ)} {before after : ℕ} {b c : Buffer} →
      slice_get t.records at.step ≡ Some r → params ≡ s.param_names →
      next ≡ at.obligation + own at.step (drop at.obligation t.owner) →
      IsPut old new before after b c (step_line t at.step r ++ obligations_from t r params at.obligation
      (own at.step (drop at.obligation t.owner))) →
      IsTold t at (record { step = at.step + 1; obligation = next }) (s ∷ []) old new before after b c
  told_one h params_are next_is put = record {
    text = step_line t at.step r ++ obligations_from t r params at.obligation its;
    put = put;
    next = λ rest.
        ap (λ o. option_map_or (step_text t at.step at.obligation s (λ i n. steps_text t i n rest)) o []) h
        ∙ ap (λ ps. step_line t at.step r ++ (obligations_from t r ps at.obligation its
        ++ steps_text t (at.step + 1) (at.obligation + its) rest)) (sym params_are)
        ∙ ap (λ n. step_line t at.step r ++ (obligations_from t r params at.obligation its
        ++ steps_text t (at.step + 1) n rest)) (sym next_is)
        ∙ sym (append_assoc (step_line t at.step r) (obligations_from t r params at.obligation its)
        (steps_text t (at.step + 1) next rest));
  }

-- some steps and then others
pub told_then : {t : Told} {from mid to : At} {xs ys : List CStep} {old between new : Option (List ℕ)}
    {before middle after : ℕ} {b c d : Buffer} → IsTold t from mid xs old between before middle b c →
    IsTold t mid to ys between new middle after c d → IsTold t from to (xs ++ ys) old new before after b d
told_then {t} {from} {mid} {to} {xs} {ys} one two = record {
  text = one.text ++ two.text;
  put = put_then one.put two.put;
  next = λ rest.
      ap (steps_text t from.step from.obligation) (append_assoc xs ys rest)
      ∙ one.next (ys ++ rest)
      ∙ ap (λ x. one.text ++ x) (two.next rest)
      ∙ sym (append_assoc one.text two.text (steps_text t to.step to.obligation rest));
}

pub told_same : {t : Told} {from to : At} {xs ys : List CStep} {old new : Option (List ℕ)} {before after : ℕ}
    {b c : Buffer} → xs ≡ ys → IsTold t from to xs old new before after b c →
    IsTold t from to ys old new before after b c
told_same {t} {from} {to} {xs} {ys} {old} {new} {before} {after} {b} {c} e told =
    subst (λ s. IsTold t from to s old new before after b c) e told

-- all steps
pub told_all : {t : Told} {to : At} {old new : Option (List ℕ)} {before after : ℕ} {b c : Buffer}
    (from : At) (steps : List CStep) → IsTold t from to steps old new before after b c →
    IsPut old new before after b c (steps_text t from.step from.obligation steps)
told_all {t} {to} from steps told =
    put_same (sym (ap (steps_text t from.step from.obligation) (sym (append-nil steps)) ∙ told.next []
    ∙ append-nil told.text)) told.put
