-- What one choice more does to the count of rounds.
use Rattle.std.proofs.Common.{◌≡◌, ℕ, zero, suc, ◌+◌, ◌<◌, ◌≤◌, List, [], ◌∷◌, ◌++◌, Bool, true, false, cond, ◌||◌}
use Rattle.std.proofs.Common.{refl, nat_eq, arith, sym, ap, ◌∙◌, inl, inr, length}
use Rattle.std.specs.Prelude.{◌≢◌, ◌⊎◌}
use Rattle.std.specs.List.{list_any}
use Rattle.std.proofs.lemmas.Bool.{ne_eqb}
use Rattle.std.proofs.lemmas.Bool.Decides.{eqb_tells}
use Rattle.meaning_laws.specs.from_meaning_executions.Rounds.{has_all, unfinished, one_more, rounds_since, rounds}
use Rattle.meaning_laws.specs.RoundSums.{unfinished_after}
use Rattle.meaning_laws.proofs.RoundSumTheorems.{rounds_of_joined}
use Rattle.fair_rounds.specs.Counts.{since_round, missing}

-- the choices since the last round, with one more
pub since_longer : (k : ℕ) (since choices : List ℕ) (c : ℕ) →
    unfinished_after k since (choices ++ c ∷ []) ≡ unfinished k (c ∷ unfinished_after k since choices)
since_longer k since [] c = refl
since_longer k since (d ∷ choices) c = since_longer k (unfinished k (d ∷ since)) choices c

-- and the rounds
pub rounds_longer : (k : ℕ) (choices : List ℕ) (c : ℕ) →
    rounds (choices ++ c ∷ []) k ≡ rounds choices k + one_more (has_all k (c ∷ since_round k choices)) 0
rounds_longer k choices c = rounds_of_joined k [] choices (c ∷ [])

not_done : (k : ℕ) (since : List ℕ) (b : Bool) → 0 < k → has_all k since ≡ b → has_all k (cond b [] since) ≡ false
not_done zero since b some e = absurd (omega arith)
not_done (suc k) since true some e = refl
not_done (suc k) since false some e = e

-- since the last round ended, not every instance was chosen
pub never_done : (k : ℕ) (since choices : List ℕ) → 0 < k → has_all k since ≡ false →
    has_all k (unfinished_after k since choices) ≡ false
never_done k since [] some e = e
never_done k since (c ∷ choices) some e =
    never_done k (unfinished k (c ∷ since)) choices some (not_done k (c ∷ since) (has_all k (c ∷ since)) some refl)

none_done : (k : ℕ) → 0 < k → has_all k [] ≡ false
none_done zero some = absurd (omega arith)
none_done (suc k) some = refl

pub round_goes_on : (k : ℕ) (choices : List ℕ) → 0 < k → has_all k (since_round k choices) ≡ false
round_goes_on k choices some = never_done k [] choices some (none_done k some)

-- a choice that was among them adds nothing
or_same : (n c : ℕ) (S : List ℕ) → list_any (nat_eq c) S ≡ true →
    (nat_eq n c || list_any (nat_eq n) S) ≡ list_any (nat_eq n) S
or_same n c S there = split (eqb_tells n c)
  where
    split : (((nat_eq n c ≡ true) × (n ≡ c)) ⊎ ((nat_eq n c ≡ false) × (n ≢ c))) →
        (nat_eq n c || list_any (nat_eq n) S) ≡ list_any (nat_eq n) S
    split (inl same) = rw same.0 (sym (ap (λ m. list_any (nat_eq m) S) same.1 ∙ there))
    split (inr other) = rw other.0 refl

pub same_among : (n c : ℕ) (S : List ℕ) → list_any (nat_eq c) S ≡ true →
    list_any (nat_eq n) (c ∷ S) ≡ list_any (nat_eq n) S
same_among n c S there = or_same n c S there

pub same_full : (k c : ℕ) (S : List ℕ) → list_any (nat_eq c) S ≡ true → has_all k (c ∷ S) ≡ has_all k S
same_full zero c S there = refl
same_full (suc k) c S there = rw (same_among k c S there, same_full k c S there) refl

pub same_missing : (k c : ℕ) (S : List ℕ) → list_any (nat_eq c) S ≡ true → missing k (c ∷ S) ≡ missing k S
same_missing zero c S there = refl
same_missing (suc k) c S there = rw (same_among k c S there, same_missing k c S there) refl

-- a choice that was not is missing no longer
pub missing_above : (k c : ℕ) (S : List ℕ) → k ≤ c → missing k (c ∷ S) ≡ missing k S
missing_above zero c S above = refl
missing_above (suc k) c S above =
    rw (ne_eqb k c (λ e. omega arith), missing_above k c S (omega arith)) refl

-- by whether the last instance is the one that is chosen
one_less_last : (k c : ℕ) (S : List ℕ) → c < suc k → list_any (nat_eq c) S ≡ false →
    (c < k → missing k S ≡ suc (missing k (c ∷ S))) →
    (((nat_eq k c ≡ true) × (k ≡ c)) ⊎ ((nat_eq k c ≡ false) × (k ≢ c))) →
    missing (suc k) S ≡ suc (missing (suc k) (c ∷ S))
one_less_last k c S below new rest (inl same) =
    rw (same.0, missing_above k c S (omega arith), ap (λ m. list_any (nat_eq m) S) same.1 ∙ new) refl
one_less_last k c S below new rest (inr other) = rw other.0 (inner (rest (not_last other.1)) (list_any (nat_eq k) S))
  where
    not_last : k ≢ c → c < k
    not_last apart = omega arith

    inner : missing k S ≡ suc (missing k (c ∷ S)) → (b : Bool) →
        cond b (missing k S) (suc (missing k S)) ≡ suc (cond b (missing k (c ∷ S)) (suc (missing k (c ∷ S))))
    inner less true = less
    inner less false = ap suc less

pub one_less : (k c : ℕ) (S : List ℕ) → c < k → list_any (nat_eq c) S ≡ false →
    missing k S ≡ suc (missing k (c ∷ S))
one_less zero c S below new = absurd (omega arith)
one_less (suc k) c S below new =
    one_less_last k c S below new (λ less. one_less k c S less new) (eqb_tells k c)

-- a round is full where none is missing
full_last : (k : ℕ) (S : List ℕ) → missing (suc k) S ≡ 0 → (missing k S ≡ 0 → has_all k S ≡ true) →
    (b : Bool) → list_any (nat_eq k) S ≡ b → has_all (suc k) S ≡ true
full_last k S none rest true e = let less : missing k S ≡ 0 = rw e at none in rw e (rest less)
full_last k S none rest false e = let some : suc (missing k S) ≡ 0 = rw e at none in absurd (omega arith)

pub full_where : (k : ℕ) (S : List ℕ) → missing k S ≡ 0 → has_all k S ≡ true
full_where zero S none = refl
full_where (suc k) S none = full_last k S none (λ less. full_where k S less) (list_any (nat_eq k) S) refl

not_full_last : (k : ℕ) (S : List ℕ) → 0 < missing (suc k) S → (0 < missing k S → has_all k S ≡ false) →
    (b : Bool) → list_any (nat_eq k) S ≡ b → has_all (suc k) S ≡ false
not_full_last k S some rest true e = let less : 0 < missing k S = rw e at some in rw e (rest less)
not_full_last k S some rest false e = rw e refl

pub not_full_where : (k : ℕ) (S : List ℕ) → 0 < missing k S → has_all k S ≡ false
not_full_where zero S some = absurd (omega arith)
not_full_where (suc k) S some = not_full_last k S some (λ less. not_full_where k S less) (list_any (nat_eq k) S) refl

pub missing_none : (k : ℕ) → missing k [] ≡ k
missing_none zero = refl
missing_none (suc k) = ap suc (missing_none k)

-- as many rounds as choices at most
one_choice_more : (b : Bool) (m n : ℕ) → m ≤ n → one_more b m ≤ suc n
one_choice_more true m n less = omega arith
one_choice_more false m n less = omega arith

pub few_rounds : (k : ℕ) (since choices : List ℕ) → rounds_since k since choices ≤ length choices
few_rounds k since [] = omega arith
few_rounds k since (c ∷ choices) =
    one_choice_more (has_all k (c ∷ since)) _ _ (few_rounds k (unfinished k (c ∷ since)) choices)

-- a choice with which no round ends
pub record SameRound (k c : ℕ) (choices : List ℕ) : Type 0 where
  pub since : since_round k (choices ++ c ∷ []) ≡ c ∷ since_round k choices
  pub rounds_are : rounds (choices ++ c ∷ []) k ≡ rounds choices k

pub same_round : (k c : ℕ) (choices : List ℕ) → has_all k (c ∷ since_round k choices) ≡ false → SameRound k c choices
same_round k c choices e = record {
  since = since_longer k [] choices c ∙ ap (λ b. cond b [] (c ∷ since_round k choices)) e;
  rounds_are =
      rounds_longer k choices c ∙ ap (λ b. rounds choices k + one_more b 0) e ∙ no_more (rounds choices k);
}
  where
    no_more : (n : ℕ) → n + 0 ≡ n
    no_more n = omega arith

-- a choice with which a round ends
pub record NewRound (k c : ℕ) (choices : List ℕ) : Type 0 where
  pub since : since_round k (choices ++ c ∷ []) ≡ []
  pub rounds_are : rounds (choices ++ c ∷ []) k ≡ rounds choices k + 1

pub new_round : (k c : ℕ) (choices : List ℕ) → has_all k (c ∷ since_round k choices) ≡ true → NewRound k c choices
new_round k c choices e = record {
  since = since_longer k [] choices c ∙ ap (λ b. cond b [] (c ∷ since_round k choices)) e;
  rounds_are = rounds_longer k choices c ∙ ap (λ b. rounds choices k + one_more b 0) e;
}
