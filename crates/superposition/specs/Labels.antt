-- Which labels stand at the same places of two programs.
use Rattle.std.specs.Prelude.{◌≡◌, ℕ, nat_eq, Bool, cond, ◌++◌, List, [], ◌∷◌, Option, Some, None}
use Rattle.std.specs.Prelude.{IsTrue, slice_index_or}
use Rattle.std.specs.List.{list_any}
use Rattle.std.specs.Option.{is_some}
use Rattle.safety_rules.specs.from_rules_table.Layers.{same_pattern}

-- the label that is noted for this one
abbrev pub partner_in : List (Option ℕ) → ℕ → Option ℕ
partner_in table label = slice_index_or table label None

-- what the first pair with this key has
abbrev pub first_by : (ℕ × ℕ → ℕ) → (ℕ × ℕ → ℕ) → List (ℕ × ℕ) → ℕ → Option ℕ
first_by key value [] n = None
first_by key value (a ∷ rest) n = cond (nat_eq (key a) n) (Some (value a)) (first_by key value rest n)

-- the label over this one, at the first place that has it below
abbrev pub first_over : List (ℕ × ℕ) → ℕ → Option ℕ
first_over = first_by (λ a. a.0) (λ a. a.1)

-- the label below this one, at the first place that has it above
abbrev pub first_below : List (ℕ × ℕ) → ℕ → Option ℕ
first_below = first_by (λ a. a.1) (λ a. a.0)

-- two tables have what these pairs of labels say
pub record NotesLabels (pairs : List (ℕ × ℕ)) (over below : List (Option ℕ)) : Type 0 where
  pub over_is : (label : ℕ) → partner_in over label ≡ first_over pairs label
  pub below_is : (label : ℕ) → partner_in below label ≡ first_below pairs label

-- the test tells whether one pair more has the pattern, and then the tables have it too
pub record NotesMore (pairs : List (ℕ × ℕ)) (pair : ℕ × ℕ) (over below : List (Option ℕ)) (told : Bool) :
    Type 0 where
  pub tells : told ≡ same_pattern (pairs ++ pair ∷ [])
  pub noted : IsTrue told → NotesLabels (pairs ++ pair ∷ []) over below

-- a table has notes of these labels alone
abbrev pub TellsTaken : List (Option ℕ) → List ℕ → Type 0
TellsTaken table labels = (label : ℕ) → is_some (partner_in table label) ≡ list_any (λ n. nat_eq n label) labels
