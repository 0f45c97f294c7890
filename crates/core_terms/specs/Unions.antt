-- The union of two programs.
use Rattle.std.specs.Prelude.{ℕ, ◌+◌, nat_eq, nat_le, nat_lt, ℤ, List, [], ◌∷◌, ◌++◌, filter, Bool, true, ◌&&◌, not}
use Rattle.std.specs.Prelude.{Some}
use Rattle.std.specs.List.{list_any}
use Rattle.core_terms.specs.declared.programs.CProgram.{CProgram}
use Rattle.core_terms.specs.Folding.{and_form}

-- a slot among rising ones, once and in its place
abbrev pub with_slot : List ℕ → ℕ → List ℕ
with_slot slots n = filter (λ x. nat_lt x n) slots ++ n ∷ filter (λ x. nat_lt n x) slots

-- the slots of two rising lists, each once, in slot order
abbrev pub merged : List ℕ → List ℕ → List ℕ
merged slots [] = slots
merged slots (n ∷ rest) = merged (with_slot slots n) rest

-- whether slots rise, from this number on
abbrev pub is_rising : ℕ → List ℕ → Bool
is_rising least [] = true
is_rising least (n ∷ rest) = nat_le least n && is_rising (n + 1) rest

-- whether a start section gives the slot a value
abbrev pub gives : List (ℕ × ℤ) → ℕ → Bool
gives start slot = list_any (λ e. nat_eq e.0 slot) start

-- the start values of the first, and of the second for slots that the first gives none
abbrev pub joined_start : List (ℕ × ℤ) → List (ℕ × ℤ) → List (ℕ × ℤ)
joined_start f g = f ++ filter (λ e. not (gives f e.0)) g

-- the union under this name: the first program's instances followed by the second's, and both initial conditions
abbrev pub joined_programs : ℕ → CProgram → CProgram → CProgram
joined_programs name f g = record {
  name = name;
  parts = Some (f.name, g.name);
  shown = merged f.shown g.shown;
  initially = and_form f.initially g.initially;
  start = joined_start f.start g.start;
  statements = f.statements ++ g.statements;
}
