-- What wrong bodies change of an answer.
use Rattle.std.specs.Prelude.{ℕ, List, [], ◌∷◌, Option, Some, None, Result, Ok, Err, slice_get, slice_set}
use Rattle.case_tables.specs.declared.kind_table.Kind.{Kind}
use Rattle.core_terms.specs.declared.trees.CForm.TheVariants.{Or}
use Rattle.obligations.specs.declared.branches.Obligation.{Obligation}
use Rattle.safety_rules.specs.declared.places.Derived.{Derived}
use Rattle.safety_rules.specs.declared.places.RuleError.{RuleError}

-- an answer with a change of what is derived
abbrev pub changed : (Derived → Derived) → Result Derived RuleError → Result Derived RuleError
changed f (Ok d) = Ok (f d)
changed f (Err error) = Err error

-- the rounds
abbrev pub rounds_of : Result Derived RuleError → ℕ
rounds_of (Ok d) = d.made.bound
rounds_of (Err error) = 0

-- with these rounds
abbrev pub with_bound : ℕ → Derived → Derived
with_bound bound d = record { made = record d.made { bound = bound }; obligations = d.obligations }

-- of this kind
abbrev pub with_kind : Kind → Derived → Derived
with_kind kind d = record { made = record d.made { kind = kind }; obligations = d.obligations }

-- its two sides in each other's place
abbrev pub turned : Derived → Derived
turned d = record { made = record d.made { p = d.made.q; q = d.made.p }; obligations = d.obligations }

-- with a change of what is left to be shown
abbrev pub with_goals : (List Obligation → List Obligation) → Derived → Derived
with_goals f d = record { made = d.made; obligations = f d.obligations }

abbrev pub less_first : List Obligation → List Obligation
less_first [] = []
less_first (o ∷ rest) = rest

-- what is left to be shown of an answer, and else these
abbrev pub goals_of : Result Derived RuleError → List Obligation → List Obligation
goals_of (Ok d) goals = d.obligations
goals_of (Err error) goals = goals

-- that one of two obligations holds
abbrev pub either : Obligation → Obligation → Obligation
either a b = record { form = Or a.form b.form; variables = b.variables }

abbrev pub either_set : ℕ → List Obligation → Obligation → Option Obligation → List Obligation
either_set place goals other None = goals
either_set place goals other (Some one) = slice_set goals place (either one other)

-- with the one at this place or the other
abbrev pub either_at : ℕ → List Obligation → Obligation → List Obligation
either_at place goals other = either_set place goals other (slice_get goals place)
