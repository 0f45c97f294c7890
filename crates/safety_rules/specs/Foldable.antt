-- Formulas that can be joined and folded.
use Rattle.std.specs.Prelude.{◌≤◌, ◌^◌, List, [], ◌∷◌, Option, Some, None}
use Rattle.core_terms.specs.declared.trees.CForm.{CForm}
use Rattle.core_terms.specs.declared.trees.CForm.TheVariants.{Top, Bottom}
use Rattle.core_terms.specs.declared.known.Joining.{Joining}
use Rattle.core_terms.specs.Senses.{joined_form}
use Rattle.core_terms.specs.Weights.{plain_weight}
use Rattle.wp_substitution.specs.Joined.{or_top}
use Rattle.wp_substitution.specs.Preconditions.{all_of}
use Rattle.rules_table.specs.Forms.{any_of}

-- a formula that weighs at most 2^126, where slots and parameters weigh 1
abbrev pub IsFoldable : CForm → Type 0
IsFoldable f = plain_weight f ≤ 2 ^ 126

abbrev pub AreFoldable : Option CForm → Type 0
AreFoldable whole = IsFoldable (or_top whole)

-- a formula joined to those before it; alone, where there is none
abbrev pub gathered_with : Joining → Option CForm → CForm → CForm
gathered_with joining None f = f
gathered_with joining (Some g) f = joined_form joining g f

-- further formulas after the others
abbrev pub gathered_all : Joining → Option CForm → List CForm → Option CForm
gathered_all joining whole [] = whole
gathered_all joining whole (f ∷ fs) = gathered_all joining (Some (gathered_with joining whole f)) fs

-- what no formulas make, joined
abbrev pub gathered_none : Joining → CForm
gathered_none Joining.Both = Top
gathered_none Joining.Either = Bottom

-- the formula, and what no formulas make where there is none
abbrev pub gathered_or : Joining → Option CForm → CForm
gathered_or joining None = gathered_none joining
gathered_or joining (Some f) = f

-- that all formulas of a list hold, or that one of them does
abbrev pub gathered : Joining → List CForm → CForm
gathered Joining.Both fs = all_of fs
gathered Joining.Either fs = any_of fs
