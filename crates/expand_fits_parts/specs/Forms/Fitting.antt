-- Where expressions stand whose core fits: what the words around them stand for names only slots and parameters
-- that are there, and weighs no more than they do.
use Rattle.std.specs.Prelude.{◌≡◌, ℕ, List, length, Bool, true, Some}
use Rattle.std.specs.Map.{lookup}
use Rattle.std.specs.Str.{bytes_eq}
use Rattle.meaning_documents.specs.Names.{Variable}
use Rattle.meaning_documents.specs.Names.{variable_named}
use Rattle.core_terms.specs.declared.programs.CSlot.{CSlot}
use Rattle.core_terms.specs.declared.trees.Range.{Range}
use Rattle.core_terms.specs.Conditions.{is_below}
use Rattle.core_terms.specs.Weights.{slot_weight, place_weight}
use Rattle.expand_rules.specs.declared.cores.Bound.{Bound}
use Rattle.expand_rules.specs.declared.cores.Formed.{Formed}
use Rattle.expand_rules.specs.Forming.{Scope}
use Rattle.expand_correct.specs.Values.WeightLaws.{ScopeWithin}
use Rattle.expand_fits_parts.specs.Forms.Naming.{SlotsPass, core_names_only}

-- all that the words of a scope stand for names only slots and parameters that pass tests
pub record ScopeNames (slots params : ℕ → Bool) (s : Scope) : Type 0 where
  pub variables : (word : List ℕ) (v : Variable) → variable_named word s.variables ≡ Some v → SlotsPass slots v
      v.indices
  pub bound : (word : List ℕ) (n weight : ℕ) → lookup (bytes_eq word) s.bound ≡ Some (Bound.Param n weight) →
      params n ≡ true
  pub always : (word : List ℕ) (a : Formed) → lookup (bytes_eq word) s.always ≡ Some a →
      core_names_only slots params a.core ≡ true

-- and only such as are there, and weighs no more
pub record ScopeFits (slots : List CSlot) (params : List Range) (s : Scope) : Type 0 where
  pub names : ScopeNames (is_below (length slots)) (is_below (length params)) s
  pub weighs : ScopeWithin (slot_weight slots) (place_weight params) s
