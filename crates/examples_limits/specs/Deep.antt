-- Trees over slot 0 alone, with small numbers however deep they are: they weigh at most 1 where slot 0 is 0 or
-- weighs 1, and their load and their need are as small.
use Rattle.std.specs.Prelude.{◌≤◌, pos, [], ◌∷◌}
use Rattle.core_terms.specs.declared.trees.CTerm.{CTerm}
use Rattle.core_terms.specs.declared.trees.CForm.{CForm}
use Rattle.core_terms.specs.Weights.{term_weights, form_weight, number_weight, plain_weights, plain_weight}
use Rattle.core_terms.specs.Places.{term_slots, form_slots, term_params, form_params}
use Rattle.obligations.specs.Load.{form_load, term_load, need, term_need}

-- a term names at most slot 0 and no parameter, weighs at most 1, and has a load of at most 2 and a need of at most 3
pub record IsDeepTerm (t : CTerm) : Type 0 where
  pub slots : term_slots t ≤ 1
  pub params : term_params t ≤ 0
  pub own : (term_weights (number_weight (pos 0 ∷ [])) (number_weight []) t).own ≤ 1
  pub most : (term_weights (number_weight (pos 0 ∷ [])) (number_weight []) t).most ≤ 1
  pub plain_own : (plain_weights t).own ≤ 1
  pub plain_most : (plain_weights t).most ≤ 1
  pub load : (term_load t).own ≤ 2
  pub most_load : (term_load t).most ≤ 2
  pub need : (term_need t).own ≤ 2
  pub most_need : (term_need t).most ≤ 3

-- a formula names at most slot 0 and no parameter, weighs at most 1, and has a load of at most 2 and a need of at
-- most 3, as it stands and negated
pub record IsDeepForm (f : CForm) : Type 0 where
  pub slots : form_slots f ≤ 1
  pub params : form_params f ≤ 0
  pub weight : form_weight (number_weight (pos 0 ∷ [])) (number_weight []) f ≤ 1
  pub plain : plain_weight f ≤ 1
  pub load : form_load f ≤ 2
  pub yes : (need f).yes ≤ 3
  pub no : (need f).no ≤ 3
