-- What stands in the table of written slots.
use Rattle.std.specs.Prelude.{◌≡◌, ℕ, ◌≤◌, ◌^◌, Option, Some, None, MatchOption}
use Rattle.std.specs.Ordering.{nat_cmp}
use Rattle.std.specs.BTreeMap.{BTreeMap, get}
use Rattle.core_terms.specs.declared.trees.CTerm.{CTerm}
use Rattle.core_terms.specs.declared.trees.CTerm.TheVariants.{Slot, Param}
use Rattle.core_terms.specs.declared.trees.CForm.{CForm}
use Rattle.core_terms.specs.Weights.{Weights, one_weight, term_weights, form_weight, plain_weights}
use Rattle.core_terms.specs.Folding.{number_of, choice_term}
use Rattle.core_terms.specs.Replacing.{term_with, form_with}
use Rattle.wp_substitution.specs.declared.chains.Chain.{Chain}

-- the number beside a slot's term is the term's, and the term weighs little
pub record IsChain (c : Chain) : Type 0 where
  pub number : c.number ≡ number_of c.term
  pub own : (plain_weights c.term).own ≤ 2 ^ 62
  pub most : (plain_weights c.term).most ≤ 2 ^ 62

abbrev pub chain_or : ℕ → Option Chain → CTerm
chain_or n None = Slot n
chain_or n (Some c) = c.term

-- the term of a slot; one that is not in the table stays as it is
abbrev pub chain_at : BTreeMap ℕ Chain → ℕ → CTerm
chain_at chains n = chain_or n (get nat_cmp chains n)

-- all that stands in the table is right
abbrev pub AreChains : BTreeMap ℕ Chain → Type 0
AreChains chains = (n : ℕ) → MatchOption (get nat_cmp chains n) (Unit {0}) IsChain

-- a formula and a term with each slot replaced by its term
abbrev pub form_by : BTreeMap ℕ Chain → CForm → CForm
form_by chains = form_with (chain_at chains) (λ n. Param n)

abbrev pub term_by : BTreeMap ℕ Chain → CTerm → CTerm
term_by chains = term_with (chain_at chains) (λ n. Param n)

-- a choice with each slot replaced by its term
abbrev pub choice_by : BTreeMap ℕ Chain → CForm → CTerm → CTerm → CTerm
choice_by chains c a b = choice_term (form_by chains c) (term_by chains a) (term_by chains b)

-- what a slot's term weighs at most
abbrev pub chain_weight : ℕ → ℕ
chain_weight n = 2 ^ 62

-- what trees weigh at most after slots are replaced, where slots and parameters weigh 1
abbrev pub after_weights : CTerm → Weights
after_weights = term_weights chain_weight one_weight

abbrev pub after_weight : CForm → ℕ
after_weight = form_weight chain_weight one_weight
