-- Operations of two kinds that differ by one word: a sum or a difference, a test against 0, and two truths joined.
use Rattle.core_terms.specs.declared.known.Pairing.{Pairing}
use Rattle.core_terms.specs.declared.known.Sense.{Sense}
use Rattle.core_terms.specs.declared.known.Joining.{Joining}
use Rattle.core_terms.specs.Senses.{paired_term, sense_form, joined_form}
use Rattle.expand_rules.specs.declared.cores.Formed.{Formed}
use Rattle.expand_rules.specs.Measures.{sum_measure, over_measure, pair_measure}
use Rattle.expand_rules.specs.Forming.{number_core, truth_core, term_of, form_of, as_number, as_truth, through, both}

-- a sum or a difference of two numbers
abbrev pub paired : Pairing → Formed → Formed → Formed
paired which a b =
    both (λ x y. number_core (paired_term which (term_of x) (term_of y))) sum_measure (as_number a) (as_number b)

-- that a number is at least 0, or that it is 0
abbrev pub sensed : Sense → Formed → Formed
sensed sense a = through (λ x. truth_core (sense_form sense (term_of x))) over_measure (as_number a)

-- that two truths hold, or that one of them does
abbrev pub joined : Joining → Formed → Formed → Formed
joined joining a b =
    both (λ x y. truth_core (joined_form joining (form_of x) (form_of y))) pair_measure (as_truth a) (as_truth b)
