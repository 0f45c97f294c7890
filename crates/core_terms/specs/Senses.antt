-- Nodes of two kinds that differ by one word: a sum or a difference, a quotient or a remainder, a test against 0, and
-- two formulas joined.
use Rattle.std.specs.Prelude.{ℤ}
use Rattle.core_terms.specs.declared.trees.CTerm.{CTerm}
use Rattle.core_terms.specs.declared.trees.CTerm.TheVariants.{Add, Sub, Div, Mod}
use Rattle.core_terms.specs.declared.trees.CForm.{CForm}
use Rattle.core_terms.specs.declared.trees.CForm.TheVariants.{AtLeast, Zero, And, Or}
use Rattle.core_terms.specs.declared.known.Pairing.{Pairing}
use Rattle.core_terms.specs.declared.known.Dividing.{Dividing}
use Rattle.core_terms.specs.declared.known.Sense.{Sense}
use Rattle.core_terms.specs.declared.known.Joining.{Joining}
use Rattle.core_terms.specs.Folding.{folded_term, folded_form}
use Rattle.core_terms.specs.Weights.{Weights, quotient_weights, remainder_weights}

-- a sum or a difference
abbrev pub pair_node : Pairing → CTerm → CTerm → CTerm
pair_node Pairing.Sum a b = Add a b
pair_node Pairing.Difference a b = Sub a b

-- a quotient or a remainder
abbrev pub divided_node : Dividing → CTerm → ℤ → CTerm
divided_node Dividing.Quotient a k = Div a k
divided_node Dividing.Remainder a k = Mod a k

-- that a term is at least 0, or that it is 0
abbrev pub sense_node : Sense → CTerm → CForm
sense_node Sense.AtLeast t = AtLeast t
sense_node Sense.Zero t = Zero t

-- that two formulas hold, or that one of them does
abbrev pub joined_node : Joining → CForm → CForm → CForm
joined_node Joining.Both f g = And f g
joined_node Joining.Either f g = Or f g

-- a sum or a difference, folded
abbrev pub paired_term : Pairing → CTerm → CTerm → CTerm
paired_term which a b = folded_term (pair_node which a b)

-- a quotient or a remainder, folded
abbrev pub divided_term : Dividing → ℤ → CTerm → CTerm
divided_term which k a = folded_term (divided_node which a k)

-- that a term is at least 0, or that it is 0, folded
abbrev pub sense_form : Sense → CTerm → CForm
sense_form sense t = folded_form (sense_node sense t)

-- that two formulas hold, or that one of them does, folded
abbrev pub joined_form : Joining → CForm → CForm → CForm
joined_form joining f g = folded_form (joined_node joining f g)

-- the weights of a quotient or a remainder
abbrev pub divided_weights : Dividing → ℤ → Weights → Weights
divided_weights Dividing.Quotient k a = quotient_weights k a
divided_weights Dividing.Remainder k a = remainder_weights k a
