use Rattle.std.proofs.Common.{IsTrue, subst}
use Rattle.core_terms.specs.Trees.{same_form}
use Rattle.core_terms.proofs.SameLaws.{same_form_is, same_form_self}
use Rattle.core_terms.proofs.laws.same_is_equal.Goals as goal

pub returns : goal.returns
returns c f g = (same_form_is f g, λ e. subst (λ h. IsTrue (same_form f h)) e (same_form_self f))
