-- Which equation two cores have.
use Rattle.std.proofs.Common.{◌≡◌, true, false, ◌&&◌, refl}
use Rattle.expand_rules.specs.declared.cores.Core.{Core}
use Rattle.expand_rules.specs.declared.cores.Formed.{Formed}
use Rattle.expand_rules.specs.Forming.{difference, is_zero, conjunction, implication, equation_by, equation}
use Rattle.expand_expressions.specs.Sound.{is_truth_core}

truths : (c d : Core) (a b : Formed) → is_truth_core c ≡ true → is_truth_core d ≡ true →
    equation_by c d a b ≡ conjunction (implication a b) (implication b a)
truths (Core.Truth f k) (Core.Truth g l) a b h i = refl
truths (Core.Truth f k) (Core.Number t l) a b h i = cc i
truths (Core.Number t k) d a b h i = cc h

numbers : (c d : Core) (a b : Formed) → (is_truth_core c && is_truth_core d) ≡ false →
    equation_by c d a b ≡ is_zero (difference a b)
numbers (Core.Truth f k) (Core.Truth g l) a b h = cc h
numbers (Core.Truth f k) (Core.Number t l) a b h = refl
numbers (Core.Number t k) (Core.Truth g l) a b h = refl
numbers (Core.Number t k) (Core.Number u l) a b h = refl

pub equation_of_truths : (a b : Formed) → is_truth_core a.core ≡ true → is_truth_core b.core ≡ true →
    equation a b ≡ conjunction (implication a b) (implication b a)
equation_of_truths a b h i = truths a.core b.core a b h i

pub equation_of_numbers : (a b : Formed) → (is_truth_core a.core && is_truth_core b.core) ≡ false →
    equation a b ≡ is_zero (difference a b)
equation_of_numbers a b h = numbers a.core b.core a b h
