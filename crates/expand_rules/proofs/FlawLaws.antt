-- What fails in several parts.
use Rattle.std.proofs.Common.{◌≡◌, ℕ, min, Option, Some, None, refl, ap, ◌∙◌, arith, true, false, cond, nat_le}
use Rattle.core_terms.specs.from_case_tables.declared.code_table.Code.{Code}
use Rattle.names_rules.specs.Reading.{Fault}
use Rattle.expand_rules.specs.declared.cores.Flaws.{Flaws}
use Rattle.expand_rules.specs.Measures.{nearer, no_flaws, both_flaws}
use Rattle.expand_rules.specs.Lists.{fault_at, sooner, flaws_fault}

-- places

pub nearer_none : (a : Option ℕ) → nearer a None ≡ a
nearer_none None = refl
nearer_none (Some x) = refl

min_assoc : (x y z : ℕ) → min x (min y z) ≡ min (min x y) z
min_assoc x y z = omega arith

min_swap : (x y z : ℕ) → min x (min y z) ≡ min y (min x z)
min_swap x y z = omega arith

min_turns : (x y : ℕ) → min x y ≡ min y x
min_turns x y = omega arith

pub nearer_assoc : (a b c : Option ℕ) → nearer a (nearer b c) ≡ nearer (nearer a b) c
nearer_assoc None b c = refl
nearer_assoc (Some x) None c = refl
nearer_assoc (Some x) (Some y) None = refl
nearer_assoc (Some x) (Some y) (Some z) = ap (λ n. Some n) (min_assoc x y z)

pub nearer_swap : (a b c : Option ℕ) → nearer a (nearer b c) ≡ nearer b (nearer a c)
nearer_swap None b c = refl
nearer_swap (Some x) None c = refl
nearer_swap (Some x) (Some y) None = ap (λ n. Some n) (min_turns x y)
nearer_swap (Some x) (Some y) (Some z) = ap (λ n. Some n) (min_swap x y z)

pub nearer_first : (a b : Option ℕ) → nearer a b ≡ None → a ≡ None
nearer_first None b h = refl
nearer_first (Some x) None h = h
nearer_first (Some x) (Some y) h = absurd (cc h)

pub nearer_second : (a b : Option ℕ) → nearer a b ≡ None → b ≡ None
nearer_second None b h = h
nearer_second (Some x) None h = refl
nearer_second (Some x) (Some y) h = absurd (cc h)

-- flaws

pub flaws_are : (a b : Flaws) → a.range ≡ b.range → a.divisor ≡ b.divisor → a ≡ b
flaws_are a b h k = ap (λ r. record { range = r; divisor = a.divisor }) h ∙
    ap (λ d. record { range = b.range; divisor = d }) k

pub flaws_none : (a : Flaws) → both_flaws a no_flaws ≡ a
flaws_none a = flaws_are (both_flaws a no_flaws) a (nearer_none a.range) (nearer_none a.divisor)

pub flaws_assoc : (a b c : Flaws) → both_flaws a (both_flaws b c) ≡ both_flaws (both_flaws a b) c
flaws_assoc a b c = flaws_are (both_flaws a (both_flaws b c)) (both_flaws (both_flaws a b) c)
    (nearer_assoc a.range b.range c.range) (nearer_assoc a.divisor b.divisor c.divisor)

pub flaws_swap : (a b c : Flaws) → both_flaws a (both_flaws b c) ≡ both_flaws b (both_flaws a c)
flaws_swap a b c = flaws_are (both_flaws a (both_flaws b c)) (both_flaws b (both_flaws a c))
    (nearer_swap a.range b.range c.range) (nearer_swap a.divisor b.divisor c.divisor)

pub flaws_first : (a b : Flaws) → both_flaws a b ≡ no_flaws → a ≡ no_flaws
flaws_first a b h = flaws_are a no_flaws (nearer_first a.range b.range (ap (λ (f : Flaws). f.range) h))
    (nearer_first a.divisor b.divisor (ap (λ (f : Flaws). f.divisor) h))

pub flaws_second : (a b : Flaws) → both_flaws a b ≡ no_flaws → b ≡ no_flaws
flaws_second a b h = flaws_are b no_flaws (nearer_second a.range b.range (ap (λ (f : Flaws). f.range) h))
    (nearer_second a.divisor b.divisor (ap (λ (f : Flaws). f.divisor) h))

-- no fault of what fails, then nothing does

one_stands : (f g : Fault) → sooner (Some f) (Some g) ≡ None → ⊥
one_stands f g h = elim (nat_le f.at g.at) as (λ v. cond v (Some f) (Some g) ≡ None → ⊥) [
  | true ↦ λ e. cc e
  | false ↦ λ e. cc e
] h

no_fault : (r d : Option ℕ) → sooner (fault_at Code.BadRange r) (fault_at Code.BadDivisor d) ≡ None →
    (r ≡ None) × (d ≡ None)
no_fault None None h = (refl, refl)
no_fault None (Some y) h = absurd (cc h)
no_fault (Some x) None h = absurd (cc h)
no_fault (Some x) (Some y) h = absurd (one_stands (record { code = Code.BadRange; at = x })
    (record { code = Code.BadDivisor; at = y }) h)

pub flawless : (f : Flaws) → flaws_fault f ≡ None → f ≡ no_flaws
flawless f h = let n = no_fault f.range f.divisor h in flaws_are f no_flaws n.0 n.1
