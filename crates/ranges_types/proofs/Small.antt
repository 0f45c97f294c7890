-- What small meanings give a place.
use Rattle.std.proofs.Common.{◌≡◌, ℕ, Bool, true, false, cond, nat_eq, Option, Some, [], ◌∷◌, refl}
use Rattle.std.specs.Prelude.{◌&&◌}
use Rattle.names_rules.specs.declared.named.Meaning.{Meaning}
use Rattle.names_rules.specs.Reading.{Words}
use Rattle.names_rules.specs.WellNamed.{meaning_at}
use Rattle.ranges_types.specs.Numbers.{MeaningIsSmall, are_small_words, is_small_meaning}

small_first : (here first rest : Bool) (meaning : Meaning) (after : Option Meaning) → is_small_meaning meaning ≡ first →
    (rest ≡ true → MeaningIsSmall after) → (first && rest) ≡ true → MeaningIsSmall (cond here (Some meaning) after)
small_first true true rest meaning after e later h = e
small_first false true rest meaning after e later h = later h
small_first true false rest meaning after e later h = cc
small_first false false rest meaning after e later h = absurd (cc)

-- where the meanings of words are small, so is that of the word at a place
pub small_at : (words : Words) (at : ℕ) → are_small_words words ≡ true → MeaningIsSmall (meaning_at words at)
small_at [] at h = tt
small_at (w ∷ words) at h =
    small_first (nat_eq at w.0) (is_small_meaning w.1) (are_small_words words) w.1 (meaning_at words at) refl
    (small_at words at) h
