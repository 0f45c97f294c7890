-- Tables that are looked up past their end.
use Rattle.std.proofs.Common.{◌≡◌, ℕ, List, None, slice_index_or, ap, ◌∙◌}
use Rattle.std.specs.Prelude.{slice_get, unwrap_or}
use Rattle.std.proofs.lemmas.Option.{unwrap_or-slice_get}

-- where a list has ended, the default stands
pub past_end : {X : Type 0} (xs : List X) (n : ℕ) (d : X) → None ≡ slice_get xs n → d ≡ slice_index_or xs n d
past_end xs n d e = ap (λ o. unwrap_or o d) e ∙ unwrap_or-slice_get xs n d
