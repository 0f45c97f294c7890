-- The sides of a light formula are light.
use Rattle.std.proofs.Common.{◌≡◌, ℕ, ◌≤◌, ◌^◌, true, List, ap, ◌∙◌}
use Rattle.core_terms.specs.declared.trees.CForm.{CForm}
use Rattle.obligations.specs.declared.branches.Branch.{Branch}
use Rattle.obligations.specs.declared.branches.Variable.{Variable}
use Rattle.obligations.specs.Load.{need, is_light_branch}
use Rattle.obligations.specs.Settling.{settled}
use Rattle.obligations.proofs.LightLaws.{first-side, second-side}
use Rattle.obligations.proofs.NeedLaws.{settled-light}
use Rattle.obligations.specs.declared.sides.Side.{Side}
use Rattle.obligations.specs.Sides.{side_of}

pub side_light : (side : Side) (f : CForm) (bound : ℕ) → (need f).yes ≤ bound → (need (side_of side f)).yes ≤ bound
side_light Side.First f bound h = first-side f bound h
side_light Side.Second f bound h = second-side f bound h

pub side-settled : (vs : List Variable) (side : Side) (f : CForm) (old new : Branch) →
    new ≡ settled vs (side_of side f) old → (need f).yes ≤ 2 ^ 63 → is_light_branch (2 ^ 63) old ≡ true →
    is_light_branch (2 ^ 63) new ≡ true
side-settled vs side f old new e k h =
    ap (is_light_branch (2 ^ 63)) e ∙ settled-light vs (2 ^ 63) (side_of side f) old (side_light side f (2 ^ 63) k) h
