-- The number of the version is read by neither names nor expansion.
use Rattle.std.proofs.Common.{refl}
use Rattle.upgraded_texts.specs.VerdictLaws.{UpgradedIsNamed, UpgradedExpands, UpgradedCore}

pub upgraded_is_named : UpgradedIsNamed
upgraded_is_named d named = named

pub upgraded_expands : UpgradedExpands
upgraded_expands d = refl

pub upgraded_core : UpgradedCore
upgraded_core d = refl
