-- The nodes of a part are fewer than those of the term.
use Rattle.std.proofs.Common.{◌≡◌, ◌<◌, ℤ, arith, ap, ◌∙◌}
use Rattle.core_terms.specs.declared.trees.CTerm.{CTerm}
use Rattle.core_terms.specs.declared.trees.CTerm.TheVariants.{Add, Sub, Scale, rolls-Add, rolls-Sub, rolls-Scale}
use Rattle.core_terms.specs.declared.trees.CForm.TheOpen.{CTerm-F}
use Rattle.core_terms.specs.Sizes.{term_size, form_size, term_nodes}
use Rattle.obligations.proofs.SettlingLaws.{term_fold}

pub size-Add : (a b t : CTerm) → t ≡ Add a b → (term_nodes a < term_nodes t) × (term_nodes b < term_nodes t)
size-Add a b t e =
    let s = ap term_nodes e ∙ term_fold form_size term_size (CTerm-F.Add a b) (Add a b)
    (rolls-Add a b) in (omega (arith, s), omega (arith, s))

pub size-Sub : (a b t : CTerm) → t ≡ Sub a b → (term_nodes a < term_nodes t) × (term_nodes b < term_nodes t)
size-Sub a b t e =
    let s = ap term_nodes e ∙ term_fold form_size term_size (CTerm-F.Sub a b) (Sub a b)
    (rolls-Sub a b) in (omega (arith, s), omega (arith, s))

pub size-Scale : (k : ℤ) (a t : CTerm) → t ≡ Scale k a → term_nodes a < term_nodes t
size-Scale k a t e =
    let s = ap term_nodes e ∙ term_fold form_size term_size (CTerm-F.Scale k a) (Scale k a) (rolls-Scale k a) in omega
    (arith, s)
