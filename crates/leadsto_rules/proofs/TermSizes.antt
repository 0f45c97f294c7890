-- A term's parts are smaller than the term.
use Rattle.std.proofs.Common.{◌≡◌, ℕ, ◌+◌, ◌<◌, sym, ap, ◌∙◌, arith}
use Rattle.core_terms.specs.declared.documents.PTerm.{PTerm, fold-PTerm, fold-roll-PTerm}
use Rattle.core_terms.specs.declared.documents.PTerm.TheOpen.{PTerm-F}
use Rattle.core_terms.specs.declared.documents.PTerm.TheVariants.{Trans, Either, Exists}
use Rattle.core_terms.specs.declared.documents.PTerm.TheVariants.{Induct, Psp, Weaken, rolls-Trans}
use Rattle.core_terms.specs.declared.documents.PTerm.TheVariants.{rolls-Either, rolls-Exists, rolls-Induct, rolls-Psp}
use Rattle.core_terms.specs.declared.documents.PTerm.TheVariants.{rolls-Weaken}
use Rattle.core_terms.specs.declared.documents.Ref.{Ref}
use Rattle.core_terms.specs.declared.trees.CForm.{CForm}
use Rattle.core_terms.specs.declared.trees.CTerm.{CTerm}
use Rattle.core_terms.specs.declared.trees.Range.{Range}

abbrev size_step : PTerm-F ℕ → ℕ
size_step (PTerm-F.Imply p q) = 0
size_step (PTerm-F.From r) = 0
size_step (PTerm-F.Trans t u) = t + u + 1
size_step (PTerm-F.Either t u) = t + u + 1
size_step (PTerm-F.Exists m range t) = t + 1
size_step (PTerm-F.Induct m range measure p q t) = t + 1
size_step (PTerm-F.Psp t r) = t + 1
size_step (PTerm-F.Weaken p q t) = t + 1

-- how many nodes have parts
abbrev pub size : PTerm → ℕ
size = fold-PTerm ℕ size_step

size-Trans : (t u : PTerm) → size (Trans t u) ≡ size t + size u + 1
size-Trans t u = ap size (sym (rolls-Trans t u)) ∙ fold-roll-PTerm ℕ size_step (PTerm-F.Trans t u)

size-Either : (t u : PTerm) → size (Either t u) ≡ size t + size u + 1
size-Either t u = ap size (sym (rolls-Either t u)) ∙ fold-roll-PTerm ℕ size_step (PTerm-F.Either t u)

size-Exists : (m : ℕ) (range : Range) (t : PTerm) → size (Exists m range t) ≡ size t + 1
size-Exists m range t =
    ap size (sym (rolls-Exists m range t)) ∙ fold-roll-PTerm ℕ size_step (PTerm-F.Exists m range t)

size-Induct : (m : ℕ) (range : Range) (measure : CTerm) (p q : CForm) (t : PTerm) →
    size (Induct m range measure p q t) ≡ size t + 1
size-Induct m range measure p q t =
    ap size (sym (rolls-Induct m range measure p q t))
    ∙ fold-roll-PTerm ℕ size_step (PTerm-F.Induct m range measure p q t)

size-Psp : (t : PTerm) (r : Ref) → size (Psp t r) ≡ size t + 1
size-Psp t r = ap size (sym (rolls-Psp t r)) ∙ fold-roll-PTerm ℕ size_step (PTerm-F.Psp t r)

size-Weaken : (p q : CForm) (t : PTerm) → size (Weaken p q t) ≡ size t + 1
size-Weaken p q t = ap size (sym (rolls-Weaken p q t)) ∙ fold-roll-PTerm ℕ size_step (PTerm-F.Weaken p q t)

pub first_of_trans : (whole t u x : PTerm) → whole ≡ Trans t u → x ≡ t → size x < size whole
first_of_trans whole t u x e f =
    let is : size whole ≡ size t + size u + 1 = ap size e ∙ size-Trans t u in
    let same : size x ≡ size t = ap size f in omega (arith, is, same)

pub second_of_trans : (whole t u x : PTerm) → whole ≡ Trans t u → x ≡ u → size x < size whole
second_of_trans whole t u x e f =
    let is : size whole ≡ size t + size u + 1 = ap size e ∙ size-Trans t u in
    let same : size x ≡ size u = ap size f in omega (arith, is, same)

pub first_of_either : (whole t u x : PTerm) → whole ≡ Either t u → x ≡ t → size x < size whole
first_of_either whole t u x e f =
    let is : size whole ≡ size t + size u + 1 = ap size e ∙ size-Either t u in
    let same : size x ≡ size t = ap size f in omega (arith, is, same)

pub second_of_either : (whole t u x : PTerm) → whole ≡ Either t u → x ≡ u → size x < size whole
second_of_either whole t u x e f =
    let is : size whole ≡ size t + size u + 1 = ap size e ∙ size-Either t u in
    let same : size x ≡ size u = ap size f in omega (arith, is, same)

pub part_of_exists : (m : ℕ) (range : Range) (whole t x : PTerm) → whole ≡ Exists m range t → x ≡ t →
    size x < size whole
part_of_exists m range whole t x e f =
    let is : size whole ≡ size t + 1 = ap size e ∙ size-Exists m range t in
    let same : size x ≡ size t = ap size f in omega (arith, is, same)

pub part_of_induct : (m : ℕ) (range : Range) (measure : CTerm) (p q : CForm) (whole t x : PTerm) →
    whole ≡ Induct m range measure p q t → x ≡ t → size x < size whole
part_of_induct m range measure p q whole t x e f =
    let is : size whole ≡ size t + 1 = ap size e ∙ size-Induct m range measure p q t in
    let same : size x ≡ size t = ap size f in omega (arith, is, same)

pub part_of_psp : (r : Ref) (whole t x : PTerm) → whole ≡ Psp t r → x ≡ t → size x < size whole
part_of_psp r whole t x e f =
    let is : size whole ≡ size t + 1 = ap size e ∙ size-Psp t r in
    let same : size x ≡ size t = ap size f in omega (arith, is, same)

pub part_of_weaken : (p q : CForm) (whole t x : PTerm) → whole ≡ Weaken p q t → x ≡ t → size x < size whole
part_of_weaken p q whole t x e f =
    let is : size whole ≡ size t + 1 = ap size e ∙ size-Weaken p q t in
    let same : size x ≡ size t = ap size f in omega (arith, is, same)
