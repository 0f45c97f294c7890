-- What the parts of a proof term are, and the ranges of the names that it binds, by the kinds of proof terms.
use Rattle.std.proofs.Common.{◌≡◌, ℕ, List, [], ◌∷◌, ◌++◌, Bool, sym, ap, ◌∙◌}
use Rattle.case_tables.specs.declared.word_table.Word.{Word}
use Rattle.core_terms.specs.declared.trees.Range.{Range}
use Rattle.core_terms.specs.declared.trees.CTerm.{CTerm}
use Rattle.core_terms.specs.declared.trees.CForm.{CForm}
use Rattle.core_terms.specs.declared.documents.Ref.{Ref}
use Rattle.core_terms.specs.declared.documents.PTerm.{PTerm, fold-roll-PTerm}
use Rattle.core_terms.specs.declared.documents.PTerm.TheOpen.{PTerm-F}
use Rattle.core_terms.specs.declared.documents.PTerm.TheVariants.{Imply, From, Trans, Either, Exists, Induct, Psp}
use Rattle.core_terms.specs.declared.documents.PTerm.TheVariants.{Weaken, rolls-Imply, rolls-From, rolls-Trans}
use Rattle.core_terms.specs.declared.documents.PTerm.TheVariants.{rolls-Either, rolls-Exists, rolls-Induct}
use Rattle.core_terms.specs.declared.documents.PTerm.TheVariants.{rolls-Psp, rolls-Weaken}
use Rattle.core_terms.specs.Conditions.{Parts, both_parts, parts_step, parts_of, ranges_step, bound_ranges}
use Rattle.expand_correct.specs.from_expand_steps.ProofTerms.{pair_term}

abbrev Partial : Type 0
Partial = (ℕ → Bool) → Parts

-- the parts

pub parts-Imply : (p q : CForm) (v : ℕ → Bool) → parts_of (Imply p q) v ≡ parts_step (PTerm-F.Imply p q) v
parts-Imply p q v = ap (λ x. parts_of x v) (sym (rolls-Imply p q))
    ∙ ap (λ m. m v) (fold-roll-PTerm Partial parts_step (PTerm-F.Imply p q))

pub parts-From : (r : Ref) (v : ℕ → Bool) → parts_of (From r) v ≡ parts_step (PTerm-F.From r) v
parts-From r v = ap (λ x. parts_of x v) (sym (rolls-From r))
    ∙ ap (λ m. m v) (fold-roll-PTerm Partial parts_step (PTerm-F.From r))

parts-Trans : (t u : PTerm) (v : ℕ → Bool) → parts_of (Trans t u) v ≡ both_parts (parts_of t v) (parts_of u v)
parts-Trans t u v = ap (λ x. parts_of x v) (sym (rolls-Trans t u))
    ∙ ap (λ m. m v) (fold-roll-PTerm Partial parts_step (PTerm-F.Trans t u))

parts-Either : (t u : PTerm) (v : ℕ → Bool) → parts_of (Either t u) v ≡ both_parts (parts_of t v) (parts_of u v)
parts-Either t u v = ap (λ x. parts_of x v) (sym (rolls-Either t u))
    ∙ ap (λ m. m v) (fold-roll-PTerm Partial parts_step (PTerm-F.Either t u))

pub parts-Exists : (m : ℕ) (range : Range) (t : PTerm) (v : ℕ → Bool) →
    parts_of (Exists m range t) v ≡ parts_step (PTerm-F.Exists m range (parts_of t)) v
parts-Exists m range t v = ap (λ x. parts_of x v) (sym (rolls-Exists m range t))
    ∙ ap (λ m. m v) (fold-roll-PTerm Partial parts_step (PTerm-F.Exists m range t))

pub parts-Induct : (m : ℕ) (range : Range) (measure : CTerm) (p q : CForm) (t : PTerm) (v : ℕ → Bool) →
    parts_of (Induct m range measure p q t) v ≡ parts_step (PTerm-F.Induct m range measure p q (parts_of t)) v
parts-Induct m range measure p q t v = ap (λ x. parts_of x v) (sym (rolls-Induct m range measure p q t))
    ∙ ap (λ m. m v) (fold-roll-PTerm Partial parts_step (PTerm-F.Induct m range measure p q t))

pub parts-Psp : (t : PTerm) (r : Ref) (v : ℕ → Bool) →
    parts_of (Psp t r) v ≡ parts_step (PTerm-F.Psp (parts_of t) r) v
parts-Psp t r v = ap (λ x. parts_of x v) (sym (rolls-Psp t r))
    ∙ ap (λ m. m v) (fold-roll-PTerm Partial parts_step (PTerm-F.Psp t r))

pub parts-Weaken : (p q : CForm) (t : PTerm) (v : ℕ → Bool) →
    parts_of (Weaken p q t) v ≡ parts_step (PTerm-F.Weaken p q (parts_of t)) v
parts-Weaken p q t v = ap (λ x. parts_of x v) (sym (rolls-Weaken p q t))
    ∙ ap (λ m. m v) (fold-roll-PTerm Partial parts_step (PTerm-F.Weaken p q t))

-- the ranges

pub ranges-Imply : (p q : CForm) → bound_ranges (Imply p q) ≡ []
ranges-Imply p q = ap bound_ranges (sym (rolls-Imply p q))
    ∙ fold-roll-PTerm (List Range) ranges_step (PTerm-F.Imply p q)

pub ranges-From : (r : Ref) → bound_ranges (From r) ≡ []
ranges-From r = ap bound_ranges (sym (rolls-From r)) ∙ fold-roll-PTerm (List Range) ranges_step (PTerm-F.From r)

ranges-Trans : (t u : PTerm) → bound_ranges (Trans t u) ≡ bound_ranges t ++ bound_ranges u
ranges-Trans t u = ap bound_ranges (sym (rolls-Trans t u))
    ∙ fold-roll-PTerm (List Range) ranges_step (PTerm-F.Trans t u)

ranges-Either : (t u : PTerm) → bound_ranges (Either t u) ≡ bound_ranges t ++ bound_ranges u
ranges-Either t u = ap bound_ranges (sym (rolls-Either t u))
    ∙ fold-roll-PTerm (List Range) ranges_step (PTerm-F.Either t u)

pub ranges-Exists : (m : ℕ) (range : Range) (t : PTerm) → bound_ranges (Exists m range t) ≡ range ∷ bound_ranges t
ranges-Exists m range t = ap bound_ranges (sym (rolls-Exists m range t))
    ∙ fold-roll-PTerm (List Range) ranges_step (PTerm-F.Exists m range t)

pub ranges-Induct : (m : ℕ) (range : Range) (measure : CTerm) (p q : CForm) (t : PTerm) →
    bound_ranges (Induct m range measure p q t) ≡ range ∷ bound_ranges t
ranges-Induct m range measure p q t = ap bound_ranges (sym (rolls-Induct m range measure p q t))
    ∙ fold-roll-PTerm (List Range) ranges_step (PTerm-F.Induct m range measure p q t)

pub ranges-Psp : (t : PTerm) (r : Ref) → bound_ranges (Psp t r) ≡ bound_ranges t
ranges-Psp t r = ap bound_ranges (sym (rolls-Psp t r))
    ∙ fold-roll-PTerm (List Range) ranges_step (PTerm-F.Psp t r)

pub ranges-Weaken : (p q : CForm) (t : PTerm) → bound_ranges (Weaken p q t) ≡ bound_ranges t
ranges-Weaken p q t = ap bound_ranges (sym (rolls-Weaken p q t))
    ∙ fold-roll-PTerm (List Range) ranges_step (PTerm-F.Weaken p q t)

-- two terms, one after the other

pub record PairParts (whole t u : PTerm) : Type 0 where
  pub parts : (v : ℕ → Bool) → parts_of whole v ≡ both_parts (parts_of t v) (parts_of u v)
  pub ranges : bound_ranges whole ≡ bound_ranges t ++ bound_ranges u

trans_parts : (t u : PTerm) → PairParts (Trans t u) t u
trans_parts t u = record { parts = parts-Trans t u; ranges = ranges-Trans t u }

pub pair_parts : (which : Word) (t u : PTerm) → PairParts (pair_term which t u) t u
pair_parts Word.Either t u = record { parts = parts-Either t u; ranges = ranges-Either t u }
pair_parts _ t u = trans_parts t u
