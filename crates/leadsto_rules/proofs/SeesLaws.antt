-- The parts of a term that fits where it stands do too.
use Rattle.std.proofs.Common.{◌≡◌, ℕ, List, [], ◌∷◌, ◌++◌, Bool, sym, ap, ◌∙◌, subst}
use Rattle.std.specs.Prelude.{All}
use Rattle.std.proofs.lemmas.List.Elements.{All-nil, All-cons, All-head, All-tail}
use Rattle.core_terms.specs.Conditions.{FormFits, TermFits, IsRange, Parts, no_parts, parts_step, parts_of}
use Rattle.core_terms.specs.Conditions.{both_parts, also}
use Rattle.core_terms.specs.declared.documents.PTerm.{PTerm, fold-roll-PTerm}
use Rattle.core_terms.specs.declared.documents.PTerm.TheOpen.{PTerm-F}
use Rattle.core_terms.specs.declared.documents.PTerm.TheVariants.{Imply, Trans, Either, Psp, Weaken, Exists, Induct}
use Rattle.core_terms.specs.declared.documents.PTerm.TheVariants.{rolls-Imply, rolls-Trans, rolls-Either, rolls-Psp}
use Rattle.core_terms.specs.declared.documents.PTerm.TheVariants.{rolls-Weaken, rolls-Exists, rolls-Induct}
use Rattle.core_terms.specs.declared.documents.Ref.{Ref}
use Rattle.core_terms.specs.declared.programs.CSlot.{CSlot}
use Rattle.core_terms.specs.declared.trees.CForm.{CForm}
use Rattle.core_terms.specs.declared.trees.CTerm.{CTerm}
use Rattle.core_terms.specs.declared.trees.Range.{Range}
use Rattle.leadsto_rules.specs.Leading.{PartsFit, IsTermIn}

-- what holds of each item of two lists
first_part : {X : Type 0} (P : X → Type 0) (xs ys : List X) → All P (xs ++ ys) → All P xs
first_part P [] ys all = All-nil P
first_part P (x ∷ xs) ys all =
    All-cons P x xs (All-head P x (xs ++ ys) all) (first_part P xs ys (All-tail P x (xs ++ ys) all))

second_part : {X : Type 0} (P : X → Type 0) (xs ys : List X) → All P (xs ++ ys) → All P ys
second_part P [] ys all = all
second_part P (x ∷ xs) ys all = second_part P xs ys (All-tail P x (xs ++ ys) all)

abbrev Visible : Type 0
Visible = ℕ → Bool

parts-Imply : (p q : CForm) (v : Visible) → parts_of (Imply p q) v ≡ parts_step (PTerm-F.Imply p q) v
parts-Imply p q v =
    ap (λ t. parts_of t v) (sym (rolls-Imply p q))
    ∙ ap (λ f. f v) (fold-roll-PTerm (Visible → Parts) parts_step (PTerm-F.Imply p q))

parts-Trans : (t u : PTerm) (v : Visible) → parts_of (Trans t u) v ≡ both_parts (parts_of t v) (parts_of u v)
parts-Trans t u v =
    ap (λ t. parts_of t v) (sym (rolls-Trans t u))
    ∙ ap (λ f. f v) (fold-roll-PTerm (Visible → Parts) parts_step (PTerm-F.Trans t u))

parts-Either : (t u : PTerm) (v : Visible) → parts_of (Either t u) v ≡ both_parts (parts_of t v) (parts_of u v)
parts-Either t u v =
    ap (λ t. parts_of t v) (sym (rolls-Either t u))
    ∙ ap (λ f. f v) (fold-roll-PTerm (Visible → Parts) parts_step (PTerm-F.Either t u))

parts-Psp : (t : PTerm) (r : Ref) (v : Visible) → parts_of (Psp t r) v ≡ parts_step (PTerm-F.Psp (parts_of t) r) v
parts-Psp t r v =
    ap (λ t. parts_of t v) (sym (rolls-Psp t r))
    ∙ ap (λ f. f v) (fold-roll-PTerm (Visible → Parts) parts_step (PTerm-F.Psp t r))

parts-Weaken : (p q : CForm) (t : PTerm) (v : Visible) → parts_of (Weaken p q t) v ≡
    parts_step (PTerm-F.Weaken p q (parts_of t)) v
parts-Weaken p q t v =
    ap (λ t. parts_of t v) (sym (rolls-Weaken p q t))
    ∙ ap (λ f. f v) (fold-roll-PTerm (Visible → Parts) parts_step (PTerm-F.Weaken p q t))

parts-Exists : (m : ℕ) (range : Range) (t : PTerm) (v : Visible) → parts_of (Exists m range t) v ≡
    parts_step (PTerm-F.Exists m range (parts_of t)) v
parts-Exists m range t v =
    ap (λ t. parts_of t v) (sym (rolls-Exists m range t))
    ∙ ap (λ f. f v) (fold-roll-PTerm (Visible → Parts) parts_step (PTerm-F.Exists m range t))

parts-Induct : (m : ℕ) (range : Range) (measure : CTerm) (p q : CForm) (t : PTerm) (v : Visible) →
    parts_of (Induct m range measure p q t) v ≡ parts_step (PTerm-F.Induct m range measure p q (parts_of t)) v
parts-Induct m range measure p q t v =
    ap (λ t. parts_of t v) (sym (rolls-Induct m range measure p q t))
    ∙ ap (λ f. f v) (fold-roll-PTerm (Visible → Parts) parts_step (PTerm-F.Induct m range measure p q t))

module _ (slots : List CSlot) (ranges : List Range) where
  abbrev Form : Visible × CForm → Type 0
  Form e = FormFits slots ranges e.1

  abbrev Term : Visible × CTerm → Type 0
  Term e = TermFits slots ranges e.1

  first_fits : (a b : Parts) → PartsFit slots ranges (both_parts a b) → PartsFit slots ranges a
  first_fits a b fits = record {
    forms = first_part Form a.forms b.forms fits.forms;
    terms = first_part Term a.terms b.terms fits.terms;
    ranges_are = first_part IsRange a.ranges b.ranges fits.ranges_are;
  }

  second_fits : (a b : Parts) → PartsFit slots ranges (both_parts a b) → PartsFit slots ranges b
  second_fits a b fits = record {
    forms = second_part Form a.forms b.forms fits.forms;
    terms = second_part Term a.terms b.terms fits.terms;
    ranges_are = second_part IsRange a.ranges b.ranges fits.ranges_are;
  }

  abbrev Fits : Parts → Type 0
  Fits parts = PartsFit slots ranges parts

  pub sees-Imply : (p q : CForm) → IsTermIn slots ranges (Imply p q) →
      FormFits slots ranges p × FormFits slots ranges q
  sees-Imply p q sees =
      let v : Visible = sees.0 in
      let fits : Fits (parts_step (PTerm-F.Imply p q) v) = subst Fits (parts-Imply p q v) sees.1 in
      let rest = All-tail Form (v, p) ((v, q) ∷ []) fits.forms in
      (All-head Form (v, p) ((v, q) ∷ []) fits.forms, All-head Form (v, q) [] rest)

  pub sees-Trans : (t u : PTerm) → IsTermIn slots ranges (Trans t u) →
      IsTermIn slots ranges t × IsTermIn slots ranges u
  sees-Trans t u sees =
      let v : Visible = sees.0 in
      let fits = subst Fits (parts-Trans t u v) sees.1 in
      ((v, first_fits (parts_of t v) (parts_of u v) fits), (v, second_fits (parts_of t v) (parts_of u v) fits))

  pub sees-Either : (t u : PTerm) → IsTermIn slots ranges (Either t u) →
      IsTermIn slots ranges t × IsTermIn slots ranges u
  sees-Either t u sees =
      let v : Visible = sees.0 in
      let fits = subst Fits (parts-Either t u v) sees.1 in
      ((v, first_fits (parts_of t v) (parts_of u v) fits), (v, second_fits (parts_of t v) (parts_of u v) fits))

  pub sees-Psp : (t : PTerm) (r : Ref) → IsTermIn slots ranges (Psp t r) → IsTermIn slots ranges t
  sees-Psp t r sees =
      let v : Visible = sees.0 in (
        v,
        first_fits (parts_of t v) (record no_parts { args = (v, r.args) ∷ [] })
            (subst Fits (parts-Psp t r v) sees.1),
      )

  pub sees-Weaken : (p q : CForm) (t : PTerm) → IsTermIn slots ranges (Weaken p q t) →
      (FormFits slots ranges p × FormFits slots ranges q) × IsTermIn slots ranges t
  sees-Weaken p q t sees =
      let v : Visible = sees.0 in
      let own : Parts = record no_parts { forms = (v, p) ∷ (v, q) ∷ [] } in
      let fits = subst Fits (parts-Weaken p q t v) sees.1 in
      let mine = first_fits own (parts_of t v) fits in
      let rest = All-tail Form (v, p) ((v, q) ∷ []) mine.forms in (
        (All-head Form (v, p) ((v, q) ∷ []) mine.forms, All-head Form (v, q) [] rest),
        (v, second_fits own (parts_of t v) fits),
      )

  pub sees-Exists : (m : ℕ) (range : Range) (t : PTerm) → IsTermIn slots ranges (Exists m range t) →
      IsRange range × IsTermIn slots ranges t
  sees-Exists m range t sees =
      let v : Visible = sees.0 in
      let own : Parts = record no_parts { ranges = range ∷ [] } in
      let fits = subst Fits (parts-Exists m range t v) sees.1 in (
        All-head IsRange range [] (first_fits own (parts_of t (also m v)) fits).ranges_are,
        (also m v, second_fits own (parts_of t (also m v)) fits),
      )

  -- the parts of an induction's own node
  pub record InductFits (span : Range) (size : CTerm) (f g : CForm) : Type 0 where
    pub range : IsRange span
    pub measure : TermFits slots ranges size
    pub p : FormFits slots ranges f
    pub q : FormFits slots ranges g

  pub sees-Induct : (m : ℕ) (range : Range) (measure : CTerm) (p q : CForm) (t : PTerm) →
      IsTermIn slots ranges (Induct m range measure p q t) →
      InductFits range measure p q × IsTermIn slots ranges t
  sees-Induct m range measure p q t sees =
      let v : Visible = sees.0 in
      let own : Parts = record {
        forms = (v, p) ∷ (v, q) ∷ [];
        terms = (v, measure) ∷ [];
        args = [];
        ranges = range ∷ [];
      } in
      let fits = subst Fits (parts-Induct m range measure p q t v) sees.1 in
      let mine = first_fits own (parts_of t (also m v)) fits in
      let rest = All-tail Form (v, p) ((v, q) ∷ []) mine.forms in (
        record {
          range = All-head IsRange range [] mine.ranges_are;
          measure = All-head Term (v, measure) [] mine.terms;
          p = All-head Form (v, p) ((v, q) ∷ []) mine.forms;
          q = All-head Form (v, q) [] rest;
        },
        (also m v, second_fits own (parts_of t (also m v)) fits),
      )
