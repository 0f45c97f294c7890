-- What a node claims is what the table gives, and fits.
use Rattle.std.proofs.Common.{◌≡◌, ℕ, List, [], ◌∷◌}
use Rattle.std.proofs.Common.{◌++◌, Bool, true, false, Result, Ok, Err}
use Rattle.std.proofs.Common.{sym, ap, ◌∙◌, subst, append_assoc, length, length-append, ◌<◌, arith}
use Rattle.std.specs.Prelude.{All}
use Rattle.std.proofs.lemmas.List.Elements.{All-nil, All-cons, All-push, All-append}
use Rattle.case_tables.specs.declared.code_table.Code.{Code}
use Rattle.core_terms.specs.Conditions.{FormFits}
use Rattle.core_terms.specs.Folding.{and_form, or_form}
use Rattle.core_terms.specs.declared.programs.CSlot.{CSlot}
use Rattle.core_terms.specs.declared.trees.CForm.{CForm}
use Rattle.core_terms.specs.declared.trees.Range.{Range}
use Rattle.safety_rules.proofs.lemmas_from_wp_substitution.LightLaws.{form_light}
use Rattle.safety_rules.specs.Foldable.{IsFoldable}
use Rattle.safety_rules.proofs.JoinLaws.{all_foldable}
use Rattle.rules_table.specs.Forms.{imply}
use Rattle.rules_table.specs.Table.{Site, needs}
use Rattle.rules_table.specs.Terms.{node}
use Rattle.rules_table.specs.declared.led.Led.{Led}
use Rattle.safety_rules.specs.declared.places.RuleError.{RuleError}
use Rattle.safety_rules.specs.Usable.{NamesExist, IsUsable}
use Rattle.safety_rules.proofs.UsableLaws.{usable, all_usable, all_exist, exist_imply, exist_and, exist_or, fits_exist}
use Rattle.safety_rules.proofs.AnswerLaws.{first_false}
use Rattle.leadsto_rules.specs.Disjunctions.{GivesAny}
use Rattle.leadsto_rules.specs.Leading.{TermGives, ClaimFits}
use Rattle.leadsto_rules.proofs.GivesLaws.{need_fails}
use Rattle.rules_table.specs.Limits.{fits}
use Rattle.core_terms.specs.Sizes.{form_nodes}
use Rattle.std.proofs.lemmas.Bool.{lt-leb}
use Rattle.std.proofs.Common.{nat_le, ◌^◌, ◌&&◌}

-- the rounds of a node
pub bound_fails : {A B : Type 0} (e : RuleError) (b : Bool) (code : Code) (n : A) (rest : Result B Code) →
    TermGives (Err e) (needs b code (Ok n)) → TermGives (Err e) (needs b code rest)
bound_fails RuleError.Memory b code n rest given = tt
bound_fails (RuleError.Fault c) true code n rest given = absurd given
bound_fails (RuleError.Fault c) false code n rest given = given

pub bound_given : {A B : Type 0} (x n : A) (b : Bool) (code : Code) (rest : Result B Code)
    (answer : Result B RuleError) → TermGives (Ok x) (needs b code (Ok n)) → (x ≡ n → TermGives answer rest) →
    TermGives answer (needs b code rest)
bound_given x n true code rest answer given next = next given
bound_given x n false code rest answer given next = absurd given

-- the parts are those of what is to be given
pub node_gives : (site : Site) (ranges : List Range) (answer : Result Led RuleError) {p p' q q' : CForm} {n n' : ℕ}
    {under under' forms forms' : List CForm} → p' ≡ p → q' ≡ q → n' ≡ n → under' ≡ under → forms' ≡ forms →
    TermGives answer (node site ranges (record { p = p'; q = q'; bound = n'; under = under'; forms = forms' })) →
    TermGives answer (node site ranges (record { p = p; q = q; bound = n; under = under; forms = forms }))
node_gives site ranges answer {p} {p'} {q} {q'} {n} {n'} {under} {under'} {forms} {forms'} e f g h k given =
    subst (λ (x : CForm). TermGives answer (node site ranges
    (record { p = x; q = q; bound = n; under = under; forms = forms }))) e
    (subst (λ (x : CForm). TermGives answer (node site ranges
    (record { p = p'; q = x; bound = n; under = under; forms = forms }))) f
    (subst (λ (x : ℕ). TermGives answer (node site ranges
    (record { p = p'; q = q'; bound = x; under = under; forms = forms }))) g
    (subst (λ (x : List CForm). TermGives answer (node site ranges
    (record { p = p'; q = q'; bound = n'; under = x; forms = forms }))) h
    (subst (λ (x : List CForm). TermGives answer (node site ranges
    (record { p = p'; q = q'; bound = n'; under = under'; forms = x }))) k given))))

pub foldable : (slots : List CSlot) (ranges : List Range) (f : CForm) → FormFits slots ranges f → IsFoldable f
foldable slots ranges f h = let light = form_light slots ranges f h in omega (arith, light)

module _ (slots : List CSlot) (ranges : List Range) where
  pub claim_fits : {p p' q q' : CForm} {under under' forms forms' : List CForm} → p' ≡ p → q' ≡ q → under' ≡ under →
      forms' ≡ forms → NamesExist slots ranges p → NamesExist slots ranges q → All (FormFits slots []) under →
      All (NamesExist slots ranges) forms → ClaimFits slots ranges p' q' under' forms'
  claim_fits same_p same_q same_under same_forms hp hq hu hf = record {
    p = subst (λ f. NamesExist slots ranges f) (sym same_p) hp;
    q = subst (λ f. NamesExist slots ranges f) (sym same_q) hq;
    under = subst (λ fs. All (FormFits slots []) fs) (sym same_under) hu;
    forms = subst (λ fs. All (NamesExist slots ranges) fs) (sym same_forms) hf;
  }

  pub follows_exist : (using : List CForm) (p q : CForm) → All (FormFits slots []) using →
      FormFits slots ranges p → FormFits slots ranges q → NamesExist slots ranges (imply (using ++ p ∷ []) q)
  follows_exist using p q hu hp hq =
      exist_imply slots ranges (using ++ p ∷ []) q
      (all_exist slots ranges (using ++ p ∷ [])
      (All-push (IsUsable slots ranges) using p (all_usable slots ranges using hu) (usable slots ranges p hp)))
      (fits_exist slots ranges q hq)

  pub one_exists : (f : CForm) → NamesExist slots ranges f → All (NamesExist slots ranges) (f ∷ [])
  one_exists f h = All-cons (NamesExist slots ranges) f [] h (All-nil (NamesExist slots ranges))

  pub two_exist : (f g : CForm) → NamesExist slots ranges f → NamesExist slots ranges g →
      All (NamesExist slots ranges) (f ∷ g ∷ [])
  two_exist f g h k = All-cons (NamesExist slots ranges) f (g ∷ []) h (one_exists g k)

  pub both_closed : (one two : List CForm) → All (FormFits slots []) one → All (FormFits slots []) two →
      All (FormFits slots []) (one ++ two)
  both_closed one two h k = All-append (FormFits slots []) one two h k

  pub both_exist : (one two : List CForm) → All (NamesExist slots ranges) one → All (NamesExist slots ranges) two →
      All (NamesExist slots ranges) (one ++ two)
  both_exist one two h k = All-append (NamesExist slots ranges) one two h k

  pub either_exists : (p q : CForm) → FormFits slots ranges p → FormFits slots ranges q →
      NamesExist slots ranges (or_form p q)
  either_exists p q h k = exist_or slots ranges p q (fits_exist slots ranges p h) (fits_exist slots ranges q k)

  pub both_hold_exist : (p q : CForm) → FormFits slots ranges p → FormFits slots ranges q →
      NamesExist slots ranges (and_form p q)
  both_hold_exist p q h k = exist_and slots ranges p q (fits_exist slots ranges p h) (fits_exist slots ranges q k)

  -- an end that is kept, or another
  pub kept_exists : (q p r : CForm) → FormFits slots ranges q → FormFits slots ranges p → FormFits slots ranges r →
      NamesExist slots ranges (or_form (and_form q p) r)
  kept_exists q p r hq hp hr =
      exist_or slots ranges (and_form q p) r (both_hold_exist q p hq hp) (fits_exist slots ranges r hr)

  -- U and a formula can be joined
  pub premises_foldable : (using all : List CForm) (p : CForm) → all ≡ using ++ p ∷ [] →
      All (FormFits slots []) using → IsFoldable p → All IsFoldable all
  premises_foldable using all p is hu hp =
      subst (λ fs. All IsFoldable fs) (sym is)
      (All-push IsFoldable using p (all_foldable slots ranges using (all_usable slots ranges using hu)) hp)

pub some_premise : (using all : List CForm) (p : CForm) → all ≡ using ++ p ∷ [] → 0 < length all
some_premise using all p is =
    let long = ap length is ∙ length-append using (p ∷ []) in omega (arith, long)

-- two formulas, one after the other
pub two_pushed : (forms : List CForm) {mid new : List CForm} {f g f' g' : CForm} → mid ≡ forms ++ f' ∷ [] →
    new ≡ mid ++ g' ∷ [] → f' ≡ f → g' ≡ g → new ≡ forms ++ (f ∷ g ∷ [])
two_pushed forms {mid} {new} {f} {g} {f'} {g'} one two same_f same_g =
    two ∙ ap (λ fs. fs ++ g' ∷ []) one ∙ append_assoc forms (f' ∷ []) (g' ∷ [])
    ∙ ap (λ x. forms ++ (x ∷ g' ∷ [])) same_f ∙ ap (λ x. forms ++ (f ∷ x ∷ [])) same_g

pub bound_is : {A : Type 0} (x n : A) (b : Bool) (code : Code) → TermGives (Ok x) (needs b code (Ok n)) → x ≡ n
bound_is x n true code given = given
bound_is x n false code given = absurd given

-- a node whose p is too large
pub large_fails : (site : Site) (ranges : List Range) (l : Led) (rounds : ℕ) (e : RuleError) →
    TermGives (Ok rounds) (needs (nat_le l.bound (2 ^ 63)) Code.BoundTooLarge (Ok l.bound)) → GivesAny (Err e) l.p →
    TermGives (Err e) (node site ranges l)
large_fails site ranges l rounds RuleError.Memory bounded large = tt
large_fails site ranges l rounds (RuleError.Fault code) bounded large =
    bound_given rounds l.bound (nat_le l.bound (2 ^ 63)) Code.BoundTooLarge _ (Err (RuleError.Fault code)) bounded
    (λ same.
    subst (λ c. TermGives (Err (RuleError.Fault c))
    (needs (fits site.slots ranges l.p && fits site.slots ranges l.q) Code.FormulaTooLarge (Ok l))) (sym large.0)
    (need_fails (fits site.slots ranges l.p && fits site.slots ranges l.q) Code.FormulaTooLarge (Ok l)
    (first_false (fits site.slots ranges l.p) (fits site.slots ranges l.q)
    (first_false (nat_le (form_nodes l.p) 65536) _ (lt-leb (form_nodes l.p) 65536 large.1)))))
