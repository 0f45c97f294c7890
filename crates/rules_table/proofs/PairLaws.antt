-- What the rules of two records give, for all of them together.
use Rattle.std.proofs.Common.{◌≡◌, ℕ, nat_le, ◌^◌, ◌++◌, List, [], Bool, Option, None, Result, Ok, Err, IsTrue, refl}
use Rattle.case_tables.specs.declared.kind_table.Kind.{Kind}
use Rattle.case_tables.specs.declared.rule_table.RuleName.{RuleName}
use Rattle.case_tables.specs.declared.code_table.Code.{Code}
use Rattle.core_terms.specs.declared.trees.CForm.{CForm}
use Rattle.core_terms.specs.declared.trees.CForm.TheVariants.{Bottom}
use Rattle.core_terms.specs.declared.documents.Helper.{Helper}
use Rattle.core_terms.specs.declared.documents.Ref.{Ref}
use Rattle.fair_rounds.specs.declared.records.Record.{Record}
use Rattle.rules_table.specs.Conclusion.{Conclusion}
use Rattle.rules_table.specs.Table.{Site, needs, go_on, record_of, concluded, paired, pair_kinds, pair_of}
use Rattle.rules_table.specs.Terms.{referred}
use Rattle.rules_table.specs.Further.{complete_of, lead_cancel_of, until_of, detects_of, constant_of, pair_by}
use Rattle.rules_table.specs.Walk.{is_kind, suits_pair}
use Rattle.rules_table.proofs.KindLaws.{same_kind}
use Rattle.rules_table.proofs.SiteLaws.{went_on}

-- only a conjunction keeps the kind and the helper of the second premise
abbrev pub pair_kind : RuleName → Kind → Kind
pair_kind RuleName.Conj kind = kind
pair_kind _ kind = Kind.Unless

abbrev pub pair_helper : RuleName → Option Helper → Option Helper
pair_helper RuleName.Conj helper = helper
pair_helper _ helper = None

-- what holds where nothing is given, and of a record of this kind with this helper, whatever is asked before, holds of
-- the row of each rule
pub of_pair : (P : Result Conclusion Code → Type 0) (site : Site) (a b : Record) (which : RuleName) →
    ((code : Code) → P (Err code)) →
    ((asked : Bool) (code : Code) (rest : Result Conclusion Code) → P rest → P (needs asked code rest)) →
    ((p q : CForm) → P (paired site (pair_kind which b.kind) (pair_helper which b.helper) p q a b)) →
    P (pair_of site which a b)
unfolding pair_of
of_pair P site a b RuleName.Conj none need given = need _ Code.WrongKind _ (given _ _)
of_pair P site a b RuleName.Simpleconj none need given = need _ Code.WrongKind _ (given _ _)
of_pair P site a b RuleName.Disj none need given = need _ Code.WrongKind _ (given _ _)
of_pair P site a b RuleName.Simpledisj none need given = need _ Code.WrongKind _ (given _ _)
of_pair P site a b RuleName.Cancel none need given =
    need _ Code.WrongKind _ (need _ Code.MiddleDiffers _ (given _ _))
of_pair P site a b _ none need given = none Code.WrongKind

-- the kind and the helper of what is given for a claim of this kind
abbrev pub given_kind : Kind → RuleName → Kind → Kind
given_kind Kind.Leadsto which kind = Kind.Leadsto
given_kind Kind.Until which kind = Kind.Until
given_kind Kind.Detects which kind = Kind.Detects
given_kind Kind.Constant which kind = Kind.Constant
given_kind _ which kind = pair_kind which kind

abbrev pub given_helper : Kind → RuleName → Option Helper → Option Helper
given_helper Kind.Leadsto which helper = None
given_helper Kind.Until which helper = None
given_helper Kind.Detects which helper = None
given_helper Kind.Constant which helper = None
given_helper _ which helper = pair_helper which helper

-- a record of two others' formulas, within a bound
abbrev pub of_two : Site → Kind → Option Helper → CForm → CForm → ℕ → Record → Record → Record
of_two site kind helper p q bound a b = record (record_of site kind p q (a.under ++ b.under) helper) { bound = bound }

-- what holds where nothing is given, and of a record of this kind with this helper, whatever is asked before, holds of
-- what two records give for a claim
pub of_pair_by : (P : Result Conclusion Code → Type 0) (site : Site) (a b : Record) (claimed : Kind)
    (which : RuleName) → ((code : Code) → P (Err code)) →
    ((asked : Bool) (code : Code) (rest : Result Conclusion Code) → P rest → P (needs asked code rest)) →
    ((p q : CForm) (bound : ℕ) → P (concluded site.slots site.params (of_two site (given_kind claimed which b.kind)
    (given_helper claimed which b.helper) p q bound a b) [])) → P (pair_by site claimed which a b)
unfolding lead_cancel_of until_of detects_of constant_of
of_pair_by P site a b Kind.Leadsto which none need given =
    need _ Code.WrongKind _ (need _ Code.MiddleDiffers _ (need _ Code.BoundTooLarge _ (given _ _ _)))
of_pair_by P site a b Kind.Until which none need given =
    need _ Code.WrongKind _ (need _ Code.MiddleDiffers _ (need _ Code.BoundTooLarge _ (given _ _ _)))
of_pair_by P site a b Kind.Detects which none need given =
    need _ Code.WrongKind _ (need _ Code.MiddleDiffers _ (need _ Code.BoundTooLarge _ (given _ _ _)))
of_pair_by P site a b Kind.Constant which none need given =
    need _ Code.WrongKind _ (need _ Code.MiddleDiffers _
    (need (nat_le 0 (2 ^ 63)) Code.BoundTooLarge _ (given a.p Bottom 0)))
of_pair_by P site a b Kind.Defined which none need given = of_pair P site a b which none need (λ p q. given p q 0)
of_pair_by P site a b Kind.Invariant which none need given = of_pair P site a b which none need (λ p q. given p q 0)
of_pair_by P site a b Kind.Unless which none need given = of_pair P site a b which none need (λ p q. given p q 0)
of_pair_by P site a b Kind.Ensures which none need given = of_pair P site a b which none need (λ p q. given p q 0)
of_pair_by P site a b Kind.Fixed which none need given = of_pair P site a b which none need (λ p q. given p q 0)

-- a pair rule gives a step of the claimed kind, where it suits it and the second premise has its kind
unless_given : (version : ℕ) (which : RuleName) (k : Kind) → IsTrue (is_kind (pair_kinds which Kind.Unless).1 k) →
    IsTrue (suits_pair version which Kind.Unless) → pair_kind which k ≡ Kind.Unless
unless_given version RuleName.Conj k same suited = same_kind Kind.Unless k same
unless_given version RuleName.Simpleconj k same suited = refl
unless_given version RuleName.Disj k same suited = refl
unless_given version RuleName.Simpledisj k same suited = refl
unless_given version RuleName.Cancel k same suited = refl
unless_given version _ k same suited = cc

ensures_given : (version : ℕ) (which : RuleName) (k : Kind) → IsTrue (is_kind (pair_kinds which Kind.Ensures).1 k) →
    IsTrue (suits_pair version which Kind.Ensures) → pair_kind which k ≡ Kind.Ensures
ensures_given version RuleName.Conj k same suited = same_kind Kind.Ensures k same
ensures_given version _ k same suited = cc

pub no_defined : (version : ℕ) (which : RuleName) → IsTrue (suits_pair version which Kind.Defined) → ⊥
no_defined version RuleName.Conj suited = cc
no_defined version _ suited = cc

no_invariant : (version : ℕ) (which : RuleName) → IsTrue (suits_pair version which Kind.Invariant) → ⊥
no_invariant version RuleName.Conj suited = cc
no_invariant version _ suited = cc

no_fixed : (version : ℕ) (which : RuleName) → IsTrue (suits_pair version which Kind.Fixed) → ⊥
no_fixed version RuleName.Conj suited = cc
no_fixed version _ suited = cc

-- and the kind is the claimed one, where the rule suits it and the second premise has its kind
pub given_kind_is : (version : ℕ) (which : RuleName) (k kind : Kind) →
    IsTrue (is_kind (pair_kinds which kind).1 k) → IsTrue (suits_pair version which kind) →
    given_kind kind which k ≡ kind
given_kind_is version which k Kind.Leadsto same suited = refl
given_kind_is version which k Kind.Until same suited = refl
given_kind_is version which k Kind.Detects same suited = refl
given_kind_is version which k Kind.Constant same suited = refl
given_kind_is version which k Kind.Unless same suited = unless_given version which k same suited
given_kind_is version which k Kind.Ensures same suited = ensures_given version which k same suited
given_kind_is version which k Kind.Defined same suited = absurd (no_defined version which suited)
given_kind_is version which k Kind.Invariant same suited = absurd (no_invariant version which suited)
given_kind_is version which k Kind.Fixed same suited = absurd (no_fixed version which suited)

-- the records of the four steps of a completion, and what they give together
pub record OfFour (site : Site) (book : List Record) (r s t u : Ref) (x : Conclusion) : Type 0 where
  pub a : Record
  pub b : Record
  pub c : Record
  pub d : Record
  pub first : referred site site.params book (is_kind Kind.Leadsto) r ≡ Ok a
  pub second : referred site site.params book (is_kind Kind.Unless) s ≡ Ok b
  pub third : referred site site.params book (is_kind Kind.Leadsto) t ≡ Ok c
  pub fourth : referred site site.params book (is_kind Kind.Unless) u ≡ Ok d
  pub gives : complete_of site a b c d ≡ Ok x

pub four_given : (site : Site) (book : List Record) (r s t u : Ref) (x : Conclusion) →
    go_on (referred site site.params book (is_kind Kind.Leadsto) r) (λ a.
    go_on (referred site site.params book (is_kind Kind.Unless) s) (λ b.
    go_on (referred site site.params book (is_kind Kind.Leadsto) t) (λ c.
    go_on (referred site site.params book (is_kind Kind.Unless) u) (λ d. complete_of site a b c d)))) ≡ Ok x →
    OfFour site book r s t u x
four_given site book r s t u x e =
    let leads : Kind → Bool = is_kind Kind.Leadsto in
    let ends : Kind → Bool = is_kind Kind.Unless in
    let one = went_on (referred site site.params book leads r) (λ a.
    go_on (referred site site.params book ends s) (λ b.
    go_on (referred site site.params book leads t) (λ c.
    go_on (referred site site.params book ends u) (λ d. complete_of site a b c d)))) x e in
    let two = went_on (referred site site.params book ends s) (λ b.
    go_on (referred site site.params book leads t) (λ c.
    go_on (referred site site.params book ends u) (λ d. complete_of site one.0 b c d))) x one.2 in
    let three = went_on (referred site site.params book leads t) (λ c.
    go_on (referred site site.params book ends u) (λ d. complete_of site one.0 two.0 c d)) x two.2 in
    let four = went_on (referred site site.params book ends u) (λ d. complete_of site one.0 two.0 three.0 d) x
    three.2 in
    record {
      a = one.0;
      b = two.0;
      c = three.0;
      d = four.0;
      first = one.1;
      second = two.1;
      third = three.1;
      fourth = four.1;
      gives = four.2;
    }
