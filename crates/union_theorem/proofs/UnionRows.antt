-- The rows of unions, each as one equation, and that what they give stands.
use Rattle.std.proofs.Common.{◌≡◌, Bool, true, false, ◌&&◌, ◌||◌, ◌++◌, Option, Some, None, Result, Err}
use Rattle.std.proofs.Common.{MatchOption, refl, sym, ap, subst, ◌∙◌}
use Rattle.case_tables.specs.declared.kind_table.Kind.{Kind}
use Rattle.case_tables.specs.declared.code_table.Code.{Code}
use Rattle.core_terms.specs.Trees.{same_form}
use Rattle.core_terms.specs.declared.trees.CForm.TheVariants.{Top, Bottom}
use Rattle.fair_rounds.specs.declared.records.Record.{Record}
use Rattle.safety_rules.specs.from_rules_table.Conclusion.{Conclusion}
use Rattle.safety_rules.specs.from_rules_table.Table.{Site, needs, record_of, concluded, shown_forms, is_part_pair}
use Rattle.safety_rules.specs.from_rules_table.Table.{is_unless, is_ensures}
use Rattle.safety_rules.specs.from_rules_table.Table.{claims_defined, is_invariant, first_helper, ending}
use Rattle.safety_rules.specs.from_rules_table.Table.{union_unless_of}
use Rattle.safety_rules.specs.from_rules_table.Table.{union_ensures_of}
use Rattle.safety_rules.specs.from_rules_table.Table.{union_invariant_of, union_defined_of}
use Rattle.safety_rules.proofs.AnswerLaws.{needs_met, needs_not}

-- what a union concludes, once its conditions are met
abbrev pub united_unless : Site → Record → Record → Result Conclusion Code
united_unless site a b =
    concluded site.slots site.params (record_of site Kind.Unless a.p a.q (a.under ++ b.under) None)
    (shown_forms site a b)

abbrev pub united_ensures : Site → Record → Record → Result Conclusion Code
united_ensures site a b =
    concluded site.slots site.params (record_of site Kind.Ensures a.p a.q (a.under ++ b.under) (first_helper a b))
    (shown_forms site a b)

abbrev pub united_invariant : Site → Record → Record → Result Conclusion Code
united_invariant site a b =
    concluded site.slots site.params (record_of site Kind.Invariant a.p Bottom (a.under ++ b.under) None)
    (shown_forms site a b)

abbrev pub united_defined : Site → Record → Record → Result Conclusion Code
united_defined site a b =
    concluded site.slots site.params (record_of site Kind.Defined Top Top (a.under ++ b.under) None)
    (shown_forms site a b)

-- whether one is of one kind and the other an unless
abbrev pub one_ensures : Record → Record → Bool
one_ensures a b = (is_ensures a.kind && is_unless b.kind) || (is_unless a.kind && is_ensures b.kind)

abbrev pub one_invariant : Record → Record → Bool
one_invariant a b = (is_invariant a.kind && is_unless b.kind) || (is_unless a.kind && is_invariant b.kind)

pub union_unless-is : (site : Site) (a b : Record) → union_unless_of site a b ≡
    needs (is_part_pair site a b) Code.OtherProgram
    (needs (is_unless a.kind && is_unless b.kind) Code.WrongKind
    (needs (same_form a.p b.p && same_form a.q b.q) Code.MiddleDiffers (united_unless site a b)))
unfolding union_unless_of
union_unless-is site a b = refl

pub union_ensures-is : (site : Site) (a b : Record) → union_ensures_of site a b ≡
    needs (is_part_pair site a b) Code.OtherProgram
    (needs (one_ensures a b) Code.WrongKind
    (needs (same_form a.p b.p && same_form a.q b.q) Code.MiddleDiffers (united_ensures site a b)))
unfolding union_ensures_of
union_ensures-is site a b = refl

pub union_invariant-is : (site : Site) (a b : Record) → union_invariant_of site a b ≡
    needs (is_part_pair site a b) Code.OtherProgram
    (needs (one_invariant a b) Code.WrongKind
    (needs (same_form a.p b.p && same_form (ending a b) Bottom) Code.MiddleDiffers (united_invariant site a b)))
unfolding union_invariant_of
union_invariant-is site a b = refl

pub union_defined-is : (site : Site) (starts : Bool) (a b : Record) → union_defined_of site starts a b ≡
    needs (is_part_pair site a b) Code.OtherProgram
    (needs (claims_defined a.kind && claims_defined b.kind) Code.WrongKind
    (needs starts Code.NoStart (united_defined site a b)))
unfolding union_defined_of
union_defined-is site starts a b = refl

-- a row of a union: of the two parts, of these kinds, whose formulas agree
abbrev pub row : Site → Record → Record → Bool → Bool → Result Conclusion Code → Result Conclusion Code
row site a b kinds agree rest =
    needs (is_part_pair site a b) Code.OtherProgram (needs kinds Code.WrongKind (needs agree Code.MiddleDiffers rest))

pub no_parts : (pair kinds agree : Bool) (rest : Result Conclusion Code) → pair ≡ false →
    needs pair Code.OtherProgram (needs kinds Code.WrongKind (needs agree Code.MiddleDiffers rest)) ≡
    Err Code.OtherProgram
no_parts pair kinds agree rest p = needs_not pair Code.OtherProgram _ p

pub no_kinds : (pair kinds agree : Bool) (rest : Result Conclusion Code) → pair ≡ true → kinds ≡ false →
    needs pair Code.OtherProgram (needs kinds Code.WrongKind (needs agree Code.MiddleDiffers rest)) ≡
    Err Code.WrongKind
no_kinds pair kinds agree rest p k = needs_met pair Code.OtherProgram _ p ∙ needs_not kinds Code.WrongKind _ k

pub no_middle : (pair kinds agree : Bool) (rest : Result Conclusion Code) → pair ≡ true → kinds ≡ true →
    agree ≡ false →
    needs pair Code.OtherProgram (needs kinds Code.WrongKind (needs agree Code.MiddleDiffers rest)) ≡
    Err Code.MiddleDiffers
no_middle pair kinds agree rest p k g =
    needs_met pair Code.OtherProgram _ p ∙ needs_met kinds Code.WrongKind _ k ∙ needs_not agree Code.MiddleDiffers _ g

pub all_met : (pair kinds agree : Bool) (rest : Result Conclusion Code) → pair ≡ true → kinds ≡ true →
    agree ≡ true →
    needs pair Code.OtherProgram (needs kinds Code.WrongKind (needs agree Code.MiddleDiffers rest)) ≡ rest
all_met pair kinds agree rest p k g =
    needs_met pair Code.OtherProgram _ p ∙ needs_met kinds Code.WrongKind _ k ∙ needs_met agree Code.MiddleDiffers _ g

pub ruleset fault_laws = (no_parts, no_kinds, no_middle, all_met)

-- as the code meets it
module _ (site : Site) (a b : Record) (kinds agree k g : Bool) (rest : Result Conclusion Code) (o : Option Code)
    (same : k ≡ kinds) (alike : g ≡ agree)
    (found : MatchOption o (row site a b k g rest ≡ rest) (λ code. row site a b k g rest ≡ Err code)) where
  back : row site a b kinds agree rest ≡ row site a b k g rest
  back = ap (λ x. row site a b x agree rest) (sym same) ∙ ap (λ x. row site a b k x rest) (sym alike)

  pub row_fails : (code : Code) → o ≡ Some code → row site a b kinds agree rest ≡ Err code
  row_fails code is =
      back ∙ subst (λ x. MatchOption x (row site a b k g rest ≡ rest) (λ code. row site a b k g rest ≡ Err code)) is
      found

  pub row_met : o ≡ None → row site a b kinds agree rest ≡ rest
  row_met is =
      back ∙ subst (λ x. MatchOption x (row site a b k g rest ≡ rest) (λ code. row site a b k g rest ≡ Err code)) is
      found
