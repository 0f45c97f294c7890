-- What a step by `superpose` met: the record that it refers to, its program, and the row's conditions.
use Rattle.std.proofs.Common.{◌≡◌, nat_eq, not, List, [], ◌∷◌, Bool, Option, Some, None, Result, Ok, IsTrue, ap, subst}
use Rattle.case_tables.specs.declared.kind_table.Kind.{Kind}
use Rattle.case_tables.specs.declared.code_table.Code.{Code}
use Rattle.core_terms.specs.declared.programs.CProgram.{CProgram}
use Rattle.core_terms.specs.declared.documents.Ref.{Ref}
use Rattle.core_terms.specs.declared.documents.CStep.{CStep}
use Rattle.fair_rounds.specs.declared.records.Record.{Record}
use Rattle.rules_table.specs.Conclusion.{Conclusion}
use Rattle.rules_table.specs.Table.{Site, needs, go_on, concluded, instance_of}
use Rattle.rules_table.specs.Terms.{found}
use Rattle.rules_table.specs.Layers.{is_layer, names_old, is_carried, starts_below, record_over, superpose_of}
use Rattle.rules_table.specs.Walk.{Around, is_kind, program_of, other_record, some_program, superposed}
use Rattle.rules_table.proofs.CalcSound.{instance_is}
use Rattle.rules_table.proofs.SiteLaws.{met, went_on}

-- what the row's conditions say
pub record IsSuperposed (site : Site) (f : CProgram) (a : Record) (x : Conclusion) : Type 0 where
  pub carried : IsTrue (is_carried a.kind)
  pub layer : IsTrue (is_layer site.program f)
  pub old : IsTrue (names_old site.program f a)
  pub gives : concluded site.slots site.params (record_over site f a) (starts_below site f ∷ []) ≡ Ok x

pub row_met : (site : Site) (f : CProgram) (a : Record) (x : Conclusion) → superpose_of site f a ≡ Ok x →
    IsSuperposed site f a x
unfolding superpose_of
row_met site f a x e =
    let end : Result Conclusion Code =
    concluded site.slots site.params (record_over site f a) (starts_below site f ∷ []) in
    let one = met (not (nat_eq a.program site.program.name)) Code.OtherProgram
    (needs (is_carried a.kind) Code.WrongKind (needs (is_layer site.program f) Code.NotALayer
    (needs (names_old site.program f a) Code.NamesNewVariable end))) x e in
    let two = met (is_carried a.kind) Code.WrongKind (needs (is_layer site.program f) Code.NotALayer
    (needs (names_old site.program f a) Code.NamesNewVariable end)) x one.1 in
    let three = met (is_layer site.program f) Code.NotALayer
    (needs (names_old site.program f a) Code.NamesNewVariable end) x two.1 in
    let four = met (names_old site.program f a) Code.NamesNewVariable end x three.1 in
    record { carried = two.0; layer = three.0; old = four.0; gives = four.1 }

-- the record of another program that a reference finds, of which b is the instance
pub record OfOther (site : Site) (book : List Record) (serves : Kind → Bool) (r : Ref) (b : Record) : Type 0 where
  pub a : Record
  pub there : found book r ≡ Ok a
  pub serving : IsTrue (serves b.kind)
  pub gives : instance_of site site.params a r.args ≡ Ok b

pub other_given : (site : Site) (book : List Record) (serves : Kind → Bool) (r : Ref) (b : Record) →
    other_record site book serves r ≡ Ok b → OfOther site book serves r b
other_given site book serves r b e =
    let one = went_on (found book r) (λ (a : Record).
    needs (not (nat_eq a.program site.program.name)) Code.OtherProgram
    (needs (serves a.kind) Code.WrongKind (instance_of site site.params a r.args))) b e in
    let a : Record = one.0 in
    let two = met (not (nat_eq a.program site.program.name)) Code.OtherProgram
    (needs (serves a.kind) Code.WrongKind (instance_of site site.params a r.args)) b one.2 in
    let three = met (serves a.kind) Code.WrongKind (instance_of site site.params a r.args) b two.1 in
    let is = instance_is site site.params a r.args b three.1 in
    record {
      a = a;
      there = one.1;
      serving = subst (λ (m : Record). IsTrue (serves m.kind)) is.1 three.0;
      gives = three.1;
    }

-- the record and its program, over which the site's is a layer
pub record OfLayer (seen : Around) (site : Site) (step : CStep) (book : List Record) (r : Ref) (x : Conclusion) :
    Type 0 where
  pub a : Record
  pub f : CProgram
  pub referred : other_record site book (is_kind step.kind) r ≡ Ok a
  pub program : program_of seen.programs a.program ≡ Some f
  pub gives : superpose_of site f a ≡ Ok x

is_program : (o : Option CProgram) (f : CProgram) → some_program o ≡ Ok f → o ≡ Some f
is_program None f e = cc
is_program (Some d) f e = let same : d ≡ f = cc in ap (λ p. Some p) same

pub layer_given : (seen : Around) (site : Site) (step : CStep) (book : List Record) (r : Ref) (x : Conclusion) →
    superposed seen site step book r ≡ Ok x → OfLayer seen site step book r x
layer_given seen site step book r x e =
    let one = went_on (other_record site book (is_kind step.kind) r) (λ (a : Record).
    go_on (some_program (program_of seen.programs a.program)) (λ f. superpose_of site f a)) x e in
    let a : Record = one.0 in
    let two = went_on (some_program (program_of seen.programs a.program)) (λ f. superpose_of site f a) x one.2 in
    record {
      a = a;
      f = two.0;
      referred = one.1;
      program = is_program (program_of seen.programs a.program) two.0 two.1;
      gives = two.2;
    }
