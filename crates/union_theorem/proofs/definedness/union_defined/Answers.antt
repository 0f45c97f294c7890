use Rattle.std.proofs.Common.{◌&&◌, Bool, [], sym, ◌∙◌, arith}
use Rattle.case_tables.specs.declared.code_table.Code.{Code}
use Rattle.core_terms.specs.Values.{form_value}
use Rattle.fair_rounds.specs.declared.records.Record.{Record}
use Rattle.safety_rules.specs.from_rules_table.Table.{Site, is_part_pair, claims_defined, union_defined_of}
use Rattle.safety_rules.proofs.lemmas_from_rules_table.UnionSound.{union_defined_sound}
use Rattle.safety_rules.specs.Answers.{site_of}
use Rattle.safety_rules.proofs.AnswerLaws.{needs_met, needs_not, refused, given_by}
use Rattle.safety_rules.proofs.lemmas_from_wp_substitution.AfterLaws.{length_of_state}
use Rattle.safety_rules.proofs.StateLaws.{light_at}
use Rattle.safety_rules.proofs.SoundLaws.{site_good, answer_stands}
use Rattle.union_theorem.proofs.UnionRows.{union_defined-is, united_defined}
use Rattle.union_theorem.proofs.definedness.union_defined.Goals as goal

pub returns-then-not-is_part_pair-clause-answer : goal.returns-then-not-is_part_pair-clause-answer
returns-then-not-is_part_pair-clause-answer c =
    let site : Site = site_of c.args.pl.now in
    let a : Record = c.args.a.now in
    let b : Record = c.args.b.now in
    let starts : Bool = form_value c.args.start.now [] c.args.pl.now.program.now.initially in
    refused site.slots Code.OtherProgram _
    (union_defined-is site starts a b
    ∙ needs_not (is_part_pair site a b) Code.OtherProgram _ (sym c.is_part_pair.ensures ∙ c.if-not-is_part_pair.true))

pub returns-then-not-are_defined-clause-answer : goal.returns-then-not-are_defined-clause-answer
returns-then-not-are_defined-clause-answer c =
    let site : Site = site_of c.args.pl.now in
    let a : Record = c.args.a.now in
    let b : Record = c.args.b.now in
    let starts : Bool = form_value c.args.start.now [] c.args.pl.now.program.now.initially in
    refused site.slots Code.WrongKind _
    (union_defined-is site starts a b
    ∙ needs_met (is_part_pair site a b) Code.OtherProgram _ (sym c.is_part_pair.ensures ∙ c.if-not-is_part_pair.false)
    ∙ needs_not (claims_defined a.kind && claims_defined b.kind) Code.WrongKind _ (sym c.are_defined.ensures
    ∙ c.if-not-are_defined.true))

pub returns-then-not-holds-clause-answer : goal.returns-then-not-holds-clause-answer
returns-then-not-holds-clause-answer c =
    let site : Site = site_of c.args.pl.now in
    let a : Record = c.args.a.now in
    let b : Record = c.args.b.now in
    let starts : Bool = form_value c.args.start.now [] c.args.pl.now.program.now.initially in
    refused site.slots Code.NoStart _
    (union_defined-is site starts a b
    ∙ needs_met (is_part_pair site a b) Code.OtherProgram _ (sym c.is_part_pair.ensures ∙ c.if-not-is_part_pair.false)
    ∙ needs_met (claims_defined a.kind && claims_defined b.kind) Code.WrongKind _ (sym c.are_defined.ensures
    ∙ c.if-not-are_defined.false)
    ∙ needs_not (starts) Code.NoStart _ (sym c.holds.ensures ∙ c.if-not-holds.true))

pub holds-requires-clause-slots : goal.holds-requires-clause-slots
holds-requires-clause-slots c =
    let same = length_of_state c.args.pl.now.slots.now c.args.start.now c.requires.start in
    let few = c.requires.place.program.initially.slots_exist in
    omega (arith, same, few)

pub holds-requires-clause-weight : goal.holds-requires-clause-weight
holds-requires-clause-weight c =
    light_at c.args.pl.now.slots.now c.args.start.now c.args.pl.now.program.now.initially c.requires.start
    c.requires.place.program.initially

pub returns-clause-answer : goal.returns-clause-answer
returns-clause-answer c =
    let site : Site = site_of c.args.pl.now in
    let a : Record = c.args.a.now in
    let b : Record = c.args.b.now in
    let starts : Bool = form_value c.args.start.now [] c.args.pl.now.program.now.initially in
    given_by site.slots c.united.result _ (united_defined site a b)
    (union_defined-is site starts a b
    ∙ needs_met (is_part_pair site a b) Code.OtherProgram _ (sym c.is_part_pair.ensures ∙ c.if-not-is_part_pair.false)
    ∙ needs_met (claims_defined a.kind && claims_defined b.kind) Code.WrongKind _ (sym c.are_defined.ensures
    ∙ c.if-not-are_defined.false)
    ∙ needs_met (starts) Code.NoStart _ (sym c.holds.ensures ∙ c.if-not-holds.false))
    c.united.ensures

pub returns-clause-sound : goal.returns-clause-sound
returns-clause-sound c f g parts one two =
    let site : Site = site_of c.args.pl.now in
    let starts : Bool = form_value c.args.start.now [] c.args.pl.now.program.now.initially in
    answer_stands c.args.pl.now c.united.result (union_defined_of site starts c.args.a.now c.args.b.now)
    (λ x e valid. union_defined_sound site (site_good c.args.pl.now c.requires.place) f g parts starts c.args.a.now
    c.args.b.now one two x e valid) (returns-clause-answer c)
