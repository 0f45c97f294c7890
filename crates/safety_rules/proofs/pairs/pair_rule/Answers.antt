use Rattle.std.proofs.Common.{Result, ◌≡◌, Err, refl}
use Rattle.case_tables.specs.declared.rule_table.RuleName.{RuleName}
use Rattle.case_tables.specs.declared.code_table.Code.{Code}
use Rattle.fair_rounds.specs.declared.records.Record.{Record}
use Rattle.rules_table.specs.Table.{Site, pair_of}
use Rattle.safety_rules.specs.declared.places.Place.{Place}
use Rattle.safety_rules.specs.declared.places.Derived.{Derived}
use Rattle.safety_rules.specs.declared.places.RuleError.{RuleError}
use Rattle.safety_rules.specs.Sound.{StandsAt, StandsWhereShown}
use Rattle.safety_rules.specs.Answers.{RuleAnswers, IsPlace, IsPremiseAt, site_of}
use Rattle.rules_table.proofs.CalcSound.{pair_sound}
use Rattle.safety_rules.proofs.SoundLaws.{site_good, premise_good, answer_stands}
use Rattle.safety_rules.proofs.AnswerLaws.{refused}
use Rattle.safety_rules.proofs.pairs.pair_rule.Goals as goal

-- of other rules a pair gives nothing
other_pair : (site : Site) (which : RuleName) (a b : Record) → (which ≡ RuleName.Conj → ⊥) →
    (which ≡ RuleName.Simpleconj → ⊥) → (which ≡ RuleName.Disj → ⊥) → (which ≡ RuleName.Simpledisj → ⊥) →
    (which ≡ RuleName.Cancel → ⊥) → pair_of site which a b ≡ Err Code.WrongKind
unfolding pair_of
other_pair site RuleName.Conj a b conj simple disj other cancel = absurd (conj refl)
other_pair site RuleName.Simpleconj a b conj simple disj other cancel = absurd (simple refl)
other_pair site RuleName.Disj a b conj simple disj other cancel = absurd (disj refl)
other_pair site RuleName.Simpledisj a b conj simple disj other cancel = absurd (other refl)
other_pair site RuleName.Cancel a b conj simple disj other cancel = absurd (cancel refl)
other_pair site _ a b conj simple disj other cancel = refl

pair_stands : (pl : Place) → IsPlace pl → (which : RuleName) (a b : Record) → IsPremiseAt pl a → IsPremiseAt pl b →
    StandsAt pl a → StandsAt pl b → (answer : Result Derived RuleError) →
    RuleAnswers answer pl.slots.now (pair_of (site_of pl) which a b) → StandsWhereShown pl answer
pair_stands pl place which a b pa pb one two answer given =
    answer_stands pl answer (pair_of (site_of pl) which a b)
    (λ x e valid. pair_sound (site_of pl) (site_good pl place) which a b (premise_good pl a pa one)
    (premise_good pl b pb two) x e valid) given

pub returns-in_default-clause-answer : goal.returns-in_default-clause-answer
returns-in_default-clause-answer c =
    let site : Site = site_of c.args.pl.now in
    refused site.slots Code.WrongKind _
    (other_pair site c.args.which c.args.a.now c.args.b.now c.in_default.not-Conj c.in_default.not-Simpleconj
    c.in_default.not-Disj c.in_default.not-Simpledisj c.in_default.not-Cancel)

pub returns-in-Conj-clause-sound : goal.returns-in-Conj-clause-sound
returns-in-Conj-clause-sound c one two =
    pair_stands c.args.pl.now c.requires.place RuleName.Conj c.args.a.now c.args.b.now c.requires.a c.requires.b one
    two
    c.conj.result c.conj.ensures

pub returns-in-Simpleconj-clause-sound : goal.returns-in-Simpleconj-clause-sound
returns-in-Simpleconj-clause-sound c one two =
    pair_stands c.args.pl.now c.requires.place RuleName.Simpleconj c.args.a.now c.args.b.now c.requires.a
    c.requires.b one two
    c.simple.result c.simple.ensures

pub returns-in-Disj-clause-sound : goal.returns-in-Disj-clause-sound
returns-in-Disj-clause-sound c one two =
    pair_stands c.args.pl.now c.requires.place RuleName.Disj c.args.a.now c.args.b.now c.requires.a c.requires.b one
    two
    c.disj.result c.disj.ensures

pub returns-in-Simpledisj-clause-sound : goal.returns-in-Simpledisj-clause-sound
returns-in-Simpledisj-clause-sound c one two =
    pair_stands c.args.pl.now c.requires.place RuleName.Simpledisj c.args.a.now c.args.b.now c.requires.a
    c.requires.b one two
    c.simple-in-Simpledisj.result c.simple-in-Simpledisj.ensures

pub returns-in-Cancel-clause-sound : goal.returns-in-Cancel-clause-sound
returns-in-Cancel-clause-sound c one two =
    pair_stands c.args.pl.now c.requires.place RuleName.Cancel c.args.a.now c.args.b.now c.requires.a
    c.requires.b one two
    c.cancel.result c.cancel.ensures
