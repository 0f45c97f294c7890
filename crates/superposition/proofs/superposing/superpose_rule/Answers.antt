use Rattle.std.proofs.Common.{sym, ◌∙◌}
use Rattle.safety_rules.specs.from_rules_table.Layers.{superpose_of}
use Rattle.safety_rules.proofs.lemmas_from_rules_table.LayerSound.{superpose_sound}
use Rattle.safety_rules.specs.Answers.{site_of}
use Rattle.safety_rules.proofs.SoundLaws.{site_good, answer_stands}
use Rattle.superposition.proofs.RowLaws.{own_record, other_kind, other_layer, other_names, as_carried}
use Rattle.superposition.proofs.superposing.superpose_rule.Goals as goal

pub returns-then-a-pl-clause-answer : goal.returns-then-a-pl-clause-answer
returns-then-a-pl-clause-answer c = own_record (site_of c.args.pl.now) c.args.f.now c.args.a.now c.if-a-pl.true

pub returns-then-not-is_carried-clause-answer : goal.returns-then-not-is_carried-clause-answer
returns-then-not-is_carried-clause-answer c =
    other_kind (site_of c.args.pl.now) c.args.f.now c.args.a.now c.if-a-pl.false
    (sym c.is_carried.ensures ∙ c.if-not-is_carried.true)

pub returns-then-not-branch-clause-answer : goal.returns-then-not-branch-clause-answer
returns-then-not-branch-clause-answer c =
    other_layer (site_of c.args.pl.now) c.args.f.now c.args.a.now c.if-a-pl.false
    (sym c.is_carried.ensures ∙ c.if-not-is_carried.false) (sym c.in_ok-is_layer.ensures ∙ c.if-not-branch.true)

pub returns-then-not-branch-2-clause-answer : goal.returns-then-not-branch-2-clause-answer
returns-then-not-branch-2-clause-answer c =
    other_names (site_of c.args.pl.now) c.args.f.now c.args.a.now c.if-a-pl.false
    (sym c.is_carried.ensures ∙ c.if-not-is_carried.false) (sym c.in_ok-is_layer.ensures ∙ c.if-not-branch.false)
    (sym (c.in_ok-is_named_below.ensures c.args.f.now (c.in_ok-below.ensures ∙ c.as_slice.ensures))
    ∙ c.if-not-branch-2.true)

pub returns-clause-answer : goal.returns-clause-answer
returns-clause-answer c =
    as_carried (site_of c.args.pl.now) c.args.f.now c.args.a.now c.if-a-pl.false
    (sym c.is_carried.ensures ∙ c.if-not-is_carried.false) (sym c.in_ok-is_layer.ensures ∙ c.if-not-branch.false)
    (sym (c.in_ok-is_named_below.ensures c.args.f.now (c.in_ok-below.ensures ∙ c.as_slice.ensures))
    ∙ c.if-not-branch-2.false) c.carried.result c.carried.ensures

pub returns-clause-sound : goal.returns-clause-sound
returns-clause-sound c stands =
    answer_stands c.args.pl.now c.carried.result (superpose_of (site_of c.args.pl.now) c.args.f.now c.args.a.now)
    (λ x e valid. superpose_sound (site_of c.args.pl.now) (site_good c.args.pl.now c.requires.place)
    c.requires.place.program c.args.f.now c.requires.under c.args.a.now
    (record { params = c.requires.record.params; stands = stands }) x e valid) (returns-clause-answer c)
