use Rattle.std.proofs.Common.{◌≡◌, ℕ, nat_eq, true, false, ◌&&◌, Some, None, sym, ap, ◌∙◌}
use Rattle.superposition.proofs.LabelLaws.{equal_told, apart_told, nats_same, noted_new, noted_known, told_more}
use Rattle.superposition.proofs.labels.Pairs.agree.Goals as goal

pub returns-in_ok-note-in-None-of-2 : goal.returns-in_ok-note-in-None-of-2
returns-in_ok-note-in-None-of-2 c pairs alike notes = record {
  tells = told_more pairs c.args.label c.args.other c.args.self.now.over.by_label c.args.self.now.below.by_label notes
      None None alike c.in-None.ensures c.in-None-of.ensures;
  noted = λ _. noted_new pairs c.args.label c.args.other c.args.self.now.over.by_label
      c.args.self.now.below.by_label notes c.note.new.self.by_label c.note-in-None-of.new.self.by_label
      c.in-None.ensures c.in-None-of.ensures c.in_ok-note-in-None-of.ensures c.in_ok-note-in-None-of-2.ensures;
}

pub returns-in-Some-of : goal.returns-in-Some-of
returns-in-Some-of c pairs alike notes = record {
  tells = told_more pairs c.args.label c.args.other c.args.self.now.over.by_label c.args.self.now.below.by_label notes
      None (Some c.in-Some-of.field-0) alike c.in-None.ensures c.in-Some-of.ensures;
  noted = λ (never : false ≡ true). cc;
}

pub returns-in-None-of-2 : goal.returns-in-None-of-2
returns-in-None-of-2 c pairs alike notes = record {
  tells = told_more pairs c.args.label c.args.other c.args.self.now.over.by_label c.args.self.now.below.by_label notes
      (Some c.in-Some.over) None alike c.in-Some.ensures c.in-None-of-2.ensures;
  noted = λ (never : false ≡ true). cc;
}

pub returns-then-over-other : goal.returns-then-over-other
returns-then-over-other c pairs alike notes =
    let over : ℕ = c.in-Some.over in
    let below : ℕ = c.in-Some-of-2.below in
    record {
      tells = sym (ap (λ b. b && nat_eq below c.args.label) (equal_told over c.args.other c.if-over-other.true))
          ∙ told_more pairs c.args.label c.args.other c.args.self.now.over.by_label c.args.self.now.below.by_label
          notes (Some over) (Some below) alike c.in-Some.ensures c.in-Some-of-2.ensures;
      noted = λ (same : nat_eq below c.args.label ≡ true). noted_known pairs c.args.label c.args.other
          c.args.self.now.over.by_label c.args.self.now.below.by_label notes
          (ap (λ (n : ℕ). Some n) (sym c.if-over-other.true) ∙ c.in-Some.ensures)
          (ap (λ (n : ℕ). Some n) (sym (nats_same below c.args.label same)) ∙ c.in-Some-of-2.ensures);
    }

pub returns-else-over-other : goal.returns-else-over-other
returns-else-over-other c pairs alike notes =
    let over : ℕ = c.in-Some.over in
    let below : ℕ = c.in-Some-of-2.below in
    let apart : nat_eq over c.args.other ≡ false = apart_told over c.args.other c.if-over-other.false in
    record {
      tells = apart ∙ sym (ap (λ b. b && nat_eq below c.args.label) apart)
          ∙ told_more pairs c.args.label c.args.other c.args.self.now.over.by_label c.args.self.now.below.by_label
          notes (Some over) (Some below) alike c.in-Some.ensures c.in-Some-of-2.ensures;
      noted = λ (same : nat_eq over c.args.other ≡ true). let never : true ≡ false = sym same ∙ apart in cc;
    }
