use Rattle.std.proofs.Common.{arith, List, sym, subst, Ok}
use Rattle.core_terms.specs.declared.programs.CSlot.{CSlot}
use Rattle.core_terms.specs.declared.trees.Range.{Range}
use Rattle.fair_rounds.specs.declared.records.Record.{Record}
use Rattle.rules_table.specs.Table.{Site}
use Rattle.rules_table.specs.Terms.{term_of}
use Rattle.safety_rules.specs.Answers.{site_of}
use Rattle.leadsto_rules.specs.Leading.{TermGives, IsTermIn}
use Rattle.leadsto_rules.proofs.SeesLaws.{sees-Imply, sees-Trans, sees-Either, sees-Psp, sees-Weaken}
use Rattle.leadsto_rules.proofs.SeesLaws.{sees-Induct, sees-Exists}
use Rattle.leadsto_rules.proofs.TermLaws.{trans_given, either_given, psp_given}
use Rattle.leadsto_rules.proofs.TermSizes.{first_of_trans, second_of_trans, first_of_either, second_of_either}
use Rattle.leadsto_rules.proofs.TermSizes.{part_of_exists, part_of_induct, part_of_psp, part_of_weaken}
use Rattle.core_terms.specs.declared.documents.PTerm.TheVariants.{Exists}
use Rattle.rules_table.proofs.RowEquations.{term-Exists}
use Rattle.leadsto_rules.proofs.GivesLaws.{gives_same, part_given}
use Rattle.leadsto_rules.proofs.leading.+lead.Goals as goal

pub led_by-requires-clause-p : goal.led_by-requires-clause-p
led_by-requires-clause-p t c =
    (sees-Imply c.args.pl.now.slots.now c.args.ranges.now c.in-Imply.p c.in-Imply.q
    (subst (λ x. IsTermIn c.args.pl.now.slots.now c.args.ranges.now x) c.in-Imply.is c.requires.term)).0

pub led_by-requires-clause-q : goal.led_by-requires-clause-q
led_by-requires-clause-q t c =
    (sees-Imply c.args.pl.now.slots.now c.args.ranges.now c.in-Imply.p c.in-Imply.q
    (subst (λ x. IsTermIn c.args.pl.now.slots.now c.args.ranges.now x) c.in-Imply.is c.requires.term)).1

pub lead-requires : goal.lead-requires
lead-requires t c =
    let slots : List CSlot = c.args.pl.now.slots.now in
    let ranges : List Range = c.args.ranges.now in
    let whole = subst (λ x. IsTermIn slots ranges x) c.in-Trans.is c.requires.term in
    let smaller = first_of_trans c.args.t.now c.in-Trans.t c.in-Trans.u c.get.result.now
    c.in-Trans.is c.get.ensures in (
      omega (arith, smaller, c.decreases),
      (
        c.requires.place,
        (
          c.requires.ranges,
          (
            c.requires.book,
            subst (λ x. IsTermIn slots ranges x) (sym c.get.ensures)
                ((sees-Trans slots ranges c.in-Trans.t c.in-Trans.u whole).0),
          ),
        ),
      ),
    )

pub lead-second-requires : goal.lead-second-requires
lead-second-requires t c =
    let slots : List CSlot = c.args.pl.now.slots.now in
    let ranges : List Range = c.args.ranges.now in
    let whole = subst (λ x. IsTermIn slots ranges x) c.in-Trans.is c.requires.term in
    let smaller = second_of_trans c.args.t.now c.in-Trans.t c.in-Trans.u c.get-in-Trans.result.now c.in-Trans.is
    c.get-in-Trans.ensures in (
      omega (arith, smaller, c.decreases),
      (
        c.requires.place,
        (
          c.requires.ranges,
          (
            c.requires.book,
            subst (λ x. IsTermIn slots ranges x) (sym c.get-in-Trans.ensures)
                ((sees-Trans slots ranges c.in-Trans.t c.in-Trans.u whole).1),
          ),
        ),
      ),
    )

pub lead-requires-in-Either : goal.lead-requires-in-Either
lead-requires-in-Either t c =
    let slots : List CSlot = c.args.pl.now.slots.now in
    let ranges : List Range = c.args.ranges.now in
    let whole = subst (λ x. IsTermIn slots ranges x) c.in-Either.is c.requires.term in
    let smaller = first_of_either c.args.t.now c.in-Either.t c.in-Either.u c.get-in-Either.result.now
    c.in-Either.is c.get-in-Either.ensures in (
      omega (arith, smaller, c.decreases),
      (
        c.requires.place,
        (
          c.requires.ranges,
          (
            c.requires.book,
            subst (λ x. IsTermIn slots ranges x) (sym c.get-in-Either.ensures)
                ((sees-Either slots ranges c.in-Either.t c.in-Either.u whole).0),
          ),
        ),
      ),
    )

pub lead-second-requires-in-Either : goal.lead-second-requires-in-Either
lead-second-requires-in-Either t c =
    let slots : List CSlot = c.args.pl.now.slots.now in
    let ranges : List Range = c.args.ranges.now in
    let whole = subst (λ x. IsTermIn slots ranges x) c.in-Either.is c.requires.term in
    let smaller = second_of_either c.args.t.now c.in-Either.t c.in-Either.u c.get-in-Either-2.result.now
    c.in-Either.is c.get-in-Either-2.ensures in (
      omega (arith, smaller, c.decreases),
      (
        c.requires.place,
        (
          c.requires.ranges,
          (
            c.requires.book,
            subst (λ x. IsTermIn slots ranges x) (sym c.get-in-Either-2.ensures)
                ((sees-Either slots ranges c.in-Either.t c.in-Either.u whole).1),
          ),
        ),
      ),
    )

pub lead-requires-in-Psp : goal.lead-requires-in-Psp
lead-requires-in-Psp t c =
    let slots : List CSlot = c.args.pl.now.slots.now in
    let ranges : List Range = c.args.ranges.now in
    let whole = subst (λ x. IsTermIn slots ranges x) c.in-Psp.is c.requires.term in
    let smaller = part_of_psp c.in-Psp.r c.args.t.now c.in-Psp.t c.get-in-Psp.result.now c.in-Psp.is
    c.get-in-Psp.ensures in (
      omega (arith, smaller, c.decreases),
      (
        c.requires.place,
        (
          c.requires.ranges,
          (
            c.requires.book,
            subst (λ x. IsTermIn slots ranges x) (sym c.get-in-Psp.ensures)
                (sees-Psp slots ranges c.in-Psp.t c.in-Psp.r whole),
          ),
        ),
      ),
    )

pub lead-requires-in-Weaken : goal.lead-requires-in-Weaken
lead-requires-in-Weaken t c =
    let slots : List CSlot = c.args.pl.now.slots.now in
    let ranges : List Range = c.args.ranges.now in
    let whole = subst (λ x. IsTermIn slots ranges x) c.in-Weaken.is c.requires.term in
    let smaller = part_of_weaken c.in-Weaken.p c.in-Weaken.q c.args.t.now c.in-Weaken.t
    c.get-in-Weaken.result.now c.in-Weaken.is c.get-in-Weaken.ensures in (
      omega (arith, smaller, c.decreases),
      (
        c.requires.place,
        (
          c.requires.ranges,
          (
            c.requires.book,
            subst (λ x. IsTermIn slots ranges x) (sym c.get-in-Weaken.ensures)
                ((sees-Weaken slots ranges c.in-Weaken.p c.in-Weaken.q c.in-Weaken.t whole).1),
          ),
        ),
      ),
    )

pub led_weaker-requires-clause-p : goal.led_weaker-requires-clause-p
led_weaker-requires-clause-p t c =
    (sees-Weaken c.args.pl.now.slots.now c.args.ranges.now c.in-Weaken.p c.in-Weaken.q c.in-Weaken.t
    (subst (λ x. IsTermIn c.args.pl.now.slots.now c.args.ranges.now x) c.in-Weaken.is c.requires.term)).0.0

pub led_weaker-requires-clause-q : goal.led_weaker-requires-clause-q
led_weaker-requires-clause-q t c =
    (sees-Weaken c.args.pl.now.slots.now c.args.ranges.now c.in-Weaken.p c.in-Weaken.q c.in-Weaken.t
    (subst (λ x. IsTermIn c.args.pl.now.slots.now c.args.ranges.now x) c.in-Weaken.is c.requires.term)).0.1

pub returns-in_ok-first-in-Trans-clause-answer : goal.returns-in_ok-first-in-Trans-clause-answer
returns-in_ok-first-in-Trans-clause-answer t c =
    let site : Site = site_of c.args.pl.now in
    let ranges : List Range = c.args.ranges.now in
    let book : List Record = c.args.book.now in
    subst (λ x. TermGives c.led_on.result (term_of site ranges book x)) (sym c.in-Trans.is)
    (trans_given site ranges book c.in-Trans.t c.in-Trans.u c.in_ok-first-in-Trans.first c.lead-second.result
    c.led_on.result
    (subst (λ x. TermGives (Ok c.in_ok-first-in-Trans.first) (term_of site ranges book x)) c.get.ensures
    c.in_ok-first-in-Trans.ensures.answer)
    (subst (λ x. TermGives c.lead-second.result (term_of site ranges book x))
    c.get-in-Trans.ensures c.lead-second.ensures.answer)
    c.led_on.ensures.answer)

pub returns-in_ok-first-in-Either-clause-answer : goal.returns-in_ok-first-in-Either-clause-answer
returns-in_ok-first-in-Either-clause-answer t c =
    let site : Site = site_of c.args.pl.now in
    let ranges : List Range = c.args.ranges.now in
    let book : List Record = c.args.book.now in
    subst (λ x. TermGives c.led_either.result (term_of site ranges book x)) (sym c.in-Either.is)
    (either_given site ranges book c.in-Either.t c.in-Either.u c.in_ok-first-in-Either.first
    c.lead-second-in-Either.result c.led_either.result
    (subst (λ x. TermGives (Ok c.in_ok-first-in-Either.first) (term_of site ranges book x)) c.get-in-Either.ensures
    c.in_ok-first-in-Either.ensures.answer)
    (subst (λ x. TermGives c.lead-second-in-Either.result (term_of site ranges book x))
    c.get-in-Either-2.ensures c.lead-second-in-Either.ensures.answer)
    c.led_either.ensures.answer)

pub returns-in_ok-part-in-Psp-clause-answer : goal.returns-in_ok-part-in-Psp-clause-answer
returns-in_ok-part-in-Psp-clause-answer t c =
    let site : Site = site_of c.args.pl.now in
    let ranges : List Range = c.args.ranges.now in
    let book : List Record = c.args.book.now in
    subst (λ x. TermGives c.led_safely.result (term_of site ranges book x)) (sym c.in-Psp.is)
    (psp_given site ranges book c.in-Psp.t c.in-Psp.r c.in_ok-part-in-Psp.part c.led_safely.result
    (subst (λ x. TermGives (Ok c.in_ok-part-in-Psp.part) (term_of site ranges book x)) c.get-in-Psp.ensures
    c.in_ok-part-in-Psp.ensures.answer) c.led_safely.ensures.answer)

pub lead-requires-in-Induct : goal.lead-requires-in-Induct
lead-requires-in-Induct t c =
    let slots : List CSlot = c.args.pl.now.slots.now in
    let ranges : List Range = c.args.ranges.now in
    let whole = subst (λ x. IsTermIn slots ranges x) c.in-Induct.is c.requires.term in
    let smaller = part_of_induct c.in-Induct.name c.in-Induct.range c.in-Induct.measure c.in-Induct.p c.in-Induct.q
    c.args.t.now c.in-Induct.t c.get-in-Induct.result.now c.in-Induct.is c.get-in-Induct.ensures in (
      omega (arith, smaller, c.decreases),
      (
        c.requires.place,
        (
          c.requires.ranges,
          (
            c.requires.book,
            subst (λ x. IsTermIn slots ranges x) (sym c.get-in-Induct.ensures)
                (sees-Induct slots ranges c.in-Induct.name c.in-Induct.range c.in-Induct.measure
                c.in-Induct.p c.in-Induct.q
                c.in-Induct.t whole).1,
          ),
        ),
      ),
    )

pub led_down-requires-clause-induction : goal.led_down-requires-clause-induction
led_down-requires-clause-induction t c =
    let slots : List CSlot = c.args.pl.now.slots.now in
    let ranges : List Range = c.args.ranges.now in
    let whole = subst (λ x. IsTermIn slots ranges x) c.in-Induct.is c.requires.term in
    let own = (sees-Induct slots ranges c.in-Induct.name c.in-Induct.range c.in-Induct.measure c.in-Induct.p
    c.in-Induct.q c.in-Induct.t whole).0 in
    record { range = own.range; measure = own.measure; p = own.p; q = own.q }

pub lead-requires-in-Exists : goal.lead-requires-in-Exists
lead-requires-in-Exists t c =
    let slots : List CSlot = c.args.pl.now.slots.now in
    let ranges : List Range = c.args.ranges.now in
    let whole = subst (λ x. IsTermIn slots ranges x) c.in-Exists.is c.requires.term in
    let smaller = part_of_exists c.in-Exists.name c.in-Exists.range c.args.t.now c.in-Exists.t
    c.get-in-Exists.result.now c.in-Exists.is c.get-in-Exists.ensures in (
      omega (arith, smaller, c.decreases),
      (
        c.requires.place,
        (
          c.requires.ranges,
          (
            c.requires.book,
            subst (λ x. IsTermIn slots ranges x) (sym c.get-in-Exists.ensures)
                (sees-Exists slots ranges c.in-Exists.name c.in-Exists.range c.in-Exists.t whole).1,
          ),
        ),
      ),
    )

pub led_any-requires-clause-range : goal.led_any-requires-clause-range
led_any-requires-clause-range t c =
    let slots : List CSlot = c.args.pl.now.slots.now in
    let ranges : List Range = c.args.ranges.now in
    let whole = subst (λ x. IsTermIn slots ranges x) c.in-Exists.is c.requires.term in
    (sees-Exists slots ranges c.in-Exists.name c.in-Exists.range c.in-Exists.t whole).0

pub returns-in_ok-part-in-Exists-clause-answer : goal.returns-in_ok-part-in-Exists-clause-answer
returns-in_ok-part-in-Exists-clause-answer t c =
    let site : Site = site_of c.args.pl.now in
    let ranges : List Range = c.args.ranges.now in
    let book : List Record = c.args.book.now in
    subst (λ x. TermGives c.led_any.result (term_of site ranges book x)) (sym c.in-Exists.is)
    (gives_same c.led_any.result (term_of site ranges book (Exists c.in-Exists.name c.in-Exists.range c.in-Exists.t)) _
    (term-Exists site ranges book c.in-Exists.name c.in-Exists.range c.in-Exists.t)
    (part_given c.in_ok-part-in-Exists.part (term_of site ranges book c.in-Exists.t) _ c.led_any.result
    (subst (λ x. TermGives (Ok c.in_ok-part-in-Exists.part) (term_of site ranges book x)) c.get-in-Exists.ensures
    c.in_ok-part-in-Exists.ensures.answer) c.led_any.ensures.answer))
