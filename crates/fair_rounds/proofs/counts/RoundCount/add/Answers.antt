use Rattle.std.proofs.Common.{◌≡◌, ℕ, List, ◌∷◌, ◌||◌, ◌-◌, ◌^◌, ◌<◌, min, false, true, nat_eq, sym, ap, ◌∙◌, arith}
use Rattle.std.specs.List.{list_any}
use Rattle.fair_rounds.specs.Counts.{since_round, missing}
use Rattle.fair_rounds.proofs.CountLaws.{round_goes_on, same_full, same_among, same_missing, one_less, full_where}
use Rattle.fair_rounds.proofs.CountLaws.{not_full_where, missing_none, same_round, new_round}
use Rattle.fair_rounds.proofs.counts.RoundCount.add.Goals as goal

pub returns-then-has-clause-longer : goal.returns-then-has-clause-longer
returns-then-has-clause-longer c choices stands =
    let k : ℕ = c.args.self.now.instances in
    let S : List ℕ = since_round k choices in
    let there : list_any (nat_eq c.args.choice) S ≡ true =
    sym (stands.chosen c.args.choice) ∙ sym c.has.ensures ∙ c.if-has.true in
    let same = same_round k c.args.choice choices
    (same_full k c.args.choice S there ∙ round_goes_on k choices c.args.self.now.some) in
    record {
      ended = stands.ended ∙ sym (ap (λ r. min r (2 ^ 64 - 1)) same.rounds_are);
      chosen = λ n. stands.chosen n ∙
          sym (ap (list_any (nat_eq n)) same.since ∙ same_among n c.args.choice S there);
      left = stands.left ∙ sym (ap (missing k) same.since ∙ same_missing k c.args.choice S there);
    }

pub returns-then-self-gt1-clause-longer : goal.returns-then-self-gt1-clause-longer
returns-then-self-gt1-clause-longer c choices stands =
    let k : ℕ = c.args.self.now.instances in
    let S : List ℕ = since_round k choices in
    let new : list_any (nat_eq c.args.choice) S ≡ false =
    sym (stands.chosen c.args.choice) ∙ sym c.has.ensures ∙ c.if-has.false in
    let less = one_less k c.args.choice S c.requires new in
    let more = c.if-self-gt1.true in
    let are = stands.left in
    let some : 0 < missing k (c.args.choice ∷ S) = omega arith in
    let same = same_round k c.args.choice choices (not_full_where k (c.args.choice ∷ S) some) in
    let now = ap (missing k) same.since in
    record {
      ended = stands.ended ∙ sym (ap (λ r. min r (2 ^ 64 - 1)) same.rounds_are);
      chosen = λ n. c.add.ensures n ∙ ap (λ b. nat_eq n c.args.choice || b) (stands.chosen n) ∙
          sym (ap (list_any (nat_eq n)) same.since);
      left = omega arith;
    }

pub returns-else-self-gt1-clause-longer : goal.returns-else-self-gt1-clause-longer
returns-else-self-gt1-clause-longer c choices stands =
    let k : ℕ = c.args.self.now.instances in
    let S : List ℕ = since_round k choices in
    let new : list_any (nat_eq c.args.choice) S ≡ false =
    sym (stands.chosen c.args.choice) ∙ sym c.has.ensures ∙ c.if-has.false in
    let less = one_less k c.args.choice S c.requires new in
    let more = c.if-self-gt1.false in
    let are = stands.left in
    let none : missing k (c.args.choice ∷ S) ≡ 0 = omega arith in
    let full = new_round k c.args.choice choices (full_where k (c.args.choice ∷ S) none) in
    let rounds_are = full.rounds_are in
    let before = stands.ended in
    record {
      ended = let one_more = c.saturating_add-self.ensures in omega arith;
      chosen = λ n. c.none-self.ensures n ∙ sym (ap (list_any (nat_eq n)) full.since);
      left = sym (ap (missing k) full.since ∙ missing_none k);
    }
