use Rattle.std.proofs.Common.{◌≡◌, ◌&&◌, drop, nat_eq}
use Rattle.std.specs.List.{find}
use Rattle.fair_rounds.specs.declared.records.Record.{Record}
use Rattle.rules_steps.proofs.using.find_record.Given as goal

abbrev pub invariant-loop-record : goal.invariant-loop-record
invariant-loop-record l =
    find (λ (a : Record). nat_eq a.program l.program && nat_eq a.name l.step) (drop l.record-index l.book)
    ≡ find (λ (a : Record). nat_eq a.program l.program && nat_eq a.name l.step) l.book
