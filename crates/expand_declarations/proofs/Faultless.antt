-- What has no fault where a document has none.
use Rattle.std.proofs.Common.{◌≡◌, ℕ, ◌≤◌, List, [], ◌∷◌, Bool, true, false, not, None, refl, All, nat_le, arith}
use Rattle.std.proofs.Common.{unsigned_abs}
use Rattle.std.specs.Prelude.{ℤ}
use Rattle.std.specs.Int.RustNames.{int_le}
use Rattle.std.proofs.lemmas.Int.{ints}
use Rattle.std.proofs.lemmas.List.Elements.{All-nil, All-cons}
use borrow.Author.Tests.{leb-true}
use borrow.Author.Differences.{le-true}
use lib.Signed.{◌≤ℤ◌}
use Rattle.case_tables.specs.declared.code_table.Code.{Code}
use Rattle.unity_syntax.specs.declared.name.End.{End}
use Rattle.unity_syntax.specs.declared.name.Range.{Range}
use Rattle.expand_expressions.specs.from_meaning_documents.Value.{end_value, range_ends}
use Rattle.core_terms.specs.Conditions.{IsRange}
use Rattle.names_rules.specs.Reading.{earlier, unless, signed, end_limit, end_reading, upside_down, filled}
use Rattle.names_rules.specs.Part.{Part, run}
use Rattle.names_rules.proofs.Faults.{earlier_first, earlier_second, unless_none}
use Rattle.expand_declarations.specs.Numbers.{core_range}

-- each part of a row has no fault
pub each_of_run : {S X : Type 0} (f : S → X → Part S) (P : X → Type 0) →
    ((s : S) (x : X) → (f s x).fault ≡ None → P x) → (s : S) (xs : List X) → (run f s xs).fault ≡ None → All P xs
each_of_run f P each s [] h = All-nil P
each_of_run f P each s (x ∷ xs) h = All-cons P x xs
    (each s x (earlier_first (f s x).fault (run f (f s x).after xs).fault h))
    (each_of_run f P each (f s x).after xs (earlier_second (f s x).fault (run f (f s x).after xs).fault h))

not_true : (b : Bool) → not (not b) ≡ true → b ≡ true
not_true true h = refl
not_true false h = cc h

-- an end of a range without names
pub record IsEnd (e : End) : Type 0 where
  pub minus : Bool
  pub number : ℕ
  pub same : end_value [] e ≡ signed minus number
  pub small : number ≤ 1000000000

sound_end : (e : End) → (end_reading [] e).fault ≡ None → IsEnd e
sound_end (End.Number at minus number) h = record {
  minus = minus;
  number = number;
  same = refl;
  small = leb-true number end_limit (unless_none (nat_le number end_limit) Code.BadRange at h);
}
sound_end (End.Word at name offset) h = cc h

small_signed : (minus : Bool) (n : ℕ) → n ≤ 1000000000 → unsigned_abs (signed minus n) ≤ 1000000000
small_signed true n h = omega (arith, ints)
small_signed false n h = omega (arith, ints)

in_order : (low high : End) → (end_reading [] low).fault ≡ None → (end_reading [] high).fault ≡ None →
    not (upside_down low high) ≡ true → int_le (end_value [] low) (end_value [] high) ≡ true
in_order (End.Number at minus number) (End.Number at2 minus2 number2) h k o =
    not_true (int_le (signed minus number) (signed minus2 number2)) o
in_order (End.Number at minus number) (End.Word at2 name offset) h k o = cc k
in_order (End.Word at name offset) high h k o = cc h

at_most : (a b : ℤ) → int_le a b ≡ true → a ≤ℤ b
at_most a b e = let h = le-true a b e in omega (arith, ints)

-- a range that has no fault
pub sound_range : (r : Range) → (filled [] r).fault ≡ None → IsRange (core_range (range_ends [] r))
sound_range r h =
    let low = end_reading [] r.low in let high = end_reading [] r.high in
    let ends = earlier_first (earlier low.fault high.fault)
    (unless (not (upside_down r.low r.high)) Code.BadRange r.at) h in
    let order = unless_none (not (upside_down r.low r.high)) Code.BadRange r.at
    (earlier_second (earlier low.fault high.fault)
    (unless (not (upside_down r.low r.high)) Code.BadRange r.at) h) in
    let first = earlier_first low.fault high.fault ends in
    let second = earlier_second low.fault high.fault ends in
    let a = sound_end r.low first in let b = sound_end r.high second in
    record {
      some = at_most (end_value [] r.low) (end_value [] r.high) (in_order r.low r.high first second order);
      low = rw a.same (small_signed a.minus a.number a.small);
      high = rw b.same (small_signed b.minus b.number b.small);
    }
