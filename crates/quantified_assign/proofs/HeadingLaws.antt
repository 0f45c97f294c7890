-- Headings one after the other.
use Rattle.std.proofs.Common.{◌≡◌, ℕ, suc, ◌+◌, ◌<◌, List, [], ◌∷◌, ◌++◌, length, take, Option, Some, None, cond, refl}
use Rattle.std.proofs.Common.{sym, ap, ◌∙◌, arith, Result, Ok, Err}
use Rattle.std.specs.Prelude.{is_some}
use Rattle.std.specs.List.{flat_map}
use Rattle.case_tables.specs.declared.code_table.Code.{Code}
use Rattle.unity_syntax.specs.declared.declaration.Def.{Def}
use Rattle.unity_syntax.specs.declared.program.Program.{Program}
use Rattle.unity_syntax.specs.declared.document.Part.{Part}
use Rattle.meaning_documents.specs.Setting.{definitions}
use Rattle.names_rules.specs.declared.named.NameFault.{NameFault}
use Rattle.names_rules.specs.Reading.{Fault, earlier}
use Rattle.names_rules.specs.Answers.{Stops}
use Rattle.names_rules.proofs.Steps.{stops_later}
use Rattle.names_rules.proofs.Faults.{earlier_first, earlier_second}
use Rattle.expand_rules.specs.Forming.{Scope}
use Rattle.expand_documents.specs.AlwaysNames.{Always, AreSound, Defines, with_definition, with_definitions}
use Rattle.expand_documents.specs.AlwaysNames.{definitions_fault}
use Rattle.expand_documents.specs.Cores.{part_definitions, with_parts}
use Rattle.expand_documents.specs.Faults.{count_fault, heading_fault, headings_fault, headed}
use Rattle.quantified_assign.specs.Headings.{AddedHeading, AddsHeading, AddedHeadings}
use Rattle.quantified_assign.specs.Headings.{IsHeadingStop}

-- the same place, with other always names
abbrev pub among : Scope → Always → Scope
among s always = record s { always = always }

-- definitions change always names alone
pub definitions_same : (s : Scope) (ds : List Def) → with_definitions s ds ≡ among s (with_definitions s ds).always
definitions_same s [] = refl
definitions_same s (d ∷ ds) = definitions_same (with_definition s d) ds

definitions-append : (s : Scope) (ds es : List Def) →
    with_definitions s (ds ++ es) ≡ with_definitions (with_definitions s ds) es
definitions-append s [] es = refl
definitions-append s (d ∷ ds) es = definitions-append (with_definition s d) ds es

-- where a part's always names have become these
pub parts_known : (s : Scope) (new : Always) (parts : List Part) → new ≡ (with_parts s parts).always →
    among s new ≡ with_parts s parts
parts_known s new parts e =
    ap (among s) e ∙ sym (definitions_same s (flat_map part_definitions parts))

-- a program's heading
pub heading_after : (result : Result (Unit {0}) NameFault) (s : Scope) (new : Always) (at : ℕ) (p : Program) →
    count_fault p ≡ None → Defines result s new (definitions p) → AddsHeading result s new (Part.Program at p)
heading_after (Ok t) s new at p c d = record {
  always = d.always;
  sound = d.sound;
  fine = ap (λ (f : Option Fault). earlier f (definitions_fault s (definitions p))) c ∙ d.fine;
}
heading_after (Err e) s new at p c d = stops_later e (count_fault p) (definitions_fault s (definitions p)) c d

-- with the always names of the parts before this place, these lead to what all lead to from the old ones
pub record HeadingsAhead (now : Scope) (place : ℕ) (rest : List Part) (old : Scope) (all : List Part) : Type 0 where
  pub always : (with_parts now rest).always ≡ (with_parts old all).always
  pub faults : headings_fault now rest ≡ headings_fault old all
  pub places : place + length (headed now rest) ≡ length (headed old all)
  pub sound : AreSound now.always

pub headings_more : (now old : Scope) (next : Always) (place : ℕ) (p : Part) (rest all : List Part) →
    HeadingsAhead now place (p ∷ rest) old all → AddedHeading now next p →
    HeadingsAhead (among now next) (place + 1) rest old all
headings_more now old next place p rest all ahead a =
    let after : Scope = with_definitions now (part_definitions p) in
    let same : among now next ≡ after = ap (among now) a.always ∙ sym (definitions_same now (part_definitions p)) in
    let more : length (headed now (p ∷ rest)) ≡ suc (length (headed (among now next) rest)) =
    ap (λ (f : Option Fault). length (cond (is_some f) [] (p ∷ headed after rest))) a.fine
    ∙ ap (λ (s : Scope). suc (length (headed s rest))) (sym same) in
    record {
      always = ap (λ (s : Scope). (with_parts s rest).always) same
          ∙ sym (ap (λ (s : Scope). s.always)
          (definitions-append now (part_definitions p) (flat_map part_definitions rest))) ∙ ahead.always;
      faults = ap (λ (s : Scope). headings_fault s rest) same
          ∙ sym (ap (λ (f : Option Fault). earlier f (headings_fault after rest)) a.fine) ∙ ahead.faults;
      places = omega (arith, more, ahead.places);
      sound = a.sound;
    }

pub headings_last : (now old : Scope) (place : ℕ) (all : List Part) → HeadingsAhead now place [] old all →
    AddedHeadings old now.always all
headings_last now old place all ahead =
    record { always = ahead.always; sound = ahead.sound; fine = sym ahead.faults }

-- the parts before the first heading with a fault come first
headed_first : (s : Scope) (parts : List Part) → headed s parts ≡ take (length (headed s parts)) parts
headed_first s [] = refl
headed_first s (p ∷ rest) = by (headed (with_definitions s (part_definitions p)) rest)
    (headed_first (with_definitions s (part_definitions p)) rest) (heading_fault s p)
  where
    by : (ps : List Part) → ps ≡ take (length ps) rest → (f : Option Fault) →
        cond (is_some f) [] (p ∷ ps) ≡ take (length (cond (is_some f) [] (p ∷ ps))) (p ∷ rest)
    by ps e (Some f) = refl
    by ps e None = ap (λ (qs : List Part). p ∷ qs) e

pub headings_stop : (now old : Scope) (place : ℕ) (p : Part) (rest all : List Part) (code : Code) (at : ℕ) →
    place < length all → HeadingsAhead now place (p ∷ rest) old all →
    Stops (NameFault.Fault code at) (heading_fault now p) →
    IsHeadingStop old (record { place = place; code = code; at = at }) all
headings_stop now old place p rest all code at within ahead stops =
    let after : Scope = with_definitions now (part_definitions p) in
    let none : length (headed now (p ∷ rest)) ≡ 0 =
    ap (λ (f : Option Fault). length (cond (is_some f) [] (p ∷ headed after rest))) stops in
    let here : length (headed old all) ≡ place = omega (arith, none, ahead.places) in
    record {
      within = within;
      headed = headed_first old all ∙ ap (λ (n : ℕ). take n all) here;
      fault = sym ahead.faults ∙ ap (λ (f : Option Fault). earlier f (headings_fault after rest)) stops;
    }

-- with no fault, all parts come first
pub fine_headed : (s : Scope) (parts : List Part) → headings_fault s parts ≡ None → headed s parts ≡ parts
fine_headed s [] h = refl
fine_headed s (p ∷ rest) h =
    let after : Scope = with_definitions s (part_definitions p) in
    ap (λ (f : Option Fault). cond (is_some f) [] (p ∷ headed after rest))
    (earlier_first (heading_fault s p) (headings_fault after rest) h)
    ∙ ap (λ (ps : List Part). p ∷ ps)
    (fine_headed after rest (earlier_second (heading_fault s p) (headings_fault after rest) h))

-- and they have no fault
pub headed_fine : (s : Scope) (parts : List Part) → headings_fault s (headed s parts) ≡ None
headed_fine s [] = refl
headed_fine s (p ∷ rest) = by (headed_fine (with_definitions s (part_definitions p)) rest) (heading_fault s p) refl
  where
    after : Scope
    after = with_definitions s (part_definitions p)

    by : headings_fault after (headed after rest) ≡ None → (f : Option Fault) → heading_fault s p ≡ f →
        headings_fault s (cond (is_some f) [] (p ∷ headed after rest)) ≡ None
    by h (Some f) e = refl
    by h None e = ap (λ (f : Option Fault). earlier f (headings_fault after (headed after rest))) e ∙ h
