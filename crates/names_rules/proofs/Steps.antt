-- Readings and parts in a row: what is read before, and what is left.
use Rattle.std.proofs.Common.{◌≡◌, ℕ, Bool, true, false, not, refl, ◌++◌, ◌∙◌, Option, None, Result, Ok, Err, sym, ap}
use Rattle.std.proofs.Common.{subst, append_assoc}
use Rattle.names_rules.specs.declared.named.NameFault.{NameFault}
use Rattle.names_rules.specs.Reading.{Fault, Words, Reading, earlier, unless, beside}
use Rattle.unity_syntax.specs.from_case_tables.declared.code_table.Code.{Code}
use Rattle.names_rules.specs.Part.{Part, before}
use Rattle.names_rules.specs.Answers.{Stops, Notes, Leaves}

-- with the table so far, the rest q leads to what the whole r leads to from the table at the start
pub record Rest (now : Words) (q : Reading) (old : Words) (r : Reading) : Type 0 where
  pub faults : q.fault ≡ r.fault
  pub words : now ++ q.words ≡ old ++ r.words

-- the same for parts
pub record Ahead {S : Type 0} (now : Words) (q : Part S) (old : Words) (r : Part S) : Type 0 where
  pub faults : q.fault ≡ r.fault
  pub words : now ++ q.words ≡ old ++ r.words
  pub after : q.after ≡ r.after

pub stops_first : (e : NameFault) (f g : Option Fault) → Stops e f → Stops e (earlier f g)
stops_first NameFault.Memory f g s = s
stops_first (NameFault.Fault code at) f g s = ap (λ y. earlier y g) s

pub stops_later : (e : NameFault) (f g : Option Fault) → f ≡ None → Stops e g → Stops e (earlier f g)
stops_later e f g h s = subst (λ y. Stops e (earlier y g)) (sym h) s

pub beside_notes : (result : Result (Unit {0}) NameFault) (old mid new : Words) (x q : Reading) →
    Notes (Ok tt) old mid x → Notes result mid new q → Notes result old new (beside x q)
beside_notes (Ok t) old mid new x q p a =
    (ap (λ y. earlier y q.fault) p.0 ∙ a.0, a.1 ∙ ap (λ y. y ++ q.words) p.1 ∙ append_assoc old x.words q.words)
beside_notes (Err e) old mid new x q p a = stops_later e x.fault q.fault p.0 a

before_leaves_at : {S T : Type 0} (result : Result (Unit {0}) NameFault) (old mid new : Words) (after : T) (p : Part S)
    (f : S → Part T) → p.fault ≡ None → mid ≡ old ++ p.words → Leaves result mid new after (f p.after) →
    Leaves result old new after (before p f)
before_leaves_at (Ok t) old mid new after p f h w a = (
  ap (λ y. earlier y (f p.after).fault) h ∙ a.0,
  a.1 ∙ ap (λ y. y ++ (f p.after).words) w ∙ append_assoc old p.words (f p.after).words,
  a.2,
)
before_leaves_at (Err e) old mid new after p f h w a = stops_later e p.fault (f p.after).fault h a

pub before_leaves : {S T : Type 0} (result : Result (Unit {0}) NameFault) (old mid new : Words) (middle : S) (after : T)
    (p : Part S) (f : S → Part T) → Leaves (Ok tt) old mid middle p → Leaves result mid new after (f middle) →
    Leaves result old new after (before p f)
before_leaves {S} {T} result old mid new middle after p f g a =
    before_leaves_at result old mid new after p f g.0 g.1 (subst (λ (y : S). Leaves result mid new after (f y)) g.2 a)

-- where it is no fault that something is new, it is not there
pub is_absent : (new there : Bool) (code : Code) (at : ℕ) → new ≡ not there → unless new code at ≡ None → there ≡ false
is_absent true true code at e h = cc
is_absent true false code at e h = refl
is_absent false there code at e h = cc
