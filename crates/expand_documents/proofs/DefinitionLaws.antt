-- Definitions one after the other.
use Rattle.std.proofs.Common.{◌≡◌, ℕ, List, [], ◌∷◌, Bool, true, false, cond, Option, Some, None, refl, sym, ap, ◌∙◌}
use Rattle.std.proofs.Common.{subst}
use Rattle.std.specs.Prelude.{if◌then◌else◌}
use Rattle.std.specs.Map.{lookup}
use Rattle.std.specs.Str.{bytes_eq}
use Rattle.indexmap.specs.IndexMap.{insert_entry}
use Rattle.unity_syntax.specs.declared.declaration.Def.{Def}
use Rattle.names_rules.specs.declared.named.NameFault.{NameFault}
use Rattle.names_rules.specs.Reading.{Fault, earlier}
use Rattle.names_rules.specs.Answers.{Stops}
use Rattle.names_rules.proofs.Steps.{stops_first}
use Rattle.names_rules.proofs.Faults.{earlier_first}
use Rattle.expand_rules.specs.declared.cores.Formed.{Formed}
use Rattle.expand_rules.specs.Forming.{Scope, formed}
use Rattle.expand_expressions.specs.Sound.{IsSound}
use Rattle.expand_documents.specs.AlwaysNames.{Always, AreSound, IsMade, Defined, with_definition, with_definitions}
use Rattle.expand_documents.specs.AlwaysNames.{definition_fault, definitions_fault}

-- a sound core that is entered
entered_at : (word : List ℕ) (f : Formed) → IsSound f → (name : List ℕ) (es : Always) →
    ((a : Formed) → lookup (bytes_eq name) es ≡ Some a → IsSound a) → (a : Formed) →
    lookup (bytes_eq name) (insert_entry bytes_eq es word f) ≡ Some a → IsSound a
entered_at word f new name [] known a e = by (bytes_eq name word) e
  where
    by : (c : Bool) → cond c (Some f) None ≡ Some a → IsSound a
    by true e = let same : f ≡ a = cc in subst IsSound same new
    by false e = cc e
entered_at word f new name (x ∷ xs) known a e =
    at (bytes_eq name x.0) (bytes_eq word x.0) known (entered_at word f new name xs)
    (sym (split (bytes_eq word x.0)) ∙ e)
  where
    split : (b : Bool) → lookup (bytes_eq name) (if b then (x.0, f) ∷ xs else x ∷ insert_entry bytes_eq xs word f) ≡
        cond (bytes_eq name x.0) (Some (if b then f else x.1))
        (if b then lookup (bytes_eq name) xs else lookup (bytes_eq name) (insert_entry bytes_eq xs word f))
    split true = refl
    split false = refl

    at : (c b : Bool) → ((g : Formed) → cond c (Some x.1) (lookup (bytes_eq name) xs) ≡ Some g → IsSound g) →
        (((g : Formed) → lookup (bytes_eq name) xs ≡ Some g → IsSound g) → (g : Formed) →
        lookup (bytes_eq name) (insert_entry bytes_eq xs word f) ≡ Some g → IsSound g) →
        cond c (Some (if b then f else x.1))
        (if b then lookup (bytes_eq name) xs else lookup (bytes_eq name) (insert_entry bytes_eq xs word f)) ≡ Some a →
        IsSound a
    at true true p rest e = let same : f ≡ a = cc in subst IsSound same new
    at true false p rest e = p a e
    at false true p rest e = p a e
    at false false p rest e = rest p a e

pub entered_sound : (always : Always) (word : List ℕ) (f : Formed) → AreSound always → IsSound f →
    AreSound (insert_entry bytes_eq always word f)
entered_sound always word f sound new = record {
  each = λ name a e. entered_at word f new name always (sound.each name) a e;
}

-- with what is defined so far, these lead to what all lead to from the old ones
pub record DefinedAhead (now : Scope) (rest : List Def) (old : Scope) (all : List Def) : Type 0 where
  pub always : (with_definitions now rest).always ≡ (with_definitions old all).always
  pub faults : definitions_fault now rest ≡ definitions_fault old all
  pub sound : AreSound now.always

-- the same place, with other always names
abbrev pub among : Scope → Always → Scope
among s always = record s { always = always }

pub defined_more : (now old : Scope) (next : Always) (d : Def) (rest all : List Def) →
    DefinedAhead now (d ∷ rest) old all → Defined now next (d ∷ []) → DefinedAhead (among now next) rest old all
defined_more now old next d rest all ahead defined =
    let same : among now next ≡ with_definition now d = ap (among now) defined.always in
    let first : definition_fault now d ≡ None =
    earlier_first (definition_fault now d) None defined.fine in
    record {
      always = ap (λ s. (with_definitions s rest).always) same ∙ ahead.always;
      faults = ap (λ s. definitions_fault s rest) same
          ∙ sym (ap (λ f. earlier f (definitions_fault (with_definition now d) rest)) first) ∙ ahead.faults;
      sound = defined.sound;
    }

pub defined_last : (now old : Scope) (all : List Def) → DefinedAhead now [] old all → Defined old now.always all
defined_last now old all ahead =
    record { always = ahead.always; sound = ahead.sound; fine = sym ahead.faults }

-- a fault of a definition is the first of those that are left
pub defined_stops : (e : NameFault) (now old : Scope) (d : Def) (rest all : List Def) →
    DefinedAhead now (d ∷ rest) old all → Stops e (definitions_fault now (d ∷ [])) → Stops e (definitions_fault old all)
defined_stops e now old d rest all ahead stops =
    subst (λ (f : Option Fault). Stops e f) ahead.faults
    (stops_first e (definition_fault now d) (definitions_fault (with_definition now d) rest)
    (alone e (definition_fault now d) stops))
  where
    alone : (e : NameFault) (f : Option Fault) → Stops e (earlier f None) → Stops e f
    alone e None s = s
    alone e (Some f) s = s

-- one definition
pub defined_one : (s : Scope) (d : Def) (f : Formed) (new : Always) → IsMade f (formed d.of s) d.name.at →
    AreSound s.always → new ≡ insert_entry bytes_eq s.always d.name.text f → Defined s new (d ∷ [])
defined_one s d f new made sound same = record {
  always = same ∙ ap (insert_entry bytes_eq s.always d.name.text) made.same;
  sound = subst AreSound (sym same) (entered_sound s.always d.name.text f sound made.sound);
  fine = ap (λ g. earlier g None) made.fine;
}
