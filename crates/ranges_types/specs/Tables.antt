-- The tables of the code, as what a document so far declares; and what calls answer that fill them.
use Rattle.std.specs.Prelude.{◌≡◌, Result, Ok, Err}
use Rattle.std.specs.Str.{bytes_eq}
use Rattle.indexmap.specs.IndexMap.{insert_entry}
use Rattle.unity_syntax.specs.declared.name.Name.{Name}
use Rattle.names_rules.specs.declared.named.NameFault.{NameFault}
use Rattle.names_rules.specs.declared.named.Composed.{Composed}
use Rattle.names_rules.specs.Scope.{entries, seen_keys}
use Rattle.names_rules.specs.Proofs.{Programs}
use Rattle.names_rules.specs.WellNamed.{Declared, IsWellNamed, name_fault, name_words}
use Rattle.names_rules.specs.Reading.{Words}
use Rattle.names_rules.specs.Answers.{Stops}
use Rattle.unity_syntax.specs.declared.document.Document.{Document}
use Rattle.ranges_types.specs.declared.store.Tables.{Tables}

-- what the tables hold
abbrev pub declared_in : Tables → Declared
declared_in t = record {
  names = entries t.names;
  programs = entries t.programs;
  proved = seen_keys t.proved;
  labels = seen_keys t.labels;
}

-- the programs with one more; it stops for want of memory alone
abbrev pub Composes : Result (Unit {0}) NameFault → Programs → Programs → Name → Composed → Type 0
Composes (Ok t) old new name c = new ≡ insert_entry bytes_eq old name.text c
Composes (Err e) old new name c = e ≡ NameFault.Memory

-- the words of a well-named document, or the first fault of another; want of memory says nothing
abbrev pub Checks : Result Words NameFault → Document → Type 0
Checks (Ok words) d = IsWellNamed d × (words ≡ name_words d)
Checks (Err e) d = Stops e (name_fault d)
