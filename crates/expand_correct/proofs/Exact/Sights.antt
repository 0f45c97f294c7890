-- Places where words stand for what they stand for in a document.
use Rattle.std.proofs.Common.{◌≡◌, ℕ, List, [], ◌∷◌, refl, sym, ◌∙◌}
use Rattle.unity_syntax.specs.declared.declaration.Def.{Def}
use Rattle.unity_syntax.specs.declared.program.Program.{Program}
use Rattle.unity_syntax.specs.declared.document.Document.{Document}
use Rattle.meaning_documents.specs.Names.{Bindings}
use Rattle.meaning_documents.specs.Setting.{setting_of, programs_among}
use Rattle.expand_rules.specs.declared.cores.Bound.{Bound}
use Rattle.expand_rules.specs.Forming.{Scope, formed}
use Rattle.expand_rules.specs.Assigning.{among}
use Rattle.expand_rules.specs.Documents.{with_formed, plain_scope, scope_of, within}
use Rattle.expand_correct.specs.Values.SightLaws.{SeeSame}
use Rattle.expand_correct.specs.Exact.ByNames.{document_scope}
use Rattle.expand_correct.specs.Exact.Seen.{SeesDocument}

-- nothing is bound outside all bound names
none_bound : (s : Scope) (ds : List Def) → s.bound ≡ [] → (with_formed s ds).bound ≡ []
none_bound s [] h = h
none_bound s (d ∷ ds) h = none_bound (record s { always = (d.name.text, formed d.of s) ∷ s.always }) ds h

outside : (programs : List Program) → (scope_of programs).bound ≡ []
outside programs = none_bound (plain_scope (setting_of programs)) (setting_of programs).always refl

pub sees_within : (s t : Scope) → SeeSame s t → (bs : List (List ℕ × Bound)) → SeeSame (within s bs) (within t bs)
sees_within s t see bs =
    record { variables = see.variables; words = see.words; always = see.always; bound = refl }

pub sees_among : (s t : Scope) → SeeSame s t → (b : Bindings) → SeeSame (among s b) (among t b)
sees_among s t see b =
    record { variables = see.variables; words = see.words; always = see.always; bound = refl }

pub sees_outside : (s : Scope) (d : Document) → SeesDocument s d → SeeSame s (document_scope d)
sees_outside s d see = record {
  variables = see.variables;
  words = see.words;
  always = see.always;
  bound = see.bound ∙ outside (programs_among d.parts);
}

pub document_seen : (d : Document) → SeesDocument (document_scope d) d
document_seen d = record {
  variables = λ word. refl;
  words = λ word. refl;
  always = λ word. refl;
  bound = sym (outside (programs_among d.parts));
}
