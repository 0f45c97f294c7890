-- The words of the variables of a document are words of the document.
use Rattle.std.proofs.Common.{◌≡◌, zero, suc, List, [], ◌∷◌, ◌++◌, subst, All}
use Rattle.std.specs.List.{flat_map}
use Rattle.std.proofs.lemmas.List.Elements.{All-head, All-tail}
use Rattle.unity_syntax.specs.declared.declaration.Var.{Var}
use Rattle.unity_syntax.specs.declared.program.Program.{Program}
use Rattle.unity_syntax.specs.declared.document.Part.{Part}
use Rattle.unity_syntax.specs.declared.document.Document.{Document}
use Rattle.meaning_documents.specs.Setting.{items_of, declarations}
use Rattle.expand_declarations.specs.Texts.{Texts, var_texts, items_texts, program_texts, part_texts, document_texts}
use Rattle.expand_declarations.specs.Slots.{part_declarations}
use Rattle.expand_correct.proofs.Declared.Lists.{IsPart, part_left, part_right, part_cons, part_trans}
use Rattle.expand_correct.proofs.Declared.Slots.{each_part_texts}
use Rattle.expand_correct.specs.Exact.Parts.{EachItem}
use Rattle.expand_correct.proofs.Exact.Statements.{everywhere_joined}
use Rattle.run_correct.proofs.Lists.{weaker, none_of}
use Rattle.run_correct.proofs.Slots.{IsWritten, AllWritten}

each_variable : (vs : List Var) → EachItem (IsWritten (flat_map var_texts vs)) vs
each_variable [] place x e = cc e
each_variable (v ∷ vs) zero x e = let same : v ≡ x = cc in
    subst (IsWritten (var_texts v ++ flat_map var_texts vs)) same (part_left (var_texts v) (flat_map var_texts vs))
each_variable (v ∷ vs) (suc place) x e =
    part_trans (var_texts x) (flat_map var_texts vs) (var_texts v ++ flat_map var_texts vs)
    (each_variable vs place x e) (part_right (var_texts v) (flat_map var_texts vs))

pub program_written : (texts : Texts) (p : Program) → IsPart (program_texts p) texts →
    EachItem (IsWritten texts) (declarations p)
program_written texts (Program.Union at name left right) h = none_of (IsWritten texts)
program_written texts (Program.Plain at name declare always initially start items) h =
    let vs = flat_map var_texts (items_of declare) in
    let its = items_texts items in
    weaker (IsWritten vs) (IsWritten texts) (λ v w.
    part_trans (var_texts v) vs texts w (part_trans vs (name.text ∷ (vs ++ its)) texts
    (part_trans vs (vs ++ its) (name.text ∷ (vs ++ its)) (part_left vs its) (part_cons name.text (vs ++ its))) h))
    (items_of declare) (each_variable (items_of declare))

parts_written : (texts : Texts) (parts : List Part) → All (λ p. IsPart (part_texts p) texts) parts →
    EachItem (IsWritten texts) (flat_map part_declarations parts)
parts_written texts [] h = none_of (IsWritten texts)
parts_written texts (Part.Program at p ∷ rest) h =
    everywhere_joined (IsWritten texts) (declarations p) (flat_map part_declarations rest)
    (program_written texts p (All-head (λ q. IsPart (part_texts q) texts) (Part.Program at p) rest h))
    (parts_written texts rest (All-tail (λ q. IsPart (part_texts q) texts) (Part.Program at p) rest h))
parts_written texts (Part.Proof at p ∷ rest) h =
    parts_written texts rest (All-tail (λ q. IsPart (part_texts q) texts) (Part.Proof at p) rest h)

pub all_written : (d : Document) → AllWritten d
all_written d = parts_written (document_texts d) d.parts (each_part_texts d)
