-- The words of a document that its core form names, in the order of the text: names of programs, variables, labels,
-- steps and parameters, and words of enumerations. Always names and the bound names of quantifiers are none of them,
-- since the core form puts what they stand for in their place.
use Rattle.std.specs.Prelude.{ℕ, List, [], ◌∷◌, ◌++◌, map, Option, Some, None}
use Rattle.std.specs.List.{flat_map}
use Rattle.unity_syntax.specs.declared.name.Name.{Name}
use Rattle.unity_syntax.specs.declared.declaration.Plain.{Plain}
use Rattle.unity_syntax.specs.declared.declaration.Var.{Var}
use Rattle.unity_syntax.specs.declared.statement.Item.{Item, fold-Item}
use Rattle.unity_syntax.specs.declared.statement.Item.TheOpen.{Item-F, Items-F}
use Rattle.unity_syntax.specs.declared.statement.Items.{Items, fold-Items}
use Rattle.unity_syntax.specs.declared.program.Program.{Program}
use Rattle.unity_syntax.specs.declared.term.Inst.{Inst}
use Rattle.unity_syntax.specs.declared.term.Ref.{Ref}
use Rattle.unity_syntax.specs.declared.term.Term.{Term, fold-Term}
use Rattle.unity_syntax.specs.declared.term.Term.TheOpen.{Term-F}
use Rattle.unity_syntax.specs.declared.proof.Rule.{Rule}
use Rattle.unity_syntax.specs.declared.proof.Step.{Step}
use Rattle.unity_syntax.specs.declared.proof.Proof.{Proof}
use Rattle.unity_syntax.specs.declared.document.Part.{Part}
use Rattle.unity_syntax.specs.declared.document.Schedule.{Schedule}
use Rattle.unity_syntax.specs.declared.document.Document.{Document}
use Rattle.expand_expressions.specs.from_meaning_documents.Setting.{element_type}
use Rattle.names_rules.specs.Declarations.{items_of, some_of}

-- texts of words, in order
abbrev pub Texts : Type 0
Texts = List (List ℕ)

abbrev pub plain_texts : Plain → Texts
plain_texts (Plain.Boolean at) = []
plain_texts (Plain.Range at range) = []
plain_texts (Plain.Words at first rest) = map (λ w. w.text) (first ∷ rest)

-- a variable, and the words of its enumeration
abbrev pub var_texts : Var → Texts
var_texts v = v.name.text ∷ plain_texts (element_type v.kind)

-- the labels of statements
abbrev pub item_layer : Item-F Texts Texts → Texts
item_layer (Item-F.Statement at label assign) = label.text ∷ []
item_layer (Item-F.Quantified at name range of) = of

abbrev pub items_layer : Items-F Texts Texts → Texts
items_layer x = x.first ++ flat_map (λ texts. texts) x.rest

abbrev pub item_texts : Item → Texts
item_texts = fold-Item Texts Texts item_layer items_layer

abbrev pub items_texts : Items → Texts
items_texts = fold-Items Texts Texts item_layer items_layer

-- a program's name, its variables and its labels
abbrev pub program_texts : Program → Texts
program_texts (Program.Union at name left right) = name.text ∷ []
program_texts (Program.Plain at name declare always initially start items) =
    name.text ∷ (flat_map var_texts (items_of declare) ++ items_texts items)

-- a reference names a step, and a program where a step follows
abbrev pub step_text : Option Name → Texts
step_text None = []
step_text (Some step) = step.text ∷ []

abbrev pub ref_texts : Ref → Texts
ref_texts r = r.name.text ∷ step_text r.step

-- a helper names a label
abbrev pub helper_texts : Option Inst → Texts
helper_texts None = []
helper_texts (Some helper) = helper.label.text ∷ []

-- the names that a term binds, and its references
abbrev pub term_layer : Term-F Texts → Texts
term_layer (Term-F.Imply at p q) = []
term_layer (Term-F.From at of) = ref_texts of
term_layer (Term-F.Pair at which first second) = first ++ second
term_layer (Term-F.Exists at name range of) = name.text ∷ of
term_layer (Term-F.Induct at name range measure p q of) = name.text ∷ of
term_layer (Term-F.Psp at of by) = of ++ ref_texts by
term_layer (Term-F.Weaken at p q of) = of

abbrev pub term_texts : Term → Texts
term_texts = fold-Term Texts term_layer

abbrev pub rule_texts : Rule → Texts
rule_texts (Rule.Text at with) = helper_texts with
rule_texts (Rule.Weaken at of) = ref_texts of
rule_texts (Rule.Pair at which first second) = ref_texts first ++ ref_texts second
rule_texts (Rule.Superpose at of) = ref_texts of
rule_texts (Rule.Complete at first second third fourth) =
    (ref_texts first ++ ref_texts second) ++ (ref_texts third ++ ref_texts fourth)
rule_texts (Rule.Term at of) = term_texts of

-- a step's name, its parameters, and what its rule and `using` name
abbrev pub step_texts : Step → Texts
step_texts step = step.name.text ∷ (map (λ p. p.name.text) (some_of step.params)
    ++ (rule_texts step.rule ++ flat_map ref_texts (some_of step.using)))

abbrev pub proof_texts : Proof → Texts
proof_texts proof = proof.program.text ∷ flat_map step_texts proof.steps

abbrev pub part_texts : Part → Texts
part_texts (Part.Program at of) = program_texts of
part_texts (Part.Proof at of) = proof_texts of

-- a schedule names a program and labels
abbrev pub schedule_texts : Option Schedule → Texts
schedule_texts None = []
schedule_texts (Some schedule) =
    schedule.program.text ∷ map (λ c. c.label.text) (some_of schedule.choices)

abbrev pub document_texts : Document → Texts
document_texts d = flat_map part_texts d.parts ++ schedule_texts d.schedule
