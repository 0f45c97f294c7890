-- The terms whose word alone says what stands in their parentheses, and the claims of one predicate.
use Rattle.case_tables.specs.declared.word_table.Word.{Word}
use Rattle.std.specs.Prelude.{ℕ}
use Rattle.grammar_theory.specs.Ebnf.{Ebnf, Tree, choice, node, pair}
use Rattle.unity_syntax.specs.Classes.{reserved}
use Rattle.unity_syntax.specs.Kinds.{Kind, kind, Contents}
use Rattle.unity_syntax.specs.Grammar.{made, past, in_parentheses, pred_}
use Rattle.parser_proofs.specs.declared.forms.Enclosed.{Enclosed}
use Rattle.parser_proofs.specs.declared.forms.Form.{Form}
use Rattle.parser_proofs.specs.declared.forms.Property.{Property}

-- its word
abbrev pub form_word : Form → Word
form_word Form.Imply = Word.Imply
form_word Form.Exists = Word.Exists
form_word Form.Induct = Word.Induct
form_word Form.Psp = Word.Psp
form_word Form.Weaken = Word.Weaken

-- its kind
abbrev pub form_kind : Form → Kind
form_kind Form.Imply = Kind.term_imply
form_kind Form.Exists = Kind.term_exists
form_kind Form.Induct = Kind.term_induct
form_kind Form.Psp = Kind.term_psp
form_kind Form.Weaken = Kind.term_weaken

-- what stands in its parentheses
abbrev pub form_contents : Form → Contents
form_contents Form.Imply = Contents.imply
form_contents Form.Exists = Contents.exists
form_contents Form.Induct = Contents.induct
form_contents Form.Psp = Contents.psp
form_contents Form.Weaken = Contents.weaken

-- the term
abbrev pub form_ : Form → Ebnf
form_ form = made (form_kind form) (past (reserved (form_word form)) (in_parentheses (form_contents form)))

-- what stands in the parentheses of a term
abbrev pub enclosed_contents : Enclosed → Contents
enclosed_contents (Enclosed.Parts form) = form_contents form
enclosed_contents (Enclosed.Terms which) = Contents.pair

-- the term that begins at a place, by the tree of that
abbrev pub enclosing : Enclosed → ℕ → Tree → Tree
enclosing (Enclosed.Parts form) at x = node (kind (form_kind form)) at x
enclosing (Enclosed.Terms which) at x = node (kind Kind.term_pair) at (pair (choice (reserved which)) x)

-- the word of a property
abbrev pub property_word : Property → Word
property_word Property.Invariant = Word.Invariant
property_word Property.Stable = Word.Stable
property_word Property.Constant = Word.Constant
property_word Property.Fixed = Word.Fixed

-- the kind of its claim
abbrev pub property_kind : Property → Kind
property_kind Property.Invariant = Kind.claim_invariant
property_kind Property.Stable = Kind.claim_stable
property_kind Property.Constant = Kind.claim_constant
property_kind Property.Fixed = Kind.claim_fixed

-- the claim
abbrev pub property_ : Property → Ebnf
property_ property = made (property_kind property) (past (reserved (property_word property)) pred_)
