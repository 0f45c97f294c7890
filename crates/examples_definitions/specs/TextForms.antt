-- Texts of the language with what the grammar reads them as: the forms in which the examples are written.
use Rattle.std.specs.Prelude.{◌≡◌, ℕ, false, List, [], ◌++◌, Some, None, Ok, Err, codes}
use Rattle.case_tables.specs.declared.word_table.Word.{Word}
use Rattle.case_tables.specs.declared.symbol_table.Symbol.{Symbol}
use Rattle.grammar_theory.specs.Reader.{Fault, read_whole}
use Rattle.grammar_theory.specs.Ebnf.{Terminal}
use Rattle.unity_syntax.specs.Classes.{terminals, says_later}
use Rattle.unity_syntax.specs.Grammar.{grammar, document_}
use Rattle.unity_syntax.specs.View.{view}
use Prim.Native.String.{String}
use Rattle.unity_syntax.specs.declared.token.TokenKind.{TokenKind}
use Rattle.unity_syntax.specs.declared.token.Token.{Token}
use Rattle.unity_syntax.specs.declared.name.Name.{Name}
use Rattle.unity_syntax.specs.declared.name.End.{End}
use Rattle.unity_syntax.specs.declared.name.Range.{Range}
use Rattle.unity_syntax.specs.declared.expression.Expr.{Expr}
use Rattle.unity_syntax.specs.declared.expression.Expr.TheVariants as expr
use Rattle.unity_syntax.specs.declared.declaration.Plain.{Plain}
use Rattle.unity_syntax.specs.declared.declaration.VarType.{VarType}
use Rattle.unity_syntax.specs.declared.declaration.Var.{Var}
use Rattle.unity_syntax.specs.declared.statement.Target.{Target}
use Rattle.unity_syntax.specs.declared.statement.Alts.{Alts}
use Rattle.unity_syntax.specs.declared.statement.Component.{Component}
use Rattle.unity_syntax.specs.declared.statement.Component.TheVariants as component
use Rattle.unity_syntax.specs.declared.term.Ref.{Ref}
use Rattle.unity_syntax.specs.declared.proof.Param.{Param}
use Rattle.unity_syntax.specs.declared.proof.Claim.{Claim}
use Rattle.unity_syntax.specs.declared.proof.Rule.{Rule}
use Rattle.unity_syntax.specs.declared.proof.Step.{Step}
use Rattle.unity_syntax.specs.declared.certificate.Pair.{Pair}
use Rattle.unity_syntax.specs.declared.document.Document.{Document}
use Rattle.unity_syntax.specs.declared.statement.Assign.{Assign, roll-Assign}
use Rattle.unity_syntax.specs.declared.statement.Item.{Item}
use Rattle.unity_syntax.specs.declared.statement.Item.TheVariants as item
use Rattle.unity_syntax.specs.declared.statement.Items.{Items, roll-Items}

-- a name's token, from its first byte to the byte after its last
abbrev pub name_token : ℕ → ℕ → Token
name_token start end = record { kind = TokenKind.Word; start = start; end = end }

-- a number
abbrev pub number_token : ℕ → ℕ → ℕ → Token
number_token value start end = record { kind = TokenKind.Number value; start = start; end = end }

-- a reserved word
abbrev pub reserved_token : Word → ℕ → ℕ → Token
reserved_token w start end = record { kind = TokenKind.Reserved w; start = start; end = end }

-- a symbol
abbrev pub symbol_token : Symbol → ℕ → ℕ → Token
symbol_token s start end = record { kind = TokenKind.Symbol s; start = start; end = end }

-- a name and its place
abbrev pub name : ℕ → String → Name
name at text = record { at = at; text = codes text }

-- a range
abbrev pub range : ℕ → End → End → Range
range at low high = record { at = at; low = low; high = high }

-- `low..high` of two numbers
abbrev pub numbers : ℕ → ℕ → ℕ → ℕ → Range
numbers at low place high = range at (End.Number at false low) (End.Number place false high)

-- a name that stands as an expression
abbrev pub word : ℕ → String → Expr
word at text = expr.Word at (name at text) None

-- a variable `text : r`
abbrev pub variable : ℕ → String → Range → Var
variable at text r = record { at = at; name = name at text; kind = VarType.Plain r.at (Plain.Range r.at r) }

-- a target without index
abbrev pub target : ℕ → String → Target
target at text = record { at = at; name = name at text; index = None }

-- one value without a condition
abbrev pub plainly : ℕ → Expr → Alts
plainly at e = record { at = at; values = record { at = at; first = e; rest = [] }; condition = None }

-- an assignment
abbrev pub assign : ℕ → Component → List Component → Assign
assign at first rest = roll-Assign (record { at = at; first = first; rest = rest })

-- a statement `label: text := e`
abbrev pub set : ℕ → String → ℕ → String → ℕ → Expr → Item
set at label place text value e =
    item.Statement at (name at label)
    (assign place (component.Set place (target place text) [] (plainly value e)) [])

-- a list of statements
abbrev pub items : ℕ → Item → List Item → Items
items at first rest = roll-Items (record { at = at; first = first; rest = rest })

-- a reference to a step of the same proof, and to one of another program's
abbrev pub step_of : ℕ → String → Ref
step_of at text = record { at = at; name = name at text; step = None; args = None }

abbrev pub step_in : ℕ → String → ℕ → String → Ref
step_in at program place text =
    record { at = at; name = name at program; step = Some (name place text); args = None }

-- a parameter `text : r`
abbrev pub parameter : ℕ → String → Range → Param
parameter at text r = record { at = at; name = name at text; range = r }

-- a step `text: claim by rule;`
abbrev pub step : ℕ → String → Claim → Rule → Step
step at text claim rule =
    record { at = at; name = name at text; params = None; claim = claim; rule = rule; using = None }

-- a claim `p which q` of two words
abbrev pub between : ℕ → String → Word → ℕ → String → Claim
between first p which second q = Claim.Between first (word first p) which (word second q)

-- a step `text: p which q by rule;` of two words
abbrev pub step_between : ℕ → String → ℕ → String → Word → ℕ → String → Rule → Step
step_between at text first p which second q rule = step at text (between first p which second q) rule

-- a pair `multiplier*fact` of a certificate
abbrev pub pair : ℕ → ℕ → ℕ → Pair
pair at multiplier fact = record { at = at; minus = false; multiplier = multiplier; fact = fact }

-- A text, its tokens and its tree.
pub record Example : Type 0 where
  pub text : List ℕ
  pub tokens : List Token
  pub tree : Document

-- The tokens are read as the tree.
abbrev pub ExampleIsRead : Example → Type 0
ExampleIsRead e = read_whole grammar 200 document_ (terminals (says_later e.tokens) e.text e.tokens) ≡ Ok (view e.tree)

-- A text whose tokens are refused from a place on, where so many brackets may be open at once.
pub record Refusal : Type 0 where
  pub levels : ℕ
  pub text : List ℕ
  pub before : List Token
  pub rest : List Token
  pub fault : List Terminal → Fault

-- The first tokens are those of a document's beginning, and the rest is refused.
abbrev pub IsRefusedText : Refusal → Type 0
IsRefusedText r =
    let tokens = r.before ++ r.rest in
    read_whole grammar r.levels document_ (terminals (says_later tokens) r.text tokens) ≡
    Err (r.fault (terminals (says_later tokens) r.text r.rest))
