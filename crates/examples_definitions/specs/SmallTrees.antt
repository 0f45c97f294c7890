-- Trees of small texts, for examples; each stands at byte 0.
use Prim.Native.String.{String}
use Rattle.std.specs.Prelude.{ℕ, List, [], ◌∷◌, map, true, false, Some, None, codes}
use Rattle.case_tables.specs.declared.symbol_table.Symbol.{Symbol}
use Rattle.case_tables.specs.declared.symbol_table.Symbol.TheVariants.{Below as below}
use Rattle.case_tables.specs.declared.word_table.Word.{Word}
use Rattle.unity_syntax.specs.declared.name.Name.{Name}
use Rattle.unity_syntax.specs.declared.name.End.{End}
use Rattle.unity_syntax.specs.declared.name.Range.{Range}
use Rattle.unity_syntax.specs.declared.expression.Operator.{Operator}
use Rattle.unity_syntax.specs.declared.expression.Expr
use Rattle.unity_syntax.specs.declared.expression.Expr.{Expr}
use Rattle.unity_syntax.specs.declared.declaration.Plain.{Plain}
use Rattle.unity_syntax.specs.declared.declaration.VarType.{VarType}
use Rattle.unity_syntax.specs.declared.declaration.Var.{Var}
use Rattle.unity_syntax.specs.declared.declaration.Def.{Def}
use Rattle.unity_syntax.specs.declared.statement.Target.{Target}
use Rattle.unity_syntax.specs.declared.statement.Values.{Values}
use Rattle.unity_syntax.specs.declared.statement.Alts.{Alts}
use Rattle.unity_syntax.specs.declared.statement.Component
use Rattle.unity_syntax.specs.declared.statement.Component.{Component}
use Rattle.unity_syntax.specs.declared.statement.Assign.{Assign}
use Rattle.unity_syntax.specs.declared.statement.Item
use Rattle.unity_syntax.specs.declared.statement.Item.{Item}
use Rattle.unity_syntax.specs.declared.statement.Items.{Items}
use Rattle.unity_syntax.specs.declared.program.Program.{Program}
use Rattle.unity_syntax.specs.declared.proof.Claim.{Claim}
use Rattle.unity_syntax.specs.declared.proof.Rule.{Rule}
use Rattle.unity_syntax.specs.declared.proof.Step.{Step}
use Rattle.unity_syntax.specs.declared.proof.Proof.{Proof}
use Rattle.unity_syntax.specs.declared.document.Part.{Part}
use Rattle.unity_syntax.specs.declared.document.Document.{Document}

abbrev pub name : String → Name
name text = record { at = 0; text = codes text }

-- `x`
abbrev pub word : String → Expr
word text = Expr.Word 0 (name text) None

-- `a[e]`
abbrev pub element : String → Expr → Expr
element text index = Expr.Word 0 (name text) (Some index)

abbrev pub number : ℕ → Expr
number n = Expr.Number 0 n

-- `e + f`
abbrev pub sum_of : Expr → Expr → Expr
sum_of e f = Expr.Sum 0 false e ((Symbol.Plus, f) ∷ [])

-- `e - f`
abbrev pub difference : Expr → Expr → Expr
difference e f = Expr.Sum 0 false e ((Symbol.Minus, f) ∷ [])

-- `-e`
abbrev pub minus : Expr → Expr
minus e = Expr.Sum 0 true e []

-- `e * f`, `e div f` or `e mod f`
abbrev pub operated : Expr → Operator → Expr → Expr
operated e operator f = Expr.Product 0 e ((operator, f) ∷ [])

-- `(e)`
abbrev pub bracketed : Expr → Expr
bracketed e = Expr.Brackets 0 e

-- `e = f`
abbrev pub equal : Expr → Expr → Expr
equal e f = Expr.Compare 0 e Symbol.Equal f

-- `e < f`
abbrev pub less : Expr → Expr → Expr
less e f = Expr.Compare 0 e below f

-- `low..high`
abbrev pub range : ℕ → ℕ → Range
range low high = record { at = 0; low = End.Number 0 false low; high = End.Number 0 false high }

-- `x..high`
abbrev pub range_from : String → ℕ → Range
range_from text high = record { at = 0; low = End.Word 0 (name text) None; high = End.Number 0 false high }

-- `-low..high`
abbrev pub range_below : ℕ → ℕ → Range
range_below low high = record { at = 0; low = End.Number 0 true low; high = End.Number 0 false high }

-- `x + n..high`, or with `-`
abbrev pub range_beside : String → Symbol → ℕ → ℕ → Range
range_beside text sign n high =
    record { at = 0; low = End.Word 0 (name text) (Some (sign, n)); high = End.Number 0 false high }

-- `e < f`, or with another of the six relations
abbrev pub compare : Expr → Symbol → Expr → Expr
compare e relation f = Expr.Compare 0 e relation f

-- `e and f and g`
abbrev pub and_of : Expr → Expr → Expr → Expr
and_of e f g = Expr.And 0 e (f ∷ g ∷ [])

-- `e or f or g`
abbrev pub or_of : Expr → Expr → Expr → Expr
or_of e f g = Expr.Or 0 e (f ∷ g ∷ [])

-- `(all i : r :: e)`, or with `any` or `sum`
abbrev pub over : Word → String → Range → Expr → Expr
over which text r e = Expr.Quantified 0 which (name text) r e

-- `x : low..high`
abbrev pub variable : String → ℕ → ℕ → Var
variable text low high = record { at = 0; name = name text; kind = VarType.Plain 0 (Plain.Range 0 (range low high)) }

-- `x : boolean`
abbrev pub truth_variable : String → Var
truth_variable text = record { at = 0; name = name text; kind = VarType.Plain 0 (Plain.Boolean 0) }

-- `a : array r of low..high`
abbrev pub array : String → Range → ℕ → ℕ → Var
array text r low high = record { at = 0; name = name text; kind = VarType.Array 0 r (Plain.Range 0 (range low high)) }

-- `a : array r of boolean`
abbrev pub truth_array : String → Range → Var
truth_array text r = record { at = 0; name = name text; kind = VarType.Array 0 r (Plain.Boolean 0) }

-- `x : {first, second, third}`
abbrev pub enumeration : String → String → String → String → Var
enumeration text first second third =
    record {
      at = 0;
      name = name text;
      kind = VarType.Plain 0 (Plain.Words 0 (name first) (name second ∷ name third ∷ []));
    }

-- `x = e`
abbrev pub always : String → Expr → Def
always text e = record { at = 0; name = name text; of = e }

-- a target without index
abbrev pub target : String → Target
target text = record { at = 0; name = name text; index = None }

-- `a[e]` as a target
abbrev pub element_target : String → Expr → Target
element_target text e = record { at = 0; name = name text; index = Some e }

-- one value
abbrev pub one : Expr → Values
one e = record { at = 0; first = e; rest = [] }

-- `e, f`
abbrev pub two : Expr → Expr → Values
two e f = record { at = 0; first = e; rest = f ∷ [] }

-- values without a condition
abbrev pub plainly : Values → Alts
plainly vs = record { at = 0; values = vs; condition = None }

-- `vs if e`
abbrev pub if_true : Values → Expr → Alts
if_true vs e = record { at = 0; values = vs; condition = Some (e, []) }

-- `vs if e ~ ws if f`
abbrev pub if_either : Values → Expr → Values → Expr → Alts
if_either vs e ws f = record { at = 0; values = vs; condition = Some (e, (ws, f) ∷ []) }

-- `t := ..`
abbrev pub set : Target → Alts → Component
set t alts = Component.Set 0 t [] alts

-- `t, u := ..`
abbrev pub set_two : Target → Target → Alts → Component
set_two t u alts = Component.Set 0 t (u ∷ []) alts

-- an assignment of one component
abbrev pub single : Component → Assign
single c = record { at = 0; first = c; rest = [] }

-- `c || d`
abbrev pub both : Component → Component → Assign
both c d = record { at = 0; first = c; rest = d ∷ [] }

-- `<|| i : r :: c |>`
abbrev pub for_each : String → Range → Component → Component
for_each text r c = Component.Quantified 0 (name text) r (single c)

-- `label: c`
abbrev pub statement : String → Component → Item
statement label c = Item.Statement 0 (name label) (single c)

-- one item
abbrev pub lone : Item → Items
lone i = record { at = 0; first = i; rest = [] }

-- `i [] j`
abbrev pub beside : Item → Item → Items
beside i j = record { at = 0; first = i; rest = j ∷ [] }

-- `<[] i : r :: items |>`
abbrev pub choice_of : String → Range → Items → Item
choice_of text r items = Item.Quantified 0 (name text) r items

-- `program F declare .. always .. assign .. end`
abbrev pub program : String → List Var → List Def → Items → Program
program text declare always items = Program.Plain 0 (name text) (Some declare) (Some always) None None items

-- `program F declare .. initially e assign .. end`
abbrev pub initial_program : String → List Var → Expr → Items → Program
initial_program text declare e items =
    Program.Plain 0 (name text) (Some declare) None (Some (record { at = 0; of = e })) None items

-- `program H = F [] G end`
abbrev pub union_program : String → String → String → Program
union_program text left right = Program.Union 0 (name text) (name left) (name right)

-- `program F declare .. assign .. end`, which may begin in any state
abbrev pub free_program : String → List Var → Items → Program
free_program text declare items = Program.Plain 0 (name text) (Some declare) None None None items

-- `label: claim by text;`
abbrev pub step : String → Claim → Step
step label claim = record {
  at = 0;
  name = name label;
  params = None;
  claim = claim;
  rule = Rule.Text 0 None;
  using = None;
}

-- `label(m : r): claim by text;`
abbrev pub step_for : String → String → Range → Claim → Step
step_for label text r claim =
    record {
      at = 0;
      name = name label;
      params = Some (record { at = 0; name = name text; range = r }, []);
      claim = claim;
      rule = Rule.Text 0 None;
      using = None;
    }

-- `p unless q`, or with another word between them
abbrev pub between : Expr → Word → Expr → Claim
between p which q = Claim.Between 0 p which q

-- `proof F steps end`
abbrev pub proof_of : String → List Step → Proof
proof_of text steps = record { at = 0; program = name text; steps = steps }

-- `unity 1`, and these programs
abbrev pub document : List Program → Document
document programs = record {
  at = 0;
  number_at = 0;
  number = 1;
  parts = map (λ p. Part.Program 0 p) programs;
  schedule = None;
  certificates = None;
}
