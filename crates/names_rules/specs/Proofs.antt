-- Proofs: their steps, references and terms.
use Rattle.std.specs.Prelude.{ℕ, ◌+◌, List, [], ◌∷◌, ◌++◌, Option, Some, None, Bool, true, false, not, ◌||◌, length}
use Rattle.std.specs.Prelude.{map}
use Rattle.std.specs.List.{list_any}
use Rattle.std.specs.Map.{lookup}
use Rattle.std.specs.Option.{is_some}
use Rattle.std.specs.Str.{bytes_eq}
use Rattle.unity_syntax.specs.from_case_tables.declared.code_table.Code.{Code}
use Rattle.unity_syntax.specs.declared.name.Name.{Name}
use Rattle.unity_syntax.specs.declared.name.End.{End}
use Rattle.unity_syntax.specs.declared.expression.Expr.{Expr}
use Rattle.unity_syntax.specs.declared.term.Inst.{Inst}
use Rattle.unity_syntax.specs.declared.term.Ref.{Ref}
use Rattle.unity_syntax.specs.declared.term.Term.{Term, fold-Term}
use Rattle.unity_syntax.specs.declared.term.Term.TheOpen.{Term-F}
use Rattle.unity_syntax.specs.declared.proof.Param.{Param}
use Rattle.unity_syntax.specs.declared.proof.Claim.{Claim}
use Rattle.unity_syntax.specs.declared.proof.Rule.{Rule}
use Rattle.unity_syntax.specs.declared.proof.Step.{Step}
use Rattle.names_rules.specs.declared.named.Meaning.{Meaning}
use Rattle.names_rules.specs.declared.named.Sort.{Sort}
use Rattle.names_rules.specs.declared.named.Named.{Named}
use Rattle.names_rules.specs.declared.named.Composed.{Composed}
use Rattle.names_rules.specs.declared.named.Indices.{Indices}
use Rattle.indexmap.specs.IndexMap.{insert_entry}
use Rattle.names_rules.specs.Scope.{Scope, Table, Params, found, is_param, is_variable, with_bound}
use Rattle.names_rules.specs.Reading.{Reading, unless, plain, demanded, needs, beside, all_beside, mark, faulty, filled}
use Rattle.names_rules.specs.Reading.{binding, read}
use Rattle.names_rules.specs.Part.{Part, quiet, leaving, before, run}
use Rattle.names_rules.specs.Declarations.{some_of}

-- programs by name
abbrev pub Programs : Type 0
Programs = List (List ℕ × Composed)

-- a place in a proof: all names of the document so far are visible
abbrev pub proof_scope : Table → Params → Scope
proof_scope names params = record { names = names; params = params; bounds = []; pending = []; program = None }

-- the name of a program that stands before
abbrev pub program_word : Name → Option Composed → Reading
program_word name None = faulty Code.Unknown name.at
program_word name (Some p) =
    record (plain Sort.Number) { words = (name.at, Meaning.Program p.at) ∷ [] }

abbrev pub program_reading : Programs → Name → Reading
program_reading programs name = program_word name (lookup (bytes_eq name.text) programs)

-- arguments and indices

-- whether a word with this meaning may stand among such indices: in a helper a parameter, in a reference a variable
-- too, in a schedule none
abbrev pub accepts : Indices → Meaning → Bool
accepts Indices.Helper meaning = is_param meaning
accepts Indices.Reference meaning = is_variable meaning || is_param meaning
accepts Indices.Schedule meaning = false

abbrev pub argument_word : Indices → Name → Option Named → Reading
argument_word of name None = faulty Code.Unknown name.at
argument_word of name (Some n) = mark n name.at (unless (accepts of n.meaning) Code.Unknown name.at)

abbrev pub argument_reading : Indices → Scope → End → Reading
argument_reading of s (End.Number at minus number) = plain Sort.Number
argument_reading of s (End.Word at name offset) = argument_word of name (found s name.text)

abbrev pub arguments_reading : Indices → Scope → Option (End × List End) → Reading
arguments_reading of s args = all_beside (map (argument_reading of s) (some_of args))

abbrev pub helper_reading : Scope → Option Inst → Reading
helper_reading s None = plain Sort.Number
helper_reading s (Some helper) = arguments_reading Indices.Helper s helper.indices

-- a reference; of its names that of a program alone is looked at
abbrev pub owner_reading : Programs → Ref → Option Name → Reading
owner_reading programs r None = plain Sort.Number
owner_reading programs r (Some step) = program_reading programs r.name

abbrev pub ref_reading : Programs → Scope → Ref → Reading
ref_reading programs s r = beside (owner_reading programs r r.step) (arguments_reading Indices.Reference s r.args)

-- terms

-- what a term is, at each place where it may stand; its bound names are numbered from this number on
abbrev pub Derived : Type 0
Derived = Scope → ℕ → Part ℕ

-- expressions that are to have these types
abbrev pub boolean : Expr → Scope → Reading
boolean e s = needs Sort.Boolean (read e s)

abbrev pub number : Expr → Scope → Reading
number e s = needs Sort.Number (read e s)

-- `exists` and `induct` bind their name in their last part alone
abbrev pub term_layer : Programs → Term-F Derived → Derived
term_layer programs (Term-F.Imply at p q) s next = quiet next (beside (boolean p s) (boolean q s))
term_layer programs (Term-F.From at of) s next = quiet next (ref_reading programs s of)
term_layer programs (Term-F.Pair at which first second) s next = before (first s next) (λ more. second s more)
term_layer programs (Term-F.Exists at name range of) s next =
    before (quiet (next + 1) (beside (binding s name (Meaning.Param next)) (filled [] range)))
    (λ more. of (with_bound s name.text (Meaning.Param next)) more)
term_layer programs (Term-F.Induct at name range measure p q of) s next =
    before (quiet (next + 1) (beside (beside (binding s name (Meaning.Param next)) (filled [] range))
    (beside (number measure s) (beside (boolean p s) (boolean q s)))))
    (λ more. of (with_bound s name.text (Meaning.Param next)) more)
term_layer programs (Term-F.Psp at of by) s next =
    before (of s next) (λ more. quiet more (ref_reading programs s by))
term_layer programs (Term-F.Weaken at p q of) s next =
    before (quiet next (beside (boolean p s) (boolean q s))) (λ more. of s more)

abbrev pub term_part : Programs → Term → Derived
term_part programs = fold-Term Derived (term_layer programs)

-- steps

-- a parameter has a number, and a range of numbers
abbrev pub param_part : Table → Params → Param → Part Params
param_part names params p = quiet (insert_entry bytes_eq params p.name.text (length params))
    (beside (binding (proof_scope names params) p.name (Meaning.Param (length params))) (filled [] p.range))

abbrev pub claim_reading : Scope → Claim → Reading
claim_reading s (Claim.Defined at) = plain Sort.Boolean
claim_reading s (Claim.Invariant at of) = boolean of s
claim_reading s (Claim.Stable at of) = boolean of s
claim_reading s (Claim.Constant at of) = boolean of s
claim_reading s (Claim.Fixed at of) = boolean of s
claim_reading s (Claim.Between at p which q) = beside (boolean p s) (boolean q s)

-- a rule; the names that a term binds are numbered from this number on
abbrev pub rule_part : Programs → Scope → ℕ → Rule → Part ℕ
rule_part programs s next (Rule.Text at with) = quiet next (helper_reading s with)
rule_part programs s next (Rule.Weaken at of) = quiet next (ref_reading programs s of)
rule_part programs s next (Rule.Pair at which first second) =
    quiet next (beside (ref_reading programs s first) (ref_reading programs s second))
rule_part programs s next (Rule.Superpose at of) = quiet next (ref_reading programs s of)
rule_part programs s next (Rule.Complete at first second third fourth) =
    quiet next (all_beside (map (ref_reading programs s) (first ∷ second ∷ third ∷ fourth ∷ [])))
rule_part programs s next (Rule.Term at of) = term_part programs of s next

-- whether a claim may have parameters
abbrev pub takes_params : Claim → Bool
takes_params (Claim.Defined at) = false
takes_params (Claim.Invariant at of) = false
takes_params _ = true

-- the name of a step, which no step of the proof before has
abbrev pub step_name : List (List ℕ) → Step → Reading
step_name steps step =
    beside (demanded (not (list_any (bytes_eq step.name.text) steps)) Code.DeclaredTwice step.name.at)
    (demanded (not (is_some step.params) || takes_params step.claim) Code.Arity step.name.at)

-- what stands in a step after its parameters, whose numbers are the first ones
abbrev pub step_body : Programs → Scope → Step → Part ℕ
step_body programs s step = before (quiet (length s.params) (claim_reading s step.claim)) (λ next.
    before (rule_part programs s next step.rule)
    (λ next. quiet next (all_beside (map (ref_reading programs s) (some_of step.using)))))

-- a step after its name
abbrev pub step_rest : Programs → Table → Step → Part ℕ
step_rest programs names step = before (run (param_part names) [] (some_of step.params))
    (λ params. step_body programs (proof_scope names params) step)

-- a step of a proof, after these steps
abbrev pub step_part : Programs → Table → List (List ℕ) → Step → Part (List (List ℕ))
step_part programs names steps step = before (quiet (steps ++ step.name.text ∷ []) (step_name steps step))
    (λ more. leaving more (step_rest programs names step))
