-- References, helpers, parameters and schedules in core form.
use Rattle.std.specs.Prelude.{ℕ, pos, List, [], ◌∷◌, ◌++◌, map, fold, length, Option, Some, None}
use Rattle.std.specs.Map.{lookup}
use Rattle.std.specs.Option.{option_or, option_and_then}
use Rattle.std.specs.Str.{bytes_eq}
use Rattle.indexmap.specs.IndexMap.{insert_entry}
use Rattle.case_tables.specs.declared.rule_table.RuleName.{RuleName}
use Rattle.case_tables.specs.declared.symbol_table.Symbol.{Symbol}
use Rattle.case_tables.specs.declared.word_table.Word.{Word}
use Rattle.unity_syntax.specs.declared.name.Name.{Name}
use Rattle.unity_syntax.specs.declared.name.End.{End}
use Rattle.unity_syntax.specs.declared.term.Inst.{Inst}
use Rattle.unity_syntax.specs.declared.term.Ref.{Ref as TextRef}
use Rattle.unity_syntax.specs.declared.term.Term.{Term, fold-Term}
use Rattle.unity_syntax.specs.declared.term.Term.TheOpen.{Term-F}
use Rattle.unity_syntax.specs.declared.proof.Param.{Param}
use Rattle.unity_syntax.specs.declared.proof.Rule.{Rule}
use Rattle.unity_syntax.specs.declared.proof.Step.{Step}
use Rattle.unity_syntax.specs.declared.document.Schedule.{Schedule}
use Rattle.expand_expressions.specs.from_meaning_documents.Value.{end_value, range_ends, signed, with_offset}
use Rattle.core_terms.specs.declared.trees.Range.{Range}
use Rattle.core_terms.specs.declared.documents.Arg.{Arg}
use Rattle.core_terms.specs.declared.documents.Ref.{Ref}
use Rattle.core_terms.specs.declared.documents.Helper.{Helper}
use Rattle.core_terms.specs.declared.documents.CRule.{CRule}
use Rattle.core_terms.specs.declared.documents.Choice.{Choice}
use Rattle.core_terms.specs.declared.documents.CSchedule.{CSchedule}
use Rattle.names_rules.specs.Scope.{Bounds, Params}
use Rattle.names_rules.specs.Declarations.{some_of}
use Rattle.names_rules.specs.WellNamed.{param_number}
use Rattle.expand_declarations.specs.Texts.{Texts}
use Rattle.expand_declarations.specs.WordNumbers.{word_number}
use Rattle.expand_declarations.specs.Numbers.{core_range}

-- parameters

-- a step's parameters have the numbers from 0 on
abbrev pub with_param : Params → Param → Params
with_param params p = insert_entry bytes_eq params p.name.text (length params)

abbrev pub step_params : List Param → Params
step_params ps = fold with_param [] ps

-- the range of a parameter, in which no name stands
abbrev pub param_range : Param → Range
param_range p = core_range (range_ends [] p.range)

-- the names that a term binds, in reading order
abbrev pub names_layer : Term-F Texts → Texts
names_layer (Term-F.Imply at p q) = []
names_layer (Term-F.From at of) = []
names_layer (Term-F.Pair at which first second) = first ++ second
names_layer (Term-F.Exists at name range of) = name.text ∷ of
names_layer (Term-F.Induct at name range measure p q of) = name.text ∷ of
names_layer (Term-F.Psp at of by) = of
names_layer (Term-F.Weaken at p q of) = of

abbrev pub term_names : Term → Texts
term_names = fold-Term Texts names_layer

abbrev pub rule_names : Rule → Texts
rule_names (Rule.Text at with) = []
rule_names (Rule.Weaken at of) = []
rule_names (Rule.Pair at which first second) = []
rule_names (Rule.Superpose at of) = []
rule_names (Rule.Complete at first second third fourth) = []
rule_names (Rule.Term at of) = term_names of

-- the names of a step's parameters, and of those that its term binds, by their numbers
abbrev pub param_names : Texts → Step → List ℕ
param_names words step = map (word_number words)
    (map (λ p. p.name.text) (some_of step.params) ++ rule_names step.rule)

-- arguments

-- the number of the parameter, or of the name that a term binds, that a word means
abbrev pub param_named : Bounds → Params → List ℕ → Option ℕ
param_named bounds params word =
    option_or (option_and_then param_number (lookup (bytes_eq word) bounds)) (lookup (bytes_eq word) params)

-- a word that means no parameter means a variable
abbrev pub word_arg : Option (Symbol × ℕ) → Option ℕ → Arg
word_arg offset None = Arg.Slot
word_arg offset (Some number) = Arg.Param number (with_offset (pos 0) offset)

abbrev pub core_arg : Bounds → Params → End → Arg
core_arg bounds params (End.Number at minus number) = Arg.Number (signed minus (pos number))
core_arg bounds params (End.Word at name offset) = word_arg offset (param_named bounds params name.text)

abbrev pub core_args : Bounds → Params → Option (End × List End) → List Arg
core_args bounds params args = map (core_arg bounds params) (some_of args)

-- references and helpers

-- a reference that names no program means the one that is proved
abbrev pub ref_program : List ℕ → Name → Option Name → List ℕ
ref_program owner name None = owner
ref_program owner name (Some step) = name.text

abbrev pub ref_step : Name → Option Name → List ℕ
ref_step name None = name.text
ref_step name (Some step) = step.text

abbrev pub core_ref : Texts → List ℕ → Bounds → Params → TextRef → Ref
core_ref words owner bounds params r = record {
  program = word_number words (ref_program owner r.name r.step);
  step = word_number words (ref_step r.name r.step);
  args = core_args bounds params r.args;
}

abbrev pub core_helper : Texts → Bounds → Params → Inst → Helper
core_helper words bounds params helper = record {
  label = word_number words helper.label.text;
  args = core_args bounds params helper.indices;
}

-- rules and kinds

abbrev pub text_rule : Texts → Bounds → Params → Option Inst → CRule
text_rule words bounds params None = CRule.Text
text_rule words bounds params (Some helper) = CRule.TextWith (core_helper words bounds params helper)

-- a rule of two premises: one of the table, or the step of a union
pub data Joined : Type 0 where
  Pair : RuleName → Joined
  Union : Joined

-- no other word but these and `cancel` stands there
abbrev pub rule_of : Word → Joined
rule_of Word.Conj = Joined.Pair RuleName.Conj
rule_of Word.Simpleconj = Joined.Pair RuleName.Simpleconj
rule_of Word.Disj = Joined.Pair RuleName.Disj
rule_of Word.Simpledisj = Joined.Pair RuleName.Simpledisj
rule_of Word.Until = Joined.Pair RuleName.Until
rule_of Word.Detects = Joined.Pair RuleName.Detects
rule_of Word.Constant = Joined.Pair RuleName.Constant
rule_of Word.Union = Joined.Union
rule_of _ = Joined.Pair RuleName.Cancel

abbrev pub ruled : Joined → Ref → Ref → CRule
ruled (Joined.Pair which) r s = CRule.Pair which r s
ruled Joined.Union r s = CRule.Union r s

abbrev pub pair_rule : Word → Ref → Ref → CRule
pair_rule which r s = ruled (rule_of which) r s

-- schedules

-- an index of a choice, in which no name stands
abbrev pub core_choice : Texts → Inst → Choice
core_choice words choice = record {
  label = word_number words choice.label.text;
  indices = map (end_value []) (some_of choice.indices);
  at = choice.at;
}

abbrev pub core_schedule : Texts → Schedule → CSchedule
core_schedule words schedule = record {
  program = word_number words schedule.program.text;
  choices = map (core_choice words) (some_of schedule.choices);
}
