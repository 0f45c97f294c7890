-- Proof terms in core form.
use Rattle.std.specs.Prelude.{◌≡◌, ℕ, ◌+◌, ℤ, List, [], ◌∷◌, ◌++◌, Result, Ok, Err}
use Rattle.case_tables.specs.declared.word_table.Word.{Word}
use Rattle.unity_syntax.specs.declared.name.Range.{Range as TextRange}
use Rattle.unity_syntax.specs.declared.term.Ref.{Ref as TextRef}
use Rattle.unity_syntax.specs.declared.term.Term.{Term, fold-Term}
use Rattle.unity_syntax.specs.declared.term.Term.TheOpen.{Term-F}
use Rattle.expand_rules.specs.from_meaning_documents.Value.{range_ends}
use Rattle.core_terms.specs.declared.documents.Ref.{Ref}
use Rattle.core_terms.specs.declared.documents.PTerm.{PTerm}
use Rattle.core_terms.specs.declared.documents.PTerm.TheVariants.{Imply, From, Trans, Either, Exists, Induct, Psp}
use Rattle.core_terms.specs.declared.documents.PTerm.TheVariants.{Weaken}
use Rattle.names_rules.specs.declared.named.Meaning.{Meaning}
use Rattle.names_rules.specs.declared.named.NameFault.{NameFault}
use Rattle.names_rules.specs.declared.known.Env.{Env}
use Rattle.names_rules.specs.Scope.{Bounds, Params, bounds, entries}
use Rattle.expand_expressions.specs.declared.places.Env.{Env as BoundEnv}
use Rattle.expand_expressions.specs.Places.{scope}
use Rattle.expand_rules.specs.declared.cores.Bound.{Bound}
use Rattle.expand_rules.specs.declared.cores.Flaws.{Flaws}
use Rattle.expand_rules.specs.declared.cores.Formed.{Formed}
use Rattle.expand_rules.specs.Forming.{Scope}
use Rattle.expand_rules.specs.Measures.{ends_weight}
use Rattle.expand_declarations.specs.Texts.{Texts}
use Rattle.expand_declarations.specs.Numbers.{core_range}
use Rattle.expand_declarations.specs.References.{core_ref}
use Rattle.expand_steps.specs.Elements.{truth_in, number_in, form_in, term_in, some_too_large, StopsLarge, Given}
use Rattle.expand_steps.specs.declared.terms.Here.{Here}
use Rattle.expand_steps.specs.declared.term_forms.Induction.{Induction}
use Rattle.core_terms.specs.declared.trees.CForm.{CForm}
use Rattle.unity_syntax.specs.declared.expression.Expr.{Expr}

-- where a part of a step stands: the words of the document, the program that is proved, what expressions see, the names
-- that terms bind around it, and the parameters of the step
pub record Place : Type 0 where
  pub words : Texts
  pub owner : List ℕ
  pub scope : Scope
  pub bounds : Bounds
  pub params : Params

-- a range in which no name stands
abbrev pub fixed_ends : TextRange → ℤ × ℤ
fixed_ends range = range_ends [] range

-- the parameter of this number, with a range
abbrev pub param_bound : ℕ → TextRange → Bound
param_bound number range = Bound.Param number (ends_weight (fixed_ends range))

-- the same place, with one more name bound, which has a number and a range
abbrev pub with_bound_name : Place → List ℕ → ℕ → TextRange → Place
with_bound_name c name number range = record c {
  scope = record c.scope { bound = (name, param_bound number range) ∷ c.scope.bound };
  bounds = (name, Meaning.Param number) ∷ c.bounds;
}

abbrev pub ref_in : Place → TextRef → Ref
ref_in c r = core_ref c.words c.owner c.bounds c.params r

-- a term in core form, the number after those of the names that it binds, and its formulas in reading order
pub record Termed : Type 0 where
  pub core : PTerm
  pub next : ℕ
  pub formulas : List Formed

-- `trans` and `either`; no other word stands there
abbrev pub pair_term : Word → PTerm → PTerm → PTerm
pair_term Word.Either t u = Either t u
pair_term _ t u = Trans t u

-- what a term is, at each place, where its bound names are numbered from this number on
abbrev pub Terming : Type 0
Terming = Place → ℕ → Termed

-- two terms, one after the other
abbrev pub second_paired : Word → PTerm → Termed → Termed
second_paired which first u = record u { core = pair_term which first u.core }

abbrev pub paired : Word → Termed → Termed → Termed
paired which t u = record { core = pair_term which t.core u.core; next = u.next; formulas = t.formulas ++ u.formulas }

-- a weakened term
abbrev pub weakened_by : CForm → CForm → Termed → Termed
weakened_by p q t = record t { core = Weaken p q t.core }

abbrev pub weakened : Scope → Expr → Expr → Termed → Termed
weakened s p q t = record {
  core = Weaken (form_in s p) (form_in s q) t.core;
  next = t.next;
  formulas = (truth_in s p ∷ truth_in s q ∷ []) ++ t.formulas;
}

-- an induction over a range
abbrev pub inducted_by : Induction → Termed → Termed
inducted_by i t = record t { core = Induct i.number i.range i.measure i.p i.q t.core }

abbrev pub inducted : Scope → ℕ → TextRange → Expr → Expr → Expr → Termed → Termed
inducted s number range measure p q t = record {
  core = Induct number (core_range (fixed_ends range)) (term_in s measure) (form_in s p) (form_in s q) t.core;
  next = t.next;
  formulas = (number_in s measure ∷ truth_in s p ∷ truth_in s q ∷ []) ++ t.formulas;
}

abbrev pub term_layer : Term-F Terming → Terming
term_layer (Term-F.Imply at p q) c next = record {
  core = Imply (form_in c.scope p) (form_in c.scope q);
  next = next;
  formulas = truth_in c.scope p ∷ truth_in c.scope q ∷ [];
}
term_layer (Term-F.From at of) c next = record { core = From (ref_in c of); next = next; formulas = [] }
term_layer (Term-F.Pair at which first second) c next = paired which (first c next) (second c (first c next).next)
term_layer (Term-F.Exists at name range of) c next =
    let inner = of (with_bound_name c name.text next range) (next + 1) in
    record inner { core = Exists next (core_range (fixed_ends range)) inner.core }
term_layer (Term-F.Induct at name range measure p q of) c next =
    inducted c.scope next range measure p q (of (with_bound_name c name.text next range) (next + 1))
term_layer (Term-F.Psp at of by) c next = let t = of c next in record t { core = Psp t.core (ref_in c by) }
term_layer (Term-F.Weaken at p q of) c next = weakened c.scope p q (of c next)

abbrev pub termed : Term → Terming
termed = fold-Term Terming term_layer

-- the place that the code stands at
abbrev pub place : Here → Env → BoundEnv → Place
place here names env = record {
  words = here.words.now;
  owner = here.owner.now.text;
  scope = scope here.known.now env;
  bounds = bounds names;
  params = entries here.params.now;
}

-- a call that gives a term, and leaves the number after those of the names that it binds
abbrev pub Terms : Result PTerm NameFault → ℕ → ℕ → Flaws → Flaws → Termed → Type 0
Terms (Ok core) next front old new t = Given core t.core old new t.formulas × (next ≡ t.next)
Terms (Err e) next front old new t = StopsLarge e front (some_too_large t.formulas)
