-- Settling: what a formula, taken to hold, adds to a branch.
use Rattle.std.specs.Prelude.{◌≡◌, ℤ, pos, negsuc, ◌+ℤ◌, ◌-ℤ◌, ◌*ℤ◌, Bool, false, true, cond, not, ◌&&◌, Option, Some}
use Rattle.std.specs.Prelude.{None, List, [], ◌∷◌, ◌++◌, ◌||◌, length, ℕ, remove, ⊤}
use Rattle.std.specs.List.{list_all}
use Rattle.core_terms.specs.declared.trees.CTerm.{CTerm, fold-CTerm}
use Rattle.core_terms.specs.declared.trees.CTerm.TheVariants.{Const, Slot, Param, Add, Sub, Scale, Ite, Div, Mod}
use Rattle.core_terms.specs.declared.trees.CForm.{CForm, out-CForm, fold-CForm}
use Rattle.core_terms.specs.declared.trees.CForm.TheVariants.{Top, Bottom, AtLeast, Zero, Not, And, Or}
use Rattle.core_terms.specs.declared.trees.CForm.TheOpen.{CTerm-F, CForm-F}
use Rattle.obligations.specs.declared.branches.Variable.{Variable}
use Rattle.obligations.specs.declared.branches.Fact.{Fact}
use Rattle.obligations.specs.declared.branches.Line.{Line}
use Rattle.obligations.specs.declared.branches.Branch.{Branch}
use Rattle.obligations.specs.declared.branches.Choice.{Choice}
use Rattle.obligations.specs.declared.branches.Taken.{Taken}
use Rattle.obligations.specs.declared.branches.Obligation.{Obligation}
use Rattle.core_terms.specs.declared.known.Dividing.{Dividing}
use Rattle.core_terms.specs.declared.known.Sense.{Sense}
use Rattle.core_terms.specs.Senses.{sense_node}
use Rattle.core_terms.specs.from_meaning_states.Division.{divisor, floored, rest_of}
use Rattle.core_terms.specs.Values.{number_at, form_step}
use Rattle.obligations.specs.LinearForms.{place_of, line_of_const, negated, linear, fact_of, fact_holds}
use Rattle.obligations.specs.Scopes.{scope_of}

-- a term's value at values of the variables, from those of its parts; what is no variable is worth 0
abbrev pub term_at_step : List Variable → List ℤ → CTerm-F Bool ℤ → ℤ
term_at_step vs values (CTerm-F.Const c) = c
term_at_step vs values (CTerm-F.Slot n) = number_at values (place_of vs false n)
term_at_step vs values (CTerm-F.Param n) = number_at values (place_of vs true n)
term_at_step vs values (CTerm-F.Add a b) = a +ℤ b
term_at_step vs values (CTerm-F.Sub a b) = a -ℤ b
term_at_step vs values (CTerm-F.Scale k a) = k *ℤ a
term_at_step vs values (CTerm-F.Ite c a b) = cond c a b
term_at_step vs values (CTerm-F.Div a k) = floored a k
term_at_step vs values (CTerm-F.Mod a k) = rest_of a k

-- a term's value at values of the variables
abbrev pub term_at : List Variable → List ℤ → CTerm → ℤ
term_at vs values = fold-CTerm Bool ℤ form_step (term_at_step vs values)

-- a formula's truth at values of the variables
abbrev pub form_at : List Variable → List ℤ → CForm → Bool
form_at vs values = fold-CForm Bool ℤ form_step (term_at_step vs values)

-- a branch holds where all its facts and all formulas that wait do
abbrev pub branch_holds : List Variable → List ℤ → Branch → Bool
branch_holds vs values b = list_all (fact_holds values) b.facts && list_all (form_at vs values) b.waiting

-- the facts and waiting formulas of one branch, and then those of another, which has no variables of its own
abbrev pub joined : Branch → Branch → Branch
joined a b = record { facts = a.facts ++ b.facts; waiting = a.waiting ++ b.waiting; added = a.added }

abbrev pub nothing : Branch
nothing = record { facts = []; waiting = []; added = 0 }

abbrev pub one_fact : Line → Branch
one_fact l = record { facts = fact_of l ∷ []; waiting = []; added = 0 }

abbrev pub two_facts : Line → Line → Branch
two_facts l m = record { facts = fact_of l ∷ fact_of m ∷ []; waiting = []; added = 0 }

-- the fact that -1 is at least 0
abbrev pub false_fact : Branch
false_fact = record { facts = record { factors = []; constant = negsuc 0 } ∷ []; waiting = []; added = 0 }

abbrev pub one_waiting : CForm → Branch
one_waiting f = record { facts = []; waiting = f ∷ []; added = 0 }

-- a term, and its first `Ite`
pub record Parted : Type 0 where
  pub tree : CTerm
  pub choice : Option Choice

-- a choice within a greater term
abbrev pub within : (CTerm → CTerm) → Choice → Choice
within f c = record { when = c.when; yes = f c.yes; no = f c.no }

-- the first part's choice, else the second's
abbrev pub first_choice : (CTerm → CTerm) → (CTerm → CTerm) → Option Choice → Option Choice → Option Choice
first_choice f g (Some c) d = Some (within f c)
first_choice f g None (Some d) = Some (within g d)
first_choice f g None None = None

abbrev pub form_tree_step : CForm-F CForm Parted → CForm
form_tree_step CForm-F.Top = Top
form_tree_step CForm-F.Bottom = Bottom
form_tree_step (CForm-F.AtLeast t) = AtLeast t.tree
form_tree_step (CForm-F.Zero t) = Zero t.tree
form_tree_step (CForm-F.Not f) = Not f
form_tree_step (CForm-F.And f g) = And f g
form_tree_step (CForm-F.Or f g) = Or f g

abbrev pub parted_step : CTerm-F CForm Parted → Parted
parted_step (CTerm-F.Const c) = record { tree = Const c; choice = None }
parted_step (CTerm-F.Slot n) = record { tree = Slot n; choice = None }
parted_step (CTerm-F.Param n) = record { tree = Param n; choice = None }
parted_step (CTerm-F.Add a b) = record {
  tree = Add a.tree b.tree;
  choice = first_choice (λ x. Add x b.tree) (λ y. Add a.tree y) a.choice b.choice;
}
parted_step (CTerm-F.Sub a b) = record {
  tree = Sub a.tree b.tree;
  choice = first_choice (λ x. Sub x b.tree) (λ y. Sub a.tree y) a.choice b.choice;
}
parted_step (CTerm-F.Scale k a) = record {
  tree = Scale k a.tree;
  choice = first_choice (λ x. Scale k x) (λ y. Scale k y) a.choice None;
}
parted_step (CTerm-F.Ite c a b) = record {
  tree = Ite c a.tree b.tree;
  choice = Some (record { when = c; yes = a.tree; no = b.tree });
}
parted_step (CTerm-F.Div a k) = record {
  tree = Div a.tree k;
  choice = first_choice (λ x. Div x k) (λ y. Div y k) a.choice None;
}
parted_step (CTerm-F.Mod a k) = record {
  tree = Mod a.tree k;
  choice = first_choice (λ x. Mod x k) (λ y. Mod y k) a.choice None;
}

abbrev pub parted : CTerm → Parted
parted = fold-CTerm CForm Parted form_tree_step parted_step

-- a term's first `Ite` in reading order, one before those inside it
abbrev pub first_ite : CTerm → Option Choice
first_ite t = (parted t).choice

-- whether a term has a quotient outside of its `Ite`s, from whether its parts do
abbrev pub quotient_step : CTerm-F ⊤ Bool → Bool
quotient_step (CTerm-F.Const c) = false
quotient_step (CTerm-F.Slot n) = false
quotient_step (CTerm-F.Param n) = false
quotient_step (CTerm-F.Add a b) = a || b
quotient_step (CTerm-F.Sub a b) = a || b
quotient_step (CTerm-F.Scale k a) = a
quotient_step (CTerm-F.Ite c a b) = false
quotient_step (CTerm-F.Div a k) = true
quotient_step (CTerm-F.Mod a k) = true

abbrev pub no_mark : CForm-F ⊤ Bool → ⊤
no_mark x = tt

abbrev pub has_quotient : CTerm → Bool
has_quotient = fold-CTerm ⊤ Bool no_mark quotient_step

-- a term, and its first quotient
pub record Quoted : Type 0 where
  pub tree : CTerm
  pub taken : Option Taken

-- a quotient within a greater term
abbrev pub taken_within : (CTerm → CTerm) → Taken → Taken
taken_within f q = record { of = q.of; divisor = q.divisor; rest = f q.rest }

-- the first part's quotient, else the second's
abbrev pub first_of : (CTerm → CTerm) → (CTerm → CTerm) → Option Taken → Option Taken → Option Taken
first_of f g (Some q) r = Some (taken_within f q)
first_of f g None (Some r) = Some (taken_within g r)
first_of f g None None = None

-- the quotient of the part, else the whole one
abbrev pub or_whole : (CTerm → CTerm) → Option Taken → Taken → Option Taken
or_whole f (Some q) whole = Some (taken_within f q)
or_whole f None whole = Some whole

-- a quotient or a remainder where the parameter of this number stands for the quotient
abbrev pub by_quotient : Dividing → ℕ → CTerm → ℤ → CTerm
by_quotient Dividing.Quotient v a k = Param v
by_quotient Dividing.Remainder v a k = Sub a (Scale (divisor k) (Param v))

abbrev pub quoted_form_step : CForm-F CForm Quoted → CForm
quoted_form_step CForm-F.Top = Top
quoted_form_step CForm-F.Bottom = Bottom
quoted_form_step (CForm-F.AtLeast t) = AtLeast t.tree
quoted_form_step (CForm-F.Zero t) = Zero t.tree
quoted_form_step (CForm-F.Not f) = Not f
quoted_form_step (CForm-F.And f g) = And f g
quoted_form_step (CForm-F.Or f g) = Or f g

-- a whole quotient becomes the parameter of this number, and what a division leaves becomes what is divided less the
-- divisor times the parameter
abbrev pub quoted_step : ℕ → CTerm-F CForm Quoted → Quoted
quoted_step v (CTerm-F.Const c) = record { tree = Const c; taken = None }
quoted_step v (CTerm-F.Slot n) = record { tree = Slot n; taken = None }
quoted_step v (CTerm-F.Param n) = record { tree = Param n; taken = None }
quoted_step v (CTerm-F.Add a b) = record {
  tree = Add a.tree b.tree;
  taken = first_of (λ x. Add x b.tree) (λ y. Add a.tree y) a.taken b.taken;
}
quoted_step v (CTerm-F.Sub a b) = record {
  tree = Sub a.tree b.tree;
  taken = first_of (λ x. Sub x b.tree) (λ y. Sub a.tree y) a.taken b.taken;
}
quoted_step v (CTerm-F.Scale k a) = record {
  tree = Scale k a.tree;
  taken = first_of (λ x. Scale k x) (λ y. Scale k y) a.taken None;
}
quoted_step v (CTerm-F.Ite c a b) = record { tree = Ite c a.tree b.tree; taken = None }
quoted_step v (CTerm-F.Div a k) = record {
  tree = Div a.tree k;
  taken = or_whole (λ x. Div x k) a.taken (record { of = a.tree; divisor = divisor k; rest = Param v });
}
quoted_step v (CTerm-F.Mod a k) = record {
  tree = Mod a.tree k;
  taken = or_whole (λ x. Mod x k) a.taken
      (record { of = a.tree; divisor = divisor k; rest = Sub a.tree (Scale (divisor k) (Param v)) });
}

abbrev pub quoted : ℕ → CTerm → Quoted
quoted v = fold-CTerm CForm Quoted quoted_form_step (quoted_step v)

-- a term's first quotient outside of its `Ite`s, operands before their operator
abbrev pub first_taken : ℕ → CTerm → Option Taken
first_taken v t = (quoted v t).taken

-- the waiting formula that stands for a choice in a formula
abbrev pub choice_form : (CTerm → CForm) → Choice → CForm
choice_form f c = Or (And c.when (f c.yes)) (And (Not c.when) (f c.no))

-- the facts that say of a term with neither `Ite` nor quotient that it is at least 0, or that it is 0
abbrev pub sense_facts : Sense → List Variable → CTerm → Branch
sense_facts Sense.AtLeast vs t = one_fact (linear vs t)
sense_facts Sense.Zero vs t = two_facts (linear vs t) (negated vs (linear vs t))

-- what it adds: where the term has a quotient, it waits
abbrev pub sense_adds : Sense → List Variable → CTerm → Option Choice → Branch
sense_adds sense vs t None = cond (has_quotient t) (one_waiting (sense_node sense t)) (sense_facts sense vs t)
sense_adds sense vs t (Some c) = one_waiting (choice_form (sense_node sense) c)

-- what `AtLeast` of a term adds: where it has a quotient, it waits
abbrev pub least_adds : List Variable → CTerm → Option Choice → Branch
least_adds vs t None = cond (has_quotient t) (one_waiting (AtLeast t)) (one_fact (linear vs t))
least_adds vs t (Some c) = one_waiting (choice_form AtLeast c)

-- what `Zero` of a term adds: where it has a quotient, it waits
abbrev pub zero_adds : List Variable → CTerm → Option Choice → Branch
zero_adds vs t None =
    cond (has_quotient t) (one_waiting (Zero t)) (two_facts (linear vs t) (negated vs (linear vs t)))
zero_adds vs t (Some c) = one_waiting (choice_form Zero c)

-- what `Not` of `Zero` of a term adds
abbrev pub unequal_adds : CTerm → Option Choice → Branch
unequal_adds t None = one_waiting (Or (AtLeast (Sub t (Const (pos 1)))) (AtLeast (Sub (Const (negsuc 0)) t)))
unequal_adds t (Some c) = one_waiting (choice_form (λ x. Not (Zero x)) c)

-- the term that is at least 0 exactly where this one is not
abbrev pub below_zero : CTerm → CTerm
below_zero t = Sub (Const (negsuc 0)) t

-- a formula, and what it and its negation add
pub record Settled : Type 0 where
  pub tree : CForm
  pub yes : Branch
  pub no : Branch

abbrev pub term_tree_step : CTerm-F Settled CTerm → CTerm
term_tree_step (CTerm-F.Const c) = Const c
term_tree_step (CTerm-F.Slot n) = Slot n
term_tree_step (CTerm-F.Param n) = Param n
term_tree_step (CTerm-F.Add a b) = Add a b
term_tree_step (CTerm-F.Sub a b) = Sub a b
term_tree_step (CTerm-F.Scale k a) = Scale k a
term_tree_step (CTerm-F.Ite c a b) = Ite c.tree a b
term_tree_step (CTerm-F.Div a k) = Div a k
term_tree_step (CTerm-F.Mod a k) = Mod a k

-- what a formula and its negation add, from what its parts do
abbrev pub outcome_step : List Variable → CForm-F Settled CTerm → Settled
outcome_step vs CForm-F.Top = record { tree = Top; yes = nothing; no = one_fact (line_of_const vs (negsuc 0)) }
outcome_step vs CForm-F.Bottom = record { tree = Bottom; yes = one_fact (line_of_const vs (negsuc 0)); no = nothing }
outcome_step vs (CForm-F.AtLeast t) = record {
  tree = AtLeast t;
  yes = least_adds vs t (first_ite t);
  no = least_adds vs (below_zero t) (first_ite (below_zero t));
}
outcome_step vs (CForm-F.Zero t) = record {
  tree = Zero t;
  yes = zero_adds vs t (first_ite t);
  no = unequal_adds t (first_ite t);
}
outcome_step vs (CForm-F.Not f) = record { tree = Not f.tree; yes = f.no; no = f.yes }
outcome_step vs (CForm-F.And f g) = record {
  tree = And f.tree g.tree;
  yes = joined f.yes g.yes;
  no = one_waiting (Or (Not f.tree) (Not g.tree));
}
outcome_step vs (CForm-F.Or f g) = record {
  tree = Or f.tree g.tree;
  yes = one_waiting (Or f.tree g.tree);
  no = joined f.no g.no;
}

abbrev pub outcome : List Variable → CForm → Settled
outcome vs = fold-CForm Settled CTerm (outcome_step vs) term_tree_step

-- the branch with a formula settled
abbrev pub settled : List Variable → CForm → Branch → Branch
settled vs f b = joined b (outcome vs f).yes

-- the branch with the negation of a formula settled
abbrev pub refused : List Variable → CForm → Branch → Branch
refused vs f b = joined b (outcome vs f).no

-- a branch with a formula settled holds exactly where the branch and the formula do
abbrev pub SettledHolds : Type 0
SettledHolds = (vs : List Variable) (values : List ℤ) (f : CForm) (b : Branch) → length values ≡ length vs →
    branch_holds vs values (settled vs f b) ≡ (branch_holds vs values b && form_at vs values f)

-- and with its negation settled, where the branch does and the formula does not
abbrev pub RefusedHolds : Type 0
RefusedHolds = (vs : List Variable) (values : List ℤ) (f : CForm) (b : Branch) → length values ≡ length vs →
    branch_holds vs values (refused vs f b) ≡ (branch_holds vs values b && not (form_at vs values f))

-- a branch holds exactly where another one and a formula do, over the variables of that one
abbrev pub HoldsWith : Obligation → Branch → CForm → Branch → Type 0
HoldsWith o b f c = (values : List ℤ) → length values ≡ length (scope_of o.variables b) →
    branch_holds (scope_of o.variables b) values c
    ≡ (branch_holds (scope_of o.variables b) values b && form_at (scope_of o.variables b) values f)

-- the two sides of a waiting form
abbrev pub sides_in : CForm → CForm-F CForm CTerm → CForm × CForm
sides_in f (CForm-F.Or a b) = (a, b)
sides_in f _ = (f, f)

abbrev pub sides : CForm → CForm × CForm
sides f = sides_in f (out-CForm f)

abbrev pub added : Branch → Fact → Branch
added b f = joined b (record { facts = f ∷ []; waiting = []; added = 0 })

-- a branch without the waiting formula at a place
abbrev pub without : Branch → ℕ → Branch
without b n = record { facts = b.facts; waiting = remove b.waiting n; added = b.added }
