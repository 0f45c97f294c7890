-- Pools of trees: each node once, its parts given by the places of their trees.
use Rattle.std.specs.Prelude.{◌≡◌, ℕ, ◌<◌, pos, List, map, length, All, Some, slice_get, slice_index_or}
use Rattle.core_terms.specs.declared.trees.CTerm.{CTerm}
use Rattle.core_terms.specs.declared.trees.CTerm.TheVariants.{Const, Slot, Param, Add, Sub, Scale, Div, Mod, Ite}
use Rattle.core_terms.specs.declared.trees.CForm.{CForm}
use Rattle.core_terms.specs.declared.trees.CForm.TheVariants.{Top, Bottom, AtLeast, Zero, Not, And, Or}
use Rattle.core_terms.specs.declared.nodes.FormNode.{FormNode}
use Rattle.core_terms.specs.declared.nodes.TermNode.{TermNode}
use Rattle.core_terms.specs.declared.entries.FormEntry.{FormEntry}
use Rattle.core_terms.specs.declared.entries.TermEntry.{TermEntry}
use Rattle.core_terms.specs.declared.tables.Tables.{Tables}

-- the trees of entries, in order
abbrev pub form_trees : List FormEntry → List CForm
form_trees entries = map (λ e. e.tree) entries

abbrev pub term_trees : List TermEntry → List CTerm
term_trees entries = map (λ e. e.tree) entries

-- the tree at a place
abbrev pub form_or : List CForm → ℕ → CForm
form_or forms i = slice_index_or forms i Top

abbrev pub term_or : List CTerm → ℕ → CTerm
term_or terms i = slice_index_or terms i (Const (pos 0))

-- the tree of a node, from the trees at its parts' places
abbrev pub form_of_node : List CForm → List CTerm → FormNode → CForm
form_of_node forms terms FormNode.Top = Top
form_of_node forms terms FormNode.Bottom = Bottom
form_of_node forms terms (FormNode.AtLeast t) = AtLeast (term_or terms t.place)
form_of_node forms terms (FormNode.Zero t) = Zero (term_or terms t.place)
form_of_node forms terms (FormNode.Not f) = Not (form_or forms f.place)
form_of_node forms terms (FormNode.And f g) = And (form_or forms f.place) (form_or forms g.place)
form_of_node forms terms (FormNode.Or f g) = Or (form_or forms f.place) (form_or forms g.place)

abbrev pub term_of_node : List CForm → List CTerm → TermNode → CTerm
term_of_node forms terms (TermNode.Const c) = Const c
term_of_node forms terms (TermNode.Slot n) = Slot n
term_of_node forms terms (TermNode.Param n) = Param n
term_of_node forms terms (TermNode.Add a b) = Add (term_or terms a.place) (term_or terms b.place)
term_of_node forms terms (TermNode.Sub a b) = Sub (term_or terms a.place) (term_or terms b.place)
term_of_node forms terms (TermNode.Scale k a) = Scale k (term_or terms a.place)
term_of_node forms terms (TermNode.Div a k) = Div (term_or terms a.place) k
term_of_node forms terms (TermNode.Mod a k) = Mod (term_or terms a.place) k
term_of_node forms terms (TermNode.Ite c a b) =
    Ite (form_or forms c.place) (term_or terms a.place) (term_or terms b.place)

-- the parts are among so many formulas and so many terms
abbrev pub IsFormWithin : ℕ → ℕ → FormNode → Type 0
IsFormWithin forms terms FormNode.Top = Unit {0}
IsFormWithin forms terms FormNode.Bottom = Unit {0}
IsFormWithin forms terms (FormNode.AtLeast t) = t.place < terms
IsFormWithin forms terms (FormNode.Zero t) = t.place < terms
IsFormWithin forms terms (FormNode.Not f) = f.place < forms
IsFormWithin forms terms (FormNode.And f g) = (f.place < forms) × (g.place < forms)
IsFormWithin forms terms (FormNode.Or f g) = (f.place < forms) × (g.place < forms)

abbrev pub IsTermWithin : ℕ → ℕ → TermNode → Type 0
IsTermWithin forms terms (TermNode.Const c) = Unit {0}
IsTermWithin forms terms (TermNode.Slot n) = Unit {0}
IsTermWithin forms terms (TermNode.Param n) = Unit {0}
IsTermWithin forms terms (TermNode.Add a b) = (a.place < terms) × (b.place < terms)
IsTermWithin forms terms (TermNode.Sub a b) = (a.place < terms) × (b.place < terms)
IsTermWithin forms terms (TermNode.Scale k a) = a.place < terms
IsTermWithin forms terms (TermNode.Div a k) = a.place < terms
IsTermWithin forms terms (TermNode.Mod a k) = a.place < terms
IsTermWithin forms terms (TermNode.Ite c a b) = (c.place < forms) × (a.place < terms) × (b.place < terms)

-- what a pool holds: nodes, and at the same places the trees that they are
pub record Pooled : Type 0 where
  pub form_nodes : List FormNode
  pub forms : List CForm
  pub term_nodes : List TermNode
  pub terms : List CTerm

abbrev pub pooled : Tables → Pooled
pooled t = record {
  form_nodes = t.form_nodes.keys;
  forms = form_trees t.forms;
  term_nodes = t.term_nodes.keys;
  terms = term_trees t.terms;
}

-- an item stands at one place alone
abbrev pub IsOnce : {X : Type 0} → List X → Type 0
IsOnce {X} xs = (i j : ℕ) (x : X) → slice_get xs i ≡ Some x → slice_get xs j ≡ Some x → i ≡ j

-- each tree is that of its node, no two trees are equal, and no node has a part that is not there
pub record IsPool (p : Pooled) : Type 0 where
  pub forms : p.forms ≡ map (form_of_node p.forms p.terms) p.form_nodes
  pub terms : p.terms ≡ map (term_of_node p.forms p.terms) p.term_nodes
  pub form_parts : All (IsFormWithin (length p.forms) (length p.terms)) p.form_nodes
  pub term_parts : All (IsTermWithin (length p.forms) (length p.terms)) p.term_nodes
  pub forms_once : IsOnce p.forms
  pub terms_once : IsOnce p.terms

-- what stands at a place stays there
abbrev pub Keeps : {X : Type 0} → List X → List X → Type 0
Keeps {X} xs ys = (i : ℕ) (x : X) → slice_get xs i ≡ Some x → slice_get ys i ≡ Some x

-- all that a pool holds stays where it is
pub record Grows (p q : Pooled) : Type 0 where
  pub form_nodes : Keeps p.form_nodes q.form_nodes
  pub forms : Keeps p.forms q.forms
  pub term_nodes : Keeps p.term_nodes q.term_nodes
  pub terms : Keeps p.terms q.terms
