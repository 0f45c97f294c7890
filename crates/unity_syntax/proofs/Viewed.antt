-- What stands in brackets is the view of what the typed trees have there.
use Rattle.std.proofs.Common.{◌≡◌, ℕ, zero, suc, ◌⊎◌, inl, inr, List, [], ◌∷◌, refl}
use Rattle.case_tables.specs.declared.word_table.Word.{Word}
use Rattle.grammar_theory.specs.Ebnf.{Tree, choice, pair, left, right}
use Rattle.unity_syntax.specs.Classes.{reserved}
use Rattle.unity_syntax.specs.Kinds.{Contents}
use Rattle.unity_syntax.specs.View.{view_some, view_name, view_end, view_range, view_expr, view_with_minus, view_assign}
use Rattle.unity_syntax.specs.View.{view_items, view_ref, view_term, view_param}
use Rattle.unity_syntax.specs.declared.name.Name.{Name}
use Rattle.unity_syntax.specs.declared.name.Range.{Range}
use Rattle.unity_syntax.specs.declared.expression.Expr.{Expr}
use Rattle.unity_syntax.specs.declared.term.Term.{Term}

-- The tree is the view of something.
pub record IsView {A : Type 0} (view : A → Tree) (x : Tree) : Type 0 where
  pub of : A
  pub same : view of ≡ x

pub seen : {A : Type 0} {view : A → Tree} (a : A) → IsView view (view a)
seen a = record { of = a; same = refl }

pub seen_by : {A : Type 0} {view : A → Tree} {x : Tree} (a : A) → view a ≡ x → IsView view x
seen_by a e = record { of = a; same = e }

abbrev pub view_both : {A B : Type 0} → (A → Tree) → (B → Tree) → A × B → Tree
view_both v w x = pair (v x.0) (w x.1)

abbrev pub view_either : {A B : Type 0} → (A → Tree) → (B → Tree) → A ⊎ B → Tree
view_either v w (inl x) = left (v x)
view_either v w (inr y) = right (w y)

abbrev pub view_over : {A : Type 0} → (A → Tree) → Name × (Range × A) → Tree
view_over v = view_both view_name (view_both view_range v)

abbrev pub view_word : Word → Tree
view_word w = choice (reserved w)

abbrev pub view_quantified : Word × (Name × (Range × Expr)) → Tree
view_quantified = view_both view_word (view_over view_expr)

abbrev pub view_weaken : Expr × (Expr × Term) → Tree
view_weaken = view_both view_expr (view_both view_expr view_term)

-- what is seen in brackets
abbrev pub Viewed : Contents → Tree → Type 0
Viewed Contents.parentheses = IsView (view_either view_quantified view_expr)
Viewed Contents.index = IsView view_expr
Viewed Contents.words = IsView (view_some view_name)
Viewed Contents.start_index = IsView view_with_minus
Viewed Contents.params = IsView (view_some view_param)
Viewed Contents.ends = IsView (view_some view_end)
Viewed Contents.assign = IsView (view_over view_assign)
Viewed Contents.items = IsView (view_over view_items)
Viewed Contents.imply = IsView (view_both view_expr view_expr)
Viewed Contents.pair = IsView (view_both view_term view_term)
Viewed Contents.exists = IsView (view_over view_term)
Viewed Contents.induct = IsView (view_over (view_both view_expr (view_both view_expr (view_both view_expr view_term))))
Viewed Contents.psp = IsView (view_both view_term view_ref)
Viewed Contents.weaken = IsView view_weaken

abbrev pub all_contents : List Contents
all_contents =
    Contents.parentheses ∷ Contents.index ∷ Contents.words ∷ Contents.start_index ∷ Contents.params ∷ Contents.ends
    ∷ Contents.assign ∷ Contents.items
    ∷ Contents.imply ∷ Contents.pair ∷ Contents.exists ∷ Contents.induct ∷ Contents.psp ∷ Contents.weaken ∷ []

abbrev pub contents_at : List Contents → ℕ → Contents
contents_at [] n = Contents.index
contents_at (c ∷ cs) zero = c
contents_at (c ∷ cs) (suc n) = contents_at cs n

-- likewise, by the number
abbrev pub viewed : ℕ → Tree → Type 0
viewed k = Viewed (contents_at all_contents k)
