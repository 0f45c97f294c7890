-- Two folds of the same tree, and a relation between what they give. Where the relation passes from the parts of each
-- layer to the whole layer, it holds between the two folds of every tree.
use Rattle.unity_syntax.specs.declared.expression.Expr.{Expr, fold-Expr}
use Rattle.unity_syntax.specs.declared.expression.Expr.TheOpen.{Expr-F}
use Rattle.unity_syntax.specs.declared.expression.Expr.TheFolds.{map-Expr}
use Rattle.unity_syntax.specs.declared.statement.Component.{Component, fold-Component}
use Rattle.unity_syntax.specs.declared.statement.Component.TheOpen.{Component-F, Assign-F}
use Rattle.unity_syntax.specs.declared.statement.Component.TheFolds.{map-Component, map-Assign}
use Rattle.unity_syntax.specs.declared.statement.Assign.{Assign, fold-Assign}
use Rattle.unity_syntax.specs.declared.statement.Item.{Item, fold-Item}
use Rattle.unity_syntax.specs.declared.statement.Item.TheOpen.{Item-F, Items-F}
use Rattle.unity_syntax.specs.declared.statement.Item.TheFolds.{map-Item, map-Items}
use Rattle.unity_syntax.specs.declared.statement.Items.{Items, fold-Items}
use Rattle.unity_syntax.specs.declared.term.Term.{Term, fold-Term}
use Rattle.unity_syntax.specs.declared.term.Term.TheOpen.{Term-F}
use Rattle.unity_syntax.specs.declared.term.Term.TheFolds.{map-Term}

-- what the two folds give for a part, and that these are related
abbrev pub Related : {A B : Type 0} → (A → B → Type 0) → Type 0
Related {A = A} {B = B} R = (a : A) × (b : B) × R a b

-- Expressions.

-- a layer of an expression whose parts are related is related
abbrev pub ExpressionLayers : {A B : Type 0} → (A → B → Type 0) → (Expr-F A → A) → (Expr-F B → B) → Type 0
ExpressionLayers {A = A} {B = B} R f g = (y : Expr-F (Related R)) →
    R (f (map-Expr (Related R) A (λ r. r.0) y)) (g (map-Expr (Related R) B (λ r. r.1) y))

-- then so is every expression
abbrev pub TwoExpressions : {A B : Type 0} → (A → B → Type 0) → Type 0
TwoExpressions {A = A} {B = B} R = (f : Expr-F A → A) (g : Expr-F B → B) →
    ExpressionLayers R f g → (e : Expr) → R (fold-Expr A f e) (fold-Expr B g e)

-- Components and assignments, each with a relation of its own.

-- a layer of a component
abbrev pub ComponentLayers : {A B C D : Type 0} → (A → B → Type 0) → (C → D → Type 0) →
    (Component-F A C → A) → (Component-F B D → B) → Type 0
ComponentLayers {A = A} {B = B} {C = C} {D = D} R S f g = (y : Component-F (Related R) (Related S)) →
    R (f (map-Component (Related R) (Related S) A C (λ r. r.0) (λ s. s.0) y))
    (g (map-Component (Related R) (Related S) B D (λ r. r.1) (λ s. s.1) y))

-- a layer of an assignment
abbrev pub AssignLayers : {A B C D : Type 0} → (A → B → Type 0) → (C → D → Type 0) →
    (Assign-F A C → C) → (Assign-F B D → D) → Type 0
AssignLayers {A = A} {B = B} {C = C} {D = D} R S f g = (y : Assign-F (Related R) (Related S)) →
    S (f (map-Assign (Related R) (Related S) A C (λ r. r.0) (λ s. s.0) y))
    (g (map-Assign (Related R) (Related S) B D (λ r. r.1) (λ s. s.1) y))

-- then so are every component and every assignment
abbrev pub TwoAssignments : {A B C D : Type 0} → (A → B → Type 0) → (C → D → Type 0) → Type 0
TwoAssignments {A = A} {B = B} {C = C} {D = D} R S = (f : Component-F A C → A) (f' : Assign-F A C → C)
    (g : Component-F B D → B) (g' : Assign-F B D → D) → ComponentLayers R S f g → AssignLayers R S f' g' →
    ((c : Component) → R (fold-Component A C f f' c) (fold-Component B D g g' c)) ×
    ((a : Assign) → S (fold-Assign A C f f' a) (fold-Assign B D g g' a))

-- Items and lists of them, likewise.

-- a layer of an item
abbrev pub ItemLayers : {A B C D : Type 0} → (A → B → Type 0) → (C → D → Type 0) →
    (Item-F A C → A) → (Item-F B D → B) → Type 0
ItemLayers {A = A} {B = B} {C = C} {D = D} R S f g = (y : Item-F (Related R) (Related S)) →
    R (f (map-Item (Related R) (Related S) A C (λ r. r.0) (λ s. s.0) y))
    (g (map-Item (Related R) (Related S) B D (λ r. r.1) (λ s. s.1) y))

-- a layer of a list of items
abbrev pub ItemsLayers : {A B C D : Type 0} → (A → B → Type 0) → (C → D → Type 0) →
    (Items-F A C → C) → (Items-F B D → D) → Type 0
ItemsLayers {A = A} {B = B} {C = C} {D = D} R S f g = (y : Items-F (Related R) (Related S)) →
    S (f (map-Items (Related R) (Related S) A C (λ r. r.0) (λ s. s.0) y))
    (g (map-Items (Related R) (Related S) B D (λ r. r.1) (λ s. s.1) y))

-- then so are every item and every list of items
abbrev pub TwoItems : {A B C D : Type 0} → (A → B → Type 0) → (C → D → Type 0) → Type 0
TwoItems {A = A} {B = B} {C = C} {D = D} R S = (f : Item-F A C → A) (f' : Items-F A C → C)
    (g : Item-F B D → B) (g' : Items-F B D → D) → ItemLayers R S f g → ItemsLayers R S f' g' →
    ((i : Item) → R (fold-Item A C f f' i) (fold-Item B D g g' i)) ×
    ((is : Items) → S (fold-Items A C f f' is) (fold-Items B D g g' is))

-- Proof terms.

-- a layer of a term
abbrev pub TermLayers : {A B : Type 0} → (A → B → Type 0) → (Term-F A → A) → (Term-F B → B) → Type 0
TermLayers {A = A} {B = B} R f g = (y : Term-F (Related R)) →
    R (f (map-Term (Related R) A (λ r. r.0) y)) (g (map-Term (Related R) B (λ r. r.1) y))

-- then so is every term
abbrev pub TwoTerms : {A B : Type 0} → (A → B → Type 0) → Type 0
TwoTerms {A = A} {B = B} R = (f : Term-F A → A) (g : Term-F B → B) →
    TermLayers R f g → (t : Term) → R (fold-Term A f t) (fold-Term B g t)
