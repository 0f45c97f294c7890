-- Where words stand for the same, expressions and assignments become the same.
use Rattle.std.proofs.Common.{◌≡◌, ℕ, ℤ, List, [], ◌∷◌, map, Option, Some, None, option_map, refl, sym, ap, ◌∙◌}
use Rattle.std.specs.Prelude.{fold}
use Rattle.std.specs.Option.{option_or}
use Rattle.std.specs.Map.{lookup}
use Rattle.std.specs.Str.{bytes_eq}
use Rattle.case_tables.specs.declared.symbol_table.Symbol.{Symbol}
use Rattle.unity_syntax.specs.declared.expression.Expr.{Expr}
use Rattle.unity_syntax.specs.declared.expression.Expr.TheOpen.{Expr-F}
use Rattle.unity_syntax.specs.declared.expression.Expr.TheFolds.{map-Expr}
use Rattle.unity_syntax.specs.declared.expression.Operator.{Operator}
use Rattle.unity_syntax.specs.declared.statement.Target.{Target}
use Rattle.unity_syntax.specs.declared.statement.Component.TheOpen.{Component-F}
use Rattle.unity_syntax.specs.TwoFolds.{Related, ExpressionLayers, ComponentLayers, AssignLayers}
use Rattle.unity_syntax.proofs.ExpressionFolds.{two_expressions}
use Rattle.unity_syntax.proofs.AssignmentFolds.{two_assignments}
use Rattle.meaning_documents.specs.Names.{Variable}
use Rattle.meaning_documents.specs.Writes.{Alternative, alternatives}
use Rattle.meaning_documents.specs.Names.{variable_named}
use Rattle.expand_rules.specs.declared.cores.Bound.{Bound}
use Rattle.expand_rules.specs.declared.cores.Formed.{Formed}
use Rattle.expand_rules.specs.declared.effects.Effect.{Effect}
use Rattle.expand_rules.specs.Forming.{Scope, with_number, as_truth, as_number, implication, conjunction}
use Rattle.expand_rules.specs.Forming.{disjunction, denial, comparison, signed, plus, factored, number_constant}
use Rattle.expand_rules.specs.Forming.{bound_formed, variable_formed, formed_or_zero, word_formed, element_of}
use Rattle.expand_rules.specs.Forming.{gathered, numbers, fit_values, quantified, Forming, form_layer, formed}
use Rattle.expand_rules.specs.Assigning.{nothing, beside, exactly, one_more, target_effect, index_formed}
use Rattle.expand_rules.specs.Counts.{no_count, both_counts, one_node_more}
use Rattle.expand_rules.specs.Forming.{factor_at, operand_at, operand_count, place_layer, made_layer, unwritten_layer}
use Rattle.expand_rules.specs.Forming.{quantified_count, forming, unwritten_count}
use Rattle.expand_rules.specs.declared.effects.Count.{Count}
use Rattle.expand_rules.specs.Assigning.{paired_effect, condition, alternative_effect, all_beside}
use Rattle.expand_rules.specs.Assigning.{quantified_effect, Effecting, component_layer, assign_layer}
use Rattle.expand_correct.specs.Values.SightLaws.{unnamed, SeeSame, FormedBySight, AssignedBySight}
use Rattle.expand_correct.proofs.Values.Operations.{two}

-- two expressions that begin at one byte, and that become the same and count the same wherever words stand for the same
record Forms (f g : Forming) : Type 0 where
  at : f.at ≡ g.at
  made : (s t : Scope) → SeeSame s t → f.made s ≡ g.made t
  left : (s t : Scope) → SeeSame s t → f.unwritten s ≡ g.unwritten t

abbrev Part : Type 0
Part = Related Forms

all_same : (s t : Scope) → SeeSame s t → (xs : List Part) → map (λ m. m.made s) (map (λ k. k.0) xs) ≡
    map (λ m. m.made t) (map (λ k. k.1) xs)
all_same s t h [] = refl
all_same s t h (x ∷ xs) = two (λ y ys. y ∷ ys) _ _ _ _ (x.2.made s t h) (all_same s t h xs)

all_left : (s t : Scope) → SeeSame s t → (xs : List Part) → map (λ m. m.unwritten s) (map (λ k. k.0) xs) ≡
    map (λ m. m.unwritten t) (map (λ k. k.1) xs)
all_left s t h [] = refl
all_left s t h (x ∷ xs) = two (λ y ys. y ∷ ys) _ _ _ _ (x.2.left s t h) (all_left s t h xs)

-- the parts of a sum, with their signs
abbrev terms_at : Scope → List (Symbol × Forming) → List (Symbol × Formed)
terms_at s xs = map (λ (p : Symbol × Forming). (p.0, p.1.made s)) xs

terms_same : (s t : Scope) → SeeSame s t → (xs : List (Symbol × Part)) →
    terms_at s (map {B = Symbol × Forming} (λ (k : Symbol × Part). (k.0, k.1.0)) xs) ≡
    terms_at t (map {B = Symbol × Forming} (λ (k : Symbol × Part). (k.0, k.1.1)) xs)
terms_same s t h [] = refl
terms_same s t h (x ∷ xs) = two (λ (y : Formed) (ys : List (Symbol × Formed)). (x.0, y) ∷ ys) _ _ _ _
    (x.1.2.made s t h) (terms_same s t h xs)

terms_left : (s t : Scope) → SeeSame s t → (xs : List (Symbol × Part)) →
    map (λ (p : Symbol × Forming). p.1.unwritten s)
    (map {B = Symbol × Forming} (λ (k : Symbol × Part). (k.0, k.1.0)) xs) ≡
    map (λ (p : Symbol × Forming). p.1.unwritten t)
    (map {B = Symbol × Forming} (λ (k : Symbol × Part). (k.0, k.1.1)) xs)
terms_left s t h [] = refl
terms_left s t h (x ∷ xs) = two (λ y ys. y ∷ ys) _ _ _ _ (x.1.2.left s t h) (terms_left s t h xs)

-- the operands of a product, with their operators
factor_same : (s t : Scope) → SeeSame s t → (o : Operator) (x : Part) → factor_at s (o, x.0) ≡ factor_at t (o, x.1)
factor_same s t h o x = two (λ (n : ℕ) (y : Formed). ((o, n), y)) _ _ _ _ x.2.at (x.2.made s t h)

factors_same : (s t : Scope) → SeeSame s t → (xs : List (Operator × Part)) →
    map (factor_at s) (map {B = Operator × Forming} (λ (k : Operator × Part). (k.0, k.1.0)) xs) ≡
    map (factor_at t) (map {B = Operator × Forming} (λ (k : Operator × Part). (k.0, k.1.1)) xs)
factors_same s t h [] = refl
factors_same s t h (x ∷ xs) = two (λ y ys. y ∷ ys) _ _ _ _ (factor_same s t h x.0 x.1) (factors_same s t h xs)

operand_same : (s t : Scope) → SeeSame s t → (o : Operator) (x : Part) → operand_at s (o, x.0) ≡ operand_at t (o, x.1)
operand_same s t h o x =
    ap (λ n. operand_count o n (x.0.made s) (x.0.unwritten s)) x.2.at
    ∙ two (λ y m. operand_count o x.1.at y m) _ _ _ _ (x.2.made s t h) (x.2.left s t h)

operands_same : (s t : Scope) → SeeSame s t → (xs : List (Operator × Part)) →
    map (operand_at s) (map {B = Operator × Forming} (λ (k : Operator × Part). (k.0, k.1.0)) xs) ≡
    map (operand_at t) (map {B = Operator × Forming} (λ (k : Operator × Part). (k.0, k.1.1)) xs)
operands_same s t h [] = refl
operands_same s t h (x ∷ xs) = two (λ y ys. y ∷ ys) _ _ _ _ (operand_same s t h x.0 x.1) (operands_same s t h xs)

inside_same : (s t : Scope) (name : List ℕ) (z : ℤ) → SeeSame s t → SeeSame (with_number s name z)
    (with_number t name z)
inside_same s t name z h = record {
  variables = h.variables;
  words = h.words;
  always = h.always;
  bound = ap (λ bs. (name, Bound.Number z) ∷ bs) h.bound;
}

instances_same : (s t : Scope) (name : List ℕ) → SeeSame s t → (x : Part) (zs : List ℤ) →
    map (λ z. x.0.made (with_number s name z)) zs ≡ map (λ z. x.1.made (with_number t name z)) zs
instances_same s t name h x [] = refl
instances_same s t name h x (z ∷ zs) = two (λ y ys. y ∷ ys) _ _ _ _
    (x.2.made (with_number s name z) (with_number t name z) (inside_same s t name z h)) (instances_same s t name h x zs)

instances_left : (s t : Scope) (name : List ℕ) → SeeSame s t → (x : Part) (zs : List ℤ) →
    map (λ z. one_node_more (x.0.unwritten (with_number s name z))) zs ≡
    map (λ z. one_node_more (x.1.unwritten (with_number t name z))) zs
instances_left s t name h x [] = refl
instances_left s t name h x (z ∷ zs) = two (λ (y : Count) (ys : List Count). one_node_more y ∷ ys) _ _ _ _
    (x.2.left (with_number s name z) (with_number t name z) (inside_same s t name z h)) (instances_left s t name h x zs)

-- no name of a variable counts
variable_unnamed : (m : Option Variable) → variable_formed m ≡ variable_formed (option_map unnamed m)
variable_unnamed None = refl
variable_unnamed (Some v) = refl

element_unnamed : (m : Option Variable) (i : Formed) → element_of m i ≡ element_of (option_map unnamed m) i
element_unnamed None i = refl
element_unnamed (Some v) i = refl

target_unnamed : (m : Option Variable) (i : Option Formed) (c v : Formed) (left : Count) →
    target_effect m i c v left ≡ target_effect (option_map unnamed m) i c v left
target_unnamed None None c v left = refl
target_unnamed None (Some i) c v left = refl
target_unnamed (Some y) None c v left = refl
target_unnamed (Some y) (Some i) c v left = refl

word_same : (s t : Scope) → SeeSame s t → (name : List ℕ) → word_formed s name ≡ word_formed t name
word_same s t h name =
    let variable : variable_formed (variable_named name s.variables) ≡ variable_formed
    (variable_named name t.variables) =
    variable_unnamed (variable_named name s.variables) ∙ ap variable_formed (h.variables name)
    ∙ sym (variable_unnamed (variable_named name t.variables)) in
    ap (λ b. formed_or_zero (option_or (option_map bound_formed (lookup (bytes_eq name) b))
    (option_or (lookup (bytes_eq name) s.always)
    (option_or (variable_formed (variable_named name s.variables)) (option_map number_constant (lookup (bytes_eq name)
    s.words)))))) h.bound
    ∙ ap (λ a. formed_or_zero (option_or (option_map bound_formed (lookup (bytes_eq name) t.bound)) (option_or a
    (option_or (variable_formed (variable_named name s.variables)) (option_map number_constant (lookup (bytes_eq name)
    s.words)))))) (h.always name)
    ∙ ap (λ v. formed_or_zero (option_or (option_map bound_formed (lookup (bytes_eq name) t.bound))
    (option_or (lookup (bytes_eq name) t.always)
    (option_or v (option_map number_constant (lookup (bytes_eq name) s.words)))))) variable
    ∙ ap (λ w. formed_or_zero (option_or (option_map bound_formed (lookup (bytes_eq name) t.bound))
    (option_or (lookup (bytes_eq name) t.always)
    (option_or (variable_formed (variable_named name t.variables)) (option_map number_constant w))))) (h.words name)

element_same : (s t : Scope) → SeeSame s t → (name : List ℕ) (i j : Formed) → i ≡ j →
    element_of (variable_named name s.variables) i ≡ element_of (variable_named name t.variables) j
element_same s t h name i j e =
    ap (element_of (variable_named name s.variables)) e ∙ element_unnamed (variable_named name s.variables) j
    ∙ ap (λ m. element_of m j) (h.variables name) ∙ sym (element_unnamed (variable_named name t.variables) j)

abbrev first : Expr-F Part → Expr-F Forming
first y = map-Expr Part Forming (λ k. k.0) y

abbrev second : Expr-F Part → Expr-F Forming
second y = map-Expr Part Forming (λ k. k.1) y

made_same : (y : Expr-F Part) (s t : Scope) → SeeSame s t → made_layer (first y) s ≡ made_layer (second y) t
made_same (Expr-F.Implies at l r) s t h = two implication _ _ _ _ (l.2.made s t h) (r.2.made s t h)
made_same (Expr-F.And at x xs) s t h = two (λ a bs. fold conjunction (as_truth a) bs) _ _ _ _ (x.2.made s t h)
    (all_same s t h xs)
made_same (Expr-F.Or at x xs) s t h = two (λ a bs. fold disjunction (as_truth a) bs) _ _ _ _ (x.2.made s t h)
    (all_same s t h xs)
made_same (Expr-F.Not at x) s t h = ap denial (x.2.made s t h)
made_same (Expr-F.Compare at l r x) s t h = two (comparison r) _ _ _ _ (l.2.made s t h) (x.2.made s t h)
made_same (Expr-F.Sum at minus x xs) s t h = two (λ a bs. fold plus (signed minus a) bs) _ _ _ _ (x.2.made s t h)
    (terms_same s t h xs)
made_same (Expr-F.Product at x xs) s t h = two (λ a bs. fold factored a bs) _ _ _ _ (x.2.made s t h)
    (factors_same s t h xs)
made_same (Expr-F.Number at n) s t h = refl
made_same (Expr-F.True at) s t h = refl
made_same (Expr-F.False at) s t h = refl
made_same (Expr-F.Word at name None) s t h = word_same s t h name.text
made_same (Expr-F.Word at name (Some x)) s t h =
    element_same s t h name.text (as_number (x.0.made s)) (as_number (x.1.made t)) (ap as_number (x.2.made s t h))
made_same (Expr-F.Brackets at x) s t h = x.2.made s t h
made_same (Expr-F.Quantified at which name range of) s t h =
    two (λ (bs : List (List ℕ × Bound)) (xs : List Formed). quantified bs range (gathered which xs)) s.bound t.bound _
    _ h.bound
    (instances_same s t name.text h of (fit_values (numbers s.bound) range)
    ∙ ap (λ bs. map (λ z. of.1.made (with_number t name.text z)) (fit_values (numbers bs) range)) h.bound)

left_same : (y : Expr-F Part) (s t : Scope) → SeeSame s t → unwritten_layer (first y) s ≡ unwritten_layer (second y) t
left_same (Expr-F.Implies at l r) s t h = two both_counts _ _ _ _ (l.2.left s t h) (r.2.left s t h)
left_same (Expr-F.And at x xs) s t h = two (λ a bs. fold both_counts a bs) _ _ _ _ (x.2.left s t h) (all_left s t h xs)
left_same (Expr-F.Or at x xs) s t h = two (λ a bs. fold both_counts a bs) _ _ _ _ (x.2.left s t h) (all_left s t h xs)
left_same (Expr-F.Not at x) s t h = x.2.left s t h
left_same (Expr-F.Compare at l r x) s t h = two both_counts _ _ _ _ (l.2.left s t h) (x.2.left s t h)
left_same (Expr-F.Sum at minus x xs) s t h = two (λ a bs. fold both_counts a bs) _ _ _ _ (x.2.left s t h)
    (terms_left s t h xs)
left_same (Expr-F.Product at x xs) s t h = two (λ a bs. fold both_counts a bs) _ _ _ _ (x.2.left s t h)
    (operands_same s t h xs)
left_same (Expr-F.Number at n) s t h = refl
left_same (Expr-F.True at) s t h = refl
left_same (Expr-F.False at) s t h = refl
left_same (Expr-F.Word at name None) s t h = refl
left_same (Expr-F.Word at name (Some x)) s t h = x.2.left s t h
left_same (Expr-F.Brackets at x) s t h = x.2.left s t h
left_same (Expr-F.Quantified at which name range of) s t h =
    two (λ (bs : List (List ℕ × Bound)) (ns : List Count). quantified_count bs range (fold both_counts no_count ns))
    s.bound t.bound _ _ h.bound
    (instances_left s t name.text h of (fit_values (numbers s.bound) range)
    ∙ ap (λ bs. map (λ z. one_node_more (of.1.unwritten (with_number t name.text z))) (fit_values (numbers bs) range))
    h.bound)

place_same : (y : Expr-F Part) → place_layer (first y) ≡ place_layer (second y)
place_same (Expr-F.Implies at l r) = refl
place_same (Expr-F.And at x xs) = refl
place_same (Expr-F.Or at x xs) = refl
place_same (Expr-F.Not at x) = refl
place_same (Expr-F.Compare at l r x) = refl
place_same (Expr-F.Sum at minus x xs) = refl
place_same (Expr-F.Product at x xs) = refl
place_same (Expr-F.Number at n) = refl
place_same (Expr-F.True at) = refl
place_same (Expr-F.False at) = refl
place_same (Expr-F.Word at name None) = refl
place_same (Expr-F.Word at name (Some x)) = refl
place_same (Expr-F.Brackets at x) = refl
place_same (Expr-F.Quantified at which name range of) = refl

layer : ExpressionLayers Forms form_layer form_layer
layer y = record { at = place_same y; made = made_same y; left = left_same y }

forming_by_sight : (e : Expr) → Forms (forming e) (forming e)
forming_by_sight e = two_expressions Forms form_layer form_layer layer e

pub formed_by_sight : FormedBySight
formed_by_sight e = (forming_by_sight e).made

-- assignments

index_same : (s t : Scope) → SeeSame s t → (o : Option Expr) → index_formed s o ≡ index_formed t o
index_same s t h None = refl
index_same s t h (Some e) = ap (λ a. Some (as_number a)) (formed_by_sight e s t h)

condition_same : (s t : Scope) → SeeSame s t → (o : Option Expr) → condition s o ≡ condition t o
condition_same s t h None = refl
condition_same s t h (Some e) = ap as_truth (formed_by_sight e s t h)

target_same : (s t : Scope) → SeeSame s t → (d : Target) (e : Expr) (c : Formed) →
    target_effect (variable_named d.name.text s.variables) (index_formed s d.index) c (as_number (formed e s))
    (unwritten_count e s) ≡
    target_effect (variable_named d.name.text t.variables) (index_formed t d.index) c (as_number (formed e t))
    (unwritten_count e t)
target_same s t h d e c =
    let v = variable_named d.name.text s.variables in
    let w = variable_named d.name.text t.variables in
    let left = unwritten_count e t in
    ap (λ n. target_effect v (index_formed s d.index) c (as_number (formed e s)) n)
    ((forming_by_sight e).left s t h)
    ∙ two (λ i x. target_effect v i c x left) _ _ _ _ (index_same s t h d.index)
    (ap as_number (formed_by_sight e s t h))
    ∙ target_unnamed v (index_formed t d.index) c (as_number (formed e t)) left
    ∙ ap (λ m. target_effect m (index_formed t d.index) c (as_number (formed e t)) left) (h.variables d.name.text)
    ∙ sym (target_unnamed w (index_formed t d.index) c (as_number (formed e t)) left)

paired_same : (s t : Scope) → SeeSame s t → (ts : List Target) (es : List Expr) (c : Formed) → paired_effect s ts es c
    ≡ paired_effect t ts es c
paired_same s t h [] es c = refl
paired_same s t h (d ∷ ts) [] c = refl
paired_same s t h (d ∷ ts) (e ∷ es) c = two beside _ _ _ _ (target_same s t h d e c) (paired_same s t h ts es c)

alternative_same : (s t : Scope) → SeeSame s t → (ts : List Target) (a : Alternative) → alternative_effect s ts a ≡
    alternative_effect t ts a
alternative_same s t h ts a =
    ap (λ (c : Formed). one_more (exactly c.exact (paired_effect s ts (a.0.first ∷ a.0.rest) c)))
    (condition_same s t h
    a.1)
    ∙ ap (λ e. one_more (exactly (condition t a.1).exact e)) (paired_same s t h ts (a.0.first ∷ a.0.rest)
    (condition t a.1))

alternatives_same : (s t : Scope) → SeeSame s t → (ts : List Target) (bs : List Alternative) →
    map (alternative_effect s ts) bs ≡ map (alternative_effect t ts) bs
alternatives_same s t h ts [] = refl
alternatives_same s t h ts (b ∷ bs) = two (λ x xs. x ∷ xs) _ _ _ _ (alternative_same s t h ts b)
    (alternatives_same s t
    h ts bs)

abbrev Effects : Effecting → Effecting → Type 0
Effects f g = (s t : Scope) → SeeSame s t → f s ≡ g t

abbrev Component : Type 0
Component = Related Effects

effects_same : (s t : Scope) (name : List ℕ) → SeeSame s t → (x : Component) (zs : List ℤ) →
    map (λ z. x.0 (with_number s name z)) zs ≡ map (λ z. x.1 (with_number t name z)) zs
effects_same s t name h x [] = refl
effects_same s t name h x (z ∷ zs) = two (λ y ys. y ∷ ys) _ _ _ _
    (x.2 (with_number s name z) (with_number t name z) (inside_same s t name z h)) (effects_same s t name h x zs)

components_same : (s t : Scope) → SeeSame s t → (xs : List Component) → map (λ m. m s) (map (λ k. k.0) xs) ≡
    map (λ m. m t) (map (λ k. k.1) xs)
components_same s t h [] = refl
components_same s t h (x ∷ xs) = two (λ y ys. y ∷ ys) _ _ _ _ (x.2 s t h) (components_same s t h xs)

component_same : ComponentLayers Effects Effects component_layer component_layer
component_same (Component-F.Set at first rest alts) s t h =
    ap (λ es. one_more (all_beside nothing es)) (alternatives_same s t h (first ∷ rest) (alternatives alts.values
    alts.condition))
component_same (Component-F.Quantified at name range of) s t h =
    two (λ (bs : List (List ℕ × Bound)) (es : List Effect). quantified_effect bs range (all_beside nothing es))
    s.bound
    t.bound _ _ h.bound
    (effects_same s t name.text h of (fit_values (numbers s.bound) range)
    ∙ ap (λ bs. map (λ z. of.1 (with_number t name.text z)) (fit_values (numbers bs) range)) h.bound)

assign_same : AssignLayers Effects Effects assign_layer assign_layer
assign_same y s t h = two all_beside _ _ _ _ (y.first.2 s t h) (components_same s t h y.rest)

pub assigned_by_sight : AssignedBySight
assigned_by_sight a = (two_assignments Effects Effects component_layer assign_layer component_layer assign_layer
    component_same assign_same).1 a
