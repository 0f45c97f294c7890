-- The statements of a well-named program whose lists have no fault: there are some, as many as are counted, and no two
-- have one name.
use Rattle.std.specs.Prelude.{◌≡◌, ◌≤◌, length, [], ◌∷◌, true, None, All}
use Rattle.std.specs.List.{list_any}
use Rattle.std.specs.Str.{bytes_eq}
use Rattle.unity_syntax.specs.declared.statement.Items.{Items}
use Rattle.meaning_documents.specs.Instances.{Instance, outermost_first, instances}
use Rattle.core_terms.specs.Conditions.{EachPair}
use Rattle.names_rules.specs.Scope.{Scope as NameScope}
use Rattle.names_rules.specs.Statements.{Labels, items_part}
use Rattle.expand_rules.specs.Forming.{Scope}
use Rattle.expand_rules.specs.Lists.{items_fault, statement_count}
use Rattle.expand_declarations.specs.Texts.{items_texts}

-- lists without a fault have an instance, and as many as are counted
abbrev pub InstancesCounted : Type 0
InstancesCounted = (s : Scope) (items : Items) → items_fault s items ([] ∷ []) ≡ None →
    (1 ≤ length (instances items)) × (length (instances items) ≡ statement_count items)

-- two instances differ in label or numbers, and those of one label have equally many numbers
pub record ApartInstances (i j : Instance) : Type 0 where
  pub differ : i.label ≡ j.label → outermost_first i.bindings ≡ outermost_first j.bindings → ⊥
  pub alike : i.label ≡ j.label → length (outermost_first i.bindings) ≡ length (outermost_first j.bindings)

-- any two instances of well-named items are so,
abbrev pub InstancesApart : Type 0
InstancesApart = (s : NameScope) (labels : Labels) (items : Items) → (items_part items s labels).fault ≡ None →
    EachPair ApartInstances (instances items)

-- and have labels of the items
abbrev pub InstancesLabelled : Type 0
InstancesLabelled = (s : NameScope) (labels : Labels) (items : Items) → (items_part items s labels).fault ≡ None →
    All (λ i. list_any (bytes_eq i.label) (items_texts items) ≡ true) (instances items)
