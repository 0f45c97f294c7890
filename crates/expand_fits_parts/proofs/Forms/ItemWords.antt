-- What the instances of a program's statements name, by their items.
use Rattle.std.proofs.Common.{◌≡◌, ℕ, zero, suc, List, [], ◌∷◌, ◌++◌, map, Bool, Some, None, slice_get, subst}
use Rattle.std.specs.List.{flat_map}
use Rattle.unity_syntax.specs.declared.statement.Items.{Items}
use Rattle.unity_syntax.specs.declared.statement.Item.TheOpen.{Item-F}
use Rattle.unity_syntax.specs.TwoFolds.{Related, ItemLayers, ItemsLayers}
use Rattle.unity_syntax.proofs.ItemFolds.{two_items}
use Rattle.meaning_documents.specs.Names.{Bindings}
use Rattle.meaning_documents.specs.Value.{range_values}
use Rattle.meaning_documents.specs.Instances.{Instance, Unfolding, unfolded}
use Rattle.meaning_documents.specs.Instances.{item_layer as unfold_item, items_layer as unfold_items}
use Rattle.names_rules.specs.declared.named.Meaning.{Meaning}
use Rattle.names_rules.specs.Scope.{Scope as NameScope, with_bound}
use Rattle.names_rules.specs.Reading.{beside, binding, filled}
use Rattle.names_rules.specs.Part.{run}
use Rattle.names_rules.specs.Statements.{Labels, Listed, label_part, assign_reading, item_layer, items_layer}
use Rattle.names_rules.specs.Statements.{items_part}
use Rattle.names_rules.proofs.Faults.{earlier_first, earlier_second}
use Rattle.expand_rules.specs.Forming.{Scope}
use Rattle.expand_rules.specs.Assigning.{among, stated}
use Rattle.expand_fits_parts.specs.Forms.Naming.{WordTest, or_word, SeesOnly, EffectNames}
use Rattle.expand_fits_parts.specs.Forms.Visible.{FoundPass}
use Rattle.expand_fits_parts.proofs.Forms.NamedForms.{inside_sees}
use Rattle.expand_fits_parts.proofs.Forms.NamedEffects.{assignments_name}
use Rattle.expand_fits_parts.proofs.Forms.ReadWords.{inside_found, assignments_read}

-- what holds of each item of a list
abbrev pub Everywhere : {X : Type 0} → (X → Type 0) → List X → Type 0
Everywhere P xs = (place : ℕ) (x : _) → slice_get xs place ≡ Some x → P x

same_some : {X : Type 0} {x y : X} → Some x ≡ Some y → x ≡ y
same_some e = cc e

everywhere_joined : {X : Type 0} (P : X → Type 0) (xs ys : List X) → Everywhere P xs → Everywhere P ys →
    Everywhere P (xs ++ ys)
everywhere_joined P [] ys h k place x e = k place x e
everywhere_joined P (y ∷ xs) ys h k zero x e = h zero x e
everywhere_joined P (y ∷ xs) ys h k (suc place) x e =
    everywhere_joined P xs ys (λ m z. h (suc m) z) k place x e

everywhere_flat : {X Y : Type 0} (P : Y → Type 0) (f : X → List Y) → ((x : X) → Everywhere P (f x)) →
    (xs : List X) → Everywhere P (flat_map f xs)
everywhere_flat P f h [] = λ place x e. cc e
everywhere_flat P f h (y ∷ xs) = everywhere_joined P (f y) (flat_map f xs) (h y) (everywhere_flat P f h xs)

everywhere_one : {X : Type 0} (P : X → Type 0) (y : X) → P y → Everywhere P (y ∷ [])
everywhere_one P y h zero x e = subst P (same_some e) h
everywhere_one P y h (suc place) x e = cc e

module _ (slots params : ℕ → Bool) (s : Scope) where
  -- an instance names only what passes
  abbrev pub InstanceNames : Instance → Type 0
  InstanceNames i = EffectNames slots params (stated s i).effect

  abbrev Naming : Listed → Unfolding → Type 0
  Naming f g = (n : NameScope) (b : Bindings) (labels : Labels) (alone whole : WordTest) → FoundPass n alone whole →
      SeesOnly slots params alone whole (among s b) → (f n labels).fault ≡ None → Everywhere InstanceNames (g b)

  abbrev Part : Type 0
  Part = Related Naming

  item_names : ItemLayers Naming Naming item_layer unfold_item
  item_names (Item-F.Statement at label assign) n b labels a w f g fault =
      everywhere_one InstanceNames (record { label = label.text; bindings = b; assign = assign })
      (assignments_name slots params a w assign (among s b) (assignments_read assign n a w f
      (earlier_second (label_part labels label).fault (assign_reading assign n).fault fault)) g)
  item_names (Item-F.Quantified at name range of) n b labels a w f g fault =
      let inner = with_bound n name.text (Meaning.Bound name.at) in
      let own = beside (binding n name (Meaning.Bound name.at)) (filled n.bounds range) in
      everywhere_flat InstanceNames (λ z. of.1 ((name.text, z) ∷ b))
      (λ z. of.2 inner ((name.text, z) ∷ b) labels (or_word a name.text) w (inside_found n a w name.text name.at f)
      (inside_sees slots params a w (among s b) name.text z g)
      (earlier_second own.fault (of.0 inner labels).fault fault)) (range_values b range)

  rest_names : (n : NameScope) (b : Bindings) (labels : Labels) (a w : WordTest) → FoundPass n a w →
      SeesOnly slots params a w (among s b) → (ks : List Part) →
      (run (λ others (m : Listed). m n others) labels (map (λ k. k.0) ks)).fault ≡ None →
      Everywhere InstanceNames (flat_map (λ item. item b) (map (λ k. k.1) ks))
  rest_names n b labels a w f g [] fault = λ place x e. cc e
  rest_names n b labels a w f g (k ∷ ks) fault =
      let p = k.0 n labels in
      let q = run (λ others (m : Listed). m n others) p.after (map (λ j. j.0) ks) in
      everywhere_joined InstanceNames (k.1 b) (flat_map (λ item. item b) (map (λ j. j.1) ks))
      (k.2 n b labels a w f g (earlier_first p.fault q.fault fault))
      (rest_names n b p.after a w f g ks (earlier_second p.fault q.fault fault))

  list_names : ItemsLayers Naming Naming items_layer unfold_items
  list_names y n b labels a w f g fault =
      let p = y.first.0 n labels in
      let q = run (λ others (m : Listed). m n others) p.after (map (λ k. k.0) y.rest) in
      everywhere_joined InstanceNames (y.first.1 b) (flat_map (λ item. item b) (map (λ k. k.1) y.rest))
      (y.first.2 n b labels a w f g (earlier_first p.fault q.fault fault))
      (rest_names n b p.after a w f g y.rest (earlier_second p.fault q.fault fault))

  pub items_names : (items : Items) → Naming (items_part items) (unfolded items)
  items_names items = (two_items Naming Naming item_layer items_layer unfold_item unfold_items item_names
      list_names).1 items
