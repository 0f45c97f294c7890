-- The label of each instance of a program is one of the words of its text.
use Rattle.std.proofs.Common.{◌≡◌, List, [], ◌∷◌, ◌++◌, map, true, false, refl}
use Rattle.std.specs.List.{flat_map}
use Rattle.std.specs.Str.{bytes_eq}
use Rattle.std.proofs.lemmas.Slice.Eq.{bytes_eq-Decides}
use Rattle.unity_syntax.specs.declared.statement.Item.TheOpen.{Item-F}
use Rattle.unity_syntax.specs.declared.statement.Items.{Items}
use Rattle.unity_syntax.specs.TwoFolds.{Related, ItemLayers, ItemsLayers}
use Rattle.unity_syntax.proofs.ItemFolds.{two_items}
use Rattle.meaning_documents.specs.Names.{Bindings}
use Rattle.meaning_documents.specs.Value.{range_values}
use Rattle.meaning_documents.specs.Instances.{Instance, Unfolding, instances}
use Rattle.meaning_documents.specs.Instances.{item_layer as unfold_item, items_layer as unfold_items}
use Rattle.expand_declarations.specs.Texts.{Texts, items_texts}
use Rattle.expand_declarations.specs.Texts.{item_layer as text_item, items_layer as text_items}
use Rattle.expand_correct.specs.Declared.WordLaws.{is_among}
use Rattle.expand_correct.proofs.Declared.Found.{or_left}
use Rattle.expand_correct.proofs.Declared.Lists.{part_left, part_right}
use Rattle.expand_correct.specs.Exact.Parts.{EachItem}
use Rattle.expand_correct.proofs.Exact.Statements.{everywhere_joined, everywhere_flat, everywhere_one}
use Rattle.run_correct.proofs.Lists.{weaker}

-- the label is among these texts
abbrev pub HasLabel : Texts → Instance → Type 0
HasLabel texts i = is_among texts i.label ≡ true

-- so is that of each instance, whatever names are bound around them
abbrev Labelled : Unfolding → Texts → Type 0
Labelled listed texts = (b : Bindings) → EachItem (HasLabel texts) (listed b)

item_labelled : ItemLayers Labelled Labelled unfold_item text_item
item_labelled (Item-F.Statement at label assign) b =
    everywhere_one (HasLabel (label.text ∷ [])) (record { label = label.text; bindings = b; assign = assign })
    (or_left (bytes_eq label.text label.text) false ((bytes_eq-Decides label.text label.text).1 refl))
item_labelled (Item-F.Quantified at name range of) b =
    everywhere_flat (HasLabel of.1) (λ z. of.0 ((name.text, z) ∷ b)) (λ z. of.2 ((name.text, z) ∷ b))
    (range_values b range)

both_labelled : (texts others : Texts) (is js : List Instance) → EachItem (HasLabel texts) is →
    EachItem (HasLabel others) js → EachItem (HasLabel (texts ++ others)) (is ++ js)
both_labelled texts others is js h k =
    everywhere_joined (HasLabel (texts ++ others)) is js
    (weaker (HasLabel texts) (HasLabel (texts ++ others)) (λ i t. (part_left texts others).among i.label t) is h)
    (weaker (HasLabel others) (HasLabel (texts ++ others)) (λ i t. (part_right texts others).among i.label t) js k)

rest_labelled : (b : Bindings) (ks : List (Related Labelled)) →
    EachItem (HasLabel (flat_map (λ (texts : Texts). texts) (map (λ k. k.1) ks)))
    (flat_map (λ (item : Unfolding). item b) (map (λ k. k.0) ks))
rest_labelled b [] = λ place x e. cc e
rest_labelled b (k ∷ ks) =
    both_labelled k.1 (flat_map (λ (texts : Texts). texts) (map (λ j. j.1) ks)) (k.0 b)
    (flat_map (λ (item : Unfolding). item b) (map (λ j. j.0) ks)) (k.2 b) (rest_labelled b ks)

items_labelled : ItemsLayers Labelled Labelled unfold_items text_items
items_labelled y b =
    both_labelled y.first.1 (flat_map (λ (texts : Texts). texts) (map (λ k. k.1) y.rest)) (y.first.0 b)
    (flat_map (λ (item : Unfolding). item b) (map (λ k. k.0) y.rest)) (y.first.2 b) (rest_labelled b y.rest)

pub each_labelled : (items : Items) → EachItem (HasLabel (items_texts items)) (instances items)
each_labelled items = (two_items Labelled Labelled unfold_item unfold_items text_item text_items item_labelled
    items_labelled).1 items []
