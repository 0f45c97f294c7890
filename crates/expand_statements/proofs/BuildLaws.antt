-- The statements of each kind of item and of items, and lists of them, one item after another.
use Rattle.std.proofs.Common.{◌≡◌, ℕ, suc, ◌+◌, ◌-◌, ◌<◌, ℤ, pos, ◌+ℤ◌, List, [], ◌∷◌, ◌++◌, map}
use Rattle.std.proofs.Common.{Result, Ok, Err, OnOk, append_assoc, refl, sym, ap, ◌∙◌}
use Rattle.std.proofs.Common.{arith}
use Rattle.std.proofs.lemmas.Int.{ints}
use Rattle.std.proofs.lemmas.List.{map-append}
use Rattle.std.specs.List.{flat_map}
use Rattle.unity_syntax.specs.declared.name.Name.{Name}
use Rattle.unity_syntax.specs.declared.name.Range.{Range}
use Rattle.unity_syntax.specs.declared.statement.Item
use Rattle.unity_syntax.specs.declared.statement.Item.{Item, fold-roll-Item}
use Rattle.unity_syntax.specs.declared.statement.Item.TheOpen.{Item-F}
use Rattle.unity_syntax.specs.declared.statement.Item.TheVariants.{rolls-Quantified}
use Rattle.unity_syntax.specs.declared.statement.Items.{Items, fold-roll-Items}
use Rattle.meaning_documents.specs.Names.{Bindings}
use Rattle.meaning_executions.specs.Counting.{count_up}
use Rattle.meaning_documents.specs.Instances.{Unfolding, items_layer}
use Rattle.expand_rules.specs.Forming.{fit_values}
use Rattle.expand_statements.specs.Building.{fit_layer, fit_item, fit_items}

pub fit-Quantified : (at : ℕ) (name : Name) (range : Range) (of : Items) (b : Bindings) →
    fit_item (Item.Quantified at name range of) b ≡ flat_map (λ z. fit_items of ((name.text, z) ∷ b))
    (fit_values b range)
fit-Quantified at name range of b =
    ap (λ x. fit_item x b) (sym (rolls-Quantified at name range of)) ∙ ap (λ m. m b)
    (fold-roll-Item Unfolding Unfolding fit_layer items_layer (Item-F.Quantified at name range of))

each_fit : (xs : List Item) (b : Bindings) →
    flat_map (λ (m : Unfolding). m b) (map fit_item xs) ≡ flat_map (λ i. fit_item i b) xs
each_fit [] b = refl
each_fit (x ∷ xs) b = ap (λ ys. fit_item x b ++ ys) (each_fit xs b)

pub fit-parts : (x : Items) (b : Bindings) → fit_items x b ≡ fit_item x.first b ++ flat_map (λ i. fit_item i b) x.rest
fit-parts x b = ap (λ m. m b) (fold-roll-Items Unfolding Unfolding fit_layer items_layer (record {
  at = x.at;
  first = x.first;
  rest = x.rest;
})) ∙ ap (λ ys. fit_item x.first b ++ ys) (each_fit x.rest b)

-- what is made of a list, and of what is left of it

pub made_both : {A B : Type 0} (made : A → B) (old mid new : List B) (xs ys : List A) → mid ≡ old ++ map made xs →
    new ≡ mid ++ map made ys → new ≡ old ++ map made (xs ++ ys)
made_both made old mid new xs ys m n =
    n ∙ ap (λ ws. ws ++ map made ys) m ∙ append_assoc old (map made xs) (map made ys)
    ∙ ap (λ ws. old ++ ws) (sym (map-append made xs ys))

pub made_number : {A B : Type 0} (made : A → B) (f : ℤ → List A) (first : ℤ) (i n : ℕ) (now new whole : List B) → i <
    n →
    now ++ map made (flat_map f (count_up (first +ℤ pos i) (n - i))) ≡ whole → new ≡ now ++ map made
    (f (first +ℤ pos i)) →
    new ++ map made (flat_map f (count_up (first +ℤ pos (i + 1)) (n - (i + 1)))) ≡ whole
made_number made f first i n now new whole h w e =
    let m : n - i ≡ suc (n - (i + 1)) = omega arith in
    let z : (first +ℤ pos i) +ℤ pos 1 ≡ first +ℤ pos (i + 1) = omega (arith, ints) in
    let rest = flat_map f (count_up (first +ℤ pos (i + 1)) (n - (i + 1))) in
    made_both made now new (new ++ map made rest) (f (first +ℤ pos i)) rest e refl
    ∙ ap (λ y. now ++ map made (f (first +ℤ pos i) ++ flat_map f (count_up y (n - (i + 1))))) (sym z)
    ∙ ap (λ k. now ++ map made (flat_map f (count_up (first +ℤ pos i) k))) (sym m) ∙ w

-- a call that gives a list gives an equal one
pub gives_same : {E B : Type 0} (r : Result (Unit {0}) E) (new old : List B) (xs ys : List B) → xs ≡ ys →
    OnOk r (new ≡ old ++ xs) → OnOk r (new ≡ old ++ ys)
gives_same (Ok t) new old xs ys e h = h ∙ ap (λ zs. old ++ zs) e
gives_same (Err x) new old xs ys e h = h

pub gives_both : {E A B : Type 0} (r : Result (Unit {0}) E) (made : A → B) (old mid new : List B) (xs ys zs : List A)
    →
    mid ≡ old ++ map made xs → xs ++ ys ≡ zs → OnOk r (new ≡ mid ++ map made ys) → OnOk r (new ≡ old ++ map made zs)
gives_both (Ok t) made old mid new xs ys zs m e h =
    made_both made old mid new xs ys m h ∙ ap (λ ws. old ++ map made ws) e
gives_both (Err x) made old mid new xs ys zs m e h = h
