-- Items by their parts: what passes from the parts to the whole holds of all items; and what each is, one equation
-- for each kind.
use Rattle.std.proofs.Common.{◌≡◌, ℕ, List, [], ◌∷◌, ◌++◌, map, refl, sym, subst, ap, ◌∙◌, All}
use Rattle.std.proofs.lemmas.List.Elements.{All-nil, All-cons}
use Rattle.unity_syntax.specs.declared.name.Name.{Name}
use Rattle.unity_syntax.specs.declared.name.Range.{Range}
use Rattle.unity_syntax.specs.declared.statement.Assign.{Assign}
use Rattle.unity_syntax.specs.declared.statement.Item
use Rattle.unity_syntax.specs.declared.statement.Item.{Item, roll-Item, ind-Item, fold-roll-Item}
use Rattle.unity_syntax.specs.declared.statement.Item.TheOpen.{Item-F, Items-F}
use Rattle.unity_syntax.specs.declared.statement.Item.TheFolds.{map-Item, map-Items}
use Rattle.unity_syntax.specs.declared.statement.Item.TheVariants.{rolls-Statement, rolls-Quantified}
use Rattle.unity_syntax.specs.declared.statement.Items.{Items, roll-Items, ind-Items, fold-roll-Items}
use Rattle.meaning_documents.specs.Names.{Bindings}
use Rattle.names_rules.specs.declared.named.Meaning.{Meaning}
use Rattle.names_rules.specs.Scope.{Scope, with_bound}
use Rattle.names_rules.specs.Reading.{earlier, beside, binding, filled}
use Rattle.names_rules.specs.Part.{before, quiet, run}
use Rattle.names_rules.specs.Statements.{Listed, Labels, assign_reading, item_part, items_part, label_part}
use Rattle.names_rules.specs.Statements.{item_layer, items_layer}
use Rattle.expand_rules.specs.Forming.{Scope as CoreScope}
use Rattle.expand_rules.specs.Assigning.{effect_of, among}
use Rattle.expand_rules.specs.Lists.{Failing, fault_layer, faults_layer, item_fault, items_fault, first_fault}
use Rattle.expand_rules.specs.Lists.{statement_fault, range_fault, inside}

-- induction

module _ (P : Item → Type 0) (Q : Items → Type 0)
    (statement : (at : ℕ) (label : Name) (assign : Assign) → P (Item.Statement at label assign))
    (quantified : (at : ℕ) (name : Name) (range : Range) (of : Items) → Q of → P (Item.Quantified at name range of))
    (list : (x : Items) → P x.first → All P x.rest → Q x) where
  abbrev One : Type 0
  One = (x : Item) × P x

  abbrev Several : Type 0
  Several = (x : Items) × Q x

  abbrev bare : Item-F One Several → Item-F Item Items
  bare y = map-Item One Several Item Items (λ p. p.0) (λ p. p.0) y

  abbrev bare' : Items-F One Several → Items-F Item Items
  bare' y = map-Items One Several Item Items (λ p. p.0) (λ p. p.0) y

  all_bare : (ps : List One) → All P (map (λ p. p.0) ps)
  all_bare [] = All-nil P
  all_bare (p ∷ ps) = All-cons P p.0 (map (λ q. q.0) ps) p.1 (all_bare ps)

  layer : (y : Item-F One Several) → P (roll-Item (bare y))
  layer (Item-F.Statement at label assign) = subst P (sym (rolls-Statement at label assign)) (statement at label assign)
  layer (Item-F.Quantified at name range of) =
      subst P (sym (rolls-Quantified at name range of.0)) (quantified at name range of.0 of.1)

  layer' : (y : Items-F One Several) → Q (roll-Items (bare' y))
  layer' y = list (roll-Items (bare' y)) y.first.1 (all_bare y.rest)

  abbrev inner : (x : Item-F Item Items) (y : Item-F One Several) → bare y ≡ x → P (roll-Item x)
  inner x y same = subst (λ z. P (roll-Item z)) same (layer y)

  abbrev outer : (x : Items-F Item Items) (y : Items-F One Several) → bare' y ≡ x → Q (roll-Items x)
  outer x y same = subst (λ z. Q (roll-Items z)) same (layer' y)

  pub of_item : (x : Item) → P x
  of_item x = ind-Item P Q inner outer x

  pub of_items : (x : Items) → Q x
  of_items x = ind-Items P Q inner outer x

-- labels

pub part-Statement : (at : ℕ) (label : Name) (assign : Assign) (s : Scope) (labels : Labels) →
    item_part (Item.Statement at label assign) s labels ≡
    before (label_part labels label) (λ more. quiet more (assign_reading assign s))
part-Statement at label assign s labels =
    ap (λ x. item_part x s labels) (sym (rolls-Statement at label assign)) ∙
    ap (λ m. m s labels) (fold-roll-Item Listed Listed item_layer items_layer (Item-F.Statement at label assign))

pub part-Quantified : (at : ℕ) (name : Name) (range : Range) (of : Items) (s : Scope) (labels : Labels) →
    item_part (Item.Quantified at name range of) s labels ≡
    before (quiet labels (beside (binding s name (Meaning.Bound name.at)) (filled s.bounds range)))
    (λ more. items_part of (with_bound s name.text (Meaning.Bound name.at)) more)
part-Quantified at name range of s labels =
    ap (λ x. item_part x s labels) (sym (rolls-Quantified at name range of)) ∙
    ap (λ m. m s labels) (fold-roll-Item Listed Listed item_layer items_layer (Item-F.Quantified at name range of))

run-mapped : (s : Scope) (labels : Labels) (xs : List Item) →
    run (λ others (m : Listed). m s others) labels (map item_part xs) ≡
    run (λ others i. item_part i s others) labels xs
run-mapped s labels [] = refl
run-mapped s labels (x ∷ xs) = let p = item_part x s labels in
    ap (λ r. record {
      fault = earlier p.fault r.fault;
      words = p.words ++ r.words;
      after = r.after;
    }) (run-mapped s p.after xs)

pub part-Items : (x : Items) (s : Scope) (labels : Labels) →
    items_part x s labels ≡
    before (item_part x.first s labels) (λ more. run (λ others i. item_part i s others) more x.rest)
part-Items x s labels = let p = item_part x.first s labels in
    ap (λ m. m s labels) (fold-roll-Items Listed Listed item_layer items_layer (record {
      at = x.at;
      first = x.first;
      rest = x.rest;
    })) ∙ ap (λ r. record {
      fault = earlier p.fault r.fault;
      words = p.words ++ r.words;
      after = r.after;
    }) (run-mapped s p.after x.rest)

-- faults

pub fault-Statement : (s : CoreScope) (at : ℕ) (label : Name) (assign : Assign) (bs : List Bindings) →
    item_fault s (Item.Statement at label assign) bs ≡
    statement_fault label (map (λ b. effect_of assign (among s b)) bs)
fault-Statement s at label assign bs =
    ap (λ x. item_fault s x bs) (sym (rolls-Statement at label assign)) ∙
    ap (λ m. m bs) (fold-roll-Item Failing Failing (fault_layer s) faults_layer (Item-F.Statement at label assign))

pub fault-Quantified : (s : CoreScope) (at : ℕ) (name : Name) (range : Range) (of : Items) (bs : List Bindings) →
    item_fault s (Item.Quantified at name range of) bs ≡
    earlier (range_fault range bs) (items_fault s of (inside name.text range bs))
fault-Quantified s at name range of bs =
    ap (λ x. item_fault s x bs) (sym (rolls-Quantified at name range of)) ∙
    ap (λ m. m bs)
    (fold-roll-Item Failing Failing (fault_layer s) faults_layer (Item-F.Quantified at name range of))

each_fault : (s : CoreScope) (xs : List Item) (bs : List Bindings) →
    first_fault (map (λ (m : Failing). m bs) (map (item_fault s) xs)) ≡ first_fault (map (λ i. item_fault s i bs) xs)
each_fault s [] bs = refl
each_fault s (x ∷ xs) bs = ap (earlier (item_fault s x bs)) (each_fault s xs bs)

pub fault-Items : (s : CoreScope) (x : Items) (bs : List Bindings) →
    items_fault s x bs ≡ earlier (item_fault s x.first bs) (first_fault (map (λ i. item_fault s i bs) x.rest))
fault-Items s x bs = ap (λ m. m bs) (fold-roll-Items Failing Failing (fault_layer s) faults_layer (record {
  at = x.at;
  first = x.first;
  rest = x.rest;
})) ∙ ap (earlier (item_fault s x.first bs)) (each_fault s x.rest bs)
