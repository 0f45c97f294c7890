-- Statements without a fault: no instance is left out, and none is too large.
use Rattle.std.proofs.Common.{◌≡◌, ℕ, zero, suc, ℤ, List, [], ◌∷◌, ◌++◌, map, Bool, true, false, cond, not, ◌&&◌, ◌||◌}
use Rattle.std.proofs.Common.{Option, Some, None, refl, sym, ap, ◌∙◌, subst}
use Rattle.std.specs.Prelude.{slice_get}
use Rattle.std.specs.List.{flat_map, list_any}
use Rattle.case_tables.specs.declared.code_table.Code.{Code}
use Rattle.unity_syntax.specs.declared.name.Name.{Name}
use Rattle.unity_syntax.specs.declared.name.Range.{Range}
use Rattle.unity_syntax.specs.declared.statement.Assign.{Assign}
use Rattle.unity_syntax.specs.declared.statement.Item.{Item, roll-Item, fold-roll-Item}
use Rattle.unity_syntax.specs.declared.statement.Item.TheOpen.{Item-F, Items-F}
use Rattle.unity_syntax.specs.declared.statement.Item.TheFolds.{map-Item, map-Items}
use Rattle.unity_syntax.specs.declared.statement.Items.{Items, roll-Items, ind-Items, fold-roll-Items}
use Rattle.meaning_documents.specs.Names.{Bindings}
use Rattle.meaning_documents.specs.Value.{end_value, range_values}
use Rattle.meaning_documents.specs.Instances.{Instance, Unfolding, item_layer, items_layer, item_instances, unfolded}
use Rattle.meaning_documents.specs.Instances.{instances}
use Rattle.names_rules.specs.Reading.{Fault, earlier}
use Rattle.expand_rules.specs.declared.effects.Effect.{Effect}
use Rattle.expand_rules.specs.Measures.{nearer, no_flaws, is_fit, place_of}
use Rattle.expand_rules.specs.Forming.{Scope, fit_values}
use Rattle.expand_rules.specs.Assigning.{among, effect_of, is_large_effect, stated}
use Rattle.expand_rules.specs.Lists.{Failing, fault_layer, faults_layer, item_fault, items_fault, inside}
use Rattle.expand_rules.specs.Lists.{fault_at, place_where, empty_place, large_place, range_place, range_fault}
use Rattle.expand_rules.specs.Lists.{flaws_fault, all_flaws, first_fault, statement_fault}
use Rattle.expand_rules.proofs.FlawLaws.{nearer_first, nearer_second, flaws_first, flaws_second, flawless}
use Rattle.expand_statements.specs.Building.{instance_of, fit_layer, fit_item, fit_items}
use Rattle.expand_statements.specs.ItemLaws.{FitIsAll, FaultlessInstances}

-- a fact of each item of a list
abbrev Each : {X : Type 0} → (X → Type 0) → List X → Type 0
Each P [] = Unit {0}
Each P (x ∷ xs) = P x × Each P xs

each_front : {X : Type 0} (P : X → Type 0) (xs ys : List X) → Each P (xs ++ ys) → Each P xs
each_front P [] ys h = tt
each_front P (x ∷ xs) ys h = (h.0, each_front P xs ys h.1)

each_back : {X : Type 0} (P : X → Type 0) (xs ys : List X) → Each P (xs ++ ys) → Each P ys
each_back P [] ys h = h
each_back P (x ∷ xs) ys h = each_back P xs ys h.1

each_joined : {X : Type 0} (P : X → Type 0) (xs ys : List X) → Each P xs → Each P ys → Each P (xs ++ ys)
each_joined P [] ys h k = k
each_joined P (x ∷ xs) ys h k = (h.0, each_joined P xs ys h.1 k)

each_at : {X : Type 0} (P : X → Type 0) (xs : List X) (place : ℕ) (x : X) → Each P xs → slice_get xs place ≡ Some x →
    P x
each_at P [] place x h e = absurd (none e)
  where
    none : None ≡ Some x → ⊥
    none g = cc
each_at P (y ∷ ys) zero x h e = let same : y ≡ x = some e in subst P same h.0
  where
    some : Some y ≡ Some x → y ≡ x
    some g = cc
each_at P (y ∷ ys) (suc place) x h e = each_at P ys place x h.1 e

-- what is known where there is no fault

first_none : (f g : Option Fault) → earlier f g ≡ None → f ≡ None
first_none None g h = refl
first_none (Some x) g h = h

second_none : (f g : Option Fault) → earlier f g ≡ None → g ≡ None
second_none None g h = h
second_none (Some x) g h = let e : Some x ≡ None = h in cc

no_place : (code : Code) (place : Option ℕ) → fault_at code place ≡ None → place ≡ None
no_place code None h = refl
no_place code (Some at) h = cc

nowhere : (b : Bool) (at : ℕ) → place_where b at ≡ None → b ≡ false
nowhere false at h = refl
nowhere true at h = let e : Some at ≡ None = h in cc

or_first : (a b : Bool) → (a || b) ≡ false → a ≡ false
or_first false b h = refl
or_first true b h = h

or_second : (a b : Bool) → (a || b) ≡ false → b ≡ false
or_second false b h = h
or_second true b h = let e : true ≡ false = h in cc

but : (b : Bool) → not b ≡ false → b ≡ true
but true h = refl
but false h = sym h

chosen_false : (b : Bool) (f : Fault) (g : Option Fault) → cond b (Some f) g ≡ None → b ≡ false
chosen_false false f g h = refl
chosen_false true f g h = let e : Some f ≡ None = h in cc

chosen_none : (b : Bool) (f : Fault) (g : Option Fault) → cond b (Some f) g ≡ None → g ≡ None
chosen_none false f g h = h
chosen_none true f g h = let e : Some f ≡ None = h in cc

-- ranges

abbrev IsWhole : Range → Bindings → Type 0
IsWhole r b = fit_values b r ≡ range_values b r

is_whole : (r : Range) (b : Bindings) → is_fit (end_value b r.low) ≡ true → is_fit (end_value b r.high) ≡ true →
    IsWhole r b
is_whole r b l h =
    ap (λ x. cond (x && is_fit (end_value b r.high)) (range_values b r) []) l
    ∙ ap (λ x. cond x (range_values b r) []) h

all_whole : (r : Range) (bs : List Bindings) → list_any (λ b. not (is_fit (end_value b r.low))) bs ≡ false →
    list_any (λ b. not (is_fit (end_value b r.high))) bs ≡ false → Each (IsWhole r) bs
all_whole r [] l h = tt
all_whole r (b ∷ bs) l h =
    let any_low = list_any (λ c. not (is_fit (end_value c r.low))) bs in
    let any_high = list_any (λ c. not (is_fit (end_value c r.high))) bs in
    let low = is_fit (end_value b r.low) in
    let high = is_fit (end_value b r.high) in (
      is_whole r b (but low (or_first (not low) any_low l)) (but high (or_first (not high) any_high h)),
      all_whole r bs (or_second (not low) any_low l) (or_second (not high) any_high h),
    )

ranges_whole : (r : Range) (bs : List Bindings) → range_fault r bs ≡ None → Each (IsWhole r) bs
ranges_whole r bs h =
    let low = large_place r.low bs in
    let high = large_place r.high bs in
    let ends : nearer low high ≡ None =
    nearer_second (empty_place r bs) (nearer low high) (no_place Code.BadRange (range_place r bs) h) in
    all_whole r bs
    (nowhere (list_any (λ b. not (is_fit (end_value b r.low))) bs) (place_of r.low) (nearer_first low high ends))
    (nowhere (list_any (λ b. not (is_fit (end_value b r.high))) bs) (place_of r.high) (nearer_second low high ends))

-- effects

abbrev IsGood : Effect → Type 0
IsGood e = (is_large_effect e ≡ false) × (e.count.flaws ≡ no_flaws)

all_good : (es : List Effect) → list_any is_large_effect es ≡ false → all_flaws es ≡ no_flaws → Each IsGood es
all_good [] l p = tt
all_good (e ∷ es) l p =
    let large = list_any is_large_effect es in
    let rest = all_flaws es in (
      (or_first (is_large_effect e) large l, flaws_first e.count.flaws rest p),
      all_good es (or_second (is_large_effect e) large l) (flaws_second e.count.flaws rest p),
    )

effects_good : (label : Name) (es : List Effect) → statement_fault label es ≡ None → Each IsGood es
effects_good label es h =
    let large = list_any is_large_effect es in
    let fault : Fault = record { code = Code.TooLarge; at = label.at } in
    let place = flaws_fault (all_flaws es) in
    all_good es (chosen_false large fault place h)
    (flawless (all_flaws es) (chosen_none large fault place h))

-- instances

module _ (s : Scope) where
  record Faultless (fits whole : List Instance) : Type 0 where
    same : fits ≡ whole
    good : Each (λ i. IsGood (stated s i).effect) whole

  both : (a b c d : List Instance) → Faultless a b → Faultless c d → Faultless (a ++ c) (b ++ d)
  both a b c d f g = record {
    same = ap (λ x. x ++ c) f.same ∙ ap (λ x. b ++ x) g.same;
    good = each_joined (λ i. IsGood (stated s i).effect) b d f.good g.good;
  }

  none : Faultless [] []
  none = record { same = refl; good = tt }

  abbrev AllFaultless : Unfolding → Unfolding → List Bindings → Type 0
  AllFaultless f g bs = Each (λ b. Faultless (f b) (g b)) bs

  all_both : (f g h k : Unfolding) (bs : List Bindings) → AllFaultless f g bs → AllFaultless h k bs →
      AllFaultless (λ b. f b ++ h b) (λ b. g b ++ k b) bs
  all_both f g h k [] p q = tt
  all_both f g h k (b ∷ bs) p q = (both (f b) (g b) (h b) (k b) p.0 q.0, all_both f g h k bs p.1 q.1)

  all_none : (bs : List Bindings) → AllFaultless (λ b. []) (λ b. []) bs
  all_none [] = tt
  all_none (b ∷ bs) = (none, all_none bs)

  statements_faultless : (label : Name) (a : Assign) (bs : List Bindings) →
      Each IsGood (map (λ b. effect_of a (among s b)) bs) →
      AllFaultless (λ b. instance_of label b a ∷ []) (λ b. instance_of label b a ∷ []) bs
  statements_faultless label a [] h = tt
  statements_faultless label a (b ∷ bs) h =
      (record { same = refl; good = (h.0, tt) }, statements_faultless label a bs h.1)

  numbers_faultless : (f g : Unfolding) (n : List ℕ) (b : Bindings) (zs : List ℤ) →
      AllFaultless f g (map (λ z. (n, z) ∷ b) zs) →
      Faultless (flat_map (λ z. f ((n, z) ∷ b)) zs) (flat_map (λ z. g ((n, z) ∷ b)) zs)
  numbers_faultless f g n b [] h = none
  numbers_faultless f g n b (z ∷ zs) h =
      both (f ((n, z) ∷ b)) (g ((n, z) ∷ b)) (flat_map (λ y. f ((n, y) ∷ b)) zs) (flat_map (λ y. g ((n, y) ∷ b)) zs)
      h.0
      (numbers_faultless f g n b zs h.1)

  lists_faultless : (f g : Unfolding) (n : List ℕ) (r : Range) (bs : List Bindings) → Each (IsWhole r) bs →
      AllFaultless f g (inside n r bs) →
      AllFaultless (λ b. flat_map (λ z. f ((n, z) ∷ b)) (fit_values b r))
      (λ b. flat_map (λ z. g ((n, z) ∷ b)) (range_values b r)) bs
  lists_faultless f g n r [] w h = tt
  lists_faultless f g n r (b ∷ bs) w h =
      let here = map (λ z. (n, z) ∷ b) (fit_values b r) in
      let each : List Bindings = inside n r bs in (
        subst (λ zs. Faultless (flat_map (λ z. f ((n, z) ∷ b)) (fit_values b r)) (flat_map (λ z. g ((n, z) ∷ b)) zs))
            w.0
            (numbers_faultless f g n b (fit_values b r) (each_front (λ c. Faultless (f c) (g c)) here each h)),
        lists_faultless f g n r bs w.1 (each_back (λ c. Faultless (f c) (g c)) here each h),
      )

  -- items

  abbrev OfItem : Item → Type 0
  OfItem x = (bs : List Bindings) → item_fault s x bs ≡ None → AllFaultless (fit_item x) (item_instances x) bs

  abbrev OfItems : Items → Type 0
  OfItems x = (bs : List Bindings) → items_fault s x bs ≡ None → AllFaultless (fit_items x) (unfolded x) bs

  abbrev Part : Type 0
  Part = (x : Item) × OfItem x

  abbrev Part' : Type 0
  Part' = (x : Items) × OfItems x

  abbrev bare : Item-F Part Part' → Item-F Item Items
  bare y = map-Item Part Part' Item Items (λ p. p.0) (λ p. p.0) y

  abbrev bare' : Items-F Part Part' → Items-F Item Items
  bare' y = map-Items Part Part' Item Items (λ p. p.0) (λ p. p.0) y

  rolled : (x : Item-F Item Items) → ((bs : List Bindings) →
      fault_layer s (map-Item Item Items Failing Failing (item_fault s) (items_fault s) x) bs ≡ None →
      AllFaultless (fit_layer (map-Item Item Items Unfolding Unfolding fit_item fit_items x))
      (item_layer (map-Item Item Items Unfolding Unfolding item_instances unfolded x)) bs) → OfItem (roll-Item x)
  rolled x h bs e =
      subst (λ (f : Unfolding). AllFaultless f (item_instances (roll-Item x)) bs)
      (sym (fold-roll-Item Unfolding Unfolding fit_layer items_layer x))
      (subst (λ (g : Unfolding). AllFaultless
      (fit_layer (map-Item Item Items Unfolding Unfolding fit_item fit_items x)) g bs)
      (sym (fold-roll-Item Unfolding Unfolding item_layer items_layer x))
      (h bs (ap (λ (m : Failing). m bs) (sym (fold-roll-Item Failing Failing (fault_layer s) faults_layer x)) ∙ e)))

  rolled' : (x : Items-F Item Items) → ((bs : List Bindings) →
      faults_layer (map-Items Item Items Failing Failing (item_fault s) (items_fault s) x) bs ≡ None →
      AllFaultless (items_layer (map-Items Item Items Unfolding Unfolding fit_item fit_items x))
      (items_layer (map-Items Item Items Unfolding Unfolding item_instances unfolded x)) bs) → OfItems (roll-Items x)
  rolled' x h bs e =
      subst (λ (f : Unfolding). AllFaultless f (unfolded (roll-Items x)) bs)
      (sym (fold-roll-Items Unfolding Unfolding fit_layer items_layer x))
      (subst (λ (g : Unfolding). AllFaultless
      (items_layer (map-Items Item Items Unfolding Unfolding fit_item fit_items x)) g bs)
      (sym (fold-roll-Items Unfolding Unfolding item_layer items_layer x))
      (h bs (ap (λ (m : Failing). m bs) (sym (fold-roll-Items Failing Failing (fault_layer s) faults_layer x)) ∙ e)))

  further_faultless : (ps : List Part) (bs : List Bindings) →
      first_fault (map (λ (m : Failing). m bs) (map (item_fault s) (map (λ p. p.0) ps))) ≡ None →
      AllFaultless (λ b. flat_map (λ (m : Unfolding). m b) (map fit_item (map (λ p. p.0) ps)))
      (λ b. flat_map (λ (m : Unfolding). m b) (map item_instances (map (λ p. p.0) ps))) bs
  further_faultless [] bs e = all_none bs
  further_faultless (p ∷ ps) bs e =
      let fault = item_fault s p.0 bs in
      let others = first_fault (map (λ (m : Failing). m bs) (map (item_fault s) (map (λ q. q.0) ps))) in
      all_both (fit_item p.0) (item_instances p.0)
      (λ b. flat_map (λ (m : Unfolding). m b) (map fit_item (map (λ q. q.0) ps)))
      (λ b. flat_map (λ (m : Unfolding). m b) (map item_instances (map (λ q. q.0) ps))) bs
      (p.1 bs (first_none fault others e)) (further_faultless ps bs (second_none fault others e))

  item_layers : (y : Item-F Part Part') → OfItem (roll-Item (bare y))
  item_layers (Item-F.Statement at label assign) = rolled (Item-F.Statement at label assign)
      (λ bs e. statements_faultless label assign bs (effects_good label (map (λ b. effect_of assign (among s b)) bs) e))
  item_layers (Item-F.Quantified at name range p) = rolled (Item-F.Quantified at name range p.0)
      (λ bs e. lists_faultless (fit_items p.0) (unfolded p.0) name.text range bs
      (ranges_whole range bs (first_none (range_fault range bs) (items_fault s p.0 (inside name.text range bs)) e))
      (p.1 (inside name.text range bs)
      (second_none (range_fault range bs) (items_fault s p.0 (inside name.text range bs)) e)))

  items_layers : (y : Items-F Part Part') → OfItems (roll-Items (bare' y))
  items_layers y = rolled' (bare' y) (λ bs e.
      let fault = item_fault s y.first.0 bs in
      let others = first_fault (map (λ (m : Failing). m bs) (map (item_fault s) (map (λ q. q.0) y.rest))) in
      all_both (fit_item y.first.0) (item_instances y.first.0)
      (λ b. flat_map (λ (m : Unfolding). m b) (map fit_item (map (λ q. q.0) y.rest)))
      (λ b. flat_map (λ (m : Unfolding). m b) (map item_instances (map (λ q. q.0) y.rest))) bs
      (y.first.1 bs (first_none fault others e)) (further_faultless y.rest bs (second_none fault others e)))

  items_faultless : (x : Items) → OfItems x
  items_faultless x = ind-Items OfItem OfItems (λ z y e. subst (λ w. OfItem (roll-Item w)) e (item_layers y))
      (λ z y e. subst (λ w. OfItems (roll-Items w)) e (items_layers y)) x

  in_no_list : (x : Items) → items_fault s x ([] ∷ []) ≡ None → Faultless (fit_items x []) (instances x)
  in_no_list x h = (items_faultless x ([] ∷ []) h).0

pub fit_is_all : FitIsAll
fit_is_all s items h = (in_no_list s items h).same

pub faultless_instances : FaultlessInstances
faultless_instances s items h place i e =
    each_at (λ j. IsGood (stated s j).effect) (instances items) place i (in_no_list s items h).good e
