-- Labels of well-named items: each stands once, and none is one of those before.
use Rattle.std.proofs.Common.{◌≡◌, ℕ, List, [], ◌∷◌, ◌++◌, map, Bool, true, false, not, ◌||◌, None, refl, sym, ap}
use Rattle.std.proofs.Common.{◌∙◌, subst, append_assoc, All}
use Rattle.std.specs.List.{flat_map, list_any}
use Rattle.std.specs.Str.{bytes_eq}
use Rattle.std.proofs.lemmas.List.{append-nil}
use Rattle.std.proofs.lemmas.List.Elements.{All-nil, All-cons, All-head, All-tail, All-weaker}
use Rattle.std.proofs.lemmas.List.Folds.{list_any-append}
use Rattle.std.proofs.lemmas.Slice.Eq.{bytes_eq-Decides}
use Rattle.case_tables.specs.declared.code_table.Code.{Code}
use Rattle.unity_syntax.specs.declared.name.Name.{Name}
use Rattle.unity_syntax.specs.declared.name.Range.{Range}
use Rattle.unity_syntax.specs.declared.statement.Assign.{Assign}
use Rattle.unity_syntax.specs.declared.statement.Item
use Rattle.unity_syntax.specs.declared.statement.Item.{Item, fold-roll-Item}
use Rattle.unity_syntax.specs.declared.statement.Item.TheOpen.{Item-F}
use Rattle.unity_syntax.specs.declared.statement.Item.TheVariants.{rolls-Statement, rolls-Quantified}
use Rattle.unity_syntax.specs.declared.statement.Items.{Items, fold-roll-Items}
use Rattle.names_rules.specs.declared.named.Meaning.{Meaning}
use Rattle.names_rules.specs.Scope.{Scope, with_bound}
use Rattle.names_rules.specs.Reading.{earlier, unless, beside, binding, filled}
use Rattle.names_rules.specs.Part.{Part, run}
use Rattle.names_rules.specs.Statements.{Labels, assign_reading, item_part, items_part}
use Rattle.names_rules.proofs.Faults.{earlier_first, earlier_second, unless_none}
use Rattle.expand_declarations.specs.Texts.{Texts, item_layer, items_layer, item_texts, items_texts}
use Rattle.expand_fits_parts.proofs.Conditions.ItemLaws.{of_items, part-Statement, part-Quantified, part-Items}

-- the texts of items, one equation for each kind

pub texts-Statement : (at : ℕ) (label : Name) (assign : Assign) →
    item_texts (Item.Statement at label assign) ≡ label.text ∷ []
texts-Statement at label assign =
    ap item_texts (sym (rolls-Statement at label assign)) ∙
    fold-roll-Item Texts Texts item_layer items_layer (Item-F.Statement at label assign)

pub texts-Quantified : (at : ℕ) (name : Name) (range : Range) (of : Items) →
    item_texts (Item.Quantified at name range of) ≡ items_texts of
texts-Quantified at name range of =
    ap item_texts (sym (rolls-Quantified at name range of)) ∙
    fold-roll-Item Texts Texts item_layer items_layer (Item-F.Quantified at name range of)

each_texts : (xs : List Item) → flat_map (λ texts. texts) (map item_texts xs) ≡ flat_map item_texts xs
each_texts [] = refl
each_texts (x ∷ xs) = ap (λ ts. item_texts x ++ ts) (each_texts xs)

pub texts-Items : (x : Items) → items_texts x ≡ item_texts x.first ++ flat_map item_texts x.rest
texts-Items x = fold-roll-Items Texts Texts item_layer items_layer (record {
  at = x.at;
  first = x.first;
  rest = x.rest;
}) ∙ ap (λ ts. item_texts x.first ++ ts) (each_texts x.rest)

-- texts that are new

abbrev pub has : Texts → List ℕ → Bool
has texts text = list_any (bytes_eq text) texts

-- each of the texts is none of those before it
abbrev pub Fresh : Texts → Texts → Type 0
Fresh before [] = Unit {0}
Fresh before (t ∷ ts) = (has before t ≡ false) × Fresh (before ++ t ∷ []) ts

pub fresh_on : (before ts us : Texts) → Fresh before ts → Fresh (before ++ ts) us → Fresh before (ts ++ us)
fresh_on before [] us h k = subst (λ (b : Texts). Fresh b us) (append-nil before) k
fresh_on before (t ∷ ts) us h k = (
  h.0,
  fresh_on (before ++ t ∷ []) ts us h.1
      (subst (λ (b : Texts). Fresh b us) (sym (append_assoc before (t ∷ []) ts)) k),
)

not_false : (b : Bool) → not b ≡ true → b ≡ false
not_false true h = cc h
not_false false h = refl

-- the labels after items
pub record Labelled (before after texts : Texts) : Type 0 where
  pub same : after ≡ before ++ texts
  pub fresh : Fresh before texts

labelled_on : (a b c ts us : Texts) → Labelled a b ts → Labelled b c us → Labelled a c (ts ++ us)
labelled_on a b c ts us h k = record {
  same = k.same ∙ ap (λ x. x ++ us) h.same ∙ append_assoc a ts us;
  fresh = fresh_on a ts us h.fresh (subst (λ (x : Texts). Fresh x us) h.same k.fresh);
}

abbrev One : Item → Type 0
One i = (s : Scope) (labels : Labels) → (item_part i s labels).fault ≡ None →
    Labelled labels (item_part i s labels).after (item_texts i)

abbrev Several : Items → Type 0
Several x = (s : Scope) (labels : Labels) → (items_part x s labels).fault ≡ None →
    Labelled labels (items_part x s labels).after (items_texts x)

one : (at : ℕ) (label : Name) (assign : Assign) → One (Item.Statement at label assign)
one at label assign s labels h =
    let e = part-Statement at label assign s labels in
    let once = unless (not (has labels label.text)) Code.DeclaredTwice label.at in
    let fault : earlier once (assign_reading assign s).fault ≡ None = sym (ap (λ (p : Part Labels). p.fault) e) ∙ h in
    record {
      same = ap (λ (p : Part Labels). p.after) e ∙ ap (λ ts. labels ++ ts) (sym (texts-Statement at label assign));
      fresh = subst (λ ts. Fresh labels ts) (sym (texts-Statement at label assign)) (
        not_false (has labels label.text) (unless_none (not (has labels label.text)) Code.DeclaredTwice label.at
            (earlier_first once (assign_reading assign s).fault fault)),
        tt,
      );
    }

quantified : (at : ℕ) (name : Name) (range : Range) (of : Items) → Several of → One (Item.Quantified at name range of)
quantified at name range of several s labels h =
    let e = part-Quantified at name range of s labels in
    let inner = with_bound s name.text (Meaning.Bound name.at) in
    let head = (beside (binding s name (Meaning.Bound name.at)) (filled s.bounds range)).fault in
    let fault : earlier head (items_part of inner labels).fault ≡ None =
    sym (ap (λ (p : Part Labels). p.fault) e) ∙ h in
    let k = several inner labels (earlier_second head (items_part of inner labels).fault fault) in
    record {
      same = ap (λ (p : Part Labels). p.after) e ∙ k.same
          ∙ ap (λ ts. labels ++ ts) (sym (texts-Quantified at name range of));
      fresh = subst (λ ts. Fresh labels ts) (sym (texts-Quantified at name range of)) k.fresh;
    }

rest : (s : Scope) (xs : List Item) → All One xs → (labels : Labels) →
    (run (λ others i. item_part i s others) labels xs).fault ≡ None →
    Labelled labels (run (λ others i. item_part i s others) labels xs).after (flat_map item_texts xs)
rest s [] each labels h = record { same = sym (append-nil labels); fresh = tt }
rest s (x ∷ xs) each labels h =
    let p = item_part x s labels in
    let q = run (λ others i. item_part i s others) p.after xs in
    labelled_on labels p.after q.after (item_texts x) (flat_map item_texts xs)
    (All-head One x xs each s labels (earlier_first p.fault q.fault h))
    (rest s xs (All-tail One x xs each) p.after (earlier_second p.fault q.fault h))

list : (x : Items) → One x.first → All One x.rest → Several x
list x first each s labels h =
    let p = item_part x.first s labels in
    let q = run (λ others i. item_part i s others) p.after x.rest in
    let e = part-Items x s labels in
    let fault : earlier p.fault q.fault ≡ None = sym (ap (λ (r : Part Labels). r.fault) e) ∙ h in
    let k = labelled_on labels p.after q.after (item_texts x.first) (flat_map item_texts x.rest)
    (first s labels (earlier_first p.fault q.fault fault))
    (rest s x.rest each p.after (earlier_second p.fault q.fault fault)) in
    record {
      same = ap (λ (r : Part Labels). r.after) e ∙ k.same ∙ ap (λ ts. labels ++ ts) (sym (texts-Items x));
      fresh = subst (λ ts. Fresh labels ts) (sym (texts-Items x)) k.fresh;
    }

-- after items without a fault their labels are known, each of which was new
pub labelled : (x : Items) → Several x
labelled x = of_items One Several one quantified list x

-- texts that differ

pub or_none : (a b : Bool) → (a || b) ≡ false → (a ≡ false) × (b ≡ false)
or_none true b h = cc h
or_none false b h = (refl, h)

abbrev pub Differs : List ℕ → List ℕ → Type 0
Differs t u = t ≡ u → ⊥

pub differs : (t u : List ℕ) → bytes_eq t u ≡ false → Differs u t
differs t u h e = let k = (bytes_eq-Decides t u).1 (sym e) in cc (h, k)

pub fresh_apart : (before more : Texts) (us : Texts) → Fresh (before ++ more) us →
    All (λ u. has more u ≡ false) us
fresh_apart before more [] h = All-nil (λ u. has more u ≡ false)
fresh_apart before more (u ∷ us) h =
    All-cons (λ v. has more v ≡ false) u us
    (or_none (has before u) (has more u) (sym (list_any-append (bytes_eq u) before more) ∙ h.0)).1
    (All-weaker (λ v. has (more ++ u ∷ []) v ≡ false) (λ v. has more v ≡ false)
    (λ v k. (or_none (has more v) (has (u ∷ []) v) (sym (list_any-append (bytes_eq v) more (u ∷ [])) ∙ k)).0) us
    (fresh_apart before (more ++ u ∷ []) us
    (subst (λ (b : Texts). Fresh b us) (append_assoc before more (u ∷ [])) h.1)))

none_same : (ts : Texts) (u : List ℕ) → has ts u ≡ false → All (λ t. Differs t u) ts
none_same [] u h = All-nil (λ t. Differs t u)
none_same (t ∷ ts) u h = let p = or_none (bytes_eq u t) (has ts u) h in
    All-cons (λ v. Differs v u) t ts (differs u t p.0) (none_same ts u p.1)

-- each text of the first differs from each of the second
abbrev pub Apart : Texts → Texts → Type 0
Apart ts us = All (λ u. All (λ t. Differs t u) ts) us

pub fresh_parts : (before ts us : Texts) → Fresh before (ts ++ us) → Fresh before ts × Fresh (before ++ ts) us
fresh_parts before [] us h = (tt, subst (λ (b : Texts). Fresh b us) (sym (append-nil before)) h)
fresh_parts before (t ∷ ts) us h = let k = fresh_parts (before ++ t ∷ []) ts us h.1 in
    ((h.0, k.0), subst (λ (b : Texts). Fresh b us) (append_assoc before (t ∷ []) ts) k.1)

pub apart : (before ts us : Texts) → Fresh before (ts ++ us) → Apart ts us
apart before ts us h = All-weaker (λ u. has ts u ≡ false) (λ u. All (λ t. Differs t u) ts)
    (λ u k. none_same ts u k) us (fresh_apart before ts us (fresh_parts before ts us h).1)
