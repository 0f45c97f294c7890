-- The count of statements of each kind of item and of items, one equation for each.
use Rattle.std.proofs.Common.{◌≡◌, ℕ, ◌+◌, ◌<◌, List, [], ◌∷◌, map, length, Option, Some, None, refl, sym, ap, ◌∙◌}
use Rattle.std.proofs.Common.{arith}
use Rattle.unity_syntax.specs.declared.name.Name.{Name}
use Rattle.unity_syntax.specs.declared.name.Range.{Range}
use Rattle.unity_syntax.specs.declared.statement.Assign.{Assign}
use Rattle.unity_syntax.specs.declared.statement.Item
use Rattle.unity_syntax.specs.declared.statement.Item.{Item, fold-roll-Item}
use Rattle.unity_syntax.specs.declared.statement.Item.TheOpen.{Item-F}
use Rattle.unity_syntax.specs.declared.statement.Item.TheVariants.{rolls-Statement, rolls-Quantified}
use Rattle.unity_syntax.specs.declared.statement.Items.{Items, fold-roll-Items}
use Rattle.meaning_documents.specs.Names.{Bindings}
use Rattle.expand_counting.specs.Nests.{LeavesRoom}
use Rattle.expand_rules.specs.Lists.{Counting, count_layer, counts_layer, item_count, items_count, inside, total}

pub count-Statement : (at : ℕ) (label : Name) (assign : Assign) (bs : List Bindings) →
    item_count (Item.Statement at label assign) bs ≡ length bs
count-Statement at label assign bs =
    ap (λ x. item_count x bs) (sym (rolls-Statement at label assign)) ∙
    ap (λ m. m bs) (fold-roll-Item Counting Counting count_layer counts_layer (Item-F.Statement at label assign))

pub count-Quantified : (at : ℕ) (name : Name) (range : Range) (of : Items) (bs : List Bindings) →
    item_count (Item.Quantified at name range of) bs ≡ items_count of (inside name.text range bs)
count-Quantified at name range of bs =
    ap (λ x. item_count x bs) (sym (rolls-Quantified at name range of)) ∙
    ap (λ m. m bs) (fold-roll-Item Counting Counting count_layer counts_layer (Item-F.Quantified at name range of))

each_count : (xs : List Item) (bs : List Bindings) →
    total (map (λ (m : Counting). m bs) (map item_count xs)) ≡ total (map (λ i. item_count i bs) xs)
each_count [] bs = refl
each_count (x ∷ xs) bs = ap (λ n. item_count x bs + n) (each_count xs bs)

pub count-parts : (x : Items) (bs : List Bindings) →
    items_count x bs ≡ item_count x.first bs + total (map (λ i. item_count i bs) x.rest)
count-parts x bs = ap (λ m. m bs) (fold-roll-Items Counting Counting count_layer counts_layer (record {
  at = x.at;
  first = x.first;
  rest = x.rest;
})) ∙ ap (λ n. item_count x.first bs + n) (each_count x.rest bs)

-- the room that is left by both of two
pub room_both : (r : Option ℕ) (room left n m : ℕ) → LeavesRoom (Some left) room n → LeavesRoom r left m →
    LeavesRoom r room (n + m)
room_both None room left n m h k = let e : left + n ≡ room = h in let l : left < m = k in omega arith
room_both (Some less) room left n m h k =
    let e : left + n ≡ room = h in let l : less + m ≡ left = k in let z : less + (n + m) ≡ room = omega arith in z

pub room_past : (room n m : ℕ) → LeavesRoom None room n → LeavesRoom None room (n + m)
room_past room n m h = let l : room < n = h in omega arith
