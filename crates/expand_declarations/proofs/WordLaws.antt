-- Tables of words, as the code keeps them and as contracts see them.
use Rattle.std.proofs.Common.{◌≡◌, ℕ, suc, Bool, true, false, cond, not, nat_lt, List, [], ◌∷◌, ◌++◌, map, length}
use Rattle.std.proofs.Common.{Some, None, refl, sym, ap, ◌∙◌, ◌+◌, Bor, Result, Ok, Err, OnOk}
use Rattle.std.specs.Prelude.{position, if◌then◌else◌}
use Rattle.std.specs.List.{list_any, flat_map, position_or_len}
use Rattle.unity_syntax.specs.declared.statement.Items.{Items, fold-roll-Items}
use Rattle.std.specs.Str.{bytes_eq}
use Rattle.std.proofs.lemmas.List.Sums.{fold-append}
use Rattle.std.proofs.lemmas.List.Folds.{flat_map-map}
use Rattle.indexmap.specs.IndexSet.{insert_key}
use Rattle.names_rules.proofs.Lookups.{inserted_key, keys_any}
use Rattle.expand_declarations.specs.Texts.{Texts, item_layer, items_layer, item_texts, items_texts}
use Rattle.expand_declarations.specs.WordNumbers.{with_text, with_texts}

-- words that the code keeps, as contracts see them
abbrev pub seen : List (Bor (List ℕ)) → Texts
seen ks = map (λ (k : Bor (List ℕ)). k.now) ks

keep_at : (b : Bool) (ks : List (Bor (List ℕ))) (k : Bor (List ℕ)) →
    list_any (bytes_eq k.now) (seen ks) ≡ b →
    seen (insert_key (λ (j k : Bor (List ℕ)). bytes_eq j.now k.now) ks k) ≡ cond b (seen ks) (seen ks ++ k.now ∷ [])
keep_at true ks k h =
    ap (λ b. seen (if b then ks else ks ++ k ∷ [])) (keys_any (bytes_eq k.now) ks ∙ h)
keep_at false ks k h = inserted_key ks k h

-- a text that is inserted
pub inserted_text : (ks : List (Bor (List ℕ))) (k : Bor (List ℕ)) →
    seen (insert_key (λ (j k : Bor (List ℕ)). bytes_eq j.now k.now) ks k) ≡ with_text (seen ks) k.now
inserted_text ks k = keep_at (list_any (bytes_eq k.now) (seen ks)) ks k refl

-- the place of a text
place_seen : (test : List ℕ → Bool) (ks : List (Bor (List ℕ))) →
    position_or_len (λ (k : Bor (List ℕ)). test k.now) ks ≡ position_or_len test (seen ks)
place_seen test [] = refl
place_seen test (k ∷ ks) = ap (λ n. cond (not (test k.now)) (1 + n) 0) (place_seen test ks)

same_length : (ks : List (Bor (List ℕ))) → length ks ≡ length (seen ks)
same_length [] = refl
same_length (k ∷ ks) = ap suc (same_length ks)

pub position_seen : (test : List ℕ → Bool) (ks : List (Bor (List ℕ))) →
    position (λ (k : Bor (List ℕ)). test k.now) ks ≡ position test (seen ks)
position_seen test ks = λ i.
    let place : ℕ = place_seen test ks i in let count : ℕ = same_length ks i in
    cond (nat_lt place count) (Some place) None

-- further texts after others
pub with_texts-append : (words first second : Texts) →
    with_texts words (first ++ second) ≡ with_texts (with_texts words first) second
with_texts-append words first second = fold-append with_text words first second

-- the labels of items: those of the first, and of the others
pub items-texts : (x : Items) → items_texts x ≡ item_texts x.first ++ flat_map item_texts x.rest
items-texts x = fold-roll-Items Texts Texts item_layer items_layer (record {
  at = x.at;
  first = x.first;
  rest = x.rest;
})
    ∙ ap (λ texts. item_texts x.first ++ texts) (flat_map-map (λ (texts : Texts). texts) item_texts x.rest)

-- texts that were added after others
pub both_added : {E : Type 0} (r : Result (Unit {0}) E) (old middle new first second whole : Texts) →
    middle ≡ with_texts old first → whole ≡ first ++ second → OnOk r (new ≡ with_texts middle second) →
    OnOk r (new ≡ with_texts old whole)
both_added (Ok t) old middle new first second whole m w n = n ∙ ap (λ words. with_texts words second) m
    ∙ sym (with_texts-append old first second) ∙ ap (with_texts old) (sym w)
both_added (Err e) old middle new first second whole m w n = tt
