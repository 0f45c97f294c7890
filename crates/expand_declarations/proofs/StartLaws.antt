-- Start values, and the words of enumerations as the code keeps them.
use Rattle.std.proofs.Common.{◌≡◌, ℕ, ◌<◌, List, [], ◌∷◌, ◌++◌, Bool, true, false, cond, Option, Some, None, refl}
use Rattle.std.proofs.Common.{sym, ap, ◌∙◌, is_some, arith, Result, Ok, Err, OnOk}
use Rattle.std.specs.Prelude.{ℤ, pos, negsuc, ◌-ℤ◌, ◌+ℤ◌, option_map, unwrap_or}
use Rattle.std.specs.Option.{option_and_then}
use Rattle.std.specs.Map.{lookup}
use Rattle.std.specs.Str.{bytes_eq}
use Rattle.std.proofs.lemmas.Int.{ints}
use Rattle.std.proofs.lemmas.List.Sums.{fold-append}
use lib.Signed.{◌≤ℤ◌}
use Rattle.indexmap.specs.IndexMap.{insert_entry}
use Rattle.expand_expressions.specs.from_meaning_documents.Names.{Bindings, number_of, or_zero, slot_at, slot_named}
use Rattle.meaning_executions.specs.Counting.{natural}
use Rattle.meaning_executions.specs.Counting.{range_size}
use Rattle.expand_expressions.specs.declared.places.VariableSlots.{VariableSlots}
use Rattle.expand_expressions.specs.Places.{ends_of, variables_of}
use Rattle.expand_declarations.specs.Start.{with_word, with_words}

natural_of : (a : ℤ) → pos 0 ≤ℤ a → pos (natural a) ≡ a
natural_of (pos n) h = refl
natural_of (negsuc n) h = absurd (omega (arith, ints))

-- an index within an array is nearer to the lowest than there are indices
pub distance_below : (low high index : ℤ) → low ≤ℤ index → index ≤ℤ high →
    natural (index -ℤ low) < range_size (low, high)
distance_below low high index above below =
    let n = natural_of (index -ℤ low) (omega (arith, ints)) in
    let m = natural_of ((high +ℤ pos 1) -ℤ low) (omega (arith, ints)) in omega (arith, ints)

-- slots

found_slot : (b : Bool) (p : VariableSlots) (index : Option ℤ) (here there : Option ℕ) (rest : Option VariableSlots) →
    here ≡ slot_at p.first (option_map ends_of p.indices) index →
    there ≡ option_and_then (λ q. slot_at q.first (option_map ends_of q.indices) index) rest →
    cond b here there ≡ option_and_then (λ q. slot_at q.first (option_map ends_of q.indices) index)
    (cond b (Some p) rest)
found_slot true p index here there rest h t = h
found_slot false p index here there rest h t = t

-- the slot of a name is that of the variable that is found by it
pub slot_named-found : (es : List (List ℕ × VariableSlots)) (name : List ℕ) (index : Option ℤ) →
    slot_named name index (variables_of es) ≡
    option_and_then (λ p. slot_at p.first (option_map ends_of p.indices) index) (lookup (bytes_eq name) es)
slot_named-found [] name index = refl
slot_named-found (e ∷ es) name index = found_slot (bytes_eq name e.0) e.1 index _ _ (lookup (bytes_eq name) es) refl
    (slot_named-found es name index)

-- words

-- the number of a word is the one that it finds
number_of-found : (ws : Bindings) (name : List ℕ) → lookup (bytes_eq name) ws ≡ number_of name ws
number_of-found [] name = refl
number_of-found (w ∷ ws) name = ap (cond (bytes_eq name w.0) (Some w.1)) (number_of-found ws name)

zero-or : (z : Option ℤ) → unwrap_or z (pos 0) ≡ or_zero z
zero-or None = refl
zero-or (Some z) = refl

pub number-found : (ws : Bindings) (name : List ℕ) →
    unwrap_or (lookup (bytes_eq name) ws) (pos 0) ≡ or_zero (number_of name ws)
number-found ws name = ap (λ z. unwrap_or z (pos 0)) (number_of-found ws name) ∙ zero-or (number_of name ws)

with_words-append : (known first second : Bindings) →
    with_words known (first ++ second) ≡ with_words (with_words known first) second
with_words-append known first second = fold-append with_word known first second

-- with the words so far, those that are left lead to what all lead to from the old ones
pub words_more : (now new old more rest left all : Bindings) → with_words now left ≡ with_words old all →
    left ≡ more ++ rest → new ≡ with_words now more → with_words new rest ≡ with_words old all
words_more now new old more rest left all ahead split added = ap (λ ws. with_words ws rest) added
    ∙ sym (with_words-append now more rest) ∙ ap (with_words now) (sym split) ∙ ahead

pub words_both : {E : Type 0} (r : Result (Unit {0}) E) (old middle new first second : Bindings) →
    middle ≡ with_words old first → OnOk r (new ≡ with_words middle second) →
    OnOk r (new ≡ with_words old (first ++ second))
words_both (Ok t) old middle new first second a b =
    b ∙ ap (λ ws. with_words ws second) a ∙ sym (with_words-append old first second)
words_both (Err e) old middle new first second a b = tt

-- a word that is there keeps its number
pub word_known : (es : Bindings) (word : List ℕ) (z : ℤ) → is_some (lookup (bytes_eq word) es) ≡ true →
    es ≡ with_word es (word, z)
word_known es word z known = sym (ap (λ b. cond b es (insert_entry bytes_eq es word z)) known)

-- a word that is not there is entered last
pub word_new : (es : Bindings) (word : List ℕ) (z : ℤ) → is_some (lookup (bytes_eq word) es) ≡ false →
    insert_entry bytes_eq es word z ≡ with_word es (word, z)
word_new es word z new = sym (ap (λ b. cond b es (insert_entry bytes_eq es word z)) new)
