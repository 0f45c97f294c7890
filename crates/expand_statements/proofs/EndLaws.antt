-- Ends of ranges inside lists are what they are among the bound names.
use Rattle.std.proofs.Common.{◌≡◌, ℕ, zero, suc, ℤ, pos, negsuc, neg_ℤ, ◌+ℤ◌, ◌-ℤ◌, List, [], ◌∷◌, ◌++◌, Bool, true}
use Rattle.std.proofs.Common.{false, cond, ◌&&◌, Option, Some, None, length, slice_index_or, append_assoc, append-nil}
use Rattle.std.proofs.Common.{refl, sym, ap, ◌∙◌, subst, arith}
use Rattle.std.proofs.lemmas.Int.{ints}
use Rattle.std.specs.Str.{bytes_eq}
use Rattle.case_tables.specs.declared.symbol_table.Symbol.{Symbol}
use Rattle.unity_syntax.specs.declared.name.End.{End}
use Rattle.unity_syntax.specs.declared.name.Range.{Range}
use Rattle.meaning_documents.specs.Names.{Bindings, number_of, or_zero}
use Rattle.meaning_executions.specs.Counting.{natural, count_up}
use Rattle.meaning_documents.specs.Value.{end_value, with_offset, plus, signed}
use Rattle.expand_counting.specs.Nests.{number_at, end_number, range_numbers, count_up as up_from, natural as count_of}
use Rattle.expand_rules.specs.Measures.{is_fit}
use Rattle.expand_rules.specs.Forming.{fit_values}
use Rattle.expand_statements.specs.Chains.{BoundNames, last_from, last_place, is_minus, word_end, chain_end}
use Rattle.expand_statements.specs.Chains.{chain_range, bound_inside}

item_between : (us : List ℤ) (z : ℤ) (ws : List ℤ) → slice_index_or ((us ++ z ∷ []) ++ ws) (length us) (pos 0) ≡ z
item_between [] z ws = refl
item_between (u ∷ us) z ws = item_between us z ws

zero_last : (us : List ℤ) (n : ℕ) → slice_index_or (us ++ pos 0 ∷ []) n (pos 0) ≡ slice_index_or us n (pos 0)
zero_last [] zero = refl
zero_last [] (suc n) = refl
zero_last (u ∷ us) zero = refl
zero_last (u ∷ us) (suc n) = zero_last us n

number_zero_last : (us : List ℤ) (level : Option ℕ) → number_at (us ++ pos 0 ∷ []) level ≡ number_at us level
number_zero_last us None = refl
number_zero_last us (Some n) = zero_last us n

length_more : (us : List ℤ) (z : ℤ) → length (us ++ z ∷ []) ≡ suc (length us)
length_more [] z = refl
length_more (u ∷ us) z = ap suc (length_more us z)

-- what is bound so far to a name is the number at the level that was found so far, whatever follows
abbrev Found : List ℕ → Bindings → List ℤ → Option ℕ → Type 0
Found name b us found = (ws : List ℤ) → or_zero (number_of name b) ≡ number_at (us ++ ws) found

found_more : (name n : List ℕ) (z : ℤ) (b : Bindings) (us : List ℤ) (found : Option ℕ) → Found name b us found →
    Found name ((n, z) ∷ b) (us ++ z ∷ []) (cond (bytes_eq name n) (Some (length us)) found)
found_more name n z b us found h ws = by (bytes_eq name n)
  where
    by : (same : Bool) → or_zero (cond same (Some z) (number_of name b)) ≡
        number_at ((us ++ z ∷ []) ++ ws) (cond same (Some (length us)) found)
    by true = sym (item_between us z ws)
    by false = h (z ∷ ws) ∙ ap (λ xs. number_at xs found) (sym (append_assoc us (z ∷ []) ws))

level_found : (name : List ℕ) (ns : BoundNames) (zs : List ℤ) (b : Bindings) (us : List ℤ) (found : Option ℕ)
    (place : ℕ) →
    place ≡ length us → Found name b us found →
    or_zero (number_of name (bound_inside b ns zs)) ≡ number_at (us ++ zs) (last_from found place name ns)
level_found name [] zs b us found place e h = h zs
level_found name (n ∷ ns) [] b us found place e h =
    let next : Option ℕ = cond (bytes_eq name n) (Some place) found in
    level_found name ns [] ((n, pos 0) ∷ b) (us ++ pos 0 ∷ []) next (suc place)
    (ap suc e ∙ sym (length_more us (pos 0)))
    (subst (λ p. Found name ((n, pos 0) ∷ b) (us ++ pos 0 ∷ []) (cond (bytes_eq name n) (Some p) found)) (sym e)
    (found_more name n (pos 0) b us found h))
    ∙ ap (λ xs. number_at xs (last_from next (suc place) name ns)) (append-nil (us ++ pos 0 ∷ []))
    ∙ number_zero_last us (last_from next (suc place) name ns)
    ∙ ap (λ xs. number_at xs (last_from next (suc place) name ns)) (sym (append-nil us))
level_found name (n ∷ ns) (z ∷ zs) b us found place e h =
    let next : Option ℕ = cond (bytes_eq name n) (Some place) found in
    level_found name ns zs ((n, z) ∷ b) (us ++ z ∷ []) next (suc place) (ap suc e ∙ sym (length_more us z))
    (subst (λ p. Found name ((n, z) ∷ b) (us ++ z ∷ []) (cond (bytes_eq name n) (Some p) found)) (sym e)
    (found_more name n z b us found h))
    ∙ ap (λ xs. number_at xs (last_from next (suc place) name ns)) (append_assoc us (z ∷ []) zs)

-- a name among lists has the number at its level
pub level_law : (name : List ℕ) (ns : BoundNames) (zs : List ℤ) →
    or_zero (number_of name (bound_inside [] ns zs)) ≡ number_at zs (last_place name ns)
level_law name ns zs = level_found name ns zs [] [] None 0 refl (λ ws. refl)

zero_plus : (z : ℤ) → pos 0 +ℤ z ≡ z
zero_plus z = omega (arith, ints)

signed_plus : (s : Symbol) (a b : ℤ) → plus a s b ≡ a +ℤ cond (is_minus s) (neg_ℤ b) b
signed_plus Symbol.Minus a b = omega (arith, ints)
signed_plus _ a b = refl

offset_law : (z : ℤ) (o : Option (Symbol × ℕ)) (level : Option ℕ) (zs : List ℤ) → z ≡ number_at zs level →
    with_offset z o ≡ end_number zs (word_end level o)
offset_law z None level zs e = e ∙ plus_zero (number_at zs level)
  where
    plus_zero : (y : ℤ) → y ≡ y +ℤ pos 0
    plus_zero y = omega (arith, ints)
offset_law z (Some o) level zs e =
    signed_plus o.0 z (pos o.1) ∙ ap (λ y. y +ℤ cond (is_minus o.0) (neg_ℤ (pos o.1)) (pos o.1)) e

-- an end of a range among lists is the end among their bindings
pub end_law : (ns : BoundNames) (zs : List ℤ) (e : End) →
    end_value (bound_inside [] ns zs) e ≡ end_number zs (chain_end ns e)
end_law ns zs (End.Number at minus number) = sym (zero_plus (signed minus (pos number)))
end_law ns zs (End.Word at name offset) =
    offset_law (or_zero (number_of name.text (bound_inside [] ns zs))) offset (last_place name.text ns) zs
    (level_law name.text ns zs)

same_count : (z : ℤ) → natural z ≡ count_of z
same_count (pos n) = refl
same_count (negsuc n) = refl

same_numbers : (low : ℤ) (n : ℕ) → count_up low n ≡ up_from low n
same_numbers low zero = refl
same_numbers low (suc n) = ap (λ zs. low ∷ zs) (same_numbers (low +ℤ pos 1) n)

numbers_between : (a b : ℤ) → count_up a (natural (b +ℤ pos 1 -ℤ a)) ≡ up_from a (count_of (b +ℤ pos 1 -ℤ a))
numbers_between a b =
    ap (count_up a) (same_count (b +ℤ pos 1 -ℤ a)) ∙ same_numbers a (count_of (b +ℤ pos 1 -ℤ a))

values_at : (a b x y : ℤ) → a ≡ x → b ≡ y →
    cond (is_fit a && is_fit b) (count_up a (natural (b +ℤ pos 1 -ℤ a))) []
    ≡ cond (is_fit x && is_fit y) (up_from x (count_of (y +ℤ pos 1 -ℤ x))) []
values_at a b x y e f =
    ap (λ v. cond (is_fit v && is_fit b) (count_up v (natural (b +ℤ pos 1 -ℤ v))) []) e
    ∙ ap (λ v. cond (is_fit x && is_fit v) (count_up x (natural (v +ℤ pos 1 -ℤ x))) []) f
    ∙ ap (λ zs. cond (is_fit x && is_fit y) zs []) (numbers_between x y)

-- and a range has the numbers that it has among them
pub range_law : (ns : BoundNames) (zs : List ℤ) (r : Range) →
    fit_values (bound_inside [] ns zs) r ≡ range_numbers zs (chain_range ns r)
range_law ns zs r = values_at (end_value (bound_inside [] ns zs) r.low) (end_value (bound_inside [] ns zs) r.high)
    (end_number zs (chain_end ns r.low)) (end_number zs (chain_end ns r.high)) (end_law ns zs r.low)
    (end_law ns zs r.high)
