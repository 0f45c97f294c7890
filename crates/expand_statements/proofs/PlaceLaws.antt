-- The place at which the range of a list fails, by what is asked of the nested ranges around it.
use Rattle.std.proofs.Common.{◌≡◌, List, [], ◌∷◌, map, Bool, ◌||◌, ◌&&◌, not, refl, sym, ap, ◌∙◌}
use Rattle.std.specs.List.{list_any}
use Rattle.std.specs.Int.RustNames.{int_lt}
use Rattle.unity_syntax.specs.declared.name.End.{End}
use Rattle.unity_syntax.specs.declared.name.Range.{Range}
use Rattle.meaning_documents.specs.Value.{end_value}
use Rattle.expand_counting.specs.declared.ranges.NestEnd.{NestEnd}
use Rattle.expand_counting.specs.declared.ranges.NestRange.{NestRange}
use Rattle.expand_counting.specs.Nests.{instances, end_number, end_fits, is_nest_empty}
use Rattle.expand_rules.specs.Lists.{is_empty_range}
use Rattle.expand_statements.specs.Chains.{BoundNames, chain_end, chain_range, bound_inside, standing}
use Rattle.expand_statements.proofs.EndLaws.{end_law}

any_mapped : {A B : Type 0} (p : B → Bool) (q : A → Bool) (f : A → B) → ((x : A) → p (f x) ≡ q x) → (xs : List A) →
    list_any p (map f xs) ≡ list_any q xs
any_mapped p q f h [] = refl
any_mapped p q f h (x ∷ xs) = ap (λ b. b || list_any p (map f xs)) (h x) ∙ ap (λ b. q x || b) (any_mapped p q f h xs)

pub large_somewhere : (ns : BoundNames) (rs : List NestRange) (e : End) →
    list_any (λ b. not (end_fits (end_value b e))) (standing ns rs) ≡
    list_any (λ vs. not (end_fits (end_number vs (chain_end ns e)))) (instances rs [])
large_somewhere ns rs e = any_mapped (λ b. not (end_fits (end_value b e)))
    (λ vs. not (end_fits (end_number vs (chain_end ns e)))) (bound_inside [] ns)
    (λ vs. ap (λ z. not (end_fits z)) (end_law ns vs e)) (instances rs [])

pub empty_somewhere : (ns : BoundNames) (rs : List NestRange) (r : Range) →
    list_any (λ b. is_empty_range b r) (standing ns rs) ≡
    list_any (λ vs. is_nest_empty vs (chain_range ns r)) (instances rs [])
empty_somewhere ns rs r = any_mapped (λ b. is_empty_range b r) (λ vs. is_nest_empty vs (chain_range ns r))
    (bound_inside [] ns)
    (λ vs. ap (λ z. (end_fits z && end_fits (end_value (bound_inside [] ns vs) r.high)) &&
    int_lt (end_value (bound_inside [] ns vs) r.high) z) (end_law ns vs r.low)
    ∙ ap (λ z. (end_fits (end_number vs (chain_end ns r.low)) && end_fits z) && int_lt z
    (end_number vs (chain_end ns r.low)))
    (end_law ns vs r.high)) (instances rs [])

-- an answer about nested ranges is one about the bindings in which the list stands

pub large_found : (ns : BoundNames) (rs asked : List NestRange) (e : End) (nested : NestEnd) (b : Bool) → asked ≡ rs →
    nested ≡ chain_end ns e → b ≡ list_any (λ vs. not (end_fits (end_number vs nested))) (instances asked []) →
    b ≡ list_any (λ x. not (end_fits (end_value x e))) (standing ns rs)
large_found ns rs asked e nested b s n h =
    h ∙ ap (λ xs. list_any (λ vs. not (end_fits (end_number vs nested))) (instances xs [])) s
    ∙ ap (λ x. list_any (λ vs. not (end_fits (end_number vs x))) (instances rs [])) n ∙ sym (large_somewhere ns rs e)

pub empty_found : (ns : BoundNames) (rs asked : List NestRange) (r : Range) (nested : NestRange) (b : Bool) → asked
    ≡ rs →
    nested ≡ chain_range ns r → b ≡ list_any (λ vs. is_nest_empty vs nested) (instances asked []) →
    b ≡ list_any (λ x. is_empty_range x r) (standing ns rs)
empty_found ns rs asked r nested b s n h =
    h ∙ ap (λ xs. list_any (λ vs. is_nest_empty vs nested) (instances xs [])) s
    ∙ ap (λ x. list_any (λ vs. is_nest_empty vs x) (instances rs [])) n ∙ sym (empty_somewhere ns rs r)
