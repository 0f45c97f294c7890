-- One more list inside lists: the bindings in which its items stand.
use Rattle.std.proofs.Common.{◌≡◌, ℕ, suc, ◌+◌, ℤ, List, [], ◌∷◌, ◌++◌, map, Option, Some, None, MatchOption, length}
use Rattle.std.proofs.Common.{append-nil, refl, sym, ap, ◌∙◌, arith}
use Rattle.std.specs.List.{flat_map}
use Rattle.std.proofs.lemmas.Grind.{flat_map-append}
use Rattle.std.proofs.lemmas.List.{map-append}
use Rattle.std.proofs.lemmas.List.Folds.{flat_map-map}
use Rattle.unity_syntax.specs.declared.name.Range.{Range}
use Rattle.meaning_documents.specs.Names.{Bindings}
use Rattle.expand_counting.specs.declared.ranges.NestRange.{NestRange}
use Rattle.expand_counting.specs.Nests.{instances, range_numbers}
use Rattle.expand_rules.specs.Forming.{fit_values}
use Rattle.expand_rules.specs.Lists.{inside}
use Rattle.expand_statements.specs.Chains.{BoundNames, chain_range, bound_inside, standing}
use Rattle.unity_syntax.specs.declared.name.Name.{Name}
use Rattle.expand_statements.specs.declared.chains.Chain.{Chain}
use Rattle.expand_statements.specs.Standing.{names_of, standing_in, IsInside}
use denote.Bor.{Bor}
use Rattle.expand_statements.proofs.EndLaws.{range_law}

flat_map-flat_map : {A B C : Type 0} (f : B → List C) (g : A → List B) (xs : List A) →
    flat_map f (flat_map g xs) ≡ flat_map (λ x. flat_map f (g x)) xs
flat_map-flat_map f g [] = refl
flat_map-flat_map f g (x ∷ xs) =
    flat_map-append f (g x) (flat_map g xs) ∙ ap (λ ys. flat_map f (g x) ++ ys) (flat_map-flat_map f g xs)

map-flat_map : {A B C : Type 0} (f : B → C) (g : A → List B) (xs : List A) →
    map f (flat_map g xs) ≡ flat_map (λ x. map f (g x)) xs
map-flat_map f g [] = refl
map-flat_map f g (x ∷ xs) = map-append f (g x) (flat_map g xs) ∙ ap (λ ys. map f (g x) ++ ys) (map-flat_map f g xs)

map-map : {A B C : Type 0} (f : B → C) (g : A → B) (xs : List A) → map f (map g xs) ≡ map (λ x. f (g x)) xs
map-map f g [] = refl
map-map f g (x ∷ xs) = ap (λ ys. f (g x) ∷ ys) (map-map f g xs)

map_same : {A B : Type 0} (f g : A → B) → ((x : A) → f x ≡ g x) → (xs : List A) → map f xs ≡ map g xs
map_same f g h [] = refl
map_same f g h (x ∷ xs) = ap (λ y. y ∷ map f xs) (h x) ∙ ap (λ ys. g x ∷ ys) (map_same f g h xs)

flat_map_same : {A B : Type 0} (f g : A → List B) → ((x : A) → f x ≡ g x) → (xs : List A) → flat_map f xs ≡ flat_map
    g xs
flat_map_same f g h [] = refl
flat_map_same f g h (x ∷ xs) = ap (λ ys. ys ++ flat_map f xs) (h x) ∙ ap (λ ys. g x ++ ys) (flat_map_same f g h xs)

singles : (vs : List ℤ) (zs : List ℤ) → flat_map (λ z. (vs ++ z ∷ []) ∷ []) zs ≡ map (λ z. vs ++ z ∷ []) zs
singles vs [] = refl
singles vs (z ∷ zs) = ap (λ ys. (vs ++ z ∷ []) ∷ ys) (singles vs zs)

-- each instance with each number of a further range
abbrev extended : NestRange → List ℤ → List (List ℤ)
extended r us = map (λ z. us ++ z ∷ []) (range_numbers us r)

instances_last : (rs : List NestRange) (r : NestRange) (vs : List ℤ) →
    instances (rs ++ r ∷ []) vs ≡ flat_map (extended r) (instances rs vs)
instances_last [] r vs = singles vs (range_numbers vs r) ∙ sym (append-nil (extended r vs))
instances_last (s ∷ rs) r vs =
    flat_map_same (λ z. instances (rs ++ r ∷ []) (vs ++ z ∷ []))
    (λ z. flat_map (extended r) (instances rs (vs ++ z ∷ [])))
    (λ z. instances_last rs r (vs ++ z ∷ [])) (range_numbers vs s)
    ∙ sym (flat_map-flat_map (extended r) (λ z. instances rs (vs ++ z ∷ [])) (range_numbers vs s))

length_more : (us : List ℤ) (z : ℤ) → length (us ++ z ∷ []) ≡ suc (length us)
length_more [] z = refl
length_more (u ∷ us) z = ap suc (length_more us z)

-- what is the same for lists of as many numbers is the same over instances
same_over : {B : Type 0} (rs : List NestRange) (k : ℕ) (f g : List ℤ → List B) →
    ((us : List ℤ) → length us ≡ k → f us ≡ g us) → (vs : List ℤ) → length vs + length rs ≡ k →
    flat_map f (instances rs vs) ≡ flat_map g (instances rs vs)
same_over [] k f g h vs e = ap (λ ys. ys ++ []) (h vs (let z : length vs ≡ length vs + 0 = omega arith in z ∙ e))
same_over (r ∷ rs) k f g h vs e =
    flat_map-flat_map f (λ z. instances rs (vs ++ z ∷ [])) (range_numbers vs r)
    ∙ flat_map_same (λ z. flat_map f (instances rs (vs ++ z ∷ []))) (λ z. flat_map g (instances rs (vs ++ z ∷ [])))
    (λ z. same_over rs k f g h (vs ++ z ∷ [])
    (let m = length_more vs z in let n : length vs + suc (length rs) ≡ k = e in omega arith)) (range_numbers vs r)
    ∙ sym (flat_map-flat_map g (λ z. instances rs (vs ++ z ∷ [])) (range_numbers vs r))

bound_last : (b : Bindings) (ns : BoundNames) (n : List ℕ) (us : List ℤ) (z : ℤ) → length us ≡ length ns →
    bound_inside b (ns ++ n ∷ []) (us ++ z ∷ []) ≡ (n, z) ∷ bound_inside b ns us
bound_last b [] n [] z e = refl
bound_last b [] n (u ∷ us) z e = absurd (let l : suc (length us) ≡ 0 = e in omega arith)
bound_last b (m ∷ ns) n [] z e = absurd (let l : 0 ≡ suc (length ns) = e in omega arith)
bound_last b (m ∷ ns) n (u ∷ us) z e =
    bound_last ((m, u) ∷ b) ns n us z (let l : suc (length us) ≡ suc (length ns) = e in omega arith)

-- the bindings in which the items of one more list stand
pub standing_inside : (ns : BoundNames) (rs : List NestRange) (n : List ℕ) (r : Range) → length ns ≡ length rs →
    standing (ns ++ n ∷ []) (rs ++ chain_range ns r ∷ []) ≡ inside n r (standing ns rs)
standing_inside ns rs n r e =
    ap (map (bound_inside [] (ns ++ n ∷ []))) (instances_last rs (chain_range ns r) [])
    ∙ map-flat_map (bound_inside [] (ns ++ n ∷ [])) (extended (chain_range ns r)) (instances rs [])
    ∙ same_over rs (length ns) (λ us. map (bound_inside [] (ns ++ n ∷ [])) (extended (chain_range ns r) us))
    (λ us. map (λ z. (n, z) ∷ bound_inside [] ns us) (fit_values (bound_inside [] ns us) r))
    (λ us l. map-map (bound_inside [] (ns ++ n ∷ [])) (λ z. us ++ z ∷ []) (range_numbers us (chain_range ns r))
    ∙ map_same (λ z. bound_inside [] (ns ++ n ∷ []) (us ++ z ∷ [])) (λ z. (n, z) ∷ bound_inside [] ns us)
    (λ z. bound_last [] ns n us z l) (range_numbers us (chain_range ns r))
    ∙ ap (map (λ z. (n, z) ∷ bound_inside [] ns us)) (sym (range_law ns us r)))
    [] (let z : 0 + length rs ≡ length rs = omega arith in z ∙ sym e)
    ∙ sym (flat_map-map (λ b. map (λ z. (n, z) ∷ b) (fit_values b r)) (bound_inside [] ns) (instances rs []))

-- chains

pub same_chain : (c d : Chain) → c.names ≡ d.names → c.ranges ≡ d.ranges → c ≡ d
same_chain c d n r =
    let first : c ≡ record { names = d.names; ranges = c.ranges } =
    ap (λ (ns : List (Bor Name)). let made : Chain = record { names = ns; ranges = c.ranges } in made) n in
    let second : record { names = d.names; ranges = c.ranges } ≡ d =
    ap (λ (rs : List NestRange). let made : Chain = record { names = d.names; ranges = rs } in made) r in
    first ∙ second

same_front : {A : Type 0} (xs ys : List A) (x y : A) → xs ++ x ∷ [] ≡ ys ++ y ∷ [] → xs ≡ ys
same_front [] [] x y e = refl
same_front [] (b ∷ []) x y e = cc
same_front [] (b ∷ (c ∷ ys)) x y e = cc
same_front (a ∷ []) [] x y e = cc
same_front (a ∷ (c ∷ xs)) [] x y e = cc
same_front (a ∷ xs) (b ∷ ys) x y e =
    let h : a ≡ b = cc in
    let t : xs ++ x ∷ [] ≡ ys ++ y ∷ [] = cc in
    ap (λ v. v ∷ xs) h ∙ ap (λ vs. b ∷ vs) (same_front xs ys x y t)

popped : {A : Type 0} (o : Option A) (old new outer : List A) (x : A) →
    MatchOption o ((old ≡ []) × (new ≡ [])) (λ last. old ≡ new ++ last ∷ []) → old ≡ outer ++ x ∷ [] → new ≡ outer
popped None old new [] x m e = m.1
popped None old new (y ∷ outer) x m e = absurd (none (sym m.0 ∙ e))
  where
    none : [] ≡ y ∷ (outer ++ x ∷ []) → ⊥
    none h = cc
popped (Some last) old new outer x m e = same_front new outer last x (sym m ∙ e)

-- after the last of both lists is taken out, the outer chain is left
pub left_chain : (outer inner now : Chain) (n : Option (Bor Name)) (r : Option NestRange) → IsInside outer inner →
    MatchOption n ((inner.names ≡ []) × (now.names ≡ [])) (λ last. inner.names ≡ now.names ++ last ∷ []) →
    MatchOption r ((inner.ranges ≡ []) × (now.ranges ≡ [])) (λ last. inner.ranges ≡ now.ranges ++ last ∷ []) →
    now ≡ outer
left_chain outer inner now n r i p q =
    same_chain now outer (popped n inner.names now.names outer.names i.name p i.names)
    (popped r inner.ranges now.ranges outer.ranges i.range q i.ranges)

map_more : (ns : List (Bor Name)) (n : Bor Name) → map (λ (x : Bor Name). x.now.text) (ns ++ n ∷ []) ≡
    map (λ (x : Bor Name). x.now.text) ns ++ n.now.text ∷ []
map_more ns n = map-append (λ (x : Bor Name). x.now.text) ns (n ∷ [])

map_length : {A B : Type 0} (f : A → B) (xs : List A) → length (map f xs) ≡ length xs
map_length f [] = refl
map_length f (x ∷ xs) = ap suc (map_length f xs)

-- the bindings in a chain with one more list
pub standing_entered : (outer inner : Chain) (n : Bor Name) (r : Range) → length outer.names ≡ length outer.ranges →
    inner.names ≡ outer.names ++ n ∷ [] → inner.ranges ≡ outer.ranges ++ chain_range (names_of outer) r ∷ [] →
    standing_in inner ≡ inside n.now.text r (standing_in outer)
standing_entered outer inner n r l e f =
    ap (λ ns. standing ns inner.ranges) (ap (map (λ (x : Bor Name). x.now.text)) e ∙ map_more outer.names n)
    ∙ ap (standing (names_of outer ++ n.now.text ∷ [])) f
    ∙ standing_inside (names_of outer) outer.ranges n.now.text r
    (map_length (λ (x : Bor Name). x.now.text) outer.names ∙ l)
