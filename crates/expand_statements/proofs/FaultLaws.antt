-- The fault of a statement, from one instance to the next, and faults in a row.
use Rattle.std.proofs.Common.{◌≡◌, ℕ, zero, suc, ◌+◌, ◌<◌, ◌≤◌, ℤ, List, [], ◌∷◌, map, drop, get_or, length}
use Rattle.std.proofs.Common.{true, false, cond, ◌||◌, Option, Some, None, Result, Ok, Err, refl, sym, ap, ◌∙◌}
use Rattle.std.proofs.Common.{arith}
use Rattle.std.proofs.Math.Seq.{drop-cons}
use Rattle.std.specs.List.{list_any}
use Rattle.case_tables.specs.declared.code_table.Code.{Code}
use Rattle.unity_syntax.specs.declared.name.Name.{Name}
use Rattle.meaning_documents.specs.Names.{Bindings}
use Rattle.expand_counting.specs.declared.ranges.NestRange.{NestRange}
use Rattle.expand_counting.specs.Nests.{instances}
use Rattle.expand_statements.specs.Chains.{BoundNames, bound_inside, standing}
use Rattle.names_rules.specs.declared.named.NameFault.{NameFault}
use Rattle.names_rules.specs.Reading.{Fault, earlier}
use Rattle.names_rules.specs.Answers.{Demands}
use Rattle.expand_rules.specs.declared.effects.Effect.{Effect}
use Rattle.expand_rules.specs.declared.cores.Flaws.{Flaws}
use Rattle.expand_rules.specs.Measures.{both_flaws}
use Rattle.expand_rules.specs.Assigning.{is_large_effect}
use Rattle.expand_rules.specs.Lists.{flaws_fault, all_flaws, statement_fault}
use Rattle.expand_rules.proofs.FlawLaws.{flaws_assoc}

-- the fault of a statement of which some instances were seen already, in which this failed
abbrev pub fault_from : Name → Flaws → List Effect → Option Fault
fault_from label before es = cond (list_any is_large_effect es) (Some (record { code = Code.TooLarge; at = label.at }))
    (flaws_fault (both_flaws before (all_flaws es)))

from_next : (label : Name) (before : Flaws) (e : Effect) (es : List Effect) → is_large_effect e ≡ false →
    fault_from label before (e ∷ es) ≡ fault_from label (both_flaws before e.count.flaws) es
from_next label before e es h =
    ap (λ b. cond (b || list_any is_large_effect es) (Some (record { code = Code.TooLarge; at = label.at }))
    (flaws_fault (both_flaws before (both_flaws e.count.flaws (all_flaws es))))) h
    ∙ ap (λ p. cond (list_any is_large_effect es) (Some (record { code = Code.TooLarge; at = label.at }))
    (flaws_fault p)) (flaws_assoc before e.count.flaws (all_flaws es))

-- the fault of what is left of a list, from one item to the next
pub fault_next : {X : Type 0} (f : X → Effect) (label : Name) (xs : List X) (i : ℕ) (d : X) (before found : Flaws)
    (whole : Option Fault) → i < length xs → d ≡ get_or xs i d → whole ≡ fault_from label before (map f (drop i xs)) →
    is_large_effect (f d) ≡ false → found ≡ (f d).count.flaws →
    whole ≡ fault_from label (both_flaws before found) (map f (drop (i + 1) xs))
fault_next f label xs i d before found whole h e w l p =
    let next : suc i ≡ i + 1 = omega arith in
    w ∙ ap (λ ys. fault_from label before (map f ys)) (drop-cons xs i d h)
    ∙ ap (λ y. fault_from label before (f y ∷ map f (drop (suc i) xs))) (sym e)
    ∙ from_next label before (f d) (map f (drop (suc i) xs)) l
    ∙ ap (λ q. fault_from label (both_flaws before q) (map f (drop (suc i) xs))) (sym p)
    ∙ ap (λ j. fault_from label (both_flaws before found) (map f (drop j xs))) next

pub fault_large : {X : Type 0} (f : X → Effect) (label : Name) (xs : List X) (i : ℕ) (d : X) (before : Flaws)
    (whole : Option Fault) → i < length xs → d ≡ get_or xs i d → whole ≡ fault_from label before (map f (drop i xs)) →
    is_large_effect (f d) ≡ true → whole ≡ Some (record { code = Code.TooLarge; at = label.at })
fault_large f label xs i d before whole h e w l =
    w ∙ ap (λ ys. fault_from label before (map f ys)) (drop-cons xs i d h)
    ∙ ap (λ y. fault_from label before (f y ∷ map f (drop (suc i) xs))) (sym e)
    ∙ ap (λ b. cond (b || list_any is_large_effect (map f (drop (suc i) xs)))
    (Some (record { code = Code.TooLarge; at = label.at }))
    (flaws_fault (both_flaws before (all_flaws (f d ∷ map f (drop (suc i) xs)))))) l

none_left : {X : Type 0} (xs : List X) (i : ℕ) → length xs ≤ i → drop i xs ≡ []
none_left [] zero h = refl
none_left [] (suc i) h = refl
none_left (x ∷ xs) zero h = absurd (let l : suc (length xs) ≤ 0 = h in omega arith)
none_left (x ∷ xs) (suc i) h = none_left xs i (let l : suc (length xs) ≤ suc i = h in omega arith)

-- faults in a row

pub demands_second : (r : Result (Unit {0}) NameFault) (f g : Option Fault) → f ≡ None → Demands r g →
    Demands r (earlier f g)
demands_second (Ok t) f g h d = ap (λ y. earlier y g) h ∙ d
demands_second (Err NameFault.Memory) f g h d = d
demands_second (Err (NameFault.Fault code at)) f g h d = ap (λ y. earlier y g) h ∙ d

map-map : {A B C : Type 0} (f : B → C) (g : A → B) (xs : List A) → map f (map g xs) ≡ map (λ x. f (g x)) xs
map-map f g [] = refl
map-map f g (x ∷ xs) = ap (λ ys. f (g x) ∷ ys) (map-map f g xs)

-- the fault of a statement over the instances that were listed
pub fault_standing : (made : Bindings → Effect) (label : Name) (ns ns' : BoundNames) (rs rs' : List NestRange)
    (xs : List (List ℤ)) → ns' ≡ ns → rs' ≡ rs → xs ≡ instances rs' [] →
    statement_fault label (map (λ vs. made (bound_inside [] ns' vs)) xs) ≡
    statement_fault label (map made (standing ns rs))
fault_standing made label ns ns' rs rs' xs n r x =
    ap (λ ks. statement_fault label (map (λ vs. made (bound_inside [] ks vs)) xs)) n
    ∙ ap (λ ys. statement_fault label (map (λ vs. made (bound_inside [] ns vs)) ys))
    (x ∙ ap (λ qs. instances qs []) r)
    ∙ ap (statement_fault label) (sym (map-map made (bound_inside [] ns) (instances rs [])))
