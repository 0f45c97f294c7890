-- Effects in instances of a statement.
use Rattle.std.proofs.Common.{◌≡◌, ℕ, ◌-◌, ◌≤◌, ℤ, pos, List, [], ◌∷◌, map, Bool, true}
use Rattle.std.proofs.Common.{false, Err, inl, inr, length, get_or, take}
use Rattle.std.proofs.Common.{drop, refl, sym, ap, ◌∙◌, arith}
use Rattle.std.proofs.lemmas.List.{take_rest}
use Rattle.unity_syntax.specs.declared.name.Name.{Name}
use Rattle.meaning_documents.specs.Names.{Bindings}
use Rattle.expand_rules.specs.declared.cores.Bound.{Bound}
use Rattle.expand_rules.specs.declared.effects.Effect.{Effect}
use Rattle.expand_rules.specs.Assigning.{nothing, beside, is_large_effect}
use Rattle.expand_assignments.proofs.EffectLaws.{tells, shows}
use Rattle.expand_statements.specs.Chains.{BoundNames, bound_inside}
use Rattle.expand_expressions.specs.declared.refusal.Refusal.{Refusal}
use Rattle.expand_assignments.specs.Adding.{StopsAdding}
use Rattle.expand_statements.specs.Visiting.{bounds_inside, GivesFlaws}
use denote.Bor.{Bor}

abbrev pub numbered : List ℕ × ℤ → List ℕ × Bound
numbered x = (x.0, Bound.Number x.1)

-- what is bound for the code is bound by numbers
pub bounds_numbered : (b : Bindings) (ns : BoundNames) (zs : List ℤ) →
    bounds_inside (map numbered b) ns zs ≡ map numbered (bound_inside b ns zs)
bounds_numbered b [] zs = refl
bounds_numbered b (n ∷ ns) [] = bounds_numbered ((n, pos 0) ∷ b) ns []
bounds_numbered b (n ∷ ns) (z ∷ zs) = bounds_numbered ((n, z) ∷ b) ns zs

abbrev pub texts : List (Bor Name) → BoundNames
texts names = map (λ n. n.now.text) names

-- the first name with the first number
pub bounds_first : (bs : List (List ℕ × Bound)) (names : List (Bor Name)) (zs : List ℤ) (n : Bor Name) (d : ℤ) →
    1 ≤ length names → 1 ≤ length zs → n ≡ get_or names 0 n →
    bounds_inside ((n.now.text, Bound.Number (get_or zs 0 d)) ∷ bs) (texts (take (length names - 1) (drop 1 names)))
    (take (length zs - 1) (drop 1 zs)) ≡ bounds_inside bs (texts names) zs
bounds_first bs [] zs n d h k e = absurd (let l : 1 ≤ 0 = h in omega arith)
bounds_first bs (m ∷ names) [] n d h k e = absurd (let l : 1 ≤ 0 = k in omega arith)
bounds_first bs (m ∷ names) (z ∷ zs) n d h k e =
    ap (λ (x : Bor Name). bounds_inside ((x.now.text, Bound.Number z) ∷ bs)
    (texts (take (length (m ∷ names) - 1) (drop 1 (m ∷ names)))) (take (length (z ∷ zs) - 1) (drop 1 (z ∷ zs)))) e
    ∙ ap (λ xs. bounds_inside ((m.now.text, Bound.Number z) ∷ bs) (texts xs)
    (take (length (z ∷ zs) - 1) (drop 1 (z ∷ zs))))
    (take_rest (m ∷ names) 1)
    ∙ ap (λ xs. bounds_inside ((m.now.text, Bound.Number z) ∷ bs) (texts names) xs) (take_rest (z ∷ zs) 1)

-- an effect put beside none is as large as it is

large_from : (e : Effect) → is_large_effect (beside nothing e) ≡ true → is_large_effect e ≡ true
large_from e h = elim ((tells (beside nothing e) h).large) [
  | inl s ↦ shows e (record { large = inl (omega (arith, s)) })
  | inr m ↦ shows e (record { large = inr (omega (arith, m)) })
]

large_to : (e : Effect) → is_large_effect e ≡ true → is_large_effect (beside nothing e) ≡ true
large_to e h = elim ((tells e h).large) [
  | inl s ↦ shows (beside nothing e) (record { large = inl (omega (arith, s)) })
  | inr m ↦ shows (beside nothing e) (record { large = inr (omega (arith, m)) })
]

pub same_large : (e : Effect) → is_large_effect (beside nothing e) ≡ is_large_effect e
same_large e = by (is_large_effect (beside nothing e)) (is_large_effect e) (large_from e) (large_to e)
  where
    by : (a b : Bool) → (a ≡ true → b ≡ true) → (b ≡ true → a ≡ true) → a ≡ b
    by true b f g = sym (f refl)
    by false true f g = g refl
    by false false f g = refl

-- the answers of an instance, by the effect that was put beside none

pub flaws_halt : (r : Refusal) (old made e : Effect) → old ≡ nothing → made ≡ e → StopsAdding r old made → GivesFlaws
    (Err r) e
flaws_halt Refusal.Memory old made e o m h = tt
flaws_halt Refusal.TooLarge old made e o m h =
    sym (same_large e) ∙ ap (λ x. is_large_effect (beside nothing x)) (sym m)
    ∙ ap (λ x. is_large_effect (beside x made)) (sym o) ∙ h

pub flaws_large : (old new made e : Effect) (b : Bool) → old ≡ nothing → made ≡ e → new ≡ beside old made →
    b ≡ is_large_effect new → b ≡ is_large_effect e
flaws_large old new made e b o m n h =
    h ∙ ap is_large_effect (n ∙ ap (λ x. beside x made) o ∙ ap (beside nothing) m) ∙ same_large e

pub flaws_found : (old new made e : Effect) → old ≡ nothing → made ≡ e → new ≡ beside old made →
    new.count.flaws ≡ e.count.flaws
flaws_found old new made e o m n =
    ap (λ (x : Effect). x.count.flaws) (n ∙ ap (λ x. beside x made) o ∙ ap (beside nothing) m)
