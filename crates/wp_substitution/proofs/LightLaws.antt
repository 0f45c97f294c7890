-- What fits weighs little, and so does what replaces it.
use Rattle.std.proofs.Common.{◌≡◌, ℕ, nat_eq, ◌*◌, ◌^◌, ◌≤◌, ℤ, List, [], ◌∷◌, All, Option, Some, None, sym, ap, ◌∙◌}
use Rattle.std.proofs.Common.{Bool, true, false, cond, arith}
use Rattle.std.proofs.Math.Nat.{mul-le-mul_left}
use Rattle.std.proofs.lemmas.List.Elements.{All-head, All-tail, All-weaker}
use Rattle.std.specs.Int.RustNames.{unsigned_abs}
use Rattle.std.specs.Option.{option_map}
use Rattle.std.specs.Prelude.{slice_get}
use Rattle.core_terms.specs.declared.trees.Range.{Range}
use Rattle.core_terms.specs.declared.trees.CTerm.{CTerm}
use Rattle.core_terms.specs.declared.trees.CTerm.TheVariants.{Scale, Slot, Param, rolls-Slot, rolls-Param}
use Rattle.core_terms.specs.declared.trees.CForm.{CForm}
use Rattle.core_terms.specs.declared.programs.CSlot.{CSlot}
use Rattle.core_terms.specs.declared.programs.CWrite.{CWrite}
use Rattle.core_terms.specs.declared.programs.CStmt.{CStmt}
use Rattle.core_terms.specs.Weights.{Weights, range_weight, slot_weight, place_weight, one_weight, plain_weights}
use Rattle.core_terms.specs.Weights.{plain_weight, multiple_weights, weighing}
use Rattle.core_terms.specs.Folding.{choice_term}
use Rattle.core_terms.specs.Conditions.{FormFits, TermFits, WriteFits, StatementFits}
use Rattle.core_terms.proofs.TreeFolds.{fold_term_is}
use Rattle.core_terms.proofs.LighterLaws.{and_lighter, choice_lighter, form_lighter}
use Rattle.core_terms.proofs.WeightLaws.{Lighter, own_within}
use Rattle.core_terms.proofs.ReplacingLaws.{weights-Scale}
use Rattle.wp_substitution.specs.Preconditions.{defined_form, slot_after, form_after, wp_form}
use Rattle.wp_substitution.specs.Joined.{IsLight, IsLightWrite}
use Rattle.wp_substitution.specs.Chains.{chain_weight, after_weights, after_weight}
use Rattle.core_terms.proofs.HeavierLaws.{form_scaled, term_scaled, weight_steps}

range_least : (r : Option Range) → 1 ≤ range_weight r
range_least None = omega arith
range_least (Some r) = omega arith

slot_least : (slots : List CSlot) (n : ℕ) → 1 ≤ 1 * slot_weight slots n
slot_least slots n = let h = range_least (option_map (λ s. s.range) (slice_get slots n)) in omega (arith, h)

param_least : (params : List Range) (n : ℕ) → 1 ≤ 1 * place_weight params n
param_least params n = let h = range_least (slice_get params n) in omega (arith, h)

-- what fits weighs at most 2^62 where slots and parameters weigh 1
pub form_light : (slots : List CSlot) (params : List Range) (f : CForm) → FormFits slots params f → IsLight f
form_light slots params f h =
    let less =
    form_scaled 1 one_weight one_weight (slot_weight slots) (place_weight params) (omega arith) (slot_least slots)
    (param_least params) f in
    omega (arith, less, h.weight)

term_light : (slots : List CSlot) (params : List Range) (t : CTerm) → TermFits slots params t →
    (plain_weights t).most ≤ 2 ^ 62
term_light slots params t h =
    let less =
    term_scaled 1 one_weight one_weight (slot_weight slots) (place_weight params) (omega arith) (slot_least slots)
    (param_least params) t in
    omega (arith, less.1, h.weight)

write_light : (slots : List CSlot) (w : CWrite) → WriteFits slots w → IsLightWrite w
write_light slots w h =
    let value = term_light slots [] w.value h.value in
    record {
      condition = form_light slots [] w.when h.condition;
      own = omega (arith, value, own_within one_weight one_weight w.value);
      most = value;
    }

pub outside_light : (slots : List CSlot) (s : CStmt) → StatementFits slots s → All IsLight s.outside
outside_light slots s h = All-weaker (FormFits slots []) IsLight (λ f k. form_light slots [] f k) s.outside h.outside

pub writes_light : (slots : List CSlot) (s : CStmt) → StatementFits slots s → All IsLightWrite s.writes
writes_light slots s h = All-weaker (WriteFits slots) IsLightWrite (λ w k. write_light slots w k) s.writes h.writes

-- the terms of slots weigh at most 2^62
pub after_light : (f : CForm) → plain_weight f ≤ 2 ^ 62 → after_weight f ≤ 2 ^ 124
after_light f h =
    let more =
    form_scaled (2 ^ 62) chain_weight one_weight one_weight one_weight (omega arith) (λ n. omega arith)
    (λ n. omega arith) f in
    omega (arith, more, h)

pub param_most : (n : ℕ) → (plain_weights (Param n)).most ≤ one_weight n
param_most n =
    let e : plain_weights (Param n) ≡ weighing 1 0 =
    fold_term_is (weight_steps one_weight one_weight) _ _ (rolls-Param n) in
    omega (arith, ap (λ (w : Weights). w.most) e)

-- what a slot holds after light writes weighs little
first_light : (b : Bool) (w : CWrite) (rest : CTerm) → IsLightWrite w →
    Lighter (plain_weights rest) (weighing (2 ^ 62) (2 ^ 62)) →
    Lighter (plain_weights (cond b (choice_term w.when w.value rest) rest)) (weighing (2 ^ 62) (2 ^ 62))
first_light true w rest light h =
    let k = choice_lighter one_weight one_weight w.when w.value rest (2 ^ 62) (weighing (2 ^ 62) (2 ^ 62))
    (weighing (2 ^ 62) (2 ^ 62)) light.condition (omega (arith, light.own), omega (arith, light.most)) h in
    (omega (arith, k.0), omega (arith, k.1))
first_light false w rest light h = h

slot_light : (ws : List CWrite) → All IsLightWrite ws → (n : ℕ) →
    Lighter (plain_weights (slot_after ws n)) (weighing (2 ^ 62) (2 ^ 62))
slot_light [] h n =
    let e : plain_weights (Slot n) ≡ weighing 1 0 =
    fold_term_is (weight_steps one_weight one_weight) _ _ (rolls-Slot n) in
    (omega (arith, ap (λ (w : Weights). w.own) e), omega (arith, ap (λ (w : Weights). w.most) e))
slot_light (w ∷ ws) h n =
    first_light (nat_eq w.slot n) w (slot_after ws n) (All-head IsLightWrite w ws h)
    (slot_light ws (All-tail IsLightWrite w ws h) n)

-- so does a weakest precondition
pub wp_light : (slots : List CSlot) (s : CStmt) (f : CForm) → All IsLightWrite s.writes → plain_weight f ≤ 2 ^ 62 →
    plain_weight (defined_form slots s) ≤ 2 ^ 65 → plain_weight (wp_form slots s f) ≤ 2 ^ 125
wp_light slots s f h w d =
    let less =
    form_lighter one_weight one_weight chain_weight one_weight (slot_after s.writes) (λ n. Param n)
    (λ n. let k = slot_light s.writes h n in omega (arith, k.1)) param_most f in
    let light = after_light f w in
    let joined =
    and_lighter one_weight one_weight (defined_form slots s) (form_after s.writes f) (2 ^ 65) (2 ^ 124) d
    (omega (arith, less, light)) in
    omega (arith, joined)

-- a multiple of a lighter term is lighter
pub multiple_lighter : (k l : ℤ) (a u : CTerm) → l ≡ k → (plain_weights u).own ≤ (after_weights a).own →
    unsigned_abs l * (plain_weights u).own ≤ unsigned_abs k * (after_weights a).own
multiple_lighter k l a u f h =
    let part : unsigned_abs k * (plain_weights u).own ≤ unsigned_abs k * (after_weights a).own =
    mul-le-mul_left (unsigned_abs k) h in
    let same : unsigned_abs l * (plain_weights u).own ≡ unsigned_abs k * (plain_weights u).own =
    ap (λ z. unsigned_abs z * (plain_weights u).own) f in
    omega (arith, part, same)

pub multiple_is : (k l : ℤ) (t a : CTerm) → t ≡ Scale k a → l ≡ k →
    after_weights t ≡ multiple_weights l (after_weights a)
multiple_is k l t a e f =
    ap after_weights e
    ∙ weights-Scale chain_weight one_weight k a
    ∙ ap (λ z. multiple_weights z (after_weights a)) (sym f)
