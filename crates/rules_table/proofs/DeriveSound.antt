-- The record that a term gives stands.
use Rattle.std.proofs.Common.{◌≡◌, ℕ, zero, suc, ◌<◌, ℤ, List, [], ◌∷◌, ◌++◌, map, ◌&&◌, IsTrue, refl, sym, subst}
use Rattle.std.proofs.Common.{length, arith}
use Rattle.std.proofs.lemmas.Int.{ints}
use Rattle.std.specs.Int.RustNames.{int_le}
use Rattle.core_terms.proofs.BoolLaws.{le_passes}
use Rattle.core_terms.proofs.FrameLaws.{form_frame}
use Rattle.core_terms.specs.Conditions.{bound_ranges}
use Rattle.core_terms.specs.Values.{number_at}
use Rattle.core_terms.specs.declared.trees.CForm.{CForm}
use Rattle.core_terms.specs.declared.trees.Range.{Range}
use Rattle.layer_laws.specs.from_meaning_laws.Stands.{LeadsStands}
use Rattle.fair_rounds.specs.Records.{holding, are_in_ranges, meets, Stands}
use Rattle.fair_rounds.specs.from_executor.CoreSystem.{core_system}
use Rattle.rules_table.proofs.CalcSound.{like}
use Rattle.rules_table.proofs.NumberLaws.{same_length}
use Rattle.rules_table.proofs.SiteLaws.{went_on, concluded_is}
use Rattle.rules_table.proofs.TermSound.{term_sound}
use Rattle.rules_table.specs.Conclusion.{Conclusion}
use Rattle.rules_table.specs.Sound.{NamesBelow, AreFull, DeriveSound}
use Rattle.rules_table.specs.Table.{concluded, under_with}
use Rattle.rules_table.specs.Terms.{derive_of, term_of, all_ranges, leads_record}
use Rattle.rules_table.specs.Validity.{AllValid}
use Rattle.rules_table.specs.declared.led.Led.{Led}
use Rattle.meaning_states.proofs.StepTheorems.{and_left, and_right, both_true}

abbrev pub lows : List Range → List ℤ
lows rs = map (λ (r : Range). r.lo) rs

pub lows_in : (rs : List Range) → AreFull rs → IsTrue (are_in_ranges rs (lows rs))
lows_in [] full = refl
lows_in (r ∷ rs) full =
    both_true (int_le r.lo r.lo && int_le r.lo r.hi) (are_in_ranges rs (lows rs))
    (both_true (int_le r.lo r.lo) (int_le r.lo r.hi) (le_passes r.lo r.lo (omega (arith, ints))) full.0)
    (lows_in rs full.1)

pub both_in : (rs more : List Range) (e d : List ℤ) → IsTrue (are_in_ranges rs e) → IsTrue (are_in_ranges more d) →
    IsTrue (are_in_ranges (rs ++ more) (e ++ d))
both_in [] more [] d h k = k
both_in [] more (z ∷ e) d h k = cc
both_in (r ∷ rs) more [] d h k = cc
both_in (r ∷ rs) more (z ∷ e) d h k =
    both_true (int_le r.lo z && int_le z r.hi) (are_in_ranges (rs ++ more) (e ++ d))
    (and_left (int_le r.lo z && int_le z r.hi) (are_in_ranges rs e) h)
    (both_in rs more e d (and_right (int_le r.lo z && int_le z r.hi) (are_in_ranges rs e) h) k)

pub in_front : (e d : List ℤ) (n : ℕ) → n < length e → number_at (e ++ d) n ≡ number_at e n
in_front [] d n h = absurd (omega arith)
in_front (z ∷ e) d zero h = refl
in_front (z ∷ e) d (suc n) h = let inner : n < length e = omega arith in in_front e d n inner

-- a formula that names the step's parameters alone is worth the same, whatever the bound names are
same_test : (params : List Range) (e d : List ℤ) (f : CForm) → IsTrue (are_in_ranges params e) →
    NamesBelow (length params) f → holding (e ++ d) f ≡ holding e f
same_test params e d f inside few = λ i s. form_frame s (e ++ d) e f (λ n t.
    let less = few n t in let long = same_length params e inside in in_front e d n (omega (arith, less, long))) i

pub derive_sound : DeriveSound
unfolding derive_of
derive_sound site good book stands t well full d e few_p few_q valid =
    let part = went_on (term_of site (all_ranges site t) book t) (λ l. concluded site.slots (all_ranges site t)
    (leads_record site l) l.forms) d e in
    let l : Led = part.0 in
    let is = concluded_is site.slots (all_ranges site t) (leads_record site l) l.forms d part.2 in
    let of_p : NamesBelow (length site.params) l.p =
    subst (λ (x : Conclusion). NamesBelow (length site.params) x.made.p) is few_p in
    let of_q : NamesBelow (length site.params) l.q =
    subst (λ (x : Conclusion). NamesBelow (length site.params) x.made.q) is few_q in
    let shown = subst (λ (x : Conclusion). AllValid site.slots x.goals) is valid in
    subst (λ (x : Conclusion). Stands site.slots site.program x.made) (sym is)
    (λ n inside.
    let more : List ℤ = lows (bound_ranges t) in
    let led = term_sound site good book stands t (all_ranges site t) well l part.1 shown (n ++ more)
    (both_in site.params (bound_ranges t) n more inside (lows_in (bound_ranges t) full)) in
    like (λ p q. LeadsStands (core_system site.slots site.program) (meets site.slots (under_with site l.under)) p q
    l.bound)
    (holding (n ++ more) l.p) (holding n l.p) (holding (n ++ more) l.q) (holding n l.q)
    (same_test site.params n more l.p inside of_p) (same_test site.params n more l.q inside of_q) led)
