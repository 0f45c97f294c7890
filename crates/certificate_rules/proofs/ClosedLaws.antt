-- What a node makes of a closed branch is closed.
use Rattle.std.proofs.Common.{◌≡◌, ℕ, zero, suc, nat_lt, nat_le, ℤ, pos, ◌+ℤ◌, ◌*ℤ◌, Bool, true, false, cond, ◌&&◌}
use Rattle.std.proofs.Common.{Option, Some, None, Result, Ok, Err, List, [], ◌∷◌, map, length, slice_get, arith, refl}
use Rattle.std.proofs.Common.{ap, ◌∙◌, subst, ◌||◌}
use Rattle.std.specs.Prelude.{remove}
use Rattle.obligations.specs.from_case_tables.declared.code_table.Code.{Code}
use Rattle.obligations.specs.from_core_terms.declared.trees.CTerm.{CTerm}
use Rattle.obligations.specs.from_core_terms.declared.trees.CForm.{CForm, out-CForm, fold_out-CForm}
use Rattle.obligations.specs.from_core_terms.declared.trees.CForm.TheFolds.{map-CForm}
use Rattle.obligations.specs.from_core_terms.declared.trees.CForm.TheOpen.{CForm-F}
use Rattle.obligations.specs.declared.branches.Branch.{Branch}
use Rattle.obligations.specs.declared.branches.Fact.{Fact}
use Rattle.obligations.specs.declared.branches.Line.{Line}
use Rattle.obligations.specs.declared.branches.Variable.{Variable}
use Rattle.obligations.specs.declared.certificates.Node.{Node}
use Rattle.obligations.specs.Closed.{NamesOnly, Waits, AllWait, IsClosed}
use Rattle.obligations.specs.LinearForms.{fact_of, line_of_const}
use Rattle.obligations.specs.Opening.{at_most, at_least}
use Rattle.obligations.specs.Quotients.{is_either}
use Rattle.obligations.specs.Reach.{is_within}
use Rattle.obligations.specs.Settling.{added, sides, sides_in, without}
use Rattle.obligations.specs.Variables.{has_step, part_has, term_has, form_has}
use Rattle.obligations.proofs.ClosedLaws.{closed-joined, line-within, settled-closed}
use Rattle.obligations.proofs.LineLaws.{length-zeros, length-add_at}
use Rattle.certificate_rules.specs.Sums.{all_pairs, no_sum, divided, is_divisible, is_false, stated, below_0}
use Rattle.certificate_rules.specs.Sums.{variable_step}
use Rattle.certificate_rules.specs.Refutation.{NodeEffect, fails, opens, made_case, made_sum, made_round, made_share}
use Rattle.certificate_rules.specs.Refutation.{made_by}
use Rattle.certificate_rules.proofs.RefutationLaws.{IsOld, total-size}
use Rattle.certificate_rules.proofs.SumLaws.{pairs-keep, added-variable}

module _ (us : List Variable) where
  -- branches that are closed over the same variables as the one from which they come
  pub record Stays (n : ℕ) (b : Branch) : Type 0 where
    pub closed : IsClosed us b
    pub added : b.added ≡ n

  abbrev pub AllStay : ℕ → List Branch → Type 0
  AllStay n [] = Unit {0}
  AllStay n (b ∷ bs) = Stays n b × AllStay n bs

  pub wait-get : (fs : List CForm) (k : ℕ) (f : CForm) → slice_get fs k ≡ Some f → AllWait us fs → Waits us f
  wait-get [] k f e h = absurd (cc)
  wait-get (g ∷ fs) zero f e h = let s : g ≡ f = cc in subst (Waits us) s h.0
  wait-get (g ∷ fs) (suc k) f e h = wait-get fs k f e h.1

  wait-remove : (fs : List CForm) (k : ℕ) → AllWait us fs → AllWait us (remove fs k)
  wait-remove [] zero h = tt
  wait-remove [] (suc k) h = tt
  wait-remove (f ∷ fs) zero h = h.1
  wait-remove (f ∷ fs) (suc k) h = (h.0, wait-remove fs k h.1)

  pub closed-without : (b : Branch) (k : ℕ) → IsClosed us b → IsClosed us (without b k)
  closed-without b k h = record { facts = h.facts; waiting = wait-remove b.waiting k h.waiting }

  pub closed-added : (b : Branch) (f : Fact) → is_within (length us) f.factors ≡ true → IsClosed us b →
      IsClosed us (added b f)
  closed-added b f w h =
      closed-joined us b (record { facts = f ∷ []; waiting = []; added = 0 }) h
      (record { facts = ap (λ x. x && true) w; waiting = tt })

  or_left : (a b : Bool) → a ≡ true → (a || b) ≡ true
  or_left true b e = refl
  or_left false b e = cc

  or_right : (a b : Bool) → b ≡ true → (a || b) ≡ true
  or_right true b e = refl
  or_right false b e = e

  pub side-names : (f : CForm) (x : CForm-F CForm CTerm) → out-CForm f ≡ x → NamesOnly us f →
      NamesOnly us (sides_in f x).0 × NamesOnly us (sides_in f x).1
  side-names f CForm-F.Top e h = (h, h)
  side-names f CForm-F.Bottom e h = (h, h)
  side-names f (CForm-F.AtLeast t) e h = (h, h)
  side-names f (CForm-F.Zero t) e h = (h, h)
  side-names f (CForm-F.Not g) e h = (h, h)
  side-names f (CForm-F.And g k) e h = (h, h)
  side-names f (CForm-F.Or g k) e h = (
    λ param n q. h param n (has param n ∙ or_left _ _ q),
    λ param n q. h param n (has param n ∙ or_right _ _ q),
  )
    where
      has : (param : Bool) (n : ℕ) → form_has param n f ≡ (form_has param n g || form_has param n k)
      has param n =
          fold_out-CForm Bool Bool part_has (has_step param n) f
          ∙ ap (λ x. part_has (map-CForm CForm CTerm Bool Bool (form_has param n) (term_has param n) x)) e

  abbrev pub Stay : ℕ → NodeEffect → Type 0
  Stay n (fails c) = Unit {0}
  Stay n (opens bs) = AllStay n bs

  stay-if : (n : ℕ) (t : Bool) (bs : List Branch) (c : Code) → (t ≡ true → AllStay n bs) →
      Stay n (cond t (opens bs) (fails c))
  stay-if n true bs c h = h refl
  stay-if n false bs c h = tt

  case-stays : (b : Branch) (k : ℕ) (o : Option CForm) → slice_get b.waiting k ≡ o → IsClosed us b →
      Stay b.added (made_case us b k o)
  case-stays b k None e h = tt
  case-stays b k (Some f) e h =
      let w = wait-get b.waiting k f e h.waiting in
      let s = side-names f (out-CForm f) refl w.names in
      let c = closed-without b k h in
      stay-if b.added (is_either f) _ Code.NothingToCase (λ i. (
        record { closed = settled-closed us (sides f).0 (without b k) s.0 c; added = refl },
        (record { closed = settled-closed us (sides f).1 (without b k) s.1 c; added = refl }, tt),
      ))

  fact-stays : (b : Branch) (f : Fact) → is_within (length us) f.factors ≡ true → IsClosed us b →
      Stays b.added (added b f)
  fact-stays b f w h = record { closed = closed-added b f w h; added = refl }

  length-map : {A B : Type 0} (f : A → B) (xs : List A) → length (map f xs) ≡ length xs
  length-map f [] = refl
  length-map f (x ∷ xs) = ap suc (length-map f xs)

  round-stays : (b : Branch) (d : ℤ) (ps : List (ℤ × ℕ)) (r : Result Line Code) → all_pairs us b.facts ps ≡ r →
      IsClosed us b → Stay b.added (made_round b d r)
  round-stays b d ps (Err c) q h = tt
  round-stays b d ps (Ok l) q h =
      stay-if b.added (is_divisible d l) _ Code.NotDivisible (λ i. (
        fact-stays b (fact_of (divided d l)) (line-within us (divided d l) (length-map _ l.factors
            ∙ total-size us b.facts ps (no_sum us) l refl q)) h,
        tt,
      ))

  sum-stays : (n : ℕ) (r : Result Line Code) → Stay n (made_sum r)
  sum-stays n (Err c) = tt
  sum-stays n (Ok l) = stay-if n (is_false l) [] Code.BadSum (λ i. tt)

  stated-long : (c : ℤ) (ps : List (ℤ × ℕ)) (l : Line) → stated us c ps ≡ Ok l → length l.factors ≡ length us
  stated-long c ps l e =
      pairs-keep variable_step (λ x. length x.factors ≡ length us) (λ p x y h q.
      let a = added-variable p.0 p.1 x y q in
      ap (λ (z : Line). length z.factors) a.sum ∙ length-add_at x.factors a.place (p.0 *ℤ pos 1) ∙ h)
      ps (line_of_const us c) l (length-zeros us) e

  share-stays : (b : Branch) (c : ℤ) (ps : List (ℤ × ℕ)) (r : Result Line Code) → stated us c ps ≡ r →
      IsClosed us b → Stay b.added (made_share b r)
  share-stays b c ps (Err e) q h = tt
  share-stays b c ps (Ok l) q h =
      let long = stated-long c ps l q in (
        fact-stays b (fact_of (below_0 l)) (line-within us (below_0 l) (length-map _ l.factors ∙ long)) h,
        (fact-stays b (fact_of l) (line-within us l long) h, tt),
      )

  split-stays : (b : Branch) (v : ℕ) (k : ℤ) (t : Bool) → nat_lt v (length us) ≡ t → IsClosed us b →
      Stay b.added (cond t (opens (added b (at_most v k) ∷ added b (at_least v (k +ℤ pos 1)) ∷ []))
      (fails Code.NoSuchVariable))
  split-stays b v k false e h = tt
  split-stays b v k true e h =
      let w : is_within (length us) ((v, pos 1) ∷ []) ≡ true = below v (length us) e in
      (fact-stays b (at_most v k) w h, (fact-stays b (at_least v (k +ℤ pos 1)) w h, tt))
    where
      below : (a n : ℕ) → nat_lt a n ≡ true → (nat_le (suc a) n && true) ≡ true
      below a n q = grind arith

  -- all nodes but `quot`
  pub old-stays : (b : Branch) (n : Node) → IsOld n → IsClosed us b → Stay b.added (made_by us b n)
  old-stays b (Node.Case zero) i h = tt
  old-stays b (Node.Case (suc k)) i h = case-stays b k (slice_get b.waiting k) refl h
  old-stays b (Node.Split zero k) i h = tt
  old-stays b (Node.Split (suc v) k) i h = split-stays b v k (nat_lt v (length us)) refl h
  old-stays b (Node.Sum ps) i h = sum-stays b.added (all_pairs us b.facts ps)
  old-stays b (Node.Round d ps) i h = round-stays b d ps (all_pairs us b.facts ps) refl h
  old-stays b (Node.Quot k) i h = absurd i
  old-stays b (Node.Share c ps) i h = share-stays b c ps (stated us c ps) refl h
