-- A quotient that is taken keeps a branch closed: what is divided names the term's variables, and what is left names
-- one more.
use Rattle.std.proofs.Common.{◌≡◌, ℕ, zero, suc, ◌+◌, ◌<◌, ◌≤◌, nat_eq, nat_le, ℤ, Bool, true, false, cond, ◌&&◌, ◌||◌}
use Rattle.std.proofs.Common.{pos, neg_ℤ, ◌-ℤ◌}
use Rattle.std.proofs.Common.{Option, Some, None, List, [], ◌∷◌, ◌++◌, length, arith, refl, sym, ap, ◌∙◌, subst}
use Rattle.std.specs.List.{list_all}
use Rattle.std.proofs.lemmas.List.Folds.{list_all-append}
use Rattle.std.proofs.lemmas.Bool.{and_parts, eqb-true}
use Rattle.core_terms.specs.declared.trees.CTerm.{CTerm}
use Rattle.core_terms.specs.declared.trees.CTerm.TheVariants.{Param, Add, Sub, Scale, Div, Mod, rolls-Param}
use Rattle.core_terms.specs.declared.trees.CForm.{CForm, out-CForm, fold_out-CForm}
use Rattle.core_terms.specs.declared.trees.CForm.TheVariants.{AtLeast, Zero}
use Rattle.core_terms.specs.declared.trees.CForm.TheOpen.{CTerm-F, CForm-F}
use Rattle.core_terms.specs.declared.trees.CForm.TheFolds.{map-CForm}
use Rattle.core_terms.specs.from_meaning_states.Division.{divisor}
use Rattle.obligations.specs.declared.branches.Variable.{Variable}
use Rattle.obligations.specs.declared.branches.Fact.{Fact}
use Rattle.obligations.specs.declared.branches.Line.{Line}
use Rattle.obligations.specs.declared.branches.Branch.{Branch}
use Rattle.obligations.specs.declared.branches.Replaced.{Replaced}
use Rattle.obligations.specs.declared.branches.Taken.{Taken}
use Rattle.obligations.specs.Closed.{NamesOnly, AllWait, IsClosed}
use Rattle.obligations.specs.LinearForms.{place_of, sparse, linear, negated}
use Rattle.obligations.specs.Quotients.{fact_with, raised, low_fact, high_fact, one_more, replaced, replaced_in}
use Rattle.obligations.specs.Quotients.{without_quotient, with_quotient}
use Rattle.obligations.specs.Reach.{is_within}
use Rattle.obligations.specs.Scopes.{next_param, next_variable, with_next}
use Rattle.obligations.specs.Settling.{added, first_taken, first_of, or_whole}
use Rattle.obligations.specs.Variables.{has_step, part_has, term_has, form_has}
use Rattle.obligations.proofs.ClosedLaws.{TermNames, of-pair, pair-names, alone-names, of-alone, has-Add, has-Sub}
use Rattle.obligations.proofs.ClosedLaws.{has-Scale, has-Div, has-Mod, least-names, zero-names, closed-joined}
use Rattle.obligations.proofs.ClosedLaws.{settled-closed, sparse-within, negated-long}
use Rattle.obligations.proofs.FrameLaws.{place-grows}
use Rattle.obligations.proofs.ScopeLaws.{length-next}
use Rattle.obligations.proofs.TreeLaws.{term_fold, linear-long}
use Rattle.obligations.proofs.TakenLaws.{whole_quotient, whole_remainder, taken_keeps}

module _ (vs : List Variable) where
  abbrev us : List Variable
  us = with_next vs

  -- the new variable has the last place
  new-place : (ws : List Variable) (n : ℕ) → next_param ws ≤ n → (w : Variable) → w.param ≡ true → w.number ≡ n →
      place_of (ws ++ w ∷ []) true n ≡ length ws
  new-place [] n h w p q =
      ap (λ b. cond b zero (suc zero)) (named w.param w.number p q)
    where
      named : (b : Bool) (m : ℕ) → b ≡ true → m ≡ n → (cond b true false && nat_eq m n) ≡ true
      named true m e f = grind arith
      named false m e f = cc
  new-place (v ∷ ws) n h w p q =
      ap (λ b. cond b zero (suc (place_of (ws ++ w ∷ []) true n))) (older v.param v.number (omega (arith, h)))
      ∙ ap suc (new-place ws n (omega (arith, h)) w p q)
    where
      older : (b : Bool) (m : ℕ) → cond b (suc m) 0 ≤ n → (cond b true false && nat_eq m n) ≡ false
      older true m e = grind arith
      older false m e = refl

  pub place-next : place_of us true (next_param vs) ≡ length vs
  place-next = new-place vs (next_param vs) (omega arith) (next_variable vs) refl refl

  grow-names : (t : CTerm) → TermNames vs t → TermNames us t
  grow-names t h param n e =
      let p = h param n e in let g = place-grows vs (next_variable vs) param n p in
      let l = length-next vs in omega (arith, p, g, l)

  new-names : TermNames us (Param (next_param vs))
  new-names param n e =
      named param (sym (term_fold part_has (has_step param n) (CTerm-F.Param (next_param vs)) (Param (next_param vs))
      (rolls-Param (next_param vs))) ∙ e)
    where
      named : (b : Bool) → (b && nat_eq (next_param vs) n) ≡ true → place_of us b n < length us
      named true q =
          let s = ap (place_of us true) (eqb-true (next_param vs) n q) in
          let p = place-next in let l = length-next vs in omega (arith, s, p, l)
      named false q = absurd (cc)

  -- a quotient of a term, by what it names and by what it divides
  pub record TakenNames (t : CTerm) (q : Taken) : Type 0 where
    pub of : TermNames vs t → TermNames vs q.of
    pub rest : TermNames vs t → TermNames us q.rest
    pub by : ℤ
    pub divides : q.divisor ≡ divisor by

  abbrev Named : CTerm → Option Taken → Type 0
  Named t None = Unit {0}
  Named t (Some q) = TakenNames t q

  module _ (node : CTerm → CTerm → CTerm) (has : (param : Bool) (n : ℕ) (a b : CTerm) →
      term_has param n (node a b) ≡ (term_has param n a || term_has param n b)) where
    pair-named : (a b : CTerm) (m n : Option Taken) → Named a m → Named b n →
        Named (node a b) (first_of (λ x. node x b) (λ y. node a y) m n)
    pair-named a b None None p q = tt
    pair-named a b None (Some r) p q = record {
      of = λ h. q.of (of-pair vs node has a b h).1;
      rest = λ h. let s = of-pair vs node has a b h in
          pair-names us node has a r.rest (grow-names a s.0) (q.rest s.1);
      by = q.by;
      divides = q.divides;
    }
    pair-named a b (Some r) n p q = record {
      of = λ h. p.of (of-pair vs node has a b h).0;
      rest = λ h. let s = of-pair vs node has a b h in
          pair-names us node has r.rest b (p.rest s.0) (grow-names b s.1);
      by = p.by;
      divides = p.divides;
    }

  module _ (node : CTerm → CTerm) (has : (param : Bool) (n : ℕ) (a : CTerm) →
      term_has param n (node a) ≡ term_has param n a) where
    alone-named : (a : CTerm) (q : Taken) → TakenNames a q →
        TakenNames (node a) (record { of = q.of; divisor = q.divisor; rest = node q.rest })
    alone-named a q p = record {
      of = λ h. p.of (of-alone vs node has a h);
      rest = λ h. alone-names us node has q.rest (p.rest (of-alone vs node has a h));
      by = p.by;
      divides = p.divides;
    }

  scale-named : (k : ℤ) (a : CTerm) (m : Option Taken) → Named a m →
      Named (Scale k a) (first_of (λ x. Scale k x) (λ x. Scale k x) m None)
  scale-named k a None p = tt
  scale-named k a (Some q) p = alone-named (Scale k) (λ param n. has-Scale param n k) a q p

  div-named : (a : CTerm) (k : ℤ) (m : Option Taken) → Named a m →
      Named (Div a k) (or_whole (λ x. Div x k) m (whole_quotient (next_param vs) a k))
  div-named a k None p = record {
    of = of-alone vs (λ x. Div x k) (λ param n x. has-Div param n x k) a;
    rest = λ h. new-names;
    by = k;
    divides = refl;
  }
  div-named a k (Some q) p = alone-named (λ x. Div x k) (λ param n x. has-Div param n x k) a q p

  mod-named : (a : CTerm) (k : ℤ) (m : Option Taken) → Named a m →
      Named (Mod a k) (or_whole (λ x. Mod x k) m (whole_remainder (next_param vs) a k))
  mod-named a k None p = record {
    of = of-alone vs (λ x. Mod x k) (λ param n x. has-Mod param n x k) a;
    rest = λ h.
        pair-names us Sub has-Sub a (Scale (divisor k) (Param (next_param vs)))
        (grow-names a (of-alone vs (λ x. Mod x k) (λ param n x. has-Mod param n x k) a h))
        (alone-names us (Scale (divisor k)) (λ param n. has-Scale param n (divisor k)) (Param (next_param vs))
        new-names);
    by = k;
    divides = refl;
  }
  mod-named a k (Some q) p = alone-named (λ x. Mod x k) (λ param n x. has-Mod param n x k) a q p

  pub taken-named : (t : CTerm) → Named t (first_taken (next_param vs) t)
  taken-named = taken_keeps (next_param vs) Named (record {
    of_const = λ c. tt;
    of_slot = λ n. tt;
    of_param = λ n. tt;
    of_add = pair-named Add has-Add;
    of_sub = pair-named Sub has-Sub;
    of_scale = scale-named;
    of_div = div-named;
    of_mod = mod-named;
    of_ite = λ c a b. tt;
  })

  -- the same of a formula that waits
  pub record ReplacedNames (f : CForm) (r : Replaced) : Type 0 where
    pub of : NamesOnly vs f → TermNames vs r.taken.of
    pub form : NamesOnly vs f → NamesOnly us r.form
    pub by : ℤ
    pub divides : r.taken.divisor ≡ divisor by

  module _ (node : CTerm → CForm) (names : (t : CTerm) → TermNames us t → NamesOnly us (node t)) where
    node-named : (f : CForm) (t : CTerm) → (NamesOnly vs f → TermNames vs t) → (o : Option Taken) → Named t o →
        (r : Replaced) → replaced node o ≡ Some r → ReplacedNames f r
    node-named f t has None p r e = absurd (cc)
    node-named f t has (Some q) p r e =
        let same : record { taken = q; form = node q.rest } ≡ r = cc in
        subst (ReplacedNames f) same (record {
          of = λ h. p.of (has h);
          form = λ h. names q.rest (p.rest (has h));
          by = p.by;
          divides = p.divides;
        })

  of-out : (f : CForm) (x : CForm-F CForm CTerm) → out-CForm f ≡ x → (param : Bool) (n : ℕ) →
      form_has param n f ≡ part_has (map-CForm CForm CTerm Bool Bool (form_has param n) (term_has param n) x)
  of-out f x e param n =
      fold_out-CForm Bool Bool part_has (has_step param n) f
      ∙ ap (λ y. part_has (map-CForm CForm CTerm Bool Bool (form_has param n) (term_has param n) y)) e

  replaced-in : (f : CForm) (x : CForm-F CForm CTerm) (r : Replaced) → out-CForm f ≡ x →
      replaced_in (next_param vs) x ≡ Some r → ReplacedNames f r
  replaced-in f CForm-F.Top r e h = absurd (cc)
  replaced-in f CForm-F.Bottom r e h = absurd (cc)
  replaced-in f (CForm-F.AtLeast t) r e h =
      node-named AtLeast (least-names us) f t (λ k param n q. k param n (of-out f (CForm-F.AtLeast t) e param n ∙ q))
      (first_taken (next_param vs) t) (taken-named t) r h
  replaced-in f (CForm-F.Zero t) r e h =
      node-named Zero (zero-names us) f t (λ k param n q. k param n (of-out f (CForm-F.Zero t) e param n ∙ q))
      (first_taken (next_param vs) t) (taken-named t) r h
  replaced-in f (CForm-F.Not g) r e h = absurd (cc)
  replaced-in f (CForm-F.And g k) r e h = absurd (cc)
  replaced-in f (CForm-F.Or g k) r e h = absurd (cc)

  pub replaced-named : (f : CForm) (r : Replaced) → without_quotient (next_param vs) f ≡ Some r → ReplacedNames f r
  replaced-named f r h = replaced-in f (out-CForm f) r refl h

  -- what was within the variables is within one more
  le-next : (a n : ℕ) → nat_le a n ≡ true → nat_le a (suc n) ≡ true
  le-next a n h = grind arith

  within-next : (fs : List (ℕ × ℤ)) → is_within (length vs) fs ≡ true → is_within (length us) fs ≡ true
  within-next fs h = ap (λ n. is_within n fs) (length-next vs) ∙ grown fs h
    where
      grown : (gs : List (ℕ × ℤ)) → is_within (length vs) gs ≡ true → is_within (suc (length vs)) gs ≡ true
      grown [] k = refl
      grown (g ∷ gs) k =
          let s = and_parts (nat_le (suc g.0) (length vs)) (is_within (length vs) gs) k in
          ap (λ x. x && is_within (suc (length vs)) gs) (le-next (suc g.0) (length vs) s.0) ∙ grown gs s.1

  facts-next : (fs : List Fact) → list_all (λ (f : Fact). is_within (length vs) f.factors) fs ≡ true →
      list_all (λ (f : Fact). is_within (length us) f.factors) fs ≡ true
  facts-next [] h = refl
  facts-next (f ∷ fs) h =
      let s = and_parts (is_within (length vs) f.factors)
      (list_all (λ (g : Fact). is_within (length vs) g.factors) fs) h in
      ap (λ x. x && list_all (λ (g : Fact). is_within (length us) g.factors) fs) (within-next f.factors s.0)
      ∙ facts-next fs s.1

  waits-next : (fs : List CForm) → AllWait vs fs → AllWait us fs
  waits-next [] h = tt
  waits-next (f ∷ fs) h = (
    record {
      names = λ param n e.
          let p = h.0.names param n e in let g = place-grows vs (next_variable vs) param n p in
          let l = length-next vs in omega (arith, p, g, l);
      choice = h.0.choice;
    },
    waits-next fs h.1,
  )

  pub closed-next : (b : Branch) → IsClosed vs b → IsClosed us (one_more b)
  closed-next b h = record { facts = facts-next b.facts h.facts; waiting = waits-next b.waiting h.waiting }

  with-within : (l : Line) (k : ℤ) → length l.factors ≡ length vs → is_within (length us) (fact_with l k).factors ≡ true
  with-within l k e =
      let s = length-next vs in
      list_all-append (λ (f : ℕ × ℤ). nat_le (suc f.0) (length us)) (sparse 0 l.factors) ((length l.factors, k) ∷ [])
      ∙ ap (λ x. x && (nat_le (suc (length l.factors)) (length us) && true))
      (sparse-within (length us) 0 l.factors (omega (arith, e, s)))
      ∙ ap (λ x. x && true) (below (suc (length l.factors)) (length us) (omega (arith, e, s)))
    where
      below : (a n : ℕ) → a ≤ n → nat_le a n ≡ true
      below a n h = grind arith

  closed-fact : (b : Branch) (f : Fact) → is_within (length us) f.factors ≡ true → IsClosed us b →
      IsClosed us (added b f)
  closed-fact b f w h =
      closed-joined us b (record { facts = f ∷ []; waiting = []; added = 0 }) h
      (record { facts = ap (λ x. x && true) w; waiting = tt })

  -- the branch with a quotient taken is closed over one variable more
  pub quotient-closed : (b : Branch) (f : CForm) (r : Replaced) → without_quotient (next_param vs) f ≡ Some r →
      NamesOnly vs f → IsClosed vs b → IsClosed us (with_quotient vs r b)
  quotient-closed b f r e names h =
      let low = low_fact vs r.taken in let high = high_fact vs r.taken in
      settled-closed us r.form (added (added (one_more b) low) high) ((replaced-named f r e).form names)
      (closed-fact (added (one_more b) low) high
      (with-within (raised (negated vs (linear vs r.taken.of)) (r.taken.divisor -ℤ pos 1))
      r.taken.divisor (negated-long vs r.taken.of))
      (closed-fact (one_more b) low (with-within (linear vs r.taken.of) (neg_ℤ r.taken.divisor)
      (linear-long vs r.taken.of))
      (closed-next b h)))
