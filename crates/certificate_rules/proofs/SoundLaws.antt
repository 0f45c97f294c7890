-- A walk keeps that no branch holds, so that a certificate which refutes shows its obligation valid.
use Rattle.std.proofs.Common.{◌≡◌, ℕ, zero, suc, ◌+◌, ◌-◌, nat_lt, ℤ, Bool, true, false, cond, not, ◌&&◌, Option, Some}
use Rattle.std.proofs.Common.{None, ◌≤◌, nat_le, Ok, List, [], ◌∷◌, ◌++◌, length, slice_get, arith, refl, sym, ap}
use Rattle.std.proofs.Common.{◌∙◌, subst, append_assoc, length-append}
use Rattle.std.specs.List.{list_all}
use Rattle.std.specs.Option.{option_and_then}
use Rattle.std.proofs.lemmas.Bool.{and_parts, true≢false}
use Rattle.obligations.specs.from_core_terms.declared.trees.CForm.{CForm}
use Rattle.obligations.specs.from_case_tables.declared.code_table.Code.{Code}
use Rattle.obligations.specs.declared.branches.Branch.{Branch}
use Rattle.obligations.specs.declared.branches.Fact.{Fact}
use Rattle.obligations.specs.declared.branches.Obligation.{Obligation}
use Rattle.obligations.specs.declared.branches.Replaced.{Replaced}
use Rattle.obligations.specs.declared.branches.Variable.{Variable}
use Rattle.obligations.specs.declared.certificates.Node.{Node}
use Rattle.obligations.specs.Closed.{IsClosed}
use Rattle.obligations.specs.Obligations.{IsObligation}
use Rattle.obligations.specs.Opening.{first_branch, range_facts, ranges_only}
use Rattle.obligations.specs.Quotients.{without_quotient, with_quotient}
use Rattle.obligations.specs.Reach.{is_within}
use Rattle.obligations.specs.Scopes.{next_param, with_next, scope_of}
use Rattle.obligations.specs.Settling.{branch_holds, form_at, without}
use Rattle.obligations.proofs.ClosedLaws.{refused-closed}
use Rattle.obligations.proofs.OpeningLaws.{ranges-long, first-holds}
use Rattle.obligations.proofs.ScopeLaws.{scope-length}
use Rattle.obligations.proofs.TakenHolds.{quotient-holds}
use Rattle.obligations.proofs.TakenNames.{quotient-closed}
use Rattle.certificate_rules.specs.Refutation.{NodeEffect, fails, opens, made_quot, made_by, made, OpenBranch, pending}
use Rattle.certificate_rules.specs.Refutation.{after, walk, allowing, HoldsAt, NoneHolds, AreClosed, WalkKeeps, Sound}
use Rattle.certificate_rules.proofs.ClosedLaws.{AllStay, Stay, old-stays, closed-without, wait-get}
use Rattle.certificate_rules.proofs.RefutationLaws.{IsOld, made_by-sound, holds-without, opens-same}

module _ (vs : List Variable) (values : List ℤ) (long : length values ≡ length vs) where
  abbrev Never : Branch → Type 0
  Never b = HoldsAt vs values b → ⊥

  abbrev AllNever : List Branch → Type 0
  AllNever [] = Unit {0}
  AllNever (b ∷ bs) = Never b × AllNever bs

  abbrev AllClosed : List Branch → Type 0
  AllClosed [] = Unit {0}
  AllClosed (b ∷ bs) = IsClosed (scope_of vs b) b × AllClosed bs

  scope-long : (b : Branch) (more : List ℤ) → length more ≡ b.added →
      length (values ++ more) ≡ length (scope_of vs b)
  scope-long b more e =
      let a = length-append values more in let s = scope-length vs b.added in omega (arith, a, s, e, long)

  -- branches over the variables of another
  stays-closed : (b : Branch) (bs : List Branch) → AllStay (scope_of vs b) b.added bs → AllClosed bs
  stays-closed b [] h = tt
  stays-closed b (c ∷ bs) h = (
    subst (λ us. IsClosed us c) (sym (ap (λ n. scope_of vs (record { facts = []; waiting = []; added = n })) h.0.added))
        h.0.closed,
    stays-closed b bs h.1,
  )

  stays-never : (b : Branch) (more : List ℤ) → length more ≡ b.added → (bs : List Branch) →
      AllStay (scope_of vs b) b.added bs → AllNever bs →
      list_all (λ c. not (branch_holds (scope_of vs b) (values ++ more) c)) bs ≡ true
  stays-never b more e [] h n = refl
  stays-never b more e (c ∷ bs) h n =
      ap (λ x. x && list_all (λ d. not (branch_holds (scope_of vs b) (values ++ more) d)) bs)
      (none (branch_holds (scope_of vs b) (values ++ more) c) refl)
      ∙ stays-never b more e bs h.1 n.1
    where
      none : (t : Bool) → branch_holds (scope_of vs b) (values ++ more) c ≡ t → not t ≡ true
      none false q = refl
      none true q = absurd (n.0 (
        more,
        e ∙ sym h.0.added,
        subst (λ us. branch_holds us (values ++ more) c ≡ true)
            (sym (ap (λ k. scope_of vs (record { facts = []; waiting = []; added = k })) h.0.added)) q,
      ))

  -- what a node makes of a branch, where the node is no `quot`
  old-sound : (b : Branch) (n : Node) (bs : List Branch) → IsOld n → IsClosed (scope_of vs b) b →
      made_by (scope_of vs b) b n ≡ opens bs → AllNever bs → Never b
  old-sound b n bs i c e never h =
      let stay = subst (Stay (scope_of vs b) b.added) e (old-stays (scope_of vs b) b n i c) in
      let no = made_by-sound (scope_of vs b) (values ++ h.0) (scope-long b h.0 h.1) b n bs i e
      (stays-never b h.0 h.1 bs stay never) in
      true≢false (sym h.2 ∙ no)

  old-closed : (b : Branch) (n : Node) (bs : List Branch) → IsOld n → IsClosed (scope_of vs b) b →
      made_by (scope_of vs b) b n ≡ opens bs → AllClosed bs
  old-closed b n bs i c e =
      stays-closed b bs (subst (Stay (scope_of vs b) b.added) e (old-stays (scope_of vs b) b n i c))

  -- and where it is one
  abbrev Quot : Branch → List Branch → Type 0
  Quot b bs = AllClosed bs × (AllNever bs → Never b)

  quot-made : (b : Branch) (k : ℕ) (f : CForm) (o : Option Replaced) (bs : List Branch) →
      slice_get b.waiting k ≡ Some f → without_quotient (next_param (scope_of vs b)) f ≡ o →
      IsClosed (scope_of vs b) b → made_quot (scope_of vs b) b k o ≡ opens bs → Quot b bs
  quot-made b k f None bs g q c e = absurd (cc)
  quot-made b k f (Some r) bs g q c e =
      let us = scope_of vs b in
      let rest = closed-without us b k c in
      let waits = wait-get us b.waiting k f g c.waiting in
      let same : with_quotient us r (without b k) ∷ [] ≡ bs = opens-same e in
      subst (Quot b) same (
        (quotient-closed us (without b k) f r q waits.names rest, tt),
        λ never h.
            let ws = values ++ h.0 in
            let parts = and_parts (branch_holds us ws (without b k)) (form_at us ws f)
            (sym (holds-without us ws (scope-long b h.0 h.1) b k f g) ∙ h.2) in
            let found = quotient-holds us ws (scope-long b h.0 h.1) (without b k) f r q waits rest parts.0 parts.1 in
            let size = length-append h.0 (found.0 ∷ []) in let d = h.1 in
            never.0 (
              h.0 ++ found.0 ∷ [],
              omega (arith, size, d),
              subst (λ xs. branch_holds (with_next us) xs (with_quotient us r (without b k)) ≡ true)
                  (append_assoc values h.0 (found.0 ∷ [])) found.1,
            ),
      )

  quot-found : (b : Branch) (k : ℕ) (o : Option CForm) (bs : List Branch) → slice_get b.waiting k ≡ o →
      IsClosed (scope_of vs b) b →
      made_quot (scope_of vs b) b k (option_and_then (without_quotient (next_param (scope_of vs b))) o) ≡ opens bs →
      Quot b bs
  quot-found b k None bs g c e = absurd (cc)
  quot-found b k (Some f) bs g c e =
      quot-made b k f (without_quotient (next_param (scope_of vs b)) f) bs g refl c e

  by-node : (b : Branch) (n : Node) (bs : List Branch) → IsClosed (scope_of vs b) b →
      made_by (scope_of vs b) b n ≡ opens bs → Quot b bs
  by-node b (Node.Case k) bs c e = (old-closed b (Node.Case k) bs tt c e, old-sound b (Node.Case k) bs tt c e)
  by-node b (Node.Split v k) bs c e = (old-closed b (Node.Split v k) bs tt c e, old-sound b (Node.Split v k) bs tt c e)
  by-node b (Node.Sum ps) bs c e = (old-closed b (Node.Sum ps) bs tt c e, old-sound b (Node.Sum ps) bs tt c e)
  by-node b (Node.Round d ps) bs c e =
      (old-closed b (Node.Round d ps) bs tt c e, old-sound b (Node.Round d ps) bs tt c e)
  by-node b (Node.Quot zero) bs c e = absurd (cc)
  by-node b (Node.Quot (suc k)) bs c e = quot-found b k (slice_get b.waiting k) bs refl c e
  by-node b (Node.Share c' ps) bs c e =
      (old-closed b (Node.Share c' ps) bs tt c e, old-sound b (Node.Share c' ps) bs tt c e)

  made-sound : (p : OpenBranch) (n : Node) (bs : List Branch) → IsClosed (scope_of vs p.branch) p.branch →
      made vs p n ≡ opens bs → Quot p.branch bs
  made-sound p n bs c e = leveled (nat_lt 0 p.levels) e
    where
      leveled : (t : Bool) → cond t (made_by (scope_of vs p.branch) p.branch n) (fails Code.CertTooDeep) ≡ opens bs →
          Quot p.branch bs
      leveled false d = absurd (cc)
      leveled true d = by-node p.branch n bs c d

  closed-pending : (levels : ℕ) (bs : List Branch) (ps : List OpenBranch) → AllClosed bs → AreClosed vs ps →
      AreClosed vs (pending levels bs ++ ps)
  closed-pending levels [] ps h k = k
  closed-pending levels (b ∷ bs) ps h k = (h.0, closed-pending levels bs ps h.1 k)

  none-of : (levels : ℕ) (bs : List Branch) (ps : List OpenBranch) → NoneHolds vs values (pending levels bs ++ ps) →
      AllNever bs × NoneHolds vs values ps
  none-of levels [] ps h = (tt, h)
  none-of levels (b ∷ bs) ps h = let r = none-of levels bs ps h.1 in ((h.0, r.0), r.1)

  pub walk-keeps : (ns : List Node) (ps qs : List OpenBranch) (at : ℕ) → walk vs ns ps at ≡ Ok qs → AreClosed vs ps →
      NoneHolds vs values qs → NoneHolds vs values ps
  walk-keeps [] ps qs at e c h = let same : ps ≡ qs = cc in subst (NoneHolds vs values) (sym same) h
  walk-keeps (n ∷ ns) [] qs at e c h = tt
  walk-keeps (n ∷ ns) (p ∷ ps) qs at e c h =
      opened (made vs p n) refl e (λ rs d k. walk-keeps ns rs qs (suc at) d k h)
    where
      opened : (m : NodeEffect) → made vs p n ≡ m → after (λ rs. walk vs ns rs (suc at)) p.levels ps at m ≡ Ok qs →
          ((rs : List OpenBranch) → walk vs ns rs (suc at) ≡ Ok qs → AreClosed vs rs → NoneHolds vs values rs) →
          NoneHolds vs values (p ∷ ps)
      opened (fails x) q d ih = absurd (cc)
      opened (opens bs) q d ih =
          let s = made-sound p n bs c.0 q in
          let r = none-of (p.levels - 1) bs ps
          (ih (pending (p.levels - 1) bs ++ ps) d (closed-pending (p.levels - 1) bs ps s.0 c.1)) in
          (s.1 r.0, r.1)

pub keeps : WalkKeeps
keeps vs values long = walk-keeps vs values long

-- the first branch is closed
ranges-within : (m n : ℕ) (vs : List Variable) → n + length vs ≤ m →
    list_all (λ (f : Fact). is_within m f.factors) (range_facts n vs) ≡ true
ranges-within m n [] h = refl
ranges-within m n (v ∷ vs) h =
    let w = below (suc n) m (omega (arith, h)) in
    ap (λ x. (x && true) && ((nat_le (suc n) m && true)
    && list_all (λ (f : Fact). is_within m f.factors) (range_facts (suc n) vs))) w
    ∙ ap (λ x. (x && true) && list_all (λ (f : Fact). is_within m f.factors) (range_facts (suc n) vs)) w
    ∙ ranges-within m (suc n) vs (omega (arith, h))
  where
    below : (a b : ℕ) → a ≤ b → nat_le a b ≡ true
    below a b e = grind arith

pub first-closed : (o : Obligation) → IsObligation o → IsClosed o.variables (first_branch o)
first-closed o is =
    refused-closed o.variables o.form (ranges_only o.variables) is.complete (record {
      facts = ranges-within (length o.variables) 0 o.variables (omega arith);
      waiting = tt;
    })

and_nil : (xs : List ℤ) → xs ++ [] ≡ xs
and_nil [] = refl
and_nil (x ∷ xs) = ap (λ ys. x ∷ ys) (and_nil xs)

pub sound : Sound
sound levels o nodes is e values inside = truth (form_at o.variables values o.form) refl
  where
    never : HoldsAt o.variables values (first_branch o) → ⊥
    never =
        (walk-keeps o.variables values (ranges-long o.variables values inside) nodes
        (allowing levels (first_branch o) ∷ []) [] 0 e (first-closed o is, tt) tt).0

    truth : (t : Bool) → form_at o.variables values o.form ≡ t → t ≡ true
    truth true q = refl
    truth false q = absurd (never (
      [],
      refl,
      ap (λ xs. branch_holds o.variables xs (first_branch o)) (and_nil values)
          ∙ first-holds o values (ranges-long o.variables values inside) ∙ ap (λ x. x && not (form_at o.variables values
          o.form)) inside ∙ ap not q,
    ))
