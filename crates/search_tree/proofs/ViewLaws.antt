-- What a walk of the plain tree sees one step further down.
use Rattle.std.proofs.Common.{◌≡◌, ℕ, suc, ◌-◌, ◌≤◌, ◌<◌, ◌^◌, ◌<ℤ◌, pos, min, true, false, Option, Some}
use Rattle.std.proofs.Common.{List, [], ◌∷◌, length, arith, refl, sym, ap, subst, ◌∙◌}
use Rattle.core_terms.specs.declared.trees.CForm.{CForm}
use Rattle.core_terms.specs.declared.trees.Range.{Range}
use Rattle.obligations.specs.declared.branches.Branch.{Branch}
use Rattle.obligations.specs.declared.branches.Replaced.{Replaced}
use Rattle.obligations.specs.declared.branches.Variable.{Variable}
use Rattle.obligations.specs.Load.{need, term_load}
use Rattle.obligations.specs.Obligations.{AreOwn, AreVariables}
use Rattle.obligations.specs.Plain.{first_cut, waiting_only, plain_leaves}
use Rattle.obligations.specs.Quotients.{is_either, with_quotient, without_quotient}
use Rattle.obligations.specs.Reach.{are_exact, some_out_of_reach}
use Rattle.obligations.specs.Scopes.{next_param, scope, scope_of}
use Rattle.obligations.specs.Settling.{settled, added}
use Rattle.search_tree.specs.declared.halves.Half.{Half}
use Rattle.search_tree.specs.declared.halves.Halves.{Halves}
use Rattle.obligations.specs.declared.sides.Side.{Side}
use Rattle.search_tree.specs.declared.trail.Ended.{Ended}
use Rattle.search_tree.specs.declared.trail.Trail.{Trail}
use Rattle.search_tree.specs.declared.views.View.{View}
use Rattle.search_tree.specs.Halves.{half_ranges, half_fact}
use Rattle.search_tree.specs.Searching.{Ready, Ends}
use Rattle.obligations.specs.Sides.{side_of}
use Rattle.search_tree.specs.Views.{ViewSees, IsView, ViewIsReady, IsReadyAbove, ViewEndsAt, leaves_at}
use Rattle.search_tree.proofs.CycleLaws.{one-less, replaced-is}
use Rattle.search_tree.proofs.QuotFacts.{quotient-load, quotient-light, quotient-ready, number-room}
use Rattle.search_tree.proofs.ReadyLaws.{ready-light, ready-first, ready-second, ready-cut, ready-low}
use Rattle.search_tree.proofs.ReadyLaws.{ready-high, cut-is, CutIs, ready-variables, ready-exact}

-- what holds of the things that a view sees
module _ {view : View} {vs us : List Variable} {k : ℕ} {rs : List Range} (s : ViewSees view vs us k rs)
    (P : List Variable → List Variable → ℕ → List Range → Type 0) where
  pub as-seen : P view.vs.now view.scope.now view.rest view.ranges.now → P vs us k rs
  as-seen h =
      subst (P vs us k) s.ranges (subst (λ n. P vs us n view.ranges.now) s.rest
      (subst (λ xs. P vs xs view.rest view.ranges.now) s.scope
      (subst (λ xs. P xs view.scope.now view.rest view.ranges.now) s.variables h)))

  pub seen-as : P vs us k rs → P view.vs.now view.scope.now view.rest view.ranges.now
  seen-as h =
      subst (λ xs. P xs view.scope.now view.rest view.ranges.now) (sym s.variables)
      (subst (λ xs. P vs xs view.rest view.ranges.now) (sym s.scope)
      (subst (λ n. P vs us n view.ranges.now) (sym s.rest) (subst (P vs us k) (sym s.ranges) h)))

pub seen-view : (view : View) (vs us : List Variable) (k : ℕ) (rs : List Range) (b : Branch) →
    ViewSees view vs us k rs → AreOwn vs → us ≡ scope_of vs b → k ≤ 960 → IsView view b
seen-view view vs us k rs b s own scoped few = record {
  own = subst AreOwn (sym s.variables) own;
  scope = s.scope ∙ scoped ∙ sym (ap (λ xs. scope_of xs b) s.variables);
  few = subst (λ n. n ≤ 960) (sym s.rest) few;
}

-- a branch with as many added variables
pub view-again : (view : View) (b c : Branch) → c.added ≡ b.added → IsView view b → IsView view c
view-again view b c e v = record {
  own = v.own;
  scope = v.scope ∙ sym (ap (scope view.vs.now) e);
  few = v.few;
}

-- a branch is the one that it was
pub view-same : (view : View) (b c : Branch) → c ≡ b → IsView view b → IsView view c
view-same view b c e v = subst (IsView view) (sym e) v

pub view-variables : (view : View) (b c : Branch) → IsView view b → ViewIsReady view c → b.added ≡ c.added →
    AreVariables view.scope.now
view-variables view b c v r e =
    ready-variables view.vs.now view.scope.now view.rest view.ranges.now c v.own
    ((view-again view b c (sym e) v).scope) v.few r

pub view-exact : (view : View) (b : Branch) → IsView view b → ViewIsReady view b →
    are_exact (length view.scope.now) b.facts ≡ true
view-exact view b v r = ready-exact view.vs.now view.scope.now view.rest view.ranges.now b v.scope r

-- what was counted below, or found there
pub seen-leaves : (next : View) (vs us : List Variable) (k : ℕ) (rs qs : List Range) (b c : Branch) (wanted n : ℕ) →
    ViewSees next vs us k rs → rs ≡ qs → c ≡ b → n ≡ min wanted (leaves_at next c) →
    n ≡ min wanted (plain_leaves vs k qs b)
seen-leaves next vs us k rs qs b c wanted n s q e h =
    subst (λ x. n ≡ min wanted (plain_leaves vs k qs x)) e (subst (λ x. n ≡ min wanted (plain_leaves vs k x c)) q
    (as-seen s (λ vs us k rs. n ≡ min wanted (plain_leaves vs k rs c)) h))

pub seen-ends : (next : View) (vs us : List Variable) (k : ℕ) (rs qs : List Range) (b c : Branch) (x y : Trail)
    (d : Ended) → ViewSees next vs us k rs → rs ≡ qs → c ≡ b → ViewEndsAt next c x y d →
    Ends vs k (plain_leaves vs k qs b) b x y d
seen-ends next vs us k rs qs b c x y d s q e h =
    subst (λ z. Ends vs k (plain_leaves vs k qs z) z x y d) e (subst (λ z. Ends vs k (plain_leaves vs k z c) c x y d) q
    (as-seen s (λ vs us k rs. Ends vs k (plain_leaves vs k rs c) c x y d) h))

-- the branch is one that these were added to
pub in-side : (view : View) (b c : Branch) (f : CForm) → c ≡ settled view.scope.now f b → IsView view b →
    ViewIsReady view (settled view.scope.now f b) → IsView view c × ViewIsReady view c
in-side view b c f e v r =
    (view-again view b c (ap (λ (x : Branch). x.added) e) v, subst (ViewIsReady view) (sym e) r)

pub in-quotient : (view next : View) (b c : Branch) (r : Replaced) (us : List Variable) →
    us ≡ scope_of view.vs.now c → c ≡ with_quotient (scope_of view.vs.now b) r b →
    ViewSees next view.vs.now us view.rest view.ranges.now → IsView view b →
    ViewIsReady view (with_quotient (scope_of view.vs.now b) r b) → IsView next c × ViewIsReady next c
in-quotient view next b c r us scoped e s v ready = (
  seen-view next view.vs.now us view.rest view.ranges.now c s v.own scoped v.few,
  seen-as s (λ vs us k rs. Ready vs k rs c) (subst (ViewIsReady view) (sym e) ready),
)

pub in-half : (view next : View) (b c : Branch) (half : Half) (h : Halves) (rs : List Range) →
    rs ≡ half_ranges half h view.ranges.now → c ≡ added b (half_fact half h) →
    ViewSees next view.vs.now view.scope.now view.rest rs → IsView view b →
    Ready view.vs.now view.rest (half_ranges half h view.ranges.now) (added b (half_fact half h)) →
    IsView next c × ViewIsReady next c
in-half view next b c half h rs q e s v ready = (
  seen-view next view.vs.now view.scope.now view.rest rs c s v.own
      ((view-again view b c (ap (λ (x : Branch). x.added) e) v).scope) v.few,
  seen-as s (λ vs us k rs. Ready vs k rs c) (subst (λ x. Ready view.vs.now view.rest rs x) (sym e)
      (subst (λ x. Ready view.vs.now view.rest x (added b (half_fact half h))) (sym q) ready)),
)

-- the sides of a formula that waited
module _ (view : View) (b : Branch) (f : CForm) (v : IsView view b) (either : is_either f ≡ true)
    (ready : IsReadyAbove view (waiting_only b (f ∷ b.waiting))) where
  ready-side : (side : Side) → ViewIsReady view (settled view.scope.now (side_of side f) b)
  ready-side Side.First = subst (λ us. ViewIsReady view (settled us (side_of Side.First f) b)) (sym v.scope)
      (ready-first view.vs.now view.rest view.ranges.now f b either ready)
  ready-side Side.Second = subst (λ us. ViewIsReady view (settled us (side_of Side.Second f) b)) (sym v.scope)
      (ready-second view.vs.now view.rest view.ranges.now f b either ready)

  pub side-needs : (side : Side) (c : Branch) → c ≡ b → IsView view c × (((need f).yes ≤ 2 ^ 63) ×
      ViewIsReady view (settled view.scope.now (side_of side f) c))
  side-needs side c e = (
    view-same view b c e v,
    (
      ready-light view.vs.now (suc view.rest) view.ranges.now f b ready,
      subst (λ x. ViewIsReady view (settled view.scope.now (side_of side f) x)) (sym e) (ready-side side),
    ),
  )

-- a quotient of a formula that waited
module _ (view : View) (b : Branch) (f : CForm) (v : IsView view b) (few : view.rest < 960)
    (ready : IsReadyAbove view (waiting_only b (f ∷ b.waiting))) where
  pub number-fits : (n : ℕ) → n ≡ next_param view.scope.now → n < 2 ^ 32
  number-fits n e =
      number-room view.vs.now view.scope.now view.rest view.ranges.now (waiting_only b (f ∷ b.waiting)) n v.own v.scope
      (omega (arith, few)) ready e

  pub quotient-needs : (r : Replaced) (n : ℕ) (o : Option Replaced) → n ≡ next_param view.scope.now →
      o ≡ without_quotient n f → o ≡ Some r →
      IsView view b × ((b.added < 960) × (((term_load r.taken.of).own ≤ 2 ^ 66) × (((need r.form).yes ≤ 2 ^ 66) ×
      ViewIsReady view (with_quotient (scope_of view.vs.now b) r b))))
  quotient-needs r n o e q p =
      let is = replaced-is view.vs.now view.scope.now f b r n o v.scope e q p in
      let deep = ready.deep in (
        v,
        (
          omega (arith, deep, few),
          (
            quotient-load view.vs.now view.rest view.ranges.now f r b is ready,
            (
              quotient-light view.vs.now view.rest view.ranges.now f r b is ready,
              quotient-ready view.vs.now view.rest view.ranges.now f r b is ready,
            ),
          ),
        ),
      )

-- the halves of a range
module _ (view : View) (b : Branch) (h : Halves) (v : IsView view b) (ready : IsReadyAbove view b)
    (cut : first_cut 0 view.ranges.now ≡ Some (record { place = h.place; at = h.at })) (none : b.waiting ≡ []) where
  pub the-cut : CutIs view.ranges.now h.place h.at
  the-cut = cut-is view.vs.now (suc view.rest) view.ranges.now b h.place h.at ready cut

  ready-half : (half : Half) →
      Ready view.vs.now view.rest (half_ranges half h view.ranges.now) (added b (half_fact half h))
  ready-half Half.Low = ready-low view.vs.now view.rest view.ranges.now b h.place h.at ready none cut
  ready-half Half.High = ready-high view.vs.now view.rest view.ranges.now b h.place h.at ready none cut

  pub half-needs : (half : Half) (c : Branch) → c ≡ b → IsView view c × ((h.at <ℤ pos (2 ^ 63 - 1)) ×
      Ready view.vs.now view.rest (half_ranges half h view.ranges.now) (added c (half_fact half h)))
  half-needs half c e = (
    view-same view b c e v,
    (
      the-cut.room,
      subst (λ x. Ready view.vs.now view.rest (half_ranges half h view.ranges.now) (added x (half_fact half h))) (sym e)
          (ready-half half),
    ),
  )

-- a level further down
module _ (view next : View) (b : Branch) (v : IsView view b) (one : 1 ≤ view.rest)
    (s : ViewSees next view.vs.now view.scope.now (view.rest - 1) view.ranges.now) where
  below-view : (c : Branch) → c.added ≡ b.added → IsView next c
  below-view c e =
      let few = v.few in
      seen-view next view.vs.now view.scope.now (view.rest - 1) view.ranges.now c s v.own
      ((view-again view b c e v).scope) (omega (arith, few))

  below-few : next.rest < 960
  below-few = let few = v.few in let rest = s.rest in omega (arith, few, rest, one)

  pub ready-above : (c : Branch) → ViewIsReady view c → IsReadyAbove next c
  ready-above c r = seen-as s (λ vs us k rs. Ready vs (suc k) rs c)
      (subst (λ k. Ready view.vs.now k view.ranges.now c) (sym (one-less view.rest one)) r)

  pub halves-need : (h : Halves) → ViewIsReady view b →
      first_cut 0 view.ranges.now ≡ Some (record { place = h.place; at = h.at }) → b.waiting ≡ [] →
      IsView next b × ((next.rest < 960) × (IsReadyAbove next b ×
      ((first_cut 0 next.ranges.now ≡ Some (record { place = h.place; at = h.at })) × (b.waiting ≡ []))))
  halves-need h r cut none =
      (below-view b refl, (below-few, (ready-above b r, (ap (first_cut 0) s.ranges ∙ cut, none))))

  pub form-needs : (f : CForm) (ws : List CForm) → waiting_only b (f ∷ ws) ≡ b → ViewIsReady view b →
      some_out_of_reach b.facts ≡ false →
      IsView next (waiting_only b ws) × ((next.rest < 960) × (IsReadyAbove next (waiting_only b (f ∷ ws)) ×
      (some_out_of_reach b.facts ≡ false)))
  form-needs f ws same r reach = (
    below-view (waiting_only b ws) refl,
    (
      below-few,
      (ready-above (waiting_only b (f ∷ ws)) (subst (ViewIsReady view) (sym same) r), reach),
    ),
  )

-- a range that is cut takes a level
pub halves-take : (view : View) (b : Branch) (h : Halves) → ViewIsReady view b →
    first_cut 0 view.ranges.now ≡ Some (record { place = h.place; at = h.at }) → 1 ≤ view.rest
halves-take view b h r cut = ready-cut view.vs.now view.rest view.ranges.now b h.place h.at r cut
