-- Frames keep what is pending, and all that waits stays light.
use Rattle.std.proofs.Common.{◌≡◌, ℕ, zero, suc, ◌-◌, ◌<◌, ◌≤◌, ◌^◌, Bool, true, false, ◌&&◌, cond, Some, Ok, List}
use Rattle.std.proofs.Common.{nat_lt, ℤ, pos, ◌+ℤ◌, Result}
use Rattle.std.proofs.Common.{[], ◌∷◌, ◌++◌, length, take, reverse, slice_get, length-append, arith, refl, sym, ap, ◌∙◌}
use Rattle.std.proofs.Common.{subst, None, Err, ◌+◌}
use Rattle.std.specs.Prelude.{insert, remove}
use Rattle.std.specs.List.{list_all}
use Rattle.std.specs.Option.{option_and_then}
use Rattle.std.proofs.lemmas.Bool.{and_parts}
use Rattle.std.proofs.lemmas.List.{take-append-le, reverse-append, length-take-le}
use Rattle.std.proofs.lemmas.List.Folds.{list_all-append}
use Rattle.std.proofs.lemmas.Int.{to_z-of_z}
use Rattle.core_terms.specs.declared.trees.CForm.{CForm}
use Rattle.obligations.specs.declared.branches.Fact.{Fact}
use Rattle.obligations.specs.declared.branches.Branch.{Branch}
use Rattle.obligations.specs.declared.branches.Variable.{Variable}
use Rattle.obligations.specs.declared.branches.Obligation.{Obligation}
use Rattle.obligations.specs.declared.branches.Replaced.{Replaced}
use Rattle.obligations.specs.Load.{need, form_load, is_light, is_light_branch}
use Rattle.case_tables.specs.declared.code_table.Code.{Code}
use Rattle.obligations.specs.declared.branches.Line.{Line}
use Rattle.obligations.specs.declared.certificates.Node.{Node}
use Rattle.obligations.specs.LinearForms.{fact_of}
use Rattle.obligations.specs.Opening.{ranges_only, first_branch, at_most, at_least}
use Rattle.obligations.specs.Quotients.{is_either, without_quotient, with_quotient, low_fact, high_fact, one_more}
use Rattle.obligations.specs.Scopes.{next_param, with_next, scope_of}
use Rattle.obligations.specs.Settling.{joined, settled, sides, without, added, outcome}
use Rattle.obligations.proofs.LightLaws.{remove-light}
use Rattle.obligations.proofs.TableLaws.{joined-joined}
use Rattle.obligations.proofs.NeedLaws.{settled-light, refused-light, need-within}
use Rattle.certificate_machine.specs.declared.frames.Todo.{Todo}
use Rattle.certificate_machine.specs.declared.frames.Frame.{Frame}
use Rattle.certificate_rules.specs.Refutation.{NodeEffect, fails, opens, made_case, case_at, split_at}
use Rattle.certificate_rules.specs.Refutation.{made_share, made_by, made, made_quot, quot_at, allowing, OpenBranch}
use Rattle.certificate_rules.specs.Sums.{below_0}
use Rattle.certificate_machine.specs.Machines.{base_of, full_by, full_of, second_by, second_of, waiting_first, behind}
use Rattle.certificate_machine.specs.Machines.{place_fits, FramesFit, spent, turned, step_by, is_light_todo}
use Rattle.certificate_machine.specs.Machines.{are_light}

branch-same : (a b : Branch) → a.facts ≡ b.facts → a.waiting ≡ b.waiting → a.added ≡ b.added → a ≡ b
branch-same a b p q r =
    ap (λ x. record { facts = x; waiting = a.waiting; added = a.added }) p
    ∙ ap (λ x. record { facts = b.facts; waiting = x; added = a.added }) q
    ∙ ap (λ x. record { facts = b.facts; waiting = b.waiting; added = x }) r

-- cutting back undoes what was added
pub base-joined : (f : Frame) (b x : Branch) → f.facts ≤ length b.facts → f.waits ≤ length b.waiting → base_of f
    (joined b x) ≡ base_of f b
base-joined f b x p q = branch-same _ _ (take-append-le f.facts b.facts x.facts p)
    (take-append-le f.waits b.waiting x.waiting q) refl

pub behind-joined : (vs : List Variable) (fs : List Frame) (b x : Branch) → FramesFit fs b → behind vs fs (joined b x) ≡
    behind vs fs b
behind-joined vs [] b x h = refl
behind-joined vs (f ∷ fs) b x h =
    ap (λ y. waiting_first f.first (record { levels = f.levels - 1; branch = second_by vs f.todo y })
    (behind vs fs (full_by f.todo y))) (base-joined f b x h.0.facts h.0.waits)

pub fits-joined : (fs : List Frame) (b x : Branch) → FramesFit fs b → FramesFit fs (joined b x)
fits-joined [] b x h = tt
fits-joined (f ∷ fs) b x h = (
  record {
    levels = h.0.levels;
    facts = let l = length-append b.facts x.facts in let p = h.0.facts in omega (arith, l, p);
    waits = let l = length-append b.waiting x.waiting in let p = h.0.waits in omega (arith, l, p);
    place = h.0.place;
    added = h.0.added;
    room = h.0.room;
  },
  subst (λ y. FramesFit fs (full_by f.todo y)) (sym (base-joined f b x h.0.facts h.0.waits)) h.1,
)

-- a frame at the branch that it was made at
pub base-whole : (f : Frame) (b : Branch) → f.facts ≡ length b.facts → f.waits ≡ length b.waiting →
    f.added ≡ b.added → base_of f b ≡ b
base-whole f b p q r = branch-same _ _ (ap (λ n. take n b.facts) p ∙ take_all b.facts)
    (ap (λ n. take n b.waiting) q ∙ take_all b.waiting) r
  where
    take_all : {A : Type 0} (xs : List A) → take (length xs) xs ≡ xs
    take_all [] = refl
    take_all (x ∷ xs) = ap (λ ys. x ∷ ys) (take_all xs)

pub insert-remove : (xs : List CForm) (k : ℕ) (x : CForm) → slice_get xs k ≡ Some x → insert (remove xs k) k x ≡ xs
insert-remove [] k x e = cc
insert-remove (y ∷ xs) zero x e = let s : y ≡ x = cc in ap (λ z. z ∷ xs) (sym s)
insert-remove (y ∷ xs) (suc k) x e = ap (λ ys. y ∷ ys) (insert-remove xs k x e)

-- cutting back twice
pub base-base : (f : Frame) (b : Branch) → f.facts ≤ length b.facts → f.waits ≤ length b.waiting → base_of f
    (base_of f b) ≡ base_of f b
base-base f b p q = base-whole f (base_of f b) (sym (length-take-le f.facts b.facts p))
    (sym (length-take-le f.waits b.waiting q)) refl

added-base : (fact : Fact) (f : Frame) (b : Branch) → f.facts ≤ length b.facts → f.waits ≤ length b.waiting →
    base_of f (added (base_of f b) fact) ≡ base_of f b
added-base fact f b p q =
    base-joined f (base_of f b) (record { facts = fact ∷ []; waiting = []; added = 0 })
    (omega (arith, length-take-le f.facts b.facts p)) (omega (arith, length-take-le f.waits b.waiting q))
    ∙ base-base f b p q

second-base : (vs : List Variable) (t : Todo) (f : Frame) (b : Branch) → f.facts ≤ length b.facts →
    f.waits ≤ length b.waiting →
    base_of f (second_by vs t (base_of f b)) ≡ base_of f b
second-base vs (Todo.Form place form) f b p q =
    base-joined f (base_of f b) (outcome (scope_of vs (base_of f b)) (sides form).1).yes
    (omega (arith, length-take-le f.facts b.facts p))
    (omega (arith, length-take-le f.waits b.waiting q)) ∙ base-base f b p q
second-base vs (Todo.Bound variable most) f b p q = added-base (at_least variable (most +ℤ pos 1)) f b p q
second-base vs (Todo.Fact fact) f b p q = added-base fact f b p q
second-base vs Todo.Nothing f b p q = base-base f b p q

added-long : (fact : Fact) (b : Branch) → (length b.facts ≤ length (added b fact).facts) ×
    (length b.waiting ≤ length (added b fact).waiting)
added-long fact b =
    let l = length-append b.facts (fact ∷ []) in let k =
    length-append b.waiting [] in (omega (arith, l), omega (arith, k))

second-long : (vs : List Variable) (t : Todo) (b : Branch) → (length b.facts ≤ length (second_by vs t b).facts) ×
    (length b.waiting ≤ length (second_by vs t b).waiting)
second-long vs (Todo.Form place form) b =
    let l = length-append b.facts (outcome (scope_of vs b) (sides form).1).yes.facts in let k =
    length-append b.waiting (outcome (scope_of vs b) (sides form).1).yes.waiting in (omega (arith, l), omega (arith, k))
second-long vs (Todo.Bound variable most) b = added-long (at_least variable (most +ℤ pos 1)) b
second-long vs (Todo.Fact fact) b = added-long fact b
second-long vs Todo.Nothing b = (omega arith, omega arith)

-- the second branch has as many added variables
second-added : (vs : List Variable) (t : Todo) (b : Branch) → b.added ≤ (second_by vs t b).added
second-added vs (Todo.Form place form) b = omega arith
second-added vs (Todo.Bound variable most) b = omega arith
second-added vs (Todo.Fact fact) b = omega arith
second-added vs Todo.Nothing b = omega arith

-- what is left of it puts back the same
spent-full : (t : Todo) (b : Branch) → full_by (spent t) b ≡ full_by t b
spent-full (Todo.Form place form) b = refl
spent-full (Todo.Bound variable most) b = refl
spent-full (Todo.Fact fact) b = refl
spent-full Todo.Nothing b = refl

spent-fits : (t : Todo) (n : ℕ) → place_fits t n → place_fits (spent t) n
spent-fits (Todo.Form place form) n h = h
spent-fits (Todo.Bound variable most) n h = tt
spent-fits (Todo.Fact fact) n h = tt
spent-fits Todo.Nothing n h = tt

pub spent-light : (t left : Todo) → left ≡ spent t → is_light_todo t ≡ true → is_light_todo left ≡ true
spent-light (Todo.Form place form) left e h = ap is_light_todo e ∙ h
spent-light (Todo.Bound variable most) left e h = ap is_light_todo e
spent-light (Todo.Fact fact) left e h = ap is_light_todo e
spent-light Todo.Nothing left e h = ap is_light_todo e

-- the other side of a formula is the second branch's
pub second-form : (own vs : List Variable) (todo : Todo) (place : ℕ) (form shown : CForm) (old new : Branch) →
    todo ≡ Todo.Form place form → shown ≡ form → vs ≡ scope_of own old → new ≡ settled vs (sides shown).1 old →
    new ≡ second_by own todo old
second-form own vs todo place form shown old new et eg ev e =
    e ∙ ap (λ x. settled vs (sides x).1 old) eg ∙ ap (λ v. settled v (sides form).1 old) ev
    ∙ ap (λ t. second_by own t old) (sym et)

pub first-turns : (vs : List Variable) (f : Frame) (fs : List Frame) (b : Branch) → f.first ≡ true → FramesFit (f ∷ fs)
    b →
    allowing (f.levels - 1) (second_of vs f b) ∷ behind vs (turned f ∷ fs) (second_of vs f b) ≡ behind vs (f ∷ fs) b
first-turns vs f fs b e h =
    ap (λ y. allowing (f.levels - 1) (second_of vs f b) ∷ behind vs fs (full_by (spent f.todo) y))
    (second-base vs f.todo f b h.0.facts h.0.waits)
    ∙ ap (λ y. allowing (f.levels - 1) (second_of vs f b) ∷ behind vs fs y) (spent-full f.todo (base_of f b))
    ∙ ap (λ z. waiting_first z (allowing (f.levels - 1) (second_of vs f b)) (behind vs fs (full_of f b))) (sym e)

pub turned-fits : (vs : List Variable) (f : Frame) (fs : List Frame) (b : Branch) → FramesFit (f ∷ fs) b → FramesFit
    (turned f ∷ fs) (second_of vs f b)
turned-fits vs f fs b h =
    let l = second-long vs f.todo (base_of f b) in
    let l0 = l.0 in let l1 = l.1 in
    let p = length-take-le f.facts b.facts h.0.facts in
    let q = length-take-le f.waits b.waiting h.0.waits in (
      record {
        levels = h.0.levels;
        facts = omega (arith, l0, p);
        waits = omega (arith, l1, q);
        place = spent-fits f.todo f.waits h.0.place;
        added = second-added vs f.todo (base_of f b);
        room = h.0.room;
      },
      subst (FramesFit fs) (sym (ap (full_by (spent f.todo)) (second-base vs f.todo f b h.0.facts h.0.waits)
          ∙ spent-full f.todo (base_of f b))) h.1,
    )

pub second-ends : (vs : List Variable) (f : Frame) (fs : List Frame) (b : Branch) → f.first ≡ false → behind vs fs
    (full_of f b) ≡ behind vs (f ∷ fs) b
second-ends vs f fs b e = ap (λ z. waiting_first z (allowing (f.levels - 1) (second_of vs f b))
    (behind vs fs (full_of f b))) (sym e)

pub full-long : (f : Frame) (b : Branch) → f.facts ≤ length b.facts → f.waits ≤ length b.waiting →
    place_fits f.todo f.waits → place_fits f.todo (length (base_of f b).waiting)
full-long f b p q h = subst (place_fits f.todo) (sym (length-take-le f.waits b.waiting q)) h

-- a new frame over the branch that it was made at
pub over : (vs : List Variable) (f : Frame) (fs : List Frame) (b c x : Branch) → f.facts ≡ length c.facts →
    f.waits ≡ length c.waiting → f.added ≡ c.added → full_by f.todo c ≡ b → f.first ≡ true →
    behind vs (f ∷ fs) (joined c x) ≡ allowing (f.levels - 1) (second_by vs f.todo c) ∷ behind vs fs b
over vs f fs b c x p q a e t =
    let whole = base-joined f c x (omega (arith, p)) (omega (arith, q)) ∙ base-whole f c p q a in
    ap (λ y. waiting_first f.first (allowing (f.levels - 1) (second_by vs f.todo y))
    (behind vs fs (full_by f.todo y))) whole
    ∙ ap (λ z. waiting_first z (allowing (f.levels - 1) (second_by vs f.todo c)) (behind vs fs (full_by f.todo c))) t
    ∙ ap (λ y. allowing (f.levels - 1) (second_by vs f.todo c) ∷ behind vs fs y) e

pub over-fits : (f : Frame) (fs : List Frame) (b c x : Branch) → 0 < f.levels → f.facts ≡ length c.facts →
    f.waits ≡ length c.waiting → f.added ≡ c.added → f.added + f.levels ≤ 4096 → full_by f.todo c ≡ b →
    place_fits f.todo f.waits → FramesFit fs b → FramesFit (f ∷ fs) (joined c x)
over-fits f fs b c x l p q a r e t h =
    let whole = base-joined f c x (omega (arith, p)) (omega (arith, q)) ∙ base-whole f c p q a in
    let m = length-append c.facts x.facts in let k = length-append c.waiting x.waiting in (
      record {
        levels = l;
        facts = omega (arith, m, p);
        waits = omega (arith, k, q);
        place = t;
        added = omega (arith, a);
        room = r;
      },
      subst (λ y. FramesFit fs (full_by f.todo y)) (sym whole)
          (subst (FramesFit fs) (sym e) h),
    )

pub reversed : {A : Type 0} (xs : List A) (x : A) → reverse (xs ++ x ∷ []) ≡ x ∷ reverse xs
reversed xs x = reverse-append xs (x ∷ [])

pub ruleset frame_laws = (first-turns, turned-fits, spent-light, second-ends, full-long, reversed)

-- the innermost frame, where the last of a list is it
pub popped-fits : (fs old : List Frame) (f : Frame) (b : Branch) → old ≡ fs ++ f ∷ [] → FramesFit (reverse old) b →
    FramesFit
    (f ∷ reverse fs) b
popped-fits fs old f b e h = subst (λ x. FramesFit x b) (ap reverse e ∙ reversed fs f) h

pub popped-behind : (vs : List Variable) (fs old : List Frame) (f : Frame) (b : Branch) → old ≡ fs ++ f ∷ [] →
    behind vs (f ∷ reverse fs) b ≡ behind vs (reverse old) b
popped-behind vs fs old f b e = ap (λ x. behind vs x b) (sym (ap reverse e ∙ reversed fs f))

pub ruleset back_laws = (popped-fits, popped-behind)

remove-length : {A : Type 0} (xs : List A) (k : ℕ) → k < length xs → k ≤ length (remove xs k)
remove-length [] k h = omega arith
remove-length (x ∷ xs) zero h = omega arith
remove-length (x ∷ xs) (suc k) h = let ih = remove-length xs k (omega arith) in omega (arith, ih)

-- a formula that was taken out, and is put back
full-again : (b : Branch) (place : ℕ) (form : CForm) → slice_get b.waiting place ≡ Some form →
    full_by (Todo.Form place form) (without b place) ≡ b
full-again b place form taken =
    ap (λ w. record { facts = b.facts; waiting = w; added = b.added }) (insert-remove b.waiting place form taken)

abbrev pub form_frame : ℕ → ℕ → ℕ → ℕ → ℕ → CForm → Bool → Frame
form_frame levels facts waits added place form first = record {
  levels = levels;
  facts = facts;
  waits = waits;
  added = added;
  todo = Todo.Form place form;
  first = first;
}

-- `us` are the branch's own variables
pub case-goes : (vs us : List Variable) (levels : ℕ) (b now : Branch) (k place facts waits added : ℕ)
    (frames more : List Frame) (form : CForm) →
    k ≡ suc place → slice_get b.waiting place ≡ Some form → place < length b.waiting → is_either form ≡ true →
    0 < levels → FramesFit (reverse frames) b →
    facts ≡ length b.facts → waits ≡ length (remove b.waiting place) → added ≡ b.added → added + levels ≤ 4096 →
    us ≡ scope_of vs b →
    more ≡ frames ++ form_frame levels facts waits added place form true ∷ [] →
    now ≡ settled us (sides form).0 (without b place) →
    (step_by levels (behind vs (reverse frames) b) (case_at us b k) ≡ Ok
    (allowing (levels - 1) now ∷ behind vs (reverse more) now)) × FramesFit (reverse more) now
case-goes vs us levels b now k place facts waits added frames more form ek taken inside is low fits ef ew ea er es em
    en =
    let full = full-again b place form taken in
    let f : Frame = form_frame levels facts waits added place form true in
    let turn : reverse more ≡ f ∷ reverse frames = ap reverse em ∙ reversed frames f in
    let x : Branch = (outcome us (sides form).0).yes in
    let o = over vs f (reverse frames) b (without b place) x ef ew ea full refl in
    let two : List Branch = settled us (sides form).0 (without b place) ∷ settled us (sides form).1 (without b place)
    ∷ [] in
    let room : place ≤ waits = (let r = remove-length b.waiting place inside in omega (arith, r, ew)) in (
      ap (λ z. step_by levels (behind vs (reverse frames) b) (case_at us b z)) ek
          ∙ ap (λ z. step_by levels (behind vs (reverse frames) b) (made_case us b place z)) taken
          ∙ ap (λ z. step_by levels (behind vs (reverse frames) b) (cond z (opens two) (fails Code.NothingToCase))) is
          ∙ ap (λ z. Ok (allowing (levels - 1) (settled us (sides form).0 (without b place))
          ∷ allowing (levels - 1) (settled z (sides form).1 (without b place)) ∷ behind vs (reverse frames) b)) es
          ∙ ap (λ z. Ok (allowing (levels - 1) (settled us (sides form).0 (without b place)) ∷ z)) (sym o)
          ∙ ap (λ z. Ok (allowing (levels - 1) (settled us (sides form).0 (without b place)) ∷ behind vs z
          (settled us (sides form).0 (without b place)))) (sym turn)
          ∙ ap (λ z. Ok (allowing (levels - 1) z ∷ behind vs (reverse more) z)) (sym en),
      subst (FramesFit (reverse more)) (sym en) (subst (λ z. FramesFit z (settled us (sides form).0 (without b place)))
          (sym turn)
          (over-fits f (reverse frames) b (without b place) x low ef ew ea er full room fits)),
    )

-- a quotient taken is added to the branch that is left
pub quotient-joins : (us : List Variable) (r : Replaced) (c : Branch) → with_quotient us r c
    ≡ joined (one_more c) (joined (record { facts = low_fact us r.taken ∷ []; waiting = []; added = 0 })
    (joined (record { facts = high_fact us r.taken ∷ []; waiting = []; added = 0 })
    (outcome (with_next us) r.form).yes))
quotient-joins us r c =
    let low : Branch = record { facts = low_fact us r.taken ∷ []; waiting = []; added = 0 } in
    let high : Branch = record { facts = high_fact us r.taken ∷ []; waiting = []; added = 0 } in
    let rest : Branch = (outcome (with_next us) r.form).yes in
    joined-joined (joined (one_more c) low) high rest ∙ joined-joined (one_more c) low (joined high rest)

-- with a variable more, the branch is cut back to the same
base-grown : (f : Frame) (c x : Branch) → f.facts ≡ length c.facts → f.waits ≡ length c.waiting →
    f.added ≡ c.added → base_of f (joined (one_more c) x) ≡ c
base-grown f c x p q a =
    base-joined f (one_more c) x (omega (arith, p)) (omega (arith, q)) ∙ base-whole f c p q a

-- what `quot` makes where the formula has a quotient
quot-makes : (us : List Variable) (b : Branch) (k place v : ℕ) (form : CForm) (r : Replaced) → k ≡ suc place →
    slice_get b.waiting place ≡ Some form → v ≡ next_param us → without_quotient v form ≡ Some r →
    quot_at us b k ≡ opens (with_quotient us r (without b place) ∷ [])
quot-makes us b k place v form r ek taken ev er =
    ap (quot_at us b) ek
    ∙ ap (λ m. made_quot us b place (option_and_then (without_quotient (next_param us)) m)) taken
    ∙ ap (λ n. made_quot us b place (without_quotient n form)) (sym ev) ∙ ap (made_quot us b place) er

pub quot-goes : (vs us : List Variable) (levels : ℕ) (b now : Branch) (k place facts waits added v : ℕ)
    (frames more : List Frame) (form : CForm) (r : Replaced) →
    k ≡ suc place → slice_get b.waiting place ≡ Some form → place < length b.waiting → 0 < levels →
    FramesFit (reverse frames) b →
    facts ≡ length b.facts → waits ≡ length (remove b.waiting place) → added ≡ b.added → added + levels ≤ 4096 →
    v ≡ next_param us → without_quotient v form ≡ Some r →
    more ≡ frames ++ form_frame levels facts waits added place form false ∷ [] →
    now ≡ with_quotient us r (without b place) →
    (step_by levels (behind vs (reverse frames) b) (quot_at us b k) ≡ Ok
    (allowing (levels - 1) now ∷ behind vs (reverse more) now)) × FramesFit (reverse more) now
quot-goes vs us levels b now k place facts waits added v frames more form r ek taken inside low fits ef ew ea er ev eq
    em en =
    let c : Branch = without b place in
    let full = full-again b place form taken in
    let f : Frame = form_frame levels facts waits added place form false in
    let turn : reverse more ≡ f ∷ reverse frames = ap reverse em ∙ reversed frames f in
    let x : Branch = joined (record { facts = low_fact us r.taken ∷ []; waiting = []; added = 0 })
    (joined (record { facts = high_fact us r.taken ∷ []; waiting = []; added = 0 })
    (outcome (with_next us) r.form).yes) in
    let all : now ≡ joined (one_more c) x = en ∙ quotient-joins us r c in
    let base = base-grown f c x ef ew ea in
    let back : behind vs (reverse more) now ≡ behind vs (reverse frames) b =
    ap (λ z. behind vs z now) turn ∙ ap (behind vs (f ∷ reverse frames)) all
    ∙ ap (λ y. behind vs (reverse frames) (full_by f.todo y)) base ∙ ap (behind vs (reverse frames)) full in
    let room : place ≤ waits = (let l = remove-length b.waiting place inside in omega (arith, l, ew)) in
    let m = length-append c.facts x.facts in let n = length-append c.waiting x.waiting in (
      ap (step_by levels (behind vs (reverse frames) b)) (quot-makes us b k place v form r ek taken ev eq)
          ∙ ap (λ z. Ok (allowing (levels - 1) z ∷ behind vs (reverse frames) b)) (sym en)
          ∙ ap (λ z. Ok (allowing (levels - 1) now ∷ z)) (sym back),
      subst (λ z. FramesFit z now) (sym turn) (subst (FramesFit (f ∷ reverse frames)) (sym all) (
        record {
          levels = low;
          facts = omega (arith, m, ef);
          waits = omega (arith, n, ew);
          place = room;
          added = omega (arith, ea);
          room = er;
        },
        subst (λ y. FramesFit (reverse frames) (full_by f.todo y)) (sym base)
            (subst (FramesFit (reverse frames)) (sym full) fits),
      )),
    )

-- a formula without a quotient
pub quot-stops : (us : List Variable) (levels : ℕ) (ps : List OpenBranch) (b : Branch) (k place v : ℕ)
    (form : CForm) → k ≡ suc place → slice_get b.waiting place ≡ Some form → v ≡ next_param us →
    without_quotient v form ≡ None → step_by levels ps (quot_at us b k) ≡ Err Code.NothingToQuot
quot-stops us levels ps b k place v form ek taken ev er =
    ap (λ z. step_by levels ps (quot_at us b z)) ek
    ∙ ap (λ m. step_by levels ps (made_quot us b place (option_and_then (without_quotient (next_param us)) m))) taken
    ∙ ap (λ n. step_by levels ps (made_quot us b place (without_quotient n form))) (sym ev)
    ∙ ap (λ m. step_by levels ps (made_quot us b place m)) er

abbrev pub todo_frame : ℕ → ℕ → ℕ → ℕ → Todo → Frame
todo_frame levels facts waits added todo = record {
  levels = levels;
  facts = facts;
  waits = waits;
  added = added;
  todo = todo;
  first = true;
}

-- a node that goes on with a fact, and then with what its frame keeps
pub fact-goes : (vs : List Variable) (levels : ℕ) (b now : Branch) (facts waits more_added : ℕ)
    (frames more : List Frame)
    (g : Fact) (t : Todo) (effect : NodeEffect) (done : Bool) → 0 < levels → FramesFit (reverse frames) b →
    facts ≡ length b.facts → waits ≡ length b.waiting → more_added ≡ b.added → more_added + levels ≤ 4096 →
    more ≡ frames ++ todo_frame levels facts waits more_added t ∷ [] → full_by t b ≡ b → place_fits t waits →
    now ≡ added b g → effect ≡ opens (added b g ∷ second_by vs t b ∷ []) → done ≡ false →
    (step_by levels (behind vs (reverse frames) b) effect ≡ Ok
    (cond done [] (allowing (levels - 1) now ∷ behind vs (reverse more) now))) × FramesFit (reverse more) now
fact-goes vs levels b now facts waits more_added frames more g t effect done low fits ef ew ea er em full place en ee
    ed =
    let f : Frame = todo_frame levels facts waits more_added t in
    let turn : reverse more ≡ f ∷ reverse frames = ap reverse em ∙ reversed frames f in
    let x : Branch = record { facts = g ∷ []; waiting = []; added = 0 } in
    let o = over vs f (reverse frames) b b x ef ew ea full refl in (
      ap (step_by levels (behind vs (reverse frames) b)) ee
          ∙ ap (λ z. Ok (allowing (levels - 1) (added b g) ∷ z)) (sym o)
          ∙ ap (λ z. Ok (allowing (levels - 1) (added b g) ∷ behind vs z (added b g))) (sym turn)
          ∙ ap (λ z. Ok (allowing (levels - 1) z ∷ behind vs (reverse more) z)) (sym en)
          ∙ ap (λ d. Ok (cond d [] (allowing (levels - 1) now ∷ behind vs (reverse more) now))) (sym ed),
      subst (FramesFit (reverse more)) (sym en) (subst (λ z. FramesFit z (added b g)) (sym turn)
          (over-fits f (reverse frames) b b x low ef ew ea er full place fits)),
    )

-- the two branches of a variable that is there
pub split-opens : (vs : List Variable) (b : Branch) (v place : ℕ) (k low most : ℤ) (g : Fact) → v ≡ suc place →
    place < length vs → low ≡ k → most ≡ k → g ≡ at_most place low →
    split_at vs b v k ≡ opens (added b g ∷ added b (at_least place (most +ℤ pos 1)) ∷ [])
split-opens vs b v place k low most g ev inside el em eg =
    ap (λ w. split_at vs b w k) ev
    ∙ ap (λ t. cond t (opens (added b (at_most place k) ∷ added b (at_least place (k +ℤ pos 1)) ∷ []))
    (fails Code.NoSuchVariable)) (below place (length vs) inside)
    ∙ ap (λ x. opens (added b x ∷ added b (at_least place (k +ℤ pos 1)) ∷ [])) (sym (eg ∙ ap (at_most place) el))
    ∙ ap (λ x. opens (added b g ∷ added b (at_least place (x +ℤ pos 1)) ∷ [])) (sym em)
  where
    below : (a b : ℕ) → a < b → nat_lt a b ≡ true
    below a b h = grind arith

-- the two branches of a statement
pub share-opens : (b : Branch) (r : Result Line Code) (l : Line) (g h : Fact) → r ≡ Ok l → g ≡ fact_of (below_0 l) →
    h ≡ fact_of l → made_share b r ≡ opens (added b g ∷ added b h ∷ [])
share-opens b r l g h er eg eh =
    ap (made_share b) er
    ∙ ap (λ x. opens (added b x ∷ added b (fact_of l) ∷ [])) (sym eg)
    ∙ ap (λ x. opens (added b g ∷ added b x ∷ [])) (sym eh)

-- what a node makes where a level is left
pub made-allowed : (vs : List Variable) (levels : ℕ) (b : Branch) (n : Node) → 0 < levels →
    made vs (allowing levels b) n ≡ made_by (scope_of vs b) b n
made-allowed vs levels b n h = ap (λ t. cond t (made_by (scope_of vs b) b n) (fails Code.CertTooDeep)) (some levels h)
  where
    some : (a : ℕ) → 0 < a → nat_lt 0 a ≡ true
    some a h = grind arith

pub added-behind : (vs : List Variable) (fs : List Frame) (b new : Branch) (f : Fact) → new ≡ added b f →
    FramesFit fs b → behind vs fs new ≡ behind vs fs b
added-behind vs fs b new f e h = ap (behind vs fs) e
    ∙ behind-joined vs fs b (record { facts = f ∷ []; waiting = []; added = 0 }) h

pub added-fits : (fs : List Frame) (b new : Branch) (f : Fact) → new ≡ added b f → FramesFit fs b → FramesFit fs new
added-fits fs b new f e h = subst (FramesFit fs) (sym e)
    (fits-joined fs b (record { facts = f ∷ []; waiting = []; added = 0 }) h)

pub ruleset round_laws = (added-behind, added-fits)

pub ruleset trips = to_z-of_z

-- Lightness.
pub light-bound : (bound : ℕ) (f : CForm) → is_light bound f ≡ true → (need f).yes ≤ bound
light-bound bound f h = grind arith

take-all : {A : Type 0} (t : A → Bool) (n : ℕ) (xs : List A) → list_all t xs ≡ true → list_all t (take n xs) ≡ true
take-all t zero xs h = refl
take-all t (suc n) [] h = refl
take-all t (suc n) (x ∷ xs) h =
    let p = and_parts (t x) (list_all t xs) h in ap (λ z. z && list_all t (take n xs)) p.0 ∙ take-all t n xs p.1

insert-all : {A : Type 0} (t : A → Bool) (xs : List A) (n : ℕ) (x : A) → list_all t xs ≡ true → t x ≡ true →
    list_all t (insert xs n x) ≡ true
insert-all t [] zero x h k = ap (λ z. z && true) k
insert-all t [] (suc n) x h k = ap (λ z. z && true) k
insert-all t (y ∷ ys) zero x h k = ap (λ z. z && list_all t (y ∷ ys)) k ∙ h
insert-all t (y ∷ ys) (suc n) x h k =
    let p = and_parts (t y) (list_all t ys) h in
    ap (λ z. z && list_all t (insert ys n x)) p.0 ∙ insert-all t ys n x p.1 k

pub get-all : {A : Type 0} (t : A → Bool) (xs : List A) (k : ℕ) (x : A) → slice_get xs k ≡ Some x →
    list_all t xs ≡ true → t x ≡ true
get-all t [] k f e h = cc
get-all t (x ∷ xs) zero f e h = let s : x ≡ f = cc in ap t (sym s) ∙ (and_parts (t x) (list_all t xs) h).0
get-all t (x ∷ xs) (suc k) f e h = get-all t xs k f e (and_parts (t x) (list_all t xs) h).1

pub cut-light : (n : ℕ) (old new : List CForm) → new ≡ take n old → list_all (is_light (2 ^ 63)) old ≡ true →
    list_all (is_light (2 ^ 63)) new ≡ true
cut-light n old new e h = ap (list_all (is_light (2 ^ 63))) e ∙ take-all (is_light (2 ^ 63)) n old h

pub ruleset cut_laws = cut-light

pub insert-light : (n : ℕ) (f : CForm) (old new : List CForm) → new ≡ insert old n f → is_light (2 ^ 63) f ≡ true →
    list_all (is_light (2 ^ 63)) old ≡ true → list_all (is_light (2 ^ 63)) new ≡ true
insert-light n f old new e k h =
    ap (list_all (is_light (2 ^ 63))) e ∙ insert-all (is_light (2 ^ 63)) old n f h k

pub ruleset insert_laws = insert-light

pub added-light : (f : Fact) (old new : Branch) → new ≡ added old f → is_light_branch (2 ^ 63) old ≡ true →
    is_light_branch (2 ^ 63) new ≡ true
added-light f old new e h =
    ap (is_light_branch (2 ^ 63)) e ∙ list_all-append (is_light (2 ^ 63)) old.waiting [] ∙ ap (λ z. z && true) h

pub ruleset added_laws = (added-light, light-bound)

pub without-light : (k : ℕ) (old new : List CForm) → new ≡ remove old k → list_all (is_light (2 ^ 63)) old ≡ true →
    list_all (is_light (2 ^ 63)) new ≡ true
without-light k old new e h = ap (list_all (is_light (2 ^ 63))) e ∙ remove-light (is_light (2 ^ 63)) k old h

-- the innermost frame put on, or taken off
pub pushed-light : (old new : List Frame) (f : Frame) → new ≡ old ++ f ∷ [] → are_light old ≡ true →
    is_light_todo f.todo ≡ true → are_light new ≡ true
pushed-light old new f e h k =
    ap are_light e ∙ list_all-append (λ (g : Frame). is_light_todo g.todo) old (f ∷ [])
    ∙ ap (λ z. z && (is_light_todo f.todo && true)) h ∙ ap (λ z. z && true) k

pub popped-light : (old new : List Frame) (f : Frame) → old ≡ new ++ f ∷ [] → are_light old ≡ true →
    (are_light new ≡ true) × (is_light_todo f.todo ≡ true)
popped-light old new f e h =
    let whole = sym (list_all-append (λ (g : Frame). is_light_todo g.todo) new (f ∷ [])) ∙ ap are_light (sym e) ∙ h in
    let p = and_parts (are_light new) (is_light_todo f.todo && true) whole in
    (p.0, (and_parts (is_light_todo f.todo) true p.1).0)

pub first-light : (o : Obligation) (b : Branch) → form_load o.form ≤ 2 ^ 62 → b ≡ first_branch o →
    is_light_branch (2 ^ 63) b ≡ true
first-light o b h e =
    let n = need-within o.form in
    let no : (need o.form).no ≤ 2 ^ 63 = omega (arith, n, h) in
    ap (is_light_branch (2 ^ 63)) e ∙ refused-light o.variables (2 ^ 63) o.form (ranges_only o.variables) no refl
