-- What is made of formulas without quotients by lists and by statements has none.
use Rattle.std.proofs.Common.{ℕ, nat_eq, Bool, true, false, cond, Option, Some, None, List, [], ◌∷◌, ◌++◌, map}
use Rattle.std.proofs.Common.{slice_get}
use Rattle.std.specs.List.{filter}
use Rattle.core_terms.specs.declared.trees.CTerm.{CTerm}
use Rattle.core_terms.specs.declared.trees.CTerm.TheVariants.{Const, Slot, Param}
use Rattle.core_terms.specs.declared.trees.CForm.{CForm}
use Rattle.core_terms.specs.declared.programs.CSlot.{CSlot}
use Rattle.core_terms.specs.declared.programs.CWrite.{CWrite}
use Rattle.core_terms.specs.declared.programs.CStmt.{CStmt}
use Rattle.core_terms.specs.Folding.{and_form, or_form, not_form, at_least_form, difference_term}
use Rattle.core_terms.specs.Folding.{choice_term, zero_form}
use Rattle.wp_substitution.specs.Preconditions.{and_all, all_of, inside_form, write_form, pair_form, writes_to}
use Rattle.wp_substitution.specs.Preconditions.{pair_forms, needs, defined_form, slot_after, form_after, wp_form}
use Rattle.fixed_points.specs.FixedForms.{same_value, fixed_part}
use Rattle.rules_table.specs.Forms.{or_any, any_of, imply}
use Rattle.rules_table.proofs.EachLaws.{Each, each_join, from_all}
use Rattle.plain_quotients.specs.Plain.{FormIsPlain, TermIsPlain, WriteIsPlain, StatementIsPlain}
use Rattle.plain_quotients.proofs.FormLaws.{top_plain, bottom_plain, const_plain, slot_plain, param_plain}
use Rattle.plain_quotients.proofs.FormLaws.{and_kept, or_kept, not_kept, at_least_kept, zero_kept, difference_kept}
use Rattle.plain_quotients.proofs.FormLaws.{choice_kept, form_kept}

-- lists

pub each_mapped : {X : Type 0} (P : X → Type 0) (make : X → CForm) → ((x : X) → P x → FormIsPlain (make x)) →
    (xs : List X) → Each P xs → Each FormIsPlain (map make xs)
each_mapped P make f [] h = tt
each_mapped P make f (x ∷ xs) h = (f x h.0, each_mapped P make f xs h.1)

pub each_filtered : {X : Type 0} (P : X → Type 0) (test : X → Bool) (xs : List X) → Each P xs → Each P (filter test xs)
each_filtered P test [] h = tt
each_filtered P test (x ∷ xs) h =
    elim (test x) as (λ b. Each P (cond b (x ∷ filter test xs) (filter test xs))) [
      | true ↦ (h.0, each_filtered P test xs h.1)
      | false ↦ each_filtered P test xs h.1
    ]

and_all_plain : (f : CForm) (fs : List CForm) → FormIsPlain f → Each FormIsPlain fs → FormIsPlain (and_all f fs)
and_all_plain f [] h k = h
and_all_plain f (g ∷ gs) h k = and_all_plain (and_form f g) gs (and_kept f g h k.0) k.1

pub all_plain : (fs : List CForm) → Each FormIsPlain fs → FormIsPlain (all_of fs)
all_plain [] h = top_plain
all_plain (f ∷ fs) h = and_all_plain f fs h.0 h.1

or_any_plain : (f : CForm) (fs : List CForm) → FormIsPlain f → Each FormIsPlain fs → FormIsPlain (or_any f fs)
or_any_plain f [] h k = h
or_any_plain f (g ∷ gs) h k = or_any_plain (or_form f g) gs (or_kept f g h k.0) k.1

pub any_plain : (fs : List CForm) → Each FormIsPlain fs → FormIsPlain (any_of fs)
any_plain [] h = bottom_plain
any_plain (f ∷ fs) h = or_any_plain f fs h.0 h.1

pub imply_plain : (fs : List CForm) (q : CForm) → Each FormIsPlain fs → FormIsPlain q → FormIsPlain (imply fs q)
imply_plain [] q h k = k
imply_plain (f ∷ fs) q h k =
    or_kept (not_form (all_of (f ∷ fs))) q (not_kept (all_of (f ∷ fs)) (all_plain (f ∷ fs) h)) k

-- statements

inside_plain : (t : CTerm) (o : Option CSlot) → TermIsPlain t → FormIsPlain (inside_form t o)
inside_plain t None h = bottom_plain
inside_plain t (Some s) h =
    and_kept (at_least_form (difference_term t (Const s.range.lo)))
    (at_least_form (difference_term (Const s.range.hi) t))
    (at_least_kept (difference_term t (Const s.range.lo))
    (difference_kept t (Const s.range.lo) h (const_plain s.range.lo)))
    (at_least_kept (difference_term (Const s.range.hi) t)
    (difference_kept (Const s.range.hi) t (const_plain s.range.hi) h))

write_plain : (slots : List CSlot) (w : CWrite) → WriteIsPlain w → FormIsPlain (write_form slots w)
write_plain slots w h =
    or_kept (not_form w.when) (inside_form w.value (slice_get slots w.slot)) (not_kept w.when h.condition)
    (inside_plain w.value (slice_get slots w.slot) h.value)

pair_plain : (v w : CWrite) → WriteIsPlain v → WriteIsPlain w → FormIsPlain (pair_form v w)
pair_plain v w h k =
    or_kept (not_form (and_form v.when w.when)) (zero_form (difference_term v.value w.value))
    (not_kept (and_form v.when w.when) (and_kept v.when w.when h.condition k.condition))
    (zero_kept (difference_term v.value w.value) (difference_kept v.value w.value h.value k.value))

same_plain : (w : CWrite) → WriteIsPlain w → FormIsPlain (same_value w)
same_plain w h =
    or_kept (not_form w.when) (zero_form (difference_term w.value (Slot w.slot))) (not_kept w.when h.condition)
    (zero_kept (difference_term w.value (Slot w.slot))
    (difference_kept w.value (Slot w.slot) h.value (slot_plain w.slot)))

pairs_plain : (ws : List CWrite) → Each WriteIsPlain ws → Each FormIsPlain (pair_forms ws)
pairs_plain [] h = tt
pairs_plain (w ∷ ws) h =
    each_join FormIsPlain (map (pair_form w) (writes_to w.slot ws)) (pair_forms ws)
    (each_mapped WriteIsPlain (pair_form w) (λ v k. pair_plain w v h.0 k) (writes_to w.slot ws)
    (each_filtered WriteIsPlain (λ v. nat_eq w.slot v.slot) ws h.1)) (pairs_plain ws h.1)

after_plain : (ws : List CWrite) (n : ℕ) → Each WriteIsPlain ws → TermIsPlain (slot_after ws n)
after_plain [] n h = slot_plain n
after_plain (w ∷ ws) n h =
    let rest = after_plain ws n h.1 in
    elim (nat_eq w.slot n) as (λ b. TermIsPlain (cond b (choice_term w.when w.value (slot_after ws n))
    (slot_after ws n))) [
      | true ↦ choice_kept w.when w.value (slot_after ws n) h.0.condition h.0.value rest
      | false ↦ rest
    ]

module _ (slots : List CSlot) (s : CStmt) (plain : StatementIsPlain s) where
  writes_plain : Each WriteIsPlain s.writes
  writes_plain = from_all WriteIsPlain s.writes plain.writes

  needs_plain : Each FormIsPlain (needs slots s)
  needs_plain =
      each_join FormIsPlain (map not_form s.outside ++ map (write_form slots) s.writes) (pair_forms s.writes)
      (each_join FormIsPlain (map not_form s.outside) (map (write_form slots) s.writes)
      (each_mapped FormIsPlain not_form not_kept s.outside (from_all FormIsPlain s.outside plain.outside))
      (each_mapped WriteIsPlain (write_form slots) (write_plain slots) s.writes writes_plain))
      (pairs_plain s.writes writes_plain)

  pub defined_plain : FormIsPlain (defined_form slots s)
  defined_plain = all_plain (needs slots s) needs_plain

  pub wp_plain : (q : CForm) → FormIsPlain q → FormIsPlain (wp_form slots s q)
  wp_plain q h =
      and_kept (defined_form slots s) (form_after s.writes q) defined_plain
      (form_kept (slot_after s.writes) (λ n. Param n) (λ n. after_plain s.writes n writes_plain) param_plain q h)

  pub fixed_plain : FormIsPlain (fixed_part slots s)
  fixed_plain =
      and_kept (defined_form slots s) (all_of (map same_value s.writes)) defined_plain
      (all_plain (map same_value s.writes) (each_mapped WriteIsPlain same_value same_plain s.writes writes_plain))
