-- The formulas of the statement that helps name what exists.
use Rattle.std.proofs.Common.{ℕ, ◌+◌, ◌≤◌, ℤ, List, [], ◌∷◌, ◌++◌, map}
use Rattle.std.proofs.Common.{IsTrue, length, arith}
use Rattle.std.specs.Prelude.{All}
use Rattle.std.proofs.lemmas.List.Elements.{All-nil, All-cons, All-head, All-tail, All-append}
use borrow.Author.Tests.{ltb-true}
use Rattle.core_terms.specs.declared.trees.Range.{Range}
use Rattle.core_terms.specs.declared.trees.CForm.{CForm}
use Rattle.core_terms.specs.declared.trees.CTerm.TheVariants.{Const}
use Rattle.core_terms.specs.declared.programs.CSlot.{CSlot}
use Rattle.core_terms.specs.declared.programs.CStmt.{CStmt}
use Rattle.core_terms.specs.declared.documents.Arg.{Arg}
use Rattle.core_terms.specs.Conditions.{FormFits, StatementFits, arg_names_only, is_below}
use Rattle.core_terms.specs.Folding.{zero_form, difference_term, not_form, and_form, or_form}
use Rattle.core_terms.specs.Places.{slots_step, params_step}
use Rattle.core_terms.specs.Replacing.{shifted}
use Rattle.wp_substitution.specs.Preconditions.{and_all, all_of, wp_form}
use Rattle.wp_substitution.proofs.PlaceLaws.{constant_within, difference_within, zero_within, top_within}
use Rattle.wp_substitution.proofs.PlaceLaws.{bottom_within}
use Rattle.rules_table.specs.Forms.{or_any, any_of, imply}
use Rattle.rules_table.specs.Table.{equations}
use Rattle.safety_rules.specs.Usable.{NamesExist}
use Rattle.safety_rules.proofs.InstanceLaws.{shifted_within}
use Rattle.safety_rules.proofs.UsableLaws.{exist_not, exist_and, exist_or, exist_imply}
use Rattle.wp_substitution.proofs.NamedLaws.{slot_counts, param_counts}
use Rattle.safety_rules.proofs.UsableLaws.{exist_wp, all_usable, all_exist, fits_exist}

module _ (slots : List CSlot) (params : List Range) where
  abbrev Exist : CForm → Type 0
  Exist f = NamesExist slots params f

  abbrev IsSeen : Arg → Type 0
  IsSeen a = IsTrue (arg_names_only (is_below (length params)) a)

  equation_exists : (n : ℕ) (add z : ℤ) → n + 1 ≤ length params →
      Exist (zero_form (difference_term (shifted n add) (Const z)))
  equation_exists n add z h = record {
    slots_exist = zero_within slots_step slot_counts (length slots) (difference_term (shifted n add) (Const z))
        (difference_within slots_step slot_counts (length slots) (shifted n add) (Const z)
        (shifted_within slots_step slot_counts (length slots) n add (omega arith))
        (constant_within slots_step slot_counts (length slots) z));
    params_exist = zero_within params_step param_counts (length params) (difference_term (shifted n add) (Const z))
        (difference_within params_step param_counts (length params) (shifted n add) (Const z)
        (shifted_within params_step param_counts (length params) n add h)
        (constant_within params_step param_counts (length params) z));
  }

  pub equations_exist : (args : List Arg) (zs : List ℤ) → All IsSeen args → All Exist (equations args zs)
  equations_exist [] zs seen = All-nil Exist
  equations_exist (a ∷ args) [] seen = All-nil Exist
  equations_exist (Arg.Number k ∷ args) (z ∷ zs) seen =
      equations_exist args zs (All-tail IsSeen (Arg.Number k) args seen)
  equations_exist (Arg.Slot ∷ args) (z ∷ zs) seen = equations_exist args zs (All-tail IsSeen Arg.Slot args seen)
  equations_exist (Arg.Param n add ∷ args) (z ∷ zs) seen =
      let less = ltb-true n (length params) (All-head IsSeen (Arg.Param n add) args seen) in
      All-cons Exist (zero_form (difference_term (shifted n add) (Const z))) (equations args zs)
      (equation_exists n add z (omega (arith, less))) (equations_exist args zs (All-tail IsSeen
      (Arg.Param n add) args seen))

  all_exists : (f : CForm) (fs : List CForm) → Exist f → All Exist fs → Exist (and_all f fs)
  all_exists f [] h k = h
  all_exists f (g ∷ fs) h k =
      all_exists (and_form f g) fs (exist_and slots params f g h (All-head Exist g fs k)) (All-tail Exist g fs k)

  all_of_exists : (fs : List CForm) → All Exist fs → Exist (all_of fs)
  all_of_exists [] h = record {
    slots_exist = top_within slots_step slot_counts (length slots);
    params_exist = top_within params_step param_counts (length params);
  }
  all_of_exists (f ∷ fs) h = all_exists f fs (All-head Exist f fs h) (All-tail Exist f fs h)

  any_exists : (f : CForm) (fs : List CForm) → Exist f → All Exist fs → Exist (or_any f fs)
  any_exists f [] h k = h
  any_exists f (g ∷ fs) h k =
      any_exists (or_form f g) fs (exist_or slots params f g h (All-head Exist g fs k)) (All-tail Exist g fs k)

  any_of_exists : (fs : List CForm) → All Exist fs → Exist (any_of fs)
  any_of_exists [] h = record {
    slots_exist = bottom_within slots_step slot_counts (length slots);
    params_exist = bottom_within params_step param_counts (length params);
  }
  any_of_exists (f ∷ fs) h = any_exists f fs (All-head Exist f fs h) (All-tail Exist f fs h)

  meanings_exist : (args : List Arg) (ss : List CStmt) → All IsSeen args →
      All Exist (map (λ (s : CStmt). all_of (equations args s.indices)) ss)
  meanings_exist args [] seen = All-nil Exist
  meanings_exist args (s ∷ ss) seen =
      All-cons Exist (all_of (equations args s.indices))
      (map (λ (t : CStmt). all_of (equations args t.indices)) ss)
      (all_of_exists (equations args s.indices) (equations_exist args s.indices seen)) (meanings_exist args ss seen)

  pub meant_exists : (args : List Arg) (ss : List CStmt) → All IsSeen args →
      Exist (any_of (map (λ (s : CStmt). all_of (equations args s.indices)) ss))
  meant_exists args ss seen =
      any_of_exists (map (λ (s : CStmt). all_of (equations args s.indices)) ss) (meanings_exist args ss seen)

  pub helped_exists : (using : List CForm) (p q : CForm) (args : List Arg) (s : CStmt) →
      All (FormFits slots []) using → FormFits slots params p → FormFits slots params q → All IsSeen args →
      StatementFits slots s →
      Exist (imply (using ++ (p ∷ not_form q ∷ equations args s.indices)) (wp_form slots s (imply using q)))
  helped_exists using p q args s closed fp fq seen fits =
      let here : All Exist using = all_exist slots params using (all_usable slots params using closed) in
      let eq : Exist q = fits_exist slots params q fq in
      let rest : List CForm = equations args s.indices in
      exist_imply slots params (using ++ (p ∷ not_form q ∷ rest)) (wp_form slots s (imply using q))
      (All-append Exist using (p ∷ not_form q ∷ rest) here
      (All-cons Exist p (not_form q ∷ rest) (fits_exist slots params p fp)
      (All-cons Exist (not_form q) rest (exist_not slots params q eq) (equations_exist args s.indices seen))))
      (exist_wp slots params s (imply using q) fits (exist_imply slots params using q here eq))
