-- A program in which other states are starts.
use Rattle.std.proofs.Common.{◌≡◌, ℕ, ℤ, List, [], None, IsTrue, sym, subst}
use Rattle.core_terms.specs.declared.trees.CForm.{CForm}
use Rattle.core_terms.specs.declared.programs.CSlot.{CSlot}
use Rattle.core_terms.specs.declared.programs.CStmt.{CStmt}
use Rattle.core_terms.specs.declared.programs.CProgram.{CProgram}
use Rattle.core_terms.specs.Places.{form_names_only}
use Rattle.core_terms.specs.Conditions.{IsProgram, FormFits, StartFits, is_shown, any_place}
use Rattle.examples_bounds.proofs.TableLaws.{no_pairs, no_items}

abbrev made : ℕ → List ℕ → CForm → List (ℕ × ℤ) → List CStmt → CProgram
made name shown top start ss =
    record { name = name; parts = None; shown = shown; initially = top; start = start; statements = ss }

pub opened : (slots : List CSlot) (p : CProgram) (name : ℕ) (shown : List ℕ) (top : CForm) (start : List (ℕ × ℤ))
    (ss : List CStmt) → IsProgram slots p → shown ≡ p.shown → start ≡ [] → ss ≡ p.statements →
    FormFits slots [] top → IsTrue (form_names_only (is_shown p.shown) any_place top) →
    IsProgram slots (record {
      name = name;
      parts = None;
      shown = shown;
      initially = top;
      start = start;
      statements = ss;
    })
opened slots p name shown top start ss is e f g fits names =
    let base : IsProgram slots (made name p.shown top [] p.statements) = record {
      some = is.some;
      few = is.few;
      apart = is.apart;
      statements = is.statements;
      initially = fits;
      one_start = no_pairs (λ d e. d.0 ≡ e.0 → ⊥);
      start = no_items (StartFits slots);
      shown = is.shown;
      rising = is.rising;
      shown_initially = names;
      shown_start = no_items (λ e. IsTrue (is_shown p.shown e.0));
      shown_statements = is.shown_statements;
    } in
    subst (λ xs. IsProgram slots (made name xs top start ss)) (sym e)
    (subst (λ xs. IsProgram slots (made name p.shown top xs ss)) (sym f)
    (subst (λ xs. IsProgram slots (made name p.shown top [] xs)) (sym g) base))
