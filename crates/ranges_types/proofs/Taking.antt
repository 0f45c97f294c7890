-- A slot that is taken where it is new.
use Rattle.std.proofs.Common.{◌≡◌, ℕ, Bool, false, not, Result, Ok, Err, subst, ◌∙◌, refl}
use Rattle.std.specs.List.{list_any}
use Rattle.indexmap.specs.IndexSet.{insert_key}
use Rattle.case_tables.specs.declared.code_table.Code.{Code}
use Rattle.names_rules.specs.declared.named.NameFault.{NameFault}
use Rattle.names_rules.specs.Reading.{unless}
use Rattle.names_rules.specs.Answers.{Demands, Stops}
use Rattle.names_rules.specs.Declarations.{StartSlot, StartSlots, same_slot}
use Rattle.names_rules.proofs.Steps.{is_absent}
use Rattle.ranges_types.specs.Enters.{TakesSlot}

pub slot_taken : (result : Result (Unit {0}) NameFault) (ks more : StartSlots) (slot : StartSlot) (is_new : Bool)
    (at : ℕ) →
    is_new ≡ not (list_any (same_slot slot) ks) → more ≡ insert_key same_slot ks slot →
    Demands result (unless is_new Code.DeclaredTwice at) → TakesSlot result ks more slot at
slot_taken (Ok t) ks more slot is_new at h w d =
    let free : list_any (same_slot slot) ks ≡ false = is_absent is_new _ Code.DeclaredTwice at h d in
    (free, w ∙ rw free refl)
slot_taken (Err f) ks more slot is_new at h w d = subst (λ (b : Bool). Stops f (unless b Code.DeclaredTwice at)) h d
