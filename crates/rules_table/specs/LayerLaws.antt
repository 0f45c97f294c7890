-- What is carried from a program to a layer over it.
use Rattle.std.specs.Prelude.{◌≡◌, ℤ, List, Ok, IsTrue}
use Rattle.std.specs.List.{list_all}
use Rattle.core_terms.specs.Conditions.{IsProgram}
use Rattle.core_terms.specs.Values.{form_value}
use Rattle.meaning_states.specs.State.{State}
use Rattle.core_terms.specs.declared.programs.CSlot.{CSlot}
use Rattle.core_terms.specs.declared.programs.CProgram.{CProgram}
use Rattle.meaning_executions.specs.Properties.{IsInvariant}
use Rattle.fair_rounds.specs.from_executor.CoreSystem.{core_system}
use Rattle.fair_rounds.specs.Records.{meets, are_in_ranges}
use Rattle.fair_rounds.specs.declared.records.Record.{Record}
use Rattle.layer_laws.specs.Layers.{IsOver}
use Rattle.layer_laws.specs.Resets.{reset}
use Rattle.rules_table.specs.Conclusion.{Conclusion}
use Rattle.rules_table.specs.Layers.{is_layer, is_new, superpose_of}
use Rattle.rules_table.specs.Sound.{IsSite, IsPartPremise, StandsWhereValid, HoldThroughout}
use Rattle.rules_table.specs.Table.{Site}
use Rattle.rules_table.specs.Validity.{AllValid}

-- a layer does what the program under it does, where the layer's own slots are put back
abbrev pub LayerIsOver : Type 0
LayerIsOver = (slots : List CSlot) (h f : CProgram) → IsProgram slots h → IsProgram slots f → IsTrue (is_layer h f) →
    IsOver (core_system slots h) (core_system slots f) (reset (is_new h f) 0)

-- `superpose`: what stands of a program stands of a layer over it, a leads-to within its bound
abbrev pub SuperposeSound : Type 0
SuperposeSound = (site : Site) → IsSite site → IsProgram site.slots site.program → (f : CProgram) →
    IsProgram site.slots f → (a : Record) → IsPartPremise site f a → StandsWhereValid site (superpose_of site f a)

-- the first states of the layer at which U holds are first states of the program under it
abbrev pub SuperposeBegins : Type 0
SuperposeBegins = (site : Site) → IsSite site → IsProgram site.slots site.program → (f : CProgram) →
    IsProgram site.slots f → (e : List ℤ) → IsTrue (are_in_ranges site.params e) → (a : Record) (d : Conclusion) →
    superpose_of site f a ≡ Ok d → AllValid site.slots d.goals → (s : State) →
    IsTrue ((core_system site.slots site.program).initial s) → IsTrue (list_all (λ g. form_value s e g) site.using) →
    IsTrue ((core_system site.slots f).initial s)

-- what a layer's record stands under holds throughout the layer, where it does throughout the program under it and U
-- does throughout the layer
abbrev pub SuperposeShows : Type 0
SuperposeShows = (site : Site) → IsSite site → IsProgram site.slots site.program → (f : CProgram) →
    IsProgram site.slots f → (e : List ℤ) → IsTrue (are_in_ranges site.params e) → (a : Record) (d : Conclusion) →
    superpose_of site f a ≡ Ok d → AllValid site.slots d.goals → HoldThroughout site site.using →
    IsInvariant (core_system site.slots f) (meets site.slots a.under) → HoldThroughout site a.under
