use Rattle.std.proofs.Common.{[], length, refl, sym, ap}
use Rattle.std.specs.Option.{option_map_or}
use Rattle.std.proofs.lemmas.Option.{slice_get_read, slice_get_past}
use Rattle.schedule_replay.proofs.BufferLaws.{put_nothing, put_same}
use Rattle.solver_scripts.specs.Naming.{slot_symbol}
use Rattle.solver_scripts.proofs.names.put_slot_name.Goals as goal

pub returns-in-Some : goal.returns-in-Some
returns-in-Some g c =
    let slots = c.args.slots.now in
    let at = c.in-Some.ensures.lookup in
    put_same (ap (λ s. option_map_or (slot_symbol c.args.words.now) s [])
    (sym (slice_get_read slots (length slots) c.args.number c.in-Some.slot.now refl at.3.0 at.1)))
    c.put_slot.ensures

pub returns-in-None : goal.returns-in-None
returns-in-None g c =
    put_same (ap (λ s. option_map_or (slot_symbol c.args.words.now) s [])
    (sym (slice_get_past c.args.slots.now c.args.number c.in-None.ensures.lookup.3)))
    (put_nothing _ _ _)
