use Rattle.std.proofs.Common.{[], length, refl, sym, ap}
use Rattle.std.specs.Option.{option_map_or}
use Rattle.std.proofs.lemmas.Option.{slice_get_read, slice_get_past}
use Rattle.schedule_replay.specs.Lines.{word_text}
use Rattle.schedule_replay.proofs.BufferLaws.{put_nothing, put_same}
use Rattle.solver_scripts.proofs.names.put_param_name.Goals as goal

pub returns-in-Some : goal.returns-in-Some
returns-in-Some g c =
    let params = c.args.params.now in
    let at = c.in-Some.ensures.lookup in
    put_same (ap (λ w. option_map_or (word_text c.args.words.now) w [])
    (sym (slice_get_read params (length params) c.args.number c.in-Some.word.now refl at.3.0 at.1)))
    c.put_word.ensures

pub returns-in-None : goal.returns-in-None
returns-in-None g c =
    put_same (ap (λ w. option_map_or (word_text c.args.words.now) w [])
    (sym (slice_get_past c.args.params.now c.args.number c.in-None.ensures.lookup.3)))
    (put_nothing _ _ _)
