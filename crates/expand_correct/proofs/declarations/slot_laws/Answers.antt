use Rattle.expand_correct.proofs.Declared.Slots.{slots_are_sound, slots_have_words, shown_exist, shown_rise}
use Rattle.expand_declarations.proofs.NearIndices.{indices_are_near}
use Rattle.expand_correct.proofs.declarations.slot_laws.Goals as goal

pub returns-clause-sound : goal.returns-clause-sound
returns-clause-sound c = slots_are_sound

pub returns-clause-words : goal.returns-clause-words
returns-clause-words c = slots_have_words

pub returns-clause-shown : goal.returns-clause-shown
returns-clause-shown c = shown_exist

pub returns-clause-rising : goal.returns-clause-rising
returns-clause-rising c = shown_rise

pub returns-clause-near : goal.returns-clause-near
returns-clause-near c = indices_are_near
