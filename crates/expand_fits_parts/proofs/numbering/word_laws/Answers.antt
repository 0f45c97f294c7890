use Rattle.expand_fits_parts.proofs.Conditions.Programs.{texts_have_places, numbers_tell_texts, programs_have_words}
use Rattle.expand_fits_parts.proofs.numbering.word_laws.Goals as goal

pub returns-clause-places : goal.returns-clause-places
returns-clause-places c = texts_have_places

pub returns-clause-tell : goal.returns-clause-tell
returns-clause-tell c = numbers_tell_texts

pub returns-clause-programs : goal.returns-clause-programs
returns-clause-programs c = programs_have_words
