use Rattle.certificate_events.proofs.SectionLaws.{told_by_tokens, events_of_sections}
use Rattle.certificate_events.proofs.laws.section_laws.Goals as goal

pub returns-clause-told : goal.returns-clause-told
returns-clause-told c = told_by_tokens

pub returns-clause-events : goal.returns-clause-events
returns-clause-events c = events_of_sections
