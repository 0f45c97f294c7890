use Rattle.front_documents.proofs.Faults.{sections_complete, section_faults, sections_end_early}
use Rattle.front_documents.proofs.FrontWords.{words_in_front}
use Rattle.front_documents.proofs.Refusals.{front_faults_stay, token_faults_stay}
use Rattle.front_documents.proofs.laws.two_part_laws.Goals as goal

pub returns : goal.returns
returns c = record {
  front = front_faults_stay;
  tokens = token_faults_stay;
  sections = sections_complete;
  faults = section_faults;
  ends = sections_end_early;
  words = words_in_front;
}
