-- A document that was read from a text is sound.
use Rattle.std.proofs.Common.{◌≡◌, ℕ, ◌+◌, ◌≤◌, ◌<◌, ◌^◌, List, length, None, arith}
use Rattle.grammar_theory.specs.Ebnf.{Terminal, Derives}
use Rattle.grammar_theory.specs.Words.{words}
use Rattle.unity_syntax.specs.declared.document.Document.{Document}
use Rattle.unity_syntax.specs.Classes.{terminals, says_later}
use Rattle.unity_syntax.specs.Grammar.{grammar, document_}
use Rattle.unity_syntax.specs.View.{view}
use Rattle.unity_lexer.proofs.SomeAnswer.{IsTokens-in_order}
use Rattle.unity_parser.specs.Document.{IsDocument}
use Rattle.unity_parser.specs.ParseAnswers.{WordsRise}
use Rattle.unity_parser.proofs.Parsed.{words_stand}
use Rattle.expand_fits.proofs.Sound.{documents_sound}
use Rattle.names_rules.specs.WellNamed.{IsWellNamed}
use Rattle.expand_fits_parts.specs.from_expand_documents.Faults.{expansion_fault}
use Rattle.expand_fits.specs.DocumentLaws.{IsWellFormedForCore}
use Rattle.expand_fits.specs.ReadingLaws.{ReadSound, ReadCores}
use Rattle.expand_fits.proofs.Parsed.Numerals.{NoneLarger, SmallTokens, numbers_small}
use Rattle.expand_fits.proofs.Parsed.Tokens.{tokens_small}
use Rattle.expand_fits.proofs.Parsed.Literals.{literals_fit}
use Rattle.expand_fits.proofs.Parsed.Version.{version_is}
use Rattle.expand_fits.proofs.Parsed.Counts.{texts_told, all_steps_told}
use Rattle.expand_fits.proofs.Parsed.Places.{few_words, programs_apart, enumerations_apart}

-- the words of the document stand at rising places in the text
words_rise : (bytes : List ℕ) (d : Document) → IsDocument bytes d → WordsRise 0 (length bytes) (words (view d))
words_rise bytes d is = words_stand bytes is.tokens d is.parsed (IsTokens-in_order bytes is.tokens is.lexed)

few_texts : (n texts bytes : ℕ) → texts ≤ n → n ≤ bytes → bytes ≤ 2 ^ 29 + 2 → texts ≤ 1000000000
few_texts n texts bytes h k l = omega arith

few_steps : (n steps bytes : ℕ) → steps ≤ n → n ≤ bytes → bytes ≤ 2 ^ 29 + 2 → steps < 2 ^ 31
few_steps n steps bytes h k l = omega arith

-- a document of tokens whose words rise within so many places, and whose numbers are not too large
pub sound_by : (d : Document) (ts : List Terminal) (most : ℕ) → most ≤ 2 ^ 29 + 2 →
    Derives grammar document_ (view d) ts → WordsRise 0 most (words (view d)) → SmallTokens (2 ^ 62) ts →
    IsWellNamed d → expansion_fault d ≡ None → IsWellFormedForCore d
sound_by d ts most size derives rise small named expands =
    let n = length (words (view d)) in
    let fewer : n ≤ most = let h = few_words (words (view d)) 0 most rise in omega (arith, h.1) in
    let numbers : NoneLarger (2 ^ 62) (view d) = numbers_small (2 ^ 62) derives small in
    record {
      named = named;
      expands = expands;
      version = version_is d ts derives;
      words = record { few = few_texts n _ most (texts_told d) fewer size };
      steps = record { few = few_steps n _ most (all_steps_told d) fewer size };
      literals = literals_fit d numbers;
      programs = record { apart = programs_apart d most rise };
      enumerations = record { apart = enumerations_apart d most rise };
    }

pub read_sound : ReadSound
read_sound bytes d size is named expands =
    sound_by d (terminals (says_later is.tokens) bytes is.tokens) (length bytes) (omega (arith, size)) is.parsed.0
    (words_rise bytes d is) (tokens_small (says_later is.tokens) bytes bytes is.tokens is.lexed) named expands

pub read_cores : ReadCores
read_cores bytes d size is named expands = documents_sound d (read_sound bytes d size is named expands)
