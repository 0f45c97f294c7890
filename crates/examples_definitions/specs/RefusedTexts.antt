-- Texts that are refused, each from its first bad token on.
use Rattle.std.specs.Prelude.{[], ◌∷◌, codes}
use Rattle.case_tables.specs.declared.word_table.Word.{Word}
use Rattle.case_tables.specs.declared.symbol_table.Symbol.{Symbol}
use Rattle.grammar_theory.specs.Reader.{Unexpected, OtherVersion, TooDeep}
use Rattle.examples_definitions.specs.TextForms.{name_token, number_token, reserved_token, symbol_token, Refusal}

-- a number that is no version
abbrev pub other_version : Refusal
other_version = record {
  levels = 200;
  text = codes "unity 3 program\n";
  before =
      reserved_token Word.Unity 0 5 ∷ [];
  rest =
      number_token 3 6 7 ∷ reserved_token Word.Program 8 15 ∷ [];
  fault = OtherVersion;
}

-- a word of version 2 in a text of version 1
abbrev pub later_word : Refusal
later_word = record {
  levels = 200;
  text = codes "unity 1 program F initially x div 2\n";
  before =
      reserved_token Word.Unity 0 5 ∷ number_token 1 6 7 ∷ reserved_token Word.Program 8 15 ∷ name_token 16 17
      ∷ reserved_token Word.Initially 18 27 ∷ name_token 28 29 ∷ [];
  rest =
      reserved_token Word.Div 30 33 ∷ number_token 2 34 35 ∷ [];
  fault = Unexpected;
}

-- a second relation in one comparison
abbrev pub second_relation : Refusal
second_relation = record {
  levels = 200;
  text = codes "unity 1 program F initially x = y = z\n";
  before =
      reserved_token Word.Unity 0 5 ∷ number_token 1 6 7 ∷ reserved_token Word.Program 8 15 ∷ name_token 16 17
      ∷ reserved_token Word.Initially 18 27 ∷ name_token 28 29 ∷ symbol_token Symbol.Equal 30 31
      ∷ name_token 32 33 ∷ [];
  rest =
      symbol_token Symbol.Equal 34 35 ∷ name_token 36 37 ∷ [];
  fault = Unexpected;
}

-- `=>` after an expression that has one
abbrev pub second_arrow : Refusal
second_arrow = record {
  levels = 200;
  text = codes "unity 1 program F initially x => y => z\n";
  before =
      reserved_token Word.Unity 0 5 ∷ number_token 1 6 7 ∷ reserved_token Word.Program 8 15 ∷ name_token 16 17
      ∷ reserved_token Word.Initially 18 27 ∷ name_token 28 29 ∷ symbol_token Symbol.Implies 30 32
      ∷ name_token 33 34 ∷ [];
  rest =
      symbol_token Symbol.Implies 35 37 ∷ name_token 38 39 ∷ [];
  fault = Unexpected;
}

-- `not` before `not`
abbrev pub not_not : Refusal
not_not = record {
  levels = 200;
  text = codes "unity 1 program F initially not not x\n";
  before =
      reserved_token Word.Unity 0 5 ∷ number_token 1 6 7 ∷ reserved_token Word.Program 8 15 ∷ name_token 16 17
      ∷ reserved_token Word.Initially 18 27 ∷ reserved_token Word.Not 28 31 ∷ [];
  rest =
      reserved_token Word.Not 32 35 ∷ name_token 36 37 ∷ [];
  fault = Unexpected;
}

-- `or` after `and`
abbrev pub and_or : Refusal
and_or = record {
  levels = 200;
  text = codes "unity 1 program F initially x and y or z\n";
  before =
      reserved_token Word.Unity 0 5 ∷ number_token 1 6 7 ∷ reserved_token Word.Program 8 15 ∷ name_token 16 17
      ∷ reserved_token Word.Initially 18 27 ∷ name_token 28 29 ∷ reserved_token Word.And 30 33 ∷ name_token 34 35 ∷ [];
  rest =
      reserved_token Word.Or 36 38 ∷ name_token 39 40 ∷ [];
  fault = Unexpected;
}

-- a certificate that has not its number
abbrev pub other_number : Refusal
other_number = record {
  levels = 200;
  text = codes "unity 1 certificates 1: sum; 3: sum; end\n";
  before =
      reserved_token Word.Unity 0 5 ∷ number_token 1 6 7 ∷ reserved_token Word.Certificates 8 20 ∷ number_token 1 21 22
      ∷ symbol_token Symbol.Colon 22 23 ∷ reserved_token Word.Sum 24 27 ∷ symbol_token Symbol.Semicolon 27 28 ∷ [];
  rest =
      number_token 3 29 30 ∷ symbol_token Symbol.Colon 30 31 ∷ reserved_token Word.Sum 32 35
      ∷ symbol_token Symbol.Semicolon 35 36 ∷ reserved_token Word.End 37 40 ∷ [];
  fault = Unexpected;
}

-- a node after the whole tree
abbrev pub node_too_many : Refusal
node_too_many = record {
  levels = 200;
  text = codes "unity 1 certificates 1: case 1 sum sum sum; end\n";
  before =
      reserved_token Word.Unity 0 5 ∷ number_token 1 6 7 ∷ reserved_token Word.Certificates 8 20 ∷ number_token 1 21 22
      ∷ symbol_token Symbol.Colon 22 23 ∷ reserved_token Word.Case 24 28 ∷ number_token 1 29 30
      ∷ reserved_token Word.Sum 31 34 ∷ reserved_token Word.Sum 35 38 ∷ [];
  rest =
      reserved_token Word.Sum 39 42 ∷ symbol_token Symbol.Semicolon 42 43 ∷ reserved_token Word.End 44 47 ∷ [];
  fault = Unexpected;
}

-- the end of a certificate before its tree is whole
abbrev pub node_missing : Refusal
node_missing = record {
  levels = 200;
  text = codes "unity 1 certificates 1: case 1 sum ; end\n";
  before =
      reserved_token Word.Unity 0 5 ∷ number_token 1 6 7 ∷ reserved_token Word.Certificates 8 20 ∷ number_token 1 21 22
      ∷ symbol_token Symbol.Colon 22 23 ∷ reserved_token Word.Case 24 28 ∷ number_token 1 29 30
      ∷ reserved_token Word.Sum 31 34 ∷ [];
  rest =
      symbol_token Symbol.Semicolon 35 36 ∷ reserved_token Word.End 37 40 ∷ [];
  fault = Unexpected;
}

-- the end of the text before that of a program
abbrev pub early_end : Refusal
early_end = record {
  levels = 200;
  text = codes "unity 1 program F assign a: x := 0 ";
  before =
      reserved_token Word.Unity 0 5 ∷ number_token 1 6 7 ∷ reserved_token Word.Program 8 15 ∷ name_token 16 17
      ∷ reserved_token Word.Assign 18 24 ∷ name_token 25 26 ∷ symbol_token Symbol.Colon 26 27 ∷ name_token 28 29
      ∷ symbol_token Symbol.Assign 30 32 ∷ number_token 0 33 34 ∷ [];
  rest =
      [];
  fault = Unexpected;
}

-- a bracket that the grammar allows, with no level left
abbrev pub bracket_too_many : Refusal
bracket_too_many = record {
  levels = 1;
  text = codes "unity 1 program F initially (x) + ((y))\n";
  before =
      reserved_token Word.Unity 0 5 ∷ number_token 1 6 7 ∷ reserved_token Word.Program 8 15 ∷ name_token 16 17
      ∷ reserved_token Word.Initially 18 27 ∷ symbol_token Symbol.OpenParenthesis 28 29 ∷ name_token 29 30
      ∷ symbol_token Symbol.CloseParenthesis 30 31 ∷ symbol_token Symbol.Plus 32 33
      ∷ symbol_token Symbol.OpenParenthesis 34 35 ∷ [];
  rest =
      symbol_token Symbol.OpenParenthesis 35 36 ∷ name_token 36 37 ∷ symbol_token Symbol.CloseParenthesis 37 38
      ∷ symbol_token Symbol.CloseParenthesis 38 39 ∷ [];
  fault = TooDeep;
}
