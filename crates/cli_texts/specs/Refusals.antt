-- Why a document cannot be used.
use Rattle.std.specs.Prelude.{ℕ, List, [], ◌∷◌, ◌++◌, codes, decimal}
use Rattle.case_tables.specs.declared.code_table.Code.{Code}
use Rattle.cli_texts.specs.Names.{code_text}

-- why bytes are no document, and at which byte
abbrev pub fault_text : Code → ℕ → List ℕ
fault_text code at = codes "bad " ++ (code_text code ++ (codes " byte " ++ (decimal at ++ 10 ∷ [])))

-- why what was given cannot be used, where no byte tells it
abbrev pub refusal_text : Code → List ℕ
refusal_text code = codes "bad " ++ (code_text code ++ 10 ∷ [])
