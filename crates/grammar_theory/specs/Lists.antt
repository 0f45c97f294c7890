-- The trees of repetitions.
use Rattle.std.specs.Prelude.{List, [], ◌∷◌}
use Rattle.grammar_theory.specs.Ebnf.{Tree, nil, more}

-- These items, and then those of the tree.
abbrev pub prepend : List Tree → Tree → Tree
prepend [] rest = rest
prepend (x ∷ xs) rest = more x (prepend xs rest)

-- The tree of these items.
abbrev pub list : List Tree → Tree
list [] = nil
list (x ∷ xs) = more x (list xs)
