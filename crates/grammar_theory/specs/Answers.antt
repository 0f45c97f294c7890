-- The exact answer for a list of tokens: its tree, or its first bad token.
use Rattle.std.specs.Prelude.{◌≡◌, ℕ, zero, suc, ◌≤◌, if◌then◌else◌, List, [], ◌∷◌, ◌++◌, Ok, Err, Result, Option, Some}
use Rattle.std.specs.Prelude.{None}
use Rattle.grammar_theory.specs.Ebnf.{Terminal, Tree, Ebnf, Grammar, of_any_version, Derives, has}
use Rattle.grammar_theory.specs.Reader.{Fault, Unexpected, OtherVersion, TooDeep, count}

-- The tokens are open: some tokens of the form begin with them.
pub record Opens (g : Grammar) (e : Ebnf) (front : List Terminal) : Type 0 where
  pub tree : Tree
  pub rest : List Terminal
  pub derives : Derives g e tree (front ++ rest)

-- The form goes on with the token with which the rest begins.
pub record Allowed (g : Grammar) (e : Ebnf) (ts rest : List Terminal) : Type 0 where
  pub front : List Terminal
  pub at : Terminal
  pub later : List Terminal
  pub rest_is : rest ≡ at ∷ later
  pub split : ts ≡ front ++ rest
  pub opens : Opens g e (front ++ at ∷ [])

-- The tokens before the rest are open, but no longer with the rest's first token. If there is none, the form does not
-- end there.
pub record FirstBadAt (g : Grammar) (e : Ebnf) (ts rest : List Terminal) : Type 0 where
  pub front : List Terminal
  pub split : ts ≡ front ++ rest
  pub opens : Opens g e front
  pub next : ¬ Allowed g e ts rest
  pub no_end : rest ≡ [] → (x : Tree) → ¬ Derives g e x ts

abbrev pub deeper : ℕ → (ℕ → Option (List Terminal)) → List Terminal → Option (List Terminal)
deeper zero f at = Some at
deeper (suc n) f at = f n

-- The tokens from the first opening bracket on for which no level is left, by counting alone.
abbrev pub overfull : Grammar → ℕ → List Terminal → Option (List Terminal)
overfull g levels [] = None
overfull g levels (t ∷ ts) =
    if has g.opening t.class then deeper levels (λ n. overfull g n ts) (t ∷ ts)
    else (if has g.closing t.class then overfull g (suc levels) ts else overfull g levels ts)

-- No bracket before the rest is one too many.
abbrev pub NoneBefore : Grammar → ℕ → List Terminal → List Terminal → Type 0
NoneBefore g levels ts rest = (at : List Terminal) → overfull g levels ts ≡ Some at → count at ≤ count rest

-- The fault is this one: a bad token, also where any version may stand; a bad token that is allowed where any version
-- may stand; or the first bracket too many, which the form allows.
abbrev pub IsReadFault : Grammar → ℕ → Ebnf → List Terminal → Fault → Type 0
IsReadFault g levels e ts (Unexpected rest) =
    FirstBadAt g e ts rest × ¬ Allowed (of_any_version g) e ts rest × NoneBefore g levels ts rest
IsReadFault g levels e ts (OtherVersion rest) =
    FirstBadAt g e ts rest × Allowed (of_any_version g) e ts rest × NoneBefore g levels ts rest
IsReadFault g levels e ts (TooDeep rest) = Allowed g e ts rest × (overfull g levels ts ≡ Some rest)

-- The answer is the tree that all of the tokens are read as, with no bracket too many, or the fault.
abbrev pub IsReadAnswer : Grammar → ℕ → Ebnf → List Terminal → Result Tree Fault → Type 0
IsReadAnswer g levels e ts (Ok x) = Derives g e x ts × (overfull g levels ts ≡ None)
IsReadAnswer g levels e ts (Err fault) = IsReadFault g levels e ts fault
