-- What holds of a reader of a form at any tokens, not only at a whole list: it takes the form, or stops at the first
-- bad token, and does the same whatever follows.
use Rattle.std.specs.Prelude.{◌≡◌, List, [], ◌∷◌, ◌++◌, Ok, Err}
use Rattle.grammar_theory.specs.Ebnf.{Terminal, Tree, Ebnf, Grammar, of_any_version, Derives}
use Rattle.grammar_theory.specs.Reader.{Fault, Unexpected, OtherVersion, TooDeep, Read}
use Rattle.grammar_theory.specs.Answers.{Opens, Allowed}

-- The form has some tokens.
pub record HasSome (g : Grammar) (e : Ebnf) : Type 0 where
  pub tree : Tree
  pub tokens : List Terminal
  pub derives : Derives g e tree tokens

-- The reader took tokens of the form, and takes them also where the rest goes on otherwise after its first token.
pub record Took (g : Grammar) (e : Ebnf) (f : List Terminal → Read Tree) (ts : List Terminal) (x : Tree)
    (rest : List Terminal) : Type 0 where
  pub taken : List Terminal
  pub split : ts ≡ taken ++ rest
  pub tree : Derives g e x taken
  pub local : (t : Terminal) (was now : List Terminal) → rest ≡ t ∷ was → f (taken ++ t ∷ now) ≡ Ok (x, t ∷ now)

-- The reader stopped at the rest, as it does also where the rest goes on otherwise after its first token.
pub record Stopped (g : Grammar) (e : Ebnf) (f : List Terminal → Read Tree) (ts : List Terminal)
    (rest : List Terminal) : Type 0 where
  pub front : List Terminal
  pub split : ts ≡ front ++ rest
  pub opens : Opens g e front
  pub local : (t : Terminal) (was now : List Terminal) → rest ≡ t ∷ was →
      f (front ++ t ∷ now) ≡ Err (Unexpected (t ∷ now))

-- The reader stopped at a number that is no version, as it does also where the tokens go on otherwise after it.
pub record Refused (g : Grammar) (e : Ebnf) (f : List Terminal → Read Tree) (ts : List Terminal)
    (rest : List Terminal) : Type 0 where
  pub front : List Terminal
  pub at : Terminal
  pub later : List Terminal
  pub rest_is : rest ≡ at ∷ later
  pub split : ts ≡ front ++ rest
  pub opens : Opens g e front
  pub other : Opens (of_any_version g) e (front ++ at ∷ [])
  pub local : (now : List Terminal) → f (front ++ at ∷ now) ≡ Err (OtherVersion (at ∷ now))

abbrev pub AtFault : Grammar → Ebnf → (List Terminal → Read Tree) → List Terminal → Fault → Type 0
AtFault g e f ts (Unexpected rest) = Stopped g e f ts rest
AtFault g e f ts (OtherVersion rest) = Refused g e f ts rest
AtFault g e f ts (TooDeep rest) = Allowed g e ts rest

-- What holds of the answer at these tokens.
abbrev pub Outcome : Grammar → Ebnf → (List Terminal → Read Tree) → List Terminal → Read Tree → Type 0
Outcome g e f ts (Ok p) = Took g e f ts p.0 p.1
Outcome g e f ts (Err fault) = AtFault g e f ts fault

-- It holds at all tokens.
abbrev pub Lawful : Grammar → Ebnf → (List Terminal → Read Tree) → Type 0
Lawful g e f = (ts : List Terminal) → Outcome g e f ts (f ts)
