-- A loop that reads one item after another, and what it needs to know of the item's form.
use Rattle.std.proofs.Common.{◌≡◌, ℕ, Bool, true, false, not, ◌&&◌, List, [], ◌∷◌, ◌++◌, map, refl, sym, ◌∙◌, ap, subst}
use Rattle.std.proofs.Common.{◌<◌, Ok}
use Rattle.grammar_theory.specs.Ebnf.{Terminal, Tree, Ebnf, many}
use Rattle.grammar_theory.specs.LookAhead.{empties, first, last, good, apart}
use Rattle.grammar_theory.specs.Reader.{Unexpected, OtherVersion, TooDeep, begins, count, read}
use Rattle.grammar_theory.proofs.Classes.{and_left}
use Rattle.grammar_theory.proofs.Loops.{Reading, many_step, many_end, many_fault}
use Rattle.grammar_theory.proofs.Steps.{read_shorter}
use Rattle.unity_syntax.specs.Grammar.{grammar}
use Rattle.unity_syntax.specs.View.{view_list}
use Rattle.unity_syntax.proofs.LookAhead.{grammar_is}
use Rattle.parser_expressions.specs.declared.cursor.Cursor.{Cursor}
use Rattle.parser_expressions.specs.declared.stop.Stop.{Stop}
use Rattle.parser_expressions.specs.Gives.{remaining, Fails, Reads}
pub use Rattle.parser_expressions.specs.Lists.{IsItem}

-- The items so far, at the rest.
pub record Items {X : Type 0} (view : X → Tree) (a : Ebnf) (n : ℕ) (start : List Terminal) (found : List X)
    (rest : List Terminal) : Type 0 where
  pub reading : Reading grammar n (many a) start (map view found) (many a) rest

map_last : {X : Type 0} (view : X → Tree) (xs : List X) (x : X) → map view (xs ++ x ∷ []) ≡ map view xs ++ view x ∷ []
map_last view [] x = refl
map_last view (y ∷ ys) x = ap (λ v. view y ∷ v) (map_last view ys x)

begins_item : (a : Ebnf) (classes : List ℕ) (is : IsItem a classes) (rest : List Terminal) (v : Bool) → begins classes
    rest ≡ v → begins (first a) rest ≡ v
begins_item a classes is rest v b = ap (λ cs. begins cs rest) is.begins_with ∙ b

module _ {X : Type 0} {view : X → Tree} {a : Ebnf} {classes : List ℕ} (is : IsItem a classes) {n : ℕ}
    {start : List Terminal} {found : List X} {rest : List Terminal} (inv : Items view a n start found rest) where
  -- one item more
  pub goes_on : begins classes rest ≡ true → (x : X) (later : List Terminal) → read grammar n a rest ≡ Ok
      (view x, later) → (next : List X) → next ≡ found ++ x ∷ [] → Items view a n start next later
  goes_on b x later e next q =
      record {
        reading = subst (λ xs. Reading grammar n (many a) start xs (many a) later)
            (sym (ap (map view) q ∙ map_last view found x))
            (many_step grammar grammar_is n (many a) start (map view found) rest a is.good_many inv.reading
            (begins_item a classes is rest true b) (view x) later e);
      }

  -- no item more
  pub ends : begins classes rest ≡ false → read grammar n (many a) start ≡ Ok (view_list view found, rest)
  ends b = many_end grammar grammar_is n (many a) start (map view found) rest a is.good_many inv.reading
      (begins_item a classes is rest false b)

  -- a fault in an item
  pub fails : begins classes rest ≡ true → (stop : Stop) → Fails stop (read grammar n a rest) → Fails stop
      (read grammar n (many a) start)
  fails b Stop.Memory h = tt
  fails b (Stop.Unexpected at) h = many_fault grammar grammar_is n (many a) start (map view found) rest a is.good_many
      inv.reading (begins_item a classes is rest true b) (Unexpected (remaining at)) h
  fails b (Stop.OtherVersion at) h = many_fault grammar grammar_is n (many a) start (map view found) rest a is.good_many
      inv.reading (begins_item a classes is rest true b) (OtherVersion (remaining at)) h
  fails b (Stop.TooDeep at) h = many_fault grammar grammar_is n (many a) start (map view found) rest a is.good_many
      inv.reading (begins_item a classes is rest true b) (TooDeep (remaining at)) h

-- an item takes a token
pub shorter : {a : Ebnf} {classes : List ℕ} → IsItem a classes → (n : ℕ) (rest : List Terminal) (x : Tree)
    (later : List Terminal) → read grammar n a rest ≡ Ok (x, later) → count later < count rest
shorter {a} is n rest x later e = read_shorter grammar grammar_is a
    (and_left (good grammar a) (not (empties a) && apart (first a) (last a)) is.good_many) n rest x later is.takes e

-- what reads a form of at least a token takes one
pub takes_token : {X : Type 0} (view : X → Tree) (a : Ebnf) (n : ℕ) → good grammar a ≡ true → empties a ≡ false →
    (text : Cursor) (x : X) (later : Cursor) → Reads view (Ok (x, later)) a n text →
    count (remaining later) < count (remaining text)
takes_token view a n is full text x later p = read_shorter grammar grammar_is a is n (remaining text) (view x)
    (remaining later) full p
