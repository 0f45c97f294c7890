-- Readings in a row: what is read before, and what is left.
use Rattle.std.proofs.Common.{◌≡◌, ℕ, List, [], ◌∷◌, ◌++◌, Bool, ◌&&◌, Option, Some, None, Result, Ok, Err, refl, sym}
use Rattle.std.proofs.Common.{ap, subst, ◌∙◌, map, append_assoc, ◌⊎◌, inl, inr}
use Rattle.case_tables.specs.declared.symbol_table.Symbol.{Symbol}
use Rattle.case_tables.specs.declared.word_table.Word.{Word}
use Rattle.unity_syntax.specs.declared.name.Name.{Name}
use Rattle.unity_syntax.specs.declared.name.Range.{Range}
use Rattle.unity_syntax.specs.declared.expression.Operator.{Operator}
use Rattle.unity_syntax.specs.declared.expression.Expr.{Expr, roll-Expr, fold-roll-Expr}
use Rattle.unity_syntax.specs.declared.expression.Expr.TheFolds.{map-Expr}
use Rattle.unity_syntax.specs.declared.expression.Expr.TheOpen.{Expr-F}
use Rattle.unity_syntax.specs.declared.expression.Expr.TheVariants.{Implies, rolls-Implies, And, rolls-And, Or}
use Rattle.unity_syntax.specs.declared.expression.Expr.TheVariants.{rolls-Or, Sum, rolls-Sum, Product, rolls-Product}
use Rattle.unity_syntax.specs.declared.expression.Expr.TheVariants.{Compare, rolls-Compare, Word as word, rolls-Word}
use Rattle.unity_syntax.specs.declared.expression.Expr.TheVariants.{Quantified, rolls-Quantified}
use Rattle.names_rules.specs.declared.named.Meaning.{Meaning}
use Rattle.names_rules.specs.declared.named.Sort.{Sort}
use Rattle.names_rules.specs.declared.named.Typed.{Typed}
use Rattle.names_rules.specs.declared.named.NameFault.{NameFault}
use Rattle.names_rules.specs.Scope.{Scope, with_bound}
use Rattle.names_rules.specs.Reading.{Fault, Words, Reading, ReadingAt, earlier, then, beside, typed, read, read_layer}
use Rattle.names_rules.specs.Reading.{placed, joined, operands, needs, left_side, word_reading, range_reading, binding}
use Rattle.names_rules.specs.Reading.{gathers, product, factors, right_sides, is_linear, in_order, unless}
use Rattle.case_tables.specs.declared.code_table.Code.{Code}
use Rattle.names_rules.specs.Answers.{GivesReading, Notes, Stops, After}
use Rattle.names_checks.specs.Factors.{further_factors}

-- with the table and the constancy so far, what is left leads to what the whole leads to from the table at the start
pub record Leads (constant : Bool) (now : Words) (q : Reading) (old : Words) (r : Reading) : Type 0 where
  pub faults : q.fault ≡ r.fault
  pub constants : constant && q.constant ≡ r.constant
  pub words : now ++ q.words ≡ old ++ r.words

-- the same for operators with their right operands, which may all stand where they do so far or not
pub record LeadsLinear (linear constant : Bool) (now : Words) (qs : List (Operator × Reading)) (first : Bool)
    (old : Words) (rs : List (Operator × Reading)) : Type 0 where
  pub faults : (in_order (right_sides qs)).fault ≡ (in_order (right_sides rs)).fault
  pub linears : linear && is_linear constant qs ≡ is_linear first rs
  pub constants : constant && (in_order (right_sides qs)).constant ≡ first && (in_order (right_sides rs)).constant
  pub words : now ++ (in_order (right_sides qs)).words ≡ old ++ (in_order (right_sides rs)).words

pub stops_later : (e : NameFault) (f g : Option Fault) → f ≡ None → Stops e g → Stops e (earlier f g)
stops_later e f g h s = subst (λ y. Stops e (earlier y g)) (sym h) s

pub after_answers : (first : Typed) (sort : Sort) (rest result : Result Typed NameFault) (old mid new : Words)
    (x q : Reading) →
    GivesReading (Ok first) old mid x → GivesReading rest mid new q → After result first sort rest → GivesReading result
    old new
    (typed sort (then x q))
after_answers first sort (Ok t) result old mid new x q p a h =
    subst (λ y. GivesReading y old new (typed sort (then x q))) (sym h) (
      ap (λ y. earlier y q.fault) p.0 ∙ a.0,
      refl,
      ap (λ y. y && t.constant) p.2 ∙ ap (λ y. x.constant && y) a.2,
      a.3 ∙ ap (λ y. y ++ q.words) p.3 ∙ append_assoc old x.words q.words,
    )
after_answers first sort (Err e) result old mid new x q p a h =
    subst (λ y. GivesReading y old new (typed sort (then x q))) (sym h) (stops_later e x.fault q.fault p.0 a)

pub beside_answers : (result : Result Typed NameFault) (old mid new : Words) (x q : Reading) →
    Notes (Ok tt) old mid x → GivesReading result mid new q → GivesReading result old new (beside x q)
beside_answers (Ok t) old mid new x q p a = (
  ap (λ y. earlier y q.fault) p.0 ∙ a.0,
  a.1,
  a.2,
  a.3 ∙ ap (λ y. y ++ q.words) p.1 ∙ append_assoc old x.words
      q.words,
)
beside_answers (Err e) old mid new x q p a = stops_later e x.fault q.fault p.0 a

-- the fault of a product after a first factor without a fault
factor_fault : (at : ℕ) (x : Reading) (rs : List (Operator × Reading)) (constant : Bool) → x.fault ≡ None →
    constant ≡ x.constant → (product at x rs).fault ≡ (further_factors at constant rs).fault
factor_fault at x rs constant f k =
    let more = in_order (right_sides rs) in
    ap (λ y. earlier (earlier y more.fault) (unless (is_linear x.constant rs) Code.NotLinear at)) f
    ∙ ap (λ b. earlier more.fault (unless (is_linear b rs) Code.NotLinear at)) (sym k)

pub product_answers : (at : ℕ) (first : Typed) (result : Result Typed NameFault) (old mid new : Words) (x : Reading)
    (rs : List (Operator × Reading)) →
    GivesReading (Ok first) old mid x → GivesReading result mid new (further_factors at first.constant rs) →
    GivesReading result old new (product at x rs)
product_answers at first (Ok t) old mid new x rs p a =
    let more = in_order (right_sides rs) in (
      factor_fault at x rs first.constant p.0 p.2 ∙ a.0,
      a.1,
      a.2 ∙ ap (λ y. y && more.constant) p.2,
      a.3 ∙ ap (λ y. y ++ more.words) p.3 ∙ append_assoc old x.words more.words,
    )
product_answers at first (Err e) old mid new x rs p a =
    subst (λ (y : Option Fault). Stops e y) (sym (factor_fault at x rs first.constant p.0 p.2)) a

layer : (x : Expr-F Expr) (e : Expr) (s : Scope) → roll-Expr x ≡ e → read e s ≡ read_layer
    (map-Expr Expr ReadingAt read x) s
layer x e s h = ap (λ e. read e s) (sym h) ∙ ap (λ m. m s) (fold-roll-Expr ReadingAt read_layer x)

pub read-Implies : (s : Scope) (at : ℕ) (left right : Expr) →
    read (Implies at left right) s ≡ placed at (joined Sort.Boolean
    (operands Sort.Boolean s (read left ∷ read right ∷ [])))
read-Implies s at left right = layer (Expr-F.Implies at left right) _ s (rolls-Implies at left right)

pub read-And : (s : Scope) (at : ℕ) (first : Expr) (rest : List Expr) →
    read (And at first rest) s ≡ placed at (joined Sort.Boolean (operands Sort.Boolean s (read first ∷ map read rest)))
read-And s at first rest = layer (Expr-F.And at first rest) _ s (rolls-And at first rest)

pub read-Or : (s : Scope) (at : ℕ) (first : Expr) (rest : List Expr) →
    read (Or at first rest) s ≡ placed at (joined Sort.Boolean (operands Sort.Boolean s (read first ∷ map read rest)))
read-Or s at first rest = layer (Expr-F.Or at first rest) _ s (rolls-Or at first rest)

pub read-junction : (e : Expr) (s : Scope) (first : Expr) (rest : List Expr) →
    ((at : ℕ) × (e ≡ And at first rest)) ⊎ ((at : ℕ) × (e ≡ Or at first rest)) →
    (at : ℕ) × (read e s ≡ placed at (joined Sort.Boolean (operands Sort.Boolean s (read first ∷ map read rest))))
read-junction e s first rest (inl p) = (p.0, ap (λ x. read x s) p.1 ∙ read-And s p.0 first rest)
read-junction e s first rest (inr p) = (p.0, ap (λ x. read x s) p.1 ∙ read-Or s p.0 first rest)

pub read-Compare : (s : Scope) (at : ℕ) (left : Expr) (relation : Symbol) (right : Expr) →
    read (Compare at left relation right) s ≡ placed at (typed Sort.Boolean
    (then (left_side relation (read left s)) (needs (left_side relation (read left s)).sort (read right s))))
read-Compare s at left relation right = layer (Expr-F.Compare at left relation right) _ s
    (rolls-Compare at left relation right)

second-parts : (rest : List (Symbol × Expr)) → map (λ (p : Symbol × ReadingAt). p.1)
    (map (λ (p : Symbol × Expr). let q : Symbol × ReadingAt = (p.0, read p.1) in q) rest) ≡ map
    (λ (p : Symbol × Expr). read p.1) rest
second-parts [] = refl
second-parts (p ∷ rest) = ap (λ y. read p.1 ∷ y) (second-parts rest)

pub read-Sum : (s : Scope) (at : ℕ) (minus : Bool) (first : Expr) (rest : List (Symbol × Expr)) →
    read (Sum at minus first rest) s ≡ placed at (joined Sort.Number
    (operands Sort.Number s (read first ∷ map (λ (p : Symbol × Expr). read p.1) rest)))
read-Sum s at minus first rest = layer (Expr-F.Sum at minus first rest) _ s (rolls-Sum at minus first rest)
    ∙ ap (λ y. placed at (joined Sort.Number (operands Sort.Number s (read first ∷ y)))) (second-parts rest)

pub read-Product : (s : Scope) (at : ℕ) (first : Expr) (rest : List (Operator × Expr)) →
    read (Product at first rest) s ≡ placed at (product at (needs Sort.Number (read first s))
    (factors s (map (λ (f : Operator × Expr). let m : Operator × ReadingAt = (f.0, read f.1) in m) rest)))
read-Product s at first rest = layer (Expr-F.Product at first rest) _ s (rolls-Product at first rest)

pub read-Word : (s : Scope) (at : ℕ) (name : Name) (index : Expr) →
    read (word at name (Some index)) s ≡ placed at (word_reading s name (Some (read index s)))
read-Word s at name index = layer (Expr-F.Word at name (Some index)) _ s (rolls-Word at name (Some index))

pub read-Quantified : (s : Scope) (at : ℕ) (which : Word) (name : Name) (range : Range) (of : Expr) →
    read (Quantified at which name range of) s ≡
    placed at (beside (beside (binding s name (Meaning.Bound name.at)) (range_reading s.bounds range))
    (needs (gathers which) (read of (with_bound s name.text (Meaning.Bound name.at)))))
read-Quantified s at which name range of = layer (Expr-F.Quantified at which name range of) _ s
    (rolls-Quantified at which name range of)
