-- Nested lists of statements: how many statements a program has, and the first fault of them. A fault counts in
-- whichever instance it comes, so items are looked at in the order of the text, each in all the instances in which it
-- stands.
use Rattle.std.specs.Prelude.{ℕ, ◌+◌, List, [], ◌∷◌, map, Bool, cond, not, ◌&&◌, Option, Some, None, nat_le, nat_lt}
use Rattle.std.specs.Prelude.{length}
use Rattle.std.specs.Int.RustNames.{int_lt}
use Rattle.std.specs.List.{flat_map, list_any}
use Rattle.core_terms.specs.from_case_tables.declared.code_table.Code.{Code}
use Rattle.names_rules.specs.from_unity_syntax.declared.name.Name.{Name}
use Rattle.names_rules.specs.from_unity_syntax.declared.name.End.{End}
use Rattle.names_rules.specs.from_unity_syntax.declared.name.Range.{Range}
use Rattle.names_rules.specs.from_unity_syntax.declared.statement.Item.{Item, fold-Item}
use Rattle.names_rules.specs.from_unity_syntax.declared.statement.Item.TheOpen.{Item-F, Items-F}
use Rattle.names_rules.specs.from_unity_syntax.declared.statement.Items.{Items, fold-Items}
use Rattle.meaning_documents.specs.Names.{Bindings}
use Rattle.meaning_documents.specs.Value.{end_value}
use Rattle.names_rules.specs.Reading.{Fault, earlier}
use Rattle.expand_rules.specs.declared.effects.Effect.{Effect}
use Rattle.expand_rules.specs.declared.cores.Flaws.{Flaws}
use Rattle.expand_rules.specs.Measures.{nearer, no_flaws, both_flaws, is_fit, is_fit_range, place_of}
use Rattle.expand_rules.specs.Forming.{Scope, fit_values}
use Rattle.expand_rules.specs.Assigning.{effect_of, is_large_effect, among}

-- instances

-- the bindings in which the items of a list stand: for each in which the list stands, those with each number of its
-- range
abbrev pub inside : List ℕ → Range → List Bindings → List Bindings
inside name range bs = flat_map (λ b. map (λ z. (name, z) ∷ b) (fit_values b range)) bs

-- the count of statements

abbrev pub total : List ℕ → ℕ
total [] = 0
total (n ∷ ns) = n + total ns

-- how many instances of statements there are, in the bindings in which items stand
abbrev pub Counting : Type 0
Counting = List Bindings → ℕ

abbrev pub count_layer : Item-F Counting Counting → Counting
count_layer (Item-F.Statement at label assign) bs = length bs
count_layer (Item-F.Quantified at name range of) bs = of (inside name.text range bs)

abbrev pub counts_layer : Items-F Counting Counting → Counting
counts_layer x bs = x.first bs + total (map (λ m. m bs) x.rest)

abbrev pub item_count : Item → Counting
item_count = fold-Item Counting Counting count_layer counts_layer

abbrev pub items_count : Items → Counting
items_count = fold-Items Counting Counting count_layer counts_layer

-- how many statements a program has
abbrev pub statement_count : Items → ℕ
statement_count items = items_count items ([] ∷ [])

-- faults

abbrev pub fault_at : Code → Option ℕ → Option Fault
fault_at code None = None
fault_at code (Some at) = Some (record { code = code; at = at })

abbrev pub place_where : Bool → ℕ → Option ℕ
place_where b at = cond b (Some at) None

-- whether a range has its low end above its high end, and both are within the limit
abbrev pub is_empty_range : Bindings → Range → Bool
is_empty_range b r = is_fit_range b r && int_lt (end_value b r.high) (end_value b r.low)

-- the place of a range that is empty in one of these instances
abbrev pub empty_place : Range → List Bindings → Option ℕ
empty_place r bs = place_where (list_any (λ b. is_empty_range b r) bs) r.at

-- the place of an end that is too large in one of them
abbrev pub large_place : End → List Bindings → Option ℕ
large_place e bs = place_where (list_any (λ b. not (is_fit (end_value b e))) bs) (place_of e)

-- the first place at which the range of a list fails
abbrev pub range_place : Range → List Bindings → Option ℕ
range_place r bs = nearer (empty_place r bs) (nearer (large_place r.low bs) (large_place r.high bs))

abbrev pub range_fault : Range → List Bindings → Option Fault
range_fault r bs = fault_at Code.BadRange (range_place r bs)

-- of two faults the one that stands first
abbrev pub sooner : Option Fault → Option Fault → Option Fault
sooner None g = g
sooner (Some f) None = Some f
sooner (Some f) (Some g) = cond (nat_le f.at g.at) (Some f) (Some g)

-- an end of a range that is too large, or a divisor below 1: what stands first
abbrev pub flaws_fault : Flaws → Option Fault
flaws_fault f = sooner (fault_at Code.BadRange f.range) (fault_at Code.BadDivisor f.divisor)

-- what fails in instances of a statement
abbrev pub all_flaws : List Effect → Flaws
all_flaws [] = no_flaws
all_flaws (e ∷ es) = both_flaws e.count.flaws (all_flaws es)

-- a statement fails at its label where an instance of it is too large, and else where an end of a range or a divisor
-- does in one
abbrev pub statement_fault : Name → List Effect → Option Fault
statement_fault label es = cond (list_any is_large_effect es) (Some (record { code = Code.TooLarge; at = label.at }))
    (flaws_fault (all_flaws es))

abbrev pub first_fault : List (Option Fault) → Option Fault
first_fault [] = None
first_fault (f ∷ fs) = earlier f (first_fault fs)

-- the first fault of items, in the bindings in which they stand
abbrev pub Failing : Type 0
Failing = List Bindings → Option Fault

abbrev pub fault_layer : Scope → Item-F Failing Failing → Failing
fault_layer s (Item-F.Statement at label assign) bs =
    statement_fault label (map (λ b. effect_of assign (among s b)) bs)
fault_layer s (Item-F.Quantified at name range of) bs = earlier (range_fault range bs) (of (inside name.text range bs))

abbrev pub faults_layer : Items-F Failing Failing → Failing
faults_layer x bs = earlier (x.first bs) (first_fault (map (λ m. m bs) x.rest))

abbrev pub item_fault : Scope → Item → Failing
item_fault s = fold-Item Failing Failing (fault_layer s) faults_layer

abbrev pub items_fault : Scope → Items → Failing
items_fault s = fold-Items Failing Failing (fault_layer s) faults_layer

-- the first fault of a program's statements: at the program's name where there are more than 4,096 of them
abbrev pub program_fault : Scope → Name → Items → Option Fault
program_fault s name items = cond (nat_lt 4096 (statement_count items))
    (Some (record { code = Code.TooLarge; at = name.at })) (items_fault s items ([] ∷ []))
