-- The bindings in which an item stands inside the lists of a chain.
use Rattle.std.specs.Prelude.{◌≡◌, List, [], ◌∷◌, ◌++◌, map}
use Rattle.unity_syntax.specs.declared.name.Name.{Name}
use Rattle.meaning_documents.specs.Names.{Bindings}
use Rattle.expand_counting.specs.declared.ranges.NestRange.{NestRange}
use Rattle.expand_statements.specs.declared.chains.Chain.{Chain}
use Rattle.expand_statements.specs.Chains.{BoundNames, standing}
use denote.Bor.{Bor}

-- the names that are bound, the outermost first
abbrev pub names_of : Chain → BoundNames
names_of c = map (λ n. n.now.text) c.names

-- the bindings in which an item stands
abbrev pub standing_in : Chain → List Bindings
standing_in c = standing (names_of c) c.ranges

-- a chain with one more list inside
pub record IsInside (outer inner : Chain) : Type 0 where
  pub name : Bor Name
  pub range : NestRange
  pub names : inner.names ≡ outer.names ++ name ∷ []
  pub ranges : inner.ranges ≡ outer.ranges ++ range ∷ []
