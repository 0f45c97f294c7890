-- The statements of a program in core form.
use Rattle.std.specs.Prelude.{◌≡◌, ℕ, ℤ, List, [], ◌∷◌, map}
use Rattle.std.specs.List.{flat_map}
use Rattle.unity_syntax.specs.declared.name.Name.{Name}
use Rattle.unity_syntax.specs.declared.statement.Assign.{Assign}
use Rattle.unity_syntax.specs.declared.statement.Item.{Item, fold-Item}
use Rattle.unity_syntax.specs.declared.statement.Item.TheOpen.{Item-F}
use Rattle.unity_syntax.specs.declared.statement.Items.{Items, fold-Items}
use Rattle.meaning_documents.specs.Names.{Bindings}
use Rattle.meaning_documents.specs.Instances.{Instance, Unfolding, items_layer, outermost_first}
use Rattle.core_terms.specs.declared.programs.CStmt.{CStmt}
use Rattle.expand_declarations.specs.Texts.{Texts}
use Rattle.expand_declarations.specs.WordNumbers.{word_number}
use Rattle.expand_rules.specs.declared.cores.Bound.{Bound}
use Rattle.expand_rules.specs.Forming.{Scope, numbers, fit_values}
use Rattle.expand_rules.specs.Assigning.{stated}
use Rattle.expand_rules.specs.Programs.{core_statement}
use Rattle.expand_expressions.specs.Places.{IsReady, bound_names}
use Rattle.expand_statements.specs.Visiting.{scope_among}
use Rattle.expand_statements.specs.declared.building.Site.{Site}

abbrev pub instance_of : Name → Bindings → Assign → Instance
instance_of label b a = record { label = label.text; bindings = b; assign = a }

-- the statement of an instance in core form, named by its label's number in a table of words
abbrev pub made_statement : Texts → Scope → Instance → CStmt
made_statement words s i = core_statement (word_number words) (stated s i)

-- instances, where ranges with an end that is too large have no numbers
abbrev pub fit_layer : Item-F Unfolding Unfolding → Unfolding
fit_layer (Item-F.Statement at label assign) b = instance_of label b assign ∷ []
fit_layer (Item-F.Quantified at name range of) b = flat_map (λ z. of ((name.text, z) ∷ b)) (fit_values b range)

abbrev pub fit_item : Item → Unfolding
fit_item = fold-Item Unfolding Unfolding fit_layer items_layer

abbrev pub fit_items : Items → Unfolding
fit_items = fold-Items Unfolding Unfolding fit_layer items_layer

-- bound names that stand for numbers alone, and these numbers, the outermost first
pub record AreNumberBindings (bs : List (List ℕ × Bound)) (indices : List ℤ) : Type 0 where
  pub same : bs ≡ map (λ x. (x.0, Bound.Number x.1)) (numbers bs)
  pub indices_same : indices ≡ outermost_first (numbers bs)

-- a document is ready for what is built at a site, and its bound names stand for its indices
pub record SiteIsReady (site : Site) : Type 0 where
  pub ready : IsReady site.known.now
  pub numbered : AreNumberBindings (bound_names site.env.now) site.indices.now

-- the numbers that the bound names of a site stand for
abbrev pub site_numbers : Site → Bindings
site_numbers site = numbers (bound_names site.env.now)

-- the statement of an instance, with the words and the declarations of a site
abbrev pub made_at : Site → Instance → CStmt
made_at site = made_statement site.words.now (scope_among site.known.now [])
