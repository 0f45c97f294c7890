-- A statement in core form, by the numbers of its bound names; and the statements of a program.
use Rattle.std.proofs.Common.{◌≡◌, ℕ, List, [], ◌∷◌, ◌++◌, map, None, Result, OnOk, refl, ap, ◌∙◌}
use Rattle.unity_syntax.specs.declared.statement.Items.{Items}
use Rattle.meaning_documents.specs.Instances.{instances}
use Rattle.core_terms.specs.declared.programs.CStmt.{CStmt}
use Rattle.expand_declarations.specs.Texts.{Texts}
use Rattle.expand_declarations.specs.WordNumbers.{word_number}
use Rattle.expand_rules.specs.declared.cores.Bound.{Bound}
use Rattle.expand_rules.specs.Forming.{Scope, numbers}
use Rattle.expand_rules.specs.Assigning.{stated, statements}
use Rattle.expand_rules.specs.Lists.{items_fault}
use Rattle.expand_rules.specs.Programs.{core_statement}
use Rattle.expand_statements.specs.Building.{made_statement, fit_items}
use Rattle.expand_statements.proofs.BuildLaws.{gives_same}
use Rattle.expand_statements.proofs.FaultlessLaws.{fit_is_all}

map-map : {A B C : Type 0} (f : B → C) (g : A → B) (xs : List A) → map (λ x. f (g x)) xs ≡ map f (map g xs)
map-map f g [] = refl
map-map f g (x ∷ xs) = ap (λ ys. f (g x) ∷ ys) (map-map f g xs)

-- the statements of a program without a fault
pub gives_statements : {E : Type 0} (r : Result (Unit {0}) E) (new old : List CStmt) (words : Texts) (s : Scope)
    (items : Items) (bs : List (List ℕ × Bound)) → bs ≡ [] → items_fault s items ([] ∷ []) ≡ None →
    OnOk r (new ≡ old ++ map (made_statement words s) (fit_items items (numbers bs))) →
    OnOk r (new ≡ old ++ map (core_statement (word_number words)) (statements s items))
gives_statements r new old words s items bs e h =
    gives_same r new old (map (made_statement words s) (fit_items items (numbers bs)))
    (map (core_statement (word_number words)) (statements s items))
    (ap (λ xs. map (made_statement words s) (fit_items items (numbers xs))) e
    ∙ ap (map (made_statement words s)) (fit_is_all s items h)
    ∙ map-map (core_statement (word_number words)) (stated s) (instances items))
