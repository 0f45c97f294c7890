-- What a look at a pool's nodes tells.
use Rattle.std.proofs.Common.{◌≡◌, ℕ, ◌<◌, List, length, take, All, Some, ap, ◌∙◌, subst, arith}
use Rattle.std.specs.Prelude.{slice_get}
use Rattle.std.specs.Option.{option_map}
use Rattle.std.proofs.lemmas.Option.{slice_get_within, slice_get-map}
use Rattle.std.proofs.lemmas.List.{length-take, length-map, get_or-take}
use Rattle.core_terms.specs.declared.nodes.FormNode.{FormNode}
use Rattle.core_terms.specs.declared.nodes.TermNode.{TermNode}
use Rattle.core_terms.specs.declared.entries.FormEntry.{FormEntry}
use Rattle.core_terms.specs.declared.entries.TermEntry.{TermEntry}
use Rattle.core_terms.specs.Pools.{form_trees, term_trees, form_of_node, IsFormWithin, IsTermWithin, Pooled, IsPool}
use Rattle.core_terms.proofs.PlaceLaws.{stands, read, at_place}

-- what stands in a front has what all of the front has
pub in_front : {X : Type 0} (P : X → Type 0) (xs : List X) (n i : ℕ) (x : X) → All P (take n xs) → i < n →
    slice_get xs i ≡ Some x → P x
in_front P xs n i x all low h =
    let inside = slice_get_within xs i x h in
    let there = stands (take n xs) i x x (omega (arith, low, inside, length-take n xs))
    (get_or-take n xs i x low ∙ read xs i x x h) in
    at_place P (take n xs) i x all there

-- a node's formula stands at its place
pub form_there : (p : Pooled) (i : ℕ) (k : FormNode) → IsPool p → slice_get p.form_nodes i ≡ Some k →
    slice_get p.forms i ≡ Some (form_of_node p.forms p.terms k)
form_there p i k w h =
    ap (λ l. slice_get l i) w.forms ∙ slice_get-map (form_of_node p.forms p.terms) p.form_nodes i
    ∙ ap (option_map (form_of_node p.forms p.terms)) h

-- trees as many as entries

pub form_within_entries : (forms : List FormEntry) (terms : List TermEntry) (k : FormNode) →
    IsFormWithin (length (form_trees forms)) (length (term_trees terms)) k →
    IsFormWithin (length forms) (length terms) k
form_within_entries forms terms k w =
    let some = length-map forms (λ (e : FormEntry). e.tree) in
    let more = length-map terms (λ (e : TermEntry). e.tree) in
    subst (λ n. IsFormWithin n (length terms) k) some
    (subst (λ m. IsFormWithin (length (form_trees forms)) m k) more w)

pub term_within_entries : (forms : List FormEntry) (terms : List TermEntry) (k : TermNode) →
    IsTermWithin (length (form_trees forms)) (length (term_trees terms)) k →
    IsTermWithin (length forms) (length terms) k
term_within_entries forms terms k w =
    let some = length-map forms (λ (e : FormEntry). e.tree) in
    let more = length-map terms (λ (e : TermEntry). e.tree) in
    subst (λ n. IsTermWithin n (length terms) k) some
    (subst (λ m. IsTermWithin (length (form_trees forms)) m k) more w)
