-- The certificates of a document are whole trees.
use Rattle.std.proofs.Common.{◌≡◌, ℕ, zero, suc, ◌+◌, List, [], ◌∷◌, true, Option, Some, None, map, All}
use Rattle.std.proofs.Common.{refl, sym, ap, ◌∙◌, arith}
use Rattle.std.specs.List.{AllByRecursion}
use Rattle.std.proofs.lemmas.List.Elements.{All-from_recursion}
use Rattle.grammar_theory.specs.Ebnf.{Tree, pair, some, node}
use Rattle.unity_syntax.specs.declared.certificate.Node.{Node as WrittenNode}
use Rattle.unity_syntax.specs.declared.certificate.CertText.{CertText}
use Rattle.unity_syntax.specs.declared.certificate.Certificates.{Certificates}
use Rattle.unity_syntax.specs.Grammar.{grammar, node_, certificate_, certificates_, document_, subtrees}
use Rattle.unity_syntax.specs.Classes.{number_class}
use Rattle.unity_syntax.specs.View.{view, view_list, view_node, view_certificate, view_certificates, view_option}
use Rattle.unity_syntax.proofs.Productions.{all_productions}
use Rattle.obligations.specs.Certificates.{arity}
use Rattle.certificate_rules.specs.Trees.{is_whole}
use Rattle.certificate_reading.specs.Certificates.{node_of, certificate_of, section_of}
use Rattle.certificate_reading.specs.Laws.{IsWholeTree, AreWholeTrees}
use Rattle.certificate_reading.proofs.Counted.{holds_trees, after_number, EachItem, counted, Each, each_any}
use Rattle.certificate_reading.proofs.Counted.{each_named}
use Rattle.certificate_reading.proofs.Counted.{each_both, each_maybe, each_numbered, each_trees}

-- a certificate, after its number, is one whole tree
abbrev IsTree : Tree → Type 0
IsTree x = holds_trees subtrees x 1 ≡ true

abbrev AreTrees : Tree → Type 0
AreTrees (node k p x) = EachItem (λ y. IsTree (after_number y)) x
AreTrees _ = Unit {0}

abbrev MayBeTrees : Tree → Type 0
MayBeTrees (some x) = AreTrees x
MayBeTrees _ = Unit {0}

-- so are those of a document
abbrev HasTrees : Tree → Type 0
HasTrees (node k p (pair a (pair b (pair c d)))) = MayBeTrees d
HasTrees _ = Unit {0}

certificate_is : Each certificate_ IsTree
unfolding all_productions
certificate_is = each_named λ p. each_both (each_any λ x. each_named λ q. each_both (record {
  holds = λ y m. each_any (λ z. (each_trees {n = 1} {arity = subtrees} {a = node_}).holds y m);
}))

certificates_are : Each certificates_ AreTrees
unfolding all_productions
certificates_are = each_named λ p. each_named λ q. each_both (each_any λ x. each_named λ r. each_both (record {
  holds = λ y m. each_any (λ z. (each_numbered {k = 1} {c = number_class} certificate_is).holds y m);
}))

document_has : Each document_ HasTrees
unfolding all_productions
document_has =
    each_named λ p. each_named λ q. each_both (each_any λ x. each_both (each_any λ number.
    each_both (each_any λ parts. each_both (each_any λ schedule.
    each_maybe tt (record { holds = λ y m. certificates_are.holds y m })))))

-- a node has as many subtrees in the text as for the check
same_subtrees : (x : WrittenNode) → subtrees (view_node x) ≡ arity (node_of x)
same_subtrees (WrittenNode.Case at number) = refl
same_subtrees (WrittenNode.Split at variable minus bound) = refl
same_subtrees (WrittenNode.Sum at pairs) = refl
same_subtrees (WrittenNode.Round at minus divisor pairs) = refl
same_subtrees (WrittenNode.Quot at number) = refl
same_subtrees (WrittenNode.Share at minus constant pairs) = refl

-- so there are as many trees
same_trees : (ns : List WrittenNode) (n : ℕ) →
    holds_trees subtrees (view_list view_node ns) n ≡ is_whole (map node_of ns) n
same_trees [] n = refl
same_trees (x ∷ xs) zero = refl
same_trees (x ∷ xs) (suc n) =
    let same = same_subtrees x in
    ap (holds_trees subtrees (view_list view_node xs)) (omega (arith, same)) ∙ same_trees xs (arity (node_of x) + n)

items_whole : (cs : List CertText) → EachItem (λ y. IsTree (after_number y)) (view_list view_certificate cs) →
    AllByRecursion IsWholeTree (map certificate_of cs)
items_whole [] each = tt
items_whole (c ∷ cs) each = (sym (same_trees (c.first ∷ c.rest) 1) ∙ each.0, items_whole cs each.1)

section_whole : (section : Option Certificates) → MayBeTrees (view_option view_certificates section) →
    All IsWholeTree (map certificate_of (section_of section))
section_whole None h = All-from_recursion IsWholeTree [] tt
section_whole (Some section) h =
    All-from_recursion IsWholeTree (map certificate_of section.items) (items_whole section.items h)

pub are_whole_trees : AreWholeTrees
are_whole_trees bytes d is =
    section_whole d.certificates (document_has.holds (view d) (counted grammar is.parsed.0))
