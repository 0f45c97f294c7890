-- The loops over a certificate's nodes, and over the certificates.
use Rattle.std.proofs.Common.{◌≡◌, ℕ, suc, Bool, true, false, List, [], ◌∷◌, ◌++◌, map, length, refl, sym, ◌∙◌, ap}
use Rattle.std.proofs.Common.{subst}
use Rattle.std.proofs.Common.{arith, ◌+◌, ◌<◌, ◌≤◌, Ok, Err}
use Rattle.grammar_theory.specs.Ebnf.{Terminal, Tree, more, numbered, numbered_item, prefix_tree, prefix_trees}
use Rattle.grammar_theory.specs.Reader.{Read, Unexpected, OtherVersion, TooDeep, after, begins, count, missing}
use Rattle.grammar_theory.specs.Reader.{and_then_by, read}
use Rattle.grammar_theory.proofs.Loops.{Reading, numbered_step, numbered_end, numbered_fault, trees_step, trees_end}
use Rattle.grammar_theory.proofs.Loops.{trees_fault}
use Rattle.grammar_theory.proofs.Steps.{read_shorter, trees_more}
use Rattle.unity_syntax.specs.Classes.{number_class, terminal}
use Rattle.unity_syntax.specs.Grammar.{grammar, node_, subtrees, certificate_}
use Rattle.unity_syntax.specs.View.{view_node, view_certificate, view_list}
use Rattle.unity_syntax.specs.declared.certificate.Node.{Node}
use Rattle.unity_syntax.specs.declared.certificate.CertText.{CertText}
use Rattle.unity_syntax.specs.declared.token.Token.{Token}
use Rattle.unity_syntax.proofs.LookAhead.{grammar_is}
use Rattle.parser_programs.specs.from_parser_expressions.declared.cursor.Cursor.{Cursor}
use Rattle.parser_programs.specs.from_parser_expressions.declared.stop.Stop.{Stop}
use Rattle.parser_programs.specs.from_parser_expressions.Gives.{remaining, Fails}
use Rattle.unity_parser.proofs.NodeForms.{good_node, node_takes, good_nodes, good_certificate, good_certificates}

map_more : {X : Type 0} (view : X → Tree) (xs : List X) (x : X) → map view (xs ++ x ∷ []) ≡ map view xs ++ view x ∷ []
map_more view [] x = refl
map_more view (y ∷ ys) x = ap (λ v. view y ∷ v) (map_more view ys x)

-- as many as the tokens
count_terminals : (later : Bool) (bytes : List ℕ) (ts : List Token) → count (map (terminal later bytes) ts) ≡ length ts
count_terminals later bytes [] = refl
count_terminals later bytes (t ∷ ts) = ap suc (count_terminals later bytes ts)

pub count_left : (text : Cursor) → count (remaining text) ≡ length text.tokens.now
count_left text = count_terminals text.later text.bytes.now text.tokens.now

-- The nodes so far, at the rest, where so many trees are missing.
abbrev pub Nodes : ℕ → ℕ → List Terminal → List Node → ℕ → List Terminal → Type 0
Nodes n trees start found need rest = Reading grammar n (prefix_trees trees subtrees node_) start (map view_node found)
    (prefix_trees need subtrees node_) rest

module _ (n trees : ℕ) (start : List Terminal) (found : List Node) (need : ℕ) (rest : List Terminal)
    (inv : Nodes n trees start found need rest) where
  pub nodes_go_on : 0 < need → (x : Node) (later : List Terminal) → read grammar n node_ rest ≡ Ok (view_node x, later)
      → (still : ℕ) → still + 1 ≡ need + subtrees (view_node x) → (next : List Node) → next ≡ found ++ x ∷ [] → Nodes n
      trees start next still later
  nodes_go_on b x later e still s next q =
      subst (λ xs. Reading grammar n (prefix_trees trees subtrees node_) start xs (prefix_trees still subtrees node_)
      later) (sym (ap (map view_node) q ∙ map_more view_node found x))
      (trees_step grammar grammar_is n (prefix_trees trees subtrees node_) start (map view_node found) rest need
      subtrees node_ (good_nodes need) inv b (view_node x) later e still s)

  pub nodes_end : need ≡ 0 → read grammar n (prefix_trees trees subtrees node_) start ≡ Ok
      (view_list view_node found, rest)
  nodes_end b = trees_end grammar grammar_is n (prefix_trees trees subtrees node_) start (map view_node found) rest need
      subtrees node_ (good_nodes need) inv b

  pub nodes_fail : 0 < need → (stop : Stop) → Fails stop (read grammar n node_ rest) → Fails stop
      (read grammar n (prefix_trees trees subtrees node_) start)
  nodes_fail b Stop.Memory h = tt
  nodes_fail b (Stop.Unexpected at) h = trees_fault grammar grammar_is n (prefix_trees trees subtrees node_) start
      (map view_node found) rest need subtrees node_ (good_nodes need) inv b (Unexpected (remaining at)) h
  nodes_fail b (Stop.OtherVersion at) h = trees_fault grammar grammar_is n (prefix_trees trees subtrees node_) start
      (map view_node found) rest need subtrees node_ (good_nodes need) inv b (OtherVersion (remaining at)) h
  nodes_fail b (Stop.TooDeep at) h = trees_fault grammar grammar_is n (prefix_trees trees subtrees node_) start
      (map view_node found) rest need subtrees node_ (good_nodes need) inv b (TooDeep (remaining at)) h

-- a node takes a token
pub node_shorter : (n : ℕ) (rest : List Terminal) (x : Tree) (later : List Terminal) → read grammar n node_ rest ≡ Ok
    (x, later) → count later < count rest
node_shorter n rest x later e = read_shorter grammar grammar_is node_ good_node n rest x later node_takes e

-- and has two subtrees at most
pub subtrees_few : (x : Node) → subtrees (view_node x) ≤ 2
subtrees_few (Node.Case at number) = omega arith
subtrees_few (Node.Split at variable minus bound) = omega arith
subtrees_few (Node.Sum at pairs) = omega arith
subtrees_few (Node.Round at minus divisor pairs) = omega arith
subtrees_few (Node.Quot at number) = omega arith
subtrees_few (Node.Share at minus constant pairs) = omega arith

no_more_missing : (n : ℕ) (r : Read Tree)
    → and_then_by (λ x. read grammar n (prefix_trees (missing subtrees 1 x) subtrees node_)) more r ≡ and_then_by
    (λ x. read grammar n (prefix_trees (subtrees x) subtrees node_)) more r
no_more_missing n (Ok p) = let e : missing subtrees 1 p.0 ≡ subtrees p.0 = omega arith in ap
    (λ k. after (more p.0) (read grammar n (prefix_trees k subtrees node_) p.1)) e
no_more_missing n (Err d) = refl

-- the nodes of one tree: a node, and those of its subtrees
pub one_tree_more : (n : ℕ) (ts : List Terminal) → read grammar n (prefix_tree subtrees node_) ts ≡ and_then_by
    (λ x. read grammar n (prefix_trees (subtrees x) subtrees node_)) more (read grammar n node_ ts)
one_tree_more n ts = trees_more grammar grammar_is n 1 subtrees node_ (good_nodes 1) ts refl ∙ no_more_missing n
    (read grammar n node_ ts)

-- The certificates so far, at the rest, where so many are read.
abbrev pub Certificates : ℕ → List Terminal → List CertText → ℕ → List Terminal → Type 0
Certificates n start found k rest = Reading grammar n (numbered 1 number_class certificate_) start
    (map view_certificate found) (numbered (k + 1) number_class certificate_) rest

module _ (n : ℕ) (start : List Terminal) (found : List CertText) (k : ℕ) (rest : List Terminal)
    (inv : Certificates n start found k rest) where
  pub certificates_go_on : begins (number_class ∷ []) rest ≡ true → (x : CertText) (later : List Terminal) → read
      grammar n (numbered_item (k + 1) number_class certificate_) rest ≡ Ok (view_certificate x, later) →
      (next : List CertText) → next ≡ found ++ x ∷ [] → Certificates n start next (k + 1) later
  certificates_go_on b x later e next q =
      subst (λ xs. Reading grammar n (numbered 1 number_class certificate_) start xs
      (numbered (k + 1 + 1) number_class certificate_) later)
      (sym (ap (map view_certificate) q ∙ map_more view_certificate found x))
      (numbered_step grammar grammar_is n (numbered 1 number_class certificate_) start (map view_certificate found) rest
      (k + 1) number_class certificate_ (good_certificates (k + 1)) inv b (view_certificate x) later e (k + 1 + 1)
      refl)

  pub certificates_end : begins (number_class ∷ []) rest ≡ false → read grammar n (numbered 1 number_class certificate_)
      start ≡ Ok (view_list view_certificate found, rest)
  certificates_end b = numbered_end grammar grammar_is n (numbered 1 number_class certificate_) start
      (map view_certificate found) rest (k + 1) number_class certificate_ (good_certificates (k + 1)) inv b

  pub certificates_fail : begins (number_class ∷ []) rest ≡ true → (stop : Stop) → Fails stop
      (read grammar n (numbered_item (k + 1) number_class certificate_) rest) → Fails stop
      (read grammar n (numbered 1 number_class certificate_) start)
  certificates_fail b Stop.Memory h = tt
  certificates_fail b (Stop.Unexpected at) h = numbered_fault grammar grammar_is n
      (numbered 1 number_class certificate_) start (map view_certificate found) rest (k + 1) number_class certificate_
      (good_certificates (k + 1)) inv b (Unexpected (remaining at)) h
  certificates_fail b (Stop.OtherVersion at) h = numbered_fault grammar grammar_is n
      (numbered 1 number_class certificate_) start (map view_certificate found) rest (k + 1) number_class certificate_
      (good_certificates (k + 1)) inv b (OtherVersion (remaining at)) h
  certificates_fail b (Stop.TooDeep at) h = numbered_fault grammar grammar_is n (numbered 1 number_class certificate_)
      start (map view_certificate found) rest (k + 1) number_class certificate_ (good_certificates (k + 1)) inv b
      (TooDeep (remaining at)) h

-- a certificate takes a token
pub certificate_shorter : (n k : ℕ) (rest : List Terminal) (x : Tree) (later : List Terminal) → read grammar n
    (numbered_item k number_class certificate_) rest ≡ Ok (x, later) → count later < count rest
certificate_shorter n k rest x later e = read_shorter grammar grammar_is (numbered_item k number_class certificate_)
    (good_certificate k) n rest x later refl e

-- where a number comes, a token is left
pub some_left : (rest : List Terminal) → begins (number_class ∷ []) rest ≡ true → 0 < count rest
some_left [] b = cc
some_left (t ∷ ts) b = omega arith
