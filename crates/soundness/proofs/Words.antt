-- The words that stand between the two predicates of a claim.
use Rattle.std.proofs.Common.{◌≡◌, ℕ, zero, suc, List, [], ◌∷◌, map, Some, IsTrue, inl, inr}
use Rattle.std.proofs.Common.{refl, ap, ◌∙◌, subst, slice_get, arith}
use Rattle.case_tables.specs.declared.word_table.Word.{Word}
use Rattle.grammar_theory.specs.Ebnf.{Tree, choice, pair, node, Ebnf, both, either, many}
use Rattle.grammar_theory.specs.Ebnf.{named, one_of, has}
use Rattle.grammar_theory.specs.Lists.{list}
use Rattle.unity_syntax.specs.Classes.{reserved}
use Rattle.unity_syntax.specs.Kinds.{Kind, kind}
use Rattle.unity_syntax.specs.Grammar.{second, first, chosen, past, up_to, ◌or◌, claim_, step_, proof_}
use Rattle.unity_syntax.specs.Grammar.{part_, document_, grammar}
use Rattle.unity_syntax.specs.View.{view_list, view_claim, view_step, view_proof, view_part, view}
use Rattle.unity_syntax.specs.declared.proof.Claim.{Claim}
use Rattle.unity_syntax.specs.declared.proof.Step.{Step}
use Rattle.unity_syntax.specs.declared.proof.Proof.{Proof}
use Rattle.unity_syntax.specs.declared.document.Part.{Part}
use Rattle.unity_syntax.specs.declared.document.Document.{Document}
use Rattle.unity_syntax.proofs.Made.{EachOf, Made, made as made_so}
use Rattle.soundness.specs.Written.{is_between, is_claim, AreClaims, ClaimsAreWritten}

-- nothing is asked of what stands in brackets
abbrev any_tree : ℕ → Tree → Type 0
any_tree k x = Unit {0}

-- the tree is made of trees of the form's parts
record Has (e : Ebnf) (x : Tree) : Type 0 where
  made : Made any_tree e x

-- parts of trees

node_part : (k j at : ℕ) (a : Ebnf) (x : Tree) → Has (named (node k) a) (node j at x) → Has a x
node_part k j at a x h =
    let m = h.made in
    let same : m.1 ≡ x = let e = m.3 in cc in
    subst (λ y. Has a y) same (record { made = m.2 })

node_kind : (k j at : ℕ) (a : Ebnf) (x : Tree) → Has (named (node k) a) (node j at x) → k ≡ j
node_kind k j at a x h = let e = h.made.3 in cc

first_part : (a b : Ebnf) (x y : Tree) → Has (both a b) (pair x y) → Has a x
first_part a b x y h =
    let m = h.made in
    let same : m.0 ≡ x = let e = m.4 in cc in
    subst (λ z. Has a z) same (record { made = m.2 })

second_part : (a b : Ebnf) (x y : Tree) → Has (both a b) (pair x y) → Has b y
second_part a b x y h =
    let m = h.made in
    let same : m.1 ≡ y = let e = m.4 in cc in
    subst (λ z. Has b z) same (record { made = m.3 })

past_part : (c : ℕ) (a : Ebnf) (x : Tree) → Has (past c a) x → Has a x
past_part c a x h =
    let m = h.made in
    subst (λ z. Has a z) (ap (second m.0) m.2.4 ∙ m.3) (record { made = m.2.3 })

up_to_part : (c : ℕ) (a : Ebnf) (x : Tree) → Has (up_to a c) x → Has a x
up_to_part c a x h =
    let m = h.made in
    subst (λ z. Has a z) (ap (first m.0) m.2.4 ∙ m.3) (record { made = m.2.2 })

list_same : (xs ys : List Tree) → list xs ≡ list ys → xs ≡ ys
list_same [] [] e = refl
list_same [] (y ∷ ys) e = cc
list_same (x ∷ xs) [] e = cc
list_same (x ∷ xs) (y ∷ ys) e =
    let here : x ≡ y = cc in
    let rest = list_same xs ys (let f : list xs ≡ list ys = cc in f) in
    cc

item_at : {A : Type 0} (view_item : A → Tree) (a : Ebnf) (xs : List A) →
    EachOf (λ y. Made any_tree a y) (map view_item xs) → (n : ℕ) (x : A) → slice_get xs n ≡ Some x →
    Has a (view_item x)
item_at view_item a [] h n x e = cc e
item_at view_item a (y ∷ xs) h zero x e =
    let same : y ≡ x = cc in subst (λ z. Has a (view_item z)) same (record { made = h.0 })
item_at view_item a (y ∷ xs) h (suc n) x e = item_at view_item a xs h.1 n x e

many_part : {A : Type 0} (view_item : A → Tree) (a : Ebnf) (xs : List A) → Has (many a) (view_list view_item xs) →
    (n : ℕ) (x : A) → slice_get xs n ≡ Some x → Has a (view_item x)
many_part view_item a xs h n x e =
    let m = h.made in
    item_at view_item a xs
    (subst (λ ys. EachOf (λ y. Made any_tree a y) ys) (list_same m.0 (map view_item xs) m.2) m.1) n x e

-- one form or the other
either_part : (a b : Ebnf) (P : Type 0) (x : Tree) → (Has a x → P) → (Has b x → P) → Has (a or b) x → P
either_part a b P x f g h = go h.made.0 h.made.1 h.made.2 h.made.3
  where
    go : (p : ℕ) (y : Tree) → Made any_tree (either a b) y → chosen p y ≡ x → P
    go p y (inl m) e = f (subst (λ z. Has a z) (ap (chosen p) m.2 ∙ e) (record { made = m.1 }))
    go p y (inr m) e = g (subst (λ z. Has b z) (ap (chosen p) m.2 ∙ e) (record { made = m.1 }))

-- claims

abbrev between_words : List Word
between_words = Word.Unless ∷ Word.Ensures ∷ Word.Leadsto ∷ Word.Until ∷ Word.Detects ∷ []

one_word : (w : Word) → IsTrue (has (map reserved between_words) (reserved w)) → IsTrue (is_between w)
one_word Word.Unless h = refl
one_word Word.Ensures h = refl
one_word Word.Leadsto h = refl
one_word Word.Until h = refl
one_word Word.Detects h = refl
one_word _ h = h

between_word : (w : Word) → Has (one_of (map reserved between_words)) (choice (reserved w)) → IsTrue (is_between w)
between_word w h =
    let m = h.made in
    let same : m.0.class ≡ reserved w = let e = m.2 in cc in
    one_word w (subst (λ c. IsTrue (has (map reserved between_words) c)) same m.1)

claim_written : (c : Claim) → Has claim_ (view_claim c) → IsTrue (is_claim c)
unfolding claim_
claim_written (Claim.Defined at) m = refl
claim_written (Claim.Invariant at p) m = refl
claim_written (Claim.Stable at p) m = refl
claim_written (Claim.Constant at p) m = refl
claim_written (Claim.Fixed at p) m = refl
claim_written (Claim.Between at p which q) m =
    let x = view_claim (Claim.Between at p which q) in
    let P = IsTrue (is_between which) in
    either_part _ _ P x
    (λ h. let k : kind Kind.claim_defined ≡ kind Kind.claim_between =
    node_kind _ (kind Kind.claim_between) at _ _ h in
    absurd (omega (arith, k)))
    (either_part _ _ P x
    (λ h. let k : kind Kind.claim_invariant ≡ kind Kind.claim_between =
    node_kind _ (kind Kind.claim_between) at _ _ h in
    absurd (omega (arith, k)))
    (either_part _ _ P x
    (λ h. let k : kind Kind.claim_stable ≡ kind Kind.claim_between =
    node_kind _ (kind Kind.claim_between) at _ _ h in
    absurd (omega (arith, k)))
    (either_part _ _ P x
    (λ h. let k : kind Kind.claim_constant ≡ kind Kind.claim_between =
    node_kind _ (kind Kind.claim_between) at _ _ h in
    absurd (omega (arith, k)))
    (either_part _ _ P x
    (λ h. let k : kind Kind.claim_fixed ≡ kind Kind.claim_between =
    node_kind _ (kind Kind.claim_between) at _ _ h in
    absurd (omega (arith, k)))
    (λ h. between_word which (first_part _ _ _ _ (second_part _ _ _ _ (node_part _ _ at _ _ h)))))))) m

step_written : (s : Step) → Has step_ (view_step s) → IsTrue (is_claim s.claim)
unfolding step_
step_written s m =
    claim_written s.claim
    (first_part _ _ _ _ (past_part _ _ _ (second_part _ _ _ _ (second_part _ _ _ _ (node_part _ _ s.at _ _ m)))))

proof_written : (p : Proof) → Has proof_ (view_proof p) → (number : ℕ) (s : Step) →
    slice_get p.steps number ≡ Some s → IsTrue (is_claim s.claim)
unfolding proof_
proof_written p m number s e =
    step_written s (many_part view_step step_ p.steps
    (up_to_part _ _ _ (second_part _ _ _ _ (past_part _ _ _ (node_part _ _ p.at _ _ m)))) number s e)

part_written : (at : ℕ) (p : Proof) → Has part_ (view_part (Part.Proof at p)) → Has proof_ (view_proof p)
unfolding part_
part_written at p m =
    either_part _ _ (Has proof_ (view_proof p)) (view_part (Part.Proof at p))
    (λ h. let k : kind Kind.part_program ≡ kind Kind.part_proof =
    node_kind _ (kind Kind.part_proof) at _ _ h in
    absurd (omega (arith, k)))
    (λ h. node_part _ _ at _ _ h) m

document_written : (d : Document) → Has document_ (view d) → AreClaims d
unfolding document_
document_written d m place at proof e number step f =
    proof_written proof (part_written at proof (many_part view_part part_ d.parts
    (first_part _ _ _ _ (second_part _ _ _ _ (past_part _ _ _ (node_part _ _ d.at _ _ m)))) place
    (Part.Proof at proof) e)) number step f

pub claims_are_written : ClaimsAreWritten
claims_are_written d ts derives =
    document_written d (record { made = made_so grammar any_tree (λ k x m. tt) derives })
