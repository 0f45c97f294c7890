-- The names that a proof term binds are numbered in reading order.
use Rattle.std.proofs.Common.{◌≡◌, ℕ, ◌+◌, cond, Option, Some, None, refl, sym}
use Rattle.std.proofs.Common.{ap, ◌∙◌, nat_eq}
use Rattle.std.specs.Prelude.{option_and_then}
use Rattle.std.proofs.lemmas.Bool.{eq-eqb}
use Rattle.case_tables.specs.declared.word_table.Word.{Word}
use Rattle.unity_syntax.specs.declared.term.Term.{Term}
use Rattle.unity_syntax.specs.declared.term.Term.TheOpen.{Term-F}
use Rattle.unity_syntax.specs.declared.term.Term.TheFolds.{map-Term}
use Rattle.unity_syntax.specs.TwoFolds.{Related}
use Rattle.unity_syntax.proofs.TermFolds.{two_terms}
use Rattle.core_terms.specs.declared.trees.Range.{Range}
use Rattle.core_terms.specs.declared.trees.CTerm.{CTerm}
use Rattle.core_terms.specs.declared.trees.CForm.{CForm}
use Rattle.core_terms.specs.declared.documents.Ref.{Ref}
use Rattle.core_terms.specs.declared.documents.PTerm.{PTerm, fold-PTerm, fold-roll-PTerm}
use Rattle.core_terms.specs.declared.documents.PTerm.TheOpen.{PTerm-F}
use Rattle.core_terms.specs.declared.documents.PTerm.TheVariants.{Imply, From, Trans, Either, Exists, Induct, Psp}
use Rattle.core_terms.specs.declared.documents.PTerm.TheVariants.{Weaken, rolls-Imply, rolls-From, rolls-Trans}
use Rattle.core_terms.specs.declared.documents.PTerm.TheVariants.{rolls-Either, rolls-Exists, rolls-Induct}
use Rattle.core_terms.specs.declared.documents.PTerm.TheVariants.{rolls-Psp, rolls-Weaken}
use Rattle.core_terms.specs.Conditions.{numbered_step}
use Rattle.expand_declarations.specs.Numbers.{core_range}
use Rattle.expand_correct.specs.from_expand_steps.Elements.{form_in, term_in}
use Rattle.expand_correct.specs.from_expand_steps.ProofTerms.{Place, Terming, fixed_ends, with_bound_name, ref_in}
use Rattle.expand_correct.specs.from_expand_steps.ProofTerms.{pair_term}
use Rattle.expand_correct.specs.from_expand_steps.ProofTerms.{term_layer, termed}

abbrev Numbering : Type 0
Numbering = ℕ → Option ℕ

-- the number after those that a term binds
abbrev numbered : PTerm → Numbering
numbered = fold-PTerm Numbering numbered_step

numbers-Imply : (p q : CForm) (n : ℕ) → numbered (Imply p q) n ≡ Some n
numbers-Imply p q n = ap (λ x. numbered x n) (sym (rolls-Imply p q))
    ∙ ap (λ m. m n) (fold-roll-PTerm Numbering numbered_step (PTerm-F.Imply p q))

numbers-From : (r : Ref) (n : ℕ) → numbered (From r) n ≡ Some n
numbers-From r n = ap (λ x. numbered x n) (sym (rolls-From r))
    ∙ ap (λ m. m n) (fold-roll-PTerm Numbering numbered_step (PTerm-F.From r))

numbers-Trans : (t u : PTerm) (n : ℕ) → numbered (Trans t u) n ≡ option_and_then (numbered u) (numbered t n)
numbers-Trans t u n = ap (λ x. numbered x n) (sym (rolls-Trans t u))
    ∙ ap (λ m. m n) (fold-roll-PTerm Numbering numbered_step (PTerm-F.Trans t u))

numbers-Either : (t u : PTerm) (n : ℕ) → numbered (Either t u) n ≡ option_and_then (numbered u) (numbered t n)
numbers-Either t u n = ap (λ x. numbered x n) (sym (rolls-Either t u))
    ∙ ap (λ m. m n) (fold-roll-PTerm Numbering numbered_step (PTerm-F.Either t u))

numbers-Exists : (m : ℕ) (range : Range) (t : PTerm) (n : ℕ) →
    numbered (Exists m range t) n ≡ cond (nat_eq m n) (numbered t (n + 1)) None
numbers-Exists m range t n = ap (λ x. numbered x n) (sym (rolls-Exists m range t))
    ∙ ap (λ f. f n) (fold-roll-PTerm Numbering numbered_step (PTerm-F.Exists m range t))

numbers-Induct : (m : ℕ) (range : Range) (measure : CTerm) (p q : CForm) (t : PTerm) (n : ℕ) →
    numbered (Induct m range measure p q t) n ≡ cond (nat_eq m n) (numbered t (n + 1)) None
numbers-Induct m range measure p q t n = ap (λ x. numbered x n) (sym (rolls-Induct m range measure p q t))
    ∙ ap (λ f. f n) (fold-roll-PTerm Numbering numbered_step (PTerm-F.Induct m range measure p q t))

numbers-Psp : (t : PTerm) (r : Ref) (n : ℕ) → numbered (Psp t r) n ≡ numbered t n
numbers-Psp t r n = ap (λ x. numbered x n) (sym (rolls-Psp t r))
    ∙ ap (λ m. m n) (fold-roll-PTerm Numbering numbered_step (PTerm-F.Psp t r))

numbers-Weaken : (p q : CForm) (t : PTerm) (n : ℕ) → numbered (Weaken p q t) n ≡ numbered t n
numbers-Weaken p q t n = ap (λ x. numbered x n) (sym (rolls-Weaken p q t))
    ∙ ap (λ m. m n) (fold-roll-PTerm Numbering numbered_step (PTerm-F.Weaken p q t))

numbers_pair : (which : Word) (t u : PTerm) (n : ℕ) →
    numbered (pair_term which t u) n ≡ option_and_then (numbered u) (numbered t n)
numbers_pair Word.Either t u n = numbers-Either t u n
numbers_pair _ t u n = numbers-Trans t u n

own_number : (n : ℕ) (after : Option ℕ) → cond (nat_eq n n) after None ≡ after
own_number n after = ap (λ b. cond b after None) (eq-eqb n n refl)

abbrev AllNumbered : Terming → Type 0
AllNumbered m = (c : Place) (next : ℕ) → numbered (m c next).core next ≡ Some (m c next).next

abbrev R : Terming → Unit {0} → Type 0
R m u = AllNumbered m

layer : (y : Term-F (Related R)) → AllNumbered (term_layer (map-Term (Related R) Terming (λ r. r.0) y))
layer (Term-F.Imply at p q) c next = numbers-Imply (form_in c.scope p) (form_in c.scope q) next
layer (Term-F.From at of) c next = numbers-From (ref_in c of) next
layer (Term-F.Pair at which x y) c next =
    let t = x.0 c next in
    let u = y.0 c t.next in
    numbers_pair which t.core u.core next ∙ ap (option_and_then (numbered u.core)) (x.2 c next) ∙ y.2 c t.next
layer (Term-F.Exists at name range x) c next =
    let inner = with_bound_name c name.text next range in
    let t = x.0 inner (next + 1) in
    numbers-Exists next (core_range (fixed_ends range)) t.core next ∙ own_number next (numbered t.core (next + 1))
    ∙ x.2 inner (next + 1)
layer (Term-F.Induct at name range measure p q x) c next =
    let inner = with_bound_name c name.text next range in
    let t = x.0 inner (next + 1) in
    numbers-Induct next (core_range (fixed_ends range)) (term_in c.scope measure) (form_in c.scope p)
    (form_in c.scope q) t.core next ∙ own_number next (numbered t.core (next + 1)) ∙ x.2 inner (next + 1)
layer (Term-F.Psp at x by) c next = numbers-Psp (x.0 c next).core (ref_in c by) next ∙ x.2 c next
layer (Term-F.Weaken at p q x) c next =
    numbers-Weaken (form_in c.scope p) (form_in c.scope q) (x.0 c next).core next ∙ x.2 c next

pub terms_numbered : (t : Term) (c : Place) (next : ℕ) →
    fold-PTerm Numbering numbered_step (termed t c next).core next ≡ Some (termed t c next).next
terms_numbered t = two_terms R term_layer (λ y. tt) layer t
