-- The steps of a document and those of its core form, in order.
use Rattle.std.proofs.Common.{◌≡◌, ℕ, zero, suc, List, [], ◌∷◌, ◌++◌, map, Some, refl, sym, ap, ◌∙◌, subst, slice_get}
use Rattle.unity_syntax.specs.declared.proof.Step.{Step}
use Rattle.unity_syntax.specs.declared.proof.Proof.{Proof}
use Rattle.unity_syntax.specs.declared.document.Part.{Part}
use Rattle.unity_syntax.specs.declared.document.Document.{Document}
use Rattle.std.proofs.lemmas.List.{map-append}
use Rattle.rules_table.proofs.EachLaws.{Each, each_join, each_map}
use Rattle.expand_fits_parts.specs.from_expand_declarations.WordNumbers.{document_words, word_number}
use Rattle.meaning_documents.specs.Steps.{proofs_among, ProofStep, of_proof, proof_steps, document_steps}
use Rattle.meaning_executions.specs.Pairwise.{Pairwise}
use Rattle.expand_fits_parts.specs.from_expand_steps.Steps.{core_step, core_proof}
use Rattle.expand_fits_parts.specs.from_expand_documents.Cores.{document_scope, core_document}
use Rattle.expand_fits_parts.proofs.lemmas_from_expand_correct.Preserved.Proofs.{proofs_match}
use Rattle.soundness.specs.PlanSteps.{of_program, core_steps}
use Rattle.soundness.specs.Properties.{core_of}

-- the core steps are those of the steps

own_steps : (d : Document) (proof : Proof) (steps : List Step) →
    map (of_program (word_number (document_words d) proof.program.text))
    (map (core_step (document_words d) proof.program.text (document_scope d.parts)) steps)
    ≡ map (core_of d) (map (of_proof proof) steps)
own_steps d proof [] = refl
own_steps d proof (s ∷ steps) = ap (λ more. core_of d (of_proof proof s) ∷ more) (own_steps d proof steps)

each_core : (d : Document) (proofs : List Proof) →
    core_steps (map (core_proof (document_words d) (document_scope d.parts)) proofs)
    ≡ map (core_of d) (proof_steps proofs)
each_core d [] = refl
each_core d (proof ∷ rest) =
    ap (λ more. map (of_program (word_number (document_words d) proof.program.text))
    (map (core_step (document_words d) proof.program.text (document_scope d.parts)) proof.steps) ++ more)
    (each_core d rest)
    ∙ ap (λ own. own ++ map (core_of d) (proof_steps rest)) (own_steps d proof proof.steps)
    ∙ sym (map-append (core_of d) (map (of_proof proof) proof.steps) (proof_steps rest))

pub core_steps_are : (d : Document) → core_steps (core_document d).proofs ≡ map (core_of d) (document_steps d)
core_steps_are d = ap core_steps (proofs_match d) ∙ each_core d (proofs_among d.parts)

-- where a step stands

pub record StandsIn (d : Document) (s : ProofStep) : Type 0 where
  pub place : ℕ
  pub at : ℕ
  pub proof : slice_get d.parts place ≡ Some (Part.Proof at s.proof)
  pub number : ℕ
  pub step : slice_get s.proof.steps number ≡ Some s.step

-- a proof among these parts, which follow so many
abbrev ProofAt : List Part → Proof → Type 0
ProofAt parts proof = (place : ℕ) × (at : ℕ) × (slice_get parts place ≡ Some (Part.Proof at proof))

further_on : (first : Part) (parts : List Part) (proof : Proof) → ProofAt parts proof → ProofAt (first ∷ parts) proof
further_on first parts proof h = (suc h.0, h.1, h.2)

each_proof : (parts : List Part) → Each (ProofAt parts) (proofs_among parts)
each_proof [] = tt
each_proof (Part.Program at program ∷ rest) =
    each_map (ProofAt rest) (ProofAt (Part.Program at program ∷ rest)) (proofs_among rest)
    (further_on (Part.Program at program) rest) (each_proof rest)
each_proof (Part.Proof at proof ∷ rest) = (
  (zero, at, refl),
  each_map (ProofAt rest) (ProofAt (Part.Proof at proof ∷ rest)) (proofs_among rest)
      (further_on (Part.Proof at proof) rest) (each_proof rest),
)

own_stand : (d : Document) (proof : Proof) → ProofAt d.parts proof → (steps : List Step) →
    ((number : ℕ) (s : Step) → slice_get steps number ≡ Some s → (m : ℕ) × (slice_get proof.steps m ≡ Some s)) →
    Each (StandsIn d) (map (of_proof proof) steps)
own_stand d proof h [] inside = tt
own_stand d proof h (s ∷ steps) inside =
    let own = inside zero s refl in (
      record { place = h.0; at = h.1; proof = h.2; number = own.0; step = own.1 },
      own_stand d proof h steps (λ number t e. inside (suc number) t e),
    )

all_stand : (d : Document) (proofs : List Proof) → Each (ProofAt d.parts) proofs →
    Each (StandsIn d) (proof_steps proofs)
all_stand d [] h = tt
all_stand d (proof ∷ rest) h =
    each_join (StandsIn d) (map (of_proof proof) proof.steps) (proof_steps rest)
    (own_stand d proof h.0 proof.steps (λ number s e. (number, e))) (all_stand d rest h.1)

pub each_stands : (d : Document) → Each (StandsIn d) (document_steps d)
each_stands d = all_stand d (proofs_among d.parts) (each_proof d.parts)

-- and each that stands in a proof is among them

after_list : {X : Type 0} (xs ys : List X) (n : ℕ) (y : X) → slice_get ys n ≡ Some y →
    (m : ℕ) × (slice_get (xs ++ ys) m ≡ Some y)
after_list [] ys n y e = (n, e)
after_list (x ∷ xs) ys n y e = let more = after_list xs ys n y e in (suc more.0, more.1)

before_list : {X : Type 0} (xs ys : List X) (n : ℕ) (x : X) → slice_get xs n ≡ Some x →
    slice_get (xs ++ ys) n ≡ Some x
before_list [] ys n x e = cc e
before_list (y ∷ xs) ys zero x e = e
before_list (y ∷ xs) ys (suc n) x e = before_list xs ys n x e

pub mapped_at : {X Y : Type 0} (f : X → Y) (xs : List X) (n : ℕ) (x : X) → slice_get xs n ≡ Some x →
    slice_get (map f xs) n ≡ Some (f x)
mapped_at f [] n x e = cc e
mapped_at f (y ∷ xs) zero x e = let same : y ≡ x = cc in ap (λ z. Some (f z)) same
mapped_at f (y ∷ xs) (suc n) x e = mapped_at f xs n x e

pub among_steps : (parts : List Part) (place at : ℕ) (proof : Proof) →
    slice_get parts place ≡ Some (Part.Proof at proof) → (number : ℕ) (step : Step) →
    slice_get proof.steps number ≡ Some step →
    (m : ℕ) × (slice_get (proof_steps (proofs_among parts)) m ≡ Some (of_proof proof step))
among_steps [] place at proof e number step f = cc e
among_steps (Part.Program a program ∷ rest) zero at proof e number step f = cc e
among_steps (Part.Program a program ∷ rest) (suc place) at proof e number step f =
    among_steps rest place at proof e number step f
among_steps (Part.Proof a p ∷ rest) zero at proof e number step f =
    let same : p ≡ proof = cc in (
      number,
      before_list (map (of_proof p) p.steps) (proof_steps (proofs_among rest)) number (of_proof proof step)
          (subst (λ q. slice_get (map (of_proof q) q.steps) number ≡ Some (of_proof proof step)) (sym same)
          (mapped_at (of_proof proof) proof.steps number step f)),
    )
among_steps (Part.Proof a p ∷ rest) (suc place) at proof e number step f =
    let more = among_steps rest place at proof e number step f in
    after_list (map (of_proof p) p.steps) (proof_steps (proofs_among rest)) more.0 (of_proof proof step) more.1

-- each proof is among the proofs
pub proof_among : (parts : List Part) (place at : ℕ) (proof : Proof) →
    slice_get parts place ≡ Some (Part.Proof at proof) →
    (m : ℕ) × (slice_get (proofs_among parts) m ≡ Some proof)
proof_among [] place at proof e = cc e
proof_among (Part.Program a program ∷ rest) zero at proof e = cc e
proof_among (Part.Program a program ∷ rest) (suc place) at proof e = proof_among rest place at proof e
proof_among (Part.Proof a p ∷ rest) zero at proof e =
    let same : p ≡ proof = cc in (zero, ap (λ q. Some q) same)
proof_among (Part.Proof a p ∷ rest) (suc place) at proof e =
    let more = proof_among rest place at proof e in (suc more.0, more.1)

-- pairs

pub pairs_with : {X Y Z : Type 0} (f : X → Z) (R : Z → Y → Type 0) (P : X → Type 0) (S : X → Y → Type 0) (xs : List X)
    (ys : List Y) → Pairwise R (map f xs) ys → Each P xs →
    ((n : ℕ) (x : X) (y : Y) → slice_get ys n ≡ Some y → P x → R (f x) y → S x y) → Pairwise S xs ys
pairs_with f R P S [] [] h each give = tt
pairs_with f R P S [] (y ∷ ys) h each give = absurd h
pairs_with f R P S (x ∷ xs) [] h each give = absurd h
pairs_with f R P S (x ∷ xs) (y ∷ ys) h each give = (
  give zero x y refl each.0 h.0,
  pairs_with f R P S xs ys h.1 each.1 (λ n z w e p r. give (suc n) z w e p r),
)

-- what stands at the same place in the second list
pub record Partner {X Y : Type 0} (S : X → Y → Type 0) (ys : List Y) (x : X) : Type 0 where
  pub place : ℕ
  pub item : Y
  pub there : slice_get ys place ≡ Some item
  pub related : S x item

pub pair_at : {X Y : Type 0} (S : X → Y → Type 0) (xs : List X) (ys : List Y) → Pairwise S xs ys → (n : ℕ) (x : X) →
    slice_get xs n ≡ Some x → Partner S ys x
pair_at S [] [] h n x e = cc e
pair_at S [] (y ∷ ys) h n x e = absurd h
pair_at S (z ∷ xs) [] h n x e = absurd h
pair_at S (z ∷ xs) (y ∷ ys) h zero x e =
    let same : z ≡ x = cc in
    record { place = zero; item = y; there = refl; related = subst (λ w. S w y) same h.0 }
pair_at S (z ∷ xs) (y ∷ ys) h (suc n) x e =
    let more = pair_at S xs ys h.1 n x e in
    record { place = suc more.place; item = more.item; there = more.there; related = more.related }
