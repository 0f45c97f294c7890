-- Names of programs and steps in well-named documents.
use Rattle.std.proofs.Common.{◌≡◌, ℕ, List, [], ◌∷◌, ◌++◌, Bool, true, false, cond, not, Option, Some, None, refl}
use Rattle.std.proofs.Common.{sym, ap, ◌∙◌, length, All, is_some}
use Rattle.std.specs.Prelude.{◌||◌, if◌then◌else◌}
use Rattle.std.specs.List.{list_any}
use Rattle.std.specs.Map.{lookup}
use Rattle.std.specs.Str.{bytes_eq}
use Rattle.std.proofs.lemmas.List.Folds.{list_any-append}
use Rattle.std.proofs.lemmas.List.Elements.{All-nil, All-cons}
use Rattle.std.proofs.lemmas.Slice.Eq.{bytes_eq-Decides}
use Rattle.indexmap.specs.IndexMap.{insert_entry}
use Rattle.case_tables.specs.declared.code_table.Code.{Code}
use Rattle.unity_syntax.specs.declared.name.Name.{Name}
use Rattle.unity_syntax.specs.declared.program.Program.{Program}
use Rattle.unity_syntax.specs.declared.proof.Param.{Param}
use Rattle.unity_syntax.specs.declared.proof.Step.{Step}
use Rattle.unity_syntax.specs.declared.proof.Proof.{Proof}
use Rattle.unity_syntax.specs.declared.document.Part.{Part as DocumentPart}
use Rattle.meaning_documents.specs.Setting.{programs_among}
use Rattle.meaning_documents.specs.Programs.{name_of}
use Rattle.core_terms.specs.Conditions.{EachPair, IsRange}
use Rattle.names_rules.specs.declared.named.Meaning.{Meaning}
use Rattle.names_rules.specs.declared.named.Composed.{Composed}
use Rattle.names_rules.specs.Scope.{Table, Params}
use Rattle.names_rules.specs.Reading.{earlier, unless, filled, binding}
use Rattle.names_rules.specs.Part.{run}
use Rattle.names_rules.specs.Declarations.{items_of, some_of, program_scope}
use Rattle.names_rules.specs.Proofs.{Programs, program_reading, proof_scope, param_part, step_name, step_part}
use Rattle.names_rules.specs.Proofs.{step_rest, step_body, takes_params}
use Rattle.names_rules.specs.WellNamed.{Declared, nothing_declared, new_program, declarations_part, program_body}
use Rattle.names_rules.specs.WellNamed.{parts_of, share, program_part, proved_program, steps_reading, proof_part}
use Rattle.names_rules.specs.WellNamed.{part_of}
use Rattle.names_rules.proofs.Faults.{earlier_first, earlier_second, unless_none}
use Rattle.expand_declarations.specs.References.{param_range}
use Rattle.meaning_documents.specs.Steps.{proofs_among}
use Rattle.expand_correct.specs.Declared.NameLaws.{ProgramsDiffer, ProofsDiffer, StepsDiffer, ParamsHaveRanges}
use Rattle.expand_correct.proofs.Declared.Lists.{Pairs, each_pair}
use Rattle.expand_declarations.proofs.Faultless.{each_of_run, sound_range}
use Rattle.expand_declarations.proofs.NearIndices.{parts_fault}

not_false : (b : Bool) → not b ≡ true → b ≡ false
not_false true h = cc h
not_false false h = refl

same_text : (a b : List ℕ) → a ≡ b → bytes_eq a b ≡ true
same_text a b e = (bytes_eq-Decides a b).1 e

-- whether a program has this name
abbrev has : Programs → List ℕ → Bool
has programs name = is_some (lookup (bytes_eq name) programs)

found : {V : Type 0} (c : Bool) (v : V) (rest : Option V) → c ≡ true → is_some (cond c (Some v) rest) ≡ true
found true v rest h = refl
found false v rest h = cc h

either : {V : Type 0} (c : Bool) (v w : V) (rest more : Option V) → (is_some rest ≡ true → is_some more ≡ true) →
    is_some (cond c (Some v) rest) ≡ true → is_some (cond c (Some w) more) ≡ true
either true v w rest more f h = refl
either false v w rest more f h = f h

-- an entered word is there
entered_there : {V : Type 0} (es : List (List ℕ × V)) (word : List ℕ) (v : V) →
    is_some (lookup (bytes_eq word) (insert_entry bytes_eq es word v)) ≡ true
entered_there [] word v = found (bytes_eq word word) v None (same_text word word refl)
entered_there (e ∷ es) word v = by (bytes_eq word e.0) refl (entered_there es word v)
  where
    by : (b : Bool) → bytes_eq word e.0 ≡ b →
        is_some (lookup (bytes_eq word) (insert_entry bytes_eq es word v)) ≡ true →
        is_some (lookup (bytes_eq word) (if b then (e.0, v) ∷ es else e ∷ insert_entry bytes_eq es word v)) ≡ true
    by true h rest = found (bytes_eq word e.0) v (lookup (bytes_eq word) es) h
    by false h rest =
        ap (λ c. is_some (cond c (Some e.1) (lookup (bytes_eq word) (insert_entry bytes_eq es word v)))) h ∙ rest

-- and so is each that was there
kept_there : {V : Type 0} (es : List (List ℕ × V)) (word other : List ℕ) (v : V) →
    is_some (lookup (bytes_eq other) es) ≡ true →
    is_some (lookup (bytes_eq other) (insert_entry bytes_eq es word v)) ≡ true
kept_there [] word other v h = cc h
kept_there (e ∷ es) word other v h = by (bytes_eq word e.0) h (kept_there es word other v)
  where
    by : (b : Bool) → is_some (cond (bytes_eq other e.0) (Some e.1) (lookup (bytes_eq other) es)) ≡ true →
        (is_some (lookup (bytes_eq other) es) ≡ true →
        is_some (lookup (bytes_eq other) (insert_entry bytes_eq es word v)) ≡ true) →
        is_some (lookup (bytes_eq other) (if b then (e.0, v) ∷ es else e ∷ insert_entry bytes_eq es word v)) ≡ true
    by true h rest = either (bytes_eq other e.0) e.1 v (lookup (bytes_eq other) es) (lookup (bytes_eq other) es)
        (λ x. x) h
    by false h rest = either (bytes_eq other e.0) e.1 e.1 (lookup (bytes_eq other) es)
        (lookup (bytes_eq other) (insert_entry bytes_eq es word v)) rest h

-- programs

-- the name of a program is new, and known after it; names that were known stay known
pub record EntersProgram (old new : Programs) (name : List ℕ) : Type 0 where
  pub fresh : has old name ≡ false
  pub known : has new name ≡ true
  pub kept : (other : List ℕ) → has old other ≡ true → has new other ≡ true

new_name : (programs : Programs) (name : Name) → (new_program programs name).fault ≡ None →
    has programs name.text ≡ false
new_name programs name h = not_false (has programs name.text)
    (unless_none (not (has programs name.text)) Code.DeclaredTwice name.at h)

enters_program : (d : Declared) (p : Program) → (program_part d p).fault ≡ None →
    EntersProgram d.programs (program_part d p).after.programs (name_of p)
enters_program d (Program.Union at name left right) h =
    let composed : Composed =
    record { at = name.at; parts = parts_of d.programs left ++ parts_of d.programs right } in
    record {
      fresh = new_name d.programs name (earlier_first (new_program d.programs name).fault
          (earlier (program_reading d.programs left).fault (earlier (program_reading d.programs right).fault
          (unless (not (share (parts_of d.programs left) (parts_of d.programs right))) Code.DeclaredTwice
          right.at))) h);
      known = entered_there d.programs name.text composed;
      kept = λ other k. kept_there d.programs name.text other composed k;
    }
enters_program d (Program.Plain at name declare always initially start items) h =
    let ds = declarations_part name.at d.names (items_of declare) (items_of always) in
    let body = program_body (program_scope name.at ds.after) initially (some_of start) items d.labels in
    let composed : Composed = record { at = name.at; parts = name.at ∷ [] } in
    record {
      fresh = new_name d.programs name (earlier_first (new_program d.programs name).fault
          (earlier ds.fault (earlier body.fault None)) h);
      known = entered_there d.programs name.text composed;
      kept = λ other k. kept_there d.programs name.text other composed k;
    }

differs : (programs : Programs) (one other : List ℕ) → has programs one ≡ true → has programs other ≡ false →
    other ≡ one → ⊥
differs programs one other h k e =
    let both : true ≡ false = sym h ∙ ap (has programs) (sym e) ∙ k in cc

-- a known name is none of a later program
later_programs : (d : Declared) (parts : List DocumentPart) (name : List ℕ) → has d.programs name ≡ true →
    (run part_of d parts).fault ≡ None → All (λ p. name ≡ name_of p → ⊥) (programs_among parts)
later_programs d [] name k h = All-nil (λ p. name ≡ name_of p → ⊥)
later_programs d (DocumentPart.Program at p ∷ rest) name k h =
    let r = program_part d p in let more = run part_of r.after rest in
    let e = enters_program d p (earlier_first r.fault more.fault h) in
    All-cons (λ q. name ≡ name_of q → ⊥) p (programs_among rest)
    (λ same. differs d.programs name (name_of p) k e.fresh (sym same))
    (later_programs r.after rest name (e.kept name k) (earlier_second r.fault more.fault h))
later_programs d (DocumentPart.Proof at p ∷ rest) name k h =
    let r = proof_part d p in let more = run part_of r.after rest in
    later_programs r.after rest name k (earlier_second r.fault more.fault h)

program_pairs : (d : Declared) (parts : List DocumentPart) → (run part_of d parts).fault ≡ None →
    Pairs (λ p q. name_of p ≡ name_of q → ⊥) (programs_among parts)
program_pairs d [] h = tt
program_pairs d (DocumentPart.Program at p ∷ rest) h =
    let r = program_part d p in let more = run part_of r.after rest in
    let e = enters_program d p (earlier_first r.fault more.fault h) in
    let rest_fault = earlier_second r.fault more.fault h in
    (later_programs r.after rest (name_of p) e.known rest_fault, program_pairs r.after rest rest_fault)
program_pairs d (DocumentPart.Proof at p ∷ rest) h =
    let r = proof_part d p in let more = run part_of r.after rest in
    program_pairs r.after rest (earlier_second r.fault more.fault h)

pub programs_differ : ProgramsDiffer
programs_differ d h = each_pair (λ p q. name_of p ≡ name_of q → ⊥) (programs_among d.parts)
    (program_pairs nothing_declared d.parts (parts_fault d h))

-- names that are kept in a list

or_left : (a b : Bool) → a ≡ true → (a || b) ≡ true
or_left true b h = refl
or_left false b h = cc h

or_right : (a b : Bool) → b ≡ true → (a || b) ≡ true
or_right true b h = refl
or_right false b h = h

-- a name that is put last is among the names, and so is each that was
abbrev with : List (List ℕ) → List ℕ → List (List ℕ)
with names name = names ++ name ∷ []

last_among : (names : List (List ℕ)) (name : List ℕ) → list_any (bytes_eq name) (with names name) ≡ true
last_among names name = list_any-append (bytes_eq name) names (name ∷ [])
    ∙ or_right (list_any (bytes_eq name) names) (bytes_eq name name || false)
    (or_left (bytes_eq name name) false (same_text name name refl))

kept_among : (names : List (List ℕ)) (name other : List ℕ) → list_any (bytes_eq other) names ≡ true →
    list_any (bytes_eq other) (with names name) ≡ true
kept_among names name other h = list_any-append (bytes_eq other) names (name ∷ [])
    ∙ or_left (list_any (bytes_eq other) names) (bytes_eq other name || false) h

apart : (names : List (List ℕ)) (one other : List ℕ) → list_any (bytes_eq one) names ≡ true →
    list_any (bytes_eq other) names ≡ false → one ≡ other → ⊥
apart names one other h k e =
    let both : true ≡ false = sym h ∙ ap (λ n. list_any (bytes_eq n) names) e ∙ k in cc

-- proofs

new_proof : (d : Declared) (p : Proof) → (proof_part d p).fault ≡ None →
    list_any (bytes_eq p.program.text) d.proved ≡ false
new_proof d p h =
    let named = (program_reading d.programs p.program).fault in
    let once = unless (not (list_any (bytes_eq p.program.text) d.proved)) Code.DeclaredTwice p.program.at in
    not_false (list_any (bytes_eq p.program.text) d.proved)
    (unless_none (not (list_any (bytes_eq p.program.text) d.proved)) Code.DeclaredTwice p.program.at
    (earlier_second named once
    (earlier_first (earlier named once) (steps_reading d.programs d.names p.steps).fault h)))

same_proved : (d : Declared) (p : Program) → (program_part d p).after.proved ≡ d.proved
same_proved d (Program.Union at name left right) = refl
same_proved d (Program.Plain at name declare always initially start items) = refl

later_proofs : (d : Declared) (parts : List DocumentPart) (name : List ℕ) →
    list_any (bytes_eq name) d.proved ≡ true → (run part_of d parts).fault ≡ None →
    All (λ p. name ≡ p.program.text → ⊥) (proofs_among parts)
later_proofs d [] name k h = All-nil (λ p. name ≡ p.program.text → ⊥)
later_proofs d (DocumentPart.Program at p ∷ rest) name k h =
    let r = program_part d p in let more = run part_of r.after rest in
    later_proofs r.after rest name (ap (list_any (bytes_eq name)) (same_proved d p) ∙ k)
    (earlier_second r.fault more.fault h)
later_proofs d (DocumentPart.Proof at p ∷ rest) name k h =
    let r = proof_part d p in let more = run part_of r.after rest in
    All-cons (λ q. name ≡ q.program.text → ⊥) p (proofs_among rest)
    (apart d.proved name p.program.text k (new_proof d p (earlier_first r.fault more.fault h)))
    (later_proofs r.after rest name (kept_among d.proved p.program.text name k)
    (earlier_second r.fault more.fault h))

proof_pairs : (d : Declared) (parts : List DocumentPart) → (run part_of d parts).fault ≡ None →
    Pairs (λ p q. p.program.text ≡ q.program.text → ⊥) (proofs_among parts)
proof_pairs d [] h = tt
proof_pairs d (DocumentPart.Program at p ∷ rest) h =
    let r = program_part d p in let more = run part_of r.after rest in
    proof_pairs r.after rest (earlier_second r.fault more.fault h)
proof_pairs d (DocumentPart.Proof at p ∷ rest) h =
    let r = proof_part d p in let more = run part_of r.after rest in
    let rest_fault = earlier_second r.fault more.fault h in (
      later_proofs r.after rest p.program.text (last_among d.proved p.program.text) rest_fault,
      proof_pairs r.after rest rest_fault,
    )

pub proofs_differ : ProofsDiffer
proofs_differ d h = each_pair (λ p q. p.program.text ≡ q.program.text → ⊥) (proofs_among d.parts)
    (proof_pairs nothing_declared d.parts (parts_fault d h))

-- what holds of the steps of each proof without a fault
of_proofs : (P : Proof → Type 0) → ((d : Declared) (p : Proof) → (proof_part d p).fault ≡ None → P p) →
    (d : Declared) (parts : List DocumentPart) → (run part_of d parts).fault ≡ None → All P (proofs_among parts)
of_proofs P each d [] h = All-nil P
of_proofs P each d (DocumentPart.Program at p ∷ rest) h =
    let r = program_part d p in let more = run part_of r.after rest in
    of_proofs P each r.after rest (earlier_second r.fault more.fault h)
of_proofs P each d (DocumentPart.Proof at p ∷ rest) h =
    let r = proof_part d p in let more = run part_of r.after rest in
    All-cons P p (proofs_among rest) (each d p (earlier_first r.fault more.fault h))
    (of_proofs P each r.after rest (earlier_second r.fault more.fault h))

steps_fault : (d : Declared) (p : Proof) → (proof_part d p).fault ≡ None →
    (run (step_part d.programs d.names) [] p.steps).fault ≡ None
steps_fault d p h =
    earlier_second (proved_program d p.program).fault (steps_reading d.programs d.names p.steps).fault h

-- steps

new_step : (programs : Programs) (names : Table) (steps : List (List ℕ)) (s : Step) →
    (step_part programs names steps s).fault ≡ None → list_any (bytes_eq s.name.text) steps ≡ false
new_step programs names steps s h =
    let once = unless (not (list_any (bytes_eq s.name.text) steps)) Code.DeclaredTwice s.name.at in
    let params = unless (not (is_some s.params) || takes_params s.claim) Code.Arity s.name.at in
    not_false (list_any (bytes_eq s.name.text) steps)
    (unless_none (not (list_any (bytes_eq s.name.text) steps)) Code.DeclaredTwice s.name.at
    (earlier_first once params (earlier_first (earlier once params) (step_rest programs names s).fault h)))

later_steps : (programs : Programs) (names : Table) (steps : List (List ℕ)) (list : List Step) (name : List ℕ) →
    list_any (bytes_eq name) steps ≡ true → (run (step_part programs names) steps list).fault ≡ None →
    All (λ s. name ≡ s.name.text → ⊥) list
later_steps programs names steps [] name k h = All-nil (λ s. name ≡ s.name.text → ⊥)
later_steps programs names steps (s ∷ rest) name k h =
    let r = step_part programs names steps s in
    let more = run (step_part programs names) (with steps s.name.text) rest in
    All-cons (λ t. name ≡ t.name.text → ⊥) s rest
    (apart steps name s.name.text k (new_step programs names steps s (earlier_first r.fault more.fault h)))
    (later_steps programs names (with steps s.name.text) rest name (kept_among steps s.name.text name k)
    (earlier_second r.fault more.fault h))

step_pairs : (programs : Programs) (names : Table) (steps : List (List ℕ)) (list : List Step) →
    (run (step_part programs names) steps list).fault ≡ None → Pairs (λ s t. s.name.text ≡ t.name.text → ⊥) list
step_pairs programs names steps [] h = tt
step_pairs programs names steps (s ∷ rest) h =
    let r = step_part programs names steps s in
    let more = run (step_part programs names) (with steps s.name.text) rest in
    let rest_fault = earlier_second r.fault more.fault h in (
      later_steps programs names (with steps s.name.text) rest s.name.text (last_among steps s.name.text) rest_fault,
      step_pairs programs names (with steps s.name.text) rest rest_fault,
    )

pub steps_differ : StepsDiffer
steps_differ d h = of_proofs (λ p. EachPair (λ s t. s.name.text ≡ t.name.text → ⊥) p.steps)
    (λ e p k. each_pair (λ s t. s.name.text ≡ t.name.text → ⊥) p.steps
    (step_pairs e.programs e.names [] p.steps (steps_fault e p k))) nothing_declared d.parts (parts_fault d h)

-- parameters

param_sound : (names : Table) (params : Params) (p : Param) → (param_part names params p).fault ≡ None →
    IsRange (param_range p)
param_sound names params p h = sound_range p.range
    (earlier_second (binding (proof_scope names params) p.name (Meaning.Param (length params))).fault
    (filled [] p.range).fault h)

abbrev HasRanges : Step → Type 0
HasRanges s = All (λ q. IsRange (param_range q)) (some_of s.params)

step_sound : (programs : Programs) (names : Table) (steps : List (List ℕ)) (s : Step) →
    (step_part programs names steps s).fault ≡ None → HasRanges s
step_sound programs names steps s h =
    let params = run (param_part names) [] (some_of s.params) in
    each_of_run (param_part names) (λ q. IsRange (param_range q)) (param_sound names) [] (some_of s.params)
    (earlier_first params.fault (step_body programs (proof_scope names params.after) s).fault
    (earlier_second (step_name steps s).fault (step_rest programs names s).fault h))

pub params_have_ranges : ParamsHaveRanges
params_have_ranges d h = of_proofs (λ p. All HasRanges p.steps)
    (λ e p k. each_of_run (step_part e.programs e.names) HasRanges (step_sound e.programs e.names) [] p.steps
    (steps_fault e p k)) nothing_declared d.parts (parts_fault d h)
