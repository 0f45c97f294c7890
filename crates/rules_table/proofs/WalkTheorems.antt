-- The steps of a whole document give properties that hold.
use Rattle.std.proofs.Common.{◌≡◌, ℕ, zero, suc, nat_eq, ◌<◌, ℤ, ◌≤ℤ◌, List, [], ◌∷◌, ◌++◌, map, Bool, true, false}
use Rattle.std.proofs.Common.{◌&&◌, ◌⊎◌, inl, inr, Option, Some, None, Result, Ok, Err, IsTrue, refl, sym, ap, ◌∙◌}
use Rattle.std.proofs.Common.{subst, slice_get, slice_index_or, length, take, append_assoc, arith}
use Rattle.std.specs.Prelude.{Contains, ◌≢◌}
use Rattle.std.proofs.lemmas.Int.{ints}
use Rattle.std.specs.Int.RustNames.{int_le}
use Rattle.std.proofs.lemmas.Bool.{eqb-true, eq-eqb}
use Rattle.std.proofs.lemmas.Bool.Decides.{eqb_tells}
use Rattle.std.proofs.lemmas.List.Folds.{list_any-append}
use Rattle.case_tables.specs.declared.code_table.Code.{Code}
use Rattle.meaning_states.specs.State.{is_state}
use Rattle.meaning_states.proofs.StepTheorems.{and_left, and_right, both_true}
use Rattle.core_terms.specs.declared.trees.CForm.{CForm}
use Rattle.core_terms.specs.declared.programs.CSlot.{CSlot}
use Rattle.core_terms.specs.declared.programs.CProgram.{CProgram}
use Rattle.core_terms.specs.declared.documents.CStep.{CStep}
use Rattle.core_terms.specs.declared.documents.Ref.{Ref}
use Rattle.core_terms.specs.declared.documents.CRule.{CRule}
use Rattle.core_terms.specs.declared.documents.CProof.{CProof}
use Rattle.core_terms.specs.declared.documents.CDocument.{CDocument}
use Rattle.core_terms.specs.Steps.{slot_ranges}
use Rattle.core_terms.specs.Conditions.{EachPair, IsSlot, IsStep, IsProof, IsProgram, UnionFits, IsCoreDocument}
use Rattle.core_terms.proofs.BoolLaws.{le_passes, or_first}
use Rattle.fair_rounds.specs.declared.records.Record.{Record}
use Rattle.meaning_executions.specs.Properties.{IsAlwaysDefined}
use Rattle.fair_rounds.specs.from_executor.CoreSystem.{core_system}
use Rattle.fair_rounds.specs.Records.{Holds, IsKept}
use Rattle.fair_rounds.proofs.RecordTheorems.{defined_kept, kept_holds}
use Rattle.rules_table.specs.Conclusion.{Conclusion}
use Rattle.rules_table.specs.Validity.{Goal, AllValid}
use Rattle.rules_table.specs.Table.{needs, claims_defined}
use Rattle.rules_table.specs.Sound.{NameNoParameter, IsSite, HoldThroughout}
use Rattle.rules_table.specs.Walk.{Around, Plan, Failure, around_of, has_defined, or_failure, further, rule_of, planned}
use Rattle.rules_table.specs.Walk.{steps_of, proof_end, program_of, proof_steps, proofs_of, walk_of, step_site}
use Rattle.rules_table.specs.WalkLaws.{WalkSound, StandsOver, LayersStand}
use Rattle.rules_table.proofs.EachLaws.{Each, from_all, each_join, each_map, each_at, found_in}
use Rattle.rules_table.proofs.SiteLaws.{met}
use Rattle.rules_table.proofs.EnsuresSound.{some_item}
use Rattle.rules_table.proofs.KindLaws.{defined_is}
use Rattle.rules_table.proofs.StepSound.{RecordGood, PartsAre, step_good, step_stands_over, defined_params}
use Rattle.rules_table.proofs.NamedLaws.{closed_form}
use Rattle.rules_table.proofs.StepSound.{no_params}

-- answers

passed : {A : Type 0} (program : ℕ) (step : Option ℕ) (r : Result A Code) (x : A) →
    or_failure program step r ≡ Ok x → r ≡ Ok x
passed program step (Ok y) x e = let same : y ≡ x = cc in ap (λ z. Ok z) same
passed program step (Err code) x e = cc

then_so : {A B : Type 0} (r : Result A Failure) (f : A → Result B Failure) (y : B) → further r f ≡ Ok y →
    (x : A) × (r ≡ Ok x) × (f x ≡ Ok y)
then_so (Ok x) f y e = (x, refl, e)
then_so (Err failure) f y e = cc

-- what is valid of a list is valid of its parts

valid_front : (slots : List CSlot) (gs more : List Goal) → AllValid slots (gs ++ more) → AllValid slots gs
valid_front slots [] more h = tt
valid_front slots (g ∷ gs) more h = (h.0, valid_front slots gs more h.1)

valid_back : (slots : List CSlot) (gs more : List Goal) → AllValid slots (gs ++ more) → AllValid slots more
valid_back slots [] more h = h
valid_back slots (g ∷ gs) more h = valid_back slots gs more h.1

-- what is left to be shown only grows

abbrev Grows : Plan → Plan → Type 0
Grows old new = (more : List Goal) × (new.goals ≡ old.goals ++ more)

grown_on : (a b c : Plan) → Grows a b → Grows b c → Grows a c
grown_on a b c one two =
    (one.0 ++ two.0, two.1 ∙ ap (λ gs. gs ++ two.0) one.1 ∙ append_assoc a.goals one.0 two.0)

not_grown : (a : Plan) → Grows a a
not_grown a = ([], sym (nil_after a.goals))
  where
    nil_after : (gs : List Goal) → gs ++ [] ≡ gs
    nil_after [] = refl
    nil_after (g ∷ gs) = ap (λ hs. g ∷ hs) (nil_after gs)

steps_grow : (seen : Around) (c : CProgram) (steps : List CStep) (plan new : Plan) →
    steps_of seen c steps plan ≡ Ok new → Grows plan new
steps_grow seen c [] plan new e =
    let same : plan ≡ new = cc in subst (λ p. Grows plan p) same (not_grown plan)
steps_grow seen c (s ∷ rest) plan new e =
    let one = then_so (or_failure c.name (Some s.name) (rule_of seen c s plan.records)) (λ x.
    steps_of seen c rest (planned plan x)) new e in
    grown_on plan (planned plan one.0) new (one.0.goals, refl)
    (steps_grow seen c rest (planned plan one.0) new one.2)

-- a state of the document

lo_lo : (z : ℤ) → z ≤ℤ z
lo_lo z = omega (arith, ints)

pub lows_state : (slots : List CSlot) → Each IsSlot slots →
    IsTrue (is_state (slot_ranges slots) (map (λ (s : CSlot). s.range.lo) slots))
lows_state [] each = refl
lows_state (s ∷ slots) each =
    let low = le_passes s.range.lo s.range.lo (lo_lo s.range.lo) in
    let high = le_passes s.range.lo s.range.hi each.0.range.some in
    both_true (int_le s.range.lo s.range.lo && int_le s.range.lo s.range.hi)
    (is_state (slot_ranges slots) (map (λ (s : CSlot). s.range.lo) slots))
    (both_true (int_le s.range.lo s.range.lo) (int_le s.range.lo s.range.hi) low high) (lows_state slots each.1)

-- programs by their names

found_first : (g : CProgram) (gs : List CProgram) (f : CProgram) (k : ℕ) →
    EachPair (λ a b. a.name ≡ b.name → ⊥) (g ∷ gs) → slice_get (g ∷ gs) (suc k) ≡ Some f →
    program_of gs f.name ≡ Some f →
    (((nat_eq g.name f.name ≡ true) × (g.name ≡ f.name)) ⊎ ((nat_eq g.name f.name ≡ false) × (g.name ≢ f.name))) →
    program_of (g ∷ gs) f.name ≡ Some f
found_first g gs f k apart there rest (inl same) = absurd (apart zero (suc k) g f (omega arith) refl there same.1)
found_first g gs f k apart there rest (inr other) = rw other.0 rest

named_found : (programs : List CProgram) → EachPair (λ a b. a.name ≡ b.name → ⊥) programs → (k : ℕ) (f : CProgram) →
    slice_get programs k ≡ Some f → program_of programs f.name ≡ Some f
named_found [] apart k f there = cc
named_found (g ∷ gs) apart zero f there =
    let same : g ≡ f = cc in
    rw (eq-eqb g.name f.name (ap (λ (c : CProgram). c.name) same)) there
named_found (g ∷ gs) apart (suc k) f there =
    found_first g gs f k apart there
    (named_found gs (λ i j a b less one two. apart (suc i) (suc j) a b (omega arith) one two) k f there)
    (eqb_tells g.name f.name)

contained_at : (programs : List CProgram) (n : ℕ) (f : CProgram) → (k : ℕ) → k < length (take n programs) →
    slice_index_or (take n programs) k f ≡ f → slice_get programs k ≡ Some f
contained_at [] zero f k less is = absurd (omega arith)
contained_at [] (suc n) f k less is = absurd (omega arith)
contained_at (g ∷ gs) zero f k less is = absurd (omega arith)
contained_at (g ∷ gs) (suc n) f zero less is = ap (λ c. Some c) is
contained_at (g ∷ gs) (suc n) f (suc k) less is =
    let fewer : k < length (take n gs) = omega arith in contained_at gs n f k fewer is

contained_named : (programs : List CProgram) → EachPair (λ a b. a.name ≡ b.name → ⊥) programs → (n : ℕ)
    (f : CProgram) → Contains (take n programs) f → (name : ℕ) → f.name ≡ name → program_of programs name ≡ Some f
contained_named programs apart n f in_front name is =
    sym (ap (λ m. program_of programs m) is)
    ∙ named_found programs apart in_front.0 f (contained_at programs n f in_front.0 in_front.1 in_front.2)

module _ (d : CDocument) (is : IsCoreDocument d) (starts : CProgram → Bool) where
  abbrev seen : Around
  seen = around_of d starts

  abbrev Good : Record → Type 0
  Good a = RecordGood d.slots d.programs a

  -- where a step is by `superpose`, its program is a layer over the one that it refers to
  abbrev Over : CProgram → CStep → Type 0
  Over c s = (r : Ref) → s.rule ≡ CRule.Superpose r → StandsOver d.slots d.programs c r

  -- a program of the document
  module _ (c : CProgram) (place : ℕ) (there : slice_get d.programs place ≡ Some c) where
    program_is : IsProgram d.slots c
    program_is = each_at (IsProgram d.slots) d.programs (from_all (IsProgram d.slots) d.programs is.programs)
        place c there

    named_c : program_of d.programs c.name ≡ Some c
    named_c = named_found d.programs is.program_names place c there

    site_good : (step : CStep) (using : List CForm) → NameNoParameter using → IsSite (step_site d.slots c step using)
    site_good step using closed = record {
      closed = closed;
      initially = closed_form d.slots c.initially program_is.initially;
      state = map (λ (s : CSlot). s.range.lo) d.slots;
      is_one = lows_state d.slots (from_all IsSlot d.slots is.slots);
      statements = program_is.statements;
    }

    parts_good : (book : List Record) (goods : Each Good book) (step : CStep) (fits : IsStep d.slots step)
        (using : List CForm) (good : IsSite (step_site d.slots c step using))
        (holds : HoldThroughout (step_site d.slots c step using) using) → (o : Option (ℕ × ℕ)) →
        UnionFits (take place d.programs) c o →
        PartsAre seen c named_c book goods step fits using good holds o
    parts_good book goods step fits using good holds None unions = tt
    parts_good book goods step fits using good holds (Some parts) unions = (
      unions.0,
      unions.1,
      contained_named d.programs is.program_names place unions.0 unions.2 parts.0 unions.4,
      contained_named d.programs is.program_names place unions.1 unions.3 parts.1 unions.5,
      record {
        statements = ap (λ (p : CProgram). p.statements) unions.6;
        initially = ap (λ (p : CProgram). p.initially) unions.6;
      },
    )

    parts_at : (book : List Record) (goods : Each Good book) (step : CStep) (fits : IsStep d.slots step)
        (using : List CForm) (good : IsSite (step_site d.slots c step using))
        (holds : HoldThroughout (step_site d.slots c step using) using) →
        PartsAre seen c named_c book goods step fits using good holds c.parts
    parts_at book goods step fits using good holds =
        parts_good book goods step fits using good holds c.parts (is.unions place c there)

    -- a record's program has a `defined` step, or is this one
    abbrev Own : List Record → Record → Type 0
    Own book a = IsTrue (has_defined a.program book) ⊎ (a.program ≡ c.name)

    more_defined : (n : ℕ) (book more : List Record) → IsTrue (has_defined n book) →
        IsTrue (has_defined n (book ++ more))
    more_defined n book more t =
        list_any-append (λ a. nat_eq a.program n && claims_defined a.kind) book more
        ∙ or_first (has_defined n book) (has_defined n more) t

    steps_good : (steps : List CStep) → Each (IsStep d.slots) steps → (plan new : Plan) →
        steps_of seen c steps plan ≡ Ok new → AllValid d.slots new.goals → Each Good plan.records →
        Each (Own plan.records) plan.records →
        Each Good new.records × Each (Own new.records) new.records × Each (Over c) steps
    steps_good [] fits plan new e valid goods own =
        let same : plan ≡ new = cc in
        let both = subst (λ p. Each Good p.records × Each (Own p.records) p.records) same (goods, own) in
        (both.0, both.1, tt)
    steps_good (s ∷ rest) fits plan new e valid goods own =
        let one = then_so (or_failure c.name (Some s.name) (rule_of seen c s plan.records)) (λ x.
        steps_of seen c rest (planned plan x)) new e in
        let x : Conclusion = one.0 in
        let grown = steps_grow seen c rest (planned plan x) new one.2 in
        let shown : AllValid d.slots (plan.goals ++ x.goals) =
        valid_front d.slots (plan.goals ++ x.goals) grown.0 (subst (λ gs. AllValid d.slots gs) grown.1 valid) in
        let programs = from_all (IsProgram d.slots) d.programs is.programs in
        let made = passed c.name (Some s.name) (rule_of seen c s plan.records) x one.1 in
        let left = valid_back d.slots plan.goals x.goals shown in
        let given = step_good seen c named_c plan.records goods s fits.0 programs (site_good s)
        (parts_at plan.records goods s fits.0) x made left in
        let over = step_stands_over seen c named_c plan.records goods s fits.0 programs (site_good s)
        (parts_at plan.records goods s fits.0) x made left in
        let book : List Record = plan.records ++ x.made ∷ [] in
        let more = steps_good rest fits.1 (planned plan x) new one.2 valid
        (each_join Good plan.records (x.made ∷ []) goods (given.0, tt))
        (each_join (Own book) plan.records (x.made ∷ [])
        (each_map (Own plan.records) (Own book) plan.records (λ a o. elim o [
          | inl t ↦ inl (more_defined a.program plan.records (x.made ∷ []) t)
          | inr p ↦ inr p
        ]) own)
        (inr given.1, tt)) in
        (more.0, more.1, (over, more.2))

  -- each record's program has a `defined` step
  abbrev Ended : List Record → Record → Type 0
  Ended book a = IsTrue (has_defined a.program book)

  abbrev BookGood : List Record → Type 0
  BookGood book = Each Good book × Each (Ended book) book

  proof_good : (proof : CProof) → IsProof d.slots d.programs proof → (o : Option CProgram) →
      program_of d.programs proof.program ≡ o → (plan new : Plan) → proof_steps seen o proof plan ≡ Ok new →
      AllValid d.slots new.goals → BookGood plan.records →
      BookGood new.records × ((c : CProgram) → o ≡ Some c → Each (Over c) proof.steps)
  proof_good proof fits None found plan new e valid good =
      let same : plan ≡ new = cc in (subst (λ p. BookGood p.records) same good, λ c f. cc)
  proof_good proof fits (Some c) found plan new e valid good =
      let one = then_so (steps_of seen c proof.steps plan) (proof_end c) new e in
      let end = met (has_defined c.name one.0.records) Code.DefinedMissing (Ok one.0) new
      (passed c.name None (needs (has_defined c.name one.0.records) Code.DefinedMissing (Ok one.0)) new one.2) in
      let same : one.0 ≡ new = let given = end.1 in cc in
      let at = found_in (λ b. nat_eq b.name proof.program) d.programs c found in
      let all = steps_good c at.place at.there proof.steps (from_all (IsStep d.slots) proof.steps fits.steps) plan
      one.0
      one.1 (subst (λ p. AllValid d.slots p.goals) (sym same) valid) good.0
      (each_map (Ended plan.records) (Own c at.place at.there plan.records) plan.records (λ a t. inl t) good.1) in
      let ended = each_map (Own c at.place at.there one.0.records) (Ended one.0.records) one.0.records (λ a o. elim o [
        | inl t ↦ t
        | inr p ↦ subst (λ n. IsTrue (has_defined n one.0.records)) (sym p) end.0
      ]) all.1 in (
        subst (λ p. BookGood p.records) same (all.0, ended),
        λ b f. let its : c ≡ b = cc in subst (λ z. Each (Over z) proof.steps) its all.2,
      )

  proof_grows : (proof : CProof) (o : Option CProgram) (plan new : Plan) →
      proof_steps seen o proof plan ≡ Ok new → Grows plan new
  proof_grows proof None plan new e =
      let same : plan ≡ new = cc in subst (λ p. Grows plan p) same (not_grown plan)
  proof_grows proof (Some c) plan new e =
      let one = then_so (steps_of seen c proof.steps plan) (proof_end c) new e in
      let end = met (has_defined c.name one.0.records) Code.DefinedMissing (Ok one.0) new
      (passed c.name None (needs (has_defined c.name one.0.records) Code.DefinedMissing (Ok one.0)) new one.2) in
      let same : one.0 ≡ new = let given = end.1 in cc in
      subst (λ p. Grows plan p) same (steps_grow seen c proof.steps plan one.0 one.1)

  proofs_grow : (proofs : List CProof) (plan new : Plan) → proofs_of seen proofs plan ≡ Ok new → Grows plan new
  proofs_grow [] plan new e = let same : plan ≡ new = cc in subst (λ p. Grows plan p) same (not_grown plan)
  proofs_grow (proof ∷ rest) plan new e =
      let one = then_so (proof_steps seen (program_of d.programs proof.program) proof plan)
      (proofs_of seen rest) new e in
      grown_on plan one.0 new (proof_grows proof (program_of d.programs proof.program) plan one.0 one.1)
      (proofs_grow rest one.0 new one.2)

  abbrev ProofOver : CProof → Type 0
  ProofOver proof = (c : CProgram) → program_of d.programs proof.program ≡ Some c → Each (Over c) proof.steps

  proofs_good : (proofs : List CProof) → Each (IsProof d.slots d.programs) proofs → (plan new : Plan) →
      proofs_of seen proofs plan ≡ Ok new → AllValid d.slots new.goals → BookGood plan.records →
      BookGood new.records × Each ProofOver proofs
  proofs_good [] fits plan new e valid good =
      let same : plan ≡ new = cc in (subst (λ p. BookGood p.records) same good, tt)
  proofs_good (proof ∷ rest) fits plan new e valid good =
      let one = then_so (proof_steps seen (program_of d.programs proof.program) proof plan)
      (proofs_of seen rest) new e in
      let grown = proofs_grow rest one.0 new one.2 in
      let shown = valid_front d.slots one.0.goals grown.0 (subst (λ gs. AllValid d.slots gs) grown.1 valid) in
      let first = proof_good proof fits.0 (program_of d.programs proof.program) refl plan one.0 one.1 shown good in
      let more = proofs_good rest fits.1 one.0 new one.2 valid first.0 in
      (more.0, (first.1, more.1))

  all_good : (plan : Plan) → walk_of d starts ≡ Ok plan → AllValid d.slots plan.goals →
      BookGood plan.records × Each ProofOver d.proofs
  all_good plan e valid = proofs_good d.proofs (from_all (IsProof d.slots d.programs) d.proofs is.proofs)
      (record { records = []; goals = []; owner = [] }) plan e valid (tt, tt)

  -- each record of the plan is kept, and no step of its program is undefined
  pub records_kept : (plan : Plan) → walk_of d starts ≡ Ok plan → AllValid d.slots plan.goals → (place : ℕ)
      (a : Record) (c : CProgram) → slice_get plan.records place ≡ Some a → program_of d.programs a.program ≡ Some c →
      IsKept d.slots c a × IsAlwaysDefined (core_system d.slots c)
  records_kept plan e valid place a c there named =
      let good = (all_good plan e valid).0 in
      let ended = each_at (Ended plan.records) plan.records good.1 place a there in
      let first = some_item (λ b. nat_eq b.program a.program && claims_defined b.kind) plan.records ended in
      let b : Record = first.1 in
      let known = each_at Good plan.records good.0 first.0 b first.2 in
      let same = eqb-true b.program a.program (and_left (nat_eq b.program a.program) (claims_defined b.kind) first.3) in
      let kind = defined_is b.kind (and_right (nat_eq b.program a.program) (claims_defined b.kind) first.3) in
      let kept = known.kept c (ap (λ n. program_of d.programs n) same ∙ named) in
      let always = defined_kept d.slots c b [] kind
      (no_params b.params (defined_params b.kind b.params b.p b.q kind known.fits)) kept in
      ((each_at Good plan.records good.0 place a there).kept c named, always)

  pub records_hold : (plan : Plan) → walk_of d starts ≡ Ok plan → AllValid d.slots plan.goals → (place : ℕ)
      (a : Record) (c : CProgram) → slice_get plan.records place ≡ Some a → program_of d.programs a.program ≡ Some c →
      Holds d.slots c a
  records_hold plan e valid place a c there named =
      let all = records_kept plan e valid place a c there named in kept_holds d.slots c a all.1 all.0

pub walk_sound : WalkSound
walk_sound d is starts plan e valid place a c there named =
    records_hold d is starts plan e valid place a c there named

pub layers_stand : LayersStand
layers_stand d is starts plan e valid at n proof c s r there named stands rule =
    let good = all_good d is starts plan e valid in
    let its = each_at (ProofOver d is starts) d.proofs good.1 at proof there in
    each_at (Over d is starts c) proof.steps (its c named) n s stands r rule
