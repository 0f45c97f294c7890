-- A search for certificates, from one obligation to the next, and where it stops.
use Rattle.std.proofs.Common.{◌≡◌, ℕ, zero, suc, ◌+◌, ◌≤◌, ◌<◌, ℤ, List, [], ◌∷◌, ◌++◌, map, length, slice_get}
use Rattle.std.proofs.Common.{Bool, true, false, cond, nat_eq, Some, Result, Ok, Err, refl, sym, ap, ◌∙◌, subst}
use Rattle.std.proofs.Common.{append_assoc, arith, length-append}
use Rattle.std.specs.Prelude.{All, sum}
use Rattle.std.specs.List.{list_all}
use Rattle.std.specs.Result.{IsErrAnd}
use Rattle.std.proofs.lemmas.List.Elements.{All-nil, All-push}
use Rattle.std.proofs.lemmas.Grind.{common_steps}
use Rattle.core_terms.specs.declared.documents.CDocument.{CDocument}
use Rattle.obligations.specs.declared.branches.Variable.{Variable}
use Rattle.obligations.specs.declared.branches.Obligation.{Obligation}
use Rattle.obligations.specs.declared.certificates.Cert.{Cert}
use Rattle.obligations.specs.Certificates.{units}
use Rattle.obligations.specs.Obligations.{IsObligation}
use Rattle.obligations.specs.Opening.{Valid}
use Rattle.obligations.specs.Plain.{enough}
use Rattle.certificate_rules.specs.Trees.{is_whole}
use Rattle.certificate_rules.proofs.SoundLaws.{sound}
use Rattle.certificate_rules.proofs.WholeLaws.{more-levels}
use Rattle.proof_search.specs.from_linear_prover.Chains.{is_plain_node}
use Rattle.proof_search.specs.from_search_tree.Searching.{Proof, Counterexample, Partial, is_found_node}
use Rattle.proof_plans.proofs.lemmas_from_rules_table.EachLaws.{Each, each_parts, from_all}
use Rattle.proof_plans.specs.declared.plans.Plan.{Plan}
use Rattle.proof_plans.specs.declared.plans.StepFault.{StepFault}
use Rattle.proof_script.specs.declared.finding.Finding.{Finding}
use Rattle.proof_script.specs.declared.finding.Halt.{Halt}
use Rattle.proof_script.specs.Proving.{units_of, enough_for, IsWithoutQuotient, ComesAtNumber, IsFalse, IsOwner}
use Rattle.proof_script.specs.declared.plans.Proof as found
use Rattle.proof_script.specs.Proving.{Finds, ProvedWithin}
use Rattle.proof_script.specs.Proving.{BudgetIsShort}
use Rattle.proof_script.specs.Proving.{IsStopped}
use Rattle.proof_script.specs.Owning.{IsOwned}
use Rattle.proof_plans.specs.Planning.{reach_from}
use Rattle.proof_plans.specs.Reaching.{Reach, reach_of, reached}
use Rattle.proof_plans.specs.Shown.{ShownAt, AreShown}
use Rattle.proof_script.specs.Searches.{HasCertificates, Searches}
use Rattle.proof_plans.specs.Verdicts.{most_levels}
use Rattle.proof_plans.proofs.lemmas_from_rules_steps.ItemLaws.{to_all}
use Rattle.proof_plans.proofs.ReachLaws.{accepted, shown_join}

-- lists

sum_push : {X : Type 0} (size : X → ℕ) (xs : List X) (x : X) →
    sum (map size (xs ++ x ∷ [])) ≡ sum (map size xs) + size x
sum_push size [] x = last (size x)
  where
    last : (n : ℕ) → sum (n ∷ []) ≡ sum [] + n
    last n = grind (arith, common_steps)
sum_push size (y ∷ xs) x =
    let e = sum_push size xs x in
    step (size y) (map size (xs ++ x ∷ [])) (map size xs) (size x) e
  where
    step : (n : ℕ) (ms ns : List ℕ) (k : ℕ) → sum ms ≡ sum ns + k → sum (n ∷ ms) ≡ sum (n ∷ ns) + k
    step n ms ns k e = grind (arith, common_steps, e)

one_longer : {X : Type 0} (xs : List X) (x : X) → length (xs ++ x ∷ []) ≡ length xs + 1
one_longer [] x = refl
one_longer (y ∷ xs) x = let e = one_longer xs x in omega (arith, e)

got_more : {X : Type 0} (xs ys : List X) (k : ℕ) (x : X) → slice_get xs k ≡ Some x → slice_get (xs ++ ys) k ≡ Some x
got_more [] ys k x e = cc
got_more (z ∷ xs) ys zero x e = e
got_more (z ∷ xs) ys (suc k) x e = got_more xs ys k x e

got_next : {X : Type 0} (xs : List X) (x : X) (ys : List X) → slice_get (xs ++ x ∷ ys) (length xs) ≡ Some x
got_next [] x ys = refl
got_next (z ∷ xs) x ys = got_next xs x ys

-- certificates

shown_kept : (certs more : List Cert) (n : ℕ) (os : List Obligation) → AreShown 1024 certs n os →
    AreShown 1024 (certs ++ more) n os
shown_kept certs more n [] h = tt
shown_kept certs more n (o ∷ os) h = (
  (h.0.0, got_more certs more n h.0.0 h.0.1, h.0.2),
  shown_kept certs more (suc n) os h.1,
)

each_valid : (certs : List Cert) (n : ℕ) (os : List Obligation) → Each IsObligation os → AreShown 1024 certs n os →
    Each Valid os
each_valid certs n [] are h = tt
each_valid certs n (o ∷ os) are h =
    (sound 1024 o h.0.0.nodes are.0 h.0.2, each_valid certs (suc n) os are.1 h.1)

pub all_valid : (os : List Obligation) (f : Finding) → HasCertificates os f → All Valid os
all_valid os f h = to_all Valid os (each_valid f.certs 0 os (from_all IsObligation os h.makeable) h.shown)

-- what is shown within some levels is shown within more
more_shown : (few many : ℕ) → few ≤ many → (certs : List Cert) (n : ℕ) (os : List Obligation) →
    AreShown few certs n os → AreShown many certs n os
more_shown few many h certs n [] s = tt
more_shown few many h certs n (o ∷ os) s = (
  (s.0.0, s.0.1, more-levels few many o s.0.0.nodes h s.0.2),
  more_shown few many h certs (suc n) os s.1,
)

-- the levels of version 1 are allowed in each version
least_levels : (version : ℕ) → 1024 ≤ most_levels version
least_levels version = by_version (nat_eq version 2)
  where
    by_version : (b : Bool) → 1024 ≤ cond b 4096 1024
    by_version true = omega arith
    by_version false = omega arith

-- one obligation

without_last : (before : List Obligation) (o : Obligation) → All IsWithoutQuotient (before ++ o ∷ []) →
    All IsWithoutQuotient before × IsWithoutQuotient o
without_last before o none =
    let parts = each_parts IsWithoutQuotient before (o ∷ [])
    (from_all IsWithoutQuotient (before ++ o ∷ []) none) in
    (to_all IsWithoutQuotient before parts.0, parts.1.0)

pub found_one : (before : List Obligation) (o : Obligation) (cert : Cert) (old new : Finding) →
    HasCertificates before old → IsObligation o →
    Proof o old.left cert.nodes → new.certs ≡ old.certs ++ cert ∷ [] → new.left + units cert.nodes ≡ old.left →
    new.budget ≡ old.budget → HasCertificates (before ++ o ∷ []) new × (new.budget ≡ old.budget)
found_one before o cert old new h is proof certs left budget =
    let had : length old.certs ≡ length before = h.count in
    let is_one : ShownAt 1024 (old.certs ++ cert ∷ []) (length before) o =
    (cert, subst (λ n. slice_get (old.certs ++ cert ∷ []) n ≡ Some cert) had (got_next old.certs cert []), proof.walked)
    in
    let long : length (old.certs ++ cert ∷ []) ≡ length old.certs + 1 = one_longer old.certs cert in
    let longer : length (before ++ o ∷ []) ≡ length before + 1 = one_longer before o in
    let all : units_of (old.certs ++ cert ∷ []) ≡ units_of old.certs + units cert.nodes =
    sum_push (λ (c : Cert). units c.nodes) old.certs cert in
    let allowed : enough_for (before ++ o ∷ []) ≡ enough_for before + enough o = sum_push enough before o in
    let spent = h.spent in
    let cheap = h.cheap in
    let more : units cert.nodes ≤ enough o = proof.cheap in (
      record {
        makeable = All-push IsObligation before o h.makeable is;
        count = ap (λ (cs : List Cert). length cs) certs
            ∙ same_count (length (old.certs ++ cert ∷ [])) (length (before ++ o ∷ [])) (length old.certs)
            (length before) long longer had;
        shown = subst (λ (cs : List Cert). AreShown 1024 cs 0 (before ++ o ∷ [])) (sym certs)
            (shown_join 1024 (old.certs ++ cert ∷ []) 0 before (o ∷ [])
            (shown_kept old.certs (cert ∷ []) 0 before h.shown)
            (subst (λ n. ShownAt 1024 (old.certs ++ cert ∷ []) n o) (none_more (length before)) is_one, tt));
        whole = subst (λ (cs : List Cert). All (λ (c : Cert). is_whole c.nodes 1 ≡ true) cs) (sym certs)
            (All-push (λ (c : Cert). is_whole c.nodes 1 ≡ true) old.certs cert h.whole proof.whole);
        found = subst (λ (cs : List Cert). All (λ (c : Cert). list_all is_found_node c.nodes ≡ true) cs) (sym certs)
            (All-push (λ (c : Cert). list_all is_found_node c.nodes ≡ true) old.certs cert h.found proof.found);
        plain = λ none.
            let parts = without_last before o none in
            subst (λ (cs : List Cert). All (λ (c : Cert). list_all is_plain_node c.nodes ≡ true) cs) (sym certs)
            (All-push (λ (c : Cert). list_all is_plain_node c.nodes ≡ true) old.certs cert (h.plain parts.0)
            (proof.plain parts.1));
        spent = ap (λ (cs : List Cert). units_of cs + new.left) certs
            ∙ spent_is (units_of (old.certs ++ cert ∷ [])) (units_of old.certs) (units cert.nodes) new.left old.left
            old.budget new.budget all left spent budget;
        cheap = subst (λ (cs : List Cert). units_of cs ≤ enough_for (before ++ o ∷ [])) (sym certs)
            (cheap_is (units_of (old.certs ++ cert ∷ [])) (units_of old.certs) (units cert.nodes)
            (enough_for (before ++ o ∷ [])) (enough_for before) (enough o) all allowed cheap more);
      },
      budget,
    )
  where
    none_more : (n : ℕ) → n ≡ 0 + n
    none_more n = omega arith

    same_count : (a b c d : ℕ) → a ≡ c + 1 → b ≡ d + 1 → c ≡ d → a ≡ b
    same_count a b c d e g h = omega (arith, e, g, h)

    spent_is : (all before one left was budget new : ℕ) → all ≡ before + one → left + one ≡ was →
        before + was ≡ budget → new ≡ budget → all + left ≡ new
    spent_is all before one left was budget new e g h k = omega (arith, e, g, h, k)

    cheap_is : (all before one needs first last : ℕ) → all ≡ before + one → needs ≡ first + last → before ≤ first →
        one ≤ last → all ≤ needs
    cheap_is all before one needs first last e g h k = omega (arith, e, g, h, k)

abbrev comes_next : (before : List Obligation) (o : Obligation) (old : Finding) (place : ℕ) →
    HasCertificates before old → place ≡ length old.certs → ComesAtNumber (before ++ o ∷ []) (place + 1) o
comes_next before o old place h e = record {
  front = before;
  rest = [];
  parts = refl;
  numbered = ap (λ n. n + 1) (e ∙ h.count);
  valid = all_valid before old h;
}

pub refuted_one : (before : List Obligation) (o : Obligation) (old new : Finding) (place : ℕ) (values : List ℤ) →
    HasCertificates before old → Counterexample o values → place ≡ length old.certs → new.variables ≡ o.variables →
    new.values ≡ values → Searches (Err (Halt.Refuted place)) before (o ∷ []) old new
refuted_one before o old new place values h counters e variables same = record {
  obligation = o;
  comes = comes_next before o old place h e;
  variables_are = variables;
  fails = subst (λ (zs : List ℤ). Counterexample o zs) (sym same) counters;
}

pub short_by : (before : List Obligation) (o : Obligation) (old new : Finding) (place : ℕ) →
    HasCertificates before old → old.left < enough o → place ≡ length old.certs →
    Searches (Err (Halt.Short place)) before (o ∷ []) old new
short_by before o old new place h small e =
    let spent = h.spent in
    let cheap = h.cheap in record {
      obligation = o;
      comes = comes_next before o old place h e;
      short = less (units_of old.certs) old.left old.budget (enough_for before) (enough o) spent cheap small;
    }
  where
    less : (spent left budget first last : ℕ) → spent + left ≡ budget → spent ≤ first → left < last →
        budget < first + last
    less spent left budget first last e g h = omega (arith, e, g, h)

pub short_one : (before : List Obligation) (o : Obligation) (old new : Finding) (place : ℕ) (cert : Cert) →
    HasCertificates before old → Partial o old.left cert.nodes → place ≡ length old.certs →
    Searches (Err (Halt.Short place)) before (o ∷ []) old new
short_one before o old new place cert h part e = short_by before o old new place h part.small e

-- where a search stops among some obligations, it stops there among more

abbrev comes_more : (os all more : List Obligation) (number : ℕ) (o : Obligation) → all ≡ os ++ more →
    ComesAtNumber os number o → ComesAtNumber all number o
comes_more os all more number o e h = record {
  front = h.front;
  rest = h.rest ++ more;
  parts = e ∙ ap (λ (xs : List Obligation). xs ++ more) h.parts ∙ append_assoc h.front (o ∷ h.rest) more;
  numbered = h.numbered;
  valid = h.valid;
}

false_more : (os all more : List Obligation) (number : ℕ) (variables : List Variable) (values : List ℤ) →
    all ≡ os ++ more → IsFalse os number variables values → IsFalse all number variables values
false_more os all more number variables values e h = record {
  obligation = h.obligation;
  comes = comes_more os all more number h.obligation e h.comes;
  variables_are = h.variables_are;
  fails = h.fails;
}

short_more : (os all more : List Obligation) (number budget : ℕ) → all ≡ os ++ more → BudgetIsShort os number budget →
    BudgetIsShort all number budget
short_more os all more number budget e h = record {
  obligation = h.obligation;
  comes = comes_more os all more number h.obligation e h.comes;
  short = h.short;
}

pub halted_on : {T : Type 0} (P : Result T Halt → Type 0) (r : Result T Halt) (e : Halt) →
    IsErrAnd r (λ x. x ≡ e) → P (Err e) → P r
halted_on P (Err x) e h p = subst (λ y. P (Err y)) (sym h) p
halted_on P (Ok x) e h p = absurd h

whole : (before taken os all more : List Obligation) → all ≡ taken ++ (os ++ more) →
    before ++ all ≡ ((before ++ taken) ++ os) ++ more
whole before taken os all more e =
    ap (λ (xs : List Obligation). before ++ xs) e
    ∙ sym (append_assoc before taken (os ++ more))
    ∙ sym (append_assoc (before ++ taken) os more)

-- `taken` were taken before those in which it stops, and `more` come after these
pub search_more : (e : Halt) (before taken os all more : List Obligation) (first old new : Finding) →
    all ≡ taken ++ (os ++ more) → old.budget ≡ first.budget → Searches (Err e) (before ++ taken) os old new →
    Searches (Err e) before all first new
search_more (Halt.Refuted place) before taken os all more first old new e b h =
    false_more ((before ++ taken) ++ os) (before ++ all) more (place + 1) new.variables new.values
    (whole before taken os all more e) h
search_more (Halt.Short place) before taken os all more first old new e b h =
    subst (λ (n : ℕ). BudgetIsShort (before ++ all) (place + 1) n) b
    (short_more ((before ++ taken) ++ os) (before ++ all) more (place + 1) old.budget
    (whole before taken os all more e) h)
search_more Halt.Memory before taken os all more first old new e b h = tt

-- a search at its begin, and at its end

pub begins : (budget : ℕ) (f : Finding) →
    f ≡ record { budget = budget; left = budget; certs = []; variables = []; values = [] } → HasCertificates [] f
begins budget f e = subst (λ x. HasCertificates [] x) (sym e) (record {
  makeable = All-nil IsObligation;
  count = refl;
  shown = tt;
  whole = All-nil (λ (c : Cert). is_whole c.nodes 1 ≡ true);
  found = All-nil (λ (c : Cert). list_all is_found_node c.nodes ≡ true);
  plain = λ none. All-nil (λ (c : Cert). list_all is_plain_node c.nodes ≡ true);
  spent = none_spent budget;
  cheap = none_needed;
})
  where
    none_spent : (n : ℕ) → sum [] + n ≡ n
    none_spent n = grind (arith, common_steps)

    none_needed : sum [] ≤ sum []
    none_needed = omega arith

pub proved_by : (d : CDocument) (budget : ℕ) (plan : Plan) (f : Finding) → reach_of d ≡ Ok plan →
    HasCertificates plan.obligations f → f.budget ≡ budget → ProvedWithin d budget plan f.certs
proved_by d budget plan f e h same =
    let count = h.count in
    let spent = h.spent in
    record {
      verdict = accepted d f.certs plan e
          (more_shown 1024 (most_levels d.version) (least_levels d.version) f.certs 0 plan.obligations h.shown)
          (omega (arith, count));
      within = few (units_of f.certs) f.left f.budget budget spent same;
      whole = h.whole;
      found = h.found;
      plain = λ none. h.plain (subst (λ r. All IsWithoutQuotient (reached r).obligations) e none);
    }
  where
    few : (all left had budget : ℕ) → all + left ≡ had → had ≡ budget → all ≤ budget
    few all left had budget e h = omega (arith, e, h)

pub stopped_by : (r : Reach) (plan : Plan) (f : Finding) (fault : StepFault) → r ≡ reach_from plan (Some fault) →
    HasCertificates plan.obligations f → IsStopped r fault
stopped_by r plan f fault e h = record {
  plan = plan;
  stops = e;
  valid = all_valid plan.obligations f h;
}

-- where it stops

come_within : (os : List Obligation) (place : ℕ) (o : Obligation) → ComesAtNumber os (place + 1) o → place < length os
come_within os place o h =
    let parts = ap (λ (xs : List Obligation). length xs) h.parts in
    let long = length-append h.front (o ∷ h.rest) in
    let numbered = h.numbered in omega (arith, parts, long, numbered)

-- an obligation is false at its place, or the budget is short there
pub false_within : (os : List Obligation) (place : ℕ) (variables : List Variable) (values : List ℤ) →
    IsFalse os (place + 1) variables values → place < length os
false_within os place variables values h = come_within os place h.obligation h.comes

pub short_within : (os : List Obligation) (place budget : ℕ) → BudgetIsShort os (place + 1) budget → place < length os
short_within os place budget h = come_within os place h.obligation h.comes

-- the step that leaves it
pub owner_is : (plan : Plan) (place program step : ℕ) (owned : IsOwned plan place) → program ≡ owned.0.program →
    step ≡ owned.0.name → IsOwner plan (place + 1) program step
owner_is plan place program step owned e h = record {
  place = place;
  at = owned.1.place;
  made = owned.0;
  numbered = refl;
  owner = owned.1.owner;
  there = owned.1.record_is;
  program_is = sym e;
  step_is = sym h;
}

pub finds_false : (d : CDocument) (budget : ℕ) (plan : Plan) (place program step number : ℕ)
    (variables : List Variable) (values : List ℤ) → reached (reach_of d) ≡ plan → number ≡ place + 1 →
    IsFalse plan.obligations (place + 1) variables values → IsOwner plan (place + 1) program step →
    Finds d budget (Ok (found.Proof.Refuted program step number variables values))
finds_false d budget plan place program step number variables values same e h o =
    subst (λ (n : ℕ). Finds d budget (Ok (found.Proof.Refuted program step n variables values))) (sym e)
    (subst (λ (p : Plan). IsFalse p.obligations (place + 1) variables values × IsOwner p (place + 1) program step)
    (sym same) (h, o))

pub finds_short : (d : CDocument) (budget : ℕ) (plan : Plan) (place program step number : ℕ) →
    reached (reach_of d) ≡ plan → number ≡ place + 1 → BudgetIsShort plan.obligations (place + 1) budget →
    IsOwner plan (place + 1) program step → Finds d budget (Ok (found.Proof.Budget program step number))
finds_short d budget plan place program step number same e h o =
    subst (λ (n : ℕ). Finds d budget (Ok (found.Proof.Budget program step n))) (sym e)
    (subst (λ (p : Plan). BudgetIsShort p.obligations (place + 1) budget × IsOwner p (place + 1) program step)
    (sym same) (h, o))
