-- A search always finds something: certificates, values at which an obligation is false, too small a budget, or a rule
-- that fails.
use Rattle.std.proofs.Common.{◌≡◌, ℕ, ◌+◌, ◌-◌, ◌<◌, ◌≤◌, List, [], ◌∷◌, ◌++◌}
use Rattle.std.proofs.Common.{length, Result, Ok, Err, refl, ap, ◌∙◌, subst, append_assoc}
use Rattle.std.proofs.Common.{arith}
use Rattle.core_terms.specs.declared.documents.CDocument.{CDocument}
use Rattle.obligations.specs.Certificates.{units}
use Rattle.obligations.specs.Obligations.{IsObligation}
use Rattle.obligations.specs.declared.branches.Obligation.{Obligation}
use Rattle.obligations.specs.declared.certificates.Cert.{Cert}
use Rattle.proof_plans.proofs.lemmas_from_rules_table.EachLaws.{Each, from_all}
use Rattle.proof_search.specs.from_search_tree.Ends.{Ending, proved, refuted, short, SearchEnds}
use Rattle.proof_script.specs.declared.finding.Finding.{Finding}
use Rattle.proof_script.specs.declared.finding.Halt.{Halt}
use Rattle.proof_plans.specs.declared.plans.Plan.{Plan}
use Rattle.proof_script.specs.declared.plans.Proof as found
use Rattle.proof_plans.specs.declared.plans.ScriptError.{ScriptError}
use Rattle.proof_script.specs.Laws.{IsAnswered, SomeFinding}
use Rattle.proof_script.specs.Proving.{Finds}
use Rattle.proof_plans.specs.Reaching.{Reach, reach_of}
use Rattle.proof_plans.specs.Reaching.{reached}
use Rattle.proof_script.specs.Searches.{HasCertificates, Searches}
use Rattle.proof_plans.proofs.ReachLaws.{no_more}
use Rattle.proof_script.specs.Owning.{IsOwned}
use Rattle.proof_script.proofs.PlannedLaws.{makeable_of, owned_of}
use Rattle.proof_script.proofs.SearchLaws.{begins, false_within, found_one, owner_is, proved_by, refuted_one}
use Rattle.proof_script.proofs.SearchLaws.{search_more, short_by, short_within, stopped_by}

-- no memory is wanted here
abbrev Goes_on : Result (Unit {0}) Halt → Type 0
Goes_on (Ok done) = Unit {0}
Goes_on (Err (Halt.Refuted place)) = Unit {0}
Goes_on (Err (Halt.Short place)) = Unit {0}
Goes_on (Err Halt.Memory) = ⊥

record Among (before os : List Obligation) (old : Finding) : Type 0 where
  pub result : Result (Unit {0}) Halt
  pub new : Finding
  pub goes_on : Goes_on result
  pub searches : Searches result before os old new

-- one obligation

by_end : (before : List Obligation) (o : Obligation) (old : Finding) → HasCertificates before old → IsObligation o →
    Ending o old.left → Among before (o ∷ []) old
by_end before o old h is (proved nodes proof) =
    let cert : Cert = record { nodes = nodes } in
    let within : units nodes ≤ old.left = proof.within in
    record {
      result = Ok tt;
      new = record {
        budget = old.budget;
        left = old.left - units nodes;
        certs = old.certs ++ cert ∷ [];
        variables = old.variables;
        values = old.values;
      };
      goes_on = tt;
      searches = found_one before o cert old (record {
        budget = old.budget;
        left = old.left - units nodes;
        certs = old.certs ++ cert ∷ [];
        variables = old.variables;
        values = old.values;
      }) h is proof refl (omega (arith, within)) refl;
    }
by_end before o old h is (refuted values fails) = record {
  result = Err (Halt.Refuted (length old.certs));
  new = record {
    budget = old.budget;
    left = old.left;
    certs = old.certs;
    variables = o.variables;
    values = values;
  };
  goes_on = tt;
  searches = refuted_one before o old (record {
    budget = old.budget;
    left = old.left;
    certs = old.certs;
    variables = o.variables;
    values = values;
  }) (length old.certs) values h fails refl refl refl;
}
by_end before o old h is (short small) = record {
  result = Err (Halt.Short (length old.certs));
  new = old;
  goes_on = tt;
  searches = short_by before o old old (length old.certs) h small refl;
}

-- obligations

then_rest : (before os : List Obligation) (o : Obligation) (old mid : Finding) → mid.budget ≡ old.budget →
    Among (before ++ o ∷ []) os mid → Among before (o ∷ os) old
then_rest before os o old mid budget rest = record {
  result = rest.result;
  new = rest.new;
  goes_on = rest.goes_on;
  searches = joined rest.result rest.searches;
}
  where
    joined : (r : Result (Unit {0}) Halt) → Searches r (before ++ o ∷ []) os mid rest.new →
        Searches r before (o ∷ os) old rest.new
    joined (Ok done) s = (
      subst (λ (xs : List Obligation). HasCertificates xs rest.new) (append_assoc before (o ∷ []) os) s.0,
      s.1 ∙ budget,
    )
    joined (Err halt) s =
        search_more halt before (o ∷ []) os (o ∷ os) [] old mid rest.new
        (ap (λ (xs : List Obligation). o ∷ xs) (no_more os)) budget s

then_each : (before os : List Obligation) (o : Obligation) (old : Finding) → Among before (o ∷ []) old →
    ((new : Finding) → HasCertificates (before ++ o ∷ []) new → Among (before ++ o ∷ []) os new) →
    Among before (o ∷ os) old
then_each before os o old one next = by_result one.new one.result one.goes_on one.searches
  where
    by_result : (new : Finding) (r : Result (Unit {0}) Halt) → Goes_on r → Searches r before (o ∷ []) old new →
        Among before (o ∷ os) old
    by_result new (Ok done) g s = then_rest before os o old new s.1 (next new s.0)
    by_result new (Err halt) g s = record {
      result = Err halt;
      new = new;
      goes_on = g;
      searches = search_more halt before [] (o ∷ []) (o ∷ os) os old old new refl refl
          (subst (λ (xs : List Obligation). Searches (Err halt) xs (o ∷ []) old new) (no_more before) s);
    }

each_end : SearchEnds → (before os : List Obligation) (old : Finding) → Each IsObligation os →
    HasCertificates before old → Among before os old
each_end ends before [] old are h = record {
  result = Ok tt;
  new = old;
  goes_on = tt;
  searches = (subst (λ (xs : List Obligation). HasCertificates xs old) (no_more before) h, refl);
}
each_end ends before (o ∷ os) old are h =
    then_each before os o old (by_end before o old h are.0 (ends o old.left are.0))
    (λ new f. each_end ends (before ++ o ∷ []) os new are.1 f)

-- the whole document

abbrev at_first : ℕ → Finding
at_first budget = record { budget = budget; left = budget; certs = []; variables = []; values = [] }

abbrev Found : CDocument → ℕ → Type 0
Found d budget = (finding : Result found.Proof ScriptError) × IsAnswered finding × Finds d budget finding

module _ (d : CDocument) (budget : ℕ) (new : Finding) where
  -- there is a certificate for each obligation
  by_reach : (r : Reach) → reach_of d ≡ r → HasCertificates (reached r).obligations new → new.budget ≡ budget →
      Found d budget
  by_reach (Ok plan) e h same = (Ok (found.Proof.Proved plan new.certs), tt, proved_by d budget plan new e h same)
  by_reach (Err stop) e h same =
      (Err (ScriptError.Step stop.fault), tt, stopped_by (reach_of d) stop.plan new stop.fault e h)

  by_search : (owned : (place : ℕ) → place < length (reached (reach_of d)).obligations →
      IsOwned (reached (reach_of d)) place) (r : Result (Unit {0}) Halt) → Goes_on r →
      Searches r [] (reached (reach_of d)).obligations (at_first budget) new → Found d budget
  by_search owned (Ok done) g s = by_reach (reach_of d) refl s.0 s.1
  by_search owned (Err (Halt.Refuted place)) g s =
      let plan : Plan = reached (reach_of d) in
      let by = owned place (false_within plan.obligations place new.variables new.values s) in (
        Ok (found.Proof.Refuted by.0.program by.0.name (place + 1) new.variables new.values),
        tt,
        (s, owner_is plan place by.0.program by.0.name by refl refl),
      )
  by_search owned (Err (Halt.Short place)) g s =
      let plan : Plan = reached (reach_of d) in
      let by = owned place (short_within plan.obligations place budget s) in (
        Ok (found.Proof.Budget by.0.program by.0.name (place + 1)),
        tt,
        (s, owner_is plan place by.0.program by.0.name by refl refl),
      )
  by_search owned (Err Halt.Memory) g s = absurd g

pub some_finding : SearchEnds → SomeFinding
some_finding ends d budget good =
    let plan : Plan = reached (reach_of d) in
    let a = each_end ends [] plan.obligations (at_first budget)
    (from_all IsObligation plan.obligations (makeable_of d good)) (begins budget (at_first budget) refl) in
    by_search d budget a.new (owned_of d good) a.result a.goes_on a.searches
