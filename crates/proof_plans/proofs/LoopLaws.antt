-- Parts of a verdict, and items of a list.
use Rattle.std.proofs.Common.{◌≡◌, ℕ, ◌+◌, ◌<◌, ◌≤◌, List, ◌∷◌, length, Result, Ok, Err}
use Rattle.std.proofs.Common.{sym, ap, ◌∙◌, subst, slice_index_or, arith, Option, Some, None}
use Rattle.std.proofs.Common.{true, false, Bool, cond, nat_eq, nat_lt}
use Rattle.std.specs.Prelude.{All, sum}
use Rattle.std.proofs.lemmas.Grind.{common_steps}
use Rattle.std.specs.Result.{IsErrAnd}
use Rattle.case_tables.specs.declared.code_table.Code.{Code}
use Rattle.core_terms.specs.declared.programs.CSlot.{CSlot}
use Rattle.core_terms.specs.declared.programs.CProgram.{CProgram}
use Rattle.core_terms.specs.declared.documents.CProof.{CProof}
use Rattle.core_terms.specs.declared.documents.CDocument.{CDocument}
use Rattle.core_terms.specs.Conditions.{IsProgram, IsProof, IsCoreDocument}
use Rattle.obligations.specs.declared.certificates.Cert.{Cert}
use Rattle.safety_rules.proofs.lemmas_from_rules_table.EachLaws.{from_all, each_at, found_in}
use Rattle.safety_rules.specs.from_rules_table.Table.{needs}
use Rattle.safety_rules.specs.from_rules_table.Walk.{Around, program_of}
use Rattle.proof_plans.specs.declared.plans.Plan.{Plan}
use Rattle.proof_plans.specs.declared.plans.StepFault.{StepFault}
use Rattle.proof_plans.specs.declared.plans.ScriptError.{ScriptError}
use Rattle.proof_plans.specs.Verdicts.{then_by}
use Rattle.rules_steps.specs.declared.around.Around.{Around as SeenBy}
use Rattle.rules_steps.specs.Starts.{document_seen, seen_of}
use Rattle.proof_plans.specs.Verdicts.{proofs_verdict, or_rule_fault}
use Rattle.proof_plans.specs.Verdicts.{surplus_fault, last_verdict, no_plan, verdict_of}

-- an error that is handed on
pub handed_on : {T : Type 0} (P : Result T ScriptError → Type 0) (r : Result T ScriptError) (e : ScriptError) →
    IsErrAnd r (λ x. x ≡ e) → P (Err e) → P r
handed_on P (Err x) e h p = subst (λ y. P (Err y)) (sym h) p
handed_on P (Ok x) e h p = absurd h

-- what follows a part
pub went : {A B : Type 0} (r : Result A StepFault) (x : A) (f : A → Result B StepFault) → r ≡ Ok x →
    then_by r f ≡ f x
went r x f e = ap (λ y. then_by y f) e

-- the numbers of a list, one by one
pub sum_more : (n : ℕ) (ns : List ℕ) → sum (n ∷ ns) ≡ n + sum ns
sum_more n ns = grind (arith, common_steps)

-- an item of a list has a property that all have
pub item_has : {X : Type 0} (P : X → Type 0) (xs : List X) (i : ℕ) (x : X) → i < length xs →
    x ≡ slice_index_or xs i x → All P xs → P x
item_has P xs i x h e all = subst P (sym e) (all i x h)

-- a proof's end changes nothing
pub end_keeps : (c : CProgram) (plan new : Plan) (b : Bool) →
    or_rule_fault c.name None (needs b Code.DefinedMissing (Ok plan)) ≡ Ok new → plan ≡ new
end_keeps c plan new true e = cc
end_keeps c plan new false e = cc

pub rule_passed : {A : Type 0} (program : ℕ) (step : Option ℕ) (r : Result A Code) (x : A) →
    or_rule_fault program step r ≡ Ok x → r ≡ Ok x
rule_passed program step (Ok y) x e = let same : y ≡ x = cc in ap (λ z. Ok z) same
rule_passed program step (Err code) x e = cc

-- the program of a name is one of the document's
pub named_program : (slots : List CSlot) (programs : List CProgram) (name : ℕ) (p : CProgram) →
    All (IsProgram slots) programs → program_of programs name ≡ Some p → IsProgram slots p
named_program slots programs name p all e =
    let f = found_in (λ (q : CProgram). nat_eq q.name name) programs p e in
    each_at (IsProgram slots) programs (from_all (IsProgram slots) programs all) f.place p f.there

-- what is so of a document's proofs is so of them as its steps see it
pub seen_proofs : (d : CDocument) (a : SeenBy) (proofs : List CProof) → IsCoreDocument d → seen_of a ≡ document_seen d →
    proofs ≡ d.proofs → All (IsProof a.slots.now a.programs.now) proofs
seen_proofs d a proofs good seen same =
    subst (λ (s : Around). All (IsProof s.slots s.programs) proofs) (sym seen)
    (subst (λ (ps : List CProof). All (IsProof d.slots d.programs) ps) (sym same) good.proofs)

-- no certificate is left
pub verdict_is : (d : CDocument) (certs : List Cert) (plan : Plan) →
    proofs_verdict (document_seen d) certs d.proofs no_plan ≡ Ok plan → length certs ≤ length plan.obligations →
    verdict_of d certs ≡ Ok plan
verdict_is d certs plan e few =
    went (proofs_verdict (document_seen d) certs d.proofs no_plan) plan (last_verdict certs) e
    ∙ ap (λ (b : Bool). cond b (Err (surplus_fault (length plan.obligations))) (Ok plan))
    (not_less (length plan.obligations) (length certs) few)
  where
    not_less : (m n : ℕ) → n ≤ m → nat_lt m n ≡ false
    not_less m n h = grind arith
