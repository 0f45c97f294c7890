-- Where a document is accepted, nothing is violated in any execution.
use Rattle.std.proofs.Common.{◌≡◌, ℕ, zero, suc, ◌+◌, ◌<◌, nat_eq, ℤ, List, [], ◌∷◌, ◌++◌, map, slice_get}
use Rattle.std.proofs.Common.{take}
use Rattle.std.proofs.Common.{Bool, true, false, cond, IsTrue, Option, Some, None, refl, sym, ap, ◌∙◌, subst}
use Rattle.std.proofs.Common.{arith}
use Rattle.std.specs.Prelude.{◌≢◌}
use Rattle.std.specs.Option.{option_map, option_or}
use Rattle.std.specs.List.{position_from}
use Rattle.std.proofs.lemmas.Bool.{eqb-true}
use Rattle.case_tables.specs.declared.kind_table.Kind.{Kind}
use Rattle.meaning_states.specs.State.{State, int_eq}
use Rattle.meaning_states.proofs.StepTheorems.{and_left, and_right, same_number}
use Rattle.meaning_executions.specs.Execution.{System, IsExecution, act_step, chosen_step}
use Rattle.meaning_documents.specs.AsSystem.{system_of}
use Rattle.meaning_documents.specs.Setting.{slot_ranges}
use Rattle.meaning_documents.specs.Programs.{document_setting}
use Rattle.meaning_executions.specs.Properties.{Test, but_not, Everywhere, IsAlwaysDefined, IsInvariant}
use Rattle.meaning_executions.proofs.ExecutionTheorems.{prefix_is_execution, get_at}
use Rattle.meaning_documents.proofs.SystemTheorems.{every_state_in_range}
use Rattle.meaning_laws.specs.Stands.{EnsuresStands}
use Rattle.meaning_laws.proofs.StandingTheorems.{unless_holds, some_step, after_choice}
use Rattle.meaning_laws.proofs.AlikeTheorems.{runs_alike}
use Rattle.core_terms.specs.declared.programs.CSlot.{CSlot}
use Rattle.core_terms.specs.declared.programs.CStmt.{CStmt}
use Rattle.core_terms.specs.declared.programs.CProgram.{CProgram}
use Rattle.core_terms.specs.declared.documents.Helper.{Helper}
use Rattle.core_terms.specs.Conditions.{AreApart, IsProgram}
use Rattle.core_terms.specs.Replacing.{arg_values}
use Rattle.fair_rounds.specs.declared.records.Record.{Record}
use Rattle.executor.specs.CoreSystem.{core_system}
use Rattle.fair_rounds.specs.Records.{holding, are_in_ranges, meets, names_statement, EnsuresNamed}
use Rattle.meaning_executions.specs.Counting.{ints_eq}
use Rattle.fair_rounds.specs.Records.{KindStands, KindHolds, IsKept}
use Rattle.fair_rounds.proofs.RecordTheorems.{kept_holds}
use Rattle.rules_table.specs.Walk.{program_of}
use Rattle.rules_table.proofs.EachLaws.{from_all, each_at, found_in}
use Rattle.rules_table.proofs.WalkTheorems.{records_kept}
use Rattle.soundness.specs.from_expand_declarations.WordNumbers.{document_words, word_number}
use Rattle.soundness.specs.from_expand_documents.Cores.{core_document}
use Rattle.soundness.proofs.lemmas_from_expand_correct.Preserved.Meaning.{programs_alike}
use Rattle.trace_watch.specs.Readings.{Reading, passes, is_helped, is_violated}
use Rattle.trace_watch.specs.Cases.{environments, helper_place, is_of, reading_of, watched_from}
use Rattle.trace_watch.specs.Violations.{violation_of, first_failing}
use Rattle.trace_watch.proofs.CaseLaws.{environments_in}
use Rattle.watch_laws.specs.WatchLaws.{NoneOnAccepted}
use Rattle.watch_laws.proofs.Alike.{violations_alike}
use Rattle.watch_laws.proofs.Unviolated.{ReadingHolds, unviolated}

-- the instance that is named is the first that is

int_same : (xs ys : List ℤ) → IsTrue (ints_eq xs ys) → xs ≡ ys
int_same [] [] h = refl
int_same [] (y ∷ ys) h = cc
int_same (x ∷ xs) [] h = cc
int_same (x ∷ xs) (y ∷ ys) h =
    ap (λ z. z ∷ xs) (same_number x y (and_left (int_eq x y) (ints_eq xs ys) h))
    ∙ ap (λ zs. y ∷ zs) (int_same xs ys (and_right (int_eq x y) (ints_eq xs ys) h))

named_once : (h : Helper) (e : List ℤ) (s t : CStmt) → IsTrue (names_statement h e s) → IsTrue (names_statement h e t) →
    AreApart s t → ⊥
named_once h e s t one two apart =
    let labels : s.label ≡ t.label =
    eqb-true s.label h.label (and_left (nat_eq s.label h.label) (ints_eq s.indices (arg_values e h.args)) one)
    ∙ sym (eqb-true t.label h.label
    (and_left (nat_eq t.label h.label) (ints_eq t.indices (arg_values e h.args)) two)) in
    let indices : s.indices ≡ t.indices =
    int_same s.indices (arg_values e h.args)
    (and_right (nat_eq s.label h.label) (ints_eq s.indices (arg_values e h.args)) one)
    ∙ sym (int_same t.indices (arg_values e h.args)
    (and_right (nat_eq t.label h.label) (ints_eq t.indices (arg_values e h.args)) two)) in
    apart.differ labels indices

first_named : (h : Helper) (e : List ℤ) (ss : List CStmt) (i place : ℕ) (s : CStmt) →
    ((j k : ℕ) (t u : CStmt) → j < k → slice_get ss j ≡ Some t → slice_get ss k ≡ Some u → AreApart t u) →
    slice_get ss place ≡ Some s → IsTrue (names_statement h e s) →
    position_from (names_statement h e) i ss ≡ Some (i + place)
first_named h e [] i place s apart at named = cc
first_named h e (t ∷ ts) i zero s apart at named =
    let same : t ≡ s = cc in
    let sum : i ≡ i + 0 = omega arith in
    ap (λ b. cond b (Some i) (position_from (names_statement h e) (i + 1) ts))
    (subst (λ v. names_statement h e v ≡ true) (sym same) named) ∙ ap Some sum
first_named h e (t ∷ ts) i (suc place) s apart at named =
    let other : names_statement h e t ≡ false = go (names_statement h e t) refl in
    let sum : i + 1 + place ≡ i + suc place = omega arith in
    ap (λ b. cond b (Some i) (position_from (names_statement h e) (i + 1) ts)) other
    ∙ first_named h e ts (i + 1) place s (λ j k u v less a b. apart (suc j) (suc k) u v (omega arith) a b) at named
    ∙ ap Some sum
  where
    go : (b : Bool) → names_statement h e t ≡ b → b ≡ false
    go true one = absurd (named_once h e t s one named (apart zero (suc place) t s (omega arith) refl at))
    go false one = refl

-- what the named instance does

helps_always : (x : System) (u p q : Test) (choice : ℕ) (helper : Option ℕ) → helper ≡ Some choice →
    IsInvariant x u → IsAlwaysDefined x → EnsuresStands x u p q choice →
    Everywhere x (λ state. IsTrue (but_not p q state) → IsTrue (is_helped x q helper state))
helps_always x u p q choice helper named always defined stands first choices later run place now e h =
    let act = get_at x.steps choice stands.within in
    let next = some_step (act.0 now) (defined first choices later run place now e choice act.0 act.1) in
    let chosen : chosen_step x choice now ≡ Some next.0 = ap (act_step now) act.1 ∙ next.1 in
    let after = after_choice x u always first choices later run place now next.0 choice e chosen in
    let helped = stands.helps now next.0 (always first choices later run place now e) after chosen h in
    ap (λ o. is_helped x q o now) named ∙ ap (passes q) chosen ∙ helped

-- records that are kept

module _ (slots : List CSlot) (c : CProgram) (fits : IsProgram slots c) where
  abbrev x : System
  x = core_system slots c

  helper_first : (h : Option Helper) (e : List ℤ) (u p q : Test) (named : EnsuresNamed slots c u p q e h) →
      helper_place c h e ≡ Some named.choice
  helper_first None e u p q named = absurd named.named
  helper_first (Some h) e u p q named =
      let sum : 0 + named.choice ≡ named.choice = omega arith in
      first_named h e c.statements 0 named.choice named.named.0 fits.apart named.named.1 named.named.2 ∙ ap Some sum

  kind_reads : (r : Record) → IsAlwaysDefined x → IsKept slots c r → (e : List ℤ) → (kind : Kind) →
      KindStands kind slots c r e → KindHolds kind slots c r e → ReadingHolds kind x (reading_of c r e)
  kind_reads r always kept e Kind.Defined stands holds = holds
  kind_reads r always kept e Kind.Invariant stands holds = holds
  kind_reads r always kept e Kind.Unless stands holds = holds
  kind_reads r always kept e Kind.Ensures stands holds = (
    unless_holds x (meets slots r.under) (holding e r.p) (holding e r.q) kept.under stands.ensured.unless,
    helps_always x (meets slots r.under) (holding e r.p) (holding e r.q) stands.choice (helper_place c r.helper e)
        (helper_first r.helper e (meets slots r.under) (holding e r.p) (holding e r.q) stands) kept.under always
        stands.ensured,
  )
  kind_reads r always kept e Kind.Leadsto stands holds = holds
  kind_reads r always kept e Kind.Until stands holds = holds
  kind_reads r always kept e Kind.Detects stands holds = holds
  kind_reads r always kept e Kind.Constant stands holds = holds
  kind_reads r always kept e Kind.Fixed stands holds = holds

  module _ (first : State) (choices : List ℕ) (later : List State) (run : IsExecution x first choices later) where
    case_holds : (r : Record) → IsAlwaysDefined x → IsKept slots c r → (e : List ℤ) →
        IsTrue (are_in_ranges r.params e) → is_violated x (reading_of c r e) (first ∷ later) choices ≡ false
    case_holds r always kept e inside =
        unviolated x first choices later run r.kind (reading_of c r e)
        (kind_reads r always kept e r.kind (kept.stands e inside) (kept_holds slots c r always kept e inside))

    no_case : (f : Reading → Bool) (read : List ℤ → Reading) (es : List (List ℤ)) (i : ℕ) →
        ((n : ℕ) (e : List ℤ) → slice_get es n ≡ Some e → f (read e) ≡ false) →
        position_from f i (map read es) ≡ None
    no_case f read [] i each = refl
    no_case f read (e ∷ es) i each =
        ap (λ b. cond b (Some i) (position_from f (i + 1) (map read es))) (each zero e refl)
        ∙ no_case f read es (i + 1) (λ n d h. each (suc n) d h)

    pub no_step : (place : ℕ) (rs : List Record) → ((n : ℕ) (r : Record) → slice_get rs n ≡ Some r →
        IsTrue (is_of c r) → IsKept slots c r × IsAlwaysDefined x) →
        first_failing (λ q. is_violated x q (first ∷ later) choices) (watched_from c place rs) ≡ None
    no_step place [] each = refl
    no_step place (r ∷ rs) each =
        go (is_of c r) (λ own. each zero r refl own)
        (no_step (place + 1) rs (λ n q h. each (suc n) q h))
      where
        go : (b : Bool) → (IsTrue b → IsKept slots c r × IsAlwaysDefined x) →
            first_failing (λ q. is_violated x q (first ∷ later) choices) (watched_from c (place + 1) rs) ≡ None →
            first_failing (λ q. is_violated x q (first ∷ later) choices)
            (cond b (record { place = place; cases = map (reading_of c r) (environments r.params) } ∷ []) []
            ++ watched_from c (place + 1) rs) ≡ None
        go false own rest = rest
        go true own rest =
            let kept = own refl in
            ap (λ o. option_or (option_map (violation_of place) o)
            (first_failing (λ q. is_violated x q (first ∷ later) choices) (watched_from c (place + 1) rs)))
            (no_case (λ q. is_violated x q (first ∷ later) choices) (reading_of c r) (environments r.params) 0
            (λ n e h. case_holds r kept.1 kept.0 e (environments_in r.params n e h)))
            ∙ rest

pub none_on_accepted : NoneOnAccepted
none_on_accepted d starts plan accepted name program core found first choices later run place less =
    let ranges = slot_ranges (document_setting d).variables in
    let slots = (core_document d).slots in
    let y = system_of (document_setting d) program in
    let alike = programs_alike d name program core found in
    let at_program = found_in (λ (b : CProgram). nat_eq b.name (word_number (document_words d) name))
    (core_document d).programs core found.found in
    let fits : IsProgram slots core = each_at (IsProgram slots) (core_document d).programs
    (from_all (IsProgram slots) (core_document d).programs accepted.core.programs) at_program.place core
    at_program.there in
    let cut = prefix_is_execution y first choices later run place in
    let core_run = runs_alike ranges y (core_system slots core) alike first (take place choices) (take place later)
    cut in
    let within = every_state_in_range (document_setting d) program first (take place choices) (take place later) cut in
    let same = violations_alike d starts plan (record {
      named = accepted.named;
      faultless = accepted.faultless;
      core = accepted.core;
      walked = accepted.walked;
    }) name program core found (first ∷ take place later) (take place choices) within in
    sym same
    ∙ no_step slots core fits first (take place choices) (take place later) core_run 0 plan.records
    (λ n r at own. records_kept (core_document d) accepted.core starts plan accepted.walked accepted.valid n r core at
    (ap (program_of (core_document d).programs) (eqb-true r.program core.name own ∙ found.numbered) ∙ found.found))
