-- What the union rules give stands, and what a union shows of its parts' `under`.
use Rattle.std.proofs.Common.{◌≡◌, ℕ, zero, suc, ◌+◌, ℤ, List, [], ◌∷◌, ◌++◌, map, Bool, true, false, cond, ◌&&◌}
use Rattle.std.proofs.Common.{◌||◌, Option, Some, None, Result, IsTrue, refl, sym, ap, ◌∙◌, subst, slice_get, length}
use Rattle.std.proofs.Common.{arith}
use Rattle.std.specs.List.{list_all, list_any}
use Rattle.case_tables.specs.declared.kind_table.Kind.{Kind}
use Rattle.case_tables.specs.declared.code_table.Code.{Code}
use Rattle.core_terms.proofs.FoldingLaws.{value-and_form}
use Rattle.core_terms.proofs.SameLaws.{same_form_is}
use Rattle.core_terms.specs.Steps.{slot_ranges, core_step}
use Rattle.core_terms.specs.Trees.{same_form}
use Rattle.core_terms.specs.Values.{form_value}
use Rattle.core_terms.specs.declared.documents.Helper.{Helper}
use Rattle.core_terms.specs.declared.programs.CProgram.{CProgram}
use Rattle.core_terms.specs.declared.programs.CSlot.{CSlot}
use Rattle.core_terms.specs.declared.trees.CForm.{CForm}
use Rattle.core_terms.specs.declared.trees.CForm.TheVariants.{Top, Bottom}
use Rattle.core_terms.proofs.PartLaws.{value-Bottom}
use Rattle.layer_laws.proofs.lemmas_from_meaning_laws.StandingTheorems.{unless_narrows, ensures_narrows}
use Rattle.layer_laws.proofs.lemmas_from_meaning_laws.StandingTheorems.{defined_narrows}
use Rattle.layer_laws.proofs.lemmas_from_meaning_laws.StandingTheorems.{invariant_narrows}
use Rattle.layer_laws.proofs.lemmas_from_meaning_laws.UnionTheorems.{union_unless, union_ensures, union_ensures_second}
use Rattle.layer_laws.proofs.lemmas_from_meaning_laws.UnionTheorems.{union_defined}
use Rattle.layer_laws.proofs.lemmas_from_meaning_laws.UnionTheorems.{union_invariant, union_invariant_second}
use Rattle.layer_laws.specs.from_meaning_laws.Stands.{UnlessStands, EnsuresStands, DefinedStands, InvariantStands}
use Rattle.meaning_executions.specs.Systems.{together}
use Rattle.layer_laws.specs.from_meaning_laws.Tests.{both_hold}
use Rattle.fair_rounds.specs.Records.{holding, are_in_ranges, meets, NamedAt, EnsuresNamed, KindStands}
use Rattle.fair_rounds.specs.from_executor.CoreSystem.{core_system}
use Rattle.fair_rounds.specs.declared.records.Record.{Record}
use Rattle.std.proofs.lemmas.List.{map-append}
use Rattle.meaning_executions.proofs.ExecutionTheorems.{kept}
use Rattle.std.proofs.lemmas.List.{length-map}
use Rattle.rules_table.proofs.CalcSound.{of_both, like}
use Rattle.rules_table.proofs.FormLaws.{imply_gives, all_join}
use Rattle.rules_table.proofs.SiteLaws.{met, AreValid, are_valid, closed_value, closed_all, chosen_statement}
use Rattle.rules_table.proofs.TextSound.{given}
use Rattle.rules_table.specs.Conclusion.{Conclusion}
use Rattle.rules_table.specs.Forms.{imply}
use Rattle.core_terms.specs.Steps.{core_writes}
use Rattle.rules_table.specs.Sound.{IsPartPremise, UnionDefinedSound, UnionInvariantSound, IsSite, IsUnionOf}
use Rattle.rules_table.specs.Sound.{NameNoParameter}
use Rattle.rules_table.specs.Sound.{UnionUnlessSound, UnionEnsuresSound, UnderHolds, UnionShows}
use Rattle.rules_table.specs.Table.{union_unless_of, union_defined_of, union_invariant_of, union_ensures_of, Site}
use Rattle.rules_table.specs.Table.{needs, with_each, under_with, record_of, concluded, is_unless, is_ensures}
use Rattle.rules_table.specs.Table.{is_part_pair, shown_forms, first_helper, claims_defined, is_invariant, ending}
use Rattle.meaning_states.proofs.StepTheorems.{and_left, and_right, both_true, step_keeps_ranges}
use Rattle.meaning_states.specs.State.{State, is_state}
use Rattle.meaning_executions.specs.Execution.{Act, System}
use Rattle.meaning_executions.specs.Properties.{Test, Everywhere, never}

in_first : {X : Type 0} (xs ys : List X) (n : ℕ) (x : X) → slice_get xs n ≡ Some x → slice_get (xs ++ ys) n ≡ Some x
in_first [] ys n x e = cc
in_first (y ∷ xs) ys zero x e = e
in_first (y ∷ xs) ys (suc n) x e = in_first xs ys n x e

at_second : {X : Type 0} (xs ys : List X) (n : ℕ) (x : X) (k : ℕ) → k ≡ length xs + n → slice_get ys n ≡ Some x →
    slice_get (xs ++ ys) k ≡ Some x
at_second [] ys n x k same e = let one : n ≡ k = omega arith in subst (λ j. slice_get ys j ≡ Some x) one e
at_second (y ∷ xs) ys n x zero same e = absurd (omega arith)
at_second (y ∷ xs) ys n x (suc k) same e = let inner : k ≡ length xs + n = omega arith in at_second xs ys n x k inner
    e

both_parts : (i a b : Bool) → (i && (a && b)) ≡ ((i && a) && (i && b))
both_parts true a b = refl
both_parts false a b = refl

-- a union's system is its parts' systems together
pub together_is : (site : Site) (f g : CProgram) → IsUnionOf site f g → together (core_system site.slots f)
    (core_system site.slots g) ≡ core_system site.slots site.program
together_is site f g parts =
    let start : (s : State) → (is_state (slot_ranges site.slots) s && form_value s [] site.program.initially) ≡
    ((is_state (slot_ranges site.slots) s && form_value s [] f.initially) && (is_state (slot_ranges site.slots) s &&
    form_value s [] g.initially)) =
    λ s. ap (λ p. is_state (slot_ranges site.slots) s && form_value s [] p) parts.initially
    ∙ ap (λ b. is_state (slot_ranges site.slots) s && b) (value-and_form s [] f.initially g.initially)
    ∙ both_parts (is_state (slot_ranges site.slots) s) (form_value s [] f.initially) (form_value s [] g.initially) in
    let steps : map (core_step site.slots) site.program.statements ≡ map (core_step site.slots) f.statements ++ map
    (core_step site.slots) g.statements =
    ap (λ ss. map (core_step site.slots) ss) parts.statements ∙ map-append (core_step site.slots) f.statements
    g.statements in
    let initials : (λ s. (is_state (slot_ranges site.slots) s && form_value s [] f.initially) &&
    (is_state (slot_ranges site.slots) s && form_value s [] g.initially)) ≡
    (λ s. is_state (slot_ranges site.slots) s && form_value s [] site.program.initially) = λ i s. sym (start s) i in
    ap (λ (b : State → Bool). record {
      initial = b;
      steps = map (core_step site.slots) f.statements ++ map
          (core_step site.slots) g.statements;
    }) initials
    ∙ ap (λ (acts : List Act). record {
      initial = λ s. is_state (slot_ranges site.slots) s && form_value s []
          site.program.initially;
      steps = acts;
    }) (sym steps)

module _ (site : Site) (good : IsSite site) (f g : CProgram) (parts : IsUnionOf site f g) (a b : Record) (e : List ℤ)
  where
    abbrev xf : System
    xf = core_system site.slots f

    abbrev xg : System
    xg = core_system site.slots g

    abbrev xh : System
    xh = core_system site.slots site.program

    abbrev u : Test
    u = meets site.slots a.under

    abbrev v : Test
    v = meets site.slots b.under

    abbrev w : Test
    w = meets site.slots (under_with site (a.under ++ b.under))

    part_unless : (k : Kind) → IsTrue (is_unless k) → (c : CProgram) (r : Record) → KindStands k site.slots c r e →
        UnlessStands (core_system site.slots c) (meets site.slots r.under) (holding e r.p) (holding e r.q)
    part_unless Kind.Unless t c r stands = stands
    part_unless _ t c r stands = cc

    part_ensures : (k : Kind) → IsTrue (is_ensures k) → (c : CProgram) (r : Record) → KindStands k site.slots c r e →
        EnsuresNamed site.slots c (meets site.slots r.under) (holding e r.p) (holding e r.q) e r.helper
    part_ensures Kind.Ensures t c r stands = stands
    part_ensures _ t c r stands = cc

    joined_unless : UnlessStands xf u (holding e a.p) (holding e a.q) → UnlessStands xg v (holding e a.p)
        (holding e a.q) →
        UnlessStands xh w (holding e a.p) (holding e a.q)
    joined_unless one two =
        subst (λ x. UnlessStands x w (holding e a.p) (holding e a.q)) (together_is site f g parts)
        (unless_narrows (together xf xg) (both_hold u v) w (holding e a.p) (holding e a.q)
        (of_both site good.closed a.under b.under)
        (union_unless xf xg u v (holding e a.p) (holding e a.q) one two))

    -- a named instance of a part is one of the union
    named_first : (h : Option Helper) (place : ℕ) → NamedAt f h e place → NamedAt site.program h e place
    named_first None place named = named
    named_first (Some h) place named = (
      named.0,
      subst (λ ss. slice_get ss place ≡ Some named.0) (sym parts.statements)
          (in_first f.statements g.statements place named.0 named.1),
      named.2,
    )

    ensured_first : EnsuresNamed site.slots f u (holding e a.p) (holding e a.q) e a.helper →
        UnlessStands xg v (holding e a.p) (holding e a.q) →
        EnsuresNamed site.slots site.program w (holding e a.p) (holding e a.q) e a.helper
    ensured_first one two =
        record {
          choice = one.choice;
          ensured = subst (λ x. EnsuresStands x w (holding e a.p) (holding e a.q) one.choice)
              (together_is site f g parts)
              (ensures_narrows (together xf xg) (both_hold u v) w (holding e a.p) (holding e a.q) one.choice
              (of_both site good.closed a.under b.under)
              (union_ensures xf xg u v (holding e a.p) (holding e a.q) one.choice one.ensured two));
          named = named_first a.helper one.choice one.named;
        }

pub union_unless_sound : UnionUnlessSound
unfolding union_unless_of
union_unless_sound site good f g parts a b pa pb d e valid =
    let made : Record = record_of site Kind.Unless a.p a.q (a.under ++ b.under) None in
    let one = met (is_part_pair site a b) Code.OtherProgram
    (needs (is_unless a.kind && is_unless b.kind) Code.WrongKind (needs (same_form a.p b.p && same_form a.q b.q)
    Code.MiddleDiffers (concluded site.slots site.params made (shown_forms site a b)))) d e in
    let two = met (is_unless a.kind && is_unless b.kind) Code.WrongKind
    (needs (same_form a.p b.p && same_form a.q b.q) Code.MiddleDiffers (concluded site.slots site.params made
    (shown_forms site a b))) d one.1 in
    let three = met (same_form a.p b.p && same_form a.q b.q) Code.MiddleDiffers (concluded site.slots site.params
    made (shown_forms site a b)) d two.1 in
    let p_same = same_form_is a.p b.p (and_left (same_form a.p b.p) (same_form a.q b.q) three.0) in
    let q_same = same_form_is a.q b.q (and_right (same_form a.p b.p) (same_form a.q b.q) three.0) in
    given site made (shown_forms site a b)
    (λ all n inside.
    let first = part_unless site good f g parts a b n a.kind (and_left (is_unless a.kind) (is_unless b.kind) two.0) f
    a
    (pa.stands n (subst (λ rs. IsTrue (are_in_ranges rs n)) (sym pa.params) inside)) in
    let second = part_unless site good f g parts a b n b.kind (and_right (is_unless a.kind) (is_unless b.kind) two.0)
    g b
    (pb.stands n (subst (λ rs. IsTrue (are_in_ranges rs n)) (sym pb.params) inside)) in
    joined_unless site good f g parts a b n first
    (like (UnlessStands (core_system site.slots g) (meets site.slots b.under)) (holding n b.p) (holding n a.p)
    (holding n b.q) (holding n a.q)
    (ap (holding n) (sym p_same)) (ap (holding n) (sym q_same)) second))
    d three.1 valid

-- `defined` of both parts
module _ (site : Site) (good : IsSite site) (f g : CProgram) (parts : IsUnionOf site f g) (a b : Record)
    (e : List ℤ) where
  abbrev xd : System
  xd = together (core_system site.slots f) (core_system site.slots g)

  abbrev ud : Test
  ud = both_hold (meets site.slots a.under) (meets site.slots b.under)

  abbrev wd : Test
  wd = meets site.slots (under_with site (a.under ++ b.under))

  joined_defined : (k l : Kind) → IsTrue (claims_defined k && claims_defined l) → KindStands k site.slots f a e →
      KindStands l site.slots g b e → DefinedStands (core_system site.slots site.program) wd
  joined_defined Kind.Defined Kind.Defined t one two =
      subst (λ x. DefinedStands x wd) (together_is site f g parts)
      (defined_narrows xd ud wd (of_both site good.closed a.under b.under)
      (union_defined (core_system site.slots f) (core_system site.slots g) (meets site.slots a.under)
      (meets site.slots b.under) one two))
  joined_defined Kind.Defined _ t one two = cc
  joined_defined _ l t one two = cc

  bottom_never : holding e Bottom ≡ never
  bottom_never = λ i s. value-Bottom s e i

  narrowed_invariant : InvariantStands xd ud (holding e a.p) →
      InvariantStands (core_system site.slots site.program) wd (holding e a.p)
  narrowed_invariant stands =
      subst (λ x. InvariantStands x wd (holding e a.p)) (together_is site f g parts)
      (invariant_narrows xd ud wd (holding e a.p) (of_both site good.closed a.under b.under) stands)

  -- an invariant of one part that the other keeps
  joined_invariant : (k l : Kind) → IsTrue ((is_invariant k && is_unless l) || (is_unless k && is_invariant l)) →
      a.p ≡ b.p → cond (is_unless k) a.q b.q ≡ Bottom → KindStands k site.slots f a e →
      KindStands l site.slots g b e → InvariantStands (core_system site.slots site.program) wd (holding e a.p)
  joined_invariant Kind.Invariant Kind.Unless t same end one two =
      narrowed_invariant
      (union_invariant (core_system site.slots f) (core_system site.slots g) (meets site.slots a.under)
      (meets site.slots b.under) (holding e a.p) one
      (like (UnlessStands (core_system site.slots g) (meets site.slots b.under)) (holding e b.p) (holding e a.p)
      (holding e b.q) never (ap (holding e) (sym same)) (ap (holding e) end ∙ bottom_never) two))
  joined_invariant Kind.Unless Kind.Invariant t same end one two =
      narrowed_invariant
      (union_invariant_second (core_system site.slots f) (core_system site.slots g) (meets site.slots a.under)
      (meets site.slots b.under) (holding e a.p)
      (like (UnlessStands (core_system site.slots f) (meets site.slots a.under)) (holding e a.p) (holding e a.p)
      (holding e a.q) never refl (ap (holding e) end ∙ bottom_never) one)
      (subst (λ p. InvariantStands (core_system site.slots g) (meets site.slots b.under) (holding e p)) (sym same)
      two))
  joined_invariant Kind.Invariant _ t same end one two = cc
  joined_invariant Kind.Unless _ t same end one two = cc
  joined_invariant _ l t same end one two = cc

-- a premise of a union at these numbers
part_at : (site : Site) (c : CProgram) (a : Record) → IsPartPremise site c a → (e : List ℤ) →
    IsTrue (are_in_ranges site.params e) → KindStands a.kind site.slots c a e
part_at site c a part e inside = part.stands e (subst (λ rs. IsTrue (are_in_ranges rs e)) (sym part.params) inside)

pub union_defined_sound : UnionDefinedSound
unfolding union_defined_of
union_defined_sound site good f g parts starts a b pa pb d e valid =
    let made : Record = record_of site Kind.Defined Top Top (a.under ++ b.under) None in
    let end : Result Conclusion Code = concluded site.slots site.params made (shown_forms site a b) in
    let one = met (is_part_pair site a b) Code.OtherProgram
    (needs (claims_defined a.kind && claims_defined b.kind) Code.WrongKind (needs starts Code.NoStart end)) d e in
    let two = met (claims_defined a.kind && claims_defined b.kind) Code.WrongKind
    (needs starts Code.NoStart end) d one.1 in
    let three = met starts Code.NoStart end d two.1 in
    given site made (shown_forms site a b)
    (λ all n inside.
    joined_defined site good f g parts a b n a.kind b.kind two.0 (part_at site f a pa n inside)
    (part_at site g b pb n inside))
    d three.1 valid

pub union_invariant_sound : UnionInvariantSound
unfolding union_invariant_of
union_invariant_sound site good f g parts a b pa pb d e valid =
    let made : Record = record_of site Kind.Invariant a.p Bottom (a.under ++ b.under) None in
    let kinds : Bool = (is_invariant a.kind && is_unless b.kind) || (is_unless a.kind && is_invariant b.kind) in
    let same : Bool = same_form a.p b.p && same_form (ending a b) Bottom in
    let end : Result Conclusion Code = concluded site.slots site.params made (shown_forms site a b) in
    let one = met (is_part_pair site a b) Code.OtherProgram
    (needs kinds Code.WrongKind (needs same Code.MiddleDiffers end)) d e in
    let two = met kinds Code.WrongKind (needs same Code.MiddleDiffers end) d one.1 in
    let three = met same Code.MiddleDiffers end d two.1 in
    given site made (shown_forms site a b)
    (λ all n inside.
    joined_invariant site good f g parts a b n a.kind b.kind two.0
    (same_form_is a.p b.p (and_left (same_form a.p b.p) (same_form (ending a b) Bottom) three.0))
    (same_form_is (ending a b) Bottom (and_right (same_form a.p b.p) (same_form (ending a b) Bottom) three.0))
    (part_at site f a pa n inside) (part_at site g b pb n inside))
    d three.1 valid

-- formulas of which each holds, each once
one_into : (test : CForm → Bool) (seen : List CForm) (f : CForm) (fs : List CForm) → IsTrue (list_all test seen) →
    IsTrue (test f) → IsTrue (list_all test fs) →
    ((more : List CForm) → IsTrue (list_all test more) → IsTrue (list_all test fs) →
    IsTrue (list_all test (with_each more fs))) →
    (b : Bool) → IsTrue (list_all test (with_each (cond b seen (seen ++ (f ∷ []))) fs))
one_into test seen f fs h t k rest true = rest seen h k
one_into test seen f fs h t k rest false =
    rest (seen ++ (f ∷ [])) (all_join test seen (f ∷ []) h (both_true (test f) true t refl)) k

all_into_each : (test : CForm → Bool) (seen fs : List CForm) → IsTrue (list_all test seen) →
    IsTrue (list_all test fs) → IsTrue (list_all test (with_each seen fs))
all_into_each test seen [] h k = h
all_into_each test seen (f ∷ fs) h k =
    one_into test seen f fs h (and_left (test f) (list_all test fs) k) (and_right (test f) (list_all test fs) k)
    (λ more i j. all_into_each test more fs i j)
    (list_any (same_form f) seen)

-- an ensures of the second part is one of the union
module _ (site : Site) (good : IsSite site) (f g : CProgram) (parts : IsUnionOf site f g) (a b : Record) (e : List ℤ)
  where
    abbrev x2 : System
    x2 = together (core_system site.slots f) (core_system site.slots g)

    abbrev u2 : Test
    u2 = both_hold (meets site.slots a.under) (meets site.slots b.under)

    abbrev w2 : Test
    w2 = meets site.slots (under_with site (a.under ++ b.under))

    -- a named instance of the second part is one of the union, after the first part's
    named_second : (h : Option Helper) (place : ℕ) → NamedAt g h e place →
        NamedAt site.program h e (length (core_system site.slots f).steps + place)
    named_second None place named = named
    named_second (Some h) place named =
        let k : ℕ = length (core_system site.slots f).steps + place in
        let there : slice_get (f.statements ++ g.statements) k ≡ Some named.0 =
        at_second f.statements g.statements place named.0 k
        (ap (λ n. n + place) (length-map f.statements (core_step site.slots))) named.1 in
        (named.0, subst (λ ss. slice_get ss k ≡ Some named.0) (sym parts.statements) there, named.2)

    ensured_second : UnlessStands (core_system site.slots f) (meets site.slots a.under) (holding e a.p)
        (holding e a.q) →
        EnsuresNamed site.slots g (meets site.slots b.under) (holding e a.p) (holding e a.q) e b.helper →
        EnsuresNamed site.slots site.program w2 (holding e a.p) (holding e a.q) e b.helper
    ensured_second one two =
        let k : ℕ = length (core_system site.slots f).steps + two.choice in
        record {
          choice = k;
          ensured = subst (λ x. EnsuresStands x w2 (holding e a.p) (holding e a.q) k) (together_is site f g parts)
              (ensures_narrows x2 u2 w2 (holding e a.p) (holding e a.q) k (of_both site good.closed a.under b.under)
              (union_ensures_second (core_system site.slots f) (core_system site.slots g) (meets site.slots a.under)
              (meets site.slots b.under) (holding e a.p) (holding e a.q) two.choice one two.ensured));
          named = named_second b.helper two.choice two.named;
        }

    -- by which part ensures
    ensured_kind : (k l : Kind) → IsTrue ((is_ensures k && is_unless l) || (is_unless k && is_ensures l)) →
        KindStands k site.slots f a e →
        KindStands l site.slots g (record b { p = a.p; q = a.q }) e →
        EnsuresNamed site.slots site.program w2 (holding e a.p) (holding e a.q) e
        (cond (is_ensures k) a.helper b.helper)
    ensured_kind Kind.Ensures Kind.Unless t one two = ensured_first site good f g parts a b e one two
    ensured_kind Kind.Unless Kind.Ensures t one two = ensured_second one two
    ensured_kind Kind.Ensures _ t one two = cc
    ensured_kind Kind.Unless _ t one two = cc
    ensured_kind _ l t one two = cc

-- a record's property, of equal formulas
same_kind : (k : Kind) (slots : List CSlot) (c : CProgram) (b : Record) (p q : CForm) (e : List ℤ) → b.p ≡ p →
    b.q ≡ q → KindStands k slots c b e →
    KindStands k slots c (record b { p = p; q = q }) e
same_kind k slots c b p q e i j h =
    subst (λ r. KindStands k slots c (record b { p = p; q = r }) e) j
    (subst (λ r. KindStands k slots c (record b { p = r }) e) i h)

pub union_ensures_sound : UnionEnsuresSound
unfolding union_ensures_of
union_ensures_sound site good f g parts a b pa pb d e valid =
    let made : Record = record_of site Kind.Ensures a.p a.q (a.under ++ b.under) (first_helper a b) in
    let kinds : Bool = (is_ensures a.kind && is_unless b.kind) || (is_unless a.kind && is_ensures b.kind) in
    let one = met (is_part_pair site a b) Code.OtherProgram
    (needs kinds Code.WrongKind (needs (same_form a.p b.p && same_form a.q b.q) Code.MiddleDiffers
    (concluded site.slots site.params made (shown_forms site a b)))) d e in
    let two = met kinds Code.WrongKind (needs (same_form a.p b.p && same_form a.q b.q) Code.MiddleDiffers
    (concluded site.slots site.params made (shown_forms site a b))) d one.1 in
    let three = met (same_form a.p b.p && same_form a.q b.q) Code.MiddleDiffers (concluded site.slots site.params
    made (shown_forms site a b)) d two.1 in
    let p_same = same_form_is a.p b.p (and_left (same_form a.p b.p) (same_form a.q b.q) three.0) in
    let q_same = same_form_is a.q b.q (and_right (same_form a.p b.p) (same_form a.q b.q) three.0) in
    given site made (shown_forms site a b)
    (λ all n inside.
    ensured_kind site good f g parts a b n a.kind b.kind two.0
    (pa.stands n (subst (λ rs. IsTrue (are_in_ranges rs n)) (sym pa.params) inside))
    (same_kind b.kind site.slots g b a.p a.q n (sym p_same) (sym q_same)
    (pb.stands n (subst (λ rs. IsTrue (are_in_ranges rs n)) (sym pb.params) inside))))
    d three.1 valid

-- a step by choice leads from a state to a state
core_state : (slots : List CSlot) (c : CProgram) → Everywhere (core_system slots c)
    (λ s. IsTrue (is_state (slot_ranges slots) s))
core_state slots c first choices later run place s there =
    kept (core_system slots c) (λ t. IsTrue (is_state (slot_ranges slots) t))
    (λ t n choice h f.
    let i = chosen_statement slots c.statements choice t n f in
    step_keeps_ranges (slot_ranges slots) (core_writes t i.0) t n h i.2)
    first choices later (and_left (is_state (slot_ranges slots) first) (form_value first [] c.initially) run.starts)
    run.steps place s there

pub under_holds : UnderHolds
under_holds site good more using premises first choices later run place s there =
    both_true (is_state (slot_ranges site.slots) s) (list_all (λ f. form_value s [] f) (under_with site more))
    (core_state site.slots site.program first choices later run place s there)
    (all_into_each (λ f. form_value s [] f) [] (site.using ++ more) refl
    (all_join (λ f. form_value s [] f) site.using more (using first choices later run place s there)
    (premises first choices later run place s there)))

shown_all : (site : Site) (e : List ℤ) → IsTrue (are_in_ranges site.params e) → (fs : List CForm) → NameNoParameter fs →
    AreValid site.slots site.params (map (imply site.using) fs) →
    (s : State) → IsTrue (is_state (slot_ranges site.slots) s) →
    IsTrue (list_all (λ f. form_value s e f) site.using) → IsTrue (list_all (λ f. form_value s [] f) fs)
shown_all site e inside [] closed valid s state using = refl
shown_all site e inside (f ∷ fs) closed valid s state using =
    both_true (form_value s [] f) (list_all (λ g. form_value s [] g) fs)
    (sym (closed_value s e f closed.0) ∙ imply_gives s e site.using f (valid.0 s e state inside) using)
    (shown_all site e inside fs closed.1 valid.1 s state using)

pub union_shows : UnionShows
union_shows site good e inside a b closed using valid first choices later run place s there =
    let state = core_state site.slots site.program first choices later run place s there in
    shown_all site e inside (a.under ++ b.under) closed (are_valid site.slots site.params (shown_forms site a b)
    valid) s state
    (closed_all s e site.using good.closed (using first choices later run place s there))
