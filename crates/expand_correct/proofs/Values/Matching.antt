-- Programs and their cores, statement by statement.
use Rattle.std.proofs.Common.{◌≡◌, ℕ, zero, suc, ◌+◌, List, [], ◌∷◌, ◌++◌, map, length, Bool, true, false, ◌&&◌}
use Rattle.std.proofs.Common.{Option, Some, None, option_map, refl, sym, ap, ◌∙◌, slice_get, arith}
use Rattle.std.specs.List.{list_all}
use Rattle.std.proofs.lemmas.List.{length-map}
use Rattle.std.proofs.lemmas.Option.{slice_get-map}
use Rattle.unity_syntax.specs.declared.expression.Expr.{Expr}
use Rattle.unity_syntax.specs.declared.program.Initially.{Initially}
use Rattle.unity_syntax.specs.declared.program.Program.{Program}
use Rattle.meaning_states.specs.State.{State, is_state}
use Rattle.meaning_states.specs.Step.{step}
use Rattle.meaning_documents.specs.Instances.{Instance, instances}
use Rattle.meaning_documents.specs.Value.{value, holds}
use Rattle.meaning_documents.specs.Setting.{setting_of, slot_ranges, seen, is_true_at}
use Rattle.meaning_documents.specs.Programs.{initial_formula}
use Rattle.meaning_executions.specs.Execution.{Act, act_step}
use Rattle.meaning_documents.specs.AsSystem.{instance_step}
use Rattle.meaning_documents.proofs.SystemTheorems.{source_alike}
use Rattle.core_terms.specs.declared.programs.CStmt.{CStmt}
use Rattle.core_terms.specs.Values.{form_value}
use Rattle.core_terms.specs.Steps.{core_writes, core_step}
use Rattle.core_terms.proofs.PartLaws.{value-Top}
use Rattle.core_terms.proofs.FoldingLaws.{value-and_form}
use Rattle.expand_rules.specs.Forming.{as_truth, formed}
use Rattle.expand_rules.specs.Assigning.{stated}
use Rattle.expand_rules.specs.Documents.{scope_of, within}
use Rattle.expand_rules.specs.Programs.{initial_form, core_statement, InitiallyExact, system_of_core}
use Rattle.expand_correct.specs.Values.ProgramLaws.{PlainMatches, UnionMatches, MatchesAlike}
use Rattle.expand_correct.proofs.Values.Operations.{two, value-form_of, holds_truth}
use Rattle.expand_correct.proofs.Values.Values.{formed_as_truth, formed_law}
use Rattle.expand_correct.proofs.Values.DocumentValues.{are_bits, sees_within}
use Rattle.expand_correct.proofs.Values.DocumentSteps.{core_has_step}

and_true : (b : Bool) → b ≡ (b && true)
and_true true = refl
and_true false = refl

initial_value : (programs : List Program) (initially : Option Initially) (state : State) →
    is_state (slot_ranges (setting_of programs).variables) state ≡ true → InitiallyExact (within (scope_of programs)
    []) initially →
    form_value state [] (initial_form (within (scope_of programs) []) initially) ≡ list_all (λ e. is_true_at
    (setting_of programs) [] e state) (initial_formula initially)
initial_value programs None state h x = value-Top state []
initial_value programs (Some section) state h x =
    let s = within (scope_of programs) [] in
    let u = seen (setting_of programs) [] state in
    let e = section.of in
    value-form_of state [] (as_truth (formed e s)).core
    ∙ ap holds ((formed_as_truth state [] (formed e s) (value e u) (formed_law state [] e s u (sees_within state []
    programs [] (are_bits programs state h)))).value x.0 x.1)
    ∙ holds_truth (holds (value e u)) ∙ and_true (holds (value e u))

-- what is mapped twice at a place comes of what stands there
mapped_at : {A B C : Type 0} (f : A → B) (g : B → C) (xs : List A) (n : ℕ) (x : A) (y : C) → slice_get xs n ≡ Some x →
    slice_get (map g (map f xs)) n ≡ Some y → g (f x) ≡ y
mapped_at f g xs n x y e h =
    let there : option_map g (option_map f (slice_get xs n)) ≡ Some y = sym (slice_get-map g (map f xs) n
    ∙ ap (option_map g) (slice_get-map f xs n)) ∙ h in
    let both : Some (g (f x)) ≡ Some y = sym (ap (λ m. option_map g (option_map f m)) e) ∙ there in cc both

pub plain_matches : PlainMatches
plain_matches programs number name shown start initially items xi xs = record {
  initially = λ state h. initial_value programs initially state h xi;
  count = length-map (map (stated (within (scope_of programs) [])) (instances items)) (core_statement number)
      ∙ length-map (instances items) (stated (within (scope_of programs) []));
  steps = λ state choice i c h e f.
      let same : core_statement number (stated (within (scope_of programs) []) i) ≡ c =
      mapped_at (stated (within (scope_of programs) [])) (core_statement number) (instances items) choice i c e f in
      let exact = xs choice i e in
      core_has_step programs state i c h
      (record { outside = ap (λ s. s.outside) (sym same); writes = ap (λ s. s.writes) (sym same) }) exact.0 exact.1;
}

all_joined : {A : Type 0} (p : A → Bool) (xs ys : List A) → (list_all p xs && list_all p ys) ≡ list_all p (xs ++ ys)
all_joined p [] ys = refl
all_joined p (x ∷ xs) ys = assoc (p x) (list_all p xs) (list_all p ys) ∙ ap (λ v. p x && v) (all_joined p xs ys)
  where
    assoc : (a b c : Bool) → ((a && b) && c) ≡ (a && (b && c))
    assoc true b c = refl
    assoc false b c = refl

joined_length : {A : Type 0} (xs ys : List A) → length (xs ++ ys) ≡ length xs + length ys
joined_length [] ys = omega arith
joined_length (x ∷ xs) ys = let h = joined_length xs ys in omega (arith, h)

-- what holds of two lists, place by place, holds of them with others behind
pairs_joined : {A B : Type 0} (R : A → B → Type 0) (xs xs2 : List A) (ys ys2 : List B) → length ys ≡ length xs →
    ((n : ℕ) (x : A) (y : B) → slice_get xs n ≡ Some x → slice_get ys n ≡ Some y → R x y) →
    ((n : ℕ) (x : A) (y : B) → slice_get xs2 n ≡ Some x → slice_get ys2 n ≡ Some y → R x y) →
    (n : ℕ) (x : A) (y : B) → slice_get (xs ++ xs2) n ≡ Some x → slice_get (ys ++ ys2) n ≡ Some y → R x y
pairs_joined R [] xs2 [] ys2 l h k n x y e f = k n x y e f
pairs_joined R [] xs2 (b ∷ ys) ys2 l h k n x y e f = absurd (omega (arith, l))
pairs_joined R (a ∷ xs) xs2 [] ys2 l h k n x y e f = absurd (omega (arith, l))
pairs_joined R (a ∷ xs) xs2 (b ∷ ys) ys2 l h k zero x y e f = h zero x y e f
pairs_joined R (a ∷ xs) xs2 (b ∷ ys) ys2 l h k (suc n) x y e f =
    pairs_joined R xs xs2 ys ys2 (omega (arith, l)) (λ m v w. h (suc m) v w) k n x y e f

pub union_matches : UnionMatches
union_matches programs name c d f g m n =
    let p = λ (state : State) (e : Expr). is_true_at (setting_of programs) [] e state in
    record {
      initially = λ state h. value-and_form state [] f.initially g.initially
          ∙ two (λ v w. v && w) _ _ _ _ (m.initially state h) (n.initially state h) ∙ all_joined (p state) c.initially
          d.initially;
      count = joined_length f.statements g.statements ∙ two (λ v w. v + w) _ _ _ _ m.count n.count
          ∙ sym (joined_length c.instances d.instances);
      steps = λ state choice i s h. pairs_joined
          (λ (i : Instance) (s : CStmt). step (slot_ranges (setting_of programs).variables) (core_writes state s)
          state
          ≡ instance_step (setting_of programs) i state)
          c.instances d.instances f.statements g.statements m.count
          (λ k v w. m.steps state k v w h) (λ k v w. n.steps state k v w h) choice i s;
    }

-- acts that do the same at a state, place by place, are chosen alike
chosen_same : {A B : Type 0} (a : A → Act) (b : B → Act) (state : State) (xs : List A) (ys : List B) → length ys ≡
    length xs →
    ((n : ℕ) (x : A) (y : B) → slice_get xs n ≡ Some x → slice_get ys n ≡ Some y → a x state ≡ b y state) →
    (n : ℕ) → act_step state (slice_get (map a xs) n) ≡ act_step state (slice_get (map b ys) n)
chosen_same a b state [] [] l h n = refl
chosen_same a b state [] (y ∷ ys) l h n = absurd (omega (arith, l))
chosen_same a b state (x ∷ xs) [] l h n = absurd (omega (arith, l))
chosen_same a b state (x ∷ xs) (y ∷ ys) l h zero = h zero x y refl refl
chosen_same a b state (x ∷ xs) (y ∷ ys) l h (suc n) = chosen_same a b state xs ys (omega (arith, l)) (λ m. h (suc m))
    n

and_under : (a b c : Bool) → (a ≡ true → b ≡ c) → (a && b) ≡ (a && c)
and_under true b c same = same refl
and_under false b c same = refl

pub matches_alike : MatchesAlike
matches_alike programs c p slots m same =
    let g = setting_of programs in
    let ranges = slot_ranges g.variables in
    source_alike g c (system_of_core slots p) (sym m.count ∙ sym (length-map p.statements (core_step slots)))
    (λ state. and_under (is_state ranges state) (list_all (λ e. is_true_at g [] e state) c.initially)
    (form_value state [] p.initially)
    (λ h. sym (m.initially state h)) ∙ ap (λ r. is_state r state && form_value state [] p.initially) (sym same))
    (λ state choice h. chosen_same (instance_step g) (core_step slots) state c.instances p.statements m.count
    (λ n i s e f. sym (m.steps state n i s h e f) ∙ ap (λ r. step r (core_writes state s) state) (sym same)) choice)
