-- The numbers of a step's parameters stand for the arguments of its claim.
use Rattle.std.proofs.Common.{◌≡◌, ℕ, ℤ, List, [], ◌∷◌, ◌++◌, length, Bool, true, false, not, cond}
use Rattle.std.proofs.Common.{◌&&◌, ◌||◌, Option, Some, None, option_map, is_some, refl, sym, ap, ◌∙◌, subst}
use Rattle.std.proofs.Common.{take, arith, append_assoc, length-append}
use Rattle.std.specs.Prelude.{fold, if◌then◌else◌}
use Rattle.std.specs.Map.{lookup}
use Rattle.std.specs.Option.{option_or}
use Rattle.std.specs.Str.{bytes_eq}
use Rattle.std.proofs.lemmas.List.{map-append, append-nil}
use Rattle.indexmap.specs.IndexMap.{insert_entry}
use Rattle.case_tables.specs.declared.code_table.Code.{Code}
use Rattle.unity_syntax.specs.declared.proof.Param.{Param}
use Rattle.unity_syntax.specs.declared.proof.Step.{Step}
use Rattle.meaning_states.specs.State.{in_range}
use Rattle.meaning_documents.specs.Names.{Bindings}
use Rattle.meaning_documents.specs.Value.{range_ends}
use Rattle.meaning_documents.specs.Claims.{parameters, are_parameter_values, argument_bindings}
use Rattle.names_rules.specs.declared.named.Named.{Named}
use Rattle.names_rules.specs.declared.named.Meaning.{Meaning}
use Rattle.names_rules.specs.Scope.{Table, Params, found, bound_named, visible}
use Rattle.names_rules.specs.Reading.{binding, filled}
use Rattle.names_rules.specs.Part.{run}
use Rattle.names_rules.specs.Declarations.{some_of}
use Rattle.names_rules.specs.Proofs.{Programs, proof_scope, param_part, step_name, step_body, step_rest, step_part}
use Rattle.names_rules.specs.WellNamed.{proved_program, steps_reading}
use Rattle.names_rules.proofs.Faults.{earlier_first, earlier_second, unless_none}
use Rattle.core_terms.specs.Values.{number_at}
use Rattle.expand_rules.specs.declared.cores.Bound.{Bound}
use Rattle.expand_correct.specs.Values.Worth.{bound_value, values_of}
use Rattle.expand_correct.proofs.Exact.Standing.{proofs_stand, parts_faultless}
use Rattle.expand_documents.specs.from_expand_steps.ProofTerms.{param_bound}
use Rattle.expand_documents.specs.from_expand_steps.Steps.{with_param_bound, param_bounds}
use Rattle.expand_correct.specs.Preserved.Claims.{ArgumentsBound, ClaimSays, ClaimsSay, step_in}
use Rattle.expand_correct.proofs.Preserved.Pairs.{entered_with}
use Rattle.expand_correct.proofs.Preserved.Claims.{claims_by_bounds}

-- a new entry stands last

not_first : {V : Type 0} (b : Bool) (x : V) (o : Option V) → is_some (cond b (Some x) o) ≡ false →
    (b ≡ false) × (is_some o ≡ false)
not_first true x o h = cc h
not_first false x o h = (refl, h)

entered_last : {V : Type 0} (es : List (List ℕ × V)) (name : List ℕ) (v : V) →
    is_some (lookup (bytes_eq name) es) ≡ false → insert_entry bytes_eq es name v ≡ es ++ (name, v) ∷ []
entered_last [] name v h = refl
entered_last (e ∷ es) name v h =
    let n = not_first (bytes_eq name e.0) e.1 (lookup (bytes_eq name) es) h in
    by (bytes_eq name e.0) n.0 (entered_last es name v n.1)
  where
    by : (b : Bool) → b ≡ false → insert_entry bytes_eq es name v ≡ es ++ (name, v) ∷ [] →
        (if b then (e.0, v) ∷ es else e ∷ insert_entry bytes_eq es name v) ≡ e ∷ (es ++ (name, v) ∷ [])
    by true t rest = cc t
    by false t rest = ap (λ xs. e ∷ xs) rest

-- a parameter's name is new

no_number : (o : Option ℕ) (f : ℕ → Named) (v : Option Named) →
    is_some (option_or (option_map f o) v) ≡ false → is_some o ≡ false
no_number None f v h = refl
no_number (Some n) f v h = cc h

not_true : (b : Bool) → not b ≡ true → b ≡ false
not_true true h = cc h
not_true false h = refl

new_param : (names : Table) (params : Params) (p : Param) → (param_part names params p).fault ≡ None →
    is_some (lookup (bytes_eq p.name.text) params) ≡ false
new_param names params p h =
    let s = proof_scope names params in
    let meaning = Meaning.Param (length params) in
    no_number (lookup (bytes_eq p.name.text) params) (λ number. bound_named (Meaning.Param number))
    (visible s.program (lookup (bytes_eq p.name.text) s.names))
    (not_true (is_some (found s p.name.text))
    (unless_none (not (is_some (found s p.name.text))) Code.DeclaredTwice p.name.at
    (earlier_first (binding s p.name meaning).fault (filled [] p.range).fault h)))

-- numbers

at_front : (front rest : List ℤ) (z : ℤ) → number_at (front ++ z ∷ rest) (length front) ≡ z
at_front [] rest z = refl
at_front (y ∷ ys) rest z = at_front ys rest z

at_length : (front rest : List ℤ) (z : ℤ) (n : ℕ) → length front ≡ n → number_at (front ++ z ∷ rest) n ≡ z
at_length front rest z n e = subst (λ (m : ℕ). number_at (front ++ z ∷ rest) m ≡ z) e (at_front front rest z)

one_longer : {A B : Type 0} (xs : List A) (ys : List B) (x : A) (y : B) → length xs ≡ length ys →
    length (xs ++ x ∷ []) ≡ length (ys ++ y ∷ [])
one_longer xs ys x y e =
    let one = length-append xs (x ∷ []) in let two = length-append ys (y ∷ []) in omega arith

and_second : (a b : Bool) → (a && b) ≡ true → b ≡ true
and_second true b h = h
and_second false b h = cc h

-- what one more parameter stands for
value_last : (zs : List ℤ) (bs : List (List ℕ × Bound)) (name : List ℕ) (b : Bound) (z : ℤ) → bound_value zs b ≡ z →
    values_of zs (bs ++ (name, b) ∷ []) ≡ values_of zs bs ++ (name, z) ∷ []
value_last zs bs name b z e =
    map-append (λ (x : List ℕ × Bound). (x.0, bound_value zs x.1)) bs ((name, b) ∷ [])
    ∙ ap (λ (y : ℤ). values_of zs bs ++ (name, y) ∷ []) e

one_bound : (p : Param) (ps : List Param) (zs rest : List ℤ) (z : ℤ) (bs cs : List (List ℕ × Bound)) →
    with_param_bound bs p ≡ cs → values_of zs cs ≡ values_of zs bs ++ (p.name.text, z) ∷ [] →
    values_of zs (fold with_param_bound cs ps) ≡ values_of zs cs ++ argument_bindings ps rest →
    values_of zs (fold with_param_bound (with_param_bound bs p) ps)
    ≡ values_of zs bs ++ (p.name.text, z) ∷ argument_bindings ps rest
one_bound p ps zs rest z bs cs entered one later = ap (λ es. values_of zs (fold with_param_bound es ps)) entered
    ∙ later ∙ ap (λ (us : Bindings). us ++ argument_bindings ps rest) one
    ∙ append_assoc (values_of zs bs) ((p.name.text, z) ∷ []) (argument_bindings ps rest)

-- the same names are there, with one more
known_with : (params : Params) (number : ℕ) (bs cs : List (List ℕ × Bound)) (name : List ℕ) (b : Bound) →
    insert_entry bytes_eq bs name b ≡ cs →
    ((word : List ℕ) → is_some (lookup (bytes_eq word) params) ≡ is_some (lookup (bytes_eq word) bs)) →
    (word : List ℕ) →
    is_some (lookup (bytes_eq word) (insert_entry bytes_eq params name number)) ≡ is_some (lookup (bytes_eq word) cs)
known_with params number bs cs name b entered same word = entered_with params name number word
    ∙ ap (λ c. bytes_eq word name || c) (same word) ∙ sym (entered_with bs name b word)
    ∙ ap (λ es. is_some (lookup (bytes_eq word) es)) entered

module _ (names : Table) where
  -- parameters after others, whose numbers stand in front
  bound_after : (ps : List Param) (params : Params) (bs : List (List ℕ × Bound)) (front rest : List ℤ) →
      (run (param_part names) params ps).fault ≡ None →
      ((word : List ℕ) → is_some (lookup (bytes_eq word) params) ≡ is_some (lookup (bytes_eq word) bs)) →
      length front ≡ length bs → are_parameter_values ps rest ≡ true →
      values_of (front ++ rest) (fold with_param_bound bs ps)
      ≡ values_of (front ++ rest) bs ++ argument_bindings ps rest
  bound_after [] params bs front rest h same long fit = sym (append-nil (values_of (front ++ rest) bs))
  bound_after (p ∷ ps) params bs front [] h same long fit = cc fit
  bound_after (p ∷ ps) params bs front (z ∷ rest) h same long fit =
      let part = param_part names params p in
      let more = run (param_part names) part.after ps in
      let fresh = new_param names params p (earlier_first part.fault more.fault h) in
      let b = param_bound (length bs) p.range in
      let cs = bs ++ (p.name.text, b) ∷ [] in
      let entered = entered_last bs p.name.text b (sym (same p.name.text) ∙ fresh) in
      one_bound p ps (front ++ z ∷ rest) rest z bs cs entered
      (value_last (front ++ z ∷ rest) bs p.name.text b z (at_length front rest z (length bs) long))
      (subst (λ (ys : List ℤ). values_of ys (fold with_param_bound cs ps)
      ≡ values_of ys cs ++ argument_bindings ps rest) (append_assoc front (z ∷ []) rest)
      (bound_after ps part.after cs (front ++ z ∷ []) rest (earlier_second part.fault more.fault h)
      (known_with params (length params) bs cs p.name.text b entered same)
      (one_longer front bs z (p.name.text, b) long)
      (and_second (in_range (Some (range_ends [] p.range)) z) (are_parameter_values ps rest) fit)))

  arguments_bound_by : (ps : List Param) (zs : List ℤ) → (run (param_part names) [] ps).fault ≡ None →
      are_parameter_values ps zs ≡ true → values_of zs (param_bounds ps) ≡ argument_bindings ps zs
  arguments_bound_by ps zs h fit = bound_after ps [] [] [] zs h (λ word. refl) refl fit

same_params : (o : Option (Param × List Param)) → parameters o ≡ some_of o
same_params None = refl
same_params (Some ps) = refl

-- the parameters of a step without a fault
params_faultless : (programs : Programs) (names : Table) (steps : List (List ℕ)) (s : Step) →
    (step_part programs names steps s).fault ≡ None → (run (param_part names) [] (some_of s.params)).fault ≡ None
params_faultless programs names steps s h =
    let params = run (param_part names) [] (some_of s.params) in
    earlier_first params.fault (step_body programs (proof_scope names params.after) s).fault
    (earlier_second (step_name steps s).fault (step_rest programs names s).fault h)

pub arguments_bound : ArgumentsBound
arguments_bound d named place at proof e number step f zs fit =
    let stands = proofs_stand d named place at proof e in
    let before = stands.before in
    let g = step_part before.programs before.names in
    let listed = steps_reading before.programs before.names proof.steps in
    let faultless = parts_faultless g [] proof.steps
    (earlier_second (proved_program before proof.program).fault listed.fault stands.faultless) number step f in
    let same = same_params step.params in
    arguments_bound_by before.names (some_of step.params) zs
    (params_faultless before.programs before.names (run g [] (take number proof.steps)).after step faultless)
    (subst (λ (ps : List Param). are_parameter_values ps zs ≡ true) same fit)
    ∙ ap (λ ps. argument_bindings ps zs) (sym same)

pub claims_say : ClaimsSay
claims_say d named fault place at proof e number step f zs fit =
    subst (λ (b : Bindings). ClaimSays d b zs (step_in d proof step).p (step_in d proof step).q step.claim)
    (arguments_bound d named place at proof e number step f zs fit)
    (claims_by_bounds d named fault place at proof e number step f zs)
