-- What calls answer, from what their parts do.
use Rattle.std.proofs.Common.{◌≡◌, ℕ, zero, suc, ◌+◌, ◌<◌, List, [], ◌∷◌, ◌++◌, map, Bool, true, false, ◌&&◌, Option}
use Rattle.std.proofs.Common.{None, Result, Ok, Err, refl, sym, ap, ◌∙◌, subst, length, take, slice_index_or}
use Rattle.std.proofs.Common.{append_assoc, arith}
use Rattle.std.specs.List.{list_all}
use Rattle.std.proofs.lemmas.List.{map_more}
use Rattle.std.proofs.lemmas.List.Folds.{list_all-append}
use Rattle.case_tables.specs.declared.code_table.Code.{Code}
use Rattle.core_terms.specs.declared.trees.Range.{Range}
use Rattle.core_terms.specs.declared.trees.CForm.{CForm}
use Rattle.core_terms.specs.declared.programs.CSlot.{CSlot}
use Rattle.obligations.specs.declared.branches.Obligation.{Obligation}
use Rattle.fair_rounds.specs.declared.records.Record.{Record}
use Rattle.rules_table.specs.Limits.{fits, is_provable}
use Rattle.rules_table.specs.Validity.{goal_obligation}
use Rattle.rules_table.specs.Conclusion.{Conclusion}
use Rattle.case_tables.specs.declared.kind_table.Kind.{Kind}
use Rattle.core_terms.specs.declared.documents.Helper.{Helper}
use Rattle.rules_table.specs.Table.{Site, needs, goals_of, record_of, concluded, paired}
use Rattle.rules_table.proofs.RowEquations.{concluded-is}
use Rattle.safety_rules.specs.declared.places.Derived.{Derived}
use Rattle.safety_rules.specs.declared.places.RuleError.{RuleError}
use Rattle.safety_rules.specs.Answers.{obligations_of, derived_of, RuleAnswers}
use Rattle.safety_rules.specs.Goals.{Added, Concludes}

pub needs_met : {A : Type 0} (b : Bool) (code : Code) (rest : Result A Code) → b ≡ true → needs b code rest ≡ rest
needs_met true code rest e = refl
needs_met false code rest e = cc

pub needs_not : {A : Type 0} (b : Bool) (code : Code) (rest : Result A Code) → b ≡ false → needs b code rest ≡ Err
    code
needs_not false code rest e = refl
needs_not true code rest e = cc

pub second_false : (a b : Bool) → b ≡ false → (a && b) ≡ false
second_false true b e = e
second_false false b e = refl

both : (a b : Bool) → a ≡ true → b ≡ true → (a && b) ≡ true
both true b d e = e
both false b d e = cc

pub first_false : (a b : Bool) → a ≡ false → (a && b) ≡ false
first_false false b e = refl
first_false true b e = cc

-- the obligations of formulas
obligations_are : (slots : List CSlot) (params : List Range) (forms : List CForm) →
    map (goal_obligation slots params) forms ≡ obligations_of slots (goals_of params forms)
obligations_are slots params [] = refl
obligations_are slots params (f ∷ forms) =
    ap (λ os. goal_obligation slots params f ∷ os) (obligations_are slots params forms)

module _ (slots : List CSlot) (params : List Range) where
  abbrev small : Record → Bool
  small made = fits slots params made.p && fits slots params made.q

  abbrev shown : List CForm → Bool
  shown forms = list_all (is_provable slots params) forms

  too_large : (made : Record) (forms : List CForm) → (small made && shown forms) ≡ false →
      concluded slots params made forms ≡ Err Code.FormulaTooLarge
  too_large made forms e =
      concluded-is slots params made forms ∙ needs_not (small made && shown forms) Code.FormulaTooLarge _ e

  -- a formula of the obligations is too large
  pub refused_goals : (T : Type 0) (error : RuleError) (old new : List Obligation) (made : Record)
      (forms : List CForm) →
      Added {T = T} (Err error) old new slots params forms → RuleAnswers (Err error) slots
      (concluded slots params made forms)
  refused_goals T RuleError.Memory old new made forms added = tt
  refused_goals T (RuleError.Fault code) old new made forms added =
      subst (λ x. RuleAnswers (Err (RuleError.Fault code)) slots x)
      (sym (too_large made forms (second_false (small made) (shown forms) added.1))) added.0

  -- the obligations are there, and the record is made of them
  pub given_goals : (answer : Result Derived RuleError) (made : Record) (forms : List CForm) (goals : List Obligation)
      →
      goals ≡ map (goal_obligation slots params) forms → shown forms ≡ true →
      Concludes answer slots params made goals → RuleAnswers answer slots (concluded slots params made forms)
  given_goals (Ok d) made forms goals are provable given =
      let x : Conclusion = record { made = made; goals = goals_of params forms } in
      let is : concluded slots params made forms ≡ Ok x =
      concluded-is slots params made forms
      ∙ needs_met (small made && shown forms) Code.FormulaTooLarge (Ok x)
      (both (small made) (shown forms) given.1 provable)
      in
      let same : d ≡ derived_of slots x =
      given.0 ∙ ap (λ (os : List Obligation). record { made = made; obligations = os })
      (are ∙ obligations_are slots params forms) in
      subst (λ y. RuleAnswers (Ok d) slots y) (sym is) same
  given_goals (Err (RuleError.Fault code)) made forms goals are provable given =
      subst (λ y. RuleAnswers (Err (RuleError.Fault code)) slots y)
      (sym (too_large made forms (first_false (small made) (shown forms) given.1))) given.0
  given_goals (Err RuleError.Memory) made forms goals are provable given = tt

  one_true : (f : CForm) → (is_provable slots params f && true) ≡ true → is_provable slots params f ≡ true
  one_true f e = go (is_provable slots params f) e
    where
      go : (b : Bool) → (b && true) ≡ true → b ≡ true
      go true e = refl
      go false e = e

  one_false : (f : CForm) → (is_provable slots params f && true) ≡ false → is_provable slots params f ≡ false
  one_false f e = go (is_provable slots params f) e
    where
      go : (b : Bool) → (b && true) ≡ false → b ≡ false
      go true e = e
      go false e = refl

  -- a first formula, and the others
  pub first_fails : (T U : Type 0) (error : RuleError) (old new : List Obligation) (f : CForm) (forms : List CForm) →
      Added {T = T} (Err error) old new slots params (f ∷ []) → Added {T = U} (Err error) old new slots params
      (f ∷ forms)
  first_fails T U RuleError.Memory old new f forms added = tt
  first_fails T U (RuleError.Fault code) old new f forms added =
      (added.0, first_false (is_provable slots params f) (shown forms) (one_false f added.1))

  pub then_added : {T U : Type 0} (done : T) (answer : Result U RuleError) (old mid new : List Obligation) (f : CForm)
      (forms : List CForm) → Added (Ok done) old mid slots params (f ∷ []) → Added answer mid new slots params forms →
      Added answer old new slots params (f ∷ forms)
  then_added done (Ok more) old mid new f forms one two = (
    two.0 ∙ ap (λ os. os ++ map (goal_obligation slots params) forms) one.0
        ∙ append_assoc old (goal_obligation slots params f ∷ []) (map (goal_obligation slots params) forms),
    both (is_provable slots params f) (shown forms) (one_true f one.1) two.1,
  )
  then_added done (Err (RuleError.Fault code)) old mid new f forms one two =
      (two.0, second_false (is_provable slots params f) (shown forms) two.1)
  then_added done (Err RuleError.Memory) old mid new f forms one two = tt

  -- first formulas, and others after them
  pub first_part_fails : (T U : Type 0) (error : RuleError) (old new : List Obligation) (forms more : List CForm) →
      Added {T = T} (Err error) old new slots params forms →
      Added {T = U} (Err error) old new slots params (forms ++ more)
  first_part_fails T U RuleError.Memory old new forms more added = tt
  first_part_fails T U (RuleError.Fault code) old new forms more added = (
    added.0,
    list_all-append (is_provable slots params) forms more ∙ first_false (shown forms) (shown more) added.1,
  )

  maps_joined : (g : CForm → Obligation) (fs hs : List CForm) → map g (fs ++ hs) ≡ map g fs ++ map g hs
  maps_joined g [] hs = refl
  maps_joined g (f ∷ fs) hs = ap (λ os. g f ∷ os) (maps_joined g fs hs)

  pub second_part_added : {T U : Type 0} (done : T) (answer : Result U RuleError) (old mid new : List Obligation)
      (forms more : List CForm) → Added (Ok done) old mid slots params forms →
      Added answer mid new slots params more → Added answer old new slots params (forms ++ more)
  second_part_added done (Ok rest) old mid new forms more one two = (
    two.0 ∙ ap (λ os. os ++ map (goal_obligation slots params) more) one.0
        ∙ append_assoc old (map (goal_obligation slots params) forms) (map (goal_obligation slots params) more)
        ∙ ap (λ os. old ++ os) (sym (maps_joined (goal_obligation slots params) forms more)),
    list_all-append (is_provable slots params) forms more ∙ both (shown forms) (shown more) one.1 two.1,
  )
  second_part_added done (Err (RuleError.Fault code)) old mid new forms more one two = (
    two.0,
    list_all-append (is_provable slots params) forms more ∙ second_false (shown forms) (shown more) two.1,
  )
  second_part_added done (Err RuleError.Memory) old mid new forms more one two = tt

  -- a formula for each item of a list, as far as a loop has come
  pub record AddedFor {X : Type 0} (make : X → CForm) (done : List X) (old new : List Obligation) : Type 0 where
    pub goals : new ≡ old ++ map (goal_obligation slots params) (map make done)
    pub small_so_far : list_all (is_provable slots params) (map make done) ≡ true

  pub none_yet : {X : Type 0} (make : X → CForm) (old : List Obligation) → AddedFor make [] old old
  none_yet make old = record { goals = sym (nil_after old); small_so_far = refl }
    where
      nil_after : (os : List Obligation) → os ++ [] ≡ os
      nil_after [] = refl
      nil_after (o ∷ os) = ap (λ rest. o ∷ rest) (nil_after os)

  pub one_more : {X T : Type 0} (done : T) (make : X → CForm) (xs : List X) (i : ℕ) (x : X)
      (form : CForm) (old mid new : List Obligation) → i < length xs → x ≡ slice_index_or xs i x → form ≡ make x →
      AddedFor make (take i xs) old mid → Added (Ok done) mid new slots params (form ∷ []) →
      AddedFor make (take (i + 1) xs) old new
  one_more done make xs i x form old mid new less item is before added =
      let goal : CForm → Obligation = goal_obligation slots params in
      let more : map make (take (i + 1) xs) ≡ map make (take i xs) ++ form ∷ [] =
      map_more make xs i x less ∙ ap (λ y. map make (take i xs) ++ make y ∷ []) (sym item)
      ∙ ap (λ f. map make (take i xs) ++ f ∷ []) (sym is) in
      record {
        goals = added.0 ∙ ap (λ os. os ++ goal form ∷ []) before.goals
            ∙ append_assoc old (map goal (map make (take i xs))) (goal form ∷ [])
            ∙ ap (λ os. old ++ os) (joined_maps goal (map make (take i xs)) form)
            ∙ ap (λ fs. old ++ map goal fs) (sym more);
        small_so_far = ap (list_all (is_provable slots params)) more
            ∙ list_all-append (is_provable slots params) (map make (take i xs)) (form ∷ [])
            ∙ both (shown (map make (take i xs))) (shown (form ∷ [])) before.small_so_far added.1;
      }
    where
      joined_maps : (g : CForm → Obligation) (fs : List CForm) (f : CForm) → map g fs ++ g f ∷ [] ≡ map g
          (fs ++ f ∷ [])
      joined_maps g [] f = refl
      joined_maps g (h ∷ fs) f = ap (λ os. g h ∷ os) (joined_maps g fs f)

  item_fails : {X : Type 0} (make : X → CForm) (xs : List X) (i : ℕ) (x : X) → i < length xs →
      x ≡ slice_index_or xs i x → is_provable slots params (make x) ≡ false → shown (map make xs) ≡ false
  item_fails make [] i x less item e = absurd (omega arith)
  item_fails make (y ∷ xs) zero x less item e =
      first_false (is_provable slots params (make y)) (shown (map make xs))
      (ap (λ z. is_provable slots params (make z)) (sym item) ∙ e)
  item_fails make (y ∷ xs) (suc i) x less item e =
      second_false (is_provable slots params (make y)) (shown (map make xs))
      (item_fails make xs i x (omega arith) item e)

  pub loop_fails : {X : Type 0} (T U : Type 0) (error : RuleError) (make : X → CForm) (xs : List X) (i : ℕ) (x : X)
      (form : CForm)
      (old mid new : List Obligation) → i < length xs → x ≡ slice_index_or xs i x → form ≡ make x →
      Added {T = T} (Err error) mid new slots params (form ∷ []) → Added {T = U} (Err error) old new slots params
      (map make xs)
  loop_fails T U RuleError.Memory make xs i x form old mid new less item is added = tt
  loop_fails T U (RuleError.Fault code) make xs i x form old mid new less item is added =
      (added.0, item_fails make xs i x less item (ap (is_provable slots params) (sym is) ∙ one_false form added.1))

  pub all_added : {X T : Type 0} (done : T) (make : X → CForm) (xs : List X) (i : ℕ) (old new : List Obligation) →
      take i xs ≡ xs → AddedFor make (take i xs) old new → Added (Ok done) old new slots params (map make xs)
  all_added done make xs i old new whole added = (
    subst (λ ys. new ≡ old ++ map (goal_obligation slots params) (map make ys)) whole added.goals,
    subst (λ ys. list_all (is_provable slots params) (map make ys) ≡ true) whole added.small_so_far,
  )

-- the answer of a rule whose record is made of these parts
pub rule_given : {T : Type 0} (done : T) (site : Site) (kind : Kind) (p q p' q' : CForm) (under under' : List CForm)
    (helper helper' : Option Helper) (forms : List CForm) (old goals : List Obligation)
    (answer : Result Derived RuleError) → p' ≡ p → q' ≡ q → under' ≡ under → helper' ≡ helper → old ≡ [] →
    Added (Ok done) old goals site.slots site.params forms →
    Concludes answer site.slots site.params (record_of site kind p' q' under' helper') goals →
    RuleAnswers answer site.slots (concluded site.slots site.params (record_of site kind p q under helper) forms)
rule_given done site kind p q p' q' under under' helper helper' forms old goals answer same_p same_q same_under
    same_helper none added given =
    given_goals site.slots site.params answer (record_of site kind p q under helper) forms goals
    (added.0 ∙ ap (λ os. os ++ map (goal_obligation site.slots site.params) forms) none) added.1
    (subst (λ f. Concludes answer site.slots site.params (record_of site kind f q under helper) goals) same_p
    (subst (λ f. Concludes answer site.slots site.params (record_of site kind p' f under helper) goals) same_q
    (subst (λ u. Concludes answer site.slots site.params (record_of site kind p' q' u helper) goals) same_under
    (subst (λ h. Concludes answer site.slots site.params
    (record_of site kind p' q' under' h) goals) same_helper given))))

-- a condition of a row fails
pub refused : (slots : List CSlot) (code : Code) (row : Result Conclusion Code) → row ≡ Err code →
    RuleAnswers (Err (RuleError.Fault code)) slots row
refused slots code row is = subst (λ x. RuleAnswers (Err (RuleError.Fault code)) slots x) (sym is) refl

-- a row gives what follows its condition
pub given_by : (slots : List CSlot) (answer : Result Derived RuleError) (row rest : Result Conclusion Code) →
    row ≡ rest → RuleAnswers answer slots rest → RuleAnswers answer slots row
given_by slots answer row rest is given = subst (λ x. RuleAnswers answer slots x) (sym is) given

-- two premises, under what both stand under
pub paired_given : (site : Site) (a b : Record) (kind : Kind) (p q p' q' : CForm) (first second : List CForm)
    (helper helper' : Option Helper) (goals : List Obligation) (answer : Result Derived RuleError) → p' ≡ p → q' ≡ q →
    first ≡ a.under → second ≡ b.under → helper' ≡ helper → goals ≡ [] →
    Concludes answer site.slots site.params (record_of site kind p' q' (first ++ second) helper') goals →
    RuleAnswers answer site.slots (paired site kind helper p q a b)
paired_given site a b kind p q p' q' first second helper helper' goals answer same_p same_q one two same_helper none
    given =
    rule_given (tt {0}) site kind p q p' q' (a.under ++ b.under) (first ++ second) helper helper' [] [] goals answer
    same_p same_q (ap (λ u. u ++ second) one ∙ ap (λ u. a.under ++ u) two) same_helper refl (none, refl) given

pub same_pair : (site : Site) (a b : Record) (p q p' q' : CForm) (answer : Result Derived RuleError) → p' ≡ p → q' ≡ q
    →
    RuleAnswers answer site.slots (paired site Kind.Unless None p' q' a b) →
    RuleAnswers answer site.slots (paired site Kind.Unless None p q a b)
same_pair site a b p q p' q' answer same_p same_q given =
    subst (λ f. RuleAnswers answer site.slots (paired site Kind.Unless None f q a b)) same_p
    (subst (λ f. RuleAnswers answer site.slots (paired site Kind.Unless None p' f a b)) same_q given)
