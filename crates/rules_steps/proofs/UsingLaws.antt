-- The invariants that a step uses, one after the other, and that their predicates fit.
use Rattle.std.proofs.Common.{◌≡◌, ℕ, zero, suc, nat_eq, ◌+◌, ◌<◌, ◌≤◌, Bool, true, false, ◌&&◌, List}
use Rattle.std.proofs.Common.{[], ◌∷◌, ◌++◌, length, drop, Option, Some, None}
use Rattle.std.proofs.Common.{Result, Ok, Err, refl, sym, ap, ◌∙◌, subst, slice_get}
use Rattle.std.proofs.Common.{slice_index_or, append_assoc, arith}
use Rattle.std.specs.Prelude.{All}
use Rattle.std.proofs.lemmas.List.Elements.{All-nil, All-cons}
use Rattle.safety_rules.specs.Instances.{RecordFits}
use Rattle.std.specs.List.{find}
use Rattle.std.specs.Result.{IsErrAnd}
use Rattle.case_tables.specs.declared.code_table.Code.{Code}
use Rattle.core_terms.specs.declared.trees.CForm.{CForm}
use Rattle.core_terms.specs.declared.programs.CSlot.{CSlot}
use Rattle.core_terms.specs.declared.programs.CProgram.{CProgram}
use Rattle.core_terms.specs.declared.documents.Arg.{Arg}
use Rattle.core_terms.specs.declared.documents.Ref.{Ref}
use Rattle.core_terms.specs.Conditions.{FormFits, KindFits}
use Rattle.core_terms.specs.declared.trees.Range.{Range}
use Rattle.case_tables.specs.declared.kind_table.Kind.{Kind}
use Rattle.fair_rounds.specs.declared.records.Record.{Record}
use Rattle.safety_rules.specs.from_rules_table.Table.{needs, go_on, is_invariant}
use Rattle.safety_rules.specs.from_rules_table.Terms.{known, found}
use Rattle.safety_rules.specs.from_rules_table.Walk.{is_empty, used}
use Rattle.safety_rules.proofs.lemmas_from_rules_table.EachLaws.{found_in}
use Rattle.safety_rules.proofs.lemmas_from_rules_table.SiteLaws.{met, went_on}
use Rattle.meaning_states.proofs.StepTheorems.{and_left}
use Rattle.safety_rules.specs.declared.places.RuleError.{RuleError}
use Rattle.rules_steps.specs.Using.{use_of, UsesOne, Uses, IsEntry, BookFits}
use Rattle.rules_steps.proofs.ItemLaws.{drop_at, drop_end}

pub handed_back : {T : Type 0} (P : Result T RuleError → Type 0) (r : Result T RuleError) (e : RuleError) →
    IsErrAnd r (λ x. x ≡ e) → P (Err e) → P r
handed_back P (Err x) e h p = subst (λ y. P (Err y)) (sym h) p
handed_back P (Ok x) e h p = absurd h

abbrev pub with_rest : Result (List CForm) Code → CForm → Result (List CForm) Code
with_rest rest p = go_on rest (λ fs. Ok (p ∷ fs))

needs_part : {A B : Type 0} (b : Bool) (code : Code) (r : Result A Code) (f : A → Result B Code) →
    go_on (needs b code r) f ≡ needs b code (go_on r f)
needs_part true code r f = refl
needs_part false code r f = refl

go_part : {A B C : Type 0} (r : Result A Code) (f : A → Result B Code) (g : B → Result C Code) →
    go_on (go_on r f) g ≡ go_on r (λ x. go_on (f x) g)
go_part (Ok x) f g = refl
go_part (Err code) f g = refl

same_part : {A B : Type 0} (r : Result A Code) (f g : A → Result B Code) → ((x : A) → f x ≡ g x) → go_on r f ≡ go_on r g
same_part (Ok x) f g h = h x
same_part (Err code) f g h = refl

used_more : (c : CProgram) (book : List Record) (r : Ref) (rest : List Ref) →
    go_on (use_of c.name book r) (λ a. with_rest (used c book rest) a.p) ≡ used c book (r ∷ rest)
used_more c book r rest =
    let then : Record → Result (List CForm) Code = λ (a : Record). with_rest (used c book rest) a.p in
    go_part (found book r) (λ (a : Record). needs (nat_eq a.program c.name) Code.OtherProgram
    (needs (is_invariant a.kind && is_empty r.args) Code.NotInvariant (Ok a))) then
    ∙ same_part (found book r) _ _ (λ (a : Record).
    needs_part (nat_eq a.program c.name) Code.OtherProgram
    (needs (is_invariant a.kind && is_empty r.args) Code.NotInvariant (Ok a)) then
    ∙ ap (λ (q : Result (List CForm) Code). needs (nat_eq a.program c.name) Code.OtherProgram q)
    (needs_part (is_invariant a.kind && is_empty r.args) Code.NotInvariant (Ok a) then))

-- what was found so far, and what the rest gives
abbrev pub after_these : List CForm → Result (List CForm) Code → Result (List CForm) Code
after_these fs rest = go_on rest (λ more. Ok (fs ++ more))

these_more : (fs : List CForm) (p : CForm) (rest : Result (List CForm) Code) →
    after_these fs (with_rest rest p) ≡ after_these (fs ++ p ∷ []) rest
these_more fs p (Ok more) = ap (λ (x : List CForm). Ok x) (sym (append_assoc fs (p ∷ []) more))
these_more fs p (Err code) = refl

module _ (c : CProgram) (book : List Record) where
  used_at : (refs : List Ref) (i : ℕ) (r : Ref) → i < length refs → r ≡ slice_index_or refs i r →
      used c book (drop i refs) ≡ go_on (use_of c.name book r) (λ a. with_rest (used c book (drop (i + 1) refs)) a.p)
  used_at refs i r h e =
      ap (λ (rs : List Ref). used c book rs) (drop_at refs i r h e) ∙ sym (used_more c book r (drop (i + 1) refs))

  pub used_next : (refs : List Ref) (i : ℕ) (r : Ref) (old new : List CForm) (a : Record) → i < length refs →
      r ≡ slice_index_or refs i r → use_of c.name book r ≡ Ok a → new ≡ old ++ a.p ∷ [] →
      after_these new (used c book (drop (i + 1) refs)) ≡ after_these old (used c book (drop i refs))
  used_next refs i r old new a h e is grown =
      ap (λ (fs : List CForm). after_these fs (used c book (drop (i + 1) refs))) grown
      ∙ sym (these_more old a.p (used c book (drop (i + 1) refs)))
      ∙ ap (λ (q : Result (List CForm) Code). after_these old q)
      (sym (used_at refs i r h e
      ∙ ap (λ (q : Result Record Code). go_on q (λ b. with_rest (used c book (drop (i + 1) refs)) b.p)) is))

  pub used_fails : (refs : List Ref) (i : ℕ) (r : Ref) (old : List CForm) (code : Code) → i < length refs →
      r ≡ slice_index_or refs i r → use_of c.name book r ≡ Err code →
      after_these old (used c book (drop i refs)) ≡ Err code
  used_fails refs i r old code h e is =
      ap (λ (q : Result (List CForm) Code). after_these old q)
      (used_at refs i r h e
      ∙ ap (λ (q : Result Record Code). go_on q (λ b. with_rest (used c book (drop (i + 1) refs)) b.p)) is)

  pub used_end : (refs : List Ref) (i : ℕ) (fs : List CForm) → length refs ≤ i →
      after_these fs (used c book (drop i refs)) ≡ Ok fs
  used_end refs i fs h =
      ap (λ (rs : List Ref). after_these fs (used c book rs)) (drop_end refs i h)
      ∙ ap (λ (x : List CForm). Ok x) (none_after fs)
    where
      none_after : (xs : List CForm) → xs ++ [] ≡ xs
      none_after [] = refl
      none_after (x ∷ xs) = ap (λ (ys : List CForm). x ∷ ys) (none_after xs)

pub none_before : (rest : Result (List CForm) Code) → after_these [] rest ≡ rest
none_before (Ok more) = refl
none_before (Err code) = refl

-- a name's failure is that of all
pub fails_used : (T : Type 0) (e : RuleError) (old new : List CForm) (one : Result Record Code)
    (whole : Result (List CForm) Code) → ((code : Code) → one ≡ Err code → whole ≡ Err code) →
    UsesOne {T = T} (Err e) old new one → Uses (Err e) whole
fails_used T (RuleError.Fault code) old new one whole h g = h code g
fails_used T RuleError.Memory old new one whole h g = tt

-- the predicates that are used fit

pub book_at : (slots : List CSlot) (book : List Record) → BookFits slots book → (place : ℕ) (a : Record) →
    slice_get book place ≡ Some a → IsEntry slots a
book_at slots [] fits place a e = cc
book_at slots (b ∷ book) fits zero a e =
    let same : b ≡ a = cc in subst (λ (x : Record). IsEntry slots x) same fits.0
book_at slots (b ∷ book) fits (suc place) a e = book_at slots book fits.1 place a e

-- the record of a step that a reference names
pub found_entry : (slots : List CSlot) (book : List Record) (program step : ℕ) (b : Record) → BookFits slots book →
    find (λ (d : Record). nat_eq d.program program && nat_eq d.name step) book ≡ Some b → IsEntry slots b
found_entry slots book program step b fit e =
    let place = found_in (λ (d : Record). nat_eq d.program program && nat_eq d.name step) book b e in
    book_at slots book fit place.place b place.there

pub known_so : (o : Option Record) (a : Record) → known o ≡ Ok a → o ≡ Some a
known_so None a e = cc
known_so (Some b) a e = let same : b ≡ a = cc in ap (λ (r : Record). Some r) same

all_cons : {X : Type 0} (P : X → Type 0) (x : X) (xs : List X) → P x → All P xs → (k : ℕ) (d : X) →
    k < length (x ∷ xs) → P (slice_index_or (x ∷ xs) k d)
all_cons P x xs first rest zero d less = first
all_cons P x xs first rest (suc k) d less = rest k d (omega (arith, less))

invariant_params : (k : Kind) (params : List Range) (p q : CForm) → is_invariant k ≡ true → KindFits k params p q →
    params ≡ []
invariant_params Kind.Invariant params p q e fits = fits.0
invariant_params _ params p q e fits = cc

pub used_fit : (slots : List CSlot) (c : CProgram) (book : List Record) → BookFits slots book → (refs : List Ref)
    (fs : List CForm) → used c book refs ≡ Ok fs → All (FormFits slots []) fs
used_fit slots c book fits [] fs e =
    let none : [] ≡ fs = cc in
    subst (λ (gs : List CForm). All (FormFits slots []) gs) none (λ k d less. absurd (omega (arith, less)))
used_fit slots c book fits (r ∷ rest) fs e =
    let one = went_on (use_of c.name book r) (λ (a : Record). with_rest (used c book rest) a.p) fs
    (used_more c book r rest ∙ e) in
    let a : Record = one.0 in
    let more = went_on (used c book rest) (λ (gs : List CForm). Ok (a.p ∷ gs)) fs one.2 in
    let there = went_on (found book r) (λ (b : Record). needs (nat_eq b.program c.name) Code.OtherProgram
    (needs (is_invariant b.kind && is_empty r.args) Code.NotInvariant (Ok b))) a one.1 in
    let mine = met (nat_eq there.0.program c.name) Code.OtherProgram
    (needs (is_invariant there.0.kind && is_empty r.args) Code.NotInvariant (Ok there.0)) a there.2 in
    let kind = met (is_invariant there.0.kind && is_empty r.args) Code.NotInvariant (Ok there.0) a mine.1 in
    let same : there.0 ≡ a = cc (kind.1) in
    let place = found_in (λ (b : Record). nat_eq b.program r.program && nat_eq b.name r.step) book there.0
    (known_so (find (λ (b : Record). nat_eq b.program r.program && nat_eq b.name r.step) book) there.0 there.1) in
    let entry : IsEntry slots there.0 = book_at slots book fits place.place there.0 place.there in
    let here : FormFits slots [] there.0.p = subst (λ (ps : List Range). FormFits slots ps there.0.p)
    (invariant_params there.0.kind there.0.params there.0.p there.0.q
    (and_left (is_invariant there.0.kind) (is_empty r.args) kind.0) entry.kind) entry.parts.p in
    let whole : a.p ∷ more.0 ≡ fs = cc (more.2) in
    subst (λ (gs : List CForm). All (FormFits slots []) gs) whole
    (all_cons (FormFits slots []) a.p more.0 (subst (λ (b : Record). FormFits slots [] b.p) same here)
    (used_fit slots c book fits rest more.0 more.1))

-- a name that means an invariant of the program
pub use_is : (program : ℕ) (book : List Record) (r : Ref) (a : Record) →
    Some a ≡ find (λ (b : Record). nat_eq b.program r.program && nat_eq b.name r.step) book → a.program ≡ program →
    is_invariant a.kind ≡ true → r.args ≡ [] → use_of program book r ≡ Ok a
use_is program book r a e mine kind none =
    ap (λ (o : Option Record). go_on (known o) (λ b.
    needs (nat_eq b.program program) Code.OtherProgram
    (needs (is_invariant b.kind && is_empty r.args) Code.NotInvariant (Ok b)))) (sym e)
    ∙ ap (λ (b : Bool). needs b Code.OtherProgram
    (needs (is_invariant a.kind && is_empty r.args) Code.NotInvariant (Ok a))) (same_number a.program program mine)
    ∙ ap (λ (b : Bool). needs (b && is_empty r.args) Code.NotInvariant (Ok a)) kind
    ∙ ap (λ (args : List Arg). needs (is_empty args) Code.NotInvariant (Ok a)) none
  where
    same_number : (m n : ℕ) → m ≡ n → nat_eq m n ≡ true
    same_number m n h = grind arith

-- the parts of each record fit
pub book_records : (slots : List CSlot) (book : List Record) → BookFits slots book → All (RecordFits slots) book
book_records slots [] fits = All-nil (RecordFits slots)
book_records slots (a ∷ book) fits =
    All-cons (RecordFits slots) a book fits.0.parts (book_records slots book fits.1)
