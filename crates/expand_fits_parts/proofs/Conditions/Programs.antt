-- The programs of a document in core form, by its parts.
use Rattle.std.proofs.Common.{◌≡◌, ℕ, zero, suc, List, [], ◌∷◌, ◌++◌, map, Bool, true, false, cond, nat_eq}
use Rattle.std.proofs.Common.{Option, Some, None, refl, sym, ap, ◌∙◌, subst, append_assoc, All, slice_get}
use Rattle.std.specs.Prelude.{take, Contains}
use Rattle.std.specs.List.{find, flat_map}
use Rattle.std.specs.Str.{bytes_eq}
use Rattle.std.proofs.lemmas.List.Elements.{All-nil, All-cons, All-head, All-tail, All-append, All-map, All-weaker}
use Rattle.std.proofs.lemmas.List.Elements.{All-contains_itself}
use Rattle.std.proofs.lemmas.List.Folds.{list_any-append}
use Rattle.std.proofs.lemmas.Slice.Eq.{bytes_eq-Decides}
use Rattle.unity_syntax.specs.declared.name.Name.{Name}
use Rattle.unity_syntax.specs.declared.name.Range.{Range}
use Rattle.unity_syntax.specs.declared.program.Program.{Program}
use Rattle.unity_syntax.specs.declared.statement.Assign.{Assign}
use Rattle.unity_syntax.specs.declared.statement.Item
use Rattle.unity_syntax.specs.declared.statement.Item.{Item}
use Rattle.unity_syntax.specs.declared.statement.Items.{Items}
use Rattle.unity_syntax.specs.declared.document.Part.{Part}
use Rattle.unity_syntax.specs.declared.document.Document.{Document}
use Rattle.meaning_documents.specs.Names.{Bindings}
use Rattle.meaning_documents.specs.Value.{range_values}
use Rattle.meaning_documents.specs.Setting.{programs_among, items_of}
use Rattle.meaning_documents.specs.Programs.{name_of}
use Rattle.meaning_documents.specs.Instances.{Instance, item_instances, unfolded, instances}
use Rattle.meaning_documents.proofs.InstanceLaws.{instances-Statement, instances-Quantified, instances-Items}
use Rattle.core_terms.specs.declared.programs.CSlot.{CSlot}
use Rattle.core_terms.specs.declared.programs.CProgram.{CProgram}
use Rattle.core_terms.specs.Conditions.{IsWord, ProgramWords, UnionFits}
use Rattle.core_terms.specs.Unions.{joined_programs}
use Rattle.expand_declarations.specs.Texts.{Texts, item_texts, items_texts, program_texts, part_texts, document_texts}
use Rattle.expand_declarations.specs.Texts.{var_texts}
use Rattle.expand_declarations.specs.WordNumbers.{document_words, with_texts, word_number}
use Rattle.expand_declarations.specs.Slots.{document_slots}
use Rattle.expand_rules.specs.Forming.{Scope}
use Rattle.expand_rules.specs.Assigning.{stated, statements}
use Rattle.expand_rules.specs.Programs.{core_statement}
use Rattle.expand_correct.specs.Declared.WordLaws.{is_among}
use Rattle.expand_correct.proofs.Declared.Found.{stands_at_number, gathered, words_found, numbers_tell, or_left}
use Rattle.expand_correct.proofs.Declared.Found.{or_right}
use Rattle.expand_correct.proofs.Declared.Lists.{IsPart}
use Rattle.expand_correct.proofs.Declared.Slots.{each_part_texts}
use Rattle.expand_correct.proofs.Declared.Names.{programs_differ}
use Rattle.expand_correct.specs.from_expand_documents.Cores.{core_document, document_scope, core_named, core_union}
use Rattle.expand_correct.specs.from_expand_documents.Cores.{core_program, with_core}
use Rattle.expand_correct.specs.from_expand_documents.Cores.{with_cores}
use Rattle.expand_fits_parts.specs.Conditions.WordConditions.{TextsHavePlaces, NumbersTellTexts, ProgramsHaveWords}
use Rattle.expand_fits_parts.specs.Conditions.ProgramConditions.{ProgramNamesDiffer, UnionsFit}
use Rattle.expand_fits_parts.proofs.Conditions.Lists.{Pairs, each_pair, pairs_of, pairs_on, pairs_with}
use Rattle.expand_fits_parts.proofs.Conditions.ItemLaws.{of_items}
use Rattle.expand_fits_parts.proofs.Conditions.Labels.{texts-Statement, texts-Quantified, texts-Items}

-- what holds of what there is
abbrev pub IfThere : {X : Type 0} → (X → Type 0) → Option X → Type 0
IfThere P None = Unit {0}
IfThere P (Some x) = P x

pub find_there : {X : Type 0} (P : X → Type 0) (test : X → Bool) (xs : List X) → All P xs → IfThere P (find test xs)
find_there P test [] h = tt
find_there P test (x ∷ xs) h = by (test x) (All-head P x xs h) (find_there P test xs (All-tail P x xs h))
  where
    by : (b : Bool) → P x → IfThere P (find test xs) → IfThere P (cond b (Some x) (find test xs))
    by true p rest = p
    by false p rest = rest

-- by the programs of the text

module _ (P : CProgram → Type 0) (words : Texts) (s : Scope) (slots : List CSlot) where
  -- whatever stands before it, the core of a program is such
  abbrev pub Makes : Program → Type 0
  Makes p = (before : List CProgram) → All P before → IfThere P (core_program words s slots before p)

  with_one : (before : List CProgram) (o : Option CProgram) → All P before → IfThere P o → All P (with_core before o)
  with_one before None h k = h
  with_one before (Some c) h k = All-append P before (c ∷ []) h (All-cons P c [] k (All-nil P))

  pub all_cores : (parts : List Part) → All Makes (programs_among parts) → (before : List CProgram) → All P before →
      All P (with_cores words s slots before parts)
  all_cores [] each before h = h
  all_cores (Part.Program at p ∷ rest) each before h =
      all_cores rest (All-tail Makes p (programs_among rest) each)
      (with_core before (core_program words s slots before p))
      (with_one before (core_program words s slots before p) h (All-head Makes p (programs_among rest) each before h))
  all_cores (Part.Proof at proof ∷ rest) each before h = all_cores rest each before h

  pub union_makes : (name : ℕ) → ((f g : CProgram) → P f → P g → P (joined_programs name f g)) →
      (left right : ℕ) (before : List CProgram) → All P before →
      IfThere P (core_union name (core_named left before) (core_named right before))
  union_makes name joins left right before h =
      by (core_named left before) (core_named right before)
      (find_there P (λ c. nat_eq c.name left) before h) (find_there P (λ c. nat_eq c.name right) before h)
    where
      by : (f g : Option CProgram) → IfThere P f → IfThere P g → IfThere P (core_union name f g)
      by None g p q = tt
      by (Some f) None p q = tt
      by (Some f) (Some g) p q = joins f g p q

-- labels

pub each_has : (t : List ℕ) (ts us : Texts) → is_among ts t ≡ true → is_among (ts ++ us) t ≡ true
each_has t ts us h = list_any-append (bytes_eq t) ts us ∙ or_left (is_among ts t) (is_among us t) h

pub last_has : (t : List ℕ) (ts us : Texts) → is_among us t ≡ true → is_among (ts ++ us) t ≡ true
last_has t ts us h = list_any-append (bytes_eq t) ts us ∙ or_right (is_among ts t) (is_among us t) h

pub itself : (t : List ℕ) (ts : Texts) → is_among (t ∷ ts) t ≡ true
itself t ts = or_left (bytes_eq t t) (is_among ts t) ((bytes_eq-Decides t t).1 refl)

abbrev Labelled : Texts → List Instance → Type 0
Labelled ts is = All (λ i. is_among ts i.label ≡ true) is

abbrev One : Item → Type 0
One i = (b : Bindings) → Labelled (item_texts i) (item_instances i b)

abbrev Several : Items → Type 0
Several x = (b : Bindings) → Labelled (items_texts x) (unfolded x b)

more_texts : (ts us : Texts) → ((t : List ℕ) → is_among ts t ≡ true → is_among us t ≡ true) → (is : List Instance) →
    Labelled ts is → Labelled us is
more_texts ts us f is h = All-weaker (λ i. is_among ts i.label ≡ true) (λ i. is_among us i.label ≡ true)
    (λ i k. f i.label k) is h

label_one : (at : ℕ) (label : Name) (assign : Assign) → One (Item.Statement at label assign)
label_one at label assign b =
    let i : Instance = record { label = label.text; bindings = b; assign = assign } in
    subst (λ (is : List Instance). Labelled (item_texts (Item.Statement at label assign)) is)
    (sym (instances-Statement at label assign b))
    (subst (λ (ts : Texts). Labelled ts (i ∷ [])) (sym (texts-Statement at label assign))
    (All-cons (λ j. is_among (label.text ∷ []) j.label ≡ true) i [] (itself label.text [])
    (All-nil (λ j. is_among (label.text ∷ []) j.label ≡ true))))

all_flat : {X : Type 0} (P : Instance → Type 0) (f : X → List Instance) (xs : List X) → ((x : X) → All P (f x)) →
    All P (flat_map f xs)
all_flat P f [] each = All-nil P
all_flat P f (x ∷ xs) each = All-append P (f x) (flat_map f xs) (each x) (all_flat P f xs each)

label_list : (at : ℕ) (name : Name) (range : Range) (of : Items) → Several of → One (Item.Quantified at name range of)
label_list at name range of several b =
    subst (λ (is : List Instance). Labelled (item_texts (Item.Quantified at name range of)) is)
    (sym (instances-Quantified at name range of b))
    (subst (λ (ts : Texts). Labelled ts (flat_map (λ z. unfolded of ((name.text, z) ∷ b)) (range_values b range)))
    (sym (texts-Quantified at name range of))
    (all_flat (λ i. is_among (items_texts of) i.label ≡ true) (λ z. unfolded of ((name.text, z) ∷ b))
    (range_values b range) (λ z. several ((name.text, z) ∷ b))))

label_rest : (xs : List Item) → All One xs → (b : Bindings) →
    Labelled (flat_map item_texts xs) (flat_map (λ item. item b) (map item_instances xs))
label_rest [] each b = All-nil (λ i. is_among [] i.label ≡ true)
label_rest (x ∷ xs) each b =
    let more = flat_map item_texts xs in
    All-append (λ i. is_among (item_texts x ++ more) i.label ≡ true) (item_instances x b)
    (flat_map (λ item. item b) (map item_instances xs))
    (more_texts (item_texts x) (item_texts x ++ more) (λ t. each_has t (item_texts x) more) (item_instances x b)
    (All-head One x xs each b))
    (more_texts more (item_texts x ++ more) (λ t. last_has t (item_texts x) more)
    (flat_map (λ item. item b) (map item_instances xs)) (label_rest xs (All-tail One x xs each) b))

label_items : (x : Items) → One x.first → All One x.rest → Several x
label_items x first each b =
    let more = flat_map item_texts x.rest in
    let others = flat_map (λ item. item b) (map item_instances x.rest) in
    subst (λ (is : List Instance). Labelled (items_texts x) is) (sym (instances-Items x b))
    (subst (λ (ts : Texts). Labelled ts (item_instances x.first b ++ others)) (sym (texts-Items x))
    (All-append (λ i. is_among (item_texts x.first ++ more) i.label ≡ true) (item_instances x.first b) others
    (more_texts (item_texts x.first) (item_texts x.first ++ more) (λ t. each_has t (item_texts x.first) more)
    (item_instances x.first b) (first b))
    (more_texts more (item_texts x.first ++ more) (λ t. last_has t (item_texts x.first) more) others
    (label_rest x.rest each b))))

pub label_of : (x : Items) → Several x
label_of x = of_items One Several label_one label_list label_items x

-- words

pub is_word : (texts : Texts) (text : List ℕ) → is_among texts text ≡ true →
    IsWord (with_texts [] texts) (word_number (with_texts [] texts) text)
is_word texts text h = (stands_at_number (with_texts [] texts) text (gathered [] texts text h)).within

-- the texts of a program are among these
abbrev pub Has : Texts → Program → Type 0
Has texts p = (t : List ℕ) → is_among (program_texts p) t ≡ true → is_among texts t ≡ true

programs_of_parts : (texts : Texts) (parts : List Part) → All (λ p. IsPart (part_texts p) texts) parts →
    All (Has texts) (programs_among parts)
programs_of_parts texts [] h = All-nil (Has texts)
programs_of_parts texts (Part.Program at p ∷ rest) h = All-cons (Has texts) p (programs_among rest)
    (All-head (λ p. IsPart (part_texts p) texts) (Part.Program at p) rest h).among
    (programs_of_parts texts rest (All-tail (λ p. IsPart (part_texts p) texts) (Part.Program at p) rest h))
programs_of_parts texts (Part.Proof at proof ∷ rest) h =
    programs_of_parts texts rest (All-tail (λ p. IsPart (part_texts p) texts) (Part.Proof at proof) rest h)

pub document_has : (d : Document) → All (Has (document_texts d)) (programs_among d.parts)
document_has d = programs_of_parts (document_texts d) d.parts (each_part_texts d)

pub name_there : (p : Program) → is_among (program_texts p) (name_of p) ≡ true
name_there (Program.Union at name left right) = itself name.text []
name_there (Program.Plain at name declare always initially start items) = itself name.text _

module _ (texts : Texts) (s : Scope) (slots : List CSlot) where
  abbrev words : Texts
  words = with_texts [] texts

  makes_words : (p : Program) → Has texts p → Makes (ProgramWords words) words s slots p
  makes_words (Program.Union at name left right) has before h =
      union_makes (ProgramWords words) words s slots (word_number words name.text)
      (λ f g h k. record {
        name = is_word texts name.text (has name.text (name_there (Program.Union at name left right)));
        labels = All-append (λ s. IsWord words s.label) f.statements g.statements h.labels k.labels;
      }) (word_number words left.text) (word_number words right.text) before h
  makes_words (Program.Plain at name declare always initially start items) has before h = record {
    name = is_word texts name.text
        (has name.text (name_there (Program.Plain at name declare always initially start items)));
    labels = All-map (λ c. IsWord words c.label) (core_statement (word_number words)) (statements s items)
        (All-map (λ st. IsWord words (word_number words st.label)) (stated s) (instances items)
        (All-weaker (λ i. is_among (items_texts items) i.label ≡ true)
        (λ i. IsWord words (word_number words i.label))
        (λ i k. is_word texts i.label (has i.label
        (or_right (bytes_eq i.label name.text) _
        (last_has i.label (flat_map var_texts (items_of declare)) (items_texts items) k))))
        (instances items) (label_of items [])));
  }

pub programs_have_words : ProgramsHaveWords
programs_have_words d =
    let slots = document_slots (document_words d) d.parts in
    all_cores (ProgramWords (document_words d)) (document_words d) (document_scope d.parts) slots d.parts
    (All-weaker (Has (document_texts d)) (Makes (ProgramWords (document_words d)) (document_words d)
    (document_scope d.parts) slots)
    (λ p h. makes_words (document_texts d) (document_scope d.parts) slots p h) (programs_among d.parts)
    (document_has d)) [] (All-nil (ProgramWords (document_words d)))

pub texts_have_places : TextsHavePlaces
texts_have_places d text h = words_found (document_texts d) text h

pub numbers_tell_texts : NumbersTellTexts
numbers_tell_texts d one other h k e = numbers_tell (document_texts d) one other h k e

-- names

module _ (words : Texts) (s : Scope) (slots : List CSlot) where
  abbrev number : Program → ℕ
  number p = word_number words (name_of p)

  core_name : (before : List CProgram) (p : Program) →
      IfThere (λ c. c.name ≡ number p) (core_program words s slots before p)
  core_name before (Program.Union at name left right) =
      by (core_named (word_number words left.text) before) (core_named (word_number words right.text) before)
    where
      by : (f g : Option CProgram) →
          IfThere (λ c. c.name ≡ word_number words name.text) (core_union (word_number words name.text) f g)
      by None g = tt
      by (Some f) None = tt
      by (Some f) (Some g) = refl
  core_name before (Program.Plain at name declare always initially start items) = refl

  abbrev Other : CProgram → CProgram → Type 0
  Other f g = f.name ≡ g.name → ⊥

  abbrev Later : Program → CProgram → Type 0
  Later p c = c.name ≡ number p → ⊥

  abbrev AllLater : List Program → CProgram → Type 0
  AllLater ps c = All (λ p. Later p c) ps

  abbrev Apart : Program → Program → Type 0
  Apart p q = number p ≡ number q → ⊥

  names_with : (before : List CProgram) (o : Option CProgram) (p : Program) (rest : List Program) →
      IfThere (λ c. c.name ≡ number p) o → Pairs Other before → All (AllLater (p ∷ rest)) before →
      All (Apart p) rest → Pairs Other (with_core before o) × All (AllLater rest) (with_core before o)
  names_with before None p rest e h k a = (
    h,
    All-weaker (AllLater (p ∷ rest)) (AllLater rest) (λ c l. All-tail (λ q. Later q c) p rest l) before k,
  )
  names_with before (Some c) p rest e h k a = (
    pairs_on Other before (c ∷ []) h (All-nil (Other c), tt)
        (All-weaker (AllLater (p ∷ rest)) (λ b. All (Other b) (c ∷ []))
        (λ b l. All-cons (Other b) c [] (λ same. All-head (λ q. Later q b) p rest l (same ∙ e)) (All-nil (Other b)))
        before k),
    All-append (AllLater rest) before (c ∷ [])
        (All-weaker (AllLater (p ∷ rest)) (AllLater rest) (λ b l. All-tail (λ q. Later q b) p rest l) before k)
        (All-cons (AllLater rest) c []
        (All-weaker (Apart p) (λ q. Later q c) (λ q f same. f (sym e ∙ same)) rest a) (All-nil (AllLater rest))),
  )

  names_apart : (parts : List Part) → Pairs Apart (programs_among parts) → (before : List CProgram) →
      Pairs Other before → All (AllLater (programs_among parts)) before →
      Pairs Other (with_cores words s slots before parts)
  names_apart [] a before h k = h
  names_apart (Part.Program at p ∷ rest) a before h k =
      let c = core_program words s slots before p in
      let more = names_with before c p (programs_among rest) (core_name before p) h k a.0 in
      names_apart rest a.1 (with_core before c) more.0 more.1
  names_apart (Part.Proof at proof ∷ rest) a before h k = names_apart rest a before h k

  -- unions

  abbrev Fitting : List CProgram → List CProgram → Type 0
  Fitting before [] = Unit {0}
  Fitting before (c ∷ cs) = UnionFits before c c.parts × Fitting (before ++ c ∷ []) cs

  fitting_last : (before cs : List CProgram) (c : CProgram) → Fitting before cs →
      UnionFits (before ++ cs) c c.parts → Fitting before (cs ++ c ∷ [])
  fitting_last before [] c h k =
      (subst (λ (bs : List CProgram). UnionFits bs c c.parts) (nothing before) k, tt)
    where
      nothing : (xs : List CProgram) → xs ++ [] ≡ xs
      nothing [] = refl
      nothing (x ∷ xs) = ap (λ ys. x ∷ ys) (nothing xs)
  fitting_last before (b ∷ cs) c h k = (
    h.0,
    fitting_last (before ++ b ∷ []) cs c h.1
        (subst (λ (bs : List CProgram). UnionFits bs c c.parts) (sym (append_assoc before (b ∷ []) cs)) k),
  )

  core_fits : (before : List CProgram) (p : Program) →
      IfThere (λ c. UnionFits before c c.parts) (core_program words s slots before p)
  core_fits before (Program.Union at name left right) =
      by (core_named (word_number words left.text) before) (core_named (word_number words right.text) before)
      (find_there (Contains before) (λ c. nat_eq c.name (word_number words left.text)) before
      (All-contains_itself before))
      (find_there (Contains before) (λ c. nat_eq c.name (word_number words right.text)) before
      (All-contains_itself before))
    where
      by : (f g : Option CProgram) → IfThere (Contains before) f → IfThere (Contains before) g →
          IfThere (λ c. UnionFits before c c.parts) (core_union (word_number words name.text) f g)
      by None g h k = tt
      by (Some f) None h k = tt
      by (Some f) (Some g) h k = (f, g, h, k, refl, refl, refl)
  core_fits before (Program.Plain at name declare always initially start items) = tt

  fitting_with : (before : List CProgram) (o : Option CProgram) → Fitting [] before →
      IfThere (λ c. UnionFits before c c.parts) o → Fitting [] (with_core before o)
  fitting_with before None h k = h
  fitting_with before (Some c) h k = fitting_last [] before c h k

  all_fitting : (parts : List Part) (before : List CProgram) → Fitting [] before →
      Fitting [] (with_cores words s slots before parts)
  all_fitting [] before h = h
  all_fitting (Part.Program at p ∷ rest) before h =
      all_fitting rest (with_core before (core_program words s slots before p))
      (fitting_with before (core_program words s slots before p) h (core_fits before p))
  all_fitting (Part.Proof at proof ∷ rest) before h = all_fitting rest before h

  fitting_at : (before cs : List CProgram) → Fitting before cs → (place : ℕ) (h : CProgram) →
      slice_get cs place ≡ Some h → UnionFits (before ++ take place cs) h h.parts
  fitting_at before [] f place h e = cc e
  fitting_at before (c ∷ cs) f zero h e =
      let same : c ≡ h = cc in
      subst (λ x. UnionFits (before ++ []) x x.parts) same
      (subst (λ (bs : List CProgram). UnionFits bs c c.parts) (sym (nothing before)) f.0)
    where
      nothing : (xs : List CProgram) → xs ++ [] ≡ xs
      nothing [] = refl
      nothing (x ∷ xs) = ap (λ ys. x ∷ ys) (nothing xs)
  fitting_at before (c ∷ cs) f (suc place) h e =
      subst (λ (bs : List CProgram). UnionFits bs h h.parts) (append_assoc before (c ∷ []) (take place cs))
      (fitting_at (before ++ c ∷ []) cs f.1 place h e)

pub program_names_differ : ProgramNamesDiffer
program_names_differ d h =
    let words = document_words d in let slots = document_slots words d.parts in
    let s = document_scope d.parts in
    let texts = document_texts d in
    each_pair (λ f g. f.name ≡ g.name → ⊥) (core_document d).programs
    (names_apart words s slots d.parts
    (pairs_with (Has texts) (λ p q. name_of p ≡ name_of q → ⊥)
    (λ p q. word_number words (name_of p) ≡ word_number words (name_of q) → ⊥)
    (λ p q k l f e. f (numbers_tell texts (name_of p) (name_of q) (k (name_of p) (name_there p))
    (l (name_of q) (name_there q)) e))
    (programs_among d.parts) (document_has d)
    (pairs_of (λ p q. name_of p ≡ name_of q → ⊥) (programs_among d.parts) (programs_differ d h)))
    [] tt (All-nil (AllLater words s slots (programs_among d.parts))))

pub unions_fit : UnionsFit
unions_fit d place h e =
    let words = document_words d in let slots = document_slots words d.parts in
    let s = document_scope d.parts in
    fitting_at words s slots [] (core_document d).programs (all_fitting words s slots d.parts [] tt) place h e
