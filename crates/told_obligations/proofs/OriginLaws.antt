-- A step has as many origins as its rule leaves obligations.
use Rattle.std.proofs.Common.{◌≡◌, ℕ, suc, ◌+◌, nat_eq, Bool, true, false, cond, ◌&&◌, ◌||◌, not}
use Rattle.std.proofs.Common.{List, [], ◌∷◌, ◌++◌, map, length, length-append, append-nil}
use Rattle.std.proofs.Common.{Option, Some, None, Result, Ok, Err, refl, sym, ap, ◌∙◌, subst}
use Rattle.std.proofs.lemmas.List.{length-map}
use Rattle.std.proofs.lemmas.List.Folds.{find-append}
use Rattle.std.specs.List.{find}
use Rattle.std.specs.Option.{option_map_or, option_or}
use Rattle.case_tables.specs.declared.kind_table.Kind.{Kind}
use Rattle.case_tables.specs.declared.rule_table.RuleName.{RuleName}
use Rattle.case_tables.specs.declared.code_table.Code.{Code}
use Rattle.core_terms.specs.Trees.{same_form}
use Rattle.core_terms.specs.Places.{names_param}
use Rattle.core_terms.specs.declared.trees.CForm.{CForm}
use Rattle.core_terms.specs.declared.trees.Range.{Range}
use Rattle.core_terms.specs.declared.programs.CSlot.{CSlot}
use Rattle.core_terms.specs.declared.programs.CProgram.{CProgram}
use Rattle.core_terms.specs.declared.documents.Helper.{Helper}
use Rattle.core_terms.specs.declared.documents.Ref.{Ref}
use Rattle.core_terms.specs.declared.documents.PTerm.{PTerm, out-PTerm, roll-PTerm, roll-out-PTerm, fold-roll-PTerm}
use Rattle.core_terms.specs.declared.documents.PTerm.{ind-PTerm}
use Rattle.core_terms.specs.declared.documents.PTerm.TheOpen.{PTerm-F}
use Rattle.core_terms.specs.declared.documents.PTerm.TheFolds.{map-PTerm}
use Rattle.core_terms.specs.declared.documents.CRule.{CRule}
use Rattle.core_terms.specs.declared.documents.CStep.{CStep}
use Rattle.fair_rounds.specs.declared.records.Record.{Record}
use Rattle.safety_rules.specs.from_rules_table.declared.led.Led.{Led}
use Rattle.safety_rules.specs.from_rules_table.Conclusion.{Conclusion}
use Rattle.safety_rules.specs.from_rules_table.Forms.{imply}
use Rattle.safety_rules.specs.from_rules_table.Table.{Site, needs, go_on, goals_of, concluded, names_some, instances_of}
use Rattle.safety_rules.specs.from_rules_table.Table.{defined_of, invariant_of, unless_of, fixed_of, is_helper}
use Rattle.safety_rules.specs.from_rules_table.Table.{unless_forms, meant_forms, helper_forms, ensures_of, weaken_of}
use Rattle.safety_rules.specs.from_rules_table.Table.{shown_forms, union_defined_of, union_invariant_of}
use Rattle.safety_rules.specs.from_rules_table.Table.{union_unless_of, union_ensures_of, instance_of, pair_kinds}
use Rattle.safety_rules.specs.from_rules_table.Table.{is_unless}
use Rattle.safety_rules.specs.from_rules_table.Further.{complete_of, pair_by}
use Rattle.safety_rules.specs.from_rules_table.Layers.{record_over, starts_below}
use Rattle.safety_rules.specs.from_rules_table.Terms.{Ask, known, found, referred, leads, node, leads_from, leads_by}
use Rattle.safety_rules.specs.from_rules_table.Terms.{leads_on, leads_either, leads_any, at_measure, below_measure}
use Rattle.safety_rules.specs.from_rules_table.Terms.{leads_down, leads_safely, leads_weaker, term_of, all_ranges}
use Rattle.safety_rules.specs.from_rules_table.Terms.{leads_record, derive_of}
use Rattle.safety_rules.specs.from_rules_table.Terms as terms
use Rattle.safety_rules.specs.from_rules_table.Walk.{Around, is_first, has_defined, used, suits, text_of, same_again}
use Rattle.safety_rules.specs.from_rules_table.Walk.{again_of, proof_of, is_kind, part_record, first_part, second_part}
use Rattle.safety_rules.specs.from_rules_table.Walk.{serves_union, serves_after, united, applied, superposed}
use Rattle.safety_rules.specs.from_rules_table.Walk.{claims, step_site, rule_of}
use Rattle.safety_rules.proofs.lemmas_from_rules_table.SiteLaws.{met, went_on, concluded_is}
use Rattle.safety_rules.proofs.lemmas_from_rules_table.CalcSound.{instance_is}
use Rattle.safety_rules.proofs.lemmas_from_rules_table.TermSound.{node_is}
use Rattle.safety_rules.proofs.lemmas_from_rules_table.PairLaws.{of_pair_by, four_given}
use Rattle.safety_rules.proofs.lemmas_from_rules_table.LayerLaws.{row_met, layer_given}
use Rattle.told_obligations.specs.declared.origins.Asked.{Asked}
use Rattle.told_obligations.specs.declared.origins.Origin.{Origin}
use Rattle.told_obligations.specs.Origins.{each, text_origins, helped_origins, shown, part_origins, term_step}
use Rattle.told_obligations.specs.Origins.{term_origins, rule_origins, step_origins}
use Rattle.told_obligations.specs.Laws.{LaterOrigins, StepOrigins}

-- lists of one length

mapped : {X Y Z : Type 0} (f : X → Y) (g : X → Z) (xs : List X) → length (map f xs) ≡ length (map g xs)
mapped f g xs = length-map xs f ∙ sym (length-map xs g)

joined : {X Y : Type 0} (xs : List X) (ys : List Y) (us : List X) (vs : List Y) → length xs ≡ length ys →
    length us ≡ length vs → length (xs ++ us) ≡ length (ys ++ vs)
joined xs ys us vs e f =
    length-append xs us ∙ ap (λ n. n + length us) e ∙ ap (λ n. length ys + n) f ∙ sym (length-append ys vs)

one_or_none : {X Y : Type 0} (b : Bool) (x : X) (y : Y) → length (cond b (x ∷ []) []) ≡ length (cond b (y ∷ []) [])
one_or_none true x y = refl
one_or_none false x y = refl

-- an answer, where there is one, leaves so many obligations

abbrev Leaves : Result Conclusion Code → ℕ → Type 0
Leaves answer n = (x : Conclusion) → answer ≡ Ok x → n ≡ length x.goals

none_leaves : (code : Code) (n : ℕ) → Leaves (Err code) n
none_leaves code n x e = cc

need_leaves : (b : Bool) (code : Code) (rest : Result Conclusion Code) (n : ℕ) → Leaves rest n →
    Leaves (needs b code rest) n
need_leaves b code rest n leaves x e = leaves x (met b code rest x e).1

part_leaves : {A : Type 0} (r : Result A Code) (f : A → Result Conclusion Code) (n : ℕ) →
    ((a : A) → r ≡ Ok a → Leaves (f a) n) → Leaves (go_on r f) n
part_leaves r f n leaves x e = let part = went_on r f x e in leaves part.0 part.1 x part.2

goals_count : (ranges : List Range) (forms : List CForm) → length forms ≡ length (goals_of ranges forms)
goals_count ranges [] = refl
goals_count ranges (f ∷ fs) = ap suc (goals_count ranges fs)

end_leaves : (slots : List CSlot) (ranges : List Range) (made : Record) (forms : List CForm) (n : ℕ) →
    n ≡ length forms → Leaves (concluded slots ranges made forms) n
end_leaves slots ranges made forms n count x e =
    count ∙ goals_count ranges forms
    ∙ sym (ap (λ (y : Conclusion). length y.goals) (concluded_is slots ranges made forms x e))

-- by the program's text

text_leaves : (starts : CProgram → Bool) (site : Site) (step : CStep) (kind : Kind) →
    Leaves (text_of starts site step kind) (length (text_origins kind step.q site.program.statements))
unfolding defined_of invariant_of unless_of fixed_of
text_leaves starts site step Kind.Defined =
    need_leaves _ Code.NoStart _ _ (end_leaves _ _ _ _ _ (mapped _ _ site.program.statements))
text_leaves starts site step Kind.Invariant =
    end_leaves _ _ _ _ _ (ap suc (mapped _ _ site.program.statements))
text_leaves starts site step Kind.Unless = end_leaves _ _ _ _ _ (mapped _ _ site.program.statements)
text_leaves starts site step Kind.Fixed = end_leaves _ _ _ _ _ (mapped _ _ site.program.statements)
text_leaves starts site step _ = none_leaves Code.WrongKind _

ensures_leaves : (site : Site) (p q : CForm) (h : Helper) →
    Leaves (ensures_of site p q h) (length (helped_origins h site.program.statements))
unfolding ensures_of
ensures_leaves site p q h =
    need_leaves (is_helper site h) Code.NoSuchStatement _ _
    (end_leaves site.slots site.params _ (unless_forms site p q ++ helper_forms site p q h) _
    (joined (each Asked.Goes site.program.statements) (unless_forms site p q) _ (helper_forms site p q h)
    (mapped _ _ site.program.statements)
    (joined (cond (names_some h.args) (Origin.Meant ∷ []) []) (meant_forms site h) _ _
    (one_or_none (names_some h.args) Origin.Meant _) (mapped _ _ (instances_of site h)))))

weaken_leaves : (site : Site) (a : Record) (q : CForm) → Leaves (weaken_of site a q) 1
unfolding weaken_of
weaken_leaves site a q = need_leaves _ Code.WrongKind _ _ (end_leaves _ _ _ _ _ refl)

pair_leaves : (site : Site) (kind : Kind) (which : RuleName) (a b : Record) →
    Leaves (pair_by site kind which a b) 0
pair_leaves site kind which a b =
    of_pair_by (λ r. Leaves r 0) site a b kind which (λ code. none_leaves code 0)
    (λ asked code rest. need_leaves asked code rest 0) (λ p q bound. end_leaves _ _ _ [] 0 refl)

complete_leaves : (site : Site) (a b c d : Record) → Leaves (complete_of site a b c d) 0
unfolding complete_of
complete_leaves site a b c d =
    need_leaves _ Code.WrongKind _ _ (need_leaves _ Code.MiddleDiffers _ _
    (need_leaves _ Code.BoundTooLarge _ _ (end_leaves _ _ _ [] 0 refl)))

-- of a union

shown_count : (site : Site) (a b : Record) → length (a.under ++ b.under) ≡ length (shown_forms site a b)
shown_count site a b = sym (length-map (a.under ++ b.under) (imply site.using))

united_leaves : (starts : CProgram → Bool) (site : Site) (kind : Kind) (a b : Record) →
    Leaves (united starts site kind a b) (length (a.under ++ b.under))
unfolding union_defined_of union_invariant_of union_unless_of union_ensures_of
united_leaves starts site Kind.Defined a b =
    need_leaves _ Code.OtherProgram _ _ (need_leaves _ Code.WrongKind _ _ (need_leaves _ Code.NoStart _ _
    (end_leaves _ _ _ _ _ (shown_count site a b))))
united_leaves starts site Kind.Invariant a b =
    need_leaves _ Code.OtherProgram _ _ (need_leaves _ Code.WrongKind _ _ (need_leaves _ Code.MiddleDiffers _ _
    (end_leaves _ _ _ _ _ (shown_count site a b))))
united_leaves starts site Kind.Unless a b =
    need_leaves _ Code.OtherProgram _ _ (need_leaves _ Code.WrongKind _ _ (need_leaves _ Code.MiddleDiffers _ _
    (end_leaves _ _ _ _ _ (shown_count site a b))))
united_leaves starts site Kind.Ensures a b =
    need_leaves _ Code.OtherProgram _ _ (need_leaves _ Code.WrongKind _ _ (need_leaves _ Code.MiddleDiffers _ _
    (end_leaves _ _ _ _ _ (shown_count site a b))))
united_leaves starts site _ a b = none_leaves Code.WrongKind _

-- what is found stays found
known_is : (o : Option Record) (a : Record) → known o ≡ Ok a → o ≡ Some a
known_is None a e = cc
known_is (Some b) a e = let same : b ≡ a = cc in ap (λ r. Some r) same

found_later : (book more : List Record) (r : Ref) (a : Record) → found book r ≡ Ok a →
    find (λ b. nat_eq b.program r.program && nat_eq b.name r.step) (book ++ more) ≡ Some a
found_later book more r a e =
    let test : Record → Bool = λ b. nat_eq b.program r.program && nat_eq b.name r.step in
    find-append test book more ∙ ap (λ o. option_or o (find test more)) (known_is (find test book) a e)

-- an origin for each formula that a part was proved under
part_count : (site : Site) (book more : List Record) (part : Option ℕ) (serves : Kind → Bool) (r : Ref) (b : Record) →
    part_record site book part serves r ≡ Ok b → length (part_origins (book ++ more) r) ≡ length b.under
part_count site book more None serves r b e =
    let one = went_on (found book r) (λ a. Err Code.OtherProgram) b e in
    let refused = one.2 in
    cc
part_count site book more (Some part) serves r b e =
    let one = went_on (found book r) (λ a. needs (nat_eq a.program part) Code.OtherProgram
    (needs (serves a.kind) Code.WrongKind (instance_of site site.params a r.args))) b e in
    let a : Record = one.0 in
    let two = met (nat_eq a.program part) Code.OtherProgram
    (needs (serves a.kind) Code.WrongKind (instance_of site site.params a r.args)) b one.2 in
    let three = met (serves a.kind) Code.WrongKind (instance_of site site.params a r.args) b two.1 in
    let is = instance_is site site.params a r.args b three.1 in
    ap (λ (o : Option Record). length (option_map_or (λ (m : Record). map (shown (book ++ more)) m.under) o []))
    (found_later book more r a one.1)
    ∙ length-map a.under (shown (book ++ more))
    ∙ ap (λ (m : Record). length m.under) is.1

-- by a proof term

module _ (site : Site) (ranges : List Range) (book : List Record) where
  abbrev Counts : Ask → ℕ → Type 0
  Counts ask n = (l : Led) → ask ≡ Ok l → n ≡ length l.forms

  of_node : (l : Led) (n : ℕ) → n ≡ length l.forms → Counts (node site ranges l) n
  of_node l n count m e = count ∙ ap (λ (k : Led). length k.forms) (node_is site ranges l m e)

  of_part : {A : Type 0} (r : Result A Code) (f : A → Ask) (n : ℕ) → ((y : A) → r ≡ Ok y → Counts (f y) n) →
      Counts (go_on r f) n
  of_part r f n counted l e = let part = went_on r f l e in counted part.0 part.1 l part.2

  of_need : (b : Bool) (code : Code) (rest : Ask) (n : ℕ) → Counts rest n → Counts (needs b code rest) n
  of_need b code rest n counted l e = counted l (met b code rest l e).1

  abbrev answer : PTerm → Ask
  answer = term_of site ranges book

  abbrev TermCounts : PTerm → Type 0
  TermCounts t = Counts (answer t) (length (term_origins t))

  abbrev Counted : Type 0
  Counted = (t : PTerm) × TermCounts t

  abbrev trees : PTerm-F Counted → PTerm-F PTerm
  trees y = map-PTerm Counted PTerm (λ g. g.0) y

  layer_counts : (y : PTerm-F Counted) →
      Counts (terms.term_step site ranges book (map-PTerm PTerm Ask answer (trees y)))
      (length (term_step (map-PTerm PTerm (List Origin) term_origins (trees y))))
  layer_counts (PTerm-F.Imply p q) = of_node (leads_by site.using p q) 1 refl
  layer_counts (PTerm-F.From r) =
      of_part (referred site ranges book leads r) (λ a. node site ranges (leads_from a)) 0 (λ a h.
      of_node (leads_from a) 0 refl)
  layer_counts (PTerm-F.Trans t u) =
      of_part (answer t.0) (λ a. go_on (answer u.0) (λ b.
      needs (same_form a.q b.p) Code.MiddleDiffers (node site ranges (leads_on a b)))) _ (λ a h.
      of_part (answer u.0) (λ b. needs (same_form a.q b.p) Code.MiddleDiffers (node site ranges (leads_on a b))) _
      (λ b k.
      of_need (same_form a.q b.p) Code.MiddleDiffers (node site ranges (leads_on a b)) _
      (of_node (leads_on a b) _
      (joined (term_origins t.0) a.forms (term_origins u.0) b.forms (t.1 a h) (u.1 b k)))))
  layer_counts (PTerm-F.Either t u) =
      of_part (answer t.0) (λ a. go_on (answer u.0) (λ b.
      needs (same_form a.q b.q) Code.MiddleDiffers (node site ranges (leads_either a b)))) _ (λ a h.
      of_part (answer u.0) (λ b. needs (same_form a.q b.q) Code.MiddleDiffers
      (node site ranges (leads_either a b))) _ (λ b k.
      of_need (same_form a.q b.q) Code.MiddleDiffers (node site ranges (leads_either a b)) _
      (of_node (leads_either a b) _
      (joined (term_origins t.0) a.forms (term_origins u.0) b.forms (t.1 a h) (u.1 b k)))))
  layer_counts (PTerm-F.Exists m range t) =
      of_part (answer t.0) (λ a.
      needs (not (names_param m a.q)) Code.ParamEscapes (node site ranges (leads_any ranges m range a))) _ (λ a h.
      of_need (not (names_param m a.q)) Code.ParamEscapes (node site ranges (leads_any ranges m range a)) _
      (of_node (leads_any ranges m range a) _ (t.1 a h)))
  layer_counts (PTerm-F.Induct m range measure p q t) =
      of_part (answer t.0) (λ a.
      needs (same_form a.p (at_measure measure m p) && same_form a.q (below_measure measure m p q)) Code.MiddleDiffers
      (node site ranges (leads_down site.using range measure p q a))) _ (λ a h.
      of_need (same_form a.p (at_measure measure m p) && same_form a.q (below_measure measure m p q))
      Code.MiddleDiffers
      (node site ranges (leads_down site.using range measure p q a)) _
      (of_node (leads_down site.using range measure p q a) _
      (joined (term_origins t.0) a.forms (Origin.Measure ∷ []) _ (t.1 a h) refl)))
  layer_counts (PTerm-F.Psp t r) =
      of_part (answer t.0) (λ a. go_on (referred site ranges book is_unless r)
      (λ b. node site ranges (leads_safely a b))) _
      (λ a h. of_part (referred site ranges book is_unless r) (λ b. node site ranges (leads_safely a b)) _ (λ b k.
      of_node (leads_safely a b) _ (t.1 a h)))
  layer_counts (PTerm-F.Weaken p q t) =
      of_part (answer t.0) (λ a. node site ranges (leads_weaker site.using p q a)) _ (λ a h.
      of_node (leads_weaker site.using p q a) _
      (joined (term_origins t.0) a.forms (Origin.LeftSide ∷ Origin.RightSide ∷ []) _ (t.1 a h) refl))

  layer : (y : PTerm-F Counted) → TermCounts (roll-PTerm (trees y))
  layer y =
      subst (λ ask. Counts ask (length (term_origins (roll-PTerm (trees y)))))
      (sym (fold-roll-PTerm Ask (terms.term_step site ranges book) (trees y)))
      (subst (λ os. Counts (terms.term_step site ranges book (map-PTerm PTerm Ask answer (trees y))) (length os))
      (sym (fold-roll-PTerm (List Origin) term_step (trees y))) (layer_counts y))

  term_counts : (t : PTerm) → TermCounts t
  term_counts t = ind-PTerm TermCounts (λ z y e. subst (λ k. TermCounts (roll-PTerm k)) e (layer y)) t

derive_leaves : (site : Site) (t : PTerm) (book : List Record) →
    Leaves (derive_of site t book) (length (term_origins t))
unfolding derive_of
derive_leaves site t book =
    part_leaves (term_of site (all_ranges site t) book t)
    (λ l. concluded site.slots (all_ranges site t) (leads_record site l) l.forms) _ (λ l h.
    end_leaves site.slots (all_ranges site t) (leads_record site l) l.forms _
    (term_counts site (all_ranges site t) book t l h))

-- a term that refers to a step has no origin
origins_out : (t : PTerm) (z : PTerm-F PTerm) → out-PTerm t ≡ z →
    term_origins t ≡ term_step (map-PTerm PTerm (List Origin) term_origins z)
origins_out t z e =
    ap term_origins (sym (roll-out-PTerm t))
    ∙ fold-roll-PTerm (List Origin) term_step (out-PTerm t)
    ∙ ap (λ y. term_step (map-PTerm PTerm (List Origin) term_origins y)) e

again_leaves : (site : Site) (step : CStep) (book : List Record) (t : PTerm) (z : PTerm-F PTerm) → out-PTerm t ≡ z →
    Leaves (again_of site step book z) (length (term_origins t))
again_leaves site step book t (PTerm-F.From r) e =
    part_leaves (referred site site.params book (is_kind step.kind) r) (same_again site) _ (λ a h.
    end_leaves _ _ _ [] _ (ap length (origins_out t (PTerm-F.From r) e)))
again_leaves site step book t _ e = none_leaves Code.WrongKind _

proof_leaves : (site : Site) (step : CStep) (book : List Record) (t : PTerm) (kind : Kind) →
    Leaves (proof_of site step book kind t) (length (term_origins t))
proof_leaves site step book t Kind.Leadsto = derive_leaves site t book
proof_leaves site step book t _ = again_leaves site step book t (out-PTerm t) refl

-- by each rule

superposed_leaves : (seen : Around) (site : Site) (step : CStep) (book : List Record) (r : Ref) →
    Leaves (superposed seen site step book r) 1
superposed_leaves seen site step book r x e =
    let row = layer_given seen site step book r x e in
    end_leaves site.slots site.params (record_over site row.f row.a) (starts_below site row.f ∷ []) 1 refl x
    (row_met site row.f row.a x row.gives).gives

applied_leaves : (seen : Around) (site : Site) (step : CStep) (book more : List Record) (rule : CRule) →
    Leaves (applied seen site step book rule)
    (length (rule_origins site.program (book ++ more) step.kind step.q rule))
applied_leaves seen site step book more CRule.Text = text_leaves seen.starts site step step.kind
applied_leaves seen site step book more (CRule.TextWith h) = ensures_leaves site step.p step.q h
applied_leaves seen site step book more (CRule.WeakenStep r) =
    part_leaves (referred site site.params book (is_kind step.kind) r) (λ a. weaken_of site a step.q) 1 (λ a h.
    weaken_leaves site a step.q)
applied_leaves seen site step book more (CRule.Pair which r s) =
    part_leaves (referred site site.params book (is_kind (pair_kinds which step.kind).0) r) (λ a.
    go_on (referred site site.params book (is_kind (pair_kinds which step.kind).1) s) (λ b.
    pair_by site step.kind which a b)) 0 (λ a h.
    part_leaves (referred site site.params book (is_kind (pair_kinds which step.kind).1) s)
    (λ b. pair_by site step.kind which a b) 0 (λ b k. pair_leaves site step.kind which a b))
applied_leaves seen site step book more (CRule.Union r s) =
    part_leaves (part_record site book (first_part site.program.parts) (serves_union step.kind) r) (λ a.
    go_on (part_record site book (second_part site.program.parts) (serves_after step.kind a.kind) s) (λ b.
    united seen.starts site step.kind a b)) _ (λ a h.
    part_leaves (part_record site book (second_part site.program.parts) (serves_after step.kind a.kind) s)
    (λ b. united seen.starts site step.kind a b) _ (λ b k x e.
    joined (part_origins (book ++ more) r) a.under (part_origins (book ++ more) s) b.under
    (part_count site book more (first_part site.program.parts) (serves_union step.kind) r a h)
    (part_count site book more (second_part site.program.parts) (serves_after step.kind a.kind) s b k)
    ∙ united_leaves seen.starts site step.kind a b x e))
applied_leaves seen site step book more (CRule.Superpose r) = superposed_leaves seen site step book r
applied_leaves seen site step book more (CRule.Complete r s t u) = λ x e.
    let row = four_given site book r s t u x e in complete_leaves site row.a row.b row.c row.d x row.gives
applied_leaves seen site step book more (CRule.Proof t) = proof_leaves site step book t step.kind

claimed_leaves : (step : CStep) (answer : Result Conclusion Code) (n : ℕ) → Leaves answer n →
    Leaves (go_on answer (λ x. needs (claims step x) Code.ConclusionDiffers (Ok x))) n
claimed_leaves step answer n leaves y e =
    let part = went_on answer (λ x. needs (claims step x) Code.ConclusionDiffers (Ok x)) y e in
    let end = met (claims step part.0) Code.ConclusionDiffers (Ok part.0) y part.2 in
    let same : part.0 ≡ y = cc (end.1) in
    leaves part.0 part.1 ∙ ap (λ (z : Conclusion). length z.goals) same

pub later_origins : LaterOrigins
unfolding rule_of
later_origins seen c s book more =
    need_leaves (is_first s.kind || has_defined c.name book) Code.DefinedMissing _ _
    (part_leaves (used c book s.using) _ _ (λ using h.
    need_leaves (suits seen.version s.rule s.kind) Code.WrongKind _ _
    (claimed_leaves s (applied seen (step_site seen.slots c s using) s book s.rule) _
    (applied_leaves seen (step_site seen.slots c s using) s book more s.rule))))

pub own_origins : StepOrigins
own_origins seen c s book x e =
    ap (λ b. length (step_origins c b s)) (sym (append-nil book)) ∙ later_origins seen c s book [] x e
