-- A proof term without quotients gives formulas without them, from records that have none.
use Rattle.std.proofs.Common.{◌≡◌, ℕ, ℤ, Bool, not, ◌&&◌, List, [], ◌∷◌, ◌++◌, map, Option, Some, None}
use Rattle.std.proofs.Common.{Result, Ok, sym, ap, ◌∙◌, subst, nat_eq}
use Rattle.std.specs.List.{find, list_any}
use Rattle.case_tables.specs.declared.kind_table.Kind.{Kind}
use Rattle.case_tables.specs.declared.code_table.Code.{Code}
use Rattle.core_terms.specs.declared.trees.Range.{Range}
use Rattle.core_terms.specs.declared.trees.CForm.{CForm}
use Rattle.core_terms.specs.declared.trees.CTerm.{CTerm}
use Rattle.core_terms.specs.declared.trees.CTerm.TheVariants.{Const}
use Rattle.core_terms.specs.declared.documents.Arg.{Arg}
use Rattle.core_terms.specs.declared.documents.Ref.{Ref}
use Rattle.core_terms.specs.declared.documents.PTerm.{PTerm, roll-PTerm, fold-roll-PTerm, ind-PTerm}
use Rattle.core_terms.specs.declared.documents.PTerm.TheOpen.{PTerm-F}
use Rattle.core_terms.specs.declared.documents.PTerm.TheFolds.{map-PTerm}
use Rattle.core_terms.specs.Conditions.{Parts, parts_of, parts_step, also}
use Rattle.core_terms.specs.Folding.{and_form, not_form, at_least_form, difference_term}
use Rattle.core_terms.specs.Places.{names_param}
use Rattle.core_terms.specs.Replacing.{form_at}
use Rattle.core_terms.specs.Trees.{same_form}
use Rattle.fair_rounds.specs.declared.records.Record.{Record}
use Rattle.rules_table.specs.declared.led.Led.{Led}
use Rattle.rules_table.specs.Forms.{imply}
use Rattle.rules_table.specs.Limits.{fits}
use Rattle.rules_table.specs.Numbers.{args_from, form_for, numbers_of}
use Rattle.rules_table.specs.Table.{Site, needs, go_on, instance_of, is_slot, are_arguments, is_unless, record_with}
use Rattle.rules_table.specs.Terms.{Ask, known, found, referred, leads, node, leads_from, leads_by, leads_on}
use Rattle.rules_table.specs.Terms.{leads_either, leads_any, at_measure, below_measure, measure_lies, leads_down}
use Rattle.rules_table.specs.Terms.{leads_safely, leads_weaker, term_step, term_of}
use Rattle.rules_table.proofs.EachLaws.{Each, each_join, each_parts, each_at, found_in}
use Rattle.rules_table.proofs.RowEquations.{instance-is}
use Rattle.rules_table.proofs.SiteLaws.{met, went_on}
use Rattle.rules_table.proofs.TermSound.{node_is}
use Rattle.plain_quotients.specs.Plain.{FormIsPlain, TermIsPlain}
use Rattle.plain_quotients.proofs.FormLaws.{and_kept, or_kept, not_kept, at_least_kept, difference_kept, const_plain}
use Rattle.plain_quotients.proofs.FormLaws.{at_plain}
use Rattle.plain_quotients.proofs.StatementLaws.{any_plain, imply_plain}

-- records

pub record RecordIsPlain (a : Record) : Type 0 where
  pub p : FormIsPlain a.p
  pub q : FormIsPlain a.q
  pub under : Each FormIsPlain a.under

known_so : (o : Option Record) (a : Record) → known o ≡ Ok a → o ≡ Some a
known_so None a e = cc
known_so (Some b) a e = let same : b ≡ a = cc e in ap (λ (x : Record). Some x) same

pub found_plain : (book : List Record) (r : Ref) (a : Record) → Each RecordIsPlain book → found book r ≡ Ok a →
    RecordIsPlain a
found_plain book r a all e =
    let test : Record → Bool = λ (b : Record). nat_eq b.program r.program && nat_eq b.name r.step in
    let there = found_in test book a (known_so (find test book) a e) in
    each_at RecordIsPlain book all there.place a there.there

pub instance_plain : (site : Site) (ranges : List Range) (a b : Record) (args : List Arg) → RecordIsPlain a →
    instance_of site ranges a args ≡ Ok b → RecordIsPlain b
instance_plain site ranges a b args h e =
    let small : Bool = fits site.slots ranges (form_at args a.p) && fits site.slots ranges (form_at args a.q) in
    let last : Result Record Code = needs small Code.FormulaTooLarge (Ok (record_with site a args)) in
    let one = met (not (list_any is_slot args)) Code.ParamEscapes
    (needs (are_arguments ranges a.params args) Code.BadArgument last) b (sym (instance-is site ranges a args) ∙ e) in
    let two = met (are_arguments ranges a.params args) Code.BadArgument last b one.1 in
    let three = met small Code.FormulaTooLarge (Ok (record_with site a args)) b two.1 in
    let same : record_with site a args ≡ b = cc (three.1) in
    subst RecordIsPlain same (record {
      p = at_plain args a.p h.p;
      q = at_plain args a.q h.q;
      under = h.under;
    })

pub referred_plain : (site : Site) (ranges : List Range) (book : List Record) (serves : Kind → Bool) (r : Ref)
    (b : Record) → Each RecordIsPlain book → referred site ranges book serves r ≡ Ok b → RecordIsPlain b
referred_plain site ranges book serves r b all e =
    let there = went_on (found book r) (λ (a : Record). needs (nat_eq a.program site.program.name) Code.OtherProgram
    (needs (serves a.kind) Code.WrongKind (instance_of site ranges a r.args))) b e in
    let a : Record = there.0 in
    let mine = met (nat_eq a.program site.program.name) Code.OtherProgram
    (needs (serves a.kind) Code.WrongKind (instance_of site ranges a r.args)) b there.2 in
    let kind = met (serves a.kind) Code.WrongKind (instance_of site ranges a r.args) b mine.1 in
    instance_plain site ranges a b r.args (found_plain book r a all there.1) kind.1

-- the parts of a term

pub record PartsArePlain (parts : Parts) : Type 0 where
  pub forms : Each (λ (e : (ℕ → Bool) × CForm). FormIsPlain e.1) parts.forms
  pub terms : Each (λ (e : (ℕ → Bool) × CTerm). TermIsPlain e.1) parts.terms

-- what a term gives

pub record LedIsPlain (l : Led) : Type 0 where
  pub p : FormIsPlain l.p
  pub q : FormIsPlain l.q
  pub under : Each FormIsPlain l.under
  pub forms : Each FormIsPlain l.forms

lies_plain : (t : CTerm) (range : Range) → TermIsPlain t → FormIsPlain (measure_lies t range)
lies_plain t range h =
    and_kept (at_least_form (difference_term t (Const range.lo))) (at_least_form (difference_term (Const range.hi) t))
    (at_least_kept (difference_term t (Const range.lo))
    (difference_kept t (Const range.lo) h (const_plain range.lo)))
    (at_least_kept (difference_term (Const range.hi) t)
    (difference_kept (Const range.hi) t (const_plain range.hi) h))

at_numbers : (ranges : List Range) (m : ℕ) (f : CForm) (zs : List ℤ) → FormIsPlain f →
    Each FormIsPlain (map (λ z. form_for ranges m z f) zs)
at_numbers ranges m f [] h = tt
at_numbers ranges m f (z ∷ zs) h = (at_plain (args_from 0 m z ranges) f h, at_numbers ranges m f zs h)

module _ (site : Site) (using : Each FormIsPlain site.using) (ranges : List Range) (book : List Record)
    (all : Each RecordIsPlain book) where
  abbrev Plain : Ask → Type 0
  Plain ask = (l : Led) → ask ≡ Ok l → LedIsPlain l

  of_node : (l : Led) → LedIsPlain l → Plain (node site ranges l)
  of_node l h m e = subst LedIsPlain (node_is site ranges l m e) h

  of_part : {A : Type 0} (r : Result A Code) (f : A → Ask) → ((y : A) → r ≡ Ok y → Plain (f y)) → Plain (go_on r f)
  of_part r f shown l e = let part = went_on r f l e in shown part.0 part.1 l part.2

  of_need : (b : Bool) (code : Code) (rest : Ask) → Plain rest → Plain (needs b code rest)
  of_need b code rest shown l e = let one = met b code rest l e in shown l one.1

  follows : (p q : CForm) → FormIsPlain p → FormIsPlain q → FormIsPlain (imply (site.using ++ (p ∷ [])) q)
  follows p q h k =
      imply_plain (site.using ++ (p ∷ [])) q (each_join FormIsPlain site.using (p ∷ []) using (h, tt)) k

  by_plain : (p q : CForm) → FormIsPlain p → FormIsPlain q → LedIsPlain (leads_by site.using p q)
  by_plain p q h k = record { p = h; q = k; under = tt; forms = (follows p q h k, tt) }

  from_plain : (a : Record) → RecordIsPlain a → LedIsPlain (leads_from a)
  from_plain a h = record { p = h.p; q = h.q; under = h.under; forms = tt }

  on_plain : (a b : Led) → LedIsPlain a → LedIsPlain b → LedIsPlain (leads_on a b)
  on_plain a b h k = record {
    p = h.p;
    q = k.q;
    under = each_join FormIsPlain a.under b.under h.under k.under;
    forms = each_join FormIsPlain a.forms b.forms h.forms k.forms;
  }

  either_plain : (a b : Led) → LedIsPlain a → LedIsPlain b → LedIsPlain (leads_either a b)
  either_plain a b h k = record {
    p = or_kept a.p b.p h.p k.p;
    q = h.q;
    under = each_join FormIsPlain a.under b.under h.under k.under;
    forms = each_join FormIsPlain a.forms b.forms h.forms k.forms;
  }

  any_led : (m : ℕ) (range : Range) (a : Led) → LedIsPlain a → LedIsPlain (leads_any ranges m range a)
  any_led m range a h = record {
    p = any_plain (map (λ z. form_for ranges m z a.p) (numbers_of range))
        (at_numbers ranges m a.p (numbers_of range) h.p);
    q = h.q;
    under = h.under;
    forms = h.forms;
  }

  down_plain : (range : Range) (measure : CTerm) (p q : CForm) (a : Led) → TermIsPlain measure → FormIsPlain p →
      FormIsPlain q → LedIsPlain a → LedIsPlain (leads_down site.using range measure p q a)
  down_plain range measure p q a t h k l = record {
    p = h;
    q = k;
    under = l.under;
    forms = each_join FormIsPlain a.forms
        (imply (site.using ++ (p ∷ not_form q ∷ [])) (measure_lies measure range) ∷ []) l.forms (
          imply_plain (site.using ++ (p ∷ not_form q ∷ [])) (measure_lies measure range)
              (each_join FormIsPlain site.using (p ∷ not_form q ∷ []) using (h, (not_kept q k, tt)))
              (lies_plain measure range t),
          tt,
        );
  }

  safely_plain : (a : Led) (b : Record) → LedIsPlain a → RecordIsPlain b → LedIsPlain (leads_safely a b)
  safely_plain a b h k = record {
    p = and_kept a.p b.p h.p k.p;
    q = or_kept (and_form a.q b.p) b.q (and_kept a.q b.p h.q k.p) k.q;
    under = each_join FormIsPlain a.under b.under h.under k.under;
    forms = h.forms;
  }

  weaker_plain : (p q : CForm) (a : Led) → FormIsPlain p → FormIsPlain q → LedIsPlain a →
      LedIsPlain (leads_weaker site.using p q a)
  weaker_plain p q a h k l = record {
    p = h;
    q = k;
    under = l.under;
    forms = each_join FormIsPlain a.forms
        (imply (site.using ++ (p ∷ [])) a.p ∷ imply (site.using ++ (a.q ∷ [])) q ∷ []) l.forms
        (follows p a.p h l.p, (follows a.q q l.q k, tt));
  }

  abbrev answer : PTerm → Ask
  answer = term_of site ranges book

  abbrev TermKept : PTerm → Type 0
  TermKept t = (v : ℕ → Bool) → PartsArePlain (parts_of t v) → Plain (answer t)

  abbrev Gives : Type 0
  Gives = (t : PTerm) × TermKept t

  abbrev trees : PTerm-F Gives → PTerm-F PTerm
  trees y = map-PTerm Gives PTerm (λ g. g.0) y

  abbrev parts_at : PTerm-F Gives → (ℕ → Bool) → Parts
  parts_at y = parts_step (map-PTerm PTerm ((ℕ → Bool) → Parts) parts_of (trees y))

  two_parts : (a b : Parts) →
      Each (λ (e : (ℕ → Bool) × CForm). FormIsPlain e.1) (a.forms ++ b.forms) →
      Each (λ (e : (ℕ → Bool) × CTerm). TermIsPlain e.1) (a.terms ++ b.terms) → PartsArePlain a × PartsArePlain b
  two_parts a b h k =
      let forms = each_parts (λ (e : (ℕ → Bool) × CForm). FormIsPlain e.1) a.forms b.forms h in
      let terms = each_parts (λ (e : (ℕ → Bool) × CTerm). TermIsPlain e.1) a.terms b.terms k in
      (record { forms = forms.0; terms = terms.0 }, record { forms = forms.1; terms = terms.1 })

  layer_plain : (y : PTerm-F Gives) (v : ℕ → Bool) → PartsArePlain (parts_at y v) →
      Plain (term_step site ranges book (map-PTerm PTerm Ask answer (trees y)))
  layer_plain (PTerm-F.Imply p q) v own =
      of_node (leads_by site.using p q) (by_plain p q own.forms.0 own.forms.1.0)
  layer_plain (PTerm-F.From r) v own =
      of_part (referred site ranges book leads r) (λ a. node site ranges (leads_from a)) (λ a h.
      of_node (leads_from a) (from_plain a (referred_plain site ranges book leads r a all h)))
  layer_plain (PTerm-F.Trans t u) v own =
      let parts = two_parts (parts_of t.0 v) (parts_of u.0 v) own.forms own.terms in
      of_part (answer t.0) (λ a. go_on (answer u.0) (λ b.
      needs (same_form a.q b.p) Code.MiddleDiffers (node site ranges (leads_on a b)))) (λ a h.
      of_part (answer u.0) (λ b. needs (same_form a.q b.p) Code.MiddleDiffers (node site ranges (leads_on a b)))
      (λ b k.
      of_need (same_form a.q b.p) Code.MiddleDiffers (node site ranges (leads_on a b))
      (of_node (leads_on a b) (on_plain a b (t.1 v parts.0 a h) (u.1 v parts.1 b k)))))
  layer_plain (PTerm-F.Either t u) v own =
      let parts = two_parts (parts_of t.0 v) (parts_of u.0 v) own.forms own.terms in
      of_part (answer t.0) (λ a. go_on (answer u.0) (λ b.
      needs (same_form a.q b.q) Code.MiddleDiffers (node site ranges (leads_either a b)))) (λ a h.
      of_part (answer u.0) (λ b. needs (same_form a.q b.q) Code.MiddleDiffers
      (node site ranges (leads_either a b))) (λ b k.
      of_need (same_form a.q b.q) Code.MiddleDiffers (node site ranges (leads_either a b))
      (of_node (leads_either a b) (either_plain a b (t.1 v parts.0 a h) (u.1 v parts.1 b k)))))
  layer_plain (PTerm-F.Exists m range t) v own =
      of_part (answer t.0) (λ a.
      needs (not (names_param m a.q)) Code.ParamEscapes (node site ranges (leads_any ranges m range a))) (λ a h.
      of_need (not (names_param m a.q)) Code.ParamEscapes (node site ranges (leads_any ranges m range a))
      (of_node (leads_any ranges m range a)
      (any_led m range a (t.1 (also m v) (record { forms = own.forms; terms = own.terms }) a h))))
  layer_plain (PTerm-F.Induct m range measure p q t) v own =
      of_part (answer t.0) (λ a.
      needs (same_form a.p (at_measure measure m p) && same_form a.q (below_measure measure m p q)) Code.MiddleDiffers
      (node site ranges (leads_down site.using range measure p q a))) (λ a h.
      of_need (same_form a.p (at_measure measure m p) && same_form a.q (below_measure measure m p q))
      Code.MiddleDiffers
      (node site ranges (leads_down site.using range measure p q a))
      (of_node (leads_down site.using range measure p q a)
      (down_plain range measure p q a own.terms.0 own.forms.0 own.forms.1.0
      (t.1 (also m v) (record { forms = own.forms.1.1; terms = own.terms.1 }) a h))))
  layer_plain (PTerm-F.Psp t r) v own =
      let parts = two_parts (parts_of t.0 v) (record { forms = []; terms = []; args = []; ranges = [] }) own.forms
      own.terms in
      of_part (answer t.0) (λ a. go_on (referred site ranges book is_unless r)
      (λ b. node site ranges (leads_safely a b)))
      (λ a h. of_part (referred site ranges book is_unless r) (λ b. node site ranges (leads_safely a b)) (λ b k.
      of_node (leads_safely a b)
      (safely_plain a b (t.1 v parts.0 a h) (referred_plain site ranges book is_unless r b all k))))
  layer_plain (PTerm-F.Weaken p q t) v own =
      of_part (answer t.0) (λ a. node site ranges (leads_weaker site.using p q a)) (λ a h.
      of_node (leads_weaker site.using p q a) (weaker_plain p q a own.forms.0 own.forms.1.0
      (t.1 v (record { forms = own.forms.1.1; terms = own.terms }) a h)))

  layer : (y : PTerm-F Gives) → TermKept (roll-PTerm (trees y))
  layer y v own =
      subst Plain (sym (fold-roll-PTerm Ask (term_step site ranges book) (trees y)))
      (layer_plain y v (subst (λ f. PartsArePlain (f v))
      (fold-roll-PTerm ((ℕ → Bool) → Parts) parts_step (trees y)) own))

  pub term_plain : (t : PTerm) → TermKept t
  term_plain t = ind-PTerm TermKept (λ z y e. subst (λ k. TermKept (roll-PTerm k)) e (layer y)) t
