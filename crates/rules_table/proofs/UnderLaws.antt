-- What records stand under holds throughout, and names no parameter.
use Rattle.std.proofs.Common.{◌≡◌, List, [], ◌∷◌, ◌++◌, Bool, true, false, cond, not, ◌&&◌, Result, Ok, refl, sym}
use Rattle.std.proofs.Common.{subst}
use Rattle.std.specs.List.{list_any}
use Rattle.case_tables.specs.declared.kind_table.Kind.{Kind}
use Rattle.case_tables.specs.declared.code_table.Code.{Code}
use Rattle.core_terms.specs.declared.trees.Range.{Range}
use Rattle.core_terms.specs.declared.trees.CForm.{CForm}
use Rattle.core_terms.specs.declared.documents.Ref.{Ref}
use Rattle.core_terms.specs.declared.documents.PTerm.{PTerm, roll-PTerm, fold-roll-PTerm, ind-PTerm}
use Rattle.core_terms.specs.declared.documents.PTerm.TheOpen.{PTerm-F}
use Rattle.core_terms.specs.declared.documents.PTerm.TheFolds.{map-PTerm}
use Rattle.core_terms.specs.Trees.{same_form}
use Rattle.core_terms.specs.Places.{names_param}
use Rattle.core_terms.specs.Values.{form_value}
use Rattle.fair_rounds.specs.declared.records.Record.{Record}
use Rattle.rules_table.specs.declared.led.Led.{Led}
use Rattle.rules_table.specs.Table.{Site, needs, go_on, with_each, is_unless}
use Rattle.rules_table.specs.Terms.{Ask, referred, leads, node, leads_from, leads_by, leads_on, leads_either}
use Rattle.rules_table.specs.Terms.{leads_any, at_measure, below_measure, leads_down, leads_safely, leads_weaker}
use Rattle.rules_table.specs.Terms.{term_step, term_of}
use Rattle.rules_table.specs.Sound.{NameNoParameter, HoldThroughout}
use Rattle.rules_table.proofs.FormLaws.{all_join}
use Rattle.rules_table.proofs.SiteLaws.{met, went_on}
use Rattle.rules_table.proofs.TermSound.{node_is}

-- formulas that name no parameter and hold at every state of every execution
pub record Holding (site : Site) (fs : List CForm) : Type 0 where
  pub closed : NameNoParameter fs
  pub throughout : HoldThroughout site fs

pub none_holding : (site : Site) → Holding site []
none_holding site = record { closed = tt; throughout = λ first choices later run place s there. refl }

pub both_closed : (fs gs : List CForm) → NameNoParameter fs → NameNoParameter gs → NameNoParameter (fs ++ gs)
both_closed [] gs h k = k
both_closed (f ∷ fs) gs h k = (h.0, both_closed fs gs h.1 k)

pub both_holding : (site : Site) (fs gs : List CForm) → Holding site fs → Holding site gs → Holding site (fs ++ gs)
both_holding site fs gs one two = record {
  closed = both_closed fs gs one.closed two.closed;
  throughout = λ first choices later run place s there.
      all_join (λ f. form_value s [] f) fs gs (one.throughout first choices later run place s there)
      (two.throughout first choices later run place s there);
}

-- so do formulas each once
one_closed : (seen : List CForm) (f : CForm) (fs : List CForm) → NameNoParameter seen → NameNoParameter (f ∷ []) →
    ((more : List CForm) → NameNoParameter more → NameNoParameter (with_each more fs)) →
    (b : Bool) → NameNoParameter (with_each (cond b seen (seen ++ (f ∷ []))) fs)
one_closed seen f fs h k rest true = rest seen h
one_closed seen f fs h k rest false = rest (seen ++ (f ∷ [])) (both_closed seen (f ∷ []) h k)

pub each_closed : (seen fs : List CForm) → NameNoParameter seen → NameNoParameter fs →
    NameNoParameter (with_each seen fs)
each_closed seen [] h k = h
each_closed seen (f ∷ fs) h k =
    one_closed seen f fs h (k.0, tt) (λ more i. each_closed more fs i k.1) (list_any (same_form f) seen)

module _ (site : Site) (ranges : List Range) (book : List Record)
    (good : (serves : Kind → Bool) (r : Ref) (a : Record) → referred site ranges book serves r ≡ Ok a →
    Holding site a.under) where
  abbrev Under : Ask → Type 0
  Under ask = (l : Led) → ask ≡ Ok l → Holding site l.under

  of_node : (l : Led) → Holding site l.under → Under (node site ranges l)
  of_node l holds m e = subst (λ (k : Led). Holding site k.under) (node_is site ranges l m e) holds

  of_part : {A : Type 0} (r : Result A Code) (f : A → Ask) → ((y : A) → r ≡ Ok y → Under (f y)) → Under (go_on r f)
  of_part r f shown l e = let part = went_on r f l e in shown part.0 part.1 l part.2

  of_need : (b : Bool) (code : Code) (rest : Ask) → Under rest → Under (needs b code rest)
  of_need b code rest shown l e = let one = met b code rest l e in shown l one.1

  abbrev answer : PTerm → Ask
  answer = term_of site ranges book

  abbrev TermUnder : PTerm → Type 0
  TermUnder t = Under (answer t)

  abbrev Gives : Type 0
  Gives = (t : PTerm) × TermUnder t

  abbrev trees : PTerm-F Gives → PTerm-F PTerm
  trees y = map-PTerm Gives PTerm (λ g. g.0) y

  layer_under : (y : PTerm-F Gives) → Under (term_step site ranges book (map-PTerm PTerm Ask answer (trees y)))
  layer_under (PTerm-F.Imply p q) = of_node (leads_by site.using p q) (none_holding site)
  layer_under (PTerm-F.From r) =
      of_part (referred site ranges book leads r) (λ a. node site ranges (leads_from a)) (λ a h.
      of_node (leads_from a) (good leads r a h))
  layer_under (PTerm-F.Trans t u) =
      of_part (answer t.0) (λ a. go_on (answer u.0) (λ b.
      needs (same_form a.q b.p) Code.MiddleDiffers (node site ranges (leads_on a b)))) (λ a h.
      of_part (answer u.0) (λ b. needs (same_form a.q b.p) Code.MiddleDiffers (node site ranges (leads_on a b)))
      (λ b k.
      of_need (same_form a.q b.p) Code.MiddleDiffers (node site ranges (leads_on a b))
      (of_node (leads_on a b) (both_holding site a.under b.under (t.1 a h) (u.1 b k)))))
  layer_under (PTerm-F.Either t u) =
      of_part (answer t.0) (λ a. go_on (answer u.0) (λ b.
      needs (same_form a.q b.q) Code.MiddleDiffers (node site ranges (leads_either a b)))) (λ a h.
      of_part (answer u.0) (λ b. needs (same_form a.q b.q) Code.MiddleDiffers
      (node site ranges (leads_either a b))) (λ b k.
      of_need (same_form a.q b.q) Code.MiddleDiffers (node site ranges (leads_either a b))
      (of_node (leads_either a b) (both_holding site a.under b.under (t.1 a h) (u.1 b k)))))
  layer_under (PTerm-F.Exists m range t) =
      of_part (answer t.0) (λ a.
      needs (not (names_param m a.q)) Code.ParamEscapes (node site ranges (leads_any ranges m range a))) (λ a h.
      of_need (not (names_param m a.q)) Code.ParamEscapes (node site ranges (leads_any ranges m range a))
      (of_node (leads_any ranges m range a) (t.1 a h)))
  layer_under (PTerm-F.Induct m range measure p q t) =
      of_part (answer t.0) (λ a.
      needs (same_form a.p (at_measure measure m p) && same_form a.q (below_measure measure m p q)) Code.MiddleDiffers
      (node site ranges (leads_down site.using range measure p q a))) (λ a h.
      of_need (same_form a.p (at_measure measure m p) && same_form a.q (below_measure measure m p q))
      Code.MiddleDiffers
      (node site ranges (leads_down site.using range measure p q a))
      (of_node (leads_down site.using range measure p q a) (t.1 a h)))
  layer_under (PTerm-F.Psp t r) =
      of_part (answer t.0) (λ a. go_on (referred site ranges book is_unless r)
      (λ b. node site ranges (leads_safely a b)))
      (λ a h. of_part (referred site ranges book is_unless r) (λ b. node site ranges (leads_safely a b)) (λ b k.
      of_node (leads_safely a b) (both_holding site a.under b.under (t.1 a h) (good is_unless r b k))))
  layer_under (PTerm-F.Weaken p q t) =
      of_part (answer t.0) (λ a. node site ranges (leads_weaker site.using p q a)) (λ a h.
      of_node (leads_weaker site.using p q a) (t.1 a h))

  layer : (y : PTerm-F Gives) → TermUnder (roll-PTerm (trees y))
  layer y = subst (λ ask. Under ask) (sym (fold-roll-PTerm Ask (term_step site ranges book) (trees y)))
      (layer_under y)

  pub term_under : (t : PTerm) → TermUnder t
  term_under t = ind-PTerm TermUnder (λ z y e. subst (λ k. TermUnder (roll-PTerm k)) e (layer y)) t
