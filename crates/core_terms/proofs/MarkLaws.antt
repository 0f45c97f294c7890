-- What a pool keeps where it is cut back to a mark, and which marks then fit it.
use Rattle.std.proofs.Common.{◌≡◌, pos, List, length, take}
use Rattle.std.proofs.Common.{sym, ap, ◌∙◌, subst, arith}
use Rattle.std.proofs.lemmas.List.{length-take, get_or-take, take-map}
use Rattle.std.proofs.lemmas.List.Elements.{All-weaker}
use Rattle.core_terms.specs.declared.trees.CTerm.{CTerm}
use Rattle.core_terms.specs.declared.trees.CTerm.TheVariants.{Const}
use Rattle.core_terms.specs.declared.trees.CForm.{CForm}
use Rattle.core_terms.specs.declared.trees.CForm.TheVariants.{Top}
use Rattle.core_terms.specs.declared.nodes.FormNode.{FormNode}
use Rattle.core_terms.specs.declared.nodes.TermNode.{TermNode}
use Rattle.core_terms.specs.declared.marks.Mark.{Mark}
use Rattle.core_terms.specs.Pools.{form_of_node, term_of_node, IsFormWithin, IsTermWithin, Pooled}
use Rattle.core_terms.specs.Pools.{IsPool, Grows}
use Rattle.core_terms.specs.Marks.{Fits, KeepsMarks, KeepsMarksTo}
use Rattle.core_terms.proofs.PlaceLaws.{keeps_length, front_all, shorter_front}
use Rattle.core_terms.proofs.PlaceLaws.{once_in_front, same_map}
use Rattle.core_terms.proofs.NodeLaws.{form_stays, term_stays, form_wider, term_wider}
use Rattle.core_terms.proofs.PoolLaws.{form_count, term_count}

pub marks_kept : (p q : Pooled) → IsPool p → Grows p q → KeepsMarks p q
marks_kept p q w a m fits =
    let forms = keeps_length p.forms q.forms a.forms in
    let terms = keeps_length p.terms q.terms a.terms in
    record {
      forms = omega (arith, fits.forms, forms);
      terms = omega (arith, fits.terms, terms);
      form_parts = front_all (IsFormWithin m.forms m.terms) p.form_nodes q.form_nodes m.forms
          (omega (arith, fits.forms, form_count p w)) a.form_nodes fits.form_parts;
      term_parts = front_all (IsTermWithin m.forms m.terms) p.term_nodes q.term_nodes m.terms
          (omega (arith, fits.terms, term_count p w)) a.term_nodes fits.term_parts;
    }

module _ (p : Pooled) (m : Mark) where
  abbrev pub cut : Pooled
  cut = record {
    form_nodes = take m.forms p.form_nodes;
    forms = take m.forms p.forms;
    term_nodes = take m.terms p.term_nodes;
    terms = take m.terms p.terms;
  }

  module _ (w : IsPool p) (fits : Fits p m) where
    abbrev fs : List CForm
    fs = take m.forms p.forms

    abbrev ts : List CTerm
    ts = take m.terms p.terms

    form_stays_cut : (j : FormNode) → IsFormWithin m.forms m.terms j →
        form_of_node p.forms p.terms j ≡ form_of_node fs ts j
    form_stays_cut = form_stays p.forms fs p.terms ts m.forms m.terms (λ i h. sym (get_or-take m.forms p.forms i Top h))
        (λ i h. sym (get_or-take m.terms p.terms i (Const (pos 0)) h))

    term_stays_cut : (j : TermNode) → IsTermWithin m.forms m.terms j →
        term_of_node p.forms p.terms j ≡ term_of_node fs ts j
    term_stays_cut = term_stays p.forms fs p.terms ts m.forms m.terms
        (λ i h. sym (get_or-take m.forms p.forms i Top h))
        (λ i h. sym (get_or-take m.terms p.terms i (Const (pos 0)) h))

    pub whole_cut : IsPool cut
    whole_cut = record {
      forms = ap (λ l. take m.forms l) w.forms ∙ take-map (form_of_node p.forms p.terms) m.forms p.form_nodes
          ∙ same_map (form_of_node p.forms p.terms) (form_of_node fs ts) (take m.forms p.form_nodes)
          (All-weaker (IsFormWithin m.forms m.terms) _ form_stays_cut (take m.forms p.form_nodes) fits.form_parts);
      terms = ap (λ l. take m.terms l) w.terms ∙ take-map (term_of_node p.forms p.terms) m.terms p.term_nodes
          ∙ same_map (term_of_node p.forms p.terms) (term_of_node fs ts) (take m.terms p.term_nodes)
          (All-weaker (IsTermWithin m.forms m.terms) _ term_stays_cut (take m.terms p.term_nodes) fits.term_parts);
      form_parts = All-weaker (IsFormWithin m.forms m.terms) _
          (form_wider _ _ (length fs) (length ts) (omega (arith, length-take m.forms p.forms, fits.forms))
          (omega (arith, length-take m.terms p.terms, fits.terms))) (take m.forms p.form_nodes) fits.form_parts;
      term_parts = All-weaker (IsTermWithin m.forms m.terms) _
          (term_wider _ _ (length fs) (length ts) (omega (arith, length-take m.forms p.forms, fits.forms))
          (omega (arith, length-take m.terms p.terms, fits.terms))) (take m.terms p.term_nodes) fits.term_parts;
      forms_once = once_in_front m.forms p.forms w.forms_once;
      terms_once = once_in_front m.terms p.terms w.terms_once;
    }

    pub marks_cut : KeepsMarksTo m p cut
    marks_cut other low below inside = record {
      forms = omega (arith, low, inside.forms, length-take m.forms p.forms);
      terms = omega (arith, below, inside.terms, length-take m.terms p.terms);
      form_parts = shorter_front (IsFormWithin other.forms other.terms) p.form_nodes other.forms m.forms low
          inside.form_parts;
      term_parts = shorter_front (IsTermWithin other.forms other.terms) p.term_nodes other.terms m.terms below
          inside.term_parts;
    }

-- a pool that is another, cut back to a mark
pub cut_back : (p q : Pooled) (m : Mark) → IsPool p → Fits p m → q.form_nodes ≡ take m.forms p.form_nodes →
    q.forms ≡ take m.forms p.forms → q.term_nodes ≡ take m.terms p.term_nodes → q.terms ≡ take m.terms p.terms →
    IsPool q × KeepsMarksTo m p q
cut_back p q m w fits a b c d =
    let same : cut p m ≡ q = λ i. record {
      form_nodes = sym a i;
      forms = sym b i;
      term_nodes = sym c i;
      terms = sym d i;
    } in (subst IsPool same (whole_cut p m w fits), subst (KeepsMarksTo m p) same (marks_cut p m w fits))
