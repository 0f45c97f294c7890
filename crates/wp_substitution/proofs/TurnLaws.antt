-- What nodes become where slots are replaced.
use Rattle.std.proofs.Common.{◌≡◌, ℕ, ◌<◌, ◌≤◌, ◌^◌, max, ℤ, pos, ◌*ℤ◌, Bool, true, false, not}
use Rattle.std.proofs.Common.{cond, length, Option, Some, None, refl, sym, ap, ◌∙◌, subst, arith}
use Rattle.std.specs.Prelude.{slice_get}
use Rattle.std.specs.Option.{option_map}
use Rattle.std.proofs.lemmas.Option.{slice_get_within, get_or_from_slice_get as read}
use Rattle.core_terms.specs.declared.trees.CTerm.{CTerm}
use Rattle.core_terms.specs.declared.trees.CTerm.TheVariants as term
use Rattle.core_terms.specs.declared.trees.CTerm.TheVariants.{Const, Slot, Param, Add, Sub, Scale, Div, Mod, Ite}
use Rattle.core_terms.specs.declared.trees.CForm.{CForm}
use Rattle.core_terms.specs.declared.trees.CForm.TheVariants as form
use Rattle.core_terms.specs.declared.trees.CForm.TheVariants.{Top, Bottom, AtLeast, Zero, Not, And, Or}
use Rattle.core_terms.specs.declared.nodes.FormNode.{FormNode}
use Rattle.core_terms.specs.declared.nodes.TermNode.{TermNode}
use Rattle.core_terms.specs.declared.marks.Mark.{Mark}
use Rattle.core_terms.specs.declared.known.Sense.{Sense}
use Rattle.core_terms.specs.declared.known.Joining.{Joining}
use Rattle.core_terms.specs.declared.known.Pairing.{Pairing}
use Rattle.core_terms.specs.declared.known.Dividing.{Dividing}
use Rattle.core_terms.specs.Weights.{Weights, one_weight, sum_weights, multiple_weights, quotient_weights}
use Rattle.core_terms.specs.Weights.{remainder_weights, choice_weights}
use Rattle.core_terms.specs.Folding.{chosen, number_of, truth_of, is_small, constant_or, truth_or, folded_term}
use Rattle.core_terms.specs.Folding.{folded_form, scaled_term, choice_term, not_form, branch_or, and_form}
use Rattle.core_terms.specs.Senses.{pair_node, divided_node, sense_node, joined_node, paired_term, divided_term}
use Rattle.core_terms.specs.Senses.{sense_form, joined_form}
use Rattle.core_terms.specs.Pools.{Pooled, form_or, term_or, form_of_node, term_of_node, IsFormWithin, IsTermWithin}
use Rattle.core_terms.proofs.FoldingLaws.{known_steps}
use Rattle.core_terms.proofs.HeavierLaws.{weight_steps}
use Rattle.core_terms.proofs.KnownLaws.{known_folded_form, known_folded_term}
use Rattle.core_terms.proofs.ReplacingLaws.{replace_steps}
use Rattle.core_terms.proofs.TreeFolds.{fold_form_is, fold_term_is}
use Rattle.std.specs.BTreeMap.{BTreeMap}
use Rattle.wp_substitution.specs.declared.chains.Chain.{Chain}
use Rattle.wp_substitution.specs.declared.memos.FormKnown.{FormKnown}
use Rattle.wp_substitution.specs.declared.memos.TermKnown.{TermKnown}
use Rattle.wp_substitution.specs.declared.turning.FormTurn.{FormTurn}
use Rattle.wp_substitution.specs.Chains.{chain_at, chain_weight, form_by, term_by, after_weights, after_weight}
use Rattle.wp_substitution.specs.Numbers.{sense_truth, joined_truth, pair_number, divided_number}
use Rattle.wp_substitution.specs.Memos.{IsFormKnown, IsTermKnown, IsFormPart, IsTermPart, AreFormParts, AreTermParts}
use Rattle.wp_substitution.specs.Memos.{IsFormTurn, IsNodeTurn}

-- what is known of a node

truth_sense : (sense : Sense) (t : CTerm) → sense_truth sense (number_of t) ≡ truth_of (sense_node sense t)
truth_sense Sense.AtLeast t = sym (fold_form_is known_steps _ _ (form.rolls-AtLeast t))
truth_sense Sense.Zero t = sym (fold_form_is known_steps _ _ (form.rolls-Zero t))

truth_joined : (joining : Joining) (f g : CForm) → joined_truth joining (truth_of f) (truth_of g) ≡
    truth_of (joined_node joining f g)
truth_joined Joining.Both f g = sym (fold_form_is known_steps _ _ (form.rolls-And f g))
truth_joined Joining.Either f g = sym (fold_form_is known_steps _ _ (form.rolls-Or f g))

truth_not : (f : CForm) → option_map not (truth_of f) ≡ truth_of (Not f)
truth_not f = sym (fold_form_is known_steps _ _ (form.rolls-Not f))

number_pair : (which : Pairing) (a b : CTerm) → pair_number which (number_of a) (number_of b) ≡
    number_of (pair_node which a b)
number_pair Pairing.Sum a b = sym (fold_term_is known_steps _ _ (term.rolls-Add a b))
number_pair Pairing.Difference a b = sym (fold_term_is known_steps _ _ (term.rolls-Sub a b))

number_scaled : (k : ℤ) (a : CTerm) → option_map (λ x. k *ℤ x) (number_of a) ≡ number_of (Scale k a)
number_scaled k a = sym (fold_term_is known_steps _ _ (term.rolls-Scale k a))

number_divided : (which : Dividing) (a : CTerm) (k : ℤ) → divided_number which (number_of a) k ≡
    number_of (divided_node which a k)
number_divided Dividing.Quotient a k = sym (fold_term_is known_steps _ _ (term.rolls-Div a k))
number_divided Dividing.Remainder a k = sym (fold_term_is known_steps _ _ (term.rolls-Mod a k))

number_constant : (c : ℤ) → number_of (Const c) ≡ Some c
number_constant c = fold_term_is known_steps _ _ (term.rolls-Const c)

pub number_slot : (n : ℕ) → number_of (Slot n) ≡ None
number_slot n = fold_term_is known_steps _ _ (term.rolls-Slot n)

number_param : (n : ℕ) → number_of (Param n) ≡ None
number_param n = fold_term_is known_steps _ _ (term.rolls-Param n)

truth_top : truth_of Top ≡ Some true
truth_top = fold_form_is known_steps _ _ form.rolls-Top

truth_bottom : truth_of Bottom ≡ Some false
truth_bottom = fold_form_is known_steps _ _ form.rolls-Bottom

number_choice : (c : CForm) (a b : CTerm) → truth_of c ≡ None → number_of (Ite c a b) ≡ None
number_choice c a b e =
    fold_term_is known_steps _ _ (term.rolls-Ite c a b) ∙ ap (λ m. chosen m (number_of a) (number_of b)) e

-- what a known node is, once its parts are

module _ (p : Pooled) where
  pub sense_turns : (sense : Sense) (t : CTerm) (k : TermKnown) (turn : FormTurn) → IsTermKnown p t k →
      form_of_node p.forms p.terms turn.node ≡ sense_node sense (term_or p.terms k.id.place) →
      (k.id.place < length p.terms → IsFormWithin (length p.forms) (length p.terms) turn.node) →
      turn.truth ≡ sense_truth sense k.number → IsFormTurn p (sense_form sense t) turn
  sense_turns sense t k turn is node parts truth =
      let whole : form_of_node p.forms p.terms turn.node ≡ sense_node sense t =
      node ∙ ap (sense_node sense) (read p.terms k.id.place t (Const (pos 0)) is.tree) in
      record {
        parts = parts (slice_get_within p.terms k.id.place t is.tree);
        tree = ap folded_form whole;
        truth = truth ∙ ap (sense_truth sense) is.number ∙ truth_sense sense t ∙ ap truth_of (sym whole);
      }

  pub not_turns : (f : CForm) (k : FormKnown) (truth : Option Bool) → IsFormKnown p f k →
      truth ≡ option_map not k.truth →
      IsFormTurn p (not_form f) (record { node = FormNode.Not k.id; truth = truth })
  not_turns f k truth is e =
      let whole : Not (form_or p.forms k.id.place) ≡ Not f = ap Not (read p.forms k.id.place f Top is.tree) in
      record {
        parts = slice_get_within p.forms k.id.place f is.tree;
        tree = ap folded_form whole;
        truth = e ∙ ap (option_map not) is.truth ∙ truth_not f ∙ ap truth_of (sym whole);
      }

  pub joined_turns : (joining : Joining) (f g : CForm) (k l : FormKnown) (turn : FormTurn) → IsFormKnown p f k →
      IsFormKnown p g l →
      form_of_node p.forms p.terms turn.node ≡ joined_node joining (form_or p.forms k.id.place) (form_or p.forms
      l.id.place)
      →
      (k.id.place < length p.forms → l.id.place < length p.forms →
      IsFormWithin (length p.forms) (length p.terms) turn.node) →
      turn.truth ≡ joined_truth joining k.truth l.truth → IsFormTurn p (joined_form joining f g) turn
  joined_turns joining f g k l turn is its node parts truth =
      let first = read p.forms k.id.place f Top is.tree in
      let second = read p.forms l.id.place g Top its.tree in
      let whole : form_of_node p.forms p.terms turn.node ≡ joined_node joining f g =
      node ∙ (λ i. joined_node joining (first i) (second i)) in
      record {
        parts = parts (slice_get_within p.forms k.id.place f is.tree) (slice_get_within p.forms l.id.place g its.tree);
        tree = ap folded_form whole;
        truth = truth ∙ (λ i. joined_truth joining (is.truth i) (its.truth i)) ∙ truth_joined joining f g
            ∙ ap truth_of (sym whole);
      }

  pub truth_turns : (turn : FormTurn) → ((turn.node ≡ FormNode.Top) × (turn.truth ≡ Some true)) →
      IsFormTurn p Top turn
  truth_turns turn e =
      let whole : form_of_node p.forms p.terms turn.node ≡ Top = ap (form_of_node p.forms p.terms) e.0 in
      record {
        parts = subst (IsFormWithin (length p.forms) (length p.terms)) (sym e.0) tt;
        tree = ap folded_form whole ∙ ap (λ m. truth_or m Top) truth_top;
        truth = e.1 ∙ sym truth_top ∙ ap truth_of (sym whole);
      }

  pub untruth_turns : (turn : FormTurn) → ((turn.node ≡ FormNode.Bottom) × (turn.truth ≡ Some false)) →
      IsFormTurn p Bottom turn
  untruth_turns turn e =
      let whole : form_of_node p.forms p.terms turn.node ≡ Bottom = ap (form_of_node p.forms p.terms) e.0 in
      record {
        parts = subst (IsFormWithin (length p.forms) (length p.terms)) (sym e.0) tt;
        tree = ap folded_form whole ∙ ap (λ m. truth_or m Bottom) truth_bottom;
        truth = e.1 ∙ sym truth_bottom ∙ ap truth_of (sym whole);
      }

  pub pair_turns : (which : Pairing) (a b : CTerm) (k l : TermKnown) (node : TermNode) (number : Option ℤ) →
      IsTermKnown p a k → IsTermKnown p b l →
      term_of_node p.forms p.terms node ≡ pair_node which (term_or p.terms k.id.place) (term_or p.terms l.id.place) →
      (k.id.place < length p.terms → l.id.place < length p.terms →
      IsTermWithin (length p.forms) (length p.terms) node) →
      number ≡ pair_number which k.number l.number → IsNodeTurn p (paired_term which a b) node number
  pair_turns which a b k l node number is its made parts e =
      let first = read p.terms k.id.place a (Const (pos 0)) is.tree in
      let second = read p.terms l.id.place b (Const (pos 0)) its.tree in
      let whole : term_of_node p.forms p.terms node ≡ pair_node which a b =
      made ∙ (λ i. pair_node which (first i) (second i)) in
      record {
        parts = parts (slice_get_within p.terms k.id.place a is.tree) (slice_get_within p.terms l.id.place b its.tree);
        tree = ap folded_term whole;
        number = e ∙ (λ i. pair_number which (is.number i) (its.number i)) ∙ number_pair which a b
            ∙ ap number_of (sym whole);
      }

  pub multiple_turns : (m : ℤ) (a : CTerm) (k : TermKnown) (number : Option ℤ) → IsTermKnown p a k →
      number ≡ option_map (λ x. m *ℤ x) k.number → IsNodeTurn p (scaled_term m a) (TermNode.Scale m k.id) number
  multiple_turns m a k number is e =
      let whole : Scale m (term_or p.terms k.id.place) ≡ Scale m a =
      ap (Scale m) (read p.terms k.id.place a (Const (pos 0)) is.tree) in
      record {
        parts = slice_get_within p.terms k.id.place a is.tree;
        tree = ap folded_term whole;
        number = e ∙ ap (option_map (λ x. m *ℤ x)) is.number ∙ number_scaled m a ∙ ap number_of (sym whole);
      }

  pub divided_turns : (which : Dividing) (m : ℤ) (a : CTerm) (k : TermKnown) (node : TermNode) (number : Option ℤ) →
      IsTermKnown p a k → term_of_node p.forms p.terms node ≡ divided_node which (term_or p.terms k.id.place) m →
      (k.id.place < length p.terms → IsTermWithin (length p.forms) (length p.terms) node) →
      number ≡ divided_number which k.number m → IsNodeTurn p (divided_term which m a) node number
  divided_turns which m a k node number is made parts e =
      let whole : term_of_node p.forms p.terms node ≡ divided_node which a m =
      made ∙ ap (λ t. divided_node which t m) (read p.terms k.id.place a (Const (pos 0)) is.tree) in
      record {
        parts = parts (slice_get_within p.terms k.id.place a is.tree);
        tree = ap folded_term whole;
        number = e ∙ ap (λ n. divided_number which n m) is.number ∙ number_divided which a m
            ∙ ap number_of (sym whole);
      }

  -- a choice whose condition is open is a node that folding leaves as it is

  pub choice_turns : (c : CForm) (a b : CTerm) (m : FormKnown) (k l : TermKnown) → IsFormKnown p c m →
      m.truth ≡ None → IsTermKnown p a k → IsTermKnown p b l →
      IsNodeTurn p (choice_term c a b) (TermNode.Ite m.id k.id l.id) None
  choice_turns c a b m k l is e its others =
      let unknown : truth_of c ≡ None = sym is.truth ∙ e in
      let condition = read p.forms m.id.place c Top is.tree in
      let first = read p.terms k.id.place a (Const (pos 0)) its.tree in
      let second = read p.terms l.id.place b (Const (pos 0)) others.tree in
      let whole : Ite (form_or p.forms m.id.place) (term_or p.terms k.id.place) (term_or p.terms l.id.place) ≡ Ite c
      a b =
      λ i. Ite (condition i) (first i) (second i) in
      let none = number_choice c a b unknown in
      record {
        parts = (
          slice_get_within p.forms m.id.place c is.tree,
          slice_get_within p.terms k.id.place a its.tree,
          slice_get_within p.terms l.id.place b others.tree,
        );
        tree = ap folded_term whole ∙ ap (λ x. constant_or x (Ite c a b)) none
            ∙ ap (λ x. branch_or x a b (Ite c a b)) (sym unknown);
        number = sym none ∙ ap number_of (sym whole);
      }

  pub constant_turns : (c : ℤ) → IsNodeTurn p (Const c) (TermNode.Const c) (Some c)
  constant_turns c = record {
    parts = tt;
    tree = ap (λ m. constant_or m (Const c)) (number_constant c) ∙ either (is_small c) (Const c);
    number = sym (number_constant c);
  }
    where
      either : (b : Bool) (t : CTerm) → cond b t t ≡ t
      either true t = refl
      either false t = refl

  pub param_turns : (n : ℕ) → IsNodeTurn p (Param n) (TermNode.Param n) None
  param_turns n = record {
    parts = tt;
    tree = ap (λ m. constant_or m (Param n)) (number_param n);
    number = sym (number_param n);
  }

-- what a choice is, by the truth of its condition
pub choice_is : (c : CForm) (a b : CTerm) (m : Option Bool) → truth_of c ≡ m →
    choice_term c a b ≡ branch_or m a b (Ite c a b)
choice_is c a b m e = ap (λ x. branch_or x a b (Ite c a b)) e

-- what is put into a pool

pub form_put : (p q : Pooled) (f : CForm) (turn : FormTurn) (node : FormNode) (k : FormKnown) → IsFormTurn p f turn →
    form_of_node p.forms p.terms node ≡ truth_or turn.truth (form_of_node p.forms p.terms turn.node) →
    slice_get q.forms k.id.place ≡ Some (form_of_node p.forms p.terms node) → k.truth ≡ turn.truth → IsFormKnown q f k
form_put p q f turn node k is made there e =
    let whole = form_of_node p.forms p.terms turn.node in
    let same : form_of_node p.forms p.terms node ≡ f = made ∙ ap (λ m. truth_or m whole) is.truth ∙ is.tree in
    record {
      tree = there ∙ ap (λ x. Some x) same;
      truth = e ∙ is.truth ∙ sym (known_folded_form whole) ∙ ap truth_of is.tree;
    }

pub term_put : (p q : Pooled) (t : CTerm) (node folded : TermNode) (number : Option ℤ) (k : TermKnown) →
    IsNodeTurn p t node number →
    term_of_node p.forms p.terms folded ≡ constant_or number (term_of_node p.forms p.terms node) →
    slice_get q.terms k.id.place ≡ Some (term_of_node p.forms p.terms folded) → k.number ≡ number → IsTermKnown q t k
term_put p q t node folded number k is made there e =
    let whole = term_of_node p.forms p.terms node in
    let same : term_of_node p.forms p.terms folded ≡ t = made ∙ ap (λ m. constant_or m whole) is.number ∙ is.tree in
    record {
      tree = there ∙ ap (λ x. Some x) same;
      number = e ∙ is.number ∙ sym (known_folded_term whole) ∙ ap number_of is.tree;
    }

-- that two formulas of a pool hold
pub both_put : (p q : Pooled) (f g : CForm) (k l : FormKnown) (node : FormNode) (truth : Option Bool) (i : ℕ) →
    IsFormKnown p f k → IsFormKnown p g l → truth ≡ joined_truth Joining.Both k.truth l.truth →
    form_of_node p.forms p.terms node ≡ truth_or truth (form_of_node p.forms p.terms (FormNode.And k.id l.id)) →
    slice_get q.forms i ≡ Some (form_of_node p.forms p.terms node) → slice_get q.forms i ≡ Some (and_form f g)
both_put p q f g k l node truth i is its e made there =
    let told : truth ≡ truth_of (And f g) =
    e ∙ (λ j. joined_truth Joining.Both (is.truth j) (its.truth j)) ∙ truth_joined Joining.Both f g in
    let first = read p.forms k.id.place f Top is.tree in
    let second = read p.forms l.id.place g Top its.tree in
    let whole : And (form_or p.forms k.id.place) (form_or p.forms l.id.place) ≡ And f g =
    λ j. And (first j) (second j) in
    there ∙ ap (λ x. Some x) (made ∙ (λ j. truth_or (told j) (whole j)))

-- trees with their slots replaced, node by node

module _ (chains : BTreeMap ℕ Chain) where
  pub form_turned : (p : Pooled) (i : ℕ) (f g : CForm) → form_or p.forms i ≡ f → form_by chains f ≡ g →
      g ≡ form_by chains (form_or p.forms i)
  form_turned p i f g tree e = sym (ap (form_by chains) tree ∙ e)

  pub term_turned : (p : Pooled) (i : ℕ) (t u : CTerm) → term_or p.terms i ≡ t → term_by chains t ≡ u →
      u ≡ term_by chains (term_or p.terms i)
  term_turned p i t u tree e = sym (ap (term_by chains) tree ∙ e)

  pub by-Top : form_by chains Top ≡ Top
  by-Top = fold_form_is (replace_steps (chain_at chains) (λ n. Param n)) _ _ form.rolls-Top

  pub by-Bottom : form_by chains Bottom ≡ Bottom
  by-Bottom = fold_form_is (replace_steps (chain_at chains) (λ n. Param n)) _ _ form.rolls-Bottom

  pub by-AtLeast : (t : CTerm) → form_by chains (AtLeast t) ≡ sense_form Sense.AtLeast (term_by chains t)
  by-AtLeast t = fold_form_is (replace_steps (chain_at chains) (λ n. Param n)) _ _ (form.rolls-AtLeast t)

  pub by-Zero : (t : CTerm) → form_by chains (Zero t) ≡ sense_form Sense.Zero (term_by chains t)
  by-Zero t = fold_form_is (replace_steps (chain_at chains) (λ n. Param n)) _ _ (form.rolls-Zero t)

  pub by-Not : (f : CForm) → form_by chains (Not f) ≡ not_form (form_by chains f)
  by-Not f = fold_form_is (replace_steps (chain_at chains) (λ n. Param n)) _ _ (form.rolls-Not f)

  pub by-And : (f g : CForm) → form_by chains (And f g) ≡ joined_form Joining.Both (form_by chains f) (form_by chains g)
  by-And f g = fold_form_is (replace_steps (chain_at chains) (λ n. Param n)) _ _ (form.rolls-And f g)

  pub by-Or : (f g : CForm) → form_by chains (Or f g) ≡ joined_form Joining.Either (form_by chains f) (form_by chains g)
  by-Or f g = fold_form_is (replace_steps (chain_at chains) (λ n. Param n)) _ _ (form.rolls-Or f g)

  pub by-Const : (c : ℤ) → term_by chains (Const c) ≡ Const c
  by-Const c = fold_term_is (replace_steps (chain_at chains) (λ n. Param n)) _ _ (term.rolls-Const c)

  pub by-Slot : (n : ℕ) → term_by chains (Slot n) ≡ chain_at chains n
  by-Slot n = fold_term_is (replace_steps (chain_at chains) (λ n. Param n)) _ _ (term.rolls-Slot n)

  pub by-Param : (n : ℕ) → term_by chains (Param n) ≡ Param n
  by-Param n = fold_term_is (replace_steps (chain_at chains) (λ n. Param n)) _ _ (term.rolls-Param n)

  pub by-Add : (a b : CTerm) → term_by chains (Add a b) ≡ paired_term Pairing.Sum (term_by chains a) (term_by chains b)
  by-Add a b = fold_term_is (replace_steps (chain_at chains) (λ n. Param n)) _ _ (term.rolls-Add a b)

  pub by-Sub : (a b : CTerm) → term_by chains (Sub a b) ≡
      paired_term Pairing.Difference (term_by chains a) (term_by chains b)
  by-Sub a b = fold_term_is (replace_steps (chain_at chains) (λ n. Param n)) _ _ (term.rolls-Sub a b)

  pub by-Scale : (k : ℤ) (a : CTerm) → term_by chains (Scale k a) ≡ scaled_term k (term_by chains a)
  by-Scale k a = fold_term_is (replace_steps (chain_at chains) (λ n. Param n)) _ _ (term.rolls-Scale k a)

  pub by-Div : (a : CTerm) (k : ℤ) → term_by chains (Div a k) ≡ divided_term Dividing.Quotient k (term_by chains a)
  by-Div a k = fold_term_is (replace_steps (chain_at chains) (λ n. Param n)) _ _ (term.rolls-Div a k)

  pub by-Mod : (a : CTerm) (k : ℤ) → term_by chains (Mod a k) ≡ divided_term Dividing.Remainder k (term_by chains a)
  by-Mod a k = fold_term_is (replace_steps (chain_at chains) (λ n. Param n)) _ _ (term.rolls-Mod a k)

  pub by-Ite : (c : CForm) (a b : CTerm) → term_by chains (Ite c a b) ≡
      choice_term (form_by chains c) (term_by chains a) (term_by chains b)
  by-Ite c a b = fold_term_is (replace_steps (chain_at chains) (λ n. Param n)) _ _ (term.rolls-Ite c a b)

-- parts weigh no more than the whole

weighs-AtLeast : (t : CTerm) → after_weight (AtLeast t) ≡ (after_weights t).most
weighs-AtLeast t = fold_form_is (weight_steps chain_weight one_weight) _ _ (form.rolls-AtLeast t)

weighs-Zero : (t : CTerm) → after_weight (Zero t) ≡ (after_weights t).most
weighs-Zero t = fold_form_is (weight_steps chain_weight one_weight) _ _ (form.rolls-Zero t)

weighs-Not : (f : CForm) → after_weight (Not f) ≡ after_weight f
weighs-Not f = fold_form_is (weight_steps chain_weight one_weight) _ _ (form.rolls-Not f)

weighs-And : (f g : CForm) → after_weight (And f g) ≡ max (after_weight f) (after_weight g)
weighs-And f g = fold_form_is (weight_steps chain_weight one_weight) _ _ (form.rolls-And f g)

weighs-Or : (f g : CForm) → after_weight (Or f g) ≡ max (after_weight f) (after_weight g)
weighs-Or f g = fold_form_is (weight_steps chain_weight one_weight) _ _ (form.rolls-Or f g)

weighs-Add : (a b : CTerm) → after_weights (Add a b) ≡ sum_weights (after_weights a) (after_weights b)
weighs-Add a b = fold_term_is (weight_steps chain_weight one_weight) _ _ (term.rolls-Add a b)

weighs-Sub : (a b : CTerm) → after_weights (Sub a b) ≡ sum_weights (after_weights a) (after_weights b)
weighs-Sub a b = fold_term_is (weight_steps chain_weight one_weight) _ _ (term.rolls-Sub a b)

weighs-Scale : (k : ℤ) (a : CTerm) → after_weights (Scale k a) ≡ multiple_weights k (after_weights a)
weighs-Scale k a = fold_term_is (weight_steps chain_weight one_weight) _ _ (term.rolls-Scale k a)

weighs-Div : (a : CTerm) (k : ℤ) → after_weights (Div a k) ≡ quotient_weights k (after_weights a)
weighs-Div a k = fold_term_is (weight_steps chain_weight one_weight) _ _ (term.rolls-Div a k)

weighs-Mod : (a : CTerm) (k : ℤ) → after_weights (Mod a k) ≡ remainder_weights k (after_weights a)
weighs-Mod a k = fold_term_is (weight_steps chain_weight one_weight) _ _ (term.rolls-Mod a k)

weighs-Ite : (c : CForm) (a b : CTerm) → after_weights (Ite c a b) ≡
    choice_weights (after_weight c) (after_weights a) (after_weights b)
weighs-Ite c a b = fold_term_is (weight_steps chain_weight one_weight) _ _ (term.rolls-Ite c a b)

most_is : (v w : Weights) → v ≡ w → v.most ≡ w.most
most_is v w e = ap (λ (x : Weights). x.most) e

module _ (p : Pooled) (mark : Mark) where
  form_parts_of : (k : FormNode) → IsFormWithin mark.forms mark.terms k →
      after_weight (form_of_node p.forms p.terms k) ≤ 2 ^ 124 → AreFormParts p mark k
  form_parts_of FormNode.Top w h = tt
  form_parts_of FormNode.Bottom w h = tt
  form_parts_of (FormNode.AtLeast t) w h =
      record { place = w; weight = omega (arith, weighs-AtLeast (term_or p.terms t.place), h) }
  form_parts_of (FormNode.Zero t) w h =
      record { place = w; weight = omega (arith, weighs-Zero (term_or p.terms t.place), h) }
  form_parts_of (FormNode.Not f) w h =
      record { place = w; weight = omega (arith, weighs-Not (form_or p.forms f.place), h) }
  form_parts_of (FormNode.And f g) w h =
      let e = weighs-And (form_or p.forms f.place) (form_or p.forms g.place) in
      (record { place = w.0; weight = omega (arith, e, h) }, record { place = w.1; weight = omega (arith, e, h) })
  form_parts_of (FormNode.Or f g) w h =
      let e = weighs-Or (form_or p.forms f.place) (form_or p.forms g.place) in
      (record { place = w.0; weight = omega (arith, e, h) }, record { place = w.1; weight = omega (arith, e, h) })

  pub form_parts : (i : ℕ) (k : FormNode) → IsFormWithin mark.forms mark.terms k →
      form_or p.forms i ≡ form_of_node p.forms p.terms k → IsFormPart p mark i → AreFormParts p mark k
  form_parts i k w e h = form_parts_of k w (subst (λ f. after_weight f ≤ 2 ^ 124) e h.weight)

  term_parts_of : (k : TermNode) → IsTermWithin mark.forms mark.terms k →
      (after_weights (term_of_node p.forms p.terms k)).most ≤ 2 ^ 124 → AreTermParts p mark k
  term_parts_of (TermNode.Const c) w h = tt
  term_parts_of (TermNode.Slot n) w h = tt
  term_parts_of (TermNode.Param n) w h = tt
  term_parts_of (TermNode.Add a b) w h =
      let e = most_is _ _ (weighs-Add (term_or p.terms a.place) (term_or p.terms b.place)) in
      (record { place = w.0; weight = omega (arith, e, h) }, record { place = w.1; weight = omega (arith, e, h) })
  term_parts_of (TermNode.Sub a b) w h =
      let e = most_is _ _ (weighs-Sub (term_or p.terms a.place) (term_or p.terms b.place)) in
      (record { place = w.0; weight = omega (arith, e, h) }, record { place = w.1; weight = omega (arith, e, h) })
  term_parts_of (TermNode.Scale k a) w h =
      let e = most_is _ _ (weighs-Scale k (term_or p.terms a.place)) in
      (record { place = w; weight = omega (arith, e, h) }, omega (arith, e, h))
  term_parts_of (TermNode.Div a k) w h =
      let e = most_is _ _ (weighs-Div (term_or p.terms a.place) k) in
      record { place = w; weight = omega (arith, e, h) }
  term_parts_of (TermNode.Mod a k) w h =
      let e = most_is _ _ (weighs-Mod (term_or p.terms a.place) k) in
      record { place = w; weight = omega (arith, e, h) }
  term_parts_of (TermNode.Ite c a b) w h =
      let e =
      most_is _ _ (weighs-Ite (form_or p.forms c.place) (term_or p.terms a.place) (term_or p.terms b.place)) in (
        record { place = w.0; weight = omega (arith, e, h) },
        (record { place = w.1; weight = omega (arith, e, h) }, record { place = w.2; weight = omega (arith, e, h) }),
      )

  pub term_parts : (i : ℕ) (k : TermNode) → IsTermWithin mark.forms mark.terms k →
      term_or p.terms i ≡ term_of_node p.forms p.terms k → IsTermPart p mark i → AreTermParts p mark k
  term_parts i k w e h = term_parts_of k w (subst (λ t. (after_weights t).most ≤ 2 ^ 124) e h.weight)
