-- Where a token leads on, the tokens that may follow there may also follow behind the token.
use Rattle.std.proofs.Common.{◌≡◌, ℕ, zero, suc, ◌+◌, Bool, true, false, eqb, eqb-true, List, [], ◌∷◌, ◌++◌, map, refl}
use Rattle.std.proofs.Common.{sym, ap, ◌∙◌, subst, append_assoc, add-one, add-zero, ℤ}
use Rattle.case_tables.specs.declared.word_table.Word.{Word}
use Rattle.case_tables.specs.declared.symbol_table.Symbol.{Symbol}
use Rattle.grammar_theory.specs.Ebnf.{Terminal, place_of, Tree, unit, numeral, pair, none, some, nil, more, left, right}
use Rattle.grammar_theory.specs.Ebnf.{node, Ebnf, both, many, prefix_trees, fixed}
use Rattle.grammar_theory.specs.Ebnf.{Derives, is_token, is_valued, is_both, is_left, is_right, is_none, is_some}
use Rattle.grammar_theory.specs.Ebnf.{is_nil, is_more, is_no_number, is_next_number, is_no_tree, is_next_node, is_named}
use Rattle.grammar_theory.proofs.Classes.{has_itself, has_one}
use Rattle.grammar_theory.proofs.Parts.{SomeTree}
use Rattle.unity_syntax.specs.Classes.{number_class, reserved, symbol}
use Rattle.unity_syntax.specs.Kinds.{Kind, kind}
use Rattle.unity_syntax.specs.Grammar.{grammar, chosen, first, second, past, up_to, ◌or◌, made, minus_, number_}
use Rattle.unity_syntax.specs.Grammar.{multiple_, node_, certificate_, subtrees}
use Rattle.unity_syntax.proofs.Productions.{all_productions}
use Rattle.certificate_events.specs.declared.signs.Sign.{Sign}
use Rattle.certificate_events.specs.declared.places.Plain.{Plain}
use Rattle.certificate_events.specs.declared.places.Signed.{Signed}
use Rattle.certificate_events.specs.declared.places.Stage.{Stage}
use Rattle.certificate_events.specs.declared.places.Place.{Place}
use Rattle.certificate_events.specs.Events.{number_of}
use Rattle.certificate_events.specs.Steps.{Step, step, step_at, begun, nodes, plain_read, signed_read, reach}
use Rattle.certificate_events.proofs.SignLaws.{sign_on, class_for, is_other, class_is, number_is}
use Rattle.certificate_events.proofs.Forms.{tail, trees, pairs, second as pair_rest, after, behind, rest_form}

-- Making derivations.

pub one_token : (c : ℕ) (t : Terminal) → t.class ≡ c → Derives grammar (fixed c) unit (t ∷ [])
one_token c t h = is_token {classes = c ∷ []} {keep = λ t. unit} {t = t} (has_itself c t.class h)

pub one_number : (t : Terminal) → t.class ≡ number_class → Derives grammar number_ (numeral t.value) (t ∷ [])
one_number t h = is_token {classes = number_class ∷ []} {keep = λ t. numeral t.value} {t = t}
    (has_itself number_class t.class h)

this_way : {a b : Ebnf} {x : Tree} {ts : List Terminal} → Derives grammar a x ts → Derives grammar (a or b) x ts
this_way {x = x} d = is_named {action = chosen} {x = left x} (is_left d) refl

that_way : {a b : Ebnf} {x : Tree} {ts : List Terminal} → Derives grammar b x ts → Derives grammar (a or b) x ts
that_way {x = x} d = is_named {action = chosen} {x = right x} (is_right d) refl

made_as : (k : Kind) {a : Ebnf} {x : Tree} {ts : List Terminal} → Derives grammar a x ts →
    Derives grammar (made k a) (node (kind k) (place_of ts) x) ts
made_as k d = is_named {action = node (kind k)} d refl

past_token : (c : ℕ) (t : Terminal) → t.class ≡ c → {a : Ebnf} {x : Tree} {ts : List Terminal} →
    Derives grammar a x ts → Derives grammar (past c a) x (t ∷ ts)
past_token c t h {x = x} d = is_named {action = second} {x = pair unit x} (is_both (one_token c t h) d refl) refl

up_to_token : (c : ℕ) (t : Terminal) → t.class ≡ c → {a : Ebnf} {x : Tree} {ts : List Terminal} →
    Derives grammar a x ts → Derives grammar (up_to a c) x (ts ++ t ∷ [])
up_to_token c t h {x = x} d = is_named {action = first} {x = pair x unit} (is_both d (one_token c t h) refl) refl

-- Taking derivations apart.

pub record Joined (a b : Ebnf) (z : Tree) (ts : List Terminal) : Type 0 where
  pub one : Tree
  pub other : Tree
  pub front : List Terminal
  pub more : List Terminal
  pub earlier : Derives grammar a one front
  pub later : Derives grammar b other more
  pub split : ts ≡ front ++ more
  pub is : pair one other ≡ z

pub of_both : {a b : Ebnf} {z : Tree} {ts : List Terminal} → Derives grammar (both a b) z ts → Joined a b z ts
of_both (is_both {x = x} {y = y} {us = us} {vs = vs} d1 d2 q) = record {
  one = x;
  other = y;
  front = us;
  more = vs;
  earlier = d1;
  later = d2;
  split = q;
  is = refl;
}

pub of_fixed : {c : ℕ} {z : Tree} {ts : List Terminal} → Derives grammar (fixed c) z ts →
    (t : Terminal) × (t.class ≡ c) × (ts ≡ t ∷ [])
of_fixed {c = c} (is_token {t = t} h) = (t, has_one c t.class h, refl)

pub of_number : {z : Tree} {ts : List Terminal} → Derives grammar number_ z ts →
    (t : Terminal) × (t.class ≡ number_class) × (ts ≡ t ∷ []) × (numeral t.value ≡ z)
of_number (is_token {t = t} h) = (t, has_one number_class t.class h, refl, refl)

-- A form behind a token, a node or a pair.

-- a token, and what follows it
pub put : {R : Ebnf} {us : List Terminal} (c : ℕ) (t : Terminal) → t.class ≡ c → SomeTree grammar R us →
    SomeTree grammar (both (fixed c) R) (t ∷ us)
put c t h s = record { tree = pair unit s.tree; derives = is_both (one_token c t h) s.derives refl }

pub put_number : {R : Ebnf} {us : List Terminal} (t : Terminal) → t.class ≡ number_class → SomeTree grammar R us →
    SomeTree grammar (both number_ R) (t ∷ us)
put_number t h s = record { tree = pair (numeral t.value) s.tree; derives = is_both (one_number t h) s.derives refl }

put_minus : {R : Ebnf} {us : List Terminal} (t : Terminal) → t.class ≡ symbol Symbol.Minus → SomeTree grammar R us →
    SomeTree grammar (both minus_ R) (t ∷ us)
put_minus t h s = record {
  tree = pair (some unit) s.tree;
  derives = is_both (is_some (one_token (symbol Symbol.Minus) t h)) s.derives refl;
}

pub put_no_minus : {R : Ebnf} {us : List Terminal} → SomeTree grammar R us → SomeTree grammar (both minus_ R) us
put_no_minus s = record { tree = pair none s.tree; derives = is_both is_none s.derives refl }

pub put_no_pair : {m k : ℕ} {us : List Terminal} → SomeTree grammar (trees m k) us → SomeTree grammar (pairs m k) us
put_no_pair s = record { tree = pair nil s.tree; derives = is_both is_nil s.derives refl }

-- a node before the trees that it makes missing
put_node : (m n k : ℕ) {x : Tree} (ws vs : List Terminal) → Derives grammar node_ x ws → n ≡ m + subtrees x →
    SomeTree grammar (trees n k) vs → SomeTree grammar (trees (suc m) k) (ws ++ vs)
put_node m n k {x = x} ws vs d e s =
    let j = of_both (subst (λ n. Derives grammar (trees n k) s.tree vs) e s.derives) in record {
      tree = pair (more x j.one) j.other;
      derives = is_both (is_next_node d j.earlier refl) j.later
          (ap (λ v. ws ++ v) j.split ∙ sym (append_assoc ws j.front j.more));
    }

-- a pair before others
put_pair : (m k : ℕ) {x : Tree} (ws vs : List Terminal) → Derives grammar multiple_ x ws →
    SomeTree grammar (pairs m k) vs → SomeTree grammar (pairs m k) (ws ++ vs)
put_pair m k {x = x} ws vs d s =
    let j = of_both s.derives in record {
      tree = pair (more x j.one) j.other;
      derives = is_both (is_more d j.earlier refl) j.later
          (ap (λ v. ws ++ v) j.split ∙ sym (append_assoc ws j.front j.more));
    }

-- the rest of a node that has a number, and what follows it
record Numbered (R : Ebnf) (us : List Terminal) : Type 0 where
  at : Terminal
  class : at.class ≡ number_class
  rest : List Terminal
  split : us ≡ at ∷ rest
  follows : SomeTree grammar R rest

of_numbered : {R : Ebnf} {us : List Terminal} → SomeTree grammar (both number_ R) us → Numbered R us
of_numbered s =
    let j = of_both s.derives in
    let n = of_number j.earlier in record {
      at = n.0;
      class = n.1;
      rest = j.more;
      split = j.split ∙ ap (λ v. v ++ j.more) n.2;
      follows = record { tree = j.other; derives = j.later };
    }

-- a number with a sign
record Signs (R : Ebnf) (us : List Terminal) : Type 0 where
  flag : Tree
  value : Tree
  taken : List Terminal
  rest : List Terminal
  derives : Derives grammar (both minus_ number_) (pair flag value) taken
  split : us ≡ taken ++ rest
  follows : SomeTree grammar R rest

of_signed : {R : Ebnf} {us : List Terminal} → SomeTree grammar (both minus_ (both number_ R)) us → Signs R us
of_signed s =
    let j = of_both s.derives in
    let l = of_both j.later in record {
      flag = j.one;
      value = l.one;
      taken = j.front ++ l.front;
      rest = l.more;
      derives = is_both j.earlier l.earlier refl;
      split = j.split ∙ ap (λ v. j.front ++ v) l.split ∙ sym (append_assoc j.front l.front l.more);
      follows = record { tree = l.other; derives = l.later };
    }

-- a number with a sign and the pairs behind it
record WithPairs (R : Ebnf) (us : List Terminal) : Type 0 where
  tree : Tree
  taken : List Terminal
  rest : List Terminal
  derives : Derives grammar (both minus_ (both number_ (many multiple_))) tree taken
  split : us ≡ taken ++ rest
  follows : SomeTree grammar R rest

of_with_pairs : {R : Ebnf} {us : List Terminal} →
    SomeTree grammar (both minus_ (both number_ (both (many multiple_) R))) us → WithPairs R us
of_with_pairs s =
    let j = of_both s.derives in
    let l = of_both j.later in
    let p = of_both l.later in record {
      tree = pair j.one (pair l.one p.one);
      taken = j.front ++ (l.front ++ p.front);
      rest = p.more;
      derives = is_both j.earlier (is_both l.earlier p.earlier refl) refl;
      split = j.split ∙ ap (λ v. j.front ++ v) (l.split ∙ ap (λ v. l.front ++ v) p.split
          ∙ sym (append_assoc l.front p.front p.more)) ∙ sym (append_assoc j.front (l.front ++ p.front) p.more);
      follows = record { tree = p.other; derives = p.later };
    }

-- A node from its word and what follows it.

module _ (m k : ℕ) (t : Terminal) (us : List Terminal) where
  turned : {a b : ℕ} (ws vs : List Terminal) → us ≡ ws ++ vs → SomeTree grammar (trees a b) (t ∷ (ws ++ vs)) →
      SomeTree grammar (trees a b) (t ∷ us)
  turned {a = a} {b = b} ws vs e s = subst (λ v. SomeTree grammar (trees a b) (t ∷ v)) (sym e) s

  back_case : t.class ≡ reserved Word.Case → SomeTree grammar (both number_ (trees (m + 2) k)) us →
      SomeTree grammar (trees (suc m) k) (t ∷ us)
  unfolding all_productions
  back_case h s =
      let n = of_numbered s in
      turned (n.at ∷ []) n.rest n.split (put_node m (m + 2) k (t ∷ n.at ∷ []) n.rest
      (this_way (made_as Kind.node_case (past_token (reserved Word.Case) t h (one_number n.at n.class))))
      refl n.follows)

  back_quot : t.class ≡ reserved Word.Quot → SomeTree grammar (both number_ (trees (m + 1) k)) us →
      SomeTree grammar (trees (suc m) k) (t ∷ us)
  unfolding all_productions
  back_quot h s =
      let n = of_numbered s in
      turned (n.at ∷ []) n.rest n.split (put_node m (m + 1) k (t ∷ n.at ∷ []) n.rest
      (that_way (that_way (that_way (that_way (this_way
      (made_as Kind.node_quot (past_token (reserved Word.Quot) t h (one_number n.at n.class)))))))) refl n.follows)

  back_split : t.class ≡ reserved Word.Split →
      SomeTree grammar (both number_ (both minus_ (both number_ (trees (m + 2) k)))) us →
      SomeTree grammar (trees (suc m) k) (t ∷ us)
  unfolding all_productions
  back_split h s =
      let n = of_numbered s in
      let i = of_signed n.follows in
      turned (n.at ∷ i.taken) i.rest (n.split ∙ ap (λ v. n.at ∷ v) i.split)
      (put_node m (m + 2) k (t ∷ n.at ∷ i.taken) i.rest
      (that_way (this_way (made_as Kind.node_split (past_token (reserved Word.Split) t h
      (is_both (one_number n.at n.class) i.derives refl))))) refl i.follows)

  pub back_sum : t.class ≡ reserved Word.Sum → SomeTree grammar (pairs m k) us →
      SomeTree grammar (trees (suc m) k) (t ∷ us)
  unfolding all_productions
  back_sum h s =
      let j = of_both s.derives in
      turned j.front j.more j.split (put_node m m k (t ∷ j.front) j.more
      (that_way (that_way (this_way (made_as Kind.node_sum (past_token (reserved Word.Sum) t h j.earlier)))))
      (sym (add-zero m)) (record { tree = j.other; derives = j.later }))

  back_round : t.class ≡ reserved Word.Round → SomeTree grammar (both minus_ (both number_ (pairs (m + 1) k))) us →
      SomeTree grammar (trees (suc m) k) (t ∷ us)
  unfolding all_productions
  back_round h s =
      let j = of_with_pairs s in
      turned j.taken j.rest j.split (put_node m (m + 1) k (t ∷ j.taken) j.rest
      (that_way (that_way (that_way (this_way
      (made_as Kind.node_round (past_token (reserved Word.Round) t h j.derives)))))) refl j.follows)

  back_share : t.class ≡ reserved Word.Share → SomeTree grammar (both minus_ (both number_ (pairs (m + 2) k))) us →
      SomeTree grammar (trees (suc m) k) (t ∷ us)
  unfolding all_productions
  back_share h s =
      let j = of_with_pairs s in
      turned j.taken j.rest j.split (put_node m (m + 2) k (t ∷ j.taken) j.rest
      (that_way (that_way (that_way (that_way (that_way
      (made_as Kind.node_share (past_token (reserved Word.Share) t h j.derives))))))) refl j.follows)

  pub back_closing : t.class ≡ symbol Symbol.Semicolon → SomeTree grammar (tail k) us →
      SomeTree grammar (trees zero k) (t ∷ us)
  back_closing h s = record {
    tree = pair nil (pair unit s.tree);
    derives = is_both is_no_tree (is_both (one_token (symbol Symbol.Semicolon) t h) s.derives refl) refl;
  }

-- A pair from its first token and what follows it.

record Seconds (m k : ℕ) (us : List Terminal) : Type 0 where
  times : Terminal
  number : Terminal
  times_class : times.class ≡ symbol Symbol.Times
  number_is : number.class ≡ number_class
  rest : List Terminal
  split : us ≡ times ∷ number ∷ rest
  follows : SomeTree grammar (pairs m k) rest

of_second : (m k : ℕ) (us : List Terminal) → SomeTree grammar (pair_rest m k) us → Seconds m k us
of_second m k us s =
    let j = of_both s.derives in
    let f = of_fixed j.earlier in
    let n = of_numbered (record { tree = j.other; derives = j.later }) in record {
      times = f.0;
      number = n.at;
      times_class = f.1;
      number_is = n.class;
      rest = n.rest;
      split = j.split ∙ ap (λ v. v ++ j.more) f.2 ∙ ap (λ v. f.0 ∷ v) n.split;
      follows = n.follows;
    }

module _ (m k : ℕ) (t : Terminal) (us : List Terminal) where
  back_multiplier : t.class ≡ number_class → SomeTree grammar (pair_rest m k) us →
      SomeTree grammar (pairs m k) (t ∷ us)
  unfolding all_productions
  back_multiplier h s =
      let r = of_second m k us s in
      subst (λ v. SomeTree grammar (pairs m k) (t ∷ v)) (sym r.split)
      (put_pair m k (t ∷ r.times ∷ r.number ∷ []) r.rest
      (made_as Kind.pair (is_both is_none (is_both (one_number t h)
      (past_token (symbol Symbol.Times) r.times r.times_class (one_number r.number r.number_is)) refl) refl))
      r.follows)

  back_minus : t.class ≡ symbol Symbol.Minus → SomeTree grammar (both number_ (pair_rest m k)) us →
      SomeTree grammar (pairs m k) (t ∷ us)
  unfolding all_productions
  back_minus h s =
      let n = of_numbered s in
      let r = of_second m k n.rest n.follows in
      subst (λ v. SomeTree grammar (pairs m k) (t ∷ v)) (sym (n.split ∙ ap (λ v. n.at ∷ v) r.split))
      (put_pair m k (t ∷ n.at ∷ r.times ∷ r.number ∷ []) r.rest
      (made_as Kind.pair (is_both (is_some (one_token (symbol Symbol.Minus) t h)) (is_both (one_number n.at n.class)
      (past_token (symbol Symbol.Times) r.times r.times_class (one_number r.number r.number_is)) refl) refl))
      r.follows)

-- A certificate from its first tokens, and the section's end.

module _ (k : ℕ) (t : Terminal) (us : List Terminal) where
  pub back_colon : t.class ≡ symbol Symbol.Colon → SomeTree grammar (trees 1 k) us →
      SomeTree grammar (both certificate_ (tail k)) (t ∷ us)
  unfolding all_productions
  back_colon h s =
      let j = of_both s.derives in
      let l = of_both j.later in
      let f = of_fixed l.earlier in
      let nodes : List Terminal = j.front ++ f.0 ∷ [] in record {
        tree = pair j.one l.other;
        derives = is_both (past_token (symbol Symbol.Colon) t h
            (up_to_token (symbol Symbol.Semicolon) f.0 f.1 j.earlier)) l.later
            (ap (λ v. t ∷ v) (j.split ∙ ap (λ v. j.front ++ v) (l.split ∙ ap (λ v. v ++ l.more) f.2)
            ∙ sym (append_assoc j.front (f.0 ∷ []) l.more)));
      }

  back_begin : t.class ≡ number_class → t.value ≡ suc k → SomeTree grammar (both certificate_ (tail (suc k))) us →
      SomeTree grammar (tail k) (t ∷ us)
  back_begin h v s =
      let j = of_both s.derives in
      let l = of_both j.later in record {
        tree = pair (more (node (suc k) t.place (pair unit j.one)) l.one) l.other;
        derives = is_both (is_next_number (is_named {action = node (suc k)}
            (is_both (is_valued h v) j.earlier refl) refl)
            l.earlier refl) l.later
            (ap (λ v. t ∷ v) (j.split ∙ ap (λ v. j.front ++ v) l.split ∙ sym (append_assoc j.front l.front l.more)));
      }

  pub back_end : t.class ≡ reserved Word.End → SomeTree grammar (prefix_trees zero subtrees node_) us →
      SomeTree grammar (tail k) (t ∷ us)
  back_end h s = record {
    tree = pair nil unit;
    derives = is_both is_no_number (one_token (reserved Word.End) t h) (ap (λ v. t ∷ v) (none_left s.derives));
  }
    where
      none_left : {x : Tree} {ts : List Terminal} → Derives grammar (prefix_trees zero subtrees node_) x ts → ts ≡ []
      none_left is_no_tree = refl

-- All places.

abbrev pub is_bad : Stage → Bool
is_bad Stage.Bad = true
is_bad st = false

refuted : {A : Type 0} → true ≡ false → A
refuted h = cc

abbrev pub at_stage : Stage → ℕ → ℕ → Place
at_stage st m k = record { stage = st; missing = m; number = k }

-- the token that says this, where the step that it makes is not bad, stands before what follows
abbrev Goes : Place → Step → Sign → Terminal → List Terminal → Type 0
Goes p q s t us = sign_on t ≡ s → is_bad q.0.stage ≡ false → SomeTree grammar (rest_form q.0) us →
    SomeTree grammar (rest_form p) (t ∷ us)

module _ (t : Terminal) (us : List Terminal) where
  class_said : (s : Sign) → is_other s ≡ false → sign_on t ≡ s → t.class ≡ class_for s
  class_said s other h = class_is t.class t.value s other h

  number_said : (n : ℕ) → sign_on t ≡ Sign.Number n → t.class ≡ number_class
  number_said n h = class_said (Sign.Number n) refl h

  go_nodes : (st : Stage) (m k : ℕ) (s : Sign) → sign_on t ≡ s → is_bad (nodes (at_stage st m k) s).0.stage ≡ false →
      SomeTree grammar (rest_form (nodes (at_stage st m k) s).0) us → SomeTree grammar (trees m k) (t ∷ us)
  go_nodes st zero k Sign.Semicolon h b x = back_closing 0 k t us (class_said Sign.Semicolon refl h) x
  go_nodes st zero k s h b x = refuted b
  go_nodes st (suc m) k Sign.Case h b x = back_case m k t us (class_said Sign.Case refl h) x
  go_nodes st (suc m) k Sign.Split h b x = back_split m k t us (class_said Sign.Split refl h) x
  go_nodes st (suc m) k Sign.Sum h b x = back_sum m k t us (class_said Sign.Sum refl h) x
  go_nodes st (suc m) k Sign.Round h b x = back_round m k t us (class_said Sign.Round refl h) x
  go_nodes st (suc m) k Sign.Quot h b x = back_quot m k t us (class_said Sign.Quot refl h) x
  go_nodes st (suc m) k Sign.Share h b x = back_share m k t us (class_said Sign.Share refl h) x
  go_nodes st (suc m) k s h b x = refuted b

  go_begun : (m k n : ℕ) (b : Bool) → eqb n (k + 1) ≡ b → sign_on t ≡ Sign.Number n →
      is_bad (begun (at_stage Stage.Between m k) b).0.stage ≡ false →
      SomeTree grammar (rest_form (begun (at_stage Stage.Between m k) b).0) us → SomeTree grammar (tail k) (t ∷ us)
  go_begun m k n true e h b x = back_begin k t us (number_said n h)
      (number_is t.class t.value n h ∙ eqb-true n (k + 1) e ∙ add-one k)
      (subst (λ j. SomeTree grammar (both certificate_ (tail j)) us) (add-one k) x)
  go_begun m k n false e h b x = refuted b

  go_read : (a : Signed) (m k : ℕ) (z : ℤ) (st : Stage) →
      SomeTree grammar (rest_form (signed_read (at_stage st m k) a z).0) us → SomeTree grammar (after a m k) us
  go_read (Signed.Bound v) m k z st x = x
  go_read Signed.Divisor m k z st x = x
  go_read Signed.Constant m k z st x = x
  go_read Signed.Multiplier m k z st x = x

  go_plain : (a : Plain) (m k n : ℕ) (st : Stage) →
      SomeTree grammar (rest_form (plain_read (at_stage st m k) a n).0) us → SomeTree grammar (behind a m k) us
  go_plain Plain.Case m k n st x = x
  go_plain Plain.Variable m k n st x = x
  go_plain Plain.Quot m k n st x = x
  go_plain (Plain.Fact z) m k n st x = x

  go : (st : Stage) (m k : ℕ) (s : Sign) → Goes (at_stage st m k) (step (at_stage st m k) s) s t us
  go Stage.Between m k (Sign.Number n) h b x = go_begun m k n (eqb n (k + 1)) refl h b x
  go Stage.Between m k Sign.End h b x = back_end k t us (class_said Sign.End refl h) x
  go Stage.Between m k s h b x = refuted b
  go Stage.Numbered m k Sign.Colon h b x = back_colon k t us (class_said Sign.Colon refl h) x
  go Stage.Numbered m k s h b x = refuted b
  go Stage.Nodes m k s h b x = go_nodes Stage.Nodes m k s h b x
  go Stage.Pairs m k Sign.Minus h b x = back_minus m k t us (class_said Sign.Minus refl h) x
  go Stage.Pairs m k (Sign.Number n) h b x = back_multiplier m k t us (number_said n h) x
  go Stage.Pairs m k s h b x = put_no_pair (go_nodes Stage.Pairs m k s h b x)
  go (Stage.Plain a) m k (Sign.Number n) h b x =
      put_number t (number_said n h) (go_plain a m k n (Stage.Plain a) x)
  go (Stage.Plain a) m k s h b x = refuted b
  go (Stage.Signed a) m k Sign.Minus h b x = put_minus t (class_said Sign.Minus refl h) x
  go (Stage.Signed a) m k (Sign.Number n) h b x =
      put_no_minus (put_number t (number_said n h) (go_read a m k (number_of false n) (Stage.Signed a) x))
  go (Stage.Signed a) m k s h b x = refuted b
  go (Stage.Negative a) m k (Sign.Number n) h b x =
      put_number t (number_said n h) (go_read a m k (number_of true n) (Stage.Negative a) x)
  go (Stage.Negative a) m k s h b x = refuted b
  go (Stage.Times z) m k Sign.Times h b x = put (symbol Symbol.Times) t (class_said Sign.Times refl h) x
  go (Stage.Times z) m k s h b x = refuted b
  go Stage.Done m k s h b x = refuted b
  go Stage.Bad m k s h b x = refuted b

pub back : (p : Place) (t : Terminal) (us : List Terminal) → is_bad (step p (sign_on t)).0.stage ≡ false →
    SomeTree grammar (rest_form (step p (sign_on t)).0) us → SomeTree grammar (rest_form p) (t ∷ us)
back p t us b x = go t us p.stage p.missing p.number (sign_on t) refl b x

-- what is bad stays so
pub bad_stays : (ss : List Sign) (p : Place) → is_bad p.stage ≡ true → is_bad (reach p ss).stage ≡ true
bad_stays [] p b = b
bad_stays (s ∷ ss) p b = bad_stays ss (step p s).0 (by_stage p.stage b)
  where
    by_stage : (st : Stage) → is_bad st ≡ true → is_bad (step_at st p s).0.stage ≡ true
    by_stage Stage.Bad b = refl
    by_stage Stage.Done b = refl
    by_stage st b = refuted (sym b)

pub back_all : (ts us : List Terminal) (p : Place) → is_bad (reach p (map sign_on ts)).stage ≡ false →
    SomeTree grammar (rest_form (reach p (map sign_on ts))) us → SomeTree grammar (rest_form p) (ts ++ us)
back_all [] us p b x = x
back_all (t ∷ ts) us p b x = back p t (ts ++ us) (not_bad (is_bad next.stage) refl) (back_all ts us next b x)
  where
    next : Place
    next = (step p (sign_on t)).0

    not_bad : (c : Bool) → is_bad next.stage ≡ c → c ≡ false
    not_bad true q = let stays = bad_stays (map sign_on ts) next q in cc (stays, b)
    not_bad false q = refl
