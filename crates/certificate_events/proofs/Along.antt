-- The tokens of a section lead to its end, and tell what its tree says.
use Rattle.std.proofs.Common.{◌≡◌, ℕ, zero, suc, ◌+◌, Bool, true, false, eqb, eq-eqb, List, [], ◌∷◌, ◌++◌, map}
use Rattle.std.proofs.Common.{refl, sym, ap, ◌∙◌, subst, append_assoc, add-one, add-zero, ◌⊎◌, inl, inr}
use Rattle.std.specs.List.{flat_map}
use Rattle.case_tables.specs.declared.word_table.Word.{Word}
use Rattle.case_tables.specs.declared.symbol_table.Symbol.{Symbol}
use Rattle.grammar_theory.specs.Ebnf.{Terminal, Tree, unit, numeral, pair, none, some, nil, more, left, right}
use Rattle.grammar_theory.specs.Ebnf.{node, Ebnf, both, either, many, numbered, prefix_trees, named, fixed}
use Rattle.grammar_theory.specs.Ebnf.{numbered_item, valued, Derives, is_token, is_valued, is_none, is_some, is_left}
use Rattle.grammar_theory.specs.Ebnf.{is_right}
use Rattle.grammar_theory.specs.Ebnf.{is_nil, is_more, is_no_number, is_next_number, is_no_tree, is_next_node, is_named}
use Rattle.grammar_theory.proofs.Classes.{has_one}
use Rattle.unity_base.specs.declared.events.CertEvent.{CertEvent}
use Rattle.unity_syntax.specs.Classes.{number_class, reserved, symbol}
use Rattle.unity_syntax.specs.Kinds.{Kind, kind}
use Rattle.unity_syntax.specs.Grammar.{grammar, chosen, first, second, past, up_to, ◌or◌, made, minus_, number_}
use Rattle.unity_syntax.specs.Grammar.{multiple_, node_, certificate_, certificates_, subtrees}
use Rattle.unity_syntax.specs.View.{view_flag, view_list, view_pair, view_node, view_certificate, view_certificates}
use Rattle.unity_syntax.specs.declared.certificate.Pair.{Pair}
use Rattle.unity_syntax.specs.declared.certificate.Node.{Node}
use Rattle.unity_syntax.specs.declared.certificate.CertText.{CertText}
use Rattle.unity_syntax.specs.declared.certificate.Certificates.{Certificates}
use Rattle.unity_syntax.proofs.Productions.{all_productions}
use Rattle.certificate_events.specs.declared.signs.Sign.{Sign}
use Rattle.certificate_events.specs.declared.places.Plain.{Plain}
use Rattle.certificate_events.specs.declared.places.Signed.{Signed}
use Rattle.certificate_events.specs.declared.places.Stage.{Stage}
use Rattle.certificate_events.specs.declared.places.Place.{Place}
use Rattle.certificate_events.specs.declared.reader.Taken.{Taken}
use Rattle.certificate_events.specs.Events.{number_of, minus_takes, pair_takes, node_takes}
use Rattle.certificate_events.specs.Events.{certificate_takes, section_takes}
use Rattle.certificate_events.specs.Steps.{Step, step, signed_read, begun, reach, answers, start}
use Rattle.certificate_events.proofs.SignLaws.{sign_on, sign_at}
use Rattle.certificate_events.proofs.Back.{at_stage, of_both, of_fixed, of_number}

-- the tokens lead from one place to another, and tell this
pub record Leads (p : Place) (ts : List Terminal) (told : List Taken) (q : Place) : Type 0 where
  pub there : reach p (map sign_on ts) ≡ q
  pub tells : answers p (map sign_on ts) ≡ told

pub stays : (p : Place) → Leads p [] [] p
stays p = record { there = refl; tells = refl }

-- one token, by its class
by_class : (p : Place) (t : Terminal) (c : ℕ) → t.class ≡ c →
    Leads p (t ∷ []) ((step p (sign_at c t.value)).1 ∷ []) (step p (sign_at c t.value)).0
by_class p t c h = record {
  there = ap (λ d. (step p (sign_at d t.value)).0) h;
  tells = ap (λ d. (step p (sign_at d t.value)).1 ∷ []) h;
}

reach_append : (p : Place) (us vs : List Terminal) →
    reach p (map sign_on (us ++ vs)) ≡ reach (reach p (map sign_on us)) (map sign_on vs)
reach_append p [] vs = refl
reach_append p (u ∷ us) vs = reach_append (step p (sign_on u)).0 us vs

answers_append : (p : Place) (us vs : List Terminal) → answers p (map sign_on (us ++ vs))
    ≡ answers p (map sign_on us) ++ answers (reach p (map sign_on us)) (map sign_on vs)
answers_append p [] vs = refl
answers_append p (u ∷ us) vs =
    ap (λ xs. (step p (sign_on u)).1 ∷ xs) (answers_append (step p (sign_on u)).0 us vs)

-- one after the other
pub then_on : {p q r : Place} {us vs : List Terminal} {xs ys : List Taken} → Leads p us xs q → Leads q vs ys r →
    Leads p (us ++ vs) (xs ++ ys) r
then_on {p = p} {us = us} {vs = vs} {ys = ys} a b = record {
  there = reach_append p us vs ∙ ap (λ q. reach q (map sign_on vs)) a.there ∙ b.there;
  tells = answers_append p us vs
      ∙ ap (λ q. answers p (map sign_on us) ++ answers q (map sign_on vs)) a.there
      ∙ ap (λ w. answers p (map sign_on us) ++ w) b.tells
      ∙ ap (λ w. w ++ ys) a.tells;
}

-- the same tokens in another form
pub along : {p q : Place} {us ts : List Terminal} {xs : List Taken} → ts ≡ us → Leads p us xs q → Leads p ts xs q
along {p = p} {q = q} {xs = xs} e l = subst (λ ts. Leads p ts xs q) (sym e) l

-- the same answers in another form
telling_so : {p q : Place} {ts : List Terminal} {xs ys : List Taken} → xs ≡ ys → Leads p ts xs q → Leads p ts ys q
telling_so {p = p} {q = q} {ts = ts} e l = subst (λ xs. Leads p ts xs q) e l

-- A number with a sign.

-- a place at which such a number is awaited
record Awaits (p : Place) (a : Signed) : Type 0 where
  minus : step p Sign.Minus ≡ (record p { stage = Stage.Negative a }, Taken.Nothing)
  number : (n : ℕ) → step p (Sign.Number n) ≡ signed_read p a (number_of false n)

of_minus : {z : Tree} {ts : List Terminal} → Derives grammar minus_ z ts →
    ((none ≡ z) × (ts ≡ [])) ⊎ ((t : Terminal) × (t.class ≡ symbol Symbol.Minus) × (ts ≡ t ∷ []) × (some unit ≡ z))
of_minus is_none = inl (refl, refl)
of_minus (is_some d) = inr (by_token d)
  where
    by_token : {y : Tree} {ts : List Terminal} → Derives grammar (fixed (symbol Symbol.Minus)) y ts →
        (t : Terminal) × (t.class ≡ symbol Symbol.Minus) × (ts ≡ t ∷ []) × (some unit ≡ some y)
    by_token (is_token {t = t} h) = (t, has_one (symbol Symbol.Minus) t.class h, refl, refl)

-- what a number with a sign is, and where it leads
record Number (p : Place) (a : Signed) (flag value : Tree) (ts : List Terminal) : Type 0 where
  minus : Bool
  number : ℕ
  flag_is : view_flag minus ≡ flag
  value_is : numeral number ≡ value
  leads : Leads p ts (minus_takes minus ++ ((signed_read p a (number_of minus number)).1 ∷ []))
      (signed_read p a (number_of minus number)).0

step_leads : (p : Place) (t : Terminal) (c : ℕ) (q : Step) → t.class ≡ c → step p (sign_at c t.value) ≡ q →
    Leads p (t ∷ []) (q.1 ∷ []) q.0
step_leads p t c q h e = subst (λ q. Leads p (t ∷ []) (q.1 ∷ []) q.0) e (by_class p t c h)

-- behind the minus
negative_leads : (p : Place) (a : Signed) (t : Terminal) → t.class ≡ number_class →
    Leads (record p { stage = Stage.Negative a }) (t ∷ []) ((signed_read p a (number_of true t.value)).1 ∷ [])
    (signed_read p a (number_of true t.value)).0
negative_leads p (Signed.Bound v) t h = by_class (record p { stage = Stage.Negative (Signed.Bound v) }) t number_class h
negative_leads p Signed.Divisor t h = by_class (record p { stage = Stage.Negative Signed.Divisor }) t number_class h
negative_leads p Signed.Constant t h = by_class (record p { stage = Stage.Negative Signed.Constant }) t number_class h
negative_leads p Signed.Multiplier t h =
    by_class (record p { stage = Stage.Negative Signed.Multiplier }) t number_class h

number_leads : (p : Place) (a : Signed) → Awaits p a → {flag value : Tree} {us vs : List Terminal} →
    Derives grammar minus_ flag us → Derives grammar number_ value vs → Number p a flag value (us ++ vs)
number_leads p a w {flag = flag} {value = value} {us = us} {vs = vs} d1 d2 = by_sign (of_minus d1)
  where
    n : (t : Terminal) × (t.class ≡ number_class) × (vs ≡ t ∷ []) × (numeral t.value ≡ value)
    n = of_number d2

    by_sign : ((none ≡ flag) × (us ≡ []))
        ⊎ ((t : Terminal) × (t.class ≡ symbol Symbol.Minus) × (us ≡ t ∷ []) × (some unit ≡ flag)) →
        Number p a flag value (us ++ vs)
    by_sign (inl e) = record {
      minus = false;
      number = n.0.value;
      flag_is = e.0;
      value_is = n.3;
      leads = along (ap (λ us. us ++ vs) e.1 ∙ n.2)
          (step_leads p n.0 number_class (signed_read p a (number_of false n.0.value)) n.1 (w.number n.0.value));
    }
    by_sign (inr e) = record {
      minus = true;
      number = n.0.value;
      flag_is = e.3;
      value_is = n.3;
      leads = along (ap (λ us. us ++ vs) e.2 ∙ ap (λ vs. e.0 ∷ vs) n.2)
          (then_on (step_leads p e.0 (symbol Symbol.Minus) (record p { stage = Stage.Negative a }, Taken.Nothing)
          e.1 w.minus)
          (negative_leads p a n.0 n.1));
    }

-- Taking derivations of productions apart.

record Named (action : ℕ → Tree → Tree) (a : Ebnf) (y : Tree) (ts : List Terminal) : Type 0 where
  place : ℕ
  tree : Tree
  derives : Derives grammar a tree ts
  is : action place tree ≡ y

of_named : {action : ℕ → Tree → Tree} {a : Ebnf} {y : Tree} {ts : List Terminal} →
    Derives grammar (named action a) y ts → Named action a y ts
of_named (is_named {place = p} {x = x} d q) = record { place = p; tree = x; derives = d; is = refl }

-- a token that is dropped, and a form
record Past (c : ℕ) (a : Ebnf) (y : Tree) (ts : List Terminal) : Type 0 where
  token : Terminal
  class : token.class ≡ c
  rest : List Terminal
  tree : Tree
  derives : Derives grammar a tree rest
  split : ts ≡ token ∷ rest
  is : tree ≡ y

of_past : (c : ℕ) (a : Ebnf) {y : Tree} {ts : List Terminal} → Derives grammar (past c a) y ts → Past c a y ts
of_past c a d =
    let w = of_named d in
    let j = of_both w.derives in
    let f = of_fixed j.earlier in record {
      token = f.0;
      class = f.1;
      rest = j.more;
      tree = j.other;
      derives = j.later;
      split = j.split ∙ ap (λ v. v ++ j.more) f.2;
      is = ap (second w.place) j.is ∙ w.is;
    }

-- a form, and a token that is dropped
record UpTo (a : Ebnf) (c : ℕ) (y : Tree) (ts : List Terminal) : Type 0 where
  token : Terminal
  class : token.class ≡ c
  front : List Terminal
  tree : Tree
  derives : Derives grammar a tree front
  split : ts ≡ front ++ token ∷ []
  is : tree ≡ y

of_up_to : (a : Ebnf) (c : ℕ) {y : Tree} {ts : List Terminal} → Derives grammar (up_to a c) y ts → UpTo a c y ts
of_up_to a c d =
    let w = of_named d in
    let j = of_both w.derives in
    let f = of_fixed j.later in record {
      token = f.0;
      class = f.1;
      front = j.front;
      tree = j.one;
      derives = j.earlier;
      split = j.split ∙ ap (λ v. j.front ++ v) f.2;
      is = ap (first w.place) j.is ∙ w.is;
    }

of_either : {a b : Ebnf} {y : Tree} {ts : List Terminal} → Derives grammar (either a b) y ts →
    ((z : Tree) × Derives grammar a z ts × (left z ≡ y)) ⊎ ((z : Tree) × Derives grammar b z ts × (right z ≡ y))
of_either (is_left {x = x} d) = inl (x, d, refl)
of_either (is_right {x = x} d) = inr (x, d, refl)

-- one form or the other
of_or : (a b : Ebnf) {y : Tree} {ts : List Terminal} → Derives grammar (a or b) y ts →
    Derives grammar a y ts ⊎ Derives grammar b y ts
of_or a b {y = y} {ts = ts} d = by_side (of_either w.derives)
  where
    w : Named chosen (either a b) y ts
    w = of_named d

    by_side : ((z : Tree) × Derives grammar a z ts × (left z ≡ w.tree))
        ⊎ ((z : Tree) × Derives grammar b z ts × (right z ≡ w.tree)) → Derives grammar a y ts ⊎ Derives grammar b y ts
    by_side (inl e) = inl (subst (λ z. Derives grammar a z ts) (ap (chosen w.place) e.2 ∙ w.is) e.1)
    by_side (inr e) = inr (subst (λ z. Derives grammar b z ts) (ap (chosen w.place) e.2 ∙ w.is) e.1)

-- Pairs.

abbrev at_pairs : ℕ → ℕ → Place
at_pairs m k = at_stage Stage.Pairs m k

record OnePair (m k : ℕ) (x : Tree) (ts : List Terminal) : Type 0 where
  pair_read : Pair
  is : view_pair pair_read ≡ x
  leads : Leads (at_pairs m k) ts (pair_takes pair_read) (at_pairs m k)

-- the parts of a pair
pair_parts : (m k : ℕ) (place : ℕ) {y : Tree} {ts : List Terminal} →
    Derives grammar (both minus_ (both number_ (past (symbol Symbol.Times) number_))) y ts →
    OnePair m k (node (kind Kind.pair) place y) ts
pair_parts m k place d =
    let j = of_both d in
    let l = of_both j.later in
    let i = number_leads (at_pairs m k) Signed.Multiplier (record { minus = refl; number = λ n. refl })
    j.earlier l.earlier in
    let r = of_past (symbol Symbol.Times) number_ l.later in
    let n = of_number r.derives in
    let z = number_of i.minus i.number in record {
      pair_read = record { at = place; minus = i.minus; multiplier = i.number; fact = n.0.value };
      is = ap (node (kind Kind.pair) place)
          (ap (λ f. pair f (pair (numeral i.number) (numeral n.0.value))) i.flag_is
          ∙ ap (λ v. pair j.one (pair v (numeral n.0.value))) i.value_is
          ∙ ap (λ v. pair j.one (pair l.one v)) (n.3 ∙ r.is)
          ∙ ap (λ v. pair j.one v) l.is ∙ j.is);
      leads = along (j.split ∙ ap (λ v. j.front ++ v) (l.split ∙ ap (λ v. l.front ++ v) (r.split
          ∙ ap (λ v. r.token ∷ v) n.2)) ∙ sym (append_assoc j.front l.front (r.token ∷ n.0 ∷ [])))
          (telling_so (append_assoc (minus_takes i.minus) (Taken.Nothing ∷ []) _)
          (then_on i.leads (then_on (by_class (at_stage (Stage.Times z) m k) r.token (symbol Symbol.Times) r.class)
          (by_class (at_stage (Stage.Plain (Plain.Fact z)) m k) n.0 number_class n.1))));
    }

one_pair : (m k : ℕ) {x : Tree} {ts : List Terminal} → Derives grammar multiple_ x ts → OnePair m k x ts
unfolding all_productions
one_pair m k {ts = ts} d =
    let w = of_named d in
    subst (λ x. OnePair m k x ts) w.is (pair_parts m k w.place w.derives)

record SomePairs (m k : ℕ) (x : Tree) (ts : List Terminal) : Type 0 where
  pairs_read : List Pair
  is : view_list view_pair pairs_read ≡ x
  leads : Leads (at_pairs m k) ts (flat_map pair_takes pairs_read) (at_pairs m k)

some_pairs : (m k : ℕ) {x : Tree} {ts : List Terminal} → Derives grammar (many multiple_) x ts → SomePairs m k x ts
some_pairs m k is_nil = record { pairs_read = []; is = refl; leads = stays (at_pairs m k) }
some_pairs m k (is_more {x = x} d1 d2 q) =
    let p = one_pair m k d1 in
    let ps = some_pairs m k d2 in record {
      pairs_read = p.pair_read ∷ ps.pairs_read;
      is = ap (λ y. more y (view_list view_pair ps.pairs_read)) p.is ∙ ap (more x) ps.is;
      leads = along q (then_on p.leads ps.leads);
    }

-- Nodes.

-- where a node may stand, and a pair too where this says so
abbrev pub node_stage : Bool → Stage
node_stage false = Stage.Nodes
node_stage true = Stage.Pairs

at_word : (b : Bool) (m k : ℕ) (s : Sign) (q : Step) → step (at_stage Stage.Nodes m k) s ≡ q →
    step (at_stage Stage.Pairs m k) s ≡ q → step (at_stage (node_stage b) m k) s ≡ q
at_word false m k s q e f = e
at_word true m k s q e f = f

record OneNode (b : Bool) (m k : ℕ) (x : Tree) (ts : List Terminal) : Type 0 where
  node_read : Node
  is : view_node node_read ≡ x
  then_pairs : Bool
  leads : Leads (at_stage (node_stage b) (suc m) k) ts (node_takes node_read)
      (at_stage (node_stage then_pairs) (m + subtrees (view_node node_read)) k)

module _ (b : Bool) (m k : ℕ) {x : Tree} {ts : List Terminal} where
  read_case : Derives grammar (made Kind.node_case (past (reserved Word.Case) number_)) x ts → OneNode b m k x ts
  read_case d =
      let w = of_named d in
      let r = of_past (reserved Word.Case) number_ w.derives in
      let n = of_number r.derives in record {
        node_read = Node.Case w.place n.0.value;
        is = ap (node (kind Kind.node_case) w.place) (n.3 ∙ r.is) ∙ w.is;
        then_pairs = false;
        leads = along (r.split ∙ ap (λ v. r.token ∷ v) n.2) (then_on
            (step_leads (at_stage (node_stage b) (suc m) k) r.token (reserved Word.Case) _ r.class
            (at_word b (suc m) k Sign.Case (at_stage (Stage.Plain Plain.Case) (m + 2) k, Taken.Nothing) refl refl))
            (by_class (at_stage (Stage.Plain Plain.Case) (m + 2) k) n.0 number_class n.1));
      }

  read_quot : Derives grammar (made Kind.node_quot (past (reserved Word.Quot) number_)) x ts → OneNode b m k x ts
  read_quot d =
      let w = of_named d in
      let r = of_past (reserved Word.Quot) number_ w.derives in
      let n = of_number r.derives in record {
        node_read = Node.Quot w.place n.0.value;
        is = ap (node (kind Kind.node_quot) w.place) (n.3 ∙ r.is) ∙ w.is;
        then_pairs = false;
        leads = along (r.split ∙ ap (λ v. r.token ∷ v) n.2) (then_on
            (step_leads (at_stage (node_stage b) (suc m) k) r.token (reserved Word.Quot) _ r.class
            (at_word b (suc m) k Sign.Quot (at_stage (Stage.Plain Plain.Quot) (m + 1) k, Taken.Nothing) refl refl))
            (by_class (at_stage (Stage.Plain Plain.Quot) (m + 1) k) n.0 number_class n.1));
      }

  read_split : Derives grammar (made Kind.node_split (past (reserved Word.Split)
      (both number_ (both minus_ number_)))) x ts →
      OneNode b m k x ts
  read_split d =
      let w = of_named d in
      let r = of_past (reserved Word.Split) (both number_ (both minus_ number_)) w.derives in
      let j = of_both r.derives in
      let n = of_number j.earlier in
      let l = of_both j.later in
      let i = number_leads (at_stage (Stage.Signed (Signed.Bound n.0.value)) (m + 2) k) (Signed.Bound n.0.value)
      (record { minus = refl; number = λ n. refl }) l.earlier l.later in record {
        node_read = Node.Split w.place n.0.value i.minus i.number;
        is = ap (node (kind Kind.node_split) w.place)
            (ap (λ v. pair v (pair (view_flag i.minus) (numeral i.number))) n.3
            ∙ ap (λ v. pair j.one (pair v (numeral i.number))) i.flag_is
            ∙ ap (λ v. pair j.one (pair l.one v)) i.value_is
            ∙ ap (λ v. pair j.one v) l.is ∙ j.is ∙ r.is) ∙ w.is;
        then_pairs = false;
        leads = along (r.split ∙ ap (λ v. r.token ∷ v) (j.split ∙ ap (λ v. v ++ j.more) n.2
            ∙ ap (λ v. n.0 ∷ v) l.split)) (then_on
            (step_leads (at_stage (node_stage b) (suc m) k) r.token (reserved Word.Split) _ r.class
            (at_word b (suc m) k Sign.Split (at_stage (Stage.Plain Plain.Variable) (m + 2) k, Taken.Nothing) refl refl))
            (then_on (by_class (at_stage (Stage.Plain Plain.Variable) (m + 2) k) n.0 number_class n.1) i.leads));
      }

  read_sum : Derives grammar (made Kind.node_sum (past (reserved Word.Sum) (many multiple_))) x ts → OneNode b m k x ts
  read_sum d =
      let w = of_named d in
      let r = of_past (reserved Word.Sum) (many multiple_) w.derives in
      let ps = some_pairs m k r.derives in record {
        node_read = Node.Sum w.place ps.pairs_read;
        is = ap (node (kind Kind.node_sum) w.place) (ps.is ∙ r.is) ∙ w.is;
        then_pairs = true;
        leads = subst (λ n. Leads (at_stage (node_stage b) (suc m) k) ts
            (Taken.Event CertEvent.Sum ∷ flat_map pair_takes ps.pairs_read) (at_pairs n k)) (sym (add-zero m))
            (along r.split (then_on (step_leads (at_stage (node_stage b) (suc m) k)
            r.token (reserved Word.Sum) _ r.class
            (at_word b (suc m) k Sign.Sum (at_pairs m k, Taken.Event CertEvent.Sum) refl refl)) ps.leads));
      }

  read_round : Derives grammar (made Kind.node_round (past (reserved Word.Round)
      (both minus_ (both number_ (many multiple_))))) x ts → OneNode b m k x ts
  read_round d =
      let w = of_named d in
      let r = of_past (reserved Word.Round) (both minus_ (both number_ (many multiple_))) w.derives in
      let j = of_both r.derives in
      let l = of_both j.later in
      let i = number_leads (at_stage (Stage.Signed Signed.Divisor) (m + 1) k) Signed.Divisor
      (record { minus = refl; number = λ n. refl }) j.earlier l.earlier in
      let ps = some_pairs (m + 1) k l.later in record {
        node_read = Node.Round w.place i.minus i.number ps.pairs_read;
        is = ap (node (kind Kind.node_round) w.place)
            (ap (λ v. pair v (pair (numeral i.number) (view_list view_pair ps.pairs_read))) i.flag_is
            ∙ ap (λ v. pair j.one (pair v (view_list view_pair ps.pairs_read))) i.value_is
            ∙ ap (λ v. pair j.one (pair l.one v)) ps.is
            ∙ ap (λ v. pair j.one v) l.is ∙ j.is ∙ r.is) ∙ w.is;
        then_pairs = true;
        leads = along (r.split ∙ ap (λ v. r.token ∷ v) (j.split ∙ ap (λ v. j.front ++ v) l.split
            ∙ sym (append_assoc j.front l.front l.more))) (then_on
            (step_leads (at_stage (node_stage b) (suc m) k) r.token (reserved Word.Round) _ r.class
            (at_word b (suc m) k Sign.Round (at_stage (Stage.Signed Signed.Divisor) (m + 1) k, Taken.Nothing)
            refl refl))
            (then_on i.leads ps.leads));
      }

  read_share : Derives grammar (made Kind.node_share (past (reserved Word.Share)
      (both minus_ (both number_ (many multiple_))))) x ts → OneNode b m k x ts
  read_share d =
      let w = of_named d in
      let r = of_past (reserved Word.Share) (both minus_ (both number_ (many multiple_))) w.derives in
      let j = of_both r.derives in
      let l = of_both j.later in
      let i = number_leads (at_stage (Stage.Signed Signed.Constant) (m + 2) k) Signed.Constant
      (record { minus = refl; number = λ n. refl }) j.earlier l.earlier in
      let ps = some_pairs (m + 2) k l.later in record {
        node_read = Node.Share w.place i.minus i.number ps.pairs_read;
        is = ap (node (kind Kind.node_share) w.place)
            (ap (λ v. pair v (pair (numeral i.number) (view_list view_pair ps.pairs_read))) i.flag_is
            ∙ ap (λ v. pair j.one (pair v (view_list view_pair ps.pairs_read))) i.value_is
            ∙ ap (λ v. pair j.one (pair l.one v)) ps.is
            ∙ ap (λ v. pair j.one v) l.is ∙ j.is ∙ r.is) ∙ w.is;
        then_pairs = true;
        leads = along (r.split ∙ ap (λ v. r.token ∷ v) (j.split ∙ ap (λ v. j.front ++ v) l.split
            ∙ sym (append_assoc j.front l.front l.more))) (then_on
            (step_leads (at_stage (node_stage b) (suc m) k) r.token (reserved Word.Share) _ r.class
            (at_word b (suc m) k Sign.Share (at_stage (Stage.Signed Signed.Constant) (m + 2) k, Taken.Nothing)
            refl refl))
            (then_on i.leads ps.leads));
      }

  one_node : Derives grammar node_ x ts → OneNode b m k x ts
  unfolding all_productions
  one_node d = elim (of_or _ _ d) [
    | inl d ↦ read_case d
    | inr d ↦ elim (of_or _ _ d) [
      | inl d ↦ read_split d
      | inr d ↦ elim (of_or _ _ d) [
        | inl d ↦ read_sum d
        | inr d ↦ elim (of_or _ _ d) [
          | inl d ↦ read_round d
          | inr d ↦ elim (of_or _ _ d) [ inl d ↦ read_quot d | inr d ↦ read_share d ]
        ]
      ]
    ]
  ]

record Trees (b : Bool) (n k : ℕ) (x : Tree) (ts : List Terminal) : Type 0 where
  nodes_read : List Node
  is : view_list view_node nodes_read ≡ x
  then_pairs : Bool
  leads : Leads (at_stage (node_stage b) n k) ts (flat_map node_takes nodes_read)
      (at_stage (node_stage then_pairs) zero k)

some_trees : (b : Bool) (k : ℕ) {n : ℕ} {x : Tree} {ts : List Terminal} →
    Derives grammar (prefix_trees n subtrees node_) x ts → Trees b n k x ts
some_trees b k is_no_tree = record {
  nodes_read = [];
  is = refl;
  then_pairs = b;
  leads = stays (at_stage (node_stage b) zero k);
}
some_trees b k (is_next_node {n = n} {x = x} {us = us} d1 d2 q) =
    let i = one_node b n k d1 in
    let rest = some_trees i.then_pairs k d2 in record {
      nodes_read = i.node_read ∷ rest.nodes_read;
      is = ap (λ y. more y (view_list view_node rest.nodes_read)) i.is ∙ ap (more x) rest.is;
      then_pairs = rest.then_pairs;
      leads = along q (then_on (subst (λ y. Leads (at_stage (node_stage b) (suc n) k) us (node_takes i.node_read)
          (at_stage (node_stage i.then_pairs) (n + subtrees y) k)) i.is i.leads) rest.leads);
    }

-- one tree has a node
record OneTree (k : ℕ) (x : Tree) (ts : List Terminal) : Type 0 where
  first_read : Node
  rest_read : List Node
  is : more (view_node first_read) (view_list view_node rest_read) ≡ x
  then_pairs : Bool
  leads : Leads (at_stage Stage.Nodes 1 k) ts (flat_map node_takes (first_read ∷ rest_read))
      (at_stage (node_stage then_pairs) zero k)

one_tree : (k : ℕ) {x : Tree} {ts : List Terminal} → Derives grammar (prefix_trees 1 subtrees node_) x ts →
    OneTree k x ts
one_tree k {x = x} {ts = ts} d = by_nodes s.nodes_read s.is s.leads
  where
    s : Trees false 1 k x ts
    s = some_trees false k d

    no_node : {n : ℕ} {x : Tree} {ts : List Terminal} → Derives grammar (prefix_trees (suc n) subtrees node_) x ts →
        nil ≡ x → ⊥
    no_node (is_next_node d1 d2 q) e = cc

    by_nodes : (ns : List Node) → view_list view_node ns ≡ x → Leads (at_stage Stage.Nodes 1 k) ts
        (flat_map node_takes ns) (at_stage (node_stage s.then_pairs) zero k) → OneTree k x ts
    by_nodes [] e l = absurd (no_node d e)
    by_nodes (n ∷ ns) e l = record { first_read = n; rest_read = ns; is = e; then_pairs = s.then_pairs; leads = l }

-- Certificates.

record Body (k : ℕ) (x : Tree) (ts : List Terminal) : Type 0 where
  first_read : Node
  rest_read : List Node
  is : more (view_node first_read) (view_list view_node rest_read) ≡ x
  leads : Leads (at_stage Stage.Numbered 0 k) ts (Taken.Event CertEvent.Begin ∷
      (flat_map node_takes (first_read ∷ rest_read) ++ (Taken.Event CertEvent.End ∷ []))) (at_stage Stage.Between 0 k)

body : (m k : ℕ) {x : Tree} {ts : List Terminal} → Derives grammar certificate_ x ts → Body k x ts
unfolding all_productions
body m k d =
    let r = of_past (symbol Symbol.Colon) (up_to (prefix_trees 1 subtrees node_) (symbol Symbol.Semicolon)) d in
    let u = of_up_to (prefix_trees 1 subtrees node_) (symbol Symbol.Semicolon) r.derives in
    let i = one_tree k u.derives in record {
      first_read = i.first_read;
      rest_read = i.rest_read;
      is = i.is ∙ u.is ∙ r.is;
      leads = along (r.split ∙ ap (λ v. r.token ∷ v) u.split) (then_on
          (by_class (at_stage Stage.Numbered 0 k) r.token (symbol Symbol.Colon) r.class)
          (then_on i.leads (step_leads (at_stage (node_stage i.then_pairs) zero k)
          u.token (symbol Symbol.Semicolon) _ u.class
          (at_word i.then_pairs zero k Sign.Semicolon (at_stage Stage.Between 0 k, Taken.Event CertEvent.End)
          refl refl))));
    }

of_valued : {c v : ℕ} {z : Tree} {ts : List Terminal} → Derives grammar (valued c v) z ts →
    (t : Terminal) × (t.class ≡ c) × (t.value ≡ v) × (ts ≡ t ∷ []) × (unit ≡ z)
of_valued (is_valued {t = t} h v) = (t, h, v, refl, refl)

record OneItem (j k : ℕ) (x : Tree) (ts : List Terminal) : Type 0 where
  item_read : CertText
  is : view_certificate item_read ≡ x
  leads : Leads (at_stage Stage.Between 0 k) ts (certificate_takes item_read) (at_stage Stage.Between 0 (k + 1))

one_item : (j k : ℕ) → j ≡ k + 1 → {x : Tree} {ts : List Terminal} →
    Derives grammar (numbered_item j number_class certificate_) x ts → OneItem j k x ts
one_item j k e d =
    let w = of_named d in
    let p = of_both w.derives in
    let v = of_valued p.earlier in
    let c = body 0 (k + 1) p.later in
    let here : eqb v.0.value (k + 1) ≡ true = eq-eqb v.0.value (k + 1) (v.2 ∙ e) in record {
      item_read = record { at = w.place; number = j; first = c.first_read; rest = c.rest_read };
      is = ap (node j w.place) (ap (λ y. pair unit y) c.is ∙ ap (λ y. pair y p.other) v.4 ∙ p.is) ∙ w.is;
      leads = along (p.split ∙ ap (λ us. us ++ p.more) v.3) (then_on
          (step_leads (at_stage Stage.Between 0 k) v.0 number_class (at_stage Stage.Numbered 0 (k + 1), Taken.Nothing)
          v.1
          (ap (begun (at_stage Stage.Between 0 k)) here)) c.leads);
    }

record Items (k : ℕ) (x : Tree) (ts : List Terminal) : Type 0 where
  items_read : List CertText
  is : view_list view_certificate items_read ≡ x
  last : ℕ
  leads : Leads (at_stage Stage.Between 0 k) ts (flat_map certificate_takes items_read) (at_stage Stage.Between 0 last)

some_items : (k : ℕ) {j : ℕ} → j ≡ k + 1 → {x : Tree} {ts : List Terminal} →
    Derives grammar (numbered j number_class certificate_) x ts → Items k x ts
some_items k e is_no_number = record {
  items_read = [];
  is = refl;
  last = k;
  leads = stays (at_stage Stage.Between 0 k);
}
some_items k e (is_next_number {k = j} {x = x} d1 d2 q) =
    let i = one_item j k e d1 in
    let rest = some_items (k + 1) (ap suc e ∙ sym (add-one (k + 1))) d2 in record {
      items_read = i.item_read ∷ rest.items_read;
      is = ap (λ y. more y (view_list view_certificate rest.items_read)) i.is ∙ ap (more x) rest.is;
      last = rest.last;
      leads = along q (then_on i.leads rest.leads);
    }

-- the tokens behind the first
abbrev behind_first : List Terminal → List Terminal
behind_first [] = []
behind_first (t ∷ ts) = ts

pub record Section (x : Tree) (ts : List Terminal) : Type 0 where
  pub section : Certificates
  pub is : view_certificates section ≡ x
  pub last : ℕ
  pub leads : Leads start ts (section_takes section) (at_stage Stage.Done 0 last)

pub section_leads : (w : Terminal) {x : Tree} {ts : List Terminal} → Derives grammar certificates_ x (w ∷ ts) →
    Section x ts
unfolding all_productions
section_leads w d =
    let n = of_named d in
    let r = of_past (reserved Word.Certificates) (up_to (numbered 1 number_class certificate_) (reserved Word.End))
    n.derives in
    let u = of_up_to (numbered 1 number_class certificate_) (reserved Word.End) r.derives in
    let i = some_items 0 refl u.derives in record {
      section = record { at = n.place; items = i.items_read };
      is = ap (node (kind Kind.certificates) n.place) (i.is ∙ u.is ∙ r.is) ∙ n.is;
      last = i.last;
      leads = along (ap behind_first r.split ∙ u.split)
          (then_on i.leads (by_class (at_stage Stage.Between 0 i.last) u.token (reserved Word.End) u.class));
    }
