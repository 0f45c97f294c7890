-- The readers of single tokens are lawful.
use Rattle.std.proofs.Common.{◌≡◌, ℕ, Bool, true, false, ◌||◌, eqb, List, [], ◌∷◌, refl, sym, ◌∙◌, ap, subst, eqb-true}
use Rattle.grammar_theory.specs.Ebnf.{Terminal, Tree, numeral, Ebnf, version, Derives, Grammar, has, is_version}
use Rattle.grammar_theory.specs.Reader.{Read, ◌>>=◌, one_if, take_if, version_if, check_version, as_tree}
use Rattle.grammar_theory.specs.Answers.{Opens}
use Rattle.grammar_theory.specs.Outcomes.{HasSome, Outcome, Lawful}

pub opens_none : (G : Grammar) (e : Ebnf) → HasSome G e → Opens G e []
opens_none G e s = record { tree = s.tree; rest = s.tokens; derives = s.derives }

abbrev single_reader : (Terminal → Bool) → (Terminal → Tree) → List Terminal → Read Tree
single_reader passes keep ts = as_tree keep (take_if passes ts)

-- a token that passes a test
module _ (G : Grammar) (e : Ebnf) (passes : Terminal → Bool) (keep : Terminal → Tree) (one : HasSome G e)
    (derives : (t : Terminal) → passes t ≡ true → Derives G e (keep t) (t ∷ [])) where
  single_at : (t : Terminal) (ts : List Terminal) (b : Bool) → passes t ≡ b → Outcome G e (single_reader passes keep)
      (t ∷ ts) (as_tree keep (one_if b t ts))
  single_at t ts true q = record {
    taken = t ∷ [];
    split = refl;
    tree = derives t q;
    local = λ s was now h. ap (λ b. as_tree keep (one_if b t (s ∷ now))) q;
  }
  single_at t ts false q = record {
    front = [];
    split = refl;
    opens = opens_none G e one;
    local = λ s was now h. let w : t ≡ s = cc in
        let q' : passes s ≡ false = subst (λ (v : Terminal). passes v ≡ false) w q in ap
        (λ b. as_tree keep (one_if b s now)) q';
  }

  pub single : Lawful G e (single_reader passes keep)
  single [] = record { front = []; split = refl; opens = opens_none G e one; local = λ t was now h. cc }
  single (t ∷ ts) = single_at t ts (passes t) refl

-- a version
abbrev pub version_reader : Grammar → ℕ → List ℕ → List Terminal → Read Tree
version_reader G c vs ts = as_tree (λ t. numeral t.value) (check_version G.any_version vs
    (take_if (λ t. eqb t.class c) ts))

abbrev pub version_at : Bool → Bool → Terminal → List Terminal → Read Tree
version_at is_class is_value t ts = as_tree (λ t. numeral t.value)
    (one_if is_class t ts >>= λ x. version_if is_value t x.1)

module _ (G : Grammar) (c : ℕ) (vs : List ℕ) where
  pub version_same : (t : Terminal) (ts : List Terminal) (b : Bool) → as_tree (λ t. numeral t.value)
      (check_version G.any_version vs (one_if b t ts)) ≡ version_at b (G.any_version || has vs t.value) t ts
  version_same t ts true = refl
  version_same t ts false = refl

  pub version_reads : (t : Terminal) (ts : List Terminal) (b d : Bool) → eqb t.class c ≡ b →
      (G.any_version || has vs t.value) ≡ d → version_reader G c vs (t ∷ ts) ≡ version_at b d t ts
  version_reads t ts b d q p = version_same t ts (eqb t.class c) ∙ ap
      (λ b. version_at b (G.any_version || has vs t.value) t ts) q ∙ ap (λ d. version_at b d t ts) p

module _ (G : Grammar) (c : ℕ) (vs : List ℕ) (one : HasSome G (version c vs)) where
  version_outcome : (t : Terminal) (ts : List Terminal) (b d : Bool) → eqb t.class c ≡ b →
      (G.any_version || has vs t.value) ≡ d → Outcome G (version c vs) (version_reader G c vs) (t ∷ ts)
      (version_at b d t ts)
  version_outcome t ts true true q p = record {
    taken = t ∷ [];
    split = refl;
    tree = is_version (eqb-true t.class c q) p;
    local = λ s was now h. version_reads G c vs t (s ∷ now) true true q p;
  }
  version_outcome t ts true false q p = record {
    front = [];
    at = t;
    later = ts;
    rest_is = refl;
    split = refl;
    opens = opens_none G (version c vs) one;
    other = record { tree = numeral t.value; rest = []; derives = is_version (eqb-true t.class c q) refl };
    local = λ now. version_reads G c vs t now true false q p;
  }
  version_outcome t ts false d q p = record {
    front = [];
    split = refl;
    opens = opens_none G (version c vs) one;
    local = λ s was now h. let w : t ≡ s = cc in
        let q' : eqb s.class c ≡ false = subst (λ (u : Terminal). eqb u.class c ≡ false) w q in version_reads G c vs s
        now false (G.any_version || has vs s.value) q' refl;
  }

  pub version_lawful : Lawful G (version c vs) (version_reader G c vs)
  version_lawful [] = record {
    front = [];
    split = refl;
    opens = opens_none G (version c vs) one;
    local = λ t was now h.
        cc;
  }
  version_lawful (t ∷ ts) = subst (λ r. Outcome G (version c vs) (version_reader G c vs) (t ∷ ts) r)
      (sym (version_same G c vs t ts (eqb t.class c))) (version_outcome t ts (eqb t.class c)
      (G.any_version || has vs t.value) refl refl)
