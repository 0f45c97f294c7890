-- The tokens of a form without brackets open none.
use Rattle.std.proofs.Common.{◌≡◌, ℕ, zero, suc, Bool, true, false, not, if◌then◌else◌, List, [], ◌∷◌, ◌++◌}
use Rattle.std.proofs.Common.{None, refl}
use Rattle.std.specs.List.{list_all}
use Rattle.std.proofs.lemmas.Bool.{and_parts}
use Rattle.grammar_theory.specs.Ebnf.{Terminal, Tree, Grammar, has, Derives}
use Rattle.grammar_theory.specs.Answers.{overfull, deeper}
use Rattle.grammar_theory.proofs.Classes.{not_true}
use Rattle.unity_syntax.specs.Grammar.{grammar, certificates_}
use Rattle.unity_syntax.proofs.Productions.{all_productions}
use Rattle.unity_syntax.proofs.Avoids.{avoids, AreNot, are_not}

-- tokens that open nothing are never one bracket too many
none_over : (g : Grammar) (us : List Terminal) → AreNot g.opening us → (levels : ℕ) → overfull g levels us ≡ None
none_over g [] h levels = refl
none_over g (t ∷ ts) h levels =
    let p = and_parts (not (has g.opening t.class)) (list_all (λ (t : Terminal). not (has g.opening t.class)) ts) h in
    go (has g.opening t.class) (has g.closing t.class) (not_true (has g.opening t.class) p.0)
    (λ n. none_over g ts p.1 n)
  where
    go : (o c : Bool) → o ≡ false → ((n : ℕ) → overfull g n ts ≡ None) →
        (if o then deeper levels (λ n. overfull g n ts) (t ∷ ts)
        else (if c then overfull g (suc levels) ts else overfull g levels ts)) ≡ None
    go true c e ih = absurd cc
    go false true e ih = ih (suc levels)
    go false false e ih = ih levels

-- so they can follow where others did
pub none_over_front : (g : Grammar) (front after us : List Terminal) → AreNot g.opening us → (levels : ℕ) →
    overfull g levels (front ++ after) ≡ None → overfull g levels (front ++ us) ≡ None
none_over_front g [] after us h levels e = none_over g us h levels
none_over_front g (t ∷ ts) after us h levels e =
    go (has g.opening t.class) (has g.closing t.class) levels e (λ n k. none_over_front g ts after us h n k)
  where
    go : (o c : Bool) (levels : ℕ) →
        (if o then deeper levels (λ n. overfull g n (ts ++ after)) (t ∷ (ts ++ after))
        else (if c then overfull g (suc levels) (ts ++ after) else overfull g levels (ts ++ after))) ≡ None →
        ((n : ℕ) → overfull g n (ts ++ after) ≡ None → overfull g n (ts ++ us) ≡ None) →
        (if o then deeper levels (λ n. overfull g n (ts ++ us)) (t ∷ (ts ++ us))
        else (if c then overfull g (suc levels) (ts ++ us) else overfull g levels (ts ++ us))) ≡ None
    go true c zero e ih = absurd cc
    go true c (suc n) e ih = ih n e
    go false true n e ih = ih (suc n) e
    go false false n e ih = ih n e

-- the certificates section opens no bracket
section_avoids : avoids false grammar.opening certificates_ ≡ true
unfolding all_productions
section_avoids = refl

pub section_opens_none : {x : Tree} {ts : List Terminal} → Derives grammar certificates_ x ts → AreNot grammar.opening
    ts
section_opens_none d = are_not false grammar.opening (λ k within. absurd cc) d section_avoids
