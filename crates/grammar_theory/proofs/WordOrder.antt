-- The words of a tree are words of its tokens, in their order.
use Rattle.std.proofs.Common.{◌≡◌, ℕ, List, [], ◌∷◌, ◌++◌, refl, sym, ◌∙◌, ap, subst}
use Rattle.grammar_theory.specs.Ebnf.{Terminal, Tree, pair, fixed, word, number, one_of, to_items, repeated, Ebnf}
use Rattle.grammar_theory.specs.Ebnf.{Derives}
use Rattle.grammar_theory.specs.Ebnf.{Grammar, is_token, is_valued, is_version, is_both, is_left, is_right, is_none}
use Rattle.grammar_theory.specs.Ebnf.{is_some}
use Rattle.grammar_theory.specs.Ebnf.{is_nil, is_more, is_no_number, is_next_number, is_no_tree, is_next_node, is_named}
use Rattle.grammar_theory.specs.Ebnf.{is_inside}
use Rattle.grammar_theory.specs.Words.{Word, words, spelled, IsSublist, is_done, is_left_out, is_kept, KeepsWords}

pub none_kept : (ws : List Word) → IsSublist [] ws
none_kept [] = is_done
none_kept (w ∷ ws) = is_left_out (none_kept ws)

pub all_kept : (ws : List Word) → IsSublist ws ws
all_kept [] = is_done
all_kept (w ∷ ws) = is_kept (all_kept ws)

pub kept_both : {us vs ws zs : List Word} → IsSublist us vs → IsSublist ws zs → IsSublist (us ++ ws) (vs ++ zs)
kept_both is_done k = k
kept_both (is_left_out h) k = is_left_out (kept_both h k)
kept_both (is_kept h) k = is_kept (kept_both h k)

pub kept_again : {us vs ws : List Word} → IsSublist us vs → IsSublist vs ws → IsSublist us ws
kept_again h is_done = h
kept_again h (is_left_out k) = is_left_out (kept_again h k)
kept_again (is_left_out h) (is_kept k) = is_left_out (kept_again h k)
kept_again (is_kept h) (is_kept k) = is_kept (kept_again h k)

-- each of two parts is kept in both
pub kept_first : (ws vs : List Word) → IsSublist ws (ws ++ vs)
kept_first [] vs = none_kept vs
kept_first (w ∷ ws) vs = is_kept (kept_first ws vs)

pub kept_second : (ws vs : List Word) → IsSublist vs (ws ++ vs)
kept_second [] vs = all_kept vs
kept_second (w ∷ ws) vs = is_left_out (kept_second ws vs)

spelled_append : (us vs : List Terminal) → spelled (us ++ vs) ≡ spelled us ++ spelled vs
spelled_append [] vs = refl
spelled_append (u ∷ us) vs = ap (λ w. (u.place, u.text) ∷ w) (spelled_append us vs)

kept_parts : (ws zs : List Word) (us vs ts : List Terminal) → IsSublist ws (spelled us) → IsSublist zs (spelled vs) → ts
    ≡ us ++ vs → IsSublist (ws ++ zs) (spelled ts)
kept_parts ws zs us vs ts h k q = subst (λ v. IsSublist (ws ++ zs) v) (sym (ap spelled q ∙ spelled_append us vs))
    (kept_both h k)

kept_inside : (ws : List Word) (s t : Terminal) (us ts : List Terminal) → IsSublist ws (spelled us) → ts ≡ s ∷
    (us ++ t ∷ []) → IsSublist ws (spelled ts)
kept_inside ws s t us ts h q =
    let before_end : IsSublist ws (spelled us ++ spelled (t ∷ [])) = kept_again h
    (kept_first (spelled us) (spelled (t ∷ []))) in
    subst (λ v. IsSublist ws v) (sym (ap spelled q)) (is_left_out
    (subst (λ v. IsSublist ws v) (sym (spelled_append us (t ∷ []))) before_end))

-- The forms of tokens keep words, and so does a repetition.
pub keeps_fixed : (c : ℕ) → KeepsWords (fixed c)
keeps_fixed c t = is_left_out is_done

pub keeps_word : (c : ℕ) → KeepsWords (word c)
keeps_word c t = is_kept is_done

pub keeps_number : (c : ℕ) → KeepsWords (number c)
keeps_number c t = is_left_out is_done

pub keeps_one_of : (classes : List ℕ) → KeepsWords (one_of classes)
keeps_one_of classes t = is_left_out is_done

items_kept : (p : ℕ) (x : Tree) → IsSublist (words (to_items p x)) (words x)
items_kept p (pair x xs) = all_kept (words x ++ words xs)
items_kept p x = none_kept (words x)

pub keeps_repeated : (a : Ebnf) → KeepsWords a → KeepsWords (repeated a)
keeps_repeated a k = ((k, k), items_kept)

module _ (G : Grammar) (bodies : (k : ℕ) → KeepsWords (G.body k)) where
  pub words_kept : {e : Ebnf} {x : Tree} {ts : List Terminal} → Derives G e x ts → KeepsWords e → IsSublist (words x)
      (spelled ts)
  words_kept (is_token {t = t} h) k = k t
  words_kept (is_valued {t = t} h q) k = none_kept (spelled (t ∷ []))
  words_kept (is_version {t = t} h q) k = none_kept (spelled (t ∷ []))
  words_kept (is_both {x = x} {y = y} {us = us} {vs = vs} {ts = ts} d1 d2 q) k = kept_parts (words x) (words y) us vs ts
      (words_kept d1 k.0) (words_kept d2 k.1) q
  words_kept (is_left d) k = words_kept d k.0
  words_kept (is_right d) k = words_kept d k.1
  words_kept is_none k = is_done
  words_kept (is_some d) k = words_kept d k
  words_kept is_nil k = is_done
  words_kept (is_more {x = x} {xs = xs} {us = us} {vs = vs} {ts = ts} d1 d2 q) k = kept_parts (words x) (words xs) us vs
      ts (words_kept d1 k) (words_kept d2 k) q
  words_kept is_no_number k = is_done
  words_kept (is_next_number {x = x} {xs = xs} {us = us} {vs = vs} {ts = ts} d1 d2 q) k = kept_parts (words x)
      (words xs) us vs ts (words_kept d1 ((tt, k), λ p y. all_kept (words y))) (words_kept d2 k) q
  words_kept is_no_tree k = is_done
  words_kept (is_next_node {x = x} {xs = xs} {us = us} {vs = vs} {ts = ts} d1 d2 q) k = kept_parts (words x) (words xs)
      us vs ts (words_kept d1 k) (words_kept d2 k) q
  words_kept (is_named {place = p} {x = x} d q) k = kept_again (k.1 p x) (words_kept d k.0)
  words_kept (is_inside {k = n} s t {x = x} {us = us} {ts = ts} hs d ht q) k = kept_inside (words x) s t us ts
      (words_kept d (bodies n)) q
