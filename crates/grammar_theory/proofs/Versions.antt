-- What a form derives, it derives also where a version may have any value.
use Rattle.std.proofs.Common.{List, refl}
use Rattle.grammar_theory.specs.Ebnf.{Terminal, Tree, Ebnf, Derives, Grammar, of_any_version, is_token, is_valued}
use Rattle.grammar_theory.specs.Ebnf.{is_version}
use Rattle.grammar_theory.specs.Ebnf.{is_both, is_left, is_right, is_none, is_some, is_nil, is_more, is_no_number}
use Rattle.grammar_theory.specs.Ebnf.{is_next_number}
use Rattle.grammar_theory.specs.Ebnf.{is_no_tree, is_next_node, is_named, is_inside}
use Rattle.grammar_theory.specs.Answers.{Opens, Allowed}
use Rattle.grammar_theory.specs.Outcomes.{HasSome}

pub derives_any : {G : Grammar} {e : Ebnf} {x : Tree} {ts : List Terminal} → Derives G e x ts → Derives
    (of_any_version G) e x ts
derives_any (is_token h) = is_token h
derives_any (is_valued h q) = is_valued h q
derives_any (is_version h q) = is_version h refl
derives_any (is_both d1 d2 s) = is_both (derives_any d1) (derives_any d2) s
derives_any (is_left d) = is_left (derives_any d)
derives_any (is_right d) = is_right (derives_any d)
derives_any is_none = is_none
derives_any (is_some d) = is_some (derives_any d)
derives_any is_nil = is_nil
derives_any (is_more d1 d2 s) = is_more (derives_any d1) (derives_any d2) s
derives_any is_no_number = is_no_number
derives_any (is_next_number d1 d2 s) = is_next_number (derives_any d1) (derives_any d2) s
derives_any is_no_tree = is_no_tree
derives_any (is_next_node d1 d2 s) = is_next_node (derives_any d1) (derives_any d2) s
derives_any (is_named d p) = is_named (derives_any d) p
derives_any (is_inside s t hs d ht e) = is_inside s t hs (derives_any d) ht e

pub some_any : {G : Grammar} {e : Ebnf} → HasSome G e → HasSome (of_any_version G) e
some_any h = record { tree = h.tree; tokens = h.tokens; derives = derives_any h.derives }

pub opens_any : {G : Grammar} {e : Ebnf} {front : List Terminal} → Opens G e front → Opens (of_any_version G) e front
opens_any o = record { tree = o.tree; rest = o.rest; derives = derives_any o.derives }

pub allowed_any : {G : Grammar} {e : Ebnf} {ts rest : List Terminal} → Allowed G e ts rest → Allowed (of_any_version G)
    e ts rest
allowed_any o = record {
  front = o.front;
  at = o.at;
  later = o.later;
  rest_is = o.rest_is;
  split = o.split;
  opens =
      opens_any o.opens;
}
