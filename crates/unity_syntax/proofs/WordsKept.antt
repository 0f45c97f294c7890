-- The productions make no words, and put none elsewhere.
use Rattle.std.proofs.Common.{ℕ, zero, suc, List, [], ◌∷◌}
use Rattle.grammar_theory.specs.Ebnf.{Terminal, Tree, pair, left, right, none, some, nil, Ebnf}
use Rattle.grammar_theory.specs.Words.{words, spelled, IsSublist, is_done, is_left_out, is_kept, KeepsWords}
use Rattle.grammar_theory.proofs.WordOrder.{none_kept, all_kept, kept_first, kept_second, keeps_repeated}
use Rattle.unity_syntax.specs.Grammar.{second, first, chosen, make_parentheses, make_product, make_sum, make_compare}
use Rattle.unity_syntax.specs.Grammar.{make_unit, make_joined, make_pred, make_program, make_weaken, and_, or_}
use Rattle.unity_syntax.specs.Grammar.{at_number, bodies, grammar, end_, range_, atom_, product_, sum_, compare_, unit_}
use Rattle.unity_syntax.specs.Grammar.{joined_, pred_, parentheses_, values_, alts_, target_, comp_, assign_, item_}
use Rattle.unity_syntax.specs.Grammar.{items_, init_, def_, plain_, var_, plain_program_, program_, ref_, inst_}
use Rattle.unity_syntax.specs.Grammar.{other_term_, term_, rule_, claim_, param_, step_, proof_, multiple_, node_}
use Rattle.unity_syntax.specs.Grammar.{certificates_, schedule_, document_}
use Rattle.unity_syntax.proofs.Productions.{all_productions}

-- what an action does with words
abbrev ActionKeeps : (ℕ → Tree → Tree) → Type 0
ActionKeeps action = (place : ℕ) (x : Tree) → IsSublist (words (action place x)) (words x)

abbrev TokenDropped : Type 0
TokenDropped = (t : Terminal) → IsSublist [] (spelled (t ∷ []))

dropped : TokenDropped
dropped t = is_left_out is_done

kept : (t : Terminal) → IsSublist (spelled (t ∷ [])) (spelled (t ∷ []))
kept t = is_kept is_done

second_kept : ActionKeeps second
second_kept p (pair x y) = kept_second (words x) (words y)
second_kept p x = none_kept (words x)

first_kept : ActionKeeps first
first_kept p (pair x y) = kept_first (words x) (words y)
first_kept p x = none_kept (words x)

chosen_kept : ActionKeeps chosen
chosen_kept p (left x) = all_kept (words x)
chosen_kept p (right x) = all_kept (words x)
chosen_kept p x = none_kept (words x)

node_kept : (p : ℕ) (x : Tree) → IsSublist (words x) (words x)
node_kept p x = all_kept (words x)

parentheses_kept : ActionKeeps make_parentheses
parentheses_kept p (left x) = all_kept (words x)
parentheses_kept p (right x) = all_kept (words x)
parentheses_kept p x = none_kept (words x)

product_kept : ActionKeeps make_product
product_kept p (pair x nil) = kept_first (words x) []
product_kept p x = all_kept (words x)

sum_kept : ActionKeeps make_sum
sum_kept p (pair none (pair x nil)) = kept_first (words x) []
sum_kept p x = all_kept (words x)

compare_kept : ActionKeeps make_compare
compare_kept p (pair x none) = kept_first (words x) []
compare_kept p (pair x (some y)) = all_kept (words (pair x y))
compare_kept p x = none_kept (words x)

unit_kept : ActionKeeps make_unit
unit_kept p (pair none x) = all_kept (words x)
unit_kept p (pair (some y) x) = kept_second (words y) (words x)
unit_kept p x = none_kept (words x)

joined_kept : ActionKeeps make_joined
joined_kept p (pair x none) = kept_first (words x) []
joined_kept p (pair x (some (left xs))) = all_kept (words (pair x xs))
joined_kept p (pair x (some (right xs))) = all_kept (words (pair x xs))
joined_kept p x = none_kept (words x)

pred_kept : ActionKeeps make_pred
pred_kept p (pair x none) = kept_first (words x) []
pred_kept p (pair x (some y)) = all_kept (words (pair x y))
pred_kept p x = none_kept (words x)

program_kept : ActionKeeps make_program
program_kept p (pair x (left y)) = all_kept (words (pair x y))
program_kept p (pair x (right y)) = all_kept (words (pair x y))
program_kept p x = none_kept (words x)

weaken_kept : ActionKeeps make_weaken
weaken_kept p (left x) = all_kept (words x)
weaken_kept p (right x) = all_kept (words x)
weaken_kept p x = none_kept (words x)

-- what is made of forms that keep words
past_ : {A : Type 0} → A → (TokenDropped × A) × ActionKeeps second
past_ k = ((dropped, k), second_kept)

up_to_ : {A : Type 0} → A → (A × TokenDropped) × ActionKeeps first
up_to_ k = ((k, dropped), first_kept)

or_else : {A B : Type 0} → A → B → (A × B) × ActionKeeps chosen
or_else j k = ((j, k), chosen_kept)

made_ : {A : Type 0} → A → A × ((p : ℕ) (x : Tree) → IsSublist (words x) (words x))
made_ k = (k, node_kept)

one_or_more_ : {A : Type 0} → A → A × ((TokenDropped × A) × ActionKeeps second)
one_or_more_ k = (k, past_ k)

end_keeps : KeepsWords end_
unfolding all_productions
end_keeps = or_else (made_ (dropped, dropped)) (made_ (kept, (dropped, dropped)))

range_keeps : KeepsWords range_
unfolding all_productions
range_keeps = made_ (end_keeps, past_ end_keeps)

over_range_ : {A : Type 0} → A → ((t : Terminal) → IsSublist (spelled (t ∷ [])) (spelled (t ∷ []))) ×
    ((TokenDropped × (KeepsWords range_ × ((TokenDropped × A) × ActionKeeps second))) × ActionKeeps second)
over_range_ k = (kept, past_ (range_keeps, past_ k))

atom_keeps : KeepsWords atom_
unfolding all_productions
atom_keeps = or_else (made_ dropped)
    (or_else (made_ dropped) (or_else (made_ dropped) (or_else (made_ (kept, tt)) (tt, parentheses_kept))))

product_keeps : KeepsWords product_
unfolding all_productions
product_keeps = ((atom_keeps, (dropped, atom_keeps)), product_kept)

sum_keeps : KeepsWords sum_
unfolding all_productions
sum_keeps = ((dropped, (product_keeps, (dropped, product_keeps))), sum_kept)

compare_keeps : KeepsWords compare_
unfolding all_productions
compare_keeps = ((sum_keeps, (dropped, sum_keeps)), compare_kept)

unit_keeps : KeepsWords unit_
unfolding all_productions
unit_keeps = ((dropped, compare_keeps), unit_kept)

joined_keeps : KeepsWords joined_
unfolding all_productions
joined_keeps = (
  (unit_keeps, (keeps_repeated and_ (past_ unit_keeps), keeps_repeated or_ (past_ unit_keeps))),
  joined_kept,
)

pred_keeps : KeepsWords pred_
unfolding all_productions
pred_keeps = ((joined_keeps, past_ joined_keeps), pred_kept)

parentheses_keep : KeepsWords parentheses_
unfolding all_productions
parentheses_keep = ((dropped, over_range_ pred_keeps), pred_keeps)

values_keep : KeepsWords values_
unfolding all_productions
values_keep = made_ (one_or_more_ pred_keeps)

alts_keep : KeepsWords alts_
unfolding all_productions
alts_keep = made_ (values_keep, past_ (pred_keeps, past_ (values_keep, past_ pred_keeps)))

target_keeps : KeepsWords target_
unfolding all_productions
target_keeps = made_ (kept, tt)

comp_keeps : KeepsWords comp_
unfolding all_productions
comp_keeps = or_else (made_ (target_keeps, (past_ target_keeps, past_ alts_keep))) (made_ tt)

assign_keeps : KeepsWords assign_
unfolding all_productions
assign_keeps = made_ (one_or_more_ comp_keeps)

item_keeps : KeepsWords item_
unfolding all_productions
item_keeps = or_else (made_ (kept, past_ assign_keeps)) (made_ tt)

items_keep : KeepsWords items_
unfolding all_productions
items_keep = made_ (one_or_more_ item_keeps)

init_keeps : KeepsWords init_
unfolding all_productions
init_keeps = made_ (
  kept,
  (
    tt,
    past_
        (or_else (made_ (dropped, dropped)) (or_else (made_ kept) (or_else (made_ dropped) (made_ dropped)))),
  ),
)

def_keeps : KeepsWords def_
unfolding all_productions
def_keeps = made_ (kept, past_ pred_keeps)

plain_keeps : KeepsWords plain_
unfolding all_productions
plain_keeps = or_else (made_ dropped) (or_else (made_ range_keeps) (made_ tt))

var_keeps : KeepsWords var_
unfolding all_productions
var_keeps = made_ (kept, past_ (or_else (made_ plain_keeps) (made_ (past_ (range_keeps, past_ plain_keeps)))))

plain_program_keeps : KeepsWords plain_program_
unfolding all_productions
plain_program_keeps = (
  past_ var_keeps,
  (past_ def_keeps, (made_ (past_ pred_keeps), (past_ (one_or_more_ init_keeps), past_ (up_to_ items_keep)))),
)

program_keeps : KeepsWords program_
unfolding all_productions
program_keeps = (past_ (kept, (past_ (kept, past_ (up_to_ kept)), plain_program_keeps)), program_kept)

ref_keeps : KeepsWords ref_
unfolding all_productions
ref_keeps = made_ (kept, (past_ kept, tt))

inst_keeps : KeepsWords inst_
unfolding all_productions
inst_keeps = made_ (kept, tt)

other_term_keeps : KeepsWords other_term_
unfolding all_productions
other_term_keeps =
    or_else (made_ (past_ tt)) (or_else (made_ (past_ ref_keeps)) (or_else (made_ (dropped, tt))
    (or_else (made_ (past_ tt)) (or_else (made_ (past_ tt)) (made_ (past_ tt))))))

term_keeps : KeepsWords term_
unfolding all_productions
term_keeps = or_else other_term_keeps (made_ (past_ tt))

rule_keeps : KeepsWords rule_
unfolding all_productions
rule_keeps =
    or_else (made_ (past_ (past_ inst_keeps))) (or_else (past_ (ref_keeps, tt), weaken_kept)
    (or_else (made_ (dropped, (ref_keeps, ref_keeps))) (or_else (made_ (past_ ref_keeps))
    (or_else (made_ (past_ (ref_keeps, (ref_keeps, (ref_keeps, ref_keeps))))) (made_ other_term_keeps)))))

claim_keeps : KeepsWords claim_
unfolding all_productions
claim_keeps =
    or_else (made_ dropped) (or_else (made_ (past_ pred_keeps))
    (or_else (made_ (past_ pred_keeps)) (or_else (made_ (past_ pred_keeps)) (or_else (made_ (past_ pred_keeps))
    (made_ (pred_keeps, (dropped, pred_keeps)))))))

param_keeps : KeepsWords param_
unfolding all_productions
param_keeps = made_ (kept, past_ range_keeps)

step_keeps : KeepsWords step_
unfolding all_productions
step_keeps = made_ (kept, (tt, past_ (claim_keeps, past_ (rule_keeps, up_to_ (past_ (one_or_more_ ref_keeps))))))

proof_keeps : KeepsWords proof_
unfolding all_productions
proof_keeps = made_ (past_ (kept, up_to_ step_keeps))

multiple_keeps : KeepsWords multiple_
unfolding all_productions
multiple_keeps = made_ (dropped, (dropped, past_ dropped))

node_keeps : KeepsWords node_
unfolding all_productions
node_keeps =
    or_else (made_ (past_ dropped)) (or_else (made_ (past_ (dropped, (dropped, dropped))))
    (or_else (made_ (past_ multiple_keeps)) (or_else (made_ (past_ (dropped, (dropped, multiple_keeps))))
    (or_else (made_ (past_ dropped)) (made_ (past_ (dropped, (dropped, multiple_keeps))))))))

certificates_keep : KeepsWords certificates_
unfolding all_productions
certificates_keep = made_ (past_ (up_to_ (past_ (up_to_ node_keeps))))

schedule_keeps : KeepsWords schedule_
unfolding all_productions
schedule_keeps = made_ (past_ (kept, past_ (up_to_ (one_or_more_ inst_keeps))))

pub document_keeps : KeepsWords document_
unfolding all_productions
document_keeps =
    made_ (past_ (made_ tt, (or_else (made_ program_keeps) (made_ proof_keeps), (schedule_keeps, certificates_keep))))

-- all forms of a list keep words
abbrev Each : List Ebnf → Type 0
Each [] = Unit {0}
Each (e ∷ es) = KeepsWords e × Each es

each_number : (es : List Ebnf) → Each es → (k : ℕ) → KeepsWords (at_number es k)
each_number [] each k = pred_keeps
each_number (e ∷ es) each zero = each.0
each_number (e ∷ es) each (suc k) = each_number es each.1 k

all_keep : Each bodies
unfolding all_productions
all_keep = (
  parentheses_keep,
  (
    pred_keeps,
    (
      one_or_more_ kept,
      (
        (dropped, dropped),
        (
          one_or_more_ param_keeps,
          (
            one_or_more_ end_keeps,
            (
              over_range_ assign_keeps,
              (
                over_range_ items_keep,
                (
                  (pred_keeps, past_ pred_keeps),
                  (
                    (term_keeps, past_ term_keeps),
                    (
                      over_range_ term_keeps,
                      (
                        over_range_ (pred_keeps, past_ (pred_keeps, past_ (pred_keeps, past_ term_keeps))),
                        ((term_keeps, past_ ref_keeps), ((pred_keeps, past_ (pred_keeps, past_ term_keeps)), tt)),
                      ),
                    ),
                  ),
                ),
              ),
            ),
          ),
        ),
      ),
    ),
  ),
)

pub bodies_keep : (k : ℕ) → KeepsWords (grammar.body k)
bodies_keep k = each_number bodies all_keep k
