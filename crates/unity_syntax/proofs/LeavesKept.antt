-- The productions keep of numbers and classes no others than those of their tokens.
use Rattle.std.proofs.Common.{ℕ, zero, suc, List, [], ◌∷◌}
use Rattle.grammar_theory.specs.Ebnf.{Terminal, Tree, pair, left, right, none, some, nil, Ebnf, repeated, Derives}
use Rattle.grammar_theory.proofs.Leaves.{LeavesAre, TokensAre, KeepsLeaves, repeated_keeps, leaves_are}
use Rattle.unity_syntax.specs.Grammar.{second, first, chosen, make_parentheses, make_product, make_sum, make_compare}
use Rattle.unity_syntax.specs.Grammar.{make_unit, make_joined, make_pred, make_program, make_weaken, and_, or_}
use Rattle.unity_syntax.specs.Grammar.{at_number, bodies, grammar, end_, range_, atom_, product_, sum_, compare_, unit_}
use Rattle.unity_syntax.specs.Grammar.{joined_, pred_, parentheses_, values_, alts_, target_, comp_, assign_, item_}
use Rattle.unity_syntax.specs.Grammar.{items_, init_, def_, plain_, var_, plain_program_, program_, ref_, inst_}
use Rattle.unity_syntax.specs.Grammar.{other_term_, term_, rule_, claim_, param_, step_, proof_, multiple_, node_}
use Rattle.unity_syntax.specs.Grammar.{certificates_, schedule_, document_}
use Rattle.unity_syntax.proofs.Productions.{all_productions}

module _
    (T : Terminal → Type 0)
    (N C : ℕ → Type 0)
    (counted : (t : Terminal) → T t → N t.value)
    (told : (t : Terminal) → T t → C t.class)
  where
    -- of a tree, and of a form
    abbrev Within : Tree → Type 0
    Within = LeavesAre N C

    abbrev Keeps : Ebnf → Type 0
    Keeps = KeepsLeaves T N C

    keeps_repeated : (a : Ebnf) → Keeps a → Keeps (repeated a)
    keeps_repeated = repeated_keeps T N C

    -- what an action does with them
    abbrev ActionKeeps : (ℕ → Tree → Tree) → Type 0
    ActionKeeps action = (place : ℕ) (x : Tree) → Within x → Within (action place x)

    -- a token of which neither is kept
    abbrev TokenDropped : Type 0
    TokenDropped = (t : Terminal) → T t → Unit {0}

    dropped : TokenDropped
    dropped t h = tt

    second_kept : ActionKeeps second
    second_kept p (pair x y) h = h.1
    second_kept p x h = tt

    first_kept : ActionKeeps first
    first_kept p (pair x y) h = h.0
    first_kept p x h = tt

    chosen_kept : ActionKeeps chosen
    chosen_kept p (left x) h = h
    chosen_kept p (right x) h = h
    chosen_kept p x h = tt

    abbrev NodeKeeps : Type 0
    NodeKeeps = (place : ℕ) (x : Tree) → Within x → Within x

    node_kept : NodeKeeps
    node_kept p x h = h

    parentheses_kept : ActionKeeps make_parentheses
    parentheses_kept p (left x) h = h
    parentheses_kept p (right x) h = h
    parentheses_kept p x h = tt

    product_kept : ActionKeeps make_product
    product_kept p (pair x nil) h = h.0
    product_kept p x h = h

    sum_kept : ActionKeeps make_sum
    sum_kept p (pair none (pair x nil)) h = h.1.0
    sum_kept p x h = h

    compare_kept : ActionKeeps make_compare
    compare_kept p (pair x none) h = h.0
    compare_kept p (pair x (some y)) h = h
    compare_kept p x h = tt

    unit_kept : ActionKeeps make_unit
    unit_kept p (pair none x) h = h.1
    unit_kept p (pair (some y) x) h = h.1
    unit_kept p x h = tt

    joined_kept : ActionKeeps make_joined
    joined_kept p (pair x none) h = h.0
    joined_kept p (pair x (some (left xs))) h = h
    joined_kept p (pair x (some (right xs))) h = h
    joined_kept p x h = tt

    pred_kept : ActionKeeps make_pred
    pred_kept p (pair x none) h = h.0
    pred_kept p (pair x (some y)) h = h
    pred_kept p x h = tt

    program_kept : ActionKeeps make_program
    program_kept p (pair x (left y)) h = h
    program_kept p (pair x (right y)) h = h
    program_kept p x h = tt

    weaken_kept : ActionKeeps make_weaken
    weaken_kept p (left x) h = h
    weaken_kept p (right x) h = h
    weaken_kept p x h = tt

    -- what is made of forms that keep them
    past_ : {A : Type 0} → A → (TokenDropped × A) × ActionKeeps second
    past_ k = ((dropped, k), second_kept)

    up_to_ : {A : Type 0} → A → (A × TokenDropped) × ActionKeeps first
    up_to_ k = ((k, dropped), first_kept)

    or_else : {A B : Type 0} → A → B → (A × B) × ActionKeeps chosen
    or_else j k = ((j, k), chosen_kept)

    made_ : {A : Type 0} → A → A × NodeKeeps
    made_ k = (k, node_kept)

    one_or_more_ : {A : Type 0} → A → A × ((TokenDropped × A) × ActionKeeps second)
    one_or_more_ k = (k, past_ k)

    end_keeps : Keeps end_
    unfolding all_productions
    end_keeps = or_else (made_ (dropped, counted)) (made_ (dropped, (told, counted)))

    range_keeps : Keeps range_
    unfolding all_productions
    range_keeps = made_ (end_keeps, past_ end_keeps)

    over_range_ : {A : Type 0} → A → (TokenDropped) ×
        ((TokenDropped × (Keeps range_ × ((TokenDropped × A) × ActionKeeps second))) × ActionKeeps second)
    over_range_ k = (dropped, past_ (range_keeps, past_ k))

    atom_keeps : Keeps atom_
    unfolding all_productions
    atom_keeps = or_else (made_ counted)
        (or_else (made_ dropped) (or_else (made_ dropped) (or_else (made_ (dropped, tt)) (tt, parentheses_kept))))

    product_keeps : Keeps product_
    unfolding all_productions
    product_keeps = ((atom_keeps, (told, atom_keeps)), product_kept)

    sum_keeps : Keeps sum_
    unfolding all_productions
    sum_keeps = ((dropped, (product_keeps, (told, product_keeps))), sum_kept)

    compare_keeps : Keeps compare_
    unfolding all_productions
    compare_keeps = ((sum_keeps, (told, sum_keeps)), compare_kept)

    unit_keeps : Keeps unit_
    unfolding all_productions
    unit_keeps = ((dropped, compare_keeps), unit_kept)

    joined_keeps : Keeps joined_
    unfolding all_productions
    joined_keeps = (
      (unit_keeps, (keeps_repeated and_ (past_ unit_keeps), keeps_repeated or_ (past_ unit_keeps))),
      joined_kept,
    )

    pred_keeps : Keeps pred_
    unfolding all_productions
    pred_keeps = ((joined_keeps, past_ joined_keeps), pred_kept)

    parentheses_keep : Keeps parentheses_
    unfolding all_productions
    parentheses_keep = ((told, over_range_ pred_keeps), pred_keeps)

    values_keep : Keeps values_
    unfolding all_productions
    values_keep = made_ (one_or_more_ pred_keeps)

    alts_keep : Keeps alts_
    unfolding all_productions
    alts_keep = made_ (values_keep, past_ (pred_keeps, past_ (values_keep, past_ pred_keeps)))

    target_keeps : Keeps target_
    unfolding all_productions
    target_keeps = made_ (dropped, tt)

    comp_keeps : Keeps comp_
    unfolding all_productions
    comp_keeps = or_else (made_ (target_keeps, (past_ target_keeps, past_ alts_keep))) (made_ tt)

    assign_keeps : Keeps assign_
    unfolding all_productions
    assign_keeps = made_ (one_or_more_ comp_keeps)

    item_keeps : Keeps item_
    unfolding all_productions
    item_keeps = or_else (made_ (dropped, past_ assign_keeps)) (made_ tt)

    items_keep : Keeps items_
    unfolding all_productions
    items_keep = made_ (one_or_more_ item_keeps)

    init_keeps : Keeps init_
    unfolding all_productions
    init_keeps = made_ (
      dropped,
      (
        tt,
        past_
            (or_else (made_ (dropped, counted)) (or_else (made_ dropped) (or_else (made_ dropped) (made_ dropped)))),
      ),
    )

    def_keeps : Keeps def_
    unfolding all_productions
    def_keeps = made_ (dropped, past_ pred_keeps)

    plain_keeps : Keeps plain_
    unfolding all_productions
    plain_keeps = or_else (made_ dropped) (or_else (made_ range_keeps) (made_ tt))

    var_keeps : Keeps var_
    unfolding all_productions
    var_keeps = made_ (dropped, past_ (or_else (made_ plain_keeps) (made_ (past_ (range_keeps, past_ plain_keeps)))))

    plain_program_keeps : Keeps plain_program_
    unfolding all_productions
    plain_program_keeps = (
      past_ var_keeps,
      (past_ def_keeps, (made_ (past_ pred_keeps), (past_ (one_or_more_ init_keeps), past_ (up_to_ items_keep)))),
    )

    program_keeps : Keeps program_
    unfolding all_productions
    program_keeps = (past_ (dropped, (past_ (dropped, past_ (up_to_ dropped)), plain_program_keeps)), program_kept)

    ref_keeps : Keeps ref_
    unfolding all_productions
    ref_keeps = made_ (dropped, (past_ dropped, tt))

    inst_keeps : Keeps inst_
    unfolding all_productions
    inst_keeps = made_ (dropped, tt)

    other_term_keeps : Keeps other_term_
    unfolding all_productions
    other_term_keeps =
        or_else (made_ (past_ tt)) (or_else (made_ (past_ ref_keeps)) (or_else (made_ (told, tt))
        (or_else (made_ (past_ tt)) (or_else (made_ (past_ tt)) (made_ (past_ tt))))))

    term_keeps : Keeps term_
    unfolding all_productions
    term_keeps = or_else other_term_keeps (made_ (past_ tt))

    rule_keeps : Keeps rule_
    unfolding all_productions
    rule_keeps =
        or_else (made_ (past_ (past_ inst_keeps))) (or_else (past_ (ref_keeps, tt), weaken_kept)
        (or_else (made_ (told, (ref_keeps, ref_keeps))) (or_else (made_ (past_ ref_keeps))
        (or_else (made_ (past_ (ref_keeps, (ref_keeps, (ref_keeps, ref_keeps))))) (made_ other_term_keeps)))))

    claim_keeps : Keeps claim_
    unfolding all_productions
    claim_keeps =
        or_else (made_ dropped) (or_else (made_ (past_ pred_keeps))
        (or_else (made_ (past_ pred_keeps)) (or_else (made_ (past_ pred_keeps))
        (or_else (made_ (past_ pred_keeps)) (made_ (pred_keeps, (told, pred_keeps)))))))

    param_keeps : Keeps param_
    unfolding all_productions
    param_keeps = made_ (dropped, past_ range_keeps)

    step_keeps : Keeps step_
    unfolding all_productions
    step_keeps = made_ (dropped, (tt, past_ (claim_keeps, past_ (rule_keeps, up_to_ (past_ (one_or_more_ ref_keeps))))))

    proof_keeps : Keeps proof_
    unfolding all_productions
    proof_keeps = made_ (past_ (dropped, up_to_ step_keeps))

    multiple_keeps : Keeps multiple_
    unfolding all_productions
    multiple_keeps = made_ (dropped, (counted, past_ counted))

    node_keeps : Keeps node_
    unfolding all_productions
    node_keeps =
        or_else (made_ (past_ counted)) (or_else (made_ (past_ (counted, (dropped, counted))))
        (or_else (made_ (past_ multiple_keeps)) (or_else (made_ (past_ (dropped, (counted, multiple_keeps))))
        (or_else (made_ (past_ counted)) (made_ (past_ (dropped, (counted, multiple_keeps))))))))

    certificates_keep : Keeps certificates_
    unfolding all_productions
    certificates_keep = made_ (past_ (up_to_ (past_ (up_to_ node_keeps))))

    schedule_keeps : Keeps schedule_
    unfolding all_productions
    schedule_keeps = made_ (past_ (dropped, past_ (up_to_ (one_or_more_ inst_keeps))))

    document_keeps : Keeps document_
    unfolding all_productions
    document_keeps =
        made_ (past_ (
          made_ tt,
          (or_else (made_ program_keeps) (made_ proof_keeps), (schedule_keeps, certificates_keep)),
        ))

    -- all forms of a list keep them
    abbrev Each : List Ebnf → Type 0
    Each [] = Unit {0}
    Each (e ∷ es) = Keeps e × Each es

    each_number : (es : List Ebnf) → Each es → (k : ℕ) → Keeps (at_number es k)
    each_number [] each k = pred_keeps
    each_number (e ∷ es) each zero = each.0
    each_number (e ∷ es) each (suc k) = each_number es each.1 k

    all_keep : Each bodies
    unfolding all_productions
    all_keep = (
      parentheses_keep,
      (
        pred_keeps,
        (
          one_or_more_ dropped,
          (
            (dropped, counted),
            (
              one_or_more_ param_keeps,
              (
                one_or_more_ end_keeps,
                (
                  over_range_ assign_keeps,
                  (
                    over_range_ items_keep,
                    (
                      (pred_keeps, past_ pred_keeps),
                      (
                        (term_keeps, past_ term_keeps),
                        (
                          over_range_ term_keeps,
                          (
                            over_range_ (pred_keeps, past_ (pred_keeps, past_ (pred_keeps, past_ term_keeps))),
                            ((term_keeps, past_ ref_keeps), ((pred_keeps, past_ (pred_keeps, past_ term_keeps)), tt)),
                          ),
                        ),
                      ),
                    ),
                  ),
                ),
              ),
            ),
          ),
        ),
      ),
    )

    bodies_keep : (k : ℕ) → Keeps (grammar.body k)
    bodies_keep k = each_number bodies all_keep k

    pub document_leaves : {x : Tree} {ts : List Terminal} → Derives grammar document_ x ts → TokensAre T ts → Within x
    document_leaves d s = leaves_are T N C counted grammar bodies_keep d document_keeps s
