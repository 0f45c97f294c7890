use Rattle.std.proofs.Common.{◌≡◌, Bool, true, false, Some, refl, sym, ap, ◌∙◌, rules}
use Rattle.std.specs.Bool.{OnTrue}
use Rattle.core_terms.specs.contracts.nodes.FormNodePartialEq.TheImpl.{eq-value}
use Rattle.core_terms.specs.declared.nodes.FormNode.{FormNode}
use Rattle.core_terms.specs.Pools.{form_of_node}
use Rattle.wp_substitution.proofs.nodes.is_form_node.Goals as goal

exact : (j k : FormNode) → eq-value.it j k ≡ true → j ≡ k
exact j k e = search rules

told : (b : Bool) (P : Type 0) → (b ≡ true → P) → OnTrue b P
told true P h = h refl
told false P h = tt

pub returns : goal.returns
returns c =
    let p = c.args.pool.now in
    told _ _ (λ e. c.form_node.ensures.tree ∙ ap (λ k. Some (form_of_node p.forms p.terms k))
    (exact c.form_node.result c.args.node (sym c.eq.ensures ∙ e)))
