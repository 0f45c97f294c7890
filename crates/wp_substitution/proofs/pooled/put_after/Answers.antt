use Rattle.std.proofs.Common.{◌≡◌, ap, subst, arith}
use Rattle.std.specs.Prelude.{IfOk}
use Rattle.core_terms.specs.declared.trees.CTerm.TheVariants.{Param}
use Rattle.core_terms.specs.Pools.{form_or}
use Rattle.core_terms.specs.Replacing.{form_with}
use Rattle.wp_substitution.specs.Preconditions.{form_after}
use Rattle.wp_substitution.specs.Chains.{form_by}
use Rattle.wp_substitution.specs.Memos.{IsFormKnown}
use Rattle.wp_substitution.proofs.LightLaws.{after_light}
use Rattle.wp_substitution.proofs.pooled.put_after.Goals as goal

pub form_settled-requires-clause-known : goal.form_settled-requires-clause-known
form_settled-requires-clause-known c = c.in_ok-memo.ensures.known c.in_ok-chains.chains

pub form_settled-requires-clause-part : goal.form_settled-requires-clause-part
form_settled-requires-clause-part c = record {
  place = omega (arith, c.requires.id, c.in_ok-memo.ensures.forms);
  weight = after_light (form_or c.args.pool.now.forms c.args.q.place) c.requires.weight;
}

pub returns-clause-known : goal.returns-clause-known
returns-clause-known c =
    let f = form_or c.args.pool.now.forms c.args.q.place in
    let same : form_by c.in_ok-chains.chains f ≡ form_after c.args.writes.now f =
    ap (λ slots. form_with slots (λ n. Param n) f) (λ i n. c.in_ok-chains.ensures.terms n i) in
    subst (λ g. IfOk c.form_settled.result (IsFormKnown c.form_settled.new.pool g)) same c.form_settled.ensures.known
