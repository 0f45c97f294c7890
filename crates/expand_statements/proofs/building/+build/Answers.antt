use Rattle.std.proofs.Common.{◌∷◌, ◌++◌, ℤ, List, map, sym, ap, ◌∙◌, rules}
use Rattle.std.proofs.Common.{FitsSigned, w64}
use Rattle.std.proofs.lemmas.Int.{to_z-of_z}
use Rattle.std.specs.List.{flat_map}
use Rattle.unity_syntax.specs.declared.statement.Item.{Item}
use Rattle.unity_syntax.specs.declared.statement.Items.{Items}
use Rattle.meaning_documents.specs.Instances.{Instance}
use Rattle.meaning_executions.specs.Counting.{count_up}
use Rattle.core_terms.specs.declared.programs.CStmt.{CStmt}
use Rattle.expand_statements.specs.Building.{fit_item, fit_items, made_at, site_numbers}
use Rattle.expand_statements.proofs.BuildLaws.{fit-Quantified, fit-parts, gives_same, gives_both, made_number}
use Rattle.expand_statements.proofs.building.+build.Goals as goal

pub push_item-returns-in-Quantified : goal.push_item-returns-in-Quantified
push_item-returns-in-Quantified t c =
    let made : Instance → CStmt = made_at c.args.site.now in
    let b = site_numbers c.args.site.now in
    let q = c.in-Quantified in
    let taken = c.range_numbers-numbers.result in
    gives_same c.push_numbers.result c.push_numbers.new.list c.args.list.now
    (map made (flat_map (λ z. fit_items c.get.result.now ((q.name.text, z) ∷ b)) (count_up taken.first taken.count)))
    (map made (fit_item c.args.item.now b))
    (ap (λ (x : Items). map made (flat_map (λ z. fit_items x ((q.name.text, z) ∷ b))
    (count_up taken.first taken.count))) c.get.ensures
    ∙ ap (λ (zs : List ℤ). map made (flat_map (λ z. fit_items q.of ((q.name.text, z) ∷ b)) zs))
    (sym c.range_numbers-numbers.ensures.values)
    ∙ ap (map made) (sym (fit-Quantified q.at q.name q.range q.of b))
    ∙ ap (λ (x : Item). map made (fit_item x b)) (sym q.is)) c.push_numbers.ensures

pub push_numbers-loop-i-preserved : goal.push_numbers-loop-i-preserved
push_numbers-loop-i-preserved t c =
    let made : Instance → CStmt = made_at c.args.site.now in
    let b = site_numbers c.args.site.now in
    let each : ℤ → List Instance = λ z. fit_items c.args.of.now ((c.args.name.now.text, z) ∷ b) in
    let fits : FitsSigned w64 c.number_at-number.result = search rules in
    made_number made each c.args.taken.now.first c.loop-i.i c.args.taken.now.count c.loop-i.list
    c.push_number.new.list
    (c.args.list.now ++ map made (flat_map each (count_up c.args.taken.now.first c.args.taken.now.count)))
    c.loop-i-test.true c.loop-i.invariant
    (c.in_ok-push_number.ensures
    ∙ ap (λ z. c.loop-i.list ++ map made (each z))
    (to_z-of_z w64 c.number_at-number.result fits ∙ c.number_at-number.ensures))

pub push_all-returns : goal.push_all-returns
push_all-returns t c =
    let made : Instance → CStmt = made_at c.args.site.now in
    let b = site_numbers c.args.site.now in
    let x = c.args.items.now in
    gives_both c.push_further.result made c.args.list.now c.push_item.new.list c.push_further.new.list
    (fit_item x.first b)
    (flat_map (λ i. fit_item i b) x.rest) (fit_items x b) c.in_ok-push_item.ensures (sym (fit-parts x b))
    c.push_further.ensures
