use Rattle.std.proofs.Common.{List, ℤ, [], ap, ◌∙◌}
use Rattle.std.proofs.lemmas.Result.{IfOk-weaker}
use Rattle.std.specs.List.{list_any}
use Rattle.expand_counting.specs.Nests.{instances}
use Rattle.expand_counting.specs.Conditions.{all_hold}
use Rattle.expand_counting.proofs.QuestionLaws.{empty_any}
use Rattle.expand_counting.proofs.questions.is_ever_empty.Goals as goal

pub returns : goal.returns
returns c =
    let xs : List (List ℤ) = instances c.args.outer.now [] in
    IfOk-weaker c.is_ever.result _ _
    (λ b h. h ∙ ap (λ cs. list_any (λ vs. all_hold vs cs) xs) (c.as_slice.ensures ∙ c.in_ok-leaf.ensures) ∙ empty_any
    c.args.range.now xs)
    c.is_ever.ensures
