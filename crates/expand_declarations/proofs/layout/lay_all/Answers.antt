use Rattle.std.proofs.Common.{subst, ◌+◌, drop, List, [], ◌∷◌, Bool}
use Rattle.unity_syntax.specs.declared.declaration.Var.{Var}
use Rattle.expand_declarations.specs.Slots.{Lays}
use Rattle.expand_declarations.proofs.LayoutLaws.{Ahead, ahead_past, drop_item}
use Rattle.expand_declarations.proofs.layout.lay_all.Goals as goal

pub returns-then-not-branch : goal.returns-then-not-branch
returns-then-not-branch c = let v = c.v-item.result in
    ahead_past c.args.words.now c.loop-v.layout c.args.layout.now (v ∷ []) (drop (c.loop-v.v-index + 1) c.args.vs.now)
    c.args.vs.now
    (subst (λ (ds : List Var). Ahead c.args.words.now c.loop-v.layout ds c.args.layout.now c.args.vs.now)
    (drop_item c.args.vs.now c.loop-v.v-index v c.loop-v-test.true c.v-item.is) c.loop-v.invariant)
    (subst (λ (b : Bool). Lays c.args.words.now b c.loop-v.layout c.lay.new.layout (v ∷ [])) c.if-not-branch.true
    c.in_ok-lay.ensures)
