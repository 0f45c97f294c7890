use Rattle.unity_base.proofs.window.Window.look.Goals as goal

pub returns-clause-seen : goal.returns-clause-seen
returns-clause-seen g c = c.held_at.ensures (g.S.Source.left c.reads.src)
