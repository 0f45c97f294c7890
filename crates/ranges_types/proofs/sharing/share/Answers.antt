use Rattle.std.proofs.Common.{◌∙◌}
use Rattle.ranges_types.proofs.ShareSame.{share_same}
use Rattle.ranges_types.proofs.sharing.share.Goals as goal

pub returns : goal.returns
returns c = c.meets.ensures ∙ share_same _ _ c.in_ok-note_all.ensures _
