use Rattle.std.proofs.Common.{drop}
use Rattle.expand_declarations.proofs.LayoutLaws.{AheadParts}
use Rattle.expand_declarations.proofs.layout.lay_parts.Given as goal

abbrev pub invariant-loop-i : goal.invariant-loop-i
invariant-loop-i l = AheadParts l.words l.layout l.i (drop l.i l.parts) l.initial.layout l.parts
