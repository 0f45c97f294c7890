use Rattle.std.proofs.Common.{◌≡◌, Option, Some, None, ℕ, refl, sym, ◌∙◌}
use Rattle.unity_lexer.proofs.ScanSteps.{start_passed}
use Rattle.streamed_documents.proofs.Hearings.{stays_same}
use Rattle.streamed_documents.proofs.SectionSteps.{behind_at, not_none}
use Rattle.streamed_documents.proofs.behind.read_behind.Goals as goal

pub read_section-requires-clause-version : goal.read_section-requires-clause-version
read_section-requires-clause-version g c = c.requires.version c.in-Some.version c.in-Some.is

pub read_section-requires-clause-ready : goal.read_section-requires-clause-ready
read_section-requires-clause-ready g c = c.requires.ready

pub returns-in-Some-clause-behind : goal.returns-in-Some-clause-behind
returns-in-Some-clause-behind g c =
    behind_at c.args.w.now (g.S.Source.left c.args.src.now) c.args.version c.in-Some.version c.in-Some.is
    c.args.pending.now c.read_section.new.pending c.read_section.result c.read_section.ensures.behind

pub returns-in-Some-clause-none : goal.returns-in-Some-clause-none
returns-in-Some-clause-none g c =
    not_none c.args.w.now (g.S.Source.left c.args.src.now) c.args.version c.in-Some.version c.in-Some.is
    c.args.pending.now c.read_section.new.pending c.read_section.result

pub returns-in-None-clause-behind : goal.returns-in-None-clause-behind
returns-in-None-clause-behind g c = λ v e bytes told.
    let no : ◌≡◌ {A = Option ℕ} None (Some v) = sym c.in-None.is ∙ e in
    absurd cc

pub returns-in-None-clause-none : goal.returns-in-None-clause-none
returns-in-None-clause-none g c = λ none. (refl, refl)

pub returns-in-None-clause-end : goal.returns-in-None-clause-end
returns-in-None-clause-end g c = c.requires.none c.in-None.is

pub returns-in-None-clause-passed : goal.returns-in-None-clause-passed
returns-in-None-clause-passed g c = start_passed c.args.w.now (g.S.Source.left c.args.src.now)

pub returns-in-None-clause-ready : goal.returns-in-None-clause-ready
returns-in-None-clause-ready g c = stays_same c.args.pending.now c.requires.ready
