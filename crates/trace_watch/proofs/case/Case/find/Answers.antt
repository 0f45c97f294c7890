use Rattle.std.proofs.Common.{◌<◌, ◌∙◌, None, Some, ap, subst, sym}
use Rattle.std.specs.Prelude.{IfSome, option_to_list}
use Rattle.std.specs.Option.{option_map}
use Rattle.trace_watch.specs.Waiting.{CaseWaits, leads_from, leads_on_to, seen_at, waiting}
use Rattle.trace_watch.proofs.TraceLaws.{grown, last_more, one_choice}
use Rattle.trace_watch.proofs.case.Case.find.Goals as goal

pub returns-clause-stands : goal.returns-clause-stands
returns-clause-stands c = λ k r state states choices same seen within size h.
    let inside = subst (λ n. IfSome c.args.choice (λ m. m < n)) (sym h.instances) within in
    record {
      instances = c.see.ensures.instances ∙ h.instances;
      helper = c.see.ensures.helper ∙ h.helper;
      before = c.see.ensures.before ∙ ap Some (sym seen)
          ∙ ap (option_map (seen_at r)) (sym (last_more None states state));
      waits = subst (CaseWaits c.see.new.self)
          (grown r c.args.kind c.args.now state states choices (option_to_list c.args.choice)
          (one_choice c.args.choice) size same seen)
          (c.see.ensures.waits (waiting (leads_from r) (leads_on_to r) states choices) inside h.waits);
    }
