-- Chains that were tried.
use Rattle.std.proofs.Common.{◌≡◌, ◌+◌, ◌≤◌, ◌<◌, true, List, length, arith}
use Rattle.std.specs.List.{list_all}
use Rattle.obligations.specs.declared.branches.Fact.{Fact}
use Rattle.obligations.specs.declared.branches.Variable.{Variable}
use Rattle.obligations.specs.declared.certificates.Node.{Node}
use Rattle.obligations.specs.Certificates.{units}
use Rattle.linear_prover.specs.Chains.{Closes, ClosesShortly, is_plain_node}
use Rattle.search_tree.specs.declared.trail.Trail.{Trail}
use Rattle.search_tree.specs.declared.trail.Ended.{Ended}
use Rattle.search_tree.specs.Searching.{Finishes, TriedShortly}

pub tried-short : (vs : List Variable) (facts : List Fact) (ns : List Node) (old new : Trail) (e : Ended) →
    ClosesShortly (length vs) facts ns → Finishes ns old new e → TriedShortly (length vs) facts old new e
tried-short vs facts ns old new e c f =
    let rounds = c.short.rounds in let cheap = c.short.cheap in
    record {
      nodes = ns;
      closes = c.closes;
      short = omega (arith, rounds);
      cheap = omega (arith, cheap);
      plain = c.short.plain;
      finished = f;
    }

pub tried-found : (vs : List Variable) (facts : List Fact) (ns : List Node) (old new : Trail) (e : Ended) →
    Closes (length vs) facts ns → (length ns ≤ 64) × (units ns < length vs + 256) → list_all is_plain_node ns ≡ true →
    Finishes ns old new e → TriedShortly (length vs) facts old new e
tried-found vs facts ns old new e c s p f =
    let cheap = s.1 in record {
      nodes = ns;
      closes = c;
      short = s.0;
      cheap = omega (arith, cheap);
      plain = p;
      finished
          = f;
    }

pub ruleset reach_laws = tried-short

pub ruleset found_laws = tried-found
