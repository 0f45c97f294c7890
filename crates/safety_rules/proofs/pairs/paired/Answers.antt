use Rattle.std.proofs.Common.{None, refl}
use Rattle.case_tables.specs.declared.kind_table.Kind.{Kind}
use Rattle.safety_rules.specs.Answers.{site_of}
use Rattle.safety_rules.proofs.AnswerLaws.{paired_given}
use Rattle.safety_rules.proofs.pairs.paired.Goals as goal

pub returns : goal.returns
returns c =
    paired_given (site_of c.args.pl.now) c.args.a.now c.args.b.now Kind.Unless c.args.p c.args.q c.args.p c.args.q
    c.as_slice.result.now c.as_slice-2.result.now None None c.new.result c.conclude.result refl refl c.as_slice.ensures
    c.as_slice-2.ensures refl c.new.ensures c.conclude.ensures
