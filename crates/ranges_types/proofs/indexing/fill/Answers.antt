use Rattle.ranges_types.proofs.EachKind.{each_kind}
use Rattle.ranges_types.proofs.indexing.fill.Goals as goal

pub returns : goal.returns
returns c = record {
  meanings = c.in_ok-give_all.ensures;
  small = c.in_ok-all_small.ensures;
  numbered = each_kind _ _ c.in_ok-fill_places.ensures c.in_ok-fill_places-2.ensures
      c.in_ok-fill_places-3.ensures c.in_ok-fill_places-4.ensures;
}
