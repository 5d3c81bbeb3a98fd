use Rattle.seg_merger.specs.JoinedTerms.{IsOpenAt}
use Rattle.seg_merger.proofs.NumberedParts.{part_at, one_source, all_pushed}
use Rattle.seg_merger.proofs.joined_terms.sources_of.Goals as goal

pub source-requires : goal.source-requires
source-requires c = part_at (IsOpenAt c.args.field) c.args.parts.now c.loop-part.part-index c.part-item.result c.loop-part-test.true c.part-item.is c.requires

pub loop-part-preserved : goal.loop-part-preserved
loop-part-preserved c = record {
  are = one_source c.args.field c.args.parts.now c.loop-part.part-index c.part-item.result c.loop-part-test.true c.part-item.is c.loop-part.sources.items c.push.new.self.items _ c.source.result c.loop-part.invariant.are c.in_ok-push.ensures.items c.source.ensures.is;
  ascend = all_pushed _ c.loop-part.sources.items c.push.new.self.items c.source.result c.in_ok-push.ensures.items c.loop-part.invariant.ascend c.source.ensures.ascend;
}
