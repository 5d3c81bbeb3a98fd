use Rattle.seg_merger.proofs.MergedKeys.{none_merged, all_merged, standings_told, may_open, one_merged, fewer}
use Rattle.seg_merger.proofs.term_merge.write_terms.Goals as goal

pub loop-places-init : goal.loop-places-init
loop-places-init c = none_merged c.args.sources.now c.in_ok-merger.merger c.args.writer.now c.in_ok-merger.ensures c.requires.unwritten

pub join_term-requires-clause-standings : goal.join_term-requires-clause-standings
join_term-requires-clause-standings c = standings_told c.args.sources.now c.loop-places.merger c.advance.new.merger c.args.writer.now c.loop-places.writer c.loop-places.invariant c.in_ok-advance.ensures.ok c.in_ok-advance.field-0 c.in_ok-advance.ensures.more c.if-branch.true c.key.result.now c.key.ensures c.current_segment_ords_and_term_infos.result.now c.current_segment_ords_and_term_infos.ensures

pub join_term-requires-clause-opens : goal.join_term-requires-clause-opens
join_term-requires-clause-opens c = may_open c.args.sources.now c.loop-places.merger c.advance.new.merger c.args.writer.now c.loop-places.writer c.loop-places.invariant c.in_ok-advance.ensures.ok c.in_ok-advance.field-0 c.in_ok-advance.ensures.more c.if-branch.true c.key.result.now c.key.ensures

pub loop-places-preserved : goal.loop-places-preserved
loop-places-preserved c = one_merged c.args.sources.now c.loop-places.merger c.advance.new.merger c.args.writer.now c.loop-places.writer c.loop-places.invariant c.in_ok-advance.ensures.ok c.in_ok-advance.field-0 c.in_ok-advance.ensures.more c.if-branch.true c.key.result.now c.key.ensures c.join_term.new.writer c.in_ok-join_term.ensures

pub loop-places-smaller : goal.loop-places-smaller
loop-places-smaller c = fewer c.args.sources.now c.loop-places.merger c.advance.new.merger c.args.writer.now c.loop-places.writer c.loop-places.invariant c.in_ok-advance.ensures.ok c.in_ok-advance.field-0 c.in_ok-advance.ensures.more c.if-branch.true c.key.result.now c.key.ensures

pub returns : goal.returns
returns c = all_merged c.args.sources.now c.loop-places.merger c.advance.new.merger c.args.writer.now c.loop-places.writer c.loop-places.invariant c.in_ok-advance.ensures.ok c.in_ok-advance.field-0 c.in_ok-advance.ensures.more c.if-branch.false
