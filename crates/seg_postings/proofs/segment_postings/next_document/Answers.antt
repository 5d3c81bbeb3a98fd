use Rattle.std.proofs.Common.{arith, ◌-◌}
use Rattle.seg_postings.proofs.PostingsStreams.{last, goes_on, end_reads}
use Rattle.seg_postings.proofs.segment_postings.next_document.Goals as goal

pub returns-then-left-eq0-clause-left : goal.returns-then-left-eq0-clause-left
returns-then-left-eq0-clause-left c = last c.args.kind c.args.current c.args.left c.args.postings.now.now c.args.positions.now.now c.pass_recorded.new.bytes.now c.pass_recorded.result c.requires c.pass_recorded.ensures (omega (arith, c.if-left-eq0.true)) c.args.postings.now.now

pub returns-then-left-eq0-clause-read : goal.returns-then-left-eq0-clause-read
returns-then-left-eq0-clause-read c = end_reads c.args.kind (c.args.left - 1) c.args.postings.now.now c.pass_recorded.new.bytes.now

pub returns-clause-left : goal.returns-clause-left
returns-clause-left c =
    let g = goes_on c.args.kind c.args.current c.args.left c.args.postings.now.now c.args.positions.now.now c.pass_recorded.new.bytes.now c.pass_recorded.result c.requires c.pass_recorded.ensures (omega (arith, c.if-left-eq0.false)) c.take_document.new.bytes.now c.take_document.result c.take_document.ensures.read in
    g.left

pub returns-clause-read : goal.returns-clause-read
returns-clause-read c =
    let g = goes_on c.args.kind c.args.current c.args.left c.args.postings.now.now c.args.positions.now.now c.pass_recorded.new.bytes.now c.pass_recorded.result c.requires c.pass_recorded.ensures (omega (arith, c.if-left-eq0.false)) c.take_document.new.bytes.now c.take_document.result c.take_document.ensures.read in
    g.read
