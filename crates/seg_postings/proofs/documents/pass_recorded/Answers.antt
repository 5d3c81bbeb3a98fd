use Rattle.seg_postings.proofs.PassedPositions.{presence_passed, frequency_passed, positions_passed}
use Rattle.seg_postings.proofs.documents.pass_recorded.Goals as goal

pub returns-in-Documents : goal.returns-in-Documents
returns-in-Documents c = presence_passed c.args.kind c.args.count c.args.bytes.now.now c.in-Documents.is

pub returns-in-Counts : goal.returns-in-Counts
returns-in-Counts c = frequency_passed c.args.kind c.args.count c.args.bytes.now.now c.in-Counts.is

pub returns-in-Positions : goal.returns-in-Positions
returns-in-Positions c = positions_passed c.args.kind c.args.count c.args.bytes.now.now c.pass_positions.new.bytes.now c.pass_positions.result c.in-Positions.is c.pass_positions.ensures
