use Rattle.seg_tool.proofs.Printed.{none_deleted}
use Rattle.seg_tool.proofs.segment_text.push_deleted.Goals as goal

pub returns-in-None : goal.returns-in-None
returns-in-None c = none_deleted c.args.out.now.items c.args.reader.now.documents c.args.reader.now.alive c.in-None.ensures
