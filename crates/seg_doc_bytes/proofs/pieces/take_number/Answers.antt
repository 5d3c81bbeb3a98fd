use Rattle.seg_doc_bytes.proofs.Fronts.{number_taken}
use Rattle.seg_doc_bytes.proofs.pieces.take_number.Goals as goal

pub returns : goal.returns
returns c = number_taken c.args.bytes.now.now c.in_ok-word.word.now c.take_front.new.bytes.now c.u64_at.result c.in_ok-word.ensures c.u64_at.ensures
