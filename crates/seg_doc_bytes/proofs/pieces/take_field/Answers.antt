use Rattle.std.proofs.Common.{◌∙◌, sym}
use Rattle.seg_doc_bytes.proofs.TakenFields.{pair_front, pair_refused}
use Rattle.seg_doc_bytes.proofs.pieces.take_field.Goals as goal

pub returns-then-begins_with : goal.returns-then-begins_with
returns-then-begins_with c = pair_refused c.args.bytes.now.now c.take_small.new.bytes.now c.in_ok-field.field c.in_ok-field.ensures (sym c.begins_with.ensures ∙ c.if-begins_with.true)

pub returns : goal.returns
returns c = pair_front c.args.bytes.now.now c.take_small.new.bytes.now c.in_ok-field.field c.in_ok-field.ensures (sym c.begins_with.ensures ∙ c.if-begins_with.false)
