use Rattle.std.proofs.Common.{◌∙◌, ap, sym, Some, subst}
use Rattle.std.specs.Str.{IsUtf8}
use Rattle.seg_doc_bytes.proofs.Fronts.{text_taken, text_refused}
use Rattle.seg_doc_bytes.proofs.pieces.take_text.Goals as goal

pub returns-in-Ok : goal.returns-in-Ok
returns-in-Ok c =
    text_taken c.args.bytes.now.now c.in-Ok.text.now c.take_sized.new.bytes.now
    (c.in_ok-text.ensures ∙ ap (λ t. Some (t, c.take_sized.new.bytes.now)) (sym c.in-Ok.ensures.cases.0))
    (subst IsUtf8 (sym c.in-Ok.ensures.cases.0) c.in-Ok.ensures.cases.1)

pub returns-in-Err : goal.returns-in-Err
returns-in-Err c = text_refused c.args.bytes.now.now c.in_ok-text.text.now c.take_sized.new.bytes.now c.in_ok-text.ensures c.in-Err.ensures.cases.0
