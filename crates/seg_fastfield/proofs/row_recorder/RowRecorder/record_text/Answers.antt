use Rattle.seg_model.specs.Columns.{text_value}
use Rattle.seg_fastfield.proofs.LeafRecords.{may_be_recorded, still_under_way}
use Rattle.seg_fastfield.proofs.row_recorder.RowRecorder.record_text.Goals as goal

pub returns-in_default-clause-under_way : goal.returns-in_default-clause-under_way
returns-in_default-clause-under_way g c =
    still_under_way c.args.self.now.schema.now c.args.self.now.row c.args.path.now (text_value c.args.text.now)
    (c.requires.texts.0.may_come c.args.text.now) c.args.columns.now c.put_text.new.columns c.put_text.result
    c.put_text.ensures.ok c.put_text.ensures.kept c.requires.texts.0.under_way

pub put_text-requires-clause-may : goal.put_text-requires-clause-may
put_text-requires-clause-may g c =
    may_be_recorded c.args.self.now.schema.now c.args.self.now.row c.args.path.now (text_value c.args.text.now)
    (c.requires.texts.0.may_come c.args.text.now) c.args.columns.now c.requires.texts.0.under_way
