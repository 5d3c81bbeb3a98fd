use Rattle.std.proofs.Common.{ap, ◌∙◌}
use Rattle.seg_model.specs.Columns.{text_value}
use Rattle.seg_column_writer.specs.declared.value_kind.ValueKind.TheVariants.{Str}
use Rattle.seg_column_writer.proofs.RecordingRules.{may_push_term, push_term_adds}
use Rattle.seg_column_writer.proofs.writer.ColumnarWriter.record_str_in.Goals as goal

pub push_term-requires : goal.push_term-requires
push_term-requires c =
    may_push_term Str c.args.doc (text_value c.args.value.now) c.as_bytes.result.now c.as_bytes.ensures.utf8
    (ap text_value c.as_bytes.ensures.value) c.args.column.place c.args.self.now c.requires

pub returns-clause-ok : goal.returns-clause-ok
returns-clause-ok c =
    c.in_ok-push_term.ensures.ok
    ∙ push_term_adds Str c.args.doc (text_value c.args.value.now) c.as_bytes.result.now c.as_bytes.ensures.utf8
    (ap text_value c.as_bytes.ensures.value) c.args.column.place c.args.self.now c.requires
