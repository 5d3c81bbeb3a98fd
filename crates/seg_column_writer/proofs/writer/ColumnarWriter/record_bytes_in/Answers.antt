use Rattle.std.proofs.Common.{refl, ◌∙◌}
use Rattle.seg_model.specs.Columns.{bytes_value}
use Rattle.seg_column_writer.specs.declared.value_kind.ValueKind.TheVariants.{Bytes}
use Rattle.seg_column_writer.proofs.RecordingRules.{may_push_term, push_term_adds}
use Rattle.seg_column_writer.proofs.writer.ColumnarWriter.record_bytes_in.Goals as goal

pub push_term-requires : goal.push_term-requires
push_term-requires c =
    may_push_term Bytes c.args.doc (bytes_value c.args.value.now) c.args.value.now tt refl c.args.column.place
    c.args.self.now c.requires

pub returns-clause-ok : goal.returns-clause-ok
returns-clause-ok c =
    c.in_ok-push_term.ensures.ok
    ∙ push_term_adds Bytes c.args.doc (bytes_value c.args.value.now) c.args.value.now tt refl c.args.column.place
    c.args.self.now c.requires
