use Rattle.std.proofs.Common.{◌≡◌, ◌+◌, drop}
use Rattle.seg_column_writer.specs.DocumentRows.{with_values}
use Rattle.seg_model.specs.Columns.{token_texts}
use Rattle.seg_column_writer.specs.declared.value_kind.ValueKind.TheVariants.{Str}
use Rattle.seg_fastfield.specs.FieldColumns.{IsColumnOf}
use Rattle.seg_fastfield.specs.FastLeaves.{values_under}
use Rattle.seg_fastfield.specs.PathNumbers.{IsKnownStill}
use Rattle.seg_fastfield.specs.FastFieldWriters.{AreUnderWay}
use Rattle.seg_fastfield.proofs.row_recorder.RowRecorder.record_tokens.Given as goal

-- what is recorded so far, with what is left, is all
abbrev pub invariant-loop-token : goal.invariant-loop-token
invariant-loop-token g l = record {
  recorded : with_values l.self.row (values_under l.path (token_texts (drop l.token-index l.tokens))) l.columns
      ≡ with_values l.self.row (values_under l.path (token_texts l.tokens)) l.fn.columns;
  column : IsColumnOf l.place.column l.path Str l.columns;
  under_way : AreUnderWay l.self.schema.now (l.self.row + 1) l.columns;
  known : IsKnownStill l.fn.known l.known l.columns;
}
