use Rattle.std.proofs.Common.{◌≡◌, ◌+◌, drop}
use Rattle.std.specs.List.{AllByRecursion}
use Rattle.seg_column_writer.specs.DocumentRows.{with_values}
use Rattle.seg_fastfield.specs.FastLeaves.{IsTaken, recorded_values}
use Rattle.seg_fastfield.specs.PathNumbers.{AreColumnsOf}
use Rattle.seg_fastfield.specs.FastFieldWriters.{AreUnderWay}
use Rattle.seg_fastfield.proofs.row_recorder.RowRecorder.record_document.Given as goal

-- what is recorded so far, with what is left, is all
abbrev pub invariant-loop-at : goal.invariant-loop-at
invariant-loop-at g l =
    let analyzer = g.Z.Analyzers.tokens_of l.self.analyzers.now in
    record {
      recorded : with_values l.self.row (recorded_values l.self.schema.now analyzer (drop l.at l.document)) l.columns
          ≡ with_values l.self.row (recorded_values l.self.schema.now analyzer l.document) l.fn.columns;
      taken : AllByRecursion (IsTaken l.self.schema.now) (drop l.at l.document);
      under_way : AreUnderWay l.self.schema.now (l.self.row + 1) l.columns;
      known : AreColumnsOf l.known l.columns;
    }
