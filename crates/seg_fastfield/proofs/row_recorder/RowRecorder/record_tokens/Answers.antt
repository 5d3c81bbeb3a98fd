use Rattle.std.proofs.Common.{◌∙◌, subst, sym}
use Rattle.seg_column_writer.specs.RowOrderedColumns.{AreThere}
use Rattle.seg_column_writer.specs.declared.value_kind.ValueKind.TheVariants.{Str}
use Rattle.seg_column_writer.proofs.Exports.{there_recorded}
use Rattle.seg_fastfield.proofs.PathNumbers.{still_then}
use Rattle.seg_fastfield.proofs.ColumnIds.{column_still}
use Rattle.seg_model.specs.Columns.{text_value}
use Rattle.seg_fastfield.proofs.LoopTurns.{token_turn}
use Rattle.seg_fastfield.proofs.LeafRecords.{may_be_recorded, still_under_way}
use Rattle.seg_fastfield.proofs.row_recorder.RowRecorder.record_tokens.Goals as goal

pub put_text-requires-clause-may : goal.put_text-requires-clause-may
put_text-requires-clause-may g c =
    may_be_recorded c.args.self.now.schema.now c.args.self.now.row c.args.path.now (text_value c.as_str.result.now)
    (c.requires.texts.may_come c.as_str.result.now) c.loop-token.columns c.loop-token.invariant.under_way

pub put_text-requires-clause-known : goal.put_text-requires-clause-known
put_text-requires-clause-known g c =
    let known = c.loop-token.invariant.known in
    (known.0, known.1 c.args.place.number c.args.path.now c.requires.known.1)

pub loop-token-preserved : goal.loop-token-preserved
loop-token-preserved g c =
    let schema = c.args.self.now.schema.now in
    let row = c.args.self.now.row in
    let s = c.as_str.result.now in
    let new = c.put_text.new.columns in
    record {
      recorded = token_turn row c.args.path.now c.args.tokens.now c.loop-token.token-index c.token-item.result s
          c.loop-token.columns new c.loop-token-test.true c.token-item.is c.as_str.ensures c.in_ok-put_text.ensures.ok
          ∙ c.loop-token.invariant.recorded;
      column = column_still c.args.place.column c.args.path.now Str c.loop-token.columns new
          (subst (AreThere c.loop-token.columns) (sym c.in_ok-put_text.ensures.ok)
          (there_recorded c.args.path.now Str row (text_value s) c.loop-token.columns)) c.loop-token.invariant.column;
      under_way = still_under_way schema row c.args.path.now (text_value s)
          (c.requires.texts.may_come s) c.loop-token.columns
          new c.put_text.result c.put_text.ensures.ok c.put_text.ensures.kept c.loop-token.invariant.under_way;
      known = still_then c.args.known.now c.loop-token.known c.put_text.new.known c.loop-token.columns
          c.put_text.new.columns c.loop-token.invariant.known c.in_ok-put_text.ensures.known;
    }

pub returns-in_err-put_text-clause-under_way : goal.returns-in_err-put_text-clause-under_way
returns-in_err-put_text-clause-under_way g c =
    still_under_way c.args.self.now.schema.now c.args.self.now.row c.args.path.now (text_value c.as_str.result.now)
    (c.requires.texts.may_come c.as_str.result.now) c.loop-token.columns c.put_text.new.columns c.put_text.result
    c.put_text.ensures.ok c.put_text.ensures.kept c.loop-token.invariant.under_way
