use Rattle.std.proofs.Common.{ℕ, ◌+◌, ◌-◌, ◌^◌, drop, min, sum_by, ap, sym, ◌∙◌}
use Rattle.std.proofs.lemmas.List.{drop_all}
use Rattle.std.proofs.lemmas.List.Sums.{sum_by-drop_more}
use Rattle.seg_columns.specs.DynamicColumns.{StoredColumn}
use Rattle.seg_fastfield.specs.OpenFastFields.{bytes_in}
use Rattle.seg_fastfield.proofs.ColumnSizes.{done, more}
use Rattle.seg_fastfield.proofs.handles.num_bytes.Goals as goal

abbrev size : StoredColumn → ℕ
size c = c.size

pub loop-handle-preserved : goal.loop-handle-preserved
loop-handle-preserved c =
    let rest = sum_by size (drop (c.loop-handle.handle-index + 1) c.args.handles.now) in
    let read = sum_by-drop_more size c.args.handles.now c.loop-handle.handle-index c.handle-item.result c.loop-handle-test.true in
    let step = read ∙ ap (λ i. size i + rest) (sym c.handle-item.is) in
    record {
      all = ap (λ n. min (2 ^ 64 - 1) (n + rest))
          (c.saturating_add-total.ensures ∙ ap (λ n. min (c.loop-handle.total + n) (2 ^ 64 - 1)) c.num_bytes.ensures)
          ∙ more c.loop-handle.total c.handle-item.result.size rest
          (sum_by size (drop c.loop-handle.handle-index c.args.handles.now)) (bytes_in c.args.handles.now)
          c.loop-handle.invariant.all step;
      fits = c.saturating_add-total.type_inv;
    }

pub returns : goal.returns
returns c =
    done c.loop-handle.total (sum_by size (drop c.loop-handle.handle-index c.args.handles.now)) (bytes_in c.args.handles.now)
    c.loop-handle.invariant.fits
    (ap (sum_by size) (drop_all c.loop-handle.handle-index c.args.handles.now c.loop-handle-test.false))
    c.loop-handle.invariant.all
