use Rattle.std.proofs.Common.{◌≡◌, ◌+◌, ◌-◌, ◌++◌, ℕ, suc, List, [], ◌∷◌, drop, get_or, sym, ap, subst, ◌∙◌, arith}
use Rattle.std.proofs.Math.Seq.{drop-cons}
use Rattle.std.proofs.lemmas.List.{drop_all}
use Rattle.seg_column_format.specs.ColumnBytes.{ends_from, number_bytes}
use Rattle.seg_column_format.specs.ValuesByRow.{Rise, rows_from}
use Rattle.seg_column_format.specs.declared.row_number.RowNumber.{RowNumber}
use Rattle.seg_column_format.proofs.RowEnds.{lower, none_left, one_more}
use Rattle.seg_column_format.proofs.column_bytes.put_row_ends.Goals as goal

abbrev row_of : RowNumber → ℕ
row_of v = v.row

pub loop-value-preserved : goal.loop-value-preserved
loop-value-preserved c =
    let so_far = c.loop-value.invariant in
    let values = c.args.values.now in
    let at = c.loop-value.value-index in
    let low = c.loop-value.row in
    let end = c.loop-value.end in
    let next = c.min-next.result in
    let count = c.args.num_rows in
    let v : RowNumber = get_or values at (record { row = 0; number = 0 }) in
    let vs = drop (at + 1) values in
    let after : suc at ≡ at + 1 = omega arith in
    let here : drop at values ≡ v ∷ vs =
    drop-cons values at (record { row = 0; number = 0 }) c.loop-value-test.true ∙ ap (λ (n : ℕ). v ∷ drop n values) after in
    let rise : Rise row_of low (v ∷ vs) = subst (Rise row_of low) here so_far.rise in
    let all = ap (λ (l : List RowNumber). c.loop-value.out.items ++ number_bytes (ends_from end (rows_from row_of low (count - low) l))) (sym here) ∙ so_far.all in
    record {
      within = omega (arith, c.min-next.ensures);
      counted = omega (arith, so_far.counted);
      rise = lower row_of v.row next vs (omega (arith, c.min-next.ensures)) rise.1;
      all = one_more row_of v vs rise.1 (next - low) low next (count - low) (count - next) end c.loop-value.out.items
          c.put_same_ends.new.out.items _ (omega (arith, c.min-next.ensures, rise.0, so_far.within))
          (omega (arith, c.min-next.ensures, rise.0, so_far.within)) (omega (arith, c.min-next.ensures))
          (λ some. omega (arith, some, c.min-next.ensures)) c.in_ok-put_same_ends.ensures all;
    }

pub returns-clause-ok : goal.returns-clause-ok
returns-clause-ok c =
    let so_far = c.loop-value.invariant in
    let values = c.args.values.now in
    let left = c.args.num_rows - c.loop-value.row in
    let none : drop c.loop-value.value-index values ≡ [] = drop_all c.loop-value.value-index values (omega (arith, c.loop-value-test.false)) in
    c.in_ok-put_same_ends-2.ensures
    ∙ ap (λ (l : List ℕ). c.loop-value.out.items ++ number_bytes l) (sym (none_left row_of c.loop-value.row left c.loop-value.end))
    ∙ ap (λ (l : List RowNumber). c.loop-value.out.items ++ number_bytes (ends_from c.loop-value.end (rows_from row_of c.loop-value.row left l))) (sym none)
    ∙ so_far.all
