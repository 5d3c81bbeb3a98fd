use Rattle.std.proofs.Common.{◌≡◌, ℕ, suc, ◌+◌, ◌-◌, List, ◌++◌, replicate, sym, ap, ◌∙◌, arith, append_assoc}
use Rattle.std.specs.Int.{w64, to_le_bytes}
use Rattle.seg_column_format.specs.ColumnBytes.{number_bytes}
use Rattle.seg_column_format.proofs.same_ends.put_same_ends.Goals as goal

pub loop-row-preserved : goal.loop-row-preserved
loop-row-preserved c =
    let out = c.loop-row.out.items in
    let end = c.args.end in
    let left : c.args.rows - c.loop-row._row ≡ suc (c.args.rows - (c.loop-row._row + 1)) = omega (arith, c.loop-row-test.true) in
    let rest = number_bytes (replicate (c.args.rows - (c.loop-row._row + 1)) end) in
    record {
      within = omega (arith, c.loop-row-test.true);
      all = ap (λ (l : List ℕ). l ++ rest) c.in_ok-put_u64.ensures.ok
          ∙ append_assoc out (to_le_bytes w64 end) rest
          ∙ ap (λ (n : ℕ). out ++ number_bytes (replicate n end)) (sym left)
          ∙ c.loop-row.invariant.all;
    }
