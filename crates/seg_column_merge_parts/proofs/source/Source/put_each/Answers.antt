use Rattle.std.proofs.Common.{◌≡◌, ◌++◌, ℕ, sym, ap, ◌∙◌, arith}
use Rattle.std.proofs.lemmas.List.{append-nil}
use Rattle.seg_column_merge_parts.specs.SourceRows.{first_rows}
use Rattle.seg_column_merge_parts.proofs.FirstRows.{one_more_row, row_bytes}
use Rattle.seg_column_merge_parts.proofs.source.Source.put_each.Goals as goal

pub put-requires : goal.put-requires
put-requires c = c.requires c.loop-row.row c.loop-row-test.true

pub loop-row-init : goal.loop-row-init
loop-row-init c = record { within = omega arith; all = sym (append-nil c.args.out.now.items) }

pub loop-row-preserved : goal.loop-row-preserved
loop-row-preserved c = record {
  within = omega (arith, c.loop-row-test.true);
  all = one_more_row c.args.self.now c.loop-row.row c.args.out.now.items c.loop-row.out.items c.put.new.out.items
      c.loop-row.invariant.all c.in_ok-put.ensures;
}

pub returns : goal.returns
returns c =
    let all : c.loop-row.row ≡ c.args.rows = omega (arith, c.loop-row-test.false, c.loop-row.invariant.within) in
    c.loop-row.invariant.all ∙ ap (λ (n : ℕ). c.args.out.now.items ++ row_bytes (first_rows c.args.self.now n)) all
