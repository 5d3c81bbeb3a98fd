use Rattle.std.proofs.Common.{◌≡◌, ◌+◌, ◌++◌, ℕ, List, sym, ap, ◌∙◌, arith}
use Rattle.std.proofs.lemmas.List.{append-nil}
use Rattle.seg_columns.specs.Ends.{start_at}
use Rattle.seg_column_format.specs.ColumnBytes.{number_bytes}
use Rattle.seg_column_merge_parts.proofs.RowEnds.{ends_after, first_ends, one_more_end}
use Rattle.seg_column_merge_parts.proofs.RowValueBytes.{no_start}
use Rattle.seg_column_merge_parts.proofs.row_ends.put_ends_after.Goals as goal

pub returns-then-before-eq0 : goal.returns-then-before-eq0
returns-then-before-eq0 c =
    let ends = c.args.ends.now in
    let none = c.if-before-eq0.true in
    record {
      bytes = c.in_ok-put_ends.ensures.bytes
          ∙ ap (λ (l : List ℕ). c.args.out.now.items ++ l)
          (first_ends ends c.put_ends.ensures.octets c.args.rows c.requires
          ∙ ap (λ (n : ℕ). number_bytes (ends_after n ends 0 c.args.rows)) (sym none));
      end = omega (arith, none, c.start_at.ensures);
      fits = omega arith;
    }

pub loop-row-init : goal.loop-row-init
loop-row-init c = record {
  within = omega arith;
  bytes = sym (append-nil c.args.out.now.items);
  end = omega (arith, no_start c.args.ends.now);
  fits = omega arith;
}

pub loop-row-preserved : goal.loop-row-preserved
loop-row-preserved c =
    let so_far = c.loop-row.invariant in
    let next : c.in-Some.next ≡ c.args.before + start_at c.args.ends.now (c.loop-row.row + 1) =
    omega (arith, c.start_at-in-loop-row.ensures) in
    record {
      within = omega (arith, c.loop-row-test.true);
      bytes = one_more_end c.args.before c.args.ends.now c.loop-row.row c.in-Some.next c.args.out.now.items
          c.loop-row.out.items c.put_u64.new.out.items so_far.bytes next c.in_ok-put_u64.ensures.ok;
      end = next;
      fits = omega arith;
    }

pub returns : goal.returns
returns c =
    let so_far = c.loop-row.invariant in
    let all : c.loop-row.row ≡ c.args.rows = omega (arith, c.loop-row-test.false, so_far.within) in
    record {
      bytes = so_far.bytes
          ∙ ap (λ (n : ℕ). c.args.out.now.items ++ number_bytes (ends_after c.args.before c.args.ends.now 0 n)) all;
      end = so_far.end ∙ ap (λ (n : ℕ). c.args.before + start_at c.args.ends.now n) all;
      fits = so_far.fits;
    }
