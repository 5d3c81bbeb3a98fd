use Rattle.std.proofs.Common.{◌≡◌, sym, ap, ◌∙◌, arith}
use Rattle.seg_column_file.specs.ColumnTable.{next_place, place_of}
use Rattle.seg_column_file.proofs.TableEntries.{each_more, follow_more, out_of_order, place_of-first, place_of-next}
use Rattle.seg_column_file.proofs.table_check.are_entries.Goals as goal

pub loop-i-init : goal.loop-i-init
loop-i-init c = record {
  at = sym (place_of-first c.args.table.now);
  within = c.requires;
  each = λ k h. absurd (omega (arith, h));
  follow = λ k h. absurd (omega (arith, h));
  last = λ k e. absurd (omega (arith, e));
}

pub returns-then-not-is_in_order : goal.returns-then-not-is_in_order
returns-then-not-is_in_order c = λ are.
    let so_far = c.loop-i.invariant in
    let wrong = c.if-not-is_in_order.ensures in
    out_of_order c.args.table.now c.loop-i.i c.loop-i.at c.loop-i.before so_far.at so_far.last c.args.count
    c.loop-i-test.true wrong.0 wrong.1 are

pub loop-i-preserved : goal.loop-i-preserved
loop-i-preserved c =
    let table = c.args.table.now in
    let i = c.loop-i.i in
    let so_far = c.loop-i.invariant in
    let entry = c.in-Some.ensures in
    record {
      at = entry.0 ∙ ap (next_place table) so_far.at ∙ sym (place_of-next table i);
      within = omega (arith, entry.0, entry.1.within);
      each = each_more table i c.loop-i.at c.loop-i.before so_far.at so_far.last so_far.each entry.1;
      follow = follow_more table i c.loop-i.at c.loop-i.before so_far.at so_far.last so_far.follow
          c.if-not-is_in_order.ensures;
      last = λ k e. let same : i ≡ k = omega (arith, e) in so_far.at ∙ ap (place_of table) same;
    }

pub returns : goal.returns
returns c =
    let table = c.args.table.now in
    let so_far = c.loop-i.invariant in
    let all : c.args.count ≡ c.loop-i.i = omega (arith, c.loop-i-test.false, c.loop-i.auto.i-end) in
    record {
      each = λ k h. so_far.each k (omega (arith, h, all));
      fill = ap (place_of table) all ∙ sym so_far.at ∙ c.if-at-table.false;
      follow = λ k h. so_far.follow k (omega (arith, h, all));
    }
