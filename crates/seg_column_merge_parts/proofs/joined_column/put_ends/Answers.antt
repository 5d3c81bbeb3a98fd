use Rattle.std.proofs.Common.{◌≡◌, ◌+◌, ◌++◌, ◌∷◌, length, get_or, ap, subst, ◌∙◌}
use Rattle.std.specs.Prelude.{All}
use Rattle.std.proofs.lemmas.List.{get_or_default}
use Rattle.std.proofs.lemmas.List.Elements.{All-head, All-rest}
use Rattle.seg_column_format.specs.ColumnBytes.{ends_from, number_bytes, total}
use Rattle.seg_column_file.specs.RowOrders.{Place}
use Rattle.seg_column_merge_parts.specs.SourceRows.{IsPut, joined, row_codes}
use Rattle.seg_column_merge_parts.specs.declared.source.Source.{Source}
use Rattle.seg_column_merge_parts.specs.declared.source.Source.TheVariants.{Nothing}
use Rattle.seg_column_merge_parts.proofs.JoinedBytes.{end_next, total_next}
use Rattle.seg_column_merge_parts.proofs.joined_column.put_ends.Goals as goal

pub loop-file-preserved : goal.loop-file-preserved
loop-file-preserved c =
    let so_far = c.loop-file.invariant in
    let sources = c.args.sources.now in
    let file = c.in-Some.file in
    let place : Place = (file, c.in-Some.row) in
    let steps = c.in-Some.ensures.steps in
    let put : IsPut sources place =
    All-head (IsPut sources) place c.next.new.self (subst (All (IsPut sources)) steps so_far.left) in
    let old = joined sources c.loop-file.file-iterator in
    let new = joined sources c.next.new.self in
    let row = row_codes (get_or sources file Nothing) c.in-Some.row in
    let is : old ≡ row ∷ new = ap (joined sources) steps in
    let found : c.index-sources-file.result ≡ get_or sources file Nothing =
    c.index-sources-file.is ∙ get_or_default sources file c.index-sources-file.result Nothing put.file in
    let end = c.loop-file.end in
    let next = c.in-Some-count.next in
    let counted : next ≡ end + length row =
    c.in-Some-count.ensures.count ∙ ap (λ (s : Source). end + length (row_codes s c.in-Some.row)) found in
    record {
      can = tt;
      finite = tt;
      left = All-rest (IsPut sources) place c.next.new.self c.loop-file.file-iterator steps so_far.left;
      all = end_next c.loop-file.out.items
          (c.args.out.now.items ++ number_bytes (ends_from 0 (joined sources c.args.rows)))
          end next old new row c.put_u64.new.out.items is counted c.in_ok-put_u64.ensures.ok so_far.all;
      sum = total_next end next (total (joined sources c.args.rows)) old new row is counted so_far.sum;
      fits = c.in-Some-count.ensures.fits;
    }
