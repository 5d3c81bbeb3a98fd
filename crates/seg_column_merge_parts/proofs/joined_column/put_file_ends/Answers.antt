use Rattle.std.proofs.Common.{◌≡◌, ◌<◌, List, ℕ, get_or, length, sym, ap, subst, ◌∙◌, arith}
use Rattle.std.specs.Prelude.{IfOk}
use Rattle.std.proofs.lemmas.List.{get_or_default}
use Rattle.seg_column_merge_parts.specs.SourceRows.{AddsEnds, CanPut, first_rows, joined}
use Rattle.seg_column_merge_parts.specs.declared.source.Source.{Source}
use Rattle.seg_column_merge_parts.specs.declared.source.Source.TheVariants.{Nothing}
use Rattle.seg_column_file.specs.RowOrders.{rows_from}
use Rattle.seg_column_merge_parts.proofs.FirstRows.{file_rows}
use Rattle.seg_column_merge_parts.proofs.RowEnds.{no_rows_end}
use Rattle.seg_column_merge_parts.proofs.joined_column.put_file_ends.Goals as goal

pub put_first_ends-requires : goal.put_first_ends-requires
put_first_ends-requires c =
    let sources = c.args.sources.now in
    let file = c.args.file in
    let there : file < length sources = (c.requires 0 (omega (arith, c.if-count-eq0.false))).file in
    let found : c.index-sources-file.result ≡ get_or sources file Nothing =
    c.index-sources-file.is ∙ get_or_default sources file c.index-sources-file.result Nothing there in
    λ row lt. subst (λ (s : Source). CanPut s row) (sym found) (c.requires row lt).row

pub returns-then-count-eq0 : goal.returns-then-count-eq0
returns-then-count-eq0 c =
    subst (λ (n : ℕ). AddsEnds (joined c.args.sources.now (rows_from c.args.file 0 n)) c.args.before
    c.args.out.now.items c.args.out.now.items c.args.before) (sym c.if-count-eq0.true)
    (no_rows_end c.args.before c.args.out.now.items (omega arith))

pub returns : goal.returns
returns c =
    let sources = c.args.sources.now in
    let file = c.args.file in
    let there : file < length sources = (c.requires 0 (omega (arith, c.if-count-eq0.false))).file in
    let found : c.index-sources-file.result ≡ get_or sources file Nothing =
    c.index-sources-file.is ∙ get_or_default sources file c.index-sources-file.result Nothing there in
    subst (λ (rows : List (List (List ℕ))). IfOk c.put_first_ends.result (AddsEnds rows c.args.before
    c.args.out.now.items c.put_first_ends.new.out.items))
    (ap (λ (s : Source). first_rows s c.args.count) found ∙ sym (file_rows sources file c.args.count))
    c.put_first_ends.ensures
