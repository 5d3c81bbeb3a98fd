use Rattle.std.proofs.Common.{◌≡◌, ◌<◌, ◌++◌, List, ℕ, get_or, length, sym, ap, subst, ◌∙◌, arith}
use Rattle.std.specs.Prelude.{OnOk}
use Rattle.std.proofs.lemmas.List.{append-nil, get_or_default}
use Rattle.seg_column_file.specs.RowOrders.{rows_from}
use Rattle.seg_column_merge_parts.specs.SourceRows.{CanPut, first_rows, joined}
use Rattle.seg_column_merge_parts.specs.declared.source.Source.{Source}
use Rattle.seg_column_merge_parts.specs.declared.source.Source.TheVariants.{Nothing}
use Rattle.seg_column_merge_parts.proofs.FirstRows.{file_rows, row_bytes}
use Rattle.seg_column_merge_parts.proofs.joined_column.put_file.Goals as goal

pub put_first-requires : goal.put_first-requires
put_first-requires c =
    let sources = c.args.sources.now in
    let file = c.args.file in
    let there : file < length sources = (c.requires 0 (omega (arith, c.if-count-eq0.false))).file in
    let found : c.index-sources-file.result ≡ get_or sources file Nothing =
    c.index-sources-file.is ∙ get_or_default sources file c.index-sources-file.result Nothing there in
    λ row lt. subst (λ (s : Source). CanPut s row) (sym found) (c.requires row lt).row

pub returns-then-count-eq0 : goal.returns-then-count-eq0
returns-then-count-eq0 c =
    sym (append-nil c.args.out.now.items)
    ∙ ap (λ (n : ℕ). c.args.out.now.items ++ row_bytes (joined c.args.sources.now (rows_from c.args.file 0 n)))
    (sym c.if-count-eq0.true)

pub returns : goal.returns
returns c =
    let sources = c.args.sources.now in
    let file = c.args.file in
    let there : file < length sources = (c.requires 0 (omega (arith, c.if-count-eq0.false))).file in
    let found : c.index-sources-file.result ≡ get_or sources file Nothing =
    c.index-sources-file.is ∙ get_or_default sources file c.index-sources-file.result Nothing there in
    subst (λ (rows : List (List (List ℕ))). OnOk c.put_first.result (c.put_first.new.out.items
    ≡ c.args.out.now.items ++ row_bytes rows))
    (ap (λ (s : Source). first_rows s c.args.count) found ∙ sym (file_rows sources file c.args.count))
    c.put_first.ensures
