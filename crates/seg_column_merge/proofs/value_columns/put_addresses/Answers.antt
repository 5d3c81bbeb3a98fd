use Rattle.std.proofs.Common.{ℕ, ◌<◌, ◌^◌, ◌++◌, List, sym, subst, ◌∙◌}
use Rattle.std.specs.Prelude.{All}
use Rattle.std.proofs.lemmas.List.Elements.{All-from_recursion, recursion_from_All}
use Rattle.seg_common.specs.declared.column_type.ColumnType.TheVariants.{IpAddr}
use Rattle.seg_column_format.specs.ColumnBytes.{column_bytes, total}
use Rattle.seg_column_merge.specs.MergedBytes.{HasType, RowFits, places_of}
use Rattle.seg_column_file.specs.RowOrders.{IsRow}
use Rattle.seg_column_merge_parts.specs.SourceRows.{IsPut, joined}
use Rattle.seg_column_merge_parts.specs.declared.source.Source.{Source}
use Rattle.seg_column_merge_parts.specs.declared.tables.TableRow.{TableRow}
use Rattle.seg_column_merge.proofs.AddressColumnBytes.{addresses_added, addresses_put}
use Rattle.seg_column_merge.proofs.RowFiles.{all_have_files}
use Rattle.seg_column_merge.proofs.value_columns.put_addresses.Goals as goal

pub number_sources-requires : goal.number_sources-requires
number_sources-requires c = all_have_files c.args.merge.now.counts.now c.args.rows.now c.requires.files

pub put_joined-requires : goal.put_joined-requires
put_joined-requires c =
    let merge = c.args.merge.now in
    let rows = c.args.rows.now in
    let places = places_of merge in
    subst (λ (sources : List Source). All (IsPut sources) places)
    (sym (c.as_slice.ensures.value ∙ c.in_ok-sources.ensures))
    (All-from_recursion (IsPut _) places
    (addresses_put merge.counts.now places merge.kept.now c.requires.merge.marks
    (recursion_from_All (IsRow merge.counts.now) places c.requires.merge.rows) rows c.requires.files
    (recursion_from_All (λ (r : TableRow). RowFits merge.kept.now r.column) rows c.requires.fits)
    (recursion_from_All (λ (r : TableRow). HasType IpAddr r.column) rows c.requires.types)))

pub returns : goal.returns
returns c =
    let merge = c.args.merge.now in
    let rows = c.args.rows.now in
    let places = places_of merge in
    let same = c.as_slice.ensures.value ∙ c.in_ok-sources.ensures in
    let out = c.args.out.now.items in
    addresses_added merge.counts.now places merge.kept.now c.requires.merge.marks
    (recursion_from_All (IsRow merge.counts.now) places c.requires.merge.rows) rows c.requires.files
    (recursion_from_All (λ (r : TableRow). RowFits merge.kept.now r.column) rows c.requires.fits)
    (recursion_from_All (λ (r : TableRow). HasType IpAddr r.column) rows c.requires.types)
    (subst (λ (ss : List Source). total (joined ss places) < 2 ^ 64) same c.in_ok-put_joined.ensures.few) out
    c.put_joined.new.out.items
    (c.in_ok-put_joined.ensures.ok
    ∙ (λ j. out ++ column_bytes {T = List ℕ} (λ code. code) (joined (same j) places)))
