use Rattle.std.proofs.Common.{◌≡◌, ℕ, ◌<◌, ◌^◌, ◌++◌, List, length, map, sym, ap, subst, ◌∙◌}
use Rattle.std.specs.Borrow.{Bor}
use Rattle.std.specs.List.{AllZip}
use Rattle.std.specs.Prelude.{All, Bool, Vec}
use Rattle.std.specs.declared.alloc.Global.{Global}
use Rattle.std.proofs.lemmas.List.{length-map}
use Rattle.std.proofs.lemmas.List.Elements.{All-from_recursion, recursion_from_All}
use Rattle.seg_column_format.specs.ColumnBytes.{column_bytes, dictionary_bytes, total}
use Rattle.seg_column_merge.specs.MergedBytes.{HasType, places_of}
use Rattle.seg_column_file.specs.RowOrders.{IsRow}
use Rattle.seg_column_merge_parts.specs.SourceRows.{IsPut, joined}
use Rattle.seg_column_merge_parts.specs.declared.source.Source.{Source}
use Rattle.seg_column_merge_parts.specs.declared.tables.TableRow.{TableRow}
use Rattle.seg_column_merge_parts.specs.MergedTerms.{AreMerged}
use Rattle.seg_column_merge_parts.specs.TermHeads.{AreMergedTerms}
use Rattle.seg_column_merge_parts.specs.UsedTerms.{AreTermsOf, MarkedTerms}
use Rattle.seg_column_merge_parts.proofs.Exports.{rows_merged}
use Rattle.seg_column_merge.proofs.TermColumnBytes.{all_put_by_type, column_added}
use Rattle.seg_column_merge.proofs.RowFiles.{all_have_files, all_have_rows, as_many_numbers}
use Rattle.seg_column_merge.proofs.term_columns.put_terms.Goals as goal

-- the merged terms of the columns of rows
merged_of : (kept : List (List Bool)) (rows : List TableRow) (columns slice : List MarkedTerms)
    (terms ordinals : List (List ℕ)) → slice ≡ columns → AllZip (λ r m. AreTermsOf kept r.column m) rows columns
    → AreMergedTerms slice terms ordinals → AreMerged kept rows terms ordinals
merged_of kept rows columns slice terms ordinals is are merged =
    rows_merged kept terms rows columns are ordinals
    (subst (λ (cs : List MarkedTerms). AreMergedTerms cs terms ordinals) is merged)

pub used_columns-requires : goal.used_columns-requires
used_columns-requires c =
    let merge = c.args.merge.now in
    all_have_rows merge.counts.now (places_of merge) merge.kept.now c.requires.merge.marks c.args.rows.now
    c.requires.files

pub term_sources-requires-clause-files : goal.term_sources-requires-clause-files
term_sources-requires-clause-files c = all_have_files c.args.merge.now.counts.now c.args.rows.now c.requires.files

pub term_sources-requires-clause-many : goal.term_sources-requires-clause-many
term_sources-requires-clause-many c =
    let kept = c.args.merge.now.kept.now in
    let rows = c.args.rows.now in
    let terms = map (λ (t : Bor (List ℕ)). t.now) c.in_ok-terms.field-0.terms.items in
    let lists = c.in_ok-terms.field-0.ordinals.items in
    let ordinals = map (λ (v : Vec ℕ Global). v.items) lists in
    as_many_numbers kept terms rows ordinals
    (merged_of kept rows c.in_ok-columns.columns.items c.as_slice.result.now terms ordinals c.as_slice.ensures.value
    c.in_ok-columns.ensures c.in_ok-terms.ensures).added.numbered
    ∙ length-map lists (λ (v : Vec ℕ Global). v.items)

pub put_joined-requires : goal.put_joined-requires
put_joined-requires c =
    let merge = c.args.merge.now in
    let kept = merge.kept.now in
    let rows = c.args.rows.now in
    let places = places_of merge in
    let terms = map (λ (t : Bor (List ℕ)). t.now) c.in_ok-terms.field-0.terms.items in
    let ordinals = map (λ (v : Vec ℕ Global). v.items) c.in_ok-terms.field-0.ordinals.items in
    subst (λ (sources : List Source). All (IsPut sources) places) (sym c.as_slice-2.ensures.value)
    (All-from_recursion (IsPut c.in_ok-sources.sources.items) places
    (all_put_by_type merge.counts.now places kept c.requires.merge.marks
    (recursion_from_All (IsRow merge.counts.now) places c.requires.merge.rows) rows c.requires.files
    terms ordinals (merged_of kept rows c.in_ok-columns.columns.items c.as_slice.result.now terms ordinals
    c.as_slice.ensures.value c.in_ok-columns.ensures c.in_ok-terms.ensures)
    c.in_ok-sources.sources.items c.in_ok-sources.ensures c.args.column_type c.requires.terms
    (recursion_from_All (λ (r : TableRow). HasType c.args.column_type r.column) rows c.requires.types)))

pub returns : goal.returns
returns c =
    let merge = c.args.merge.now in
    let kept = merge.kept.now in
    let rows = c.args.rows.now in
    let places = places_of merge in
    let sources = c.in_ok-sources.sources.items in
    let out = c.args.out.now.items in
    let list = c.in_ok-terms.field-0.terms.items in
    let terms = map (λ (t : Bor (List ℕ)). t.now) list in
    let ordinals = map (λ (v : Vec ℕ Global). v.items) c.in_ok-terms.field-0.ordinals.items in
    let put : c.put_joined.new.out.items ≡ out ++ column_bytes {T = List ℕ} (λ code. code) (joined sources places) =
    c.in_ok-put_joined.ensures.ok
    ∙ ap (λ (ss : List Source). out
    ++ column_bytes {T = List ℕ} (λ code. code) (joined ss places)) c.as_slice-2.ensures.value in
    let few : total (joined sources places) < 2 ^ 64 =
    subst (λ (ss : List Source). total (joined ss places) < 2 ^ 64) c.as_slice-2.ensures.value c.in_ok-put_joined.ensures.few in
    let some : length terms < 2 ^ 64 =
    subst (λ (n : ℕ). n < 2 ^ 64) (sym (length-map list (λ (t : Bor (List ℕ)). t.now)))
    (subst (λ (ts : List (Bor (List ℕ))). length ts < 2 ^ 64) c.as_slice-3.ensures.value
    c.in_ok-put_terms_dictionary.ensures.count) in
    let short : total terms < 2 ^ 64 =
    subst (λ (ts : List (Bor (List ℕ))). total (map (λ (t : Bor (List ℕ)). t.now) ts) < 2 ^ 64) c.as_slice-3.ensures.value
    c.in_ok-put_terms_dictionary.ensures.few in
    column_added merge.counts.now places kept c.requires.merge.marks
    (recursion_from_All (IsRow merge.counts.now) places c.requires.merge.rows) rows c.requires.files terms
    ordinals (merged_of kept rows c.in_ok-columns.columns.items c.as_slice.result.now terms ordinals
    c.as_slice.ensures.value c.in_ok-columns.ensures c.in_ok-terms.ensures) sources c.in_ok-sources.ensures out few some
    short c.args.column_type c.requires.terms
    (recursion_from_All (λ (r : TableRow). HasType c.args.column_type r.column) rows c.requires.types)
    c.put_terms_dictionary.new.out.items
    (c.in_ok-put_terms_dictionary.ensures.ok
    ∙ (λ j. put j ++ dictionary_bytes (map (λ (t : Bor (List ℕ)). t.now) (c.as_slice-3.ensures.value j))))
