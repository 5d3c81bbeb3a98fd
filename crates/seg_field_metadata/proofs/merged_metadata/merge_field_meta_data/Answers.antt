use Rattle.std.proofs.Common.{◌≡◌, List, true, map, subst}
use Rattle.std.specs.Prelude.{IfErr, IfOk, OnOk}
use Rattle.seg_field_metadata.specs.MetadataEntries.{Entry, entry_of}
use Rattle.seg_field_metadata.specs.MergedMetadata.{MergeFails, sizes_fit}
use Rattle.seg_field_metadata.proofs.GroupedEntries.{sorted_merged}
use Rattle.seg_field_metadata.proofs.merged_metadata.merge_field_meta_data.Goals as goal

pub returns-clause-ok : goal.returns-clause-ok
returns-clause-ok c =
    let are = sorted_merged c.args.lists.items c.in-Ok.all.items c.sort_by_key.new.all.items c.in-Ok.ensures
    c.sort_by_key.ensures.permutation c.sort_by_key.ensures.sorted in
    subst (λ (g : List Entry). IfOk c.merge_sorted.result (λ list. map entry_of list.items ≡ g)) are
    c.merge_sorted.ensures.ok

pub returns-clause-fits : goal.returns-clause-fits
returns-clause-fits c =
    let are = sorted_merged c.args.lists.items c.in-Ok.all.items c.sort_by_key.new.all.items c.in-Ok.ensures
    c.sort_by_key.ensures.permutation c.sort_by_key.ensures.sorted in
    subst (λ (g : List Entry). OnOk c.merge_sorted.result (sizes_fit g ≡ true)) are c.merge_sorted.ensures.fits

pub returns-clause-err : goal.returns-clause-err
returns-clause-err c =
    let are = sorted_merged c.args.lists.items c.in-Ok.all.items c.sort_by_key.new.all.items c.in-Ok.ensures
    c.sort_by_key.ensures.permutation c.sort_by_key.ensures.sorted in
    subst (λ (g : List Entry). IfErr c.merge_sorted.result (MergeFails g)) are c.merge_sorted.ensures.err
