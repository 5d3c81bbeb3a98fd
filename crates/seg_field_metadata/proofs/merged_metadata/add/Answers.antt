use Rattle.std.proofs.Common.{rules, ◌≡◌, ◌++◌, ◌∷◌, List, true, map, sym, subst}
use Rattle.std.specs.Prelude.{IfErr, Option}
use Rattle.seg_field_metadata.specs.GroupedEntries.{grouped}
use Rattle.seg_field_metadata.specs.MetadataEntries.{Entry, entry_of, key_of}
use Rattle.seg_field_metadata.specs.MergedMetadata.{MergeFails, has_key}
use Rattle.seg_field_metadata.specs.declared.field_metadata.FieldMetadata.{FieldMetadata}
use Rattle.seg_field_metadata.proofs.EntriesByKey.{same_keys}
use Rattle.seg_field_metadata.proofs.GroupedEntries.{overflows}
use Rattle.seg_field_metadata.proofs.merged_metadata.add.Goals as goal

pub merge_into-requires : goal.merge_into-requires
merge_into-requires c =
    let same : has_key (key_of c.in-Some.last) (entry_of c.args.next) ≡ true = search rules in
    sym (same_keys (key_of c.in-Some.last) (key_of c.args.next) same)

pub returns-then-is_eq-clause-err : goal.returns-then-is_eq-clause-err
returns-then-is_eq-clause-err c =
    let same : has_key (key_of c.in-Some.last) (entry_of c.args.next) ≡ true = search rules in
    let done = map entry_of c.args.merged.now.items in
    subst (λ (last : Option FieldMetadata). IfErr c.merge_into.result
    (λ e. (rest : List Entry) → MergeFails (done ++ grouped last (entry_of c.args.next ∷ rest)) e))
    (sym c.in-Some.is)
    (overflows c.merge_into.result done (entry_of c.in-Some.last)
    (entry_of c.args.next) same c.merge_into.ensures.overflow c.merge_into.ensures.passes)
