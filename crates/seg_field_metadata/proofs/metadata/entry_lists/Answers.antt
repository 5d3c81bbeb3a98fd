use Rattle.std.proofs.Common.{◌++◌, [], ◌∷◌, List, map, ap, ◌∙◌, subst}
use Rattle.std.specs.Prelude.{Vec}
use Rattle.std.specs.declared.alloc.Global.{Global}
use Rattle.seg_model.specs.Fields.{Schema}
use Rattle.seg_column_file.specs.ColumnFiles.{ColumnFile}
use Rattle.seg_field_metadata.specs.MetadataEntries.{entry_of}
use Rattle.seg_field_metadata.specs.declared.field_metadata.FieldMetadata.{FieldMetadata}
use Rattle.seg_field_metadata.specs.ColumnMetadata.{ColumnsSay}
use Rattle.seg_field_metadata.proofs.FieldTurns.{lists_say}
use Rattle.seg_field_metadata.proofs.metadata.entry_lists.Goals as goal

pub returns : goal.returns
returns c =
    let s = c.args.reader.now in
    let said = c.in_ok-indexed.ensures.0 in
    lists_say s said c.push_list-2.new.lists.items c.in_ok-indexed.indexed c.in_ok-columns.columns
    c.in_ok-indexed.ensures.1 c.in_ok-indexed.ensures.2
    (subst (λ (schema : Schema). ColumnsSay schema said.escaped s.columns.columns (map entry_of c.in_ok-columns.columns.items)) c.schema.ensures
    (subst (λ (file : ColumnFile). ColumnsSay c.schema.result.now said.escaped file.columns (map entry_of c.in_ok-columns.columns.items)) c.columns.ensures
    (c.in_ok-columns.ensures said.escaped c.in_ok-indexed.ensures.3)))
    (c.in_ok-push_list-2.ensures
    ∙ ap (λ (ls : List (Vec FieldMetadata Global)). ls ++ c.in_ok-columns.columns ∷ []) c.in_ok-push_list.ensures
    ∙ ap (λ (ls : List (Vec FieldMetadata Global)). (ls ++ c.in_ok-indexed.indexed ∷ []) ++ c.in_ok-columns.columns ∷ []) c.new-lists.ensures.items)
