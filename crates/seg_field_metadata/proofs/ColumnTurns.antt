-- One more column.
use Rattle.std.proofs.Common.{◌≡◌, Bool, List, [], ◌∷◌, ◌++◌, refl, sym, ap, subst, ◌∙◌, append_assoc, append-nil}
use Rattle.seg_values.specs.declared.schema.FieldEntry.{FieldEntry}
use Rattle.seg_column_file.specs.ColumnFiles.{NamedColumn}
use Rattle.seg_field_metadata.specs.MetadataEntries.{Entry}
use Rattle.seg_field_metadata.specs.ColumnMetadata.{ColumnsSay, IsStored, column_entry}
use Rattle.seg_field_metadata.specs.ListedNames.{EscapedName, column_name}

module _ (schema : List FieldEntry) (names : List EscapedName) (all left : List NamedColumn) where
  pub column_turn : (c : NamedColumn) (cs : List NamedColumn) → left ≡ c ∷ cs → (old new : List Entry)
      → (stored : Bool) × IsStored schema (column_name names c.path) stored × (new ≡ old ++ column_entry names c stored ∷ [])
      → ((rest : List Entry) → ColumnsSay schema names left rest → ColumnsSay schema names all (old ++ rest))
      → (rest : List Entry) → ColumnsSay schema names cs rest → ColumnsSay schema names all (new ++ rest)
  column_turn c cs left_is old new (stored, is_stored, new_is) so_far rest says =
      let e : Entry = column_entry names c stored in
      subst (ColumnsSay schema names all)
      (sym (append_assoc old (e ∷ []) rest) ∙ ap (λ (es : List Entry). es ++ rest) (sym new_is))
      (so_far (e ∷ rest)
      (subst (λ (l : List NamedColumn). ColumnsSay schema names l (e ∷ rest)) (sym left_is) (stored, is_stored, rest, says, refl)))

  pub columns_end : left ≡ [] → (old : List Entry)
      → ((rest : List Entry) → ColumnsSay schema names left rest → ColumnsSay schema names all (old ++ rest)) → ColumnsSay schema names all old
  columns_end none old so_far =
      subst (ColumnsSay schema names all) (append-nil old)
      (so_far [] (subst (λ (l : List NamedColumn). ColumnsSay schema names l []) (sym none) refl))
