-- What files have of a merged column of texts or bytes.
use Rattle.std.specs.Prelude.{◌≡◌, ℕ, ◌<◌, All, List, [], Option, Some, None, length, get_or}
use Rattle.seg_column_merge_parts.specs.ColumnSources.{with_map, with_maps}
use Rattle.seg_column_merge_parts.specs.MergedTerms.{ords_in, terms_in}
use Rattle.seg_column_merge_parts.specs.declared.number_map.NumberMap.{NumberMap}
use Rattle.seg_column_merge_parts.specs.declared.number_map.NumberMap.TheVariants.{Same, Ordinals}
use Rattle.seg_column_merge_parts.specs.declared.source.Source.{Source}
use Rattle.seg_column_merge_parts.specs.declared.tables.FileColumn.{FileColumn}

-- what is written for a column are these ordinals, by its own, which are places of its terms
abbrev pub MapsTo : Option FileColumn → List ℕ → NumberMap → Type 0
MapsTo None ordinals m = Unit {0}
MapsTo (Some c) ordinals (Ordinals v) = (v.items ≡ ordinals)
    × All (All (λ ord. ord < length (terms_in (c.handle).column))) (ords_in (c.handle).column)
MapsTo (Some c) ordinals _ = ⊥

-- a column was put in the place of its file
pub record AddsSource (column : Option FileColumn) (ordinals : List ℕ) (old new : List Source) : Type 0 where
  pub written : NumberMap
  pub maps : MapsTo column ordinals written
  pub is : new ≡ with_map old column written

-- all columns were
pub record AreTermSources (start : List Source) (columns : List (Option FileColumn)) (ordinals : List (List ℕ))
    (sources : List Source) : Type 0 where
  pub written : List NumberMap
  pub many : length columns ≡ length written
  pub maps : (at : ℕ) → at < length columns
      → MapsTo (get_or columns at None) (get_or ordinals at []) (get_or written at Same)
  pub are : sources ≡ with_maps start columns written
