-- What the paths of the columns below fast JSON fields begin with: the name of a field, and a separator.
use Rattle.std.specs.Prelude.{◌≡◌, ℕ, ◌&&◌, Bool, true, false, List, [], ◌∷◌, ◌++◌, length, not, take}
use Rattle.std.specs.Cmp.Lexicographic.{slice_cmp}
use Rattle.std.specs.List.{list_any}
use Rattle.std.specs.List.Sorted.{IsPartitionPoint}
use Rattle.std.specs.Ordering.{is_gt, nat_cmp}
use Rattle.std.specs.Str.{bytes_eq}
use Rattle.seg_column_file.specs.ColumnFiles.{is_below}
use Rattle.seg_values.specs.declared.schema.FieldEntry.{FieldEntry}
use Rattle.seg_model.specs.Fields.{Schema}
use Rattle.seg_column_format.specs.SchemaColumns.{is_fast_json}

-- whether bytes begin with others
abbrev pub begins : List ℕ → List ℕ → Bool
begins path start = bytes_eq start (take (length start) path)

-- whether bytes are not after others in byte order
abbrev pub is_up_to : List ℕ → List ℕ → Bool
is_up_to path start = not (is_gt (slice_cmp nat_cmp start path))

-- whether a path is below a fast JSON field
abbrev pub is_below_json : List ℕ → FieldEntry → Bool
is_below_json path e = is_fast_json e && is_below e.name path

-- each of some is not after the next one
abbrev pub Ascend : List (List ℕ) → Type 0
Ascend [] = Unit {0}
Ascend (s ∷ []) = Unit {0}
Ascend (s ∷ t ∷ ss) = (is_up_to t s ≡ true) × Ascend (t ∷ ss)

-- nor does the next one begin with it
abbrev pub AreApart : List (List ℕ) → Type 0
AreApart [] = Unit {0}
AreApart (s ∷ []) = Unit {0}
AreApart (s ∷ t ∷ ss) = ((is_up_to t s ≡ true) × (begins t s ≡ false)) × AreApart (t ∷ ss)

-- paths that begin with one of some are those below the fast JSON fields
abbrev pub TellBelow : Schema → List (List ℕ) → Type 0
TellBelow schema starts = (path : List ℕ) → list_any (begins path) starts ≡ list_any (is_below_json path) schema

-- so they are, in byte order, and none begins with another one
pub record AreStarts (schema : Schema) (starts : List (List ℕ)) : Type 0 where
  pub apart : AreApart starts
  pub tell : TellBelow schema starts

-- those before a place are not after a path, and all others are
abbrev pub EndsAt : List ℕ → List (List ℕ) → ℕ → Type 0
EndsAt path = IsPartitionPoint (λ y. is_up_to path y ≡ true) (λ y. is_up_to path y ≡ false)

-- the same paths begin with one of these as with one of those
abbrev pub TellSame : List (List ℕ) → List (List ℕ) → Type 0
TellSame these those = (path : List ℕ) → list_any (begins path) these ≡ list_any (begins path) those

-- whether bytes begin with the last of some
abbrev pub begins_as_last : List (List ℕ) → List ℕ → Bool
begins_as_last [] start = false
begins_as_last (s ∷ []) start = begins start s
begins_as_last (s ∷ t ∷ ss) start = begins_as_last (t ∷ ss) start

-- what a field has as the start of paths below it
abbrev pub start_of : FieldEntry → List ℕ
start_of e = e.name ++ 1 ∷ []
