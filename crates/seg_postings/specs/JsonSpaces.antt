-- The space that the terms of a JSON field take, by path and type.
use Rattle.std.specs.Prelude.{◌≡◌, ◌==◌, if◌then◌else◌, ℕ, ◌-◌, ◌<◌, Bool, true, List, [], ◌∷◌, ◌++◌, length, map, take, filter, string_bytes}
use Rattle.std.specs.List.{sum_by, list_any, AllByRecursion}
use Rattle.std.specs.List.Sorted.{IsStrictlySortedBy}
use Rattle.std.specs.Ordering.{nat_cmp}
use Rattle.std.specs.Cmp.Lexicographic.{slice_cmp}
use Rattle.std.specs.Str.{bytes_eq}
use Rattle.seg_values.specs.declared.field_type.FieldType.{FieldType}
use Rattle.seg_values.specs.declared.field_type.FieldType.TheVariants as types
use Rattle.seg_termdict.specs.Dictionary.{Term}
use Rattle.seg_postings.specs.declared.field_space.InvertedIndexFieldSpace.{InvertedIndexFieldSpace}

-- the type code of the values of a type, `s`, `i`, `u`, `o` or `d`; 0 of a type that JSON values don't have
abbrev pub code_of : FieldType → ℕ
code_of types.Str = 115
code_of types.I64 = 105
code_of types.U64 = 117
code_of types.Bool = 111
code_of types.Date = 100
code_of _ = 0

-- a term of a JSON field up to its type code: its path, a byte 0 and the code
abbrev pub path_and_type : List ℕ → List ℕ
path_and_type [] = []
path_and_type (b ∷ bytes) = b ∷ (if b == 0 then take 1 bytes else path_and_type bytes)

-- what the terms of a space begin with
abbrev pub beginning : InvertedIndexFieldSpace → List ℕ
beginning space = string_bytes space.field_name ++ 0 ∷ code_of space.field_type ∷ []

-- whether a term has this path and type
abbrev pub begins_with : List ℕ → Term → Bool
begins_with head t = bytes_eq (path_and_type t.0) head

-- how many terms there are, one or more, and how long their ranges are together
pub record IsSpaceOf (terms : List Term) (space : InvertedIndexFieldSpace) : Type 0 where
  pub number : space.num_terms ≡ length terms
  pub occur : 0 < space.num_terms
  pub postings : space.postings_size.0 ≡ sum_by (λ t. t.1.postings_end - t.1.postings_start) terms
  pub positions : space.positions_size.0 ≡ sum_by (λ t. t.1.positions_end - t.1.positions_start) terms

-- a space is that of all terms of its path and type
abbrev pub IsSpaceAmong : List Term → InvertedIndexFieldSpace → Type 0
IsSpaceAmong terms space = IsSpaceOf (filter (begins_with (beginning space)) terms) space

-- the spaces of the paths and types of some terms, in the terms' order: each of its own path and type, each term in one
pub record AreSpaces (terms : List Term) (spaces : List InvertedIndexFieldSpace) : Type 0 where
  pub ascend : IsStrictlySortedBy (slice_cmp nat_cmp) (map beginning spaces)
  pub each : AllByRecursion (IsSpaceAmong terms) spaces
  pub all : AllByRecursion (λ t. list_any (λ space. begins_with (beginning space) t) spaces ≡ true) terms
