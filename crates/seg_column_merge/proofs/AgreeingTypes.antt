-- Rows of one path and kind have the type that is required.
use Rattle.std.proofs.Common.{◌≡◌, ℕ, ◌+◌, Bool, true, false, cond, List, [], ◌∷◌, ◌++◌, map, filter, refl, sym, ap, subst, ◌∙◌, arith}
use Rattle.std.specs.Prelude.{All, String, nat_eq}
use Rattle.std.specs.declared.alloc.Global.{Global}
use Rattle.std.specs.List.{AllByRecursion, flat_map}
use Rattle.std.specs.Str.{bytes_eq}
use Rattle.std.specs.Cmp.Lexicographic.{bytes_decides}
use Rattle.std.proofs.lemmas.Bool.{and_parts, false≢true, true≢false}
use Rattle.std.proofs.lemmas.Bool.Decides.{nat_tests}
use Rattle.std.proofs.lemmas.List.{map-append}
use Rattle.std.proofs.lemmas.List.Elements.{recursion_from_All}
use Rattle.seg_common.proofs.Lists.{all_both}
use Rattle.seg_common.specs.declared.column_type.ColumnType.{ColumnType}
use Rattle.seg_common.specs.declared.column_type.ColumnType.TheVariants.{I64, U64, Bytes, Str, Bool as Boolean, IpAddr, DateTime}
use Rattle.seg_model.specs.Columns.{ColumnKey, is_number}
use Rattle.seg_column_file.specs.ColumnFiles.{ColumnFile, NamedColumn}
use Rattle.seg_column_format.specs.ModelColumns.{column_key}
use Rattle.seg_column_merge.specs.Cells.{is_absent, is_of, rows_with}
use Rattle.seg_column_merge.specs.MergedColumns.{AgreesWith, required_key}
use Rattle.seg_column_merge_parts.specs.Tables.{Row, all_rows, file_row, file_rows, kind_of, required_row}

-- the key of a row
abbrev pub row_key : Row → ColumnKey
row_key r = record { path = r.path; type = r.type }

required_keys : (required : List (String Global × ColumnType))
    → map row_key (map required_row required) ≡ map required_key required
required_keys [] = refl
required_keys (r ∷ rs) = ap (λ (l : List ColumnKey). required_key r ∷ l) (required_keys rs)

file_keys : (file : ℕ) (columns : List NamedColumn) → map row_key (map (file_row file) columns) ≡ map column_key columns
file_keys file [] = refl
file_keys file (c ∷ cs) = ap (λ (l : List ColumnKey). column_key c ∷ l) (file_keys file cs)

files_keys : (first : ℕ) (files : List ColumnFile)
    → map row_key (file_rows first files) ≡ flat_map (λ f. map column_key f.columns) files
files_keys first [] = refl
files_keys first (f ∷ fs) =
    map-append row_key (map (file_row first) f.columns) (file_rows (first + 1) fs)
    ∙ (λ j. file_keys first f.columns j ++ files_keys (first + 1) fs j)

pub all_keys : (required : List (String Global × ColumnType)) (files : List ColumnFile)
    → map row_key (all_rows required files)
    ≡ map required_key required ++ flat_map (λ f. map column_key f.columns) files
all_keys required files =
    map-append row_key (map required_row required) (file_rows 0 files)
    ∙ (λ j. required_keys required j ++ files_keys 0 files j)

-- ---- rows

of_map : (P : ColumnKey → Type 0) (rows : List Row) → AllByRecursion P (map row_key rows)
    → AllByRecursion (λ r. P (row_key r)) rows
of_map P [] all = tt
of_map P (r ∷ rs) all = (all.0, of_map P rs all.1)

filtered : (P : Row → Type 0) (test : Row → Bool) (rows : List Row) → AllByRecursion P rows
    → AllByRecursion (λ r. P r × (test r ≡ true)) (filter test rows)
filtered P test [] all = tt
filtered P test (r ∷ rs) all = by (test r) refl (filtered P test rs all.1)
  where
    by : (b : Bool) → test r ≡ b → AllByRecursion (λ (s : Row). P s × (test s ≡ true)) (filter test rs)
        → AllByRecursion (λ (s : Row). P s × (test s ≡ true)) (cond b (r ∷ filter test rs) (filter test rs))
    by true e rest = ((all.0, e), rest)
    by false e rest = rest

same_type : (t u : ColumnType) → nat_eq (kind_of t) (kind_of u) ≡ true → is_number u ≡ false → t ≡ u
same_type I64 I64 e other = refl
same_type I64 U64 e other = absurd (true≢false other)
same_type I64 _ e other = absurd (false≢true e)
same_type U64 I64 e other = absurd (true≢false other)
same_type U64 U64 e other = refl
same_type U64 _ e other = absurd (false≢true e)
same_type Bytes Bytes e other = refl
same_type Bytes _ e other = absurd (false≢true e)
same_type Str Str e other = refl
same_type Str _ e other = absurd (false≢true e)
same_type Boolean Boolean e other = refl
same_type Boolean _ e other = absurd (false≢true e)
same_type IpAddr IpAddr e other = refl
same_type IpAddr _ e other = absurd (false≢true e)
same_type DateTime DateTime e other = refl
same_type DateTime _ e other = absurd (false≢true e)

pub type_of_kind : (t u : ColumnType) → kind_of t ≡ kind_of u → is_number u ≡ false → t ≡ u
type_of_kind t u same other = same_type t u (grind (arith, nat_tests, same)) other

module _ (required : List (String Global × ColumnType)) (files : List ColumnFile)
    (types : All (λ r. All (AgreesWith r) (map required_key required ++ flat_map (λ f. map column_key f.columns) files))
    (map required_key required)) where
  -- all rows agree with a row that is required
  abbrev Agrees : Row → Type 0
  Agrees r = is_absent r.column ≡ true
      → AllByRecursion (λ s. AgreesWith (row_key r) (row_key s)) (all_rows required files)

  agree_required : (rs : List (String Global × ColumnType))
      → AllByRecursion (λ k. All (AgreesWith k)
      (map required_key required ++ flat_map (λ f. map column_key f.columns) files))
      (map required_key rs) → AllByRecursion Agrees (map required_row rs)
  agree_required [] all = tt
  agree_required (r ∷ rs) all = (
    (λ absent. of_map (AgreesWith (required_key r)) (all_rows required files)
        (subst (AllByRecursion (AgreesWith (required_key r))) (sym (all_keys required files))
        (recursion_from_All (AgreesWith (required_key r))
        (map required_key required ++ flat_map (λ f. map column_key f.columns) files) all.0))),
    agree_required rs all.1,
  )

  agree_file : (file : ℕ) (columns : List NamedColumn) → AllByRecursion Agrees (map (file_row file) columns)
  agree_file file [] = tt
  agree_file file (c ∷ cs) = ((λ absent. absurd (false≢true absent)), agree_file file cs)

  agree_files : (first : ℕ) (fs : List ColumnFile) → AllByRecursion Agrees (file_rows first fs)
  agree_files first [] = tt
  agree_files first (f ∷ fs) =
      all_both Agrees (map (file_row first) f.columns) (file_rows (first + 1) fs) (agree_file first f.columns)
      (agree_files (first + 1) fs)

  all_agree : AllByRecursion Agrees (all_rows required files)
  all_agree = all_both Agrees (map required_row required) (file_rows 0 files)
      (agree_required required (recursion_from_All
      (λ k. All (AgreesWith k) (map required_key required ++ flat_map (λ f. map column_key f.columns) files))
      (map required_key required) types)) (agree_files 0 files)

  -- ---- of one path and kind

  kind_number : (t u : ColumnType) → nat_eq (kind_of t) (kind_of u) ≡ true → is_number u ≡ true → is_number t ≡ true
  kind_number I64 u e n = refl
  kind_number U64 u e n = refl
  kind_number Bytes I64 e n = absurd (false≢true e)
  kind_number Bytes U64 e n = absurd (false≢true e)
  kind_number Bytes _ e n = absurd (false≢true n)
  kind_number Str I64 e n = absurd (false≢true e)
  kind_number Str U64 e n = absurd (false≢true e)
  kind_number Str _ e n = absurd (false≢true n)
  kind_number Boolean I64 e n = absurd (false≢true e)
  kind_number Boolean U64 e n = absurd (false≢true e)
  kind_number Boolean _ e n = absurd (false≢true n)
  kind_number IpAddr I64 e n = absurd (false≢true e)
  kind_number IpAddr U64 e n = absurd (false≢true e)
  kind_number IpAddr _ e n = absurd (false≢true n)
  kind_number DateTime I64 e n = absurd (false≢true e)
  kind_number DateTime U64 e n = absurd (false≢true e)
  kind_number DateTime _ e n = absurd (false≢true n)

  module _ (path : List ℕ) (kind : ℕ) (r : Row) (rest : List Row)
      (is : rows_with path kind (all_rows required files) ≡ r ∷ rest) where
    -- what holds of a row of them
    abbrev IsTheirs : Row → Type 0
    IsTheirs s = is_of path kind s ≡ true

    theirs : AllByRecursion (λ s. Agrees s × IsTheirs s) (r ∷ rest)
    theirs = subst (AllByRecursion (λ s. Agrees s × IsTheirs s)) is
        (filtered Agrees (is_of path kind) (all_rows required files) all_agree)

    kind_is : (s : Row) → IsTheirs s → kind_of s.type ≡ kind
    kind_is s e =
        let parts = and_parts (bytes_eq path s.path) (nat_eq (kind_of s.type) kind) e in
        grind (arith, nat_tests, parts.1)

    pub first_kind : kind_of r.type ≡ kind
    first_kind = kind_is r theirs.0.1

    path_is : (s : Row) → IsTheirs s → path ≡ s.path
    path_is s e =
        let parts = and_parts (bytes_eq path s.path) (nat_eq (kind_of s.type) kind) e in
        (bytes_decides path s.path).0 parts.0

    pub first_path : path ≡ r.path
    first_path = path_is r theirs.0.1

    agree_one : (s : Row) → AgreesWith (row_key r) (row_key s) → IsTheirs s → s.type ≡ r.type
    agree_one s agrees e = by (is_number r.type) refl
      where
        kinds : nat_eq (kind_of s.type) (kind_of r.type) ≡ true
        kinds = let same : kind_of s.type ≡ kind_of r.type = kind_is s e
            ∙ sym first_kind in grind (arith, nat_tests, same)

        by : (b : Bool) → is_number r.type ≡ b → s.type ≡ r.type
        by true n = agrees n (kind_number s.type r.type kinds n) (sym (path_is s e) ∙ first_path)
        by false other = same_type s.type r.type kinds other

    agree_rest : (ss : List Row) → AllByRecursion (λ s. AgreesWith (row_key r) (row_key s) × IsTheirs s) ss
        → AllByRecursion (λ s. s.type ≡ r.type) ss
    agree_rest [] all = tt
    agree_rest (s ∷ ss) all = (agree_one s all.0.0 all.0.1, agree_rest ss all.1)

    pub types_agree : is_absent r.column ≡ true → AllByRecursion (λ s. s.type ≡ r.type) rest
    types_agree absent =
        agree_rest rest
        (subst (AllByRecursion (λ s. AgreesWith (row_key r) (row_key s) × IsTheirs s)) is
        (filtered (λ s. AgreesWith (row_key r) (row_key s)) (is_of path kind) (all_rows required files)
        (theirs.0.0 absent))).1
