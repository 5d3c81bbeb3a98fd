-- What a file has at each key is what was recorded there.
use Rattle.std.proofs.Common.{◌≡◌, ℕ, zero, suc, ◌+◌, Bool, true, false, cond, List, [], ◌∷◌, ◌++◌, map, Option, Some, None, sym, refl, ap, subst, ◌∙◌}
use Rattle.std.specs.Prelude.{◌||◌, ◌&&◌, not, is_some, nat_eq, if◌then◌else◌}
use Rattle.std.specs.List.{AllByRecursion, list_all, list_any, range_with_len}
use Rattle.std.specs.Ordering.{nat_cmp, eq_by_cmp, is_eq, ordering_then}
use Rattle.std.specs.declared.cmp.Ordering.{Ordering}
use Rattle.std.specs.declared.cmp.Ordering.TheVariants.{Less, Equal, Greater}
use Rattle.std.specs.Cmp.Lexicographic.{bytes_decides, slice_cmp, texts_ties}
use Rattle.std.specs.Cmp.{unsigned_ties}
use Rattle.std.specs.FinMap.{find}
use Rattle.std.specs.Str.{bytes_eq}
use Rattle.std.proofs.lemmas.Bool.{false≢true, and_parts}
use Rattle.std.proofs.lemmas.Bool.Decides.{Decides-eqb}
use Rattle.std.proofs.lemmas.List.Folds.{list_any-append}
use Rattle.std.proofs.lemmas.Option.{same_Some}
use Rattle.std.specs.Option.{option_or}
use Rattle.seg_column_format.specs.SchemaColumns.{has_values}
use Rattle.seg_common.specs.declared.column_type.ColumnType.{ColumnType}
use Rattle.seg_common.specs.declared.column_type.ColumnType.TheVariants as types
use Rattle.seg_model.specs.Columns.{ColumnKey, ColumnValue, column_at, column_cmp, column_named, fits_i64, free_number_type, if_there, is_declared, is_filled, is_mixed, is_not_negative, is_type, type_place, without_values}
use Rattle.seg_column_format.specs.FileBytes.{code_of}
use Rattle.seg_column_writer.specs.ValueKinds.{kind_of, kind_place}
use Rattle.seg_column_writer.specs.ColumnRecords.{ColumnRecord, is_named}
use Rattle.seg_column_writer.specs.RecordedColumns.{IsOfKind, column_type_of, declared_in, entries_in, entry_of, is_there, rows_at, rows_in, type_of_values, typed_entry}
use Rattle.seg_column_writer.specs.declared.value_kind.ValueKind.{ValueKind}
use Rattle.seg_column_writer.specs.declared.value_kind.ValueKind.TheVariants.{Number, Bytes, Str, Bool as Boolean, IpAddr, DateTime}
use Rattle.seg_model.proofs.Exports.{is_filled-without_values}
use Rattle.seg_column_format.proofs.Exports.{same_type, Rows}

-- ---- keys

pub place_is_code : (t : ColumnType) → type_place t ≡ code_of t
place_is_code types.I64 = refl
place_is_code types.U64 = refl
place_is_code types.Bytes = refl
place_is_code types.Str = refl
place_is_code types.Bool = refl
place_is_code types.IpAddr = refl
place_is_code types.DateTime = refl

kind_at : ℕ → ValueKind
kind_at zero = Number
kind_at (suc zero) = Bytes
kind_at (suc (suc zero)) = Str
kind_at (suc (suc (suc zero))) = Boolean
kind_at (suc (suc (suc (suc zero)))) = IpAddr
kind_at (suc (suc (suc (suc (suc n))))) = DateTime

kind_read : (k : ValueKind) → kind_at (kind_place k) ≡ k
unfolding kind_at
kind_read Number = refl
kind_read Bytes = refl
kind_read Str = refl
kind_read Boolean = refl
kind_read IpAddr = refl
kind_read DateTime = refl

pub same_kind : (j k : ValueKind) → kind_place j ≡ kind_place k → j ≡ k
same_kind j k e = sym (kind_read j) ∙ ap kind_at e ∙ kind_read k

pub key_eq : (q k : ColumnKey)
    → eq_by_cmp column_cmp q k ≡ (bytes_eq q.path k.path && nat_eq (type_place q.type) (type_place k.type))
key_eq q k =
    by (slice_cmp nat_cmp q.path k.path) (nat_cmp (type_place q.type) (type_place k.type)) (bytes_eq q.path k.path)
    (nat_eq (type_place q.type) (type_place k.type)) (texts_ties q.path k.path)
    (unsigned_ties (type_place q.type) (type_place k.type))
  where
    by : (r s : Ordering) (a b : Bool) → a ≡ is_eq r → b ≡ is_eq s → is_eq (ordering_then r s) ≡ (a && b)
    by Less s a b e f = sym (ap (λ x. x && b) e)
    by Equal s a b e f = sym f ∙ sym (ap (λ x. x && b) e)
    by Greater s a b e f = sym (ap (λ x. x && b) e)

abbrev pub keyed : List ℕ → ColumnType → ColumnKey
keyed path type = record { path = path; type = type }

-- a column that isn't named by a key has none of this key
pub not_keyed : (path : List ℕ) (type : ColumnType) (c : ColumnRecord) (t : ColumnType) → kind_of t ≡ c.recording.kind
    → is_named path (kind_of type) c ≡ false → eq_by_cmp column_cmp (keyed path type) (keyed c.path t) ≡ false
not_keyed path type c t of other =
    key_eq (keyed path type) (keyed c.path t)
    ∙ by (bytes_eq path c.path) (nat_eq (type_place type) (type_place t)) refl refl
  where
    by : (a b : Bool) → bytes_eq path c.path ≡ a → nat_eq (type_place type) (type_place t) ≡ b → (a && b) ≡ false
    by false b e f = refl
    by true false e f = refl
    by true true e f =
        let same : type ≡ t = same_type type t ((Decides-eqb (type_place type) (type_place t)).0 f) in
        let kinds : nat_eq (kind_place (kind_of type)) (kind_place c.recording.kind) ≡ true =
        (Decides-eqb (kind_place (kind_of type)) (kind_place c.recording.kind)).1 (ap (λ (u : ColumnType). kind_place (kind_of u)) same ∙ ap kind_place of) in
        sym (sym other ∙ (λ j. kinds j && e j))

-- ---- one column

free_kind : (a b : Bool) (t : ColumnType)
    → cond a (Some types.I64) (cond b (Some types.U64) None) ≡ Some t → kind_of t ≡ Number
free_kind true b t e = ap kind_of (sym (same_Some types.I64 t e))
free_kind false true t e = ap kind_of (sym (same_Some types.U64 t e))
free_kind false false t e = absurd (false≢true (ap is_some e))

pub typed_kind : (kind : ValueKind) (declared : Option ColumnType) (values : List ColumnValue) (t : ColumnType)
    → IsOfKind kind declared → option_or declared (type_of_values kind values) ≡ Some t → kind_of t ≡ kind
typed_kind kind (Some u) values t of e = ap kind_of (sym (same_Some u t e)) ∙ of
typed_kind Number None values t of e =
    free_kind (list_all (list_all fits_i64) (values ∷ [])) (list_all (list_all is_not_negative) (values ∷ [])) t e
typed_kind Bytes None values t of e = ap kind_of (sym (same_Some types.Bytes t e))
typed_kind Str None values t of e = ap kind_of (sym (same_Some types.Str t e))
typed_kind Boolean None values t of e = ap kind_of (sym (same_Some types.Bool t e))
typed_kind IpAddr None values t of e = ap kind_of (sym (same_Some types.IpAddr t e))
typed_kind DateTime None values t of e = ap kind_of (sym (same_Some types.DateTime t e))

-- the type of rows of a kind
abbrev pub type_of_rows : ValueKind → List (List ColumnValue) → Option ColumnType
type_of_rows Number rows = free_number_type rows
type_of_rows kind rows = type_of_values kind []

-- a column is well declared, and its rows tell what its values do
pub record IsGood (count : ℕ) (c : ColumnRecord) : Type 0 where
  pub kind : IsOfKind c.recording.kind c.recording.declared
  pub filled : list_any is_filled (rows_in count c.recording) ≡ has_values c.recording.values
  pub free : type_of_values c.recording.kind (map (λ v. v.value) c.recording.values)
      ≡ type_of_rows c.recording.kind (rows_in count c.recording)
  pub typed : is_some (column_type_of c.recording) ≡ true

abbrev pub Entries : Type 0
Entries = List (ColumnKey × Rows)

-- ---- a column that isn't named

module _ (count : ℕ) (path : List ℕ) (type : ColumnType) (c : ColumnRecord) (good : IsGood count c)
    (other : is_named path (kind_of type) c ≡ false) where
  abbrev key : ColumnKey
  key = keyed path type

  find_skip : (es : Entries) → find column_cmp key (entry_of count c ++ es) ≡ find column_cmp key es
  find_skip es = by (is_there c.recording) (column_type_of c.recording) (λ t e. typed_kind c.recording.kind
      c.recording.declared (map (λ v. v.value) c.recording.values) t good.kind e)
    where
      by : (b : Bool) (o : Option ColumnType) → ((t : ColumnType) → o ≡ Some t → kind_of t ≡ c.recording.kind)
          → find column_cmp key (cond b (typed_entry count c o) [] ++ es) ≡ find column_cmp key es
      by false o of = refl
      by true None of = refl
      by true (Some t) of =
          ap (λ (b : Bool). cond b (Some (rows_in count c.recording)) (find column_cmp key es))
          (not_keyed path type c t (of t refl) other)

-- what is declared of a column that isn't named
pub declared_skip : (path : List ℕ) (type : ColumnType) (c : ColumnRecord) → IsOfKind c.recording.kind c.recording.declared
    → is_named path (kind_of type) c ≡ false → (ds : List ColumnKey)
    → is_declared (column_named c.path c.recording.declared ++ ds) (keyed path type) ≡ is_declared ds (keyed path type)
declared_skip path type c of other ds = by c.recording.declared of
  where
    by : (declared : Option ColumnType) → IsOfKind c.recording.kind declared
        → is_declared (column_named c.path declared ++ ds) (keyed path type) ≡ is_declared ds (keyed path type)
    by None of = refl
    by (Some t) of = ap (λ (b : Bool). b || is_declared ds (keyed path type)) (not_keyed path type c t of other)

-- ---- columns of which none is named

abbrev pub NoneNamed : List ℕ → ValueKind → List ColumnRecord → Type 0
NoneNamed path kind columns = AllByRecursion (λ c. is_named path kind c ≡ false) columns

find_none : (count : ℕ) (path : List ℕ) (type : ColumnType) (columns : List ColumnRecord)
    → AllByRecursion (IsGood count) columns → NoneNamed path (kind_of type) columns
    → find column_cmp (keyed path type) (entries_in count columns) ≡ None
find_none count path type [] good none = refl
find_none count path type (c ∷ cs) good none =
    find_skip count path type c good.0 none.0 (entries_in count cs) ∙ find_none count path type cs good.1 none.1

-- each declared type is of its column's kind
abbrev pub AreOfKind : List ColumnRecord → Type 0
AreOfKind columns = AllByRecursion (λ c. IsOfKind c.recording.kind c.recording.declared) columns

pub declared_nowhere : (path : List ℕ) (type : ColumnType) (columns : List ColumnRecord) → AreOfKind columns
    → NoneNamed path (kind_of type) columns → is_declared (declared_in columns) (keyed path type) ≡ false
declared_nowhere path type [] of none = refl
declared_nowhere path type (c ∷ cs) of none =
    declared_skip path type c of.0 none.0 (declared_in cs) ∙ declared_nowhere path type cs of.1 none.1

pub kinds_of : (count : ℕ) (columns : List ColumnRecord) → AllByRecursion (IsGood count) columns → AreOfKind columns
kinds_of count [] good = tt
kinds_of count (c ∷ cs) good = (good.0.kind, kinds_of count cs good.1)

declared_none : (count : ℕ) (path : List ℕ) (type : ColumnType) (columns : List ColumnRecord)
    → AllByRecursion (IsGood count) columns → NoneNamed path (kind_of type) columns
    → is_declared (declared_in columns) (keyed path type) ≡ false
declared_none count path type columns good none =
    declared_nowhere path type columns (kinds_of count columns good) none

-- ---- the model's column at a key, by what it depends on

-- of numbers
abbrev numbers_at : Bool → Bool → Bool → ColumnType → Rows → Option Rows
numbers_at here signed unsigned type rows =
    if_there here (if is_type type (if signed then Some types.I64
    else (if unsigned then Some types.U64 else free_number_type rows)) then rows else without_values rows)

abbrev at_key : Bool → Bool → Bool → ColumnType → Rows → Option Rows
at_key here signed unsigned types.I64 rows = numbers_at here signed unsigned types.I64 rows
at_key here signed unsigned types.U64 rows = numbers_at here signed unsigned types.U64 rows
at_key here signed unsigned type rows = if_there here rows

column_is : (declared : List ColumnKey) (path : List ℕ) (type : ColumnType) (rows : Rows)
    → column_at declared (keyed path type) rows
    ≡ at_key (is_declared declared (keyed path type)) (is_declared declared (keyed path types.I64))
    (is_declared declared (keyed path types.U64)) type rows
column_is declared path types.I64 rows = refl
column_is declared path types.U64 rows = refl
column_is declared path types.Bytes rows = refl
column_is declared path types.Str rows = refl
column_is declared path types.Bool rows = refl
column_is declared path types.IpAddr rows = refl
column_is declared path types.DateTime rows = refl

-- what is declared of numbers, where the key is of a number
same_at : (here signed unsigned there first second : Bool) (type : ColumnType) (rows : Rows) → here ≡ there
    → (kind_of type ≡ Number → signed ≡ first) → (kind_of type ≡ Number → unsigned ≡ second)
    → at_key here signed unsigned type rows ≡ at_key there first second type rows
same_at here signed unsigned there first second types.I64 rows e f g =
    λ j. numbers_at (e j) (f refl j) (g refl j) types.I64 rows
same_at here signed unsigned there first second types.U64 rows e f g =
    λ j. numbers_at (e j) (f refl j) (g refl j) types.U64 rows
same_at here signed unsigned there first second types.Bytes rows e f g = ap (λ b. if_there b rows) e
same_at here signed unsigned there first second types.Str rows e f g = ap (λ b. if_there b rows) e
same_at here signed unsigned there first second types.Bool rows e f g = ap (λ b. if_there b rows) e
same_at here signed unsigned there first second types.IpAddr rows e f g = ap (λ b. if_there b rows) e
same_at here signed unsigned there first second types.DateTime rows e f g = ap (λ b. if_there b rows) e

nothing_at : (type : ColumnType) (rows : Rows) → list_any is_filled rows ≡ false
    → at_key false false false type rows ≡ None
nothing_at types.I64 rows none = by (is_type types.I64 (free_number_type rows))
  where
    by : (b : Bool) → if_there false (cond b rows (without_values rows)) ≡ None
    by true = ap (λ b. cond b (Some rows) None) none
    by false = ap (λ b. cond b (Some (without_values rows)) None) (is_filled-without_values rows)
nothing_at types.U64 rows none = by (is_type types.U64 (free_number_type rows))
  where
    by : (b : Bool) → if_there false (cond b rows (without_values rows)) ≡ None
    by true = ap (λ b. cond b (Some rows) None) none
    by false = ap (λ b. cond b (Some (without_values rows)) None) (is_filled-without_values rows)
nothing_at types.Bytes rows none = ap (λ b. cond b (Some rows) None) none
nothing_at types.Str rows none = ap (λ b. cond b (Some rows) None) none
nothing_at types.Bool rows none = ap (λ b. cond b (Some rows) None) none
nothing_at types.IpAddr rows none = ap (λ b. cond b (Some rows) None) none
nothing_at types.DateTime rows none = ap (λ b. cond b (Some rows) None) none

-- ---- the column that is named

-- of a kind that isn't of numbers, all of whose columns have one type
module _ (count : ℕ) (path : List ℕ) (type : ColumnType) (c : ColumnRecord) (es : Entries)
    (none : find column_cmp (keyed path type) es ≡ None) (is : bytes_eq path c.path ≡ true) where
  abbrev rows : Rows
  rows = rows_in count c.recording

  abbrev own : List ℕ
  own = c.path

  abbrev entry : Option ColumnType → Entries
  entry o = typed_entry count c o

  equal : (t : ColumnType) → eq_by_cmp column_cmp (keyed path type) (keyed own t) ≡ nat_eq (type_place type) (type_place t)
  equal t = key_eq (keyed path type) (keyed own t) ∙ ap (λ b. b && nat_eq (type_place type) (type_place t)) is

  itself : eq_by_cmp column_cmp (keyed path type) (keyed own type) ≡ true
  itself = equal type ∙ (Decides-eqb (type_place type) (type_place type)).1 refl

  found : (t : ColumnType) → nat_eq (type_place type) (type_place t) ≡ true
      → find column_cmp (keyed path type) (entry (Some t) ++ es) ≡ Some rows
  found t e = ap (λ (b : Bool). cond b (Some rows) (find column_cmp (keyed path type) es)) (equal t ∙ e)

  missed : (t : ColumnType) → nat_eq (type_place type) (type_place t) ≡ false
      → find column_cmp (keyed path type) (entry (Some t) ++ es) ≡ None
  missed t e = ap (λ (b : Bool). cond b (Some rows) (find column_cmp (keyed path type) es)) (equal t ∙ e) ∙ none

  plain : (only : (t : ColumnType) → kind_of t ≡ kind_of type → t ≡ type) (declared : Option ColumnType) (has : Bool)
      → IsOfKind (kind_of type) declared → list_any is_filled rows ≡ has
      → find column_cmp (keyed path type)
      (cond (is_some declared || has) (entry (option_or declared (Some type))) [] ++ es)
      ≡ if_there (is_declared (column_named own declared) (keyed path type)) rows
  plain only None true of filled =
      found type ((Decides-eqb (type_place type) (type_place type)).1 refl)
      ∙ sym (ap (λ b. cond b (Some rows) None) filled)
  plain only None false of filled = none ∙ sym (ap (λ b. cond b (Some rows) None) filled)
  plain only (Some t) has of filled =
      let same : t ≡ type = only t of in
      let e : nat_eq (type_place type) (type_place t) ≡ true =
      (Decides-eqb (type_place type) (type_place t)).1 (sym (ap type_place same)) in
      found t e
      ∙ sym (ap (λ b. cond ((b || false) || list_any is_filled rows) (Some rows) None) (equal t ∙ e))

-- of numbers
module _ (count : ℕ) (path : List ℕ) (type : ColumnType) (c : ColumnRecord) (es : Entries)
    (none : find column_cmp (keyed path type) es ≡ None) (is : bytes_eq path c.path ≡ true) where
  abbrev all : Rows
  all = rows_in count c.recording

  abbrev typed : Option ColumnType → Entries
  typed o = typed_entry count c o

  either : (b : Bool) (t : ColumnType) → nat_eq (type_place type) (type_place t) ≡ b
      → find column_cmp (keyed path type) (typed (Some t) ++ es) ≡ cond b (Some all) None
  either true t e = found count path type c es none is t e
  either false t e = missed count path type c es none is t e

  -- not declared
  free_numbers : (has : Bool) (free : Option ColumnType) → list_any is_filled all ≡ has → free ≡ free_number_type all
      → is_some free ≡ true
      → find column_cmp (keyed path type) (cond has (typed free) [] ++ es)
      ≡ numbers_at false false false type all
  free_numbers has None filled e some = absurd (false≢true some)
  free_numbers has (Some t) filled e some =
      by has (nat_eq (type_place type) (type_place t)) filled refl
      ∙ ap (λ o. if_there false (if is_type type o then all else without_values all)) e
    where
      by : (has b : Bool) → list_any is_filled all ≡ has → nat_eq (type_place type) (type_place t) ≡ b
          → find column_cmp (keyed path type) (cond has (typed (Some t)) [] ++ es)
          ≡ if_there false (if nat_eq (type_place type) (type_place t) then all else without_values all)
      by true true filled e =
          either true t e ∙ sym (ap (λ b. cond b (Some all) None) filled)
          ∙ sym (ap (λ b. if_there false (if b then all else without_values all)) e)
      by false true filled e =
          none ∙ sym (ap (λ b. cond b (Some all) None) filled)
          ∙ sym (ap (λ b. if_there false (if b then all else without_values all)) e)
      by true false filled e =
          either false t e ∙ sym (ap (λ b. cond b (Some (without_values all)) None) (is_filled-without_values all))
          ∙ sym (ap (λ b. if_there false (if b then all else without_values all)) e)
      by false false filled e =
          none ∙ sym (ap (λ b. cond b (Some (without_values all)) None) (is_filled-without_values all))
          ∙ sym (ap (λ b. if_there false (if b then all else without_values all)) e)

  -- declared as a type
  told : (t : ColumnType)
      → find column_cmp (keyed path type) (typed (Some t) ++ es)
      ≡ if_there (nat_eq (type_place type) (type_place t) || false)
      (if nat_eq (type_place type) (type_place t) then all else without_values all)
  told t = by (nat_eq (type_place type) (type_place t)) refl
    where
      by : (b : Bool) → nat_eq (type_place type) (type_place t) ≡ b
          → find column_cmp (keyed path type) (typed (Some t) ++ es)
          ≡ if_there (nat_eq (type_place type) (type_place t) || false)
          (if nat_eq (type_place type) (type_place t) then all else without_values all)
      by true e = either true t e
          ∙ sym (ap (λ b. if_there (b || false) (if b then all else without_values all)) e)
      by false e = either false t e
          ∙ sym (ap (λ b. cond b (Some (without_values all)) None) (is_filled-without_values all))
          ∙ sym (ap (λ b. if_there (b || false) (if b then all else without_values all)) e)

  numbers : (declared : Option ColumnType) (has : Bool) (free : Option ColumnType) → IsOfKind Number declared
      → list_any is_filled all ≡ has → free ≡ free_number_type all → is_some (option_or declared free) ≡ true
      → find column_cmp (keyed path type) (cond (is_some declared || has) (typed (option_or declared free)) [] ++ es)
      ≡ numbers_at (is_declared (column_named c.path declared) (keyed path type))
      (is_declared (column_named c.path declared) (keyed path types.I64))
      (is_declared (column_named c.path declared) (keyed path types.U64)) type all
  numbers None has free of filled e some = free_numbers has free filled e some
  numbers (Some types.I64) has free of filled e some =
      told types.I64
      ∙ sym (λ j. numbers_at (equal count path type c es none is types.I64 j || false)
      (keyed_to types.I64 types.I64 j || false) (keyed_to types.U64 types.I64 j || false) type all)
    where
      keyed_to : (t u : ColumnType) → eq_by_cmp column_cmp (keyed path t) (keyed c.path u) ≡ nat_eq (type_place t) (type_place u)
      keyed_to t u = key_eq (keyed path t) (keyed c.path u) ∙ ap (λ b. b && nat_eq (type_place t) (type_place u)) is
  numbers (Some types.U64) has free of filled e some =
      told types.U64
      ∙ sym (λ j. numbers_at (equal count path type c es none is types.U64 j || false)
      (keyed_to types.I64 types.U64 j || false) (keyed_to types.U64 types.U64 j || false) type all)
    where
      keyed_to : (t u : ColumnType) → eq_by_cmp column_cmp (keyed path t) (keyed c.path u) ≡ nat_eq (type_place t) (type_place u)
      keyed_to t u = key_eq (keyed path t) (keyed c.path u) ∙ ap (λ b. b && nat_eq (type_place t) (type_place u)) is
  numbers (Some types.Bytes) has free of filled e some = absurd (other_kind of)
    where
      other_kind : kind_of types.Bytes ≡ Number → ⊥
      other_kind e = cc
  numbers (Some types.Str) has free of filled e some = absurd (other_kind of)
    where
      other_kind : kind_of types.Str ≡ Number → ⊥
      other_kind e = cc
  numbers (Some types.Bool) has free of filled e some = absurd (other_kind of)
    where
      other_kind : kind_of types.Bool ≡ Number → ⊥
      other_kind e = cc
  numbers (Some types.IpAddr) has free of filled e some = absurd (other_kind of)
    where
      other_kind : kind_of types.IpAddr ≡ Number → ⊥
      other_kind e = cc
  numbers (Some types.DateTime) has free of filled e some = absurd (other_kind of)
    where
      other_kind : kind_of types.DateTime ≡ Number → ⊥
      other_kind e = cc

-- types of a kind that isn't of numbers
only_one : (type t : ColumnType) → (kind_of type ≡ Number → ⊥) → kind_of t ≡ kind_of type → t ≡ type
only_one type t other e = same_type t type (places t type (λ n. other (sym e ∙ n)) other (ap kind_place e))
  where
    place_after : (u : ColumnType) → (kind_of u ≡ Number → ⊥) → type_place u ≡ suc (kind_place (kind_of u))
    place_after types.I64 other = absurd (other refl)
    place_after types.U64 other = absurd (other refl)
    place_after types.Bytes other = refl
    place_after types.Str other = refl
    place_after types.Bool other = refl
    place_after types.IpAddr other = refl
    place_after types.DateTime other = refl

    places : (u v : ColumnType) → (kind_of u ≡ Number → ⊥) → (kind_of v ≡ Number → ⊥)
        → kind_place (kind_of u) ≡ kind_place (kind_of v) → type_place u ≡ type_place v
    places u v a b e = place_after u a ∙ ap suc e ∙ sym (place_after v b)

module _ (count : ℕ) (path : List ℕ) (type : ColumnType) (c : ColumnRecord) (good : IsGood count c) (es : Entries)
    (none : find column_cmp (keyed path type) es ≡ None) (is : bytes_eq path c.path ≡ true)
    (kind : c.recording.kind ≡ kind_of type) where
  abbrev found_with : ValueKind → Option Rows
  found_with k = find column_cmp (keyed path type)
      (cond (is_some c.recording.declared || has_values c.recording.values)
      (typed_entry count c (option_or c.recording.declared
      (type_of_values k (map (λ v. v.value) c.recording.values)))) [] ++ es)

  declared_kind : IsOfKind (kind_of type) c.recording.declared
  declared_kind = subst (λ (k : ValueKind). IsOfKind k c.recording.declared) kind good.kind

module _ (count : ℕ) (path : List ℕ) (c : ColumnRecord) (good : IsGood count c) (es : Entries)
    (is : bytes_eq path c.path ≡ true) where
  abbrev Found : ColumnType → Type 0
  Found type = find column_cmp (keyed path type) es ≡ None → c.recording.kind ≡ kind_of type
      → find column_cmp (keyed path type) (entry_of count c ++ es)
      ≡ at_key (is_declared (column_named c.path c.recording.declared) (keyed path type))
      (is_declared (column_named c.path c.recording.declared) (keyed path types.I64))
      (is_declared (column_named c.path c.recording.declared) (keyed path types.U64)) type (rows_in count c.recording)

  of_numbers : (type : ColumnType) → kind_of type ≡ Number → find column_cmp (keyed path type) es ≡ None
      → c.recording.kind ≡ kind_of type
      → find column_cmp (keyed path type) (entry_of count c ++ es)
      ≡ numbers_at (is_declared (column_named c.path c.recording.declared) (keyed path type))
      (is_declared (column_named c.path c.recording.declared) (keyed path types.I64))
      (is_declared (column_named c.path c.recording.declared) (keyed path types.U64)) type (rows_in count c.recording)
  of_numbers type number none kind =
      let k : c.recording.kind ≡ Number = kind ∙ number in
      let vs : List ColumnValue = map (λ v. v.value) c.recording.values in
      ap (found_with count path type c good es none is kind) k
      ∙ numbers count path type c es none is c.recording.declared (has_values c.recording.values)
      (type_of_values Number vs)
      (subst (λ (k : ValueKind). IsOfKind k c.recording.declared) k good.kind) good.filled
      (subst (λ (k : ValueKind). type_of_values k vs ≡ type_of_rows k (rows_in count c.recording)) k good.free)
      (subst (λ (k : ValueKind). is_some (option_or c.recording.declared (type_of_values k vs)) ≡ true) k good.typed)

  named_at : (type : ColumnType) → Found type
  named_at types.I64 none kind = of_numbers types.I64 refl none kind
  named_at types.U64 none kind = of_numbers types.U64 refl none kind
  named_at types.Bytes none kind =
      ap (found_with count path types.Bytes c good es none is kind) kind
      ∙ plain count path types.Bytes c es none is (λ t of. only_one types.Bytes t (λ e. absurd cc) of) c.recording.declared
      (has_values c.recording.values) (declared_kind count path types.Bytes c good es none is kind) good.filled
  named_at types.Str none kind =
      ap (found_with count path types.Str c good es none is kind) kind
      ∙ plain count path types.Str c es none is (λ t of. only_one types.Str t (λ e. absurd cc) of) c.recording.declared
      (has_values c.recording.values) (declared_kind count path types.Str c good es none is kind) good.filled
  named_at types.Bool none kind =
      ap (found_with count path types.Bool c good es none is kind) kind
      ∙ plain count path types.Bool c es none is (λ t of. only_one types.Bool t (λ e. absurd cc) of) c.recording.declared
      (has_values c.recording.values) (declared_kind count path types.Bool c good es none is kind) good.filled
  named_at types.IpAddr none kind =
      ap (found_with count path types.IpAddr c good es none is kind) kind
      ∙ plain count path types.IpAddr c es none is (λ t of. only_one types.IpAddr t (λ e. absurd cc) of) c.recording.declared
      (has_values c.recording.values) (declared_kind count path types.IpAddr c good es none is kind) good.filled
  named_at types.DateTime none kind =
      ap (found_with count path types.DateTime c good es none is kind) kind
      ∙ plain count path types.DateTime c es none is (λ t of. only_one types.DateTime t (λ e. absurd cc) of) c.recording.declared
      (has_values c.recording.values) (declared_kind count path types.DateTime c good es none is kind) good.filled

-- ---- all columns

-- no two columns have one name
abbrev pub AreApart : List ColumnRecord → Type 0
AreApart [] = Unit {0}
AreApart (c ∷ cs) = AllByRecursion (λ d. is_named c.path c.recording.kind d ≡ false) cs × AreApart cs

or_false : (a b : Bool) → b ≡ false → (a || b) ≡ a
or_false true b e = refl
or_false false b e = e

declared_first : (named rest : List ColumnKey) (key : ColumnKey) → is_declared rest key ≡ false
    → is_declared (named ++ rest) key ≡ is_declared named key
declared_first named rest key none =
    list_any-append (eq_by_cmp column_cmp key) named rest ∙ or_false (is_declared named key) (is_declared rest key) none

pub no_rows : (low count : ℕ) → list_any is_filled (map {B = List ColumnValue} (λ _. []) (range_with_len low count)) ≡ false
no_rows low zero = refl
no_rows low (suc count) = no_rows (low + 1) count

still_none : (path : List ℕ) (type : ColumnType) (c : ColumnRecord) (cs : List ColumnRecord)
    → c.path ≡ path → c.recording.kind ≡ kind_of type
    → AllByRecursion (λ d. is_named c.path c.recording.kind d ≡ false) cs
    → AllByRecursion (λ d. is_named path (kind_of type) d ≡ false) cs
still_none path type c cs p k none = subst (λ (X : Type 0). X)
    (λ j. AllByRecursion (λ d. is_named (p j) (k j) d ≡ false) cs) none

pub found_at : (count : ℕ) (path : List ℕ) (type : ColumnType) (columns : List ColumnRecord)
    → AllByRecursion (IsGood count) columns → AreApart columns
    → find column_cmp (keyed path type) (entries_in count columns)
    ≡ column_at (declared_in columns) (keyed path type) (rows_at count columns (keyed path type))
found_at count path type [] good apart =
    sym (column_is [] path type (map (λ _. []) (range_with_len 0 count))
    ∙ nothing_at type (map (λ _. []) (range_with_len 0 count)) (no_rows 0 count))
found_at count path type (c ∷ cs) good apart =
    by (is_named path (kind_of type) c) refl (found_at count path type cs good.1 apart.1)
  where
    by : (b : Bool) → is_named path (kind_of type) c ≡ b
        → find column_cmp (keyed path type) (entries_in count cs)
        ≡ column_at (declared_in cs) (keyed path type) (rows_at count cs (keyed path type))
        → find column_cmp (keyed path type) (entry_of count c ++ entries_in count cs)
        ≡ column_at (column_named c.path c.recording.declared ++ declared_in cs) (keyed path type)
        (cond b (rows_in count c.recording) (rows_at count cs (keyed path type)))
    by false e rest =
        let rows : Rows = rows_at count cs (keyed path type) in
        let more : List ColumnKey = column_named c.path c.recording.declared ++ declared_in cs in
        find_skip count path type c good.0 e (entries_in count cs) ∙ rest ∙ column_is (declared_in cs) path type rows
        ∙ same_at (is_declared (declared_in cs) (keyed path type)) (is_declared (declared_in cs) (keyed path types.I64))
        (is_declared (declared_in cs) (keyed path types.U64)) (is_declared more (keyed path type))
        (is_declared more (keyed path types.I64)) (is_declared more (keyed path types.U64)) type rows
        (sym (declared_skip path type c good.0.kind e (declared_in cs)))
        (λ n. sym (declared_skip path types.I64 c good.0.kind
        (ap (λ k. is_named path k c) (sym n) ∙ e) (declared_in cs)))
        (λ n. sym (declared_skip path types.U64 c good.0.kind
        (ap (λ k. is_named path k c) (sym n) ∙ e) (declared_in cs)))
        ∙ sym (column_is more path type rows)
    by true e rest =
        let rows : Rows = rows_in count c.recording in
        let own : List ColumnKey = column_named c.path c.recording.declared in
        let more : List ColumnKey = own ++ declared_in cs in
        let both = and_parts (nat_eq (kind_place (kind_of type)) (kind_place c.recording.kind)) (bytes_eq path c.path) e in
        let kind : c.recording.kind ≡ kind_of type =
        sym (same_kind (kind_of type) c.recording.kind
        ((Decides-eqb (kind_place (kind_of type)) (kind_place c.recording.kind)).0 both.0)) in
        let none = still_none path type c cs (sym ((bytes_decides path c.path).0 both.1)) kind apart.0 in
        let number = λ (t : ColumnType) (n : kind_of type ≡ kind_of t).
        declared_first own (declared_in cs) (keyed path t)
        (declared_none count path t cs good.1 (subst (λ (k : ValueKind). AllByRecursion (λ d. is_named path k d ≡ false) cs) n none)) in
        named_at count path c good.0 (entries_in count cs) both.1 type (find_none count path type cs good.1 none) kind
        ∙ same_at (is_declared own (keyed path type)) (is_declared own (keyed path types.I64))
        (is_declared own (keyed path types.U64)) (is_declared more (keyed path type))
        (is_declared more (keyed path types.I64)) (is_declared more (keyed path types.U64)) type rows
        (sym (number type refl)) (λ n. sym (number types.I64 n)) (λ n. sym (number types.U64 n))
        ∙ sym (column_is more path type rows)

-- ---- numbers have a type

abbrev has_type : Option ColumnType → Bool
has_type o = is_type types.I64 o || is_type types.U64 o

free_typed : (a b : Bool) → is_some (cond a (Some types.I64) (cond b (Some types.U64) None)) ≡ true
    → has_type (cond a (Some types.I64) (cond b (Some types.U64) None)) ≡ true
free_typed true b some = refl
free_typed false true some = refl
free_typed false false some = absurd (false≢true some)

nothing_fits : (low count : ℕ)
    → list_all (list_all fits_i64) (map {B = List ColumnValue} (λ _. []) (range_with_len low count)) ≡ true
nothing_fits low zero = refl
nothing_fits low (suc count) = nothing_fits (low + 1) count

abbrev pub type_in : Bool → Bool → Rows → Option ColumnType
type_in signed unsigned rows =
    if signed then Some types.I64 else (if unsigned then Some types.U64 else free_number_type rows)

own_typed : (count : ℕ) (path : List ℕ) (c : ColumnRecord) → IsGood count c → bytes_eq path c.path ≡ true
    → c.recording.kind ≡ Number → has_type (type_in
    (is_declared (column_named c.path c.recording.declared) (keyed path types.I64))
    (is_declared (column_named c.path c.recording.declared) (keyed path types.U64)) (rows_in count c.recording)) ≡ true
own_typed count path c good is kind =
    by c.recording.declared (subst (λ (k : ValueKind). IsOfKind k c.recording.declared) kind good.kind)
    (subst (λ (k : ValueKind). is_some (option_or c.recording.declared
    (type_of_values k (map (λ v. v.value) c.recording.values))) ≡ true) kind good.typed)
  where
    same_free : type_of_values Number (map (λ v. v.value) c.recording.values) ≡ free_number_type (rows_in count c.recording)
    same_free = subst (λ (k : ValueKind). type_of_values k (map (λ v. v.value) c.recording.values)
        ≡ type_of_rows k (rows_in count c.recording)) kind good.free

    told_by : (t : ColumnType) (u : ColumnType)
        → is_declared (column_named c.path (Some u)) (keyed path t) ≡ (nat_eq (type_place t) (type_place u) || false)
    told_by t u = ap (λ b. b || false) (key_eq (keyed path t) (keyed c.path u)
        ∙ ap (λ b. b && nat_eq (type_place t) (type_place u)) is)

    other_kind : (t : ColumnType) → (kind_of t ≡ Number) → (nat_eq (type_place types.I64) (type_place t) ≡ false)
        → (nat_eq (type_place types.U64) (type_place t) ≡ false) → ⊥
    other_kind types.I64 k a b = false≢true (sym a)
    other_kind types.U64 k a b = false≢true (sym b)
    other_kind types.Bytes k a b = absurd cc
    other_kind types.Str k a b = absurd cc
    other_kind types.Bool k a b = absurd cc
    other_kind types.IpAddr k a b = absurd cc
    other_kind types.DateTime k a b = absurd cc

    by : (declared : Option ColumnType) → IsOfKind Number declared
        → is_some (option_or declared (type_of_values Number (map (λ v. v.value) c.recording.values))) ≡ true
        → has_type (type_in (is_declared (column_named c.path declared) (keyed path types.I64))
        (is_declared (column_named c.path declared) (keyed path types.U64)) (rows_in count c.recording)) ≡ true
    by None of some =
        free_typed (list_all (list_all fits_i64) (rows_in count c.recording))
        (list_all (list_all is_not_negative) (rows_in count c.recording)) (sym (ap is_some same_free) ∙ some)
    by (Some u) of some =
        (λ j. has_type (type_in (told_by types.I64 u j) (told_by types.U64 u j) (rows_in count c.recording)))
        ∙ in_cases (nat_eq (type_place types.I64) (type_place u)) (nat_eq (type_place types.U64) (type_place u)) refl refl
      where
        in_cases : (a b : Bool) → nat_eq (type_place types.I64) (type_place u) ≡ a
            → nat_eq (type_place types.U64) (type_place u) ≡ b
            → has_type (type_in (a || false) (b || false) (rows_in count c.recording)) ≡ true
        in_cases true b e f = refl
        in_cases false true e f = refl
        in_cases false false e f = absurd (other_kind u of e f)

numbers_typed : (count : ℕ) (path : List ℕ) (type : ColumnType) (columns : List ColumnRecord) → kind_of type ≡ Number
    → AllByRecursion (IsGood count) columns → AreApart columns
    → has_type (type_in (is_declared (declared_in columns) (keyed path types.I64))
    (is_declared (declared_in columns) (keyed path types.U64)) (rows_at count columns (keyed path type))) ≡ true
numbers_typed count path type [] number good apart = ap (λ b. has_type (cond b (Some types.I64)
    (cond (list_all (list_all is_not_negative) (map {B = List ColumnValue} (λ _. []) (range_with_len 0 count)))
    (Some types.U64) None)))
    (nothing_fits 0 count)
numbers_typed count path type (c ∷ cs) number good apart =
    by (is_named path (kind_of type) c) refl (numbers_typed count path type cs number good.1 apart.1)
  where
    by : (b : Bool) → is_named path (kind_of type) c ≡ b
        → has_type (type_in (is_declared (declared_in cs) (keyed path types.I64))
        (is_declared (declared_in cs) (keyed path types.U64)) (rows_at count cs (keyed path type))) ≡ true
        → has_type (type_in
        (is_declared (column_named c.path c.recording.declared ++ declared_in cs) (keyed path types.I64))
        (is_declared (column_named c.path c.recording.declared ++ declared_in cs) (keyed path types.U64))
        (cond b (rows_in count c.recording) (rows_at count cs (keyed path type)))) ≡ true
    by false e rest =
        let other : is_named path Number c ≡ false = ap (λ k. is_named path k c) (sym number) ∙ e in
        (λ j. has_type (type_in (declared_skip path types.I64 c good.0.kind other (declared_in cs) j)
        (declared_skip path types.U64 c good.0.kind other (declared_in cs) j)
        (rows_at count cs (keyed path type)))) ∙ rest
    by true e rest =
        let own : List ColumnKey = column_named c.path c.recording.declared in
        let both = and_parts (nat_eq (kind_place (kind_of type)) (kind_place c.recording.kind)) (bytes_eq path c.path) e in
        let kind : c.recording.kind ≡ kind_of type =
        sym (same_kind (kind_of type) c.recording.kind
        ((Decides-eqb (kind_place (kind_of type)) (kind_place c.recording.kind)).0 both.0)) in
        let none = subst (λ (k : ValueKind). AllByRecursion (λ d. is_named path k d ≡ false) cs) number
        (still_none path type c cs (sym ((bytes_decides path c.path).0 both.1)) kind apart.0) in
        let signed = declared_first own (declared_in cs) (keyed path types.I64)
        (declared_none count path types.I64 cs good.1 none) in
        let unsigned = declared_first own (declared_in cs) (keyed path types.U64)
        (declared_none count path types.U64 cs good.1 none) in
        (λ j. has_type (type_in (signed j) (unsigned j) (rows_in count c.recording)))
        ∙ own_typed count path c good.0 both.1 (kind ∙ number)

pub not_mixed : (count : ℕ) (path : List ℕ) (type : ColumnType) (columns : List ColumnRecord)
    → AllByRecursion (IsGood count) columns → AreApart columns
    → is_mixed (declared_in columns) (keyed path type) (rows_at count columns (keyed path type)) ≡ false
not_mixed count path types.I64 columns good apart = ap not (numbers_typed count path types.I64 columns refl good apart)
not_mixed count path types.U64 columns good apart = ap not (numbers_typed count path types.U64 columns refl good apart)
not_mixed count path types.Bytes columns good apart = refl
not_mixed count path types.Str columns good apart = refl
not_mixed count path types.Bool columns good apart = refl
not_mixed count path types.IpAddr columns good apart = refl
not_mixed count path types.DateTime columns good apart = refl
