-- A column while values come, by its parts: values by their numbers, and the terms of texts, bytes and addresses.
use Rattle.std.specs.Prelude.{◌≡◌, ℕ, ◌<◌, List, [], ◌∷◌, ◌++◌, length, Bool, true, false, Option, None, Some, nat_eq, IsUtf8}
use Rattle.std.specs.List.{AllByRecursion, list_all, list_any}
use Rattle.std.specs.Net.Addr.{ipv6_octets}
use Rattle.std.specs.declared.net.ipv6_addr.Ipv6Addr.{Ipv6Addr}
use Rattle.seg_common.specs.declared.column_type.ColumnType.{ColumnType}
use Rattle.seg_common.specs.declared.column_type.ColumnType.TheVariants as types
use Rattle.seg_column_writer.specs.ValueKinds.{kind_of}
use Rattle.seg_column_writer.specs.ColumnRecords.{RowedValue}
use Rattle.seg_column_format.specs.ValuesByRow.{Rise}
use Rattle.seg_column_writer.specs.RowValues.{fits_signed, fits_unsigned, value_of}
use Rattle.seg_column_format.specs.NumberedTerms.{term_number, with_term}
use Rattle.seg_column_writer.specs.declared.known_values.KnownValues.{KnownValues}
use Rattle.seg_column_writer.specs.declared.row_value.RowValue.{RowValue}
use Rattle.seg_column_writer.specs.declared.value_kind.ValueKind.{ValueKind}
use Rattle.seg_column_writer.specs.declared.value_kind.ValueKind.TheVariants.{Number, Bytes, Str, Bool as Boolean, IpAddr, DateTime}

-- a value of a row came, which has this term
pub record IsAdded (row : ℕ) (term : List ℕ) (old new : KnownValues) : Type 0 where
  pub terms : new.terms ≡ with_term old.terms term
  pub values : new.values.items ≡ old.values.items
      ++ record { row = row; negative = false; number = term_number old.terms term } ∷ []

-- nothing came
pub record IsKept (old new : KnownValues) : Type 0 where
  pub terms : new.terms ≡ old.terms
  pub values : new.values.items ≡ old.values.items

-- ---- what holds of the parts of a column

-- whether a kind of values is kept by terms
abbrev pub has_terms : ValueKind → Bool
has_terms Bytes = true
has_terms Str = true
has_terms IpAddr = true
has_terms _ = false

-- a number is that of a value of the kind; of texts, bytes and addresses it is the place of a term
abbrev pub Fits : ValueKind → ℕ → RowValue → Type 0
Fits Number count v = Unit {0}
Fits Bytes count v = v.number < count
Fits Str count v = v.number < count
Fits Boolean count v = v.number < 2
Fits IpAddr count v = v.number < count
Fits DateTime count v = Unit {0}

-- bytes are a term of the kind
abbrev pub IsTermOf : ValueKind → List ℕ → Type 0
IsTermOf Number term = ⊥
IsTermOf Bytes term = Unit {0}
IsTermOf Str term = IsUtf8 term
IsTermOf Boolean term = ⊥
IsTermOf IpAddr term = (address : Ipv6Addr) × (term ≡ ipv6_octets address) × (length term ≡ 16)
IsTermOf DateTime term = ⊥

-- marks tell whether all numbers fit i64, and whether none is negative
abbrev pub MarksTell : ValueKind → Bool → Bool → List RowValue → Type 0
MarksTell Number signed unsigned values =
    (signed ≡ list_all fits_signed values) × (unsigned ≡ list_all fits_unsigned values)
MarksTell _ signed unsigned values = Unit {0}

-- a declared type is one of the kind, and numbers are of that type
abbrev pub IsDeclared : ValueKind → Option ColumnType → Bool → Bool → Type 0
IsDeclared kind None signed unsigned = Unit {0}
IsDeclared kind (Some types.I64) signed unsigned = (kind ≡ Number) × (signed ≡ true)
IsDeclared kind (Some types.U64) signed unsigned = (kind ≡ Number) × (unsigned ≡ true)
IsDeclared kind (Some type) signed unsigned = kind ≡ kind_of type

pub record AreSound (kind : ValueKind) (declared : Option ColumnType) (signed unsigned : Bool)
    (values : List RowValue) (terms : List (List ℕ)) : Type 0 where
  pub rise : Rise (λ (v : RowValue). v.row) 0 values
  pub fit : AllByRecursion (Fits kind (length terms)) values
  pub used : (i : ℕ) → i < length terms → list_any (λ (v : RowValue). nat_eq i v.number) values ≡ true
  pub terms_are : AllByRecursion (IsTermOf kind) terms
  pub marks : MarksTell kind signed unsigned values
  pub declared_is : IsDeclared kind declared signed unsigned

-- a value as contracts see it
abbrev pub rowed : ValueKind → List (List ℕ) → RowValue → RowedValue
rowed kind terms v = record { row = v.row; value = value_of kind terms v }
