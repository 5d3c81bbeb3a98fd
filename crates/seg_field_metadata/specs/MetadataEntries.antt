-- What is known of a field, and what several say about it together.
use Rattle.std.specs.Prelude.{ℕ, ◌&&◌, ◌^◌, Bool, true, List, Option, Some, None, if◌then◌else◌, is_some, map, nat_lt, string_bytes}
use Rattle.std.specs.List.{list_any, sum_by}
use Rattle.std.specs.Option.{unwrap_or}
use Rattle.std.specs.Ordering.{nat_cmp, on, then_cmp}
use Rattle.std.specs.Cmp.Lexicographic.{slice_cmp}
use Rattle.std.specs.declared.cmp.Ordering.{Ordering}
use Rattle.seg_common.specs.declared.byte_count.ByteCount.{ByteCount}
use Rattle.seg_values.specs.declared.field_type.FieldType.{FieldType}
use Rattle.seg_values.specs.declared.field_type.FieldType.TheVariants.{Bytes, Date, Facet, I64, Json, Bool as Boolean, IpAddr, Str, U64}
use Rattle.seg_field_metadata.specs.declared.field_metadata.FieldMetadata.{FieldMetadata}

-- ---- names and types

-- the place of a type in their order
abbrev pub type_place : FieldType → ℕ
type_place Bytes = 0
type_place Date = 1
type_place Facet = 2
type_place I64 = 3
type_place Json = 4
type_place Boolean = 5
type_place IpAddr = 6
type_place Str = 7
type_place U64 = 8

-- a name and a type
pub record Key : Type 0 where
  pub name : List ℕ
  pub type : FieldType

-- by the bytes of the name, and then by the type
abbrev pub key_cmp : Key → Key → Ordering
key_cmp = then_cmp (on (λ k. k.name) (slice_cmp nat_cmp)) (on (λ k. type_place k.type) nat_cmp)

-- ---- what is known

-- whether a field is stored, and its sizes, where it has them
pub record Known : Type 0 where
  pub stored : Bool
  pub fast : Option ℕ
  pub terms : Option ℕ
  pub postings : Option ℕ
  pub positions : Option ℕ

abbrev pub Entry : Type 0
Entry = Key × Known

abbrev pub size_of : Option ByteCount → Option ℕ
size_of None = None
size_of (Some n) = Some n.0

abbrev pub key_of : FieldMetadata → Key
key_of m = record { name = string_bytes m.field_name; type = m.typ }

abbrev pub known_of : FieldMetadata → Known
known_of m = record {
  stored = m.stored;
  fast = size_of m.fast_size;
  terms = size_of m.term_dictionary_size;
  postings = size_of m.postings_size;
  positions = size_of m.positions_size;
}

abbrev pub entry_of : FieldMetadata → Entry
entry_of m = (key_of m, known_of m)

-- ---- several together

-- the sum of the sizes that are there; none where none is
abbrev pub total : List (Option ℕ) → Option ℕ
total sizes = if list_any is_some sizes then Some (sum_by (λ size. unwrap_or size 0) sizes) else None

-- stored where one is, and with the sum of each size
abbrev pub together : List Known → Known
together ks = record {
  stored = list_any (λ k. k.stored) ks;
  fast = total (map (λ k. k.fast) ks);
  terms = total (map (λ k. k.terms) ks);
  postings = total (map (λ k. k.postings) ks);
  positions = total (map (λ k. k.positions) ks);
}

-- a size that is there is a number of 64 bits
abbrev pub size_fits : Option ℕ → Bool
size_fits None = true
size_fits (Some n) = nat_lt n (2 ^ 64)

abbrev pub fits : Known → Bool
fits k = size_fits k.fast && (size_fits k.terms && (size_fits k.postings && size_fits k.positions))
