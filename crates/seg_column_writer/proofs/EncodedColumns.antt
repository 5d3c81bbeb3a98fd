-- Columns of each type, from the numbers of their values.
use Rattle.std.proofs.Common.{◌≡◌, ℕ, ◌+◌, ◌^◌, ◌<◌, Bool, true, List, [], ◌∷◌, ◌++◌, length, map, get_or, refl, sym, ap, subst, ◌∙◌}
use Rattle.std.specs.Prelude.{All, IsUtf8, pos}
use Rattle.std.specs.List.{AllByRecursion, flat_map}
use Rattle.std.specs.List.Sorted.{IsStrictlySortedBy}
use Rattle.std.specs.Int.{w64, to_le_bytes}
use Rattle.std.specs.Ordering.{nat_cmp}
use Rattle.std.specs.Cmp.Lexicographic.{slice_cmp}
use Rattle.std.specs.Net.Addr.{ipv6_octets}
use Rattle.std.specs.declared.net.ipv6_addr.Ipv6Addr.{Ipv6Addr}
use Rattle.std.proofs.lemmas.List.{length-map}
use Rattle.seg_common.specs.MappableValues.{is_bit, is_one, lowered}
use Rattle.seg_common.specs.declared.column_type.ColumnType.{ColumnType}
use Rattle.seg_common.specs.declared.column_type.ColumnType.TheVariants as types
use Rattle.seg_common.proofs.Lists.{map_map-map_map}
use Rattle.seg_values.proofs.Exports.{segments_of-octets_of}
use Rattle.seg_model.specs.Columns.{ColumnValue, number, bytes_value, text_value, boolean_value, ip_value, date_value}
use Rattle.seg_columns.specs.Addresses.{address, address_of}
use Rattle.seg_columns.specs.Columns.{IsColumn, rows_of}
use Rattle.seg_columns.specs.DynamicColumns.{IsColumnOf, column_of}
use Rattle.seg_columns.specs.TermColumns.{TermColumn, UsesEach, term_column_of}
use Rattle.seg_column_format.specs.ColumnBytes.{IsReadAs, column_bytes, ends_from, number_bytes, term_column_bytes, total}
use Rattle.seg_column_format.specs.ModelColumns.{column_rows, terms_at}
use Rattle.seg_column_format.proofs.ColumnRoundTrips.{is_column, rows_read_as}
use Rattle.seg_column_format.proofs.TermColumnRoundTrips.{image_read, is_bytes_column, is_str_column, term_column_read}

-- ---- numbers of eight bytes

-- what the numbers of a column stand for, where each is a number of eight bytes
module _ {V : Type 0} (numbered : V → ℕ) (rows : List (List V)) (few : total rows < 2 ^ 64)
    (fit : AllByRecursion (AllByRecursion (λ v. numbered v < 2 ^ 64)) rows) where
  abbrev bytes : List ℕ
  bytes = column_bytes (λ v. to_le_bytes w64 (numbered v)) rows

  module _ {T : Type 0} (is_image : ℕ → Bool) (value_of : ℕ → T)
      (images : AllByRecursion (AllByRecursion (λ v. is_image (numbered v) ≡ true)) rows) where
    abbrev decoded : List ℕ → Rattle.std.specs.Prelude.Option T
    decoded = Rattle.seg_columns.specs.ValueImages.value_of_image is_image value_of

    abbrev IsRead : V → Type 0
    IsRead v = IsReadAs 8 decoded (λ v. to_le_bytes w64 (numbered v)) (λ v. value_of (numbered v)) v

    in_row : (row : List V) → AllByRecursion (λ v. numbered v < 2 ^ 64) row
        → AllByRecursion (λ v. is_image (numbered v) ≡ true) row → AllByRecursion IsRead row
    in_row [] fit are = tt
    in_row (v ∷ row) fit are = (
      record { wide = refl; read = image_read is_image value_of (numbered v) fit.0 are.0 },
      in_row row fit.1 are.1,
    )

    in_rows : (rs : List (List V)) → AllByRecursion (AllByRecursion (λ v. numbered v < 2 ^ 64)) rs
        → AllByRecursion (AllByRecursion (λ v. is_image (numbered v) ≡ true)) rs
        → AllByRecursion (AllByRecursion IsRead) rs
    in_rows [] fit are = tt
    in_rows (row ∷ rs) fit are = (in_row row fit.0 are.0, in_rows rs fit.1 are.1)

    pub image_column : IsColumn 8 decoded (length rows) bytes
    image_column = is_column 8 decoded (λ v. to_le_bytes w64 (numbered v)) (λ v. value_of (numbered v)) rows few
        (in_rows rows fit images)

    pub image_rows : rows_of 8 decoded (length rows) bytes ≡ map (map (λ v. value_of (numbered v))) rows
    image_rows = rows_read_as 8 decoded (λ v. to_le_bytes w64 (numbered v)) (λ v. value_of (numbered v)) rows few
        (in_rows rows fit images)

all_true : {V : Type 0} (rows : List (List V)) → AllByRecursion (AllByRecursion (λ v. true ≡ true)) rows
all_true {V = V} [] = tt
all_true {V = V} (row ∷ rows) = (in_row row, all_true rows)
  where
    in_row : (xs : List V) → AllByRecursion (λ v. true ≡ true) xs
    in_row [] = tt
    in_row (x ∷ xs) = (refl, in_row xs)

-- ---- what the bytes of a column are

-- the value of a type that a number stands for; of texts, bytes and addresses it is the ordinal of a term
abbrev pub seen_value : ColumnType → List (List ℕ) → ℕ → ColumnValue
seen_value types.I64 terms n = number (lowered n)
seen_value types.U64 terms n = number (pos n)
seen_value types.Bytes terms n = bytes_value (get_or terms n [])
seen_value types.Str terms n = text_value (get_or terms n [])
seen_value types.Bool terms n = boolean_value (is_one n)
seen_value types.IpAddr terms n = ip_value (get_or terms n [])
seen_value types.DateTime terms n = date_value (lowered n)

-- bytes are a column of a type, whose rows have these values
pub record Encodes {V : Type 0} (numbered : V → ℕ) (type : ColumnType) (terms : List (List ℕ)) (rows : List (List V))
    (bytes : List ℕ) : Type 0 where
  pub column : IsColumnOf type (length rows) bytes
  pub values : column_rows (column_of type (length rows) bytes) ≡ map (map (λ v. seen_value type terms (numbered v))) rows

module _ {V : Type 0} (numbered : V → ℕ) (terms : List (List ℕ)) (rows : List (List V)) (few : total rows < 2 ^ 64)
    (fit : AllByRecursion (AllByRecursion (λ v. numbered v < 2 ^ 64)) rows) where
  abbrev numbers : List ℕ
  numbers = column_bytes (λ v. to_le_bytes w64 (numbered v)) rows

  pub signed_encoded : Encodes numbered types.I64 terms rows numbers
  signed_encoded = record {
    column = image_column numbered rows few fit (λ _. true) lowered (all_true rows);
    values = ap (map (map number)) (image_rows numbered rows few fit (λ _. true) lowered (all_true rows))
        ∙ map_map-map_map (λ v. lowered (numbered v)) number rows;
  }

  pub unsigned_encoded : Encodes numbered types.U64 terms rows numbers
  unsigned_encoded = record {
    column = image_column numbered rows few fit (λ _. true) (λ n. n) (all_true rows);
    values = ap (map (map (λ n. number (pos n)))) (image_rows numbered rows few fit (λ _. true) (λ n. n) (all_true rows))
        ∙ map_map-map_map numbered (λ n. number (pos n)) rows;
  }

  pub dates_encoded : Encodes numbered types.DateTime terms rows numbers
  dates_encoded = record {
    column = image_column numbered rows few fit (λ _. true) lowered (all_true rows);
    values = ap (map (map date_value)) (image_rows numbered rows few fit (λ _. true) lowered (all_true rows))
        ∙ map_map-map_map (λ v. lowered (numbered v)) date_value rows;
  }

  pub truths_encoded : AllByRecursion (AllByRecursion (λ v. is_bit (numbered v) ≡ true)) rows
      → Encodes numbered types.Bool terms rows numbers
  truths_encoded bits = record {
    column = image_column numbered rows few fit is_bit is_one bits;
    values = ap (map (map boolean_value)) (image_rows numbered rows few fit is_bit is_one bits)
        ∙ map_map-map_map (λ v. is_one (numbered v)) boolean_value rows;
  }

-- ---- addresses

pub same_address : (a : Ipv6Addr) → address_of (ipv6_octets a) ≡ a
same_address a = λ j. record { segments = segments_of-octets_of a.segments j }

-- the octets of an address, all sixteen
abbrev pub AreOctets : List ℕ → Type 0
AreOctets term = (a : Ipv6Addr) × (term ≡ ipv6_octets a) × (length term ≡ 16)

octets_again : (term : List ℕ) → AreOctets term → ipv6_octets (address_of term) ≡ term
octets_again term are =
    ap (λ (t : List ℕ). ipv6_octets (address_of t)) are.1 ∙ ap ipv6_octets (same_address are.0) ∙ sym are.1

module _ {V : Type 0} (numbered : V → ℕ) (terms : List (List ℕ)) (rows : List (List V)) (few : total rows < 2 ^ 64)
    (octets : AllByRecursion (AllByRecursion (λ v. AreOctets (get_or terms (numbered v) []))) rows) where
  abbrev encoded : V → List ℕ
  encoded v = get_or terms (numbered v) []

  abbrev IsAddress : V → Type 0
  IsAddress v = IsReadAs 16 address encoded (λ v. address_of (encoded v)) v

  address_row : (row : List V) → AllByRecursion (λ v. AreOctets (encoded v)) row → AllByRecursion IsAddress row
  address_row [] are = tt
  address_row (v ∷ row) are = (record { wide = are.0.2; read = refl }, address_row row are.1)

  address_rows : (rs : List (List V)) → AllByRecursion (AllByRecursion (λ v. AreOctets (encoded v))) rs
      → AllByRecursion (AllByRecursion IsAddress) rs
  address_rows [] are = tt
  address_rows (row ∷ rs) are = (address_row row are.0, address_rows rs are.1)

  same_row : (row : List V) → AllByRecursion (λ v. AreOctets (encoded v)) row
      → map (λ v. ip_value (ipv6_octets (address_of (encoded v)))) row ≡ map (λ v. ip_value (encoded v)) row
  same_row [] are = refl
  same_row (v ∷ row) are = λ j. ip_value (octets_again (encoded v) are.0 j) ∷ same_row row are.1 j

  same_rows : (rs : List (List V)) → AllByRecursion (AllByRecursion (λ v. AreOctets (encoded v))) rs
      → map (map (λ v. ip_value (ipv6_octets (address_of (encoded v))))) rs ≡ map (map (λ v. ip_value (encoded v))) rs
  same_rows [] are = refl
  same_rows (row ∷ rs) are = λ j. same_row row are.0 j ∷ same_rows rs are.1 j

  pub addresses_encoded : Encodes numbered types.IpAddr terms rows (column_bytes encoded rows)
  addresses_encoded = record {
    column = is_column 16 address encoded (λ v. address_of (encoded v)) rows few (address_rows rows octets);
    values =
        ap (map (map (λ a. ip_value (ipv6_octets a))))
        (rows_read_as 16 address encoded (λ v. address_of (encoded v)) rows few (address_rows rows octets))
        ∙ map_map-map_map (λ v. address_of (encoded v)) (λ a. ip_value (ipv6_octets a)) rows ∙ same_rows rows octets;
  }

-- ---- texts and bytes

module _ {V : Type 0} (numbered : V → ℕ) where
  ends_map : (before : ℕ) (rows : List (List V))
      → ends_from before (map (map numbered) rows) ≡ ends_from before rows
  ends_map before [] = refl
  ends_map before (row ∷ rows) =
      let long : length (map numbered row) ≡ length row = length-map row numbered in
      (λ j. (before + long j) ∷ ends_from (before + long j) (map (map numbered) rows))
      ∙ ap (λ (l : List ℕ). (before + length row) ∷ l) (ends_map (before + length row) rows)

  total_map : (rows : List (List V)) → total (map (map numbered) rows) ≡ total rows
  total_map [] = refl
  total_map (row ∷ rows) = λ j. length-map row numbered j + total_map rows j

  row_map : (row : List V) → flat_map (to_le_bytes w64) (map numbered row) ≡ flat_map (λ v. to_le_bytes w64 (numbered v)) row
  row_map [] = refl
  row_map (v ∷ row) = ap (λ (l : List ℕ). to_le_bytes w64 (numbered v) ++ l) (row_map row)

  rows_map : (rows : List (List V)) → flat_map (flat_map (to_le_bytes w64)) (map (map numbered) rows)
      ≡ flat_map (flat_map (λ v. to_le_bytes w64 (numbered v))) rows
  rows_map [] = refl
  rows_map (row ∷ rows) = λ j. row_map row j ++ rows_map rows j

  pub bytes_map : (rows : List (List V)) → column_bytes (to_le_bytes w64) (map (map numbered) rows)
      ≡ column_bytes (λ v. to_le_bytes w64 (numbered v)) rows
  unfolding column_bytes
  bytes_map rows = λ j. number_bytes (ends_map 0 rows j) ++ rows_map rows j

module _ {V : Type 0} (numbered : V → ℕ) (terms : List (List ℕ)) (rows : List (List V))
    (some : length terms < 2 ^ 64) (few : total terms < 2 ^ 64) (values : total rows < 2 ^ 64)
    (uses : UsesEach (length terms) (map (map numbered) rows))
    (sorted : IsStrictlySortedBy (slice_cmp nat_cmp) terms) where
  abbrev ords : List (List ℕ)
  ords = map (map numbered) rows

  few_ords : total ords < 2 ^ 64
  few_ords = subst (λ (n : ℕ). n < 2 ^ 64) (sym (total_map numbered rows)) values

  same_length : length ords ≡ length rows
  same_length = length-map rows (map numbered)

  read : term_column_of (length rows) (term_column_bytes ords terms) ≡ record { terms = terms; ords = ords }
  read = ap (λ (n : ℕ). term_column_of n (term_column_bytes ords terms)) (sym same_length)
      ∙ term_column_read ords terms some few few_ords uses

  pub bytes_encoded : Encodes numbered types.Bytes terms rows (term_column_bytes ords terms)
  bytes_encoded = record {
    column = subst (λ (n : ℕ). IsColumnOf types.Bytes n (term_column_bytes ords terms)) same_length
        (is_bytes_column ords terms some few few_ords uses sorted);
    values = ap (λ (c : TermColumn). terms_at bytes_value c.terms c.ords) read
        ∙ map_map-map_map numbered (λ ord. bytes_value (get_or terms ord [])) rows;
  }

  pub texts_encoded : All IsUtf8 terms → Encodes numbered types.Str terms rows (term_column_bytes ords terms)
  texts_encoded utf8 = record {
    column = subst (λ (n : ℕ). IsColumnOf types.Str n (term_column_bytes ords terms)) same_length
        (is_str_column ords terms some few few_ords uses sorted utf8);
    values = ap (λ (c : TermColumn). terms_at text_value c.terms c.ords) read
        ∙ map_map-map_map numbered (λ ord. text_value (get_or terms ord [])) rows;
  }
