-- What was added of a recorded column is the column.
use Rattle.std.proofs.Common.{◌≡◌, ◌≢◌, ℕ, zero, suc, ◌<◌, ◌^◌, Bool, false, List, [], ◌∷◌, map, Option, Some, refl, sym, ap, subst, ◌∙◌, arith}
use Rattle.std.specs.Prelude.{All}
use Rattle.std.specs.List.{AllByRecursion}
use Rattle.seg_common.specs.declared.column_type.ColumnType.{ColumnType}
use Rattle.seg_common.specs.declared.column_type.ColumnType.TheVariants as types
use Rattle.seg_column_writer.specs.EncodedColumns.{AddsAddresses, AddsColumn, AddsTexts, AddsValues, imaged}
use Rattle.seg_column_format.specs.RowNumbers.{eight_bytes}
use Rattle.seg_column_writer.specs.ValueKinds.{kind_of}
use Rattle.seg_column_writer.specs.ColumnRecords.{Recording, RowedValue}
use Rattle.seg_column_writer.specs.RecordedColumns.{column_type_of}
use Rattle.seg_column_writer.specs.SoundColumns.{AreSound, has_terms, rowed}
use Rattle.seg_column_writer.specs.declared.row_value.RowValue.{RowValue}
use Rattle.seg_column_writer.specs.declared.value_kind.ValueKind.{ValueKind}
use Rattle.seg_column_writer.proofs.ImageColumns.{images_column, recorded}
use Rattle.seg_column_writer.proofs.TermParts.{addresses_column, bytes_column, texts_column}
use Rattle.seg_column_writer.proofs.TypedValues.{each_fits, kind_is}

no_terms : (type : ColumnType) → type ≢ types.Bytes → type ≢ types.Str → type ≢ types.IpAddr
    → has_terms (kind_of type) ≡ false
no_terms types.I64 bytes text address = refl
no_terms types.U64 bytes text address = refl
no_terms types.Bytes bytes text address = absurd (bytes refl)
no_terms types.Str bytes text address = absurd (text refl)
no_terms types.Bool bytes text address = refl
no_terms types.IpAddr bytes text address = absurd (address refl)
no_terms types.DateTime bytes text address = refl

module _ (kind : ValueKind) (declared : Option ColumnType) (sorts signed unsigned : Bool) (values : List RowValue)
    (terms : List (List ℕ)) (sound : AreSound kind declared signed unsigned values terms) (now : Recording)
    (view : recorded kind declared sorts terms values ≡ now) (type : ColumnType)
    (typed : column_type_of now ≡ Some type) where
  typed_here : column_type_of (recorded kind declared sorts terms values) ≡ Some type
  typed_here = ap column_type_of view ∙ typed

  is_kind : (other : ColumnType) → type ≡ other → kind ≡ kind_of other
  is_kind other is = kind_is kind declared signed unsigned values terms sound type typed_here ∙ ap kind_of is

  pub fits : AllByRecursion (λ (v : RowValue). type ≡ types.I64 → v.number < 2 ^ 63) values
  fits = each_fits kind declared signed unsigned values terms sound type typed_here

  module _ (count : ℕ) (rows : All (λ (v : RowedValue). v.row < count) now.values) (old new : List ℕ) where
    below : AllByRecursion (λ (v : RowValue). v.row < count) values
    below = by values (subst (λ (r : Recording). All (λ (v : RowedValue). v.row < count) r.values) (sym view) rows)
      where
        by : (vs : List RowValue) → All (λ (v : RowedValue). v.row < count) (map (rowed kind terms) vs)
            → AllByRecursion (λ (v : RowValue). v.row < count) vs
        by [] each = tt
        by (v ∷ vs) each = (each zero (rowed kind terms v) (omega arith), by vs (λ i d lt. each (suc i) d (omega (arith, lt))))

    seen : (other : ColumnType) → type ≡ other
        → AddsColumn (recorded kind declared sorts terms values) other count old new → AddsColumn now type count old new
    seen other is adds =
        subst (λ (r : Recording). AddsColumn r type count old new) view
        (subst (λ (t : ColumnType). AddsColumn (recorded kind declared sorts terms values) t count old new) (sym is) adds)

    pub images_put : type ≢ types.Bytes → type ≢ types.Str → type ≢ types.IpAddr
        → AddsValues eight_bytes sorts (map (imaged type) values) count old new → AddsColumn now type count old new
    images_put bytes text address a = seen type refl
        (images_column kind declared signed unsigned values terms sound sorts count below old new type typed_here
        (no_terms type bytes text address) a)

    pub bytes_put : type ≡ types.Bytes → AddsTexts terms sorts values count old new → AddsColumn now type count old new
    bytes_put is a = seen types.Bytes is
        (bytes_column kind declared signed unsigned values terms sound sorts count below old new a
        (is_kind types.Bytes is))

    pub texts_put : type ≡ types.Str → AddsTexts terms sorts values count old new → AddsColumn now type count old new
    texts_put is a = seen types.Str is
        (texts_column kind declared signed unsigned values terms sound sorts count below old new a (is_kind types.Str is))

    pub addresses_put : type ≡ types.IpAddr → AddsAddresses terms sorts values count old new
        → AddsColumn now type count old new
    addresses_put is a = seen types.IpAddr is
        (addresses_column kind declared signed unsigned values terms sound sorts count below old new a
        (is_kind types.IpAddr is))
