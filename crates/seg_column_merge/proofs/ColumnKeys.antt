-- The keys at which the values of a column may be.
use Rattle.std.proofs.Common.{◌≡◌, ℕ, Bool, false, ◌||◌, List, refl, ap, ◌∙◌}
use Rattle.std.specs.Prelude.{◌&&◌, nat_eq}
use Rattle.std.specs.Ordering.{is_eq, nat_cmp, ordering_then}
use Rattle.std.specs.declared.cmp.Ordering.{Ordering}
use Rattle.std.specs.declared.cmp.Ordering.TheVariants.{Less, Equal, Greater}
use Rattle.std.specs.Cmp.Lexicographic.{slice_cmp}
use Rattle.std.specs.Str.{bytes_eq}
use Rattle.std.proofs.lemmas.Map.Text.{is_eq-slice_cmp}
use Rattle.seg_common.specs.TabulatedMaps.{is_among}
use Rattle.seg_common.specs.declared.column_type.ColumnType.{ColumnType}
use Rattle.seg_common.specs.declared.column_type.ColumnType.TheVariants.{I64, U64, Bytes, Str, Bool as Boolean, IpAddr, DateTime}
use Rattle.seg_common.proofs.Numbers.{is_eq-then, is_eq-nat_cmp}
use Rattle.seg_model.specs.Columns.{ColumnKey, column_cmp, type_place}
use Rattle.seg_model.specs.Join.{joined_keys}
use Rattle.seg_column_merge_parts.specs.Tables.{kind_of}

-- ---- types, where paths compare in some way

abbrev pub among : Ordering → ColumnType → ColumnType → Bool
among o I64 u =
    is_eq (ordering_then o (nat_cmp (type_place u) 0)) || (is_eq (ordering_then o (nat_cmp (type_place u) 1)) || false)
among o U64 u =
    is_eq (ordering_then o (nat_cmp (type_place u) 0)) || (is_eq (ordering_then o (nat_cmp (type_place u) 1)) || false)
among o t u = is_eq (ordering_then o (nat_cmp (type_place u) (type_place t))) || false

pub among_is : (path other : List ℕ) (t u : ColumnType)
    → is_among column_cmp (joined_keys (record { path = other; type = t })) (record { path = path; type = u })
    ≡ among (slice_cmp nat_cmp path other) t u
among_is path other I64 u = refl
among_is path other U64 u = refl
among_is path other _ u = refl

same_kind : (o : Ordering) (t u : ColumnType) → among o t u ≡ (is_eq o && nat_eq (kind_of t) (kind_of u))
same_kind Less I64 u = refl
same_kind Less _ u = refl
same_kind Greater I64 u = refl
same_kind Greater _ u = refl
same_kind Equal I64 I64 = refl
same_kind Equal I64 _ = refl
same_kind Equal U64 I64 = refl
same_kind Equal U64 _ = refl
same_kind Equal Bytes I64 = refl
same_kind Equal Bytes _ = refl
same_kind Equal Str I64 = refl
same_kind Equal Str _ = refl
same_kind Equal Boolean I64 = refl
same_kind Equal Boolean _ = refl
same_kind Equal IpAddr I64 = refl
same_kind Equal IpAddr _ = refl
same_kind Equal DateTime I64 = refl
same_kind Equal DateTime _ = refl

-- values are at the keys of their path and kind
pub among_keys : (k q : ColumnKey)
    → is_among column_cmp (joined_keys k) q ≡ (bytes_eq q.path k.path && nat_eq (kind_of k.type) (kind_of q.type))
among_keys k q =
    among_is q.path k.path k.type q.type ∙ same_kind (slice_cmp nat_cmp q.path k.path) k.type q.type
    ∙ ap (λ (b : Bool). b && nat_eq (kind_of k.type) (kind_of q.type)) (is_eq-slice_cmp q.path k.path)

-- ---- one key

pub key_is : (k q : ColumnKey)
    → is_eq (column_cmp q k) ≡ (bytes_eq q.path k.path && nat_eq (type_place q.type) (type_place k.type))
key_is k q =
    is_eq-then (slice_cmp nat_cmp q.path k.path) (type_place q.type) (type_place k.type)
    ∙ (λ j. is_eq-slice_cmp q.path k.path j && is_eq-nat_cmp (type_place q.type) (type_place k.type) j)

-- a key of one's type is one of one's kind
pub kind_too : (t u : ColumnType)
    → nat_eq (type_place t) (type_place u) ≡ (nat_eq (kind_of u) (kind_of t) && nat_eq (type_place t) (type_place u))
kind_too I64 I64 = refl
kind_too I64 _ = refl
kind_too U64 I64 = refl
kind_too U64 _ = refl
kind_too Bytes I64 = refl
kind_too Bytes _ = refl
kind_too Str I64 = refl
kind_too Str _ = refl
kind_too Boolean I64 = refl
kind_too Boolean _ = refl
kind_too IpAddr I64 = refl
kind_too IpAddr _ = refl
kind_too DateTime I64 = refl
kind_too DateTime _ = refl
