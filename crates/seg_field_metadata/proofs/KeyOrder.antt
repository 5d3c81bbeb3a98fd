-- The order of names and types.
use Rattle.std.proofs.Common.{◌≡◌, ℕ, zero, suc, sym, refl, ap, ◌∙◌}
use Rattle.std.specs.Ordering.{nat_cmp}
use Rattle.std.specs.Cmp.{IsTotalOrder, nat_cmp_total, on_total, then_total}
use Rattle.std.specs.Cmp.Lexicographic.{slice_cmp, nat_list_cmp_total}
use Rattle.std.specs.FinMap.{IsAntisymmetric, nat_cmp-IsAntisymmetric, slice_cmp-IsAntisymmetric}
use Rattle.seg_common.proofs.Numbers.{then_first, then_second}
use Rattle.seg_values.specs.declared.field_type.FieldType.{FieldType}
use Rattle.seg_values.specs.declared.field_type.FieldType.TheVariants.{Bytes, Date, Facet, I64, Json, Bool as Boolean, IpAddr, Str, U64}
use Rattle.seg_field_metadata.specs.MetadataEntries.{Key, key_cmp, type_place}

pub key_cmp_total : IsTotalOrder key_cmp
key_cmp_total = then_total (on_total (λ (k : Key). k.name) nat_list_cmp_total)
    (on_total (λ (k : Key). type_place k.type) nat_cmp_total)

abbrev type_of_place : ℕ → FieldType
type_of_place zero = Bytes
type_of_place (suc zero) = Date
type_of_place (suc (suc zero)) = Facet
type_of_place (suc (suc (suc zero))) = I64
type_of_place (suc (suc (suc (suc zero)))) = Json
type_of_place (suc (suc (suc (suc (suc zero))))) = Boolean
type_of_place (suc (suc (suc (suc (suc (suc zero)))))) = IpAddr
type_of_place (suc (suc (suc (suc (suc (suc (suc zero))))))) = Str
type_of_place (suc (suc (suc (suc (suc (suc (suc (suc n)))))))) = U64

type_of_its_place : (t : FieldType) → type_of_place (type_place t) ≡ t
type_of_its_place Bytes = refl
type_of_its_place Date = refl
type_of_its_place Facet = refl
type_of_its_place I64 = refl
type_of_its_place Json = refl
type_of_its_place Boolean = refl
type_of_its_place IpAddr = refl
type_of_its_place Str = refl
type_of_its_place U64 = refl

pub keys_apart : IsAntisymmetric key_cmp
keys_apart k m e =
    let name : k.name ≡ m.name = slice_cmp-IsAntisymmetric nat_cmp-IsAntisymmetric k.name m.name
    (then_first (slice_cmp nat_cmp k.name m.name) (nat_cmp (type_place k.type) (type_place m.type)) e) in
    let place : type_place k.type ≡ type_place m.type = nat_cmp-IsAntisymmetric _ _
    (then_second (slice_cmp nat_cmp k.name m.name) (nat_cmp (type_place k.type) (type_place m.type)) e) in
    let type : k.type ≡ m.type = sym (type_of_its_place k.type) ∙ ap type_of_place place ∙ type_of_its_place m.type in
    λ i. record { name = name i; type = type i }
