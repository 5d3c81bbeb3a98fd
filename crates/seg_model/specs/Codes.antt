-- Codes of the definitions' types, with which they can be what a model shows.
use Rattle.std.specs.Prelude.{◌≡◌, ℕ, zero, suc, ℤ, Bool, List, refl, ◌⊎◌}
use Rattle.std.proofs.Common.{inl, inr}
use Rattle.std.specs.Coded.{Coded, code_by, coded×, coded⊎, coded_list, coded_ℕ, coded_ℤ, coded_bool}
use base.Stored.{coded_unit}
use Rattle.std.specs.FinMap as fin
use Rattle.seg_values.specs.ValueCodes.{tree_code}
use Rattle.seg_values.specs.Tree.{Document}
use Rattle.seg_common.specs.declared.column_type.ColumnType.{ColumnType}
use Rattle.seg_common.specs.declared.column_type.ColumnType.TheVariants.{I64, U64, Bytes, Str, Bool as Boolean, IpAddr, DateTime}
use Rattle.seg_model.specs.DocumentTerms.{Recorded, presence, frequency, positions, Posting, Terms}
use Rattle.seg_model.specs.Columns.{ColumnValue, number, bytes_value, text_value, boolean_value, ip_value, date_value, ColumnKey, type_place, Columns}
use Rattle.seg_model.specs.Contents.{Contents, Reading}
use Rattle.seg_model.specs.Join.{Part}

abbrev pub bytes_code : Coded (List ℕ)
bytes_code = coded_list coded_ℕ

abbrev pub document_code : Coded Document
document_code = coded_list (coded× coded_ℕ tree_code)

-- ---- terms

abbrev pub recorded_sum : Recorded → Unit {0} ⊎ (ℕ ⊎ List ℕ)
recorded_sum presence = inl tt
recorded_sum (frequency n) = inr (inl n)
recorded_sum (positions ps) = inr (inr ps)

abbrev pub sum_recorded : Unit {0} ⊎ (ℕ ⊎ List ℕ) → Recorded
sum_recorded (inl _) = presence
sum_recorded (inr (inl n)) = frequency n
sum_recorded (inr (inr ps)) = positions ps

pub sum_recorded-recorded_sum : (r : Recorded) → sum_recorded (recorded_sum r) ≡ r
sum_recorded-recorded_sum presence = refl
sum_recorded-recorded_sum (frequency n) = refl
sum_recorded-recorded_sum (positions ps) = refl

abbrev pub recorded_code : Coded Recorded
recorded_code = code_by (Unit {0} ⊎ (ℕ ⊎ List ℕ))
    (coded⊎ coded_unit (coded⊎ coded_ℕ bytes_code)) recorded_sum sum_recorded sum_recorded-recorded_sum

abbrev pub posting_code : Coded Posting
posting_code = code_by (ℕ × Recorded) (coded× coded_ℕ recorded_code) (λ p. (p.document, p.recorded))
    (λ p. record { document = p.0; recorded = p.1 }) (λ _. refl)

abbrev pub terms_code : Coded Terms
terms_code = fin.code bytes_code (coded_list posting_code)

-- ---- columns

abbrev pub type_of_place : ℕ → ColumnType
type_of_place zero = I64
type_of_place (suc zero) = U64
type_of_place (suc (suc zero)) = Bytes
type_of_place (suc (suc (suc zero))) = Str
type_of_place (suc (suc (suc (suc zero)))) = Boolean
type_of_place (suc (suc (suc (suc (suc zero))))) = IpAddr
type_of_place (suc (suc (suc (suc (suc (suc n)))))) = DateTime

pub type_of_place-type_place : (t : ColumnType) → type_of_place (type_place t) ≡ t
type_of_place-type_place I64 = refl
type_of_place-type_place U64 = refl
type_of_place-type_place Bytes = refl
type_of_place-type_place Str = refl
type_of_place-type_place Boolean = refl
type_of_place-type_place IpAddr = refl
type_of_place-type_place DateTime = refl

abbrev pub type_code : Coded ColumnType
type_code = code_by ℕ coded_ℕ type_place type_of_place type_of_place-type_place

abbrev pub column_key_code : Coded ColumnKey
column_key_code = code_by (List ℕ × ColumnType) (coded× bytes_code type_code) (λ k. (k.path, k.type))
    (λ p. record { path = p.0; type = p.1 }) (λ _. refl)

abbrev pub ValueSum : Type 0
ValueSum = ℤ ⊎ (List ℕ ⊎ (List ℕ ⊎ (Bool ⊎ (List ℕ ⊎ ℤ))))

abbrev pub value_sum : ColumnValue → ValueSum
value_sum (number z) = inl z
value_sum (bytes_value b) = inr (inl b)
value_sum (text_value s) = inr (inr (inl s))
value_sum (boolean_value b) = inr (inr (inr (inl b)))
value_sum (ip_value a) = inr (inr (inr (inr (inl a))))
value_sum (date_value z) = inr (inr (inr (inr (inr z))))

abbrev pub sum_value : ValueSum → ColumnValue
sum_value (inl z) = number z
sum_value (inr (inl b)) = bytes_value b
sum_value (inr (inr (inl s))) = text_value s
sum_value (inr (inr (inr (inl b)))) = boolean_value b
sum_value (inr (inr (inr (inr (inl a))))) = ip_value a
sum_value (inr (inr (inr (inr (inr z))))) = date_value z

pub sum_value-value_sum : (v : ColumnValue) → sum_value (value_sum v) ≡ v
sum_value-value_sum (number z) = refl
sum_value-value_sum (bytes_value b) = refl
sum_value-value_sum (text_value s) = refl
sum_value-value_sum (boolean_value b) = refl
sum_value-value_sum (ip_value a) = refl
sum_value-value_sum (date_value z) = refl

abbrev pub column_value_code : Coded ColumnValue
column_value_code = code_by ValueSum
    (coded⊎ coded_ℤ (coded⊎ bytes_code (coded⊎ bytes_code (coded⊎ coded_bool (coded⊎ bytes_code coded_ℤ)))))
    value_sum sum_value sum_value-value_sum

abbrev pub columns_code : Coded Columns
columns_code = fin.code column_key_code (coded_list (coded_list column_value_code))

-- ---- contents

abbrev pub reading_code : Coded Reading
reading_code =
    code_by (ℕ × (List Terms × List Document))
    (coded× coded_ℕ (coded× (coded_list terms_code) (coded_list document_code)))
    (λ r. (r.documents, (r.terms, r.stored)))
    (λ p. record { documents = p.0; terms = p.1.0; stored = p.1.1 }) (λ _. refl)

abbrev pub contents_code : Coded Contents
contents_code =
    code_by (ℕ × (List Terms × (List Document × (List (List ℕ) × Columns))))
    (coded× coded_ℕ
    (coded× (coded_list terms_code) (coded× (coded_list document_code) (coded× (coded_list bytes_code) columns_code))))
    (λ c. (c.documents, (c.terms, (c.stored, (c.norms, c.columns)))))
    (λ p. record { documents = p.0; terms = p.1.0; stored = p.1.1.0; norms = p.1.1.1.0; columns = p.1.1.1.1 })
    (λ _. refl)

abbrev pub part_code : Coded Part
part_code = code_by (Contents × List Bool) (coded× contents_code (coded_list coded_bool)) (λ p. (p.contents, p.alive))
    (λ p. record { contents = p.0; alive = p.1 }) (λ _. refl)
