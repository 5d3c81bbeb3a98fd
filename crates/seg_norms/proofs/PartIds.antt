-- Each cell of the parts of a file is a byte.
use Rattle.std.proofs.Common.{◌≡◌, ℕ, zero, suc, ◌-◌, ◌==◌, ◌<◌, List, [], ◌∷◌, take, drop, subst, slice_index, Option, Some, None, Bool, true, false}
use Rattle.std.specs.Prelude.{if◌then◌else◌, unwrap_or}
use Rattle.std.proofs.lemmas.Option.{none-some, same_Some}
use Rattle.seg_directory.specs.CompositeFiles.{Part, composite, is_composite, parts_of, parts_from, table_of, field_of}
use Rattle.seg_norms.specs.StoredNorms.{AreIds, HaveIds}

ids_after : (k : ℕ) (ids : List ℕ) → AreIds ids → AreIds (drop k ids)
ids_after zero ids are = are
ids_after (suc k) [] are = tt
ids_after (suc k) (id ∷ ids) are = ids_after k ids are.1

ids_before : (k : ℕ) (ids : List ℕ) → AreIds ids → AreIds (take k ids)
ids_before zero ids are = tt
ids_before (suc k) [] are = tt
ids_before (suc k) (id ∷ ids) are = (are.0, ids_before k ids are.1)

pub are_ids : (bytes : List ℕ) → ((i : ℕ) → slice_index bytes i < 256) → AreIds bytes
are_ids [] small = tt
are_ids (b ∷ bytes) small = (small 0, are_ids bytes (λ i. small (suc i)))

cut_ids : (start : ℕ) (es : List (ℕ × ℕ)) (body : List ℕ) → AreIds body → HaveIds (parts_from start es body)
cut_ids start [] body are = tt
cut_ids start (e ∷ es) body are = (ids_before (e.1 - start) (drop start body) (ids_after start body are), cut_ids e.1 es body are)

parts_ids : (bytes : List ℕ) → AreIds bytes → HaveIds (parts_of bytes)
unfolding parts_of
parts_ids bytes are = cut_ids 0 (table_of bytes) bytes are

read_parts : (test : Bool) (parts read : List Part) → (if test then Some parts else None) ≡ Some read → parts ≡ read
read_parts true parts read e = same_Some parts read e
read_parts false parts read e = absurd (none-some read e)

pub have_ids : (bytes : List ℕ) → ((i : ℕ) → slice_index bytes i < 256) → (parts : List Part) → composite bytes ≡ Some parts → HaveIds parts
have_ids bytes small parts read = subst HaveIds (read_parts (is_composite bytes) (parts_of bytes) parts read) (parts_ids bytes (are_ids bytes small))

field_or : (test : Bool) (ids : List ℕ) (other : Option (List ℕ)) → AreIds ids → AreIds (unwrap_or other []) → AreIds (unwrap_or (if test then Some ids else other) [])
field_or true ids other are others = are
field_or false ids other are others = others

-- the ids of any field
pub field_ids : (parts : List Part) → HaveIds parts → (field : ℕ) → AreIds (unwrap_or (field_of parts field) [])
field_ids [] have field = tt
field_ids (p ∷ parts) have field = field_or (p.0 == field) p.1 (field_of parts field) have.0 (field_ids parts have.1 field)
