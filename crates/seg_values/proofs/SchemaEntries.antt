-- Fields that are a schema, and one more.
use Rattle.std.proofs.Common.{◌≡◌, ◌+◌, ◌-◌, ◌^◌, ◌<◌, List, [], ◌∷◌, ◌++◌, length, length-append, Bool, true, ◌&&◌, None, refl, arith}
use Rattle.std.proofs.lemmas.Bool.{and_parts, lt-ltb}
use Rattle.std.specs.List.{list_all}
use Rattle.seg_values.specs.declared.schema.FieldEntry.{FieldEntry}
use Rattle.seg_values.specs.DistinctLists.{all_distinct}
use Rattle.seg_values.specs.FieldNames.{field_named}
use Rattle.seg_values.specs.SchemaRules.{is_entry, is_schema, same_name}
use Rattle.seg_values.proofs.DistinctLists.{all_distinct-push}
use Rattle.seg_values.proofs.SameNames.{same_name-sym, unnamed}

-- one more entry
pub list_all-entry : (done : List FieldEntry) (e : FieldEntry) → list_all is_entry done ≡ true → is_entry e ≡ true → list_all is_entry (done ++ e ∷ []) ≡ true
list_all-entry [] e h k = rw k refl
list_all-entry (x ∷ xs) e h k = let p = and_parts (is_entry x) (list_all is_entry xs) h in rw (p.0, list_all-entry xs e p.1 k) refl

all_three : (a b c : Bool) → a ≡ true → b ≡ true → c ≡ true → (a && (b && c)) ≡ true
all_three a b c p q r = rw (p, q, r)

-- a schema that gets a field with a new name
pub is_schema-push : (es : List FieldEntry) (e : FieldEntry) → is_schema es ≡ true → is_entry e ≡ true → field_named es e.name ≡ None → length es + 1 < 2 ^ 32 - 1 → is_schema (es ++ e ∷ []) ≡ true
is_schema-push es e is entry none few =
    let p = and_parts (list_all is_entry es) _ is in
    let q = and_parts (all_distinct same_name es) _ p.1 in
    let more : length (es ++ e ∷ []) < 2 ^ 32 - 1 = omega (arith, few, length-append es (e ∷ [])) in
    all_three _ _ _ (list_all-entry es e p.0 entry) (all_distinct-push same_name same_name-sym es e q.0 (unnamed e.name es none)) (lt-ltb _ _ more)
