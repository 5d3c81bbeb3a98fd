-- Names of fields, looked up and compared.
use Rattle.std.proofs.Common.{◌≡◌, ℕ, List, Bool, true, false, cond, Some, None, refl, ◌∙◌}
use Rattle.std.specs.Prelude.{IsSome}
use Rattle.std.specs.Str.{bytes_eq}
use Rattle.std.specs.List.{list_any}
use Rattle.seg_common.proofs.Lists.{list_any-place}
use Rattle.seg_common.proofs.Bytes.{bytes_eq-sym}
use Rattle.seg_values.specs.declared.schema.FieldEntry.{FieldEntry}
use Rattle.seg_values.specs.FieldNames.{field_named}
use Rattle.seg_values.specs.SchemaRules.{same_name}

no_place : (b : Bool) (n : ℕ) → cond b (Some n) None ≡ None → b ≡ false
no_place true n h = cc
no_place false n h = refl

some_place : (b : Bool) (n : ℕ) → IsSome (cond b (Some n) None) → b ≡ true
some_place true n h = refl
some_place false n h = h

-- a name that is looked up in vain is no field's
pub unnamed : (name : List ℕ) (es : List FieldEntry) → field_named es name ≡ None
    → list_any (λ e. bytes_eq e.name name) es ≡ false
unnamed name es h = list_any-place (λ e. bytes_eq e.name name) es ∙ no_place _ _ h

-- a name that is found is a field's
pub named : (name : List ℕ) (es : List FieldEntry) → IsSome (field_named es name)
    → list_any (λ e. bytes_eq e.name name) es ≡ true
named name es h = list_any-place (λ e. bytes_eq e.name name) es ∙ some_place _ _ h

-- names are compared both ways
pub same_name-sym : (a b : FieldEntry) → same_name a b ≡ same_name b a
same_name-sym a b = bytes_eq-sym a.name b.name
