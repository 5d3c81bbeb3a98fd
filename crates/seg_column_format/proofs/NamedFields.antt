-- The field of a name is the only one.
use Rattle.std.proofs.Common.{◌≡◌, ℕ, zero, suc, ◌+◌, ◌<◌, Bool, true, false, cond, ◌||◌, List, [], ◌∷◌, length, Some, None, refl, sym, ap, subst, ◌∙◌, arith}
use Rattle.std.specs.Prelude.{◌&&◌, not, nat_eq, nat_lt}
use Rattle.std.specs.List.{list_all, list_any, position_or_len, slice_get}
use Rattle.std.specs.Str.{bytes_eq}
use Rattle.std.proofs.lemmas.Bool.{false≢true, true≢false, and_parts}
use Rattle.std.proofs.lemmas.Bool.Decides.{nat_tests}
use Rattle.std.proofs.lemmas.Map.Keys.{any_passes_from_place}
use Rattle.std.proofs.lemmas.Option.{none-some, same_Some}
use Rattle.seg_values.proofs.Exports.{unnamed}
use Rattle.seg_values.specs.DistinctLists.{all_distinct}
use Rattle.seg_values.specs.FieldNames.{field_named}
use Rattle.seg_values.specs.SchemaRules.{is_entry, is_schema, same_name}
use Rattle.seg_values.specs.declared.schema.FieldEntry.{FieldEntry}
use Rattle.seg_common.specs.declared.column_type.ColumnType.{ColumnType}
use Rattle.seg_common.proofs.Bytes.{same_bytes, bytes_are}
use Rattle.seg_model.specs.Columns.{declared_type}
use Rattle.seg_column_format.specs.SchemaColumns.{DeclaresAlone, is_type}

module _ (name : List ℕ) where
  abbrev is_of : FieldEntry → Bool
  is_of e = bytes_eq e.name name

  -- no field has the name, whatever else is asked
  none_with : (test : FieldEntry → Bool) (es : List FieldEntry) → list_any is_of es ≡ false
      → list_any (λ e. is_of e && test e) es ≡ false
  none_with test [] h = refl
  none_with test (e ∷ es) h = by (is_of e) refl (none_with test es) h
    where
      by : (b : Bool) → is_of e ≡ b → (list_any is_of es ≡ false → list_any (λ e. is_of e && test e) es ≡ false)
          → (b || list_any is_of es) ≡ false
          → ((b && test e) || list_any (λ e. is_of e && test e) es) ≡ false
      by true f rest h = absurd (true≢false h)
      by false f rest h = rest h

  pub no_field : (test : FieldEntry → Bool) (es : List FieldEntry) → field_named es name ≡ None
      → list_any (λ e. is_of e && test e) es ≡ false
  no_field test es h = none_with test es (unnamed name es h)

  -- ---- where one has

  distinct_from : (es : List FieldEntry) → all_distinct same_name es ≡ true → (place : ℕ)
      → position_or_len is_of es ≡ place → place < length es → (i : ℕ) (x : FieldEntry) → slice_get es i ≡ Some x
      → is_of x ≡ nat_eq i place
  distinct_from [] distinct place is lt i x at = absurd (none-some x at)
  distinct_from (e ∷ es) distinct place is lt i x at = by (is_of e) refl (λ d lt j at. distinct_from es d (position_or_len is_of es) refl lt j x at) (cut (is_of e) (position_or_len is_of es) ∙ is) i at
    where
      two : (not (list_any (λ o. same_name o e) es) ≡ true) × (all_distinct same_name es ≡ true)
      two = and_parts (not (list_any (λ o. same_name o e) es)) _ distinct

      cut : (b : Bool) (n : ℕ) → cond b 0 (suc n) ≡ cond (not b) (1 + n) 0
      cut true n = refl
      cut false n = omega arith

      other : (j : ℕ) → slice_get es j ≡ Some x → is_of e ≡ true → is_of x ≡ false
      other j at f = no (is_of x) refl
        where
          no : (b : Bool) → is_of x ≡ b → is_of x ≡ false
          no false g = g
          no true g = absurd (false≢true (ap not (sym (any_passes_from_place (λ o. same_name o e) es j x at
              (bytes_are x.name e.name (same_bytes x.name name g ∙ sym (same_bytes e.name name f))))) ∙ two.0))

      by : (b : Bool) → is_of e ≡ b
          → (all_distinct same_name es ≡ true → position_or_len is_of es < length es → (j : ℕ) → slice_get es j ≡ Some x
          → is_of x ≡ nat_eq j (position_or_len is_of es))
          → cond b 0 (suc (position_or_len is_of es)) ≡ place → (i : ℕ) → slice_get (e ∷ es) i ≡ Some x
          → is_of x ≡ nat_eq i place
      by true f rest is zero at = ap is_of (sym (same_Some e x at)) ∙ (f ∙ ap (nat_eq 0) is)
      by true f rest is (suc j) at = other j at f ∙ (grind (arith, nat_tests) ∙ ap (nat_eq (suc j)) is)
      by false f rest is zero at = ap is_of (sym (same_Some e x at)) ∙ (f ∙ (grind (arith, nat_tests) ∙ ap (nat_eq 0) is))
      by false f rest is (suc j) at =
          rest two.1 (omega (arith, is, lt)) j at ∙ (grind (arith, nat_tests) ∙ ap (nat_eq (suc j)) is)

  found : (b : Bool) (n place : ℕ) → cond b (Some n) None ≡ Some place → (n ≡ place) × (b ≡ true)
  found true n place h = (same_Some n place h, refl)
  found false n place h = absurd (none-some place h)

  pub alone : (es : List FieldEntry) → is_schema es ≡ true → (place : ℕ) → field_named es name ≡ Some place
      → (i : ℕ) (x : FieldEntry) → slice_get es i ≡ Some x → is_of x ≡ nat_eq i place
  alone es valid place named i x at =
      let p = found (nat_lt (position_or_len is_of es) (length es)) (position_or_len is_of es) place named in
      distinct_from es (and_parts (all_distinct same_name es) _ (and_parts (list_all is_entry es) _ valid).1).0 place p.0
      (grind (arith, nat_tests, p.1, p.0)) i x at

  -- what is asked of the field of the name is asked of this one
  pub asked_alone : (test : FieldEntry → Bool) (es : List FieldEntry) (place : ℕ) (e : FieldEntry) → slice_get es place ≡ Some e
      → ((i : ℕ) (x : FieldEntry) → slice_get es i ≡ Some x → is_of x ≡ nat_eq i place)
      → test e ≡ list_any (λ x. is_of x && test x) es
  asked_alone test [] place e at only = absurd (none-some e at)
  asked_alone test (x ∷ xs) zero e at only =
      ap test (sym (same_Some x e at))
      ∙ (sym (or_false (test x)) ∙ (λ j. ((sym (only 0 x refl) j && test x) || sym (rest xs (λ i y at. only (suc i) y at ∙ grind (arith, nat_tests))) j)))
    where
      or_false : (b : Bool) → (b || false) ≡ b
      or_false true = refl
      or_false false = refl

      rest : (ys : List FieldEntry) → ((i : ℕ) (y : FieldEntry) → slice_get ys i ≡ Some y → is_of y ≡ false)
          → list_any (λ x. is_of x && test x) ys ≡ false
      rest [] none = refl
      rest (y ∷ ys) none = (λ j. (none 0 y refl j && test y) || rest ys (λ i z at. none (suc i) z at) j)
  asked_alone test (x ∷ xs) (suc place) e at only =
      asked_alone test xs place e at (λ i y at. only (suc i) y at ∙ grind (arith, nat_tests))
      ∙ (λ j. ((sym (first (only 0 x refl)) j && test x) || list_any (λ x. is_of x && test x) xs))
    where
      first : is_of x ≡ nat_eq 0 (suc place) → is_of x ≡ false
      first h = h ∙ grind (arith, nat_tests)

pub declares_alone : (schema : List FieldEntry) (path : List ℕ) (type : ColumnType) (field place : ℕ) (e : FieldEntry) → place ≡ field
    → slice_get schema field ≡ Some e → (e.fast && is_type type (declared_type e.kind)) ≡ true
    → ((i : ℕ) (x : FieldEntry) → slice_get schema i ≡ Some x → bytes_eq x.name path ≡ nat_eq i field)
    → DeclaresAlone schema path type place
declares_alone schema path type field place e same at typed only = record {
  there = subst (λ n. n < length schema) (sym same) (within schema field e at);
  alone = λ i x found.
      ap (λ b. b && (x.fast && is_type type (declared_type x.kind))) (only i x found)
      ∙ (by i x found (nat_eq i field) refl ∙ ap (nat_eq i) (sym same));
}
  where
    within : (es : List FieldEntry) (i : ℕ) (x : FieldEntry) → slice_get es i ≡ Some x → i < length es
    within [] i x at = absurd (none-some x at)
    within (y ∷ ys) zero x at = omega arith
    within (y ∷ ys) (suc i) x at = let rest = within ys i x at in omega (arith, rest)

    by : (i : ℕ) (x : FieldEntry) → slice_get schema i ≡ Some x → (b : Bool) → nat_eq i field ≡ b
        → (nat_eq i field && (x.fast && is_type type (declared_type x.kind))) ≡ nat_eq i field
    by i x found false off = ap (λ b. b && (x.fast && is_type type (declared_type x.kind))) off ∙ sym off
    by i x found true on =
        let here : i ≡ field = grind (arith, nat_tests, on) in
        let same_entry : x ≡ e = same_Some x e (sym found ∙ (ap (slice_get schema) here ∙ at)) in
        ap (λ b. b && (x.fast && is_type type (declared_type x.kind))) on
        ∙ (ap (λ (y : FieldEntry). y.fast && is_type type (declared_type y.kind)) same_entry ∙ (typed ∙ sym on))
