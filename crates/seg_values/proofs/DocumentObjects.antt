-- The object of a document that gets one more pair.
use Rattle.std.proofs.Common.{◌≡◌, ◌≢◌, ℕ, zero, suc, ◌+◌, ◌-◌, ◌^◌, ◌<◌, ◌≤◌, List, [], ◌∷◌, ◌++◌, map, cond, Bool, true, false, not, nat_eq, nat_lt, Option, Some, None, slice_get, length, take, drop, append-nil, refl, sym, ap, ◌∙◌, arith, eq-eqb}
use Rattle.std.specs.Prelude.{filter, ◌&&◌}
use Rattle.std.specs.Str.{bytes_eq}
use Rattle.std.specs.List.{list_any, list_all}
use Rattle.std.proofs.lemmas.Bool.{false≢true, and_parts, or_parts, not-true}
use Rattle.std.proofs.lemmas.Bool.Decides.{nat_tests}
use Rattle.std.proofs.lemmas.List.{map-append}
use Rattle.std.proofs.lemmas.List.Elements.{filter-append}
use Rattle.std.proofs.lemmas.Option.{none-some, same_Some}
use Rattle.std.proofs.lemmas.Slice.Eq.{bytes_eq-Decides}
use Rattle.serde_json.specs.Data as json
use Rattle.serde_json.specs.Data.{put}
use Rattle.serde_json.specs.Find.{get_member}
use Rattle.serde_json.proofs.Views.{get_member-put, get_member-put_other}
use Rattle.seg_common.proofs.Lists.{drop-slice_get, take-slice_get}
use Rattle.seg_values.specs.declared.schema.FieldEntry.{FieldEntry}
use Rattle.seg_values.specs.DistinctLists.{all_distinct}
use Rattle.seg_values.specs.DocumentJson.{values_of, put_values, fields_json, with_last, grown, with_item, has_fields}
use Rattle.seg_values.specs.SchemaRules.{is_entry, is_schema, same_name}
use Rattle.seg_values.specs.Schemas.{Schema}
use Rattle.seg_values.specs.Tree.{Tree, Document, trees_from}
use Rattle.seg_values.specs.ValueJson.{value_json, items_json}
use Rattle.seg_values.proofs.PutMembers.{put_again, put_swap}

items_more : (ts : List Tree) (t : Tree) → items_json (trees_from (ts ++ t ∷ [])) ≡ with_last (items_json (trees_from ts)) (value_json t)
items_more [] t = refl
items_more (u ∷ ts) t = ap (json.item (value_json u)) (items_more ts t)

-- ---- values of a field

one_value : (b : Bool) (p : ℕ × Tree) → map (λ (q : ℕ × Tree). q.1) (cond b (p ∷ []) []) ≡ cond b (p.1 ∷ []) []
one_value true p = refl
one_value false p = refl

values-more : (field : ℕ) (document : Document) (p : ℕ × Tree) → values_of field (document ++ p ∷ []) ≡ values_of field document ++ cond (nat_eq field p.0) (p.1 ∷ []) []
values-more field document p =
    ap (map (λ (q : ℕ × Tree). q.1)) (filter-append (λ (q : ℕ × Tree). nat_eq field q.0) document (p ∷ []))
    ∙ map-append (λ (q : ℕ × Tree). q.1) (filter (λ (q : ℕ × Tree). nat_eq field q.0) document) (cond (nat_eq field p.0) (p ∷ []) [])
    ∙ ap (λ l. values_of field document ++ l) (one_value (nat_eq field p.0) p)

values-here : (field : ℕ) (document : Document) (t : Tree) → values_of field (document ++ (field, t) ∷ []) ≡ values_of field document ++ t ∷ []
values-here field document t =
    let same : nat_eq field field ≡ true = eq-eqb field field refl in
    values-more field document (field, t) ∙ ap (λ (b : Bool). values_of field document ++ cond b (t ∷ []) []) same

values-other : (k field : ℕ) (document : Document) (t : Tree) → k ≢ field → values_of k (document ++ (field, t) ∷ []) ≡ values_of k document
values-other k field document t other =
    let apart : nat_eq k field ≡ false = grind (arith, nat_tests) in
    values-more k document (field, t) ∙ ap (λ (b : Bool). values_of k document ++ cond b (t ∷ []) []) apart ∙ append-nil (values_of k document)

-- ---- names

differ : (a b : List ℕ) → bytes_eq a b ≡ false → a ≡ b → ⊥
differ a b no_match same = false≢true (sym no_match ∙ (bytes_eq-Decides a b).1 same)

other_name : (name : List ℕ) (es : Schema) (i : ℕ) (e : FieldEntry) → list_any (λ y. bytes_eq y.name name) es ≡ false → slice_get es i ≡ Some e → bytes_eq e.name name ≡ false
other_name name [] i e none at = absurd (none-some e at)
other_name name (x ∷ es) zero e none at = ap (λ (y : FieldEntry). bytes_eq y.name name) (sym (same_Some x e at)) ∙ (or_parts (bytes_eq x.name name) (list_any (λ y. bytes_eq y.name name) es) none).0
other_name name (x ∷ es) (suc i) e none at = other_name name es i e (or_parts (bytes_eq x.name name) (list_any (λ y. bytes_eq y.name name) es) none).1 at

absent-put : (name other : List ℕ) (ts : List Tree) (ms : json.Members) → bytes_eq other name ≡ false → get_member name ms ≡ None → get_member name (put_values other ts ms) ≡ None
absent-put name other [] ms apart absent = absent
absent-put name other (t ∷ ts) ms apart absent =
    get_member-put_other name other (json.array (items_json (trees_from (t ∷ ts)))) ms (λ same. differ other name apart (sym same)) ∙ absent

absent : (name : List ℕ) (k : ℕ) (es : Schema) (document : Document) → list_any (λ y. bytes_eq y.name name) es ≡ false → get_member name (fields_json k es document) ≡ None
absent name k [] document none = refl
absent name k (e ∷ es) document none =
    let parts = or_parts (bytes_eq e.name name) (list_any (λ y. bytes_eq y.name name) es) none in
    absent-put name e.name (values_of k document) (fields_json (k + 1) es document) parts.0 (absent name (k + 1) es document parts.1)

-- no value gives no member
pub nothing : (k : ℕ) (schema : Schema) → fields_json k schema [] ≡ json.no_members
nothing k [] = refl
nothing k (e ∷ es) = nothing (k + 1) es

-- ---- one more pair

put-first : (name : List ℕ) (ts : List Tree) (t : Tree) (ms : json.Members) → get_member name ms ≡ None → put_values name (ts ++ t ∷ []) ms ≡ with_item name (value_json t) (put_values name ts ms)
put-first name [] t ms none = sym (ap (λ (found : Option json.Data). put name (grown found (value_json t)) ms) none)
put-first name (u ∷ ts) t ms none =
    let list = json.array (items_json (trees_from (u ∷ ts))) in
    ap (λ items. put name (json.array items) ms) (items_more (u ∷ ts) t)
    ∙ sym (put_again name (json.array (with_last (items_json (trees_from (u ∷ ts))) (value_json t))) list ms)
    ∙ ap (λ (found : Option json.Data). put name (grown found (value_json t)) (put name list ms)) (sym (get_member-put name list ms))

put-behind : (name other : List ℕ) (ts : List Tree) (t : Tree) (ms : json.Members) → bytes_eq name other ≡ false → put_values other ts (with_item name (value_json t) ms) ≡ with_item name (value_json t) (put_values other ts ms)
put-behind name other [] t ms apart = refl
put-behind name other (u ∷ ts) t ms apart =
    let list = json.array (items_json (trees_from (u ∷ ts))) in
    put_swap name other (grown (get_member name ms) (value_json t)) list ms (differ name other apart)
    ∙ ap (λ (found : Option json.Data). put name (grown found (value_json t)) (put other list ms)) (sym (get_member-put_other name other list ms (differ name other apart)))

module _ (document : Document) (field : ℕ) (t : Tree) where
  later : (k : ℕ) (es : Schema) → field < k → fields_json k es (document ++ (field, t) ∷ []) ≡ fields_json k es document
  later k [] h = refl
  later k (e ∷ es) h =
      let other : k ≢ field = omega arith in
      ap (λ ts. put_values e.name ts (fields_json (k + 1) es (document ++ (field, t) ∷ []))) (values-other k field document t other)
      ∙ ap (put_values e.name (values_of k document)) (later (k + 1) es (omega arith))

  from : (k : ℕ) (es : Schema) (i : ℕ) (e : FieldEntry) → all_distinct same_name es ≡ true → slice_get es i ≡ Some e → field ≡ k + i
      → fields_json k es (document ++ (field, t) ∷ []) ≡ with_item e.name (value_json t) (fields_json k es document)
  from k [] i e distinct at is = absurd (none-some e at)
  from k (x ∷ es) zero e distinct at is =
      let here : k ≡ field = omega arith in
      let same : x.name ≡ e.name = ap (λ (y : FieldEntry). y.name) (same_Some x e at) in
      let none : list_any (λ y. bytes_eq y.name x.name) es ≡ false = not-true (list_any (λ y. same_name y x) es) (and_parts (not (list_any (λ y. same_name y x) es)) (all_distinct same_name es) distinct).0 in
      ap (put_values x.name (values_of k (document ++ (field, t) ∷ []))) (later (k + 1) es (omega arith))
      ∙ ap (λ ts. put_values x.name ts (fields_json (k + 1) es document)) (ap (λ j. values_of j (document ++ (field, t) ∷ [])) here ∙ values-here field document t ∙ ap (λ j. values_of j document ++ t ∷ []) (sym here))
      ∙ put-first x.name (values_of k document) t (fields_json (k + 1) es document) (absent x.name (k + 1) es document none)
      ∙ ap (λ name. with_item name (value_json t) (put_values x.name (values_of k document) (fields_json (k + 1) es document))) same
  from k (x ∷ es) (suc i) e distinct at is =
      let other : k ≢ field = omega arith in
      let parts = and_parts (not (list_any (λ y. same_name y x) es)) (all_distinct same_name es) distinct in
      ap (λ ts. put_values x.name ts (fields_json (k + 1) es (document ++ (field, t) ∷ []))) (values-other k field document t other)
      ∙ ap (put_values x.name (values_of k document)) (from (k + 1) es i e parts.1 at (omega arith))
      ∙ put-behind e.name x.name (values_of k document) t (fields_json (k + 1) es document) (other_name x.name es i e (not-true (list_any (λ y. same_name y x) es) parts.0) at)

-- the object gets the value at the end of the list of the field's name
pub object_more : (document : Document) (schema : Schema) (i field : ℕ) (t : Tree) (e : FieldEntry) (name : List ℕ) (d : json.Data) (before after : json.Members)
    → is_schema schema ≡ true → slice_get document i ≡ Some (field, t) → slice_get schema field ≡ Some e → name ≡ e.name → d ≡ value_json t
    → after ≡ with_item name d before → before ≡ fields_json 0 schema (take i document) → after ≡ fields_json 0 schema (take (i + 1) document)
object_more document schema i field t e name d before after valid at found named told is so_far =
    let parts = and_parts (list_all is_entry schema) (all_distinct same_name schema && nat_lt (length schema) (2 ^ 32 - 1)) valid in
    let distinct = (and_parts (all_distinct same_name schema) (nat_lt (length schema) (2 ^ 32 - 1)) parts.1).0 in
    is
    ∙ ap (λ n. with_item n d before) named
    ∙ ap (λ v. with_item e.name v before) told
    ∙ ap (with_item e.name (value_json t)) so_far
    ∙ sym (from (take i document) field t 0 schema field e distinct found (omega arith))
    ∙ ap (fields_json 0 schema) (sym (take-slice_get document i (field, t) at))

-- ---- fields that occur

pub field_within : (schema : Schema) (document : Document) (i : ℕ) (p : ℕ × Tree) → has_fields schema document ≡ true → slice_get document i ≡ Some p → p.0 < length schema
field_within schema [] i p has at = absurd (none-some p at)
field_within schema (q ∷ document) zero p has at =
    let first : nat_lt q.0 (length schema) ≡ true = (and_parts (nat_lt q.0 (length schema)) (has_fields schema document) has).0 in
    let same : q.0 ≡ p.0 = ap (λ (r : ℕ × Tree). r.0) (same_Some q p at) in
    let lt : q.0 < length schema = grind (arith, nat_tests) in
    omega arith
field_within schema (q ∷ document) (suc i) p has at = field_within schema document i p (and_parts (nat_lt q.0 (length schema)) (has_fields schema document) has).1 at

module _ (schema : Schema) (document : Document) (i : ℕ) (p : ℕ × Tree) (at : slice_get document i ≡ Some p) (all : Bool) (so_far : has_fields schema (drop i document) ≡ all) where
  next_fields : (nat_lt p.0 (length schema) && has_fields schema (drop (i + 1) document)) ≡ all
  next_fields = sym (ap (has_fields schema) (drop-slice_get document i p at)) ∙ so_far

  pub field_passes : p.0 < length schema → has_fields schema (drop (i + 1) document) ≡ all
  field_passes within = let passes : nat_lt p.0 (length schema) ≡ true = grind (arith, nat_tests) in sym (ap (λ (b : Bool). b && has_fields schema (drop (i + 1) document)) passes) ∙ next_fields

  pub field_fails : length schema ≤ p.0 → false ≡ all
  field_fails outside = let fails : nat_lt p.0 (length schema) ≡ false = grind (arith, nat_tests) in sym (ap (λ (b : Bool). b && has_fields schema (drop (i + 1) document)) fails) ∙ next_fields
