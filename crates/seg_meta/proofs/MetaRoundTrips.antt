-- A meta is read from its own text.
use Rattle.std.proofs.Common.{◌≡◌, ℕ, ◌-◌, ◌^◌, ◌<◌, List, [], ◌∷◌, map, length, Bool, true, nat_lt, Option, Some, refl, arith}
use Rattle.std.specs.List.{AllByRecursion, list_all}
use Rattle.std.proofs.lemmas.Bool.{and_parts}
use Rattle.std.proofs.lemmas.Bool.Decides.{nat_tests}
use Rattle.seg_values.specs.DistinctLists.{all_distinct}
use Rattle.seg_values.specs.SchemaRules.{is_entry, is_schema, same_name}
use Rattle.seg_values.specs.declared.schema.FieldEntry.{FieldEntry}
use Rattle.seg_meta.specs.IndexOfFiles.{ListedSegment, Meta}
use Rattle.serde_json.specs.Data.{Data, array}
use Rattle.serde_json.specs.View.{items_of}
use Rattle.seg_meta.specs.MetaBounds.{MetaFits, SegmentFits}
use Rattle.seg_meta.specs.MetaJson.{entry_json, segment_json, meta_json}
use Rattle.seg_meta.specs.ParsedMeta.{distinct_list, schema_from, segments_from, meta_from, meta_read}
use Rattle.seg_meta.specs.MetaText.{meta_text}
use Rattle.seg_meta.specs.ParsedMetaParts.{entry_from, segment_from}
use Rattle.seg_meta.specs.JsonReaders.{each}
use Rattle.seg_meta.specs.SavableMetas.{IsMetaList, same_id}
use Rattle.seg_meta.proofs.JsonOfBytes.{json_of-read}
use Rattle.seg_meta.proofs.TextRoundTrips.{read-meta_text}
use Rattle.seg_meta.proofs.PartRoundTrips.{text_back, settings_back, entry_back, segment_back}

-- each item is read from its own JSON value
each_back : {A : Type 0} (read : Data → Option A) (write : A → Data) (P : A → Type 0) → ((x : A) → P x → read (write x) ≡ Some x) → (xs : List A) → AllByRecursion P xs → each read (items_of (map write xs)) ≡ Some xs
each_back read write P back [] h = refl
each_back read write P back (x ∷ xs) h = rw (back x h.0, each_back read write P back xs h.1) refl

-- and so is a list of distinct items
list_back : {A : Type 0} (read : Data → Option A) (write : A → Data) (P : A → Type 0) (alike : A → A → Bool) (limit : ℕ) → ((x : A) → P x → read (write x) ≡ Some x)
    → (xs : List A) → AllByRecursion P xs → all_distinct alike xs ≡ true → length xs < limit → distinct_list read alike limit (array (items_of (map write xs))) ≡ Some xs
list_back read write P alike limit back xs h distinct few =
    let below : nat_lt (length xs) limit ≡ true = grind (arith, nat_tests) in
    rw (each_back read write P back xs h, distinct, below) refl

all_entries : (es : List FieldEntry) → list_all is_entry es ≡ true → AllByRecursion (λ e. is_entry e ≡ true) es
all_entries [] h = tt
all_entries (e ∷ es) h = let p = and_parts _ _ h in (p.0, all_entries es p.1)

schema_back : (es : List FieldEntry) → is_schema es ≡ true → schema_from (array (items_of (map entry_json es))) ≡ Some es
schema_back es h =
    let p = and_parts _ _ h in
    let q = and_parts _ _ p.1 in
    let few : length es < 2 ^ 32 - 1 = grind (arith, nat_tests, q.1) in
    list_back entry_from entry_json (λ e. is_entry e ≡ true) same_name (2 ^ 32 - 1) entry_back es (all_entries es p.0) q.0 few

segments_back : (ss : List ListedSegment) → AllByRecursion SegmentFits ss → IsMetaList ss → segments_from (array (items_of (map segment_json ss))) ≡ Some ss
segments_back ss h list = list_back segment_from segment_json SegmentFits same_id (2 ^ 32) (λ s f. segment_back s f.0 f.1.0 f.1.1) ss h list.1 list.0

-- a meta is read from its own JSON value
meta_back : (m : Meta) → MetaFits m → IsMetaList m.segments → is_schema m.schema ≡ true → meta_from (meta_json m) ≡ Some m
meta_back m fits list schema = rw (settings_back m.settings fits.block_size, text_back m.payload, schema_back m.schema schema, segments_back m.segments fits.segments list) refl

-- and from its own text
pub meta_read-meta_text : (m : Meta) → MetaFits m → IsMetaList m.segments → is_schema m.schema ≡ true → meta_read (meta_text m) ≡ Some m
meta_read-meta_text m fits list schema = let e = json_of-read (meta_text m) (meta_json m) (read-meta_text m fits) in rw e (meta_back m fits list schema)
