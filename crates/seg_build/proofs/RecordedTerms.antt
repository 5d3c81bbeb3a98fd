-- The terms of documents with all their positions, as each field records them, are the terms of the field.
use Rattle.std.proofs.Common.{◌≡◌, ℕ, suc, ◌+◌, false, List, [], ◌∷◌, ◌++◌, map, length, Some, None, Option, Less, Equal, Greater, sym, refl, ap, ◌∙◌, arith}
use Rattle.std.specs.Prelude.{option_map}
use Rattle.std.specs.declared.cmp.Ordering.{Ordering}
use Rattle.std.specs.FinMap.{entries, empty, from_entries, entries-insert, len-empty, len-entries}
use Rattle.std.specs.FinMap.Entries.{put, by_order}
use Rattle.std.specs.List.{slice_get, flat_map, enumerate_from}
use Rattle.std.specs.Ordering.{nat_cmp}
use Rattle.std.specs.Cmp.Lexicographic.{slice_cmp, nat_list_cmp_total}
use Rattle.std.proofs.lemmas.List.{nil_from_length}
use Rattle.seg_values.specs.declared.schema.FieldEntry.{FieldEntry}
use Rattle.seg_values.specs.declared.schema.IndexOption.{IndexOption}
use Rattle.seg_values.specs.declared.schema.IndexOption.TheVariants as options
use Rattle.seg_values.specs.Tree.{Document}
use Rattle.seg_model.specs.Fields.{Schema, Analyzer, is_indexed}
use Rattle.seg_model.specs.Occurrences.{Occurrence, occurrences}
use Rattle.seg_model.specs.DocumentTerms.{Recorded, positions, Posting, Terms, record_of, positions_of, if_occurs, recorded_in, listed, postings_from, postings_of, if_any, terms_of, field_terms, all_terms, term_option}
use Rattle.seg_common.specs.TabulatedMaps.{entry_of}
use Rattle.seg_common.proofs.Bytes.{same_term}
use Rattle.seg_postings.specs.RecordKinds.{kind_of}
use Rattle.seg_postings.specs.declared.asked_kind.AskedKind.{AskedKind}
use Rattle.seg_postings.specs.declared.record_kind.RecordKind.{RecordKind}
use Rattle.seg_terms.specs.TermEntries.{TermEntries}
use Rattle.seg_build.specs.FieldTerms.{FieldTerms, asked_by, kind_in, positional, positional_terms, kept_as, postings_as, entries_as, recorded_fields, fields_of}
use Rattle.seg_build.specs.SerializerContents.{AreFieldsOf}
use Rattle.seg_build.proofs.AllDocuments.{no_terms, occurrences-unindexed}

-- ---- what is recorded of a term

kept_of : (option : IndexOption) (ps : List ℕ) → kept_as (kind_of option) (positions ps) ≡ record_of option ps
kept_of options.No ps = refl
kept_of options.Basic ps = refl
kept_of options.Freqs ps = refl
kept_of options.Positions ps = refl

occurs_kept : (option : IndexOption) (ps : List ℕ) → option_map (kept_as (kind_of option)) (if_occurs options.Positions ps) ≡ if_occurs option ps
occurs_kept option [] = refl
occurs_kept option (p ∷ ps) = ap Some (kept_of option (p ∷ ps))

listed_kept : (kind : RecordKind) (n : ℕ) (r : Option Recorded) (more : List Posting) → postings_as kind (listed n r ++ more) ≡ listed n (option_map (kept_as kind) r) ++ postings_as kind more
listed_kept kind n None more = refl
listed_kept kind n (Some r) more = refl

any_kept : (kind : RecordKind) (ps : List Posting) → option_map (postings_as kind) (if_any ps) ≡ if_any (postings_as kind ps)
any_kept kind [] = refl
any_kept kind (p ∷ ps) = refl

-- a term with all its positions, as its field records it
module _ (e : FieldEntry) (q : List ℕ) where
  abbrev own_kind : RecordKind
  own_kind = kind_in (asked_by e) q

  from_kept : (n : ℕ) (ds : List (List Occurrence)) → postings_as own_kind (postings_from n (map (recorded_in (positional e) q) ds)) ≡ postings_from n (map (recorded_in e q) ds)
  from_kept n [] = refl
  from_kept n (os ∷ ds) =
      listed_kept own_kind n (recorded_in (positional e) q os) (postings_from (n + 1) (map (recorded_in (positional e) q) ds))
      ∙ ap (λ r. listed n r ++ postings_as own_kind (postings_from (n + 1) (map (recorded_in (positional e) q) ds))) (occurs_kept (term_option e q) (positions_of q os))
      ∙ ap (λ l. listed n (recorded_in e q os) ++ l) (from_kept (n + 1) ds)

  at_kept : (ds : List (List Occurrence)) → option_map (postings_as own_kind) (if_any (postings_of (positional e) q ds)) ≡ if_any (postings_of e q ds)
  at_kept ds = any_kept own_kind (postings_of (positional e) q ds) ∙ ap if_any (from_kept 0 ds)

-- ---- the entries of a table

put_as : (asked : AskedKind) (k : List ℕ) (v : List Posting) (es : TermEntries) → entries_as asked (put (slice_cmp nat_cmp) k v es) ≡ put (slice_cmp nat_cmp) k (postings_as (kind_in asked k) v) (entries_as asked es)
put_as asked k v [] = refl
put_as asked k v (e ∷ es) = by (slice_cmp nat_cmp k e.0) refl (put_as asked k v es)
  where
    by : (o : Ordering) → slice_cmp nat_cmp k e.0 ≡ o → entries_as asked (put (slice_cmp nat_cmp) k v es) ≡ put (slice_cmp nat_cmp) k (postings_as (kind_in asked k) v) (entries_as asked es) → entries_as asked (by_order o ((k, v) ∷ e ∷ es) ((e.0, v) ∷ es) (e ∷ put (slice_cmp nat_cmp) k v es)) ≡ by_order o ((k, postings_as (kind_in asked k) v) ∷ entries_as asked (e ∷ es)) ((e.0, postings_as (kind_in asked k) v) ∷ entries_as asked es) ((e.0, postings_as (kind_in asked e.0) e.1) ∷ put (slice_cmp nat_cmp) k (postings_as (kind_in asked k) v) (entries_as asked es))
    by Less is rest = refl
    by Equal is rest = ap (λ q. (e.0, postings_as (kind_in asked q) v) ∷ entries_as asked es) (sym (same_term k e.0 is))
    by Greater is rest = ap (λ l. (e.0, postings_as (kind_in asked e.0) e.1) ∷ l) rest

no_entries : entries (empty {X = List Posting} {R = slice_cmp nat_cmp}) ≡ []
no_entries = nil_from_length (entries (empty {X = List Posting} {R = slice_cmp nat_cmp})) (sym (len-entries (empty {X = List Posting} {R = slice_cmp nat_cmp})) ∙ len-empty (slice_cmp nat_cmp) (List Posting))

entries_kept : (asked : AskedKind) (es : TermEntries) → entries_as asked (entries (from_entries {R = slice_cmp nat_cmp} es)) ≡ entries (from_entries {R = slice_cmp nat_cmp} (entries_as asked es))
entries_kept asked [] = ap (entries_as asked) no_entries ∙ sym no_entries
entries_kept asked (e ∷ es) =
    ap (entries_as asked) (entries-insert nat_list_cmp_total (from_entries es) e.0 e.1)
    ∙ put_as asked e.0 e.1 (entries (from_entries es))
    ∙ ap (put (slice_cmp nat_cmp) e.0 (postings_as (kind_in asked e.0) e.1)) (entries_kept asked es)
    ∙ sym (entries-insert nat_list_cmp_total (from_entries (entries_as asked es)) e.0 (postings_as (kind_in asked e.0) e.1))

entry_as : (asked : AskedKind) (k : List ℕ) (o : Option (List Posting)) (es : TermEntries) → entries_as asked (entry_of k o ++ es) ≡ entry_of k (option_map (postings_as (kind_in asked k)) o) ++ entries_as asked es
entry_as asked k None es = refl
entry_as asked k (Some v) es = refl

table_as : (asked : AskedKind) (f g : List ℕ → Option (List Posting)) → ((k : List ℕ) → option_map (postings_as (kind_in asked k)) (f k) ≡ g k) → (ks : List (List ℕ)) → entries_as asked (flat_map (λ k. entry_of k (f k)) ks) ≡ flat_map (λ k. entry_of k (g k)) ks
table_as asked f g same [] = refl
table_as asked f g same (k ∷ ks) =
    entry_as asked k (f k) (flat_map (λ k. entry_of k (f k)) ks)
    ∙ ap (λ o. entry_of k o ++ entries_as asked (flat_map (λ k. entry_of k (f k)) ks)) (same k)
    ∙ ap (λ l. entry_of k (g k) ++ l) (table_as asked f g same ks)

-- the terms of a field with all their positions, as the field records them
field_recorded : (e : FieldEntry) (ds : List (List Occurrence)) → entries_as (asked_by e) (entries (terms_of (positional e) ds)) ≡ entries (terms_of e ds)
field_recorded e ds =
    let keys = flat_map (map (λ (o : Occurrence). o.bytes)) ds in
    entries_kept (asked_by e) (flat_map (λ k. entry_of k (if_any (postings_of (positional e) k ds))) keys)
    ∙ ap (λ es. entries (from_entries {R = slice_cmp nat_cmp} es)) (table_as (asked_by e) (λ q. if_any (postings_of (positional e) q ds)) (λ q. if_any (postings_of e q ds)) (λ q. at_kept e q ds) keys)

-- ---- a field that is not indexed

-- it has no terms, whatever it would record
pub no_terms_of : (schema : Schema) (analyzer : Analyzer) (ds : List Document) (i : ℕ) (e : FieldEntry) → slice_get schema i ≡ Some e → is_indexed e ≡ false → (shown : FieldEntry) → entries (terms_of shown (map (λ d. occurrences schema analyzer d i) ds)) ≡ []
no_terms_of schema analyzer ds i e at off shown = ap entries (no_terms shown ds (λ d. occurrences schema analyzer d i) (λ d. occurrences-unindexed schema analyzer i e at d off)) ∙ no_entries

-- ---- all fields

module _ (schema : Schema) (analyzer : Analyzer) (ds : List Document) where
  fields_from : (n : ℕ) (xs : List FieldEntry) → recorded_fields xs (map entries (map (λ f. terms_of (positional f.1) (map (λ d. occurrences schema analyzer d f.0) ds)) (enumerate_from n xs))) ≡ map (λ f. record { asked = asked_by f.1; terms = entries (field_terms schema analyzer ds f) }) (enumerate_from n xs)
  fields_from n [] = refl
  fields_from n (x ∷ xs) =
      ap (λ (ts : TermEntries). record { asked = asked_by x; terms = ts } ∷ recorded_fields xs (map entries (map (λ f. terms_of (positional f.1) (map (λ d. occurrences schema analyzer d f.0) ds)) (enumerate_from (n + 1) xs)))) (field_recorded x (map (λ d. occurrences schema analyzer d n) ds))
      ∙ ap (λ l. record { asked = asked_by x; terms = entries (field_terms schema analyzer ds (n, x)) } ∷ l) (fields_from (n + 1) xs)

  -- what is gathered with positions, recorded as the fields ask, are the fields' terms
  pub recorded_are_fields : recorded_fields schema (map entries (positional_terms schema analyzer ds)) ≡ fields_of schema analyzer ds
  recorded_are_fields = fields_from 0 schema

-- ---- the terms of the fields, and what they are asked for

module _ (F : ℕ × FieldEntry → Terms) where
  abbrev field_of_terms : ℕ × FieldEntry → FieldTerms
  field_of_terms f = record { asked = asked_by f.1; terms = entries (F f) }

  asked_from : (n : ℕ) (xs : List FieldEntry) → map (λ (t : FieldTerms). t.asked) (map field_of_terms (enumerate_from n xs)) ≡ map asked_by xs
  asked_from n [] = refl
  asked_from n (x ∷ xs) = ap (λ l. asked_by x ∷ l) (asked_from (n + 1) xs)

  terms_from : (fs : List (ℕ × FieldEntry)) → map (λ (t : FieldTerms). t.terms) (map field_of_terms fs) ≡ map entries (map F fs)
  terms_from [] = refl
  terms_from (f ∷ fs) = ap (λ l. entries (F f) ∷ l) (terms_from fs)

pub fields_have_terms : (schema : Schema) (analyzer : Analyzer) (ds : List Document) → AreFieldsOf schema (fields_of schema analyzer ds) (all_terms schema analyzer ds)
fields_have_terms schema analyzer ds = record { asked = asked_from (field_terms schema analyzer ds) 0 schema; terms = terms_from (field_terms schema analyzer ds) (enumerate_from 0 schema) }

pub length-recorded_fields : (schema : Schema) (terms : List TermEntries) → length terms ≡ length schema → length (recorded_fields schema terms) ≡ length schema
length-recorded_fields [] terms same = refl
length-recorded_fields (e ∷ es) [] same = absurd (omega (arith, same))
length-recorded_fields (e ∷ es) (t ∷ ts) same = ap suc (length-recorded_fields es ts (let z : length ts ≡ length es = omega (arith, same) in z))
