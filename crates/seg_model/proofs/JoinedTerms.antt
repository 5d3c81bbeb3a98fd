-- The terms of parts joined.
use Rattle.std.proofs.Common.{◌≡◌, ℕ, zero, suc, ◌+◌, ◌<◌, ◌≤◌, Bool, true, false, cond, List, [], ◌∷◌, ◌++◌, map, length, Some, None, Option, sym, refl, ap, ◌∙◌, subst, arith, append_assoc, unwrap_or}
use Rattle.std.specs.Prelude.{filter, is_some}
use mathlib.Core.Bool.{true≢false}
use Rattle.std.specs.List.{flat_map, slice_get, slice_index_or}
use Rattle.std.specs.Ordering.{nat_cmp, eq_by_cmp}
use Rattle.std.specs.Cmp.Lexicographic.{slice_cmp, nat_list_cmp_total}
use Rattle.std.specs.Str.{bytes_eq}
use Rattle.std.specs.FinMap.{get, keys, empty, contains_key-keys}
use Rattle.std.proofs.lemmas.Map.Text.{is_eq-slice_cmp}
use Rattle.std.proofs.lemmas.Bool.Decides.{nat_tests}
use Rattle.std.proofs.lemmas.List.Folds.{list_any-append}
use Rattle.std.proofs.lemmas.List.{length-map}
use Rattle.std.proofs.lemmas.Simd.{map-map}
use Rattle.seg_values.specs.declared.schema.FieldEntry.{FieldEntry}
use Rattle.seg_model.specs.Fields.{Schema, Analyzer, fields}
use Rattle.seg_model.specs.Operations.{Batch, kept, live}
use Rattle.seg_model.specs.Occurrences.{Occurrence, occurrences}
use Rattle.seg_common.specs.TabulatedMaps.{is_among}
use Rattle.seg_model.specs.DocumentTerms.{Recorded, Posting, positions_of, if_occurs, term_option, recorded_in, listed, postings_from, postings_of, if_any, terms_of, field_terms, all_terms}
use Rattle.seg_model.specs.Contents.{Contents, terms_at}
use Rattle.seg_model.specs.Join.{Part, live_of, recorded_at, all_recorded, term_column, joined_postings, joined_terms}
use Rattle.seg_model.specs.Laws.{IsReadingOf, AreReadingsOf}
use Rattle.seg_common.proofs.TabulatedMaps.{texts_apart, first_false, second_false, IsComplete, get-tabulated, same_table}
use Rattle.seg_model.proofs.Fields.{at_place, each_place}
use Rattle.seg_model.proofs.LiveParts.{was_read, live_of-map}

-- ---- where nothing is recorded there is no posting

abbrev pub AreNone : List (Option Recorded) → Type 0
AreNone [] = Unit {0}
AreNone (r ∷ rs) = (r ≡ None) × AreNone rs

pub AreNone-append : (xs ys : List (Option Recorded)) → AreNone xs → AreNone ys → AreNone (xs ++ ys)
AreNone-append [] ys h k = k
AreNone-append (x ∷ xs) ys h k = (h.0, AreNone-append xs ys h.1 k)

pub AreNone-kept : (bs : List Bool) (xs : List (Option Recorded)) → AreNone xs → AreNone (kept bs xs)
AreNone-kept [] xs h = tt
AreNone-kept (b ∷ bs) [] h = tt
AreNone-kept (true ∷ bs) (x ∷ xs) h = (h.0, AreNone-kept bs xs h.1)
AreNone-kept (false ∷ bs) (x ∷ xs) h = AreNone-kept bs xs h.1

pub AreNone-all_recorded : (i n : ℕ) → AreNone (all_recorded i n [])
AreNone-all_recorded i zero = tt
AreNone-all_recorded i (suc n) = (refl, AreNone-all_recorded (i + 1) n)

pub postings_from-none : (n : ℕ) (rs : List (Option Recorded)) → AreNone rs → postings_from n rs ≡ []
postings_from-none n [] h = refl
postings_from-none n (r ∷ rs) h = ap (λ l. listed n l ++ postings_from (n + 1) rs) h.0 ∙ postings_from-none (n + 1) rs h.1

-- ---- postings give back what each document records

abbrev AreFrom : ℕ → List Posting → Type 0
AreFrom d [] = Unit {0}
AreFrom d (p ∷ ps) = (d ≤ p.document) × AreFrom d ps

abbrev AreBefore : ℕ → List Posting → Type 0
AreBefore d [] = Unit {0}
AreBefore d (p ∷ ps) = (p.document < d) × AreBefore d ps

AreFrom-listed : (m n : ℕ) (r : Option Recorded) (rest : List Posting) → m ≤ n → AreFrom m rest → AreFrom m (listed n r ++ rest)
AreFrom-listed m n None rest le h = h
AreFrom-listed m n (Some r) rest le h = (le, h)

AreFrom-postings_from : (m n : ℕ) (rs : List (Option Recorded)) → m ≤ n → AreFrom m (postings_from n rs)
AreFrom-postings_from m n [] le = tt
AreFrom-postings_from m n (r ∷ rs) le = AreFrom-listed m n r _ le (AreFrom-postings_from m (n + 1) rs (omega arith))

recorded_at-later : (d : ℕ) (ps : List Posting) → AreFrom (d + 1) ps → recorded_at d ps ≡ None
recorded_at-later d [] h = refl
recorded_at-later d (p ∷ ps) h = let le : d + 1 ≤ p.document = h.0 in grind (arith, nat_tests, recorded_at-later d ps h.1)

recorded_at-past : (d : ℕ) (xs ys : List Posting) → AreBefore d xs → recorded_at d (xs ++ ys) ≡ recorded_at d ys
recorded_at-past d [] ys h = refl
recorded_at-past d (x ∷ xs) ys h = let lt : x.document < d = h.0 in grind (arith, nat_tests, recorded_at-past d xs ys h.1)

recorded_at-listed : (d : ℕ) (r : Option Recorded) (rest : List Posting) → AreFrom (d + 1) rest → recorded_at d (listed d r ++ rest) ≡ r
recorded_at-listed d None rest h = recorded_at-later d rest h
recorded_at-listed d (Some r) rest h = grind (arith, nat_tests)

AreBefore-listed : (d : ℕ) (xs : List Posting) (r : Option Recorded) → AreBefore d xs → AreBefore (d + 1) (xs ++ listed d r)
AreBefore-listed d [] None h = tt
AreBefore-listed d [] (Some r) h = (omega arith, tt)
AreBefore-listed d (x ∷ xs) r h = (omega (arith, h.0), AreBefore-listed d xs r h.1)

all_recorded-past : (n : ℕ) (xs : List Posting) (rs : List (Option Recorded)) → AreBefore n xs → all_recorded n (length rs) (xs ++ postings_from n rs) ≡ rs
all_recorded-past n xs [] h = refl
all_recorded-past n xs (r ∷ rs) h =
    ap (λ l. l ∷ all_recorded (n + 1) (length rs) (xs ++ (listed n r ++ postings_from (n + 1) rs)))
    (recorded_at-past n xs _ h ∙ recorded_at-listed n r _ (AreFrom-postings_from (n + 1) (n + 1) rs (omega arith)))
    ∙ ap (λ l. r ∷ l) (ap (all_recorded (n + 1) (length rs)) (sym (append_assoc xs (listed n r) (postings_from (n + 1) rs)))
    ∙ all_recorded-past (n + 1) (xs ++ listed n r) rs (AreBefore-listed n xs r h))

pub all_recorded-postings_from : (rs : List (Option Recorded)) → all_recorded 0 (length rs) (postings_from 0 rs) ≡ rs
all_recorded-postings_from rs = all_recorded-past 0 [] rs tt

pub unwrap_if_any : (ps : List Posting) → unwrap_or (if_any ps) [] ≡ ps
unwrap_if_any [] = refl
unwrap_if_any (p ∷ ps) = refl

-- ---- the terms of documents

positions_of-none : (q : List ℕ) (os : List Occurrence) → is_among (slice_cmp nat_cmp) (map (λ o. o.bytes) os) q ≡ false → positions_of q os ≡ []
positions_of-none q [] h = refl
positions_of-none q (o ∷ os) h =
    let here : bytes_eq q o.bytes ≡ false = sym (is_eq-slice_cmp q o.bytes) ∙ first_false (eq_by_cmp (slice_cmp nat_cmp) q o.bytes) _ h in
    ap (λ b. map (λ (x : Occurrence). x.position) (cond b (o ∷ filter (λ x. bytes_eq q x.bytes) os) (filter (λ x. bytes_eq q x.bytes) os))) here
    ∙ positions_of-none q os (second_false (eq_by_cmp (slice_cmp nat_cmp) q o.bytes) _ h)

module _ (e : FieldEntry) (q : List ℕ) where
  AreNone-documents : (ds : List (List Occurrence)) → is_among (slice_cmp nat_cmp) (flat_map (map (λ o. o.bytes)) ds) q ≡ false → AreNone (map (recorded_in e q) ds)
  AreNone-documents [] h = tt
  AreNone-documents (d ∷ ds) h =
      let both = sym (list_any-append (eq_by_cmp (slice_cmp nat_cmp) q) (map (λ (o : Occurrence). o.bytes) d) (flat_map (map (λ o. o.bytes)) ds)) ∙ h in
      (ap (if_occurs (term_option e q)) (positions_of-none q d (first_false (is_among (slice_cmp nat_cmp) (map (λ o. o.bytes) d) q) _ both)), AreNone-documents ds (second_false (is_among (slice_cmp nat_cmp) (map (λ o. o.bytes) d) q) _ both))

pub complete_terms : (e : FieldEntry) (ds : List (List Occurrence)) → IsComplete nat_list_cmp_total texts_apart (λ t. if_any (postings_of e t ds)) (flat_map (map (λ o. o.bytes)) ds)
complete_terms e ds = record { outside = λ q h. ap if_any (postings_from-none 0 (map (recorded_in e q) ds) (AreNone-documents e q ds h)) }

-- what the terms of documents have at some bytes
pub get-terms_of : (e : FieldEntry) (ds : List (List Occurrence)) (q : List ℕ) → get (terms_of e ds) q ≡ if_any (postings_of e q ds)
get-terms_of e ds q = get-tabulated nat_list_cmp_total texts_apart _ _ (complete_terms e ds) q

-- ---- joined

none_there : (o : Option (List Posting)) → is_some o ≡ false → unwrap_or o [] ≡ []
none_there None e = refl
none_there (Some x) e = absurd (true≢false e)

module _ (i : ℕ) (q : List ℕ) where
  pub AreNone-parts : (ps : List Part) → is_among (slice_cmp nat_cmp) (flat_map (λ p. keys (terms_at p.contents i)) ps) q ≡ false → AreNone (live_of (term_column i q) ps)
  AreNone-parts [] h = tt
  AreNone-parts (p ∷ ps) h =
      let both = sym (list_any-append (eq_by_cmp (slice_cmp nat_cmp) q) (keys (terms_at p.contents i)) (flat_map (λ p. keys (terms_at p.contents i)) ps)) ∙ h in
      let none : unwrap_or (get (terms_at p.contents i) q) [] ≡ [] = none_there (get (terms_at p.contents i) q) (contains_key-keys (terms_at p.contents i) q ∙ first_false (is_among (slice_cmp nat_cmp) (keys (terms_at p.contents i)) q) _ both) in
      let P : List Posting → Type 0 = λ l. AreNone (kept p.alive (all_recorded 0 p.contents.documents l)) in
      AreNone-append _ _ (subst P (sym none) (AreNone-kept p.alive _ (AreNone-all_recorded 0 p.contents.documents)))
      (AreNone-parts ps (second_false (is_among (slice_cmp nat_cmp) (keys (terms_at p.contents i)) q) _ both))

pub complete_joined : (i : ℕ) (ps : List Part) → IsComplete nat_list_cmp_total texts_apart (λ t. if_any (joined_postings ps i t)) (flat_map (λ p. keys (terms_at p.contents i)) ps)
complete_joined i ps = record { outside = λ q h. ap if_any (postings_from-none 0 (live_of (term_column i q) ps) (AreNone-parts i q ps h)) }

module _ (schema : Schema) (analyzer : Analyzer) where
  module _ (i : ℕ) (e : FieldEntry) (at : slice_get schema i ≡ Some e) where
    term_column_read : (q : List ℕ) (b : Batch) (p : Part) → IsReadingOf schema analyzer b p → term_column i q p ≡ map (λ d. recorded_in e q (occurrences schema analyzer d i)) b.documents
    term_column_read q b p r =
        let ds = map (λ d. occurrences schema analyzer d i) b.documents in
        let as_read : term_column i q p ≡ all_recorded 0 (length b.documents) (unwrap_or (get (slice_index_or (all_terms schema analyzer b.documents) i empty) q) []) = ap (λ (c : Contents). all_recorded 0 c.documents (unwrap_or (get (terms_at c i) q) [])) (was_read schema analyzer b.documents p.contents r.contents).is_reading in
        as_read
        ∙ ap (λ t. all_recorded 0 (length b.documents) (unwrap_or (get t q) [])) (at_place (field_terms schema analyzer b.documents) empty i schema e at)
        ∙ ap (λ o. all_recorded 0 (length b.documents) (unwrap_or o [])) (get-terms_of e ds q)
        ∙ ap (all_recorded 0 (length b.documents)) (unwrap_if_any (postings_of e q ds))
        ∙ ap (λ n. all_recorded 0 n (postings_of e q ds)) (sym (length-map ds (recorded_in e q) ∙ length-map b.documents (λ d. occurrences schema analyzer d i)))
        ∙ all_recorded-postings_from (map (recorded_in e q) ds)
        ∙ map-map (recorded_in e q) (λ d. occurrences schema analyzer d i) b.documents

    terms_of_field : (bs : List Batch) (ps : List Part) → AreReadingsOf schema analyzer bs ps → joined_terms ps (i, e) ≡ field_terms schema analyzer (flat_map live bs) (i, e)
    terms_of_field bs ps all =
        same_table nat_list_cmp_total texts_apart (λ t. if_any (joined_postings ps i t)) (λ t. if_any (postings_of e t (map (λ d. occurrences schema analyzer d i) (flat_map live bs)))) _ _
        (complete_joined i ps) (complete_terms e (map (λ d. occurrences schema analyzer d i) (flat_map live bs)))
        (λ q. ap (λ rs. if_any (postings_from 0 rs)) (live_of-map schema analyzer (term_column i q) (λ d. recorded_in e q (occurrences schema analyzer d i)) (term_column_read q) bs ps all ∙ sym (map-map (recorded_in e q) (λ d. occurrences schema analyzer d i) (flat_map live bs))))

  pub terms_live : (bs : List Batch) (ps : List Part) → AreReadingsOf schema analyzer bs ps → map (joined_terms ps) (fields schema) ≡ all_terms schema analyzer (flat_map live bs)
  terms_live bs ps all = each_place (joined_terms ps) (field_terms schema analyzer (flat_map live bs)) schema (λ i e at. terms_of_field i e at bs ps all)
