-- The parts that fit a schema are those of the ids that they have.
use Rattle.std.proofs.Common.{◌≡◌, ◌≢◌, ℕ, zero, suc, ◌+◌, ◌<◌, ◌≤◌, List, [], ◌∷◌, ◌++◌, length, map, drop, get_or, refl, sym, ap, ◌∙◌, subst, arith, slice_get, Option, Some, None, Bool, true, false, true≢false}
use Rattle.std.specs.Prelude.{if◌then◌else◌, unwrap_or, MatchBool, IsTrue, IsFalse}
use Rattle.std.specs.List.{enumerate_from, flat_map, slice_index_or}
use Rattle.std.proofs.lemmas.Bool.{ne_eqb, eq-eqb}
use Rattle.std.proofs.lemmas.List.{length-map}
use Rattle.std.proofs.lemmas.List.FromFn.{length-enumerate_from}
use Rattle.std.proofs.lemmas.Option.{none-some, same_Some, slice_get_within}
use Rattle.seg_values.specs.declared.schema.FieldEntry.{FieldEntry}
use Rattle.seg_model.specs.Fields.{Schema, has_lengths, fields}
use Rattle.seg_directory.specs.CompositeFiles.{Part, field_of}
use Rattle.seg_norms.specs.FieldNorms.{norms_parts}
use Rattle.seg_norms.specs.StoredNorms.{lengths_of_parts, lengths_for, norms_of, AreIds, HaveIds, AreNorms, HoldNorms}
use Rattle.seg_norms.proofs.PartIds.{field_ids}

-- the fields with lengths among some, the first of which is numbered
abbrev selected : ℕ → List FieldEntry → List ℕ
selected n es = flat_map (λ f. if has_lengths f.1 then f.0 ∷ [] else []) (enumerate_from n es)

-- the ids of a field
abbrev ids_in : List Part → ℕ → List ℕ
ids_in parts field = unwrap_or (field_of parts field) []

-- a part for each field with lengths, of this many ids
data Along (documents : ℕ) : ℕ → List FieldEntry → List Part → Type 0 where
  no_field : (n : ℕ) → Along documents n [] []
  a_part : (n : ℕ) (e : FieldEntry) (es : List FieldEntry) (p : Part) (ps : List Part) → has_lengths e ≡ true → p.0 ≡ n → length p.1 ≡ documents → Along documents (n + 1) es ps → Along documents n (e ∷ es) (p ∷ ps)
  no_part : (n : ℕ) (e : FieldEntry) (es : List FieldEntry) (ps : List Part) → has_lengths e ≡ false → Along documents (n + 1) es ps → Along documents n (e ∷ es) ps

module _ (documents : ℕ) where
  along_one : (n : ℕ) (e : FieldEntry) (es : List FieldEntry) → ((qs : List Part) → lengths_of_parts qs ≡ map (λ f. (f, documents)) (selected (n + 1) es) → Along documents (n + 1) es qs)
      → (ps : List Part) (test : Bool) → has_lengths e ≡ test → lengths_of_parts ps ≡ map (λ f. (f, documents)) ((if test then n ∷ [] else []) ++ selected (n + 1) es) → Along documents n (e ∷ es) ps
  along_one n e es rest [] true has h = absurd (omega (arith, ap length h))
  along_one n e es rest (p ∷ ps) true has h =
      let first : (p.0, length p.1) ≡ (n, documents) = ap (λ (qs : List (ℕ × ℕ)). get_or qs 0 (0, 0)) h in
      a_part n e es p ps has (ap (λ (q : ℕ × ℕ). q.0) first) (ap (λ (q : ℕ × ℕ). q.1) first) (rest ps (ap (λ (qs : List (ℕ × ℕ)). drop 1 qs) h))
  along_one n e es rest ps false has h = no_part n e es ps has (rest ps h)

  along : (n : ℕ) (es : List FieldEntry) (ps : List Part) → lengths_of_parts ps ≡ map (λ f. (f, documents)) (selected n es) → Along documents n es ps
  along n [] [] h = no_field n
  along n [] (p ∷ ps) h = absurd (omega (arith, ap length h))
  along n (e ∷ es) ps h = along_one n e es (λ qs. along (n + 1) es qs) ps (has_lengths e) refl h

  -- no part is of a field before the first
  above : (n : ℕ) (es : List FieldEntry) (ps : List Part) → Along documents n es ps → (field : ℕ) → field < n → field_of ps field ≡ None
  above n es ps (no_field _) field lt = refl
  above n es ps (a_part _ e es' p ps' has at len rest) field lt =
      let other : p.0 ≢ field = λ same. omega (arith, same, at, lt) in
      rw (ne_eqb p.0 field other) (above (n + 1) es' ps' rest field (omega (arith, lt)))
  above n es ps (no_part _ e es' _ has rest) field lt = above (n + 1) es' ps rest field (omega (arith, lt))

  -- a field after the first
  behind : (n i : ℕ) (p : Part) (ps : List Part) → p.0 ≡ n → field_of (p ∷ ps) (n + suc i) ≡ field_of ps (n + 1 + i)
  behind n i p ps at =
      let other : p.0 ≢ n + suc i = λ same. omega (arith, same, at) in
      let e : n + suc i ≡ n + 1 + i = omega arith in
      rw (ne_eqb p.0 (n + suc i) other) (ap (field_of ps) e)

  first : (n : ℕ) (p : Part) (ps : List Part) → p.0 ≡ n → field_of (p ∷ ps) n ≡ Some p.1
  first n p ps at = rw (eq-eqb p.0 n at) refl

  has_ids : (n : ℕ) (es : List FieldEntry) (ps : List Part) → Along documents n es ps → (i : ℕ) (e : FieldEntry) → slice_get es i ≡ Some e → has_lengths e ≡ true → length (ids_in ps (n + i)) ≡ documents
  has_ids n es ps (no_field _) i e at on = absurd (none-some e at)
  has_ids n es ps (a_part _ x es' p ps' has field len rest) zero e at on =
      let here : p.0 ≡ n + 0 = omega (arith, field) in
      ap (λ (o : Option (List ℕ)). length (unwrap_or o [])) (first (n + 0) p ps' here) ∙ len
  has_ids n es ps (a_part _ x es' p ps' has field len rest) (suc i) e at on =
      ap (λ (o : Option (List ℕ)). length (unwrap_or o [])) (behind n i p ps' field) ∙ has_ids (n + 1) es' ps' rest i e at on
  has_ids n es ps (no_part _ x es' _ has rest) zero e at on = absurd (true≢false (sym on ∙ ap has_lengths (sym (same_Some x e at)) ∙ has))
  has_ids n es ps (no_part _ x es' _ has rest) (suc i) e at on =
      let next : n + suc i ≡ n + 1 + i = omega arith in
      ap (λ (k : ℕ). length (ids_in ps k)) next ∙ has_ids (n + 1) es' ps rest i e at on

  lacks_ids : (n : ℕ) (es : List FieldEntry) (ps : List Part) → Along documents n es ps → (i : ℕ) (e : FieldEntry) → slice_get es i ≡ Some e → has_lengths e ≡ false → ids_in ps (n + i) ≡ []
  lacks_ids n es ps (no_field _) i e at off = absurd (none-some e at)
  lacks_ids n es ps (a_part _ x es' p ps' has field len rest) zero e at off = absurd (true≢false (sym has ∙ ap has_lengths (same_Some x e at) ∙ off))
  lacks_ids n es ps (a_part _ x es' p ps' has field len rest) (suc i) e at off =
      ap (λ (o : Option (List ℕ)). unwrap_or o []) (behind n i p ps' field) ∙ lacks_ids (n + 1) es' ps' rest i e at off
  lacks_ids n es ps (no_part _ x es' _ has rest) zero e at off =
      ap (λ (o : Option (List ℕ)). unwrap_or o []) (above (n + 1) es' ps rest (n + 0) (omega arith))
  lacks_ids n es ps (no_part _ x es' _ has rest) (suc i) e at off =
      let next : n + suc i ≡ n + 1 + i = omega arith in
      ap (ids_in ps) next ∙ lacks_ids (n + 1) es' ps rest i e at off

-- what is the same of each selected field
module _ (F G : ℕ → Part) where
  same_one : (n : ℕ) (rest : List ℕ) (test : Bool) → F n ≡ G n → map F rest ≡ map G rest → map F ((if test then n ∷ [] else []) ++ rest) ≡ map G ((if test then n ∷ [] else []) ++ rest)
  same_one n rest true one others = λ i. one i ∷ others i
  same_one n rest false one others = others

  same_selected : (n : ℕ) (es : List FieldEntry) → ((field : ℕ) → n ≤ field → field < n + length es → F field ≡ G field) → map F (selected n es) ≡ map G (selected n es)
  same_selected n [] each = refl
  same_selected n (e ∷ es) each = same_one n (selected (n + 1) es) (has_lengths e) (each n (omega arith) (omega arith)) (same_selected (n + 1) es (λ field low high. each field (omega (arith, low)) (omega (arith, high))))

-- the parts, by their ids
are_parts : (documents n : ℕ) (es : List FieldEntry) (ps : List Part) → Along documents n es ps → map (λ f. (f, ids_in ps f)) (selected n es) ≡ ps
are_parts documents n es ps (no_field _) = refl
are_parts documents n es ps (a_part _ e es' p ps' has at len rest) =
    let mine : (n, ids_in (p ∷ ps') n) ≡ p = λ i. (sym at i, unwrap_or (first documents n p ps' at i) []) in
    let others : map (λ f. (f, ids_in (p ∷ ps') f)) (selected (n + 1) es') ≡ ps' =
    same_selected (λ f. (f, ids_in (p ∷ ps') f)) (λ f. (f, ids_in ps' f)) (n + 1) es' (λ field low high. let other : p.0 ≢ field = λ same. omega (arith, same, at, low) in rw (ne_eqb p.0 field other) refl)
    ∙ are_parts documents (n + 1) es' ps' rest in
    ap (λ (test : Bool). map (λ f. (f, ids_in (p ∷ ps') f)) ((if test then n ∷ [] else []) ++ selected (n + 1) es')) has ∙ (λ i. mine i ∷ others i)
are_parts documents n es ps (no_part _ e es' _ has rest) =
    ap (λ (test : Bool). map (λ f. (f, ids_in ps f)) ((if test then n ∷ [] else []) ++ selected (n + 1) es')) has ∙ are_parts documents (n + 1) es' ps rest

-- the ids of a field, at its place
ids_at : (parts : List Part) (n : ℕ) (es : List FieldEntry) (i : ℕ) → i < length es → slice_index_or (map (λ f. ids_in parts f.0) (enumerate_from n es)) i [] ≡ ids_in parts (n + i)
ids_at parts n [] i lt = absurd (omega (arith, lt))
ids_at parts n (e ∷ es) zero lt = let k : n ≡ n + 0 = omega arith in ap (ids_in parts) k
ids_at parts n (e ∷ es) (suc i) lt = let k : n + 1 + i ≡ n + suc i = omega arith in ids_at parts (n + 1) es i (omega (arith, lt)) ∙ ap (ids_in parts) k

pub are_norms : (schema : Schema) (documents : ℕ) (parts : List Part) → HaveIds parts → lengths_of_parts parts ≡ lengths_for schema documents → HoldNorms schema documents parts (norms_of schema parts)
are_norms schema documents parts have h =
    let a = along documents 0 schema parts h in
    let each : (field : ℕ) → field < length schema → slice_index_or (norms_of schema parts) field [] ≡ ids_in parts field =
    λ field lt. let k : 0 + field ≡ field = omega arith in ids_at parts 0 schema field lt ∙ ap (ids_in parts) k in
    record {
      are = record {
        per_field = length-map (fields schema) (λ f. unwrap_or (field_of parts f.0) []) ∙ length-enumerate_from 0 schema;
        norms_are = λ field entry at on.
            let k : 0 + field ≡ field = omega arith in
            (ap length (each field (slice_get_within schema field entry at)) ∙ subst (λ (n : ℕ). length (ids_in parts n) ≡ documents) k (has_ids documents 0 schema parts a field entry at on), subst AreIds (sym (each field (slice_get_within schema field entry at))) (field_ids parts have field));
        no_norms = λ field entry at off.
            let k : 0 + field ≡ field = omega arith in
            each field (slice_get_within schema field entry at) ∙ subst (λ (n : ℕ). ids_in parts n ≡ []) k (lacks_ids documents 0 schema parts a field entry at off);
      };
      parts_are = sym (are_parts documents 0 schema parts a) ∙ same_selected (λ f. (f, ids_in parts f)) (λ f. (f, slice_index_or (norms_of schema parts) f [])) 0 schema (λ field low high. λ i. (field, sym (each field (omega (arith, high))) i));
      each = each;
    }

-- where it was told whether they fit
pub fitting_norms : (schema : Schema) (documents : ℕ) (parts : List Part) (result : Bool) → HaveIds parts → MatchBool result (lengths_of_parts parts ≡ lengths_for schema documents) (lengths_of_parts parts ≢ lengths_for schema documents) → IsTrue result → HoldNorms schema documents parts (norms_of schema parts)
fitting_norms schema documents parts true have same is = are_norms schema documents parts have same
fitting_norms schema documents parts false have other is = absurd (true≢false (sym is))

-- ---- ids that would fit, where the parts don't

module _ (F G : ℕ → ℕ × ℕ) where
  one_same : (n : ℕ) (rest : List ℕ) (test : Bool) → (test ≡ true → F n ≡ G n) → map F rest ≡ map G rest → map F ((if test then n ∷ [] else []) ++ rest) ≡ map G ((if test then n ∷ [] else []) ++ rest)
  one_same n rest true one others = λ i. one refl i ∷ others i
  one_same n rest false one others = others

  all_same : (n : ℕ) (es : List FieldEntry) → ((i : ℕ) (e : FieldEntry) → slice_get es i ≡ Some e → has_lengths e ≡ true → F (n + i) ≡ G (n + i)) → map F (selected n es) ≡ map G (selected n es)
  all_same n [] each = refl
  all_same n (e ∷ es) each =
      let here : n + 0 ≡ n = omega arith in
      one_same n (selected (n + 1) es) (has_lengths e) (λ has. subst (λ (k : ℕ). F k ≡ G k) here (each 0 e refl has))
      (all_same (n + 1) es (λ i x at has. let next : n + suc i ≡ n + 1 + i = omega arith in subst (λ (k : ℕ). F k ≡ G k) next (each (suc i) x at has)))

lengths_by : (norms : List (List ℕ)) (fields : List ℕ) → lengths_of_parts (map (λ f. (f, slice_index_or norms f [])) fields) ≡ map (λ f. (f, length (slice_index_or norms f []))) fields
lengths_by norms [] = refl
lengths_by norms (f ∷ fs) = ap (λ xs. (f, length (slice_index_or norms f [])) ∷ xs) (lengths_by norms fs)

wanted_lengths : (schema : Schema) (documents : ℕ) (norms : List (List ℕ)) → AreNorms schema documents norms → lengths_of_parts (norms_parts schema norms) ≡ lengths_for schema documents
wanted_lengths schema documents norms are =
    lengths_by norms (selected 0 schema)
    ∙ all_same (λ f. (f, length (slice_index_or norms f []))) (λ f. (f, documents)) 0 schema (λ i e at has.
    let k : 0 + i ≡ i = omega arith in
    let same : length (slice_index_or norms (0 + i) []) ≡ documents = subst (λ (n : ℕ). length (slice_index_or norms n []) ≡ documents) (sym k) (are.norms_are i e at has).0 in
    λ j. (0 + i, same j))

pub other_norms : (schema : Schema) (documents : ℕ) (parts : List Part) (result : Bool) → MatchBool result (lengths_of_parts parts ≡ lengths_for schema documents) (lengths_of_parts parts ≢ lengths_for schema documents) → IsFalse result → (norms : List (List ℕ)) → AreNorms schema documents norms → parts ≢ norms_parts schema norms
other_norms schema documents parts true same is = absurd (true≢false is)
other_norms schema documents parts false other is = λ norms are same. other (ap lengths_of_parts same ∙ wanted_lengths schema documents norms are)
