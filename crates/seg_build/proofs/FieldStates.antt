-- One field of a schema while the values of a document come.
use Rattle.std.proofs.Common.{◌≡◌, ◌≢◌, ℕ, zero, suc, ◌+◌, ◌≤◌, true, false, cond, List, [], ◌∷◌, ◌++◌, map, Some, None, Option, set, sym, refl, ap, ◌∙◌, arith, inl, inr, ◌⊎◌, eq-eqb}
use Rattle.std.specs.Prelude.{nat_eq, is_some}
use Rattle.std.specs.List.{slice_get}
use Rattle.std.proofs.lemmas.Bool.{false≢true}
use Rattle.std.proofs.lemmas.Bool.Decides.{eqb_tells}
use Rattle.seg_values.specs.declared.schema.FieldEntry.{FieldEntry}
use Rattle.seg_values.specs.Tree.{Tree, Document}
use Rattle.seg_model.specs.Fields.{Schema, Analyzer, values_of}
use Rattle.seg_terms.specs.AddedOccurrences.{with_occurrences}
use Rattle.seg_check.specs.IndexedValues.{IndexedContent, tokens, leaves, terms, content_of, content_at}
use Rattle.seg_build.specs.AddedValues.{occurrences_in, next_starts, length_in, start_of, length_of, starts_with, added}
use Rattle.seg_build.specs.PathStarts.{path_start}
use Rattle.seg_build.specs.FieldsByValue.{added_at, with_pair, with_pairs}
use Rattle.seg_build.specs.FieldState.{FieldSoFar}
use Rattle.seg_build.proofs.FieldContents.{occurrences_from, start_after_values, length_of_values}
use Rattle.seg_build.proofs.GrownTerms.{with_occurrences-append}
use Rattle.seg_build.proofs.IndexedParts.{values-own, values-other}
use Rattle.seg_build.proofs.KeptStarts.{AreStamped, path_start-kept, stamped-kept}

-- ---- elements of lists

pub slice_get-set_same : {X : Type 0} (xs : List X) (i : ℕ) (x v : X) → slice_get xs i ≡ Some x → slice_get (set xs i v) i ≡ Some v
slice_get-set_same [] i x v at = absurd (false≢true (ap is_some at))
slice_get-set_same (y ∷ ys) zero x v at = refl
slice_get-set_same (y ∷ ys) (suc i) x v at = slice_get-set_same ys i x v at

pub slice_get-set_other : {X : Type 0} (xs : List X) (i k : ℕ) (v : X) → k ≢ i → slice_get (set xs i v) k ≡ slice_get xs k
slice_get-set_other [] i k v ne = refl
slice_get-set_other (y ∷ ys) zero zero v ne = absurd (ne refl)
slice_get-set_other (y ∷ ys) zero (suc k) v ne = refl
slice_get-set_other (y ∷ ys) (suc i) zero v ne = refl
slice_get-set_other (y ∷ ys) (suc i) (suc k) v ne = slice_get-set_other ys i k v (λ e. ne (ap suc e))

-- ---- values one after another

-- a field with some more values of a document
abbrev pub added_all : ℕ → FieldSoFar → List IndexedContent → FieldSoFar
added_all id field [] = field
added_all id field (v ∷ vs) = added_all id (added id field v) vs

pub start_of-added : (id : ℕ) (field : FieldSoFar) (v : IndexedContent) → start_of id (added id field v) ≡ next_starts (start_of id field) v
start_of-added id field v =
    let here = ap (λ b. cond b (next_starts (start_of id field) v).here 0) (eq-eqb id id refl) in
    λ i. record { here = here i; at = at v i }
  where
    at : (v : IndexedContent) → path_start id (starts_with id field.starts v) ≡ (next_starts (start_of id field) v).at
    at (tokens ts) = refl
    at (leaves ls) = λ i path. path_start-kept id field.starts ls path i
    at (terms ts) = refl

pub length_of-added : (id : ℕ) (field : FieldSoFar) (v : IndexedContent) → length_of id (added id field v) ≡ length_of id field + length_in v
length_of-added id field v = ap (λ b. cond b (length_of id field + length_in v) 0) (eq-eqb id id refl)

pub start_of-added_all : (id : ℕ) (field : FieldSoFar) (vs : List IndexedContent) → start_of id (added_all id field vs) ≡ start_after_values (start_of id field) vs
start_of-added_all id field [] = refl
start_of-added_all id field (v ∷ vs) =
    start_of-added_all id (added id field v) vs ∙ ap (λ s. start_after_values s vs) (start_of-added id field v)

pub length_of-added_all : (id : ℕ) (field : FieldSoFar) (vs : List IndexedContent) → length_of id (added_all id field vs) ≡ length_of id field + length_of_values vs
length_of-added_all id field [] = omega arith
length_of-added_all id field (v ∷ vs) = omega (arith, length_of-added_all id (added id field v) vs, length_of-added id field v)

pub terms-added_all : (id : ℕ) (field : FieldSoFar) (vs : List IndexedContent) → (added_all id field vs).terms ≡ with_occurrences field.terms id (occurrences_from (start_of id field) vs)
terms-added_all id field [] = refl
terms-added_all id field (v ∷ vs) =
    terms-added_all id (added id field v) vs
    ∙ ap (λ s. with_occurrences (added id field v).terms id (occurrences_from s vs)) (start_of-added id field v)
    ∙ sym (with_occurrences-append field.terms id (occurrences_in (start_of id field) v) (occurrences_from (next_starts (start_of id field) v) vs))

pub document-added_all : (id : ℕ) (field : FieldSoFar) (vs : List IndexedContent) → field.document ≤ id → (added_all id field vs).document ≤ id
document-added_all id field [] le = le
document-added_all id field (v ∷ vs) le = document-added_all id (added id field v) vs (omega arith)

pub stamped-added_all : (id : ℕ) (field : FieldSoFar) (vs : List IndexedContent) → AreStamped id field.starts → AreStamped id (added_all id field vs).starts
stamped-added_all id field [] stamped = stamped
stamped-added_all id field (v ∷ vs) stamped = stamped-added_all id (added id field v) vs (by v)
  where
    by : (v : IndexedContent) → AreStamped id (starts_with id field.starts v)
    by (tokens ts) = stamped
    by (leaves ls) = stamped-kept id field.starts ls stamped
    by (terms ts) = stamped

-- ---- the values of a field

module _ (analyzer : Analyzer) (e : FieldEntry) (k : ℕ) where
  -- what the values of a field in a document give
  abbrev pub contents_of : Document → List IndexedContent
  contents_of ps = map (content_of analyzer e) (values_of k ps)

  pub contents_of-taken : (p : ℕ × Tree) (ps : Document) → nat_eq k p.0 ≡ true → contents_of (p ∷ ps) ≡ content_of analyzer e p.1 ∷ contents_of ps
  contents_of-taken p ps is = ap (map (content_of analyzer e)) (values-own k p ps is)

  pub contents_of-passed : (p : ℕ × Tree) (ps : Document) → nat_eq k p.0 ≡ false → contents_of (p ∷ ps) ≡ contents_of ps
  contents_of-passed p ps is = ap (map (content_of analyzer e)) (values-other k p ps is)

  pub contents_of-append : (xs ys : Document) → contents_of (xs ++ ys) ≡ contents_of xs ++ contents_of ys
  contents_of-append [] ys = refl
  contents_of-append (x ∷ xs) ys = elim (eqb_tells k x.0) [
    | inl h ↦
        contents_of-taken x (xs ++ ys) h.0
        ∙ ap (λ vs. content_of analyzer e x.1 ∷ vs) (contents_of-append xs ys)
        ∙ sym (ap (λ vs. vs ++ contents_of ys) (contents_of-taken x xs h.0))
    | inr h ↦ contents_of-passed x (xs ++ ys) h.0 ∙ contents_of-append xs ys ∙ sym (ap (λ vs. vs ++ contents_of ys) (contents_of-passed x xs h.0))
  ]

-- ---- a value, and its field or another

module _ (schema : Schema) (analyzer : Analyzer) (id : ℕ) (k : ℕ) (e : FieldEntry) (at_e : slice_get schema k ≡ Some e) where
  -- a value of the field
  pub record IsOwn (fields : List FieldSoFar) (field : FieldSoFar) (p : ℕ × Tree) : Type 0 where
    pub place : k ≡ p.0
    pub is : nat_eq k p.0 ≡ true
    pub at : slice_get (with_pair schema analyzer id fields p) k ≡ Some (added id field (content_of analyzer e p.1))

  -- a value of another field
  pub record IsOthers (fields : List FieldSoFar) (field : FieldSoFar) (p : ℕ × Tree) : Type 0 where
    pub is : nat_eq k p.0 ≡ false
    pub at : slice_get (with_pair schema analyzer id fields p) k ≡ Some field

  pub whose : (fields : List FieldSoFar) (field : FieldSoFar) (p : ℕ × Tree) → slice_get fields k ≡ Some field → IsOwn fields field p ⊎ IsOthers fields field p
  whose fields field p at = elim (eqb_tells k p.0) [ inl h ↦ inl (own h.0 h.1) | inr h ↦ inr (record { is = h.0; at = other h.1 (slice_get fields p.0) ∙ at }) ]
    where
      other : k ≢ p.0 → (o : Option FieldSoFar) → slice_get (added_at id p.0 fields (content_at analyzer p.1 (slice_get schema p.0)) o) k ≡ slice_get fields k
      other ne None = refl
      other ne (Some f) = slice_get-set_other fields p.0 k _ ne

      own : nat_eq k p.0 ≡ true → k ≡ p.0 → IsOwn fields field p
      own is same = record {
        place = same;
        is = is;
        at = ap (λ n. slice_get (added_at id n fields (content_at analyzer p.1 (slice_get schema n)) (slice_get fields n)) k) (sym same)
            ∙ ap (λ o. slice_get (added_at id k fields (content_at analyzer p.1 o) (slice_get fields k)) k) at_e
            ∙ ap (λ o. slice_get (added_at id k fields (content_at analyzer p.1 (Some e)) o) k) at
            ∙ slice_get-set_same fields k field _ at;
      }

  -- the field after some values
  pub field_after : (fields : List FieldSoFar) (field : FieldSoFar) (ps : Document) → slice_get fields k ≡ Some field → slice_get (with_pairs schema analyzer id fields ps) k ≡ Some (added_all id field (contents_of analyzer e k ps))
  field_after fields field [] at = at
  field_after fields field (p ∷ ps) at = elim (whose fields field p at) [
    | inl h ↦ field_after (with_pair schema analyzer id fields p) (added id field (content_of analyzer e p.1)) ps h.at ∙ ap (λ vs. Some (added_all id field vs)) (sym (contents_of-taken analyzer e k p ps h.is))
    | inr h ↦ field_after (with_pair schema analyzer id fields p) field ps h.at ∙ ap (λ vs. Some (added_all id field vs)) (sym (contents_of-passed analyzer e k p ps h.is))
  ]
