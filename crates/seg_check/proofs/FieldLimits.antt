-- The limits of all fields are those of the fields that a document has.
use Rattle.std.proofs.Common.{◌≡◌, ℕ, zero, suc, ◌+◌, ◌⊎◌, inl, inr, Bool, true, false, cond, List, [], ◌∷◌, map, drop, Some, None, Option, length, refl, sym, ap, ◌∙◌, subst, arith}
use Rattle.std.specs.Prelude.{◌&&◌, filter, nat_eq, is_some}
use Rattle.std.specs.List.{slice_get, list_all, enumerate_from}
use Rattle.std.proofs.lemmas.Bool.{false≢true, and_parts, and_from}
use Rattle.std.proofs.lemmas.Bool.Decides.{eqb_tells}
use Rattle.std.proofs.lemmas.Option.{same_Some}
use Rattle.seg_common.proofs.Bools.{same_truth}
use Rattle.seg_common.proofs.Lists.{drop-slice_get}
use Rattle.seg_values.specs.Tree.{Tree, Document}
use Rattle.seg_values.specs.declared.schema.FieldEntry.{FieldEntry}
use Rattle.seg_values.specs.declared.schema.FieldKind.{FieldKind}
use Rattle.seg_values.specs.declared.schema.FieldKind.TheVariants.{Text, U64, I64, Bool as Boolean, Date, Facet, Bytes, IpAddr, Json}
use Rattle.seg_model.specs.DocumentCheck.{is_u32, kind_fits, field_fits}
use Rattle.seg_model.specs.Fields.{Schema, Analyzer, is_indexed, indexing_tokenizer, values_of, fields}
use Rattle.seg_check.specs.DocumentFields.{fits_at}

-- ---- each field of a schema

all_from : {X : Type 0} (Q : ℕ × X → Bool) (n : ℕ) (xs : List X) → ((i : ℕ) (x : X) → slice_get xs i ≡ Some x → Q (n + i, x) ≡ true) → list_all Q (enumerate_from n xs) ≡ true
all_from Q n [] h = refl
all_from Q n (x ∷ xs) h =
    and_from (Q (n, x)) (list_all Q (enumerate_from (n + 1) xs)) (subst (λ m. Q (m, x) ≡ true) (let z : n + 0 ≡ n = omega arith in z) (h 0 x refl))
    (all_from Q (n + 1) xs (λ i y at. subst (λ m. Q (m, y) ≡ true) (let z : n + suc i ≡ n + 1 + i = omega arith in z) (h (suc i) y at)))

one_of : {X : Type 0} (Q : ℕ × X → Bool) (n : ℕ) (xs : List X) → list_all Q (enumerate_from n xs) ≡ true → (i : ℕ) (x : X) → slice_get xs i ≡ Some x → Q (n + i, x) ≡ true
one_of Q n [] h i x at = absurd (false≢true (ap is_some at))
one_of Q n (y ∷ ys) h zero x at =
    subst (λ m. Q (m, x) ≡ true) (let z : n ≡ n + 0 = omega arith in z) (subst (λ w. Q (n, w) ≡ true) (same_Some y x at) (and_parts (Q (n, y)) (list_all Q (enumerate_from (n + 1) ys)) h).0)
one_of Q n (y ∷ ys) h (suc i) x at =
    subst (λ m. Q (m, x) ≡ true) (let z : n + 1 + i ≡ n + suc i = omega arith in z) (one_of Q (n + 1) ys (and_parts (Q (n, y)) (list_all Q (enumerate_from (n + 1) ys)) h).1 i x at)

for_all_fields : (Q : ℕ × FieldEntry → Bool) (schema : Schema) → ((k : ℕ) (e : FieldEntry) → slice_get schema k ≡ Some e → Q (k, e) ≡ true) → list_all Q (fields schema) ≡ true
for_all_fields Q schema h = all_from Q 0 schema (λ i x at. subst (λ m. Q (m, x) ≡ true) (let z : i ≡ 0 + i = omega arith in z) (h i x at))

pub for_one_field : (Q : ℕ × FieldEntry → Bool) (schema : Schema) → list_all Q (fields schema) ≡ true → (k : ℕ) (e : FieldEntry) → slice_get schema k ≡ Some e → Q (k, e) ≡ true
for_one_field Q schema h k e at = subst (λ m. Q (m, e) ≡ true) (let z : 0 + k ≡ k = omega arith in z) (one_of Q 0 schema h k e at)

-- ---- a field of which a document has no value

module _ (analyzer : Analyzer) (document : Document) (k : ℕ) (e : FieldEntry) where
  no-values : (kind : FieldKind) → (is_u32 0 && kind_fits kind e.expand_dots (analyzer (indexing_tokenizer e)) []) ≡ true
  no-values Text = refl
  no-values U64 = refl
  no-values I64 = refl
  no-values Boolean = refl
  no-values Date = refl
  no-values Facet = refl
  no-values Bytes = refl
  no-values IpAddr = refl
  no-values Json = refl

  pub fits-empty : values_of k document ≡ [] → true ≡ field_fits analyzer document (k, e)
  fits-empty none = sym (ap (λ vs. cond (is_indexed e) (is_u32 (length vs) && kind_fits e.kind e.expand_dots (analyzer (indexing_tokenizer e)) vs) true) none ∙ by_case (is_indexed e))
    where
      by_case : (b : Bool) → cond b (is_u32 0 && kind_fits e.kind e.expand_dots (analyzer (indexing_tokenizer e)) []) true ≡ true
      by_case true = no-values e.kind
      by_case false = refl

-- ---- the fields that a document has

module _ (schema : Schema) (analyzer : Analyzer) (document : Document) where
  abbrev fits : ℕ → Bool
  fits k = fits_at analyzer document k (slice_get schema k)

  fits-or-none : (k : ℕ) (ps : Document) → list_all (λ p. fits p.0) ps ≡ true → (fits k ≡ true) ⊎ (values_of k ps ≡ [])
  fits-or-none k [] h = inr refl
  fits-or-none k (p ∷ ps) h =
      let two = and_parts (fits p.0) (list_all (λ p. fits p.0) ps) h in
      elim (eqb_tells k p.0) [
        | inl same ↦ inl (ap fits same.1 ∙ two.0)
        | inr other ↦ elim (fits-or-none k ps two.1) [
          | inl here ↦ inl here
          | inr none ↦ inr (ap (λ b. map (λ (q : ℕ × Tree). q.1) (cond b (p ∷ filter (λ q. nat_eq k q.0) ps) (filter (λ q. nat_eq k q.0) ps))) other.0 ∙ none)
        ]
      ]

  all-pairs : (ps : Document) → ((k : ℕ) → fits k ≡ true) → list_all (λ p. fits p.0) ps ≡ true
  all-pairs [] h = refl
  all-pairs (p ∷ ps) h = and_from (fits p.0) (list_all (λ p. fits p.0) ps) (h p.0) (all-pairs ps h)

  -- one pair after another
  module _ (i field n : ℕ) (t : Tree) (b : Bool) (at : slice_get document i ≡ Some (field, t)) (of : n ≡ field) (is : b ≡ fits_at analyzer document n (slice_get schema n)) where
    pub left-fit : list_all (λ p. fits_at analyzer document p.0 (slice_get schema p.0)) (drop i document) ≡ (b && list_all (λ p. fits_at analyzer document p.0 (slice_get schema p.0)) (drop (i + 1) document))
    left-fit = ap (list_all (λ (p : ℕ × Tree). fits p.0)) (drop-slice_get document i (field, t) at) ∙ ap (λ c. c && list_all (λ (p : ℕ × Tree). fits p.0) (drop (i + 1) document)) (sym (is ∙ ap fits of))

  pub by-pairs : list_all (λ p. fits_at analyzer document p.0 (slice_get schema p.0)) document ≡ list_all (field_fits analyzer document) (fields schema)
  by-pairs = same_truth _ _
      (λ h. for_all_fields (field_fits analyzer document) schema (λ k e at. elim (fits-or-none k document h) [
        | inl here ↦ ap (fits_at analyzer document k) (sym at) ∙ here
        | inr none ↦ sym (fits-empty analyzer document k e none)
      ]))
      (λ h. all-pairs document (λ k. by_case h k (slice_get schema k) refl))
    where
      by_case : list_all (field_fits analyzer document) (fields schema) ≡ true → (k : ℕ) (o : Option FieldEntry) → slice_get schema k ≡ o → fits_at analyzer document k o ≡ true
      by_case h k None at = refl
      by_case h k (Some e) at = for_one_field (field_fits analyzer document) schema h k e at
