-- The values of a document in fields that are indexed.
use Rattle.std.proofs.Common.{◌≡◌, ℕ, true, false, cond, [], ◌∷◌, map, Some, None, Option, sym, refl, ap, ◌∙◌, inl, inr}
use Rattle.std.specs.Prelude.{filter, nat_eq}
use Rattle.std.specs.List.{slice_get}
use Rattle.std.proofs.lemmas.Bool.{false≢true, cases_Bool}
use Rattle.std.proofs.lemmas.Bool.Decides.{eqb_tells}
use Rattle.seg_values.specs.declared.schema.FieldEntry.{FieldEntry}
use Rattle.seg_values.specs.Tree.{Tree, Document}
use Rattle.seg_model.specs.Fields.{Schema, is_indexed, is_field, values_of}
use Rattle.seg_build.specs.FieldsByValue.{indexed_part}

module _ (k : ℕ) where
  pub values-own : (p : ℕ × Tree) (ps : Document) → nat_eq k p.0 ≡ true → values_of k (p ∷ ps) ≡ p.1 ∷ values_of k ps
  values-own p ps is = ap (λ b. map (λ (q : ℕ × Tree). q.1) (cond b (p ∷ filter (λ q. nat_eq k q.0) ps) (filter (λ q. nat_eq k q.0) ps))) is

  pub values-other : (p : ℕ × Tree) (ps : Document) → nat_eq k p.0 ≡ false → values_of k (p ∷ ps) ≡ values_of k ps
  values-other p ps is = ap (λ b. map (λ (q : ℕ × Tree). q.1) (cond b (p ∷ filter (λ q. nat_eq k q.0) ps) (filter (λ q. nat_eq k q.0) ps))) is

module _ (schema : Schema) where
  pub part-kept : (p : ℕ × Tree) (ps : Document) → is_field is_indexed (slice_get schema p.0) ≡ true → indexed_part schema (p ∷ ps) ≡ p ∷ indexed_part schema ps
  part-kept p ps is = ap (λ b. cond b (p ∷ filter (λ q. is_field is_indexed (slice_get schema q.0)) ps) (filter (λ q. is_field is_indexed (slice_get schema q.0)) ps)) is

  pub part-passed : (p : ℕ × Tree) (ps : Document) → is_field is_indexed (slice_get schema p.0) ≡ false → indexed_part schema (p ∷ ps) ≡ indexed_part schema ps
  part-passed p ps is = ap (λ b. cond b (p ∷ filter (λ q. is_field is_indexed (slice_get schema q.0)) ps) (filter (λ q. is_field is_indexed (slice_get schema q.0)) ps)) is

  -- a value of an indexed field
  pub record IsIndexedPair (p : ℕ × Tree) : Type 0 where
    pub entry : FieldEntry
    pub at : slice_get schema p.0 ≡ Some entry
    pub on : is_indexed entry ≡ true

  pub indexed_pair : (p : ℕ × Tree) → is_field is_indexed (slice_get schema p.0) ≡ true → IsIndexedPair p
  indexed_pair p h = by (slice_get schema p.0) refl h
    where
      by : (o : Option FieldEntry) → slice_get schema p.0 ≡ o → is_field is_indexed o ≡ true → IsIndexedPair p
      by None at on = absurd (false≢true on)
      by (Some e) at on = record { entry = e; at = at; on = on }

  module _ (k : ℕ) (e : FieldEntry) (at_e : slice_get schema k ≡ Some e) where
    own_test : (p : ℕ × Tree) → k ≡ p.0 → is_field is_indexed (slice_get schema p.0) ≡ is_indexed e
    own_test p same = ap (λ n. is_field is_indexed (slice_get schema n)) (sym same) ∙ ap (is_field is_indexed) at_e

    values_past : (p : ℕ × Tree) (ps : Document) → nat_eq k p.0 ≡ false → values_of k (indexed_part schema (p ∷ ps)) ≡ values_of k (indexed_part schema ps)
    values_past p ps other = elim (cases_Bool (is_field is_indexed (slice_get schema p.0))) [
      | inl is ↦ ap (values_of k) (part-kept p ps is) ∙ values-other k p (indexed_part schema ps) other
      | inr is ↦ ap (values_of k) (part-passed p ps is)
    ]

    -- all values of an indexed field are among them
    pub values_kept : (ps : Document) → is_indexed e ≡ true → values_of k (indexed_part schema ps) ≡ values_of k ps
    values_kept [] on = refl
    values_kept (p ∷ ps) on = elim (eqb_tells k p.0) [
      | inl h ↦ ap (values_of k) (part-kept p ps (own_test p h.1 ∙ on)) ∙ values-own k p (indexed_part schema ps) h.0 ∙ ap (λ vs. p.1 ∷ vs) (values_kept ps on) ∙ sym (values-own k p ps h.0)
      | inr h ↦ values_past p ps h.0 ∙ values_kept ps on ∙ sym (values-other k p ps h.0)
    ]

    -- and none of another
    pub values_dropped : (ps : Document) → is_indexed e ≡ false → values_of k (indexed_part schema ps) ≡ []
    values_dropped [] off = refl
    values_dropped (p ∷ ps) off = elim (eqb_tells k p.0) [
      | inl h ↦ ap (values_of k) (part-passed p ps (own_test p h.1 ∙ off)) ∙ values_dropped ps off
      | inr h ↦ values_past p ps h.0 ∙ values_dropped ps off
    ]
