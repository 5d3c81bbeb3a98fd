-- The length ids of segments, field by field.
use Rattle.std.proofs.Common.{◌≡◌, ℕ, suc, ◌+◌, Bool, true, false, cond, get_or, List, [], ◌∷◌, ◌++◌, map, take, drop, refl, sym, ap, ◌∙◌, arith, append_assoc, append-nil}
use Rattle.std.specs.Prelude.{Some, None, option_map, unwrap_or}
use Rattle.std.specs.List.{slice_get, slice_index_or, AllByRecursion}
use Rattle.std.proofs.lemmas.Option.{slice_get-map, unwrap_or-slice_get}
use Rattle.seg_values.specs.declared.schema.FieldEntry.{FieldEntry}
use Rattle.seg_model.specs.Contents.{norms_at}
use Rattle.seg_model.specs.Fields.{Schema, has_lengths, fields}
use Rattle.seg_model.specs.Join.{joined_norms, live_of}
use Rattle.seg_model.specs.Operations.{kept}
use Rattle.seg_directory.specs.CompositeFiles.{Part, field_of}
use Rattle.seg_open.specs.OpenSegment.{OpenSegment, contents_of, part_of}
use Rattle.seg_norms.specs.FieldNorms.{fields_with_lengths, norms_parts}
use Rattle.seg_norms.specs.StoredNorms.{norms_of}
use Rattle.seg_segment.specs.WrittenLengths.{parts_with}
use Rattle.seg_segment.proofs.Exports.{selected, entry_at}
use Rattle.seg_merger.specs.JoinedNorms.{kept_ids, joined_ids}
use Rattle.seg_merger.proofs.KeptLists.{kept_marked, kept_next, kept_of_none}

-- what is done, and what is left of it, one place on
pub left_kept : (marks : List Bool) (xs before now all : List ℕ) (i : ℕ) → now ≡ before ++ kept (take 1 (drop i marks)) (take 1 (drop i xs)) → before ++ kept (drop i marks) (drop i xs) ≡ all → now ++ kept (drop (i + 1) marks) (drop (i + 1) xs) ≡ all
left_kept marks xs before now all i is left =
    ap (λ ys. ys ++ kept (drop (i + 1) marks) (drop (i + 1) xs)) is
    ∙ append_assoc before (kept (take 1 (drop i marks)) (take 1 (drop i xs))) (kept (drop (i + 1) marks) (drop (i + 1) xs))
    ∙ ap (λ ys. before ++ ys) (sym (kept_next marks xs i))
    ∙ left

-- the id of one document that is kept
pub one_id : (marks : List Bool) (xs before now : List ℕ) (i id : ℕ) → get_or marks i false ≡ true → slice_get xs i ≡ Some id → now ≡ before ++ id ∷ [] → now ≡ before ++ kept (take 1 (drop i marks)) (take 1 (drop i xs))
one_id marks xs before now i id alive is pushed = pushed ∙ sym (ap (λ ids. before ++ ids) (kept_marked marks xs i id alive is))

-- a segment that has no part for a field adds none
pub no_ids : (field : ℕ) (p : OpenSegment) (ids : List ℕ) → field_of p.norms field ≡ None → ids ≡ ids ++ kept_ids field p
no_ids field p ids none = sym (ap (λ xs. ids ++ xs) (kept_of_none p.alive (unwrap_or (field_of p.norms field) []) (ap (λ o. unwrap_or o []) none)) ∙ append-nil ids)

-- ---- the ids at a field of a schema

module _ (schema : Schema) (k : ℕ) (e : FieldEntry) (is : slice_get schema k ≡ Some e) where
  pub made_at : (f : ℕ × FieldEntry → List ℕ) → slice_index_or (map f (fields schema)) k [] ≡ f (k, e)
  made_at f =
      sym (unwrap_or-slice_get (map f (fields schema)) k [])
      ∙ ap (λ o. unwrap_or o []) (slice_get-map f (fields schema) k)
      ∙ ap (λ o. unwrap_or (option_map f o) []) (entry_at 0 k schema e is k (omega arith))

  live_ids : (parts : List OpenSegment) → AllByRecursion (λ p. p.schema ≡ schema) parts → live_of (λ p. norms_at p.contents k) (map part_of parts) ≡ joined_ids parts k
  live_ids [] same = refl
  live_ids (p ∷ ps) same =
      let here : norms_at (contents_of p) k ≡ unwrap_or (field_of p.norms k) [] =
      ap (λ s. slice_index_or (norms_of s p.norms) k []) same.0 ∙ made_at (λ f. unwrap_or (field_of p.norms f.0) []) in
      ap (λ ids. kept p.alive ids ++ live_of (λ q. norms_at q.contents k) (map part_of ps)) here
      ∙ ap (λ ids. kept_ids k p ++ ids) (live_ids ps same.1)

  norms_are : (parts : List OpenSegment) → AllByRecursion (λ p. p.schema ≡ schema) parts → has_lengths e ≡ true → joined_ids parts k ≡ slice_index_or (map (joined_norms (map part_of parts)) (fields schema)) k []
  norms_are parts same has =
      sym (made_at (joined_norms (map part_of parts))
      ∙ ap (λ b. cond b (live_of (λ p. norms_at p.contents k) (map part_of parts)) []) has
      ∙ live_ids parts same)

-- ---- all fields

first_same : (b : Bool) (G H : ℕ → Part) (n : ℕ) (rest : List ℕ) → (b ≡ true → G n ≡ H n) → map G rest ≡ map H rest → map G (cond b (n ∷ []) [] ++ rest) ≡ map H (cond b (n ∷ []) [] ++ rest)
first_same true G H n rest here following = λ j. here refl j ∷ following j
first_same false G H n rest here following = following

each_same : (n : ℕ) (es : List FieldEntry) (G H : ℕ → Part) → ((k i : ℕ) (e : FieldEntry) → n + k ≡ i → slice_get es k ≡ Some e → has_lengths e ≡ true → G i ≡ H i) → map G (selected n es) ≡ map H (selected n es)
each_same n [] G H same = refl
each_same n (e ∷ es) G H same =
    first_same (has_lengths e) G H n (selected (n + 1) es) (same 0 n e (omega arith) refl)
    (each_same (n + 1) es G H (λ k i x at is has. same (suc k) i x (omega (arith, at)) is has))

-- the parts are those of the joined norms
pub parts_are : (schema : Schema) (parts : List OpenSegment) → AllByRecursion (λ p. p.schema ≡ schema) parts
    → parts_with (joined_ids parts) (fields_with_lengths schema) ≡ norms_parts schema (map (joined_norms (map part_of parts)) (fields schema))
parts_are schema parts same =
    each_same 0 schema (λ f. (f, joined_ids parts f)) (λ f. (f, slice_index_or (map (joined_norms (map part_of parts)) (fields schema)) f []))
    (λ k i e at is has. ap (λ ids. (i, ids)) (norms_are schema i e (ap (slice_get schema) (let place : i ≡ k = omega (arith, at) in place) ∙ is) parts same has))
