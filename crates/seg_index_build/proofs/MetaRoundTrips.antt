-- The metas of an output index are read as they are saved.
use Rattle.std.proofs.Common.{◌≡◌, ◌<◌, ◌^◌, ℕ, List, [], ◌∷◌, ◌++◌, map, true, None, Some, refl, arith}
use Rattle.std.specs.Prelude.{codes, nat_lt, IsUtf8}
use Rattle.std.specs.List.{AllByRecursion, join_with_byte, list_all}
use Rattle.std.proofs.lemmas.Bool.{and_parts}
use Rattle.std.proofs.lemmas.Bool.Decides.{nat_tests}
use Rattle.std.proofs.lemmas.Str.{IsUtf8-append, IsUtf8-nil}
use Rattle.seg_common.specs.SegmentIds.{id_text}
use Rattle.seg_model.specs.Fields.{Schema}
use Rattle.seg_model.specs.Input.{Settings}
use Rattle.seg_model.proofs.Exports.{IsUtf8-ascii}
use Rattle.seg_meta.proofs.Exports.{IsUtf8-hex}
use Rattle.seg_meta.specs.MetaBounds.{AreReadBack}
use Rattle.seg_meta.specs.SavableMetas.{empty_meta}
use Rattle.seg_index_build.specs.IndexFiles.{merge_payload, merged_meta, output_id}
use Rattle.seg_index_build.specs.MergedSegments.{IsReadBack}

ascii : (bs : List ℕ) → list_all (λ b. nat_lt b 128) bs ≡ true → IsUtf8 bs
ascii [] low = IsUtf8-nil
ascii (b ∷ bs) low =
    let both = and_parts (nat_lt b 128) (list_all (λ b. nat_lt b 128) bs) low in
    let first : nat_lt b 128 ≡ true = both.0 in
    let small : b < 128 = grind (arith, nat_tests) in
    IsUtf8-append (b ∷ []) bs (IsUtf8-ascii b small) (ascii bs both.1)

texts : (ids : List ℕ) → IsUtf8 (join_with_byte 32 (map id_text ids))
texts [] = IsUtf8-nil
texts (id ∷ []) = IsUtf8-hex 32 id
texts (id ∷ next ∷ ids) =
    IsUtf8-append (id_text id) (32 ∷ join_with_byte 32 (map id_text (next ∷ ids))) (IsUtf8-hex 32 id)
    (IsUtf8-append (32 ∷ []) (join_with_byte 32 (map id_text (next ∷ ids))) (IsUtf8-ascii 32 (omega arith)) (texts (next ∷ ids)))

payload_text : (ids : List ℕ) → IsUtf8 (merge_payload ids)
payload_text ids =
    IsUtf8-append (codes "Segments Merge: [") (join_with_byte 32 (map id_text ids) ++ codes "]") (ascii (codes "Segments Merge: [") refl)
    (IsUtf8-append (join_with_byte 32 (map id_text ids)) (codes "]") (texts ids) (ascii (codes "]") refl))

module _ (settings : Settings) (schema : Schema) (reads : AreReadBack settings schema) where
  -- the meta of the empty index
  pub empty_back : IsReadBack (empty_meta settings schema)
  empty_back = reads 0 None [] (omega arith) tt tt (omega arith, refl)

  -- and of one merged segment
  pub merged_back : (ids : List ℕ) (id documents : ℕ) → id < 2 ^ 128 → documents < 2 ^ 31
      → IsReadBack (merged_meta settings schema ids id documents)
  merged_back ids id documents id_fits few =
      reads 0 (Some (merge_payload ids)) _ (omega arith) (payload_text ids) ((id_fits, (few, tt), tt), tt) (omega arith, refl)

-- the last of ids that have 128 bits has, too
pub output_fits : (ids : List ℕ) → AllByRecursion (λ id. id < 2 ^ 128) ids → output_id ids < 2 ^ 128
output_fits [] fit = omega arith
output_fits (id ∷ []) fit = fit.0
output_fits (id ∷ other ∷ ids) fit = output_fits (other ∷ ids) fit.1
