-- What later operations leave alive, by stamps.
use Rattle.std.proofs.Common.{◌≡◌, ℕ, ◌+◌, ◌<◌, ◌≤◌, Bool, false, List, [], ◌∷◌, ◌++◌, length, sym, refl, ap, ◌∙◌, arith, append_assoc, length-append}
use Rattle.std.specs.Prelude.{◌||◌, ◌&&◌, not, nat_lt}
use Rattle.std.proofs.lemmas.List.Folds.{list_any-append}
use Rattle.std.proofs.lemmas.Bool.{le-ltb, lt-ltb}
use Rattle.seg_values.specs.Tree.{Document}
use Rattle.seg_model.specs.Fields.{Schema, Analyzer}
use Rattle.seg_model.specs.Operations.{Operation, add, delete, delete_all, deletes, is_removed, additions, alive_after}
use Rattle.seg_model.specs.Stamps.{stamped_deletes, addition_stamps, is_deleted_by, undeleted_by}
use Rattle.seg_model.specs.RemovalLaws.{AliveByStamps}

-- the deletes of two stretches, of which the second begins at `to`
pub stamped_deletes-append : (from to : ℕ) (xs ys : List Operation) → from + length xs ≡ to → stamped_deletes from (xs ++ ys) ≡ stamped_deletes from xs ++ stamped_deletes to ys
stamped_deletes-append from to [] ys e = ap (λ n. stamped_deletes n ys) (let same : from ≡ to = omega arith in same)
stamped_deletes-append from to (add d ∷ xs) ys e = stamped_deletes-append (from + 1) to xs ys (omega arith)
stamped_deletes-append from to (delete t ∷ xs) ys e = ap (λ l. (from, delete t) ∷ l) (stamped_deletes-append (from + 1) to xs ys (omega arith))
stamped_deletes-append from to (delete_all ts ∷ xs) ys e = ap (λ l. (from, delete_all ts) ∷ l) (stamped_deletes-append (from + 1) to xs ys (omega arith))

module _ (schema : Schema) (analyzer : Analyzer) (d : Document) (s : ℕ) where
  -- deletes that come before a document don't delete it
  deleted_before : (from : ℕ) (xs : List Operation) → from + length xs ≤ s → is_deleted_by schema analyzer d s (stamped_deletes from xs) ≡ false
  deleted_before from [] le = refl
  deleted_before from (add x ∷ xs) le = deleted_before (from + 1) xs (omega arith)
  deleted_before from (delete t ∷ xs) le =
      ap (λ b. (b && deletes schema analyzer d (delete t)) || is_deleted_by schema analyzer d s (stamped_deletes (from + 1) xs)) (le-ltb s from (omega arith))
      ∙ deleted_before (from + 1) xs (omega arith)
  deleted_before from (delete_all ts ∷ xs) le =
      ap (λ b. (b && deletes schema analyzer d (delete_all ts)) || is_deleted_by schema analyzer d s (stamped_deletes (from + 1) xs)) (le-ltb s from (omega arith))
      ∙ deleted_before (from + 1) xs (omega arith)

  -- deletes that come after it do
  deleted_after : (from : ℕ) (xs : List Operation) → s < from → is_deleted_by schema analyzer d s (stamped_deletes from xs) ≡ is_removed schema analyzer d xs
  deleted_after from [] lt = refl
  deleted_after from (add x ∷ xs) lt = deleted_after (from + 1) xs (omega arith)
  deleted_after from (delete t ∷ xs) lt =
      let rest = deleted_after (from + 1) xs (omega arith) in
      λ j. (lt-ltb s from lt j && deletes schema analyzer d (delete t)) || rest j
  deleted_after from (delete_all ts ∷ xs) lt =
      let rest = deleted_after (from + 1) xs (omega arith) in
      λ j. (lt-ltb s from lt j && deletes schema analyzer d (delete_all ts)) || rest j

module _ (schema : Schema) (analyzer : Analyzer) where
  -- a document is deleted by the deletes after it, among all
  deleted_among : (before after : List Operation) (d : Document) → is_removed schema analyzer d after ≡ is_deleted_by schema analyzer d (length before) (stamped_deletes 0 (before ++ add d ∷ after))
  deleted_among before after d =
      let s = length before in
      sym (ap (is_deleted_by schema analyzer d s) (stamped_deletes-append 0 s before (add d ∷ after) (omega arith))
      ∙ list_any-append (λ x. nat_lt s x.0 && deletes schema analyzer d x.1) (stamped_deletes 0 before) (stamped_deletes (s + 1) after)
      ∙ ap (λ b. b || is_deleted_by schema analyzer d s (stamped_deletes (s + 1) after)) (deleted_before schema analyzer d s 0 before (omega arith))
      ∙ deleted_after schema analyzer d s (s + 1) after (omega arith))

  -- what is said from one place on
  abbrev told_from : ℕ → List Operation → List Operation → List Bool
  told_from from batch all = undeleted_by schema analyzer (addition_stamps from batch) (additions batch) (stamped_deletes 0 all)

  told_next : (before batch after : List Operation) (o : Operation) → told_from (length (before ++ o ∷ [])) batch ((before ++ o ∷ []) ++ (batch ++ after)) ≡ told_from (length before + 1) batch (before ++ o ∷ (batch ++ after))
  told_next before batch after o =
      ap (λ n. told_from n batch ((before ++ o ∷ []) ++ (batch ++ after))) (length-append before (o ∷ []))
      ∙ ap (told_from (length before + 1) batch) (append_assoc before (o ∷ []) (batch ++ after))

  alive_told : (before batch after : List Operation) → alive_after schema analyzer batch after ≡ told_from (length before) batch (before ++ (batch ++ after))
  alive_told before [] after = refl
  alive_told before (add d ∷ batch) after =
      let rest = alive_told (before ++ add d ∷ []) batch after ∙ told_next before batch after (add d) in
      λ j. not (deleted_among before (batch ++ after) d j) ∷ rest j
  alive_told before (delete t ∷ batch) after = alive_told (before ++ delete t ∷ []) batch after ∙ told_next before batch after (delete t)
  alive_told before (delete_all ts ∷ batch) after = alive_told (before ++ delete_all ts ∷ []) batch after ∙ told_next before batch after (delete_all ts)

pub alive_by_stamps : AliveByStamps
alive_by_stamps schema analyzer before batch after =
    alive_told schema analyzer before batch after
    ∙ ap (told_from schema analyzer (length before) batch) (sym (append_assoc before batch after))
