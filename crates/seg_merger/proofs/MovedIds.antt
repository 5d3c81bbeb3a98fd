-- Postings under new ids are those of the documents that are kept.
use Rattle.std.proofs.Common.{◌≡◌, ℕ, zero, suc, ◌+◌, ◌-◌, ◌<◌, ◌≤◌, Bool, true, false, List, [], ◌∷◌, ◌++◌, length, get_or, Some, None, Option, sym, refl, ap, ◌∙◌, subst, arith, append_assoc, inl, inr, ◌⊎◌}
use Rattle.std.specs.List.{flat_map}
use Rattle.std.proofs.lemmas.Bool.Decides.{nat_tests}
use Rattle.seg_bits.specs.BitSets.{member_count}
use Rattle.seg_values.specs.declared.schema.IndexOption.{IndexOption}
use Rattle.seg_model.specs.Join.{recorded_at, all_recorded}
use Rattle.seg_model.specs.Operations.{kept}
use Rattle.seg_model.specs.DocumentTerms.{Recorded, Posting, listed, postings_from}
use Rattle.seg_model.specs.Shape.{ArePostings}
use Rattle.seg_model.proofs.Exports.{AreNone-all_recorded, AreNone-kept, postings_from-none}
use Rattle.seg_open.proofs.Exports.{count-more}
use Rattle.seg_merger.specs.MovedPostings.{under, under_id, moved}
use Rattle.seg_merger.specs.NewIds.{new_ids}

module _ (option : IndexOption) where
  -- before the first posting nothing is recorded
  recorded_before : (d least last : ℕ) (ps : List Posting) → d < least → ArePostings option least last ps → recorded_at d ps ≡ None
  recorded_before d least last [] lt h = refl
  recorded_before d least last (p ∷ ps) lt h =
      let following : least ≤ p.document = h.0 in
      let later = recorded_before d (p.document + 1) last ps (omega arith) h.3 in
      grind (arith, nat_tests)

  -- after it, it plays no part
  recorded_past : (d n : ℕ) (p : Posting) (ps : List Posting) → p.document < d → all_recorded d n (p ∷ ps) ≡ all_recorded d n ps
  recorded_past d zero p ps lt = refl
  recorded_past d (suc n) p ps lt =
      let here : recorded_at d (p ∷ ps) ≡ recorded_at d ps = grind (arith, nat_tests) in
      let later = recorded_past (d + 1) n p ps (omega arith) in
      λ i. here i ∷ later i

  -- ids that stand for the documents from d on
  abbrev moved_at : ℕ → List (Option ℕ) → List Posting → List Posting
  moved_at d ids ps = flat_map (λ p. under_id (get_or ids (p.document - d) None) p) ps

  one_less : (d n : ℕ) → d + 1 ≤ n → n - d ≡ suc (n - (d + 1))
  one_less d n le = omega arith

  moved_later : (d least last : ℕ) (x : Option ℕ) (ids : List (Option ℕ)) (ps : List Posting) → d + 1 ≤ least → ArePostings option least last ps → moved_at d (x ∷ ids) ps ≡ moved_at (d + 1) ids ps
  moved_later d least last x ids [] le h = refl
  moved_later d least last x ids (p ∷ ps) le h =
      let following : least ≤ p.document = h.0 in
      let place = one_less d p.document (omega (arith, following)) in
      ap (λ n. under_id (get_or (x ∷ ids) n None) p ++ moved_at d (x ∷ ids) ps) place
      ∙ ap (λ l. under_id (get_or ids (p.document - (d + 1)) None) p ++ l) (moved_later d (p.document + 1) last x ids ps (omega (arith, following)) h.3)

  first_or_later : (d n : ℕ) → d ≤ n → (n ≡ d) ⊎ (d < n)
  first_or_later zero zero le = inl refl
  first_or_later zero (suc n) le = inr (omega arith)
  first_or_later (suc d) zero le = absurd (omega arith)
  first_or_later (suc d) (suc n) le = elim (first_or_later d n (omega arith)) [
    | inl same ↦ inl (ap suc same)
    | inr lt ↦ inr (omega arith)
  ]

  -- a mark, and what it makes of an id
  module _ (d first : ℕ) (bs : List Bool) (p : Posting) (ps : List Posting) where
    abbrev rest : ℕ
    rest = length bs

    module _ (at : p.document ≡ d) (following : ArePostings option (d + 1) (d + 1 + length bs) ps) (later : (from : ℕ) → moved_at (d + 1) (new_ids from bs) ps ≡ postings_from from (kept bs (all_recorded (d + 1) (length bs) ps))) where
      recorded_here : recorded_at d (p ∷ ps) ≡ Some p.recorded
      recorded_here = grind (arith, nat_tests)

      place : p.document - d ≡ 0
      place = omega (arith, at)

      others : all_recorded (d + 1) (length bs) (p ∷ ps) ≡ all_recorded (d + 1) (length bs) ps
      others = recorded_past (d + 1) (length bs) p ps (omega (arith, at))

      here : (b : Bool) → moved_at d (new_ids first (b ∷ bs)) (p ∷ ps) ≡ postings_from first (kept (b ∷ bs) (all_recorded d (suc (length bs)) (p ∷ ps)))
      here true =
          ap (λ n. under_id (get_or (Some first ∷ new_ids (first + 1) bs) n None) p ++ moved_at d (Some first ∷ new_ids (first + 1) bs) ps) place
          ∙ ap (λ l. under first p ∷ l) (moved_later d (d + 1) (d + 1 + length bs) (Some first) (new_ids (first + 1) bs) ps (omega arith) following ∙ later (first + 1))
          ∙ ap (λ rs. under first p ∷ postings_from (first + 1) (kept bs rs)) (sym others)
          ∙ ap (λ r. listed first r ++ postings_from (first + 1) (kept bs (all_recorded (d + 1) (length bs) (p ∷ ps)))) (sym recorded_here)
      here false =
          ap (λ n. under_id (get_or (None ∷ new_ids first bs) n None) p ++ moved_at d (None ∷ new_ids first bs) ps) place
          ∙ moved_later d (d + 1) (d + 1 + length bs) None (new_ids first bs) ps (omega arith) following
          ∙ later first
          ∙ ap (λ rs. postings_from first (kept bs rs)) (sym others)

    module _ (lt : d < p.document) (all : ArePostings option (d + 1) (d + 1 + length bs) (p ∷ ps)) (later : (from : ℕ) → moved_at (d + 1) (new_ids from bs) (p ∷ ps) ≡ postings_from from (kept bs (all_recorded (d + 1) (length bs) (p ∷ ps)))) where
      none_here : recorded_at d (p ∷ ps) ≡ None
      none_here = recorded_before d (d + 1) (d + 1 + length bs) (p ∷ ps) (omega arith) all

      elsewhere : (b : Bool) → moved_at d (new_ids first (b ∷ bs)) (p ∷ ps) ≡ postings_from first (kept (b ∷ bs) (all_recorded d (suc (length bs)) (p ∷ ps)))
      elsewhere true =
          moved_later d (d + 1) (d + 1 + length bs) (Some first) (new_ids (first + 1) bs) (p ∷ ps) (omega arith) all
          ∙ later (first + 1)
          ∙ ap (λ r. listed first r ++ postings_from (first + 1) (kept bs (all_recorded (d + 1) (length bs) (p ∷ ps)))) (sym none_here)
      elsewhere false =
          moved_later d (d + 1) (d + 1 + length bs) None (new_ids first bs) (p ∷ ps) (omega arith) all
          ∙ later first

  moved_kept : (d first : ℕ) (bs : List Bool) (ps : List Posting) → ArePostings option d (d + length bs) ps → moved_at d (new_ids first bs) ps ≡ postings_from first (kept bs (all_recorded d (length bs) ps))
  moved_kept d first [] [] h = refl
  moved_kept d first [] (p ∷ ps) h = absurd (omega (arith, h.0, h.1))
  moved_kept d first (b ∷ bs) [] h = sym (postings_from-none first (kept (b ∷ bs) (all_recorded d (suc (length bs)) [])) (AreNone-kept (b ∷ bs) (all_recorded d (suc (length bs)) []) (AreNone-all_recorded d (suc (length bs)))))
  moved_kept d first (b ∷ bs) (p ∷ ps) h =
      let end : d + suc (length bs) ≡ d + 1 + length bs = omega arith in
      let below : p.document < d + 1 + length bs = omega (arith, h.1) in
      let following : ArePostings option (p.document + 1) (d + 1 + length bs) ps = subst (λ n. ArePostings option (p.document + 1) n ps) end h.3 in
      elim (first_or_later d p.document h.0) [
        | inl at ↦
            let from_next : ArePostings option (d + 1) (d + 1 + length bs) ps = subst (λ n. ArePostings option (n + 1) (d + 1 + length bs) ps) at following in
            here d first bs p ps at from_next (λ from. moved_kept (d + 1) from bs ps from_next) b
        | inr lt ↦
            let all : ArePostings option (d + 1) (d + 1 + length bs) (p ∷ ps) = (omega (arith, lt), below, h.2, following) in
            elsewhere d first bs p ps lt all (λ from. moved_kept (d + 1) from bs (p ∷ ps) all) b
      ]

  from_none : (n : ℕ) → n ≡ n - 0
  from_none n = omega arith

  -- the postings of a segment under new ids
  pub moved_is_kept : (first documents : ℕ) (marks : List Bool) (ps : List Posting) → length marks ≡ documents → ArePostings option 0 documents ps → moved (new_ids first marks) ps ≡ postings_from first (kept marks (all_recorded 0 documents ps))
  moved_is_kept first documents marks ps many h =
      let end : documents ≡ 0 + length marks = omega (arith, many) in
      (λ i. flat_map (λ (p : Posting). under_id (get_or (new_ids first marks) (from_none p.document i) None) p) ps)
      ∙ moved_kept 0 first marks ps (subst (λ n. ArePostings option 0 n ps) end h)
      ∙ ap (λ n. postings_from first (kept marks (all_recorded 0 n ps))) many

-- ---- segments, one after another

pub postings_append : (n : ℕ) (xs ys : List (Option Recorded)) → postings_from n (xs ++ ys) ≡ postings_from n xs ++ postings_from (n + length xs) ys
postings_append n [] ys = ap (λ m. postings_from m ys) (let z : n ≡ n + 0 = omega arith in z)
postings_append n (x ∷ xs) ys =
    ap (λ l. listed n x ++ l) (postings_append (n + 1) xs ys ∙ ap (λ m. postings_from (n + 1) xs ++ postings_from m ys) (let z : n + 1 + length xs ≡ n + suc (length xs) = omega arith in z))
    ∙ sym (append_assoc (listed n x) (postings_from (n + 1) xs) (postings_from (n + suc (length xs)) ys))

-- as many are kept as are marked
pub kept_counted : {X : Type 0} (marks : List Bool) (xs : List X) → length marks ≡ length xs → length (kept marks xs) ≡ member_count marks
kept_counted [] xs many = refl
kept_counted (b ∷ bs) [] many = absurd (omega arith)
kept_counted (true ∷ bs) (x ∷ xs) many = let first = count-more true bs in let later = kept_counted bs xs (omega arith) in omega (arith, first, later)
kept_counted (false ∷ bs) (x ∷ xs) many = let first = count-more false bs in let later = kept_counted bs xs (omega arith) in omega (arith, first, later)
