-- Things of which no two have one number, and files of other segments: their names differ.
use Rattle.std.proofs.Common.{◌≡◌, ◌≢◌, ℕ, zero, suc, ◌+◌, Bool, true, false, List, [], ◌∷◌, map, drop, Some, refl, sym, subst, arith}
use Rattle.std.specs.Prelude.{◌||◌, not, nat_eq}
use Rattle.std.specs.List.{AllByRecursion, flat_map, list_any, slice_get}
use Rattle.std.proofs.lemmas.Bool.{and_parts, false≢true, eqb-false}
use Rattle.std.proofs.lemmas.Option.{none-some, same_Some}
use Rattle.seg_common.specs.declared.name.FileName.{FileName}
use Rattle.seg_common.specs.declared.name.FileName.TheVariants.{Alive, Part}
use Rattle.seg_common.specs.declared.name.SegmentComponent.{SegmentComponent}
use Rattle.seg_common.specs.declared.name.SegmentComponent.TheVariants.{Terms, Postings, Positions, Store, FastFields, FieldNorms}
use Rattle.seg_common.proofs.Lists.{all_both}
use Rattle.seg_model.specs.ValidInputs.{are_distinct}
use Rattle.seg_segment.specs.SegmentFiles.{segment_names}
use Rattle.seg_batches.proofs.FileNames.{AreApart}

-- ---- numbers

neither : (a b : Bool) → not (a || b) ≡ true → (a ≡ false) × (not b ≡ true)
neither true b h = absurd (false≢true h)
neither false b h = (refl, h)

module _ {X : Type 0} (number : X → ℕ) where
  none_has : (n : ℕ) (xs : List X) → not (list_any (nat_eq n) (map number xs)) ≡ true
      → AllByRecursion (λ x. number x ≢ n) xs
  none_has n [] h = tt
  none_has n (x ∷ xs) h =
      let parts = neither (nat_eq n (number x)) (list_any (nat_eq n) (map number xs)) h in
      ((λ is. eqb-false n (number x) parts.0 (sym is)), none_has n xs parts.1)

  -- where no two have one number, those after one have others
  pub others_after : (xs : List X) (i : ℕ) (x : X) → are_distinct (map number xs) ≡ true → slice_get xs i ≡ Some x
      → AllByRecursion (λ y. number y ≢ number x) (drop (i + 1) xs)
  others_after [] i x h at = absurd (none-some x at)
  others_after (y ∷ ys) zero x h at =
      let parts = and_parts (not (list_any (nat_eq (number y)) (map number ys))) (are_distinct (map number ys)) h in
      subst (λ z. AllByRecursion (λ w. number w ≢ number z) ys) (same_Some y x at) (none_has (number y) ys parts.0)
  others_after (y ∷ ys) (suc i) x h at =
      let parts = and_parts (not (list_any (nat_eq (number y)) (map number ys))) (are_distinct (map number ys)) h in
      subst (λ n. AllByRecursion (λ w. number w ≢ number x) (drop n (y ∷ ys))) (let e : suc (i + 1) ≡ suc i + 1 = omega arith in e) (others_after ys i x parts.1 at)

  -- the files of others are apart, where those of any two are that differ in their numbers
  pub files_apart : (names : X → List FileName) (x : X) (ys : List X)
      → ((y : X) → number y ≢ number x → AreApart (names y) (names x)) → AllByRecursion (λ y. number y ≢ number x) ys
      → AreApart (flat_map names ys) (names x)
  files_apart names x [] apart others = tt
  files_apart names x (y ∷ ys) apart others =
      all_both (λ name. AllByRecursion (λ other. name ≢ other) (names x)) (names y) (flat_map names ys) (apart y others.0) (files_apart names x ys apart others.1)

-- ---- the six files

part_apart : (a b : ℕ) (c d : SegmentComponent) → a ≢ b → Part a c ≢ Part b d
part_apart a b c d ne is = ne (let e : a ≡ b = cc is in e)

pub part_from_parts : (a b : ℕ) (c : SegmentComponent) → a ≢ b
    → AllByRecursion (λ other. Part a c ≢ other) (segment_names b)
part_from_parts a b c ne = (
  part_apart a b c FieldNorms ne,
  (
    part_apart a b c FastFields ne,
    (part_apart a b c Terms ne, (part_apart a b c Postings ne, (part_apart a b c Positions ne, (part_apart a b c Store ne, tt)))),
  ),
)

pub parts_apart : (a b : ℕ) → a ≢ b → AreApart (segment_names a) (segment_names b)
parts_apart a b ne = (
  part_from_parts a b FieldNorms ne,
  (
    part_from_parts a b FastFields ne,
    (
      part_from_parts a b Terms ne,
      (part_from_parts a b Postings ne, (part_from_parts a b Positions ne, (part_from_parts a b Store ne, tt))),
    ),
  ),
)

-- ---- alive files

pub alive_apart : (a b s t : ℕ) → a ≢ b → Alive a s ≢ Alive b t
alive_apart a b s t ne is = ne (let e : a ≡ b = cc is in e)
