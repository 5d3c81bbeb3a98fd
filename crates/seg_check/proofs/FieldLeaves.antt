-- The leaves of a value come in one after another.
use Rattle.std.proofs.Common.{◌≡◌, ℕ, suc, Bool, List, [], ◌∷◌, ◌++◌, length, get_or, drop, arith, map, Option, Some, None, append_assoc, append-nil, refl, sym, ap, ◌∙◌, subst}
use Rattle.std.proofs.lemmas.Grind.{flat_map-append}
use Rattle.seg_values.specs.Tree.{Leaf}
use Rattle.seg_tokens.specs.declared.token.Token.{Token}
use Rattle.seg_model.specs.Leaves.{PlacedLeaf, joined_path}
use Rattle.seg_model.specs.Occurrences.{leaf_text}
use Rattle.seg_paths.specs.NumberedLeaves.{in_table, numbered}
use Rattle.seg_paths.specs.Paths.{number_of}
use Rattle.seg_paths.specs.declared.leaves.NumberedLeaf.{NumberedLeaf}
use Rattle.seg_paths.proofs.Exports.{number-read}
use Rattle.seg_check.specs.Paths.{AreLeaves, PathsStand, at_path, texts_of}
use Rattle.seg_check.specs.TextSizes.{plus, size_of, measured, both}
use Rattle.seg_check.specs.declared.paths.PathTotals.{PathTotals}
use Rattle.seg_check.specs.declared.size.TextSize.{TextSize}
use Rattle.seg_check.proofs.TextSizeSums.{measured-add}

-- paths tell of what came, which with what is left is all
pub record StandWith (analyze : List ℕ → List Token) (paths : PathTotals) (left all : List (List ℕ × Leaf)) : Type 0 where
  pub came : List (List ℕ × Leaf)
  pub stands : PathsStand analyze paths came
  pub with_left : came ++ left ≡ all

-- a size is that of what came, which with what is left is all
pub record SizedWith (analyze : List ℕ → List Token) (size : TextSize) (left all : List (List ℕ × Leaf)) : Type 0 where
  pub came : List (List ℕ × Leaf)
  pub sized : Some size ≡ measured (texts_of analyze came)
  pub with_left : came ++ left ≡ all

module _ (analyze : List ℕ → List Token) where
  leaf_texts : List ℕ × Leaf → List (List Token)
  leaf_texts x = map analyze (leaf_text x.1)

  pub starts-sized : (all left : List (List ℕ × Leaf)) → left ≡ all → SizedWith analyze (size_of []) left all
  starts-sized all left is = record { came = []; sized = refl; with_left = is }

  pub starts-standing : (paths : PathTotals) (before left all : List (List ℕ × Leaf)) → left ≡ all → PathsStand analyze paths before → StandWith analyze paths left (before ++ all)
  starts-standing paths before left all is stands = record { came = before; stands = stands; with_left = ap (λ l. before ++ l) is }

  -- one more text, if the leaf is one
  pub next-cut : (x : List ℕ × Leaf) (left rest : List (List ℕ × Leaf)) → left ≡ x ∷ rest → (texts more before : List (List Token))
      → more ≡ texts ++ map analyze (leaf_text x.1) → texts ++ texts_of analyze left ≡ before → more ++ texts_of analyze rest ≡ before
  next-cut x left rest is texts more before put so_far =
      ap (λ l. l ++ texts_of analyze rest) put
      ∙ append_assoc texts (map analyze (leaf_text x.1)) (texts_of analyze rest)
      ∙ ap (λ l. texts ++ texts_of analyze l) (sym is) ∙ so_far

  module _ (x : List ℕ × Leaf) (left rest all : List (List ℕ × Leaf)) (is : left ≡ x ∷ rest) where
    next-left : (came : List (List ℕ × Leaf)) → came ++ left ≡ all → (came ++ x ∷ []) ++ rest ≡ all
    next-left came with_left = append_assoc came (x ∷ []) rest ∙ ap (λ l. came ++ l) (sym is) ∙ with_left

    measured-last : (came : List (List ℕ × Leaf)) → measured (texts_of analyze (came ++ x ∷ [])) ≡ both (measured (texts_of analyze came)) (measured (map analyze (leaf_text x.1)))
    measured-last came =
        ap measured (flat_map-append (λ (p : List ℕ × Leaf). map analyze (leaf_text p.1)) came (x ∷ []) ∙ ap (λ l. texts_of analyze came ++ l) (append-nil (map analyze (leaf_text x.1))))
        ∙ measured-add (texts_of analyze came) (map analyze (leaf_text x.1))

    -- one more
    pub next-sized : (whole size : TextSize) → Some size ≡ measured (map analyze (leaf_text x.1)) → SizedWith analyze whole left all → SizedWith analyze (plus whole size) rest all
    next-sized whole size one so_far = record {
      came = so_far.came ++ x ∷ [];
      sized = ap (λ o. both (Some whole) o) one ∙ ap (λ o. both o (measured (map analyze (leaf_text x.1)))) so_far.sized ∙ sym (measured-last so_far.came);
      with_left = next-left so_far.came so_far.with_left;
    }

    pub next-standing : (paths after : PathTotals) → ((found : List (List ℕ × Leaf)) → PathsStand analyze paths found → PathsStand analyze after (found ++ x ∷ [])) → StandWith analyze paths left all → StandWith analyze after rest all
    next-standing paths after more so_far = record { came = so_far.came ++ x ∷ []; stands = more so_far.came so_far.stands; with_left = next-left so_far.came so_far.with_left }

    -- positions decrease in one
    pub stops : (whole : TextSize) → None ≡ measured (map analyze (leaf_text x.1)) → SizedWith analyze whole left all → None ≡ measured (texts_of analyze all)
    stops whole none so_far =
        ap (λ o. both (both (Some whole) o) (measured (texts_of analyze rest))) none
        ∙ ap (λ o. both (both o (measured (map analyze (leaf_text x.1)))) (measured (texts_of analyze rest))) so_far.sized
        ∙ ap (λ o. both o (measured (texts_of analyze rest))) (sym (measured-last so_far.came))
        ∙ sym (measured-add (texts_of analyze (so_far.came ++ x ∷ [])) (texts_of analyze rest))
        ∙ ap measured (sym (flat_map-append (λ (p : List ℕ × Leaf). map analyze (leaf_text p.1)) (so_far.came ++ x ∷ []) rest))
        ∙ ap (λ l. measured (texts_of analyze l)) (next-left so_far.came so_far.with_left)

  -- nothing is left
  all-came : (came left all : List (List ℕ × Leaf)) → left ≡ [] → came ++ left ≡ all → came ≡ all
  all-came came left all none with_left = sym (ap (λ l. came ++ l) none ∙ append-nil came) ∙ with_left

  pub all-sized : (whole : TextSize) (left all : List (List ℕ × Leaf)) → left ≡ [] → SizedWith analyze whole left all → Some whole ≡ measured (texts_of analyze all)
  all-sized whole left all none so_far = so_far.sized ∙ ap (λ l. measured (texts_of analyze l)) (all-came so_far.came left all none so_far.with_left)

  pub all-stand : (paths : PathTotals) (left all : List (List ℕ × Leaf)) → left ≡ [] → StandWith analyze paths left all → PathsStand analyze paths all
  all-stand paths left all none so_far = subst (λ l. PathsStand analyze paths l) (all-came so_far.came left all none so_far.with_left) so_far.stands

-- leaves with their numbers in a table have the joined paths there
pub are-leaves : (e : Bool) (paths : List (List ℕ)) (found : List PlacedLeaf) (out : List NumberedLeaf)
    → map numbered out ≡ map (in_table paths e) found → AreLeaves paths (map (at_path e) found) out
are-leaves e paths [] [] is = record { are = refl; numbered = tt }
are-leaves e paths (p ∷ ps) [] is = let n : 0
    ≡ suc (length (map (in_table paths e) ps)) = ap length is in absurd (omega (arith, n))
are-leaves e paths [] (l ∷ ls) is = let n : suc (length (map numbered ls))
    ≡ 0 = ap length is in absurd (omega (arith, n))
are-leaves e paths (p ∷ ps) (l ∷ ls) is =
    let first : numbered l ≡ in_table paths e p = ap (λ (xs : List (Option ℕ × Leaf)). get_or xs 0 (numbered l)) is in
    let rest = are-leaves e paths ps ls (ap (λ (xs : List (Option ℕ × Leaf)). drop 1 xs) is) in
    let number = sym (ap (λ (x : Option ℕ × Leaf). x.0) first) in
    let leaf = ap (λ (x : Option ℕ × Leaf). x.1) first in
    let path = (number-read paths (joined_path e p.keys) l.path number).1 in
    record { are = λ i. (path i, leaf i) ∷ rest.are i; numbered = (ap (number_of paths) path ∙ number, rest.numbered) }

pub no_more : {X : Type 0} (xs : List X) (n : ℕ) → n ≡ length xs → n ≡ 0 → xs ≡ []
no_more [] n is none = refl
no_more (x ∷ xs) n is none = absurd (omega (arith, is, none))
