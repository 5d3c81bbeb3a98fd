-- One more leaf changes what came at its own path, and at no other.
use Rattle.std.proofs.Common.{◌≡◌, ℕ, ◌+◌, ◌<◌, ◌≤◌, max, Bool, true, false, cond, List, [], ◌∷◌, ◌++◌, map, length, get_or, Option, Some, None, refl, sym, ap, ◌∙◌, arith, append-nil}
use Rattle.std.specs.Prelude.{◌&&◌, ◌==◌}
use Rattle.std.specs.List.{list_all}
use Rattle.std.specs.Str.{bytes_eq}
use Rattle.std.specs.Cmp.Lexicographic.{bytes_decides, nat_list_eq_equiv}
use Rattle.std.proofs.lemmas.Bool.{and_parts, and_from, false≢true}
use Rattle.std.proofs.lemmas.Bool.Decides.{Decides-eqb}
use Rattle.std.proofs.lemmas.Grind.{flat_map-append}
use Rattle.std.proofs.lemmas.List.Elements.{filter-append}
use Rattle.std.proofs.lemmas.List.Folds.{list_all-append}
use Rattle.std.proofs.lemmas.List.{get_or_past, length-append}
use Rattle.seg_values.specs.Tree.{Leaf}
use Rattle.seg_tokens.specs.declared.token.Token.{Token}
use Rattle.seg_model.specs.DocumentCheck.{is_u32, texts_fit, count_of}
use Rattle.seg_model.specs.Occurrences.{leaf_text, start_after_all}
use Rattle.seg_paths.specs.Paths.{Extends, number_of}
use Rattle.seg_paths.proofs.Exports.{number-kept, number-past, number-read}
use Rattle.seg_model.specs.SaturatedNumbers.{saturated}
use Rattle.seg_check.specs.TextSizes.{size_of}
use Rattle.seg_check.specs.TotalsOfFields.{no_totals, totals_of, with_more, totals_fit}
use Rattle.seg_check.specs.Paths.{on_path, path_texts, totals_on, fits_on, paths_fit, total_in, total_at, PathsStand}
use Rattle.seg_check.specs.declared.size.TextSize.{TextSize}
use Rattle.seg_check.specs.declared.totals.Totals.{Totals}
use Rattle.seg_check.specs.declared.paths.PathTotals.{PathTotals}
use Rattle.seg_check.proofs.TextSizeSums.{starts-add, counts-add, texts-le, saturated-one, size-add, fits-kept, fits-less}

module _ (analyze : List ℕ → List Token) where
  -- ---- totals within the limits

  -- the number of texts is no more than where they end
  fewer : (texts : List (List Token)) (n : ℕ) → (is_u32 (start_after_all 0 texts) && (is_u32 (count_of texts) && is_u32 n)) ≡ ((is_u32 (start_after_all 0 texts) && is_u32 (count_of texts) && is_u32 (length texts)) && is_u32 n)
  fewer texts n = by_case (is_u32 (start_after_all 0 texts)) refl
    where
      shape : (a c l n : Bool) → (a ≡ true → l ≡ true) → (a && (c && n)) ≡ ((a && c && l) && n)
      shape true true l n h = sym (ap (λ x. x && n) (h refl))
      shape true false l n h = refl
      shape false c l n h = refl

      by_case : (a : Bool) → is_u32 (start_after_all 0 texts) ≡ a → (is_u32 (start_after_all 0 texts) && (is_u32 (count_of texts) && is_u32 n)) ≡ ((is_u32 (start_after_all 0 texts) && is_u32 (count_of texts) && is_u32 (length texts)) && is_u32 n)
      by_case a e = shape (is_u32 (start_after_all 0 texts)) (is_u32 (count_of texts)) (is_u32 (length texts)) (is_u32 n) (fits-less (length texts) (start_after_all 0 texts) (texts-le texts))

  -- what is kept tells whether texts and their number are within the limits
  pub kept-fit : (n : ℕ) (texts : List (List Token)) → totals_fit (totals_of n texts) ≡ (texts_fit texts && is_u32 n)
  kept-fit n texts =
      ap (λ b. b && (is_u32 (saturated (count_of texts)) && is_u32 (saturated n))) (fits-kept (start_after_all 0 texts))
      ∙ ap (λ b. is_u32 (start_after_all 0 texts) && (b && is_u32 (saturated n))) (fits-kept (count_of texts))
      ∙ ap (λ b. is_u32 (start_after_all 0 texts) && (is_u32 (count_of texts) && b)) (fits-kept n)
      ∙ fewer texts n

  -- and fewer are within them too
  less-fit : (n : ℕ) (texts more : List (List Token)) (m : ℕ) → n ≤ m → (texts_fit (texts ++ more) && is_u32 m) ≡ true → (texts_fit texts && is_u32 n) ≡ true
  less-fit n texts more m le h =
      let two = and_parts (texts_fit (texts ++ more)) (is_u32 m) h in
      let three = and_parts (is_u32 (start_after_all 0 (texts ++ more)) && is_u32 (count_of (texts ++ more))) (is_u32 (length (texts ++ more))) two.0 in
      let first = and_parts (is_u32 (start_after_all 0 (texts ++ more))) (is_u32 (count_of (texts ++ more))) three.0 in
      let many : length (texts ++ more) ≡ length texts + length more = length-append texts more in
      and_from (texts_fit texts) (is_u32 n)
      (and_from (is_u32 (start_after_all 0 texts) && is_u32 (count_of texts)) (is_u32 (length texts))
      (and_from (is_u32 (start_after_all 0 texts)) (is_u32 (count_of texts))
      (fits-less (start_after_all 0 texts) (start_after_all 0 (texts ++ more)) (omega (arith, starts-add texts more)) first.0)
      (fits-less (count_of texts) (count_of (texts ++ more)) (omega (arith, counts-add texts more)) first.1))
      (fits-less (length texts) (length (texts ++ more)) (omega (arith, many)) three.1))
      (fits-less n m le two.1)

  -- ---- one more leaf

  module _ (found : List (List ℕ × Leaf)) (path : List ℕ) (l : Leaf) where
    more : List (List ℕ × Leaf)
    more = found ++ (path, l) ∷ []

    texts-last : (q : List ℕ) (b : Bool) → bytes_eq q path ≡ b → path_texts analyze q (found ++ (path, l) ∷ []) ≡ path_texts analyze q found ++ cond b (map analyze (leaf_text l)) []
    texts-last q b e =
        flat_map-append (λ (p : List ℕ × Leaf). cond (bytes_eq q p.0) (map analyze (leaf_text p.1)) []) found ((path, l) ∷ [])
        ∙ ap (λ r. path_texts analyze q found ++ r) (append-nil (cond (bytes_eq q path) (map analyze (leaf_text l)) []))
        ∙ ap (λ c. path_texts analyze q found ++ cond c (map analyze (leaf_text l)) []) e

    leaves-last : (q : List ℕ) (b : Bool) → bytes_eq q path ≡ b → on_path q (found ++ (path, l) ∷ []) ≡ on_path q found ++ cond b ((path, l) ∷ []) []
    leaves-last q b e =
        filter-append (λ (p : List ℕ × Leaf). bytes_eq q p.0) found ((path, l) ∷ [])
        ∙ ap (λ c. on_path q found ++ cond c ((path, l) ∷ []) []) e

    texts-other : (q : List ℕ) → bytes_eq q path ≡ false → path_texts analyze q (found ++ (path, l) ∷ []) ≡ path_texts analyze q found
    texts-other q e = texts-last q false e ∙ append-nil (path_texts analyze q found)

    leaves-other : (q : List ℕ) → bytes_eq q path ≡ false → on_path q (found ++ (path, l) ∷ []) ≡ on_path q found
    leaves-other q e = leaves-last q false e ∙ append-nil (on_path q found)

    count-same : (q : List ℕ) → bytes_eq q path ≡ true → length (on_path q (found ++ (path, l) ∷ [])) ≡ length (on_path q found) + 1
    count-same q e = ap length (leaves-last q true e) ∙ length-append (on_path q found) ((path, l) ∷ [])

    other : (q : List ℕ) → bytes_eq q path ≡ false → totals_on analyze q (found ++ (path, l) ∷ []) ≡ totals_on analyze q found
    other q e = ap (λ n. totals_of n (path_texts analyze q (found ++ (path, l) ∷ []))) (ap length (leaves-other q e)) ∙ ap (totals_of (length (on_path q found))) (texts-other q e)

    same : (q : List ℕ) → bytes_eq q path ≡ true → totals_on analyze q (found ++ (path, l) ∷ []) ≡ with_more (totals_on analyze q found) (size_of (map analyze (leaf_text l)))
    same q e =
        ap (λ n. totals_of n (path_texts analyze q (found ++ (path, l) ∷ []))) (count-same q e)
        ∙ ap (totals_of (length (on_path q found) + 1)) (texts-last q true e)
        ∙ (λ i. record {
          size = size-add (path_texts analyze q found) (map analyze (leaf_text l)) i;
          count = saturated-one (length (on_path q found)) i;
        })

    -- ---- the limits with one more leaf

    fits-other : (q : List ℕ) → bytes_eq q path ≡ false → fits_on analyze (found ++ (path, l) ∷ []) q ≡ fits_on analyze found q
    fits-other q e = ap (λ texts. texts_fit texts && is_u32 (length (on_path q (found ++ (path, l) ∷ [])))) (texts-other q e) ∙ ap (λ ls. texts_fit (path_texts analyze q found) && is_u32 (length ls)) (leaves-other q e)

    fits-before : (q : List ℕ) → bytes_eq q path ≡ true → fits_on analyze (found ++ (path, l) ∷ []) q ≡ true → fits_on analyze found q ≡ true
    fits-before q e h =
        less-fit (length (on_path q found)) (path_texts analyze q found) (map analyze (leaf_text l)) (length (on_path q (found ++ (path, l) ∷ []))) (omega (arith, count-same q e))
        (ap (λ texts. texts_fit texts && is_u32 (length (on_path q (found ++ (path, l) ∷ [])))) (sym (texts-last q true e)) ∙ h)

    -- where this path is within the limits, each is as it was
    as_before : fits_on analyze (found ++ (path, l) ∷ []) path ≡ true → (q : List ℕ) → fits_on analyze (found ++ (path, l) ∷ []) q ≡ fits_on analyze found q
    as_before h q = by_case (bytes_eq q path) refl
      where
        by_case : (b : Bool) → bytes_eq q path ≡ b → fits_on analyze (found ++ (path, l) ∷ []) q ≡ fits_on analyze found q
        by_case false e = fits-other q e
        by_case true e =
            let fits : fits_on analyze (found ++ (path, l) ∷ []) q ≡ true = ap (fits_on analyze (found ++ (path, l) ∷ [])) ((bytes_decides q path).0 e) ∙ h in
            fits ∙ sym (fits-before q e fits)

    pub paths-last : paths_fit analyze (found ++ (path, l) ∷ []) ≡ (paths_fit analyze found && fits_on analyze (found ++ (path, l) ∷ []) path)
    paths-last = list_all-append (λ (p : List ℕ × Leaf). fits_on analyze (found ++ (path, l) ∷ []) p.0) found ((path, l) ∷ []) ∙ by_case (fits_on analyze (found ++ (path, l) ∷ []) path) refl
      where
        none : (a b : Bool) → (a && (false && true)) ≡ (b && false)
        none true true = refl
        none true false = refl
        none false true = refl
        none false false = refl

        by_case : (b : Bool) → fits_on analyze (found ++ (path, l) ∷ []) path ≡ b → (list_all (λ p. fits_on analyze (found ++ (path, l) ∷ []) p.0) found && (fits_on analyze (found ++ (path, l) ∷ []) path && true)) ≡ (paths_fit analyze found && fits_on analyze (found ++ (path, l) ∷ []) path)
        by_case true e =
            ap (λ c. list_all (λ p. fits_on analyze (found ++ (path, l) ∷ []) p.0) found && (c && true)) e
            ∙ ap (λ (f : List ℕ → Bool). list_all (λ p. f p.0) found && true) (λ i q. as_before e q i)
            ∙ ap (λ c. paths_fit analyze found && c) (sym e)
        by_case false e =
            ap (λ c. list_all (λ p. fits_on analyze (found ++ (path, l) ∷ []) p.0) found && (c && true)) e
            ∙ none (list_all (λ p. fits_on analyze (found ++ (path, l) ∷ []) p.0) found) (paths_fit analyze found)
            ∙ ap (λ c. paths_fit analyze found && c) (sym e)

    -- ---- by number

    pub stands-more : (paths after : PathTotals) (number : ℕ) (w : Totals) (size : TextSize)
        → number_of paths.table path ≡ Some number → size ≡ size_of (map analyze (leaf_text l))
        → w ≡ with_more (get_or paths.totals.items number no_totals) size → after.table ≡ paths.table
        → ((k : ℕ) → get_or after.totals.items k no_totals
        ≡ cond (k == number) w (get_or paths.totals.items k no_totals))
        → length after.totals.items ≡ max (length paths.totals.items) (number + 1)
        → after.are_within ≡ (paths.are_within && totals_fit w) → PathsStand analyze paths found
        → PathsStand analyze after (found ++ (path, l) ∷ [])
    stands-more paths after number w size here is_size is_w same_table sets many within stands = record {
      at = each;
      few = few;
      within = all;
    }
      where
        w-is : w ≡ totals_on analyze path (found ++ (path, l) ∷ [])
        w-is = is_w
            ∙ ap (λ o. with_more (total_in paths.totals.items o) size) (sym here)
            ∙ ap (λ t. with_more t size) (stands.at path) ∙ ap (with_more (totals_on analyze path found)) is_size
            ∙ sym (same path ((bytes_decides path path).1 refl))

        set_here : get_or after.totals.items number no_totals ≡ w
        set_here = sets number
            ∙ ap (λ b. cond b w (get_or paths.totals.items number no_totals)) ((Decides-eqb number number).1 refl)

        apart_there : (q : List ℕ) (k : ℕ) (b : Bool) → number_of paths.table q ≡ Some k → bytes_eq path q ≡ false
            → (k == number) ≡ b → get_or after.totals.items k no_totals ≡ get_or paths.totals.items k no_totals
        apart_there q k true is apart e =
            let other = (number-read paths.table q k is).1 in
            let this = (number-read paths.table path number here).1 in
            absurd (false≢true (sym apart ∙ (bytes_decides path q).1 (sym this
            ∙ ap (λ n. get_or paths.table n []) (sym ((Decides-eqb k number).0 e)) ∙ other)))
        apart_there q k false is apart e = sets k ∙ ap (λ b. cond b w (get_or paths.totals.items k no_totals)) e

        at_number : (q : List ℕ) (o : Option ℕ) → number_of paths.table q ≡ o → bytes_eq path q ≡ false
            → total_in after.totals.items o ≡ total_in paths.totals.items o
        at_number q None is apart = refl
        at_number q (Some k) is apart = apart_there q k (k == number) is apart refl

        by_case : (q : List ℕ) (b : Bool) → bytes_eq path q ≡ b
            → total_at after q ≡ totals_on analyze q (found ++ (path, l) ∷ [])
        by_case q true e =
            ap (λ t. total_in after.totals.items (number_of t q)) same_table
            ∙ ap (λ x. total_in after.totals.items (number_of paths.table x)) (sym ((bytes_decides path q).0 e))
            ∙ ap (total_in after.totals.items) here
            ∙ set_here ∙ w-is
            ∙ ap (λ x. totals_on analyze x (found ++ (path, l) ∷ [])) ((bytes_decides path q).0 e)
        by_case q false e =
            ap (λ t. total_in after.totals.items (number_of t q)) same_table
            ∙ at_number q (number_of paths.table q) refl e
            ∙ stands.at q ∙ sym (other q (nat_list_eq_equiv.symm q path ∙ e))

        each : (q : List ℕ) → total_at after q ≡ totals_on analyze q (found ++ (path, l) ∷ [])
        each q = by_case q (bytes_eq path q) refl

        few : length after.totals.items ≤ length after.table
        few =
            let lt : number < length paths.table = (number-read paths.table path number here).0 in
            let table : length after.table ≡ length paths.table = ap length same_table in
            omega (arith, lt, table, many, stands.few)

        all : after.are_within ≡ paths_fit analyze (found ++ (path, l) ∷ [])
        all = within ∙ ap (λ b. b && totals_fit w) stands.within
            ∙ ap (λ t. paths_fit analyze found && totals_fit t) w-is
            ∙ ap (λ b. paths_fit analyze found && b) (kept-fit (length (on_path path (found ++ (
              path,
              l,
            ) ∷ []))) (path_texts analyze path (found ++ (path, l) ∷ [])))
            ∙ sym paths-last

  -- ---- more paths get numbers

  pub stands-grown : (paths after : PathTotals) (found : List (List ℕ × Leaf)) → Extends paths.table after.table
      → after.totals.items ≡ paths.totals.items → after.are_within ≡ paths.are_within
      → PathsStand analyze paths found → PathsStand analyze after found
  stands-grown paths after found more same_totals same_within stands = record {
    at = each;
    few = few;
    within =
        same_within ∙ stands.within;
  }
    where
      few : length after.totals.items ≤ length after.table
      few =
          let many : length after.table ≡ length paths.table + length more.0 = ap length more.1
          ∙ length-append paths.table more.0 in
          let totals : length after.totals.items ≡ length paths.totals.items = ap length same_totals in
          omega (arith, many, totals, stands.few)

      new_number : (q : List ℕ) (o : Option ℕ) → number_of paths.table q ≡ None → number_of after.table q ≡ o
          → total_in paths.totals.items o ≡ no_totals
      new_number q None none is = refl
      new_number q (Some n) none is = get_or_past paths.totals.items n no_totals (omega (
        arith,
        stands.few,
        number-past paths.table after.table q n more none is,
      ))

      by_number : (q : List ℕ) (o : Option ℕ) → number_of paths.table q ≡ o
          → total_in paths.totals.items (number_of after.table q) ≡ total_in paths.totals.items o
      by_number q None is = new_number q (number_of after.table q) is refl
      by_number q (Some n) is = ap (total_in paths.totals.items) (number-kept paths.table after.table q n more is)

      each : (q : List ℕ) → total_at after q ≡ totals_on analyze q found
      each q = ap (λ l. total_in l (number_of after.table q)) same_totals
          ∙ by_number q (number_of paths.table q) refl ∙ stands.at q
