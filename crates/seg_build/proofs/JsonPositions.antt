-- Where a term of a JSON field occurs in a document: one of texts as in the texts of its path, any other at 0.
use Rattle.std.proofs.Common.{◌≡◌, ℕ, suc, ◌+◌, ◌≤◌, ◌^◌, Bool, true, false, cond, List, [], ◌∷◌, ◌++◌, map, length, sym, refl, ap, ◌∙◌, subst, arith, append_assoc, append-nil, length-append}
use Rattle.std.specs.Prelude.{filter, nat_lt, pos}
use Rattle.std.specs.List.{AllByRecursion}
use Rattle.std.specs.Int.{w64, to_be_bytes}
use Rattle.seg_common.specs.MappableValues.{raised}
use Rattle.seg_common.proofs.Lists.{all_both}
use Rattle.std.specs.Str.{bytes_eq}
use Rattle.std.specs.Cmp.Lexicographic.{bytes_decides}
use Rattle.std.proofs.lemmas.Bool.{false≢true}
use Rattle.std.proofs.lemmas.Grind.{flat_map-append}
use Rattle.seg_tokens.specs.declared.token.Token.{Token}
use Rattle.seg_values.specs.Tree.{Leaf, null, text, pre_tokenized, unsigned, signed, boolean, date, facet, byte_string, ip}
use Rattle.seg_model.specs.DocumentCheck.{has_no_zero, leaves_with_path}
use Rattle.seg_model.specs.Leaves.{PlacedLeaf, joined_path}
use Rattle.seg_model.specs.Occurrences.{Occurrence, at_zero, counted, start_after, start_after_all, placed_from, leaf_text, texts_at, text_occurrences, leaf_occurrences, json_occurrences, coded_value}
use Rattle.seg_model.specs.DocumentTerms.{positions_of, type_code}
use Rattle.seg_model.specs.Shape.{path_part}
use Rattle.seg_model.proofs.Exports.{path_part-path, type_code-path}
use Rattle.seg_build.proofs.PlainPaths.{IsPlainLeaf, value_part, value_after, in_parts}
use Rattle.seg_build.proofs.ModelLeaves.{starts_add}

-- ---- positions of some bytes

none_among : (q : List ℕ) (os : List Occurrence) → AllByRecursion (λ (o : Occurrence). bytes_eq q o.bytes ≡ false) os
    → positions_of q os ≡ []
none_among q [] h = refl
none_among q (o ∷ os) h = ap (λ b. map (λ (x : Occurrence). x.position)
    (cond b (o ∷ filter (λ x. bytes_eq q x.bytes) os) (filter (λ x. bytes_eq q x.bytes) os))) h.0 ∙ none_among q os h.1

positions-append : (q : List ℕ) (xs ys : List Occurrence) → positions_of q (xs ++ ys)
    ≡ positions_of q xs ++ positions_of q ys
positions-append q [] ys = refl
positions-append q (x ∷ xs) ys = by (bytes_eq q x.bytes) (positions-append q xs ys)
  where
    by : (b : Bool) → positions_of q (xs ++ ys) ≡ positions_of q xs ++ positions_of q ys
        → map (λ (o : Occurrence). o.position)
        (cond b (x ∷ filter (λ o. bytes_eq q o.bytes) (xs ++ ys)) (filter (λ o. bytes_eq q o.bytes) (xs ++ ys)))
        ≡ map (λ (o : Occurrence). o.position)
        (cond b (x ∷ filter (λ o. bytes_eq q o.bytes) xs) (filter (λ o. bytes_eq q o.bytes) xs)) ++ positions_of q ys
    by true rest = ap (λ l. x.position ∷ l) rest
    by false rest = rest

-- what makes two texts differ
differ : {X : Type 0} (f : List ℕ → X) (q r : List ℕ) (x : X) → f r ≡ x → (f q ≡ x → ⊥) → bytes_eq q r ≡ false
differ f q r x is other = by (bytes_eq q r) refl
  where
    by : (b : Bool) → bytes_eq q r ≡ b → b ≡ false
    by true same = absurd (other (ap f ((bytes_decides q r).0 same) ∙ is))
    by false same = refl

-- ---- one leaf

module _ (analyze : List ℕ → List Token) (q : List ℕ) (path : List ℕ) (plain : has_no_zero path ≡ true) where
  -- bytes of another path
  other_tokens : (path_part q ≡ path → ⊥) → (start : ℕ) (ts : List Token)
      → AllByRecursion (λ (o : Occurrence). bytes_eq q o.bytes
      ≡ false) (map (λ (t : Token). record
      { bytes = (path ++ 0 ∷ 115 ∷ []) ++ t.text; position = start + t.position }) ts)
  other_tokens other start [] = tt
  other_tokens other start (t ∷ ts) = (
    differ path_part q ((path ++ 0 ∷ 115 ∷ []) ++ t.text) path (ap path_part (append_assoc path (0 ∷ 115 ∷ []) t.text)
        ∙ path_part-path path (115 ∷ t.text) plain) other,
    other_tokens other start ts,
  )

  other_codes : (path_part q ≡ path → ⊥) → (coded : List (List ℕ))
      → AllByRecursion (λ (o : Occurrence). bytes_eq q o.bytes ≡ false) (map (λ c. at_zero (path ++ 0 ∷ c)) coded)
  other_codes other [] = tt
  other_codes other (c ∷ cs) = (
    differ path_part q (path ++ 0 ∷ c) path (path_part-path path c plain) other,
    other_codes
        other cs,
  )

  pub other_path : (path_part q ≡ path → ⊥) → (start : ℕ) (l : Leaf)
      → positions_of q (leaf_occurrences analyze path start l) ≡ []
  other_path other start (text s) = none_among q (leaf_occurrences analyze path start (text s))
      (other_tokens other start (counted (analyze s)))
  other_path other start l = none_among q (leaf_occurrences analyze path start l) (other_codes other (coded_value l))

  -- bytes with the type code of texts, in a leaf that is none
  no_text_code : (type_code q ≡ 115) → (code : ℕ) (rest : List ℕ) → (115 ≡ code → ⊥)
      → bytes_eq q (path ++ 0 ∷ code ∷ rest) ≡ false
  no_text_code is code rest other = differ type_code q (path ++ 0 ∷ code ∷ rest) code
      (type_code-path path code rest plain) (λ e. other (sym is ∙ e))

  one_code : type_code q ≡ 115 → (code : ℕ) (rest : List ℕ) → (115 ≡ code → ⊥)
      → positions_of q (at_zero (path ++ 0 ∷ code ∷ rest) ∷ []) ≡ []
  one_code is code rest other = none_among q (at_zero (path ++ 0 ∷ code ∷ rest) ∷ [])
      (no_text_code is code rest other, tt)

  -- bytes with another type code, in a text
  no_text : (type_code q ≡ 115 → ⊥) → (start : ℕ) (ts : List Token)
      → AllByRecursion (λ (o : Occurrence). bytes_eq q o.bytes
      ≡ false) (map (λ (t : Token). record
      { bytes = (path ++ 0 ∷ 115 ∷ []) ++ t.text; position = start + t.position }) ts)
  no_text other start [] = tt
  no_text other start (t ∷ ts) = (
    differ type_code q ((path ++ 0 ∷ 115 ∷ []) ++ t.text) 115 (ap type_code (append_assoc path (0 ∷ 115 ∷ []) t.text)
        ∙ type_code-path path 115 t.text plain) other,
    no_text other start ts,
  )

  -- and so in a leaf that is no text
  no_code : type_code q ≡ 115 → (l : Leaf) → positions_of q (map (λ c. at_zero (path ++ 0 ∷ c)) (coded_value l)) ≡ []
  no_code is (unsigned n) = by (nat_lt n (2 ^ 63))
    where
      by : (b : Bool) → positions_of q
          (at_zero (path ++ 0 ∷ cond b (105 ∷ to_be_bytes w64 (raised (pos n))) (117 ∷ to_be_bytes w64 n)) ∷ []) ≡ []
      by true = one_code is 105 _ (λ e. let none : ⊥ = omega (arith, e) in none)
      by false = one_code is 117 _ (λ e. let none : ⊥ = omega (arith, e) in none)
  no_code is (signed z) = one_code is 105 _ (λ e. let none : ⊥ = omega (arith, e) in none)
  no_code is (boolean b) = one_code is 111 _ (λ e. let none : ⊥ = omega (arith, e) in none)
  no_code is (date z) = one_code is 100 _ (λ e. let none : ⊥ = omega (arith, e) in none)
  no_code is null = refl
  no_code is (text s) = refl
  no_code is (pre_tokenized p) = refl
  no_code is (facet s) = refl
  no_code is (byte_string s) = refl
  no_code is (ip s) = refl

  -- a text of the path is among others as it is among texts
  module _ (own : path_part q ≡ path) (is : type_code q ≡ 115) where
    same_bytes : (x : List ℕ) → bytes_eq q ((path ++ 0 ∷ 115 ∷ []) ++ x) ≡ bytes_eq (value_part q) x
    same_bytes x = by (bytes_eq (value_part q) x) refl
      where
        whole : (path ++ 0 ∷ 115 ∷ []) ++ x ≡ path ++ 0 ∷ 115 ∷ x
        whole = append_assoc path (0 ∷ 115 ∷ []) x

        by : (b : Bool) → bytes_eq (value_part q) x ≡ b → bytes_eq q ((path ++ 0 ∷ 115 ∷ []) ++ x) ≡ b
        by true same =
            (bytes_decides q ((path ++ 0 ∷ 115 ∷ []) ++ x)).1
            (in_parts 115 (omega arith) q is ∙ ap (λ p. p ++ 0 ∷ 115 ∷ value_part q) own
            ∙ ap (λ v. path ++ 0 ∷ 115 ∷ v) ((bytes_decides (value_part q) x).0 same) ∙ sym whole)
        by false other =
            differ value_part q ((path ++ 0 ∷ 115 ∷ []) ++ x) x (ap value_part whole ∙ value_after path 115 x plain)
            (λ e. false≢true (sym other ∙ (bytes_decides (value_part q) x).1 e))

    abbrev in_path : ℕ → Token → Occurrence
    in_path start t = record { bytes = (path ++ 0 ∷ 115 ∷ []) ++ t.text; position = start + t.position }

    abbrev in_text : ℕ → Token → Occurrence
    in_text start t = record { bytes = [] ++ t.text; position = start + t.position }

    among_tokens : (start : ℕ) (ts : List Token) → positions_of q (map (in_path start) ts)
        ≡ positions_of (value_part q) (map (in_text start) ts)
    among_tokens start [] = refl
    among_tokens start (t ∷ ts) =
        ap (λ b. map (λ (o : Occurrence). o.position)
        (cond b (in_path start t ∷ filter (λ o. bytes_eq q o.bytes) (map (in_path start) ts))
        (filter (λ o. bytes_eq q o.bytes) (map (in_path start) ts)))) (same_bytes t.text)
        ∙ by (bytes_eq (value_part q) t.text) (among_tokens start ts)
      where
        by : (b : Bool) → positions_of q (map (in_path start) ts) ≡ positions_of (value_part q) (map (in_text start) ts)
            → map (λ (o : Occurrence). o.position)
            (cond b (in_path start t ∷ filter (λ o. bytes_eq q o.bytes) (map (in_path start) ts))
            (filter (λ o. bytes_eq q o.bytes) (map (in_path start) ts)))
            ≡ map (λ (o : Occurrence). o.position)
            (cond b (in_text start t ∷ filter (λ o. bytes_eq (value_part q) o.bytes) (map (in_text start) ts))
            (filter (λ o. bytes_eq (value_part q) o.bytes) (map (in_text start) ts)))
        by true rest = ap (λ l. (start + t.position) ∷ l) rest
        by false rest = rest

-- ---- positions that are 0

-- positions that are all 0, and are at most this many
pub record ZeroUpTo (n : ℕ) (ps : List ℕ) : Type 0 where
  pub are_zero : AllByRecursion (λ p. p ≡ 0) ps
  pub few : length ps ≤ n

no_zeros : (n : ℕ) (ps : List ℕ) → ps ≡ [] → ZeroUpTo n ps
no_zeros n ps none = subst (ZeroUpTo n) (sym none) (record { are_zero = tt; few = omega arith })

both_zero : (n m : ℕ) (ps qs : List ℕ) → ZeroUpTo n ps → ZeroUpTo m qs → ZeroUpTo (n + m) (ps ++ qs)
both_zero n m ps qs a b = record {
  are_zero = all_both (λ p. p ≡ 0) ps qs a.are_zero b.are_zero;
  few = let l = a.few in let r = b.few in omega (arith, length-append ps qs, l, r);
}

single : (q x : List ℕ) → ZeroUpTo 1 (positions_of q (at_zero x ∷ []))
single q x = by (bytes_eq q x)
  where
    by : (b : Bool) → ZeroUpTo 1 (map (λ (o : Occurrence). o.position) (cond b (at_zero x ∷ []) []))
    by true = record { are_zero = (refl, tt); few = omega arith }
    by false = record { are_zero = tt; few = omega arith }

-- ---- the leaves of a document

module _ (e : Bool) (analyze : List ℕ → List Token) (q : List ℕ) where
  abbrev own : List ℕ
  own = path_part q

  texts_add : (start : ℕ) (xs ys : List (List Token)) → text_occurrences start (xs ++ ys)
      ≡ text_occurrences start xs ++ text_occurrences (start_after_all start xs) ys
  texts_add start [] ys = refl
  texts_add start (x ∷ xs) ys =
      ap (λ l. placed_from start [] x ++ l) (texts_add (start_after start x) xs ys)
      ∙ sym (append_assoc (placed_from start [] x) (text_occurrences (start_after start x) xs)
      (text_occurrences (start_after_all (start_after start x) xs) ys))

  -- where the next text of a path begins
  abbrev start_at : List PlacedLeaf → List ℕ → ℕ
  start_at before path = start_after_all 0 (texts_at e analyze path before)

  -- the texts of a leaf at the path of these bytes
  abbrev texts_in : PlacedLeaf → List (List Token)
  texts_in p = cond (bytes_eq own (joined_path e p.keys)) (map analyze (leaf_text p.leaf)) []

  start-next : (before : List PlacedLeaf) (p : PlacedLeaf) → start_at (before ++ p ∷ []) own
      ≡ start_after_all (start_at before own) (texts_in p)
  start-next before p =
      ap (start_after_all 0) (flat_map-append texts_in before (p ∷ [])
      ∙ ap (λ l. texts_at e analyze own before ++ l) (append-nil (texts_in p)))
      ∙ starts_add 0 (texts_at e analyze own before) (texts_in p)

  not_own : (path : List ℕ) → bytes_eq own path ≡ false → own ≡ path → ⊥
  not_own path other same = false≢true (sym other ∙ (bytes_decides own path).1 same)

  module _ (is : type_code q ≡ 115) where
    leaf_among : (start : List ℕ → ℕ) (path : List ℕ) → has_no_zero path ≡ true → (l : Leaf) (b : Bool)
        → bytes_eq own path ≡ b
        → positions_of q (leaf_occurrences analyze path (start path) l)
        ≡ positions_of (value_part q) (text_occurrences (start own) (cond b (map analyze (leaf_text l)) []))
    leaf_among start path plain (text s) true same =
        let at : own ≡ path = (bytes_decides own path).0 same in
        among_tokens analyze q path plain at is (start path) (counted (analyze s))
        ∙ ap (λ p. positions_of (value_part q) (placed_from (start p) [] (analyze s))) (sym at)
        ∙ ap (positions_of (value_part q)) (sym (append-nil (placed_from (start own) [] (analyze s))))
    leaf_among start path plain l true same = no_code analyze q path plain is l
    leaf_among start path plain l false other = other_path analyze q path plain (not_own path other) (start path) l

    -- bytes with the type code of texts occur as in the texts of their path
    pub in_texts : (before found : List PlacedLeaf) → AllByRecursion (IsPlainLeaf e) found
        → positions_of q (json_occurrences e analyze before found)
        ≡ positions_of (value_part q) (text_occurrences (start_at before own) (texts_at e analyze own found))
    in_texts before [] plain = refl
    in_texts before (p ∷ found) plain =
        let path = joined_path e p.keys in
        positions-append q (leaf_occurrences analyze path (start_at before path) p.leaf)
        (json_occurrences e analyze (before ++ p ∷ []) found)
        ∙ (λ i. leaf_among (start_at before) path plain.0 p.leaf (bytes_eq own path) refl i ++ in_texts
        (before ++ p ∷ []) found plain.1 i)
        ∙ sym (positions-append (value_part q) (text_occurrences (start_at before own) (texts_in p))
        (text_occurrences (start_at (before ++ p ∷ []) own) (texts_at e analyze own found)))
        ∙ ap (λ n. positions_of (value_part q)
        (text_occurrences (start_at before own) (texts_in p) ++ text_occurrences n
        (texts_at e analyze own found))) (start-next before p)
        ∙ ap (positions_of (value_part q))
        (sym (texts_add (start_at before own) (texts_in p) (texts_at e analyze own found)))

  module _ (other : type_code q ≡ 115 → ⊥) where
    coded_zero : (path : List ℕ) (l : Leaf)
        → ZeroUpTo 1 (positions_of q (map (λ c. at_zero (path ++ 0 ∷ c)) (coded_value l)))
    coded_zero path (unsigned n) = single q
        (path ++ 0 ∷ cond (nat_lt n (2 ^ 63)) (105 ∷ to_be_bytes w64 (raised (pos n))) (117 ∷ to_be_bytes w64 n))
    coded_zero path (signed z) = single q _
    coded_zero path (boolean b) = single q _
    coded_zero path (date z) = single q _
    coded_zero path l = no_zeros 1 [] refl

    leaf_zero : (path : List ℕ) → has_no_zero path ≡ true → (start : ℕ) (l : Leaf)
        → ZeroUpTo 1 (positions_of q (leaf_occurrences analyze path start l))
    leaf_zero path plain start (text s) = no_zeros 1 _
        (none_among q (leaf_occurrences analyze path start (text s))
        (no_text analyze q path plain other start (counted (analyze s))))
    leaf_zero path plain start l = coded_zero path l

    -- bytes with another type code occur at 0, in no more than the leaves of their path
    pub in_leaves : (before found : List PlacedLeaf) → AllByRecursion (IsPlainLeaf e) found
        → ZeroUpTo (length (leaves_with_path e own found)) (positions_of q (json_occurrences e analyze before found))
    in_leaves before [] plain = record { are_zero = tt; few = omega arith }
    in_leaves before (p ∷ found) plain =
        let path = joined_path e p.keys in
        let start = start_at before path in
        let rest = in_leaves (before ++ p ∷ []) found plain.1 in
        subst (ZeroUpTo (length (leaves_with_path e own (p ∷ found))))
        (sym (positions-append q (leaf_occurrences analyze path start p.leaf)
        (json_occurrences e analyze (before ++ p ∷ []) found)))
        (by path start plain.0 (bytes_eq own path) refl
        (positions_of q (json_occurrences e analyze (before ++ p ∷ []) found)) rest)
      where
        by : (path : List ℕ) (start : ℕ) → has_no_zero path ≡ true → (b : Bool) → bytes_eq own path ≡ b → (ps : List ℕ)
            → ZeroUpTo (length (leaves_with_path e own found)) ps
            → ZeroUpTo (length (cond b (p ∷ leaves_with_path e own found) (leaves_with_path e own found)))
            (positions_of q (leaf_occurrences analyze path start p.leaf) ++ ps)
        by path start plain true same ps rest =
            subst (λ n. ZeroUpTo n (positions_of q (leaf_occurrences analyze path start p.leaf) ++ ps))
            (let z : 1 + length (leaves_with_path e own found)
            ≡ suc (length (leaves_with_path e own found)) = omega arith in z)
            (both_zero 1 (length (leaves_with_path e own found))
            (positions_of q (leaf_occurrences analyze path start p.leaf)) ps (leaf_zero path plain start p.leaf)
            rest)
        by path start plain false differs ps rest =
            subst (λ l. ZeroUpTo (length (leaves_with_path e own found)) (l ++ ps))
            (sym (other_path analyze q path plain (not_own path differs) start p.leaf)) rest
