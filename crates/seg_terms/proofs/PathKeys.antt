-- Keys with numbers of paths, and the terms that they are.
use Rattle.std.proofs.Common.{◌≡◌, ℕ, ◌+◌, ◌<◌, ◌^◌, Bool, true, false, cond, List, [], ◌∷◌, ◌++◌, map, length, get_or, drop, refl, sym, ap, ◌∙◌, subst}
use Rattle.std.specs.Prelude.{not, ◌||◌, Result, Ok, Err, OnOk}
use Rattle.std.specs.Cmp.Lexicographic.{bytes_decides}
use Rattle.std.specs.List.{AllByRecursion, IsDistinct, list_any}
use Rattle.std.specs.Str.{bytes_eq}
use Rattle.std.proofs.lemmas.Bool.{false≢true}
use Rattle.std.proofs.lemmas.List.{get_or_append_left, length-map, map_push}
use Rattle.std.proofs.lemmas.Nat.{from_le_bytes-to_le_bytes_4}
use Rattle.seg_paths.specs.Paths.{Extends, HaveNoZero}
use Rattle.seg_paths.proofs.Exports.{ended-apart, no_zero-at, same_place}
use Rattle.seg_terms.specs.AddedOccurrences.{with_occurrence}
use Rattle.seg_column_format.specs.NumberedTerms.{term_number, with_term}
use Rattle.seg_terms.specs.TermsByKey.{AreKnown, IsAdded}
use Rattle.seg_terms.specs.NumberedOccurrences.{AreBelow, numbered_terms}
use Rattle.seg_terms.specs.PathKeys.{IsPathKey, TermsOnPaths, key_path, path_key, term_on}
use Rattle.seg_terms.specs.declared.hit.Hit.{Hit}
use Rattle.seg_terms.specs.declared.known_terms.KnownTerms.{KnownTerms}
use Rattle.seg_terms.proofs.NumberedOccurrences.{added_by_key}

-- ---- what a key is

number-kept : (number : ℕ) (rest : List ℕ) → number < 2 ^ 32 → key_path (path_key number rest) ≡ number
unfolding key_path path_key
number-kept number rest small = from_le_bytes-to_le_bytes_4 number small

rest-kept : (number : ℕ) (rest : List ℕ) → drop 4 (path_key number rest) ≡ rest
unfolding path_key
rest-kept number rest = refl

pub term-kept : (paths : List (List ℕ)) (number : ℕ) (rest : List ℕ) → number < 2 ^ 32
    → term_on paths (path_key number rest) ≡ get_or paths number [] ++ 0 ∷ rest
term-kept paths number rest small =
    λ i. get_or paths (number-kept number rest small i) [] ++ 0 ∷ rest-kept number rest i

module _ (count : ℕ) (key : List ℕ) (is : IsPathKey count key) where
  pub number-of : key_path key ≡ is.number
  number-of = ap key_path is.is ∙ number-kept is.number is.rest is.small

  pub path-within : key_path key < count
  path-within = subst (λ n. n < count) (sym number-of) is.within

  pub rest-of : drop 4 key ≡ is.rest
  rest-of = ap (drop 4) is.is ∙ rest-kept is.number is.rest

-- ---- two keys are two terms

module _ (paths : List (List ℕ)) (plain : HaveNoZero paths) (distinct : IsDistinct bytes_eq paths) where
  pub term_on-apart : (a b : List ℕ) → IsPathKey (length paths) a → IsPathKey (length paths) b
      → term_on paths a ≡ term_on paths b → a ≡ b
  term_on-apart a b is other same =
      let n = length paths in
      let parts = ended-apart (get_or paths (key_path a) []) (get_or paths (key_path b) []) (drop 4 a) (drop 4 b)
      (no_zero-at paths (key_path a) plain) (no_zero-at paths (key_path b) plain) same in
      let number : is.number ≡ other.number = sym (number-of n a is)
      ∙ same_place paths (key_path a) (key_path b) distinct (path-within n a is) (path-within n b other) parts.0
      ∙ number-of n b other in
      let rest : is.rest ≡ other.rest = sym (rest-of n a is) ∙ parts.1 ∙ rest-of n b other in
      is.is ∙ (λ i. path_key (number i) (rest i)) ∙ sym other.is

  eq-kept : (a b : List ℕ) → IsPathKey (length paths) a → IsPathKey (length paths) b
      → bytes_eq (term_on paths a) (term_on paths b) ≡ bytes_eq a b
  eq-kept a b is other = by (bytes_eq (term_on paths a) (term_on paths b)) (bytes_eq a b) refl refl
    where
      by : (x y : Bool) → bytes_eq (term_on paths a) (term_on paths b) ≡ x → bytes_eq a b ≡ y
          → bytes_eq (term_on paths a) (term_on paths b) ≡ bytes_eq a b
      by true true e f = e ∙ sym f
      by false false e f = e ∙ sym f
      by true false e f = absurd (false≢true (sym f ∙ (bytes_decides a b).1 (term_on-apart a b is other
          ((bytes_decides (term_on paths a) (term_on paths b)).0 e))))
      by false true e f = absurd (false≢true (sym e ∙ (bytes_decides (term_on paths a) (term_on paths b)).1
          (ap (term_on paths) ((bytes_decides a b).0 f))))

  module _ (q : List ℕ) (here : IsPathKey (length paths) q) where
    any-kept : (keys : List (List ℕ)) → AllByRecursion (IsPathKey (length paths)) keys
        → list_any (bytes_eq (term_on paths q)) (map (term_on paths) keys) ≡ list_any (bytes_eq q) keys
    any-kept [] all = refl
    any-kept (k ∷ ks) all =
        let first = eq-kept q k here all.0 in
        let rest = any-kept ks all.1 in
        λ i. first i || rest i

    place-kept : (keys : List (List ℕ)) → AllByRecursion (IsPathKey (length paths)) keys
        → term_number (map (term_on paths) keys) (term_on paths q) ≡ term_number keys q
    place-kept [] all = refl
    place-kept (k ∷ ks) all =
        let first = eq-kept q k here all.0 in
        let rest = place-kept ks all.1 in
        λ i. cond (not (first i)) (1 + rest i) 0

    keys-kept : (keys : List (List ℕ)) → AllByRecursion (IsPathKey (length paths)) keys
        → with_term (map (term_on paths) keys) (term_on paths q) ≡ map (term_on paths) (with_term keys q)
    keys-kept keys all =
        ap (λ b. cond b (map (term_on paths) keys) (map (term_on paths) keys ++ term_on paths q ∷ [])) (any-kept keys all)
        ∙ by (list_any (bytes_eq q) keys)
      where
        by : (b : Bool) → cond b (map (term_on paths) keys) (map (term_on paths) keys ++ term_on paths q ∷ [])
            ≡ map (term_on paths) (cond b keys (keys ++ q ∷ []))
        by true = refl
        by false = sym (map_push (term_on paths) keys q)

  apart-kept : (k : List ℕ) (ks : List (List ℕ)) → IsPathKey (length paths) k
      → AllByRecursion (IsPathKey (length paths)) ks → AllByRecursion (λ y. bytes_eq k y ≡ false) ks
      → AllByRecursion (λ y. bytes_eq (term_on paths k) y ≡ false) (map (term_on paths) ks)
  apart-kept k [] is all apart = tt
  apart-kept k (j ∷ js) is all apart = (eq-kept k j is all.0 ∙ apart.0, apart-kept k js is all.1 apart.1)

  pub distinct-kept : (keys : List (List ℕ)) → AllByRecursion (IsPathKey (length paths)) keys → IsDistinct bytes_eq keys
      → IsDistinct bytes_eq (map (term_on paths) keys)
  unfolding IsDistinct
  distinct-kept [] all apart = tt
  distinct-kept (k ∷ ks) all apart = (apart-kept k ks all.0 all.1 apart.0, distinct-kept ks all.1 apart.1)

-- ---- more paths

module _ (old new : List (List ℕ)) (more : Extends old new) where
  same-terms : (keys : List (List ℕ)) → AllByRecursion (IsPathKey (length old)) keys
      → map (term_on new) keys ≡ map (term_on old) keys
  same-terms [] all = refl
  same-terms (k ∷ ks) all =
      let path : get_or new (key_path k) [] ≡ get_or old (key_path k) [] =
      ap (λ (ps : List (List ℕ)). get_or ps (key_path k) []) more.1
      ∙ get_or_append_left old more.0 [] (key_path k) (path-within (length old) k all.0) in
      let rest = same-terms ks all.1 in
      λ i. (path i ++ 0 ∷ drop 4 k) ∷ rest i

-- a field with more paths
module _ (known : KnownTerms) (old new : List (List ℕ)) (index : TermsOnPaths) (more : Extends old new)
    (seen : record { paths = old; terms = numbered_terms (map (term_on old) known.keys.keys) known.hits.items } ≡ index)
    (all : AllByRecursion (IsPathKey (length old)) known.keys.keys) where
  pub terms_stay : numbered_terms (map (term_on new) known.keys.keys) known.hits.items ≡ index.terms
  terms_stay = ap (λ ks. numbered_terms ks known.hits.items) (same-terms old new more known.keys.keys all)
      ∙ ap (λ (x : TermsOnPaths). x.terms) seen

-- ---- one more occurrence

-- terms that are known by keys, on paths
abbrev pub on_paths : List (List ℕ) → KnownTerms → TermsOnPaths
on_paths paths known = record {
  paths = paths;
  terms = numbered_terms (map (term_on paths) known.keys.keys) known.hits.items;
}

-- the same terms with one occurrence
abbrev pub with_one : TermsOnPaths → ℕ → List ℕ → Hit → TermsOnPaths
with_one index number rest h = record {
  paths = index.paths;
  terms = with_occurrence index.terms h.document (record {
    bytes = get_or index.paths number [] ++ 0 ∷ rest;
    position = h.position;
  });
}

module _ (paths : List (List ℕ)) (old new : KnownTerms) (number : ℕ) (rest key : List ℕ) (h : Hit)
    (all : AllByRecursion (IsPathKey (length paths)) old.keys.keys) (within : number < length paths)
    (small : number < 2 ^ 32) (key_is : key ≡ path_key number rest) where
  here : IsPathKey (length paths) key
  here = record { number = number; rest = rest; is = key_is; within = within; small = small }

  module _ (plain : HaveNoZero paths) (distinct : IsDistinct bytes_eq paths) (known : AreKnown old)
      (index : TermsOnPaths)
      (seen : on_paths paths old ≡ index) where
    few : AreBelow (length (map (term_on paths) old.keys.keys)) old.hits.items
    few = subst (λ n. AreBelow n old.hits.items) (sym (length-map old.keys.keys (term_on paths))) known.1

    added : IsAdded key h old new → numbered_terms (map (term_on paths) new.keys.keys) new.hits.items
        ≡ with_occurrence index.terms h.document (record {
          bytes = get_or index.paths number [] ++ 0 ∷ rest;
          position = h.position;
        })
    added is =
        (λ i. numbered_terms (map (term_on paths) (is.keys i)) (is.hits i))
        ∙ (λ i. numbered_terms (sym (keys-kept paths plain distinct key here old.keys.keys all) i)
        (old.hits.items ++ record {
          term = sym (place-kept paths plain distinct key here old.keys.keys all) i;
          hit = h;
        } ∷ []))
        ∙ added_by_key (map (term_on paths) old.keys.keys) old.hits.items index.terms
        (ap (λ (x : TermsOnPaths). x.terms) seen) few (term_on paths key) h
        ∙ ap (λ (bytes : List ℕ). with_occurrence index.terms h.document (record {
          bytes = bytes;
          position = h.position;
        })) (ap (term_on paths) key_is ∙ term-kept paths number rest small
        ∙ ap (λ (x : TermsOnPaths). get_or x.paths number [] ++ 0 ∷ rest) seen)

    pub added_on_path : {X Y : Type 0} (r : Result X Y) → OnOk r (IsAdded key h old new)
        → OnOk r (on_paths paths new ≡ with_one index number rest h)
    added_on_path (Ok x) is =
        let terms = added is in
        let same = ap (λ (x : TermsOnPaths). x.paths) seen in
        λ i. record { paths = same i; terms = terms i }
    added_on_path (Err e) is = tt
