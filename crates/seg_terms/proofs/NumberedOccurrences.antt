-- Occurrences of numbered terms, with one more.
use Rattle.std.proofs.Common.{◌≡◌, ◌≢◌, ℕ, zero, suc, ◌+◌, ◌^◌, ◌<◌, ◌≤◌, Bool, true, false, cond, List, [], ◌∷◌, ◌++◌, map, length, get_or, Some, None, Option, sym, refl, ap, subst, ◌∙◌, arith, is_some, unwrap_or}
use Rattle.std.specs.Prelude.{filter, nat_eq, ◌||◌, Result, Ok, Err, OnOk}
use Rattle.std.specs.Cmp.Lexicographic.{bytes_decides}
use Rattle.std.specs.List.{list_any, position}
use Rattle.std.specs.Str.{bytes_eq}
use Rattle.std.specs.Map.{lookup}
use Rattle.std.specs.FinMap.{get}
use Rattle.std.proofs.lemmas.Bool.{false≢true, or_parts}
use Rattle.std.proofs.lemmas.Bool.Decides.{Decides-eqb}
use Rattle.std.proofs.lemmas.List.{length_push}
use Rattle.std.proofs.lemmas.List.Quantifiers.{position-Some}
use Rattle.std.proofs.lemmas.List.Sums.{fails_before_first, passes_at_first}
use Rattle.seg_model.specs.DocumentTerms.{Posting, Terms}
use Rattle.seg_column_format.specs.NumberedTerms.{term_number, with_term}
use Rattle.seg_column_format.proofs.TermNumbers.{term_number-new, term_within}
use Rattle.seg_terms.specs.AddedOccurrences.{with_position, with_occurrence}
use Rattle.seg_terms.specs.TermEntries.{TermEntries}
use Rattle.seg_terms.specs.PostingGroups.{grouped}
use Rattle.seg_terms.specs.TermsByKey.{AreKnown, IsAdded}
use Rattle.seg_terms.specs.NumberedOccurrences.{hits_of, AreBelow, numbered_from, numbered_terms}
use Rattle.seg_terms.specs.declared.hit.Hit.{Hit}
use Rattle.seg_terms.specs.declared.hit.NumberedHit.{NumberedHit}
use Rattle.seg_terms.specs.declared.known_terms.KnownTerms.{KnownTerms}
use Rattle.seg_terms.proofs.ByteMaps.{same_by_bytes, get-lookup, get-insert_bytes}
use Rattle.seg_terms.proofs.PostingGroups.{grouped-push}

-- ---- the occurrences of one term

other_number : (n m : ℕ) → m ≢ n → nat_eq n m ≡ false
other_number n m ne = each (nat_eq n m) refl
  where
    each : (b : Bool) → nat_eq n m ≡ b → nat_eq n m ≡ false
    each true e = absurd (ne (sym ((Decides-eqb n m).0 e)))
    each false e = e

-- those of a list whose first one is kept where a test says so
abbrev pub kept_if : Bool → NumberedHit → ℕ → List NumberedHit → List Hit
kept_if b g n gs = map (λ (x : NumberedHit). x.hit)
    (cond b (g ∷ filter (λ (x : NumberedHit). nat_eq n x.term) gs) (filter (λ (x : NumberedHit). nat_eq n x.term) gs))

pub hits_of-same : (n : ℕ) (hits : List NumberedHit) (h : NumberedHit) → h.term ≡ n
    → hits_of n (hits ++ h ∷ []) ≡ hits_of n hits ++ h.hit ∷ []
hits_of-same n [] h e = ap (λ b. kept_if b h n []) ((Decides-eqb n h.term).1 (sym e))
hits_of-same n (g ∷ gs) h e =
    elim (nat_eq n g.term) as (λ b. kept_if b g n (gs ++ h ∷ []) ≡ kept_if b g n gs ++ h.hit ∷ []) [
      | true ↦ ap (λ l. g.hit ∷ l) (hits_of-same n gs h e)
      | false ↦ hits_of-same n gs h e
    ]

pub hits_of-other : (n : ℕ) (hits : List NumberedHit) (h : NumberedHit) → h.term ≢ n
    → hits_of n (hits ++ h ∷ []) ≡ hits_of n hits
hits_of-other n [] h ne = ap (λ b. kept_if b h n []) (other_number n h.term ne)
hits_of-other n (g ∷ gs) h ne =
    elim (nat_eq n g.term) as (λ b. kept_if b g n (gs ++ h ∷ []) ≡ kept_if b g n gs) [
      | true ↦ ap (λ l. g.hit ∷ l) (hits_of-other n gs h ne)
      | false ↦ hits_of-other n gs h ne
    ]

hits_of-none : (n count : ℕ) (hits : List NumberedHit) → count ≤ n → AreBelow count hits → hits_of n hits ≡ []
hits_of-none n count [] le below = refl
hits_of-none n count (g ∷ gs) le below =
    let lt : g.term < count = below.0 in
    ap (λ b. kept_if b g n gs) (other_number n g.term (λ e. omega (arith, lt, le, e)))
    ∙ hits_of-none n count gs le below.1

-- ---- look-ups

abbrev with_hit : Hit → List Posting → List Posting
with_hit h postings = with_position postings h.document h.position

-- an occurrence of a term before these changes nothing
numbered_from-later : (first : ℕ) (keys : List (List ℕ)) (hits : List NumberedHit) (h : NumberedHit) → h.term < first
    → numbered_from first keys (hits ++ h ∷ []) ≡ numbered_from first keys hits
numbered_from-later first [] hits h lt = refl
numbered_from-later first (k ∷ ks) hits h lt =
    let here = hits_of-other first hits h (λ e. omega (arith, lt, e)) in
    let rest = numbered_from-later (first + 1) ks hits h (omega (arith, lt)) in
    λ i. (k, grouped (here i)) ∷ rest i

-- the first of the keys with these bytes is the one at the place
abbrev pub IsFirstAt : List ℕ → ℕ → List (List ℕ) → Type 0
IsFirstAt bs n [] = ⊥
IsFirstAt bs zero (k ∷ ks) = bytes_eq bs k ≡ true
IsFirstAt bs (suc n) (k ∷ ks) = (bytes_eq bs k ≡ false) × IsFirstAt bs n ks

IsFirstAt-from : (bs : List ℕ) (n : ℕ) (keys : List (List ℕ)) → n < length keys → bytes_eq bs (get_or keys n []) ≡ true
    → ((k : ℕ) → k < n → bytes_eq bs (get_or keys k []) ≡ false) → IsFirstAt bs n keys
IsFirstAt-from bs n [] lt at before = absurd (omega arith)
IsFirstAt-from bs zero (k ∷ ks) lt at before = at
IsFirstAt-from bs (suc n) (k ∷ ks) lt at before =
    (before 0 (omega arith), IsFirstAt-from bs n ks (omega arith) at (λ i l. before (suc i) (omega arith)))

pub IsFirstAt-position : (bs : List ℕ) (n : ℕ) (keys : List (List ℕ)) → position (bytes_eq bs) keys ≡ Some n
    → IsFirstAt bs n keys
IsFirstAt-position bs n keys is = let p = position-Some (bytes_eq bs) keys n [] is in
    IsFirstAt-from bs n keys p.0 p.1 p.2

module _ (h : Hit) where
  found_here : (qb qk bk : Bool) (old : List Posting) (rest following : Option (List Posting)) → qb ≡ qk → bk ≡ true
      → cond qk (Some (with_hit h old)) rest
      ≡ cond qb (Some (with_hit h (unwrap_or (cond bk (Some old) following) []))) (cond qk (Some old) rest)
  found_here true true true old rest following a b = refl
  found_here true true false old rest following a b = absurd (false≢true b)
  found_here false false bk old rest following a b = refl
  found_here true false bk old rest following a b = absurd (false≢true (sym a))
  found_here false true bk old rest following a b = absurd (false≢true a)

  found_after : (qb qk bk : Bool) (old : List Posting) (new rest following : Option (List Posting))
      → (qb ≡ true → qk ≡ false) → bk ≡ false
      → new ≡ cond qb (Some (with_hit h (unwrap_or following []))) rest
      → cond qk (Some old) new ≡ cond qb (Some (with_hit h (unwrap_or (cond bk (Some old) following) [])))
      (cond qk (Some old) rest)
  found_after qb qk true old new rest following a b is = absurd (false≢true (sym b))
  found_after true true false old new rest following a b is = absurd (false≢true (sym (a refl)))
  found_after false true false old new rest following a b is = refl
  found_after qb false false old new rest following a b is = is

-- one more occurrence of the term with the number n
lookup-added : (first n : ℕ) (keys : List (List ℕ)) (hits : List NumberedHit) (h : NumberedHit) (bs q : List ℕ)
    → IsFirstAt bs n keys → h.term ≡ first + n
    → lookup (bytes_eq q) (numbered_from first keys (hits ++ h ∷ []))
    ≡ cond (bytes_eq q bs) (Some (with_hit h.hit
    (unwrap_or (lookup (bytes_eq bs) (numbered_from first keys hits)) [])))
    (lookup (bytes_eq q) (numbered_from first keys hits))
lookup-added first n [] hits h bs q at is = absurd at
lookup-added first zero (k ∷ ks) hits h bs q at is =
    let more : grouped (hits_of first (hits ++ h ∷ [])) ≡ with_hit h.hit (grouped (hits_of first hits)) =
    ap grouped (hits_of-same first hits h (omega (arith, is))) ∙ grouped-push (hits_of first hits) h.hit in
    let rest = numbered_from-later (first + 1) ks hits h (omega (arith, is)) in
    (λ i. cond (bytes_eq q k) (Some (more i)) (lookup (bytes_eq q) (rest i)))
    ∙ found_here h.hit (bytes_eq q bs) (bytes_eq q k) (bytes_eq bs k) (grouped (hits_of first hits))
    (lookup (bytes_eq q) (numbered_from (first + 1) ks hits))
    (lookup (bytes_eq bs) (numbered_from (first + 1) ks hits)) (ap (bytes_eq q) ((bytes_decides bs k).0 at)) at
lookup-added first (suc n) (k ∷ ks) hits h bs q at is =
    let same = hits_of-other first hits h (λ e. omega (arith, is, e)) in
    let rest = lookup-added (first + 1) n ks hits h bs q at.1 (omega (arith, is)) in
    ap (λ l. cond (bytes_eq q k) (Some (grouped l))
    (lookup (bytes_eq q) (numbered_from (first + 1) ks (hits ++ h ∷ [])))) same
    ∙ found_after h.hit (bytes_eq q bs) (bytes_eq q k) (bytes_eq bs k) (grouped (hits_of first hits)) _
    (lookup (bytes_eq q) (numbered_from (first + 1) ks hits))
    (lookup (bytes_eq bs) (numbered_from (first + 1) ks hits))
    (λ t. ap (λ x. bytes_eq x k) ((bytes_decides q bs).0 t) ∙ at.0) at.0 rest

-- ---- one more key

IsFirstAt-push : (bs : List ℕ) (keys : List (List ℕ)) → list_any (bytes_eq bs) keys ≡ false
    → IsFirstAt bs (length keys) (keys ++ bs ∷ [])
IsFirstAt-push bs [] none = (bytes_decides bs bs).1 refl
IsFirstAt-push bs (k ∷ ks) none = let both = or_parts (bytes_eq bs k) (list_any (bytes_eq bs) ks) none in
    (both.0, IsFirstAt-push bs ks both.1)

numbered_from-push : (first count : ℕ) (keys : List (List ℕ)) (hits : List NumberedHit) (bs : List ℕ)
    → count ≡ first + length keys → AreBelow count hits
    → numbered_from first (keys ++ bs ∷ []) hits ≡ numbered_from first keys hits ++ (bs, []) ∷ []
numbered_from-push first count [] hits bs is below =
    ap (λ l. (bs, grouped l) ∷ []) (hits_of-none first count hits (omega (arith, is)) below)
numbered_from-push first count (k ∷ ks) hits bs is below =
    ap (λ l. (k, grouped (hits_of first hits)) ∷ l)
    (numbered_from-push (first + 1) count ks hits bs (omega (arith, is)) below)

module _ (test : List ℕ → Bool) (bs : List ℕ) where
  postings_at_end : (es : TermEntries) → unwrap_or {T = List Posting} (lookup test (es ++ (bs, []) ∷ [])) []
      ≡ unwrap_or {T = List Posting} (lookup test es) []
  postings_at_end [] = elim (test bs) as (λ b. unwrap_or {T = List Posting} (cond b (Some []) None) [] ≡ [])
      [ true ↦ refl | false ↦ refl ]
  postings_at_end (e ∷ es) =
      elim (test e.0) as (λ b. unwrap_or {T = List Posting} (cond b (Some e.1) (lookup test (es ++ (bs, []) ∷ []))) []
      ≡ unwrap_or {T = List Posting} (cond b (Some e.1) (lookup test es)) []) [
        | true ↦ refl
        | false ↦ postings_at_end es
      ]

  others_at_end : (es : TermEntries) → test bs ≡ false → lookup test (es ++ (bs, []) ∷ []) ≡ lookup test es
  others_at_end [] apart = ap (λ b. cond b (Some []) None) apart
  others_at_end (e ∷ es) apart = ap (cond (test e.0) (Some e.1)) (others_at_end es apart)

any-lookup : (first : ℕ) (keys : List (List ℕ)) (hits : List NumberedHit) (q : List ℕ)
    → is_some (lookup (bytes_eq q) (numbered_from first keys hits)) ≡ list_any (bytes_eq q) keys
any-lookup first [] hits q = refl
any-lookup first (k ∷ ks) hits q =
    elim (bytes_eq q k) as (λ b. is_some (cond b (Some (grouped (hits_of first hits)))
    (lookup (bytes_eq q) (numbered_from (first + 1) ks hits))) ≡ (b || list_any (bytes_eq q) ks)) [
      | true ↦ refl
      | false ↦ any-lookup (first + 1) ks hits q
    ]

-- the first occurrence of a term, which is the last one
lookup-added_first : (keys : List (List ℕ)) (hits : List NumberedHit) (h : NumberedHit) (bs q : List ℕ)
    → list_any (bytes_eq bs) keys ≡ false → h.term ≡ length keys → AreBelow (length keys) hits
    → lookup (bytes_eq q) (numbered_from 0 (keys ++ bs ∷ []) (hits ++ h ∷ []))
    ≡ cond (bytes_eq q bs) (Some (with_hit h.hit (unwrap_or (lookup (bytes_eq bs) (numbered_from 0 keys hits)) [])))
    (lookup (bytes_eq q) (numbered_from 0 keys hits))
lookup-added_first keys hits h bs q none is below =
    let es = numbered_from 0 keys hits in
    let pushed : numbered_from 0 (keys ++ bs ∷ []) hits ≡ es ++ (bs, []) ∷ [] =
    numbered_from-push 0 (length keys) keys hits bs (omega arith) below in
    lookup-added 0 (length keys) (keys ++ bs ∷ []) hits h bs q (IsFirstAt-push bs keys none) (omega (arith, is))
    ∙ ap (λ (l : TermEntries). cond (bytes_eq q bs) (Some (with_hit h.hit (unwrap_or (lookup (bytes_eq bs) l) [])))
    (lookup (bytes_eq q) l)) pushed
    ∙ ap (λ ps. cond (bytes_eq q bs) (Some (with_hit h.hit ps)) (lookup (bytes_eq q) (es ++ (bs, []) ∷ [])))
    (postings_at_end (bytes_eq bs) bs es)
    ∙ rest (bytes_eq q bs) refl
  where
    rest : (b : Bool) → bytes_eq q bs ≡ b
        → cond (bytes_eq q bs) (Some (with_hit h.hit (unwrap_or (lookup (bytes_eq bs) (numbered_from 0 keys hits)) [])))
        (lookup (bytes_eq q) (numbered_from 0 keys hits ++ (bs, []) ∷ []))
        ≡ cond (bytes_eq q bs) (Some (with_hit h.hit (unwrap_or (lookup (bytes_eq bs) (numbered_from 0 keys hits)) [])))
        (lookup (bytes_eq q) (numbered_from 0 keys hits))
    rest true e = ap (λ b. cond b (Some (with_hit h.hit
        (unwrap_or (lookup (bytes_eq bs) (numbered_from 0 keys hits)) [])))
        (lookup (bytes_eq q) (numbered_from 0 keys hits ++ (bs, []) ∷ []))) e
        ∙ sym (ap (λ b. cond b (Some (with_hit h.hit (unwrap_or (lookup (bytes_eq bs) (numbered_from 0 keys hits)) [])))
        (lookup (bytes_eq q) (numbered_from 0 keys hits))) e)
    rest false e = ap (cond (bytes_eq q bs)
        (Some (with_hit h.hit (unwrap_or (lookup (bytes_eq bs) (numbered_from 0 keys hits)) []))))
        (others_at_end (bytes_eq q) bs (numbered_from 0 keys hits) e)

-- ---- the map

module _ (keys keys' : List (List ℕ)) (hits : List NumberedHit) (h : NumberedHit) (bs : List ℕ) where
  from_lookups : ((q : List ℕ) → lookup (bytes_eq q) (numbered_from 0 keys' (hits ++ h ∷ []))
      ≡ cond (bytes_eq q bs) (Some (with_hit h.hit (unwrap_or (lookup (bytes_eq bs) (numbered_from 0 keys hits)) [])))
      (lookup (bytes_eq q) (numbered_from 0 keys hits)))
      → numbered_terms keys' (hits ++ h ∷ [])
      ≡ with_occurrence (numbered_terms keys hits) h.hit.document (record { bytes = bs; position = h.hit.position })
  from_lookups each = same_by_bytes _ _ (λ q.
      get-lookup (numbered_from 0 keys' (hits ++ h ∷ [])) q ∙ each q
      ∙ sym (λ i. cond (bytes_eq q bs) (Some
      (with_hit h.hit (unwrap_or (get-lookup (numbered_from 0 keys hits) bs i) [])))
      (get-lookup (numbered_from 0 keys hits) q i))
      ∙ sym (get-insert_bytes (numbered_terms keys hits) bs
      (with_hit h.hit (unwrap_or (get (numbered_terms keys hits) bs) [])) q))

module _ (keys : List (List ℕ)) (hits : List NumberedHit) (old : Terms) (seen : numbered_terms keys hits ≡ old) where
  -- no key is as a term that isn't there
  pub no_key : (bs : List ℕ) → get old bs ≡ None → list_any (bytes_eq bs) keys ≡ false
  no_key bs none = sym (any-lookup 0 keys hits bs)
      ∙ ap is_some (sym (get-lookup (numbered_from 0 keys hits) bs) ∙ ap (λ t. get t bs) seen ∙ none)

  -- and the other way round
  pub no_term : (bs : List ℕ) → list_any (bytes_eq bs) keys ≡ false → get old bs ≡ None
  no_term bs none = ap (λ t. get t bs) (sym seen) ∙ get-lookup (numbered_from 0 keys hits) bs
      ∙ empty (lookup (bytes_eq bs) (numbered_from 0 keys hits)) (any-lookup 0 keys hits bs ∙ none)
    where
      empty : (found : Option (List Posting)) → is_some found ≡ false → found ≡ None
      empty None e = refl
      empty (Some v) e = absurd (false≢true (sym e))

  module _ (h : NumberedHit) (bs : List ℕ) where
    -- an occurrence of a term that is there
    pub added_there : (n : ℕ) → position (bytes_eq bs) keys ≡ Some n → h.term ≡ n
        → numbered_terms keys (hits ++ h ∷ [])
        ≡ with_occurrence old h.hit.document (record { bytes = bs; position = h.hit.position })
    added_there n at is =
        from_lookups keys keys hits h bs (λ q. lookup-added 0 n keys hits h bs q (IsFirstAt-position bs n keys at)
        (omega (arith, is)))
        ∙ ap (λ t. with_occurrence t h.hit.document (record { bytes = bs; position = h.hit.position })) seen

    -- the first occurrence of a term
    pub added_first : list_any (bytes_eq bs) keys ≡ false → h.term ≡ length keys → AreBelow (length keys) hits
        → numbered_terms (keys ++ bs ∷ []) (hits ++ h ∷ [])
        ≡ with_occurrence old h.hit.document (record { bytes = bs; position = h.hit.position })
    added_first none is below =
        from_lookups keys (keys ++ bs ∷ []) hits h bs (λ q. lookup-added_first keys hits h bs q none is below)
        ∙ ap (λ t. with_occurrence t h.hit.document (record { bytes = bs; position = h.hit.position })) seen

-- ---- numbers of terms

pub AreBelow-more : (count more : ℕ) (hits : List NumberedHit) → count ≤ more → AreBelow count hits → AreBelow more hits
AreBelow-more count more [] le below = tt
AreBelow-more count more (h ∷ hits) le below = let lt : h.term < count = below.0 in
    (omega (arith, lt, le), AreBelow-more count more hits le below.1)

pub AreBelow-push : (count : ℕ) (hits : List NumberedHit) (h : NumberedHit) → AreBelow count hits → h.term < count
    → AreBelow count (hits ++ h ∷ [])
AreBelow-push count [] h below lt = (lt, tt)
AreBelow-push count (g ∷ hits) h below lt = (below.0, AreBelow-push count hits h below.1 lt)

-- ---- a key that is new

pub still_numbered : (keys keys' : List (List ℕ)) (hits hits' : List NumberedHit) (bs : List ℕ) (h : NumberedHit)
    → keys' ≡ keys ++ bs ∷ [] → hits' ≡ hits ++ h ∷ [] → h.term ≡ length keys → h.term < 2 ^ 32
    → AreBelow (length keys) hits
    → (length keys' ≤ 2 ^ 32) × AreBelow (length keys') hits'
still_numbered keys keys' hits hits' bs h with_key with_hit is small below =
    let many : length keys' ≡ length keys + 1 = ap length with_key ∙ length_push keys bs in (
      omega (arith, many, is, small),
      subst (AreBelow (length keys')) (sym with_hit)
          (AreBelow-push (length keys') hits h
          (AreBelow-more (length keys) (length keys') hits (omega (arith, many)) below) (omega (arith, many, is))),
    )

-- ---- the keys with one that may be among them

-- a key that is there is at its number
first_at : (keys : List (List ℕ)) (bs : List ℕ) → list_any (bytes_eq bs) keys ≡ true
    → IsFirstAt bs (term_number keys bs) keys
first_at keys bs there =
    let within = term_within keys bs there in
    IsFirstAt-from bs (term_number keys bs) keys within (passes_at_first (bytes_eq bs) keys [] within)
    (λ k lt. fails_before_first (bytes_eq bs) keys k [] lt)

-- one more occurrence, whether its term is new or not
pub added_by_key : (keys : List (List ℕ)) (hits : List NumberedHit) (old : Terms) → numbered_terms keys hits ≡ old
    → AreBelow (length keys) hits → (bs : List ℕ) (h : Hit)
    → numbered_terms (with_term keys bs) (hits ++ record { term = term_number keys bs; hit = h } ∷ [])
    ≡ with_occurrence old h.document (record { bytes = bs; position = h.position })
added_by_key keys hits old seen below bs h = by (list_any (bytes_eq bs) keys) refl
  where
    by : (b : Bool) → list_any (bytes_eq bs) keys ≡ b → numbered_terms (cond b keys (keys ++ bs ∷ [])) (hits ++ record {
      term = term_number keys bs;
      hit = h;
    } ∷ []) ≡ with_occurrence old h.document (record { bytes = bs; position = h.position })
    by true e =
        from_lookups keys keys hits (record { term = term_number keys bs; hit = h }) bs (λ q.
        lookup-added 0 (term_number keys bs) keys hits (record { term = term_number keys bs; hit = h }) bs q
        (first_at keys bs e) (omega arith))
        ∙ ap (λ t. with_occurrence t h.document (record { bytes = bs; position = h.position })) seen
    by false e = added_first keys hits old seen (record { term = term_number keys bs; hit = h }) bs e
        (term_number-new keys bs e) below

-- the same of terms that are known by their keys
pub added_known : (old new : KnownTerms) (terms : Terms) → numbered_terms old.keys.keys old.hits.items ≡ terms
    → (bs : List ℕ) (h : Hit) → AreKnown old → {X Y : Type 0} (r : Result X Y) → OnOk r (IsAdded bs h old new)
    → OnOk r (numbered_terms new.keys.keys new.hits.items
    ≡ with_occurrence terms h.document (record { bytes = bs; position = h.position }))
added_known old new terms seen bs h known (Ok x) is =
    (λ i. numbered_terms (is.keys i) (is.hits i)) ∙ added_by_key old.keys.keys old.hits.items terms seen known.1 bs h
added_known old new terms seen bs h known (Err e) is = tt
