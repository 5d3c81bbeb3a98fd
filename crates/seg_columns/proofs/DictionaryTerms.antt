-- The terms of a dictionary, by what a method sees of its bytes.
use Rattle.std.proofs.Common.{◌≡◌, ◌≢◌, ℕ, ◌<◌, ◌≤◌, List, length, get_or, slice_get, Some, sym, ap, ◌∙◌, arith}
use Rattle.std.specs.Prelude.{All}
use Rattle.std.proofs.lemmas.List.FromFn.{length-map-range_with_len, get_or-map-range_with_len}
use Rattle.std.proofs.lemmas.Option.{slice_get-get_or}
use Rattle.seg_columns.specs.Ends.{start_at}
use Rattle.seg_columns.specs.Dictionaries.{HoldsTerms, count_of, ends_of, texts_of, term_at, terms_of}
use Rattle.seg_columns.proofs.RisingEnds.{at_most_all}

pub start_within : (bytes : List ℕ) → HoldsTerms bytes → (i : ℕ) → i ≤ count_of bytes
    → start_at (ends_of bytes) i ≤ length (texts_of bytes)
start_within bytes holds i h = omega (arith, at_most_all (ends_of bytes) (count_of bytes) holds.rise i h, holds.fill)

pub length-terms_of : (bytes : List ℕ) → length (terms_of bytes) ≡ count_of bytes
unfolding terms_of
length-terms_of bytes = length-map-range_with_len (term_at bytes) 0 (count_of bytes)

get_or-terms_of : (bytes : List ℕ) (i : ℕ) (d : List ℕ) → i < count_of bytes
    → get_or (terms_of bytes) i d ≡ term_at bytes i
unfolding terms_of
get_or-terms_of bytes i d h = get_or-map-range_with_len (term_at bytes) 0 (count_of bytes) i i d h (omega arith)

-- the bytes, and the count kept beside them, of a dictionary that is seen as some terms
module _ (bytes : List ℕ) (count : ℕ) (terms : List (List ℕ)) (counted : count ≡ count_of bytes)
    (view : terms_of bytes ≡ terms) where
  pub seen_length : length terms ≡ count
  seen_length = ap length (sym view) ∙ length-terms_of bytes ∙ sym counted

  seen_term : (i : ℕ) (d : List ℕ) → i < count → get_or terms i d ≡ term_at bytes i
  seen_term i d h = ap (λ (ts : List (List ℕ)). get_or ts i d) (sym view)
      ∙ get_or-terms_of bytes i d (omega (arith, h, counted))

  pub seen_get : (i : ℕ) → i < count → slice_get terms i ≡ Some (term_at bytes i)
  seen_get i h =
      slice_get-get_or terms i (term_at bytes i) (omega (arith, h, seen_length))
      ∙ ap Some (seen_term i (term_at bytes i) h)

  pub seen_none : (term : List ℕ) → ((i : ℕ) → i < count → term_at bytes i ≢ term) → All (λ t. t ≢ term) terms
  seen_none term none i d h e =
      let lt : i < count = omega (arith, seen_length, h) in
      none i lt (sym (seen_term i d lt) ∙ e)
