-- The two parts of a column of terms, and the whole.
use Rattle.std.proofs.Common.{◌≡◌, ℕ, zero, suc, ◌+◌, ◌*◌, ◌<◌, ◌≤◌, List, [], ◌++◌, length, get_or, slice_get, Some, refl, sym, ap, subst, ◌∙◌, arith, inl, inr}
use Rattle.std.proofs.lemmas.Bool.{cases_lt}
use Rattle.std.specs.Prelude.{All, IsUtf8}
use Rattle.std.proofs.lemmas.List.{length-append, take-append-drop}
use Rattle.std.proofs.lemmas.Option.{get_or_from_slice_get, slice_get_within}
use Rattle.seg_common.proofs.Bytes.{u64_at-front}
use Rattle.seg_columns.specs.Ends.{start_at}
use Rattle.seg_columns.specs.Columns.{IsColumn, rows_of}
use Rattle.seg_columns.specs.ValueImages.{unsigned}
use Rattle.seg_columns.specs.Dictionaries.{IsDictionary, count_of, terms_of}
use Rattle.seg_columns.specs.TermColumns.{IsBytesColumn, UsesEach, dictionary_in, ordinals_in, ordinals_length, term_column_of}
use Rattle.seg_columns.proofs.DictionaryTerms.{length-terms_of}

start_at-front : (front back : List ℕ) (i : ℕ) → 8 * i ≤ length front → start_at (front ++ back) i ≡ start_at front i
unfolding start_at
start_at-front front back zero h = refl
start_at-front front back (suc i) h = u64_at-front front back (8 * i) (omega (arith, h))

-- where the ordinals of a column end
module _ (docs : ℕ) (bytes : List ℕ) (is : IsColumn 8 unsigned docs (ordinals_in docs bytes)) where
  joined : length (ordinals_in docs bytes) + length (dictionary_in docs bytes) ≡ length bytes
  joined =
      sym (length-append (ordinals_in docs bytes) (dictionary_in docs bytes))
      ∙ ap length (take-append-drop (ordinals_length docs bytes) bytes)

  pub ends_within : 8 * docs ≤ length bytes
  ends_within = omega (arith, is.ends, joined)

  pub cut_within : ordinals_length docs bytes ≤ length bytes
  cut_within =
      let same : start_at bytes docs ≡ start_at (ordinals_in docs bytes) docs =
      sym (ap (λ (l : List ℕ). start_at l docs) (take-append-drop (ordinals_length docs bytes) bytes))
      ∙ start_at-front (ordinals_in docs bytes) (dictionary_in docs bytes) docs is.ends in
      omega (arith, is.fill, same, joined)

-- parts that were read
module _ (docs : ℕ) (bytes front back : List ℕ) (ords terms : List (List ℕ)) (count : ℕ)
    (at : front ≡ ordinals_in docs bytes) (behind : back ≡ dictionary_in docs bytes)
    (rows : ords ≡ rows_of 8 unsigned docs front) (seen : terms ≡ terms_of back) (counted : count ≡ length terms) where
  same_count : count ≡ count_of (dictionary_in docs bytes)
  same_count = counted ∙ ap length (seen ∙ ap terms_of behind) ∙ length-terms_of (dictionary_in docs bytes)

  same_rows : ords ≡ rows_of 8 unsigned docs (ordinals_in docs bytes)
  same_rows = rows ∙ ap (rows_of 8 unsigned docs) at

  pub whole : IsColumn 8 unsigned docs front → IsDictionary back → UsesEach count ords
      → IsBytesColumn docs bytes × (record { terms = terms; ords = ords } ≡ term_column_of docs bytes)
  whole column dictionary uses = (
    record {
      ordinals = subst (IsColumn 8 unsigned docs) at column;
      dictionary = subst IsDictionary behind dictionary;
      uses = subst (UsesEach (count_of (dictionary_in docs bytes))) same_rows
          (subst (λ (n : ℕ). UsesEach n ords) same_count uses);
    },
    λ i. record { terms = (seen ∙ ap terms_of behind) i; ords = same_rows i },
  )

  pub not_all_used : (UsesEach count ords → ⊥) → IsBytesColumn docs bytes → ⊥
  not_all_used none is = none
      (subst (λ (n : ℕ). UsesEach n ords) (sym same_count)
      (subst (UsesEach (count_of (dictionary_in docs bytes))) (sym same_rows) is.uses))

-- a column that was checked before
pub uses_terms : (docs : ℕ) (bytes : List ℕ) (ords terms : List (List ℕ)) → IsBytesColumn docs bytes
    → ords ≡ rows_of 8 unsigned docs (ordinals_in docs bytes) → terms ≡ terms_of (dictionary_in docs bytes)
    → UsesEach (length terms) ords
uses_terms docs bytes ords terms is rows seen =
    subst (λ (n : ℕ). UsesEach n ords) (sym (ap length seen ∙ length-terms_of (dictionary_in docs bytes)))
    (subst (UsesEach (count_of (dictionary_in docs bytes))) (sym rows) is.uses)

-- a text of a dictionary of texts
pub utf8_at : (terms : List (List ℕ)) (ord : ℕ) (term : List ℕ) → All IsUtf8 terms → slice_get terms ord ≡ Some term
    → IsUtf8 term
utf8_at terms ord term all at =
    subst IsUtf8 (get_or_from_slice_get terms ord term term at) (all ord term (slice_get_within terms ord term at))

-- the texts that were seen, and one more
pub more_utf8 : (terms : List (List ℕ)) (place : ℕ) (term : List ℕ) → slice_get terms place ≡ Some term → IsUtf8 term
    → ((i : ℕ) → i < place → IsUtf8 (get_or terms i [])) → (i : ℕ) → i < place + 1 → IsUtf8 (get_or terms i [])
more_utf8 terms place term at utf8 before i lt =
    elim (cases_lt i place) [
      | inl earlier ↦ before i earlier
      | inr le ↦
          let e : place ≡ i = omega arith in
          subst (λ (k : ℕ). IsUtf8 (get_or terms k [])) e
          (subst IsUtf8 (sym (get_or_from_slice_get terms place term [] at)) utf8)
    ]
