-- A field in three parts: a dictionary, postings after the total of the field's tokens, and positions.
use Rattle.std.specs.Prelude.{◌≡◌, ℕ, ◌<◌, ◌≤◌, List, [], ◌∷◌, length, drop, slice_range, Option, Some, None, option_map, option_and_then}
use Rattle.std.specs.List.{AllByRecursion}
use Rattle.seg_common.specs.LittleEndian.{u64_at}
use Rattle.seg_termdict.specs.Dictionary.{Term, IsDictionary, terms_of}
use Rattle.seg_termdict.specs.DictionaryBuilders.{last_term, postings_end, positions_end}
use Rattle.seg_postings.specs.Postings.{TermPostings, term_postings}
use Rattle.seg_postings.specs.FieldSerializers.{TermWritten}

-- a term of the dictionary, with its ranges of the postings and of the positions
abbrev pub term_at : List ℕ → List ℕ → Term → Option TermWritten
term_at postings positions t =
    option_map (λ (p : TermPostings). record { bytes = t.0; kind = p.kind; postings = p.postings })
    (term_postings t.1.doc_freq (slice_range postings t.1.postings_start t.1.postings_end)
    (slice_range positions t.1.positions_start t.1.positions_end))

-- some terms, where each can be read
unfoldable pub terms_at : List ℕ → List ℕ → List Term → Option (List TermWritten)
terms_at postings positions [] = Some []
terms_at postings positions (t ∷ ts) = option_and_then (λ w. option_map (λ ws. w ∷ ws) (terms_at postings positions ts))
    (term_at postings positions t)

-- the parts are those of a field with this total of tokens and these terms; each term occurs, and each byte is of one
pub record IsField (dictionary postings positions : List ℕ) (total : ℕ) (terms : List TermWritten) : Type 0 where
  pub is_dictionary : IsDictionary dictionary
  pub room : 8 ≤ length postings
  pub counted : u64_at postings 0 ≡ total
  pub read : terms_at (drop 8 postings) positions (terms_of dictionary) ≡ Some terms
  pub occur : AllByRecursion (λ t. 0 < length t.postings) terms
  pub postings_fill : postings_end (last_term None (terms_of dictionary)) ≡ length (drop 8 postings)
  pub positions_fill : positions_end (last_term None (terms_of dictionary)) ≡ length positions
