-- The default tokenizer takes each text that isn't long.
use Rattle.std.proofs.Common.{◌≡◌, ◌≤◌, ◌+◌, ◌-◌, ◌^◌, ◌&&◌, ◌==◌, ℕ, suc, Bool, true, false, not, cond, List, [], ◌∷◌, length, min, refl, sym, ap, subst, arith, nat_le}
use Rattle.std.specs.Prelude.{filter}
use Rattle.std.specs.Char.{to_ascii_lowercase}
use Rattle.std.specs.List.{AllByRecursion, onto_first, slice_split}
use Rattle.std.proofs.lemmas.Bool.Decides.{Decides-ltb}
use Rattle.std.proofs.lemmas.Bool.{le-leb}
use Rattle.seg_common.proofs.Lists.{all_filtered}
use Rattle.seg_tokens.specs.declared.token.Token.{Token}
use Rattle.seg_tokens.specs.Tokenizers.{default_tokens, separates_words}
use Rattle.seg_tokens.specs.Words.{numbered, placed, words}
use Rattle.seg_model.specs.DocumentCheck.{count_of, is_rising, is_u32}
use Rattle.seg_model.specs.Occurrences.{counted, reach, start_after_all}
use Rattle.seg_generate.specs.Documents.{body_text}
use Rattle.seg_generate.specs.GeneratedTexts.{AreFit, DefaultTakesTexts}
use Rattle.seg_generate.proofs.ValidInputs.{body_length}

-- ---- what is kept of a list

one_few : {X : Type 0} (b : Bool) (x : X) (others : List X) (n : ℕ) → length others ≤ n
    → length (cond b (x ∷ others) others) ≤ 1 + n
one_few true x others n h = omega (arith, h)
one_few false x others n h = omega (arith, h)

few_kept : {X : Type 0} (test : X → Bool) (xs : List X) → length (filter test xs) ≤ length xs
few_kept test [] = omega arith
few_kept test (x ∷ xs) =
    let e = one_few (test x) x (filter test xs) (length xs) (few_kept test xs) in
    omega (arith, e)

-- ---- positions

-- positions from a number on that never fall
abbrev Rises : ℕ → List Token → Type 0
Rises low [] = Unit {0}
Rises low (t ∷ ts) = (low ≤ t.position) × Rises t.position ts

rises_lower : (low lower : ℕ) (ts : List Token) → lower ≤ low → Rises low ts → Rises lower ts
rises_lower low lower [] h rises = tt
rises_lower low lower (t ∷ ts) h rises = (omega (arith, h, rises.0), rises.1)

rises_one : (b : Bool) (low : ℕ) (t : Token) (others : List Token) → low ≤ t.position → Rises t.position others
    → Rises low (cond b (t ∷ others) others)
rises_one true low t others h rises = (h, rises)
rises_one false low t others h rises = rises_lower t.position low others h rises

rises_kept : (test : Token → Bool) (low : ℕ) (ts : List Token) → Rises low ts → Rises low (filter test ts)
rises_kept test low [] rises = tt
rises_kept test low (t ∷ ts) rises =
    rises_one (test t) low t (filter test ts) rises.0 (rises_kept test t.position ts rises.1)

is_rising_so : (low : ℕ) (ts : List Token) → Rises low ts → is_rising ts ≡ true
is_rising_so low [] rises = refl
is_rising_so low (t ∷ []) rises = refl
is_rising_so low (t ∷ u ∷ ts) rises =
    λ i. le-leb t.position u.position rises.1.0 i && is_rising_so t.position (u ∷ ts) rises.1 i

-- a token ends by this place
abbrev EndsBy : ℕ → Token → Type 0
EndsBy bound t = t.position + t.position_length ≤ bound

reach_by : (bound : ℕ) (ts : List Token) → AllByRecursion (EndsBy bound) ts → reach 0 ts ≤ bound
reach_by bound [] h = omega arith
reach_by bound (t ∷ ts) h = omega (arith, h.0, reach_by bound ts h.1)

-- ---- the tokens of words

numbered_rise : (kept : ℕ → ℕ) (index : ℕ) (pieces : List (ℕ × List ℕ))
    → Rises (min index (2 ^ 32 - 1)) (numbered kept index pieces)
numbered_rise kept index [] = tt
numbered_rise kept index (piece ∷ pieces) = (
  omega arith,
  rises_lower (min (index + 1) (2 ^ 32 - 1)) (min index (2 ^ 32 - 1)) (numbered kept (index + 1) pieces) (omega arith)
      (numbered_rise kept (index + 1) pieces),
)

numbered_end : (kept : ℕ → ℕ) (index bound : ℕ) (pieces : List (ℕ × List ℕ)) → index + length pieces ≤ bound
    → AllByRecursion (EndsBy bound) (numbered kept index pieces)
numbered_end kept index bound [] h = tt
numbered_end kept index bound (piece ∷ pieces) h =
    (omega (arith, h), numbered_end kept (index + 1) bound pieces (omega (arith, h)))

numbered_many : (kept : ℕ → ℕ) (index : ℕ) (pieces : List (ℕ × List ℕ))
    → length (numbered kept index pieces) ≡ length pieces
numbered_many kept index [] = refl
numbered_many kept index (piece ∷ pieces) = ap (λ n. suc n) (numbered_many kept (index + 1) pieces)

placed_many : (at : ℕ) (pieces : List (List ℕ)) → length (placed at pieces) ≡ length pieces
placed_many at [] = refl
placed_many at (piece ∷ pieces) = ap (λ n. suc n) (placed_many (at + length piece + 1) pieces)

split_few : {X : Type 0} (test : X → Bool) (xs : List X) → length (slice_split test xs) ≤ length xs + 1
split_few {X} test [] = omega arith
split_few {X} test (x ∷ xs) = by (test x) (slice_split test xs) (length xs) (split_few test xs)
  where
    by : (b : Bool) (parts : List (List X)) (n : ℕ) → length parts ≤ n + 1
        → length (cond b ([] ∷ parts) (onto_first x parts)) ≤ suc n + 1
    by true parts n h = omega (arith, h)
    by false [] n h = omega arith
    by false (part ∷ parts) n h = omega (arith, h)

-- ---- the tokens of a text

module _ (text : List ℕ) (short : length text ≤ 10) where
  abbrev found : List (ℕ × List ℕ)
  found = words (placed 0 (slice_split separates_words text))

  found_few : length found ≤ 11
  found_few =
      omega (
        arith,
        short,
        split_few separates_words text,
        placed_many 0 (slice_split separates_words text),
        few_kept (λ (piece : ℕ × List ℕ). not (length piece.1 == 0)) (placed 0 (slice_split separates_words text)),
      )

  abbrev counts : Token → Bool
  counts t = nat_le (length t.text) 65530

  ends : AllByRecursion (EndsBy 11) (default_tokens text)
  ends = numbered_end to_ascii_lowercase 0 11 found (omega (arith, found_few))

  start_fits : is_u32 (start_after_all 0 (default_tokens text ∷ [])) ≡ true
  start_fits =
      (Decides-ltb (1 + reach 0 (counted (default_tokens text))) (2 ^ 32)).1
      (omega (
        arith,
        reach_by 11 (counted (default_tokens text)) (all_filtered (EndsBy 11) counts (default_tokens text) ends),
      ))

  count_fits : is_u32 (count_of (default_tokens text ∷ [])) ≡ true
  count_fits =
      (Decides-ltb (length (counted (default_tokens text)) + 0) (2 ^ 32)).1
      (omega (arith, found_few, numbered_many to_ascii_lowercase 0 found, few_kept counts (default_tokens text)))

  rises : Rises 0 (default_tokens text)
  rises =
      rises_lower (min 0 (2 ^ 32 - 1)) 0 (default_tokens text) (omega arith) (numbered_rise to_ascii_lowercase 0 found)

  short_fits : AreFit (default_tokens text)
  short_fits = record {
    rise = is_rising_so 0 (counted (default_tokens text))
        (rises_kept counts 0 (default_tokens text) rises);
    few = λ i. start_fits i && count_fits i && true;
  }

pub default_takes_texts : DefaultTakesTexts
default_takes_texts known analyzer is_known tokens = record {
  is_known = is_known;
  takes = λ number. subst AreFit (sym (tokens (body_text number))) (short_fits (body_text number) (body_length number));
}
