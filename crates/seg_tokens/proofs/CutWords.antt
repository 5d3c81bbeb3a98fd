-- A text that is cut into words, from its start to a place.
use Rattle.std.proofs.Common.{◌≡◌, ℕ, ◌+◌, ◌-◌, ◌<◌, ◌≤◌, ◌==◌, Bool, true, false, not, cond, List, [], ◌∷◌, ◌++◌, length, drop, get_or, refl, sym, ap, ◌∙◌, subst, arith, append_assoc, add-one, add-zero, drop-cons, length-take}
use Rattle.std.specs.List.{All, slice_split, slice_range}
use Rattle.std.specs.Str.{IsUtf8, IsCharBoundary}
use Rattle.std.proofs.lemmas.List.{append-nil}
use Rattle.std.proofs.lemmas.List.Folds.{drop_split}
use Rattle.std.proofs.lemmas.List.Splits.{slice_split_at, slice_split_none}
use Rattle.std.proofs.lemmas.List.Elements.{All-push}
use Rattle.std.proofs.lemmas.List.Edits.{between_more, length-between}
use Rattle.std.proofs.lemmas.Slice.{between_to_end}
use Rattle.std.proofs.lemmas.Str.{IsCharBoundary-start, IsCharBoundary-after_ascii}
use Rattle.seg_tokens.specs.GrowingLists.{Keeps}
use Rattle.seg_tokens.specs.declared.token.Token.{Token}
use Rattle.seg_tokens.specs.Words.{placed, words, token_of, numbered, tokens_cut}

numbered-append : (kept : ℕ → ℕ) (i : ℕ) (xs ys : List (ℕ × List ℕ)) → numbered kept i (xs ++ ys) ≡ numbered kept i xs ++ numbered kept (i + length xs) ys
numbered-append kept i [] ys = rw add-zero
numbered-append kept i (x ∷ xs) ys = ap (λ ts. token_of kept i x ∷ ts) (numbered-append kept (i + 1) xs ys ∙ ap (λ n. numbered kept (i + 1) xs ++ numbered kept n ys) (let e : i + 1 + length xs ≡ i + length (x ∷ xs) = omega arith in e))

words-cons : (p : ℕ × List ℕ) (ps : List (ℕ × List ℕ)) → words (p ∷ ps) ≡ words (p ∷ []) ++ words ps
words-cons p ps = each (not (length p.1 == 0))
  where
    each : (b : Bool) → cond b (p ∷ words ps) (words ps) ≡ cond b (p ∷ []) [] ++ words ps
    each true = refl
    each false = refl

words_few : (p : ℕ × List ℕ) → length (words (p ∷ [])) ≤ 1
words_few p = each (not (length p.1 == 0))
  where
    each : (b : Bool) → length (cond b (p ∷ []) []) ≤ 1
    each true = omega arith
    each false = omega arith

pub Keeps-refl : {X : Type 0} (xs : List X) → Keeps xs xs
Keeps-refl xs = ([], sym (append-nil xs))

pub Keeps-append : {X : Type 0} (xs ys zs : List X) → Keeps xs ys → Keeps xs (ys ++ zs)
Keeps-append xs ys zs k = (k.0 ++ zs, ap (λ l. l ++ zs) k.1 ∙ append_assoc xs k.0 zs)

module _ (separates : ℕ → Bool) (kept : ℕ → ℕ) where
  -- the tokens of what follows a place, of which the first has this index
  abbrev pub tokens_from : ℕ → ℕ → List ℕ → List Token
  tokens_from index from text = numbered kept index (words (placed from (slice_split separates (drop from text))))

  -- the words before `from` have their tokens, and none ends between `from` and `at`
  pub record IsCut (text : List ℕ) (old : List Token) (from at count : ℕ) (out : List Token) : Type 0 where
    pub within : from ≤ at
    pub boundary : IsCharBoundary text from
    pub few : count ≤ from
    pub whole : All (λ byte. separates byte ≡ false) (slice_range text from at)
    pub so_far : out ++ tokens_from count from text ≡ old ++ tokens_cut separates kept text
    pub keeps : Keeps old out

  pub IsCut-start : (text : List ℕ) (old : List Token) → IsUtf8 text → IsCut text old 0 0 0 old
  IsCut-start text old u = record { within = omega arith; boundary = IsCharBoundary-start text u; few = omega arith; whole = λ k d h. absurd (omega arith); so_far = refl; keeps = Keeps-refl old }

  pub IsCut-skipped : (text : List ℕ) (old : List Token) (from at count : ℕ) (out : List Token) → IsCut text old from at count out → at < length text → separates (get_or text at 0) ≡ false → IsCut text old from (at + 1) count out
  IsCut-skipped text old from at count out h inside n = record { within = omega arith; boundary = h.boundary; few = h.few; whole = longer; so_far = h.so_far; keeps = h.keeps }
    where
      longer : All (λ byte. separates byte ≡ false) (slice_range text from (at + 1))
      longer = subst (All (λ byte. separates byte ≡ false)) (sym (between_more text from at 0 h.within inside)) (All-push (λ byte. separates byte ≡ false) (slice_range text from at) (get_or text at 0) h.whole n)

  one_more : (index from : ℕ) (piece : List ℕ) (pieces : List (List ℕ)) → numbered kept index (words (placed from (piece ∷ pieces))) ≡ numbered kept index (words ((from, piece) ∷ [])) ++ numbered kept (index + length (words ((from, piece) ∷ []))) (words (placed (from + length piece + 1) pieces))
  one_more index from piece pieces = ap (numbered kept index) (words-cons (from, piece) (placed (from + length piece + 1) pieces)) ∙ numbered-append kept index _ _

  pub IsCut-cut : (text : List ℕ) (old : List Token) (from at count : ℕ) (out : List Token) (next : ℕ) (new : List Token) → IsUtf8 text → IsCut text old from at count out → at < length text → separates (get_or text at 0) ≡ true → get_or text at 0 < 128 →
      new ≡ out ++ numbered kept count (words ((from, slice_range text from at) ∷ [])) → next ≡ count + length (words ((from, slice_range text from at) ∷ [])) → IsCut text old (at + 1) (at + 1) next new
  IsCut-cut text old from at count out next new u h inside y ascii is counted = record { within = omega arith; boundary = IsCharBoundary-after_ascii text at u inside ascii; few = few; whole = none; so_far = ap (λ l. l ++ tokens_from next (at + 1) text) is ∙ append_assoc out _ _ ∙ ap (λ l. out ++ l) (sym cut) ∙ h.so_far; keeps = subst (Keeps old) (sym is) (Keeps-append old out _ h.keeps) }
    where
      piece : List ℕ
      piece = slice_range text from at

      long : length piece ≡ at - from
      long = length-between text from at (let e : at ≤ length text = omega arith in e)

      few : next ≤ at + 1
      few = rw counted (omega (arith, words_few (from, piece), h.few, h.within))

      none : All (λ byte. separates byte ≡ false) (slice_range text (at + 1) (at + 1))
      none k d k_in = absurd (omega (arith, length-take (at + 1 - (at + 1)) (drop (at + 1) text)))

      split : drop from text ≡ piece ++ get_or text at 0 ∷ drop (at + 1) text
      split = drop_split text from at h.within ∙ ap (λ l. piece ++ l) (drop-cons text at 0 inside ∙ ap (λ n. get_or text at 0 ∷ drop n text) (sym (add-one at)))

      parts : slice_split separates (drop from text) ≡ piece ∷ slice_split separates (drop (at + 1) text)
      parts = ap (slice_split separates) split ∙ slice_split_at separates piece (get_or text at 0) (drop (at + 1) text) h.whole y

      cut : tokens_from count from text ≡ numbered kept count (words ((from, piece) ∷ [])) ++ tokens_from next (at + 1) text
      cut = ap (λ ps. numbered kept count (words (placed from ps))) parts ∙ one_more count from piece (slice_split separates (drop (at + 1) text))
          ∙ ap (λ n. numbered kept count (words ((from, piece) ∷ [])) ++ numbered kept n (words (placed (from + length piece + 1) (slice_split separates (drop (at + 1) text))))) (sym counted)
          ∙ ap (λ n. numbered kept count (words ((from, piece) ∷ [])) ++ numbered kept next (words (placed n (slice_split separates (drop (at + 1) text))))) (let e : from + length piece + 1 ≡ at + 1 = omega (arith, long, h.within) in e)

  pub IsCut-end : (text : List ℕ) (old : List Token) (from count : ℕ) (out : List Token) (new : List Token) → IsCut text old from (length text) count out → new ≡ out ++ numbered kept count (words ((from, drop from text) ∷ [])) → new ≡ old ++ tokens_cut separates kept text
  IsCut-end text old from count out new h is = is ∙ ap (λ ps. out ++ numbered kept count (words (placed from ps))) (sym rest) ∙ h.so_far
    where
      rest : slice_split separates (drop from text) ≡ drop from text ∷ []
      rest = slice_split_none separates (drop from text) (subst (All (λ byte. separates byte ≡ false)) (between_to_end text from (length text) (let e : length text ≤ length text = omega arith in e)) h.whole)
