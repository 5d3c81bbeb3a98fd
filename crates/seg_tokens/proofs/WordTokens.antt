-- The tokens of a text are its words.
use Rattle.std.proofs.Common.{◌≡◌, ℕ, ◌+◌, Bool, true, false, not, cond, eqb, suc, List, [], ◌∷◌, ◌++◌, length, sym, refl, ap, subst, arith, append_assoc, length-append}
use Rattle.std.specs.List.{All, slice_split, onto_first}
use Rattle.std.proofs.lemmas.Bool.Decides.{nat_tests}
use Rattle.std.proofs.lemmas.List.{append-nil}
use Rattle.std.proofs.lemmas.List.Elements.{All-append, All-cons}
use Rattle.seg_tokens.specs.Words.{placed, words, token_of, numbered, tokens_cut}
use Rattle.seg_tokens.specs.SeparatedWords.{InWords, no_word, a_word}

a_piece : (n : ℕ) → not (eqb (suc n) 0) ≡ true
a_piece n = grind (arith, nat_tests)

-- a piece with a byte is a word
words-piece : (at x : ℕ) (xs : List ℕ) (ps : List (ℕ × List ℕ)) → words ((at, x ∷ xs) ∷ ps) ≡ (at, x ∷ xs) ∷ words ps
words-piece at x xs ps = ap (λ b. cond b ((at, x ∷ xs) ∷ words ps) (words ps)) (a_piece (length xs))

module _ (separates : ℕ → Bool) (kept : ℕ → ℕ) where
  abbrev Plain : List ℕ → Type 0
  Plain = All (λ byte. separates byte ≡ false)

  abbrev Gap : List ℕ → Type 0
  Gap = All (λ byte. separates byte ≡ true)

  -- a text with its parts
  data Parts : List ℕ → List (List ℕ) → Type 0 where
    last : (xs : List ℕ) → Plain xs → Parts xs (xs ∷ [])
    more : (xs : List ℕ) (y : ℕ) (ys : List ℕ) (parts : List (List ℕ)) → Plain xs → separates y ≡ true → Parts ys parts → Parts (xs ++ y ∷ ys) (xs ∷ parts)

  parts_of : (bs : List ℕ) → Parts bs (slice_split separates bs)
  parts_of [] = last [] (λ k d h. absurd (omega arith))
  parts_of (b ∷ bs) = each (separates b) refl (slice_split separates bs) (parts_of bs)
    where
      onto : separates b ≡ false → (cs : List ℕ) (parts : List (List ℕ)) → Parts cs parts → Parts (b ∷ cs) (onto_first b parts)
      onto e cs parts (last xs p) = last (b ∷ xs) (All-cons (λ byte. separates byte ≡ false) b xs e p)
      onto e cs parts (more xs y ys rest p s t) = more (b ∷ xs) y ys rest (All-cons (λ byte. separates byte ≡ false) b xs e p) s t

      each : (s : Bool) → separates b ≡ s → (parts : List (List ℕ)) → Parts bs parts → Parts (b ∷ bs) (cond s ([] ∷ parts) (onto_first b parts))
      each true e parts t = more [] b bs parts (λ k d h. absurd (omega arith)) e t
      each false e parts t = onto e bs parts t

  gap_one : (y : ℕ) → separates y ≡ true → Gap (y ∷ [])
  gap_one y s = All-cons (λ byte. separates byte ≡ true) y [] s (λ k d h. absurd (omega arith))

  in_words : (bs : List ℕ) (parts : List (List ℕ)) → Parts bs parts → (at index : ℕ) (gap : List ℕ) → Gap gap → InWords separates kept at index (gap ++ bs) (numbered kept index (words (placed (at + length gap) parts)))
  in_words bs parts (last [] p) at index gap g = no_word at index (gap ++ []) (subst Gap (sym (append-nil gap)) g)
  in_words bs parts (last (x ∷ xs) p) at index gap g =
      subst (λ ps. InWords separates kept at index (gap ++ x ∷ xs) (numbered kept index ps)) (sym (words-piece (at + length gap) x xs []))
      (subst (λ l. InWords separates kept at index (gap ++ l) (token_of kept index (at + length gap, x ∷ xs) ∷ [])) (append-nil (x ∷ xs)) (a_word at index gap (x ∷ xs) [] [] g (omega arith) p (λ h. absurd (omega arith)) (no_word _ _ [] (λ k d h. absurd (omega arith)))))
  in_words bs parts (more [] y ys rest p s t) at index gap g =
      let here : InWords separates kept at index ((gap ++ y ∷ []) ++ ys) (numbered kept index (words (placed (at + length (gap ++ y ∷ [])) rest))) = in_words ys rest t at index (gap ++ y ∷ []) (All-append (λ byte. separates byte ≡ true) gap (y ∷ []) g (gap_one y s)) in
      let longer : at + length (gap ++ y ∷ []) ≡ at + length gap + 0 + 1 = omega (arith, length-append gap (y ∷ [])) in
      subst (λ n. InWords separates kept at index (gap ++ y ∷ ys) (numbered kept index (words (placed n rest)))) longer
      (subst (λ l. InWords separates kept at index l (numbered kept index (words (placed (at + length (gap ++ y ∷ [])) rest)))) (append_assoc gap (y ∷ []) ys) here)
  in_words bs parts (more (x ∷ xs) y ys rest p s t) at index gap g =
      subst (λ ps. InWords separates kept at index (gap ++ ((x ∷ xs) ++ y ∷ ys)) (numbered kept index ps)) (sym (words-piece (at + length gap) x xs (placed (at + length gap + length (x ∷ xs) + 1) rest)))
      (a_word at index gap (x ∷ xs) (y ∷ ys) _ g (omega arith) p (λ _. s)
      (in_words ys rest t (at + length gap + length (x ∷ xs)) (index + 1) (y ∷ []) (gap_one y s)))

  pub in_words_cut : (text : List ℕ) → InWords separates kept 0 0 text (tokens_cut separates kept text)
  in_words_cut text = in_words text (slice_split separates text) (parts_of text) 0 0 [] (λ k d h. absurd (omega arith))
