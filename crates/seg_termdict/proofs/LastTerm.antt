-- The last of some terms, and the terms of a table.
use Rattle.std.proofs.Common.{◌≡◌, ℕ, suc, ◌+◌, ◌<◌, List, [], ◌∷◌, ◌++◌, map, refl, ◌∙◌, arith, add-one, Option, Some, None}
use Rattle.std.specs.List.{range_with_len}
use Rattle.std.proofs.lemmas.List.FromFn.{map-range_with_len_more, length-map-range_with_len, get_or-map-range_with_len, fill_by_all}
use Rattle.seg_termdict.specs.Dictionary.{Term, term_of, terms_in}
use Rattle.seg_termdict.specs.DictionaryBuilders.{last_term}

pub last_term-push : (before : Option Term) (ts : List Term) (t : Term) → last_term before (ts ++ t ∷ []) ≡ Some t
last_term-push before [] t = refl
last_term-push before (x ∷ ts) t = last_term-push (Some x) ts t

pub terms_in-more : (ends keys infos : List ℕ) (n : ℕ) → terms_in ends keys infos (n + 1) ≡ terms_in ends keys infos n ++ term_of ends keys infos n ∷ []
unfolding terms_in
terms_in-more ends keys infos n = map-range_with_len_more (term_of ends keys infos) 0 n n (omega arith)

pub last_term-terms_in : (ends keys infos : List ℕ) (n : ℕ) → last_term None (terms_in ends keys infos (suc n)) ≡ Some (term_of ends keys infos n)
last_term-terms_in ends keys infos n = rw (← add-one n, terms_in-more ends keys infos n) (last_term-push None (terms_in ends keys infos n) (term_of ends keys infos n))

-- tables that agree so far
pub terms_in-same : (ends keys infos ends' keys' infos' : List ℕ) (n : ℕ) → ((i : ℕ) → i < n → term_of ends keys infos i ≡ term_of ends' keys' infos' i) → terms_in ends keys infos n ≡ terms_in ends' keys' infos' n
unfolding terms_in
terms_in-same ends keys infos ends' keys' infos' n same =
    let f : ℕ → Term = term_of ends keys infos in
    let g : ℕ → Term = term_of ends' keys' infos' in
    fill_by_all g (map f (range_with_len 0 n)) n (f 0) (length-map-range_with_len f 0 n) (λ k h. get_or-map-range_with_len f 0 n k k (f 0) h (omega arith) ∙ same k h)
