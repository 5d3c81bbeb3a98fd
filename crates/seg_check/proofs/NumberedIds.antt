-- Numbers that count up from 1, with one more.
use Rattle.std.proofs.Common.{◌≡◌, ℕ, ◌+◌, List, [], ◌∷◌, ◌++◌, ap, sym, ◌∙◌, arith, add-one}
use Rattle.std.specs.List.{range_with_len}
use Rattle.seg_common.proofs.Lists.{range-one_more}

pub number_more : (old new : List ℕ) (n x : ℕ) → old ≡ range_with_len 1 n → new ≡ old ++ x ∷ [] → x ≡ n + 1
    → new ≡ range_with_len 1 (n + 1)
number_more old new n x h k e =
    k ∙ ap (λ xs. xs ++ x ∷ []) h ∙ rw add-one (sym (range-one_more 1 n x (omega (arith, e))))
