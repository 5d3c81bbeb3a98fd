-- One document more.
use Rattle.std.proofs.Common.{◌≡◌, ℕ, suc, ◌+◌, List, [], ◌∷◌, ◌++◌, map, length, Option, sym, ap, ◌∙◌, arith, append_assoc, append-nil}
use Rattle.std.proofs.lemmas.List.{map-append, length-map}
use Rattle.seg_model.specs.DocumentTerms.{Recorded, listed, postings_from, recorded_in}
use Rattle.seg_model.specs.Columns.{values_at, fast_values}
use Rattle.seg_model.specs.Laws.{PostingsGrow, ColumnsGrow}

postings_from-push : (n : ℕ) (rs : List (Option Recorded)) (r : Option Recorded) → postings_from n (rs ++ r ∷ []) ≡ postings_from n rs ++ listed (n + length rs) r
postings_from-push n [] r = append-nil (listed n r) ∙ ap (λ i. listed i r) (let e : n ≡ n + 0 = omega arith in e)
postings_from-push n (x ∷ rs) r =
    ap (λ l. listed n x ++ l) (postings_from-push (n + 1) rs r)
    ∙ sym (append_assoc (listed n x) (postings_from (n + 1) rs) (listed (n + 1 + length rs) r))
    ∙ ap (λ i. (listed n x ++ postings_from (n + 1) rs) ++ listed i r) (let e : n + 1 + length rs ≡ n + suc (length rs) = omega arith in e)

pub postings_grow : PostingsGrow
postings_grow entry term documents occurred =
    ap (postings_from 0) (map-append (recorded_in entry term) documents (occurred ∷ []))
    ∙ postings_from-push 0 (map (recorded_in entry term) documents) (recorded_in entry term occurred)
    ∙ ap (λ i. postings_from 0 (map (recorded_in entry term) documents) ++ listed i (recorded_in entry term occurred)) (let e : 0 + length (map (recorded_in entry term) documents) ≡ length documents = omega (arith, length-map documents (recorded_in entry term)) in e)

pub columns_grow : ColumnsGrow
columns_grow schema analyzer ds d key =
    ap (map (values_at key)) (map-append (fast_values schema analyzer) ds (d ∷ []))
    ∙ map-append (values_at key) (map (fast_values schema analyzer) ds) (fast_values schema analyzer d ∷ [])
