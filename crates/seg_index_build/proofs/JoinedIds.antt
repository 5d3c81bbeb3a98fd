-- Ids that are joined by spaces.
use Rattle.std.proofs.Common.{◌≡◌, ◌≤◌, ℕ, List, [], ◌∷◌, ◌++◌, drop, length, map, append_assoc, sym, ap, ◌∙◌}
use Rattle.std.specs.List.{flat_map, join_with_byte}
use Rattle.std.proofs.lemmas.List.{append-nil, drop_all}
use Rattle.seg_common.specs.SegmentIds.{id_text}

-- an id after a space
abbrev pub spaced : ℕ → List ℕ
spaced id = 32 ∷ id_text id

-- the first, and then each other after a space
pub joined_ids : (id : ℕ) (ids : List ℕ) → id_text id ++ flat_map spaced ids ≡ join_with_byte 32 (map id_text (id ∷ ids))
joined_ids id [] = append-nil (id_text id)
joined_ids id (next ∷ ids) = ap (λ l. id_text id ++ 32 ∷ l) (joined_ids next ids)

-- what is said after the last id
pub all_joined : (text before start : List ℕ) (first : ℕ) (rest ids : List ℕ) (i : ℕ) → length rest ≤ i → text ++ flat_map spaced (drop i rest) ≡ before ++ flat_map spaced rest → before ≡ start ++ id_text first → ids ≡ first ∷ rest
    → text ≡ start ++ join_with_byte 32 (map id_text ids)
all_joined text before start first rest ids i end said begun is =
    sym (append-nil text)
    ∙ ap (λ l. text ++ flat_map spaced l) (sym (drop_all i rest end))
    ∙ said
    ∙ ap (λ l. l ++ flat_map spaced rest) begun
    ∙ append_assoc start (id_text first) (flat_map spaced rest)
    ∙ ap (λ l. start ++ l) (joined_ids first rest ∙ ap (λ l. join_with_byte 32 (map id_text l)) (sym is))
