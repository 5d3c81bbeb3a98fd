-- Which pieces are keys and fields.
use Rattle.std.proofs.Common.{◌≡◌, ℕ, ℤ, ◌⊎◌, inl, inr, List, [], ◌∷◌, map, ap, ◌∙◌}
use Rattle.seg_access.specs.declared.pieces.Piece.{Piece}
use Rattle.seg_access.specs.declared.pieces.Piece.TheVariants.{PreTokStr, Date, Facet, Bytes, IpAddr, Key, FieldOf}
use Rattle.seg_tokens.specs.declared.token.PreTokenizedString.{PreTokenizedString}
use Rattle.std.specs.declared.net.ipv6_addr.Ipv6Addr.{Ipv6Addr}
use Rattle.seg_values.specs.Tree.{Leaf, null, text, pre_tokenized, unsigned, signed, boolean, date, facet, byte_string, ip}
use Rattle.seg_access.specs.Pieces.{Mark, value, key, field, mark_of, json_mark, json_value, SpellsNone, SpellsNoKey}
use Rattle.seg_access.proofs.SpelledTrees.{none_at_key, none_at_field, none_at_unknown}

pub key_piece : (p : Piece) (k : List ℕ) → mark_of p ≡ key k → p ≡ Key k
key_piece (Key s) k e = ap Key (let same : s ≡ k = cc in same)
key_piece piece k e = absurd cc

pub field_piece : (p : Piece) (f : ℕ) → mark_of p ≡ field f → p ≡ FieldOf f
field_piece (FieldOf g) f e = ap FieldOf (let same : g ≡ f = cc in same)
field_piece piece f e = absurd cc

-- ---- the same, as JSON sees pieces

leaf_no_key : (l : Leaf) (k : List ℕ) → json_value l ≡ key k → ⊥
leaf_no_key null k e = cc
leaf_no_key (text s) k e = cc
leaf_no_key (pre_tokenized p) k e = cc
leaf_no_key (unsigned n) k e = cc
leaf_no_key (signed z) k e = cc
leaf_no_key (boolean b) k e = cc
leaf_no_key (date z) k e = cc
leaf_no_key (facet s) k e = cc
leaf_no_key (byte_string b) k e = cc
leaf_no_key (ip a) k e = cc

json_key : (m : Mark) (k : List ℕ) → json_mark m ≡ key k → m ≡ key k
json_key (value l) k e = absurd (leaf_no_key l k e)
json_key (key s) k e = e
json_key mark k e = absurd cc

pub json_no_key : (marks : List Mark) → SpellsNoKey marks → SpellsNoKey (map json_mark marks)
json_no_key [] none k rest e = absurd cc
json_no_key (m ∷ ms) none k rest e =
    let first : json_mark m ≡ key k = cc in
    none k ms (ap (λ l. l ∷ ms) (json_key m k first))

-- ---- pieces that begin no value

pub none_at_misplaced : (p : Piece) (marks left : List Mark) → marks ≡ mark_of p ∷ left → ((x : List ℕ) × (p ≡ Key x)) ⊎ ((x : ℕ) × (p ≡ FieldOf x)) → SpellsNone marks
none_at_misplaced p marks left e (inl h) = none_at_key marks left h.0 (e ∙ ap (λ (q : Piece). mark_of q ∷ left) h.1)
none_at_misplaced p marks left e (inr h) = none_at_field marks left h.0 (e ∙ ap (λ (q : Piece). mark_of q ∷ left) h.1)

abbrev IsMisplaced : Piece → Type 0
IsMisplaced p = ((x : PreTokenizedString) × (p ≡ PreTokStr x)) ⊎ (((x : ℤ) × (p ≡ Date x)) ⊎ (((x : List ℕ) × (p ≡ Facet x)) ⊎ (((x : List ℕ) × (p ≡ Bytes x)) ⊎ (((x : Ipv6Addr) × (p ≡ IpAddr x)) ⊎ (((x : List ℕ) × (p ≡ Key x)) ⊎ (((x : ℕ) × (p ≡ FieldOf x))))))))

pub none_at_json_misplaced : (p : Piece) (marks left : List Mark) → marks ≡ mark_of p ∷ left → IsMisplaced p → SpellsNone (map json_mark marks)
none_at_json_misplaced p marks left e (inl h) = none_at_unknown (map json_mark marks) (map json_mark left) (ap (map json_mark) e ∙ ap (λ (q : Piece). json_mark (mark_of q) ∷ map json_mark left) h.1)
none_at_json_misplaced p marks left e (inr (inl h)) = none_at_unknown (map json_mark marks) (map json_mark left) (ap (map json_mark) e ∙ ap (λ (q : Piece). json_mark (mark_of q) ∷ map json_mark left) h.1)
none_at_json_misplaced p marks left e (inr (inr (inl h))) = none_at_unknown (map json_mark marks) (map json_mark left) (ap (map json_mark) e ∙ ap (λ (q : Piece). json_mark (mark_of q) ∷ map json_mark left) h.1)
none_at_json_misplaced p marks left e (inr (inr (inr (inl h)))) = none_at_unknown (map json_mark marks) (map json_mark left) (ap (map json_mark) e ∙ ap (λ (q : Piece). json_mark (mark_of q) ∷ map json_mark left) h.1)
none_at_json_misplaced p marks left e (inr (inr (inr (inr (inl h))))) = none_at_unknown (map json_mark marks) (map json_mark left) (ap (map json_mark) e ∙ ap (λ (q : Piece). json_mark (mark_of q) ∷ map json_mark left) h.1)
none_at_json_misplaced p marks left e (inr (inr (inr (inr (inr (inl h)))))) = none_at_key (map json_mark marks) (map json_mark left) h.0 (ap (map json_mark) e ∙ ap (λ (q : Piece). json_mark (mark_of q) ∷ map json_mark left) h.1)
none_at_json_misplaced p marks left e (inr (inr (inr (inr (inr (inr h)))))) = none_at_field (map json_mark marks) (map json_mark left) h.0 (ap (map json_mark) e ∙ ap (λ (q : Piece). json_mark (mark_of q) ∷ map json_mark left) h.1)
