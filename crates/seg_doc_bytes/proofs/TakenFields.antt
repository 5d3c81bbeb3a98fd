-- Pairs of a stored document whose field was taken.
use Rattle.std.proofs.Common.{◌≡◌, ℕ, Bool, true, false, cond, List, [], ◌∷◌, Option, Some, None, inl, inr, refl, sym, ap, ◌∙◌, subst, if◌then◌else◌}
use Rattle.std.specs.Prelude.{nat_eq, not}
use Rattle.std.specs.Int.{w64, cast_signed}
use Rattle.std.proofs.lemmas.Bool.{false≢true, not-true}
use Rattle.std.proofs.lemmas.Bool.Decides.{eqb_tells}
use Rattle.seg_tokens.specs.declared.token.Token.{Token}
use Rattle.seg_values.specs.Tree.{Leaf, null, text, pre_tokenized, unsigned, signed, boolean, date, facet, byte_string, ip, Tree, leaf, array, object, trees_from, members_from}
use Rattle.seg_doc_bytes.specs.PassedBytes.{begins_with}
use Rattle.seg_doc_bytes.specs.FrontReaders.{Reader, then_read, made_of, counted_at, front, sized_at, text_at, small_at, number_at}
use Rattle.seg_doc_bytes.specs.StoredDocument.{is_top_leaf, is_top, most_levels_read, pair_at}
use Rattle.seg_doc_bytes.specs.StoredTree.{token_at, pre_tokenized_at, bit_at, leaf_at, member_at, tree_at, stored_tree_at}

-- what is read, if anything is, passes a test
abbrev All : {A : Type 0} → (A → Bool) → Option (A × List ℕ) → Type 0
All test None = Unit {0}
All test (Some p) = test p.0 ≡ true

made_all : {A B : Type 0} (make : A → B) (test : B → Bool) → ((x : A) → test (make x) ≡ true) → (o : Option (A × List ℕ)) → All test (made_of make o)
made_all make test always None = tt
made_all make test always (Some p) = always p.0

either : {A : Type 0} (test : A → Bool) (b : Bool) (x y : Option (A × List ℕ)) → All test x → All test y → All test (cond b x y)
either test true x y h k = h
either test false x y h k = k

-- leaves of the tags past 2
abbrev past_two : ℕ → Reader Leaf
past_two tag bytes =
    if nat_eq tag 3 then made_of unsigned (number_at bytes) else
    if nat_eq tag 4 then made_of (λ n. signed (cast_signed w64 n)) (number_at bytes) else
    if nat_eq tag 6 then made_of boolean (bit_at bytes) else
    if nat_eq tag 7 then made_of (λ n. date (cast_signed w64 n)) (number_at bytes) else
    if nat_eq tag 8 then made_of facet (text_at bytes) else
    if nat_eq tag 9 then made_of byte_string (sized_at bytes) else
    if nat_eq tag 12 then made_of ip (front 16 bytes) else None

past_top : (tag : ℕ) (bytes : List ℕ) → All is_top_leaf (past_two tag bytes)
past_top tag bytes =
    let T = is_top_leaf in
    either T (nat_eq tag 3) _ _ (made_all unsigned T (λ x. refl) (number_at bytes))
    (either T (nat_eq tag 4) _ _ (made_all (λ n. signed (cast_signed w64 n)) T (λ x. refl) (number_at bytes))
    (either T (nat_eq tag 6) _ _ (made_all boolean T (λ x. refl) (bit_at bytes))
    (either T (nat_eq tag 7) _ _ (made_all (λ n. date (cast_signed w64 n)) T (λ x. refl) (number_at bytes))
    (either T (nat_eq tag 8) _ _ (made_all facet T (λ x. refl) (text_at bytes))
    (either T (nat_eq tag 9) _ _ (made_all byte_string T (λ x. refl) (sized_at bytes))
    (either T (nat_eq tag 12) _ None (made_all ip T (λ x. refl) (front 16 bytes)) tt))))))

-- a leaf of another tag is no pre-tokenized text
top_leaf : (tag : ℕ) (bytes : List ℕ) → nat_eq tag 2 ≡ false → All is_top_leaf (leaf_at tag bytes)
top_leaf tag bytes other =
    let T = is_top_leaf in
    either T (nat_eq tag 0) (Some (null, bytes)) _ refl
    (either T (nat_eq tag 1) _ _ (made_all text T (λ x. refl) (text_at bytes))
    (subst (λ b. All T (cond b (pre_tokenized_at bytes) (past_two tag bytes))) (sym other) (past_top tag bytes)))

leaf_all : (o : Option (Leaf × List ℕ)) → All is_top_leaf o → All is_top (made_of leaf o)
leaf_all None h = tt
leaf_all (Some p) h = h

top_tree : (inner : Reader Tree) (tag : ℕ) (bytes : List ℕ) → nat_eq tag 2 ≡ false → All is_top (tree_at inner (tag ∷ bytes))
top_tree inner tag bytes other =
    either is_top (nat_eq tag 10) _ _ (made_all (λ ts. array (trees_from ts)) is_top (λ x. refl) (counted_at inner bytes))
    (either is_top (nat_eq tag 11) _ _ (made_all (λ ms. object (members_from ms)) is_top (λ x. refl) (counted_at (member_at inner) bytes))
    (leaf_all (leaf_at tag bytes) (top_leaf tag bytes other)))

-- where no 2 comes first
top_first : (inner : Reader Tree) (bytes : List ℕ) → begins_with 2 bytes ≡ false → All is_top (tree_at inner bytes)
top_first inner [] other = tt
top_first inner (tag ∷ bytes) other = top_tree inner tag bytes other

top : (bytes : List ℕ) → begins_with 2 bytes ≡ false → All is_top (stored_tree_at most_levels_read bytes)
unfolding stored_tree_at
top bytes other = top_first (stored_tree_at 199) bytes other

-- a pair, or none
abbrev paired : ℕ → Tree → Reader (ℕ × Tree)
paired field t after = if is_top t then Some ((field, t), after) else None

paired_all : (field : ℕ) (o : Option (Tree × List ℕ)) → All is_top o → then_read o (λ t after. paired field t after) ≡ made_of (λ t. (field, t)) o
paired_all field None h = refl
paired_all field (Some p) h = ap (λ b. cond {A = Option ((ℕ × Tree) × List ℕ)} b (Some ((field, p.0), p.1)) None) h

-- a pair whose field was taken
pub pair_front : (old left : List ℕ) (field : ℕ) → small_at old ≡ Some (field, left) → begins_with 2 left ≡ false → pair_at old ≡ made_of (λ t. (field, t)) (stored_tree_at most_levels_read left)
pair_front old left field s other =
    ap (λ o. then_read o (λ f rest. then_read (stored_tree_at most_levels_read rest) (λ t after. paired f t after))) s
    ∙ paired_all field (stored_tree_at most_levels_read left) (top left other)

-- ---- a text with its tokens by itself

abbrev not_top : Leaf → Bool
not_top l = not (is_top_leaf l)

with_tokens : (s : List ℕ) (o : Option (List Token × List ℕ)) → All not_top (then_read o (λ tokens after. Some (pre_tokenized (record { text = s; tokens = tokens }), after)))
with_tokens s None = tt
with_tokens s (Some p) = refl

with_text : (o : Option (List ℕ × List ℕ)) → All not_top (then_read o (λ s rest. then_read (counted_at token_at rest) (λ tokens after. Some (pre_tokenized (record { text = s; tokens = tokens }), after))))
with_text None = tt
with_text (Some p) = with_tokens p.0 (counted_at token_at p.1)

no_pair : (field : ℕ) (o : Option (Leaf × List ℕ)) → All not_top o → then_read (made_of leaf o) (λ t after. paired field t after) ≡ None
no_pair field None h = refl
no_pair field (Some p) h = ap (λ b. cond {A = Option ((ℕ × Tree) × List ℕ)} b (Some ((field, leaf p.0), p.1)) None) (not-true (is_top_leaf p.0) h)

refused_tree : (field : ℕ) (left : List ℕ) → begins_with 2 left ≡ true → then_read (stored_tree_at most_levels_read left) (λ t after. paired field t after) ≡ None
unfolding stored_tree_at
refused_tree field [] is = absurd (false≢true is)
refused_tree field (tag ∷ bytes) is = elim (eqb_tells tag 2) [
  | inl h ↦ ap (λ n. then_read (tree_at (stored_tree_at 199) (n ∷ bytes)) (λ t after. paired field t after)) h.1 ∙ no_pair field (pre_tokenized_at bytes) (with_text (text_at bytes))
  | inr h ↦ absurd (false≢true (sym h.0 ∙ is))
]

pub pair_refused : (old left : List ℕ) (field : ℕ) → small_at old ≡ Some (field, left) → begins_with 2 left ≡ true → pair_at old ≡ None
pair_refused old left field s is = ap (λ o. then_read o (λ f rest. then_read (stored_tree_at most_levels_read rest) (λ t after. paired f t after))) s ∙ refused_tree field left is
