-- What is printed of the front of bytes.
use Rattle.std.proofs.Common.{◌≡◌, ℕ, List, [], ◌++◌, Option, Some, None, sym, ap, ◌∙◌, append_assoc, append-nil}
use Rattle.std.specs.Prelude.{Result, Ok, Err, IfOk}
use Rattle.serde_json.specs.Written.{compact_text}
use Rattle.seg_doc_bytes.specs.FrontReaders.{Reader, made_of}
use Rattle.seg_doc_bytes.specs.StoredTree.{leaf_at}
use Rattle.seg_values.specs.Tree.{Leaf, Tree}
use Rattle.seg_values.specs.ValueJson.{leaf_json, value_json}
use Rattle.seg_text.specs.PrintedFronts.{HasMore, Printed, Prints}

-- nothing more
pub not_more : (out : List ℕ) → HasMore out out
not_more out = record { more = []; is = sym (append-nil out) }

-- this more
pub more_by : (before after xs : List ℕ) → after ≡ before ++ xs → HasMore before after
more_by before after xs is = record { more = xs; is = is }

-- more, and then more
pub more_then : (before mid after : List ℕ) → HasMore before mid → HasMore mid after → HasMore before after
more_then before mid after a b = record { more = a.more ++ b.more; is = b.is ∙ ap (λ xs. xs ++ b.more) a.is ∙ append_assoc before a.more b.more }

-- what is printed, as another text that is the same
pub printed_text : {A : Type 0} (read : Reader A) (text other : A → List ℕ) (bytes rest before after : List ℕ) → ((x : A) → text x ≡ other x) → Printed read text bytes rest before after → Printed read other bytes rest before after
printed_text read text other bytes rest before after same p = record { value = p.value; is = p.is; printed = p.printed ∙ ap (λ xs. before ++ xs) (same p.value) }

-- what reads the same is printed of it
pub prints_front : {A B E : Type 0} (read as_read : Reader A) (text : A → List ℕ) (bytes as_bytes rest before after : List ℕ) (r : Result (Option B) E) → read bytes ≡ as_read as_bytes → IfOk r (Prints as_read text as_bytes rest before after) → IfOk r (Prints read text bytes rest before after)
prints_front read as_read text bytes as_bytes rest before after (Ok (Some done)) is p = record { value = p.value; is = is ∙ p.is; printed = p.printed }
prints_front read as_read text bytes as_bytes rest before after (Ok None) is p = p
prints_front read as_read text bytes as_bytes rest before after (Err e) is p = p

-- as another thing
pub prints_as : {A B C E : Type 0} (make : A → C) (text : A → List ℕ) (other : C → List ℕ) (read : Reader A) (bytes rest before after : List ℕ) (r : Result (Option B) E) → ((x : A) → text x ≡ other (make x)) → IfOk r (Prints read text bytes rest before after) → IfOk r (Prints (λ b. made_of make (read b)) other bytes rest before after)
prints_as make text other read bytes rest before after (Ok (Some done)) same p = record { value = make p.value; is = ap (made_of make) p.is; printed = p.printed ∙ ap (λ xs. before ++ xs) (same p.value) }
prints_as make text other read bytes rest before after (Ok None) same p = p
prints_as make text other read bytes rest before after (Err e) same p = p

-- a tree as JSON
abbrev pub tree_text : Tree → List ℕ
tree_text t = compact_text (value_json t)

-- a leaf as JSON
abbrev pub leaf_text : Leaf → List ℕ
leaf_text l = compact_text (leaf_json l)

-- a leaf whose tag is known
pub prints_leaf : {A B E : Type 0} (tag known : ℕ) (make : A → Leaf) (text : A → List ℕ) (read : Reader A) (bytes rest before after : List ℕ) (r : Result (Option B) E) → tag ≡ known → leaf_at known bytes ≡ made_of make (read bytes) → ((x : A) → text x ≡ leaf_text (make x)) → IfOk r (Prints read text bytes rest before after) → IfOk r (Prints (leaf_at tag) leaf_text bytes rest before after)
prints_leaf tag known make text read bytes rest before after r same is texts p =
    prints_front (leaf_at tag) (λ b. made_of make (read b)) leaf_text bytes bytes rest before after r (ap (λ t. leaf_at t bytes) same ∙ is) (prints_as make text leaf_text read bytes rest before after r texts p)
