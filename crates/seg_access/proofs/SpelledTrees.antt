-- What pieces spell: at most one tree, and none where a part isn't spelled.
use Rattle.std.proofs.Common.{◌≡◌, ◌<◌, ◌≤◌, ◌+◌, ℕ, ◌⊎◌, inl, inr, List, [], ◌∷◌, ◌++◌, length, length-append, map, refl, sym, ap, ◌∙◌, append_assoc, arith}
use Rattle.std.proofs.lemmas.List.{length-map}
use Rattle.seg_values.specs.declared.value_error.ValueError.{ValueError}
use Rattle.seg_values.specs.declared.value_error.ValueError.TheVariants.{Malformed, OutOfMemory}
use Rattle.seg_values.specs.Tree.{Tree, leaf, array, object, Trees, no_trees, tree, Members, no_members, member, trees_from, members_from}
use Rattle.seg_access.specs.Pieces.{Mark, value, values, members, key, field, unknown, json_mark, spelling, spellings, member_spellings, tree_count, member_count, SpellsNone, SpellsNoKey, SpellsNoValues, SpellsNoMembers}

regroup : (x y r z w s : List Mark) → (x ++ y) ++ r ≡ (z ++ w) ++ s → x ++ (y ++ r) ≡ z ++ (w ++ s)
regroup x y r z w s e = sym (append_assoc x y r) ∙ e ∙ append_assoc z w s

-- ---- at most one tree

mutual
  pub spelling_once : (t u : Tree) (r s : List Mark) → spelling t ++ r ≡ spelling u ++ s → (t ≡ u) × (r ≡ s)
  spelling_once (leaf l) (leaf m) r s e = let same : l ≡ m = cc in (ap leaf same, cc)
  spelling_once (leaf l) (array us) r s e = absurd cc
  spelling_once (leaf l) (object ns) r s e = absurd cc
  spelling_once (array ts) (leaf m) r s e = absurd cc
  spelling_once (array ts) (array us) r s e =
      let count : tree_count ts ≡ tree_count us = cc in
      let following : spellings ts ++ r ≡ spellings us ++ s = cc in
      let same = spellings_once ts us r s count following in
      (ap array same.0, same.1)
  spelling_once (array ts) (object ns) r s e = absurd cc
  spelling_once (object ms) (leaf m) r s e = absurd cc
  spelling_once (object ms) (array us) r s e = absurd cc
  spelling_once (object ms) (object ns) r s e =
      let count : member_count ms ≡ member_count ns = cc in
      let following : member_spellings ms ++ r ≡ member_spellings ns ++ s = cc in
      let same = member_spellings_once ms ns r s count following in
      (ap object same.0, same.1)

  spellings_once : (ts us : Trees) (r s : List Mark) → tree_count ts ≡ tree_count us → spellings ts ++ r ≡ spellings us ++ s → (ts ≡ us) × (r ≡ s)
  spellings_once no_trees no_trees r s n e = (refl, e)
  spellings_once no_trees (tree u us) r s n e = absurd (omega arith)
  spellings_once (tree t ts) no_trees r s n e = absurd (omega arith)
  spellings_once (tree t ts) (tree u us) r s n e =
      let first = spelling_once t u (spellings ts ++ r) (spellings us ++ s) (regroup (spelling t) (spellings ts) r (spelling u) (spellings us) s e) in
      let later = spellings_once ts us r s (omega arith) first.1 in
      (λ i. tree (first.0 i) (later.0 i), later.1)

  member_spellings_once : (ms ns : Members) (r s : List Mark) → member_count ms ≡ member_count ns → member_spellings ms ++ r ≡ member_spellings ns ++ s → (ms ≡ ns) × (r ≡ s)
  member_spellings_once no_members no_members r s n e = (refl, e)
  member_spellings_once no_members (member j u ns) r s n e = absurd (omega arith)
  member_spellings_once (member k t ms) no_members r s n e = absurd (omega arith)
  member_spellings_once (member k t ms) (member j u ns) r s n e =
      let same : k ≡ j = cc in
      let following : (spelling t ++ member_spellings ms) ++ r ≡ (spelling u ++ member_spellings ns) ++ s = cc in
      let first = spelling_once t u (member_spellings ms ++ r) (member_spellings ns ++ s) (regroup (spelling t) (member_spellings ms) r (spelling u) (member_spellings ns) s following) in
      let later = member_spellings_once ms ns r s (omega arith) first.1 in
      (λ i. member (same i) (first.0 i) (later.0 i), later.1)

-- ---- no tree from a piece on

pub none_at_end : (marks : List Mark) → marks ≡ [] → SpellsNone marks
none_at_end marks h (leaf l) rest e = absurd cc
none_at_end marks h (array ts) rest e = absurd cc
none_at_end marks h (object ms) rest e = absurd cc

pub none_at_key : (marks left : List Mark) (k : List ℕ) → marks ≡ key k ∷ left → SpellsNone marks
none_at_key marks left k h (leaf l) rest e = absurd cc
none_at_key marks left k h (array ts) rest e = absurd cc
none_at_key marks left k h (object ms) rest e = absurd cc

pub none_at_field : (marks left : List Mark) (f : ℕ) → marks ≡ field f ∷ left → SpellsNone marks
none_at_field marks left f h (leaf l) rest e = absurd cc
none_at_field marks left f h (array ts) rest e = absurd cc
none_at_field marks left f h (object ms) rest e = absurd cc

pub none_at_unknown : (marks left : List Mark) → marks ≡ unknown ∷ left → SpellsNone marks
none_at_unknown marks left h (leaf l) rest e = absurd cc
none_at_unknown marks left h (array ts) rest e = absurd cc
none_at_unknown marks left h (object ms) rest e = absurd cc

pub none_at_values : (marks left : List Mark) (n : ℕ) → marks ≡ values n ∷ left → SpellsNoValues n left → SpellsNone marks
none_at_values marks left n h none (leaf l) rest e = absurd cc
none_at_values marks left n h none (array ts) rest e = let f : tree_count ts ≡ n = cc in let b : left ≡ spellings ts ++ rest = cc in none ts rest f b
none_at_values marks left n h none (object ms) rest e = absurd cc

pub none_at_members : (marks left : List Mark) (n : ℕ) → marks ≡ members n ∷ left → SpellsNoMembers n left → SpellsNone marks
none_at_members marks left n h none (leaf l) rest e = absurd cc
none_at_members marks left n h none (array ts) rest e = absurd cc
none_at_members marks left n h none (object ms) rest e = let f : member_count ms ≡ n = cc in let b : left ≡ member_spellings ms ++ rest = cc in none ms rest f b

-- ---- parts one after the other

-- where what is left spells no tree, and one is missing, this many aren't spelled
missing_value : (done : Trees) (n : ℕ) (all left : List Mark) → all ≡ spellings done ++ left → tree_count done < n → SpellsNone left → SpellsNoValues n all
missing_value no_trees n all left p h none no_trees rest c e = absurd (omega arith)
missing_value no_trees n all left p h none (tree t ts) rest c e = none t (spellings ts ++ rest) (sym p ∙ e ∙ append_assoc (spelling t) (spellings ts) rest)
missing_value (tree d ds) n all left p h none no_trees rest c e = absurd (omega arith)
missing_value (tree d ds) n all left p h none (tree t ts) rest c e =
    let first = spelling_once d t (spellings ds ++ left) (spellings ts ++ rest) (regroup (spelling d) (spellings ds) left (spelling t) (spellings ts) rest (sym p ∙ e)) in
    missing_value ds (tree_count ts) (spellings ds ++ left) left refl (omega arith) none ts rest refl first.1

-- no key with a value is spelled from the first piece on
abbrev SpellsNoMember : List Mark → Type 0
SpellsNoMember marks = (k : List ℕ) (t : Tree) (rest : List Mark) → marks ≡ key k ∷ (spelling t ++ rest) → ⊥

missing_member : (done : Members) (n : ℕ) (all left : List Mark) → all ≡ member_spellings done ++ left → member_count done < n → SpellsNoMember left → SpellsNoMembers n all
missing_member no_members n all left p h none no_members rest c e = absurd (omega arith)
missing_member no_members n all left p h none (member k t ms) rest c e =
    none k t (member_spellings ms ++ rest) (sym p ∙ e ∙ ap (λ l. key k ∷ l) (append_assoc (spelling t) (member_spellings ms) rest))
missing_member (member j d ds) n all left p h none no_members rest c e = absurd (omega arith)
missing_member (member j d ds) n all left p h none (member k t ms) rest c e =
    let both : key j ∷ ((spelling d ++ member_spellings ds) ++ left) ≡ key k ∷ ((spelling t ++ member_spellings ms) ++ rest) = sym p ∙ e in
    let following : (spelling d ++ member_spellings ds) ++ left ≡ (spelling t ++ member_spellings ms) ++ rest = cc in
    let first = spelling_once d t (member_spellings ds ++ left) (member_spellings ms ++ rest) (regroup (spelling d) (member_spellings ds) left (spelling t) (member_spellings ms) rest following) in
    missing_member ds (member_count ms) (member_spellings ds ++ left) left refl (omega arith) none ms rest refl first.1

-- ---- one more part

spellings_last : (vs : List Tree) (t : Tree) (r : List Mark) → spellings (trees_from (vs ++ t ∷ [])) ++ r ≡ spellings (trees_from vs) ++ (spelling t ++ r)
spellings_last [] t r = append_assoc (spelling t) [] r
spellings_last (v ∷ vs) t r =
    append_assoc (spelling v) (spellings (trees_from (vs ++ t ∷ []))) r ∙ ap (λ l. spelling v ++ l) (spellings_last vs t r)
    ∙ sym (append_assoc (spelling v) (spellings (trees_from vs)) (spelling t ++ r))

tree_count_last : (vs : List Tree) (t : Tree) → tree_count (trees_from (vs ++ t ∷ [])) ≡ tree_count (trees_from vs) + 1
tree_count_last [] t = refl
tree_count_last (v ∷ vs) t = omega (arith, tree_count_last vs t)

member_spellings_last : (ms : List (List ℕ × Tree)) (k : List ℕ) (t : Tree) (r : List Mark) → member_spellings (members_from (ms ++ (k, t) ∷ [])) ++ r ≡ member_spellings (members_from ms) ++ (key k ∷ (spelling t ++ r))
member_spellings_last [] k t r = ap (λ l. key k ∷ l) (append_assoc (spelling t) [] r)
member_spellings_last (m ∷ ms) k t r =
    ap (λ l. key m.0 ∷ l) (append_assoc (spelling m.1) (member_spellings (members_from (ms ++ (k, t) ∷ []))) r ∙ ap (λ l. spelling m.1 ++ l) (member_spellings_last ms k t r)
    ∙ sym (append_assoc (spelling m.1) (member_spellings (members_from ms)) (key k ∷ (spelling t ++ r))))

member_count_last : (ms : List (List ℕ × Tree)) (k : List ℕ) (t : Tree) → member_count (members_from (ms ++ (k, t) ∷ [])) ≡ member_count (members_from ms) + 1
member_count_last [] k t = refl
member_count_last (m ∷ ms) k t = omega (arith, member_count_last ms k t)

-- ---- what was read, and what is left

-- this many values were read from all the pieces
pub record Read (all left : List Mark) (vs : List Tree) (n : ℕ) : Type 0 where
  pub count : tree_count (trees_from vs) ≡ n
  pub spelled : all ≡ spellings (trees_from vs) ++ left

pub record ReadMembers (all left : List Mark) (ms : List (List ℕ × Tree)) (n : ℕ) : Type 0 where
  pub count : member_count (members_from ms) ≡ n
  pub spelled : all ≡ member_spellings (members_from ms) ++ left

pub read_more : (all left after : List Mark) (vs us : List Tree) (n : ℕ) (t : Tree) → Read all left vs n → left ≡ spelling t ++ after → us ≡ vs ++ t ∷ [] → Read all after us (n + 1)
read_more all left after vs us n t r e p = record {
  count = ap (λ l. tree_count (trees_from l)) p ∙ tree_count_last vs t ∙ ap (λ k. k + 1) r.count;
  spelled = r.spelled ∙ ap (λ l. spellings (trees_from vs) ++ l) e ∙ sym (spellings_last vs t after) ∙ ap (λ l. spellings (trees_from l) ++ after) (sym p);
}

pub read_member_more : (all left following after : List Mark) (ms ns : List (List ℕ × Tree)) (n : ℕ) (k : List ℕ) (t : Tree) → ReadMembers all left ms n → left ≡ key k ∷ following → following ≡ spelling t ++ after
    → ns ≡ ms ++ (k, t) ∷ [] → ReadMembers all after ns (n + 1)
read_member_more all left following after ms ns n k t r f e p = record {
  count = ap (λ l. member_count (members_from l)) p ∙ member_count_last ms k t ∙ ap (λ k. k + 1) r.count;
  spelled = r.spelled ∙ ap (λ l. member_spellings (members_from ms) ++ l) (f ∙ ap (λ l. key k ∷ l) e) ∙ sym (member_spellings_last ms k t after)
      ∙ ap (λ l. member_spellings (members_from l) ++ after) (sym p);
}

pub none_more : (all left : List Mark) (vs : List Tree) (n total : ℕ) → Read all left vs n → n < total → SpellsNone left → SpellsNoValues total all
none_more all left vs n total r h none = missing_value (trees_from vs) total all left r.spelled (omega (arith, r.count)) none

-- where no key follows
pub no_key_more : (all left : List Mark) (ms : List (List ℕ × Tree)) (n total : ℕ) → ReadMembers all left ms n → n < total → SpellsNoKey left → SpellsNoMembers total all
no_key_more all left ms n total r h none = missing_member (members_from ms) total all left r.spelled (omega (arith, r.count)) (λ k t rest e. none k (spelling t ++ rest) e)

-- where no value is after a key
pub no_value_more : (all left following : List Mark) (ms : List (List ℕ × Tree)) (n total : ℕ) (k : List ℕ) → ReadMembers all left ms n → n < total → left ≡ key k ∷ following → SpellsNone following → SpellsNoMembers total all
no_value_more all left following ms n total k r h f none =
    missing_member (members_from ms) total all left r.spelled (omega (arith, r.count)) (λ j t rest e. none t rest (let b : following ≡ spelling t ++ rest = cc in b))

-- ---- how it ends

-- what is spelled isn't longer without its first part
pub no_longer_after : (t : Tree) (left after : List Mark) → left ≡ spelling t ++ after → length after ≤ length left
no_longer_after t left after e = omega (arith, ap length e, length-append (spelling t) after)

pub json_no_longer_after : (t : Tree) (left after : List Mark) → map json_mark left ≡ spelling t ++ map json_mark after → length after ≤ length left
json_no_longer_after t left after e = omega (arith, ap length e, length-append (spelling t) (map json_mark after), length-map left json_mark, length-map after json_mark)

-- the causes of a refusal, where what isn't spelled is told of more
pub refused : {P Q : Type 0} (e : ValueError) → (P → Q) → (e ≡ OutOfMemory) ⊎ ((e ≡ Malformed) × P) → (e ≡ OutOfMemory) ⊎ ((e ≡ Malformed) × Q)
refused e f (inl memory) = inl memory
refused e f (inr malformed) = inr (malformed.0, f malformed.1)
