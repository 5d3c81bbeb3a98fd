-- The paths of nodes.
use Rattle.std.proofs.Common.{◌≡◌, ℕ, zero, suc, ◌+◌, ◌<◌, ◌≤◌, ◌^◌, Bool, true, false, cond, List, [], ◌∷◌, ◌++◌, length, get_or, drop, Option, Some, None, position, append_assoc, refl, sym, ap, ◌∙◌, subst, arith}
use Rattle.std.specs.Prelude.{Result, Ok, Err, IfOk, OnErr, IsTrue, nat_eq}
use Rattle.std.specs.Cmp.Lexicographic.{bytes_decides, nat_list_eq_equiv}
use Rattle.std.specs.List.{IsDistinct, list_any}
use Rattle.std.specs.Option.{option_eq}
use Rattle.std.specs.Str.{bytes_eq}
use Rattle.std.proofs.lemmas.Bool.{false≢true, and_parts, or_from, or_parts}
use Rattle.std.proofs.lemmas.Bool.Decides.{Decides-eqb}
use Rattle.std.proofs.lemmas.List.{get_or_append_left, length-append, length_push}
use Rattle.std.proofs.lemmas.List.Folds.{list_any-append}
use Rattle.std.proofs.lemmas.List.Quantifiers.{position-Some}
use Rattle.std.proofs.lemmas.Map.Keys.{IsDistinct-push}
use Rattle.std.proofs.Math.Seq.{get_or-append_seam}
use Rattle.std.specs.declared.alloc.AllocError.{AllocError}
use Rattle.indexmap.specs.IndexSet.{insert_key}
use Rattle.seg_paths.specs.Nodes.{Node, node_path, paths_with, IsPart, IsSound, AreSound, node_eq, node_eq_equiv}
use Rattle.seg_paths.specs.Paths.{number_of, Extends, IsAbove, below}
use Rattle.seg_paths.proofs.EndedPaths.{first}
use Rattle.seg_paths.proofs.PathNumbers.{number-from, same_place, extends-refl, extends-trans}

-- ---- below a path

pub above-kept : (old new : List (List ℕ)) (above : Option ℕ) → Extends old new → IsAbove old above → IsAbove new above
above-kept old new None more h = tt
above-kept old new (Some n) more h =
    let lt : n < length old = h in
    let many : length new ≡ length old + length more.0 = ap length more.1 ∙ length-append old more.0 in
    omega (arith, lt, many)

pub below-kept : (old new : List (List ℕ)) (above : Option ℕ) (bytes : List ℕ) → Extends old new
    → IsAbove old above → below new above bytes ≡ below old above bytes
below-kept old new None bytes more h = refl
below-kept old new (Some n) bytes more h = ap (λ (p : List ℕ). p ++ 1 ∷ bytes) (ap (λ (ps : List
    (List ℕ)). get_or ps n []) more.1 ∙ get_or_append_left old more.0 [] n h)

pub below-append : (paths : List (List ℕ)) (above : Option ℕ) (xs ys : List ℕ)
    → below paths above (xs ++ ys) ≡ below paths above xs ++ ys
below-append paths None xs ys = refl
below-append paths (Some n) xs ys = sym (append_assoc (get_or paths n []) (1 ∷ xs) ys)

-- ---- the last part of a path

-- no byte 1 is in a part
no_one_in : (xs part rest : List ℕ) → IsPart part → part ≡ xs ++ 1 ∷ rest → ⊥
no_one_in [] [] rest h e = let n : 0 ≡ length (1 ∷ rest) = ap length e in omega (arith, n)
no_one_in [] (b ∷ bs) rest h e = let one : b ≡ 1 = ap first e in omega (arith, h.0, one)
no_one_in (x ∷ xs) [] rest h e = let n : 0 ≡ length (x ∷ (xs ++ 1 ∷ rest)) = ap length e in omega (arith, n)
no_one_in (x ∷ xs) (b ∷ bs) rest h e = no_one_in xs bs rest h.1 (ap (λ (l : List ℕ). drop 1 l) e)

last_part : (xs ys p q : List ℕ) → IsPart p → IsPart q → xs ++ 1 ∷ p ≡ ys ++ 1 ∷ q → (xs ≡ ys) × (p ≡ q)
last_part [] [] p q hp hq e = (refl, ap (λ (l : List ℕ). drop 1 l) e)
last_part [] (y ∷ ys) p q hp hq e = absurd (no_one_in ys p q hp (ap (λ (l : List ℕ). drop 1 l) e))
last_part (x ∷ xs) [] p q hp hq e = absurd (no_one_in xs q p hq (sym (ap (λ (l : List ℕ). drop 1 l) e)))
last_part (x ∷ xs) (y ∷ ys) p q hp hq e =
    let rest = last_part xs ys p q hp hq (ap (λ (l : List ℕ). drop 1 l) e) in
    let here : x ≡ y = ap first e in
    (λ i. here i ∷ rest.0 i, rest.1)

module _ (paths : List (List ℕ)) (distinct : IsDistinct bytes_eq paths) where
  -- a path has one last part, below one path
  same_parts : (a b : Option ℕ) (p q : List ℕ) → IsAbove paths a → IsAbove paths b → IsPart p → IsPart q
      → below paths a p ≡ below paths b q → (a ≡ b) × (p ≡ q)
  same_parts None None p q ha hb hp hq e = (refl, e)
  same_parts None (Some m) p q ha hb hp hq e = absurd (no_one_in (get_or paths m []) p q hp e)
  same_parts (Some n) None p q ha hb hp hq e = absurd (no_one_in (get_or paths n []) q p hq (sym e))
  same_parts (Some n) (Some m) p q ha hb hp hq e =
      let both = last_part (get_or paths n []) (get_or paths m []) p q hp hq e in
      (ap Some (same_place paths n m distinct ha hb both.0), both.1)

-- ---- the paths of nodes

pub paths-extend : (before : List (List ℕ)) (ns : List Node) → Extends before (paths_with before ns)
paths-extend before [] = extends-refl before
paths-extend before (n ∷ ns) =
    extends-trans before (before ++ node_path before n ∷ []) (paths_with (before ++ node_path before n ∷ []) ns)
    (node_path before n ∷ [], refl) (paths-extend (before ++ node_path before n ∷ []) ns)

pub paths-push : (before : List (List ℕ)) (ns : List Node) (n : Node)
    → paths_with before (ns ++ n ∷ []) ≡ paths_with before ns ++ node_path (paths_with before ns) n ∷ []
paths-push before [] n = refl
paths-push before (m ∷ ms) n = paths-push (before ++ node_path before m ∷ []) ms n

pub sound-push : (before : List (List ℕ)) (ns : List Node) (n : Node) → AreSound before ns
    → IsSound (paths_with before ns) n → AreSound before (ns ++ n ∷ [])
sound-push before [] n sound one = (one, tt)
sound-push before (m ∷ ms) n sound one = (sound.0, sound-push (before ++ node_path before m ∷ []) ms n sound.1 one)

pub length-paths : (before : List (List ℕ)) (ns : List Node) → length (paths_with before ns) ≡ length before + length ns
length-paths before [] = omega arith
length-paths before (n ∷ ns) =
    let rest = length-paths (before ++ node_path before n ∷ []) ns in
    omega (arith, rest, length_push before (node_path before n))

-- the path at the place of a node is the node's
pub path-at : (before : List (List ℕ)) (ns : List Node) (k j : ℕ) (d : Node) → AreSound before ns → k < length ns
    → j ≡ length before + k → get_or (paths_with before ns) j [] ≡ node_path (paths_with before ns) (get_or ns k d)
path-at before [] k j d sound lt is = absurd (omega (arith, lt))
path-at before (n ∷ ns) zero j d sound lt is =
    let next = before ++ node_path before n ∷ [] in
    let final = paths_with next ns in
    let more = paths-extend next ns in
    let many : length next ≡ length before + 1 = length_push before (node_path before n) in
    let here : j ≡ length before = omega (arith, is) in
    ap (λ (ps : List (List ℕ)). get_or ps j []) more.1
    ∙ get_or_append_left next more.0 [] j (omega (arith, here, many))
    ∙ ap (λ i. get_or next i []) here
    ∙ get_or-append_seam before (node_path before n) [] []
    ∙ sym (below-kept before final n.head n.bytes (paths-extend before (n ∷ ns)) sound.0.above)
path-at before (n ∷ ns) (suc k) j d sound lt is =
    path-at (before ++ node_path before n ∷ []) ns k j d sound.1 (omega (arith, lt)) (omega (
      arith,
      is,
      length_push before (node_path before n),
    ))

-- ---- a node that is there

same_head : (a b : Option ℕ) → option_eq nat_eq a b ≡ true → a ≡ b
same_head None None h = refl
same_head None (Some m) h = absurd (false≢true h)
same_head (Some n) None h = absurd (false≢true h)
same_head (Some n) (Some m) h = ap Some ((Decides-eqb n m).0 h)

node_same : (m n : Node) → IsTrue (node_eq m n) → m ≡ n
node_same m n h =
    let both = and_parts (option_eq nat_eq m.head n.head) (bytes_eq m.bytes n.bytes) h in
    let head = same_head m.head n.head both.0 in
    let bytes = (bytes_decides m.bytes n.bytes).0 both.1 in
    λ i. record { head = head i; bytes = bytes i }

node_eq-from : (m n : Node) → m.head ≡ n.head → m.bytes ≡ n.bytes → node_eq m n ≡ true
node_eq-from m n above part = sym (λ i. node_eq m (record { head = above i; bytes = part i })) ∙ node_eq_equiv.refl m

-- the number of its path is its place
pub known-node : (ns : List Node) (paths : List (List ℕ)) (m : Node) (n : ℕ) → paths_with [] ns ≡ paths
    → AreSound [] ns → IsDistinct bytes_eq (paths_with [] ns) → position (node_eq m) ns ≡ Some n
    → number_of paths (node_path paths m) ≡ Some n
known-node ns paths m n seen sound distinct is =
    let found = position-Some (node_eq m) ns n m is in
    let all = paths_with [] ns in
    let here : get_or all n [] ≡ node_path all (get_or ns n m) = path-at [] ns n n m sound found.0 (omega arith) in
    let same = node_same m (get_or ns n m) found.1 in
    subst (λ ps. number_of ps (node_path ps m) ≡ Some n) seen
    (number-from all (node_path all m) n distinct (omega (arith, found.0, length-paths [] ns)) (here
    ∙ ap (node_path all) (sym same)))

-- ---- a node that is new

module _ (final : List (List ℕ)) (distinct : IsDistinct bytes_eq final) (m : Node) (sound : IsSound final m) where
  one_apart : (before : List (List ℕ)) (n : Node) → Extends before final → IsSound before n → node_eq m n ≡ false
      → bytes_eq (node_path final m) (node_path before n) ≡ false
  one_apart before n more is apart = by_case (bytes_eq (node_path final m) (node_path before n)) refl
    where
      by_case : (b : Bool) → bytes_eq (node_path final m) (node_path before n) ≡ b
          → bytes_eq (node_path final m) (node_path before n) ≡ false
      by_case false e = e
      by_case true e =
          let same = same_parts final distinct m.head n.head m.bytes n.bytes sound.above
          (above-kept before final n.head more is.above) sound.part is.part
          ((bytes_decides (node_path final m) (node_path before n)).0 e
          ∙ sym (below-kept before final n.head n.bytes more is.above)) in
          absurd (false≢true (sym apart ∙ node_eq-from m n same.0 same.1))

  not_among : (before : List (List ℕ)) (ns : List Node) → final ≡ paths_with before ns → AreSound before ns
      → list_any (node_eq m) ns ≡ false → list_any (bytes_eq (node_path final m)) before ≡ false
      → list_any (bytes_eq (node_path final m)) final ≡ false
  not_among before [] is sounds none apart = ap (list_any (bytes_eq (node_path final m))) is ∙ apart
  not_among before (n ∷ ns) is sounds none apart =
      let both = or_parts (node_eq m n) (list_any (node_eq m) ns) none in
      let all = paths-extend before (n ∷ ns) in
      let here = one_apart before n (all.0, is ∙ all.1) sounds.0 both.0 in
      let q = node_path final m in
      not_among (before ++ node_path before n ∷ []) ns is sounds.1 both.1
      (list_any-append (bytes_eq q) before (node_path before n ∷ [])
      ∙ or_from (list_any (bytes_eq q) before) (list_any (bytes_eq q) (node_path before n ∷ [])) apart
      (or_from (bytes_eq q (node_path before n)) false here refl))

-- its path is new
pub new-path : (ns : List Node) (m : Node) → AreSound [] ns → IsDistinct bytes_eq (paths_with [] ns)
    → IsSound (paths_with [] ns) m → list_any (node_eq m) ns ≡ false
    → list_any (bytes_eq (node_path (paths_with [] ns) m)) (paths_with [] ns) ≡ false
new-path ns m sounds distinct sound none = not_among (paths_with [] ns) distinct m sound [] ns refl sounds none refl

-- ---- one more node

abbrev Grown : List Node → Type 0
Grown ns = (length ns ≤ 2 ^ 32) × AreSound [] ns × IsDistinct bytes_eq (paths_with [] ns)

module _ (ns : List Node) (paths : List (List ℕ)) (m : Node) (seen : paths_with [] ns
    ≡ paths) (grown : Grown ns) (one : IsSound paths m) (none : list_any (node_eq m) ns ≡ false) where
  abbrev all : List (List ℕ)
  all = paths_with [] ns

  here : IsSound all m
  here = subst (λ ps. IsSound ps m) (sym seen) one

  with_one : (ns' : List Node) → ns' ≡ ns ++ m ∷ [] → paths_with [] ns' ≡ all ++ node_path all m ∷ []
  with_one ns' is = ap (paths_with []) is ∙ paths-push [] ns m

  distinct : (ns' : List Node) → ns' ≡ ns ++ m ∷ [] → IsDistinct bytes_eq (paths_with [] ns')
  distinct ns' is = subst (IsDistinct bytes_eq) (sym (with_one ns' is))
      (IsDistinct-push nat_list_eq_equiv all (node_path all m) grown.2 (new-path ns m grown.1 grown.2 here none))

  grown-more : (ns' : List Node) (k : ℕ) → (k ≡ length ns) × (k < 2 ^ 32) × (ns' ≡ ns ++ m ∷ []) → Grown ns'
  grown-more ns' k is =
      let many : length ns' ≡ length ns + 1 = ap length is.2 ∙ length_push ns m in (
        omega (arith, many, is.0, is.1),
        subst (AreSound []) (sym is.2) (sound-push [] ns m grown.1 here),
        distinct ns' is.2,
      )

  extends-more : (ns' : List Node) → ns' ≡ ns ++ m ∷ [] → Extends paths (paths_with [] ns')
  extends-more ns' is = (node_path all m ∷ [], with_one ns' is ∙ ap (λ ps. ps ++ node_path all m ∷ []) seen)

  number-more : (ns' : List Node) (k : ℕ) → (k ≡ length ns) × (k < 2 ^ 32) × (ns' ≡ ns ++ m ∷ [])
      → number_of (paths_with [] ns') (node_path paths m) ≡ Some k
  number-more ns' k is =
      let many : length all ≡ length ns = length-paths [] ns ∙ omega arith in
      let more : length (paths_with [] ns') ≡ length all + 1 = ap length (with_one ns' is.2)
      ∙ length_push all (node_path all m) in
      let at : k ≡ length all = omega (arith, is.0, many) in
      number-from (paths_with [] ns') (node_path paths m) k (distinct ns' is.2) (omega (arith, at, more))
      (ap (λ (ps : List (List ℕ)). get_or ps k []) (with_one ns' is.2)
      ∙ ap (λ i. get_or (all ++ node_path all m ∷ []) i []) at
      ∙ get_or-append_seam all (node_path all m) [] []
      ∙ ap (λ ps. node_path ps m) seen)

-- what was pushed, or else nothing
abbrev pub Pushed : List Node → Node → List Node → Result ℕ AllocError → Type 0
Pushed ns m ns' r = IfOk r (λ k. (k ≡ length ns) × (k < 2 ^ 32) × (ns' ≡ ns ++ m ∷ [])) × OnErr r (ns' ≡ ns)

module _ (ns : List Node) (paths : List (List ℕ)) (m : Node) (seen : paths_with [] ns
    ≡ paths) (grown : Grown ns) (one : IsSound paths m) (none : list_any (node_eq m) ns ≡ false) (ns' : List Node) where
  pub push-grown : (r : Result ℕ AllocError) → Pushed ns m ns' r → Grown ns'
  push-grown (Ok k) h = grown-more ns paths m seen grown one none ns' k h.0
  push-grown (Err e) h = subst Grown (sym h.1) grown

  pub push-extends : (r : Result ℕ AllocError) → Pushed ns m ns' r → Extends paths (paths_with [] ns')
  push-extends (Ok k) h = extends-more ns paths m seen grown one none ns' h.0.2
  push-extends (Err e) h = subst (Extends paths) (sym (ap (paths_with []) h.1 ∙ seen)) (extends-refl paths)

  pub push-number : (r : Result ℕ AllocError) → Pushed ns m ns' r
      → IfOk r (λ k. number_of (paths_with [] ns') (node_path paths m) ≡ Some k)
  push-number (Ok k) h = number-more ns paths m seen grown one none ns' k h.0
  push-number (Err e) h = tt

pub keys-pushed : (ns ns' : List Node) (copy m : Node) → copy ≡ m → list_any (node_eq m) ns ≡ false
    → ns' ≡ insert_key node_eq ns copy → ns' ≡ ns ++ m ∷ []
keys-pushed ns ns' copy m same none is = is ∙ ap (insert_key node_eq ns) same ∙ ap (λ b. cond b ns (ns ++ m ∷ [])) none
