-- The merged terms of ascending streams: the least of the first keys, and then those of what is after it.
use Rattle.std.proofs.Common.{◌≡◌, ℕ, zero, suc, ◌+◌, ◌<◌, Bool, true, false, cond, List, [], ◌∷◌, ◌++◌, map, length, get_or, refl, sym, ap, subst, ◌∙◌, arith, Some, None}
use Rattle.std.specs.Prelude.{filter}
use Rattle.std.specs.FinMap.{entries, empty, get, insert, find, put, same_map, get-insert, get-entries, entries-insert, len-entries, len-empty}
use Rattle.std.specs.FinMap.Entries.{by_order}
use Rattle.std.specs.List.{AllByRecursion, flat_map}
use Rattle.std.specs.List.Sorted.{IsStrictlySortedBy}
use Rattle.std.specs.Ordering.{is_lt, is_le, is_eq, eq_by_cmp}
use Rattle.std.specs.Str.{bytes_eq}
use Rattle.std.specs.declared.cmp.Ordering.{Ordering}
use Rattle.std.specs.declared.cmp.Ordering.TheVariants.{Less, Equal, Greater}
use Rattle.std.proofs.lemmas.Bool.{false≢true, cond-true, cond-false}
use Rattle.std.proofs.lemmas.Cmp.{nat_list_cmp_total, tied_itself}
use Rattle.std.proofs.lemmas.List.{length-append, nil_from_length}
use Rattle.std.proofs.lemmas.Map.Text.{is_eq-slice_cmp}
use Rattle.std.proofs.lemmas.Slice.Eq.{bytes_eq-Decides}
use Rattle.seg_common.proofs.TabulatedMaps.{texts_apart}
use Rattle.seg_common.specs.declared.term_info.TermInfo.{TermInfo}
use Rattle.seg_common.proofs.Bytes.{same_term}
use Rattle.seg_termdict.specs.SortedTerms.{RankedTerm, SortedTerms, key_cmp}
use Rattle.seg_termdict.specs.MergedTerms.{Standing, standing_in, standings_from, if_stands, keys_in, merged_terms}
use Rattle.seg_termdict.proofs.MergedTerms.{merged_terms_answer}
use Rattle.seg_termdict.specs.MergedStreams.{MergedTerm, Ascends, first, first_with, behind, standing_first, standings_first, NotBelow}

-- ---- keys

at_most_then_less : (a b c : List ℕ) → is_le (key_cmp a b) ≡ true → key_cmp b c ≡ Less → key_cmp a c ≡ Less
at_most_then_less a b c le less = by (key_cmp a b) refl
  where
    by : (o : Ordering) → key_cmp a b ≡ o → key_cmp a c ≡ Less
    by Less e = nat_list_cmp_total.trans a b c e less
    by Equal e = subst (λ (k : List ℕ). key_cmp k c ≡ Less) (sym (same_term a b e)) less
    by Greater e = absurd (false≢true (sym (ap is_le e) ∙ le))

pub differs : (a b : List ℕ) → key_cmp a b ≡ Less → bytes_eq a b ≡ false
differs a b less = sym (is_eq-slice_cmp a b) ∙ ap is_eq less

pub at_most_not_same : (a b : List ℕ) → is_le (key_cmp a b) ≡ true → bytes_eq a b ≡ false → key_cmp a b ≡ Less
at_most_not_same a b le other = by (key_cmp a b) refl
  where
    by : (o : Ordering) → key_cmp a b ≡ o → key_cmp a b ≡ Less
    by Less e = e
    by Equal e = absurd (false≢true (sym other ∙ sym (is_eq-slice_cmp a b) ∙ ap is_eq e))
    by Greater e = absurd (false≢true (sym (ap is_le e) ∙ le))

-- ---- one stream

-- a key is below each term
abbrev Below : List ℕ → List (RankedTerm TermInfo) → Type 0
Below key terms = AllByRecursion (λ (t : RankedTerm TermInfo). key_cmp key t.key ≡ Less) terms

below_all_from : (key k : List ℕ) → is_le (key_cmp key k) ≡ true → (ts : List (RankedTerm TermInfo)) → AllByRecursion (λ y. key_cmp k y ≡ Less) (keys_in ts) → Below key ts
below_all_from key k le [] h = tt
below_all_from key k le (t ∷ ts) h = (at_most_then_less key k t.key le h.0, below_all_from key k le ts h.1)

below_rest : (key : List ℕ) (t : RankedTerm TermInfo) (ts : List (RankedTerm TermInfo)) → is_le (key_cmp key t.key) ≡ true → Ascends (t ∷ ts) → Below key ts
unfolding IsStrictlySortedBy
below_rest key t ts le rise = below_all_from key t.key le ts rise.0

pub rest_ascends : (t : RankedTerm TermInfo) (ts : List (RankedTerm TermInfo)) → Ascends (t ∷ ts) → Ascends ts
unfolding IsStrictlySortedBy
rest_ascends t ts rise = rise.1

abbrev pub standing_of : ℕ → RankedTerm TermInfo → Standing TermInfo
standing_of segment t = record { segment = segment; ord = t.ord; info = t.info }

-- where a key is, by whether the first term has it
split_standing : (segment : ℕ) (key : List ℕ) (t : RankedTerm TermInfo) (ts : List (RankedTerm TermInfo)) (b : Bool) → bytes_eq key t.key ≡ b → standing_in segment key (t ∷ ts) ≡ cond b (standing_of segment t ∷ standing_in segment key ts) (standing_in segment key ts)
split_standing segment key t ts true e = ap (λ b. map (standing_of segment) (cond b (t ∷ filter (λ (u : RankedTerm TermInfo). bytes_eq key u.key) ts) (filter (λ (u : RankedTerm TermInfo). bytes_eq key u.key) ts))) e
split_standing segment key t ts false e = ap (λ b. map (standing_of segment) (cond b (t ∷ filter (λ (u : RankedTerm TermInfo). bytes_eq key u.key) ts) (filter (λ (u : RankedTerm TermInfo). bytes_eq key u.key) ts))) e

none_below : (segment : ℕ) (key : List ℕ) (ts : List (RankedTerm TermInfo)) → Below key ts → standing_in segment key ts ≡ []
none_below segment key [] h = refl
none_below segment key (t ∷ ts) h = split_standing segment key t ts false (differs key t.key h.0) ∙ none_below segment key ts h.1

first_stands : (segment : ℕ) (key : List ℕ) (terms : List (RankedTerm TermInfo)) → Ascends terms → NotBelow key terms → standing_in segment key terms ≡ standing_first segment (first_with key terms)
first_stands segment key [] rise low = refl
first_stands segment key (t ∷ ts) rise low = by (bytes_eq key t.key) refl
  where
    rest : standing_in segment key ts ≡ []
    rest = none_below segment key ts (below_rest key t ts low rise)

    by : (b : Bool) → bytes_eq key t.key ≡ b → standing_in segment key (t ∷ ts) ≡ standing_first segment (first_with key (t ∷ ts))
    by true e = split_standing segment key t ts true e ∙ ap (λ ss. standing_of segment t ∷ ss) rest ∙ sym (ap (standing_first segment) (cond-true (bytes_eq key t.key) (Some (t.ord, t.info)) None e))
    by false e = split_standing segment key t ts false e ∙ rest ∙ sym (ap (standing_first segment) (cond-false (bytes_eq key t.key) (Some (t.ord, t.info)) None e))

-- after a key every other key is where it was
others_stay : (segment : ℕ) (q key : List ℕ) (terms : List (RankedTerm TermInfo)) → bytes_eq q key ≡ false → standing_in segment q terms ≡ standing_in segment q (behind key terms)
others_stay segment q key [] other = refl
others_stay segment q key (t ∷ ts) other = by (bytes_eq key t.key) refl
  where
    by : (b : Bool) → bytes_eq key t.key ≡ b → standing_in segment q (t ∷ ts) ≡ standing_in segment q (behind key (t ∷ ts))
    by true e =
        let same : key ≡ t.key = (bytes_eq-Decides key t.key).0 e in
        split_standing segment q t ts false (ap (bytes_eq q) (sym same) ∙ other) ∙ sym (ap (standing_in segment q) (cond-true (bytes_eq key t.key) ts (t ∷ ts) e))
    by false e = sym (ap (standing_in segment q) (cond-false (bytes_eq key t.key) ts (t ∷ ts) e))

behind_below : (key : List ℕ) (terms : List (RankedTerm TermInfo)) → Ascends terms → NotBelow key terms → Below key (behind key terms)
behind_below key [] rise low = tt
behind_below key (t ∷ ts) rise low = by (bytes_eq key t.key) refl
  where
    by : (b : Bool) → bytes_eq key t.key ≡ b → Below key (behind key (t ∷ ts))
    by true e = subst (Below key) (sym (cond-true (bytes_eq key t.key) ts (t ∷ ts) e)) (below_rest key t ts low rise)
    by false e = subst (Below key) (sym (cond-false (bytes_eq key t.key) ts (t ∷ ts) e)) (at_most_not_same key t.key low e, below_rest key t ts low rise)

-- a key that isn't greater is nowhere after another
none_lower : (segment : ℕ) (q key : List ℕ) → is_lt (key_cmp key q) ≡ false → (ts : List (RankedTerm TermInfo)) → Below key ts → standing_in segment q ts ≡ []
none_lower segment q key low [] h = refl
none_lower segment q key low (t ∷ ts) h = split_standing segment q t ts false (by (bytes_eq q t.key) refl) ∙ none_lower segment q key low ts h.1
  where
    by : (b : Bool) → bytes_eq q t.key ≡ b → b ≡ false
    by true e = absurd (false≢true (sym low ∙ ap (λ (k : List ℕ). is_lt (key_cmp key k)) ((bytes_eq-Decides q t.key).0 e) ∙ ap is_lt h.0))
    by false e = refl

-- ---- all streams

abbrev pub Streams : Type 0
Streams = List (List (RankedTerm TermInfo))

all_first : (n : ℕ) (key : List ℕ) (hs : Streams) → AllByRecursion Ascends hs → AllByRecursion (NotBelow key) hs → standings_from n key hs ≡ standings_first n key hs
all_first n key [] rise low = refl
all_first n key (h ∷ hs) rise low =
    ap (λ ss. ss ++ standings_from (n + 1) key hs) (first_stands n key h rise.0 low.0)
    ∙ ap (λ ss. standing_first n (first_with key h) ++ ss) (all_first (n + 1) key hs rise.1 low.1)

all_others : (n : ℕ) (q key : List ℕ) (hs : Streams) → bytes_eq q key ≡ false → standings_from n q hs ≡ standings_from n q (map (behind key) hs)
all_others n q key [] other = refl
all_others n q key (h ∷ hs) other =
    ap (λ ss. ss ++ standings_from (n + 1) q hs) (others_stay n q key h other)
    ∙ ap (λ ss. standing_in n q (behind key h) ++ ss) (all_others (n + 1) q key hs other)

all_lower : (n : ℕ) (q key : List ℕ) (hs : Streams) → is_lt (key_cmp key q) ≡ false → AllByRecursion Ascends hs → AllByRecursion (NotBelow key) hs → standings_from n q (map (behind key) hs) ≡ []
all_lower n q key [] low rise least = refl
all_lower n q key (h ∷ hs) low rise least =
    ap (λ ss. ss ++ standings_from (n + 1) q (map (behind key) hs)) (none_lower n q key low (behind key h) (behind_below key h rise.0 least.0))
    ∙ all_lower (n + 1) q key hs low rise.1 least.1

if_some : (ss : List (Standing TermInfo)) → 0 < length ss → if_stands ss ≡ Some ss
if_some [] lt = absurd (omega (arith, lt))
if_some (s ∷ ss) lt = refl

-- an entry below all others comes first
put_first : (key : List ℕ) (v : List (Standing TermInfo)) (es : List MergedTerm) → ((q : List ℕ) → is_lt (key_cmp key q) ≡ false → find key_cmp q es ≡ None) → put key_cmp key v es ≡ (key, v) ∷ es
put_first key v [] none = refl
put_first key v (e ∷ es) none = by (key_cmp key e.0) refl
  where
    itself : eq_by_cmp key_cmp e.0 e.0 ≡ true
    itself = ap is_eq (tied_itself nat_list_cmp_total e.0)

    found : find key_cmp e.0 (e ∷ es) ≡ Some e.1
    found = cond-true (eq_by_cmp key_cmp e.0 e.0) (Some e.1) (find key_cmp e.0 es) itself

    not_none : find key_cmp e.0 (e ∷ es) ≡ None → ⊥
    not_none h = let no : Some e.1 ≡ None = sym found ∙ h in absurd cc

    by : (o : Ordering) → key_cmp key e.0 ≡ o → put key_cmp key v (e ∷ es) ≡ (key, v) ∷ e ∷ es
    by Less is = ap (λ o. by_order o ((key, v) ∷ e ∷ es) ((e.0, v) ∷ es) (e ∷ put key_cmp key v es)) is
    by Equal is = absurd (not_none (none e.0 (ap is_lt is)))
    by Greater is = absurd (not_none (none e.0 (ap is_lt is)))

-- the least of the first keys, and what is after it
module _ (hs : Streams) (key : List ℕ) (rise : AllByRecursion Ascends hs) (low : AllByRecursion (NotBelow key) hs) (some : 0 < length (standings_first 0 key hs)) where
  rest : SortedTerms (List (Standing TermInfo))
  rest = merged_terms (map (behind key) hs)

  at_key : if_stands (standings_from 0 key hs) ≡ Some (standings_first 0 key hs)
  at_key = ap if_stands (all_first 0 key hs rise low) ∙ if_some (standings_first 0 key hs) some

  at_each : (q : List ℕ) (b : Bool) → eq_by_cmp key_cmp q key ≡ b → if_stands (standings_from 0 q hs) ≡ cond b (Some (standings_first 0 key hs)) (get rest q)
  unfolding rest
  at_each q true e = ap (λ (k : List ℕ). if_stands (standings_from 0 k hs)) ((bytes_eq-Decides q key).0 (sym (is_eq-slice_cmp q key) ∙ e)) ∙ at_key
  at_each q false e = ap if_stands (all_others 0 q key hs (sym (is_eq-slice_cmp q key) ∙ e)) ∙ sym (merged_terms_answer TermInfo (map (behind key) hs) q)

  inserted : merged_terms hs ≡ insert rest key (standings_first 0 key hs)
  inserted = same_map nat_list_cmp_total texts_apart (merged_terms hs) (insert rest key (standings_first 0 key hs)) (λ q.
      merged_terms_answer TermInfo hs q ∙ at_each q (eq_by_cmp key_cmp q key) refl ∙ sym (get-insert nat_list_cmp_total rest key (standings_first 0 key hs) q))

  none_before : (q : List ℕ) → is_lt (key_cmp key q) ≡ false → find key_cmp q (entries rest) ≡ None
  unfolding rest
  none_before q lower = sym (get-entries rest q) ∙ merged_terms_answer TermInfo (map (behind key) hs) q ∙ ap if_stands (all_lower 0 q key hs lower rise low)

  pub next_merged : entries (merged_terms hs) ≡ (key, standings_first 0 key hs) ∷ entries (merged_terms (map (behind key) hs))
  unfolding rest
  next_merged = ap entries inserted ∙ entries-insert nat_list_cmp_total rest key (standings_first 0 key hs) ∙ put_first key (standings_first 0 key hs) (entries rest) none_before

no_keys : (hs : Streams) → AllByRecursion (λ (h : List (RankedTerm TermInfo)). h ≡ []) hs → flat_map keys_in hs ≡ []
no_keys [] h = refl
no_keys (x ∷ xs) h = ap (λ ts. keys_in ts ++ flat_map keys_in xs) h.0 ∙ no_keys xs h.1

-- where no stream has a term left, no merged term is
pub none_merged : (hs : Streams) → AllByRecursion (λ (h : List (RankedTerm TermInfo)). h ≡ []) hs → entries (merged_terms hs) ≡ []
none_merged hs h =
    let m : SortedTerms (List (Standing TermInfo)) = empty in
    let e : merged_terms hs ≡ m = ap (λ ks. Rattle.seg_common.specs.TabulatedMaps.tabulated (λ key. if_stands (standings_from 0 key hs)) ks) (no_keys hs h) in
    ap entries e ∙ nil_from_length (entries m) (sym (len-entries m) ∙ len-empty key_cmp (List (Standing TermInfo)))

-- ---- a key that a first term has

itself_with : (key : List ℕ) (h : List (RankedTerm TermInfo)) → 0 < length h → (first h).key ≡ key → (n : ℕ) → 0 < length (standing_first n (first_with key h))
itself_with key [] lt e n = absurd (omega (arith, lt))
itself_with key (t ∷ ts) lt e n = subst (λ o. 0 < length (standing_first n o)) (sym (cond-true (bytes_eq key t.key) (Some (t.ord, t.info)) None ((bytes_eq-Decides key t.key).1 (sym e)))) (omega arith)

-- one of the first terms has the key
pub some_from : (hs : Streams) (best n : ℕ) (key : List ℕ) → best < length hs → 0 < length (get_or hs best []) → (first (get_or hs best [])).key ≡ key → 0 < length (standings_first n key hs)
some_from [] best n key lt has e = absurd (omega (arith, lt))
some_from (h ∷ hs) zero n key lt has e = omega (arith, itself_with key h has e n, length-append (standing_first n (first_with key h)) (standings_first (n + 1) key hs))
some_from (h ∷ hs) (suc best) n key lt has e = omega (arith, some_from hs best (n + 1) key (omega (arith, lt)) has e, length-append (standing_first n (first_with key h)) (standings_first (n + 1) key hs))
