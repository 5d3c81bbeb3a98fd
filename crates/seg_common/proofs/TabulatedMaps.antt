-- What a table has at each key, and when two tables are one.
use Rattle.std.proofs.Common.{◌≡◌, Bool, true, false, cond, List, [], ◌∷◌, ◌++◌, Some, None, Option, sym, refl, ap, ◌∙◌}
use Rattle.std.specs.Prelude.{◌||◌}
use mathlib.Core.Bool.{true≢false}
use Rattle.std.specs.List.{flat_map, list_any}
use Rattle.std.specs.declared.cmp.Ordering.{Ordering}
use Rattle.std.specs.Ordering.{nat_cmp, eq_by_cmp}
use Rattle.std.specs.Cmp.{IsTotalOrder}
use Rattle.std.specs.Cmp.Lexicographic.{slice_cmp}
use Rattle.std.specs.FinMap.{FinMap, IsAntisymmetric, get, find, get-from_entries, same_map, slice_cmp-IsAntisymmetric, nat_cmp-IsAntisymmetric}
use Rattle.std.proofs.lemmas.Bool.{or_from}
use Rattle.seg_common.proofs.Numbers.{is_equal}
use Rattle.seg_common.specs.TabulatedMaps.{entry_of, tabulated, is_among}

-- texts as lists of bytes are told apart by their order
pub texts_apart : IsAntisymmetric (slice_cmp nat_cmp)
texts_apart = slice_cmp-IsAntisymmetric nat_cmp-IsAntisymmetric

pub first_false : (a b : Bool) → (a || b) ≡ false → a ≡ false
first_false true b e = e
first_false false b e = refl

pub second_false : (a b : Bool) → (a || b) ≡ false → b ≡ false
second_false true b e = absurd (true≢false e)
second_false false b e = e

pub same_key : {K : Type 0} {R : K → K → Ordering} → IsAntisymmetric R → (q k : K) → eq_by_cmp R q k ≡ true → q ≡ k
same_key {R = R} same q k e = same q k (is_equal (R q k) e)

none_both : {X : Type 0} (b : Bool) → let none : Option X = None in cond b none none ≡ none
none_both true = refl
none_both false = refl

module _ {K X : Type 0} {R : K → K → Ordering} (total : IsTotalOrder R) (same : IsAntisymmetric R) where
  module _ (f : K → Option X) (q : K) where
    here : (k : K) (a : Bool) (rest : List (K × X)) (o : Option X) → eq_by_cmp R q k ≡ true → f q ≡ o → find R q rest ≡ cond a (f q) None → find R q (entry_of k o ++ rest) ≡ f q
    here k a rest None e is h = h ∙ ap (λ x. cond a x None) is ∙ none_both a ∙ sym is
    here k a rest (Some x) e is h = ap (λ b. cond b (Some x) (find R q rest)) e ∙ sym is

    elsewhere : (k : K) (rest : List (K × X)) (o : Option X) → eq_by_cmp R q k ≡ false → find R q (entry_of k o ++ rest) ≡ find R q rest
    elsewhere k rest None e = refl
    elsewhere k rest (Some x) e = ap (λ b. cond b (Some x) (find R q rest)) e

    one_more : (k : K) (b a : Bool) (rest : List (K × X)) → eq_by_cmp R q k ≡ b → find R q rest ≡ cond a (f q) None → find R q (entry_of k (f k) ++ rest) ≡ cond (b || a) (f q) None
    one_more k true a rest e h = here k a rest (f k) e (ap f (same_key same q k e)) h
    one_more k false a rest e h = elsewhere k rest (f k) e ∙ h

    found : (ks : List K) → find R q (flat_map (λ k. entry_of k (f k)) ks) ≡ cond (is_among R ks q) (f q) None
    found [] = refl
    found (k ∷ ks) = one_more k (eq_by_cmp R q k) (is_among R ks q) _ refl (found ks)

  -- a function gives nothing but at these keys
  pub record IsComplete (f : K → Option X) (ks : List K) : Type 0 where
    pub outside : (q : K) → is_among R ks q ≡ false → f q ≡ None

  pub get-tabulated : (f : K → Option X) (ks : List K) → IsComplete f ks → (q : K) → get (tabulated {R = R} f ks) q ≡ f q
  get-tabulated f ks complete q = get-from_entries total _ q ∙ found f q ks ∙ by_place (is_among R ks q) refl
    where
      by_place : (b : Bool) → is_among R ks q ≡ b → cond b (f q) None ≡ f q
      by_place true e = refl
      by_place false e = sym (complete.outside q e)

  -- the one map that has what a function gives is its table
  pub table_from_gets : (f : K → Option X) (ks : List K) → IsComplete f ks → (m : FinMap R X) → ((q : K) → get m q ≡ f q) → m ≡ tabulated f ks
  table_from_gets f ks complete m h = same_map total same m (tabulated f ks) (λ q. h q ∙ sym (get-tabulated f ks complete q))

  pub same_table : (f g : K → Option X) (ks ms : List K) → IsComplete f ks → IsComplete g ms → ((q : K) → f q ≡ g q) → tabulated {R = R} f ks ≡ tabulated g ms
  same_table f g ks ms cf cg h = table_from_gets g ms cg (tabulated f ks) (λ q. get-tabulated f ks cf q ∙ h q)

module _ {K : Type 0} {R : K → K → Ordering} (same : IsAntisymmetric R) (test : K → Bool) where
  any_there : (k : K) (ms : List K) → test k ≡ true → is_among R ms k ≡ true → list_any test ms ≡ true
  any_there k [] t h = absurd (true≢false (sym h))
  any_there k (m ∷ ms) t h = by_first (eq_by_cmp R k m) (any_there k ms t) refl
    where
      or_true : (b : Bool) → list_any test ms ≡ true → (b || list_any test ms) ≡ true
      or_true true z = refl
      or_true false z = z

      by_first : (b : Bool) → (is_among R ms k ≡ true → list_any test ms ≡ true) → eq_by_cmp R k m ≡ b → (test m || list_any test ms) ≡ true
      by_first true later e = ap (λ x. x || list_any test ms) (ap test (sym (same_key same k m e)) ∙ t)
      by_first false later e = or_true (test m) (later (sym (ap (λ b. b || is_among R ms k) e) ∙ h))

  -- no key passes a test but these
  pub record IsCovered (ks : List K) : Type 0 where
    pub outside : (q : K) → is_among R ks q ≡ false → test q ≡ false

  pub none_passes : (ms : List K) → IsCovered ms → list_any test ms ≡ false → (k : K) → test k ≡ false
  none_passes ms covered none k = by_place (test k) (is_among R ms k) refl refl
    where
      by_place : (t b : Bool) → test k ≡ t → is_among R ms k ≡ b → t ≡ false
      by_place true true t e = absurd (true≢false (sym (any_there k ms t e) ∙ none))
      by_place true false t e = sym t ∙ covered.outside k e
      by_place false b t e = refl

  none_of : (ks : List K) → ((k : K) → test k ≡ false) → list_any test ks ≡ false
  none_of [] h = refl
  none_of (k ∷ ks) h = or_from (test k) (list_any test ks) (h k) (none_of ks h)

  pub any_same : (ks ms : List K) → IsCovered ks → IsCovered ms → list_any test ks ≡ list_any test ms
  any_same ks ms ck cm = by (list_any test ks) (list_any test ms) refl refl
    where
      by : (a b : Bool) → list_any test ks ≡ a → list_any test ms ≡ b → a ≡ b
      by true true e h = refl
      by false false e h = refl
      by true false e h = sym e ∙ none_of ks (none_passes ms cm h)
      by false true e h = sym (none_of ms (none_passes ks ck e)) ∙ h
