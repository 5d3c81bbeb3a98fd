-- A key has the ordinal at which it is, and no other.
use Rattle.std.proofs.Common.{◌≡◌, ℕ, zero, suc, ◌+◌, ◌<◌, Bool, true, false, cond, not, T, nat_lt, List, [], ◌∷◌, map, length, get_or, Some, None, sym, refl, ap, ◌∙◌, arith}
use mathlib.Core.Bool.{true≢false}
use Rattle.std.specs.Prelude.{is_some, unwrap_or, position, slice_get, ◌&&◌}
use Rattle.std.specs.List.{position_or_len}
use Rattle.std.specs.Ordering.{is_eq, is_lt, ordering_reverse}
use Rattle.std.specs.Str.{bytes_eq}
use Rattle.std.specs.FinMap.{entries, entries_sorted, keys}
use Rattle.std.specs.FinMap.Entries.{is_sorted, below_all}
use Rattle.std.specs.declared.cmp.Ordering.{Ordering}
use Rattle.std.specs.declared.cmp.Ordering.TheVariants.{Less, Equal, Greater}
use Rattle.std.specs.Cmp.Lexicographic.{nat_list_cmp_total}
use Rattle.std.proofs.lemmas.Slice.Eq.{bytes_eq-Decides}
use Rattle.std.proofs.lemmas.Map.Text.{is_eq-slice_cmp}
use Rattle.std.proofs.lemmas.Option.{slice_get-get_or, slice_get_within}
use Rattle.std.proofs.lemmas.List.Quantifiers.{position-Some}
use Rattle.std.proofs.lemmas.Bool.Decides.{nat_tests}
use Rattle.seg_common.proofs.Bools.{first_holds, second_holds}
use Rattle.seg_termdict.specs.SortedTerms.{key_cmp}
use Rattle.seg_termdict.specs.Laws.{OrdinalsArePlaces}

stands_there : (ks : List (List ℕ)) (key : List ℕ) (ord : ℕ) → position (bytes_eq key) ks ≡ Some ord → slice_get ks ord ≡ Some key
stands_there ks key ord e =
    let found = position-Some (bytes_eq key) ks ord [] e in
    slice_get-get_or ks ord [] found.0 ∙ ap Some (sym ((bytes_eq-Decides key (get_or ks ord [])).0 found.1))

first_true : (a b : Bool) → T (a && b) → a ≡ true
first_true true b h = refl
first_true false b h = absurd h

module _ {Info : Type 0} where
  abbrev keys_of : List (List ℕ × Info) → List (List ℕ)
  keys_of es = map (λ e. e.0) es

  -- a key below all others is none of them
  apart : (x : List ℕ) (es : List (List ℕ × Info)) → T (below_all key_cmp x es) → (key : List ℕ) (ord : ℕ) → slice_get (keys_of es) ord ≡ Some key → bytes_eq key x ≡ false
  apart x [] h key ord e = absurd (true≢false (sym (ap is_some e)))
  apart x (y ∷ es) h key zero e = unlike (key_cmp x y.0) (first_true _ _ h) refl
    where
      unlike : (o : Ordering) → is_lt o ≡ true → key_cmp x y.0 ≡ o → bytes_eq key x ≡ false
      unlike Less t is = sym (is_eq-slice_cmp key x) ∙ ap is_eq (nat_list_cmp_total.antisymm key x ∙ ap ordering_reverse (ap (key_cmp x) (ap (λ k. unwrap_or k []) (sym e)) ∙ is))
      unlike Equal t is = absurd (true≢false (sym t))
      unlike Greater t is = absurd (true≢false (sym t))
  apart x (y ∷ es) h key (suc ord) e = apart x es (second_holds _ _ h) key ord e

  place : (es : List (List ℕ × Info)) → T (is_sorted key_cmp es) → (key : List ℕ) (ord : ℕ) → slice_get (keys_of es) ord ≡ Some key → position_or_len (bytes_eq key) (keys_of es) ≡ ord
  place [] h key ord e = absurd (true≢false (sym (ap is_some e)))
  place (y ∷ es) h key zero e =
      ap (λ b. cond (not b) (1 + position_or_len (bytes_eq key) (keys_of es)) 0) ((bytes_eq-Decides key y.0).1 (ap (λ k. unwrap_or k []) (sym e)))
  place (y ∷ es) h key (suc ord) e =
      ap (λ b. cond (not b) (1 + position_or_len (bytes_eq key) (keys_of es)) 0) (apart y.0 es (first_holds _ _ h) key ord e)
      ∙ one_more (place es (second_holds _ _ h) key ord e)
    where
      one_more : {n : ℕ} → n ≡ ord → 1 + n ≡ suc ord
      one_more p = omega (arith, p)

pub ordinals_are_places : (Info : Type 0) → OrdinalsArePlaces Info
ordinals_are_places Info terms key ord =
    (stands_there (keys terms) key ord, λ e. there e (place (entries terms) (entries_sorted terms) key ord e))
  where
    there : slice_get (keys terms) ord ≡ Some key → position_or_len (bytes_eq key) (keys terms) ≡ ord → position (bytes_eq key) (keys terms) ≡ Some ord
    there e p = ap (λ n. cond (nat_lt n (length (keys terms))) (Some n) None) p ∙ ap (λ b. cond b (Some ord) None) (within (slice_get_within (keys terms) ord key e))
      where
        within : ord < length (keys terms) → nat_lt ord (length (keys terms)) ≡ true
        within h = grind (arith, nat_tests)
