-- What several say together, one after another.
use Rattle.std.proofs.Common.{◌≡◌, ℕ, ◌+◌, ◌^◌, Bool, true, false, cond, List, [], ◌∷◌, map, Some, None, Option, sym, refl, ap, ◌∙◌, unwrap_or, arith}
use Rattle.std.specs.Prelude.{◌||◌, ◌&&◌, is_some, nat_lt}
use Rattle.std.specs.List.{list_any, sum_by}
use mathlib.Core.Bool.{true≢false}
use Rattle.std.proofs.lemmas.Bool.Decides.{nat_tests}
use Rattle.std.proofs.lemmas.List.Sums.{sum_by-cons}
use Rattle.std.proofs.Math.Bool.{or-false}
use Rattle.seg_common.proofs.Numbers.{zero_plus}
use Rattle.seg_common.proofs.Bools.{or_grouped}
use Rattle.seg_field_metadata.specs.MetadataEntries.{Known, fits, size_fits, together, total}

-- ---- sizes

-- two sizes together
abbrev pub plus : Option ℕ → Option ℕ → Option ℕ
plus None b = b
plus (Some a) None = Some a
plus (Some a) (Some b) = Some (a + b)

pub plus-none : (a : Option ℕ) → plus a None ≡ a
plus-none None = refl
plus-none (Some a) = refl

plus-assoc : (a b c : Option ℕ) → plus a (plus b c) ≡ plus (plus a b) c
plus-assoc None b c = refl
plus-assoc (Some a) None c = refl
plus-assoc (Some a) (Some b) None = refl
plus-assoc (Some a) (Some b) (Some c) = ap Some (omega arith)

abbrev or_zero : Option ℕ → ℕ
or_zero o = unwrap_or o 0

sum_of_none : (ss : List (Option ℕ)) → list_any is_some ss ≡ false → sum_by or_zero ss ≡ 0
sum_of_none [] h = refl
sum_of_none (None ∷ ss) h = sum_by-cons or_zero None ss ∙ zero_plus (sum_by or_zero ss) ∙ sum_of_none ss h
sum_of_none (Some n ∷ ss) h = absurd (true≢false h)

pub total-cons : (s : Option ℕ) (ss : List (Option ℕ)) → total (s ∷ ss) ≡ plus s (total ss)
total-cons None ss = ap (λ n. cond (list_any is_some ss) (Some n) None)
    (sum_by-cons or_zero None ss ∙ zero_plus (sum_by or_zero ss))
total-cons (Some n) ss = by (list_any is_some ss) refl
  where
    by : (b : Bool) → list_any is_some ss ≡ b
        → Some (sum_by or_zero (Some n ∷ ss)) ≡ plus (Some n) (cond b (Some (sum_by or_zero ss)) None)
    by true e = ap Some (sum_by-cons or_zero (Some n) ss)
    by false e =
        let none : sum_by or_zero ss ≡ 0 = sum_of_none ss e in
        let all : sum_by or_zero (Some n ∷ ss) ≡ n + sum_by or_zero ss = sum_by-cons or_zero (Some n) ss in
        ap Some (omega (arith, none, all))

smaller : (a b m : ℕ) → nat_lt (a + b) m ≡ true → nat_lt a m ≡ true
smaller a b m h = grind (arith, nat_tests)

plus_fits : (a b : Option ℕ) → size_fits (plus a b) ≡ true → size_fits a ≡ true
plus_fits None b h = refl
plus_fits (Some a) None h = h
plus_fits (Some a) (Some b) h = smaller a b (2 ^ 64) h

-- ---- what is known

abbrev pub combined : Known → Known → Known
combined k m = record {
  stored = k.stored || m.stored;
  fast = plus k.fast m.fast;
  terms = plus k.terms m.terms;
  postings = plus k.postings m.postings;
  positions = plus k.positions m.positions;
}

pub together-cons : (k : Known) (ks : List Known) → together (k ∷ ks) ≡ combined k (together ks)
together-cons k ks = λ i. record {
  stored = k.stored || list_any (λ (m : Known). m.stored) ks;
  fast = total-cons k.fast (map (λ (m : Known). m.fast) ks) i;
  terms = total-cons k.terms (map (λ (m : Known). m.terms) ks) i;
  postings = total-cons k.postings (map (λ (m : Known). m.postings) ks) i;
  positions = total-cons k.positions (map (λ (m : Known). m.positions) ks) i;
}

combined-none : (k : Known) → combined k (together []) ≡ k
combined-none k = λ i. record {
  stored = or-false k.stored i;
  fast = plus-none k.fast i;
  terms = plus-none k.terms i;
  postings = plus-none k.postings i;
  positions = plus-none k.positions i;
}

pub together-one : (k : Known) → together (k ∷ []) ≡ k
together-one k = together-cons k [] ∙ combined-none k

pub together-two : (k m : Known) → together (k ∷ m ∷ []) ≡ combined k m
together-two k m = together-cons k (m ∷ []) ∙ ap (combined k) (together-one m)

combined-assoc : (k m n : Known) → combined k (combined m n) ≡ combined (combined k m) n
combined-assoc k m n = λ i. record {
  stored = or_grouped k.stored m.stored n.stored i;
  fast = plus-assoc k.fast m.fast n.fast i;
  terms = plus-assoc k.terms m.terms n.terms i;
  postings = plus-assoc k.postings m.postings n.postings i;
  positions = plus-assoc k.positions m.positions n.positions i;
}

-- the first two may be put together first
pub together-first : (k m : Known) (ks : List Known) → together (together (k ∷ m ∷ []) ∷ ks) ≡ together (k ∷ m ∷ ks)
together-first k m ks =
    together-cons (together (k ∷ m ∷ [])) ks ∙ ap (λ f. combined f (together ks)) (together-two k m)
    ∙ sym (combined-assoc k m (together ks)) ∙ ap (combined k) (sym (together-cons m ks))
    ∙ sym (together-cons k (m ∷ ks))

unfit : (a b c d p q r s : Bool) → (p ≡ true → a ≡ true) → (q ≡ true → b ≡ true) → (r ≡ true → c ≡ true)
    → (s ≡ true → d ≡ true)
    → (a && (b && (c && d))) ≡ false → (p && (q && (r && s))) ≡ false
unfit a b c d true true true true f g h k e =
    let all : (a && (b && (c && d))) ≡ true = λ i. f refl i && (g refl i && (h refl i && k refl i)) in
    absurd (true≢false (sym all ∙ e))
unfit a b c d true true true false f g h k e = refl
unfit a b c d true true false s f g h k e = refl
unfit a b c d true false r s f g h k e = refl
unfit a b c d false q r s f g h k e = refl

-- what passes 64 bits does so combined more
pub unfit-more : (k m : Known) → fits k ≡ false → fits (together (k ∷ m ∷ [])) ≡ false
unfit-more k m e =
    ap fits (together-two k m)
    ∙ unfit (size_fits k.fast) (size_fits k.terms) (size_fits k.postings) (size_fits k.positions)
    (size_fits (plus k.fast m.fast)) (size_fits (plus k.terms m.terms)) (size_fits (plus k.postings m.postings))
    (size_fits (plus k.positions m.positions))
    (plus_fits k.fast m.fast) (plus_fits k.terms m.terms) (plus_fits k.postings m.postings)
    (plus_fits k.positions m.positions) e
