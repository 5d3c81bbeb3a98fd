-- Parts of a text that are appended one after another.
use Rattle.std.proofs.Common.{◌≡◌, ℕ, ℤ, pos, unsigned_abs, List, [], ◌∷◌, ◌++◌, append_assoc, subst}
use Rattle.std.specs.Int.{int_div_euclid, int_rem_euclid}
use Rattle.seg_common.specs.DateText.{date_text, day_nanos, day_text, time_text}

-- two parts with a byte between them, and a last one
pub three_parts : (out a b c d e : List ℕ) (xs ys zs : List ℕ) (s : ℕ) → a ≡ out ++ xs → b ≡ a ++ s ∷ [] → c ≡ b ++ ys → d ≡ c ++ s ∷ [] → e ≡ d ++ zs → e ≡ out ++ (xs ++ s ∷ (ys ++ s ∷ zs))
three_parts out a b c d e xs ys zs s first second third fourth last = rw (last, fourth, third, second, first) (simp append_assoc)

-- the date, `T`, the time, `Z`
pub date_parts : (out a b c d : List ℕ) (moment day : ℤ) (nanos : ℕ) → day ≡ int_div_euclid moment (pos day_nanos) → nanos ≡ unsigned_abs (int_rem_euclid moment (pos day_nanos)) → a ≡ out ++ day_text day → b ≡ a ++ 84 ∷ [] → c ≡ b ++ time_text nanos → d ≡ c ++ 90 ∷ [] → d ≡ out ++ date_text moment
unfolding date_text
date_parts out a b c d moment day nanos is_day is_nanos first sign second last =
    joined (day_text (int_div_euclid moment (pos day_nanos))) (time_text (unsigned_abs (int_rem_euclid moment (pos day_nanos))))
    (subst (λ n. a ≡ out ++ day_text n) is_day first) (subst (λ n. c ≡ b ++ time_text n) is_nanos second)
  where
    joined : (ds ts : List ℕ) → a ≡ out ++ ds → c ≡ b ++ ts → d ≡ out ++ (ds ++ 84 ∷ (ts ++ 90 ∷ []))
    joined ds ts e f = rw (last, f, sign, e) (simp append_assoc)
