-- Cases of moments as texts.
use Rattle.std.specs.Prelude.{◌≡◌, ℕ, ℤ, pos, negsuc, List, [], ◌∷◌, map, replicate, codes, Some, None}
use Rattle.seg_common.specs.declared.precision.DateTimePrecision.TheVariants.{Seconds}
use Rattle.seg_common.specs.DateUnits.{cut_to, precision_unit}
use Rattle.seg_common.specs.ParsedDates.{date_of}

-- a text, and the moment that it tells
abbrev pub told : List (List ℕ × ℤ)
told =
    (codes "1970-01-01T00:00:00Z", pos 0)
    ∷ (codes "1969-12-31T23:59:59.5Z", negsuc 499999999)
    ∷ (codes "1969-12-31t23:59:59.500z", negsuc 499999999)
    ∷ (codes "1985-04-12T23:20:50.52Z", pos 482196050520000000)
    ∷ (codes "1996-12-19T16:39:57-08:00", pos 851042397000000000)
    ∷ (codes "1937-01-01T12:00:27.87+00:20", negsuc 1041337172129999999)
    ∷ (codes "1970-01-01T00:00:00-00:00", pos 0)
    ∷ (codes "2000-02-29T00:00:00.1234567899Z", pos 951782400123456789)
    ∷ (codes "1677-09-21T00:12:43.145224192Z", negsuc 9223372036854775807)
    ∷ (codes "2262-04-11T23:47:16.854775807Z", pos 9223372036854775807)
    ∷ (codes "2262-04-12T23:46:16.854775807+23:59", pos 9223372036854775807)
    ∷ []

-- texts that tell none: without a clock, an offset or digits of a fraction, of days and times that aren't, and of
-- moments that 64 bits don't hold
abbrev pub refused : List (List ℕ)
refused =
    codes ""
    ∷ codes "1985-04-12"
    ∷ codes "1985-04-12T23:20:50"
    ∷ codes "1985-04-12 23:20:50Z"
    ∷ codes "1985-04-12T23:20:50.Z"
    ∷ codes "1985-04-12T23:20:50Zz"
    ∷ codes "1985-04-12T23:20:5Z"
    ∷ codes "1985-04-12T23:20:60Z"
    ∷ codes "1990-12-31T23:59:60Z"
    ∷ codes "1985-04-12T23:60:50Z"
    ∷ codes "1985-04-12T24:00:00Z"
    ∷ codes "1985-04-31T00:00:00Z"
    ∷ codes "2001-02-29T00:00:00Z"
    ∷ codes "2100-02-29T00:00:00Z"
    ∷ codes "1985-13-01T00:00:00Z"
    ∷ codes "1985-00-01T00:00:00Z"
    ∷ codes "1985-04-00T00:00:00Z"
    ∷ codes "+985-04-12T00:00:00Z"
    ∷ codes "1985-04-12T23:20:50+24:00"
    ∷ codes "1985-04-12T23:20:50+00:60"
    ∷ codes "1985-04-12T23:20:50+0100"
    ∷ codes "1985-04-12T23:20:50*01:00"
    ∷ codes "1677-09-21T00:12:43.145224191Z"
    ∷ codes "2262-04-11T23:47:16.854775808Z"
    ∷ codes "2262-04-11T23:47:16.854775807-00:01"
    ∷ []

pub record DateCases : Type 0 where
  pub reads : map (λ (t : List ℕ × ℤ). date_of t.0) told ≡ map (λ (t : List ℕ × ℤ). Some t.1) told
  -- half a second before 1970
  pub cut : cut_to (precision_unit Seconds) (negsuc 499999999) ≡ pos 0
  pub refuses : map date_of refused ≡ replicate 25 None
