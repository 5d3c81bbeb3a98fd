use Rattle.std.proofs.Common.{◌≡◌, ◌-◌, arith, length, take, drop, refl, sym, ap, ◌∙◌, ℤ, w64, of_z, to_z, Some, None, slice_range}
use Rattle.jiff_core.proofs.SignedLemmas.{signed_arith}
use Rattle.seg_common.specs.ParsedDates.{clock_read, fraction_read, moment_of, offset_read}
use Rattle.seg_common.proofs.WholeTexts.{fraction_len-le, front_digits, no_sign_parsed, parsed, short_parsed}
use Rattle.seg_common.proofs.date.DateTime.parse_rfc3339.Goals as goal
use Rattle.seg_common.proofs.date.DateTime.parse_rfc3339.Goals.{then-bytes-lt19-via-then-bytes-lt19, then-bytes-lt19-via-else-bytes-lt19+then-not-eq_ignore_ascii_case}

pub returns-then-bytes-lt19 : goal.returns-then-bytes-lt19
returns-then-bytes-lt19 c =
    elim c.then-bytes-lt19.branch [
      | then-bytes-lt19-via-then-bytes-lt19 w ↦ short_parsed c.args.text.now c.as_bytes-bytes.result.now c.as_bytes-bytes.ensures.value (omega (arith, w.if-bytes-lt19.true))
      | then-bytes-lt19-via-else-bytes-lt19+then-not-eq_ignore_ascii_case w ↦ no_sign_parsed c.args.text.now c.as_bytes-bytes.result.now c.as_bytes-bytes.ensures.value (sym w.eq_ignore_ascii_case.ensures ∙ w.if-not-eq_ignore_ascii_case.true)
    ]

pub split_at-requires : goal.split_at-requires
split_at-requires c =
    let bytes = c.as_bytes-bytes.result.now in
    omega (arith, c.fraction_len.ensures, fraction_len-le (take (length bytes - 19) (drop 19 bytes)))

pub returns-in_err-day : goal.returns-in_err-day
returns-in_err-day c =
    let bytes = c.as_bytes-bytes.result.now in
    let front = c.split_at.result.0.now in
    let back = c.split_at.result.1.now in
    c.from_residual.ensures
    ∙ parsed c.args.text.now bytes front back c.fraction_len.result None (clock_read (slice_range bytes 11 19)) (fraction_read front) (offset_read back) c.as_bytes-bytes.ensures.value c.if-bytes-lt19.false (sym c.eq_ignore_ascii_case.ensures ∙ c.if-not-eq_ignore_ascii_case.false)
    c.fraction_len.ensures c.split_at.ensures.front c.split_at.ensures.back c.in_err-day.ensures.value refl refl refl

pub returns-in_err-seconds : goal.returns-in_err-seconds
returns-in_err-seconds c =
    let bytes = c.as_bytes-bytes.result.now in
    let front = c.split_at.result.0.now in
    let back = c.split_at.result.1.now in
    c.from_residual-in_err-seconds.ensures
    ∙ parsed c.args.text.now bytes front back c.fraction_len.result (Some c.in_ok-day.day) None (fraction_read front) (offset_read back) c.as_bytes-bytes.ensures.value c.if-bytes-lt19.false (sym c.eq_ignore_ascii_case.ensures ∙ c.if-not-eq_ignore_ascii_case.false)
    c.fraction_len.ensures c.split_at.ensures.front c.split_at.ensures.back c.in_ok-day.ensures.value c.in_err-seconds.ensures.value refl refl

pub read_fraction-requires : goal.read_fraction-requires
read_fraction-requires c =
    let bytes = c.as_bytes-bytes.result.now in
    front_digits (take (length bytes - 19) (drop 19 bytes)) c.split_at.result.0.now c.fraction_len.result c.fraction_len.ensures c.split_at.ensures.front

pub returns-in_err-nanos : goal.returns-in_err-nanos
returns-in_err-nanos c =
    let bytes = c.as_bytes-bytes.result.now in
    let front = c.split_at.result.0.now in
    let back = c.split_at.result.1.now in
    c.from_residual-in_err-nanos.ensures
    ∙ parsed c.args.text.now bytes front back c.fraction_len.result (Some c.in_ok-day.day) (Some c.in_ok-seconds.seconds) None (offset_read back) c.as_bytes-bytes.ensures.value c.if-bytes-lt19.false (sym c.eq_ignore_ascii_case.ensures ∙ c.if-not-eq_ignore_ascii_case.false)
    c.fraction_len.ensures c.split_at.ensures.front c.split_at.ensures.back c.in_ok-day.ensures.value c.in_ok-seconds.ensures.value c.in_err-nanos.ensures.value refl

pub returns-in_err-offset : goal.returns-in_err-offset
returns-in_err-offset c =
    let bytes = c.as_bytes-bytes.result.now in
    let front = c.split_at.result.0.now in
    let back = c.split_at.result.1.now in
    c.from_residual-in_err-offset.ensures
    ∙ parsed c.args.text.now bytes front back c.fraction_len.result (Some c.in_ok-day.day) (Some c.in_ok-seconds.seconds) (Some c.in_ok-nanos.nanos) None c.as_bytes-bytes.ensures.value c.if-bytes-lt19.false (sym c.eq_ignore_ascii_case.ensures ∙ c.if-not-eq_ignore_ascii_case.false)
    c.fraction_len.ensures c.split_at.ensures.front c.split_at.ensures.back c.in_ok-day.ensures.value c.in_ok-seconds.ensures.value c.in_ok-nanos.ensures.value c.in_err-offset.ensures.value

pub returns : goal.returns
returns c =
    let bytes = c.as_bytes-bytes.result.now in
    let front = c.split_at.result.0.now in
    let back = c.split_at.result.1.now in
    let day = c.in_ok-day.day in
    let offset = c.in_ok-offset.offset in
    let same_day : to_z w64 (of_z w64 day) ≡ day = omega (arith, signed_arith, c.in_ok-day.ensures.bound) in
    let same_offset : to_z w64 (of_z w64 offset) ≡ offset = omega (arith, signed_arith, c.in_ok-offset.ensures.bound) in
    c.moment.ensures
    ∙ ap (λ (z : ℤ). moment_of (Some z) (Some c.in_ok-seconds.seconds) (Some c.in_ok-nanos.nanos) (Some (to_z w64 (of_z w64 offset)))) same_day
    ∙ ap (λ (z : ℤ). moment_of (Some day) (Some c.in_ok-seconds.seconds) (Some c.in_ok-nanos.nanos) (Some z)) same_offset
    ∙ parsed c.args.text.now bytes front back c.fraction_len.result (Some c.in_ok-day.day) (Some c.in_ok-seconds.seconds) (Some c.in_ok-nanos.nanos) (Some c.in_ok-offset.offset) c.as_bytes-bytes.ensures.value c.if-bytes-lt19.false (sym c.eq_ignore_ascii_case.ensures ∙ c.if-not-eq_ignore_ascii_case.false)
    c.fraction_len.ensures c.split_at.ensures.front c.split_at.ensures.back c.in_ok-day.ensures.value c.in_ok-seconds.ensures.value c.in_ok-nanos.ensures.value c.in_ok-offset.ensures.value
