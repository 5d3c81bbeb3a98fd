use Rattle.std.proofs.Common.{◌≡◌, ℕ, List, [], ◌∷◌, take, drop, get_or, Bool, true, false, ◌==◌, nat_eq, sym, ap, ◌∙◌}
use Rattle.std.proofs.Math.Bool.{and-true}
use Rattle.std.specs.Cmp.Lexicographic.{pointwise}
use Rattle.fast_float.specs.Text.{minus, scan}
use Rattle.serde_json.specs.Read.{number_of, number_from}
use Rattle.seg_script.proofs.numbers.number_from.Goals as goal

-- whether a text has the sign, as a text and as a byte
sign : (s : List ℕ) (b : Bool) → pointwise nat_eq (take 1 s) (minus ∷ []) ≡ b → (get_or s 0 0 == minus) ≡ b
sign [] b h = h
sign (x ∷ s) b h = sym (and-true (x == minus)) ∙ h

pub returns-in-Some : goal.returns-in-Some
unfolding number_of
returns-in-Some c =
    let s = c.as_bytes-bytes.result.now in
    let cut = c.in-Some.ensures.cases in
    let parts : c.scan.result ≡ scan (drop 1 s) = c.scan.ensures.parts ∙ ap scan cut.1 in
    let read : number_from true (scan (drop 1 s)) ≡ number_of s = rw (sign s true cut.0) in
    c.below_zero.ensures ∙ ap (number_from true) parts ∙ read ∙ ap number_of c.as_bytes-bytes.ensures.value

pub returns-in-None : goal.returns-in-None
unfolding number_of
returns-in-None c =
    let s = c.as_bytes-bytes.result.now in
    let read : number_from false (scan s) ≡ number_of s = rw (sign s false c.in-None.ensures.cases) in
    c.from_zero_on.ensures ∙ ap (number_from false) c.scan-in-None.ensures.parts ∙ read ∙ ap number_of c.as_bytes-bytes.ensures.value
