use Rattle.std.proofs.Common.{◌≡◌, ◌++◌, length, map, string_bytes}
use denote.Shadow.{shadow}
use denote.Text.{Utf8}
use Rattle.seg_common.specs.JsonPaths.{written_key}
use Rattle.seg_values.specs.JsonPathTexts.{before_first, keys_in}
use Rattle.seg_values.proofs.json_path.push_keys.Given as goal

-- the keys so far, with those that are left, are all
abbrev pub invariant-loop-part : goal.invariant-loop-part
invariant-loop-part l =
    shadow (Utf8 l.rest) × (l.path.expand_dots ≡ l.initial.path.expand_dots)
    × (l.path.keys ++ map (written_key l.initial.path.expand_dots) (before_first (string_bytes l.key) (keys_in l.rest)) ≡ l.initial.path.keys ++ map (written_key l.initial.path.expand_dots) (keys_in l.fn.text))

abbrev pub decreases-loop-part : goal.decreases-loop-part
decreases-loop-part l = length l.rest
