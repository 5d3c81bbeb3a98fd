use Rattle.std.proofs.Common.{◌≡◌, ◌++◌, length, string_bytes}
use denote.Shadow.{shadow}
use denote.Text.{Utf8}
use Rattle.seg_field_metadata.specs.ListedNames.{escaped_path}
use Rattle.seg_field_metadata.proofs.listed_names.push_escaped.Given as goal

-- what was appended, with what is left, is all
abbrev pub invariant-loop-part : goal.invariant-loop-part
invariant-loop-part l =
    shadow (Utf8 l.rest) × (string_bytes l.name ++ escaped_path l.rest ≡ string_bytes l.initial.name ++ escaped_path l.fn.path)

abbrev pub decreases-loop-part : goal.decreases-loop-part
decreases-loop-part l = length l.rest
