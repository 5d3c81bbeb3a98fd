use Rattle.std.proofs.Common.{◌≡◌, length}
use Rattle.seg_open.specs.OpenedTermFiles.{EachIsFirst}
use Rattle.seg_open.proofs.opened_dictionaries.open_entries.Given as goal

-- this many fields are opened
abbrev pub invariant-loop-place : goal.invariant-loop-place
invariant-loop-place l = record {
  number : length l.fields.items ≡ l.place;
  each : EachIsFirst l.entries l.max_doc l.parts l.fields.items;
}
