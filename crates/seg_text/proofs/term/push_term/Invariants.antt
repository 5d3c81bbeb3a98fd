use Rattle.std.proofs.Common.{◌≡◌, ◌++◌, drop, flat_map}
use Rattle.seg_text.specs.TermText.{byte_text}
use Rattle.seg_text.proofs.term.push_term.Given as goal

abbrev pub invariant-loop-byte : goal.invariant-loop-byte
invariant-loop-byte l = l.out.items ++ flat_map byte_text (drop l.byte-index l.bytes) ≡ l.initial.out.items ++ flat_map byte_text l.bytes
