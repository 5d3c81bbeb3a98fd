use Rattle.std.proofs.Common.{◌≡◌, ◌∷◌, [], List, ℕ}
use Rattle.std.proofs.lemmas.List.{append-nil}
use Rattle.json.specs.Token.{string}
use Rattle.json.specs.Print.{quoted, print, print_from}
use Rattle.seg_text.proofs.quoted_text.escaped.Goals as goal

print-string : (s : List ℕ) → print (string s ∷ []) ≡ quoted s
unfolding print_from
print-string s = append-nil (quoted s)

pub returns : goal.returns
returns c = rw (c.into_inner.ensures.items, c.in_ok-string.ensures.ok, c.in_ok-string.ensures.room.0, c.new-writer.ensures.tokens, c.new-writer.ensures.before, c.new.ensures.items, print-string)
