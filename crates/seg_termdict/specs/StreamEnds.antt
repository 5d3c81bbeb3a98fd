-- What a streamer ends as, once the term that was lent of it is given back.
use Rattle.std.specs.Prelude.{◌≡◌, []}
use Rattle.std.specs.Borrow.{Fml, MutBor}
use Rattle.std.specs.Io.BufRead.{Rests}
use mir.Syntax.{named}
use Rattle.seg_termdict.specs.TermStreams.{Stream, advanced}
use Rattle.seg_termdict.specs.contracts.streamer.TermStreamer as streamer

-- The next term was taken, where there was one. `named 0` is the place of the dictionary's lifetime in the signature.
abbrev pub EndsAdvanced : MutBor Stream → Fml
EndsAdvanced s = Rests (streamer.the_row (record { mir = named 0; lft = [] })) s (λ last. last ≡ advanced s.now)
