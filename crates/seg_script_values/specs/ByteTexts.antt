-- The bytes that a text of standard base64 encodes.
use Rattle.std.specs.Prelude.{ℕ, List, Option}
use Rattle.std.specs.Result.{result_ok}
use Rattle.base64.specs.Engines.{standard}
use Rattle.base64.specs.GeneralPurpose.{decode_of}

-- with padding, and without bits past the last byte
unfoldable pub bytes_of : List ℕ → Option (List ℕ)
bytes_of text = result_ok (decode_of standard text)
