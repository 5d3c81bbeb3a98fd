-- A serializer of which a component is lent to be written to.
use Rattle.std.specs.Prelude.{Option}
use Rattle.std.specs.Borrow.{Lends, MutBor, Fml, RattleType, u8}
use Rattle.std.specs.contracts.alloc.Global as global
use Rattle.std.specs.contracts.vec.Vec as vec
use Rattle.std.specs.contracts.impls.GlobalAllocator.TheImpl.{ghosts}
use Rattle.seg_postings.specs.FieldFiles.{FieldFiles}
use Rattle.seg_postings.specs.contracts.inverted_index_serializer.InvertedIndexSerializer.{the_row as postings_row}
use Rattle.seg_store.specs.WriterBlocks.{Taken}
use Rattle.seg_store.specs.contracts.store_writer.StoreWriter.{the_row as store_row}
use Rattle.seg_segment.specs.SegmentSerializers.{Serializing}
use Rattle.seg_segment.specs.contracts.segment_serializer.SegmentSerializer.{the_row}

-- once the loan is over the serializer has the postings that were left there
abbrev pub LendsPostings : MutBor Serializing → MutBor (Option FieldFiles) → Fml
LendsPostings s r = Lends the_row postings_row s r (λ postings. record s.now { postings = postings })

-- it ends with the store that was left there
abbrev pub LendsStore : MutBor Serializing → MutBor (Option Taken) → Fml
LendsStore s r = Lends the_row store_row s r (λ store. record s.now { store = store })

-- `Vec<u8>` as the logic holds it
abbrev pub bytes_row : RattleType
bytes_row = vec.the_row u8 global.the_row ghosts
