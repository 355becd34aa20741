-- What crates above know of how the lists of free chunks are threaded.
use Rattle.std.specs.Prelude.{List, ℕ}
use Rattle.adf_format.specs.LaysOut.{ThreadsFreeChunks}
use Rattle.file_heap.specs.Heap.{FreeSpace, IsThreaded}

-- the bytes thread the chunks among the gaps, whatever the order of the lists
pub threads_chunks : (space : FreeSpace) (bytes : List ℕ) → IsThreaded space bytes → ThreadsFreeChunks bytes space.heap.gaps
unfolding IsThreaded
threads_chunks space bytes th = th.threads
