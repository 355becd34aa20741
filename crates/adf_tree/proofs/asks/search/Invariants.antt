use Rattle.std.proofs.Common.{◌≡◌, length}
use Rattle.std.specs.List.{All}
use Rattle.adf_links.specs.Components.{IsWithin}
use Rattle.cg_io.specs.Answers.{OnlyReads}
use Rattle.adf_tree.proofs.AskWalks.{IsAlong}
use Rattle.adf_tree.proofs.asks.search.Given as goal

-- what is left of the path leads where the whole leads
abbrev pub invariant-parts : goal.invariant-parts
invariant-parts g l = record {
  sound : g.R.ReadBytes.is_sound l.bytes;
  bytes : g.R.ReadBytes.image l.bytes ≡ g.R.ReadBytes.image l.fn.bytes;
  waits : g.R.ReadBytes.waiting l.bytes ≡ g.R.ReadBytes.waiting l.fn.bytes;
  effect : OnlyReads (g.R.ReadBytes.state l.fn.bytes) (g.R.ReadBytes.state l.bytes);
  within : All (IsWithin (length l.path)) l.range-items;
  along : IsAlong l.core (g.R.ReadBytes.image l.fn.bytes) l.fn.node l.path l.range-items l.range-index l.at;
}
