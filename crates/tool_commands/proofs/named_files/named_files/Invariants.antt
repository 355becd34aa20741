use Rattle.std.proofs.Common.{◌≡◌, map, drop}
use Rattle.std.specs.Prelude.{string_bytes}
use Rattle.adf_library.specs.Shelf.{slots_of}
use Rattle.tool_commands.specs.Named.{named_behind, named_files}
use Rattle.tool_commands.proofs.named_files.named_files.Given as goal

-- the files that the words so far name
abbrev pub invariant-loop-word : goal.invariant-loop-word
invariant-loop-word g l =
    named_behind l.files.items (slots_of g.D.Device.state l.shelf) (map string_bytes (drop l.word-index l.words)) ≡ named_files (slots_of g.D.Device.state l.shelf) (map string_bytes l.words)
