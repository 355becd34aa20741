use Rattle.std.proofs.Common.{◌≡◌, map, drop}
use Rattle.std.specs.Prelude.{string_bytes}
use Rattle.std.specs.List.{list_all}
use Rattle.adf_library.specs.Shelf.{slots_of}
use Rattle.tool_commands.specs.Tool.{names_device}
use Rattle.tool_commands.proofs.words.are_on.Given as goal

-- all words so far are on the shelf
abbrev pub invariant-loop-word : goal.invariant-loop-word
invariant-loop-word g l =
    list_all (names_device (slots_of g.D.Device.state l.shelf)) (map string_bytes (drop l.word-index l.words)) ≡ list_all (names_device (slots_of g.D.Device.state l.shelf)) (map string_bytes l.words)
