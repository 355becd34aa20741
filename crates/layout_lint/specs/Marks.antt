-- The start and the end of a part of a file.
use Rattle.std.specs.Prelude.{ℕ, ◌&&◌, List, Option, Some, None, cond}
use Rattle.adf_format.specs.Pointer.{is_place}
use Rattle.adf_format.specs.Fields.{field, holds}
use Rattle.adf_format.specs.Records.{start_tag, end_tag}
use Rattle.adf_format.specs.Checks.{Row, row}
use Rattle.adf_format.specs.FirstFault.{fits, is_name_field}
use Rattle.adf_chunks.specs.View.{part_of}
use Rattle.layout_lint.specs.declared.marks.Mark.{Mark}

-- the rule that the part fits and begins with its tag
abbrev pub start_row : List ℕ → ℕ → Mark → Row
start_row image end mark = row mark.rule mark.place (fits end mark.place mark.least && holds image mark.place (start_tag (part_of mark.part)))

-- the rule that its end tag stands at a place
abbrev pub tail_row : List ℕ → Mark → ℕ → Row
tail_row image mark tail = row mark.rule tail (holds image tail (end_tag (part_of mark.part)))

-- the name in an entry that has a name and points to a child
abbrev pub name_said : List ℕ → Option (List ℕ)
name_said bytes = cond (is_name_field (field bytes 0 32) && is_place (field bytes 32 12)) (Some (field bytes 0 32)) None
