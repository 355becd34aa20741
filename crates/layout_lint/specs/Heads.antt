-- What the head of a file says.
use Rattle.std.specs.Prelude.{◌≡◌, ℕ, ◌<◌, List, length, None}
use Rattle.adf_format.specs.Fields.{field}
use Rattle.adf_format.specs.Checks.{first_broken}
use Rattle.adf_format.specs.Records.{free_table_record}
use Rattle.adf_format.specs.SoundPart.{format_in}
use Rattle.adf_format.specs.FirstFault.{head_rows, root_visit, is_wide, end_in}
use Rattle.adf_records.specs.View.{pointers_of}
use Rattle.layout_lint.specs.declared.head.Head.{Head}
use Rattle.layout_lint.specs.declared.verdict.Span.{Span}

-- the version and the last byte, as the header says
pub record IsSpan (image : List ℕ) (span : Span) : Type 0 where
  pub wide : span.wide ≡ is_wide image
  pub end : span.end ≡ end_in image
  pub inside : span.end < length image

-- no rule of the head is broken, and it says this
pub record IsHead (image : List ℕ) (head : Head) : Type 0 where
  pub kept : first_broken (head_rows image) ≡ None
  pub format : head.format ≡ format_in image
  pub root : head.root ≡ (root_visit image).place
  pub span : IsSpan image head.span
  pub lists : pointers_of head.lists ≡ free_table_record (field image 186 80)
