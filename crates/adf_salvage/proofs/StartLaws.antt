-- What the head of a damaged file says, for a survey of its nodes.
use Rattle.std.proofs.Common.{◌≡◌, ℕ, ◌-◌, ◌≤◌, List, length, min, ◌∙◌, ap, arith}
use Rattle.std.specs.Prelude.{Some, None, codes}
use Rattle.adf_format.specs.Checks.{first_broken}
use Rattle.adf_format.specs.Fields.{field, holds}
use Rattle.adf_format.specs.FirstFault.{end_in}
use Rattle.adf_format.specs.Pointer.{place_value}
use Rattle.adf_format.specs.Records.{header_record}
use Rattle.disk_ptr.specs.View.{view}
use Rattle.adf_records.specs.declared.FileHeader.{FileHeader}
use Rattle.adf_records.specs.View.{header_of}
use Rattle.layout_lint.specs.declared.verdict.Span.{Span}
use Rattle.layout_lint.proofs.HeadLaws.{end_said, root_said, wide_said}
use Rattle.adf_salvage.specs.Parts.{start_rows}
use Rattle.adf_salvage.specs.Surveys.{IsStart}

pub start_said : (image : List ℕ) (h : FileHeader) (span : Span) (place n : ℕ) → header_of h ≡ header_record (field image 0 186) → first_broken (start_rows image) ≡ None
    → span ≡ record { wide = holds h.what 25 (codes "W"); end = min (place_value (Some (view h.end))) (n - 1) } → place ≡ place_value (Some (view h.root)) → n ≡ length image → 266 ≤ n → IsStart image (record { root = place; span = span })
start_said image h span place n says kept is root long some =
    let end = ap (λ (s : Span). s.end) is ∙ ap (λ e. min e (n - 1)) (end_said image h says) ∙ ap (λ k. min (end_in image) (k - 1)) long in
    record {
      kept = kept;
      root = root ∙ root_said image h says;
      span = record { wide = ap (λ (s : Span). s.wide) is ∙ wide_said image h says; end = end; inside = omega (arith, end, long, some) };
    }
