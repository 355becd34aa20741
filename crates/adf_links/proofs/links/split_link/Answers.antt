use Rattle.std.proofs.Common.{arith, ◌≡◌, false}
use Rattle.adf_format.specs.Links.{is_link_text}
use Rattle.adf_links.proofs.LinkLaws.{no_mark, cut_at, linked_at}
use Rattle.adf_links.proofs.links.split_link.Goals as goal

pub returns-in_err-file_end-clause-grammar : goal.returns-in_err-file_end-clause-grammar
returns-in_err-file_end-clause-grammar c =
    let no : is_link_text c.args.text.now ≡ false = no_mark c.args.text.now c.in_err-file_end.ensures in
    grind (arith, no)

pub returns-then-is_link_path-clause-grammar : goal.returns-then-is_link_path-clause-grammar
returns-then-is_link_path-clause-grammar c =
    let by_path = linked_at c.args.text.now c.in_ok-file_end.file_end c.in_ok-file_end.ensures in
    grind (arith, by_path)

pub returns-then-is_link_path-clause-parts : goal.returns-then-is_link_path-clause-parts
returns-then-is_link_path-clause-parts c = cut_at c.args.text.now c.in_ok-file_end.file_end c.in_ok-file_end.ensures

pub returns-else-is_link_path-clause-grammar : goal.returns-else-is_link_path-clause-grammar
returns-else-is_link_path-clause-grammar c =
    let by_path = linked_at c.args.text.now c.in_ok-file_end.file_end c.in_ok-file_end.ensures in
    grind (arith, by_path)
