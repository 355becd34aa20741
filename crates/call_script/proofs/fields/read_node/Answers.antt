use Rattle.std.proofs.Common.{refl, sym, ◌∙◌, decimal, arith}
use Rattle.call_script.proofs.Pieces.{cut_same, node_has_point, decimal_lacks}
use Rattle.call_script.proofs.fields.read_node.Goals as goal

pub returns-in_err-file-clause-none : goal.returns-in_err-file-clause-none
returns-in_err-file-clause-none c = λ _ node id e. node_has_point c.args.token.now node c.in_err-file.ensures e

pub returns-in_err-read_file_number-clause-none : goal.returns-in_err-read_file_number-clause-none
returns-in_err-read_file_number-clause-none c = λ _ node id e.
    let parts = c.in_ok-file.ensures in
    let same = cut_same 46 c.in_ok-file.file.now c.in_ok-file.serial.now (decimal node.file) (decimal node.serial) parts.1 (decimal_lacks 46 node.file (omega arith) (omega arith)) (sym parts.0 ∙ e) in
    c.in_err-read_file_number.ensures.none refl node.file id.0 same.0

pub returns-in_err-read_number-clause-none : goal.returns-in_err-read_number-clause-none
returns-in_err-read_number-clause-none c = λ _ node id e.
    let parts = c.in_ok-file.ensures in
    let same = cut_same 46 c.in_ok-file.file.now c.in_ok-file.serial.now (decimal node.file) (decimal node.serial) parts.1 (decimal_lacks 46 node.file (omega arith) (omega arith)) (sym parts.0 ∙ e) in
    c.in_err-read_number.ensures.none refl node.serial id.1 same.1
