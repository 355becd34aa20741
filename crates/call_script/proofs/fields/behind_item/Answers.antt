use Rattle.std.proofs.Common.{◌≡◌, ◌&&◌, true, false, arith, get_or, is_some}
use Rattle.std.proofs.lemmas.Bool.Decides.{nat_tests}
use Rattle.std.proofs.lemmas.List.{take_rest}
use Rattle.adf_format.specs.Hex.{digit_value}
use Rattle.adf_model.specs.Spelling.{is_plain}
use Rattle.call_script.proofs.Items.{plain_item, no_item_other, no_item_short, escape_at, no_escape_at}
use Rattle.call_script.proofs.fields.behind_item.Goals as goal
use Rattle.call_script.proofs.fields.behind_item.Goals.{then-first-ne37-via-then-first-ne37, then-first-ne37-via-else-first-ne37+then-after-lt2}
use Rattle.call_script.proofs.fields.behind_item.Goals.{else-is_hex_digit-via-then-is_hex_digit+else-is_hex_digit-2, else-is_hex_digit-via-else-is_hex_digit}

pub returns-then-is_plain-clause-items : goal.returns-then-is_plain-clause-items
returns-then-is_plain-clause-items c =
    let plain : is_plain c.args.first ≡ true = cc in
    plain_item c.args.first c.args.after.now plain

pub returns-then-first-ne37-clause-items : goal.returns-then-first-ne37-clause-items
returns-then-first-ne37-clause-items c =
    let plain : is_plain c.args.first ≡ false = cc in
    elim c.then-first-ne37.branch [
      | then-first-ne37-via-then-first-ne37 w ↦ no_item_other c.args.first c.args.after.now plain (grind (arith, nat_tests))
      | then-first-ne37-via-else-first-ne37+then-after-lt2 w ↦ no_item_short c.args.first c.args.after.now plain (omega arith)
    ]

pub returns-then-is_hex_digit-2-clause-items : goal.returns-then-is_hex_digit-2-clause-items
returns-then-is_hex_digit-2-clause-items c =
    let high : is_some (digit_value (get_or c.args.after.now 0 0)) ≡ true = cc in
    let low : is_some (digit_value (get_or c.args.after.now 1 0)) ≡ true = cc in
    rw take_rest (escape_at c.args.first c.args.after.now (omega arith) (omega arith) high low)

pub returns-else-is_hex_digit-clause-items : goal.returns-else-is_hex_digit-clause-items
returns-else-is_hex_digit-clause-items c =
    elim c.else-is_hex_digit.branch [
      | else-is_hex_digit-via-then-is_hex_digit+else-is_hex_digit-2 w ↦
          let bad : (is_some (digit_value (get_or c.args.after.now 0 0)) && is_some (digit_value (get_or c.args.after.now 1 0))) ≡ false = grind (arith, nat_tests) in
          no_escape_at c.args.first c.args.after.now (omega arith) (omega arith) bad
      | else-is_hex_digit-via-else-is_hex_digit w ↦
          let bad : (is_some (digit_value (get_or c.args.after.now 0 0)) && is_some (digit_value (get_or c.args.after.now 1 0))) ≡ false = grind (arith, nat_tests) in
          no_escape_at c.args.first c.args.after.now (omega arith) (omega arith) bad
    ]
