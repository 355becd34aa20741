use Rattle.std.proofs.Common.{◌≡◌, arith, true, rules}
use Rattle.std.specs.Prelude.{bytes_eq}
use Rattle.follow_tests.proofs.KeptLaws.{linked_at}
use Rattle.follow_tests.proofs.kept.linked.Goals as goal

pub returns-then-eq : goal.returns-then-eq
returns-then-eq c =
    let same : bytes_eq c.index-files-number.result.name c.args.name.now ≡ true = search rules in
    linked_at c.args.files.now c.args.name.now c.files.number c.index-files-number.result c.opened.result (omega arith) c.index-files-number.is c.files.invariant same c.opened.ensures
