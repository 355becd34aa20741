use Rattle.std.proofs.Common.{◌+◌, ◌-◌, ◌/◌, ◌%◌, drop, arith, refl, length-take, length-drop}
use Rattle.layout_lint.proofs.FillerLaws.{piece_blank, piece_hole}
use Rattle.layout_lint.proofs.fillers.look_at_piece.Goals as goal

pub returns-in-Some-clause-hole : goal.returns-in-Some-clause-hole
returns-in-Some-clause-hole g c =
    rw c.halt_at.ensures (piece_hole _ (c.args.at / 4096) (c.args.at % 4096) c.args.count c.args.at c.turn_to.new.page.bytes c.in_ok-turn_to.ensures.told (omega arith) (omega arith) c.in-Some.k _
    (omega (arith, c.in-Some.ensures.0, length-take (c.args.at % 4096 + c.args.count - c.args.at % 4096) (drop (c.args.at % 4096) c.turn_to.new.page.bytes), length-drop (c.args.at % 4096) c.turn_to.new.page.bytes, c.turn_to.ensures.long))
    c.in-Some.ensures.1 c.in-Some.ensures.2 refl)

pub returns-in-None-clause-blank : goal.returns-in-None-clause-blank
returns-in-None-clause-blank g c =
    piece_blank _ (c.args.at / 4096) (c.args.at % 4096) c.args.count c.args.at c.turn_to.new.page.bytes c.in_ok-turn_to.ensures.told (omega arith) (omega arith)
    (λ k lt. c.in-None.ensures k (omega (arith, lt, length-take (c.args.at % 4096 + c.args.count - c.args.at % 4096) (drop (c.args.at % 4096) c.turn_to.new.page.bytes), length-drop (c.args.at % 4096) c.turn_to.new.page.bytes, c.turn_to.ensures.long)))
