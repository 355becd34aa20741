use Rattle.std.proofs.Common.{◌≡◌, ◌++◌, ◌∷◌, [], length, arith, refl, sym, subst}
use Rattle.std.specs.Prelude.{vec_len}
use Rattle.std.proofs.lemmas.Grind.{common_steps}
use Rattle.strided.specs.RunLists.{AreMaximal}
use Rattle.strided.proofs.RunLaws.{spread-push, spread-joined, AreMaximal-joined, AreMaximal-behind, AreMaximal-one}
use Rattle.strided.proofs.rows.push_run.Goals as goal
use Rattle.strided.proofs.rows.push_run.Goals.{in-Some+else-last-run, in_default}

pub returns-then-last-run-clause-spread : goal.returns-then-last-run-clause-spread
returns-then-last-run-clause-spread c =
    let runs = c.args.runs.now in
    spread-joined runs.items (vec_len runs) c.in-Some.last.now c.args.run (omega (arith, runs.ok.0)) (c.in-Some.ensures.variant.0 refl) c.in-Some.ensures.value c.if-last-run.true

pub returns-then-last-run-clause-maximal : goal.returns-then-last-run-clause-maximal
returns-then-last-run-clause-maximal c =
    let runs = c.args.runs.now in
    AreMaximal-joined runs.items (vec_len runs) c.in-Some.last.now c.args.run (omega (arith, runs.ok.0)) (c.in-Some.ensures.variant.0 refl) c.in-Some.ensures.value c.requires.maximal

pub returns-clause-spread : goal.returns-clause-spread
returns-clause-spread c =
    let pushed = spread-push c.args.runs.now.items c.args.run in
    elim c.match-last_mut.branch [ in-Some+else-last-run w ↦ grind (arith, common_steps, pushed) | in_default w ↦ grind (arith, common_steps, pushed) ]

pub returns-clause-maximal : goal.returns-clause-maximal
returns-clause-maximal c =
    let runs = c.args.runs.now in
    elim c.match-last_mut.branch [
      | in-Some+else-last-run w ↦
          let pushed : c.push.new.self.items ≡ runs.items ++ c.args.run ∷ [] = grind (arith, common_steps) in
          subst AreMaximal (sym pushed) (AreMaximal-behind runs.items (vec_len runs) w.in-Some.last.now c.args.run (omega (arith, runs.ok.0)) (w.in-Some.ensures.variant.0 refl) w.in-Some.ensures.value w.if-last-run.false c.requires.some c.requires.maximal)
      | in_default w ↦
          let pushed : c.push.new.self.items ≡ runs.items ++ c.args.run ∷ [] = grind (arith, common_steps) in
          let none : length runs.items ≡ 0 = grind (arith, common_steps) in
          subst AreMaximal (sym pushed) (AreMaximal-one runs.items c.args.run none c.requires.some)
    ]
