use Rattle.std.proofs.Common.{◌≡◌, ◌∙◌, ap, ◌++◌, ◌∷◌, List, ℕ, take}
use Rattle.std.proofs.lemmas.List.{take_all}
use Rattle.adf_model.specs.Spelling.{spelled}
use Rattle.cgns_check.proofs.PathLaws.{printed_names, path_goes_on, path_ends}
use Rattle.cgns_check.proofs.stack.path_below.Goals as goal

pub loop-frame-preserved : goal.loop-frame-preserved
loop-frame-preserved c =
    let frames = c.args.above.now in
    let k = c.loop-frame.frame-index in
    c.in-Ok.ensures.added
    ∙ ap (λ (p : List ℕ). p ++ 47 ∷ spelled c.given.result.now) c.loop-frame.invariant
    ∙ ap (λ (n : List ℕ). printed_names (take k frames) ++ 47 ∷ spelled n) c.given.ensures
    ∙ path_goes_on frames k c.frame-item.result c.loop-frame-test.true c.frame-item.is

pub returns-in-Ok-add_name-clause-path : goal.returns-in-Ok-add_name-clause-path
returns-in-Ok-add_name-clause-path c =
    let frames = c.args.above.now in
    let all : take c.loop-frame.frame-index frames ≡ frames = take_all c.loop-frame.frame-index frames c.loop-frame-test.false in
    c.new.ensures
    ∙ c.in-Ok-add_name.ensures.added
    ∙ ap (λ (p : List ℕ). p ++ 47 ∷ spelled c.args.name.now) (c.loop-frame.invariant ∙ ap printed_names all)
    ∙ path_ends frames c.args.name.now
