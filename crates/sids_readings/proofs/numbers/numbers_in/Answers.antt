use Rattle.std.proofs.Common.{◌≡◌, ◌∙◌, sym, ap, subst, ◌≤◌, ◌*◌, ◌-◌, [], ◌∷◌, ◌++◌, length, drop, true, not, rules}
use Rattle.std.specs.Int.{w64}
use Rattle.std.proofs.lemmas.Int.{to_z-of_z}
use Rattle.std.specs.Prelude.{is_ok}
use Rattle.std.proofs.lemmas.Bool.{cond-true}
use Rattle.sids_readings.specs.Reading.{bytes_of, first_number, numbers_of}
use Rattle.sids_readings.proofs.NumberLaws.{others_fit, one_more}
use Rattle.sids_readings.proofs.numbers.numbers_in.Goals as goal

pub loop-left-preserved : goal.loop-left-preserved
loop-left-preserved c =
    let left = c.loop-left.left in
    let rest = c.loop-left.rest.now in
    let before = c.loop-left.numbers.items in
    let kept = c.loop-left.invariant in
    let behind : c.split_at.result.1.now ≡ drop (bytes_of c.args.wide) rest = c.split_at.ensures.back ∙ ap (λ n. drop n rest) c.bytes_of-width.ensures in
    let done : is_ok c.push.result ≡ true = c.is_err.ensures.negation ∙ ap not c.if-is_err.false in
    let pushed = (c.push.ensures.items ∙ cond-true _ _ _ done) ∙ ap (λ n. before ++ n ∷ []) (to_z-of_z w64 c.first_number.result (search rules) ∙ c.first_number.ensures) in
    record {
      fits = subst (λ xs. bytes_of c.args.wide * (left - 1) ≤ length xs) (sym behind) (others_fit c.args.wide left rest c.loop-left-test.true kept.fits);
      found =
          ap (λ xs. xs ++ numbers_of c.args.format c.args.wide (left - 1) c.split_at.result.1.now) pushed
          ∙ ap (λ xs. (before ++ first_number c.args.format c.args.wide rest ∷ []) ++ numbers_of c.args.format c.args.wide (left - 1) xs) behind
          ∙ one_more c.args.format c.args.wide left rest before _ c.loop-left-test.true kept.found;
    }
