use Rattle.std.proofs.Common.{◌/◌, ◌%◌, ◌<◌, ◌+◌, ◌≡◌, ℕ, length, arith, refl, subst, sym}
use Rattle.std.specs.Prelude.{Option, Some, None, IfSome, get_or, List}
use Rattle.cg_io.proofs.PieceLaws.{read_step, read_whole}
use Rattle.adf_data.proofs.pages.load_piece.Goals as goal

none_read : (im : Option (List ℕ)) (place : ℕ) (into : List ℕ) → IfSome im (λ bytes. (k : ℕ) → k < 0 → get_or into k 0 ≡ get_or bytes (place + k) 0)
none_read None place into = tt
none_read (Some bytes) place into = λ k lt. absurd (omega (arith, lt))

pub returns-clause-told : goal.returns-clause-told
returns-clause-told g c =
    let long : length c.overwrite.new.into ≡ length c.args.into.now = c.overwrite.auto.into in
    let same : length c.overwrite.new.into ≡ 0 + length c.args.into.now = omega (arith, long) in
    let taken = read_step (g.S.ReadBytes.image c.args.space.now) c.args.place 0 (length c.args.into.now) (c.args.place / 4096) (c.args.place % 4096) c.args.into.now c.turn_to.new.page.bytes _ c.overwrite.new.into (none_read (g.S.ReadBytes.image c.args.space.now) c.args.place c.args.into.now)
    c.in-Ok.ensures.told (omega arith) (omega arith) c.turn_to.ensures.long refl c.overwrite.ensures in
    read_whole (g.S.ReadBytes.image c.args.space.now) c.args.place c.overwrite.new.into (subst (λ n. IfSome (g.S.ReadBytes.image c.args.space.now) (λ bytes. (k : ℕ) → k < n → get_or c.overwrite.new.into k 0 ≡ get_or bytes (c.args.place + k) 0)) (sym same) taken)
