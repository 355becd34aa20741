use Rattle.std.proofs.Common.{◌∙◌, refl, ap, arith, Some}
use Rattle.kept_names.specs.Kept.{NamesState, kept_at}
use Rattle.kept_names.proofs.Ties.{put_altered}
use Rattle.kept_names.proofs.names.Names.keep.Goals as goal

pub returns-clause-kept : goal.returns-clause-kept
returns-clause-kept c = λ fits.
    let most = c.take.ensures.most in
    let same = c.make_room.ensures.kept (omega (arith, fits, most, c.len-many.ensures)) in
    put_altered c.args.node (Some c.args.list) c.args.list c.args.self.now c.make_room.new.self c.put.new.self refl (ap (λ (n : NamesState). n.group) same ∙ c.take.ensures.group)
    (λ q apart. ap (λ (n : NamesState). kept_at n q) same ∙ c.take.ensures.others q apart) c.put.ensures
