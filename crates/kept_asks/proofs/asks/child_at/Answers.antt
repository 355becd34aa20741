use Rattle.std.proofs.Common.{◌∙◌, List, ap, sym, subst, ℕ}
use Rattle.std.specs.Prelude.{Ok, Option, option_copied}
use Rattle.adf_format.specs.Tree.{child_named}
use Rattle.kept_names.specs.Lists.{serial_of}
use Rattle.tree_asks.specs.Told.{Tells}
use Rattle.kept_asks.proofs.Replies.{child_told}
use Rattle.kept_asks.proofs.asks.child_at.Goals as goal

pub returns-in-Some-clause-told : goal.returns-in-Some-clause-told
returns-in-Some-clause-told g c =
    let core = c.args.core.now in
    let held = g.R.ReadBytes.image c.args.bytes.now in
    let list = c.in-Some.list.now in
    subst (λ (o : Option ℕ). Tells core held (λ tree. Ok (child_named tree c.args.parent c.args.name.now)) (Ok o))
    (sym (c.find.ensures ∙ ap (λ (f : List ℕ). serial_of f list) c.name_field.ensures))
    (child_told core held c.args.names.now c.requires.names c.args.parent c.args.name.now list (sym c.is_name.ensures ∙ c.if-is_name.true) (sym c.list.ensures ∙ ap option_copied c.in-Some.is))
