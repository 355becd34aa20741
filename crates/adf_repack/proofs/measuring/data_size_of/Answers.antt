use Rattle.std.proofs.Common.{◌∙◌, ap, sym, ℕ, List, Bool, Option, None, Some, take}
use Rattle.std.specs.Prelude.{cond}
use Rattle.std.proofs.lemmas.Bool.{ne_eqb}
use Rattle.adf_format.specs.Names.{data_size}
use Rattle.adf_records.specs.View.{record_of}
use Rattle.adf_repack.specs.Copies.{numbers_in}
use Rattle.adf_repack.specs.Places.{limited}
use Rattle.adf_repack.proofs.CopyLaws.{numbers_are}
use Rattle.adf_repack.proofs.measuring.data_size_of.Goals as goal

pub returns-else-header-eq0 : goal.returns-else-header-eq0
returns-else-header-eq0 c =
    let h = c.args.header.now in
    ap Some (c.size_of_data.ensures ∙ ap (λ (l : List ℕ). limited (data_size h.kind (take h.rank l))) (numbers_are h))
    ∙ sym (ap (λ (b : Bool). cond {A = Option ℕ} b None (Some (limited (data_size h.kind (take h.rank (numbers_in (record_of h))))))) (ne_eqb h.chunks 0 c.if-header-eq0.false))
