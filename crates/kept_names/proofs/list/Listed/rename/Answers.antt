use Rattle.std.proofs.Common.{◌≡◌, ℕ, List, ◌-◌, ◌<◌, ◌∙◌, sym, ap, arith, length}
use Rattle.std.proofs.lemmas.List.{length_push}
use Rattle.std.proofs.lemmas.Option.{slice_get_within}
use Rattle.indexmap.proofs.CallerLemmas.{insert_entry-new}
use Rattle.kept_names.proofs.ListLaws.{not_some, exchanged, renamed_is}
use Rattle.kept_names.proofs.list.Listed.rename.Goals as goal

pub returns-clause-renamed : goal.returns-clause-renamed
returns-clause-renamed c = λ yes.
    let es = c.self.inside.names.entries in
    let y : List ℕ × ℕ = (c.args.to, c.in-Some.serial.now) in
    let d : List ℕ × ℕ = (c.args.to, 0) in
    let put = c.in-Ok.ensures.entries ∙ insert_entry-new _ c.self.inside.names c.args.to c.in-Some.serial.now (not_some _ (sym c.contains_key.ensures ∙ c.if-contains_key.false)) in
    let lt : c.in-Some.position < length es = slice_get_within es c.in-Some.position _ c.in-Some.ensures.entry in
    let long = ap length put ∙ length_push es y in
    let at : c.len.result - 1 ≡ length es = omega (arith, c.len.ensures, long) in
    rw (← c.self.view_is)
    (exchanged es c.insert.new.self.entries c.swap_indices.new.self.entries c.pop.new.self.entries y d c.in-Some.position (c.len.result - 1) c.pop.result put c.swap_indices.ensures.entries at lt c.pop.ensures.entries c.pop.ensures.found.1
    ∙ renamed_is c.args.name.now c.args.to es c.in-Some.position _ c.in-Some.serial.now (sym c.in-Some.ensures.index) c.in-Some.ensures.entry)
