-- One more gap among gaps in order of place.
use Rattle.std.proofs.Common.{◌≡◌, ℕ, zero, suc, refl, ap, arith, List, [], ◌∷◌, ◌<◌, ◌≤◌, true, false}
use Rattle.std.specs.Prelude.{insert, nat_lt}
use Rattle.std.proofs.lemmas.Bool.Decides.{nat_tests}
use Rattle.adf_format.specs.declared.types.Extent.{Extent}
use Rattle.file_heap.specs.Gaps.{CountsBefore, put_by_place}

pub is_put : (gap : Extent) (i : ℕ) (gaps : List Extent) → CountsBefore gap.place gaps i → insert gaps i gap ≡ put_by_place gap gaps
is_put gap zero [] c = refl
is_put gap zero (g ∷ gs) c =
    let le : gap.place ≤ g.place = c.behind (omega arith) in let off : nat_lt g.place gap.place ≡ false = grind (arith, nat_tests) in rw off
is_put gap (suc i) [] c = absurd (let w = c.within in omega (arith, w))
is_put gap (suc i) (g ∷ gs) c =
    let lt : g.place < gap.place = c.before 0 (omega arith) in
    let on : nat_lt g.place gap.place ≡ true = grind (arith, nat_tests) in
    rw on (ap (λ xs. g ∷ xs) (is_put gap i gs (record { within = (let w = c.within in omega (arith, w)); before = λ j l. c.before (suc j) (omega (arith, l)); behind = λ l. c.behind (omega (arith, l)) })))
