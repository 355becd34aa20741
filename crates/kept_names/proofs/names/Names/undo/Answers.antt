use Rattle.std.proofs.Common.{◌≡◌, ℕ, rules, arith, refl, sym, subst, Some, true}
use Rattle.std.specs.Prelude.{nat_lt}
use Rattle.indexmap.proofs.CallerLemmas.{filter-RetainsPairs}
use Rattle.kept_names.specs.declared.names.Kept.{Kept}
use Rattle.kept_names.specs.Kept.{NamesState, kept_at, AreKept}
use Rattle.kept_names.proofs.UndoLaws.{left_fewer, stays, was_old, undone_tied}
use Rattle.kept_names.proofs.names.Names.undo.Goals as goal

pub counted-self-inside-requires : goal.counted-self-inside-requires
counted-self-inside-requires c =
    let is = filter-RetainsPairs _ (λ e. nat_lt e.1.group c.self.inside.group) _ (λ k v b w g call. search rules) _ _ c.retain.ensures.filtered in
    let less = left_fewer c.self.inside.group c.self.inside.lists.entries c.retain.new.self.entries is in
    let count = c.self.invariant in
    omega (arith, less, count.0, count.1)

pub invariant_of-self : goal.invariant_of-self
invariant_of-self c =
    let is = filter-RetainsPairs _ (λ e. nat_lt e.1.group c.self.inside.group) _ (λ k v b w g call. search rules) _ _ c.retain.ensures.filtered in
    let less = left_fewer c.self.inside.group c.self.inside.lists.entries c.retain.new.self.entries is in
    let count = c.self.invariant in
    (c.counted-self-inside.ensures, omega (arith, less, count.0, count.1, c.counted-self-inside.ensures))

pub returns-clause-tied : goal.returns-clause-tied
returns-clause-tied c = λ now was are.
    let is = filter-RetainsPairs _ (λ e. nat_lt e.1.group c.self.inside.group) _ (λ k v b w g call. search rules) _ _ c.retain.ensures.filtered in
    let inside = subst (λ n. AreKept n now was) (sym c.self.view_is) are in
    undone_tied (record { lists = c.self.inside.lists.entries; group = c.self.inside.group }) (record { lists = c.retain.new.self.entries; group = c.self.inside.group }) now was inside refl
    (λ node k at. was_old c.self.inside.group c.self.inside.lists.entries c.retain.new.self.entries is c.retain.ensures.was_unique node k at)

pub returns-clause-kept : goal.returns-clause-kept
returns-clause-kept c =
    let is = filter-RetainsPairs _ (λ e. nat_lt e.1.group c.self.inside.group) _ (λ k v b w g call. search rules) _ _ c.retain.ensures.filtered in
    subst (λ (n : NamesState). (node : ℕ) (kept : Kept) → kept_at n node ≡ Some kept → nat_lt kept.group n.group ≡ true → kept_at (record { lists = c.retain.new.self.entries; group = c.self.inside.group }) node ≡ Some kept) c.self.view_is
    (λ node kept at less. stays c.self.inside.group c.self.inside.lists.entries c.retain.new.self.entries is c.retain.ensures.was_unique node kept at less)
