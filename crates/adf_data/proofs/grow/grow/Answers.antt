use Rattle.std.proofs.Common.{◌≡◌, ◌⊎◌, ◌≤◌, ◌<◌, ◌+◌, ◌-◌, inl, inr, length, arith, ap, sym, subst, ℕ}
use Rattle.std.proofs.lemmas.List.{length-map}
use Rattle.adf_data.specs.Chunks.{part_of, parts_of}
use Rattle.adf_data.proofs.SizeLaws.{all_gathers_grow, all_extends_grow}
use Rattle.adf_data.proofs.grow.grow.Goals as goal

pub returns-in-Ok-clause-grows : goal.returns-in-Ok-clause-grows
returns-in-Ok-clause-grows g c =
    let h = c.requires.have in let w = c.requires.was in let s = c.requires.size.0 in
    all_gathers_grow c.args.heap.now.limit c.args.table (parts_of c.args.chunks.now) c.args.old c.args.new c.in-Ok.now c.args.heap.now.work.heap c.gather.new.heap.work (g.S.ReadBytes.image c.args.space.now) (g.S.ReadBytes.image c.gather.new.space) (omega (arith, h, w)) (omega (arith, h, s))
    (subst (λ (n : ℕ). (n ≡ 0) ⊎ (64 ≤ n)) (sym (length-map c.args.chunks.now part_of)) (c.are_gathered.ensures.gathered c.if-are_gathered.true)) c.in-Ok.ensures.gathers

pub returns-in-Ok-extend-clause-grows : goal.returns-in-Ok-extend-clause-grows
returns-in-Ok-extend-clause-grows g c =
    let h = c.requires.have in let w = c.requires.was in let s = c.requires.size.0 in let l = length-map c.args.chunks.now part_of in let m = c.are_gathered.ensures.not c.if-are_gathered.false in
    all_extends_grow c.args.heap.now.limit c.args.table (parts_of c.args.chunks.now) c.args.old (c.args.new - c.args.have) c.args.new c.in-Ok-extend.now c.args.heap.now.work.heap c.extend.new.heap.work (g.S.ReadBytes.image c.args.space.now) (g.S.ReadBytes.image c.extend.new.space) (omega (arith, h, w)) (omega (arith, h, s))
    (let a = m.0 in omega (arith, l, a)) (let b = m.1 in omega (arith, l, b)) (ap (λ k. c.args.new - k) h) c.in-Ok-extend.ensures.extends

pub returns-in-Ok-clause-waits : goal.returns-in-Ok-clause-waits
returns-in-Ok-clause-waits g c =
    let w = c.in-Ok.ensures.waits in ((λ few. absurd (neither (length c.args.chunks.now) (c.are_gathered.ensures.gathered c.if-are_gathered.true) few)), omega (arith, w))
  where
    neither : (n : ℕ) → (n ≡ 0) ⊎ (64 ≤ n) → (1 ≤ n) × (n < 64) → ⊥
    neither n (inl none) few = omega (arith, none, few.0)
    neither n (inr many) few = omega (arith, many, few.1)

pub returns-in-Ok-extend-clause-waits : goal.returns-in-Ok-extend-clause-waits
returns-in-Ok-extend-clause-waits g c =
    let w = c.in-Ok-extend.ensures.waits in let h = c.requires.was in let s = c.requires.size.0 in
    let same : c.args.have - c.args.old + (c.args.new - c.args.have) ≡ c.args.new - c.args.old = omega (arith, h, s) in ((λ few. omega (arith, w, same)), omega (arith, w, same))
