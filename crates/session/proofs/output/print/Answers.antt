use Rattle.std.proofs.Common.{◌≡◌, List, ℕ, ◌+◌, ◌-◌, ◌≤◌, ◌++◌, length, take, drop, arith, subst, ap, sym, ◌∙◌}
use Rattle.std.proofs.lemmas.List.{take-append-drop, drop-take, take-take}
use Rattle.std.specs.Io.KnownBytes.{Appends}
use Rattle.std.proofs.KnownBytes.{Appends-trans}
use Rattle.session.proofs.output.print.Goals as goal

-- a front, and a front of the rest, are a front
fronts : (a n : ℕ) (xs : List ℕ) → a + n ≤ length xs → take a xs ++ take n (take (length xs - a) (drop a xs)) ≡ take (a + n) xs
fronts a n xs le =
    ap (λ (l : List ℕ). take a xs ++ l) (shorter ∙ sym (drop-take a n xs)) ∙ ap (λ (l : List ℕ). l ++ drop a (take (a + n) xs)) (sym longer) ∙ take-append-drop a (take (a + n) xs)
  where
    shorter : take n (take (length xs - a) (drop a xs)) ≡ take n (drop a xs)
    shorter = take-take n (length xs - a) (drop a xs) (omega arith)

    longer : take a (take (a + n) xs) ≡ take a xs
    longer = take-take a (a + n) xs (omega arith)

pub loop-done-preserved : goal.loop-done-preserved
loop-done-preserved g c =
    let more = c.in_ok-done.ensures.count in
    record {
      within = omega (arith, more);
      put = subst (λ (l : List ℕ). Appends (g.O.Sink.taken c.args.output.now) (g.O.Sink.taken c.put.new.self) l)
          (fronts c.loop-done.done c.in_ok-done.field-0 c.args.bytes.now (omega (arith, more)))
          (Appends-trans _ _ _ _ _ c.loop-done.invariant.put c.in_ok-done.ensures.bytes);
      later = omega (arith, c.in_ok-done.ensures.cause.later, c.loop-done.invariant.later);
    }
