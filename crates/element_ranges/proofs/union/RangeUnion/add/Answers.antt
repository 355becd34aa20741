use Rattle.std.proofs.Common.{◌≡◌, ◌∙◌, sym, ap, subst, arith, ℕ, ◌++◌, ◌∷◌, List, take, drop}
use Rattle.std.specs.Prelude.{◌||◌}
use Rattle.std.specs.List.{list_any}
use Rattle.std.proofs.lemmas.List.{take-append-drop}
use Rattle.element_ranges.specs.declared.union.Span.{Span}
use Rattle.element_ranges.specs.Ranges.{touches, IsRising}
use Rattle.element_ranges.proofs.RangeLaws.{parts_of, Made, made_is, by_result, on_ok}
use Rattle.element_ranges.proofs.union.RangeUnion.add.Goals as goal

pub count_begun-begun-requires : goal.count_begun-begun-requires
count_begun-begun-requires c =
    let items = c.self.inside.ranges.items in
    let ended = c.count_ended-ended.result in
    let front = c.split_at.ensures.front ∙ ap (take ended) c.as_slice-2.ensures.value in
    subst IsRising (sym front) (parts_of (take ended items) (drop ended items) (subst IsRising (sym (take-append-drop ended items)) c.self.invariant)).front

put_is : (c : goal.After-put_between) → Made c.args.range c.self.inside.ranges.items (take c.count_begun-begun.result c.self.inside.ranges.items ++ c.args.range ∷ drop c.count_ended-ended.result c.self.inside.ranges.items)
put_is c =
    let ended = c.count_ended-ended.result in
    made_is c.args.range c.self.inside.ranges.items c.as_slice.result.now c.split_at.result.0.now c.split_at.result.1.now ended c.count_begun-begun.result c.self.invariant
    c.as_slice.ensures.value
    (c.split_at.ensures.front ∙ ap (take ended) (c.as_slice-2.ensures.value ∙ sym c.as_slice.ensures.value))
    (c.split_at.ensures.back ∙ ap (drop ended) (c.as_slice-2.ensures.value ∙ sym c.as_slice.ensures.value))
    (omega (arith, c.count_begun-begun.ensures.few, c.split_at.ensures.front_len))
    c.count_ended-ended.ensures.front c.count_ended-ended.ensures.back c.count_begun-begun.ensures.front c.count_begun-begun.ensures.back
    (sym c.begins_by.ensures ∙ c.if-begins_by.false)

pub invariant_of-self : goal.invariant_of-self
invariant_of-self c = by_result IsRising c.put_between.result _ _ _ c.put_between.ensures.put c.put_between.ensures.kept (put_is c).rises c.self.invariant

pub returns : goal.returns
returns c =
    let was : c.args.self.now ≡ c.self.inside.ranges.items = sym c.self.view_is in
    record {
      meets = on_ok (λ (xs : List Span). (a b : ℕ) → list_any (touches a b) xs ≡ (touches a b c.args.range || list_any (touches a b) c.args.self.now)) c.put_between.result _ _ c.put_between.ensures.put
          (λ a b. (put_is c).meets a b ∙ ap (λ (xs : List Span). touches a b c.args.range || list_any (touches a b) xs) (sym was));
    }
