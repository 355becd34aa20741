-- The bytes behind the end of a file stay over the steps of an edit, and over edits one after another.
use Rattle.std.proofs.Common.{◌≡◌, ℕ, zero, suc, refl, ◌∙◌, arith, List, ◌∷◌, ◌++◌, length, ◌+◌, ◌<◌, ◌≤◌, le_refl, ◌⊎◌, inl, inr}
use Rattle.adf_format.specs.declared.types.Extent.{Extent}
use Rattle.adf_format.specs.Changes.{heap_fields}
use Rattle.adf_format.specs.Tree.{Tree}
use Rattle.adf_format.specs.Tiles.{cover}
use Rattle.adf_format.specs.Placement.{Placement, extent, live_extents, head_extents, all_extents}
use Rattle.adf_format.proofs.HeapSteps.{cover-append}
use Rattle.adf_model.specs.Placing.{placed_as}
use Rattle.adf_model.proofs.Creation.PartsApart.{range_in, range_out}
use Rattle.std.proofs.lemmas.Bool.Decides.{leb_tells}
use Rattle.tree_laws.specs.Holding.{Holds, ChangesIn}
use Rattle.tree_laws.specs.Groups.{tree_left}
use Rattle.tree_laws.specs.Tails.{KeepsTail, TailStays, TailsGoOn, WrittenTail, TakenTail, GivenTail, EndsRise, OneMoreTail}
use Rattle.tree_laws.proofs.Holding.Steps.{split}
use Rattle.tree_laws.proofs.Leaving.PlacedEnds.{end_rises}
use Rattle.tree_laws.proofs.Leaving.LeavingLaws.{head_byte}

pub tail_stays : TailStays
tail_stays end image = record { longer = le_refl (length image); tail = λ b past lt. refl }

pub tails_go_on : TailsGoOn
tails_go_on end farther a b c le x y = record {
  longer = (let l = x.longer in let m = y.longer in omega (arith, l, m));
  tail = λ k past lt. y.tail k past (let l = x.longer in omega (arith, l, lt)) ∙ x.tail k (omega (arith, le, past)) lt;
}

-- ranges that lie up to the end
by_ranges : (end : ℕ) (ranges : List Extent) (old new : List ℕ) → ChangesIn ranges old new → ((b : ℕ) → end < b → cover ranges b ≡ 0) → KeepsTail end old new
by_ranges end ranges old new c up = record { longer = c.longer; tail = λ b past lt. c.others b lt (up b past) }

pub written_tail : WrittenTail
written_tail ranges old new tree p taken h c inside = by_ranges p.heap.end ranges old new c (λ b past.
    let none : cover (taken ++ all_extents tree.wide p) b ≡ 0 = h.tiles.inside b past in
    let parts = split old tree p taken h b in
    decide (cover ranges b) (cover taken b + cover (live_extents tree.wide p) b) (inside b) (omega (arith, none, parts)))
  where
    decide : (n m : ℕ) → (0 < n → 0 < m) → m ≡ 0 → n ≡ 0
    decide zero m h none = refl
    decide (suc n) m h none = absurd (let k = h (omega arith) in omega (arith, k, none))

-- the fields of the heap lie in the head
fields_in_head : (b : ℕ) → 266 ≤ b → cover heap_fields b ≡ 0
fields_in_head b le =
    let one = range_out 146 12 b (inr (omega (arith, le))) in
    let two = range_out 186 80 b (inr (omega (arith, le))) in omega (arith, one, two)

-- the head lies up to the end
head_before : (image : List ℕ) (tree : Tree) (p : Placement) (taken : List Extent) → Holds image tree p taken → (b : ℕ) → p.heap.end < b → 266 ≤ b
head_before image tree p taken h b past = by_head (less_or 265 b)
  where
    less_or : (m n : ℕ) → (m < n) ⊎ (n ≤ m)
    less_or m n = elim (leb_tells n m) [ inl h ↦ inr h.1 | inr h ↦ inl h.1 ]

    by_head : (265 < b) ⊎ (b ≤ 265) → 266 ≤ b
    by_head (inl lt) = lt
    by_head (inr le) = absurd (
        let none : cover (taken ++ all_extents tree.wide p) b ≡ 0 = h.tiles.inside b past in
        let parts = split image tree p taken h b in
        let some = head_byte b le in omega (arith, none, parts, some))

pub taken_tail : TakenTail
taken_tail old new tree p taken h c = by_ranges p.heap.end (heap_fields ++ p.heap.gaps) old new c (λ b past.
    let none : cover (taken ++ all_extents tree.wide p) b ≡ 0 = h.tiles.inside b past in
    let parts = split old tree p taken h b in
    let both = cover-append heap_fields p.heap.gaps b in
    let fields = fields_in_head b (head_before old tree p taken h b past) in omega (arith, none, parts, both, fields))

pub given_tail : GivenTail
given_tail old new tree p taken kind other place n h c = by_ranges p.heap.end (heap_fields ++ extent other place n ∷ p.heap.gaps) old new c (λ b past.
    let none : cover ((extent kind place n ∷ taken) ++ all_extents tree.wide p) b ≡ 0 = h.tiles.inside b past in
    let parts = split old tree p (extent kind place n ∷ taken) h b in
    let both = cover-append heap_fields (extent other place n ∷ p.heap.gaps) b in
    let fields = fields_in_head b (head_before old tree p (extent kind place n ∷ taken) h b past) in omega (arith, none, parts, both, fields))

pub ends_rise : EndsRise
ends_rise limit tree after p q edit placed = end_rises limit tree after p q (placed_as edit) placed

pub one_more_tail : OneMoreTail
one_more_tail limit tree q r done e a b c placed x y = tails_go_on q.heap.end r.heap.end a b c (ends_rise limit (tree_left tree done) e.1 q r e.0 placed) x y
