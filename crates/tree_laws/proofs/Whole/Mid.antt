-- An edit on its way, step by step: what was written lies in what it may write.
use Rattle.std.proofs.Common.{◌≡◌, inl, inr, ℕ, zero, suc, refl, sym, ◌∙◌, ap, subst, arith, List, [], ◌∷◌, ◌++◌, ◌+◌, ◌-◌, ◌<◌, ◌≤◌, le_refl}
use Rattle.std.proofs.lemmas.Bool.Decides.{leb_tells}
use Rattle.std.proofs.lemmas.Option.{slice_get-get_or}
use Rattle.std.specs.Prelude.{Some}
use Rattle.adf_format.specs.declared.types.Extent.{Extent}
use Rattle.adf_format.specs.Changes.{heap_fields}
use Rattle.adf_format.specs.HeapBytes.{ChangesOnly}
use Rattle.adf_format.specs.Tree.{Tree}
use Rattle.adf_format.specs.Tiles.{cover}
use Rattle.adf_format.specs.Placement.{Placement, Heap, extent, live_extents, head_extents}
use Rattle.adf_format.specs.HeapRule.{heap_give}
use Rattle.adf_format.proofs.ReachedLaws.{still_changes, more_changes, later_changes}
use Rattle.adf_format.proofs.HeapLaws.{in_range, join_range}
use Rattle.adf_format.proofs.HeapSteps.{cover-append}
use Rattle.adf_model.specs.NodeData.{grown_range}
use Rattle.adf_model.proofs.Writes.Reaches.{less_or}
use Rattle.adf_model.proofs.Creation.PartsApart.{range_in, range_out, cover_all}
use Rattle.tree_laws.specs.Holding.{Holds, ChangesIn}
use Rattle.tree_laws.specs.Gifts.{Gives, GivesEach}
use Rattle.tree_laws.specs.MidEdit.{IsMidEdit, room, MidBegins, MidGoesOn, MidTakes, MidWrites, MidSwitches, MidGives, GivesOnly, GivesAll}
use Rattle.tree_laws.proofs.Holding.Steps.{from_layout}
use Rattle.tree_laws.proofs.Holding.HeapCalls.{took}
use Rattle.tree_laws.proofs.Holding.TakenWritten.{taken_written}
use Rattle.tree_laws.proofs.Holding.GiftsFolded.{given_one}

-- bytes that are there are as they are read
pub in_old : (ranges : List Extent) (old new : List ℕ) → ChangesOnly ranges old new → ChangesIn ranges old new
in_old ranges old new c = record {
  longer = c.longer;
  others = λ b lt none. slice_get-get_or new b 0 (let x = c.longer in omega (arith, lt, x)) ∙ ap Some (c.others b none) ∙ sym (slice_get-get_or old b 0 lt);
}

-- what may be written does not shrink as the end rises
room_grows : (ranges : List Extent) (x y z : Heap) → x.end ≤ y.end → y.end ≤ z.end → (k : ℕ) → cover (room ranges x z) k ≡ cover (room ranges x y) k + cover (grown_range y z ∷ []) k
room_grows ranges x y z one two k =
    let a = cover-append x.gaps (grown_range x z ∷ ranges) k in
    let b = cover-append x.gaps (grown_range x y ∷ ranges) k in
    let row : in_range (x.end + 1) (z.end - x.end) k ≡ in_range (x.end + 1) (y.end - x.end) k + in_range (y.end + 1) (z.end - y.end) k =
    ap (λ n. in_range (x.end + 1) n k) (omega (arith, one, two))
    ∙ join_range (x.end + 1) (y.end - x.end) (z.end - y.end) k
    ∙ ap (λ n. in_range (x.end + 1) (y.end - x.end) k + in_range n (z.end - y.end) k) (omega (arith, one)) in
    omega (arith, a, b, row)

ranges_in_room : (ranges : List Extent) (x y : Heap) (k : ℕ) → cover ranges k ≤ cover (room ranges x y) k
ranges_in_room ranges x y k = let a = cover-append x.gaps (grown_range x y ∷ ranges) k in omega (arith, a)

pub mid_begins : MidBegins
mid_begins ranges tree p image l = record {
  holds = from_layout image tree p l;
  changes = still_changes (heap_fields ++ room ranges p.heap p.heap) image;
  within = λ b some. let a = cover-append p.heap.gaps (grown_range p.heap p.heap ∷ ranges) b in omega (arith, a, some);
  grows = le_refl p.heap.end;
}

pub mid_goes_on : MidGoesOn
mid_goes_on ranges p old now after q r taken kept b c written u held rise changes inside owned = record {
  holds = held;
  changes = later_changes (heap_fields ++ room ranges p.heap r.heap) old b c
      (more_changes (heap_fields ++ room ranges p.heap q.heap) (heap_fields ++ room ranges p.heap r.heap) old b (λ k none.
      let s = cover-append heap_fields (room ranges p.heap r.heap) k in
      let t = cover-append heap_fields (room ranges p.heap q.heap) k in
      let grown = room_grows ranges p.heap q.heap r.heap u.grows rise k in omega (arith, s, t, none, grown)) u.changes)
      (more_changes (heap_fields ++ written) (heap_fields ++ room ranges p.heap r.heap) b c (λ k none.
      let s = cover-append heap_fields (room ranges p.heap r.heap) k in
      let w = cover-append heap_fields written k in
      let clear : cover written k ≡ 0 = no_more (cover written k) (λ some. let i = in_room k (inside k some) in absurd (omega (arith, i, s, none))) in
      omega (arith, w, s, none, clear)) changes);
  within = λ k some. by_owner k (owned k some);
  grows = (let g = u.grows in omega (arith, g, rise));
}
  where
    no_more : (n : ℕ) → (0 < n → ⊥) → n ≡ 0
    no_more zero h = refl
    no_more (suc n) h = absurd (h (omega arith))

    in_room : (k : ℕ) → 0 < cover ((taken ++ q.heap.gaps) ++ ranges) k → 0 < cover (room ranges p.heap r.heap) k
    in_room k some =
        let s = cover-append (taken ++ q.heap.gaps) ranges k in
        let grown = room_grows ranges p.heap q.heap r.heap u.grows rise k in
        let mine = ranges_in_room ranges p.heap r.heap k in
        elim (less_or 0 (cover ranges k)) [
          | inl own ↦ omega (arith, own, mine)
          | inr none ↦ (let w = u.within k (omega (arith, s, some, none)) in omega (arith, w, grown))
        ]

    by_owner : (k : ℕ) → 0 < cover ((taken ++ q.heap.gaps) ++ grown_range q.heap r.heap ∷ ranges) k → 0 < cover (room ranges p.heap r.heap) k
    by_owner k some =
        let s = cover-append (taken ++ q.heap.gaps) (grown_range q.heap r.heap ∷ ranges) k in
        let t = cover-append (taken ++ q.heap.gaps) ranges k in
        let grown = room_grows ranges p.heap q.heap r.heap u.grows rise k in
        elim (less_or 0 (cover (grown_range q.heap r.heap ∷ []) k)) [
          | inl more ↦ omega (arith, more, grown)
          | inr none ↦ in_room k (omega (arith, s, t, some, none))
        ]

-- what is taken and what is a gap, over a move of the heap: the bytes before, and those by which the end grew
module _ (b c : List ℕ) (now : Tree) (q r : Placement) (taken kept : List Extent) (h : Holds b now q taken) (held : Holds c now r kept) (same : r.parts ≡ q.parts) (rise : q.heap.end ≤ r.heap.end) where
  in_both : (k : ℕ) → cover (kept ++ r.heap.gaps) k ≡ cover (taken ++ q.heap.gaps) k + cover (grown_range q.heap r.heap ∷ []) k
  in_both k =
      let x = cover-append taken (head_extents ++ live_extents now.wide q ++ q.heap.gaps) k in
      let y = cover-append kept (head_extents ++ live_extents now.wide r ++ r.heap.gaps) k in
      let s = cover_all now.wide q k in
      let t = cover_all now.wide r k in
      let m = cover-append taken q.heap.gaps k in
      let n = cover-append kept r.heap.gaps k in
      let live : cover (live_extents now.wide r) k ≡ cover (live_extents now.wide q) k = ap (λ xs. cover (live_extents now.wide (record { parts = xs; heap = q.heap })) k) same in
      elim (leb_tells k q.heap.end) [
        | inl up ↦ (
            let one = h.tiles.once k up.1 in
            let two = held.tiles.once k (let u = up.1 in omega (arith, u, rise)) in
            let none = range_out (q.heap.end + 1) (r.heap.end - q.heap.end) k (inl (let u = up.1 in omega (arith, u))) in
            omega (arith, x, y, s, t, m, n, live, one, two, none))
        | inr past ↦ elim (leb_tells k r.heap.end) [
          | inl up ↦ (
              let one = h.tiles.inside k past.1 in
              let two = held.tiles.once k up.1 in
              let grown = range_in (q.heap.end + 1) (r.heap.end - q.heap.end) k (let l = past.1 in omega (arith, l)) (let l = up.1 in omega (arith, l, rise)) in
              omega (arith, x, y, s, t, m, n, live, one, two, grown))
          | inr far ↦ (
              let one = h.tiles.inside k past.1 in
              let two = held.tiles.inside k far.1 in
              let none = range_out (q.heap.end + 1) (r.heap.end - q.heap.end) k (inr (let l = far.1 in omega (arith, l, rise))) in
              omega (arith, x, y, s, t, m, n, live, one, two, none))
        ]
      ]

  pub owned_by : (ranges : List Extent) (k : ℕ) → 0 < cover (kept ++ r.heap.gaps) k → 0 < cover ((taken ++ q.heap.gaps) ++ grown_range q.heap r.heap ∷ ranges) k
  owned_by ranges k some =
      let e = in_both k in
      let s = cover-append (taken ++ q.heap.gaps) (grown_range q.heap r.heap ∷ ranges) k in
      omega (arith, e, s, some)

pub mid_takes : MidTakes
mid_takes ranges p old now q taken b c heap kind place n u changes tiles order end z threads rise =
    let held = took b c now q heap taken u.holds kind place n (in_old (heap_fields ++ q.heap.gaps) b c changes) tiles order end z threads in
    mid_goes_on ranges p old now now q (record q { heap = heap }) taken (extent kind place n ∷ taken) b c q.heap.gaps u held rise changes
    (λ k some. let s = cover-append taken q.heap.gaps k in let t = cover-append (taken ++ q.heap.gaps) ranges k in omega (arith, s, t, some))
    (owned_by b c now q (record q { heap = heap }) taken (extent kind place n ∷ taken) u.holds held refl rise ranges)

-- a step that leaves the heap's fields
beside_fields : (written : List Extent) (b c : List ℕ) → ChangesOnly written b c → ChangesOnly (heap_fields ++ written) b c
beside_fields written b c x = more_changes written (heap_fields ++ written) b c (λ k none. let s = cover-append heap_fields written k in omega (arith, s, none)) x

pub mid_switches : MidSwitches
mid_switches ranges p old now after q r taken kept written b c u held heap changes inside owned =
    mid_goes_on ranges p old now after q r taken kept b c written u held (let e = ap (λ (h : Heap). h.end) heap in omega (arith, e)) (beside_fields written b c changes)
    (λ k some.
    let i = inside k some in
    let s = cover-append taken q.heap.gaps k in
    let t = cover-append (taken ++ q.heap.gaps) ranges k in
    let v = cover-append taken ranges k in omega (arith, i, s, t, v))
    (λ k some.
    let s = cover-append taken q.heap.gaps k in
    let t = cover-append (taken ++ q.heap.gaps) (grown_range q.heap r.heap ∷ ranges) k in
    let v = cover-append taken ranges k in
    let x = cover-append kept r.heap.gaps k in
    let same : cover r.heap.gaps k ≡ cover q.heap.gaps k = ap (λ (h : Heap). cover h.gaps k) heap in
    elim (less_or 0 (cover kept k)) [
      | inl of_kept ↦ (let o = owned k of_kept in omega (arith, o, s, t, v))
      | inr none ↦ omega (arith, x, same, some, none, s, t)
    ])

pub mid_writes : MidWrites
mid_writes ranges p old now q taken written b c u changes inside =
    mid_switches ranges p old now now q q taken taken written b c u (taken_written written b c now q taken u.holds (in_old written b c changes) inside) refl changes
    (λ k some. let i = inside k some in let v = cover-append taken ranges k in omega (arith, i, v))
    (λ k some. let v = cover-append taken ranges k in omega (arith, some, v))

-- ---- gifts

gives_in : (e : Extent) (heap : Heap) (old new : List ℕ) → GivesOnly e heap old new → Gives e heap old new
gives_in e heap old new g = record { changes = in_old (heap_fields ++ e ∷ heap.gaps) old new g.changes; end = g.end; fillers = g.fillers; threads = g.threads }

pub gives_each : (given : List Extent) (heap : Heap) (old new : List ℕ) → GivesAll given heap old new → GivesEach given heap old new
gives_each [] heap old new g = g
gives_each (e ∷ es) heap old new g = (g.0, gives_in e heap old g.0 g.1, gives_each es (heap_give e.place e.length heap) g.0 new g.2)

pub mid_gives : MidGives
mid_gives ranges p old now q [] taken b c some u g = subst (IsMidEdit ranges p old now q taken) (sym g) u
mid_gives ranges p old now q (e ∷ es) taken b c some u g =
    mid_gives ranges p old now (record q { heap = heap_give e.place e.length q.heap }) es taken g.0 c some.1 next g.2
  where
    held : Holds g.0 now (record q { heap = heap_give e.place e.length q.heap }) (es ++ taken)
    held = given_one e b g.0 now q (es ++ taken) some.0 u.holds (gives_in e q.heap b g.0 g.1)

    next : IsMidEdit ranges p old now (record q { heap = heap_give e.place e.length q.heap }) (es ++ taken) g.0
    next = mid_goes_on ranges p old now now q (record q { heap = heap_give e.place e.length q.heap }) (e ∷ es ++ taken) (es ++ taken) b g.0 (e ∷ q.heap.gaps) u held (le_refl q.heap.end) (let x = g.1 in x.changes)
        (λ k one.
        let s = cover-append (e ∷ es ++ taken) q.heap.gaps k in
        let t = cover-append ((e ∷ es ++ taken) ++ q.heap.gaps) ranges k in omega (arith, one, s, t))
        (owned_by b g.0 now q (record q { heap = heap_give e.place e.length q.heap }) (e ∷ es ++ taken) (es ++ taken) u.holds held refl (le_refl q.heap.end) ranges)
