-- A walk, step by step, in bytes that may be told.
use Rattle.std.proofs.Common.{◌≡◌, ℕ, zero, suc, refl, sym, ◌∙◌, ap, subst, arith, List, [], ◌∷◌, ◌++◌, length, length-append, take, get_or, ◌+◌, ◌<◌, ◌≤◌, true, Option, None, Some}
use Rattle.std.proofs.lemmas.List.{take_more, take_all, take-append-le}
use Rattle.std.proofs.lemmas.List.Concat.{flat_map-append}
use Rattle.std.proofs.lemmas.List.Elements.{All-nil, All-push}
use Rattle.std.proofs.lemmas.List.Sorted.{All-permutation, IsPermutation-map}
use Rattle.std.specs.Prelude.{is_some}
use Rattle.std.specs.List.{flat_map}
use Rattle.std.specs.List.Sorted.{IsPermutation, IsNonDecreasing, IsNonDecreasingBy}
use Rattle.adf_format.specs.Tree.{Tree, children_at, is_live}
use Rattle.adf_format.specs.Placement.{Placement}
use Rattle.adf_model.proofs.Creation.CreatedNodes.{there_inside}
use Rattle.adf_model.proofs.Trees.TreeOrder.{times}
use Rattle.tree_asks.specs.Told.{OfEach}
use Rattle.tree_edits.specs.declared.memory.Core.{Core}
use Rattle.tree_edits.specs.Rows.{Means, row_of}
use Rattle.tree_edits.specs.Edits.{memory_of}
use Rattle.tree_edits.proofs.Nodes.{its_row}
use Rattle.tree_edits.proofs.Tables.{there}
use Rattle.tree_deletes.specs.declared.doomed.Doomed.{Doomed}
use Rattle.tree_deletes.specs.Doomed.{IsDoomed, IsWalk, IsSubtree, MeansNone}
use Rattle.tree_deletes.specs.Erased.{serials_of}
use Rattle.tree_deletes.proofs.Walked.{few, walk_is_subtree}

-- a row's node is live
live_row : (image : List ℕ) (core : Core) (s : ℕ) → is_some (row_of core.rows.items s) ≡ true → (tree : Tree) (p : Placement) → Means image tree p (memory_of core) → is_live tree s ≡ true
live_row image core s some tree p m = let r = there (row_of core.rows.items s) some in let h = its_row image (memory_of core) s r.0 r.1 tree p m in h.live

map_append : (xs ys : List Doomed) → serials_of (xs ++ ys) ≡ serials_of xs ++ serials_of ys
map_append [] ys = refl
map_append (x ∷ xs) ys = ap (λ zs. x.serial ∷ zs) (map_append xs ys)

part_times : (q n : ℕ) (xs : List ℕ) → times q (take n xs) ≤ times q xs
part_times q zero xs = omega arith
part_times q (suc n) [] = omega arith
part_times q (suc n) (x ∷ xs) = let ih = part_times q n xs in omega (arith, ih)

pub walk_starts : (core : Core) (held : Option (List ℕ)) (top : ℕ) → OfEach core held (λ image tree p. IsWalk image tree p top (top ∷ []) [])
walk_starts core None top = tt
walk_starts core (Some image) top = λ tree p m. record { reached = refl; visited = refl; each = All-nil (IsDoomed image tree p) }

pub walk_begins : (core : Core) (held : Option (List ℕ)) (top : ℕ) (found : List ℕ) (nodes : List Doomed) → found ≡ top ∷ [] → nodes ≡ [] → OfEach core held (λ image tree p. IsWalk image tree p top found nodes)
walk_begins core held top found nodes e f = subst (λ ds. OfEach core held (λ image tree p. IsWalk image tree p top found ds)) (sym f) (subst (λ xs. OfEach core held (λ image tree p. IsWalk image tree p top xs [])) (sym e) (walk_starts core held top))

-- a row that is there has a serial that was drawn
pub row_drawn : (core : Core) (s : ℕ) → is_some (row_of core.rows.items s) ≡ true → s < length core.rows.items
row_drawn core s some = let r = there (row_of core.rows.items s) some in there_inside core.rows.items s r.0 r.1

module _ (image : List ℕ) (tree : Tree) (p : Placement) (top : ℕ) (found : List ℕ) (nodes : List Doomed) (w : IsWalk image tree p top found nodes) (s : ℕ) (lt : length nodes < length found) (at : s ≡ get_or found (length nodes) 0) where
  -- the walk with the children of one node more
  abbrev more : List ℕ
  more = found ++ children_at tree s

  found_more : (ds : List ℕ) → ds ≡ serials_of nodes ++ s ∷ [] → more ≡ top ∷ flat_map (children_at tree) ds
  found_more ds e =
      ap (λ xs. xs ++ children_at tree s) w.reached
      ∙ ap (λ ys. top ∷ (flat_map (children_at tree) (serials_of nodes) ++ ys)) (sym (append_none (children_at tree s)))
      ∙ ap (λ ys. top ∷ ys) (sym (flat_map-append (children_at tree) (serials_of nodes) (s ∷ [])))
      ∙ ap (λ xs. top ∷ flat_map (children_at tree) xs) (sym e)
    where
      append_none : (xs : List ℕ) → xs ++ [] ≡ xs
      append_none [] = refl
      append_none (x ∷ xs) = ap (λ ys. x ∷ ys) (append_none xs)

  visited_more : serials_of nodes ++ s ∷ [] ≡ take (length nodes + 1) found
  visited_more = ap (λ xs. xs ++ s ∷ []) w.visited ∙ ap (λ y. take (length nodes) found ++ y ∷ []) at ∙ sym (take_more found (length nodes) 0 lt)

  in_more : take (length nodes + 1) more ≡ serials_of nodes ++ s ∷ []
  in_more = take-append-le (length nodes + 1) found (children_at tree s) (omega (arith, lt)) ∙ sym visited_more

  walk_more : (d : Doomed) (new : List ℕ) → d.serial ≡ s → IsDoomed image tree p d → new ≡ more → IsWalk image tree p top new (nodes ++ d ∷ [])
  walk_more d new same is e =
      let serials : serials_of (nodes ++ d ∷ []) ≡ serials_of nodes ++ s ∷ [] = map_append nodes (d ∷ []) ∙ ap (λ k. serials_of nodes ++ k ∷ []) same in
      let long : length (nodes ++ d ∷ []) ≡ length nodes + 1 = length-append nodes (d ∷ []) in
      record {
        reached = e ∙ found_more (serials_of (nodes ++ d ∷ [])) serials;
        visited = serials ∙ sym in_more ∙ ap (λ k. take k more) (sym long) ∙ ap (take (length (nodes ++ d ∷ []))) (sym e);
        each = All-push (IsDoomed image tree p) nodes d w.each is;
      }

  -- there is room for its children
  room : (core : Core) → is_live tree top ≡ true → Means image tree p (memory_of core) → length found + length (children_at tree s) ≤ length core.rows.items
  room core live m =
      let le = few tree m.laid_out.is_tree top live more (take (length nodes + 1) more) (found_more (take (length nodes + 1) more) in_more) (λ q. part_times q (length nodes + 1) more) in
      let long = length-append found (children_at tree s) in
      let count = m.table.count in omega (arith, le, long, count)

module _ (core : Core) (top : ℕ) (found : List ℕ) (nodes : List Doomed) (s : ℕ) (lt : length nodes < length found) (at : s ≡ get_or found (length nodes) 0) where
  pub walk_goes_on : (held : Option (List ℕ)) (d : Doomed) (new : List ℕ) → OfEach core held (λ image tree p. IsWalk image tree p top found nodes) → d.serial ≡ s → OfEach core held (λ image tree p. IsDoomed image tree p d) → OfEach core held (λ image tree p. new ≡ found ++ children_at tree s)
      → OfEach core held (λ image tree p. IsWalk image tree p top new (nodes ++ d ∷ []))
  walk_goes_on None d new w same is e = tt
  walk_goes_on (Some image) d new w same is e = λ tree p m. walk_more image tree p top found nodes (w tree p m) s lt at d new same (is tree p m) (e tree p m)

  pub walk_has_room : (held : Option (List ℕ)) → is_some (row_of core.rows.items top) ≡ true → OfEach core held (λ image tree p. IsWalk image tree p top found nodes) → OfEach core held (λ image tree p. length core.rows.items < length found + length (children_at tree s)) → MeansNone core held
  walk_has_room None live w over = tt
  walk_has_room (Some image) live w over = λ tree p m. let r = room image tree p top found nodes (w tree p m) s lt at core (live_row image core top live tree p m) m in let o = over tree p m in omega (arith, r, o)

-- ---- at its end

ended : (image : List ℕ) (tree : Tree) (p : Placement) (top : ℕ) (found : List ℕ) (nodes : List Doomed) → IsWalk image tree p top found nodes → length nodes ≡ length found → serials_of nodes ≡ top ∷ flat_map (children_at tree) (serials_of nodes)
ended image tree p top found nodes w long = w.visited ∙ take_all (length nodes) found (omega (arith, long)) ∙ w.reached

pub walk_sorted : (core : Core) (held : Option (List ℕ)) (top : ℕ) (nodes sorted : List Doomed) → is_some (row_of core.rows.items top) ≡ true
    → OfEach core held (λ image tree p. (found : List ℕ) × IsWalk image tree p top found nodes × (length nodes ≡ length found)) → IsPermutation nodes sorted → IsNonDecreasingBy (λ (d : Doomed). d.serial) sorted → IsSubtree core held top sorted
walk_sorted core None top nodes sorted live w perm up = tt
walk_sorted core (Some image) top nodes sorted live w perm up = λ tree p m.
    let x = w tree p m in
    record {
      serials = walk_is_subtree tree m.laid_out.is_tree top (live_row image core top live tree p m) (serials_of nodes) (ended image tree p top x.0 nodes x.1 x.2) (serials_of sorted)
          (IsPermutation-map (λ (d : Doomed). d.serial) nodes sorted perm) (rising sorted up);
      each = All-permutation (IsDoomed image tree p) nodes sorted perm x.1.each;
    }
  where
    serial_at : (ds : List Doomed) (i : ℕ) (k : ℕ) (e : Doomed) → i < length ds → get_or (serials_of ds) i k ≡ (get_or ds i e).serial
    serial_at [] i k e lt = absurd (omega (arith, lt))
    serial_at (d ∷ ds) zero k e lt = refl
    serial_at (d ∷ ds) (suc i) k e lt = serial_at ds i k e (omega (arith, lt))

    long : (ds : List Doomed) → length (serials_of ds) ≡ length ds
    long [] = refl
    long (d ∷ ds) = ap (λ n. suc n) (long ds)

    some : (ds : List Doomed) (i : ℕ) → i < length ds → Doomed
    some [] i lt = absurd (omega (arith, lt))
    some (d ∷ ds) i lt = d

    rising : (ds : List Doomed) → IsNonDecreasingBy (λ (d : Doomed). d.serial) ds → IsNonDecreasing (serials_of ds)
    rising ds up i j d le lt =
        let n = long ds in
        let below : j < length ds = omega (arith, lt, n) in
        let e = some ds j below in
        subst (λ k. k ≤ get_or (serials_of ds) j d) (sym (serial_at ds i d e (omega (arith, le, below)))) (subst (λ k. (get_or ds i e).serial ≤ k) (sym (serial_at ds j d e below)) (up i j e le below))

pub walk_whole : (core : Core) (held : Option (List ℕ)) (top : ℕ) (found : List ℕ) (nodes : List Doomed) → OfEach core held (λ image tree p. IsWalk image tree p top found nodes) → length nodes ≡ length found
    → OfEach core held (λ image tree p. (xs : List ℕ) × IsWalk image tree p top xs nodes × (length nodes ≡ length xs))
walk_whole core None top found nodes w long = tt
walk_whole core (Some image) top found nodes w long = λ tree p m. (found, w tree p m, long)

-- the number at an index, whatever stands for one that is not there
pub index_at : (xs : List ℕ) (k n s : ℕ) → s ≡ get_or xs k s → k ≡ n → n < length xs → s ≡ get_or xs n 0
index_at xs k n s at same lt = at ∙ ap (λ j. get_or xs j s) same ∙ any xs n s 0 lt
  where
    any : (xs : List ℕ) (n d e : ℕ) → n < length xs → get_or xs n d ≡ get_or xs n e
    any [] n d e lt = absurd (omega (arith, lt))
    any (x ∷ xs) zero d e lt = refl
    any (x ∷ xs) (suc n) d e lt = any xs n d e (omega (arith, lt))

pub one_more : (nodes new : List Doomed) (d : Doomed) (found all rest : List ℕ) → length nodes < length found → new ≡ nodes ++ d ∷ [] → all ≡ found ++ rest → length new ≤ length all
one_more nodes new d found all rest lt e f =
    let a = ap length e in let b = length-append nodes (d ∷ []) in let x = ap length f in let y = length-append found rest in omega (arith, lt, a, b, x, y)
