-- Free chunks, fillers and bounds of the gaps after a cut and after a gift.
use Rattle.std.proofs.Common.{add_assoc, add-one, ◌≡◌, ◌⊎◌, inl, inr, ℕ, zero, suc, refl, sym, ◌∙◌, ap, arith, List, [], ◌∷◌, ◌++◌, length, take, drop, filter, ◌+◌, ◌-◌, ◌<◌, ◌≤◌, ◌^◌, Bool, true, false, cond}
use Rattle.std.proofs.lemmas.Bool.Decides.{nat_tests, leb_tells}
use Rattle.std.specs.Prelude.{IsTrue, remove, ◌==◌, ◌&&◌, nat_lt, nat_le}
use Rattle.std.specs.List.{AllByRecursion}
use Rattle.adf_format.specs.declared.types.Extent.{Extent}
use Rattle.adf_format.specs.declared.types.ExtentKind.{ExtentKind}
use Rattle.adf_format.specs.Tiles.{cover, end_of, holds_byte, is_free, is_filler, is_free_kind, is_filler_kind}
use Rattle.adf_format.specs.Placement.{Heap, extent}
use Rattle.adf_format.specs.LaysOut.{AreGapsInOrder, StandsBefore, count_of}
use Rattle.adf_format.specs.HeapRule.{new_gap, before_gaps, rest_of, cut}
use Rattle.adf_format.proofs.HeapLaws.{in_range}
use Rattle.adf_format.proofs.CountLaws.{none_holds}
use Rattle.adf_format.proofs.HeapSteps.{cover-append}
use Rattle.file_heap.specs.Gaps.{IsFirstFit, AllEndBy, gap_at, put_by_place}
use Rattle.file_heap.specs.Heap.{IsHeap}
use Rattle.file_heap.specs.Links.{AreApart, AreGaps}
use Rattle.file_heap.proofs.Ranges.{count-append, filter-append}

-- ---- gaps in order

none_before : (g : Extent) (gs : List Extent) (b : ℕ) → StandsBefore g gs → AreGapsInOrder gs → b < end_of g → cover gs b ≡ 0
none_before g [] b s o lt = refl
none_before g (h ∷ hs) b s o lt =
    let le : end_of g ≤ h.place = s.0 in
    let off : holds_byte h b ≡ false = before h.place h.length b (omega (arith, lt, le)) in
    let rest : cover hs b ≡ 0 = none_before h hs b o.1 o.2 (omega (arith, lt, le)) in rw (off, rest)
  where
    before : (p n b : ℕ) → b < p → holds_byte (extent ExtentKind.Filler p n) b ≡ false
    before p n b lt = grind (arith, nat_tests)

pub once : (gaps : List Extent) (b : ℕ) → AreGapsInOrder gaps → cover gaps b ≤ 1
once [] b o = omega arith
once (g ∷ gs) b o = by_test (once gs b o.2) (holds_byte g b) refl
  where
    held : holds_byte g b ≡ true → b < end_of g
    held e = grind (arith, nat_tests)

    by_test : cover gs b ≤ 1 → (t : Bool) → holds_byte g b ≡ t → cond t 1 0 + cover gs b ≤ 1
    by_test rest true e = let z : cover gs b ≡ 0 = none_before g gs b o.1 o.2 (held e) in omega (arith, z)
    by_test rest false e = omega (arith, rest)

below : (n : ℕ) (gaps : List Extent) (b : ℕ) → AllByRecursion (λ (g : Extent). (266 ≤ g.place) × (end_of g ≤ n)) gaps → b < 266 → cover gaps b ≡ 0
below n [] b w lt = refl
below n (g ∷ gs) b w lt =
    let le : 266 ≤ g.place = w.0.0 in let off : in_range g.place g.length b ≡ 0 = before g.place g.length b (omega (arith, lt, le)) in let rest : cover gs b ≡ 0 = below n gs b w.1 lt in omega (arith, off, rest)
  where
    before : (p n b : ℕ) → b < p → in_range p n b ≡ 0
    before p n b lt = grind (arith, nat_tests)

above : (n : ℕ) (gaps : List Extent) (b : ℕ) → AllByRecursion (λ (g : Extent). (266 ≤ g.place) × (end_of g ≤ n)) gaps → n ≤ b → cover gaps b ≡ 0
above n [] b w le = refl
above n (g ∷ gs) b w le =
    let last : end_of g ≤ n = w.0.1 in let off : in_range g.place g.length b ≡ 0 = behind g.place g.length b (omega (arith, le, last)) in let rest : cover gs b ≡ 0 = above n gs b w.1 le in omega (arith, off, rest)
  where
    behind : (p n b : ℕ) → p + n ≤ b → in_range p n b ≡ 0
    behind p n b le = grind (arith, nat_tests)

pub gaps_apart : (gaps : List Extent) → AreGaps gaps → AreApart gaps
gaps_apart gaps g = record { once = λ b. once gaps b g.order; low = λ b lt. below (2 ^ 44) gaps b g.within lt; high = λ b le. above (2 ^ 44) gaps b g.within le }

pub gaps_short : (gaps : List Extent) → AreGaps gaps → AllEndBy (2 ^ 44) gaps
gaps_short gaps g = go gaps g.within
  where
    go : (gs : List Extent) → AllByRecursion (λ (g : Extent). (266 ≤ g.place) × (end_of g ≤ 2 ^ 44)) gs → AllEndBy (2 ^ 44) gs
    go [] w k lt = absurd (omega (arith, lt))
    go (g ∷ gs) w zero lt = w.0.1
    go (g ∷ gs) w (suc k) lt = go gs w.1 k (omega (arith, lt))

-- each gap lies behind the free table
pub gap_low : (gaps : List Extent) (i : ℕ) → AreGaps gaps → i < length gaps → 266 ≤ (gap_at gaps i).place
gap_low gaps i g lt = go gaps g.within i lt
  where
    go : (gs : List Extent) → AllByRecursion (λ (g : Extent). (266 ≤ g.place) × (end_of g ≤ 2 ^ 44)) gs → (k : ℕ) → k < length gs → 266 ≤ (gap_at gs k).place
    go [] w k lt = absurd (omega (arith, lt))
    go (g ∷ gs) w zero lt = w.0.0
    go (g ∷ gs) w (suc k) lt = go gs w.1 k (omega (arith, lt))

pub heap_gaps : (heap : Heap) → IsHeap heap → AreGaps heap.gaps
heap_gaps heap h = record { order = h.order; within = go heap.gaps h.within }
  where
    go : (gs : List Extent) → AllByRecursion (λ (g : Extent). (266 ≤ g.place) × (end_of g ≤ heap.end + 1)) gs → AllByRecursion (λ (g : Extent). (266 ≤ g.place) × (end_of g ≤ 2 ^ 44)) gs
    go [] w = tt
    go (g ∷ gs) w = ((w.0.0, let le : end_of g ≤ heap.end + 1 = w.0.1 in let high = h.high in omega (arith, le, high)), go gs w.1)

-- a free chunk among them is long
pub free_long : (gaps : List Extent) (i : ℕ) → AreGapsInOrder gaps → i < length gaps → is_free (gap_at gaps i) ≡ true → 32 ≤ (gap_at gaps i).length
free_long [] i o lt free = absurd (omega (arith, lt))
free_long (g ∷ gs) zero o lt free = by_kind o.0.1
  where
    not_both : (kind : ExtentKind) → is_free_kind kind ≡ true → is_filler_kind kind ≡ true → ⊥
    not_both ExtentKind.FreeChunk e f = cc
    not_both ExtentKind.Header e f = cc
    not_both ExtentKind.FreeTable e f = cc
    not_both ExtentKind.Node e f = cc
    not_both ExtentKind.SubNodes e f = cc
    not_both ExtentKind.DataChunk e f = cc
    not_both ExtentKind.ChunkTable e f = cc
    not_both ExtentKind.Filler e f = cc

    by_kind : (IsTrue (is_free g) × (32 ≤ g.length)) ⊎ IsTrue (is_filler g) → 32 ≤ g.length
    by_kind (inl h) = h.1
    by_kind (inr h) = absurd (not_both g.kind free h)
free_long (g ∷ gs) (suc i) o lt free = free_long gs i o.2 (omega (arith, lt)) free

-- gaps in order of which none has a byte before or behind stand within
pub all_within : (n : ℕ) (gaps : List Extent) → AreGapsInOrder gaps → ((b : ℕ) → b < 266 → cover gaps b ≡ 0) → ((b : ℕ) → n ≤ b → cover gaps b ≡ 0) → AllByRecursion (λ (g : Extent). (266 ≤ g.place) × (end_of g ≤ n)) gaps
all_within n [] o low high = tt
all_within n (g ∷ gs) o low high = ((behind (leb_tells 266 g.place), within (leb_tells (end_of g) n)), all_within n gs o.2 (λ b lt. (none_holds g gs b (low b lt)).1) (λ b le. (none_holds g gs b (high b le)).1))
  where
    long : 0 < g.length
    long = o.0.0

    clash : (b : ℕ) → holds_byte g b ≡ false → g.place ≤ b → b < g.place + g.length → ⊥
    clash b off from to = grind (arith, nat_tests)

    behind : ((nat_le 266 g.place ≡ true) × (266 ≤ g.place)) ⊎ ((nat_le 266 g.place ≡ false) × (g.place < 266)) → 266 ≤ g.place
    behind (inl h) = h.1
    behind (inr h) = absurd (clash g.place (none_holds g gs g.place (low g.place h.1)).0 (omega arith) (omega (arith, long)))

    within : ((nat_le (end_of g) n ≡ true) × (end_of g ≤ n)) ⊎ ((nat_le (end_of g) n ≡ false) × (n < end_of g)) → end_of g ≤ n
    within (inl h) = h.1
    within (inr h) = absurd (last (end_of g - 1) (omega (arith, long)) h.1)
      where
        last : (b : ℕ) → b + 1 ≡ end_of g → n < end_of g → ⊥
        last b e lt = clash b (none_holds g gs b (high b (omega (arith, e, lt)))).0 (omega (arith, e, long)) (omega (arith, e))

-- ---- free chunks and fillers of joined gaps

free_step : (g h : Extent) (gs : List Extent) (t : Bool) → (t ≡ true → (is_filler g ≡ true) × (is_filler h ≡ true)) → filter is_free (cond t (extent ExtentKind.Filler g.place (g.length + h.length) ∷ gs) (g ∷ h ∷ gs)) ≡ filter is_free (g ∷ h ∷ gs)
free_step g h gs false fillers = refl
free_step g h gs true fillers = let p = fillers refl in let a : is_free g ≡ false = not_free g.kind p.0 in let b : is_free h ≡ false = not_free h.kind p.1 in rw (a, b)
  where
    not_free : (kind : ExtentKind) → is_filler_kind kind ≡ true → is_free_kind kind ≡ false
    not_free ExtentKind.Filler e = refl
    not_free ExtentKind.Header e = cc
    not_free ExtentKind.FreeTable e = cc
    not_free ExtentKind.Node e = cc
    not_free ExtentKind.SubNodes e = cc
    not_free ExtentKind.DataChunk e = cc
    not_free ExtentKind.ChunkTable e = cc
    not_free ExtentKind.FreeChunk e = cc

joined_tells : (a b c : Bool) → (a && b && c) ≡ true → (a ≡ true) × (b ≡ true)
joined_tells true true c e = (refl, refl)
joined_tells true false c e = cc
joined_tells false b c e = cc

joined_at : (g h : Extent) → (is_filler g && is_filler h && (end_of g == h.place)) ≡ true → end_of g ≡ h.place
joined_at g h e = same (end_of g) h.place (third (is_filler g) (is_filler h) (end_of g == h.place) e)
  where
    same : (a b : ℕ) → (a == b) ≡ true → a ≡ b
    same a b e = grind (arith, nat_tests)

    third : (a b c : Bool) → (a && b && c) ≡ true → c ≡ true
    third true true c e = e
    third true false c e = cc
    third false b c e = cc

pub free_before : (g : Extent) (gs : List Extent) → filter is_free (before_gaps g gs) ≡ filter is_free (g ∷ gs)
free_before g [] = refl
free_before g (h ∷ gs) = free_step g h gs (is_filler g && is_filler h && (end_of g == h.place)) (joined_tells (is_filler g) (is_filler h) (end_of g == h.place))

range_join : (p n m b : ℕ) → in_range p (n + m) b ≡ in_range p n b + in_range (p + n) m b
range_join p n m b = grind (arith, nat_tests)

filler_step : (g h : Extent) (gs : List Extent) (b : ℕ) (t : Bool) → (t ≡ true → (is_filler g ≡ true) × (is_filler h ≡ true)) → (t ≡ true → end_of g ≡ h.place)
    → cover (filter is_filler (cond t (extent ExtentKind.Filler g.place (g.length + h.length) ∷ gs) (g ∷ h ∷ gs))) b ≡ cover (filter is_filler (g ∷ h ∷ gs)) b
filler_step g h gs b false fillers touch = refl
filler_step g h gs b true fillers touch =
    let p = fillers refl in let a = p.0 in let c = p.1 in
    rw (a, c) (join g.place g.length h.place h.length (touch refl))
  where
    join : (p n q m : ℕ) → p + n ≡ q → in_range p (n + m) b + cover (filter is_filler gs) b ≡ in_range p n b + (in_range q m b + cover (filter is_filler gs) b)
    join p n q m e =
        ap (λ k. k + cover (filter is_filler gs) b) (range_join p n m b ∙ ap (λ k. in_range p n b + in_range k m b) e) ∙ add_assoc (in_range p n b) (in_range q m b) (cover (filter is_filler gs) b)

pub filler_before : (g : Extent) (gs : List Extent) (b : ℕ) → cover (filter is_filler (before_gaps g gs)) b ≡ cover (filter is_filler (g ∷ gs)) b
filler_before g [] b = refl
filler_before g (h ∷ gs) b = filler_step g h gs b (is_filler g && is_filler h && (end_of g == h.place)) (joined_tells (is_filler g) (is_filler h) (end_of g == h.place)) (joined_at g h)

-- ---- what is left of a chunk

empty_gap : (p n : ℕ) → n ≡ 0 → (is_free (new_gap p n) ≡ false) × (is_filler (new_gap p n) ≡ true) × ((b : ℕ) → in_range (new_gap p n).place (new_gap p n).length b ≡ 0)
empty_gap p n e = let on : nat_lt n 32 ≡ true = grind (arith, nat_tests) in (rw on, rw on, λ b. rw on (none p n b e))
  where
    none : (p n b : ℕ) → n ≡ 0 → in_range p n b ≡ 0
    none p n b e = grind (arith, nat_tests)

free_rest : (n : ℕ) (g : Extent) (gs : List Extent) → n ≤ g.length → filter is_free (rest_of n g gs) ≡ filter is_free (new_gap (g.place + n) (g.length - n) ∷ gs)
free_rest n g gs le = by_test (g.length == n) refl
  where
    whole : (g.length == n) ≡ true → g.length - n ≡ 0
    whole e = grind (arith, nat_tests)

    by_test : (t : Bool) → (g.length == n) ≡ t → filter is_free (cond t gs (before_gaps (new_gap (g.place + n) (g.length - n)) gs)) ≡ filter is_free (new_gap (g.place + n) (g.length - n) ∷ gs)
    by_test true e = let off : is_free (new_gap (g.place + n) (g.length - n)) ≡ false = (empty_gap (g.place + n) (g.length - n) (whole e)).0 in rw off
    by_test false e = free_before (new_gap (g.place + n) (g.length - n)) gs

filler_rest : (n : ℕ) (g : Extent) (gs : List Extent) (b : ℕ) → n ≤ g.length → cover (filter is_filler (rest_of n g gs)) b ≡ cover (filter is_filler (new_gap (g.place + n) (g.length - n) ∷ gs)) b
filler_rest n g gs b le = by_test (g.length == n) refl
  where
    whole : (g.length == n) ≡ true → g.length - n ≡ 0
    whole e = grind (arith, nat_tests)

    plain : (x c : ℕ) → x ≡ 0 → c ≡ x + c
    plain x c e = omega (arith, e)

    by_test : (t : Bool) → (g.length == n) ≡ t → cover (filter is_filler (cond t gs (before_gaps (new_gap (g.place + n) (g.length - n)) gs))) b ≡ cover (filter is_filler (new_gap (g.place + n) (g.length - n) ∷ gs)) b
    by_test true e = let z = empty_gap (g.place + n) (g.length - n) (whole e) in let on : is_filler (new_gap (g.place + n) (g.length - n)) ≡ true = z.1 in
        rw on (plain (in_range (new_gap (g.place + n) (g.length - n)).place (new_gap (g.place + n) (g.length - n)).length b) (cover (filter is_filler gs) b) (z.2 b))
    by_test false e = filler_before (new_gap (g.place + n) (g.length - n)) gs b

-- ---- a gap in the middle, and the same gap in front

free_moved : (q m : ℕ) (xs : List Extent) (x : Extent) (ys : List Extent) → count_of q m (filter is_free (xs ++ x ∷ ys)) ≡ count_of q m (filter is_free (x ∷ (xs ++ ys)))
free_moved q m xs x ys =
    ap (count_of q m) (filter-append is_free xs (x ∷ ys)) ∙ count-append q m (filter is_free xs) (filter is_free (x ∷ ys)) ∙ by_test (is_free x)
  where
    split : count_of q m (filter is_free (xs ++ ys)) ≡ count_of q m (filter is_free xs) + count_of q m (filter is_free ys)
    split = ap (count_of q m) (filter-append is_free xs ys) ∙ count-append q m (filter is_free xs) (filter is_free ys)

    plain : (a h c s : ℕ) → s ≡ a + c → a + (h + c) ≡ h + s
    plain a h c s e = omega (arith, e)

    by_test : (t : Bool) → count_of q m (filter is_free xs) + count_of q m (cond t (x ∷ filter is_free ys) (filter is_free ys)) ≡ count_of q m (cond t (x ∷ filter is_free (xs ++ ys)) (filter is_free (xs ++ ys)))
    by_test true = plain (count_of q m (filter is_free xs)) (cond ((x.place == q) && (x.length == m)) 1 0) (count_of q m (filter is_free ys)) (count_of q m (filter is_free (xs ++ ys))) split
    by_test false = sym split

filler_moved : (b : ℕ) (xs : List Extent) (x : Extent) (ys : List Extent) → cover (filter is_filler (xs ++ x ∷ ys)) b ≡ cover (filter is_filler (x ∷ (xs ++ ys))) b
filler_moved b xs x ys =
    ap (λ zs. cover zs b) (filter-append is_filler xs (x ∷ ys)) ∙ cover-append (filter is_filler xs) (filter is_filler (x ∷ ys)) b ∙ by_test (is_filler x)
  where
    split : cover (filter is_filler (xs ++ ys)) b ≡ cover (filter is_filler xs) b + cover (filter is_filler ys) b
    split = ap (λ zs. cover zs b) (filter-append is_filler xs ys) ∙ cover-append (filter is_filler xs) (filter is_filler ys) b

    plain : (a h c s : ℕ) → s ≡ a + c → a + (h + c) ≡ h + s
    plain a h c s e = omega (arith, e)

    by_test : (t : Bool) → cover (filter is_filler xs) b + cover (cond t (x ∷ filter is_filler ys) (filter is_filler ys)) b ≡ cover (cond t (x ∷ filter is_filler (xs ++ ys)) (filter is_filler (xs ++ ys))) b
    by_test true = plain (cover (filter is_filler xs) b) (in_range x.place x.length b) (cover (filter is_filler ys) b) (cover (filter is_filler (xs ++ ys)) b) split
    by_test false = sym split

abbrev pub rest_gap : ℕ → Extent → Extent
rest_gap n g = new_gap (g.place + n) (g.length - n)

pub free_cut : (n i : ℕ) (gaps : List Extent) → IsFirstFit n gaps i → (q m : ℕ) → count_of q m (filter is_free (rest_gap n (gap_at gaps i) ∷ remove gaps i)) ≡ count_of q m (filter is_free (cut n gaps))
free_cut n i gaps fit q m =
    sym (ap (λ xs. count_of q m (filter is_free xs)) fit.left
    ∙ ap (count_of q m) (filter-append is_free (take i gaps) (rest_of n (gap_at gaps i) (drop (i + 1) gaps)) ∙ ap (λ xs. filter is_free (take i gaps) ++ xs) (free_rest n (gap_at gaps i) (drop (i + 1) gaps) fit.fits) ∙ sym (filter-append is_free (take i gaps) (rest_gap n (gap_at gaps i) ∷ drop (i + 1) gaps)))
    ∙ free_moved q m (take i gaps) (rest_gap n (gap_at gaps i)) (drop (i + 1) gaps) ∙ rw add-one refl)

pub filler_cut : (n i : ℕ) (gaps : List Extent) (b : ℕ) → IsFirstFit n gaps i → cover (filter is_filler (cut n gaps)) b ≡ cover (filter is_filler (rest_gap n (gap_at gaps i) ∷ remove gaps i)) b
filler_cut n i gaps b fit =
    ap (λ xs. cover (filter is_filler xs) b) fit.left
    ∙ ap (λ xs. cover xs b) (filter-append is_filler (take i gaps) (rest_of n (gap_at gaps i) (drop (i + 1) gaps))) ∙ cover-append (filter is_filler (take i gaps)) (filter is_filler (rest_of n (gap_at gaps i) (drop (i + 1) gaps))) b
    ∙ ap (λ k. cover (filter is_filler (take i gaps)) b + k) (filler_rest n (gap_at gaps i) (drop (i + 1) gaps) b fit.fits)
    ∙ sym (ap (λ xs. cover xs b) (filter-append is_filler (take i gaps) (rest_gap n (gap_at gaps i) ∷ drop (i + 1) gaps)) ∙ cover-append (filter is_filler (take i gaps)) (filter is_filler (rest_gap n (gap_at gaps i) ∷ drop (i + 1) gaps)) b)
    ∙ filler_moved b (take i gaps) (rest_gap n (gap_at gaps i)) (drop (i + 1) gaps) ∙ rw add-one refl

pub filler_removed : (i : ℕ) (gaps : List Extent) (b : ℕ) → cover (filter is_filler (remove gaps i)) b ≤ cover (filter is_filler gaps) b
filler_removed zero [] b = omega arith
filler_removed (suc i) [] b = omega arith
filler_removed zero (g ∷ gs) b = by_test (is_filler g)
  where
    by_test : (t : Bool) → cover (filter is_filler gs) b ≤ cover (cond t (g ∷ filter is_filler gs) (filter is_filler gs)) b
    by_test true = omega arith
    by_test false = omega arith
filler_removed (suc i) (g ∷ gs) b = by_test (filler_removed i gs b) (is_filler g)
  where
    by_test : cover (filter is_filler (remove gs i)) b ≤ cover (filter is_filler gs) b → (t : Bool)
        → cover (cond t (g ∷ filter is_filler (remove gs i)) (filter is_filler (remove gs i))) b ≤ cover (cond t (g ∷ filter is_filler gs) (filter is_filler gs)) b
    by_test le true = omega (arith, le)
    by_test le false = omega (arith, le)

pub free_removed : (q m i : ℕ) (gaps : List Extent) → count_of q m (filter is_free (remove gaps i)) ≤ count_of q m (filter is_free gaps)
free_removed q m zero [] = omega arith
free_removed q m (suc i) [] = omega arith
free_removed q m zero (g ∷ gs) = by_test (is_free g)
  where
    by_test : (t : Bool) → count_of q m (filter is_free gs) ≤ count_of q m (cond t (g ∷ filter is_free gs) (filter is_free gs))
    by_test true = omega arith
    by_test false = omega arith
free_removed q m (suc i) (g ∷ gs) = by_test (free_removed q m i gs) (is_free g)
  where
    by_test : count_of q m (filter is_free (remove gs i)) ≤ count_of q m (filter is_free gs) → (t : Bool) → count_of q m (cond t (g ∷ filter is_free (remove gs i)) (filter is_free (remove gs i))) ≤ count_of q m (cond t (g ∷ filter is_free gs) (filter is_free gs))
    by_test le true = omega (arith, le)
    by_test le false = omega (arith, le)

-- ---- one more gap

pub free_put : (q m : ℕ) (x : Extent) (gaps : List Extent) → count_of q m (filter is_free (put_by_place x gaps)) ≡ count_of q m (filter is_free (x ∷ gaps))
free_put q m x [] = refl
free_put q m x (g ∷ gs) = by_test (free_put q m x gs) (nat_lt g.place x.place)
  where
    kinds : count_of q m (filter is_free (put_by_place x gs)) ≡ count_of q m (filter is_free (x ∷ gs)) → (t u : Bool) → is_free x ≡ u
        → count_of q m (cond t (g ∷ filter is_free (put_by_place x gs)) (filter is_free (put_by_place x gs))) ≡ count_of q m (cond u (x ∷ cond t (g ∷ filter is_free gs) (filter is_free gs)) (cond t (g ∷ filter is_free gs) (filter is_free gs)))
    kinds e true true f = ap (λ k. cond ((g.place == q) && (g.length == m)) 1 0 + k) (rw f at e) ∙ plain (cond ((g.place == q) && (g.length == m)) 1 0) (cond ((x.place == q) && (x.length == m)) 1 0) (count_of q m (filter is_free gs))
      where
        plain : (a b c : ℕ) → a + (b + c) ≡ b + (a + c)
        plain a b c = omega arith
    kinds e true false f = ap (λ k. cond ((g.place == q) && (g.length == m)) 1 0 + k) (rw f at e)
    kinds e false true f = rw f at e
    kinds e false false f = rw f at e

    by_test : count_of q m (filter is_free (put_by_place x gs)) ≡ count_of q m (filter is_free (x ∷ gs)) → (t : Bool) → count_of q m (filter is_free (cond t (g ∷ put_by_place x gs) (x ∷ g ∷ gs))) ≡ count_of q m (filter is_free (x ∷ g ∷ gs))
    by_test e true = kinds e (is_free g) (is_free x) refl
    by_test e false = refl

pub filler_put : (b : ℕ) (x : Extent) (gaps : List Extent) → cover (filter is_filler (put_by_place x gaps)) b ≡ cover (filter is_filler (x ∷ gaps)) b
filler_put b x [] = refl
filler_put b x (g ∷ gs) = by_test (filler_put b x gs) (nat_lt g.place x.place)
  where
    kinds : cover (filter is_filler (put_by_place x gs)) b ≡ cover (filter is_filler (x ∷ gs)) b → (t u : Bool) → is_filler x ≡ u
        → cover (cond t (g ∷ filter is_filler (put_by_place x gs)) (filter is_filler (put_by_place x gs))) b ≡ cover (cond u (x ∷ cond t (g ∷ filter is_filler gs) (filter is_filler gs)) (cond t (g ∷ filter is_filler gs) (filter is_filler gs))) b
    kinds e true true f = ap (λ k. in_range g.place g.length b + k) (rw f at e) ∙ plain (in_range g.place g.length b) (in_range x.place x.length b) (cover (filter is_filler gs) b)
      where
        plain : (a b c : ℕ) → a + (b + c) ≡ b + (a + c)
        plain a b c = omega arith
    kinds e true false f = ap (λ k. in_range g.place g.length b + k) (rw f at e)
    kinds e false true f = rw f at e
    kinds e false false f = rw f at e

    by_test : cover (filter is_filler (put_by_place x gs)) b ≡ cover (filter is_filler (x ∷ gs)) b → (t : Bool) → cover (filter is_filler (cond t (g ∷ put_by_place x gs) (x ∷ g ∷ gs))) b ≡ cover (filter is_filler (x ∷ g ∷ gs)) b
    by_test e true = kinds e (is_filler g) (is_filler x) refl
    by_test e false = refl

-- ---- one gap less

pub free_unlisted : (i : ℕ) (gaps : List Extent) → i < length gaps → is_free (gap_at gaps i) ≡ false → filter is_free (remove gaps i) ≡ filter is_free gaps
free_unlisted i [] lt off = absurd (omega (arith, lt))
free_unlisted zero (g ∷ gs) lt off = rw off
free_unlisted (suc i) (g ∷ gs) lt off = ap (λ xs. cond (is_free g) (g ∷ xs) xs) (free_unlisted i gs (omega (arith, lt)) off)
