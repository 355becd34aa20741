-- Ranges in order: what the halves of a list tell, and one range more.
use Rattle.std.proofs.Common.{◌≡◌, ◌∙◌, sym, ap, subst, refl, arith, ℕ, zero, suc, ◌+◌, ◌-◌, ◌<◌, ◌≤◌, Bool, true, false, List, [], ◌∷◌, ◌++◌, length, take, drop, append_assoc}
use Rattle.std.specs.Prelude.{◌&&◌, ◌||◌, nat_le, nat_lt, slice_index_or, Result, Ok, Err, OnOk, OnErr}
use Rattle.std.specs.List.{list_any, AllByRecursion}
use Rattle.std.specs.List.Sorted.{IsPartitionedBy}
use Rattle.std.proofs.lemmas.List.{take-append-drop, take-take, drop-drop, length-take-le}
use Rattle.std.proofs.lemmas.List.Folds.{list_any-append}
use Rattle.std.proofs.lemmas.Bool.Decides.{nat_tests}
use Rattle.element_ranges.specs.declared.union.Span.{Span}
use Rattle.element_ranges.specs.Ranges.{touches, begins_by, Follows, IsRising}

-- ---- lists in two parts

pub all_split : {X : Type 0} (P : X → Type 0) (xs ys : List X) → AllByRecursion P (xs ++ ys) → AllByRecursion P xs × AllByRecursion P ys
all_split P [] ys h = (tt, h)
all_split P (x ∷ xs) ys h = let rest = all_split P xs ys h.1 in ((h.0, rest.0), rest.1)

pub all_join : {X : Type 0} (P : X → Type 0) (xs ys : List X) → AllByRecursion P xs → AllByRecursion P ys → AllByRecursion P (xs ++ ys)
all_join P [] ys hx hy = hy
all_join P (x ∷ xs) ys hx hy = (hx.0, all_join P xs ys hx.1 hy)

-- each of some ranges is followed by each of others
abbrev pub Precede : List Span → List Span → Type 0
Precede xs ys = AllByRecursion (λ x. AllByRecursion (Follows x) ys) xs

pub record Parts (xs ys : List Span) : Type 0 where
  pub front : IsRising xs
  pub back : IsRising ys
  pub order : Precede xs ys

pub parts_of : (xs ys : List Span) → IsRising (xs ++ ys) → Parts xs ys
parts_of [] ys h = record { front = tt; back = h; order = tt }
parts_of (x ∷ xs) ys h =
    let first = all_split (Follows x) xs ys h.0 in
    let rest = parts_of xs ys h.1 in
    record { front = (first.0, rest.front); back = rest.back; order = (first.1, rest.order) }

pub join : (xs ys : List Span) → Parts xs ys → IsRising (xs ++ ys)
join [] ys h = h.back
join (x ∷ xs) ys h = (all_join (Follows x) xs ys h.front.0 h.order.0, join xs ys (record { front = h.front.1; back = h.back; order = h.order.1 }))

-- ---- one range in the middle

ends_before : (first last s e f : ℕ) → e ≤ f → f < first → (nat_le s last && nat_le first e) ≡ false
ends_before first last s e f le lt = grind (arith, nat_tests)

begins_behind : (first last s t e : ℕ) → s ≤ t → last < s → (nat_le t last && nat_le first e) ≡ false
begins_behind first last s t e le gt = grind (arith, nat_tests)

module _ (first last : ℕ) where
  none_in_front : (m : Span) (xs ys : List Span) → m.end < first → Precede xs (m ∷ ys) → list_any (touches first last) xs ≡ false
  none_in_front m [] ys low h = refl
  none_in_front m (x ∷ xs) ys low h =
      ap (λ b. b || list_any (touches first last) xs) (ends_before first last x.start x.end m.end h.0.0.1 low) ∙ none_in_front m xs ys low h.1

  none_behind : (m : Span) (ys : List Span) → last < m.start → AllByRecursion (Follows m) ys → list_any (touches first last) ys ≡ false
  none_behind m [] high h = refl
  none_behind m (y ∷ ys) high h =
      ap (λ b. b || list_any (touches first last) ys) (begins_behind first last m.start y.start y.end h.0.0 high) ∙ none_behind m ys high h.1

-- ---- one range more

covered : (first last s e : ℕ) (y : Span) → s ≤ y.start → y.end ≤ e → (touches first last y || (nat_le s last && nat_le first e)) ≡ (nat_le s last && nat_le first e)
covered first last s e y le ge = grind (arith, nat_tests)

among : (f m b r : Bool) → (m || r) ≡ r → (f || (r || b)) ≡ (r || (f || (m || b)))
among true m b true h = refl
among false m b true h = refl
among true m b false h = refl
among false true b false h = absurd (let e : true ≡ false = h in cc)
among false false b false h = refl

both_in : (a b c : Bool) → (a || c) ≡ c → (b || c) ≡ c → ((a || b) || c) ≡ c
both_in true b c one others = one
both_in false b c one others = others

module _ (first last : ℕ) (r : Span) where
  abbrev holds : Span → Bool
  holds = touches first last

  all_covered : (ys : List Span) → AllByRecursion (λ y. (r.start ≤ y.start) × (y.end ≤ r.end)) ys → (list_any holds ys || holds r) ≡ holds r
  all_covered [] h = refl
  all_covered (y ∷ ys) h =
      both_in (holds y) (list_any holds ys) (holds r) (covered first last r.start r.end y h.0.0 h.0.1) (all_covered ys h.1)

  -- a range in the place of those that it covers
  placed : (xs ms ys : List Span) → AllByRecursion (λ y. (r.start ≤ y.start) × (y.end ≤ r.end)) ms
      → list_any holds (xs ++ r ∷ ys) ≡ (holds r || list_any holds (xs ++ (ms ++ ys)))
  placed xs ms ys h =
      list_any-append holds xs (r ∷ ys)
      ∙ among (list_any holds xs) (list_any holds ms) (list_any holds ys) (holds r) (all_covered ms h)
      ∙ ap (λ b. holds r || b) (sym (list_any-append holds xs (ms ++ ys) ∙ ap (λ b. list_any holds xs || b) (list_any-append holds ms ys)))

-- ---- a list by its places

all_at : {X : Type 0} (P : X → Type 0) (xs : List X) → AllByRecursion P xs → (k : ℕ) (d : X) → k < length xs → P (slice_index_or xs k d)
all_at P [] h k d lt = absurd (omega arith)
all_at P (x ∷ xs) h zero d lt = h.0
all_at P (x ∷ xs) h (suc k) d lt = all_at P xs h.1 k d (omega arith)

pub taken : {X : Type 0} (P : X → Type 0) (xs : List X) (i : ℕ) (d : X) → i ≤ length xs → ((k : ℕ) → k < i → P (slice_index_or xs k d)) → AllByRecursion P (take i xs)
taken P xs zero d le h = tt
taken P [] (suc i) d le h = absurd (omega arith)
taken P (x ∷ xs) (suc i) d le h = (h zero (omega arith), taken P xs i d (omega arith) (λ k lt. h (suc k) (omega arith)))

pub dropped : {X : Type 0} (P : X → Type 0) (xs : List X) (i : ℕ) (d : X) → ((k : ℕ) → i ≤ k → k < length xs → P (slice_index_or xs k d)) → AllByRecursion P (drop i xs)
dropped P [] zero d h = tt
dropped P (x ∷ xs) zero d h = (h zero (omega arith) (omega arith), dropped P xs zero d (λ k le lt. h (suc k) (omega arith) (omega arith)))
dropped P [] (suc i) d h = tt
dropped P (x ∷ xs) (suc i) d h = dropped P xs i d (λ k le lt. h (suc k) (omega arith) (omega arith))

le_refl : (a : ℕ) → a ≤ a
le_refl a = omega arith

rises_at : (xs : List Span) → IsRising xs → (i j : ℕ) (d : Span) → i ≤ j → j < length xs → Follows (slice_index_or xs i d) (slice_index_or xs j d)
rises_at [] h i j d le lt = absurd (omega arith)
rises_at (x ∷ xs) h zero zero d le lt = (le_refl x.start, le_refl x.end)
rises_at (x ∷ xs) h zero (suc j) d le lt = all_at (Follows x) xs h.0 j d (omega arith)
rises_at (x ∷ xs) h (suc i) zero d le lt = absurd (omega arith)
rises_at (x ∷ xs) h (suc i) (suc j) d le lt = rises_at xs h.1 i j d (omega arith) (omega arith)

less_too : (a b n : ℕ) → a ≤ b → nat_lt b n ≡ true → nat_lt a n ≡ true
less_too a b n le lt = grind (arith, nat_tests)

pub ends_parted : (xs : List Span) (n : ℕ) → IsRising xs → IsPartitionedBy (λ (r : Span). nat_lt r.end n) xs
ends_parted xs n h i j d le lt is = less_too _ _ n (rises_at xs h i j d le lt).1 is

pub starts_parted : (xs : List Span) (n : ℕ) → IsRising xs → IsPartitionedBy (λ (r : Span). nat_lt r.start n) xs
starts_parted xs n h i j d le lt is = less_too _ _ n (rises_at xs h i j d le lt).0 is

-- ---- where a range goes

not_less : (a b : ℕ) → nat_lt a b ≡ false → b ≤ a
not_less a b h = grind (arith, nat_tests)

less : (a b : ℕ) → nat_lt a b ≡ true → a ≤ b
less a b h = grind (arith, nat_tests)

not_by : (a b : ℕ) → nat_le a b ≡ false → b ≤ a
not_by a b h = grind (arith, nat_tests)

le_trans : (a b c : ℕ) → a ≤ b → b ≤ c → a ≤ c
le_trans a b c h k = omega arith

holds_more : (first last : ℕ) (r y : Span) → nat_le y.start r.start ≡ true → nat_lt y.end r.end ≡ false → (touches first last r || touches first last y) ≡ touches first last y
holds_more first last r y starts ends = grind (arith, nat_tests)

there_too : (x y z r : Bool) → (r || y) ≡ y → (x || (y || z)) ≡ (r || (x || (y || z)))
there_too x y z false h = refl
there_too true y z true h = refl
there_too false true z true h = refl
there_too false false z true h = absurd (let e : true ≡ false = h in cc)

-- one that some range covers changes nothing
pub kept_ranges : (first last : ℕ) (r : Span) (xs ys : List Span) → AllByRecursion (λ (y : Span). nat_lt y.end r.end ≡ false) ys → begins_by r.start ys ≡ true
    → list_any (touches first last) (xs ++ ys) ≡ (touches first last r || list_any (touches first last) (xs ++ ys))
kept_ranges first last r xs [] h b = absurd (let none : false ≡ true = b in cc)
kept_ranges first last r xs (y ∷ ys) h b =
    let t : Span → Bool = touches first last in
    let whole = list_any-append t xs (y ∷ ys) in
    whole ∙ there_too (list_any t xs) (t y) (list_any t ys) (t r) (holds_more first last r y b h.0) ∙ ap (λ c. t r || c) (sym whole)

-- ranges that end no earlier, of which the first begins later, follow
followed : (r : Span) (ys : List Span) → IsRising ys → AllByRecursion (λ (y : Span). nat_lt y.end r.end ≡ false) ys → begins_by r.start ys ≡ false → AllByRecursion (Follows r) ys
followed r [] rising h b = tt
followed r (y ∷ ys) rising h b = ((not_by y.start r.start b, not_less y.end r.end h.0), behind y ys (not_by y.start r.start b) rising.0 h.1)
  where
    behind : (y : Span) (zs : List Span) → r.start ≤ y.start → AllByRecursion (Follows y) zs → AllByRecursion (λ (z : Span). nat_lt z.end r.end ≡ false) zs → AllByRecursion (Follows r) zs
    behind y [] le follow h = tt
    behind y (z ∷ zs) le follow h = ((le_trans r.start y.start z.start le follow.0.0, not_less z.end r.end h.0), behind y zs le follow.1 h.1)

-- what is known of the ranges before the place of one
before_it : (r : Span) (xs ys : List Span) → AllByRecursion (λ (x : Span). nat_lt x.start r.start ≡ true) xs → AllByRecursion (λ (x : Span). nat_lt x.end r.end ≡ true) xs → Precede xs ys → Precede xs (r ∷ ys)
before_it r [] ys starts ends h = tt
before_it r (x ∷ xs) ys starts ends h = (((less x.start r.start starts.0, less x.end r.end ends.0), h.0), before_it r xs ys starts.1 ends.1 h.1)

between : (r : Span) (ms : List Span) → AllByRecursion (λ (x : Span). nat_lt x.start r.start ≡ false) ms → AllByRecursion (λ (x : Span). nat_lt x.end r.end ≡ true) ms
    → AllByRecursion (λ (y : Span). (r.start ≤ y.start) × (y.end ≤ r.end)) ms
between r [] starts ends = tt
between r (m ∷ ms) starts ends = ((not_less m.start r.start starts.0, less m.end r.end ends.0), between r ms starts.1 ends.1)

-- a range behind those that begin and end before it, in the place of those that it covers, before those that end no earlier
module _ (r : Span) (xs ms ys : List Span) (rising : IsRising ((xs ++ ms) ++ ys))
    (front : AllByRecursion (λ (x : Span). nat_lt x.end r.end ≡ true) (xs ++ ms)) (back : AllByRecursion (λ (y : Span). nat_lt y.end r.end ≡ false) ys)
    (first : AllByRecursion (λ (x : Span). nat_lt x.start r.start ≡ true) xs) (others : AllByRecursion (λ (x : Span). nat_lt x.start r.start ≡ false) ms)
    (later : begins_by r.start ys ≡ false) where
  pub rising_with : IsRising (xs ++ r ∷ ys)
  rising_with =
      let halves = parts_of (xs ++ ms) ys rising in
      let quarters = parts_of xs ms halves.front in
      join xs (r ∷ ys) (record {
        front = quarters.front;
        back = (followed r ys halves.back back later, halves.back);
        order = before_it r xs ys first (all_split (λ (x : Span). nat_lt x.end r.end ≡ true) xs ms front).0 (all_split (λ (x : Span). AllByRecursion (Follows x) ys) xs ms halves.order).0;
      })

  pub meets_with : (a b : ℕ) → list_any (touches a b) (xs ++ r ∷ ys) ≡ (touches a b r || list_any (touches a b) ((xs ++ ms) ++ ys))
  meets_with a b =
      placed a b r xs ms ys (between r ms others (all_split (λ (x : Span). nat_lt x.end r.end ≡ true) xs ms front).1)
      ∙ ap (λ (zs : List Span). touches a b r || list_any (touches a b) zs) (sym (append_assoc xs ms ys))

-- ---- one in the place of others

pub without_next : {X : Type 0} (front : List X) (x : X) (rest : List X)
    → take (suc (length front)) (front ++ x ∷ rest) ++ drop (suc (suc (length front))) (front ++ x ∷ rest) ≡ front ++ x ∷ drop 1 rest
without_next [] x rest = refl
without_next (y ∷ front) x rest = ap (λ zs. y ∷ zs) (without_next front x rest)

abbrev pub no_span : Span
no_span = record { start = 0; end = 0 }

-- ---- what the middle of a list of ranges in order tells

touching : (first last s e : ℕ) → first ≤ e → s ≤ last → (nat_le s last && nat_le first e) ≡ true
touching first last s e below above = grind (arith, nat_tests)

or_true : (b c : Bool) → true ≡ (b || (true || c))
or_true true c = refl
or_true false c = refl

module _ (first last : ℕ) (m : Span) (xs ys all : List Span) (is : xs ++ m ∷ ys ≡ all) (rising : IsRising all) where
  abbrev says : List Span → Bool
  says = list_any (touches first last)

  halves : Parts xs (m ∷ ys)
  halves = parts_of xs (m ∷ ys) (subst IsRising (sym is) rising)

  in_parts : says all ≡ (says xs || (touches first last m || says ys))
  in_parts = sym (ap says is) ∙ list_any-append (touches first last) xs (m ∷ ys)

  pub front_rises : IsRising xs
  front_rises = halves.front

  pub behind_rises : IsRising ys
  behind_rises = halves.back.1

  pub behind_says : m.end < first → says ys ≡ says all
  behind_says low =
      sym (in_parts
      ∙ ap (λ b. b || (touches first last m || says ys)) (none_in_front first last m xs ys low halves.order)
      ∙ ap (λ b. b || says ys) (ends_before first last m.start m.end m.end (omega arith) low))

  pub found_here : first ≤ m.end → m.start ≤ last → true ≡ says all
  found_here below above =
      or_true (says xs) (says ys)
      ∙ ap (λ b. says xs || (b || says ys)) (sym (touching first last m.start m.end below above))
      ∙ sym in_parts

  pub front_says : last < m.start → says xs ≡ says all
  front_says high =
      or_none (says xs)
      ∙ ap (λ b. says xs || b) (sym (ap (λ b. b || says ys) (begins_behind first last m.start m.start m.end (omega arith) high) ∙ none_behind first last m ys high halves.back.0))
      ∙ sym in_parts
    where
      or_none : (b : Bool) → b ≡ (b || false)
      or_none true = refl
      or_none false = refl

-- ---- a range is put in its place

module _ (r : Span) (items : List Span) (ended begun : ℕ) (rising : IsRising items) (le : begun ≤ ended)
    (front : AllByRecursion (λ (x : Span). nat_lt x.end r.end ≡ true) (take ended items)) (back : AllByRecursion (λ (y : Span). nat_lt y.end r.end ≡ false) (drop ended items))
    (first : AllByRecursion (λ (x : Span). nat_lt x.start r.start ≡ true) (take begun (take ended items)))
    (others : AllByRecursion (λ (x : Span). nat_lt x.start r.start ≡ false) (drop begun (take ended items)))
    (later : begins_by r.start (drop ended items) ≡ false) where
  abbrev made : List Span
  made = take begun items ++ r ∷ drop ended items

  parts : (take begun (take ended items) ++ drop begun (take ended items)) ++ drop ended items ≡ items
  parts = ap (λ (xs : List Span). xs ++ drop ended items) (take-append-drop begun (take ended items)) ∙ take-append-drop ended items

  in_front : AllByRecursion (λ (x : Span). nat_lt x.end r.end ≡ true) (take begun (take ended items) ++ drop begun (take ended items))
  in_front = subst (AllByRecursion (λ (x : Span). nat_lt x.end r.end ≡ true)) (sym (take-append-drop begun (take ended items))) front

  pub made_rises : IsRising made
  made_rises =
      subst (λ (xs : List Span). IsRising (xs ++ r ∷ drop ended items)) (take-take begun ended items le)
      (rising_with r (take begun (take ended items)) (drop begun (take ended items)) (drop ended items) (subst IsRising (sym parts) rising) in_front back first others later)

  pub made_meets : (a b : ℕ) → list_any (touches a b) made ≡ (touches a b r || list_any (touches a b) items)
  made_meets a b =
      ap (λ (xs : List Span). list_any (touches a b) (xs ++ r ∷ drop ended items)) (sym (take-take begun ended items le))
      ∙ meets_with r (take begun (take ended items)) (drop begun (take ended items)) (drop ended items) (subst IsRising (sym parts) rising) in_front back first others later a b
      ∙ ap (λ (xs : List Span). touches a b r || list_any (touches a b) xs) parts

-- one that is covered changes nothing
pub kept_meets : (r : Span) (items : List Span) (ended : ℕ) → AllByRecursion (λ (y : Span). nat_lt y.end r.end ≡ false) (drop ended items) → begins_by r.start (drop ended items) ≡ true
    → (a b : ℕ) → list_any (touches a b) items ≡ (touches a b r || list_any (touches a b) items)
kept_meets r items ended back by a b =
    subst (λ (xs : List Span). list_any (touches a b) xs ≡ (touches a b r || list_any (touches a b) xs)) (take-append-drop ended items)
    (kept_ranges a b r (take ended items) (drop ended items) back by)

-- what is so of the list that was made, and of the one that was kept
pub by_result : {A E : Type 0} (P : List Span → Type 0) (r : Result A E) (new old other : List Span) → OnOk r (new ≡ other) → OnErr r (new ≡ old) → P other → P old → P new
by_result P (Ok x) new old other put kept is was = subst P (sym put) is
by_result P (Err e) new old other put kept is was = subst P (sym kept) was

pub on_ok : {A E : Type 0} (P : List Span → Type 0) (r : Result A E) (new other : List Span) → OnOk r (new ≡ other) → P other → OnOk r (P new)
on_ok P (Ok x) new other put is = subst P (sym put) is
on_ok P (Err e) new other put is = tt

-- that, as the parts of a slice tell it
pub record Made (r : Span) (items other : List Span) : Type 0 where
  pub rises : IsRising other
  pub meets : (a b : ℕ) → list_any (touches a b) other ≡ (touches a b r || list_any (touches a b) items)

pub made_is : (r : Span) (items shown front back : List Span) (ended begun : ℕ) → IsRising items → shown ≡ items → front ≡ take ended shown → back ≡ drop ended shown → begun ≤ ended
    → AllByRecursion (λ (x : Span). nat_lt x.end r.end ≡ true) (take ended shown) → AllByRecursion (λ (y : Span). nat_lt y.end r.end ≡ false) (drop ended shown)
    → AllByRecursion (λ (x : Span). nat_lt x.start r.start ≡ true) (take begun front) → AllByRecursion (λ (x : Span). nat_lt x.start r.start ≡ false) (drop begun front)
    → begins_by r.start back ≡ false → Made r items (take begun items ++ r ∷ drop ended items)
made_is r items shown front back ended begun rising is in_front in_back le ends_front ends_back starts_front starts_back later =
    let front_is : front ≡ take ended items = in_front ∙ ap (take ended) is in
    let back_is : back ≡ drop ended items = in_back ∙ ap (drop ended) is in
    let ends_low = subst (λ (xs : List Span). AllByRecursion (λ (x : Span). nat_lt x.end r.end ≡ true) (take ended xs)) is ends_front in
    let ends_high = subst (λ (xs : List Span). AllByRecursion (λ (x : Span). nat_lt x.end r.end ≡ false) (drop ended xs)) is ends_back in
    let starts_low = subst (λ (xs : List Span). AllByRecursion (λ (x : Span). nat_lt x.start r.start ≡ true) (take begun xs)) front_is starts_front in
    let starts_high = subst (λ (xs : List Span). AllByRecursion (λ (x : Span). nat_lt x.start r.start ≡ false) (drop begun xs)) front_is starts_back in
    let by = subst (λ (xs : List Span). begins_by r.start xs ≡ false) back_is later in
    record {
      rises = made_rises r items ended begun rising le ends_low ends_high starts_low starts_high by;
      meets = made_meets r items ended begun rising le ends_low ends_high starts_low starts_high by;
    }

-- ---- one is taken out

pub halved : {X : Type 0} (n : ℕ) (all front back ys : List X) (m : X) → front ≡ take n all → back ≡ drop n all → back ≡ m ∷ ys → front ++ m ∷ ys ≡ all
halved n all front back ys m f b e = ap (λ xs. xs ++ m ∷ ys) f ∙ ap (λ zs. take n all ++ zs) (sym e ∙ b) ∙ take-append-drop n all

pub removed : (begun ended left : ℕ) (old xs new : List Span) (r : Span) → begun ≤ ended → ended ≤ length old → 0 < left → left ≤ ended - begun
    → xs ≡ take begun old ++ r ∷ drop (ended - left) old → new ≡ take (begun + 1) xs ++ drop (begun + 1 + 1) xs → new ≡ take begun old ++ r ∷ drop (ended - (left - 1)) old
removed begun ended left old xs new r order within some few is made =
    let front = take begun old in
    let rest = drop (ended - left) old in
    let all = front ++ r ∷ rest in
    let len : length front ≡ begun = length-take-le begun old (omega arith) in
    let one : begun + 1 ≡ suc (length front) = omega (arith, len) in
    let two : begun + 1 + 1 ≡ suc (suc (length front)) = omega (arith, len) in
    let next : ended - left + 1 ≡ ended - (left - 1) = omega arith in
    made
    ∙ ap (λ (zs : List Span). take (begun + 1) zs ++ drop (begun + 1 + 1) zs) is
    ∙ ap (λ (n : ℕ). take n all ++ drop (begun + 1 + 1) all) one
    ∙ ap (λ (n : ℕ). take (suc (length front)) all ++ drop n all) two
    ∙ without_next front r rest
    ∙ ap (λ (zs : List Span). front ++ r ∷ zs) (drop-drop 1 (ended - left) old ∙ ap (λ (n : ℕ). drop n old) next)
