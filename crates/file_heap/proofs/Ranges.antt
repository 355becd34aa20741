-- Ranges that are counted: lists that have the same ranges cover the same bytes.
use Rattle.std.proofs.Common.{add_assoc, ◌≡◌, ℕ, zero, suc, refl, sym, ◌∙◌, ap, subst, arith, List, [], ◌∷◌, ◌++◌, length, filter, ◌+◌, ◌<◌, ◌≤◌, Bool, true, false, cond}
use Rattle.std.proofs.lemmas.Bool.Decides.{nat_tests}
use Rattle.std.specs.Prelude.{Option, Some, slice_get, slice_set, ◌==◌, ◌&&◌}
use Rattle.adf_format.specs.declared.types.Extent.{Extent}
use Rattle.adf_format.specs.declared.types.ExtentKind.{ExtentKind}
use Rattle.adf_format.specs.Tiles.{cover, is_free, is_filler, is_free_kind, is_filler_kind}
use Rattle.adf_format.specs.LaysOut.{count_of, HasSameRanges}
use Rattle.adf_format.proofs.HeapLaws.{in_range}
use Rattle.adf_format.proofs.BehindEnd.{counts_itself}

-- ---- weights

-- the sum of a weight over the ranges
abbrev pub weigh : (ℕ → ℕ → ℕ) → List Extent → ℕ
weigh f [] = 0
weigh f (e ∷ es) = f e.place e.length + weigh f es

pub weigh-append : (f : ℕ → ℕ → ℕ) (xs ys : List Extent) → weigh f (xs ++ ys) ≡ weigh f xs + weigh f ys
weigh-append f [] ys = omega arith
weigh-append f (x ∷ xs) ys = ap (λ n. f x.place x.length + n) (weigh-append f xs ys) ∙ sym (add_assoc (f x.place x.length) (weigh f xs) (weigh f ys))

-- one of the ranges taken out
pub weigh_without : (f : ℕ → ℕ → ℕ) (before : List Extent) (g : Extent) (after : List Extent) → weigh f (before ++ g ∷ after) ≡ f g.place g.length + weigh f (before ++ after)
weigh_without f [] g after = refl
weigh_without f (b ∷ bs) g after = plain (f b.place b.length) (weigh f (bs ++ g ∷ after)) (f g.place g.length) (weigh f (bs ++ after)) (weigh_without f bs g after)
  where
    plain : (b w g r : ℕ) → w ≡ g + r → b + w ≡ g + (b + r)
    plain b w g r e = omega arith

abbrev pub here : ℕ → ℕ → ℕ → ℕ → ℕ
here place n p l = cond ((p == place) && (l == n)) 1 0

abbrev pub one_each : ℕ → ℕ → ℕ
one_each p l = 1

pub count_weighs : (place n : ℕ) (xs : List Extent) → count_of place n xs ≡ weigh (here place n) xs
count_weighs place n [] = refl
count_weighs place n (x ∷ xs) = ap (λ k. here place n x.place x.length + k) (count_weighs place n xs)

pub cover_weighs : (b : ℕ) (xs : List Extent) → cover xs b ≡ weigh (λ p l. in_range p l b) xs
cover_weighs b [] = refl
cover_weighs b (x ∷ xs) = ap (λ k. in_range x.place x.length b + k) (cover_weighs b xs)

length_weighs : (xs : List Extent) → length xs ≡ weigh one_each xs
length_weighs [] = refl
length_weighs (x ∷ xs) = let r = length_weighs xs in omega (arith, r)

-- ---- a range that is counted

pub record IsPicked (place n : ℕ) (xs : List Extent) : Type 0 where
  pub before : List Extent
  pub chunk : Extent
  pub after : List Extent
  pub is : xs ≡ before ++ chunk ∷ after
  pub here : chunk.place ≡ place
  pub long : chunk.length ≡ n

test_tells : (a b c d : ℕ) → ((a == b) && (c == d)) ≡ true → (a ≡ b) × (c ≡ d)
test_tells a b c d e = by_first (a == b) refl e
  where
    number : (a b : ℕ) → (a == b) ≡ true → a ≡ b
    number a b t = grind (arith, nat_tests)

    by_first : (t : Bool) → (a == b) ≡ t → (t && (c == d)) ≡ true → (a ≡ b) × (c ≡ d)
    by_first true p q = (number a b p, number c d q)
    by_first false p q = cc

pub test_holds : (a b c d : ℕ) → a ≡ b → c ≡ d → ((a == b) && (c == d)) ≡ true
test_holds a b c d p q = let s : (a == b) ≡ true = grind (arith, nat_tests) in let t : (c == d) ≡ true = grind (arith, nat_tests) in rw (s, t)

pub pick : (place n : ℕ) (xs : List Extent) → 0 < count_of place n xs → IsPicked place n xs
pick place n [] some = absurd (omega (arith, some))
pick place n (x ∷ xs) some = by_test (pick place n xs) ((x.place == place) && (x.length == n)) refl some
  where
    further : IsPicked place n xs → IsPicked place n (x ∷ xs)
    further p = record { before = x ∷ p.before; chunk = p.chunk; after = p.after; is = ap (λ ys. x ∷ ys) p.is; here = p.here; long = p.long }

    by_test : (0 < count_of place n xs → IsPicked place n xs) → (t : Bool) → ((x.place == place) && (x.length == n)) ≡ t → 0 < cond t 1 0 + count_of place n xs → IsPicked place n (x ∷ xs)
    by_test rest true e lt = let s = test_tells x.place place x.length n e in record { before = []; chunk = x; after = xs; is = refl; here = s.0; long = s.1 }
    by_test rest false e lt = further (rest (omega (arith, lt)))

-- what has the same ranges weighs the same
pub same_weight : (f : ℕ → ℕ → ℕ) (xs ys : List Extent) → HasSameRanges xs ys → weigh f xs ≡ weigh f ys
same_weight f [] [] same = refl
same_weight f [] (y ∷ ys) same = let none = same y.place y.length in let some = counts_itself y ys in absurd (omega (arith, none, some))
same_weight f (x ∷ xs) ys same =
    let p : IsPicked x.place x.length ys = pick x.place x.length ys (subst (λ k. 0 < k) (same x.place x.length) (counts_itself x xs)) in
    let rest : HasSameRanges xs (p.before ++ p.after) = λ place n. one_less place n p in
    ap (λ k. f x.place x.length + k) (same_weight f xs (p.before ++ p.after) rest)
    ∙ sym (ap (weigh f) p.is ∙ weigh_without f p.before p.chunk p.after ∙ ap (λ k. f k p.chunk.length + weigh f (p.before ++ p.after)) p.here ∙ ap (λ k. f x.place k + weigh f (p.before ++ p.after)) p.long)
  where
    plain : (a b c d : ℕ) → a + b ≡ c → c ≡ a + d → b ≡ d
    plain a b c d e f = omega (arith, e, f)

    one_less : (place n : ℕ) (p : IsPicked x.place x.length ys) → count_of place n xs ≡ count_of place n (p.before ++ p.after)
    one_less place n p =
        plain (here place n x.place x.length) (count_of place n xs) (count_of place n ys) (count_of place n (p.before ++ p.after)) (same place n)
        (ap (count_of place n) p.is ∙ count_weighs place n (p.before ++ p.chunk ∷ p.after) ∙ weigh_without (here place n) p.before p.chunk p.after
        ∙ ap (λ k. here place n k p.chunk.length + weigh (here place n) (p.before ++ p.after)) p.here ∙ ap (λ k. here place n x.place k + weigh (here place n) (p.before ++ p.after)) p.long
        ∙ ap (λ k. here place n x.place x.length + k) (sym (count_weighs place n (p.before ++ p.after))))

pub same_cover : (xs ys : List Extent) → HasSameRanges xs ys → (b : ℕ) → cover xs b ≡ cover ys b
same_cover xs ys same b = cover_weighs b xs ∙ same_weight (λ p l. in_range p l b) xs ys same ∙ sym (cover_weighs b ys)

pub same_length : (xs ys : List Extent) → HasSameRanges xs ys → length xs ≡ length ys
same_length xs ys same = length_weighs xs ∙ same_weight one_each xs ys same ∙ sym (length_weighs ys)

pub cover_without : (b : ℕ) (before : List Extent) (g : Extent) (after : List Extent) → cover (before ++ g ∷ after) b ≡ in_range g.place g.length b + cover (before ++ after) b
cover_without b before g after =
    cover_weighs b (before ++ g ∷ after) ∙ weigh_without (λ p l. in_range p l b) before g after ∙ ap (λ k. in_range g.place g.length b + k) (sym (cover_weighs b (before ++ after)))

pub count_without : (place n : ℕ) (before : List Extent) (g : Extent) (after : List Extent) → count_of place n (before ++ g ∷ after) ≡ here place n g.place g.length + count_of place n (before ++ after)
count_without place n before g after =
    count_weighs place n (before ++ g ∷ after) ∙ weigh_without (here place n) before g after ∙ ap (λ k. here place n g.place g.length + k) (sym (count_weighs place n (before ++ after)))

-- ---- bytes of a range

pub holds_first : (p n : ℕ) → 0 < n → in_range p n p ≡ 1
holds_first p n pos = grind (arith, nat_tests)

pub holds_inner : (p n b : ℕ) → p ≤ b → b < p + n → in_range p n b ≡ 1
holds_inner p n b low high = grind (arith, nat_tests)

-- where no byte is covered twice, a place begins one range at most
pub one_length : (place a b : ℕ) (xs : List Extent) → cover xs place ≤ 1 → 0 < a → 0 < b → 0 < count_of place a xs → 0 < count_of place b xs → a ≡ b
one_length place a b xs once pa pb ca cb = by_rest (pick place a xs ca)
  where
    clash : (n : ℕ) → 1 + n ≤ 1 → 0 < n → ⊥
    clash n h k = omega (arith, h, k)

    same_of : (c : ℕ) (g : Extent) → ((g.place == place) && (g.length == c)) ≡ true → g.length ≡ c
    same_of c g e = (test_tells g.place place g.length c e).1

    covers : (ys : List Extent) → IsPicked place b ys → 0 < cover ys place
    covers ys q =
        let first : in_range q.chunk.place q.chunk.length place ≡ 1 = holds_inner q.chunk.place q.chunk.length place (let e = q.here in omega (arith, e)) (let e = q.here in let l = q.long in omega (arith, e, l, pb)) in
        let all : cover ys place ≡ in_range q.chunk.place q.chunk.length place + cover (q.before ++ q.after) place = ap (λ zs. cover zs place) q.is ∙ cover_without place q.before q.chunk q.after in
        omega (arith, first, all)

    by_rest : IsPicked place a xs → a ≡ b
    by_rest p = by_test ((p.chunk.place == place) && (p.chunk.length == b)) refl counted
      where
        counted : 0 < here place b p.chunk.place p.chunk.length + count_of place b (p.before ++ p.after)
        counted = subst (λ k. 0 < k) (ap (count_of place b) p.is ∙ count_without place b p.before p.chunk p.after) cb

        first : in_range p.chunk.place p.chunk.length place ≡ 1
        first = holds_inner p.chunk.place p.chunk.length place (let e = p.here in omega (arith, e)) (let e = p.here in let l = p.long in omega (arith, e, l, pa))

        all : cover xs place ≡ in_range p.chunk.place p.chunk.length place + cover (p.before ++ p.after) place
        all = ap (λ zs. cover zs place) p.is ∙ cover_without place p.before p.chunk p.after

        by_test : (t : Bool) → ((p.chunk.place == place) && (p.chunk.length == b)) ≡ t → 0 < cond t 1 0 + count_of place b (p.before ++ p.after) → a ≡ b
        by_test true e lt = sym p.long ∙ same_of b p.chunk e
        by_test false e lt =
            let more = covers (p.before ++ p.after) (pick place b (p.before ++ p.after) (omega (arith, lt))) in
            absurd (clash (cover (p.before ++ p.after) place) (omega (arith, once, all, first)) more)

-- ---- lists of lists

abbrev pub flat : List (List Extent) → List Extent
flat [] = []
flat (xs ∷ xss) = xs ++ flat xss

-- one of the lists replaced
pub weigh_set : (f : ℕ → ℕ → ℕ) (lists : List (List Extent)) (k : ℕ) (fs ys : List Extent) → slice_get lists k ≡ Some fs → weigh f (flat (slice_set lists k ys)) + weigh f fs ≡ weigh f (flat lists) + weigh f ys
weigh_set f [] k fs ys at = cc
weigh_set f (x ∷ xs) zero fs ys at =
    let same : x ≡ fs = same_list x fs at in
    plain (weigh f (ys ++ flat xs)) (weigh f fs) (weigh f (x ++ flat xs)) (weigh f ys) (weigh f (flat xs)) (weigh-append f ys (flat xs)) (weigh-append f x (flat xs) ∙ ap (λ zs. weigh f zs + weigh f (flat xs)) same)
  where
    same_list : (a b : List Extent) → ◌≡◌ {A = Option (List Extent)} (Some a) (Some b) → a ≡ b
    same_list a b e = cc

    plain : (a b c d r : ℕ) → a ≡ d + r → c ≡ b + r → a + b ≡ c + d
    plain a b c d r e h = omega (arith, e, h)
weigh_set f (x ∷ xs) (suc k) fs ys at =
    plain (weigh f (x ++ flat (slice_set xs k ys))) (weigh f fs) (weigh f (x ++ flat xs)) (weigh f ys) (weigh f x) (weigh f (flat (slice_set xs k ys))) (weigh f (flat xs))
    (weigh-append f x (flat (slice_set xs k ys))) (weigh-append f x (flat xs)) (weigh_set f xs k fs ys at)
  where
    plain : (a b c d x s r : ℕ) → a ≡ x + s → c ≡ x + r → s + b ≡ r + d → a + b ≡ c + d
    plain a b c d x s r e g h = omega (arith, e, g, h)

pub cover_set : (b : ℕ) (lists : List (List Extent)) (k : ℕ) (fs ys : List Extent) → slice_get lists k ≡ Some fs → cover (flat (slice_set lists k ys)) b + cover fs b ≡ cover (flat lists) b + cover ys b
cover_set b lists k fs ys at =
    ap (λ n. n + cover fs b) (cover_weighs b (flat (slice_set lists k ys))) ∙ ap (λ n. weigh (λ p l. in_range p l b) (flat (slice_set lists k ys)) + n) (cover_weighs b fs)
    ∙ weigh_set (λ p l. in_range p l b) lists k fs ys at
    ∙ sym (ap (λ n. n + cover ys b) (cover_weighs b (flat lists)) ∙ ap (λ n. weigh (λ p l. in_range p l b) (flat lists) + n) (cover_weighs b ys))

pub count_set : (place n : ℕ) (lists : List (List Extent)) (k : ℕ) (fs ys : List Extent) → slice_get lists k ≡ Some fs
    → count_of place n (flat (slice_set lists k ys)) + count_of place n fs ≡ count_of place n (flat lists) + count_of place n ys
count_set place n lists k fs ys at =
    ap (λ m. m + count_of place n fs) (count_weighs place n (flat (slice_set lists k ys))) ∙ ap (λ m. weigh (here place n) (flat (slice_set lists k ys)) + m) (count_weighs place n fs)
    ∙ weigh_set (here place n) lists k fs ys at
    ∙ sym (ap (λ m. m + count_of place n ys) (count_weighs place n (flat lists)) ∙ ap (λ m. weigh (here place n) (flat lists) + m) (count_weighs place n ys))

-- a list is covered by all of them
pub cover_in : (b : ℕ) (lists : List (List Extent)) (k : ℕ) (fs : List Extent) → slice_get lists k ≡ Some fs → cover fs b ≤ cover (flat lists) b
cover_in b lists k fs at = let e = cover_set b lists k fs [] at in omega (arith, e)

pub count_in : (place n : ℕ) (lists : List (List Extent)) (k : ℕ) (fs : List Extent) → slice_get lists k ≡ Some fs → count_of place n fs ≤ count_of place n (flat lists)
count_in place n lists k fs at = let e = count_set place n lists k fs [] at in omega (arith, e)

pub count-append : (place n : ℕ) (xs ys : List Extent) → count_of place n (xs ++ ys) ≡ count_of place n xs + count_of place n ys
count-append place n xs ys = count_weighs place n (xs ++ ys) ∙ weigh-append (here place n) xs ys ∙ sym (ap (λ m. m + count_of place n ys) (count_weighs place n xs) ∙ ap (λ m. weigh (here place n) xs + m) (count_weighs place n ys))

-- ---- free chunks and fillers among gaps

not_filler : (kind : ExtentKind) → is_free_kind kind ≡ true → is_filler_kind kind ≡ false
not_filler ExtentKind.FreeChunk e = refl
not_filler ExtentKind.Header e = cc
not_filler ExtentKind.FreeTable e = cc
not_filler ExtentKind.Node e = cc
not_filler ExtentKind.SubNodes e = cc
not_filler ExtentKind.DataChunk e = cc
not_filler ExtentKind.ChunkTable e = cc
not_filler ExtentKind.Filler e = cc

-- no gap is both
pub cover_kinds : (b : ℕ) (gaps : List Extent) → cover (filter is_free gaps) b + cover (filter is_filler gaps) b ≤ cover gaps b
cover_kinds b [] = omega arith
cover_kinds b (g ∷ gs) = by_free (cover_kinds b gs) (is_free g) refl (is_filler g) refl
  where
    by_free : cover (filter is_free gs) b + cover (filter is_filler gs) b ≤ cover gs b → (t : Bool) → is_free g ≡ t → (u : Bool) → is_filler g ≡ u
        → cover (cond t (g ∷ filter is_free gs) (filter is_free gs)) b + cover (cond u (g ∷ filter is_filler gs) (filter is_filler gs)) b ≤ in_range g.place g.length b + cover gs b
    by_free rest true e true f = both (is_filler g) (not_filler g.kind e) f
      where
        both : {P : Type 0} (t : Bool) → t ≡ false → t ≡ true → P
        both t p q = cc
    by_free rest true e false f = omega (arith, rest)
    by_free rest false e true f = omega (arith, rest)
    by_free rest false e false f = omega (arith, rest)

pub length_kind : (p : Extent → Bool) (gaps : List Extent) → length (filter p gaps) ≤ length gaps
length_kind p [] = omega arith
length_kind p (g ∷ gs) = by_test (length_kind p gs) (p g)
  where
    by_test : length (filter p gs) ≤ length gs → (t : Bool) → length (cond t (g ∷ filter p gs) (filter p gs)) ≤ suc (length gs)
    by_test rest true = omega (arith, rest)
    by_test rest false = omega (arith, rest)

pub filter-append : (p : Extent → Bool) (xs ys : List Extent) → filter p (xs ++ ys) ≡ filter p xs ++ filter p ys
filter-append p [] ys = refl
filter-append p (x ∷ xs) ys = by_test (filter-append p xs ys) (p x)
  where
    by_test : filter p (xs ++ ys) ≡ filter p xs ++ filter p ys → (t : Bool) → cond t (x ∷ filter p (xs ++ ys)) (filter p (xs ++ ys)) ≡ cond t (x ∷ filter p xs) (filter p xs) ++ filter p ys
    by_test rest true = ap (λ zs. x ∷ zs) rest
    by_test rest false = rest
