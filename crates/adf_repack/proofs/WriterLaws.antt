-- Bytes that are put into a block, and blocks that are written behind whole blocks.
use Rattle.std.proofs.Common.{◌≡◌, ℕ, ◌+◌, ◌-◌, ◌*◌, ◌≤◌, ◌<◌, List, [], ◌++◌, length, take, drop, replicate, refl, sym, ◌∙◌, ap, arith, inl, inr, append_assoc, length-append, length-take, min, Option, None, Some, IfSome}
use Rattle.std.specs.Option.{option_map}
use Rattle.std.proofs.Math.Seq.{take-add}
use Rattle.std.proofs.lemmas.List.{append-nil, get_or_append_left, get_or-append_right, length-replicate, take-take, take-replicate}
use Rattle.std.proofs.lemmas.Bool.{cases_lt}
use Rattle.std.proofs.lemmas.Grind.{same_number_lists}
use Rattle.adf_model.specs.Counts.{raised_by}
use Rattle.cg_io.specs.Device.{DeviceState, padded, overwritten, with_block}
use Rattle.cg_io.proofs.Places.{length-overwritten, overwritten-below, overwritten-within}
use Rattle.adf_repack.specs.Writers.{with_more, blocks_for, in_blocks, WritesBlocks}

-- ---- bytes that are told

-- two pieces behind one another
pub more_then : (b : Option (List ℕ)) (xs ys : List ℕ) → with_more (with_more b xs) ys ≡ with_more b (xs ++ ys)
more_then None xs ys = refl
more_then (Some b) xs ys = ap Some (append_assoc b xs ys)

-- nothing behind them
pub more_none : (b : Option (List ℕ)) → with_more b [] ≡ b
more_none None = refl
more_none (Some b) = ap Some (append-nil b)

-- one piece more of some bytes
pub more_of : (b : Option (List ℕ)) (bytes : List ℕ) (n m : ℕ) → with_more (with_more b (take n bytes)) (take m (drop n bytes)) ≡ with_more b (take (n + m) bytes)
more_of b bytes n m = more_then b (take n bytes) (take m (drop n bytes)) ∙ ap (with_more b) (sym (take-add n m bytes))

-- ---- a block

-- zeros that are put behind some bytes, from a row of them that is long enough
pub zeros_put : (old new zeros : List ℕ) (size n m : ℕ) → zeros ≡ replicate size 0 → n ≡ min m (length (take m zeros)) → m ≤ size
    → new ≡ old ++ take n (take m zeros) → new ≡ old ++ replicate m 0
zeros_put old new zeros size n m are count le is = is ∙ ap (λ (l : List ℕ). old ++ l) (ap (λ (k : ℕ). take k (take m zeros)) all
    ∙ take-take m m zeros (omega arith) ∙ ap (λ (l : List ℕ). take m l) are ∙ take-replicate m size 0 le)
  where
    all : n ≡ m
    all = omega (arith, count, le, length-take m zeros, ap length are, length-replicate {A = ℕ} size 0)

-- ---- blocks

behind : (bytes block : List ℕ) (n : ℕ) → length bytes ≡ n → overwritten bytes n block ≡ bytes ++ block
behind bytes block n long =
    same_number_lists _ _ (omega (arith, long, length-overwritten bytes n block, length-append bytes block))
    (λ k lt. elim (cases_lt k n) [
      | inl below ↦ overwritten-below bytes n block k below ∙ sym (get_or_append_left bytes block 0 k (omega (arith, long, below)))
      | inr past ↦ overwritten-within bytes n block k past (omega (arith, lt, long, length-overwritten bytes n block)) ∙ sym (get_or-append_right bytes block n k 0 long past)
    ])

-- a block that is written behind whole blocks
pub written_behind : (held : Option (List ℕ)) (n : ℕ) (block : List ℕ) → IfSome held (λ bytes. length bytes ≡ n * 4096) → with_block held n block ≡ with_more held block
written_behind None n block long = refl
written_behind (Some bytes) n block long = ap Some (behind bytes block (n * 4096) long)

pub longer_by_block : (held : Option (List ℕ)) (n : ℕ) (block : List ℕ) → length block ≡ 4096 → IfSome held (λ bytes. length bytes ≡ n * 4096)
    → IfSome (with_more held block) (λ bytes. length bytes ≡ (n + 1) * 4096)
longer_by_block None n block size long = tt
longer_by_block (Some bytes) n block size long = omega (arith, size, long, length-append bytes block)

-- ---- the last block

rest : (n f : ℕ) (bytes : List ℕ) → length bytes ≡ n * 4096 + f → 0 < f → f ≤ 4096 → 4096 - f ≡ blocks_for (length bytes) * 4096 - length bytes
rest n f bytes long some few = rw long (omega arith)

-- zeros up to its end
pub zeros_behind : (held : Option (List ℕ)) (n f : ℕ) (tail : List ℕ) → IfSome held (λ bytes. length bytes ≡ n * 4096) → length tail ≡ f → 0 < f → f ≤ 4096
    → with_more held (tail ++ replicate (4096 - f) 0) ≡ option_map in_blocks (with_more held tail)
unfolding padded
zeros_behind None n f tail whole long some few = refl
zeros_behind (Some bytes) n f tail whole long some few = ap Some (sym (append_assoc bytes tail (replicate (4096 - f) 0))
    ∙ ap (λ (k : ℕ). (bytes ++ tail) ++ replicate k 0) (rest n f (bytes ++ tail) (omega (arith, whole, long, length-append bytes tail)) some few))

none_left : (n : ℕ) (bytes : List ℕ) → length bytes ≡ n * 4096 → blocks_for (length bytes) * 4096 - length bytes ≡ 0
none_left n bytes long = rw long (omega arith)

-- and where nothing waits, none
pub whole_blocks : (held : Option (List ℕ)) (n : ℕ) → IfSome held (λ bytes. length bytes ≡ n * 4096) → held ≡ option_map in_blocks held
unfolding padded
whole_blocks None n whole = refl
whole_blocks (Some bytes) n whole = ap Some (sym (ap (λ (k : ℕ). bytes ++ replicate k 0) (none_left n bytes whole) ∙ append-nil bytes))

-- ---- counts

-- blocks that are written after others
pub writes_then : (a b c : ℕ) (s t u : DeviceState) → WritesBlocks a b s t → WritesBlocks b c t u → WritesBlocks a c s u
writes_then a b c s t u first then = record { ahead = omega (arith, first.ahead, then.ahead); writes = then.writes ∙ ap (λ n. raised_by (c - b) n) first.writes ∙ omega (arith, first.ahead, then.ahead) }

pub writes_none : (a : ℕ) (s : DeviceState) → WritesBlocks a a s s
writes_none a s = record { ahead = omega arith; writes = omega arith }
