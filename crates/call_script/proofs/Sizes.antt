-- Dimensions are found again by cutting their text at its commas, and one array holds them.
use Rattle.std.proofs.Common.{◌≡◌, ◌≢◌, ◌==◌, ℕ, suc, ◌+◌, ◌-◌, ◌<◌, ◌≤◌, ◌^◌, true, false, All, List, [], ◌∷◌, ◌++◌, refl, sym, ◌∙◌, ap, subst, arith, length, map, replicate, set, decimal, Option, Some, None, IfSome}
use Rattle.std.specs.Prelude.{codes}
use Rattle.std.specs.List.{join_with_byte}
use Rattle.std.proofs.Math.Seq.{set-append_seam}
use Rattle.std.proofs.lemmas.Fmt.{decimal_injective}
use Rattle.std.proofs.lemmas.List.{append_assoc, length-map, length-append, map-append, append-nil}
use Rattle.std.proofs.lemmas.List.Elements.{All-nil, All-cons, All-head, All-tail, All-append}
use Rattle.call_script.specs.declared.dims.Dims.{Dims}
use Rattle.call_script.specs.Tokens.{pieces_of, dims_text, filled, HoldsSizes, IsDims, AreSizes}
use Rattle.call_script.proofs.Pieces.{Lacks, AllLack, decimal_lacks, cut-joined, joined-cut, some_piece}

abbrev pub IsSmall : ℕ → Type 0
IsSmall size = size < 2 ^ 64

pub decimals_lack : (c : ℕ) → c < 48 → (sizes : List ℕ) → All IsSmall sizes → AllLack c (map decimal sizes)
decimals_lack c low [] small = tt
decimals_lack c low (size ∷ sizes) small = (decimal_lacks c size low (All-head IsSmall size sizes small), decimals_lack c low sizes (All-tail IsSmall size sizes small))

dims_pieces : (size : ℕ) (sizes : List ℕ) → All IsSmall (size ∷ sizes) → pieces_of 44 (dims_text (size ∷ sizes)) ≡ map decimal (size ∷ sizes)
dims_pieces size sizes small =
    cut-joined 44 (decimal size) (map decimal sizes) (decimal_lacks 44 size (omega arith) (All-head IsSmall size sizes small)) (decimals_lack 44 (omega arith) sizes (All-tail IsSmall size sizes small))

same_head : (x y : List ℕ) (xs ys : List (List ℕ)) → x ∷ xs ≡ y ∷ ys → x ≡ y
same_head x y xs ys e = cc

same_tail : (x y : List ℕ) (xs ys : List (List ℕ)) → x ∷ xs ≡ y ∷ ys → xs ≡ ys
same_tail x y xs ys e = cc

pub decimals_same : (xs ys : List ℕ) → All IsSmall xs → All IsSmall ys → map decimal xs ≡ map decimal ys → xs ≡ ys
decimals_same [] [] small short e = refl
decimals_same [] (y ∷ ys) small short e = absurd cc
decimals_same (x ∷ xs) [] small short e = absurd cc
decimals_same (x ∷ xs) (y ∷ ys) small short e =
    let first : x ≡ y = decimal_injective x y (All-head IsSmall x xs small) (All-head IsSmall y ys short) (same_head (decimal x) (decimal y) (map decimal xs) (map decimal ys) e) in
    let rest : xs ≡ ys = decimals_same xs ys (All-tail IsSmall x xs small) (All-tail IsSmall y ys short) (same_tail (decimal x) (decimal y) (map decimal xs) (map decimal ys) e) in
    ap (λ z. z ∷ xs) first ∙ ap (λ zs. y ∷ zs) rest

-- no number is a hyphen
no_hyphen : (size : ℕ) → size < 2 ^ 64 → codes "-" ≢ decimal size
no_hyphen size small e =
    let lacks : Lacks 45 (codes "-") = subst (Lacks 45) (sym e) (decimal_lacks 45 size (omega arith) small) in
    let differs : true ≡ false = All-head (λ b. (b == 45) ≡ false) 45 [] lacks in
    cc

hyphen_alone : (size : ℕ) (sizes : List ℕ) → All IsSmall (size ∷ sizes) → codes "-" ≢ dims_text (size ∷ sizes)
hyphen_alone size sizes small e =
    let pieces : codes "-" ∷ [] ≡ map decimal (size ∷ sizes) = ap (pieces_of 44) e ∙ dims_pieces size sizes small in
    no_hyphen size (All-head IsSmall size sizes small) (same_head (codes "-") (decimal size) [] (map decimal sizes) pieces)

-- two lists of dimensions are spelled differently
pub dims_apart : (xs ys : List ℕ) → All IsSmall xs → All IsSmall ys → dims_text xs ≡ dims_text ys → xs ≡ ys
dims_apart [] [] small short e = refl
dims_apart [] (y ∷ ys) small short e = absurd (hyphen_alone y ys short e)
dims_apart (x ∷ xs) [] small short e = absurd (hyphen_alone x xs small (sym e))
dims_apart (x ∷ xs) (y ∷ ys) small short e = decimals_same (x ∷ xs) (y ∷ ys) small short (sym (dims_pieces x xs small) ∙ ap (pieces_of 44) e ∙ dims_pieces y ys short)

-- a token spells the dimensions of one array at most
pub dims_same : (token : List ℕ) (one other : Dims) → IsDims token one → IsDims token other → one ≡ other
dims_same token one other h k =
    let sizes : h.0 ≡ k.0 = dims_apart h.0 k.0 h.2.small k.2.small (sym h.1 ∙ k.1) in
    let ranks : one.rank ≡ other.rank = h.2.rank_is ∙ ap length sizes ∙ sym k.2.rank_is in
    let arrays : one.sizes ≡ other.sizes = h.2.sizes_are ∙ ap filled sizes ∙ sym k.2.sizes_are in
    ap (λ rank. make rank one.sizes) ranks ∙ ap (λ sizes. make other.rank sizes) arrays
  where
    make : ℕ → List ℕ → Dims
    make rank sizes = record { rank = rank; sizes = sizes }

-- a comma cannot stand in a token of a line, nor a space
pub dims_lack_space : (token : List ℕ) (dims : Dims) → IsDims token dims → Lacks 32 token
dims_lack_space token dims h = subst (Lacks 32) (sym h.1) (text_lacks h.0 h.2.small)
  where
    joined_lacks : (piece : List ℕ) (pieces : List (List ℕ)) → Lacks 32 piece → AllLack 32 pieces → Lacks 32 (join_with_byte 44 (piece ∷ pieces))
    joined_lacks piece [] none others = none
    joined_lacks piece (next ∷ pieces) none others =
        All-append (λ b. (b == 32) ≡ false) piece (44 ∷ join_with_byte 44 (next ∷ pieces)) none
        (All-cons (λ b. (b == 32) ≡ false) 44 (join_with_byte 44 (next ∷ pieces)) refl (joined_lacks next pieces others.0 others.1))

    text_lacks : (sizes : List ℕ) → All IsSmall sizes → Lacks 32 (dims_text sizes)
    text_lacks [] small = All-cons (λ b. (b == 32) ≡ false) 45 [] refl (All-nil (λ b. (b == 32) ≡ false))
    text_lacks (size ∷ sizes) small =
        joined_lacks (decimal size) (map decimal sizes) (decimal_lacks 32 size (omega arith) (All-head IsSmall size sizes small)) (decimals_lack 32 (omega arith) sizes (All-tail IsSmall size sizes small))

-- ---- reading

-- a hyphen is no dimensions
pub hyphen_dims : (token : List ℕ) (dims : Dims) → token ≡ codes "-" → dims.rank ≡ 0 → dims.sizes ≡ replicate 12 0 → IsDims token dims
hyphen_dims token dims e rank sizes = ([], e, record { count = omega arith; small = All-nil IsSmall; rank_is = rank; sizes_are = sizes })

pub sizes_dims : (token : List ℕ) (dims : Dims) → AreSizes (pieces_of 44 token) dims → IsDims token dims
sizes_dims token dims h = by_count h.0 h.1 h.2
  where
    by_count : (sizes : List ℕ) → pieces_of 44 token ≡ map decimal sizes → HoldsSizes dims sizes → IsDims token dims
    by_count [] e holds = absurd (some_piece 44 token e)
    by_count (size ∷ sizes) e holds = (size ∷ sizes, joined-cut 44 token ∙ ap (join_with_byte 44) e, holds)

pub dims_sizes : (token : List ℕ) (dims : Dims) → token ≢ codes "-" → IsDims token dims → AreSizes (pieces_of 44 token) dims
dims_sizes token dims other h = by_count h.0 h.1 h.2
  where
    by_count : (sizes : List ℕ) → token ≡ dims_text sizes → HoldsSizes dims sizes → AreSizes (pieces_of 44 token) dims
    by_count [] e holds = absurd (other e)
    by_count (size ∷ sizes) e holds = (size ∷ sizes, ap (pieces_of 44) e ∙ dims_pieces size sizes holds.small, holds)

-- some first pieces were read
pub record HasSizes (pieces left : List (List ℕ)) (rank : ℕ) (array : List ℕ) : Type 0 where
  pub done : List ℕ
  pub rank_is : rank ≡ length done
  pub array_is : array ≡ filled done
  pub small : All IsSmall done
  pub split : pieces ≡ map decimal done ++ left
  pub bound : rank ≤ 12

pub no_sizes : (pieces : List (List ℕ)) → HasSizes pieces pieces 0 (replicate 12 0)
no_sizes pieces = record { done = []; rank_is = refl; array_is = refl; small = All-nil IsSmall; split = refl; bound = omega arith }

filled_more : (done : List ℕ) (size : ℕ) → length done < 12 → set (filled done) (length done) size ≡ filled (done ++ size ∷ [])
filled_more done size short =
    let more : 12 - length done ≡ suc (11 - length done) = omega arith in
    let count : length (done ++ size ∷ []) ≡ length done + 1 = length-append done (size ∷ []) in
    let less : 11 - length done ≡ 12 - length (done ++ size ∷ []) = omega arith in
    ap (λ n. set (done ++ replicate n 0) (length done) size) more ∙ set-append_seam done 0 (replicate (11 - length done) 0) size
    ∙ sym (append_assoc done (size ∷ []) (replicate (11 - length done) 0)) ∙ ap (λ n. done ++ size ∷ [] ++ replicate n 0) less

pub size_more : (pieces left rest : List (List ℕ)) (rank size : ℕ) (array piece : List ℕ) → HasSizes pieces left rank array → rank < 12 → left ≡ piece ∷ rest → piece ≡ decimal size → size < 2 ^ 64
    → HasSizes pieces rest (rank + 1) (set array rank size)
size_more pieces left rest rank size array piece h short next is small = record {
  done = h.done ++ size ∷ [];
  rank_is = ap (λ n. n + 1) h.rank_is ∙ sym (length-append h.done (size ∷ []));
  array_is = ap (λ xs. set xs rank size) h.array_is ∙ ap (λ n. set (filled h.done) n size) h.rank_is ∙ filled_more h.done size (omega (arith, h.rank_is));
  small = All-append IsSmall h.done (size ∷ []) h.small (All-cons IsSmall size [] small (All-nil IsSmall));
  split = h.split ∙ ap (λ ps. map decimal h.done ++ ps) (next ∙ ap (λ p. p ∷ rest) is) ∙ sym (append_assoc (map decimal h.done) (decimal size ∷ []) rest) ∙ ap (λ ps. ps ++ rest) (sym (map-append decimal h.done (size ∷ [])));
  bound = omega arith;
}

pub all_sizes : (pieces left : List (List ℕ)) (dims : Dims) → HasSizes pieces left dims.rank dims.sizes → left ≡ [] → AreSizes pieces dims
all_sizes pieces left dims h end = (
  h.done,
  h.split ∙ ap (λ ps. map decimal h.done ++ ps) end ∙ append-nil (map decimal h.done),
  record {
    count = omega (arith, h.bound, h.rank_is);
    small = h.small;
    rank_is = h.rank_is;
    sizes_are = h.array_is;
  },
)

-- a piece behind the first ones is a number
piece_is : (sizes done : List ℕ) (piece : List ℕ) (rest : List (List ℕ)) → All IsSmall sizes → map decimal sizes ≡ map decimal done ++ (piece ∷ rest) → (size : ℕ) × (size < 2 ^ 64) × (piece ≡ decimal size)
piece_is [] [] piece rest small e = absurd cc
piece_is [] (d ∷ done) piece rest small e = absurd cc
piece_is (size ∷ sizes) [] piece rest small e = (size, All-head IsSmall size sizes small, sym (same_head (decimal size) piece (map decimal sizes) rest e))
piece_is (size ∷ sizes) (d ∷ done) piece rest small e = piece_is sizes done piece rest (All-tail IsSmall size sizes small) (same_tail (decimal size) (decimal d) (map decimal sizes) (map decimal done ++ (piece ∷ rest)) e)

pub too_many : (pieces left rest : List (List ℕ)) (rank : ℕ) (array piece : List ℕ) → HasSizes pieces left rank array → 12 ≤ rank → left ≡ piece ∷ rest → (dims : Dims) → AreSizes pieces dims → ⊥
too_many pieces left rest rank array piece h many next dims k =
    let both : map decimal k.0 ≡ map decimal h.done ++ (piece ∷ rest) = sym k.1 ∙ h.split ∙ ap (λ ps. map decimal h.done ++ ps) next in
    absurd (omega (arith, ap length both, length-map k.0 decimal, length-map h.done decimal, length-append (map decimal h.done) (piece ∷ rest), k.2.count, h.rank_is))

pub no_size : (pieces left rest : List (List ℕ)) (rank : ℕ) (array piece : List ℕ) → HasSizes pieces left rank array → left ≡ piece ∷ rest → ((size : ℕ) → size < 2 ^ 64 → piece ≢ decimal size) → (dims : Dims) → AreSizes pieces dims → ⊥
no_size pieces left rest rank array piece h next none dims k =
    let both : map decimal k.0 ≡ map decimal h.done ++ (piece ∷ rest) = sym k.1 ∙ h.split ∙ ap (λ ps. map decimal h.done ++ ps) next in
    let is = piece_is k.0 h.done piece rest k.2.small both in
    none is.0 is.1 is.2

-- ---- what reading a token says

pub dims_found : (token : List ℕ) (pieces : List (List ℕ)) (r : Option Dims) → pieces ≡ pieces_of 44 token → IfSome r (AreSizes pieces) → IfSome r (IsDims token)
dims_found token pieces (Some dims) e h = sizes_dims token dims (subst (λ ps. AreSizes ps dims) e h)
dims_found token pieces None e h = tt

pub dims_missing : (token : List ℕ) (pieces : List (List ℕ)) → pieces ≡ pieces_of 44 token → token ≢ codes "-" → ((dims : Dims) → AreSizes pieces dims → ⊥) → (dims : Dims) → IsDims token dims → ⊥
dims_missing token pieces e other none dims h = none dims (subst (λ ps. AreSizes ps dims) (sym e) (dims_sizes token dims other h))
