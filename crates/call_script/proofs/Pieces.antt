-- Lists cut at a byte that stands in none of the pieces.
use Rattle.std.proofs.Common.{◌≡◌, ◌==◌, ℕ, ◌<◌, ◌^◌, ◌≤◌, true, false, All, List, [], ◌∷◌, ◌++◌, refl, sym, ◌∙◌, ap, subst, arith, length, Option, Some, Bor, decimal}
use Rattle.std.specs.Prelude.{⊤}
use Rattle.std.specs.Str.Parse.{AllDigits}
use Rattle.std.proofs.lemmas.Bool.Decides.{nat_tests}
use Rattle.std.proofs.lemmas.Fmt.{decimal_is_IsNumeral}
use Rattle.std.proofs.lemmas.List.Elements.{All-nil, All-cons, All-head, All-tail, All-append}
use Rattle.std.proofs.lemmas.List.Splits.{slice_split_none, slice_split_at, length-slice_split, join_with_byte-slice_split}
use Rattle.std.proofs.lemmas.Str.Parse.{digit_from_value}
use Rattle.adf_model.specs.declared.tree.NodeId.{NodeId}
use Rattle.std.specs.List.{join_with_byte}
use Rattle.call_script.specs.Tokens.{pieces_of, left_of, node_text, IsId}

-- no byte of the list is c
abbrev pub Lacks : ℕ → List ℕ → Type 0
Lacks c bs = All (λ b. (b == c) ≡ false) bs

same_byte : (c : ℕ) → (c == c) ≡ true
same_byte c = grind (arith, nat_tests)

pub left_split : (c : ℕ) (o : Option (Bor (List ℕ))) (rest : Bor (List ℕ)) (token after : List ℕ) → o ≡ Some rest → rest.now ≡ token ++ (c ∷ after) → Lacks c token → left_of c o ≡ token ∷ pieces_of c after
left_split c o rest token after e f none = ap (left_of c) e ∙ ap (pieces_of c) f ∙ slice_split_at (λ b. b == c) token c after none (same_byte c)

pub left_whole : (c : ℕ) (o : Option (Bor (List ℕ))) (rest : Bor (List ℕ)) → o ≡ Some rest → Lacks c rest.now → left_of c o ≡ rest.now ∷ []
left_whole c o rest e none = ap (left_of c) e ∙ slice_split_none (λ b. b == c) rest.now none

-- what stands before the first such byte, and what stands behind it, are determined
pub cut_same : (c : ℕ) (a b x y : List ℕ) → Lacks c a → Lacks c x → a ++ (c ∷ b) ≡ x ++ (c ∷ y) → (a ≡ x) × (b ≡ y)
cut_same c [] b [] y h k e = let tails : b ≡ y = cc in (refl, tails)
cut_same c [] b (z ∷ x) y h k e =
    let heads : c ≡ z = cc in
    let differs : (z == c) ≡ false = All-head (λ b. (b == c) ≡ false) z x k in
    absurd (grind (arith, nat_tests))
cut_same c (w ∷ a) b [] y h k e =
    let heads : w ≡ c = cc in
    let differs : (w == c) ≡ false = All-head (λ b. (b == c) ≡ false) w a h in
    absurd (grind (arith, nat_tests))
cut_same c (w ∷ a) b (z ∷ x) y h k e =
    let heads : w ≡ z = cc in
    let tails : a ++ (c ∷ b) ≡ x ++ (c ∷ y) = cc in
    let rest = cut_same c a b x y (All-tail (λ b. (b == c) ≡ false) w a h) (All-tail (λ b. (b == c) ≡ false) z x k) tails in
    let fronts : a ≡ x = rest.0 in
    let whole : w ∷ a ≡ z ∷ x = cc in
    (whole, rest.1)

digits_lack : (c : ℕ) → c < 48 → (ds : List ℕ) → AllDigits 10 ds → Lacks c ds
digits_lack c low [] digits = All-nil (λ b. (b == c) ≡ false)
digits_lack c low (x ∷ ds) digits =
    let above : 48 ≤ x = (digit_from_value x digits.0).0 in
    let differs : (x == c) ≡ false = grind (arith, nat_tests) in
    All-cons (λ b. (b == c) ≡ false) x ds differs (digits_lack c low ds digits.1)

-- a number has neither a space nor a point
pub decimal_lacks : (c n : ℕ) → c < 48 → n < 2 ^ 64 → Lacks c (decimal n)
decimal_lacks c n low small = digits_lack c low (decimal n) (decimal_is_IsNumeral n small).0.1

pub node_lacks_space : (node : NodeId) → IsId node → Lacks 32 (node_text node)
node_lacks_space node id =
    All-append (λ b. (b == 32) ≡ false) (decimal node.file) (46 ∷ decimal node.serial) (decimal_lacks 32 node.file (omega arith) (omega arith))
    (All-cons (λ b. (b == 32) ≡ false) 46 (decimal node.serial) refl (decimal_lacks 32 node.serial (omega arith) id.1))

-- a node has a point
pub node_has_point : (token : List ℕ) (node : NodeId) → Lacks 46 token → token ≡ node_text node → ⊥
node_has_point token node none e = last (decimal node.file) (decimal node.serial) (subst (Lacks 46) e none)
  where
    last : (front back : List ℕ) → Lacks 46 (front ++ (46 ∷ back)) → ⊥
    last [] back h = let same : true ≡ false = All-head (λ b. (b == 46) ≡ false) 46 back h in cc
    last (b ∷ front) back h = last front back (All-tail (λ b. (b == 46) ≡ false) b (front ++ (46 ∷ back)) h)

-- no piece has such a byte
abbrev pub AllLack : ℕ → List (List ℕ) → Type 0
AllLack c [] = ⊤
AllLack c (piece ∷ pieces) = Lacks c piece × AllLack c pieces

pub all_lack-append : (c : ℕ) (front back : List (List ℕ)) → AllLack c front → AllLack c back → AllLack c (front ++ back)
all_lack-append c [] back h k = k
all_lack-append c (piece ∷ front) back h k = (h.0, all_lack-append c front back h.1 k)

-- pieces without such a byte that are joined by it are cut apart again
pub cut-joined : (c : ℕ) (piece : List ℕ) (pieces : List (List ℕ)) → Lacks c piece → AllLack c pieces → pieces_of c (join_with_byte c (piece ∷ pieces)) ≡ piece ∷ pieces
cut-joined c piece [] none others = slice_split_none (λ b. b == c) piece none
cut-joined c piece (next ∷ pieces) none others =
    slice_split_at (λ b. b == c) piece c (join_with_byte c (next ∷ pieces)) none (same_byte c) ∙ ap (λ ps. piece ∷ ps) (cut-joined c next pieces others.0 others.1)

pub joined-cut : (c : ℕ) (text : List ℕ) → text ≡ join_with_byte c (pieces_of c text)
joined-cut c text = sym (join_with_byte-slice_split c text)

-- there is a piece
pub some_piece : (c : ℕ) (text : List ℕ) → pieces_of c text ≡ [] → ⊥
some_piece c text e = absurd (omega (arith, length-slice_split (λ b. b == c) text, ap length e))
