-- Bytes that move up piece by piece, and the count of a list that a child leaves.
use Rattle.std.proofs.Common.{◌≡◌, ◌⊎◌, inl, inr, ℕ, sym, ◌∙◌, ap, subst, arith, List, [], ◌∷◌, length, get_or, ◌+◌, ◌-◌, ◌*◌, ◌<◌, ◌≤◌, Option, None, Some}
use Rattle.std.specs.Prelude.{slice_index, Result, OnOk}
use Rattle.std.proofs.lemmas.Option.{slice_get-get_or}
use Rattle.std.proofs.lemmas.Result.{on_ok_weaker}
use Rattle.adf_format.specs.declared.types.ExtentKind.{ExtentKind}
use Rattle.adf_format.specs.Changes.{Writes}
use Rattle.adf_format.specs.Fields.{field}
use Rattle.adf_format.specs.HeapBytes.{ChangesOnly}
use Rattle.adf_format.specs.Hex.{hex_text}
use Rattle.adf_format.specs.Placement.{extent}
use Rattle.adf_format.specs.Tiles.{cover}
use Rattle.adf_format.proofs.FieldLaws.{same_field, length-field}
use Rattle.adf_format.proofs.HeapLaws.{join_range}
use Rattle.adf_format.proofs.ReachedLaws.{still_changes, more_changes, later_changes}
use Rattle.adf_model.proofs.Basics.{same_Some}
use Rattle.adf_model.proofs.Creation.PartsApart.{range_out}
use Rattle.adf_model.proofs.Writes.Reaches.{less_or}
use Rattle.cg_io.specs.Blocks.{Both}
use Rattle.cg_io.specs.Device.{bytes_at, GivesAt}
use Rattle.cg_io.proofs.Places.{get_or-bytes_at}
use Rattle.field_access.specs.Fields.{range}
use Rattle.tree_laws.specs.MidEdit.{Puts}
use Rattle.tree_laws.proofs.Whole.Mid.{in_old}
use Rattle.tree_edits.specs.declared.listed.Listed.{Listed}
use Rattle.tree_edits.specs.Left.{MovesUp, LeavesList, entry_place, length_behind}
use Rattle.tree_edits.proofs.CopyLaws.{text_at, reached}

-- ---- one piece

moved : (from to : ℕ) (text old new : List ℕ) → Writes to text old new → text ≡ bytes_at old from (length text) → ChangesOnly (range to (length text) ∷ []) old new → MovesUp from to (length text) old new
moved from to text old new w given c = record {
  bytes = λ k lt. text_at to text old new w k lt ∙ ap (λ (xs : List ℕ). get_or xs k 0) given ∙ get_or-bytes_at old from (length text) k lt;
  reaches = reached to text old new w;
  only = more_changes (range to (length text) ∷ []) (extent ExtentKind.Node to (length text) ∷ []) old new (λ b none. none) c;
}

pub piece_moved : {T E : Type 0} (r : Result T E) (from to n : ℕ) (text : List ℕ) (old mid new : Option (List ℕ)) → length text ≡ n → mid ≡ old → GivesAt old from text → OnOk r (Both (Writes to text) mid new) → Both (ChangesOnly (range to (length text) ∷ [])) mid new
    → OnOk r (Both (MovesUp from to n) old new)
piece_moved r from to n text old mid new long same given wrote only = on_ok_weaker r (by_held old mid new same given only) wrote
  where
    by_held : (old mid new : Option (List ℕ)) → mid ≡ old → GivesAt old from text → Both (ChangesOnly (range to (length text) ∷ [])) mid new → Both (Writes to text) mid new → Both (MovesUp from to n) old new
    by_held None None None same given only w = tt
    by_held None None (Some new) same given only w = w
    by_held None (Some mid) new same given only w = cc
    by_held (Some old) None new same given only w = cc
    by_held (Some old) (Some mid) None same given only w = w
    by_held (Some old) (Some mid) (Some new) same given only w =
        let is = same_Some mid old same in
        subst (λ k. MovesUp from to k old new) long
        (moved from to text old new (subst (λ x. Writes to text x new) is w) given (subst (λ x. ChangesOnly (range to (length text) ∷ []) x new) is only))

-- ---- one piece after another

pub none_moved : (from to : ℕ) (held : Option (List ℕ)) → Both (MovesUp from to 0) held held
none_moved from to None = tt
none_moved from to (Some a) = record { bytes = λ k lt. absurd (omega (arith, lt)); reaches = λ lt. absurd (omega (arith, lt)); only = still_changes (extent ExtentKind.Node to 0 ∷ []) a }

module _ (from to d n : ℕ) (up : to ≤ from) (a b c : List ℕ) (v : MovesUp from to d a b) (w : MovesUp (from + d) (to + d) n b c) where
  before : (k : ℕ) → k < d → slice_index c (to + k) ≡ slice_index b (to + k)
  before k lt = w.only.others (to + k) (let out = range_out (to + d) n (to + k) (inl (omega (arith, lt))) in omega (arith, out))

  stays : (k : ℕ) → d ≤ k → slice_index b (from + k) ≡ slice_index a (from + k)
  stays k ge = v.only.others (from + k) (let out = range_out to d (from + k) (inr (omega (arith, up, ge))) in omega (arith, out))

  by_piece : (k : ℕ) → k < d + n → (k < d) ⊎ (d ≤ k) → slice_index c (to + k) ≡ slice_index a (from + k)
  by_piece k lt (inl first) = before k first ∙ v.bytes k first
  by_piece k lt (inr second) =
      let same : to + k ≡ to + d + (k - d) = omega (arith, second) in
      let back : from + d + (k - d) ≡ from + k = omega (arith, second) in
      ap (slice_index c) same ∙ w.bytes (k - d) (omega (arith, lt, second)) ∙ ap (slice_index b) back ∙ stays k second

  reach : 0 < d + n → (0 < n) ⊎ (n ≤ 0) → to + (d + n) ≤ length c
  reach some (inl lt) = let far = w.reaches lt in omega (arith, far)
  reach some (inr none) = let far = v.reaches (omega (arith, some, none)) in let l = w.only.longer in omega (arith, far, l, none)

  pub moves_then : MovesUp from to (d + n) a c
  moves_then = record {
    bytes = λ k lt. by_piece k lt (less_or k d);
    reaches = λ some. reach some (less_or 0 n);
    only = later_changes (extent ExtentKind.Node to (d + n) ∷ []) a b c
        (more_changes (extent ExtentKind.Node to d ∷ []) (extent ExtentKind.Node to (d + n) ∷ []) a b (λ k none. let j = join_range to d n k in omega (arith, none, j)) v.only)
        (more_changes (extent ExtentKind.Node (to + d) n ∷ []) (extent ExtentKind.Node to (d + n) ∷ []) b c (λ k none. let j = join_range to d n k in omega (arith, none, j)) w.only);
  }

-- ---- the count

puts_there : (kind : ExtentKind) (place n : ℕ) (text old new : List ℕ) → Writes place text old new → ChangesOnly (range place n ∷ []) old new → Puts kind place n text old new
puts_there kind place n text old new w c =
    record { writes = w; only = more_changes (range place n ∷ []) (extent kind place n ∷ []) old new (λ b none. none) c }

pub same_behind : (listed : Listed) (n : ℕ) → n ≡ listed.table.count - listed.position - 1 → 44 * n ≡ length_behind listed
same_behind listed n e = omega (arith, e)

pub one_less : (m n : ℕ) → m ≡ n → m - 1 ≡ n - 1
one_less m n e = omega (arith, e)

pub list_left : {T E : Type 0} (r : Result T E) (header value : ℕ) (listed : Listed) (own n : ℕ) (old mid new : Option (List ℕ)) → own ≡ entry_place listed → n ≡ length_behind listed → value ≡ listed.table.count - 1
    → Both (MovesUp (own + 44) own n) old mid → OnOk r (Both (Writes (header + 68) (hex_text 8 value)) mid new) → Both (ChangesOnly (range (header + 68) 8 ∷ [])) mid new
    → OnOk r (Both (LeavesList header listed) old new)
list_left r header value listed own n old mid new at long less ups wrote only = on_ok_weaker r (by_held old mid new ups only) wrote
  where
    by_held : (old mid new : Option (List ℕ)) → Both (MovesUp (own + 44) own n) old mid → Both (ChangesOnly (range (header + 68) 8 ∷ [])) mid new → Both (Writes (header + 68) (hex_text 8 value)) mid new → Both (LeavesList header listed) old new
    by_held None None None ups only w = tt
    by_held None None (Some new) ups only w = w
    by_held None (Some mid) new ups only w = absurd ups
    by_held (Some old) None new ups only w = absurd ups
    by_held (Some old) (Some mid) None ups only w = w
    by_held (Some old) (Some mid) (Some new) ups only w = (
      mid,
      subst (λ k. MovesUp (k + 44) k (length_behind listed) old mid) at (subst (λ k. MovesUp (own + 44) own k old mid) long ups),
      subst (λ k. Puts ExtentKind.Node (header + 68) 8 (hex_text 8 k) mid new) less (puts_there ExtentKind.Node (header + 68) 8 (hex_text 8 value) mid new w only),
    )

-- ---- as texts that stood behind

away : (to n b : ℕ) → (b < to) ⊎ (to + n ≤ b) → cover (extent ExtentKind.Node to n ∷ []) b ≡ 0
away to n b out = let none = range_out to n b out in omega (arith, none)

-- bytes that move up, and lie within the bytes, are a text that is put in its place
pub moves_put : (kind : ExtentKind) (from to n : ℕ) (old new : List ℕ) → from + n ≤ length old → MovesUp from to n old new → Puts kind to n (field old from n) old new
moves_put kind from to n old new far m =
    let long : length (field old from n) ≡ n = let l = length-field old from n in omega (arith, l, far) in record {
      writes = record {
        longer = m.only.longer;
        stands = subst (λ k. field new to k ≡ field old from n) (sym long) (same_field n to from new old (λ i a b lt e f.
            slice_get-get_or new a 0 (let r = m.reaches (omega (arith, lt)) in omega (arith, r, e, lt))
            ∙ ap Some (ap (slice_index new) e ∙ m.bytes i lt ∙ ap (slice_index old) (sym f))
            ∙ sym (slice_get-get_or old b 0 (omega (arith, f, lt, far)))));
        others = λ b lt out. (in_old (extent ExtentKind.Node to n ∷ []) old new m.only).others b lt (away to n b (subst (λ k. (b < to) ⊎ (to + k ≤ b)) long out));
      };
      only = more_changes (extent ExtentKind.Node to n ∷ []) (extent kind to n ∷ []) old new (λ b none. none) m.only;
    }
