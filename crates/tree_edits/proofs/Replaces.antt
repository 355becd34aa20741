-- A longer table takes the place of a full one, in room that was taken for it: what stays on the way, and what is done.
use Rattle.std.proofs.Common.{◌≡◌, inl, inr, ℕ, arith, List, [], ◌∷◌, length, ◌+◌, ◌*◌, ◌<◌, ◌≤◌, Option, None, Some}
use Rattle.std.specs.Prelude.{IfSome}
use Rattle.adf_format.specs.declared.types.ExtentKind.{ExtentKind}
use Rattle.adf_format.specs.Parts.{table_length}
use Rattle.adf_format.specs.Placement.{extent}
use Rattle.adf_format.specs.Tiles.{cover}
use Rattle.adf_format.proofs.FrameLaws.{field_kept}
use Rattle.adf_model.proofs.Creation.PartsApart.{range_out}
use Rattle.cg_io.specs.Blocks.{Both}
use Rattle.file_heap.specs.Heap.{FreeSpace, MayGive, IsThreaded}
use Rattle.file_heap.proofs.Beside.{all_lists_stay}
use Rattle.tree_laws.specs.MidEdit.{Puts}
use Rattle.tree_laws.proofs.Whole.Mid.{in_old}
use Rattle.tree_edits.specs.declared.room.Parent.{Parent}
use Rattle.tree_edits.specs.Joined.{AreRangesApart, WritesTable, GivesTable, entries_in, table_fields}
use Rattle.tree_edits.specs.Linked.{MayReplace, ReplacesTable, longer_length}
use Rattle.tree_edits.proofs.LongerDone.{beside_of}

module _ (place : ℕ) (parent : Parent) (entry : List ℕ) (was : FreeSpace) (full : parent.table.entries ≡ parent.table.count) where
  abbrev Step1 : List ℕ → List ℕ → Type 0
  Step1 = WritesTable parent.table place entry

  abbrev Step2 : List ℕ → List ℕ → Type 0
  Step2 = Puts ExtentKind.Node (parent.row.place + 68) 28 (table_fields place parent.table.count)

  module _ (a b c : List ℕ) (may : MayReplace parent place was a) (w : Step1 a b) (p : Step2 b c) where
    threads : IsThreaded was c
    threads =
        all_lists_stay (extent ExtentKind.Node (parent.row.place + 68) 28 ∷ []) was (Some b) (Some c) p.only (beside_of (parent.row.place + 68) 28 was.heap may.own.header)
        (all_lists_stay (extent ExtentKind.Node place (longer_length parent) ∷ []) was (Some a) (Some b) w.only (beside_of place (longer_length parent) was.heap may.room) may.threads)

    told : 0 < parent.table.count → AreRangesApart parent.table place × (parent.table.place + 16 + 44 * parent.table.count ≤ length a)
    told some = (may.apart some, let far = may.own.within (omega (arith, some, full)) in omega (arith, far, full))

    -- the entries in use go on standing
    used : entries_in b parent.table ≡ entries_in a parent.table
    used =
        field_kept (44 * parent.table.count) (parent.table.place + 16) a b (λ k low high.
        let some : 0 < parent.table.count = omega (arith, low, high) in
        (in_old (extent ExtentKind.Node place (longer_length parent) ∷ []) a b w.only).others k (let far = (told some).1 in omega (arith, far, high)) (none k low high (may.apart some)))
      where
        none : (k : ℕ) → parent.table.place + 16 ≤ k → k < parent.table.place + 16 + 44 * parent.table.count → AreRangesApart parent.table place → cover (extent ExtentKind.Node place (longer_length parent) ∷ []) k ≡ 0
        none k low high (inl le) = let out = range_out place (longer_length parent) k (inl (omega (arith, le, high))) in omega (arith, out)
        none k low high (inr le) = let out = range_out place (longer_length parent) k (inr (omega (arith, le, low))) in omega (arith, out)

    replaces : (now : FreeSpace) (d : List ℕ) → GivesTable parent.table was now c d → ReplacesTable parent place entry was now a d
    replaces now d g = record {
      written = b;
      named = c;
      fills = record { stands = w.stands told; reaches = λ some. w.reaches; only = w.only };
      used = used;
      names = p;
      gives = g.gives;
      heap = g.heap;
      threads = g.threads;
    }

  -- ---- of bytes that may be told

  pub threads_held : (a b c : Option (List ℕ)) → IfSome a (MayReplace parent place was) → Both Step1 a b → Both Step2 b c → IfSome c (IsThreaded was)
  threads_held a b None may w p = tt
  threads_held a None (Some c) may w p = absurd p
  threads_held None (Some b) (Some c) may w p = absurd w
  threads_held (Some a) (Some b) (Some c) may w p = threads a b c may w p

  pub owned_held : (a b c : Option (List ℕ)) → IfSome a (MayReplace parent place was) → Both Step1 a b → Both Step2 b c
      → IfSome c (λ bytes. 0 < parent.table.entries → MayGive parent.table.place (table_length parent.table.entries) was.heap)
  owned_held a b None may w p = tt
  owned_held a None (Some c) may w p = absurd p
  owned_held None (Some b) (Some c) may w p = absurd w
  owned_held (Some a) (Some b) (Some c) may w p = may.own.table

  pub replaces_held : (a b c d : Option (List ℕ)) (now : FreeSpace) → IfSome a (MayReplace parent place was) → Both Step1 a b → Both Step2 b c → Both (GivesTable parent.table was now) c d → Both (ReplacesTable parent place entry was now) a d
  replaces_held None None None None now may w p g = tt
  replaces_held None None None (Some d) now may w p g = absurd g
  replaces_held None None (Some c) d now may w p g = absurd p
  replaces_held None (Some b) c d now may w p g = absurd w
  replaces_held (Some a) None c d now may w p g = absurd w
  replaces_held (Some a) (Some b) None d now may w p g = absurd p
  replaces_held (Some a) (Some b) (Some c) None now may w p g = absurd g
  replaces_held (Some a) (Some b) (Some c) (Some d) now may w p g = replaces a b c may w p now d g
