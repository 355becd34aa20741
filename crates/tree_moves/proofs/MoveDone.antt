-- A move over bytes that may be told: what is done.
use Rattle.std.proofs.Common.{◌≡◌, ℕ, refl, sym, ◌∙◌, ap, subst, List, ◌+◌, Option, None, Some}
use Rattle.adf_format.specs.HeapRule.{parts_at}
use Rattle.adf_format.specs.Tree.{Tree}
use Rattle.adf_format.specs.Placement.{Placement}
use Rattle.adf_model.specs.declared.tree.Edit.{Edit}
use Rattle.adf_model.specs.declared.tree.NodeId.{NodeId}
use Rattle.cg_io.specs.Blocks.{Both}
use Rattle.file_heap.specs.Heap.{FreeSpace, IsThreaded}
use Rattle.tree_laws.specs.Spared.{IsEditWhole}
use Rattle.tree_edits.specs.declared.memory.Core.{Core}
use Rattle.tree_edits.specs.Rows.{Means}
use Rattle.tree_edits.specs.Edits.{memory_of, Does, Follows}
use Rattle.tree_edits.specs.Linked.{FitsTable, TakesTable}
use Rattle.tree_moves.specs.declared.place.Move.{Move}
use Rattle.tree_moves.specs.Below.{Shifts}
use Rattle.tree_moves.specs.Movable.{MayMove}
use Rattle.tree_moves.specs.Relisted.{moved_entry, table_in, OpensIn, MovesBy, ClosesIn, Relists}
use Rattle.tree_moves.proofs.Refused.{in_its_tree}
use Rattle.tree_moves.proofs.RowsMoved.{table_moved}
use Rattle.tree_moves.proofs.Tested.{depth_is}
use Rattle.tree_moves.proofs.MoveFacts as facts
use Rattle.tree_moves.proofs.MoveWhole as whole

module _ (core : Core) (node at : NodeId) (its : Move) where
  abbrev edit : Edit
  edit = Edit.Move node at

  module _ (is : Core) (wide : is.wide ≡ core.wide) (depth : ℕ) (deep : depth ≡ its.to.row.depth + 1) (shifts : Shifts core.rows.items is.rows.items node.serial its.row.depth at.serial depth its.row) where
    module _ (image new : List ℕ) (may : MayMove core node at (Some image) its) (tree : Tree) (p : Placement) (m : Means image tree p (memory_of core)) (threads : IsThreaded is.heap.work new) where
      abbrev after : Tree
      after = facts.after image core node at its may tree p m

      follows_with : (q : Placement) → IsEditWhole core.heap.limit core.writable edit tree p after q image new → q.heap ≡ is.heap.work.heap → ((k : ℕ) → (parts_at q k).header ≡ (parts_at p k).header)
          → Follows core.heap.limit core.writable edit tree p (memory_of is) image new
      follows_with q w heap headers = record {
        after = after;
        placement = q;
        whole = w;
        means = record {
          laid_out = w.laid_out;
          wide = (in_its_tree image core node at tree p m its may).wide ∙ m.wide ∙ sym wide;
          table = table_moved tree after p q may.parent node.serial at.serial m.laid_out.is_tree (in_its_tree image core node at tree p m its may) core.rows.items is.rows.items m.table its.row may.looked.may.may.found depth
              (deep ∙ ap (λ d. d + 1) (depth_is image core tree p m at.serial its.to.row may.looked.may.may.target.node.found)) headers shifts;
          heap = heap;
          threads = threads;
        };
      }

      by_room : (o : Option ℕ) (taken : FreeSpace) (start opened linked : List ℕ) → TakesTable core.heap.limit its.to o core.heap.work taken image start → FitsTable its.to o → OpensIn its.to o (moved_entry its) start opened
          → MovesBy its.last its (table_in its.to o) (moved_entry its) opened linked → ClosesIn its.to.table o taken is.heap.work linked new → Follows core.heap.limit core.writable edit tree p (memory_of is) image new
      by_room None taken start opened linked takes fits opens links closes =
          follows_with p
          (whole.by_unused image core node at its may tree p m fits its.last refl new
          (subst (λ (b : List ℕ). MovesBy its.last its its.to.table (moved_entry its) image b) (sym closes.1) (subst (λ (a : List ℕ). MovesBy its.last its its.to.table (moved_entry its) a linked) (opens ∙ takes.1) links)))
          (m.heap ∙ ap (λ (s : FreeSpace). s.heap) (sym (closes.0 ∙ takes.0))) (λ k. refl)
      by_room (Some place) taken start opened linked takes fits opens links closes =
          follows_with (whole.q image core node at its may tree p m fits.0 place fits.1 taken start opened takes opens linked new is.heap.work closes)
          (whole.by_longer image core node at its may tree p m fits.0 place fits.1 taken start opened takes opens linked new is.heap.work closes its.last refl links)
          (sym (whole.heap_is image core node at its may tree p m fits.0 place fits.1 taken start opened takes opens linked new is.heap.work closes))
          (whole.headers image core node at its may tree p m fits.0 place fits.1 taken start opened takes opens linked new is.heap.work closes)

    pub done : (held new : Option (List ℕ)) → MayMove core node at held its → Both (Relists core.heap.limit its core.heap.work is.heap.work) held new → Both (Does edit core is) held new
    done None None may x = tt
    done None (Some new) may x = absurd x
    done (Some image) None may x = absurd x
    done (Some image) (Some new) may x = λ tree p m. by_room image new may tree p m x.threads x.room x.taken x.start x.opened x.linked x.takes x.fits x.opens x.links x.closes
