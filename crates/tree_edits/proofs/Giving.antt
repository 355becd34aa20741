-- A table that is given to the heap.
use Rattle.std.proofs.Common.{◌≡◌, ◌≢◌, ℕ, refl, sym, ◌∙◌, ap, subst, arith, List, [], ◌∷◌, ◌++◌, true, Option, None, Some}
use Rattle.std.proofs.lemmas.Bool.Decides.{nat_tests}
use Rattle.std.specs.Prelude.{IfSome, nat_lt, if◌then◌else◌}
use Rattle.adf_format.specs.declared.types.Extent.{Extent}
use Rattle.adf_format.specs.declared.types.ExtentKind.{ExtentKind}
use Rattle.adf_format.specs.Changes.{heap_fields}
use Rattle.adf_format.specs.HeapBytes.{ChangesOnly, MovesEnd, KeepsFillers}
use Rattle.adf_format.specs.HeapRule.{heap_give, give_all}
use Rattle.adf_format.specs.LaysOut.{ThreadsFreeChunks}
use Rattle.adf_format.specs.Parts.{table_length}
use Rattle.adf_format.specs.Placement.{Heap, extent}
use Rattle.cg_io.specs.Blocks.{Both}
use Rattle.field_access.specs.Fields.{range}
use Rattle.file_heap.specs.Heap.{FreeSpace, IsThreaded}
use Rattle.file_heap.proofs.Chunks.{threads_chunks}
use Rattle.node_reads.specs.declared.header.ChildTable.{ChildTable}
use Rattle.tree_laws.specs.MidEdit.{GivesOnly, GivesAll}
use Rattle.tree_edits.specs.Joined.{GivesTable, extents_of_table}

pub some_entries : (n : ℕ) → n ≢ 0 → nat_lt 0 n ≡ true
some_entries n some = grind (arith, nat_tests)

module _ (table : ChildTable) (was now : FreeSpace) (some : nat_lt 0 table.entries ≡ true) (gives : now.heap ≡ heap_give table.place (table_length table.entries) was.heap) where
  abbrev e : Extent
  e = extent ExtentKind.SubNodes table.place (table_length table.entries)

  one : extents_of_table table ≡ e ∷ []
  one = ap (λ b. if b then e ∷ [] else []) some

  given_bytes : (old new : List ℕ) → IsThreaded now new → ChangesOnly (heap_fields ++ range table.place (table_length table.entries) ∷ was.heap.gaps) old new → MovesEnd was.heap.end now.heap.end old new → KeepsFillers was.heap.gaps now.heap.gaps old new
      → GivesTable table was now old new
  given_bytes old new threads changes end fillers =
      let only : GivesOnly e was.heap old new = record {
        changes = record {
          longer = changes.longer;
          others = changes.others;
          grows = λ b low high. record { byte = (changes.grows b low high).byte; own = (changes.grows b low high).own; block = (changes.grows b low high).block };
        };
        end = subst (λ (h : Heap). MovesEnd was.heap.end h.end old new) gives end;
        fillers = subst (λ (h : Heap). KeepsFillers was.heap.gaps h.gaps old new) gives fillers;
        threads = subst (λ (h : Heap). ThreadsFreeChunks new h.gaps) gives (threads_chunks now new threads);
      } in
      record {
        gives = subst (λ es. GivesAll es was.heap old new) (sym one) (new, only, refl);
        heap = gives ∙ sym (ap (λ es. give_all es was.heap) one);
        threads = threads;
      }

  pub given_table : (old new : Option (List ℕ)) → IfSome new (IsThreaded now) → Both (ChangesOnly (heap_fields ++ range table.place (table_length table.entries) ∷ [] ++ was.heap.gaps)) old new
      → Both (MovesEnd was.heap.end now.heap.end) old new → Both (KeepsFillers was.heap.gaps now.heap.gaps) old new → Both (GivesTable table was now) old new
  given_table None None threads changes end fillers = tt
  given_table None (Some new) threads changes end fillers = changes
  given_table (Some old) None threads changes end fillers = changes
  given_table (Some old) (Some new) threads changes end fillers = given_bytes old new threads changes end fillers
