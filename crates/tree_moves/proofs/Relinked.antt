-- A list that is opened, an entry that moves, and a table that is given: what stays on the way, what is done, and what it costs.
use Rattle.std.proofs.Common.{◌≡◌, ℕ, suc, refl, sym, ◌∙◌, ap, subst, arith, List, [], ◌+◌, ◌-◌, ◌*◌, ◌/◌, ◌^◌, ◌<◌, ◌≤◌, Bool, true, false, Option, None, Some}
use Rattle.std.proofs.lemmas.Bool.Decides.{nat_tests}
use Rattle.std.specs.Prelude.{IfSome, nat_lt, if◌then◌else◌}
use Rattle.adf_format.specs.declared.types.ExtentKind.{ExtentKind}
use Rattle.adf_format.specs.HeapRule.{grown_entries}
use Rattle.adf_format.specs.Parts.{table_length}
use Rattle.cg_io.specs.Blocks.{Both}
use Rattle.file_heap.specs.Heap.{FreeSpace, MayGive, IsThreaded}
use Rattle.node_reads.specs.declared.header.ChildTable.{ChildTable}
use Rattle.tree_laws.proofs.Whole.Creates.{more_entries}
use Rattle.tree_edits.specs.declared.listed.Listed.{Listed}
use Rattle.tree_edits.specs.declared.room.Parent.{Parent}
use Rattle.tree_edits.specs.Taken.{IsReady}
use Rattle.tree_edits.specs.Left.{leave_cost}
use Rattle.tree_edits.specs.Linked.{FitsTable, TakesTable, longer_length}
use Rattle.tree_edits.proofs.LongerDone.{may_replace_held}
use Rattle.tree_edits.proofs.Ready.{may_after}
use Rattle.tree_edits.proofs.TableWritten.{few_blocks}
use Rattle.tree_moves.specs.declared.place.Move.{Move}
use Rattle.tree_moves.specs.Movable.{IsMoveNear}
use Rattle.tree_moves.specs.Relisted.{moved_entry, longer_table, table_in, with_table, OpensIn, open_cost, MovesBy, ClosesIn, close_cost, IsListNear, Relists, OwnsLists, link_cost, grow_cost}
use Rattle.tree_moves.proofs.Stays.{OwnsList, stays, stays_left, stays_last, stays_joined}

-- ---- the table in which an entry is unused

pub in_near : (parent : Parent) (o : Option ℕ) → FitsTable parent o → parent.table.place + table_length parent.table.entries ≤ 2 ^ 44 → (table_in parent o).place + table_length (table_in parent o).entries ≤ 2 ^ 44
in_near parent None fits near = near
in_near parent (Some place) fits near = fits.1

pub in_unused : (parent : Parent) (o : Option ℕ) → FitsTable parent o → (table_in parent o).count < (table_in parent o).entries
in_unused parent None fits = fits
in_unused parent (Some place) fits = let n = more_entries parent.table.count in omega (arith, n)

pub in_count : (parent : Parent) (o : Option ℕ) → (table_in parent o).count ≡ parent.table.count
in_count parent None = refl
in_count parent (Some place) = refl

-- ---- costs

not_less : (a b : ℕ) → b ≡ a → nat_lt a b ≡ false
not_less a b e = grind (arith, nat_tests)

pub grows_by : (parent : Parent) (o : Option ℕ) → FitsTable parent o → open_cost parent.table o + close_cost o ≤ grow_cost parent.table
grows_by parent None fits = omega arith
grows_by parent (Some place) fits =
    let n : ℕ = table_length (grown_entries parent.table.count) / 4096 in
    subst (λ b. 12 + table_length (grown_entries parent.table.count) / 4096 + 12 ≤ (if b then 0 else 24 + table_length (grown_entries parent.table.count) / 4096)) (sym (not_less parent.table.count parent.table.entries fits.0)) (omega arith)

pub leaves_by : (listed : Listed) → 4 + leave_cost listed ≤ 8 + 44 * listed.table.count / 4096
leaves_by listed = let few = few_blocks (listed.table.place + 16 + 44 * listed.position) (44 * (listed.table.count - suc listed.position)) in omega (arith, few)

pub leaves_within : (table : ChildTable) (its : Move) → table.count ≡ its.source.listed.table.count → leave_cost (record { table = table; position = its.source.listed.position }) ≤ link_cost its
leaves_within table its same = let few = few_blocks (table.place + 16 + 44 * its.source.listed.position) (44 * (table.count - suc its.source.listed.position)) in omega (arith, few, same)

-- ---- where nothing is taken

pub opens_none : (parent : Parent) (o : Option ℕ) (entry : List ℕ) (held : Option (List ℕ)) → o ≡ None → Both (OpensIn parent o entry) held held
opens_none parent o entry held e = subst (λ (x : Option ℕ). Both (OpensIn parent x entry) held held) (sym e) (by_held held)
  where
    by_held : (held : Option (List ℕ)) → Both (OpensIn parent None entry) held held
    by_held None = tt
    by_held (Some a) = refl

pub closes_none : (table : ChildTable) (o : Option ℕ) (was : FreeSpace) (held : Option (List ℕ)) → o ≡ None → Both (ClosesIn table o was was) held held
closes_none table o was held e = subst (λ (x : Option ℕ). Both (ClosesIn table x was was) held held) (sym e) (by_held held)
  where
    by_held : (held : Option (List ℕ)) → Both (ClosesIn table None was was) held held
    by_held None = tt
    by_held (Some a) = (refl, refl)

-- ---- what stays

module _ (free : FreeSpace) (its : Move) (table : ChildTable) (entry : List ℕ) (near : IsListNear its.source.listed) (far : table.place + table_length table.entries ≤ 2 ^ 44) (unused : table.count < table.entries) (same : its.last ≡ true → table.count ≡ its.source.listed.table.count) where
  pub stays_moved : (last : Bool) → its.last ≡ last → (c d : List ℕ) → OwnsList its.source.from.place its.source.listed.table free.heap → OwnsList its.to.row.place table free.heap → MovesBy last its table entry c d → IsThreaded free c → IsThreaded free d
  stays_moved false e c d from to w threads = stays_joined free (with_table its.to table) entry w.0 d to unused w.2 (stays_left free its.source.from.place its.source.listed c w.0 from near w.1 threads)
  stays_moved true e c d from to w threads =
      stays_last free its.to.row.place (record { table = table; position = its.source.listed.position }) entry c d to
      (record { table = far; within = (let s = same e in let lt = near.within in omega (arith, s, lt)); few = omega (arith, unused) }) w threads

module _ (limit : ℕ) (its : Move) (was taken : FreeSpace) (near : IsMoveNear its) (list : IsListNear its.source.listed) (same : its.last ≡ true → its.to.table ≡ its.source.listed.table) where
  abbrev entry : List ℕ
  entry = moved_entry its

  same_count : (o : Option ℕ) → its.last ≡ true → (table_in its.to o).count ≡ its.source.listed.table.count
  same_count o e = in_count its.to o ∙ ap (λ (t : ChildTable). t.count) (same e)

  some_from : 0 < its.source.listed.table.entries
  some_from = let lt = list.within in let few = list.few in omega (arith, lt, few)

  -- the old table may still be given
  pub record IsLinked (d : List ℕ) : Type 0 where
    pub threads : IsThreaded taken d
    pub old : 0 < its.to.table.entries → MayGive its.to.table.place (table_length its.to.table.entries) taken.heap

  linked : (o : Option ℕ) (a b c d : List ℕ) → FitsTable its.to o → IsReady was a → OwnsLists its was.heap a → TakesTable limit its.to o was taken a b → OpensIn its.to o entry b c → MovesBy its.last its (table_in its.to o) entry c d → IsLinked d
  linked None a b c d fits ready own t x w = record {
    threads =
        subst (λ (s : FreeSpace). IsThreaded s d) (sym t.0)
        (stays_moved was its its.to.table entry list near.to fits (same_count None) its.last refl c d
        (record { fields = own.from.header; own = own.from.table some_from }) (record { fields = own.to.header; own = own.to.table (omega (arith, fits)) }) w
        (subst (λ (y : List ℕ). IsThreaded was y) (sym (x ∙ t.1)) ready.threads));
    old = λ some. subst (λ (s : FreeSpace). MayGive its.to.table.place (table_length its.to.table.entries) s.heap) (sym t.0) (own.to.table some);
  }
  linked (Some place) a b c d fits ready own t x w =
      let mr = may_replace_held limit place its.to [] was taken fits.0 (Some a) (Some b) ready own.to t in
      let n = more_entries its.to.table.count in
      record {
        threads =
            stays_moved taken its (longer_table its.to place) entry list fits.1 (omega (arith, n)) (same_count (Some place)) its.last refl c d
            (record {
              fields = may_after limit (longer_length its.to) place was taken a b t (its.source.from.place + 68) 28 own.from.header;
              own = may_after limit (longer_length its.to) place was taken a b t its.source.listed.table.place (table_length its.source.listed.table.entries) (own.from.table some_from);
            })
            (record { fields = mr.own.header; own = mr.room }) w
            (stays ExtentKind.Node (its.to.row.place + 68) 28 taken x.0 c mr.own.header x.2.only (stays ExtentKind.Node place (longer_length its.to) taken b x.0 mr.room x.1.only mr.threads));
        old = mr.own.table;
      }

  -- ---- of bytes that may be told

  pub linked_held : (o : Option ℕ) (a b c d : Option (List ℕ)) → FitsTable its.to o → IfSome a (IsReady was) → IfSome a (OwnsLists its was.heap) → Both (TakesTable limit its.to o was taken) a b → Both (OpensIn its.to o entry) b c → Both (MovesBy its.last its (table_in its.to o) entry) c d → IfSome d IsLinked
  linked_held o a b c None fits ready own t x w = tt
  linked_held o a b None (Some d) fits ready own t x w = absurd w
  linked_held o a None (Some c) (Some d) fits ready own t x w = absurd x
  linked_held o None (Some b) (Some c) (Some d) fits ready own t x w = absurd t
  linked_held o (Some a) (Some b) (Some c) (Some d) fits ready own t x w = linked o a b c d fits ready own t x w

  pub threads_held : (d : Option (List ℕ)) → IfSome d IsLinked → IfSome d (IsThreaded taken)
  threads_held None h = tt
  threads_held (Some d) h = h.threads

  pub old_held : (d : Option (List ℕ)) → IfSome d IsLinked → IfSome d (λ bytes. 0 < its.to.table.entries → MayGive its.to.table.place (table_length its.to.table.entries) taken.heap)
  old_held None h = tt
  old_held (Some d) h = h.old

  -- the same entry and the same table by other names
  pub opens_again : (o : Option ℕ) (text : List ℕ) (b c : Option (List ℕ)) → text ≡ entry → Both (OpensIn its.to o text) b c → Both (OpensIn its.to o entry) b c
  opens_again o text b c same x = subst (λ t. Both (OpensIn its.to o t) b c) same x

  pub moves_again : (o : Option ℕ) (text : List ℕ) (table : ChildTable) (c d : Option (List ℕ)) → text ≡ entry → table ≡ table_in its.to o → Both (MovesBy its.last its table text) c d → Both (MovesBy its.last its (table_in its.to o) entry) c d
  moves_again o text table c d same is w = subst (λ (t : ChildTable). Both (MovesBy its.last its t entry) c d) is (subst (λ t. Both (MovesBy its.last its table t) c d) same w)

  module _ (o : Option ℕ) (now : FreeSpace) (fits : FitsTable its.to o) where
    relists : (a b c d e : List ℕ) → IsReady was a → OwnsLists its was.heap a → TakesTable limit its.to o was taken a b → OpensIn its.to o entry b c → MovesBy its.last its (table_in its.to o) entry c d → ClosesIn its.to.table o taken now d e → Relists limit its was now a e
    relists a b c d e ready own t x w z = record {
      room = o;
      taken = taken;
      start = b;
      opened = c;
      linked = d;
      takes = t;
      fits = fits;
      opens = x;
      links = w;
      closes = z;
      threads = by_room o (linked o a b c d fits ready own t x w).threads z;
    }
      where
        by_room : (o : Option ℕ) → IsThreaded taken d → ClosesIn its.to.table o taken now d e → IsThreaded now e
        by_room None threads z = subst (λ (s : FreeSpace). IsThreaded s e) (sym z.0) (subst (λ (y : List ℕ). IsThreaded taken y) (sym z.1) threads)
        by_room (Some place) threads z = z.threads

    pub relists_held : (a b c d e : Option (List ℕ)) → IfSome a (IsReady was) → IfSome a (OwnsLists its was.heap) → Both (TakesTable limit its.to o was taken) a b → Both (OpensIn its.to o entry) b c → Both (MovesBy its.last its (table_in its.to o) entry) c d
        → Both (ClosesIn its.to.table o taken now) d e → Both (Relists limit its was now) a e
    relists_held None None None None None ready own t x w z = tt
    relists_held None None None None (Some e) ready own t x w z = absurd z
    relists_held None None None (Some d) e ready own t x w z = absurd w
    relists_held None None (Some c) d e ready own t x w z = absurd x
    relists_held None (Some b) c d e ready own t x w z = absurd t
    relists_held (Some a) None c d e ready own t x w z = absurd t
    relists_held (Some a) (Some b) None d e ready own t x w z = absurd x
    relists_held (Some a) (Some b) (Some c) None e ready own t x w z = absurd w
    relists_held (Some a) (Some b) (Some c) (Some d) None ready own t x w z = absurd z
    relists_held (Some a) (Some b) (Some c) (Some d) (Some e) ready own t x w z = relists a b c d e ready own t x w z
