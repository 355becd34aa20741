-- A longer table, written in five parts.
use Rattle.std.proofs.Common.{◌≡◌, ◌⊎◌, inl, inr, ℕ, suc, refl, sym, ◌∙◌, ap, subst, arith, List, [], ◌∷◌, ◌++◌, length, length-append, take, replicate, ◌+◌, ◌-◌, ◌*◌, ◌/◌, ◌%◌, ◌<◌, ◌≤◌, Option, None, Some}
use Rattle.std.proofs.lemmas.List.{length-replicate, append_assoc}
use Rattle.std.proofs.lemmas.Option.{slice_get-get_or}
use Rattle.std.proofs.lemmas.Result.{on_ok_weaker}
use Rattle.std.specs.Prelude.{slice_get, slice_index, Result, OnOk}
use Rattle.adf_format.specs.declared.types.ExtentKind.{ExtentKind}
use Rattle.adf_format.specs.Changes.{Writes}
use Rattle.adf_format.specs.Fields.{field}
use Rattle.adf_format.specs.Hex.{hex_text}
use Rattle.adf_format.specs.HeapBytes.{ChangesOnly}
use Rattle.adf_format.specs.HeapRule.{grown_entries}
use Rattle.adf_format.specs.Parts.{table_length}
use Rattle.adf_format.specs.Placement.{extent}
use Rattle.adf_format.specs.Pointer.{To, pointer_text}
use Rattle.adf_format.specs.Records.{SubNodes, start_tag, head_text, end_tag}
use Rattle.adf_format.specs.Tiles.{cover}
use Rattle.adf_format.proofs.FieldLaws.{same_field, field_whole, writes_joined, length-field}
use Rattle.adf_format.proofs.FrameLaws.{field_kept}
use Rattle.adf_format.proofs.SpelledParts.{length-pointer_text}
use Rattle.adf_format.proofs.ReachedLaws.{more_changes, later_changes}
use Rattle.adf_model.proofs.Writes.Reaches.{less_or}
use Rattle.adf_model.proofs.Creation.FillerBytes.{get_replicate}
use Rattle.adf_model.proofs.Creation.PartsApart.{range_out, range_within}
use Rattle.cg_io.specs.Answers.{Then}
use Rattle.cg_io.specs.Blocks.{Both, blocks_of}
use Rattle.cg_io.proofs.BothLaws.{both_map}
use Rattle.disk_ptr.specs.View.{view}
use Rattle.disk_ptr.specs.declared.DiskPtr.{DiskPtr}
use Rattle.disk_ptr.specs.declared.DiskPtr.TheVariants.{At}
use Rattle.field_access.specs.Fields.{range}
use Rattle.node_reads.specs.declared.header.ChildTable.{ChildTable}
use Rattle.tree_laws.proofs.Whole.Mid.{in_old}
use Rattle.tree_edits.specs.Copies.{AreApart, Copies, Clears}
use Rattle.tree_edits.specs.Joined.{WritesTable, AreRangesApart, entries_in, longer_text, table_fields}
use Rattle.tree_edits.proofs.CopyLaws.{zeros, reached}
use Rattle.tree_edits.proofs.NameWritten.{place_again}
use Rattle.tree_edits.proofs.Taking.{then_both}

-- ---- what is copied or cleared is written

away : (at n b : ℕ) → (b < at) ⊎ (at + n ≤ b) → cover (extent ExtentKind.Node at n ∷ []) b ≡ 0
away at n b out = let none = range_out at n b out in omega (arith, none)

beside : (at n m : ℕ) (text old new : List ℕ) → length text ≡ n → ChangesOnly (extent ExtentKind.Node at n ∷ []) old new → (b : ℕ) → b < length old → (b < at) ⊎ (at + length text ≤ b) → slice_get new b ≡ slice_get old b
beside at n m text old new long only b lt out = (in_old (extent ExtentKind.Node at n ∷ []) old new only).others b lt (away at n b (subst (λ k. (b < at) ⊎ (at + k ≤ b)) long out))

copies_write : (from at n : ℕ) (old new : List ℕ) → AreApart from at n → from + n ≤ length old → Copies from at n old new → Writes at (field old from n) old new
copies_write from at n old new apart far c =
    let long : length (field old from n) ≡ n = let m = length-field old from n in omega (arith, m, far) in record {
      longer = c.only.longer;
      stands = subst (λ k. field new at k ≡ field old from n) (sym long) (same_field n at from new old (λ i a b lt e f.
          slice_get-get_or new a 0 (let r = c.reaches (omega (arith, lt)) in omega (arith, r, e, lt))
          ∙ ap Some (ap (slice_index new) e ∙ c.bytes apart i lt ∙ ap (slice_index old) (sym f))
          ∙ sym (slice_get-get_or old b 0 (omega (arith, f, lt, far)))));
      others = beside at n n (field old from n) old new long c.only;
    }

clears_write : (at n : ℕ) (old new : List ℕ) → Clears at n old new → Writes at (zeros n) old new
clears_write at n old new c =
    let long : length (zeros n) ≡ n = length-replicate {A = ℕ} n 0 in record {
      longer = c.only.longer;
      stands = subst (λ k. field new at k ≡ zeros n) (sym long) (same_field n at 0 new (zeros n) (λ i a b lt e f.
          slice_get-get_or new a 0 (let r = c.reaches (omega (arith, lt)) in omega (arith, r, e, lt))
          ∙ ap Some (ap (slice_index new) e ∙ c.bytes i lt) ∙ sym (get_replicate n b 0 (let low : b < n = omega (arith, f, lt) in low)))
          ∙ field_whole (zeros n) n long);
      others = beside at n n (zeros n) old new long c.only;
    }

-- ---- one part after another

-- a text that is written, and all that changes
pub record Puts (at : ℕ) (text old new : List ℕ) : Type 0 where
  pub writes : Writes at text old new
  pub only : ChangesOnly (range at (length text) ∷ []) old new

module _ (table : ChildTable) (place : ℕ) (entry : List ℕ) (used next rest end : ℕ) (is_used : used ≡ 44 * table.count) (is_next : next ≡ place + 16 + 44 * table.count) (is_rest : rest ≡ 44 * (grown_entries table.count - suc table.count)) (is_end : end ≡ place + 16 + 44 * grown_entries table.count) (long_entry : length entry ≡ 44) where
  abbrev n : ℕ
  n = grown_entries table.count

  abbrev head : List ℕ
  head = head_text SubNodes (To end)

  abbrev tail : List ℕ
  tail = end_tag SubNodes

  more : suc table.count ≤ n
  more = omega arith

  long_head : length head ≡ 16
  long_head = length-append (start_tag SubNodes) (pointer_text (To end)) ∙ ap (λ k. 4 + k) (length-pointer_text (To end))

  module _ (a b c d e f : List ℕ) (w1 : Puts place head a b) (w2 : Copies (table.place + 16) (place + 16) used b c) (w3 : Puts next entry c d) (w4 : Clears (next + 44) rest d e) (w5 : Puts end tail e f) where
    whole : (at m : ℕ) (x y : List ℕ) → place ≤ at → at + m ≤ place + table_length n → ChangesOnly (extent ExtentKind.Node at m ∷ []) x y → ChangesOnly (extent ExtentKind.Node place (table_length n) ∷ []) x y
    whole at m x y low high v = more_changes (extent ExtentKind.Node at m ∷ []) (extent ExtentKind.Node place (table_length n) ∷ []) x y (λ k none. let le = range_within place (table_length n) at m k low high in omega (arith, none, le)) v

    put_only : (at m : ℕ) (text x y : List ℕ) → length text ≡ m → place ≤ at → at + m ≤ place + table_length n → Puts at text x y → ChangesOnly (extent ExtentKind.Node place (table_length n) ∷ []) x y
    put_only at m text x y long low high v =
        whole at m x y low high (subst (λ k. ChangesOnly (extent ExtentKind.Node at k ∷ []) x y) long (more_changes (range at (length text) ∷ []) (extent ExtentKind.Node at (length text) ∷ []) x y (λ k none. none) v.only))

    only : ChangesOnly (extent ExtentKind.Node place (table_length n) ∷ []) a f
    only =
        later_changes (extent ExtentKind.Node place (table_length n) ∷ []) a b f (put_only place 16 head a b long_head (omega arith) (omega arith) w1)
        (later_changes (extent ExtentKind.Node place (table_length n) ∷ []) b c f (whole (place + 16) used b c (omega arith) (let m = more in omega (arith, m, is_used)) w2.only)
        (later_changes (extent ExtentKind.Node place (table_length n) ∷ []) c d f (put_only next 44 entry c d long_entry (omega (arith, is_next)) (let m = more in omega (arith, m, is_next)) w3)
        (later_changes (extent ExtentKind.Node place (table_length n) ∷ []) d e f (whole (next + 44) rest d e (omega (arith, is_next)) (let m = more in omega (arith, m, is_next, is_rest)) w4.only)
        (put_only end 4 tail e f refl (omega (arith, is_end)) (omega (arith, is_end)) w5))))

    far : place + table_length n ≤ length f
    far = let r = reached end tail e f w5.writes (omega arith) in omega (arith, r, is_end)

    -- the entries in use, as they stood, where they are copied
    copy : (0 < table.count → AreRangesApart table place × (table.place + 16 + 44 * table.count ≤ length a)) → Writes (place + 16) (entries_in a table) b c
    copy told = by_count (less_or 0 table.count)
      where
        by_count : (0 < table.count) ⊎ (table.count ≤ 0) → Writes (place + 16) (entries_in a table) b c
        by_count (inr none) =
            let zero_count : table.count ≡ 0 = omega (arith, none) in
            let zero_used : used ≡ 0 = omega (arith, zero_count, is_used) in
            let w = subst (λ k. Copies (table.place + 16) (place + 16) k b c) zero_used w2 in
            subst (λ k. Writes (place + 16) (field a (table.place + 16) (44 * k)) b c) (sym zero_count)
            (record { longer = w.only.longer; stands = refl; others = beside (place + 16) 0 0 [] b c refl w.only })
        by_count (inl some) =
            let t = told some in
            let l = w1.only.longer in
            let w = copies_write (table.place + 16) (place + 16) used b c (apart t.0) (let k = t.1 in omega (arith, k, l, is_used)) w2 in
            subst (λ xs. Writes (place + 16) xs b c) (ap (field b (table.place + 16)) is_used ∙ kept t.0 t.1) w
          where
            apart : AreRangesApart table place → AreApart (table.place + 16) (place + 16) used
            apart (inl le) = inl (omega (arith, le, is_used))
            apart (inr le) = inr (let m = more in omega (arith, le, is_used, m))

            out : AreRangesApart table place → (k : ℕ) → table.place + 16 ≤ k → k < table.place + 16 + 44 * table.count → (k < place) ⊎ (place + 16 ≤ k)
            out (inl le) k low high = inl (omega (arith, le, high))
            out (inr le) k low high = inr (omega (arith, le, low))

            kept : AreRangesApart table place → table.place + 16 + 44 * table.count ≤ length a → field b (table.place + 16) (44 * table.count) ≡ entries_in a table
            kept t within = field_kept (44 * table.count) (table.place + 16) a b (λ k low high. w1.writes.others k (omega (arith, within, high)) (subst (λ z. (k < place) ⊎ (place + z ≤ k)) (sym long_head) (out t k low high)))

    stands : (0 < table.count → AreRangesApart table place × (table.place + 16 + 44 * table.count ≤ length a)) → field f place (table_length n) ≡ longer_text place table.count (entries_in a table) entry
    stands told = subst (λ k. field f place k ≡ longer_text place table.count (entries_in a table) entry) long_text (subst (λ xs. field f place (length xs) ≡ xs) text_is text.stands)
      where
        long_used : length (entries_in a table) ≡ 44 * table.count
        long_used = by_count (less_or 0 table.count)
          where
            by_count : (0 < table.count) ⊎ (table.count ≤ 0) → length (entries_in a table) ≡ 44 * table.count
            by_count (inl some) = let m = length-field a (table.place + 16) (44 * table.count) in let k = (told some).1 in omega (arith, m, k)
            by_count (inr none) = let m = length-field a (table.place + 16) (44 * table.count) in omega (arith, m, none)

        body : List ℕ
        body = entries_in a table ++ entry ++ replicate rest 0

        long_body : length body ≡ 44 * n
        long_body =
            let x = length-append (entries_in a table ++ entry) (replicate rest 0) in
            let y = length-append (entries_in a table) entry in
            let z = length-replicate {A = ℕ} rest 0 in
            let u = long_used in let m = more in
            omega (arith, x, y, z, u, m, long_entry, is_rest)

        text : Writes place (head ++ (entries_in a table ++ (entry ++ (replicate rest 0 ++ tail)))) a f
        text =
            writes_joined place head (entries_in a table ++ (entry ++ (replicate rest 0 ++ tail))) a b f w1.writes
            (subst (λ k. Writes (place + k) (entries_in a table ++ (entry ++ (replicate rest 0 ++ tail))) b f) (sym long_head)
            (writes_joined (place + 16) (entries_in a table) (entry ++ (replicate rest 0 ++ tail)) b c f (copy told)
            (subst (λ k. Writes k (entry ++ (replicate rest 0 ++ tail)) c f) (let u = long_used in omega (arith, u, is_next))
            (writes_joined next entry (replicate rest 0 ++ tail) c d f w3.writes
            (subst (λ k. Writes (next + k) (replicate rest 0 ++ tail) d f) (sym long_entry)
            (writes_joined (next + 44) (replicate rest 0) tail d e f (clears_write (next + 44) rest d e w4)
            (subst (λ k. Writes k tail e f) (let z = length-replicate {A = ℕ} rest 0 in let m = more in omega (arith, z, is_next, is_rest, is_end, m)) w5.writes)))))))

        text_is : head ++ (entries_in a table ++ (entry ++ (replicate rest 0 ++ tail))) ≡ longer_text place table.count (entries_in a table) entry
        text_is =
            ap (λ k. head_text SubNodes (To k) ++ (entries_in a table ++ (entry ++ (replicate rest 0 ++ tail)))) (let l = long_body in omega (arith, l, is_end))
            ∙ ap (λ xs. head_text SubNodes (To (place + 16 + length body)) ++ xs) (sym (append_assoc (entries_in a table ++ entry) (replicate rest 0) tail ∙ append_assoc (entries_in a table) entry (replicate rest 0 ++ tail)))
            ∙ sym (append_assoc (head_text SubNodes (To (place + 16 + length body))) body tail)
            ∙ ap (λ k. head_text SubNodes (To (place + 16 + length (entries_in a table ++ entry ++ replicate k 0))) ++ (entries_in a table ++ entry ++ replicate k 0) ++ tail) is_rest

        long_text : length (longer_text place table.count (entries_in a table) entry) ≡ table_length n
        long_text =
            ap length (sym text_is)
            ∙ (let v = length-append head (entries_in a table ++ (entry ++ (replicate rest 0 ++ tail))) in
            let x = length-append (entries_in a table) (entry ++ (replicate rest 0 ++ tail)) in
            let y = length-append entry (replicate rest 0 ++ tail) in
            let w = length-append (replicate rest 0) tail in
            let z = length-replicate {A = ℕ} rest 0 in
            let u = long_used in let m = more in let h = long_head in
            omega (arith, v, x, y, w, z, u, m, h, long_entry, is_rest))

    pub table_written : WritesTable table place entry a f
    table_written = record { stands = stands; reaches = far; only = only }

-- ---- of bytes that may be told

both_put : (at : ℕ) (text : List ℕ) (a b : Option (List ℕ)) → Both (Writes at text) a b → Both (ChangesOnly (range at (length text) ∷ [])) a b → Both (Puts at text) a b
both_put at text None None w c = tt
both_put at text None (Some b) w c = w
both_put at text (Some a) None w c = w
both_put at text (Some a) (Some b) w c = record { writes = w; only = c }

pub head_again : (text : List ℕ) (place : ℕ) (d : DiskPtr) → text ≡ head_text SubNodes (view d) → d ≡ At (place / 4096) (place % 4096) → text ≡ head_text SubNodes (To place)
head_again text place d e f = e ∙ ap (λ x. head_text SubNodes (view x)) f ∙ ap (λ k. head_text SubNodes (To k)) (place_again place)

pub head_long : (text : List ℕ) (place : ℕ) → text ≡ head_text SubNodes (To place) → length text ≡ 16
head_long text place e = ap length e ∙ length-append (start_tag SubNodes) (pointer_text (To place)) ∙ ap (λ k. 4 + k) (length-pointer_text (To place))

pub few_blocks : (place n : ℕ) → blocks_of place n ≤ n / 4096 + 2
few_blocks place n = omega arith

pub two_blocks : (place n : ℕ) → n ≤ 44 → blocks_of place n ≤ 2
two_blocks place n le = omega (arith, le)

pub sum_of_blocks : (u r n : ℕ) → u + r ≤ n → u / 4096 + r / 4096 ≤ n / 4096
sum_of_blocks u r n le = omega (arith, le)

pub waits_three : (w0 w1 w2 w3 x y z u n : ℕ) → w1 ≤ w0 + x → w2 ≤ w1 + y → w3 ≤ w2 + z → x ≤ 2 → y ≤ u / 4096 + 2 → z ≤ 2 → u ≤ n → w3 ≤ w0 + (10 + n / 4096)
waits_three w0 w1 w2 w3 x y z u n a b c d e f le = omega (arith, a, b, c, d, e, f, le)

pub waits_four : (w0 w1 w2 w3 w4 x y z v u r n : ℕ) → w1 ≤ w0 + x → w2 ≤ w1 + y → w3 ≤ w2 + z → w4 ≤ w3 + v → x ≤ 2 → y ≤ u / 4096 + 2 → z ≤ 2 → v ≤ r / 4096 + 2 → u + r ≤ n → w4 ≤ w0 + (8 + n / 4096)
waits_four w0 w1 w2 w3 w4 x y z v u r n a b c d e f g h le = omega (arith, a, b, c, d, e, f, g, h, sum_of_blocks u r n le)

pub written_held : {T E : Type 0} (result : Result T E) (table : ChildTable) (place : ℕ) (entry : List ℕ) (used next rest end : ℕ) → used ≡ 44 * table.count → next ≡ place + 16 + 44 * table.count → rest ≡ 44 * (grown_entries table.count - suc table.count)
    → end ≡ place + 16 + 44 * grown_entries table.count → length entry ≡ 44 → (head tail : List ℕ) → head ≡ head_text SubNodes (To end) → tail ≡ end_tag SubNodes → (a b c d e f : Option (List ℕ))
    → Both (Writes place head) a b → Both (ChangesOnly (range place (length head) ∷ [])) a b → Both (Copies (table.place + 16) (place + 16) used) b c → Both (Writes next entry) c d → Both (ChangesOnly (range next (length entry) ∷ [])) c d
    → Both (Clears (next + 44) rest) d e → OnOk result (Both (Writes end tail) e f) → Both (ChangesOnly (range end (length tail) ∷ [])) e f → OnOk result (Both (WritesTable table place entry) a f)
written_held result table place entry used next rest end is_used is_next is_rest is_end long head tail is_head is_tail a b c d e f w1 c1 w2 w3 c3 w4 w5 c5 =
    on_ok_weaker result (λ last.
    both_map (Then (Puts place (head_text SubNodes (To end))) (Then (Copies (table.place + 16) (place + 16) used) (Then (Puts next entry) (Then (Clears (next + 44) rest) (Puts end (end_tag SubNodes)))))) (WritesTable table place entry) a f
    (λ x y t. table_written table place entry used next rest end is_used is_next is_rest is_end long x t.0 t.2.0 t.2.2.0 t.2.2.2.0 y t.1 t.2.1 t.2.2.1 t.2.2.2.1 t.2.2.2.2)
    (then_both (Puts place (head_text SubNodes (To end))) (Then (Copies (table.place + 16) (place + 16) used) (Then (Puts next entry) (Then (Clears (next + 44) rest) (Puts end (end_tag SubNodes))))) a b f (subst (λ t. Both (Puts place t) a b) is_head (both_put place head a b w1 c1))
    (then_both (Copies (table.place + 16) (place + 16) used) (Then (Puts next entry) (Then (Clears (next + 44) rest) (Puts end (end_tag SubNodes)))) b c f w2
    (then_both (Puts next entry) (Then (Clears (next + 44) rest) (Puts end (end_tag SubNodes))) c d f (both_put next entry c d w3 c3)
    (then_both (Clears (next + 44) rest) (Puts end (end_tag SubNodes)) d e f w4 (subst (λ t. Both (Puts end t) e f) is_tail (both_put end tail e f last c5))))))) w5

-- ---- the fields of a table in a header

pub fields_are : (count place g v e1 e2 e3 : ℕ) (d : DiskPtr) (a b c : List ℕ) → e1 ≡ 8 → take e1 a ≡ hex_text 8 v → e2 ≡ e1 + 8 → take e2 b ≡ take e1 a ++ hex_text 8 g → e3 ≡ e2 + 12 → take e3 c ≡ take e2 b ++ pointer_text (view d)
    → length c ≡ 28 → v ≡ suc count → g ≡ grown_entries count → d ≡ At (place / 4096) (place % 4096) → c ≡ table_fields place count
fields_are count place g v e1 e2 e3 d a b c at1 one at2 two at3 three long is_v is_g is_d =
    sym (field_whole c 28 long)
    ∙ (let same : e3 ≡ 28 = omega (arith, at1, at2, at3) in ap (λ k. take k c) (sym same))
    ∙ three
    ∙ ap (λ xs. xs ++ pointer_text (view d)) (two ∙ ap (λ xs. xs ++ hex_text 8 g) (one ∙ ap (hex_text 8) is_v) ∙ ap (λ k. hex_text 8 (suc count) ++ hex_text 8 k) is_g)
    ∙ ap (λ x. hex_text 8 (suc count) ++ hex_text 8 (grown_entries count) ++ pointer_text (view x)) is_d
    ∙ ap (λ k. hex_text 8 (suc count) ++ hex_text 8 (grown_entries count) ++ pointer_text (To k)) (place_again place)
