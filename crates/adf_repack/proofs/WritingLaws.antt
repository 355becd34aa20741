-- What stands on a device behind a copy that was written.
use Rattle.std.proofs.Common.{◌≡◌, ◌⊎◌, ℕ, ◌+◌, ◌*◌, List, [], ◌++◌, length, refl, sym, ◌∙◌, ap, subst, arith, inl, inr, Bool, Option, None, Some, Ok, Err, IfSome}
use Rattle.std.specs.Prelude.{Result, option_map}
use Rattle.std.specs.List.{sum_by}
use Rattle.std.proofs.lemmas.List.{take_all}
use Rattle.adf_format.specs.Tree.{Tree}
use Rattle.adf_model.specs.Counts.{NoCountFell}
use Rattle.adf_model.specs.declared.error.AdfError.{AdfError}
use Rattle.cg_io.specs.Device.{DeviceState}
use Rattle.layout_lint.specs.declared.verdict.NodePlace.{NodePlace}
use Rattle.adf_repack.specs.declared.places.NodeShape.{NodeShape}
use Rattle.adf_repack.specs.declared.plan.Plan.{Plan}
use Rattle.adf_repack.specs.declared.planning.Planned.{Planned}
use Rattle.cg_io.specs.declared.pages.Page.{Page}
use Rattle.adf_repack.specs.declared.writer.BlockWriter.{BlockWriter}
use Rattle.adf_repack.specs.Copies.{IsUnwritten, Writes}
use Rattle.adf_repack.specs.Measures.{HoldsNone}
use Rattle.adf_repack.specs.Places.{room_of, length_of}
use Rattle.adf_repack.specs.Planning.{IsPlanned}
use Rattle.adf_repack.specs.Plans.{IsPlan, room_until, BreaksOne}
use Rattle.adf_repack.specs.Sources.{IsUnread, IsBroken}
use Rattle.adf_repack.specs.Writers.{device_under, state_under, blocks_in, count_in, appended_in, with_more, in_blocks, OnlyWrites, WritesBlocks, blocks_for}
use Rattle.adf_repack.proofs.TextLaws.{none_some, same_some}

pub none_told : (held : Option (List ℕ)) → HoldsNone held → IfSome held (λ bytes. bytes ≡ [])
none_told None h = tt
none_told (Some bytes) h = h bytes refl

-- bytes that are appended to none
pub held_so : (old new : Option (List ℕ)) (text bytes : List ℕ) → HoldsNone old → new ≡ option_map in_blocks (with_more old text) → new ≡ Some bytes → bytes ≡ in_blocks text
held_so None new text bytes none is told = none_some bytes (sym is ∙ told)
held_so (Some b) new text bytes none is told = same_some bytes (in_blocks text) (sym told ∙ is ∙ ap (λ (l : List ℕ). Some (in_blocks (l ++ text))) (none b refl))

-- all nodes take the room of the file
pub room_all : (nodes : List NodePlace) (plan : Plan) → IsPlan nodes plan → 266 + room_until plan (length nodes) ≡ length_of plan.wide plan.shapes.items
room_all nodes plan is = ap (λ (l : List NodeShape). 266 + sum_by (room_of plan.wide) l) (take_all (length nodes) plan.shapes.items (let same = is.shapes in omega (arith, same)))

-- the blocks from the first one on
pub wrote_so : (from filled count n size : ℕ) (s t : DeviceState) → count ≡ from * 4096 + filled → count ≡ 0 → n ≡ size → WritesBlocks from (blocks_for (count + n)) s t → WritesBlocks 0 (blocks_for size) s t
wrote_so from filled count n size s t is none same wrote =
    let first : from ≡ 0 = omega (arith, is, none) in
    let all : count + n ≡ size = omega (arith, none, same) in
    subst (λ (m : ℕ). WritesBlocks 0 (blocks_for m) s t) all (subst (λ (k : ℕ). WritesBlocks k (blocks_for (count + n)) s t) first wrote)

-- ---- a writer and its device

-- what was written of a file to a device
pub record EndsWell {B E : Type 0} (source : B → DeviceState) (target : E → DeviceState) (text : List ℕ → List ℕ) (size : ℕ) (before : B) (device after : E) : Type 0 where
  pub wrote : WritesBlocks 0 (blocks_for size) (target device) (target after)
  pub effect : OnlyWrites (target device) (target after)
  pub held : (image : List ℕ) → (source before).held ≡ Some image → (bytes : List ℕ) → (target after).held ≡ Some bytes → bytes ≡ in_blocks (text image)

module _ {B E : Type 0} (is_sound : B → Type 0) (source : B → DeviceState) (target : E → DeviceState) (broken : ℕ → ℕ → Type 0) (n : ℕ) (text : List ℕ → List ℕ) (before after : B) (page : Page)
    (old new : BlockWriter E) (device last : E) (is : device_under old ≡ device) (ends : last ≡ device_under new) where
  pub ends_well : (x : Unit) (size : ℕ) → count_in old ≡ 0 → appended_in target old ≡ (target device).held → HoldsNone (target device).held → n ≡ size
      → Writes is_sound source target broken n text before after page old new (Ok x) → EndsWell source target text size before device last
  ends_well x size none appended empty same w = record {
    wrote = subst (λ (d : E). WritesBlocks 0 (blocks_for size) (target device) (target d)) (sym ends)
        (subst (λ (d : E). WritesBlocks 0 (blocks_for size) (target d) (state_under target new)) is
        (wrote_so (blocks_in old) old.tail.filled (count_in old) n size (state_under target old) (state_under target new) refl none same w.wrote));
    effect = subst (λ (d : E). OnlyWrites (target device) (target d)) (sym ends) (subst (λ (d : E). OnlyWrites (target d) (state_under target new)) is w.effect);
    held = λ image e bytes told. held_so (target device).held (state_under target new).held (text image) bytes empty
        (w.held image e ∙ ap (λ (o : Option (List ℕ)). option_map in_blocks (with_more o (text image))) appended) (ap (λ (d : E). (target d).held) (sym ends) ∙ told);
  }

  pub counts_so : (result : Result Unit AdfError) → Writes is_sound source target broken n text before after page old new result → NoCountFell (target device) (target last)
  counts_so result w =
      let effect = w.effect in
      let kept : NoCountFell (state_under target old) (state_under target new) = record {
        faults = w.later;
        lost = w.lost;
        reads = (let same = effect.reads in omega (arith, same));
        writes = effect.writes;
      } in
      subst (λ (d : E). NoCountFell (target device) (target d)) (sym ends) (subst (λ (d : E). NoCountFell (target d) (state_under target new)) is kept)

  pub ends_badly : (e : AdfError) → Writes is_sound source target broken n text before after page old new (Err e)
      → IsUnread (source before).faults (source after).faults e ⊎ (IsUnwritten (target device) (target last) e ⊎ IsBroken broken e)
  ends_badly e w = elim w.cause [
    | inl u ↦ inl u
    | inr other ↦ elim other [
      | inl h ↦ inr (inl (subst (λ (d : E). IsUnwritten (target device) (target d) e) (sym ends) (subst (λ (d : E). IsUnwritten (target d) (state_under target new) e) is h)))
      | inr b ↦ inr (inr b)
    ]
  ]

-- a plan over bytes that are told, of a tree
pub planned_as : (held : Option (List ℕ)) (wide to : Bool) (nodes : List NodePlace) (p : Planned) (image : List ℕ) (tree : Tree) → held ≡ Some image → tree.wide ≡ wide → IsPlanned held wide to nodes p
    → IsPlanned (Some image) tree.wide p.plan.wide nodes p
planned_as held wide to nodes p image tree e width is =
    subst (λ (v : Bool). IsPlanned (Some image) tree.wide v nodes p) (sym is.version)
    (subst (λ (w : Bool). IsPlanned (Some image) w to nodes p) (sym width) (subst (λ (o : Option (List ℕ)). IsPlanned o wide to nodes p) e is))

pub broken_as : (held : Option (List ℕ)) (wide : Bool) (nodes : List NodePlace) (plan : Plan) (image : List ℕ) (tree : Tree) (before now : ℕ) (old new : DeviceState) (e : AdfError) → held ≡ Some image → tree.wide ≡ wide
    → IsUnread before now e ⊎ (IsUnwritten old new e ⊎ IsBroken (BreaksOne held wide nodes plan) e)
    → IsUnread before now e ⊎ (IsUnwritten old new e ⊎ IsBroken (BreaksOne (Some image) tree.wide nodes plan) e)
broken_as held wide nodes plan image tree before now old new e told width cause =
    subst (λ (w : Bool). IsUnread before now e ⊎ (IsUnwritten old new e ⊎ IsBroken (BreaksOne (Some image) w nodes plan) e)) (sym width)
    (subst (λ (o : Option (List ℕ)). IsUnread before now e ⊎ (IsUnwritten old new e ⊎ IsBroken (BreaksOne o wide nodes plan) e)) told cause)
