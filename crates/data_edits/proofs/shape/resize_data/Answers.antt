use Rattle.std.proofs.Common.{refl, sym, ◌∙◌, arith, ℕ, List, Option}
use Rattle.adf_format.specs.Placement.{NodeParts}
use Rattle.adf_model.specs.declared.error.AdfError.TheVariants as error
use Rattle.adf_data.specs.Growing.{Owns}
use Rattle.adf_data.proofs.SizeLaws.{same_refusal}
use Rattle.data_edits.specs.Becomes.{NoneOwned, place_in}
use Rattle.data_edits.specs.Shaped.{LacksSize}
use Rattle.data_edits.proofs.Costs.{growth_pays}
use Rattle.data_edits.proofs.Reshaping.{fewer_become, lacks_size, least_size, most_size, resized_become, resized_full, resized_none, roomless, size_told}
use Rattle.data_edits.proofs.DataWaits.{stay_wait}
use Rattle.data_edits.proofs.shape.resize_data.Goals as goal

pub returns-then-new-old-clause-becomes : goal.returns-then-new-old-clause-becomes
returns-then-new-old-clause-becomes g c =
    let e = size_told c.size-new.result _ c.size-new.ensures c.requires.small in
    fewer_become c.args.heap.now.limit c.args.header.now c.args.shape.now c.size-new.result c.size-new.result c.requires.stay c.requires.small e (least_size _ c.size_in-old.result c.size-new.result c.size_in-old.ensures c.if-new-old.true)
    (let some = c.requires.some in omega (arith, e, some)) refl c.args.heap.now.work c.requires.heap (g.S.ReadBytes.image c.args.space.now) c.requires.threads

pub resize-requires-clause-was : goal.resize-requires-clause-was
resize-requires-clause-was g c =
    let e = size_told c.size-new.result _ c.size-new.ensures c.requires.small in let lt = c.if-new-old.false in let few = c.requires.small in omega (arith, e, lt, few)

pub resize-requires-clause-size : goal.resize-requires-clause-size
resize-requires-clause-size g c =
    let e = size_told c.size-new.result _ c.size-new.ensures c.requires.small in
    let some = c.requires.some in let few = c.requires.small in (omega (arith, e, some), omega (arith, e, few))

pub returns-in-Ok-clause-becomes : goal.returns-in-Ok-clause-becomes
returns-in-Ok-clause-becomes g c =
    resized_become c.args.heap.now.limit c.args.header.now c.args.shape.now c.size_in-old.result c.size-new.result c.requires.stay c.requires.small (size_told c.size-new.result _ c.size-new.ensures c.requires.small)
    (most_size _ c.size_in-old.result c.size-new.result c.size_in-old.ensures c.if-new-old.false)
    c.resize.new.at c.args.heap.now.work.heap c.resize.new.heap.work c.in-Ok.ensures.heap (g.S.ReadBytes.image c.args.space.now) (g.S.ReadBytes.image c.resize.new.space) c.in-Ok.ensures.resized c.in-Ok.ensures.bytes

pub returns-in-Ok-clause-waits : goal.returns-in-Ok-clause-waits
returns-in-Ok-clause-waits g c =
    let e = size_told c.size-new.result _ c.size-new.ensures c.requires.small in
    growth_pays c.args.header.now c.args.shape.now c.requires.stay c.size_in-old.result c.size-new.result c.size_in-old.ensures e (let few = c.requires.small in omega (arith, e, few)) c.if-new-old.false
    (g.S.ReadBytes.waiting c.args.space.now) (g.S.ReadBytes.waiting c.resize.new.space) c.in-Ok.ensures.waits

pub returns-in-Err-clause-exact : goal.returns-in-Err-clause-exact
returns-in-Err-clause-exact g c = λ asked end is.
    resized_full c.args.heap.now.limit c.args.header.now c.args.shape.now c.size_in-old.result c.size-new.result c.requires.stay c.requires.small (size_told c.size-new.result _ c.size-new.ensures c.requires.small)
    (most_size _ c.size_in-old.result c.size-new.result c.size_in-old.ensures c.if-new-old.false)
    (g.S.ReadBytes.image c.args.space.now) c.args.heap.now.work.heap _ (c.in-Err.ensures.exact asked end (same_refusal c.in-Err.error (error.Full asked end) is))

pub returns-in-Err-clause-cause : goal.returns-in-Err-clause-cause
returns-in-Err-clause-cause g c =
    let e = size_told c.size-new.result _ c.size-new.ensures c.requires.small in
    roomless (LacksSize c.args.heap.now.limit c.args.header.now c.args.shape.now c.args.heap.now.work.heap) ((parts : NodeParts) (bytes : Option (List ℕ)) → Owns (place_in c.args.header.now) c.size_in-old.result parts bytes c.args.heap.now.work.heap (g.S.ReadBytes.image c.args.space.now) → ⊥) (NoneOwned c.args.header.now c.args.heap.now.work.heap (g.S.ReadBytes.image c.args.space.now)) c.resize.result _ _ c.in-Err.error c.in-Err.is
    (resized_none c.args.heap.now.limit c.args.header.now c.args.shape.now c.size_in-old.result c.size-new.result c.requires.stay c.requires.small e
    (most_size _ c.size_in-old.result c.size-new.result c.size_in-old.ensures c.if-new-old.false) (g.S.ReadBytes.image c.args.space.now) c.args.heap.now.work.heap)
    (λ asked end is. lacks_size c.args.heap.now.limit c.args.header.now c.args.shape.now c.args.heap.now.work.heap c.size-new.result asked end c.requires.stay e (c.in-Err.ensures.full asked end (sym c.in-Err.is ∙ is)))
    c.in-Err.ensures.cause

pub returns-then-new-old-clause-only : goal.returns-then-new-old-clause-only
returns-then-new-old-clause-only g c = stay_wait c.args.header.now c.args.heap.now.work.heap c.args.heap.now.work.heap (g.S.ReadBytes.image c.args.space.now) _

pub returns-in-Ok-clause-only : goal.returns-in-Ok-clause-only
returns-in-Ok-clause-only g c = c.resize.ensures.only
