-- What the table answers may be answered over a device that tells nothing.
use Rattle.std.proofs.Common.{◌≡◌, sym, subst, refl, arith, ℕ, zero, suc, ◌<◌, true, List, [], ◌∷◌, inl, inr}
use Rattle.std.specs.Prelude.{Option, Some, None, IsSome, Result, Ok, Err, length}
use Rattle.adf_model.specs.declared.error.AdfError.{AdfError}
use Rattle.adf_model.specs.declared.error.AdfError.TheVariants.{Memory, NoData, LinkMissing}
use Rattle.adf_model.specs.declared.error.EditError.{EditError}
use Rattle.adf_model.specs.declared.tree.Edit.{Edit}
use Rattle.adf_model.specs.declared.tree.NodeId.{NodeId}
use Rattle.adf_model.specs.declared.tree.Query.{Query}
use Rattle.adf_model.specs.declared.tree.Reply.{Reply}
use Rattle.adf_model.specs.Tests.{first_refusal}
use Rattle.adf_model.specs.Slots.{Open, IsTold, IsToldAt, slot_at, open_at, device_at}
use Rattle.adf_model.specs.Calls.{tests_of_files}
use Rattle.adf_model.specs.Answers.{asked_node, may_refuse}
use Rattle.adf_model.specs.Causes.{OnlyAsks}
use Rattle.adf_model.specs.Steps.{OthersOnlyRead, IsRefusedBy}
use Rattle.adf_model.specs.Steps.Call.{Asked, Changed}
use Rattle.adf_model.specs.Runs.{Makes, IsToldFor, KeepsLayouts}
use Rattle.adf_model.proofs.Basics.{not_true, not_there}
use Rattle.checker_tests.specs.PlainTrees.{plain_files, plain_devices, IsPlainReply}

-- the device tells nothing, so what is said of devices that tell holds here
pub not_told : IsTold plain_files plain_devices → ⊥
not_told told = absurd (not_true (told 0 refl))

same : (one : Option ℕ) → OthersOnlyRead one plain_devices plain_devices
same one = record {
  count = refl;
  others = λ n h. record { held = refl; lost = refl; writes = refl; reads = omega arith; faults = omega arith };
  counts = λ n. record { faults = omega arith; lost = omega arith; reads = omega arith; writes = omega arith };
}

only_asks : OnlyAsks plain_files plain_devices plain_devices plain_files
only_asks = record { files_stay = refl; devices_stay = same None; placed = λ n h. refl }

keeps : KeepsLayouts plain_files plain_devices plain_devices plain_files
keeps = record { told = λ n h. h; laid_out = λ n h. h }

untold : (query : Query) (result : Result Reply AdfError) → (asked_node query).file ≡ 0 → IsToldFor plain_files plain_devices (Asked query result) → ⊥
untold query result own (inl told) = not_told told
untold query result own (inr h) = absurd (not_true (subst (λ n. IsToldAt (slot_at plain_files n) (device_at plain_devices n)) own h.0 refl))

no_refusal : (query : Query) → (asked_node query).file ≡ 0 → first_refusal (tests_of_files plain_files (asked_node query ∷ [])) ≡ None
no_refusal query own = rw own refl

may_memory : (query : Query) → may_refuse query Memory ≡ true
may_memory (Query.Name node) = refl
may_memory (Query.LabelOf node) = refl
may_memory (Query.ShapeOf node) = refl
may_memory (Query.ChildrenOf node) = refl
may_memory (Query.LinkText node) = refl
may_memory (Query.ReadAll node) = refl
may_memory (Query.ReadPart node selection) = refl
may_memory (Query.Find node path) = refl
may_memory (Query.Next node) = refl
may_memory (Query.FormatOf node) = refl
may_memory (Query.Parent node) = refl
may_memory (Query.Target node) = refl

free : (A : Type 0) (o : Option AdfError) → IsRefusedBy {A = A} o (Err Memory)
free A None = tt
free A (Some error) = tt

pub plain_asked : (query : Query) (result : Result Reply AdfError) → IsPlainReply query result → Makes plain_files plain_devices (Asked query result) plain_devices plain_files
plain_asked query (Ok reply) h = record {
  step = λ told. absurd (untold query (Ok reply) h.0 told);
  layouts = keeps;
  anyway = record {
    leaves = only_asks;
    entry = record { refused = subst (λ o. IsRefusedBy o (Ok reply)) (sym (no_refusal query h.0)) tt; comes = tt };
    cause = tt;
    kind = h.1;
  };
}
plain_asked query (Err Memory) h = record {
  step = λ told. (tt, may_memory query, refl, same None, λ n k. refl);
  layouts = keeps;
  anyway = record {
    leaves = only_asks;
    entry = record { refused = free _ _; comes = tt };
    cause = may_memory query;
    kind = tt;
  };
}
plain_asked query (Err NoData) h = record {
  step = λ told. absurd (untold query (Err NoData) h.0 told);
  layouts = keeps;
  anyway = record {
    leaves = only_asks;
    entry = record { refused = subst (λ o. IsRefusedBy {A = Reply} o (Err NoData)) (sym (no_refusal query h.0)) tt; comes = tt };
    cause = h.1;
    kind = tt;
  };
}
plain_asked query (Err LinkMissing) h = record {
  step = λ told. absurd (untold query (Err LinkMissing) h.0 told);
  layouts = keeps;
  anyway = record {
    leaves = only_asks;
    entry = record { refused = subst (λ o. IsRefusedBy {A = Reply} o (Err LinkMissing)) (sym (no_refusal query h.0)) tt; comes = tt };
    cause = h.1;
    kind = tt;
  };
}
plain_asked query (Err error) h = absurd h

-- no group of edits is done, and an empty one does nothing
no_edits : (edits : List Edit) (result : Result (List NodeId) EditError) → IsToldFor plain_files plain_devices (Changed edits result) → ⊥
no_edits edits result (inl told) = not_told told
no_edits edits result (inr h) = one_file h.number h.opened h.live h.told
  where
    one_file : (n : ℕ) (opened : Open) → open_at plain_files n ≡ Some opened → IsSome (device_at plain_devices n).held → ⊥
    one_file zero opened live told = absurd (not_true told)
    one_file (suc n) opened live told = absurd (not_there opened live)

done_nothing : Makes plain_files plain_devices (Changed [] (Ok [])) plain_devices plain_files
done_nothing = record {
  step = λ told. absurd (no_edits [] (Ok []) told);
  layouts = keeps;
  anyway = record {
    leaves = record { one = None; own = tt; others = same None; placed = λ n h. refl; standing = refl };
    names = refl;
    entry = record { passed = λ i edit lt. absurd (omega arith); index = tt; refused = tt };
    cause = tt;
    kind = tt;
  };
}

pub nothing_edited : (edits : List Edit) (result : Result (List NodeId) EditError) → length edits ≡ 0 → result ≡ Ok [] → Makes plain_files plain_devices (Changed edits result) plain_devices plain_files
nothing_edited [] result none done = subst (λ r. Makes plain_files plain_devices (Changed [] r) plain_devices plain_files) (sym done) done_nothing
nothing_edited (edit ∷ edits) result none done = absurd (omega arith)

pub edits_refused : (edits : List Edit) (result : Result (List NodeId) EditError) → 0 < length edits → result ≡ Err (record { at = 0; error = Memory })
    → Makes plain_files plain_devices (Changed edits result) plain_devices plain_files
edits_refused edits result some e = subst (λ r. Makes plain_files plain_devices (Changed edits r) plain_devices plain_files) (sym e) (record {
  step = λ told. absurd (no_edits edits (Err (record { at = 0; error = Memory })) told);
  layouts = keeps;
  anyway = record {
    leaves = (refl, same None, λ n h. refl);
    names = refl;
    entry = record { passed = λ i edit lt. absurd (omega arith); index = some; refused = λ edit is. record { refused = free _ _; comes = tt } };
    cause = refl;
    kind = λ edit is. refl;
  };
})
