-- Copies behind others.
use Rattle.std.proofs.Common.{◌≡◌, ℕ, ◌∙◌, ap, arith, refl, sym, [], ◌+◌, ◌≤◌, List, ◌++◌, length, Result, Ok, Err, inl, inr, Some}
use Rattle.cg_io.specs.Device.{DeviceState}
use Rattle.adf_model.specs.Counts.{OnlyReads}
use Rattle.adf_model.specs.declared.error.AdfError.{AdfError}
use Rattle.cg_io.specs.declared.pages.Page.{Page}
use Rattle.adf_repack.specs.declared.writer.BlockWriter.{BlockWriter}
use Rattle.cg_io.specs.Pages.{IsReady}
use Rattle.adf_repack.specs.Sources.{IsUnread, IsBroken}
use Rattle.adf_repack.specs.Writers.{IsWriter, with_more, count_in, blocks_in, state_under, appended_in}
use Rattle.adf_repack.specs.Copies.{Appends, Copies}
use Rattle.adf_repack.proofs.WriterLaws.{more_then, more_none, writes_then, writes_none}
use Rattle.adf_repack.proofs.AppendLaws.{only_then, unwritten_then}
use Rattle.adf_repack.proofs.SourceLaws.{reads_then, reads_none}
use Rattle.adf_repack.proofs.PayloadLaws.{unread_then}

unread_later : (s t u : DeviceState) (e : AdfError) → t.faults ≤ u.faults → IsUnread s.faults t.faults e → IsUnread s.faults u.faults e
unread_later s t u e then h = record { is = h.is; rose = omega (arith, then, h.rose) }

module _ {B E : Type 0} (is_sound : B → Type 0) (source : B → DeviceState) (target : E → DeviceState) (broken : ℕ → ℕ → Type 0) where
  -- bytes that are not of the file
  pub copies_same : (bytes : List ℕ) (n : ℕ) (b : B) (page : Page) (s t : BlockWriter E) (r : Result Unit AdfError) → length bytes ≡ n → IsReady (is_sound b) (source b).held page
      → Appends target bytes s t r → Copies is_sound source target broken n (λ image. bytes) b b page s t r
  copies_same bytes n b page s t (Ok x) size ready h = record {
    ready = ready;
    reads = reads_none (source b);
    sound = h.sound;
    appended = λ image e. h.appended;
    count = h.count ∙ ap (λ k. count_in s + k) size;
    wrote = h.wrote;
    effect = h.effect;
    later = h.later;
    lost = h.lost;
    cause = tt;
  }
  copies_same bytes n b page s t (Err e) size ready h = record {
    ready = ready;
    reads = reads_none (source b);
    sound = tt;
    appended = tt;
    count = tt;
    wrote = tt;
    effect = h.effect;
    later = h.later;
    lost = h.lost;
    cause = inr (inl h.cause);
  }

  -- nothing
  pub copies_none : (x : Unit) (b : B) (page : Page) (s : BlockWriter E) → IsReady (is_sound b) (source b).held page → IsWriter target s
      → Copies is_sound source target broken 0 (λ image. []) b b page s s (Ok x)
  copies_none x b page s ready sound = record {
    ready = ready;
    reads = reads_none (source b);
    sound = sound;
    appended = λ image e. sym (more_none (appended_in target s));
    count = omega arith;
    wrote = writes_none (blocks_in s) (state_under target s);
    effect = record { reads = refl; writes = omega arith };
    later = omega arith;
    lost = omega arith;
    cause = tt;
  }

  module _ (n m : ℕ) (f g : List ℕ → List ℕ) (a b : B) (p : Page) (s t : BlockWriter E) where
    -- one that failed is as good as the failed first part of another
    pub copies_failed : (e : AdfError) → Copies is_sound source target broken n f a b p s t (Err e) → Copies is_sound source target broken m g a b p s t (Err e)
    copies_failed e h = record {
      ready = h.ready;
      reads = h.reads;
      sound = tt;
      appended = tt;
      count = tt;
      wrote = tt;
      effect = h.effect;
      later = h.later;
      lost = h.lost;
      cause = h.cause;
    }

    -- one behind another
    pub copies_then : (x : Unit) (c : B) (q : Page) (u : BlockWriter E) (r : Result Unit AdfError) → Copies is_sound source target broken n f a b p s t (Ok x)
        → Copies is_sound source target broken m g b c q t u r → Copies is_sound source target broken (n + m) (λ image. f image ++ g image) a c q s u r
    copies_then x c q u (Ok y) first then = record {
      ready = then.ready;
      reads = reads_then (source a) (source b) (source c) first.reads then.reads;
      sound = then.sound;
      appended = λ image e. then.appended image (first.reads.held ∙ e) ∙ ap (λ o. with_more o (g image)) (first.appended image e) ∙ more_then (appended_in target s) (f image) (g image);
      count = (let one = first.count in let two = then.count in omega (arith, one, two));
      wrote = writes_then (blocks_in s) (blocks_in t) (blocks_in u) (state_under target s) (state_under target t) (state_under target u) first.wrote then.wrote;
      effect = only_then (state_under target s) (state_under target t) (state_under target u) first.effect then.effect;
      later = omega (arith, first.later, then.later);
      lost = omega (arith, first.lost, then.lost);
      cause = tt;
    }
    copies_then x c q u (Err e) first then = record {
      ready = then.ready;
      reads = reads_then (source a) (source b) (source c) first.reads then.reads;
      sound = tt;
      appended = tt;
      count = tt;
      wrote = tt;
      effect = only_then (state_under target s) (state_under target t) (state_under target u) first.effect then.effect;
      later = omega (arith, first.later, then.later);
      lost = omega (arith, first.lost, then.lost);
      cause = elim then.cause [
        | inl unread ↦ inl (unread_then (source a) (source b) (source c) e first.reads unread)
        | inr other ↦ inr (elim other [
          | inl unwritten ↦ inl (unwritten_then (state_under target s) (state_under target t) (state_under target u) e first.later first.lost unwritten)
          | inr breaks ↦ inr breaks
        ])
      ];
    }

-- the same, where more counts as broken, and in other words
module _ {B E : Type 0} (is_sound : B → Type 0) (source : B → DeviceState) (target : E → DeviceState) (broken wider : ℕ → ℕ → Type 0) (all : (rule place : ℕ) → broken rule place → wider rule place) where
  broken_wider : (e : AdfError) → IsBroken broken e → IsBroken wider e
  broken_wider e h = record { rule = h.rule; place = h.place; is = h.is; so = all h.rule h.place h.so }

  pub copies_wider : (n : ℕ) (f : List ℕ → List ℕ) (a b : B) (p : Page) (s t : BlockWriter E) (r : Result Unit AdfError) → Copies is_sound source target broken n f a b p s t r
      → Copies is_sound source target wider n f a b p s t r
  copies_wider n f a b p s t (Ok x) h = record {
    ready = h.ready;
    reads = h.reads;
    sound = h.sound;
    appended = h.appended;
    count = h.count;
    wrote = h.wrote;
    effect = h.effect;
    later = h.later;
    lost = h.lost;
    cause = tt;
  }
  copies_wider n f a b p s t (Err e) h = record {
    ready = h.ready;
    reads = h.reads;
    sound = tt;
    appended = tt;
    count = tt;
    wrote = tt;
    effect = h.effect;
    later = h.later;
    lost = h.lost;
    cause = elim h.cause [
      | inl unread ↦ inl unread
      | inr other ↦ inr (elim other [
        | inl unwritten ↦ inl unwritten
        | inr breaks ↦ inr (broken_wider e breaks)
      ])
    ];
  }

-- the same bytes in other words
pub copies_as : {B E : Type 0} (is_sound : B → Type 0) (source : B → DeviceState) (target : E → DeviceState) (broken : ℕ → ℕ → Type 0) (n m : ℕ) (f g : List ℕ → List ℕ) (a b : B) (p : Page)
    (s t : BlockWriter E) (r : Result Unit AdfError) → n ≡ m → ((image : List ℕ) → f image ≡ g image) → Copies is_sound source target broken n f a b p s t r → Copies is_sound source target broken m g a b p s t r
copies_as is_sound source target broken n m f g a b p s t (Ok x) size same h = record {
  ready = h.ready;
  reads = h.reads;
  sound = h.sound;
  appended = λ image e. h.appended image e ∙ ap (with_more (appended_in target s)) (same image);
  count = h.count ∙ ap (λ k. count_in s + k) size;
  wrote = h.wrote;
  effect = h.effect;
  later = h.later;
  lost = h.lost;
  cause = tt;
}
copies_as is_sound source target broken n m f g a b p s t (Err e) size same h = record {
  ready = h.ready;
  reads = h.reads;
  sound = tt;
  appended = tt;
  count = tt;
  wrote = tt;
  effect = h.effect;
  later = h.later;
  lost = h.lost;
  cause = h.cause;
}

-- a copy behind a read, in other words
module _ {B E : Type 0} (is_sound : B → Type 0) (source : B → DeviceState) (target : E → DeviceState) (broken wider : ℕ → ℕ → Type 0) (all : (rule place : ℕ) → broken rule place → wider rule place) (n : ℕ)
    (f g : List ℕ → List ℕ) (a b c : B) (q : Page) (s u : BlockWriter E) (read : OnlyReads (source a) (source b)) (same : (image : List ℕ) → (source a).held ≡ Some image → f image ≡ g image) where
  pub copies_behind : (r : Result Unit AdfError) → Copies is_sound source target broken n f b c q s u r → Copies is_sound source target wider n g a c q s u r
  copies_behind (Ok x) h = record {
    ready = h.ready;
    reads = reads_then (source a) (source b) (source c) read h.reads;
    sound = h.sound;
    appended = λ image e. h.appended image (read.held ∙ e) ∙ ap (with_more (appended_in target s)) (same image e);
    count = h.count;
    wrote = h.wrote;
    effect = h.effect;
    later = h.later;
    lost = h.lost;
    cause = tt;
  }
  copies_behind (Err e) h = record {
    ready = h.ready;
    reads = reads_then (source a) (source b) (source c) read h.reads;
    sound = tt;
    appended = tt;
    count = tt;
    wrote = tt;
    effect = h.effect;
    later = h.later;
    lost = h.lost;
    cause = elim h.cause [
      | inl unread ↦ inl (unread_then (source a) (source b) (source c) e read unread)
      | inr other ↦ inr (elim other [
        | inl unwritten ↦ inl unwritten
        | inr breaks ↦ inr (broken_wider is_sound source target broken wider all e breaks)
      ])
    ];
  }
