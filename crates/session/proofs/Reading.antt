-- Lines are read part by part.
use Rattle.std.proofs.Common.{◌≡◌, ◌≢◌, inl, inr, ℕ, ◌+◌, ◌-◌, ◌^◌, ◌<◌, ◌≤◌, ◌==◌, Bool, true, false, if◌then◌else◌, List, [], ◌∷◌, ◌++◌, length, take, drop, slice_range, Option, Some, None, Result, Err, refl, sym, ap, subst, ◌∙◌, arith, append_assoc, length-append, length-take, drop-drop}
use Rattle.std.proofs.lemmas.List.{drop-take, drop_all}
use Rattle.std.proofs.lemmas.List.Elements.{All-append, All-nil}
use Rattle.std.specs.Io.KnownBytes.{Consumes, Keeps, IsAtEnd, prepend_known}
use Rattle.std.proofs.KnownBytes.{Consumes-nil, Consumes-trans, Consumes-kept}
use Rattle.session.specs.Input.{NoFeed, InputState, Uses, UsesLine, HasFound, HasStopped, HasReason, IsHeld, MovesPart, at_end, behind_part}
use Rattle.session.specs.declared.reader.Found.TheVariants as found
use Rattle.session.specs.declared.reader.Stopped.{Stopped}
use Rattle.session.specs.declared.reader.Stopped.TheVariants as stopped

-- moving the start of a range drops its front
slice_advance : (xs : List ℕ) (i j n : ℕ) → i + n ≤ j → slice_range xs (i + n) j ≡ drop n (slice_range xs i j)
slice_advance xs i j n within =
    let len : j - i ≡ n + (j - (i + n)) = omega arith in
    sym (ap (λ (k : ℕ). drop n (take k (drop i xs))) len ∙ drop-take n (j - (i + n)) (drop i xs) ∙ ap (take (j - (i + n))) (drop-drop n i xs))

-- the front of a range is a part, and the range begins behind it then
pub moved : (piece : List ℕ) (start finish taken count used : ℕ) (old : InputState) (line longer : List ℕ) (was_long has_ended is_long : Bool)
    → record { pending = slice_range piece start finish; taken = taken } ≡ old
    → start ≤ finish
    → slice_range piece start finish ≡ take count (slice_range piece start finish) ++ behind_part has_ended (drop used (slice_range piece start finish))
    → NoFeed (take count (slice_range piece start finish))
    → used ≤ length (slice_range piece start finish)
    → (has_ended ≡ false → used ≡ length (slice_range piece start finish))
    → ((bytes : List ℕ) → IsHeld was_long line bytes → IsHeld is_long longer (bytes ++ take count (slice_range piece start finish)))
    → MovesPart old (record { pending = slice_range piece (start + used) finish; taken = taken }) line longer was_long has_ended is_long
moved piece start finish taken count used old line longer was_long has_ended is_long is order cut plain bound all held =
    let pending = slice_range piece start finish in
    let within : start + used ≤ finish = omega (arith, length-take (finish - start) (drop start piece)) in
    let rest : slice_range piece (start + used) finish ≡ drop used pending = slice_advance piece start finish used within in
    subst (λ (s : InputState). MovesPart s (record { pending = slice_range piece (start + used) finish; taken = taken }) line longer was_long has_ended is_long) is
    (record {
      part = take count pending;
      plain = plain;
      cut = subst (λ (l : List ℕ). pending ≡ take count pending ++ behind_part has_ended l) (sym rest) cut;
      all = λ unended. rest ∙ drop_all used pending (let e = all unended in omega arith);
      held = held;
      taken = refl;
    })

-- what a line has used up so far
pub record Reads (line : List ℕ) (is_long : Bool) (old new : InputState) (before now : Option (List ℕ)) : Type 0 where
  pub used : List ℕ
  pub plain : NoFeed used
  pub held : IsHeld is_long line used
  pub uses : Uses old new before now used

pub begun : (line : List ℕ) (state : InputState) (left : Option (List ℕ)) → line ≡ [] → Reads line false state state left left
begun line state left is = record { used = []; plain = All-nil (λ (b : ℕ). (b == 10) ≡ false); held = (is, omega arith); uses = record { text = Consumes-nil _; count = omega arith } }

consumes_front : (left : Option (List ℕ)) (front rest : List ℕ) → Consumes (prepend_known (front ++ rest) left) (prepend_known rest left) front
consumes_front None front rest = tt
consumes_front (Some bytes) front rest = append_assoc front rest bytes

-- bytes that were pending are used up
uses_more : (old mid new : InputState) (before now : Option (List ℕ)) (used front : List ℕ) → Uses old mid before now used
    → mid.pending ≡ front ++ new.pending → new.taken ≡ mid.taken → Uses old new before now (used ++ front)
uses_more old mid new before now used front uses cut taken = record {
  text = Consumes-trans _ _ _ used front uses.text (subst (λ (l : List ℕ). Consumes (prepend_known l now) (prepend_known new.pending now) front) (sym cut) (consumes_front now front new.pending));
  count = omega (arith, uses.count, length-append used front, length-append front new.pending, ap length cut, taken);
}

-- a line has ended: it is held, or too long
pub ended : (line longer : List ℕ) (was_long has_ended is_long : Bool) (old mid new : InputState) (before now : Option (List ℕ)) → Reads line was_long old mid before now
    → MovesPart mid new line longer was_long has_ended is_long → has_ended ≡ true → HasFound (if is_long then found.TooLong else found.Line) longer old new before now
ended line longer was_long has_ended is_long old mid new before now reads said is =
    let moves : MovesPart mid new line longer was_long true is_long = subst (λ (b : Bool). MovesPart mid new line longer was_long b is_long) is said in
    let used = reads.used ++ moves.part in
    let whole : UsesLine old new before now used = record {
      plain = All-append (λ (b : ℕ). (b == 10) ≡ false) reads.used moves.part reads.plain moves.plain;
      used = inl (subst (Uses old new before now) (sym (append_assoc reads.used moves.part (10 ∷ [])))
          (uses_more old mid new before now reads.used (moves.part ++ (10 ∷ [])) reads.uses (moves.cut ∙ sym (append_assoc moves.part (10 ∷ []) new.pending)) moves.taken));
    } in
    by_length is_long longer used (moves.held reads.used reads.held) whole
  where
    by_length : (is_long : Bool) (longer used : List ℕ) → IsHeld is_long longer used → UsesLine old new before now used → HasFound (if is_long then found.TooLong else found.Line) longer old new before now
    by_length true longer used held whole = (used, held, whole)
    by_length false longer used held whole = subst (UsesLine old new before now) (sym held.0) whole

-- a line goes on behind all that was pending
pub gone_on : (line longer : List ℕ) (was_long has_ended is_long : Bool) (old mid new : InputState) (before now : Option (List ℕ)) → Reads line was_long old mid before now
    → MovesPart mid new line longer was_long has_ended is_long → has_ended ≡ false → Reads longer is_long old new before now
gone_on line longer was_long has_ended is_long old mid new before now reads said is =
    let moves : MovesPart mid new line longer was_long false is_long = subst (λ (b : Bool). MovesPart mid new line longer was_long b is_long) is said in
    record {
      used = reads.used ++ moves.part;
      plain = All-append (λ (b : ℕ). (b == 10) ≡ false) reads.used moves.part reads.plain moves.plain;
      held = moves.held reads.used reads.held;
      uses = uses_more old mid new before now reads.used moves.part reads.uses moves.cut moves.taken;
    }

prepended_kept : (bytes : List ℕ) (a b : Option (List ℕ)) → Keeps a b → Keeps (prepend_known bytes a) (prepend_known bytes b)
prepended_kept bytes None b keeps = tt
prepended_kept bytes (Some x) None keeps = absurd keeps
prepended_kept bytes (Some x) (Some y) keeps = ap (λ (l : List ℕ). bytes ++ l) keeps

-- a failed call of the source takes nothing
pub kept : (line : List ℕ) (is_long : Bool) (old new : InputState) (before now later : Option (List ℕ)) → Reads line is_long old new before now → Keeps now later → Reads line is_long old new before later
kept line is_long old new before now later reads keeps = record {
  used = reads.used;
  plain = reads.plain;
  held = reads.held;
  uses = record { text = Consumes-kept _ _ _ reads.used reads.uses.text (prepended_kept new.pending now later keeps); count = reads.uses.count };
}

consumed_kept : (bytes : List ℕ) (a b : Option (List ℕ)) → Consumes a b bytes → Keeps (prepend_known [] a) (prepend_known bytes b)
consumed_kept bytes None b consumes = tt
consumed_kept bytes (Some x) None consumes = absurd consumes
consumed_kept bytes (Some x) (Some y) consumes = sym consumes

-- a piece was taken
pub filled : (line : List ℕ) (is_long : Bool) (old mid new : InputState) (before now later : Option (List ℕ)) (count : ℕ) → Reads line is_long old mid before now → mid.pending ≡ []
    → Consumes now later new.pending → length new.pending ≡ count → new.taken ≡ mid.taken + count → Reads line is_long old new before later
filled line is_long old mid new before now later count reads none consumes size taken = record {
  used = reads.used;
  plain = reads.plain;
  held = reads.held;
  uses = record {
    text = Consumes-kept _ _ _ reads.used (subst (λ (l : List ℕ). Consumes (prepend_known old.pending before) (prepend_known l now) reads.used) none reads.uses.text) (consumed_kept new.pending now later consumes);
    count = omega (arith, reads.uses.count, ap length none, size, taken);
  };
}

abbrev failed : Stopped → Result ℕ Stopped
failed why = Err why

reason : (why : Stopped) (P : Type 0) (new : InputState) → new.pending ≡ [] → (failed why ≡ failed stopped.Source → P × (new.taken < 2 ^ 40)) → (failed why ≡ failed stopped.Limit → new.taken ≡ 2 ^ 40) → HasReason why new
reason stopped.Source P new none source limit = (none, (source refl).1)
reason stopped.Limit P new none source limit = (none, limit refl)
reason stopped.Memory P new none source limit = tt

-- no piece was taken
pub fill_failed : (why : Stopped) (P : Type 0) (line : List ℕ) (is_long : Bool) (old mid new : InputState) (before now later : Option (List ℕ)) → Reads line is_long old mid before now → mid.pending ≡ []
    → Keeps now later → new ≡ mid → (failed why ≡ failed stopped.Source → P × (new.taken < 2 ^ 40)) → (failed why ≡ failed stopped.Limit → new.taken ≡ 2 ^ 40) → HasStopped why old new before later
fill_failed why P line is_long old mid new before now later reads none keeps same source limit =
    let stays : Reads line is_long old new before later = subst (λ (s : InputState). Reads line is_long old s before later) (sym same) (kept line is_long old mid before now later reads keeps) in
    record { part = stays.used; plain = stays.plain; used = stays.uses; reason = reason why P new (ap (λ (s : InputState). s.pending) same ∙ none) source limit }

none_of_length : (bytes : List ℕ) → length bytes ≡ 0 → bytes ≡ []
none_of_length [] is = refl
none_of_length (byte ∷ bytes) is = absurd (omega (arith, is))

some_of_length : (bytes : List ℕ) → 0 < length bytes → bytes ≢ []
some_of_length [] some is = absurd (omega (arith, some))
some_of_length (byte ∷ bytes) some is = cc

at_end_of : (bytes : List ℕ) (left : Option (List ℕ)) → bytes ≡ [] → IsAtEnd left → IsAtEnd (prepend_known bytes left)
at_end_of bytes None none end = tt
at_end_of bytes (Some rest) none end = ap (λ (l : List ℕ). l ++ rest) none ∙ end

-- the end of the input ends a line that has begun
pub last : (line : List ℕ) (is_long : Bool) (old new : InputState) (before now : Option (List ℕ)) → Reads line is_long old new before now
    → length new.pending ≡ 0 → IsAtEnd now → new.taken < 2 ^ 40 → HasFound (at_end is_long line) line old new before now
last line true old new before now reads size end limit =
    (reads.used, reads.held, record { plain = reads.plain; used = inr (some_of_length reads.used (omega (arith, reads.held)), reads.uses, at_end_of new.pending now (none_of_length new.pending size) end, limit) })
last [] false old new before now reads size end limit =
    (subst (Uses old new before now) (sym (reads.held.0)) reads.uses, at_end_of new.pending now (none_of_length new.pending size) end, none_of_length new.pending size, limit)
last (byte ∷ bytes) false old new before now reads size end limit =
    subst (UsesLine old new before now) (sym (reads.held.0))
    (record { plain = reads.plain; used = inr (subst (λ (l : List ℕ). l ≢ []) (reads.held.0) (λ is. cc), reads.uses, at_end_of new.pending now (none_of_length new.pending size) end, limit) })
