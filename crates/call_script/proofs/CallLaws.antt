-- The tokens of a line that makes a call are found again by cutting the line at its spaces, and they make one call.
use Rattle.std.proofs.Common.{◌≡◌, ◌≢◌, ℕ, suc, length, ◌<◌, ◌≤◌, List, [], ◌∷◌, ◌++◌, refl, sym, ◌∙◌, ap, subst, arith, inl, inr, Result, Ok, Err, IfOk, IfErr}
use Rattle.std.specs.Prelude.{codes}
use Rattle.adf_model.specs.declared.error.AdfError.{AdfError}
use Rattle.adf_model.specs.declared.error.AdfError.TheVariants.{Syntax}
use Rattle.adf_model.specs.declared.tree.Edit.{Edit}
use Rattle.call_script.specs.declared.calls.Call.{Call}
use Rattle.call_script.specs.declared.calls.OpenMode.{OpenMode}
use Rattle.call_script.specs.declared.words.CallWord.{CallWord}
use Rattle.call_script.specs.declared.words.CallWord.TheVariants as calls
use Rattle.call_script.specs.declared.words.EditWord.{EditWord}
use Rattle.call_script.specs.Causes.{IsRefusal}
use Rattle.call_script.specs.Fields.{Kind, Values, Reads, IsNoRead, IsMadeRead}
use Rattle.call_script.specs.Lines.{Makes, IsEdit, AreEdits, IsGroupCall, IsPlainCall, AreTokens, IsLine, edit_word, edit_fields, edit_of, call_word, call_fields, call_of, group_word}
use Rattle.call_script.specs.Tokens.{cut, line_of, IsLimit}
use Rattle.std.proofs.lemmas.List.{append_assoc, length-append}
use Rattle.call_script.proofs.Pieces.{Lacks, AllLack, cut-joined, joined-cut}
use Rattle.call_script.proofs.FieldLaws.{same_head, same_tail, lacks_by_test, reads_lack}
use Rattle.call_script.proofs.Reading.{makes, makes_none, makes_left, makes_no_fields, makes_same}
use Rattle.call_script.proofs.WordLaws.{edit_apart, call_apart, group_apart, call_lacks, edit_lacks, group_lacks}

-- ---- no space

edit_lack : (before after : List (List ℕ)) (edit : Edit) → IsEdit before edit after → AllLack 32 after → AllLack 32 before
edit_lack before after edit h none = subst (AllLack 32) (sym h.word_is) (edit_lacks h.word, reads_lack (edit_fields h.word) h.behind after h.values h.reads none)

edits_lack : (tokens : List (List ℕ)) (edits : List Edit) → AreEdits tokens edits → AllLack 32 tokens
edits_lack tokens [] h = absurd h
edits_lack tokens (edit ∷ []) h = edit_lack tokens [] edit h tt
edits_lack tokens (edit ∷ next ∷ edits) h = edit_lack tokens (codes ";" ∷ h.0) edit h.1 (lacks_by_test (codes ";") refl, edits_lack h.0 (next ∷ edits) h.2)

-- tokens that make a call have no space, and there is one
pub again : (tokens : List (List ℕ)) (call : Call) → AreTokens tokens call → cut (line_of tokens) ≡ tokens
again tokens call h =
    elim h [
      | inl plain ↦ from tokens (call_word plain.word) plain.behind plain.word_is (call_lacks plain.word) (reads_lack (call_fields plain.word) plain.behind [] plain.values plain.reads tt)
      | inr group ↦ from tokens group_word group.1 group.2 group_lacks (edits_lack group.1 group.0 group.3)
    ]
  where
    from : (tokens : List (List ℕ)) (token : List ℕ) (others : List (List ℕ)) → tokens ≡ token ∷ others → Lacks 32 token → AllLack 32 others → cut (line_of tokens) ≡ tokens
    from tokens token others e lacks none = ap (λ ts. cut (line_of ts)) e ∙ cut-joined 32 token others lacks none ∙ sym e

-- the pieces of a line that makes a call are the call's tokens
pub line_tokens : (line : List ℕ) (call : Call) → IsLine line call → AreTokens (cut line) call
line_tokens line call h = subst (λ ts. AreTokens ts call) (sym (ap cut h.line_is ∙ again h.tokens call h.call_is)) h.call_is

pub line_found : (line : List ℕ) (left : List (List ℕ)) (r : Result Call AdfError) → left ≡ cut line → IfOk r (AreTokens left) → IfOk r (IsLine line)
line_found line left (Ok call) e h = record { tokens = left; line_is = joined-cut 32 line ∙ ap line_of (sym e); call_is = h }
line_found line left (Err error) e h = h

-- ---- one call

edit_same : (before : List (List ℕ)) (one other : Edit) (x y : List (List ℕ)) → IsEdit before one x → IsEdit before other y → (one ≡ other) × (x ≡ y)
edit_same before one other x y h k = makes_same edit_word edit_fields edit_of edit_apart before one other x y h k

no_end : (x : List ℕ) (xs : List (List ℕ)) → [] ≡ x ∷ xs → ⊥
no_end x xs e = cc

edits_same : (tokens : List (List ℕ)) (one other : List Edit) → AreEdits tokens one → AreEdits tokens other → one ≡ other
edits_same tokens [] other h k = absurd h
edits_same tokens (a ∷ one) [] h k = absurd k
edits_same tokens (a ∷ []) (b ∷ []) h k = ap (λ e. e ∷ []) (edit_same tokens a b [] [] h k).0
edits_same tokens (a ∷ []) (b ∷ d ∷ other) h k = absurd (no_end (codes ";") k.0 (edit_same tokens a b [] (codes ";" ∷ k.0) h k.1).1)
edits_same tokens (a ∷ c ∷ one) (b ∷ []) h k = absurd (no_end (codes ";") h.0 (sym (edit_same tokens a b (codes ";" ∷ h.0) [] h.1 k).1))
edits_same tokens (a ∷ c ∷ one) (b ∷ d ∷ other) h k =
    let first = edit_same tokens a b (codes ";" ∷ h.0) (codes ";" ∷ k.0) h.1 k.1 in
    let rest : h.0 ≡ k.0 = same_tail (codes ";") (codes ";") h.0 k.0 first.1 in
    let others : c ∷ one ≡ d ∷ other = edits_same k.0 (c ∷ one) (d ∷ other) (subst (λ ts. AreEdits ts (c ∷ one)) rest h.2) k.2 in
    ap (λ e. e ∷ c ∷ one) first.0 ∙ ap (λ es. b ∷ es) others

plain_group : (tokens : List (List ℕ)) (one other : Call) → IsPlainCall tokens one → IsGroupCall tokens other → ⊥
plain_group tokens one other h k = group_apart h.word (same_head group_word (call_word h.word) k.1 h.behind (sym k.2 ∙ h.word_is))

group_same : (tokens : List (List ℕ)) (one other : Call) → IsGroupCall tokens one → IsGroupCall tokens other → one ≡ other
group_same tokens one other h k =
    let rest : h.1 ≡ k.1 = same_tail group_word group_word h.1 k.1 (sym h.2 ∙ k.2) in
    h.4 ∙ ap edits_of (edits_same k.1 h.0 k.0 (subst (λ ts. AreEdits ts h.0) rest h.3) k.3) ∙ sym k.4
  where
    edits_of : List Edit → Call
    edits_of edits = Call.Edit edits

call_same : (tokens : List (List ℕ)) (one other : Call) → AreTokens tokens one → AreTokens tokens other → one ≡ other
call_same tokens one other h k =
    elim h [
      | inl plain ↦ elim k [
        | inl other_plain ↦ (makes_same call_word call_fields call_of call_apart tokens one other [] [] plain other_plain).0
        | inr group ↦ absurd (plain_group tokens one other plain group)
      ]
      | inr group ↦ elim k [
        | inl other_plain ↦ absurd (plain_group tokens other one other_plain group)
        | inr other_group ↦ group_same tokens one other group other_group
      ]
    ]

-- a line makes at most one call
pub one_call : (line : List ℕ) (one other : Call) → IsLine line one → IsLine line other → one ≡ other
one_call line one other h k = call_same (cut line) one other (line_tokens line one h) (line_tokens line other k)

-- ---- reading a group

pub edit_makes : (before behind after : List (List ℕ)) (word : EditWord) (token : List ℕ) (edit : Edit) → before ≡ token ∷ behind → token ≡ edit_word word → IsMadeRead (edit_fields word) (edit_of word) behind (Ok edit) after → IsEdit before edit after
edit_makes = makes edit_word edit_fields edit_of

pub edit_none : (before behind : List (List ℕ)) (token : List ℕ) → before ≡ token ∷ behind → ((word : EditWord) → token ≢ edit_word word) → (edit : Edit) (after : List (List ℕ)) → IsEdit before edit after → ⊥
edit_none = makes_none edit_word edit_fields edit_of

pub edit_left : (before : List (List ℕ)) → before ≡ [] → (edit : Edit) (after : List (List ℕ)) → IsEdit before edit after → ⊥
edit_left = makes_left edit_word edit_fields edit_of

pub edit_no_fields : (before behind : List (List ℕ)) (word : EditWord) (token : List ℕ) (error : AdfError) → before ≡ token ∷ behind → token ≡ edit_word word → IsNoRead (edit_fields word) behind error → error ≡ Syntax → (edit : Edit) (after : List (List ℕ)) → IsEdit before edit after → ⊥
edit_no_fields = makes_no_fields edit_word edit_fields edit_of edit_apart

-- some first edits of a group were read
pub record HasEdits (whole left : List (List ℕ)) (done : List Edit) : Type 0 where
  pub more : (tail : List Edit) → AreEdits left tail → AreEdits whole (done ++ tail)
  pub back : (edits : List Edit) → AreEdits whole edits → (tail : List Edit) × (edits ≡ done ++ tail) × AreEdits left tail

pub no_edits : (whole : List (List ℕ)) → HasEdits whole whole []
no_edits whole = record { more = λ tail h. h; back = λ edits h. (edits, refl, h) }

pub edits_more : (whole left rest : List (List ℕ)) (done : List Edit) (edit : Edit) → HasEdits whole left done → IsEdit left edit (codes ";" ∷ rest) → HasEdits whole rest (done ++ edit ∷ [])
edits_more whole left rest done edit h is = record {
  more = λ tail k. subst (AreEdits whole) (sym (append_assoc done (edit ∷ []) tail)) (h.more (edit ∷ tail) (with_first tail k));
  back = λ edits k. let old = h.back edits k in let new = without_first old.0 old.2 in (new.0, old.1 ∙ ap (λ es. done ++ es) new.1 ∙ sym (append_assoc done (edit ∷ []) new.0), new.2);
}
  where
    with_first : (tail : List Edit) → AreEdits rest tail → AreEdits left (edit ∷ tail)
    with_first [] k = absurd k
    with_first (next ∷ tail) k = (rest, is, k)

    without_first : (edits : List Edit) → AreEdits left edits → (tail : List Edit) × (edits ≡ edit ∷ tail) × AreEdits rest tail
    without_first [] k = absurd k
    without_first (e ∷ []) k = absurd (no_end (codes ";") rest (edit_same left e edit [] (codes ";" ∷ rest) k is).1)
    without_first (e ∷ next ∷ edits) k =
        let first = edit_same left e edit (codes ";" ∷ k.0) (codes ";" ∷ rest) k.1 is in
        (next ∷ edits, ap (λ x. x ∷ next ∷ edits) first.0, subst (λ ts. AreEdits ts (next ∷ edits)) (same_tail (codes ";") (codes ";") k.0 rest first.1) k.2)

-- the same, where the edit was put behind the first ones
pub edits_on : (whole left after rest : List (List ℕ)) (token : List ℕ) (done now : List Edit) (edit : Edit) → HasEdits whole left done → IsEdit left edit after → after ≡ token ∷ rest → token ≡ codes ";" → now ≡ done ++ edit ∷ [] → HasEdits whole rest now
edits_on whole left after rest token done now edit h is e parted more =
    subst (HasEdits whole rest) (sym more) (edits_more whole left rest done edit h (subst (λ ts. IsEdit left edit ts) (e ∙ ap (λ t. t ∷ rest) parted) is))

pub edits_end : (whole left after : List (List ℕ)) (done : List Edit) (edit : Edit) → HasEdits whole left done → IsEdit left edit after → after ≡ [] → AreEdits whole (done ++ edit ∷ [])
edits_end whole left after done edit h is e = h.more (edit ∷ []) (subst (λ ts. IsEdit left edit ts) e is)

-- no edit stands behind the first ones
pub edits_none : (whole left : List (List ℕ)) (done : List Edit) → HasEdits whole left done → ((edit : Edit) (after : List (List ℕ)) → IsEdit left edit after → ⊥) → (edits : List Edit) → AreEdits whole edits → ⊥
edits_none whole left done h none edits k = let old = h.back edits k in begins old.0 old.2
  where
    begins : (tail : List Edit) → AreEdits left tail → ⊥
    begins [] k = k
    begins (e ∷ []) k = none e [] k
    begins (e ∷ next ∷ tail) k = none e (codes ";" ∷ k.0) k.1

-- another token than `;` stands behind an edit
pub edits_other : (whole left after rest : List (List ℕ)) (token : List ℕ) (done : List Edit) (edit : Edit) → HasEdits whole left done → IsEdit left edit after → after ≡ token ∷ rest → token ≢ codes ";" → (edits : List Edit) → AreEdits whole edits → ⊥
edits_other whole left after rest token done edit h is e other edits k = let old = h.back edits k in begins old.0 old.2
  where
    begins : (tail : List Edit) → AreEdits left tail → ⊥
    begins [] k = k
    begins (x ∷ []) k = no_end token rest (sym (edit_same left edit x after [] is k).1 ∙ e)
    begins (x ∷ next ∷ tail) k = other (same_head token (codes ";") rest k.0 (sym e ∙ (edit_same left edit x after (codes ";" ∷ k.0) is k.1).1))

-- ---- openings

opened_by : (word : CallWord) (values : Values (call_fields word)) (behind : List (List ℕ)) (number limit : ℕ) (mode : OpenMode) → Reads behind (call_fields word) values [] → Call.Open number mode limit ≡ call_of word values → IsLimit limit
opened_by calls.Open values behind number limit mode reads e =
    let spelled = reads.2.2.1.spelled in
    let same : limit ≡ values.1.1.0 = ap limit_in e in
    subst IsLimit (sym same) spelled.2.1
  where
    limit_in : Call → ℕ
    limit_in (Call.Open number mode limit) = limit
    limit_in call = 0
opened_by calls.Close values behind number limit mode reads e = absurd cc
opened_by calls.Discard values behind number limit mode reads e = absurd cc
opened_by (calls.Ask query) values behind number limit mode reads e = absurd cc

opens_no_group : (number limit : ℕ) (mode : OpenMode) (edits : List Edit) → Call.Open number mode limit ≡ Call.Edit edits → ⊥
opens_no_group number limit mode edits e = cc

-- what a line opens has a limit
pub opening_limit : (line : List ℕ) (number limit : ℕ) (mode : OpenMode) → IsLine line (Call.Open number mode limit) → IsLimit limit
opening_limit line number limit mode h =
    elim h.call_is [
      | inl plain ↦ opened_by plain.word plain.values plain.behind number limit mode plain.reads plain.made_is
      | inr group ↦ absurd (opens_no_group number limit mode group.0 group.4)
    ]

-- ---- reading a line

pub err_same : {A : Type 0} (one other : AdfError) → ◌≡◌ {A = Result A AdfError} (Err one) (Err other) → one ≡ other
err_same one other e = cc

pub group_none : (left : List (List ℕ)) (call : Call) → ((edits : List Edit) → AreEdits left edits → ⊥) → IsGroupCall (group_word ∷ left) call → ⊥
group_none left call none h = none h.0 (subst (λ ts. AreEdits ts h.0) (sym (same_tail group_word group_word left h.1 h.2)) h.3)

pub call_no_fields : (before behind : List (List ℕ)) (word : CallWord) (token : List ℕ) (error : AdfError) → before ≡ token ∷ behind → token ≡ call_word word → IsNoRead (call_fields word) behind error → error ≡ Syntax → (call : Call) (after : List (List ℕ)) → Makes call_word call_fields call_of before call after → ⊥
call_no_fields = makes_no_fields call_word call_fields call_of call_apart

-- a call of all tokens
pub call_whole : (left after : List (List ℕ)) (word : CallWord) (call : Call) → IsMadeRead (call_fields word) (call_of word) left (Ok call) after → after ≡ [] → IsPlainCall (call_word word ∷ left) call
call_whole left after word call h e = makes call_word call_fields call_of (call_word word ∷ left) left [] word (call_word word) call refl refl (subst (λ ts. IsMadeRead (call_fields word) (call_of word) left (Ok call) ts) e h)

-- a call with a token behind it
pub call_more : (left after rest : List (List ℕ)) (token : List ℕ) (word : CallWord) (call other : Call) → IsMadeRead (call_fields word) (call_of word) left (Ok call) after → after ≡ token ∷ rest → IsPlainCall (call_word word ∷ left) other → ⊥
call_more left after rest token word call other h e k =
    let is = makes call_word call_fields call_of (call_word word ∷ left) left after word (call_word word) call refl refl h in
    no_end token rest (sym (makes_same call_word call_fields call_of call_apart (call_word word ∷ left) call other after [] is k).1 ∙ e)

-- no token
pub no_tokens : (tokens : List (List ℕ)) (call : Call) → tokens ≡ [] → AreTokens tokens call → ⊥
no_tokens tokens call e h =
    elim h [
      | inl plain ↦ no_end (call_word plain.word) plain.behind (sym e ∙ plain.word_is)
      | inr group ↦ no_end group_word group.1 (sym e ∙ group.2)
    ]

-- the word of a group
pub group_found : (tokens left : List (List ℕ)) (token : List ℕ) (r : Result Call AdfError) → tokens ≡ token ∷ left → token ≡ group_word → IfOk r (IsGroupCall (group_word ∷ left)) → IfOk r (AreTokens tokens)
group_found tokens left token (Ok call) e is h = inr (subst (λ ts. IsGroupCall ts call) (sym (e ∙ ap (λ t. t ∷ left) is)) h)
group_found tokens left token (Err error) e is h = h

pub group_only : (tokens left : List (List ℕ)) (token : List ℕ) (call : Call) → tokens ≡ token ∷ left → token ≡ group_word → (IsGroupCall (group_word ∷ left) call → ⊥) → AreTokens tokens call → ⊥
group_only tokens left token call e is none h =
    let all : tokens ≡ group_word ∷ left = e ∙ ap (λ t. t ∷ left) is in
    elim h [
      | inl plain ↦ group_apart plain.word (same_head group_word (call_word plain.word) left plain.behind (sym all ∙ plain.word_is))
      | inr group ↦ none (subst (λ ts. IsGroupCall ts call) all group)
    ]

-- the word of another call
pub call_found : (tokens left : List (List ℕ)) (token : List ℕ) (word : CallWord) (r : Result Call AdfError) → tokens ≡ token ∷ left → token ≡ call_word word → IfOk r (IsPlainCall (call_word word ∷ left)) → IfOk r (AreTokens tokens)
call_found tokens left token word (Ok call) e is h = inl (subst (λ ts. IsPlainCall ts call) (sym (e ∙ ap (λ t. t ∷ left) is)) h)
call_found tokens left token word (Err error) e is h = h

pub call_only : (tokens left : List (List ℕ)) (token : List ℕ) (word : CallWord) (call : Call) → tokens ≡ token ∷ left → token ≡ call_word word → (IsPlainCall (call_word word ∷ left) call → ⊥) → AreTokens tokens call → ⊥
call_only tokens left token word call e is none h =
    let all : tokens ≡ call_word word ∷ left = e ∙ ap (λ t. t ∷ left) is in
    elim h [
      | inl plain ↦ none (subst (λ ts. IsPlainCall ts call) all plain)
      | inr group ↦ group_apart word (same_head group_word (call_word word) group.1 left (sym group.2 ∙ all))
    ]

-- no word
pub no_word : (tokens left : List (List ℕ)) (token : List ℕ) (call : Call) → tokens ≡ token ∷ left → token ≢ group_word → ((word : CallWord) → token ≢ call_word word) → AreTokens tokens call → ⊥
no_word tokens left token call e other none h =
    elim h [
      | inl plain ↦ none plain.word (same_head token (call_word plain.word) left plain.behind (sym e ∙ plain.word_is))
      | inr group ↦ other (same_head token group_word left group.1 (sym e ∙ group.2))
    ]

-- ---- reading an edit

pub edit_found : (before behind after : List (List ℕ)) (word : EditWord) (token : List ℕ) (r : Result Edit AdfError) → before ≡ token ∷ behind → token ≡ edit_word word → IsMadeRead (edit_fields word) (edit_of word) behind r after → IfOk r (λ edit. IsEdit before edit after)
edit_found before behind after word token (Ok edit) e is h = edit_makes before behind after word token edit e is h
edit_found before behind after word token (Err error) e is h = tt

pub edit_missing : (before behind after : List (List ℕ)) (word : EditWord) (token : List ℕ) (r : Result Edit AdfError) → before ≡ token ∷ behind → token ≡ edit_word word → IsMadeRead (edit_fields word) (edit_of word) behind r after
    → r ≡ Err Syntax → (edit : Edit) (last : List (List ℕ)) → IsEdit before edit last → ⊥
edit_missing before behind after word token (Ok made) e is h error = absurd cc
edit_missing before behind after word token (Err given) e is h error = edit_no_fields before behind word token given e is h (err_same given Syntax error)

pub edit_why : (behind after : List (List ℕ)) (word : EditWord) (r : Result Edit AdfError) → IsMadeRead (edit_fields word) (edit_of word) behind r after → IfErr r IsRefusal
edit_why behind after word (Ok edit) h = tt
edit_why behind after word (Err error) h = h.why

-- an edit takes a token
pub edit_shorter : (before after : List (List ℕ)) (edit : Edit) → IsEdit before edit after → length after < length before
edit_shorter before after edit h =
    let less : length after ≤ length h.behind = reads_shorter (edit_fields h.word) h.behind after h.values h.reads in
    let all : length before ≡ suc (length h.behind) = ap length h.word_is in
    omega (arith, less, all)
  where
    reads_shorter : (kinds : List Kind) (before after : List (List ℕ)) (values : Values kinds) → Reads before kinds values after → length after ≤ length before
    reads_shorter [] before after values h = omega (arith, ap length h)
    reads_shorter (kind ∷ kinds) before after values h = omega (arith, reads_shorter kinds h.0 after values.1 h.2, ap length h.1.split, length-append h.1.tokens h.0)
