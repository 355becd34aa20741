-- What is read field by field, and what is then made of the fields.
use Rattle.std.proofs.Common.{◌≡◌, ◌≢◌, ℕ, List, [], ◌∷◌, ◌++◌, refl, sym, ◌∙◌, ap, subst, inl, Result, Ok, Err, Option, Some, None, IfOk, IfErr}
use Rattle.std.specs.Prelude.{IsErrAnd}
use Rattle.adf_model.specs.declared.error.AdfError.{AdfError}
use Rattle.adf_model.specs.declared.error.AdfError.TheVariants.{Syntax}
use Rattle.call_script.specs.Causes.{IsRefusal}
use Rattle.call_script.specs.Fields.{Kind, Value, Values, IsOne, Spells, Takes, Reads, IsNoRead, IsFieldRead, IsMadeRead}
use Rattle.call_script.specs.Lines.{Makes}
use Rattle.call_script.proofs.FieldLaws.{same_head, takes_same, reads_same}

-- an error that was passed on
pub ended_by : {T E : Type 0} (r : Result T E) (error : E) → IsErrAnd r (λ e. e ≡ error) → r ≡ Err error
ended_by (Ok x) error is = absurd is
ended_by (Err e) error is = ap Err is

-- a text that is not there
pub no_text : (o : Option (List ℕ)) (text : List ℕ) → o ≡ None → o ≡ Some text → ⊥
no_text o text e h = cc

-- ---- one field

-- a field of one token
pub took : (kind : Kind) (value : Value kind) (before after : List (List ℕ)) (token : List ℕ) → before ≡ token ∷ after → Spells kind (token ∷ []) value → Takes before kind value after
took kind value before after token e spelled = record { tokens = token ∷ []; split = e; spelled = spelled }

-- no token is left, and each such field has one
pub none_left : (kind : Kind) (before : List (List ℕ)) → ((tokens : List (List ℕ)) (value : Value kind) → Spells kind tokens value → tokens ≢ []) → before ≡ [] → (error : AdfError) → error ≡ Syntax → IsNoRead (kind ∷ []) before error
none_left kind before some e error is = record {
  why = inl is;
  none = λ _ values after h. some h.1.tokens values.0 h.1.spelled (empty h.1.tokens h.0 (sym h.1.split ∙ e));
}
  where
    empty : (front back : List (List ℕ)) → front ++ back ≡ [] → front ≡ []
    empty [] back e = refl
    empty (x ∷ front) back e = absurd cc

-- a field of a token has one
pub one_some : (P : List ℕ → Type 0) (tokens : List (List ℕ)) → IsOne P tokens → tokens ≢ []
one_some P tokens h e = absurd (empty h.0 (sym h.1 ∙ e))
  where
    empty : (token : List ℕ) → token ∷ [] ≡ [] → ⊥
    empty token e = cc

-- the token is none of such a field
pub none_spelled : (kind : Kind) (P : Value kind → List ℕ → Type 0) (before after : List (List ℕ)) (token : List ℕ) → ((tokens : List (List ℕ)) (value : Value kind) → Spells kind tokens value → IsOne (P value) tokens)
    → before ≡ token ∷ after → (error : AdfError) → IsRefusal error → (error ≡ Syntax → (value : Value kind) → P value token → ⊥) → IsNoRead (kind ∷ []) before error
none_spelled kind P before after token is_one e error why none = record {
  why = why;
  none = λ is values last h.
      let one = is_one h.1.tokens values.0 h.1.spelled in
      let all : token ∷ after ≡ one.0 ∷ h.0 = sym e ∙ h.1.split ∙ ap (λ t. t ++ h.0) one.1 in
      none is values.0 (subst (P values.0) (sym (same_head token one.0 after h.0 all)) one.2);
}

-- a field of one token, from what reading the token says
pub read_one : (kind : Kind) (P : Value kind → List ℕ → Type 0) → ((tokens : List (List ℕ)) (value : Value kind) → Spells kind tokens value → IsOne (P value) tokens) → ((token : List ℕ) (value : Value kind) → P value token → Spells kind (token ∷ []) value)
    → (before after : List (List ℕ)) (token : List ℕ) → before ≡ token ∷ after
    → (r : Result (Value kind) AdfError) → IfOk r (λ value. P value token) → (r ≡ Err Syntax → (value : Value kind) → P value token → ⊥) → IfErr r IsRefusal → IsFieldRead kind before r after
read_one kind P is_one of_one before after token e (Ok value) found none why = took kind value before after token e (of_one token value found)
read_one kind P is_one of_one before after token e (Err error) found none why = none_spelled kind P before after token is_one e error why (λ is value p. none (ap Err is) value p)

-- ---- many

-- a first field is not there
pub fails_here : (kind : Kind) (kinds : List Kind) (before : List (List ℕ)) (error : AdfError) → IsNoRead (kind ∷ []) before error → IsNoRead (kind ∷ kinds) before error
fails_here kind kinds before error h = record {
  why = h.why;
  none = λ is values after k. h.none is (values.0, tt) k.0 (k.0, k.1, refl);
}

-- a first field is there, and a later one is not
pub fails_later : (kind : Kind) (kinds : List Kind) (before middle : List (List ℕ)) (value : Value kind) (error : AdfError) → Takes before kind value middle → IsNoRead kinds middle error → IsNoRead (kind ∷ kinds) before error
fails_later kind kinds before middle value error took h = record {
  why = h.why;
  none = λ is values after k.
      let same = takes_same kind before value values.0 middle k.0 took k.1 in
      h.none is values.1 after (subst (λ m. Reads m kinds values.1 after) (sym same.1) k.2);
}

-- what is made of the fields behind a first one is made of all of them
pub behind : {Made : Type 0} (kind : Kind) (kinds : List Kind) (made : Values (kind ∷ kinds) → Made) (before middle after : List (List ℕ)) (value : Value kind) (r : Result Made AdfError)
    → Takes before kind value middle → IsMadeRead kinds (λ values. made (value, values)) middle r after → IsMadeRead (kind ∷ kinds) made before r after
behind kind kinds made before middle after value (Ok part) took h = ((value, h.0), h.1, (middle, took, h.2))
behind kind kinds made before middle after value (Err error) took h = fails_later kind kinds before middle value error took h

-- the same of what is made of the made
pub made_of : {Part Made : Type 0} (kinds : List Kind) (made : Values kinds → Made) (made_part : Values kinds → Part) (lift : Part → Made) (before after : List (List ℕ)) (part : Part)
    → IsMadeRead kinds made_part before (Ok part) after → ((values : Values kinds) → lift (made_part values) ≡ made values) → IsMadeRead kinds made before (Ok (lift part)) after
made_of kinds made made_part lift before after part h is = (h.0, ap lift h.1 ∙ is h.0, h.2)

-- ---- words

module _ {Word Made : Type 0} (spelling : Word → List ℕ) (fields : Word → List Kind) (made_by : (word : Word) → Values (fields word) → Made) where
  abbrev MakesSo : List (List ℕ) → Made → List (List ℕ) → Type 0
  MakesSo before made after = Makes spelling fields made_by before made after

  -- what a word and its fields make
  pub makes : (before behind after : List (List ℕ)) (word : Word) (token : List ℕ) (made : Made) → before ≡ token ∷ behind → token ≡ spelling word → IsMadeRead (fields word) (made_by word) behind (Ok made) after → MakesSo before made after
  makes before behind after word token made e is h = record { word = word; values = h.0; behind = behind; word_is = e ∙ ap (λ t. t ∷ behind) is; reads = h.2; made_is = h.1 }

  -- the tokens begin with no such word
  pub makes_none : (before behind : List (List ℕ)) (token : List ℕ) → before ≡ token ∷ behind → ((word : Word) → token ≢ spelling word) → (made : Made) (after : List (List ℕ)) → MakesSo before made after → ⊥
  makes_none before behind token e none made after h = none h.word (same_head token (spelling h.word) behind h.behind (sym e ∙ h.word_is))

  pub makes_left : (before : List (List ℕ)) → before ≡ [] → (made : Made) (after : List (List ℕ)) → MakesSo before made after → ⊥
  makes_left before e made after h = empty (sym e ∙ h.word_is)
    where
      empty : [] ≡ spelling h.word ∷ h.behind → ⊥
      empty e = cc

  -- words are told by their spelling
  module _ (apart : (one other : Word) → spelling one ≡ spelling other → one ≡ other) where
    same_word : (before behind : List (List ℕ)) (word : Word) (made : Made) (after : List (List ℕ)) → before ≡ spelling word ∷ behind → (h : MakesSo before made after) → (word ≡ h.word) × (behind ≡ h.behind)
    same_word before behind word made after e h =
        let all : spelling word ∷ behind ≡ spelling h.word ∷ h.behind = sym e ∙ h.word_is in
        (apart word h.word (same_head (spelling word) (spelling h.word) behind h.behind all), same_rest (spelling word) (spelling h.word) behind h.behind all)
      where
        same_rest : (x y : List ℕ) (xs ys : List (List ℕ)) → x ∷ xs ≡ y ∷ ys → xs ≡ ys
        same_rest x y xs ys e = cc

    -- the fields of this word are read in all that these tokens make
    read_by : (before behind : List (List ℕ)) (word : Word) (made : Made) (after : List (List ℕ)) → before ≡ spelling word ∷ behind → MakesSo before made after
        → (values : Values (fields word)) × Reads behind (fields word) values after × (made ≡ made_by word values)
    read_by before behind word made after e h =
        let same = same_word before behind word made after e h in
        subst (λ w. (values : Values (fields w)) × Reads behind (fields w) values after × (made ≡ made_by w values)) (sym same.0)
        (h.values, subst (λ b. Reads b (fields h.word) h.values after) (sym same.1) h.reads, h.made_is)

    -- the fields of this word are not there
    pub makes_no_fields : (before behind : List (List ℕ)) (word : Word) (token : List ℕ) (error : AdfError) → before ≡ token ∷ behind → token ≡ spelling word → IsNoRead (fields word) behind error
        → error ≡ Syntax → (made : Made) (after : List (List ℕ)) → MakesSo before made after → ⊥
    makes_no_fields before behind word token error e is none syntax made after h =
        let read = read_by before behind word made after (e ∙ ap (λ t. t ∷ behind) is) h in
        none.none syntax read.0 after read.1

    -- tokens make one thing at most, and leave the same
    pub makes_same : (before : List (List ℕ)) (one other : Made) (x y : List (List ℕ)) → MakesSo before one x → MakesSo before other y → (one ≡ other) × (x ≡ y)
    makes_same before one other x y h k =
        let read = read_by before h.behind h.word other y h.word_is k in
        let same = reads_same (fields h.word) h.behind x y h.values read.0 h.reads read.1 in
        (h.made_is ∙ ap (made_by h.word) same.0 ∙ sym read.2, same.1)
