-- What answers of calls in a row say, and why they are refused.
use Rattle.std.specs.Prelude.{Result, Ok, Err, OnOk, IfOk}
use Rattle.std.proofs.Common.{◌≡◌, subst}
use Rattle.adf_model.specs.declared.error.AdfError.{AdfError}
pub use Rattle.cg_io.proofs.ReadLaws.{refused_for, all_refused_for}

pub on_ok : {T P Q : Type 0} (r : Result T AdfError) → (P → Q) → OnOk r P → OnOk r Q
on_ok (Ok x) f h = f h
on_ok (Err e) f h = h

pub if_ok : {T E : Type 0} {P Q : T → Type 0} (r : Result T E) → ((x : T) → P x → Q x) → IfOk r P → IfOk r Q
if_ok (Ok x) f h = f x h
if_ok (Err e) f h = h

-- what two clauses say of an answer
pub if_both : {T E : Type 0} {P Q R : T → Type 0} (r : Result T E) → ((x : T) → P x → Q x → R x) → IfOk r P → IfOk r Q → IfOk r R
if_both (Ok x) f p q = f x p q
if_both (Err e) f p q = p

-- what was made is answered
pub or_made : {T E F : Type 0} (P : T → Type 0) (made : Result T E) (r : Result T F) → IfOk r (λ x. made ≡ Ok x) → IfOk made P → IfOk r P
or_made P made (Ok x) e h = subst (λ m. IfOk m P) e h
or_made P made (Err f) e h = e
