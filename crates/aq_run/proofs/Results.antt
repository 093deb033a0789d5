-- What is said of results, by whether they are Ok.
use Rattle.std.proofs.Common.{◌≡◌, Result, sym, subst}
use Rattle.std.specs.Prelude.{Ok, Err, OnErr, OnOk, IfErr}
use Rattle.std.specs.Result.{IsErrAnd}

pub on_err : {T E : Type 0} {P : Type 0} (r : Result T E) → P → OnErr r P
on_err (Ok x) p = _
on_err (Err e) p = p

pub ok_from : {T E : Type 0} {P Q : Type 0} (r : Result T E) → OnOk r P → (P → Q) → OnOk r Q
ok_from (Ok x) p f = f p
ok_from (Err e) p f = _

pub err_from : {T E : Type 0} {P Q : Type 0} (r : Result T E) → OnErr r P → (P → Q) → OnErr r Q
err_from (Ok x) p f = _
err_from (Err e) p f = f p

-- an error that is passed on is the one that it was
pub err_of : {T E : Type 0} (P : E → Type 0) (r : Result T E) (e : E) → IsErrAnd r (λ y. y ≡ e) → P e → IfErr r P
err_of P (Ok x) e is p = absurd is
err_of P (Err y) e is p = subst P (sym is) p
