-- What is said of results, by whether they are Ok.
use Rattle.std.proofs.Common.{◌≡◌, ◌++◌, List, [], ◌∷◌, All, Option, Some, None, Result, refl, subst, sym}
use Rattle.std.proofs.lemmas.List.Elements.{All-push}
use Rattle.std.specs.Prelude.{Ok, Err, OnErr, OnOk, IfSome}

pub on_err : {T E : Type 0} {P : Type 0} (r : Result T E) → P → OnErr r P
on_err (Ok x) p = _
on_err (Err e) p = p

pub on_ok : {T E : Type 0} {P : Type 0} (r : Result T E) → P → OnOk r P
on_ok (Ok x) p = p
on_ok (Err e) p = _

pub ok_from : {T E : Type 0} {P Q : Type 0} (r : Result T E) → OnOk r P → (P → Q) → OnOk r Q
ok_from (Ok x) p f = f p
ok_from (Err e) p f = _

pub err_from : {T E : Type 0} {P Q : Type 0} (r : Result T E) → OnErr r P → (P → Q) → OnErr r Q
err_from (Ok x) p f = _
err_from (Err e) p f = f p

pub if_some : {T : Type 0} {P : T → Type 0} (o : Option T) → ((x : T) → o ≡ Some x → P x) → IfSome o P
if_some None p = _
if_some (Some x) p = p x refl

pub of_some : {T : Type 0} (P : T → Type 0) (o : Option T) (x : T) → o ≡ Some x → IfSome o P → P x
of_some P o x e p = subst (λ o. IfSome o P) e p

pub some_of : {T : Type 0} (P : T → Type 0) (o : Option T) (x : T) → o ≡ Some x → P x → IfSome o P
some_of P o x e p = subst (λ o. IfSome o P) (sym e) p

-- what holds of each item holds behind a push, whether it found memory or not
pub all_pushed : {T E : Type 0} {X : Type 0} (P : X → Type 0) (r : Result T E) (old new : List X) (x : X) → OnOk r (new ≡ old ++ x ∷ []) → OnErr r (new ≡ old) → All P old → P x → All P new
all_pushed P (Ok y) old new x ok err all one = subst (All P) (sym ok) (All-push P old x all one)
all_pushed P (Err e) old new x ok err all one = subst (All P) (sym err) all
