-- Laws of Option and Result as code meets them: what `ok_or` gave, and what the exit of a `?` returns.
-- Assumes nothing.
use Rattle.std.specs.Prelude.{Option, Result, Some, None, Ok, Err, ok_or, IsErrAnd}
use mathlib.Core.Path.{◌≡◌, refl, ap}

-- what `o.ok_or(e)` says of o
pub or-given : {A E : Type 0} (o : Option A) (e : E) {x : A} → Ok x ≡ ok_or o e → o ≡ Some x
or-given None e h = cc
or-given (Some y) e h = cc

pub or-refused : {A E : Type 0} (o : Option A) (e : E) {f : E} → Err f ≡ ok_or o e → (o ≡ None) × (f ≡ e)
or-refused None e h = (refl, cc)
or-refused (Some y) e h = absurd cc

-- what the exit of a `?` returns, where the error is passed on as it is
pub exit-is : {T E : Type 0} (r : Result T E) {e : E} → IsErrAnd r (λ y. y ≡ e) → r ≡ Err e
exit-is (Ok x) h = absurd h
exit-is (Err y) h = ap Err h
