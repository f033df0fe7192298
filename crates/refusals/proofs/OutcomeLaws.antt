-- What was refused was not done, and the other way round. Assumes nothing.
use Rattle.std.proofs.Common.{◌≡◌, refl, sym, subst, IsOk, IsErr, Ok, Err}
use mathlib.Core.Bool.{true≢false}

pub not-err-ok : {A E : Type 0} {r : E} {x : A} → Err r ≡ Ok x → ⊥
not-err-ok e = true≢false (sym (subst IsErr e refl))

pub not-ok-err : {A E : Type 0} {r : E} {x : A} → Ok x ≡ Err r → ⊥
not-ok-err e = true≢false (sym (subst IsOk e refl))
