-- What a caller of read and write learns.
use Rattle.std.specs.Prelude.{◌≡◌, ℕ, Some, None, Ok, Err, Option, Result, ◌≢◌}
use Rattle.std.proofs.Common.{arith}
use Rattle.faults.specs.declared.PileFault.{PileFault}

pub err_ok : {X : Type 0} {f : PileFault} {x : X} → ◌≡◌ {A = Result X PileFault} (Err f) (Ok x) → ⊥
err_ok e = let z : ◌≡◌ {A = ℕ} 0 1 = cc in omega arith

pub err_same : {X : Type 0} {f h : PileFault} → ◌≡◌ {A = Result X PileFault} (Err f) (Err h) → f ≡ h
err_same e = cc

pub ok_same : {X : Type 0} {x y : X} → ◌≡◌ {A = Result X PileFault} (Ok x) (Ok y) → x ≡ y
ok_same e = cc

pub some-none : {X : Type 0} {o : Option X} {x : X} → o ≡ Some x → o ≢ None
some-none p q = let z : ◌≡◌ {A = ℕ} 0 1 = cc in omega arith
