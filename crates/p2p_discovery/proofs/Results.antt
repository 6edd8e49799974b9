-- Results whose variant isn't known.
use Rattle.std.proofs.Common.{Result, Ok, Err}
use Rattle.std.specs.Result.{IfOk, OnErr}

module _ {T E : Type 0} where
  pub OnErr-from : {P : Type 0} (r : Result T E) → P → OnErr r P
  OnErr-from (Ok x) p = tt
  OnErr-from (Err e) p = p

  pub IfOk-both : (r : Result T E) (P Q R : T → Type 0) → ((x : T) → P x → Q x → R x) →
      IfOk r P → IfOk r Q → IfOk r R
  IfOk-both (Ok x) P Q R f p q = f x p q
  IfOk-both (Err e) P Q R f p q = tt
