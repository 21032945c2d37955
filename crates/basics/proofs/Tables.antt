-- Tables in which nothing may stand at a place. Assumes nothing.
use Rattle.std.proofs.Common.{◌≡◌, ℕ, zero, suc, Bool, true, false, cond, get_or, replicate, None, Option, refl}
use Rattle.std.specs.Option.{option_map}

pub nothing_read : {A : Type 0} (n k : ℕ) → get_or {A = Option A} (replicate n None) k None ≡ None
nothing_read zero k = refl
nothing_read (suc n) zero = refl
nothing_read (suc n) (suc k) = nothing_read n k

pub mapped_cond : {A B : Type 0} (f : A → B) (b : Bool) (x y : Option A) → option_map f (cond b x y) ≡ cond b (option_map f x) (option_map f y)
mapped_cond f true x y = refl
mapped_cond f false x y = refl
