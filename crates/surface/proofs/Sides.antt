-- Pictures with the same sides have the same pixels. Assumes nothing.
use Rattle.std.proofs.Common.{ℕ, refl, ◌∙◌, arith}
use Rattle.surface.specs.Picture.{Picture, On, SameSides}

pub same_again : (p : Picture) → SameSides p p
same_again p = record { wide = refl; high = refl }

pub sides_then : (p q r : Picture) → SameSides p q → SameSides q r → SameSides p r
sides_then p q r a b = record { wide = b.wide ∙ a.wide; high = b.high ∙ a.high }

pub on_again : (p q : Picture) (u v : ℕ) → SameSides p q → On p u v → On q u v
on_again p q u v s o = record { column = omega (arith, s.wide, o.column); row = omega (arith, s.high, o.row) }

pub on_back : (p q : Picture) (u v : ℕ) → SameSides p q → On q u v → On p u v
on_back p q u v s o = record { column = omega (arith, s.wide, o.column); row = omega (arith, s.high, o.row) }
