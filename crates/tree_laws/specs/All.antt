-- All laws of trees over a kind of extents, which is given by its size, its join and what covers what. Assumes nothing.
use Rattle.std.specs.Prelude.{Bool, ℕ}
use Rattle.guttman.specs.Laws.{InsertionKeeps, ChoiceSoonest, FindingMissesNone, HalfAsManyNodes, FiveDeep, DeletionKeeps, DeletionAnswers, CutHalfway}

pub record TreeLaws {E : Type 0} (size : E → ℕ) (join : E → E → E) (covering : E → E → Bool) : Type 0 where
  pub insertion : InsertionKeeps size join covering
  pub choice : ChoiceSoonest size join
  pub finding : FindingMissesNone covering
  pub rows : HalfAsManyNodes E
  pub depth : FiveDeep E
  pub deletion : DeletionKeeps size join covering
  pub answers : DeletionAnswers size join covering
  pub halfway : CutHalfway covering
