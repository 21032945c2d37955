use Rattle.std.proofs.Common.{◌≡◌, length}
use Rattle.painting.specs.Drawing.{topmost, shape_ink}
use Rattle.painting.specs.Scenes.{drawing}
use Rattle.painting.proofs.scene.Scene.ink_at.Given as goal

abbrev pub invariant-loop-number : goal.invariant-loop-number
invariant-loop-number l = l.ink ≡ topmost (λ n. shape_ink (drawing l.self) l.x l.y ((drawing l.self).shapes n) n) 0 (length l.yielded)
