use Rattle.std.proofs.Common.{◌≡◌, length}
use Rattle.painting.specs.Drawing.{topmost, span_ink}
use Rattle.painting.specs.Scenes.{drawing}
use Rattle.painting.proofs.scene.Scene.ruling_ink.Given as goal

abbrev pub invariant-loop-span : goal.invariant-loop-span
invariant-loop-span l = l.ink.value ≡ topmost (λ s. span_ink ((drawing l.self).spans s) l.number l.self.frame) l.initial.ink.value (length l.yielded)
