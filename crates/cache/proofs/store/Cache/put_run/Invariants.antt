use Rattle.std.proofs.Common.{◌+◌, ◌*◌, min, cond, ◌&&◌, eqb, ltb, leb, Some, None}
use Rattle.cache.specs.Cached.{cached}
use Rattle.handing.specs.Given.{Given}
use Rattle.cache.proofs.store.Cache.put_run.Given as goal

abbrev pub invariant-loop-column : goal.invariant-loop-column
invariant-loop-column g l = Given (λ u v. cond ((leb l.x u && ltb u (min (l.x + l.n) (16 * l.column))) && eqb v l.y) (Some l.ink.value) None) (cached l.initial.self.slots (g.S.Surface.view l.initial.self.below)) (cached l.self.slots (g.S.Surface.view l.self.below))
