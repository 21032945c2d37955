use Rattle.painting.specs.Laid.{Laid}
use Rattle.painting.proofs.Laying.{in_rows}
use Rattle.painting.proofs.lay.lay_figure.Given as goal

abbrev pub invariant-loop-row : goal.invariant-loop-row
invariant-loop-row g l = Laid (in_rows l.font.rows l.f l.row) l.ink.value (g.S.Surface.view l.initial.surface) (g.S.Surface.view l.surface)
