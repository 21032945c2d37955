use Rattle.painting.specs.Laid.{Laid}
use Rattle.painting.proofs.Laying.{in_columns}
use Rattle.painting.proofs.lay.lay_row.Given as goal

abbrev pub invariant-loop-column : goal.invariant-loop-column
invariant-loop-column g l = Laid (in_columns l.font.rows l.f l.row l.column) l.ink.value (g.S.Surface.view l.initial.surface) (g.S.Surface.view l.surface)
