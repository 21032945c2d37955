use mathlib.Core.Path.{refl}
use Rattle.guttman.specs.Laws.{Joining}
use Rattle.guttman.proofs.Laws.{insertion_keeps, choice_soonest, finding_misses_none, half_as_many_nodes, five_nodes_deep}
use Rattle.guttman.proofs.Deleting.{cut_halfway, deletion_keeps, deletion_answers}
use Rattle.tree_laws.proofs.tree_laws.Goals as goal

pub returns : goal.returns
returns g c =
    let m = g.met.M.Extent in
    let size = g.M.Measured.measure in
    let join = g.M.Extent.joined in
    let covering = g.M.Extent.covering in
    let laws : Joining join covering = record { reflexive = m.reflexive; transitive = m.transitive; left = m.above_left; right = m.above_right; least = m.least } in
    record {
      laws = record {
        insertion = insertion_keeps size join covering laws;
        choice = choice_soonest size join;
        finding = finding_misses_none covering;
        rows = half_as_many_nodes _;
        depth = five_nodes_deep _;
        deletion = deletion_keeps size join covering laws;
        answers = deletion_answers size join covering laws m.antisymmetric;
        halfway = cut_halfway covering;
      };
      count = refl;
    }
