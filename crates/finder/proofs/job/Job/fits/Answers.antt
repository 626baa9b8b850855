use mathlib.Core.Bool.{not}
use mathlib.Core.Path.{sym, ◌∙◌, ap}
use Rattle.finder.proofs.Searches.{sizes_out}
use borrow.Author.Tests.{not-false}
use Rattle.finder.proofs.job.Job.fits.Goals as goal

pub planes_given-requires : goal.planes_given-requires
planes_given-requires c =
    let j = c.args.self.now in
    let z = sizes_out j.n j.graph.now j.measured.now c.args.work.now c.args.layers.now c.args.sets.now (sym c.sizes_fit.ensures ∙ not-false _ (ap not c.if-not-sizes_fit.false)) in
    (z.nodes, z.given)
